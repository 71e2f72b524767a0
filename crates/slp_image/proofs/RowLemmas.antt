-- The meaning of the example images, by computation.
use Rattle.std.proofs.Common.{refl}
use Rattle.slp_model.specs.Nodes.{tree, trees}
use Rattle.slp_image.specs.Fields.{child_at, children_at}
use Rattle.slp_image.specs.Image.{image, version_at, version_of, contents, documents_of, document_at, name_at, root_at, node_at, node_pair, byte_record, text_at, text_pair, text_run}
use Rattle.slp_image.specs.Rows.{ImageRows}

pub image_rows : ImageRows
unfolding image contents documents_of document_at name_at root_at version_at version_of tree trees node_at node_pair byte_record text_at text_pair text_run child_at children_at
image_rows = record { plain = refl; empty_text = refl; second_version = refl; magic = refl; version = refl; no_bytes = refl; cut = refl; count = refl; kind = refl; child = refl; balance = refl; root = refl; name = refl; repeat_name = refl; rest = refl; forward = refl; few_runs = refl; long_run = refl; no_run = refl; far_run = refl; run_as_node = refl; stair_of_texts = refl; stair_of_nodes = refl }
