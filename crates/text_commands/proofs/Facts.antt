-- The lemmas that the proofs of this crate's functions use, each re-exported from the file that proves it.
pub use Rattle.doc_book.proofs.TextLemmas.{AreLive-taken_out, document_is, document_lacks, plain-taken_out}
pub use Rattle.doc_versions.proofs.TextLemmas.{AreKept-put, AreKept-taken_out, plain_versions-put, plain_versions-taken_out, version_kept, version_of-plain}
pub use Rattle.edit_expr.proofs.EvalLemmas.{none_grows}
pub use Rattle.query_book.proofs.NameLemmas.{some_value}
pub use Rattle.session_state.proofs.CommandLemmas.{stays, stays_freely}
pub use Rattle.session_state.proofs.Written.{last, passed, sent_on, starts, stops, waits}
pub use Rattle.span_language.proofs.Paid.{let_paid}
pub use Rattle.span_language.proofs.Worlds.{back_carries, drop_carries, mark_carries, unmark_carries}
pub use Rattle.text_commands.proofs.CarryLemmas.{assigned_refusal, grown_answers, grown_stops, growing, lengths, let_carries, names_end, names_next, names_rest}
pub use Rattle.text_commands.proofs.CarryLemmas.{show_carries}
pub use Rattle.text_commands.proofs.FileLemmas.{file_begun, file_refused_paid, file_rejected, load_carries, loaded, open_carries, open_paid, opens_refused, put_ends}
pub use Rattle.text_commands.proofs.LoadingLemmas.{load_kinds, shared_within, within_limit}
pub use Rattle.text_commands.proofs.ReadingLemmas.{is_next, past_limit, prefix_means, prefix_paid, whole_means}
