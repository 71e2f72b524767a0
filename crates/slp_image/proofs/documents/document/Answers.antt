use Rattle.std.proofs.Common.{List, length, refl, sym, subst, ◌∙◌, ap, ℕ}
use Rattle.std.proofs.lemmas.Result.{err_from_is_err_and}
use Rattle.slp_image.specs.Documents.{Fails}
use Rattle.slp_image.specs.Image.{name_at}
use Rattle.slp_image.proofs.DocumentLemmas.{name-fails, root-fails, document-is, put-last}
use Rattle.slp_image.proofs.documents.document.Goals as goal

pub returns-in_err-name : goal.returns-in_err-name
returns-in_err-name c =
    let p = err_from_is_err_and c.from_residual.result c.from_residual.ensures.1 in rw (p.1, p.2) (λ ds e. name-fails (length c.args.roots.now) ds c.args.bytes.now c.in_err-name.field-0.0 (subst (λ (ns : List (List ℕ)). Fails c.in_err-name.field-0.0 (name_at ns c.args.bytes.now)) (sym e) c.in_err-name.ensures.read))

pub returns-in_err-root : goal.returns-in_err-root
returns-in_err-root c =
    let p = err_from_is_err_and c.from_residual-in_err-root.result c.from_residual-in_err-root.ensures.1 in rw (p.1, p.2) (λ ds e. root-fails (length c.args.roots.now) ds c.args.bytes.now c.in_ok-name.name c.in_ok-name.after.now c.in_err-root.field-0.0 (ap (λ (ns : List (List ℕ)). name_at ns c.args.bytes.now) e ∙ c.in_ok-name.ensures.read) c.in_err-root.ensures)

pub returns : goal.returns
returns c =
    record {
      document = record { name = c.in_ok-name.name; root = c.in_ok-root.ensures.number };
      doc = record { name = c.in_ok-name.name; root = c.in_ok-root.root };
      is = λ ds e. document-is (length c.args.roots.now) ds c.args.bytes.now c.in_ok-name.name c.in_ok-name.after.now c.in_ok-root.rest.now c.in_ok-root.ensures.number (ap (λ (ns : List (List ℕ)). name_at ns c.args.bytes.now) e ∙ c.in_ok-name.ensures.read) c.in_ok-root.ensures.is;
      name = refl;
      root = c.in_ok-root.ensures.there;
      added = c.in_ok-set.ensures.ok ∙ put-last c.args.docs.now c.in_ok-name.name c.in_ok-root.root c.in_ok-name.ensures.new;
    }
