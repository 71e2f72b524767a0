use Rattle.text_commands.proofs.Names.{ap, Doc, free_answers, IfErr, IfOk, List, Named, None, ok_or, Option, option_map, plain, refl, Result, Some, state_of}
use Rattle.text_commands.proofs.Names.{taken_out, value_of, ◌∙◌, ◌≡◌}
use Rattle.doc_versions.specs.declared.VersionRefusal.{VersionRefusal}
use Rattle.text_commands.proofs.Facts.{AreKept-taken_out, plain_versions-taken_out, unmark_carries, version_of-plain}
use Rattle.text_commands.proofs.versions.unmark.Goals as goal

found : {A B : Type 0} (o : Option A) (f : A → B) (e : VersionRefusal) (r : Result B VersionRefusal) → r ≡ ok_or (option_map f o) e → IfOk r (λ _. (y : A) × (o ≡ Some y)) × IfErr r (λ _. o ≡ None)
found None f e r is = rw is (tt, refl)
found (Some y) f e r is = rw is ((y, refl), tt)

pub returns-in-Ok-clause-done : goal.returns-in-Ok-clause-done
returns-in-Ok-clause-done c = λ files faults looks pairs places.
    let h = c.args.session.now in
    let name = c.bytes.result.now in
    let there = (found (value_of h.versions name) _ _ _ c.in-Ok.ensures.result).0 in
    rw (← c.bytes.ensures.value, c.unmark.ensures.rest) (free_answers h h.docs (taken_out h.versions name) _ _ _ files _ _ _ _ _ _ c.requires c.requires.live (AreKept-taken_out h.store h.versions name c.requires.kept) (λ no. no) (λ no. no) refl refl
    (unmark_carries (state_of h) _ _ name _ _ _ files (version_of-plain h.store h.versions name ∙ ap (option_map (plain h.store)) there.1) (plain_versions-taken_out h.store h.versions name) c.accepted.ensures.0 (ap (λ v. v.items) c.accepted.ensures.1 ∙ c.in_ok-line.ensures)))

pub returns-in-Err : goal.returns-in-Err
returns-in-Err c =
    let h = c.args.session.now in
    let missing = (found (value_of h.versions c.bytes.result.now) _ _ _ c.in-Err.ensures.result).1 in
    let lacks = rw c.bytes.ensures.value at (version_of-plain h.store h.versions c.bytes.result.now ∙ ap (option_map (plain h.store)) missing) in
    let same = ap (λ (v : Named (List Doc)). record h { versions = v }) c.in-Err.ensures.err in
    record {
      done = λ files faults looks pairs places. c.reject.ensures.done h _ files faults looks pairs places (record { session = c.requires; refused = (lacks, refl); free = refl }) same;
      stopped = c.reject.ensures.stopped h _ c.requires same;
    }
