use Rattle.text_commands.proofs.Names.{ap, free_answers, put, refl, state_of, ◌∙◌}
use Rattle.text_commands.proofs.Facts.{AreKept-put, mark_carries, plain_versions-put}
use Rattle.text_commands.proofs.versions.mark.Goals as goal

pub returns-clause-done : goal.returns-clause-done
returns-clause-done c = λ files faults looks pairs places.
    let h = c.args.session.now in
    let name = c.args.name in
    rw c.in_ok-mark.ensures.ok (free_answers h h.docs (put h.versions name h.docs) _ _ _ files _ _ _ _ _ _ c.requires c.requires.live (AreKept-put h.store h.versions name h.docs c.requires.kept c.requires.live) (λ no. no) (λ no. no) refl refl
    (mark_carries (state_of h) _ _ name _ _ files (plain_versions-put h.store h.versions name h.docs) c.accepted.ensures.0 (ap (λ v. v.items) c.accepted.ensures.1 ∙ c.in_ok-line.ensures)))
