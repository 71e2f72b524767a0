use Rattle.text_commands.proofs.Names.{ap, free_answers, option_map, plain, refl, rules, state_of, ◌∙◌}
use Rattle.text_commands.proofs.Facts.{back_carries, stays, version_kept, version_of-plain}
use Rattle.text_commands.proofs.versions.back.Goals as goal

pub returns-in-Ok-clause-done : goal.returns-in-Ok-clause-done
returns-in-Ok-clause-done c = λ files faults looks pairs places.
    let h = c.args.session.now in
    let name = c.bytes.result.now in
    let there = c.in-Ok.ensures.ok in
    rw (← c.bytes.ensures.value) (free_answers h c.in-Ok.docs h.versions _ _ _ files _ _ _ _ _ _ c.requires (version_kept h.store h.versions name c.in-Ok.docs c.requires.kept there) c.requires.kept (λ no. no) (λ no. no) refl refl
    (back_carries (state_of h) _ name _ _ _ files (version_of-plain h.store h.versions name ∙ ap (option_map (plain h.store)) there) c.accepted.ensures.0 (ap (λ v. v.items) c.accepted.ensures.1 ∙ c.in_ok-line.ensures)))

pub returns-in-Err-NoSuchVersion-clause-done : goal.returns-in-Err-NoSuchVersion-clause-done
returns-in-Err-NoSuchVersion-clause-done c = λ files faults looks pairs places.
    let h = c.args.session.now in
    let missing = c.back.ensures.missing.0 (search (rules, c.in-Err-NoSuchVersion.field-0-is)) in
    let lacks = rw c.bytes.ensures.value at (version_of-plain h.store h.versions c.bytes.result.now ∙ ap (option_map (plain h.store)) missing) in
    c.reject.ensures.done h _ files faults looks pairs places (record { session = c.requires; refused = (lacks, refl); free = refl }) refl

pub returns-in-Err-NoMemory-clause-stopped : goal.returns-in-Err-NoMemory-clause-stopped
returns-in-Err-NoMemory-clause-stopped c = λ files faults looks pairs places. stays c.args.session.now _ _ files faults looks pairs places c.requires
