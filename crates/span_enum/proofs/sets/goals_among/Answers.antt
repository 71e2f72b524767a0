use Rattle.span_enum.proofs.Base.{StaysQuiet, ap, can_reach_of, cases_eq, inl, inr, member, member-zero, not-both, subst, sym, true, ◌∙◌, ◌≡◌}
use Rattle.span_enum.proofs.Tables.{member-more_cases, member-more_new, member-more_old}
use Rattle.span_enum.proofs.sets.goals_among.Goals as goal

pub loop-q-init : goal.loop-q-init
loop-q-init g c = record {
  left = λ q h. h;
  all = λ q h k. inl h;
  only = λ q h. not-both (member 0 q) (ap (λ n. member n q) (sym c.none-set.ensures) ∙ h) (member-zero q);
  quiet = λ q h. not-both (member 0 q) (ap (λ n. member n q) (sym c.none-stay.ensures) ∙ h) (member-zero q);
}

pub loop-q-preserved : goal.loop-q-preserved
loop-q-preserved g c =
    let p = c.in-Some.q in
    let now = c.loop-q.invariant in
    let table = c.args.table.now in
    let goals = c.args.goals.now in
    let is_in = c.in-Some.ensures.member in
    rw (c.include.ensures, c.include-in-Some.ensures) (record {
      left = λ q h. elim (cases_eq q p) [
        | inl same ↦ not-both (member c.remove.new.self q) h (ap (member c.remove.new.self) same ∙ c.remove.ensures.gone)
        | inr other ↦ now.left q (sym (c.remove.ensures.others q other) ∙ h)
      ];
      all = λ q h k. elim (now.all q h k) [
        | inr done ↦ inr (member-more_old c.loop-q.set p q c.way_on-way.result.leads done)
        | inl left ↦ elim (cases_eq q p) [
          | inr other ↦ inl (c.remove.ensures.others q other ∙ left)
          | inl same ↦ inr (member-more_new c.loop-q.set p q c.way_on-way.result.leads same (c.way_on-way.ensures.leads ∙ ap (λ n. can_reach_of table n goals) (sym same) ∙ k))
        ]
      ];
      only = λ q h. elim (member-more_cases c.loop-q.set p q c.way_on-way.result.leads h) [
        | inl done ↦ now.only q done
        | inr is ↦ rw is.0 (c.requires.states p (now.left p is_in), sym c.way_on-way.ensures.leads ∙ is.1)
      ];
      quiet = λ q h. elim (member-more_cases c.loop-q.stay p q c.way_on-way.result.quiet h) [
        | inl done ↦ now.quiet q done
        | inr is ↦ subst (λ n. (member c.args.from.now n ≡ true) × StaysQuiet table n goals c.args.quiet.now) (sym is.0) (now.left p is_in, c.way_on-way.ensures.quiet is.1)
      ];
    })

pub returns-clause-goals : goal.returns-clause-goals
returns-clause-goals g c = record {
  all = λ q h k. elim (c.loop-q.invariant.all q h k) [
    | inl left ↦ not-both (member c.loop-q.rest q) left (ap (λ n. member n q) c.in_default.ensures.member ∙ member-zero q)
    | inr done ↦ done
  ];
  only = c.loop-q.invariant.only;
}
