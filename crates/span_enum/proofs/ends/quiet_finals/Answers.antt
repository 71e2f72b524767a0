use Rattle.span_enum.proofs.Base.{EndsQuietly, ap, arith, inl, inr, member, member-zero, not-both, states_of, subst, sym, ◌<◌, ◌∙◌}
use Rattle.span_enum.proofs.Tables.{member-more_cases}
use Rattle.span_enum.proofs.ends.quiet_finals.Goals as goal

pub loop-q-init : goal.loop-q-init
loop-q-init g c = λ q h. not-both (member 0 q) (ap (λ n. member n q) (sym c.none-set.ensures) ∙ h) (member-zero q)

pub loop-q-preserved : goal.loop-q-preserved
loop-q-preserved g c =
    let a = c.args.dfa.now in
    let p = c.loop-q.q in
    rw c.include.ensures (λ q h. elim (member-more_cases c.loop-q.set p q c.ends_quietly.result h) [
      | inl done ↦ c.loop-q.invariant q done
      | inr is ↦
          let low : p < states_of a = omega arith in
          subst (λ n. (n < states_of a) × EndsQuietly a n) (sym is.0) (low, c.ends_quietly.ensures is.1)
    ])
