use Rattle.std.proofs.Common.{◌≡◌, ◌<◌, ◌≤◌, ◌/◌, ◌%◌, ◌==◌, ◌∙◌, ap, get_or, length, sym, inl, inr, true≢false, refl}
use Rattle.std.specs.Int.{bit_at}
use Rattle.std.proofs.lemmas.Bool.{cases_lt, lt-ltb, ltb-true}
use Rattle.std.proofs.lemmas.Nat.Bits.{bit_at-zero, shr_and_one}
use Rattle.std.proofs.lemmas.List.{get_or_default, get_or_past}
use Rattle.state_tables.specs.StateSet.{member}
use Rattle.state_tables.specs.StateSetLaws.{member-words}
use Rattle.span_enum.proofs.states.States.holds.Goals as goal

pub returns-in-Some : goal.returns-in-Some
returns-in-Some g c =
    let ws = c.self.inside.words in
    let low : c.args.q / 64 < length ws = ltb-true (c.args.q / 64) (length ws) (sym c.in-Some.ensures.lookup.0) in
    let at : c.in-Some.word.now ≡ get_or ws (c.args.q / 64) 0 = c.in-Some.ensures.lookup.1 ∙ sym (get_or_default ws (c.args.q / 64) 0 c.in-Some.word.now low) in
    ap (λ b. b == 1) (shr_and_one c.in-Some.word.now (c.args.q % 64) ∙ ap (λ w. bit_at w (c.args.q % 64)) at) ∙ sym (member-words ws c.args.q c.self.invariant.below) ∙ ap (λ n. member n c.args.q) c.self.view_is

pub returns-in-None : goal.returns-in-None
returns-in-None g c =
    let ws = c.self.inside.words in
    let past : length ws ≤ c.args.q / 64 = elim (cases_lt (c.args.q / 64) (length ws)) [
      | inl lt ↦ absurd (true≢false (sym (lt-ltb (c.args.q / 64) (length ws) lt) ∙ sym c.in-None.ensures.lookup.0))
      | inr ge ↦ ge
    ] in
    sym (sym (ap (λ n. member n c.args.q) c.self.view_is) ∙ member-words ws c.args.q c.self.invariant.below ∙ rw (get_or_past ws (c.args.q / 64) 0 past, bit_at-zero (c.args.q % 64)) refl)
