-- A row without counts, joined with a further text: its counts are those of one row of the right table.
use Rattle.std.proofs.Common.{◌≡◌, ℕ, ◌+◌, ◌<◌, ◌≤◌, ◌==◌, false, List, [], ◌∷◌, All, sym, ap, ◌∙◌, arith, inl, inr, Some}
use Rattle.std.specs.Prelude.{if◌then◌else◌}
use Rattle.std.proofs.lemmas.Bool.{ne_eqb}
use Rattle.std.proofs.lemmas.Bool.Decides.{eqb_tells}
use Rattle.std.proofs.lemmas.List.Elements.{All-head, All-tail}
use Rattle.path_counts.specs.declared.count.Count.{Count}
use Rattle.path_counts.specs.Paths.{most, stopped}
use Rattle.path_counts.specs.Counting.{AreCounts, CountRow, IsComposedRow, counts_at, number_in, unmarked_at}
use Rattle.path_counts.proofs.Lists.{all-members, pairs-head, pairs-tail}

-- all states are greater
number_in-before : (cs : List Count) (q : ℕ) → All (λ c. q < c.state) cs → number_in cs q ≡ 0
number_in-before [] q h = omega arith
number_in-before (c ∷ cs) q h =
    let above : q < c.state = All-head (λ d. q < d.state) c cs h in
    let other : c.state == q ≡ false = ne_eqb c.state q (λ e. omega (arith, e, above)) in
    ap (λ z. (if z then c.number else 0) + number_in cs q) other ∙ omega (arith, number_in-before cs q (All-tail (λ d. q < d.state) c cs h))

-- each state has at most one number
pub number_in-low : (n : ℕ) (cs : List Count) → AreCounts n cs → (q : ℕ) → number_in cs q ≤ most
number_in-low n [] h q = omega arith
number_in-low n (c ∷ cs) h q =
    let rest : AreCounts n cs = record {
      rising = pairs-tail (λ x y. x.state < y.state) c cs h.rising;
      within = All-tail (λ d. d.state < n) c cs h.within;
      some = All-tail (λ d. 0 < d.number) c cs h.some;
      low = All-tail (λ d. d.number ≤ most) c cs h.low;
    } in
    let low : c.number ≤ most = All-head (λ d. d.number ≤ most) c cs h.low in
    elim (eqb_tells c.state q) [
      | inl e ↦
          let above : All (λ d. c.state < d.state) cs = all-members (λ d. c.state < d.state) cs (λ d m. pairs-head (λ x y. x.state < y.state) c cs d h.rising m) in
          let none : number_in cs c.state ≡ 0 = number_in-before cs c.state above in
          let same : number_in cs q ≡ number_in cs c.state = ap (number_in cs) (sym e.1) in
          let here : number_in (c ∷ cs) q ≡ c.number + number_in cs q = ap (λ z. (if z then c.number else 0) + number_in cs q) e.0 in
          omega (arith, low, none, same, here)
      | inr e ↦
          let past : number_in (c ∷ cs) q ≡ 0 + number_in cs q = ap (λ z. (if z then c.number else 0) + number_in cs q) e.0 in
          omega (arith, past, number_in-low n cs rest q)
    ]

pub copied-row : (right : List CountRow) (n q : ℕ) (row : CountRow) → AreCounts n (counts_at right q) → row.unmarked ≡ unmarked_at right q → row.counts ≡ counts_at right q
    → IsComposedRow right (record { unmarked = Some q; counts = [] }) row
copied-row right n q row are unmarked counts = record {
  unmarked = unmarked;
  numbers = λ r lt. ap (λ cs. number_in cs r) counts ∙ whole (number_in (counts_at right q) r) (number_in-low n (counts_at right q) are r);
}
  where
    whole : (k : ℕ) → k ≤ most → k ≡ stopped (k + 0)
    whole k le = omega arith
