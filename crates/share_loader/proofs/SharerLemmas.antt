-- What a sharer keeps, over a store that grows.
use Rattle.std.proofs.Common.{◌≡◌, ◌⊎◌, inl, inr, ℕ, ◌+◌, ◌*◌, ◌/◌, ◌<◌, ◌≤◌, ◌^◌, List, [], ◌++◌, length, take, Option, Some, None, refl, ap, sym, subst, ◌∙◌, arith, length-append}
use Rattle.std.proofs.lemmas.List.{take_all}
use Rattle.std.proofs.lemmas.List.Elements.{All-nil}
use Rattle.span_types.specs.Fibonacci.{height_limit}
use Rattle.slp_model.specs.declared.Node.{Node}
use Rattle.slp_model.specs.Nodes.{Grows}
use Rattle.share_loader.specs.Known.{IsKnown}
use Rattle.share_loader.specs.Blocks.{Taken, ended_text, taken_text, blocks_cost, all_cost}
use Rattle.share_loader.specs.Sharer.{Kept, unfed, IsKept, kept_text, kept_cost, IsSharer, fed, open_count, ended_cost}
use Rattle.share_loader.specs.Laws.{SharerGrows, SharerStarts}
use Rattle.share_loader.proofs.SymbolLemmas.{symbols-none}
use Rattle.share_loader.proofs.CostLemmas.{cost-all, cost-none}
use Rattle.share_loader.proofs.BlockLemmas.{taken-grows, text-same, ended-grows, taken-long}

pub kept-within : (ns : List Node) (k : Kept) (n : ℕ) → length (kept_text ns k) ≤ n → kept_cost ns k + 6 * height_limit n + 1 ≤ all_cost n
kept-within ns k n le =
    let long = length-append (taken_text ns k.taken) k.rest in
    cost-all (length (ended_text ns k.taken)) (length (taken_text ns k.taken)) n (omega (arith, long, taken-long ns k.taken)) (omega (arith, long))

-- fewer than three bytes are all that was fed
pub short-text : (ns : List Node) (k : Kept) → IsKept ns k → length k.rest < 3 → k.rest ≡ kept_text ns k
short-text ns k is short = by is.start
  where
    by : (3 ≤ length k.rest) ⊎ (taken_text ns k.taken ≡ []) → k.rest ≡ kept_text ns k
    by (inl long) = absurd (omega (arith, long, short))
    by (inr none) = ap (λ x. x ++ k.rest) (sym none)

-- all of the rest was taken
pub record IsAllTaken (old new : List Node) (k : Kept) (t : Taken) : Type 0 where
  pub reads : taken_text new t ≡ kept_text old k
  pub long : length (taken_text new t) ≡ length (kept_text old k)
  pub all : blocks_cost (length (ended_text new t)) (length (taken_text new t)) + 6 * height_limit (length (taken_text new t)) + 1 ≤ all_cost (length (kept_text old k))

pub all-taken : (old new : List Node) (k : Kept) (t : Taken) (rest : List ℕ) (count : ℕ) → rest ≡ k.rest → count ≤ length rest → length rest < count + 1 → taken_text new t ≡ taken_text old k.taken ++ take count rest → IsAllTaken old new k t
all-taken old new k t rest count same most least e =
    let reads : taken_text new t ≡ kept_text old k =
    e ∙ ap (λ x. taken_text old k.taken ++ x) (take_all count rest (omega (arith, most, least)) ∙ same) in
    let long : length (taken_text new t) ≡ length (kept_text old k) = ap length reads in
    record {
      reads = reads;
      long = long;
      all = subst (λ n. blocks_cost (length (ended_text new t)) (length (taken_text new t)) + 6 * height_limit (length (taken_text new t)) + 1 ≤ all_cost n) long
          (cost-all (length (ended_text new t)) (length (taken_text new t)) (length (taken_text new t)) (omega (arith, taken-long new t)) (omega arith));
    }

pub kept-grows : (old new : List Node) (p q : ℕ) → Grows old new p q → (k : Kept) → IsKept old k → IsKept new k
kept-grows old new p q g k is = record {
  taken = taken-grows old new p q g k.taken is.taken;
  few = is.few;
  short = is.short;
  start = by is.start;
  limit = subst (λ x. length x ≤ 2 ^ 48) (sym (ap (λ x. x ++ k.rest) (text-same old new p q g k.taken is.taken))) is.limit;
}
  where
    by : (3 ≤ length k.rest) ⊎ (taken_text old k.taken ≡ []) → (3 ≤ length k.rest) ⊎ (taken_text new k.taken ≡ [])
    by (inl long) = inl long
    by (inr none) = inr (text-same old new p q g k.taken is.taken ∙ none)

sharer-used : (old new : List Node) (p q : ℕ) (sharer : Option Kept) → Grows old new p q → IsSharer old sharer → IsSharer new sharer
sharer-used old new p q None g is = tt
sharer-used old new p q (Some k) g is = kept-grows old new p q g k is

sharer-fed : (old new : List Node) (p q : ℕ) (sharer : Option Kept) → Grows old new p q → IsSharer old sharer → fed new sharer ≡ fed old sharer
sharer-fed old new p q None g is = refl
sharer-fed old new p q (Some k) g is = ap (λ x. x ++ k.rest) (text-same old new p q g k.taken is.taken)

sharer-cost : (old new : List Node) (p q : ℕ) (sharer : Option Kept) → Grows old new p q → IsSharer old sharer → ended_cost new sharer ≡ ended_cost old sharer
sharer-cost old new p q None g is = refl
sharer-cost old new p q (Some k) g is =
    ap (λ x. blocks_cost (length x) (length (taken_text new k.taken))) (ended-grows old new p q g k.taken is.taken)
    ∙ ap (λ x. blocks_cost (length (ended_text old k.taken)) (length x)) (text-same old new p q g k.taken is.taken)

pub sharer-grows : SharerGrows
sharer-grows = record { used = sharer-used; fed = sharer-fed; cost = sharer-cost }

pub unfed-kept : (ns : List Node) → IsKept ns unfed
unfed-kept ns = record {
  taken = record { root = tt; symbols = symbols-none ns 2; known = All-nil (IsKnown ns) };
  few = omega arith;
  short = omega arith;
  start = inr refl;
  limit = omega arith;
}

pub sharer-starts : SharerStarts
unfolding all_cost
sharer-starts = record { used = unfed-kept; count = refl; cost = λ ns. cost-none 0; all = λ n. refl }

-- a sharer that was fed no bytes
pub record IsUnfed (ns : List Node) (sharer : Option Kept) : Type 0 where
  pub used : IsSharer ns sharer
  pub none : fed ns sharer ≡ []
  pub count : open_count sharer ≡ 0
  pub cost : ended_cost ns sharer ≡ 0

pub is-unfed : (ns : List Node) (sharer : Option Kept) → sharer ≡ Some unfed → IsUnfed ns sharer
is-unfed ns sharer is = record {
  used = subst (IsSharer ns) (sym is) (unfed-kept ns);
  none = ap (fed ns) is;
  count = ap open_count is;
  cost = ap (ended_cost ns) is ∙ cost-none 0;
}

pub all_cost-is : (m n : ℕ) → m ≡ n → all_cost m ≡ (n / 65536 + 1) * (6 * height_limit n + 1)
unfolding all_cost
all_cost-is m n e = ap all_cost e
