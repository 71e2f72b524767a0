-- Lengths and texts of what is left after cuts.
use Rattle.std.proofs.Common.{◌≡◌, ℕ, ◌+◌, ◌-◌, ◌≤◌, ◌&&◌, Bool, true, false, nat_le, cond, Ok, Err, slice_range, List, Option, length, take, drop, refl, ap, subst, arith, length-drop}
use Rattle.std.proofs.lemmas.Bool.{leb-true}
use Rattle.std.proofs.lemmas.List.{length-take}
use Rattle.std.proofs.lemmas.Grind.{common_steps}
use Rattle.span_types.specs.Ranges.{is_range}
use Rattle.slp_model.specs.declared.NodeId.{NodeId}
use Rattle.slp_model.specs.declared.Node.{Node}
use Rattle.slp_model.specs.Tree.{root_leaves}
use Rattle.slp_model.specs.Nodes.{root_tree, text_of}
use Rattle.slp_model.proofs.TreeLemmas.{length-root_text}
use Rattle.edit_expr.specs.Eval.{extracted, Outcome, ranged, size}
use Rattle.edit_expr.specs.declared.refusal.EditRefusal.TheVariants.{OutOfRange}

and-left : (x y : Bool) → (x && y) ≡ true → x ≡ true
and-left true y e = refl
and-left false y e = e

and-right : (x y : Bool) → (x && y) ≡ true → y ≡ true
and-right true y e = e
and-right false y e = cc

pub range-start : (i j n : ℕ) → is_range i j n ≡ true → 1 ≤ i
range-start i j n e = leb-true 1 i (and-left (nat_le 1 i) (nat_le i j && nat_le j (n + 1)) e)

pub range-order : (i j n : ℕ) → is_range i j n ≡ true → i ≤ j
range-order i j n e = leb-true i j (and-left (nat_le i j) (nat_le j (n + 1)) (and-right (nat_le 1 i) (nat_le i j && nat_le j (n + 1)) e))

pub range-end : (i j n : ℕ) → is_range i j n ≡ true → j ≤ n + 1
range-end i j n e = leb-true j (n + 1) (and-right (nat_le i j) (nat_le j (n + 1)) (and-right (nat_le 1 i) (nat_le i j && nat_le j (n + 1)) e))

-- the end of a range of the text of a root
pub range-within : (ns : List Node) (root : Option NodeId) (i j n : ℕ) → n ≡ length (text_of ns root) → is_range i j n ≡ true → j ≤ root_leaves (root_tree ns root) + 1
range-within ns root i j n is e = omega (arith, range-end i j n e, is, length-root_text (root_tree ns root))

pub ranged-in : (i j m n : ℕ) (o : Outcome) → is_range i j m ≡ true → m ≡ n → ranged i j n o ≡ o
ranged-in i j m n o e q = let f : is_range i j n ≡ true = subst (λ k. is_range i j k ≡ true) q e in rw f

pub cut-lengths : (k : ℕ) (xs : List ℕ) → length (take k xs) + length (drop k xs) ≡ length xs
cut-lengths k xs = omega (arith, length-take k xs, length-drop k xs)

pub take-most : (k : ℕ) (xs : List ℕ) → length (take k xs) ≤ length xs
take-most k xs = omega (arith, length-take k xs)

pub take-shorter : (i j : ℕ) (d : List ℕ) → i ≤ j → take i (take j d) ≡ take i d
take-shorter i j d h = grind (arith, common_steps)

slice-most : (a b : ℕ) (d : List ℕ) → length (slice_range d a b) ≤ length d
slice-most a b d = grind (arith, common_steps)

-- what is cut out is no longer
pub extracted-most : (d : List ℕ) (i j : ℕ) (x : List ℕ) → extracted d i j ≡ Ok x → length x ≤ length d
extracted-most d i j x h = by (is_range i j (length d)) h
  where
    by : (b : Bool) → cond b (Ok (slice_range d (i - 1) (j - 1))) (Err (OutOfRange i j (length d))) ≡ Ok x → length x ≤ length d
    by true q = let e : length (slice_range d (i - 1) (j - 1)) ≡ length x = ap size q in omega (arith, e, slice-most (i - 1) (j - 1) d)
    by false q = cc
