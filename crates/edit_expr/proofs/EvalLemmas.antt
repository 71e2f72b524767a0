-- The relation between evaluation on texts and evaluation on roots.
use Rattle.std.proofs.Common.{◌≡◌, ℕ, ◌+◌, ◌*◌, ◌^◌, ◌≤◌, ◌<◌, max, List, length, Option, Some, None, Ok, Err, ap, ◌∙◌, arith}
use Rattle.std.proofs.lemmas.Bool.{le-leb, lt-leb}
use Rattle.slp_model.specs.declared.NodeId.{NodeId}
use Rattle.slp_model.specs.declared.Node.{Node}
use Rattle.slp_model.specs.Tree.{Tree, root_leaves, root_height}
use Rattle.slp_model.specs.Nodes.{Grows, IsLive, root_tree}
use Rattle.slp_model.specs.Join.{root_cost}
use Rattle.slp_model.proofs.NodesLemmas.{Grows-none, root_tree-grows}
use Rattle.edit_expr.specs.declared.expr.Expr.{Expr}
use Rattle.edit_expr.specs.declared.expr.Expr.TheVariants.{Doc as NameOf, Concat', Extract', Delete', Insert', Copy'}
use Rattle.edit_expr.specs.declared.refusal.EditRefusal.TheVariants.{TooLong}
use Rattle.doc_book.specs.Texts.{Document}
use Rattle.edit_expr.specs.Eval.{Outcome, eval, fitting, greatest, inserted, joined, onward, operations, size, reached}
use Rattle.edit_expr.specs.Costs.{total_cost}

-- a join of roots no higher than h
pub root_cost-most : (a b : Option Tree) (h : ℕ) → root_height a ≤ h → root_height b ≤ h → root_cost a b ≤ 3 * h + 1
root_cost-most None b h p q = omega arith
root_cost-most (Some a) None h p q = omega arith
root_cost-most (Some a) (Some b) h p q = omega arith

pub height-grows : (old new : List Node) (p q : ℕ) → Grows old new p q → (r : Option NodeId) → IsLive old r → root_height (root_tree new r) ≡ root_height (root_tree old r)
height-grows old new p q g r h = ap root_height (root_tree-grows old new p q g r h)

-- the same where one of the two was there before the store grew
pub before-most : (old new : List Node) (p q : ℕ) → Grows old new p q → (a b : Option NodeId) (h : ℕ) → IsLive old a → root_height (root_tree old a) ≤ h → root_height (root_tree new b) ≤ h → root_cost (root_tree new a) (root_tree new b) ≤ 3 * h + 1
before-most old new p q g a b h live x y = root_cost-most (root_tree new a) (root_tree new b) h (omega (arith, height-grows old new p q g a live, x)) y

pub after-most : (old new : List Node) (p q : ℕ) → Grows old new p q → (a b : Option NodeId) (h : ℕ) → IsLive old b → root_height (root_tree new a) ≤ h → root_height (root_tree old b) ≤ h → root_cost (root_tree new a) (root_tree new b) ≤ 3 * h + 1
after-most old new p q g a b h live x y = root_cost-most (root_tree new a) (root_tree new b) h x (omega (arith, height-grows old new p q g b live, y))

-- nothing is added to the store
pub none_grows : (ns : List Node) (p : ℕ) → Grows ns ns p p
none_grows ns p = Grows-none ns p p (omega arith)

pub leaves-grows : (old new : List Node) (p q : ℕ) → Grows old new p q → (r : Option NodeId) → IsLive old r → root_leaves (root_tree new r) ≡ root_leaves (root_tree old r)
leaves-grows old new p q g r h = ap root_leaves (root_tree-grows old new p q g r h)

-- a value is no longer than the greatest
pub size-most : (docs : List Document) (e : Expr) (x : List ℕ) → eval docs e ≡ Ok x → length x ≤ greatest docs e
size-most docs e x h = let s : size (eval docs e) ≡ length x = ap size h in omega (arith, s, by docs e)
  where
    part : (a b : Outcome) (m n k : ℕ) (F : List ℕ → List ℕ → Outcome) → size (onward a (λ d. onward b (λ e. F d e))) ≤ max m (reached a (max n (size (onward a (λ d. onward b (λ e. F d e))))))
    part (Ok x) b m n k F = omega arith
    part (Err why) b m n k F = omega arith

    by : (docs : List Document) (e : Expr) → size (eval docs e) ≤ greatest docs e
    by docs (NameOf name) = omega arith
    by docs (Concat' p l q r) = part (eval docs l) (eval docs r) (greatest docs l) (greatest docs r) 0 joined
    by docs (Extract' p of i j) = omega arith
    by docs (Delete' p of i j) = omega arith
    by docs (Insert' p l q r k) = part (eval docs l) (eval docs r) (greatest docs l) (greatest docs r) 0 (λ d e. inserted d e k)
    by docs (Copy' p of i j k) = omega arith

pub fitting-fits : (xs : List ℕ) → length xs ≤ 2 ^ 48 → fitting xs ≡ Ok xs
fitting-fits xs h = rw (le-leb (length xs) (2 ^ 48) h)

pub fitting-long : (xs : List ℕ) → 2 ^ 48 < length xs → fitting xs ≡ Err (TooLong (length xs))
fitting-long xs h = rw (lt-leb (length xs) (2 ^ 48) h)

total_cost-sum : (a b c : ℕ) → a * c + b * c + c ≡ (a + b + 1) * c
total_cost-sum a b c = grind arith

total_cost-one : (a c : ℕ) → a * c + c ≡ (a + 1) * c
total_cost-one a c = grind arith

zero-times : (c : ℕ) → 0 ≡ 0 * c
zero-times c = grind arith

-- the sum of equal costs
pub total_cost-is : (c : ℕ) (e : Expr) → total_cost c e ≡ operations e * c
total_cost-is c (NameOf name) = zero-times c
total_cost-is c (Concat' p l q r) = (λ j. total_cost-is c l j + total_cost-is c r j + c) ∙ total_cost-sum (operations l) (operations r) c
total_cost-is c (Extract' p of i j) = (λ t. total_cost-is c of t + c) ∙ total_cost-one (operations of) c
total_cost-is c (Delete' p of i j) = (λ t. total_cost-is c of t + c) ∙ total_cost-one (operations of) c
total_cost-is c (Insert' p l q r k) = (λ j. total_cost-is c l j + total_cost-is c r j + c) ∙ total_cost-sum (operations l) (operations r) c
total_cost-is c (Copy' p of i j k) = (λ t. total_cost-is c of t + c) ∙ total_cost-one (operations of) c
