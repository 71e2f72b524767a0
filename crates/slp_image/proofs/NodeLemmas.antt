-- Records of version 1, field by field.
use Rattle.std.proofs.Common.{◌≡◌, ℕ, ◌+◌, ◌^◌, ◌≤◌, ◌<◌, max, add-one, true, false, List, [], ◌∷◌, ◌++◌, length, get_or, Result, Ok, Err, refl, ap, sym, subst, ◌∙◌, arith, nat_le, eqb}
use Rattle.std.proofs.Math.Nat.{two-pow-succ}
use Rattle.std.proofs.Math.Pow.{pow_mono}
use Rattle.std.proofs.lemmas.Bool.{leb-true, le-leb, and_parts, ne_eqb}
use Rattle.std.proofs.lemmas.List.{length-map}
use Rattle.slp_model.specs.declared.NodeId.{NodeId}
use Rattle.slp_model.specs.declared.Node.{Node}
use Rattle.slp_model.specs.declared.Node.TheVariants.{Byte, Pair}
use Rattle.slp_model.specs.Tree.{Tree, Leaf, Fork, leaves, height, IsNear}
use Rattle.slp_model.specs.Nodes.{tree, trees, node_tree}
use Rattle.slp_model.specs.Join.{is_near, join}
use Rattle.slp_model.proofs.NodesLemmas.{trees_onto-append, length-trees}
use Rattle.slp_model.proofs.JoinLemmas.{join-near}
use Rattle.slp_rebalance.specs.Entries.{entry_trees}
use Rattle.slp_image.specs.declared.refusal.ImageRefusal.{ImageRefusal}
use Rattle.slp_image.specs.declared.refusal.ImageRefusal.TheVariants.{Balance, Length, Kind}
use Rattle.slp_image.specs.Fields.{◌>>=◌, Field, children_at, byte_at}
use Rattle.slp_image.specs.Documents.{Fails}
use Rattle.slp_image.specs.Image.{Added, near_pair, node_pair, node_at, byte_record}
use Rattle.slp_image.specs.Reads.{IsRecord, IsByte, HaveThese, ReadsByte, ReadsRecord}
use Rattle.slp_image.proofs.StepLemmas.{fails-bind, fails-same}

pub length-records : (ns store : List Node) (ids : List NodeId) → trees ns ≡ entry_trees store ids → length ns ≡ length ids
length-records ns store ids h =
    let a : length (trees ns) ≡ length (entry_trees store ids) = ap length h in
    omega (arith, a, length-trees ns, length-map ids (λ (id : NodeId). tree store id.index))

pub tree-entry : (ns : List Node) (ts : List Tree) → trees ns ≡ ts → (i : ℕ) → tree ns i ≡ get_or ts i (Leaf 0)
unfolding tree
tree-entry ns ts h i = ap (λ us. get_or us i (Leaf 0)) h

pub trees-push : (ns : List Node) (n : Node) → trees (ns ++ n ∷ []) ≡ trees ns ++ node_tree (trees ns) n ∷ []
unfolding trees
trees-push ns n = trees_onto-append [] ns (n ∷ [])

pub pair-fails : (ns : List Node) (own : ℕ) (bytes : List ℕ) (e : ImageRefusal) → length ns ≡ own → Fails e (children_at own bytes) → Fails e (node_pair ns bytes)
unfolding node_pair
pair-fails ns own bytes e l h = fails-bind e (children_at (length ns) bytes) _ (subst (λ k. Fails e (children_at k bytes)) (sym l) h)

pub pair-is : (ns : List Node) (own left right : ℕ) (bytes rest : List ℕ) → length ns ≡ own → children_at own bytes ≡ Ok ((left, right), rest) → node_pair ns bytes ≡ near_pair ns left right rest
unfolding node_pair
pair-is ns own left right bytes rest l h =
    let both : children_at (length ns) bytes ≡ Ok ((left, right), rest) = ap (λ n. children_at n bytes) l ∙ h in
    rw both refl

-- the three outcomes
pub far : (ns : List Node) (ts : List Tree) (l r : ℕ) (rest : List ℕ) → trees ns ≡ ts → is_near (height (get_or ts l (Leaf 0))) (height (get_or ts r (Leaf 0))) ≡ false → near_pair ns l r rest ≡ Err Balance
far ns ts l r rest h b = rw (tree-entry ns ts h l, tree-entry ns ts h r, b) refl

pub long : (ns : List Node) (ts : List Tree) (l r : ℕ) (rest : List ℕ) → trees ns ≡ ts → is_near (height (get_or ts l (Leaf 0))) (height (get_or ts r (Leaf 0))) ≡ true
    → nat_le (leaves (get_or ts l (Leaf 0)) + leaves (get_or ts r (Leaf 0))) (2 ^ 48) ≡ false → near_pair ns l r rest ≡ Err Length
long ns ts l r rest h b k = rw (tree-entry ns ts h l, tree-entry ns ts h r, b, k) refl

abbrev pub pair_of : ℕ → ℕ → Added Node
pair_of l r = record { entry = Pair (record { index = l }) (record { index = r }); cost = 1 }

pub fine : (ns : List Node) (ts : List Tree) (l r : ℕ) (rest : List ℕ) → trees ns ≡ ts → is_near (height (get_or ts l (Leaf 0))) (height (get_or ts r (Leaf 0))) ≡ true
    → nat_le (leaves (get_or ts l (Leaf 0)) + leaves (get_or ts r (Leaf 0))) (2 ^ 48) ≡ true → near_pair ns l r rest ≡ Ok (pair_of l r, rest)
fine ns ts l r rest h b k = rw (tree-entry ns ts h l, tree-entry ns ts h r, b, k) refl

pub near-heights : (g h : ℕ) → is_near g h ≡ true → IsNear g h
near-heights g h e = let p = and_parts (nat_le g (h + 1)) (nat_le h (g + 1)) e in (leb-true g (h + 1) p.0, leb-true h (g + 1) p.1)

-- a pair that was read and added
pub pair-read : (ns : List Node) (ts new : List Tree) (l r : ℕ) (rest : List ℕ) (read : Field (Added Node)) → trees ns ≡ ts → is_near (height (get_or ts l (Leaf 0))) (height (get_or ts r (Leaf 0))) ≡ true
    → read ≡ Ok (pair_of l r, rest) → new ≡ ts ++ join (get_or ts l (Leaf 0)) (get_or ts r (Leaf 0)) ∷ [] → IsRecord Node HaveThese ns read rest new
pair-read ns ts new l r rest read h b e added =
    let near : IsNear (height (get_or ts l (Leaf 0))) (height (get_or ts r (Leaf 0))) = near-heights (height (get_or ts l (Leaf 0))) (height (get_or ts r (Leaf 0))) b in
    let fork : join (get_or ts l (Leaf 0)) (get_or ts r (Leaf 0)) ≡ Fork (get_or ts l (Leaf 0)) (get_or ts r (Leaf 0)) = join-near (get_or ts l (Leaf 0)) (get_or ts r (Leaf 0)) near.0 near.1 in
    let whole : trees (ns ++ (pair_of l r).entry ∷ []) ≡ ts ++ Fork (get_or ts l (Leaf 0)) (get_or ts r (Leaf 0)) ∷ [] =
    trees-push ns (pair_of l r).entry ∙ ap (λ us. us ++ Fork (get_or us l (Leaf 0)) (get_or us r (Leaf 0)) ∷ []) h in
    record { added = pair_of l r; is = e; shown = whole ∙ sym (added ∙ ap (λ t. ts ++ t ∷ []) fork) }

-- a byte that was read and added
pub byte-read : (ns : List Node) (ts new : List Tree) (bytes rest : List ℕ) (read : Field (Added Node)) → trees ns ≡ ts → read ≡ byte_record Byte bytes → IsByte bytes rest ts new → IsRecord Node HaveThese ns read rest new
unfolding byte_record
byte-read ns ts new bytes rest read h e x =
    record { added = record { entry = Byte x.byte; cost = 0 }; is = e ∙ ap (λ (b : Field ℕ). b >>= λ y. Ok (record { entry = Byte y.0; cost = 0 }, y.1)) x.is; shown = trees-push ns (Byte x.byte) ∙ (ap (λ us. us ++ Leaf x.byte ∷ []) h ∙ sym x.added) }

pub byte-fails : {M : Type 0} (keep : ℕ → M) (bytes : List ℕ) (e : ImageRefusal) → Fails e (byte_at bytes) → Fails e (byte_record keep bytes)
unfolding byte_record
byte-fails keep bytes e h = fails-bind e (byte_at bytes) _ h

pub byte-reads : {X : Type 0} (view : X → List ℕ) (ns : List Node) (ts new : List Tree) (bytes : List ℕ) (read : Field (Added Node)) (r : Result X ImageRefusal) → trees ns ≡ ts → read ≡ byte_record Byte bytes → ReadsByte view bytes ts new r → ReadsRecord HaveThese view ns read new r
byte-reads view ns ts new bytes read (Ok x) h e k = byte-read ns ts new bytes (view x) read h e k
byte-reads view ns ts new bytes read (Err w) h e k = fails-same w read (byte_record Byte bytes) e (byte-fails Byte bytes w k)

pub kind-fails : (ns : List Node) (bytes : List ℕ) (e : ImageRefusal) → Fails e (byte_at bytes) → Fails e (node_at ns bytes)
unfolding node_at
kind-fails ns bytes e h = fails-bind e (byte_at bytes) _ h

pub kind-zero : (ns : List Node) (bytes rest : List ℕ) (k : ℕ) → k ≡ 0 → byte_at bytes ≡ Ok (k, rest) → node_at ns bytes ≡ byte_record Byte rest
unfolding node_at
kind-zero ns bytes rest k z h = let e : byte_at bytes ≡ Ok (0, rest) = h ∙ ap (λ (n : ℕ). Ok (n, rest)) z in rw e refl

pub kind-one : (ns : List Node) (bytes rest : List ℕ) (k : ℕ) → k ≡ 1 → byte_at bytes ≡ Ok (k, rest) → node_at ns bytes ≡ node_pair ns rest
unfolding node_at
kind-one ns bytes rest k z h = let e : byte_at bytes ≡ Ok (1, rest) = h ∙ ap (λ (n : ℕ). Ok (n, rest)) z in rw e refl

pub kind-other : (ns : List Node) (bytes rest : List ℕ) (k : ℕ) → 2 ≤ k → byte_at bytes ≡ Ok (k, rest) → node_at ns bytes ≡ Err Kind
unfolding node_at
kind-other ns bytes rest k z h =
    let a : eqb k 0 ≡ false = ne_eqb k 0 (λ e. omega (arith, e, z)) in
    let b : eqb k 1 ≡ false = ne_eqb k 1 (λ e. omega (arith, e, z)) in
    rw (h, a, b) refl

-- ---- a node of height h has at most 2^h bytes
leaves-most : (t : Tree) → leaves t ≤ 2 ^ height t
leaves-most (Leaf b) = omega arith
leaves-most (Fork l r) =
    let low : 2 ^ height l ≤ 2 ^ max (height l) (height r) = pow_mono (omega arith) in
    let high : 2 ^ height r ≤ 2 ^ max (height l) (height r) = pow_mono (omega arith) in
    let twice : 2 ^ (max (height l) (height r) + 1) ≡ 2 ^ max (height l) (height r) + 2 ^ max (height l) (height r) = rw add-one (two-pow-succ (max (height l) (height r))) in
    omega (arith, leaves-most l, leaves-most r, low, high, twice)

pub low_short : (s t : Tree) → height s < 48 → height t < 48 → nat_le (leaves s + leaves t) (2 ^ 48) ≡ true
low_short s t g h =
    let left : 2 ^ height s ≤ 2 ^ 47 = pow_mono {j = 47} (omega (arith, g)) in
    let right : 2 ^ height t ≤ 2 ^ 47 = pow_mono {j = 47} (omega (arith, h)) in
    le-leb (leaves s + leaves t) (2 ^ 48) (omega (arith, leaves-most s, leaves-most t, left, right))
