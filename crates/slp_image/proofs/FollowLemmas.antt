-- The nodes of a store may follow one another as records.
use Rattle.std.proofs.Common.{◌≡◌, ℕ, suc, ◌+◌, ◌<◌, ◌≤◌, ◌^◌, Bool, true, false, List, [], ◌∷◌, ◌++◌, length, get_or, slice_get, Some, refl, ap, sym, subst, ◌∙◌, arith, nat_le, append_assoc, append-nil, length-append}
use Rattle.std.proofs.lemmas.Bool.{le-leb}
use Rattle.std.proofs.lemmas.Option.{slice_get_within}
use Rattle.slp_model.specs.declared.Node.{Node}
use Rattle.slp_model.specs.declared.Node.TheVariants.{Byte, Pair}
use Rattle.slp_model.specs.Tree.{Tree, Fork, leaves, height, IsNear, IsBalanced}
use Rattle.slp_model.specs.Nodes.{tree, IsSound}
use Rattle.slp_model.specs.Join.{is_near}
use Rattle.slp_model.specs.Kept.{Keeps}
use Rattle.slp_model.specs.Thin.{rank, renumbered}
use Rattle.slp_model.proofs.NodesLemmas.{tree-append, node-at}
use Rattle.slp_model.proofs.CompactionLemmas.{thin_to, thin-on}
use Rattle.node_store.proofs.MoveLemmas.{kept-same}
use Rattle.slp_image.specs.Written.{node_bytes, records_bytes, MayFollow, AllFollow}

near-test : (g h : ℕ) → IsNear g h → is_near g h ≡ true
near-test g h n = let a : nat_le g (h + 1) ≡ true = le-leb g (h + 1) n.0 in let b : nat_le h (g + 1) ≡ true = le-leb h (g + 1) n.1 in rw (a, b) refl

middle : (ps more : List Node) (n : Node) → slice_get (ps ++ (n ∷ more)) (length ps) ≡ Some n
middle [] more n = refl
middle (p ∷ ps) more n = middle ps more n

-- a node follows those before it
next-follows : (ps more : List Node) (n : Node) → IsSound (ps ++ (n ∷ more)) → MayFollow ps n
next-follows ps more (Byte b) s = tt
next-follows ps more (Pair l r) s =
    let ms : List Node = ps ++ (Pair l r ∷ more) in
    let at : slice_get ms (length ps) ≡ Some (Pair l r) = middle ps more (Pair l r) in
    let node = node-at ms (length ps) (Pair l r) s at in
    let within : length ps < length ms = slice_get_within ms (length ps) (Pair l r) at in
    let a : tree ps l.index ≡ tree ms l.index = sym (tree-append ps (Pair l r ∷ more) l.index node.1) in
    let b : tree ps r.index ≡ tree ms r.index = sym (tree-append ps (Pair l r ∷ more) r.index node.2) in
    let both : IsBalanced (Fork (tree ms l.index) (tree ms r.index)) = subst IsBalanced node.0 (s.balanced (length ps) within) in
    let fits : leaves (tree ms l.index) + leaves (tree ms r.index) ≤ 2 ^ 48 = subst (λ (u : Tree). leaves u ≤ 2 ^ 48) node.0 (s.short (length ps) within) in
    let near : is_near (height (tree ms l.index)) (height (tree ms r.index)) ≡ true = near-test (height (tree ms l.index)) (height (tree ms r.index)) both.0 in
    let small : nat_le (leaves (tree ms l.index) + leaves (tree ms r.index)) (2 ^ 48) ≡ true = le-leb (leaves (tree ms l.index) + leaves (tree ms r.index)) (2 ^ 48) fits in
    (node.1, node.2, (λ j. is_near (height (a j)) (height (b j))) ∙ near, (λ j. nat_le (leaves (a j) + leaves (b j)) (2 ^ 48)) ∙ small)

rest-follows : (ps more : List Node) → IsSound (ps ++ more) → length (ps ++ more) < 2 ^ 64 → AllFollow ps more
rest-follows ps [] s short = tt
rest-follows ps (n ∷ more) s short =
    let e : ps ++ (n ∷ more) ≡ (ps ++ n ∷ []) ++ more = sym (append_assoc ps (n ∷ []) more) in
    (omega (arith, short, length-append ps (n ∷ more)), next-follows ps more n s, rest-follows (ps ++ n ∷ []) more (subst IsSound e s) (subst (λ (xs : List Node). length xs < 2 ^ 64) e short))

pub all-follow : (ms : List Node) → IsSound ms → length ms < 2 ^ 64 → AllFollow [] ms
all-follow ms s short = rest-follows [] ms s short

-- the bytes of one more record
records-push : (ms : List Node) (n : Node) → records_bytes (ms ++ n ∷ []) ≡ records_bytes ms ++ node_bytes n
records-push [] n = append-nil (node_bytes n)
records-push (m ∷ ms) n = ap (λ bs. node_bytes m ++ bs) (records-push ms n) ∙ sym (append_assoc (node_bytes m) (records_bytes ms) (node_bytes n))

-- one node further: it is kept, and its record is written
pub records-kept : (ns : List Node) (ks : List Bool) (k : ℕ) (n : Node) (old mid new : List ℕ) → slice_get ns k ≡ Some n → Keeps ks k → mid ≡ old ++ records_bytes (thin_to ns ks k) → new ≡ mid ++ node_bytes (renumbered (rank ks) n) → new ≡ old ++ records_bytes (thin_to ns ks (k + 1))
records-kept ns ks k n old mid new at keep before e =
    let m : Node = renumbered (rank ks) n in
    let one : suc k ≡ k + 1 = omega arith in
    let more : thin_to ns ks (k + 1) ≡ thin_to ns ks k ++ m ∷ [] = ap (thin_to ns ks) (sym one) ∙ thin-on ns ks k n at keep in
    let bytes : records_bytes (thin_to ns ks (k + 1)) ≡ records_bytes (thin_to ns ks k) ++ node_bytes m = ap records_bytes more ∙ records-push (thin_to ns ks k) m in
    e ∙ (ap (λ bs. bs ++ node_bytes m) before ∙ (append_assoc old (records_bytes (thin_to ns ks k)) (node_bytes m) ∙ ap (λ bs. old ++ bs) (sym bytes)))

-- or it isn't kept, and nothing is written
pub records-same : (ns : List Node) (ks : List Bool) (k : ℕ) (old new : List ℕ) → get_or ks k false ≡ false → new ≡ old ++ records_bytes (thin_to ns ks k) → new ≡ old ++ records_bytes (thin_to ns ks (k + 1))
records-same ns ks k old new none before = before ∙ ap (λ ms. old ++ records_bytes ms) (kept-same ns ks k none)
