use Rattle.std.proofs.Common.{rules, arith, ◌≡◌, ◌+◌, ◌-◌, ◌≤◌, length, take, drop, List, ℕ, ap, sym, subst, ◌∙◌}
use Rattle.std.proofs.lemmas.List.{length-take-le, drop-take}
use Rattle.slp_model.specs.Tree.{root_text, root_leaves}
use Rattle.slp_model.specs.Nodes.{root_tree}
use Rattle.slp_model.proofs.NodesLemmas.{Grows-trans}
use Rattle.slp_model.proofs.TreeLemmas.{length-root_text}
use Rattle.slp_split.proofs.extract.Goals as goal

pub split-requires-2-clause-to : goal.split-requires-2-clause-to
split-requires-2-clause-to g c =
    let n : length (root_text (root_tree c.args.store.now c.args.root)) ≡ root_leaves (root_tree c.args.store.now c.args.root) = length-root_text (root_tree c.args.store.now c.args.root) in
    let k : length (take (c.args.j - 1) (root_text (root_tree c.args.store.now c.args.root))) ≡ c.args.j - 1 = length-take-le (c.args.j - 1) (root_text (root_tree c.args.store.now c.args.root)) (omega (arith, n, c.requires.to)) in
    let e : length (root_text (root_tree c.split.new.store c.in_ok-prefix.prefix)) ≡ length (take (c.args.j - 1) (root_text (root_tree c.args.store.now c.args.root))) = ap length c.in_ok-prefix.ensures.before in
    omega (arith, e, k, length-root_text (root_tree c.split.new.store c.in_ok-prefix.prefix), c.requires.order, c.requires.from)

pub returns-in_err-middle-clause-grows : goal.returns-in_err-middle-clause-grows
returns-in_err-middle-clause-grows g c = Grows-trans _ _ _ _ _ _ c.split.ensures.grows c.split-2.ensures.grows

pub returns-clause-grows : goal.returns-clause-grows
returns-clause-grows g c = Grows-trans _ _ _ _ _ _ c.split.ensures.grows c.split-2.ensures.grows

cut : (i j : ℕ) (xs : List ℕ) → i ≤ j → drop i (take j xs) ≡ take (j - i) (drop i xs)
cut i j xs h = let e : i + (j - i) ≡ j = omega arith in subst (λ n. drop i (take n xs) ≡ take (j - i) (drop i xs)) e (drop-take i (j - i) xs)

pub returns-clause-text : goal.returns-clause-text
returns-clause-text g c =
    c.in_ok-middle.ensures.after ∙ (ap (λ x. drop (c.args.i - 1) x) c.in_ok-prefix.ensures.before ∙ cut (c.args.i - 1) (c.args.j - 1) (root_text (root_tree c.args.store.now c.args.root)) (omega (arith, c.requires.order)))
