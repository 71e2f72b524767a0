-- Symbols and their texts, over a store that grows.
use Rattle.std.proofs.Common.{◌≡◌, ℕ, ◌+◌, ◌<◌, ◌≤◌, ◌^◌, List, [], ◌∷◌, ◌++◌, length, get_or, take, drop, refl, ap, sym, subst, ◌∙◌, arith, append_assoc, append-nil, length-append}
use Rattle.std.specs.List.{All}
use Rattle.std.proofs.lemmas.List.{take-append-drop, length-drop, get_or-drop}
use Rattle.std.proofs.lemmas.List.Elements.{All-nil, All-weaker, All-head, All-tail, All-push, All-drop}
use Rattle.slp_model.specs.declared.Node.{Node}
use Rattle.slp_model.specs.Tree.{Tree, Fork, text, height, leaves}
use Rattle.slp_model.specs.Nodes.{tree, Grows}
use Rattle.slp_model.proofs.TreeLemmas.{length-text, leaves-positive}
use Rattle.slp_model.proofs.NodesLemmas.{tree-grows, Grows-length}
use Rattle.share_loader.specs.declared.symbols.Symbol.{Symbol}
use Rattle.share_loader.specs.Symbols.{IsSymbol, IsOfLevel, AreSymbols, symbols_text, IsNoneAlone, IsGroup}

pub symbol-grows : (old new : List Node) (p q : ℕ) → Grows old new p q → (x : Symbol) → IsSymbol old x → IsSymbol new x
symbol-grows old new p q g x s = record {
  live = omega (arith, s.live, Grows-length old new p q g);
  high = ap height (tree-grows old new p q g x.node.index s.live) ∙ s.high;
}

pub symbols-grow : (old new : List Node) (p q : ℕ) → Grows old new p q → (h : ℕ) (xs : List Symbol) → AreSymbols old h xs → AreSymbols new h xs
symbols-grow old new p q g h xs s = record {
  each = All-weaker (IsSymbol old) (IsSymbol new) (λ (x : Symbol). symbol-grows old new p q g x) xs s.each;
  level = s.level;
}

all-text-grows : (old new : List Node) (p q : ℕ) → Grows old new p q → (xs : List Symbol) → All (IsSymbol old) xs → symbols_text new xs ≡ symbols_text old xs
all-text-grows old new p q g [] s = refl
all-text-grows old new p q g (x ∷ xs) s =
    let a : tree new x.node.index ≡ tree old x.node.index = tree-grows old new p q g x.node.index (All-head (IsSymbol old) x xs s).live in
    let b : symbols_text new xs ≡ symbols_text old xs = all-text-grows old new p q g xs (All-tail (IsSymbol old) x xs s) in
    ap (λ t. text t ++ symbols_text new xs) a ∙ ap (λ t. text (tree old x.node.index) ++ t) b

pub text-grows : (old new : List Node) (p q : ℕ) → Grows old new p q → (h : ℕ) (xs : List Symbol) → AreSymbols old h xs → symbols_text new xs ≡ symbols_text old xs
text-grows old new p q g h xs s = all-text-grows old new p q g xs s.each

pub text-append : (ns : List Node) (xs ys : List Symbol) → symbols_text ns (xs ++ ys) ≡ symbols_text ns xs ++ symbols_text ns ys
text-append ns [] ys = refl
text-append ns (x ∷ xs) ys = ap (λ t. text (tree ns x.node.index) ++ t) (text-append ns xs ys) ∙ sym (append_assoc (text (tree ns x.node.index)) (symbols_text ns xs) (symbols_text ns ys))

pub text-push : (ns : List Node) (xs : List Symbol) (x : Symbol) → symbols_text ns (xs ++ x ∷ []) ≡ symbols_text ns xs ++ text (tree ns x.node.index)
text-push ns xs x = text-append ns xs (x ∷ []) ∙ ap (λ t. symbols_text ns xs ++ t) (append-nil (text (tree ns x.node.index)))

pub text-split : (ns : List Node) (n : ℕ) (xs : List Symbol) → symbols_text ns (take n xs) ++ symbols_text ns (drop n xs) ≡ symbols_text ns xs
text-split ns n xs = sym (text-append ns (take n xs) (drop n xs)) ∙ ap (symbols_text ns) (take-append-drop n xs)

-- there are no more symbols than bytes
pub text-long : (ns : List Node) (xs : List Symbol) → length xs ≤ length (symbols_text ns xs)
text-long ns [] = omega arith
text-long ns (x ∷ xs) =
    omega (arith, text-long ns xs, length-append (text (tree ns x.node.index)) (symbols_text ns xs), length-text (tree ns x.node.index), leaves-positive (tree ns x.node.index))

pub symbols-push : (ns : List Node) (h : ℕ) (xs : List Symbol) (x : Symbol) → AreSymbols ns h xs → IsSymbol ns x → IsOfLevel h x → AreSymbols ns h (xs ++ x ∷ [])
symbols-push ns h xs x s a b = record {
  each = All-push (IsSymbol ns) xs x s.each a;
  level = All-push (IsOfLevel h) xs x s.level b;
}

pub symbols-drop : (ns : List Node) (h n : ℕ) (xs : List Symbol) → AreSymbols ns h xs → AreSymbols ns h (drop n xs)
symbols-drop ns h n xs s = record {
  each = All-drop (IsSymbol ns) n xs s.each;
  level = All-drop (IsOfLevel h) n xs s.level;
}

pub none-alone : (h n : ℕ) (xs : List Symbol) → IsGroup h xs n → IsNoneAlone h (drop n xs)
none-alone h n xs g = record {
  alone = λ d one.
      let long : length xs ≡ n + 1 = omega (arith, one, length-drop n xs, g.within) in
      let same : n + 0 ≡ n = omega arith in
      let here : get_or (drop n xs) 0 d ≡ get_or xs n d = get_or-drop n xs 0 d ∙ ap (λ k. get_or xs k d) same in
      subst (λ (x : Symbol). h < x.height) (sym here) (g.left d long);
}

pub text-of_one : (ns : List Node) (xs : List Symbol) (d : Symbol) → 0 < length xs → text (tree ns (get_or xs 0 d).node.index) ≡ symbols_text ns (take 1 xs)
text-of_one ns [] d h = absurd (omega arith)
text-of_one ns (a ∷ xs) d h = sym (append-nil (text (tree ns a.node.index)))

pub text-of_two : (ns : List Node) (xs : List Symbol) (d : Symbol) → 2 ≤ length xs → text (tree ns (get_or xs 0 d).node.index) ++ text (tree ns (get_or xs 1 d).node.index) ≡ symbols_text ns (take 2 xs)
text-of_two ns [] d h = absurd (omega arith)
text-of_two ns (a ∷ []) d h = absurd (omega arith)
text-of_two ns (a ∷ b ∷ xs) d h = ap (λ t. text (tree ns a.node.index) ++ t) (sym (append-nil (text (tree ns b.node.index))))

pub text-of_three : (ns : List Node) (xs : List Symbol) (d : Symbol) → 3 ≤ length xs → text (tree ns (get_or xs 0 d).node.index) ++ (text (tree ns (get_or xs 1 d).node.index) ++ text (tree ns (get_or xs 2 d).node.index)) ≡ symbols_text ns (take 3 xs)
text-of_three ns [] d h = absurd (omega arith)
text-of_three ns (a ∷ []) d h = absurd (omega arith)
text-of_three ns (a ∷ b ∷ []) d h = absurd (omega arith)
text-of_three ns (a ∷ b ∷ c ∷ xs) d h = ap (λ t. text (tree ns a.node.index) ++ (text (tree ns b.node.index) ++ t)) (sym (append-nil (text (tree ns c.node.index))))

text-first : (ns : List Node) (n : ℕ) (xs : List Symbol) → length (symbols_text ns (take n xs)) ≤ length (symbols_text ns xs)
text-first ns n xs = omega (arith, ap length (text-split ns n xs), length-append (symbols_text ns (take n xs)) (symbols_text ns (drop n xs)))

pub short-of_two : (ns : List Node) (xs : List Symbol) (d : Symbol) → 2 ≤ length xs → length (symbols_text ns xs) ≤ 2 ^ 48 → leaves (tree ns (get_or xs 0 d).node.index) + leaves (tree ns (get_or xs 1 d).node.index) ≤ 2 ^ 48
short-of_two ns xs d h short =
    omega (arith, text-first ns 2 xs, ap length (text-of_two ns xs d h), length-append (text (tree ns (get_or xs 0 d).node.index)) (text (tree ns (get_or xs 1 d).node.index)), length-text (tree ns (get_or xs 0 d).node.index), length-text (tree ns (get_or xs 1 d).node.index))

pub short-of_three : (ns : List Node) (xs : List Symbol) (d : Symbol) → 3 ≤ length xs → length (symbols_text ns xs) ≤ 2 ^ 48 → leaves (tree ns (get_or xs 0 d).node.index) + (leaves (tree ns (get_or xs 1 d).node.index) + leaves (tree ns (get_or xs 2 d).node.index)) ≤ 2 ^ 48
short-of_three ns xs d h short =
    let a : Tree = tree ns (get_or xs 0 d).node.index in
    let b : Tree = tree ns (get_or xs 1 d).node.index in
    let c : Tree = tree ns (get_or xs 2 d).node.index in
    omega (arith, text-first ns 3 xs, ap length (text-of_three ns xs d h), length-append (text a) (text b ++ text c), length-append (text b) (text c), length-text a, length-text b, length-text c)

-- the two pairs of a bridge
pub record IsBridge (old mid : List Node) (l f s r before behind : ℕ) : Type 0 where
  pub first_pair : tree mid before ≡ Fork (tree old l) (tree old f)
  pub second_pair : tree mid behind ≡ Fork (tree old s) (tree old r)

pub bridge-of : (old one mid : List Node) (p q t : ℕ) → Grows old one p q → Grows one mid q t → (l f s r before behind : ℕ) → s < length old → r < length old → before < length one
    → tree one before ≡ Fork (tree old l) (tree old f) → tree mid behind ≡ Fork (tree one s) (tree one r) → IsBridge old mid l f s r before behind
bridge-of old one mid p q t g k l f s r before behind ls lr lb is js = record {
  first_pair = tree-grows one mid q t k before lb ∙ is;
  second_pair =
      let a : tree one s ≡ tree old s = tree-grows old one p q g s ls in
      let b : tree one r ≡ tree old r = tree-grows old one p q g r lr in
      js ∙ (ap (λ x. Fork x (tree one r)) a ∙ ap (λ x. Fork (tree old s) x) b);
}

pub text-of_four : (a b c d : List ℕ) → (a ++ b) ++ (c ++ d) ≡ a ++ ((b ++ c) ++ d)
text-of_four a b c d = simp append_assoc

pub symbols-none : (ns : List Node) (h : ℕ) → AreSymbols ns h []
symbols-none ns h = record { each = All-nil (IsSymbol ns); level = All-nil (IsOfLevel h) }

-- a group becomes the next symbol
pub round-text : (old new : List Node) (p q : ℕ) → Grows old new p q → (g h : ℕ) (next rest : List Symbol) (x : Symbol) (n : ℕ) (whole : List ℕ) → AreSymbols old g next → AreSymbols old h rest
    → text (tree new x.node.index) ≡ symbols_text old (take n rest) → symbols_text old next ++ symbols_text old rest ≡ whole → symbols_text new (next ++ x ∷ []) ++ symbols_text new (drop n rest) ≡ whole
round-text old new p q k g h next rest x n whole s r is all =
    let a : symbols_text new (next ++ x ∷ []) ≡ symbols_text old next ++ symbols_text old (take n rest) =
    text-push new next x ∙ (ap (λ t. t ++ text (tree new x.node.index)) (text-grows old new p q k g next s) ∙ ap (λ t. symbols_text old next ++ t) is) in
    let c : symbols_text new (drop n rest) ≡ symbols_text old (drop n rest) = text-grows old new p q k h (drop n rest) (symbols-drop old h n rest r) in
    ap (λ t. t ++ symbols_text new (drop n rest)) a
    ∙ (ap (λ t. (symbols_text old next ++ symbols_text old (take n rest)) ++ t) c
    ∙ (append_assoc (symbols_text old next) (symbols_text old (take n rest)) (symbols_text old (drop n rest))
    ∙ (ap (λ t. symbols_text old next ++ t) (text-split old n rest) ∙ all)))

-- the first symbol's bytes are among those of all
pub first-leaves : (ns : List Node) (xs : List Symbol) (d : Symbol) → 0 < length xs → leaves (tree ns (get_or xs 0 d).node.index) ≤ length (symbols_text ns xs)
first-leaves ns [] d h = absurd (omega arith)
first-leaves ns (x ∷ xs) d h = omega (arith, length-append (text (tree ns x.node.index)) (symbols_text ns xs), length-text (tree ns x.node.index))

-- the third of three symbols behind the pair of the first two
pub record IsThird (old mid : List Node) (xs : List Symbol) (d two : Symbol) : Type 0 where
  pub short : leaves (tree mid two.node.index) + leaves (tree mid (get_or xs 2 d).node.index) ≤ 2 ^ 48
  pub reads : text (tree mid two.node.index) ++ text (tree mid (get_or xs 2 d).node.index) ≡ symbols_text old (take 3 xs)

pub third-of : (old mid : List Node) (p q : ℕ) → Grows old mid p q → (h : ℕ) (xs : List Symbol) (d two : Symbol) → AreSymbols old h xs → 3 ≤ length xs → length (symbols_text old xs) ≤ 2 ^ 48
    → text (tree mid two.node.index) ≡ text (tree old (get_or xs 0 d).node.index) ++ text (tree old (get_or xs 1 d).node.index) → IsThird old mid xs d two
third-of old mid p q g h xs d two s long short is =
    let a : List ℕ = text (tree old (get_or xs 0 d).node.index) in
    let b : List ℕ = text (tree old (get_or xs 1 d).node.index) in
    let c : List ℕ = text (tree old (get_or xs 2 d).node.index) in
    let same : tree mid (get_or xs 2 d).node.index ≡ tree old (get_or xs 2 d).node.index = tree-grows old mid p q g _ (s.each 2 d long).live in
    let reads : text (tree mid two.node.index) ++ text (tree mid (get_or xs 2 d).node.index) ≡ symbols_text old (take 3 xs) =
    ap (λ t. t ++ text (tree mid (get_or xs 2 d).node.index)) is ∙ (ap (λ t. (a ++ b) ++ text t) same ∙ (append_assoc a b c ∙ text-of_three old xs d long)) in
    record {
      short = omega (arith, ap length reads, text-first old 3 xs, length-append (text (tree mid two.node.index)) (text (tree mid (get_or xs 2 d).node.index)), length-text (tree mid two.node.index), length-text (tree mid (get_or xs 2 d).node.index));
      reads = reads;
    }

pub some-symbols : (ns : List Node) (xs : List Symbol) → 0 < length (symbols_text ns xs) → 0 < length xs
some-symbols ns [] h = absurd (omega arith)
some-symbols ns (x ∷ xs) h = omega arith
