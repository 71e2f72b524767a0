-- A quoted text stands for one list of bytes.
use Rattle.std.proofs.Common.{◌≡◌, ℕ, ◌+◌, ◌*◌, true, false, List, [], ◌∷◌, ◌++◌, length, refl, sym, ◌∙◌, ap, subst, inl, inr, append_assoc, arith}
use Rattle.std.specs.Prelude.{Option, Some, ◌==◌}
use Rattle.std.proofs.lemmas.Bool.{eqb-true}
use Rattle.script_syntax.specs.Quoted.{AreItems, IsQuoted, StartsWith, escaped, hex_value, is_plain}

abbrev OneStart : ℕ → ℕ → List ℕ → List ℕ → Type 0
OneStart b d rest more = (b ≡ d) × (rest ≡ more)

heads : (a b : ℕ) (xs ys : List ℕ) → a ∷ xs ≡ b ∷ ys → (a ≡ b) × (xs ≡ ys)
heads a b xs ys e = (cc, cc)

-- a plain byte is no backslash
no_backslash : (b : ℕ) (rest more text : List ℕ) → is_plain b ≡ true → text ≡ b ∷ rest → text ≡ 92 ∷ more → ⊥
no_backslash b rest more text plain is it =
    let same = (heads b 92 rest more (sym is ∙ it)).0 in
    let bad : is_plain 92 ≡ true = ap is_plain (sym same) ∙ plain in
    let worse : ⊥ = cc in worse

same_some : (a b : ℕ) (x y : Option ℕ) → x ≡ Some a → y ≡ Some b → x ≡ y → a ≡ b
same_some a b x y h k e = let both : Some a ≡ Some b = sym h ∙ e ∙ k in cc

no_sign : (b : ℕ) → escaped 120 ≡ Some b → ⊥
no_sign b e = let bad : ⊥ = cc in bad

pub one_start : (text : List ℕ) (b d : ℕ) (rest more : List ℕ) → StartsWith text b rest → StartsWith text d more → (b ≡ d) × (rest ≡ more)
one_start text b d rest more (inl (plain, is)) (inl (other, it)) = heads b d rest more (sym is ∙ it)
one_start text b d rest more (inl (plain, is)) (inr (inl (sign, e, it))) = absurd (no_backslash b rest (sign ∷ more) text plain is it)
one_start text b d rest more (inl (plain, is)) (inr (inr (high, low, h, l, e, f, g, it))) = absurd (no_backslash b rest (120 ∷ high ∷ low ∷ more) text plain is it)
one_start text b d rest more (inr (inl (sign, e, it))) (inl (other, is)) = absurd (no_backslash d more (sign ∷ rest) text other is it)
one_start text b d rest more (inr (inr (high, low, h, l, e, f, g, it))) (inl (other, is)) = absurd (no_backslash d more (120 ∷ high ∷ low ∷ rest) text other is it)
one_start text b d rest more (inr (inl (sign, e, is))) (inr (inl (sign2, f, it))) =
    let tails = heads sign sign2 rest more (heads 92 92 (sign ∷ rest) (sign2 ∷ more) (sym is ∙ it)).1 in
    (same_some b d (escaped sign) (escaped sign2) e f (ap escaped tails.0), tails.1)
one_start text b d rest more (inr (inl (sign, e, is))) (inr (inr (high, low, h, l, f, g, k, it))) =
    let same = (heads sign 120 rest (high ∷ low ∷ more) (heads 92 92 (sign ∷ rest) (120 ∷ high ∷ low ∷ more) (sym is ∙ it)).1).0 in
    absurd (no_sign b (ap escaped (sym same) ∙ e))
one_start text b d rest more (inr (inr (high, low, h, l, f, g, k, it))) (inr (inl (sign, e, is))) =
    let same = (heads sign 120 more (high ∷ low ∷ rest) (heads 92 92 (sign ∷ more) (120 ∷ high ∷ low ∷ rest) (sym is ∙ it)).1).0 in
    absurd (no_sign d (ap escaped (sym same) ∙ e))
one_start text b d rest more (inr (inr (high, low, h, l, f, g, k, is))) (inr (inr (high2, low2, h2, l2, f2, g2, k2, it))) =
    let first = (heads 120 120 (high ∷ low ∷ rest) (high2 ∷ low2 ∷ more) (heads 92 92 (120 ∷ high ∷ low ∷ rest) (120 ∷ high2 ∷ low2 ∷ more) (sym is ∙ it)).1).1 in
    let second = heads high high2 (low ∷ rest) (low2 ∷ more) first in
    let third = heads low low2 rest more second.1 in
    let highs = same_some h h2 (hex_value high) (hex_value high2) f f2 (ap hex_value second.0) in
    let lows = same_some l l2 (hex_value low) (hex_value low2) g g2 (ap hex_value third.0) in
    (k ∙ (λ i. 16 * highs i + lows i) ∙ sym k2, third.1)

not_empty : (text : List ℕ) (b : ℕ) (rest : List ℕ) → text ≡ [] → StartsWith text b rest → ⊥
not_empty text b rest none (inl (plain, is)) = let bad : [] ≡ b ∷ rest = sym none ∙ is in let worse : ⊥ = cc in worse
not_empty text b rest none (inr (inl (sign, e, is))) = let bad : [] ≡ 92 ∷ sign ∷ rest = sym none ∙ is in let worse : ⊥ = cc in worse
not_empty text b rest none (inr (inr (high, low, h, l, e, f, g, is))) = let bad : [] ≡ 92 ∷ 120 ∷ high ∷ low ∷ rest = sym none ∙ is in let worse : ⊥ = cc in worse

pub one_items : (bytes other text : List ℕ) → AreItems text bytes → AreItems text other → bytes ≡ other
one_items [] [] text h k = refl
one_items [] (d ∷ other) text h (more, starts, k) = absurd (not_empty text d more h starts)
one_items (b ∷ bytes) [] text (rest, starts, h) k = absurd (not_empty text b rest k starts)
one_items (b ∷ bytes) (d ∷ other) text (rest, starts, h) (more, begins, k) =
    let same = one_start text b d rest more starts begins in
    let tails = one_items bytes other rest h (subst (λ z. AreItems z other) (sym same.1) k) in
    λ i. same.0 i ∷ tails i

unquoted : (xs ys : List ℕ) → 34 ∷ xs ++ 34 ∷ [] ≡ 34 ∷ ys ++ 34 ∷ [] → xs ≡ ys
unquoted xs ys e = last xs ys (heads 34 34 (xs ++ 34 ∷ []) (ys ++ 34 ∷ []) e).1
  where
    last : (xs ys : List ℕ) → xs ++ 34 ∷ [] ≡ ys ++ 34 ∷ [] → xs ≡ ys
    last [] [] e = refl
    last [] (y ∷ []) e = let bad : ⊥ = cc in absurd bad
    last [] (y ∷ z ∷ ys) e = let bad : ⊥ = cc in absurd bad
    last (x ∷ []) [] e = let bad : ⊥ = cc in absurd bad
    last (x ∷ w ∷ xs) [] e = let bad : ⊥ = cc in absurd bad
    last (x ∷ xs) (y ∷ ys) e = let h = heads x y (xs ++ 34 ∷ []) (ys ++ 34 ∷ []) e in let t = last xs ys h.1 in λ i. h.0 i ∷ t i

pub one_quoted : (text bytes other : List ℕ) → IsQuoted text bytes → IsQuoted text other → bytes ≡ other
one_quoted text bytes other (items, h, is) (items2, k, it) =
    one_items bytes other items h (subst (λ z. AreItems z other) (sym (unquoted items items2 (sym is ∙ it))) k)

-- the test whether bytes are left
pub some_left : (rest : List ℕ) → false ≡ (length rest == 0) → rest ≡ [] → ⊥
some_left rest e none = let bad : false ≡ true = e ∙ ap (λ (z : List ℕ). length z == 0) none in let worse : ⊥ = cc in worse

pub none_left : (rest : List ℕ) → true ≡ (length rest == 0) → rest ≡ []
none_left [] e = refl
none_left (b ∷ rest) e = let none : length (b ∷ rest) ≡ 0 = eqb-true (length (b ∷ rest)) 0 (sym e) in absurd (omega (arith, none))

-- what was read of a text, and what is left of it, belong together
pub record IsReadTo (text read rest : List ℕ) : Type 0 where
  pub sound : (more : List ℕ) → AreItems rest more → AreItems text (read ++ more)
  pub whole : (all : List ℕ) → AreItems text all → (more : List ℕ) × (all ≡ read ++ more) × AreItems rest more

pub read_none : (text : List ℕ) → IsReadTo text [] text
read_none text = record { sound = λ more h. h; whole = λ all h. (all, refl, h) }

pub read_one : (text read rest : List ℕ) (b : ℕ) (more : List ℕ) → IsReadTo text read rest → (rest ≡ [] → ⊥) → StartsWith rest b more → IsReadTo text (read ++ b ∷ []) more
read_one text read rest b more h some starts = record {
  sound = λ left k. subst (AreItems text) (sym (append_assoc read (b ∷ []) left)) (h.sound (b ∷ left) (more, starts, k));
  whole = λ all k. step all (h.whole all k);
}
  where
    step : (all : List ℕ) → (left : List ℕ) × (all ≡ read ++ left) × AreItems rest left → (left : List ℕ) × (all ≡ (read ++ b ∷ []) ++ left) × AreItems more left
    step all ([], is, none) = absurd (some none)
    step all (d ∷ left, is, (after, begins, items)) =
        let same = one_start rest d b after more begins starts in
        (left, is ∙ (λ i. read ++ same.0 i ∷ left) ∙ sym (append_assoc read (b ∷ []) left), subst (λ z. AreItems z left) same.1 items)

pub read_stuck : (text read rest : List ℕ) → IsReadTo text read rest → (rest ≡ [] → ⊥) → ((b : ℕ) (more : List ℕ) → StartsWith rest b more → ⊥) → (all : List ℕ) → AreItems text all → ⊥
read_stuck text read rest h some bad all k = stuck (h.whole all k)
  where
    stuck : (more : List ℕ) × (all ≡ read ++ more) × AreItems rest more → ⊥
    stuck ([], is, none) = some none
    stuck (d ∷ left, is, (after, begins, items)) = bad d after begins

pub read_all : (text read rest : List ℕ) → IsReadTo text read rest → rest ≡ [] → AreItems text read
read_all text read rest h none = subst (AreItems text) (read_nothing read) (h.sound [] none)
  where
    read_nothing : (xs : List ℕ) → xs ++ [] ≡ xs
    read_nothing [] = refl
    read_nothing (x ∷ xs) = ap (λ z. x ∷ z) (read_nothing xs)

-- a text that begins like a hexadecimal item, but has no two digits there, begins with no item
pub no_hex : (text more : List ℕ) → text ≡ 92 ∷ 120 ∷ more
    → ((high low h l : ℕ) (rest : List ℕ) → hex_value high ≡ Some h → hex_value low ≡ Some l → more ≡ high ∷ low ∷ rest → ⊥) → (b : ℕ) (rest : List ℕ) → StartsWith text b rest → ⊥
no_hex text more is bad b rest (inl (plain, it)) = no_backslash b rest (120 ∷ more) text plain it is
no_hex text more is bad b rest (inr (inl (sign, e, it))) =
    let same = (heads sign 120 rest more (heads 92 92 (sign ∷ rest) (120 ∷ more) (sym it ∙ is)).1).0 in
    no_sign b (ap escaped (sym same) ∙ e)
no_hex text more is bad b rest (inr (inr (high, low, h, l, e, f, g, it))) =
    bad high low h l rest e f (heads 120 120 more (high ∷ low ∷ rest) (heads 92 92 (120 ∷ more) (120 ∷ high ∷ low ∷ rest) (sym is ∙ it)).1).1
