-- A text has exactly one first word, and what may follow an expression ends a word.
use Rattle.std.proofs.Common.{◌≡◌, inl, inr, ℕ, suc, ◌<◌, ◌^◌, ◌==◌, ◌&&◌, ◌||◌, Bool, true, false, nat_le, List, [], ◌∷◌, ◌++◌, refl, sym, ap, subst, ◌∙◌, arith, slice_get}
use Rattle.std.specs.Prelude.{All, if◌then◌else◌, length}
use Rattle.std.specs.List.{list_all}
use Rattle.std.specs.Option.{option_map_or}
use Rattle.std.specs.Fmt.{decimal}
use Rattle.std.specs.Str.Parse.{AllDigits}
use Rattle.std.specs.Char.{digit_value}
use Rattle.std.proofs.lemmas.Bool.{le-leb}
use Rattle.std.proofs.lemmas.Bool.Decides.{Decides-eqb}
use Rattle.std.proofs.lemmas.Fmt.{decimal_is_IsNumeral}
use Rattle.std.proofs.lemmas.Str.Parse.{digit_from_value}
use Rattle.span_types.specs.Names.{is_between, is_first_byte, is_later_byte, is_name}
use Rattle.edit_expr.specs.Expressions.{AreTokens, trimmed}
use Rattle.edit_expr.specs.Operations.{IsClosing, IsWordEnd}

both : (x y : Bool) → (x && y) ≡ true → (x ≡ true) × (y ≡ true)
both true y h = (refl, h)
both false y h = let bad : ⊥ = cc in absurd bad

either_right : (x y : Bool) → y ≡ true → (x || y) ≡ true
either_right true y h = refl
either_right false y h = h

either_left : (x y : Bool) → x ≡ true → (x || y) ≡ true
either_left true y h = refl
either_left false y h = let bad : ⊥ = cc in absurd bad

heads : (a b : ℕ) (xs ys : List ℕ) → a ∷ xs ≡ b ∷ ys → a ≡ b
heads a b xs ys e = cc

pub tails : (a b : ℕ) (xs ys : List ℕ) → a ∷ xs ≡ b ∷ ys → xs ≡ ys
tails a b xs ys e = cc

-- only bytes of a word
abbrev pub AreLetters : List ℕ → Type 0
AreLetters w = list_all is_later_byte w ≡ true

pub letters_of : (w : List ℕ) → All (λ b. is_later_byte b ≡ true) w → AreLetters w
letters_of [] h = refl
letters_of (b ∷ bs) h =
    let first : is_later_byte b ≡ true = h 0 0 (omega arith) in
    let rest = letters_of bs (λ k d lt. h (suc k) d (omega arith)) in
    rw (first, rest) refl

pub name_letters : (name : List ℕ) → is_name name ≡ true → AreLetters name
name_letters name h =
    let parts = both (option_map_or is_first_byte (slice_get name 0) false) (nat_le (length name) 64 && list_all is_later_byte name) h in
    (both (nat_le (length name) 64) (list_all is_later_byte name) parts.1).1

digit_later : (c : ℕ) → digit_value c < 10 → is_later_byte c ≡ true
digit_later c h =
    let range = digit_from_value c h in
    let between : is_between 48 57 c ≡ true = rw (le-leb 48 c range.0, le-leb c 57 range.1) refl in
    either_right (is_first_byte c) _ (either_left (is_between 48 57 c) _ between)

digits_letters : (ds : List ℕ) → AllDigits 10 ds → AreLetters ds
digits_letters [] h = refl
digits_letters (d ∷ ds) h = rw (digit_later d h.0, digits_letters ds h.1) refl

pub decimal_letters : (n : ℕ) → n < 2 ^ 64 → AreLetters (decimal n)
decimal_letters n h = digits_letters (decimal n) (decimal_is_IsNumeral n h).0.1

ends : (b : ℕ) (x xs : List ℕ) → IsWordEnd x → x ≡ b ∷ xs → is_later_byte b ≡ true → ⊥
ends b x xs end e later = let is : is_later_byte b ≡ false = subst IsWordEnd e end in let bad : ⊥ = cc (is, later) in bad

-- two first words of one text
pub word_same : (w v x y : List ℕ) → AreLetters w → AreLetters v → IsWordEnd x → IsWordEnd y → w ++ x ≡ v ++ y → (w ≡ v) × (x ≡ y)
word_same [] [] x y hw hv ex ey e = (refl, e)
word_same [] (b ∷ v) x y hw hv ex ey e = absurd (ends b x (v ++ y) ex e (both (is_later_byte b) (list_all is_later_byte v) hv).0)
word_same (a ∷ w) [] x y hw hv ex ey e = absurd (ends a y (w ++ x) ey (sym e) (both (is_later_byte a) (list_all is_later_byte w) hw).0)
word_same (a ∷ w) (b ∷ v) x y hw hv ex ey e =
    let rest = word_same w v x y (both (is_later_byte a) (list_all is_later_byte w) hw).1 (both (is_later_byte b) (list_all is_later_byte v) hv).1 ex ey (tails a b (w ++ x) (v ++ y) e) in
    let head = heads a b (w ++ x) (v ++ y) e in
    (cc (head, rest.0), rest.1)

-- spaces end a word
spaced_end : (text : List ℕ) → IsWordEnd (trimmed text) → IsWordEnd text
spaced_end [] h = refl
spaced_end (b ∷ bs) h = by (b == 32) refl h
  where
    by : (v : Bool) → b == 32 ≡ v → IsWordEnd (if v then trimmed bs else b ∷ bs) → is_later_byte b ≡ false
    by true e h = let is : b ≡ 32 = (Decides-eqb b 32).0 e in ap is_later_byte is
    by false e h = h

-- a sign ends a word, also after spaces
pub sign_end : (s : ℕ) (text rest : List ℕ) → is_later_byte s ≡ false → trimmed text ≡ s ∷ rest → IsWordEnd text
sign_end s text rest h e = spaced_end text (subst IsWordEnd (sym e) h)

pub closing_end : (others : List (List ℕ)) (text : List ℕ) → IsClosing others → AreTokens others text → IsWordEnd text
closing_end [] text c a = spaced_end text (subst IsWordEnd (sym a) refl)
closing_end (t ∷ ts) text (inl e) a = sign_end 44 text a.0 refl (a.1 ∙ ap (λ (x : List ℕ). x ++ a.0) e)
closing_end (t ∷ ts) text (inr e) a = sign_end 41 text a.0 refl (a.1 ∙ ap (λ (x : List ℕ). x ++ a.0) e)

-- no bracket opens there
pub closing_shut : (others : List (List ℕ)) (text rest : List ℕ) → IsClosing others → AreTokens others text → trimmed text ≡ 40 ∷ rest → ⊥
closing_shut [] text rest c a e = let bad : ⊥ = cc (a, e) in bad
closing_shut (t ∷ ts) text rest (inl h) a e =
    let is : 44 ≡ 40 = heads 44 40 a.0 rest (sym (a.1 ∙ ap (λ (x : List ℕ). x ++ a.0) h) ∙ e) in omega (arith, is)
closing_shut (t ∷ ts) text rest (inr h) a e =
    let is : 41 ≡ 40 = heads 41 40 a.0 rest (sym (a.1 ∙ ap (λ (x : List ℕ). x ++ a.0) h) ∙ e) in omega (arith, is)
