-- A text is cut at the first of a byte in one way.
use Rattle.std.proofs.Common.{◌≡◌, ◌≢◌, ℕ, zero, suc, ◌<◌, ◌^◌, Bool, true, false, List, [], ◌∷◌, ◌++◌, length, refl, sym, ◌∙◌, subst, arith, ap, get_or, eq-eqb}
use Rattle.std.specs.Prelude.{◌&&◌, ◌==◌, not, All, slice_get, nat_le}
use Rattle.std.specs.List.{list_all}
use Rattle.std.specs.Option.{option_map_or}
use Rattle.std.specs.Fmt.{decimal}
use Rattle.std.specs.Char.{digit_value}
use Rattle.std.specs.Str.Parse.{AllDigits}
use Rattle.std.proofs.lemmas.Fmt.{decimal_is_IsNumeral, decimal_injective}
use Rattle.span_types.specs.Names.{is_name, is_first_byte, is_later_byte}
use Rattle.line_parts.specs.Numbers.{IsNum}

-- none of the bytes is s
abbrev pub NoByte : ℕ → List ℕ → Type 0
NoByte s [] = Unit {0}
NoByte s (b ∷ bs) = (b ≢ s) × NoByte s bs

pub from_all : (s : ℕ) (xs : List ℕ) → All (λ b. b ≢ s) xs → NoByte s xs
from_all s [] h = tt
from_all s (b ∷ bs) h = (h 0 0 (omega arith), from_all s bs (λ k d lt. h (suc k) d (omega arith)))

byte_at : (s : ℕ) (xs : List ℕ) → NoByte s xs → (k d : ℕ) → k < length xs → get_or xs k d ≢ s
byte_at s [] h k d lt = omega arith
byte_at s (b ∷ bs) h zero d lt = h.0
byte_at s (b ∷ bs) h (suc k) d lt = byte_at s bs h.1 k d (omega arith)

pub to_all : (s : ℕ) (xs : List ℕ) → NoByte s xs → All (λ b. b ≢ s) xs
to_all s xs h = byte_at s xs h

-- the same as a test, which computes on a literal
abbrev pub no_byte : ℕ → List ℕ → Bool
no_byte s [] = true
no_byte s (b ∷ bs) = not (b == s) && no_byte s bs

pub both : (x y : Bool) → (x && y) ≡ true → (x ≡ true) × (y ≡ true)
both true y h = (refl, h)
both false y h = let bad : ⊥ = cc in absurd bad

pub not_true : false ≡ true → ⊥
not_true e = let bad : ⊥ = cc in bad

other_byte : (s b : ℕ) → not (b == s) ≡ true → b ≢ s
other_byte s b h e = let is : not (b == s) ≡ false = ap not (eq-eqb b s e) in let bad : ⊥ = cc (is, h) in bad

pub from_test : (s : ℕ) (xs : List ℕ) → no_byte s xs ≡ true → NoByte s xs
from_test s [] h = tt
from_test s (b ∷ bs) h = let parts = both (not (b == s)) (no_byte s bs) h in (other_byte s b parts.0, from_test s bs parts.1)

later_plain : (s : ℕ) (xs : List ℕ) → is_later_byte s ≡ false → list_all is_later_byte xs ≡ true → NoByte s xs
later_plain s [] other h = tt
later_plain s (b ∷ bs) other h =
    let parts = both (is_later_byte b) (list_all is_later_byte bs) h in
    ((λ e. let is : is_later_byte b ≡ is_later_byte s = ap is_later_byte e in let bad : ⊥ = cc (is, other, parts.0) in bad), later_plain s bs other parts.1)

-- a name has no byte that no name has
pub name_plain : (s : ℕ) (name : List ℕ) → is_later_byte s ≡ false → is_name name ≡ true → NoByte s name
name_plain s name other h =
    let parts = both (option_map_or is_first_byte (slice_get name 0) false) (nat_le (length name) 64 && list_all is_later_byte name) h in
    later_plain s name other (both (nat_le (length name) 64) (list_all is_later_byte name) parts.1).1

digits_plain : (s : ℕ) (ds : List ℕ) → (digit_value s < 10 → ⊥) → AllDigits 10 ds → NoByte s ds
digits_plain s [] other h = tt
digits_plain s (d ∷ ds) other h = ((λ e. other (subst (λ (n : ℕ). digit_value n < 10) e h.0)), digits_plain s ds other h.1)

-- a printed number has no byte that is no digit
pub decimal_plain : (s n : ℕ) → (digit_value s < 10 → ⊥) → n < 2 ^ 64 → NoByte s (decimal n)
decimal_plain s n other h = digits_plain s (decimal n) other (decimal_is_IsNumeral n h).0.1

pub num_plain : (s : ℕ) (text : List ℕ) (n : ℕ) → (digit_value s < 10 → ⊥) → IsNum text n → NoByte s text
num_plain s text n other h = subst (NoByte s) (sym h.digits) (decimal_plain s n other h.fits)

-- a text is one number
pub same_num : (text : List ℕ) (m n : ℕ) → IsNum text m → IsNum text n → m ≡ n
same_num text m n h k = decimal_injective m n h.fits k.fits (sym h.digits ∙ k.digits)

pub no_cut : (s : ℕ) (word rest : List ℕ) → NoByte s (word ++ s ∷ rest) → ⊥
no_cut s [] rest h = h.0 refl
no_cut s (b ∷ bs) rest h = no_cut s bs rest h.1

-- a text is cut at its first s in one way
pub one_cut : (s : ℕ) (p q p' q' : List ℕ) → NoByte s p → NoByte s p' → p ++ s ∷ q ≡ p' ++ s ∷ q' → (p ≡ p') × (q ≡ q')
one_cut s [] q [] q' h h' e = (refl, cc)
one_cut s [] q (b ∷ p') q' h h' e = let same : b ≡ s = cc in absurd (h'.0 same)
one_cut s (a ∷ p) q [] q' h h' e = let same : a ≡ s = cc in absurd (h.0 same)
one_cut s (a ∷ p) q (b ∷ p') q' h h' e =
    let heads : a ≡ b = cc in
    let tails : p ++ s ∷ q ≡ p' ++ s ∷ q' = cc in
    let rest = one_cut s p q p' q' h.1 h'.1 tails in
    (cc (heads, rest.0), rest.1)
