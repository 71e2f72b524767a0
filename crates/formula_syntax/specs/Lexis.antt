-- The bytes of a formula text: which are special, what an escape, a member, an item and a set stand for.
use Rattle.std.specs.Prelude.{◌≡◌, ℕ, zero, suc, ◌+◌, ◌-◌, ◌*◌, ◌≤◌, Bool, true, not, ◌&&◌, ◌||◌, ◌==◌, nat_le, List, [], ◌∷◌, ◌++◌, Option, Some, None, if◌then◌else◌}
use Rattle.std.specs.List.{list_any}

-- . [ ] ( ) { } | * + ? $ and the backslash
abbrev pub is_special : ℕ → Bool
is_special b = list_any (λ c. b == c) (46 ∷ 91 ∷ 93 ∷ 40 ∷ 41 ∷ 123 ∷ 125 ∷ 124 ∷ 42 ∷ 43 ∷ 63 ∷ 36 ∷ 92 ∷ [])

-- what stands for itself after a backslash
abbrev pub can_escape : ℕ → Bool
can_escape b = is_special b || (b == 45) || (b == 94)

-- the value of a hexadecimal digit of either case
abbrev pub hex_value : ℕ → Option ℕ
hex_value b =
    if nat_le 48 b && nat_le b 57 then Some (b - 48) else
    if nat_le 97 b && nat_le b 102 then Some (b - 87) else
    if nat_le 65 b && nat_le b 70 then Some (b - 55) else None

-- ESCAPE, and the byte that it stands for
pub data Escape : List ℕ → ℕ → Type 0 where
  newline : (s : List ℕ) (b : ℕ) → s ≡ 92 ∷ 110 ∷ [] → b ≡ 10 → Escape s b
  tab : (s : List ℕ) (b : ℕ) → s ≡ 92 ∷ 116 ∷ [] → b ≡ 9 → Escape s b
  return : (s : List ℕ) (b : ℕ) → s ≡ 92 ∷ 114 ∷ [] → b ≡ 13 → Escape s b
  hexadecimal : (s : List ℕ) (b h l x y : ℕ) → s ≡ 92 ∷ 120 ∷ h ∷ l ∷ [] → hex_value h ≡ Some x → hex_value l ≡ Some y → b ≡ 16 * x + y → Escape s b
  itself : (s : List ℕ) (b : ℕ) → s ≡ 92 ∷ b ∷ [] → can_escape b ≡ true → Escape s b

-- a byte that stands for itself among the members of a set: not ] \ - ^
abbrev pub is_plain_member : ℕ → Bool
is_plain_member b = not ((b == 93) || (b == 92) || (b == 45) || (b == 94))

-- MEMBER
pub data Member : List ℕ → ℕ → Type 0 where
  plain_member : (s : List ℕ) (b : ℕ) → s ≡ b ∷ [] → is_plain_member b ≡ true → Member s b
  escaped_member : (s : List ℕ) (b : ℕ) → Escape s b → Member s b

-- ITEM: the least and the greatest byte
pub data Item : List ℕ → ℕ → ℕ → Type 0 where
  one : (s : List ℕ) (low high : ℕ) → Member s low → high ≡ low → Item s low high
  range : (s a b : List ℕ) (low high : ℕ) → s ≡ a ++ 45 ∷ b → Member a low → Member b high → low ≤ high → Item s low high

-- any number of ITEM
pub data Items : List ℕ → List (ℕ × ℕ) → Type 0 where
  no_item : (s : List ℕ) (rs : List (ℕ × ℕ)) → s ≡ [] → rs ≡ [] → Items s rs
  item : (s a b : List ℕ) (low high : ℕ) (rs qs : List (ℕ × ℕ)) → s ≡ a ++ b → Item a low high → Items b qs → rs ≡ (low, high) ∷ qs → Items s rs

-- whether a byte is in one of the ranges
abbrev pub in_ranges : List (ℕ × ℕ) → ℕ → Bool
in_ranges rs b = list_any (λ r. nat_le r.0 b && nat_le b r.1) rs

-- a test at n bytes, from one byte on
abbrev pub tests_from : ℕ → ℕ → (ℕ → Bool) → List Bool
tests_from b zero p = []
tests_from b (suc n) p = p b ∷ tests_from (suc b) n p

-- the set of the bytes that pass a test, as 256 truth values
unfoldable pub bytes_where : (ℕ → Bool) → List Bool
bytes_where p = tests_from 0 256 p

-- a test or its opposite
abbrev pub negated : Bool → (ℕ → Bool) → ℕ → Bool
negated n p b = if n then not (p b) else p b

-- the sign of the complement
abbrev pub sign : Bool → List ℕ
sign n = if n then 94 ∷ [] else []
