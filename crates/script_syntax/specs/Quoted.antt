-- Bytes between quotes.
use Rattle.std.specs.Prelude.{◌≡◌, ◌⊎◌, ℕ, ◌+◌, ◌-◌, ◌*◌, ◌==◌, ◌&&◌, not, nat_le, Bool, true, List, [], ◌∷◌, ◌++◌, Option, Some, None, if◌then◌else◌}

-- a byte that stands for itself: 0x20 to 0x7E, without the quote and the backslash
abbrev pub is_plain : ℕ → Bool
is_plain b = nat_le 32 b && (nat_le b 126 && (not (b == 34) && not (b == 92)))

-- the byte that a sign after a backslash stands for
abbrev pub escaped : ℕ → Option ℕ
escaped sign = if sign == 34 then Some 34 else
    if sign == 92 then Some 92 else
    if sign == 110 then Some 10 else
    if sign == 114 then Some 13 else
    if sign == 116 then Some 9 else None

-- the value of a lower-case hexadecimal digit
abbrev pub hex_value : ℕ → Option ℕ
hex_value digit = if nat_le 48 digit && nat_le digit 57 then Some (digit - 48) else
    if nat_le 97 digit && nat_le digit 102 then Some (digit - 87) else None

-- the text begins with an item for this byte, and these bytes follow the item
abbrev pub StartsWith : List ℕ → ℕ → List ℕ → Type 0
StartsWith text b rest = ((is_plain b ≡ true) × (text ≡ b ∷ rest))
    ⊎ ((sign : ℕ) × (escaped sign ≡ Some b) × (text ≡ 92 ∷ sign ∷ rest))
    ⊎ ((high low h l : ℕ) × (hex_value high ≡ Some h) × (hex_value low ≡ Some l) × (b ≡ 16 * h + l) × (text ≡ 92 ∷ 120 ∷ high ∷ low ∷ rest))

-- the text is an item for each of the bytes
abbrev pub AreItems : List ℕ → List ℕ → Type 0
AreItems text [] = text ≡ []
AreItems text (b ∷ bytes) = (rest : List ℕ) × StartsWith text b rest × AreItems rest bytes

-- QUOTED: a quote, the items of the bytes, and a quote
abbrev pub IsQuoted : List ℕ → List ℕ → Type 0
IsQuoted text bytes = (items : List ℕ) × AreItems items bytes × (text ≡ 34 ∷ items ++ 34 ∷ [])
