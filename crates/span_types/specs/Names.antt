-- What a name is.
use Rattle.std.specs.Prelude.{ℕ, ◌==◌, ◌&&◌, ◌||◌, Bool, false, List, length, nat_le, slice_get}
use Rattle.std.specs.Option.{option_map_or}
use Rattle.std.specs.List.{list_all}

-- low ≤ b ≤ high
abbrev pub is_between : ℕ → ℕ → ℕ → Bool
is_between low high b = nat_le low b && nat_le b high

-- an ASCII letter or `_`
abbrev pub is_first_byte : ℕ → Bool
is_first_byte b = is_between 65 90 b || (is_between 97 122 b || b == 95)

-- an ASCII letter, a digit, `_`, `.` or `-`
abbrev pub is_later_byte : ℕ → Bool
is_later_byte b = is_first_byte b || (is_between 48 57 b || (b == 46 || b == 45))

-- 1 to 64 of these bytes, the first a letter or `_`
abbrev pub is_name : List ℕ → Bool
is_name bytes = option_map_or is_first_byte (slice_get bytes 0) false && (nat_le (length bytes) 64 && list_all is_later_byte bytes)
