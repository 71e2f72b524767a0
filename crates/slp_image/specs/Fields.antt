-- Fields of an image, read from the start of its bytes.
use Rattle.std.specs.Prelude.{ℕ, List, [], ◌∷◌, length, take, drop, Option, Some, None, Result, Ok, Err, nat_lt, if◌then◌else◌}
use Rattle.byteorder.specs.Endian.{big_number}
use Rattle.slp_image.specs.declared.refusal.ImageRefusal.{ImageRefusal}
use Rattle.slp_image.specs.declared.refusal.ImageRefusal.TheVariants.{Magic, Version, Cut, Kind, Child, Balance, Length, Root, Name, RepeatName, Rest, Count, NoMemory}

-- the number of a rejection, if it is not allocation failure
abbrev pub kind_of : ImageRefusal → Option ℕ
kind_of Magic = Some 1
kind_of Version = Some 2
kind_of Cut = Some 3
kind_of Kind = Some 4
kind_of Child = Some 5
kind_of Balance = Some 6
kind_of Length = Some 7
kind_of Root = Some 8
kind_of Name = Some 9
kind_of RepeatName = Some 10
kind_of Rest = Some 11
kind_of Count = Some 12
kind_of NoMemory = None

-- the first fault is the result
infixl 10 ◌>>=◌
abbrev pub ◌>>=◌ : {A B : Type 0} → Result A ImageRefusal → (A → Result B ImageRefusal) → Result B ImageRefusal
(Ok x) >>= f = f x
(Err e) >>= f = Err e

-- a field is a value and the bytes after it
abbrev pub Field : Type 0 → Type 0
Field A = Result (A × List ℕ) ImageRefusal

-- one byte
abbrev pub byte_at : List ℕ → Field ℕ
byte_at [] = Err Cut
byte_at (b ∷ rest) = Ok (b, rest)

-- a number of eight bytes
abbrev pub number_at : List ℕ → Field ℕ
number_at bytes = if nat_lt (length bytes) 8 then Err Cut else Ok (big_number 8 (take 8 bytes), drop 8 bytes)

-- the first n bytes
abbrev pub bytes_at : ℕ → List ℕ → Field (List ℕ)
bytes_at n bytes = if nat_lt (length bytes) n then Err Cut else Ok (take n bytes, drop n bytes)

-- the number of a record before the record with the number own
unfoldable pub child_at : ℕ → List ℕ → Field ℕ
child_at own bytes = do
  n ← number_at bytes
  if nat_lt n.0 own then Ok n else Err Child

-- the numbers of two such records
unfoldable pub children_at : ℕ → List ℕ → Field (ℕ × ℕ)
children_at own bytes = do
  left ← child_at own bytes
  right ← child_at own left.1
  Ok ((left.0, right.0), right.1)
