-- Ranges of a text and their content (Fagin, Kimelfeld, Reiss and Vansummeren, JACM 2015).
use Rattle.std.specs.Prelude.{ℕ, ◌+◌, ◌-◌, ◌&&◌, Bool, nat_le, List, take, drop}

-- whether [i,j) is a range of a text of n bytes: 1 ≤ i ≤ j ≤ n+1
abbrev pub is_range : ℕ → ℕ → ℕ → Bool
is_range i j n = nat_le 1 i && (nat_le i j && nat_le j (n + 1))

-- the content of [i,j): the bytes i to j-1 of the text
abbrev pub content : List ℕ → ℕ → ℕ → List ℕ
content text i j = take (j - i) (drop (i - 1) text)
