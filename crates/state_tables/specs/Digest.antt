-- A number of 128 bits computed from a table, by which equal tables are found. It is two numbers of 64 bits, the first
-- one the lower half.
use Rattle.std.specs.Prelude.{ℕ, ◌+◌, ◌-◌, ◌*◌, ◌/◌, ◌%◌, ◌^◌, List, length, bit_and, bit_xor}
use Rattle.state_tables.specs.StateSet.{word_count, words_of}
use Rattle.state_tables.specs.Table.{Row}
use Rattle.state_tables.specs.Coded.{code_of}
use Rattle.state_tables.specs.Weights.{weighted}

abbrev pub low_of : ℕ → ℕ
low_of n = bit_and n (2 ^ 64 - 1)

abbrev pub high_of : ℕ → ℕ
high_of n = n / 2 ^ 64

-- the first number with the lower half of a further one, times an odd constant
abbrev pub across_of : ℕ → ℕ → ℕ
across_of digest n = bit_xor (low_of digest) (low_of n) * 0x9e37_79b9_7f4a_7c15

-- the upper half of that product is added to the second number, and the upper half of the further one is joined to it
abbrev pub second_of : ℕ → ℕ → ℕ → ℕ
second_of digest n across = bit_xor ((high_of digest + high_of across) % 2 ^ 64) (high_of n)

-- and that times an odd constant goes back to the first number
abbrev pub joined_of : ℕ → ℕ → ℕ
joined_of across back = low_of back * 2 ^ 64 + (low_of across + high_of back) % 2 ^ 64

-- the digest of some numbers and then one more
unfoldable pub digest_with : ℕ → ℕ → ℕ
digest_with digest n = joined_of (across_of digest n) (second_of digest n (across_of digest n) * 0xd6e8_feb8_6659_fd93)

-- the digest of a sum modulo 2^64
abbrev pub sum_digest : ℕ → ℕ
sum_digest n = digest_with 0x1319_8a2e_0370_7344_243f_6a88_85a3_08d3 (n % 2 ^ 64)

-- a number of 64 bits for a word: the two halves of its product with an odd constant, added
unfoldable pub word_number : ℕ → ℕ
word_number word = (low_of (word * 0x9e37_79b9_7f4a_7c15) + high_of (word * 0x9e37_79b9_7f4a_7c15)) % 2 ^ 64

-- the digest of a set, of the numbers of its words, each times the weight of its index
unfoldable pub set_digest : List ℕ → ℕ
set_digest words = sum_digest (weighted word_number 0 words)

-- a number of 64 bits for a row, of the words of its set and its code
unfoldable pub row_number : ℕ → Row → ℕ
row_number width row = low_of (digest_with (set_digest (words_of width row.marked)) (code_of row.unmarked))

-- the digest of a table, of the numbers of its rows, each times the weight of its state
unfoldable pub digest_of : List Row → ℕ
digest_of t = sum_digest (weighted (row_number (word_count (length t))) 0 t)
