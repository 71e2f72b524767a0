-- Words, and the table of those whose nodes are known.
use Rattle.std.specs.Prelude.{◌≡◌, ℕ, ◌<◌, nat_lt, if◌then◌else◌, List, take, length, All}
use Rattle.std.specs.Int.{w64, to_le_bytes}
use Rattle.slp_model.specs.declared.Node.{Node}
use Rattle.slp_model.specs.Tree.{text, height}
use Rattle.slp_model.specs.Nodes.{tree}
use Rattle.share_loader.specs.declared.words.Entry.{Entry}

-- the height of the node of n bytes, where n is 1 to 8: the least h with n ≤ 2^h
abbrev pub word_height : ℕ → ℕ
word_height n = if nat_lt n 2 then 0 else if nat_lt n 3 then 1 else if nat_lt n 5 then 2 else 3

-- the node with index i has the text s, and is as high as a word of its length
pub record IsWordAt (ns : List Node) (s : List ℕ) (i : ℕ) : Type 0 where
  pub live : i < length ns
  pub reads : text (tree ns i) ≡ s
  pub high : height (tree ns i) ≡ word_height (length s)

-- the bytes of an entry's word
abbrev pub entry_word : Entry → List ℕ
entry_word e = take e.len (to_le_bytes w64 e.bytes)

-- an entry is empty, or its node is that of its word
abbrev pub IsKnown : List Node → Entry → Type 0
IsKnown ns e = 0 < e.len → IsWordAt ns (entry_word e) e.index

abbrev pub AreKnown : List Node → List Entry → Type 0
AreKnown ns entries = All (IsKnown ns) entries
