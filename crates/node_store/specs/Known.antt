-- Words of two, four and eight bytes whose blocks are known.
use Rattle.std.specs.Prelude.{◌≡◌, ◌⊎◌, ℕ, suc, List, All}
use Rattle.std.specs.Int.{Width, w16, w32, w64, to_le_bytes}
use Rattle.slp_model.specs.declared.Node.{Node}
use Rattle.node_store.specs.declared.words.LongWord.{LongWord}
use Rattle.node_store.specs.declared.words.ShortWord.{ShortWord}
use Rattle.node_store.specs.declared.words.WordSize.{WordSize}
use Rattle.node_store.specs.declared.words.WordSize.TheVariants.{Two, Four, Eight}
use Rattle.node_store.specs.Blocks.{IsBlockAt}

-- the height of the block of a word
abbrev pub height_of : WordSize → ℕ
height_of Two = 1
height_of Four = 2
height_of Eight = 3

-- the numbers with as many bytes as a word
abbrev pub width_of : WordSize → Width
width_of Two = w16
width_of Four = w32
width_of Eight = w64

-- the node with index i is the block of the word with these bytes, the first one lowest
abbrev pub IsBlockOfWord : List Node → WordSize → ℕ → ℕ → Type 0
IsBlockOfWord ns size bytes i = IsBlockAt ns (height_of size) (to_le_bytes (width_of size) bytes) i

-- an entry is empty, or the node that it leads to is the block of height h of its bytes
abbrev pub IsWordEntry : List Node → ℕ → Width → ℕ → ℕ → Type 0
IsWordEntry ns h w bytes link = (i : ℕ) → link ≡ suc i → IsBlockAt ns h (to_le_bytes w bytes) i

abbrev pub AreShortWords : List Node → ℕ → Width → List ShortWord → Type 0
AreShortWords ns h w words = All (λ x. IsWordEntry ns h w x.bytes x.link) words

abbrev pub AreLongWords : List Node → ℕ → Width → List LongWord → Type 0
AreLongWords ns h w words = All (λ x. IsWordEntry ns h w x.bytes x.link) words

-- the same entries, or none but empty ones
abbrev pub AreMade : {W : Type 0} → W → List W → List W → Type 0
AreMade none old new = (new ≡ old) ⊎ All (λ x. x ≡ none) new

-- the entries for words of two, four and eight bytes
pub record Known : Type 0 where
  pub twos : List ShortWord
  pub fours : List ShortWord
  pub eights : List LongWord

-- all of them are true of these nodes
pub record AreKnown (ns : List Node) (k : Known) : Type 0 where
  pub twos : AreShortWords ns 1 w16 k.twos
  pub fours : AreShortWords ns 2 w32 k.fours
  pub eights : AreLongWords ns 3 w64 k.eights
