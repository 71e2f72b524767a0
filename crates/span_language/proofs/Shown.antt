-- What `show` prints is a quoted text of the same bytes.
use Rattle.std.proofs.Common.{◌≡◌, ℕ, suc, ◌/◌, ◌%◌, ◌^◌, ◌<◌, ◌≤◌, Bool, true, false, List, [], ◌∷◌, ◌++◌, length, refl, sym, ◌∙◌, ap, subst, inl, inr, arith, length-append}
use Rattle.std.specs.Prelude.{All, Some, ◌==◌, ◌&&◌, not, nat_le, nat_lt}
use Rattle.std.specs.List.{flat_map}
use Rattle.report_text.specs.Reply.{hex_digit, quoted, shown_byte}
use Rattle.std.proofs.lemmas.Bool.{eqb-true}
use Rattle.script_syntax.specs.Quoted.{AreItems, IsQuoted, StartsWith, hex_value}
use Rattle.script_syntax.specs.Syntax.{Reads}
use Rattle.script_syntax.specs.declared.form.Command.TheVariants as form
use Rattle.span_language.proofs.Names.{Command, ReadsShown}
use Rattle.span_language.specs.Step.{IsShort}

-- the digit of a number below 16 has this value
hexes : (d : ℕ) → d < 16 → hex_value (hex_digit d) ≡ Some d
hexes d h = by (nat_lt d 10) refl
  where
    by : (low : Bool) → nat_lt d 10 ≡ low → hex_value (hex_digit d) ≡ Some d
    by true e = grind arith
    by false e = grind arith

and_true : (x y : Bool) → (x && (y && true)) ≡ (x && y)
and_true true true = refl
and_true true false = refl
and_true false true = refl
and_true false false = refl

-- a shown byte, by the three tests
abbrev shown_as : Bool → Bool → Bool → ℕ → List ℕ
shown_as true slash plain b = 92 ∷ 34 ∷ []
shown_as false true plain b = 92 ∷ 92 ∷ []
shown_as false false true b = b ∷ []
shown_as false false false b = 92 ∷ 120 ∷ hex_digit (b / 16) ∷ hex_digit (b % 16) ∷ []

by_tests : (b : ℕ) (x y z : Bool) → (b == 34) ≡ x → (b == 92) ≡ y → (nat_le 32 b && nat_le b 126) ≡ z → shown_byte b ≡ shown_as x y z b
by_tests b true y z e f g = grind arith
by_tests b false true z e f g = grind arith
by_tests b false false true e f g = grind arith
by_tests b false false false e f g = grind arith

starts : (b : ℕ) (rest : List ℕ) → b < 256 → StartsWith (shown_byte b ++ rest) b rest
starts b rest lt =
    subst (λ z. StartsWith (z ++ rest) b rest) (sym (by_tests b (b == 34) (b == 92) (nat_le 32 b && nat_le b 126) refl refl refl))
    (by (b == 34) (b == 92) (nat_le 32 b && nat_le b 126) refl refl refl)
  where
    by : (x y z : Bool) → (b == 34) ≡ x → (b == 92) ≡ y → (nat_le 32 b && nat_le b 126) ≡ z → StartsWith (shown_as x y z b ++ rest) b rest
    by true y z e f g = inr (inl (34, ap Some (sym (eqb-true b 34 e)), refl))
    by false true z e f g = inr (inl (92, ap Some (sym (eqb-true b 92 f)), refl))
    by false false true e f g = inl ((λ i. nat_le 32 b && (nat_le b 126 && (not (e i) && not (f i)))) ∙ and_true (nat_le 32 b) (nat_le b 126) ∙ g, refl)
    by false false false e f g =
        inr (inr (hex_digit (b / 16), hex_digit (b % 16), b / 16, b % 16, hexes (b / 16) (omega arith), hexes (b % 16) (omega arith), omega arith, refl))

items : (bytes : List ℕ) → All (λ b. b < 256) bytes → AreItems (flat_map shown_byte bytes) bytes
items [] all = refl
items (b ∷ bytes) all = (flat_map shown_byte bytes, starts b (flat_map shown_byte bytes) (all 0 0 (omega arith)), items bytes (λ k d lt. all (suc k) d (omega arith)))

pub reads_shown : ReadsShown
reads_shown name bytes named all short = record { short = short; form = (named, quoted bytes, (flat_map shown_byte bytes, items bytes all, refl), refl) }

-- an item has at least one byte
starts_longer : (text : List ℕ) (b : ℕ) (rest : List ℕ) → StartsWith text b rest → length rest < length text
starts_longer text b rest (inl (plain, is)) = omega (arith, ap length is)
starts_longer text b rest (inr (inl (sign, e, is))) = omega (arith, ap length is)
starts_longer text b rest (inr (inr (high, low, h, l, e, f, g, is))) = omega (arith, ap length is)

short_items : (bytes text : List ℕ) → AreItems text bytes → length bytes ≤ length text
short_items [] text none = omega arith
short_items (b ∷ bytes) text (rest, begins, more) = omega (arith, starts_longer text b rest begins, short_items bytes rest more)

-- a quoted text is longer than its bytes
pub short_quoted : (text bytes : List ℕ) → IsQuoted text bytes → length bytes ≤ length text
short_quoted text bytes (inner, h, is) = omega (arith, short_items bytes inner h, ap length is, length-append inner (34 ∷ []))

-- the bytes of a command are no more than those of its line
pub short_of : (line : List ℕ) (command : Command) → length line ≤ 2 ^ 16 → Reads line command → IsShort command
short_of line (form.Text name bytes) short (named, is) = omega (arith, short, ap length is, length-append name (32 ∷ bytes))
short_of line (form.QuotedText name bytes) short (named, quoted, bytes_are, is) =
    omega (arith, short, short_quoted quoted bytes bytes_are, ap length is, length-append name (32 ∷ quoted))
short_of line _ short h = tt
