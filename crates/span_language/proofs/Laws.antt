-- Proofs of the theorems about the language.
use Rattle.std.proofs.Common.{◌≡◌, ℕ, List, Some, None}
use Rattle.span_language.proofs.Names.{ChangesNothing, Quiet, Refused, Step, World}

refused : (old : World) (number : ℕ) (line reply : List ℕ) (new : World) → Step old number line Refused reply new → new ≡ old
refused old number line reply new (Some command, means, h) = h.3
refused old number line reply new (None, means, h) = h.2

quiet : (old : World) (number : ℕ) (line reply : List ℕ) (new : World) → Step old number line Quiet reply new → new ≡ old
quiet old number line reply new (Some command, means, h) = h.2
quiet old number line reply new (None, means, h) = h.2

pub changes_nothing : ChangesNothing
changes_nothing = record { refused = refused; quiet = quiet }
