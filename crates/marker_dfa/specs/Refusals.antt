-- The meaning of an error.
use Rattle.std.specs.Prelude.{Result, Ok, Err}
use Rattle.marker_dfa.specs.declared.refusal.DfaRefusal.{DfaRefusal}
use Rattle.marker_dfa.specs.declared.refusal.DfaRefusal.TheVariants.{TooManyStates, NoMemory}

-- the fact, if the result is that there are too many states
abbrev pub IfTooMany : {A : Type 0} → Result A DfaRefusal → Type 0 → Type 0
IfTooMany (Ok x) p = Unit {0}
IfTooMany (Err TooManyStates) p = p
IfTooMany (Err NoMemory) p = Unit {0}
