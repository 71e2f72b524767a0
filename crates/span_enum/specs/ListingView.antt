-- The fields of `Enumeration` as contracts see them.
use Rattle.std.specs.Prelude.{◌≡◌, ℕ, ◌+◌, ◌≤◌, length}
use Rattle.span_enum.specs.Listing.{Listing, IsCursor}
use Rattle.span_enum.specs.Trail.{IsEnumerationInput, whole_text, IsTrail, IsStateAt, HasRoom}
use Rattle.span_enum.specs.declared.enumeration.Enumeration.TheInside.{Inside}

abbrev pub view_of : {words : ℕ} → Inside words → Listing
view_of a = record { automaton = a.input.dfa.now; text = whole_text a.input; after = a.last }

abbrev pub IsListing : {words : ℕ} → Inside words → Type 0
IsListing a = IsEnumerationInput a.input × IsCursor a.input.dfa.now a.last × (a.end ≡ length (whole_text a.input) + 1) × (a.end ≤ 281474976710657) × IsStateAt a.input a.last a.state
    × IsTrail a.input a.last a.trail.marks.items a.trail.ahead.items × HasRoom a.input.dfa.now.variables a.trail.marks.capacity a.trail.ahead.capacity
