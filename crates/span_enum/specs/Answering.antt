-- What the search for the next answer finds.
use Rattle.std.specs.Prelude.{ℕ, ◌≡◌, List, Option, Some}
use Rattle.span_enum.specs.Members.{Tuple, IsFirstMember, NoMemberLeft}
use Rattle.span_enum.specs.Trail.{whole_text, IsTrail, IsTrailOf, IsStateAt}
use Rattle.span_enum.specs.Tuples.{word_over}
use Rattle.span_enum.specs.declared.input.EnumerationInput.{EnumerationInput}
use Rattle.span_enum.specs.declared.trail.Ahead.{Ahead}
use Rattle.span_enum.specs.declared.trail.Mark.{Mark}
use Rattle.span_enum.specs.declared.enumeration.Found.{Found}

-- f is the first answer after the cursor, and its marks are kept
pub record IsFoundAfter {words : ℕ} (g : EnumerationInput words) (cursor : Option Tuple) (ms : List (Mark words)) (hs : List (Option (Ahead words))) (f : Found) : Type 0 where
  pub first : IsFirstMember g.dfa.now (whole_text g) cursor f.tuple
  pub trail : IsTrailOf g f.tuple ms hs
  pub state : IsStateAt g (Some f.tuple) f.state

-- no answer is left after the cursor, and its marks are kept
pub record IsNoneAfter {words : ℕ} (g : EnumerationInput words) (cursor : Option Tuple) (ms : List (Mark words)) (hs : List (Option (Ahead words))) : Type 0 where
  pub none : NoMemberLeft g.dfa.now (whole_text g) cursor
  pub trail : IsTrail g cursor ms hs

-- f is the first answer after the tuple, and has the same marks over the text
pub record IsLoweredAtEnd {words : ℕ} (g : EnumerationInput words) (t : Tuple) (f : Found) : Type 0 where
  pub first : IsFirstMember g.dfa.now (whole_text g) (Some t) f.tuple
  pub same : word_over f.tuple 1 (whole_text g) ≡ word_over t 1 (whole_text g)
  pub state : IsStateAt g (Some f.tuple) f.state
