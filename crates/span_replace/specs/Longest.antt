-- The longest of the spans that start at one position, from the left.
use Rattle.std.specs.Prelude.{nat_le, nat_lt, ◌==◌, ◌&&◌, not, Bool, true, List, [], ◌∷◌, Option, Some, None, if◌then◌else◌}
use Rattle.std.specs.List.{list_any}
use Rattle.span_types.specs.declared.tuple.Span.{Span}
use Rattle.span_enum.specs.Members.{Tuple}
use Rattle.span_replace.specs.Chosen.{spans_in}

-- whether q starts at or past the end of the last span taken, if any, and isn't the empty span at that end
abbrev pub may_follow : Option Span → Span → Bool
may_follow None q = true
may_follow (Some l) q = nat_le l.end q.start && not ((q.start == l.end) && (q.end == l.end))

-- whether none of the spans starts where q does and ends after it
abbrev pub is_longest : Span → List Span → Bool
is_longest q qs = not (list_any (λ r. (r.start == q.start) && nat_lt q.end r.end) qs)

-- of spans in mark order that may follow the last one taken, the one with the least start and, among those of that start, the
-- greatest end. Then the same of those after it, and so on
abbrev pub longest_from : Option Span → List Span → List Span
longest_from last [] = []
longest_from last (q ∷ qs) = if may_follow last q && is_longest q qs then q ∷ longest_from (Some q) qs else longest_from last qs

-- Longest, of the list of all answers of one variable in mark order
abbrev pub longest : List Tuple → List Span
longest all = longest_from None (spans_in all)
