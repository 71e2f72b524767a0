-- Tuples that are written mark by mark, and cut at a position.
use Rattle.std.specs.Prelude.{ℕ, zero, suc, ◌==◌, ◌/◌, ◌%◌, max, nat_le, List, [], ◌∷◌, Option, Some, None, if◌then◌else◌}
use Rattle.span_types.specs.declared.tuple.Span.{Span}

-- the span up to a position, and an empty one if it starts there or later
abbrev pub closed : ℕ → Option Span → Option Span
closed p None = None
closed p (Some q) = Some (record { start = q.start; end = max q.start p })

-- an entry after the marker number d of its variable at position p: 1 opens, 2 closes, 3 does both
abbrev pub write_one : ℕ → ℕ → Option Span → Option Span
write_one d p o = if d == 0 then o else if d == 2 then closed p o else Some (record { start = p; end = p })

-- a tuple after a mark at position p
abbrev pub write_mark : ℕ → ℕ → List (Option Span) → List (Option Span)
write_mark m p [] = []
write_mark m p (x ∷ xs) = write_one (m % 4) p x ∷ write_mark (m / 4) p xs

-- what the bounds before position p say of an entry; an open span counts as empty
abbrev pub cut_one : ℕ → Option Span → Option Span
cut_one p None = None
cut_one p (Some q) = if nat_le p q.start then None else if nat_le p q.end then Some (record { start = q.start; end = q.start }) else Some q

-- what the bounds before position p say of a tuple
abbrev pub cut : ℕ → List (Option Span) → List (Option Span)
cut p [] = []
cut p (x ∷ xs) = cut_one p x ∷ cut p xs

-- no span of k variables
abbrev pub blanks : ℕ → List (Option Span)
blanks zero = []
blanks (suc k) = None ∷ blanks k

-- a tuple after the marks at the positions from p, one for each item
abbrev pub write_marks : ℕ → List ℕ → List (Option Span) → List (Option Span)
write_marks p [] t = t
write_marks p (m ∷ ms) t = write_marks (suc p) ms (write_mark m p t)
