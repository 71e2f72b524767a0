-- The longest of the answers that are left, and the longest ones from it on.
use Rattle.std.proofs.Common.{◌≡◌, ℕ, ◌≤◌, ◌⊎◌, inl, inr, List, length, Option, Some, None, refl, sym, ap, arith}
use Rattle.span_types.specs.declared.tuple.Span.{Span}
use Rattle.span_types.specs.Places.{IsSpan}
use Rattle.marker_dfa.specs.Deterministic.{DeterministicAutomaton}
use Rattle.span_enum.specs.Members.{Tuple, AreAnswersOf, IsLeft}
use Rattle.span_replace.specs.Longest.{longest, longest_from}
use Rattle.span_replace.specs.Chosen.{spans_in}
use Rattle.span_replace.specs.declared.choice.Choice.TheVariants.{Longest}
use Rattle.span_replace.specs.Cursor.{empty_end}
use Rattle.span_replace.specs.Search.{Finds}
use Rattle.span_replace.specs.Replaced.{AreApart}
use Rattle.span_replace.proofs.SpanOrder.{IsBefore, one, before-comes, comes-before}
use Rattle.span_replace.proofs.Picked.{AreSorted, Has, sorted-span}
use Rattle.span_replace.proofs.Choices.{upcoming, has, member, one-inj, sorted, span-lies}
use Rattle.span_replace.proofs.Taken.{Follows, first-taken, longest-apart, none-taken}

-- the longest ones after q
abbrev pub longest_after : Span → List Span → List Span
longest_after q = longest_from (Some q)

-- the tuple of the empty span at the end of the last span taken, if any
abbrev pub cursor_after : Option Span → Option Tuple
cursor_after None = None
cursor_after (Some l) = Some (one (empty_end l))

left-follows : (last : Option Span) (r : Span) → IsSpan r → IsLeft (cursor_after last) (one r) → Follows last r
left-follows None r ir h = tt
left-follows (Some l) r ir h = comes-before (empty_end l) r (omega arith) ir.ordered h

follows-left : (last : Option Span) (r : Span) → IsSpan r → Follows last r → IsLeft (cursor_after last) (one r)
follows-left None r ir h = tt
follows-left (Some l) r ir h = before-comes (empty_end l) r (omega arith) ir.ordered h

-- what has the start of a span that follows, and no lesser end, follows too
follows-more : (last : Option Span) (f q : Span) → q.start ≡ f.start → f.end ≤ q.end → Follows last f → Follows last q
follows-more None f q e le h = tt
follows-more (Some l) f q e le (inl h) = inl (omega (arith, e, h))
follows-more (Some l) f q e le (inr h) = inr (omega (arith, h.0, e), omega (arith, h.1, le))

least-start : (f r : Span) → IsSpan f → IsSpan r → (r ≡ f) ⊎ IsBefore f r → f.start ≤ r.start
least-start f r is ir (inl e) = omega (arith, ap (λ (z : Span). z.start) e)
least-start f r is ir (inr (inl h)) = omega (arith, h)
least-start f r is ir (inr (inr h)) = omega (arith, h.0)

module _ (a : DeterministicAutomaton) (s : List ℕ) (single : a.variables ≡ 1) (short : length s ≤ 281474976710656) where
  module _ (all : List Tuple) (answers : AreAnswersOf a s all) where
    rising : AreSorted (spans_in all)
    rising = sorted a s single short all answers

    pub found : (last : Option Span) (o : Option Span) → Finds Longest a s (cursor_after last) o → longest_from last (spans_in all) ≡ upcoming longest_after o (spans_in all)
    found last None none =
        none-taken last (spans_in all) rising (λ r h b. none r (member a s single short all answers r h) (follows-left last r (sorted-span (spans_in all) rising r h) b))
    found last (Some q) k =
        first-taken last q (spans_in all) rising (has a s single short all answers q k.last.member) (follows-more last k.first q k.start_is most (left-follows last k.first is k.is_first.left)) least
        (λ r h e. k.last.last r (member a s single short all answers r h) e)
      where
        is : IsSpan k.first
        is = span-lies (length s) k.first short k.is_first.member.lies

        most : k.first.end ≤ q.end
        most = k.last.last k.first k.is_first.member (sym k.start_is)

        least : (r : Span) → Has (spans_in all) r → Follows last r → q.start ≤ r.start
        least r h b =
            let ir = sorted-span (spans_in all) rising r h in
            let o : (r ≡ k.first) ⊎ IsBefore k.first r = elim (k.is_first.least (one r) (member a s single short all answers r h) (follows-left last r ir b)) [
              | inl e ↦ inl (one-inj a s single short all answers r k.first e)
              | inr c ↦ inr (comes-before k.first r is.ordered ir.ordered c)
            ] in
            omega (arith, k.start_is, least-start k.first r is ir o)

    -- the longest spans lie apart in the text
    pub longest-apart-all : AreApart (length s) (longest all)
    longest-apart-all = longest-apart (length s) None (spans_in all) (omega arith) (λ q h. let f = (member a s single short all answers q h).lies 0 q refl in (f.0, f.1, omega (arith, f.2)))
