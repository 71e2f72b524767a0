-- The words of std, of the crates below and of specs/ that the proofs speak in.
pub use Rattle.std.proofs.Common.{All, AllPairs, Any, Bool, Contains, IfSome, List, None, Option, Some, [], ap, append-nil, append_assoc, arith, bit_and, bit_or, drop, false, get_or, if◌then◌else◌, inl, inr, length, length-append}
pub use Rattle.std.proofs.Common.{length-take-le, map, max, min, mul-add, mul-le-mul_left, mul-le-mul_right, mul-suc, mul_assoc, nat_le, nat_lt, not, refl, slice_get, subst, suc, sym, take, take_at, true, true≢false, zero, ℕ, ◌&&◌, ◌*◌}
pub use Rattle.std.proofs.Common.{◌/◌, ◌%◌, ◌++◌, ◌+◌, ◌-◌, ◌<◌, ◌==◌, ◌^◌, ◌||◌, ◌↔◌, ◌∙◌, ◌∷◌, ◌≡◌, ◌≢◌, ◌≤◌, ◌⊎◌}
pub use Rattle.std.proofs.Math.Bool.{and-true, or-false}
pub use Rattle.std.proofs.Math.ListN.{get_or-append}
pub use Rattle.std.proofs.Math.Seq.{take-append-add, take-append_seam, take-length}
pub use Rattle.std.proofs.lemmas.Bool.{and_right, cases_eq, cases_lt, eq-eqb, eqb-true, le-leb, le-ltb, leb-true, lt-ltb, ltb-true, ne_eqb}
pub use Rattle.std.proofs.lemmas.List.{append_cancel_left, get_or-append-add, get_or_default, length-take, take-append-drop, take-append-le, take-take, take_all}
pub use Rattle.std.proofs.lemmas.List.Elements.{Contains-append_cases, Contains-append_left, Contains-append_right, Contains-get_or}
pub use Rattle.std.proofs.lemmas.List.Folds.{Any-from_list_any, list_any_at}
pub use Rattle.std.proofs.lemmas.List.Kept.{AllPairs-cons}
pub use Rattle.std.proofs.lemmas.Nat.Bits.{bit_at-lt, bit_at-suc, bit_at-zero, bit_at_and, bit_at_lowest}
pub use Rattle.std.proofs.lemmas.Option.{none-some, same_Some, slice_get_cases, slice_get_within}
pub use Rattle.std.specs.List.{list_any}
pub use Rattle.std.specs.Int.{bit_at}
pub use Rattle.formula_law.specs.Accepts.{MarkedText, marked_text}
pub use Rattle.formula_law.specs.Law.{bytes_of}
pub use Rattle.marker_dfa.proofs.Lists.{get_push, one_only, push_get, push_last}
pub use Rattle.marker_dfa.specs.Deterministic.{DeterministicAutomaton, IsDeterministic, PathAccepts, ends_of, marks_of, next_of, path, states_of}
pub use Rattle.marker_nfa.proofs.Mapped.{has_map, map_has}
pub use Rattle.marker_nfa.specs.Automaton.{IsMarked}
pub use Rattle.slp_model.proofs.TreeLemmas.{height-by_leaves, height-most, height-within, length-text}
pub use Rattle.slp_model.specs.Nodes.{IsLive, IsNodeAt, tree, text_of}
pub use Rattle.slp_model.specs.Tree.{height, text}
pub use Rattle.slp_model.specs.declared.Node.{Node}
pub use Rattle.slp_model.specs.declared.Node.TheVariants.{Byte, Pair}
pub use Rattle.slp_model.specs.declared.NodeId.{NodeId}
pub use Rattle.span_types.proofs.AnswerLaws.{here, split-member}
pub use Rattle.span_types.proofs.LimitLemmas.{height_limit-right}
pub use Rattle.span_types.proofs.MarkSteps.{four_le}
pub use Rattle.span_types.proofs.OrderLaws.{irreflexive, transitive}
pub use Rattle.span_types.proofs.PieceLaws.{marks-append, word-append, word-end, word-plain, write-append, write-nothing, write-plain as write-zeros}
pub use Rattle.span_types.proofs.SearchLaws.{mark-free, span-is, spans-at, total}
pub use Rattle.span_types.proofs.WordLaws.{marks-few, reads, seeks}
pub use Rattle.span_types.proofs.WriteLaws.{cut-start, write-next}
pub use Rattle.span_types.specs.Answers.{IsPage, IsRising}
pub use Rattle.span_types.specs.Fibonacci.{height_limit, looks_limit}
pub use Rattle.span_types.specs.Marks.{Comes, Lies, Spans, at_position, closing, mark, mark_of, opening, part_of, spans_of}
pub use Rattle.span_types.specs.Places.{AreSpans, IsSpan, IsTuple}
pub use Rattle.span_types.specs.Words.{IsPast, Marked, Precedes, ended, mark_count, marked, marks_in, word_from}
pub use Rattle.span_types.specs.Writes.{blanks, cut, write_mark, write_marks}
pub use Rattle.span_types.specs.declared.tuple.Span.{Span}
pub use Rattle.state_tables.proofs.Meanings.{bytes-plain, path-append, plain-from_no_mark}
pub use Rattle.state_tables.proofs.Members.{bool-cases, not-both, or-cases, or-left, or-right}
pub use Rattle.state_tables.proofs.Paths.{OneLetter, Parts, bytes-append, bytes-none, count-more, count-plain, has-count, length-bytes, length-plain, mark_count-append, no-state, one-letter, onto, path-dead, path-on, path-one, path-parts}
pub use Rattle.state_tables.proofs.Paths.{plain-append, plain-dead, plain-on, precedes-append, precedes-prefix, precedes-split, same-state}
pub use Rattle.state_tables.proofs.Shapes.{then-between}
pub use Rattle.state_tables.proofs.StateSets.{bit-member, member-bit, member-or, member-single_other, member-single_same, member-zero}
pub use Rattle.state_tables.specs.Dictionary.{AreTables, Dictionary, IsLook, count_of}
pub use Rattle.state_tables.specs.Meaning.{IsTable, has_mark, plain}
pub use Rattle.state_tables.specs.StateSet.{member, single_of}
pub use Rattle.state_tables.specs.Table.{IsTableOf, Row, marked_of, reached_of, row_at, unmarked_of}
pub use Rattle.state_tables.specs.declared.view.Look.{Look}
pub use Rattle.span_enum.specs.Answering.{IsFoundAfter}
pub use Rattle.span_enum.specs.Between.{AreAmong, AreBetween}
pub use Rattle.span_enum.specs.Ends.{Accepted, AcceptsEnd, AcceptsWord, AreFinals, Gives, IsFirstLeft, IsWord, NoneLeft, Wellmarked}
pub use Rattle.span_enum.specs.Letters.{end_in, reached, step_of}
pub use Rattle.span_enum.specs.Members.{AreAnswersOf, HasMember, IsFirstMember, IsLeft, IsMember, NoMemberLeft, Tuple}
pub use Rattle.span_enum.specs.Next.{IsAfter, IsNext, NoneAfter}
pub use Rattle.span_enum.specs.OverLeft.{IsMarkedLeft, IsPlainLeft}
pub use Rattle.span_enum.specs.Pages.{IsListed}
pub use Rattle.span_enum.specs.Quiet.{AreQuiet, AreQuietFinals, EndsIn, EndsQuietly, LeadQuiet, LeadsQuiet, StayQuiet, StaysQuiet}
pub use Rattle.span_enum.specs.Sets.{can_reach_of, is_final, is_goal}
pub use Rattle.span_enum.specs.Trail.{AreAhead, AreGoals, AreKept, AtMost, Begins, Behind, CanEnd, CanFinish, CanFollow, CanDescend, Completes, Descends, Dies, EndsBehind, Fails, Finds, Finishes, Fits, FitsAt, Followed, Follows, GoesFirst}
pub use Rattle.span_enum.specs.Trail.{HasRoom, IsAhead, IsFresh, IsEnumerationInput, IsKept, IsLast, IsMark, IsOver, IsQuietPosition, IsStateAt, IsTrailOf, IsLowered, Join, Keeps, Laid, Lays, Leads, Meets, NoEndAfter, Passed, Passes, PassesPlain}
pub use Rattle.span_enum.specs.Trail.{PassesTo, IsWalkAt, IsWalkBefore, Turns, Way, height_at, mark_over, text_ahead, text_at, whole_text}
pub use Rattle.span_enum.specs.Tuples.{EndsPast, IsBound, IsTupleOf, IsUnmarked, end_mark, reaches, word_of, word_over, write_word}
pub use Rattle.span_enum.specs.WayDown.{ContinuesAt, child, sibling}
pub use Rattle.span_enum.specs.Words.{CanRun, IsFirst, IsGreatestMark, IsNoMark}
pub use Rattle.span_enum.specs.declared.enumeration.Found.{Found}
pub use Rattle.span_enum.specs.declared.input.EnumerationInput.{EnumerationInput}
pub use Rattle.span_enum.specs.declared.sets.Between.{Between}
pub use Rattle.span_enum.specs.declared.trail.Ahead.{Ahead}
pub use Rattle.span_enum.specs.declared.trail.Mark.{Mark}
pub use Rattle.span_enum.specs.declared.trail.WalkPosition.{WalkPosition}
pub use Rattle.span_enum.specs.declared.walk.Lowered.{Lowered}
