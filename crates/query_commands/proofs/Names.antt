-- Names from std and from the layers below that the proofs of this crate use.
pub use Rattle.session_state.proofs.Names.{[], Accepted, Answers, ap, append_assoc, AreLive, AreLive-grows, arith, AsksForCounts, at, Book, Bool, Carries, Command}
pub use Rattle.session_state.proofs.Names.{Compacts, counters, Doc, Documents, drop, Ends, Err, false, Files, Grows, Grows-none, GrowsTables, IfErr, IfOk, inl, inr}
pub use Rattle.session_state.proofs.Names.{IsAllowed, IsConsistent, IsCut, IsErrAnd, IsList, IsOfFile, IsRefused, IsRejectedFreely, IsSent, IsSome, IsUpTo, length, List}
pub use Rattle.session_state.proofs.Names.{MatchResult, min, model_of, Named, names_of, no_steps, Node, NodeId, None, none_paid, not_asked, not_begun, Ok, Option, Outlet}
pub use Rattle.session_state.proofs.Names.{part_of_paid, PaysFor, PlacesOfBoth, plain, put, queries_of, Query, Quiet, refl, Refusal, refusal_text, Refused, Registers}
pub use Rattle.session_state.proofs.Names.{Replies, Result, same_world, seen, Serves, Some, State, state_of, Stays, Stop, Stopped, subst, suc, sym, tables-within}
pub use Rattle.session_state.proofs.Names.{tables_of, take, text_of, Told, true, value_of, WantsFor, with_documents, with_queries, World, world, Wrote, ℕ, ◌*◌, ◌++◌, ◌+◌}
pub use Rattle.session_state.proofs.Names.{◌-◌, ◌∙◌, ◌∷◌, ◌≡◌, ◌≤◌, ◌⊎◌}
pub use Rattle.doc_book.proofs.TextLemmas.{plain-grows}
pub use Rattle.list_all.specs.Page.{IsPageOf, Page}
pub use Rattle.marker_dfa.specs.Deterministic.{DeterministicAutomaton}
pub use Rattle.query_book.proofs.NameLemmas.{some_value}
pub use Rattle.query_book.proofs.TableLemmas.{both_grown, counts_grown}
pub use Rattle.session_state.specs.DocumentReply.{IsDocument}
pub use Rattle.query_book.specs.Answers.{HasList, IfNamed, IsNamed, most_looks}
pub use Rattle.query_book.specs.Combining.{HasPair, IsAccepted}
pub use Rattle.query_book.specs.Grown.{GrowsCounts}
pub use Rattle.query_book.specs.InHand.{HasAnswersIn}
pub use Rattle.query_book.specs.Numbers.{IsNumberOf, IsRankOf, IsSaturated}
pub use Rattle.query_commands.specs.AllListing.{AreAnswered, documents_text, rest_text}
pub use Rattle.query_commands.specs.Asking.{IsFound, Sends}
pub use Rattle.query_commands.specs.Counting.{IsNumberResult, IsReplyOf}
pub use Rattle.query_commands.specs.Judged.{IsReplied, IsReplyPaid, question_of}
pub use Rattle.query_commands.specs.Listing.{Begins, IsOver, IsRestFrom, Starts}
pub use Rattle.query_commands.specs.Refused.{IsTextRefusal}
pub use Rattle.query_commands.specs.Registering.{command_of, IsMade, IsMadeIn}
pub use Rattle.query_commands.specs.Replacing.{AreSources, Chooses, Replaces}
pub use Rattle.query_commands.specs.Tables.{GrowsFor}
pub use Rattle.report_text.specs.Reply.{number_text, query_text}
pub use Rattle.report_text.specs.declared.refusal.Refusal.TheVariants.{TooLong, TooManyAnswers, TooManyMatches}
pub use Rattle.script_syntax.specs.declared.form.ListStart.{ListStart}
pub use Rattle.script_syntax.specs.declared.form.ListStart.TheVariants.{After, At, First}
pub use Rattle.session_state.proofs.CommandLemmas.{never, placed_answers, placed_stops}
pub use Rattle.session_state.specs.Answers.{IsWellFormed}
pub use Rattle.session_state.specs.Carried.{outlet}
pub use Rattle.session_state.specs.declared.replies.Answer.{Answer}
pub use Rattle.session_state.specs.declared.session.SessionState.{SessionState}
pub use Rattle.span_cursor.specs.Tuples.{TupleText}
pub use Rattle.span_enum.proofs.Pages.{after-first, after-none, first-after, none-after}
pub use Rattle.span_enum.specs.Listing.{Listing}
pub use Rattle.span_enum.specs.Members.{AreAnswersOf, IsFirstMember, NoMemberLeft, Tuple}
pub use Rattle.span_language.proofs.Worlds.{only_documents, only_queries}
pub use Rattle.span_language.specs.Allowance.{answer_limit, answers_steps, more_answers, replace_steps}
pub use Rattle.span_language.specs.Listed.{AreListed, doc_line, done_line, first_page_text, IsListReply, IsPageFrom, last_line, page_text, tuple_line}
pub use Rattle.span_language.specs.Numbers.{most_answers}
pub use Rattle.span_language.specs.Step.{Does, IsAsked, IsRegistered, IsReplacing, IsTakenOf, IsTextRefused, IsUnasked, IsUnaskedOf, most_spans}
pub use Rattle.span_replace.specs.Replaced.{replaced}
pub use Rattle.span_replace.specs.declared.refusal.ReplaceRefusal.{ReplaceRefusal}
pub use Rattle.span_types.specs.Answers.{IsAfter, IsPage}
pub use Rattle.span_types.specs.Fibonacci.{looks_limit}
pub use Rattle.span_types.specs.Query.{Join, Project, Union}
pub use Rattle.span_types.specs.Rel.{IsAnswersOf}
pub use Rattle.span_types.specs.declared.refusal.NoMemory.{NoMemory}
pub use Rattle.span_types.specs.declared.tuple.Span.{Span}
pub use Rattle.std.proofs.Common.{get_or, IsErr, IsOk, map, MatchOption, nat_lt, OnErr, OnOk, rules, slice_get, zero, ◌<◌}
pub use Rattle.std.proofs.lemmas.List.{at_drop_more, drop_all}
pub use Rattle.std.proofs.lemmas.Option.{MatchOption-at_none}
pub use Rattle.std.proofs.lemmas.Result.{err_from_is_err_and}
pub use Rattle.std.specs.List.{flat_map}
