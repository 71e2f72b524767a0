-- Names from std and from the layers below that the proofs of this crate use, each re-exported from its declaration.
pub use Rattle.doc_book.proofs.TextLemmas.{AreLive-grows, AreLive-put, plain-put, value_of-plain}
pub use Rattle.doc_book.specs.Texts.{AreLive, plain}
pub use Rattle.doc_book.specs.declared.Doc.{Doc}
pub use Rattle.doc_versions.proofs.TextLemmas.{AreKept-grows, plain_versions-grows}
pub use Rattle.doc_versions.specs.Texts.{AreKept, plain_versions}
pub use Rattle.edge_io.specs.Causes.{HasIncreased}
pub use Rattle.edge_io.specs.Files.{AllowsWrites, Files}
pub use Rattle.query_book.proofs.TableLemmas.{none_grown, serves-grows, sum_within, tables-within}
pub use Rattle.query_book.specs.Book.{Book, queries_of}
pub use Rattle.query_book.specs.Grown.{GrowsTables}
pub use Rattle.query_book.specs.Serving.{Serves, tables_of}
pub use Rattle.report_text.specs.Reply.{refusal_text, saved_text}
pub use Rattle.report_text.specs.declared.refusal.Refusal.{Refusal}
pub use Rattle.script_syntax.specs.declared.form.Command.{Command}
pub use Rattle.session_state.specs.Answers.{Answers, KeepsInvariant, IsAnswering, Stays}
pub use Rattle.session_state.specs.Carried.{Done, IsBounded, Outlet, Stopped}
pub use Rattle.session_state.specs.CommandState.{CommandState, at, counters_at, world_at}
pub use Rattle.session_state.specs.SessionState.{IsConsistent, IsSessionModel, SessionModel, nodes_of, model_of, state_of, tables_in}
pub use Rattle.session_state.specs.LineState.{LineState, Tallies, counters_in, line_state, seen, world_in}
pub use Rattle.session_state.specs.Rejecting.{IsRejectedFreely}
pub use Rattle.session_state.specs.Written.{Ends, IsCut, IsSent, IsUpTo, WantsFor, Wrote}
pub use Rattle.session_state.specs.declared.replies.Answer.{Answer}
pub use Rattle.session_state.specs.declared.session.SessionState.{SessionState}
pub use Rattle.slp_model.proofs.NodesLemmas.{Grows-length, Grows-none}
pub use Rattle.slp_model.specs.Nodes.{Grows, IsLive, pair_weight, root_tree, text_of}
pub use Rattle.slp_model.specs.Tree.{root_leaves}
pub use Rattle.slp_model.specs.declared.Node.{Node}
pub use Rattle.slp_model.specs.declared.NodeId.{NodeId}
pub use Rattle.span_language.proofs.Paid.{none_paid, not_begun, part_of_paid}
pub use Rattle.span_language.proofs.PlacesLemmas.{grown_placed, grown_placed_part, neither, none_placed_part, not_asked}
pub use Rattle.span_language.proofs.Worlds.{same_world}
pub use Rattle.span_language.specs.Allowance.{Allowance, IsAllowed, IsPaid, PaysFor, PaysForPart, counters, no_steps}
pub use Rattle.span_language.specs.Counts.{AsksForCounts, Compacts, IsOnce, PlacesOfBoth, PlacesPartOfBoth, Registers}
pub use Rattle.span_language.specs.Means.{Carried, IsAllowance, Of, Replies}
pub use Rattle.span_language.specs.State.{Documents, Named, State, World, is_same, put, taken_out, value_of, with_documents, with_queries, world}
pub use Rattle.span_language.specs.Step.{AppendsPrefix, Carries, IsList, IsOfFile, IsPut, IsRefused, IsSaved, Leaves, open_size}
pub use Rattle.span_language.specs.declared.told.Stop.{Stop}
pub use Rattle.span_language.specs.declared.told.Told.{Told}
pub use Rattle.span_language.specs.declared.told.Told.TheVariants.{Accepted, Quiet, Refused}
pub use Rattle.span_types.specs.Query.{Query}
pub use Rattle.span_types.specs.Rel.{names_of}
pub use Rattle.std.proofs.Common.{Bool, Err, IfErr, IfOk, IsErrAnd, IsSome, List, MatchResult, None, Ok, Option, Result}
pub use Rattle.std.proofs.Common.{Some, [], ap, append_assoc, arith, cond, drop, false, inl, inr, length, length-drop}
pub use Rattle.std.proofs.Common.{if◌then◌else◌}
pub use Rattle.std.proofs.Common.{min, ok_or, option_map, refl, subst, suc, sym, take, true, ℕ, ◌*◌, ◌++◌}
pub use Rattle.std.proofs.Common.{◌+◌, ◌-◌, ◌||◌, ◌∙◌, ◌∷◌, ◌≡◌, ◌≤◌, ◌⊎◌}
pub use Rattle.std.proofs.KnownBytes.{Appends-nil, Appends-trans, Keeps-refl}
pub use Rattle.std.proofs.Math.Seq.{take-add, take-append-add, take-append_seam}
pub use Rattle.std.proofs.lemmas.List.{append-nil, take-append-le, take_all, take_min}
pub use Rattle.std.proofs.lemmas.List.Sums.{sum_by-append}
pub use Rattle.std.proofs.lemmas.Option.{same_Some}
pub use Rattle.std.proofs.lemmas.Result.{IfErr-weaker}
pub use Rattle.std.specs.Io.KnownBytes.{Appends}
pub use Rattle.std.specs.List.{AllByRecursion}
pub use Rattle.session_state.specs.DocumentReply.{IsDocument, Sets}
