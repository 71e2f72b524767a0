-- Names from std and from the layers below that the proofs of this crate use. Those that the proofs of session_state use too come
-- from there, and the others from their declarations.
pub use Rattle.session_state.proofs.Names.{[], Accepted, AllByRecursion, Allowance, AllowsWrites, Answers, ap, append_assoc, AreLive, AreLive-grows, arith, at, Book}
pub use Rattle.session_state.proofs.Names.{Bool, Carries, Command, Compacts, counters, Doc, Documents, drop, Err, false, Files, Grows, HasIncreased, IfErr, IfOk, inl}
pub use Rattle.session_state.proofs.Names.{inr, IsAllowed, IsConsistent, IsErrAnd, IsOfFile, IsPut, IsRefused, IsSaved, IsSome, IsUpTo, length, length-drop, List, Named}
pub use Rattle.session_state.proofs.Names.{no_steps, Node, None, none_grown, none_paid, none_placed_part, not_asked, not_begun, Ok, ok_or, open_size, Option, option_map}
pub use Rattle.session_state.proofs.Names.{Outlet, part_of_paid, PaysFor, PaysForPart, plain, put, queries_of, refl, Refusal, refusal_text, Refused, Registers, Result}
pub use Rattle.session_state.proofs.Names.{same_Some, same_world, saved_text, Serves, Sets, Some, State, state_of, Stays, Stop, subst, sym, tables-within, tables_of}
pub use Rattle.session_state.proofs.Names.{take, take-add, take_all, taken_out, text_of, Told, value_of, with_documents, World, world, ℕ, ◌++◌, ◌+◌, ◌-◌, ◌∙◌, ◌∷◌, ◌≡◌}
pub use Rattle.session_state.proofs.Names.{◌≤◌, ◌⊎◌}
pub use Rattle.doc_book.proofs.TextLemmas.{live-at, plain-grows}
pub use Rattle.edge_io.specs.Files.{AllowsReads, DeniesWrites, HasPiece, Holds, IsPutTo}
pub use Rattle.edit_expr.specs.Eval.{eval, Outcome}
pub use Rattle.edit_expr.specs.Expressions.{ExprReads}
pub use Rattle.edit_expr.specs.declared.expr.Expr.{Expr}
pub use Rattle.query_book.specs.Serving.{counted_of, covered_of}
pub use Rattle.report_text.specs.declared.refusal.Refusal.TheVariants.{BadImage, CannotRead, CannotWrite, FileTooLong, NoSuchFile}
pub use Rattle.session_state.proofs.CommandLemmas.{free_answers, moved_answers, moved_stays, never, no_shelf, no_sink, once_accepted, passed_on, stays_so}
pub use Rattle.session_state.proofs.StateLemmas.{assigned_after, length-text_of}
pub use Rattle.session_state.specs.Carried.{outlet}
pub use Rattle.session_state.specs.declared.replies.Answer.{Answer}
pub use Rattle.session_state.specs.declared.session.SessionState.{SessionState}
pub use Rattle.share_loader.specs.Blocks.{all_cost}
pub use Rattle.share_loader.specs.Sharer.{ended_cost, Kept, open_count}
pub use Rattle.slp_image.specs.Image.{image, Meaning}
pub use Rattle.slp_model.proofs.NodesLemmas.{Grows-trans}
pub use Rattle.slp_model.proofs.ShapeLemmas.{shape-text}
pub use Rattle.slp_model.specs.Tree.{root_text}
pub use Rattle.span_language.proofs.Paid.{load_paid}
pub use Rattle.span_language.proofs.Worlds.{only_documents}
pub use Rattle.span_language.specs.Allowance.{IsFileAllowed}
pub use Rattle.span_language.specs.Counts.{Places}
pub use Rattle.span_language.specs.Replies.{entry_text, names_text, ok_text, shown_range}
pub use Rattle.span_language.specs.Step.{Does, GivesText, IsFileRefused, IsOversized, IsWithin, load_size, LoadsFile}
pub use Rattle.std.proofs.Common.{codes, IfSome, length-append, length-take, OnErr, replicate, rules, slice_get, ◌<◌}
pub use Rattle.std.proofs.lemmas.List.{at_drop_all, length-map, length-replicate, length-take-le}
pub use Rattle.std.proofs.lemmas.Result.{IfOk-weaker}
pub use Rattle.std.specs.List.{flat_map}
pub use Rattle.text_commands.specs.Loading.{fed_to, file_command, IsFileLoader, IsWithinLimit, limit_of, method_of}
pub use Rattle.text_commands.specs.Reading.{IsFilePrefix, IsFileRejection, IsLoadPaid, IsNext, IsNextPiece, IsOfTheFile, MeansFile}
pub use Rattle.text_commands.specs.Shown.{Assigns, IsEditRejectionReply, IsFileRejectionReply, IsPutReply, IsPutStop, IsShown, Opens}
pub use Rattle.text_commands.specs.declared.loaders.FileLoader.{FileLoader}
pub use Rattle.text_commands.specs.declared.loaders.Method.{Method}
