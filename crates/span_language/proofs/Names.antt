-- Names from the definitions and from the layers below that the proofs use, each re-exported from its declaration.
pub use Rattle.edge_io.specs.Files.{Files}
pub use Rattle.edit_expr.proofs.MeaningLemmas.{one_expression}
pub use Rattle.edit_expr.specs.Eval.{eval}
pub use Rattle.edit_expr.specs.Expressions.{ExprReads}
pub use Rattle.edit_expr.specs.declared.expr.Expr.{Expr}
pub use Rattle.edit_expr.specs.declared.refusal.EditRefusal.{EditRefusal}
pub use Rattle.formula_syntax.proofs.Outcomes.{has-outcome, is-outcome, outcome}
pub use Rattle.formula_syntax.specs.FormulaOf.{Formula, FormulaOf, Outcome}
pub use Rattle.line_parts.proofs.Cuts.{from_test, no_cut, NoByte, not_true, one_cut}
pub use Rattle.line_parts.proofs.Names.{name_no_comma}
pub use Rattle.line_parts.specs.NameList.{AreNames, IsName, with_commas}
pub use Rattle.query_book.specs.Answers.{HasAnswer, IsAnswer, IsNamed}
pub use Rattle.query_book.specs.Combining.{HasPair, HasProjection, IsAbsent, IsAccepted, IsPairRefused, IsPast, IsProjectionPast, IsProjectRefused}
pub use Rattle.query_book.specs.Keeping.{HasOther, IsVarsText}
pub use Rattle.query_book.specs.Numbers.{IsNumberOf, IsRankOf}
pub use Rattle.query_book.specs.Occurrences.{CountIsAbove}
pub use Rattle.query_book.specs.Registering.{IsQueryOf}
pub use Rattle.query_book.specs.declared.refusal.CombineRefusal.{CombineRefusal}
pub use Rattle.report_text.specs.Reply.{number_text, opened_text, query_text, quoted, refusal_text, shown_byte, shown_text, written_text}
pub use Rattle.report_text.specs.declared.refusal.Refusal.{Refusal}
pub use Rattle.report_text.specs.declared.refusal.Refusal.TheVariants.{BadImage, NoSuchQuery, QueryTooLarge, TooLong, TooManyMatches}
pub use Rattle.script_syntax.proofs.OneLine.{one_command_of}
pub use Rattle.script_syntax.specs.Syntax.{LineText}
pub use Rattle.script_syntax.specs.declared.form.Command.{Command}
pub use Rattle.script_syntax.specs.declared.form.ListStart.{ListStart}
pub use Rattle.script_syntax.specs.declared.form.ListStart.TheVariants.{After, At, First}
pub use Rattle.script_syntax.specs.declared.form.Command.TheVariants.{LetDoc, LoadFile, Nothing, OpenFile, QuotedText, SaveFile, ShareFile, Show, Text, WriteFile}
pub use Rattle.slp_image.specs.Fields.{kind_of}
pub use Rattle.slp_image.specs.Image.{image, Meaning}
pub use Rattle.slp_image.specs.declared.refusal.ImageRefusal.{ImageRefusal}
pub use Rattle.span_cursor.proofs.TupleLemmas.{one_tuple_of}
pub use Rattle.span_cursor.specs.Tuples.{TupleText}
pub use Rattle.span_enum.specs.Members.{Tuple}
pub use Rattle.span_language.specs.Cursors.{IsStartRefused, IsTupleRefused}
pub use Rattle.span_language.specs.Laws.{AreSameFiles, AreSettled, ChangesNothing, HasOneOutput, HasOneReply, IsSettled, IsSettledLine, ReadsShown, Saves, WritesOnce}
pub use Rattle.span_language.specs.Listed.{AreListed, doc_line, IsListReply, IsPageAt, IsPageFrom, IsPageOf, page_text}
pub use Rattle.span_language.specs.Means.{Carried, Means, Step}
pub use Rattle.span_language.specs.Numbers.{IsNumberReply, IsTooMany}
pub use Rattle.span_language.specs.Replies.{given_text, IsEditRefusal, shown}
pub use Rattle.span_language.specs.Runs.{Adds, is_refused, Runs, Sum}
pub use Rattle.span_language.specs.State.{Documents, Named, put, value_of, with_documents, with_queries, World, world}
pub use Rattle.span_language.specs.Step.{Carries, Does, GivesText, HasDocuments, IsAsked, IsCombineRefusal, IsFaulty, IsFileRefused, IsOfFile, IsOversized, IsPut, IsPutting, IsRefused, IsRegistered, IsReplacing, IsTakenOf, IsTextRefused, IsUnasked, IsUnaskedOf, IsUncombined, IsUnreplaced, IsUnwritten, IsWithin, IsYesOrNo, load_size, LoadsFile, most_spans, open_size, WritesFile}
pub use Rattle.span_language.specs.declared.told.Told.{Told}
pub use Rattle.span_language.specs.declared.told.Told.TheVariants.{Accepted, Quiet, Refused}
pub use Rattle.span_replace.specs.Chosen.{chosen}
pub use Rattle.span_replace.specs.Longest.{longest}
pub use Rattle.span_replace.specs.Replaced.{replaced}
pub use Rattle.span_types.proofs.LeafLaws.{one-query-list}
pub use Rattle.span_types.proofs.PageLaws.{one-page}
pub use Rattle.span_types.specs.Answers.{IsPage}
pub use Rattle.span_types.specs.FormulaTree.{FormulaTree}
pub use Rattle.span_types.specs.Query.{Join, Leaf, Project, Query, Union}
pub use Rattle.span_types.specs.Rel.{IsAnswersOf, names_of}
pub use Rattle.span_types.specs.declared.tuple.Span.{Span}
pub use Rattle.std.specs.Prelude.{Err, Ok, Result}
