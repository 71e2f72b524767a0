-- The lemmas that the proofs of this crate's functions use, each re-exported from the file that proves it.
pub use Rattle.query_commands.proofs.AllListingLemmas.{well_formed}
pub use Rattle.session_state.proofs.Names.{tables-within}
pub use Rattle.session_state.proofs.EndsLemmas.{answer_ends, is_answering, line_ends, quiet_done, still_ends}
pub use Rattle.span_language.proofs.Shown.{short_of}
pub use Rattle.span_session.proofs.Sent.{each_err, line_done, line_stopped, no_shelf_wrote, quiet_never, refused_loud, shelf_never, stopped_ends}
