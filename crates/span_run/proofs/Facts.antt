-- The lemmas that the proofs of this crate's functions use, each re-exported from the file that proves it.
pub use Rattle.span_language.proofs.RunsLemmas.{none_ran, none_written}
pub use Rattle.span_run.proofs.RunsLemmas.{each_some, halted_at_end, halted_in_line}
pub use Rattle.span_run.proofs.ScriptLemmas.{of_demo, of_script}
