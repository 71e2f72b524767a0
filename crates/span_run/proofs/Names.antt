-- Names from std and from the layers below that the proofs of this crate use. Those that the proofs of session_state use too come
-- from there, and the others from their declarations.
pub use Rattle.session_state.proofs.Names.{[], ap, append-nil, arith, Err, IfErr, length, List, None, Ok, Option, Outlet, refl, Result, Some, Stop, subst, sym, take, ℕ}
pub use Rattle.session_state.proofs.Names.{◌++◌, ◌+◌, ◌-◌, ◌∙◌, ◌≡◌, ◌≤◌}
pub use Rattle.session_state.specs.Carried.{outlet}
pub use Rattle.span_language.specs.Lines.{lines_of}
pub use Rattle.span_language.specs.Runs.{Outside, outside, RunsPrefix, start, UnlessList}
pub use Rattle.span_language.specs.Scripts.{AsksForNoDemo, OfScript, script_of}
pub use Rattle.std.proofs.Common.{codes, IfSome, length-append, length-take, map, string_bytes, ◌^◌}
pub use Rattle.std.proofs.KnownBytes.{Consumes-trans}
pub use Rattle.std.proofs.lemmas.Result.{err_from_is_err_and}
pub use Rattle.std.specs.Io.KnownBytes.{Consumes}
