-- Names from std and from the layers below that the proofs of this crate use. Those that the proofs of session_state use too come
-- from there, and the others from their declarations.
pub use Rattle.session_state.proofs.Names.{Accepted, Answers, Appends, AppendsPrefix, arith, at, Carried, Carries, Command, Done, Ends, Err, HasIncreased, IfErr, IfOk}
pub use Rattle.session_state.proofs.Names.{inl, inr, IsConsistent, IsOfFile, length, LineState, List, model_of, None, Ok, Option, Outlet, plain, Quiet, refl, Refused}
pub use Rattle.session_state.proofs.Names.{Replies, Result, seen, SessionModel, Some, Stays, Stop, Stopped, subst, sym, take_all, Told, world_in, Wrote, ℕ}
pub use Rattle.session_state.proofs.Names.{◌∙◌, ◌≡◌, ◌≤◌, ◌⊎◌}
pub use Rattle.session_state.specs.Answers.{IsWellFormed}
pub use Rattle.session_state.specs.Carried.{HasNoFault, IsDone, IsStopped, Passes}
pub use Rattle.session_state.specs.Written.{IsGone}
pub use Rattle.span_language.specs.Replies.{names_text}
pub use Rattle.std.proofs.Common.{rules}
pub use Rattle.std.proofs.KnownBytes.{Appends-kept}
pub use Rattle.std.specs.Io.KnownBytes.{Keeps}
pub use Rattle.session_state.specs.declared.session.SessionState.{SessionState}
