-- Names from std and from the layers below that the proofs of this crate use. Those that the proofs of session_state use too come
-- from there, and the others from their declarations.
pub use Rattle.session_state.proofs.Names.{[], ap, append-nil, Appends, Appends-nil, Appends-trans, arith, Bool, Carried, Command, false, HasIncreased, inl, inr, IsList}
pub use Rattle.session_state.proofs.Names.{IsSessionModel, Leaves, length, LineState, List, Named, no_steps, nodes_of, None, Of, Option, Outlet, refl, SessionModel}
pub use Rattle.session_state.proofs.Names.{State, Stop, Stopped, subst, sym, take, Told, world, World, world_in, ℕ, ◌*◌, ◌++◌, ◌+◌, ◌-◌, ◌||◌, ◌∙◌, ◌∷◌, ◌≡◌, ◌≤◌, ◌⊎◌}
pub use Rattle.session_state.specs.Carried.{IsDone, IsStopped}
pub use Rattle.session_state.specs.SessionState.{pairs_of}
pub use Rattle.span_language.specs.Means.{Means}
pub use Rattle.span_language.specs.Runs.{Adds, Anywhere, both, Ending, InFileLine, is_refused, IsStoppedLine, no_lines, Outside, outside, PlacesFew, RunsAll, RunsPrefix}
pub use Rattle.span_language.specs.Runs.{start, Sum, UnlessList}
pub use Rattle.span_language.specs.State.{nothing}
pub use Rattle.span_language.specs.Step.{Halts}
pub use Rattle.std.proofs.Common.{length-append}
pub use Rattle.std.proofs.KnownBytes.{Appends-kept}
