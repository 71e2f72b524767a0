-- A script in one piece that was stopped.
use Rattle.span_run.proofs.Names.{[], append-nil, arith, Err, IfErr, IfSome, lines_of, List, None, Ok, Option, Outlet, Outside, Result, RunsPrefix, Some, start, Stop}
use Rattle.span_run.proofs.Names.{subst, ℕ, ◌≤◌}
use Rattle.script_driver.specs.Position.{ConversationState}
use Rattle.script_driver.specs.Progress.{IsHalted, IsTalking, StopsAtEnd, StopsWithin}
use Rattle.script_driver.proofs.Halting.{halted_later}

pub each_some : (o : Option (List ℕ)) (P : List ℕ → Type 0) → ((x : List ℕ) → P x) → IfSome o P
each_some None P h = tt
each_some (Some x) P h = h x

-- a script in one piece that was stopped in a line with a newline
pub halted_in_line : (script : List ℕ) (most : ℕ) (before after : Outside) (kept : List ℕ) (p : ConversationState) (sink last : Outlet) (old new : ℕ) (why : Stop) → IsTalking [] most before kept p
    → IsHalted (λ Ends. StopsWithin Ends script kept p after) sink old last new why → IsHalted (λ Ends. RunsPrefix Ends (lines_of script) most before after) sink old last new why
halted_in_line script most before after kept p sink last old new why t h =
    halted_later (λ Ends. StopsWithin Ends script kept p after) (λ Ends. RunsPrefix Ends (lines_of script) most before after) sink sink last old old new why (omega arith) (omega arith) (omega arith) h
    (λ Ends stops. subst (λ (l : List ℕ). RunsPrefix Ends (lines_of l) most before after) (append-nil script) (stops [] [] most before t))

-- and one that was stopped in its last line, without a newline
pub halted_at_end : {T : Type 0} (r : Result T Stop) (script : List ℕ) (most : ℕ) (before after : Outside) (kept : List ℕ) (p : ConversationState) (sink mid last : Outlet) (start old new : ℕ) → IsTalking script most before kept p
    → sink.faults ≤ mid.faults → sink.wants ≤ mid.wants → start ≤ old → IfErr r (IsHalted (λ Ends. StopsAtEnd Ends kept p after) mid old last new)
    → IfErr r (IsHalted (λ Ends. RunsPrefix Ends (lines_of script) most before after) sink start last new)
halted_at_end (Ok _) script most before after kept p sink mid last start old new t later wants_later shelf_later h = tt
halted_at_end (Err why) script most before after kept p sink mid last start old new t later wants_later shelf_later h =
    halted_later (λ Ends. StopsAtEnd Ends kept p after) (λ Ends. RunsPrefix Ends (lines_of script) most before after) sink mid last start old new why later wants_later shelf_later h (λ Ends stops. stops script most before t)
