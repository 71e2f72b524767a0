-- The replies that a client has been sent when it is called, and what a run that was stopped is of all that it sends.
use Rattle.std.proofs.Common.{◌≡◌, ℕ, ◌+◌, List, ◌++◌, length, sym, ◌∙◌, ap, subst, append_assoc}
use Rattle.std.proofs.KnownBytes.{Consumes-trans}
use Rattle.std.specs.Prelude.{Option}
use Rattle.std.specs.Io.KnownBytes.{Consumes}
use Rattle.span_language.specs.State.{world}
use Rattle.span_language.specs.Lines.{lines_of}
use Rattle.span_language.specs.Runs.{Ending, Outside, Runs, RunsAll, RunsPrefix, start}
use Rattle.session_state.specs.SessionState.{IsSessionModel}
use Rattle.span_language.specs.Lines.{whole_lines}
use Rattle.script_driver.specs.Position.{ConversationState}
use Rattle.script_driver.specs.Progress.{IsTalking, StopsWithin}
use Rattle.span_language.proofs.Cuts.{whole_is}
use Rattle.script_driver.proofs.RunsLemmas.{ends}
use Rattle.span_talk.specs.Talk.{AreReplied, HaveRun, OfSent}
use Rattle.span_talk.proofs.Known.{of_sent}

module _ (bytes : List ℕ) (most : ℕ) (before : Outside) (kept : List ℕ) (p : ConversationState) (t : IsTalking bytes most before kept p) where
  -- the replies to the complete lines were written, and the number is that of the next line
  pub replied : AreReplied (whole_lines bytes) most before p.now.written × (p.number ≡ 1 + length (whole_lines bytes))
  replied =
      let same = whole_is bytes t.done t.begun t.cut in (
        record {
          sum = t.at.sum;
          mid = world p.model.state p.now.files;
          ran = subst (λ (l : List (List ℕ)). Runs (start most before) 1 l t.at.sum (world p.model.state p.now.files)) (sym same) t.at.ran;
          wrote = t.at.wrote;
        },
        t.at.counted ∙ ap (λ (l : List (List ℕ)). 1 + length l) (sym same),
      )

  pub have_run : IsSessionModel p.model → HaveRun (whole_lines bytes) most before p.now
  have_run session = (p.refused, subst (λ (l : List (List ℕ)). RunsAll l p.refused most before p.now) (sym (whole_is bytes t.done t.begun t.cut)) (ends t.done most before p session t.at))

-- a run that was stopped in a piece
pub stops_sent : (a b c : Option (List ℕ)) (bytes piece : List ℕ) (most : ℕ) (before : Outside) (kept : List ℕ) (p : ConversationState) (Ends : Ending) (after : Outside)
    → Consumes a b bytes → Consumes b c piece → IsTalking bytes most before kept p → StopsWithin Ends piece kept p after → OfSent a (λ sent. RunsPrefix Ends (lines_of sent) most before after)
stops_sent a b c bytes piece most before kept p Ends after first second t stops =
    of_sent a c (bytes ++ piece) (λ sent. RunsPrefix Ends (lines_of sent) most before after) (Consumes-trans a b c bytes piece first second)
    (λ tail. subst (λ l. RunsPrefix Ends (lines_of l) most before after) (sym (append_assoc bytes piece tail)) (stops bytes tail most before t))
