-- The effect of a piece: a part of a line, its end, and the end of the script.
use Rattle.std.proofs.Common.{◌≡◌, ◌≢◌, ℕ, ◌<◌, List, [], ◌∷◌, ◌++◌, length, take, sym, ◌∙◌, ap, subst, arith, append_assoc, false}
use Rattle.std.specs.Prelude.{All, None}
use Rattle.span_language.specs.State.{nothing}
use Rattle.span_language.specs.Lines.{lines_of}
use Rattle.span_language.specs.Runs.{Ending, Outside, RunsAll, RunsPrefix}
use Rattle.session_state.specs.SessionState.{SessionModel, IsSessionModel}
use Rattle.script_driver.specs.Position.{ConversationState, conversation}
use Rattle.script_driver.specs.Progress.{Does, Hears, IsTalking, StopsIn, StopsWithin}
use Rattle.script_driver.proofs.RunsLemmas.{at_start, ends, stopped_between}
use Rattle.span_language.proofs.Cuts.{ended_with, ended_without, line_cut, no_newline, nothing_cut, part_cut}
use Rattle.script_driver.proofs.Kept.{kept_goes_on, none_kept, some_begun}

pub begins : (most : ℕ) (before : Outside) (st : SessionModel) (kept : List ℕ) → kept ≡ [] → st.state ≡ nothing most → st.covered ≡ [] → st.counted ≡ [] → st.store ≡ [] → IsTalking [] most before kept (conversation 1 false st before)
begins most before st kept none state covered counted store = record { done = []; begun = []; cut = nothing_cut; kept_is = none; at = at_start most before st state covered counted store }

module _ (bytes : List ℕ) (most : ℕ) (before : Outside) (kept : List ℕ) (p : ConversationState) (t : IsTalking bytes most before kept p) where
  module _ (part kept_after : List ℕ) (plain : All (λ b. b ≢ 10) part) (is : kept_after ≡ take 65537 (kept ++ part)) where
    kept_of : kept_after ≡ take 65537 (t.begun ++ part)
    kept_of = is ∙ ap (λ l. take 65537 (l ++ part)) t.kept_is ∙ kept_goes_on 65537 t.begun part

    pub talks_on : IsTalking (bytes ++ part) most before kept_after p
    talks_on = record { done = t.done; begun = t.begun ++ part; cut = part_cut bytes t.done t.begun part t.cut (no_newline part plain); kept_is = kept_of; at = t.at }

    pub ends_line : (new : ConversationState) (empty : List ℕ) → empty ≡ [] → Does kept_after p new → IsTalking (bytes ++ (part ++ 10 ∷ [])) most before empty new
    ends_line new empty none does = record {
      done = t.done ++ (t.begun ++ part) ∷ [];
      begun = [];
      cut = line_cut bytes t.done t.begun part t.cut (no_newline part plain);
      kept_is = none;
      at = does (t.begun ++ part) t.done most before kept_of t.at;
    }

    pub stops_in_line : (Ends : Ending) (after : Outside) (tail : List ℕ) → StopsIn Ends kept_after p after → RunsPrefix Ends (lines_of (bytes ++ (part ++ 10 ∷ tail))) most before after
    stops_in_line Ends after tail stops =
        let cut = line_cut bytes t.done t.begun part t.cut (no_newline part plain) in
        let joined : (bytes ++ (part ++ 10 ∷ [])) ++ tail ≡ bytes ++ (part ++ 10 ∷ tail) = append_assoc bytes (part ++ 10 ∷ []) tail ∙ ap (λ l. bytes ++ l) (append_assoc part (10 ∷ []) tail) in
        let lines : lines_of (bytes ++ (part ++ 10 ∷ tail)) ≡ t.done ++ (t.begun ++ part) ∷ lines_of tail =
        sym (ap lines_of joined) ∙ cut.lines tail ∙ append_assoc t.done ((t.begun ++ part) ∷ []) (lines_of tail)
        in subst (λ (l : List (List ℕ)). RunsPrefix Ends l most before after) (sym lines) (stops (t.begun ++ part) t.done (lines_of tail) most before kept_of t.at)

  -- stopped when no further line had begun
  pub stops_here : (Ends : Ending) (tail : List ℕ) → IsSessionModel p.model → Ends None [] p.now.files p.now.files → RunsPrefix Ends (lines_of (bytes ++ tail)) most before p.now
  stops_here Ends tail session so =
      subst (λ (l : List (List ℕ)). RunsPrefix Ends l most before p.now) (sym (t.cut.lines tail)) (stopped_between Ends t.done (lines_of (t.begun ++ tail)) most before p session so t.at)

  -- the end of the bytes, if no line has begun, and if one has
  pub ends_so : IsSessionModel p.model → kept ≡ [] → RunsAll (lines_of bytes) p.refused most before p.now
  ends_so session none =
      let begun : t.begun ≡ [] = none_kept 65537 t.begun (omega arith) (sym t.kept_is ∙ none) in
      subst (λ (l : List (List ℕ)). RunsAll l p.refused most before p.now) (sym (ended_without bytes t.done t.begun t.cut begun)) (ends t.done most before p session t.at)

  last_of : 0 < length kept → lines_of bytes ≡ t.done ++ t.begun ∷ []
  last_of some = ended_with bytes t.done t.begun t.cut (some_begun 65537 t.begun (omega (arith, some, ap length t.kept_is)))

  pub ends_with_last : (new : ConversationState) → IsSessionModel new.model → 0 < length kept → Does kept p new → RunsAll (lines_of bytes) new.refused most before new.now
  ends_with_last new session some does =
      subst (λ (l : List (List ℕ)). RunsAll l new.refused most before new.now) (sym (last_of some))
      (ends (t.done ++ t.begun ∷ []) most before new session (does t.begun t.done most before t.kept_is t.at))

  pub stops_in_last : (Ends : Ending) (after : Outside) → 0 < length kept → StopsIn Ends kept p after → RunsPrefix Ends (lines_of bytes) most before after
  stops_in_last Ends after some stops =
      subst (λ (l : List (List ℕ)). RunsPrefix Ends l most before after) (sym (last_of some)) (stops t.begun t.done [] most before t.kept_is t.at)

-- a piece of which a part has been read
module _ (piece read rest : List ℕ) (kept : List ℕ) (p : ConversationState) (kept_now : List ℕ) (now : ConversationState) (is : piece ≡ read ++ rest) (hears : Hears read kept p kept_now now) where
  split : (bytes tail : List ℕ) → bytes ++ (piece ++ tail) ≡ (bytes ++ read) ++ (rest ++ tail)
  split bytes tail = ap (λ l. bytes ++ (l ++ tail)) is ∙ ap (λ l. bytes ++ l) (append_assoc read rest tail) ∙ sym (append_assoc bytes read (rest ++ tail))

  -- stopped when nothing of the rest had begun
  pub stops_between : (Ends : Ending) → IsSessionModel now.model → Ends None [] now.now.files now.now.files → StopsWithin Ends piece kept p now.now
  stops_between Ends session so = λ bytes tail most before t.
      subst (λ l. RunsPrefix Ends (lines_of l) most before now.now) (sym (split bytes tail)) (stops_here (bytes ++ read) most before kept_now now (hears bytes most before t) Ends (rest ++ tail) session so)

  -- the rest belongs to the line that has begun
  pub hears_rest : (kept_after : List ℕ) → All (λ b. b ≢ 10) rest → kept_after ≡ take 65537 (kept_now ++ rest) → Hears piece kept p kept_after now
  hears_rest kept_after plain kept_is = λ bytes most before t.
      subst (λ l. IsTalking l most before kept_after now) (append_assoc bytes read rest ∙ ap (λ l. bytes ++ l) (sym is)) (talks_on (bytes ++ read) most before kept_now now (hears bytes most before t) rest kept_after plain kept_is)

  module _ (part left kept_whole : List ℕ) (cut : rest ≡ part ++ 10 ∷ left) (plain : All (λ b. b ≢ 10) part) (kept_is : kept_whole ≡ take 65537 (kept_now ++ part)) where
    -- stopped in the line that ends in the rest
    pub stops_line : (Ends : Ending) (after : Outside) → StopsIn Ends kept_whole now after → StopsWithin Ends piece kept p after
    stops_line Ends after stops = λ bytes tail most before t.
        let same : bytes ++ (piece ++ tail) ≡ (bytes ++ read) ++ (part ++ 10 ∷ (left ++ tail)) =
        split bytes tail ∙ ap (λ l. (bytes ++ read) ++ (l ++ tail)) cut ∙ ap (λ l. (bytes ++ read) ++ l) (append_assoc part (10 ∷ left) tail)
        in subst (λ l. RunsPrefix Ends (lines_of l) most before after) (sym same) (stops_in_line (bytes ++ read) most before kept_now now (hears bytes most before t) part kept_whole plain kept_is Ends after (left ++ tail) stops)

    -- that line is executed
    pub hears_line : (new : ConversationState) (empty : List ℕ) → empty ≡ [] → Does kept_whole now new → (more : List ℕ) × (piece ≡ more ++ left) × Hears more kept p empty new
    hears_line new empty none does = (
      read ++ (part ++ 10 ∷ []),
      is ∙ ap (λ l. read ++ l) (cut ∙ sym (append_assoc part (10 ∷ []) left)) ∙ sym (append_assoc read (part ++ 10 ∷ []) left),
      (λ bytes most before t. subst (λ l. IsTalking l most before empty new) (append_assoc bytes read (part ++ 10 ∷ [])) (ends_line (bytes ++ read) most before kept_now now (hears bytes most before t) part kept_whole plain kept_is new empty none does)),
    )
