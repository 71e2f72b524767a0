-- One step of a run: a line.
use Rattle.script_driver.proofs.Names.{[], Adds, Anywhere, ap, append-nil, Appends, Appends-kept, Appends-nil, Appends-trans, arith, Bool, both, Carried, Command, Ending}
use Rattle.script_driver.proofs.Names.{false, Halts, HasIncreased, InFileLine, inl, inr, is_refused, IsDone, IsList, IsSessionModel, IsStopped, IsStoppedLine, Leaves}
use Rattle.script_driver.proofs.Names.{length, length-append, LineState, List, Means, Named, no_lines, no_steps, nodes_of, None, nothing, Of, Option, Outlet, Outside}
use Rattle.script_driver.proofs.Names.{outside, pairs_of, PlacesFew, refl, RunsAll, RunsPrefix, SessionModel, start, State, Stop, Stopped, subst, Sum, sym, take, Told}
use Rattle.script_driver.proofs.Names.{UnlessList, World, world, world_in, ℕ, ◌*◌, ◌++◌, ◌+◌, ◌-◌, ◌||◌, ◌∙◌, ◌∷◌, ◌≡◌, ◌≤◌, ◌⊎◌}
use Rattle.slp_model.specs.Nodes.{pair_count}
use Rattle.span_language.proofs.RunsLemmas.{both_paid, few_of, nothing_paid, one_more, or_false}
use Rattle.span_language.specs.declared.told.Stop.TheVariants as stop
use Rattle.span_language.proofs.PlacesLemmas.{places_few, places_few_part, places_go_on}
use Rattle.session_state.specs.SessionState.{tables_in}
use Rattle.script_driver.specs.Position.{ConversationState, ReachesState, conversation}

-- what is observable of a state and a sink
abbrev pub told_of : LineState → Outlet → Outside
told_of s out = outside out.written s.files s.looks s.pairs s.places

pub at_start : (most : ℕ) (before : Outside) (st : SessionModel) → st.state ≡ nothing most → st.covered ≡ [] → st.counted ≡ [] → st.store ≡ [] → ReachesState [] most before (conversation 1 false st before)
unfolding pair_count
at_start most before st is none uncounted new = record {
  counted = refl;
  sum = no_lines;
  ran = (refl, ap (λ (s : State). world s before.files) is);
  refused_is = refl;
  wrote = Appends-nil before.written;
  paid = nothing_paid before.counters;
  dropped = 0;
  placed = record {
    both = λ n le. omega (arith, ap (λ (l : Named ℕ). n * length l) none, ap (λ (l : Named ℕ). n * length l) uncounted);
    unasked = λ no n le. omega (arith, ap (λ (l : Named ℕ). n * length l) none);
  };
  grown = omega (arith, ap pair_count new);
}

-- nothing is buffered in the sink, also after a line that left it unchanged
pub gone_still : {K : Type 0} (kept : K → ℕ) (next now : K) → next ≡ now → kept now ≡ 0 → kept next ≡ 0
gone_still kept next now same none = ap kept same ∙ none

pub gone_on : {K Q : Type 0} (kept : K → ℕ) (next now : K) → (Q × (next ≡ now)) ⊎ (kept next ≡ 0) → kept now ≡ 0 → kept next ≡ 0
gone_on kept next now (inl same) none = gone_still kept next now same.1 none
gone_on kept next now (inr gone) none = gone

-- a count that increased in the last part of a run increased in the run
pub increased_later : (a b c : ℕ) → a ≤ b → HasIncreased b c → HasIncreased a c
increased_later a b c le has_increased = omega (arith, le, has_increased)

pub ends : (lines : List (List ℕ)) (most : ℕ) (before : Outside) (p : ConversationState) → IsSessionModel p.model → ReachesState lines most before p → RunsAll lines p.refused most before p.now
ends lines most before p session at = record {
  sum = at.sum;
  state = p.model.state;
  ran = at.ran;
  refused_is = at.refused_is;
  wrote = at.wrote;
  paid = at.paid;
  placed = few_of at.sum.counted at.sum before p.now (256 + pairs_of p.model + at.dropped) (omega (arith, at.grown)) (places_few at.sum.counted at.sum.queries at.dropped (nodes_of p.model) (tables_in p.model) before.places p.now.places (256 + pairs_of p.model) (record { covered = session.within; counted = session.counts_within }) session.few at.placed);
}

-- a run that was stopped when no line had begun
pub stopped_between : (Ends : Ending) (lines left : List (List ℕ)) (most : ℕ) (before : Outside) (p : ConversationState) → IsSessionModel p.model → Ends None [] p.now.files p.now.files → ReachesState lines most before p
    → RunsPrefix Ends (lines ++ left) most before p.now
stopped_between Ends lines left most before p session ends_so at =
    let all = ends lines most before p session at in
    record {
      done = lines;
      left = left;
      cut = refl;
      sum = all.sum;
      mid = world all.state p.now.files;
      ran = all.ran;
      part = [];
      last = no_steps;
      counted = false;
      next = inl (refl, refl, refl, refl, ends_so);
      wrote = subst (λ (l : List ℕ). Appends before.written p.now.written l) (sym (append-nil all.sum.output)) all.wrote;
      paid = both_paid all.sum.cost no_steps before.counters p.now.counters p.now.counters all.paid (nothing_paid p.now.counters);
      placed = subst (λ (b : Bool). PlacesFew b all.sum before p.now) (sym (or_false all.sum.counted)) all.placed;
    }

module _ (lines : List (List ℕ)) (line : List ℕ) (number : ℕ) (refused : Bool) (most : ℕ) (before : Outside) (old : LineState) (sink : Outlet) (new : LineState) (after : Outlet) (at : ReachesState lines most before (conversation number refused old.model (told_of old sink))) where
  pub goes_on : (told : Told) → IsDone line number old sink new after told → ReachesState (lines ++ line ∷ []) most before (conversation (number + 1) (refused || is_refused told) new.model (told_of new after))
  goes_on told (meaning, means, d) =
      let one : Sum = record { refused = is_refused told; output = d.finishes.0; cost = d.paid.0; queries = d.tallies.queries; compactions = d.tallies.compactions; counted = d.tallies.counts } in
      let adds : Adds (world_in old) number line one (world_in new) = record {
        meaning = meaning;
        told = told;
        means = means;
        carried = d.finishes.1;
        allowed = d.paid.1;
        registers = d.tallies.registered;
        compacts = d.tallies.compacted;
        counts = d.tallies.asked;
        refused_is = refl;
      } in
      record {
        counted = omega (arith, at.counted, length-append lines (line ∷ []));
        sum = both at.sum one;
        ran = one_more (start most before) 1 lines at.sum (world_in old) line one (world_in new) at.ran (subst (λ (k : ℕ). Adds (world_in old) k line one (world_in new)) at.counted adds);
        refused_is = ap (λ (b : Bool). b || is_refused told) at.refused_is;
        wrote = Appends-trans before.written sink.written after.written at.sum.output d.finishes.0 at.wrote d.finishes.2;
        paid = both_paid at.sum.cost d.paid.0 before.counters (told_of old sink).counters (told_of new after).counters at.paid d.paid.2;
        dropped = at.dropped + d.tallies.dropped;
        placed = places_go_on at.sum.counted d.tallies.counts at.sum.queries at.dropped d.tallies.queries d.tallies.dropped (nodes_of old.model) (nodes_of new.model) (tables_in old.model) (tables_in new.model) before.places old.places new.places d.tallies.nodes at.placed d.tallies.placed;
        grown = omega (arith, at.grown, d.tallies.pairs);
      }

  abbrev HaltsAt : Option Command → Type 0
  HaltsAt meaning = Halts (Carried (world_in old) number meaning) (world_in old) sink.written after.written (world_in new)

  abbrev part_of : (meaning : Option Command) → HaltsAt meaning → List ℕ
  part_of meaning (inl kept) = []
  part_of meaning (inr (told, reply, carried, (n, wrote))) = take n reply

  part_is_prefix : (meaning : Option Command) (h : HaltsAt meaning) → IsStoppedLine (world_in old) (1 + length lines) meaning (part_of meaning h) new.files
  part_is_prefix meaning (inl kept) = inl (refl, ap (λ (w : World). w.files) kept.world)
  part_is_prefix meaning (inr (told, reply, carried, (n, wrote))) = inr (told, reply, world_in new, n, subst (λ (k : ℕ). Carried (world_in old) k meaning told reply (world_in new)) at.counted carried, refl, refl)

  part_written : (meaning : Option Command) (h : HaltsAt meaning) → Appends before.written after.written (at.sum.output ++ part_of meaning h)
  part_written meaning (inl kept) = Appends-trans before.written sink.written after.written at.sum.output [] at.wrote (Appends-kept sink.written sink.written after.written [] (Appends-nil sink.written) kept.written)
  part_written meaning (inr (told, reply, carried, (n, wrote))) = Appends-trans before.written sink.written after.written at.sum.output (take n reply) at.wrote wrote

  -- a run that is stopped in this line
  stops : (Ends : Ending) (rest : List (List ℕ)) (why : Stop) (meaning : Option Command) → IsSessionModel old.model → IsSessionModel new.model → Means line meaning → Stopped number meaning old sink new after why → (h : HaltsAt meaning) → Ends meaning (part_of meaning h) old.files new.files
      → RunsPrefix Ends (lines ++ line ∷ rest) most before (told_of new after)
  stops Ends rest why meaning session stands means s h ends =
      let n = 256 + pairs_of old.model + (new.pairs - old.pairs) in
      let few : nodes_of new.model ≤ n = omega (arith, stands.few, s.passes.bounded.pairs, s.passes.bounded.calls) in
      let bound : n + at.dropped ≤ 256 * (1 + at.sum.compactions) + (new.pairs - before.counters.pairs) = omega (arith, at.grown, s.passes.bounded.calls) in
      record {
        done = lines;
        left = line ∷ rest;
        cut = refl;
        sum = at.sum;
        mid = world_in old;
        ran = at.ran;
        part = part_of meaning h;
        last = s.passes.bounded.begun.0;
        counted = s.passes.bounded.counts;
        next = inr (line, rest, meaning, refl, record { means = means; prefix = part_is_prefix meaning h; allowed = s.passes.bounded.begun.1; counts = s.passes.bounded.asked }, ends);
        wrote = part_written meaning h;
        paid = both_paid at.sum.cost s.passes.bounded.begun.0 before.counters (told_of old sink).counters (told_of new after).counters at.paid s.passes.bounded.begun.2;
        placed = few_of (at.sum.counted || s.passes.bounded.counts) at.sum before (told_of new after) (n + at.dropped) bound
            (places_few_part at.sum.counted s.passes.bounded.counts at.sum.queries at.dropped (nodes_of old.model) (nodes_of new.model) (tables_in old.model) before.places old.places new.places n (omega (arith, session.few)) few at.placed s.passes.bounded.placed);
      }

  -- a failure of the sink may stop it anywhere
  pub stops_anywhere : (rest : List (List ℕ)) → IsSessionModel old.model → IsSessionModel new.model → IsStopped line number old sink new after stop.OutFault → RunsPrefix Anywhere (lines ++ line ∷ rest) most before (told_of new after)
  stops_anywhere rest session stands (inl (other, same, kept)) = let bad : ⊥ = cc other in absurd bad
  stops_anywhere rest session stands (inr (meaning, means, s)) = stops Anywhere rest stop.OutFault meaning session stands means s s.halts tt

  -- a failure of the file store stops a line that uses files, of which nothing was written
  pub stops_in_file : (rest : List (List ℕ)) → IsSessionModel old.model → IsSessionModel new.model → IsStopped line number old sink new after stop.ShelfFault → RunsPrefix InFileLine (lines ++ line ∷ rest) most before (told_of new after)
  stops_in_file rest session stands (inl (other, same, kept)) = let bad : ⊥ = cc other in absurd bad
  stops_in_file rest session stands (inr (meaning, means, s)) =
      let file = s.shelf_fault refl in
      stops InFileLine rest stop.ShelfFault meaning session stands means s (inl file.2) (file.0, refl, ap (λ (w : World). w.files) file.2.world)

  -- an allocation failure: a line of the form `list` was stopped before any of it was written, unless a count increased
  pub stops_wanting : (rest : List (List ℕ)) (wants : ℕ) → wants ≤ sink.wants → IsSessionModel old.model → IsSessionModel new.model → IsStopped line number old sink new after stop.NoMemory → RunsPrefix (UnlessList wants after.wants) (lines ++ line ∷ rest) most before (told_of new after)
  stops_wanting rest wants later session stands (inl (unread, same, kept)) =
      subst (λ (s : LineState). RunsPrefix (UnlessList wants after.wants) (lines ++ line ∷ rest) most before (told_of s after)) (sym same)
      (subst (λ (o : Outlet). RunsPrefix (UnlessList wants after.wants) (lines ++ line ∷ rest) most before (told_of old o)) (sym kept)
      (stopped_between (UnlessList wants after.wants) lines (line ∷ rest) most before (conversation number refused old.model (told_of old sink)) session (λ no. absurd no) at))
  stops_wanting rest wants later session stands (inr (meaning, means, s)) = by (s.want refl)
    where
      by : (Of IsList meaning → ⊥) ⊎ (HasIncreased sink.wants after.wants ⊎ Leaves (world_in old) sink.written after.written (world_in new)) → RunsPrefix (UnlessList wants after.wants) (lines ++ line ∷ rest) most before (told_of new after)
      by (inl other) = stops (UnlessList wants after.wants) rest stop.NoMemory meaning session stands means s s.halts (λ list. absurd (other list))
      by (inr (inl has_increased)) = stops (UnlessList wants after.wants) rest stop.NoMemory meaning session stands means s s.halts (λ list. inl (increased_later wants sink.wants after.wants later has_increased))
      by (inr (inr left)) = stops (UnlessList wants after.wants) rest stop.NoMemory meaning session stands means s (inl left) (λ list. inr refl)
