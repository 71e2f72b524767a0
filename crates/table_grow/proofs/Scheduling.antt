-- The new nodes in the order of a schedule.
use Rattle.std.proofs.Common.{zero, suc, ◌≡◌, ◌≢◌, inl, inr, ℕ, ◌+◌, ◌<◌, ◌≤◌, refl, ap, sym, subst, ◌∙◌, arith, List, [], ◌∷◌, ◌++◌, length, take, drop, get_or, IsSome, Contains}
use Rattle.std.proofs.lemmas.Bool.{cases_lt}
use Rattle.std.proofs.lemmas.List.{take_all}
use Rattle.slp_model.specs.declared.NodeId.{NodeId}
use Rattle.table_grow.specs.Filling.{Assigns, Filling, IsDue, IsFilled, IsFilledTo, assigned}
use Rattle.table_grow.specs.Schedule.{IsSchedule, IsBefore}
use Rattle.table_grow.proofs.Growing.{all-before, old-some, same-nodes}

cut-at : (ids : List NodeId) (i : ℕ) (d : NodeId) → i < length ids → ids ≡ take i ids ++ get_or ids i d ∷ drop (i + 1) ids
cut-at [] i d h = absurd (omega arith)
cut-at (x ∷ ids) zero d h = refl
cut-at (x ∷ ids) (suc i) d h =
    let next : suc i + 1 ≡ suc (i + 1) = omega arith in
    ap (λ l. x ∷ l) (cut-at ids i d (omega arith)) ∙ ap (λ n. x ∷ (take i ids ++ get_or ids i d ∷ drop n (x ∷ ids))) (sym next)

module _ (s t : Filling) (i : ℕ) (ids : List NodeId) (plan : IsSchedule s.nodes s.filler.known ids) (all : Assigns s t (take i ids)) where
  placed-among : (id : NodeId) → Contains (take i ids) id → IsSome (assigned t id.index)
  placed-among id c = subst (λ (x : NodeId). IsSome (assigned t x.index)) c.2 (all.placed c.0 id c.1)

  child-placed : (id : NodeId) → IsBefore s.filler.known (take i ids) id → IsSome (assigned t id.index)
  child-placed id before = elim (cases_lt id.index s.filler.known) [
    | inl old ↦ all.continues.still id.index (old-some s.tables s.filler id.index old)
    | inr new ↦ placed-among id (before new)
  ]

  -- the next node of the schedule is due
  pub due-scheduled : (first : NodeId) → i < length ids → IsFilledTo s s.filler.known → IsDue t (get_or ids i first)
  due-scheduled first h at =
      let id = get_or ids i first in
      let here = plan.new i first h in
      let nodes = same-nodes s t all.continues in
      let once = all-before (λ (x y : NodeId). x.index ≢ y.index) (take i ids) (drop (i + 1) ids) id (rw (sym (cut-at ids i first h)) plan.once) in
      record {
        new = rw all.continues.known here.0;
        live = rw nodes here.1;
        free = all.others id.index once ∙ at.free id.index here.0 here.0;
        children = λ l r pair.
            let both = plan.children (take i ids) (drop (i + 1) ids) id l r (cut-at ids i first h) (rw nodes at pair) in
            (child-placed l both.0, child-placed r both.1);
      }

  -- at the end of the schedule each node is assigned
  pub filled-scheduled : length ids ≤ i → IsFilled t
  filled-scheduled h = λ id live. elim (cases_lt id s.filler.known) [
    | inl old ↦ all.continues.still id (old-some s.tables s.filler id old)
    | inr new ↦
        let nodes : length t.nodes ≡ length s.nodes = ap length (same-nodes s t all.continues) in
        let name : NodeId = record { index = id } in
        placed-among name (subst (λ xs. Contains xs name) (sym (take_all i ids h)) (plan.all name new (omega (arith, nodes, live))))
  ]
