-- The steps from a set of states with a byte, gathered bundle by bundle, and the marks with which a text may end.
use Rattle.std.proofs.Common.{◌≡◌, ℕ, zero, suc, ◌+◌, ◌-◌, ◌^◌, ◌<◌, ◌≤◌, ◌↔◌, ◌⊎◌, inl, inr, refl, sym, ap, subst, ◌∙◌, arith, Bool, true, false, List, [], ◌∷◌, ◌++◌, length, map, option_map, Some, slice_get, slice_index_or, get_or, set, Contains, replicate, reverse, length-set, nat_eq}
use Rattle.std.proofs.lemmas.List.{get_or-set_same, get_or-set_other, get_or-reverse, length-replicate, length-reverse}
use Rattle.std.proofs.lemmas.List.Kept.{AllPairs-from_increasing}
use Rattle.std.proofs.lemmas.Option.{get_or_from_slice_get, slice_get-get_or}
use Rattle.std.proofs.lemmas.Bool.Decides.{eqb_tells}
use Rattle.std.specs.List.Sorted.{IsStrictlyIncreasing}
use Rattle.marker_nfa.specs.Automaton.{Automaton, Moves, MayEnd}
use Rattle.marker_nfa.specs.declared.nfa.End.{End}
use Rattle.marker_dfa.specs.declared.bundles.Bundle.{Bundle}
use Rattle.marker_dfa.specs.declared.bundles.Readers.{Readers}
use Rattle.marker_dfa.specs.declared.exits.Step.{Step}
use Rattle.marker_dfa.specs.Bundles.{sources_of}
use Rattle.marker_dfa.specs.Reached.{Subset, IsIn}
use Rattle.marker_dfa.specs.Making.{AreBundles, AreEnds, AreReaders, AreSteps, Carries, GainsMark, GainsStates, GainsTarget, IsFalling, JoinsLast, Leaves, MarksFall, OpensStep}
use Rattle.marker_dfa.proofs.Lists.{contains_at, at_contains, contains_push, get_push, get_within, one_value, push_get, push_last, set_cases, set_here, set_there}
use Rattle.marker_dfa.proofs.Tracks.{blank_out}

both : {A B C D : Type 0} → (A → C) → (B → D) → A ⊎ B → C ⊎ D
both f g (inl x) = inl (f x)
both f g (inr y) = inr (g y)

before : (j n : ℕ) → j < n + 1 → (j < n) ⊎ (j ≡ n)
before j n l = grind arith

-- a set after one state is put in
pub insert_gains : (old : Subset) (t : ℕ) → t < length old → GainsStates old (set old t true) (λ p. t ≡ p)
insert_gains old t lt = record { size = length-set old t true; members = λ p. go p (eqb_tells p t) }
  where
    go : (p : ℕ) → ((nat_eq p t ≡ true) × (p ≡ t)) ⊎ ((nat_eq p t ≡ false) × (p ≡ t → ⊥)) → IsIn (set old t true) p ↔ IsIn old p ⊎ (t ≡ p)
    go p (inl e) = ((λ c. inr (sym e.1)), λ c. subst (λ (o : ℕ). IsIn (set old t true) o) (sym e.1) (get_or-set_same old t true false lt))
    go p (inr e) =
        let other = get_or-set_other old t p true false e.1 in
        ((λ c. inl (sym other ∙ c)), λ c. out c other)
      where
        out : IsIn old p ⊎ (t ≡ p) → get_or (set old t true) p false ≡ get_or old p false → IsIn (set old t true) p
        out (inl c) other = other ∙ c
        out (inr q) other = absurd (e.1 (sym q))

-- a set of one state
pub alone : (n t p : ℕ) → t < n → IsIn (set (replicate n false) t true) p ↔ (t ≡ p)
alone n t p lt = ((λ c. out ((gains.members p).0 c)), λ q. (gains.members p).1 (inr q))
  where
    gains : GainsStates (replicate n false) (set (replicate n false) t true) (λ q. t ≡ q)
    gains = insert_gains (replicate n false) t (omega (arith, lt, length-replicate {A = Bool} n false))

    out : IsIn (replicate n false) p ⊎ (t ≡ p) → t ≡ p
    out (inl c) = let bad : false ≡ true = sym (blank_out n p) ∙ c in absurd (cc)
    out (inr q) = q

-- a bundle leaves a set with this mark, to this state
pub record LeadsTo (x : Subset) (m p : ℕ) (w : Bundle) : Type 0 where
  pub leaves : Leaves x m w
  pub to : w.to ≡ p

-- one of the bundles at the first n places leads there
pub record LeadsUpTo (bundles : List Bundle) (x : Subset) (places : List ℕ) (n m p : ℕ) : Type 0 where
  pub index : ℕ
  pub position : ℕ
  pub bundle : Bundle
  pub below : index < n
  pub there : slice_get places index ≡ Some position
  pub at : slice_get bundles position ≡ Some bundle
  pub leads : LeadsTo x m p bundle

-- the steps of the bundles at the first n places
pub record StepsUpTo (size : ℕ) (bundles : List Bundle) (x : Subset) (places : List ℕ) (n : ℕ) (steps : List Step) : Type 0 where
  pub falling : (i j : ℕ) (e f : Step) → i < j → slice_get steps i ≡ Some e → slice_get steps j ≡ Some f → f.mark < e.mark
  pub sizes : (k : ℕ) (e : Step) → slice_get steps k ≡ Some e → length e.to ≡ size
  pub members : (k p : ℕ) (e : Step) → slice_get steps k ≡ Some e → IsIn e.to p ↔ LeadsUpTo bundles x places n e.mark p
  pub filled : (k : ℕ) (e : Step) → slice_get steps k ≡ Some e → (p : ℕ) × IsIn e.to p
  pub all : (m p : ℕ) → LeadsUpTo bundles x places n m p → (k : ℕ) × (e : Step) × (slice_get steps k ≡ Some e) × (e.mark ≡ m)

pub steps_start : (size : ℕ) (bundles : List Bundle) (x : Subset) (places : List ℕ) → StepsUpTo size bundles x places 0 []
steps_start size bundles x places = record {
  falling = λ i j e f l g h. absurd (cc);
  sizes = λ k e g. absurd (cc);
  members = λ k p e g. absurd (cc);
  filled = λ k e g. absurd (cc);
  all = λ m p s. absurd (omega (arith, s.below));
}

-- one more index, and the steps before and after it
module _ (size : ℕ) (bundles : List Bundle) (x : Subset) (places : List ℕ) (n position : ℕ) (w : Bundle) (old : List Step) (there : slice_get places n ≡ Some position) (at : slice_get bundles position ≡ Some w) (h : StepsUpTo size bundles x places n old) where
  this_one : (m p : ℕ) → (s : LeadsUpTo bundles x places (n + 1) m p) → s.index ≡ n → LeadsTo x m p w
  this_one m p s q =
      let here : s.position ≡ position = one_value places n s.position position (ap (slice_get places) (sym q) ∙ s.there) there in
      let same : s.bundle ≡ w = one_value bundles position s.bundle w (ap (slice_get bundles) (sym here) ∙ s.at) at in
      subst (λ (y : Bundle). LeadsTo x m p y) same s.leads

  wider : (m p : ℕ) → LeadsUpTo bundles x places n m p → LeadsUpTo bundles x places (n + 1) m p
  wider m p s = record { index = s.index; position = s.position; bundle = s.bundle; below = omega (arith, s.below); there = s.there; at = s.at; leads = s.leads }

  narrow : (m p : ℕ) → (s : LeadsUpTo bundles x places (n + 1) m p) → s.index < n → LeadsUpTo bundles x places n m p
  narrow m p s l = record { index = s.index; position = s.position; bundle = s.bundle; below = l; there = s.there; at = s.at; leads = s.leads }

  -- it doesn't leave the set with a mark
  narrower : (m p : ℕ) → (Leaves x m w → ⊥) → (s : LeadsUpTo bundles x places (n + 1) m p) → (s.index < n) ⊎ (s.index ≡ n) → LeadsUpTo bundles x places n m p
  narrower m p none s (inl l) = narrow m p s l
  narrower m p none s (inr q) = let t = this_one m p s q in absurd (none t.leaves)

  other_mark : (k p : ℕ) (e : Step) → (Leaves x e.mark w → ⊥) → slice_get old k ≡ Some e → IsIn e.to p ↔ LeadsUpTo bundles x places (n + 1) e.mark p
  other_mark k p e none g = ((λ c. wider e.mark p ((h.members k p e g).0 c)), λ s. (h.members k p e g).1 (narrower e.mark p none s (before s.index n s.below)))

  pub steps_pass : ((o : ℕ) → Contains (sources_of w) o → IsIn x o → ⊥) → StepsUpTo size bundles x places (n + 1) old
  steps_pass apart = record {
    falling = h.falling;
    sizes = h.sizes;
    members = λ k p e g. other_mark k p e (none e.mark) g;
    filled = h.filled;
    all = λ m p s. h.all m p (narrower m p (none m) s (before s.index n s.below));
  }
    where
      none : (m : ℕ) → Leaves x m w → ⊥
      none m l = let f = l.from in apart f.0 f.1 f.2

  module _ (fall : MarksFall bundles) (rising : (i j m k : ℕ) → i < j → slice_get places i ≡ Some m → slice_get places j ≡ Some k → m < k) (within : w.to < size) (leaves : (o : ℕ) × Contains (sources_of w) o × IsIn x o) where
    here : (m p : ℕ) → w.mark ≡ m → w.to ≡ p → LeadsUpTo bundles x places (n + 1) m p
    here m p e q = record { index = n; position = position; bundle = w; below = omega arith; there = there; at = at; leads = record { leaves = record { from = leaves; mark = e }; to = q } }

    -- the last step has its mark
    joined_last : (new : List Step) → JoinsLast old new w.mark w.to → StepsUpTo size bundles x places (n + 1) new
    joined_last new j = subst (λ (l : List Step). StepsUpTo size bundles x places (n + 1) l) (sym j.list) (record {
      falling = λ i k e f l g q. (let a = was i e g in let b = was k f q in let less = h.falling i k a.0 b.0 l a.1 b.1 in omega (arith, less, a.2, b.2));
      sizes = λ k e g. sizes k e (set_cases old j.last j.grown k e lt g);
      members = λ k p e g. members k p e (set_cases old j.last j.grown k e lt g);
      filled = λ k e g. filled k e (set_cases old j.last j.grown k e lt g);
      all = λ m p s. all m p s (before s.index n s.below);
    })
      where
        lt : j.last < length old
        lt = get_within old j.last j.step j.there

        was : (i : ℕ) (e : Step) → slice_get (set old j.last j.grown) i ≡ Some e → (f : Step) × (slice_get old i ≡ Some f) × (f.mark ≡ e.mark)
        was i e g = go (set_cases old j.last j.grown i e lt g)
          where
            go : ((i ≡ j.last) × (j.grown ≡ e)) ⊎ ((i ≡ j.last → ⊥) × (slice_get old i ≡ Some e)) → (f : Step) × (slice_get old i ≡ Some f) × (f.mark ≡ e.mark)
            go (inl q) = (j.step, ap (slice_get old) q.0 ∙ j.there, j.had ∙ sym j.mark ∙ ap (λ (z : Step). z.mark) q.1)
            go (inr q) = (e, q.1, refl)

        stays : (k : ℕ) (e : Step) → slice_get old k ≡ Some e → ((nat_eq k j.last ≡ true) × (k ≡ j.last)) ⊎ ((nat_eq k j.last ≡ false) × (k ≡ j.last → ⊥)) → (f : Step) × (slice_get (set old j.last j.grown) k ≡ Some f) × (f.mark ≡ e.mark)
        stays k e g (inl q) =
            let same : e ≡ j.step = one_value old j.last e j.step (ap (slice_get old) (sym q.1) ∙ g) j.there in
            (j.grown, ap (slice_get (set old j.last j.grown)) q.1 ∙ set_here old j.last j.grown lt, j.mark ∙ sym j.had ∙ ap (λ (z : Step). z.mark) (sym same))
        stays k e g (inr q) = (e, set_there old j.last j.grown k e q.1 g, refl)

        gains : GainsStates j.step.to j.grown.to (λ p. w.to ≡ p)
        gains = subst (λ (y : Subset). GainsStates j.step.to y (λ p. w.to ≡ p)) (sym j.targets) (insert_gains j.step.to w.to (omega (arith, within, h.sizes j.last j.step j.there)))

        same_mark : j.step.mark ≡ j.grown.mark
        same_mark = j.had ∙ sym j.mark

        to : (p : ℕ) → IsIn j.step.to p ⊎ (w.to ≡ p) → LeadsUpTo bundles x places (n + 1) j.grown.mark p
        to p (inl c) = subst (λ (m : ℕ). LeadsUpTo bundles x places (n + 1) m p) same_mark (wider j.step.mark p ((h.members j.last p j.step j.there).0 c))
        to p (inr q) = here j.grown.mark p (sym j.mark) q

        from : (p : ℕ) → (s : LeadsUpTo bundles x places (n + 1) j.grown.mark p) → (s.index < n) ⊎ (s.index ≡ n) → IsIn j.step.to p ⊎ (w.to ≡ p)
        from p s (inl l) = inl ((h.members j.last p j.step j.there).1 (subst (λ (m : ℕ). LeadsUpTo bundles x places n m p) (sym same_mark) (narrow j.grown.mark p s l)))
        from p s (inr q) = let t = this_one j.grown.mark p s q in inr t.to

        last_members : (p : ℕ) → IsIn j.grown.to p ↔ LeadsUpTo bundles x places (n + 1) j.grown.mark p
        last_members p = ((λ c. to p ((gains.members p).0 c)), λ s. (gains.members p).1 (from p s (before s.index n s.below)))

        greater : (k : ℕ) (e : Step) → (k ≡ j.last → ⊥) → slice_get old k ≡ Some e → w.mark < e.mark
        greater k e ne g =
            let under : k < j.last = earlier k j.last (length old) (get_within old k e g) j.is_last ne in
            let less = h.falling k j.last e j.step under g j.there in
            omega (arith, less, j.had)
          where
            earlier : (k last size : ℕ) → k < size → last + 1 ≡ size → (k ≡ last → ⊥) → k < last
            earlier k last size l e f = grind arith

        sizes : (k : ℕ) (e : Step) → ((k ≡ j.last) × (j.grown ≡ e)) ⊎ ((k ≡ j.last → ⊥) × (slice_get old k ≡ Some e)) → length e.to ≡ size
        sizes k e (inl q) = ap (λ (z : Step). length z.to) (sym q.1) ∙ gains.size ∙ h.sizes j.last j.step j.there
        sizes k e (inr q) = h.sizes k e q.1

        members : (k p : ℕ) (e : Step) → ((k ≡ j.last) × (j.grown ≡ e)) ⊎ ((k ≡ j.last → ⊥) × (slice_get old k ≡ Some e)) → IsIn e.to p ↔ LeadsUpTo bundles x places (n + 1) e.mark p
        members k p e (inl q) = subst (λ (z : Step). IsIn z.to p ↔ LeadsUpTo bundles x places (n + 1) z.mark p) q.1 (last_members p)
        members k p e (inr q) = other_mark k p e (λ l. (let more = greater k e q.0 q.1 in omega (arith, more, l.mark))) q.1

        filled : (k : ℕ) (e : Step) → ((k ≡ j.last) × (j.grown ≡ e)) ⊎ ((k ≡ j.last → ⊥) × (slice_get old k ≡ Some e)) → (p : ℕ) × IsIn e.to p
        filled k e (inl q) = (w.to, subst (λ (z : Step). IsIn z.to w.to) q.1 ((gains.members w.to).1 (inr refl)))
        filled k e (inr q) = h.filled k e q.1

        all : (m p : ℕ) → (s : LeadsUpTo bundles x places (n + 1) m p) → (s.index < n) ⊎ (s.index ≡ n) → (k : ℕ) × (e : Step) × (slice_get (set old j.last j.grown) k ≡ Some e) × (e.mark ≡ m)
        all m p s (inl l) =
            let a = h.all m p (narrow m p s l) in
            let b = stays a.0 a.1 a.2 (eqb_tells a.0 j.last) in
            (a.0, b.0, b.1, b.2 ∙ a.3)
        all m p s (inr q) = let t = this_one m p s q in (j.last, j.grown, set_here old j.last j.grown lt, j.mark ∙ t.leaves.mark)

    -- all steps have greater marks
    opened_step : (new : List Step) → OpensStep size old new w.mark w.to → StepsUpTo size bundles x places (n + 1) new
    opened_step new o = subst (λ (l : List Step). StepsUpTo size bundles x places (n + 1) l) (sym o.list) (record {
      falling = λ i k e f l g q. falls i k e f l (get_push old o.step e i g) (get_push old o.step f k q);
      sizes = λ k e g. sizes k e (get_push old o.step e k g);
      members = λ k p e g. members k p e (get_push old o.step e k g);
      filled = λ k e g. filled k e (get_push old o.step e k g);
      all = λ m p s. all m p s (before s.index n s.below);
    })
      where
        at_most : (k : ℕ) (e : Step) → slice_get old k ≡ Some e → w.mark ≤ e.mark
        at_most k e g =
            let c = h.filled k e g in
            let s = (h.members k c.0 e g).0 c.1 in
            let under = rising s.index n s.position position s.below s.there there in
            let low = fall s.position position s.bundle w under s.at at in
            omega (arith, low, s.leads.leaves.mark)

        differs : (m k : ℕ) → m ≤ k → (k ≡ m → ⊥) → m < k
        differs m k le ne = grind arith

        above : (k : ℕ) (e : Step) → slice_get old k ≡ Some e → w.mark < e.mark
        above k e g = go (cases k (length old) (get_within old k e g))
          where
            cases : (k size : ℕ) → k < size → (k + 1 ≡ size) ⊎ (k + 1 < size)
            cases k size l = grind arith

            go : (k + 1 ≡ length old) ⊎ (k + 1 < length old) → w.mark < e.mark
            go (inl q) = differs w.mark e.mark (at_most k e g) (o.fresh k e q g)
            go (inr l) =
                let next = get_or old (k + 1) e in
                let nearer : slice_get old (k + 1) ≡ Some next = slice_get-get_or old (k + 1) e l in
                let less = h.falling k (k + 1) e next (omega arith) g nearer in
                let low = at_most (k + 1) next nearer in
                omega (arith, less, low)

        only : (p : ℕ) → IsIn o.step.to p ↔ (w.to ≡ p)
        only p = subst (λ (y : Subset). IsIn y p ↔ (w.to ≡ p)) (sym o.targets) (alone size w.to p within)

        falls : (i k : ℕ) (e f : Step) → i < k → (slice_get old i ≡ Some e) ⊎ ((i ≡ length old) × (o.step ≡ e)) → (slice_get old k ≡ Some f) ⊎ ((k ≡ length old) × (o.step ≡ f)) → f.mark < e.mark
        falls i k e f l (inl g) (inl q) = h.falling i k e f l g q
        falls i k e f l (inl g) (inr q) = let more = above i e g in omega (arith, more, o.mark, ap (λ (z : Step). z.mark) q.1)
        falls i k e f l (inr g) (inl q) = absurd (omega (arith, l, g.0, get_within old k f q))
        falls i k e f l (inr g) (inr q) = absurd (omega (arith, l, g.0, q.0))

        sizes : (k : ℕ) (e : Step) → (slice_get old k ≡ Some e) ⊎ ((k ≡ length old) × (o.step ≡ e)) → length e.to ≡ size
        sizes k e (inl g) = h.sizes k e g
        sizes k e (inr q) = ap (λ (z : Step). length z.to) (sym q.1) ∙ ap length o.targets ∙ length-set (replicate size false) w.to true ∙ length-replicate {A = Bool} size false

        from : (p : ℕ) → (s : LeadsUpTo bundles x places (n + 1) o.step.mark p) → (s.index < n) ⊎ (s.index ≡ n) → w.to ≡ p
        from p s (inl l) =
            let a = h.all o.step.mark p (narrow o.step.mark p s l) in
            let more = above a.0 a.1 a.2 in
            absurd (omega (arith, more, a.3, o.mark))
        from p s (inr q) = let t = this_one o.step.mark p s q in t.to

        last_members : (p : ℕ) → IsIn o.step.to p ↔ LeadsUpTo bundles x places (n + 1) o.step.mark p
        last_members p = ((λ c. here o.step.mark p (sym o.mark) ((only p).0 c)), λ s. (only p).1 (from p s (before s.index n s.below)))

        members : (k p : ℕ) (e : Step) → (slice_get old k ≡ Some e) ⊎ ((k ≡ length old) × (o.step ≡ e)) → IsIn e.to p ↔ LeadsUpTo bundles x places (n + 1) e.mark p
        members k p e (inl g) = other_mark k p e (λ l. (let more = above k e g in omega (arith, more, l.mark))) g
        members k p e (inr q) = subst (λ (z : Step). IsIn z.to p ↔ LeadsUpTo bundles x places (n + 1) z.mark p) q.1 (last_members p)

        filled : (k : ℕ) (e : Step) → (slice_get old k ≡ Some e) ⊎ ((k ≡ length old) × (o.step ≡ e)) → (p : ℕ) × IsIn e.to p
        filled k e (inl g) = h.filled k e g
        filled k e (inr q) = (w.to, subst (λ (z : Step). IsIn z.to w.to) q.1 ((only w.to).1 refl))

        all : (m p : ℕ) → (s : LeadsUpTo bundles x places (n + 1) m p) → (s.index < n) ⊎ (s.index ≡ n) → (k : ℕ) × (e : Step) × (slice_get (old ++ o.step ∷ []) k ≡ Some e) × (e.mark ≡ m)
        all m p s (inl l) = let a = h.all m p (narrow m p s l) in (a.0, a.1, push_get old o.step a.1 a.0 a.2, a.3)
        all m p s (inr q) = let t = this_one m p s q in (length old, o.step, push_last old o.step, o.mark ∙ t.leaves.mark)

    pub steps_more : (new : List Step) → GainsTarget size old new w.mark w.to → StepsUpTo size bundles x places (n + 1) new
    steps_more new (inl j) = joined_last new j
    steps_more new (inr o) = opened_step new o

-- the steps of all bundles that read a byte
pub steps_end : (a : Automaton) (bundles : List Bundle) (x : Subset) (readers : Readers) (n : ℕ) (steps : List Step) → length readers.places.items ≤ n → AreBundles a bundles → AreReaders bundles readers → StepsUpTo a.states bundles x readers.places.items n steps → AreSteps a x readers.byte steps
steps_end a bundles x readers n steps le b r h = record {
  falling = h.falling;
  moves = λ k e g. record { size = h.sizes k e g; members = λ p. ((λ c. to e.mark p ((h.members k p e g).0 c)), λ s. (h.members k p e g).1 (from e.mark s.0 p s.1 s.2)) };
  filled = h.filled;
  all = λ m o p i mv. h.all m p (from m o p i mv);
}
  where
    to : (m p : ℕ) → LeadsUpTo bundles x readers.places.items n m p → (o : ℕ) × IsIn x o × Moves a o m readers.byte p
    to m p s =
        let w = (r.members s.position).0 (contains_at readers.places.items s.index s.position s.there) in
        let same : w.0 ≡ s.bundle = one_value bundles s.position w.0 s.bundle w.1 s.at in
        let f = s.leads.leaves.from in
        let carries : Carries s.bundle f.0 m readers.byte p = record {
          from = f.1;
          mark = s.leads.leaves.mark;
          letter = ap (λ (v : Bundle). slice_index_or v.letters readers.byte false) (sym same) ∙ w.2;
          to = s.leads.to;
        } in
        (f.0, f.2, (b.moves f.0 m readers.byte p).0 (s.position, (s.bundle, s.at, carries)))

    from : (m o p : ℕ) → IsIn x o → Moves a o m readers.byte p → LeadsUpTo bundles x readers.places.items n m p
    from m o p i mv =
        let c = (b.moves o m readers.byte p).1 mv in
        let w = c.1 in
        let k = at_contains readers.places.items c.0 ((r.members c.0).1 (w.0, w.1, w.2.letter)) in
        record {
          index = k.0;
          position = c.0;
          bundle = w.0;
          below = omega (arith, get_within readers.places.items k.0 c.0 k.1, le);
          there = k.1;
          at = w.1;
          leads = record { leaves = record { from = (o, w.2.from, i); mark = w.2.mark }; to = w.2.to };
        }

pub reader_within : (bundles : List Bundle) (readers : Readers) (k i : ℕ) → AreReaders bundles readers → slice_get readers.places.items k ≡ Some i → (w : Bundle) × (slice_get bundles i ≡ Some w)
reader_within bundles readers k i r g = let w = (r.members i).0 (contains_at readers.places.items k i g) in (w.0, w.1)

-- the marks of steps
abbrev pub marks_of : List Step → List ℕ
marks_of steps = map (λ (e : Step). e.mark) steps

step_of : (steps : List Step) (k m : ℕ) → slice_get (marks_of steps) k ≡ Some m → (e : Step) × (slice_get steps k ≡ Some e) × (e.mark ≡ m)
step_of [] k m h = absurd (cc)
step_of (e ∷ steps) zero m h = (e, refl, some_same e.mark m h)
  where
    some_same : (y z : ℕ) → Some y ≡ Some z → y ≡ z
    some_same y z q = cc
step_of (e ∷ steps) (suc k) m h = step_of steps k m h

pub mark_of : (steps : List Step) (k : ℕ) (e : Step) → slice_get steps k ≡ Some e → slice_get (marks_of steps) k ≡ Some e.mark
mark_of [] k e h = absurd (cc)
mark_of (f ∷ steps) zero e h = ap (option_map (λ (z : Step). z.mark)) h
mark_of (f ∷ steps) (suc k) e h = mark_of steps k e h

pub marks_fall : (a : Automaton) (x : Subset) (b : ℕ) (steps : List Step) → AreSteps a x b steps → IsFalling (marks_of steps)
marks_fall a x b steps h i j m n l g k =
    let e = step_of steps i m g in
    let f = step_of steps j n k in
    let less = h.falling i j e.0 f.0 l e.1 f.1 in
    omega (arith, less, e.2, f.2)

-- the mark of a move is among those of the steps
pub mark_among : (a : Automaton) (x : Subset) (b : ℕ) (steps : List Step) (m o p : ℕ) → AreSteps a x b steps → IsIn x o → Moves a o m b p → Contains (marks_of steps) m
mark_among a x b steps m o p h i mv =
    let e = h.all m o p i mv in
    contains_at _ e.0 m (mark_of steps e.0 e.1 e.2 ∙ ap Some e.3)

-- the marks of the first n ends whose states are in the set
abbrev pub EndsUpTo : Subset → List End → ℕ → ℕ → Type 0
EndsUpTo x ends n m = (e : End) × (j : ℕ) × (j < n) × (slice_get ends j ≡ Some e) × IsIn x e.state × (e.mark ≡ m)

pub record HasEndsUpTo (x : Subset) (ends : List End) (n : ℕ) (ms : List ℕ) : Type 0 where
  pub members : (m : ℕ) → Contains ms m ↔ EndsUpTo x ends n m

pub ends_start : (x : Subset) (ends : List End) → HasEndsUpTo x ends 0 []
ends_start x ends = record { members = λ m. ((λ c. (let l : c.0 < 0 = c.1 in absurd (omega (arith, l)))), λ s. (let l : s.1 < 0 = s.2 in absurd (omega (arith, l)))) }

pub ends_more : (x : Subset) (ends : List End) (n : ℕ) (e : End) (old new : List ℕ) → slice_get ends n ≡ Some e → HasEndsUpTo x ends n old → GainsMark old new (λ m. IsIn x e.state × (e.mark ≡ m)) → HasEndsUpTo x ends (n + 1) new
ends_more x ends n e old new at h g = record { members = λ m. ((λ c. to m ((g m).0 c)), λ s. (g m).1 (from m s.0 s.1 s.3 (s.4, s.5) (before s.1 n s.2))) }
  where
    to : (m : ℕ) → Contains old m ⊎ (IsIn x e.state × (e.mark ≡ m)) → EndsUpTo x ends (n + 1) m
    to m (inl c) = let s = (h.members m).0 c in (s.0, s.1, omega (arith, s.2), s.3, s.4, s.5)
    to m (inr q) = (e, n, omega arith, at, q.0, q.1)

    from : (m : ℕ) (f : End) (j : ℕ) → slice_get ends j ≡ Some f → IsIn x f.state × (f.mark ≡ m) → (j < n) ⊎ (j ≡ n) → Contains old m ⊎ (IsIn x e.state × (e.mark ≡ m))
    from m f j w s (inl l) = inl ((h.members m).1 (f, j, l, w, s.0, s.1))
    from m f j w s (inr q) =
        let same : f ≡ e = one_value ends n f e (ap (slice_get ends) (sym q) ∙ w) at in
        inr (subst (λ (z : End). IsIn x z.state × (z.mark ≡ m)) same s)

pub end_put : (x : Subset) (old : List ℕ) (e : End) → IsIn x e.state → GainsMark old (old ++ e.mark ∷ []) (λ m. IsIn x e.state × (e.mark ≡ m))
end_put x old e is_in m = ((λ c. both (λ k. k) (λ q. (is_in, sym q)) ((contains_push old e.mark m).0 c)), λ c. (contains_push old e.mark m).1 (both (λ k. k) (λ q. sym q.1) c))

pub end_skipped : (x : Subset) (old : List ℕ) (e : End) → slice_index_or x e.state false ≡ false → GainsMark old old (λ m. IsIn x e.state × (e.mark ≡ m))
end_skipped x old e out m = ((λ c. inl c), λ c. back c)
  where
    back : Contains old m ⊎ (IsIn x e.state × (e.mark ≡ m)) → Contains old m
    back (inl c) = c
    back (inr q) = let bad : false ≡ true = sym out ∙ q.0 in absurd (cc)

pub ends_end : (a : Automaton) (x : Subset) (old ms : List ℕ) (n : ℕ) → length a.ends ≤ n → HasEndsUpTo x a.ends n old → ((m : ℕ) → Contains ms m ↔ Contains old m) → IsFalling ms → AreEnds a x ms
ends_end a x old ms n le h same fall = record {
  falling = fall;
  members = λ m. ((λ c. to m ((h.members m).0 ((same m).0 c))), λ s. (same m).1 ((h.members m).1 (from m s)));
}
  where
    to : (m : ℕ) → EndsUpTo x a.ends n m → (o : ℕ) × IsIn x o × MayEnd a o m
    to m s = (s.0.state, s.4, contains_at a.ends s.1 _ (s.3 ∙ ap Some (λ j. record { state = s.0.state; mark = s.5 j })))

    from : (m : ℕ) → (o : ℕ) × IsIn x o × MayEnd a o m → EndsUpTo x a.ends n m
    from m s =
        let c = at_contains a.ends (record { state = s.0; mark = m }) s.2 in
        (record { state = s.0; mark = m }, c.0, omega (arith, get_within a.ends c.0 _ c.1, le), c.1, s.1, refl)

-- numbers that rise, the other way round
pub reversed_falls : (ms : List ℕ) → IsStrictlyIncreasing ms → IsFalling (reverse ms)
reversed_falls ms rise i j m n l g h =
    let size = length-reverse ms in
    let jl : j < length ms = omega (arith, get_within (reverse ms) j n h, size) in
    let il : i < length ms = omega (arith, l, jl) in
    let first : get_or ms (length ms - 1 - i) 0 ≡ m = sym (get_or-reverse ms i 0 il) ∙ get_or_from_slice_get (reverse ms) i m 0 g in
    let second : get_or ms (length ms - 1 - j) 0 ≡ n = sym (get_or-reverse ms j 0 jl) ∙ get_or_from_slice_get (reverse ms) j n 0 h in
    let less = AllPairs-from_increasing ms rise (length ms - 1 - j) (length ms - 1 - i) 0 (omega (arith, l, jl)) (omega (arith, il)) in
    omega (arith, less, first, second)

pub four_small : (k n : ℕ) → k ≤ 8 → n ≡ 4 ^ k → n ≤ 65536
four_small k n le e = go k le e
  where
    go : (k : ℕ) → k ≤ 8 → n ≡ 4 ^ k → n ≤ 65536
    go zero l e = let q : 4 ^ 0 ≡ 1 = refl in omega (arith, e, q)
    go (suc zero) l e = let q : 4 ^ 1 ≡ 4 = refl in omega (arith, e, q)
    go (suc (suc zero)) l e = let q : 4 ^ 2 ≡ 16 = refl in omega (arith, e, q)
    go (suc (suc (suc zero))) l e = let q : 4 ^ 3 ≡ 64 = refl in omega (arith, e, q)
    go (suc (suc (suc (suc zero)))) l e = let q : 4 ^ 4 ≡ 256 = refl in omega (arith, e, q)
    go (suc (suc (suc (suc (suc zero))))) l e = let q : 4 ^ 5 ≡ 1024 = refl in omega (arith, e, q)
    go (suc (suc (suc (suc (suc (suc zero)))))) l e = let q : 4 ^ 6 ≡ 4096 = refl in omega (arith, e, q)
    go (suc (suc (suc (suc (suc (suc (suc zero))))))) l e = let q : 4 ^ 7 ≡ 16384 = refl in omega (arith, e, q)
    go (suc (suc (suc (suc (suc (suc (suc (suc zero)))))))) l e = let q : 4 ^ 8 ≡ 65536 = refl in omega (arith, e, q)
    go (suc (suc (suc (suc (suc (suc (suc (suc (suc k))))))))) l e = absurd (omega (arith, l))
