-- Records one after the other, as a loop reads them.
use Rattle.std.proofs.Common.{IsErrAnd, ◌≡◌, ℕ, zero, suc, ◌+◌, ◌-◌, ◌<◌, ◌≤◌, List, [], ◌∷◌, ◌++◌, length, Result, Ok, Err, ap, sym, subst, ◌∙◌, arith}
use Rattle.slp_model.specs.declared.NodeId.{NodeId}
use Rattle.slp_model.specs.declared.Node.{Node}
use Rattle.slp_model.specs.Tree.{Tree}
use Rattle.slp_model.specs.Nodes.{Grows, AreLiveIds}
use Rattle.slp_model.proofs.NodesLemmas.{Grows-trans, Grows-none}
use Rattle.slp_rebalance.specs.Entries.{entry_trees}
use Rattle.slp_image.specs.declared.refusal.ImageRefusal.{ImageRefusal}
use Rattle.slp_image.specs.declared.refusal.ImageRefusal.TheVariants.{NoMemory}
use Rattle.slp_image.specs.Fields.{◌>>=◌, Field}
use Rattle.slp_image.specs.Image.{Added, Outcome, records_onto}
use Rattle.slp_image.specs.Documents.{Fails}
use Rattle.slp_image.specs.Reads.{IsRecord, IsReading, AreRecords, ReadsRecord, cost_of}

-- if the first part fails, everything fails
pub fails-bind : {A B : Type 0} (e : ImageRefusal) (read : Result A ImageRefusal) (f : A → Result B ImageRefusal) → Fails e read → Fails e (read >>= f)
fails-bind NoMemory read f h = tt
fails-bind e read f h = ap (λ r. r >>= f) h

-- a rejection of an equal value
pub fails-same : {A : Type 0} (e : ImageRefusal) (read other : Result A ImageRefusal) → read ≡ other → Fails e other → Fails e read
fails-same {A} e read other s h = subst (λ (r : Result A ImageRefusal). Fails e r) (sym s) h

-- nothing is added to the store
pub none_grows : (ns : List Node) (p : ℕ) → Grows ns ns p p
none_grows ns p = Grows-none ns p p (omega arith)

-- a reader of a record passes the error of a field on
pub passed : {M X : Type 0} (Shows : List M → List Tree → Type 0) (view : X → List ℕ) (ms : List M) (read : Field (Added M)) (new : List Tree) (result : Result X ImageRefusal) (e : ImageRefusal)
    → IsErrAnd result (λ y. y ≡ e) → Fails e read → ReadsRecord Shows view ms read new result
passed Shows view ms read new (Ok x) e h fails = absurd h
passed Shows view ms read new (Err y) e h fails = subst (λ z. Fails z read) (sym h) fails

pub Grows-free : (old new : List Node) (p : ℕ) → Grows old new 0 0 → Grows old new p p
Grows-free old new p g = record { more = g.more; added = g.added; paid = omega (arith, g.paid) }

module _ {M : Type 0} (step : List M → List ℕ → Field (Added M)) where
  abbrev pub step_then : ℕ → List M → ℕ → Field (Added M) → Outcome (List M × List ℕ)
  step_then n ms cost read = elim read as (λ _. Outcome (List M × List ℕ)) [ Ok x ↦ records_onto step n (ms ++ x.0.entry ∷ []) (cost + x.0.cost) x.1 | Err why ↦ record { cost = cost; answer = Err why } ]

  -- the cost never decreases
  pub cost-rises : (n : ℕ) (ms : List M) (cost : ℕ) (bytes : List ℕ) → cost ≤ (records_onto step n ms cost bytes).cost
  cost-rises zero ms cost bytes = omega arith
  cost-rises (suc n) ms cost bytes = by (step ms bytes) (λ m c b. cost-rises n m c b)
    where
      by : (read : Field (Added M)) → ((m : List M) (c : ℕ) (b : List ℕ) → c ≤ (records_onto step n m c b).cost) → cost ≤ (step_then n ms cost read).cost
      by (Ok x) more = omega (arith, more (ms ++ x.0.entry ∷ []) (cost + x.0.cost) x.1)
      by (Err e) more = omega arith

  -- one record further
  pub goes-on : (n : ℕ) (ms : List M) (cost : ℕ) (bytes rest : List ℕ) (x : Added M) → step ms bytes ≡ Ok (x, rest) → records_onto step (suc n) ms cost bytes ≡ records_onto step n (ms ++ x.entry ∷ []) (cost + x.cost) rest
  goes-on n ms cost bytes rest x h = ap (λ read. step_then n ms cost read) h

  -- a record costs at most as much as all
  pub step-cost : (n : ℕ) (ms : List M) (cost : ℕ) (bytes : List ℕ) → cost + cost_of (step ms bytes) ≤ (records_onto step (suc n) ms cost bytes).cost
  step-cost n ms cost bytes = by (step ms bytes)
    where
      by : (read : Field (Added M)) → cost + cost_of read ≤ (step_then n ms cost read).cost
      by (Ok x) = cost-rises n (ms ++ x.0.entry ∷ []) (cost + x.0.cost) x.1
      by (Err e) = omega arith

  -- if a record fails, everything fails
  pub ends : (e : ImageRefusal) (n : ℕ) (ms : List M) (cost : ℕ) (bytes : List ℕ) → Fails e (step ms bytes) → Fails e (records_onto step (suc n) ms cost bytes).answer
  ends NoMemory n ms cost bytes h = tt
  ends e n ms cost bytes h = ap (λ read. (step_then n ms cost read).answer) h

  module _ (Shows : List M → List Tree → Type 0) where
    pub reads-init : (store : List Node) (ids : List NodeId) (p count : ℕ) (bytes : List ℕ) → ids ≡ [] → Shows [] [] → IsReading M Shows step store store ids p p (count - 0) bytes (records_onto step count [] 0 bytes)
    reads-init store ids p count bytes e none =
        let short : length ids ≡ 0 = ap length e in
        let all : count - 0 ≡ count = omega arith in
        record {
          grows = Grows-none store p p (omega arith);
          live = record { live = λ k d m. absurd (omega (arith, m, short)) };
          records = [];
          cost = 0;
          shown = subst (λ (xs : List NodeId). Shows [] (entry_trees store xs)) (sym e) none;
          so_far = ap (λ n. records_onto step n [] 0 bytes) all;
          paid = omega arith;
        }

    -- the next state of the loop
    pub reads-on : (old store new : List Node) (ids more : List NodeId) (p q r count i : ℕ) (bytes rest : List ℕ) (total : Outcome (List M × List ℕ)) → i < count
        → (s : IsReading M Shows step old store ids p q (count - i) bytes total) → Grows store new q r → AreLiveIds new more → IsRecord M Shows s.records (step s.records bytes) rest (entry_trees new more) → r ≤ q + cost_of (step s.records bytes)
        → IsReading M Shows step old new more p r (count - (i + 1)) rest total
    reads-on old store new ids more p q r count i bytes rest total lt s g live x paid =
        let k : count - i ≡ suc (count - (i + 1)) = omega arith in
        let c : cost_of (step s.records bytes) ≡ x.added.cost = ap cost_of x.is in
        record {
          grows = Grows-trans _ _ _ _ _ _ s.grows g;
          live = live;
          records = s.records ++ x.added.entry ∷ [];
          cost = s.cost + x.added.cost;
          shown = x.shown;
          so_far = sym (goes-on (count - (i + 1)) s.records s.cost bytes rest x.added x.is) ∙ (ap (λ n. records_onto step n s.records s.cost bytes) (sym k) ∙ s.so_far);
          paid = omega (arith, s.paid, paid, c);
        }

    pub reads-end : (e : ImageRefusal) (old store : List Node) (ids : List NodeId) (p q count i : ℕ) (bytes : List ℕ) (total : Outcome (List M × List ℕ)) → i < count
        → (s : IsReading M Shows step old store ids p q (count - i) bytes total) → Fails e (step s.records bytes) → Fails e total.answer
    reads-end e old store ids p q count i bytes total lt s h =
        let k : count - i ≡ suc (count - (i + 1)) = omega arith in
        subst (λ (t : Outcome (List M × List ℕ)). Fails e t.answer) (ap (λ n. records_onto step n s.records s.cost bytes) (sym k) ∙ s.so_far) (ends e (count - (i + 1)) s.records s.cost bytes h)

    pub reads-cost : (old store : List Node) (ids : List NodeId) (p q r count i : ℕ) (bytes : List ℕ) (total : Outcome (List M × List ℕ)) → i < count
        → (s : IsReading M Shows step old store ids p q (count - i) bytes total) → r ≤ q + cost_of (step s.records bytes) → r ≤ p + total.cost
    reads-cost old store ids p q r count i bytes total lt s paid =
        let k : count - i ≡ suc (count - (i + 1)) = omega arith in
        let e : (records_onto step (suc (count - (i + 1))) s.records s.cost bytes).cost ≡ total.cost = ap (λ (t : Outcome (List M × List ℕ)). t.cost) (ap (λ n. records_onto step n s.records s.cost bytes) (sym k) ∙ s.so_far) in
        omega (arith, s.paid, paid, e, step-cost (count - (i + 1)) s.records s.cost bytes)

    pub reads-done : (old store : List Node) (ids : List NodeId) (p q count i : ℕ) (bytes : List ℕ) (total : Outcome (List M × List ℕ)) → count ≤ i
        → IsReading M Shows step old store ids p q (count - i) bytes total → AreRecords M Shows total.answer bytes (entry_trees store ids) × (q ≤ p + total.cost)
    reads-done old store ids p q count i bytes total le s =
        let k : count - i ≡ 0 = omega arith in
        let e : records_onto step 0 s.records s.cost bytes ≡ total = ap (λ n. records_onto step n s.records s.cost bytes) (sym k) ∙ s.so_far in
        let c : s.cost ≡ total.cost = ap (λ (t : Outcome (List M × List ℕ)). t.cost) e in
        (record { records = s.records; is = sym (ap (λ (t : Outcome (List M × List ℕ)). t.answer) e); shown = s.shown }, omega (arith, s.paid, c))
