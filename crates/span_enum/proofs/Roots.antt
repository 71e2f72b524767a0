-- The root of a text ahead of its first letter, and what it says of the text.
use Rattle.span_enum.proofs.Base.{Ahead, AreAhead, AreQuiet, AreTables, Begins, Behind, CanRun, DeterministicAutomaton, Dictionary, EnumerationInput, IsAhead, IsFresh, IsEnumerationInput, IsLive, IsLook, List, Look, Mark, Node, NodeId, None, Option, Some}
use Rattle.span_enum.proofs.Base.{IsWalkAt, [], ap, append-nil, arith, bytes-none, count_of, ends_of, false, length, length-take-le, refl, slice_get, subst, suc, sym, text_ahead, text_at, text_of, whole_text, ℕ, ◌++◌, ◌<◌, ◌∙◌, ◌∷◌}
use Rattle.span_enum.proofs.Base.{◌≡◌, ◌≤◌}
use Rattle.span_enum.proofs.Chains.{fits-none}
use Rattle.span_enum.proofs.Runs.{AreBytes, Tells, end-facts, final-from, goal-from_nothing, run-nothing}
use Rattle.span_enum.proofs.Tuples.{IsText}
use Rattle.span_enum.proofs.Ways.{back-none, next-node, passes-none}

-- nothing is left after the quiet final states
quiet-end : {words : ℕ} (g : EnumerationInput words) → IsEnumerationInput g → AreQuiet g.dfa.now g.quiet [] g.finals
quiet-end g is q h =
    let k = is.quiet q h in
    record { last = q; ends = refl; goal = is.all q k.0 ∙ final-from (ends_of g.dfa.now q) 0 (end-facts g.dfa.now q 0 0 k.1.step).1; sole = λ w r bytes ends goal. bytes-none w bytes; unmarked = k.1 }

-- ---- the text of a root
root-bytes : (a : DeterministicAutomaton) (nodes : List Node) (d : Dictionary) (root : Option NodeId) → AreTables a nodes d → count_of d ≡ length nodes → IsLive nodes root → AreBytes (text_of nodes root)
root-bytes a nodes d None all counted live = λ k o lt. absurd (omega arith)
root-bytes a nodes d (Some id) all counted live = (all id.index (omega (arith, live, counted))).bytes

pub input-text : {words : ℕ} (g : EnumerationInput words) → IsEnumerationInput g → length (whole_text g) ≤ 281474976710656 → IsText (whole_text g)
input-text g is short = record { bytes = root-bytes g.dfa.now g.view.store.now g.view.tables.now g.root is.ready.tables g.view.counted is.ready.live; short = short }

-- ---- nothing is read
pub fresh-root : {words : ℕ} (g : EnumerationInput words) (id : NodeId) (look : Look) → IsEnumerationInput g → g.root ≡ Some id → IsLook g.view.store.now g.view.tables.now id.index look.node look.len look.table.now
    → (ms : List (Mark words)) (hs : List (Option (Ahead words))) → ms ≡ [] → hs ≡ Some (record { id = id; look = look; at = 1; goals = g.finals; quiet = g.quiet; next = 0 }) ∷ [] → IsFresh g ms hs
fresh-root {words = words} g id look is e l ms hs unmarked one =
    let root : (Ahead words) = record { id = id; look = look; at = 1; goals = g.finals; quiet = g.quiet; next = 0 } in
    let live : id.index < length g.view.store.now = subst (λ r. IsLive g.view.store.now r) e is.ready.live in
    let there : IsAhead g root = record { live = live; look = l; positive = omega arith; low = omega (arith, l.len_is, l.short) } in
    let len : length hs ≡ 1 = ap length one in
    record {
      no_marks = unmarked;
      chain = root ∷ [];
      stands = record {
        ahead = (record { before = 0; counted = len; there = ap (λ k. slice_get k 0) one; earlier = omega arith }, refl);
        join = (refl, tt);
        goals = (there, record { reach = λ n x s t run. goal-from_nothing g.dfa.now n g.finals run; onward = λ n h. run-nothing g.dfa.now n g.finals h }, tt, quiet-end g is);
        state = is.automaton.has_start;
        quiet = λ e. cc;
      };
      text_is = append-nil (text_at g id.index) ∙ ap (λ r. text_of g.view.store.now r) (sym e);
      one = omega (arith, len);
    }

-- ---- the root in the list
-- it stands there alone
root-alone : {words : ℕ} (g : EnumerationInput words) (hs : List (Option (Ahead words))) (x : Ahead words) (c : List (Ahead words)) → AreAhead hs (length hs) (x ∷ c) → length hs ≤ 1 → text_ahead g (x ∷ c) ≡ text_at g x.id.index
root-alone g hs x c h one = ap (λ b. text_at g x.id.index ++ text_ahead g b) (back-none hs x.next c h.1 (omega (arith, h.0.counted, h.0.earlier, one))) ∙ append-nil (text_at g x.id.index)

pub root-tells : {words : ℕ} (g : EnumerationInput words) → IsEnumerationInput g → (ms : List (Mark words)) (hs : List (Option (Ahead words))) (h : Ahead words) → IsFresh g ms hs → 0 < length hs
    → ((before : ℕ) → length hs ≡ suc before → slice_get hs before ≡ Some (Some h)) → Tells g.dfa.now (whole_text g) h.look.table.now
root-tells g input ms hs h is some found =
    let n = next-node g input hs 1 _ _ is.chain (passes-none g hs 1 (record { state = 0; next = length hs; quiet = false }) is.chain is.stands) h some found in
    let whole : text_at g h.id.index ≡ whole_text g = sym (root-alone g hs h n.rest n.stands.ahead is.one) ∙ ap (text_ahead g) (sym n.back) ∙ is.text_is in
    subst (λ s. Tells g.dfa.now s h.look.table.now) whole n.tells

pub text-short : {words : ℕ} (g : EnumerationInput words) (ms : List (Mark words)) (hs : List (Option (Ahead words))) → IsFresh g ms hs → length (whole_text g) ≤ 281474976710656
text-short {words = words} g ms hs is = by is.chain is.stands is.text_is
  where
    by : (c : List (Ahead words)) → IsWalkAt g hs 1 (record { state = 0; next = length hs; quiet = false }) c → text_ahead g c ≡ whole_text g → length (whole_text g) ≤ 281474976710656
    by [] s e = omega (arith, ap length e)
    by (x ∷ c) s e = omega (arith, ap length (sym (root-alone g hs x c s.ahead is.one) ∙ e), s.goals.0.look.len_is, s.goals.0.look.short)

-- the walk is before the first letter
pub fresh-behind : {words : ℕ} (g : EnumerationInput words) (ms : List (Mark words)) (hs : List (Option (Ahead words))) (count : ℕ) → (is : IsFresh g ms hs) → count ≡ length hs → Behind g 1 (record { state = 0; next = count; quiet = false }) count [] ms hs is.chain
fresh-behind g ms hs count is e = record {
  at_is = omega arith;
  stands = rw e is.stands;
  leads = record { parts = sym is.text_is; ends = refl };
  low = omega (arith, e);
  count = 0;
  kept = ([], refl, is.no_marks, omega (arith, length-take-le count hs (omega (arith, e)), e, is.one));
}

pub fresh-begins : {words : ℕ} (g : EnumerationInput words) (ms : List (Mark words)) (hs : List (Option (Ahead words))) (count : ℕ) → (is : IsFresh g ms hs) → count ≡ length hs → CanRun g.dfa.now 0 (whole_text g) g.finals
    → Begins g (record { state = 0; next = count; quiet = false }) count [] ms hs
fresh-begins g ms hs count is e can = record { at = 1; chain = is.chain; behind = fresh-behind g ms hs count is e; can = rw is.text_is can; fits = rw e (fits-none g hs) }
