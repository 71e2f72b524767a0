-- The way over letters without marks: over nodes ahead, and down to a mark.
use Rattle.span_enum.proofs.Base.{Ahead, AreAhead, AreBetween, AreGoals, AtMost, Between, Bool, Byte, CanEnd, Descends, DeterministicAutomaton, Dies, Fails, Fits, GoesFirst, EnumerationInput, IsDeterministic, IsGreatestMark, IsEnumerationInput, IsMarkedLeft}
use Rattle.span_enum.proofs.Base.{IsNodeAt, IsOver, IsPlainLeft, Join, Keeps, Laid, Lays, LeadQuiet, List, Look, Mark, Marked, Meets, NodeId, None, Option, Passed, Passes, PassesPlain, PassesTo, WalkPosition, Some, IsWalkAt, IsWalkBefore, Tuple}
use Rattle.span_enum.proofs.Base.{Turns, Way, [], ap, append-nil, append_assoc, arith, bit_and, bytes-append, bytes-plain, bytes_of, can_reach_of, child, false, has-count, here, length, length-append, mark_count-append, mark_of}
use Rattle.span_enum.proofs.Base.{mark_over, marked, marked_of, member, path-on, path-parts, plain, plain-append, plain-dead, plain-on, reached, refl, sibling, slice_get, states_of, step_of, subst, suc, sym, take, take-append-add}
use Rattle.span_enum.proofs.Base.{take-append-le, text_ahead, text_at, true, true≢false, unmarked_of, ℕ, ◌++◌, ◌+◌, ◌-◌, ◌<◌, ◌∙◌, ◌∷◌, ◌≡◌, ◌≤◌}
use Rattle.span_enum.proofs.Chains.{Fork, before-left, before-right, between-compose, fork-goals, fork-height, fork-text, goals-on, next-is}
use Rattle.span_enum.proofs.Runs.{IsFirst-byte, IsFirst-fork, IsFirst-plain, Tells, fit-byte, goal-plain, marked-run, run-behind, run-join, run-within, table-from_run, tells}
use Rattle.span_enum.proofs.Tables.{byte-text, look-table, pair-text, plain-left}

pub passed-on : (a : DeterministicAutomaton) (p q r : ℕ) (s u v x y : List ℕ) → Passed a p s x q u → Passed a q u y r v → Passed a p s (x ++ y) r v
passed-on a p q r s u v x y one two = record {
  parts = one.parts ∙ ap (λ z. x ++ z) two.parts ∙ sym (append_assoc x y v);
  step = plain-on (step_of a) p q x y one.step ∙ two.step;
}

first-on : {words : ℕ} (g : EnumerationInput words) (p q r : ℕ) (b c d : List (Ahead words)) (x y : Marked) → GoesFirst g p b x q c → GoesFirst g q c y r d → GoesFirst g p b (x ++ y) r d
first-on g p q r b c d x y one two w n f = rw (append_assoc x y w) (one (y ++ w) n (two w n f))

abbrev pub way-on : {words : ℕ} (g : EnumerationInput words) (hs : List (Option (Ahead words))) (at here p q : ℕ) (x : List ℕ) (c d : List (Ahead words)) (m : Mark words) → Passed g.dfa.now p (text_ahead g c) x q (text_ahead g d) → here ≡ at + length x
    → Way g hs here q d m → Way g hs at p c m
way-on g hs at here p q x c d m over e k = record {
  prefix = x ++ k.prefix;
  back = k.back;
  passed = passed-on g.dfa.now p q m.state (text_ahead g c) (text_ahead g d) (m.byte ∷ text_ahead g k.back) x k.prefix over k.passed;
  at_is = omega (arith, k.at_is, e, length-append x k.prefix);
  is_mark = k.is_mark;
}

pub meets-on : {words : ℕ} (g : EnumerationInput words) (hs : List (Option (Ahead words))) (at here p q : ℕ) (x : List ℕ) (c d : List (Ahead words)) (m : Mark words) (to : WalkPosition) → Passed g.dfa.now p (text_ahead g c) x q (text_ahead g d) → here ≡ at + length x
    → GoesFirst g p c (plain x) q d → Meets g hs here q d m to → Meets g hs at p c m to
meets-on {words = words} g hs at here p q x c d m to over e first k =
    let last : Marked = (m.mark, m.byte) ∷ [] in
    let y = k.way.prefix in
    let words : plain (x ++ y) ++ last ≡ plain x ++ (plain y ++ last) = ap (λ v. v ++ last) (plain-append x y) ∙ append_assoc (plain x) (plain y) last in
    record {
      way = way-on g hs at here p q x c d m over e k.way;
      on = k.on;
      first = subst (λ v. GoesFirst g p c v to.state k.way.back) (sym words) (first-on g p q to.state c d k.way.back (plain x) (plain y ++ last) first k.first);
    }

-- ---- nodes ahead
abbrev pub passes-none : {words : ℕ} (g : EnumerationInput words) (hs : List (Option (Ahead words))) (at : ℕ) (from : WalkPosition) (c : List (Ahead words)) → IsWalkAt g hs at from c → Passes g hs at from from c
passes-none g hs at from c s = record { prefix = []; back = c; passed = record { parts = refl; step = refl }; stands = let same : at ≡ at + 0 = omega arith in subst (λ n. IsWalkAt g hs n from c) same s }

pub plain-none : {words : ℕ} (g : EnumerationInput words) (hs : List (Option (Ahead words))) (at : ℕ) (from : WalkPosition) (c : List (Ahead words)) → IsWalkAt g hs at from c → CanEnd g from.state c → PassesPlain g hs at from from c
plain-none g hs at from c s can = record { passes = passes-none g hs at from c s; can = can; first = λ w r f. f }

-- the node that comes next, after those that were passed
pub record Next {words : ℕ} (g : EnumerationInput words) (hs : List (Option (Ahead words))) (at : ℕ) (from place : WalkPosition) (c : List (Ahead words)) (p : Passes g hs at from place c) (h : Ahead words) : Type 0 where
  pub rest : List (Ahead words)
  pub back : p.back ≡ h ∷ rest
  pub stands : IsWalkAt g hs (at + length p.prefix) place (h ∷ rest)
  pub tells : Tells g.dfa.now (text_at g h.id.index) h.look.table.now

pub next-node : {words : ℕ} (g : EnumerationInput words) → IsEnumerationInput g → (hs : List (Option (Ahead words))) (at : ℕ) (from place : WalkPosition) (c : List (Ahead words)) (p : Passes g hs at from place c) (h : Ahead words) → 0 < place.next
    → ((before : ℕ) → place.next ≡ suc before → slice_get hs before ≡ Some (Some h)) → Next g hs at from place c p h
next-node g is hs at from place c p h some found =
    let head = next-is hs place.next p.back h p.stands.ahead some found in
    let stands : IsWalkAt g hs (at + length p.prefix) place (h ∷ head.0) = rw head.1 at p.stands in
    record {
      rest = head.0;
      back = head.1;
      stands = stands;
      tells = look-table g.dfa.now g.view.store.now g.view.tables.now is.ready.tables g.view.counted h.id.index _ _ _ stands.goals.0.live stands.goals.0.look;
    }

module _ {words : ℕ} (g : EnumerationInput words) (auto : IsDeterministic g.dfa.now) (hs : List (Option (Ahead words))) (at : ℕ) (from place : WalkPosition) (c : List (Ahead words)) (p : Passes g hs at from place c) (h : Ahead words) (n : Next g hs at from place c p h) where
  -- one node more is passed
  module _ (q : ℕ) (step : unmarked_of h.look.table.now place.state ≡ Some q) where
    abbrev pub node-text : List ℕ
    node-text = text_at g h.id.index

    pub node-passed : Passed g.dfa.now place.state (text_ahead g p.back) node-text q (text_ahead g n.rest)
    node-passed = record { parts = ap (text_ahead g) n.back; step = sym (n.tells.unmarked place.state n.stands.state) ∙ step }

    abbrev pub passes-on : Passes g hs at from (record { state = q; next = h.next; quiet = false }) c
    passes-on = record {
      prefix = p.prefix ++ node-text;
      back = n.rest;
      passed = passed-on g.dfa.now from.state place.state q (text_ahead g c) (text_ahead g p.back) (text_ahead g n.rest) p.prefix node-text p.passed node-passed;
      stands =
          let len : at + length p.prefix + length node-text ≡ at + length (p.prefix ++ node-text) = omega (arith, length-append p.prefix node-text) in
          record {
            ahead = n.stands.ahead.1;
            join = subst (λ k. Join g k n.rest) len n.stands.join.1;
            goals = goals-on g place.state q node-text [] n.rest (plain node-text) (bytes-plain node-text) node-passed.step (rw (append-nil node-text) n.stands.goals.2);
            state = run-within g.dfa.now auto place.state q (plain node-text) n.stands.state node-passed.step;
            quiet = λ e. absurd (true≢false (sym e));
          };
    }

-- no run without marks comes over the next node, which ends before the position
pub passes-dies : {words : ℕ} (g : EnumerationInput words) (hs : List (Option (Ahead words))) (at position : ℕ) (from place : WalkPosition) (c : List (Ahead words)) (p : PassesTo g hs at position from place c) (h : Ahead words) → (n : Next g hs at from place c p.passes h)
    → h.at + h.look.len ≤ position → unmarked_of h.look.table.now place.state ≡ None → Dies g from.state at (text_ahead g c) position
passes-dies g hs at position from place c p h n le none =
    let prefix = p.passes.prefix in
    let x = text_at g h.id.index in
    let far = take (position - (at + length (prefix ++ x))) (text_ahead g n.rest) in
    let whole : text_ahead g c ≡ (prefix ++ x) ++ text_ahead g n.rest = p.passes.passed.parts ∙ ap (λ b. prefix ++ text_ahead g b) n.back ∙ sym (append_assoc prefix x (text_ahead g n.rest)) in
    let size : position - at ≡ length (prefix ++ x) + (position - (at + length (prefix ++ x))) = omega (arith, le, n.stands.join.0, n.stands.goals.0.look.len_is, length-append prefix x) in
    let letters : take (position - at) (text_ahead g c) ≡ (prefix ++ x) ++ far = ap (take (position - at)) whole ∙ ap (λ k. take k ((prefix ++ x) ++ text_ahead g n.rest)) size ∙ take-append-add (prefix ++ x) (text_ahead g n.rest) (position - (at + length (prefix ++ x))) in
    let dead : reached g.dfa.now from.state (plain (prefix ++ x)) ≡ None = plain-on (step_of g.dfa.now) from.state place.state prefix x p.passes.passed.step ∙ sym (n.tells.unmarked place.state n.stands.state) ∙ none in
    ap (λ y. reached g.dfa.now from.state (plain y)) letters ∙ plain-dead (step_of g.dfa.now) from.state (prefix ++ x) far dead

-- where the walk can go on, a run over the next node leads into its goals
pub can-head : {words : ℕ} (g : EnumerationInput words) (hs : List (Option (Ahead words))) (at : ℕ) (from place : WalkPosition) (c : List (Ahead words)) (p : PassesPlain g hs at from place c) (h : Ahead words) → Next g hs at from place c p.passes h
    → can_reach_of h.look.table.now place.state h.goals ≡ true
can-head g hs at from place c p h n =
    let a = g.dfa.now in
    let x = text_at g h.id.index in
    let can : CanEnd g place.state (h ∷ n.rest) = rw n.back at p.can in
    let k = path-parts (step_of a) place.state x (text_ahead g n.rest) can.word can.state can.bytes can.ends in
    table-from_run a x h.look.table.now place.state h.goals n.tells n.stands.state (record {
      word = k.left;
      state = k.middle;
      bytes = k.left_bytes;
      ends = k.left_ends;
      goal = n.stands.goals.1.reach k.middle k.left k.left_bytes k.left_ends (run-behind a place.state x (text_ahead g n.rest) can.word can.state g.finals k can.goal);
    })

pub node-on : {words : ℕ} (g : EnumerationInput words) (auto : IsDeterministic g.dfa.now) (hs : List (Option (Ahead words))) (at : ℕ) (from place : WalkPosition) (c : List (Ahead words)) (p : PassesPlain g hs at from place c) (h : Ahead words) (q : ℕ)
    → Next g hs at from place c p.passes h → bit_and (marked_of h.look.table.now place.state) h.goals ≡ 0
    → unmarked_of h.look.table.now place.state ≡ Some q → PassesPlain g hs at from (record { state = q; next = h.next; quiet = false }) c
node-on g auto hs at from place c p h q n none step =
    let x = text_at g h.id.index in
    let goal = goal-plain h.look.table.now place.state h.goals q (can-head g hs at from place c p h n) none step in
    let alone = IsFirst-plain g.dfa.now x h.look.table.now place.state h.goals q n.tells n.stands.state none step goal in
    let node : GoesFirst g place.state (h ∷ n.rest) (plain x) q n.rest =
    λ w r f. IsFirst-fork g.dfa.now x (text_ahead g n.rest) place.state q r g.finals h.goals (plain x) w n.stands.goals.1.reach alone f in
    let first : GoesFirst g from.state c (plain p.passes.prefix) place.state (h ∷ n.rest) = subst (λ b. GoesFirst g from.state c (plain p.passes.prefix) place.state b) n.back p.first in
    record {
      passes = passes-on g auto hs at from place c p.passes h n q step;
      can = n.stands.goals.1.onward q goal;
      first = subst (λ w. GoesFirst g from.state c w q n.rest) (sym (plain-append p.passes.prefix x)) (first-on g from.state place.state q c (h ∷ n.rest) n.rest (plain p.passes.prefix) (plain x) first node);
    }

-- nothing is left where no node comes next
pub back-none : {words : ℕ} (hs : List (Option (Ahead words))) (place : ℕ) (c : List (Ahead words)) → AreAhead hs place c → place ≤ 0 → c ≡ []
back-none hs place [] h zero' = refl
back-none hs place (x ∷ c) h zero' = absurd (omega (arith, h.0.counted))

-- where the walk turns, some accepted text has a mark
pub some-mark : {words : ℕ} (g : EnumerationInput words) (hs : List (Option (Ahead words))) (at : ℕ) (from place : WalkPosition) (c : List (Ahead words)) (p : PassesPlain g hs at from place c) (h : Ahead words) (most : ℕ)
    → Next g hs at from place c p.passes h → Turns place.state p.passes.back → AtMost g from.state c most → 1 ≤ most
some-mark g hs at from place c p h most n turns few =
    let a = g.dfa.now in
    let x = p.passes.prefix in
    let here : Turns place.state (h ∷ n.rest) = rw n.back at turns in
    let run = marked-run a (text_at g h.id.index) h.look.table.now place.state h.goals n.tells n.stands.state here in
    let on = n.stands.goals.1.onward run.0 run.1 in
    let behind : CanEnd g place.state (h ∷ n.rest) = run-join a place.state run.0 g.finals (text_at g h.id.index) (text_ahead g n.rest) run.2.word run.2.bytes run.2.ends on in
    let w : Marked = run.2.word ++ on.word in
    let bytes : bytes_of (plain x ++ w) ≡ text_ahead g c =
    bytes-append (plain x) w ∙ ap (λ y. bytes_of (plain x) ++ y) (bytes-append run.2.word on.word) ∙ rw (bytes-plain x, run.2.bytes, on.bytes) (sym (p.passes.passed.parts ∙ ap (λ b. x ++ text_ahead g b) n.back)) in
    let ends : reached a from.state (plain x ++ w) ≡ Some on.state = path-on (step_of a) from.state place.state (plain x) w p.passes.passed.step ∙ path-on (step_of a) place.state run.0 run.2.word on.word run.2.ends ∙ on.ends in
    omega (arith, few (plain x ++ w) on.state bytes ends on.goal, has-count run.2.word run.2.mark, mark_count-append (plain x) w, mark_count-append run.2.word on.word)

-- ---- a letter
abbrev pub way-byte : {words : ℕ} (g : EnumerationInput words) (hs : List (Option (Ahead words))) (h : Ahead words) (q : ℕ) (c : List (Ahead words)) (b m base : ℕ) → IsNodeAt g.view.store.now h.id.index (Byte b) → IsWalkBefore g hs h q c → Way g hs h.at q (h ∷ c) (mark_over h b q m base)
way-byte g hs h q c b m base node s =
    let one : text_at g h.id.index ≡ b ∷ [] = byte-text g.view.store.now h.id.index b node in
    record {
      prefix = [];
      back = c;
      passed = record { parts = ap (λ x. x ++ text_ahead g c) one; step = refl };
      at_is = omega arith;
      is_mark = record {
        ahead = s.ahead;
        join = subst (λ x. Join g (h.at + length x) c) one s.join.1;
        letter = subst (λ x. AreBetween g.dfa.now q x (text_ahead g c) g.finals h.goals) one s.goals.1;
        goals = subst (λ x. AreGoals g q x c) one s.goals.2;
        state = s.state;
      };
    }

pub meets-byte : {words : ℕ} (g : EnumerationInput words) (auto : IsDeterministic g.dfa.now) (hs : List (Option (Ahead words))) (h : Ahead words) (q : ℕ) (c : List (Ahead words)) (b m r base : ℕ) → b < 256 → IsNodeAt g.view.store.now h.id.index (Byte b)
    → 0 < m → IsGreatestMark g.dfa.now q b h.goals 65536 m r → IsWalkBefore g hs h q c
    → Meets g hs h.at q (h ∷ c) (mark_over h b q m base) (record { state = r; next = h.next; quiet = member h.quiet r })
meets-byte g auto hs h q c b m r base byte node some best s =
    let way : Way g hs h.at q (h ∷ c) (mark_over h b q m base) = way-byte g hs h q c b m base node s in
    record {
      way = way-byte g hs h q c b m base node s;
      on = record { some = some; step = best.step; next = refl; can = way.is_mark.letter.onward r best.goal; quiet = λ e. s.goals.3 r e };
      first = λ w e f.
          let alone = IsFirst-byte g.dfa.now q b m h.goals r best.step best.goal (λ n k sn gn. best.most n k (fit-byte g.dfa.now auto q n b k byte sn).1 sn gn) in
          rw (byte-text g.view.store.now h.id.index b node) (IsFirst-fork g.dfa.now (b ∷ []) (text_ahead g c) q r e g.finals h.goals ((m, b) ∷ []) w way.is_mark.letter.reach alone f);
    }

-- ---- a pair
abbrev pub keeps-left : {words : ℕ} (g : EnumerationInput words) (base : ℕ) (marks more : List (Mark words)) (hs new : List (Option (Ahead words))) (x : Option (Ahead words)) → Keeps g base marks more (hs ++ x ∷ []) new → Keeps g base marks more hs new
keeps-left g base marks more hs new x k = record { mark = k.mark; kept = k.kept; base_is = k.base_is; beside = x ∷ k.beside; ahead = k.ahead ∙ append_assoc hs (x ∷ []) k.beside; fits = k.fits }

module _ {words : ℕ} (g : EnumerationInput words) (h : Ahead words) (l r : NodeId) (left right : Look) (f : Fork g h l r left right) (hs : List (Option (Ahead words))) (q base : ℕ) (marks more : List (Mark words)) (new : List (Option (Ahead words))) where
  abbrev left-text : List ℕ
  left-text = text_at g l.index

  -- the right child is put ahead
  over-left : (c : List (Ahead words)) (between : Between words) → Passed g.dfa.now q (text_ahead g (h ∷ c)) [] q (text_ahead g (child h l left between (length hs + 1) ∷ sibling h r left right ∷ c))
  over-left c between = record { parts = fork-text g h l r left right f c; step = refl }

  over-right : (c : List (Ahead words)) (to : ℕ) → reached g.dfa.now q (plain left-text) ≡ Some to → Passed g.dfa.now q (text_ahead g (h ∷ c)) left-text to (text_ahead g (sibling h r left right ∷ c))
  over-right c to run = record { parts = fork-text g h l r left right f c; step = run }

  right-at : h.at + left.len ≡ h.at + length left-text
  right-at = ap (λ n. h.at + n) f.left_look.len_is

  -- the first mark is in the left child
  pub descends-left : (between : Between words) (before mid after : ℕ) (out out' : Tuple) (to : WalkPosition) → mid ≡ before + 2
      → IsMarkedLeft g.dfa.now q left-text (text_at g r.index) h.goals h.quiet left.table.now between
      → Descends g (child h l left between (length hs + 1)) q base marks more (hs ++ Some (sibling h r left right) ∷ []) new mid after out out' to → Descends g h q base marks more hs new before after out out' to
  descends-left between before mid after out out' to em marked d = record {
    keeps = keeps-left g base marks more hs new (Some (sibling h r left right)) d.keeps;
    meets = λ c s can.
        let k = d.meets (sibling h r left right ∷ c) (before-left g h l r left right f hs q c s between marked.are marked.are_quiet) (rw (fork-text g h l r left right f c) at can) in
        let here : h.at ≡ h.at + length {A = ℕ} [] = omega arith in
        meets-on g new h.at h.at q q [] (h ∷ c) (child h l left between (length hs + 1) ∷ sibling h r left right ∷ c) d.keeps.mark to (over-left c between) here (λ w e first. rw (fork-text g h l r left right f c) first) k;
    written = d.written;
    cost = omega (arith, d.cost, em, fork-height g h l r left right f);
  }

  -- the left child is passed without marks
  pub descends-right : (to-state before mid after : ℕ) (out out' : Tuple) (to : WalkPosition) → mid ≡ before + 2 → q < states_of g.dfa.now → to-state < states_of g.dfa.now
      → IsPlainLeft g.dfa.now q left-text (text_at g r.index) h.goals left.table.now right.table.now to-state
      → Descends g (sibling h r left right) to-state base marks more hs new mid after out out' to → Descends g h q base marks more hs new before after out out' to
  descends-right p before mid after out out' to em low within plain-left d = record {
    keeps = d.keeps;
    meets = λ c s can.
        let il = tells g.dfa.now left-text left.table.now f.left_is in
        let run : reached g.dfa.now q (plain left-text) ≡ Some p = sym (il.unmarked q low) ∙ plain-left.step in
        let u = text_at g r.index ++ text_ahead g c in
        let between = between-compose g.dfa.now q left-text (text_at g r.index) (text_ahead g c) g.finals h.goals plain-left.between plain-left.are (fork-goals g h l r left right f hs q c s) in
        let alone = IsFirst-plain g.dfa.now left-text left.table.now q plain-left.between p il low plain-left.none plain-left.step plain-left.goal in
        let k = d.meets c (before-right g h l r left right f hs q c s p within run) (between.onward p plain-left.goal) in
        meets-on g new h.at (h.at + left.len) q p left-text (h ∷ c) (sibling h r left right ∷ c) d.keeps.mark to (over-right c p run) right-at
        (λ w e first. rw (fork-text g h l r left right f c) (IsFirst-fork g.dfa.now left-text u q p e g.finals plain-left.between (plain left-text) w between.reach alone first)) k;
    written = d.written;
    cost = omega (arith, d.cost, em, fork-height g h l r left right f);
  }

  -- the way along a tuple's marks continues into the left child, or into the right one
  module _ (t : Tuple) (position : ℕ) where
    pub laid-left : (between : Between words) → AreBetween g.dfa.now q left-text (text_at g r.index) h.goals between.goals
        → LeadQuiet g.dfa.now q left-text (text_at g r.index) h.goals h.quiet between.quiet → base ≤ length hs → position ≤ h.at + length left-text
        → (z : Bool) → Laid g t (child h l left between (length hs + 1)) q position base marks more (hs ++ Some (sibling h r left right) ∷ []) new z
        → Laid g t h q position base marks more hs new z
    laid-left between are lead low before true k = record {
      keeps = keeps-left g base marks more hs new (Some (sibling h r left right)) k.keeps;
      position_is = k.position_is;
      mark_is = k.mark_is;
      way = λ c s.
          let here : h.at ≡ h.at + length {A = ℕ} [] = omega arith in
          way-on g new h.at h.at q q [] (h ∷ c) (child h l left between (length hs + 1) ∷ sibling h r left right ∷ c) k.keeps.mark (over-left c between) here
          (k.way (sibling h r left right ∷ c) (before-left g h l r left right f hs q c s between are lead));
    }
    laid-left between are lead low before false k = record {
      dies = ap (λ y. reached g.dfa.now q (plain (take (position - h.at) y))) (pair-text g.view.store.now h.id.index l r f.pair)
          ∙ ap (λ y. reached g.dfa.now q (plain y)) (take-append-le (position - h.at) left-text (text_at g r.index) (omega (arith, before))) ∙ k.dies;
      kept = k.kept;
      ahead = k.ahead ∙ take-append-le base hs (Some (sibling h r left right) ∷ []) low;
    }

    -- the letters of the right child up to the position
    right-letters : h.at + left.len ≤ position → take (position - h.at) (text_at g h.id.index) ≡ left-text ++ take (position - (h.at + left.len)) (text_at g r.index)
    right-letters le =
        let n : position - h.at ≡ length left-text + (position - (h.at + left.len)) = omega (arith, le, f.left_look.len_is) in
        ap (take (position - h.at)) (pair-text g.view.store.now h.id.index l r f.pair) ∙ ap (λ k. take k (left-text ++ text_at g r.index)) n ∙ take-append-add left-text (text_at g r.index) (position - (h.at + left.len))

    pub laid-right : (p : ℕ) → p < states_of g.dfa.now → reached g.dfa.now q (plain left-text) ≡ Some p → h.at + left.len ≤ position
        → (z : Bool) → Laid g t (sibling h r left right) p position base marks more hs new z → Laid g t h q position base marks more hs new z
    laid-right p low run from true k = record {
      keeps = k.keeps;
      position_is = k.position_is;
      mark_is = k.mark_is;
      way = λ c s.
          way-on g new h.at (h.at + left.len) q p left-text (h ∷ c) (sibling h r left right ∷ c) k.keeps.mark (over-right c p run) right-at
          (k.way c (before-right g h l r left right f hs q c s p low run));
    }
    laid-right p low run from false k = record {
      dies = ap (λ y. reached g.dfa.now q (plain y)) (right-letters from) ∙ plain-on (step_of g.dfa.now) q p left-text (take (position - (h.at + left.len)) (text_at g r.index)) run ∙ k.dies;
      kept = k.kept;
      ahead = k.ahead;
    }

    pub fails-here : h.at + left.len ≤ position → reached g.dfa.now q (plain left-text) ≡ None → Fails g h q position base marks marks hs hs
    fails-here from run = record {
      dies = ap (λ y. reached g.dfa.now q (plain y)) (right-letters from) ∙ plain-dead (step_of g.dfa.now) q left-text (take (position - (h.at + left.len)) (text_at g r.index)) run;
      kept = refl;
      ahead = refl;
    }

-- the letter at the position
pub lays-mark : {words : ℕ} (g : EnumerationInput words) (t : Tuple) (h : Ahead words) (b q position base : ℕ) (marks : List (Mark words)) (hs : List (Option (Ahead words))) → IsNodeAt g.view.store.now h.id.index (Byte b) → IsOver g h position → Fits g base hs
    → Lays g t h q position base marks (marks ++ mark_over h b q (mark_of t h.at) base ∷ []) hs hs
lays-mark g t h b q position base marks hs byte over fits =
    let here : h.at ≡ position = omega (arith, over.from, over.before, ap length (byte-text g.view.store.now h.id.index b byte)) in
    record {
      keeps = record { mark = mark_over h b q (mark_of t h.at) base; kept = refl; base_is = refl; beside = []; ahead = sym (append-nil hs); fits = fits };
      position_is = here;
      mark_is = ap (mark_of t) here;
      way = λ c s. way-byte g hs h q c b (mark_of t h.at) base byte s;
    }
