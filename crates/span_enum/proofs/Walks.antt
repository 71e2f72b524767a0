-- The walk to the first marked text, and that along the marks of a given tuple.
use Rattle.span_enum.proofs.Base.{Ahead, AreAhead, AreKept, AtMost, Begins, Behind, CanFinish, CanFollow, CanDescend, Completes, Descends, Dies, EndsBehind, EndsIn, Fails, Finds, Fits, Followed, Follows, GoesFirst, EnumerationInput, HasRoom, IsAhead}
use Rattle.span_enum.proofs.Base.{IsDeterministic, IsFirst, IsEnumerationInput, IsOver, IsUnmarked, Lays, Leads, List, Mark, Marked, Meets, None, NoneAfter, Option, Passed, PassesPlain, PassesTo, WalkPosition, Some, IsWalkAt, IsWalkBefore, Tuple, Turns, Way}
use Rattle.span_enum.proofs.Base.{[], ap, append-nil, append_assoc, arith, bytes-append, bytes-none, bytes-plain, bytes_of, cases_lt, count-more, count-plain, cut, drop, false, height-most, height-within, height_at, height_limit}
use Rattle.span_enum.proofs.Base.{height_limit-right, inl, inr, length, length-append, length-plain, length-take, length-take-le, length-text, mark_count, mark_count-append, mark_of, max, mul-suc, no-state, path-dead, path-on}
use Rattle.span_enum.proofs.Base.{path-one, plain, reached, refl, same-state, slice_get, slice_get_within, step_of, subst, suc, sym, take, take-append-drop, take-append-le, take-length, take-take, text_ahead, text_at, tree, true}
use Rattle.span_enum.proofs.Base.{whole_text, word_over, write_mark, write_word, ℕ, ◌*◌, ◌++◌, ◌+◌, ◌-◌, ◌<◌, ◌∙◌, ◌∷◌, ◌≡◌, ◌≤◌}
use Rattle.span_enum.proofs.Chains.{ahead-most, ahead-move, fits-none, fits-take, slice-take, stands-before}
use Rattle.span_enum.proofs.Kept.{behind-mark, is-kept, kept-count, kept-few, kept-more, kept-plain, kept-short, leads-on, leads-pass, leads-size, over-on, word-more}
use Rattle.span_enum.proofs.Roots.{input-text}
use Rattle.span_enum.proofs.Runs.{goal-from_nothing}
use Rattle.span_enum.proofs.Tuples.{accepted-few}
use Rattle.span_enum.proofs.Ways.{Next, back-none, meets-on, next-node, some-mark}
use Rattle.span_enum.proofs.Words.{none-passed, none-plain, over-append, over-count, over-plain, write-bare, write_word-append}

-- ---- heights
pub height-short : {words : ℕ} (g : EnumerationInput words) (h : Ahead words) (len : ℕ) → IsAhead g h → length (text_at g h.id.index) ≤ len → height_at g h.id.index ≤ height_limit len
height-short g h len is le = height-within (tree g.view.store.now h.id.index) len (height_limit len) is.look.balanced (rw (length-text (tree g.view.store.now h.id.index)) at le) (height_limit-right len)

pub height-lowest : {words : ℕ} (g : EnumerationInput words) (h : Ahead words) → IsAhead g h → height_at g h.id.index ≤ 68
height-lowest g h is = height-most (tree g.view.store.now h.id.index) is.look.balanced (omega (arith, length-text (tree g.view.store.now h.id.index), is.look.len_is, is.look.short))

-- ---- the node at which the walk turns
-- the walk comes to the node, and the list is cut before it
pub record Arrives {words : ℕ} (g : EnumerationInput words) (hs : List (Option (Ahead words))) (cut at : ℕ) (from place : WalkPosition) (c : List (Ahead words)) (h : Ahead words) : Type 0 where
  pub passes : PassesPlain g hs at from place c
  pub turns : Turns place.state passes.passes.back
  pub node : Next g hs at from place c passes.passes h
  pub before : IsWalkBefore g (take cut hs) h place.state node.rest

pub arrives : {words : ℕ} (g : EnumerationInput words) → IsEnumerationInput g → (hs : List (Option (Ahead words))) (base cut at : ℕ) (from place : WalkPosition) (c : List (Ahead words)) (h : Ahead words) → (p : PassesPlain g hs at from place c) × Turns place.state p.passes.back → 0 < place.next
    → ((before : ℕ) → place.next ≡ suc before → slice_get hs before ≡ Some (Some h)) → cut ≡ max base (place.next - 1) → Arrives g hs cut at from place c h
arrives g is hs base cut at from place c h pass some found e =
    let n = next-node g is hs at from place c pass.0.passes h some found in
    let k = stands-before g hs (at + length pass.0.passes.prefix) place h n.rest n.stands in
    let low : h.next ≤ cut = omega (arith, e, n.stands.ahead.0.counted, n.stands.ahead.0.earlier) in
    record { passes = pass.0; turns = pass.1; node = n; before = record { ahead = ahead-move hs (take cut hs) cut h.next n.rest (λ i x lt there. slice-take cut i hs lt ∙ there) low k.ahead; join = k.join; goals = k.goals; state = k.state } }

module _ {words : ℕ} (g : EnumerationInput words) (hs : List (Option (Ahead words))) (cut at : ℕ) (from place : WalkPosition) (c : List (Ahead words)) (h : Ahead words) (a : Arrives g hs cut at from place c h) where
  abbrev x : List ℕ
  x = a.passes.passes.prefix

  to-node : Passed g.dfa.now from.state (text_ahead g c) x place.state (text_ahead g (h ∷ a.node.rest))
  to-node = record { parts = a.passes.passes.passed.parts ∙ ap (λ b. x ++ text_ahead g b) a.node.back; step = a.passes.passes.passed.step }

  pub arrives-some : (most : ℕ) → AtMost g from.state c most → 1 ≤ most
  arrives-some most few = some-mark g hs at from place c a.passes h most a.node a.turns few

  pub arrives-high : (len : ℕ) → length (text_ahead g c) ≤ len → height_at g h.id.index ≤ height_limit len
  arrives-high len le =
      height-short g h len a.node.stands.goals.0
      (omega (arith, le, ap length to-node.parts, length-append x (text_ahead g (h ∷ a.node.rest)), length-append (text_at g h.id.index) (text_ahead g a.node.rest)))

  pub arrives-meets : (base before after : ℕ) (marks more : List (Mark words)) (new : List (Option (Ahead words))) (out out' : Tuple) (to : WalkPosition)
      → (d : Descends g h place.state base marks more (take cut hs) new before after out out' to) → Meets g new at from.state c d.keeps.mark to
  arrives-meets base before after marks more new out out' to d =
      meets-on g new at h.at from.state place.state x c (h ∷ a.node.rest) d.keeps.mark to to-node a.node.stands.join.0
      (subst (λ b. GoesFirst g from.state c (plain x) place.state b) a.node.back a.passes.first) (d.meets a.node.rest a.before (rw a.node.back at a.passes.can))

-- ---- room for the way down
pub cut-deep : {words : ℕ} (g : EnumerationInput words) (hs : List (Option (Ahead words))) (at base : ℕ) (h : Ahead words) (b : List (Ahead words)) → AreAhead hs at (h ∷ b) → IsAhead g h → base ≤ length hs → Fits g base hs
    → height_at g h.id.index + (length (take (max base (at - 1)) hs) - base) ≤ 68
cut-deep g hs at base h b ahead is low fits =
    let within = slice_get_within hs ahead.0.before (Some h) ahead.0.there in
    let len = length-take (max base (at - 1)) hs in
    elim (cases_lt base at) [
      | inl lt ↦
          let le : height_at g h.id.index + (ahead.0.before - base) ≤ 68 = fits ahead.0.before (Some h) (omega (arith, ahead.0.counted)) ahead.0.there in
          omega (arith, len, le, within, ahead.0.counted)
      | inr ge ↦ omega (arith, len, height-lowest g h is)
    ]

-- ---- the rest of the first marked text
module _ {words : ℕ} (g : EnumerationInput words) (from : WalkPosition) (base : ℕ) (word : Marked) (marks : List (Mark words)) (hs : List (Option (Ahead words))) (b : Begins g from base word marks hs) where
  abbrev c : List (Ahead words)
  c = b.chain

  abbrev back : List ℕ
  back = text_ahead g c

  -- an accepted text has the marks of a tuple
  pub begins-few : IsEnumerationInput g → length (whole_text g) ≤ 281474976710656 → AtMost g from.state c (2 * g.dfa.now.variables - length marks)
  begins-few is short w r bytes run goal =
      let on = leads-on g word from.state back b.behind.leads w r [] (sym bytes ∙ sym (append-nil (bytes_of w))) run in
      let few = accepted-few g.dfa.now is.automaton (whole_text g) (input-text g is short) g.finals is.all (word ++ w) r (sym (on.parts ∙ append-nil (bytes_of (word ++ w)))) on.ends goal in
      omega (arith, few, mark_count-append word w, kept-count g b.behind.count word marks (take base hs) b.behind.kept)

  pub begins-short : base ≤ 1 + 69 * length marks
  begins-short = omega (arith, kept-short g b.behind.count word marks (take base hs) b.behind.kept, length-take-le base hs b.behind.low)

  -- no mark is left
  finds-plain : (r : Option ℕ) (looks last : ℕ) (out : Tuple) → EndsIn g.dfa.now r last → IsFirst g.dfa.now from.state back g.finals (plain back) last → Finds g from word back marks (take base hs) looks looks r out out
  finds-plain r looks last out ends first = record {
    rest = plain back;
    state = last;
    ends = ends;
    first = first;
    cost = omega arith;
    written = λ t e. e ∙ sym (write-bare word back t);
    count = b.behind.count;
    kept = kept-plain g b.behind.count word marks (take base hs) back b.behind.kept;
  }

  -- a quiet state is reached
  pub finds-quiet : (looks : ℕ) (out : Tuple) → from.quiet ≡ true → Finds g from word back marks (take base hs) looks looks None out out
  finds-quiet looks out known =
      let k = b.behind.stands.quiet known in
      finds-plain None looks k.last out k.unmarked (record { bytes = bytes-plain back; ends = k.ends; goal = k.goal; least = λ v r bytes ends goal. inl (k.sole v r bytes ends goal) })

  -- all nodes are passed
  pub finds-end : (place : WalkPosition) (looks : ℕ) (out : Tuple) → place.next ≡ 0 → PassesPlain g hs b.at from place c → Finds g from word back marks (take base hs) looks looks (Some place.state) out out
  finds-end place looks out last p =
      let x = p.passes.prefix in
      let none : p.passes.back ≡ [] = back-none hs place.next p.passes.back p.passes.stands.ahead (omega (arith, last)) in
      let goal = goal-from_nothing g.dfa.now place.state g.finals (rw none at p.can) in
      let texts : back ≡ x = p.passes.passed.parts ∙ ap (λ d. x ++ text_ahead g d) none ∙ append-nil x in
      let first = p.first [] place.state (rw none (record { bytes = refl; ends = refl; goal = goal; least = λ v r bytes ends final. inl (bytes-none v bytes) })) in
      finds-plain (Some place.state) looks place.state out refl (subst (λ w. IsFirst g.dfa.now from.state back g.finals w place.state) (append-nil (plain x) ∙ ap plain (sym texts)) first)

  -- a mark is found at a node, and then the rest after it
  module _ (place : WalkPosition) (h : Ahead words) (cut : ℕ) (n : Arrives g hs cut b.at from place c h) (fit : base ≤ cut) where
    abbrev low : base ≤ length (take cut hs)
    low = omega (arith, length-take cut hs, fit, b.behind.low)

    pub one-more : IsEnumerationInput g → length (whole_text g) ≤ 281474976710656 → 1 ≤ 2 * g.dfa.now.variables - length marks
    one-more is short = arrives-some g hs cut b.at from place c h n (2 * g.dfa.now.variables - length marks) (begins-few is short)

    pub turn-down : (marks_room ahead_room : ℕ) → IsEnumerationInput g → length (whole_text g) ≤ 281474976710656 → HasRoom g.dfa.now.variables marks_room ahead_room → cut ≡ max base (place.next - 1)
        → CanDescend g h place.state base marks marks_room (take cut hs) ahead_room
    turn-down marks_room ahead_room is short room e =
        let one = one-more is short in
        record {
          is_ahead = n.node.stands.goals.0;
          state = n.node.stands.state;
          next = ahead-most (take cut hs) h.next n.node.rest n.before.ahead;
          marks_fit = omega (arith, one, room.marks_fit);
          ahead_fit = omega (arith, one, room.ahead_fits, begins-short);
          low = low;
          fits = fits-take g base cut hs b.fits;
          deep = rw e (cut-deep g hs place.next base h n.node.rest n.node.stands.ahead n.node.stands.goals.0 b.behind.low b.fits);
        }

    module _ (auto : IsDeterministic g.dfa.now) (to : WalkPosition) (ms1 : List (Mark words)) (hs1 : List (Option (Ahead words))) (before mid : ℕ) (out out1 : Tuple) (d : Descends g h place.state base marks ms1 (take cut hs) hs1 before mid out out1 to) where
      abbrev k : Meets g hs1 b.at from.state c d.keeps.mark to
      k = arrives-meets g hs cut b.at from place c h n base before mid marks ms1 hs1 out out1 to d

      abbrev same : take base (take cut hs) ≡ take base hs
      same = take-take base cut hs fit

      abbrev m : Mark words
      m = d.keeps.mark

      abbrev letters : Marked
      letters = plain k.way.prefix ++ (m.mark, m.byte) ∷ []

      abbrev pub word-on : Marked
      word-on = word-more g b.at from base word marks ms1 hs (take cut hs) hs1 c b.behind d.keeps same low k.way k.on.some

      abbrev pub begins-on : CanFinish g to (length hs1) ms1 hs1
      begins-on =
          let on = behind-mark g b.at from base word marks ms1 hs (take cut hs) hs1 c b.behind d.keeps same low k.way k.on.some to auto k.on.step k.on.next k.on.quiet in
          (word-on, record { at = m.at + 1; chain = k.way.back; behind = on; can = k.on.can; fits = fits-none g hs1 })

      pub finds-more : (hs2 : List (Option (Ahead words))) (ms2 : List (Mark words)) (after : ℕ) (r : Option ℕ) (out2 : Tuple) → Completes g to (length hs1) ms1 ms2 hs1 hs2 mid after r out1 out2 → Finds g from word back ms2 hs2 before after r out out2
      finds-more hs2 ms2 after r out2 on =
          let f = on word-on begins-on.1 in
          let high = arrives-high g hs cut b.at from place c h n (length (whole_text g)) (omega (arith, leads-size g word from.state back b.behind.leads)) in
          let x = plain k.way.prefix in
          let one : Marked = (m.mark, m.byte) ∷ [] in
          let join : word-on ++ f.rest ≡ word ++ (letters ++ f.rest) = ap (λ w. w ++ f.rest) (append_assoc word x one) ∙ append_assoc word letters f.rest in
          let count : mark_count (letters ++ f.rest) ≡ 1 + mark_count f.rest =
          omega (arith, mark_count-append letters f.rest, mark_count-append x one, count-plain k.way.prefix, count-more m.mark m.byte [] k.on.some) in
          let place : m.at ≡ 1 + length (word ++ x) = omega (arith, (is-kept g b.at from base word marks ms1 hs (take cut hs) hs1 c b.behind d.keeps same low k.way k.on.some).at_is) in
          record {
            rest = letters ++ f.rest;
            state = f.state;
            ends = f.ends;
            first = k.first f.rest f.state f.first;
            cost = rw count (cost (height_limit (length (whole_text g))) (height_at g h.id.index) (mark_count f.rest) high d.cost f.cost);
            written = λ t e. f.written t (d.written ∙ ap (λ n. write_mark m.mark n out) place ∙ ap (write_mark m.mark (1 + length (word ++ x))) (e ∙ sym (write-bare word k.way.prefix t))
                ∙ sym (write_word-append 1 (word ++ x) one t)) ∙ ap (λ w. write_word 1 w t) join;
            count = f.count;
            kept = subst (λ w. AreKept g f.count w ms2 hs2) join f.kept;
          }
        where
          cost : (high h n : ℕ) → h ≤ high → mid ≤ before + 2 * h → after ≤ mid + 2 * (high * n) → after ≤ before + 2 * (high * (1 + n))
          cost high h n le one two = omega arith

-- ---- along the marks of a tuple
-- the walk is before the node over the position
pub record StandsOver {words : ℕ} (g : EnumerationInput words) (t : Tuple) (hs : List (Option (Ahead words))) (position : ℕ) (to : WalkPosition) (ms : List (Mark words)) (h : Ahead words) : Type 0 where
  pub rest : List (Ahead words)
  pub follows : Follows g t hs h.at to ms (h ∷ rest)
  pub over : IsOver g h position
  pub quiet : IsUnmarked t h.at position

module _ {words : ℕ} (g : EnumerationInput words) (t : Tuple) (hs : List (Option (Ahead words))) (at : ℕ) (place : WalkPosition) (ms : List (Mark words)) (c : List (Ahead words)) (f : Follows g t hs at place ms c) where
  abbrev ahead : List ℕ
  ahead = text_ahead g c

  pub follows-size : at + length ahead ≡ 1 + length (whole_text g)
  follows-size = omega (arith, f.behind.at_is, leads-size g f.word place.state ahead f.behind.leads)

  pub follows-short : length hs ≤ 1 + 69 * length ms
  follows-short = omega (arith, kept-short g f.behind.count f.word ms (take (length hs) hs) f.behind.kept, ap length (take-length hs))

  -- a mark after the place is one more
  pub follows-few : (k position : ℕ) → length t ≡ k → at ≤ position → position < at + length ahead → 0 < mark_of t position → length ms < 2 * k
  follows-few k position size from to some =
      omega (arith, kept-few g t k f.behind.count f.word (word_over t at ahead) ms (take (length hs) hs) size f.word_is f.behind.kept, over-count t at ahead position from to some)

  -- nodes in front of a position are passed without marks
  pub follows-pass : (position : ℕ) (to : WalkPosition) → IsUnmarked t at position → (p : PassesTo g hs at position place to c) → Follows g t hs (at + length p.passes.prefix) to ms p.passes.back
  follows-pass position to quiet p =
      let k = p.passes in
      let x = k.prefix in
      let rest = word_over t (at + length x) (text_ahead g k.back) in
      let bare = over-plain t at x (λ q above below. quiet q above (omega (arith, below, p.before))) in
      let letters : word_over t at ahead ≡ plain x ++ rest = ap (word_over t at) k.passed.parts ∙ over-append t at x (text_ahead g k.back) ∙ ap (λ w. w ++ rest) bare in
      record {
        word = f.word ++ plain x;
        behind = record {
          at_is = omega (arith, f.behind.at_is, length-append f.word (plain x), length-plain x);
          stands = k.stands;
          leads = leads-pass g f.word place.state ahead f.behind.leads x to.state (text_ahead g k.back) k.passed;
          low = f.behind.low;
          count = f.behind.count;
          kept = kept-plain g f.behind.count f.word ms (take (length hs) hs) x f.behind.kept;
        };
        word_is = f.word_is ∙ ap (λ w. f.word ++ w) letters ∙ sym (append_assoc f.word (plain x) rest);
      }

  -- no more marks are kept
  pub followed-none : (r : Option ℕ) (before after : ℕ) → NoneAfter g.dfa.now place.state ahead g.finals (word_over t at ahead) → reached g.dfa.now place.state (word_over t at ahead) ≡ r
      → after ≤ before + 2 * height_limit (length (whole_text g)) → Followed g t ms ms hs before after r
  followed-none r before after none run cost = record {
    trail = record {
      read = f.word;
      left = word_over t at ahead;
      back = ahead;
      word_is = f.word_is;
      parts = f.behind.leads.parts;
      count = f.behind.count;
      kept = subst (λ x. AreKept g f.behind.count f.word ms x) (take-length hs) f.behind.kept;
      none = λ q on. subst (λ n. NoneAfter g.dfa.now n ahead g.finals (word_over t at ahead)) (same-state place.state q (reached g.dfa.now 0 f.word) f.behind.leads.ends on) none;
    };
    more = 0;
    count = omega arith;
    end_is = sym (ap (reached g.dfa.now 0) f.word_is ∙ path-on (step_of g.dfa.now) 0 place.state f.word (word_over t at ahead) f.behind.leads.ends ∙ run);
    cost = omega (arith, cost);
  }

  -- no run comes to the position
  pub followed-dead : (position before after : ℕ) → at ≤ position → position ≤ at + length ahead → IsUnmarked t at position → Dies g place.state at ahead position
      → after ≤ before + 2 * height_limit (length (whole_text g)) → Followed g t ms ms hs before after None
  followed-dead position before after from to quiet dies cost =
      let a = g.dfa.now in
      let near = take (position - at) ahead in
      let far = drop (position - at) ahead in
      let size : length near ≡ position - at = length-take-le (position - at) ahead (omega (arith, from, to)) in
      let join : near ++ far ≡ ahead = take-append-drop (position - at) ahead in
      let rest = word_over t (at + length near) far in
      let words : word_over t at ahead ≡ plain near ++ rest =
      ap (word_over t at) (sym join) ∙ over-append t at near far ∙ ap (λ w. w ++ rest) (over-plain t at near (λ p above below. quiet p above (omega (arith, below, size, from)))) in
      followed-none None before after
      (rw words (subst (λ s. NoneAfter a place.state s g.finals (plain near ++ rest)) join (none-passed a place.state near far g.finals rest (λ x e. absurd (no-state x (reached a place.state (plain near)) dies e)))))
      (ap (reached a place.state) words ∙ path-dead (step_of a) place.state (plain near) rest dies) cost

-- what holds of each place where the walk may stand holds of this one
module _ {words : ℕ} (g : EnumerationInput words) (t : Tuple) (hs : List (Option (Ahead words))) (at : ℕ) (place : WalkPosition) (ms : List (Mark words)) (c : List (Ahead words)) (f : Follows g t hs at place ms c) (position : ℕ) (late : at ≤ position) (le : position ≤ length (whole_text g) + 1) (quiet : IsUnmarked t at position) where
  pub most : position ≤ at + length (text_ahead g c)
  most = omega (arith, le, follows-size g t hs at place ms c f)

  abbrev Comes : WalkPosition → Type 0
  Comes to = (x : ℕ) (d : List (Ahead words)) → IsWalkAt g hs x place d → x ≤ position → position ≤ x + length (text_ahead g d) → (p : PassesTo g hs x position place to d) × EndsBehind g position p.passes.back

  pub comes-there : (to : WalkPosition) → Comes to → (p : PassesTo g hs at position place to c) × EndsBehind g position p.passes.back
  comes-there to all = all at c f.behind.stands late most

  -- all nodes are passed
  pub followed-last : (to : WalkPosition) (looks : ℕ) → Comes to → to.next ≡ 0 → Followed g t ms ms hs looks looks (Some to.state)
  followed-last to looks all none =
      let p = (comes-there to all).0 in
      let d = p.passes.back in
      let empty : d ≡ [] = back-none hs to.next d p.passes.stands.ahead (omega (arith, none)) in
      let on : Follows g t hs (at + length p.passes.prefix) to ms [] = subst (λ b. Follows g t hs (at + length p.passes.prefix) to ms b) empty (follows-pass g t hs at place ms c f position to quiet p) in
      followed-none g t hs (at + length p.passes.prefix) to ms [] on (Some to.state) looks looks (none-plain g.dfa.now to.state [] g.finals) refl (omega arith)

  -- the node over the position comes next
  pub over-node : IsEnumerationInput g → (to : WalkPosition) (h : Ahead words) → Comes to → 0 < to.next → ((before : ℕ) → to.next ≡ suc before → slice_get hs before ≡ Some (Some h)) → StandsOver g t hs position to ms h
  over-node input to h all pos found =
      let there = comes-there to all in
      let p = there.0.passes in
      let k = next-node g input hs at place to c p h pos found in
      let here : at + length p.prefix ≡ h.at = sym k.stands.join.0 in
      record {
        rest = k.rest;
        follows = subst (λ n. Follows g t hs n to ms (h ∷ k.rest)) here (subst (λ b. Follows g t hs (at + length p.prefix) to ms b) k.back (follows-pass g t hs at place ms c f position to quiet there.0));
        over = record { from = omega (arith, here, there.0.before); before = subst (EndsBehind g position) k.back there.1 };
        quiet = λ q above below. quiet q (omega (arith, above, here)) below;
      }

-- ---- at the node
module _ {words : ℕ} (g : EnumerationInput words) (t : Tuple) (old : List (Option (Ahead words))) (position : ℕ) (to : WalkPosition) (ms : List (Mark words)) (h : Ahead words) (o : StandsOver g t old position to ms h) where
  abbrev all : List ℕ
  all = text_ahead g (h ∷ o.rest)

  over-size : h.at + length (text_at g h.id.index) ≤ h.at + length all
  over-size = omega (arith, length-append (text_at g h.id.index) (text_ahead g o.rest))

  pub over-early : position < length (whole_text g) + 1
  over-early = omega (arith, o.over.before, over-size, follows-size g t old h.at to ms (h ∷ o.rest) o.follows)

  pub over-few : (k : ℕ) → length t ≡ k → 0 < mark_of t position → length ms < 2 * k
  over-few k tuple some = follows-few g t old h.at to ms (h ∷ o.rest) o.follows k position tuple o.over.from (omega (arith, o.over.before, over-size)) some

  abbrev over-ahead : IsAhead g h
  over-ahead = o.follows.behind.stands.goals.0

  over-high : height_at g h.id.index ≤ height_limit (length (whole_text g))
  over-high = height-short g h (length (whole_text g)) over-ahead (omega (arith, over-size, follows-size g t old h.at to ms (h ∷ o.rest) o.follows, over-ahead.positive))

  -- what the way down needs
  pub over-down : (k marks_room ahead_room : ℕ) → length t ≡ k → 0 < mark_of t position → HasRoom k marks_room ahead_room → CanDescend g h to.state (length old) ms marks_room old ahead_room
  over-down k marks_room ahead_room tuple some room =
      let few = over-few k tuple some in
      record {
        is_ahead = over-ahead;
        state = o.follows.behind.stands.state;
        next = ahead-most old h.next o.rest o.follows.behind.stands.ahead.1;
        marks_fit = omega (arith, few, room.marks_fit);
        ahead_fit = omega (arith, few, room.ahead_fits, follows-short g t old h.at to ms (h ∷ o.rest) o.follows);
        low = omega arith;
        fits = fits-none g old;
        deep = omega (arith, height-lowest g h over-ahead);
      }

  -- no run comes to the position
  pub followed-fails : (before after : ℕ) (more : List (Mark words)) (new : List (Option (Ahead words))) → Fails g h to.state position (length old) ms more old new
      → after ≤ before + 2 * height_at g h.id.index → Followed g t ms more (take (length old) new) before after None
  followed-fails before after more new k cost =
      let same : take (length old) new ≡ old = k.ahead ∙ take-length old in
      let dies : Dies g to.state h.at all position = ap (λ x. reached g.dfa.now to.state (plain x)) (take-append-le (position - h.at) (text_at g h.id.index) (text_ahead g o.rest) (omega (arith, o.over.before))) ∙ k.dies in
      rw (k.kept, same) (followed-dead g t old h.at to ms (h ∷ o.rest) o.follows position before after o.over.from (omega (arith, o.over.before, over-size)) o.quiet dies (omega (arith, cost, over-high)))

  module _ (more : List (Mark words)) (mid : List (Option (Ahead words))) (k : Lays g t h to.state position (length old) ms more old mid) (some : 0 < mark_of t position) where
    abbrev laid-mark : Mark words
    laid-mark = k.keeps.mark

    pub lays-way : Way g mid h.at to.state (h ∷ o.rest) laid-mark
    lays-way = k.way o.rest (stands-before g old h.at to h o.rest o.follows.behind.stands)

    abbrev word : Marked
    word = o.follows.word

    abbrev bare : List ℕ
    bare = lays-way.prefix

    abbrev rest : List ℕ
    rest = text_ahead g lays-way.back

    abbrev letter : Marked
    letter = (laid-mark.mark, laid-mark.byte) ∷ []

    lays-some : 0 < laid-mark.mark
    lays-some = omega (arith, k.mark_is, some)

    kept : AreKept g (suc o.follows.behind.count) ((word ++ plain bare) ++ letter) more mid
    kept = kept-more g h.at to (length old) word ms more old old mid (h ∷ o.rest) o.follows.behind k.keeps refl (omega arith) lays-way lays-some

    -- the tuple's word up to the mark and after it
    lays-word : word_over t 1 (whole_text g) ≡ ((word ++ plain bare) ++ letter) ++ word_over t (position + 1) rest
    lays-word =
        let there : h.at + length bare ≡ position = omega (arith, lays-way.at_is, k.position_is) in
        let v = word_over t (position + 1) rest in
        let letters : word_over t h.at all ≡ plain bare ++ (letter ++ v) =
        ap (word_over t h.at) lays-way.passed.parts
        ∙ over-on t h.at bare laid-mark.byte rest laid-mark.mark (λ p above below. o.quiet p above (omega (arith, below, there))) (ap (mark_of t) there ∙ sym k.mark_is)
        ∙ ap (λ n. plain bare ++ (letter ++ word_over t (n + 1) rest)) there in
        o.follows.word_is ∙ ap (λ w. word ++ w) letters ∙ sym (append_assoc (word ++ plain bare) letter v ∙ append_assoc word (plain bare) (letter ++ v))

    lays-leads : Leads g (word ++ plain bare) laid-mark.state (laid-mark.byte ∷ rest)
    lays-leads = leads-pass g word to.state all o.follows.behind.leads bare laid-mark.state (laid-mark.byte ∷ rest) lays-way.passed

    -- the walk continues after the mark
    pub lays-goes : IsDeterministic g.dfa.now → (q : ℕ) (last : Mark words) → last ≡ laid-mark → step_of g.dfa.now last.state last.mark last.byte ≡ Some q
        → CanFollow g t mid (position + 1) (record { state = q; next = last.next; quiet = false }) more
    lays-goes auto q last same step =
        let here : step_of g.dfa.now laid-mark.state laid-mark.mark laid-mark.byte ≡ Some q = rw same at step in
        let place : WalkPosition = record { state = q; next = laid-mark.next; quiet = false } in
        let on = behind-mark g h.at to (length old) word ms more old old mid (h ∷ o.rest) o.follows.behind k.keeps refl (omega arith) lays-way lays-some place auto here refl (λ e. cc) in
        let there = subst (λ (n : ℕ). Behind g (n + 1) place (length mid) ((word ++ plain bare) ++ letter) more mid lays-way.back) k.position_is on in
        rw same (lays-way.back, record { word = (word ++ plain bare) ++ letter; behind = there; word_is = lays-word })

    -- the run ends at the letter
    pub followed-stuck : (before after : ℕ) → step_of g.dfa.now laid-mark.state laid-mark.mark laid-mark.byte ≡ None → after ≤ before + 2 * height_at g h.id.index → Followed g t ms more mid before after None
    followed-stuck before after step cost =
        let a = g.dfa.now in
        let dead : reached a 0 ((word ++ plain bare) ++ letter) ≡ None = path-on (step_of a) 0 laid-mark.state (word ++ plain bare) letter lays-leads.ends ∙ path-one (step_of a) laid-mark.state laid-mark.mark laid-mark.byte ∙ step in
        record {
          trail = record {
            read = (word ++ plain bare) ++ letter;
            left = word_over t (position + 1) rest;
            back = rest;
            word_is = lays-word;
            parts = lays-leads.parts ∙ sym (append_assoc (bytes_of (word ++ plain bare)) (laid-mark.byte ∷ []) rest) ∙ ap (λ s. s ++ rest) (sym (bytes-append (word ++ plain bare) letter));
            count = suc o.follows.behind.count;
            kept = kept;
            none = λ q run. absurd (no-state q (reached a 0 ((word ++ plain bare) ++ letter)) dead run);
          };
          more = 1;
          count = ap length k.keeps.kept ∙ length-append ms (laid-mark ∷ []);
          end_is = sym (ap (reached a 0) lays-word ∙ path-dead (step_of a) 0 ((word ++ plain bare) ++ letter) (word_over t (position + 1) rest) dead);
          cost = omega (arith, cost, over-high);
        }

    -- the marks after it were kept too
    pub followed-on : (marks : List (Mark words)) (new : List (Option (Ahead words))) (before between after : ℕ) (r : Option ℕ) → between ≤ before + 2 * height_at g h.id.index
        → Followed g t more marks new between after r → Followed g t ms marks new before after r
    followed-on marks new before between after r cost f =
        let high = height_limit (length (whole_text g)) in
        let sum : high * suc f.more ≡ high * f.more + high = mul-suc high f.more in
        record {
          trail = f.trail;
          more = suc f.more;
          count = omega (arith, f.count, ap length k.keeps.kept, length-append ms (laid-mark ∷ []));
          end_is = f.end_is;
          cost = omega (arith, cost, over-high, f.cost, sum);
        }
