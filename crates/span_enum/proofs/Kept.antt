-- The marks that are kept of a word, and, after them, what comes after a tuple.
use Rattle.span_enum.proofs.Base.{Ahead, AreKept, Behind, DeterministicAutomaton, Fits, EnumerationInput, IsDeterministic, IsGreatestMark, IsKept, IsLast, IsNext, IsNoMark, IsQuietPosition, IsTrailOf, IsLowered, IsUnmarked, Keeps, Leads, List, Lowered}
use Rattle.span_enum.proofs.Base.{Mark, Marked, NoneAfter, Option, Passed, WalkPosition, Some, Tuple, Way, [], ap, append_assoc, append_cancel_left, arith, blanks, bytes-append, bytes-plain, bytes_of, count-more, count-plain, cut, false, length}
use Rattle.span_enum.proofs.Base.{length-append, length-bytes, length-plain, length-take-le, mark, mark_count, mark_count-append, mark_of, path-on, path-one, plain, plain-append, reached, refl, same-state, step_of, subst, suc, sym, take}
use Rattle.span_enum.proofs.Base.{take-append-le, take-length, text_ahead, whole_text, word_over, write_mark, write_word, zero, ℕ, ◌*◌, ◌++◌, ◌+◌, ◌-◌, ◌<◌, ◌∙◌, ◌∷◌, ◌≡◌, ◌≤◌}
use Rattle.span_enum.proofs.Chains.{fits-none, fits-short, stands-mark}
use Rattle.span_enum.proofs.Tuples.{few-marks}
use Rattle.span_enum.proofs.Words.{IsNext-byte, IsNext-fork, IsNext-prefix, append-same, none-byte, none-fork, none-passed, over-append, over-plain, over-split, read-cut, write_word-append}

-- ---- what is read
module _ {words : ℕ} (g : EnumerationInput words) (w : Marked) (q : ℕ) (back : List ℕ) (leads : Leads g w q back) where
  pub leads-on : (v : Marked) (r : ℕ) (u : List ℕ) → back ≡ bytes_of v ++ u → reached g.dfa.now q v ≡ Some r → Leads g (w ++ v) r u
  leads-on v r u parts run = record {
    parts = leads.parts ∙ ap (λ s. bytes_of w ++ s) parts ∙ sym (append_assoc (bytes_of w) (bytes_of v) u) ∙ ap (λ s. s ++ u) (sym (bytes-append w v));
    ends = path-on (step_of g.dfa.now) 0 q w v leads.ends ∙ run;
  }

  -- over letters without marks
  pub leads-pass : (x : List ℕ) (r : ℕ) (u : List ℕ) → Passed g.dfa.now q back x r u → Leads g (w ++ plain x) r u
  leads-pass x r u p = leads-on (plain x) r u (p.parts ∙ ap (λ s. s ++ u) (sym (bytes-plain x))) p.step

  pub leads-size : length w + length back ≡ length (whole_text g)
  leads-size = omega (arith, ap length leads.parts, length-append (bytes_of w) back, length-bytes w)

-- the word of a tuple over letters without marks and then one with this mark
pub over-on : (t : Tuple) (at : ℕ) (x : List ℕ) (b : ℕ) (u : List ℕ) (m : ℕ) → IsUnmarked t at (at + length x) → mark_of t (at + length x) ≡ m
    → word_over t at (x ++ b ∷ u) ≡ plain x ++ (m, b) ∷ word_over t (at + length x + 1) u
over-on t at x b u m quiet mark =
    let next : suc (at + length x) ≡ at + length x + 1 = omega arith in
    over-append t at x (b ∷ u) ∙ ap (λ w. w ++ word_over t (at + length x) (b ∷ u)) (over-plain t at x quiet)
    ∙ ap (λ n. plain x ++ (n, b) ∷ word_over t (suc (at + length x)) u) mark ∙ ap (λ n. plain x ++ (m, b) ∷ word_over t n u) next

-- ---- the marks of a word
-- letters without marks more
pub kept-plain : {words : ℕ} (g : EnumerationInput words) (n : ℕ) (w : Marked) (ms : List (Mark words)) (hs : List (Option (Ahead words))) (x : List ℕ) → AreKept g n w ms hs → AreKept g n (w ++ plain x) ms hs
kept-plain g zero w ms hs x k = (k.0 ++ x, ap (λ v. v ++ plain x) k.1 ∙ sym (plain-append k.0 x), k.2, k.3)
kept-plain g (suc n) w ms hs x k =
    let l = k.0 in
    let m = l.mark in
    let word : w ++ plain x ≡ l.before ++ (m.mark, m.byte) ∷ plain (l.bare ++ x) =
    ap (λ v. v ++ plain x) l.word_is ∙ append_assoc l.before ((m.mark, m.byte) ∷ plain l.bare) (plain x) ∙ ap (λ v. l.before ++ (m.mark, m.byte) ∷ v) (sym (plain-append l.bare x)) in
    (record { others = l.others; mark = m; marks_are = l.marks_are; before = l.before; bare = l.bare ++ x; word_is = word; kept = l.kept }, k.1)

pub kept-count : {words : ℕ} (g : EnumerationInput words) (n : ℕ) (w : Marked) (ms : List (Mark words)) (hs : List (Option (Ahead words))) → AreKept g n w ms hs → mark_count w ≡ length ms
kept-count g zero w ms hs k = ap mark_count k.1 ∙ count-plain k.0 ∙ sym (ap length k.2)
kept-count g (suc n) w ms hs k =
    let l = k.0 in
    let m = l.mark in
    let parts : mark_count w ≡ mark_count l.before + mark_count ((m.mark, m.byte) ∷ plain l.bare) = ap mark_count l.word_is ∙ mark_count-append l.before ((m.mark, m.byte) ∷ plain l.bare) in
    omega (arith, kept-count g n l.before l.others (take m.base hs) k.1, parts, count-more m.mark m.byte (plain l.bare) l.kept.some, count-plain l.bare, ap length l.marks_are, length-append l.others (m ∷ []))

-- few nodes are kept for each mark
pub kept-short : {words : ℕ} (g : EnumerationInput words) (n : ℕ) (w : Marked) (ms : List (Mark words)) (hs : List (Option (Ahead words))) → AreKept g n w ms hs → length hs ≤ 1 + 69 * length ms
kept-short g zero w ms hs k = omega (arith, k.3)
kept-short g (suc n) w ms hs k =
    let l = k.0 in
    let m = l.mark in
    omega (arith, kept-short g n l.before l.others (take m.base hs) k.1, length-take-le m.base hs l.kept.low, fits-short g m.base hs l.kept.fits, ap length l.marks_are, length-append l.others (m ∷ []))

-- a tuple of n variables has no more marks
pub kept-few : {words : ℕ} (g : EnumerationInput words) (t : Tuple) (k n : ℕ) (w v : Marked) (ms : List (Mark words)) (hs : List (Option (Ahead words))) → length t ≡ k → word_over t 1 (whole_text g) ≡ w ++ v → AreKept g n w ms hs
    → length ms + mark_count v ≤ 2 * k
kept-few g t k n w v ms hs size word kept = omega (arith, few-marks k t (whole_text g) size, ap mark_count word, mark_count-append w v, kept-count g n w ms hs kept)

-- ---- one mark more, after letters without marks
module _ {words : ℕ} (g : EnumerationInput words) (at : ℕ) (place : WalkPosition) (base : ℕ) (word : Marked) (ms more : List (Mark words)) (hs old new : List (Option (Ahead words))) (c : List (Ahead words)) (b : Behind g at place base word ms hs c) (k : Keeps g base ms more old new)
    (same : take base old ≡ take base hs) (low : base ≤ length old) (way : Way g new at place.state c k.mark) (some : 0 < k.mark.mark) where
  abbrev m : Mark words
  m = k.mark

  abbrev prefix : Marked
  prefix = word ++ plain way.prefix

  abbrev pub word-more : Marked
  word-more = prefix ++ (m.mark, m.byte) ∷ []

  abbrev pub is-kept : IsKept g prefix new m
  is-kept = record {
    chain = way.back;
    is_mark = way.is_mark;
    leads = leads-pass g word place.state (text_ahead g c) b.leads way.prefix m.state (m.byte ∷ text_ahead g way.back) way.passed;
    at_is = omega (arith, b.at_is, way.at_is, length-append word (plain way.prefix), length-plain way.prefix);
    some = some;
    low = omega (arith, k.base_is, ap length k.ahead, length-append old k.beside, low);
    fits = subst (λ n. Fits g n new) (sym k.base_is) k.fits;
  }

  pub kept-more : AreKept g (suc b.count) word-more more new
  kept-more =
      let there : take base hs ≡ take m.base new = sym (ap (λ n. take n new) k.base_is ∙ ap (take base) k.ahead ∙ take-append-le base old k.beside low ∙ same) in (
        record { others = ms; mark = m; marks_are = k.kept; before = prefix; bare = []; word_is = refl; kept = is-kept },
        subst (λ x. AreKept g b.count prefix ms x) there (kept-plain g b.count word ms (take base hs) way.prefix b.kept),
      )

  -- the walk is after its letter
  pub behind-mark : (to : WalkPosition) → IsDeterministic g.dfa.now → step_of g.dfa.now m.state m.mark m.byte ≡ Some to.state → to.next ≡ m.next → IsQuietPosition g to way.back
      → Behind g (m.at + 1) to (length new) word-more more new way.back
  behind-mark to auto step next quiet = record {
    at_is = omega (arith, is-kept.at_is, length-append prefix ((m.mark, m.byte) ∷ []));
    stands = stands-mark g new m way.back m.mark to auto way.is_mark step next quiet;
    leads = leads-on g prefix m.state (m.byte ∷ text_ahead g way.back) is-kept.leads ((m.mark, m.byte) ∷ []) to.state (text_ahead g way.back) refl (path-one (step_of g.dfa.now) m.state m.mark m.byte ∙ step);
    low = omega arith;
    count = suc b.count;
    kept = subst (λ x. AreKept g (suc b.count) word-more more x) (sym (take-length new)) kept-more;
  }

-- ---- the last of the marks that are kept of a tuple
pub last-same : {words : ℕ} (ms others : List (Mark words)) (m last : Mark words) → ms ≡ others ++ m ∷ [] → IsLast ms last → (last ≡ m) × (take (length ms - 1) ms ≡ others)
last-same ms others m last e is =
    let size : length ms ≡ length others + 1 = ap length e ∙ length-append others (m ∷ []) in
    let same = append-same (take (length ms - 1) ms) (last ∷ []) others (m ∷ []) (omega (arith, length-take-le (length ms - 1) ms (omega arith), size)) (sym is ∙ e) in
    let one : last ∷ [] ≡ m ∷ [] = same.1 in
    (cc, same.0)

-- the last mark, those before it, and, after it, what comes after the tuple
pub record Last {words : ℕ} (g : EnumerationInput words) (t : Tuple) (others : List (Mark words)) (hs : List (Option (Ahead words))) (m : Mark words) : Type 0 where
  pub before : Marked
  pub behind : Marked
  pub word_is : word_over t 1 (whole_text g) ≡ before ++ (m.mark, m.byte) ∷ behind
  pub kept : IsKept g before hs m
  pub count : ℕ
  pub rest : AreKept g count before others (take m.base hs)
  pub none : (q : ℕ) → reached g.dfa.now m.state ((m.mark, m.byte) ∷ []) ≡ Some q → NoneAfter g.dfa.now q (text_ahead g kept.chain) g.finals behind

module _ {words : ℕ} (g : EnumerationInput words) (t : Tuple) (ms : List (Mark words)) (hs : List (Option (Ahead words))) (is : IsTrailOf g t ms hs) where
  abbrev a : DeterministicAutomaton
  a = g.dfa.now

  pub last-kept : (m : Mark words) → IsLast ms m → Last g t (take (length ms - 1) ms) hs m
  last-kept m last = by is.count is.kept
    where
      by : (n : ℕ) → AreKept g n is.read ms hs → Last g t (take (length ms - 1) ms) hs m
      by zero k = absurd (omega (arith, ap length k.2, ap length last, length-append (take (length ms - 1) ms) (m ∷ [])))
      by (suc n) k =
          let l = k.0 in
          let x = l.mark in
          let s = text_ahead g l.kept.chain in
          let one : Marked = (x.mark, x.byte) ∷ [] in
          let same = last-same ms l.others x m l.marks_are last in
          let read : bytes_of is.read ≡ bytes_of l.before ++ x.byte ∷ l.bare =
          ap bytes_of l.word_is ∙ bytes-append l.before ((x.mark, x.byte) ∷ plain l.bare) ∙ ap (λ y. bytes_of l.before ++ x.byte ∷ y) (bytes-plain l.bare) in
          let letters : x.byte ∷ (l.bare ++ is.back) ≡ x.byte ∷ s =
          append_cancel_left (bytes_of l.before) (x.byte ∷ (l.bare ++ is.back)) (x.byte ∷ s) (sym (is.parts ∙ ap (λ y. y ++ is.back) read ∙ append_assoc (bytes_of l.before) (x.byte ∷ l.bare) is.back) ∙ l.kept.leads.parts) in
          let rest : l.bare ++ is.back ≡ s = cc in
          let found : Last g t l.others hs x = record {
            before = l.before;
            behind = plain l.bare ++ is.left;
            word_is = is.word_is ∙ ap (λ w. w ++ is.left) l.word_is ∙ append_assoc l.before ((x.mark, x.byte) ∷ plain l.bare) is.left;
            kept = l.kept;
            count = n;
            rest = k.1;
            none = λ q run. subst (λ y. NoneAfter a q y g.finals (plain l.bare ++ is.left)) rest (none-passed a q l.bare is.back g.finals is.left (λ r on. is.none r
                (ap (reached a 0) l.word_is ∙ path-on (step_of a) 0 x.state l.before (one ++ plain l.bare) l.kept.leads.ends ∙ path-on (step_of a) x.state q one (plain l.bare) run ∙ on)));
          } in
          subst (λ y. Last g t y hs m) (sym same.1) (subst (λ y. Last g t l.others hs y) (sym same.0) found)

  -- none is left
  pub none-at_start : length ms ≡ 0 → NoneAfter a 0 (whole_text g) g.finals (word_over t 1 (whole_text g))
  none-at_start e = by is.count is.kept
    where
      by : (n : ℕ) → AreKept g n is.read ms hs → NoneAfter a 0 (whole_text g) g.finals (word_over t 1 (whole_text g))
      by (suc n) k = absurd (omega (arith, e, ap length k.0.marks_are, length-append k.0.others (k.0.mark ∷ [])))
      by zero k =
          let word : word_over t 1 (whole_text g) ≡ plain k.0 ++ is.left = is.word_is ∙ ap (λ w. w ++ is.left) k.1 in
          let text : whole_text g ≡ k.0 ++ is.back = is.parts ∙ ap (λ w. bytes_of w ++ is.back) k.1 ∙ ap (λ s. s ++ is.back) (bytes-plain k.0) in
          rw word (subst (λ s. NoneAfter a 0 s g.finals (plain k.0 ++ is.left)) (sym text) (none-passed a 0 k.0 is.back g.finals is.left (λ q run. is.none q (ap (reached a 0) k.1 ∙ run))))

-- ---- the kept marks without the last one, and with a lower one instead
abbrev pub lower : {words : ℕ} → Mark words → ℕ → Mark words
lower m x = record { at = m.at; mark = x; byte = m.byte; state = m.state; goals = m.goals; next = m.next; base = m.base }

module _ {words : ℕ} (g : EnumerationInput words) (t : Tuple) (others : List (Mark words)) (hs : List (Option (Ahead words))) (m : Mark words) (k : Last g t others hs m) where
  abbrev rest : List ℕ
  rest = text_ahead g k.kept.chain

  abbrev letter : Marked
  letter = (m.mark, m.byte) ∷ []

  -- the last mark can't be lowered, and is forgotten
  pub forgotten : ((x : ℕ) → IsNoMark g.dfa.now m.state m.byte m.goals m.mark x) → IsTrailOf g t others (take m.base hs)
  forgotten none = record {
    read = k.before;
    left = letter ++ k.behind;
    back = m.byte ∷ rest;
    word_is = k.word_is;
    parts = k.kept.leads.parts;
    count = k.count;
    kept = k.rest;
    none = λ q run. subst (λ p. NoneAfter g.dfa.now p (m.byte ∷ rest) g.finals (letter ++ k.behind)) (same-state m.state q (reached g.dfa.now 0 k.before) k.kept.leads.ends run)
        (none-fork g.dfa.now (m.byte ∷ []) rest m.state g.finals letter k.behind refl m.goals k.kept.is_mark.letter.reach k.none (none-byte g.dfa.now m.state m.byte m.goals m.mark none));
  }

  -- it becomes a lower one
  module _ (l : Lowered) (auto : IsDeterministic g.dfa.now) (at : l.at ≡ m.at) (best : IsGreatestMark g.dfa.now m.state m.byte m.goals m.mark l.mark l.state) where
    abbrev low-letter : Marked
    low-letter = (l.mark, m.byte) ∷ []

    turned : (base : ℕ) (more : List (Mark words)) → Fits g base hs → base ≤ length hs → (n : ℕ) → AreKept g n (k.before ++ low-letter) more (take base hs) → IsLowered g t l (record { next = m.next; base = base }) more hs
    turned base more fits low n kept = record {
      word = k.before ++ low-letter;
      positive = omega (arith, at, k.kept.at_is);
      inside = omega (arith, at, k.kept.at_is, leads-size g k.before m.state (m.byte ∷ rest) k.kept.leads);
      begins = record {
        at = m.at + 1;
        chain = k.kept.chain;
        behind = record {
          at_is = omega (arith, k.kept.at_is, length-append k.before low-letter);
          stands = stands-mark g hs m k.kept.chain l.mark (record { state = l.state; next = m.next; quiet = false }) auto k.kept.is_mark best.step refl (λ e. cc);
          leads = leads-on g k.before m.state (m.byte ∷ rest) k.kept.leads low-letter l.state rest refl (path-one (step_of g.dfa.now) m.state l.mark m.byte ∙ best.step);
          low = low;
          count = n;
          kept = kept;
        };
        can = k.kept.is_mark.letter.onward l.state best.goal;
        fits = fits;
      };
      written = λ spans.
          let place : 1 + length k.before ≡ l.at = omega (arith, k.kept.at_is, at) in
          let there : length (bytes_of k.before) + 1 ≡ l.at = omega (arith, k.kept.at_is, at, length-bytes k.before) in
          let starts = (over-split t 1 (bytes_of k.before) (m.byte ∷ rest) k.before (letter ++ k.behind) refl (ap (word_over t 1) (sym k.kept.leads.parts) ∙ k.word_is)).0 in
          sym (write_word-append 1 k.before low-letter (blanks (length t)) ∙ ap (λ n. write_mark l.mark n (write_word 1 k.before (blanks (length t)))) place
          ∙ ap (write_mark l.mark l.at) (ap (λ w. write_word 1 w (blanks (length t))) (sym starts) ∙ read-cut t (bytes_of k.before) spans ∙ ap (λ n. cut n t) there));
      next = λ w r first.
          let a = g.dfa.now in
          let on : IsNext a m.state (m.byte ∷ rest) g.finals (letter ++ k.behind) (low-letter ++ w) r =
          IsNext-fork a (m.byte ∷ []) rest m.state g.finals letter k.behind refl m.goals k.kept.is_mark.letter.reach k.none l.state r low-letter w (IsNext-byte a m.state m.byte m.goals m.mark l.mark l.state best) first in
          let whole = IsNext-prefix a (bytes_of k.before) (m.byte ∷ rest) 0 g.finals k.before (letter ++ k.behind) refl m.state r (low-letter ++ w) k.kept.leads.ends on in
          rw (k.word_is, append_assoc k.before low-letter w) (subst (λ s. IsNext a 0 s g.finals (k.before ++ (letter ++ k.behind)) (k.before ++ (low-letter ++ w)) r) (sym k.kept.leads.parts) whole);
    }

    -- the lower mark is none
    pub turned-none : l.mark ≡ 0 → IsLowered g t l (record { next = m.next; base = m.base }) others hs
    turned-none none =
        turned m.base others k.kept.fits k.kept.low k.count
        (subst (λ x. AreKept g k.count (k.before ++ (x, m.byte) ∷ []) others (take m.base hs)) (sym none) (kept-plain g k.count k.before others (take m.base hs) (m.byte ∷ []) k.rest))

    -- it is there
    pub turned-some : 0 < l.mark → IsLowered g t l (record { next = m.next; base = length hs }) (others ++ lower m l.mark ∷ []) hs
    turned-some some = turned (length hs) (others ++ lower m l.mark ∷ []) (fits-none g hs) (omega arith) (suc k.count) (subst (λ x. AreKept g (suc k.count) (k.before ++ low-letter) (others ++ lower m l.mark ∷ []) x) (sym (take-length hs)) (
      record {
        others = others;
        mark = lower m l.mark;
        marks_are = refl;
        before = k.before;
        bare = [];
        word_is = refl;
        kept =
            let is = k.kept.is_mark in
            record {
              chain = k.kept.chain;
              is_mark = record { ahead = is.ahead; join = is.join; letter = is.letter; goals = is.goals; state = is.state };
              leads = k.kept.leads;
              at_is = k.kept.at_is;
              some = some;
              low = k.kept.low;
              fits = k.kept.fits;
            };
      },
      k.rest,
    ))
