-- What an automaton of pairs accepts.
use Rattle.std.proofs.Common.{◌≡◌, ℕ, zero, suc, ◌^◌, ◌<◌, ◌≤◌, ◌||◌, Bool, true, false, List, [], ◌∷◌, ◌++◌, length, map, Option, Some, None, Contains, if◌then◌else◌, refl, sym, ap, subst, ◌∙◌, arith}
use Rattle.span_types.specs.declared.tuple.Span.{Span}
use Rattle.span_types.specs.Marks.{Lies, mark_of, spans_of}
use Rattle.span_types.specs.Words.{Marked, word_from}
use Rattle.span_types.specs.Rel.{Assignment, IsUnion, named, has_name, same_name, lacking}
use Rattle.span_types.proofs.Digits.{mark_below}
use Rattle.formula_law.specs.Accepts.{MarkedText, Reaches, marked_text}
use Rattle.formula_law.specs.Law.{bytes_of}
use Rattle.span_types.proofs.NameLaws.{named-none, same-is, same-self}
use Rattle.marker_nfa.specs.Automaton.{Automaton, AcceptsText}
use Rattle.marker_dfa.specs.Deterministic.{DeterministicAutomaton, IsDeterministic, PathAccepts, AcceptsSame, and_then, path, next_of, ends_of, states_of}
use Rattle.span_algebra.specs.Renaming.{both_names, mark_for, tuple_for}
use Rattle.span_algebra.specs.TreeAutomaton.{JoinStep, JoinEnd, pair_of, join_size}
use Rattle.span_algebra.specs.Answers.{AreBytes, IsText, IsAnswerOf, AnswersBy, GivesJoin}
use Rattle.span_algebra.specs.Products.{HasNumbered}
use Rattle.span_algebra.proofs.NameLaws.{length-for, named-for, left-names, right-names}
use Rattle.span_algebra.proofs.TextLaws.{remarked, remarked_text, bytes-word, lies-for, named-span, renamed-text}
use Rattle.span_algebra.proofs.SetLaws.{numbered-matched, reaches-moved, turned}
use Rattle.marker_dfa.proofs.Lists.{one_value}
use Rattle.span_algebra.proofs.CopyLaws.{step-within, end-within}

-- no name occurs twice
abbrev pub AreApart : List (List ℕ) → Type 0
AreApart [] = Unit {0}
AreApart (n ∷ ns) = (has_name ns n ≡ false) × AreApart ns

pub same-pair : (l r k q : ℕ) → r < 1024 → q < 1024 → pair_of l r ≡ pair_of k q → (l ≡ k) × (r ≡ q)
same-pair l r k q lr lq e = (omega (arith, e), omega (arith, e))

-- every mark is small
abbrev pub AreSmall : ℕ → Marked → Type 0
AreSmall k [] = Unit {0}
AreSmall k (c ∷ w) = (c.0 < 4 ^ k) × AreSmall k w

pub small-word : (k : ℕ) (g : ℕ → ℕ) (p : ℕ) (s : List ℕ) → ((q : ℕ) → g q < 4 ^ k) → AreSmall k (word_from g p s)
small-word k g p [] h = tt
small-word k g p (b ∷ s) h = (h p, small-word k g (suc p) s h)

module _ (a : DeterministicAutomaton) (va : List (List ℕ)) (b : DeterministicAutomaton) (vb : List (List ℕ)) (da : IsDeterministic a) (db : IsDeterministic b) where
  abbrev names : List (List ℕ)
  names = both_names va vb

  abbrev Step : ℕ → ℕ → ℕ → ℕ → Type 0
  Step = JoinStep a va b vb

  abbrev to_left : Marked → Marked
  to_left w = remarked (mark_for va names) w

  abbrev to_right : Marked → Marked
  to_right w = remarked (mark_for vb names) w

  record Pair (w : Marked) (left right q : ℕ) : Type 0 where
    pub end_left : ℕ
    pub end_right : ℕ
    pub leads_left : path (next_of a) (to_left w) left ≡ Some end_left
    pub leads_right : path (next_of b) (to_right w) right ≡ Some end_right
    pub within : end_right < states_of b
    pub here : q ≡ pair_of end_left end_right

  apart-to : (w : Marked) (o left right q : ℕ) → o ≡ pair_of left right → right < states_of b → Reaches Step o w q → Pair w left right q
  apart-to [] o left right q e lt r = record { end_left = left; end_right = right; leads_left = refl; leads_right = refl; within = lt; here = sym r ∙ e }
  apart-to (c ∷ w) o left right q e lt r =
      let s = r.1 in
      let few = db.few_states in
      let own : s.right < states_of b = step-within b s.right (mark_for vb names c.0) c.1 s.next_right s.right_step in
      let same = same-pair s.left s.right left right (omega (arith, own, few)) (omega (arith, lt, few)) (sym s.from ∙ e) in
      let rest = apart-to w r.0 s.next_left s.next_right q s.leads (db.within s.right (mark_for vb names c.0) c.1 s.next_right s.right_step) r.2 in
      let ls : next_of a left (mark_for va names c.0) c.1 ≡ Some s.next_left = subst (λ (k : ℕ). next_of a k (mark_for va names c.0) c.1 ≡ Some s.next_left) same.0 s.left_step in
      let rs : next_of b right (mark_for vb names c.0) c.1 ≡ Some s.next_right = subst (λ (k : ℕ). next_of b k (mark_for vb names c.0) c.1 ≡ Some s.next_right) same.1 s.right_step in
      record {
        end_left = rest.end_left;
        end_right = rest.end_right;
        leads_left = ap (λ x. and_then x (path (next_of a) (to_left w))) ls ∙ rest.leads_left;
        leads_right = ap (λ x. and_then x (path (next_of b) (to_right w))) rs ∙ rest.leads_right;
        within = rest.within;
        here = rest.here;
      }

  joined : (w : Marked) (left right end_left end_right : ℕ) → AreBytes (bytes_of w) → AreSmall (length names) w → path (next_of a) (to_left w) left ≡ Some end_left → path (next_of b) (to_right w) right ≡ Some end_right → Reaches Step (pair_of left right) w (pair_of end_left end_right)
  joined [] left right el er bytes small e g = let x : left ≡ el = cc in let y : right ≡ er = cc in λ i. pair_of (x i) (y i)
  joined (c ∷ w) left right el er bytes small e g = by (next_of a left (mark_for va names c.0) c.1) refl e (next_of b right (mark_for vb names c.0) c.1) refl g (λ l r x y. joined w l r el er bytes.1 small.1 x y)
    where
      by : (x : Option ℕ) → next_of a left (mark_for va names c.0) c.1 ≡ x → and_then x (path (next_of a) (to_left w)) ≡ Some el
          → (y : Option ℕ) → next_of b right (mark_for vb names c.0) c.1 ≡ y → and_then y (path (next_of b) (to_right w)) ≡ Some er
          → ((l r : ℕ) → path (next_of a) (to_left w) l ≡ Some el → path (next_of b) (to_right w) r ≡ Some er → Reaches Step (pair_of l r) w (pair_of el er))
          → Reaches Step (pair_of left right) (c ∷ w) (pair_of el er)
      by None h e y k g rec = let bad : None ≡ Some el = e in absurd (cc)
      by (Some l) h e None k g rec = let bad : None ≡ Some er = g in absurd (cc)
      by (Some l) h e (Some r) k g rec =
          let s : Step (pair_of left right) c.0 c.1 (pair_of l r) = record { left = left; right = right; next_left = l; next_right = r; from = refl; byte = bytes.0; mark = small.0; left_step = h; right_step = k; leads = refl } in
          (pair_of l r, s, rec l r e g)

  -- both sides accept the text, each with its own variables' markers, and its last mark is small
  pub record Both (w : MarkedText) : Type 0 where
    pub left : PathAccepts a (remarked_text (mark_for va names) w)
    pub right : PathAccepts b (remarked_text (mark_for vb names) w)
    pub small : w.last < 4 ^ length names

  module _ (pairs : List ℕ) (n : Automaton) (is : HasNumbered (join_size a) (JoinStep a va b vb) (JoinEnd a va b vb) pairs n) where
    pub both-accept : (w : MarkedText) → AcceptsText n w → Both w
    both-accept w h =
        let z : 0 ≡ pair_of 0 0 = refl in
        let r = reaches-moved (numbered-matched is) w.pairs 0 0 h.state is.start h.reaches in
        let k = apart-to w.pairs 0 0 0 r.0 z db.has_start r.2 in
        let f = is.end_to h.state w.last h.ends in
        let e = f.2 in
        let at : f.0 ≡ r.0 = one_value pairs h.state f.0 r.0 f.1 r.1 in
        let few = db.few_states in
        let own : e.right < states_of b = end-within b e.right (mark_for vb names w.last) e.right_end in
        let same = same-pair e.left e.right k.end_left k.end_right (omega (arith, own, few)) (omega (arith, k.within, few)) (sym e.from ∙ at ∙ k.here) in
        record {
          left = record { state = k.end_left; leads = k.leads_left; may_end = subst (λ (x : ℕ). Contains (ends_of a x) (mark_for va names w.last)) same.0 e.left_end };
          right = record { state = k.end_right; leads = k.leads_right; may_end = subst (λ (x : ℕ). Contains (ends_of b x) (mark_for vb names w.last)) same.1 e.right_end };
          small = e.mark;
        }

    pub accept-both : (w : MarkedText) → AreBytes (bytes_of w.pairs) → AreSmall (length names) w.pairs → Both w → AcceptsText n w
    accept-both w bytes small h =
        let r = reaches-moved (turned (numbered-matched is)) w.pairs 0 0 (pair_of h.left.state h.right.state) is.start (joined w.pairs 0 0 h.left.state h.right.state bytes small h.left.leads h.right.leads) in
        record {
          state = r.0;
          reaches = r.2;
          ends = is.end_from r.0 (pair_of h.left.state h.right.state) w.last r.1 (record { left = h.left.state; right = h.right.state; from = refl; mark = h.small; left_end = h.left.may_end; right_end = h.right.may_end });
        }

-- a tuple made name by name gives each name its span
named-map : (ns : List (List ℕ)) (g : List ℕ → Option Span) (n : List ℕ) → has_name ns n ≡ true → named ns (map g ns) n ≡ g n
named-map [] g n h = let bad : ⊥ = cc in absurd bad
named-map (m ∷ ns) g n h = by (same_name m n) refl h (λ r. named-map ns g n r)
  where
    by : (b : Bool) → same_name m n ≡ b → (b || has_name ns n) ≡ true → (has_name ns n ≡ true → named ns (map g ns) n ≡ g n) → (if b then g m else named ns (map g ns) n) ≡ g n
    by true e h rest = ap g (same-is m n e)
    by false e h rest = rest h

map-same : (ns : List (List ℕ)) (f g : List ℕ → Option Span) → ((n : List ℕ) → has_name ns n ≡ true → f n ≡ g n) → map f ns ≡ map g ns
map-same [] f g h = refl
map-same (m ∷ ns) f g h =
    let x : f m ≡ g m = h m (ap (λ b. b || has_name ns m) (same-self m)) in
    let y = map-same ns f g (λ n k. h n (wider (same_name m n) (has_name ns n) k)) in
    λ i. x i ∷ y i
  where
    wider : (x y : Bool) → y ≡ true → (x || y) ≡ true
    wider true y k = refl
    wider false y k = k

-- a tuple is what it gives to its distinct names
named-self : (ns : List (List ℕ)) (t : List (Option Span)) → AreApart ns → length t ≡ length ns → map (named ns t) ns ≡ t
named-self [] [] a e = refl
named-self [] (x ∷ t) a e = absurd (omega (arith, e))
named-self (m ∷ ns) [] a e = absurd (omega (arith, e))
named-self (m ∷ ns) (x ∷ t) a e =
    let head : (if same_name m m then x else named ns t m) ≡ x = ap (λ b. if b then x else named ns t m) (same-self m) in
    let tail = map-same ns (named (m ∷ ns) (x ∷ t)) (named ns t) (λ n h. other n h (same_name m n) refl) ∙ named-self ns t a.1 (omega (arith, e)) in
    λ i. head i ∷ tail i
  where
    other : (n : List ℕ) → has_name ns n ≡ true → (b : Bool) → same_name m n ≡ b → (if b then x else named ns t n) ≡ named ns t n
    other n h true g = let s : true ≡ false = sym h ∙ ap (has_name ns) (sym (same-is m n g)) ∙ a.0 in absurd (cc)
    other n h false g = refl

pub none-lacking : (va ws : List (List ℕ)) (n : List ℕ) → has_name ws n ≡ false → has_name (lacking va ws) n ≡ false
none-lacking va [] n h = refl
none-lacking va (m ∷ ws) n h = by (has_name va m) (same_name m n) refl h (λ k. none-lacking va ws n k)
  where
    by : (c x : Bool) → same_name m n ≡ x → (x || has_name ws n) ≡ false → (has_name ws n ≡ false → has_name (lacking va ws) n ≡ false) → has_name (if c then lacking va ws else m ∷ lacking va ws) n ≡ false
    by c true e h rec = let bad : ⊥ = cc in absurd bad
    by true false e h rec = rec h
    by false false e h rec = ap (λ x. x || has_name (lacking va ws) n) e ∙ rec h

none-appended : (us ws : List (List ℕ)) (n : List ℕ) → has_name us n ≡ false → has_name ws n ≡ false → has_name (us ++ ws) n ≡ false
none-appended [] ws n h g = g
none-appended (m ∷ us) ws n h g = by (same_name m n) h (λ k. none-appended us ws n k g)
  where
    by : (x : Bool) → (x || has_name us n) ≡ false → (has_name us n ≡ false → has_name (us ++ ws) n ≡ false) → (x || has_name (us ++ ws) n) ≡ false
    by true h rec = let bad : ⊥ = cc in absurd bad
    by false h rec = rec h

pub neither : (va vb : List (List ℕ)) (n : List ℕ) → has_name va n ≡ false → has_name vb n ≡ false → has_name (both_names va vb) n ≡ false
neither va vb n f g = none-appended va (lacking va vb) n f (none-lacking va vb n g)

-- the spans of an answer of each side, where they agree, as a tuple
abbrev pub joined_tuple : (va vb : List (List ℕ)) (u v : List (Option Span)) → List (Option Span)
joined_tuple va vb u v = map (λ n. if has_name va n then named va u n else named vb v n) (both_names va vb)

left-back : (va vb : List (List ℕ)) (u v : List (Option Span)) → AreApart va → length u ≡ length va → tuple_for va (both_names va vb) (joined_tuple va vb u v) ≡ u
left-back va vb u v a e =
    map-same va (named (both_names va vb) (joined_tuple va vb u v)) (named va u) (λ n h.
    named-map (both_names va vb) (λ n. if has_name va n then named va u n else named vb v n) n (left-names va vb n h)
    ∙ ap (λ b. if b then named va u n else named vb v n) h)
    ∙ named-self va u a e

right-back : (va vb : List (List ℕ)) (u v : List (Option Span)) → AreApart vb → length v ≡ length vb → ((n : List ℕ) → has_name va n ≡ true → has_name vb n ≡ true → named va u n ≡ named vb v n) → tuple_for vb (both_names va vb) (joined_tuple va vb u v) ≡ v
right-back va vb u v a e agree =
    map-same vb (named (both_names va vb) (joined_tuple va vb u v)) (named vb v) (λ n h.
    named-map (both_names va vb) (λ n. if has_name va n then named va u n else named vb v n) n (right-names va vb n h)
    ∙ by n h (has_name va n) refl)
    ∙ named-self vb v a e
  where
    by : (n : List ℕ) → has_name vb n ≡ true → (b : Bool) → has_name va n ≡ b → (if b then named va u n else named vb v n) ≡ named vb v n
    by n h true g = agree n g h
    by n h false g = refl

pub lies-joined : (k : ℕ) (va vb : List (List ℕ)) (u v : List (Option Span)) (ns : List (List ℕ)) → Lies k u → Lies k v → Lies k (map (λ n. if has_name va n then named va u n else named vb v n) ns)
lies-joined k va vb u v [] hu hv x q e = let bad : None ≡ Some q = e in absurd (cc)
lies-joined k va vb u v (n ∷ ns) hu hv zero q e = by (has_name va n) e
  where
    by : (b : Bool) → (if b then named va u n else named vb v n) ≡ Some q → (1 ≤ q.start) × (q.start ≤ q.end) × (q.end ≤ suc k)
    by true g = let w = named-span va u n q g in hu w.0 q w.1
    by false g = let w = named-span vb v n q g in hv w.0 q w.1
lies-joined k va vb u v (n ∷ ns) hu hv (suc x) q e = lies-joined k va vb u v ns hu hv x q e

pub length-joined : (g : List ℕ → Option Span) (ns : List (List ℕ)) → length (map g ns) ≡ length ns
length-joined g [] = refl
length-joined g (n ∷ ns) = ap suc (length-joined g ns)

-- an automaton of the pairs has the joined answers
pub gives-join : (a : DeterministicAutomaton) (va : List (List ℕ)) (b : DeterministicAutomaton) (vb : List (List ℕ)) → IsDeterministic a → IsDeterministic b → length va ≡ a.variables → length vb ≡ b.variables → AreApart va → AreApart vb
    → (pairs : List ℕ) (n : Automaton) → HasNumbered (join_size a) (JoinStep a va b vb) (JoinEnd a va b vb) pairs n → (d : DeterministicAutomaton) → d.variables ≡ length (both_names va vb) → AcceptsSame n d → GivesJoin a va b vb (both_names va vb) d
gives-join a va b vb da db size_a size_b apart_a apart_b pairs n is d variables same = record { variables = variables; answers = λ s r text. (to s r text, from s r text) }
  where
    side : (x : DeterministicAutomaton) (vs : List (List ℕ)) (s : List ℕ) (t : List (Option Span)) → length vs ≡ x.variables → length t ≡ length (both_names va vb) → Lies (length s) t → PathAccepts x (remarked_text (mark_for vs (both_names va vb)) (marked_text s t)) → IsAnswerOf x s (tuple_for vs (both_names va vb) t)
    side x vs s t size count lies h = record {
      size = length-for vs (both_names va vb) t ∙ size;
      lies = lies-for (length s) vs (both_names va vb) t lies;
      accepted = subst (λ (w : MarkedText). PathAccepts x w) (renamed-text vs (both_names va vb) s t count) h;
    }

    to : (s : List ℕ) (r : Assignment) → IsText s → AnswersBy d (both_names va vb) s r → IsUnion va vb (AnswersBy a va s) (AnswersBy b vb s) r
    to s r text h =
        let t = h.tuple in
        let k = both-accept a va b vb da db pairs n is (marked_text s t) ((same.texts (marked_text s t)).0 h.fits.accepted) in
        let u = tuple_for va (both_names va vb) t in
        let v = tuple_for vb (both_names va vb) t in
        record {
          first = named va u;
          second = named vb v;
          in_left = record { tuple = u; size = length-for va (both_names va vb) t; fits = side a va s t size_a h.size h.fits.lies k.left; read = λ m. refl };
          in_right = record { tuple = v; size = length-for vb (both_names va vb) t; fits = side b vb s t size_b h.size h.fits.lies k.right; read = λ m. refl };
          agree = λ m x y. named-for va (both_names va vb) t m x ∙ sym (named-for vb (both_names va vb) t m y);
          left_is = λ m x. h.read m ∙ sym (named-for va (both_names va vb) t m x);
          right_is = λ m y. h.read m ∙ sym (named-for vb (both_names va vb) t m y);
          no_other = λ m x y. h.read m ∙ named-none (both_names va vb) t m (neither va vb m x y);
        }

    from : (s : List ℕ) (r : Assignment) → IsText s → IsUnion va vb (AnswersBy a va s) (AnswersBy b vb s) r → AnswersBy d (both_names va vb) s r
    from s r text h =
        let u = h.in_left.tuple in
        let v = h.in_right.tuple in
        let t = joined_tuple va vb u v in
        let w = marked_text s t in
        let count : length t ≡ length (both_names va vb) = length-joined (λ m. if has_name va m then named va u m else named vb v m) (both_names va vb) in
        let agree : (m : List ℕ) → has_name va m ≡ true → has_name vb m ≡ true → named va u m ≡ named vb v m = λ m x y. sym (h.in_left.read m) ∙ h.agree m x y ∙ h.in_right.read m in
        let bytes : AreBytes (bytes_of w.pairs) = subst (λ (l : List ℕ). AreBytes l) (sym (bytes-word _ 1 s)) text.bytes in
        let below : (q : ℕ) → mark_of t q < 4 ^ length (both_names va vb) = λ q. subst (λ (k : ℕ). mark_of t q < 4 ^ k) count (mark_below (length t) (spans_of t) q) in
        let left : PathAccepts a (remarked_text (mark_for va (both_names va vb)) w) = subst (λ (x : MarkedText). PathAccepts a x) (sym (renamed-text va (both_names va vb) s t count ∙ ap (marked_text s) (left-back va vb u v apart_a h.in_left.size))) h.in_left.fits.accepted in
        let right : PathAccepts b (remarked_text (mark_for vb (both_names va vb)) w) = subst (λ (x : MarkedText). PathAccepts b x) (sym (renamed-text vb (both_names va vb) s t count ∙ ap (marked_text s) (right-back va vb u v apart_b h.in_right.size agree))) h.in_right.fits.accepted in
        let both : Both a va b vb da db w = record { left = left; right = right; small = below (suc (length s)) } in
        record {
          tuple = t;
          size = count;
          fits = record {
            size = count ∙ sym variables;
            lies = lies-joined (length s) va vb u v (both_names va vb) h.in_left.fits.lies h.in_right.fits.lies;
            accepted = (same.texts w).1 (accept-both a va b vb da db pairs n is w bytes (small-word (length (both_names va vb)) (mark_of t) 1 s below) both);
          };
          read = λ m. by m (has_name va m) refl (has_name vb m) refl;
        }
      where
        by : (m : List ℕ) (x : Bool) → has_name va m ≡ x → (y : Bool) → has_name vb m ≡ y → r m ≡ named (both_names va vb) (joined_tuple va vb h.in_left.tuple h.in_right.tuple) m
        by m true e y f = h.left_is m e ∙ h.in_left.read m ∙ sym (named-map (both_names va vb) (λ k. if has_name va k then named va h.in_left.tuple k else named vb h.in_right.tuple k) m (left-names va vb m e) ∙ ap (λ b. if b then named va h.in_left.tuple m else named vb h.in_right.tuple m) e)
        by m false e true f = h.right_is m f ∙ h.in_right.read m ∙ sym (named-map (both_names va vb) (λ k. if has_name va k then named va h.in_left.tuple k else named vb h.in_right.tuple k) m (right-names va vb m f) ∙ ap (λ b. if b then named va h.in_left.tuple m else named vb h.in_right.tuple m) e)
        by m false e false f = h.no_other m e f ∙ sym (named-none (both_names va vb) (joined_tuple va vb h.in_left.tuple h.in_right.tuple) m (neither va vb m e f))
