-- The marks of a join's answers.
use Rattle.std.proofs.Common.{◌≡◌, ℕ, suc, ◌+◌, ◌*◌, ◌/◌, ◌%◌, ◌^◌, ◌<◌, ◌≤◌, ◌||◌, Bool, true, false, List, [], ◌∷◌, length, map, Option, if◌then◌else◌, refl, sym, ap, subst, ◌∙◌, arith, pow-suc}
use Rattle.span_types.specs.declared.tuple.Span.{Span}
use Rattle.span_types.specs.Marks.{Lies, mark_of, part_of}
use Rattle.span_types.specs.Words.{Marked, word_from}
use Rattle.span_types.specs.Rel.{named, has_name, same_name}
use Rattle.span_types.proofs.WriteLaws.{mark-cons}
use Rattle.formula_law.specs.Accepts.{MarkedText, Reaches, marked_text}
use Rattle.formula_law.specs.Law.{bytes_of}
use Rattle.marker_nfa.specs.Automaton.{Automaton, AcceptsText, IsMarked}
use Rattle.marker_dfa.specs.Deterministic.{DeterministicAutomaton, IsDeterministic}
use Rattle.span_algebra.specs.Renaming.{both_names, markers, mark_for}
use Rattle.span_algebra.specs.TreeAutomaton.{JoinStep, JoinEnd, join_size}
use Rattle.span_algebra.specs.Products.{HasNumbered}
use Rattle.span_types.proofs.NameLaws.{same-is, same-self}
use Rattle.span_algebra.proofs.MarkLaws.{markers-named, markers-small, last-digit, other-digits}
use Rattle.span_algebra.proofs.TextLaws.{remarked, remarked_text, bytes-remarked, length-remarked, are-spans}
use Rattle.span_algebra.proofs.SetLaws.{numbered-matched, reaches-moved}
use Rattle.span_algebra.proofs.JoinLaws.{AreApart, AreSmall, both-accept, joined_tuple, lies-joined, length-joined, neither}

-- what a list of names keeps of a mark is the same of each of its names
pub markers-kept : (to from : List (List ℕ)) (m : ℕ) (n : List ℕ) → has_name to n ≡ true → markers to (mark_for to from m) n ≡ markers from m n
markers-kept [] from m n h = let bad : ⊥ = cc in absurd bad
markers-kept (x ∷ to) from m n h = by (same_name x n) refl h (λ k. markers-kept to from m n k)
  where
    by : (b : Bool) → same_name x n ≡ b → (b || has_name to n) ≡ true → (has_name to n ≡ true → markers to (mark_for to from m) n ≡ markers from m n)
        → (if b then (markers from m x + 4 * mark_for to from m) % 4 else markers to ((markers from m x + 4 * mark_for to from m) / 4) n) ≡ markers from m n
    by true e h rest = last-digit (markers from m x) (mark_for to from m) (markers-small from m x) ∙ ap (markers from m) (same-is x n e)
    by false e h rest = ap (λ k. markers to k n) (other-digits (markers from m x) (mark_for to from m) (markers-small from m x)) ∙ rest h

flipped : (x y : List ℕ) → same_name y x ≡ false → same_name x y ≡ false
flipped x y h = by (same_name x y) refl
  where
    by : (b : Bool) → same_name x y ≡ b → same_name x y ≡ false
    by true e = let bad : true ≡ false = sym (same-self x) ∙ ap (λ z. same_name z x) (same-is x y e) ∙ h in absurd (cc)
    by false e = e

either-false : (x y : Bool) → (x || y) ≡ false → (x ≡ false) × (y ≡ false)
either-false true y h = let bad : ⊥ = cc in absurd bad
either-false false y h = (refl, h)

shifted : (ys xs : List (List ℕ)) (x : List ℕ) (m : ℕ) → has_name ys x ≡ false → mark_for ys (x ∷ xs) m ≡ mark_for ys xs (m / 4)
shifted [] xs x m h = refl
shifted (y ∷ ys) xs x m h =
    let parts = either-false (same_name y x) (has_name ys x) h in
    let first : markers (x ∷ xs) m y ≡ markers xs (m / 4) y = ap (λ b. if b then m % 4 else markers xs (m / 4) y) (flipped x y parts.0) in
    let rest = shifted ys xs x m parts.1 in
    omega (arith, first, rest)

-- a small mark is made of the markers of its names
pub mark-whole : (ns : List (List ℕ)) (m : ℕ) → AreApart ns → m < 4 ^ length ns → mark_for ns ns m ≡ m
mark-whole [] m a lt = omega (arith, lt)
mark-whole (x ∷ xs) m a lt =
    let e : 4 ^ suc (length xs) ≡ 4 ^ length xs * 4 = pow-suc 4 (length xs) in
    let small : m / 4 < 4 ^ length xs = omega (arith, lt, e) in
    let rest = shifted xs xs x m a.0 ∙ mark-whole xs (m / 4) a.1 small in
    let first : markers (x ∷ xs) m x ≡ m % 4 = ap (λ b. if b then m % 4 else markers xs (m / 4) x) (same-self x) in
    omega (arith, first, rest)

sums : (ns from : List (List ℕ)) (g : List ℕ → Option Span) (m p : ℕ) → ((n : List ℕ) → has_name ns n ≡ true → markers from m n ≡ part_of 0 (g n) p) → mark_for ns from m ≡ mark_of (map g ns) p
sums [] from g m p h = refl
sums (x ∷ ns) from g m p h =
    let first = h x (ap (λ b. b || has_name ns x) (same-self x)) in
    let rest = sums ns from g m p (λ n k. h n (wider (same_name x n) (has_name ns n) k)) in
    omega (arith, first, rest, mark-cons (g x) (map g ns) p)
  where
    wider : (x y : Bool) → y ≡ true → (x || y) ≡ true
    wider true y k = refl
    wider false y k = k

-- equal words have the same first mark, the same first byte and the same rest
parts-same : {x z k j : ℕ} {ws vs : Marked} → ◌≡◌ {A = Marked} ((x, k) ∷ ws) ((z, j) ∷ vs) → (x ≡ z) × (k ≡ j) × (ws ≡ vs)
parts-same {x} {z} {k} {j} e =
    let head : ◌≡◌ {A = ℕ × ℕ} (x, k) (z, j) = cc in
    (ap (λ (c : ℕ × ℕ). c.0) head, ap (λ (c : ℕ × ℕ). c.1) head, cc)

module _ (va vb : List (List ℕ)) (u v : List (Option Span)) (size_u : length u ≡ length va) (size_v : length v ≡ length vb) (apart : AreApart (both_names va vb)) where
  told : (m p : ℕ) → m < 4 ^ length (both_names va vb) → mark_for va (both_names va vb) m ≡ mark_of u p → mark_for vb (both_names va vb) m ≡ mark_of v p → m ≡ mark_of (joined_tuple va vb u v) p
  told m p lt left right = sym (mark-whole (both_names va vb) m apart lt) ∙ sums (both_names va vb) (both_names va vb) (λ n. if has_name va n then named va u n else named vb v n) m p (λ n h. by n h (has_name va n) refl (has_name vb n) refl)
    where
      by : (n : List ℕ) → has_name (both_names va vb) n ≡ true → (x : Bool) → has_name va n ≡ x → (y : Bool) → has_name vb n ≡ y → markers (both_names va vb) m n ≡ part_of 0 (if has_name va n then named va u n else named vb v n) p
      by n h true e y f =
          sym (markers-kept va (both_names va vb) m n e) ∙ ap (λ k. markers va k n) left ∙ markers-named va u p n size_u
          ∙ ap (λ b. part_of 0 (if b then named va u n else named vb v n) p) (sym e)
      by n h false e true f =
          sym (markers-kept vb (both_names va vb) m n f) ∙ ap (λ k. markers vb k n) right ∙ markers-named vb v p n size_v
          ∙ ap (λ b. part_of 0 (if b then named va u n else named vb v n) p) (sym e)
      by n h false e false f = let bad : true ≡ false = sym h ∙ neither va vb n e f in absurd (cc)

  word-told : (w : Marked) (p : ℕ) (s : List ℕ) → AreSmall (length (both_names va vb)) w → remarked (mark_for va (both_names va vb)) w ≡ word_from (mark_of u) p s → remarked (mark_for vb (both_names va vb)) w ≡ word_from (mark_of v) p s → w ≡ word_from (mark_of (joined_tuple va vb u v)) p s
  word-told [] p [] small left right = refl
  word-told [] p (b ∷ s) small left right = absurd (cc)
  word-told (c ∷ w) p [] small left right = absurd (cc)
  word-told (c ∷ w) p (b ∷ s) small left right =
      let l = parts-same left in
      let r = parts-same right in
      let m = told c.0 p small.0 l.0 r.0 in
      let rest = word-told w (suc p) s small.1 l.2 r.2 in
      λ i. (m i, l.1 i) ∷ rest i

small-path : (a : DeterministicAutomaton) (va : List (List ℕ)) (b : DeterministicAutomaton) (vb : List (List ℕ)) (w : Marked) (o q : ℕ) → Reaches (JoinStep a va b vb) o w q → AreSmall (length (both_names va vb)) w
small-path a va b vb [] o q r = tt
small-path a va b vb (c ∷ w) o q r = let s = r.1 in (s.mark, small-path a va b vb w r.0 q r.2)

length-bytes : (w : Marked) → length (bytes_of w) ≡ length w
length-bytes [] = refl
length-bytes (c ∷ w) = ap suc (length-bytes w)

-- an accepted text has the marks of a tuple
pub join-marked : (a : DeterministicAutomaton) (va : List (List ℕ)) (b : DeterministicAutomaton) (vb : List (List ℕ)) (da : IsDeterministic a) (db : IsDeterministic b) → length va ≡ a.variables → length vb ≡ b.variables → AreApart (both_names va vb) → length (both_names va vb) ≤ 8
    → (pairs : List ℕ) (n : Automaton) → HasNumbered (join_size a) (JoinStep a va b vb) (JoinEnd a va b vb) pairs n → (w : MarkedText) → length w.pairs ≤ 281474976710656 → AcceptsText n w → IsMarked (length (both_names va vb)) w
join-marked a va b vb da db size_a size_b apart few pairs n is w short h =
    let k = both-accept a va b vb da db pairs n is w h in
    let f = mark_for va (both_names va vb) in
    let g = mark_for vb (both_names va vb) in
    let s = bytes_of w.pairs in
    let x = da.accepted (remarked_text f w) (omega (arith, short, length-remarked f w.pairs)) k.left in
    let y = db.accepted (remarked_text g w) (omega (arith, short, length-remarked g w.pairs)) k.right in
    let u = x.tuple in
    let v = y.tuple in
    let left : remarked_text f w ≡ marked_text s u = x.marks ∙ ap (λ z. marked_text z u) (bytes-remarked f w.pairs) in
    let right : remarked_text g w ≡ marked_text s v = y.marks ∙ ap (λ z. marked_text z v) (bytes-remarked g w.pairs) in
    let t = joined_tuple va vb u v in
    let size_u : length u ≡ length va = x.size ∙ sym size_a in
    let size_v : length v ≡ length vb = y.size ∙ sym size_b in
    let r = reaches-moved (numbered-matched is) w.pairs 0 0 h.state is.start h.reaches in
    let small = small-path a va b vb w.pairs 0 r.0 r.2 in
    let pairs = word-told va vb u v size_u size_v apart w.pairs 1 s small (ap (λ (z : MarkedText). z.pairs) left) (ap (λ (z : MarkedText). z.pairs) right) in
    let last = told va vb u v size_u size_v apart w.last (suc (length s)) k.small (ap (λ (z : MarkedText). z.last) left) (ap (λ (z : MarkedText). z.last) right) in
    let count : length t ≡ length (both_names va vb) = length-joined (λ m. if has_name va m then named va u m else named vb v m) (both_names va vb) in
    let lies : Lies (length s) t = lies-joined (length s) va vb u v (both_names va vb) (subst (λ (z : List ℕ). Lies (length z) u) (bytes-remarked f w.pairs) x.lies) (subst (λ (z : List ℕ). Lies (length z) v) (bytes-remarked g w.pairs) y.lies) in
    record {
      tuple = t;
      size = count;
      valid = record { few = omega (arith, few, count); spans = are-spans (length s) t (omega (arith, short, length-bytes w.pairs)) lies };
      lies = lies;
      marks = λ i. record { pairs = pairs i; last = last i };
    }
