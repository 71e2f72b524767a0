-- There is a list of the answers of an automaton on a text.
use Rattle.span_enum.proofs.Base.{All, AllPairs, AllPairs-cons, AreAnswersOf, Comes, Contains, Contains-append_cases, Contains-append_left, Contains-append_right, Contains-get_or, DeterministicAutomaton, IsDeterministic, IsMember, IsWord}
use Rattle.span_enum.proofs.Base.{List, Marked, None, Option, Precedes, Some, Tuple, [], ap, arith, blanks, bytes-none, bytes_of, cases_eq, ended, get_or, has_map, inl, inr, length, map, map_has, no-state, one-letter, one_only, onto}
use Rattle.span_enum.proofs.Base.{path-parts, reached, refl, same-state, step_of, subst, suc, sym, word_of, write_word, zero, ℕ, ◌++◌, ◌<◌, ◌∙◌, ◌∷◌, ◌≡◌, ◌≤◌, ◌⊎◌}
use Rattle.span_enum.proofs.Runs.{low-mark}
use Rattle.span_enum.proofs.Tuples.{IsText, accepts-from_member, member-from_accepts, order, read-back, tuple-of_member, wellmarked, word-bytes}

none-in : {X : Type 0} (x : X) → Contains [] x → ⊥
none-in x c = omega (arith, c.1)

in-first : {X : Type 0} (x : X) (xs : List X) → Contains (x ∷ xs) x
in-first x xs = (zero, omega arith, refl)

in-later : {X : Type 0} (x : X) (xs : List X) (z : X) → Contains xs z → Contains (x ∷ xs) z
in-later x xs z c = (suc c.0, omega (arith, c.1), c.2)

-- ---- lists in order
abbrev Sorted : {X : Type 0} → (X → X → Type 0) → List X → Type 0
Sorted R [] = Unit {0}
Sorted {X} R (x ∷ xs) = ((y : X) → Contains xs y → R x y) × Sorted R xs

sorted-pairs : {X : Type 0} (R : X → X → Type 0) (xs : List X) → Sorted R xs → AllPairs R xs
sorted-pairs R [] h = λ i j d lt l. absurd (omega arith)
sorted-pairs R (x ∷ xs) h = AllPairs-cons R x xs (λ k d lt. h.0 (get_or xs k d) (Contains-get_or xs k d lt)) (sorted-pairs R xs h.1)

sorted-append : {X : Type 0} (R : X → X → Type 0) (xs ys : List X) → Sorted R xs → Sorted R ys → ((x y : X) → Contains xs x → Contains ys y → R x y) → Sorted R (xs ++ ys)
sorted-append R [] ys h k all = k
sorted-append R (x ∷ xs) ys h k all = (
  λ y c. elim (Contains-append_cases xs ys y c) [ inl m ↦ h.0 y m | inr m ↦ all x y (in-first x xs) m ],
  sorted-append R xs ys h.1 k (λ u v cu cv. all u v (in-later x xs u cu) cv),
)

sorted-map : {X Y : Type 0} (R : X → X → Type 0) (S : Y → Y → Type 0) (f : X → Y) (d : X) (xs : List X) → Sorted R xs → ((x y : X) → Contains xs x → Contains xs y → R x y → S (f x) (f y)) → Sorted S (map f xs)
sorted-map R S f d [] h on = tt
sorted-map {X} {Y} R S f d (x ∷ xs) h on = (
  λ y c. let k = map_has f d xs y c in subst (λ (z : Y). S (f x) z) (sym k.2) (on x k.0 (in-first x xs) (in-later x xs k.0 k.1) (h.0 k.0 k.1)),
  sorted-map R S f d xs h.1 (λ u v cu cv. on u v (in-later x xs u cu) (in-later x xs v cv)),
)

-- a list in order of exactly the elements with a property
record Made {X : Type 0} (R : X → X → Type 0) (P : X → Type 0) : Type 0 where
  list : List X
  sorted : Sorted R list
  all : (x : X) → P x → Contains list x
  only : (x : X) → Contains list x → P x

made-none : {X : Type 0} (R : X → X → Type 0) (P : X → Type 0) → ((x : X) → P x → ⊥) → Made R P
made-none R P none = record { list = []; sorted = tt; all = λ x h. absurd (none x h); only = λ x c. absurd (none-in x c) }

made-join : {X : Type 0} (R : X → X → Type 0) (P Q A : X → Type 0) → Made R P → Made R Q → ((x y : X) → P x → Q y → R x y) → ((x : X) → A x → P x ⊎ Q x) → ((x : X) → P x → A x) → ((x : X) → Q x → A x) → Made R A
made-join R P Q A p q before parts left right = record {
  list = p.list ++ q.list;
  sorted = sorted-append R p.list q.list p.sorted q.sorted (λ x y cx cy. before x y (p.only x cx) (q.only y cy));
  all = λ x h. elim (parts x h) [ inl k ↦ Contains-append_left p.list q.list x (p.all x k) | inr k ↦ Contains-append_right p.list q.list x (q.all x k) ];
  only = λ x c. elim (Contains-append_cases p.list q.list x c) [ inl k ↦ left x (p.only x k) | inr k ↦ right x (q.only x k) ];
}

made-map : {X Y : Type 0} (R : X → X → Type 0) (S : Y → Y → Type 0) (P : X → Type 0) (Q : Y → Type 0) (f : X → Y) (d : X) → Made R P → ((x y : X) → P x → P y → R x y → S (f x) (f y))
    → ((x : X) → P x → Q (f x)) → ((y : Y) → Q y → (x : X) × P x × (y ≡ f x)) → Made S Q
made-map {X} {Y} R S P Q f d p on to from = record {
  list = map f p.list;
  sorted = sorted-map R S f d p.list p.sorted (λ x y cx cy. on x y (p.only x cx) (p.only y cy));
  all = λ y h. let k = from y h in subst (λ (z : Y). Contains (map f p.list) z) (sym k.2) (has_map f p.list k.0 (p.all k.0 k.1));
  only = λ y c. let k = map_has f d p.list y c in subst Q (sym k.2) (to k.0 (p.only k.0 k.1));
}

-- ---- the words over some letters that lead to state 0, in mark order
abbrev Ends : DeterministicAutomaton → ℕ → List ℕ → Marked → Type 0
Ends a p s w = (bytes_of w ≡ s) × (reached a p w ≡ Some 0)

module _ (a : DeterministicAutomaton) (p b : ℕ) (s : List ℕ) where
  -- the word begins with a mark below n, and continues with one over the other letters
  record Falls (n : ℕ) (w : Marked) : Type 0 where
    mark : ℕ
    state : ℕ
    tail : Marked
    below : mark < n
    word : w ≡ (mark, b) ∷ tail
    step : step_of a p mark b ≡ Some state
    ends : Ends a state s tail

  falls-below : (n m : ℕ) (w : Marked) → (f : Falls n w) → f.mark < m → Falls m w
  falls-below n m w f lt = record { mark = f.mark; state = f.state; tail = f.tail; below = lt; word = f.word; step = f.step; ends = f.ends }

  abbrev FallsAt : ℕ → Marked → Type 0
  FallsAt n w = (f : Falls (suc n) w) × (f.mark ≡ n)

  at-mark : ((q : ℕ) → Made Precedes (Ends a q s)) → (n : ℕ) (o : Option ℕ) → step_of a p n b ≡ o → Made Precedes (FallsAt n)
  at-mark rest n None e = made-none Precedes (FallsAt n) (λ w f. no-state f.0.state (step_of a p n b) e (ap (λ m. step_of a p m b) (sym f.1) ∙ f.0.step))
  at-mark rest n (Some q) e = made-map Precedes Precedes (Ends a q s) (FallsAt n) (λ v. (n, b) ∷ v) [] (rest q) (λ x y hx hy before. inr (refl, before))
      (λ v h. (record { mark = n; state = q; tail = v; below = omega arith; word = refl; step = e; ends = h }, refl))
      (λ w f.
      let same : f.0.state ≡ q = same-state f.0.state q (step_of a p n b) (ap (λ m. step_of a p m b) (sym f.1) ∙ f.0.step) e in
      (f.0.tail, subst (λ z. Ends a z s f.0.tail) same f.0.ends, f.0.word ∙ ap (λ m. (m, b) ∷ f.0.tail) f.1))

  falling : ((q : ℕ) → Made Precedes (Ends a q s)) → (n : ℕ) → Made Precedes (Falls n)
  falling rest zero = made-none Precedes (Falls zero) (λ w f. omega (arith, f.below))
  falling rest (suc n) = made-join Precedes (FallsAt n) (Falls n) (Falls (suc n)) (at-mark rest n (step_of a p n b) refl) (falling rest n) before
      (λ w f. elim (cases_eq f.mark n) [ inl e ↦ inl (f, e) | inr ne ↦ inr (falls-below (suc n) n w f (omega (arith, f.below, ne))) ])
      (λ w f. f.0) (λ w f. falls-below n (suc n) w f (omega (arith, f.below)))
    where
      before : (x y : Marked) → FallsAt n x → Falls n y → Precedes x y
      before x y f h =
          let lt : h.mark < f.0.mark = omega (arith, h.below, f.1) in
          let heads : Precedes ((f.0.mark, b) ∷ f.0.tail) ((h.mark, b) ∷ h.tail) = inl lt in
          rw (f.0.word, h.word) heads

words : (a : DeterministicAutomaton) (limit : ℕ) → ((p m b q : ℕ) → step_of a p m b ≡ Some q → m < limit) → (s : List ℕ) (p : ℕ) → Made Precedes (Ends a p s)
words a limit low [] p = elim (cases_eq p 0) [
  | inl e ↦ record {
    list = [] ∷ [];
    sorted = (λ y c. absurd (none-in y c), tt);
    all = λ w h. subst (λ (z : Marked). Contains ([] ∷ []) z) (sym (bytes-none w h.0)) (in-first [] []);
    only = λ w c. rw (one_only [] w c, e) (refl, refl);
  }
  | inr ne ↦ made-none Precedes (Ends a p []) (λ w h. ne (same-state p 0 (Some p) refl (ap (reached a p) (sym (bytes-none w h.0)) ∙ h.1)))
]
words a limit low (b ∷ s) p =
    let k = falling a p b s (λ q. words a limit low s q) limit in
    record { list = k.list; sorted = k.sorted; all = λ w h. k.all w (to w h); only = λ w c. from w (k.only w c) }
  where
    to : (w : Marked) → Ends a p (b ∷ s) w → Falls a p b s limit w
    to w h =
        let k = path-parts (step_of a) p (b ∷ []) s w 0 h.0 h.1 in
        let one = one-letter (step_of a) p b k.middle k.left k.left_bytes k.left_ends in
        record { mark = one.mark; state = k.middle; tail = k.right; below = low p one.mark b k.middle one.step; word = k.joined ∙ ap (λ v. v ++ k.right) one.word; step = one.step; ends = (k.right_bytes, k.right_ends) }

    from : (w : Marked) → Falls a p b s limit w → Ends a p (b ∷ s) w
    from w f = (ap bytes_of f.word ∙ ap (λ l. b ∷ l) f.ends.0, ap (reached a p) f.word ∙ ap (onto (λ q. reached a q f.tail)) f.step ∙ f.ends.1)

-- the answers on a text of at most 2^48 bytes make a list
pub answers-exist : (a : DeterministicAutomaton) → IsDeterministic a → (s : List ℕ) → All (λ b. b < 256) s → length s ≤ 281474976710656 → (all : List Tuple) × AreAnswersOf a s all
answers-exist a auto s bytes short = make 65536 (low-mark a auto)
  where
    is : IsText s
    is = record { bytes = bytes; short = short }

    word-is : (w : Marked) → Ends a 0 (ended s) w → IsWord a.variables s w
    word-is w h = wellmarked a auto s is w 0 h.0 h.1

    read : (w : Marked) → (k : IsWord a.variables s w) → write_word 1 w (blanks a.variables) ≡ k.tuple
    read w k = ap (λ v. write_word 1 v (blanks a.variables)) k.word_is ∙ read-back a.variables k.tuple s k.tuple_is k.lies

    before : (x y : Marked) → IsWord a.variables s x → IsWord a.variables s y → Precedes x y → Comes (write_word 1 x (blanks a.variables)) (write_word 1 y (blanks a.variables))
    before x y kx ky h =
        let h' : Precedes (word_of kx.tuple s) (word_of ky.tuple s) = rw (kx.word_is, ky.word_is) at h in
        rw (read x kx, read y ky) ((order a.variables kx.tuple ky.tuple s kx.tuple_is ky.tuple_is ky.lies).0 h')

    make : (limit : ℕ) → ((p m b q : ℕ) → step_of a p m b ≡ Some q → m < limit) → (all : List Tuple) × AreAnswersOf a s all
    make limit low =
        let k = made-map Precedes Comes (Ends a 0 (ended s)) (IsMember a s) (λ w. write_word 1 w (blanks a.variables)) [] (words a limit low (ended s) 0) (λ x y hx hy h. before x y (word-is x hx) (word-is y hy) h)
        (λ w h. let k = word-is w h in subst (IsMember a s) (sym (read w k)) (member-from_accepts a auto s is k.tuple k.tuple_is.size (record { lies = k.lies; ends = ap (reached a 0) (sym k.word_is) ∙ h.1 })))
        (λ t m. (word_of t s, (word-bytes t s, (accepts-from_member a auto s is t m).ends), sym (read-back a.variables t s (tuple-of_member a auto s is t m) m.lies))) in
        (k.list, record { rising = sorted-pairs Comes k.list k.sorted; members = λ t. (k.only t, k.all t) })
