-- Answers that are returned one after the other are the pages of the list of answers.
use Rattle.span_enum.proofs.Base.{AreAnswersOf, Comes, Contains, Contains-append_cases, Contains-append_left, Contains-append_right, DeterministicAutomaton, IsDeterministic, IsFirstMember, IsLeft, IsListed, IsMember, IsPage, IsRising}
use Rattle.span_enum.proofs.Base.{IsTuple, List, NoMemberLeft, None, Option, Some, Tuple, [], ap, append-nil, append_assoc, arith, false, get_or, get_or-append, get_or-append-add, get_or_default, here, inl, inr, irreflexive, le-ltb}
use Rattle.span_enum.proofs.Base.{length, length-append, lt-ltb, nat_lt, none-some, not, refl, same_Some, split-member, subst, sym, take, take-append_seam, take_all, total, transitive, true, ℕ, ◌++◌, ◌+◌, ◌∙◌, ◌∷◌, ◌≡◌, ◌≤◌, ◌⊎◌}
use Rattle.span_types.specs.Answers.{IsAfter}
use Rattle.span_enum.proofs.Tuples.{are-spans}

-- ---- rising lists
no-member : (t : Tuple) → Contains [] t → ⊥
no-member t c = omega (arith, c.1)

-- what is before another comes before it
in-order : (xs ys : List Tuple) (t u : Tuple) → IsRising (xs ++ ys) → Contains xs t → Contains ys u → Comes t u
in-order xs ys t u h a b =
    let size = length-append xs ys in
    let left : get_or (xs ++ ys) a.0 t ≡ t = get_or-append xs ys t a.0 a.1 ∙ a.2 in
    let right : get_or (xs ++ ys) (length xs + b.0) t ≡ u = get_or-append-add xs ys b.0 t ∙ get_or_default ys b.0 t u b.1 ∙ b.2 in
    rw (left, right) at (h a.0 (length xs + b.0) t (omega (arith, a.1)) (omega (arith, b.1, size)))

-- an item of a rising list comes before those after it
in-turn : (all prefix : List Tuple) (x : Tuple) (rest : List Tuple) (u : Tuple) → IsRising all → all ≡ prefix ++ x ∷ rest → Contains rest u → Comes x u
in-turn all prefix x rest u h e k =
    in-order (prefix ++ x ∷ []) rest x u (rw (append_assoc prefix (x ∷ []) rest, ← e) h) (Contains-append_right prefix (x ∷ []) x (here x [])) k

-- two tuples can't both come first
not-both-ways : (t u : Tuple) → length t ≡ length u → Comes t u → Comes u t → ⊥
not-both-ways t u e a b = irreflexive t (transitive t u t e a b)

-- a list, cut before the first tuple that comes after the cursor
record Cut (c : Tuple) (all seen ts : List Tuple) : Type 0 where
  prefix : List Tuple
  rest : List Tuple
  whole : ts ≡ prefix ++ rest
  passed : (t : Tuple) → Contains prefix t → Comes c t → ⊥
  left : (t : Tuple) → Contains rest t → Comes c t

cut-at : (c : Tuple) (all seen ts : List Tuple) → IsTuple c → IsRising all → all ≡ seen ++ ts → ((t : Tuple) → Contains all t → IsTuple t × (length t ≡ length c)) → Cut c all seen ts
cut-at c all seen [] ic h e valid = record { prefix = []; rest = []; whole = refl; passed = λ t k. absurd (no-member t k); left = λ t k. absurd (no-member t k) }
cut-at c all seen (x ∷ xs) ic h e valid =
    let one = valid x (rw e (Contains-append_right seen (x ∷ xs) x (here x xs))) in
    let k = cut-at c all (seen ++ x ∷ []) xs ic h (e ∙ sym (append_assoc seen (x ∷ []) xs)) valid in
    let later : (Comes c x → ⊥) → Cut c all seen (x ∷ xs) = λ never. record {
      prefix = x ∷ k.prefix;
      rest = k.rest;
      whole = ap (λ l. x ∷ l) k.whole;
      passed = λ t m b. elim (split-member x k.prefix t m) [ inl i ↦ never (subst (Comes c) (sym i) b) | inr n ↦ k.passed t n b ];
      left = k.left;
    } in
    elim (total c x ic one.0 (sym one.1)) [
      | inl b ↦ record {
        prefix = [];
        rest = x ∷ xs;
        whole = refl;
        passed = λ t m. absurd (no-member t m);
        left = λ t m. elim (split-member x xs t m) [ inl i ↦ subst (Comes c) i b | inr n ↦ transitive c x t (sym one.1) b (in-turn all seen x xs t h e n) ];
      }
      | inr not ↦ later (λ b. elim not [ inl i ↦ irreflexive x (subst (λ z. Comes z x) i b) | inr d ↦ not-both-ways c x (sym one.1) b d ])
    ]

-- ---- the list after a cursor
-- without a cursor it is the whole list
pub after-none : (all : List Tuple) → IsAfter all None all
after-none all = record { prefix = []; cut = refl; start = λ e. refl; passed = λ c t e m b. none-some c e; left = λ c t e m. absurd (none-some c e) }

-- a member is a tuple
pub member-tuple : (a : DeterministicAutomaton) (s : List ℕ) → IsDeterministic a → length s ≤ 281474976710656 → (t : Tuple) → IsMember a s t → IsTuple t
member-tuple a s auto short t m = record { few = omega (arith, m.size, auto.few_variables); spans = are-spans (length s) t short m.lies }

-- with a cursor it is a list after those that don't come after it
after-some : (all prefix rest : List Tuple) (c : Tuple) → all ≡ prefix ++ rest → ((t : Tuple) → Contains prefix t → Comes c t → ⊥) → ((t : Tuple) → Contains rest t → Comes c t) → IsAfter all (Some c) rest
after-some all prefix rest c whole passed left = record {
  prefix = prefix;
  cut = whole;
  start = λ e. absurd (none-some c (sym e));
  passed = λ d t e m b. passed t m (subst (λ z. Comes z t) (sym (same_Some c d e)) b);
  left = λ d t e m. subst (λ z. Comes z t) (same_Some c d e) (left t m);
}

module _ (a : DeterministicAutomaton) (s : List ℕ) (all : List Tuple) (are : AreAnswersOf a s all) where
  size-of : (t : Tuple) → Contains all t → length t ≡ a.variables
  size-of t k = ((are.members t).0 k).size

  -- and the list after any tuple of the variables is a part of it
  pub after-tuple : (c : Tuple) → IsTuple c → length c ≡ a.variables → ((t : Tuple) → IsMember a s t → IsTuple t) → (rest : List Tuple) × IsAfter all (Some c) rest
  after-tuple c ic size valid =
      let k = cut-at c all [] all ic are.rising refl (λ t m. (valid t ((are.members t).0 m), size-of t m ∙ sym size)) in
      (k.rest, after-some all k.prefix k.rest c k.whole k.passed k.left)

  member-in : (cursor : Option Tuple) (rest : List Tuple) (t : Tuple) → IsAfter all cursor rest → Contains rest t → IsMember a s t
  member-in cursor rest t h k = (are.members t).0 (rw h.cut (Contains-append_right h.prefix rest t k))

  left-in : (cursor : Option Tuple) (rest : List Tuple) (t : Tuple) → IsAfter all cursor rest → Contains rest t → IsLeft cursor t
  left-in None rest t h k = tt
  left-in (Some c) rest t h k = h.left c t refl k

  rest-in : (cursor : Option Tuple) (rest : List Tuple) (t : Tuple) → (h : IsAfter all cursor rest) → Contains h.prefix t → IsLeft cursor t → ⊥
  rest-in None rest t h m left = no-member t (subst (λ l. Contains l t) (h.start refl) m)
  rest-in (Some c) rest t h m left = h.passed c t refl m left

  -- where no member is left, neither is a part of the list
  pub none-after : (cursor : Option Tuple) (rest : List Tuple) → IsAfter all cursor rest → NoMemberLeft a s cursor → rest ≡ []
  none-after cursor [] h none = refl
  none-after cursor (x ∷ xs) h none = absurd (none x (member-in cursor (x ∷ xs) x h (here x xs)) (left-in cursor (x ∷ xs) x h (here x xs)))

  -- the first member that is left is the first of the list after the cursor
  pub first-after : (cursor : Option Tuple) (rest : List Tuple) (u : Tuple) → IsAfter all cursor rest → IsFirstMember a s cursor u → (more : List Tuple) × (rest ≡ u ∷ more)
  first-after cursor rest u h f = by rest h (Contains-append_cases h.prefix rest u (subst (λ l. Contains l u) h.cut ((are.members u).1 f.member)))
    where
      by : (rest : List Tuple) → (h : IsAfter all cursor rest) → Contains h.prefix u ⊎ Contains rest u → (more : List Tuple) × (rest ≡ u ∷ more)
      by rest h (inl m) = absurd (rest-in cursor rest u h m f.left)
      by [] h (inr k) = absurd (no-member u k)
      by (x ∷ xs) h (inr k) = (xs, ap (λ z. z ∷ xs) (head (split-member x xs u k)))
        where
          is : IsMember a s x
          is = member-in cursor (x ∷ xs) x h (here x xs)

          head : (x ≡ u) ⊎ Contains xs u → x ≡ u
          head (inl e) = e
          head (inr m) = elim (f.least x is (left-in cursor (x ∷ xs) x h (here x xs))) [
            | inl e ↦ e
            | inr b ↦ absurd (not-both-ways u x (f.member.size ∙ sym is.size) b (in-turn all h.prefix x xs u are.rising h.cut m))
          ]

  -- and the list after it is the rest
  pub after-first : (cursor : Option Tuple) (u : Tuple) (more : List Tuple) → IsAfter all cursor (u ∷ more) → IsAfter all (Some u) more
  after-first cursor u more h =
      after-some all (h.prefix ++ u ∷ []) more u (h.cut ∙ sym (append_assoc h.prefix (u ∷ []) more))
      (λ t m b. elim (Contains-append_cases h.prefix (u ∷ []) t m) [
        | inl k ↦
            let size = size-of t (rw h.cut (Contains-append_left h.prefix (u ∷ more) t k)) in
            not-both-ways u t ((member-in cursor (u ∷ more) u h (here u more)).size ∙ sym size) b (in-order h.prefix (u ∷ more) t u (subst IsRising h.cut are.rising) k (here u more))
        | inr k ↦ elim (split-member u [] t k) [ inl e ↦ irreflexive u (subst (Comes u) (sym e) b) | inr n ↦ no-member t n ]
      ])
      (λ t m. in-turn all h.prefix u more t are.rising h.cut m)

  -- ---- a loop over `next`
  pub listed-start : (cursor : Option Tuple) (rest : List Tuple) → IsAfter all cursor rest → IsListed all cursor [] cursor
  listed-start cursor rest h = record { rest = rest; whole = h; after = h }

  pub listed-next : (from to : Option Tuple) (given : List Tuple) (u : Tuple) → IsListed all from given to → IsFirstMember a s to u → IsListed all from (given ++ u ∷ []) (Some u)
  listed-next from to given u h f =
      let k = first-after to h.rest u h.after f in
      record {
        rest = k.0;
        whole = subst (IsAfter all from) (ap (λ l. given ++ l) k.1 ∙ sym (append_assoc given (u ∷ []) k.0)) h.whole;
        after = after-first to u k.0 (subst (IsAfter all to) k.1 h.after);
      }

  -- a page that has all that was left
  pub page-whole : (from to : Option Tuple) (given : List Tuple) (n : ℕ) → IsListed all from given to → NoMemberLeft a s to → length given ≤ n → IsPage all from n given false
  page-whole from to given n h none le =
      let e = none-after to h.rest h.after none in
      record {
        rest = given ++ h.rest;
        after = h.whole;
        first = sym (ap (λ l. take n (given ++ l)) e ∙ ap (take n) (append-nil given) ∙ take_all n given le);
        more_left = sym (ap (λ l. nat_lt n (length (given ++ l))) e ∙ ap (λ l. nat_lt n (length l)) (append-nil given) ∙ le-ltb n (length given) le);
      }

  -- a full page with more left
  pub page-full : (from to : Option Tuple) (given : List Tuple) (u : Tuple) → IsListed all from given to → IsFirstMember a s to u → IsPage all from (length given) given true
  page-full from to given u h f =
      let k = first-after to h.rest u h.after f in
      record {
        rest = given ++ h.rest;
        after = h.whole;
        first = sym (take-append_seam given h.rest);
        more_left = sym (lt-ltb (length given) (length (given ++ h.rest)) (omega (arith, length-append given h.rest, ap length k.1)));
      }
