-- Marks at the numbers of tables.
use Rattle.std.proofs.Common.{◌≡◌, ◌≢◌, ℕ, zero, suc, ◌+◌, ◌<◌, ◌==◌, ◌||◌, inl, inr, Bool, true, false, cond, List, [], ◌∷◌, ◌++◌, length, get_or, set, take, get_or-set_same, get_or-set_other, refl, ap, sym, subst, ◌∙◌, arith, eq-eqb}
use Rattle.std.proofs.lemmas.Bool.{cases_eq, ne_eqb}
use Rattle.std.proofs.lemmas.List.{take_more}
use Rattle.std.proofs.lemmas.List.FromFn.{get_or-map-range_with_len}
use Rattle.slp_model.specs.Kept.{Keeps}
use Rattle.distinct_items.specs.Renumbering.{flags_of, is_used, used_of}

or-assoc : (a b c : Bool) → ((a || b) || c) ≡ (a || (b || c))
or-assoc true b c = refl
or-assoc false b c = refl

or-none : (a : Bool) → (a || false) ≡ a
or-none true = refl
or-none false = refl

used-push : (ns : List ℕ) (n k : ℕ) → is_used (ns ++ n ∷ []) k ≡ (is_used ns k || (n == k))
used-push [] n k = or-none (n == k)
used-push (m ∷ ns) n k = ap (λ b. (m == k) || b) (used-push ns n k) ∙ sym (or-assoc (m == k) (is_used ns k) (n == k))

or-true : (a : Bool) → (a || true) ≡ true
or-true true = refl
or-true false = refl

-- the first i numbers are marked
abbrev pub AreMarked : List ℕ → List ℕ → Type 0
AreMarked ns marks = (k : ℕ) → get_or marks k 0 ≡ cond (is_used ns k) 1 0

pub marked-more : (ns : List ℕ) (i : ℕ) (marks : List ℕ) → i < length ns → get_or ns i 0 < length marks → AreMarked (take i ns) marks → AreMarked (take (i + 1) ns) (set marks (get_or ns i 0) 1)
marked-more ns i marks lt within are = λ k.
    let n = get_or ns i 0 in
    let more : is_used (take (i + 1) ns) k ≡ (is_used (take i ns) k || (n == k)) = ap (λ xs. is_used xs k) (take_more ns i 0 lt) ∙ used-push (take i ns) n k in
    elim (cases_eq k n) [
      | inl e ↦
          let same : (n == k) ≡ true = eq-eqb n k (sym e) in
          subst (λ j. get_or (set marks n 1) j 0 ≡ 1) (sym e) (get_or-set_same marks n 1 0 within)
          ∙ ap (λ b. cond b 1 0) (sym (more ∙ (ap (λ b. is_used (take i ns) k || b) same ∙ or-true (is_used (take i ns) k))))
      | inr ne ↦
          let apart : (n == k) ≡ false = ne_eqb n k (λ e. ne (sym e)) in
          get_or-set_other marks n k 1 0 ne ∙ are k
          ∙ ap (λ b. cond b 1 0) (sym (more ∙ (ap (λ b. is_used (take i ns) k || b) apart ∙ or-none (is_used (take i ns) k))))
    ]

-- a number of the list is used
pub used-at : (ns : List ℕ) (i : ℕ) → i < length ns → is_used ns (get_or ns i 0) ≡ true
used-at [] i lt = absurd (omega arith)
used-at (n ∷ ns) zero lt = ap (λ b. b || is_used ns n) (eq-eqb n n refl)
used-at (n ∷ ns) (suc i) lt = ap (λ b. (n == get_or ns i 0) || b) (used-at ns i (omega arith)) ∙ or-true (n == get_or ns i 0)

pub used-of-at : (ns : List ℕ) (count k : ℕ) → k < count → get_or (used_of ns count) k false ≡ is_used ns k
used-of-at ns count k lt = get_or-map-range_with_len (is_used ns) 0 count k k false lt (omega arith)

flag : (m : ℕ) (b : Bool) → m ≡ cond b 1 0 → cond (m == 0) false true ≡ b
flag m true e = rw e refl
flag m false e = rw e refl

pub flags-at : (marks : List ℕ) (k : ℕ) → get_or (flags_of marks) k false ≡ cond (get_or marks k 0 == 0) false true
flags-at [] k = refl
flags-at (m ∷ marks) zero = refl
flags-at (m ∷ marks) (suc k) = flags-at marks k

-- so the flags are those of the used numbers
pub flags-used : (ns marks : List ℕ) (count k : ℕ) → AreMarked ns marks → k < count → get_or (flags_of marks) k false ≡ get_or (used_of ns count) k false
flags-used ns marks count k are lt = flags-at marks k ∙ (flag (get_or marks k 0) (is_used ns k) (are k) ∙ sym (used-of-at ns count k lt))

pub flag-set : (marks : List ℕ) (k : ℕ) → get_or marks k 0 ≢ 0 → Keeps (flags_of marks) k
flag-set marks k ne = flags-at marks k ∙ ap (λ b. cond b false true) (ne_eqb (get_or marks k 0) 0 ne)

pub flag-none : (marks : List ℕ) (k : ℕ) → get_or marks k 0 ≡ 0 → get_or (flags_of marks) k false ≡ false
flag-none marks k e = flags-at marks k ∙ ap (λ b. cond b false true) (eq-eqb (get_or marks k 0) 0 e)

pub not-both : {P : Type 0} (x : Bool) → x ≡ true → x ≡ false → P
not-both x h k = cc
