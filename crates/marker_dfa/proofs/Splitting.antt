-- Classes of bytes that are cut.
use Rattle.std.proofs.Common.{◌≡◌, ℕ, ◌+◌, ◌<◌, ◌≤◌, ◌⊎◌, inl, inr, refl, sym, ap, subst, ◌∙◌, arith, Bool, false, List, [], ◌∷◌, ◌++◌, length, length-append, Some, Contains, slice_get, slice_index_or}
use Rattle.std.proofs.lemmas.Option.{slice_get-get_or, get_or_from_slice_get}
use Rattle.marker_dfa.specs.declared.classes.ByteClasses.{ByteClasses}
use Rattle.marker_dfa.specs.Making.{AreClasses, Agrees, IsFiner, IsFit, IsSplitUpTo}
use Rattle.marker_dfa.proofs.Lists.{get_push, get_within}

-- the first n bytes fit
abbrev pub FitsUpTo : ByteClasses → List Bool → ℕ → Type 0
FitsUpTo classes letters n = (b c f : ℕ) → b < n → slice_get classes.of.items b ≡ Some c → slice_get classes.firsts.items c ≡ Some f → slice_index_or letters b false ≡ slice_index_or letters f false

before : (b n : ℕ) → b < n + 1 → (b < n) ⊎ (b ≡ n)
before b n l = grind arith

pub fits_more : (classes : ByteClasses) (letters : List Bool) (n : ℕ) → FitsUpTo classes letters n → slice_index_or letters n false ≡ slice_index_or letters (slice_index_or classes.firsts.items (slice_index_or classes.of.items n 0) 0) false → FitsUpTo classes letters (n + 1)
fits_more classes letters n h e b c f lt g k = go (before b n lt)
  where
    go : (b < n) ⊎ (b ≡ n) → slice_index_or letters b false ≡ slice_index_or letters f false
    go (inl l) = h b c f l g k
    go (inr l) =
        let x : slice_index_or classes.of.items n 0 ≡ c = ap (λ j. slice_index_or classes.of.items j 0) (sym l) ∙ get_or_from_slice_get classes.of.items b c 0 g in
        let y : slice_index_or classes.firsts.items (slice_index_or classes.of.items n 0) 0 ≡ f = ap (λ j. slice_index_or classes.firsts.items j 0) x ∙ get_or_from_slice_get classes.firsts.items c f 0 k in
        ap (λ j. slice_index_or letters j false) l ∙ e ∙ ap (λ j. slice_index_or letters j false) y

pub fits_all : (classes : ByteClasses) (letters : List Bool) (n : ℕ) → 256 ≤ n → AreClasses classes → length letters ≡ 256 → FitsUpTo classes letters n → IsFit classes letters
fits_all classes letters n le a size h = record { size = size; same = λ b c f g k. h b c f (omega (arith, get_within classes.of.items b c g, a.bytes, le)) g k }

pub split_start : (classes s : ByteClasses) (letters : List Bool) → s.of.items ≡ [] → s.firsts.items ≡ [] → IsSplitUpTo classes letters 0 s
split_start classes s letters e g = record {
  bytes = ap length e;
  few = omega (arith, ap length g);
  within = λ b c h. absurd (none b c (subst (λ (l : List ℕ). slice_get l b ≡ Some c) e h));
  firsts = λ c f h. absurd (none c f (subst (λ (l : List ℕ). slice_get l c ≡ Some f) g h));
  goes = λ b c f h k. absurd (none b c (subst (λ (l : List ℕ). slice_get l b ≡ Some c) e h));
}
  where
    none : (q x : ℕ) → slice_get [] q ≡ Some x → ⊥
    none q x h = cc

itself : (classes : ByteClasses) (letters : List Bool) (b : ℕ) → Agrees classes letters b b
itself classes letters b = record { class = refl; letter = refl }

-- one more byte, which begins a class
pub split_new : (classes s t : ByteClasses) (letters : List Bool) (n p : ℕ) → IsSplitUpTo classes letters n s → p ≡ length s.firsts.items → t.of.items ≡ s.of.items ++ p ∷ [] → t.firsts.items ≡ s.firsts.items ++ n ∷ [] → IsSplitUpTo classes letters (n + 1) t
split_new classes s t letters n p h e o g = record {
  bytes = omega (arith, ap length o, length-append s.of.items (p ∷ []), h.bytes);
  few = omega (arith, ap length g, length-append s.firsts.items (n ∷ []), h.few);
  within = λ b c k. within' b c (of_cases b c k);
  firsts = λ c f k. firsts' c f (first_cases c f k);
  goes = λ b c f k l. goes' b c f (of_cases b c k) (first_cases c f l);
}
  where
    of_cases : (b c : ℕ) → slice_get t.of.items b ≡ Some c → (slice_get s.of.items b ≡ Some c) ⊎ ((b ≡ length s.of.items) × (p ≡ c))
    of_cases b c k = get_push s.of.items p c b (sym (ap (λ l. slice_get l b) o) ∙ k)

    first_cases : (c f : ℕ) → slice_get t.firsts.items c ≡ Some f → (slice_get s.firsts.items c ≡ Some f) ⊎ ((c ≡ length s.firsts.items) × (n ≡ f))
    first_cases c f k = get_push s.firsts.items n f c (sym (ap (λ l. slice_get l c) g) ∙ k)

    within' : (b c : ℕ) → (slice_get s.of.items b ≡ Some c) ⊎ ((b ≡ length s.of.items) × (p ≡ c)) → c < length t.firsts.items
    within' b c (inl k) = omega (arith, h.within b c k, ap length g, length-append s.firsts.items (n ∷ []))
    within' b c (inr k) = omega (arith, k.1, e, ap length g, length-append s.firsts.items (n ∷ []))

    firsts' : (c f : ℕ) → (slice_get s.firsts.items c ≡ Some f) ⊎ ((c ≡ length s.firsts.items) × (n ≡ f)) → f < n + 1
    firsts' c f (inl k) = omega (arith, h.firsts c f k)
    firsts' c f (inr k) = omega (arith, k.1)

    goes' : (b c f : ℕ) → (slice_get s.of.items b ≡ Some c) ⊎ ((b ≡ length s.of.items) × (p ≡ c)) → (slice_get s.firsts.items c ≡ Some f) ⊎ ((c ≡ length s.firsts.items) × (n ≡ f)) → Agrees classes letters b f
    goes' b c f (inl k) (inl l) = h.goes b c f k l
    goes' b c f (inl k) (inr l) = absurd (omega (arith, h.within b c k, l.0))
    goes' b c f (inr k) (inl l) = absurd (omega (arith, get_within s.firsts.items c f l, k.1, e))
    goes' b c f (inr k) (inr l) = let same : b ≡ f = k.0 ∙ h.bytes ∙ l.1 in subst (λ (j : ℕ). Agrees classes letters b j) same (itself classes letters b)

-- one more byte, which goes with the first one of a class
pub split_old : (classes s t : ByteClasses) (letters : List Bool) (n p : ℕ) → IsSplitUpTo classes letters n s → p < length s.firsts.items → ((f : ℕ) → slice_get s.firsts.items p ≡ Some f → Agrees classes letters n f) → t.of.items ≡ s.of.items ++ p ∷ [] → t.firsts.items ≡ s.firsts.items → IsSplitUpTo classes letters (n + 1) t
split_old classes s t letters n p h lt with_p o g = record {
  bytes = omega (arith, ap length o, length-append s.of.items (p ∷ []), h.bytes);
  few = omega (arith, ap length g, h.few);
  within = λ b c k. within' b c (of_cases b c k);
  firsts = λ c f k. (let x = h.firsts c f (sym (ap (λ l. slice_get l c) g) ∙ k) in omega (arith, x));
  goes = λ b c f k l. goes' b c f (of_cases b c k) (sym (ap (λ z. slice_get z c) g) ∙ l);
}
  where
    of_cases : (b c : ℕ) → slice_get t.of.items b ≡ Some c → (slice_get s.of.items b ≡ Some c) ⊎ ((b ≡ length s.of.items) × (p ≡ c))
    of_cases b c k = get_push s.of.items p c b (sym (ap (λ l. slice_get l b) o) ∙ k)

    within' : (b c : ℕ) → (slice_get s.of.items b ≡ Some c) ⊎ ((b ≡ length s.of.items) × (p ≡ c)) → c < length t.firsts.items
    within' b c (inl k) = omega (arith, h.within b c k, ap length g)
    within' b c (inr k) = omega (arith, k.1, lt, ap length g)

    goes' : (b c f : ℕ) → (slice_get s.of.items b ≡ Some c) ⊎ ((b ≡ length s.of.items) × (p ≡ c)) → slice_get s.firsts.items c ≡ Some f → Agrees classes letters b f
    goes' b c f (inl k) l = h.goes b c f k l
    goes' b c f (inr k) l =
        let same : n ≡ b = sym h.bytes ∙ sym k.0 in
        subst (λ (j : ℕ). Agrees classes letters j f) same (with_p f (ap (slice_get s.firsts.items) k.1 ∙ l))

pub split_classes : (classes s : ByteClasses) (letters : List Bool) → IsSplitUpTo classes letters 256 s → AreClasses s
split_classes classes s letters h = record { bytes = h.bytes; few = h.few; within = h.within; firsts = h.firsts }

pub split_fit : (classes s : ByteClasses) (letters : List Bool) → length letters ≡ 256 → IsSplitUpTo classes letters 256 s → IsFit s letters
split_fit classes s letters size h = record { size = size; same = λ b c f k l. (h.goes b c f k l).letter }

pub split_finer : (classes s : ByteClasses) (letters : List Bool) → AreClasses classes → IsSplitUpTo classes letters 256 s → IsFiner classes s
split_finer classes s letters a h other fit = record { size = fit.size; same = λ b c f k l. same b c f k l }
  where
    same : (b c f : ℕ) → slice_get s.of.items b ≡ Some c → slice_get s.firsts.items c ≡ Some f → slice_index_or other b false ≡ slice_index_or other f false
    same b c f k l =
        let w = h.goes b c f k l in
        let lt : b < length classes.of.items = omega (arith, get_within s.of.items b c k, h.bytes, a.bytes) in
        let class = slice_index_or classes.of.items b 0 in
        let at_b : slice_get classes.of.items b ≡ Some class = slice_get-get_or classes.of.items b 0 lt in
        let at_f : slice_get classes.of.items f ≡ Some class = sym w.class ∙ at_b in
        let first = slice_index_or classes.firsts.items class 0 in
        let at_first : slice_get classes.firsts.items class ≡ Some first = slice_get-get_or classes.firsts.items class 0 (a.within b class at_b) in
        fit.same b class first at_b at_first ∙ sym (fit.same f class first at_f at_first)

-- what holds while the first n byte sets are passed
pub record FitsLetters (all : List (List Bool)) (n : ℕ) (classes : ByteClasses) : Type 0 where
  pub classes_are : AreClasses classes
  pub fit : (j : ℕ) (letters : List Bool) → j < n → slice_get all j ≡ Some letters → IsFit classes letters

-- each of the byte sets fits, once all were gone through
pub sets_fit : (all : List (List Bool)) (n : ℕ) (classes : ByteClasses) → FitsLetters all n classes → length all ≤ n → (letters : List Bool) → Contains all letters → IsFit classes letters
sets_fit all n classes h le letters k = h.fit k.0 letters (omega (arith, k.1, le)) (slice_get-get_or all k.0 letters k.1 ∙ ap Some k.2)
