-- The entries of slots, when one slot is written.
use Rattle.std.proofs.Common.{◌≡◌, ◌∙◌, ◌++◌, take, ◌⊎◌, inl, inr, ℕ, zero, suc, ◌+◌, ◌<◌, true, refl, ap, sym, subst, arith, List, [], ◌∷◌, length, replicate, set, nat_lt, Option, Some, None, Contains, get_or, slice_get}
use Rattle.std.proofs.lemmas.Option.{slice_get_read}
use Rattle.std.proofs.lemmas.List.{take-append-le, take_all}
use Rattle.std.proofs.lemmas.Bool.{ltb-true}
use Rattle.pair_memo.specs.Entries.{Entry, entries_of}

Contains-head : (e : Entry) (es : List Entry) → Contains (e ∷ es) e
Contains-head e es = (0, omega arith, refl)

Contains-tail : (f : Entry) (es : List Entry) (e : Entry) → Contains es e → Contains (f ∷ es) e
Contains-tail f es e c = let within = c.1 in (suc c.0, omega arith, c.2)

cons_cases : (f : Entry) (es : List Entry) (e : Entry) (k : ℕ) → k < length (f ∷ es) → get_or (f ∷ es) k e ≡ e → (f ≡ e) ⊎ Contains es e
cons_cases f es e zero p is = inl is
cons_cases f es e (suc k) p is = inr (k, omega arith, is)

Contains-cons : (f : Entry) (es : List Entry) (e : Entry) → Contains (f ∷ es) e → (f ≡ e) ⊎ Contains es e
Contains-cons f es e c = cons_cases f es e c.0 c.1 c.2

-- the entry of a slot
pub entries-at : (slots : List (Option Entry)) (i : ℕ) (e : Entry) → slice_get slots i ≡ Some (Some e) → Contains (entries_of slots) e
entries-at [] i e h = absurd cc
entries-at (None ∷ slots) zero e h = absurd cc
entries-at (Some f ∷ slots) zero e h = let same : f ≡ e = cc in subst (Contains (f ∷ entries_of slots)) same (Contains-head f (entries_of slots))
entries-at (None ∷ slots) (suc i) e h = entries-at slots i e h
entries-at (Some f ∷ slots) (suc i) e h = Contains-tail f (entries_of slots) e (entries-at slots i e h)

-- a written slot has its new entry, and the others have theirs
pub entries-set : (slots : List (Option Entry)) (i : ℕ) (n e : Entry) → Contains (entries_of (set slots i (Some n))) e → Contains (entries_of slots) e ⊎ (e ≡ n)
entries-set [] i n e h = inl h
entries-set (None ∷ slots) zero n e h = elim (Contains-cons n (entries_of slots) e h) [ inl same ↦ inr (sym same) | inr old ↦ inl old ]
entries-set (Some f ∷ slots) zero n e h = elim (Contains-cons n (entries_of slots) e h) [ inl same ↦ inr (sym same) | inr old ↦ inl (Contains-tail f (entries_of slots) e old) ]
entries-set (None ∷ slots) (suc i) n e h = entries-set slots i n e h
entries-set (Some f ∷ slots) (suc i) n e h = elim (Contains-cons f (entries_of (set slots i (Some n))) e h) [
  | inl same ↦ inl (subst (Contains (f ∷ entries_of slots)) same (Contains-head f (entries_of slots)))
  | inr rest ↦ elim (entries-set slots i n e rest) [ inl old ↦ inl (Contains-tail f (entries_of slots) e old) | inr new ↦ inr new ]
]

-- a written slot that had none has one more
pub length-new : (slots : List (Option Entry)) (i : ℕ) (n : Entry) → i < length slots → get_or slots i None ≡ None → length (entries_of (set slots i (Some n))) ≡ length (entries_of slots) + 1
length-new [] i n lt is = absurd (omega (arith, lt))
length-new (None ∷ slots) zero n lt is = omega arith
length-new (Some f ∷ slots) zero n lt is = absurd cc
length-new (None ∷ slots) (suc i) n lt is = length-new slots i n (omega (arith, lt)) is
length-new (Some f ∷ slots) (suc i) n lt is = let on = length-new slots i n (omega (arith, lt)) is in omega (arith, on)

-- a written slot that had an entry has one
pub length-same : (slots : List (Option Entry)) (i : ℕ) (n f : Entry) → i < length slots → get_or slots i None ≡ Some f → length (entries_of (set slots i (Some n))) ≡ length (entries_of slots)
length-same [] i n f lt is = absurd (omega (arith, lt))
length-same (None ∷ slots) zero n f lt is = absurd cc
length-same (Some g ∷ slots) zero n f lt is = refl
length-same (None ∷ slots) (suc i) n f lt is = length-same slots i n f (omega (arith, lt)) is
length-same (Some g ∷ slots) (suc i) n f lt is = ap suc (length-same slots i n f (omega (arith, lt)) is)

-- what is read from a slot
pub entry-read : (slots : List (Option Entry)) (i : ℕ) (x : Option Entry) (first second number left right : ℕ) → true ≡ nat_lt i (length slots) → x ≡ get_or slots i x → x ≡ Some ((first, second), number) → first ≡ left → second ≡ right
    → Contains (entries_of slots) ((left, right), number)
entry-read slots i x first second number left right lt at is l r =
    let make : ℕ → ℕ → Entry = λ m n. ((m, n), number) in
    let within : i < length slots = ltb-true i (length slots) (sym lt) in
    let read : slice_get slots i ≡ Some x = slice_get_read slots (length slots) i x refl within at in
    let found : Contains (entries_of slots) (make first second) = entries-at slots i ((first, second), number) (read ∙ ap (λ (o : Option Entry). Some o) is) in
    subst (λ n. Contains (entries_of slots) (make left n)) r (subst (λ m. Contains (entries_of slots) (make m second)) l found)

-- slots without entries
pub entries-none : (n : ℕ) → entries_of (replicate n None) ≡ []
entries-none zero = refl
entries-none (suc n) = entries-none n

-- what is written to a part that is the whole
pub whole : (new rest : List (Option Entry)) (n : ℕ) → length new ≡ n → take n (new ++ rest) ≡ new
whole new rest n same = take-append-le n new rest (omega (arith, same)) ∙ take_all n new (omega (arith, same))

-- new slots
pub entries-new : (old new : List (Option Entry)) (n k : ℕ) → old ≡ [] → new ≡ take n old ++ replicate k None → entries_of new ≡ []
entries-new [] new zero k none is = ap entries_of is ∙ entries-none k
entries-new [] new (suc n) k none is = ap entries_of is ∙ entries-none k
entries-new (o ∷ old) new n k none is = absurd cc

abbrev entry : ℕ → ℕ → ℕ → Entry
entry x y z = ((x, y), z)

-- entries of the same numbers
pub same-entry : (a b c d m n : ℕ) → a ≡ b → c ≡ d → m ≡ n → entry a c m ≡ entry b d n
same-entry a b c d m n first second number = ap (λ x. entry x c m) first ∙ (ap (λ y. entry b y m) second ∙ ap (entry b d) number)
