-- Entries of lengths, and one more long length.
use Rattle.std.proofs.Common.{◌≡◌, ℕ, ◌+◌, ◌-◌, ◌^◌, ◌<◌, ◌≤◌, inl, inr, List, [], ◌∷◌, ◌++◌, length, get_or, refl, ap, sym, ◌∙◌, arith, if◌then◌else◌}
use Rattle.std.proofs.lemmas.Bool.{cases_lt, lt-ltb, le-ltb}
use Rattle.std.proofs.lemmas.List.{map-append, get_or_push, get_or_append_left}
use Rattle.std.proofs.lemmas.List.Elements.{All-head, All-tail}
use Rattle.node_store.specs.Lengths.{length_of, lengths_of, IsEntry, AreEntries}

length-short : (long : List ℕ) (entry : ℕ) → entry < 2 ^ 31 → length_of long entry ≡ entry
length-short long entry low = ap (λ b. if b then entry else get_or long (entry - 2 ^ 31) 0) (lt-ltb entry (2 ^ 31) low)

length-long : (long : List ℕ) (entry : ℕ) → 2 ^ 31 ≤ entry → length_of long entry ≡ get_or long (entry - 2 ^ 31) 0
length-long long entry high = ap (λ b. if b then entry else get_or long (entry - 2 ^ 31) 0) (le-ltb entry (2 ^ 31) high)

-- an entry stands for the same length when there are more long ones
length-more : (long : List ℕ) (len entry : ℕ) → IsEntry long entry → length_of (long ++ len ∷ []) entry ≡ length_of long entry
length-more long len entry is = elim (cases_lt entry (2 ^ 31)) [
  | inl low ↦ length-short (long ++ len ∷ []) entry low ∙ sym (length-short long entry low)
  | inr high ↦ length-long (long ++ len ∷ []) entry high ∙ (get_or_append_left long (len ∷ []) 0 (entry - 2 ^ 31) (is high) ∙ sym (length-long long entry high))
]

lengths-more : (entries long : List ℕ) (len : ℕ) → AreEntries entries long → lengths_of entries (long ++ len ∷ []) ≡ lengths_of entries long
lengths-more [] long len are = refl
lengths-more (entry ∷ entries) long len are = λ i. length-more long len entry (All-head (IsEntry long) entry entries are) i ∷ lengths-more entries long len (All-tail (IsEntry long) entry entries are) i

pub lengths-long : (entries long : List ℕ) (len : ℕ) → AreEntries entries long → lengths_of (entries ++ (2 ^ 31 + length long) ∷ []) (long ++ len ∷ []) ≡ lengths_of entries long ++ len ∷ []
lengths-long entries long len are = map-append (length_of (long ++ len ∷ [])) entries ((2 ^ 31 + length long) ∷ []) ∙ λ i. lengths-more entries long len are i ++ last i ∷ []
  where
    index : 2 ^ 31 + length long - 2 ^ 31 ≡ length long
    index = omega arith

    last : length_of (long ++ len ∷ []) (2 ^ 31 + length long) ≡ len
    last = length-long (long ++ len ∷ []) (2 ^ 31 + length long) (omega arith) ∙ (ap (λ k. get_or (long ++ len ∷ []) k 0) index ∙ get_or_push long len 0 (length long) refl)
