-- A `write` has exactly one outcome.
use Rattle.std.proofs.Common.{◌≡◌, ◌<◌, ℕ, Bool, true, false, List, Option, Some, None, length, refl, sym, ◌∙◌, ap, subst, inl, inr, arith}
use Rattle.std.specs.Str.{bytes_eq}
use Rattle.std.proofs.lemmas.Slice.Eq.{bytes_eq-Decides}
use Rattle.edge_io.specs.Files.{AllowsWrites, DeniesWrites, file_of}
use Rattle.span_language.proofs.Names.{Accepted, AreSameFiles, Carries, Files, IsPut, IsUnwritten, load_size, Quiet, Refusal, refusal_text, Refused, Told}
use Rattle.span_language.proofs.Names.{value_of, World, WriteFile, WritesFile, WritesOnce, written_text}
use Rattle.span_language.proofs.Values.{no_value, one_value, over}

-- two puts of the same bytes to the same file
same_put : (old : Files) (name bytes : List ℕ) (new other : Option Files) → IsPut (Some old) name bytes new → IsPut (Some old) name bytes other → AreSameFiles new other
same_put old name bytes None other h k = absurd h.others
same_put old name bytes (Some a) None h k = absurd k.others
same_put old name bytes (Some a) (Some b) h k = (λ file. by file (bytes_eq file name) refl, h.others.1 ∙ sym k.others.1, h.others.2 ∙ sym k.others.2)
  where
    by : (file : List ℕ) (same : Bool) → bytes_eq file name ≡ same → file_of a file ≡ file_of b file
    by file true e =
        let is = (bytes_eq-Decides file name).0 e in
        ap (file_of a) is ∙ h.held ∙ sym k.held ∙ ap (file_of b) (sym is)
    by file false e = h.others.0 file e ∙ sym (k.others.0 file e)

same_files : (files : Option Files) → AreSameFiles files files
same_files None = tt
same_files (Some files) = (λ name. refl, refl, refl)

module _ (old : World) (files : Files) (number : ℕ) (name file : List ℕ) (are : old.files ≡ Some files) where
  both_written : (r s : List ℕ) (n m : World) → WritesFile old name file r n → WritesFile old name file s m → WritesOnce Accepted Accepted r s n m
  both_written r s n m h k =
      let same = one_value (value_of old.state.documents name) h.text k.text h.document k.document in
      record {
        outcome = refl;
        output = h.replied ∙ ap (λ (z : List ℕ). written_text (length z)) same ∙ sym k.replied;
        state = h.state ∙ sym k.state;
        files = same_put files file h.text n.files m.files (subst (λ z. IsPut z file h.text n.files) are h.put)
            (subst (λ z. IsPut (Some files) file z m.files) (sym same) (subst (λ z. IsPut z file k.text m.files) are k.put));
      }

  not_both_written : (r : List ℕ) (n : World) (why : Refusal) → WritesFile old name file r n → IsUnwritten old name file why → ⊥
  not_both_written r n why h (inl k) = no_value (value_of old.state.documents name) h.text h.document k.0
  not_both_written r n why h (inr (text, is, inl k)) =
      let same = one_value (value_of old.state.documents name) h.text text h.document is in
      over h.short (subst (λ z. load_size < length z) (sym same) k.0)
  not_both_written r n why h (inr (text, is, inr k)) = allowed (subst (λ z. AllowsWrites z file) are h.writable) (subst (λ z. DeniesWrites z file) are k.1)
    where
      allowed : AllowsWrites (Some files) file → DeniesWrites (Some files) file → ⊥
      allowed a d = grind arith

  one_unwritten : (why other : Refusal) → IsUnwritten old name file why → IsUnwritten old name file other → why ≡ other
  one_unwritten why other h k = grind arith

  both_refused : (r s : List ℕ) (n m : World) (why other : Refusal) → IsUnwritten old name file why → r ≡ refusal_text number why → n ≡ old
      → IsUnwritten old name file other → s ≡ refusal_text number other → m ≡ old → WritesOnce Refused Refused r s n m
  both_refused r s n m why other h reply is k reply2 is2 = record {
    outcome = refl;
    output = reply ∙ ap (refusal_text number) (one_unwritten why other h k) ∙ sym reply2;
    state = ap (λ (z : World). z.state) (is ∙ sym is2);
    files = subst (λ z. AreSameFiles n.files z) (ap (λ (z : World). z.files) (is ∙ sym is2)) (same_files n.files);
  }

  pub one_write : (told told2 : Told) (r s : List ℕ) (n m : World) → Carries old number (WriteFile name file) told r n → Carries old number (WriteFile name file) told2 s m
      → WritesOnce told told2 r s n m
  one_write Quiet told2 r s n m h k = let bad : ⊥ = cc (h.0) in absurd bad
  one_write told Quiet r s n m h k = let bad : ⊥ = cc (k.0) in absurd bad
  one_write Accepted Accepted r s n m h k = both_written r s n m h k
  one_write Accepted Refused r s n m h (why, k, reply, is) = absurd (not_both_written r n why h k)
  one_write Refused Accepted r s n m (why, h, reply, is) k = absurd (not_both_written s m why k h)
  one_write Refused Refused r s n m (why, h, reply, is) (other, k, reply2, is2) = both_refused r s n m why other h reply is k reply2 is2
