-- Files by name, and the list of them in memory.
use Rattle.std.proofs.Common.{◌≡◌, ℕ, zero, suc, ◌+◌, ◌≤◌, ◌<◌, Bool, true, false, cond, not, ◌||◌, ltb, List, [], ◌∷◌, ◌++◌, length, get_or, Some, None, Vec, refl, sym, ap, ◌∙◌, arith}
use Rattle.std.specs.Prelude.{Result, Ok, Err, OnOk, option_map, find, position}
use Rattle.std.specs.List.{list_any, position_or_len, slice_set}
use Rattle.std.specs.Str.{bytes_eq}
use Rattle.std.specs.Cmp.Lexicographic.{same_text, bytes_decides}
use Rattle.std.proofs.lemmas.Bool.{ltb-false}
use Rattle.edge_io.specs.Files.{Entries, entry_of, is_among, put_entry}
use Rattle.edge_io.specs.Exposed.{entries_of, exposed_names}

flipped : (n m : List ℕ) → bytes_eq n m ≡ false → bytes_eq m n ≡ false
flipped n m e = by (bytes_eq m n) refl
  where
    by : (b : Bool) → b ≡ bytes_eq m n → b ≡ false
    by true q = sym ((bytes_decides n m).1 (sym (same_text m n q))) ∙ e
    by false q = refl

-- the first file, and then the others
first_file : (file : List ℕ × List ℕ) (files : Entries) (name : List ℕ) → entry_of (file ∷ files) name ≡ cond (bytes_eq file.0 name) (Some file.1) (entry_of files name)
first_file file files name = by (bytes_eq file.0 name)
  where
    by : (b : Bool) → option_map (λ f. f.1) (cond b (Some file) (find (λ f. bytes_eq f.0 name) files)) ≡ cond b (Some file.1) (entry_of files name)
    by true = refl
    by false = refl

pub entry_of-put_same : (files : Entries) (name bytes : List ℕ) → entry_of (put_entry files name bytes) name ≡ Some bytes
entry_of-put_same [] name bytes = first_file (name, bytes) [] name ∙ ap (λ v. cond v (Some bytes) None) ((bytes_decides name name).1 refl)
entry_of-put_same (file ∷ files) name bytes = by (bytes_eq file.0 name) refl (entry_of-put_same files name bytes)
  where
    by : (b : Bool) → bytes_eq file.0 name ≡ b → entry_of (put_entry files name bytes) name ≡ Some bytes
        → entry_of (cond b ((file.0, bytes) ∷ files) (file ∷ put_entry files name bytes)) name ≡ Some bytes
    by true is rest = first_file (file.0, bytes) files name ∙ ap (λ v. cond v (Some bytes) (entry_of files name)) is
    by false is rest = first_file file (put_entry files name bytes) name ∙ ap (λ v. cond v (Some file.1) (entry_of (put_entry files name bytes) name)) is ∙ rest

pub entry_of-put_other : (files : Entries) (name bytes other : List ℕ) → bytes_eq other name ≡ false → entry_of (put_entry files name bytes) other ≡ entry_of files other
entry_of-put_other [] name bytes other apart = first_file (name, bytes) [] other ∙ ap (λ v. cond v (Some bytes) None) (flipped other name apart)
entry_of-put_other (file ∷ files) name bytes other apart = by (bytes_eq file.0 name) refl (entry_of-put_other files name bytes other apart)
  where
    by : (b : Bool) → b ≡ bytes_eq file.0 name → entry_of (put_entry files name bytes) other ≡ entry_of files other
        → entry_of (cond b ((file.0, bytes) ∷ files) (file ∷ put_entry files name bytes)) other ≡ entry_of (file ∷ files) other
    by true is rest =
        let skipped : bytes_eq file.0 other ≡ false = flipped other file.0 (ap (λ n. bytes_eq other n) (same_text file.0 name is) ∙ apart) in
        first_file (file.0, bytes) files other ∙ ap (λ v. cond v (Some bytes) (entry_of files other)) skipped
        ∙ sym (first_file file files other ∙ ap (λ v. cond v (Some file.1) (entry_of files other)) skipped)
    by false is rest =
        first_file file (put_entry files name bytes) other ∙ ap (λ o. cond (bytes_eq file.0 other) (Some file.1) o) rest ∙ sym (first_file file files other)

past_all : {X : Type 0} (p : X → Bool) (xs : List X) → position p xs ≡ None → length xs ≤ position_or_len p xs
past_all p xs is = by (ltb (position_or_len p xs) (length xs)) refl is
  where
    by : (b : Bool) → ltb (position_or_len p xs) (length xs) ≡ b → cond b (Some (position_or_len p xs)) None ≡ None → length xs ≤ position_or_len p xs
    by true at none = cc
    by false at none = ltb-false (position_or_len p xs) (length xs) at

module _ {Y Z : Type 0} where
  -- the name is at no index of the list
  absent_all : (files : List (Vec ℕ Y × Vec ℕ Z)) (name : List ℕ) → length files ≤ position_or_len (λ file. bytes_eq file.0.items name) files
      → (entry_of (entries_of files) name ≡ None) × ((bytes : List ℕ) → put_entry (entries_of files) name bytes ≡ entries_of files ++ (name, bytes) ∷ [])
  absent_all [] name past = (refl, λ bytes. refl)
  absent_all (file ∷ files) name past = by (bytes_eq file.0.items name) refl past (λ p. absent_all files name p)
    where
      by : (b : Bool) → bytes_eq file.0.items name ≡ b → suc (length files) ≤ cond (not b) (1 + position_or_len (λ f. bytes_eq f.0.items name) files) 0
          → (length files ≤ position_or_len (λ f. bytes_eq f.0.items name) files → (entry_of (entries_of files) name ≡ None) × ((bytes : List ℕ) → put_entry (entries_of files) name bytes ≡ entries_of files ++ (name, bytes) ∷ []))
          → (entry_of (entries_of (file ∷ files)) name ≡ None) × ((bytes : List ℕ) → put_entry (entries_of (file ∷ files)) name bytes ≡ entries_of (file ∷ files) ++ (name, bytes) ∷ [])
      by true is past rest = absurd (omega arith)
      by false is past rest =
          let h = rest (omega arith) in (
            first_file (file.0.items, file.1.items) (entries_of files) name ∙ ap (λ v. cond v (Some file.1.items) (entry_of (entries_of files) name)) is ∙ h.0,
            λ bytes. ap (λ v. cond v ((file.0.items, bytes) ∷ entries_of files) ((file.0.items, file.1.items) ∷ put_entry (entries_of files) name bytes)) is ∙ ap (λ l. (file.0.items, file.1.items) ∷ l) (h.1 bytes),
          )

  pub absent : (files : List (Vec ℕ Y × Vec ℕ Z)) (name : List ℕ) → position (λ file. bytes_eq file.0.items name) files ≡ None
      → (entry_of (entries_of files) name ≡ None) × ((bytes : List ℕ) → put_entry (entries_of files) name bytes ≡ entries_of files ++ (name, bytes) ∷ [])
  absent files name is = absent_all files name (past_all (λ file. bytes_eq file.0.items name) files is)

  -- the name is first at this index of the list
  pub present : (files : List (Vec ℕ Y × Vec ℕ Z)) (name : List ℕ) (i : ℕ) (d : Vec ℕ Y × Vec ℕ Z) → i < length files
      → bytes_eq (get_or files i d).0.items name ≡ true → ((k : ℕ) → k < i → bytes_eq (get_or files k d).0.items name ≡ false)
      → (entry_of (entries_of files) name ≡ Some (get_or files i d).1.items)
      × ((bytes : Vec ℕ Z) → put_entry (entries_of files) name bytes.items ≡ entries_of (slice_set files i ((get_or files i d).0, bytes)))
  present [] name i d within at before = absurd (omega arith)
  present (file ∷ files) name zero d within at before = (
    first_file (file.0.items, file.1.items) (entries_of files) name ∙ ap (λ v. cond v (Some file.1.items) (entry_of (entries_of files) name)) at,
    λ bytes. ap (λ v. cond v ((file.0.items, bytes.items) ∷ entries_of files) ((file.0.items, file.1.items) ∷ put_entry (entries_of files) name bytes.items)) at,
  )
  present (file ∷ files) name (suc i) d within at before =
      let skipped : bytes_eq file.0.items name ≡ false = before 0 (omega arith) in
      let h = present files name i d (omega arith) at (λ k below. before (suc k) (omega arith)) in (
        first_file (file.0.items, file.1.items) (entries_of files) name ∙ ap (λ v. cond v (Some file.1.items) (entry_of (entries_of files) name)) skipped ∙ h.0,
        λ bytes. ap (λ v. cond v ((file.0.items, bytes.items) ∷ entries_of files) ((file.0.items, file.1.items) ∷ put_entry (entries_of files) name bytes.items)) skipped ∙ ap (λ l. (file.0.items, file.1.items) ∷ l) (h.1 bytes),
      )

module _ {Y : Type 0} where
  among_told : (names : List (Vec ℕ Y)) (name : List ℕ) → is_among (exposed_names names) name ≡ list_any (λ other. bytes_eq other.items name) names
  among_told [] name = refl
  among_told (other ∷ names) name = ap (λ b. bytes_eq other.items name || b) (among_told names name)

  -- what a search of the names says of them
  pub listed : (names seen : List (Vec ℕ Y)) (closed : List (List ℕ)) (name : List ℕ) (found b : Bool)
      → exposed_names names ≡ closed → seen ≡ names → found ≡ list_any (λ other. bytes_eq other.items name) seen → found ≡ b → is_among closed name ≡ b
  listed names seen closed name found b are same is answer =
      ap (λ l. is_among l name) (sym are) ∙ among_told names name ∙ ap (λ l. list_any (λ other. bytes_eq other.items name) l) (sym same) ∙ sym is ∙ answer

-- what holds anyway holds on success
pub on_ok : {T E : Type 0} (r : Result T E) (P : Type 0) → P → OnOk r P
on_ok (Ok x) P p = p
on_ok (Err e) P p = tt
