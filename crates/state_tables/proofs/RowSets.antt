-- Sets and rows that are found by numbers.
use Rattle.std.proofs.Common.{suc, ◌≡◌, ℕ, ◌<◌, ◌+◌, ◌⊎◌, inl, inr, Result, Ok, Err, OnOk, OnErr, refl, ap, sym, ◌∙◌, arith, List, [], ◌∷◌, ◌++◌, length, map, get_or, set, get_or-set_same, get_or-set_other}
use Rattle.std.proofs.lemmas.Bool.{cases_eq, cases_lt}
use Rattle.std.proofs.lemmas.List.{get_or_append_left, get_or_push, get_or-map, length_push, set_past}
use Rattle.state_tables.specs.StateSet.{AreWords, number_of_words, words_of}
use Rattle.state_tables.specs.Table.{Row, no_row, row_at}
use Rattle.state_tables.specs.Coded.{GroupedRows, RowList, SetList, coded_at, list_of, no_coded, row_in, table_of, with_set}
use Rattle.state_tables.specs.declared.table_rows.CodedRow.{CodedRow}
use Rattle.state_tables.specs.Digest.{digest_with, low_of, row_number, set_digest}
use Rattle.state_tables.specs.Weights.{weighted}
use Rattle.state_tables.specs.RowSet.{AreLinks, IsSetIndex, TakesSet}
use Rattle.state_tables.specs.TableRows.{HaveSets}
use Rattle.state_tables.proofs.CodedRows.{code_of-step_of}
use Rattle.state_tables.proofs.Weights.{weighted-map, weighted-same}
use Rattle.state_tables.proofs.Words.{words-back}

-- the sum of the numbers of the states' rows
pub numbers-of-rows : (g : GroupedRows) (cs : List ℕ) → ((p : ℕ) → p < length cs → get_or cs p 0 < length g.rows)
    → weighted (λ k. row_number g.width (row_in g.sets (coded_at g.rows k))) 0 cs ≡ weighted (row_number g.width) 0 (table_of cs (list_of g).rows)
numbers-of-rows g cs within =
    weighted-same (λ k. row_number g.width (row_in g.sets (coded_at g.rows k))) (λ k. row_number g.width (row_at (list_of g).rows k)) 0 cs
    (λ p lt. ap (row_number g.width) (sym (get_or-map (row_in g.sets) g.rows (get_or cs p 0) no_coded no_row (within p lt))))
    ∙ sym (weighted-map (row_number g.width) (row_at (list_of g).rows) 0 cs)

-- the number of a row, as it is computed
pub number-of-row : (width : ℕ) (sets : List ℕ) (row : CodedRow) → low_of (digest_with (set_digest (words_of width (get_or sets row.set 0))) row.code) ≡ row_number width (row_in sets row)
unfolding row_number
number-of-row width sets row = ap (λ n. low_of (digest_with (set_digest (words_of width (get_or sets row.set 0))) n)) (sym (code_of-step_of row.code))

-- the digest of a set is that of its words
pub digest-of-set : (width : ℕ) (ws : List ℕ) → length ws ≡ width → AreWords ws → set_digest ws ≡ set_digest (words_of width (number_of_words ws))
digest-of-set width ws wide are = ap set_digest (sym (words-back ws are) ∙ ap (λ n. words_of n (number_of_words ws)) wide)

-- ---- one more set or row
-- what is written, or what was there before
set-either : (slots : List ℕ) (s n x : ℕ) → (get_or (set slots s n) x 0 ≡ n) ⊎ (get_or (set slots s n) x 0 ≡ get_or slots x 0)
set-either slots s n x = elim (cases_eq x s) [
  | inl e ↦ elim (cases_lt s (length slots)) [
    | inl lt ↦ inl (ap (λ k. get_or (set slots s n) k 0) e ∙ get_or-set_same slots s n 0 lt)
    | inr ge ↦ inr (ap (λ l. get_or l x 0) (set_past slots s n ge))
  ]
  | inr ne ↦ inr (get_or-set_other slots s x n 0 ne)
]

pub index-push : (list : SetList) (ds slots : List ℕ) (s d n : ℕ) → IsSetIndex list ds slots → d ≡ set_digest (words_of list.width n)
    → IsSetIndex (with_set list n) (ds ++ d ∷ []) (set slots s (length list.sets + 1))
index-push list ds slots s d n is digest =
    let longer : length (list.sets ++ n ∷ []) ≡ length list.sets + 1 = length_push list.sets n in
    record {
      as_long = omega (arith, length_push ds d, is.as_long, longer);
      digests_are = λ k lt. elim (cases_lt k (length list.sets)) [
        | inl less ↦
            get_or_append_left ds (d ∷ []) 0 k (omega (arith, less, is.as_long)) ∙ is.digests_are k less
            ∙ ap (λ x. set_digest (words_of list.width x)) (sym (get_or_append_left list.sets (n ∷ []) 0 k less))
        | inr ge ↦
            let here : length list.sets ≡ k = omega (arith, ge, lt, longer) in
            get_or_push ds d 0 k (omega (arith, here, is.as_long)) ∙ digest ∙ ap (λ x. set_digest (words_of list.width x)) (sym (get_or_push list.sets n 0 k here))
      ];
      within = λ x. elim (set-either slots s (length list.sets + 1) x) [
        | inl e ↦ omega (arith, e, longer)
        | inr e ↦ omega (arith, e, is.within x, longer)
      ];
    }

-- one row more, to which a slot may lead
pub links-push : (n : ℕ) (slots : List ℕ) (s : ℕ) → AreLinks n slots → AreLinks (n + 1) (set slots s (n + 1))
links-push n slots s are = λ x. elim (set-either slots s (n + 1) x) [
  | inl e ↦ omega (arith, e)
  | inr e ↦ omega (arith, e, are x)
]

-- ---- rows by sets
-- a further set leaves rows the same that have one of those before
pub rows-kept : (sets : List ℕ) (n : ℕ) (rows : List CodedRow) → HaveSets sets rows → map (row_in (sets ++ n ∷ [])) rows ≡ map (row_in sets) rows
rows-kept sets n [] have = refl
rows-kept sets n (row ∷ rows) have =
    let make : ℕ → Row = λ m. record (row_in sets row) { marked = m } in
    ap (λ r. r ∷ map (row_in (sets ++ n ∷ [])) rows) (ap make (get_or_append_left sets (n ∷ []) 0 row.set (have 0 (omega arith))))
    ∙ ap (λ rs. row_in sets row ∷ rs) (rows-kept sets n rows (λ k lt. have (suc k) (omega (arith, lt))))

-- the rows are the same, and so is their list, whether a set was added or not
pub list-kept : (old new : GroupedRows) (n : ℕ) → new.width ≡ old.width → new.rows ≡ old.rows → TakesSet old.sets new.sets n → HaveSets old.sets old.rows → list_of new ≡ list_of old
list-kept old new n wide rows (inl same) have =
    let make : ℕ → List ℕ → List CodedRow → RowList = λ w s r. list_of (record { width = w; sets = s; rows = r }) in
    ap (λ w. make w new.sets new.rows) wide ∙ ap (λ s. make old.width s new.rows) same ∙ ap (make old.width old.sets) rows
list-kept old new n wide rows (inr more) have =
    let make : ℕ → List ℕ → List CodedRow → RowList = λ w s r. list_of (record { width = w; sets = s; rows = r }) in
    ap (λ w. make w new.sets new.rows) wide ∙ ap (λ s. make old.width s new.rows) more ∙ ap (make old.width (old.sets ++ n ∷ [])) rows
    ∙ ap (λ l. record { width = old.width; rows = l }) (rows-kept old.sets n old.rows have)

-- and each row still has a set
pub sets-kept : (old new : List ℕ) (n : ℕ) (rows : List CodedRow) → TakesSet old new n → HaveSets old rows → HaveSets new rows
sets-kept old new n rows (inl same) have = λ k lt. omega (arith, have k lt, ap length same)
sets-kept old new n rows (inr more) have = λ k lt. omega (arith, have k lt, ap length more, length_push old n)

-- nothing is added if memory is short
pub taken-always : {E : Type 0} (r : Result ℕ E) (old new : SetList) (n : ℕ) → OnOk r (TakesSet old.sets new.sets n) → OnErr r (new ≡ old) → TakesSet old.sets new.sets n
taken-always (Ok k) old new n taken same = taken
taken-always (Err e) old new n taken same = inl (ap (λ l. l.sets) same)

-- one row more, which has one of the sets
pub have-push : (sets : List ℕ) (rows : List CodedRow) (row : CodedRow) → HaveSets sets rows → row.set < length sets → HaveSets sets (rows ++ row ∷ [])
have-push sets rows row have lt = λ k less. elim (cases_lt k (length rows)) [
  | inl low ↦ omega (arith, have k low, ap (λ r. r.set) (get_or_append_left rows (row ∷ []) no_coded k low))
  | inr ge ↦
      let here : length rows ≡ k = omega (arith, ge, less, length_push rows row) in
      omega (arith, lt, ap (λ r. r.set) (get_or_push rows row no_coded k here))
]
