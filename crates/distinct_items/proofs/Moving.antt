-- The kept ones of some items.
use Rattle.std.proofs.Common.{◌≡◌, ℕ, zero, suc, ◌+◌, ◌<◌, ◌≤◌, inl, inr, Bool, true, false, cond, List, [], ◌∷◌, length, get_or, set, take, length-set, get_or-set_same, get_or-set_other, get_or-take, length-take-le, ext_get_or, add-one, refl, ap, sym, subst, ◌∙◌, arith}
use Rattle.std.proofs.lemmas.Bool.{cases_lt}
use Rattle.slp_model.proofs.RankLemmas.{rank-kept, rank-other}
use Rattle.slp_model.specs.Kept.{Keeps}
use Rattle.slp_model.specs.Thin.{rank}
use Rattle.distinct_items.specs.Renumbering.{kept_items}

module _ {A : Type 0} where
  pub kept-long : (xs : List A) (ks : List Bool) → length (kept_items xs ks) ≡ rank ks (length xs)
  kept-long [] ks = refl
  kept-long (x ∷ xs) [] = refl
  kept-long (x ∷ xs) (b ∷ bs) = by b (kept-long xs bs)
    where
      by : (c : Bool) → length (kept_items xs bs) ≡ rank bs (length xs) → length (cond c (x ∷ kept_items xs bs) (kept_items xs bs)) ≡ cond c 1 0 + rank bs (length xs)
      by true h = omega (arith, h)
      by false h = omega (arith, h)

  -- where a kept item comes from
  pub record Origin (xs : List A) (ks : List Bool) (d : A) (j : ℕ) : Type 0 where
    pub index : ℕ
    pub within : index < length xs
    pub kept : Keeps ks index
    pub rank_is : rank ks index ≡ j
    pub item : get_or (kept_items xs ks) j d ≡ get_or xs index d

  pub kept-back : (xs : List A) (ks : List Bool) (d : A) (j : ℕ) → j < length (kept_items xs ks) → Origin xs ks d j
  kept-back [] ks d j lt = absurd (omega arith)
  kept-back (x ∷ xs) [] d j lt = absurd (omega arith)
  kept-back (x ∷ xs) (true ∷ bs) d zero lt = record { index = 0; within = omega arith; kept = refl; rank_is = refl; item = refl }
  kept-back (x ∷ xs) (true ∷ bs) d (suc j) lt =
      let o = kept-back xs bs d j (omega arith) in
      record { index = suc o.index; within = omega (arith, o.within); kept = o.kept; rank_is = omega (arith, o.rank_is); item = o.item }
  kept-back (x ∷ xs) (false ∷ bs) d j lt =
      let o = kept-back xs bs d j lt in
      record { index = suc o.index; within = omega (arith, o.within); kept = o.kept; rank_is = omega (arith, o.rank_is); item = o.item }

  -- and where it goes
  pub kept-at : (xs : List A) (ks : List Bool) (d : A) (i : ℕ) → i < length xs → Keeps ks i → get_or (kept_items xs ks) (rank ks i) d ≡ get_or xs i d
  kept-at [] ks d i lt k = absurd (omega arith)
  kept-at (x ∷ xs) [] d i lt k = cc
  kept-at (x ∷ xs) (true ∷ bs) d zero lt k = refl
  kept-at (x ∷ xs) (false ∷ bs) d zero lt k = cc
  kept-at (x ∷ xs) (true ∷ bs) d (suc i) lt k = let e : 1 + rank bs i ≡ suc (rank bs i) = omega arith in rw e (kept-at xs bs d i (omega arith) k)
  kept-at (x ∷ xs) (false ∷ bs) d (suc i) lt k = let e : 0 + rank bs i ≡ rank bs i = omega arith in rw e (kept-at xs bs d i (omega arith) k)

  -- the kept ones of the first i items were moved to the start, and those from i on are unchanged
  pub record AreMoved (old : List A) (ks : List Bool) (d : A) (i : ℕ) (now : List A) (k : ℕ) : Type 0 where
    pub low : k ≤ i
    pub count : k ≡ rank ks i
    pub long : length now ≡ length old
    pub prefix : (j : ℕ) → j < k → get_or now j d ≡ get_or (kept_items old ks) j d
    pub rest : (j : ℕ) → i ≤ j → get_or now j d ≡ get_or old j d

  pub moved-none : (old : List A) (ks : List Bool) (d : A) → AreMoved old ks d 0 old 0
  moved-none old ks d = record { low = omega arith; count = refl; long = refl; prefix = λ j lt. absurd (omega arith); rest = λ j le. refl }

  module _ (old : List A) (ks : List Bool) (d : A) (i : ℕ) (now : List A) (k : ℕ) (m : AreMoved old ks d i now k) where
    -- item i was moved to index k, and nothing else before or after these
    pub moved-to : (next : List A) → i < length old → Keeps ks i → length next ≡ length now → get_or next k d ≡ get_or now i d
        → ((j : ℕ) → j < k → get_or next j d ≡ get_or now j d) → ((j : ℕ) → i < j → get_or next j d ≡ get_or now j d) → AreMoved old ks d (i + 1) next (k + 1)
    moved-to next lt keeps long at before behind = record {
      low = omega (arith, m.low);
      count = omega (arith, m.count, rank-kept ks i keeps, ap (rank ks) (add-one i));
      long = long ∙ m.long;
      prefix = λ j below. elim (cases_lt j k) [
        | inl less ↦ before j less ∙ m.prefix j less
        | inr ge ↦
            let here : j ≡ k = omega (arith, ge, below) in
            subst (λ n. get_or next n d ≡ get_or (kept_items old ks) n d) (sym here)
            (at ∙ (m.rest i (omega arith) ∙ (sym (kept-at old ks d i lt keeps) ∙ ap (λ n. get_or (kept_items old ks) n d) (sym m.count))))
      ];
      rest = λ j le. behind j (omega (arith, le)) ∙ m.rest j (omega (arith, le));
    }

    pub moved-on : i < length old → Keeps ks i → AreMoved old ks d (i + 1) (set now k (get_or now i d)) (k + 1)
    moved-on lt keeps =
        moved-to (set now k (get_or now i d)) lt keeps (length-set now k (get_or now i d))
        (get_or-set_same now k (get_or now i d) d (omega (arith, lt, m.low, m.long)))
        (λ j less. get_or-set_other now k j (get_or now i d) d (λ e. omega (arith, e, less)))
        (λ j more. get_or-set_other now k j (get_or now i d) d (λ e. omega (arith, e, more, m.low)))

    pub moved-skip : get_or ks i false ≡ false → AreMoved old ks d (i + 1) now k
    moved-skip none = record {
      low = omega (arith, m.low);
      count = omega (arith, m.count, rank-other ks i none, ap (rank ks) (add-one i));
      long = m.long;
      prefix = m.prefix;
      rest = λ j le. m.rest j (omega (arith, le));
    }

    -- all of them
    pub moved-all : i ≡ length old → take k now ≡ kept_items old ks
    moved-all all =
        let long : length (kept_items old ks) ≡ k = kept-long old ks ∙ (ap (rank ks) (sym all) ∙ sym m.count) in
        let within : k ≤ length now = omega (arith, m.low, m.long, all) in
        let short : length (take k now) ≡ k = length-take-le k now within in
        ext_get_or d (take k now) (kept_items old ks) (short ∙ sym long) (λ j lt.
        let below : j < k = omega (arith, lt, short) in
        get_or-take k now j d below ∙ m.prefix j below)

-- whatever stands past the end
pub record AreAllMoved {A : Type 0} (old : List A) (ks : List Bool) (i : ℕ) (now : List A) (k : ℕ) : Type 0 where
  pub low : k ≤ i
  pub count : k ≡ rank ks i
  pub each : (d : A) → AreMoved old ks d i now k

pub all-moved : {A : Type 0} (old : List A) (ks : List Bool) (i : ℕ) (now : List A) (k : ℕ) → AreAllMoved old ks i now k → i ≡ length old → take k now ≡ kept_items old ks
all-moved {A = A} [] ks i now k m all =
    let none : k ≡ 0 = omega (arith, m.low, all) in
    ap (λ n. take n now) none
all-moved {A = A} (x ∷ xs) ks i now k m all = moved-all (x ∷ xs) ks x i now k (m.each x) all

-- ---- two lists that agree on the items keep the same
kept-nil : {A : Type 0} (xs : List A) → kept_items xs [] ≡ []
kept-nil [] = refl
kept-nil (x ∷ xs) = refl

pub kept-same : {A : Type 0} (xs : List A) (ks bs : List Bool) → ((i : ℕ) → i < length xs → get_or ks i false ≡ get_or bs i false) → kept_items xs ks ≡ kept_items xs bs
kept-same {A = A} [] ks bs h = refl
kept-same {A = A} (x ∷ xs) [] [] h = refl
kept-same {A = A} (x ∷ xs) [] (b ∷ bs) h =
    sym (kept-nil xs) ∙ (kept-same xs [] bs (λ i lt. h (suc i) (omega arith)) ∙ ap (λ c. cond c (x ∷ kept_items xs bs) (kept_items xs bs)) (h 0 (omega arith)))
kept-same {A = A} (x ∷ xs) (k ∷ ks) [] h =
    ap (λ c. cond c (x ∷ kept_items xs ks) (kept_items xs ks)) (h 0 (omega arith)) ∙ (kept-same xs ks [] (λ i lt. h (suc i) (omega arith)) ∙ kept-nil xs)
kept-same {A = A} (x ∷ xs) (k ∷ ks) (b ∷ bs) h =
    ap (λ c. cond c (x ∷ kept_items xs ks) (kept_items xs ks)) (h 0 (omega arith))
    ∙ ap (λ (l : List A). cond b (x ∷ l) l) (kept-same xs ks bs (λ i lt. h (suc i) (omega arith)))

rank-next : (ks : List Bool) (i : ℕ) → rank ks (suc i) ≡ rank ks i + cond (get_or ks i false) 1 0
rank-next [] zero = refl
rank-next [] (suc i) = refl
rank-next (b ∷ bs) zero = omega arith
rank-next (b ∷ bs) (suc i) = omega (arith, rank-next bs i)

pub rank-agree : (ks bs : List Bool) (n : ℕ) → ((i : ℕ) → i < n → get_or ks i false ≡ get_or bs i false) → rank ks n ≡ rank bs n
rank-agree ks bs zero h = refl
rank-agree ks bs (suc n) h =
    rank-next ks n ∙ (ap (λ b. rank ks n + cond b 1 0) (h n (omega arith)) ∙ (ap (λ r. r + cond (get_or bs n false) 1 0) (rank-agree ks bs n (λ i lt. h i (omega arith))) ∙ sym (rank-next bs n)))
