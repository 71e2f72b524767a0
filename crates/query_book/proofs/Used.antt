-- After a renumbering each table is that of a node.
use Rattle.std.proofs.Common.{◌≡◌, ◌||◌, ◌<◌, ℕ, suc, Bool, true, List, [], ◌∷◌, length, map, Contains, inl, inr, true≢false, sym, ap, subst, ◌∙◌, arith}
use Rattle.std.proofs.lemmas.Bool.{cases_eq, ne_eqb}
use Rattle.std.proofs.lemmas.List.{length-map, get_or-map}
use Rattle.slp_model.specs.Thin.{rank}
use Rattle.state_tables.specs.Dictionary.{Dictionary}
use Rattle.state_tables.specs.Dropped.{used_by}
use Rattle.distinct_items.specs.Renumbering.{is_used, kept_items, used_of}
use Rattle.distinct_items.proofs.Marks.{used-of-at}
use Rattle.distinct_items.proofs.Moving.{kept-back}
use Rattle.count_tables.specs.Dictionary.{CountDictionary}
use Rattle.count_tables.specs.Dictionary as counting
use Rattle.query_book.specs.Counting.{UsesEachCount}
use Rattle.query_book.specs.Renumbering.{UsesEachTable}

stands : (ns : List ℕ) (k : ℕ) → is_used ns k ≡ true → Contains ns k
stands [] k used = absurd (true≢false (sym used))
stands (n ∷ ns) k used = by (stands ns k)
  where
    by : (is_used ns k ≡ true → Contains ns k) → Contains (n ∷ ns) k
    by rest = elim (cases_eq n k) [
      | inl e ↦ (0, omega arith, e)
      | inr ne ↦
          let c = rest (sym (ap (λ b. b || is_used ns k) (ne_eqb n k ne)) ∙ used) in
          (suc c.0, omega (arith, c.1), c.2)
    ]

mapped : (f : ℕ → ℕ) (ns : List ℕ) (n : ℕ) → Contains ns n → Contains (map f ns) (f n)
mapped f ns n c = (c.0, omega (arith, c.1, length-map ns f), get_or-map f ns c.0 n (f n) c.1 ∙ ap f c.2)

used-kept : {A : Type 0} (kept new : List A) (default : A) (numbers new-numbers : List ℕ) → new ≡ kept_items kept (used_of numbers (length kept)) → new-numbers ≡ map (rank (used_of numbers (length kept))) numbers
    → (k : ℕ) → k < length new → Contains new-numbers k
used-kept kept new default numbers new-numbers is numbers-are k low =
    let used = used_of numbers (length kept) in
    let o = kept-back kept used default k (omega (arith, low, ap length is)) in
    let c = stands numbers o.index (sym (used-of-at numbers (length kept) o.index o.within) ∙ o.kept) in
    subst (λ xs. Contains xs k) (sym numbers-are) (subst (λ n. Contains (map (rank used) numbers) n) o.rank_is (mapped (rank used) numbers o.index c))

pub used-each : (d e : Dictionary) (keep : List Bool) → e.kept ≡ kept_items d.kept (used_by d keep) → e.numbers ≡ map (rank (used_by d keep)) (kept_items d.numbers keep) → UsesEachTable e
used-each d e keep kept numbers k low = used-kept d.kept e.kept [] (kept_items d.numbers keep) e.numbers kept numbers k low

pub used-each-count : (d e : CountDictionary) (keep : List Bool) → e.kept ≡ kept_items d.kept (counting.used_by d keep) → e.numbers ≡ map (rank (counting.used_by d keep)) (kept_items d.numbers keep) → UsesEachCount e
used-each-count d e keep kept numbers k low = used-kept d.kept e.kept [] (kept_items d.numbers keep) e.numbers kept numbers k low
