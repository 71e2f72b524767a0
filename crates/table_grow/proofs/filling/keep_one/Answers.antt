use Rattle.std.proofs.Common.{◌≡◌, ◌<◌, ◌≤◌, ◌⊎◌, inl, inr, ℕ, IfSome, List, Option, Some, Contains, arith, subst, sym}
use Rattle.state_tables.specs.Table.{Row}
use Rattle.state_tables.specs.Dictionary.{Dictionary, distinct_of, kept_of}
use Rattle.table_grow.specs.Pieces.{IsComposition}
use Rattle.pair_memo.specs.Entries.{Entry}
use Rattle.table_grow.specs.Remembering.{AreTrueEntries, IsTrueEntry}
use Rattle.table_grow.proofs.Growing.{entries-kept}
use Rattle.table_grow.proofs.filling.keep_one.Goals as goal

-- one more composition is cached
entries-more : (d e : Dictionary) (es fs : List Entry) (p : ℕ × ℕ) (j : ℕ) (t : List Row) → ((n : ℕ) → n < distinct_of d → kept_of e n ≡ kept_of d n) → distinct_of d ≤ distinct_of e → AreTrueEntries d es
    → IsComposition d t p → j < distinct_of e → kept_of e j ≡ t → ((x : Entry) → Contains fs x → Contains es x ⊎ (x ≡ (p, j))) → AreTrueEntries e fs
entries-more d e es fs p j t kept more all made within is from = λ x c. elim (from x c) [
  | inl old ↦ entries-kept d e es kept more all x old
  | inr new ↦
      let l = made.left in
      let r = made.right in
      subst (IsTrueEntry e) (sym new) (record { left = omega (arith, more, l); right = omega (arith, more, r); number = within; composed = rw (is, kept p.0 l, kept p.1 r) made.table })
]

pub returns-in_err-number-clause-entries : goal.returns-in_err-number-clause-entries
returns-in_err-number-clause-entries c = entries-kept c.args.tables.now c.keep.new.self c.args.memory.now c.keep.ensures.kept c.keep.ensures.more c.requires.entries

pub returns-in-Some-clause-entries : goal.returns-in-Some-clause-entries
returns-in-Some-clause-entries c =
    let made : IfSome (Some (c.in-Some.left, c.in-Some.right)) (IsComposition c.args.tables.now c.args.one.table) =
    subst (λ (o : Option (ℕ × ℕ)). IfSome o (IsComposition c.args.tables.now c.args.one.table)) c.in-Some.is c.requires.made.composed in
    let number = c.in_ok-number.ensures.number in
    entries-more c.args.tables.now c.keep.new.self c.args.memory.now c.note.new.self (c.in-Some.left, c.in-Some.right) c.in_ok-number.number c.args.one.table
    c.keep.ensures.kept c.keep.ensures.more c.requires.entries made number.0 number.1 c.note.ensures

pub returns-else-caches-clause-entries : goal.returns-else-caches-clause-entries
returns-else-caches-clause-entries c = entries-kept c.args.tables.now c.keep.new.self c.args.memory.now c.keep.ensures.kept c.keep.ensures.more c.requires.entries

pub returns-in_ok-number-clause-entries : goal.returns-in_ok-number-clause-entries
returns-in_ok-number-clause-entries c = entries-kept c.args.tables.now c.keep.new.self c.args.memory.now c.keep.ensures.kept c.keep.ensures.more c.requires.entries
