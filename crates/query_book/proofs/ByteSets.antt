-- The byte sets of a reading, and the steps that read bytes.
use Rattle.std.proofs.Common.{◌≡◌, inl, inr, ℕ, zero, suc, ◌+◌, ◌<◌, Bool, true, false, List, [], ◌∷◌, length, slice_index_or, refl, sym, ap, subst, ◌∙◌, arith}
use Rattle.span_types.specs.FormulaTree.{FormulaTree, Set, Empty, Cat, Alt, Star, Plus, Opt, Capture, sets}
use Rattle.formula_syntax.specs.Numbering.{Names}
use Rattle.formula_syntax.specs.Lexis.{bytes_where, tests_from}
use Rattle.formula_syntax.specs.Grammar.{Part, alt, cat, reps, rep, atom, Reads, one_branch, more_branches, nothing, something, last_rep, more_reps, plain, star, plus, option, letter, escape, dot, set, group, capture}
use Rattle.formula_law.specs.Positions.{HasSet}
use Rattle.formula_law.specs.Accepts.{Steps}
use Rattle.marker_dfa.specs.Deterministic.{DeterministicAutomaton, IsAutomatonOf}
use Rattle.span_algebra.proofs.CopyLaws.{step-within}
use Rattle.span_algebra.proofs.SetLaws.{at-index}
use Rattle.query_book.specs.Compiling.{HasByteSets, ReadsBytes}

length-tests : (b n : ℕ) (p : ℕ → Bool) → length (tests_from b n p) ≡ n
length-tests b zero p = refl
length-tests b (suc n) p = ap suc (length-tests (suc b) n p)

length-bytes : (p : ℕ → Bool) → length (bytes_where p) ≡ 256
unfolding bytes_where
length-bytes p = length-tests 0 256 p

one-set : (f : FormulaTree) (p : ℕ → Bool) → f ≡ Set (bytes_where p) → HasByteSets f
one-set f p e = subst HasByteSets (sym e) (length-bytes p)

pub reads-bytes : (p : Part) (s : List ℕ) (f : FormulaTree) (d : ℕ) (n m : Names) → Reads p s f d n m → HasByteSets f
reads-bytes alt s f d n m (one_branch _ _ _ _ _ h) = reads-bytes cat s f d n m h
reads-bytes alt s f d n m (more_branches _ a b _ g h _ c e _ k _ cut r t is mx) = subst HasByteSets (sym is) (reads-bytes cat a g c n k r, reads-bytes alt b h e k m t)
reads-bytes cat s f d n m (nothing _ _ _ _ _ e is z q) = subst HasByteSets (sym is) tt
reads-bytes cat s f d n m (something _ _ _ _ _ h) = reads-bytes reps s f d n m h
reads-bytes reps s f d n m (last_rep _ _ _ _ _ h) = reads-bytes rep s f d n m h
reads-bytes reps s f d n m (more_reps _ a b _ g h _ c e _ k _ cut r t is mx) = subst HasByteSets (sym is) (reads-bytes rep a g c n k r, reads-bytes reps b h e k m t)
reads-bytes rep s f d n m (plain _ _ _ _ _ h) = reads-bytes atom s f d n m h
reads-bytes rep s f d n m (star _ a _ g _ _ _ cut h is) = subst HasByteSets (sym is) (reads-bytes rep a g d n m h)
reads-bytes rep s f d n m (plus _ a _ g _ _ _ cut h is) = subst HasByteSets (sym is) (reads-bytes rep a g d n m h)
reads-bytes rep s f d n m (option _ a _ g _ _ _ cut h is) = subst HasByteSets (sym is) (reads-bytes rep a g d n m h)
reads-bytes atom s f d n m (letter _ _ _ b _ _ cut h is z q) = one-set f _ is
reads-bytes atom s f d n m (escape _ _ _ b _ _ h is z q) = one-set f _ is
reads-bytes atom s f d n m (dot _ _ _ _ _ cut is z q) = one-set f _ is
reads-bytes atom s f d n m (set _ a _ _ _ _ neg rs cut h is z q) = one-set f _ is
reads-bytes atom s f d n m (group _ a _ _ e _ _ cut h z) = reads-bytes alt a f e n m h
reads-bytes atom s f d n m (capture _ w a _ g _ e _ _ cut is_n h is z) = subst HasByteSets (sym is) (reads-bytes alt a g e _ m h)

set-size : (f : FormulaTree) (n o : ℕ) (c : List Bool) → HasByteSets f → HasSet f n o c → length c ≡ 256
set-size (Set b) n o c h s = ap length s.1 ∙ h
set-size Empty n o c h s = absurd s
set-size (Cat a b) n o c h (inl s) = set-size a n o c h.0 s
set-size (Cat a b) n o c h (inr s) = set-size b (n + sets a) o c h.1 s
set-size (Alt a b) n o c h (inl s) = set-size a n o c h.0 s
set-size (Alt a b) n o c h (inr s) = set-size b (n + sets a) o c h.1 s
set-size (Star a) n o c h s = set-size a n o c h s
set-size (Plus a) n o c h s = set-size a n o c h s
set-size (Opt a) n o c h s = set-size a n o c h s
set-size (Capture x a) n o c h s = set-size a n o c h s

within : (c : List Bool) (b : ℕ) → slice_index_or c b false ≡ true → b < length c
within [] b h = let bad : false ≡ true = h in absurd (cc)
within (x ∷ c) zero h = omega arith
within (x ∷ c) (suc b) h = omega (arith, within c b h)

pub steps-bytes : (f : FormulaTree) → HasByteSets f → (o m b p : ℕ) → Steps f o m b p → b < 256
steps-bytes f h o m b p s = omega (arith, within s.members b s.is_member, set-size f 1 p s.members h s.has_set)

-- if each step of the occurrences reads a byte, so does each step of the automaton
pub reads-by : (n : ℕ) (Step : ℕ → ℕ → ℕ → ℕ → Type 0) (End : ℕ → ℕ → Type 0) (d : DeterministicAutomaton) → ((o m b p : ℕ) → Step o m b p → b < 256) → IsAutomatonOf n Step End d → ReadsBytes d
reads-by n Step End d bytes is q m b r e =
    let x = at-index is.subsets q (omega (arith, is.states, step-within d q m b r e)) in
    let g = is.goes q m b r x.0 x.1 e in
    let s = (g.3.members g.1).0 g.4 in
    bytes s.0 m b g.1 s.2
