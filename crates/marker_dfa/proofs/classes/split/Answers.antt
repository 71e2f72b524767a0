use Rattle.std.proofs.Common.{◌≡◌, ℕ, subst, arith}
use Rattle.marker_dfa.specs.Making.{IsSplitUpTo}
use Rattle.marker_dfa.proofs.Splitting.{split_fit, split_finer}
use Rattle.marker_dfa.proofs.classes.split.Goals as goal

pub returns-clause-fit : goal.returns-clause-fit
returns-clause-fit c =
    let e : c.loop-byte.byte ≡ 256 = omega (arith, c.loop-byte-test.false, c.loop-byte.auto.byte-end) in
    split_fit c.args.classes.now _ _ c.requires.size (subst (λ (n : ℕ). IsSplitUpTo c.args.classes.now c.args.letters.now n c.loop-byte.split) e c.loop-byte.invariant)

pub returns-clause-finer : goal.returns-clause-finer
returns-clause-finer c =
    let e : c.loop-byte.byte ≡ 256 = omega (arith, c.loop-byte-test.false, c.loop-byte.auto.byte-end) in
    split_finer c.args.classes.now _ c.args.letters.now c.requires.classes (subst (λ (n : ℕ). IsSplitUpTo c.args.classes.now c.args.letters.now n c.loop-byte.split) e c.loop-byte.invariant)
