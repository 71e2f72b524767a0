use Rattle.std.proofs.Common.{◌≡◌, ◌<◌, length}
use Rattle.marker_dfa.proofs.Splitting.{FitsUpTo}
use Rattle.marker_dfa.proofs.classes.fits.Given as goal

abbrev pub invariant-loop-byte : goal.invariant-loop-byte
invariant-loop-byte l = record {
  size : 0 < l.byte → length l.letters ≡ 256;
  fit : FitsUpTo l.classes l.letters l.byte;
}
