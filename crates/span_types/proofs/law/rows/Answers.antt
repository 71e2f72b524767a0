use Rattle.std.proofs.Common.{◌≡◌, refl, sym, arith, inr}
use Rattle.span_types.specs.Fibonacci.{fibonacci, height_limit}
use Rattle.span_types.proofs.FibonacciLaws.{fibonacci_71}
use Rattle.span_types.proofs.LimitLemmas.{stops, stops_is}
use Rattle.span_types.proofs.law.rows.Goals as goal

limit_0 : height_limit 0 ≡ 0
unfolding height_limit fibonacci
limit_0 = refl

limit_2 : height_limit 2 ≡ 1
unfolding height_limit fibonacci
limit_2 = refl

limit_7 : height_limit 7 ≡ 3
unfolding height_limit fibonacci
limit_7 = refl

limit_11 : height_limit 11 ≡ 4
unfolding height_limit fibonacci
limit_11 = refl

limit_31 : height_limit 31 ≡ 6
unfolding height_limit fibonacci
limit_31 = refl

fibonacci_70 : fibonacci 70 ≡ 190392490709135
unfolding fibonacci
fibonacci_70 = refl

limit_most : height_limit 281474976710656 ≡ 68
limit_most = sym (stops_is 281474976710656 68 (stops 281474976710656 68 (inr (omega (arith, fibonacci_70))) (omega (arith, fibonacci_71))))

pub returns-clause-marks : goal.returns-clause-marks
returns-clause-marks c = record { empty = refl; one_byte = refl; in_a_row = refl; same_end = refl }

pub returns-clause-limits : goal.returns-clause-limits
returns-clause-limits c = record {
  two = limit_2;
  seven = limit_7;
  thirty_one = limit_31;
  most = limit_most;
  no_bytes = omega (arith, limit_0);
  eleven = omega (arith, limit_11);
  one_most = omega (arith, limit_most);
  eight_most = omega (arith, limit_most);
}
