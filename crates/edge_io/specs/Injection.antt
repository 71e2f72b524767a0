-- Faults by call number: what an object in memory exposes of its calls.
use Rattle.std.specs.Prelude.{ℕ, ◌==◌, Bool, List, if◌then◌else◌}
use Rattle.std.specs.List.{list_any}
use Rattle.edge_io.specs.Causes.{one_more}

-- the numbers of the calls that are to fail, how many calls were made, and how many of them failed
pub record Injection : Type 0 where
  pub failing : List ℕ
  pub calls : ℕ
  pub faults : ℕ

-- before the first call
abbrev pub fresh : List ℕ → Injection
fresh failing = record { failing = failing; calls = 0; faults = 0 }

-- whether the number of the next call is among those that are to fail
abbrev pub fails_next : Injection → Bool
fails_next i = list_any (λ n. n == one_more i.calls) i.failing

-- one call later
abbrev pub after_call : Injection → Injection
after_call i = record { failing = i.failing; calls = one_more i.calls; faults = if fails_next i then one_more i.faults else i.faults }
