-- How the counts of an object of the outside change in a call. A count never decreases. A call returns a fault or
-- allocation failure only if that count increased, and a call that returns anything else leaves every count unchanged.
use Rattle.std.specs.Prelude.{◌≡◌, ℕ, ◌+◌, ◌-◌, ◌^◌, ◌≤◌, min, Result, OnOk, OnErr, IsErrOf}
use Rattle.edge_io.specs.declared.PutRefusal.{PutRefusal}
use Rattle.edge_io.specs.declared.PutRefusal.TheVariants as put
use Rattle.edge_io.specs.declared.ShelfRefusal.{ShelfRefusal}
use Rattle.edge_io.specs.declared.ShelfRefusal.TheVariants as shelf
use Rattle.edge_io.specs.declared.WriteRefusal.{WriteRefusal}
use Rattle.edge_io.specs.declared.WriteRefusal.TheVariants.{Failed, NoMemory}

-- a count of 64 bits with one more, which stops at its last value
abbrev pub one_more : ℕ → ℕ
one_more n = min (n + 1) (2 ^ 64 - 1)

-- a count of 64 bits increased, or is at its last value
abbrev pub HasIncreased : ℕ → ℕ → Type 0
HasIncreased before now = one_more before ≤ now

-- the count of faults and that of allocation failures are unchanged
abbrev pub AreUnchanged : ℕ → ℕ → ℕ → ℕ → Type 0
AreUnchanged faults_before faults_now wants_before wants_now = (faults_now ≡ faults_before) × (wants_now ≡ wants_before)

-- the count never decreases, an `Err` comes only if it increased, and an `Ok` only if it is unchanged
pub record HasCause {T E : Type 0} (before now : ℕ) (result : Result T E) : Type 0 where
  pub later : before ≤ now
  pub failed : OnErr result (HasIncreased before now)
  pub kept : OnOk result (now ≡ before)

-- the same for the two errors of a write, each with its own count
pub record HasWriteCause {T : Type 0} (faults_before faults_now wants_before wants_now : ℕ) (result : Result T WriteRefusal) : Type 0 where
  pub later : faults_before ≤ faults_now
  pub wants_later : wants_before ≤ wants_now
  pub failed : IsErrOf result Failed → HasIncreased faults_before faults_now
  pub wanted : IsErrOf result NoMemory → HasIncreased wants_before wants_now
  pub kept : OnOk result (AreUnchanged faults_before faults_now wants_before wants_now)

-- the same for a read from a file store, which also leaves the counts unchanged if it returns `Absent` or `Denied`
pub record HasShelfCause {T : Type 0} (faults_before faults_now wants_before wants_now : ℕ) (result : Result T ShelfRefusal) : Type 0 where
  pub later : faults_before ≤ faults_now
  pub wants_later : wants_before ≤ wants_now
  pub failed : IsErrOf result shelf.Failed → HasIncreased faults_before faults_now
  pub wanted : IsErrOf result shelf.NoMemory → HasIncreased wants_before wants_now
  pub kept : OnOk result (AreUnchanged faults_before faults_now wants_before wants_now)
  pub kept_absent : IsErrOf result shelf.Absent → AreUnchanged faults_before faults_now wants_before wants_now
  pub kept_denied : IsErrOf result shelf.Denied → AreUnchanged faults_before faults_now wants_before wants_now

-- the same for a put to a file store, which also leaves the counts unchanged if it returns `Denied`
pub record HasPutCause {T : Type 0} (faults_before faults_now wants_before wants_now : ℕ) (result : Result T PutRefusal) : Type 0 where
  pub later : faults_before ≤ faults_now
  pub wants_later : wants_before ≤ wants_now
  pub failed : IsErrOf result put.Failed → HasIncreased faults_before faults_now
  pub wanted : IsErrOf result put.NoMemory → HasIncreased wants_before wants_now
  pub kept : OnOk result (AreUnchanged faults_before faults_now wants_before wants_now)
  pub kept_denied : IsErrOf result put.Denied → AreUnchanged faults_before faults_now wants_before wants_now
