-- The sum over lines, one more line, and runs that ended before their first line.
use Rattle.std.proofs.Common.{[], ap, append_assoc, arith, Bool, false, if◌then◌else◌, inl, inr, length, List, None, Option, refl, subst, suc, sym, true, ℕ}
use Rattle.std.proofs.Common.{◌*◌, ◌++◌, ◌+◌, ◌||◌, ◌∙◌, ◌∷◌, ◌≡◌, ◌≤◌}
use Rattle.std.proofs.KnownBytes.{Appends-nil}
use Rattle.std.proofs.Math.Nat.{mul-le-mul_left}
use Rattle.std.proofs.lemmas.List.{append-nil}
use Rattle.edge_io.specs.Files.{Files}
use Rattle.span_language.specs.Allowance.{Allowance, both_of, Counters, IsPaid, no_steps}
use Rattle.span_language.specs.Runs.{Adds, both, Ending, most_nodes, no_lines, Outside, PlacesFew, Runs, RunsPrefix, start, Sum, UnlessList}
use Rattle.span_language.specs.State.{World}

pub or_false : (a : Bool) → (a || false) ≡ a
or_false true = refl
or_false false = refl

or_assoc : (a b c : Bool) → ((a || b) || c) ≡ (a || (b || c))
or_assoc true b c = refl
or_assoc false b c = refl

both_of-none : (a : Allowance) → both_of no_steps a ≡ both_of a no_steps
both_of-none a =
    let l : 0 + a.looks ≡ a.looks + 0 = omega arith in
    let p : 0 + a.pairs ≡ a.pairs + 0 = omega arith in
    λ i. record { looks = l i; pairs = p i }

both_of-assoc : (a b c : Allowance) → both_of (both_of a b) c ≡ both_of a (both_of b c)
both_of-assoc a b c =
    let l : a.looks + b.looks + c.looks ≡ a.looks + (b.looks + c.looks) = omega arith in
    let p : a.pairs + b.pairs + c.pairs ≡ a.pairs + (b.pairs + c.pairs) = omega arith in
    λ i. record { looks = l i; pairs = p i }

both-none : (a : Sum) → both no_lines a ≡ both a no_lines
both-none a =
    let r = sym (or_false a.refused) in
    let o = sym (append-nil a.output) in
    let c = both_of-none a.cost in
    let q : 0 + a.queries ≡ a.queries + 0 = omega arith in
    let k : 0 + a.compactions ≡ a.compactions + 0 = omega arith in
    let n = sym (or_false a.counted) in
    λ i. record { refused = r i; output = o i; cost = c i; queries = q i; compactions = k i; counted = n i }

both-assoc : (a b c : Sum) → both (both a b) c ≡ both a (both b c)
both-assoc a b c =
    let r = or_assoc a.refused b.refused c.refused in
    let o = append_assoc a.output b.output c.output in
    let d = both_of-assoc a.cost b.cost c.cost in
    let q : a.queries + b.queries + c.queries ≡ a.queries + (b.queries + c.queries) = omega arith in
    let k : a.compactions + b.compactions + c.compactions ≡ a.compactions + (b.compactions + c.compactions) = omega arith in
    let n = or_assoc a.counted b.counted c.counted in
    λ i. record { refused = r i; output = o i; cost = d i; queries = q i; compactions = k i; counted = n i }

pub both_paid : (a b : Allowance) (x y z : Counters) → IsPaid a x y → IsPaid b y z → IsPaid (both_of a b) x z
both_paid a b x y z first second = record { looks = omega (arith, first.looks, second.looks); pairs = omega (arith, first.pairs, second.pairs) }

pub nothing_paid : (x : Counters) → IsPaid no_steps x x
nothing_paid x = record { looks = omega arith; pairs = omega arith }

-- a run and one more line
pub one_more : (old : World) (number : ℕ) (done : List (List ℕ)) (sum : Sum) (mid : World) (line : List ℕ) (one : Sum) (new : World)
    → Runs old number done sum mid → Adds mid (number + length done) line one new → Runs old number (done ++ line ∷ []) (both sum one) new
one_more old number [] sum mid line one new (none, same) adds =
    let at : number + 0 ≡ number = omega arith in
    let here : Adds old number line one new = subst (λ (w : World). Adds w number line one new) same (subst (λ (k : ℕ). Adds mid k line one new) at adds) in
    (one, no_lines, new, here, (refl, refl), ap (λ (s : Sum). both s one) none ∙ both-none one)
one_more old number (first ∷ done) sum mid line one new (head, rest, m, first_adds, ran, is) adds =
    let at : number + suc (length done) ≡ (number + 1) + length done = omega arith in
    let more = one_more m (number + 1) done rest mid line one new ran (subst (λ (k : ℕ). Adds mid k line one new) at adds) in
    (head, both rest one, m, first_adds, more, ap (λ (s : Sum). both s one) is ∙ both-assoc head rest one)

-- the bound on the number of tables, by the number of nodes that ever existed
pub few_of : (asked : Bool) (sum : Sum) (before after : Outside) (nodes : ℕ) → nodes ≤ most_nodes sum before after → after.places ≤ before.places + (if asked then 2 else 1) * (sum.queries * nodes) → PlacesFew asked sum before after
few_of true sum before after nodes grown few =
    let products : sum.queries * nodes ≤ sum.queries * most_nodes sum before after = mul-le-mul_left sum.queries grown in
    omega (arith, few, products)
few_of false sum before after nodes grown few =
    let products : sum.queries * nodes ≤ sum.queries * most_nodes sum before after = mul-le-mul_left sum.queries grown in
    omega (arith, few, products)

-- a run that ended before its first line
pub none_ran : (Ends : Ending) (lines : List (List ℕ)) (most : ℕ) (before : Outside) → Ends None [] before.files before.files → RunsPrefix Ends lines most before before
none_ran Ends lines most before ends = record {
  done = [];
  left = lines;
  cut = refl;
  sum = no_lines;
  mid = start most before;
  ran = (refl, refl);
  part = [];
  last = no_steps;
  counted = false;
  next = inl (refl, refl, refl, refl, ends);
  wrote = Appends-nil before.written;
  paid = record { looks = omega arith; pairs = omega arith };
  placed = omega arith;
}

pub none_written : (wants : ℕ) (files : Option Files) → UnlessList wants wants None [] files files
none_written wants files = λ list. inr refl
