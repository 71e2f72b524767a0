-- The texts that clap keeps for the three options are numbers of their ranges.
use Rattle.std.proofs.Common.{◌≡◌, ◌≤◌, ◌∷◌, ◌++◌, [], List, ℕ, pos, Bool, true, false, cond, codes, get_or, ap, arith, refl, subst, sym, inl, inr}
use Rattle.std.specs.Prelude.{Option, Some, None, find, slice_get, if◌then◌else◌, ◌⊎◌}
use Rattle.std.specs.Option.{option_and_then}
use Rattle.std.specs.Str.{bytes_eq}
use Rattle.std.specs.Str.Parse.{digits_value, starts_with_minus, without_leading_plus}
use Rattle.std.proofs.lemmas.Slice.Eq.{bytes_eq-Decides}
use Rattle.std.proofs.lemmas.Int.{ints}
use Rattle.clap.specs.Kinds.{value_kinds, values_kinds}
use Rattle.clap.specs.Values.{IsSignedIn}
use Rattle.clap.specs.ValueTests.{accepts}
use Rattle.clap.specs.Walk.{Row, Rule, Text, at_row, more_values, first_of, has_row, used, with_default, default_rows, with_values, without, nothing_held, reading_by, settled, values_or_missing, walk, walk_from}
use Rattle.clap.specs.Faults.{use_fault}
use Rattle.clap.specs.declared.builder.value_parser.Reading.{Reading}
use Rattle.clap.specs.declared.builder.value_parser.ValueParser.TheVariants as vp
use Rattle.clap.specs.declared.parser.matches.ValueSource.TheVariants.{CommandLine}
use Rattle.clap.specs.Simple.{built, filled, help_rule, matches_of, with_index, Shape}
use Rattle.clap.specs.declared.error.kind.ErrorKind.TheVariants as kind
use Rattle.clap.proofs.ValueTestLemmas.{accepts-Accepts}
use Rattle.span_words.specs.Words.{AsksFor, AsksForOr, ClapTakes, IsNumber, Words, number_rule, spanbase_app, text_of}
use Rattle.span_words.proofs.Kept.{neither, settle_kept, walk_kept}

-- a signed number of 1 or more is written without a minus
number_at : (minus : Bool) (least most : ℕ) (text : Text) → 1 ≤ least → starts_with_minus text ≡ minus → IsSignedIn (pos least) (pos most) text → IsNumber least most text (digits_value 10 (without_leading_plus text))
number_at true least most text one e in_range =
    let low = rw e at in_range.2 in
    absurd (omega (arith, ints))
number_at false least most text one e in_range =
    let numeral = rw e at in_range.0 in
    let low = rw e at in_range.2 in
    let high = rw e at in_range.3 in
    record { digits = numeral; value = refl; at_least = omega (arith, ints); at_most = omega (arith, ints) }

number_of : (least most : ℕ) (text : Text) → 1 ≤ least → accepts false (vp.Signed (pos least) (pos most)) text ≡ true → IsNumber least most text (digits_value 10 (without_leading_plus text))
number_of least most text one passes = number_at (starts_with_minus text) least most text one refl (accepts-Accepts false (vp.Signed (pos least) (pos most)) text passes)

-- a value that the option with this name takes
abbrev pub Takes : Text → Text → Type 0
Takes name text =
    (name ≡ codes "workers" → accepts false (vp.Signed (pos 1) (pos 64)) text ≡ true)
    × (name ≡ codes "states" → accepts false (vp.Signed (pos 128) (pos 1024)) text ≡ true)
    × (name ≡ codes "demo" → accepts false (vp.Signed (pos 1) (pos 46)) text ≡ true)

abbrev pub TakesAll : Text → List Text → Type 0
TakesAll name [] = Unit {0}
TakesAll name (v ∷ vs) = Takes name v × TakesAll name vs

-- each row has values that its option takes
abbrev pub Good : List Row → Type 0
Good [] = Unit {0}
Good (r ∷ rs) = TakesAll r.id r.values × Good rs

takes_both : (name : Text) (vs ws : List Text) → TakesAll name vs → TakesAll name ws → TakesAll name (vs ++ ws)
takes_both name [] ws one other = other
takes_both name (v ∷ vs) ws one other = (one.0, takes_both name vs ws one.1 other)

good_both : (rs qs : List Row) → Good rs → Good qs → Good (rs ++ qs)
good_both [] qs one other = other
good_both (r ∷ rs) qs one other = (one.0, good_both rs qs one.1 other)

good_at_row : (id : Text) (change : Row → List Row) (missing rows : List Row) → ((r : Row) → bytes_eq r.id id ≡ true → TakesAll r.id r.values → Good (change r)) → Good missing → Good rows → Good (at_row id change missing rows)
good_at_row id change missing [] changed absent good = absent
good_at_row id change missing (r ∷ rs) changed absent good = go (bytes_eq r.id id) refl (good_at_row id change missing rs changed absent good.1)
  where
    go : (same : Bool) → bytes_eq r.id id ≡ same → Good (at_row id change missing rs) → Good (if same then change r ++ rs else r ∷ at_row id change missing rs)
    go true e later = good_both (change r) rs (changed r e good.0) good.1
    go false e later = (good.0, later)

good_set : (id : Text) (how : Reading) (values : List Text) (rows : List Row) → TakesAll id values → Good rows → Good (with_values id how CommandLine values (without id rows))
good_set id how values rows takes good =
    good_at_row id (more_values CommandLine values) _ (without id rows)
    (λ r e old. (takes_both r.id r.values values old (subst (λ (name : Text). TakesAll name values) (sym ((bytes_eq-Decides r.id id).0 e)) takes), tt))
    (takes, tt) (good_at_row id (λ _. []) [] rows (λ r e old. tt) tt good)

one_passes : (least most : ℕ) (v : Text) → value_kinds false (vp.Signed (pos least) (pos most)) v ≡ [] → accepts false (vp.Signed (pos least) (pos most)) v ≡ true
one_passes least most v e = go (accepts false (vp.Signed (pos least) (pos most)) v) e
  where
    go : (b : Bool) → (if b then [] else kind.ValueValidation ∷ []) ≡ [] → b ≡ true
    go true e = refl
    go false e = cc

takes_all : (name : Text) (least most : ℕ) → ((v : Text) → accepts false (vp.Signed (pos least) (pos most)) v ≡ true → Takes name v) → (vs : List Text) → values_kinds false (vp.Signed (pos least) (pos most)) vs ≡ [] → TakesAll name vs
takes_all name least most one [] e = tt
takes_all name least most one (v ∷ vs) e = let each = neither _ _ e in (one v (one_passes least most v each.0), takes_all name least most one vs each.1)

workers_take : (v : Text) → accepts false (vp.Signed (pos 1) (pos 64)) v ≡ true → Takes (codes "workers") v
workers_take v passes = (
  (λ same. passes),
  (λ same. let bad : 119 ≡ 115 = ap (λ l. get_or l 0 0) same in absurd (omega arith)),
  (λ same. let bad : 119 ≡ 100 = ap (λ l. get_or l 0 0) same in absurd (omega arith)),
)

states_take : (v : Text) → accepts false (vp.Signed (pos 128) (pos 1024)) v ≡ true → Takes (codes "states") v
states_take v passes = (
  (λ same. let bad : 115 ≡ 119 = ap (λ l. get_or l 0 0) same in absurd (omega arith)),
  (λ same. passes),
  (λ same. let bad : 115 ≡ 100 = ap (λ l. get_or l 0 0) same in absurd (omega arith)),
)

demo_takes : (v : Text) → accepts false (vp.Signed (pos 1) (pos 46)) v ≡ true → Takes (codes "demo") v
demo_takes v passes = (
  (λ same. let bad : 100 ≡ 119 = ap (λ l. get_or l 0 0) same in absurd (omega arith)),
  (λ same. let bad : 100 ≡ 115 = ap (λ l. get_or l 0 0) same in absurd (omega arith)),
  (λ same. passes),
)

abbrev ours : Shape
ours = (built spanbase_app).top

-- the rule is one of the list
abbrev Among : List Rule → Rule → Type 0
Among [] a = ⊥
Among (r ∷ rs) a = (r ≡ a) ⊎ Among rs a

among : (p : Rule → Bool) (rs : List Rule) (a : Rule) → find p rs ≡ Some a → Among rs a
among p [] a e = cc
among p (r ∷ rs) a e = go (p r) e (among p rs a)
  where
    go : (is : Bool) → cond is (Some r) (find p rs) ≡ Some a → (find p rs ≡ Some a → Among rs a) → (r ≡ a) ⊎ Among rs a
    go true e later = inl cc
    go false e later = inr (later e)

abbrev workers_rule : Rule
workers_rule = with_index 1 (filled (number_rule (codes "workers") 1 64))

abbrev states_rule : Rule
states_rule = with_index 1 (filled (number_rule (codes "states") 128 1024))

abbrev demo_rule : Rule
demo_rule = with_index 1 (filled (number_rule (codes "demo") 1 46))

abbrev flag_rule : Rule
flag_rule = with_index 1 (filled help_rule)

good_workers : (values : List Text) (rows : List Row) → use_fault false workers_rule values rows ≡ [] → Good rows → Good (used workers_rule values rows)
good_workers values rows fault good =
    let passed = neither _ _ (neither _ _ fault).1 in
    good_set (codes "workers") (reading_by workers_rule) (values_or_missing workers_rule values) rows (takes_all (codes "workers") 1 64 workers_take (values_or_missing workers_rule values) passed.1) good

good_states : (values : List Text) (rows : List Row) → use_fault false states_rule values rows ≡ [] → Good rows → Good (used states_rule values rows)
good_states values rows fault good =
    let passed = neither _ _ (neither _ _ fault).1 in
    good_set (codes "states") (reading_by states_rule) (values_or_missing states_rule values) rows (takes_all (codes "states") 128 1024 states_take (values_or_missing states_rule values) passed.1) good

good_demo : (values : List Text) (rows : List Row) → use_fault false demo_rule values rows ≡ [] → Good rows → Good (used demo_rule values rows)
good_demo values rows fault good =
    let passed = neither _ _ (neither _ _ fault).1 in
    good_set (codes "demo") (reading_by demo_rule) (values_or_missing demo_rule values) rows (takes_all (codes "demo") 1 46 demo_takes (values_or_missing demo_rule values) passed.1) good

good_uses : (find_by : Rule → Bool) (a : Rule) (values : List Text) (rows : List Row) → find find_by ours.rules ≡ Some a → use_fault ours.args_override_self a values rows ≡ [] → Good rows → Good (used a values rows)
good_uses find_by a values rows e =
    let P : Rule → Type 0 = λ b. use_fault false b values rows ≡ [] → Good rows → Good (used b values rows) in
    by P (good_workers values rows) (good_states values rows) (good_demo values rows) (λ fault good. good) (among find_by (workers_rule ∷ states_rule ∷ demo_rule ∷ flag_rule ∷ []) a e)
  where
    by : (P : Rule → Type 0) → P workers_rule → P states_rule → P demo_rule → P flag_rule → Among (workers_rule ∷ states_rule ∷ demo_rule ∷ flag_rule ∷ []) a → P a
    by P w s d f (inl is) = subst P is w
    by P w s d f (inr (inl is)) = subst P is s
    by P w s d f (inr (inr (inl is))) = subst P is d
    by P w s d f (inr (inr (inr (inl is)))) = subst P is f
    by P w s d f (inr (inr (inr (inr none)))) = absurd none

default_kept : (a : Rule) (rows : List Row) → a.defaults ≡ [] → Good rows → Good (with_default rows a)
default_kept a rows none good = go (has_row a.id rows) a.defaults none
  where
    go : (has : Bool) (defaults : List Text) → defaults ≡ [] → Good (if has then rows else default_rows a.id (reading_by a) defaults rows)
    go true defaults e = good
    go false [] e = good
    go false (v ∷ vs) e = cc

head_takes : (name : Text) (vs : List Text) (v : Text) → TakesAll name vs → slice_get vs 0 ≡ Some v → Takes name v
head_takes name [] v takes e = cc
head_takes name (w ∷ vs) v takes e = let same : w ≡ v = cc in subst (λ (u : Text). Takes name u) same takes.0

first_takes : (name : Text) (rows : List Row) (v : Text) → Good rows → first_of name rows ≡ Some v → Takes name v
first_takes name [] v good e = cc
first_takes name (r ∷ rs) v good e = go (bytes_eq r.id name) refl e (first_takes name rs v good.1)
  where
    go : (same : Bool) → bytes_eq r.id name ≡ same → option_and_then (λ q. slice_get q.values 0) (cond same (Some r) (find (λ q. bytes_eq q.id name) rs)) ≡ Some v → (first_of name rs ≡ Some v → Takes name v) → Takes name v
    go true same e later = subst (λ (id : Text). Takes id v) ((bytes_eq-Decides r.id name).0 same) (head_takes r.id r.values v good.0 e)
    go false same e later = later e

good_matches : (words : List Text) → ClapTakes words → Good (matches_of spanbase_app words)
good_matches words taken =
    let walked = neither _ _ taken in
    let below = neither _ _ walked.1 in
    let ended = neither _ _ below.1 in
    let end = (walk ours.rules [] nothing_held words).held in
    let rows = (settled ours.rules end).rows in
    let good : Good rows = settle_kept ours Good good_uses end ended.0 (walk_kept ours Good good_uses [] words (walk_from nothing_held) walked.0 tt) in
    let one = default_kept workers_rule rows refl good in
    let two = default_kept states_rule (with_default rows workers_rule) refl one in
    let three = default_kept demo_rule (with_default (with_default rows workers_rule) states_rule) refl two in
    default_kept flag_rule (with_default (with_default (with_default rows workers_rule) states_rule) demo_rule) refl three

workers_in : (text : Option Text) → ((v : Text) → text ≡ Some v → Takes (codes "workers") v) → (workers : ℕ) × AsksForOr 1 64 1 text workers
workers_in None takes = (1, refl)
workers_in (Some v) takes = (digits_value 10 (without_leading_plus v), number_of 1 64 v (omega arith) ((takes v refl).0 refl))

states_in : (text : Option Text) → ((v : Text) → text ≡ Some v → Takes (codes "states") v) → (states : ℕ) × AsksForOr 128 1024 128 text states
states_in None takes = (128, refl)
states_in (Some v) takes = (digits_value 10 (without_leading_plus v), number_of 128 1024 v (omega arith) ((takes v refl).1 refl))

demo_in : (text : Option Text) → ((v : Text) → text ≡ Some v → Takes (codes "demo") v) → (demo : Option ℕ) × AsksFor 1 46 text demo
demo_in None takes = (None, refl)
demo_in (Some v) takes = (Some (digits_value 10 (without_leading_plus v)), number_of 1 46 v (omega arith) ((takes v refl).2 refl))

pub reading_of : (words : List Text) → ClapTakes words → (workers : ℕ) × (states : ℕ) × (demo : Option ℕ) × Words words workers states demo
reading_of words taken =
    let good = good_matches words taken in
    let workers = workers_in (text_of (codes "workers") words) (λ v e. first_takes (codes "workers") (matches_of spanbase_app words) v good e) in
    let states = states_in (text_of (codes "states") words) (λ v e. first_takes (codes "states") (matches_of spanbase_app words) v good e) in
    let demo = demo_in (text_of (codes "demo") words) (λ v e. first_takes (codes "demo") (matches_of spanbase_app words) v good e) in
    (workers.0, states.0, demo.0, record { taken = taken; workers_asked = workers.1; states_asked = states.1; demo_asked = demo.1 })
