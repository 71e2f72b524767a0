-- What each use of an argument without a fault keeps, a walk over the words without a fault keeps.
use Rattle.std.proofs.Common.{◌≡◌, ◌∷◌, ◌&&◌, [], List, ℕ, zero, suc, Bool, true, false, not, length, drop, refl}
use Rattle.std.specs.Prelude.{Option, Some, None, is_some, if◌then◌else◌, find, encode_utf8, slice_get}
use Rattle.std.specs.Option.{option_map_or}
use Rattle.std.specs.List.{fold}
use Rattle.std.specs.Str.{bytes_eq, chars}
use Rattle.clap.specs.Lexer.{long_of, short_of}
use Rattle.clap.specs.Kinds.{Kinds, or_else}
use Rattle.clap.specs.declared.error.kind.ErrorKind.TheVariants as kind
use Rattle.clap.specs.Simple.{Shape}
use Rattle.clap.specs.Walk.{Held, Names, Outcome, Row, Rule, Step, Text, Waiting, Walk, done, waits, plain, refused, idle, option, positional, next, trailing, subcommand, value}
use Rattle.clap.specs.Walk.{after_flag, after_step, arg_by_id, arg_by_index, arg_by_long, arg_by_short, attached_value, bundle_met, bundle_step, flag_met, has_long, has_short, is_pending, long_met, long_or_other, option_met, option_word, plain_word, reacted, settled, settled_rows, short_met, short_or_plain, subcommand_met, subcommand_or_other, takes_several, takes_values, to_positional, used, used_by_id, walked, walked_from, word_met}
use Rattle.clap.specs.Faults.{bundle_step_fault, flag_word_fault, flags_fault, long_fault, option_fault, other_fault, positional_fault, react_fault, settle_fault, short_fault, step_fault, stray_fault, turn_fault, use_fault, walk_fault, word_fault}

pub neither : (one other : Kinds) → or_else one other ≡ [] → (one ≡ []) × (other ≡ [])
neither [] other e = (refl, e)
neither (k ∷ ks) other e = cc

module _ (s : Shape) (G : List Row → Type 0) (uses : (find_by : Rule → Bool) (a : Rule) (values : List Text) (rows : List Row) → find find_by s.rules ≡ Some a → use_fault s.args_override_self a values rows ≡ [] → G rows → G (used a values rows)) where
  settled_by_id : (find_by : Rule → Bool) (found : Option Rule) (values : List Text) (rows : List Row) → find find_by s.rules ≡ found → option_map_or (λ a. use_fault s.args_override_self a values rows) found [] ≡ [] → G rows → G (used_by_id found values rows)
  settled_by_id find_by None values rows e fault g = g
  settled_by_id find_by (Some a) values rows e fault g = uses find_by a values rows e fault g

  settled_pending : (pending : Option (Text × List Text)) (rows : List Row) → option_map_or (λ p. option_map_or (λ a. use_fault s.args_override_self a p.1 rows) (arg_by_id s.rules p.0) []) pending [] ≡ [] → G rows → G (settled_rows s.rules pending rows)
  settled_pending None rows fault g = g
  settled_pending (Some p) rows fault g = settled_by_id (λ a. bytes_eq a.id p.0) (arg_by_id s.rules p.0) p.1 rows refl fault g

  pub settle_kept : (h : Held) → settle_fault s.rules s.args_override_self h ≡ [] → G h.rows → G (settled s.rules h).rows
  settle_kept h fault g = settled_pending h.pending h.rows fault g

  react_kept : (find_by : Rule → Bool) (a : Rule) (values : List Text) (h : Held) → find find_by s.rules ≡ Some a → react_fault s.rules s.args_override_self a values h ≡ [] → G h.rows → G (reacted s.rules a values h).rows
  react_kept find_by a values h e fault g =
      let faults = neither _ _ fault in
      uses find_by a values (settled s.rules h).rows e faults.1 (settle_kept h faults.0 g)

  option_kept : (find_by : Rule → Bool) (a : Rule) (v : Option Text) (h : Held) → find find_by s.rules ≡ Some a → option_fault s.rules s.args_override_self a v h ≡ [] → G h.rows → G (option_met s.rules a v h).0.rows
  option_kept find_by a (Some v) h e fault g = react_kept find_by a (v ∷ []) h e fault g
  option_kept find_by a None h e fault g = settle_kept h fault g

  flag_kept : (find_by : Rule → Bool) (a : Rule) (v : Option Text) (h : Held) → find find_by s.rules ≡ Some a → (if is_some v then kind.TooManyValues ∷ [] else react_fault s.rules s.args_override_self a [] h) ≡ [] → G h.rows → G (flag_met s.rules a v h).0.rows
  flag_kept find_by a (Some v) h e fault g = g
  flag_kept find_by a None h e fault g = react_kept find_by a [] h e fault g

  long_by_kind : (takes : Bool) (find_by : Rule → Bool) (a : Rule) (v : Option Text) (h : Held) → find find_by s.rules ≡ Some a → (if takes then option_fault s.rules s.args_override_self a v h else (if is_some v then kind.TooManyValues ∷ [] else react_fault s.rules s.args_override_self a [] h)) ≡ [] → G h.rows → G (if takes then option_met s.rules a v h else flag_met s.rules a v h).0.rows
  long_by_kind true find_by a v h e fault g = option_kept find_by a v h e fault g
  long_by_kind false find_by a v h e fault g = flag_kept find_by a v h e fault g

  long_kept : (find_by : Rule → Bool) (found : Option Rule) (v : Option Text) (h : Held) → find find_by s.rules ≡ found → long_fault s.rules s.args_override_self found v h ≡ [] → G h.rows → G (long_met s.rules found v h).0.rows
  long_kept find_by None v h e fault g = g
  long_kept find_by (Some a) v h e fault g = long_by_kind (takes_values a) find_by a v h e fault g

  short_by_kind : (takes : Bool) (find_by : Rule → Bool) (a : Rule) (rest : Text) (h : Held) (then_fault : Held → Kinds) (then_met : Held → Held × Outcome) → find find_by s.rules ≡ Some a
      → ((k : Held) → then_fault k ≡ [] → G k.rows → G (then_met k).0.rows)
      → (if takes then option_fault s.rules s.args_override_self a (attached_value rest) h else or_else (react_fault s.rules s.args_override_self a [] h) (then_fault (reacted s.rules a [] h))) ≡ []
      → G h.rows → G (if takes then option_met s.rules a (attached_value rest) h else then_met (reacted s.rules a [] h)).0.rows
  short_by_kind true find_by a rest h then_fault then_met e later fault g = option_kept find_by a (attached_value rest) h e fault g
  short_by_kind false find_by a rest h then_fault then_met e later fault g =
      let faults = neither _ _ fault in
      later (reacted s.rules a [] h) faults.1 (react_kept find_by a [] h e faults.0 g)

  short_kept : (find_by : Rule → Bool) (found : Option Rule) (rest : Text) (h : Held) (then_fault : Held → Kinds) (then_met : Held → Held × Outcome) → find find_by s.rules ≡ found
      → ((k : Held) → then_fault k ≡ [] → G k.rows → G (then_met k).0.rows)
      → short_fault s.rules s.args_override_self found rest h then_fault ≡ [] → G h.rows → G (short_met s.rules found rest h then_met).0.rows
  short_kept find_by None rest h then_fault then_met e later fault g = g
  short_kept find_by (Some a) rest h then_fault then_met e later fault g = short_by_kind (takes_values a) find_by a rest h then_fault then_met e later fault g

  bundle_step_kept : (found : Option ℕ) (flags : Text) (skip : ℕ) (so_far : Outcome) (h : Held) (then_fault : Text → ℕ → Held → Kinds) (then_met : Text → ℕ → Outcome → Held → Held × Outcome)
      → ((rest : Text) (n : ℕ) (outcome : Outcome) (k : Held) → then_fault rest n k ≡ [] → G k.rows → G (then_met rest n outcome k).0.rows)
      → bundle_step_fault s.rules s.args_override_self found flags skip h then_fault ≡ [] → G h.rows → G (bundle_step s.rules found flags skip so_far h then_met).0.rows
  bundle_step_kept None flags skip so_far h then_fault then_met later fault g = g
  bundle_step_kept (Some x) flags zero so_far h then_fault then_met later fault g =
      let rest = drop (length (encode_utf8 x)) flags in
      short_kept (λ a. not (is_some a.index) && has_short a x) (arg_by_short s.rules x) rest h (then_fault rest 0) (then_met rest 0 done) refl (later rest 0 done) fault g
  bundle_step_kept (Some x) flags (suc skip) so_far h then_fault then_met later fault g = later (drop (length (encode_utf8 x)) flags) skip so_far h fault g

  bundle_kept : (n : ℕ) (flags : Text) (skip : ℕ) (so_far : Outcome) (h : Held) → flags_fault s.rules s.args_override_self n flags skip h ≡ [] → G h.rows → G (bundle_met s.rules n flags skip so_far h).0.rows
  unfolding flags_fault bundle_met
  bundle_kept zero flags skip so_far h fault g = g
  bundle_kept (suc n) flags skip so_far h fault g = bundle_step_kept (slice_get (chars flags) 0) flags skip so_far h (flags_fault s.rules s.args_override_self n) (bundle_met s.rules n) (bundle_kept n) fault g

  option_word_kept : (found : Option Rule) (id word : Text) (h : Held) → G h.rows → G (option_word found id word h).0.rows
  option_word_kept None id word h g = g
  option_word_kept (Some a) id word h g = g

  plain_kept : (waiting : Waiting) (word : Text) (h : Held) → G h.rows → G (plain_word s.rules waiting word h).0.rows
  plain_kept idle word h g = g
  plain_kept (option id) word h g = option_word_kept (arg_by_id s.rules id) id word h g
  plain_kept positional word h g = g

  after_flag_kept : (waiting : Waiting) (word : Text) (h : Held) (outcome : Outcome) → G h.rows → G (after_flag s.rules waiting word h outcome).0.rows
  after_flag_kept waiting word h done g = g
  after_flag_kept waiting word h (waits id) g = g
  after_flag_kept waiting word h plain g = plain_kept waiting word h g
  after_flag_kept waiting word h refused g = plain_kept waiting word h g

  short_or_plain_kept : (waiting : Waiting) (word : Text) (flags : Option Text) (h : Held) → option_map_or (λ f. flags_fault s.rules s.args_override_self (length f) f h.skip (record h { skip = 0 })) flags [] ≡ [] → G h.rows → G (short_or_plain s.rules waiting word flags h).0.rows
  short_or_plain_kept waiting word None h fault g = plain_kept waiting word h g
  short_or_plain_kept waiting word (Some f) h fault g =
      let met = bundle_met s.rules (length f) f h.skip plain (record h { skip = 0 }) in
      after_flag_kept waiting word met.0 met.1 (bundle_kept (length f) f h.skip plain (record h { skip = 0 }) fault g)

  long_or_other_kept : (waiting : Waiting) (word : Text) (long : Option (Text × Option Text)) (h : Held) → flag_word_fault s.rules s.args_override_self long word h ≡ [] → G h.rows → G (long_or_other s.rules waiting word long h).0.rows
  long_or_other_kept waiting word (Some p) h fault g =
      let met = long_met s.rules (arg_by_long s.rules p.0) p.1 h in
      after_flag_kept waiting word met.0 met.1 (long_kept (λ a. not (is_some a.index) && has_long a p.0) (arg_by_long s.rules p.0) p.1 h refl fault g)
  long_or_other_kept waiting word None h fault g = short_or_plain_kept waiting word (short_of word) h fault g

  dashes_kept : (is_dashes : Bool) (waiting : Waiting) (position : ℕ) (word : Text) (h : Held) → (if is_dashes then [] else flag_word_fault s.rules s.args_override_self (long_of word) word h) ≡ [] → G h.rows
      → G (if is_dashes then (let r : Held × Step = (h, trailing position) in r) else long_or_other s.rules waiting word (long_of word) h).0.rows
  dashes_kept true waiting position word h fault g = g
  dashes_kept false waiting position word h fault g = long_or_other_kept waiting word (long_of word) h fault g

  other_kept : (met : Option Text) (waiting : Waiting) (position : ℕ) (word : Text) (h : Held) → other_fault s met word h ≡ [] → G h.rows → G (subcommand_or_other s.rules met waiting position word h).0.rows
  other_kept (Some name) waiting position word h fault g = g
  other_kept None waiting position word h fault g = dashes_kept (bytes_eq word (45 ∷ 45 ∷ [])) waiting position word h fault g

  word_kept : (is_trailing : Bool) (names : Names) (waiting : Waiting) (position : ℕ) (word : Text) (h : Held) → word_fault s names is_trailing waiting word h ≡ [] → G h.rows → G (word_met s.rules names is_trailing waiting position word h).0.rows
  word_kept true names waiting position word h fault g = g
  word_kept false names waiting position word h fault g = other_kept (subcommand_met names waiting word) waiting position word h fault g

  pushed_kept : (stays : Bool) (a : Rule) (h : Held) → (if stays then [] else settle_fault s.rules s.args_override_self h) ≡ [] → G h.rows → G (if stays then h else settled s.rules h).rows
  pushed_kept true a h fault g = g
  pushed_kept false a h fault g = settle_kept h fault g

  positional_kept : (found : Option Rule) (word : Text) (w : Walk) (h : Held) → option_map_or (λ a. positional_fault s.rules s.args_override_self a h) found (stray_fault s) ≡ [] → G h.rows → G (to_positional s.rules found word w h).held.rows
  positional_kept None word w h fault g = g
  positional_kept (Some a) word w h fault g = pushed_kept (is_pending a h.pending && takes_several a) a h fault g

  step_kept : (word : Text) (w : Walk) (h : Held) (step : Step) → step_fault s w.position h step ≡ [] → G h.rows → G (after_step s.rules word w h step).held.rows
  step_kept word w h (next waiting) fault g = g
  step_kept word w h (trailing position) fault g = g
  step_kept word w h (subcommand name) fault g = g
  step_kept word w h value fault g = positional_kept (arg_by_index s.rules w.position) word w h fault g

  from_kept : (stopped : Option (Text × List Text)) (names : Names) (w : Walk) (word : Text)
      → (let met = word_met s.rules names w.is_trailing w.waiting w.position word w.held in
      if is_some stopped then [] else or_else (word_fault s names w.is_trailing w.waiting word w.held) (step_fault s w.position met.0 met.1)) ≡ []
      → G w.held.rows → G (walked_from s.rules names stopped w word).held.rows
  from_kept (Some p) names w word fault g = g
  from_kept None names w word fault g =
      let met = word_met s.rules names w.is_trailing w.waiting w.position word w.held in
      let faults = neither _ _ fault in
      step_kept word w met.0 met.1 faults.1 (word_kept w.is_trailing names w.waiting w.position word w.held faults.0 g)

  turn_kept : (names : Names) (w : Walk) (word : Text) → turn_fault s names w word ≡ [] → G w.held.rows → G (walked s.rules names w word).held.rows
  unfolding walked
  turn_kept names w word fault g = from_kept w.stopped names w word fault g

  pub walk_kept : (names : Names) (words : List Text) (w : Walk) → walk_fault s names w words ≡ [] → G w.held.rows → G (fold (walked s.rules names) w words).held.rows
  unfolding walk_fault
  walk_kept names [] w fault g = g
  walk_kept names (word ∷ rest) w fault g =
      let faults = neither _ _ fault in
      walk_kept names rest (walked s.rules names w word) faults.1 (turn_kept names w word faults.0 g)
