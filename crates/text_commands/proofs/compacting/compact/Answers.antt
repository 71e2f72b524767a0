use Rattle.text_commands.proofs.Names.{Accepted, AllByRecursion, Answer, Answers, ap, arith, at, Book, Bool, Compacts, counted_of, covered_of, Doc, false, Files, inr}
use Rattle.text_commands.proofs.Names.{IsConsistent, length, List, Named, never, no_steps, Node, none_paid, none_placed_part, not_asked, not_begun, ok_text}
use Rattle.text_commands.proofs.Names.{once_accepted, Option, Places, queries_of, refl, Registers, Serves, SessionState, state_of, tables-within, tables_of, world, ℕ}
use Rattle.text_commands.proofs.Names.{◌+◌, ◌-◌, ◌∙◌, ◌≡◌, ◌≤◌}
use Rattle.slp_model.specs.Nodes.{pair_count}
use Rattle.slp_model.specs.Thin.{rank}
use Rattle.doc_compact.specs.Compacted.{IsCompacted}
use Rattle.query_book.specs.Renumbering.{ranked}
use Rattle.script_syntax.specs.declared.form.Command.TheVariants as form
use Rattle.query_book.proofs.TableLemmas.{length-moved, sum-moved}
use Rattle.store_compact.proofs.Ranks.{pairs-few, pairs-kept}
use Rattle.text_commands.proofs.Facts.{stays_freely}
use Rattle.text_commands.proofs.compacting.compact.Goals as goal

-- the effect of compacting a session
module _ (h : SessionState) (store : List Node) (docs : List Doc) (versions : Named (List Doc)) (book : Book) (keep : List Bool) (number : ℕ) (answer : Answer) (files : Option Files) (faults looks pairs places : ℕ)
    (is : IsConsistent h) (few : length h.store ≤ 256 + pair_count h.store) (c : IsCompacted h.store h.docs h.versions keep store docs versions)
    (serves : Serves store book) (states : book.states ≡ h.book.states) (same : queries_of book ≡ queries_of h.book) (moved : covered_of book ≡ ranked keep (covered_of h.book)) (counts_moved : counted_of book ≡ ranked keep (counted_of h.book))
    (accepted : answer.told ≡ Accepted) (written : answer.line.items ≡ ok_text) where
  fewer_pairs : pair_count store ≤ pair_count h.store
  fewer_pairs = rw c.thin_is (pairs-kept (rank keep) h.store keep)

  one_placed : (old new : Named ℕ) → AllByRecursion (λ p. p.1 ≤ length h.store) old → new ≡ ranked keep old → Places 0 (length h.store - length store) (length store) old new places places
  one_placed old new within is = λ n le.
      let sums = sum-moved keep (length h.store) old (omega (arith, c.plan.long)) within in
      rw (is, length-moved keep old, c.trees.long) (omega (arith, sums))

  compact_answers : Answers (at h files faults looks pairs places) number form.Compact (at (record h { store = store; docs = docs; versions = versions; book = book }) files faults looks pairs places) answer
  compact_answers =
      let within = tables-within h.store h.book is.serves in
      let none = none_placed_part (length h.store) (length h.store) (tables_of h.book) places within in
      record {
        goes = record {
          session = record { live = c.live; kept = c.kept; serves = serves };
          bounded = record {
            nodes = inr tt;
            pairs = omega (arith, fewer_pairs);
            calls = omega arith;
            begun = not_begun (world (state_of h) files) form.Compact looks pairs;
            counts = false;
            asked = not_asked;
            placed = record { between = none.between; tables = λ n least le. none.tables n least least; counting = λ n least le. none.counting n least least; unasked = none.unasked };
            faults = omega arith;
          };
        };
        sound = refl;
        carries = rw accepted (written, λ i. world (record { most_states = states i; documents = c.texts i; queries = same i; versions = c.versions i }) files);
        paid = (no_steps, refl, none_paid looks pairs pairs refl);
        tallies = record {
          queries = 0;
          registered = never (Registers form.Compact) (λ no. no) answer.told;
          compactions = 1;
          compacted = once_accepted (Compacts form.Compact) tt answer.told accepted;
          dropped = length h.store - length store;
          none_dropped = λ no. let bad : ⊥ = cc no in absurd bad;
          reached = λ _. c.reached;
          kept = λ _. record { keep = keep; thin = c.trees; covered = moved; counted = counts_moved };
          nodes = omega arith;
          pairs = omega (arith, few, fewer_pairs, pairs-few store);
          counts = false;
          asked = not_asked;
          placed = record {
            between = places;
            tables = one_placed (covered_of h.book) (covered_of book) within.covered moved;
            counting = one_placed (counted_of h.book) (counted_of book) within.counted counts_moved;
            unasked = λ _. refl;
          };
        };
      }

pub returns-in_err-moves-clause-stopped : goal.returns-in_err-moves-clause-stopped
returns-in_err-moves-clause-stopped c =
    let e = c.in_err-moves.ensures in
    rw (e.store, e.docs, e.versions) (stays_freely c.args.session.now c.args.number form.Compact _ c.requires c.from_residual-in_err-moves.ensures.1)

pub returns-clause-done : goal.returns-clause-done
returns-clause-done c = λ files faults looks pairs places.
    let h = c.args.session.now in
    let n = c.compact.new in
    let b = c.renumber.ensures in
    let whole = c.in_ok-moves.ensures.compacted in
    compact_answers h n.store n.docs n.versions c.renumber.new.self c.in_ok-moves.moves c.args.number c.accepted.result files faults looks pairs places c.requires c.count.ensures.few whole
    (b.serves h.store n.store whole.trees c.requires.serves) b.states b.queries b.covered b.counted c.accepted.ensures.0 (ap (λ v. v.items) c.accepted.ensures.1 ∙ c.in_ok-line.ensures)
