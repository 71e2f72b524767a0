use Rattle.std.proofs.Common.{◌≡◌, ◌∙◌, ap, sym, arith, length, map, get_or, None}
use Rattle.std.proofs.lemmas.List.{length-map}
use Rattle.state_tables.specs.Coded.{step_of}
use Rattle.state_tables.specs.Dictionary.{count_of}
use Rattle.table_grow.proofs.Placed.{place-read}
use Rattle.table_grow.proofs.filler.Filler.new.Goals as goal

pub returns-clause-empty : goal.returns-clause-empty
returns-clause-empty c = λ i. place-read c.loop-i.places.items i ∙ ap step_of (c.loop-i.invariant.empty i)

pub returns-clause-fits : goal.returns-clause-fits
returns-clause-fits c =
    let codes = c.loop-i.places.items in
    let len : length (map step_of codes) ≡ length codes = length-map codes step_of in
    let size = c.loop-i.invariant.count in
    let nodes = c.count.ensures.count in
    let known = c.count-known.ensures.count in
    let room = c.in_ok-reserve.ensures.ok in
    record {
      nodes_fit = omega (arith, len, size, nodes, known, c.requires);
      tables_fit = ap count_of c.reserve.ensures.same ∙ sym known;
      room_fits = omega (arith, len, size, room);
      kept_fit = λ i n h.
          let none : get_or (map step_of codes) i None ≡ None = returns-clause-empty c i in
          absurd (cc);
    }
