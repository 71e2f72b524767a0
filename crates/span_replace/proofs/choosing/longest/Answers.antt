use Rattle.std.proofs.Common.{length, min}
use Rattle.span_types.specs.Fibonacci.{looks_limit}
use Rattle.slp_model.specs.Nodes.{text_of}
use Rattle.span_replace.specs.Longest.{longest}
use Rattle.span_replace.proofs.Picks.{paid-half}
use Rattle.span_replace.proofs.choosing.longest.Goals as goal

pub returns-clause-cost : goal.returns-clause-cost
returns-clause-cost g c all answers =
    let n = length (text_of c.args.view.store.now c.args.root) in
    paid-half c.args.looks.now c.choose.new.looks (min (length (longest all)) 32768) (looks_limit 1 n) (c.choose.ensures.cost all answers)
