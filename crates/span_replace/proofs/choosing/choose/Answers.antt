use Rattle.std.proofs.Common.{length, min}
use Rattle.span_types.specs.Fibonacci.{looks_limit}
use Rattle.slp_model.specs.Nodes.{text_of}
use Rattle.span_enum.proofs.Exists.{answers-exist}
use Rattle.span_replace.specs.Search.{chosen_by, search_cost}
use Rattle.span_replace.proofs.Picks.{paid-none, paid-whole, some-looks}
use Rattle.span_replace.proofs.choosing.choose.Goals as goal

pub all_chosen-requires-clause-list : goal.all_chosen-requires-clause-list
all_chosen-requires-clause-list g c = rw c.in_ok-answers.ensures.listing (answers-exist c.args.dfa.now c.states-states.ensures.automaton _ c.check_text.ensures.bytes c.check_text.ensures.short)

pub returns-in_err-answers-clause-list : goal.returns-in_err-answers-clause-list
returns-in_err-answers-clause-list g c = answers-exist _ c.states-states.ensures.automaton _ c.check_text.ensures.bytes c.check_text.ensures.short

pub returns-in_err-answers-clause-cost : goal.returns-in_err-answers-clause-cost
returns-in_err-answers-clause-cost g c all answers =
    let n = length (text_of c.args.view.store.now c.args.root) in
    paid-none (search_cost c.args.choice) c.args.looks.now c.check_text.new.looks c.start.new.looks (min (length (chosen_by c.args.choice all)) 32768) (looks_limit 1 n) c.check_text.ensures.cost c.start.ensures.look (some-looks n)

pub returns-clause-list : goal.returns-clause-list
returns-clause-list g c = answers-exist _ c.states-states.ensures.automaton _ c.check_text.ensures.bytes c.check_text.ensures.short

pub returns-clause-cost : goal.returns-clause-cost
returns-clause-cost g c all answers =
    let n = length (text_of c.args.view.store.now c.args.root) in
    let cost = rw c.in_ok-answers.ensures.listing at c.all_chosen.ensures.cost in
    paid-whole (search_cost c.args.choice) c.args.looks.now c.check_text.new.looks c.start.new.looks c.all_chosen.new.looks (min (length (chosen_by c.args.choice all)) 32768) (looks_limit 1 n) c.check_text.ensures.cost c.start.ensures.look (cost all answers) (some-looks n)

pub returns-clause-choice : goal.returns-clause-choice
returns-clause-choice g c all answers =
    let choice = rw c.in_ok-answers.ensures.listing at c.all_chosen.ensures.choice in
    choice all answers
