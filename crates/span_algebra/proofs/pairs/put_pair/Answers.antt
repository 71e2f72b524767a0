use Rattle.std.proofs.Common.{◌∙◌, sym, arith}
use Rattle.span_algebra.proofs.PairLaws.{absent, gains-push, no-room}
use Rattle.span_algebra.proofs.pairs.put_pair.Goals as goal

pub returns-then-len-most-clause-refused : goal.returns-then-len-most-clause-refused
returns-then-len-most-clause-refused c =
    let new = absent c.args.pairs.now.items c.args.pair c.position_of.result (rw (c.deref.ensures.value) at c.position_of.ensures) (sym c.is_some.ensures ∙ c.if-is_some.false) in
    (omega arith, no-room c.args.most c.args.pairs.now.items c.args.pair c.requires new (omega (arith, c.if-len-most.true, c.len.ensures, c.args.pairs.now.ok.0)))

pub returns-clause-gains : goal.returns-clause-gains
returns-clause-gains c =
    let new = absent c.args.pairs.now.items c.args.pair c.position_of.result (rw (c.deref.ensures.value) at c.position_of.ensures) (sym c.is_some.ensures ∙ c.if-is_some.false) in
    gains-push c.args.most c.args.pairs.now.items c.push_pair.new.pairs.items c.args.pair c.requires new (omega (arith, c.if-len-most.false, c.len.ensures, c.args.pairs.now.ok.0, c.requires.few)) c.in_ok-push_pair.ensures
