use Rattle.span_session.proofs.Remaining.{no_query}
use Rattle.span_session.proofs.answering.answer_query.Goals as goal

pub unreachable-requires : goal.unreachable-requires
unreachable-requires g c =
    no_query c.args.command c.requires.on_queries c.in_default.not-Query c.in_default.not-Unquery c.in_default.not-UnionQuery c.in_default.not-JoinQuery c.in_default.not-ProjectQuery c.in_default.not-Count c.in_default.not-Rank c.in_default.not-Nonempty c.in_default.not-Has
