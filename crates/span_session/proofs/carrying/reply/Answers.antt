use Rattle.span_session.proofs.Names.{refl}
use Rattle.span_session.proofs.Facts.{answer_ends, each_err, no_shelf_wrote, stopped_ends}
use Rattle.span_session.proofs.carrying.reply.Goals as goal

pub returns-in_err-answer : goal.returns-in_err-answer
returns-in_err-answer g c =
    let stopped = c.in_err-answer.ensures.stopped in
    record {
      session = stopped.goes.session;
      same_io = record { out = refl; shelf = refl };
      same_meters = c.answer.ensures.same_meters;
      unsent = each_err c.from_residual.result _ (λ _ _. refl);
      ends = stopped_ends _ _ c.args.context.number c.args.command _ _ c.from_residual.result c.requires.answering stopped c.from_residual.ensures.1;
    }

pub returns : goal.returns
returns g c =
    let answers = c.in_ok-answer.ensures.done in
    record {
      session = answers.goes.session;
      same_io = record { out = refl; shelf = refl };
      same_meters = c.answer.ensures.same_meters;
      unsent = no_shelf_wrote _ c.send.result _ _ _ c.send.ensures.wrote;
      ends = answer_ends _ _ c.args.context.number c.args.command c.in_ok-answer.answer _ _ c.send.result c.requires.answering answers c.send.ensures.told c.send.ensures.wrote;
    }
