use Rattle.query_commands.proofs.Names.{inl, inr, refl, text_of}
use Rattle.script_syntax.specs.declared.form.Command.TheVariants as form
use Rattle.query_commands.proofs.Facts.{rank_answers, rank_rejected}
use Rattle.query_commands.proofs.counting.rank.Goals as goal

pub returns-in-Ok-clause-done : goal.returns-in-Ok-clause-done
returns-in-Ok-clause-done g c = λ files faults pairs.
    let h = c.args.session.now in
    let f = c.in-Ok.ensures.found in
    let no = c.in-Err-tuple_of in
    c.reject.ensures.done h (form.Rank c.args.ranking.query c.args.ranking.name c.args.ranking.word) files faults c.args.looks.now pairs c.args.places.now
    (rank_rejected h files _ _ _ no.why c.requires (inr (f.tree, text_of h.store c.in-Ok.asked.root, record { document = f.document.text; registered = f.registered }, no.ensures.err f.tree f.variables))) refl

pub returns-clause-done : goal.returns-clause-done
returns-clause-done g c = λ files faults pairs.
    c.reject-in-Err.ensures.done _ (form.Rank c.args.ranking.query c.args.ranking.name c.args.ranking.word) files faults c.args.looks.now pairs c.args.places.now
    (rw c.unasked.ensures (rank_rejected _ files _ _ _ _ c.requires (inl (c.in-Err.ensures.missing files)))) refl

pub returns-in-Ok-tuple_of-clause-done : goal.returns-in-Ok-tuple_of-clause-done
returns-in-Ok-tuple_of-clause-done g c = λ files faults pairs.
    rank_answers c.requires c.in-Ok.ensures.found c.grow_counts.ensures.grown _ files faults c.args.looks.now pairs c.in-Ok-tuple_of.ensures.ok _ c.rank_root.ensures.cost _ c.in_ok-answer-in-Ok-tuple_of.ensures.ok
