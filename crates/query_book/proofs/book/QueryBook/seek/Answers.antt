use Rattle.std.proofs.Common.{subst, Some}
use Rattle.span_types.specs.Query.{query_of}
use Rattle.slp_model.specs.Nodes.{text_of}
use Rattle.query_book.specs.Answers.{HasList}
use Rattle.query_book.specs.Book.{queries_of}
use Rattle.query_book.proofs.Lists.{if-missing, if-named}
use Rattle.query_book.proofs.Covered.{covers-query}
use Rattle.query_book.proofs.book.QueryBook.seek.Goals as goal

pub ready-requires : goal.ready-requires
ready-requires g c = covers-query c.args.store.now c.args.self.now c.args.name.now c.requires.covers

pub returns-in_err-ready-clause-list : goal.returns-in_err-ready-clause-list
returns-in_err-ready-clause-list g c =
    if-missing (queries_of c.args.self.now) c.args.name.now (HasList (text_of c.args.store.now c.args.root) (Some c.args.after.now)) c.in_err-ready.ensures.missing.none

pub returns-in_err-seek-clause-list : goal.returns-in_err-seek-clause-list
returns-in_err-seek-clause-list g c =
    let q = query_of c.in_ok-ready.ready.tree in
    if-named (queries_of c.args.self.now) c.args.name.now (HasList (text_of c.args.store.now c.args.root) (Some c.args.after.now)) q c.in_ok-ready.ensures.query
    (subst (λ ns. HasList (text_of ns c.args.root) (Some c.args.after.now) q) c.in_ok-ready.ensures.store c.in_err-seek.ensures.list)

pub returns-clause-list : goal.returns-clause-list
returns-clause-list g c =
    let q = query_of c.in_ok-ready.ready.tree in
    if-named (queries_of c.args.self.now) c.args.name.now (HasList (text_of c.args.store.now c.args.root) (Some c.args.after.now)) q c.in_ok-ready.ensures.query
    (subst (λ ns. HasList (text_of ns c.args.root) (Some c.args.after.now) q) c.in_ok-ready.ensures.store c.in_ok-seek.ensures.list)
