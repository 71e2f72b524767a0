use Rattle.std.proofs.Common.{ap, subst, sym}
use Rattle.slp_model.specs.Nodes.{IsLive}
use Rattle.query_book.proofs.InHand.{byte-text, short-text}
use Rattle.query_book.proofs.in_hand.Ready.input.Goals as goal

pub returns-clause-ready : goal.returns-clause-ready
returns-clause-ready c =
    let live = subst (λ ns. IsLive ns c.args.root) (sym (ap (λ r. r.nodes) c.self.view_is)) c.requires in
    rw (c.view.ensures.store, c.view.ensures.tables) (record { tables = c.self.invariant.tables; live = live })

pub returns-clause-query : goal.returns-clause-query
returns-clause-query c = rw (← c.self.view_is) c.self.invariant.sound.compiled.defines

pub returns-clause-bytes : goal.returns-clause-bytes
returns-clause-bytes c =
    let live = subst (λ ns. IsLive ns c.args.root) (sym (ap (λ r. r.nodes) c.self.view_is)) c.requires in
    rw (← c.self.view_is) (byte-text c.self.inside.store.now c.self.inside.tabled.now c.self.invariant c.args.root live)

pub returns-clause-short : goal.returns-clause-short
returns-clause-short c =
    let live = subst (λ ns. IsLive ns c.args.root) (sym (ap (λ r. r.nodes) c.self.view_is)) c.requires in
    rw (← c.self.view_is) (short-text c.self.inside.store.now c.self.inside.tabled.now c.self.invariant c.args.root live)
