use Rattle.std.proofs.Common.{length, sym, subst, ◌∙◌, arith}
use Rattle.std.proofs.lemmas.List.{take_all}
use Rattle.slp_model.proofs.NodesLemmas.{Grows-none, Grows-trans}
use Rattle.share_loader.specs.Known.{IsWordAt}
use Rattle.share_loader.proofs.WordLemmas.{known-grows, AreParts, parts-of, parts-near, parts-short, parts-word}
use Rattle.share_loader.proofs.words.+node_of.Goals as goal

pub returns-in_err-right-clause-grows : goal.returns-in_err-right-clause-grows
returns-in_err-right-clause-grows g t c = Grows-trans _ _ _ _ _ _ c.node_of.ensures.grows c.node_of-2.ensures.grows

pub pair-requires-clause-near : goal.pair-requires-clause-near
pair-requires-clause-near g t c =
    let parts : AreParts c.node_of-2.new.store c.args.bytes.now c.in_ok-left.left.index c.in_ok-right.right.index =
    parts-of _ _ _ _ c.node_of-2.ensures.grows c.args.bytes.now _ _ _ _ _ c.split_at.ensures.front c.split_at.ensures.back (omega (arith, c.split_at.ensures.front_len)) c.in_ok-left.ensures.word c.in_ok-right.ensures.word in
    parts-near _ c.args.bytes.now _ _ (omega (arith, c.if-bytes-eq1.false, c.requires.some)) c.requires.short parts

pub pair-requires-clause-short : goal.pair-requires-clause-short
pair-requires-clause-short g t c =
    let parts : AreParts c.node_of-2.new.store c.args.bytes.now c.in_ok-left.left.index c.in_ok-right.right.index =
    parts-of _ _ _ _ c.node_of-2.ensures.grows c.args.bytes.now _ _ _ _ _ c.split_at.ensures.front c.split_at.ensures.back (omega (arith, c.split_at.ensures.front_len)) c.in_ok-left.ensures.word c.in_ok-right.ensures.word in
    omega (arith, parts-short _ c.args.bytes.now _ _ parts, c.requires.short)

pub returns-in_err-node-clause-grows : goal.returns-in_err-node-clause-grows
returns-in_err-node-clause-grows g t c = Grows-trans _ _ _ _ _ _ (Grows-trans _ _ _ _ _ _ c.node_of.ensures.grows c.node_of-2.ensures.grows) c.pair.ensures.grows

pub returns-clause-grows : goal.returns-clause-grows
returns-clause-grows g t c = Grows-trans _ _ _ _ _ _ (Grows-trans _ _ _ _ _ _ c.node_of.ensures.grows c.node_of-2.ensures.grows) c.pair.ensures.grows

pub returns-clause-word : goal.returns-clause-word
returns-clause-word g t c =
    let parts : AreParts c.node_of-2.new.store c.args.bytes.now c.in_ok-left.left.index c.in_ok-right.right.index =
    parts-of _ _ _ _ c.node_of-2.ensures.grows c.args.bytes.now _ _ _ _ _ c.split_at.ensures.front c.split_at.ensures.back (omega (arith, c.split_at.ensures.front_len)) c.in_ok-left.ensures.word c.in_ok-right.ensures.word in
    parts-word _ _ c.args.bytes.now _ _ _ (omega (arith, c.if-bytes-eq1.false, c.requires.some)) c.requires.short parts c.in_ok-node.ensures.live c.in_ok-node.ensures.tree

pub returns-then-bytes-eq1-clause-known : goal.returns-then-bytes-eq1-clause-known
returns-then-bytes-eq1-clause-known g t c = known-grows _ _ _ _ c.byte.ensures.grows c.args.words.now.entries.items c.requires.known

pub returns-in-Some-clause-grows : goal.returns-in-Some-clause-grows
returns-in-Some-clause-grows g t c = Grows-none c.args.store.now c.args.pairs.now c.args.pairs.now (omega arith)

pub returns-clause-known : goal.returns-clause-known
returns-clause-known g t c =
    let parts : AreParts c.node_of-2.new.store c.args.bytes.now c.in_ok-left.left.index c.in_ok-right.right.index =
    parts-of _ _ _ _ c.node_of-2.ensures.grows c.args.bytes.now _ _ _ _ _ c.split_at.ensures.front c.split_at.ensures.back (omega (arith, c.split_at.ensures.front_len)) c.in_ok-left.ensures.word c.in_ok-right.ensures.word in
    let word : IsWordAt c.pair.new.self c.args.bytes.now c.in_ok-node.node.index =
    parts-word _ _ c.args.bytes.now _ _ _ (omega (arith, c.if-bytes-eq1.false, c.requires.some)) c.requires.short parts c.in_ok-node.ensures.live c.in_ok-node.ensures.tree in
    c.note.ensures c.pair.new.self
    (subst (λ s. IsWordAt c.pair.new.self s c.in_ok-node.node.index) (sym (c.key_of-key.ensures.word ∙ take_all (length c.args.bytes.now) c.args.bytes.now (omega arith))) word)
    (known-grows _ _ _ _ c.pair.ensures.grows c.node_of-2.new.words.entries.items c.node_of-2.ensures.known)

pub returns-in_err-node-clause-known : goal.returns-in_err-node-clause-known
returns-in_err-node-clause-known g t c = known-grows _ _ _ _ c.pair.ensures.grows c.node_of-2.new.words.entries.items c.node_of-2.ensures.known
