use Rattle.std.proofs.Common.{arith, ◌≡◌, ◌≤◌, ◌-◌, ◌++◌, ◌∙◌, ap, sym, length, take, drop, true, Ok}
use Rattle.std.proofs.lemmas.List.{length-take}
use Rattle.slp_model.specs.Tree.{root_height}
use Rattle.slp_model.specs.Nodes.{root_tree, text_of}
use Rattle.slp_model.proofs.NodesLemmas.{Grows-trans}
use Rattle.slp_model.proofs.TreeLemmas.{length-root_text}
use Rattle.span_types.specs.Ranges.{is_range}
use Rattle.edit_expr.proofs.CutLemmas.{range-end, range-start, range-order, range-within, ranged-in, cut-lengths, take-most, take-shorter}
use Rattle.doc_book.proofs.TextLemmas.{text_of-grows}
use Rattle.edit_expr.proofs.EvalLemmas.{after-most, leaves-grows}
use Rattle.edit_expr.proofs.edits.delete.Goals as goal

pub split-requires-clause-to : goal.split-requires-clause-to
split-requires-clause-to g c = range-within c.args.store.now c.args.root c.args.i c.args.j c.root_len-len.result c.root_len-len.ensures.len (sym c.is_within.ensures ∙ c.if-not-is_within.false)

pub split-requires-2-clause-to : goal.split-requires-2-clause-to
split-requires-2-clause-to g c =
    let within = sym c.is_within.ensures ∙ c.if-not-is_within.false in
    let d = text_of c.args.store.now c.args.root in
    let before : length (text_of c.split.new.store c.in_ok-before.before) ≡ length (take (c.args.j - 1) d) = ap length c.in_ok-before.ensures.before in
    omega (
      arith,
      before,
      cut-lengths (c.args.j - 1) d,
      length-take (c.args.j - 1) d,
      c.root_len-len.ensures.len,
      length-root_text (root_tree c.split.new.store c.in_ok-before.before),
      range-start c.args.i c.args.j c.root_len-len.result within,
      range-order c.args.i c.args.j c.root_len-len.result within,
      range-end c.args.i c.args.j c.root_len-len.result within,
    )

pub returns-in_err-prefix-clause-grows : goal.returns-in_err-prefix-clause-grows
returns-in_err-prefix-clause-grows g c = Grows-trans _ _ _ _ _ _ c.split.ensures.grows c.split-2.ensures.grows

pub concat-requires-clause-short : goal.concat-requires-clause-short
concat-requires-clause-short g c =
    let d = text_of c.args.store.now c.args.root in
    let b = text_of c.split.new.store c.in_ok-before.before in
    let kept = leaves-grows c.split.new.store c.split-2.new.store c.split.new.pairs c.split-2.new.pairs c.split-2.ensures.grows c.in_ok-before.after c.in_ok-before.ensures.live.1 in
    let after : length (text_of c.split.new.store c.in_ok-before.after) ≡ length (drop (c.args.j - 1) d) = ap length c.in_ok-before.ensures.after in
    let before : length b ≡ length (take (c.args.j - 1) d) = ap length c.in_ok-before.ensures.before in
    let prefix : length (text_of c.split-2.new.store c.in_ok-prefix.prefix) ≡ length (take (c.args.i - 1) b) = ap length c.in_ok-prefix.ensures.before in
    omega (
      arith,
      kept,
      after,
      before,
      prefix,
      cut-lengths (c.args.j - 1) d,
      take-most (c.args.i - 1) b,
      c.root_len-len.ensures.len,
      c.root_len-len.ensures.short,
      length-root_text (root_tree c.split.new.store c.in_ok-before.after),
      length-root_text (root_tree c.split-2.new.store c.in_ok-prefix.prefix),
    )

pub returns-in_err-whole-clause-grows : goal.returns-in_err-whole-clause-grows
returns-in_err-whole-clause-grows g c = Grows-trans _ _ _ _ _ _ (Grows-trans _ _ _ _ _ _ c.split.ensures.grows c.split-2.ensures.grows) c.concat.ensures.grows

pub returns-in_err-whole-clause-cost : goal.returns-in_err-whole-clause-cost
returns-in_err-whole-clause-cost g c n h =
    let whole = after-most c.split.new.store c.split-2.new.store _ _ c.split-2.ensures.grows c.in_ok-prefix.prefix c.in_ok-before.after (root_height (root_tree c.args.store.now c.args.root)) c.in_ok-before.ensures.live.1 (omega (arith, c.in_ok-prefix.ensures.low, c.in_ok-before.ensures.low)) c.in_ok-before.ensures.high in
    omega (arith, c.root_len-len.ensures.low n h, c.split.ensures.cost, c.split-2.ensures.cost, c.concat.ensures.cost, c.in_ok-before.ensures.low, whole)

pub returns-clause-grows : goal.returns-clause-grows
returns-clause-grows g c = Grows-trans _ _ _ _ _ _ (Grows-trans _ _ _ _ _ _ c.split.ensures.grows c.split-2.ensures.grows) c.concat.ensures.grows

pub returns-clause-cost : goal.returns-clause-cost
returns-clause-cost g c n h =
    let whole = after-most c.split.new.store c.split-2.new.store _ _ c.split-2.ensures.grows c.in_ok-prefix.prefix c.in_ok-before.after (root_height (root_tree c.args.store.now c.args.root)) c.in_ok-before.ensures.live.1 (omega (arith, c.in_ok-prefix.ensures.low, c.in_ok-before.ensures.low)) c.in_ok-before.ensures.high in
    omega (arith, c.root_len-len.ensures.low n h, c.split.ensures.cost, c.split-2.ensures.cost, c.concat.ensures.cost, c.in_ok-before.ensures.low, whole)

pub returns-clause-value : goal.returns-clause-value
returns-clause-value g c =
    let within : is_range c.args.i c.args.j c.root_len-len.result ≡ true = sym c.is_within.ensures ∙ c.if-not-is_within.false in
    let d = text_of c.args.store.now c.args.root in
    let order : c.args.i - 1 ≤ c.args.j - 1 = omega (arith, range-order c.args.i c.args.j c.root_len-len.result within) in
    let prefix : text_of c.split-2.new.store c.in_ok-prefix.prefix ≡ take (c.args.i - 1) d =
    c.in_ok-prefix.ensures.before ∙ (ap (λ x. take (c.args.i - 1) x) c.in_ok-before.ensures.before ∙ take-shorter (c.args.i - 1) (c.args.j - 1) d order) in
    let back : text_of c.split-2.new.store c.in_ok-before.after ≡ drop (c.args.j - 1) d =
    text_of-grows c.split.new.store c.split-2.new.store c.split.new.pairs c.split-2.new.pairs c.split-2.ensures.grows c.in_ok-before.after c.in_ok-before.ensures.live.1 ∙ c.in_ok-before.ensures.after in
    let whole = c.in_ok-whole.ensures.joined.joined ∙ (λ k. prefix k ++ back k) in
    (c.in_ok-whole.ensures.live, ranged-in c.args.i c.args.j c.root_len-len.result (length d) _ within c.root_len-len.ensures.len ∙ ap (λ x. Ok x) (sym whole))
