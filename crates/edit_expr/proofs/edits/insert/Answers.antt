use Rattle.std.proofs.Common.{arith, sym, ap, ◌∙◌, ◌≡◌, ◌≤◌, ◌+◌, ◌-◌, ◌^◌, ◌++◌, length, take, drop, true, Ok, length-append}
use Rattle.slp_model.specs.Nodes.{root_tree, text_of}
use Rattle.slp_model.proofs.NodesLemmas.{Grows-trans}
use Rattle.slp_model.proofs.TreeLemmas.{length-root_text}
use Rattle.span_types.specs.Fibonacci.{height_limit}
use Rattle.span_types.specs.Ranges.{is_range}
use Rattle.edit_expr.proofs.CutLemmas.{cut-lengths, range-within, ranged-in}
use Rattle.doc_book.proofs.TextLemmas.{text_of-grows}
use Rattle.edit_expr.proofs.EvalLemmas.{before-most, fitting-fits, height-grows, leaves-grows}
use Rattle.edit_expr.proofs.edits.insert.Goals as goal

pub split-requires-clause-to : goal.split-requires-clause-to
split-requires-clause-to g c = range-within c.args.store.now c.args.root c.args.k c.args.k c.root_len-len.result c.root_len-len.ensures.len (sym c.is_within.ensures ∙ c.if-not-is_within.false)

-- the rest: the part and what is after the position

pub concat-requires-clause-short : goal.concat-requires-clause-short
concat-requires-clause-short g c =
    let d = text_of c.args.store.now c.args.root in
    let part = leaves-grows c.args.store.now c.split.new.store c.args.pairs.now c.split.new.pairs c.split.ensures.grows c.args.part c.requires.part in
    let back : length (text_of c.split.new.store c.in_ok-prefix.back) ≡ length (drop (c.args.k - 1) d) = ap length c.in_ok-prefix.ensures.after in
    omega (
      arith,
      part,
      back,
      cut-lengths (c.args.k - 1) d,
      c.root_len-len.ensures.len,
      c.root_len-more.ensures.len,
      c.if-sum-gt-LONGEST.false,
      length-root_text (root_tree c.args.store.now c.args.part),
      length-root_text (root_tree c.split.new.store c.in_ok-prefix.back),
    )

pub returns-in_err-rest-clause-grows : goal.returns-in_err-rest-clause-grows
returns-in_err-rest-clause-grows g c = Grows-trans _ _ _ _ _ _ c.split.ensures.grows c.concat.ensures.grows

pub returns-in_err-rest-clause-cost : goal.returns-in_err-rest-clause-cost
returns-in_err-rest-clause-cost g c n h m =
    let low = c.root_len-len.ensures.low n h in
    let rest = before-most c.args.store.now c.split.new.store _ _ c.split.ensures.grows c.args.part c.in_ok-prefix.back (height_limit n) c.requires.part (c.root_len-more.ensures.low n m) (omega (arith, c.in_ok-prefix.ensures.high, low)) in
    omega (arith, c.split.ensures.cost, low, c.concat.ensures.cost, rest)

-- the whole: the prefix and the rest

pub concat-requires-2-clause-short : goal.concat-requires-2-clause-short
concat-requires-2-clause-short g c =
    let d = text_of c.args.store.now c.args.root in
    let e = text_of c.split.new.store c.args.part in
    let part = leaves-grows c.args.store.now c.split.new.store c.args.pairs.now c.split.new.pairs c.split.ensures.grows c.args.part c.requires.part in
    let kept = leaves-grows c.split.new.store c.concat.new.store c.split.new.pairs c.concat.new.pairs c.concat.ensures.grows c.in_ok-prefix.prefix c.in_ok-prefix.ensures.live.0 in
    let prefix : length (text_of c.split.new.store c.in_ok-prefix.prefix) ≡ length (take (c.args.k - 1) d) = ap length c.in_ok-prefix.ensures.before in
    let back : length (text_of c.split.new.store c.in_ok-prefix.back) ≡ length (drop (c.args.k - 1) d) = ap length c.in_ok-prefix.ensures.after in
    let rest : length (text_of c.concat.new.store c.in_ok-rest.rest) ≡ length (e ++ text_of c.split.new.store c.in_ok-prefix.back) = ap length c.in_ok-rest.ensures.joined.joined in
    omega (
      arith,
      part,
      kept,
      prefix,
      back,
      rest,
      length-append e (text_of c.split.new.store c.in_ok-prefix.back),
      cut-lengths (c.args.k - 1) d,
      c.root_len-len.ensures.len,
      c.root_len-more.ensures.len,
      c.if-sum-gt-LONGEST.false,
      length-root_text (root_tree c.args.store.now c.args.part),
      length-root_text (root_tree c.split.new.store c.args.part),
      length-root_text (root_tree c.split.new.store c.in_ok-prefix.prefix),
      length-root_text (root_tree c.concat.new.store c.in_ok-rest.rest),
    )

pub returns-in_err-whole-clause-grows : goal.returns-in_err-whole-clause-grows
returns-in_err-whole-clause-grows g c = Grows-trans _ _ _ _ _ _ (Grows-trans _ _ _ _ _ _ c.split.ensures.grows c.concat.ensures.grows) c.concat-2.ensures.grows

pub returns-in_err-whole-clause-cost : goal.returns-in_err-whole-clause-cost
returns-in_err-whole-clause-cost g c n h m =
    let part = height-grows c.args.store.now c.split.new.store c.args.pairs.now c.split.new.pairs c.split.ensures.grows c.args.part c.requires.part in
    let rest = before-most c.args.store.now c.split.new.store _ _ c.split.ensures.grows c.args.part c.in_ok-prefix.back (height_limit n) c.requires.part (c.root_len-more.ensures.low n m) (omega (arith, c.in_ok-prefix.ensures.high, c.root_len-len.ensures.low n h)) in
    let whole = before-most c.split.new.store c.concat.new.store _ _ c.concat.ensures.grows c.in_ok-prefix.prefix c.in_ok-rest.rest (height_limit n + 1) c.in_ok-prefix.ensures.live.0 (omega (arith, c.in_ok-prefix.ensures.low, c.root_len-len.ensures.low n h)) (omega (arith, c.in_ok-rest.ensures.joined.high, part, c.root_len-more.ensures.low n m, c.in_ok-prefix.ensures.high, c.root_len-len.ensures.low n h)) in
    omega (arith, c.split.ensures.cost, c.root_len-len.ensures.low n h, c.concat.ensures.cost, rest, c.concat-2.ensures.cost, whole)

pub returns-clause-grows : goal.returns-clause-grows
returns-clause-grows g c = Grows-trans _ _ _ _ _ _ (Grows-trans _ _ _ _ _ _ c.split.ensures.grows c.concat.ensures.grows) c.concat-2.ensures.grows

pub returns-clause-cost : goal.returns-clause-cost
returns-clause-cost g c n h m =
    let part = height-grows c.args.store.now c.split.new.store c.args.pairs.now c.split.new.pairs c.split.ensures.grows c.args.part c.requires.part in
    let rest = before-most c.args.store.now c.split.new.store _ _ c.split.ensures.grows c.args.part c.in_ok-prefix.back (height_limit n) c.requires.part (c.root_len-more.ensures.low n m) (omega (arith, c.in_ok-prefix.ensures.high, c.root_len-len.ensures.low n h)) in
    let whole = before-most c.split.new.store c.concat.new.store _ _ c.concat.ensures.grows c.in_ok-prefix.prefix c.in_ok-rest.rest (height_limit n + 1) c.in_ok-prefix.ensures.live.0 (omega (arith, c.in_ok-prefix.ensures.low, c.root_len-len.ensures.low n h)) (omega (arith, c.in_ok-rest.ensures.joined.high, part, c.root_len-more.ensures.low n m, c.in_ok-prefix.ensures.high, c.root_len-len.ensures.low n h)) in
    omega (arith, c.split.ensures.cost, c.root_len-len.ensures.low n h, c.concat.ensures.cost, rest, c.concat-2.ensures.cost, whole)

pub returns-clause-value : goal.returns-clause-value
returns-clause-value g c =
    let within : is_range c.args.k c.args.k c.root_len-len.result ≡ true = sym c.is_within.ensures ∙ c.if-not-is_within.false in
    let d = text_of c.args.store.now c.args.root in
    let e = text_of c.args.store.now c.args.part in
    let part : text_of c.split.new.store c.args.part ≡ e =
    text_of-grows c.args.store.now c.split.new.store c.args.pairs.now c.split.new.pairs c.split.ensures.grows c.args.part c.requires.part in
    let prefix : text_of c.concat.new.store c.in_ok-prefix.prefix ≡ take (c.args.k - 1) d =
    text_of-grows c.split.new.store c.concat.new.store c.split.new.pairs c.concat.new.pairs c.concat.ensures.grows c.in_ok-prefix.prefix c.in_ok-prefix.ensures.live.0 ∙ c.in_ok-prefix.ensures.before in
    let rest : text_of c.concat.new.store c.in_ok-rest.rest ≡ e ++ drop (c.args.k - 1) d = c.in_ok-rest.ensures.joined.joined ∙ (λ j. part j ++ c.in_ok-prefix.ensures.after j) in
    let fits : length (take (c.args.k - 1) d ++ (e ++ drop (c.args.k - 1) d)) ≤ 2 ^ 48 =
    omega (
      arith,
      length-append (take (c.args.k - 1) d) (e ++ drop (c.args.k - 1) d),
      length-append e (drop (c.args.k - 1) d),
      cut-lengths (c.args.k - 1) d,
      c.root_len-len.ensures.len,
      c.root_len-more.ensures.len,
      c.if-sum-gt-LONGEST.false,
    ) in
    let whole = c.in_ok-whole.ensures.joined.joined ∙ (λ j. prefix j ++ rest j) in
    (c.in_ok-whole.ensures.live, ranged-in c.args.k c.args.k c.root_len-len.result (length d) _ within c.root_len-len.ensures.len ∙ (fitting-fits _ fits ∙ ap (λ x. Ok x) (sym whole)))
