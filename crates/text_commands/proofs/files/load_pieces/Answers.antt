use Rattle.text_commands.proofs.Names.{ap, arith, fed_to, Grows-trans, length, length-append, method_of, refl, sym, take, ◌++◌, ◌∙◌}
use Rattle.text_commands.proofs.Facts.{none_grows, prefix_paid, within_limit}
use Rattle.text_commands.proofs.files.load_pieces.Goals as goal

pub loop-loader-init : goal.loop-loader-init
loop-loader-init g c =
    let fresh = c.in_ok-loader.ensures in
    let none = fresh.none c.args.store.now in
    record {
      used = fresh.used c.args.store.now;
      method = fresh.method_is;
      at = ap length (sym none);
      within = omega arith;
      prefix = rw none c.requires;
      grows = none_grows c.args.store.now c.args.pairs.now;
      cost = fresh.free c.args.store.now c.args.pairs.now;
      files = refl;
      sound = refl;
    }

pub returns-then-count-eq0-clause-ok : goal.returns-then-count-eq0-clause-ok
returns-then-count-eq0-clause-ok g c =
    let i = c.loop-loader.invariant in
    let next = (rw i.files at c.in_ok-count.ensures.next) (fed_to c.loop-loader.store c.loop-loader.loader) (sym i.at) i.prefix in
    rw c.in_ok-root.ensures.text (next.end c.if-count-eq0.true)

pub returns-in_err-count-clause-paid : goal.returns-in_err-count-clause-paid
returns-in_err-count-clause-paid g c =
    let l = c.loop-loader in
    let i = l.invariant in
    prefix_paid _ (method_of l.loader) c.args.method _ _ (fed_to l.store l.loader) c.args.pairs.now l.pairs i.method (omega (arith, i.at, i.within)) i.prefix (within_limit l.store l.loader c.args.pairs.now l.pairs i.cost)

pub returns-in_err-feed-clause-paid : goal.returns-in_err-feed-clause-paid
returns-in_err-feed-clause-paid g c =
    let l = c.loop-loader in
    let i = l.invariant in
    let fed = fed_to l.store l.loader in
    let piece = take c.in_ok-count.count c.next_piece.new.piece in
    let next = (rw i.files at c.in_ok-count.ensures.next) fed (sym i.at) i.prefix in
    prefix_paid _ (method_of l.loader) c.args.method _ _ (fed ++ piece) c.args.pairs.now c.feed.new.pairs i.method (omega (arith, next.size, i.at, c.in_ok-count.ensures.count.1)) next.begins
    (rw (length-append fed piece) (c.feed.ensures.most c.args.pairs.now i.cost))

pub loop-loader-preserved : goal.loop-loader-preserved
loop-loader-preserved g c =
    let l = c.loop-loader in
    let i = l.invariant in
    let next = (rw i.files at c.in_ok-count.ensures.next) (fed_to l.store l.loader) (sym i.at) i.prefix in
    let e = c.in_ok-feed.ensures in
    record {
      used = e.used;
      method = e.method ∙ i.method;
      at = omega (arith, ap length e.fed, next.size, i.at);
      within = omega (arith, c.in_ok-count.ensures.count.1);
      prefix = rw e.fed next.begins;
      grows = Grows-trans _ _ _ _ _ _ i.grows c.feed.ensures.grows;
      cost = e.cost c.args.pairs.now i.cost;
      files = c.next_piece.ensures.files ∙ i.files;
      sound = c.in_ok-count.ensures.sound ∙ i.sound;
    }
