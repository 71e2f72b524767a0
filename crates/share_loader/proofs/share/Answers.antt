use Rattle.std.proofs.Common.{◌≡◌, ◌+◌, ◌++◌, length, ap, ◌∙◌, arith}
use Rattle.slp_model.proofs.NodesLemmas.{Grows-none, Grows-trans}
use Rattle.share_loader.specs.Sharer.{fed}
use Rattle.share_loader.proofs.SharerLemmas.{IsUnfed, is-unfed, all_cost-is}
use Rattle.share_loader.proofs.share.Goals as goal

pub returns-in_err-sharer-clause-grows : goal.returns-in_err-sharer-clause-grows
returns-in_err-sharer-clause-grows g c = Grows-none c.args.store.now c.args.pairs.now c.args.pairs.now (omega arith)

pub feed-requires-clause-used : goal.feed-requires-clause-used
feed-requires-clause-used g c = (is-unfed c.args.store.now c.in_ok-sharer.sharer c.in_ok-sharer.ensures).used

pub feed-requires-clause-short : goal.feed-requires-clause-short
feed-requires-clause-short g c = omega (arith, ap length (is-unfed c.args.store.now c.in_ok-sharer.sharer c.in_ok-sharer.ensures).none, c.requires)

pub returns-in_err-feed-clause-cost : goal.returns-in_err-feed-clause-cost
returns-in_err-feed-clause-cost g c =
    let u : IsUnfed c.args.store.now c.in_ok-sharer.sharer = is-unfed c.args.store.now c.in_ok-sharer.sharer c.in_ok-sharer.ensures in
    let long : length (fed c.args.store.now c.in_ok-sharer.sharer) + length c.args.bytes.now ≡ length c.args.bytes.now = omega (arith, ap length u.none) in
    omega (arith, c.feed.ensures.most, u.count, u.cost, all_cost-is (length (fed c.args.store.now c.in_ok-sharer.sharer) + length c.args.bytes.now) (length c.args.bytes.now) long)

pub returns-in_err-root-clause-grows : goal.returns-in_err-root-clause-grows
returns-in_err-root-clause-grows g c = Grows-trans _ _ _ _ _ _ c.feed.ensures.grows c.finish.ensures.grows

pub returns-in_err-root-clause-cost : goal.returns-in_err-root-clause-cost
returns-in_err-root-clause-cost g c =
    let u : IsUnfed c.args.store.now c.in_ok-sharer.sharer = is-unfed c.args.store.now c.in_ok-sharer.sharer c.in_ok-sharer.ensures in
    let all : length (fed c.feed.new.store c.feed.new.self) ≡ length c.args.bytes.now = ap length (c.in_ok-feed.ensures.fed ∙ ap (λ x. x ++ c.args.bytes.now) u.none) in
    omega (arith, c.in_ok-feed.ensures.cost, c.finish.ensures.cost, u.count, u.cost, all_cost-is (length (fed c.feed.new.store c.feed.new.self)) (length c.args.bytes.now) all)

pub returns-clause-grows : goal.returns-clause-grows
returns-clause-grows g c = Grows-trans _ _ _ _ _ _ c.feed.ensures.grows c.finish.ensures.grows

pub returns-clause-text : goal.returns-clause-text
returns-clause-text g c = c.in_ok-root.ensures.text ∙ (c.in_ok-feed.ensures.fed ∙ ap (λ x. x ++ c.args.bytes.now) (is-unfed c.args.store.now c.in_ok-sharer.sharer c.in_ok-sharer.ensures).none)

pub returns-clause-cost : goal.returns-clause-cost
returns-clause-cost g c =
    let u : IsUnfed c.args.store.now c.in_ok-sharer.sharer = is-unfed c.args.store.now c.in_ok-sharer.sharer c.in_ok-sharer.ensures in
    let all : length (fed c.feed.new.store c.feed.new.self) ≡ length c.args.bytes.now = ap length (c.in_ok-feed.ensures.fed ∙ ap (λ x. x ++ c.args.bytes.now) u.none) in
    omega (arith, c.in_ok-feed.ensures.cost, c.finish.ensures.cost, u.count, u.cost, all_cost-is (length (fed c.feed.new.store c.feed.new.self)) (length c.args.bytes.now) all)
