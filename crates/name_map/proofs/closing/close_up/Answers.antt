use Rattle.std.proofs.Common.{rules, ◌≡◌, length, is_some, sym, ap, ◌∙◌, arith}
use Rattle.std.proofs.lemmas.Fn.{filter_same}
use Rattle.name_map.specs.Kept.{indexed, live}
use Rattle.name_map.proofs.SlotLaws.{names-distinct, live-full, length-full, HasNames-full}
use Rattle.name_map.proofs.closing.close_up.Goals as goal

pub number_all-requires-clause-full : goal.number_all-requires-clause-full
number_all-requires-clause-full g c =
    let os = c.args.slots.now.items.items in
    let full = filter_same _ is_some _ (λ x b f h. search rules) _ _ c.retain.ensures.filtered in
    rw full (ap length (live-full os) ∙ sym (length-full os))

pub number_all-requires-clause-names : goal.number_all-requires-clause-names
number_all-requires-clause-names g c =
    let os = c.args.slots.now.items.items in
    let full = filter_same _ is_some _ (λ x b f h. search rules) _ _ c.retain.ensures.filtered in
    rw full (HasNames-full (indexed c.args.slots.now.index.entries) os c.requires.names)

pub number_all-requires-clause-distinct : goal.number_all-requires-clause-distinct
number_all-requires-clause-distinct g c =
    let s = c.args.slots.now in
    let full = filter_same _ is_some _ (λ x b f h. search rules) _ _ c.retain.ensures.filtered in
    rw (full, live-full s.items.items) (names-distinct (indexed s.index.entries) s.items.items s.empty c.requires)

pub returns-clause-same : goal.returns-clause-same
returns-clause-same g c =
    let os = c.args.slots.now.items.items in
    let full = filter_same _ is_some _ (λ x b f h. search rules) _ _ c.retain.ensures.filtered in
    ap live (c.number_all.ensures.items ∙ full) ∙ live-full os

pub returns-clause-kept : goal.returns-clause-kept
returns-clause-kept g c =
    let os = c.args.slots.now.items.items in
    let full = filter_same _ is_some _ (λ x b f h. search rules) _ _ c.retain.ensures.filtered in
    let t = c.number_all.new.slots in
    let all : length (live t.items.items) ≡ length t.items.items = rw (c.number_all.ensures.items, full) (ap length (live-full os) ∙ sym (length-full os)) in
    record {
      indexed = c.number_all.ensures.numbers;
      names = c.number_all.ensures.names;
      count = omega (arith, all, c.number_all.ensures.empty);
    }
