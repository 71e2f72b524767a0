use Rattle.std.proofs.Common.{length, arith}
use Rattle.std.proofs.lemmas.List.{take_all}
use Rattle.count_tables.proofs.Growing.{extends-on, extends-refl, prefix-on}
use Rattle.count_tables.proofs.growth.place_new.Goals as goal

pub loop-numbers-init : goal.loop-numbers-init
loop-numbers-init g c = record {
  some = omega arith;
  within = (let size = c.count-count.ensures.count in let low = c.requires.covered in omega (arith, size, low));
  tables = c.requires.tables;
  longer = omega arith;
  prefix = take_all (length c.args.numbers.now.items) c.args.numbers.now.items (omega arith);
  kept = c.requires.kept;
  extends = extends-refl c.args.kept.now;
  entries = c.requires.entries;
}

pub returns-in_err-place_part-clause-prefix : goal.returns-in_err-place_part-clause-prefix
returns-in_err-place_part-clause-prefix g c =
    let at = c.loop-numbers in
    prefix-on c.args.numbers.now.items at.numbers.items c.place_part.new.numbers.items at.invariant.longer at.invariant.prefix c.place_part.ensures.prefix

pub returns-in_err-place_part-clause-extends : goal.returns-in_err-place_part-clause-extends
returns-in_err-place_part-clause-extends g c = extends-on c.args.kept.now c.loop-numbers.kept c.place_part.new.kept c.loop-numbers.invariant.extends c.place_part.ensures.extends

pub loop-numbers-preserved : goal.loop-numbers-preserved
loop-numbers-preserved g c =
    let at = c.loop-numbers in
    let new = c.place_part.new in
    let all = c.in_ok-place_part.ensures.all in
    let longer = at.invariant.longer in
    let nodes = c.min-nodes.ensures in
    record {
      some = c.part_len-most.ensures;
      within = omega arith;
      tables = c.place_part.ensures.tables;
      longer = omega (arith, all, longer);
      prefix = prefix-on c.args.numbers.now.items at.numbers.items new.numbers.items longer at.invariant.prefix c.place_part.ensures.prefix;
      kept = c.place_part.ensures.kept;
      extends = extends-on c.args.kept.now at.kept new.kept at.invariant.extends c.place_part.ensures.extends;
      entries = c.place_part.ensures.entries;
    }
