use Rattle.std.proofs.Common.{◌≡◌, ◌≤◌, [], ◌∷◌, ◌++◌, length, length-append, refl, subst, arith}
use Rattle.count_tables.specs.Ahead.{HasTable}
use Rattle.count_tables.proofs.Growing.{extends-on, prefix-push, tables-extend, tables-push}
use Rattle.count_tables.proofs.growth.place_in_order.Goals as goal

pub returns-in_err-number-clause-extends : goal.returns-in_err-number-clause-extends
returns-in_err-number-clause-extends g c = extends-on c.args.kept.now c.loop-node.kept c.number_of.new.kept c.loop-node.invariant.extends c.number_of.ensures.extends

pub loop-node-preserved : goal.loop-node-preserved
loop-node-preserved g c =
    let a = c.args.growth.now.dfa.now in
    let nodes = c.args.growth.now.store.now in
    let before = c.loop-node.invariant in
    let new = c.number_of.new.kept in
    let numbers = c.loop-node.numbers.items in
    let n = c.in_ok-number.number in
    let made : HasTable a nodes new (length numbers) n = subst (λ xs. HasTable a nodes new (length xs) n) c.deref.ensures.value c.in_ok-number.ensures.number in
    let items : c.push_reserved.new.self.items ≡ c.loop-node.numbers.items ++ n ∷ [] = c.push_reserved.ensures.items in
    let longer : length c.args.numbers.now.items ≤ length numbers = omega (arith, before.long) in
    rw items (record {
      long = omega (arith, length-append numbers (n ∷ []), before.long);
      room = omega (arith, before.room, c.push_reserved.ensures.capacity);
      tables = tables-push a nodes new numbers n (length numbers) (tables-extend a nodes c.loop-node.kept new numbers c.number_of.ensures.extends before.tables) refl made.within made.table;
      prefix = prefix-push c.args.numbers.now.items numbers n longer before.prefix;
      kept = c.number_of.ensures.kept;
      extends = extends-on c.args.kept.now c.loop-node.kept new before.extends c.number_of.ensures.extends;
      entries = c.number_of.ensures.entries;
    })
