use Rattle.std.proofs.Common.{◌≡◌, ◌-◌, length, drop, take, sym, ap, ◌∙◌, arith, length-drop}
use Rattle.std.proofs.lemmas.List.{length-take, take-take, take_rest}
use Rattle.edge_io.proofs.Moves.{moved, ended}
use Rattle.edge_io.proofs.memory.MemSourceSource.read.Goals as goal

pub returns-clause-bytes : goal.returns-clause-bytes
returns-clause-bytes c =
    let bytes = c.deref.result.now in
    let all = c.self.inside.bytes.items in
    let position = c.self.inside.position in
    let n = c.copy_prefix-count.result in
    let into = c.copy_prefix-count.new.into in
    let rest = take (length bytes - position) (drop position bytes) in
    let cut = c.min.result in
    let size = length-take cut rest in
    let size_rest = length-take (length bytes - position) (drop position bytes) in
    let size_drop = length-drop position bytes in
    let same = ap length c.deref.ensures.value in
    let is : take n into ≡ take n (drop position all) =
    c.copy_prefix-count.ensures.bytes
    ∙ take-take n cut rest (omega (arith, c.copy_prefix-count.ensures.count, size))
    ∙ ap (λ l. take n l) (take_rest bytes position ∙ ap (λ l. drop position l) c.deref.ensures.value) in (
      sym (ap (λ v. v.left) c.self.view_is) ∙ moved all into position n is,
      λ none room. ended all position n (omega (arith, none, room, c.self.invariant, c.copy_prefix-count.ensures.count, c.min.ensures, size, size_rest, size_drop, same)),
    )
