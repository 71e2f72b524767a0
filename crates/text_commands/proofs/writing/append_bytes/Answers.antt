use Rattle.text_commands.proofs.Names.{[], ap, append_assoc, IsSome, List, None, Option, refl, rules, Some, subst, take, ℕ, ◌++◌, ◌∙◌}
use Rattle.edge_io.specs.Files.{IsBegun}
use Rattle.text_commands.proofs.writing.append_bytes.Goals as goal

-- what was begun has a name and bytes
some_begun : (begun : Option (Option (List ℕ × List ℕ))) → IsSome begun → (name : List ℕ) × (so_far : List ℕ) × IsBegun begun name so_far
some_begun None h = let bad : ⊥ = cc h in absurd bad
some_begun (Some None) h = ([], [], tt)
some_begun (Some (Some begun)) h = (begun.0, begun.1, (refl, refl))

begun_some : (begun : Option (Option (List ℕ × List ℕ))) (name so_far : List ℕ) → IsBegun begun name so_far → IsSome begun
begun_some None name so_far h = absurd h
begun_some (Some told) name so_far h = refl

pub loop-piece-preserved : goal.loop-piece-preserved
loop-piece-preserved g c =
    let i = c.loop-piece.invariant in
    let f = g.F.Shelf in
    let before = i.done.0 in
    let piece = take c.next_bytes-count.result c.next_bytes-count.new.piece in
    let here = some_begun (f.begun c.loop-piece.shelf) i.some in
    record {
      some = begun_some (f.begun c.append.new.self) here.0 (here.1 ++ piece) (c.in_ok-append.ensures.begun here.0 here.1 here.2);
      room = search rules;
      done = (
        before ++ piece,
        append_assoc before piece c.next_bytes-count.new.bytes ∙ ap (λ (l : List ℕ). before ++ l) c.next_bytes-count.ensures.bytes ∙ i.done.1,
        λ name so_far is. subst (IsBegun (f.begun c.append.new.self) name) (append_assoc so_far before piece) (c.in_ok-append.ensures.begun name (so_far ++ before) (i.done.2 name so_far is)),
      );
      files = c.in_ok-append.ensures.kept ∙ i.files;
      stand = (c.in_ok-append.ensures.cause.kept.0 ∙ i.stand.0, c.in_ok-append.ensures.cause.kept.1 ∙ i.stand.1);
    }
