use Rattle.text_commands.proofs.Names.{ap, arith, length, ◌∙◌}
use Rattle.text_commands.proofs.files.read_pieces.Goals as goal

pub loop-piece-preserved : goal.loop-piece-preserved
loop-piece-preserved g c =
    let i = c.loop-piece.invariant in
    let next = (rw i.files at c.in_ok-count.ensures.next) c.loop-piece.bytes.items (omega (arith, c.len.ensures)) i.prefix in
    let all = c.in_ok-push_piece.ensures in
    record {
      within = omega (arith, ap length all, next.size, c.in_ok-count.ensures.count.1, c.len.ensures);
      prefix = rw all next.begins;
      files = c.next_piece.ensures.files ∙ i.files;
      sound = c.in_ok-count.ensures.sound ∙ i.sound;
    }
