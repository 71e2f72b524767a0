use Rattle.std.proofs.Common.{rules, ◌≡◌, ◌∷◌}
use Rattle.script_syntax.proofs.Items.{no_hex}
use Rattle.script_syntax.proofs.quoted.item.Goals as goal

pub returns-in_err-byte : goal.returns-in_err-byte
returns-in_err-byte c =
    let is : c.args.text.now ≡ 92 ∷ 120 ∷ c.in_ok-sign.more.now = search rules in
    rw c.from_residual-in_err-byte.ensures (no_hex c.args.text.now c.in_ok-sign.more.now is c.in_err-byte.ensures)
