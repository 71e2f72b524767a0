use Rattle.std.proofs.Common.{◌≡◌, ◌++◌, ◌∷◌, [], ℕ, List, ap, ◌∙◌, append_assoc}
use Rattle.byteorder.specs.Endian.{big_bytes}
use Rattle.slp_image.proofs.bytes.push_node.Goals as goal

regroup : (out a b c : List ℕ) → ((out ++ a) ++ b) ++ c ≡ out ++ (a ++ (b ++ c))
regroup out a b c = append_assoc (out ++ a) b c ∙ append_assoc out a (b ++ c)

pub returns-in_ok-push_number-in-Pair-2 : goal.returns-in_ok-push_number-in-Pair-2
returns-in_ok-push_number-in-Pair-2 c =
    rw (c.in-Pair.is) (c.in_ok-push_number-in-Pair-2.ensures ∙ (ap (λ x. x ++ big_bytes 8 c.in-Pair.right.index) (c.in_ok-push_number-in-Pair.ensures ∙ ap (λ x. x ++ big_bytes 8 c.in-Pair.left.index) c.in_ok-push_byte-in-Pair.ensures) ∙ regroup c.args.out.now.items (1 ∷ []) (big_bytes 8 c.in-Pair.left.index) (big_bytes 8 c.in-Pair.right.index)))
