-- The bits of a set.
use Rattle.std.proofs.Common.{◌≡◌, ℕ, ◌-◌, ◌<◌, ◌≤◌, ◌/◌, ◌%◌, ap, List, cond, get_or}
use Rattle.std.specs.Int.{bit_at}
use Rattle.std.proofs.lemmas.Bool.{lt-ltb, le-ltb}
use Rattle.state_tables.specs.Digest.{set_digest}
use Rattle.state_tables.specs.SharedSet.{set_branch}

pub set-branch-digest : (ws : List ℕ) (depth : ℕ) → depth < 64 → set_branch ws depth ≡ bit_at (set_digest ws) (127 - depth)
unfolding set_branch
set-branch-digest ws depth lt =
    ap (λ b. cond b (bit_at (set_digest ws) (127 - depth)) (bit_at (get_or ws ((depth - 64) / 64) 0) ((depth - 64) % 64))) (lt-ltb depth 64 lt)

pub set-branch-words : (ws : List ℕ) (depth : ℕ) → 64 ≤ depth → set_branch ws depth ≡ bit_at (get_or ws ((depth - 64) / 64) 0) ((depth - 64) % 64)
unfolding set_branch
set-branch-words ws depth le =
    ap (λ b. cond b (bit_at (set_digest ws) (127 - depth)) (bit_at (get_or ws ((depth - 64) / 64) 0) ((depth - 64) % 64))) (le-ltb depth 64 le)
