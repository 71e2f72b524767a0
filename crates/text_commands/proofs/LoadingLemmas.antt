-- The two ways of making a tree of a file's bytes.
use Rattle.text_commands.proofs.Names.{all_cost, Allowance, arith, Compacts, Does, ended_cost, fed_to, file_command, FileLoader, IsAllowed, IsFileAllowed, IsFileRefused}
use Rattle.text_commands.proofs.Names.{IsOfFile, IsRefused, IsWithinLimit, Kept, length, limit_of, List, load_size, LoadsFile, Method, method_of, Node, None, open_count}
use Rattle.text_commands.proofs.Names.{Option, refl, Refusal, Registers, Some, World, ℕ, ◌+◌, ◌≤◌}
use Rattle.share_loader.proofs.CostLemmas.{all-grows, limit-grows}
use Rattle.share_loader.proofs.SharerLemmas.{all_cost-is, kept-within}
use Rattle.text_commands.specs.declared.loaders.FileLoader.TheVariants.{Load, Share}
use Rattle.text_commands.specs.declared.loaders.Method.TheVariants as method

-- both commands read files, neither register a query nor compact, do the same, are rejected for the same reasons, and have
-- the allowance of their loader
pub load_kinds : (m : Method) (name file : List ℕ) → IsOfFile (file_command m name file) × (Registers (file_command m name file) → ⊥) × (Compacts (file_command m name file) → ⊥)
    × ((old new : World) (reply : List ℕ) → LoadsFile old name file reply new → Does old (file_command m name file) reply new)
    × ((old : World) (why : Refusal) → IsFileRefused old.files file load_size why → IsRefused old (file_command m name file) why)
    × ((old : World) (a : Allowance) → IsFileAllowed old file (limit_of m) a → IsAllowed old (file_command m name file) a)
load_kinds method.Load name file = (tt, (λ no. no), (λ no. no), (λ old new reply h. h), (λ old why h. h), λ old a h. h)
load_kinds method.Share name file = (tt, (λ no. no), (λ no. no), (λ old new reply h. h), (λ old why h. h), λ old a h. h)

-- a longer file allows no fewer node constructions
pub limit_grows : (m : Method) (a b : ℕ) → a ≤ b → limit_of m a ≤ limit_of m b
limit_grows method.Load a b le = omega (arith, le, limit-grows a b le)
limit_grows method.Share a b le = omega (arith, le, all-grows a b le, all_cost-is a a refl, all_cost-is b b refl)

-- the node constructions so far are within the limit for the bytes that were fed
pub within_limit : (ns : List Node) (l : FileLoader) (before now : ℕ) → IsWithinLimit ns l before now → now ≤ before + limit_of (method_of l) (length (fed_to ns l))
within_limit ns (Load l) before now h = omega (arith, h)
within_limit ns (Share None) before now h = omega (arith, h)
within_limit ns (Share (Some k)) before now h = omega (arith, h, kept-within ns k (length (fed_to ns (Share (Some k)))) (omega arith), all_cost-is (length (fed_to ns (Share (Some k)))) _ refl)

-- a sharer that made at most these further node constructions for n bytes more is within the limit for all bytes
pub shared_within : (ns : List Node) (s : Option Kept) (n all before p q : ℕ) → IsWithinLimit ns (Share s) before p → length (fed_to ns (Share s)) + n ≤ all
    → q + ended_cost ns s ≤ p + open_count s + n + all_cost all → q ≤ before + limit_of method.Share all
shared_within ns s n all before p q h le most = omega (arith, h, le, most, all_cost-is all all refl)
