-- The two ways of making a tree of a file's bytes, and what each costs.
use Rattle.std.specs.Prelude.{◌≡◌, ℕ, ◌+◌, ◌≤◌, List, [], length}
use Rattle.slp_model.specs.declared.Node.{Node}
use Rattle.pair_loader.specs.Pending.{IsLoader, pending_count}
use Rattle.pair_loader.specs.Pending as loader
use Rattle.share_loader.specs.Sharer.{IsSharer, ended_cost, open_count}
use Rattle.share_loader.specs.Sharer as sharer
use Rattle.script_syntax.specs.declared.form.Command.{Command}
use Rattle.script_syntax.specs.declared.form.Command.TheVariants as form
use Rattle.span_language.specs.Allowance.{load_limit, share_limit}
use Rattle.text_commands.specs.declared.loaders.Method.{Method}
use Rattle.text_commands.specs.declared.loaders.Method.TheVariants as method
use Rattle.text_commands.specs.declared.loaders.FileLoader.{FileLoader}
use Rattle.text_commands.specs.declared.loaders.FileLoader.TheVariants.{Load, Share}

-- the command that sets the text of a document to the bytes of a file
abbrev pub file_command : Method → List ℕ → List ℕ → Command
file_command method.Load name file = form.LoadFile name file
file_command method.Share name file = form.ShareFile name file

-- the maximum number of node constructions for n bytes
abbrev pub limit_of : Method → ℕ → ℕ
limit_of method.Load n = load_limit n
limit_of method.Share n = share_limit n

abbrev pub method_of : FileLoader → Method
method_of (Load l) = method.Load
method_of (Share s) = method.Share

-- the loader may be used with a store of these nodes
abbrev pub IsFileLoader : List Node → FileLoader → Type 0
IsFileLoader ns (Load l) = IsLoader ns l
IsFileLoader ns (Share s) = IsSharer ns s

-- the bytes that the loader was fed
abbrev pub fed_to : List Node → FileLoader → List ℕ
fed_to ns (Load l) = loader.fed ns l
fed_to ns (Share s) = sharer.fed ns s

-- the node constructions since the first byte are within what the loader may take
abbrev pub IsWithinLimit : List Node → FileLoader → ℕ → ℕ → Type 0
IsWithinLimit ns (Load l) before now = now + pending_count l ≤ before + length (loader.fed ns l)
IsWithinLimit ns (Share s) before now = now + open_count s ≤ before + length (sharer.fed ns s) + ended_cost ns s

-- a loader that was fed no bytes
pub record IsBegun (method : Method) (l : FileLoader) : Type 0 where
  pub method_is : method_of l ≡ method
  pub used : (ns : List Node) → IsFileLoader ns l
  pub none : (ns : List Node) → fed_to ns l ≡ []
  pub free : (ns : List Node) (pairs : ℕ) → IsWithinLimit ns l pairs pairs
