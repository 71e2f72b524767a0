-- Kinds of commands.
use Rattle.script_syntax.specs.declared.form.Command.{Command}
use Rattle.script_syntax.specs.declared.form.Command.TheVariants as form

-- the command's reply is one value, and it needs no file
abbrev pub IsInMemory : Command → Type 0
IsInMemory form.Nothing = ⊥
IsInMemory form.Names = ⊥
IsInMemory (form.List query name start limit) = ⊥
IsInMemory (form.ListAll query limit) = ⊥
IsInMemory (form.LoadFile name file) = ⊥
IsInMemory (form.ShareFile name file) = ⊥
IsInMemory (form.WriteFile name file) = ⊥
IsInMemory (form.SaveFile file) = ⊥
IsInMemory (form.OpenFile file) = ⊥
IsInMemory _ = Unit {0}

-- the command registers or removes a query, or asks for one value of its answers
abbrev pub IsOnQueries : Command → Type 0
IsOnQueries (form.Query name formula) = Unit {0}
IsOnQueries (form.Unquery name) = Unit {0}
IsOnQueries (form.UnionQuery name left right) = Unit {0}
IsOnQueries (form.JoinQuery name left right) = Unit {0}
IsOnQueries (form.ProjectQuery name source keep) = Unit {0}
IsOnQueries (form.Count query name) = Unit {0}
IsOnQueries (form.Rank query name tuple) = Unit {0}
IsOnQueries (form.Nonempty query name) = Unit {0}
IsOnQueries (form.Has query name tuple) = Unit {0}
IsOnQueries _ = ⊥
