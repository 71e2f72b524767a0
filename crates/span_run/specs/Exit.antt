-- The exit status of the program.
use Rattle.std.specs.Prelude.{ℕ}
use Rattle.span_run.specs.declared.run_script.Status.{Status}
use Rattle.span_run.specs.declared.run_script.Status.TheVariants.{Done, SomeRefused, Usage, ScriptFault, OutFault, ShelfFault, NoMemory, ScriptTooLong}

abbrev pub exit_of : Status → ℕ
exit_of Done = 0
exit_of SomeRefused = 1
exit_of Usage = 2
exit_of ScriptFault = 3
exit_of OutFault = 4
exit_of ShelfFault = 5
exit_of NoMemory = 6
exit_of ScriptTooLong = 7
