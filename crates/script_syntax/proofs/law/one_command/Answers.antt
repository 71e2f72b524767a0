use Rattle.script_syntax.proofs.OneLine.{one_command_of}
use Rattle.script_syntax.proofs.law.one_command.Goals as goal

pub returns : goal.returns
returns c = one_command_of
