use Rattle.std.proofs.Common.{refl}
use Rattle.clap.proofs.OnLiterals.{clap_on_literals}
use Rattle.span_words.proofs.law.no_words.Goals as goal

pub returns : goal.returns
unfolding clap_on_literals
returns c = record { taken = refl; workers_asked = refl; states_asked = refl; demo_asked = refl }
