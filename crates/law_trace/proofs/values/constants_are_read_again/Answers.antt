use Rattle.std.proofs.Common.{refl}
use Rattle.law_trace.proofs.values.constants_are_read_again.Goals as goal

pub returns : goal.returns
returns c = record { nothing = λ names. refl; yes_value = λ names. refl; no_value = λ names. refl }
