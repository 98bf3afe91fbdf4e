use Rattle.ev_refs.proofs.Machine.{place_is}
use Rattle.ev_refs.proofs.laws.places_as_the_machine.Goals as goal

pub returns : goal.returns
returns c = λ word ts r s v. place_is word ts r s v
