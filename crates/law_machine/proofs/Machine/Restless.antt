-- A vat that is not at rest: a name of a noticed host still waits, and a note settles it to null.
use Rattle.std.proofs.Common.{zero, [], ◌∷◌, refl}
use Rattle.def_machine.specs.Values.{Null, Name, Local, Prom, Naming, numbering}
use Rattle.def_machine.specs.State.{Unsettled, Known, Plain, SettledTo, Vat}
use Rattle.def_machine.specs.Arrive.{Old, opened_arrive}
use Rattle.law_machine.specs.Machine.Steps.{Receives, does}
use Rattle.law_machine.specs.Machine.Breaks.{RestIsNeeded}

waiting : Known Local
waiting = record { name = Prom zero; host = 1; standing = Unsettled; held = []; waiting = []; reactions = []; told = [] }

restless : Vat Local
restless = record { number = zero; fuel = 100; drawn = []; things = []; slots = []; lists = []; activations = zero; messages = zero; promises = zero; queue = []; known = waiting ∷ []; mails = []; gifts = []; noticed = 1 ∷ []; outbox = []; happened = [] }

pub rest_needed : RestIsNeeded
unfolding opened_arrive does restless waiting
rest_needed = let names : Naming Local Name = numbering (λ i. i) in (names, restless, Receives 1 (SettledTo (Old (Prom zero)) (Plain Null)), Prom zero, refl, refl)
