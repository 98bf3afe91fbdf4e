-- What references give is what an activation gives that has them do it.
use Rattle.std.proofs.Common.{◌≡◌, Ok, Err, refl}
use Rattle.std.specs.Prelude.{Result}
use Rattle.ev_pass.specs.Acts as inside
use Rattle.ev_pass.specs.declared.interior.Interior.{Interior}
use Rattle.ev_pass.specs.declared.interior.Stop.{Stop}
use Rattle.ev_pass.specs.declared.interior.Stop.TheVariants.{Fuel, Repeated, Astray, Missing, Memory}
use Rattle.ev_steps.specs.Eventual.{exit_of, lifted, lifted_by}
use Rattle.ev_room.specs.Acts.{Gives}

pub lifts : {A : Type 0} (r : Result A Stop) (s : Interior) (o : inside.Out A) → inside.Gives r s o → Gives (lifted_by r) s (lifted o)
unfolding exit_of lifted_by
lifts (Ok a) s o h = rw h refl
lifts (Err Fuel) s o h = rw h refl
lifts (Err (Repeated i j)) s o h = rw h refl
lifts (Err Astray) s o h = rw h refl
lifts (Err Missing) s o h = rw h refl
lifts (Err Memory) s o h = tt
