-- What is done inside leaves the gifts as they are.
use Rattle.std.proofs.Common.{Ok, Err, ap}
use Rattle.std.specs.Prelude.{Result}
use Rattle.ev_intro.specs.Gift.{Gifts}
use Rattle.ev_pass.specs.Acts as inner
use Rattle.ev_pass.specs.declared.interior.Interior.{Interior}
use Rattle.ev_pass.specs.declared.interior.Stop.{Stop}
use Rattle.ev_pass.specs.declared.interior.Stop.TheVariants.{Fuel, Repeated, Astray, Missing, Memory}
use Rattle.ev_arrive.specs.Acts.{Gives, around}

pub inside_gives : {A : Type 0} (r : Result A Stop) (i : Interior) (g : Gifts) (o : inner.Out A) → inner.Gives r i o → Gives r (record { inside = i; gifts = g }) (around g o)
inside_gives (Ok a) i g o h = ap (λ (x : inner.Out _). around g x) h
inside_gives (Err Fuel) i g o h = ap (λ (x : inner.Out _). around g x) h
inside_gives (Err (Repeated m n)) i g o h = ap (λ (x : inner.Out _). around g x) h
inside_gives (Err Astray) i g o h = ap (λ (x : inner.Out _). around g x) h
inside_gives (Err Missing) i g o h = ap (λ (x : inner.Out _). around g x) h
inside_gives (Err Memory) i g o h = tt
