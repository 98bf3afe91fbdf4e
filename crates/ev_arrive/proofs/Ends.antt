-- What comes to no end ends all that would follow.
use Rattle.std.proofs.Common.{◌≡◌, Err, refl}
use Rattle.ev_pass.specs.Acts.{Unless}
use Rattle.ev_pass.specs.declared.interior.Stop.{Stop}
use Rattle.ev_pass.specs.declared.interior.Stop.TheVariants.{Fuel, Repeated, Astray, Missing, Memory}
use Rattle.ev_arrive.specs.Acts.{Out, Act, and_then}
use Rattle.ev_arrive.specs.declared.host.Host.{Host}

pub ends : {A B : Type 0} (e : Stop) (h : Host) (o : Out A) (f : A → Act B) → Unless e (o ≡ (Err e, h)) → Unless e (and_then o f ≡ (Err e, h))
unfolding and_then
ends Fuel h o f is = rw is refl
ends (Repeated i j) h o f is = rw is refl
ends Astray h o f is = rw is refl
ends Missing h o f is = rw is refl
ends Memory h o f is = tt
