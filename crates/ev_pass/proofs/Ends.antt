-- What comes to no end ends all that would follow.
use Rattle.std.proofs.Common.{◌≡◌, Ok, Err, refl}
use Rattle.std.specs.Prelude.{Result}
use Rattle.ev_pass.specs.declared.interior.Interior.{Interior}
use Rattle.ev_pass.specs.declared.interior.Stop.{Stop}
use Rattle.ev_pass.specs.declared.interior.Stop.TheVariants.{Fuel, Repeated, Astray, Missing, Memory}
use Rattle.ev_pass.specs.Acts.{Out, Act, Unless, Shows, and_then, ◌>>◌}

pub ends : {A B : Type 0} (e : Stop) (s : Interior) (o : Out A) (f : A → Act B) → Unless e (o ≡ (Err e, s)) → Unless e (and_then o f ≡ (Err e, s))
unfolding and_then
ends Fuel s o f h = rw h refl
ends (Repeated i j) s o f h = rw h refl
ends Astray s o f h = rw h refl
ends Missing s o f h = rw h refl
ends Memory s o f h = tt

pub so : (e : Stop) (P : Type 0) → P → Unless e P
so Fuel P h = h
so (Repeated i j) P h = h
so Astray P h = h
so Missing P h = h
so Memory P h = tt

-- something that gives nothing comes first
pub shows_then : {A B : Type 0} (view : A → B) (m : Act (Unit {0})) (n : Act B) (s t u : Interior) (r : Result A Stop) → m s ≡ (Ok tt, t) → Shows view r u (n t) → Shows view r u ((m >> n) s)
unfolding ◌>>◌ and_then
shows_then view m n s t u r e h = rw e h
