-- What is refused ends all that would follow.
use Rattle.std.proofs.Common.{Err, refl}
use Rattle.ev_wire.specs.declared.fault.HearFault.{HearFault}
use Rattle.ev_wire.specs.declared.fault.HearFault.TheVariants.{Malformed, Memory}
use Rattle.ev_wire.specs.declared.news.News.{News}
use Rattle.ev_wire.specs.Hearing.{Act, Out, Shows, and_then}

pub ends : {A B C X : Type 0} (v : X → A) (w : C → B) (e : HearFault) (s : News) (o : Out A) (f : A → Act B) → Shows v (Err e) s o → Shows w (Err e) s (and_then o f)
unfolding and_then
ends v w Malformed s o f h = rw h refl
ends v w Memory s o f h = tt
