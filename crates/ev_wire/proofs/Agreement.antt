-- What is heard is what is received, and what has a spelling tells of promises.
use Rattle.std.proofs.Common.{◌≡◌, ℕ, ◌-◌, List, length, Option, Some, None, refl}
use Rattle.std.specs.Prelude.{IfSome}
use Rattle.def_op.specs.Frames as op
use Rattle.def_op.specs.Frames.{Described, IsOp, IsSubject, Operation}
use Rattle.ev_arrive.specs.declared.host.Carried.TheVariants as carried
use Rattle.ev_arrive.specs.declared.brought.Heard.TheVariants as heard
use Rattle.ev_op.specs.Decoded.{decoded}
use Rattle.def_op.specs.Reading.{◌>>=◌, op_at}
use Rattle.ev_op.proofs.NumberLemmas.{IsBytes}
use Rattle.ev_op.proofs.OpLemmas.{op_takes}
use Rattle.ev_wire.specs.Reading.{IsPromise}
use Rattle.ev_wire.specs.HearingStatements.{IsReceived, SpelledTellOfPromises}

pub agrees : IsReceived
agrees ts n me peer (heard.Deliver (carried.Back m) asks x verb args) = refl
agrees ts n me peer (heard.Deliver carried.New asks x verb args) = refl
agrees ts n me peer (heard.Open w x) = refl
agrees ts n me peer (heard.Ask p w) = refl
agrees ts n me peer (heard.Settled x y) = refl
agrees ts n me peer (heard.Elsewhere x c) = refl
agrees ts n me peer (heard.Shorten x s) = refl

of_subject : (d : Described) → IsSubject d → IsPromise d
unfolding IsSubject
of_subject (op.MyPromise p) h = tt
of_subject (op.MyAnswer q) h = tt
of_subject (op.MyExport p) h = absurd h
of_subject (op.YourExport p) h = absurd h
of_subject (op.YourAnswer q) h = absurd h
of_subject (op.Datum x) h = absurd h
of_subject (op.ListOf ds) h = absurd h
of_subject (op.Broken p) h = absurd h
of_subject (op.Third g w) h = absurd h

pub promises : SpelledTellOfPromises
unfolding IsOp
promises (op.Resolve d o) h = of_subject d h.0
promises (op.Deliver q d verb ds) h = tt
promises (op.DeliverOnly d verb ds) h = tt
promises (op.Provide d w) h = tt
promises (op.Accept q p w) h = tt
promises (op.Shorten d w) h = tt

-- ---- what begins bytes

found_at : (bytes : List ℕ) → IsBytes bytes → (o : Option (Operation × List ℕ)) → op_at bytes ≡ o → IfSome (o >>= λ x. Some (x.0, length bytes - length x.1)) (λ (x : Operation × ℕ). IsOp x.0)
found_at bytes fits (Some x) e = (op_takes bytes x fits e).1
found_at bytes fits None e = tt

pub found_spelled : (bytes : List ℕ) → IsBytes bytes → IfSome (decoded bytes) (λ x. IsOp x.0)
found_spelled bytes fits = found_at bytes fits (op_at bytes) refl
