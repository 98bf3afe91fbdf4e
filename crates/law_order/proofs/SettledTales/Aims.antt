-- What a name of another vat settles to, as a note tells: data, at which nothing arrives, or an object of the vat that tells it.
use Rattle.std.proofs.Common.{◌≡◌, ℕ, false, List, refl, sym, ap, subst, ◌∙◌}
use Rattle.def_machine.specs.Values.{Value, Ref, Name, Naming, Foreign}
use Rattle.def_machine.specs.State.{Known, Vat, is_in}
use Rattle.def_machine.specs.Refs as refs
use Rattle.def_machine.specs.Refs.{follow_at}
use Rattle.def_run.specs.World.{Script, names}
use Rattle.law_fate.specs.Fates.Lasting.{NoPromise}
use Rattle.law_order.specs.Ordering.Ways.{Way, Nowhere, End}
use Rattle.law_order.specs.Ordering.Places.{aimed}
use Rattle.law_order.specs.Ordering.Settle.{aimed_at}
use Rattle.law_order.proofs.Runs.Truths.{data_self}
use Rattle.law_order.proofs.Steady.Facts.{IsClear, severed_clear}

-- it names nothing
abbrev pub IsData : Value Name → Type 0
IsData (Ref q) = ⊥
IsData other = Unit {0}

pub data_lasts : (y : Value Name) → IsData y → NoPromise y
data_lasts (Ref q) h = absurd h
data_lasts other h = tt

pub data_clear : (K : Naming Name Name) (hs : List ℕ) (y : Value Name) → IsData y → IsClear K hs y
data_clear K hs (Ref q) h = absurd h
data_clear K hs other h = tt

pub data_ended : (script : Script) (v d : ℕ) (ks : List (Known Name)) (y : Value Name) → IsData y → follow_at (names script v) d ks y ≡ y
data_ended script v d ks (Ref q) h = absurd h
data_ended script v d ks other h = data_self script v d ks other tt

pub data_nowhere : (script : Script) (v : ℕ) (s : Vat Name) (y : Value Name) → IsData y → aimed_at script v s y ≡ Nowhere
unfolding aimed_at aimed refs.severed refs.place
data_nowhere script v s (Ref q) h = absurd h
data_nowhere script v s other h = refl

-- an object of vat a goes out there, where that was not noticed
pub object_out : (script : Script) (v a : ℕ) (s : Vat Name) (q : Name) → (names script v).spot q ≡ Foreign a → is_in a s.noticed ≡ false → aimed_at script v s (Ref q) ≡ End (Way v a) q
unfolding aimed_at aimed refs.place refs.spotted
object_out script v a s q far unnoticed =
    let clear : IsClear (names script v) s.noticed (Ref q) = subst (λ c. Rattle.law_order.proofs.Steady.Facts.ClearSpot s.noticed c) (sym far) unnoticed in
    ap (λ z. aimed v z (refs.place (names script v) s z)) (severed_clear script v s (Ref q) clear) ∙ ap (λ c. aimed v (Ref q) (refs.spotted (names script v) s q c)) far
