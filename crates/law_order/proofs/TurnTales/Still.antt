-- A care with what more a state keeps where no line tells of a message.
use Rattle.std.proofs.Common.{ℕ, suc, ◌-◌, List, [], ◌∷◌, ◌++◌}
use Rattle.def_machine.specs.Values.{Value}
use Rattle.def_machine.specs.State.{Happened, Thing, Cell, Vat, change, dead, holding, Act}
use Rattle.law_fate.proofs.Name.Facts.{Fact, Holds}
use Rattle.law_fate.proofs.Name.Care.{Care, TellsOfNone, Sound, Ends, Fine}
use Rattle.law_reference.proofs.Reference.CareMore.{Leaves}
use Rattle.def_machine.specs.State.{Done, Gives, Throws, Ejects, Stops}

-- what touches no message and nothing that is known keeps it
pub record KeptStill {N : Type 0} (P : Vat N → Type 0) : Type 0 where
  pub fuel : (s : Vat N) (n : ℕ) → P s → P (record s { fuel = s.fuel - n })
  pub told : (s : Vat N) (e : Happened N) → TellsOfNone e → P s → P (record s { happened = s.happened ++ e ∷ [] })
  pub activations : (s : Vat N) → P s → P (record s { activations = suc s.activations })
  pub thing : (s : Vat N) (t : Thing N) → P s → P (record s { things = s.things ++ t ∷ [] })
  pub killed : (s : Vat N) (n : ℕ) → P s → P (record s { things = change dead n s.things })
  pub slot : (s : Vat N) (c : Cell N) → P s → P (record s { slots = s.slots ++ c ∷ [] })
  pub written : (s : Vat N) (n : ℕ) (v : Value N) → P s → P (record s { slots = change (holding v) n s.slots })
  pub list : (s : Vat N) (vs : List (Value N)) → P s → P (record s { lists = s.lists ++ vs ∷ [] })

module _ {N : Type 0} (T : Care N) (P : Vat N → Type 0) (still : KeptStill P) where
  abbrev pub Still : Care N
  Still = record T {
    more = λ s. T.more s × P s;
    here = λ s m. T.here s m.0;
    fuel = λ s n. let r = T.fuel s n in (r.0, λ m. (r.1 m.0, still.fuel s n m.1));
    told = λ s e n. let r = T.told s e n in (r.0, λ m. (r.1 m.0, still.told s e n m.1));
    activations = λ s. let r = T.activations s in (r.0, λ m. (r.1 m.0, still.activations s m.1));
    thing = λ s z. let r = T.thing s z in (r.0, λ m. (r.1 m.0, still.thing s z m.1));
    killed = λ s n. let r = T.killed s n in (r.0, λ m. (r.1 m.0, still.killed s n m.1));
    slot = λ s c. let r = T.slot s c in (r.0, λ m. (r.1 m.0, still.slot s c m.1));
    written = λ s n y. let r = T.written s n y in (r.0, λ m. (r.1 m.0, still.written s n y m.1));
    list = λ s ys. let r = T.list s ys in (r.0, λ m. (r.1 m.0, still.list s ys m.1));
  }

  pub with_still : (s : Vat N) → Sound T s → P s → Sound Still s
  with_still s h o = record { parts = h.parts; more = (h.more, o) }

  pub without : (s : Vat N) → Sound Still s → Sound T s
  without s h = let m = h.more in record { parts = h.parts; more = m.0 }

  pub still_of : (s : Vat N) → Sound Still s → P s
  still_of s h = let m = h.more in m.1

  pub joined : {A : Type 0} (G : A → Fact N) (s : Vat N) (d : Done N A) → Ends T G s d → Leaves P d → Ends Still G s d
  joined G s (Gives a t) h l = (h.0, with_still t h.1 l, h.2)
  joined G s (Throws p t) h l = (h.0, with_still t h.1 l)
  joined G s (Ejects n y t) h l = (h.0, with_still t h.1 l, h.2)
  joined G s (Stops c t) h l = tt

  -- from what is known of the state and of what is in hand
  pub lift_of : {A : Type 0} {C : Fact N} {m : Act N A} {G : A → Fact N} → Fine T C m G → ((s : Vat N) → Sound T s → Holds (T.ok s) C → P s → Leaves P (m s)) → Fine Still C m G
  lift_of {m = m} {G = G} f l = record { after = λ s h c. joined G s (m s) (f.after s (without s h) c) (l s (without s h) c (still_of s h)) }
