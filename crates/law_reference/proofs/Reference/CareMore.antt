-- A care with something more that a state keeps.
use Rattle.std.proofs.Common.{ℕ, suc, ◌-◌, List, [], ◌∷◌, ◌++◌}
use Rattle.def_machine.specs.Values.{Value}
use Rattle.def_machine.specs.State.{Happened, Thing, Cell, Vat, change, dead, holding, Done, Gives, Throws, Ejects, Stops, Act}
use Rattle.law_fate.proofs.Name.Facts.{Fact, Holds}
use Rattle.law_fate.proofs.Name.Care.{Care, Sound, Ends, Fine}

-- so it is however an act ends; of a stop nothing is said
abbrev pub Leaves : {N A : Type 0} → (Vat N → Type 0) → Done N A → Type 0
Leaves P (Gives a t) = P t
Leaves P (Throws p t) = P t
Leaves P (Ejects n y t) = P t
Leaves P (Stops c t) = Unit {0}

-- what touches no message and nothing that is known keeps it
pub record KeptQuiet {N : Type 0} (P : Vat N → Type 0) : Type 0 where
  pub fuel : (s : Vat N) (n : ℕ) → P s → P (record s { fuel = s.fuel - n })
  pub told : (s : Vat N) (e : Happened N) → P s → P (record s { happened = s.happened ++ e ∷ [] })
  pub activations : (s : Vat N) → P s → P (record s { activations = suc s.activations })
  pub thing : (s : Vat N) (t : Thing N) → P s → P (record s { things = s.things ++ t ∷ [] })
  pub killed : (s : Vat N) (n : ℕ) → P s → P (record s { things = change dead n s.things })
  pub slot : (s : Vat N) (c : Cell N) → P s → P (record s { slots = s.slots ++ c ∷ [] })
  pub written : (s : Vat N) (n : ℕ) (v : Value N) → P s → P (record s { slots = change (holding v) n s.slots })
  pub list : (s : Vat N) (vs : List (Value N)) → P s → P (record s { lists = s.lists ++ vs ∷ [] })

module _ {N : Type 0} (T : Care N) (P : Vat N → Type 0) (quiet : KeptQuiet P) where
  abbrev pub More : Care N
  More = record {
    ok = T.ok;
    more = λ s. T.more s × P s;
    rel = T.rel;
    same = T.same;
    trans = T.trans;
    up = T.up;
    here = λ s m. T.here s m.0;
    near = T.near;
    entered = T.entered;
    owned = T.owned;
    owner = T.owner;
    drew = T.drew;
    fuel = λ s n. let r = T.fuel s n in (r.0, λ m. (r.1 m.0, quiet.fuel s n m.1));
    told = λ s e n. let r = T.told s e n in (r.0, λ m. (r.1 m.0, quiet.told s e m.1));
    activations = λ s. let r = T.activations s in (r.0, λ m. (r.1 m.0, quiet.activations s m.1));
    thing = λ s z. let r = T.thing s z in (r.0, λ m. (r.1 m.0, quiet.thing s z m.1));
    killed = λ s n. let r = T.killed s n in (r.0, λ m. (r.1 m.0, quiet.killed s n m.1));
    slot = λ s c. let r = T.slot s c in (r.0, λ m. (r.1 m.0, quiet.slot s c m.1));
    written = λ s n y. let r = T.written s n y in (r.0, λ m. (r.1 m.0, quiet.written s n y m.1));
    list = λ s ys. let r = T.list s ys in (r.0, λ m. (r.1 m.0, quiet.list s ys m.1));
  }

  pub with_more : (s : Vat N) → Sound T s → P s → Sound More s
  with_more s h o = record { parts = h.parts; more = (h.more, o) }

  pub without : (s : Vat N) → Sound More s → Sound T s
  without s h = let m = h.more in record { parts = h.parts; more = m.0 }

  pub more_of : (s : Vat N) → Sound More s → P s
  more_of s h = let m = h.more in m.1

  pub joined : {A : Type 0} (G : A → Fact N) (s : Vat N) (d : Done N A) → Ends T G s d → Leaves P d → Ends More G s d
  joined G s (Gives a t) h l = (h.0, with_more t h.1 l, h.2)
  joined G s (Throws p t) h l = (h.0, with_more t h.1 l)
  joined G s (Ejects n y t) h l = (h.0, with_more t h.1 l, h.2)
  joined G s (Stops c t) h l = tt

  -- from what is known of the state and of what is in hand
  pub lift_of : {A : Type 0} {C : Fact N} {m : Act N A} {G : A → Fact N} → Fine T C m G → ((s : Vat N) → Sound T s → Holds (T.ok s) C → P s → Leaves P (m s)) → Fine More C m G
  lift_of {m = m} {G = G} f l = record { after = λ s h c. joined G s (m s) (f.after s (without s h) c) (l s (without s h) c (more_of s h)) }

  pub lift : {A : Type 0} {C : Fact N} {m : Act N A} {G : A → Fact N} → Fine T C m G → ((s : Vat N) → P s → Leaves P (m s)) → Fine More C m G
  lift f l = lift_of f (λ s h c o. l s o)

  pub ends_leave : {A : Type 0} (G : A → Fact N) (s : Vat N) (d : Done N A) → Ends More G s d → Leaves P d
  ends_leave G s (Gives a t) h = more_of t h.1
  ends_leave G s (Throws p t) h = more_of t h.1
  ends_leave G s (Ejects n y t) h = more_of t h.1
  ends_leave G s (Stops c t) h = tt
