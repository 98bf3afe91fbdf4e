-- A name of another vat settles at a vat that is told so, from the state in which all was learnt: by small steps it settles, and then what waited on it.
use Rattle.std.proofs.Common.{◌≡◌, ℕ, Bool, true, false, List, [], Some, None, sym, subst, ◌∙◌, ◌⊎◌, inl}
use Rattle.std.specs.Prelude.{slice_get}
use Rattle.def_machine.specs.Values.{Words, Value, Broken, Name, Naming, host_of}
use Rattle.def_machine.specs.State.{Known, Unsettled, Settled, Vat, Gives, is_in}
use Rattle.def_machine.specs.Refs as refs
use Rattle.def_machine.specs.Refs.{entry_of, standing_of, follow_at}
use Rattle.def_run.specs.World.{Script, Event, World, names}
use Rattle.law_fate.specs.Name.Names.{IsAmong}
use Rattle.law_fate.specs.Fates.Lasting.{NoPromise}
use Rattle.law_order.specs.Ordering.Settle.{aimed_at}
use Rattle.law_order.specs.Ordering.Steps.{Ready}
use Rattle.law_order.specs.Ordering.Worlds.{IsObject}
use Rattle.law_order.specs.Arrivals.Notes.{KeepsAll}
use Rattle.law_order.specs.Arrivals.Tellings.{IsTidy, IsToldOf}
use Rattle.law_order.proofs.News.Away.{told_settled, settled_rests}
use Rattle.law_order.specs.Waits.Answers.{IsWaitOf}
use Rattle.law_order.proofs.Steady.Facts.{IsClear}
use Rattle.law_order.proofs.Steady.Steady.{Steady}
use Rattle.law_order.specs.History.Tells.{SmallStep, Tale, over, then_on}
use Rattle.law_order.specs.Tales.Middle.{middle}
use Rattle.law_order.specs.Settling.Holding.{Holds, HeldCame, VatsAreSound}
use Rattle.law_order.proofs.Settling.Later.{Later}
use Rattle.law_order.proofs.Settling.Settling.{IsList}
use Rattle.law_order.proofs.Settling.Walk.{IsObjectValue}
use Rattle.law_order.proofs.NewsTales.First.{first_small}
use Rattle.law_order.proofs.NewsTales.Parts.{settle_parts}
use Rattle.law_order.proofs.NewsTales.Told.{gives_same}
use Rattle.law_order.proofs.SettledTales.Heard.{GoesOut, heard_later}
use Rattle.law_order.proofs.SettledTales.Heard as heard
use Rattle.law_order.proofs.SettledTales.Waits as waits

module _ (script : Script) (honest : ℕ → Bool) (all : (h : ℕ) → honest h ≡ true) (x : World) (b a : ℕ) (was : Vat Name) (there : slice_get x.vats b ≡ Some was) (head : List Event) (n : Name) (hosted : host_of n ≡ a) (other : a ≡ b → ⊥) (plain : IsObject n → ⊥) where
  abbrev K : Naming Name Name
  K = names script b

  abbrev At : Vat Name → World
  At s = middle x b head s

  -- What holds of the vat as it has learnt all: it knows the name, which is unsettled or broken.
  pub record HasLearnt (s : Vat Name) : Type 0 where
    pub steady : Steady script x b (λ m. 0) (λ m. 0) s
    pub holds : Holds script honest x b head s
    pub tidy : IsTidy script honest x b s
    pub unnoticed : is_in a s.noticed ≡ false
    pub entry : Known Name
    pub found : entry_of K s.known n ≡ Some entry
    pub bare : (entry.held ≡ []) × (entry.told ≡ [])
    pub new : (entry.standing ≡ Unsettled) ⊎ ((p : Words) × (entry.standing ≡ Settled (Broken p)))
    -- it was known before, if anything waits for it
    pub was_known : (entry.waiting ≡ []) ⊎ ((j : Known Name) × (entry_of K was.known n ≡ Some j))
    pub sleeps : (q : Name) → IsAmong q entry.waiting → IsWaitOf n (standing_of K s.known q)

  module _ (s : Vat Name) (l : HasLearnt s) where
    -- what it settles to, and where that leads
    module _ (y : Value Name) (last : NoPromise y) (clear : IsClear K s.noticed y) where
      abbrev pub Then : Vat Name
      Then = heard.Then script honest x b a head was there n y s

      away : host_of n ≡ b → ⊥
      away i = other (sym hosted ∙ i)

      -- no object is known then either
      pub unknown : l.entry.standing ≡ Unsettled → (q : Name) → IsObject q → entry_of K Then.known q ≡ None
      unknown unsettled q i = let r = waits.ready_then script honest all x b was there head n away s l.steady l.entry l.found unsettled l.bare.0 l.sleeps y last in r.ends.objects q i

      module _ (unsettled : l.entry.standing ≡ Unsettled) (ended : (d : ℕ) → follow_at K d Then.known y ≡ y) (out : GoesOut b a (aimed_at script b Then y)) (keeps : IsToldOf script b a s Then n y → KeepsAll script honest x b s Then)
          (sound : VatsAreSound script x) (came : (l.entry.waiting ≡ []) ⊎ (IsObjectValue y → HeldCame script honest x b head s)) where
        ready_then : Ready script honest x b Then
        ready_then = waits.ready_then script honest all x b was there head n away s l.steady l.entry l.found unsettled l.bare.0 l.sleeps y last

        told : IsToldOf script b a s Then n y
        told = record {
          only = told_settled script b s n y l.entry l.found unsettled l.bare.0;
          own = (let r = l.holds in let q = r.ready in q.number);
          host = hosted;
          other = other;
          reached = inl l.unnoticed;
          plain = plain;
          follows = ready_then.ends;
          ended = ended;
        }

        later : Later script honest x b head (IsList y) s Then
        later = heard_later script honest x b a head was there n y s l.tidy told out ready_then

        first : SmallStep script honest (At s) (At Then)
        first = first_small script honest all x b a was there head n s l.entry l.found unsettled l.bare.0 y last l.tidy told (keeps told)

        pub settles_tale : (t : Vat Name) (z : Value Name) → refs.target_of K s n z ≡ y → refs.settle K n z s ≡ Gives tt t → Tale script honest (At s) (At t)
        settles_tale t z same ends = then_on first (waits.rest_tale script honest all x b was there head n away s l.steady l.entry l.found unsettled l.bare.0 l.sleeps y last clear sound l.holds came later t
            (settle_parts K s n y l.entry t l.bare.0 l.bare.1 l.found unsettled z same ends))

    -- what was settled stays so
    pub stale_tale : (t : Vat Name) (z y : Value Name) → l.entry.standing ≡ Settled y → refs.settle K n z s ≡ Gives tt t → Tale script honest (At s) (At t)
    stale_tale t z y settled ends = subst (λ q. Tale script honest (At s) (At q)) (gives_same s t (sym (settled_rests script honest x b s n z y l.entry l.found settled) ∙ ends)) over
