-- A vat is told that a name of another vat settled: by small steps the name settles, and then what waited on it.
use Rattle.std.proofs.Common.{◌≡◌, ℕ, Bool, true, List, [], Some, sym, ap, subst, ◌∙◌, ◌⊎◌, inl, inr}
use Rattle.std.specs.Prelude.{slice_get}
use Rattle.def_machine.specs.Values.{Value, Name, Naming, host_of}
use Rattle.def_machine.specs.State.{Known, Unsettled, Settled, Settles, Vat, Done, Gives, begun}
use Rattle.def_machine.specs.Refs as refs
use Rattle.def_machine.specs.Refs.{entry_of}
use Rattle.def_run.specs.World.{Script, Event, World, names, readied}
use Rattle.law_fate.specs.Fates.Lasting.{NoPromise}
use Rattle.law_order.specs.Ordering.Settle.{settled_to}
use Rattle.law_order.specs.Ordering.Settlings.{with_line}
use Rattle.law_order.specs.Arrivals.Notes.{KeepsAll}
use Rattle.law_order.specs.Arrivals.Tellings.{IsTidy, IsToldOf}
use Rattle.law_order.proofs.News.Learnt.{Learnt}
use Rattle.law_order.proofs.News.Away.{settled_rests}
use Rattle.law_order.specs.History.Tells.{SmallStep, Tale, over, then_on}
use Rattle.law_order.specs.Tales.Middle.{middle}
use Rattle.law_order.proofs.NewsTales.First.{first_small}
use Rattle.law_order.proofs.NewsTales.Parts.{Parts, settle_parts, alone_is}

pub gives_same : (s t : Vat Name) → ◌≡◌ {A = Done Name (Unit {0})} (Gives tt s) (Gives tt t) → s ≡ t
gives_same s t e = cc

module _ (script : Script) (honest : ℕ → Bool) (all : (h : ℕ) → honest h ≡ true) (x : World) (b a : ℕ) (was : Vat Name) (there : slice_get x.vats b ≡ Some was) (head : List Event) (n : Name)
    (s : Vat Name) (l : Learnt script x honest b was n s) (empty : (j : Known Name) → entry_of (names script b) was.known n ≡ Some j → (j.held ≡ []) × (j.told ≡ []))
    (z y : Value Name) (same : refs.target_of (names script b) s n z ≡ y) (last : NoPromise y) (t : Vat Name) (ends : refs.settle (names script b) n z s ≡ Gives tt t) where
  abbrev K : Naming Name Name
  K = names script b

  abbrev At : Vat Name → World
  At q = middle x b head q

  abbrev Start : Vat Name
  Start = readied x was

  -- what was settled stays so
  pub stale_tale : (v : Value Name) → l.entry.standing ≡ Settled v → Tale script honest (At s) (At t)
  stale_tale v settled = subst (λ q. Tale script honest (At s) (At q)) (gives_same s t (sym (settled_rests script honest x b s n z v l.entry l.found settled) ∙ ends)) over

  abbrev Then : Vat Name → Vat Name
  Then q = settled_to K (with_line q (Settles n y)) n y

  -- what waited on it settles, where it was known before
  abbrev pub Rest : Type 0
  Rest = (j : Known Name) → entry_of K was.known n ≡ Some j → j.standing ≡ Unsettled → (j.held ≡ []) × (j.told ≡ []) → Parts K Start n y j t → Tale script honest (At (Then Start)) (At t)

  bare_by : ((entry_of K was.known n ≡ Some l.entry) × (s ≡ Start)) ⊎ (l.entry ≡ begun n (host_of n)) → (l.entry.held ≡ []) × (l.entry.told ≡ [])
  unfolding begun
  bare_by (inl i) = empty l.entry i.0
  bare_by (inr i) = (ap (λ (j : Known Name). j.held) i, ap (λ (j : Known Name). j.told) i)

  bare : (l.entry.held ≡ []) × (l.entry.told ≡ [])
  bare = bare_by l.stood

  module _ (unsettled : l.entry.standing ≡ Unsettled) (tidy : IsTidy script honest x b s) (told : IsToldOf script b a s (Then s) n y) (keeps : KeepsAll script honest x b s (Then s)) (rest : Rest) where
    first : SmallStep script honest (At s) (At (Then s))
    first = first_small script honest all x b a was there head n s l.entry l.found unsettled bare.0 y last tidy told keeps

    then_by : ((entry_of K was.known n ≡ Some l.entry) × (s ≡ Start)) ⊎ (l.entry ≡ begun n (host_of n)) → Tale script honest (At (Then s)) (At t)
    unfolding begun
    then_by (inl i) = subst (λ q. Tale script honest (At (Then q)) (At t)) (sym i.1) (rest l.entry i.0 unsettled bare
        (subst (λ q. Parts K q n y l.entry t) i.1 (settle_parts K s n y l.entry t bare.0 bare.1 l.found unsettled z same ends)))
    then_by (inr i) = subst (λ q. Tale script honest (At (Then s)) (At q)) (sym (alone_is K s n y l.entry t bare.0 bare.1 l.found unsettled z same ends (ap (λ (j : Known Name). j.waiting) i) (ap (λ (j : Known Name). j.reactions) i))) over

    pub told_tale : Tale script honest (At s) (At t)
    told_tale = then_on first (then_by l.stood)
