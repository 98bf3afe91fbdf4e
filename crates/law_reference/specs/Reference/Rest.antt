-- What rests in every vat of every world of a run.
use Rattle.std.specs.Prelude.{◌≡◌, ℕ, zero, suc, true, false, List, ◌++◌, Some, length, slice_get}
use Rattle.def_machine.specs.Values.{Value, Broken, Ref, Name, Naming}
use Rattle.def_machine.specs.State.{Viewed, Vat, is_in}
use Rattle.def_machine.specs.Refs.{standing_of, host_at, follow_at, follow}
use Rattle.law_machine.specs.Machine.Breaks.{still_waits, IsPending, FarApart}
use Rattle.law_machine.specs.Run.Runs.{EachVat}
use Rattle.def_run.specs.World.{Script, Program, Entry, World, Goes, begins, open_from, steps_from, names}
use Rattle.law_fate.specs.Name.Runs.{KnowsOnce}
use Rattle.law_reference.specs.Reference.Views.{ViewsWait}

-- It holds of each vat in the world after any of the opening turns of a script, and after all of them and any entries.
abbrev pub InEachVat : (Script → ℕ → Vat Name → Type 0) → Type 0
InEachVat P = (script : Script) → KnowsOnce script
    → ((ps rest : List Program) (w : World) → script.vats ≡ ps ++ rest → open_from script zero ps (begins script) ≡ Goes w → (v : ℕ) (s : Vat Name) → slice_get w.vats v ≡ Some s → P script v s)
    × ((w x : World) (es : List Entry) (k : ℕ) → open_from script zero script.vats (begins script) ≡ Goes w → steps_from script es k w ≡ Goes x → (v : ℕ) (s : Vat Name) → slice_get x.vats v ≡ Some s → P script v s)

-- Each name that is viewed waits on its view, which is known later than it and did not settle.
abbrev pub ViewsWaitInRuns : Type 0
ViewsWaitInRuns = InEachVat (λ script v s. ViewsWait (names script v) s.known)

module _ (K : Naming Name Name) where
  -- what waits has a host whose cut was not noticed
  abbrev pub HostsRest : Vat Name → Type 0
  HostsRest s = (n : Name) → still_waits (standing_of K s.known n) ≡ true → is_in (host_at K s.number s.known n) s.noticed ≡ false

  -- A vat at rest, but for the hosts of what waits.
  pub record ReferencesRest (s : Vat Name) : Type 0 where
    -- a name settles with the gift that is its view
    pub views : (n g : Name) → standing_of K s.known n ≡ Viewed g → IsPending K s.known g
    pub apart : FarApart K s
    -- nothing is followed in a circle
    pub ends : (x : Value Name) (n : Name) → follow_at K (suc (length s.known)) s.known x ≡ Ref n → still_waits (standing_of K s.known n) ≡ true

abbrev pub ReferencesRestInRuns : Type 0
ReferencesRestInRuns = InEachVat (λ script v s. ReferencesRest (names script v) s)

-- From any world of a run on: where what waits at a vat has no host that was noticed, what the vat followed to a broken reference is followed to it.
abbrev pub FollowedBreaksStayBroken : Type 0
FollowedBreaksStayBroken = (script : Script) → KnowsOnce script → (w y x : World) (es fs : List Entry) (k l : ℕ) → open_from script zero script.vats (begins script) ≡ Goes w → steps_from script es k w ≡ Goes y → steps_from script fs l y ≡ Goes x
    → EachVat (λ v s t. HostsRest (names script v) s → (z : Value Name) (p : List ℕ) → follow (names script v) s z ≡ Broken p → follow (names script v) t z ≡ Broken p) y x
