-- Chains of waits and views inside a vat.
use Rattle.std.specs.Prelude.{◌≡◌, ℕ, zero, suc, true, List, ◌++◌, Some, length, slice_get}
use Rattle.def_machine.specs.Values.{Value, Name, Naming, naming}
use Rattle.def_machine.specs.State.{Standing, Unsettled, WaitsOn, Viewed, Settled, Known, Vat}
use Rattle.def_machine.specs.Refs.{standing_of, waits_lead, reaches}
use Rattle.def_run.specs.World.{Script, Program, Entry, World, Goes, begins, open_from, steps_from, names}
use Rattle.law_fate.specs.Name.Names.{Once, names_in}
use Rattle.law_fate.specs.Name.Runs.{KnowsOnce}
use Rattle.law_reference.specs.Reference.Rest.{InEachVat}
use Rattle.law_reference.specs.Reference.NameTableRuns.{NotesBringNew}

-- it neither waits nor is viewed, or P holds of the name on which it waits or that is its view
abbrev pub WaitIs : (Name → Type 0) → Standing Name → Type 0
WaitIs P (WaitsOn q) = P q
WaitIs P (Viewed q) = P q
WaitIs P Unsettled = Unit {0}
WaitIs P (Settled y) = Unit {0}

module _ (K : Naming Name Name) where
  -- the waits and views from that name on end, after so many at most
  abbrev pub WaitsEndIn : ℕ → List (Known Name) → Name → Type 0
  WaitsEndIn zero ks n = WaitIs (λ q. ⊥) (standing_of K ks n)
  WaitsEndIn (suc d) ks n = WaitIs (WaitsEndIn d ks) (standing_of K ks n)

  -- from every name, after no more than there are names known
  abbrev pub WaitsEnd : List (Known Name) → Type 0
  WaitsEnd ks = (n : Name) → WaitsEndIn (length ks) ks n

-- In each vat of a run that knows no name twice waits and views end.
abbrev pub WaitsEndInRuns : Type 0
WaitsEndInRuns = InEachVat (λ script v s. Once (names_in s.known) → WaitsEnd (names script v) s.known)

-- So they do in every vat after any of the opening turns, and after all of them and any entries by which notes bring what is new.
abbrev pub WaitsEndWhereNotesBringNew : Type 0
WaitsEndWhereNotesBringNew = (script : Script) → KnowsOnce script
    → ((ps rest : List Program) (w : World) → script.vats ≡ ps ++ rest → open_from script zero ps (begins script) ≡ Goes w → (v : ℕ) (s : Vat Name) → slice_get w.vats v ≡ Some s → WaitsEnd (names script v) s.known)
    × ((w x : World) (es : List Entry) (k : ℕ) → open_from script zero script.vats (begins script) ≡ Goes w → NotesBringNew script es k w → steps_from script es k w ≡ Goes x → (v : ℕ) (s : Vat Name) → slice_get x.vats v ≡ Some s → WaitsEnd (names script v) s.known)

-- Where a chain of waits and views leads from n to p in any number of steps, the test for a cycle finds it in as many steps as names are known.
abbrev pub CycleTestsSuffice : Type 0
CycleTestsSuffice = (word : ℕ → ℕ) (v : ℕ) (ks : List (Known Name)) (p n : Name) (d : ℕ) → waits_lead (naming word v) d ks p n ≡ true → waits_lead (naming word v) (length ks) ks p n ≡ true

-- Where members, each followed, lead from a value to a name in any number of steps, the test finds it in as many steps as there are lists, and one.
abbrev pub ListTestsSuffice : Type 0
ListTestsSuffice = (word : ℕ → ℕ) (v : ℕ) (s : Vat Name) (p : Name) (x : Value Name) (d : ℕ) → reaches (naming word v) d s p x ≡ true → reaches (naming word v) (suc (length s.lists)) s p x ≡ true
