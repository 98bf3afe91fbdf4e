-- What no step of a run undoes, in any vat and in the world.
use Rattle.std.specs.Prelude.{◌≡◌, ℕ, ◌≤◌, List, ◌++◌, Some, slice_get}
use Rattle.def_machine.specs.Values.{Name}
use Rattle.def_machine.specs.State.{Vat}
use Rattle.law_machine.specs.Machine.Laws.{SameObjects, SameResolvers, DeadEjectors, DeadAuditions, SameLists, SameGuards, SameNames, SettledStays, BrokenStays, NoticedStays}
use Rattle.law_machine.specs.Machine.Breaks.{AtRest, SettledBreakStays, SeveredObjectStays, FollowedBreakStays, SeveredStays}
use Rattle.def_run.specs.World.{Script, Program, Entry, Event, World, Goes, open_from, steps_from, names, fresh}

-- R leads from each vat as it was to it as it is
abbrev pub EachVat : (ℕ → Vat Name → Vat Name → Type 0) → World → World → Type 0
EachVat R w x = (v : ℕ) (s : Vat Name) → slice_get w.vats v ≡ Some s → (t : Vat Name) × (slice_get x.vats v ≡ Some t) × R v s t

-- R leads from the world before any opening turns to the world after them
abbrev pub KeptByOpenings : (Script → World → World → Type 0) → Type 0
KeptByOpenings R = (script : Script) (v : ℕ) (ps : List Program) (w x : World) → open_from script v ps w ≡ Goes x → R script w x

-- R leads from the world before any entries of a schedule to the world after them
abbrev pub KeptByEntries : (Script → World → World → Type 0) → Type 0
KeptByEntries R = (script : Script) (es : List Entry) (k : ℕ) (w x : World) → steps_from script es k w ≡ Goes x → R script w x

abbrev pub KeptByRuns : (Script → World → World → Type 0) → Type 0
KeptByRuns R = KeptByOpenings R × KeptByEntries R

-- a relation between states of one vat, in each vat of a run
abbrev pub InEachVat : (Vat Name → Vat Name → Type 0) → Type 0
InEachVat R = KeptByRuns (λ script. EachVat (λ v. R))

abbrev pub ObjectsStay : Type 0
ObjectsStay = InEachVat SameObjects

abbrev pub ResolversStay : Type 0
ResolversStay = InEachVat SameResolvers

abbrev pub EjectorsStayDead : Type 0
EjectorsStayDead = InEachVat DeadEjectors

abbrev pub AuditionsStayDead : Type 0
AuditionsStayDead = InEachVat DeadAuditions

abbrev pub ListsStay : Type 0
ListsStay = InEachVat SameLists

abbrev pub GuardsStay : Type 0
GuardsStay = InEachVat SameGuards

abbrev pub NamesStay : Type 0
NamesStay = InEachVat SameNames

abbrev pub NoticesStay : Type 0
NoticesStay = InEachVat NoticedStays

-- a name that settled at a vat stays settled there to the same value
abbrev pub SettlingsStay : Type 0
SettlingsStay = KeptByRuns (λ script. EachVat (λ v. SettledStays (names script v)))

-- a name that settled at a vat to a broken reference is followed there to that broken reference
abbrev pub BreakingsStay : Type 0
BreakingsStay = KeptByRuns (λ script. EachVat (λ v. BrokenStays (names script v)))

-- what settlings led to a broken reference at a vat, however many
abbrev pub SettledBreaksStay : Type 0
SettledBreaksStay = KeptByRuns (λ script. EachVat (λ v. SettledBreakStays (names script v)))

-- what settlings led to an object of a vat whose cut was noticed
abbrev pub SeveredObjectsStay : Type 0
SeveredObjectsStay = KeptByRuns (λ script. EachVat (λ v. SeveredObjectStays (names script v)))

-- what a vat at rest follows to a broken reference
abbrev pub FollowedBreaksStay : Type 0
FollowedBreaksStay = KeptByRuns (λ script. EachVat (λ v. FollowedBreakStays (names script v)))

-- nothing that a vat follows has a host whose cut it noticed
abbrev pub SeveringsStay : Type 0
SeveringsStay = KeptByRuns (λ script. EachVat (λ v. SeveredStays (names script v)))

abbrev pub BeginAtRest : Type 0
BeginAtRest = (script : Script) (v : ℕ) (p : Program) → AtRest (names script v) (fresh script v p)

-- the fuel of the run
abbrev pub FuelNeverRises : Type 0
FuelNeverRises = KeptByRuns (λ script w x. x.fuel ≤ w.fuel)

-- the history is added to at its end alone
abbrev pub HistoryGrows : Type 0
HistoryGrows = KeptByRuns (λ script w x. (es : List Event) × (x.history ≡ w.history ++ es))
