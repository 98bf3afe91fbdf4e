-- What objects and var slots hold between steps, of which promise a resolver is and what waits on a name, a line of the step in which it came to be so tells.
use Rattle.std.specs.Prelude.{◌≡◌, ℕ, zero, true, false, List, [], ◌∷◌, ◌++◌, Some, map, slice_get, ◌⊎◌}
use Rattle.def_machine.specs.Values.{Words, Value, Name, Object, Own, spot_of, Naming, naming, numbering}
use Rattle.def_machine.specs.State.{Binding, Cell, Made, Resolver, Known, Happened, PromiseMade, Waits, Views, ObjectMade, SlotMade, SlotRead, SlotWrote, Vat}
use Rattle.law_machine.specs.Machine.Steps.{Step, does, After}
use Rattle.def_run.specs.World.{Script, Program, Entry, World, Here, Goes, begins, open_from, steps_from}
use Rattle.law_uses.specs.Connectivity.Known.{IsAmong}
use Rattle.law_uses.specs.Connectivity.Liveness.{live_at}

-- each object was there before, or a line tells with which captures and stamps it was made
abbrev pub ObjectsTold : {N W : Type 0} → Naming N W → Vat N → Vat N → Type 0
ObjectsTold {N} K s t = (i node : ℕ) (caught : List (Binding N)) (stamps : List (Value N)) → slice_get t.things i ≡ Some (Made node caught stamps)
    → (slice_get s.things i ≡ Some (Made node caught stamps)) ⊎ ((a : ℕ) × (x : Words) × IsAmong (ObjectMade a (K.object i) x (map (λ b. b.bound) caught) stamps) t.happened)

-- what is in each slot was in it before, or a line tells that an activation put it there
abbrev pub SlotsTold : {N : Type 0} → Vat N → Vat N → Type 0
SlotsTold {N} s t = (k : ℕ) (c : Cell N) → slice_get t.slots k ≡ Some c
    → ((d : Cell N) × (slice_get s.slots k ≡ Some d) × (d.value ≡ c.value)) ⊎ ((a : ℕ) × (IsAmong (SlotMade a k c.value) t.happened ⊎ IsAmong (SlotWrote a k c.value) t.happened))

-- what a line says was read from a slot was in it before, or a line before it tells that an activation put it there
abbrev pub ReadTold : {N : Type 0} → List (Cell N) → List (Happened N) → Happened N → Type 0
ReadTold {N} slots so (SlotRead a k v) = ((d : Cell N) × (slice_get slots k ≡ Some d) × (d.value ≡ v)) ⊎ ((b : ℕ) × (IsAmong (SlotMade b k v) so ⊎ IsAmong (SlotWrote b k v) so))
ReadTold slots so _ = Unit {0}

-- lines that come after these
abbrev pub ReadsTold : {N : Type 0} → List (Cell N) → List (Happened N) → List (Happened N) → Type 0
ReadsTold slots so [] = Unit {0}
ReadsTold slots so (e ∷ es) = ReadTold slots so e × ReadsTold slots (so ++ e ∷ []) es

-- each resolver was there before, or a line tells with which promise it was made
abbrev pub ResolversTold : {N W : Type 0} → Naming N W → Vat N → Vat N → Type 0
ResolversTold {N} K s t = (i : ℕ) (p : N) → slice_get t.things i ≡ Some (Resolver p) → (slice_get s.things i ≡ Some (Resolver p)) ⊎ ((a : ℕ) × (r : N) × IsAmong (PromiseMade a p r) t.happened × (K.spot r ≡ Own i))

-- what waits on a name did so before, or a line tells that it waits on it or is viewed as it
abbrev pub WaitsTold : {N W : Type 0} → Naming N W → Vat N → Vat N → Type 0
WaitsTold {N} K s t = (k : Known N) (p : N) → IsAmong k t.known → IsAmong p k.waiting
    → ((j : Known N) × IsAmong j s.known × (j.name ≡ k.name) × IsAmong p j.waiting) ⊎ ((n : N) × (IsAmong (Waits p n) t.happened ⊎ IsAmong (Views p n) t.happened) × (K.same k.name n ≡ true))

-- after each step, however it ends, from a vat in which nothing has happened in the step and nothing is live
abbrev pub StepsTell : {N W : Type 0} → Naming N W → Type 0
StepsTell {N} {W} K = (step : Step N W) (s : Vat N) → s.happened ≡ [] → ((i : ℕ) → live_at s.things i ≡ false) → After (λ s t. ObjectsTold K s t × SlotsTold s t × ReadsTold s.slots [] t.happened × ResolversTold K s t × WaitsTold K s t) s (does K step s)

-- under global names and under local numbers
abbrev pub StepsTellWhatTheyMake : Type 0
StepsTellWhatTheyMake = ((word : ℕ → ℕ) (v : ℕ) → StepsTell (naming word v)) × ((word : ℕ → ℕ) → StepsTell (numbering {W = Name} word))

-- the history tells with which captures and stamps each object of a vat was made
abbrev pub EndowmentsTold : World → ℕ → Vat Name → Type 0
EndowmentsTold w v s = (i node : ℕ) (caught : List (Binding Name)) (stamps : List (Value Name)) → slice_get s.things i ≡ Some (Made node caught stamps)
    → (a : ℕ) × (x : Words) × IsAmong (Here v (ObjectMade a (Object v i) x (map (λ b. b.bound) caught) stamps)) w.history

-- and that an activation of the vat put in each slot what is in it
abbrev pub ContentsTold : World → ℕ → Vat Name → Type 0
ContentsTold w v s = (k : ℕ) (c : Cell Name) → slice_get s.slots k ≡ Some c
    → (a : ℕ) × (IsAmong (Here v (SlotMade a k c.value)) w.history ⊎ IsAmong (Here v (SlotWrote a k c.value)) w.history)

-- with which promise each resolver was made
abbrev pub PromisesTold : World → ℕ → Vat Name → Type 0
PromisesTold w v s = (i : ℕ) (p : Name) → slice_get s.things i ≡ Some (Resolver p) → (a : ℕ) × (r : Name) × IsAmong (Here v (PromiseMade a p r)) w.history × (spot_of v r ≡ Own i)

-- and that what waits on a name waits on it, or is viewed as it
abbrev pub WaitingTold : World → ℕ → Vat Name → Type 0
WaitingTold w v s = (k : Known Name) (p : Name) → IsAmong k s.known → IsAmong p k.waiting → IsAmong (Here v (Waits p k.name)) w.history ⊎ IsAmong (Here v (Views p k.name)) w.history

-- in each vat of a world
abbrev pub HeldTold : World → Type 0
HeldTold w = (v : ℕ) (s : Vat Name) → slice_get w.vats v ≡ Some s → EndowmentsTold w v s × ContentsTold w v s × PromisesTold w v s × WaitingTold w v s

-- in the world after any of the opening turns, and after all of them and any entries
abbrev pub RunsTellWhatIsHeld : Type 0
RunsTellWhatIsHeld = (script : Script)
    → ((ps rest : List Program) (w : World) → script.vats ≡ ps ++ rest → open_from script zero ps (begins script) ≡ Goes w → HeldTold w)
    × ((w x : World) (es : List Entry) (k : ℕ) → open_from script zero script.vats (begins script) ≡ Goes w → steps_from script es k w ≡ Goes x → HeldTold x)
