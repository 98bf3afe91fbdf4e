-- When what others exported to a vat keeps its positions in a step.
use Rattle.std.specs.Prelude.{◌≡◌, ℕ, zero, ◌+◌, List, ◌∷◌, ◌++◌, Some, length}
use Rattle.def_machine.specs.Values.{Name, Answer, Msg, Local}
use Rattle.def_machine.specs.State.{Note, Vat}
use Rattle.law_fate.specs.Name.Names.{IsAmong}
use Rattle.law_fate.specs.Name.Runs.{KnowsOnce}
use Rattle.law_machine.specs.Renamed.Stands.{StandsFor}
use Rattle.def_run.specs.World.{Script, Program, Entry, Turn, Carry, CutLink, NoticeLink, Link, World, Goes, link_at, begins, open_vat, open_from, step, steps_from}
use Rattle.law_reference.specs.Reference.Logs.{questions}
use Rattle.law_reference.specs.Reference.Exports.{exported_at}
use Rattle.law_reference.specs.Reference.Tables.{table_of}
use Rattle.law_frame.specs.Frame.Asked.{told_in}
use Rattle.law_frame.specs.Frame.AlikeArrivals.{table_across}

-- Of what another vat told vat u in any note before world x, u asks that one for nothing from x to y for which it had not asked.
abbrev pub AsksForNothingTold : World → World → ℕ → Type 0
AsksForNothingTold x y u = (h : ℕ) (l : Link) → link_at h u x.links ≡ Some l → (n : Note Name) (z : Name) → IsAmong n l.log → IsAmong z (told_in n) → IsAmong z (questions (λ i. i) y.links u h) → IsAmong z (questions (λ i. i) x.links u h)

-- each object that others exported to vat u has the same position in y as in x
abbrev pub KeepsPositions : World → World → ℕ → Type 0
KeepsPositions x y u = (h p j : ℕ) → exported_at x.links u h p ≡ Some j → exported_at y.links u h p ≡ Some j

-- It holds of the worlds before and after each opening turn, and before and after each entry of a run.
abbrev pub InEachStep : (World → World → Type 0) → Type 0
InEachStep P = (script : Script) → KnowsOnce script
    → ((ps rest : List Program) (p : Program) (x y : World) → script.vats ≡ ps ++ p ∷ rest → open_from script zero ps (begins script) ≡ Goes x → open_vat script (length ps) p x ≡ Goes y → P x y)
    × ((w x y : World) (es : List Entry) (e : Entry) (k : ℕ) → open_from script zero script.vats (begins script) ≡ Goes w → steps_from script es k w ≡ Goes x → step script e (k + length es) x ≡ Goes y → P x y)

abbrev pub PositionsStay : Type 0
PositionsStay = InEachStep (λ x y. (u : ℕ) → AsksForNothingTold x y u → KeepsPositions x y u)

-- So what stands for a state by the exports before a step does so by those after it.
abbrev pub StatesGoOn : Type 0
StatesGoOn = InEachStep (λ x y. (u : ℕ) → AsksForNothingTold x y u → (r : Vat Name) (p : Vat Local) (t : Vat Name) → StandsFor u (table_across x u r) p t → StandsFor u (table_of y u r) p t)

-- an entry that is a step of vat u, if it is one of any
abbrev pub IsStepOf : Entry → ℕ → Type 0
IsStepOf (Turn v) u = v ≡ u
IsStepOf (Carry v t) u = t ≡ u
IsStepOf (CutLink v t) u = ⊥
IsStepOf (NoticeLink v t) u = v ≡ u

-- By what is no step of it a vat asks for nothing.
abbrev pub OnlyOwnStepsAsk : Type 0
OnlyOwnStepsAsk = (script : Script)
    → ((v : ℕ) (p : Program) (x y : World) → open_vat script v p x ≡ Goes y → (u : ℕ) → (v ≡ u → ⊥) → AsksForNothingTold x y u)
    × ((e : Entry) (k : ℕ) (x y : World) → step script e k x ≡ Goes y → (u : ℕ) → (IsStepOf e u → ⊥) → AsksForNothingTold x y u)

-- Of the answers that another vat told vat u in any note before world x, u asks that one for none from x to y for which it had not asked.
abbrev pub AsksForNoAnswerTold : World → World → ℕ → Type 0
AsksForNoAnswerTold x y u = (h : ℕ) (l : Link) → link_at h u x.links ≡ Some l → (n : Note Name) (m : Msg) → IsAmong n l.log → IsAmong (Answer h m) (told_in n) → IsAmong (Answer h m) (questions (λ i. i) y.links u h) → IsAmong (Answer h m) (questions (λ i. i) x.links u h)

abbrev pub NoToldAnswerIsAskedFor : Type 0
NoToldAnswerIsAskedFor = InEachStep (λ x y. (u : ℕ) → AsksForNoAnswerTold x y u)

-- Of nothing at all that another vat told it before does a vat ask that one for the first time.
abbrev pub NothingToldIsAskedFor : Type 0
NothingToldIsAskedFor = InEachStep (λ x y. (u : ℕ) → AsksForNothingTold x y u)

-- So each position stays in each step, and what stands for a state by the exports before a step does so by those after it.
abbrev pub EveryPositionStays : Type 0
EveryPositionStays = InEachStep (λ x y. (u : ℕ) → KeepsPositions x y u)

abbrev pub EveryStateGoesOn : Type 0
EveryStateGoesOn = InEachStep (λ x y. (u : ℕ) (r : Vat Name) (p : Vat Local) (t : Vat Name) → StandsFor u (table_across x u r) p t → StandsFor u (table_of y u r) p t)
