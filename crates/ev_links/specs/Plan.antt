-- Where names stand in chains by the lines of a history, and the plan that has exactly this.
use Rattle.std.specs.Prelude.{◌≡◌, ◌<◌, ◌+◌, ◌^◌, ℕ, ◌⊎◌, ◌↔◌, List, [], ◌∷◌, Option, Some, None}
use Rattle.ev_base.specs.declared.names.Name.{Name}
use Rattle.def_event.specs.declared.event.Event.{Event}
use Rattle.def_event.specs.Uses.{AName, Given_for, Line, settles}
use Rattle.ev_links.specs.declared.chains.End.{End}
use Rattle.ev_links.specs.declared.chains.Standing.{Standing}
use Rattle.ev_links.specs.declared.label.Label.{Label}
use Rattle.ev_links.specs.Chains.{IsNextPlace, PlanStands, PlanTables, PutsEnd, PutsStanding, end_of, spot, standing}
use Rattle.ev_links.specs.Label.{label}

-- a name that a line settles, and the name to which it settles
pub record Settling : Type 0 where
  pub from : Label
  pub to : Label

abbrev pub settling_to : Name → Option Name → Option Settling
settling_to n None = None
settling_to n (Some m) = Some (record { from = label (AName n); to = label (AName m) })

abbrev pub settling_by : Option Given_for → Option Settling
settling_by None = None
settling_by (Some g) = settling_to g.name g.value

abbrev pub settling : Event → Option Settling
settling e = settling_by (settles e)

-- ---- where a line makes names stand, by where they stood

abbrev pub IsFree : (Label → Standing → Type 0) → Label → Type 0
IsFree Stood l = (x : Standing) → Stood l x → ⊥

abbrev pub first_of : Label → Standing
first_of l = record { chain = l; place = 0 }

abbrev pub after : Standing → Standing
after x = record { chain = x.chain; place = x.place + 1 }

-- what settles begins a chain, unless it stood in one
abbrev pub Begins : (Label → Standing → Type 0) → Settling → Label → Standing → Type 0
Begins Stood s l x = IsFree Stood l × (s.from ≡ l) × (x ≡ first_of l)

-- what it settles to stands right after it, unless that stood in a chain, or another stood there, or numbers reach no further
pub record Joins (Stood : Label → Standing → Type 0) (s : Settling) (l : Label) (x : Standing) : Type 0 where
  pub before : Standing
  pub stands : Stood s.from before ⊎ Begins Stood s s.from before
  pub last : (m : Label) → Stood m (after before) → ⊥
  pub other : s.from ≡ s.to → ⊥
  pub is : s.to ≡ l
  pub free : IsFree Stood l
  pub there : x ≡ after before
  pub fits : x.place < 2 ^ 64

abbrev pub Comes : (Label → Standing → Type 0) → Option Settling → Label → Standing → Type 0
Comes Stood None l x = ⊥
Comes Stood (Some s) l x = Begins Stood s l x ⊎ Joins Stood s l x

-- ---- by all lines

-- a name stands there at the place: the first line that makes it stand anywhere makes it stand there
abbrev pub Stands : List Line → ℕ → Label → Standing → Type 0
Stands [] at l x = ⊥
Stands (line ∷ past) at l x = Stands past at l x ⊎ ((line.at ≡ at) × Comes (Stands past at) (settling line.event) l x)

-- The plan has each name where it stands by these lines, and no other. The end of a chain is the last that stands in it.
pub record IsPlanOf (past : List Line) (plan : PlanTables) : Type 0 where
  pub planned : PlanStands plan
  pub standings : (at : ℕ) (l : Label) (x : Standing) → (standing plan.standings (spot at l) ≡ Some x) ↔ Stands past at l x
  pub ends : (at : ℕ) (c : Label) (e : End) → end_of plan.ends (spot at c) ≡ Some e → standing plan.standings (spot at e.name) ≡ Some (record { chain = c; place = e.place })

-- ---- one step of the code

-- a name comes to stand at the end of a chain, unless it stands in one, or numbers reach no further
pub data Appended (at : ℕ) (name chain : Label) (old new : PlanTables) : Type 0 where
  stood : (x : Standing) → standing old.standings (spot at name) ≡ Some x → new ≡ old → Appended at name chain old new
  full : standing old.standings (spot at name) ≡ None → IsNextPlace (end_of old.ends (spot at chain)) None → new ≡ old → Appended at name chain old new
  added : (n : ℕ) → n < 2 ^ 64 → standing old.standings (spot at name) ≡ None → IsNextPlace (end_of old.ends (spot at chain)) (Some n)
      → PutsStanding (spot at name) (record { chain = chain; place = n }) old.standings new.standings → PutsEnd (spot at chain) (record { place = n; name = name }) old.ends new.ends → Appended at name chain old new
