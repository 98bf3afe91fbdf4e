-- Only connectivity begets connectivity: what a message brings was known to the activation that sent it.
use Rattle.std.specs.Prelude.{◌≡◌, ℕ, false, Some, slice_get, List, [], ◌∷◌, ◌++◌, ◌⊎◌}
use Rattle.def_machine.specs.Values.{Value, Ref, Name, Root}
use Rattle.def_machine.specs.State.{Fixed, Binding, Message, Note, Passeds, Happened, Took, Sends, Reacts, Vat, Gives}
use Rattle.def_machine.specs.Scopes.{any_guard}
use Rattle.law_machine.specs.Machine.Steps.{Step, Opens as Starts, Takes, Receives, Notices, does}
use Rattle.def_run.specs.World.{Script, Program, Entry, Opens, Turned, Carried, NoticedAt, name_at, tree_at, link_at, names_of, read_note, readied, open_vat, step as enter, Event, Link, World, Goes, names, events_of, begins, open_from, steps_from, run}
use Rattle.law_uses.specs.Connectivity.Known.{AValue, AllOf, Knows}
use Rattle.law_uses.specs.Connectivity.Settlings.{Follows}
use Rattle.law_uses.specs.Connectivity.Connected.{LineWell, held_from}
use Rattle.law_uses.specs.Connectivity.Stems.{LeadsTo, HasLine, HasList, HasCarried, ArgsPass, ComeAll}

-- a world to which opening turns of the vats of the script, each of its own program, and entries lead
pub data IsReached (script : Script) : World → Type 0 where
  start : IsReached script (begins script)
  opened : {w x : World} (v : ℕ) (p : Program) → slice_get script.vats v ≡ Some p → IsReached script w → open_vat script v p w ≡ Goes x → IsReached script x
  entered : {w x : World} (entry : Entry) (k : ℕ) → IsReached script w → enter script entry k w ≡ Goes x → IsReached script x

-- What an opening turn is given: a noun for the root of each vat that the vat knows by the script, and nothing else.
abbrev pub AreRoots : List Program → List ℕ → List (Binding Name) → Type 0
AreRoots ps [] [] = Unit {0}
AreRoots ps (w ∷ ws) (b ∷ bs) = (b ≡ record { noun = name_at ps w; bound = Fixed (Ref (Root w)) any_guard }) × AreRoots ps ws bs
AreRoots ps [] (b ∷ bs) = ⊥
AreRoots ps (w ∷ ws) [] = ⊥

-- The step that vat v, which is s, takes in a world where the run tells so of it, and the queue that it leaves: the opening turn of its own program, with its own root and the roots that it knows by the script;
-- a turn of the first message of its queue; the arrival of the first note on a link to it that is not cut, as it reads it; or a notice.
module _ (script : Script) (w : World) (v : ℕ) (s : Vat Name) (queue : List (Message Name)) where
  abbrev pub IsTaken : List Event → Step Name Name → Type 0
  IsTaken head (Starts tree depth root bs) = (p : Program) × (head ≡ Opens v ∷ []) × (slice_get script.vats v ≡ Some p) × (queue ≡ s.queue) × (tree ≡ p.tree) × (depth ≡ script.depth) × (root ≡ Root v) × AreRoots script.vats p.knows bs
  IsTaken head (Takes tree depth m) = (k : ℕ) × (head ≡ Turned k v ∷ []) × (s.queue ≡ m ∷ queue) × (tree ≡ tree_at script.vats v) × (depth ≡ script.depth)
  IsTaken head (Receives from n) = (k : ℕ) × (bytes : List ℕ) × (l : Link) × (x : Note Name) × (xs : List (Note Name)) × (head ≡ Carried k from v x bytes ∷ []) × (queue ≡ s.queue) × (link_at from v w.links ≡ Some l) × (l.cut ≡ false) × (l.notes ≡ x ∷ xs) × (n ≡ read_note (names_of s) x)
  IsTaken head (Notices u) = (k : ℕ) × (head ≡ NoticedAt k v u ∷ []) × (queue ≡ s.queue)

-- A line of vat v in the history of a world: an earlier world of the run, the step that the vat, as it was there, took then and that told the line, and the lines of the step before it and after it.
-- The lines of the step stand together behind the history of the earlier world and the line that tells which step it is.
pub record LineOf (script : Script) (w : World) (v : ℕ) (e : Happened Name) : Type 0 where
  pub step : Step Name Name
  pub from : World
  pub vat : Vat Name
  pub queue : List (Message Name)
  pub before : Vat Name
  pub after : Vat Name
  pub so : List (Happened Name)
  pub rest : List (Happened Name)
  pub links : List Link
  pub head : List Event
  pub later : List Event
  pub real : IsReached script from
  pub here : slice_get from.vats v ≡ Some vat
  pub taken : IsTaken script from v vat queue head step
  pub ready : before ≡ readied from (record vat { queue = queue })
  pub stepped : does (names script v) step before ≡ Gives tt after
  pub together : w.history ≡ from.history ++ head ++ events_of links v after.happened ++ later
  pub told : after.happened ≡ so ++ e ∷ rest

-- it is connected: what it uses was known to the activation that used it, by the lines of the step before it
abbrev pub IsConnected : Script → World → ℕ → Happened Name → Type 0
IsConnected script w v e = (l : LineOf script w v e) × LineWell (names script v) (held_from l.step l.before l.after) l.so e

-- each of these was known to the activation when it told the line
abbrev pub Knew : Script → World → ℕ → ℕ → Happened Name → List (Value Name) → Type 0
Knew script w v a e xs = (l : LineOf script w v e) × AllOf (λ x. Knows (names script v) (held_from l.step l.before l.after) l.so a (AValue x)) xs

-- when it told the line the vat followed the first value to the second
abbrev pub Followed : Script → World → ℕ → Happened Name → Value Name → Value Name → Type 0
Followed script w v e x y = (l : LineOf script w v e) × Follows (names script v) (record { step = l.step; vat = l.before }) l.so x y

-- A message at vat v that is no reaction: the activation that sent it there knew each of its arguments, and a target that leads to that of the message; or a note brought it from vat u, where that is so,
-- and each of its arguments stands for one that it had there.
pub data Begotten (script : Script) (w : World) : ℕ → Message Name → Type 0 where
  sent : {v : ℕ} {m : Message Name} (a : ℕ) (x : Value Name) → HasLine w v (Sends a (record m { target = x })) → LeadsTo (HasLine w v) x m.target → Knew script w v a (Sends a (record m { target = x })) (x ∷ m.args) → Begotten script w v m
  carried : {v : ℕ} {m : Message Name} (u : ℕ) (n : Message Name) (z : Name) (ys : Passeds Name) → HasCarried w u v m.id z m.verb ys → Begotten script w u n → n.id ≡ m.id → n.verb ≡ m.verb
      → LeadsTo (HasLine w u) n.target (Ref z) → LeadsTo (HasLine w v) (Ref z) m.target
      → ArgsPass w u n.args ys → ComeAll (HasList w v) ys m.args → Begotten script w v m

-- A reaction at vat v: the activation that reacted there knew its argument, and its target is what the vat followed the value to that was asked to react.
abbrev pub Reacted : Script → World → ℕ → Message Name → Type 0
Reacted script w v m = (a : ℕ) × (x : Value Name) × (o : Value Name) × HasLine w v (Reacts a x o m) × Followed script w v (Reacts a x o m) o m.target × Knew script w v a (Reacts a x o m) m.args

-- in a world each line is connected
abbrev pub LinesConnected : Script → World → Type 0
LinesConnected script w = (v : ℕ) (e : Happened Name) → HasLine w v e → IsConnected script w v e

-- and each message that was taken is begotten by what its sender knew
abbrev pub TakenBegotten : Script → World → Type 0
TakenBegotten script w = (v a : ℕ) (m : Message Name) → HasLine w v (Took a m) → Begotten script w v m ⊎ Reacted script w v m

-- in the world after any of the opening turns, and after all of them and any entries
abbrev pub InEachRun : (Script → World → Type 0) → Type 0
InEachRun P = (script : Script)
    → ((ps rest : List Program) (w : World) → script.vats ≡ ps ++ rest → open_from script 0 ps (begins script) ≡ Goes w → P script w)
    × ((w x : World) (es : List Entry) (k : ℕ) → open_from script 0 script.vats (begins script) ≡ Goes w → steps_from script es k w ≡ Goes x → P script x)

-- and at the end, with the closing list
abbrev pub HistoriesAreConnected : Type 0
HistoriesAreConnected = InEachRun LinesConnected × ((script : Script) (w : World) → run script ≡ Goes w → LinesConnected script w)

abbrev pub OnlyConnectivity : Type 0
OnlyConnectivity = InEachRun TakenBegotten × ((script : Script) (w : World) → run script ≡ Goes w → TakenBegotten script w)
