-- Steps of honest vats that no note brings: turns, opening turns, and notices of cuts.
use Rattle.std.specs.Prelude.{◌≡◌, ℕ, false, List, [], ◌∷◌, Some, slice_get}
use Rattle.def_machine.specs.Arrive.{notice}
use Rattle.def_machine.specs.Eval.{opening, taking}
use Rattle.def_machine.specs.State.{Message, Vat, Done, Gives, Throws, Ejects, Stops}
use Rattle.def_machine.specs.Values.{Name, Gift, host_of}
use Rattle.def_run.specs.Marks.{base}
use Rattle.def_run.specs.Numbers as run
use Rattle.def_run.specs.Wire.{connected_at, write_all}
use Rattle.def_run.specs.World as world
use Rattle.def_run.specs.World.{Script, Program, Turn, NoticeLink, World, has_name, readied, tree_at, fresh}
use Rattle.def_hostile.specs.Hostile as names
use Rattle.def_hostile.specs.Hostile.{Play, Scene, Does, is_hostile}
use Rattle.def_hostile.specs.Numbers as numbers
use Rattle.def_hostile.specs.Numbers.{Cast}
use Rattle.law_fate.specs.Name.Names.{AllOf, names_in}
use Rattle.law_machine.specs.Renamed.Stands.{Table, IsTable}
use Rattle.law_frame.specs.Local.Naming.{Tells}
use Rattle.law_frame.specs.Local.Writing.{PutsSo}
use Rattle.law_hostile_frame.specs.Mirrors.{SceneMirrors, ActsMirror}
use Rattle.law_hostile_frame.specs.Tables.{had_at}
use Rattle.law_hostile_mirror.specs.Gifts.{HaveLinks}

-- ---- what is known of states in which steps end

-- the table of vat u, in state r, where others have exported to it what they have in world x
abbrev pub table_at : World → ℕ → Vat Name → Table
table_at x u r = record { names = names_in r.known; mails = r.mails; exports = had_at x.connections u }

-- A step of vat u that no note brought went in world x from state t to state r. No two numbers stand for one name after it, each new name is told, what it put is so, and has its links, and it learnt no gift of another host.
pub record OwnStepIsKnown (x : World) (u : ℕ) (t r : Vat Name) : Type 0 where
  pub table : IsTable u (table_at x u r)
  pub puts : PutsSo u r
  pub tells : Tells u t r [] []
  pub hosts : (v : ℕ) → AllOf (λ n. host_of n ≡ u) (connected_at u v (write_all u r.outbox x.connections)).tables.exports
  pub links : HaveLinks u x.links r.outbox
  pub gifts : (h i : ℕ) → (h ≡ u → ⊥) → base i ≡ i → has_name (names_in r.known) (Gift h i) ≡ has_name (names_in t.known) (Gift h i)

-- of the outcome of such a step, wherever it ends: where it stops, no more than the table
abbrev pub OwnOutcomeIsKnown : World → ℕ → Vat Name → Done Name (Unit {0}) → Type 0
OwnOutcomeIsKnown x u t (Gives a r) = OwnStepIsKnown x u t r
OwnOutcomeIsKnown x u t (Stops c r) = IsTable u (table_at x u r)
OwnOutcomeIsKnown x u t (Throws p r) = ⊥
OwnOutcomeIsKnown x u t (Ejects n v r) = ⊥

-- of a turn of vat v, if it has a message to take
abbrev pub TurnIsKnown : Script → ℕ → World → Type 0
TurnIsKnown script v x = (t : Vat Name) (q : Message Name) (qs : List (Message Name)) → slice_get x.vats v ≡ Some t → t.queue ≡ q ∷ qs
    → OwnOutcomeIsKnown x v t (taking (world.names script v) (tree_at script.vats v) script.depth q (readied x (record t { queue = qs })))

-- of the notice at vat v that the link with vat w is cut
abbrev pub NoticeIsKnown : Script → ℕ → ℕ → World → Type 0
NoticeIsKnown script v w x = (t : Vat Name) → slice_get x.vats v ≡ Some t → OwnOutcomeIsKnown x v t (notice (world.names script v) w (readied x t))

-- of the opening turn of vat v, which is as it was at the start
abbrev pub OpeningIsKnown : Script → ℕ → Program → World → Type 0
OpeningIsKnown script v p x = OwnOutcomeIsKnown x v (fresh script v p) (opening (world.names script v) p.tree script.depth (Name.Root v) (world.given script.vats p.knows) (readied x (fresh script v p)))

-- ---- laws

-- Where that is known of it, a turn of an honest vat leads to what stands for one another, or stops both.
abbrev pub TurnsMirror : Type 0
TurnsMirror = (play : Play) (v k : ℕ) (s : Scene) (c : Cast) → is_hostile play v ≡ false → TurnIsKnown play.script v s.world → SceneMirrors play s c
    → ActsMirror play (names.does play (Does (Turn v)) k s) (numbers.does play (Does (Turn v)) k c)

abbrev pub NoticesMirror : Type 0
NoticesMirror = (play : Play) (v w k n : ℕ) (s : Scene) (c : Cast) → is_hostile play v ≡ false → NoticeIsKnown play.script v w s.world → SceneMirrors play s c
    → ActsMirror play (names.acted n s [] (world.step play.script (NoticeLink v w) k s.world)) (numbers.acted n v c (run.step play.script (NoticeLink v w) k c.vats))

abbrev pub OpeningsMirror : Type 0
OpeningsMirror = (play : Play) (v : ℕ) (p : Program) (s : Scene) (c : Cast) → is_hostile play v ≡ false → slice_get s.world.vats v ≡ Some (fresh play.script v p) → OpeningIsKnown play.script v p s.world → SceneMirrors play s c
    → ActsMirror play (names.opens play false v p s) (numbers.opens play false v p c)
