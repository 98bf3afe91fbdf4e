-- What is known of two vats of a run and of the note that comes next from one to the other.
use Rattle.std.specs.Prelude.{◌≡◌, ℕ, zero, false, List, ◌∷◌, Some, None, slice_get, length, ◌⊎◌}
use Rattle.def_machine.specs.Values.{Name, Gift, host_of}
use Rattle.def_machine.specs.State.{Note, Deliver, Open, Ask, SettledTo, Elsewhere, Shorten, Vat}
use Rattle.def_machine.specs.Arrive.{Incoming, Old, New}
use Rattle.def_run.specs.Connections.{Learnt, Stage, Heard, learnt_at}
use Rattle.def_run.specs.Wire.{connected_at, frame_due, read_frame}
use Rattle.def_run.specs.World.{Script, Entry, Link, World, Goes, link_at, begins, open_from, steps_from, names_of, read_note}
use Rattle.law_fate.specs.Name.Names.{AllOf, IsAmong, names_in}
use Rattle.law_fate.specs.Name.Runs.{KnowsOnce}
use Rattle.law_reference.specs.Reference.Logs as logs
use Rattle.law_reference.specs.Reference.Cuts.{NoticesFollowCuts}
use Rattle.law_reference.specs.Reference.News.{Passes}
use Rattle.law_frame.specs.Frame.Asked.{told_in}
use Rattle.law_frame.specs.Frame.Tables.{arrived}
use Rattle.law_frame.specs.Frame.Alike.{as_told, message_of, names_heard}
use Rattle.law_frame.specs.Frame.Positions.{exported_with}

-- In every world of a run in which each notice stands behind a cut of the same two vats: it holds of any two vats and of the link from v to u, as long as that is not cut.
abbrev pub BetweenVats : (World → ℕ → ℕ → Vat Name → Link → Type 0) → Type 0
BetweenVats P = (script : Script) → KnowsOnce script → (w x : World) (es : List Entry) (k : ℕ) → NoticesFollowCuts es → open_from script zero script.vats (begins script) ≡ Goes w → steps_from script es k w ≡ Goes x
    → (v u : ℕ) (r s : Vat Name) → slice_get x.vats v ≡ Some r → slice_get x.vats u ≡ Some s → (v ≡ u → ⊥) → (l : Link) → link_at v u x.links ≡ Some l → l.cut ≡ false → P x v u s l

-- ---- the lists of connections

-- What v has for u, of what it tells, is what it first exported and asked for in all notes that it ever put there; and what u has for v, of what it reads, is that as far as those notes have arrived.
pub record IsAsLogged (w : World) (v u : ℕ) : Type 0 where
  pub exports : (connected_at v u w.connections).tables.exports ≡ logs.exports (λ i. i) w.links v u
  pub questions : (connected_at v u w.connections).tables.questions ≡ logs.questions (λ i. i) w.links v u
  pub imports : (connected_at u v w.connections).tables.imports ≡ logs.exports_after v (logs.questions (λ i. i) w.links u v) (arrived (link_at v u w.links)) (logs.roots_of (link_at v u w.links))
  pub answers : (connected_at u v w.connections).tables.answers ≡ logs.questions_in u (arrived (link_at v u w.links))

abbrev pub ListsAreAsLogged : Type 0
ListsAreAsLogged = BetweenVats (λ w v u s l. IsAsLogged w v u)

-- ---- notes under way

-- Each name of the receiver in a note from v to u was asked of u, or stands by position among what u exported as far as v has it; and each name of v in it for which u ever asked is one for which v was asked in what has arrived.
pub record IsNumbered (w : World) (v u : ℕ) (n : Note Name) : Type 0 where
  pub peers : (z : Name) → IsAmong z (told_in n) → host_of z ≡ u → IsAmong z (connected_at v u w.connections).tables.questions ⊎ IsAmong z (connected_at v u w.connections).tables.imports
  pub own : (z : Name) → IsAmong z (told_in n) → host_of z ≡ v → IsAmong z (logs.questions (λ i. i) w.links u v) → IsAmong z (connected_at v u w.connections).tables.answers

abbrev pub NotesAreNumbered : Type 0
NotesAreNumbered = BetweenVats (λ w v u s l. AllOf (IsNumbered w v u) l.notes)

-- ---- the next frame

unfoldable pub named : Incoming Name Name → Name
named (Old n) = n
named (New n h) = n

-- a note from v to u, without what no receiver looks at: who sent a message first, whether a gift that is asked for is known, and where an object is that is asked for as a gift
unfoldable pub as_heard : ℕ → ℕ → Note (Incoming Name Name) → Note (Incoming Name Name)
as_heard v u (Ask p i x) = Ask p i (New (named x) u)
as_heard v u (Deliver d x verb ys) = as_told v (Deliver d x verb ys)
as_heard v u (Open i x) = as_told v (Open i x)
as_heard v u (SettledTo x y) = as_told v (SettledTo x y)
as_heard v u (Elsewhere x c) = as_told v (Elsewhere x c)
as_heard v u (Shorten x c i) = as_told v (Shorten x c i)

-- what vat u, in state s, has as it begins to read a frame of v: with those gifts learnt before
unfoldable pub stage_before : World → ℕ → ℕ → Vat Name → List (Learnt Name) → Stage Name
stage_before w v u s gifts = record { imports = (connected_at u v w.connections).tables.imports; learnt = gifts; known = length s.known }

-- By the connections of world w vat u reads the next frame from v as the note n, as it is read in names. Then it has by position what v exported to it in the notes that have arrived and in this one, and knows as many names as are known once the note was read.
abbrev pub IsHeard : World → ℕ → ℕ → Vat Name → Note Name → List (Learnt Name) → Type 0
IsHeard w v u s n gifts = let c = connected_at v u w.connections in let d = connected_at u v w.connections in (h : Heard Name (Note (Incoming Name Name)))
    × (read_frame d c (message_of n) (stage_before w v u s gifts) (frame_due c d) ≡ Some h)
    × (h.read ≡ as_heard v u (read_note (names_of s) n))
    × (h.after.imports ≡ exported_with w v u n)
    × (h.after.known ≡ length (names_heard (names_in s.known) n))

-- So it is of each note that is the next to arrive, where no gift that passes in it is among those learnt before.
abbrev pub NextFramesAreHeard : Type 0
NextFramesAreHeard = BetweenVats (λ w v u s l. (n : Note Name) (ns : List (Note Name)) → l.notes ≡ n ∷ ns → (gifts : List (Learnt Name)) → ((h i : ℕ) → Passes (Gift h i) n → learnt_at h i gifts ≡ None) → IsHeard w v u s n gifts)

-- And so it is where vat u knows each of the gifts learnt before.
abbrev pub KnowsGifts : Vat Name → List (Learnt Name) → Type 0
KnowsGifts s gifts = AllOf (λ (g : Learnt Name). IsAmong (Gift g.host g.number) (names_in s.known)) gifts

abbrev pub FramesAreHeardByGifts : Type 0
FramesAreHeardByGifts = BetweenVats (λ w v u s l. (n : Note Name) (ns : List (Note Name)) → l.notes ≡ n ∷ ns → (gifts : List (Learnt Name)) → KnowsGifts s gifts → IsHeard w v u s n gifts)

-- opens the definitions of this file
unfoldable pub opened_hearing : Unit {0}
unfolding named as_heard stage_before
opened_hearing = tt
