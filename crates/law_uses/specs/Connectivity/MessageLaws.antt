-- In every world of a run each message stems from what was sent.
use Rattle.std.specs.Prelude.{◌≡◌, ℕ, Some, slice_get}
use Rattle.def_machine.specs.Values.{Name, Object, Ref}
use Rattle.def_machine.specs.State.{Message, Known, Standing, Unsettled, WaitsOn, Viewed, Settled, Happened, Settles, Views, Note, Deliver, Open, Ask, SettledTo, Elsewhere, Shorten, Took, Vat}
use Rattle.def_run.specs.World.{Link, Here, World}
use Rattle.law_uses.specs.Connectivity.Known.{IsAmong, AllOf}
use Rattle.law_fate.specs.Fates.FateRuns.{InRuns}
use Rattle.law_uses.specs.Connectivity.Stems.{LeadsTo, PassesAs, HasLine, HasList, HasOpened, HasGone, ArgsPass, Stems, IsReaction, StemsOrReacts}

-- A note from vat u: the message of a deliver note is one there, and its arguments stand for those. What it tells of a name is what the name leads to there.
abbrev pub NoteStems : World → ℕ → Note Name → Type 0
NoteStems w u (Deliver i n verb ys) = (m : Message Name) × Stems w u m × (m.id ≡ i.message) × (m.verb ≡ verb) × LeadsTo (HasLine w u) m.target (Ref n) × ArgsPass w u m.args ys
NoteStems w u (Open i n) = Unit {0}
NoteStems w u (Ask p i n) = Unit {0}
-- it tells what the name passes as, or that the name leads to an object of vat c
NoteStems w u (SettledTo n y) = PassesAs (HasLine w u) (HasList w u) (HasOpened w u) (HasGone w u) (Ref n) y
NoteStems w u (Elsewhere n c) = (i : ℕ) × LeadsTo (HasLine w u) (Ref n) (Ref (Object c i))
NoteStems w u (Shorten n c i) = Unit {0}

-- a standing of a name that these lines tell
abbrev pub IsToldStanding : (Happened Name → Type 0) → Name → Standing Name → Type 0
IsToldStanding line n Unsettled = Unit {0}
IsToldStanding line n (WaitsOn q) = Unit {0}
IsToldStanding line n (Viewed q) = line (Views n q)
IsToldStanding line n (Settled y) = line (Settles n y)

-- In a world each message stems from what was sent, or is a reaction of its vat: in each vat those of its queue, and those that were taken. Those that a name holds and those under way are no reactions, and what reacts on a name is one.
pub record AllStem (w : World) : Type 0 where
  pub queues : (v : ℕ) (s : Vat Name) → slice_get w.vats v ≡ Some s → AllOf (StemsOrReacts w v) s.queue
  pub names : (v : ℕ) (s : Vat Name) → slice_get w.vats v ≡ Some s → AllOf (λ (k : Known Name). AllOf (Stems w v) k.held × AllOf (IsReaction w v) k.reactions) s.known
  -- to what a name settled and as what it is viewed, its vat told
  pub standings : (v : ℕ) (s : Vat Name) → slice_get w.vats v ≡ Some s → AllOf (λ (k : Known Name). IsToldStanding (HasLine w v) k.name k.standing) s.known
  pub links : AllOf (λ (l : Link). AllOf (NoteStems w l.from) l.notes) w.links
  pub taken : (v a : ℕ) (m : Message Name) → IsAmong (Here v (Took a m)) w.history → StemsOrReacts w v m

-- in every world of a run, also in one at which it stopped
abbrev pub MessagesStemFromSends : Type 0
MessagesStemFromSends = InRuns AllStem
