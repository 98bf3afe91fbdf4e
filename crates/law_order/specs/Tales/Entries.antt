-- The kinds of entries that are to be shown to be made of small steps: all that are not idle, but cuts.
use Rattle.std.specs.Prelude.{◌≡◌, ℕ, zero, Bool, true, List, [], ◌∷◌, ◌++◌, Some, length, slice_get}
use Rattle.def_machine.specs.Values.{Name}
use Rattle.def_machine.specs.State.{Message, Passeds, Delivery, Note, Deliver, Vat}
use Rattle.def_run.specs.World.{Script, Program, Entry, Turn, Carry, NoticeLink, World, Goes, begins, open_vat, open_from, step, steps_from}
use Rattle.law_fate.specs.Name.Runs.{KnowsOnce}
use Rattle.law_fate.specs.Fates.WholeFateRuns.{KnowsVats}
use Rattle.law_reference.specs.Reference.Cuts.{NoticesFollowCuts}
use Rattle.law_order.specs.Asks.Asks.{Bears}
use Rattle.law_order.specs.History.Befores.{TellsOrder}
use Rattle.law_order.specs.History.Laws.{StepsAreTales}
use Rattle.law_order.specs.History.Tells.{Tale}
use Rattle.law_order.specs.Tales.Middle.{DeliversNothing}

-- The run goes from x to y by that entry, after its opening turns and some entries of its schedule.
pub record GoesBy (script : Script) (e : Entry) (x y : World) : Type 0 where
  pub es : List Entry
  pub rest : List Entry
  pub split : script.schedule ≡ es ++ e ∷ rest
  pub opened : World
  pub opens : open_from script zero script.vats (begins script) ≡ Goes opened
  pub before : steps_from script es 1 opened ≡ Goes x
  pub number : ℕ
  pub goes : step script e number x ≡ Goes y
  pub after : steps_from script (es ++ e ∷ []) 1 opened ≡ Goes y

module _ (script : Script) (honest : ℕ → Bool) where
  abbrev pub OpeningsAreTales : Type 0
  OpeningsAreTales = (ps rest : List Program) (p : Program) (w y : World) → script.vats ≡ ps ++ p ∷ rest → open_from script zero ps (begins script) ≡ Goes w → open_vat script (length ps) p w ≡ Goes y → Tale script honest w y

  -- a vat takes the first message of its queue
  abbrev pub TurnsAreTales : Type 0
  TurnsAreTales = (x y : World) (v : ℕ) (s : Vat Name) (m : Message Name) (ms : List (Message Name)) → GoesBy script (Turn v) x y → slice_get x.vats v ≡ Some s → s.queue ≡ m ∷ ms → Tale script honest x y

  -- that note is carried, the first of a link that is not cut
  abbrev pub CarriesAreTales : Note Name → Type 0
  CarriesAreTales n = (x y : World) (a b : ℕ) → GoesBy script (Carry a b) x y → Bears x a b n → Tale script honest x y

  -- So is one that delivers a message, where the history so far tells of places as it should: each message under way came to the vat that put its note.
  abbrev pub MessagesAreTales : Delivery Name → Name → List ℕ → Passeds Name → Type 0
  MessagesAreTales d n verb ys = (x y : World) (a b : ℕ) → GoesBy script (Carry a b) x y → Bears x a b (Deliver d n verb ys) → TellsOrder script honest x → Tale script honest x y

  abbrev pub NoticesAreTales : Type 0
  NoticesAreTales = (x y : World) (v u : ℕ) → GoesBy script (NoticeLink v u) x y → Tale script honest x y

  pub record KindsAreTales : Type 0 where
    pub opening : OpeningsAreTales
    pub turns : TurnsAreTales
    pub messages : (d : Delivery Name) (n : Name) (verb : List ℕ) (ys : Passeds Name) → MessagesAreTales d n verb ys
    pub carries : (n : Note Name) → DeliversNothing n → CarriesAreTales n
    pub notices : NoticesAreTales

-- So it is of each script that is read, where nothing hostile is.
abbrev pub OfScripts : (Script → (ℕ → Bool) → Type 0) → Type 0
OfScripts P = (script : Script) → KnowsOnce script → KnowsVats script → NoticesFollowCuts script.schedule → (honest : ℕ → Bool) → ((v : ℕ) → honest v ≡ true) → P script honest

-- ---- laws

-- Then each step of the run is made of small steps, so that the run is in order.
abbrev pub KindsAreEnough : Type 0
KindsAreEnough = (script : Script) (honest : ℕ → Bool) → KindsAreTales script honest → StepsAreTales script honest
