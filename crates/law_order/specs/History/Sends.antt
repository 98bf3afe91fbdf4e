-- A send in the middle of a step is a small step.
use Rattle.std.specs.Prelude.{◌≡◌, ℕ, zero, suc, Bool, true, false, List, [], ◌∷◌, ◌++◌, Some, None, slice_get}
use Rattle.def_machine.specs.Values.{Words, Value, Name, Answer, Sent}
use Rattle.def_machine.specs.State.{Message, Sends, Vat, begun}
use Rattle.def_machine.specs.Refs.{Gone, entry_of, follow, place, answer_host, send, send_only}
use Rattle.def_run.specs.World.{Script, Event, World, names}
use Rattle.law_machine.specs.Run.Moves.{went}
use Rattle.law_order.specs.Ordering.Ways.{Lane, Way, Item, End}
use Rattle.law_order.specs.Ordering.Messages.{StandsAt}
use Rattle.law_order.specs.Ordering.Worlds.{IfGives, IsObject}
use Rattle.law_order.specs.Ordering.Steps.{WaysAmid, LeadsAmid, Ready, IsHeld}
use Rattle.law_order.specs.Ordering.Order.{plains, comes}
use Rattle.law_order.specs.History.Lines.{was_taken, was_sent}
use Rattle.law_order.specs.History.Passings.{CanPass, CameAs, AllCame}
use Rattle.law_order.specs.History.Tells.{SmallStep}
use Rattle.law_order.specs.History.Told.{IsTold}

-- the message that vat v sends next, without an answer, and the vat once it is numbered and told of
abbrev pub lone_message : ℕ → Vat Name → Value Name → Words → List (Value Name) → Message Name
lone_message v s x verb args = record { id = Sent (record { sender = v; number = s.messages }); target = x; verb = verb; args = args; answer = None }

abbrev pub lone_numbered : ℕ → Vat Name → Message Name → Vat Name
lone_numbered act s m = record s { messages = suc s.messages; mails = s.mails ++ m.id ∷ []; happened = s.happened ++ Sends act m ∷ [] }

-- the same with an answer, at that host
abbrev pub asking_message : ℕ → ℕ → Vat Name → Value Name → Words → List (Value Name) → Message Name
asking_message v g s x verb args = record { id = Sent (record { sender = v; number = s.messages }); target = x; verb = verb; args = args; answer = Some (Answer g (record { sender = v; number = s.messages })) }

abbrev pub asking_numbered : ℕ → ℕ → ℕ → Vat Name → Message Name → Vat Name
asking_numbered v act g s m = record s { messages = suc s.messages; mails = s.mails ++ m.id ∷ []; known = s.known ++ begun (Answer g (record { sender = v; number = s.messages })) g ∷ []; happened = s.happened ++ Sends act m ∷ [] }

-- Vat v can send the message m in the state s, and is in the state q once that is numbered: all vats are honest, the target is in hand and not broken, and the message is new.
pub record CanSend (script : Script) (honest : ℕ → Bool) (w : World) (v : ℕ) (head : List Event) (s q : Vat Name) (m : Message Name) : Type 0 where
  pub everyone : (u : ℕ) → honest u ≡ true
  pub vat : Vat Name
  pub found : slice_get w.vats v ≡ Some vat
  pub ready : Ready script honest w v s
  pub hand : IsHeld script honest w v s m.target
  pub unbroken : (p : Words) → place (names script v) s (follow (names script v) s m.target) ≡ Gone p → ⊥
  -- each vat has its number, and knows no object
  pub vats : (u : ℕ) (t : Vat Name) → slice_get w.vats u ≡ Some t → (t.number ≡ u) × ((o : Name) → IsObject o → entry_of (names script u) t.known o ≡ None)
  -- the target leads to a vat that is there, and to that vat the arguments can pass, which came as the history tells
  pub there : (h : ℕ) (n : Name) → LeadsAmid script honest w v s v m.target ≡ End (Way v h) n → (t : Vat Name) × (slice_get w.vats h ≡ Some t)
  pub passes : (h : ℕ) (t : Vat Name) → (h ≡ v → ⊥) → slice_get w.vats h ≡ Some t → CanPass script honest w v h t q
  pub came : (h d : ℕ) (done : List Event) → IsTold script done → AllCame (λ z x. CameAs script honest w v h d q done z x) (plains m.args) m.args
  -- it was neither sent nor taken, came to no vat, and stands nowhere
  pub unsent : was_sent m.id (went v w head s).history ≡ false
  pub untaken : was_taken m.id (went v w head s).history ≡ false
  pub uncome : (u : ℕ) → comes u m.id zero (went v w head s).history ≡ None
  pub nowhere : (l : Lane) (b : List Item) (n : Name) → StandsAt (WaysAmid script honest w v s) m.id l b n → ⊥

-- Each whole send on what is not broken is a small step, with an answer or without.
abbrev pub SendsAreSmallSteps : Type 0
SendsAreSmallSteps = (script : Script) (honest : ℕ → Bool) (w : World) (v act : ℕ) (head : List Event) (s : Vat Name) (x : Value Name) (verb : Words) (args : List (Value Name))
    → let Small : (Vat Name → Type 0) = (λ t. SmallStep script honest (went v w head s) (went v w head t)) in
    let g : ℕ = answer_host (names script v) s.number (place (names script v) s (follow (names script v) s x)) in
    (CanSend script honest w v head s (lone_numbered act s (lone_message v s x verb args)) (lone_message v s x verb args) → IfGives Small (send_only (names script v) act x verb args s))
    × (CanSend script honest w v head s (asking_numbered v act g s (asking_message v g s x verb args)) (asking_message v g s x verb args) → IfGives Small (send (names script v) act x verb args s))
