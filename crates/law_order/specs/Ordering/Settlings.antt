-- A whole settling by the machine: of a name, of those that wait for it, and of the answers of messages that are lost.
use Rattle.std.specs.Prelude.{◌≡◌, ℕ, zero, suc, ◌≤◌, Bool, true, false, List, [], ◌∷◌, ◌++◌, Option, Some, None, slice_get}
use Rattle.def_machine.specs.Values.{Value, Null, Flag, Number, Letter, Text, Prim, Broken, Items, Ref, Msg, Name, Answer, Sent, Naming, Spot, Own, Foreign, NoObject}
use Rattle.def_machine.specs.State.{Message, Standing, Unsettled, WaitsOn, Viewed, Settled, Known, Vat, Happened, Lost, Settles, WhereSome, each, begun, is_in}
use Rattle.def_machine.specs.Refs.{Settler, entry_of, follow, deliver, send_on, target_of, settle_at}
use Rattle.def_run.specs.World.{Script, World, names}
use Rattle.law_order.specs.Ordering.Ways.{Held, Free}
use Rattle.law_order.specs.Ordering.Places.{ways, amid}
use Rattle.law_order.specs.Ordering.Worlds.{IfGives}
use Rattle.law_order.specs.Ordering.Steps.{Ready, StaysInOrder}
use Rattle.law_order.specs.Ordering.Settle.{SettlesHere, IsReady, AllOn, aimed_at, settled_to}

abbrev pub with_line : Vat Name → Happened Name → Vat Name
with_line s e = record s { happened = s.happened ++ e ∷ [] }

abbrev pub IsObjectSpot : Spot → Type 0
IsObjectSpot (Own i) = Unit {0}
IsObjectSpot (Foreign h) = Unit {0}
IsObjectSpot NoObject = ⊥

-- data, an object, or broken
abbrev pub IsPlain : Naming Name Name → Value Name → Type 0
IsPlain K (Ref n) = IsObjectSpot (K.spot n)
IsPlain K Null = Unit {0}
IsPlain K (Flag b) = Unit {0}
IsPlain K (Number z) = Unit {0}
IsPlain K (Letter c) = Unit {0}
IsPlain K (Text t) = Unit {0}
IsPlain K (Prim k) = Unit {0}
IsPlain K (Broken p) = Unit {0}
IsPlain K (Items k) = Unit {0}

-- where it is an object of another vat, this vat and that are honest
abbrev pub HonestSpot : (ℕ → Bool) → ℕ → Spot → Type 0
HonestSpot honest v (Own i) = Unit {0}
HonestSpot honest v (Foreign h) = (honest v ≡ true) × (honest h ≡ true)
HonestSpot honest v NoObject = Unit {0}

abbrev pub IsHonestTo : Script → (ℕ → Bool) → ℕ → Value Name → Type 0
IsHonestTo script honest v (Ref n) = HonestSpot honest v ((names script v).spot n)
IsHonestTo script honest v Null = Unit {0}
IsHonestTo script honest v (Flag b) = Unit {0}
IsHonestTo script honest v (Number z) = Unit {0}
IsHonestTo script honest v (Letter c) = Unit {0}
IsHonestTo script honest v (Text t) = Unit {0}
IsHonestTo script honest v (Prim k) = Unit {0}
IsHonestTo script honest v (Broken p) = Unit {0}
IsHonestTo script honest v (Items k) = Unit {0}

module _ (script : Script) (honest : ℕ → Bool) (w : World) (v : ℕ) where
  -- nothing is said of where p leads
  abbrev pub IsLoose : Name → Vat Name → Type 0
  IsLoose p s = (n : Name) → (ways script honest (amid v s w)).onward (Held v p) n ≡ Free

  -- As a message that is here goes out to n at h, its new answer a is new, and p, its answer here, is unsettled then and may wait for that.
  pub record AnswersAnew (h : ℕ) (n p : Name) (m : Message Name) (s : Vat Name) : Type 0 where
    pub message : Msg
    pub sent : m.id ≡ Sent message
    pub before : message.sender ≡ v → suc message.number ≤ s.messages
    pub unknown : entry_of (names script v) s.known (Answer h message) ≡ None
    pub waits : IfGives (λ t. (k : Known Name) × (entry_of (names script v) t.known p ≡ Some k) × (k.standing ≡ Unsettled) × IsLoose p t)
        (deliver (names script v) (record m { answer = Some (Answer h message) }) h n (record s { known = s.known ++ begun (Answer h message) h ∷ [] }))

  -- where n is an object of another vat
  abbrev pub GoesFar : Name → Message Name → Vat Name → Spot → Type 0
  GoesFar n m s (Own i) = Unit {0}
  GoesFar n m s (Foreign h) = (follow (names script v) s m.target ≡ Ref n) × WhereSome (λ p. AnswersAnew h n p m s) m.answer
  GoesFar n m s NoObject = Unit {0}

  abbrev pub ReadyAt : Vat Name → Spot → Type 0
  ReadyAt s (Own i) = Unit {0}
  ReadyAt s (Foreign h) = Ready script honest w v s × (is_in h s.noticed ≡ false)
  ReadyAt s NoObject = Unit {0}

  -- Where it is an object of another vat, this vat is ready, and did not notice that. Where it is a list the vat is ready, since members may pass as gifts.
  abbrev pub ReadyFor : Vat Name → Value Name → Type 0
  ReadyFor s (Ref n) = ReadyAt s ((names script v).spot n)
  ReadyFor s Null = Unit {0}
  ReadyFor s (Flag b) = Unit {0}
  ReadyFor s (Number z) = Unit {0}
  ReadyFor s (Letter c) = Unit {0}
  ReadyFor s (Text t) = Unit {0}
  ReadyFor s (Prim k) = Unit {0}
  ReadyFor s (Broken p) = Unit {0}
  ReadyFor s (Items k) = Ready script honest w v s

  -- ---- what is asked of each state between, where all that settles settles to y

  module _ (y : Value Name) where
    -- the name can settle so: it is the vat's own, what it holds was sent on it, and it leads nowhere else
    abbrev pub CanSettle : Name → Known Name → Vat Name → Type 0
    CanSettle p k s = let t = settled_to (names script v) s p y in SettlesHere (names script v) s t p y v × AllOn p k.held × IsReady (ways script honest (amid v s w)) v p (aimed_at script v t y) × ReadyFor s y

    -- p and y are followed to y
    abbrev pub IsFollowed : Name → Vat Name → Type 0
    IsFollowed p s = (follow (names script v) s (Ref p) ≡ y) × (follow (names script v) s y ≡ y)

    -- Where y is broken the answer of a message that is lost settles, and where it is far the message goes out.
    abbrev pub LosesWell : (Name → Vat Name → Type 0) → Value Name → Message Name → Vat Name → Type 0
    LosesWell R (Broken x) m s = (follow (names script v) s m.target ≡ Broken x) × WhereSome (λ a. R a (with_line s (Lost m.id))) m.answer
    LosesWell R (Ref n) m s = GoesFar n m s ((names script v).spot n)
    LosesWell R Null m s = Unit {0}
    LosesWell R (Flag b) m s = Unit {0}
    LosesWell R (Number z) m s = Unit {0}
    LosesWell R (Letter c) m s = Unit {0}
    LosesWell R (Text t) m s = Unit {0}
    LosesWell R (Prim k) m s = Unit {0}
    LosesWell R (Items k) m s = Unit {0}

    module _ (R : Name → Vat Name → Type 0) (settle : Settler {N = Name} {W = Name} (names script v)) where
      abbrev pub SendsWell : List (Message Name) → Vat Name → Type 0
      SendsWell [] s = Unit {0}
      SendsWell (m ∷ ms) s = LosesWell R y m s × IfGives (λ t. SendsWell ms t) (send_on (names script v) settle m s)

      -- the names that wait settle one after the other, and p is still followed to y then
      abbrev pub WaitsWell : Name → List Name → Vat Name → Type 0
      WaitsWell p [] s = IsFollowed p s
      WaitsWell p (q ∷ qs) s = R q s × IfGives (λ t. WaitsWell p qs t) (settle q y s)

      abbrev pub KnownWell : Name → Known Name → Vat Name → Type 0
      KnownWell p k s = let t = settled_to (names script v) (with_line s (Settles p y)) p y in
          CanSettle p k s × SendsWell k.held t × IfGives (λ u. WaitsWell p k.waiting u) (each (send_on (names script v) settle) k.held t)

      abbrev pub StandsWell : Name → Known Name → Standing Name → Vat Name → Type 0
      StandsWell p k (Settled z) s = Unit {0}
      StandsWell p k Unsettled s = KnownWell p k s
      StandsWell p k (WaitsOn q) s = KnownWell p k s
      StandsWell p k (Viewed q) s = KnownWell p k s

      abbrev pub EntryWell : Name → Option (Known Name) → Vat Name → Type 0
      EntryWell p None s = Unit {0}
      EntryWell p (Some k) s = StandsWell p k k.standing s

  -- Each name that settles in it can settle so, in the state in which it does. A list that leads back to the name breaks it.
  abbrev pub SettlesWell : Value Name → ℕ → Name → Vat Name → Type 0
  SettlesWell y zero p s = Unit {0}
  SettlesWell y (suc d) p s = let z = target_of (names script v) s p y in EntryWell z (λ q t. SettlesWell z d q t) (λ q x. settle_at (names script v) d q x) p (entry_of (names script v) s.known p) s

-- What is ahead stays ahead, what is doomed stays doomed, and the vat stays ready, through a whole settling to data, to an object, or to what is broken.
abbrev pub SettlingsKeep : Type 0
SettlingsKeep = (script : Script) (honest : ℕ → Bool) (w : World) (v : ℕ) (r : Vat Name) (y : Value Name) → slice_get w.vats v ≡ Some r → IsPlain (names script v) y → IsHonestTo script honest v y
    → (d : ℕ) (p : Name) (s : Vat Name) → SettlesWell script honest w v y d p s → IfGives (λ t. StaysInOrder script honest w v s t) (settle_at (names script v) d p y s)
