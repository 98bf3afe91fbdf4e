-- What is sent on a value that the vat knows finds a place.
use Rattle.std.specs.Prelude.{◌≡◌, ℕ, zero, suc, ◌+◌, ◌≤◌, Bool, List, Some, length}
use Rattle.def_machine.specs.Values.{Words, Value, Null, Flag, Number, Letter, Text, Prim, Broken, Items, Ref, Name, Root, Object, Promise, Answer, Gift, Sent, Naming, naming}
use Rattle.def_machine.specs.State.{Standing, Unsettled, WaitsOn, Viewed, Settled, Known, Vat, Done, Gives, Throws, Ejects, Stops}
use Rattle.def_machine.specs.Refs.{entry_of, standing_of, send, send_only, react}
use Rattle.law_fate.specs.Fates.Fate.{one, account}
use Rattle.law_fate.specs.Fates.Lasting.{AllWell}

module _ (K : Naming Name Name) where
  -- the name is among those
  abbrev pub IsAmong : List (Known Name) → Name → Type 0
  IsAmong ks n = (k : Known Name) × (entry_of K ks n ≡ Some k)

  -- no view, or a view of a name that is among those and for which P holds
  abbrev pub ViewIs : (Name → Type 0) → List (Known Name) → Standing Name → Type 0
  ViewIs P ks (Viewed q) = P q × IsAmong ks q
  ViewIs P ks Unsettled = Unit {0}
  ViewIs P ks (WaitsOn q) = Unit {0}
  ViewIs P ks (Settled y) = Unit {0}

  -- the views from that name on end, after so many at most
  abbrev pub ViewsEndIn : ℕ → List (Known Name) → Name → Type 0
  ViewsEndIn zero ks n = ViewIs (λ q. ⊥) ks (standing_of K ks n)
  ViewsEndIn (suc d) ks n = ViewIs (ViewsEndIn d ks) ks (standing_of K ks n)

  -- from every name, after no more than there are names
  abbrev pub ViewsEnd : Vat Name → Type 0
  ViewsEnd s = (n : Name) → ViewsEndIn (length s.known) s.known n

  -- data, an object, or a name that the vat knows
  abbrev pub IsKnown : Vat Name → Value Name → Type 0
  IsKnown s (Ref (Object h i)) = Unit {0}
  IsKnown s (Ref (Root h)) = IsAmong s.known (Root h)
  IsKnown s (Ref (Promise h i)) = IsAmong s.known (Promise h i)
  IsKnown s (Ref (Answer h m)) = IsAmong s.known (Answer h m)
  IsKnown s (Ref (Gift h i)) = IsAmong s.known (Gift h i)
  IsKnown s (Ref (Sent m)) = IsAmong s.known (Sent m)
  IsKnown s Null = Unit {0}
  IsKnown s (Flag b) = Unit {0}
  IsKnown s (Number z) = Unit {0}
  IsKnown s (Letter c) = Unit {0}
  IsKnown s (Text t) = Unit {0}
  IsKnown s (Prim n) = Unit {0}
  IsKnown s (Broken p) = Unit {0}
  IsKnown s (Items k) = Unit {0}

-- Where it gives, the next message of vat v has one place more, or was lost with a line once more.
abbrev pub Finds : (ℕ → Bool) → ℕ → Name → Vat Name → Done Name (Value Name) → Type 0
Finds cut v x s (Gives a t) = account cut x s + one (Sent (record { sender = v; number = s.messages })) x ≤ account cut x t
Finds cut v x s (Throws p t) = ⊥
Finds cut v x s (Ejects n y t) = ⊥
Finds cut v x s (Stops c t) = Unit {0}

-- a send on a value that the vat knows, with and without an answer, and a reaction on one, from a state in which all is well and views end
abbrev pub SendsFindPlaces : Type 0
SendsFindPlaces = (word : ℕ → ℕ) (v : ℕ) (s : Vat Name) (cut : ℕ → Bool) (x : Name) → AllWell s → ViewsEnd (naming word v) s
    → ((act : ℕ) (y : Value Name) (verb : Words) (args : List (Value Name)) → IsKnown (naming word v) s y → Finds cut v x s (send (naming word v) act y verb args s))
    × ((act : ℕ) (y : Value Name) (verb : Words) (args : List (Value Name)) → IsKnown (naming word v) s y → Finds cut v x s (send_only (naming word v) act y verb args s))
    × ((act : ℕ) (y o near : Value Name) → IsKnown (naming word v) s y → Finds cut v x s (react (naming word v) act y o near s))
