-- What a note asks of its receiver, and what it tells.
use Rattle.std.specs.Prelude.{◌≡◌, ℕ, true, List, [], ◌∷◌, ◌++◌}
use Rattle.def_machine.specs.Values.{Value, Null, Flag, Number, Letter, Text, Prim, Broken, Items, Ref, Name, Gift, answer_of}
use Rattle.def_machine.specs.State.{Passed, Passeds, Plain, AGift, Many, NoMore, More, Note, Deliver, Open, Ask, SettledTo, Elsewhere, Shorten}
use Rattle.law_fate.specs.Name.Names.{IsAmong}

-- It asks vat w for that name: as the answer of a message there that asks for one, or as a gift.
abbrev pub AsksOf : ℕ → Note Name → Name → Type 0
AsksOf w (Deliver d n verb ys) x = (d.asks ≡ true) × (answer_of w d.message ≡ x)
AsksOf w (Ask p i n) x = n ≡ x
AsksOf w (Open i n) x = ⊥
AsksOf w (SettledTo n y) x = ⊥
AsksOf w (Elsewhere n c) x = ⊥
AsksOf w (Shorten n c i) x = ⊥

-- What it asks vat w for is among these names, and a gift that it asks for is one of w.
abbrev pub AskFits : List Name → ℕ → Note Name → Type 0
AskFits ns w (Deliver d n verb ys) = d.asks ≡ true → IsAmong (answer_of w d.message) ns
AskFits ns w (Ask p i n) = IsAmong n ns × (n ≡ Gift w i)
AskFits ns w (Open i n) = Unit {0}
AskFits ns w (SettledTo n y) = Unit {0}
AskFits ns w (Elsewhere n c) = Unit {0}
AskFits ns w (Shorten n c i) = Unit {0}

-- the names that it tells, but for what it asks for
unfoldable pub told_value : Value Name → List Name
told_value (Ref n) = n ∷ []
told_value Null = []
told_value (Flag b) = []
told_value (Number z) = []
told_value (Letter c) = []
told_value (Text t) = []
told_value (Prim i) = []
told_value (Broken t) = []
told_value (Items k) = []

unfoldable mutual
  pub told_passed : Passed Name → List Name
  told_passed (Plain y) = told_value y
  told_passed (AGift h i) = []
  told_passed (Many ys) = told_all ys

  pub told_all : Passeds Name → List Name
  told_all NoMore = []
  told_all (More y ys) = told_passed y ++ told_all ys

unfoldable pub told_in : Note Name → List Name
told_in (Deliver m n verb ys) = n ∷ told_all ys
told_in (Open i n) = n ∷ []
told_in (Ask p i n) = []
told_in (SettledTo n y) = n ∷ told_passed y
told_in (Elsewhere n c) = n ∷ []
told_in (Shorten n c i) = n ∷ []

-- it is no list by its number in the heap of a vat
abbrev pub ListlessValue : Value Name → Type 0
ListlessValue (Items k) = ⊥
ListlessValue Null = Unit {0}
ListlessValue (Flag b) = Unit {0}
ListlessValue (Number z) = Unit {0}
ListlessValue (Letter c) = Unit {0}
ListlessValue (Text t) = Unit {0}
ListlessValue (Prim i) = Unit {0}
ListlessValue (Broken t) = Unit {0}
ListlessValue (Ref n) = Unit {0}

-- so is each part of what passes
abbrev mutual
  pub Listless : Passed Name → Type 0
  Listless (Plain y) = ListlessValue y
  Listless (AGift h i) = Unit {0}
  Listless (Many ys) = AllListless ys

  pub AllListless : Passeds Name → Type 0
  AllListless NoMore = Unit {0}
  AllListless (More y ys) = Listless y × AllListless ys

-- and each part of what passes in a note
abbrev pub HoldsNoList : Note Name → Type 0
HoldsNoList (Deliver m n verb ys) = AllListless ys
HoldsNoList (SettledTo n y) = Listless y
HoldsNoList (Open i n) = Unit {0}
HoldsNoList (Ask p i n) = Unit {0}
HoldsNoList (Elsewhere n c) = Unit {0}
HoldsNoList (Shorten n c i) = Unit {0}

-- opens the definitions of this file
unfoldable pub opened_asked : Unit {0}
unfolding told_value told_passed told_all told_in
opened_asked = tt
