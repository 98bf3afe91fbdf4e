-- A note by the entries of the vat at which it arrives. A vat may learn one gift by a position and as a gift too, and then knows it as two entries; nothing else is known twice.
use Rattle.std.specs.Prelude.{ℕ, Bool, true, false, List, [], ◌∷◌, ◌++◌, map, ◌==◌, ◌||◌}
use Rattle.def_machine.specs.Values.{Value, Null, Flag, Number, Letter, Text, Prim, Broken, Items, Ref, Name, Root, Object, Promise, Answer, Gift, Sent, same_name, host_of}
use Rattle.def_machine.specs.State.{Passed, Passeds, Plain, AGift, Many, NoMore, More, Note, Deliver, Open, Ask, SettledTo, Elsewhere, Shorten}
use Rattle.def_machine.specs.Receive.{Sight}
use Rattle.def_run.specs.Connections.{Connection}
use Rattle.def_run.specs.Marks.{base, placed, rekeyed}
use Rattle.def_run.specs.Wire.{Connected, with_connected}
use Rattle.def_run.specs.World.{Reading, has_name}
use Rattle.def_machine.specs.Receive.{opened_receive}
use Rattle.def_run.specs.Marks.{opened_marks}
use Rattle.def_run.specs.World.{opened_world}

-- of a note from v at u, by what v exported to u
module _ (u v : ℕ) (exports : List Name) where
  -- a gift of the sender that has a position is the receiver's entry by that position
  unfoldable pub entry_by : ℕ → ℕ → Bool → Bool → Name
  entry_by h i true at_position = Gift h (base i)
  entry_by h i false true = Gift h (placed i)
  entry_by h i false false = Gift h i

  unfoldable pub entry_of_gift : ℕ → ℕ → Bool → Name
  entry_of_gift h i true = entry_by h i (h == u) (has_name exports (Gift h i))
  entry_of_gift h i false = Gift h i

  unfoldable pub entry_name : Name → Name
  entry_name (Gift h i) = entry_of_gift h i ((h == u) || (h == v))
  entry_name (Root h) = Root h
  entry_name (Object h i) = Object h i
  entry_name (Promise h i) = Promise h i
  entry_name (Answer h m) = Answer h m
  entry_name (Sent m) = Sent m

  unfoldable pub entry_value : Value Name → Value Name
  entry_value Null = Null
  entry_value (Flag b) = Flag b
  entry_value (Number z) = Number z
  entry_value (Letter x) = Letter x
  entry_value (Text t) = Text t
  entry_value (Prim n) = Prim n
  entry_value (Broken p) = Broken p
  entry_value (Items k) = Items k
  entry_value (Ref n) = Ref (entry_name n)

  -- a gift that is known as a gift by then is that entry
  unfoldable pub entered_gift : ℕ → ℕ → List Name → Bool → Reading (Passed Name)
  entered_gift h i ks true = record { read = Plain (Ref (Gift h i)); known = ks }
  entered_gift h i ks false = record { read = AGift h i; known = ks ++ Gift h i ∷ [] }

  unfoldable pub many_entered : Reading (Passeds Name) → Reading (Passed Name)
  many_entered r = record { read = Many r.read; known = r.known }

  unfoldable pub more_entered : Passed Name → Reading (Passeds Name) → Reading (Passeds Name)
  more_entered x r = record { read = More x r.read; known = r.known }

  unfoldable mutual
    pub entered_passed : Passed Name → List Name → Reading (Passed Name)
    entered_passed (Plain y) ks = record { read = Plain (entry_value y); known = ks }
    entered_passed (AGift h i) ks = entered_gift h i ks (has_name ks (Gift h i))
    entered_passed (Many ys) ks = many_entered (entered_all ys ks)

    pub entered_all : Passeds Name → List Name → Reading (Passeds Name)
    entered_all NoMore ks = record { read = NoMore; known = ks }
    entered_all (More y ys) ks = more_entered (entered_passed y ks).read (entered_all ys (entered_passed y ks).known)

  -- where these names are known
  unfoldable pub entered : List Name → Note Name → Note Name
  entered ks (Deliver d n verb ys) = Deliver d (entry_name n) verb (entered_all ys ks).read
  entered ks (Open i n) = Open i (entry_name n)
  entered ks (Ask p i n) = Ask p i (entry_name n)
  entered ks (SettledTo n y) = SettledTo (entry_name n) (entered_passed y ks).read
  entered ks (Elsewhere n c) = Elsewhere (entry_name n) c
  entered ks (Shorten n c i) = Shorten (entry_name n) c i

-- what is imported is imported as those entries
unfoldable pub import_placed : Connected → Connected
import_placed c = record c { tables = record c.tables { imports = map (rekeyed placed) c.tables.imports } }

unfoldable pub imports_placed : ℕ → ℕ → List Connected → List Connected
imports_placed u v cs = with_connected import_placed u v cs

-- what the names of a vat tell, where it has that for the sender
unfoldable pub sight_by : List Name → Connection Name → Sight Name
sight_by ks c = record { knows = λ g p i. has_name ks (Gift g i); numbers = λ n. has_name c.exports n || has_name c.answers n }

-- opens each definition of this file, and of those below
unfoldable pub opened_entered : Unit {0}
unfolding entry_by entry_of_gift entry_name entry_value entered_gift many_entered more_entered entered_passed entered_all entered import_placed imports_placed sight_by opened_marks opened_receive opened_world
opened_entered = tt
