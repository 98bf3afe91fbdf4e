-- What is so of each name that is known, and of each that a note tells, is so of each that is known once the note was read.
use Rattle.std.proofs.Common.{◌≡◌, ℕ, Bool, true, false, List, [], ◌∷◌, ◌++◌, refl}
use Rattle.def_machine.specs.Values.{Value, Ref, Name, Object, Gift}
use Rattle.def_machine.specs.State.{Passed, Passeds, Plain, AGift, Many, NoMore, More, Note, Deliver, Open, Ask, SettledTo, Elsewhere, Shorten}
use Rattle.def_run.specs.World.{is_old, known_after, read_value, read_passed, read_all, plain_read, many_read, more_read}
use Rattle.law_fate.specs.Name.Names.{Bit, Named, At, Drew, AllOf, ValueOk, PassedOk, PassedsOk, NoteOk}
use Rattle.law_fate.proofs.Name.Facts.{all_end}
use Rattle.law_frame.specs.Frame.Alike.{names_heard}
use Rattle.law_frame.proofs.Frame.ArriveAsking.{IsNoObject}

module _ (P : Bit Name → Type 0) (Q : Name → Type 0) (named : (n : Name) → IsNoObject n → P (Named n) → Q n) (gift : (h i : ℕ) → P (At h) → P (Drew i) → Q (Gift h i)) where
  after_either : (ks : List Name) (n : Name) (b : Bool) → is_old ks n ≡ b → P (Named n) → AllOf Q ks → AllOf Q (elim b [ true ↦ ks | false ↦ ks ++ n ∷ [] ])
  unfolding is_old
  after_either ks n true e p h = h
  after_either ks (Object w i) false e p h = cc
  after_either ks n false e p h = all_end Q ks n h (named n (no_object n e) p)
    where
      no_object : (n : Name) → is_old ks n ≡ false → IsNoObject n
      no_object (Object w i) f = cc
      no_object other f = tt

  after_all : (ks : List Name) (n : Name) → P (Named n) → AllOf Q ks → AllOf Q (known_after ks n)
  unfolding known_after
  after_all ks n p h = after_either ks n (is_old ks n) refl p h

  value_all : (ks : List Name) (y : Value Name) → ValueOk P y → AllOf Q ks → AllOf Q (read_value ks y).known
  unfolding read_value
  value_all ks (Ref n) p h = after_all ks n p h
  value_all ks other p h = h

  mutual
    unfolding read_passed read_all plain_read many_read more_read

    passed_all : (ks : List Name) (y : Passed Name) → PassedOk P y → AllOf Q ks → AllOf Q (read_passed y ks).known
    passed_all ks (Plain y) p h = value_all ks y p h
    passed_all ks (AGift g j) p h = all_end Q ks (Gift g j) h (gift g j p.0 p.1)
    passed_all ks (Many ys) p h = all_all ks ys p h

    all_all : (ks : List Name) (ys : Passeds Name) → PassedsOk P ys → AllOf Q ks → AllOf Q (read_all ys ks).known
    all_all ks NoMore p h = h
    all_all ks (More y ys) p h = all_all (read_passed y ks).known ys p.1 (passed_all ks y p.0 h)

  pub heard_all : (ks : List Name) (n : Note Name) → NoteOk P n → AllOf Q ks → AllOf Q (names_heard ks n)
  unfolding names_heard
  heard_all ks (Deliver d n verb ys) p h = after_all (read_all ys ks).known n p.1 (all_all ks ys p.2 h)
  heard_all ks (Open j n) p h = after_all ks n p.1 h
  heard_all ks (Ask g j n) p h = h
  heard_all ks (SettledTo n y) p h = passed_all (known_after ks n) y p.1 (after_all ks n p.0 h)
  heard_all ks (Elsewhere n c) p h = after_all ks n p.0 h
  heard_all ks (Shorten n c j) p h = after_all ks n p.0 h
