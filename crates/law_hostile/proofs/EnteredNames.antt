-- The names in a note by the entries of the vat at which it arrives.
use Rattle.std.proofs.Common.{◌≡◌, ℕ, ◌+◌, ◌%◌, Bool, true, false, List, refl, ◌∙◌}
use Rattle.std.specs.Prelude.{◌==◌, ◌||◌}
use Rattle.def_machine.specs.Values.{Value, Null, Flag, Number, Letter, Text, Prim, Broken, Items, Ref, Name, Root, Object, Promise, Answer, Gift, Sent, host_of, provider_of, word_of}
use Rattle.def_machine.specs.State.{Passed, Passeds, Plain, AGift, Many, NoMore, More, Note, Deliver, Open, Ask, SettledTo, Elsewhere, Shorten, Vat}
use Rattle.def_machine.proofs.Keys.{word_key}
use Rattle.def_run.specs.Entered as entered
use Rattle.def_run.specs.Marks as marks
use Rattle.def_run.specs.World.{has_name}
use Rattle.law_fate.specs.Name.Names.{Bit, Named, At, Drew, ValueOk, PassedOk, PassedsOk, NoteOk, IsMade}
use Rattle.law_reference.specs.Reference.Notes.{IsBetween}
use Rattle.law_hostile.specs.Entering.{HoldsOfEntries, EnteringKeepsNames, EnteringKeepsMade, EnteringKeepsEnds}

module _ (P : Bit Name → Type 0) (law : HoldsOfEntries P) (u v : ℕ) (exports : List Name) where
  by_ok : (h i : ℕ) (a b : Bool) → P (Named (Gift h i)) → P (Named (entered.entry_by u v exports h i a b))
  unfolding entered.entry_by
  by_ok h i true b p = law.unmarked h i p
  by_ok h i false true p = law.placed_too h i p
  by_ok h i false false p = p

  gift_ok : (h i : ℕ) (a : Bool) → P (Named (Gift h i)) → P (Named (entered.entry_of_gift u v exports h i a))
  unfolding entered.entry_of_gift
  gift_ok h i true p = by_ok h i (h == u) (has_name exports (Gift h i)) p
  gift_ok h i false p = p

  name_ok : (n : Name) → P (Named n) → P (Named (entered.entry_name u v exports n))
  unfolding entered.entry_name
  name_ok (Gift h i) p = gift_ok h i ((h == u) || (h == v)) p
  name_ok (Root h) p = p
  name_ok (Object h i) p = p
  name_ok (Promise h i) p = p
  name_ok (Answer h m) p = p
  name_ok (Sent m) p = p

  value_ok : (y : Value Name) → ValueOk P y → ValueOk P (entered.entry_value u v exports y)
  unfolding entered.entry_value
  value_ok (Ref n) p = name_ok n p
  value_ok Null p = p
  value_ok (Flag b) p = p
  value_ok (Number z) p = p
  value_ok (Letter x) p = p
  value_ok (Text t) p = p
  value_ok (Prim n) p = p
  value_ok (Broken t) p = p
  value_ok (Items k) p = p

  passed_gift : (h i : ℕ) (ks : List Name) (b : Bool) → P (At h) → P (Drew i) → PassedOk P (entered.entered_gift u v exports h i ks b).read
  unfolding entered.entered_gift
  passed_gift h i ks true p q = law.passed h i p q
  passed_gift h i ks false p q = (p, q)

  mutual
    unfolding entered.entered_passed entered.many_entered entered.entered_all entered.more_entered

    passed_ok : (y : Passed Name) (ks : List Name) → PassedOk P y → PassedOk P (entered.entered_passed u v exports y ks).read
    passed_ok (Plain y) ks p = value_ok y p
    passed_ok (AGift h i) ks p = passed_gift h i ks (has_name ks (Gift h i)) p.0 p.1
    passed_ok (Many ys) ks p = all_ok ys ks p

    all_ok : (ys : Passeds Name) (ks : List Name) → PassedsOk P ys → PassedsOk P (entered.entered_all u v exports ys ks).read
    all_ok NoMore ks p = tt
    all_ok (More y ys) ks p = (passed_ok y ks p.0, all_ok ys (entered.entered_passed u v exports y ks).known p.1)

  pub note_ok : (ks : List Name) (n : Note Name) → NoteOk P n → NoteOk P (entered.entered u v exports ks n)
  unfolding entered.entered
  note_ok ks (Deliver d n verb ys) p = (p.0, name_ok n p.1, all_ok ys ks p.2)
  note_ok ks (Open i n) p = (p.0, name_ok n p.1)
  note_ok ks (Ask q i n) p = (p.0, name_ok n p.1)
  note_ok ks (SettledTo n y) p = (name_ok n p.0, passed_ok y ks p.1)
  note_ok ks (Elsewhere n c) p = (name_ok n p.0, p.1)
  note_ok ks (Shorten n c i) p = (name_ok n p.0, p.1)

pub keeps_names : EnteringKeepsNames
keeps_names P law u v exports ks n p = note_ok P law u v exports ks n p

word_base : (i : ℕ) → word_of (marks.base i) ≡ word_of i
unfolding marks.base
word_base i = word_key (provider_of i % 16) (word_of i)

word_placed : (i : ℕ) → word_of (marks.placed i) ≡ word_of i
unfolding marks.placed
word_placed i = word_key (provider_of i % 16 + 16) (word_of i)

pub made_entries : (vats : List (Vat Name)) (draws : List ℕ) → HoldsOfEntries (IsMade vats draws)
made_entries vats draws = record {
  unmarked = λ h i p. rw (word_base i) p;
  placed_too = λ h i p. rw (word_placed i) p;
  passed = λ h i p q. q;
}

pub keeps_made : EnteringKeepsMade
keeps_made vats draws u v exports ks n p = note_ok (IsMade vats draws) (made_entries vats draws) u v exports ks n p

module _ (u v : ℕ) (exports : List Name) where
  by_host : (h i : ℕ) (a b : Bool) → host_of (entered.entry_by u v exports h i a b) ≡ h
  unfolding entered.entry_by host_of
  by_host h i true b = refl
  by_host h i false true = refl
  by_host h i false false = refl

  gift_host : (h i : ℕ) (a : Bool) → host_of (entered.entry_of_gift u v exports h i a) ≡ h
  unfolding entered.entry_of_gift host_of
  gift_host h i true = by_host h i (h == u) (has_name exports (Gift h i))
  gift_host h i false = refl

  name_host : (n : Name) → host_of (entered.entry_name u v exports n) ≡ host_of n
  unfolding entered.entry_name host_of
  name_host (Gift h i) = gift_host h i ((h == u) || (h == v))
  name_host (Root h) = refl
  name_host (Object h i) = refl
  name_host (Promise h i) = refl
  name_host (Answer h m) = refl
  name_host (Sent m) = refl

  shortened : (i c : ℕ) (n : Name) → IsBetween v u (Shorten n c i) → IsBetween v u (Shorten (entered.entry_name u v exports n) c i)
  unfolding entered.entry_name host_of
  shortened i c (Gift h j) q = λ a. gift_host h j ((h == u) || (h == v)) ∙ q tt
  shortened i c (Root h) q = q
  shortened i c (Object h j) q = q
  shortened i c (Promise h j) q = q
  shortened i c (Answer h m) q = q
  shortened i c (Sent m) q = q

pub keeps_ends : EnteringKeepsEnds
unfolding entered.entered
keeps_ends u v exports ks (Deliver d n verb ys) p = name_host u v exports n ∙ p
keeps_ends u v exports ks (Open i n) p = name_host u v exports n ∙ p
keeps_ends u v exports ks (Ask q i n) p = name_host u v exports n ∙ p
keeps_ends u v exports ks (SettledTo n y) p = name_host u v exports n ∙ p
keeps_ends u v exports ks (Elsewhere n c) p = name_host u v exports n ∙ p
keeps_ends u v exports ks (Shorten n c i) p = shortened u v exports i c n p
