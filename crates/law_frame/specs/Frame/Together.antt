-- The readings of a frame by the numbers of a vat and in names go together, and so do its writings.
use Rattle.std.specs.Prelude.{◌≡◌, ℕ, Bool, true, List, map, option_map}
use Rattle.def_op.specs.Frames.{Operation}
use Rattle.def_machine.specs.Values.{Value, Null, Flag, Number, Letter, Text, Prim, Broken, Items, Ref, Name, Local}
use Rattle.def_machine.specs.State.{Passed, Passeds, Plain, AGift, Many, NoMore, More, Note, Deliver, Open, Ask, SettledTo, Elsewhere, Shorten}
use Rattle.def_machine.specs.Arrive.{Incoming}
use Rattle.law_fate.specs.Name.Names.{AllOf}
use Rattle.def_run.specs.Connections.{Connection, Sight, Learnt, Stage, Newcomers, Heard, note_heard, frame_now, put_on}
use Rattle.def_machine.specs.Maps as maps
use Rattle.def_machine.specs.Maps.{incoming}
use Rattle.law_machine.specs.Renamed.Renaming.{Wire}
use Rattle.law_machine.specs.Renamed.Stands.{Found}

module _ {N M : Type 0} (f : N → M) where
  abbrev pub changed_tables : Connection N → Connection M
  changed_tables c = record { exports = map f c.exports; imports = map f c.imports; questions = map f c.questions; answers = map f c.answers }

  abbrev pub changed_gift : Learnt N → Learnt M
  changed_gift g = record { host = g.host; number = g.number; name = f g.name }

  abbrev pub changed_stage : Stage N → Stage M
  changed_stage s = record { imports = map f s.imports; learnt = map changed_gift s.learnt; known = s.known }

  -- something that was heard, with what was read changed so
  abbrev pub changed_heard : {A B : Type 0} → (A → B) → Heard N A → Heard M B
  changed_heard g h = record { read = g h.read; after = changed_stage h.after }

  -- with what is new changed too
  abbrev pub changed_newcomers : {W V : Type 0} → (W → V) → Newcomers N W → Newcomers M V
  changed_newcomers g F = record { object = λ p. f (F.object p); promise = λ p k. f (F.promise p k); gift = λ h i k. f (F.gift h i k); exported = λ p. g (F.exported p); asked = λ q. g (F.asked q); message = g F.message }

-- What is read by changed tables is what is read by the tables, changed, where the change tells objects from promises as they are told.
abbrev pub GoTogether : (N M W V : Type 0) → Type 0
GoTogether N M W V = (f : N → M) (g : W → V) (object : N → Bool) (other : M → Bool) (me peer : ℕ) (F : Newcomers N W) → ((n : N) → other (f n) ≡ object n)
    → (c : Connection N) (s : Stage N) (o : Operation)
    → note_heard other me peer (changed_newcomers f g F) (changed_tables f c) o (changed_stage f s) ≡ option_map (changed_heard f (maps.note (incoming f g))) (note_heard object me peer F c o s)

-- So it is where the numbers of a vat, or names, are changed to what a table has for them.
abbrev pub ReadingsGoTogether : Type 0
ReadingsGoTogether = GoTogether Local Found Wire Name × GoTogether Name Found Name Name

-- ---- writing

-- What two ways to see names have in common, where names are changed from one to the other; a name that may stand in a connection is told by P.
pub record SeesAlike {N M : Type 0} (f : N → M) (P : N → Bool) (S : Sight N) (T : Sight M) : Type 0 where
  pub same : (a b : N) → P a ≡ true → T.same (f a) (f b) ≡ S.same a b
  pub own : (a : N) → P a ≡ true → T.own (f a) ≡ S.own a
  pub object : (a : N) → T.object (f a) ≡ S.object a

module _ {N : Type 0} (P : N → Bool) where
  abbrev pub ValueMay : Value N → Type 0
  ValueMay (Ref n) = P n ≡ true
  ValueMay (Items k) = Unit {0}
  ValueMay Null = Unit {0}
  ValueMay (Flag b) = Unit {0}
  ValueMay (Number z) = Unit {0}
  ValueMay (Letter c) = Unit {0}
  ValueMay (Text x) = Unit {0}
  ValueMay (Prim i) = Unit {0}
  ValueMay (Broken x) = Unit {0}

  abbrev mutual
    pub PassedMay : Passed N → Type 0
    PassedMay (Plain y) = ValueMay y
    PassedMay (AGift h i) = Unit {0}
    PassedMay (Many ys) = AllMay ys

    pub AllMay : Passeds N → Type 0
    AllMay NoMore = Unit {0}
    AllMay (More y ys) = PassedMay y × AllMay ys

  -- each name in a note that is described may stand in a connection
  abbrev pub NoteMay : Note N → Type 0
  NoteMay (Deliver d n verb ys) = (P n ≡ true) × AllMay ys
  NoteMay (Open i n) = P n ≡ true
  NoteMay (Ask p i n) = Unit {0}
  NoteMay (SettledTo n y) = (P n ≡ true) × PassedMay y
  NoteMay (Elsewhere n c) = P n ≡ true
  NoteMay (Shorten n c i) = P n ≡ true

  -- and so may each name that stands there
  pub record TablesMay (c : Connection N) : Type 0 where
    pub exports : AllOf (λ n. P n ≡ true) c.exports
    pub imports : AllOf (λ n. P n ≡ true) c.imports
    pub questions : AllOf (λ n. P n ≡ true) c.questions
    pub answers : AllOf (λ n. P n ≡ true) c.answers

-- the answer that a note asks for, if it does, is that of the message, changed
abbrev pub AsksAlike : {N M : Type 0} → (N → M) → Sight N → Sight M → Note N → Type 0
AsksAlike f S T (Deliver d n verb ys) = d.asks ≡ true → T.answer (f d.message) ≡ f (S.answer d.message)
AsksAlike f S T (Open i n) = Unit {0}
AsksAlike f S T (Ask p i n) = Unit {0}
AsksAlike f S T (SettledTo n y) = Unit {0}
AsksAlike f S T (Elsewhere n c) = Unit {0}
AsksAlike f S T (Shorten n c i) = Unit {0}

-- What is written by changed tables is what is written by the tables; and what they are after it, changed.
abbrev pub WriteTogether : (N M : Type 0) → Type 0
WriteTogether N M = (f : N → M) (P : N → Bool) (S : Sight N) (T : Sight M) → SeesAlike f P S T → (c : Connection N) (n : Note N) → TablesMay P c → NoteMay P n → AsksAlike f S T n
    → (frame_now T (maps.note f n) (changed_tables f c) ≡ frame_now S n c) × (put_on T (maps.note f n) (changed_tables f c) ≡ changed_tables f (put_on S n c))

-- So it is where the numbers of a vat, or names, are changed to what a table has for them.
abbrev pub WritingsGoTogether : Type 0
WritingsGoTogether = WriteTogether Local Found × WriteTogether Name Found
