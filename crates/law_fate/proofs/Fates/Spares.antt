-- What the changes that touch no message keep, and what sending, reacting, settling and resolving keep, every sequence of these keeps.
use Rattle.std.proofs.Common.{ℕ, suc, ◌-◌, Bool, true, false, List, [], ◌∷◌, ◌++◌, Option, Some, None, if◌then◌else◌, length}
use Rattle.std.specs.Prelude.{nat_le}
use Rattle.law_machine.specs.Machine.Steps.{After}
use Rattle.law_machine.proofs.Machine.Keeps.{Keeps}
use Rattle.def_machine.specs.Values.{Words, Value, Naming, IsOwn}
use Rattle.def_machine.specs.State.{Bound, Thing, Cell, Happened, Took, Called, Back, Thrown, Left, Got, SlotMade, SlotRead, SlotWrote, ListMade, ListCame, EjectorMade, AuditionMade, PromiseMade, ObjectMade, Sends, Reacts, Finished, Threw, Settles, Waits, Views, Lost, Posted, Vat, Stop, Done, Gives, Throws, Ejects, Stops, Act, ◌>>=◌, ◌>>◌, and_then, for_some, end_by, ending, each, give, throw, stop, eject, look, tell, spend, spent, new_activation, new_thing, kill, change, dead, new_slot, holding, write_slot, new_list, new_promise, begun}
use Rattle.def_machine.specs.Refs.{settle, resolve, send, react, send_only}

-- a line that tells of no message
abbrev pub TellsOfNone : {N : Type 0} → Happened N → Type 0
TellsOfNone (Took act m) = ⊥
TellsOfNone (Sends act m) = ⊥
TellsOfNone (Reacts act y o m) = ⊥
TellsOfNone (Lost m) = ⊥
TellsOfNone (Posted w m) = ⊥
TellsOfNone _ = Unit {0}

-- what is to be shown of a relation: that it holds of no change, of two in a row, and of each change that touches no message
pub record IsSpared {N : Type 0} (R : Vat N → Vat N → Type 0) : Type 0 where
  pub same : (s : Vat N) → R s s
  pub trans : {s t u : Vat N} → R s t → R t u → R s u
  pub fuel : (s : Vat N) (n : ℕ) → R s (record s { fuel = s.fuel - n })
  pub told : (s : Vat N) (e : Happened N) → TellsOfNone e → R s (record s { happened = s.happened ++ e ∷ [] })
  pub activations : (s : Vat N) → R s (record s { activations = suc s.activations })
  pub thing : (s : Vat N) (t : Thing N) → R s (record s { things = s.things ++ t ∷ [] })
  pub killed : (s : Vat N) (n : ℕ) → R s (record s { things = change dead n s.things })
  pub slot : (s : Vat N) (c : Cell N) → R s (record s { slots = s.slots ++ c ∷ [] })
  pub written : (s : Vat N) (n : ℕ) (v : Value N) → R s (record s { slots = change (holding v) n s.slots })
  pub list : (s : Vat N) (vs : List (Value N)) → R s (record s { lists = s.lists ++ vs ∷ [] })

-- and of a new promise, and of what is done with references
pub record IsSparedUnder {N W : Type 0} (K : Naming N W) (R : Vat N → Vat N → Type 0) : Type 0 where
  pub promised : (s : Vat N) → R s (record s { promises = suc s.promises; known = s.known ++ begun (K.made (IsOwn s.promises) (length s.known)) s.number ∷ [] })
  pub settles : (p : N) (y : Value N) → Keeps R (settle K p y)
  pub resolves : (p : N) (y : Value N) → Keeps R (resolve K p y)
  pub sends : (act : ℕ) (x : Value N) (verb : Words) (args : List (Value N)) → Keeps R (send K act x verb args)
  pub sends_only : (act : ℕ) (x : Value N) (verb : Words) (args : List (Value N)) → Keeps R (send_only K act x verb args)
  pub reacts : (act : ℕ) (x o near : Value N) → Keeps R (react K act x o near)

module _ {N : Type 0} (R : Vat N → Vat N → Type 0) (law : IsSpared R) where
  pub widen : {A : Type 0} {s t : Vat N} → R s t → (d : Done N A) → After R t d → After R s d
  widen r (Gives a u) h = law.trans r h
  widen r other h = law.trans r h

  bind_after : {A B : Type 0} (s : Vat N) (d : Done N A) (f : A → Act N B) → After R s d → ((a : A) → Keeps R (f a)) → After R s (and_then d f)
  unfolding and_then
  bind_after s (Gives a t) f h k = widen h (f a t) ((k a).after t)
  bind_after s other f h k = h

  pub keeps_bind : {A B : Type 0} {m : Act N A} {f : A → Act N B} → Keeps R m → ((a : A) → Keeps R (f a)) → Keeps R (m >>= f)
  unfolding ◌>>=◌
  keeps_bind {m = m} {f = f} h k = record { after = λ s. bind_after s (m s) f (h.after s) k }

  pub keeps_then : {A B : Type 0} {m : Act N A} {n : Act N B} → Keeps R m → Keeps R n → Keeps R (m >> n)
  unfolding ◌>>◌
  keeps_then {m = m} {n = n} h k = record { after = λ s. bind_after s (m s) (λ _. n) (h.after s) (λ _. k) }

  end_after : {A B : Type 0} (f : A → Act N B) (g : Words → Act N B) (h : ℕ → Value N → Act N B) (s : Vat N) (d : Done N A) → After R s d
      → ((a : A) → Keeps R (f a)) → ((p : Words) → Keeps R (g p)) → ((n : ℕ) (v : Value N) → Keeps R (h n v)) → After R s (end_by f g h d)
  unfolding end_by
  end_after f g h s (Gives a t) r i j k = widen r (f a t) ((i a).after t)
  end_after f g h s (Throws p t) r i j k = widen r (g p t) ((j p).after t)
  end_after f g h s (Ejects n v t) r i j k = widen r (h n v t) ((k n v).after t)
  end_after f g h s (Stops c t) r i j k = r

  pub keeps_ending : {A B : Type 0} {f : A → Act N B} {g : Words → Act N B} {h : ℕ → Value N → Act N B} {m : Act N A}
      → ((a : A) → Keeps R (f a)) → ((p : Words) → Keeps R (g p)) → ((n : ℕ) (v : Value N) → Keeps R (h n v)) → Keeps R m → Keeps R (ending f g h m)
  unfolding ending
  keeps_ending {f = f} {g = g} {h = h} {m = m} i j k r = record { after = λ s. end_after f g h s (m s) (r.after s) i j k }

  pub keeps_some : {A B : Type 0} (o : Option A) {f : A → Act N B} {m : Act N B} → ((a : A) → Keeps R (f a)) → Keeps R m → Keeps R (for_some o f m)
  unfolding for_some
  keeps_some (Some a) h k = h a
  keeps_some None h k = k

  pub keeps_if : {A : Type 0} (b : Bool) {m n : Act N A} → Keeps R m → Keeps R n → Keeps R (if b then m else n)
  keeps_if true h k = h
  keeps_if false h k = k

  pub keeps_give : {A : Type 0} (a : A) → Keeps R (give a)
  unfolding give
  keeps_give a = record { after = law.same }

  pub keeps_throw : {A : Type 0} (p : Words) → Keeps R (throw {A = A} p)
  unfolding throw
  keeps_throw p = record { after = law.same }

  pub keeps_eject : {A : Type 0} (n : ℕ) (v : Value N) → Keeps R (eject {A = A} n v)
  unfolding eject
  keeps_eject n v = record { after = law.same }

  pub keeps_stop : {A : Type 0} (c : Stop) → Keeps R (stop {A = A} c)
  unfolding stop
  keeps_stop c = record { after = law.same }

  pub keeps_look : {A : Type 0} (f : Vat N → A) → Keeps R (look f)
  unfolding look
  keeps_look f = record { after = law.same }

  keeps_tell : (e : Happened N) → TellsOfNone e → Keeps R (tell e)
  unfolding tell
  keeps_tell e h = record { after = λ s. law.told s e h }

  pub keeps_told_called : (act : ℕ) (y : Value N) (verb : Words) (args : List (Value N)) (begins : Option ℕ) → Keeps R (tell (Called act y verb args begins))
  keeps_told_called act y verb args begins = keeps_tell (Called act y verb args begins) tt

  pub keeps_told_back : (act : ℕ) (y : Value N) → Keeps R (tell (Back act y))
  keeps_told_back act y = keeps_tell (Back act y) tt

  pub keeps_told_thrown : (act : ℕ) (p : Words) → Keeps R (tell (Thrown act p))
  keeps_told_thrown act p = keeps_tell (Thrown act p) tt

  pub keeps_told_left : (act : ℕ) → Keeps R (tell (Left act))
  keeps_told_left act = keeps_tell (Left act) tt

  pub keeps_told_got : (act : ℕ) (y : Value N) → Keeps R (tell (Got act y))
  keeps_told_got act y = keeps_tell (Got act y) tt

  pub keeps_told_slot_made : (act k : ℕ) (y : Value N) → Keeps R (tell (SlotMade act k y))
  keeps_told_slot_made act k y = keeps_tell (SlotMade act k y) tt

  pub keeps_told_slot_read : (act k : ℕ) (y : Value N) → Keeps R (tell (SlotRead act k y))
  keeps_told_slot_read act k y = keeps_tell (SlotRead act k y) tt

  pub keeps_told_slot_wrote : (act k : ℕ) (y : Value N) → Keeps R (tell (SlotWrote act k y))
  keeps_told_slot_wrote act k y = keeps_tell (SlotWrote act k y) tt

  pub keeps_told_list_made : (act k : ℕ) (vs : List (Value N)) → Keeps R (tell (ListMade act k vs))
  keeps_told_list_made act k vs = keeps_tell (ListMade act k vs) tt

  pub keeps_told_list_came : (k : ℕ) (vs : List (Value N)) → Keeps R (tell (ListCame k vs))
  keeps_told_list_came k vs = keeps_tell (ListCame k vs) tt

  pub keeps_told_ejector_made : (act : ℕ) (n : N) → Keeps R (tell (EjectorMade act n))
  keeps_told_ejector_made act n = keeps_tell (EjectorMade act n) tt

  pub keeps_told_audition_made : (act : ℕ) (n : N) → Keeps R (tell (AuditionMade act n))
  keeps_told_audition_made act n = keeps_tell (AuditionMade act n) tt

  pub keeps_told_promise_made : (act : ℕ) (p n : N) → Keeps R (tell (PromiseMade act p n))
  keeps_told_promise_made act p n = keeps_tell (PromiseMade act p n) tt

  pub keeps_told_object_made : (act : ℕ) (n : N) (x : Words) (bs : List (Bound N)) (stamps : List (Value N)) → Keeps R (tell (ObjectMade act n x bs stamps))
  keeps_told_object_made act n x bs stamps = keeps_tell (ObjectMade act n x bs stamps) tt

  pub keeps_told_finished : (act : ℕ) (y : Value N) → Keeps R (tell (Finished act y))
  keeps_told_finished act y = keeps_tell (Finished act y) tt

  pub keeps_told_threw : (act : ℕ) (p : Words) → Keeps R (tell (Threw act p))
  keeps_told_threw act p = keeps_tell (Threw act p) tt

  pub keeps_told_settles : (p : N) (y : Value N) → Keeps R (tell (Settles p y))
  keeps_told_settles p y = keeps_tell (Settles p y) tt

  pub keeps_told_waits : (p q : N) → Keeps R (tell (Waits p q))
  keeps_told_waits p q = keeps_tell (Waits p q) tt

  pub keeps_told_views : (p q : N) → Keeps R (tell (Views p q))
  keeps_told_views p q = keeps_tell (Views p q) tt

  spend_after : (s : Vat N) (n : ℕ) (b : Bool) → After R s (spent n b s)
  unfolding spent
  spend_after s n true = law.fuel s n
  spend_after s n false = law.same s

  pub keeps_spend : (n : ℕ) → Keeps R (spend n)
  unfolding spend
  keeps_spend n = record { after = λ s. spend_after s n (nat_le n s.fuel) }

  pub keeps_activation : Keeps R new_activation
  unfolding new_activation
  keeps_activation = record { after = law.activations }

  pub keeps_thing : (t : Thing N) → Keeps R (new_thing t)
  unfolding new_thing
  keeps_thing t = record { after = λ s. law.thing s t }

  pub keeps_kill : (n : ℕ) → Keeps R (kill n)
  unfolding kill
  keeps_kill n = record { after = λ s. law.killed s n }

  pub keeps_slot : (g v : Value N) → Keeps R (new_slot g v)
  unfolding new_slot
  keeps_slot g v = record { after = λ s. law.slot s _ }

  pub keeps_write : (n : ℕ) (v : Value N) → Keeps R (write_slot n v)
  unfolding write_slot
  keeps_write n v = record { after = λ s. law.written s n v }

  pub keeps_list : (vs : List (Value N)) → Keeps R (new_list vs)
  unfolding new_list
  keeps_list vs = record { after = λ s. law.list s vs }

  pub keeps_each : {A : Type 0} {f : A → Act N (Unit {0})} (xs : List A) → ((x : A) → Keeps R (f x)) → Keeps R (each f xs)
  unfolding each
  keeps_each [] h = keeps_give tt
  keeps_each (x ∷ xs) h = keeps_then (h x) (keeps_each xs h)

module _ {N W : Type 0} (K : Naming N W) (R : Vat N → Vat N → Type 0) (law : IsSparedUnder K R) where
  pub keeps_promise : Keeps R (new_promise K)
  unfolding new_promise
  keeps_promise = record { after = law.promised }

  pub keeps_settle : (p : N) (y : Value N) → Keeps R (settle K p y)
  keeps_settle = law.settles

  pub keeps_resolve : (p : N) (y : Value N) → Keeps R (resolve K p y)
  keeps_resolve = law.resolves

  pub keeps_send : (act : ℕ) (x : Value N) (verb : Words) (args : List (Value N)) → Keeps R (send K act x verb args)
  keeps_send = law.sends

  pub keeps_send_only : (act : ℕ) (x : Value N) (verb : Words) (args : List (Value N)) → Keeps R (send_only K act x verb args)
  keeps_send_only = law.sends_only

  pub keeps_react : (act : ℕ) (x o near : Value N) → Keeps R (react K act x o near)
  keeps_react = law.reacts

pub ruleset spares = (keeps_bind, keeps_then, keeps_ending, keeps_some, keeps_if, keeps_give, keeps_throw, keeps_eject, keeps_stop, keeps_look, keeps_spend, keeps_activation, keeps_thing, keeps_kill, keeps_slot, keeps_write, keeps_list, keeps_each, keeps_told_called, keeps_told_back, keeps_told_thrown, keeps_told_left, keeps_told_got, keeps_told_slot_made, keeps_told_slot_read, keeps_told_slot_wrote, keeps_told_list_made, keeps_told_list_came, keeps_told_ejector_made, keeps_told_audition_made, keeps_told_promise_made, keeps_told_object_made, keeps_told_finished, keeps_told_threw, keeps_told_settles, keeps_told_waits, keeps_told_views)

pub ruleset spares_under = (spares, keeps_promise, keeps_settle, keeps_resolve, keeps_send, keeps_react)
