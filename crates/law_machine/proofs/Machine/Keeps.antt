-- What each single change of a vat keeps, all that a vat does keeps: proved once, for any relation between states.
use Rattle.std.proofs.Common.{ℕ, suc, ◌-◌, Bool, true, false, List, [], ◌∷◌, ◌++◌, Option, Some, None, if◌then◌else◌, length}
use Rattle.std.specs.Prelude.{nat_le}
use Rattle.law_machine.proofs.Machine.Walks.{Property, Holds, IsClosed, IsEnding}
use Rattle.law_machine.proofs.Machine.Blocks.{Singles, SinglesUnder}
use Rattle.law_machine.specs.Machine.Steps.{After}
use Rattle.def_machine.specs.Values.{Words, Value, Naming, Coming, Mailing, IsOwn, IsAnswer}
use Rattle.def_machine.specs.State.{Thing, Cell, Message, Happened, Vat, Stop, Done, Gives, Throws, Ejects, Stops, Act, ◌>>=◌, ◌>>◌, and_then, for_some, end_by, ending, each, give, throw, stop, eject, look, tell, spend, spent, new_activation, new_thing, kill, change, dead, new_slot, holding, write_slot, new_list, enqueue, Change, Note, Put, GiftEntry, send_out, new_gift, with_opened, open_gift, mark, draws, with_change, alter, come, mail, new_promise, new_message, draw, begun, new_lone_message}

-- R leads from each state to the state after it
abbrev pub KeepsBy : {N : Type 0} → (Vat N → Vat N → Type 0) → Property N
KeepsBy {N} R A m = (s : Vat N) → After R s (m s)

abbrev pub Keeps : {N A : Type 0} → (Vat N → Vat N → Type 0) → Act N A → Type 0
Keeps R m = Holds (KeepsBy R) m

-- what is to be shown of a relation: that it holds of no change, of two in a row, and of each single change
pub record IsKept {N : Type 0} (R : Vat N → Vat N → Type 0) : Type 0 where
  pub same : (s : Vat N) → R s s
  pub trans : {s t u : Vat N} → R s t → R t u → R s u
  pub fuel : (s : Vat N) (n : ℕ) → R s (record s { fuel = s.fuel - n })
  pub happened : (s : Vat N) (e : Happened N) → R s (record s { happened = s.happened ++ e ∷ [] })
  pub activations : (s : Vat N) → R s (record s { activations = suc s.activations })
  pub thing : (s : Vat N) (t : Thing N) → R s (record s { things = s.things ++ t ∷ [] })
  pub killed : (s : Vat N) (n : ℕ) → R s (record s { things = change dead n s.things })
  pub slot : (s : Vat N) (c : Cell N) → R s (record s { slots = s.slots ++ c ∷ [] })
  pub written : (s : Vat N) (n : ℕ) (v : Value N) → R s (record s { slots = change (holding v) n s.slots })
  pub list : (s : Vat N) (vs : List (Value N)) → R s (record s { lists = s.lists ++ vs ∷ [] })
  pub queue : (s : Vat N) (m : Message N) → R s (record s { queue = s.queue ++ m ∷ [] })
  pub outbox : (s : Vat N) (n : Put N) → R s (record s { outbox = s.outbox ++ n ∷ [] })
  pub gift : (s : Vat N) (g : GiftEntry N) → R s (record s { gifts = s.gifts ++ g ∷ [] })
  pub opened : (s : Vat N) (p i : ℕ) → R s (record s { gifts = with_opened p i s.gifts })
  pub noticed : (s : Vat N) (w : ℕ) → R s (record s { noticed = s.noticed ++ w ∷ [] })
  pub drawn : (s : Vat N) (w : ℕ) → R s (record s { drawn = s.drawn ++ w ∷ [] })

-- and of each change of what is known
pub record IsKeptUnder {N W : Type 0} (K : Naming N W) (R : Vat N → Vat N → Type 0) : Type 0 where
  pub altered : (s : Vat N) (c : Change N) (n : N) → R s (record s { known = with_change K c n s.known })
  pub came : (s : Vat N) (c : Coming N W) (h : ℕ) → R s (record s { known = s.known ++ begun (K.made c (length s.known)) h ∷ [] })
  pub mailed : (s : Vat N) (c : Mailing W) → R s (record s { mails = s.mails ++ K.mailed c (length s.mails) ∷ [] })
  pub promised : (s : Vat N) → R s (record s { promises = suc s.promises; known = s.known ++ begun (K.made (IsOwn s.promises) (length s.known)) s.number ∷ [] })
  pub messaged : (s : Vat N) (h : ℕ) (id : N) → R s (record s { messages = suc s.messages; mails = s.mails ++ id ∷ []; known = s.known ++ begun (K.made (IsAnswer h id) (length s.known)) h ∷ [] })
  pub lone : (s : Vat N) (id : N) → R s (record s { messages = suc s.messages; mails = s.mails ++ id ∷ [] })

module _ {N : Type 0} (R : Vat N → Vat N → Type 0) (law : IsKept R) where
  pub widen : {A : Type 0} {s t : Vat N} → R s t → (d : Done N A) → After R t d → After R s d
  widen r (Gives a u) h = law.trans r h
  widen r other h = law.trans r h

  bind_after : {A B : Type 0} (s : Vat N) (d : Done N A) (f : A → Act N B) → After R s d → ((a : A) → Keeps R (f a)) → After R s (and_then d f)
  unfolding and_then
  bind_after s (Gives a t) f h k = widen h (f a t) ((k a).after t)
  bind_after s other f h k = h

  pub keeps_bind : {A B : Type 0} {m : Act N A} {f : A → Act N B} → Keeps R m → ((a : A) → Keeps R (f a)) → Keeps R (m >>= f)
  unfolding ◌>>=◌
  keeps_bind {m = m} {f = f} h k = record { after = λ s. bind_after s (m s) f (h.after s) k }

  pub keeps_then : {A B : Type 0} {m : Act N A} {n : Act N B} → Keeps R m → Keeps R n → Keeps R (m >> n)
  unfolding ◌>>◌
  keeps_then {m = m} {n = n} h k = record { after = λ s. bind_after s (m s) (λ _. n) (h.after s) (λ _. k) }

  end_after : {A B : Type 0} (f : A → Act N B) (g : Words → Act N B) (h : ℕ → Value N → Act N B) (s : Vat N) (d : Done N A) → After R s d
      → ((a : A) → Keeps R (f a)) → ((p : Words) → Keeps R (g p)) → ((n : ℕ) (v : Value N) → Keeps R (h n v)) → After R s (end_by f g h d)
  unfolding end_by
  end_after f g h s (Gives a t) r i j k = widen r (f a t) ((i a).after t)
  end_after f g h s (Throws p t) r i j k = widen r (g p t) ((j p).after t)
  end_after f g h s (Ejects n v t) r i j k = widen r (h n v t) ((k n v).after t)
  end_after f g h s (Stops c t) r i j k = r

  pub keeps_ending : {A B : Type 0} {f : A → Act N B} {g : Words → Act N B} {h : ℕ → Value N → Act N B} {m : Act N A}
      → ((a : A) → Keeps R (f a)) → ((p : Words) → Keeps R (g p)) → ((n : ℕ) (v : Value N) → Keeps R (h n v)) → Keeps R m → Keeps R (ending f g h m)
  unfolding ending
  keeps_ending {f = f} {g = g} {h = h} {m = m} i j k r = record { after = λ s. end_after f g h s (m s) (r.after s) i j k }

  pub keeps_some : {A B : Type 0} (o : Option A) {f : A → Act N B} {m : Act N B} → ((a : A) → Keeps R (f a)) → Keeps R m → Keeps R (for_some o f m)
  unfolding for_some
  keeps_some (Some a) h k = h a
  keeps_some None h k = k

  pub keeps_if : {A : Type 0} (b : Bool) {m n : Act N A} → Keeps R m → Keeps R n → Keeps R (if b then m else n)
  keeps_if true h k = h
  keeps_if false h k = k

  pub keeps_give : {A : Type 0} (a : A) → Keeps R (give a)
  unfolding give
  keeps_give a = record { after = law.same }

  pub keeps_throw : {A : Type 0} (p : Words) → Keeps R (throw {A = A} p)
  unfolding throw
  keeps_throw p = record { after = law.same }

  pub keeps_eject : {A : Type 0} (n : ℕ) (v : Value N) → Keeps R (eject {A = A} n v)
  unfolding eject
  keeps_eject n v = record { after = law.same }

  pub keeps_stop : {A : Type 0} (c : Stop) → Keeps R (stop {A = A} c)
  unfolding stop
  keeps_stop c = record { after = law.same }

  pub keeps_look : {A : Type 0} (f : Vat N → A) → Keeps R (look f)
  unfolding look
  keeps_look f = record { after = law.same }

  pub keeps_tell : (e : Happened N) → Keeps R (tell e)
  unfolding tell
  keeps_tell e = record { after = λ s. law.happened s e }

  spend_after : (s : Vat N) (n : ℕ) (b : Bool) → After R s (spent n b s)
  unfolding spent
  spend_after s n true = law.fuel s n
  spend_after s n false = law.same s

  pub keeps_spend : (n : ℕ) → Keeps R (spend n)
  unfolding spend
  keeps_spend n = record { after = λ s. spend_after s n (nat_le n s.fuel) }

  pub keeps_activation : Keeps R new_activation
  unfolding new_activation
  keeps_activation = record { after = law.activations }

  pub keeps_thing : (t : Thing N) → Keeps R (new_thing t)
  unfolding new_thing
  keeps_thing t = record { after = λ s. law.thing s t }

  pub keeps_kill : (n : ℕ) → Keeps R (kill n)
  unfolding kill
  keeps_kill n = record { after = λ s. law.killed s n }

  pub keeps_slot : (g v : Value N) → Keeps R (new_slot g v)
  unfolding new_slot
  keeps_slot g v = record { after = λ s. law.slot s _ }

  pub keeps_write : (n : ℕ) (v : Value N) → Keeps R (write_slot n v)
  unfolding write_slot
  keeps_write n v = record { after = λ s. law.written s n v }

  pub keeps_list : (vs : List (Value N)) → Keeps R (new_list vs)
  unfolding new_list
  keeps_list vs = record { after = λ s. law.list s vs }

  pub keeps_enqueue : (m : Message N) → Keeps R (enqueue m)
  unfolding enqueue
  keeps_enqueue m = record { after = λ s. law.queue s m }

  pub keeps_out : (to : ℕ) (n : Note N) → Keeps R (send_out to n)
  unfolding send_out
  keeps_out to n = record { after = λ s. law.outbox s _ }

  pub keeps_gift : (n : N) (p i : ℕ) → Keeps R (new_gift n p i)
  unfolding new_gift
  keeps_gift n p i = record { after = λ s. law.gift s _ }

  pub keeps_open : (p i : ℕ) → Keeps R (open_gift p i)
  unfolding open_gift
  keeps_open p i = record { after = λ s. law.opened s p i }

  pub keeps_mark : (w : ℕ) → Keeps R (mark w)
  unfolding mark
  keeps_mark w = record { after = λ s. law.noticed s w }

  pub keeps_each : {A : Type 0} {f : A → Act N (Unit {0})} (xs : List A) → ((x : A) → Keeps R (f x)) → Keeps R (each f xs)
  unfolding each
  keeps_each [] h = keeps_give tt
  keeps_each (x ∷ xs) h = keeps_then (h x) (keeps_each xs h)

  pub draws_after : (s : Vat N) (w : ℕ) (o : Option ℕ) → After R s (draws w o s)
  unfolding draws
  draws_after s w (Some i) = law.same s
  draws_after s w None = law.drawn s w

module _ {N W : Type 0} (K : Naming N W) (R : Vat N → Vat N → Type 0) (law : IsKeptUnder K R) where
  pub keeps_alter : (c : Change N) (n : N) → Keeps R (alter K c n)
  unfolding alter
  keeps_alter c n = record { after = λ s. law.altered s c n }

  pub keeps_come : (c : Coming N W) (h : ℕ) → Keeps R (come K c h)
  unfolding come
  keeps_come c h = record { after = λ s. law.came s c h }

  pub keeps_mail : (c : Mailing W) → Keeps R (mail K c)
  unfolding mail
  keeps_mail c = record { after = λ s. law.mailed s c }

  pub keeps_promise : Keeps R (new_promise K)
  unfolding new_promise
  keeps_promise = record { after = law.promised }

  pub keeps_message : (h : ℕ) → Keeps R (new_message K h)
  unfolding new_message
  keeps_message h = record { after = λ s. law.messaged s h _ }

  pub keeps_lone_message : Keeps R (new_lone_message K)
  unfolding new_lone_message
  keeps_lone_message = record { after = λ s. law.lone s _ }

pub keeps_draw : {N W : Type 0} (K : Naming N W) (R : Vat N → Vat N → Type 0) (law : IsKept R) → Keeps R (draw K)
unfolding draw
keeps_draw K R law = record { after = λ s. draws_after R law s _ _ }

module _ {N : Type 0} (R : Vat N → Vat N → Type 0) (law : IsKept R) where
  pub keeps_closed : IsClosed (KeepsBy R)
  keeps_closed = record { gives = keeps_give R law; stops = keeps_stop R law; looks = keeps_look R law; binds = keeps_bind R law }

  pub keeps_ends : IsEnding (KeepsBy R)
  keeps_ends = record { throws = keeps_throw R law; ejects = keeps_eject R law; ends = keeps_ending R law }

  pub keeps_singles : Singles (KeepsBy R)
  keeps_singles = record {
    tells = keeps_tell R law;
    spends = keeps_spend R law;
    activates = keeps_activation R law;
    makes = keeps_thing R law;
    kills = keeps_kill R law;
    slots = keeps_slot R law;
    writes = keeps_write R law;
    lists = keeps_list R law;
    queues = keeps_enqueue R law;
    puts = keeps_out R law;
    gifts = keeps_gift R law;
    opens = keeps_open R law;
    marks = keeps_mark R law;
  }

  pub keeps_singles_under : {W : Type 0} (K : Naming N W) → IsKeptUnder K R → SinglesUnder (KeepsBy R) K
  keeps_singles_under K under = record {
    alters = keeps_alter K R under;
    comes = keeps_come K R under;
    mails = keeps_mail K R under;
    promises = keeps_promise K R under;
    messages = keeps_message K R under;
    lone_messages = keeps_lone_message K R under;
    draws = keeps_draw K R law;
  }

pub ruleset keeps = (keeps_bind, keeps_then, keeps_ending, keeps_some, keeps_if, keeps_give, keeps_throw, keeps_eject, keeps_stop, keeps_look, keeps_tell, keeps_spend, keeps_activation, keeps_thing, keeps_kill, keeps_slot, keeps_write, keeps_list, keeps_enqueue, keeps_out, keeps_gift, keeps_open, keeps_mark, keeps_each, keeps_alter, keeps_come, keeps_mail, keeps_promise, keeps_message, keeps_lone_message, keeps_draw)
