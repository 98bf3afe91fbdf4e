-- What is kept of a vat's queue and of what is known of names, where nothing has to be known of what is in hand.
use Rattle.std.proofs.Common.{ℕ, Bool, true, false, List, [], ◌∷◌, Option, Some, None, if◌then◌else◌}
use Rattle.std.specs.Prelude.{nat_le}
use Rattle.def_machine.specs.Values.{Words, Value}
use Rattle.def_machine.specs.State.{Thing, Message, Known, Note, Happened, Vat, Stop, Done, Gives, Throws, Ejects, Stops, Act, ◌>>=◌, ◌>>◌, and_then, for_some, each, give, throw, stop, eject, look, tell, spend, spent, new_activation, new_thing, kill, new_slot, write_slot, new_list, send_out, new_gift, open_gift, mark}

module _ {N : Type 0} (Rests : List (Message N) → List (Known N) → Type 0) where
  abbrev pub RestsAfter : {A : Type 0} → Done N A → Type 0
  RestsAfter (Gives a t) = Rests t.queue t.known
  RestsAfter (Throws p t) = Rests t.queue t.known
  RestsAfter (Ejects i v t) = Rests t.queue t.known
  RestsAfter (Stops c t) = Unit {0}

  -- it is kept
  pub record Quiet {A : Type 0} (m : Act N A) : Type 0 where
    pub after : (s : Vat N) → Rests s.queue s.known → RestsAfter (m s)

  bind_quiet : {A B : Type 0} (d : Done N A) (f : A → Act N B) → RestsAfter d → ((a : A) → Quiet (f a)) → RestsAfter (and_then d f)
  unfolding and_then
  bind_quiet (Gives a t) f h k = (k a).after t h
  bind_quiet other f h k = h

  pub quiet_bind : {A B : Type 0} {m : Act N A} {f : A → Act N B} → Quiet m → ((a : A) → Quiet (f a)) → Quiet (m >>= f)
  unfolding ◌>>=◌
  quiet_bind {m = m} {f = f} h k = record { after = λ s r. bind_quiet (m s) f (h.after s r) k }

  pub quiet_then : {A B : Type 0} {m : Act N A} {o : Act N B} → Quiet m → Quiet o → Quiet (m >> o)
  unfolding ◌>>◌
  quiet_then {m = m} {o = o} h k = record { after = λ s r. bind_quiet (m s) (λ _. o) (h.after s r) (λ _. k) }

  pub quiet_if : {A : Type 0} (b : Bool) {m o : Act N A} → Quiet m → Quiet o → Quiet (if b then m else o)
  quiet_if true h k = h
  quiet_if false h k = k

  pub quiet_some : {A B : Type 0} (o : Option A) {f : A → Act N B} {m : Act N B} → ((a : A) → Quiet (f a)) → Quiet m → Quiet (for_some o f m)
  unfolding for_some
  quiet_some (Some a) h k = h a
  quiet_some None h k = k

  pub quiet_give : {A : Type 0} (a : A) → Quiet (give a)
  unfolding give
  quiet_give a = record { after = λ s r. r }

  pub quiet_each : {A : Type 0} {f : A → Act N (Unit {0})} (xs : List A) → ((x : A) → Quiet (f x)) → Quiet (each f xs)
  unfolding each
  quiet_each [] h = quiet_give tt
  quiet_each (x ∷ xs) h = quiet_then (h x) (quiet_each xs h)

  pub quiet_stop : {A : Type 0} (c : Stop) → Quiet (stop {A = A} c)
  unfolding stop
  quiet_stop c = record { after = λ s r. tt }

  pub quiet_throw : {A : Type 0} (p : Words) → Quiet (throw {A = A} p)
  unfolding throw
  quiet_throw p = record { after = λ s r. r }

  pub quiet_eject : {A : Type 0} (i : ℕ) (v : Value N) → Quiet (eject {A = A} i v)
  unfolding eject
  quiet_eject i v = record { after = λ s r. r }

  pub quiet_look : {A : Type 0} (f : Vat N → A) → Quiet (look f)
  unfolding look
  quiet_look f = record { after = λ s r. r }

  pub quiet_tell : (e : Happened N) → Quiet (tell e)
  unfolding tell
  quiet_tell e = record { after = λ s r. r }

  quiet_spent : (s : Vat N) (i : ℕ) (b : Bool) → Rests s.queue s.known → RestsAfter (spent i b s)
  unfolding spent
  quiet_spent s i true r = r
  quiet_spent s i false r = tt

  pub quiet_spend : (i : ℕ) → Quiet (spend i)
  unfolding spend
  quiet_spend i = record { after = λ s r. quiet_spent s i (nat_le i s.fuel) r }

  pub quiet_activation : Quiet new_activation
  unfolding new_activation
  quiet_activation = record { after = λ s r. r }

  pub quiet_thing : (t : Thing N) → Quiet (new_thing t)
  unfolding new_thing
  quiet_thing t = record { after = λ s r. r }

  pub quiet_kill : (i : ℕ) → Quiet (kill i)
  unfolding kill
  quiet_kill i = record { after = λ s r. r }

  pub quiet_slot : (g v : Value N) → Quiet (new_slot g v)
  unfolding new_slot
  quiet_slot g v = record { after = λ s r. r }

  pub quiet_write : (i : ℕ) (v : Value N) → Quiet (write_slot i v)
  unfolding write_slot
  quiet_write i v = record { after = λ s r. r }

  pub quiet_list : (vs : List (Value N)) → Quiet (new_list vs)
  unfolding new_list
  quiet_list vs = record { after = λ s r. r }

  pub quiet_out : (to : ℕ) (n : Note N) → Quiet (send_out to n)
  unfolding send_out
  quiet_out to n = record { after = λ s r. r }

  pub quiet_gift : (n : N) (p i : ℕ) → Quiet (new_gift n p i)
  unfolding new_gift
  quiet_gift n p i = record { after = λ s r. r }

  pub quiet_open : (p i : ℕ) → Quiet (open_gift p i)
  unfolding open_gift
  quiet_open p i = record { after = λ s r. r }

  pub quiet_mark : (w : ℕ) → Quiet (mark w)
  unfolding mark
  quiet_mark w = record { after = λ s r. r }

-- what leaves the queue and what is known of names as they are
pub ruleset quiets = (quiet_bind, quiet_then, quiet_if, quiet_some, quiet_each, quiet_stop, quiet_give, quiet_throw, quiet_look, quiet_tell, quiet_spend, quiet_list, quiet_out, quiet_gift, quiet_open, quiet_mark)
