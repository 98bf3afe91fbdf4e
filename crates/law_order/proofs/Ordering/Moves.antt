-- What evaluation does to a vat itself, and what it keeps: single changes, and the acts of references, as they are given.
use Rattle.std.proofs.Common.{ℕ, suc, ◌-◌, Bool, true, false, List, [], ◌∷◌, ◌++◌, if◌then◌else◌, length}
use Rattle.std.specs.Prelude.{nat_le}
use Rattle.law_machine.specs.Machine.Steps.{After}
use Rattle.law_machine.proofs.Machine.Walks.{Property, Holds, IsClosed, IsEnding}
use Rattle.law_machine.proofs.Machine.Blocks.{TurnSingles}
use Rattle.def_machine.specs.Values.{Words, Value, Naming, IsOwn}
use Rattle.def_machine.specs.State.{Thing, Cell, Happened, Vat, Stop, Done, Gives, Throws, Ejects, Stops, Act, ◌>>=◌, ◌>>◌, and_then, end_by, ending, give, throw, stop, eject, look, tell, spend, spent, new_activation, new_thing, kill, change, dead, new_slot, holding, write_slot, new_list, new_promise, begun}
use Rattle.def_machine.specs.Refs as refs

abbrev pub KeepsBy : {N : Type 0} → (Vat N → Vat N → Type 0) → Property N
KeepsBy {N} R A m = (s : Vat N) → After R s (m s)

abbrev pub Keeps : {N A : Type 0} → (Vat N → Vat N → Type 0) → Act N A → Type 0
Keeps R m = Holds (KeepsBy R) m

-- what is to be shown of a relation: that it holds of no change, of two in a row, and of each single change that evaluation makes
pub record IsKept {N : Type 0} (R : Vat N → Vat N → Type 0) : Type 0 where
  pub same : (s : Vat N) → R s s
  pub trans : {s t u : Vat N} → R s t → R t u → R s u
  pub fuel : (s : Vat N) (n : ℕ) → R s (record s { fuel = s.fuel - n })
  pub happened : (s : Vat N) (e : Happened N) → R s (record s { happened = s.happened ++ e ∷ [] })
  pub activations : (s : Vat N) → R s (record s { activations = suc s.activations })
  pub thing : (s : Vat N) (t : Thing N) → R s (record s { things = s.things ++ t ∷ [] })
  pub killed : (s : Vat N) (n : ℕ) → R s (record s { things = change dead n s.things })
  pub slot : (s : Vat N) (c : Cell N) → R s (record s { slots = s.slots ++ c ∷ [] })
  pub written : (s : Vat N) (n : ℕ) (v : Value N) → R s (record s { slots = change (holding v) n s.slots })
  pub list : (s : Vat N) (vs : List (Value N)) → R s (record s { lists = s.lists ++ vs ∷ [] })

-- and of what it does with references
pub record IsKeptUnder {N W : Type 0} (K : Naming N W) (R : Vat N → Vat N → Type 0) : Type 0 where
  pub promised : (s : Vat N) → R s (record s { promises = suc s.promises; known = s.known ++ begun (K.made (IsOwn s.promises) (length s.known)) s.number ∷ [] })
  pub settles : (p : N) (y : Value N) → Keeps R (refs.settle K p y)
  pub resolves : (p : N) (x : Value N) → Keeps R (refs.resolve K p x)
  pub sends : (act : ℕ) (x : Value N) (verb : Words) (args : List (Value N)) → Keeps R (refs.send K act x verb args)
  pub sends_only : (act : ℕ) (x : Value N) (verb : Words) (args : List (Value N)) → Keeps R (refs.send_only K act x verb args)
  pub reacts : (act : ℕ) (x o near : Value N) → Keeps R (refs.react K act x o near)

module _ {N : Type 0} (R : Vat N → Vat N → Type 0) (law : IsKept R) where
  pub widen : {A : Type 0} {s t : Vat N} → R s t → (d : Done N A) → After R t d → After R s d
  widen r (Gives a u) h = law.trans r h
  widen r other h = law.trans r h

  bind_after : {A B : Type 0} (s : Vat N) (d : Done N A) (f : A → Act N B) → After R s d → ((a : A) → Keeps R (f a)) → After R s (and_then d f)
  unfolding and_then
  bind_after s (Gives a t) f h k = widen h (f a t) ((k a).after t)
  bind_after s other f h k = h

  pub keeps_bind : {A B : Type 0} {m : Act N A} {f : A → Act N B} → Keeps R m → ((a : A) → Keeps R (f a)) → Keeps R (m >>= f)
  unfolding ◌>>=◌
  keeps_bind {m = m} {f = f} h k = record { after = λ s. bind_after s (m s) f (h.after s) k }

  pub keeps_then : {A B : Type 0} {m : Act N A} {n : Act N B} → Keeps R m → Keeps R n → Keeps R (m >> n)
  unfolding ◌>>◌
  keeps_then {m = m} {n = n} h k = record { after = λ s. bind_after s (m s) (λ _. n) (h.after s) (λ _. k) }

  end_after : {A B : Type 0} (f : A → Act N B) (g : Words → Act N B) (h : ℕ → Value N → Act N B) (s : Vat N) (d : Done N A) → After R s d
      → ((a : A) → Keeps R (f a)) → ((p : Words) → Keeps R (g p)) → ((n : ℕ) (v : Value N) → Keeps R (h n v)) → After R s (end_by f g h d)
  unfolding end_by
  end_after f g h s (Gives a t) r i j k = widen r (f a t) ((i a).after t)
  end_after f g h s (Throws p t) r i j k = widen r (g p t) ((j p).after t)
  end_after f g h s (Ejects n v t) r i j k = widen r (h n v t) ((k n v).after t)
  end_after f g h s (Stops c t) r i j k = r

  pub keeps_ending : {A B : Type 0} {f : A → Act N B} {g : Words → Act N B} {h : ℕ → Value N → Act N B} {m : Act N A}
      → ((a : A) → Keeps R (f a)) → ((p : Words) → Keeps R (g p)) → ((n : ℕ) (v : Value N) → Keeps R (h n v)) → Keeps R m → Keeps R (ending f g h m)
  unfolding ending
  keeps_ending {f = f} {g = g} {h = h} {m = m} i j k r = record { after = λ s. end_after f g h s (m s) (r.after s) i j k }

  pub keeps_if : {A : Type 0} (b : Bool) {m n : Act N A} → Keeps R m → Keeps R n → Keeps R (if b then m else n)
  keeps_if true h k = h
  keeps_if false h k = k

  pub keeps_give : {A : Type 0} (a : A) → Keeps R (give a)
  unfolding give
  keeps_give a = record { after = law.same }

  pub keeps_throw : {A : Type 0} (p : Words) → Keeps R (throw {A = A} p)
  unfolding throw
  keeps_throw p = record { after = law.same }

  pub keeps_eject : {A : Type 0} (n : ℕ) (v : Value N) → Keeps R (eject {A = A} n v)
  unfolding eject
  keeps_eject n v = record { after = law.same }

  pub keeps_stop : {A : Type 0} (c : Stop) → Keeps R (stop {A = A} c)
  unfolding stop
  keeps_stop c = record { after = law.same }

  pub keeps_look : {A : Type 0} (f : Vat N → A) → Keeps R (look f)
  unfolding look
  keeps_look f = record { after = law.same }

  pub keeps_tell : (e : Happened N) → Keeps R (tell e)
  unfolding tell
  keeps_tell e = record { after = λ s. law.happened s e }

  spend_after : (s : Vat N) (n : ℕ) (b : Bool) → After R s (spent n b s)
  unfolding spent
  spend_after s n true = law.fuel s n
  spend_after s n false = law.same s

  pub keeps_spend : (n : ℕ) → Keeps R (spend n)
  unfolding spend
  keeps_spend n = record { after = λ s. spend_after s n (nat_le n s.fuel) }

  pub keeps_activation : Keeps R new_activation
  unfolding new_activation
  keeps_activation = record { after = law.activations }

  pub keeps_thing : (t : Thing N) → Keeps R (new_thing t)
  unfolding new_thing
  keeps_thing t = record { after = λ s. law.thing s t }

  pub keeps_kill : (n : ℕ) → Keeps R (kill n)
  unfolding kill
  keeps_kill n = record { after = λ s. law.killed s n }

  pub keeps_slot : (g v : Value N) → Keeps R (new_slot g v)
  unfolding new_slot
  keeps_slot g v = record { after = λ s. law.slot s _ }

  pub keeps_write : (n : ℕ) (v : Value N) → Keeps R (write_slot n v)
  unfolding write_slot
  keeps_write n v = record { after = λ s. law.written s n v }

  pub keeps_list : (vs : List (Value N)) → Keeps R (new_list vs)
  unfolding new_list
  keeps_list vs = record { after = λ s. law.list s vs }

  pub keeps_closed : IsClosed (KeepsBy R)
  keeps_closed = record { gives = keeps_give; stops = keeps_stop; looks = keeps_look; binds = keeps_bind }

  pub keeps_ends : IsEnding (KeepsBy R)
  keeps_ends = record { throws = keeps_throw; ejects = keeps_eject; ends = keeps_ending }

  pub keeps_singles : TurnSingles (KeepsBy R)
  keeps_singles = record { tells = λ e h. keeps_tell e; spends = keeps_spend; activates = keeps_activation; makes = keeps_thing; kills = keeps_kill; slots = keeps_slot; writes = keeps_write; lists = keeps_list }

module _ {N W : Type 0} (K : Naming N W) (R : Vat N → Vat N → Type 0) (law : IsKeptUnder K R) where
  pub keeps_promise : Keeps R (new_promise K)
  unfolding new_promise
  keeps_promise = record { after = law.promised }
