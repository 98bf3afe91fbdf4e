-- How what a vat does leads from state to state by one relation where it goes on, and by another where it stops: proved once for any two.
use Rattle.std.proofs.Common.{ℕ, suc, ◌-◌, Bool, true, false, List, [], ◌∷◌, ◌++◌, if◌then◌else◌, length}
use Rattle.law_machine.proofs.Machine.Walks.{Property, Holds, IsClosed, IsEnding, InEval, InEvalUnder}
use Rattle.law_machine.proofs.Machine.EvalWalk.{eval_walk}
use Rattle.law_machine.proofs.Machine.Blocks.{TurnSingles, turn_eval, turn_eval_under, resolves_always}
use Rattle.def_kernel.specs.declared.node.Node.{Node}
use Rattle.std.specs.Prelude.{nat_le}
use Rattle.law_machine.specs.Machine.Steps.{After}
use Rattle.law_machine.proofs.Machine.Keeps.{Keeps}
use Rattle.law_fate.proofs.Fates.Spares.{TellsOfNone, IsSpared, IsSparedUnder}
use Rattle.def_machine.specs.Values.{Words, Value, Broken, Naming, IsOwn}
use Rattle.def_machine.specs.State.{Thing, Cell, Happened, Vat, Stop, Done, Gives, Throws, Ejects, Stops, Act, ◌>>=◌, ◌>>◌, and_then, end_by, ending, give, throw, stop, eject, look, tell, spend, spent, new_activation, new_thing, kill, change, dead, new_slot, holding, write_slot, new_list, new_promise, begun}
use Rattle.def_machine.specs.Refs.{settle, resolve, send, react, send_only}

-- by R where it goes on, by Q where it stops
abbrev pub Ends : {N A : Type 0} → (Vat N → Vat N → Type 0) → (Vat N → Vat N → Type 0) → Vat N → Done N A → Type 0
Ends Q R s (Gives a t) = R s t
Ends Q R s (Throws p t) = R s t
Ends Q R s (Ejects n v t) = R s t
Ends Q R s (Stops c t) = Q s t

abbrev pub LeadsBy : {N : Type 0} → (Vat N → Vat N → Type 0) → (Vat N → Vat N → Type 0) → Property N
LeadsBy {N} Q R A m = (s : Vat N) → Ends Q R s (m s)

abbrev pub Leads : {N A : Type 0} → (Vat N → Vat N → Type 0) → (Vat N → Vat N → Type 0) → Act N A → Type 0
Leads Q R m = Holds (LeadsBy Q R) m

-- what is to be shown of the two: of no change, of two in a row, and of each change that touches no message
pub record IsLed {N : Type 0} (Q R : Vat N → Vat N → Type 0) : Type 0 where
  pub same : (s : Vat N) → R s s
  pub trans : {s t u : Vat N} → R s t → R t u → R s u
  pub stops : (s : Vat N) → Q s s
  pub stopped : {s t u : Vat N} → R s t → Q t u → Q s u
  pub fuel : (s : Vat N) (n : ℕ) → R s (record s { fuel = s.fuel - n })
  pub told : (s : Vat N) (e : Happened N) → TellsOfNone e → R s (record s { happened = s.happened ++ e ∷ [] })
  pub activations : (s : Vat N) → R s (record s { activations = suc s.activations })
  pub thing : (s : Vat N) (t : Thing N) → R s (record s { things = s.things ++ t ∷ [] })
  pub killed : (s : Vat N) (n : ℕ) → R s (record s { things = change dead n s.things })
  pub slot : (s : Vat N) (c : Cell N) → R s (record s { slots = s.slots ++ c ∷ [] })
  pub written : (s : Vat N) (n : ℕ) (v : Value N) → R s (record s { slots = change (holding v) n s.slots })
  pub list : (s : Vat N) (vs : List (Value N)) → R s (record s { lists = s.lists ++ vs ∷ [] })

-- and of a new promise, and of what is done with references
pub record IsLedUnder {N W : Type 0} (K : Naming N W) (Q R : Vat N → Vat N → Type 0) : Type 0 where
  pub promised : (s : Vat N) → R s (record s { promises = suc s.promises; known = s.known ++ begun (K.made (IsOwn s.promises) (length s.known)) s.number ∷ [] })
  pub breaks : (p : N) (t : Words) → Leads Q R (settle K p (Broken t))
  pub resolves : (p : N) (y : Value N) → Leads Q R (resolve K p y)
  pub sends : (act : ℕ) (x : Value N) (verb : Words) (args : List (Value N)) → Leads Q R (send K act x verb args)
  pub sends_only : (act : ℕ) (x : Value N) (verb : Words) (args : List (Value N)) → Leads Q R (send_only K act x verb args)
  pub reacts : (act : ℕ) (x o near : Value N) → Leads Q R (react K act x o near)

module _ {N : Type 0} (Q R : Vat N → Vat N → Type 0) (law : IsLed Q R) where
  pub widen : {A : Type 0} {s t : Vat N} → R s t → (d : Done N A) → Ends Q R t d → Ends Q R s d
  widen r (Stops c u) h = law.stopped r h
  widen r other h = law.trans r h

  bind_after : {A B : Type 0} (s : Vat N) (d : Done N A) (f : A → Act N B) → Ends Q R s d → ((a : A) → Leads Q R (f a)) → Ends Q R s (and_then d f)
  unfolding and_then
  bind_after s (Gives a t) f h k = widen h (f a t) ((k a).after t)
  bind_after s other f h k = h

  pub leads_bind : {A B : Type 0} {m : Act N A} {f : A → Act N B} → Leads Q R m → ((a : A) → Leads Q R (f a)) → Leads Q R (m >>= f)
  unfolding ◌>>=◌
  leads_bind {m = m} {f = f} h k = record { after = λ s. bind_after s (m s) f (h.after s) k }

  pub leads_then : {A B : Type 0} {m : Act N A} {n : Act N B} → Leads Q R m → Leads Q R n → Leads Q R (m >> n)
  unfolding ◌>>◌
  leads_then {m = m} {n = n} h k = record { after = λ s. bind_after s (m s) (λ _. n) (h.after s) (λ _. k) }

  end_after : {A B : Type 0} (f : A → Act N B) (g : Words → Act N B) (h : ℕ → Value N → Act N B) (s : Vat N) (d : Done N A) → Ends Q R s d
      → ((a : A) → Leads Q R (f a)) → ((p : Words) → Leads Q R (g p)) → ((n : ℕ) (v : Value N) → Leads Q R (h n v)) → Ends Q R s (end_by f g h d)
  unfolding end_by
  end_after f g h s (Gives a t) r i j k = widen r (f a t) ((i a).after t)
  end_after f g h s (Throws p t) r i j k = widen r (g p t) ((j p).after t)
  end_after f g h s (Ejects n v t) r i j k = widen r (h n v t) ((k n v).after t)
  end_after f g h s (Stops c t) r i j k = r

  pub leads_ending : {A B : Type 0} {f : A → Act N B} {g : Words → Act N B} {h : ℕ → Value N → Act N B} {m : Act N A}
      → ((a : A) → Leads Q R (f a)) → ((p : Words) → Leads Q R (g p)) → ((n : ℕ) (v : Value N) → Leads Q R (h n v)) → Leads Q R m → Leads Q R (ending f g h m)
  unfolding ending
  leads_ending {f = f} {g = g} {h = h} {m = m} i j k r = record { after = λ s. end_after f g h s (m s) (r.after s) i j k }

  pub leads_if : {A : Type 0} (b : Bool) {m n : Act N A} → Leads Q R m → Leads Q R n → Leads Q R (if b then m else n)
  leads_if true h k = h
  leads_if false h k = k

  pub leads_give : {A : Type 0} (a : A) → Leads Q R (give a)
  unfolding give
  leads_give a = record { after = law.same }

  pub leads_throw : {A : Type 0} (p : Words) → Leads Q R (throw {A = A} p)
  unfolding throw
  leads_throw p = record { after = law.same }

  pub leads_eject : {A : Type 0} (n : ℕ) (v : Value N) → Leads Q R (eject {A = A} n v)
  unfolding eject
  leads_eject n v = record { after = law.same }

  pub leads_stop : {A : Type 0} (c : Stop) → Leads Q R (stop {A = A} c)
  unfolding stop
  leads_stop c = record { after = law.stops }

  pub leads_look : {A : Type 0} (f : Vat N → A) → Leads Q R (look f)
  unfolding look
  leads_look f = record { after = law.same }

  leads_tell : (e : Happened N) → TellsOfNone e → Leads Q R (tell e)
  unfolding tell
  leads_tell e h = record { after = λ s. law.told s e h }

  spend_after : (s : Vat N) (n : ℕ) (b : Bool) → Ends Q R s (spent n b s)
  unfolding spent
  spend_after s n true = law.fuel s n
  spend_after s n false = law.stops s

  pub leads_spend : (n : ℕ) → Leads Q R (spend n)
  unfolding spend
  leads_spend n = record { after = λ s. spend_after s n (nat_le n s.fuel) }

  pub leads_activation : Leads Q R new_activation
  unfolding new_activation
  leads_activation = record { after = law.activations }

  pub leads_thing : (t : Thing N) → Leads Q R (new_thing t)
  unfolding new_thing
  leads_thing t = record { after = λ s. law.thing s t }

  pub leads_kill : (n : ℕ) → Leads Q R (kill n)
  unfolding kill
  leads_kill n = record { after = λ s. law.killed s n }

  pub leads_slot : (g v : Value N) → Leads Q R (new_slot g v)
  unfolding new_slot
  leads_slot g v = record { after = λ s. law.slot s _ }

  pub leads_write : (n : ℕ) (v : Value N) → Leads Q R (write_slot n v)
  unfolding write_slot
  leads_write n v = record { after = λ s. law.written s n v }

  pub leads_list : (vs : List (Value N)) → Leads Q R (new_list vs)
  unfolding new_list
  leads_list vs = record { after = λ s. law.list s vs }

module _ {N : Type 0} (Q R : Vat N → Vat N → Type 0) (law : IsLed Q R) where
  pub leads_closed : IsClosed (LeadsBy Q R)
  leads_closed = record { gives = leads_give Q R law; stops = leads_stop Q R law; looks = leads_look Q R law; binds = leads_bind Q R law }

  pub leads_ends : IsEnding (LeadsBy Q R)
  leads_ends = record { throws = leads_throw Q R law; ejects = leads_eject Q R law; ends = leads_ending Q R law }

  pub leads_singles : TurnSingles (LeadsBy Q R)
  leads_singles = record {
    tells = λ e h. leads_tell Q R law e h;
    spends = leads_spend Q R law;
    activates = leads_activation Q R law;
    makes = leads_thing Q R law;
    kills = leads_kill Q R law;
    slots = leads_slot Q R law;
    writes = leads_write Q R law;
    lists = leads_list Q R law;
  }

  pub leads_in_eval : InEval (LeadsBy Q R)
  leads_in_eval = turn_eval (LeadsBy Q R) leads_closed leads_ends leads_singles

  module _ {W : Type 0} (K : Naming N W) where
    pub makes_promise : ((s : Vat N) → R s (record s { promises = suc s.promises; known = s.known ++ begun (K.made (IsOwn s.promises) (length s.known)) s.number ∷ [] })) → Leads Q R (new_promise K)
    unfolding new_promise
    makes_promise h = record { after = h }

    pub leads_in_eval_under : (tree : List Node) → IsLedUnder K Q R → InEvalUnder (LeadsBy Q R) K tree
    leads_in_eval_under tree under = turn_eval_under (LeadsBy Q R) leads_closed leads_ends leads_singles K tree
        (record { promises = makes_promise under.promised; breaks = under.breaks; sends = under.sends; sends_only = under.sends_only; reacts = under.reacts }) (λ p y. resolves_always (LeadsBy Q R) leads_closed leads_ends K tree p y (under.resolves p y))

pub ruleset leads = (eval_walk, leads_closed, leads_ends, leads_in_eval)

ends_whole : {N A : Type 0} (R : Vat N → Vat N → Type 0) (s : Vat N) (d : Done N A) → After R s d → Ends R R s d
ends_whole R s (Gives a t) k = k
ends_whole R s other k = k

whole_ends : {N A : Type 0} (R : Vat N → Vat N → Type 0) (s : Vat N) (d : Done N A) → Ends R R s d → After R s d
whole_ends R s (Gives a t) k = k
whole_ends R s other k = k

-- one relation, however it ends
pub by_all : {N A : Type 0} (R : Vat N → Vat N → Type 0) (m : Act N A) → Keeps R m → Leads R R m
by_all R m h = record { after = λ s. ends_whole R s (m s) (h.after s) }

pub all_by : {N A : Type 0} (R : Vat N → Vat N → Type 0) (m : Act N A) → Leads R R m → Keeps R m
all_by R m h = record { after = λ s. whole_ends R s (m s) (h.after s) }

pub led_by_all : {N : Type 0} (R : Vat N → Vat N → Type 0) → IsSpared R → IsLed R R
led_by_all R law = record {
  same = law.same;
  trans = law.trans;
  stops = law.same;
  stopped = law.trans;
  fuel = law.fuel;
  told = law.told;
  activations = law.activations;
  thing = law.thing;
  killed = law.killed;
  slot = law.slot;
  written = law.written;
  list = law.list;
}

pub led_under_by_all : {N W : Type 0} (K : Naming N W) (R : Vat N → Vat N → Type 0) → IsSparedUnder K R → IsLedUnder K R R
led_under_by_all K R law = record {
  promised = law.promised;
  breaks = λ p t. by_all R (settle K p (Broken t)) (law.settles p (Broken t));
  resolves = λ p y. by_all R (resolve K p y) (law.resolves p y);
  sends = λ act x verb args. by_all R (send K act x verb args) (law.sends act x verb args);
  sends_only = λ act x verb args. by_all R (send_only K act x verb args) (law.sends_only act x verb args);
  reacts = λ act x o near. by_all R (react K act x o near) (law.reacts act x o near);
}
