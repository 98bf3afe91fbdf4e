-- What a notice does, where every name that settles settles to a broken reference: what each such change keeps, all of it keeps.
use Rattle.std.proofs.Common.{ℕ, zero, suc, ◌-◌, Bool, true, false, List, [], ◌∷◌, ◌++◌, Option, Some, None, if◌then◌else◌, length}
use Rattle.std.specs.Prelude.{nat_le}
use Rattle.def_machine.specs.Values.{Words, Value, Broken, Naming, Coming}
use Rattle.def_machine.specs.State.{Message, Happened, Note, Put, Standing, Viewed, Settled, Known, Hold, Wait, WaitOn, ToTell, Settle, Passed, Passeds, Plain, AGift, Many, NoMore, More, GiftEntry, Vat, Stop, Done, Gives, Act, ◌>>=◌, ◌>>◌, and_then, each, give, stop, look, tell, spend, spent, enqueue, send_out, draws, draw, with_change, alter, come, begun, for_some}
use Rattle.def_machine.specs.Refs as refs
use Rattle.def_machine.specs.Refs.{Place, Mine, Away, entry_of}
use Rattle.def_machine.specs.Arrive as arrive
use Rattle.law_machine.specs.Machine.Steps.{After}
use Rattle.law_machine.proofs.Machine.Keeps.{Keeps}

pub record IsKeptBreaking {N W : Type 0} (K : Naming N W) (R : Vat N → Vat N → Type 0) : Type 0 where
  pub same : (s : Vat N) → R s s
  pub trans : {s t u : Vat N} → R s t → R t u → R s u
  pub fuel : (s : Vat N) (n : ℕ) → R s (record s { fuel = s.fuel - n })
  pub happened : (s : Vat N) (e : Happened N) → R s (record s { happened = s.happened ++ e ∷ [] })
  pub queue : (s : Vat N) (m : Message N) → R s (record s { queue = s.queue ++ m ∷ [] })
  pub outbox : (s : Vat N) (n : Put N) → R s (record s { outbox = s.outbox ++ n ∷ [] })
  pub drawn : (s : Vat N) (w : ℕ) → R s (record s { drawn = s.drawn ++ w ∷ [] })
  pub came : (s : Vat N) (c : Coming N W) (h : ℕ) → R s (record s { known = s.known ++ begun (K.made c (length s.known)) h ∷ [] })
  pub hold : (s : Vat N) (m : Message N) (n : N) → R s (record s { known = with_change K (Hold m) n s.known })
  pub wait : (s : Vat N) (q n : N) → R s (record s { known = with_change K (Wait q) n s.known })
  pub wait_on : (s : Vat N) (q n : N) → R s (record s { known = with_change K (WaitOn q) n s.known })
  pub to_tell : (s : Vat N) (w : ℕ) (n : N) → R s (record s { known = with_change K (ToTell w) n s.known })
  pub broken : (s : Vat N) (p : Words) (n : N) → R s (record s { known = with_change K (Settle (Broken p)) n s.known })

module _ {N W : Type 0} (K : Naming N W) (R : Vat N → Vat N → Type 0) (law : IsKeptBreaking K R) where
  widen_breaking : {A : Type 0} {s t : Vat N} → R s t → (d : Done N A) → After R t d → After R s d
  widen_breaking r (Gives a u) h = law.trans r h
  widen_breaking r other h = law.trans r h

  bind_breaking : {A B : Type 0} (s : Vat N) (d : Done N A) (f : A → Act N B) → After R s d → ((a : A) → Keeps R (f a)) → After R s (and_then d f)
  unfolding and_then
  bind_breaking s (Gives a t) f h k = widen_breaking h (f a t) ((k a).after t)
  bind_breaking s other f h k = h

  pub breaking_bind : {A B : Type 0} {m : Act N A} {f : A → Act N B} → Keeps R m → ((a : A) → Keeps R (f a)) → Keeps R (m >>= f)
  unfolding ◌>>=◌
  breaking_bind {m = m} {f = f} h k = record { after = λ s. bind_breaking s (m s) f (h.after s) k }

  pub breaking_then : {A B : Type 0} {m : Act N A} {n : Act N B} → Keeps R m → Keeps R n → Keeps R (m >> n)
  unfolding ◌>>◌
  breaking_then {m = m} {n = n} h k = record { after = λ s. bind_breaking s (m s) (λ _. n) (h.after s) (λ _. k) }

  pub breaking_if : {A : Type 0} (b : Bool) {m n : Act N A} → Keeps R m → Keeps R n → Keeps R (if b then m else n)
  breaking_if true h k = h
  breaking_if false h k = k

  pub breaking_some : {A B : Type 0} (o : Option A) {f : A → Act N B} {m : Act N B} → ((a : A) → Keeps R (f a)) → Keeps R m → Keeps R (for_some o f m)
  unfolding for_some
  breaking_some (Some a) h k = h a
  breaking_some None h k = k

  pub breaking_give : {A : Type 0} (a : A) → Keeps R (give a)
  unfolding give
  breaking_give a = record { after = law.same }

  pub breaking_stop : {A : Type 0} (c : Stop) → Keeps R (stop {A = A} c)
  unfolding stop
  breaking_stop c = record { after = law.same }

  pub breaking_look : {A : Type 0} (f : Vat N → A) → Keeps R (look f)
  unfolding look
  breaking_look f = record { after = law.same }

  pub breaking_tell : (e : Happened N) → Keeps R (tell e)
  unfolding tell
  breaking_tell e = record { after = λ s. law.happened s e }

  spend_breaking : (s : Vat N) (n : ℕ) (b : Bool) → After R s (spent n b s)
  unfolding spent
  spend_breaking s n true = law.fuel s n
  spend_breaking s n false = law.same s

  pub breaking_spend : (n : ℕ) → Keeps R (spend n)
  unfolding spend
  breaking_spend n = record { after = λ s. spend_breaking s n (nat_le n s.fuel) }

  pub breaking_enqueue : (m : Message N) → Keeps R (enqueue m)
  unfolding enqueue
  breaking_enqueue m = record { after = λ s. law.queue s m }

  pub breaking_out : (to : ℕ) (n : Note N) → Keeps R (send_out to n)
  unfolding send_out
  breaking_out to n = record { after = λ s. law.outbox s _ }

  pub breaking_each : {A : Type 0} {f : A → Act N (Unit {0})} (xs : List A) → ((x : A) → Keeps R (f x)) → Keeps R (each f xs)
  unfolding each
  breaking_each [] h = breaking_give tt
  breaking_each (x ∷ xs) h = breaking_then (h x) (breaking_each xs h)

  draws_breaking : (s : Vat N) (w : ℕ) (o : Option ℕ) → After R s (draws w o s)
  unfolding draws
  draws_breaking s w (Some i) = law.same s
  draws_breaking s w None = law.drawn s w

  pub breaking_draw : Keeps R (draw K)
  unfolding draw
  breaking_draw = record { after = λ s. draws_breaking s _ _ }

  pub breaking_come : (c : Coming N W) (h : ℕ) → Keeps R (come K c h)
  unfolding come
  breaking_come c h = record { after = λ s. law.came s c h }

  pub breaking_hold : (m : Message N) (n : N) → Keeps R (alter K (Hold m) n)
  unfolding alter
  breaking_hold m n = record { after = λ s. law.hold s m n }

  pub breaking_wait : (q n : N) → Keeps R (alter K (Wait q) n)
  unfolding alter
  breaking_wait q n = record { after = λ s. law.wait s q n }

  pub breaking_wait_on : (q n : N) → Keeps R (alter K (WaitOn q) n)
  unfolding alter
  breaking_wait_on q n = record { after = λ s. law.wait_on s q n }

  pub breaking_to_tell : (w : ℕ) (n : N) → Keeps R (alter K (ToTell w) n)
  unfolding alter
  breaking_to_tell w n = record { after = λ s. law.to_tell s w n }

  pub breaking_settle : (p : Words) (n : N) → Keeps R (alter K (Settle (Broken p)) n)
  unfolding alter
  breaking_settle p n = record { after = λ s. law.broken s p n }

pub ruleset breaking = (breaking_bind, breaking_then, breaking_if, breaking_some, breaking_give, breaking_stop, breaking_look, breaking_tell, breaking_spend, breaking_enqueue, breaking_out, breaking_each, breaking_draw, breaking_come, breaking_hold, breaking_wait, breaking_wait_on, breaking_to_tell, breaking_settle)

-- it settles names to broken references so that R is kept
abbrev pub Breaker : {N : Type 0} → (Vat N → Vat N → Type 0) → (N → Value N → Act N (Unit {0})) → Type 0
Breaker {N} R settle = (p : N) (x : Words) → Keeps R (settle p (Broken x))

module _ {N W : Type 0} (K : Naming N W) (R : Vat N → Vat N → Type 0) (law : IsKeptBreaking K R) where
  breaks_address_plain : (w : ℕ) (y : Value N) (p : Place N) → Keeps R (refs.address_plain K w y p)
  unfolding refs.address_plain
  breaks_address_plain w y (Away h n o) = search (breaking) depth 14
  breaks_address_plain w y (Mine n) = search (breaking) depth 14
  breaks_address_plain w y _ = search (breaking) depth 14

  mutual
    unfolding refs.address refs.address_all

    breaks_address : (w : ℕ) (y : Passed N) → Keeps R (refs.address K w y)
    breaks_address w (Plain y) = search (breaking, breaks_address_plain) depth 14
    breaks_address w (AGift h i) = search breaking
    breaks_address w (Many ys) = let rest = breaks_address_all w ys in search breaking

    breaks_address_all : (w : ℕ) (ys : Passeds N) → Keeps R (refs.address_all K w ys)
    breaks_address_all w NoMore = search breaking
    breaks_address_all w (More y ys) = let one = breaks_address w y in let rest = breaks_address_all w ys in search breaking

  breaks_pass : (w : ℕ) (x : Value N) → Keeps R (refs.pass K w x)
  unfolding refs.pass
  breaks_pass w x = search (breaking, breaks_address) depth 14

  breaks_pass_all : (w : ℕ) (xs : List (Value N)) → Keeps R (refs.pass_all K w xs)
  unfolding refs.pass_all
  breaks_pass_all w [] = search breaking
  breaks_pass_all w (x ∷ xs) = let rest = breaks_pass_all w xs in search (breaking, breaks_pass) depth 14

  breaks_deliver : (m : Message N) (h : ℕ) (n : N) → Keeps R (refs.deliver K m h n)
  unfolding refs.deliver
  breaks_deliver m h n = search (breaking, breaks_pass_all) depth 14

  breaks_wait_on : (p q : N) → Keeps R (refs.wait_on K p q)
  unfolding refs.wait_on
  breaks_wait_on p q = search (breaking) depth 14

  breaks_pass_on : (m : Message N) (h : ℕ) (n : N) → Keeps R (refs.pass_on K m h n)
  unfolding refs.pass_on
  breaks_pass_on m h n = search (breaking, breaks_deliver, breaks_wait_on) depth 14

  breaks_send_to : (settle : N → Value N → Act N (Unit {0})) → Breaker R settle → (m : Message N) (y : Value N) (p : Place N) → Keeps R (refs.send_to K settle m y p)
  unfolding refs.send_to
  breaks_send_to settle h1 m y (Away h n o) = search (breaking, breaks_pass_on) depth 14
  breaks_send_to settle h1 m y other = search (breaking) depth 14

  breaks_send_on : (settle : N → Value N → Act N (Unit {0})) → Breaker R settle → (m : Message N) → Keeps R (refs.send_on K settle m)
  unfolding refs.send_on
  breaks_send_on settle h1 m = search (breaking, breaks_send_to) depth 14

  breaks_inform_of : (p : N) (w : ℕ) (y : Value N) (q : Place N) → Keeps R (refs.inform_of K p w y q)
  unfolding refs.inform_of
  breaks_inform_of p w y (Away h n true) = search (breaking) depth 14
  breaks_inform_of p w y _ = search (breaking, breaks_pass) depth 14

  breaks_inform : (p : N) (w : ℕ) → Keeps R (refs.inform K p w)
  unfolding refs.inform
  breaks_inform p w = search (breaking, breaks_inform_of) depth 14

  breaks_settle_known : (settle : N → Value N → Act N (Unit {0})) → Breaker R settle → (p : N) (x : Words) (k : Known N) → Keeps R (refs.settle_known K settle p (Broken x) k)
  unfolding refs.settle_known
  breaks_settle_known settle h1 p x k = search (breaking, breaks_send_on, breaks_inform) depth 14

  breaks_settle_standing : (settle : N → Value N → Act N (Unit {0})) → Breaker R settle → (p : N) (x : Words) (k : Known N) (t : Standing N) → Keeps R (refs.settle_standing K settle p (Broken x) k t)
  unfolding refs.settle_standing
  breaks_settle_standing settle h1 p x k (Settled z) = search (breaking) depth 14
  breaks_settle_standing settle h1 p x k _ = search (breaking, breaks_settle_known) depth 14

  breaks_settle_entry : (settle : N → Value N → Act N (Unit {0})) → Breaker R settle → (p : N) (x : Words) (o : Option (Known N)) → Keeps R (refs.settle_entry K settle p (Broken x) o)
  unfolding refs.settle_entry
  breaks_settle_entry settle h1 p x None = search (breaking) depth 14
  breaks_settle_entry settle h1 p x (Some k) = search (breaking, breaks_settle_standing) depth 14

  -- a broken reference settles as it is
  breaks_settle_one : (settle : N → Value N → Act N (Unit {0})) → Breaker R settle → (p : N) (x : Words) → Keeps R (refs.settle_one K settle p (Broken x))
  unfolding refs.settle_one refs.target_of ◌>>=◌ look and_then
  breaks_settle_one settle h1 p x = record { after = λ s. (breaks_settle_entry settle h1 p x (entry_of K s.known p)).after s }

  breaks_settle_at : (d : ℕ) (p : N) (x : Words) → Keeps R (refs.settle_at K d p (Broken x))
  unfolding refs.settle_at
  breaks_settle_at zero p x = search breaking
  breaks_settle_at (suc d) p x = breaks_settle_one (λ q z. refs.settle_at K d q z) (λ q z. breaks_settle_at d q z) p x

  pub breaks_settle : (p : N) (x : Words) → Keeps R (refs.settle K p (Broken x))
  unfolding refs.settle
  breaks_settle p x = search (breaking, breaks_settle_at) depth 14

  breaks_break_at : (n : N) (p : Words) (t : Standing N) → Keeps R (arrive.break_at K n p t)
  unfolding arrive.break_at
  breaks_break_at n p (Settled y) = search (breaking) depth 14
  breaks_break_at n p _ = search (breaking, breaks_settle) depth 14

  breaks_break_unopened : (n : N) (b : Bool) → Keeps R (arrive.break_unopened K n b)
  unfolding arrive.break_unopened
  breaks_break_unopened n true = search (breaking) depth 14
  breaks_break_unopened n false = search (breaking, breaks_break_at) depth 14

  breaks_break_hosted : (w : ℕ) (n : N) (p : Words) (t : Standing N) → Keeps R (arrive.break_hosted K w n p t)
  unfolding arrive.break_hosted
  breaks_break_hosted w n p (Viewed q) = search (breaking) depth 14
  breaks_break_hosted w n p (Settled y) = search (breaking) depth 14
  breaks_break_hosted w n p other = search (breaking, breaks_settle) depth 14

  pub breaks_notice_name : (w : ℕ) (k : Known N) → Keeps R (arrive.notice_name K w k)
  unfolding arrive.notice_name
  breaks_notice_name w k = search (breaking, breaks_break_hosted) depth 14

  pub breaks_notice_gift : (w : ℕ) (g : GiftEntry N) → Keeps R (arrive.notice_gift K w g)
  unfolding arrive.notice_gift
  breaks_notice_gift w g = search (breaking, breaks_break_unopened) depth 14
