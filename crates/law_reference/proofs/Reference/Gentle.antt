-- How what a vat does leads from a state to the state that it gives, where it neither throws nor leaves by an ejector.
use Rattle.std.proofs.Common.{ℕ, suc, ◌-◌, Bool, true, false, List, [], ◌∷◌, ◌++◌, Option, Some, None, if◌then◌else◌, length}
use Rattle.std.specs.Prelude.{nat_le}
use Rattle.def_machine.specs.Values.{Value, Naming, Coming, Mailing, IsOwn, IsAnswer}
use Rattle.def_machine.specs.State.{Sends, Reacts, Message, Happened, Vat, Stop, Done, Gives, Stops, Act, ◌>>=◌, ◌>>◌, and_then, each, for_some, give, stop, look, tell, spend, spent, new_list, enqueue, Change, Hold, Wait, WaitOn, React, ToTell, Note, Put, GiftEntry, send_out, new_gift, with_opened, open_gift, draws, with_change, alter, come, mail, new_promise, new_message, draw, begun, new_lone_message}
use Rattle.law_machine.specs.Machine.Steps.{IsQuiet, After}
use Rattle.law_machine.proofs.Machine.Walks.{Property, Holds, IsClosed, IsMild, InRefs, InRefsUnder, InSending}
use Rattle.law_machine.proofs.Machine.Quiet.{Quiet}
use Rattle.law_fate.specs.Name.Names.{AllOf}
use Rattle.law_fate.proofs.Fates.Leads.{Leads, Ends}
use Rattle.law_reference.proofs.Reference.Entries.{Mild, mild_hold, mild_wait, mild_wait_on, mild_react, mild_to_tell}

-- by R where it gives
abbrev pub GivesBy : {N A : Type 0} → (Vat N → Vat N → Type 0) → Vat N → Done N A → Type 0
GivesBy R s (Gives a t) = R s t
GivesBy R s other = Unit {0}

-- of the state that it gives
abbrev pub AfterGives : {N A : Type 0} → (Vat N → Type 0) → Done N A → Type 0
AfterGives P (Gives a t) = P t
AfterGives P other = Unit {0}

abbrev pub GentleBy : {N : Type 0} → (Vat N → Vat N → Type 0) → Property N
GentleBy {N} R A m = (s : Vat N) → GivesBy R s (m s)

abbrev pub Gentle : {N A : Type 0} → (Vat N → Vat N → Type 0) → Act N A → Type 0
Gentle R m = Holds (GentleBy R) m

-- what is to be shown of the relation: of no change, of two in a row, and of each change, where what is known changes so
pub record GoesBy {N W : Type 0} (K : Naming N W) (Can : Change N → Type 0) (R : Vat N → Vat N → Type 0) : Type 0 where
  pub same : (s : Vat N) → R s s
  pub trans : {s t u : Vat N} → R s t → R t u → R s u
  pub fuel : (s : Vat N) (n : ℕ) → R s (record s { fuel = s.fuel - n })
  pub happened : (s : Vat N) (e : Happened N) → R s (record s { happened = s.happened ++ e ∷ [] })
  pub list : (s : Vat N) (vs : List (Value N)) → R s (record s { lists = s.lists ++ vs ∷ [] })
  pub queue : (s : Vat N) (m : Message N) → R s (record s { queue = s.queue ++ m ∷ [] })
  pub outbox : (s : Vat N) (n : Put N) → R s (record s { outbox = s.outbox ++ n ∷ [] })
  pub gift : (s : Vat N) (g : GiftEntry N) → R s (record s { gifts = s.gifts ++ g ∷ [] })
  pub opened : (s : Vat N) (p i : ℕ) → R s (record s { gifts = with_opened p i s.gifts })
  pub drawn : (s : Vat N) (w : ℕ) → R s (record s { drawn = s.drawn ++ w ∷ [] })
  pub altered : (s : Vat N) (c : Change N) (n : N) → Can c → R s (record s { known = with_change K c n s.known })
  pub came : (s : Vat N) (c : Coming N W) (h : ℕ) → R s (record s { known = s.known ++ begun (K.made c (length s.known)) h ∷ [] })
  pub mailed : (s : Vat N) (c : Mailing W) → R s (record s { mails = s.mails ++ K.mailed c (length s.mails) ∷ [] })
  pub promised : (s : Vat N) → R s (record s { promises = suc s.promises; known = s.known ++ begun (K.made (IsOwn s.promises) (length s.known)) s.number ∷ [] })
  pub messaged : (s : Vat N) (h : ℕ) (id : N) → R s (record s { messages = suc s.messages; mails = s.mails ++ id ∷ []; known = s.known ++ begun (K.made (IsAnswer h id) (length s.known)) h ∷ [] })
  pub lone : (s : Vat N) (id : N) → R s (record s { messages = suc s.messages; mails = s.mails ++ id ∷ [] })

-- so each change leads that settles and views nothing
abbrev pub IsGentle : {N W : Type 0} → Naming N W → (Vat N → Vat N → Type 0) → Type 0
IsGentle K R = GoesBy K Mild R

module _ {N W : Type 0} (K : Naming N W) (Can : Change N → Type 0) (R : Vat N → Vat N → Type 0) (law : GoesBy K Can R) where
  pub widen : {A : Type 0} {s t : Vat N} → R s t → (d : Done N A) → GivesBy R t d → GivesBy R s d
  widen r (Gives a u) h = law.trans r h
  widen r other h = tt

  pub bind_gives : {A B : Type 0} (s : Vat N) (d : Done N A) (f : A → Act N B) → GivesBy R s d → ((a : A) → Gentle R (f a)) → GivesBy R s (and_then d f)
  unfolding and_then
  bind_gives s (Gives a t) f h k = widen h (f a t) ((k a).after t)
  bind_gives s other f h k = tt

  pub goes_bind : {A B : Type 0} {m : Act N A} {f : A → Act N B} → Gentle R m → ((a : A) → Gentle R (f a)) → Gentle R (m >>= f)
  unfolding ◌>>=◌
  goes_bind {m = m} {f = f} h k = record { after = λ s. bind_gives s (m s) f (h.after s) k }

  pub goes_then : {A B : Type 0} {m : Act N A} {n : Act N B} → Gentle R m → Gentle R n → Gentle R (m >> n)
  unfolding ◌>>◌
  goes_then {m = m} {n = n} h k = record { after = λ s. bind_gives s (m s) (λ _. n) (h.after s) (λ _. k) }

  pub goes_if : {A : Type 0} (b : Bool) {m n : Act N A} → Gentle R m → Gentle R n → Gentle R (if b then m else n)
  goes_if true h k = h
  goes_if false h k = k

  pub goes_some : {A B : Type 0} (o : Option A) {f : A → Act N B} {m : Act N B} → ((a : A) → Gentle R (f a)) → Gentle R m → Gentle R (for_some o f m)
  unfolding for_some
  goes_some (Some a) h k = h a
  goes_some None h k = k

  pub goes_give : {A : Type 0} (a : A) → Gentle R (give a)
  unfolding give
  goes_give a = record { after = law.same }

  pub goes_stop : {A : Type 0} (c : Stop) → Gentle R (stop {A = A} c)
  unfolding stop
  goes_stop c = record { after = λ s. tt }

  pub goes_look : {A : Type 0} (f : Vat N → A) → Gentle R (look f)
  unfolding look
  goes_look f = record { after = law.same }

  pub goes_tell : (e : Happened N) → Gentle R (tell e)
  unfolding tell
  goes_tell e = record { after = λ s. law.happened s e }

  spend_gives : (s : Vat N) (n : ℕ) (b : Bool) → GivesBy R s (spent n b s)
  unfolding spent
  spend_gives s n true = law.fuel s n
  spend_gives s n false = tt

  pub goes_spend : (n : ℕ) → Gentle R (spend n)
  unfolding spend
  goes_spend n = record { after = λ s. spend_gives s n (nat_le n s.fuel) }

  pub goes_list : (vs : List (Value N)) → Gentle R (new_list vs)
  unfolding new_list
  goes_list vs = record { after = λ s. law.list s vs }

  pub goes_enqueue : (m : Message N) → Gentle R (enqueue m)
  unfolding enqueue
  goes_enqueue m = record { after = λ s. law.queue s m }

  pub goes_out : (to : ℕ) (n : Note N) → Gentle R (send_out to n)
  unfolding send_out
  goes_out to n = record { after = λ s. law.outbox s _ }

  pub goes_gift : (n : N) (p i : ℕ) → Gentle R (new_gift n p i)
  unfolding new_gift
  goes_gift n p i = record { after = λ s. law.gift s _ }

  pub goes_open : (p i : ℕ) → Gentle R (open_gift p i)
  unfolding open_gift
  goes_open p i = record { after = λ s. law.opened s p i }

  pub goes_each : {A : Type 0} {f : A → Act N (Unit {0})} (xs : List A) → ((x : A) → Gentle R (f x)) → Gentle R (each f xs)
  unfolding each
  goes_each [] h = goes_give tt
  goes_each (x ∷ xs) h = goes_then (h x) (goes_each xs h)

  pub goes_each_of : {A : Type 0} {f : A → Act N (Unit {0})} (P : A → Type 0) (xs : List A) → AllOf P xs → ((x : A) → P x → Gentle R (f x)) → Gentle R (each f xs)
  unfolding each
  goes_each_of P [] h g = goes_give tt
  goes_each_of P (x ∷ xs) h g = goes_then (g x h.0) (goes_each_of P xs h.1 g)

  draws_give : (s : Vat N) (w : ℕ) (o : Option ℕ) → GivesBy R s (draws w o s)
  unfolding draws
  draws_give s w (Some i) = tt
  draws_give s w None = law.drawn s w

  pub goes_draw : Gentle R (draw K)
  unfolding draw
  goes_draw = record { after = λ s. draws_give s _ _ }

  pub goes_come : (c : Coming N W) (h : ℕ) → Gentle R (come K c h)
  unfolding come
  goes_come c h = record { after = λ s. law.came s c h }

  pub goes_mail : (c : Mailing W) → Gentle R (mail K c)
  unfolding mail
  goes_mail c = record { after = λ s. law.mailed s c }

  pub goes_promise : Gentle R (new_promise K)
  unfolding new_promise
  goes_promise = record { after = law.promised }

  pub goes_message : (h : ℕ) → Gentle R (new_message K h)
  unfolding new_message
  goes_message h = record { after = λ s. law.messaged s h _ }

  pub goes_lone_message : Gentle R (new_lone_message K)
  unfolding new_lone_message
  goes_lone_message = record { after = λ s. law.lone s _ }

  pub goes_closed : IsClosed (GentleBy R)
  goes_closed = record { gives = goes_give; stops = goes_stop; looks = goes_look; binds = goes_bind }

pub ruleset goes = (goes_bind, goes_then, goes_some, goes_if, goes_give, goes_stop, goes_look, goes_tell, goes_spend, goes_list, goes_enqueue, goes_out, goes_gift, goes_open, goes_each, goes_draw, goes_come, goes_mail, goes_promise, goes_message, goes_lone_message)

module _ {N W : Type 0} (K : Naming N W) (R : Vat N → Vat N → Type 0) (law : IsGentle K R) where
  pub gentle_hold : (m : Message N) (n : N) → Gentle R (alter K (Hold m) n)
  unfolding alter
  gentle_hold m n = record { after = λ s. law.altered s (Hold m) n (mild_hold m) }

  pub gentle_wait : (q n : N) → Gentle R (alter K (Wait q) n)
  unfolding alter
  gentle_wait q n = record { after = λ s. law.altered s (Wait q) n (mild_wait q) }

  pub gentle_wait_on : (q n : N) → Gentle R (alter K (WaitOn q) n)
  unfolding alter
  gentle_wait_on q n = record { after = λ s. law.altered s (WaitOn q) n (mild_wait_on q) }

  pub gentle_react : (m : Message N) (n : N) → Gentle R (alter K (React m) n)
  unfolding alter
  gentle_react m n = record { after = λ s. law.altered s (React m) n (mild_react m) }

  pub gentle_to_tell : (w : ℕ) (n : N) → Gentle R (alter K (ToTell w) n)
  unfolding alter
  gentle_to_tell w n = record { after = λ s. law.altered s (ToTell w) n (mild_to_tell w) }

  -- ---- the instance

  pub gentle_in_refs : InRefs (GentleBy R)
  gentle_in_refs = record { tells = λ e h. goes_tell K Mild R law e; spends = goes_spend K Mild R law; queues = goes_enqueue K Mild R law; puts = λ to n h. goes_out K Mild R law to n }

  mild : (c : Change N) (n : N) → IsMild c → Gentle R (alter K c n)
  mild (Hold m) n h = gentle_hold m n
  mild (Wait q) n h = gentle_wait q n
  mild (WaitOn q) n h = gentle_wait_on q n
  mild (React m) n h = gentle_react m n
  mild (ToTell w) n h = gentle_to_tell w n
  mild other n h = absurd h

  pub gentle_sending : InSending (GentleBy R) K
  gentle_sending = record { messages = goes_message K Mild R law; lone_messages = goes_lone_message K Mild R law; sends = λ a m. goes_tell K Mild R law (Sends a m); reacts = λ a x o m. goes_tell K Mild R law (Reacts a x o m) }

  pub gentle_in_refs_under : InRefsUnder (GentleBy R) K
  gentle_in_refs_under = record { alters = mild; comes = goes_come K Mild R law; draws = goes_draw K Mild R law }

pub ruleset gentle = (goes, gentle_hold, gentle_wait, gentle_wait_on, gentle_react, gentle_to_tell)

-- ---- what holds of the state that is given

pub gives_then : {N A B : Type 0} (P Q : Vat N → Type 0) (d : Done N A) (f : A → Act N B) → AfterGives P d → ((a : A) (t : Vat N) → P t → AfterGives Q (f a t)) → AfterGives Q (and_then d f)
unfolding and_then
gives_then P Q (Gives a t) f h k = k a t h
gives_then P Q other f h k = tt

pub gives_after : {N A : Type 0} (R : Vat N → Vat N → Type 0) (P : Vat N → Type 0) (s : Vat N) (d : Done N A) → ((t : Vat N) → R s t → P t) → After R s d → AfterGives P d
gives_after R P s (Gives a t) f h = f t h
gives_after R P s other f h = tt

pub gives_map : {N A : Type 0} (P Q : Vat N → Type 0) (d : Done N A) → ((t : Vat N) → P t → Q t) → AfterGives P d → AfterGives Q d
gives_map P Q (Gives a t) f h = f t h
gives_map P Q other f h = tt

pub gives_by : {N A : Type 0} (R : Vat N → Vat N → Type 0) (P : Vat N → Type 0) (s : Vat N) (d : Done N A) → ((t : Vat N) → R s t → P t) → GivesBy R s d → AfterGives P d
gives_by R P s (Gives a t) f h = f t h
gives_by R P s other f h = tt

pub by_gives : {N A : Type 0} (R Q : Vat N → Vat N → Type 0) (P : Vat N → Type 0) (s r : Vat N) (d : Done N A) → ((t : Vat N) → R s t → P t → Q r t) → GivesBy R s d → AfterGives P d → GivesBy Q r d
by_gives R Q P s r (Gives a t) f h i = f t h i
by_gives R Q P s r other f h i = tt

-- a stop may leave any state
abbrev pub Any : {N : Type 0} → Vat N → Vat N → Type 0
Any s t = Unit {0}

quiet_ends : {N A : Type 0} (R : Vat N → Vat N → Type 0) (s : Vat N) (d : Done N A) → IsQuiet d → GivesBy R s d → Ends Any R s d
quiet_ends R s (Gives a t) q h = h
quiet_ends R s (Stops c t) q h = tt
quiet_ends R s other q h = absurd q

-- what throws nothing leads by R
pub leads_gentle : {N A : Type 0} (R : Vat N → Vat N → Type 0) (m : Act N A) → Quiet m → Gentle R m → Leads Any R m
leads_gentle R m q h = record { after = λ s. quiet_ends R s (m s) (q.after s) (h.after s) }

-- so it does from one state
pub leads_at : {N A : Type 0} (R : Vat N → Vat N → Type 0) (m : Act N A) → Quiet m → (s : Vat N) → GivesBy R s (m s) → Ends Any R s (m s)
leads_at R m q s h = quiet_ends R s (m s) (q.after s) h

ends_give : {N A : Type 0} (R : Vat N → Vat N → Type 0) (s : Vat N) (d : Done N A) → Ends Any R s d → GivesBy R s d
ends_give R s (Gives a t) h = h
ends_give R s other h = tt

pub gentle_leads : {N A : Type 0} (R : Vat N → Vat N → Type 0) (m : Act N A) → Leads Any R m → Gentle R m
gentle_leads R m h = record { after = λ s. ends_give R s (m s) (h.after s) }
