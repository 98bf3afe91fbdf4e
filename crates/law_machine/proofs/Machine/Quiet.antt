-- What gives or stops: it throws nothing and leaves by no ejector.
use Rattle.std.proofs.Common.{ℕ, Bool, true, false, List, Option, Some, None}
use Rattle.std.specs.Prelude.{nat_le}
use Rattle.law_machine.proofs.Machine.Walks.{Property, Holds, IsClosed, InRefs, InRefsUnder, InSettling, InSending, InArrive, InArriveUnder, walk, walk_then}
use Rattle.law_machine.proofs.Machine.RefsWalk.{settles_by_lines}
use Rattle.law_machine.proofs.Machine.ArriveWalk.{lists_by_line}
use Rattle.law_machine.specs.Machine.Steps.{IsQuiet}
use Rattle.def_machine.specs.Values.{Words, Value, Naming, Coming, Mailing}
use Rattle.def_machine.specs.State.{Sends, Reacts, ListCame, Ask, Shorten, Settles, Views, Settle, See, Message, Happened, Vat, Stop, Done, Gives, Throws, Ejects, Stops, Act, ◌>>=◌, and_then, end_by, ending, give, stop, look, tell, spend, spent, new_activation, new_list, enqueue, Change, Note, send_out, new_gift, open_gift, mark, draws, alter, come, mail, new_message, draw, new_lone_message}

abbrev pub QuietBy : {N : Type 0} → Property N
QuietBy {N} A m = (s : Vat N) → IsQuiet (m s)

abbrev pub Quiet : {N A : Type 0} → Act N A → Type 0
Quiet m = Holds QuietBy m

module _ {N : Type 0} where
  bind_ends : {A B : Type 0} (d : Done N A) (f : A → Act N B) → IsQuiet d → ((a : A) → Quiet (f a)) → IsQuiet (and_then d f)
  unfolding and_then
  bind_ends (Gives a t) f h k = (k a).after t
  bind_ends (Stops c t) f h k = tt
  bind_ends other f h k = absurd h

  pub quiet_bind : {A B : Type 0} {m : Act N A} {f : A → Act N B} → Quiet m → ((a : A) → Quiet (f a)) → Quiet (m >>= f)
  unfolding ◌>>=◌
  quiet_bind {m = m} {f = f} h k = record { after = λ s. bind_ends (m s) f (h.after s) k }

  end_ends : {A B : Type 0} (f : A → Act N B) (g : Words → Act N B) (h : ℕ → Value N → Act N B) (d : Done N A)
      → ((a : A) → Quiet (f a)) → ((p : Words) → Quiet (g p)) → ((n : ℕ) (v : Value N) → Quiet (h n v)) → IsQuiet (end_by f g h d)
  unfolding end_by
  end_ends f g h (Gives a t) i j k = (i a).after t
  end_ends f g h (Throws p t) i j k = (j p).after t
  end_ends f g h (Ejects n v t) i j k = (k n v).after t
  end_ends f g h (Stops c t) i j k = tt

  -- what follows decides, whatever came before
  pub quiet_ending : {A B : Type 0} {f : A → Act N B} {g : Words → Act N B} {h : ℕ → Value N → Act N B} (m : Act N A)
      → ((a : A) → Quiet (f a)) → ((p : Words) → Quiet (g p)) → ((n : ℕ) (v : Value N) → Quiet (h n v)) → Quiet (ending f g h m)
  unfolding ending
  quiet_ending {f = f} {g = g} {h = h} m i j k = record { after = λ s. end_ends f g h (m s) i j k }

  pub quiet_give : {A : Type 0} (a : A) → Quiet {N = N} (give a)
  unfolding give
  quiet_give a = record { after = λ s. tt }

  pub quiet_stop : {A : Type 0} (c : Stop) → Quiet {N = N} (stop {A = A} c)
  unfolding stop
  quiet_stop c = record { after = λ s. tt }

  pub quiet_look : {A : Type 0} (f : Vat N → A) → Quiet {N = N} (look f)
  unfolding look
  quiet_look f = record { after = λ s. tt }

  pub quiet_tell : (e : Happened N) → Quiet {N = N} (tell e)
  unfolding tell
  quiet_tell e = record { after = λ s. tt }

  pub quiet_activation : Quiet {N = N} (new_activation {N = N})
  unfolding new_activation
  quiet_activation = record { after = λ s. tt }

  pub quiet_list : (vs : List (Value N)) → Quiet {N = N} (new_list vs)
  unfolding new_list
  quiet_list vs = record { after = λ s. tt }

  pub quiet_enqueue : (m : Message N) → Quiet {N = N} (enqueue m)
  unfolding enqueue
  quiet_enqueue m = record { after = λ s. tt }

  pub quiet_out : (to : ℕ) (n : Note N) → Quiet {N = N} (send_out to n)
  unfolding send_out
  quiet_out to n = record { after = λ s. tt }

  pub quiet_gift : (n : N) (p i : ℕ) → Quiet {N = N} (new_gift n p i)
  unfolding new_gift
  quiet_gift n p i = record { after = λ s. tt }

  pub quiet_open : (p i : ℕ) → Quiet {N = N} (open_gift p i)
  unfolding open_gift
  quiet_open p i = record { after = λ s. tt }

  pub quiet_mark : (w : ℕ) → Quiet {N = N} (mark w)
  unfolding mark
  quiet_mark w = record { after = λ s. tt }

  spend_ends : (s : Vat N) (n : ℕ) (b : Bool) → IsQuiet (spent n b s)
  unfolding spent
  spend_ends s n true = tt
  spend_ends s n false = tt

  pub quiet_spend : (n : ℕ) → Quiet (spend {N = N} n)
  unfolding spend
  quiet_spend n = record { after = λ s. spend_ends s n (nat_le n s.fuel) }

  draws_end : (s : Vat N) (w : ℕ) (o : Option ℕ) → IsQuiet (draws w o s)
  unfolding draws
  draws_end s w (Some i) = tt
  draws_end s w None = tt

module _ {N W : Type 0} (K : Naming N W) where
  pub quiet_alter : (c : Change N) (n : N) → Quiet (alter K c n)
  unfolding alter
  quiet_alter c n = record { after = λ s. tt }

  pub quiet_come : (c : Coming N W) (h : ℕ) → Quiet (come K c h)
  unfolding come
  quiet_come c h = record { after = λ s. tt }

  pub quiet_mail : (c : Mailing W) → Quiet (mail K c)
  unfolding mail
  quiet_mail c = record { after = λ s. tt }

  pub quiet_message : (h : ℕ) → Quiet (new_message K h)
  unfolding new_message
  quiet_message h = record { after = λ s. tt }

  pub quiet_lone_message : Quiet (new_lone_message K)
  unfolding new_lone_message
  quiet_lone_message = record { after = λ s. tt }

  pub quiet_draw : Quiet (draw K)
  unfolding draw
  quiet_draw = record { after = λ s. draws_end s _ _ }

pub quiet_closed : {N : Type 0} → IsClosed (QuietBy {N = N})
quiet_closed = record { gives = quiet_give; stops = quiet_stop; looks = quiet_look; binds = quiet_bind }

pub quiet_in_refs : {N : Type 0} → InRefs (QuietBy {N = N})
quiet_in_refs = record { tells = λ e h. quiet_tell e; spends = quiet_spend; queues = quiet_enqueue; puts = λ to n h. quiet_out to n }

pub quiet_in_arrive : {N : Type 0} → InArrive (QuietBy {N = N})
quiet_in_arrive = record { asks = λ to p i n. quiet_out to (Ask p i n); shortens = λ to n c i. quiet_out to (Shorten n c i); gifts = quiet_gift; opens = quiet_open; marks = quiet_mark }

module _ {N W : Type 0} (K : Naming N W) where
  pub quiet_in_refs_under : InRefsUnder QuietBy K
  quiet_in_refs_under = record { alters = λ c n h. quiet_alter K c n; comes = quiet_come K; draws = quiet_draw K }

  pub quiet_sending : InSending QuietBy K
  quiet_sending = record { messages = quiet_message K; lone_messages = quiet_lone_message K; sends = λ a m. quiet_tell (Sends a m); reacts = λ a x o m. quiet_tell (Reacts a x o m) }

  pub quiet_settling : InSettling QuietBy K
  quiet_settling = settles_by_lines QuietBy K quiet_closed quiet_in_refs quiet_in_refs_under (λ p y m h. walk_then QuietBy quiet_closed (quiet_tell (Settles p y)) (walk_then QuietBy quiet_closed (quiet_alter K (Settle y) p) h))

  pub quiet_in_arrive_under : InArriveUnder QuietBy K
  quiet_in_arrive_under = record { mails = quiet_mail K; lists = λ vs. lists_by_line QuietBy K quiet_closed vs (quiet_list vs) (λ k. quiet_tell (ListCame k vs)); views = λ p q m h. walk_then QuietBy quiet_closed (quiet_tell (Views p q)) (walk_then QuietBy quiet_closed (quiet_alter K (See q) p) h) }

pub ruleset quiet = (walk, quiet_closed, quiet_ending, quiet_tell, quiet_activation)
