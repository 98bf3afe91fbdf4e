-- One record for what holds of all that a vat does: of each change, of a call with its lines, of what is live with what is done meanwhile, and of a name that settles or is viewed with its line.
use Rattle.std.proofs.Common.{ℕ, true, List, None, Some}
use Rattle.def_machine.specs.Values.{Words, Value, Broken, Naming, Coming, Mailing}
use Rattle.def_machine.specs.State.{Thing, Made, Resolver, Audition, Binding, View, Message, Note, Ask, Shorten, ListCame, Sends, Reacts, Happened, Took, Called, Back, Thrown, Left, AuditionMade, Settles, Views, Change, See, Settle, Act, ◌>>=◌, ◌>>◌, ending, tell, spend, new_activation, new_thing, new_slot, write_slot, new_list, enqueue, send_out, new_gift, open_gift, mark, alter, come, mail, new_promise, new_message, new_lone_message, draw}
use Rattle.def_machine.specs.Refs.{Place, settle, resolve, send_first, react_at}
use Rattle.def_machine.specs.Arrive.{Incoming, arrive, notice}
use Rattle.def_machine.specs.Receive.{Sight, receive}
use Rattle.def_machine.specs.Scopes.{ended}
use Rattle.def_machine.specs.Calls.{leave, leaving, new_ejector}
use Rattle.def_machine.specs.Eval.{opening, taking}
use Rattle.def_kernel.specs.declared.node.Node.{Node}
use Rattle.law_machine.proofs.Machine.Walks.{Property, Holds, IsClosed, IsEnding, IsOfRefs, IsOfEval, IsMild, IsDull, InRefs, InRefsUnder, InSettling, InSending, InArrive, InArriveUnder, InEval, InEvalUnder, where_some}
use Rattle.law_machine.proofs.Machine.RefsWalk.{settles_by_lines, walk_settle, walk_resolve, walk_send, walk_send_only, walk_react, walk_send_first, walk_react_at}
use Rattle.law_machine.proofs.Machine.ArriveWalk.{lists_by_line, walk_arrive, walk_receive, walk_notice}
use Rattle.law_machine.proofs.Machine.EvalWalk.{walk_opening, walk_taking}
use Rattle.law_machine.proofs.Machine.Blocks.{resolves_always}

-- a line that stands by itself
abbrev pub IsAlone : {N : Type 0} → Happened N → Type 0
IsAlone (Took a m) = ⊥
IsAlone (Called a x verb args b) = ⊥
IsAlone (Back a v) = ⊥
IsAlone (Thrown a p) = ⊥
IsAlone (Left a) = ⊥
IsAlone (Settles p y) = ⊥
IsAlone (Views p q) = ⊥
IsAlone _ = Unit {0}

pub record Whole {N W : Type 0} (P : Property N) (K : Naming N W) : Type 1 where
  pub closed : IsClosed P
  pub ends : IsEnding P
  -- single changes
  pub tells : (e : Happened N) → IsAlone e → Holds P (tell e)
  pub spends : (n : ℕ) → Holds P (spend n)
  pub activates : Holds P new_activation
  pub makes : (t : Thing N) → IsDull t → Holds P (new_thing t)
  pub slots : (g v : Value N) → Holds P (new_slot g v)
  pub writes : (n : ℕ) (v : Value N) → Holds P (write_slot n v)
  pub lists : (vs : List (Value N)) → Holds P (new_list vs)
  pub queues : (m : Message N) → Holds P (enqueue m)
  pub puts : (to : ℕ) (n : Note N) → Holds P (send_out to n)
  pub gifts : (n : N) (p i : ℕ) → Holds P (new_gift n p i)
  pub opens : (p i : ℕ) → Holds P (open_gift p i)
  pub marks : (w : ℕ) → Holds P (mark w)
  pub alters : (c : Change N) (n : N) → IsMild c → Holds P (alter K c n)
  pub comes : (c : Coming N W) (h : ℕ) → Holds P (come K c h)
  pub mails : (c : Mailing W) → Holds P (mail K c)
  pub promises : Holds P (new_promise K)
  pub messages : (h : ℕ) → Holds P (new_message K h)
  pub lone_messages : Holds P (new_lone_message K)
  pub draws : Holds P (draw K)
  -- a taking, and a call, with their lines
  pub takes : (m : Message N) {f : ℕ → Act N (Unit {0})} → ((a : ℕ) → Holds P (f a)) → Holds P (new_activation >>= λ a. tell (Took a m) >> f a)
  pub calls : (act : ℕ) (x : Value N) (verb : Words) (args : List (Value N)) {m : Act N (Value N)} → Holds P m → Holds P (tell (Called act x verb args None) >> ended act m)
  pub begins : (act : ℕ) (x : Value N) (verb : Words) (args : List (Value N)) {m : ℕ → Act N (Value N)} → ((b : ℕ) → Holds P (m b))
      → Holds P (new_activation >>= λ b. tell (Called act x verb args (Some b)) >> ended act (m b))
  -- an audition and an ejector, and what is done while it is live
  pub audits : {A B : Type 0} (tree : List Node) (act : ℕ) (view : View N) {m : ℕ → Act N A} {f : A → Act N B} → ((n : ℕ) → Holds P (m n)) → ((a : A) → Holds P (f a))
      → Holds P (new_thing (Audition true view) >>= λ n. tell (AuditionMade act (K.object n)) >> (leaving K tree n (m n) >>= f))
  pub escapes : {A B : Type 0} (tree : List Node) (act : ℕ) {f : ℕ → A → Act N B} {g : ℕ → Words → Act N B} {h : ℕ → ℕ → Value N → Act N B} {m : ℕ → Act N A}
      → ((j : ℕ) (a : A) → Holds P (f j a)) → ((j : ℕ) (p : Words) → Holds P (g j p)) → ((j n : ℕ) (v : Value N) → Holds P (h j n v)) → ((j : ℕ) → Holds P (m j))
      → Holds P (new_ejector K tree act >>= λ j. ending (λ a. leave K tree j (f j a)) (λ p. leave K tree j (g j p)) (λ n v. leave K tree j (h j n v)) (m j))
  -- a name that settles, and one that is viewed, with its line
  pub settles : (p : N) (y : Value N) (m : Act N (Unit {0})) → Holds P m → Holds P (tell (Settles p y) >> (alter K (Settle y) p >> m))
  pub views : (p q : N) (m : Act N (Unit {0})) → Holds P m → Holds P (tell (Views p q) >> (alter K (See q) p >> m))

of_refs : {N : Type 0} (e : Happened N) → IsOfRefs e → IsAlone e
of_refs (Took a m) h = h
of_refs (Called a x verb args b) h = h
of_refs (Back a v) h = h
of_refs (Thrown a p) h = h
of_refs (Left a) h = h
of_refs (Settles p y) h = h
of_refs (Views p q) h = h
of_refs _ h = tt

of_eval : {N : Type 0} (e : Happened N) → IsOfEval e → IsAlone e
of_eval (Took a m) h = h
of_eval (Called a x verb args b) h = h
of_eval (Back a v) h = h
of_eval (Thrown a p) h = h
of_eval (Left a) h = h
of_eval (Settles p y) h = h
of_eval (Views p q) h = h
of_eval _ h = tt

module _ {N W : Type 0} (P : Property N) (K : Naming N W) (law : Whole P K) where
  pub in_refs : InRefs P
  in_refs = record { tells = λ e h. law.tells e (of_refs e h); spends = law.spends; queues = law.queues; puts = λ to n h. law.puts to n }

  pub in_refs_under : InRefsUnder P K
  in_refs_under = record { alters = law.alters; comes = law.comes; draws = law.draws }

  pub in_sending : InSending P K
  in_sending = record { messages = law.messages; lone_messages = law.lone_messages; sends = λ a m. law.tells (Sends a m) tt; reacts = λ a x o m. law.tells (Reacts a x o m) tt }

  pub in_settling : InSettling P K
  in_settling = settles_by_lines P K law.closed in_refs in_refs_under law.settles

  pub in_arrive : InArrive P
  in_arrive = record { asks = λ to p i n. law.puts to (Ask p i n); shortens = λ to n c i. law.puts to (Shorten n c i); gifts = law.gifts; opens = law.opens; marks = law.marks }

  pub in_arrive_under : InArriveUnder P K
  in_arrive_under = record { mails = law.mails; lists = λ vs. lists_by_line P K law.closed vs (law.lists vs) (λ k. law.tells (ListCame k vs) tt); views = law.views }

  pub in_eval : InEval P
  in_eval = record {
    tells = λ e h. law.tells e (of_eval e h);
    spends = law.spends;
    activates = law.activates;
    objects = λ node caught stamps. law.makes (Made node caught stamps) tt;
    slots = law.slots;
    writes = law.writes;
    lists = law.lists;
    calls = λ act x verb args {m} h. law.calls act x verb args {m = m} h;
    begins = λ act x verb args {m} h. law.begins act x verb args {m = m} h;
  }

  pub whole_settle : (p : N) (y : Value N) → Holds P (settle K p y)
  whole_settle = walk_settle P K law.closed in_refs in_refs_under in_settling

  pub whole_resolve : (p : N) (y : Value N) → Holds P (resolve K p y)
  whole_resolve = walk_resolve P K law.closed in_refs in_refs_under in_settling

  pub whole_send_first : (m : Message N) (y : Value N) (p : Place N) → Holds P (send_first K m y p)
  whole_send_first = walk_send_first P K law.closed in_refs in_refs_under in_settling

  pub whole_react_at : (m : Message N) (p : Place N) → Holds P (react_at K m p)
  whole_react_at = walk_react_at P K law.closed in_refs in_refs_under in_settling

  pub in_eval_under : (tree : List Node) → InEvalUnder P K tree
  in_eval_under tree = record {
    promises = law.promises;
    resolvers = λ p. law.makes (Resolver p) tt;
    audits = λ act view {m} {f} h k. law.audits tree act view {m = m} {f = f} h k;
    escapes = λ act {f} {g} {h} {m} x y z w. law.escapes tree act {f = f} {g = g} {h = h} {m = m} x y z w;
    breaks = λ p t. whole_settle p (Broken t);
    resolves = λ p y. resolves_always P law.closed law.ends K tree p y (whole_resolve p y);
    sends = walk_send P K law.closed in_refs in_refs_under in_settling in_sending;
    sends_only = walk_send_only P K law.closed in_refs in_refs_under in_settling in_sending;
    reacts = walk_react P K law.closed in_refs in_refs_under in_settling in_sending;
  }

  -- ---- all that a vat does

  pub whole_opening : (tree : List Node) (depth : ℕ) (root : N) (given : List (Binding N)) → Holds P (opening K tree depth root given)
  whole_opening tree depth root given = walk_opening P K tree law.closed law.ends in_eval (in_eval_under tree) depth root given (whole_resolve root)

  pub whole_taking : (tree : List Node) (depth : ℕ) (m : Message N) → Holds P (taking K tree depth m)
  whole_taking tree depth m = walk_taking P K tree law.closed law.ends in_eval (in_eval_under tree) depth m (λ f h. law.takes m {f = f} h) (where_some _ whole_resolve m.answer)

  pub whole_arrive : (from : ℕ) (n : Note (Incoming N W)) → Holds P (arrive K from n)
  whole_arrive = walk_arrive P K law.closed in_refs in_refs_under in_settling in_arrive in_arrive_under

  pub whole_receive : (sight : Sight N) (from : ℕ) (n : Note (Incoming N W)) → Holds P (receive K sight from n)
  whole_receive = walk_receive P K law.closed in_refs in_refs_under in_settling in_arrive in_arrive_under

  pub whole_notice : (w : ℕ) → Holds P (notice K w)
  whole_notice = walk_notice P K law.closed in_refs in_refs_under in_settling in_arrive in_arrive_under
