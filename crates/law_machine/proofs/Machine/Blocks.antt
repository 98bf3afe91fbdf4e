-- Blocks that hold by their parts, and all that holds where each single change does.
use Rattle.std.proofs.Common.{ℕ, true, List, None, Some}
use Rattle.def_machine.specs.Values.{Words, Value, Broken, Naming, Coming, Mailing}
use Rattle.def_machine.specs.State.{Took, Sends, Reacts, Lost, Posted, Thing, Made, Resolver, Ejector, Audition, View, Message, Note, Ask, Shorten, ListCame, Happened, Called, Back, Thrown, Left, EjectorMade, AuditionMade, Settles, Views, Change, See, Settle, Standing, Unsettled, Act, ◌>>=◌, ◌>>◌, ending, look, tell, spend, new_activation, new_thing, new_slot, write_slot, new_list, enqueue, send_out, new_gift, open_gift, mark, alter, come, mail, new_promise, new_message, new_lone_message, draw, kill}
use Rattle.def_machine.specs.Refs.{settle, resolve, send, send_only, react, standing_of}
use Rattle.def_machine.specs.Scopes.{ended}
use Rattle.def_machine.specs.Calls.{leave, leaving, new_ejector, where_unresolved}
use Rattle.def_kernel.specs.declared.node.Node.{Node}
use Rattle.law_machine.proofs.Machine.Walks.{Property, Holds, IsClosed, IsEnding, IsOfEval, InRefs, InRefsUnder, InSettling, InSending, InArrive, InArriveUnder, InEval, InEvalUnder, walk, walk_bind, walk_then}
use Rattle.law_machine.proofs.Machine.RefsWalk.{settles_by_lines, walk_settle, walk_resolve, walk_send, walk_send_only, walk_react}
use Rattle.law_machine.proofs.Machine.ArriveWalk.{lists_by_line}
use Rattle.law_machine.proofs.Machine.EvalWalk.{eval_throw, eval_eject, eval_ending}

ruleset ends = (walk, eval_throw, eval_eject, eval_ending)

module _ {N : Type 0} (P : Property N) (base : IsClosed P) (ending' : IsEnding P) where
  -- a call's last line
  pub ends_by_lines : (act : ℕ) (m : Act N (Value N)) → ((v : Value N) → Holds P (tell (Back act v))) → ((p : Words) → Holds P (tell (Thrown act p))) → Holds P (tell (Left act)) → Holds P m → Holds P (ended act m)
  unfolding ended
  ends_by_lines act m back thrown left h = search (ends, back, thrown) depth 14

  module _ {W : Type 0} (K : Naming N W) (tree : List Node) (kills : (n : ℕ) → Holds P (kill n)) where
    pub leaves : {A : Type 0} (n : ℕ) (m : Act N A) → Holds P m → Holds P (leave K tree n m)
    unfolding leave
    leaves n m h = walk_then P base (kills n) h

    pub audits_by_kills : {A B : Type 0} (act : ℕ) (view : View N) (m : ℕ → Act N A) (f : A → Act N B) → Holds P (new_thing (Audition true view)) → ((n : ℕ) → Holds P (tell (AuditionMade act (K.object n)))) → ((n : ℕ) → Holds P (m n)) → ((a : A) → Holds P (f a))
        → Holds P (new_thing (Audition true view) >>= λ n. tell (AuditionMade act (K.object n)) >> (leaving K tree n (m n) >>= f))
    unfolding leaving
    audits_by_kills act view m f new told h k = search (ends, told, h, k, leaves) depth 16

    pub escapes_by_kills : {A B : Type 0} (act : ℕ) (f : ℕ → A → Act N B) (g : ℕ → Words → Act N B) (h : ℕ → ℕ → Value N → Act N B) (m : ℕ → Act N A) → Holds P (new_thing (Ejector true)) → ((n : ℕ) → Holds P (tell (EjectorMade act (K.object n))))
        → ((j : ℕ) (a : A) → Holds P (f j a)) → ((j : ℕ) (p : Words) → Holds P (g j p)) → ((j n : ℕ) (v : Value N) → Holds P (h j n v)) → ((j : ℕ) → Holds P (m j))
        → Holds P (new_ejector K tree act >>= λ j. ending (λ a. leave K tree j (f j a)) (λ p. leave K tree j (g j p)) (λ n v. leave K tree j (h j n v)) (m j))
    unfolding new_ejector
    escapes_by_kills act f g h m new told x y z w = search (ends, told, x, y, z, w, leaves) depth 16

  module _ {W : Type 0} (K : Naming N W) (tree : List Node) where
    unresolved : (w : Standing N) (m : Act N (Unit {0})) → Holds P m → Holds P (where_unresolved K tree w m)
    unfolding where_unresolved
    unresolved Unsettled m h = search ends
    unresolved _ m h = search ends

    pub resolves_always : (p : N) (y : Value N) → Holds P (resolve K p y) → Holds P (look (λ s. standing_of K s.known p) >>= λ w. where_unresolved K tree w (resolve K p y))
    resolves_always p y h = search (ends, unresolved) depth 14

-- ---- each single change of a turn by itself, and what is done with references as it is given

-- a line that tells of no message
abbrev pub IsOfTurn : {N : Type 0} → Happened N → Type 0
IsOfTurn (Took a m) = ⊥
IsOfTurn (Sends a m) = ⊥
IsOfTurn (Reacts a x o m) = ⊥
IsOfTurn (Lost m) = ⊥
IsOfTurn (Posted w m) = ⊥
IsOfTurn _ = Unit {0}

of_turn : {N : Type 0} (e : Happened N) → IsOfEval e → IsOfTurn e
of_turn (Took a m) h = h
of_turn (Sends a m) h = h
of_turn (Reacts a x o m) h = h
of_turn (Lost m) h = h
of_turn (Posted w m) h = h
of_turn _ h = tt

pub record TurnSingles {N : Type 0} (P : Property N) : Type 1 where
  pub tells : (e : Happened N) → IsOfTurn e → Holds P (tell e)
  pub spends : (n : ℕ) → Holds P (spend n)
  pub activates : Holds P new_activation
  pub makes : (t : Thing N) → Holds P (new_thing t)
  pub kills : (n : ℕ) → Holds P (kill n)
  pub slots : (g v : Value N) → Holds P (new_slot g v)
  pub writes : (n : ℕ) (v : Value N) → Holds P (write_slot n v)
  pub lists : (vs : List (Value N)) → Holds P (new_list vs)

pub record TurnRefs {N W : Type 0} (P : Property N) (K : Naming N W) : Type 1 where
  pub promises : Holds P (new_promise K)
  pub breaks : (p : N) (t : Words) → Holds P (settle K p (Broken t))
  pub sends : (act : ℕ) (x : Value N) (verb : Words) (args : List (Value N)) → Holds P (send K act x verb args)
  pub sends_only : (act : ℕ) (x : Value N) (verb : Words) (args : List (Value N)) → Holds P (send_only K act x verb args)
  pub reacts : (act : ℕ) (x o near : Value N) → Holds P (react K act x o near)

module _ {N : Type 0} (P : Property N) (base : IsClosed P) (ending' : IsEnding P) (law : TurnSingles P) where
  by_lines : (act : ℕ) (m : Act N (Value N)) → Holds P m → Holds P (ended act m)
  by_lines act m h = ends_by_lines P base ending' act m (λ v. law.tells (Back act v) tt) (λ p. law.tells (Thrown act p) tt) (law.tells (Left act) tt) h

  pub turn_eval : InEval P
  turn_eval = record {
    tells = λ e h. law.tells e (of_turn e h);
    spends = law.spends;
    activates = law.activates;
    objects = λ node caught stamps. law.makes (Made node caught stamps);
    slots = law.slots;
    writes = law.writes;
    lists = law.lists;
    calls = λ act x verb args {m} h. walk_then P base (law.tells (Called act x verb args None) tt) (by_lines act m h);
    begins = λ act x verb args {m} h. walk_bind P base law.activates (λ b. walk_then P base (law.tells (Called act x verb args (Some b)) tt) (by_lines act (m b) (h b)));
  }

  pub turn_eval_under : {W : Type 0} (K : Naming N W) (tree : List Node) → TurnRefs P K → ((p : N) (y : Value N) → Holds P (look (λ s. standing_of K s.known p) >>= λ w. where_unresolved K tree w (resolve K p y))) → InEvalUnder P K tree
  turn_eval_under K tree refs resolves = record {
    promises = refs.promises;
    resolvers = λ p. law.makes (Resolver p);
    audits = λ act view {m} {f} h k. audits_by_kills P base ending' K tree law.kills act view m f (law.makes (Audition true view)) (λ n. law.tells (AuditionMade act (K.object n)) tt) h k;
    escapes = λ act {f} {g} {h} {m} x y z w. escapes_by_kills P base ending' K tree law.kills act f g h m (law.makes (Ejector true)) (λ n. law.tells (EjectorMade act (K.object n)) tt) x y z w;
    breaks = refs.breaks;
    resolves = resolves;
    sends = refs.sends;
    sends_only = refs.sends_only;
    reacts = refs.reacts;
  }

-- ---- each single change by itself

pub record Singles {N : Type 0} (P : Property N) : Type 1 where
  pub tells : (e : Happened N) → Holds P (tell e)
  pub spends : (n : ℕ) → Holds P (spend n)
  pub activates : Holds P new_activation
  pub makes : (t : Thing N) → Holds P (new_thing t)
  pub kills : (n : ℕ) → Holds P (kill n)
  pub slots : (g v : Value N) → Holds P (new_slot g v)
  pub writes : (n : ℕ) (v : Value N) → Holds P (write_slot n v)
  pub lists : (vs : List (Value N)) → Holds P (new_list vs)
  pub queues : (m : Message N) → Holds P (enqueue m)
  pub puts : (to : ℕ) (n : Note N) → Holds P (send_out to n)
  pub gifts : (n : N) (p i : ℕ) → Holds P (new_gift n p i)
  pub opens : (p i : ℕ) → Holds P (open_gift p i)
  pub marks : (w : ℕ) → Holds P (mark w)

pub record SinglesUnder {N W : Type 0} (P : Property N) (K : Naming N W) : Type 1 where
  pub alters : (c : Change N) (n : N) → Holds P (alter K c n)
  pub comes : (c : Coming N W) (h : ℕ) → Holds P (come K c h)
  pub mails : (c : Mailing W) → Holds P (mail K c)
  pub promises : Holds P (new_promise K)
  pub messages : (h : ℕ) → Holds P (new_message K h)
  pub lone_messages : Holds P (new_lone_message K)
  pub draws : Holds P (draw K)

module _ {N : Type 0} (P : Property N) (base : IsClosed P) (law : Singles P) where
  pub refs_of : InRefs P
  refs_of = record { tells = λ e h. law.tells e; spends = law.spends; queues = law.queues; puts = λ to n h. law.puts to n }

  pub arrive_of : InArrive P
  arrive_of = record { asks = λ to p i n. law.puts to (Ask p i n); shortens = λ to n c i. law.puts to (Shorten n c i); gifts = law.gifts; opens = law.opens; marks = law.marks }

  turn_of : TurnSingles P
  turn_of = record { tells = λ e h. law.tells e; spends = law.spends; activates = law.activates; makes = law.makes; kills = law.kills; slots = law.slots; writes = law.writes; lists = law.lists }

  pub eval_of : IsEnding P → InEval P
  eval_of ending' = turn_eval P base ending' turn_of

  module _ {W : Type 0} (K : Naming N W) (under : SinglesUnder P K) where
    pub refs_under_of : InRefsUnder P K
    refs_under_of = record { alters = λ c n h. under.alters c n; comes = under.comes; draws = under.draws }

    pub sending_of : InSending P K
    sending_of = record { messages = under.messages; lone_messages = under.lone_messages; sends = λ a m. law.tells (Sends a m); reacts = λ a x o m. law.tells (Reacts a x o m) }

    pub settling_of : InSettling P K
    settling_of = settles_by_lines P K base refs_of refs_under_of (λ p y m h. walk_then P base (law.tells (Settles p y)) (walk_then P base (under.alters (Settle y) p) h))

    pub arrive_under_of : InArriveUnder P K
    arrive_under_of = record { mails = under.mails; lists = λ vs. lists_by_line P K base vs (law.lists vs) (λ k. law.tells (ListCame k vs)); views = λ p q m h. walk_then P base (law.tells (Views p q)) (walk_then P base (under.alters (See q) p) h) }

    pub eval_under_of : IsEnding P → (tree : List Node) → InEvalUnder P K tree
    eval_under_of ending' tree = turn_eval_under P base ending' turn_of K tree
        (record { promises = under.promises; breaks = λ p t. walk_settle P K base refs_of refs_under_of settling_of p (Broken t); sends = walk_send P K base refs_of refs_under_of settling_of sending_of; sends_only = walk_send_only P K base refs_of refs_under_of settling_of sending_of; reacts = walk_react P K base refs_of refs_under_of settling_of sending_of })
        (λ p y. resolves_always P base ending' K tree p y (walk_resolve P K base refs_of refs_under_of settling_of p y))
