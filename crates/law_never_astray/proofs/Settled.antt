-- What evaluation does with references keeps what things carry, where nothing is said of stops.
use Rattle.std.proofs.Common.{ℕ, zero, List, Option, Some, None, length, arith}
use Rattle.def_machine.specs.Values.{Broken, Naming, Coming, Mailing}
use Rattle.def_machine.specs.State.{Message, Note, Ask, Shorten, Sends, Reacts, Settles, Views, ListCame, Settle, See, Change, Vat, Stop, Repeated, enqueue, send_out, new_gift, open_gift, mark, alter, come, mail, draw, draws, new_promise, new_message, new_lone_message}
use Rattle.def_machine.specs.Arrive.{Incoming, arrive, notice}
use Rattle.def_kernel.specs.declared.node.Node.{Node}
use Rattle.law_machine.proofs.Machine.Walks.{Property, IsClosed, InRefs, InRefsUnder, InSettling, InSending, InArrive, InArriveUnder, walk_then}
use Rattle.law_machine.proofs.Machine.ArriveWalk.{lists_by_line, walk_arrive, walk_notice}
use Rattle.law_machine.proofs.Machine.RefsWalk.{settles_by_lines, walk_settle, walk_resolve, walk_send, walk_send_only, walk_react}
use Rattle.law_never_astray.specs.Covered.{Carries}
use Rattle.law_never_astray.proofs.Leads.{AtStops, Ends, Leads, Nothing, Refers, lead_less, lead_next, lead_give, lead_look, lead_stop, lead_tell, lead_spend, lead_list}

abbrev LeadsBy : {N : Type 0} → List Node → AtStops N → Property N
LeadsBy tree F A m = Leads tree F zero Nothing m

module _ {N W : Type 0} (K : Naming N W) (tree : List Node) (F : AtStops N) (any : (c : Stop) (s : Vat N) → F c s) where
  closed : IsClosed (LeadsBy tree F)
  closed = record {
    gives = λ a. record { after = lead_give tree F a };
    stops = λ c. record { after = lead_stop tree F c (any c) };
    looks = λ f. record { after = lead_look tree F f };
    binds = λ h k. record { after = lead_next tree F h.after (λ a. (k a).after) };
  }

  by_enqueue : (m : Message N) → Leads tree F zero Nothing (enqueue m)
  unfolding enqueue
  by_enqueue m = record { after = λ s c. ((omega arith, c.1), tt) }

  by_out : (to : ℕ) (n : Note N) → Leads tree F zero Nothing (send_out to n)
  unfolding send_out
  by_out to n = record { after = λ s c. ((omega arith, c.1), tt) }

  by_alter : (c : Change N) (n : N) → Leads tree F zero Nothing (alter K c n)
  unfolding alter
  by_alter d n = record { after = λ s c. ((omega arith, c.1), tt) }

  by_come : (c : Coming N W) (h : ℕ) → Leads tree F zero Nothing (come K c h)
  unfolding come
  by_come d h = record { after = λ s c. ((omega arith, c.1), tt) }

  by_promise : Leads tree F zero Nothing (new_promise K)
  unfolding new_promise
  by_promise = record { after = λ s c. ((omega arith, c.1), tt) }

  by_message : (h : ℕ) → Leads tree F zero Nothing (new_message K h)
  unfolding new_message
  by_message h = record { after = λ s c. ((omega arith, c.1), tt) }

  by_lone_message : Leads tree F zero Nothing (new_lone_message K)
  unfolding new_lone_message
  by_lone_message = record { after = λ s c. ((omega arith, c.1), tt) }

  draws_end : (s : Vat N) (w : ℕ) (o : Option ℕ) → Carries tree s → Ends tree F (length s.slots) Nothing (draws w o s)
  unfolding draws
  draws_end s w (Some i) c = any (Repeated i (length s.drawn)) s
  draws_end s w None c = ((omega arith, c), tt)

  by_draw : Leads tree F zero Nothing (draw K)
  unfolding draw
  by_draw = record { after = λ s c. draws_end s _ _ c.1 }

  in_refs : InRefs (LeadsBy tree F)
  in_refs = record {
    tells = λ e h. record { after = lead_tell tree F e };
    spends = λ n. record { after = lead_spend tree F n (any _) };
    queues = λ m. record { after = by_enqueue m };
    puts = λ to n h. record { after = by_out to n };
  }

  in_refs_under : InRefsUnder (LeadsBy tree F) K
  in_refs_under = record { alters = λ c n h. record { after = by_alter c n }; comes = λ c h. record { after = by_come c h }; draws = record { after = by_draw } }

  settling : InSettling (LeadsBy tree F) K
  settling = settles_by_lines (LeadsBy tree F) K closed in_refs in_refs_under
      (λ p y m h. walk_then (LeadsBy tree F) closed (record { after = lead_tell tree F (Settles p y) }) (walk_then (LeadsBy tree F) closed (record { after = by_alter (Settle y) p }) h))

  sending : InSending (LeadsBy tree F) K
  sending = record { messages = λ h. record { after = by_message h }; lone_messages = record { after = by_lone_message }; sends = λ a m. record { after = lead_tell tree F (Sends a m) }; reacts = λ a x o m. record { after = lead_tell tree F (Reacts a x o m) } }

  pub refers : Refers K tree F
  refers = record {
    promises = λ n. lead_less tree F zero n (omega arith) by_promise;
    breaks = λ n p t. let h = walk_settle (LeadsBy tree F) K closed in_refs in_refs_under settling p (Broken t) in lead_less tree F zero n (omega arith) h.after;
    resolves = λ n p y. let h = walk_resolve (LeadsBy tree F) K closed in_refs in_refs_under settling p y in lead_less tree F zero n (omega arith) h.after;
    sends = λ n act x verb args. let h = walk_send (LeadsBy tree F) K closed in_refs in_refs_under settling sending act x verb args in lead_less tree F zero n (omega arith) h.after;
    sends_only = λ n act x verb args. let h = walk_send_only (LeadsBy tree F) K closed in_refs in_refs_under settling sending act x verb args in lead_less tree F zero n (omega arith) h.after;
    reacts = λ n act x o near. let h = walk_react (LeadsBy tree F) K closed in_refs in_refs_under settling sending act x o near in lead_less tree F zero n (omega arith) h.after;
  }

  -- ---- what arrives and what is noticed

  by_gift : (n : N) (p i : ℕ) → Leads tree F zero Nothing (new_gift n p i)
  unfolding new_gift
  by_gift n p i = record { after = λ s c. ((omega arith, c.1), tt) }

  by_open : (p i : ℕ) → Leads tree F zero Nothing (open_gift p i)
  unfolding open_gift
  by_open p i = record { after = λ s c. ((omega arith, c.1), tt) }

  by_mark : (w : ℕ) → Leads tree F zero Nothing (mark w)
  unfolding mark
  by_mark w = record { after = λ s c. ((omega arith, c.1), tt) }

  by_mail : (c : Mailing W) → Leads tree F zero Nothing (mail K c)
  unfolding mail
  by_mail d = record { after = λ s c. ((omega arith, c.1), tt) }

  in_arrive : InArrive (LeadsBy tree F)
  in_arrive = record {
    asks = λ to p i n. record { after = by_out to (Ask p i n) };
    shortens = λ to n c i. record { after = by_out to (Shorten n c i) };
    gifts = λ n p i. record { after = by_gift n p i };
    opens = λ p i. record { after = by_open p i };
    marks = λ w. record { after = by_mark w };
  }

  in_arrive_under : InArriveUnder (LeadsBy tree F) K
  in_arrive_under = record {
    mails = λ c. record { after = by_mail c };
    lists = λ vs. lists_by_line (LeadsBy tree F) K closed vs (record { after = lead_list tree F vs }) (λ k. record { after = lead_tell tree F (ListCame k vs) });
    views = λ p q m h. walk_then (LeadsBy tree F) closed (record { after = lead_tell tree F (Views p q) }) (walk_then (LeadsBy tree F) closed (record { after = by_alter (See q) p }) h);
  }

  pub lead_arrive : (from : ℕ) (n : Note (Incoming N W)) → Leads tree F zero Nothing (arrive K from n)
  lead_arrive from n = let h = walk_arrive (LeadsBy tree F) K closed in_refs in_refs_under settling in_arrive in_arrive_under from n in h.after

  pub lead_notice : (w : ℕ) → Leads tree F zero Nothing (notice K w)
  lead_notice w = let h = walk_notice (LeadsBy tree F) K closed in_refs in_refs_under settling in_arrive in_arrive_under w in h.after
