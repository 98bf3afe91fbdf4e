-- A turn, a notice, and what follows once a note is learnt put no note that asks for a gift.
use Rattle.std.proofs.Common.{◌≡◌, ℕ, zero, suc, ◌-◌, Bool, true, false, List, [], ◌∷◌, ◌++◌, Option, Some, None, refl, sym, ap, ◌∙◌, append_assoc, append-nil, length, if◌then◌else◌}
use Rattle.def_machine.specs.Values.{Words, Value, Broken, Ref, Name, Naming, Coming, Mailing, IsSent}
use Rattle.def_machine.specs.State.{Settles, Settle, Sends, Reacts, Binding, Message, Standing, Viewed, Settled, Known, Change, Passed, Passeds, Note, Delivery, Deliver, Open, Ask, SettledTo, Elsewhere, Put, GiftEntry, Happened, Took, Vat, Act, ◌>>=◌, ◌>>◌, tell, change, dead, holding, enqueue, send_out, new_lone_message, new_gift, with_opened, open_gift, mark, drawn_at, draws, draw, with_change, alter, come, mail, new_message, begun}
use Rattle.def_machine.specs.Refs as refs
use Rattle.def_machine.specs.Refs.{Place, Away}
use Rattle.def_machine.specs.Arrive as arrive
use Rattle.def_machine.specs.Arrive.{Incoming, Old, New}
use Rattle.def_machine.specs.Eval as eval
use Rattle.def_kernel.specs.declared.node.Node.{Node}
use Rattle.law_machine.proofs.Machine.Walks.{IsOfName, InRefs, InRefsUnder, InSettling, InSending, walk_then}
use Rattle.law_machine.proofs.Machine.RefsWalk.{settles_by_lines, walk_send_on, walk_inform, walk_settle, walk_resolve, walk_send, walk_send_only, walk_react}
use Rattle.law_fate.proofs.Fates.Leads.{LeadsBy, leads_closed, leads_spend, Leads, Ends, IsLed, IsLedUnder, leads, leads_bind, leads_then, leads_activation}
use Rattle.law_fate.proofs.Fates.TurnLeads.{good_evaluator, leads_turn_value, leads_closes, leads_opening}
use Rattle.law_fate.specs.Name.Names.{AllOf, names_in}
use Rattle.law_fate.proofs.Name.Facts.{all_append}
use Rattle.law_fate.proofs.Name.Among.{names_end}
use Rattle.law_fate.proofs.Name.Tracked.{names_change}
use Rattle.law_frame.proofs.Frame.Ranks.{Starts}
use Rattle.law_frame.proofs.Frame.Grow.{starts_on}

-- a stop may leave any state
abbrev pub Any : Vat Name → Vat Name → Type 0
Any s t = Unit {0}

-- it asks for no gift
abbrev pub IsNoAsk : Note Name → Type 0
IsNoAsk (Ask p i n) = ⊥
IsNoAsk other = Unit {0}

-- names come to be known at the end, and no note is put that asks for a gift
pub record Quiet (s t : Vat Name) : Type 0 where
  pub puts : List (Put Name)
  pub outbox : t.outbox ≡ s.outbox ++ puts
  pub none : AllOf (λ (p : Put Name). IsNoAsk p.note) puts
  pub names : Starts (names_in s.known) (names_in t.known)

same_as : (s t : Vat Name) → names_in t.known ≡ names_in s.known → t.outbox ≡ s.outbox → Quiet s t
same_as s t e f = record { puts = []; outbox = f ∙ sym (append-nil s.outbox); none = tt; names = ([], e ∙ sym (append-nil (names_in s.known))) }

put_on : (s t : Vat Name) (to : ℕ) (n : Note Name) → names_in t.known ≡ names_in s.known → t.outbox ≡ s.outbox ++ record { to = to; note = n } ∷ [] → IsNoAsk n → Quiet s t
put_on s t to n e f k = record { puts = record { to = to; note = n } ∷ []; outbox = f; none = (k, tt); names = ([], e ∙ sym (append-nil (names_in s.known))) }

grown : (s t : Vat Name) (n : Name) (h : ℕ) → t.known ≡ s.known ++ begun n h ∷ [] → t.outbox ≡ s.outbox → Quiet s t
unfolding begun
grown s t n h e f = record { puts = []; outbox = f ∙ sym (append-nil s.outbox); none = tt; names = (n ∷ [], ap names_in e ∙ names_end s.known (begun n h)) }

pub quiet_on : {s t u : Vat Name} → Quiet s t → Quiet t u → Quiet s u
quiet_on {s} {t} {u} h k = record {
  puts = h.puts ++ k.puts;
  outbox = k.outbox ∙ ap (λ ps. ps ++ k.puts) h.outbox ∙ append_assoc s.outbox h.puts k.puts;
  none = all_append (λ (p : Put Name). IsNoAsk p.note) h.puts k.puts h.none k.none;
  names = starts_on (names_in s.known) (names_in t.known) (names_in u.known) h.names k.names;
}

pub base : IsLed Any Quiet
base = record {
  same = λ s. same_as s s refl refl;
  trans = λ h k. quiet_on h k;
  stops = λ s. tt;
  stopped = λ h k. tt;
  fuel = λ s n. same_as s (record s { fuel = s.fuel - n }) refl refl;
  told = λ s e h. same_as s (record s { happened = s.happened ++ e ∷ [] }) refl refl;
  activations = λ s. same_as s (record s { activations = suc s.activations }) refl refl;
  thing = λ s t. same_as s (record s { things = s.things ++ t ∷ [] }) refl refl;
  killed = λ s n. same_as s (record s { things = change dead n s.things }) refl refl;
  slot = λ s c. same_as s (record s { slots = s.slots ++ c ∷ [] }) refl refl;
  written = λ s n y. same_as s (record s { slots = change (holding y) n s.slots }) refl refl;
  list = λ s vs. same_as s (record s { lists = s.lists ++ vs ∷ [] }) refl refl;
}

quiet_tell : (e : Happened Name) → Leads Any Quiet (tell e)
unfolding tell
quiet_tell e = record { after = λ s. same_as s (record s { happened = s.happened ++ e ∷ [] }) refl refl }

quiet_enqueue : (m : Message Name) → Leads Any Quiet (enqueue m)
unfolding enqueue
quiet_enqueue m = record { after = λ s. same_as s (record s { queue = s.queue ++ m ∷ [] }) refl refl }

quiet_mark : (w : ℕ) → Leads Any Quiet (mark {N = Name} w)
unfolding mark
quiet_mark w = record { after = λ s. same_as s (record s { noticed = s.noticed ++ w ∷ [] }) refl refl }

quiet_open_gift : (p i : ℕ) → Leads Any Quiet (open_gift {N = Name} p i)
unfolding open_gift
quiet_open_gift p i = record { after = λ s. same_as s (record s { gifts = with_opened p i s.gifts }) refl refl }

quiet_new_gift : (n : Name) (p i : ℕ) → Leads Any Quiet (new_gift n p i)
unfolding new_gift
quiet_new_gift n p i = record { after = λ s. same_as s (record s { gifts = s.gifts ++ record { name = n; provider = p; number = i; opened = false } ∷ [] }) refl refl }

quiet_out : (to : ℕ) (n : Note Name) → IsNoAsk n → Leads Any Quiet (send_out to n)
unfolding send_out
quiet_out to n k = record { after = λ s. put_on s (record s { outbox = s.outbox ++ record { to = to; note = n } ∷ [] }) to n refl refl k }

quiet_deliver_note : (to : ℕ) (m : Delivery Name) (n : Name) (verb : Words) (ys : Passeds Name) → Leads Any Quiet (send_out to (Deliver m n verb ys))
quiet_deliver_note to m n verb ys = quiet_out to (Deliver m n verb ys) tt

quiet_open_note : (to i : ℕ) (n : Name) → Leads Any Quiet (send_out to (Open i n))
quiet_open_note to i n = quiet_out to (Open i n) tt

quiet_settled_note : (to : ℕ) (n : Name) (y : Passed Name) → Leads Any Quiet (send_out to (SettledTo n y))
quiet_settled_note to n y = quiet_out to (SettledTo n y) tt

quiet_elsewhere_note : (to : ℕ) (n : Name) (c : ℕ) → Leads Any Quiet (send_out to (Elsewhere n c))
quiet_elsewhere_note to n c = quiet_out to (Elsewhere n c) tt

draws_after : (s : Vat Name) (w : ℕ) (o : Option ℕ) → Ends Any Quiet s (draws w o s)
unfolding draws
draws_after s w (Some i) = tt
draws_after s w None = same_as s (record s { drawn = s.drawn ++ w ∷ [] }) refl refl

module _ (K : Naming Name Name) where
  quiet_draw : Leads Any Quiet (draw K)
  unfolding draw
  quiet_draw = record { after = λ s. draws_after s (K.word (length s.drawn)) (drawn_at zero (K.word (length s.drawn)) s.drawn) }

  quiet_alter : (c : Change Name) (n : Name) → Leads Any Quiet (alter K c n)
  unfolding alter
  quiet_alter c n = record { after = λ s. same_as s (record s { known = with_change K c n s.known }) (names_change K c n s.known) refl }

  quiet_come : (c : Coming Name Name) (h : ℕ) → Leads Any Quiet (come K c h)
  unfolding come
  quiet_come c h = record { after = λ s. grown s (record s { known = s.known ++ begun (K.made c (length s.known)) h ∷ [] }) (K.made c (length s.known)) h refl refl }

  quiet_mail : (c : Mailing Name) → Leads Any Quiet (mail K c)
  unfolding mail
  quiet_mail c = record { after = λ s. same_as s (record s { mails = s.mails ++ K.mailed c (length s.mails) ∷ [] }) refl refl }

  quiet_message : (h : ℕ) → Leads Any Quiet (new_message K h)
  unfolding new_message
  quiet_message h = record { after = λ s. grown s _ _ h refl refl }

quiet_lone : (K : Naming Name Name) → Leads Any Quiet (new_lone_message K)
unfolding new_lone_message
quiet_lone K = record { after = λ s. same_as s (record s { messages = suc s.messages; mails = s.mails ++ K.mailed (IsSent s.messages) (length s.mails) ∷ [] }) refl refl }

ruleset quiet = (quiet_tell, quiet_enqueue, quiet_mark, quiet_open_gift, quiet_new_gift, quiet_deliver_note, quiet_open_note, quiet_settled_note, quiet_elsewhere_note, quiet_draw, quiet_alter, quiet_come, quiet_mail, quiet_message)

abbrev QuietSettler : (Name → Value Name → Act Name (Unit {0})) → Type 0
QuietSettler settle = (p : Name) (y : Value Name) → Leads Any Quiet (settle p y)

module _ (K : Naming Name Name) where
  -- ---- references

  in_refs : InRefs (LeadsBy Any Quiet)
  in_refs = record { tells = λ e h. quiet_tell e; spends = leads_spend Any Quiet base; queues = quiet_enqueue; puts = puts }
    where
      puts : (to : ℕ) (n : Note Name) → IsOfName n → Leads Any Quiet (send_out to n)
      puts to (Deliver m n verb ys) h = quiet_out to (Deliver m n verb ys) tt
      puts to (Open i n) h = quiet_out to (Open i n) tt
      puts to (SettledTo n y) h = quiet_out to (SettledTo n y) tt
      puts to (Elsewhere n c) h = quiet_out to (Elsewhere n c) tt
      puts to other h = absurd h

  in_refs_under : InRefsUnder (LeadsBy Any Quiet) K
  in_refs_under = record { alters = λ c n h. quiet_alter K c n; comes = quiet_come K; draws = quiet_draw K }

  in_settling : InSettling (LeadsBy Any Quiet) K
  in_settling = settles_by_lines (LeadsBy Any Quiet) K (leads_closed Any Quiet base) in_refs in_refs_under (λ p y m h. walk_then (LeadsBy Any Quiet) (leads_closed Any Quiet base) (quiet_tell (Settles p y)) (walk_then (LeadsBy Any Quiet) (leads_closed Any Quiet base) (quiet_alter K (Settle y) p) h))

  in_sending : InSending (LeadsBy Any Quiet) K
  in_sending = record { messages = quiet_message K; lone_messages = quiet_lone K; sends = λ a m. quiet_tell (Sends a m); reacts = λ a x o m. quiet_tell (Reacts a x o m) }

  quiet_send_on : (settle : Name → Value Name → Act Name (Unit {0})) → QuietSettler settle → (m : Message Name) → Leads Any Quiet (refs.send_on K settle m)
  quiet_send_on = walk_send_on (LeadsBy Any Quiet) K (leads_closed Any Quiet base) in_refs in_refs_under

  quiet_inform : (p : Name) (w : ℕ) → Leads Any Quiet (refs.inform K p w)
  quiet_inform = walk_inform (LeadsBy Any Quiet) K (leads_closed Any Quiet base) in_refs in_refs_under

  pub quiet_settle : QuietSettler (refs.settle K)
  quiet_settle = walk_settle (LeadsBy Any Quiet) K (leads_closed Any Quiet base) in_refs in_refs_under in_settling

  quiet_resolve : QuietSettler (refs.resolve K)
  quiet_resolve = walk_resolve (LeadsBy Any Quiet) K (leads_closed Any Quiet base) in_refs in_refs_under in_settling

  quiet_send : (act : ℕ) (x : Value Name) (verb : Words) (args : List (Value Name)) → Leads Any Quiet (refs.send K act x verb args)
  quiet_send = walk_send (LeadsBy Any Quiet) K (leads_closed Any Quiet base) in_refs in_refs_under in_settling in_sending

  quiet_send_only : (act : ℕ) (x : Value Name) (verb : Words) (args : List (Value Name)) → Leads Any Quiet (refs.send_only K act x verb args)
  quiet_send_only = walk_send_only (LeadsBy Any Quiet) K (leads_closed Any Quiet base) in_refs in_refs_under in_settling in_sending

  quiet_react : (act : ℕ) (x o near : Value Name) → Leads Any Quiet (refs.react K act x o near)
  quiet_react = walk_react (LeadsBy Any Quiet) K (leads_closed Any Quiet base) in_refs in_refs_under in_settling in_sending

  under : IsLedUnder K Any Quiet
  under = record { promised = λ s. grown s _ _ s.number refl refl; breaks = λ p t. quiet_settle p (Broken t); resolves = quiet_resolve; sends = quiet_send; sends_only = quiet_send_only; reacts = quiet_react }

  -- ---- turns

  pub quiet_taking : (tree : List Node) (depth : ℕ) (m : Message Name) → Leads Any Quiet (eval.taking K tree depth m)
  unfolding eval.taking
  quiet_taking tree depth m = leads_bind Any Quiet base (leads_activation Any Quiet base) (λ a. leads_then Any Quiet base (quiet_tell (Took a m))
      (leads_closes K Any Quiet base under tree a m.answer _ (leads_turn_value K Any Quiet base under tree (eval.evaluator K tree depth) (good_evaluator K Any Quiet base under tree depth) a m.target m.verb m.args)))

  pub quiet_opening : (tree : List Node) (depth : ℕ) (root : Name) (given : List (Binding Name)) → Leads Any Quiet (eval.opening K tree depth root given)
  quiet_opening tree depth root given = leads_opening K Any Quiet base under tree depth root given

  -- ---- gifts at their host, what arrives once it is learnt, and notices

  pub quiet_learn_name : (x : Incoming Name Name) → Leads Any Quiet (arrive.learn_name K x)
  unfolding arrive.learn_name
  quiet_learn_name (Old n) = search (leads, base)
  quiet_learn_name (New x h) = search (leads, quiet)

  pub quiet_learn_message : (x : Incoming Name Name) → Leads Any Quiet (arrive.learn_message K x)
  unfolding arrive.learn_message
  quiet_learn_message (Old n) = search (leads, base)
  quiet_learn_message (New x h) = search (leads, quiet)

  quiet_gift_or_new : (v p i : ℕ) (o : Option (GiftEntry Name)) → Leads Any Quiet (arrive.gift_or_new K v p i o)
  unfolding arrive.gift_or_new
  quiet_gift_or_new v p i (Some g) = search (leads, base)
  quiet_gift_or_new v p i None = search (leads, quiet, base) depth 14

  pub quiet_have_gift : (p i : ℕ) → Leads Any Quiet (arrive.have_gift K p i)
  unfolding arrive.have_gift
  quiet_have_gift p i = search (leads, base, quiet_gift_or_new) depth 14

  quiet_break_at : (n : Name) (p : Words) (t : Standing Name) → Leads Any Quiet (arrive.break_at K n p t)
  unfolding arrive.break_at
  quiet_break_at n p (Settled y) = search (leads, base)
  quiet_break_at n p _ = quiet_settle n _

  quiet_break_unopened : (n : Name) (b : Bool) → Leads Any Quiet (arrive.break_unopened K n b)
  unfolding arrive.break_unopened
  quiet_break_unopened n true = search (leads, base)
  quiet_break_unopened n false = search (leads, base, quiet_break_at) depth 14

  quiet_tell_asker : (n : Name) (w : ℕ) (t : Standing Name) → Leads Any Quiet (arrive.tell_asker K n w t)
  unfolding arrive.tell_asker
  quiet_tell_asker n w (Settled y) = quiet_inform n w
  quiet_tell_asker n w _ = search (leads, quiet)

  quiet_break_orphan : (p i : ℕ) (n : Name) → Leads Any Quiet (arrive.break_orphan K p i n)
  unfolding arrive.break_orphan
  quiet_break_orphan p i n = search (leads, base, quiet_break_unopened) depth 14

  pub quiet_arrive_ask : (from p i : ℕ) → Leads Any Quiet (arrive.arrive_ask K from p i)
  unfolding arrive.arrive_ask
  quiet_arrive_ask from p i = search (leads, base, quiet_have_gift, quiet_break_orphan, quiet_tell_asker) depth 16

  pub quiet_arrive_open : (from i : ℕ) (x : Incoming Name Name) → Leads Any Quiet (arrive.arrive_open K from i x)
  unfolding arrive.arrive_open
  quiet_arrive_open from i x = search (leads, quiet, base, quiet_learn_name, quiet_have_gift, quiet_resolve) depth 16

  quiet_shorten_to : (i : ℕ) (p : Place Name) → Leads Any Quiet (arrive.shorten_to K i p)
  unfolding arrive.shorten_to
  quiet_shorten_to i (Away h n true) = search (leads, quiet)
  quiet_shorten_to i _ = search (leads, base)

  pub quiet_arrive_shorten : (x : Incoming Name Name) (i : ℕ) → Leads Any Quiet (arrive.arrive_shorten K x i)
  unfolding arrive.arrive_shorten
  quiet_arrive_shorten x i = search (leads, base, quiet_learn_name, quiet_shorten_to) depth 14

  pub quiet_see : (n g : Name) → Leads Any Quiet (arrive.see K n g)
  unfolding arrive.see
  quiet_see n g = search (leads, quiet, base) depth 14

  pub quiet_make_list : (vs : List (Value Name)) → Leads Any Quiet (arrive.make_list K vs)
  unfolding arrive.make_list
  quiet_make_list vs = search (leads, quiet, base) depth 14

  -- the message is sent on
  quiet_answered : (b : Bool) (from : ℕ) (id n : Name) (verb : Words) (args : List (Value Name)) → Leads Any Quiet (if b then arrive.send_on_asked K from id n verb args else refs.send_on K (refs.settle K) (record { id = id; target = Ref n; verb = verb; args = args; answer = None }))
  unfolding arrive.send_on_asked
  quiet_answered true from id n verb args = let sends = quiet_send_on (refs.settle K) quiet_settle in search (leads, quiet, base) depth 20
  quiet_answered false from id n verb args = quiet_send_on (refs.settle K) quiet_settle (record { id = id; target = Ref n; verb = verb; args = args; answer = None })

  pub quiet_sent : (b : Bool) (from : ℕ) (x : Incoming Name Name) (verb : Words) (id : Name) (args : List (Value Name)) → Leads Any Quiet (arrive.learn_name K x >>= (λ n. if b then arrive.send_on_asked K from id n verb args else refs.send_on K (refs.settle K) (record { id = id; target = Ref n; verb = verb; args = args; answer = None })))
  quiet_sent b from x verb id args = let sends = λ (n : Name). quiet_answered b from id n verb args in search (leads, base, quiet_learn_name) depth 20

  quiet_break_hosted : (w : ℕ) (n : Name) (p : Words) (t : Standing Name) → Leads Any Quiet (arrive.break_hosted K w n p t)
  unfolding arrive.break_hosted
  quiet_break_hosted w n p (Viewed q) = search (leads, base)
  quiet_break_hosted w n p (Settled y) = search (leads, base)
  quiet_break_hosted w n p other = quiet_settle n _

  quiet_notice_name : (w : ℕ) (k : Known Name) → Leads Any Quiet (arrive.notice_name K w k)
  unfolding arrive.notice_name
  quiet_notice_name w k = search (leads, base, quiet_break_hosted) depth 14

  quiet_notice_gift : (w : ℕ) (g : GiftEntry Name) → Leads Any Quiet (arrive.notice_gift K w g)
  unfolding arrive.notice_gift
  quiet_notice_gift w g = search (leads, base, quiet_break_unopened) depth 14

  quiet_notice_all : (w : ℕ) → Leads Any Quiet (arrive.notice_all K w)
  unfolding arrive.notice_all
  quiet_notice_all w = search (leads, quiet, base, quiet_notice_name, quiet_notice_gift) depth 20

  pub quiet_notice : (w : ℕ) → Leads Any Quiet (arrive.notice K w)
  unfolding arrive.notice
  quiet_notice w = search (leads, base, quiet_notice_all) depth 14
