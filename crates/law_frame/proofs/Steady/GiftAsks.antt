-- A step asks for gifts that come to be known in it, each once.
use Rattle.std.proofs.Common.{◌≡◌, ℕ, zero, Bool, true, false, List, [], ◌∷◌, ◌++◌, Option, Some, None, refl, sym, ap, subst, ◌∙◌, ◌⊎◌, inl, inr, append_assoc, append-nil, if◌then◌else◌, codes, length}
use Rattle.def_machine.specs.Values.{Value, Null, Flag, Number, Letter, Text, Prim, Broken, Items, Ref, Name, Gift, Naming, IsGift, naming, name_of, under}
use Rattle.def_machine.specs.State.{Passed, Passeds, Plain, AGift, Many, NoMore, More, Note, Deliver, Open, Ask, SettledTo, Elsewhere, Shorten, Put, Vat, Done, Gives, Stops, Act, ◌>>=◌, ◌>>◌, and_then, give, look, drawn_at, draws, draw, come, send_out, is_in, begun}
use Rattle.def_machine.specs.Refs as refs
use Rattle.def_machine.specs.Refs.{host_at}
use Rattle.def_machine.specs.Arrive as arrive
use Rattle.def_machine.specs.Arrive.{Incoming}
use Rattle.def_run.specs.Draws.{draw_word}
use Rattle.def_run.specs.World.{Script, World, names, readied}
use Rattle.law_machine.specs.Machine.Steps.{Step, Opens as Starts, Takes, Receives, Notices, does}
use Rattle.law_fate.proofs.Fates.Leads.{Leads, Ends, IsLed, widen, leads_bind, leads_then, leads_if, leads_give, leads_look}
use Rattle.law_fate.specs.Name.Names.{AllOf, IsAmong, Once, names_in}
use Rattle.law_fate.proofs.Name.Among.{names_end}
use Rattle.law_reference.proofs.Reference.Moves.{Does}
use Rattle.law_frame.proofs.Frame.AlikeAsking as quiet
use Rattle.law_frame.proofs.Frame.AlikeAsking.{Any, IsNoAsk, Quiet, quiet_settle, quiet_taking, quiet_opening, quiet_notice, quiet_learn_name, quiet_learn_message, quiet_have_gift, quiet_arrive_ask, quiet_arrive_open, quiet_arrive_shorten, quiet_see, quiet_make_list, quiet_sent}

-- ---- some of a list, in order

abbrev pub IsPart : List Name → List Name → Type 0
IsPart qs [] = qs ≡ []
IsPart qs (n ∷ ns) = IsPart qs ns ⊎ ((bs : List Name) × (qs ≡ n ∷ bs) × IsPart bs ns)

pub part_among : (qs ns : List Name) (x : Name) → IsPart qs ns → IsAmong x qs → IsAmong x ns
part_among qs [] x h a = subst (λ zs. IsAmong x zs) h a
part_among qs (n ∷ ns) x (inl h) a = inr (part_among qs ns x h a)
part_among qs (n ∷ ns) x (inr (bs, e, h)) a = go (λ i. part_among bs ns x h i) (subst (λ zs. IsAmong x zs) e a)
  where
    go : (IsAmong x bs → IsAmong x ns) → IsAmong x (n ∷ bs) → IsAmong x (n ∷ ns)
    go f (inl i) = inl i
    go f (inr i) = inr (f i)

pub part_once : (qs ns : List Name) → IsPart qs ns → Once ns → Once qs
part_once qs [] h o = subst (λ (zs : List Name). Once zs) (sym h) tt
part_once qs (n ∷ ns) (inl h) o = part_once qs ns h o.1
part_once qs (n ∷ ns) (inr (bs, e, h)) o = subst (λ (zs : List Name). Once zs) (sym e) ((λ a. o.0 (part_among bs ns n h a)), part_once bs ns h o.1)

part_append : (qs ns bs ms : List Name) → IsPart qs ns → IsPart bs ms → IsPart (qs ++ bs) (ns ++ ms)
part_append qs [] bs ms h k = subst (λ zs. IsPart (zs ++ bs) ms) (sym h) k
part_append qs (n ∷ ns) bs ms (inl h) k = inl (part_append qs ns bs ms h k)
part_append qs (n ∷ ns) bs ms (inr (cs, e, h)) k = inr (cs ++ bs, ap (λ zs. zs ++ bs) e, part_append cs ns bs ms h k)

none_part : (ns : List Name) → IsPart [] ns
none_part [] = refl
none_part (n ∷ ns) = inl (none_part ns)

-- ---- the gifts for which notes ask

unfoldable pub with_ask : Note Name → List Name → List Name
with_ask (Ask p i n) ns = n ∷ ns
with_ask other ns = ns

unfoldable pub gifts_asked : List (Put Name) → List Name
gifts_asked [] = []
gifts_asked (p ∷ ps) = with_ask p.note (gifts_asked ps)

ask_front : (n : Note Name) (qs bs : List Name) → with_ask n (qs ++ bs) ≡ with_ask n qs ++ bs
unfolding with_ask
ask_front (Ask p i n) qs bs = refl
ask_front other qs bs = refl

gifts_twice : (ps qs : List (Put Name)) → gifts_asked (ps ++ qs) ≡ gifts_asked ps ++ gifts_asked qs
unfolding gifts_asked
gifts_twice [] qs = refl
gifts_twice (p ∷ ps) qs = ap (with_ask p.note) (gifts_twice ps qs) ∙ ask_front p.note (gifts_asked ps) (gifts_asked qs)

no_ask : (n : Note Name) (ns : List Name) → IsNoAsk n → with_ask n ns ≡ ns
unfolding with_ask
no_ask (Ask p i n) ns h = absurd h
no_ask other ns h = refl

none_asked : (ps : List (Put Name)) → AllOf (λ (p : Put Name). IsNoAsk p.note) ps → gifts_asked ps ≡ []
unfolding gifts_asked
none_asked [] h = refl
none_asked (p ∷ ps) h = no_ask p.note (gifts_asked ps) h.0 ∙ none_asked ps h.1

-- ---- from state to state

-- Names come to be known at the end, and the gifts for which the notes ask that were put are some of these, in order.
pub record Gifted (s t : Vat Name) : Type 0 where
  pub puts : List (Put Name)
  pub outbox : t.outbox ≡ s.outbox ++ puts
  pub came : List Name
  pub grows : names_in t.known ≡ names_in s.known ++ came
  pub part : IsPart (gifts_asked puts) came

from_quiet : {s t : Vat Name} → Quiet s t → Gifted s t
from_quiet q = record { puts = q.puts; outbox = q.outbox; came = q.names.0; grows = q.names.1; part = subst (λ zs. IsPart zs q.names.0) (sym (none_asked q.puts q.none)) (none_part q.names.0) }

gifted_on : {s t u : Vat Name} → Gifted s t → Gifted t u → Gifted s u
gifted_on {s} {t} {u} h k = record {
  puts = h.puts ++ k.puts;
  outbox = k.outbox ∙ ap (λ ps. ps ++ k.puts) h.outbox ∙ append_assoc s.outbox h.puts k.puts;
  came = h.came ++ k.came;
  grows = k.grows ∙ ap (λ ns. ns ++ k.came) h.grows ∙ append_assoc (names_in s.known) h.came k.came;
  part = subst (λ zs. IsPart zs (h.came ++ k.came)) (sym (gifts_twice h.puts k.puts)) (part_append (gifts_asked h.puts) h.came (gifts_asked k.puts) k.came h.part k.part);
}

base : IsLed Any Gifted
base = let q = quiet.base in record {
  same = λ s. from_quiet (q.same s);
  trans = λ h k. gifted_on h k;
  stops = λ s. tt;
  stopped = λ h k. tt;
  fuel = λ s n. from_quiet (q.fuel s n);
  told = λ s e h. from_quiet (q.told s e h);
  activations = λ s. from_quiet (q.activations s);
  thing = λ s t. from_quiet (q.thing s t);
  killed = λ s n. from_quiet (q.killed s n);
  slot = λ s c. from_quiet (q.slot s c);
  written = λ s n y. from_quiet (q.written s n y);
  list = λ s vs. from_quiet (q.list s vs);
}

quiet_ends : {A : Type 0} (s : Vat Name) (d : Done Name A) → Ends Any Quiet s d → Ends Any Gifted s d
quiet_ends s (Stops c t) h = tt
quiet_ends s other h = from_quiet h

lifted : {A : Type 0} {m : Act Name A} → Leads Any Quiet m → Leads Any Gifted m
lifted {m = m} h = record { after = λ s. quiet_ends s (m s) (h.after s) }

-- a name comes to be known
grown : (s : Vat Name) (n : Name) (h : ℕ) → Gifted s (record s { known = s.known ++ begun n h ∷ [] })
unfolding begun gifts_asked
grown s n h = record { puts = []; outbox = sym (append-nil s.outbox); came = n ∷ []; grows = names_end s.known (begun n h); part = none_part (n ∷ []) }

-- and is asked for
asked : (s : Vat Name) (n : Name) (h p i : ℕ) → Gifted s (record s { known = s.known ++ begun n h ∷ []; outbox = s.outbox ++ record { to = h; note = Ask p i n } ∷ [] })
unfolding begun gifts_asked with_ask
asked s n h p i = record { puts = record { to = h; note = Ask p i n } ∷ []; outbox = refl; came = n ∷ []; grows = names_end s.known (begun n h); part = inr ([], refl, refl) }

module _ (word : ℕ → ℕ) (v : ℕ) where
  abbrev K : Naming Name Name
  K = naming word v

  -- ---- learning

  gift_either : (p h i : ℕ) (s : Vat Name) (b : Bool) → Ends Any Gifted s (and_then ((if b then refs.settle K (Gift h i) (Broken (codes "partition")) else send_out h (Ask p i (Gift h i))) (record s { known = s.known ++ begun (Gift h i) h ∷ [] })) (λ _. give (Ref (Gift h i))))
  unfolding and_then give send_out ◌>>◌
  gift_either p h i s true = let t : Vat Name = record s { known = s.known ++ begun (Gift h i) h ∷ [] } in
      widen Any Gifted base (grown s (Gift h i) h) (and_then (refs.settle K (Gift h i) (Broken (codes "partition")) t) (λ _. give (Ref (Gift h i)))) ((leads_then Any Gifted base (lifted (quiet_settle K (Gift h i) (Broken (codes "partition")))) (leads_give Any Gifted base (Ref (Gift h i)))).after t)
  gift_either p h i s false = asked s (Gift h i) h p i

  gift_leads : (p h i : ℕ) → Leads Any Gifted (arrive.learn_gift K p h i)
  unfolding arrive.learn_gift arrive.ask_for ◌>>=◌ ◌>>◌ and_then look come naming name_of
  gift_leads p h i = record { after = λ s. gift_either p h i s (is_in h s.noticed) }

  value_leads : (y : Value (Incoming Name Name)) → Leads Any Gifted (arrive.learn_value K y)
  unfolding arrive.learn_value
  value_leads Null = leads_give Any Gifted base Null
  value_leads (Flag b) = leads_give Any Gifted base (Flag b)
  value_leads (Number z) = leads_give Any Gifted base (Number z)
  value_leads (Letter c) = leads_give Any Gifted base (Letter c)
  value_leads (Text t) = leads_give Any Gifted base (Text t)
  value_leads (Prim i) = leads_give Any Gifted base (Prim i)
  value_leads (Broken t) = leads_give Any Gifted base (Broken t)
  value_leads (Items k) = leads_give Any Gifted base (Items k)
  value_leads (Ref x) = leads_bind Any Gifted base (lifted (quiet_learn_name K x)) (λ n. leads_give Any Gifted base (Ref n))

  mutual
    unfolding arrive.learn arrive.learn_all

    learn_leads : (p : ℕ) (y : Passed (Incoming Name Name)) → Leads Any Gifted (arrive.learn K p y)
    learn_leads p (Plain y) = value_leads y
    learn_leads p (AGift h i) = gift_leads p h i
    learn_leads p (Many ys) = leads_bind Any Gifted base (all_leads p ys) (λ vs. lifted (quiet_make_list K vs))

    all_leads : (p : ℕ) (ys : Passeds (Incoming Name Name)) → Leads Any Gifted (arrive.learn_all K p ys)
    all_leads p NoMore = leads_give Any Gifted base []
    all_leads p (More y ys) = leads_bind Any Gifted base (learn_leads p y) (λ z. leads_bind Any Gifted base (all_leads p ys) (λ zs. leads_give Any Gifted base (z ∷ zs)))

  -- ---- the view of a name

  draws_ends : (s : Vat Name) (w : ℕ) (o : Option ℕ) → Ends Any Gifted s (draws w o s)
  unfolding draws gifts_asked
  draws_ends s w (Some i) = tt
  draws_ends s w None = record { puts = []; outbox = sym (append-nil s.outbox); came = []; grows = sym (append-nil (names_in s.known)); part = refl }

  draw_leads : Leads Any Gifted (draw K)
  unfolding draw
  draw_leads = record { after = λ s. draws_ends s (K.word (length s.drawn)) (drawn_at zero (K.word (length s.drawn)) s.drawn) }

  there_leads : (h c i : ℕ) (b : Bool) → Leads Any Gifted (if b then arrive.have_gift K h i else (come K (IsGift c i) c >>= (λ g. send_out c (Ask h i g) >> give g)))
  unfolding come ◌>>=◌ ◌>>◌ and_then give send_out naming name_of
  there_leads h c i true = lifted (quiet_have_gift K h i)
  there_leads h c i false = record { after = λ s. asked s (Gift c i) c h i }

  gift_there_leads : (u h c i : ℕ) → Leads Any Gifted (arrive.gift_there K u h c i)
  unfolding arrive.gift_there
  gift_there_leads u h c i = there_leads h c i _

  shorten_leads : (h c i : ℕ) (n : Name) → Leads Any Gifted (send_out h (Shorten n c i))
  unfolding send_out gifts_asked with_ask
  shorten_leads h c i n = record { after = λ s. record { puts = record { to = h; note = Shorten n c i } ∷ []; outbox = refl; came = []; grows = sym (append-nil (names_in s.known)); part = refl } }

  view_leads : (n : Name) (c : ℕ) → Leads Any Gifted (arrive.view_there K n c)
  unfolding arrive.view_there
  view_leads n c = leads_bind Any Gifted base (leads_look Any Gifted base (λ s. s.number)) (λ u. leads_bind Any Gifted base (leads_look Any Gifted base (λ s. host_at K s.number s.known n)) (λ h.
      leads_bind Any Gifted base draw_leads (λ i. leads_then Any Gifted base (shorten_leads h c (under h i) n)
      (leads_bind Any Gifted base (gift_there_leads u h c (under h i)) (λ g. lifted (quiet_see K n g))))))

  -- ---- whole notes

  arrive_leads : (from : ℕ) (n : Note (Incoming Name Name)) → Leads Any Gifted (arrive.arrive K from n)
  unfolding arrive.arrive arrive.arrive_deliver arrive.arrive_settled arrive.arrive_elsewhere
  arrive_leads from (Deliver d x verb ys) = leads_bind Any Gifted base (lifted (quiet_learn_message K d.message)) (λ id. leads_bind Any Gifted base (all_leads from ys) (λ args. lifted (quiet_sent K d.asks from x verb id args)))
  arrive_leads from (Open i x) = lifted (quiet_arrive_open K from i x)
  arrive_leads from (Ask p i x) = lifted (quiet_arrive_ask K from p i)
  arrive_leads from (SettledTo x y) = leads_bind Any Gifted base (lifted (quiet_learn_name K x)) (λ n. leads_bind Any Gifted base (learn_leads from y) (λ z. lifted (quiet_settle K n z)))
  arrive_leads from (Elsewhere x c) = leads_bind Any Gifted base (lifted (quiet_learn_name K x)) (λ n. leads_bind Any Gifted base (leads_look Any Gifted base (λ s. is_in c s.noticed)) (λ gone. leads_if Any Gifted base gone (lifted (quiet_settle K n (Broken (codes "partition")))) (view_leads n c)))
  arrive_leads from (Shorten x c i) = lifted (quiet_arrive_shorten K x i)

  does_leads : (what : Step Name Name) → Leads Any Gifted (does K what)
  unfolding does
  does_leads (Starts tree depth root given) = lifted (quiet_opening K tree depth root given)
  does_leads (Takes tree depth m) = lifted (quiet_taking K tree depth m)
  does_leads (Receives from n) = arrive_leads from n
  does_leads (Notices w) = lifted (quiet_notice K w)

gives_gifted : (s t : Vat Name) (d : Done Name (Unit {0})) → Ends Any Gifted s d → d ≡ Gives tt t → Gifted s t
gives_gifted s t d h e = rw e at h

-- in a step of a vat of the run
pub step_gifted : (script : Script) (w : World) (v : ℕ) (s q t : Vat Name) (what : Step Name Name) → Does script w v s q t what → Gifted (readied w q) t
unfolding names
step_gifted script w v s q t what d = gives_gifted (readied w q) t _ ((does_leads (draw_word script.key) v what).after (readied w q)) d.gives
