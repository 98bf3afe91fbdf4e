-- In a run each carry of a message is one small step.
use Rattle.std.proofs.Common.{◌≡◌, ℕ, zero, suc, ◌+◌, ◌≤◌, Bool, true, false, List, [], ◌∷◌, ◌++◌, Option, Some, None, refl, sym, subst, ◌∙◌, inl, inr, append_assoc}
use Rattle.std.specs.Prelude.{slice_get}
use Rattle.def_machine.specs.Values.{Words, Value, Name, Answer, host_of}
use Rattle.def_machine.specs.State.{Passed, Passeds, Plain, AGift, Many, NoMore, More, Delivery, Note, Deliver, Vat, Gives}
use Rattle.def_machine.specs.Refs as refs
use Rattle.def_run.specs.World as world
use Rattle.def_run.specs.World.{Script, Entry, Carry, Event, Link, World, Goes, names, readied, link_at, with_link, pushed}
use Rattle.law_machine.specs.Run.Moves.{IsReached}
use Rattle.law_machine.proofs.Run.Honest.{honest_reached}
use Rattle.law_machine.specs.Machine.Laws.{SettledStays}
use Rattle.law_fate.specs.Name.Names.{IsAmong, AllOf, HostIsTrue, names_in}
use Rattle.law_fate.specs.Name.Runs.{KnowsOnce}
use Rattle.law_fate.specs.Fates.Fate.{sent}
use Rattle.law_fate.specs.Fates.Carry.{carries, world_weight}
use Rattle.law_fate.specs.Fates.CarryRuns.{WorldSound}
use Rattle.law_fate.specs.Fates.Lasting.{Each}
use Rattle.law_fate.specs.Fates.Sound.{NoteSound}
use Rattle.law_fate.specs.Fates.WholeFateRuns.{KnowsVats}
use Rattle.law_fate.proofs.Fates.RunLight.{carries_and_weight, messages_go_to_hosts}
use Rattle.law_reference.proofs.Reference.VatStep.{link_all}
use Rattle.law_order.specs.Ordering.Worlds.{IsObject}
use Rattle.law_order.specs.Ordering.Messages.{StandsOnce}
use Rattle.law_order.specs.Ordering.Steps.{Ready}
use Rattle.law_order.specs.Ordering.Arrivals.{keeping, IsOpenWay}
use Rattle.law_order.specs.Ordering.Places.{item, ways}
use Rattle.law_order.specs.Ordering.Order.{comes}
use Rattle.law_order.proofs.Ordering.Sends.{get_put, found_ends}
use Rattle.law_order.specs.Carries.Carries.{BearsMessage, CanCarry, CarryKeeps, OrderKept, IsNotNext, AllNotNext}
use Rattle.law_order.specs.Runs.Reaching.{IsOfVat}
use Rattle.law_order.proofs.Runs.Beginnings.{reached_is, each_all, vats_are_ready}
use Rattle.law_order.proofs.Runs.Bearing.{can_carry}
use Rattle.law_order.proofs.Runs.ClosedRuns.{names_are_of_vats, links_are_there, carries_keep_in_closed_runs}
use Rattle.law_order.proofs.Runs.Once.{messages_stand_once}
use Rattle.law_order.specs.Asks.Asks.{Bears}
use Rattle.law_order.specs.History.Befores.{Brings, TellsOrder}
use Rattle.law_order.specs.History.Passings.{CanPass}
use Rattle.law_order.specs.History.Tells.{Tale, over, then_on}
use Rattle.law_order.specs.History.Told.{IsOfRun, entered}
use Rattle.law_order.specs.Tales.Entries.{GoesBy}
use Rattle.law_order.specs.Tales.Middle.{MovesNone}
use Rattle.law_order.proofs.Tales.Arriving as arriving
use Rattle.law_order.proofs.Tales.Arriving.{ended_is}
use Rattle.law_order.proofs.Tales.Begun.{ended}
use Rattle.law_order.proofs.Tales.Receivers.{receiver}
use Rattle.law_order.specs.Sending.Came.{IsHadAs, AreHadAs}
use Rattle.law_order.proofs.Sending.Passing.{can_pass}
use Rattle.law_order.proofs.Sending.Views.{ViewsRest}
use Rattle.law_order.specs.MessageTales.Tales.{CarriesOfMessagesAreTales}
use Rattle.law_order.proofs.MessageTales.Arrival.{Arrived}
use Rattle.law_order.proofs.MessageTales.Calm.{Calm}
use Rattle.law_order.proofs.MessageTales.Carry as carrying
use Rattle.law_order.proofs.MessageTales.Learnt.{IsHaving}
use Rattle.law_order.proofs.MessageTales.NewHere.{ends_apart, new_here}
use Rattle.law_order.proofs.MessageTales.Reaching as reaching
use Rattle.law_order.proofs.MessageTales.Reaching.{IsAtRest}
use Rattle.law_order.proofs.MessageTales.Rests.{rests}
use Rattle.law_order.proofs.MessageTales.Small as small

-- ---- what the vat has for what was told

lists_more : (ls ms : List (List (Value Name))) (k : ℕ) (vs : List (Value Name)) → slice_get ls k ≡ Some vs → slice_get (ls ++ ms) k ≡ Some vs
lists_more [] ms zero vs e = absurd (let f : ◌≡◌ {A = Option (List (Value Name))} None (Some vs) = e in cc)
lists_more [] ms (suc k) vs e = absurd (let f : ◌≡◌ {A = Option (List (Value Name))} None (Some vs) = e in cc)
lists_more (l ∷ ls) ms zero vs e = e
lists_more (l ∷ ls) ms (suc k) vs e = lists_more ls ms k vs e

mutual
  had_more : (ls ms : List (List (Value Name))) (y : Passed Name) (x : Value Name) → IsHadAs ls y x → IsHadAs (ls ++ ms) y x
  had_more ls ms (Plain y) x h = h
  had_more ls ms (AGift g i) x h = h
  had_more ls ms (Many ys) x h = (h.0, h.1, h.2, lists_more ls ms h.0 h.1 h.3, all_had_more ls ms ys h.1 h.4)

  all_had_more : (ls ms : List (List (Value Name))) (ys : Passeds Name) (xs : List (Value Name)) → AreHadAs ls ys xs → AreHadAs (ls ++ ms) ys xs
  all_had_more ls ms NoMore [] h = tt
  all_had_more ls ms NoMore (x ∷ xs) h = absurd h
  all_had_more ls ms (More y ys) [] h = absurd h
  all_had_more ls ms (More y ys) (x ∷ xs) h = (had_more ls ms y x h.0, all_had_more ls ms ys xs h.1)

having : IsHaving IsHadAs AreHadAs
having = record {
  plain = λ ls y. refl;
  gift = λ ls h i. refl;
  many = λ ls ys k vs e h. (k, vs, refl, e, h);
  none = λ ls. tt;
  one_more = λ ls y ys x xs h i. (h, i);
  later = had_more;
  all_later = all_had_more;
}

-- ---- the carry in a run

module _ (script : Script) (once : KnowsOnce script) (knows : KnowsVats script) (honest : ℕ → Bool) (everyone : (u : ℕ) → honest u ≡ true) (rest : (w : World) → IsOfRun script w → IsAtRest script honest w)
    (d : Delivery Name) (n : Name) (verb : Words) (ys : Passeds Name) (x y : World) (a b : ℕ) (g : GoesBy script (Carry a b) x y) (h : Bears x a b (Deliver d n verb ys)) (tells : TellsOrder script honest x) where
  abbrev Note0 : Note Name
  Note0 = Deliver d n verb ys

  reached : IsReached script x
  reached = (honest_reached script).1 g.opened x g.es 1 g.opens g.before

  of_run : IsOfRun script x
  of_run = entered g.es (Carry a b ∷ g.rest) g.opened g.split g.opens g.before

  of_run_then : IsOfRun script y
  of_run_then = entered (g.es ++ Carry a b ∷ []) g.rest g.opened (g.split ∙ sym (append_assoc g.es (Carry a b ∷ []) g.rest)) g.opens g.after

  among : IsAmong Note0 h.link.notes
  among = subst (λ ns. IsAmong Note0 ns) (sym h.first) (inl refl)

  target_of : IsOfVat script n
  target_of = ((names_are_of_vats script once knows).1 g.opened x g.es 1 g.opens g.before).1 a b h.link d n verb ys h.found among

  borne : BearsMessage script honest x a b d n verb ys
  borne = record {
    vat = h.vat;
    there = h.there;
    link = h.link;
    found = h.found;
    uncut = h.uncut;
    rest = h.rest;
    first = h.first;
    sender = everyone a;
    receiver = everyone b;
    onward = λ v q i. (links_are_there script once knows).1 g.opened x g.es 1 g.opens g.before honest b v h.vat n q h.there target_of i;
  }

  can : CanCarry script honest x a b d n verb ys
  can = can_carry script once g.opened x g.es 1 g.opens g.before honest a b d n verb ys borne

  some_vat : (s t : Vat Name) → Some s ≡ Some t → s ≡ t
  some_vat s t e = cc

  same_vat : can.borne.vat ≡ h.vat
  same_vat = some_vat can.borne.vat h.vat (sym can.borne.there ∙ h.there)

  before : can.message.sender ≡ b → suc can.message.number ≤ h.vat.messages
  before = subst (λ (v : Vat Name). can.message.sender ≡ b → suc can.message.number ≤ v.messages) same_vat can.before

  fresh : refs.entry_of (names script b) h.vat.known (Answer b can.message) ≡ None
  fresh = subst (λ (v : Vat Name). refs.entry_of (names script b) v.known (Answer b can.message) ≡ None) same_vat can.fresh

  target : IsNotNext b h.vat (Answer b can.message) n
  target = subst (λ (v : Vat Name). IsNotNext b v (Answer b can.message) n) same_vat can.target

  args : AllNotNext b h.vat (Answer b can.message) (names_in h.vat.known) ys
  args = subst (λ (v : Vat Name). AllNotNext b v (Answer b can.message) (names_in v.known) ys) same_vat can.args

  sound : WorldSound x
  sound = reached_is WorldSound _ x g.before ((messages_go_to_hosts script).1 g.opened g.es 1 g.opens)

  home : IsObject n → host_of n ≡ b
  home o = let at = link_all (λ (l : Link). AllOf (NoteSound l.from l.to) l.notes) a b x.links h.link (each_links x.links sound.links) h.found in
      (subst (λ ns. AllOf (NoteSound h.link.from h.link.to) ns) h.first at).0 ∙ (found_ends a b x.links h.link h.found).1
    where
      each_links : (ls : List Link) → Each (λ (l : Link). Each (NoteSound l.from l.to) l.notes) ls → AllOf (λ (l : Link). AllOf (NoteSound l.from l.to) l.notes) ls
      each_links [] i = tt
      each_links (l ∷ ls) i = (each_all (NoteSound l.from l.to) l.notes i.0, each_links ls i.1)

  ready : Ready script honest x b (readied x h.vat)
  ready = (vats_are_ready script once).1 g.opened x g.es 1 g.opens g.before honest b h.vat h.vat.queue h.there

  lawful : (carries d.message x.history + world_weight d.message x ≤ sent d.message x.history + sent d.message x.history) × (sent d.message x.history ≤ 1)
  lawful = reached_is (λ w. (carries d.message w.history + world_weight d.message w ≤ sent d.message w.history + sent d.message w.history) × (sent d.message w.history ≤ 1)) _ x g.before ((carries_and_weight d.message script).1 g.opened g.es 1 g.opens)

  brings : Brings x a b [] d n ys
  brings = record { link = h.link; found = h.found; verb = verb; rest = h.rest; notes = h.first }

  new : (IsObject n → ⊥) → comes b d.message zero x.history ≡ None
  new plain = let c = tells.comings a b [] d n ys brings in new_here x a b d n verb ys h.rest h.link h.found h.first plain lawful c.0 c.1 (ends_apart script x reached a b h.link h.found)

  once_before : StandsOnce (ways script honest x) d.message
  once_before = (messages_stand_once script).1 g.opened x g.es 1 g.opens g.before honest d.message

  once_after : StandsOnce (ways script honest y) d.message
  once_after = (messages_stand_once script).1 g.opened y (g.es ++ Carry a b ∷ []) 1 g.opens g.after honest d.message

  false_true : false ≡ true → ⊥
  false_true e = cc

  keep : CarryKeeps script honest x y a b (item d.message n)
  keep = go (carries_keep_in_closed_runs script once knows g.opened x y g.es 1 a b g.opens g.before g.after honest d n verb ys (record { vat = h.vat; there = h.there; link = h.link; found = h.found; uncut = h.uncut; rest = h.rest; first = h.first; sender = everyone a; receiver = everyone b }))
    where
      go : OrderKept script honest x y a b (item d.message n) → CarryKeeps script honest x y a b (item d.message n)
      go (inl i) = i
      go (inr i) = absurd (false_true (sym i.0.3 ∙ everyone i.0.0))

  abbrev Bare : World
  Bare = carrying.Bare script honest everyone x a b d n verb ys h can.message can.named before fresh target args home ready IsHadAs AreHadAs having

  module _ (u : Vat Name) (gave : arriving.Arrival script honest x a b Note0 h ≡ Gives tt u) (same : ended Bare b (arriving.head_of script honest x a b Note0 h g.number) u ≡ y) where
    ends : Arrived script honest b d n ys (λ q t. Calm script b q t) (λ q t. MovesNone (names script b) q t) AreHadAs (arriving.Start script honest x a b Note0 h) u
    ends = carrying.given script honest everyone x a b d n verb ys h can.message can.named before fresh target args home ready IsHadAs AreHadAs having _ (arriving.Arrival script honest x a b Note0 h) u gave
        (carrying.arrived script honest everyone x a b d n verb ys h can.message can.named before fresh target args home ready IsHadAs AreHadAs having)

    abbrev Out : Type 0
    Out = carrying.Out script honest everyone x a b d n verb ys h can.message can.named before fresh target args home ready IsHadAs AreHadAs having u

    at_rest : IsAtRest script honest x
    at_rest = rest x of_run

    module _ (o : Out) (on : IsOpenWay honest b o.host Bare) where
      other : o.host ≡ b → ⊥
      other = carrying.other script honest everyone x a b d n verb ys h can.message can.named before fresh target args home ready IsHadAs AreHadAs having once_before new g.number u ends o

      link_there : link_at b o.host x.links ≡ Some on.link
      link_there = sym (small.other_at script honest everyone x a b d n verb ys h b o.host (λ i. other i.1) x.links) ∙ on.found

      to : (s : Vat Name) × (slice_get x.vats o.host ≡ Some s)
      to = receiver script x reached b o.host on.link link_there

      to_ready : Ready script honest x o.host (readied x to.0)
      to_ready = (vats_are_ready script once).1 g.opened x g.es 1 g.opens g.before honest o.host to.0 to.0.queue to.1

      number : to.0.number ≡ o.host
      unfolding readied
      number = to_ready.number

      objects : (m : Name) → IsObject m → refs.entry_of (names script o.host) to.0.known m ≡ None
      unfolding readied
      objects m i = to_ready.ends.objects m i

      settled : SettledStays (names script b) h.vat o.now
      unfolding readied
      settled = λ m k v e f. o.rel.settles m k v e f

      hosts : AllOf HostIsTrue o.now.known
      unfolding readied
      hosts = o.rel.hosts (let stand = at_rest.stands.vats b h.vat h.there in let kept = stand.kept in kept.hosts)

      drawn : (c : ℕ) → IsAmong c x.drawn → IsAmong c o.now.drawn
      unfolding readied
      drawn c i = subst (λ ds. IsAmong c ds) (sym o.rel.drawn) i

      can_full : CanPass script honest (keeping a b Note0 Bare) b o.host to.0 o.now
      can_full = subst (λ z. CanPass script honest z b o.host to.0 o.now) (sym (carrying.same script honest everyone x a b d n verb ys h can.message can.named before fresh target args home ready IsHadAs AreHadAs having))
          (can_pass script honest x at_rest.stands at_rest.meet at_rest.far b h.vat h.there o.now (o.stays x ready).0 settled hosts drawn o.host to.0 other to.1)

      abbrev Noted : Note Name
      Noted = Deliver (refs.delivery_of (names script b) o.mail) o.aim o.mail.verb o.passed

      star_now : Ready script honest (record Bare { links = with_link (pushed Noted) b o.host Bare.links }) b o.now
      star_now = (o.stays (record Bare { links = with_link (pushed Noted) b o.host Bare.links }) (carrying.star_ready script honest everyone x a b d n verb ys h can.message can.named before fresh target args home ready IsHadAs AreHadAs having o.host Noted tt)).0

      views : ViewsRest script b (readied x h.vat).known
      unfolding readied
      views = at_rest.views b h.vat h.there

      vat_then : slice_get y.vats b ≡ Some u
      vat_then = subst (λ z. slice_get z.vats b ≡ Some u) same (get_put x.vats b h.vat u h.there)

      then_true : reaching.IsTrue script honest y b u
      then_true = let r = rest y of_run_then in record { agrees = r.agrees b u vat_then; members = r.members b u vat_then }

      reaches : carrying.Reaches script honest everyone x a b d n verb ys h can.message can.named before fresh target args home ready IsHadAs AreHadAs having once_before new g.number u ends o
      reaches = record {
        vat = to.0;
        found = to.1;
        number = number;
        objects = objects;
        can = reaching.can_star script honest everyone Bare a b Note0 h.vat h.there d n ys (arriving.Start script honest x a b Note0 h) u o on to.0 can_full star_now;
        came = λ done told c. reaching.came_star script honest everyone Bare a b Note0 h.vat h.there d n ys (arriving.Start script honest x a b Note0 h) u o on to.0 can_full star_now to.1 number other objects views y then_true done told c;
      }

    carry_tale : Tale script honest x y
    carry_tale = subst (λ z. Tale script honest x z) same (then_on (carrying.carry_small script honest everyone x a b d n verb ys h can.message can.named before fresh target args home ready IsHadAs AreHadAs having once_before new g.number u ends
        (λ o on. reaches o on) (subst (λ z. CarryKeeps script honest x z a b (item d.message n)) (sym same) keep) (subst (λ z. StandsOnce (ways script honest z) d.message) (sym same) once_after)) over)

  whole : Tale script honest x y
  whole = let r = ended_is Bare y b (arriving.head_of script honest x a b Note0 h g.number) (world.step_number script g.number) (arriving.Arrival script honest x a b Note0 h) (sym (arriving.step_is script honest x a b Note0 h g.number) ∙ g.goes) in carry_tale r.0 r.1 r.2

pub carries_of_messages_are_tales : CarriesOfMessagesAreTales
carries_of_messages_are_tales script once knows cuts honest everyone d n verb ys x y a b g h tells = whole script once knows honest everyone (λ w of_run. rests script once honest everyone w of_run) d n verb ys x y a b g h tells
