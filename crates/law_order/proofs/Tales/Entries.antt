-- Where each kind of entry is made of small steps, so is each step of a run: a cut is a small step, and an idle entry is.
use Rattle.std.proofs.Common.{◌≡◌, ℕ, ◌+◌, Bool, true, false, List, [], ◌∷◌, Option, Some, None, length, refl, subst}
use Rattle.std.specs.Prelude.{slice_get}
use Rattle.def_machine.specs.Values.{Name}
use Rattle.def_machine.specs.State.{Message, Note, Deliver, Vat}
use Rattle.def_run.specs.World as world
use Rattle.def_run.specs.World.{Script, Entry, Turn, Carry, CutLink, NoticeLink, Idle, Link, World, Goes, link_at}
use Rattle.law_machine.proofs.Run.Honest.{honest_reached}
use Rattle.law_order.specs.History.Lines.{counts}
use Rattle.law_order.specs.History.Befores.{TellsOrder}
use Rattle.law_order.specs.History.Tells.{Tale, over, then_on}
use Rattle.law_order.proofs.History.Same.{same_step}
use Rattle.law_order.specs.Asks.Asks.{Bears}
use Rattle.law_order.specs.Tales.Entries.{GoesBy, KindsAreTales, KindsAreEnough}
use Rattle.law_order.proofs.Tales.Receivers.{receiver}
use Rattle.law_order.proofs.Tales.Cuts.{cuts_are_tales}

goes_is : (x y : World) → Goes x ≡ Goes y → x ≡ y
goes_is x y e = cc

idle_tale : (script : Script) (honest : ℕ → Bool) (k : ℕ) (x y : World) → world.idle script k x ≡ Goes y → Tale script honest x y
unfolding world.idle counts
idle_tale script honest k x y e = subst (λ z. Tale script honest x z) (goes_is _ y e) (then_on (same_step script honest x x.fuel x.drawn x.connections (Idle k ∷ []) (refl, tt)) over)

module _ (script : Script) (honest : ℕ → Bool) (kinds : KindsAreTales script honest) (x y : World) (tells : TellsOrder script honest x) where
  queue_tale : (v : ℕ) (s : Vat Name) → slice_get x.vats v ≡ Some s → (h : GoesBy script (Turn v) x y) (q : List (Message Name)) → s.queue ≡ q → world.turn_queue script h.number v x s q ≡ Goes y → Tale script honest x y
  unfolding world.turn_queue
  queue_tale v s there h [] e g = idle_tale script honest h.number x y g
  queue_tale v s there h (m ∷ ms) e g = kinds.turns x y v s m ms h there e

  turn_tale : (v : ℕ) (h : GoesBy script (Turn v) x y) (o : Option (Vat Name)) → slice_get x.vats v ≡ o → world.turn script h.number v x o ≡ Goes y → Tale script honest x y
  unfolding world.turn
  turn_tale v h None there g = idle_tale script honest h.number x y g
  turn_tale v h (Some s) there g = queue_tale v s there h s.queue refl g

  note_tale : (n : Note Name) (a b : ℕ) → GoesBy script (Carry a b) x y → Bears x a b n → Tale script honest x y
  note_tale (Deliver d t verb ys) a b h borne = kinds.messages d t verb ys x y a b h borne tells
  note_tale other a b h borne = kinds.carries other tt x y a b h borne

  notes_tale : (a b : ℕ) (h : GoesBy script (Carry a b) x y) (l : Link) → link_at a b x.links ≡ Some l → l.cut ≡ false → (ns : List (Note Name)) → l.notes ≡ ns → world.carry_notes script h.number a b x ns ≡ Goes y → Tale script honest x y
  unfolding world.carry_notes
  notes_tale a b h l found uncut [] e g = idle_tale script honest h.number x y g
  notes_tale a b h l found uncut (n ∷ ns) e g = let r = receiver script x ((honest_reached script).1 h.opened x h.es 1 h.opens h.before) a b l found in
      note_tale n a b h (record { vat = r.0; there = r.1; link = l; found = found; uncut = uncut; rest = ns; first = e })

  cut_or : (a b : ℕ) (h : GoesBy script (Carry a b) x y) (l : Link) → link_at a b x.links ≡ Some l → (q : Bool) → l.cut ≡ q → elim q [ true ↦ world.idle script h.number x | false ↦ world.carry_notes script h.number a b x l.notes ] ≡ Goes y → Tale script honest x y
  cut_or a b h l found true e g = idle_tale script honest h.number x y g
  cut_or a b h l found false e g = notes_tale a b h l found e l.notes refl g

  link_tale : (a b : ℕ) (h : GoesBy script (Carry a b) x y) (o : Option Link) → link_at a b x.links ≡ o → world.carry_link script h.number a b x o ≡ Goes y → Tale script honest x y
  unfolding world.carry_link
  link_tale a b h None found g = idle_tale script honest h.number x y g
  link_tale a b h (Some l) found g = cut_or a b h l found l.cut refl g

  entry_tale : (e : Entry) → GoesBy script e x y → Tale script honest x y
  unfolding world.step
  entry_tale (Turn v) h = turn_tale v h (slice_get x.vats v) refl h.goes
  entry_tale (Carry a b) h = link_tale a b h (link_at a b x.links) refl h.goes
  entry_tale (CutLink a b) h = cuts_are_tales script honest x y a b h.number ((honest_reached script).1 h.opened x h.es 1 h.opens h.before) h.goes
  entry_tale (NoticeLink v u) h = kinds.notices x y v u h

pub kinds_are_enough : KindsAreEnough
kinds_are_enough script honest kinds = record {
  opening = kinds.opening;
  entry = λ es rest e w x y split opens steps f g tells. entry_tale script honest kinds x y tells e (record {
    es = es;
    rest = rest;
    split = split;
    opened = w;
    opens = opens;
    before = steps;
    number = 1 + length es;
    goes = f;
    after = g;
  });
}
