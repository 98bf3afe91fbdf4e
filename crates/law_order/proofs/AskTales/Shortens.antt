-- In every run a note by which a vat is asked to open its name as a gift is carried by a small step: the name is learnt, a note may be put, and no message moves.
use Rattle.std.proofs.Common.{◌≡◌, ℕ, Bool, true, false, List, [], ◌∷◌, ◌++◌, refl, sym, subst, ◌∙◌, inl}
use Rattle.def_machine.specs.Values.{Value, Name, Ref, Object, Naming, IsLearnt, naming, name_of, host_of}
use Rattle.def_machine.specs.State.{Shorten, Open, Vat, Done, Gives, ◌>>=◌, and_then, give, look, come, begun, send_out}
use Rattle.def_machine.specs.Refs as refs
use Rattle.def_machine.specs.Refs.{Away}
use Rattle.def_machine.specs.Arrive as arrive
use Rattle.def_machine.specs.Arrive.{Old, New}
use Rattle.def_run.specs.World as world
use Rattle.def_run.specs.World.{Script, Event, Carry, World, Goes, names, names_of, read_note, readied, step}
use Rattle.law_order.specs.Ordering.Worlds.{IsObject}
use Rattle.law_order.specs.Ordering.Places.{leads_in, leads}
use Rattle.law_order.specs.Ordering.Steps.{Ready}
use Rattle.law_order.proofs.Ordering.Adding.{refers_same}
use Rattle.law_order.proofs.Ordering.Coming.{comes_same}
use Rattle.law_order.proofs.Ordering.Arrived.{outbox_refers}
use Rattle.law_order.proofs.Views.Alike.{leads_same}
use Rattle.law_order.proofs.Carries.Learning.{Yields, yields_bind}
use Rattle.law_order.proofs.Runs.Beginnings.{vats_are_ready}
use Rattle.law_order.specs.Asks.Asks.{StepKeeps, Bears}
use Rattle.law_order.proofs.Asks.ShortenRuns.{shorten_carries_keep_in_runs}
use Rattle.law_order.specs.History.Lines.{counts, AllQuiet}
use Rattle.law_order.specs.History.Tells.{Tale, over, then_on}
use Rattle.law_order.specs.Tales.Middle.{middle, MovesNone}
use Rattle.law_order.specs.Tales.Resting.{Rests}
use Rattle.law_order.proofs.Tales.Arriving.{Arrival, Bare, head_of, step_is, ended_is}
use Rattle.law_order.proofs.Tales.Begun.{begin_still, leads_begin, ended, end_still}
use Rattle.law_order.proofs.Tales.Middle.{moves_still}
use Rattle.law_order.proofs.Tales.Resting.{resting}
use Rattle.law_order.proofs.Tales.Silent.{leaves_still}
use Rattle.law_order.proofs.Tales.Still.{IsStill, still_then, rests_by}
use Rattle.law_order.proofs.Tales.Stilling.{base, still_come, still_out}
use Rattle.law_order.specs.AskTales.Tales.{ShortensAreTales}

-- what is not known yet is no object
new_plain : (ks : List Name) (n : Name) → world.is_old ks n ≡ false → IsObject n → ⊥
unfolding world.is_old
new_plain ks (Object h i) e o = cc
new_plain ks other e o = o

-- ---- at the receiver

module _ (script : Script) (honest : ℕ → Bool) (v : ℕ) (s : Vat Name) where
  -- no message moves, and each reference of the vat leads where it led
  pub record Stands (t : Vat Name) : Type 0 where
    pub moves : MovesNone (names script v) s t
    pub leading : (x : Value Name) → leads_in script honest v t x ≡ leads_in script honest v s x

module _ (script : Script) (honest : ℕ → Bool) (w : World) (v : ℕ) (s : Vat Name) (ready : Ready script honest w v s) where
  abbrev K : Naming Name Name
  K = names script v

  abbrev Now : Vat Name → Type 0
  Now t = Stands script honest v s t

  abbrev Came : Name → Vat Name
  Came n = record s { known = s.known ++ begun n (host_of n) ∷ [] }

  came : (n : Name) → MovesNone K s (Came n)
  unfolding come names naming name_of
  came n = (still_come K (IsLearnt n) (host_of n)).after s

  learns : (n : Name) (c : Bool) → world.is_old (names_of s) n ≡ c → Yields (λ (m : Name) (t : Vat Name). Now t) (arrive.learn_name K (elim c [ true ↦ Old n | false ↦ New n (host_of n) ]) s)
  unfolding arrive.learn_name give come names naming name_of
  learns n true e = record { moves = (base K).same s; leading = λ x. refl }
  learns n false e = record { moves = came n; leading = λ x. (comes_same script honest v s n ready.ends (new_plain (names_of s) n e) ready.number).leading x }

  puts : (t : Vat Name) → Now t → (i : ℕ) (p : refs.Place Name) → Yields (λ (u : Unit {0}) (q : Vat Name). Now q) (arrive.shorten_to K i p t)
  unfolding arrive.shorten_to send_out give
  puts t h i (Away g n true) = record {
    moves = (base K).trans h.moves ((still_out K g (Open i n) tt).after t);
    leading = λ x. (refers_same script honest v t (record t { outbox = t.outbox ++ record { to = g; note = Open i n } ∷ [] }) (outbox_refers K t (t.outbox ++ record { to = g; note = Open i n } ∷ []))).leading x ∙ h.leading x;
  }
  puts t h i other = h

  pub arrives : (n : Name) (i : ℕ) → Yields (λ (u : Unit {0}) (t : Vat Name). Now t) (arrive.arrive_shorten K (world.read_name (names_of s) n) i s)
  unfolding arrive.arrive_shorten ◌>>=◌ and_then look world.read_name
  arrives n i = yields_bind (λ m t. Now t) (λ u t. Now t) (arrive.learn_name K (world.read_name (names_of s) n) s) (λ m t. arrive.shorten_to K i (refs.place K t (refs.follow K t (Ref m))) t)
      (learns n (world.is_old (names_of s) n) refl) (λ m t h. puts t h i (refs.place K t (refs.follow K t (Ref m))))

-- ---- the entry

module _ (script : Script) (honest : ℕ → Bool) (x y : World) (a b c i k : ℕ) (n : Name) (h : Bears x a b (Shorten n c i)) (ready : Ready script honest x b (readied x h.vat)) (keeps : StepKeeps script honest x y) where
  abbrev S : Vat Name
  S = readied x h.vat

  abbrev Head : List Event
  Head = head_of script honest x a b (Shorten n c i) h k

  abbrev Without : World
  Without = Bare script honest x a b (Shorten n c i) h

  module _ (t : Vat Name) (now : Stands script honest b S t) where
    abbrev Y : World
    Y = ended Without b Head t

    quiet : AllQuiet Head
    unfolding counts
    quiet = (refl, tt)

    still : IsStill script honest x Y
    still = still_then script honest x (middle Without b Head t) Y
        (still_then script honest x (middle x b Head t) (middle Without b Head t)
        (still_then script honest x (middle x b Head S) (middle x b Head t) (begin_still script honest x b Head h.vat h.there quiet) (moves_still script honest x b Head S t now.moves))
        (leaves_still script honest x a b Head h.link (Shorten n c i) h.rest h.found h.first tt t))
        (end_still script honest Without b Head t)

    leading : (u : ℕ) (m : Name) → leads script honest Y.vats Y.links u (Ref m) ≡ leads script honest x.vats x.links u (Ref m)
    unfolding leads
    leading u m = leads_same script honest b S t now.leading x.vats x.links u (Ref m) ∙ leads_begin script honest x b Head h.vat h.there u (Ref m)

    rests : Y ≡ y → Rests script honest x y
    rests e = rests_by script honest x y (subst (λ z. IsStill script honest x z) e still)
        (λ u m. inl (subst (λ (z : World). leads script honest z.vats z.links u (Ref m) ≡ leads script honest x.vats x.links u (Ref m)) e (leading u m)))
        (λ u m q j. (keeps.references u (Ref m)).1 q j)
        (λ l r m q j. (keeps.places l r m).1 q j)

  arrived : (d : Done Name (Unit {0})) → Yields (λ (u : Unit {0}) (t : Vat Name). Stands script honest b S t) d → (t : Vat Name) → d ≡ Gives tt t → Stands script honest b S t
  arrived d g t e = subst (λ z. Yields (λ (u : Unit {0}) (q : Vat Name). Stands script honest b S q) z) e g

  comes : Yields (λ (u : Unit {0}) (t : Vat Name). Stands script honest b S t) (Arrival script honest x a b (Shorten n c i) h)
  unfolding arrive.arrive read_note readied names_of
  comes = arrives script honest x b S ready n i

  pub shorten_tale : step script (Carry a b) k x ≡ Goes y → Tale script honest x y
  shorten_tale e = go (ended_is Without y b Head (world.step_number script k) (Arrival script honest x a b (Shorten n c i) h) (sym (step_is script honest x a b (Shorten n c i) h k) ∙ e))
    where
      go : (t : Vat Name) × (Arrival script honest x a b (Shorten n c i) h ≡ Gives tt t) × (ended Without b Head t ≡ y) → Tale script honest x y
      go (t, f, same) = then_on (resting script honest x y (rests t (arrived (Arrival script honest x a b (Shorten n c i) h) comes t f) same)) over

pub shortens_are_tales : ShortensAreTales
shortens_are_tales script knows vats cuts honest all n c i x y a b g h =
    let w = g.opened in
    let ready = (vats_are_ready script knows).1 w x g.es 1 g.opens g.before honest b h.vat h.vat.queue h.there in
    let keeps = shorten_carries_keep_in_runs script knows w x y g.es 1 a b c i n g.opens g.before g.after h honest (all a) (all b) in
    shorten_tale script honest x y a b c i g.number n h ready keeps g.goes
