-- A note that delivers nothing is carried in a world: where the step begins, where it ends, and what is to be shown between.
use Rattle.std.proofs.Common.{◌≡◌, ℕ, zero, suc, Bool, true, false, List, [], ◌∷◌, ◌++◌, Option, Some, None, refl, sym, ap, subst, ◌∙◌, inl}
use Rattle.std.proofs.lemmas.List.{append-nil}
use Rattle.std.specs.Prelude.{slice_get, ◌&&◌}
use Rattle.def_machine.specs.Values.{Value, Name}
use Rattle.def_machine.specs.State.{Note, Vat, Done, Gives}
use Rattle.def_machine.specs.Arrive as arrive
use Rattle.def_machine.specs.Refs as refs
use Rattle.def_run.specs.World as world
use Rattle.def_run.specs.World.{Script, Carry, Event, Carried, Link, World, Goes, names, names_of, read_note, readied}
use Rattle.law_fate.specs.Name.Names.{names_in}
use Rattle.law_order.specs.Ordering.Ways.{Lane, Queue, Held, Way, Item, Mid, Place, Ways}
use Rattle.law_order.specs.Ordering.Changes.{Grows}
use Rattle.law_order.specs.Ordering.Messages.{More, StaysBehind}
use Rattle.law_order.specs.Ordering.Places.{queued, held_in, delivered, is_honest, leads, ways, ways_of, stands_at, amid}
use Rattle.law_order.specs.Ordering.Worlds.{SameWays, IfGives}
use Rattle.law_order.specs.Ordering.Steps.{Grown}
use Rattle.law_order.specs.Ordering.Arrivals.{in_front, keeping}
use Rattle.law_order.proofs.Ordering.Adding.{refers_same}
use Rattle.law_order.proofs.Ordering.Adds.{alike_same}
use Rattle.law_order.proofs.Ordering.Amid.{leads_same, beginning_changes_no_way}
use Rattle.law_order.proofs.Ordering.Changes.{growing_keeps}
use Rattle.law_order.proofs.Ordering.OrderKeeping.{front_link, all_put_on, arriving_changes_nothing}
use Rattle.law_order.proofs.Ordering.Pushing.{all_same}
use Rattle.law_order.proofs.Ordering.Sends.{link_here, link_behind}
use Rattle.law_order.proofs.Ordering.Standing.{queue_more, held_more}
use Rattle.law_order.proofs.Carries.Breaking.{firm_grown}
use Rattle.law_order.proofs.Carries.Moved.{Leading, Firm, firm_then}
use Rattle.law_order.specs.Asks.Asks.{StepKeeps, Bears}

goes_is : (x y : World) → Goes x ≡ Goes y → x ≡ y
goes_is x y e = cc

-- the vat that is found is in its place
in_place : (v : ℕ) (s : Vat Name) (vs : List (Vat Name)) → slice_get vs v ≡ Some s → world.put_at v s vs ≡ vs
unfolding world.put_at
in_place v s [] e = refl
in_place zero s (r ∷ vs) e = let same : r ≡ s = cc in ap (λ q. q ∷ vs) (sym same)
in_place (suc v) s (r ∷ vs) e = ap (λ qs. r ∷ qs) (in_place v s vs e)

-- in ways that are the same nothing left its place
pub same_grow : (w u : Ways) → SameWays w u → Grows w u
same_grow w u h = record { stands = λ l i j. (h.0 l).0 i j; onward = λ l o. inl (h.1 l o) }

-- ---- such a note leaves its link

module _ (script : Script) (honest : ℕ → Bool) (a b : ℕ) (m : Note Name) (bare : (ns : List (Note Name)) → delivered (m ∷ ns) ≡ delivered ns) where
  abbrev Stands : Option Link → List Item
  Stands o = elim o [ Some l ↦ elim (is_honest script honest l) [ true ↦ delivered l.notes | false ↦ [] ] | None ↦ [] ]

  -- the same stands without it
  one_without : (l : Link) → Stands (Some (in_front m l)) ≡ Stands (Some l)
  unfolding in_front is_honest
  one_without l = ap (λ js. elim (honest l.from && honest l.to) [ true ↦ js | false ↦ [] ]) (bare l.notes)

  stands_without : (x y : ℕ) (ls : List Link) → Stands (world.link_at x y (world.with_link (in_front m) a b ls)) ≡ Stands (world.link_at x y ls)
  unfolding world.link_at world.with_link
  stands_without x y [] = refl
  stands_without x y (l ∷ ls) = go (stands_without x y ls) (world.is_link a b l) (world.is_link x y l) refl refl
    where
      go : Stands (world.link_at x y (world.with_link (in_front m) a b ls)) ≡ Stands (world.link_at x y ls) → (c d : Bool) → world.is_link a b l ≡ c → world.is_link x y l ≡ d
          → Stands (world.link_at x y (elim c [ true ↦ in_front m l ∷ ls | false ↦ l ∷ world.with_link (in_front m) a b ls ])) ≡ Stands (elim d [ true ↦ Some l | false ↦ world.link_at x y ls ])
      go g true true e f = ap (λ o. Stands o) (link_here x y (in_front m l) ls (front_link x y m l ∙ f)) ∙ one_without l
      go g true false e f = ap (λ o. Stands o) (link_behind x y (in_front m l) ls (front_link x y m l ∙ f))
      go g false true e f = ap (λ o. Stands o) (link_here x y l (world.with_link (in_front m) a b ls) f)
      go g false false e f = ap (λ o. Stands o) (link_behind x y l (world.with_link (in_front m) a b ls) f) ∙ g

  stands_on : (w : World) (t : Vat Name) (l : Lane) → (ways script honest (amid b t (keeping a b m w))).stands l ≡ (ways script honest (amid b t w)).stands l
  unfolding ways ways_of stands_at amid keeping
  stands_on w t (Way x y) = ap (λ ls. Stands (world.link_at x y ls)) (all_put_on a b b m t.outbox w.links) ∙ stands_without x y (world.push_all b t.outbox w.links)
  stands_on w t other = refl

-- ---- the step

module _ (script : Script) (honest : ℕ → Bool) (w : World) (a b : ℕ) (m : Note Name) (h : Bears w a b m) where
  abbrev pub Start : Vat Name
  Start = readied w h.vat

  -- without the note
  abbrev pub Bare : World
  Bare = record w { links = world.with_link (world.with_notes h.rest) a b w.links }

  -- with it, and without it, in the middle of the step
  abbrev pub With : Vat Name → Ways
  With s = ways script honest (amid b s w)

  abbrev pub End : Vat Name → Ways
  End t = ways script honest (amid b t Bare)

  pub same : keeping a b m Bare ≡ w
  same = arriving_changes_nothing w a b h.link m h.rest h.found h.first

  -- ---- the step begins in the ways of its world

  pub leads_begin : (u : ℕ) (x : Value Name) → leads script honest (amid b Start w).vats (amid b Start w).links u x ≡ leads script honest w.vats w.links u x
  unfolding amid readied world.push_all
  leads_begin u x = leads_same script honest w.vats w.links w.links (all_same w.links) b h.vat Start (refers_same script honest b h.vat Start (alike_same (names script b) h.vat Start refl refl refl refl)) u x
      ∙ ap (λ vs. leads script honest vs w.links u x) (in_place b h.vat w.vats h.there)

  pub begin_more : (l : Lane) → More (ways script honest w) (With Start) l
  unfolding ways ways_of stands_at amid readied world.push_all
  begin_more (Queue u) = subst (λ vs. More (ways_of script honest vs w.links) (With Start) (Queue u)) (in_place b h.vat w.vats h.there) (queue_more script honest w b h.vat Start u (λ e. ([], sym (append-nil (queued h.vat.queue)))))
  begin_more (Held u q) = subst (λ vs. More (ways_of script honest vs w.links) (With Start) (Held u q)) (in_place b h.vat w.vats h.there) (held_more script honest w b h.vat Start u q (λ e. ([], sym (append-nil (held_in q (refs.entry_of (names script b) h.vat.known q))))))
  begin_more (Way c d) = ([], sym (append-nil ((ways script honest w).stands (Way c d))))

  begins : Grows (ways script honest w) (With Start)
  begins = same_grow (ways script honest w) (With Start) (beginning_changes_no_way script honest w b h.vat h.there)

  -- ---- it ends in those of its world, without the note

  pub leave_more : (bare : (ns : List (Note Name)) → delivered (m ∷ ns) ≡ delivered ns) (t : Vat Name) (l : Lane) → More (With t) (End t) l
  leave_more bare t l = ([], sym (subst (λ z. (ways script honest (amid b t z)).stands l ≡ (End t).stands l) same (stands_on script honest a b m bare Bare t l)) ∙ sym (append-nil ((With t).stands l)))

  -- where each vat would send on each value: in the world, with the note and without it
  abbrev pub Was : Leading
  Was u x = leads script honest w.vats w.links u x

  abbrev pub LeadsWith : Vat Name → Leading
  LeadsWith s u x = leads script honest (amid b s w).vats (amid b s w).links u x

  abbrev pub LeadsEnd : Vat Name → Leading
  LeadsEnd t u x = leads script honest (amid b t Bare).vats (amid b t Bare).links u x

  -- the vat comes to t, and order is kept
  abbrev pub Comes : Vat Name → Type 0
  Comes t = Firm (ways script honest w) (End t) Was (LeadsEnd t)

  pub begin_firm : Firm (ways script honest w) (With Start) Was (LeadsWith Start)
  begin_firm = record {
    references = λ u x. subst (λ c. StaysBehind (ways script honest w) (With Start) (Was u x) c) (sym (leads_begin u x)) (growing_keeps (ways script honest w) (With Start) begins (Was u x));
    places = λ l k n. growing_keeps (ways script honest w) (With Start) begins (Mid l k n);
    more = begin_more;
  }

  -- what the vat does keeps order, and then the note leaves
  pub firm_leaves : (s t : Vat Name) → Firm (With Start) (With s) (LeadsWith Start) (LeadsWith s) → ((c : Place) → StaysBehind (With s) (End t) c c) → ((l : Lane) → More (With s) (End t) l)
      → ((u : ℕ) (x : Value Name) → LeadsEnd t u x ≡ LeadsWith s u x) → Comes t
  firm_leaves s t f leaves more leading = firm_then (ways script honest w) (With Start) (End t) Was (LeadsWith Start) (LeadsEnd t) begin_firm
      (firm_then (With Start) (With s) (End t) (LeadsWith Start) (LeadsWith s) (LeadsEnd t) f (record {
        references = λ u x. subst (λ c. StaysBehind (With s) (End t) (LeadsWith s u x) c) (sym (leading u x)) (leaves (LeadsWith s u x));
        places = λ l k n. leaves (Mid l k n);
        more = more;
      }))

  -- the ways grow, and then the note leaves
  pub grown_then : (s t : Vat Name) → Grown script honest w b Start s → ((c : Place) → StaysBehind (With s) (End t) c c) → ((l : Lane) → More (With s) (End t) l)
      → ((u : ℕ) (x : Value Name) → LeadsEnd t u x ≡ LeadsWith s u x) → Comes t
  grown_then s t g leaves more leading = firm_leaves s t (firm_grown script honest w b Start s g) leaves more leading

  module _ (head : List Event) (t : Vat Name) where
    abbrev pub Then : World
    Then = record {
      fuel = t.fuel;
      drawn = t.drawn;
      vats = world.put_at b t Bare.vats;
      links = world.push_all b t.outbox Bare.links;
      connections = world.connections_after b t head Bare.connections;
      history = Bare.history ++ head ++ world.events_of Bare.links b t.happened;
    }

    after : Comes t → StepKeeps script honest w Then
    unfolding ways amid leads
    after g = record { references = λ u x. g.references u x; places = λ l k n. g.places l k n; more = λ l. g.more l }

  ended : (y : World) (head : List Event) (k : ℕ) (d : Done Name (Unit {0})) → IfGives Comes d → world.put_back b Bare head k d ≡ Goes y → StepKeeps script honest w y
  unfolding world.put_back
  ended y head k (Gives x t) g e = subst (λ z. StepKeeps script honest w z) (goes_is (Then head t) y e) (after head t g)
  ended y head k other g e = cc

  abbrev head_of : ℕ → List Event
  head_of k = Carried k a b m (world.next_frame a b Bare.connections) ∷ []

  abbrev pub Arrival : Done Name (Unit {0})
  Arrival = arrive.arrive (names script b) a (read_note (names_in h.vat.known) m) Start

  step_is : (k : ℕ) → world.step script (Carry a b) k w ≡ world.put_back b Bare (head_of k) (world.step_number script k) Arrival
  unfolding world.step world.carry_link world.carry_notes world.arrives world.within names_of readied
  step_is k =
      ap (λ o. world.carry_link script k a b w o) h.found
      ∙ ap (λ q. elim q [ true ↦ world.idle script k w | false ↦ world.carry_notes script k a b w h.link.notes ]) h.uncut
      ∙ ap (λ ns. world.carry_notes script k a b w ns) h.first
      ∙ ap (λ o. world.arrives script k a b Bare m o) h.there

  came_by : (y : World) (head : List Event) (k : ℕ) (d : Done Name (Unit {0})) → Arrival ≡ d → world.put_back b Bare head k d ≡ Goes y → (t : Vat Name) × (head : List Event) × (Arrival ≡ Gives tt t) × (y ≡ Then head t)
  unfolding world.put_back
  came_by y head k (Gives x t) i e = (t, head, i, sym (goes_is (Then head t) y e))
  came_by y head k other i e = cc

  -- where the step comes to a world, the arrival comes to a state
  pub came : (k : ℕ) (y : World) → world.step script (Carry a b) k w ≡ Goes y → (t : Vat Name) × (head : List Event) × (Arrival ≡ Gives tt t) × (y ≡ Then head t)
  came k y e = came_by y (head_of k) (world.step_number script k) Arrival refl (sym (step_is k) ∙ e)

  pub carried : IfGives Comes Arrival → (k : ℕ) (y : World) → world.step script (Carry a b) k w ≡ Goes y → StepKeeps script honest w y
  carried g k y e = ended y (head_of k) (world.step_number script k) Arrival g (sym (step_is k) ∙ e)
