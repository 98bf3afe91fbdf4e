-- A message is carried in a world, and order is kept.
use Rattle.std.proofs.Common.{◌≡◌, ℕ, zero, suc, Bool, true, false, List, [], ◌∷◌, ◌++◌, Option, Some, None, refl, sym, ap, subst, ◌∙◌, ◌⊎◌, inl, inr}
use Rattle.std.specs.Prelude.{slice_get}
use Rattle.std.proofs.lemmas.List.{append-nil}
use Rattle.def_machine.specs.Values.{Words, Value, Ref, Name}
use Rattle.def_machine.specs.State.{Passeds, Delivery, Note, Deliver, Happened, Lost, Posted, Vat, Done, Gives}
use Rattle.def_machine.specs.Refs as refs
use Rattle.def_machine.specs.Arrive as arrive
use Rattle.def_run.specs.World.{Script, Carry, Event, Here, LostCut, Carried, Link, World, Goes, names, names_of, read_note, readied}
use Rattle.def_run.specs.World as world
use Rattle.law_fate.specs.Name.Names.{IsAmong, names_in}
use Rattle.law_order.specs.Ordering.Ways.{Lane, Queue, Held, Way, Item, Mid, Ways}
use Rattle.law_order.specs.Ordering.Changes.{Grows}
use Rattle.law_order.specs.Ordering.Messages.{StaysBehind}
use Rattle.law_order.specs.Ordering.Places.{item, queued, held_in, leads_in, leads_at, leads, stands_at, ways_of, ways, amid}
use Rattle.law_order.specs.Ordering.Worlds.{IfGives}
use Rattle.law_order.specs.Ordering.Steps.{Ready}
use Rattle.law_order.specs.Ordering.Arrivals.{keeping, IsOpenWay}
use Rattle.law_order.proofs.Ordering.Adding.{refers_same}
use Rattle.law_order.proofs.Ordering.Adds.{alike_same}
use Rattle.law_order.proofs.Ordering.Amid.{beginning_changes_no_way}
use Rattle.law_order.proofs.Ordering.Arrived.{IsThere, kept_there}
use Rattle.law_order.proofs.Ordering.Changes.{growing_keeps}
use Rattle.law_order.proofs.Ordering.Messages.{behind_then}
use Rattle.law_order.proofs.Ordering.OrderKeeping.{arriving_changes_nothing}
use Rattle.law_order.proofs.Ordering.Sends.{get_put}
use Rattle.law_order.specs.Carries.Carries.{IsCarried, CanCarry, CarryKeeps, comes_to, is_lost, IsLeftOut, on_data, lost_here, lost_on_way, OthersKeep, CarryEnds, MessageCarriesKeep}
use Rattle.law_order.proofs.Carries.Moved.{Leading, Firm, Carries, firm_carries, firm_but}
use Rattle.law_order.proofs.Carries.Sending as sending
use Rattle.law_order.proofs.Carries.Sending.{IsOut, came_on_data, told_lost, posted_cut}
use Rattle.law_order.proofs.Carries.Carried.{arrives}

-- ---- lists

-- one vat is another now
get_at : (vs : List (Vat Name)) (v : ℕ) (s t : Vat Name) (u : ℕ) → slice_get vs v ≡ Some s → ((u ≡ v) × (slice_get vs u ≡ Some s) × (slice_get (world.put_at v t vs) u ≡ Some t)) ⊎ (slice_get (world.put_at v t vs) u ≡ slice_get vs u)
unfolding world.put_at
get_at [] v s t u e = cc
get_at (x ∷ vs) zero s t zero e = inl (refl, e, refl)
get_at (x ∷ vs) (suc v) s t (suc u) e = go (get_at vs v s t u e)
  where
    go : ((u ≡ v) × (slice_get vs u ≡ Some s) × (slice_get (world.put_at v t vs) u ≡ Some t)) ⊎ (slice_get (world.put_at v t vs) u ≡ slice_get vs u)
        → ((suc u ≡ suc v) × (slice_get (x ∷ vs) (suc u) ≡ Some s) × (slice_get (world.put_at (suc v) t (x ∷ vs)) (suc u) ≡ Some t)) ⊎ (slice_get (world.put_at (suc v) t (x ∷ vs)) (suc u) ≡ slice_get (x ∷ vs) (suc u))
    go (inl h) = inl (ap suc h.0, h.1, h.2)
    go (inr h) = inr h
get_at (x ∷ vs) other s t another e = inr refl

among_left : {A : Type 0} (x : A) (xs ys : List A) → IsAmong x xs → IsAmong x (xs ++ ys)
among_left x [] ys h = absurd h
among_left x (y ∷ xs) ys (inl e) = inl e
among_left x (y ∷ xs) ys (inr h) = inr (among_left x xs ys h)

among_right : {A : Type 0} (x : A) (xs ys : List A) → IsAmong x ys → IsAmong x (xs ++ ys)
among_right x [] ys h = h
among_right x (y ∷ xs) ys h = inr (among_right x xs ys h)

lost_event : (ls : List Link) (v : ℕ) (m : Name) (es : List (Happened Name)) → IsAmong (Lost m) es → IsAmong (Here v (Lost m)) (world.events_of ls v es)
unfolding world.events_of world.event_of
lost_event ls v m [] h = absurd h
lost_event ls v m (e ∷ es) (inl i) = subst (λ x. IsAmong (Here v (Lost m)) (world.event_of ls v x ++ world.events_of ls v es)) i (inl refl)
lost_event ls v m (e ∷ es) (inr h) = among_right (Here v (Lost m)) (world.event_of ls v e) (world.events_of ls v es) (lost_event ls v m es h)

cut_event : (ls : List Link) (v h : ℕ) (m : Name) → world.is_cut v h ls ≡ true → (es : List (Happened Name)) → IsAmong (Posted h m) es → IsAmong (LostCut m) (world.events_of ls v es)
unfolding world.events_of world.event_of
cut_event ls v h m c [] i = absurd i
cut_event ls v h m c (e ∷ es) (inl i) = subst (λ x. IsAmong (LostCut m) (world.event_of ls v x ++ world.events_of ls v es)) i (among_left (LostCut m) (world.event_of ls v (Posted h m)) (world.events_of ls v es) (subst (λ q. IsAmong (LostCut m) (elim q [ true ↦ LostCut m ∷ [] | false ↦ [] ])) (sym c) (inl refl)))
cut_event ls v h m c (e ∷ es) (inr i) = among_right (LostCut m) (world.event_of ls v e) (world.events_of ls v es) (cut_event ls v h m c es i)

goes_is : (x y : World) → Goes x ≡ Goes y → x ≡ y
goes_is x y e = cc

-- ---- the carry

module _ (script : Script) (honest : ℕ → Bool) (w : World) (a b : ℕ) (d : Delivery Name) (n : Name) (verb : Words) (ys : Passeds Name) (c : CanCarry script honest w a b d n verb ys) where
  abbrev Note0 : Note Name
  Note0 = Deliver d n verb ys

  -- without the note
  abbrev Bare : World
  Bare = record w { links = world.with_link (world.with_notes c.borne.rest) a b w.links }

  same : keeping a b Note0 Bare ≡ w
  same = arriving_changes_nothing w a b c.borne.link Note0 c.borne.rest c.borne.found c.borne.first

  ends_kept : (x y : ℕ) (l : Link) → world.is_link x y (world.with_notes c.borne.rest l) ≡ world.is_link x y l
  unfolding world.is_link world.with_notes
  ends_kept x y l = refl

  cut_kept : (l : Link) → (world.with_notes c.borne.rest l).cut ≡ l.cut
  unfolding world.with_notes
  cut_kept l = refl

  there_on : (h : ℕ) (x : Bool) → IsThere x b h w.links → IsThere x b h Bare.links
  there_on h x o = kept_there (world.with_notes c.borne.rest) x b h a b (ends_kept b h) cut_kept w.links o

  way : IsOpenWay honest a b Bare
  way = let o = kept_there (world.with_notes c.borne.rest) false a b a b (ends_kept a b) cut_kept w.links (c.borne.link, c.borne.found, c.borne.uncut) in record { link = o.0; found = o.1; uncut = o.2; sender = c.borne.sender; receiver = c.borne.receiver }

  way_on : (h : ℕ) → (l : Link) × (world.link_at b h w.links ≡ Some l) → (l : Link) × (world.link_at b h Bare.links ≡ Some l)
  way_on h g = let o = there_on h g.0.cut (g.0, g.1, refl) in (o.0, o.1)

  abbrev Start : Vat Name
  Start = readied w c.borne.vat

  abbrev W : Vat Name → Ways
  W s = sending.W script honest Bare a b c.borne.vat c.borne.there way d n verb ys s

  abbrev Y : Vat Name → Ways
  Y s = sending.Y script honest Bare a b c.borne.vat c.borne.there way d n verb ys s

  abbrev L : Vat Name → Leading
  L s = sending.L script honest Bare a b c.borne.vat c.borne.there way d n verb ys s

  abbrev I : Item
  I = item d.message n

  abbrev Was : Leading
  Was = λ z x. leads script honest w.vats w.links z x

  -- ---- the step begins in the ways of its world

  leads_from : (x : Value Name) → leads_in script honest b Start x ≡ leads_in script honest b c.borne.vat x
  unfolding readied
  leads_from x = (refers_same script honest b c.borne.vat Start (alike_same (names script b) c.borne.vat Start refl refl refl refl)).leading x

  lead_by : (z : ℕ) (x : Value Name) → ((z ≡ b) × (slice_get w.vats z ≡ Some c.borne.vat) × (slice_get (world.put_at b Start w.vats) z ≡ Some Start)) ⊎ (slice_get (world.put_at b Start w.vats) z ≡ slice_get w.vats z)
      → leads_at script honest z (slice_get (world.put_at b Start w.vats) z) x ≡ leads_at script honest z (slice_get w.vats z) x
  unfolding leads_at
  lead_by z x (inl h) = ap (λ o. leads_at script honest z o x) h.2 ∙ subst (λ u. leads_in script honest u Start x ≡ leads_in script honest u c.borne.vat x) (sym h.0) (leads_from x) ∙ ap (λ o. leads_at script honest z o x) (sym h.1)
  lead_by z x (inr h) = ap (λ o. leads_at script honest z o x) h

  leads_begin : (z : ℕ) (x : Value Name) → L Start z x ≡ Was z x
  unfolding leads
  leads_begin z x = lead_by z x (get_at w.vats b c.borne.vat Start z c.borne.there)

  abbrev QueueIn : Option (Vat Name) → List Item
  QueueIn o = elim o [ Some s ↦ queued s.queue | None ↦ [] ]

  abbrev HeldIn : ℕ → Name → Option (Vat Name) → List Item
  HeldIn z p o = elim o [ Some s ↦ held_in p (refs.entry_of (names script z) s.known p) | None ↦ [] ]

  queue_by : (z : ℕ) → ((z ≡ b) × (slice_get w.vats z ≡ Some c.borne.vat) × (slice_get (world.put_at b Start w.vats) z ≡ Some Start)) ⊎ (slice_get (world.put_at b Start w.vats) z ≡ slice_get w.vats z)
      → QueueIn (slice_get (world.put_at b Start w.vats) z) ≡ QueueIn (slice_get w.vats z)
  unfolding readied
  queue_by z (inl h) = ap (λ o. QueueIn o) h.2 ∙ sym (ap (λ o. QueueIn o) h.1)
  queue_by z (inr h) = ap (λ o. QueueIn o) h

  held_by : (z : ℕ) (p : Name) → ((z ≡ b) × (slice_get w.vats z ≡ Some c.borne.vat) × (slice_get (world.put_at b Start w.vats) z ≡ Some Start)) ⊎ (slice_get (world.put_at b Start w.vats) z ≡ slice_get w.vats z)
      → HeldIn z p (slice_get (world.put_at b Start w.vats) z) ≡ HeldIn z p (slice_get w.vats z)
  unfolding readied
  held_by z p (inl h) = ap (λ o. HeldIn z p o) h.2 ∙ sym (ap (λ o. HeldIn z p o) h.1)
  held_by z p (inr h) = ap (λ o. HeldIn z p o) h

  stands_begin : (l : Lane) → (ways script honest (amid b Start w)).stands l ≡ (ways script honest w).stands l
  unfolding ways ways_of stands_at amid readied world.push_all
  stands_begin (Queue z) = queue_by z (get_at w.vats b c.borne.vat Start z c.borne.there)
  stands_begin (Held z p) = held_by z p (get_at w.vats b c.borne.vat Start z c.borne.there)
  stands_begin (Way x y) = refl

  grows_begin : Grows (ways script honest w) (ways script honest (amid b Start w))
  grows_begin = let h = beginning_changes_no_way script honest w b c.borne.vat c.borne.there in record { stands = λ l i j. (h.0 l).0 i j; onward = λ l o. inl (h.1 l o) }

  begins : Firm (ways script honest w) (ways script honest (amid b Start w)) Was (L Start)
  begins = let u = ways script honest w in let v = ways script honest (amid b Start w) in record {
    references = λ z x. subst (λ q. StaysBehind u v (Was z x) q) (sym (leads_begin z x)) (growing_keeps u v grows_begin (Was z x));
    places = λ l k o. growing_keeps u v grows_begin (Mid l k o);
    more = λ l. ([], stands_begin l ∙ sym (append-nil ((ways script honest w).stands l)));
  }

  firm : Firm (ways script honest w) (W Start) Was (L Start)
  firm = subst (λ z. Firm (ways script honest w) (ways script honest (amid b Start z)) Was (L Start)) (sym same) begins

  first : (js : List Item) × ((ways script honest w).stands (Way a b) ≡ I ∷ js)
  first = let f = sending.stands_first script honest Bare a b c.borne.vat c.borne.there way d n verb ys Start in
      (f.0, sym (stands_begin (Way a b)) ∙ subst (λ z. (ways script honest (amid b Start z)).stands (Way a b) ≡ I ∷ f.0) same f.1)

  -- ---- the arrival

  abbrev Ends : Vat Name → Type 0
  Ends u = sending.Ends script honest Bare a b c.borne.vat c.borne.there way d n verb ys Start u

  ready : Ready script honest (sending.Full script honest Bare a b c.borne.vat c.borne.there way d n verb ys) b Start
  ready = subst (λ z. Ready script honest z b Start) (sym same) c.ready

  lead_here : L Start b (Ref n) ≡ leads script honest w.vats w.links b (Ref n)
  lead_here = leads_begin b (Ref n)

  arrived : IfGives Ends (arrive.arrive (names script b) a (read_note (names_in c.borne.vat.known) Note0) Start)
  unfolding readied
  arrived = arrives script honest Bare a b c.borne.vat c.borne.there way d n verb ys c.message c.named Start ready (refl, refl, refl, refl, c.fresh) c.before c.target
      (λ h q e. way_on h (c.borne.onward h q (sym lead_here ∙ e))) c.args

  -- ---- the world then

  abbrev Then : List Event → Vat Name → World
  Then head u = record {
    fuel = u.fuel;
    drawn = u.drawn;
    vats = world.put_at b u Bare.vats;
    links = world.push_all b u.outbox Bare.links;
    connections = world.connections_after b u head Bare.connections;
    history = Bare.history ++ head ++ world.events_of Bare.links b u.happened;
  }

  left_out : (head : List Event) (u : Vat Name) → IsOut script honest Bare a b c.borne.vat c.borne.there way d n verb ys u → IsLeftOut (Then head u) b d.message
  left_out head u (came_on_data q x e f g) = on_data u q x (get_put Bare.vats b c.borne.vat u c.borne.there) e f g
  left_out head u (told_lost h) = lost_here (among_right (Here b (Lost d.message)) (Bare.history ++ head) (world.events_of Bare.links b u.happened) (lost_event Bare.links b d.message u.happened h))
  left_out head u (posted_cut h e i) = lost_on_way (among_right (LostCut d.message) (Bare.history ++ head) (world.events_of Bare.links b u.happened) (cut_event Bare.links b h d.message e u.happened i))

  module _ (head : List Event) (u : Vat Name) where
    moves : sending.Moves script honest Bare a b c.borne.vat c.borne.there way d n verb ys Start u → Carries (ways script honest w) (Y u) Was (L u) (Way a b) I
    moves g = firm_carries (ways script honest w) (W Start) (Y u) Was (L Start) (L u) (Way a b) I first.0 first.1 firm g

    keeps : Carries (ways script honest w) (Y u) Was (L u) (Way a b) I → IsCarried (ways script honest w) (Y u) (Way a b) I → CarryKeeps script honest w (Then head u) a b I
    unfolding ways amid leads
    keeps g h = record { references = λ z x. g.references z x; places = g.places; left = g.left; carried = h }

    others : sending.Others script honest Bare a b c.borne.vat c.borne.there way d n verb ys Start u → OthersKeep script honest w (Then head u) a b I
    unfolding ways amid leads
    others g = let k = firm_but (ways script honest w) (W Start) (Y u) Was (L Start) (L u) (Way a b) I first.0 first.1 firm g in record { references = λ z x. k.references z x; places = k.places; left = k.left }

    ends : Ends u → CarryEnds script honest w (Then head u) a b I
    unfolding ways amid
    ends (inl h) = let k = h.1 in inl (inl (keeps (moves h.0) (comes_to k.3 (behind_then (ways script honest w) (W Start) (Y u) (Mid (Way a b) [] n) (Mid (Way a b) [] n) (Mid k.0 k.1 k.2) (firm.places (Way a b) [] n) k.4))))
    ends (inr (inl h)) = inr (left_out head u h.0, λ q. keeps (moves (h.1 q)) (is_lost q))
    ends (inr (inr h)) = let k = h.0 in inl (inr ((k.0, k.1, sym lead_here ∙ k.2, k.3), others h.1))

  ended : (y : World) (head : List Event) (k : ℕ) (e : Done Name (Unit {0})) → IfGives Ends e → world.put_back b Bare head k e ≡ Goes y → CarryEnds script honest w y a b I
  unfolding world.put_back
  ended y head k (Gives x u) h e = subst (λ z. CarryEnds script honest w z a b I) (goes_is (Then head u) y e) (ends head u h)
  ended y head k other h e = cc

  abbrev head_of : ℕ → List Event
  head_of k = Carried k a b Note0 (world.next_frame a b Bare.connections) ∷ []

  step_is : (k : ℕ) → world.step script (Carry a b) k w ≡ world.put_back b Bare (head_of k) (world.step_number script k) (arrive.arrive (names script b) a (read_note (names_in c.borne.vat.known) Note0) Start)
  unfolding world.step world.carry_link world.carry_notes world.arrives world.within names_of readied
  step_is k =
      ap (λ o. world.carry_link script k a b w o) c.borne.found
      ∙ ap (λ q. elim q [ true ↦ world.idle script k w | false ↦ world.carry_notes script k a b w c.borne.link.notes ]) c.borne.uncut
      ∙ ap (λ ns. world.carry_notes script k a b w ns) c.borne.first
      ∙ ap (λ o. world.arrives script k a b Bare Note0 o) c.borne.there

  pub carried : (k : ℕ) (y : World) → world.step script (Carry a b) k w ≡ Goes y → CarryEnds script honest w y a b I
  carried k y e = ended y (head_of k) (world.step_number script k) (arrive.arrive (names script b) a (read_note (names_in c.borne.vat.known) Note0) Start) arrived (sym (step_is k) ∙ e)

pub message_carries_keep : MessageCarriesKeep
message_carries_keep = λ script honest w y a b k d n verb ys c e. carried script honest w a b d n verb ys c k y e
