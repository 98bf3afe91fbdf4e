-- A name breaks that came to be in this step: nothing else is followed to it, it holds nothing, and nothing waits for it.
use Rattle.std.proofs.Common.{◌≡◌, ℕ, suc, Bool, true, false, List, [], Some, length, refl, sym, ap, subst, ◌∙◌, ◌⊎◌, inl, inr}
use Rattle.std.specs.Prelude.{slice_get}
use Rattle.def_machine.specs.Values.{Words, Value, Broken, Name, Naming, NoObject, naming}
use Rattle.def_machine.specs.State.{Message, Unsettled, Settled, Known, Settle, Settles, Vat, Done, ◌>>=◌, ◌>>◌, and_then, give, look, tell, alter, each, enqueue, changed, is_in}
use Rattle.def_machine.specs.Refs as refs
use Rattle.def_machine.specs.Refs.{Settler, entry_of}
use Rattle.def_run.specs.World.{Script, World, names}
use Rattle.def_run.specs.World as world
use Rattle.law_fate.specs.Name.Names.{IsEventual}
use Rattle.law_fate.proofs.Name.SameNames.{eventual_spot}
use Rattle.law_order.specs.Ordering.Ways.{Lane, Way, Place, Nowhere, Mid, Ways, IsOneWay, Doom, nowhere}
use Rattle.law_order.specs.Ordering.Messages.{More, StaysBehind}
use Rattle.law_order.specs.Ordering.Places.{aimed, leads_in, amid}
use Rattle.law_order.specs.Ordering.Settle.{passed_by, SettlesHere, aimed_at, led_to, settled_to}
use Rattle.law_order.specs.Ordering.Settlings.{with_line}
use Rattle.law_order.specs.Ordering.Steps.{WaysAmid, LeadsAmid, Ready, Grown, KeepsOrder}
use Rattle.law_order.specs.Ordering.Turns.{Reroutes, stays_so, ends_now, IsTurned}
use Rattle.law_order.specs.Ordering.Worlds.{IsWaiting, IsObject, FollowsEnd, StandsAlike}
use Rattle.law_order.proofs.Ordering.Adds.{stays_quiet}
use Rattle.law_order.proofs.Ordering.Amid.{entry_self}
use Rattle.law_order.proofs.Ordering.Changes.{growing_keeps}
use Rattle.law_order.proofs.Ordering.Named.{passes_nowhere}
use Rattle.law_order.proofs.Ordering.OrderPassing.{leads_via}
use Rattle.law_order.proofs.Ordering.Pushing.{within_more}
use Rattle.law_order.proofs.Ordering.SettledPlaces.{nothing_so}
use Rattle.law_order.proofs.Ordering.Turned.{turning_keeps}
use Rattle.law_order.proofs.Ordering.Whole.{line_adds}
use Rattle.law_order.specs.Views.Led.{StandsOtherwise, BreaksAsItsHost}
use Rattle.law_order.proofs.Views.Alike.{EndsNow}
use Rattle.law_order.proofs.Views.Quiet as quiet
use Rattle.law_order.proofs.Views.Quiet.{is_name}
use Rattle.law_order.proofs.Views.Settling.{IsOpen, settles_alone, settled_now}
use Rattle.law_order.proofs.Views.Severed.{IsAlone, ends_then, leads_on, mine_ends}
use Rattle.law_order.proofs.Carries.Moved.{Firm, firm_then}

-- This is known of a name of that host, which holds nothing, for which nothing waits, and which did not settle.
pub record IsFresh (K : Naming Name Name) (host : ℕ) (s : Vat Name) (p : Name) (known : Known Name) : Type 0 where
  pub found : entry_of K s.known p ≡ Some known
  pub unsettled : known.standing ≡ Unsettled
  pub held : known.held ≡ []
  pub waiting : known.waiting ≡ []
  pub reactions : known.reactions ≡ []
  pub hosted : known.host ≡ host

-- ---- by the machine

-- as that is told, and then
abbrev pub Line : Vat Name → Name → Words → Vat Name
Line s p problem = with_line s (Settles p (Broken problem))

abbrev pub Broke : Naming Name Name → Vat Name → Name → Words → Vat Name
Broke K s p problem = settled_to K (Line s p problem) p (Broken problem)

module _ (K : Naming Name Name) (host : ℕ) (s : Vat Name) (p : Name) (problem : Words) {k : Known Name} (l : IsFresh K host s p k) where
  abbrev Inner : Settler {N = Name} {W = Name} K
  Inner q z = refs.settle_at K (suc (length s.known)) q z

  abbrev Then : Vat Name
  Then = Broke K s p problem

  abbrev Rest : List (Message Name) → List Name → List (Message Name) → List ℕ → Done Name (Unit {0})
  Rest ms qs rs hs = and_then (each (refs.send_on K Inner) ms Then) (λ a. λ t. and_then (each (λ q. Inner q (Broken problem)) qs t) (λ b. λ u. and_then (each enqueue rs u) (λ c. each (refs.inform K p) hs)))

  known_settles : refs.settle_known K Inner p (Broken problem) k s ≡ Rest k.held k.waiting k.reactions k.told
  unfolding refs.settle_known ◌>>◌ and_then tell alter
  known_settles = refl

  nothing_goes : (hs : List ℕ) → Rest [] [] [] hs ≡ each (refs.inform K p) hs Then
  unfolding each give and_then
  nothing_goes hs = refl

  rest_is : Rest k.held k.waiting k.reactions k.told ≡ each (refs.inform K p) k.told Then
  rest_is = ap (λ ms. Rest ms k.waiting k.reactions k.told) l.held ∙ ap (λ qs. Rest [] qs k.reactions k.told) l.waiting ∙ ap (λ rs. Rest [] [] rs k.told) l.reactions ∙ nothing_goes k.told

  stands_so : refs.settle_standing K Inner p (Broken problem) k k.standing s ≡ each (refs.inform K p) k.told Then
  unfolding refs.settle_standing
  stands_so = ap (λ q. refs.settle_standing K Inner p (Broken problem) k q s) l.unsettled ∙ known_settles ∙ rest_is

  enters : refs.settle_entry K Inner p (Broken problem) (Some k) s ≡ each (refs.inform K p) k.told Then
  unfolding refs.settle_entry
  enters = stands_so

  -- the vats are told that are to be
  pub settles_so : refs.settle K p (Broken problem) s ≡ each (refs.inform K p) k.told Then
  unfolding refs.settle refs.settle_at refs.settle_one ◌>>=◌ and_then look refs.target_of
  settles_so = ap (λ o. refs.settle_entry K Inner p (Broken problem) o s) l.found ∙ enters

-- ---- order is kept

some_same : (a b : Known Name) → Some a ≡ Some b → a ≡ b
some_same a b e = cc

-- what only grows
pub firm_grown : (script : Script) (honest : ℕ → Bool) (w : World) (v : ℕ) (s t : Vat Name) → Grown script honest w v s t → Firm (WaysAmid script honest w v s) (WaysAmid script honest w v t) (LeadsAmid script honest w v s) (LeadsAmid script honest w v t)
firm_grown script honest w v s t g = let a = WaysAmid script honest w v s in let b = WaysAmid script honest w v t in record {
  references = λ u x. subst (λ c. StaysBehind a b (LeadsAmid script honest w v s u x) c) (sym (g.leading u x)) (growing_keeps a b g.grows (LeadsAmid script honest w v s u x));
  places = λ l c o. growing_keeps a b g.grows (Mid l c o);
  more = g.more;
}

module _ (script : Script) (honest : ℕ → Bool) (w : World) (v : ℕ) (r : Vat Name) (at : slice_get w.vats v ≡ Some r) (s : Vat Name) (p : Name) (problem : Words) {known : Known Name} (l : IsFresh (names script v) v s p known) (alone : IsAlone (names script v) s.known p) (eventual : IsEventual p) (plain : IsObject p → ⊥) (ready : Ready script honest w v s) where
  abbrev K : Naming Name Name
  K = names script v

  -- as it is told
  abbrev Told : Vat Name
  Told = Line s p problem

  abbrev T : Vat Name
  T = Broke K s p problem

  abbrev W : Vat Name → Ways
  W t = WaysAmid script honest w v t

  abbrev L : Vat Name → ℕ → Value Name → Place
  L t = LeadsAmid script honest w v t

  ready_told : Ready script honest w v Told × Grown script honest w v s Told
  ready_told = stays_quiet script honest w v s Told (line_adds K s (Settles p (Broken problem))) ready

  abbrev Now : Known Name
  Now = changed (Settle (Broken problem)) known

  only : StandsOtherwise K Told T p known Now
  only = settles_alone script v Told p (Broken problem) known l.found (subst IsOpen (sym l.unsettled) tt) l.held

  broken : Now.standing ≡ Settled (Broken problem)
  broken = settled_now script v Told p (Broken problem) known l.found (subst IsOpen (sym l.unsettled) tt) l.held

  ends : FollowsEnd K T
  ends = ends_then script honest v Told T p problem only l.unsettled broken ready_told.0.ends plain alone

  more : (k : Lane) → More (W Told) (W T) k
  more k = quiet.more script honest w v Told T p only k

  -- what is to be shown of the change
  abbrev Goes : Type 0
  Goes = Firm (W Told) (W T) (L Told) (L T) × ((u : ℕ) (x : Value Name) → L Told u x ≡ Nowhere → L T u x ≡ Nowhere)

  -- ---- the vat did not notice itself

  module _ (itself : is_in v s.noticed ≡ false) where
    other_entries : (n : Name) → (n ≡ p) ⊎ (n ≡ p → ⊥) → (n ≡ p) ⊎ ((n ≡ p → ⊥) × StandsAlike n (entry_of K Told.known n) (entry_of K T.known n))
    other_entries n (inl e) = inl e
    other_entries n (inr f) = inr (f, subst (λ o. StandsAlike n (entry_of K Told.known n) o) (sym (only.others n f)) (entry_self n (entry_of K Told.known n)))

    here : SettlesHere K Told T p (Broken problem) v
    here = record {
      only = record {
        number = refl;
        gifts = refl;
        noticed = refl;
        queue = refl;
        outbox = refl;
        names_known = only.names_known;
        before = (known, l.found, subst IsWaiting (sym l.unsettled) tt);
        after = (Now, only.found_then, broken);
        others = λ n. other_entries n (is_name n p);
      };
      own = ready.number;
      host = λ k e. ap (λ (j : Known Name). j.host) (some_same k known (sym e ∙ l.found)) ∙ l.hosted;
      host_after = λ k e. ap (λ (j : Known Name). j.host) (some_same k Now (sym e ∙ only.found_then)) ∙ only.host ∙ l.hosted;
      itself = itself;
      plain = plain;
      ended = tt;
      follows = ends;
    }

    nothing : aimed_at script v T (Broken problem) ≡ Nowhere
    unfolding aimed_at refs.severed refs.place aimed
    nothing = refl

    keeps : KeepsOrder script honest w v Told T
    keeps = (nothing_so script honest w v r Told p (Broken problem) at here nothing (λ n. ends_now (subst (λ c. Doom (led_to (W Told) v p (aimed_at script v T (Broken problem))) c) (sym nothing) nowhere))).1

    leads_then : (u : ℕ) (x : Value Name) → L T u x ≡ passed_by v p (aimed_at script v T (Broken problem)) (L Told u x)
    unfolding amid
    leads_then u x = leads_via script honest w.vats (world.push_all v s.outbox w.links) v r Told T p (Broken problem) at here u x

    goes_here : Goes
    goes_here = (
      record { references = keeps.references; places = keeps.places; more = more },
      λ u x e. leads_then u x ∙ ap (λ c. passed_by v p (aimed_at script v T (Broken problem)) c) e ∙ passes_nowhere v p (aimed_at script v T (Broken problem)),
    )

  -- ---- it did, so that the name was broken already

  spot : K.spot p ≡ NoObject
  unfolding names naming
  spot = eventual_spot v p eventual

  module _ (itself : is_in v s.noticed ≡ true) where
    severed : BreaksAsItsHost K Told T p problem
    severed = record { before = known; after = Now; only = only; unsettled = l.unsettled; noticed = subst (λ h. is_in h s.noticed ≡ true) (sym l.hosted) itself; broken = broken; plain = spot; follows = ends }

    same : (x : Value Name) → leads_in script honest v T x ≡ leads_in script honest v Told x
    same x = leads_on script honest v Told T p problem severed x

    leads_still : (u : ℕ) (x : Value Name) → L T u x ≡ L Told u x
    leads_still u x = quiet.leading script honest w v Told T p only same u x

    onward_then : (k : Lane) (n : Name) → ((W T).onward k n ≡ (W Told).onward k n) ⊎ (IsOneWay k × ((W T).onward k n ≡ Nowhere))
    onward_then k n = quiet.onward_or script honest w v Told T p only same EndsNow (λ vs ls h q. mine_ends script honest v Told T p problem severed (world.put_at v Told vs) ls h q) k n

    way_then : (a b : ℕ) (n : Name) → ((W T).onward (Way a b) n ≡ (W Told).onward (Way a b) n) ⊎ (IsOneWay (Way a b) × ((W T).onward (Way a b) n ≡ Nowhere)) → (W T).onward (Way a b) n ≡ (W Told).onward (Way a b) n
    way_then a b n (inl e) = e
    way_then a b n (inr h) = absurd h.0

    lane_then : (k : Lane) (n : Name) → ((W T).onward k n ≡ (W Told).onward k n) ⊎ (IsOneWay k × ((W T).onward k n ≡ Nowhere)) → Reroutes (W Told) (W T) ((W Told).onward k n) ((W T).onward k n)
    lane_then k n (inl e) = subst (λ c. Reroutes (W Told) (W T) ((W Told).onward k n) c) (sym e) stays_so
    lane_then k n (inr h) = ends_now (subst (λ c. Doom (W T) c) (sym h.1) nowhere)

    turned : IsTurned (W Told) (W T)
    turned = record {
      stands = λ k. within_more ((W Told).stands k) ((W T).stands k) (more k).0 (more k).1;
      links = λ a b n. way_then a b n (onward_then (Way a b) n);
      lanes = λ k n i. lane_then k n (onward_then k n);
    }

    goes_severed : Goes
    goes_severed = (
      record {
        references = λ u x. subst (λ c. StaysBehind (W Told) (W T) (L Told u x) c) (sym (leads_still u x)) (turning_keeps (W Told) (W T) turned (L Told u x) (L Told u x) stays_so);
        places = λ k b n. turning_keeps (W Told) (W T) turned (Mid k b n) (Mid k b n) stays_so;
        more = more;
      },
      λ u x e. leads_still u x ∙ e,
    )

  goes_by : (c : Bool) → is_in v s.noticed ≡ c → Goes
  goes_by false e = goes_here e
  goes_by true e = goes_severed e

  goes : Goes
  goes = goes_by (is_in v s.noticed) refl

  -- the vat is ready then, each thing keeps its order, and what led nowhere leads nowhere
  pub breaks : Ready script honest w v T × Firm (W s) (W T) (L s) (L T) × ((u : ℕ) (x : Value Name) → L s u x ≡ Nowhere → L T u x ≡ Nowhere)
  breaks = (
    quiet.ready_then script honest w v Told T p only ends ready_told.0,
    firm_then (W s) (W Told) (W T) (L s) (L Told) (L T) (firm_grown script honest w v s Told ready_told.1) goes.0,
    λ u x e. goes.1 u x (ready_told.1.leading u x ∙ e),
  )
