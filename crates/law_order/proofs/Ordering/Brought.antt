-- What is ahead of a reference is ahead of its passing.
use Rattle.std.proofs.Common.{◌≡◌, ℕ, suc, Bool, true, false, List, Option, Some, None, length, refl, sym, ap, subst, ◌∙◌, ◌⊎◌, inl, inr}
use Rattle.std.proofs.lemmas.Bool.{ne_eqb}
use Rattle.std.specs.Prelude.{codes, ◌==◌, ◌&&◌}
use Rattle.def_machine.specs.Values.{Broken, Ref, Name, Object, Naming, Own, Foreign, NoObject, host_of, spot_of, naming}
use Rattle.def_machine.specs.State.{Known, Vat, is_in}
use Rattle.def_machine.specs.Refs as refs
use Rattle.def_machine.specs.Refs.{Mine, Away}
use Rattle.def_run.specs.World.{Script, Link, World, names}
use Rattle.def_run.specs.World as world
use Rattle.law_order.specs.Ordering.Ways.{Held, Way, Item, Place, Nowhere, Free, End, Mid, Ways, nowhere, by_end, by_mid, Ahead, doomed_there, in_end, in_mid, past_end, past_mid}
use Rattle.law_order.specs.Ordering.Turns.{Within}
use Rattle.law_order.specs.Ordering.Places.{is_honest, aimed, by_host, by_follow, of_name, leads_in, leads_at, leads, over, onward_at, ways_of, ways}
use Rattle.law_order.specs.Ordering.Worlds.{IsWaiting, IsObject}
use Rattle.law_order.proofs.Ordering.Sends.{found_ends}
use Rattle.law_order.proofs.Ordering.Coming.{waits_here}
use Rattle.law_order.specs.Ordering.OrderSendPassing.{IsOpenAt, PassedHomeIsBehind, PassedNameIsBehind, OpenNamesLeadHome}

-- ---- to its host

pub home_behind : (w : Ways) (a b : ℕ) (bs : List Item) (n m : Name) → Within (w.stands (Way a b)) bs → Ahead w m (End (Way a b) n) → Ahead w m (Mid (Way a b) bs n)
home_behind w a b bs n m f (doomed_there (by_end d)) = doomed_there (by_mid d)
home_behind w a b bs n m f (in_end {m = k} i g) = in_mid (f (record { mail = m; aim = k }) i) g
home_behind w a b bs n m f (past_end h) = past_mid h

pub passed_home_is_behind : PassedHomeIsBehind
passed_home_is_behind = λ w a b bs n m f h. home_behind w a b bs n m f h

-- ---- over a link

abbrev IsFalse : Bool → Type 0
IsFalse true = ⊥
IsFalse false = Unit {0}

module _ (script : Script) (honest : ℕ → Bool) (w : World) where
  abbrev W : Ways
  W = ways script honest w

  abbrev Leads : ℕ → Name → Place
  Leads u n = leads script honest w.vats w.links u (Ref n)

  pub honest_link : (a b : ℕ) (l : Link) → honest a ≡ true → honest b ≡ true → l.from ≡ a → l.to ≡ b → is_honest script honest l ≡ true
  unfolding is_honest
  honest_link a b l i j e f = ap (λ c. honest c && honest l.to) e ∙ ap (λ c. honest a && honest c) f ∙ ap (λ c. c && honest b) i ∙ j

  over_by : (b : ℕ) (n m : Name) (l : Link) (c d : Bool) → c ≡ true → Ahead W m (Leads b n) → Ahead W m (elim c [ true ↦ elim d [ true ↦ Nowhere | false ↦ Leads b n ] | false ↦ Free ])
  over_by b n m l true true e h = doomed_there nowhere
  over_by b n m l true false e h = h
  over_by b n m l false d e h = absurd (subst IsFalse e tt)

  found_by : (a b : ℕ) (n m : Name) (o : Option Link) → ((l : Link) → o ≡ Some l → is_honest script honest l ≡ true) → Ahead W m (Leads b n) → Ahead W m (elim o [ Some l ↦ over script honest w.vats w.links b n l | None ↦ Nowhere ])
  unfolding over
  found_by a b n m None f h = doomed_there nowhere
  found_by a b n m (Some l) f h = over_by b n m l (is_honest script honest l) l.cut (f l refl) h

  -- what is ahead of where the receiver would send is ahead of where the link leads
  pub over_link : (a b : ℕ) (n m : Name) → honest a ≡ true → honest b ≡ true → Ahead W m (Leads b n) → Ahead W m (W.onward (Way a b) n)
  unfolding ways ways_of onward_at
  over_link a b n m i j h = found_by a b n m (world.link_at a b w.links) (λ l e. let q = found_ends a b w.links l e in honest_link a b l i j q.0 q.1) h

  name_behind : (v h : ℕ) (bs : List Item) (n m : Name) → honest v ≡ true → honest h ≡ true → (Leads h n ≡ End (Way h v) n) ⊎ (Leads h n ≡ Nowhere) → Ahead W m (Leads v n) → Ahead W m (Mid (Way v h) bs n)
  name_behind v h bs n m i j (inl e) a = past_mid (over_link v h n m i j (subst (λ c. Ahead W m c) (sym e) (past_end (over_link h v n m j i a))))
  name_behind v h bs n m i j (inr e) a = past_mid (over_link v h n m i j (subst (λ c. Ahead W m c) (sym e) (doomed_there nowhere)))

pub passed_name_is_behind : PassedNameIsBehind
passed_name_is_behind = λ script honest w v h bs n m i j e a. name_behind script honest w v h bs n m i j e a

-- ---- names that lead home

module _ (script : Script) (honest : ℕ → Bool) (v h : ℕ) (s : Vat Name) (n : Name) (here : s.number ≡ h) (other : h ≡ v → ⊥) where
  abbrev K : Naming Name Name
  K = names script h

  abbrev Home : Place → Type 0
  Home c = (c ≡ End (Way h v) n) ⊎ (c ≡ Nowhere)

  away : (h == v) ≡ false
  away = ne_eqb h v other

  unknown_home : host_of n ≡ v → Home (by_host h s n (host_of n))
  unfolding by_host
  unknown_home e = subst (λ g. Home (elim (is_in g s.noticed) [ true ↦ Nowhere | false ↦ elim (h == g) [ true ↦ End (Held h n) n | false ↦ End (Way h g) n ] ])) (sym e) (go (is_in v s.noticed))
    where
      go : (b : Bool) → Home (elim b [ true ↦ Nowhere | false ↦ elim (h == v) [ true ↦ End (Held h n) n | false ↦ End (Way h v) n ] ])
      go true = inr refl
      go false = inl (ap (λ c. elim c [ true ↦ End (Held h n) n | false ↦ End (Way h v) n ]) away)

  -- it is followed to itself, and goes to that vat unless that was noticed
  aimed_home : (b object : Bool) → refs.place K s (Ref n) ≡ Away v n object → Home (aimed h (elim b [ true ↦ Broken (codes "partition") | false ↦ Ref n ]) (refs.place K s (elim b [ true ↦ Broken (codes "partition") | false ↦ Ref n ])))
  unfolding aimed refs.place
  aimed_home true object e = inr refl
  aimed_home false object e = inl (ap (λ p. aimed h (Ref n) p) e)

  stays_itself : IsWaiting (refs.standing_of K s.known n) → refs.follow_at K (suc (length s.known)) s.known (Ref n) ≡ Ref n
  unfolding refs.follow_at
  stays_itself i = waits_here K (λ y. refs.follow_at K (length s.known) s.known y) n (refs.standing_of K s.known n) i

  followed_home : IsWaiting (refs.standing_of K s.known n) → (object : Bool) → refs.severed_at K s n (K.spot n) ≡ refs.severed_by K v s n → refs.place K s (Ref n) ≡ Away v n object → Home (by_follow script honest h s (Ref n))
  unfolding by_follow refs.follow refs.severed refs.severed_by
  followed_home i object e f = subst (λ y. Home (aimed h y (refs.place K s y))) (sym (ap (λ y. refs.severed K s y) (stays_itself i) ∙ e)) (aimed_home (is_in v s.noticed) object f)

-- an object of that vat
module _ (script : Script) (honest : ℕ → Bool) (v h i : ℕ) (s : Vat Name) (here : s.number ≡ h) (other : h ≡ v → ⊥) where
  spot_far : (names script h).spot (Object v i) ≡ Foreign v
  unfolding names naming spot_of
  spot_far = ap (λ c. elim c [ true ↦ Own i | false ↦ Foreign v ]) (ne_eqb h v other)

  object_severed : refs.severed_at (names script h) s (Object v i) ((names script h).spot (Object v i)) ≡ refs.severed_by (names script h) v s (Object v i)
  unfolding refs.severed_at
  object_severed = ap (λ p. refs.severed_at (names script h) s (Object v i) p) spot_far

  object_placed : refs.place (names script h) s (Ref (Object v i)) ≡ Away v (Object v i) true
  unfolding refs.place refs.spotted
  object_placed = ap (λ p. refs.spotted (names script h) s (Object v i) p) spot_far

  object_home : refs.entry_of (names script h) s.known (Object v i) ≡ None → Home script honest v h s (Object v i) here other (by_follow script honest h s (Ref (Object v i)))
  unfolding refs.standing_of refs.standing_in
  object_home e = followed_home script honest v h s (Object v i) here other (subst (λ o. IsWaiting (refs.standing_in o)) (sym e) tt) true object_severed object_placed

-- a name that is known and waits
module _ (script : Script) (honest : ℕ → Bool) (v h : ℕ) (s : Vat Name) (n : Name) (here : s.number ≡ h) (other : h ≡ v → ⊥) (plain : IsObject n → ⊥) (k : Known Name) (knows : refs.entry_of (names script h) s.known n ≡ Some k) (host : k.host ≡ v) where
  spot_plain : (m : Name) → (IsObject m → ⊥) → (names script h).spot m ≡ NoObject
  unfolding names naming spot_of
  spot_plain (Object g i) e = absurd (e tt)
  spot_plain other e = refl

  hosted_there : refs.host_at (names script h) s.number s.known n ≡ v
  unfolding refs.host_at refs.host_in
  hosted_there = ap (λ o. refs.host_in s.number o) knows ∙ host

  known_severed : refs.severed_at (names script h) s n ((names script h).spot n) ≡ refs.severed_by (names script h) v s n
  unfolding refs.severed_at
  known_severed = ap (λ p. refs.severed_at (names script h) s n p) (spot_plain n plain) ∙ ap (λ g. refs.severed_by (names script h) g s n) hosted_there

  known_placed : refs.place (names script h) s (Ref n) ≡ Away v n false
  unfolding refs.place refs.spotted refs.hosted
  known_placed = ap (λ p. refs.spotted (names script h) s n p) (spot_plain n plain)
      ∙ ap (λ g. refs.hosted (names script h) s.number n g) hosted_there
      ∙ ap (λ u. refs.hosted (names script h) u n v) here
      ∙ ap (λ c. elim c [ true ↦ Mine n | false ↦ Away v n false ]) (ne_eqb h v other)

  known_home : IsWaiting k.standing → Home script honest v h s n here other (by_follow script honest h s (Ref n))
  unfolding refs.standing_of refs.standing_in
  known_home i = followed_home script honest v h s n here other (subst (λ o. IsWaiting (refs.standing_in o)) (sym knows) i) false known_severed known_placed

module _ (script : Script) (honest : ℕ → Bool) (v h : ℕ) (s : Vat Name) (here : s.number ≡ h) (other : h ≡ v → ⊥) where
  none_home : (n : Name) → host_of n ≡ v → refs.entry_of (names script h) s.known n ≡ None → Home script honest v h s n here other (of_name script honest h s n None)
  unfolding of_name host_of
  none_home (Object g i) e q = subst (λ u. Home script honest v h s (Object u i) here other (by_follow script honest h s (Ref (Object u i)))) (sym e) (object_home script honest v h i s here other (subst (λ u. refs.entry_of (names script h) s.known (Object u i) ≡ None) e q))
  none_home another e q = unknown_home script honest v h s another here other e

  some_home : (n : Name) (k : Known Name) → (IsObject n → ⊥) → refs.entry_of (names script h) s.known n ≡ Some k → IsWaiting k.standing → k.host ≡ v → Home script honest v h s n here other (of_name script honest h s n (Some k))
  unfolding of_name
  some_home (Object g i) k f e w q = absurd (f tt)
  some_home another k f e w q = known_home script honest v h s another here other f k e q w

  home_by : (n : Name) → host_of n ≡ v → IsOpenAt script h v s n → Home script honest v h s n here other (leads_in script honest h s (Ref n))
  unfolding leads_in
  home_by n e (inl q) = subst (λ o. Home script honest v h s n here other (of_name script honest h s n o)) (sym q) (none_home n e q)
  home_by n e (inr q) = subst (λ o. Home script honest v h s n here other (of_name script honest h s n o)) (sym q.2) (some_home n q.1 q.0 q.2 q.3 q.4)

pub open_names_lead_home : OpenNamesLeadHome
unfolding leads leads_at
open_names_lead_home = λ script honest w v h s n at here other e q. subst (λ o. (leads_at script honest h o (Ref n) ≡ End (Way h v) n) ⊎ (leads_at script honest h o (Ref n) ≡ Nowhere)) (sym at) (home_by script honest v h s here other n e q)
