-- Objects lead to the queue of their vat, at home; and where a link leads by each name.
use Rattle.std.proofs.Common.{◌≡◌, ℕ, suc, Bool, true, false, List, [], Option, Some, None, length, refl, sym, ap, subst, ◌∙◌, ◌⊎◌, inl, inr, eq-eqb}
use Rattle.std.specs.Prelude.{◌==◌}
use Rattle.def_machine.specs.Values.{Ref, Name, Object, Naming, Own, Foreign, host_of, spot_of, naming}
use Rattle.def_machine.specs.State.{Vat}
use Rattle.def_machine.specs.Refs as refs
use Rattle.def_machine.specs.Refs.{Near}
use Rattle.def_run.specs.World.{Script, Link, names}
use Rattle.def_run.specs.World as world
use Rattle.law_order.specs.Ordering.Ways.{Place, Nowhere, Free, End, Queue, Way}
use Rattle.law_order.specs.Ordering.Places.{is_honest, aimed, by_follow, of_name, leads_in, leads, over, onward_at}
use Rattle.law_order.specs.Ordering.Worlds.{IsObject}
use Rattle.law_order.proofs.Ordering.Brought.{honest_link}
use Rattle.law_order.proofs.Ordering.Sends.{found_ends}

module _ (script : Script) (honest : ℕ → Bool) (h i : ℕ) (s : Vat Name) (none : refs.entry_of (names script h) s.known (Object h i) ≡ None) where
  abbrev K : Naming Name Name
  K = names script h

  abbrev O : Name
  O = Object h i

  spot_here : K.spot O ≡ Own i
  unfolding names naming spot_of
  spot_here = ap (λ c. elim c [ true ↦ Own i | false ↦ Foreign h ]) (eq-eqb h h refl)

  stays_there : (d : ℕ) → refs.follow_at K (suc d) s.known (Ref O) ≡ Ref O
  unfolding refs.follow_at refs.standing_of refs.standing_in refs.led
  stays_there d = ap (λ o. refs.led K (λ z. refs.follow_at K d s.known z) O (refs.standing_in o)) none

  followed_there : refs.follow K s (Ref O) ≡ Ref O
  unfolding refs.follow refs.severed refs.severed_at
  followed_there = ap (λ z. refs.severed K s z) (stays_there (length s.known)) ∙ ap (λ q. refs.severed_at K s O q) spot_here

  near_there : refs.place K s (Ref O) ≡ Near
  unfolding refs.place refs.spotted
  near_there = ap (λ q. refs.spotted K s O q) spot_here

  home_follows : by_follow script honest h s (Ref O) ≡ End (Queue h) O
  unfolding by_follow aimed
  home_follows = ap (λ z. aimed h z (refs.place K s z)) followed_there ∙ ap (λ q. aimed h (Ref O) q) near_there

  pub home_leads : leads_in script honest h s (Ref O) ≡ End (Queue h) O
  unfolding leads_in of_name
  home_leads = home_follows

-- so does each object of that vat
pub object_leads : (script : Script) (honest : ℕ → Bool) (h : ℕ) (s : Vat Name) (o : Name) → IsObject o → host_of o ≡ h → refs.entry_of (names script h) s.known o ≡ None → leads_in script honest h s (Ref o) ≡ End (Queue h) o
unfolding host_of
object_leads script honest h s (Object a i) j e none = subst (λ z. refs.entry_of (names script h) s.known (Object z i) ≡ None → leads_in script honest h s (Ref (Object z i)) ≡ End (Queue h) (Object z i)) (sym e) (λ q. home_leads script honest h i s q) none
object_leads script honest h s other j e none = absurd j

-- it is an object of another vat there
pub object_far : (script : Script) (v h : ℕ) (o : Name) → IsObject o → host_of o ≡ h → (v == h) ≡ false → (names script v).spot o ≡ Foreign h
unfolding names naming spot_of host_of
object_far script v h (Object a i) j e f = subst (λ z. elim (v == z) [ true ↦ Own i | false ↦ Foreign z ] ≡ Foreign h) (sym e) (ap (λ c. elim c [ true ↦ Own i | false ↦ Foreign h ]) f)
object_far script v h other j e f = absurd j

-- ---- where a link between honest vats leads: nowhere by any name, or to where the receiver has the name

module _ (script : Script) (honest : ℕ → Bool) (vs : List (Vat Name)) (ls : List Link) (v h : ℕ) (here : honest v ≡ true) (there : honest h ≡ true) where
  abbrev Over : Option Link → Name → Place
  Over o x = elim o [ Some l ↦ over script honest vs ls h x l | None ↦ Nowhere ]

  abbrev Leads : Name → Place
  Leads x = leads script honest vs ls h (Ref x)

  abbrev Led : (Name → Place) → Type 0
  Led f = ((x : Name) → f x ≡ Nowhere) ⊎ ((x : Name) → f x ≡ Leads x)

  abbrev OverBy : Bool → Bool → Name → Place
  OverBy c d x = elim c [ true ↦ elim d [ true ↦ Nowhere | false ↦ Leads x ] | false ↦ Free ]

  by_cut : (c d : Bool) → c ≡ true → Led (OverBy c d)
  by_cut c true e = inl (λ x. ap (λ q. OverBy q true x) e)
  by_cut c false e = inr (λ x. ap (λ q. OverBy q false x) e)

  by_link : (o : Option Link) → world.link_at v h ls ≡ o → Led (Over o)
  unfolding over
  by_link (Some l) e = let q = found_ends v h ls l e in by_cut (is_honest script honest l) l.cut (honest_link script honest (record { fuel = 0; drawn = []; vats = []; links = []; connections = []; history = [] }) v h l here there q.0 q.1)
  by_link None e = inl (λ x. refl)

  pub link_leads : ((x : Name) → onward_at script honest vs ls (Way v h) x ≡ Nowhere) ⊎ ((x : Name) → onward_at script honest vs ls (Way v h) x ≡ Leads x)
  unfolding onward_at
  link_leads = by_link (world.link_at v h ls) refl
