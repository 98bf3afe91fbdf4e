-- To which places references lead: one walk for every property of places.
use Rattle.std.proofs.Common.{◌≡◌, ℕ, suc, Bool, true, false, Option, Some, None, length, refl, sym, ap, subst, ◌∙◌, eq-eqb}
use Rattle.std.specs.Prelude.{codes, ◌==◌}
use Rattle.def_machine.specs.Values.{Value, Broken, Ref, Name, Object, Naming, Spot, Own, Foreign, NoObject, host_of, spot_of, naming}
use Rattle.def_machine.specs.State.{Known, Vat, is_in}
use Rattle.def_machine.specs.Refs as refs
use Rattle.def_machine.specs.Refs.{Mine, Away}
use Rattle.def_run.specs.World.{Script, names}
use Rattle.law_order.specs.Ordering.Ways.{Place, Nowhere, End, Queue, Held, Way}
use Rattle.law_order.specs.Ordering.Places.{aimed, by_host, by_follow, of_name, leads_in}
use Rattle.law_order.specs.Arrivals.Tellings.{HostsAreTold}

abbrev IsForeign : Spot → Type 0
IsForeign (Foreign h) = Unit {0}
IsForeign other = ⊥

abbrev vat_of : ℕ → Spot → ℕ
vat_of d (Foreign h) = h
vat_of d other = d

object_host : (u w i h : ℕ) (c : Bool) → elim c [ true ↦ Own i | false ↦ Foreign w ] ≡ Foreign h → w ≡ h
object_host u w i h true e = absurd (subst IsForeign (sym e) tt)
object_host u w i h false e = ap (λ q. vat_of w q) e

-- an object of another vat is hosted there
foreign_host : (script : Script) (u : ℕ) (m : Name) (h : ℕ) → (names script u).spot m ≡ Foreign h → host_of m ≡ h
unfolding names naming spot_of host_of
foreign_host script u (Object w i) h e = object_host u w i h (u == w) e
foreign_host script u other h e = absurd (subst IsForeign (sym e) tt)

-- P is to hold of the places of vat u, where what goes out does so on names of which Q holds, to their hosts.
module _ (script : Script) (honest : ℕ → Bool) (u : ℕ) (s : Vat Name) (told : HostsAreTold (names script u) s) (P : Place → Type 0) (Q : Name → Type 0)
    (nowhere_has : P Nowhere) (queue_has : (m : Name) → P (End (Queue u) m)) (held_has : (m : Name) → P (End (Held u m) m)) (way_has : (h : ℕ) (m : Name) → Q m → host_of m ≡ h → P (End (Way u h) m)) where
  abbrev K : Naming Name Name
  K = names script u

  abbrev Fine : Value Name → Type 0
  Fine z = (m : Name) → z ≡ Ref m → Q m

  hosted_by : (m : Name) → Q m → (h : ℕ) (c : Bool) → (c ≡ false → host_of m ≡ h) → P (aimed u (Ref m) (elim c [ true ↦ Mine m | false ↦ Away h m false ]))
  unfolding aimed
  hosted_by m q h true f = held_has m
  hosted_by m q h false f = way_has h m q (f refl)

  abbrev IsYes : Bool → Type 0
  IsYes true = Unit {0}
  IsYes false = ⊥

  at_home : (d : ℕ) (m : Name) → (d == d) ≡ false → host_of m ≡ d
  at_home d m e = absurd (subst IsYes (sym (eq-eqb d d refl) ∙ e) tt)

  hosted_has : (m : Name) → Q m → (o : Option (Known Name)) → refs.entry_of K s.known m ≡ o → P (aimed u (Ref m) (refs.hosted K s.number m (refs.host_in s.number o)))
  unfolding refs.hosted refs.host_in
  hosted_has m q (Some k) e = hosted_by m q k.host (s.number == k.host) (λ i. sym (told m k e))
  hosted_has m q None e = hosted_by m q s.number (s.number == s.number) (λ i. at_home s.number m i)

  spot_has : (m : Name) → Q m → (q : Spot) → K.spot m ≡ q → P (aimed u (Ref m) (refs.spotted K s m q))
  unfolding aimed refs.spotted refs.host_at
  spot_has m g (Own i) e = queue_has m
  spot_has m g (Foreign h) e = way_has h m g (foreign_host script u m h e)
  spot_has m g NoObject e = hosted_has m g (refs.entry_of K s.known m) refl

  value_has : (z : Value Name) → Fine z → P (aimed u z (refs.place K s z))
  unfolding aimed refs.place
  value_has (Ref m) f = spot_has m (f m refl) (K.spot m) refl
  value_has other f = nowhere_has

  broken_has : P (aimed u (Broken (codes "partition")) (refs.place K s (Broken (codes "partition"))))
  unfolding aimed refs.place
  broken_has = nowhere_has

  severed_by_has : (m : Name) → Fine (Ref m) → (c : Bool) → P (aimed u (elim c [ true ↦ Broken (codes "partition") | false ↦ Ref m ]) (refs.place K s (elim c [ true ↦ Broken (codes "partition") | false ↦ Ref m ])))
  severed_by_has m f true = broken_has
  severed_by_has m f false = value_has (Ref m) f

  severed_spot_has : (m : Name) → Fine (Ref m) → (q : Spot) → P (aimed u (refs.severed_at K s m q) (refs.place K s (refs.severed_at K s m q)))
  unfolding refs.severed_at refs.severed_by
  severed_spot_has m f (Own i) = value_has (Ref m) f
  severed_spot_has m f (Foreign h) = severed_by_has m f (is_in h s.noticed)
  severed_spot_has m f NoObject = severed_by_has m f (is_in (refs.host_at K s.number s.known m) s.noticed)

  -- where what is followed to z leads
  pub severed_has : (z : Value Name) → Fine z → P (aimed u (refs.severed K s z) (refs.place K s (refs.severed K s z)))
  unfolding refs.severed
  severed_has (Ref m) f = severed_spot_has m f (K.spot m)
  severed_has other f = value_has other f

  host_by_has : (m : Name) → Q m → (c d : Bool) → P (elim c [ true ↦ Nowhere | false ↦ elim d [ true ↦ End (Held u m) m | false ↦ End (Way u (host_of m)) m ] ])
  host_by_has m q true d = nowhere_has
  host_by_has m q false true = held_has m
  host_by_has m q false false = way_has (host_of m) m q refl

  pub by_host_has : (m : Name) → Q m → P (by_host u s m (host_of m))
  unfolding by_host
  by_host_has m q = host_by_has m q (is_in (host_of m) s.noticed) (u == host_of m)

  -- ---- where any name will do

  module _ (any : (m : Name) → Q m) where
    follow_has : (x : Value Name) → P (by_follow script honest u s x)
    unfolding by_follow refs.follow
    follow_has x = severed_has (refs.follow_at K (suc (length s.known)) s.known x) (λ m e. any m)

    name_has : (m : Name) (o : Option (Known Name)) → P (of_name script honest u s m o)
    unfolding of_name
    name_has (Object h i) o = follow_has (Ref (Object h i))
    name_has other None = by_host_has other (any other)
    name_has other (Some k) = follow_has (Ref other)

    pub leads_has : (x : Value Name) → P (leads_in script honest u s x)
    unfolding leads_in
    leads_has (Ref m) = name_has m (refs.entry_of K s.known m)
    leads_has other = follow_has other
