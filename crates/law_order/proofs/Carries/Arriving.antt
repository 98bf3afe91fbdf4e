-- The message of a note that arrives goes on to where it is sent, and order is kept.
use Rattle.std.proofs.Common.{◌≡◌, ℕ, Bool, true, false, Option, Some, None, refl, sym, ap, subst, ◌∙◌, ◌⊎◌, inl, inr}
use Rattle.std.specs.Prelude.{◌==◌}
use Rattle.std.proofs.lemmas.Bool.{eq-eqb}
use Rattle.def_machine.specs.Values.{Value, Ref, Name, Object, Naming, Own, Foreign, NoObject, spot_of, naming}
use Rattle.def_machine.specs.State.{Known, Vat}
use Rattle.def_machine.specs.Refs as refs
use Rattle.def_machine.specs.Refs.{Near, Mine, Away, Gone}
use Rattle.def_run.specs.World.{Script, names}
use Rattle.law_order.specs.Ordering.Ways.{Lane, Queue, Held, Way, Nowhere, End}
use Rattle.law_order.specs.Ordering.Places.{aimed}
use Rattle.law_order.specs.Ordering.Worlds.{RefersAlike, StandsAlike}
use Rattle.law_order.specs.Carries.Carries.{IsNoName}

-- ---- where a value is

-- a name, or none
pub name_or : (y : Value Name) → ((o : Name) × (y ≡ Ref o)) ⊎ IsNoName y
name_or (Ref o) = inl (o, refl)
name_or other = inr tt

pub end_nowhere : (l : Lane) (o : Name) → End l o ≡ Nowhere → ⊥
end_nowhere l o e = cc

pub near_end : (v : ℕ) (y : Value Name) (o : Name) → y ≡ Ref o → aimed v y Near ≡ End (Queue v) o
unfolding aimed
near_end v y o e = ap (λ z. aimed v z Near) e

-- it is over that link, where it is sent so
same_end : (v h g : ℕ) (q o : Name) → End (Way v g) o ≡ End (Way v h) q → (g ≡ h) × (o ≡ q)
same_end v h g q o e = (ap (λ c. elim c [ End l z ↦ elim l [ Way x y ↦ y | _ ↦ g ] | _ ↦ g ]) e, ap (λ c. elim c [ End l z ↦ z | _ ↦ o ]) e)

queue_way : (v h : ℕ) (o q : Name) → End (Queue v) o ≡ End (Way v h) q → ⊥
queue_way v h o q e = cc

held_way : (v h : ℕ) (o q : Name) → End (Held v o) o ≡ End (Way v h) q → ⊥
held_way v h o q e = cc

nowhere_way : (v h : ℕ) (q : Name) → Nowhere ≡ End (Way v h) q → ⊥
nowhere_way v h q e = cc

pub aimed_back : (v h : ℕ) (q : Name) (y : Value Name) (p : refs.Place Name) → aimed v y p ≡ End (Way v h) q → (o : Bool) × (p ≡ Away h q o)
unfolding aimed
aimed_back v h q (Ref o) Near e = absurd (queue_way v h o q e)
aimed_back v h q y (Mine o) e = absurd (held_way v h o q e)
aimed_back v h q y (Away g o c) e = let i = same_end v h g q o e in (c, ap (λ z. Away z o c) i.0 ∙ ap (λ z. Away h z c) i.1)
aimed_back v h q y another e = absurd (nowhere_way v h q e)

-- who hosts what is away is another
module _ (script : Script) (b : ℕ) (s : Vat Name) (own : s.number ≡ b) where
  abbrev N : Naming Name Name
  N = names script b

  abbrev IsOther : refs.Place Name → Type 0
  IsOther (Away h q o) = h ≡ b → ⊥
  IsOther other = Unit {0}

  false_true : false ≡ true → ⊥
  false_true e = cc

  apart_by : (x h : ℕ) → (x == h) ≡ false → x ≡ b → h ≡ b → ⊥
  apart_by x h e f g = false_true (sym e ∙ eq-eqb x h (f ∙ sym g))

  hosted_other : (m : Name) (h : ℕ) (c : Bool) → (s.number == h) ≡ c → IsOther (elim c [ true ↦ Mine m | false ↦ Away h m false ])
  hosted_other m h true e = tt
  hosted_other m h false e = λ g. apart_by s.number h e own g

  object_other : (m : Name) (h i : ℕ) (c : Bool) → (b == h) ≡ c → IsOther (refs.spotted N s m (elim c [ true ↦ Own i | false ↦ Foreign h ]))
  unfolding refs.spotted
  object_other m h i true e = tt
  object_other m h i false e = λ g. apart_by b h e refl g

  none_other : (m : Name) → IsOther (refs.spotted N s m NoObject)
  unfolding refs.spotted refs.hosted
  none_other m = hosted_other m (refs.host_at N s.number s.known m) (s.number == refs.host_at N s.number s.known m) refl

  spot_other : (m : Name) → IsOther (refs.spotted N s m (N.spot m))
  unfolding names naming spot_of
  spot_other (Object h i) = object_other (Object h i) h i (b == h) refl
  spot_other other = none_other other

  place_other : (y : Value Name) → IsOther (refs.place N s y)
  unfolding refs.place
  place_other (Ref m) = spot_other m
  place_other other = tt

  pub away_other : (y : Value Name) (h : ℕ) (q : Name) (o : Bool) → refs.place N s y ≡ Away h q o → h ≡ b → ⊥
  away_other y h q o e = subst IsOther e (place_other y)

-- ---- what stands alike

alike_then : (n : Name) (a b c : Option (Known Name)) → StandsAlike n a b → StandsAlike n b c → StandsAlike n a c
alike_then n None None None g h = tt
alike_then n None (Some j) c g h = absurd g
alike_then n (Some i) None c g h = absurd g
alike_then n (Some i) (Some j) (Some k) g h = (h.0 ∙ g.0, h.1 ∙ g.1, λ x q. h.2 x (g.2 x q))
alike_then n other another further g h = absurd h

pub refers_then : (K : Naming Name Name) (s t u : Vat Name) → RefersAlike K s t → RefersAlike K t u → RefersAlike K s u
refers_then K s t u g h = record {
  number = h.number ∙ g.number;
  gifts = h.gifts ∙ g.gifts;
  noticed = h.noticed ∙ g.noticed;
  names_known = h.names_known ∙ g.names_known;
  entries = λ n. alike_then n (refs.entry_of K s.known n) (refs.entry_of K t.known n) (refs.entry_of K u.known n) (g.entries n) (h.entries n);
}

pub some_alike : (n : Name) (a b : Option (Known Name)) (k : Known Name) → StandsAlike n a b → a ≡ Some k → (j : Known Name) × (b ≡ Some j) × (j.standing ≡ k.standing)
some_alike n None b k g e = cc
some_alike n (Some i) None k g e = absurd g
some_alike n (Some i) (Some j) k g e = let same : i ≡ k = cc in (j, refl, g.0 ∙ ap (λ (z : Known Name). z.standing) same)
