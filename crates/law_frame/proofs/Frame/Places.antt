-- Links and connections among others, where one of them changes.
use Rattle.std.proofs.Common.{◌≡◌, ℕ, Bool, true, false, List, [], ◌∷◌, Option, Some, refl, sym, ap, ◌∙◌, ◌⊎◌, inl, inr, ◌==◌}
use Rattle.std.specs.Prelude.{option_map}
use Rattle.std.proofs.lemmas.Bool.{eqb-true, eq-eqb}
use Rattle.def_run.specs.World.{Link, link_at, with_link, is_link}
use Rattle.def_run.specs.Wire.{Connected, connected_at, with_connected, connects, unconnected}

-- of two pairs of numbers
pub same_or : (a b v u : ℕ) → ((a ≡ v) × (b ≡ u)) ⊎ (a ≡ v → b ≡ u → ⊥)
same_or a b v u = either (a == v) (b == u) refl refl
  where
    either : (s t : Bool) → (a == v) ≡ s → (b == u) ≡ t → ((a ≡ v) × (b ≡ u)) ⊎ (a ≡ v → b ≡ u → ⊥)
    either true true e f = inl (eqb-true a v e, eqb-true b u f)
    either true false e f = inr (λ i j. absurd (clash (b == u) (eq-eqb b u j) f))
      where
        clash : (c : Bool) → c ≡ true → c ≡ false → ⊥
        clash c g h = cc
    either false t e f = inr (λ i j. absurd (clash (a == v) (eq-eqb a v i) e))
      where
        clash : (c : Bool) → c ≡ true → c ≡ false → ⊥
        clash c g h = cc

taken : {A : Type 0} (c : Bool) (x y : A) → c ≡ true → ◌≡◌ {A = A} (elim c [ true ↦ x | false ↦ y ]) x
taken true x y e = refl
taken false x y e = cc

left : {A : Type 0} (c : Bool) (x y : A) → c ≡ false → ◌≡◌ {A = A} (elim c [ true ↦ x | false ↦ y ]) y
left false x y e = refl
left true x y e = cc

-- the key of a pair is another's
key_or : (x y v u : ℕ) (s t : Bool) → (x == v) ≡ s → (y == u) ≡ t → elim s [ true ↦ t | false ↦ false ] ≡ true → (x ≡ v) × (y ≡ u)
key_or x y v u true true e f g = (eqb-true x v e, eqb-true y u f)
key_or x y v u true false e f g = cc
key_or x y v u false t e f g = cc

not_or : (x y v u : ℕ) (s t : Bool) → (x == v) ≡ s → (y == u) ≡ t → (x ≡ v → y ≡ u → ⊥) → elim s [ true ↦ t | false ↦ false ] ≡ false
not_or x y v u true true e f n = absurd (n (eqb-true x v e) (eqb-true y u f))
not_or x y v u true false e f n = refl
not_or x y v u false t e f n = refl

own_key : (v u : ℕ) (s t : Bool) → (v == v) ≡ s → (u == u) ≡ t → elim s [ true ↦ t | false ↦ false ] ≡ true
own_key v u true true e f = refl
own_key v u true false e f = absurd (clash (u == u) (eq-eqb u u refl) f)
  where
    clash : (c : Bool) → c ≡ true → c ≡ false → ⊥
    clash c g h = cc
own_key v u false t e f = absurd (clash (v == v) (eq-eqb v v refl) e)
  where
    clash : (c : Bool) → c ≡ true → c ≡ false → ⊥
    clash c g h = cc

-- ---- links

module _ (f : Link → Link) (from : (l : Link) → (f l).from ≡ l.from) (to : (l : Link) → (f l).to ≡ l.to) where
  link_key : (v u : ℕ) (l : Link) → is_link v u (f l) ≡ is_link v u l
  unfolding is_link
  link_key v u l = rw (from l, to l) refl

  link_here : (v u : ℕ) (l : Link) (ls : List Link) (b : Bool) → is_link v u l ≡ b → link_at v u (with_link f v u ls) ≡ option_map f (link_at v u ls)
      → link_at v u (elim b [ true ↦ f l ∷ ls | false ↦ l ∷ with_link f v u ls ]) ≡ option_map f (elim b [ true ↦ Some l | false ↦ link_at v u ls ])
  unfolding link_at
  link_here v u l ls true e h = taken (is_link v u (f l)) (Some (f l)) (link_at v u ls) (link_key v u l ∙ e)
  link_here v u l ls false e h = left (is_link v u l) (Some l) (link_at v u (with_link f v u ls)) e ∙ h

  pub link_same : (v u : ℕ) (ls : List Link) → link_at v u (with_link f v u ls) ≡ option_map f (link_at v u ls)
  unfolding link_at with_link
  link_same v u [] = refl
  link_same v u (l ∷ ls) = link_here v u l ls (is_link v u l) refl (link_same v u ls)

  link_is : (a b : ℕ) (l : Link) → is_link a b l ≡ true → (l.from ≡ a) × (l.to ≡ b)
  unfolding is_link
  link_is a b l e = key_or l.from l.to a b (l.from == a) (l.to == b) refl refl e

  link_not : (a b v u : ℕ) (l : Link) → (a ≡ v → b ≡ u → ⊥) → is_link a b l ≡ true → is_link v u l ≡ false
  unfolding is_link
  link_not a b v u l n e = let k = link_is a b l e in not_or l.from l.to v u (l.from == v) (l.to == u) refl refl (λ i j. n (sym k.0 ∙ i) (sym k.1 ∙ j))

  link_there : (a b v u : ℕ) (l : Link) (ls : List Link) (t : Bool) → (a ≡ v → b ≡ u → ⊥) → is_link a b l ≡ t → link_at v u (with_link f a b ls) ≡ link_at v u ls
      → link_at v u (elim t [ true ↦ f l ∷ ls | false ↦ l ∷ with_link f a b ls ]) ≡ elim (is_link v u l) [ true ↦ Some l | false ↦ link_at v u ls ]
  unfolding link_at
  link_there a b v u l ls true n e h = left (is_link v u (f l)) (Some (f l)) (link_at v u ls) (link_key v u l ∙ link_not a b v u l n e) ∙ sym (left (is_link v u l) (Some l) (link_at v u ls) (link_not a b v u l n e))
  link_there a b v u l ls false n e h = ap (λ (o : Option Link). elim (is_link v u l) [ true ↦ Some l | false ↦ o ]) h

  pub link_other : (a b v u : ℕ) (ls : List Link) → (a ≡ v → b ≡ u → ⊥) → link_at v u (with_link f a b ls) ≡ link_at v u ls
  unfolding link_at with_link
  link_other a b v u [] n = refl
  link_other a b v u (l ∷ ls) n = link_there a b v u l ls (is_link a b l) n refl (link_other a b v u ls n)

-- ---- connections

module _ (f : Connected → Connected) (from : (c : Connected) → (f c).from ≡ c.from) (to : (c : Connected) → (f c).to ≡ c.to) where
  key : (v u : ℕ) (c : Connected) → connects v u (f c) ≡ connects v u c
  unfolding connects
  key v u c = rw (from c, to c) refl

  fresh_key : (v u : ℕ) → connects v u (unconnected v u) ≡ true
  unfolding connects unconnected
  fresh_key v u = own_key v u (v == v) (u == u) refl refl

  fresh_not : (a b v u : ℕ) → (a ≡ v → b ≡ u → ⊥) → connects v u (unconnected a b) ≡ false
  unfolding connects unconnected
  fresh_not a b v u n = not_or a b v u (a == v) (b == u) refl refl n

  here : (v u : ℕ) (c : Connected) (cs : List Connected) (b : Bool) → connects v u c ≡ b → connected_at v u (with_connected f v u cs) ≡ f (connected_at v u cs)
      → connected_at v u (elim b [ true ↦ f c ∷ cs | false ↦ c ∷ with_connected f v u cs ]) ≡ f (elim b [ true ↦ c | false ↦ connected_at v u cs ])
  unfolding connected_at
  here v u c cs true e h = taken (connects v u (f c)) (f c) (connected_at v u cs) (key v u c ∙ e)
  here v u c cs false e h = left (connects v u c) c (connected_at v u (with_connected f v u cs)) e ∙ h

  pub connected_same : (v u : ℕ) (cs : List Connected) → connected_at v u (with_connected f v u cs) ≡ f (connected_at v u cs)
  unfolding connected_at with_connected
  connected_same v u [] = taken (connects v u (f (unconnected v u))) (f (unconnected v u)) (unconnected v u) (key v u (unconnected v u) ∙ fresh_key v u)
  connected_same v u (c ∷ cs) = here v u c cs (connects v u c) refl (connected_same v u cs)

  is : (a b : ℕ) (c : Connected) → connects a b c ≡ true → (c.from ≡ a) × (c.to ≡ b)
  unfolding connects
  is a b c e = key_or c.from c.to a b (c.from == a) (c.to == b) refl refl e

  not : (a b v u : ℕ) (c : Connected) → (a ≡ v → b ≡ u → ⊥) → connects a b c ≡ true → connects v u c ≡ false
  unfolding connects
  not a b v u c n e = let k = is a b c e in not_or c.from c.to v u (c.from == v) (c.to == u) refl refl (λ i j. n (sym k.0 ∙ i) (sym k.1 ∙ j))

  there : (a b v u : ℕ) (c : Connected) (cs : List Connected) (t : Bool) → (a ≡ v → b ≡ u → ⊥) → connects a b c ≡ t → connected_at v u (with_connected f a b cs) ≡ connected_at v u cs
      → connected_at v u (elim t [ true ↦ f c ∷ cs | false ↦ c ∷ with_connected f a b cs ]) ≡ elim (connects v u c) [ true ↦ c | false ↦ connected_at v u cs ]
  unfolding connected_at
  there a b v u c cs true n e h = left (connects v u (f c)) (f c) (connected_at v u cs) (key v u c ∙ not a b v u c n e) ∙ sym (left (connects v u c) c (connected_at v u cs) (not a b v u c n e))
  there a b v u c cs false n e h = ap (λ (d : Connected). elim (connects v u c) [ true ↦ c | false ↦ d ]) h

  pub connected_other : (a b v u : ℕ) (cs : List Connected) → (a ≡ v → b ≡ u → ⊥) → connected_at v u (with_connected f a b cs) ≡ connected_at v u cs
  unfolding connected_at with_connected
  connected_other a b v u [] n = left (connects v u (f (unconnected a b))) (f (unconnected a b)) (unconnected v u) (key v u (unconnected a b) ∙ fresh_not a b v u n)
  connected_other a b v u (c ∷ cs) n = there a b v u c cs (connects a b c) n refl (connected_other a b v u cs n)

-- what is found is of that pair
ends_or : (v u : ℕ) (c d : Connected) (b : Bool) → connects v u c ≡ b → (d.from ≡ v) × (d.to ≡ u) → let e : Connected = elim b [ true ↦ c | false ↦ d ] in (e.from ≡ v) × (e.to ≡ u)
unfolding connects
ends_or v u c d true e h = key_or c.from c.to v u (c.from == v) (c.to == u) refl refl e
ends_or v u c d false e h = h

pub connected_ends : (v u : ℕ) (cs : List Connected) → ((connected_at v u cs).from ≡ v) × ((connected_at v u cs).to ≡ u)
unfolding connected_at unconnected
connected_ends v u [] = (refl, refl)
connected_ends v u (c ∷ cs) = ends_or v u c (connected_at v u cs) (connects v u c) refl (connected_ends v u cs)
