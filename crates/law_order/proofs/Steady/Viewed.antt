-- A name with a view is in no list that is followed, so what it settles to is not cut.
use Rattle.std.proofs.Common.{◌≡◌, ℕ, zero, suc, Bool, true, false, List, [], ◌∷◌, Option, Some, None, length, refl, sym, ap, subst, ◌∙◌, inl, inr}
use Rattle.std.specs.Prelude.{codes}
use Rattle.def_machine.specs.Values.{Words, Value, Broken, Items, Ref, Name, Naming, naming, Spot, Own, Foreign, NoObject}
use Rattle.def_machine.specs.State.{Viewed, Known, Vat, is_in}
use Rattle.def_machine.specs.Native.{list_at}
use Rattle.def_machine.specs.Refs as refs
use Rattle.def_machine.specs.Refs.{entry_of}
use Rattle.def_run.specs.World.{Script, World, names}
use Rattle.law_order.specs.Ordering.Worlds.{IsWaiting, IsFixed, FollowsEnd}
use Rattle.law_order.proofs.Ordering.Entries.{reference_is}
use Rattle.law_order.proofs.Runs.Truths.{object_self}
use Rattle.law_order.proofs.Steady.Facts.{ready}
use Rattle.law_order.proofs.Steady.Steady.{Steady}

module _ (script : Script) (honest : ℕ → Bool) (w : World) (v : ℕ) where
  abbrev K : Naming Name Name
  K = names script v

  abbrev S : (Name → ℕ) → (Name → ℕ) → Vat Name → Type 0
  S c o s = Steady script w v c o s

  head_false : (b c : Bool) → b ≡ false → c ≡ false → ◌≡◌ {A = Bool} (elim b [ true ↦ true | false ↦ c ]) false
  head_false true c e f = cc
  head_false false c e f = f

  any_false : (f : Value Name → Bool) → ((x : Value Name) → f x ≡ false) → (xs : List (Value Name)) → refs.any_of K f xs ≡ false
  unfolding refs.any_of
  any_false f h [] = refl
  any_false f h (x ∷ xs) = head_false (f x) (refs.any_of K f xs) (h x) (any_false f h xs)

  same_is_one : (a b : Name) → K.same a b ≡ true → a ≡ b
  unfolding names naming
  same_is_one a b e = reference_is a b e

  not_it : (n p : Name) (b : Bool) → K.same n p ≡ b → (n ≡ p → ⊥) → b ≡ false
  not_it n p true e f = absurd (f (same_is_one n p e))
  not_it n p false e f = refl

  broken_name : (t : Words) (n : Name) → ◌≡◌ {A = Value Name} (Broken t) (Ref n) → ⊥
  broken_name t n e = cc

  by_host : (b : Bool) (m n : Name) → ◌≡◌ {A = Value Name} (elim b [ true ↦ Broken (codes "partition") | false ↦ Ref m ]) (Ref n) → ◌≡◌ {A = Value Name} (Ref m) (Ref n)
  by_host true m n e = absurd (broken_name (codes "partition") n e)
  by_host false m n e = e

  severed_spot : (s : Vat Name) (m n : Name) (q : Spot) → refs.severed_at K s m q ≡ Ref n → ◌≡◌ {A = Value Name} (Ref m) (Ref n)
  unfolding refs.severed_at refs.severed_by
  severed_spot s m n (Own i) e = e
  severed_spot s m n (Foreign g) e = by_host (is_in g s.noticed) m n e
  severed_spot s m n NoObject e = by_host (is_in (refs.host_at K s.number s.known m) s.noticed) m n e

  pub severed_name : (s : Vat Name) (x : Value Name) (n : Name) → refs.severed K s x ≡ Ref n → x ≡ Ref n
  unfolding refs.severed
  severed_name s (Ref m) n e = severed_spot s m n (K.spot m) e
  severed_name s other n e = cc

  module _ (c o : Name → ℕ) (s : Vat Name) (p g : Name) (k : Known Name) (h : S c o s) (found : entry_of K s.known p ≡ Some k) (viewed : k.standing ≡ Viewed g) where
    ends_here : FollowsEnd K s
    ends_here = (ready script w v honest c o s h).ends

    none_apart : (j : Known Name) → ◌≡◌ {A = Option (Known Name)} None (Some j) → ⊥
    none_apart j e = cc

    one_entry : (a b : Known Name) → Some a ≡ Some b → a ≡ b
    one_entry a b e = cc

    no_waiting : (j : Known Name) → j ≡ k → IsWaiting j.standing → ⊥
    no_waiting j e i = let moved : IsWaiting (Viewed g) = subst IsWaiting (ap (λ (a : Known Name). a.standing) e ∙ viewed) i in moved

    fixed_not : IsFixed K s (Ref p) → ⊥
    fixed_not (inl i) = none_apart k (sym (ends_here.objects p i) ∙ found)
    fixed_not (inr i) = no_waiting i.0 (one_entry i.0 k (sym i.1 ∙ found)) i.2

    name_not : (x : Name) (z : Option (Known Name)) → entry_of K s.known x ≡ z → refs.follow_at K (suc (length s.known)) s.known (Ref x) ≡ Ref p → ⊥
    name_not x (Some j) e f = fixed_not (subst (IsFixed K s) f (ends_here.fixed x (j, e)))
    name_not x None e f = let same : x ≡ p = one_name x p (sym (object_self script v (suc (length s.known)) s.known x e) ∙ f) in none_apart k (sym e ∙ (ap (λ m. entry_of K s.known m) same ∙ found))
      where
        one_name : (a b : Name) → ◌≡◌ {A = Value Name} (Ref a) (Ref b) → a ≡ b
        one_name a b i = cc

    end_not : (x : Value Name) → refs.follow_at K (suc (length s.known)) s.known x ≡ Ref p → ⊥
    unfolding refs.follow_at
    end_not (Ref x) e = name_not x (entry_of K s.known x) refl e
    end_not other e = cc

    follow_not : (x : Value Name) (n : Name) → refs.follow K s x ≡ Ref n → n ≡ p → ⊥
    unfolding refs.follow
    follow_not x n e same = end_not x (severed_name s (refs.follow_at K (suc (length s.known)) s.known x) n e ∙ ap Ref same)

    reached_not : (f : Value Name → Bool) → ((x : Value Name) → f x ≡ false) → (z : Value Name) → ((n : Name) → z ≡ Ref n → n ≡ p → ⊥) → refs.reached K (refs.any_of K f) s.lists p z ≡ false
    unfolding refs.reached
    reached_not f h (Items i) g = any_false f h (list_at s.lists i)
    reached_not f h (Ref n) g = not_it n p (K.same n p) refl (g n refl)
    reached_not f h other g = refl

    reaches_not : (d : ℕ) (x : Value Name) → refs.reaches K d s p x ≡ false
    unfolding refs.reaches
    reaches_not zero x = refl
    reaches_not (suc d) x = reached_not (λ z. refs.reaches K d s p z) (λ z. reaches_not d z) (refs.follow K s x) (λ n e i. follow_not x n e i)

    pub target_is : (y : Value Name) → refs.target_of K s p y ≡ y
    unfolding refs.target_of refs.cut_cycle
    target_is (Items i) = ap (λ b. refs.cut_cycle K b (Items i)) (reaches_not (suc (length s.lists)) (Items i))
    target_is other = refl

  pub target_ref : (s : Vat Name) (p n : Name) → refs.target_of K s p (Ref n) ≡ Ref n
  unfolding refs.target_of
  target_ref s p n = refl

  pub no_name_target : (s : Vat Name) (p : Name) (y : Value Name) → ((n : Name) → y ≡ Ref n → ⊥) → (n : Name) → refs.target_of K s p y ≡ Ref n → ⊥
  unfolding refs.target_of refs.cut_cycle
  no_name_target s p (Items i) f n e = go (refs.reaches K (suc (length s.lists)) s p (Items i)) e
    where
      go : (b : Bool) → refs.cut_cycle K b (Items i) ≡ Ref n → ⊥
      go true j = cc
      go false j = cc
  no_name_target s p other f n e = f n e
