-- What covers scopes: environments with one noun more, and the captures of an object.
use Rattle.std.proofs.Common.{◌≡◌, ℕ, Bool, true, false, List, [], ◌∷◌, Option, Some, None, refl, sym, ap, subst, ◌∙◌, ◌⊎◌, inl, inr, cond, length}
use Rattle.std.specs.Prelude.{bytes_eq, drop}
use Rattle.std.proofs.lemmas.Bool.{both_ways}
use Rattle.def_machine.specs.Values.{Words}
use Rattle.def_machine.specs.State.{Bound, Fixed, Slot, Binding, Scope}
use Rattle.def_machine.specs.Free.{BoundNoun, same_words, has_words, Walk, walk, walk_all, free_nouns}
use Rattle.def_machine.specs.Scopes.{bound_in, captures}
use Rattle.def_kernel.specs.declared.node.Node.{Node}
use Rattle.def_kernel.specs.declared.shape.Kind.TheVariants.{Member}
use Rattle.ev_reader.specs.declared.scope.Binding.{Binding as Named}
use Rattle.ev_reader.specs.Scopes as static
use Rattle.ev_reader.specs.Scopes.{bound, is_bound_here, with_name_here}
use Rattle.law_never_astray.specs.Scoped.{Scopes, AllScoped}
use Rattle.law_never_astray.specs.Formed.{AllOf, Formed}
use Rattle.law_never_astray.specs.Covered.{Stands, Covers}
use Rattle.law_never_astray.proofs.Words.{same_is, is_same, other_not, has_either, bytes_is}
use Rattle.law_never_astray.proofs.Statics.{IsOpen, here, first_of, bound_is, in_more, bound_either}
use Rattle.law_never_astray.proofs.Binds.{Told, Binds}
use Rattle.law_never_astray.proofs.Frees.{Like, all_narrow}

-- ---- the scopes of these nouns alone

abbrev chosen : Bool → Named → List Named → List Named
chosen true b bs = b ∷ bs
chosen false b bs = bs

abbrev kept_in : List Words → List Named → List Named
kept_in F [] = []
kept_in F (b ∷ bs) = chosen (has_words b.name F) b (kept_in F bs)

abbrev kept : List Words → Scopes → Scopes
kept F [] = []
kept F (s ∷ ss) = kept_in F s ∷ kept F ss

module _ (F : List Words) (x : Words) where
  found_kept : has_words x F ≡ true → (bs : List Named) → static.bound_in x (kept_in F bs) ≡ static.bound_in x bs
  found_kept h [] = refl
  found_kept h (b ∷ bs) = go (has_words b.name F) refl (bytes_eq x b.name) refl (found_kept h bs)
    where
      go : (t : Bool) → has_words b.name F ≡ t → (u : Bool) → bytes_eq x b.name ≡ u → static.bound_in x (kept_in F bs) ≡ static.bound_in x bs → static.bound_in x (chosen t b (kept_in F bs)) ≡ static.bound_in x (b ∷ bs)
      go true e true f k = in_more x b (kept_in F bs) true f ∙ sym (in_more x b bs true f)
      go true e false f k = in_more x b (kept_in F bs) false f ∙ (k ∙ sym (in_more x b bs false f))
      go false e true f k = absurd (both_ways _ e (subst (λ y. has_words y F ≡ true) (bytes_is x b.name f) h))
      go false e false f k = k ∙ sym (in_more x b bs false f)

  lost_kept : has_words x F ≡ false → (bs : List Named) → static.bound_in x (kept_in F bs) ≡ None
  lost_kept h [] = refl
  lost_kept h (b ∷ bs) = go (has_words b.name F) refl (bytes_eq x b.name) refl (lost_kept h bs)
    where
      go : (t : Bool) → has_words b.name F ≡ t → (u : Bool) → bytes_eq x b.name ≡ u → static.bound_in x (kept_in F bs) ≡ None → static.bound_in x (chosen t b (kept_in F bs)) ≡ None
      go true e true f k = absurd (both_ways _ h (subst (λ y. has_words y F ≡ true) (sym (bytes_is x b.name f)) e))
      go true e false f k = in_more x b (kept_in F bs) false f ∙ k
      go false e u f k = k

  bound_kept : has_words x F ≡ true → (s : Scopes) → bound x (kept F s) ≡ bound x s
  bound_kept h [] = refl
  bound_kept h (s ∷ ss) = bound_is x (kept F (s ∷ ss)) ∙ (ap (λ o. first_of o (bound x (kept F ss))) (found_kept h s) ∙ (ap (λ o. first_of (static.bound_in x s) o) (bound_kept h ss) ∙ sym (bound_is x (s ∷ ss))))

  unbound_kept : has_words x F ≡ false → (s : Scopes) → bound x (kept F s) ≡ None
  unbound_kept h [] = refl
  unbound_kept h (s ∷ ss) = bound_is x (kept F (s ∷ ss)) ∙ (ap (λ o. first_of o (bound x (kept F ss))) (lost_kept h s) ∙ unbound_kept h ss)

  here_kept : (s : Scopes) → here x s ≡ None → here x (kept F s) ≡ None
  here_kept [] h = refl
  here_kept (s ∷ ss) h = go (has_words x F) refl
    where
      go : (t : Bool) → has_words x F ≡ t → here x (kept F (s ∷ ss)) ≡ None
      go true e = found_kept e s ∙ h
      go false e = lost_kept e s

like_kept : (F : List Words) (s : Scopes) → IsOpen s → Like F [] s (kept F s)
unfolding has_words
like_kept F [] o = absurd o
like_kept F (s ∷ ss) o = record { same = same; unbound = λ x h. here_kept F x (s ∷ ss) h; wide = tt; narrow = tt }
  where
    same : (x : Words) → (has_words x [] ≡ true) ⊎ (has_words x F ≡ true) → bound x (kept F (s ∷ ss)) ≡ bound x (s ∷ ss)
    same x (inl h) = absurd (both_ways false refl h)
    same x (inr h) = bound_kept F x h (s ∷ ss)

-- ---- environments

module _ {N : Type 0} where
  noun_more : (b : Binding N) (bs : List (Binding N)) (x : Words) (t : Bool) → same_words b.noun x ≡ t → bound_in (b ∷ bs) x ≡ cond t (Some b.bound) (bound_in bs x)
  unfolding bound_in
  noun_more b bs x t e = go (same_words b.noun x) t e
    where
      go : (u v : Bool) → u ≡ v → ◌≡◌ {A = Option (Bound N)} (elim u [ true ↦ Some b.bound | false ↦ bound_in bs x ]) (cond v (Some b.bound) (bound_in bs x))
      go true true f = refl
      go true false f = cc
      go false true f = cc
      go false false f = refl

  noun_found : (b : Binding N) (bs : List (Binding N)) (x : Words) → x ≡ b.noun → bound_in (b ∷ bs) x ≡ Some b.bound
  noun_found b bs x e = noun_more b bs x true (is_same b.noun x (sym e))

  -- a bound noun stands for the same whatever it is called
  stands_as : (n : ℕ) (v : Bool) (x y : Words) (b : Bound N) → Stands n v x (Some b) → Stands n v y (Some b)
  stands_as n true x y (Slot k) h = h
  stands_as n true x y (Fixed u g) h = absurd h
  stands_as n false x y (Slot k) h = absurd h
  stands_as n false x y (Fixed u g) h = tt

  pub covers_named : (n : ℕ) (ns : List (Binding N)) (x : Words) (b : Bound N) (v : Bool) (s : Scopes) → is_bound_here x s ≡ false → Stands n v x (Some b) → Covers n ns s → Covers n (record { noun = x; bound = b } ∷ ns) (with_name_here x v s)
  covers_named n ns x b v s e h c y w f = go (bound_either x y v w s e f)
    where
      go : ((y ≡ x) × (w ≡ v)) ⊎ ((y ≡ x → ⊥) × (bound y s ≡ Some w)) → Stands n w y (bound_in (record { noun = x; bound = b } ∷ ns) y)
      go (inl i) = subst (λ o. Stands n w y o) (sym (noun_found (record { noun = x; bound = b }) ns y i.0)) (stands_as n w x y b (subst (λ u. Stands n u x (Some b)) (sym i.1) h))
      go (inr i) = subst (λ o. Stands n w y o) (sym (noun_more (record { noun = x; bound = b }) ns y false (other y i.0))) (c y w i.1)
        where
          other : (z : Words) → (z ≡ x → ⊥) → same_words x z ≡ false
          other z k = go' (same_words x z) refl
            where
              go' : (t : Bool) → same_words x z ≡ t → same_words x z ≡ false
              go' true g = absurd (k (sym (same_is x z g)))
              go' false g = g

  -- ---- captures

  captured_none : (sc : Scope N) (x : Words) (ys : List Words) → bound_in sc.nouns x ≡ None → bound_in (captures sc ys) x ≡ None
  unfolding captures bound_in
  captured_none sc x [] h = refl
  captured_none sc x (y ∷ ys) h = go (bound_in sc.nouns y) refl (same_words y x) refl (captured_none sc x ys h)
    where
      go : (o : Option (Bound N)) → bound_in sc.nouns y ≡ o → (t : Bool) → same_words y x ≡ t → bound_in (captures sc ys) x ≡ None → bound_in (elim o as (λ _. List (Binding N)) [ Some b ↦ record { noun = y; bound = b } ∷ captures sc ys | None ↦ captures sc ys ]) x ≡ None
      go None e t f k = k
      go (Some b) e true f k = let g : bound_in sc.nouns y ≡ None = subst (λ z. bound_in sc.nouns z ≡ None) (sym (same_is y x f)) h in cc
      go (Some b) e false f k = noun_more (record { noun = y; bound = b }) (captures sc ys) x false f ∙ k

  pub captured : (sc : Scope N) (x : Words) (ys : List Words) → has_words x ys ≡ true → bound_in (captures sc ys) x ≡ bound_in sc.nouns x
  unfolding captures has_words
  captured sc x [] h = absurd (both_ways false refl h)
  captured sc x (y ∷ ys) h = go (bound_in sc.nouns y) refl (same_words y x) refl (has_either x y ys h) (captured sc x ys)
    where
      go : (o : Option (Bound N)) → bound_in sc.nouns y ≡ o → (t : Bool) → same_words y x ≡ t → (x ≡ y) ⊎ (has_words x ys ≡ true) → (has_words x ys ≡ true → bound_in (captures sc ys) x ≡ bound_in sc.nouns x)
          → bound_in (elim o as (λ _. List (Binding N)) [ Some b ↦ record { noun = y; bound = b } ∷ captures sc ys | None ↦ captures sc ys ]) x ≡ bound_in sc.nouns x
      go (Some b) e true f i k = noun_more (record { noun = y; bound = b }) (captures sc ys) x true f ∙ (sym e ∙ ap (bound_in sc.nouns) (same_is y x f))
      go (Some b) e false f (inl i) k = absurd (other_not y x f (sym i))
      go (Some b) e false f (inr i) k = noun_more (record { noun = y; bound = b }) (captures sc ys) x false f ∙ k i
      go None e t f (inl i) k = let g : bound_in sc.nouns x ≡ None = subst (λ z. bound_in sc.nouns z ≡ None) (sym i) e in captured_none sc x ys g ∙ sym g
      go None e t f (inr i) k = k i

  covers_captured : (n : ℕ) (sc : Scope N) (F : List Words) (s : Scopes) → Covers n sc.nouns s → Covers n (captures sc F) (kept F s)
  covers_captured n sc F s c x v e = go (has_words x F) refl
    where
      go : (t : Bool) → has_words x F ≡ t → Stands n v x (bound_in (captures sc F) x)
      go true h = subst (λ o. Stands n v x o) (sym (captured sc x F h)) (c x v (sym (bound_kept F x h s) ∙ e))
      go false h = let g : Some v ≡ None = sym e ∙ unbound_kept F x h s in cc

  -- members stand in scopes that the captures of their free nouns cover
  pub members_carry : (tree : List Node) (n : ℕ) (sc : Scope N) (s t : Scopes) (members : List ℕ) → IsOpen s → AllOf (Formed tree Member) members → AllScoped tree s members t → Covers n sc.nouns s
      → (u v : Scopes) × Covers n (captures sc (free_nouns tree members)) u × AllScoped tree u members v
  unfolding free_nouns
  members_carry tree n sc s t members o f a c =
      let w : Walk = record { bound = []; free = [] } in let F : List Words = (walk_all (walk tree (length tree)) members w).free in
      let x = all_narrow tree F s t members a (length tree) Member f w (kept F s) (like_kept F s o) (λ y h. h) in
      (kept F s, x.scopes, covers_captured n sc F s c, x.stands)

-- ---- a match that failed

-- from the first environment to the second these are bound
abbrev pub Extends : {N : Type 0} → ℕ → List BoundNoun → List (Binding N) → List (Binding N) → Type 0
Extends n bs ns ms = (x : Words) → ((v : Bool) × Told x v bs × Stands n v x (bound_in ms x)) ⊎ (((v : Bool) → Told x v bs → ⊥) × (bound_in ms x ≡ bound_in ns x))

pub covers_extended : {N : Type 0} (n : ℕ) (bs : List BoundNoun) (ns ms : List (Binding N)) (s t : Scopes) → Covers n ns s → Binds s bs t → Extends n bs ns ms → Covers n ms t
covers_extended n bs ns ms s t c b e x v f = go (e x)
  where
    whole : bound x t ≡ first_of (here x t) (bound x (drop 1 t))
    whole = bound_is x t

    go : ((w : Bool) × Told x w bs × Stands n w x (bound_in ms x)) ⊎ (((w : Bool) → Told x w bs → ⊥) × (bound_in ms x ≡ bound_in ns x)) → Stands n v x (bound_in ms x)
    go (inl h) = let i : here x t ≡ Some h.0 = (b.new x h.0 h.1).1 in let j : bound x t ≡ Some h.0 = whole ∙ ap (λ o. first_of o (bound x (drop 1 t))) i in
        let same : Some h.0 ≡ Some v = sym j ∙ f in let is : h.0 ≡ v = cc in subst (λ w. Stands n w x (bound_in ms x)) is h.2
    go (inr h) = let i : bound x s ≡ Some v = bound_is x s ∙ (ap (λ o. first_of o (bound x (drop 1 s))) (sym (b.old x h.0)) ∙ (ap (λ u. first_of (here x t) (bound x u)) (sym b.outer) ∙ (sym whole ∙ f))) in
        subst (λ o. Stands n v x o) (sym h.1) (c x v i)

pub extends_none : {N : Type 0} (n : ℕ) (ns : List (Binding N)) → Extends n [] ns ns
extends_none n ns x = inr (λ v h. h, refl)

pub extends_more : {N : Type 0} (n : ℕ) (b : BoundNoun) (o : Bound N) (bs : List BoundNoun) (ns ms : List (Binding N)) → Stands n b.is_var b.noun (Some o) → Extends n bs (record { noun = b.noun; bound = o } ∷ ns) ms → Extends n (b ∷ bs) ns ms
extends_more {N} n b o bs ns ms h e x = go (e x) (same_words b.noun x) refl
  where
    go : ((v : Bool) × Told x v bs × Stands n v x (bound_in ms x)) ⊎ (((v : Bool) → Told x v bs → ⊥) × (bound_in ms x ≡ bound_in (record { noun = b.noun; bound = o } ∷ ns) x)) → (t : Bool) → same_words b.noun x ≡ t
        → ((v : Bool) × Told x v (b ∷ bs) × Stands n v x (bound_in ms x)) ⊎ (((v : Bool) → Told x v (b ∷ bs) → ⊥) × (bound_in ms x ≡ bound_in ns x))
    go (inl i) t f = inl (i.0, inr i.1, i.2)
    go (inr i) true f = let k : x ≡ b.noun = sym (same_is b.noun x f) in inl (b.is_var, inl (k, refl), subst (λ p. Stands n b.is_var x p) (sym (i.1 ∙ noun_found (record { noun = b.noun; bound = o }) ns x k)) (stands_as n b.is_var b.noun x o h))
    go (inr i) false f = inr (not, i.1 ∙ noun_more (record { noun = b.noun; bound = o }) ns x false f)
      where
        not : (v : Bool) → Told x v (b ∷ bs) → ⊥
        not v (inl k) = other_not b.noun x f (sym k.0)
        not v (inr k) = i.0 v k
