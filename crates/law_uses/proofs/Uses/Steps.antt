-- What each step of a vat leaves of what the lines say of messages.
use Rattle.std.proofs.Common.{◌≡◌, ℕ, zero, suc, List, [], ◌∷◌, ◌++◌, Option, Some, None, refl, sym, ap, ◌∙◌, subst, map, length, ◌⊎◌, inl, inr}
use Rattle.std.specs.Prelude.{slice_get}
use Rattle.def_machine.specs.Values.{Value, Name}
use Rattle.def_machine.specs.State.{Happened, ListMade, ListCame, Vat}
use Rattle.def_run.specs.World.{Event, Here}
use Rattle.law_uses.specs.Connectivity.Known.{IsAmong}
use Rattle.law_uses.specs.Connectivity.News.{list_made, Adds}
use Rattle.law_uses.proofs.Uses.Shown.{among_left as left, ListTold}

-- ---- lists

module _ {N A : Type 0} (f : Happened N → Option (ℕ × A)) where
  -- a list is one that was there, or a line tells of it
  abbrev pub ToldIn : List (Happened N) → ℕ → A → Type 0
  ToldIn es k x = (e : Happened N) × IsAmong e es × (f e ≡ Some (k, x))

-- of what stands behind others
slice_append : {A : Type 0} (xs ys : List A) (k : ℕ) (x : A) → slice_get xs k ≡ Some x → slice_get (xs ++ ys) k ≡ Some x
slice_append [] ys k x e = cc
slice_append (z ∷ xs) ys zero x e = e
slice_append (z ∷ xs) ys (suc k) x e = slice_append xs ys k x e

slice_or_last : {A : Type 0} (xs : List A) (y : A) (k : ℕ) (x : A) → slice_get (xs ++ y ∷ []) k ≡ Some x → (slice_get xs k ≡ Some x) ⊎ ((k ≡ length xs) × (y ≡ x))
slice_or_last [] y zero x e = inr (refl, cc)
slice_or_last [] y (suc k) x e = cc
slice_or_last (z ∷ xs) y zero x e = inl e
slice_or_last (z ∷ xs) y (suc k) x e = up (slice_or_last xs y k x e)
  where
    up : (slice_get xs k ≡ Some x) ⊎ ((k ≡ length xs) × (y ≡ x)) → (slice_get xs k ≡ Some x) ⊎ ((suc k ≡ suc (length xs)) × (y ≡ x))
    up (inl i) = inl i
    up (inr i) = inr (ap suc i.0, i.1)

slice_at_end : {A : Type 0} (xs : List A) (y : A) → slice_get (xs ++ y ∷ []) (length xs) ≡ Some y
slice_at_end [] y = refl
slice_at_end (z ∷ xs) y = slice_at_end xs y

-- Adds by the option of each line
module _ {N A : Type 0} (f : Happened N → Option (ℕ × A)) where
  adds_keep : (o : Option (ℕ × A)) (os : List (Option (ℕ × A))) (xs ys : List A) → ((zs : List A) → Adds zs os ys → (k : ℕ) (x : A) → slice_get zs k ≡ Some x → slice_get ys k ≡ Some x) → Adds xs (o ∷ os) ys → (k : ℕ) (x : A) → slice_get xs k ≡ Some x → slice_get ys k ≡ Some x
  adds_keep None os xs ys g h k x e = g xs h k x e
  adds_keep (Some o) os xs ys g h k x e = g (xs ++ o.1 ∷ []) h.1 k x (slice_append xs (o.1 ∷ []) k x e)

  -- what was there stays
  pub adds_stay : (es : List (Happened N)) (xs ys : List A) → Adds xs (map f es) ys → (k : ℕ) (x : A) → slice_get xs k ≡ Some x → slice_get ys k ≡ Some x
  adds_stay [] xs ys h k x e = subst (λ zs. slice_get zs k ≡ Some x) h e
  adds_stay (l ∷ es) xs ys h k x e = adds_keep (f l) (map f es) xs ys (λ zs i. adds_stay es zs ys i) h k x e

  adds_where : (l : Happened N) (es : List (Happened N)) (o : Option (ℕ × A)) → f l ≡ o → (xs ys : List A) → ((zs : List A) → Adds zs (map f es) ys → (k : ℕ) (x : A) → slice_get ys k ≡ Some x → (slice_get zs k ≡ Some x) ⊎ ToldIn f es k x)
      → Adds xs (o ∷ map f es) ys → (k : ℕ) (x : A) → slice_get ys k ≡ Some x → (slice_get xs k ≡ Some x) ⊎ ToldIn f (l ∷ es) k x
  adds_where l es None q xs ys g h k x e = up (g xs h k x e)
    where
      up : (slice_get xs k ≡ Some x) ⊎ ToldIn f es k x → (slice_get xs k ≡ Some x) ⊎ ToldIn f (l ∷ es) k x
      up (inl i) = inl i
      up (inr t) = inr (t.0, inr t.1, t.2)
  adds_where l es (Some o) q xs ys g h k x e = up (g (xs ++ o.1 ∷ []) h.1 k x e)
    where
      now : (slice_get xs k ≡ Some x) ⊎ ((k ≡ length xs) × (o.1 ≡ x)) → (slice_get xs k ≡ Some x) ⊎ ToldIn f (l ∷ es) k x
      now (inl i) = inl i
      now (inr i) = inr (l, inl refl, q ∙ ap Some (subst (λ n. o ≡ (n, x)) (h.0 ∙ sym i.0) (subst (λ z. o ≡ (o.0, z)) i.1 refl)))

      up : (slice_get (xs ++ o.1 ∷ []) k ≡ Some x) ⊎ ToldIn f es k x → (slice_get xs k ≡ Some x) ⊎ ToldIn f (l ∷ es) k x
      up (inl i) = now (slice_or_last xs o.1 k x i)
      up (inr t) = inr (t.0, inr t.1, t.2)

  pub adds_told : (es : List (Happened N)) (xs ys : List A) → Adds xs (map f es) ys → (k : ℕ) (x : A) → slice_get ys k ≡ Some x → (slice_get xs k ≡ Some x) ⊎ ToldIn f es k x
  adds_told [] xs ys h k x e = inl (subst (λ zs. slice_get zs k ≡ Some x) (sym h) e)
  adds_told (l ∷ es) xs ys h k x e = adds_where l es (f l) refl xs ys (λ zs i. adds_told es zs ys i) h k x e

  adds_now : (l : Happened N) (es : List (Happened N)) (o : Option (ℕ × A)) → f l ≡ o → (xs ys : List A) → Adds xs (o ∷ map f es) ys → (k : ℕ) (x : A) → f l ≡ Some (k, x) → slice_get ys k ≡ Some x
  adds_now l es None q xs ys h k x e = cc
  adds_now l es (Some o) q xs ys h k x e = let is : o ≡ (k, x) = cc in adds_stay es (xs ++ o.1 ∷ []) ys h.1 k x
      (subst (λ n. slice_get (xs ++ o.1 ∷ []) n ≡ Some x) (sym h.0 ∙ ap (λ p. p.0) is) (subst (λ z. slice_get (xs ++ o.1 ∷ []) (length xs) ≡ Some z) (ap (λ p. p.1) is) (slice_at_end xs o.1)))

  adds_on : (o : Option (ℕ × A)) (os : List (Option (ℕ × A))) (xs ys : List A) → Adds xs (o ∷ os) ys → (zs : List A) × Adds zs os ys
  adds_on None os xs ys h = (xs, h)
  adds_on (Some o) os xs ys h = (xs ++ o.1 ∷ [], h.1)

  -- what a line tells of is there
  pub told_there : (es : List (Happened N)) (xs ys : List A) → Adds xs (map f es) ys → (e : Happened N) (k : ℕ) (x : A) → IsAmong e es → f e ≡ Some (k, x) → slice_get ys k ≡ Some x
  told_there [] xs ys h e k x i q = absurd i
  told_there (l ∷ es) xs ys h e k x (inl s) q = adds_now l es (f l) refl xs ys h k x (ap f (sym s) ∙ q)
  told_there (l ∷ es) xs ys h e k x (inr i) q = let r = adds_on (f l) (map f es) xs ys h in told_there es r.0 ys r.1 e k x i q

some_pair : (p q : ℕ × List (Value Name)) → Some p ≡ Some q → p ≡ q
some_pair p q e = cc

-- the line of a list
pub made_line : (e : Happened Name) (k : ℕ) (vs : List (Value Name)) → list_made e ≡ Some (k, vs) → ((a : ℕ) × (ListMade a k vs ≡ e)) ⊎ (ListCame k vs ≡ e)
made_line (ListMade a l ws) k vs e = inl (a, ap (λ (p : ℕ × List (Value Name)). ListMade a p.0 p.1) (sym (some_pair (l, ws) (k, vs) e)))
made_line (ListCame l ws) k vs e = inr (ap (λ (p : ℕ × List (Value Name)). ListCame p.0 p.1) (sym (some_pair (l, ws) (k, vs) e)))
made_line _ k vs e = cc

-- Of a vat that is s these lines tell the lists that it has, and no others.
abbrev pub ListsStand : List ℕ → List Event → ℕ → Vat Name → Type 0
ListsStand draws es v s = ((k : ℕ) (vs : List (Value Name)) → slice_get s.lists k ≡ Some vs → ListTold draws es v k vs) × ((k : ℕ) (vs : List (Value Name)) → ListTold draws es v k vs → slice_get s.lists k ≡ Some vs)

-- ---- a history that goes on

pub list_on : (draws : List ℕ) (h es : List Event) (v k : ℕ) (vs : List (Value Name)) → ListTold draws h v k vs → ListTold draws (h ++ es) v k vs
list_on draws h es v k vs (inl i) = inl (i.0, left (Here v (ListMade i.0 k vs)) h es i.1)
list_on draws h es v k vs (inr i) = inr (left (Here v (ListCame k vs)) h es i)

module _ {A : Type 0} where
  -- a line stands in the first part or in the second
  abbrev pub Parted : List A → List A → List A → A → List A → Type 0
  Parted xs ys h e k = ((m : List A) × (xs ≡ h ++ e ∷ m) × (k ≡ m ++ ys)) ⊎ ((g : List A) × (h ≡ xs ++ g) × (ys ≡ g ++ e ∷ k))

  tails : (x y : A) (xs ys : List A) → x ∷ xs ≡ y ∷ ys → (x ≡ y) × (xs ≡ ys)
  tails x y xs ys q = (cc, cc)

  one_more : (x y : A) (xs ys h : List A) (e : A) (k : List A) → x ≡ y → Parted xs ys h e k → Parted (x ∷ xs) ys (y ∷ h) e k
  one_more x y xs ys h e k q (inl r) = inl (r.0, ap (λ z. z ∷ xs) q ∙ ap (λ zs. y ∷ zs) r.1, r.2)
  one_more x y xs ys h e k q (inr r) = inr (r.0, ap (λ z. z ∷ h) (sym q) ∙ ap (λ zs. x ∷ zs) r.1, r.2)

  pub parted : (xs ys h : List A) (e : A) (k : List A) → xs ++ ys ≡ h ++ e ∷ k → Parted xs ys h e k
  parted [] ys h e k q = inr (h, refl, q)
  parted (x ∷ xs) ys [] e k q = let t = tails x e (xs ++ ys) k q in inl (xs, ap (λ z. z ∷ xs) t.0, sym t.1)
  parted (x ∷ xs) ys (y ∷ h) e k q = let t = tails x y (xs ++ ys) (h ++ e ∷ k) q in one_more x y xs ys h e k t.0 (parted xs ys h e k t.1)
