-- When a message came to a vat, by the lines that bring it.
use Rattle.std.proofs.Common.{◌≡◌, ℕ, zero, suc, Bool, true, false, List, [], ◌∷◌, Option, Some, None, refl, sym, ap, subst, ◌∙◌, ◌⊎◌, inl, inr, eqb-true, eq-eqb}
use Rattle.std.specs.Prelude.{◌==◌, ◌&&◌}
use Rattle.def_machine.specs.Values.{Words, Name, same_name}
use Rattle.def_machine.specs.State.{Message, Passeds, Delivery, Deliver, Sends}
use Rattle.def_run.specs.World.{Event, Here, Carried}
use Rattle.law_fate.specs.Name.Names.{IsAmong}
use Rattle.law_order.specs.Ordering.Order.{Coming, plains, comes_in, comes}
use Rattle.law_order.proofs.Ordering.Named.{same_is, same_self}
use Rattle.law_order.proofs.History.Lines.{and_first, and_second, some_is}

-- the line brings message x to vat v, with those arguments
abbrev pub Brings : ℕ → Name → Event → Passeds Name → Type 0
Brings v x e ys = comes_in v x zero e ≡ Some (record { line = zero; args = ys })

none_some : {A : Type 0} (a : A) → ◌≡◌ {A = Option A} None (Some a) → ⊥
none_some a e = cc

abbrev Told : Bool → ℕ → Passeds Name → Option Coming
Told b i ys = elim b [ true ↦ Some (record { line = i; args = ys }) | false ↦ None ]

shifts : (b : Bool) (i j : ℕ) (ys : Passeds Name) (c : Coming) → Told b i ys ≡ Some c → Told b j ys ≡ Some (record { line = j; args = c.args })
shifts true i j ys c e = ap (λ zs. Some (record { line = j; args = zs })) (ap (λ (d : Coming). d.args) (some_is (record { line = i; args = ys }) c e))
shifts false i j ys c e = absurd (none_some c e)

-- whatever number the line has
pub shift : (v : ℕ) (x : Name) (i j : ℕ) (e : Event) (c : Coming) → comes_in v x i e ≡ Some c → comes_in v x j e ≡ Some (record { line = j; args = c.args })
unfolding comes_in
shift v x i j (Here w (Sends act m)) c e = shifts ((w == v) && same_name m.id x) i j (plains m.args) c e
shift v x i j (Carried k u w (Deliver d n verb ys) bytes) c e = shifts ((w == v) && same_name d.message x) i j ys c e
shift v x i j other c e = absurd (none_some c e)

-- ---- which lines bring it

pub data BringsAs (v : ℕ) (x : Name) (e : Event) (ys : Passeds Name) : Type 0 where
  by_send : (act : ℕ) (m : Message Name) → e ≡ Here v (Sends act m) → m.id ≡ x → BringsAs v x e ys
  by_carry : (k u : ℕ) (d : Delivery Name) (n : Name) (verb bytes : Words) (zs : Passeds Name) → e ≡ Carried k u v (Deliver d n verb zs) bytes → d.message ≡ x → BringsAs v x e ys

both : (w v : ℕ) (n x : Name) (b : Bool) → ((w == v) && same_name n x) ≡ b → (i : ℕ) (ys : Passeds Name) (c : Coming) → Told b i ys ≡ Some c → (w ≡ v) × (n ≡ x)
both w v n x true e i ys c f = (eqb-true w v (and_first (w == v) (same_name n x) e), same_is n x (and_second (w == v) (same_name n x) e))
both w v n x false e i ys c f = absurd (none_some c f)

pub brings_as : (v : ℕ) (x : Name) (e : Event) (ys : Passeds Name) → Brings v x e ys → BringsAs v x e ys
unfolding comes_in
brings_as v x (Here w (Sends act m)) ys e = let h = both w v m.id x ((w == v) && same_name m.id x) refl zero (plains m.args) (record { line = zero; args = ys }) e in by_send act m (ap (λ z. Here z (Sends act m)) h.0) h.1
brings_as v x (Carried k u w (Deliver d n verb zs) bytes) ys e = let h = both w v d.message x ((w == v) && same_name d.message x) refl zero zs (record { line = zero; args = ys }) e in by_carry k u d n verb bytes zs (ap (λ z. Carried k u z (Deliver d n verb zs) bytes) h.0) h.1
brings_as v x other ys e = absurd (none_some (record { line = zero; args = ys }) e)

is_both : (v : ℕ) (x : Name) → ((v == v) && same_name x x) ≡ true
is_both v x = subst (λ b. (b && same_name x x) ≡ true) (sym (eq-eqb v v refl)) (same_self x)

pub send_brings : (v act : ℕ) (m : Message Name) → Brings v m.id (Here v (Sends act m)) (plains m.args)
unfolding comes_in
send_brings v act m = subst (λ b. Told b zero (plains m.args) ≡ Some (record { line = zero; args = plains m.args })) (sym (is_both v m.id)) refl

pub carry_brings : (v k u : ℕ) (d : Delivery Name) (n : Name) (verb bytes : Words) (ys : Passeds Name) → Brings v d.message (Carried k u v (Deliver d n verb ys) bytes) ys
unfolding comes_in
carry_brings v k u d n verb bytes ys = subst (λ b. Told b zero ys ≡ Some (record { line = zero; args = ys })) (sym (is_both v d.message)) refl

-- the same line brings the same
pub brings_same : (v : ℕ) (x : Name) (e : Event) (ys zs : Passeds Name) → Brings v x e ys → Brings v x e zs → ys ≡ zs
brings_same v x e ys zs f g = ap (λ (c : Coming). c.args) (some_is (record { line = zero; args = ys }) (record { line = zero; args = zs }) (sym f ∙ g))

-- ---- when it came

-- it came by one of those lines
pub record CameBy (v : ℕ) (x : Name) (i : ℕ) (es : List Event) : Type 0 where
  pub coming : Coming
  pub came : comes v x i es ≡ Some coming
  pub line : Event
  pub among : IsAmong line es
  pub brings : Brings v x line coming.args

pub came_or : (v : ℕ) (x : Name) (i : ℕ) (es : List Event) → (comes v x i es ≡ None) ⊎ CameBy v x i es
unfolding comes
came_or v x i [] = inl refl
came_or v x i (e ∷ es) = go (comes_in v x i e) refl (came_or v x (suc i) es)
  where
    go : (o : Option Coming) → comes_in v x i e ≡ o → (comes v x (suc i) es ≡ None) ⊎ CameBy v x (suc i) es → (comes v x i (e ∷ es) ≡ None) ⊎ CameBy v x i (e ∷ es)
    go (Some c) f r = inr (record { coming = c; came = ap (λ o. elim o [ Some d ↦ Some d | None ↦ comes v x (suc i) es ]) f; line = e; among = inl refl; brings = shift v x i zero e c f })
    go None f (inl n) = inl (ap (λ o. elim o [ Some d ↦ Some d | None ↦ comes v x (suc i) es ]) f ∙ n)
    go None f (inr r) = inr (record { coming = r.coming; came = ap (λ o. elim o [ Some d ↦ Some d | None ↦ comes v x (suc i) es ]) f ∙ r.came; line = r.line; among = inr r.among; brings = r.brings })

first_none : (o p : Option Coming) → ◌≡◌ {A = Option Coming} (elim o [ Some d ↦ Some d | None ↦ p ]) None → (o ≡ None) × (p ≡ None)
first_none (Some d) p e = absurd (none_some d (sym e))
first_none None p e = (refl, e)

-- what one of the lines brings came
pub none_brings : (v : ℕ) (x : Name) (i : ℕ) (es : List Event) (e : Event) (ys : Passeds Name) → comes v x i es ≡ None → IsAmong e es → Brings v x e ys → ⊥
unfolding comes
none_brings v x i [] e ys n h b = h
none_brings v x i (g ∷ es) e ys n (inl h) b = none_some (record { line = i; args = ys }) (sym (first_none (comes_in v x i g) (comes v x (suc i) es) n).0 ∙ ap (λ z. comes_in v x i z) (sym h) ∙ shift v x zero i e (record { line = zero; args = ys }) b)
none_brings v x i (g ∷ es) e ys n (inr h) b = none_brings v x (suc i) es e ys (first_none (comes_in v x i g) (comes v x (suc i) es) n).1 h b
