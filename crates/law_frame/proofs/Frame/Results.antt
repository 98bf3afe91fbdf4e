-- What passes holds no list by its number: its members stand in its place.
use Rattle.std.proofs.Common.{ℕ, zero, suc, Bool, true, false, List, [], ◌∷◌, Option, Some, None, if◌then◌else◌, ◌==◌}
use Rattle.def_machine.specs.Values.{Value, Items, Name, Naming}
use Rattle.def_machine.specs.State.{Passed, Passeds, Plain, AGift, Many, NoMore, More, Vat, Done, Gives, Act, ◌>>=◌, ◌>>◌, and_then, give, look}
use Rattle.def_machine.specs.Refs as refs
use Rattle.def_machine.specs.Refs.{Place, Mine, Away, Parcel}
use Rattle.law_frame.specs.Frame.Asked.{ListlessValue, Listless, AllListless}

-- of what is given
abbrev pub Result : {A : Type 0} → (A → Type 0) → Done Name A → Type 0
Result Q (Gives a t) = Q a
Result Q other = Unit {0}

pub record Gains {A : Type 0} (m : Act Name A) (Q : A → Type 0) : Type 0 where
  pub after : (s : Vat Name) → Result Q (m s)

abbrev Whatever : {A : Type 0} → A → Type 0
Whatever a = Unit {0}

any_result : {A : Type 0} (d : Done Name A) → Result Whatever d
any_result (Gives a t) = tt
any_result other = tt

gains_any : {A : Type 0} (m : Act Name A) → Gains m Whatever
gains_any m = record { after = λ s. any_result (m s) }

bind_result : {A B : Type 0} (P : A → Type 0) (Q : B → Type 0) (d : Done Name A) (f : A → Act Name B) → Result P d → ((a : A) → P a → Gains (f a) Q) → Result Q (and_then d f)
unfolding and_then
bind_result P Q (Gives a t) f h k = (k a h).after t
bind_result P Q other f h k = tt

gains_bind : {A B : Type 0} {m : Act Name A} {f : A → Act Name B} (P : A → Type 0) (Q : B → Type 0) → Gains m P → ((a : A) → P a → Gains (f a) Q) → Gains (m >>= f) Q
unfolding ◌>>=◌
gains_bind {m = m} {f = f} P Q h k = record { after = λ s. bind_result P Q (m s) f (h.after s) k }

gains_then : {A B : Type 0} (m : Act Name A) {n : Act Name B} (Q : B → Type 0) → Gains n Q → Gains (m >> n) Q
unfolding ◌>>◌
gains_then m {n = n} Q h = record { after = λ s. bind_result Whatever Q (m s) (λ _. n) (any_result (m s)) (λ a w. h) }

gains_give : {A : Type 0} (a : A) (Q : A → Type 0) → Q a → Gains (give a) Q
unfolding give
gains_give a Q h = record { after = λ s. h }

gains_if : {A : Type 0} (b : Bool) {m n : Act Name A} (Q : A → Type 0) → Gains m Q → Gains n Q → Gains (if b then m else n) Q
gains_if true Q h k = h
gains_if false Q h k = k

module _ (K : Naming Name Name) where
  -- ---- what is made out

  shape_by_listless : (members : List (Value Name) → Passed Name) (ls : List (List (Value Name))) → ((vs : List (Value Name)) → Listless (members vs)) → (y : Value Name) → Listless (refs.shape_by K members ls y)
  unfolding refs.shape_by
  shape_by_listless members ls f (Items k) = f _
  shape_by_listless members ls f other = tt

  shapes_listless : (f : Value Name → Passed Name) → ((y : Value Name) → Listless (f y)) → (vs : List (Value Name)) → AllListless (refs.shapes K f vs)
  unfolding refs.shapes
  shapes_listless f h [] = tt
  shapes_listless f h (y ∷ ys) = (h y, shapes_listless f h ys)

  shape_listless : (d : ℕ) (s : Vat Name) (x : Value Name) → Listless (refs.shape K d s x)
  unfolding refs.shape
  shape_listless zero s x = shape_by_listless _ s.lists (λ vs. tt) (refs.follow K s x)
  shape_listless (suc d) s x = shape_by_listless _ s.lists (λ vs. shapes_listless (λ y. refs.shape K d s y) (λ y. shape_listless d s y) vs) (refs.follow K s x)

  of_list : (s : Vat Name) (x : Value Name) (o : Option ℕ) → Listless (refs.parcel_of_list K s x o).value
  unfolding refs.parcel_of_list refs.too_heavy
  of_list s x (Some left) = shape_listless refs.highest s x
  of_list s x None = tt

  parcel_at_listless : (s : Vat Name) (y : Value Name) → Listless (refs.parcel_at K s y).value
  unfolding refs.parcel_at
  parcel_at_listless s (Items k) = of_list s (Items k) _
  parcel_at_listless s other = tt

  abbrev ListlessParcel : Parcel Name → Type 0
  ListlessParcel p = Listless p.value

  look_parcel : (x : Value Name) → Gains (look (λ s. refs.parcel K s x)) ListlessParcel
  unfolding look refs.parcel
  look_parcel x = record { after = λ s. parcel_at_listless s (refs.follow K s x) }

  -- ---- what is made fit

  plain_listless : (w : ℕ) (y : Value Name) (p : Place Name) → ListlessValue y → Gains (refs.address_plain K w y p) Listless
  unfolding refs.address_plain
  plain_listless w y (Away h n o) q = gains_if (h == w) Listless (gains_give (Plain y) Listless q) (gains_bind Whatever Listless (gains_any _) (λ i u. gains_then _ Listless (gains_give (AGift h i) Listless tt)))
  plain_listless w y (Mine n) q = gains_then _ Listless (gains_give (Plain y) Listless q)
  plain_listless w y other q = gains_give (Plain y) Listless q

  mutual
    unfolding refs.address refs.address_all

    address_listless : (w : ℕ) (y : Passed Name) → Listless y → Gains (refs.address K w y) Listless
    address_listless w (Plain y) q = gains_bind Whatever Listless (gains_any _) (λ p u. plain_listless w y p q)
    address_listless w (AGift h i) q = gains_give (AGift h i) Listless tt
    address_listless w (Many ys) q = gains_bind AllListless Listless (all_listless w ys q) (λ zs u. gains_give (Many zs) Listless u)

    all_listless : (w : ℕ) (ys : Passeds Name) → AllListless ys → Gains (refs.address_all K w ys) AllListless
    all_listless w NoMore q = gains_give NoMore AllListless tt
    all_listless w (More y ys) q = gains_bind Listless AllListless (address_listless w y q.0) (λ z u. gains_bind AllListless AllListless (all_listless w ys q.1) (λ zs x. gains_give (More z zs) AllListless (u, x)))

  pub pass_listless : (w : ℕ) (x : Value Name) → Gains (refs.pass K w x) Listless
  unfolding refs.pass
  pass_listless w x = gains_bind ListlessParcel Listless (look_parcel x) (λ y u. gains_then _ Listless (address_listless w y.value u))

  pub pass_all_listless : (w : ℕ) (xs : List (Value Name)) → Gains (refs.pass_all K w xs) AllListless
  unfolding refs.pass_all
  pass_all_listless w [] = gains_give NoMore AllListless tt
  pass_all_listless w (x ∷ xs) = gains_bind Listless AllListless (pass_listless w x) (λ y u. gains_bind AllListless AllListless (pass_all_listless w xs) (λ ys z. gains_give (More y ys) AllListless (u, z)))
