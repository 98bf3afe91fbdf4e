-- What evaluation looks up and tells apart, under changed names.
use Rattle.std.proofs.Common.{◌≡◌, ℕ, zero, suc, Bool, true, false, List, [], ◌∷◌, Option, Some, None, refl, ap, length, map}
use Rattle.std.specs.Prelude.{slice_get, option_map, codes}
use Rattle.def_machine.specs.Values.{Words, Value, Null, Flag, Number, Letter, Text, Prim, Broken, Items, Ref, Naming, Spot, Own}
use Rattle.def_machine.specs.State.{Bound, Fixed, Binding, Scope, Freedom, IsSafe, IsItself, IsFinal, FreeName, Thing, Made, Vat}
use Rattle.def_machine.specs.Free.{same_words}
use Rattle.def_machine.specs.Form as form
use Rattle.def_machine.specs.Native.{list_at, Reply, Says, Fails, Guard, IntGuard, BooleanGuard, CharGuard, TextGuard, ListGuard, NullGuard, NearGuard, FrozenGuard, OrNull, Rule, DeepFrozen, Selfless, Functional, Primitive, RefTest, Fulfillment, NoTest}
use Rattle.def_machine.specs.Refs as refs
use Rattle.def_machine.specs.Refs.{Place, Near, Mine, Away, Gone, highest}
use Rattle.def_machine.specs.Scopes as scopes
use Rattle.def_machine.specs.Perform as perform
use Rattle.def_machine.specs.Calls as calls
use Rattle.def_kernel.specs.declared.node.Literal.{Literal}
use Rattle.def_kernel.specs.declared.node.Literal.TheVariants as literal
use Rattle.def_kernel.specs.declared.node.Node.{Node}
use Rattle.def_kernel.specs.declared.node.Node.TheVariants.{Final}
use Rattle.def_machine.specs.Maps as maps
use Rattle.law_machine.specs.Renamed.EvalMaps as evals
use Rattle.law_machine.proofs.Renamed.Sim.{Books, Renames, map_get, length_map, map_end}
use Rattle.law_machine.proofs.Renamed.SimRefs.{list_at_map, same_follow, same_place, any_map}
use Rattle.law_machine.proofs.Renamed.NativeMaps.{entry_map}

pick_map : {A B : Type 0} (g : A → B) (b : Bool) (x y : A) (x' y' : B) → x' ≡ g x → y' ≡ g y → ◌≡◌ {A = B} (elim b [ true ↦ x' | false ↦ y' ]) (g (elim b [ true ↦ x | false ↦ y ]))
pick_map g true x y x' y' e h = e
pick_map g false x y x' y' e h = h

pub pick_same : {A : Type 0} (b b' : Bool) (x y x' y' : A) → b' ≡ b → x' ≡ x → y' ≡ y → ◌≡◌ {A = A} (elim b' [ true ↦ x' | false ↦ y' ]) (elim b [ true ↦ x | false ↦ y ])
pick_same true true x y x' y' e i j = i
pick_same false false x y x' y' e i j = j
pick_same true false x y x' y' e i j = cc
pick_same false true x y x' y' e i j = cc

module _ {N M : Type 0} (f : N → M) where
  pub literal_map : (l : Literal) → form.literal_value l ≡ maps.value f (form.literal_value l)
  unfolding form.literal_value
  literal_map (literal.Int z) = refl
  literal_map other = refl

  pub bound_map : (bs : List (Binding N)) (x : Words) → scopes.bound_in (map (maps.binding f) bs) x ≡ option_map (maps.bound f) (scopes.bound_in bs x)
  unfolding scopes.bound_in
  bound_map [] x = refl
  bound_map (b ∷ bs) x = pick_map (option_map (maps.bound f)) (same_words b.noun x) (Some b.bound) (scopes.bound_in bs x) (Some (maps.bound f b.bound)) (scopes.bound_in (map (maps.binding f) bs) x) refl (bound_map bs x)

  pub with_noun_map : (x : Words) (b : Bound N) (here : Scope N) → scopes.with_noun x (maps.bound f b) (maps.scope f here) ≡ maps.scope f (scopes.with_noun x b here)
  unfolding scopes.with_noun
  with_noun_map x b here = refl

  capture_pick : (x : Words) (o : Option (Bound N)) (rest : List (Binding N)) (rest' : List (Binding M)) → rest' ≡ map (maps.binding f) rest
      → ◌≡◌ {A = List (Binding M)} (elim (option_map (maps.bound f) o) [ Some b ↦ record { noun = x; bound = b } ∷ rest' | None ↦ rest' ]) (map (maps.binding f) (elim o [ Some b ↦ record { noun = x; bound = b } ∷ rest | None ↦ rest ]))
  capture_pick x (Some b) rest rest' e = ap (λ zs. record { noun = x; bound = maps.bound f b } ∷ zs) e
  capture_pick x None rest rest' e = e

  pub captures_map : (here : Scope N) (xs : List Words) → scopes.captures (maps.scope f here) xs ≡ map (maps.binding f) (scopes.captures here xs)
  unfolding scopes.captures
  captures_map here [] = refl
  captures_map here (x ∷ xs) = rw (bound_map here.nouns x, scopes.captures) (capture_pick x (scopes.bound_in here.nouns x) (scopes.captures here xs) (scopes.captures (maps.scope f here) xs) (captures_map here xs))

  pub named_map : (p : Option Node) (v : Value N) (here : Scope N) → scopes.named p (maps.value f v) (maps.scope f here) ≡ maps.scope f (scopes.named p v here)
  unfolding scopes.named scopes.with_noun scopes.any_guard
  named_map (Some (Final x g)) v here = refl
  named_map _ v here = refl

  freedom_bound_map : (o : Option (Bound N)) (x : Words) → scopes.freedom_of_bound (option_map (maps.bound f) o) x ≡ maps.freedom f (scopes.freedom_of_bound o x)
  unfolding scopes.freedom_of_bound
  freedom_bound_map (Some (Fixed v g)) x = refl
  freedom_bound_map other x = refl

  freedom_map : (own : Option Words) (bs : List (Binding N)) (x : Words) → scopes.freedom_of own (map (maps.binding f) bs) x ≡ maps.freedom f (scopes.freedom_of own bs x)
  unfolding scopes.freedom_of
  freedom_map own bs x = pick_map (maps.freedom f) (scopes.is_own own x) IsItself (scopes.freedom_of_bound (scopes.bound_in bs x) x) IsItself (scopes.freedom_of_bound (scopes.bound_in (map (maps.binding f) bs) x) x) refl (rw (bound_map bs x) (freedom_bound_map (scopes.bound_in bs x) x))

  pub free_names_map : (own : Option Words) (bs : List (Binding N)) (xs : List Words) → scopes.free_names own (map (maps.binding f) bs) xs ≡ map (maps.free_name f) (scopes.free_names own bs xs)
  unfolding scopes.free_names
  free_names_map own bs [] = refl
  free_names_map own bs (x ∷ xs) = rw (freedom_map own bs x, free_names_map own bs xs) refl

  frozen_guard_map : (g : Value N) → scopes.frozen_guard (maps.value f g) ≡ scopes.frozen_guard g
  unfolding scopes.frozen_guard
  frozen_guard_map (Prim n) = refl
  frozen_guard_map _ = refl

  frozen_freedom_map : (x : Freedom N) → scopes.frozen_freedom (maps.freedom f x) ≡ scopes.frozen_freedom x
  unfolding scopes.frozen_freedom
  frozen_freedom_map (IsFinal g) = frozen_guard_map g
  frozen_freedom_map other = refl

  not_itself_map : (x : Freedom N) → scopes.not_itself (maps.freedom f x) ≡ scopes.not_itself x
  unfolding scopes.not_itself
  not_itself_map IsSafe = refl
  not_itself_map other = refl

  data_guard_map : (g : Value N) → scopes.data_guard (maps.value f g) ≡ scopes.data_guard g
  unfolding scopes.data_guard
  data_guard_map (Prim n) = refl
  data_guard_map _ = refl

  functional_freedom_map : (noun : Words) (x : Freedom N) → scopes.functional_freedom noun (maps.freedom f x) ≡ scopes.functional_freedom noun x
  unfolding scopes.functional_freedom
  functional_freedom_map noun (IsFinal g) = data_guard_map g
  functional_freedom_map noun other = refl

  fits_map : (r : Rule) (x : FreeName N) → scopes.fits r (maps.free_name f x) ≡ scopes.fits r x
  unfolding scopes.fits
  fits_map DeepFrozen x = frozen_freedom_map x.freedom
  fits_map Selfless x = not_itself_map x.freedom
  fits_map Functional x = functional_freedom_map x.noun x.freedom

  meets_map : (r : Rule) (xs : List (FreeName N)) → scopes.meets r (map (maps.free_name f) xs) ≡ scopes.meets r xs
  unfolding scopes.meets
  meets_map r [] = refl
  meets_map r (x ∷ xs) = pick_same (scopes.fits r x) (scopes.fits r (maps.free_name f x)) (scopes.meets r xs) false (scopes.meets r (map (maps.free_name f) xs)) false (fits_map r x) (meets_map r xs) refl

  rule_map : (o : Option Rule) (xs : List (FreeName N)) → ◌≡◌ {A = Bool} (elim o [ Some r ↦ scopes.meets r (map (maps.free_name f) xs) | None ↦ false ]) (elim o [ Some r ↦ scopes.meets r xs | None ↦ false ])
  rule_map (Some r) xs = meets_map r xs
  rule_map None xs = refl

  pub approves_map : (p : Primitive) (xs : List (FreeName N)) → scopes.approves p (map (maps.free_name f) xs) ≡ scopes.approves p xs
  unfolding scopes.approves
  approves_map p xs = rule_map (scopes.rule_of p) xs

  guard_told_map : (x : Freedom N) → scopes.guard_told (maps.freedom f x) ≡ maps.value f (scopes.guard_told x)
  unfolding scopes.guard_told scopes.any_guard
  guard_told_map IsSafe = refl
  guard_told_map other = refl

  guard_at_map : (xs : List (FreeName N)) (x : Words) → scopes.guard_at (map (maps.free_name f) xs) x ≡ evals.reply f (scopes.guard_at xs x)
  unfolding scopes.guard_at
  guard_at_map [] x = refl
  guard_at_map (y ∷ ys) x = pick_map (evals.reply f) (same_words y.noun x) (Says (scopes.guard_told y.freedom)) (scopes.guard_at ys x) (Says (scopes.guard_told (maps.freedom f y.freedom))) (scopes.guard_at (map (maps.free_name f) ys) x) (ap Says (guard_told_map y.freedom)) (guard_at_map ys x)

  pub guard_asked_map : (xs : List (FreeName N)) (x : Value N) → scopes.guard_asked (map (maps.free_name f) xs) (maps.value f x) ≡ evals.reply f (scopes.guard_asked xs x)
  unfolding scopes.guard_asked
  guard_asked_map xs (Text t) = guard_at_map xs t
  guard_asked_map xs _ = refl

  pub audition_ask_map : (verb : Words) (xs : List (Value N)) → scopes.audition_ask verb (map (maps.value f) xs) ≡ evals.audition_ask f (scopes.audition_ask verb xs)
  unfolding scopes.audition_ask
  audition_ask_map verb (x ∷ y ∷ zs) = refl
  audition_ask_map verb other = entry_map (evals.audition_ask f) _ _ verb

  pub resolver_ask_map : (verb : Words) (xs : List (Value N)) → scopes.resolver_ask verb (map (maps.value f) xs) ≡ evals.resolver_ask f (scopes.resolver_ask verb xs)
  unfolding scopes.resolver_ask
  resolver_ask_map verb (x ∷ []) = entry_map (evals.resolver_ask f) _ _ verb
  resolver_ask_map verb other = refl

  pub ejector_ask_map : (verb : Words) (xs : List (Value N)) → scopes.ejector_ask verb (map (maps.value f) xs) ≡ option_map (maps.value f) (scopes.ejector_ask verb xs)
  unfolding scopes.ejector_ask
  ejector_ask_map verb (x ∷ y ∷ zs) = refl
  ejector_ask_map verb other = entry_map (option_map (maps.value f)) _ _ verb

  pub is_null_map : (x : Value N) → scopes.is_null (maps.value f x) ≡ scopes.is_null x
  unfolding scopes.is_null
  is_null_map Null = refl
  is_null_map _ = refl

  pub is_true_map : (x : Value N) → scopes.is_true (maps.value f x) ≡ scopes.is_true x
  unfolding scopes.is_true
  is_true_map (Flag b) = refl
  is_true_map _ = refl

  is_near_map : (p : Place N) → scopes.is_near (maps.place f p) ≡ scopes.is_near p
  unfolding scopes.is_near
  is_near_map Near = refl
  is_near_map _ = refl

  where_map : (b : Bool) (y : Value N) → scopes.where_true b (maps.value f y) ≡ option_map (maps.value f) (scopes.where_true b y)
  unfolding scopes.where_true
  where_map true y = refl
  where_map false y = refl

  all_plain_map : (F : Value N → Bool) (G : Value M → Bool) → ((v : Value N) → G (maps.value f v) ≡ F v) → (vs : List (Value N)) → scopes.all_plain G (map (maps.value f) vs) ≡ scopes.all_plain F vs
  unfolding scopes.all_plain
  all_plain_map F G e [] = refl
  all_plain_map F G e (v ∷ vs) = pick_same (F v) (G (maps.value f v)) (scopes.all_plain F vs) false (scopes.all_plain G (map (maps.value f) vs)) false (e v) (all_plain_map F G e vs) refl

  plain_by_map : (F : List (Value N) → Bool) (G : List (Value M) → Bool) → ((vs : List (Value N)) → G (map (maps.value f) vs) ≡ F vs) → (ls : List (List (Value N))) (v : Value N) → scopes.plain_by G (map (map (maps.value f)) ls) (maps.value f v) ≡ scopes.plain_by F ls v
  unfolding scopes.plain_by
  plain_by_map F G e ls (Items k) = rw (list_at_map f ls k) (e (list_at ls k))
  plain_by_map F G e ls _ = refl

  plain_map : (d : ℕ) (ls : List (List (Value N))) (v : Value N) → scopes.is_plain d (map (map (maps.value f)) ls) (maps.value f v) ≡ scopes.is_plain d ls v
  unfolding scopes.is_plain
  plain_map zero ls v = plain_by_map (λ vs. false) (λ vs. false) (λ vs. refl) ls v
  plain_map (suc d) ls v = plain_by_map (scopes.all_plain (λ w. scopes.is_plain d ls w)) (scopes.all_plain (λ w. scopes.is_plain d (map (map (maps.value f)) ls) w)) (all_plain_map (λ w. scopes.is_plain d ls w) (λ w. scopes.is_plain d (map (map (maps.value f)) ls) w) (plain_map d ls)) ls v

  stamps_of_map : (t : Option (Thing N)) → scopes.stamps_of (option_map (maps.thing f) t) ≡ map (maps.value f) (scopes.stamps_of t)
  unfolding scopes.stamps_of
  stamps_of_map (Some (Made node caught stamps)) = refl
  stamps_of_map _ = refl

module _ {N M W V : Type 0} (f : N → M) (w : W → V) (K : Naming N W) (L : Naming M V) (Fits : Books M → Type 0) (law : Renames f w K L Fits) (tree : List Node) where
  follows : (s : Vat N) (x : Value N) → refs.follow L (maps.vat f s) (maps.value f x) ≡ maps.value f (refs.follow K s x)
  follows s x = same_follow f w K L Fits law x (maps.value f x) refl s

  places : (s : Vat N) (y : Value N) → refs.place L (maps.vat f s) (maps.value f y) ≡ maps.place f (refs.place K s y)
  places s y = same_place f w K L Fits law y s

  pub with_item_map : (v : Value N) (fs : List (List (Value N))) → calls.with_item L tree (maps.value f v) (map (map (maps.value f)) fs) ≡ map (map (maps.value f)) (calls.with_item K tree v fs)
  unfolding calls.with_item
  with_item_map v [] = refl
  with_item_map v (g ∷ fs) = rw (map_end (maps.value f) g v) refl

  pub with_stamp_map : (b : Bool) (y : Value N) (ys : List (Value N)) → calls.with_stamp L tree b (maps.value f y) (map (maps.value f) ys) ≡ map (maps.value f) (calls.with_stamp K tree b y ys)
  unfolding calls.with_stamp
  with_stamp_map true y ys = refl
  with_stamp_map false y ys = refl

  same_stamp_map : (a b : Value N) → perform.same_stamp L tree (maps.value f a) (maps.value f b) ≡ perform.same_stamp K tree a b
  unfolding perform.same_stamp
  same_stamp_map (Prim m) (Prim n) = refl
  same_stamp_map (Ref m) (Ref n) = law.same m n
  same_stamp_map _ _ = refl

  has_stamp_map : (a : Value N) (bs : List (Value N)) → perform.has_stamp L tree (maps.value f a) (map (maps.value f) bs) ≡ perform.has_stamp K tree a bs
  unfolding perform.has_stamp
  has_stamp_map a [] = refl
  has_stamp_map a (b ∷ bs) = pick_same (perform.same_stamp K tree a b) (perform.same_stamp L tree (maps.value f a) (maps.value f b)) true (perform.has_stamp K tree a bs) true (perform.has_stamp L tree (maps.value f a) (map (maps.value f) bs)) (same_stamp_map a b) refl (has_stamp_map a bs)

  stamps_at_map : (s : Vat N) (p : Spot) → perform.stamps_at L tree (maps.vat f s) p ≡ map (maps.value f) (perform.stamps_at K tree s p)
  unfolding perform.stamps_at
  stamps_at_map s (Own i) = rw (map_get (maps.thing f) s.things i) (stamps_of_map f (slice_get s.things i))
  stamps_at_map s other = refl

  pub stamped_map : (s : Vat N) (a x : Value N) → perform.is_stamped L tree (maps.vat f s) (maps.value f a) (maps.value f x) ≡ perform.is_stamped K tree s a x
  unfolding perform.is_stamped
  stamped_map s a (Ref n) = rw (law.spot n, stamps_at_map s (K.spot n)) (has_stamp_map a (perform.stamps_at K tree s (K.spot n)))
  stamped_map s a _ = refl

  frozen_map : (s : Vat N) (y : Value N) → perform.is_frozen L tree (maps.vat f s) (maps.value f y) ≡ perform.is_frozen K tree s y
  unfolding perform.is_frozen
  frozen_map s (Ref n) = stamped_map s (Prim 17) (Ref n)
  frozen_map s (Items k) = plain_map f highest s.lists (Items k)
  frozen_map s Null = plain_map f highest s.lists Null
  frozen_map s (Flag b) = plain_map f highest s.lists (Flag b)
  frozen_map s (Number z) = plain_map f highest s.lists (Number z)
  frozen_map s (Letter c) = plain_map f highest s.lists (Letter c)
  frozen_map s (Text t) = plain_map f highest s.lists (Text t)
  frozen_map s (Prim n) = plain_map f highest s.lists (Prim n)
  frozen_map s (Broken p) = plain_map f highest s.lists (Broken p)

  kind_map : (t : Value N → Bool) (u : Value M → Bool) → ((v : Value N) → u (maps.value f v) ≡ t v) → (y : Value N) → scopes.where_true (u (maps.value f y)) (maps.value f y) ≡ option_map (maps.value f) (scopes.where_true (t y) y)
  kind_map t u e y = rw (e y) (where_map f (t y) y)

  int_kind : (v : Value N) → scopes.is_int (maps.value f v) ≡ scopes.is_int v
  unfolding scopes.is_int
  int_kind (Number z) = refl
  int_kind _ = refl

  boolean_kind : (v : Value N) → scopes.is_boolean (maps.value f v) ≡ scopes.is_boolean v
  unfolding scopes.is_boolean
  boolean_kind (Flag z) = refl
  boolean_kind _ = refl

  char_kind : (v : Value N) → scopes.is_char (maps.value f v) ≡ scopes.is_char v
  unfolding scopes.is_char
  char_kind (Letter z) = refl
  char_kind _ = refl

  text_kind : (v : Value N) → scopes.is_text (maps.value f v) ≡ scopes.is_text v
  unfolding scopes.is_text
  text_kind (Text z) = refl
  text_kind _ = refl

  list_kind : (v : Value N) → scopes.is_list (maps.value f v) ≡ scopes.is_list v
  unfolding scopes.is_list
  list_kind (Items z) = refl
  list_kind _ = refl

  pub taken_map : (s : Vat N) (g : Guard) (x y : Value N) → perform.taken L tree (maps.vat f s) g (maps.value f x) (maps.value f y) ≡ option_map (maps.value f) (perform.taken K tree s g x y)
  unfolding perform.taken
  taken_map s IntGuard x y = kind_map scopes.is_int scopes.is_int int_kind y
  taken_map s BooleanGuard x y = kind_map scopes.is_boolean scopes.is_boolean boolean_kind y
  taken_map s CharGuard x y = kind_map scopes.is_char scopes.is_char char_kind y
  taken_map s TextGuard x y = kind_map scopes.is_text scopes.is_text text_kind y
  taken_map s ListGuard x y = kind_map scopes.is_list scopes.is_list list_kind y
  taken_map s NullGuard x y = kind_map scopes.is_null scopes.is_null (is_null_map f) y
  taken_map s NearGuard x y = rw (places s y, is_near_map f (refs.place K s y)) (where_map f (scopes.is_near (refs.place K s y)) y)
  taken_map s FrozenGuard x y = rw (frozen_map s y) (where_map f (perform.is_frozen K tree s y) y)
  taken_map s (OrNull g) x y = rw (is_null_map f y, perform.taken) (pick_map (option_map (maps.value f)) (scopes.is_null y) (Some Null) (perform.taken K tree s g x y) (Some Null) (perform.taken L tree (maps.vat f s) g (maps.value f x) (maps.value f y)) refl (taken_map s g x y))
  taken_map s other x y = refl

  -- ---- sameEver

  unsettled_map : (p : Place N) → perform.is_unsettled L tree (maps.place f p) ≡ perform.is_unsettled K tree p
  unfolding perform.is_unsettled
  unsettled_map (Mine n) = refl
  unsettled_map other = refl

  open_by_map : (F : List (Value N) → Bool) (G : List (Value M) → Bool) → ((vs : List (Value N)) → G (map (maps.value f) vs) ≡ F vs) → (s : Vat N) (y : Value N) → perform.open_by L tree G (maps.vat f s) (maps.value f y) ≡ perform.open_by K tree F s y
  unfolding perform.open_by
  open_by_map F G e s (Items k) = rw (list_at_map f s.lists k) (e (list_at s.lists k))
  open_by_map F G e s (Ref n) = rw (places s (Ref n)) (unsettled_map (refs.place K s (Ref n)))
  open_by_map F G e s Null = rw (places s Null) (unsettled_map (refs.place K s Null))
  open_by_map F G e s (Flag b) = rw (places s (Flag b)) (unsettled_map (refs.place K s (Flag b)))
  open_by_map F G e s (Number b) = rw (places s (Number b)) (unsettled_map (refs.place K s (Number b)))
  open_by_map F G e s (Letter b) = rw (places s (Letter b)) (unsettled_map (refs.place K s (Letter b)))
  open_by_map F G e s (Text b) = rw (places s (Text b)) (unsettled_map (refs.place K s (Text b)))
  open_by_map F G e s (Prim b) = rw (places s (Prim b)) (unsettled_map (refs.place K s (Prim b)))
  open_by_map F G e s (Broken b) = rw (places s (Broken b)) (unsettled_map (refs.place K s (Broken b)))

  anys : (F : Value N → Bool) (G : Value M → Bool) → ((v : Value N) → G (maps.value f v) ≡ F v) → (vs : List (Value N)) → refs.any_of L G (map (maps.value f) vs) ≡ refs.any_of K F vs
  anys = any_map f w K L Fits law

  open_map : (d : ℕ) (s : Vat N) (x : Value N) → perform.is_open L tree d (maps.vat f s) (maps.value f x) ≡ perform.is_open K tree d s x
  unfolding perform.is_open
  open_map zero s x = rw (follows s x) (open_by_map (λ vs. false) (λ vs. false) (λ vs. refl) s (refs.follow K s x))
  open_map (suc d) s x = rw (follows s x) (open_by_map (refs.any_of K (λ v. perform.is_open K tree d s v)) (refs.any_of L (λ v. perform.is_open L tree d (maps.vat f s) v)) (anys (λ v. perform.is_open K tree d s v) (λ v. perform.is_open L tree d (maps.vat f s) v) (open_map d s)) s (refs.follow K s x))

  all_same_map : (F : Value N → Value N → Bool) (G : Value M → Value M → Bool) → ((v u : Value N) → G (maps.value f v) (maps.value f u) ≡ F v u) → (vs us : List (Value N)) → perform.all_same L tree G (map (maps.value f) vs) (map (maps.value f) us) ≡ perform.all_same K tree F vs us
  unfolding perform.all_same
  all_same_map F G e [] [] = refl
  all_same_map F G e [] (u ∷ us) = refl
  all_same_map F G e (v ∷ vs) [] = refl
  all_same_map F G e (v ∷ vs) (u ∷ us) = pick_same (F v u) (G (maps.value f v) (maps.value f u)) (perform.all_same K tree F vs us) false (perform.all_same L tree G (map (maps.value f) vs) (map (maps.value f) us)) false (e v u) (all_same_map F G e vs us) refl

  same_by_map : (F : List (Value N) → List (Value N) → Bool) (G : List (Value M) → List (Value M) → Bool) → ((vs us : List (Value N)) → G (map (maps.value f) vs) (map (maps.value f) us) ≡ F vs us) → (s : Vat N) (x y : Value N)
      → perform.same_by L tree G (maps.vat f s) (maps.value f x) (maps.value f y) ≡ perform.same_by K tree F s x y
  unfolding perform.same_by
  same_by_map F G e s Null Null = refl
  same_by_map F G e s (Flag a) (Flag b) = refl
  same_by_map F G e s (Number a) (Number b) = refl
  same_by_map F G e s (Letter a) (Letter b) = refl
  same_by_map F G e s (Text a) (Text b) = refl
  same_by_map F G e s (Prim a) (Prim b) = refl
  same_by_map F G e s (Broken a) (Broken b) = refl
  same_by_map F G e s (Items j) (Items k) = rw (list_at_map f s.lists j, list_at_map f s.lists k) (e (list_at s.lists j) (list_at s.lists k))
  same_by_map F G e s (Ref m) (Ref n) = law.same m n
  same_by_map F G e s _ _ = refl

  is_same_map : (d : ℕ) (s : Vat N) (x y : Value N) → perform.is_same L tree d (maps.vat f s) (maps.value f x) (maps.value f y) ≡ perform.is_same K tree d s x y
  unfolding perform.is_same
  is_same_map zero s x y = rw (follows s x, follows s y) (same_by_map (λ vs us. false) (λ vs us. false) (λ vs us. refl) s (refs.follow K s x) (refs.follow K s y))
  is_same_map (suc d) s x y = rw (follows s x, follows s y) (same_by_map (perform.all_same K tree (λ v u. perform.is_same K tree d s v u)) (perform.all_same L tree (λ v u. perform.is_same L tree d (maps.vat f s) v u))
      (all_same_map (λ v u. perform.is_same K tree d s v u) (λ v u. perform.is_same L tree d (maps.vat f s) v u) (is_same_map d s)) s (refs.follow K s x) (refs.follow K s y))

  reply_pick : (b b' c c' : Bool) → b' ≡ b → c' ≡ c → ◌≡◌ {A = Reply M} (elim b' [ true ↦ Fails (codes "not settled") | false ↦ Says (Flag c') ]) (evals.reply f (elim b [ true ↦ Fails (codes "not settled") | false ↦ Says (Flag c) ]))
  reply_pick true true c c' e h = refl
  reply_pick false false c c' e h = ap (λ z. Says (Flag z)) h
  reply_pick true false c c' e h = cc
  reply_pick false true c c' e h = cc

  open_here : (s : Vat N) (vs : List (Value N)) → refs.any_of L (perform.is_open L tree (length (map (map (maps.value f)) s.lists)) (maps.vat f s)) (map (maps.value f) vs) ≡ refs.any_of K (perform.is_open K tree (length s.lists) s) vs
  open_here s vs = rw (length_map (map (maps.value f)) s.lists) (anys (λ v. perform.is_open K tree (length s.lists) s v) (λ v. perform.is_open L tree (length s.lists) (maps.vat f s) v) (open_map (length s.lists) s) vs)

  same_here : (s : Vat N) (x y : Value N) → perform.is_same L tree (length (map (map (maps.value f)) s.lists)) (maps.vat f s) (maps.value f x) (maps.value f y) ≡ perform.is_same K tree (length s.lists) s x y
  same_here s x y = rw (length_map (map (maps.value f)) s.lists) (is_same_map (length s.lists) s x y)

  pub same_reply_map : (s : Vat N) (x y : Value N) → perform.same_reply L tree (maps.vat f s) (maps.value f x) (maps.value f y) ≡ evals.reply f (perform.same_reply K tree s x y)
  unfolding perform.same_reply
  same_reply_map s x y = reply_pick (refs.any_of K (perform.is_open K tree (length s.lists) s) (x ∷ y ∷ [])) (refs.any_of L (perform.is_open L tree (length (map (map (maps.value f)) s.lists)) (maps.vat f s)) (maps.value f x ∷ maps.value f y ∷ [])) (perform.is_same K tree (length s.lists) s x y) (perform.is_same L tree (length (map (map (maps.value f)) s.lists)) (maps.vat f s) (maps.value f x) (maps.value f y)) (open_here s (x ∷ y ∷ [])) (same_here s x y)

  -- ---- Ref

  pub broken_text_map : (x : Value N) → perform.broken_text L tree (maps.value f x) ≡ evals.reply f (perform.broken_text K tree x)
  unfolding perform.broken_text
  broken_text_map (Text t) = refl
  broken_text_map _ = refl

  pub thrown_text_map : (x : Value N) → perform.thrown_text L tree (maps.value f x) ≡ evals.reply f (perform.thrown_text K tree x)
  unfolding perform.thrown_text
  thrown_text_map (Text t) = refl
  thrown_text_map _ = refl

  fulfilled_map : (x : Value N) (p : Place N) → perform.fulfilled L tree (maps.value f x) (maps.place f p) ≡ evals.reply f (perform.fulfilled K tree x p)
  unfolding perform.fulfilled
  fulfilled_map x Near = refl
  fulfilled_map x (Away h n true) = refl
  fulfilled_map x other = refl

  pub test_map : (t : RefTest) (x : Value N) (p : Place N) → perform.test_reply L tree t (maps.value f x) (maps.place f p) ≡ evals.reply f (perform.test_reply K tree t x p)
  unfolding perform.test_reply scopes.is_near perform.is_far perform.is_gone perform.is_unsettled perform.problem_of
  test_map Fulfillment x p = fulfilled_map x p
  test_map NoTest x p = refl
  test_map _ x Near = refl
  test_map _ x (Mine n) = refl
  test_map _ x (Away h n o) = refl
  test_map _ x (Gone p) = refl
