-- Two namings: passing, sending, settling and resolving.
use Rattle.std.proofs.Common.{◌≡◌, ℕ, zero, suc, Bool, true, false, List, [], ◌∷◌, Option, Some, None, refl, ap, length, map, ◌==◌, is_some}
use Rattle.std.specs.Prelude.{slice_get, option_map, codes}
use Rattle.def_machine.specs.Values.{Words, Value, Text, Broken, Items, Ref, Naming, Spot, Own, Foreign, NoObject}
use Rattle.def_machine.specs.State.{Message, Standing, WaitsOn, Viewed, Settled, Known, Passed, Passeds, Plain, AGift, Many, NoMore, More, Vat, Act, each, is_in, enqueue, new_message}
use Rattle.def_machine.specs.Native as native
use Rattle.def_machine.specs.Native.{list_at}
use Rattle.def_machine.specs.Refs as refs
use Rattle.def_machine.specs.Refs.{Place, Near, Mine, Away, Gone, standing_in, host_in, own_weight, take_room, room_behind, room_by, room_after, most, highest}
use Rattle.def_machine.specs.Maps as maps
use Rattle.law_machine.proofs.Machine.Keeps.{Keeps, IsKept, IsKeptUnder, keeps_each}
use Rattle.law_machine.proofs.Machine.RefsKeeps.{keeps_refs, keeps_pass_all, keeps_settle_at, keeps_settle, keeps_address_all}
use Rattle.law_machine.proofs.Renamed.Sim.{Books, Renames, Sim, Grows, grows, grows_under, id, sims, sim_message, length_map, map_get}

-- ---- what needs no naming

wait_pick : (b b' : Bool) (x x' : Bool) → b' ≡ b → x' ≡ x → ◌≡◌ {A = Bool} (elim b' [ true ↦ true | false ↦ x' ]) (elim b [ true ↦ true | false ↦ x ])
wait_pick true true x x' e h = refl
wait_pick true false x x' e h = cc
wait_pick false true x x' e h = cc
wait_pick false false x x' e h = h

module _ {N M : Type 0} (f : N → M) where
  standing_in_map : (o : Option (Known N)) → standing_in (option_map (maps.known f) o) ≡ maps.standing f (standing_in o)
  unfolding standing_in
  standing_in_map (Some k) = refl
  standing_in_map None = refl

  host_in_map : (v : ℕ) (o : Option (Known N)) → host_in v (option_map (maps.known f) o) ≡ host_in v o
  unfolding host_in
  host_in_map v (Some k) = refl
  host_in_map v None = refl

  pub list_at_map : (ls : List (List (Value N))) (k : ℕ) → list_at (map (map (maps.value f)) ls) k ≡ map (maps.value f) (list_at ls k)
  unfolding native.list_at
  list_at_map ls k = rw (map_get (map (maps.value f)) ls k, native.list_at) (elim (slice_get ls k) as (λ o. elim (option_map (map (maps.value f)) o) [ Some vs ↦ vs | None ↦ [] ] ≡ map (maps.value f) (elim o [ Some vs ↦ vs | None ↦ [] ])) [ Some vs ↦ refl | None ↦ refl ])

  own_weight_map : (v : Value N) → own_weight (maps.value f v) ≡ own_weight v
  unfolding own_weight
  own_weight_map (Text t) = refl
  own_weight_map (Broken p) = refl
  own_weight_map _ = refl

  pub behind_map : (F : Value N → ℕ → Option ℕ) (G : Value M → ℕ → Option ℕ) → ((v : Value N) (r : ℕ) → G (maps.value f v) r ≡ F v r) → (vs : List (Value N)) (r : ℕ) → room_behind G (map (maps.value f) vs) r ≡ room_behind F vs r
  unfolding room_behind
  behind_map F G e [] r = refl
  behind_map F G e (v ∷ vs) r = rw (e v r) (elim (F v r) as (λ o. elim o [ Some left ↦ room_behind G (map (maps.value f) vs) left | None ↦ None ] ≡ elim o [ Some left ↦ room_behind F vs left | None ↦ None ]) [ Some left ↦ behind_map F G e vs left | None ↦ refl ])

  by_map : (F : List (Value N) → ℕ → Option ℕ) (G : List (Value M) → ℕ → Option ℕ) → ((vs : List (Value N)) (r : ℕ) → G (map (maps.value f) vs) r ≡ F vs r) → (ls : List (List (Value N))) (v : Value N) (r : ℕ)
      → room_by G (map (map (maps.value f)) ls) (maps.value f v) r ≡ room_by F ls v r
  unfolding room_by own_weight
  by_map F G e ls (Items k) r = elim (take_room 1 r) as (λ o. elim o [ Some left ↦ G (list_at (map (map (maps.value f)) ls) k) left | None ↦ None ] ≡ elim o [ Some left ↦ F (list_at ls k) left | None ↦ None ]) [ Some left ↦ rw (list_at_map ls k) (e (list_at ls k) left) | None ↦ refl ]
  by_map F G e ls other r = refl

  pub room_map : (F : Value N → Value N) (G : Value M → Value M) → ((v : Value N) → G (maps.value f v) ≡ maps.value f (F v)) → (ls : List (List (Value N))) (d : ℕ) (v : Value N) (r : ℕ)
      → room_after G (map (map (maps.value f)) ls) d (maps.value f v) r ≡ room_after F ls d v r
  unfolding room_after
  room_map F G e ls zero v r = rw (e v) (by_map (λ vs left. None) (λ vs left. None) (λ vs left. refl) ls (F v) r)
  room_map F G e ls (suc d) v r = rw (e v) (by_map (room_behind (λ w left. room_after F ls d w left)) (room_behind (λ w left. room_after G (map (map (maps.value f)) ls) d w left)) (λ vs left. behind_map (λ w left. room_after F ls d w left) (λ w left. room_after G (map (map (maps.value f)) ls) d w left) (λ w left. room_map F G e ls d w left) vs left) ls (F v) r)

module _ {N M W V : Type 0} (f : N → M) (w : W → V) (K : Naming N W) (L : Naming M V) (Fits : Books M → Type 0) (law : Renames f w K L Fits) where
  base : IsKept (Grows Fits)
  base = grows Fits

  under : IsKeptUnder L (Grows Fits)
  under = grows_under L Fits law.before

  -- ---- what is looked at

  entry_map : (ks : List (Known N)) (n : N) → refs.entry_of L (map (maps.known f) ks) (f n) ≡ option_map (maps.known f) (refs.entry_of K ks n)
  unfolding refs.entry_of
  entry_map [] n = refl
  entry_map (k ∷ ks) n = rw (law.same k.name n) (elim (K.same k.name n) as (λ b. elim b [ true ↦ Some (maps.known f k) | false ↦ refs.entry_of L (map (maps.known f) ks) (f n) ] ≡ option_map (maps.known f) (elim b [ true ↦ Some k | false ↦ refs.entry_of K ks n ])) [ true ↦ refl | false ↦ entry_map ks n ])

  standing_map : (ks : List (Known N)) (n : N) → refs.standing_of L (map (maps.known f) ks) (f n) ≡ maps.standing f (refs.standing_of K ks n)
  unfolding refs.standing_of
  standing_map ks n = rw (entry_map ks n) (standing_in_map f (refs.entry_of K ks n))

  host_map : (v : ℕ) (ks : List (Known N)) (n : N) → refs.host_at L v (map (maps.known f) ks) (f n) ≡ refs.host_at K v ks n
  unfolding refs.host_at
  host_map v ks n = rw (entry_map ks n) (host_in_map f v (refs.entry_of K ks n))

  led_map : (on : Value N → Value N) (on' : Value M → Value M) → ((y : Value N) → on' (maps.value f y) ≡ maps.value f (on y)) → (n : N) (st : Standing N) → refs.led L on' (f n) (maps.standing f st) ≡ maps.value f (refs.led K on n st)
  unfolding refs.led
  led_map on on' h n (Viewed q) = h (Ref q)
  led_map on on' h n (Settled y) = h y
  led_map on on' h n other = refl

  follow_map : (d : ℕ) (ks : List (Known N)) (x : Value N) → refs.follow_at L d (map (maps.known f) ks) (maps.value f x) ≡ maps.value f (refs.follow_at K d ks x)
  unfolding refs.follow_at
  follow_map zero ks x = refl
  follow_map (suc d) ks (Ref n) = rw (standing_map ks n) (led_map (λ y. refs.follow_at K d ks y) (λ y. refs.follow_at L d (map (maps.known f) ks) y) (follow_map d ks) n (refs.standing_of K ks n))
  follow_map (suc d) ks _ = refl

  severed_by_map : (h : ℕ) (s : Vat N) (n : N) → refs.severed_by L h (maps.vat f s) (f n) ≡ maps.value f (refs.severed_by K h s n)
  unfolding refs.severed_by
  severed_by_map h s n = elim (is_in h s.noticed) as (λ b. elim b [ true ↦ Broken (codes "partition") | false ↦ Ref (f n) ] ≡ maps.value f (elim b [ true ↦ Broken (codes "partition") | false ↦ Ref n ])) [ true ↦ refl | false ↦ refl ]

  severed_at_map : (s : Vat N) (n : N) (p : Spot) → refs.severed_at L (maps.vat f s) (f n) p ≡ maps.value f (refs.severed_at K s n p)
  unfolding refs.severed_at
  severed_at_map s n (Own i) = refl
  severed_at_map s n (Foreign h) = severed_by_map h s n
  severed_at_map s n NoObject = rw (host_map s.number s.known n) (severed_by_map (refs.host_at K s.number s.known n) s n)

  severed_map : (s : Vat N) (y : Value N) → refs.severed L (maps.vat f s) (maps.value f y) ≡ maps.value f (refs.severed K s y)
  unfolding refs.severed
  severed_map s (Ref n) = rw (law.spot n) (severed_at_map s n (K.spot n))
  severed_map s _ = refl

  followed : (s : Vat N) (x : Value N) → refs.follow L (maps.vat f s) (maps.value f x) ≡ maps.value f (refs.follow K s x)
  unfolding refs.follow
  followed s x = rw (length_map (maps.known f) s.known, follow_map (suc (length s.known)) s.known x) (severed_map s (refs.follow_at K (suc (length s.known)) s.known x))

  -- at the states
  pub same_follow : (x : Value N) (x' : Value M) → x' ≡ maps.value f x → (s : Vat N) → refs.follow L (maps.vat f s) x' ≡ maps.value f (refs.follow K s x)
  same_follow x x' e s = rw e (followed s x)

  hosted_map : (v h : ℕ) (n : N) → refs.hosted L v (f n) h ≡ maps.place f (refs.hosted K v n h)
  unfolding refs.hosted
  hosted_map v h n = elim (v == h) as (λ b. elim b [ true ↦ Mine (f n) | false ↦ Away h (f n) false ] ≡ maps.place f (elim b [ true ↦ Mine n | false ↦ Away h n false ])) [ true ↦ refl | false ↦ refl ]

  spotted_map : (s : Vat N) (n : N) (p : Spot) → refs.spotted L (maps.vat f s) (f n) p ≡ maps.place f (refs.spotted K s n p)
  unfolding refs.spotted
  spotted_map s n NoObject = rw (host_map s.number s.known n) (hosted_map s.number _ n)
  spotted_map s n other = refl

  pub same_place : (y : Value N) (s : Vat N) → refs.place L (maps.vat f s) (maps.value f y) ≡ maps.place f (refs.place K s y)
  unfolding refs.place
  same_place (Ref n) s = rw (law.spot n) (spotted_map s n (K.spot n))
  same_place (Broken p) s = refl
  same_place _ s = refl

  pub same_place_of : (x : Value N) (s : Vat N) → refs.place L (maps.vat f s) (refs.follow L (maps.vat f s) (maps.value f x)) ≡ maps.place f (refs.place K s (refs.follow K s x))
  same_place_of x s = rw (followed s x) (same_place (refs.follow K s x) s)

  shapes_map : (F : Value N → Passed N) (G : Value M → Passed M) → ((v : Value N) → G (maps.value f v) ≡ maps.passed f (F v)) → (vs : List (Value N)) → refs.shapes L G (map (maps.value f) vs) ≡ maps.passeds f (refs.shapes K F vs)
  unfolding refs.shapes
  shapes_map F G e [] = refl
  shapes_map F G e (v ∷ vs) = cc (e v, shapes_map F G e vs)

  shape_by_map : (F : List (Value N) → Passed N) (G : List (Value M) → Passed M) → ((vs : List (Value N)) → G (map (maps.value f) vs) ≡ maps.passed f (F vs)) → (ls : List (List (Value N))) (y : Value N)
      → refs.shape_by L G (map (map (maps.value f)) ls) (maps.value f y) ≡ maps.passed f (refs.shape_by K F ls y)
  unfolding refs.shape_by
  shape_by_map F G e ls (Items k) = rw (list_at_map f ls k) (e (list_at ls k))
  shape_by_map F G e ls _ = refl

  shape_map : (d : ℕ) (s : Vat N) (x : Value N) → refs.shape L d (maps.vat f s) (maps.value f x) ≡ maps.passed f (refs.shape K d s x)
  unfolding refs.shape
  shape_map zero s x = rw (followed s x) (shape_by_map (λ vs. Plain (Broken (codes "too heavy"))) (λ vs. Plain (Broken (codes "too heavy"))) (λ vs. refl) s.lists (refs.follow K s x))
  shape_map (suc d) s x = rw (followed s x) (shape_by_map (λ vs. Many (refs.shapes K (λ v. refs.shape K d s v) vs)) (λ vs. Many (refs.shapes L (λ v. refs.shape L d (maps.vat f s) v) vs))
      (λ vs. ap Many (shapes_map (λ v. refs.shape K d s v) (λ v. refs.shape L d (maps.vat f s) v) (λ v. shape_map d s v) vs)) s.lists (refs.follow K s x))

  parcel_list_map : (s : Vat N) (x : Value N) (o : Option ℕ) → refs.parcel_of_list L (maps.vat f s) (maps.value f x) o ≡ maps.parcel f (refs.parcel_of_list K s x o)
  unfolding refs.parcel_of_list refs.too_heavy
  parcel_list_map s x (Some left) = rw (shape_map highest s x) refl
  parcel_list_map s x None = refl

  parcel_at_map : (s : Vat N) (y : Value N) → refs.parcel_at L (maps.vat f s) (maps.value f y) ≡ maps.parcel f (refs.parcel_at K s y)
  unfolding refs.parcel_at own_weight
  parcel_at_map s (Items k) = rw (room_map f (refs.follow K s) (refs.follow L (maps.vat f s)) (followed s) s.lists highest (Items k) most) (parcel_list_map s (Items k) (room_after (refs.follow K s) s.lists highest (Items k) most))
  parcel_at_map s other = refl

  same_parcel : (x : Value N) (s : Vat N) → refs.parcel L (maps.vat f s) (maps.value f x) ≡ maps.parcel f (refs.parcel K s x)
  unfolding refs.parcel
  same_parcel x s = rw (followed s x) (parcel_at_map s (refs.follow K s x))

  pub any_map : (F : Value N → Bool) (G : Value M → Bool) → ((v : Value N) → G (maps.value f v) ≡ F v) → (vs : List (Value N)) → refs.any_of L G (map (maps.value f) vs) ≡ refs.any_of K F vs
  unfolding refs.any_of
  any_map F G e [] = refl
  any_map F G e (v ∷ vs) = rw (e v) (elim (F v) as (λ b. elim b [ true ↦ true | false ↦ refs.any_of L G (map (maps.value f) vs) ] ≡ elim b [ true ↦ true | false ↦ refs.any_of K F vs ]) [ true ↦ refl | false ↦ any_map F G e vs ])

  reached_map : (F : List (Value N) → Bool) (G : List (Value M) → Bool) → ((vs : List (Value N)) → G (map (maps.value f) vs) ≡ F vs) → (ls : List (List (Value N))) (p : N) (y : Value N)
      → refs.reached L G (map (map (maps.value f)) ls) (f p) (maps.value f y) ≡ refs.reached K F ls p y
  unfolding refs.reached
  reached_map F G e ls p (Items k) = rw (list_at_map f ls k) (e (list_at ls k))
  reached_map F G e ls p (Ref n) = law.same n p
  reached_map F G e ls p _ = refl

  reaches_map : (d : ℕ) (s : Vat N) (p : N) (x : Value N) → refs.reaches L d (maps.vat f s) (f p) (maps.value f x) ≡ refs.reaches K d s p x
  unfolding refs.reaches
  reaches_map zero s p x = refl
  reaches_map (suc d) s p x = rw (followed s x) (reached_map (refs.any_of K (λ v. refs.reaches K d s p v)) (refs.any_of L (λ v. refs.reaches L d (maps.vat f s) (f p) v))
      (any_map (λ v. refs.reaches K d s p v) (λ v. refs.reaches L d (maps.vat f s) (f p) v) (reaches_map d s p)) s.lists p (refs.follow K s x))

  cut_cycle_map : (b : Bool) (y : Value N) → refs.cut_cycle L b (maps.value f y) ≡ maps.value f (refs.cut_cycle K b y)
  unfolding refs.cut_cycle
  cut_cycle_map true y = refl
  cut_cycle_map false y = refl

  same_target : (p : N) (y : Value N) (s : Vat N) → refs.target_of L (maps.vat f s) (f p) (maps.value f y) ≡ maps.value f (refs.target_of K s p y)
  unfolding refs.target_of
  same_target p (Items k) s = rw (length_map (map (maps.value f)) s.lists, reaches_map (suc (length s.lists)) s p (Items k)) (cut_cycle_map (refs.reaches K (suc (length s.lists)) s p (Items k)) (Items k))
  same_target p _ s = refl

  led_wait_map : (on : N → Bool) (on' : M → Bool) → ((q : N) → on' (f q) ≡ on q) → (t : Standing N) → refs.led_by_wait L on' (maps.standing f t) ≡ refs.led_by_wait K on t
  unfolding refs.led_by_wait
  led_wait_map on on' e (WaitsOn q) = e q
  led_wait_map on on' e (Viewed q) = e q
  led_wait_map on on' e other = refl

  waits_map : (d : ℕ) (ks : List (Known N)) (p n : N) → refs.waits_lead L d (map (maps.known f) ks) (f p) (f n) ≡ refs.waits_lead K d ks p n
  unfolding refs.waits_lead
  waits_map zero ks p n = law.same n p
  waits_map (suc d) ks p n = wait_pick (K.same n p) (L.same (f n) (f p)) _ _ (law.same n p) (rw (standing_map ks n) (led_wait_map (λ q. refs.waits_lead K d ks p q) (λ q. refs.waits_lead L d (map (maps.known f) ks) (f p) q) (waits_map d ks p) (refs.standing_of K ks n)))

  same_wait : (p n : N) (s : Vat N) → refs.waits_lead L (length (map (maps.known f) s.known)) (map (maps.known f) s.known) (f p) (f n) ≡ refs.waits_lead K (length s.known) s.known p n
  same_wait p n s = rw (length_map (maps.known f) s.known) (waits_map (length s.known) s.known p n)

  pub same_entry : (p : N) (s : Vat N) → refs.entry_of L (map (maps.known f) s.known) (f p) ≡ option_map (maps.known f) (refs.entry_of K s.known p)
  same_entry p s = entry_map s.known p

  pub same_standing : (p : N) (s : Vat N) → refs.standing_of L (map (maps.known f) s.known) (f p) ≡ maps.standing f (refs.standing_of K s.known p)
  same_standing p s = standing_map s.known p

  pub same_host : (p : N) (s : Vat N) → refs.host_at L s.number (map (maps.known f) s.known) (f p) ≡ refs.host_at K s.number s.known p
  same_host p s = host_map s.number s.known p

  same_length : (s : Vat N) → suc (suc (length (map (maps.known f) s.known))) ≡ suc (suc (length s.known))
  same_length s = ap (λ n. suc (suc n)) (length_map (maps.known f) s.known)

  -- ---- what is done

  pub sim_each : {A B : Type 0} (g : A → B) (k : A → Act N (Unit {0})) (k' : B → Act M (Unit {0})) (xs : List A) → ((x : A) → Sim f Fits id (k x) (k' (g x))) → ((y : B) → Keeps (Grows Fits) (k' y)) → Sim f Fits id (each k xs) (each k' (map g xs))
  unfolding each
  sim_each g k k' [] e b = search sims
  sim_each g k k' (x ∷ xs) e b = let rest = sim_each g k k' xs e b in let grow = keeps_each (Grows Fits) base (map g xs) b in search sims

  -- over a list with no names
  pub sim_each_same : {A : Type 0} (k : A → Act N (Unit {0})) (k' : A → Act M (Unit {0})) (xs : List A) → ((x : A) → Sim f Fits id (k x) (k' x)) → ((y : A) → Keeps (Grows Fits) (k' y)) → Sim f Fits id (each k xs) (each k' xs)
  unfolding each
  sim_each_same k k' [] e b = search sims
  sim_each_same k k' (x ∷ xs) e b = let rest = sim_each_same k k' xs e b in let grow = keeps_each (Grows Fits) base xs b in search sims

  sim_address_plain : (h : ℕ) (y : Value N) (p : Place N) → Sim f Fits (maps.passed f) (refs.address_plain K h y p) (refs.address_plain L h (maps.value f y) (maps.place f p))
  unfolding refs.address_plain
  sim_address_plain h y Near = search sims
  sim_address_plain h y (Gone p) = search sims
  sim_address_plain h y other = search (sims, law, keeps_refs, base, under) depth 12

  mutual
    unfolding refs.address refs.address_all

    sim_address : (h : ℕ) (y : Passed N) → Sim f Fits (maps.passed f) (refs.address K h y) (refs.address L h (maps.passed f y))
    sim_address h (Plain y) = search (sims, same_place, sim_address_plain, keeps_refs, base, under) depth 12
    sim_address h (AGift g i) = search sims
    sim_address h (Many ys) = let rest = sim_address_all h ys in search (sims, keeps_refs, base, under)

    sim_address_all : (h : ℕ) (ys : Passeds N) → Sim f Fits (maps.passeds f) (refs.address_all K h ys) (refs.address_all L h (maps.passeds f ys))
    sim_address_all h NoMore = search sims
    sim_address_all h (More y ys) = let one = sim_address h y in let rest = sim_address_all h ys in let grow = keeps_address_all L (Grows Fits) base under h (maps.passeds f ys) in search (sims, keeps_refs, base, under) depth 12

  sim_address_at : (h : ℕ) (y : Passed N) (y' : Passed M) → y' ≡ maps.passed f y → Sim f Fits (maps.passed f) (refs.address K h y) (refs.address L h y')
  sim_address_at h y y' e = rw e (sim_address h y)

  sim_pass : (h : ℕ) (x : Value N) → Sim f Fits (maps.passed f) (refs.pass K h x) (refs.pass L h (maps.value f x))
  unfolding refs.pass
  sim_pass h x = search (sims, same_parcel, sim_address, keeps_refs, base, under) depth 12

  pub sim_pass_all : (h : ℕ) (xs : List (Value N)) → Sim f Fits (maps.passeds f) (refs.pass_all K h xs) (refs.pass_all L h (map (maps.value f) xs))
  unfolding refs.pass_all
  sim_pass_all h [] = search sims
  sim_pass_all h (x ∷ xs) = let rest = sim_pass_all h xs in let grow = keeps_pass_all L (Grows Fits) base under h (map (maps.value f) xs) in search (sims, sim_pass, keeps_refs, base, under) depth 12

  asks_same : (o : Option N) → is_some (option_map f o) ≡ is_some o
  asks_same (Some a) = refl
  asks_same None = refl

  sim_deliver : (m : Message N) (h : ℕ) (n : N) → Sim f Fits id (refs.deliver K m h n) (refs.deliver L (maps.message f m) h (f n))
  unfolding refs.deliver
  sim_deliver m h n = search (sims, asks_same, sim_pass_all, keeps_refs, base, under) depth 12

  pub sim_wait_on : (p q : N) → Sim f Fits id (refs.wait_on K p q) (refs.wait_on L (f p) (f q))
  unfolding refs.wait_on
  sim_wait_on p q = search (sims, keeps_refs, base, under, law) depth 12

  sim_pass_on : (m : Message N) (h : ℕ) (n : N) → Sim f Fits id (refs.pass_on K m h n) (refs.pass_on L (maps.message f m) h (f n))
  unfolding refs.pass_on
  sim_pass_on m h n = search (sims, sim_deliver, sim_wait_on, keeps_refs, base, under, law) depth 12

  abbrev pub SameSettler : (N → Value N → Act N (Unit {0})) → (M → Value M → Act M (Unit {0})) → Type 0
  SameSettler settle settle' = (p : N) (y : Value N) (p' : M) (y' : Value M) → p' ≡ f p → y' ≡ maps.value f y → Sim f Fits id (settle p y) (settle' p' y')

  abbrev pub GrowingSettler : (M → Value M → Act M (Unit {0})) → Type 0
  GrowingSettler settle = (p : M) (y : Value M) → Keeps (Grows Fits) (settle p y)

  sim_send_to : (settle : N → Value N → Act N (Unit {0})) (settle' : M → Value M → Act M (Unit {0})) → SameSettler settle settle' → GrowingSettler settle' → (m : Message N) (y : Value N) (p : Place N)
      → Sim f Fits id (refs.send_to K settle m y p) (refs.send_to L settle' (maps.message f m) (maps.value f y) (maps.place f p))
  unfolding refs.send_to
  sim_send_to settle settle' g k m y Near = search sims
  sim_send_to settle settle' g k m y (Mine n) = search (sims, law)
  sim_send_to settle settle' g k m y (Away h n o) = search sim_pass_on
  sim_send_to settle settle' g k m y (Gone p) = search (sims, keeps_refs, base, under) depth 14

  pub sim_send_on : (settle : N → Value N → Act N (Unit {0})) (settle' : M → Value M → Act M (Unit {0})) → SameSettler settle settle' → GrowingSettler settle' → (m : Message N) → Sim f Fits id (refs.send_on K settle m) (refs.send_on L settle' (maps.message f m))
  unfolding refs.send_on
  sim_send_on settle settle' g k m = search (sims, same_follow, same_place, sim_send_to, keeps_refs, base, under) depth 12

  sim_inform_of : (p : N) (h : ℕ) (y : Value N) (q : Place N) → Sim f Fits id (refs.inform_of K p h y q) (refs.inform_of L (f p) h (maps.value f y) (maps.place f q))
  unfolding refs.inform_of
  sim_inform_of p h y (Away g n true) = search sims
  sim_inform_of p h y other = search (sims, sim_pass, keeps_refs, base, under) depth 12

  pub sim_inform : (p : N) (h : ℕ) → Sim f Fits id (refs.inform K p h) (refs.inform L (f p) h)
  unfolding refs.inform
  sim_inform p h = search (sims, same_follow, same_place, sim_inform_of, keeps_refs, base, under) depth 12

  sim_enqueue_one : (m : Message N) → Sim f Fits id (enqueue m) (enqueue (maps.message f m))
  sim_enqueue_one m = search sims

  sim_settle_known : (settle : N → Value N → Act N (Unit {0})) (settle' : M → Value M → Act M (Unit {0})) → SameSettler settle settle' → GrowingSettler settle' → (p : N) (y : Value N) (k : Known N)
      → Sim f Fits id (refs.settle_known K settle p y k) (refs.settle_known L settle' (f p) (maps.value f y) (maps.known f k))
  unfolding refs.settle_known
  sim_settle_known settle settle' g b p y k = search (sims, sim_each, sim_each_same, sim_enqueue_one, sim_send_on, sim_inform, keeps_refs, base, under, law) depth 14

  sim_settle_standing : (settle : N → Value N → Act N (Unit {0})) (settle' : M → Value M → Act M (Unit {0})) → SameSettler settle settle' → GrowingSettler settle' → (p : N) (y : Value N) (k : Known N) (t : Standing N)
      → Sim f Fits id (refs.settle_standing K settle p y k t) (refs.settle_standing L settle' (f p) (maps.value f y) (maps.known f k) (maps.standing f t))
  unfolding refs.settle_standing
  sim_settle_standing settle settle' g b p y k (Settled z) = search sims
  sim_settle_standing settle settle' g b p y k other = search sim_settle_known

  sim_settle_entry : (settle : N → Value N → Act N (Unit {0})) (settle' : M → Value M → Act M (Unit {0})) → SameSettler settle settle' → GrowingSettler settle' → (p : N) (y : Value N) (o : Option (Known N))
      → Sim f Fits id (refs.settle_entry K settle p y o) (refs.settle_entry L settle' (f p) (maps.value f y) (option_map (maps.known f) o))
  unfolding refs.settle_entry
  sim_settle_entry settle settle' g b p y None = search sims
  sim_settle_entry settle settle' g b p y (Some k) = sim_settle_standing settle settle' g b p y k k.standing

  settle_one_sim : (settle : N → Value N → Act N (Unit {0})) (settle' : M → Value M → Act M (Unit {0})) → SameSettler settle settle' → GrowingSettler settle' → (p : N) (y : Value N)
      → Sim f Fits id (refs.settle_one K settle p y) (refs.settle_one L settle' (f p) (maps.value f y))
  unfolding refs.settle_one
  settle_one_sim settle settle' g k p y = search (sims, same_target, same_entry, sim_settle_entry, keeps_refs, base, under, law) depth 14

  sim_settle_one : (settle : N → Value N → Act N (Unit {0})) (settle' : M → Value M → Act M (Unit {0})) → SameSettler settle settle' → GrowingSettler settle' → SameSettler (refs.settle_one K settle) (refs.settle_one L settle')
  sim_settle_one settle settle' g k p y p' y' i j = rw (i, j) (settle_one_sim settle settle' g k p y)

  sim_settle_at : (d : ℕ) → SameSettler (refs.settle_at K d) (refs.settle_at L d)
  unfolding refs.settle_at
  sim_settle_at zero p y p' y' i j = search sims
  sim_settle_at (suc d) p y p' y' i j = sim_settle_one (λ q z. refs.settle_at K d q z) (λ q z. refs.settle_at L d q z) (sim_settle_at d) (keeps_settle_at L (Grows Fits) base under d) p y p' y' i j

  pub sim_settle : SameSettler (refs.settle K) (refs.settle L)
  unfolding refs.settle
  sim_settle p y p' y' i j = search (sims, same_length, sim_settle_at, keeps_refs, base, under)

  sim_wait_unless : (p q : N) → Sim f Fits id (refs.wait_unless_cycle K p q) (refs.wait_unless_cycle L (f p) (f q))
  unfolding refs.wait_unless_cycle
  sim_wait_unless p q = search (sims, same_wait, sim_settle, sim_wait_on, keeps_refs, base, under) depth 12

  sim_resolve_to : (p : N) (y : Value N) (q : Place N) → Sim f Fits id (refs.resolve_to K p y q) (refs.resolve_to L (f p) (maps.value f y) (maps.place f q))
  unfolding refs.resolve_to
  sim_resolve_to p y (Mine q) = search sim_wait_unless
  sim_resolve_to p y (Away h q false) = search sim_wait_unless
  sim_resolve_to p y other = search sim_settle

  pub sim_resolve : (p : N) (x : Value N) → Sim f Fits id (refs.resolve K p x) (refs.resolve L (f p) (maps.value f x))
  unfolding refs.resolve
  sim_resolve p x = search (sims, same_follow, same_place, sim_resolve_to, keeps_refs, base, under) depth 12

  -- ---- sending and reacting

  answer_host_map : (v : ℕ) (p : Place N) → refs.answer_host L v (maps.place f p) ≡ refs.answer_host K v p
  unfolding refs.answer_host
  answer_host_map v Near = refl
  answer_host_map v other = refl

  sim_message_at : (h h' : ℕ) → h' ≡ h → Sim f Fits (maps.pair f) (new_message K h) (new_message L h')
  sim_message_at h h' e = rw e (sim_message f w K L Fits law h)

  sim_send_first : (m : Message N) (y : Value N) (p : Place N) → Sim f Fits id (refs.send_first K m y p) (refs.send_first L (maps.message f m) (maps.value f y) (maps.place f p))
  unfolding refs.send_first
  sim_send_first m y (Away h n o) = search sim_deliver
  sim_send_first m y Near = sim_send_to (refs.settle K) (refs.settle L) sim_settle (keeps_settle L (Grows Fits) base under) m y Near
  sim_send_first m y (Mine n) = sim_send_to (refs.settle K) (refs.settle L) sim_settle (keeps_settle L (Grows Fits) base under) m y (Mine n)
  sim_send_first m y (Gone p) = sim_send_to (refs.settle K) (refs.settle L) sim_settle (keeps_settle L (Grows Fits) base under) m y (Gone p)

  pub sim_send : (act : ℕ) (x : Value N) (verb : Words) (args : List (Value N)) → Sim f Fits (maps.value f) (refs.send K act x verb args) (refs.send L act (maps.value f x) verb (map (maps.value f) args))
  unfolding refs.send
  sim_send act x verb args = search (sims, same_follow, same_place, answer_host_map, sim_message_at, sim_send_first, keeps_refs, base, under) depth 14

  pub sim_send_only : (act : ℕ) (x : Value N) (verb : Words) (args : List (Value N)) → Sim f Fits (maps.value f) (refs.send_only K act x verb args) (refs.send_only L act (maps.value f x) verb (map (maps.value f) args))
  unfolding refs.send_only
  sim_send_only act x verb args = search (sims, same_follow, same_place, sim_send_first, keeps_refs, base, under, law) depth 14

  sim_react_at : (m : Message N) (p : Place N) → Sim f Fits id (refs.react_at K m p) (refs.react_at L (maps.message f m) (maps.place f p))
  unfolding refs.react_at
  sim_react_at m (Mine n) = search (sims, law)
  sim_react_at m (Away h n false) = search (sims, law)
  sim_react_at m other = search sims

  pub sim_react : (act : ℕ) (x o near : Value N) → Sim f Fits (maps.value f) (refs.react K act x o near) (refs.react L act (maps.value f x) (maps.value f o) (maps.value f near))
  unfolding refs.react refs.reaction
  sim_react act x o near = search (sims, same_place_of, sim_react_at, keeps_refs, base, under, law) depth 14
