-- Two namings: what arrives, and the notice of a cut.
use Rattle.std.proofs.Common.{◌≡◌, ℕ, Bool, true, false, List, [], ◌∷◌, Option, Some, None, refl, map}
use Rattle.std.specs.Prelude.{option_map}
use Rattle.def_machine.specs.Values.{Words, Value, Ref, Naming, IsGift}
use Rattle.def_machine.specs.State.{Message, Standing, Viewed, Settled, Known, Passed, Passeds, Plain, AGift, Many, NoMore, More, Note, Deliver, Open, Ask, SettledTo, Elsewhere, Shorten, GiftEntry, Vat, Act, each, is_gift, Delivery}
use Rattle.def_machine.specs.Refs as refs
use Rattle.def_machine.specs.Refs.{Place, Away}
use Rattle.def_machine.specs.Arrive as arrive
use Rattle.def_machine.specs.Arrive.{Incoming, Old, New, gift_at, opened_in}
use Rattle.def_machine.specs.Maps as maps
use Rattle.def_machine.specs.Maps.{incoming}
use Rattle.law_machine.proofs.Machine.Keeps.{Keeps, IsKept, IsKeptUnder, keeps_each}
use Rattle.law_machine.proofs.Machine.RefsKeeps.{keeps_settle}
use Rattle.law_machine.proofs.Machine.ArriveKeeps.{keeps_arrive_all, keeps_learn_all}
use Rattle.law_machine.proofs.Renamed.Sim.{Books, Renames, Sim, Grows, grows, grows_under, id, sims, bind_name, bind_then, sim_come, sim_gift, sim_give}
use Rattle.law_machine.proofs.Renamed.SimRefs.{same_place_of, same_standing, same_host, sim_settle, sim_resolve, sim_send_on, sim_inform, sim_each}

module _ {N M : Type 0} (f : N → M) where
  gift_map : (p i : ℕ) (gs : List (GiftEntry N)) → gift_at p i (map (maps.gift f) gs) ≡ option_map (maps.gift f) (gift_at p i gs)
  unfolding gift_at is_gift
  gift_map p i [] = refl
  gift_map p i (g ∷ gs) = elim (is_gift p i g) as (λ b. elim b [ true ↦ Some (maps.gift f g) | false ↦ gift_at p i (map (maps.gift f) gs) ] ≡ option_map (maps.gift f) (elim b [ true ↦ Some g | false ↦ gift_at p i gs ])) [ true ↦ refl | false ↦ gift_map p i gs ]

  opened_in_map : (o : Option (GiftEntry N)) → opened_in (option_map (maps.gift f) o) ≡ opened_in o
  unfolding opened_in
  opened_in_map (Some g) = refl
  opened_in_map None = refl

  same_gift : (p i : ℕ) (s : Vat N) → gift_at p i (map (maps.gift f) s.gifts) ≡ option_map (maps.gift f) (gift_at p i s.gifts)
  same_gift p i s = gift_map p i s.gifts

  same_opened : (p i : ℕ) (s : Vat N) → opened_in (gift_at p i (map (maps.gift f) s.gifts)) ≡ opened_in (gift_at p i s.gifts)
  same_opened p i s = rw (gift_map p i s.gifts) (opened_in_map (gift_at p i s.gifts))

module _ {N M W V : Type 0} (f : N → M) (w : W → V) (K : Naming N W) (L : Naming M V) (Fits : Books M → Type 0) (law : Renames f w K L Fits) where
  base : IsKept (Grows Fits)
  base = grows Fits

  under : IsKeptUnder L (Grows Fits)
  under = grows_under L Fits law.before

  -- ---- what is looked at, and what references do

  standings : (p : N) (s : Vat N) → refs.standing_of L (map (maps.known f) s.known) (f p) ≡ maps.standing f (refs.standing_of K s.known p)
  standings p s = same_standing f w K L Fits law p s

  hosts : (p : N) (s : Vat N) → refs.host_at L s.number (map (maps.known f) s.known) (f p) ≡ refs.host_at K s.number s.known p
  hosts p s = same_host f w K L Fits law p s

  places : (x : Value N) (s : Vat N) → refs.place L (maps.vat f s) (refs.follow L (maps.vat f s) (maps.value f x)) ≡ maps.place f (refs.place K s (refs.follow K s x))
  places x s = same_place_of f w K L Fits law x s

  settles : (p : N) (y : Value N) (p' : M) (y' : Value M) → p' ≡ f p → y' ≡ maps.value f y → Sim f Fits id (refs.settle K p y) (refs.settle L p' y')
  settles = sim_settle f w K L Fits law

  resolves : (p : N) (x : Value N) → Sim f Fits id (refs.resolve K p x) (refs.resolve L (f p) (maps.value f x))
  resolves = sim_resolve f w K L Fits law

  resolves_name : (p n : N) → Sim f Fits id (refs.resolve K p (Ref n)) (refs.resolve L (f p) (Ref (f n)))
  resolves_name p n = resolves p (Ref n)

  places_name : (n : N) (s : Vat N) → refs.place L (maps.vat f s) (refs.follow L (maps.vat f s) (Ref (f n))) ≡ maps.place f (refs.place K s (refs.follow K s (Ref n)))
  places_name n s = places (Ref n) s

  informs : (p : N) (h : ℕ) → Sim f Fits id (refs.inform K p h) (refs.inform L (f p) h)
  informs = sim_inform f w K L Fits law

  eachs : {A B : Type 0} (g : A → B) (k : A → Act N (Unit {0})) (k' : B → Act M (Unit {0})) (xs : List A) → ((x : A) → Sim f Fits id (k x) (k' (g x))) → ((y : B) → Keeps (Grows Fits) (k' y)) → Sim f Fits id (each k xs) (each k' (map g xs))
  eachs = sim_each f w K L Fits law

  -- ---- learning

  sim_learn_name : (x : Incoming N W) → Sim f Fits f (arrive.learn_name K x) (arrive.learn_name L (incoming f w x))
  unfolding arrive.learn_name
  sim_learn_name (Old n) = search sims
  sim_learn_name (New x h) = search (sims, law)

  sim_learn_value : (v : Value (Incoming N W)) → Sim f Fits (maps.value f) (arrive.learn_value K v) (arrive.learn_value L (maps.value (incoming f w) v))
  unfolding arrive.learn_value
  sim_learn_value (Ref x) = search (sims, sim_learn_name, keeps_arrive_all, base, under) depth 12
  sim_learn_value other = search sims

  sim_ask_for : (p h i : ℕ) (n : N) → Sim f Fits id (arrive.ask_for K p h i n) (arrive.ask_for L p h i (f n))
  unfolding arrive.ask_for
  sim_ask_for p h i n = search (sims, settles, keeps_arrive_all, base, under) depth 12

  sim_learn_gift : (p h i : ℕ) → Sim f Fits (maps.value f) (arrive.learn_gift K p h i) (arrive.learn_gift L p h i)
  unfolding arrive.learn_gift
  sim_learn_gift p h i = search (sims, sim_ask_for, keeps_arrive_all, base, under, law) depth 12

  sim_make_list : (vs : List (Value N)) → Sim f Fits (maps.value f) (arrive.make_list K vs) (arrive.make_list L (map (maps.value f) vs))
  unfolding arrive.make_list
  sim_make_list vs = search (sims, keeps_arrive_all, base, under) depth 12

  mutual
    unfolding arrive.learn arrive.learn_all

    sim_learn : (p : ℕ) (y : Passed (Incoming N W)) → Sim f Fits (maps.value f) (arrive.learn K p y) (arrive.learn L p (maps.passed (incoming f w) y))
    sim_learn p (Plain y) = search sim_learn_value
    sim_learn p (AGift h i) = search sim_learn_gift
    sim_learn p (Many ys) = let rest = sim_learn_all p ys in search (sims, sim_make_list, keeps_arrive_all, base, under) depth 12

    sim_learn_all : (p : ℕ) (ys : Passeds (Incoming N W)) → Sim f Fits (map (maps.value f)) (arrive.learn_all K p ys) (arrive.learn_all L p (maps.passeds (incoming f w) ys))
    sim_learn_all p NoMore = search sims
    sim_learn_all p (More y ys) = let one = sim_learn p y in let rest = sim_learn_all p ys in let grow = keeps_learn_all L (Grows Fits) base under p (maps.passeds (incoming f w) ys) in search (sims, keeps_arrive_all, base, under) depth 12

  sim_learn_message : (x : Incoming N W) → Sim f Fits f (arrive.learn_message K x) (arrive.learn_message L (incoming f w x))
  unfolding arrive.learn_message
  sim_learn_message (Old n) = search sims
  sim_learn_message (New x h) = search (sims, law)

  -- ---- gifts

  sim_gift_or_new : (v p i : ℕ) (o : Option (GiftEntry N)) → Sim f Fits f (arrive.gift_or_new K v p i o) (arrive.gift_or_new L v p i (option_map (maps.gift f) o))
  unfolding arrive.gift_or_new
  sim_gift_or_new v p i (Some g) = search sims
  sim_gift_or_new v p i None = bind_name f Fits _ _ (sim_come f w K L Fits law (IsGift v i) (IsGift v i) v refl) (λ n. bind_then f Fits (sim_gift f Fits n p i) (sim_give f Fits n (f n) refl) (search (keeps_arrive_all, base))) (λ n. search (keeps_arrive_all, base))

  sim_have_gift : (p i : ℕ) → Sim f Fits f (arrive.have_gift K p i) (arrive.have_gift L p i)
  unfolding arrive.have_gift
  sim_have_gift p i = search (sims, same_gift, sim_gift_or_new, keeps_arrive_all, base, under) depth 12

  sim_break_at : (n : N) (p : Words) (t : Standing N) → Sim f Fits id (arrive.break_at K n p t) (arrive.break_at L (f n) p (maps.standing f t))
  unfolding arrive.break_at
  sim_break_at n p (Settled y) = search sims
  sim_break_at n p other = search settles

  sim_break_unopened : (n : N) (b : Bool) → Sim f Fits id (arrive.break_unopened K n b) (arrive.break_unopened L (f n) b)
  unfolding arrive.break_unopened
  sim_break_unopened n true = search sims
  sim_break_unopened n false = search (sims, standings, sim_break_at, keeps_arrive_all, base, under) depth 12

  sim_tell_asker : (n : N) (h : ℕ) (t : Standing N) → Sim f Fits id (arrive.tell_asker K n h t) (arrive.tell_asker L (f n) h (maps.standing f t))
  unfolding arrive.tell_asker
  sim_tell_asker n h (Settled y) = search informs
  sim_tell_asker n h other = search (sims, law)

  -- ---- arrival

  sim_send_here : (m : Message N) → Sim f Fits id (refs.send_on K (refs.settle K) m) (refs.send_on L (refs.settle L) (maps.message f m))
  sim_send_here m = sim_send_on f w K L Fits law (refs.settle K) (refs.settle L) (sim_settle f w K L Fits law) (keeps_settle L (Grows Fits) base under) m

  sim_send_on_asked : (from : ℕ) (m n : N) (verb : Words) (args : List (Value N)) → Sim f Fits id (arrive.send_on_asked K from m n verb args) (arrive.send_on_asked L from (f m) (f n) verb (map (maps.value f) args))
  unfolding arrive.send_on_asked
  sim_send_on_asked from m n verb args = search (sims, sim_send_here, keeps_arrive_all, base, under, law) depth 16

  sim_deliver : (from : ℕ) (d : Delivery (Incoming N W)) (x : Incoming N W) (verb : Words) (ys : Passeds (Incoming N W)) → Sim f Fits id (arrive.arrive_deliver K from d x verb ys) (arrive.arrive_deliver L from (maps.delivery (incoming f w) d) (incoming f w x) verb (maps.passeds (incoming f w) ys))
  unfolding arrive.arrive_deliver
  sim_deliver from d x verb ys = search (sims, sim_learn_message, sim_learn_all, sim_learn_name, sim_send_on_asked, sim_send_here, keeps_arrive_all, base, under, law) depth 16

  sim_opens : (from i : ℕ) (x : Incoming N W) → Sim f Fits id (arrive.arrive_open K from i x) (arrive.arrive_open L from i (incoming f w x))
  unfolding arrive.arrive_open
  sim_opens from i x = search (sims, sim_learn_name, sim_have_gift, resolves_name, keeps_arrive_all, base, under) depth 14

  sim_break_orphan : (p i : ℕ) (n : N) → Sim f Fits id (arrive.break_orphan K p i n) (arrive.break_orphan L p i (f n))
  unfolding arrive.break_orphan
  sim_break_orphan p i n = search (sims, same_opened, sim_break_unopened, keeps_arrive_all, base, under) depth 14

  sim_ask : (from p i : ℕ) → Sim f Fits id (arrive.arrive_ask K from p i) (arrive.arrive_ask L from p i)
  unfolding arrive.arrive_ask
  sim_ask from p i = search (sims, sim_have_gift, sim_break_orphan, standings, sim_tell_asker, keeps_arrive_all, base, under) depth 14

  sim_settled : (from : ℕ) (x : Incoming N W) (y : Passed (Incoming N W)) → Sim f Fits id (arrive.arrive_settled K from x y) (arrive.arrive_settled L from (incoming f w x) (maps.passed (incoming f w) y))
  unfolding arrive.arrive_settled
  sim_settled from x y = search (sims, sim_learn_name, sim_learn, settles, keeps_arrive_all, base, under) depth 14

  sim_see : (n g : N) → Sim f Fits id (arrive.see K n g) (arrive.see L (f n) (f g))
  unfolding arrive.see
  sim_see n g = search (sims, keeps_arrive_all, base, under, law) depth 12

  sim_gift_there : (v h c i : ℕ) → Sim f Fits f (arrive.gift_there K v h c i) (arrive.gift_there L v h c i)
  unfolding arrive.gift_there
  sim_gift_there v h c i = search (sims, sim_have_gift, keeps_arrive_all, base, under, law) depth 14

  sim_view_there : (n : N) (c : ℕ) → Sim f Fits id (arrive.view_there K n c) (arrive.view_there L (f n) c)
  unfolding arrive.view_there
  sim_view_there n c = search (sims, hosts, sim_gift_there, sim_see, keeps_arrive_all, base, under, law) depth 16

  sim_elsewhere : (x : Incoming N W) (c : ℕ) → Sim f Fits id (arrive.arrive_elsewhere K x c) (arrive.arrive_elsewhere L (incoming f w x) c)
  unfolding arrive.arrive_elsewhere
  sim_elsewhere x c = search (sims, sim_learn_name, settles, sim_view_there, keeps_arrive_all, base, under) depth 14

  sim_shorten_to : (i : ℕ) (p : Place N) → Sim f Fits id (arrive.shorten_to K i p) (arrive.shorten_to L i (maps.place f p))
  unfolding arrive.shorten_to
  sim_shorten_to i (Away h n true) = search sims
  sim_shorten_to i other = search sims

  sim_shorten : (x : Incoming N W) (i : ℕ) → Sim f Fits id (arrive.arrive_shorten K x i) (arrive.arrive_shorten L (incoming f w x) i)
  unfolding arrive.arrive_shorten
  sim_shorten x i = search (sims, sim_learn_name, places_name, sim_shorten_to, keeps_arrive_all, base, under) depth 14

  pub sim_arrive : (from : ℕ) (n : Note (Incoming N W)) → Sim f Fits id (arrive.arrive K from n) (arrive.arrive L from (maps.note (incoming f w) n))
  unfolding arrive.arrive
  sim_arrive from (Deliver m x verb ys) = sim_deliver from m x verb ys
  sim_arrive from (Open i x) = sim_opens from i x
  sim_arrive from (Ask p i x) = sim_ask from p i
  sim_arrive from (SettledTo x y) = sim_settled from x y
  sim_arrive from (Elsewhere x c) = sim_elsewhere x c
  sim_arrive from (Shorten x c i) = sim_shorten x i

  -- ---- notice

  sim_break_hosted : (h : ℕ) (n : N) (p : Words) (t : Standing N) → Sim f Fits id (arrive.break_hosted K h n p t) (arrive.break_hosted L h (f n) p (maps.standing f t))
  unfolding arrive.break_hosted
  sim_break_hosted h n p (Viewed q) = search sims
  sim_break_hosted h n p (Settled y) = search sims
  sim_break_hosted h n p other = search settles

  sim_notice_name : (h : ℕ) (k : Known N) → Sim f Fits id (arrive.notice_name K h k) (arrive.notice_name L h (maps.known f k))
  unfolding arrive.notice_name
  sim_notice_name h k = search (sims, standings, sim_break_hosted, keeps_arrive_all, base, under) depth 12

  sim_notice_gift : (h : ℕ) (g : GiftEntry N) → Sim f Fits id (arrive.notice_gift K h g) (arrive.notice_gift L h (maps.gift f g))
  unfolding arrive.notice_gift
  sim_notice_gift h g = search (sims, sim_break_unopened) depth 12

  sim_notice_all : (h : ℕ) → Sim f Fits id (arrive.notice_all K h) (arrive.notice_all L h)
  unfolding arrive.notice_all
  sim_notice_all h = search (sims, eachs, sim_notice_name, sim_notice_gift, keeps_each, keeps_arrive_all, base, under) depth 16

  pub sim_notice : (h : ℕ) → Sim f Fits id (arrive.notice K h) (arrive.notice L h)
  unfolding arrive.notice
  sim_notice h = search (sims, sim_notice_all, keeps_arrive_all, base, under) depth 12
