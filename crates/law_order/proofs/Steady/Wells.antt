-- In a steady state each settling goes well: in each state of it in which a name settles, that can settle so.
use Rattle.std.proofs.Common.{◌≡◌, ℕ, zero, suc, ◌+◌, ◌*◌, ◌≤◌, Bool, true, false, List, [], ◌∷◌, ◌++◌, Option, Some, None, length, refl, sym, ap, subst, ◌∙◌, ◌⊎◌, inl, inr, arith}
use Rattle.std.specs.Prelude.{slice_get}
use Rattle.def_machine.specs.Values.{Words, Value, Broken, Items, Ref, Name, Object, Answer, Gift, Sent, Msg, Naming, naming, host_of, Spot, Own, Foreign, NoObject}
use Rattle.def_machine.specs.State.{Message, Standing, Unsettled, WaitsOn, Viewed, Settled, Known, Settle, Settles, Lost, GiftEntry, Vat, Done, Gives, WhereSome, ◌>>=◌, ◌>>◌, look, and_then, each, give, begun, with_change, changed}
use Rattle.def_machine.specs.Refs as refs
use Rattle.def_machine.specs.Refs.{Settler, entry_of, standing_of, standing_in}
use Rattle.def_run.specs.Draws.{draw_word}
use Rattle.def_run.specs.World as world
use Rattle.def_run.specs.World.{Script, Link, World, names}
use Rattle.law_machine.specs.Machine.Laws.{SettledStays}
use Rattle.law_machine.specs.Machine.Steps.{After}
use Rattle.law_machine.proofs.Machine.RefsKeeps.{keeps_send_on, keeps_settle_at}
use Rattle.law_machine.proofs.Machine.StepLaws.{settled_law, settled_names}
use Rattle.law_fate.specs.Fates.Fate.{one, total}
use Rattle.law_fate.specs.Fates.Lasting.{Each, HeldWell, NoPromise}
use Rattle.law_fate.specs.Fates.Sound.{ViewsAnother}
use Rattle.law_fate.proofs.Fates.Light.{found_sound}
use Rattle.law_fate.proofs.Fates.PlacesLast.{Global}
use Rattle.law_fate.proofs.Fates.PlacesRefs.{found_well, settle_well}
use Rattle.law_fate.proofs.Fates.PlacesSteps.{global_names}
use Rattle.law_reference.proofs.Gift.Kept.{IsBreak}
use Rattle.law_fate.specs.Name.Names.{AllOf, IsAmong}
use Rattle.law_fate.proofs.Name.Among.{get_put}
use Rattle.law_reference.specs.Reference.Knowing.{onward, onward_all}
use Rattle.law_reference.specs.Reference.Views.{IsOpen}
use Rattle.law_reference.proofs.Reference.Abroad.{away_apart}
use Rattle.law_reference.proofs.Reference.Claims.{Waits}
use Rattle.law_order.specs.Ordering.Ways.{Held, Nowhere, Free, Ways, nowhere}
use Rattle.law_order.specs.Ordering.Turns.{Reroutes, stays_so, said_now, ends_now}
use Rattle.law_order.specs.Ordering.Places.{aimed, by_follow, of_name, leads_in, leads_at, leads, unsettled, released, released_at, onward_at, ways_of, ways, amid}
use Rattle.law_order.specs.Ordering.Settle.{SettlesHere, IsReady, AllOn, aimed_at, led_to, settled_to}
use Rattle.law_order.specs.Ordering.Settlings.{with_line, IsPlain, IsObjectSpot, HonestSpot, IsHonestTo, IsLoose, AnswersAnew, GoesFar, ReadyAt, ReadyFor, CanSettle, LosesWell, SendsWell, WaitsWell, KnownWell}
use Rattle.law_order.specs.Ordering.Steps.{StaysInOrder}
use Rattle.law_order.specs.Ordering.Worlds.{IfGives, IsObject, IsWaiting, StandsAlike, FollowsEnd}
use Rattle.law_order.proofs.Ordering.Amid.{entry_self}
use Rattle.law_order.proofs.Ordering.Entries.{Differs, as_it_was, changes, differs, same_length}
use Rattle.law_order.proofs.Ordering.Sends.{chain, entry_changed}
use Rattle.law_order.specs.Views.Wholes.{ViewWell, StandsLed, EntryLed, SettlesLed}
use Rattle.law_order.proofs.Views.Quiet.{is_name}
use Rattle.law_order.proofs.Views.Wholes.{led_settlings_keep}
use Rattle.law_order.proofs.Views.Settling.{IsOpen as IsLooseStanding, settles as settles_to}
use Rattle.law_order.specs.Waits.Answers.{answered_by, answers, askings, asked_at, waits_at, IsWaitOf}
use Rattle.law_order.proofs.Waits.Classes.{owed_at, fit_at}
use Rattle.law_order.proofs.Waits.Costs as costs
use Rattle.law_order.proofs.Waits.Counts.{one_self, comes_stands}
use Rattle.law_order.proofs.Waits.Room.{share, share_sum, share_most, spent, times}
use Rattle.law_order.proofs.Waits.Room as room
use Rattle.law_order.proofs.Waits.Sends.{IsFit}
use Rattle.law_order.proofs.Waits.Settling as settling
use Rattle.law_order.proofs.Waits.Standing.{waits_or}
use Rattle.law_order.proofs.Steady.Deeper.{settles, sent_as}
use Rattle.law_order.proofs.Steady.Ends.{no_objects, ended_is, follows_end, later_come, later_settle}
use Rattle.law_order.proofs.Steady.Facts.{ready, known_once, hand_host, hand_unsettled, hand_owed, unknown, before, IsClear, ClearSpot, severed_clear, follow_clear, follow_settled}
use Rattle.law_order.proofs.Steady.Staying.{Good, Goes, go_deliver, do_settle, do_send_on, settles_stay}
use Rattle.law_order.proofs.Steady.Steady.{Steady, less, lined, done_at, after_at, settle_steady, settle_few, settle_noticed, send_steady, send_few, send_noticed, then_steady}
use Rattle.law_order.proofs.Steady.Viewed.{target_is, target_ref, no_name_target}

-- ---- how acts end

if_by : (P : Vat Name → Type 0) (d : Done Name (Unit {0})) → ((t : Vat Name) → d ≡ Gives tt t → P t) → IfGives P d
if_by P (Gives tt t) f = f t refl
if_by P other f = tt

-- ---- what names a vat has

entry_head : (b : Bool) (j k : Known Name) (ks : List (Known Name)) (o : Option (Known Name)) → ◌≡◌ {A = Option (Known Name)} (elim b [ true ↦ Some j | false ↦ o ]) (Some k) → (o ≡ Some k → IsAmong k ks) → IsAmong k (j ∷ ks)
entry_head true j k ks o e f = let same : j ≡ k = cc in inl (sym same)
entry_head false j k ks o e f = inr (f e)

pub entry_among : (K : Naming Name Name) (ks : List (Known Name)) (n : Name) (k : Known Name) → entry_of K ks n ≡ Some k → IsAmong k ks
unfolding entry_of
entry_among K [] n k e = cc
entry_among K (j ∷ ks) n k e = entry_head (K.same j.name n) j k ks (entry_of K ks n) e (λ i. entry_among K ks n k i)

pub among_all : {A : Type 0} (P : A → Type 0) (xs : List A) → ((x : A) → IsAmong x xs → P x) → AllOf P xs
among_all P [] f = tt
among_all P (x ∷ xs) f = (f x (inl refl), among_all P xs (λ y a. f y (inr a)))

all_also : {A : Type 0} (P Q : A → Type 0) (xs : List A) → ((x : A) → IsAmong x xs → P x → Q x) → AllOf P xs → AllOf Q xs
all_also P Q [] f h = tt
all_also P Q (x ∷ xs) f h = (f x (inl refl) h.0, all_also P Q xs (λ y a. f y (inr a)) h.1)

among_one : (q : Name) (qs : List Name) → IsAmong q qs → 1 ≤ total (λ (p : Name). one p q) qs
unfolding total
among_one q [] a = absurd a
among_one q (p ∷ qs) (inl e) = let here = one_self p q (sym e) in omega arith
among_one q (p ∷ qs) (inr a) = let rest = among_one q qs a in omega arith

none_each : {A : Type 0} (P : Type 0) (xs : List A) → (P → ⊥) → Each (λ (x : A). P) xs → xs ≡ []
none_each P [] f h = refl
none_each P (x ∷ xs) f h = absurd (f h.0)

all_on : (k : Known Name) (p : Name) (ms : List (Message Name)) → k.name ≡ p → Each (HeldWell k.name) ms → AllOn p ms
all_on k p [] e h = tt
all_on k p (m ∷ ms) e h = (h.0.0 ∙ ap Ref e, all_on k p ms e h.1)

held_on_it : (k : Known Name) (p : Name) (ms : List (Message Name)) → k.name ≡ p → Each (HeldWell k.name) ms → Each (HeldWell p) ms
held_on_it k p ms e h = subst (λ n. Each (HeldWell n) ms) e h

is_loose : (t : Standing Name) → IsWaiting t → IsLooseStanding t
is_loose (Viewed q) h = absurd h
is_loose (Settled y) h = absurd h
is_loose other h = tt

loose_open : (t : Standing Name) → IsLooseStanding t → IsOpen t
loose_open (Settled z) h y e = h
loose_open other h y e = cc

module _ (K : Naming Name Name) (v : ℕ) where
  loose_waits : (t : Standing Name) → IsLooseStanding t → Waits K v t
  loose_waits (Settled z) h = h
  loose_waits other h = tt

-- what holds of a state after an act that keeps it
after_good : (script : Script) (w : World) (v : ℕ) (q : Name) (Stay : Standing Name → Type 0) (hosts : List ℕ) (least : ℕ) {A : Type 0} (s : Vat Name) (d : Done Name A) (a : A) (t : Vat Name) → d ≡ Gives a t → Good script w v q Stay hosts least s → After (Goes script w v q Stay hosts least) s d → Good script w v q Stay hosts least t
after_good script w v q Stay hosts least s d a t e g h = let k : Goes script w v q Stay hosts least s t = subst (λ r. After (Goes script w v q Stay hosts least) s r) e h in k.on g

spares_at : (word : ℕ → ℕ) (v : ℕ) (x : Name) (owed : Bool) (c : ℕ) {A : Type 0} (s : Vat Name) (d : Done Name A) (a : A) (t : Vat Name) → d ≡ Gives a t → After (costs.Spares word v x owed) s d → costs.At word v x owed c s → costs.At word v x owed c t
spares_at word v x owed c s d a t e h g = let k : costs.Spares word v x owed s t = subst (λ r. After (costs.Spares word v x owed) s r) e h in k.at c g

-- what is in hand of a name that is owed is of one that is known
known_by : (word : ℕ → ℕ) (v : ℕ) (a : Name) (c : ℕ) (t : Vat Name) → 1 ≤ c → costs.At word v a (owed_at v a) c t → owed_at v a ≡ true → (k : Known Name) × (entry_of (naming word v) t.known a ≡ Some k)
known_by word v a c t l h e = let fit : IsFit v a (owed_at v a) = fit_at v a in let fits = h.fits in let most = share_most (owed_at v a) (times a t.known) in room.times_found word v a (fit.eventual e) t.known (omega arith)

-- so a name may settle to that
pub data MaySettle (script : Script) (honest : ℕ → Bool) (w : World) (v : ℕ) (p : Name) (y : Value Name) (s : Vat Name) : Type 0 where
  -- It is the vat's own and waits for nothing; nothing is said of where it leads, or it breaks.
  here : host_of p ≡ v → standing_of (names script v) s.known p ≡ Unsettled → IsLoose script honest w v p s ⊎ IsBreak y → MaySettle script honest w v p y s
  -- It waits on a name that settled so, or has that as its view; or it settled.
  asleep : (q : Name) → IsWaitOf q (standing_of (names script v) s.known p) → standing_of (names script v) s.known q ≡ Settled y → MaySettle script honest w v p y s
  -- It waits on a name that is followed to that.
  led : (q : Name) (k : Known Name) → standing_of (names script v) s.known p ≡ WaitsOn q → entry_of (names script v) s.known q ≡ Some k → refs.follow (names script v) s (Ref q) ≡ y → MaySettle script honest w v p y s
  -- It is the vat's own, whatever it waits on, and breaks.
  sinks : host_of p ≡ v → IsWaiting (standing_of (names script v) s.known p) → IsBreak y → MaySettle script honest w v p y s

module _ (script : Script) (honest : ℕ → Bool) (all : (h : ℕ) → honest h ≡ true) (w : World) (v : ℕ) (r : Vat Name) (at : slice_get w.vats v ≡ Some r) where
  abbrev K : Naming Name Name
  K = names script v

  global_here : Global K v
  unfolding names
  global_here = global_names (draw_word script.key) v

  abbrev S : (Name → ℕ) → (Name → ℕ) → Vat Name → Type 0
  S c o s = Steady script w v c o s

  abbrev W : Vat Name → Ways
  W s = ways script honest (amid v s w)

  stands_in : (s : Vat Name) (p : Name) (k : Known Name) → entry_of K s.known p ≡ Some k → standing_of K s.known p ≡ k.standing
  unfolding standing_of standing_in
  stands_in s p k e = ap (λ o. standing_in o) e

  -- ---- what it settles to

  pub clear_plain : (hs : List ℕ) (y : Value Name) → IsClear K hs y → IsPlain K y
  clear_plain hs (Ref n) h = go (K.spot n) h
    where
      go : (q : Spot) → ClearSpot hs q → IsObjectSpot q
      go (Own i) h = tt
      go (Foreign g) h = tt
      go NoObject h = h
  clear_plain hs other h = tt

  pub honest_to : (y : Value Name) → IsHonestTo script honest v y
  honest_to (Ref n) = go (K.spot n)
    where
      go : (q : Spot) → HonestSpot honest v q
      go (Own i) = tt
      go (Foreign g) = (all v, all g)
      go NoObject = tt
  honest_to other = tt

  ready_for : (c o : Name → ℕ) (s : Vat Name) (y : Value Name) → S c o s → IsClear K s.noticed y → ReadyFor script honest w v s y
  ready_for c o s (Ref n) h clear = go (K.spot n) clear
    where
      go : (q : Spot) → ClearSpot s.noticed q → ReadyAt script honest w v s q
      go (Own i) h = tt
      go (Foreign g) i = (ready script w v honest c o s h, i)
      go NoObject h = tt
  ready_for c o s (Items k) h clear = ready script w v honest c o s h
  ready_for c o s other h clear = tt

  target_same : (s : Vat Name) (p : Name) (y : Value Name) → NoPromise y → NoPromise (refs.target_of K s p y)
  unfolding refs.target_of refs.cut_cycle
  target_same s p (Items k) h = go (refs.reaches K (suc (length s.lists)) s p (Items k))
    where
      go : (b : Bool) → NoPromise (refs.cut_cycle K b (Items k))
      go true = tt
      go false = tt
  target_same s p other h = h

  target_clear : (s : Vat Name) (p : Name) (y : Value Name) → IsClear K s.noticed y → IsClear K s.noticed (refs.target_of K s p y)
  unfolding refs.target_of refs.cut_cycle
  target_clear s p (Items k) h = go (refs.reaches K (suc (length s.lists)) s p (Items k))
    where
      go : (b : Bool) → IsClear K s.noticed (refs.cut_cycle K b (Items k))
      go true = tt
      go false = tt
  target_clear s p other h = h

  -- ---- where names lead

  here_now : (s : Vat Name) → slice_get (world.put_at v s w.vats) v ≡ Some s
  here_now s = get_put w.vats v r s at

  unsettled_free : (a : Name) (vs : List (Vat Name)) (ls : List Link) (gs : List (GiftEntry Name)) → owed_at v a ≡ true → unsettled script honest vs ls v a gs ≡ Free
  unfolding unsettled owed_at
  unsettled_free (Gift h i) vs ls gs e = cc
  unsettled_free other vs ls gs e = refl

  -- an answer of the vat, or its root, which waits for nothing
  pub owed_loose : (s : Vat Name) (a : Name) → owed_at v a ≡ true → standing_of K s.known a ≡ Unsettled → IsLoose script honest w v a s
  unfolding ways ways_of amid onward_at released_at released
  owed_loose s a owed e n = let vs = world.put_at v s w.vats in let ls = world.push_all v s.outbox w.links in
      ap (λ o. released_at script honest vs ls v a o) (here_now s) ∙ (ap (λ t. released script honest vs ls v a s.gifts t) e ∙ unsettled_free a vs ls s.gifts owed)

  aimed_nowhere : (s t : Vat Name) (y : Value Name) → ((n : Name) → y ≡ Ref n → ⊥) → aimed_at script v t y ≡ Nowhere
  unfolding aimed_at refs.severed refs.place aimed
  aimed_nowhere s t (Ref n) f = absurd (f n refl)
  aimed_nowhere s t other f = refl

  known_name : (s : Vat Name) (q : Name) (k : Known Name) → of_name script honest v s q (Some k) ≡ by_follow script honest v s (Ref q)
  unfolding of_name
  known_name s (Object g i) k = refl
  known_name s other k = refl

  settled_in : (o : Option (Known Name)) (y : Value Name) → standing_in o ≡ Settled y → (k : Known Name) × (o ≡ Some k)
  unfolding standing_in
  settled_in (Some k) y e = (k, refl)
  settled_in None y e = cc

  known_of : (ks : List (Known Name)) (q : Name) (y : Value Name) → standing_of K ks q ≡ Settled y → (k : Known Name) × (entry_of K ks q ≡ Some k)
  unfolding standing_of
  known_of ks q y e = settled_in (entry_of K ks q) y e

  spotted_same : (s t : Vat Name) (n : Name) (q : Spot) → ClearSpot s.noticed q → refs.spotted K t n q ≡ refs.spotted K s n q
  unfolding refs.spotted
  spotted_same s t n NoObject h = absurd h
  spotted_same s t n other h = refl

  same_place : (s t : Vat Name) (n : Name) → ClearSpot s.noticed (K.spot n) → refs.place K t (Ref n) ≡ refs.place K s (Ref n)
  unfolding refs.place
  same_place s t n clear = spotted_same s t n (K.spot n) clear

  -- what is followed to an object leads to where that does, once more is settled to that
  leads_followed : (s t : Vat Name) (q n : Name) (k : Known Name) → entry_of K s.known q ≡ Some k → refs.follow K s (Ref q) ≡ Ref n → IsClear K s.noticed (Ref n) → t.noticed ≡ s.noticed
      → leads script honest (world.put_at v s w.vats) (world.push_all v s.outbox w.links) v (Ref q) ≡ aimed_at script v t (Ref n)
  unfolding leads leads_at leads_in by_follow aimed_at
  leads_followed s t q n k found followed clear same =
      ap (λ z. leads_at script honest v z (Ref q)) (here_now s) ∙ (ap (λ z. of_name script honest v s q z) found ∙ (known_name s q k ∙ (ap (λ z. aimed v z (refs.place K s z)) followed
      ∙ (ap (λ z. aimed v (Ref n) z) (sym (same_place s t n clear)) ∙ ap (λ z. aimed v z (refs.place K t z)) (sym (severed_clear script v t (Ref n) (subst (λ hs. IsClear K hs (Ref n)) (sym same) clear)))))))

  is_away : (u : Vat Name) (n : Name) (g : ℕ) → K.spot n ≡ Foreign g → refs.place K u (Ref n) ≡ refs.Away g n true
  unfolding refs.place refs.spotted
  is_away u n g e = ap (λ q. refs.spotted K u n q) e

  -- ---- a name can settle

  module _ (c o : Name → ℕ) (s : Vat Name) (p : Name) (k : Known Name) (y : Value Name) (h : S c o s) (found : entry_of K s.known p ≡ Some k) (waits : IsWaiting k.standing) (own : host_of p ≡ v) (last : NoPromise y) (clear : IsClear K s.noticed y) where
    abbrev T : Vat Name
    T = settled_to K s p y

    name_is : k.name ≡ p
    name_is = (found_well K v global_here p k s.known found h.sound.well).1

    known_host : k.host ≡ v
    known_host = let f = found_sound v p K global_here p k s.known found h.sound.names in let g = f.0 in g.host ∙ (ap host_of f.1 ∙ own)

    now : changed (Settle y) k ≡ record k { standing = Settled y; held = []; waiting = []; reactions = []; told = [] }
    now = settles_to y k (is_loose k.standing waits)

    found_then : entry_of K T.known p ≡ Some (changed (Settle y) k)
    found_then = entry_changed K p (Settle y) s.known k found

    some_same : (a b : Known Name) → Some a ≡ Some b → a ≡ b
    some_same a b e = cc

    others : (n : Name) → (n ≡ p) ⊎ (n ≡ p → ⊥) → Differs script v (Settle y) p n (entry_of K s.known n) (entry_of K T.known n) → (n ≡ p) ⊎ ((n ≡ p → ⊥) × StandsAlike n (entry_of K s.known n) (entry_of K T.known n))
    others n (inl e) d = inl e
    others n (inr f) (as_it_was e) = inr (f, subst (λ z. StandsAlike n (entry_of K s.known n) z) (sym e) (entry_self n (entry_of K s.known n)))
    others n (inr f) (changes j e a b) = inl e

    well_then : FollowsEnd K T
    well_then = follows_end script v T (settle_well K v global_here y p s.known last h.sound.well) (later_settle script v y p s.known h.later)

    no_object : IsObject p → ⊥
    no_object i = none_some k (sym (no_objects script v s.known h.sound.well p i) ∙ found)
      where
        none_some : (j : Known Name) → ◌≡◌ {A = Option (Known Name)} None (Some j) → ⊥
        none_some j e = cc

    settles_here : SettlesHere K s T p y v
    settles_here = record {
      only = record {
        number = refl;
        gifts = refl;
        noticed = refl;
        queue = refl;
        outbox = refl;
        names_known = same_length script v (Settle y) p s.known;
        before = (k, found, waits);
        after = (changed (Settle y) k, found_then, ap (λ (j : Known Name). j.standing) now);
        others = λ n. others n (is_name n p) (differs script v (Settle y) p n s.known);
      };
      own = h.sound.same;
      host = λ j e. ap (λ (i : Known Name). i.host) (some_same j k (sym e ∙ found)) ∙ known_host;
      host_after = λ j e. ap (λ (i : Known Name). i.host) (some_same j (changed (Settle y) k) (sym e ∙ found_then)) ∙ (ap (λ (i : Known Name). i.host) now ∙ known_host);
      itself = h.itself;
      plain = no_object;
      ended = ended_is script v y last;
      follows = well_then;
    }

    can_settle : IsReady (W s) v p (aimed_at script v T y) → CanSettle script honest w v y p k s
    can_settle ready_place = (settles_here, all_on k p k.held name_is (found_well K v global_here p k s.known found h.sound.well).0.held, ready_place, ready_for c o s y h clear)

  -- where it waits for nothing, and nothing is said of where it leads
  ready_loose : (s t : Vat Name) (p : Name) (y : Value Name) → IsLoose script honest w v p s → IsReady (W s) v p (aimed_at script v t y)
  ready_loose s t p y loose n = subst (λ c. Reroutes (W s) (led_to (W s) v p (aimed_at script v t y)) c (aimed_at script v t y)) (sym (loose n)) said_now

  -- where what comes is lost
  ready_lost : (s t : Vat Name) (p : Name) (y : Value Name) → ((n : Name) → y ≡ Ref n → ⊥) → IsReady (W s) v p (aimed_at script v t y)
  ready_lost s t p y f n = subst (λ e. Reroutes (W s) (led_to (W s) v p e) ((W s).onward (Held v p) n) e) (sym (aimed_nowhere s t y f)) (ends_now nowhere)

  waits_leads : (s : Vat Name) (p q : Name) (n : Name) → standing_of K s.known p ≡ WaitsOn q → (W s).onward (Held v p) n ≡ leads script honest (world.put_at v s w.vats) (world.push_all v s.outbox w.links) v (Ref q)
  unfolding ways ways_of amid onward_at released_at released
  waits_leads s p q n e = let vs = world.put_at v s w.vats in let ls = world.push_all v s.outbox w.links in
      ap (λ o. released_at script honest vs ls v p o) (here_now s) ∙ ap (λ t. released script honest vs ls v p s.gifts t) e

  -- where it waits on a name that is followed to that object
  ready_waits : (s t : Vat Name) (p q n : Name) (k : Known Name) → standing_of K s.known p ≡ WaitsOn q → entry_of K s.known q ≡ Some k → refs.follow K s (Ref q) ≡ Ref n → IsClear K s.noticed (Ref n) → t.noticed ≡ s.noticed → IsReady (W s) v p (aimed_at script v t (Ref n))
  ready_waits s t p q n k e found followed clear same m = let e0 = aimed_at script v t (Ref n) in
      subst (λ x. Reroutes (W s) (led_to (W s) v p e0) x e0) (sym (waits_leads s p q m e ∙ leads_followed s t q n k found followed clear same)) stays_so

  -- ---- what is asked of a settling with d settlings inside

  abbrev Mays : Name → Value Name → Vat Name → Type 0
  Mays p y s = MaySettle script honest w v p y s

  abbrev Room : ℕ → Vat Name → Type 0
  Room d s = d ≤ suc (suc (length s.known))

  pub record Led (d : ℕ) : Type 0 where
    pub so : (y : Value Name) → NoPromise y → (c o : Name → ℕ) (p : Name) (s : Vat Name) → IsClear K s.noticed y → S (λ x. share (owed_at v x) (one p x) + c x) o s → Room d s → Mays p y s → SettlesLed script honest w v y d p s

  module _ (d : ℕ) (ih : Led d) (y : Value Name) (last : NoPromise y) (p : Name) where
    abbrev R : Name → Vat Name → Type 0
    R q t = SettlesLed script honest w v y d q t

    abbrev Inner : Settler {N = Name} {W = Name} K
    Inner = λ q x. refs.settle_at K d q x

    -- what waits on p
    abbrev Sleep : List Name → Vat Name → Type 0
    Sleep qs u = AllOf (λ (q : Name). IsWaitOf p (standing_of K u.known q)) qs

    -- the name settled so
    abbrev Rests : Vat Name → Type 0
    Rests u = (k : Known Name) × (entry_of K u.known p ≡ Some k) × (k.standing ≡ Settled y)

    rests_so : (u : Vat Name) → Rests u → standing_of K u.known p ≡ Settled y
    rests_so u k = stands_in u p k.0 k.1 ∙ k.2

    rests_on : (u t : Vat Name) → SettledStays K u t → Rests u → Rests t
    rests_on u t f k = (k.0, f p k.0 y k.1 k.2, k.2)

    -- in hand: these messages, and these names
    abbrev Cost : List (Message Name) → List Name → (Name → ℕ) → Name → ℕ
    Cost ms qs c x = 2 * total (answers x) ms + (share (owed_at v x) (total (λ (q : Name). one q x) qs) + c x)

    abbrev Claim : List (Message Name) → (Name → ℕ) → Name → ℕ
    Claim ms o x = onward_all v x ms + o x

    spent_wait : (t : Standing Name) → IsWaitOf p t → spent t ≡ 1
    unfolding spent
    spent_wait Unsettled h = absurd h
    spent_wait other h = refl

    -- no message is to give the value of a name that waits and is in hand
    asks_by : (c o : Name → ℕ) (ms : List (Message Name)) (qs : List Name) (u : Vat Name) (q : Name) → (b : Bool) → owed_at v q ≡ b → IsAmong q qs → IsWaitOf p (standing_of K u.known q) → S (Cost ms qs c) o u → (askings q u ≡ 0) × (total (answers q) ms ≡ 0)
    unfolding askings share room.burden names
    asks_by c o ms qs u q true e a sleeps h = let r = h.room q in let fits = r.fits in let few = known_once script w v (Cost ms qs c) o u h q in let one_there = among_one q qs a in
        let is : spent (standing_of (naming (draw_word script.key) v) u.known q) ≡ 1 = spent_wait (standing_of (naming (draw_word script.key) v) u.known q) sleeps in
        let b1 : share (owed_at v q) (room.burden (draw_word script.key) v q u.known) ≡ room.burden (draw_word script.key) v q u.known = ap (λ z. share z (room.burden (draw_word script.key) v q u.known)) e in
        let b2 : share (owed_at v q) (total (λ (n : Name). one n q) qs) ≡ total (λ (n : Name). one n q) qs = ap (λ z. share z (total (λ (n : Name). one n q) qs)) e in
        let b3 : share (owed_at v q) (times q u.known) ≡ times q u.known = ap (λ z. share z (times q u.known)) e in (omega arith, omega arith)
    asks_by c o ms qs u q false e a sleeps h = let r = h.room q in let fits = r.fits in let b3 : share (owed_at v q) (times q u.known) ≡ 0 = ap (λ z. share z (times q u.known)) e in (omega arith, omega arith)

    asks_none : (c o : Name → ℕ) (ms : List (Message Name)) (qs : List Name) (u : Vat Name) (q : Name) → IsAmong q qs → IsWaitOf p (standing_of K u.known q) → S (Cost ms qs c) o u → (askings q u ≡ 0) × (total (answers q) ms ≡ 0)
    asks_none c o ms qs u q a sleeps h = asks_by c o ms qs u q (owed_at v q) refl a sleeps h

    settled_waits : (z : Value Name) → IsWaitOf p (Settled z)
    settled_waits z = tt

    good_at : (c o : Name → ℕ) (u : Vat Name) (q : Name) → askings q u ≡ 0 → IsWaitOf p (standing_of K u.known q) → S c o u → Good script w v q (IsWaitOf p) u.noticed zero u
    good_at c o u q z i h = record { noticed = refl; draws = h.draws; later = h.later; few = omega arith; asks = z; stay = i }

    -- ---- the names that wait settle

    -- how it goes on where the first of them settled
    pub waits_next : (c o : Name → ℕ) (q : Name) (qs : List Name) (u t : Vat Name) → Rests u → Sleep (q ∷ qs) u → S (Cost [] (q ∷ qs) c) o u → Room d u → IsClear K u.noticed y → refs.settle_at K d q y u ≡ Gives tt t
        → Rests t × Sleep qs t × S (Cost [] qs c) o t × Room d t × IsClear K t.noticed y
    unfolding total
    waits_next c o q qs u t rests sleep h l clear e = let whole : refs.settle K q y u ≡ Gives tt t = settles K d q y u t l e in
        let split : ((x : Name) → share (owed_at v x) (one q x + total (λ (n : Name). one n x) qs) ≡ share (owed_at v x) (one q x) + share (owed_at v x) (total (λ (n : Name). one n x) qs)) = λ x. share_sum (owed_at v x) (one q x) (total (λ (n : Name). one n x) qs) in
        let g : S (λ x. share (owed_at v x) (one q x) + Cost [] qs c x) o u = less script w v (Cost [] (q ∷ qs) c) o (λ x. share (owed_at v x) (one q x) + Cost [] qs c x) o (λ x. let k = split x in omega arith) (λ x. omega arith) u h in
        let few = settle_few script w v (Cost [] qs c) o q y last u t whole g in let same = settle_noticed script w v (Cost [] qs c) o q y last u t whole g in (
          rests_on u t (after_at (SettledStays K) u (refs.settle_at K d q y u) tt t e ((keeps_settle_at K (SettledStays K) (settled_law K) (settled_names K) d q y).after u)) rests,
          all_also (λ (n : Name). IsWaitOf p (standing_of K u.known n)) (λ (n : Name). IsWaitOf p (standing_of K t.known n)) qs
              (λ n a i. (done_at (Good script w v n (IsWaitOf p) u.noticed zero) (refs.settle K q y u) tt t whole ((do_settle script w v n (IsWaitOf p) u.noticed zero settled_waits q y).after u (good_at (Cost [] (q ∷ qs) c) o u n (asks_none c o [] (q ∷ qs) u n (inr a) i h).0 i h))).stay) sleep.1,
          settle_steady script w v (Cost [] qs c) o q y last u t whole g,
          omega arith,
          subst (λ hs. IsClear K hs y) (sym same) clear,
        )

    pub waits_led : (c o : Name → ℕ) (qs : List Name) (u : Vat Name) → Rests u → Sleep qs u → S (Cost [] qs c) o u → Room d u → IsClear K u.noticed y → WaitsWell script honest w v y R Inner p qs u
    unfolding total
    waits_led c o [] u rests sleep h l clear = (follow_settled script v (Cost [] [] c) o w u p y h (rests_so u rests) last clear, follow_clear script v (Cost [] [] c) o w u y h last clear)
    waits_led c o (q ∷ qs) u rests sleep h l clear = (
      ih.so y last c o q u clear (less script w v (Cost [] (q ∷ qs) c) o (λ x. share (owed_at v x) (one q x) + c x) o (λ x. let k = share_sum (owed_at v x) (one q x) (total (λ (n : Name). one n x) qs) in omega arith) (λ x. omega arith) u h) l (asleep p sleep.0 (rests_so u rests)),
      if_by (λ t. WaitsWell script honest w v y R Inner p qs t) (refs.settle_at K d q y u) (λ t e. let k = waits_next c o q qs u t rests sleep h l clear e in waits_led c o qs t k.0 k.1 k.2 k.3 k.4),
    )

    -- ---- what it held is sent on

    module _ (c o : Name → ℕ) (m : Message Name) (ms : List (Message Name)) (qs : List Name) (on_it : HeldWell p m) (u : Vat Name) (rests : Rests u) (h : S (Cost (m ∷ ms) qs c) (Claim (m ∷ ms) o) u) (l : Room d u) (clear : IsClear K u.noticed y) where
      -- with the message itself in hand, and the rest
      one_first : S (λ x. 2 * answers x m + Cost ms qs c x) (λ x. onward v x m.id + Claim ms o x) u
      unfolding total onward_all
      one_first = less script w v (Cost (m ∷ ms) qs c) (Claim (m ∷ ms) o) (λ x. 2 * answers x m + Cost ms qs c x) (λ x. onward v x m.id + Claim ms o x) (λ x. omega arith) (λ x. omega arith) u h

      followed : refs.follow K u m.target ≡ y
      followed = ap (refs.follow K u) on_it.0 ∙ follow_settled script v (Cost (m ∷ ms) qs c) (Claim (m ∷ ms) o) w u p y h (rests_so u rests) last clear

      module _ (a : Name) (has : m.answer ≡ Some a) where
        own_answer : answers a m ≡ 1
        unfolding answers answered_by
        own_answer = ap (answered_by a) has ∙ one_self a a refl

        abbrev Mine : Name → ℕ
        Mine x = 2 * answers x m + Cost ms qs c x

        two : 2 ≤ Mine a
        two = let e = own_answer in omega arith

        open_answer : (askings a u ≡ 0) × (standing_of K u.known a ≡ Unsettled)
        open_answer = hand_unsettled script w v Mine (λ x. onward v x m.id + Claim ms o x) u a one_first two

        hosted : host_of a ≡ v
        hosted = hand_host script w v Mine (λ x. onward v x m.id + Claim ms o x) u a one_first (let t = two in omega arith)

        owed : owed_at v a ≡ true
        owed = hand_owed script w v Mine (λ x. onward v x m.id + Claim ms o x) u a one_first (let t = two in omega arith)

        is_answer : (x : Name) → answers x m ≡ one a x
        unfolding answers answered_by
        is_answer x = ap (answered_by x) has

        -- where it is lost
        breaks : (t : Words) → y ≡ Broken t → SettlesLed script honest w v y d a (with_line u (Lost m.id))
        breaks t e = ih.so y last c' (λ x. onward v x m.id + Claim ms o x) a (with_line u (Lost m.id)) clear (lined script w v (λ x. share (owed_at v x) (one a x) + c' x) (λ x. onward v x m.id + Claim ms o x) u (Lost m.id)
            (less script w v Mine (λ x. onward v x m.id + Claim ms o x) (λ x. share (owed_at v x) (one a x) + c' x) (λ x. onward v x m.id + Claim ms o x) (λ x. let k = is_answer x in let b = share_most (owed_at v x) (one a x) in omega arith) (λ x. omega arith) u one_first))
            l (here hosted open_answer.1 (inr (subst IsBreak (sym e) tt)))
          where
            c' : Name → ℕ
            c' = Cost ms qs c

        -- where it goes out to vat g, with a new answer there
        module _ (g : ℕ) (n : Name) (far : g ≡ v → ⊥) where
          abbrev id : Msg
          id = on_it.1.0

          named : m.id ≡ Sent id
          named = on_it.1.1

          claimed : onward v (Answer g id) (Sent id) ≤ onward v (Answer g id) m.id + Claim ms o (Answer g id)
          claimed = let e = ap (λ z. onward v (Answer g id) z) named in omega arith

          abbrev Came : Vat Name
          Came = record u { known = u.known ++ begun (Answer g id) g ∷ [] }

          came_room : costs.At (draw_word script.key) v a (owed_at v a) (Mine a) Came
          came_room = costs.less (draw_word script.key) v a (owed_at v a) (2 * share (owed_at v a) (one (Answer g id) a) + Mine a) (Mine a) (omega arith) Came (costs.comes_good (draw_word script.key) v a (owed_at v a) (Mine a) u (Answer g id) g (one_first.room a))

          came_stands : standing_of K Came.known a ≡ Unsettled
          unfolding names
          came_stands = comes_stands (draw_word script.key) v (Answer g id) g a u.known ∙ open_answer.1

          came_good : Good script w v a (λ t. t ≡ Unsettled) Came.noticed zero Came
          unfolding askings names
          came_good = let asks = open_answer.0 in let more = room.asked_comes (draw_word script.key) v a (Answer g id) g u.known in
              record { noticed = refl; draws = one_first.draws; later = later_come script v (Answer g id) g u.known one_first.later; few = omega arith; asks = omega arith; stay = came_stands }

          abbrev out : Message Name
          out = record m { answer = Some (Answer g id) }

          -- the answer here is known, and waits for nothing then
          waits_then : (t : Vat Name) → refs.deliver K out g n Came ≡ Gives tt t → (k : Known Name) × (entry_of K t.known a ≡ Some k) × (k.standing ≡ Unsettled) × IsLoose script honest w v a t
          unfolding names
          waits_then t e =
              let good : Good script w v a (λ t. t ≡ Unsettled) Came.noticed zero t = after_good script w v a (λ t. t ≡ Unsettled) Came.noticed zero Came (refs.deliver (naming (draw_word script.key) v) out g n Came) tt t e came_good ((go_deliver script w v a (λ t. t ≡ Unsettled) Came.noticed zero out g n).after Came) in
              let there = known_by (draw_word script.key) v a (Mine a) t (let t2 = two in omega arith) (spares_at (draw_word script.key) v a (owed_at v a) (Mine a) Came (refs.deliver (naming (draw_word script.key) v) out g n Came) tt t e ((settling.spare_deliver (draw_word script.key) v a (owed_at v a) (fit_at v a).eventual out g n).after Came) came_room) owed in
              (there.0, there.1, sym (stands_in t a there.0 there.1) ∙ good.stay, owed_loose t a owed good.stay)

          anew : AnswersAnew script honest w v g n a m u
          anew = record {
            message = id;
            sent = named;
            before = before script w v Mine (λ x. onward v x m.id + Claim ms o x) u g id far one_first claimed;
            unknown = unknown script w v Mine (λ x. onward v x m.id + Claim ms o x) u g id far one_first claimed;
            waits = if_by (λ t. (k : Known Name) × (entry_of K t.known a ≡ Some k) × (k.standing ≡ Unsettled) × IsLoose script honest w v a t) (refs.deliver K out g n Came) waits_then;
          }

      some_loses : (P : Name → Type 0) → ((a : Name) → m.answer ≡ Some a → P a) → WhereSome P m.answer
      some_loses P f = go m.answer refl
        where
          go : (z : Option Name) → m.answer ≡ z → WhereSome P z
          go (Some a) e = f a e
          go None e = tt

      far_by : (n : Name) → y ≡ Ref n → (q : Spot) → K.spot n ≡ q → GoesFar script honest w v n m u q
      unfolding names
      far_by n e (Foreign g) f = (followed ∙ e, some_loses (λ a. AnswersAnew script honest w v g n a m u) (λ a i. anew a i g n (λ j. away_apart v (draw_word script.key) u (Ref n) g n true h.sound.same (is_away u n g f) j)))
      far_by n e other f = tt

      loses_by : (z : Value Name) → y ≡ z → LosesWell script honest w v y R z m u
      loses_by (Broken t) e = (followed ∙ e, some_loses (λ a. R a (with_line u (Lost m.id))) (λ a i. breaks a i t e))
      loses_by (Ref n) e = far_by n e (K.spot n) refl
      loses_by other e = tt

    -- one after the other
    sends_next : (c o : Name → ℕ) (m : Message Name) (ms : List (Message Name)) (qs : List Name) (u t : Vat Name) → HeldWell p m → Rests u → Sleep qs u → S (Cost (m ∷ ms) qs c) (Claim (m ∷ ms) o) u → Room d u → IsClear K u.noticed y → refs.send_on K Inner m u ≡ Gives tt t
        → Rests t × Sleep qs t × S (Cost ms qs c) (Claim ms o) t × Room d t × IsClear K t.noticed y
    unfolding total
    sends_next c o m ms qs u t on_it rests sleep h l clear e = let whole : refs.send_on K (refs.settle K) m u ≡ Gives tt t = sent_as K d m u t l e in let g = one_first c o m ms qs on_it u rests h l clear in
        let few = send_few script w v (Cost ms qs c) (Claim ms o) m on_it.1 u t whole g in let same = send_noticed script w v (Cost ms qs c) (Claim ms o) m on_it.1 u t whole g in (
          rests_on u t (after_at (SettledStays K) u (refs.send_on K Inner m u) tt t e ((keeps_send_on K (SettledStays K) (settled_law K) (settled_names K) Inner (λ q z. keeps_settle_at K (SettledStays K) (settled_law K) (settled_names K) d q z) m).after u)) rests,
          all_also (λ (n : Name). IsWaitOf p (standing_of K u.known n)) (λ (n : Name). IsWaitOf p (standing_of K t.known n)) qs
              (λ n a i. let none = asks_none c (Claim (m ∷ ms) o) (m ∷ ms) qs u n a i h in let asks = none.1 in (done_at (Good script w v n (IsWaitOf p) u.noticed zero) (refs.send_on K (refs.settle K) m u) tt t whole ((do_send_on script w v n (IsWaitOf p) u.noticed zero (refs.settle K) (do_settle script w v n (IsWaitOf p) u.noticed zero settled_waits) m (omega arith)).after u
              (good_at (Cost (m ∷ ms) qs c) (Claim (m ∷ ms) o) u n none.0 i h))).stay) sleep,
          send_steady script w v (Cost ms qs c) (Claim ms o) m on_it.1 u t whole g,
          omega arith,
          subst (λ hs. IsClear K hs y) (sym same) clear,
        )

    -- what it held is sent on, and then what waits settles
    sends_led : (c o : Name → ℕ) (ms : List (Message Name)) (qs : List Name) (u : Vat Name) → Each (HeldWell p) ms → Rests u → Sleep qs u → S (Cost ms qs c) (Claim ms o) u → Room d u → IsClear K u.noticed y
        → SendsWell script honest w v y R Inner ms u × IfGives (λ t. WaitsWell script honest w v y R Inner p qs t) (each (refs.send_on K Inner) ms u)
    unfolding each give ◌>>◌
    sends_led c o [] qs u held rests sleep h l clear = (tt, waits_led c (Claim [] o) qs u rests sleep h l clear)
    sends_led c o (m ∷ ms) qs u held rests sleep h l clear = (
      (loses_by c o m ms qs held.0 u rests h l clear y refl, if_by (λ t. SendsWell script honest w v y R Inner ms t) (refs.send_on K Inner m u) (λ t e. let k = sends_next c o m ms qs u t held.0 rests sleep h l clear e in (sends_led c o ms qs t held.1 k.0 k.1 k.2 k.3 k.4).0)),
      chain (λ t. IfGives (λ z. WaitsWell script honest w v y R Inner p qs z) (each (refs.send_on K Inner) ms t)) (λ t. WaitsWell script honest w v y R Inner p qs t) (refs.send_on K Inner m u) (each (refs.send_on K Inner) ms)
          (if_by (λ t. IfGives (λ z. WaitsWell script honest w v y R Inner p qs z) (each (refs.send_on K Inner) ms t)) (refs.send_on K Inner m u) (λ t e. let k = sends_next c o m ms qs u t held.0 rests sleep h l clear e in (sends_led c o ms qs t held.1 k.0 k.1 k.2 k.3 k.4).1)) (λ t i. i),
    )

    -- ---- the name itself

    module _ (c o : Name → ℕ) (s : Vat Name) (k : Known Name) (found : entry_of K s.known p ≡ Some k) (loose : IsLooseStanding k.standing) (h : S (λ x. share (owed_at v x) (one p x) + c x) o s) (l : Room d s) (clear : IsClear K s.noticed y) where
      abbrev Then : Vat Name
      Then = record s { happened = s.happened ++ Settles p y ∷ []; known = with_change K (Settle y) p s.known }

      abbrev Hand : Name → ℕ
      Hand x = share (owed_at v x) (one p x) + c x

      then_so : S (Cost k.held k.waiting c) (Claim k.held o) Then
      unfolding asked_at waits_at
      then_so = less script w v (λ x. 2 * asked_at x k + (share (owed_at v x) (waits_at x k) + c x)) (λ x. onward_all v x k.held + o x) (Cost k.held k.waiting c) (Claim k.held o) (λ x. omega arith) (λ x. omega arith) Then
          (then_steady script w v c o p y last k s found (loose_open k.standing loose) (loose_waits K v k.standing loose) h)

      rests_then : Rests Then
      rests_then = (changed (Settle y) k, entry_changed K p (Settle y) s.known k found, ap (λ (j : Known Name). j.standing) (settles_to y k loose))

      name_of_k : k.name ≡ p
      name_of_k = (found_well K v global_here p k s.known found h.sound.well).1

      -- what waited on it, by how it stood before
      slept : (q : Name) → IsAmong q k.waiting → IsWaitOf p (standing_of K s.known q)
      slept q a = subst (λ n. IsWaitOf n (standing_of K s.known q)) name_of_k (let r = h.room q in waits_or script v s k q (entry_among K s.known p k found) a (known_once script w v Hand o s h q) r.waiting)

      sleep_then : Sleep k.waiting Then
      sleep_then = among_all (λ (q : Name). IsWaitOf p (standing_of K Then.known q)) k.waiting (λ q a. settles_stay script w v q (IsWaitOf p) s.noticed zero settled_waits y p s.known (slept q a))

      more_names : Room d Then
      more_names = let len : length (with_change K (Settle y) p s.known) ≡ length s.known = same_length script v (Settle y) p s.known in omega arith

      -- where it is the vat's own, and leads nowhere else
      known_led : IsWaiting k.standing → host_of p ≡ v → IsReady (W s) v p (aimed_at script v (settled_to K s p y) y) → KnownWell script honest w v y R Inner p k s
      known_led waits own place = let all_then = sends_led c o k.held k.waiting Then (held_on_it k p k.held name_of_k (found_well K v global_here p k s.known found h.sound.well).0.held) rests_then sleep_then then_so more_names clear in
          (can_settle Hand o s p k y h found waits own last clear place, all_then.0, all_then.1)

      -- where it has a view that settled so
      view_led : (g : Name) → k.standing ≡ Viewed g → standing_of K s.known g ≡ Settled y → ViewWell script honest w v y R Inner p k g s
      unfolding total
      view_led g viewed leads_to = let f = found_sound v p K global_here p k s.known found h.sound.names in let sound = f.0 in let another : (host_of k.name ≡ v → ⊥) = subst (λ q. ViewsAnother v k.name q) viewed sound.viewed in
          let empty : k.held ≡ [] = none_each (host_of k.name ≡ v) k.held another sound.held in record {
            ready = ready script w v honest Hand o s h;
            leads = leads_to;
            empty = empty;
            untold = none_each (host_of k.name ≡ v) k.told another sound.told;
            plain = ended_is script v y last;
            waits = waits_led c o k.waiting Then rests_then sleep_then (less script w v (Cost k.held k.waiting c) (Claim k.held o) (Cost [] k.waiting c) o (λ x. omega arith) (λ x. omega arith) Then then_so) more_names clear;
          }

  -- ---- one more settling inside

  is_ref : (y : Value Name) → ((n : Name) × (y ≡ Ref n)) ⊎ ((n : Name) → y ≡ Ref n → ⊥)
  is_ref (Ref n) = inl (n, refl)
  is_ref other = inr (λ n e. cc)

  break_not : (y : Value Name) → IsBreak y → (n : Name) → y ≡ Ref n → ⊥
  break_not (Broken t) h n e = cc
  break_not other h n e = absurd h

  module _ (d : ℕ) (ih : Led d) (y : Value Name) (last : NoPromise y) (c o : Name → ℕ) (p : Name) (s : Vat Name) (clear : IsClear K s.noticed y) (h : S (λ x. share (owed_at v x) (one p x) + c x) o s) (l : Room (suc d) s) where
    abbrev Z : Value Name
    Z = refs.target_of K s p y

    abbrev Mine_now : Name → ℕ
    Mine_now x = share (owed_at v x) (one p x) + c x

    less_room : Room d s
    less_room = omega arith

    module _ (k : Known Name) (found : entry_of K s.known p ≡ Some k) where
      stood : standing_of K s.known p ≡ k.standing
      stood = stands_in s p k found

      -- it waits on what is followed to that
      place_waits : (q : Name) (j : Known Name) → k.standing ≡ WaitsOn q → entry_of K s.known q ≡ Some j → refs.follow K s (Ref q) ≡ y → ((n : Name) × (y ≡ Ref n)) ⊎ ((n : Name) → y ≡ Ref n → ⊥) → IsReady (W s) v p (aimed_at script v (settled_to K s p Z) Z)
      place_waits q j e i f (inl x) = subst (λ z. IsReady (W s) v p (aimed_at script v (settled_to K s p z) z)) (sym (ap (λ z. refs.target_of K s p z) x.1 ∙ target_ref script honest w v s p x.0)) (ready_waits s (settled_to K s p (Ref x.0)) p q x.0 j (stood ∙ e) i (f ∙ x.1) (subst (IsClear K s.noticed) x.1 clear) refl)
      place_waits q j e i f (inr x) = ready_lost s (settled_to K s p Z) p Z (no_name_target script honest w v s p y x)

      -- so it is where that name settled
      settled_waits_on : (q : Name) → k.standing ≡ WaitsOn q → standing_of K s.known q ≡ Settled y → IsReady (W s) v p (aimed_at script v (settled_to K s p Z) Z)
      settled_waits_on q e f = let j = known_of s.known q y f in place_waits q j.0 e j.1 (follow_settled script v Mine_now o w s q y h f last clear) (is_ref y)

      waits_so : (q : Name) → k.standing ≡ WaitsOn q → IsReady (W s) v p (aimed_at script v (settled_to K s p Z) Z) → StandsLed script honest w v Z (λ x u. SettlesLed script honest w v Z d x u) (λ x z. refs.settle_at K d x z) p k (WaitsOn q) s
      waits_so q e place = known_led d ih Z (target_same s p y last) p c o s k found (subst IsLooseStanding (sym e) tt) h less_room (target_clear s p y clear) (subst IsWaiting (sym e) tt) (h.owners p q (stood ∙ e)) place

      waits_other : (t u : Standing Name) → k.standing ≡ t → standing_of K s.known p ≡ u → t ≡ u
      waits_other t u e i = sym e ∙ (sym stood ∙ i)

      stands_led : (t : Standing Name) → k.standing ≡ t → Mays p y s → StandsLed script honest w v Z (λ q u. SettlesLed script honest w v Z d q u) (λ q x. refs.settle_at K d q x) p k t s
      stands_led (Settled z) e m = tt
      stands_led Unsettled e (here own i (inl loose)) = known_led d ih Z (target_same s p y last) p c o s k found (subst IsLooseStanding (sym e) tt) h less_room (target_clear s p y clear) (subst IsWaiting (sym e) tt) own (ready_loose s (settled_to K s p Z) p Z loose)
      stands_led Unsettled e (here own i (inr breaks)) = known_led d ih Z (target_same s p y last) p c o s k found (subst IsLooseStanding (sym e) tt) h less_room (target_clear s p y clear) (subst IsWaiting (sym e) tt) own (ready_lost s (settled_to K s p Z) p Z (no_name_target script honest w v s p y (break_not y breaks)))
      stands_led Unsettled e (sinks own i b) = known_led d ih Z (target_same s p y last) p c o s k found (subst IsLooseStanding (sym e) tt) h less_room (target_clear s p y clear) (subst IsWaiting (sym e) tt) own (ready_lost s (settled_to K s p Z) p Z (no_name_target script honest w v s p y (break_not y b)))
      stands_led Unsettled e (asleep q i f) = let none : IsWaitOf q Unsettled = subst (IsWaitOf q) (stood ∙ e) i in absurd none
      stands_led Unsettled e (led x j i at f) = absurd (apart (waits_other Unsettled (WaitsOn x) e i))
        where
          apart : ◌≡◌ {A = Standing Name} Unsettled (WaitsOn x) → ⊥
          apart g = cc
      stands_led (WaitsOn q) e (here own i b) = absurd (apart (sym i ∙ (stood ∙ e)))
        where
          apart : ◌≡◌ {A = Standing Name} Unsettled (WaitsOn q) → ⊥
          apart j = cc
      stands_led (WaitsOn q) e (sinks own i b) = waits_so q e (ready_lost s (settled_to K s p Z) p Z (no_name_target script honest w v s p y (break_not y b)))
      stands_led (WaitsOn q) e (asleep x i f) = let same : q ≡ x = subst (IsWaitOf x) (stood ∙ e) i in waits_so q e (settled_waits_on q e (ap (λ n. standing_of K s.known n) same ∙ f))
      stands_led (WaitsOn q) e (led x j i at f) = let same : q ≡ x = one_wait q x (waits_other (WaitsOn q) (WaitsOn x) e i) in waits_so q e (place_waits q j e (ap (λ n. entry_of K s.known n) same ∙ at) (ap (λ n. refs.follow K s (Ref n)) same ∙ f) (is_ref y))
        where
          one_wait : (a b : Name) → ◌≡◌ {A = Standing Name} (WaitsOn a) (WaitsOn b) → a ≡ b
          one_wait a b g = cc
      stands_led (Viewed g) e (here own i b) = absurd (apart (sym i ∙ (stood ∙ e)))
        where
          apart : ◌≡◌ {A = Standing Name} Unsettled (Viewed g) → ⊥
          apart j = cc
      stands_led (Viewed g) e (sinks own i b) = absurd (subst IsWaiting (stood ∙ e) i)
      stands_led (Viewed g) e (asleep x i f) = let same : g ≡ x = subst (IsWaitOf x) (stood ∙ e) i in
          view_led d ih Z (target_same s p y last) p c o s k found (subst IsLooseStanding (sym e) tt) h less_room (target_clear s p y clear) g e (ap (λ n. standing_of K s.known n) same ∙ (f ∙ ap Settled (sym (target_is script honest w v Mine_now o s p g k h found e y))))
      stands_led (Viewed g) e (led x j i at f) = absurd (apart (waits_other (Viewed g) (WaitsOn x) e i))
        where
          apart : ◌≡◌ {A = Standing Name} (Viewed g) (WaitsOn x) → ⊥
          apart a = cc

    entry_led : (z : Option (Known Name)) → entry_of K s.known p ≡ z → Mays p y s → EntryLed script honest w v Z (λ q u. SettlesLed script honest w v Z d q u) (λ q x. refs.settle_at K d q x) p z s
    entry_led None e m = tt
    entry_led (Some k) e m = stands_led k e k.standing refl m

    next_led : Mays p y s → SettlesLed script honest w v y (suc d) p s
    next_led m = entry_led (entry_of K s.known p) refl m

  pub all_led : (d : ℕ) → Led d
  all_led zero = record { so = λ y last c o p s clear h l m. tt }
  all_led (suc d) = record { so = λ y last c o p s clear h l m. next_led d (all_led d) y last c o p s clear h l m }

  -- ---- what a settling keeps

  module _ (y : Value Name) (last : NoPromise y) (c o : Name → ℕ) (p : Name) (s t : Vat Name) (clear : IsClear K s.noticed y) (h : S (λ x. share (owed_at v x) (one p x) + c x) o s) (m : Mays p y s) (e : refs.settle K p y s ≡ Gives tt t) where
    in_order : StaysInOrder script honest w v s t
    unfolding refs.settle ◌>>=◌ and_then look
    in_order = subst (λ z. IfGives (λ u. StaysInOrder script honest w v s u) z) e
        (led_settlings_keep script honest w v r y at (clear_plain s.noticed y clear) (honest_to y) (suc (suc (length s.known))) p s ((all_led (suc (suc (length s.known)))).so y last c o p s clear h (omega arith) m))

    pub settle_keeps : StaysInOrder script honest w v s t × S c o t
    settle_keeps = (in_order, settle_steady script w v c o p y last s t e h)

  -- ---- the names that wait on one that settled, of whatever vat

  module _ (d : ℕ) (y : Value Name) (last : NoPromise y) (p : Name) (c o : Name → ℕ) where
    pub ih : Led d
    ih = all_led d
