-- What is ahead of a reference is ahead of what passes for it, as the arguments of a message pass.
use Rattle.std.proofs.Common.{◌≡◌, ℕ, zero, suc, Bool, true, false, List, [], ◌∷◌, ◌++◌, Option, Some, None, length, refl, sym, ap, subst, ◌∙◌, ◌⊎◌, inl, inr, ◌==◌, eqb-true, if◌then◌else◌}
use Rattle.std.proofs.lemmas.Bool.{eq-eqb}
use Rattle.std.proofs.lemmas.List.{append-nil, append_assoc}
use Rattle.std.specs.Prelude.{slice_get}
use Rattle.def_machine.specs.Values.{Value, Null, Flag, Number, Letter, Text, Prim, Broken, Items, Ref, Name, Object, Gift, Naming, host_of, key}
use Rattle.def_machine.specs.State.{Known, Standing, Settled, Put, Passed, Passeds, Plain, AGift, Open, ToTell, Vat, Act, ◌>>=◌, ◌>>◌, and_then, give, draw, draws, drawn_at, send_out, alter}
use Rattle.def_machine.specs.State as state
use Rattle.def_machine.specs.Refs as refs
use Rattle.def_machine.specs.Refs.{Place, Near, Mine, Away}
use Rattle.def_run.specs.World.{Script, Event, World, names}
use Rattle.law_fate.specs.Name.Names.{IsAmong, AllOf}
use Rattle.law_order.specs.Ordering.Ways.{Way, Item, End, Mid, Ways, Ahead, nowhere, doomed_there, past_mid}
use Rattle.law_order.specs.Ordering.Ways as lanes
use Rattle.law_order.specs.Ordering.Places.{held_in, held_on, delivered, aimed, leads_at, leads, ways, amid}
use Rattle.law_order.specs.Ordering.Worlds.{AddsOnly, IfGives, IsObject, StandsAlike}
use Rattle.law_order.specs.Ordering.Steps.{StaysReady, LeadsAmid, Grown, IsHeld, next_key}
use Rattle.law_order.specs.Ordering.Order.{passes, all_pass_as}
use Rattle.law_order.proofs.Ordering.Adding.{follow_alike}
use Rattle.law_order.proofs.Ordering.Adds.{stays_quiet, adds_nothing, change_adds}
use Rattle.law_order.proofs.Ordering.Entries.{Differs, as_it_was, changes, differs}
use Rattle.law_order.proofs.Ordering.Standing.{IsQuiet}
use Rattle.law_order.proofs.Ordering.News.{stays_self, stays_then, opened}
use Rattle.law_order.proofs.Ordering.Changes.{growing_keeps}
use Rattle.law_order.proofs.Ordering.Brought.{over_link, passed_home_is_behind, passed_name_is_behind, open_names_lead_home}
use Rattle.law_order.proofs.Ordering.Given.{passed_gift_is_behind}
use Rattle.law_order.specs.History.Passings.{OnGives, IsThere, IsNoVat, CanPass, IsOpenOrLost, BringsBehind, CameAs, AllCame, ArgumentsPassBehind}
use Rattle.law_order.proofs.History.PassWalk as walk
use Rattle.law_order.proofs.History.PassWalk.{map_gives, IsFlat, LeafOf, IsPassing}
use Rattle.law_order.proofs.History.Lost.{broken_leads, cut_leads, nobody_leads}
use Rattle.law_order.proofs.History.Refs.{other_put, PlaceOf, own_object, own_name, of_other, place_is, leads_again}

module _ (script : Script) (honest : ℕ → Bool) (w : World) (v h : ℕ) (r rh : Vat Name) (everyone : (u : ℕ) → honest u ≡ true) (at : slice_get w.vats v ≡ Some r) (there : slice_get w.vats h ≡ Some rh) (number : rh.number ≡ h) (other : h ≡ v → ⊥)
    (plain : (n : Name) → IsObject n → refs.entry_of (names script h) rh.known n ≡ None) where
  abbrev pub K : Naming Name Name
  K = names script v

  abbrev pub W : Vat Name → Ways
  W s = ways script honest (amid v s w)

  abbrev pub Led : Vat Name → Value Name → lanes.Place
  Led s x = LeadsAmid script honest w v s v x

  abbrev pub Can : Vat Name → Type 0
  Can s = CanPass script honest w v h rh s

  abbrev pub Brings : Vat Name → Vat Name → lanes.Place → Name → Type 0
  Brings s t c m = BringsBehind script honest w v h s t c m

  -- ---- what passing does to the vat

  pub record Step (q t : Vat Name) : Type 0 where
    pub stays : StaysReady script honest w v q t
    pub follow : (x : Value Name) → refs.follow K t x ≡ refs.follow K q x
    pub lists : t.lists ≡ q.lists
    pub undrawn : (x : ℕ) → drawn_at zero x t.drawn ≡ None → drawn_at zero x q.drawn ≡ None
    pub holds : (n : Name) → IsHeld script honest w v q (Ref n) → IsHeld script honest w v t (Ref n)
    pub held_before : (x : Value Name) → IsHeld script honest w v t x → IsHeld script honest w v q x
    -- no message moves, and no note is put that delivers one
    pub happened : t.happened ≡ q.happened
    pub queue : t.queue ≡ q.queue
    pub held : (n : Name) → held_in n (refs.entry_of K t.known n) ≡ held_in n (refs.entry_of K q.known n)
    pub puts : List (Put Name)
    pub outbox : t.outbox ≡ q.outbox ++ puts
    pub silent : AllOf (λ p. IsQuiet p.note) puts

  step_self : (q : Vat Name) → Step q q
  step_self q = record { stays = stays_self script honest w v q; follow = λ x. refl; lists = refl; undrawn = λ x e. e; holds = λ n i. i; held_before = λ x i. i; happened = refl; queue = refl; held = λ n. refl; puts = []; outbox = sym (append-nil q.outbox); silent = tt }

  both_silent : (ps rs : List (Put Name)) → AllOf (λ p. IsQuiet p.note) ps → AllOf (λ p. IsQuiet p.note) rs → AllOf (λ p. IsQuiet p.note) (ps ++ rs)
  both_silent [] rs h k = k
  both_silent (p ∷ ps) rs h k = (h.0, both_silent ps rs h.1 k)

  step_then : (q t u : Vat Name) → Step q t → Step t u → Step q u
  step_then q t u a b = record {
    stays = stays_then script honest w v a.stays b.stays;
    follow = λ x. b.follow x ∙ a.follow x;
    lists = b.lists ∙ a.lists;
    undrawn = λ x e. a.undrawn x (b.undrawn x e);
    holds = λ n i. b.holds n (a.holds n i);
    held_before = λ x i. a.held_before x (b.held_before x i);
    happened = b.happened ∙ a.happened;
    queue = b.queue ∙ a.queue;
    held = λ n. b.held n ∙ a.held n;
    puts = a.puts ++ b.puts;
    outbox = b.outbox ∙ ap (λ ps. ps ++ b.puts) a.outbox ∙ append_assoc q.outbox a.puts b.puts;
    silent = both_silent a.puts b.puts a.silent b.silent;
  }

  grown : (q t : Vat Name) → Step q t → Can q → Grown script honest w v q t
  grown q t a c = (a.stays c.ready).1

  can_step : (q t : Vat Name) → Step q t → Can q → Can t
  can_step q t a c = record {
    ready = (a.stays c.ready).0;
    opens = λ x n i e. c.opens x n (a.held_before x i) (sym ((grown q t a c).leading v x) ∙ e);
    vats = λ x g n i e. c.vats x g n (a.held_before x i) (sym ((grown q t a c).leading v x) ∙ e);
    gifts = λ x e u g z f. c.gifts x (a.undrawn x e) u g z f;
  }

  brings_on : (q t u : Vat Name) (c : lanes.Place) (m : Name) → Step t u → Can t → Brings q t c m → Brings q u c m
  brings_on q t u c m a can b x i bs f = (growing_keeps (W t) (W u) (grown t u a can).grows (Mid (Way v h) bs m)).1 x (b x i bs (λ j k. f j ((grown t u a can).grows.stands (Way v h) j k)))

  brings_from : (q t u : Vat Name) (c : lanes.Place) (m : Name) → Step q t → Can q → Brings t u c m → Brings q u c m
  brings_from q t u c m a can b x i = b x ((growing_keeps (W q) (W t) (grown q t a can).grows c).1 x i)

  -- ---- single acts

  kept_entry : (n : Name) (k : Known Name) (o : Option (Known Name)) → StandsAlike n (Some k) o → (j : Known Name) × (o ≡ Some j)
  kept_entry n k (Some j) e = (j, refl)
  kept_entry n k None e = absurd e

  known_before : (n : Name) (k : Known Name) (o : Option (Known Name)) → StandsAlike n o (Some k) → (j : Known Name) × (o ≡ Some j)
  known_before n k (Some j) e = (j, refl)
  known_before n k None e = absurd e

  step_adds : (q t : Vat Name) → AddsOnly K q t → t.messages ≡ q.messages → t.promises ≡ q.promises → t.drawn ≡ q.drawn → t.lists ≡ q.lists → t.happened ≡ q.happened → t.queue ≡ q.queue → t.outbox ≡ q.outbox → ((n : Name) → held_in n (refs.entry_of K t.known n) ≡ held_in n (refs.entry_of K q.known n)) → Step q t
  step_adds q t a m p d l x y o f = record {
    stays = stays_quiet script honest w v q t (a, m, p, d);
    follow = λ x. follow_alike K q t a.alike x;
    lists = l;
    undrawn = λ x e. subst (λ ds. drawn_at zero x ds ≡ None) d e;
    holds = holds;
    held_before = before;
    happened = x;
    queue = y;
    held = f;
    puts = [];
    outbox = o ∙ sym (append-nil q.outbox);
    silent = tt;
  }
    where
      holds : (n : Name) → IsHeld script honest w v q (Ref n) → IsHeld script honest w v t (Ref n)
      holds n (inl i) = inl i
      holds n (inr k) = inr (kept_entry n k.0 (refs.entry_of K t.known n) (subst (λ o. StandsAlike n o (refs.entry_of K t.known n)) k.1 (a.alike.entries n)))

      before_name : (n : Name) → IsObject n ⊎ ((k : Known Name) × (refs.entry_of K t.known n ≡ Some k)) → IsObject n ⊎ ((k : Known Name) × (refs.entry_of K q.known n ≡ Some k))
      before_name n (inl i) = inl i
      before_name n (inr k) = inr (known_before n k.0 (refs.entry_of K q.known n) (subst (λ o. StandsAlike n (refs.entry_of K q.known n) o) k.1 (a.alike.entries n)))

      before : (x : Value Name) → IsHeld script honest w v t x → IsHeld script honest w v q x
      before (Ref n) i = before_name n i
      before Null i = tt
      before (Flag b) i = tt
      before (Number b) i = tt
      before (Letter b) i = tt
      before (Text b) i = tt
      before (Prim b) i = tt
      before (Broken b) i = tt
      before (Items b) i = tt

  told_still : (k : Known Name) → (state.changed (ToTell h) k).held ≡ k.held
  unfolding state.changed state.unless_settled state.changed_to
  told_still k = go k.standing
    where
      go : (p : Standing Name) → (state.unless_settled p k (record k { told = state.with_vat h k.told })).held ≡ k.held
      go (Settled y) = refl
      go other = refl

  told_held : (n : Name) (ks : List (Known Name)) (m : Name) → held_in m (refs.entry_of K (state.with_change K (ToTell h) n ks) m) ≡ held_in m (refs.entry_of K ks m)
  unfolding held_in
  told_held n ks m = go (differs script v (ToTell h) n m ks)
    where
      go : {a b : Option (Known Name)} → Differs script v (ToTell h) n m a b → held_in m b ≡ held_in m a
      go (as_it_was e) = ap (held_in m) e
      go (changes k e f g) = ap (held_in m) g ∙ ap (held_on m) (told_still k) ∙ sym (ap (held_in m) f)

  step_tell : (n : Name) (q : Vat Name) → Step q (record q { known = state.with_change K (ToTell h) n q.known })
  step_tell n q = step_adds q (record q { known = state.with_change K (ToTell h) n q.known }) (change_adds K (ToTell h) n tt q) refl refl refl refl refl refl refl (told_held n q.known)

  step_fuel : (f : ℕ) (q : Vat Name) → Step q (record q { fuel = f })
  step_fuel f q = step_adds q (record q { fuel = f }) (adds_nothing K q (record q { fuel = f }) refl refl refl refl refl refl) refl refl refl refl refl refl refl (λ n. refl)

  -- what was not drawn by the next word was not drawn before it
  undrawn_before : (ds : List ℕ) (d k x : ℕ) → drawn_at k x (ds ++ d ∷ []) ≡ None → drawn_at k x ds ≡ None
  unfolding drawn_at
  undrawn_before [] d k x e = refl
  undrawn_before (c ∷ ds) d k x e = go (x == c) (undrawn_before ds d (suc k) x) e
    where
      go : (b : Bool) → (drawn_at (suc k) x (ds ++ d ∷ []) ≡ None → drawn_at (suc k) x ds ≡ None) → ◌≡◌ {A = Option ℕ} (elim b [ true ↦ Some k | false ↦ drawn_at (suc k) x (ds ++ d ∷ []) ]) None → ◌≡◌ {A = Option ℕ} (elim b [ true ↦ Some k | false ↦ drawn_at (suc k) x ds ]) None
      go true f i = cc
      go false f i = f i

  abbrev Word : Vat Name → ℕ
  Word q = K.word (length q.drawn)

  abbrev LetGo : ℕ → Name → Vat Name → Vat Name
  LetGo g n q = record q { drawn = q.drawn ++ Word q ∷ []; outbox = q.outbox ++ record { to = g; note = Open (key q.number (Word q)) n } ∷ [] }

  held_still : (g : ℕ) (n : Name) (q : Vat Name) (x : Value Name) → IsHeld script honest w v (LetGo g n q) x → IsHeld script honest w v q x
  held_still g n q (Ref m) i = i
  held_still g n q Null i = tt
  held_still g n q (Flag b) i = tt
  held_still g n q (Number b) i = tt
  held_still g n q (Letter b) i = tt
  held_still g n q (Text b) i = tt
  held_still g n q (Prim b) i = tt
  held_still g n q (Broken b) i = tt
  held_still g n q (Items b) i = tt

  step_open : (g : ℕ) (n : Name) (q : Vat Name) → drawn_at zero (Word q) q.drawn ≡ None → Step q (LetGo g n q)
  unfolding refs.follow refs.severed refs.severed_at refs.severed_by refs.host_at delivered
  step_open g n q e = record { stays = opened script honest w v g (Word q) n q e; follow = λ x. refl; lists = refl; undrawn = λ x i. undrawn_before q.drawn (Word q) zero x i; holds = λ m i. i; held_before = held_still g n q; happened = refl; queue = refl; held = λ m. refl; puts = record { to = g; note = Open (key q.number (Word q)) n } ∷ []; outbox = refl; silent = (refl, tt) }

  -- to a gift at a vat that is not there nothing comes
  nobody_behind : (t : Vat Name) (g i : ℕ) (bs : List Item) (a : Name) → (h ≡ g → ⊥) → IsNoVat w g → refs.entry_of (names script h) rh.known (Gift g i) ≡ None → Ahead (W t) a (Mid (Way v h) bs (Gift g i))
  unfolding amid leads
  nobody_behind t g i bs a third none new = past_mid (over_link script honest (amid v t w) v h (Gift g i) a (everyone v) (everyone h)
      (subst (λ (z : Option (Vat Name)). Ahead (W t) a (leads_at script honest h z (Ref (Gift g i)))) (sym (other_put v h t w.vats other ∙ there)) (nobody_leads script honest w v h t rh g i a third none new)))

  -- what leads here to a name of the vat's own is ahead of that name as it passes
  open_behind : (q : Vat Name) (a : Name) (bs : List Item) (n : Name) → host_of n ≡ v → IsOpenOrLost script w v h rh n → Ahead (W q) a (Led q (Ref n)) → Ahead (W q) a (Mid (Way v h) bs n)
  unfolding amid leads
  open_behind q a bs n host (inl o) k = passed_name_is_behind script honest (amid v q w) v h bs n a (everyone v) (everyone h) (open_names_lead_home script honest (amid v q w) v h rh n (other_put v h q w.vats other ∙ there) number other host o) k
  open_behind q a bs n host (inr (inl o)) k = passed_name_is_behind script honest (amid v q w) v h bs n a (everyone v) (everyone h)
      (inr (ap (λ (z : Option (Vat Name)). leads_at script honest h z (Ref n)) (other_put v h q w.vats other ∙ there) ∙ broken_leads script honest h rh n o)) k
  open_behind q a bs n host (inr (inr o)) k = past_mid (subst (λ c. Ahead (W q) a c) (sym (cut_leads script honest everyone w v h q n o)) (doomed_there nowhere))

  -- ---- a name that passes

  -- What passes for a reference stands behind all that was ahead of it.
  abbrev pub BringsName : Vat Name → Vat Name → Name → Name → Type 0
  BringsName q t e m = Brings q t (Led q (Ref e)) m

  -- So it is of what passes for a value.
  record Leaf (q : Vat Name) (x : Value Name) (z : Passed Name) (t : Vat Name) : Type 0 where
    pub step : Step q t
    pub flat : IsFlat z
    pub behind : IsHeld script honest w v q x → (m : Name) → IsAmong m (passes z) → Brings q t (Led q x) m

  passes_name : (m n : Name) → IsAmong m (passes (Plain (Ref n))) → m ≡ n
  unfolding passes
  passes_name m n (inl e) = e
  passes_name m n (inr i) = absurd i

  module _ (q : Vat Name) (can : Can q) (x : Value Name) (n : Name) (e : refs.follow K q x ≡ Ref n) where
    again : IsHeld script honest w v q x → (Led q (Ref n) ≡ Led q x) × (Led q x ≡ aimed v (Ref n) (refs.place K q (Ref n)))
    again i = leads_again script honest w v q can.ready r at x n i e

    -- a name of the vat's own that h does not know, or that waits there
    own_behind : host_of n ≡ v → refs.entry_of (names script h) rh.known n ≡ None → IsHeld script honest w v q x → Brings q q (Led q x) n
    unfolding amid
    own_behind host o i a k bs f = passed_name_is_behind script honest (amid v q w) v h bs n a (everyone v) (everyone h)
        (open_names_lead_home script honest (amid v q w) v h rh n (other_put v h q w.vats other ∙ there) number other host (inl o))
        (subst (λ c. Ahead (W q) a c) (sym (again i).0) k)

    mine_behind : refs.place K q (Ref n) ≡ Mine n → IsHeld script honest w v q x → Brings q q (Led q x) n
    unfolding aimed amid
    mine_behind p i a k bs f =
        let o = can.opens x n i ((again i).1 ∙ ap (aimed v (Ref n)) p) in open_behind q a bs n o.0 o.1 (subst (λ c. Ahead (W q) a c) (sym (again i).0) k)

    home_behind : (o : Bool) → refs.place K q (Ref n) ≡ Away h n o → IsHeld script honest w v q x → Brings q q (Led q x) n
    unfolding aimed
    home_behind o p i a k bs f = passed_home_is_behind (W q) v h bs n a f (subst (λ c. Ahead (W q) a c) ((again i).1 ∙ ap (aimed v (Ref n)) p) k)

    near : refs.place K q (Ref n) ≡ Near → (i : ℕ) → n ≡ Object v i → Leaf q x (Plain (Ref n)) q
    unfolding host_of
    near p i f = record { step = step_self q; flat = tt; behind = λ k m j. subst (λ z. Brings q q (Led q x) z) (sym (passes_name m n j)) (own_behind (ap host_of f) (plain n (subst IsObject (sym f) tt)) k) }

    mine : refs.place K q (Ref n) ≡ Mine n → Leaf q x (Plain (Ref n)) (record q { known = state.with_change K (ToTell h) n q.known })
    mine p = record { step = step_tell n q; flat = tt; behind = λ k m j. subst (λ z. Brings q (record q { known = state.with_change K (ToTell h) n q.known }) (Led q x) z) (sym (passes_name m n j)) (brings_on q q (record q { known = state.with_change K (ToTell h) n q.known }) (Led q x) n (step_tell n q) can (mine_behind p k)) }

    home : (g : ℕ) (o : Bool) → refs.place K q (Ref n) ≡ Away g n o → g ≡ h → Leaf q x (Plain (Ref n)) q
    home g o p f = record { step = step_self q; flat = tt; behind = λ k m j. subst (λ z. Brings q q (Led q x) z) (sym (passes_name m n j)) (home_behind o (p ∙ ap (λ u. Away u n o) f) k) }

    abbrev Given : ℕ → Act Name (Passed Name)
    Given g = draw K >>= (λ i. send_out g (Open i n) >> give (AGift g i))

    module _ (g : ℕ) (o : Bool) (p : refs.place K q (Ref n) ≡ Away g n o) (far : v ≡ g → ⊥) (third : h ≡ g → ⊥) where
      away_leads : IsHeld script honest w v q x → Led q x ≡ End (Way v g) n
      unfolding aimed
      away_leads i = (again i).1 ∙ ap (aimed v (Ref n)) p

      gift_law : drawn_at zero (Word q) q.drawn ≡ None → IsHeld script honest w v q x → (a : Name) → Ahead (W q) a (Led q x) → (bs : List Item) → IsThere w v g → IfGives (λ t. Ahead (W t) a (Mid (Way v h) bs (Gift g (next_key script v q)))) (refs.address_plain K h (Ref n) (Away g n o) q)
      gift_law fresh i a k bs y =
          let l = y.link q.outbox in
          let at_h = can.gifts (Word q) fresh h g rh there in
          let at_g = can.gifts (Word q) fresh g g y.vat y.found in
          let keyed : key v (Word q) ≡ next_key script v q = ap (λ u. key u (Word q)) (sym can.ready.number) in
          passed_gift_is_behind script honest w v h g (Ref n) n a o bs q rh y.vat l.0 (everyone v) (everyone h) (everyone g) (λ e. other (sym e)) far third there number
          (subst (λ d. refs.entry_of (names script h) rh.known (Gift g d) ≡ None) keyed at_h.0) y.found (subst (λ d. refs.entry_of (names script g) y.vat.known (Gift g d) ≡ None) keyed at_g.0)
          (subst (λ d. Rattle.law_order.specs.Ordering.Places.opened_there (Gift g d) y.vat.gifts ≡ false) keyed at_g.1) l.1 can.ready (subst (λ c. Ahead (W q) a c) (away_leads i) k)

      given : (g == h) ≡ false → OnGives (λ z t. Leaf q x z t) (Given g q)
      unfolding draw ◌>>=◌ ◌>>◌ and_then send_out give draws refs.address_plain passes
      given f = go (drawn_at zero (Word q) q.drawn) refl
        where
          law : drawn_at zero (Word q) q.drawn ≡ None → IsHeld script honest w v q x → (a : Name) → Ahead (W q) a (Led q x) → (bs : List Item) → IsThere w v g → IfGives (λ t. Ahead (W t) a (Mid (Way v h) bs (Gift g (next_key script v q)))) (Given g q)
          law fresh i a k bs y = subst (λ b. IfGives (λ t. Ahead (W t) a (Mid (Way v h) bs (Gift g (next_key script v q)))) ((if b then give (Plain (Ref n)) else Given g) q)) f (gift_law fresh i a k bs y)

          go : (d : Option ℕ) → drawn_at zero (Word q) q.drawn ≡ d → OnGives (λ z t. Leaf q x z t) (and_then (draws (Word q) d q) (λ i. send_out g (Open i n) >> give (AGift g i)))
          go (Some j) e = tt
          go None e = record {
            step = step_open g n q e;
            flat = tt;
            behind = λ i m k a l bs b. subst (λ z. Ahead (W (LetGo g n q)) a (Mid (Way v h) bs z)) (sym (passed m k)) (elim (can.vats x g n i (away_leads i)) [
              | inl y ↦ subst (λ d. IfGives {A = Passed Name} (λ t. Ahead (W t) a (Mid (Way v h) bs (Gift g (next_key script v q)))) (and_then (draws (Word q) d q) (λ i. send_out g (Open i n) >> give (AGift g i)))) e (law e i a l bs y)
              | inr y ↦ nobody_behind (LetGo g n q) g (next_key script v q) bs a third y (subst (λ d. refs.entry_of (names script h) rh.known (Gift g d) ≡ None) (ap (λ u. key u (Word q)) (sym can.ready.number)) (can.gifts (Word q) e h g rh there).0)
            ]);
          }
            where
              passed : (m : Name) → IsAmong m (Gift g (next_key script v q) ∷ []) → m ≡ Gift g (next_key script v q)
              passed m (inl i) = i
              passed m (inr i) = absurd i

    leaf_name : OnGives (λ z t. Leaf q x z t) (refs.address_plain K h (Ref n) (refs.place K q (Ref n)) q)
    unfolding refs.address_plain give alter ◌>>◌ and_then
    leaf_name = go (place_is script v q can.ready.number n) refl
      where
        apart : (g : ℕ) (o : Bool) (far : v ≡ g → ⊥) (p : refs.place K q (Ref n) ≡ Away g n o) (b : Bool) → (g == h) ≡ b → OnGives (λ z t. Leaf q x z t) ((if b then give (Plain (Ref n)) else Given g) q)
        apart g o far p true f = home g o p (eqb-true g h f)
        apart g o far p false f = given g o p far (λ i. absurd (let j : (g == h) ≡ true = eq-eqb g h (sym i) in cc)) f

        go : {p : Place Name} → PlaceOf v n p → refs.place K q (Ref n) ≡ p → OnGives (λ z t. Leaf q x z t) (refs.address_plain K h (Ref n) p q)
        go (own_object i f) p = near p i f
        go own_name p = mine p
        go (of_other g o far) p = apart g o far p (g == h) refl

  -- ---- what is followed to no name

  abbrev IsData : Value Name → Type 0
  IsData (Ref n) = ⊥
  IsData Null = Unit {0}
  IsData (Flag b) = Unit {0}
  IsData (Number z) = Unit {0}
  IsData (Letter c) = Unit {0}
  IsData (Text t) = Unit {0}
  IsData (Prim k) = Unit {0}
  IsData (Broken p) = Unit {0}
  IsData (Items k) = Unit {0}

  leaf_data : (q : Vat Name) (x y : Value Name) → IsData y → OnGives (λ z t. Leaf q x z t) (refs.address_plain K h y (refs.place K q y) q)
  unfolding refs.address_plain refs.place give passes
  leaf_data q x (Ref n) i = absurd i
  leaf_data q x other i = record { step = step_self q; flat = tt; behind = λ k m j. absurd j }

  leaf : (q : Vat Name) → Can q → (x y : Value Name) → refs.follow K q x ≡ y → OnGives (λ z t. Leaf q x z t) (refs.address_plain K h y (refs.place K q y) q)
  leaf q can x (Ref n) e = leaf_name q can x n e
  leaf q can x Null e = leaf_data q x Null tt
  leaf q can x (Flag b) e = leaf_data q x (Flag b) tt
  leaf q can x (Number z) e = leaf_data q x (Number z) tt
  leaf q can x (Letter c) e = leaf_data q x (Letter c) tt
  leaf q can x (Text t) e = leaf_data q x (Text t) tt
  leaf q can x (Prim k) e = leaf_data q x (Prim k) tt
  leaf q can x (Broken p) e = leaf_data q x (Broken p) tt
  leaf q can x (Items k) e = leaf_data q x (Items k) tt

  -- ---- all that passes

  leaf_of : (q : Vat Name) (x : Value Name) (z : Passed Name) (t : Vat Name) → Leaf q x z t → LeafOf script honest w v Step BringsName q x z t
  leaf_of q x z t l = record { step = l.step; flat = l.flat; behind = λ e i k m j. subst (λ u. Brings q t (Led q u) m) i (l.behind (subst (IsHeld script honest w v q) (sym i) k) m j) }

  -- one that is followed to y
  pub leaf_passes : (q : Vat Name) → Can q → (x y : Value Name) → refs.follow K q x ≡ y → OnGives (λ z t. LeafOf script honest w v Step BringsName q x z t) (refs.address_plain K h y (refs.place K q y) q)
  leaf_passes q can x y e = map_gives (λ z t. Leaf q x z t) (λ z t. LeafOf script honest w v Step BringsName q x z t) (refs.address_plain K h y (refs.place K q y) q) (leaf q can x y e) (λ z t l. leaf_of q x z t l)

  pub passing : IsPassing script honest w v Step BringsName h Can
  passing = record {
    self = step_self;
    joins = step_then;
    follow = λ a x. a.follow x;
    lists = λ a. a.lists;
    holds = λ a n i. a.holds n i;
    can = can_step;
    fuel = step_fuel;
    on = λ q t u e m a can b. brings_on q t u (Led q (Ref e)) m a can b;
    from = λ q t u e m a can b. subst (λ c. Brings q u c m) ((grown q t a can).leading v (Ref e)) (brings_from q t u (Led t (Ref e)) m a can b);
    leaf = leaf_passes;
  }

  module _ (done : List Event) where
    abbrev pub AllPass : Vat Name → Passeds Name → Passeds Name → Vat Name → Type 0
    AllPass q zs ys t = walk.AllPass script honest w v h Can Step BringsName passing done q zs ys t

    pub passed_all : (zs : Passeds Name) (xs : List (Value Name)) (q : Vat Name) → Can q → ((d : ℕ) → AllCame (λ z x. CameAs script honest w v h d q done z x) zs xs) → OnGives (AllPass q zs) (refs.pass_all K h xs q)
    passed_all zs xs q can c = walk.passed_all script honest w v h Can Step BringsName passing done zs xs q can c

pub arguments_pass_behind : ArgumentsPassBehind
arguments_pass_behind = λ script honest w v h q r s done zs xs everyone at there number other plain can came.
    map_gives (AllPass script honest w v h q r everyone at there number other plain done s zs) (λ ys t. Grown script honest w v s t × ((e m : Name) → IsAmong m (all_pass_as v done e ys zs) → BringsBehind script honest w v h s t (LeadsAmid script honest w v s v (Ref e)) m))
    (refs.pass_all (names script v) h xs s) (passed_all script honest w v h q r everyone at there number other plain done zs xs s can came) (λ ys t p. ((p.step.stays can.ready).1, p.behind))
