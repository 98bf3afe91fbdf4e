-- All that a vat does with references puts gifts under new words alone, each once, and tells of their provider, which is the vat itself.
use Rattle.std.proofs.Common.{◌≡◌, ℕ, zero, suc, Bool, true, false, List, [], ◌∷◌, ◌++◌, Option, Some, None, refl, sym, ◌∙◌, arith, if◌then◌else◌, ◌==◌}
use Rattle.std.specs.Prelude.{nat_le}
use Rattle.std.proofs.lemmas.Bool.{eq-eqb}
use Rattle.def_machine.specs.Values.{Words, Value, Items, Name, Naming, naming, key}
use Rattle.def_machine.specs.State.{Message, Standing, Settled, Known, ToTell, Passed, Passeds, Plain, AGift, Many, NoMore, More, Deliver, Open, SettledTo, Put, Vat, Done, Gives, Throws, Ejects, Stops, Act, ◌>>=◌, ◌>>◌, and_then, give, look, spend, spent, draw, draws, drawn_at, send_out, alter, tell, Posted}
use Rattle.def_machine.specs.Refs as refs
use Rattle.def_machine.specs.Refs.{Place, Mine, Away}
use Rattle.def_machine.specs.Native.{list_at}
use Rattle.law_machine.specs.Machine.Steps.{After}
use Rattle.law_machine.proofs.Machine.Keeps.{Keeps}
use Rattle.def_machine.proofs.Keys.{word_key, provider_key}
use Rattle.law_fate.specs.Name.Names.{IsAmong}
use Rattle.law_fate.proofs.Fates.PlacesLast.{each_end}
use Rattle.law_fate.proofs.Fates.Spares.{IsSparedUnder}
use Rattle.law_reference.specs.Reference.GiftPassing.{gifts_in, gifts_in_all, gifts_in_note, IsProvidedBy, PassesFrom, AllPassFrom, Provides}
use Rattle.law_reference.proofs.Reference.Abroad.{away_abroad}
use Rattle.law_reference.proofs.Reference.Puts.{AllStay, PutsOn, Puts, Fair, Nothing, PutTells, same, then_puts, first_fair, less_fair, fair_trans, spared, drawn_after, key_provided, next_draw, out_end, drawn_up, passes_up, fair}

-- ---- what is followed is no gift yet

abbrev mutual
  IsUnmade : Passed Name → Type 0
  IsUnmade (Plain y) = Unit {0}
  IsUnmade (AGift h i) = ⊥
  IsUnmade (Many ys) = AreUnmade ys

  AreUnmade : Passeds Name → Type 0
  AreUnmade NoMore = Unit {0}
  AreUnmade (More y ys) = IsUnmade y × AreUnmade ys

module _ (K : Naming Name Name) where
  by_unmade : (f : List (Value Name) → Passed Name) (ls : List (List (Value Name))) (y : Value Name) → ((vs : List (Value Name)) → IsUnmade (f vs)) → IsUnmade (refs.shape_by K f ls y)
  unfolding refs.shape_by
  by_unmade f ls (Items k) h = h (list_at ls k)
  by_unmade f ls other h = tt

  shapes_unmade : (f : Value Name → Passed Name) (vs : List (Value Name)) → ((y : Value Name) → IsUnmade (f y)) → AreUnmade (refs.shapes K f vs)
  unfolding refs.shapes
  shapes_unmade f [] h = tt
  shapes_unmade f (y ∷ vs) h = (h y, shapes_unmade f vs h)

  shape_unmade : (d : ℕ) (s : Vat Name) (x : Value Name) → IsUnmade (refs.shape K d s x)
  unfolding refs.shape
  shape_unmade zero s x = by_unmade _ s.lists (refs.follow K s x) (λ vs. tt)
  shape_unmade (suc d) s x = by_unmade _ s.lists (refs.follow K s x) (λ vs. shapes_unmade (λ y. refs.shape K d s y) vs (λ y. shape_unmade d s y))

  of_list_unmade : (s : Vat Name) (x : Value Name) (o : Option ℕ) → IsUnmade (refs.parcel_of_list K s x o).value
  unfolding refs.parcel_of_list refs.too_heavy
  of_list_unmade s x (Some left) = shape_unmade refs.highest s x
  of_list_unmade s x None = tt

  at_unmade : (s : Vat Name) (y : Value Name) → IsUnmade (refs.parcel_at K s y).value
  unfolding refs.parcel_at
  at_unmade s (Items k) = of_list_unmade s (Items k) _
  at_unmade s other = tt

  parcel_unmade : (s : Vat Name) (x : Value Name) → IsUnmade (refs.parcel K s x).value
  unfolding refs.parcel
  parcel_unmade s x = at_unmade s (refs.follow K s x)

true_false : true ≡ false → ⊥
true_false e = cc

module _ (v : ℕ) (d0 : List ℕ) (F : ℕ → ℕ) (fresh : (x : ℕ) → (IsAmong x d0 → ⊥) → F x ≡ v) (word : ℕ → ℕ) where
  abbrev K : Naming Name Name
  K = naming word v

  abbrev R : Vat Name → Vat Name → Type 0
  R = Fair v d0 F

  apart : (h : ℕ) → (v == h) ≡ false → h ≡ v → ⊥
  apart h e i = true_false (sym (eq-eqb v h (sym i)) ∙ e)

  apart_from : (h w : ℕ) → (h == w) ≡ false → h ≡ w → ⊥
  apart_from h w e i = true_false (sym (eq-eqb h w i) ∙ e)

  -- ---- what is given passes, and is in hand

  abbrev Yields : {A : Type 0} → (A → ℕ → ℕ) → (A → List ℕ → Type 0) → Vat Name → Done Name A → Type 0
  Yields c Ok s (Gives a t) = Puts v d0 F (c a) (Ok a) s t
  Yields c Ok s (Throws p t) = R s t
  Yields c Ok s (Ejects n y t) = R s t
  Yields c Ok s (Stops z t) = R s t

  yields_bind : {A B : Type 0} (c : A → ℕ → ℕ) (Ok : A → List ℕ → Type 0) (e : B → ℕ → ℕ) (Ok' : B → List ℕ → Type 0) (s : Vat Name) (d : Done Name A) (f : A → Act Name B) → Yields c Ok s d → ((a : A) (t : Vat Name) → Puts v d0 F (c a) (Ok a) s t → Yields e Ok' s (f a t)) → Yields e Ok' s (and_then d f)
  unfolding and_then
  yields_bind c Ok e Ok' s (Gives a t) f h k = k a t h
  yields_bind c Ok e Ok' s other f h k = h

  -- with something done before it
  yields_widen : {A : Type 0} (c : A → ℕ → ℕ) (Ok : A → List ℕ → Type 0) (s t : Vat Name) → R s t → (d : Done Name A) → Yields c Ok t d → Yields c Ok s d
  yields_widen c Ok s t r (Gives a u) h = first_fair v d0 F (c a) (Ok a) s t u r h
  yields_widen c Ok s t r other h = fair_trans v d0 F r h

  abbrev In : Passed Name → ℕ → ℕ
  In y i = gifts_in i y

  abbrev InAll : Passeds Name → ℕ → ℕ
  InAll ys i = gifts_in_all i ys

  abbrev Ok : ℕ → Passed Name → List ℕ → Type 0
  Ok w y d = PassesFrom F d v w y

  abbrev AllOk : ℕ → Passeds Name → List ℕ → Type 0
  AllOk w ys d = AllPassFrom F d v w ys

  plain : (w : ℕ) (s : Vat Name) (y : Value Name) → Puts v d0 F (In (Plain y)) (Ok w (Plain y)) s s
  unfolding gifts_in
  plain w s y = same v d0 F s

  told_plain : (w : ℕ) (n : Name) (y : Value Name) (s : Vat Name) → Yields In (Ok w) s ((alter K (ToTell w) n >> give (Plain y)) s)
  unfolding alter give ◌>>◌ and_then gifts_in
  told_plain w n y s = same v d0 F s

  -- a name of a third vat passes as a gift under a new word
  given : (w h : ℕ) (n : Name) (s : Vat Name) (x : ℕ) → drawn_at zero x s.drawn ≡ None → (s.number ≡ v → (v == h) ≡ false) → (h == w) ≡ false
      → Puts v d0 F (In (AGift h (key s.number x))) (Ok w (AGift h (key s.number x))) s (record s { drawn = s.drawn ++ x ∷ []; outbox = s.outbox ++ record { to = h; note = Open (key s.number x) n } ∷ [] })
  unfolding gifts_in gifts_in_note
  given w h n s x new far other = let d = drawn_after v d0 F s x in let k : ℕ = key s.number x in record {
    number = λ e. e;
    drawn = d.drawn;
    count = λ i. let a = out_end i s.outbox (record { to = h; note = Open k n }) in let b = next_draw i k x s.drawn (word_key s.number x) new in omega arith;
    outs = λ e l o. each_end (PutTells v d0 F (s.drawn ++ x ∷ [])) s.outbox (record { to = h; note = Open k n }) (d.outs e l o) (provided e l);
    gifts = d.gifts;
    once = d.once;
    ok = λ e l. (provided e l, apart h (far e), apart_from h w other);
  }
    where
      provided : s.number ≡ v → AllStay d0 s.drawn → IsProvidedBy F (s.drawn ++ x ∷ []) (key s.number x) v
      provided e l = key_provided v d0 F v fresh s.drawn (key s.number x) x l new (word_key s.number x) (provider_key s.number x ∙ e)

  draws_given : (w h : ℕ) (n : Name) (s : Vat Name) (x : ℕ) (o : Option ℕ) → drawn_at zero x s.drawn ≡ o → (s.number ≡ v → (v == h) ≡ false) → (h == w) ≡ false → Yields In (Ok w) s (and_then (draws x o s) (λ i. send_out h (Open i n) >> give (AGift h i)))
  unfolding draws send_out give ◌>>◌ and_then
  draws_given w h n s x (Some j) new far other = record { puts = same v d0 F s }
  draws_given w h n s x None new far other = given w h n s x new far other

  away_given : (w h : ℕ) (n : Name) (y : Value Name) (s : Vat Name) (b : Bool) → (s.number ≡ v → (v == h) ≡ false) → (h == w) ≡ b → Yields In (Ok w) s ((if b then give (Plain y) else (draw K >>= (λ i. send_out h (Open i n) >> give (AGift h i)))) s)
  unfolding draw give ◌>>=◌
  away_given w h n y s true far e = plain w s y
  away_given w h n y s false far e = draws_given w h n s _ _ refl far e

  place_given : (w : ℕ) (y : Value Name) (s : Vat Name) (p : Place Name) → refs.place K s y ≡ p → Yields In (Ok w) s (refs.address_plain K w y p s)
  unfolding refs.address_plain give
  place_given w y s (Away h n o) e = away_given w h n y s (h == w) (λ f. away_abroad v word s y h n o f e) refl
  place_given w y s (Mine n) e = told_plain w n y s
  place_given w y s other e = plain w s y

  -- two of them
  both : (w : ℕ) (y : Passed Name) (ys : Passeds Name) (s t u : Vat Name) → Puts v d0 F (In y) (Ok w y) s t → Puts v d0 F (InAll ys) (AllOk w ys) t u → Puts v d0 F (InAll (More y ys)) (AllOk w (More y ys)) s u
  unfolding gifts_in_all
  both w y ys s t u h k = then_puts v d0 F (In y) (InAll ys) (Ok w y) (AllOk w ys) s t u (λ a b l o. passes_up F F a b (drawn_up F a b l) v w y o) h k

  joined : (w : ℕ) (y : Passed Name) (s t : Vat Name) → Puts v d0 F (In y) (Ok w y) s t → (d : Done Name (Passeds Name)) → Yields InAll (AllOk w) t d → Yields InAll (AllOk w) s (and_then d (λ zs. give (More y zs)))
  unfolding and_then give
  joined w y s t h (Gives zs u) k = both w y zs s t u h k
  joined w y s t h other k = fair_trans v d0 F (less_fair v d0 F (In y) (Ok w y) s t h) k

  many : (w : ℕ) (s : Vat Name) (d : Done Name (Passeds Name)) → Yields InAll (AllOk w) s d → Yields In (Ok w) s (and_then d (λ zs. give (Many zs)))
  unfolding and_then give gifts_in
  many w s (Gives zs t) h = h
  many w s other h = h

  none_more : (w : ℕ) (s : Vat Name) → Puts v d0 F (InAll NoMore) (AllOk w NoMore) s s
  unfolding gifts_in_all
  none_more w s = same v d0 F s

  mutual
    unfolding refs.address refs.address_all ◌>>=◌ look and_then give

    address_yields : (w : ℕ) (y : Passed Name) (s : Vat Name) → IsUnmade y → Yields In (Ok w) s (refs.address K w y s)
    address_yields w (Plain y) s m = place_given w y s (refs.place K s y) refl
    address_yields w (AGift h i) s m = absurd m
    address_yields w (Many ys) s m = many w s (refs.address_all K w ys s) (all_yields w ys s m)

    all_yields : (w : ℕ) (ys : Passeds Name) (s : Vat Name) → AreUnmade ys → Yields InAll (AllOk w) s (refs.address_all K w ys s)
    all_yields w NoMore s m = none_more w s
    all_yields w (More y ys) s m = yields_bind In (Ok w) InAll (AllOk w) s (refs.address K w y s) (λ z. refs.address_all K w ys >>= (λ zs. give (More z zs))) (address_yields w y s m.0) (λ z t h. joined w z s t h (refs.address_all K w ys t) (all_yields w ys t m.1))

  spent_yields : (w n : ℕ) (y : Passed Name) (s : Vat Name) (b : Bool) → IsUnmade y → Yields In (Ok w) s (and_then (spent n b s) (λ u. refs.address K w y))
  unfolding spent and_then
  spent_yields w n y s true m = yields_widen In (Ok w) s (record s { fuel = _ }) (record { puts = same v d0 F s }) (refs.address K w y (record s { fuel = _ })) (address_yields w y (record s { fuel = _ }) m)
  spent_yields w n y s false m = record { puts = same v d0 F s }

  pass_yields : (w : ℕ) (x : Value Name) (s : Vat Name) → Yields In (Ok w) s (refs.pass K w x s)
  unfolding refs.pass ◌>>=◌ ◌>>◌ look and_then spend
  pass_yields w x s = spent_yields w (refs.parcel K s x).weight (refs.parcel K s x).value s (nat_le (refs.parcel K s x).weight s.fuel) (parcel_unmade K s x)

  pass_all_yields : (w : ℕ) (xs : List (Value Name)) (s : Vat Name) → Yields InAll (AllOk w) s (refs.pass_all K w xs s)
  unfolding refs.pass_all ◌>>=◌ give gifts_in_all
  pass_all_yields w [] s = same v d0 F s
  pass_all_yields w (x ∷ xs) s = yields_bind In (Ok w) InAll (AllOk w) s (refs.pass K w x s) (λ z. refs.pass_all K w xs >>= (λ zs. give (More z zs))) (pass_yields w x s) (λ z t h. joined w z s t h (refs.pass_all K w xs t) (pass_all_yields w xs t))

  -- ---- what is in hand is put

  put_in_hand : (w : ℕ) (c : ℕ → ℕ) (P : List ℕ → Type 0) (p : Put Name) (s t u : Vat Name) → u.number ≡ t.number → u.drawn ≡ t.drawn → u.outbox ≡ t.outbox ++ p ∷ [] → u.gifts ≡ t.gifts → ((i : ℕ) → gifts_in_note i p.note ≡ c i) → ((d : List ℕ) → P d → Provides F d v p.to p.note) → Puts v d0 F c P s t → R s u
  put_in_hand w c P p s t u e f g k count tells h = record { puts = rw (sym e, sym f, sym g, sym k) at put }
    where
      put : PutsOn v d0 F (λ i. 0) (Nothing v d0 F) s.number s.drawn s.outbox s.gifts t.number t.drawn (t.outbox ++ p ∷ []) t.gifts
      put = record {
        number = h.number;
        drawn = h.drawn;
        count = λ i. let a = h.count i in let b = out_end i t.outbox p in let o = count i in omega arith;
        outs = λ x l o. each_end (PutTells v d0 F t.drawn) t.outbox p (h.outs x l o) (tells t.drawn (h.ok x l));
        gifts = h.gifts;
        once = h.once;
        ok = λ x l. tt;
      }

  deliver_then : (m : Message Name) (w : ℕ) (n : Name) (s : Vat Name) (d : Done Name (Passeds Name)) → Yields InAll (AllOk w) s d → After R s (and_then d (λ args. tell (Posted w m.id) >> send_out w (Deliver (refs.delivery_of K m) n m.verb args)))
  unfolding and_then ◌>>◌ tell send_out gifts_in_note
  deliver_then m w n s (Gives args t) h = put_in_hand w (InAll args) (AllOk w args) (record { to = w; note = Deliver (refs.delivery_of K m) n m.verb args }) s t _ refl refl refl refl (λ i. refl) (λ d o. o) h
  deliver_then m w n s other h = h

  fair_deliver : (m : Message Name) (w : ℕ) (n : Name) → Keeps R (refs.deliver K m w n)
  unfolding refs.deliver ◌>>=◌
  fair_deliver m w n = record { after = λ s. deliver_then m w n s (refs.pass_all K w m.args s) (pass_all_yields w m.args s) }

  settled_then : (p : Name) (w : ℕ) (s : Vat Name) (d : Done Name (Passed Name)) → Yields In (Ok w) s d → After R s (and_then d (λ z. send_out w (SettledTo p z)))
  unfolding and_then send_out gifts_in_note
  settled_then p w s (Gives z t) h = put_in_hand w (In z) (Ok w z) (record { to = w; note = SettledTo p z }) s t _ refl refl refl refl (λ i. refl) (λ d o. o) h
  settled_then p w s other h = h

  fair_settled_to : (p : Name) (w : ℕ) (y : Value Name) → Keeps R (refs.pass K w y >>= (λ z. send_out w (SettledTo p z)))
  unfolding ◌>>=◌
  fair_settled_to p w y = record { after = λ s. settled_then p w s (refs.pass K w y s) (pass_yields w y s) }

  fair_inform_of : (p : Name) (w : ℕ) (y : Value Name) (q : Place Name) → Keeps R (refs.inform_of K p w y q)
  unfolding refs.inform_of
  fair_inform_of p w y (Away h n true) = search fair depth 14
  fair_inform_of p w y other = fair_settled_to p w y

  pub fair_inform : (p : Name) (w : ℕ) → Keeps R (refs.inform K p w)
  unfolding refs.inform
  fair_inform p w = search (fair, spared, fair_inform_of) depth 14

  -- ---- sending on, settling and resolving

  fair_waits_on : (p q : Name) → Keeps R (refs.wait_on K p q)
  unfolding refs.wait_on
  fair_waits_on p q = search (fair, spared) depth 14

  fair_pass_on : (m : Message Name) (h : ℕ) (n : Name) → Keeps R (refs.pass_on K m h n)
  unfolding refs.pass_on
  fair_pass_on m h n = search (fair, spared, fair_deliver, fair_waits_on) depth 14

  abbrev pub FairSettler : (Name → Value Name → Act Name (Unit {0})) → Type 0
  FairSettler settle = (p : Name) (y : Value Name) → Keeps R (settle p y)

  module _ (settle : Name → Value Name → Act Name (Unit {0})) (good : FairSettler settle) where
    fair_send_to : (m : Message Name) (y : Value Name) (p : Place Name) → Keeps R (refs.send_to K settle m y p)
    unfolding refs.send_to
    fair_send_to m y (Away h n o) = fair_pass_on m h n
    fair_send_to m y other = search (fair, spared) depth 14

    pub fair_send_on : (m : Message Name) → Keeps R (refs.send_on K settle m)
    unfolding refs.send_on
    fair_send_on m = search (fair, spared, fair_send_to) depth 14

    fair_settle_known : (p : Name) (y : Value Name) (k : Known Name) → Keeps R (refs.settle_known K settle p y k)
    unfolding refs.settle_known
    fair_settle_known p y k = search (fair, spared, fair_send_on, fair_inform) depth 14

    fair_settle_standing : (p : Name) (y : Value Name) (k : Known Name) (x : Standing Name) → Keeps R (refs.settle_standing K settle p y k x)
    unfolding refs.settle_standing
    fair_settle_standing p y k (Settled z) = search (fair, spared) depth 14
    fair_settle_standing p y k _ = fair_settle_known p y k

    fair_settle_entry : (p : Name) (y : Value Name) (o : Option (Known Name)) → Keeps R (refs.settle_entry K settle p y o)
    unfolding refs.settle_entry
    fair_settle_entry p y None = search (fair, spared) depth 14
    fair_settle_entry p y (Some k) = fair_settle_standing p y k k.standing

    fair_settle_one : FairSettler (refs.settle_one K settle)
    unfolding refs.settle_one
    fair_settle_one p y = search (fair, spared, fair_settle_entry) depth 14

  fair_settle_at : (d : ℕ) → FairSettler (refs.settle_at K d)
  unfolding refs.settle_at
  fair_settle_at zero p y = search (fair, spared)
  fair_settle_at (suc d) p y = fair_settle_one (λ q z. refs.settle_at K d q z) (λ q z. fair_settle_at d q z) p y

  pub fair_settle : FairSettler (refs.settle K)
  unfolding refs.settle
  fair_settle p y = search (fair, spared, fair_settle_at) depth 14

  fair_wait_unless_cycle : (p q : Name) → Keeps R (refs.wait_unless_cycle K p q)
  unfolding refs.wait_unless_cycle
  fair_wait_unless_cycle p q = search (fair, spared, fair_settle, fair_waits_on) depth 14

  fair_resolve_to : (p : Name) (y : Value Name) (q : Place Name) → Keeps R (refs.resolve_to K p y q)
  unfolding refs.resolve_to
  fair_resolve_to p y (Mine q) = fair_wait_unless_cycle p q
  fair_resolve_to p y (Away h q false) = fair_wait_unless_cycle p q
  fair_resolve_to p y _ = fair_settle p y

  pub fair_resolve : FairSettler (refs.resolve K)
  unfolding refs.resolve
  fair_resolve p y = search (fair, spared, fair_resolve_to) depth 14

  -- ---- new messages

  fair_send_first : (m : Message Name) (y : Value Name) (p : Place Name) → Keeps R (refs.send_first K m y p)
  unfolding refs.send_first
  fair_send_first m y (Away h n o) = fair_deliver m h n
  fair_send_first m y p = fair_send_to (refs.settle K) fair_settle m y p

  fair_send : (act : ℕ) (y : Value Name) (verb : Words) (args : List (Value Name)) → Keeps R (refs.send K act y verb args)
  unfolding refs.send
  fair_send act y verb args = search (fair, spared, fair_send_first) depth 14

  fair_send_only : (act : ℕ) (y : Value Name) (verb : Words) (args : List (Value Name)) → Keeps R (refs.send_only K act y verb args)
  unfolding refs.send_only
  fair_send_only act y verb args = search (fair, spared, fair_send_first) depth 14

  fair_react_at : (m : Message Name) (p : Place Name) → Keeps R (refs.react_at K m p)
  unfolding refs.react_at
  fair_react_at m (Mine n) = search (fair, spared) depth 14
  fair_react_at m (Away h n false) = search (fair, spared) depth 14
  fair_react_at m other = search (fair, spared) depth 14

  fair_react : (act : ℕ) (y o near : Value Name) → Keeps R (refs.react K act y o near)
  unfolding refs.react
  fair_react act y o near = search (fair, spared, fair_react_at) depth 14

  pub spared_under : IsSparedUnder K R
  spared_under = record { promised = λ s. record { puts = same v d0 F s }; settles = fair_settle; resolves = fair_resolve; sends = fair_send; sends_only = fair_send_only; reacts = fair_react }

pub ruleset fair_refs = (fair, fair_settle, fair_resolve, fair_inform)
