-- All that a vat does with references leaves what it has its own, and what it puts about a name of the two vats.
use Rattle.std.proofs.Common.{◌≡◌, ℕ, zero, suc, Bool, true, false, List, [], ◌∷◌, ◌++◌, Option, Some, None, refl, sym, ap, ◌∙◌, if◌then◌else◌, ◌==◌, ◌⊎◌, inl, inr, length, codes}
use Rattle.std.specs.Prelude.{nat_le}
use Rattle.std.proofs.lemmas.Bool.{eqb-true, eq-eqb}
use Rattle.def_machine.specs.Values.{Value, Broken, Ref, Name, Object, Sent, host_of, same_reference, Naming, naming, name_of, answer_of, spot_of, Spot, Own as OwnThing, Foreign, NoObject, IsAnswer}
use Rattle.def_machine.specs.State.{Message, Happened, Standing, Unsettled, Settled, Known, Change, Hold, Wait, WaitOn, See, React, ToTell, Settle, Passed, Passeds, Plain, AGift, Many, NoMore, More, Open, Note, Deliver, SettledTo, Elsewhere, Put, Vat, Stop, Done, Gives, Act, ◌>>=◌, ◌>>◌, and_then, each, give, stop, look, tell, spend, spent, enqueue, send_out, draws, draw, with_change, with_vat, changed, changed_to, alter, come, begun, is_in, Waits, for_some, WhereSome}
use Rattle.def_machine.specs.Refs as refs
use Rattle.def_machine.specs.Refs.{Place, Near, Mine, Away, Gone, entry_of, standing_of, host_at, host_in, place, spotted, hosted}
use Rattle.law_fate.specs.Name.Names.{AllOf, IsAmong, IsMessageName, IsEventual, IsKnownIn, names_in}
use Rattle.law_fate.proofs.Name.Facts.{all_end}
use Rattle.law_reference.specs.Reference.Own.{IsOwnMail, IsOwnKnown, IsOwnGift}
use Rattle.law_reference.specs.Reference.Notes.{IsBetween}
use Rattle.law_reference.proofs.Reference.Entries.{unless_either}
use Rattle.law_machine.proofs.Machine.BreakLaws.{nothing_of}
use Rattle.law_reference.proofs.Reference.Gentle.{GivesBy, Gentle}
use Rattle.law_reference.proofs.Reference.Wakes.{Wakes, wakes_on, hold_wakes, react_wakes, wait_wakes, tell_wakes, see_wakes, settle_wakes, free_wait_wakes, open_wait_wakes, came_wakes}
use Rattle.law_fate.proofs.Name.SameNames.{reference_is, reference_self}

module _ (word : ℕ → ℕ) (v : ℕ) (Spares : ℕ → Type 0) where
  abbrev Names : Naming Name Name
  Names = naming word v

  -- what vat v puts for its receiver
  abbrev pub IsOwnPut : Put Name → Type 0
  IsOwnPut p = IsBetween v p.to p.note

  -- what the vat has is its own, and each note that it puts is about a name of the two vats
  abbrev pub Whole : Vat Name → Type 0
  Whole s = (s.number ≡ v) × AllOf (IsOwnMail v) s.queue × AllOf (IsOwnKnown v) s.known × AllOf (IsOwnGift v) s.gifts × AllOf IsOwnPut s.outbox × ((h : ℕ) → is_in h s.noticed ≡ false → Spares h)

  -- a name of a host that is spared, or of the vat
  abbrev pub IsFree : Name → Type 0
  IsFree n = (host_of n ≡ v) ⊎ Spares (host_of n)

  -- which names wait after it
  abbrev pub Woken : Vat Name → Vat Name → Type 0
  Woken s t = Wakes word v IsFree s.known t.known

  abbrev pub KeepsOwn : Vat Name → Vat Name → Type 0
  KeepsOwn s t = Whole s → Whole t × Woken s t

  -- ---- one thing after another

  pub widen : {A : Type 0} (s t : Vat Name) (d : Done Name A) → KeepsOwn s t → GivesBy KeepsOwn t d → GivesBy KeepsOwn s d
  widen s t (Gives a u) r h = λ o. let b = r o in let c = h b.0 in (c.0, wakes_on word v IsFree s.known t.known u.known b.1 c.1)
  widen s t other r h = tt

  bind_gives : {A B : Type 0} (s : Vat Name) (d : Done Name A) (f : A → Act Name B) → GivesBy KeepsOwn s d → ((a : A) → Gentle KeepsOwn (f a)) → GivesBy KeepsOwn s (and_then d f)
  unfolding and_then
  bind_gives s (Gives a t) f h k = widen s t (f a t) h ((k a).after t)
  bind_gives s other f h k = tt

  pub own_bind : {A B : Type 0} {m : Act Name A} {f : A → Act Name B} → Gentle KeepsOwn m → ((a : A) → Gentle KeepsOwn (f a)) → Gentle KeepsOwn (m >>= f)
  unfolding ◌>>=◌
  own_bind {m = m} {f = f} h k = record { after = λ s. bind_gives s (m s) f (h.after s) k }

  pub own_then : {A B : Type 0} {m : Act Name A} {n : Act Name B} → Gentle KeepsOwn m → Gentle KeepsOwn n → Gentle KeepsOwn (m >> n)
  unfolding ◌>>◌
  own_then {m = m} {n = n} h k = record { after = λ s. bind_gives s (m s) (λ _. n) (h.after s) (λ _. k) }

  pub own_if : {A : Type 0} (b : Bool) {m n : Act Name A} → Gentle KeepsOwn m → Gentle KeepsOwn n → Gentle KeepsOwn (if b then m else n)
  own_if true h k = h
  own_if false h k = k

  pub own_give : {A : Type 0} (a : A) → Gentle KeepsOwn (give a)
  unfolding give
  own_give a = record { after = λ s o. (o, λ n w. inl w) }

  pub own_stop : {A : Type 0} (c : Stop) → Gentle KeepsOwn (stop {A = A} c)
  unfolding stop
  own_stop c = record { after = λ s. tt }

  pub own_look : {A : Type 0} (f : Vat Name → A) → Gentle KeepsOwn (look f)
  unfolding look
  own_look f = record { after = λ s o. (o, λ n w. inl w) }

  pub own_tell : (e : Happened Name) → Gentle KeepsOwn (tell e)
  unfolding tell
  own_tell e = record { after = λ s o. (o, λ n w. inl w) }

  spend_gives : (s : Vat Name) (n : ℕ) (b : Bool) → GivesBy KeepsOwn s (spent n b s)
  unfolding spent
  spend_gives s n true = λ o. (o, λ m w. inl w)
  spend_gives s n false = tt

  pub own_spend : (n : ℕ) → Gentle KeepsOwn (spend n)
  unfolding spend
  own_spend n = record { after = λ s. spend_gives s n (nat_le n s.fuel) }

  pub own_out : (to : ℕ) (n : Note Name) → IsBetween v to n → Gentle KeepsOwn (send_out to n)
  unfolding send_out
  own_out to n h = record { after = λ s o. ((o.0, o.1, o.2, o.3, all_end IsOwnPut s.outbox (record { to = to; note = n }) o.4 h, o.5), λ m w. inl w) }

  draws_give : (s : Vat Name) (w : ℕ) (o : Option ℕ) → GivesBy KeepsOwn s (draws w o s)
  unfolding draws
  draws_give s w (Some i) = tt
  draws_give s w None = λ o. (o, λ m i. inl i)

  pub own_draw : Gentle KeepsOwn (draw Names)
  unfolding draw
  own_draw = record { after = λ s. draws_give s _ _ }

  pub own_each : {A : Type 0} {f : A → Act Name (Unit {0})} (P : A → Type 0) (xs : List A) → AllOf P xs → ((x : A) → P x → Gentle KeepsOwn (f x)) → Gentle KeepsOwn (each f xs)
  unfolding each
  own_each P [] h g = own_give tt
  own_each P (x ∷ xs) h g = own_then (g x h.0) (own_each P xs h.1 g)

  pub own_all : {A : Type 0} {f : A → Act Name (Unit {0})} (xs : List A) → ((x : A) → Gentle KeepsOwn (f x)) → Gentle KeepsOwn (each f xs)
  unfolding each
  own_all [] g = own_give tt
  own_all (x ∷ xs) g = own_then (g x) (own_all xs g)

  pub own_enqueue : (m : Message Name) → IsOwnMail v m → Gentle KeepsOwn (enqueue m)
  unfolding enqueue
  own_enqueue m h = record { after = λ s o. ((o.0, all_end (IsOwnMail v) s.queue m o.1 h, o.2, o.3, o.4, o.5), λ n w. inl w) }

  -- where what is kept of the state is asked for
  pub with_own : {A : Type 0} (s : Vat Name) (d : Done Name A) → (Whole s → GivesBy KeepsOwn s d) → GivesBy KeepsOwn s d
  with_own s (Gives a t) f = λ o. f o o
  with_own s other f = tt

  -- ---- changes of what is known

  changed_own : (c : Change Name) (k : Known Name) → IsOwnKnown v k → IsOwnKnown v (changed_to c k) → IsOwnKnown v (changed c k)
  unfolding changed
  changed_own c k h i = unless_either (IsOwnKnown v) k.standing k (changed_to c k) h i

  pick_one : (b : Bool) (k0 : Known Name) (o : Option (Known Name)) → b ≡ true → ◌≡◌ {A = Option (Known Name)} (elim b [ true ↦ Some k0 | false ↦ o ]) (Some k0)
  pick_one b k0 o e = rw e refl

  pick_rest : (b : Bool) (k0 : Known Name) (o : Option (Known Name)) → b ≡ false → ◌≡◌ {A = Option (Known Name)} (elim b [ true ↦ Some k0 | false ↦ o ]) o
  pick_rest b k0 o e = rw e refl

  own_head : (b : Bool) (k0 j : Known Name) (ks rest : List (Known Name)) → IsOwnKnown v k0 → AllOf (IsOwnKnown v) ks → (b ≡ true → IsOwnKnown v j) → (b ≡ false → AllOf (IsOwnKnown v) rest) → AllOf (IsOwnKnown v) (elim b [ true ↦ j ∷ ks | false ↦ k0 ∷ rest ])
  own_head true k0 j ks rest h i f g = (f refl, i)
  own_head false k0 j ks rest h i f g = (h, g refl)

  all_changed : (c : Change Name) (n : Name) (ks : List (Known Name)) → AllOf (IsOwnKnown v) ks → ((k : Known Name) → entry_of Names ks n ≡ Some k → IsOwnKnown v k → IsOwnKnown v (changed_to c k)) → AllOf (IsOwnKnown v) (with_change Names c n ks)
  unfolding with_change entry_of
  all_changed c n [] h f = tt
  all_changed c n (k0 ∷ ks) h f = own_head (Names.same k0.name n) k0 (changed c k0) ks (with_change Names c n ks) h.0 h.1
      (λ e. changed_own c k0 h.0 (f k0 (pick_one (Names.same k0.name n) k0 (entry_of Names ks n) e) h.0))
      (λ e. all_changed c n ks h.1 (λ k i. f k (pick_rest (Names.same k0.name n) k0 (entry_of Names ks n) e ∙ i)))

  altered : (c : Change Name) (n : Name) → ((k : Known Name) → IsOwnKnown v k → IsOwnKnown v (changed_to c k)) → ((ks : List (Known Name)) → Wakes word v IsFree ks (with_change Names c n ks)) → Gentle KeepsOwn (alter Names c n)
  unfolding alter
  altered c n f g = record { after = λ s o. ((o.0, o.1, all_changed c n s.known o.2 (λ k e. f k), o.3, o.4, o.5), g s.known) }

  pub own_hold : (m : Message Name) (n : Name) → IsOwnMail v m → Gentle KeepsOwn (alter Names (Hold m) n)
  unfolding changed_to
  own_hold m n h = altered (Hold m) n (λ k i. (i.0, all_end (IsOwnMail v) k.held m i.1 h, i.2, i.3)) (hold_wakes word v IsFree m n)

  pub own_react : (m : Message Name) (n : Name) → IsOwnMail v m → Gentle KeepsOwn (alter Names (React m) n)
  unfolding changed_to
  own_react m n h = altered (React m) n (λ k i. (i.0, i.1, all_end (IsOwnMail v) k.reactions m i.2 h, i.3)) (react_wakes word v IsFree m n)

  pub own_wait : (q n : Name) → Gentle KeepsOwn (alter Names (Wait q) n)
  unfolding changed_to
  own_wait q n = altered (Wait q) n (λ k i. i) (wait_wakes word v IsFree q n)

  pub own_wait_on : (q n : Name) → IsFree n → Gentle KeepsOwn (alter Names (WaitOn q) n)
  unfolding changed_to
  own_wait_on q n f = altered (WaitOn q) n (λ k i. i) (λ ks. free_wait_wakes word v IsFree q n ks f)

  pub own_view : (q n : Name) → Gentle KeepsOwn (alter Names (See q) n)
  unfolding changed_to
  own_view q n = altered (See q) n (λ k i. i) (see_wakes word v IsFree q n)

  pub own_settled : (y : Value Name) (n : Name) → Gentle KeepsOwn (alter Names (Settle y) n)
  unfolding changed_to
  own_settled y n = altered (Settle y) n (λ k i. (i.0, tt, tt, tt)) (settle_wakes word v IsFree y n)

  vat_added : (b : Bool) (P : ℕ → Type 0) (w : ℕ) (ws : List ℕ) → AllOf P ws → P w → AllOf P (elim b [ true ↦ ws | false ↦ ws ++ w ∷ [] ])
  vat_added true P w ws h i = h
  vat_added false P w ws h i = all_end P ws w h i

  told_own : (w : ℕ) (k : Known Name) → host_of k.name ≡ v → IsOwnKnown v k → IsOwnKnown v (changed_to (ToTell w) k)
  unfolding changed_to with_vat
  told_own w k e i = (i.0, i.1, i.2, vat_added _ (λ (u : ℕ). host_of k.name ≡ v) w k.told i.3 e)

  entry_head : (b : Bool) (k0 k : Known Name) (n : Name) (o : Option (Known Name)) → (b ≡ true → k0.name ≡ n) → ◌≡◌ {A = Option (Known Name)} (elim b [ true ↦ Some k0 | false ↦ o ]) (Some k) → (o ≡ Some k → k.name ≡ n) → k.name ≡ n
  entry_head true k0 k n o f e g = let same : k0 ≡ k = cc in ap (λ (x : Known Name). x.name) (sym same) ∙ f refl
  entry_head false k0 k n o f e g = g e

  pub entry_name : (ks : List (Known Name)) (n : Name) (k : Known Name) → entry_of Names ks n ≡ Some k → k.name ≡ n
  unfolding entry_of naming
  entry_name [] n k e = cc
  entry_name (k0 ∷ ks) n k e = entry_head (Names.same k0.name n) k0 k n (entry_of Names ks n) (reference_is k0.name n) e (λ h. entry_name ks n k h)

  -- a name that the vat hosts, of which another is to be told
  pub own_to_tell : (w : ℕ) (n : Name) → host_of n ≡ v → Gentle KeepsOwn (alter Names (ToTell w) n)
  unfolding alter
  own_to_tell w n e = record { after = λ s o. ((o.0, o.1, all_changed (ToTell w) n s.known o.2 (λ k i. told_own w k (ap host_of (entry_name s.known n k i) ∙ e)), o.3, o.4, o.5), tell_wakes word v IsFree w n s.known) }

  -- or that it has as its own
  mine_told : (w : ℕ) (n : Name) (s : Vat Name) → host_at Names s.number s.known n ≡ s.number → GivesBy KeepsOwn s (alter Names (ToTell w) n s)
  unfolding alter host_at host_in
  mine_told w n s e = λ o. ((o.0, o.1, all_changed (ToTell w) n s.known o.2 (λ k i h. told_own w k (sym h.0 ∙ hosted_here k i ∙ o.0) h), o.3, o.4, o.5), tell_wakes word v IsFree w n s.known)
    where
      hosted_here : (k : Known Name) → entry_of Names s.known n ≡ Some k → k.host ≡ s.number
      hosted_here k i = rw i at e

  entry_own : (b : Bool) (k0 k : Known Name) (o : Option (Known Name)) → IsOwnKnown v k0 → ◌≡◌ {A = Option (Known Name)} (elim b [ true ↦ Some k0 | false ↦ o ]) (Some k) → (o ≡ Some k → IsOwnKnown v k) → IsOwnKnown v k
  entry_own true k0 k o h e f = let same : k0 ≡ k = cc in rw same at h
  entry_own false k0 k o h e f = f e

  pub found_own : (ks : List (Known Name)) (n : Name) (k : Known Name) → AllOf (IsOwnKnown v) ks → entry_of Names ks n ≡ Some k → IsOwnKnown v k
  unfolding entry_of
  found_own [] n k h e = cc
  found_own (k0 ∷ ks) n k h e = entry_own (Names.same k0.name n) k0 k (entry_of Names ks n) h.0 e (λ i. found_own ks n k h.1 i)

  -- ---- what is away is of that host

  spot_host : (b : Bool) (w i h : ℕ) → ◌≡◌ {A = Spot} (elim b [ true ↦ OwnThing i | false ↦ Foreign w ]) (Foreign h) → w ≡ h
  spot_host true w i h e = cc
  spot_host false w i h e = cc

  foreign_host : (n : Name) (h : ℕ) → Names.spot n ≡ Foreign h → host_of n ≡ h
  unfolding naming spot_of host_of
  foreign_host (Object w i) h e = spot_host (v == w) w i h e
  foreign_host other h e = cc

  no_away : (n m : Name) (h : ℕ) (o : Bool) → Mine n ≡ Away h m o → ⊥
  no_away n m h o e = cc

  -- what is known, where its host is not this vat
  entry_host : (u : ℕ) (n m : Name) (h : ℕ) (o : Bool) (j : Option (Known Name)) → ((k : Known Name) → j ≡ Some k → host_of n ≡ k.host) → hosted Names u n (host_in u j) ≡ Away h m o → host_of m ≡ h
  unfolding hosted host_in
  entry_host u n m h o None f e = absurd (no_away n m h o (sym (mine_self (u == u) (eq-eqb u u refl)) ∙ e))
    where
      mine_self : (b : Bool) → b ≡ true → ◌≡◌ {A = Place Name} (elim b [ true ↦ Mine n | false ↦ Away u n false ]) (Mine n)
      mine_self b i = rw i refl
  entry_host u n m h o (Some k) f e = either (u == k.host) e
    where
      either : (b : Bool) → ◌≡◌ {A = Place Name} (elim b [ true ↦ Mine n | false ↦ Away k.host n false ]) (Away h m o) → host_of m ≡ h
      either true i = cc
      either false i = let same : n ≡ m = cc in let at : k.host ≡ h = cc in ap host_of (sym same) ∙ f k refl ∙ at

  away_spot : (s : Vat Name) (n m : Name) (h : ℕ) (o : Bool) (t : Spot) → Names.spot n ≡ t → Whole s → spotted Names s n t ≡ Away h m o → host_of m ≡ h
  unfolding spotted host_at
  away_spot s n m h o (OwnThing i) g w e = cc
  away_spot s n m h o (Foreign u) g w e = let same : n ≡ m = cc in let at : u ≡ h = cc in ap host_of (sym same) ∙ foreign_host n u g ∙ at
  away_spot s n m h o NoObject g w e = entry_host s.number n m h o (entry_of Names s.known n) (λ k i. ap host_of (sym (entry_name s.known n k i)) ∙ sym (found_own s.known n k w.2 i).0) e

  pub away_hosted : (s : Vat Name) (y : Value Name) (m : Name) (h : ℕ) (o : Bool) → Whole s → place Names s y ≡ Away h m o → host_of m ≡ h
  unfolding place
  away_hosted s (Ref n) m h o w e = away_spot s n m h o (Names.spot n) refl w e
  away_hosted s other m h o w e = cc

  -- a place whose host, where it is away, is that of its name
  abbrev pub PlaceFits : Place Name → Type 0
  PlaceFits (Away h n o) = (host_of n ≡ h) × Spares h
  PlaceFits other = Unit {0}

  not_true : (b : Bool) → (b ≡ true → ⊥) → b ≡ false
  not_true true f = absurd (f refl)
  not_true false f = refl

  fits_at : (s : Vat Name) (x : Value Name) (p : Place Name) → Whole s → place Names s (refs.follow Names s x) ≡ p → PlaceFits p
  fits_at s x (Away h n o) w e = (away_hosted s (refs.follow Names s x) n h o w e, w.5 h (not_true (is_in h s.noticed) (λ i. nothing_of Names s h i x n o e)))
  fits_at s x other w e = tt

  -- where a value is followed to
  pub place_fits : (s : Vat Name) (x : Value Name) → Whole s → PlaceFits (place Names s (refs.follow Names s x))
  place_fits s x w = fits_at s x (place Names s (refs.follow Names s x)) w refl

  no_same : (b : Bool) → b ≡ true → b ≡ false → ⊥
  no_same b e f = cc

  -- a name that is known has its own host
  same_head : (b : Bool) (u : ℕ) (k0 : Known Name) (n : Name) (o : Option (Known Name)) → (b ≡ true → host_of n ≡ k0.host) → (b ≡ false → host_in u o ≡ host_of n) → host_in u (elim b [ true ↦ Some k0 | false ↦ o ]) ≡ host_of n
  unfolding host_in
  same_head true u k0 n o f g = sym (f refl)
  same_head false u k0 n o f g = g refl

  pub known_host : (u : ℕ) (ks : List (Known Name)) (n : Name) → IsEventual n → AllOf (IsOwnKnown v) ks → IsAmong n (names_in ks) → host_at Names u ks n ≡ host_of n
  unfolding host_at entry_of naming
  known_host u [] n eventual h a = absurd a
  known_host u (k0 ∷ ks) n eventual h a = same_head (same_reference k0.name n) u k0 n (entry_of Names ks n) (λ e. ap host_of (sym (reference_is k0.name n e)) ∙ sym h.0.0) (λ e. rest a e (λ i. known_host u ks n eventual h.1 i))
    where
      rest : (n ≡ k0.name) ⊎ IsAmong n (names_in ks) → same_reference k0.name n ≡ false → (IsAmong n (names_in ks) → host_in u (entry_of Names ks n) ≡ host_of n) → host_in u (entry_of Names ks n) ≡ host_of n
      rest (inl i) e f = absurd (no_same (same_reference k0.name n) (ap (λ x. same_reference x n) (sym i) ∙ reference_self n eventual) e)
      rest (inr i) e f = f i

  pub eventual_known : (ns : List Name) (n : Name) → IsEventual n → IsKnownIn ns n → IsAmong n ns
  eventual_known ns (Object w i) e a = absurd e
  eventual_known ns (Sent m) e a = absurd e
  eventual_known ns other e a = a

  -- ---- passing

  place_hosted : (b : Bool) (n m : Name) (h u : ℕ) → (b ≡ true → h ≡ u) → ◌≡◌ {A = Place Name} (elim b [ true ↦ Mine n | false ↦ Away h n false ]) (Mine m) → (n ≡ m) × (h ≡ u)
  place_hosted true n m h u f e = let same : n ≡ m = cc in (same, f refl)
  place_hosted false n m h u f e = cc

  place_spot : (s : Vat Name) (n m : Name) (t : Spot) → spotted Names s n t ≡ Mine m → host_at Names s.number s.known m ≡ s.number
  unfolding spotted hosted
  place_spot s n m NoObject e = let both = place_hosted (s.number == host_at Names s.number s.known n) n m (host_at Names s.number s.known n) s.number (λ i. sym (eqb-true s.number (host_at Names s.number s.known n) i)) e in ap (λ x. host_at Names s.number s.known x) (sym both.0) ∙ both.1
  place_spot s n m other e = cc

  -- what is placed as a promise of this vat has this vat as its host
  place_mine : (s : Vat Name) (y : Value Name) (m : Name) → place Names s y ≡ Mine m → host_at Names s.number s.known m ≡ s.number
  unfolding place
  place_mine s (Ref n) m e = place_spot s n m (Names.spot n) e
  place_mine s other m e = cc

  drawn_gift : (w h : ℕ) (y : Value Name) (n : Name) → host_of n ≡ h → Gentle KeepsOwn (if h == w then give (Plain y) else (draw Names >>= (λ i. send_out h (Open i n) >> give (AGift h i))))
  drawn_gift w h y n e = own_if (h == w) (own_give (Plain y)) (own_bind own_draw (λ i. own_then (own_out h (Open i n) e) (own_give (AGift h i))))

  told_plain : (w : ℕ) (y : Value Name) (n : Name) (s : Vat Name) → host_at Names s.number s.known n ≡ s.number → GivesBy KeepsOwn s ((alter Names (ToTell w) n >> give (Plain y)) s)
  unfolding ◌>>◌
  told_plain w y n s e = bind_gives s (alter Names (ToTell w) n s) (λ u. give (Plain y)) (mine_told w n s e) (λ u. own_give (Plain y))

  address_placed : (w : ℕ) (y : Value Name) (p : Place Name) (s : Vat Name) → place Names s y ≡ p → GivesBy KeepsOwn s (refs.address_plain Names w y p s)
  unfolding refs.address_plain
  address_placed w y (Away h n o) s e = with_own s _ (λ k. (drawn_gift w h y n (away_hosted s y n h o k e)).after s)
  address_placed w y (Mine n) s e = told_plain w y n s (place_mine s y n e)
  address_placed w y other s e = (own_give (Plain y)).after s

  own_address_plain : (w : ℕ) (y : Value Name) → Gentle KeepsOwn (refs.address Names w (Plain y))
  unfolding refs.address ◌>>=◌ look and_then
  own_address_plain w y = record { after = λ s. address_placed w y (place Names s y) s refl }

  mutual
    unfolding refs.address refs.address_all

    own_address : (w : ℕ) (y : Passed Name) → Gentle KeepsOwn (refs.address Names w y)
    own_address w (Plain y) = own_address_plain w y
    own_address w (AGift h i) = own_give (AGift h i)
    own_address w (Many ys) = own_bind (own_address_all w ys) (λ zs. own_give (Many zs))

    own_address_all : (w : ℕ) (ys : Passeds Name) → Gentle KeepsOwn (refs.address_all Names w ys)
    own_address_all w NoMore = own_give NoMore
    own_address_all w (More y ys) = own_bind (own_address w y) (λ z. own_bind (own_address_all w ys) (λ zs. own_give (More z zs)))

  pub own_pass : (w : ℕ) (x : Value Name) → Gentle KeepsOwn (refs.pass Names w x)
  unfolding refs.pass
  own_pass w x = own_bind (own_look (λ s. refs.parcel Names s x)) (λ y. own_then (own_spend y.weight) (own_address w y.value))

  own_pass_all : (w : ℕ) (xs : List (Value Name)) → Gentle KeepsOwn (refs.pass_all Names w xs)
  unfolding refs.pass_all
  own_pass_all w [] = own_give NoMore
  own_pass_all w (x ∷ xs) = own_bind (own_pass w x) (λ y. own_bind (own_pass_all w xs) (λ ys. own_give (More y ys)))

  pub own_deliver : (m : Message Name) (h : ℕ) (n : Name) → host_of n ≡ h → Gentle KeepsOwn (refs.deliver Names m h n)
  unfolding refs.deliver
  own_deliver m h n e = own_bind (own_pass_all h m.args) (λ ys. own_then (own_tell _) (own_out h (Deliver (refs.delivery_of Names m) n m.verb ys) e))

  -- ---- what comes to be known

  begun_own : (n : Name) (h : ℕ) → h ≡ host_of n → IsOwnKnown v (begun n h)
  unfolding begun
  begun_own n h e = (e, tt, tt, tt)

  pub came_own : (s : Vat Name) (n : Name) (h : ℕ) → h ≡ host_of n → Whole s → AllOf (IsOwnKnown v) (s.known ++ begun n h ∷ [])
  came_own s n h e o = all_end (IsOwnKnown v) s.known (begun n h) o.2 (begun_own n h e)

  answer_hosted : (h : ℕ) (m : Name) → IsMessageName m → h ≡ host_of (answer_of h m)
  unfolding answer_of host_of
  answer_hosted h (Sent m) i = refl
  answer_hosted h other i = absurd i

  pub own_answer : (h : ℕ) (m : Name) → IsMessageName m → Spares h → Gentle KeepsOwn (come Names (IsAnswer h m) h)
  unfolding come naming name_of
  own_answer h m i f = record { after = λ s o. ((o.0, o.1, came_own s (answer_of h m) h (answer_hosted h m i) o, o.3, o.4, o.5), came_wakes word v IsFree s.known (answer_of h m) h (inr (rw (answer_hosted h m i) at f))) }

  -- ---- sending on and settling

  abbrev pub OwnSettler : (Name → Value Name → Act Name (Unit {0})) → Type 0
  OwnSettler settle = (p : Name) (y : Value Name) → Gentle KeepsOwn (settle p y)

  own_wait_for : (p q : Name) → IsFree p → Gentle KeepsOwn (refs.wait_on Names p q)
  unfolding refs.wait_on
  own_wait_for p q f = own_then (own_tell _) (own_then (own_wait_on q p f) (own_wait p q))

  -- what follows where there is an answer, which the vat hosts, and else
  own_some : {A : Type 0} (o : Option Name) {f : Name → Act Name A} {m : Act Name A} → WhereSome (λ a. host_of a ≡ v) o → ((a : Name) → host_of a ≡ v → Gentle KeepsOwn (f a)) → Gentle KeepsOwn m → Gentle KeepsOwn (for_some o f m)
  unfolding for_some
  own_some (Some a) e h k = h a e
  own_some None e h k = k

  own_pass_on : (m : Message Name) (h : ℕ) (n : Name) → IsOwnMail v m → (host_of n ≡ h) × Spares h → Gentle KeepsOwn (refs.pass_on Names m h n)
  unfolding refs.pass_on
  own_pass_on m h n i e = own_some m.answer i.1 (λ p f. own_bind (own_answer h m.id i.0 e.1) (λ a. own_then (own_deliver (record m { answer = Some a }) h n e.0) (own_wait_for p a (inl f)))) (own_deliver m h n e.0)

  pub own_send_to : (settle : Name → Value Name → Act Name (Unit {0})) → OwnSettler settle → (m : Message Name) (y : Value Name) (p : Place Name) → IsOwnMail v m → PlaceFits p → Gentle KeepsOwn (refs.send_to Names settle m y p)
  unfolding refs.send_to
  own_send_to settle good m y Near i f = own_enqueue _ i
  own_send_to settle good m y (Mine n) i f = own_hold _ n i
  own_send_to settle good m y (Away h n o) i f = own_pass_on m h n i f
  own_send_to settle good m y (Gone p) i f = own_then (own_tell _) (own_some m.answer i.1 (λ a f. good a (Broken p)) (own_give tt))

  pub own_send_on : (settle : Name → Value Name → Act Name (Unit {0})) → OwnSettler settle → (m : Message Name) → IsOwnMail v m → Gentle KeepsOwn (refs.send_on Names settle m)
  unfolding refs.send_on ◌>>=◌ look and_then
  own_send_on settle good m i = record { after = λ s. with_own s _ (λ o. let y : Value Name = refs.follow Names s m.target in (own_send_to settle good m y (place Names s y) i (place_fits s m.target o)).after s) }

  own_told : (p : Name) (w : ℕ) (y : Value Name) → host_of p ≡ v → Gentle KeepsOwn (refs.pass Names w y >>= (λ z. send_out w (SettledTo p z)))
  own_told p w y e = own_bind (own_pass w y) (λ z. own_out w (SettledTo p z) e)

  own_inform_of : (p : Name) (w : ℕ) (y : Value Name) (q : Place Name) → host_of p ≡ v → Gentle KeepsOwn (refs.inform_of Names p w y q)
  unfolding refs.inform_of
  own_inform_of p w y (Away h n true) e = own_out w (Elsewhere p h) e
  own_inform_of p w y other e = own_told p w y e

  pub own_inform : (p : Name) (w : ℕ) → host_of p ≡ v → Gentle KeepsOwn (refs.inform Names p w)
  unfolding refs.inform
  own_inform p w e = own_bind (own_look _) (λ y. own_bind (own_look _) (λ q. own_bind (own_look _) (λ gone. own_if gone (own_give tt) (own_inform_of p w y q e))))

  own_settle_known : (settle : Name → Value Name → Act Name (Unit {0})) → OwnSettler settle → (p : Name) (y : Value Name) (k : Known Name) → k.name ≡ p → IsOwnKnown v k → Gentle KeepsOwn (refs.settle_known Names settle p y k)
  unfolding refs.settle_known
  own_settle_known settle good p y k e h = own_then (own_tell _) (own_then (own_settled y p) (own_then (own_each (IsOwnMail v) k.held h.1 (λ m i. own_send_on settle good m i))
      (own_then (own_all k.waiting (λ q. good q y)) (own_then (own_each (IsOwnMail v) k.reactions h.2 (λ m i. own_enqueue m i)) (own_each (λ (w : ℕ). host_of k.name ≡ v) k.told h.3 (λ w i. own_inform p w (ap host_of (sym e) ∙ i)))))))

  own_standing : (settle : Name → Value Name → Act Name (Unit {0})) → OwnSettler settle → (p : Name) (y : Value Name) (k : Known Name) (t : Standing Name) → k.name ≡ p → IsOwnKnown v k → Gentle KeepsOwn (refs.settle_standing Names settle p y k t)
  unfolding refs.settle_standing
  own_standing settle good p y k (Settled z) e h = own_give tt
  own_standing settle good p y k other e h = own_settle_known settle good p y k e h

  gives_entry : (settle : Name → Value Name → Act Name (Unit {0})) → OwnSettler settle → (p : Name) (y : Value Name) (o : Option (Known Name)) (s : Vat Name) → entry_of Names s.known p ≡ o → GivesBy KeepsOwn s (refs.settle_entry Names settle p y o s)
  unfolding refs.settle_entry give
  gives_entry settle good p y None s e = λ o. (o, λ n w. inl w)
  gives_entry settle good p y (Some k) s e = with_own s (refs.settle_standing Names settle p y k k.standing s) (λ o. (own_standing settle good p y k k.standing (entry_name s.known p k e) (found_own s.known p k o.2 e)).after s)

  own_settle_one : (settle : Name → Value Name → Act Name (Unit {0})) → OwnSettler settle → OwnSettler (refs.settle_one Names settle)
  unfolding refs.settle_one ◌>>=◌ look and_then
  own_settle_one settle good p y = record { after = λ s. gives_entry settle good p (refs.target_of Names s p y) (entry_of Names s.known p) s refl }

  own_settle_at : (d : ℕ) (p : Name) (y : Value Name) → Gentle KeepsOwn (refs.settle_at Names d p y)
  unfolding refs.settle_at
  own_settle_at zero p y = own_stop _
  own_settle_at (suc d) p y = own_settle_one (λ q z. refs.settle_at Names d q z) (λ q z. own_settle_at d q z) p y

  pub own_settle : (p : Name) (y : Value Name) → Gentle KeepsOwn (refs.settle Names p y)
  unfolding refs.settle
  own_settle p y = own_bind (own_look _) (λ n. own_settle_at n p y)

  own_wait_unless : (p q : Name) → IsFree p → Gentle KeepsOwn (refs.wait_unless_cycle Names p q)
  unfolding refs.wait_unless_cycle
  own_wait_unless p q f = own_bind (own_look _) (λ back. own_if back (own_settle p _) (own_wait_for p q f))

  own_resolve_to : (p : Name) (y : Value Name) (q : Place Name) → IsFree p → Gentle KeepsOwn (refs.resolve_to Names p y q)
  unfolding refs.resolve_to
  own_resolve_to p y (Mine q) f = own_wait_unless p q f
  own_resolve_to p y (Away h q false) f = own_wait_unless p q f
  own_resolve_to p y other f = own_settle p y

  pub own_resolve : (p : Name) (x : Value Name) → IsFree p → Gentle KeepsOwn (refs.resolve Names p x)
  unfolding refs.resolve
  own_resolve p x f = own_bind (own_look _) (λ y. own_bind (own_look _) (λ q. own_resolve_to p y q f))

  -- ---- resolving what neither settled nor waits

  open_wait : (p q : Name) (s : Vat Name) → standing_of Names s.known p ≡ Unsettled → GivesBy KeepsOwn s (refs.wait_on Names p q s)
  unfolding refs.wait_on ◌>>◌ and_then tell alter changed_to
  open_wait p q s e = λ o. let t : Vat Name = record s { happened = s.happened ++ Waits p q ∷ []; known = with_change Names (WaitOn q) p s.known } in
      let b = (own_wait p q).after t (o.0, o.1, all_changed (WaitOn q) p s.known o.2 (λ k i h. waits_own q k h), o.3, o.4, o.5) in
      (b.0, wakes_on word v IsFree s.known t.known (with_change Names (Wait p) q t.known) (open_wait_wakes word v IsFree q p s.known e) b.1)
    where
      waits_own : (q : Name) (k : Known Name) → IsOwnKnown v k → IsOwnKnown v (changed_to (WaitOn q) k)
      waits_own q k h = h

  open_if : (b : Bool) (p q : Name) (s : Vat Name) → standing_of Names s.known p ≡ Unsettled → GivesBy KeepsOwn s ((if b then refs.settle Names p (Broken (codes "cycle")) else refs.wait_on Names p q) s)
  open_if true p q s e = (own_settle p (Broken (codes "cycle"))).after s
  open_if false p q s e = open_wait p q s e

  open_unless : (p q : Name) (s : Vat Name) → standing_of Names s.known p ≡ Unsettled → GivesBy KeepsOwn s (refs.wait_unless_cycle Names p q s)
  unfolding refs.wait_unless_cycle ◌>>=◌ look and_then
  open_unless p q s e = open_if (refs.waits_lead Names (length s.known) s.known p q) p q s e

  open_resolve_to : (p : Name) (y : Value Name) (q : Place Name) (s : Vat Name) → standing_of Names s.known p ≡ Unsettled → GivesBy KeepsOwn s (refs.resolve_to Names p y q s)
  unfolding refs.resolve_to
  open_resolve_to p y (Mine q) s e = open_unless p q s e
  open_resolve_to p y (Away h q false) s e = open_unless p q s e
  open_resolve_to p y other s e = (own_settle p y).after s

  pub open_resolve : (p : Name) (x : Value Name) (s : Vat Name) → standing_of Names s.known p ≡ Unsettled → GivesBy KeepsOwn s (refs.resolve Names p x s)
  unfolding refs.resolve ◌>>=◌ look and_then
  open_resolve p x s e = open_resolve_to p (refs.follow Names s x) (place Names s (refs.follow Names s x)) s e
