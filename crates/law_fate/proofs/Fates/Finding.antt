-- What is sent on a value that the vat knows finds a place.
use Rattle.std.proofs.Common.{◌≡◌, ℕ, zero, suc, ◌+◌, Bool, true, false, List, [], ◌∷◌, ◌++◌, Option, Some, None, ◌⊎◌, inl, inr, refl, sym, ap, arith, length, subst}
use Rattle.std.specs.Prelude.{◌==◌}
use Rattle.def_machine.specs.Values.{Words, Value, Null, Flag, Number, Letter, Text, Prim, Broken, Items, Ref, Name, Root, Object, Promise, Answer, Gift, Sent, Naming, IsAnswer, IsSent, Spot, Own, Foreign, NoObject, naming, mail_of}
use Rattle.def_machine.specs.State.{Message, Standing, Unsettled, Viewed, Settled, Known, Change, Hold, React, Sends, Reacts, Vat, Done, Gives, Stops, ◌>>=◌, ◌>>◌, and_then, give, look, tell, with_change, changed, changed_to, unless_settled, alter, new_message, begun, is_in, new_lone_message}
use Rattle.def_machine.specs.Refs as refs
use Rattle.def_machine.specs.Refs.{Place, Near, Mine, Away, Gone, entry_of}
use Rattle.law_fate.specs.Fates.Fate.{one, among, at_names, at_vat, account}
use Rattle.law_fate.specs.Fates.Lasting.{Each, NamesMessage, NoPromise, SettledWell, KnownWell, AllWell}
use Rattle.law_fate.specs.Fates.Finding.{IsAmong, ViewIs, ViewsEndIn, ViewsEnd, IsKnown, Finds, SendsFindPlaces}
use Rattle.law_fate.proofs.Fates.Counts.{among_end, Waits}
use Rattle.law_fate.proofs.Fates.RunCounts.{pick}
use Rattle.law_fate.proofs.Fates.PlacesLast.{Global, PaysAt, cost_enqueue, pays_hold, pays_react}
use Rattle.law_fate.proofs.Fates.PlacesRefs.{Fits, IsEnd, fits_at, end_of, follow_last, severed_last, found_well, cost_deliver, cost_pass_on, cost_send_to, pays_settle, new_named, new_at, lone_at}
use Rattle.law_fate.proofs.Fates.PlacesSteps.{global_names}

module _ (K : Naming Name Name) (v : ℕ) (global : Global K v) where
  -- ---- where a value that is known leads

  -- to no promise, or to a name that did not settle
  abbrev Opened : List (Known Name) → Value Name → Type 0
  Opened ks y = NoPromise y ⊎ ((n : Name) × (k : Known Name) × (y ≡ Ref n) × (entry_of K ks n ≡ Some k) × Waits K k.standing)

  opens_led : (ks : List (Known Name)) (n : Name) (k : Known Name) (on : Value Name → Value Name) (P : Name → Type 0) (t : Standing Name) → k.standing ≡ t → SettledWell t → entry_of K ks n ≡ Some k → ViewIs K P ks t
      → ((y : Value Name) → NoPromise y → NoPromise (on y)) → ((q : Name) → P q → IsAmong K ks q → Opened ks (on (Ref q))) → Opened ks (refs.led K on n t)
  unfolding refs.led
  opens_led ks n k on P (Settled y) i h e g last more = inl (last y h)
  opens_led ks n k on P (Viewed q) i h e g last more = more q g.0 g.1
  opens_led ks n k on P other i h e g last more = inr (n, k, refl, e, rw i tt)

  standing_is : (ks : List (Known Name)) (n : Name) (k : Known Name) → entry_of K ks n ≡ Some k → refs.standing_of K ks n ≡ k.standing
  unfolding refs.standing_of refs.standing_in
  standing_is ks n k e = ap refs.standing_in e

  opens_at : (ks : List (Known Name)) (n : Name) (k : Known Name) (on : Value Name → Value Name) (P : Name → Type 0) → Each KnownWell ks → entry_of K ks n ≡ Some k → ViewIs K P ks (refs.standing_of K ks n)
      → ((y : Value Name) → NoPromise y → NoPromise (on y)) → ((q : Name) → P q → IsAmong K ks q → Opened ks (on (Ref q))) → Opened ks (refs.led K on n (refs.standing_of K ks n))
  opens_at ks n k on P w e g last more = let same = standing_is ks n k e in let found = found_well K v global n k ks e w in let well = found.0 in
      opens_led ks n k on P (refs.standing_of K ks n) (sym same) (subst SettledWell (sym same) well.standing) e g last more

  follow_opens : (d : ℕ) (ks : List (Known Name)) (n : Name) (k : Known Name) → Each KnownWell ks → entry_of K ks n ≡ Some k → ViewsEndIn K d ks n → Opened ks (refs.follow_at K (suc d) ks (Ref n))
  unfolding refs.follow_at
  follow_opens zero ks n k w e g = opens_at ks n k (λ y. refs.follow_at K zero ks y) (λ q. ⊥) w e g (λ y h. follow_last K v global zero ks y h w) (λ q p a. absurd p)
  follow_opens (suc d) ks n k w e g = opens_at ks n k (λ y. refs.follow_at K (suc d) ks y) (ViewsEndIn K d ks) w e g (λ y h. follow_last K v global (suc d) ks y h w) (λ q p a. follow_opens d ks q a.0 w a.1 p)

  by_opens : (ks : List (Known Name)) (n : Name) (k : Known Name) (t : Words) (b : Bool) → entry_of K ks n ≡ Some k → Waits K k.standing → Opened ks (pick b (Broken t) (Ref n))
  by_opens ks n k t true e i = inl tt
  by_opens ks n k t false e i = inr (n, k, refl, e, i)

  spot_opens : (s : Vat Name) (n : Name) (k : Known Name) (p : Spot) → entry_of K s.known n ≡ Some k → Waits K k.standing → Opened s.known (refs.severed_at K s n p)
  unfolding refs.severed_at refs.severed_by
  spot_opens s n k (Own i) e h = inr (n, k, refl, e, h)
  spot_opens s n k (Foreign u) e h = by_opens s.known n k _ (is_in u s.noticed) e h
  spot_opens s n k NoObject e h = by_opens s.known n k _ (is_in (refs.host_at K s.number s.known n) s.noticed) e h

  severed_opens : (s : Vat Name) (y : Value Name) → Opened s.known y → Opened s.known (refs.severed K s y)
  unfolding refs.severed
  severed_opens s y (inl h) = inl (severed_last K v global s y h)
  severed_opens s y (inr h) = subst (λ z. Opened s.known (refs.severed K s z)) (sym h.2) (spot_opens s h.0 h.1 (K.spot h.0) h.3 h.4)

  named_opens : (s : Vat Name) (n : Name) → AllWell s → ViewsEnd K s → IsAmong K s.known n → Opened s.known (refs.follow_at K (suc (length s.known)) s.known (Ref n))
  named_opens s n w end a = follow_opens (length s.known) s.known n a.0 w.0 a.1 (end n)

  last_opens : (s : Vat Name) (y : Value Name) → AllWell s → NoPromise y → Opened s.known (refs.follow_at K (suc (length s.known)) s.known y)
  last_opens s y w h = inl (follow_last K v global (suc (length s.known)) s.known y h w.0)

  known_opens : (s : Vat Name) (y : Value Name) → AllWell s → ViewsEnd K s → IsKnown K s y → Opened s.known (refs.follow_at K (suc (length s.known)) s.known y)
  known_opens s (Ref (Object h i)) w end g = last_opens s (Ref (Object h i)) w tt
  known_opens s (Ref (Root h)) w end g = named_opens s (Root h) w end g
  known_opens s (Ref (Promise h i)) w end g = named_opens s (Promise h i) w end g
  known_opens s (Ref (Answer h m)) w end g = named_opens s (Answer h m) w end g
  known_opens s (Ref (Gift h i)) w end g = named_opens s (Gift h i) w end g
  known_opens s (Ref (Sent m)) w end g = named_opens s (Sent m) w end g
  known_opens s Null w end g = last_opens s Null w tt
  known_opens s (Flag b) w end g = last_opens s (Flag b) w tt
  known_opens s (Number z) w end g = last_opens s (Number z) w tt
  known_opens s (Letter c) w end g = last_opens s (Letter c) w tt
  known_opens s (Text t) w end g = last_opens s (Text t) w tt
  known_opens s (Prim n) w end g = last_opens s (Prim n) w tt
  known_opens s (Broken p) w end g = last_opens s (Broken p) w tt
  known_opens s (Items k) w end g = last_opens s (Items k) w tt

  followed_opens : (s : Vat Name) (y : Value Name) → AllWell s → ViewsEnd K s → IsKnown K s y → Opened s.known (refs.follow K s y)
  unfolding refs.follow
  followed_opens s y w end g = severed_opens s (refs.follow_at K (suc (length s.known)) s.known y) (known_opens s y w end g)

  -- ---- where it is then

  -- where something may be held or react, the name did not settle
  abbrev OpenAt : List (Known Name) → Place Name → Type 0
  OpenAt ks (Mine n) = (k : Known Name) × (entry_of K ks n ≡ Some k) × Waits K k.standing
  OpenAt ks (Away h n false) = (k : Known Name) × (entry_of K ks n ≡ Some k) × Waits K k.standing
  OpenAt ks other = Unit {0}

  end_open : (ks : List (Known Name)) (p : Place Name) → IsEnd p → OpenAt ks p
  end_open ks (Mine n) h = absurd h
  end_open ks (Away h n true) i = tt
  end_open ks (Away h n false) i = absurd i
  end_open ks other h = tt

  hosted_at : (ks : List (Known Name)) (n : Name) (h : ℕ) (b : Bool) → ((k : Known Name) × (entry_of K ks n ≡ Some k) × Waits K k.standing) → OpenAt ks (pick b (Mine n) (Away h n false))
  hosted_at ks n h true g = g
  hosted_at ks n h false g = g

  spotted_at : (s : Vat Name) (n : Name) (p : Spot) → ((k : Known Name) × (entry_of K s.known n ≡ Some k) × Waits K k.standing) → OpenAt s.known (refs.spotted K s n p)
  unfolding refs.spotted refs.hosted
  spotted_at s n NoObject g = hosted_at s.known n _ (s.number == refs.host_at K s.number s.known n) g
  spotted_at s n other g = tt

  place_opens : (s : Vat Name) (y : Value Name) → Opened s.known y → OpenAt s.known (refs.place K s y)
  unfolding refs.place
  place_opens s y (inl h) = end_open s.known (refs.place K s y) (end_of K v global s y h)
  place_opens s y (inr h) = subst (λ z. OpenAt s.known (refs.place K s z)) (sym h.2) (spotted_at s h.0 (K.spot h.0) (h.1, h.3, h.4))

  -- what is held is one more
  at_known : Name → Known Name → ℕ
  at_known x k = among x k.held + among x k.reactions

  holds_one : (x : Name) (m : Message Name) (k : Known Name) (t : Standing Name) → Waits K t → at_known x (unless_settled t k (changed_to (Hold m) k)) ≡ at_known x k + one m.id x
  unfolding unless_settled changed_to at_known
  holds_one x m k (Settled y) h = absurd h
  holds_one x m k other h = let more = among_end x k.held m in omega arith

  reacts_one : (x : Name) (m : Message Name) (k : Known Name) (t : Standing Name) → Waits K t → at_known x (unless_settled t k (changed_to (React m) k)) ≡ at_known x k + one m.id x
  unfolding unless_settled changed_to at_known
  reacts_one x m k (Settled y) h = absurd h
  reacts_one x m k other h = let more = among_end x k.reactions m in omega arith

  module _ (x : Name) (c : Change Name) (more : ℕ) (adds : (k : Known Name) → Waits K k.standing → at_known x (unless_settled k.standing k (changed_to c k)) ≡ at_known x k + more) where
    adds_where : (k j : Known Name) (ks js : List (Known Name)) (o : Option (Known Name)) (b : Bool) → pick b (Some j) o ≡ Some k → Waits K k.standing → (o ≡ Some k → at_names x js ≡ at_names x ks + more)
        → at_names x (pick b (changed c j ∷ ks) (j ∷ js)) ≡ at_known x j + at_names x ks + more
    unfolding at_names changed at_known
    adds_where k j ks js o true e h rest = let same : k ≡ j = cc in let add = adds j (subst (λ i. Waits K i.standing) same h) in omega arith
    adds_where k j ks js o false e h rest = let add = rest e in omega arith

    change_adds : (n : Name) (k : Known Name) (ks : List (Known Name)) → entry_of K ks n ≡ Some k → Waits K k.standing → at_names x (with_change K c n ks) ≡ at_names x ks + more
    unfolding with_change entry_of at_names at_known
    change_adds n k [] e h = cc
    change_adds n k (j ∷ ks) e h = adds_where k j ks (with_change K c n ks) (entry_of K ks n) (K.same j.name n) e h (λ i. change_adds n k ks i h)

  module _ (cut : ℕ → Bool) (x : Name) where
    holds_at : (s : Vat Name) (m : Message Name) (n : Name) (k : Known Name) → m.target ≡ Ref n → NamesMessage m.id → entry_of K s.known n ≡ Some k → Waits K k.standing → AllWell s → PaysAt cut x (one m.id x) s (alter K (Hold m) n s)
    unfolding alter account at_vat
    holds_at s m n k f g e h w = let well = (pays_hold cut x K v global m n (f, g)).after s w in let add = change_adds x (Hold m) (one m.id x) (λ j i. holds_one x m j j.standing i) n k s.known e h in (well.0, omega arith)

    reacts_at : (s : Vat Name) (m : Message Name) (n : Name) (k : Known Name) → entry_of K s.known n ≡ Some k → Waits K k.standing → AllWell s → PaysAt cut x (one m.id x) s (alter K (React m) n s)
    unfolding alter account at_vat
    reacts_at s m n k e h w = let well = (pays_react cut x K v global m n).after s w in let add = change_adds x (React m) (one m.id x) (λ j i. reacts_one x m j j.standing i) n k s.known e h in (well.0, omega arith)

    first_at : (s : Vat Name) (m : Message Name) (y : Value Name) (p : Place Name) → NamesMessage m.id → Fits y p → OpenAt s.known p → AllWell s → PaysAt cut x (one m.id x) s (refs.send_first K m y p s)
    unfolding refs.send_first refs.send_to
    first_at s m y (Away h n o) g f q w = (cost_deliver K v global cut x m h n g).after s w
    first_at s m y Near g f q w = (cost_enqueue cut x (record m { target = y })).after s w
    first_at s m y (Mine n) g f q w = holds_at s (record m { target = y }) n q.0 f g q.1 q.2 w
    first_at s m y (Gone p) g f q w = (cost_send_to K v global cut x (refs.settle K) (pays_settle K v global cut x) m y (Gone p) g tt).after s w

    react_at : (s : Vat Name) (m : Message Name) (p : Place Name) → OpenAt s.known p → AllWell s → PaysAt cut x (one m.id x) s (refs.react_at K m p s)
    unfolding refs.react_at
    react_at s m (Mine n) q w = reacts_at s m n q.0 q.1 q.2 w
    react_at s m (Away h n false) q w = reacts_at s m n q.0 q.1 q.2 w
    react_at s m other q w = (cost_enqueue cut x m).after s w

    to_at : (s : Vat Name) (m : Message Name) (y : Value Name) (p : Place Name) → NamesMessage m.id → Fits y p → OpenAt s.known p → AllWell s → PaysAt cut x (one m.id x) s (refs.send_to K (refs.settle K) m y p s)
    unfolding refs.send_to
    to_at s m y (Away h n o) g f q w = (cost_pass_on K v global cut x m h n g).after s w
    to_at s m y (Mine n) g f q w = holds_at s (record m { target = y }) n q.0 f g q.1 q.2 w
    to_at s m y Near g f q w = (cost_enqueue cut x (record m { target = y })).after s w
    to_at s m y (Gone p) g f q w = (cost_send_to K v global cut x (refs.settle K) (pays_settle K v global cut x) m y (Gone p) g tt).after s w

    -- a message on a value that the vat knows, sent on
    pub send_on_finds : (s : Vat Name) (m : Message Name) → AllWell s → ViewsEnd K s → NamesMessage m.id → IsKnown K s m.target → PaysAt cut x (one m.id x) s (refs.send_on K (refs.settle K) m s)
    unfolding refs.send_on ◌>>=◌ and_then look
    send_on_finds s m w end g known = let y = refs.follow K s m.target in to_at s m y (refs.place K s y) g (fits_at K v global s y (refs.place K s y) refl) (place_opens s y (followed_opens s m.target w end known)) w

    entry_later : (ks js : List (Known Name)) (n : Name) (k : Known Name) → entry_of K ks n ≡ Some k → entry_of K (ks ++ js) n ≡ Some k
    unfolding entry_of
    entry_later [] js n k e = cc
    entry_later (j ∷ ks) js n k e = go (K.same j.name n) e (λ i. entry_later ks js n k i)
      where
        go : (b : Bool) → pick b (Some j) (entry_of K ks n) ≡ Some k → (entry_of K ks n ≡ Some k → entry_of K (ks ++ js) n ≡ Some k) → pick b (Some j) (entry_of K (ks ++ js) n) ≡ Some k
        go true h i = h
        go false h i = i h

    open_later : (ks js : List (Known Name)) (p : Place Name) → OpenAt ks p → OpenAt (ks ++ js) p
    open_later ks js (Mine n) q = (q.0, entry_later ks js n q.0 q.1, q.2)
    open_later ks js (Away h n false) q = (q.0, entry_later ks js n q.0 q.1, q.2)
    open_later ks js other q = tt

    then_gives : {A : Type 0} (c : ℕ) (s : Vat Name) (r : Done Name (Unit {0})) (a : A) → PaysAt cut x c s r → PaysAt cut x c s (and_then r (λ _. give a))
    unfolding and_then give
    then_gives c s (Gives u t) a h = h
    then_gives c s other a h = h

    sends_at : (s : Vat Name) → AllWell s → ViewsEnd K s → (act : ℕ) (y : Value Name) (verb : Words) (args : List (Value Name)) → IsKnown K s y → PaysAt cut x (one (K.mailed (IsSent s.messages) (length s.mails)) x) s (refs.send K act y verb args s)
    unfolding refs.send ◌>>=◌ ◌>>◌ and_then look tell new_message
    sends_at s w end act y verb args g = let z = refs.follow K s y in let p = refs.place K s z in let id = K.mailed (IsSent s.messages) (length s.mails) in let named = new_named K v global cut x s.messages (length s.mails) in
        let ready : OpenAt s.known p = place_opens s z (followed_opens s y w end g) in
        new_at K v global cut x (one id x) s (refs.answer_host K s.number p) id (length s.known) (Sends act _) _ named w (λ u. then_gives (one id x) _ _ _ (first_at _ _ z p named (fits_at K v global s z p refl) (open_later s.known _ p ready) u))

    lones_at : (s : Vat Name) → AllWell s → ViewsEnd K s → (act : ℕ) (y : Value Name) (verb : Words) (args : List (Value Name)) → IsKnown K s y → PaysAt cut x (one (K.mailed (IsSent s.messages) (length s.mails)) x) s (refs.send_only K act y verb args s)
    unfolding refs.send_only ◌>>=◌ ◌>>◌ and_then look tell new_lone_message
    lones_at s w end act y verb args g = let z = refs.follow K s y in let p = refs.place K s z in let id = K.mailed (IsSent s.messages) (length s.mails) in let named = new_named K v global cut x s.messages (length s.mails) in
        let ready : OpenAt s.known p = place_opens s z (followed_opens s y w end g) in
        lone_at K v global cut x (one id x) s id (Sends act _) _ w (λ u. then_gives (one id x) _ _ _ (first_at _ _ z p named (fits_at K v global s z p refl) ready u))

    -- ---- reactions, whose place is looked up with the answer known

    standing_where : (j : Known Name) (o q : Option (Known Name)) (b : Bool) → refs.standing_in o ≡ refs.standing_in q → refs.standing_in (pick b (Some j) o) ≡ refs.standing_in (pick b (Some j) q)
    standing_where j o q true h = refl
    standing_where j o q false h = h

    begun_where : (a : Name) (h : ℕ) (o : Option (Known Name)) (b : Bool) → o ≡ None → refs.standing_in (pick b (Some (begun a h)) o) ≡ Unsettled
    unfolding refs.standing_in begun
    begun_where a h o true e = refl
    begun_where a h o false e = ap refs.standing_in e

    standing_later : (ks : List (Known Name)) (a : Name) (h : ℕ) (n : Name) → refs.standing_of K (ks ++ begun a h ∷ []) n ≡ refs.standing_of K ks n
    unfolding refs.standing_of entry_of refs.standing_in
    standing_later [] a h n = begun_where a h None (K.same (begun a h).name n) refl
    standing_later (j ∷ ks) a h n = standing_where j (entry_of K (ks ++ begun a h ∷ []) n) (entry_of K ks n) (K.same j.name n) (standing_later ks a h n)

    view_later : (P Q : Name → Type 0) (ks js : List (Known Name)) → ((q : Name) → P q → Q q) → ((q : Name) → IsAmong K ks q → IsAmong K js q) → (t : Standing Name) → ViewIs K P ks t → ViewIs K Q js t
    view_later P Q ks js f g (Viewed q) h = (f q h.0, g q h.1)
    view_later P Q ks js f g other h = tt

    among_later : (ks : List (Known Name)) (a : Name) (h : ℕ) (q : Name) → IsAmong K ks q → IsAmong K (ks ++ begun a h ∷ []) q
    among_later ks a h q i = (i.0, entry_later ks (begun a h ∷ []) q i.0 i.1)

    ends_later : (d : ℕ) (ks : List (Known Name)) (a : Name) (h : ℕ) (n : Name) → ViewsEndIn K d ks n → ViewsEndIn K d (ks ++ begun a h ∷ []) n
    ends_later zero ks a h n e = view_later (λ q. ⊥) (λ q. ⊥) ks (ks ++ begun a h ∷ []) (λ q p. p) (among_later ks a h) (refs.standing_of K (ks ++ begun a h ∷ []) n) (subst (ViewIs K (λ q. ⊥) ks) (sym (standing_later ks a h n)) e)
    ends_later (suc d) ks a h n e = view_later (ViewsEndIn K d ks) (ViewsEndIn K d (ks ++ begun a h ∷ [])) ks (ks ++ begun a h ∷ []) (λ q p. ends_later d ks a h q p) (among_later ks a h) (refs.standing_of K (ks ++ begun a h ∷ []) n)
        (subst (ViewIs K (ViewsEndIn K d ks) ks) (sym (standing_later ks a h n)) e)

    ends_more : (d : ℕ) (ks : List (Known Name)) (n : Name) → ViewsEndIn K d ks n → ViewsEndIn K (suc d) ks n
    ends_more zero ks n e = view_later (λ q. ⊥) (ViewsEndIn K zero ks) ks ks (λ q p. absurd p) (λ q i. i) (refs.standing_of K ks n) e
    ends_more (suc d) ks n e = view_later (ViewsEndIn K d ks) (ViewsEndIn K (suc d) ks) ks ks (λ q p. ends_more d ks q p) (λ q i. i) (refs.standing_of K ks n) e

    length_end : (ks : List (Known Name)) (k : Known Name) → length (ks ++ k ∷ []) ≡ suc (length ks)
    length_end [] k = refl
    length_end (j ∷ ks) k = ap suc (length_end ks k)

    known_later : (s t : Vat Name) (a : Name) (h : ℕ) → t.known ≡ s.known ++ begun a h ∷ [] → (y : Value Name) → IsKnown K s y → IsKnown K t y
    known_later s t a h e (Ref (Root w)) g = rw e (among_later s.known a h (Root w) g)
    known_later s t a h e (Ref (Promise w i)) g = rw e (among_later s.known a h (Promise w i) g)
    known_later s t a h e (Ref (Answer w m)) g = rw e (among_later s.known a h (Answer w m) g)
    known_later s t a h e (Ref (Gift w i)) g = rw e (among_later s.known a h (Gift w i) g)
    known_later s t a h e (Ref (Sent m)) g = rw e (among_later s.known a h (Sent m) g)
    known_later s t a h e other g = tt

    views_later : (s t : Vat Name) (a : Name) (h : ℕ) → t.known ≡ s.known ++ begun a h ∷ [] → ViewsEnd K s → ViewsEnd K t
    views_later s t a h e end n = subst (λ ks. ViewsEndIn K (length ks) ks n) (sym e)
        (subst (λ d. ViewsEndIn K d (s.known ++ begun a h ∷ []) n) (sym (length_end s.known (begun a h))) (ends_more (length s.known) (s.known ++ begun a h ∷ []) n (ends_later (length s.known) s.known a h n (end n))))

    reaction_at : (s t : Vat Name) (a : Name) (h : ℕ) (m : Message Name) (y : Value Name) → t.known ≡ s.known ++ begun a h ∷ [] → ViewsEnd K s → IsKnown K s y → AllWell t → PaysAt cut x (one m.id x) t (refs.react_at K m (refs.place K t (refs.follow K t y)) t)
    reaction_at s t a h m y e end g w = react_at t m (refs.place K t (refs.follow K t y)) (place_opens t (refs.follow K t y) (followed_opens t y w (views_later s t a h e end) (known_later s t a h e y g))) w

    reacts_find : (s : Vat Name) → AllWell s → ViewsEnd K s → (act : ℕ) (y o near : Value Name) → IsKnown K s y → PaysAt cut x (one (K.mailed (IsSent s.messages) (length s.mails)) x) s (refs.react K act y o near s)
    unfolding refs.react refs.reaction ◌>>=◌ ◌>>◌ and_then look tell new_message
    reacts_find s w end act y o near g = let id = K.mailed (IsSent s.messages) (length s.mails) in let named = new_named K v global cut x s.messages (length s.mails) in
        new_at K v global cut x (one id x) s s.number id (length s.known) (Reacts act y o _) _ named w (λ u. then_gives (one id x) _ _ _ (reaction_at s _ (K.made (IsAnswer s.number id) (length s.known)) s.number _ y refl end g u))

finds_after : (cut : ℕ → Bool) (v : ℕ) (x : Name) (s : Vat Name) (d : Done Name (Value Name)) → PaysAt cut x (one (Sent (record { sender = v; number = s.messages })) x) s d → Finds cut v x s d
finds_after cut v x s (Gives a t) h = let i = h.1 in omega arith
finds_after cut v x s (Stops c t) h = tt
finds_after cut v x s other h = h

pub sends_find_places : SendsFindPlaces
unfolding naming mail_of
sends_find_places word v s cut x w end = (
  λ act y verb args g. finds_after cut v x s _ (sends_at (naming word v) v (global_names word v) cut x s w end act y verb args g),
  λ act y verb args g. finds_after cut v x s _ (lones_at (naming word v) v (global_names word v) cut x s w end act y verb args g),
  λ act y o near g. finds_after cut v x s _ (reacts_find (naming word v) v (global_names word v) cut x s w end act y o near g),
)
