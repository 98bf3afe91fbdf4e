-- A name settles to what is here, or breaks: what it held comes to the queue in its order, or is lost.
use Rattle.std.proofs.Common.{◌≡◌, ℕ, Bool, List, [], ◌∷◌, ◌++◌, Option, Some, None, refl, sym, ap, subst, ◌∙◌, ◌⊎◌, inl, inr, append_assoc}
use Rattle.std.proofs.lemmas.List.{append-nil}
use Rattle.std.specs.Prelude.{slice_get}
use Rattle.def_machine.specs.Values.{Words, Value, Broken, Items, Ref, Name, Naming}
use Rattle.def_machine.specs.State.{Message, Standing, Settled, Viewed, Known, Settles, Lost, Vat, Done, WhereSome}
use Rattle.def_machine.specs.State as state
use Rattle.def_machine.specs.Refs as refs
use Rattle.def_machine.specs.Refs.{Settler, Near, Gone, entry_of}
use Rattle.def_run.specs.World as world
use Rattle.def_run.specs.World.{Script, Event, World, names}
use Rattle.law_order.specs.Ordering.Ways.{Queue, Held, Way, Item, Place, Nowhere, End, Mid, Ways, Ahead}
use Rattle.law_order.specs.Ordering.Places.{item, queued, held_on, held_in, aimed, ways, amid}
use Rattle.law_order.specs.Ordering.Messages.{StandsAt, StaysBehind}
use Rattle.law_order.specs.Ordering.Settle.{IsHere, aimed_at, passed_by, settled_to}
use Rattle.law_order.specs.Ordering.Settlings.{with_line, CanSettle, LosesWell, SendsWell}
use Rattle.law_order.specs.Ordering.Steps.{WaysAmid, LeadsAmid, StaysInOrder}
use Rattle.law_order.specs.Ordering.Worlds.{IfGives, IsWaiting, AddsOnly}
use Rattle.law_order.proofs.Ordering.Adds.{alike_same, grown_adds}
use Rattle.law_order.proofs.Ordering.Onward.{retargeted, all_sent, leads_here, aimed_here, here_leads}
use Rattle.law_order.proofs.Ordering.OrderPassing.{leads_via}
use Rattle.law_order.proofs.Ordering.Sends.{if_map, if_both, chain}
use Rattle.law_order.proofs.Ordering.SettledPlaces.{here_so, nothing_so, sent_to, behind_queued}
use Rattle.law_order.proofs.Ordering.Standing.{queued_append, queued_end, queue_is, held_is}
use Rattle.law_order.proofs.Views.Settling.{IsOpen}
use Rattle.law_order.specs.Tales.Middle.{middle}
use Rattle.law_order.specs.Settling.Holding.{Holds}
use Rattle.law_order.proofs.Settling.Acts.{Told, told_self, told_then, line_told}
use Rattle.law_order.proofs.Settling.Block.{block_told}
use Rattle.law_order.proofs.Settling.Later.{NotHeld, holds_on}
use Rattle.law_order.proofs.Settling.LetsGo.{WentOn}

-- ---- lists

-- of what stands in the first or in the second
pub data Parts {A : Type 0} (xs ys b c : List A) (i : A) : Type 0 where
  in_first : (d : List A) → xs ≡ b ++ i ∷ d → Parts xs ys b c i
  in_second : (d : List A) → b ≡ xs ++ d → ys ≡ d ++ i ∷ c → Parts xs ys b c i

head_is : {A : Type 0} (x y : A) (xs ys : List A) → x ∷ xs ≡ y ∷ ys → (x ≡ y) × (xs ≡ ys)
head_is x y xs ys e = let a : x ≡ y = cc in let b : xs ≡ ys = cc in (a, b)

pub parts : {A : Type 0} (xs ys b c : List A) (i : A) → xs ++ ys ≡ b ++ i ∷ c → Parts xs ys b c i
parts [] ys b c i e = in_second b refl e
parts (x ∷ xs) ys [] c i e = let h = head_is x i (xs ++ ys) c e in in_first xs (ap (λ z. z ∷ xs) h.0)
parts {A} (x ∷ xs) ys (z ∷ b) c i e = let h = head_is x z (xs ++ ys) (b ++ i ∷ c) e in go h.0 (parts xs ys b c i h.1)
  where
    go : x ≡ z → Parts xs ys b c i → Parts (x ∷ xs) ys (z ∷ b) c i
    go f (in_first d g) = in_first d (ap (λ q. q ∷ xs) f ∙ ap (λ qs. z ∷ qs) g)
    go f (in_second d g k) = in_second d (ap (λ q. q ∷ b) (sym f) ∙ ap (λ qs. x ∷ qs) g) k

-- what was sent on to the name o stood there
pub record WasSent (o m n : Name) (js b c : List Item) : Type 0 where
  pub before : List Item
  pub aim : Name
  pub after : List Item
  pub split : js ≡ before ++ item m aim ∷ after
  pub front : b ≡ sent_to o before
  pub name : n ≡ o

nothing_at : {A : Type 0} (b c : List A) (i : A) → [] ≡ b ++ i ∷ c → ⊥
nothing_at [] c i e = cc
nothing_at (j ∷ b) c i e = cc

mail_is : (a b n o : Name) → item a n ≡ item b o → (a ≡ b) × (n ≡ o)
mail_is a b n o e = (ap (λ (i : Item). i.mail) e, ap (λ (i : Item). i.aim) e)

pub was_sent_on : (o m n : Name) (js b c : List Item) → sent_to o js ≡ b ++ item m n ∷ c → WasSent o m n js b c
unfolding sent_to
was_sent_on o m n [] b c e = absurd (nothing_at b c (item m n) e)
was_sent_on o m n (j ∷ js) [] c e = let h = head_is (item j.mail o) (item m n) (sent_to o js) c e in let f = mail_is j.mail m o n h.0 in
    record { before = []; aim = j.aim; after = js; split = ap (λ z. item z j.aim ∷ js) f.0; front = refl; name = sym f.1 }
was_sent_on o m n (j ∷ js) (z ∷ b) c e = let h = head_is (item j.mail o) z (sent_to o js) (b ++ item m n ∷ c) e in let f = was_sent_on o m n js b c h.1 in
    record { before = j ∷ f.before; aim = f.aim; after = f.after; split = ap (λ zs. j ∷ zs) f.split; front = ap (λ q. q ∷ b) (sym h.0) ∙ ap (λ qs. item j.mail o ∷ qs) f.front; name = f.name }

-- what comes to a queue as these are sent on
abbrev Moved : Value Name → Name → List (Message Name) → List Item
Moved (Ref o) p ms = sent_to o (held_on p ms)
Moved other p ms = []

one_queued : (y : Value Name) (p : Name) (q : List (Message Name)) (m : Message Name) → queued (q ++ record m { target = y } ∷ []) ≡ queued q ++ Moved y p (m ∷ [])
unfolding sent_to held_on queued
one_queued (Ref o) p q m = queued_end q (record m { target = Ref o }) o refl
one_queued y p q m = queued_append q (record m { target = y } ∷ [])

moved_more : (y : Value Name) (p : Name) (m : Message Name) (ms : List (Message Name)) → Moved y p (m ∷ ms) ≡ Moved y p (m ∷ []) ++ Moved y p ms
unfolding sent_to held_on
moved_more (Ref o) p m ms = refl
moved_more other p m ms = refl

pub all_queued : (y : Value Name) (p : Name) (q ms : List (Message Name)) → queued (retargeted y q ms) ≡ queued q ++ Moved y p ms
unfolding retargeted sent_to held_on
all_queued y p q [] = none y
  where
    none : (z : Value Name) → queued q ≡ queued q ++ Moved z p []
    none (Ref o) = sym (append-nil (queued q))
    none other = sym (append-nil (queued q))
all_queued y p q (m ∷ ms) = all_queued y p (q ++ record m { target = y } ∷ []) ms ∙ ap (λ js. js ++ Moved y p ms) (one_queued y p q m) ∙ append_assoc (queued q) (Moved y p (m ∷ [])) (Moved y p ms) ∙ ap (λ js. queued q ++ js) (sym (moved_more y p m ms))

-- ---- places

abbrev IsNoWay : Place → Type 0
IsNoWay (End (Way a b) n) = ⊥
IsNoWay other = Unit {0}

near_place : (v : ℕ) (y : Value Name) → NotHeld (aimed v y Near) × IsNoWay (aimed v y Near)
unfolding aimed
near_place v (Ref n) = (tt, tt)
near_place v other = (tt, tt)

waiting_open : (t : Standing Name) → IsWaiting t → IsOpen t
waiting_open (Viewed q) h = absurd h
waiting_open (Settled y) h = absurd h
waiting_open other h = tt

some_known : (j k : Known Name) → Some j ≡ Some k → j ≡ k
some_known j k e = cc

module _ (script : Script) (honest : ℕ → Bool) (w : World) (v : ℕ) (head : List Event) (L : Type 0) (r : Vat Name) (at : slice_get w.vats v ≡ Some r) where
  abbrev K : Naming Name Name
  K = names script v

  abbrev W : Vat Name → Ways
  W t = WaysAmid script honest w v t

  abbrev To : Vat Name → Vat Name → Type 0
  To s t = Told script honest w v head L s t

  module _ (p : Name) (y : Value Name) (k : Known Name) (s : Vat Name) (found : entry_of K s.known p ≡ Some k) (h : CanSettle script honest w v y p k s) (excuse : (j : ℕ) → y ≡ Items j → L) (holds : Holds script honest w v head s) where
    abbrev T : Vat Name
    T = settled_to K s p y

    abbrev E : Place
    E = aimed_at script v T y

    pub open_still : IsOpen k.standing
    open_still = let b = h.0.only.before in waiting_open k.standing (subst (λ (j : Known Name). IsWaiting j.standing) (some_known b.0 k (sym b.1 ∙ found)) b.2)

    leads_settled : (u : ℕ) (x : Value Name) → LeadsAmid script honest w v T u x ≡ passed_by v p E (LeadsAmid script honest w v s u x)
    unfolding amid
    leads_settled u x = leads_via script honest w.vats (world.push_all v s.outbox w.links) v r s T p y at h.0 u x

    -- ---- to what is here

    module _ (here : IsHere K y) where
      abbrev Q : List (Message Name)
      Q = retargeted y s.queue k.held

      abbrev Sent : Vat Name
      Sent = record T { queue = Q }

      queue_more : queued Q ≡ queued s.queue ++ Moved y p k.held
      queue_more = all_queued y p s.queue k.held

      adds : AddsOnly K T Sent
      adds = record {
        alike = alike_same K T Sent refl refl refl refl;
        queue = (Moved y p k.held, queue_more);
        held = λ n. ([], sym (append-nil (held_in n (entry_of K T.known n))));
        notes = ([], sym (append-nil s.outbox), tt);
      }

      leads_then : (u : ℕ) (x : Value Name) → LeadsAmid script honest w v Sent u x ≡ passed_by v p E (LeadsAmid script honest w v s u x)
      leads_then u x = (grown_adds script honest w v T Sent adds).leading u x ∙ leads_settled u x

      aim : E ≡ aimed v y Near
      aim = aimed_here script honest w v r s p y k at h.0 found here

      place : NotHeld E × IsNoWay E
      place = subst (λ c. NotHeld c × IsNoWay c) (sym aim) (near_place v y)

      order : StaysInOrder script honest w v s Sent
      order = here_so script honest w v r s p y at h.0 k found here h.2

      lead_object : (o : Name) → y ≡ Ref o → (n : Name) → StaysBehind (W s) (W Sent) ((W s).onward (Held v p) n) (Mid (Queue v) (queued s.queue) o)
      unfolding aimed
      lead_object o e n = subst (λ a. StaysBehind (W s) (W Sent) ((W s).onward (Held v p) n) (Mid (Queue v) a o)) (queue_is script honest w v r at s)
          (here_leads script honest w v r s p y k at h.0 found here h.2 n (Queue v) o (aim ∙ ap (λ z. aimed v z Near) e))

      abbrev Went : Name → List Item → Name → Type 0
      Went m b n = WentOn script honest (middle w v head s) (middle w v head Sent) v p m (Queue v) b n

      moved_back : (z : Value Name) → y ≡ z → (m : Name) (b c d : List Item) (n : Name) → b ≡ queued s.queue ++ d → Moved z p k.held ≡ d ++ item m n ∷ c → Went m b n
      unfolding ways amid
      moved_back (Ref o) e m b c d n f i = let q = was_sent_on o m n (held_on p k.held) d c i in
          record {
            before = q.before;
            aim = q.aim;
            stood = record { behind = q.after; found = held_is script honest w v r at s p k found ∙ q.split };
            behind = λ a j. subst (λ z. Ahead (W Sent) a (Mid (Queue v) z n)) (sym (f ∙ ap (λ ds. queued s.queue ++ ds) q.front))
                (subst (λ z. Ahead (W Sent) a (Mid (Queue v) (queued s.queue ++ sent_to o q.before) z)) (sym q.name)
                ((behind_queued (W s) (W Sent) (Held v p) (Queue v) q.aim o (queued s.queue) q.before (lead_object o e q.aim)).1 a j));
          }
      moved_back other e m b c d n f i = absurd (nothing_at d c (item m n) i)

      queue_back : (m : Name) (b : List Item) (n : Name) → StandsAt (W Sent) m (Queue v) b n → StandsAt (W s) m (Queue v) b n ⊎ Went m b n
      queue_back m b n i = go (parts (queued s.queue) (Moved y p k.held) b i.behind (item m n) (sym (queue_is script honest w v r at Sent ∙ queue_more) ∙ i.found))
        where
          go : Parts (queued s.queue) (Moved y p k.held) b i.behind (item m n) → StandsAt (W s) m (Queue v) b n ⊎ Went m b n
          go (in_first d e) = inl (record { behind = d; found = queue_is script honest w v r at s ∙ e })
          go (in_second d e f) = inr (moved_back y refl m b i.behind d n e f)

      sent_told : To s Sent
      sent_told = block_told script honest w v head L r at s p y k found open_still h.0 excuse Q order leads_then place.0 (λ a n e. absurd (subst IsNoWay e place.1)) queue_back

      line_same : (t : Vat Name) (e : state.Happened Name) → (refs.follow K t (Ref p) ≡ y) × (refs.place K t y ≡ Near) → (refs.follow K (with_line t e) (Ref p) ≡ y) × (refs.place K (with_line t e) y ≡ Near)
      unfolding refs.follow refs.severed refs.severed_at refs.severed_by refs.place refs.spotted
      line_same t e i = i

      pub here_told : (settle : Settler {N = Name} {W = Name} K) → IfGives (λ t. To s t) (state.each (refs.send_on K settle) k.held (settled_to K (with_line s (Settles p y)) p y))
      here_told settle = subst (λ d. IfGives (λ t. To s t) d) (sym (all_sent K settle p y k.held (settled_to K (with_line s (Settles p y)) p y) h.1 (line_same T (Settles p y) (leads_here script honest w v r s p y k at h.0 found here))))
          (told_then script honest w v head L s Sent (with_line Sent (Settles p y)) sent_told (line_told script honest w v head L Sent (Settles p y) tt (order.0 holds.ready)))

    -- ---- to nothing

    module _ (nothing : E ≡ Nowhere) where
      nowhere_order : StaysInOrder script honest w v s T
      nowhere_order = nothing_so script honest w v r s p y at h.0 nothing h.2

      nothing_told : To s T
      nothing_told = block_told script honest w v head L r at s p y k found open_still h.0 excuse s.queue nowhere_order leads_settled (subst NotHeld (sym nothing) tt) (λ a n e. absurd (subst IsNoWay (sym nothing ∙ e) tt))
          (λ m b n i. inl (record { behind = i.behind; found = queue_is script honest w v r at s ∙ (sym (queue_is script honest w v r at T) ∙ i.found) }))

      pub gone_told : To s (settled_to K (with_line s (Settles p y)) p y)
      gone_told = told_then script honest w v head L s T (with_line T (Settles p y)) nothing_told (line_told script honest w v head L T (Settles p y) tt (nowhere_order.0 holds.ready))

  -- ---- what is lost

  module _ (x : Words) (R : Name → Vat Name → Type 0) (settle : Settler {N = Name} {W = Name} K) (each_told : (q : Name) (s : Vat Name) → R q s → Holds script honest w v head s → IfGives (λ t. To s t) (settle q (Broken x) s)) where
    from_there : {A : Type 0} (s t : Vat Name) (d : Done Name A) → To s t → IfGives (λ u. To t u) d → IfGives (λ u. To s u) d
    from_there s t d g i = if_map (λ u. To t u) (λ u. To s u) (λ u j. told_then script honest w v head L s t u g j) d i

    answered : (s : Vat Name) (o : Option Name) → WhereSome (λ a. R a s) o → Holds script honest w v head s → IfGives (λ t. To s t) (state.for_some o (λ a. settle a (Broken x)) (state.give tt) s)
    unfolding state.for_some state.give
    answered s (Some a) g i = each_told a s g i
    answered s None g i = told_self script honest w v head L s

    lost_to : (m : Message Name) (s : Vat Name) → WhereSome (λ a. R a (with_line s (Lost m.id))) m.answer → Holds script honest w v head s → IfGives (λ t. To s t) (refs.send_to K settle m (Broken x) (Gone x) s)
    unfolding refs.send_to state.◌>>◌ state.and_then state.tell
    lost_to m s g i = let t : Vat Name = with_line s (Lost m.id) in let first = line_told script honest w v head L s (Lost m.id) tt i.ready in
        from_there s t (state.for_some m.answer (λ a. settle a (Broken x)) (state.give tt) t) first (answered t m.answer g (holds_on script honest w v head L s t first.later i))

    lost_on : (m : Message Name) (s : Vat Name) → LosesWell script honest w v (Broken x) R (Broken x) m s → Holds script honest w v head s → IfGives (λ t. To s t) (refs.send_on K settle m s)
    unfolding refs.send_on state.◌>>=◌ state.and_then state.look refs.place
    lost_on m s g i = subst (λ z. IfGives (λ t. To s t) (refs.send_to K settle m z (refs.place K s z) s)) (sym g.0) (lost_to m s g.1 i)

    pub all_lost : (ms : List (Message Name)) (s : Vat Name) → SendsWell script honest w v (Broken x) R settle ms s → Holds script honest w v head s → IfGives (λ t. To s t) (state.each (refs.send_on K settle) ms s)
    unfolding state.each state.◌>>◌ state.give
    all_lost [] s g i = told_self script honest w v head L s
    all_lost (m ∷ ms) s g i = chain (λ t. To s t × SendsWell script honest w v (Broken x) R settle ms t) (λ t. To s t) (refs.send_on K settle m s) (state.each (refs.send_on K settle) ms)
        (if_both (λ t. To s t) (λ t. SendsWell script honest w v (Broken x) R settle ms t) (refs.send_on K settle m s) (lost_on m s g.0 i) g.1)
        (λ t j. from_there s t (state.each (refs.send_on K settle) ms t) j.0 (all_lost ms t j.1 (holds_on script honest w v head L s t j.0.later i)))
