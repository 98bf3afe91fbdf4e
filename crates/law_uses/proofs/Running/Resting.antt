-- In a turn no name settles to what is not broken, but the vat's own and those that are new.
use Rattle.std.proofs.Common.{◌≡◌, ℕ, ◌≤◌, arith, true, List, [], ◌∷◌, ◌++◌, Some, refl, sym, ap, ◌∙◌, subst, ◌⊎◌, inl, inr}
use Rattle.def_machine.specs.Values.{Words, Value, Broken, Ref, Name, Object, Answer, Own as IsOwn, Naming, naming, spot_of, answer_of, mail_of, name_of}
use Rattle.def_machine.specs.State.{Message, Known, Viewed, Settled, Happened, Sends, Settles, Waits, Views, PromiseMade, Vat}
use Rattle.def_machine.specs.Refs.{standing_of}
use Rattle.law_machine.specs.Machine.Steps.{Step, Receives, Notices}
use Rattle.def_run.specs.World as world
use Rattle.def_run.specs.World.{Script, World, names}
use Rattle.law_fate.proofs.Name.SameNames.{reference_is}
use Rattle.law_uses.specs.Connectivity.Known.{IsAmong, AreOne, Start, Holdings, Leads, Reaches}
use Rattle.law_uses.specs.Connectivity.Known as machine
use Rattle.law_uses.specs.Connectivity.Settlings.{HasAnswer, IsGiven, Follows, Becomes, SettlesWell, WaitsWell, WaitsFor, Says, ViewsBy, IsResolver}
use Rattle.law_uses.specs.Connectivity.Settlings as settlings
use Rattle.law_uses.specs.Connectivity.Connected.{LineWell, ConnectedAfter, Connected, held_from}
use Rattle.law_uses.specs.Connectivity.Begotten.{LineOf}
use Rattle.law_uses.specs.Running.Running.{SettledWay, WaysAreSettled}
use Rattle.law_uses.specs.Running.Running as way
use Rattle.law_uses.specs.Running.Resting.{IsTurn, WasKnown, NamesRest}
use Rattle.law_uses.proofs.Running.Course.{end_none, joined}
use Rattle.law_uses.proofs.Running.Ran.{own_object}
use Rattle.law_uses.proofs.Running.Steps.{line_tells}

abbrev IsBroken : Value Name → Type 0
IsBroken y = (t : Words) × (y ≡ Broken t)

module _ {script : Script} {w : World} {v : ℕ} {e : Happened Name} (l : LineOf script w v e) where
  abbrev K : Naming Name Name
  K = names script v

  abbrev E : Start Name Name
  E = record { step = l.step; vat = l.before }

  abbrev H : Holdings Name Name
  H = held_from l.step l.before l.after

  -- each line of connected lines is well
  well_at : (so es s rest : List (Happened Name)) (f : Happened Name) → ConnectedAfter K H so es → es ≡ s ++ f ∷ rest → LineWell K H (so ++ s) f
  well_at so [] [] rest f c q = cc
  well_at so [] (x ∷ s) rest f c q = cc
  well_at so (x ∷ es) [] rest f c q = let same : x ≡ f = cc in subst (λ z. LineWell K H z f) (sym (end_none so)) (subst (λ z. LineWell K H so z) same c.0)
  well_at so (x ∷ es) (y ∷ s) rest f c q = let same : x ≡ y = cc in let more : es ≡ s ++ f ∷ rest = cc in
      subst (λ z. LineWell K H z f) (joined so (y ∷ []) s) (well_at (so ++ y ∷ []) es s rest f (subst (λ z. ConnectedAfter K H (so ++ z ∷ []) es) same c.1) more)

  module _ (Own : Name → Type 0) (rest : NamesRest Own l) (wells : Connected K H l.after.happened) where
    -- a name that was known and is not the vat's own
    abbrev Bad : Name → Type 0
    Bad p = WasKnown l.before.known p × (Own p → ⊥)

    no_words : (n : Name) (t : Words) → ◌≡◌ {A = Value Name} (Ref n) (Broken t) → ⊥
    no_words n t q = cc

    lead_name : (so : List (Happened Name)) (x y : Value Name) (t : Words) → Leads K l.before.known so x y → x ≡ Broken t → ⊥
    lead_name so x y t (machine.settled {n = n} i) q = no_words n t q
    lead_name so x y t (machine.viewed {n = n} i) q = no_words n t q
    lead_name so x y t (machine.settles {n = n} p i one) q = no_words n t q
    lead_name so x y t (machine.views {n = n} p i one) q = no_words n t q

    from_broken : (so : List (Happened Name)) (x z : Value Name) (t : Words) → x ≡ Broken t → Reaches K l.before.known so x z → z ≡ Broken t
    from_broken so x z t q machine.itself = q
    from_broken so x z t q (machine.onward y i r) = absurd (lead_name so x y t i q)

    follows_broken : (so : List (Happened Name)) (x z : Value Name) → IsBroken x → Follows K E so x z → IsBroken z
    follows_broken so x z b (inl r) = (b.0, from_broken so x z b.0 b.1 r)
    follows_broken so x z b (inr r) = (_, r.1)

    becomes_broken : (so : List (Happened Name)) (p : Name) (x y : Value Name) → IsBroken x → Becomes K E so p x y → IsBroken y
    becomes_broken so p x y b (inl f) = follows_broken so x y b f
    becomes_broken so p x y b (inr f) = (_, f.3)

    -- ---- the lines of a turn

    no_views : (so : List (Happened Name)) (p q : Name) (step : Step Name Name) → IsTurn step → ViewsBy K E step p q → ⊥
    no_views so p q (Receives from n) t h = t
    no_views so p q (Notices u) t h = t
    no_views so p q other t h = h

    no_says : (so : List (Happened Name)) (p : Name) (x : Value Name) (step : Step Name Name) → IsTurn step → Says K E so step p x → ⊥
    no_says so p x (Receives from n) t h = t
    no_says so p x (Notices u) t h = t
    no_says so p x other t h = h

    no_arrival : (from : ℕ) (n : _) (step : Step Name Name) → IsTurn step → step ≡ Receives from n → ⊥
    no_arrival from n (Receives u x) t q = t
    no_arrival from n (Notices u) t q = t
    no_arrival from n other t q = cc

    -- so far a name that was known and is not the vat's own settled to what is broken alone, and none came to wait or be viewed
    pub record Left (so : List (Happened Name)) : Type 0 where
      pub settled : (p : Name) (y : Value Name) → Bad p → IsAmong (Settles p y) so → IsBroken y
      pub waited : (p q : Name) → Bad p → IsAmong (Waits p q) so → ⊥
      pub viewed : (p q : Name) → IsAmong (Views p q) so → ⊥
      pub made : (a : ℕ) (p r : Name) → IsAmong (PromiseMade a p r) so → Own p
      pub sent : (a : ℕ) (m : Message Name) (p : Name) → IsAmong (Sends a m) so → m.answer ≡ Some p → Bad p → ⊥

    one_name : (so : List (Happened Name)) (p n : Name) → AreOne K l.before.known p n → p ≡ n
    unfolding names naming
    one_name so p n (m, a, b) = sym (reference_is m p a) ∙ reference_is m n b

    same_is : (k : Known Name) (q : Name) → K.same k.name q ≡ true → k.name ≡ q
    unfolding names naming
    same_is k q s = reference_is k.name q s

    module _ (so : List (Happened Name)) (left : Left so) where
      -- what it waits on is none of the vat's own
      waits_bad : (p q : Name) → Bad p → WaitsFor K E so p q → Bad q
      waits_bad p q b (inl (k, i, s, j)) = let n = same_is k q s in ((k, i, n), λ o. b.1 (rest.waits k p i j (subst Own (sym n) o)))
      waits_bad p q b (inr (n, inl i, one)) = absurd (left.waited p n b i)
      waits_bad p q b (inr (n, inr i, one)) = absurd (left.viewed p n i)

      resolver_own : (i : ℕ) (p : Name) → IsResolver K E so i p → Own p
      resolver_own i p (inl q) = rest.resolvers i p q
      resolver_own i p (inr (a, r, j, s)) = left.made a p r j

      given_broken : (p : Name) (x : Value Name) → Bad p → IsGiven K E so p x → IsBroken x
      given_broken p x b (settlings.gave a i o) = absurd (b.1 (rest.owed a p o))
      given_broken p x b (settlings.threw {t = t} a i o) = (t, refl)
      given_broken p x b (settlings.resolved i r h) = absurd (b.1 (resolver_own i p r))
      given_broken p x b (settlings.smashed {t = t} i y r h f) = (t, refl)
      given_broken p x b (settlings.waited q i f) = left.settled q x (waits_bad p q b f) i
      given_broken p x b (settlings.said h) = absurd (no_says so p x l.step rest.turn h)
      given_broken p x b (settlings.lost {t = t} i y h j f) = (t, refl)

      settles_broken : (p : Name) (y : Value Name) → Bad p → SettlesWell K E so p y → IsBroken y
      settles_broken p y b (inl (x, g, c)) = becomes_broken so p x y (given_broken p x b g) c
      settles_broken p y b (inr (u, n, o, q)) = (_, q)

      answer_own : (p i : Name) (x : Value Name) → Bad p → HasAnswer K E so i p x → ⊥
      answer_own p i x b (settlings.sent a m j q) = left.sent a m p j q b
      answer_own p i x b (settlings.held k m j h q) = b.1 (rest.held k m p j h q)
      answer_own p i x b (settlings.came from d y verb ys j n q h g a) = no_arrival from _ l.step rest.turn q

      ref_broken : (q : Name) → IsBroken (Ref q) → ⊥
      ref_broken q b = no_words q b.0 b.1

      waits_not : (p q : Name) → Bad p → WaitsWell K E so p q → ⊥
      waits_not p q b (inl (x, g, f)) = ref_broken q (follows_broken so x (Ref q) (given_broken p x b g) f)
      waits_not p q b (inr (i, x, h, a, j, n)) = answer_own p i x b a

    -- ---- over the lines of the step

    left_none : Left []
    left_none = record { settled = λ p y b i. absurd i; waited = λ p q b i. i; viewed = λ p q i. i; made = λ a p r i. absurd i; sent = λ a m p i. absurd i }

    among_end : (x f : Happened Name) (s : List (Happened Name)) → IsAmong x (s ++ f ∷ []) → IsAmong x s ⊎ (x ≡ f)
    among_end x f [] (inl q) = inr q
    among_end x f [] (inr i) = absurd i
    among_end x f (y ∷ s) (inl q) = inl (inl q)
    among_end x f (y ∷ s) (inr i) = later (among_end x f s i)
      where
        later : IsAmong x s ⊎ (x ≡ f) → IsAmong x (y ∷ s) ⊎ (x ≡ f)
        later (inl j) = inl (inr j)
        later (inr q) = inr q

    among_mid : (x : Happened Name) (s t : List (Happened Name)) → IsAmong x (s ++ x ∷ t)
    among_mid x [] t = inl refl
    among_mid x (y ∷ s) t = inr (among_mid x s t)

    -- the answer of a message that the step sends is new
    new_answer : (a : ℕ) (m : Message Name) (p : Name) → IsAmong (Sends a m) l.after.happened → m.answer ≡ Some p → Bad p → ⊥
    unfolding names naming name_of mail_of answer_of world.readied
    new_answer a m p i q b = let r = (line_tells l).sent a m (subst (λ es. IsAmong (Sends a m) es) (in_step (line_tells l).lines) i) p q in
        numbered r.0 r.1 r.4 (subst (λ n. WasKnown l.before.known n) r.5 b.0)
      where
        in_step : l.after.happened ≡ l.before.happened ++ (line_tells l).more → l.after.happened ≡ (line_tells l).more
        in_step e = subst (λ es. l.after.happened ≡ es ++ (line_tells l).more) (ap (λ (s : Vat Name). s.happened) l.ready) e

        numbered : (j h : ℕ) → l.before.messages ≤ j → WasKnown l.before.known (Answer h (record { sender = v; number = j })) → ⊥
        numbered j h c k = let d = rest.numbered h j k in omega arith

    left_on : (s more : List (Happened Name)) (f : Happened Name) → l.after.happened ≡ s ++ f ∷ more → Left s → Left (s ++ f ∷ [])
    unfolding held_from
    left_on s more f q left = record {
      settled = λ p y b i. settled p y b (among_end (Settles p y) f s i);
      waited = λ p n b i. waited p n b (among_end (Waits p n) f s i);
      viewed = λ p n i. viewed p n (among_end (Views p n) f s i);
      made = λ a p r i. rest.promises a p r (in_step (PromiseMade a p r) (among_end (PromiseMade a p r) f s i));
      sent = λ a m p i. new_answer a m p (in_step (Sends a m) (among_end (Sends a m) f s i));
    }
      where
        well : LineWell K H s f
        well = well_at [] l.after.happened s more f wells q

        in_step : (x : Happened Name) → IsAmong x s ⊎ (x ≡ f) → IsAmong x l.after.happened
        in_step x (inl i) = subst (λ es. IsAmong x es) (sym q) (left_among s i)
          where
            left_among : (xs : List (Happened Name)) → IsAmong x xs → IsAmong x (xs ++ f ∷ more)
            left_among [] j = absurd j
            left_among (y ∷ xs) (inl r) = inl r
            left_among (y ∷ xs) (inr r) = inr (left_among xs r)
        in_step x (inr e) = subst (λ es. IsAmong x es) (sym q) (subst (λ z. IsAmong x (s ++ z ∷ more)) e (among_mid x s more))

        settled : (p : Name) (y : Value Name) → Bad p → IsAmong (Settles p y) s ⊎ (Settles p y ≡ f) → IsBroken y
        settled p y b (inl i) = left.settled p y b i
        settled p y b (inr e) = settles_broken s left p y b (subst (λ z. LineWell K H s z) (sym e) well).1

        waited : (p n : Name) → Bad p → IsAmong (Waits p n) s ⊎ (Waits p n ≡ f) → ⊥
        waited p n b (inl i) = left.waited p n b i
        waited p n b (inr e) = waits_not s left p n b (subst (λ z. LineWell K H s z) (sym e) well).1

        viewed : (p n : Name) → IsAmong (Views p n) s ⊎ (Views p n ≡ f) → ⊥
        viewed p n (inl i) = left.viewed p n i
        viewed p n (inr e) = no_views s p n l.step rest.turn (subst (λ z. LineWell K H s z) (sym e) well).1

    left_up : (s es more : List (Happened Name)) → l.after.happened ≡ s ++ (es ++ more) → Left s → Left (s ++ es)
    left_up s [] more q left = subst Left (sym (end_none s)) left
    left_up s (f ∷ es) more q left = subst Left (joined s (f ∷ []) es) (left_up (s ++ f ∷ []) es more (q ∙ sym (joined s (f ∷ []) (es ++ more))) (left_on s (es ++ more) f q left))

    -- ---- ways

    module _ (front : List (Happened Name)) (left : Left front) (n : Name) (i : ℕ) (own : spot_of v n ≡ IsOwn i) where
      ref_is : (p q : Name) → ◌≡◌ {A = Value Name} (Ref p) (Ref q) → p ≡ q
      ref_is p q e = cc

      -- the view of a name is none of the vat's own, and did not settle
      abbrev Shut : Name → Type 0
      Shut q = Bad q × ((y : Value Name) → standing_of K l.before.known q ≡ Settled y → ⊥)

      view_shut : (m q : Name) → standing_of K l.before.known m ≡ Viewed q → Shut q
      view_shut m q e = let r = rest.viewed m q e in shut r.0 r.2 r.3
        where
          shut : (Own m → ⊥) → (k : Known Name) × IsAmong k l.before.known × (k.name ≡ q) × IsAmong m k.waiting → ((y : Value Name) → standing_of K l.before.known q ≡ Settled y → ⊥) → Shut q
          shut f (k, j, s, a) g = (((k, j, s), λ o. f (rest.waits k m j a (subst Own (sym s) o))), g)

      no_way : (x z : Value Name) → Reaches K l.before.known front x z → (q : Name) → x ≡ Ref q → Shut q → z ≡ Ref n → ⊥
      no_way x z machine.itself q e b f = let same : q ≡ Object v i = ref_is q n (sym e ∙ f) ∙ own_object v n i own in rest.objects v i (subst (λ p. WasKnown l.before.known p) same b.0.0)
      no_way x z (machine.onward y (machine.settled {n = m} s) r) q e b f = b.1 y (subst (λ p. standing_of K l.before.known p ≡ Settled y) (ref_is m q e) s)
      no_way x z (machine.onward y (machine.viewed {n = m} {q = p} s) r) q e b f = no_way y z r p refl (view_shut m p s) f
      no_way x z (machine.onward y (machine.settles {n = m} p j one) r) q e b f = let t = left.settled p y (subst Bad (sym (one_name front p m one ∙ ref_is m q e)) b.0) j in no_words n t.0 (sym f ∙ from_broken front y z t.0 t.1 r)
      no_way x z (machine.onward y (machine.views {n = m} {q = o} p j one) r) q e b f = left.viewed p o j

      settled_way : (x z : Value Name) → Reaches K l.before.known front x z → z ≡ Ref n → SettledWay K l.before.known front x z
      settled_way x z machine.itself f = way.itself
      settled_way x z (machine.onward y (machine.settled s) r) f = way.settled y s (settled_way y z r f)
      settled_way x z (machine.onward y (machine.viewed {n = m} {q = q} s) r) f = absurd (no_way y z r q refl (view_shut m q s) f)
      settled_way x z (machine.onward y (machine.settles p j one) r) f = way.settles p y j one (settled_way y z r f)
      settled_way x z (machine.onward y (machine.views {q = o} p j one) r) f = absurd (left.viewed p o j)

    -- so ways to the vat's objects go by settlings alone
    pub ways_settled : WaysAreSettled l
    ways_settled front more q x n i r s = settled_way front (left_up [] front (more ++ e ∷ l.rest) told left_none) n i s x (Ref n) r refl
      where
        told : l.after.happened ≡ front ++ (more ++ e ∷ l.rest)
        told = l.told ∙ ap (λ es. es ++ e ∷ l.rest) q ∙ joined front more (e ∷ l.rest)
