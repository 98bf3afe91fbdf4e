-- Of a name that settled at a vat the first line that tells of it gives what each does.
use Rattle.std.proofs.Common.{◌≡◌, ℕ, ◌+◌, arith, Bool, true, false, List, [], ◌∷◌, ◌++◌, Option, Some, None, refl, sym, ap, ◌∙◌, subst, ◌⊎◌, inl, inr, ◌==◌, eqb-true}
use Rattle.std.proofs.lemmas.Bool.{eq-eqb}
use Rattle.ev_base.specs.declared.names.Name.{Name as ShownName}
use Rattle.def_event.specs.declared.event.Event.{Event as ShownEvent}
use Rattle.def_event.specs.declared.event.Event.TheVariants as event
use Rattle.def_machine.specs.Values.{Value, Ref, Name, same_name}
use Rattle.def_machine.specs.State.{Message, Happened, Settles, Sends, Reacts, Posted}
use Rattle.def_run.specs.World.{Script, Event, Here, Carried, run}
use Rattle.def_run.specs.Shown as show
use Rattle.def_run.specs.Text.{shown_events, history_of}
use Rattle.law_fate.proofs.Name.SameNames.{same_is, same_self}
use Rattle.law_uses.specs.Connectivity.Known.{IsAmong, AllOf}
use Rattle.def_event.specs.Uses as uses
use Rattle.def_event.specs.Uses.{Line, line_after, and_lines, place_after, place_of, Given_for, IsGivenBy, IsFirstGivenBy, IsNext}
use Rattle.law_uses.proofs.Uses.Shown.{lines}
use Rattle.law_uses.proofs.Uses.Texts.{lines_stand}
use Rattle.law_uses.specs.Running.Running.{SettledApart}
use Rattle.law_uses.proofs.Running.Course.{joined}
use Rattle.law_uses.proofs.Running.Facts.{lines_on, lines_more}

module _ (draws : List ℕ) where
  -- ---- which lines tell of a settling

  send_none : (v a : ℕ) (m : Message Name) (o : Option Name) → AllOf (λ f. uses.settles f ≡ None) (show.shown_send draws v a m o ∷ [])
  unfolding show.shown_send uses.settles
  send_none v a m (Some n) = (refl, tt)
  send_none v a m None = (refl, tt)

  reaction_none : (v a : ℕ) (x y : Value Name) (m : Message Name) (o : Option Name) → AllOf (λ f. uses.settles f ≡ None) (show.shown_reaction draws v a x y m o)
  unfolding show.shown_reaction uses.settles
  reaction_none v a x y m (Some n) = (refl, tt)
  reaction_none v a x y m None = tt

  -- only the line of a settling
  happened_none : (v : ℕ) (e : Happened Name) → ((n : Name) × (y : Value Name) × (e ≡ Settles n y)) ⊎ AllOf (λ f. uses.settles f ≡ None) (show.shown_happened draws v e)
  unfolding show.shown_happened uses.settles
  happened_none v (Settles n y) = inl (n, y, refl)
  happened_none v (Sends a m) = inr (send_none v a m m.answer)
  happened_none v (Reacts a x o m) = inr (reaction_none v a x o m m.answer)
  happened_none v (Posted w m) = inr tt
  happened_none v _ = inr (refl, tt)

  -- and so of an event
  event_none : (e : Event) → ((v : ℕ) × (n : Name) × (y : Value Name) × (e ≡ Here v (Settles n y))) ⊎ AllOf (λ f. uses.settles f ≡ None) (show.shown_event draws e)
  unfolding show.shown_event uses.settles
  event_none (Here v e) = either (happened_none v e)
    where
      either : ((n : Name) × (y : Value Name) × (e ≡ Settles n y)) ⊎ AllOf (λ f. uses.settles f ≡ None) (show.shown_happened draws v e) → ((u : ℕ) × (n : Name) × (y : Value Name) × (Here v e ≡ Here u (Settles n y))) ⊎ AllOf (λ f. uses.settles f ≡ None) (show.shown_happened draws v e)
      either (inl r) = inl (v, r.0, r.1, ap (Here v) r.2)
      either (inr r) = inr r
  event_none (Carried k v w n bytes) = inr (refl, (refl, tt))
  event_none _ = inr (refl, tt)

  -- ---- what lines give

  module _ (at : ℕ) (n : ShownName) where
    abbrev Gives : List Line → Type 0
    Gives past = IsGivenBy uses.settles past at n

    none_gives : (past : List Line) (es : List ShownEvent) → AllOf (λ f. uses.settles f ≡ None) es → Gives (and_lines past es) → Gives past
    none_gives past [] h g = g
    none_gives past (e ∷ es) h g = either (none_gives (line_after past e ∷ past) es h.1 g)
      where
        no : (v : Option ShownName) → ◌≡◌ {A = Option Given_for} None (Some (record { name = n; value = v })) → ⊥
        no v q = cc

        either : Gives past ⊎ (((line_after past e).at ≡ at) × (v : Option ShownName) × (uses.settles e ≡ Some (record { name = n; value = v }))) → Gives past
        either (inl i) = i
        either (inr i) = absurd (no i.1 (sym h.0 ∙ i.2))

    first_stays : (past : List Line) (es : List ShownEvent) (v : Option ShownName) → IsFirstGivenBy uses.settles past at n v → IsFirstGivenBy uses.settles (and_lines past es) at n v
    first_stays past [] v h = h
    first_stays past (e ∷ es) v h = first_stays (line_after past e ∷ past) es v (inl h)

-- ---- in the history of a run

module _ (script : Script) (draws : List ℕ) (apart : SettledApart script draws) (v : ℕ) (n m : Name) (alike : (y : Value Name) → IsAmong (Here v (Settles n y)) (history_of (run script)) → y ≡ Ref m) where
  abbrev whole : List Event
  whole = history_of (run script)

  abbrev N : ShownName
  N = show.shown_name draws n

  abbrev First : List Line → Type 0
  First past = IsFirstGivenBy uses.settles past (v + 1) N (Some (show.shown_name draws m))

  -- an event tells that n settled at v, or does not
  abbrev Tells : Event → Type 0
  Tells e = (y : Value Name) × (e ≡ Here v (Settles n y))

  abbrev Other : Event → Type 0
  Other e = (u : ℕ) (p : Name) (y : Value Name) → e ≡ Here u (Settles p y) → u ≡ v → p ≡ n → ⊥

  none_other : (e : Event) → AllOf (λ f. uses.settles f ≡ None) (show.shown_event draws e) → Other e
  unfolding show.shown_event show.shown_happened uses.settles
  none_other e h u p y q i j = no (subst (λ z. AllOf (λ f. uses.settles f ≡ None) (show.shown_event draws z)) q h).0
    where
      no : ◌≡◌ {A = Option Given_for} (Some (record { name = show.shown_name draws p; value = uses.name_of (show.shown_value draws u y) })) None → ⊥
      no q = cc

  here_is : (u w : ℕ) (p q : Name) (y z : Value Name) → Here u (Settles p y) ≡ Here w (Settles q z) → (u ≡ w) × (p ≡ q)
  here_is u w p q y z e = (cc, cc)

  decide_name : (u : ℕ) (p : Name) (y : Value Name) → u ≡ v → (b : Bool) → same_name p n ≡ b → Tells (Here u (Settles p y)) ⊎ Other (Here u (Settles p y))
  decide_name u p y i true s = let same : p ≡ n = same_is p n s in inl (y, ap (λ w. Here w (Settles p y)) i ∙ ap (λ q. Here v (Settles q y)) same)
  decide_name u p y i false s = inr (λ w q z e j k. differ (subst (λ r. same_name r n ≡ false) ((here_is u w p q y z e).1 ∙ k) s))
    where
      differ : same_name n n ≡ false → ⊥
      differ r = let t : same_name n n ≡ true = same_self n in cc

  decide_vat : (u : ℕ) (p : Name) (y : Value Name) (b : Bool) → (u == v) ≡ b → Tells (Here u (Settles p y)) ⊎ Other (Here u (Settles p y))
  decide_vat u p y true s = decide_name u p y (eqb-true u v s) (same_name p n) refl
  decide_vat u p y false s = inr (λ w q z e j k. differ (subst (λ r. (r == v) ≡ false) ((here_is u w p q y z e).0 ∙ j) s))
    where
      differ : (v == v) ≡ false → ⊥
      differ r = let t : (v == v) ≡ true = eq-eqb v v refl in cc

  decide : (e : Event) → Tells e ⊎ Other e
  decide e = either (event_none draws e)
    where
      either : ((u : ℕ) × (p : Name) × (y : Value Name) × (e ≡ Here u (Settles p y))) ⊎ AllOf (λ f. uses.settles f ≡ None) (show.shown_event draws e) → Tells e ⊎ Other e
      either (inl r) = subst (λ z. Tells z ⊎ Other z) (sym r.3) (decide_vat r.0 r.1 r.2 (r.0 == v) refl)
      either (inr h) = inr (none_other e h)

  among_end : (hs es : List Event) (e : Event) → IsAmong e (hs ++ e ∷ es)
  among_end [] es e = inl refl
  among_end (h ∷ hs) es e = inr (among_end hs es e)

  -- the line of n at v, where no line before gave it
  first_here : (hs k : List Event) (y : Value Name) → whole ≡ hs ++ Here v (Settles n y) ∷ k → (IsGivenBy uses.settles (lines draws hs) (v + 1) N → ⊥) → First (lines draws (hs ++ Here v (Settles n y) ∷ []))
  unfolding show.shown_event show.shown_happened show.shown_value uses.settles uses.name_of place_after
  first_here hs k y q none = let same : y ≡ Ref m = alike y (subst (λ es. IsAmong (Here v (Settles n y)) es) (sym q) (among_end hs k (Here v (Settles n y)))) in
      subst First (sym (lines_on draws hs (Here v (Settles n y)))) (inr (none, lines_stand script draws hs k v (Settles n y) q, ap (λ x. Some (record { name = N; value = uses.name_of (show.shown_value draws v x) })) same))

  given_is : (a b : Given_for) → Some a ≡ Some b → a ≡ b
  given_is a b e = cc

  -- no line of another event gives it
  other_silent : (hs k : List Event) (e : Event) → whole ≡ hs ++ e ∷ k → (y : Value Name) → IsAmong (Here v (Settles n y)) whole → Other e → (IsGivenBy uses.settles (lines draws hs) (v + 1) N → ⊥) → IsGivenBy uses.settles (lines draws (hs ++ e ∷ [])) (v + 1) N → ⊥
  unfolding show.shown_event show.shown_happened uses.settles place_after
  other_silent hs k e q y i other none g = either (event_none draws e) (subst (λ ls. IsGivenBy uses.settles ls (v + 1) N) (lines_on draws hs e) g)
    where
      of_settling : (u : ℕ) (p : Name) (z : Value Name) → e ≡ Here u (Settles p z) → IsGivenBy uses.settles (and_lines (lines draws hs) (show.shown_event draws (Here u (Settles p z)))) (v + 1) N → ⊥
      of_settling u p z r (inl j) = none j
      of_settling u p z r (inr j) = let at : place_of (lines draws hs) ≡ u + 1 = lines_stand script draws hs k u (Settles p z) (q ∙ ap (λ x. hs ++ x ∷ k) r) in let vats : u ≡ v = placed u at j.0 in
          other u p z r vats (apart v p n z y (subst (λ w. IsAmong (Here w (Settles p z)) whole) vats (subst (λ es. IsAmong (Here u (Settles p z)) es) (sym (q ∙ ap (λ x. hs ++ x ∷ k) r)) (among_end hs k (Here u (Settles p z))))) i (named p z u j.1 j.2))
        where
          placed : (u : ℕ) → place_of (lines draws hs) ≡ u + 1 → place_after (place_of (lines draws hs)) (event.Settle (show.shown_name draws p) (show.shown_value draws u z)) ≡ v + 1 → u ≡ v
          placed u a b = omega arith

          named : (p : Name) (z : Value Name) (u : ℕ) (w : Option ShownName) → uses.settles (event.Settle (show.shown_name draws p) (show.shown_value draws u z)) ≡ Some (record { name = N; value = w }) → show.shown_name draws p ≡ N
          named p z u w b = ap (λ (g : Given_for). g.name) (given_is (record { name = show.shown_name draws p; value = uses.name_of (show.shown_value draws u z) }) (record { name = N; value = w }) b)

      either : ((u : ℕ) × (p : Name) × (z : Value Name) × (e ≡ Here u (Settles p z))) ⊎ AllOf (λ f. uses.settles f ≡ None) (show.shown_event draws e) → IsGivenBy uses.settles (and_lines (lines draws hs) (show.shown_event draws e)) (v + 1) N → ⊥
      either (inl r) h = of_settling r.0 r.1 r.2 r.3 (subst (λ x. IsGivenBy uses.settles (and_lines (lines draws hs) (show.shown_event draws x)) (v + 1) N) r.3 h)
      either (inr r) h = none (none_gives draws (v + 1) N (lines draws hs) (show.shown_event draws e) r h)

  scan : (hs es k : List Event) (y : Value Name) → whole ≡ hs ++ (es ++ k) → (IsGivenBy uses.settles (lines draws hs) (v + 1) N → ⊥) → IsAmong (Here v (Settles n y)) es → First (lines draws (hs ++ es))
  scan hs [] k y q none i = absurd i
  scan hs (e ∷ es) k y q none i = either (decide e) (λ none' j. scan (hs ++ e ∷ []) es k y (q ∙ sym (joined hs (e ∷ []) (es ++ k))) none' j)
    where
      whole_has : IsAmong (Here v (Settles n y)) whole
      whole_has = subst (λ x. IsAmong (Here v (Settles n y)) x) (sym q) (right hs)
        where
          left : (xs ys : List Event) → IsAmong (Here v (Settles n y)) xs → IsAmong (Here v (Settles n y)) (xs ++ ys)
          left [] ys j = absurd j
          left (x ∷ xs) ys (inl r) = inl r
          left (x ∷ xs) ys (inr r) = inr (left xs ys r)

          right : (xs : List Event) → IsAmong (Here v (Settles n y)) (xs ++ (e ∷ (es ++ k)))
          right [] = left (e ∷ es) k i
          right (x ∷ xs) = inr (right xs)

      later : Other e → IsAmong (Here v (Settles n y)) (e ∷ es) → IsAmong (Here v (Settles n y)) es
      later other (inl r) = absurd (other v n y (sym r) refl refl)
      later other (inr r) = r

      either : Tells e ⊎ Other e → ((IsGivenBy uses.settles (lines draws (hs ++ e ∷ [])) (v + 1) N → ⊥) → IsAmong (Here v (Settles n y)) es → First (lines draws ((hs ++ e ∷ []) ++ es))) → First (lines draws (hs ++ (e ∷ es)))
      either (inl r) rest = subst (λ x. First (lines draws x)) (joined hs (e ∷ []) es) (on (hs ++ e ∷ []) es (subst (λ x. First (lines draws (hs ++ x ∷ []))) (sym r.1) (first_here hs (es ++ k) r.0 (q ∙ ap (λ x. hs ++ x ∷ (es ++ k)) r.1) none)))
        where
          on : (xs ys : List Event) → First (lines draws xs) → First (lines draws (xs ++ ys))
          on xs ys h = subst First (sym (lines_more draws xs ys)) (first_stays draws (v + 1) N (lines draws xs) (shown_events draws ys) (Some (show.shown_name draws m)) h)
      either (inr other) rest = subst (λ x. First (lines draws x)) (joined hs (e ∷ []) es) (rest (other_silent hs (es ++ k) e q y whole_has other none) (later other i))

  -- So by the lines of these events n leads to m.
  pub next_told : (hs k : List Event) (y : Value Name) → whole ≡ hs ++ k → IsAmong (Here v (Settles n y)) hs → IsNext (lines draws hs) (v + 1) N (show.shown_name draws m)
  unfolding shown_events
  next_told hs k y q i = inl (scan [] hs k y q none i)
    where
      none : IsGivenBy uses.settles (lines draws []) (v + 1) N → ⊥
      none g = g
