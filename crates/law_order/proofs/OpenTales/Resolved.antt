-- The gift that counts as opened is resolved to the note's name, where it was unsettled: it waits, settles or breaks, by small steps.
use Rattle.std.proofs.Common.{◌≡◌, ℕ, suc, Bool, true, false, List, [], ◌∷◌, ◌++◌, Some, length, refl, sym, ap, subst, ◌∙◌, inl, inr, if◌then◌else◌, codes}
use Rattle.std.specs.Prelude.{slice_get}
use Rattle.def_machine.specs.Values.{Words, Value, Broken, Ref, Name, Gift, Naming, naming}
use Rattle.def_machine.specs.State.{Known, Standing, Unsettled, WaitsOn, Settled, Wait, WaitOn, Waits, Open, GiftEntry, Vat, Done, Gives, ◌>>=◌, ◌>>◌, and_then, look, tell, alter, changed, changed_to, unless_settled, with_change, with_opened}
use Rattle.def_machine.specs.Arrive.{gift_at}
use Rattle.def_machine.specs.Refs as refs
use Rattle.def_machine.specs.Refs.{Place, Mine, Away, entry_of, standing_of, follow_at}
use Rattle.def_run.specs.Draws.{draw_word}
use Rattle.def_run.specs.World.{Script, Event, World, names}
use Rattle.law_fate.specs.Fates.Lasting.{NoPromise}
use Rattle.law_fate.proofs.Fates.PlacesRefs.{IsEnd, of_end}
use Rattle.law_fate.proofs.Fates.PlacesSteps.{global_names}
use Rattle.law_order.specs.Ordering.Ways.{Way, Mid}
use Rattle.law_order.specs.Ordering.Arrivals.{IsLearnt}
use Rattle.law_order.specs.Ordering.Places.{aimed, gift_place, leads_in, opened_there}
use Rattle.law_order.specs.Ordering.Settlings.{with_line}
use Rattle.law_order.specs.Ordering.Steps.{Grown, Ready}
use Rattle.law_order.specs.Ordering.Worlds.{IsObject, IsWaiting, IsFixed}
use Rattle.law_order.proofs.Ordering.Arrived.{learnt_leads}
use Rattle.law_order.proofs.Ordering.Coming.{waits_here}
use Rattle.law_order.proofs.Ordering.Entries.{Differs, as_it_was, changes, differs}
use Rattle.law_order.proofs.Ordering.Sends.{some_same}
use Rattle.law_order.proofs.Ordering.Waiting.{waits_grown}
use Rattle.law_order.proofs.Runs.Truths.{object_self}
use Rattle.law_order.specs.Asks.Asks.{Bears}
use Rattle.law_order.proofs.Asks.Steps as steps
use Rattle.law_order.specs.News.Opens.{WaitsAt, at_home, abroad}
use Rattle.law_order.proofs.News.Opening.{waits_is, severed_is, no_waiting_object}
use Rattle.law_order.proofs.NewsTales.Moving.{wait_moves}
use Rattle.law_order.proofs.Steady.Blocks.{followed_clear}
use Rattle.law_order.proofs.Steady.Facts.{IsClear}
use Rattle.law_order.proofs.Steady.Facts as facts
use Rattle.law_order.proofs.Steady.Steady.{Steady}
use Rattle.law_order.specs.History.Tells.{Tale}
use Rattle.law_order.specs.Tales.Middle.{middle}
use Rattle.law_order.specs.Settling.Holding.{Holds, HeldCame, VatsAreSound}
use Rattle.law_order.proofs.Settling.Acts.{tale_then}
use Rattle.law_order.proofs.OpenTales.Led.{settled_tale}
use Rattle.law_order.proofs.OpenTales.Opening.{opens_tale}
use Rattle.law_order.proofs.OpenTales.Waits as waits

-- what waits on a name besides does not tell how it stands
wait_by : (p : Name) (t : Standing Name) (j : Known Name) → (let z : Known Name = unless_settled t j (record j { waiting = j.waiting ++ p ∷ [] }) in z.standing) ≡ j.standing
unfolding unless_settled
wait_by p (Settled y) j = refl
wait_by p other j = refl

wait_same : (p : Name) (j : Known Name) → (changed (Wait p) j).standing ≡ j.standing
unfolding changed changed_to
wait_same p j = wait_by p j.standing j

gives_is : (s t : Vat Name) → ◌≡◌ {A = Done Name (Unit {0})} (Gives tt s) (Gives tt t) → s ≡ t
gives_is s t e = cc

broken_not : (t : Words) (q : Name) → ◌≡◌ {A = Value Name} (Broken t) (Ref q) → ⊥
broken_not t q e = cc

module _ (script : Script) (honest : ℕ → Bool) (all : (u : ℕ) → honest u ≡ true) (x : World) (a b i : ℕ) (n : Name) (h : Bears x a b (Open i n)) (head : List Event) (s : Vat Name) (empty : s.outbox ≡ []) (first : gift_place script honest b i x.links ≡ Mid (Way a b) [] n)
    (entry : GiftEntry Name) (kept : gift_at a i s.gifts ≡ Some entry) (named : entry.name ≡ Gift b i) (g : Known Name) (found : entry_of (names script b) s.known (Gift b i) ≡ Some g) (unsettled_yet : g.standing ≡ Unsettled) (learnt : IsLearnt b script s n) (c o : Name → ℕ) (steady : Steady script x b c o s) where
  abbrev K : Naming Name Name
  K = names script b

  abbrev G : Name
  G = Gift b i

  abbrev Opened : Vat Name
  Opened = record s { gifts = with_opened a i s.gifts }

  abbrev Just : Vat Name
  Just = record Opened { known = with_change K (WaitOn n) G s.known }

  abbrev Bare : World
  Bare = steps.Bare script honest x a b (Open i n) h

  abbrev At : Vat Name → World
  At t = middle x b head t

  stood : standing_of K s.known G ≡ Unsettled
  unfolding standing_of refs.standing_in
  stood = ap (λ z. refs.standing_in z) found ∙ unsettled_yet

  flagged : opened_there G Opened.gifts ≡ true
  flagged = waits.flagged script honest b s a i entry kept named g found unsettled_yet

  -- ---- it waits for the note's name

  just_grown : (w : World) (r : Vat Name) → slice_get w.vats b ≡ Some r → Grown script honest w b Opened Just
  just_grown w r at = waits.just_grown script honest b s a i entry kept named g found unsettled_yet n w r at

  to_just : Tale script honest (At s) (At Just)
  to_just = opens_tale script honest x a b i n h (all a) (all b) head s empty first entry kept named Just just_grown (waits.just_moves script honest b s a i entry kept named g found unsettled_yet n) stood flagged
      (λ m. waits.leads_on script honest b s a i entry kept named g found unsettled_yet Bare h.vat h.there Just (just_grown Bare h.vat h.there) n (waits.waits_so script honest b s a i entry kept named g found unsettled_yet n) m)

  -- ---- it waits for a name to which that is followed

  module _ (q : Name) (followed : refs.follow K s (Ref n) ≡ Ref q) (plain : IsObject q → ⊥) where
    abbrev Waited : Vat Name
    Waited = with_line (record Opened { known = with_change K (Wait G) q (with_change K (WaitOn q) G s.known) }) (Waits G q)

    ready : Ready script honest x b s
    ready = facts.ready script x b honest c o s steady

    abbrev End0 : Value Name
    End0 = follow_at K (suc (length s.known)) s.known (Ref n)

    end_is : End0 ≡ Ref q
    unfolding refs.follow
    end_is = severed_is K s q End0 followed

    name_is : (p m : Name) → ◌≡◌ {A = Value Name} (Ref p) (Ref m) → p ≡ m
    name_is p m e = cc

    q_known : (j : Known Name) × (entry_of K s.known q ≡ Some j) × IsWaiting j.standing
    q_known = go learnt
      where
        fixed : IsFixed K s (Ref q) → (j : Known Name) × (entry_of K s.known q ≡ Some j) × IsWaiting j.standing
        fixed (inl j) = absurd (plain j)
        fixed (inr j) = j

        go : IsLearnt b script s n → (j : Known Name) × (entry_of K s.known q ≡ Some j) × IsWaiting j.standing
        go (inl object) = absurd (plain (subst IsObject (name_is n q (sym (object_self script b (suc (length s.known)) s.known n (ready.ends.objects n object)) ∙ end_is)) object))
        go (inr k) = fixed (subst (IsFixed K s) end_is (ready.ends.fixed n k))

    stays_q : follow_at K (suc (length s.known)) s.known (Ref q) ≡ Ref q
    unfolding follow_at standing_of refs.standing_in
    stays_q = waits_here K (λ z. follow_at K (length s.known) s.known z) q (standing_of K s.known q) (subst (λ z. IsWaiting (refs.standing_in z)) (sym q_known.1) q_known.2)

    q_followed : refs.follow K s (Ref q) ≡ refs.follow K s (Ref n)
    unfolding refs.follow
    q_followed = ap (λ z. refs.severed K s z) (stays_q ∙ sym end_is)

    same_leads : leads_in script honest b s (Ref q) ≡ leads_in script honest b s (Ref n)
    same_leads = learnt_leads script honest b s q (inr (q_known.0, q_known.1)) ∙ ap (λ z. aimed b z (refs.place K s z)) q_followed ∙ sym (learnt_leads script honest b s n learnt)

    waits_then : standing_of K Waited.known G ≡ WaitsOn q
    unfolding standing_of refs.standing_in
    waits_then = go (differs script b (Wait G) q G (with_change K (WaitOn q) G s.known))
      where
        now : entry_of K (with_change K (WaitOn q) G s.known) G ≡ Some (record g { standing = WaitsOn q })
        now = waits.found_now script honest b s a i entry kept named g found unsettled_yet q

        go : Differs script b (Wait G) q G (entry_of K (with_change K (WaitOn q) G s.known) G) (entry_of K (with_change K (Wait G) q (with_change K (WaitOn q) G s.known)) G) → refs.standing_in (entry_of K (with_change K (Wait G) q (with_change K (WaitOn q) G s.known)) G) ≡ WaitsOn q
        go (as_it_was j) = ap (λ z. refs.standing_in z) (j ∙ now)
        go (changes z j d e) = ap (λ u. refs.standing_in u) e ∙ wait_same G z ∙ ap (λ (u : Known Name). u.standing) (some_same z (record g { standing = WaitsOn q }) (sym d ∙ now))

    grown : (w : World) (r : Vat Name) → slice_get w.vats b ≡ Some r → Grown script honest w b Opened Waited
    grown w r at = waits_grown script honest w b Opened G q g found unsettled_yet (waits.loose script honest b s a i entry kept named g found unsettled_yet w r at)

    to_waited : Tale script honest (At s) (At Waited)
    to_waited = opens_tale script honest x a b i n h (all a) (all b) head s empty first entry kept named Waited grown (wait_moves script b Opened G q) stood flagged
        (λ m. waits.leads_on script honest b s a i entry kept named g found unsettled_yet Bare h.vat h.there Waited (grown Bare h.vat h.there) q waits_then m ∙ same_leads)

    waits_tale : (t : Vat Name) → refs.wait_on K G q Opened ≡ Gives tt t → Tale script honest (At s) (At t)
    unfolding refs.wait_on ◌>>◌ ◌>>=◌ and_then tell alter
    waits_tale t e = subst (λ z. Tale script honest (At s) (At z)) (gives_is Waited t e) to_waited

  -- ---- whatever the name leads to

  module _ (sound : VatsAreSound script x) (holds : Holds script honest x b head Opened) (came : HeldCame script honest x b head Opened) where
    settles_tale : (v : Value Name) → NoPromise v → IsClear K s.noticed v → ((q : Name) → v ≡ Ref q → refs.follow K s (Ref n) ≡ Ref q) → (t : Vat Name) → refs.settle K G v Opened ≡ Gives tt t → Tale script honest (At s) (At t)
    settles_tale v last clear leads t e = tale_then script honest (At s) (At Just) (At t) to_just
        (settled_tale script honest all x b h.vat h.there s a i entry kept named g found unsettled_yet n c o steady v last clear learnt leads head sound holds came t e)

    abbrev Y : Value Name
    Y = refs.follow K s (Ref n)

    opened_follow : refs.follow K Opened (Ref n) ≡ Y
    unfolding refs.follow refs.severed refs.severed_at refs.severed_by refs.host_at
    opened_follow = refl

    opened_place : (v : Value Name) → refs.place K Opened v ≡ refs.place K s v
    unfolding refs.place refs.spotted refs.hosted refs.host_at
    opened_place v = refl

    either_tale : (d : Bool) (q : Name) (u : Words) → WaitsAt q (refs.place K s Y) → (t : Vat Name) → (if d then refs.settle K G (Broken u) else refs.wait_on K G q) Opened ≡ Gives tt t → Tale script honest (At s) (At t)
    either_tale true q u w t e = settles_tale (Broken u) tt tt (λ m f. absurd (broken_not u m f)) t e
    either_tale false q u w t e = let followed : Y ≡ Ref q = waits_is K s q Y (refs.place K s Y) refl w in
        waits_tale q followed (λ j. no_waiting_object script b s q q (refs.place K s (Ref q)) j refl (subst (λ z. WaitsAt q (refs.place K s z)) followed w)) t e

    unless_tale : (q : Name) → WaitsAt q (refs.place K s Y) → (t : Vat Name) → refs.wait_unless_cycle K G q Opened ≡ Gives tt t → Tale script honest (At s) (At t)
    unfolding refs.wait_unless_cycle ◌>>=◌ and_then look
    unless_tale q w t e = either_tale (refs.waits_lead K (length s.known) s.known G q) q (codes "cycle") w t e

    to_tale : (p : Place Name) → refs.place K s Y ≡ p → (IsEnd p → NoPromise Y × IsClear K s.noticed Y) → (t : Vat Name) → refs.resolve_to K G Y p Opened ≡ Gives tt t → Tale script honest (At s) (At t)
    unfolding refs.resolve_to
    to_tale (Mine q) i f t e = unless_tale q (subst (WaitsAt q) (sym i) at_home) t e
    to_tale (Away u q false) i f t e = unless_tale q (subst (WaitsAt q) (sym i) abroad) t e
    to_tale other i f t e = let k = f tt in settles_tale Y k.0 k.1 (λ q j. j) t e

    pub resolved_tale : (t : Vat Name) → refs.resolve K G (Ref n) Opened ≡ Gives tt t → Tale script honest (At s) (At t)
    unfolding refs.resolve ◌>>=◌ and_then look names
    resolved_tale t e = to_tale (refs.place K s Y) refl (λ j. (of_end (naming (draw_word script.key) b) b (global_names (draw_word script.key) b) s Y j, followed_clear script x b honest all h.vat h.there s (Ref n) j))
        t (sym (ap (λ z. refs.resolve_to K G z (refs.place K Opened z) Opened) opened_follow ∙ ap (λ p. refs.resolve_to K G Y p Opened) (opened_place Y)) ∙ e)
