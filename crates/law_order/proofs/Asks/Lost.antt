-- A note that opens a gift is lost: it is put on a link that is cut, that has an end of which nothing is said, or that is not there. Where no other lets the gift go it leads nowhere, or nothing is said of it.
use Rattle.std.proofs.Common.{◌≡◌, ℕ, ◌+◌, ◌≤◌, Bool, true, false, List, [], ◌∷◌, ◌++◌, Option, Some, None, refl, sym, ap, subst, ◌∙◌, ◌⊎◌, inl, inr, eqb-true}
use Rattle.std.specs.Prelude.{◌==◌, ◌&&◌, ◌||◌}
use Rattle.def_machine.specs.Values.{Name}
use Rattle.def_machine.specs.State.{Note, Open, Vat}
use Rattle.def_run.specs.World as world
use Rattle.def_run.specs.World.{Script, Link, World, names}
use Rattle.law_order.specs.Ordering.Ways.{Lane, Way, Ways}
use Rattle.law_order.specs.Ordering.Messages.{More}
use Rattle.law_order.specs.Ordering.Turns.{Reroutes, stays_so, said_now, IsTurned}
use Rattle.law_order.specs.Ordering.Places.{opens, shortens, note_place, any_note, first_place, is_honest, shorten_place, was_put, or_never, gift_place, onward_at, ways_of, ways, amid, open_place}
use Rattle.law_order.proofs.Ordering.Adding.{refers_same}
use Rattle.law_order.proofs.Ordering.Amid.{onward_same}
use Rattle.law_order.proofs.Ordering.Arrived.{outbox_refers}
use Rattle.law_order.proofs.Ordering.Noted.{with_grows, gift_more}
use Rattle.law_order.proofs.Ordering.OrderKeeping.{LinkLeaves, AllLeave, Same, link_self, all_self, links_still}
use Rattle.law_order.proofs.Ordering.Pushing.{all_same, within_more}
use Rattle.law_order.proofs.Ordering.Sends.{pushed_shut, pushed_open, push_last, some_same, none_some, ends_of}
use Rattle.law_order.specs.Cuts.Letting.{letting_in, letting}
use Rattle.law_order.proofs.Cuts.Gifts.{none_opens, none_shortens}
use Rattle.law_order.proofs.Asks.Turning.{lane_turns}

-- ---- what was logged

or_left : (a b : Bool) → a ≡ true → (a || b) ≡ true
or_left true b e = refl
or_left false b e = cc

or_right : (a b : Bool) → b ≡ true → (a || b) ≡ true
or_right true b e = refl
or_right false b e = e

or_grows : (a b c d : Bool) → (a ≡ true → c ≡ true) → (b ≡ true → d ≡ true) → (a || b) ≡ true → (c || d) ≡ true
or_grows true b c d f g e = or_left c d (f refl)
or_grows false b c d f g e = or_right c d (g e)

and_grows : (a b c : Bool) → (b ≡ true → c ≡ true) → (a && b) ≡ true → (a && c) ≡ true
and_grows true b c f e = f e
and_grows false b c f e = e

any_grows : (f : Note Name → Bool) (ns : List (Note Name)) (n : Note Name) → any_note f ns ≡ true → any_note f (ns ++ n ∷ []) ≡ true
unfolding any_note
any_grows f [] n e = cc
any_grows f (m ∷ ns) n e = or_grows (f m) (any_note f ns) (f m) (any_note f (ns ++ n ∷ [])) (λ k. k) (λ k. any_grows f ns n k) e

module _ (script : Script) (honest : ℕ → Bool) (b c i : ℕ) (q : Name) where
  abbrev Opens : Note Name
  Opens = Open i q

  abbrev Put : List Link → List Link
  Put ls = world.with_link (world.pushed Opens) b c ls

  -- on a link that is cut it is not under way
  same_count : (ls : List Link) (l : Link) → world.link_at b c ls ≡ Some l → l.cut ≡ true → letting i (Put ls) ≡ letting i ls
  unfolding world.link_at world.with_link letting
  same_count [] l e f = refl
  same_count (k ∷ ls) l e f = go (λ x. same_count ls l x f) (world.is_link b c k) e
    where
      go : (world.link_at b c ls ≡ Some l → letting i (Put ls) ≡ letting i ls) → (x : Bool) → elim x [ true ↦ Some k | false ↦ world.link_at b c ls ] ≡ Some l → letting i (elim x [ true ↦ world.pushed Opens k ∷ ls | false ↦ k ∷ Put ls ]) ≡ letting_in i k.notes + letting i ls
      go r true y = ap (λ (z : Link). letting_in i z.notes + letting i ls) (pushed_shut Opens k (ap (λ (z : Link). z.cut) (some_same k l y) ∙ f))
      go r false y = ap (λ z. letting_in i k.notes + z) (r y)

  -- what was put was put
  logged_grows : (g : ℕ) (k : Link) (ls : List Link) (x : Bool) → k.cut ≡ x → was_put script honest g i (k ∷ ls) ≡ true → was_put script honest g i (world.pushed Opens k ∷ ls) ≡ true
  unfolding was_put is_honest
  logged_grows g k ls x e h = go x e
    where
      grows : ((((honest k.from && honest k.to) && (((k.to == g) && any_note (opens i) (k.log ++ Opens ∷ [])) || any_note (shortens g i) (k.log ++ Opens ∷ []))) || was_put script honest g i ls)) ≡ true
      grows = or_grows ((honest k.from && honest k.to) && (((k.to == g) && any_note (opens i) k.log) || any_note (shortens g i) k.log)) (was_put script honest g i ls)
          ((honest k.from && honest k.to) && (((k.to == g) && any_note (opens i) (k.log ++ Opens ∷ [])) || any_note (shortens g i) (k.log ++ Opens ∷ []))) (was_put script honest g i ls)
          (λ y. and_grows (honest k.from && honest k.to) (((k.to == g) && any_note (opens i) k.log) || any_note (shortens g i) k.log) (((k.to == g) && any_note (opens i) (k.log ++ Opens ∷ [])) || any_note (shortens g i) (k.log ++ Opens ∷ []))
          (λ z. or_grows ((k.to == g) && any_note (opens i) k.log) (any_note (shortens g i) k.log) ((k.to == g) && any_note (opens i) (k.log ++ Opens ∷ [])) (any_note (shortens g i) (k.log ++ Opens ∷ []))
          (λ a. and_grows (k.to == g) (any_note (opens i) k.log) (any_note (opens i) (k.log ++ Opens ∷ [])) (λ d. any_grows (opens i) k.log Opens d) a) (λ d. any_grows (shortens g i) k.log Opens d) z) y) (λ y. y) h

      go : (x : Bool) → k.cut ≡ x → was_put script honest g i (world.pushed Opens k ∷ ls) ≡ true
      go true e = subst (λ z. was_put script honest g i (z ∷ ls) ≡ true) (sym (pushed_shut Opens k e)) grows
      go false e = subst (λ z. was_put script honest g i (z ∷ ls) ≡ true) (sym (pushed_open Opens k e)) grows

  abbrev Logged : ℕ → Link → Bool
  Logged g k = is_honest script honest k && (((k.to == g) && any_note (opens i) k.log) || any_note (shortens g i) k.log)

  put_grows : (g : ℕ) (ls : List Link) → was_put script honest g i ls ≡ true → was_put script honest g i (Put ls) ≡ true
  unfolding world.with_link was_put
  put_grows g [] e = e
  put_grows g (k ∷ ls) e = go (λ y. put_grows g ls y) (world.is_link b c k) e
    where
      go : (was_put script honest g i ls ≡ true → was_put script honest g i (Put ls) ≡ true) → (x : Bool) → (Logged g k || was_put script honest g i ls) ≡ true → was_put script honest g i (elim x [ true ↦ world.pushed Opens k ∷ ls | false ↦ k ∷ Put ls ]) ≡ true
      go r true y = logged_grows g k ls k.cut refl y
      go r false y = or_grows (Logged g k) (was_put script honest g i ls) (Logged g k) (was_put script honest g i (Put ls)) (λ z. z) r y

  -- ---- links lead where they led

  abbrev Nobody : ℕ → ℕ → Type 0
  Nobody g j = ⊥

  put_link : (k : Link) (x : Bool) → k.cut ≡ x → LinkLeaves Same Nobody k (world.pushed Opens k)
  put_link k true e = subst (λ z. LinkLeaves Same Nobody k z) (sym (pushed_shut Opens k e)) (record { from = refl; to = refl; cut = refl; opened = λ g j o y. absurd o; shortened = λ g j o. absurd o; opening = λ g j o y. absurd o; shortening = λ g j o. absurd o })
  put_link k false e = subst (λ z. LinkLeaves Same Nobody k z) (sym (pushed_open Opens k e)) (record { from = refl; to = refl; cut = refl; opened = λ g j o y. absurd o; shortened = λ g j o. absurd o; opening = λ g j o y. absurd o; shortening = λ g j o. absurd o })

  put_links : (ls : List Link) → AllLeave Same Nobody ls (Put ls)
  unfolding world.with_link
  put_links [] = tt
  put_links (k ∷ ls) = go (put_links ls) (world.is_link b c k)
    where
      go : AllLeave Same Nobody ls (Put ls) → (x : Bool) → AllLeave Same Nobody (k ∷ ls) (elim x [ true ↦ world.pushed Opens k ∷ ls | false ↦ k ∷ Put ls ])
      go r true = (put_link k k.cut refl, all_self Same Nobody (λ z. refl) ls)
      go r false = (link_self Same Nobody (λ z. refl) k, r)

  -- ---- a link that does not count, or is not there

  and_false : (x y : Bool) → y ≡ false → (x && y) ≡ false
  and_false true y e = e
  and_false false y e = refl

  module _ (away : honest c ≡ false) where
    ends_away : (k : Link) → k.to ≡ c → is_honest script honest k ≡ false
    unfolding is_honest
    ends_away k e = and_false (honest k.from) (honest k.to) (ap honest e ∙ away)

    put_away : (k : Link) → k.to ≡ c → (x : Bool) → k.cut ≡ x → is_honest script honest (world.pushed Opens k) ≡ false
    put_away k e true f = subst (λ z. is_honest script honest z ≡ false) (sym (pushed_shut Opens k f)) (ends_away (record k { log = k.log ++ Opens ∷ [] }) e)
    put_away k e false f = subst (λ z. is_honest script honest z ≡ false) (sym (pushed_open Opens k f)) (ends_away (record k { notes = k.notes ++ Opens ∷ []; log = k.log ++ Opens ∷ [] }) e)

    -- what is told of the links by the first of them, where it counts
    module _ {A : Type 0} (tell : List Link → A) (first : Link → A → A) (step : (k : Link) (ls : List Link) → tell (k ∷ ls) ≡ first k (tell ls)) (skips : (k : Link) → is_honest script honest k ≡ false → (x : A) → first k x ≡ x) where
      not_told : (ls : List Link) → tell (Put ls) ≡ tell ls
      unfolding world.with_link
      not_told [] = refl
      not_told (k ∷ ls) = go (not_told ls) (world.is_link b c k) refl
        where
          go : tell (Put ls) ≡ tell ls → (x : Bool) → world.is_link b c k ≡ x → tell (elim x [ true ↦ world.pushed Opens k ∷ ls | false ↦ k ∷ Put ls ]) ≡ tell (k ∷ ls)
          go r true e = let to = (ends_of b c k e).1 in step (world.pushed Opens k) ls ∙ skips (world.pushed Opens k) (put_away k to k.cut refl) (tell ls) ∙ sym (step k ls ∙ skips k (ends_away k to) (tell ls))
          go r false e = step k (Put ls) ∙ ap (λ z. first k z) r ∙ sym (step k ls)

    module _ (g j : ℕ) where
      open_away : (ls : List Link) → open_place script honest g j (Put ls) ≡ open_place script honest g j ls
      unfolding open_place
      open_away = not_told (λ ls. open_place script honest g j ls) (λ k o. elim (is_honest script honest k && (k.to == g)) [ true ↦ first_place (note_place (opens j) (Way k.from k.to) [] k.notes) o | false ↦ o ]) (λ k ls. refl)
          (λ k e o. ap (λ x. elim (x && (k.to == g)) [ true ↦ first_place (note_place (opens j) (Way k.from k.to) [] k.notes) o | false ↦ o ]) e)

      shorten_away : (ls : List Link) → shorten_place script honest g j (Put ls) ≡ shorten_place script honest g j ls
      unfolding shorten_place
      shorten_away = not_told (λ ls. shorten_place script honest g j ls) (λ k o. elim (is_honest script honest k) [ true ↦ first_place (note_place (shortens g j) (Way k.from k.to) [] k.notes) o | false ↦ o ]) (λ k ls. refl)
          (λ k e o. ap (λ x. elim x [ true ↦ first_place (note_place (shortens g j) (Way k.from k.to) [] k.notes) o | false ↦ o ]) e)

      logs_away : (ls : List Link) → was_put script honest g j (Put ls) ≡ was_put script honest g j ls
      unfolding was_put
      logs_away = not_told (λ ls. was_put script honest g j ls) (λ k x. (is_honest script honest k && (((k.to == g) && any_note (opens j) k.log) || any_note (shortens g j) k.log)) || x) (λ k ls. refl)
          (λ k e x. ap (λ y. (y && (((k.to == g) && any_note (opens j) k.log) || any_note (shortens g j) k.log)) || x) e)

      gift_away : (ls : List Link) → gift_place script honest g j (Put ls) ≡ gift_place script honest g j ls
      unfolding gift_place
      gift_away ls = ap (λ x. or_never script honest x (first_place (open_place script honest g j (Put ls)) (shorten_place script honest g j (Put ls)))) (logs_away ls)
          ∙ ap (λ o. or_never script honest (was_put script honest g j ls) (first_place o (shorten_place script honest g j (Put ls)))) (open_away ls)
          ∙ ap (λ o. or_never script honest (was_put script honest g j ls) (first_place (open_place script honest g j ls) o)) (shorten_away ls)

  put_nowhere : (ls : List Link) → world.link_at b c ls ≡ None → Put ls ≡ ls
  unfolding world.link_at world.with_link
  put_nowhere [] e = refl
  put_nowhere (k ∷ ls) e = go (λ y. put_nowhere ls y) (world.is_link b c k) e
    where
      go : (world.link_at b c ls ≡ None → Put ls ≡ ls) → (x : Bool) → ◌≡◌ {A = Option Link} (elim x [ true ↦ Some k | false ↦ world.link_at b c ls ]) None → elim x [ true ↦ world.pushed Opens k ∷ ls | false ↦ k ∷ Put ls ] ≡ k ∷ ls
      go r true y = none_some k (sym y)
      go r false y = ap (λ z. k ∷ z) (r y)

  -- ---- gifts

  module _ (w u : Ways) (ls : List Link) (none : letting i ls ≤ 0) (l : Link) (found : world.link_at b c ls ≡ Some l) (shut : l.cut ≡ true) where
    none_lets : (g : ℕ) (ks : List Link) → letting i ks ≤ 0 → gift_place script honest g i ks ≡ or_never script honest (was_put script honest g i ks) None
    unfolding gift_place first_place
    none_lets g ks e = ap (λ o. or_never script honest (was_put script honest g i ks) (first_place o (shorten_place script honest g i ks))) (none_opens script honest g i ks e)
        ∙ ap (λ o. or_never script honest (was_put script honest g i ks) o) (none_shortens script honest g i ks e)

    never_turns : (x y : Bool) → (x ≡ true → y ≡ true) → Reroutes w u (or_never script honest x None) (or_never script honest y None)
    unfolding or_never
    never_turns false y f = said_now
    never_turns true true f = stays_so
    never_turns true false f = let e = f refl in cc

    gift_here : (g : ℕ) → Reroutes w u (gift_place script honest g i ls) (gift_place script honest g i (Put ls))
    gift_here g = subst (λ p. Reroutes w u p (gift_place script honest g i (Put ls))) (sym (none_lets g ls none))
        (subst (λ p. Reroutes w u (or_never script honest (was_put script honest g i ls) None) p) (sym (none_lets g (Put ls) (subst (λ n. n ≤ 0) (sym (same_count ls l found shut)) none)))
        (never_turns (was_put script honest g i ls) (was_put script honest g i (Put ls)) (put_grows g ls)))

    opens_not : (j : ℕ) → (i == j) ≡ false → opens j Opens ≡ false
    unfolding opens
    opens_not j e = e

    shortens_not : (g j : ℕ) → shortens g j Opens ≡ false
    unfolding shortens
    shortens_not g j = refl

    gift_by : (g j : ℕ) (x : Bool) → (i == j) ≡ x → Reroutes w u (gift_place script honest g j ls) (gift_place script honest g j (Put ls))
    gift_by g j true e = subst (λ z. Reroutes w u (gift_place script honest g z ls) (gift_place script honest g z (Put ls))) (eqb-true i j e) (gift_here g)
    gift_by g j false e = subst (λ p. Reroutes w u (gift_place script honest g j ls) p) (sym (gift_more script honest g j ls (Put ls) (with_grows j Opens b c ls (opens_not j e, λ h. shortens_not h j)))) stays_so

    gift_shut : (g j : ℕ) → Reroutes w u (gift_place script honest g j ls) (gift_place script honest g j (Put ls))
    gift_shut g j = gift_by g j (i == j) refl

  -- it comes to stand nowhere
  abbrev pub IsLost : List Link → Type 0
  IsLost ls = (world.link_at b c ls ≡ None) ⊎ ((honest c ≡ false) ⊎ ((l : Link) × (world.link_at b c ls ≡ Some l) × (l.cut ≡ true)))

  gift_turns : (w u : Ways) (ls : List Link) → letting i ls ≤ 0 → IsLost ls → (g j : ℕ) → Reroutes w u (gift_place script honest g j ls) (gift_place script honest g j (Put ls))
  gift_turns w u ls none (inl e) g j = subst (λ ks. Reroutes w u (gift_place script honest g j ls) (gift_place script honest g j ks)) (sym (put_nowhere ls e)) stays_so
  gift_turns w u ls none (inr (inl e)) g j = subst (λ p. Reroutes w u (gift_place script honest g j ls) p) (sym (gift_away e g j ls)) stays_so
  gift_turns w u ls none (inr (inr h)) g j = gift_shut w u ls none h.0 h.1 h.2 g j

  -- ---- the ways

  module _ (w : World) (t : Vat Name) where
    abbrev Opened : Vat Name
    Opened = record t { outbox = t.outbox ++ record { to = c; note = Opens } ∷ [] }

    abbrev Links : List Link
    Links = world.push_all b t.outbox w.links

    abbrev Was : Ways
    Was = ways script honest (amid b t w)

    abbrev Now : Ways
    Now = ways script honest (amid b Opened w)

    now_is : (l : Lane) (n : Name) → Now.onward l n ≡ onward_at script honest (world.put_at b t w.vats) (Put Links) l n
    unfolding ways ways_of amid
    now_is l n = ap (λ ls. onward_at script honest (world.put_at b Opened w.vats) ls l n) (push_last b t.outbox (record { to = c; note = Opens }) w.links)
        ∙ onward_same script honest w.vats (Put Links) (Put Links) (all_same (Put Links)) b t Opened (refers_same script honest b t Opened (outbox_refers (names script b) t (t.outbox ++ record { to = c; note = Opens } ∷ []))) l n

    pub lost_turns : letting i Links ≤ 0 → IsLost Links → ((k : Lane) → More Was Now k) → IsTurned Was Now
    unfolding ways ways_of amid
    lost_turns none lost more = record {
      stands = λ k. within_more (Was.stands k) (Now.stands k) (more k).0 (more k).1;
      links = λ x y n. now_is (Way x y) n ∙ links_still Same Nobody (λ z. refl) script honest (world.put_at b t w.vats) Links (Put Links) (put_links Links) x y n;
      lanes = λ k n o. subst (λ p. Reroutes Was Now (Was.onward k n) p) (sym (now_is k n)) (lane_turns script honest (world.put_at b t w.vats) Links (Put Links) Was Now (gift_turns Was Now Links none lost) k n o);
    }
