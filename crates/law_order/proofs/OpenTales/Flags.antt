-- As a gift counts as opened that was opened before, or that settled, no way changes.
use Rattle.std.proofs.Common.{◌≡◌, ℕ, Bool, true, false, List, [], ◌∷◌, Some, refl, sym, ap, subst, ◌∙◌, ◌⊎◌, inl, inr}
use Rattle.std.proofs.lemmas.List.{append-nil}
use Rattle.std.specs.Prelude.{not, ◌==◌, ◌&&◌, ◌||◌}
use Rattle.def_machine.specs.Values.{Value, Name, Gift, Naming, same_name}
use Rattle.def_machine.specs.State.{Standing, Unsettled, Settled, GiftEntry, Vat, is_gift, with_opened}
use Rattle.def_machine.specs.Arrive.{gift_at}
use Rattle.def_machine.specs.Refs.{entry_of, standing_of}
use Rattle.def_run.specs.World as world
use Rattle.def_run.specs.World.{Script, Link, World, names}
use Rattle.law_fate.proofs.Name.SameNames.{same_is}
use Rattle.law_order.specs.Ordering.Ways.{Lane, Queue, Held, Way, Free, IsOneWay}
use Rattle.law_order.specs.Ordering.Messages.{More}
use Rattle.law_order.specs.Ordering.Places.{queued, held_in, opened_there, gift_place, leads_in, leads, unsettled, released, released_at, ways, ways_of, amid}
use Rattle.law_order.specs.Ordering.Steps.{Grown}
use Rattle.law_order.proofs.Ordering.Opened as opened
use Rattle.law_order.proofs.Ordering.Sends.{some_same, none_some}
use Rattle.law_order.proofs.Ordering.Standing.{queue_more, held_more, way_more}
use Rattle.law_order.proofs.Views.Alike.{WasFree, leads_same, onward_same_or, grown_by}
use Rattle.law_order.proofs.News.Opening.{opened_now}

-- another gift counts as it did
flag_head : (n m : Name) (c d : Bool) → same_name n m ≡ false → ((same_name n m && c) || d) ≡ d
flag_head n m c d e = ap (λ z. (z && c) || d) e

flag_else : (a i : ℕ) (g m : Name) (gs : List (GiftEntry Name)) (e : GiftEntry Name) → gift_at a i gs ≡ Some e → e.name ≡ g → same_name g m ≡ false → opened_there m (with_opened a i gs) ≡ opened_there m gs
unfolding gift_at with_opened opened_there
flag_else a i g m [] e f h other = none_some e f
flag_else a i g m (z ∷ gs) e f h other = go (λ q. flag_else a i g m gs e q h other) (is_gift a i z) f
  where
    go : (gift_at a i gs ≡ Some e → opened_there m (with_opened a i gs) ≡ opened_there m gs) → (c : Bool) → elim c [ true ↦ Some z | false ↦ gift_at a i gs ] ≡ Some e
        → opened_there m (elim c [ true ↦ record z { opened = true } ∷ gs | false ↦ z ∷ with_opened a i gs ]) ≡ ((same_name z.name m && z.opened) || opened_there m gs)
    go r true q = let differs : same_name z.name m ≡ false = ap (λ (u : GiftEntry Name). same_name u.name m) (some_same z e q) ∙ ap (λ u. same_name u m) h ∙ other in
        flag_head z.name m true (opened_there m gs) differs ∙ sym (flag_head z.name m z.opened (opened_there m gs) differs)
    go r false q = ap (λ c. (same_name z.name m && z.opened) || c) (r q)

module _ (script : Script) (honest : ℕ → Bool) (w : World) (v : ℕ) (s : Vat Name) (a i : ℕ) (entry : GiftEntry Name) (found : gift_at a i s.gifts ≡ Some entry) (named : entry.name ≡ Gift v i) where
  abbrev K : Naming Name Name
  K = names script v

  abbrev G : Name
  G = Gift v i

  abbrev Opened : Vat Name
  Opened = record s { gifts = with_opened a i s.gifts }

  -- it settled, or was opened
  module _ (idle : ((y : Value Name) × (standing_of K s.known G ≡ Settled y)) ⊎ (opened_there G s.gifts ≡ true)) where
    settled_not : (y : Value Name) → standing_of K s.known G ≡ Settled y → standing_of K s.known G ≡ Unsettled → ⊥
    settled_not y e f = cc

    at_gift : standing_of K s.known G ≡ Unsettled → ((y : Value Name) × (standing_of K s.known G ≡ Settled y)) ⊎ (opened_there G s.gifts ≡ true) → opened_there G Opened.gifts ≡ opened_there G s.gifts
    at_gift e (inl f) = absurd (settled_not f.0 f.1 e)
    at_gift e (inr f) = opened_now a i G s.gifts entry found named ∙ sym f

    flags_same : (q : Name) → standing_of K s.known q ≡ Unsettled → opened_there q Opened.gifts ≡ opened_there q s.gifts
    flags_same q e = go (same_name G q) refl
      where
        go : (c : Bool) → same_name G q ≡ c → opened_there q Opened.gifts ≡ opened_there q s.gifts
        go false f = flag_else a i G q s.gifts entry found named f
        go true f = let is : G ≡ q = same_is G q f in subst (λ z. opened_there z Opened.gifts ≡ opened_there z s.gifts) is (at_gift (ap (λ z. standing_of K s.known z) is ∙ e) idle)

    module _ (vs : List (Vat Name)) (ls : List Link) where
      unsettled_same : (q : Name) → opened_there q Opened.gifts ≡ opened_there q s.gifts → unsettled script honest vs ls v q Opened.gifts ≡ unsettled script honest vs ls v q s.gifts
      unfolding unsettled
      unsettled_same (Gift h j) e = ap (λ c. elim ((h == v) && not c) [ true ↦ gift_place script honest h j ls | false ↦ Free ]) e
      unsettled_same other e = refl

      released_same : (q : Name) (z : Standing Name) → standing_of K s.known q ≡ z → released script honest vs ls v q Opened.gifts z ≡ released script honest vs ls v q s.gifts z
      unfolding released
      released_same q Unsettled e = unsettled_same q (flags_same q e)
      released_same q other e = refl

      mine : (q : Name) → released_at script honest vs ls v q (Some Opened) ≡ released_at script honest vs ls v q (Some s)
      unfolding released_at
      mine q = released_same q (standing_of K s.known q) refl

    leads_on : (z : Value Name) → leads_in script honest v Opened z ≡ leads_in script honest v s z
    leads_on z = opened.leads_still script honest v s (with_opened a i s.gifts) z

    more : (l : Lane) → More (ways script honest (amid v s w)) (ways script honest (amid v Opened w)) l
    more (Queue u) = queue_more script honest w v s Opened u (λ e. ([], sym (append-nil (queued s.queue))))
    more (Held u m) = held_more script honest w v s Opened u m (λ e. ([], sym (append-nil (held_in m (entry_of K s.known m)))))
    more (Way c d) = way_more script honest w v s Opened [] (sym (append-nil s.outbox)) c d

    abbrev Links : List Link
    Links = world.push_all v s.outbox w.links

    leading : (u : ℕ) (z : Value Name) → leads script honest (amid v Opened w).vats (amid v Opened w).links u z ≡ leads script honest (amid v s w).vats (amid v s w).links u z
    unfolding amid
    leading u z = leads_same script honest v s Opened leads_on w.vats Links u z

    onward : (l : Lane) (m : Name) → ((ways script honest (amid v Opened w)).onward l m ≡ (ways script honest (amid v s w)).onward l m) ⊎ (IsOneWay l × ((ways script honest (amid v s w)).onward l m ≡ Free))
    unfolding ways ways_of amid
    onward l m = onward_same_or script honest v s Opened leads_on w.vats Links WasFree (λ here q. inl (mine (world.put_at v s w.vats) Links q)) l m

    pub flag_grown : Grown script honest w v s Opened
    flag_grown = grown_by script honest w v s Opened more leading onward
