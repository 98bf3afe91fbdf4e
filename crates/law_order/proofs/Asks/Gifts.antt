-- As a gift comes to be at its host no way changes: it was not opened.
use Rattle.std.proofs.Common.{◌≡◌, ℕ, Bool, true, false, List, [], ◌∷◌, ◌++◌, Some, refl, sym, ap, ◌⊎◌, inl}
use Rattle.std.proofs.lemmas.List.{append-nil}
use Rattle.std.specs.Prelude.{not, ◌==◌, ◌&&◌, ◌||◌}
use Rattle.def_machine.specs.Values.{Value, Name, Gift, same_name}
use Rattle.def_machine.specs.State.{Standing, Unsettled, GiftEntry, Vat}
use Rattle.def_machine.specs.Refs as refs
use Rattle.def_machine.specs.Refs.{entry_of, standing_of}
use Rattle.def_run.specs.World as world
use Rattle.def_run.specs.World.{Script, Link, World, names}
use Rattle.law_order.specs.Ordering.Ways.{Lane, Queue, Held, Way, Free, IsOneWay}
use Rattle.law_order.specs.Ordering.Messages.{More}
use Rattle.law_order.specs.Ordering.Places.{queued, held_in, opened_there, gift_place, by_follow, by_host, of_name, leads_in, leads, unsettled, released, released_at, ways_of, ways, amid}
use Rattle.law_order.specs.Ordering.Steps.{Grown, StaysReady}
use Rattle.law_order.proofs.Ordering.Standing.{queue_more, held_more, way_more}
use Rattle.law_order.proofs.Views.Alike.{WasFree, leads_same, onward_same_or, grown_by}

module _ (script : Script) (honest : ℕ → Bool) (w : World) (v : ℕ) (s : Vat Name) (n : Name) (p i : ℕ) where
  abbrev New : GiftEntry Name
  New = record { name = n; provider = p; number = i; opened = false }

  abbrev pub Given : Vat Name
  Given = record s { gifts = s.gifts ++ New ∷ [] }

  leads_on : (x : Value Name) → leads_in script honest v Given x ≡ leads_in script honest v s x
  unfolding leads_in of_name by_follow by_host refs.follow refs.severed refs.severed_at refs.severed_by refs.place refs.spotted refs.hosted refs.host_at
  leads_on x = refl

  unopened : (b : Bool) → ((b && false) || false) ≡ false
  unopened true = refl
  unopened false = refl

  pub opened_same : (m : Name) (gs : List (GiftEntry Name)) → opened_there m (gs ++ New ∷ []) ≡ opened_there m gs
  unfolding opened_there
  opened_same m [] = unopened (same_name n m)
  opened_same m (g ∷ gs) = ap (λ c. (same_name g.name m && g.opened) || c) (opened_same m gs)

  module _ (vs : List (Vat Name)) (ls : List Link) where
    unsettled_same : (q : Name) → unsettled script honest vs ls v q Given.gifts ≡ unsettled script honest vs ls v q s.gifts
    unfolding unsettled
    unsettled_same (Gift h j) = ap (λ c. elim ((h == v) && not c) [ true ↦ gift_place script honest h j ls | false ↦ Free ]) (opened_same (Gift h j) s.gifts)
    unsettled_same other = refl

    released_same : (q : Name) (z : Standing Name) → released script honest vs ls v q Given.gifts z ≡ released script honest vs ls v q s.gifts z
    unfolding released
    released_same q Unsettled = unsettled_same q
    released_same q other = refl

    mine : (q : Name) → released_at script honest vs ls v q (Some Given) ≡ released_at script honest vs ls v q (Some s)
    unfolding released_at
    mine q = released_same q (standing_of (names script v) s.known q)

  abbrev Links : List Link
  Links = world.push_all v s.outbox w.links

  more : (l : Lane) → More (ways script honest (amid v s w)) (ways script honest (amid v Given w)) l
  more (Queue u) = queue_more script honest w v s Given u (λ e. ([], sym (append-nil (queued s.queue))))
  more (Held u m) = held_more script honest w v s Given u m (λ e. ([], sym (append-nil (held_in m (entry_of (names script v) s.known m)))))
  more (Way a b) = way_more script honest w v s Given [] (sym (append-nil s.outbox)) a b

  leading : (u : ℕ) (x : Value Name) → leads script honest (amid v Given w).vats (amid v Given w).links u x ≡ leads script honest (amid v s w).vats (amid v s w).links u x
  unfolding amid
  leading u x = leads_same script honest v s Given leads_on w.vats Links u x

  onward : (l : Lane) (m : Name) → ((ways script honest (amid v Given w)).onward l m ≡ (ways script honest (amid v s w)).onward l m) ⊎ (IsOneWay l × ((ways script honest (amid v s w)).onward l m ≡ Free))
  unfolding ways ways_of amid
  onward l m = onward_same_or script honest v s Given leads_on w.vats Links WasFree (λ here q. inl (mine (world.put_at v s w.vats) Links q)) l m

  grown : Grown script honest w v s Given
  grown = grown_by script honest w v s Given more leading onward

  pub gift_stays : StaysReady script honest w v s Given
  gift_stays r = (record { number = r.number; ends = record { objects = r.ends.objects; fixed = r.ends.fixed }; draws = r.draws; answers = r.answers; promises = r.promises }, grown)
