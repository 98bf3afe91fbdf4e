-- A gift that counts as opened waits for a name, of which the name does not know: each value leads where it led, and the ways only grow.
use Rattle.std.proofs.Common.{◌≡◌, ℕ, Bool, true, false, [], Some, refl, sym, ap, subst, ◌∙◌, ◌⊎◌, inl, inr, eq-eqb}
use Rattle.std.proofs.lemmas.List.{append-nil}
use Rattle.std.specs.Prelude.{slice_get, not, ◌&&◌}
use Rattle.def_machine.specs.Values.{Ref, Name, Gift, Naming}
use Rattle.def_machine.specs.State.{Known, Unsettled, WaitsOn, WaitOn, GiftEntry, Vat, with_change, with_opened}
use Rattle.def_machine.specs.Arrive.{gift_at}
use Rattle.def_machine.specs.Refs as refs
use Rattle.def_machine.specs.Refs.{entry_of, standing_of}
use Rattle.def_run.specs.World as world
use Rattle.def_run.specs.World.{Script, World, names}
use Rattle.law_order.specs.Ordering.Ways.{Lane, Queue, Held, Way, Free, IsOneWay}
use Rattle.law_order.specs.Ordering.Messages.{More}
use Rattle.law_order.specs.Ordering.Places.{queued, opened_there, gift_place, leads, leads_at, leads_in, unsettled, released, released_at, onward_at, ways_of, ways, amid}
use Rattle.law_order.specs.Ordering.Settlings.{IsLoose}
use Rattle.law_order.specs.Ordering.Steps.{Grown, WaysAmid}
use Rattle.law_order.specs.Ordering.Worlds.{IsWaiting}
use Rattle.law_order.proofs.Ordering.Entries.{Differs, as_it_was, changes, differs, same_length}
use Rattle.law_order.proofs.Ordering.Lanes.{Same, same_lane}
use Rattle.law_order.proofs.Ordering.Opened as opened
use Rattle.law_order.proofs.Ordering.Sends.{get_put, entry_changed}
use Rattle.law_order.proofs.Ordering.Standing.{queue_more, held_more, way_more}
use Rattle.law_order.proofs.Views.Alike.{grown_by}
use Rattle.law_order.proofs.News.Opening.{opened_now, waits_now}
use Rattle.law_order.specs.Tales.Middle.{MovesNone}
use Rattle.law_order.proofs.NewsTales.Moving.{change_moves}
use Rattle.law_order.proofs.Settling.Waiting.{WaitsElse, leads_same, onward_same}

module _ (script : Script) (honest : ℕ → Bool) (b : ℕ) (s : Vat Name) (a i : ℕ) (entry : GiftEntry Name) (kept : gift_at a i s.gifts ≡ Some entry) (named : entry.name ≡ Gift b i) (g : Known Name) (found : entry_of (names script b) s.known (Gift b i) ≡ Some g) (unsettled_yet : g.standing ≡ Unsettled) where
  abbrev K : Naming Name Name
  K = names script b

  abbrev G : Name
  G = Gift b i

  abbrev pub Opened : Vat Name
  Opened = record s { gifts = with_opened a i s.gifts }

  pub flagged : opened_there G Opened.gifts ≡ true
  flagged = opened_now a i G s.gifts entry kept named

  stood : standing_of K s.known G ≡ Unsettled
  unfolding standing_of refs.standing_in
  stood = ap (λ z. refs.standing_in z) found ∙ unsettled_yet

  -- nothing is said of where it leads, in any world
  module _ (w : World) (r : Vat Name) (at : slice_get w.vats b ≡ Some r) where
    pub loose : IsLoose script honest w b G Opened
    unfolding ways ways_of amid onward_at released_at released unsettled
    loose m = let vs = world.put_at b Opened w.vats in let ls = world.push_all b s.outbox w.links in
        ap (λ z. released_at script honest vs ls b G z) (get_put w.vats b r Opened at)
        ∙ ap (λ z. released script honest vs ls b G Opened.gifts z) stood
        ∙ ap (λ c. elim (c && not (opened_there G Opened.gifts)) [ true ↦ gift_place script honest b i ls | false ↦ Free ]) (eq-eqb b b refl)
        ∙ ap (λ c. elim (not c) [ true ↦ gift_place script honest b i ls | false ↦ Free ]) flagged

    -- once it waits for a name it leads where that does
    pub leads_on : (t : Vat Name) → Grown script honest w b Opened t → (q : Name) → standing_of K t.known G ≡ WaitsOn q → (m : Name) → (WaysAmid script honest w b t).onward (Held b G) m ≡ leads_in script honest b s (Ref q)
    unfolding ways ways_of amid onward_at released_at released leads leads_at
    leads_on t grown q waits m = let vs = world.put_at b t w.vats in let ls = world.push_all b t.outbox w.links in
        ap (λ z. released_at script honest vs ls b G z) (get_put w.vats b r t at)
        ∙ ap (λ z. released script honest vs ls b G t.gifts z) waits
        ∙ grown.leading b (Ref q)
        ∙ ap (λ z. leads_at script honest b z (Ref q)) (get_put w.vats b r Opened at)
        ∙ opened.leads_still script honest b s (with_opened a i s.gifts) (Ref q)

  module _ (n : Name) where
    abbrev pub Just : Vat Name
    Just = record Opened { known = with_change K (WaitOn n) G s.known }

    abbrev pub After : Known Name
    After = record g { standing = WaitsOn n }

    other_entry : (m : Name) → (m ≡ G → ⊥) → Differs script b (WaitOn n) G m (entry_of K s.known m) (entry_of K Just.known m) → entry_of K Just.known m ≡ entry_of K s.known m
    other_entry m f (as_it_was e) = e
    other_entry m f (changes j e p q) = absurd (f e)

    pub found_now : entry_of K Just.known G ≡ Some After
    found_now = entry_changed K G (WaitOn n) s.known g found ∙ ap (λ z. Some z) (waits_now n g unsettled_yet)

    pub waits_else : WaitsElse K G Opened Just
    waits_else = record {
      number = refl;
      gifts = refl;
      noticed = refl;
      names_known = same_length script b (WaitOn n) G s.known;
      plain = λ o. o;
      before = g;
      found = found;
      waits = subst IsWaiting (sym unsettled_yet) tt;
      after = After;
      found_then = found_now;
      waits_then = tt;
      host = refl;
      others = λ m f. other_entry m f (differs script b (WaitOn n) G m s.known);
    }

    pub waits_so : standing_of K Just.known G ≡ WaitsOn n
    unfolding standing_of refs.standing_in
    waits_so = ap (λ z. refs.standing_in z) found_now

    pub just_moves : MovesNone K Opened Just
    just_moves = change_moves script b Opened (WaitOn n) G tt

    module _ (w : World) (r : Vat Name) (at : slice_get w.vats b ≡ Some r) where
      more : (l : Lane) → More (WaysAmid script honest w b Opened) (WaysAmid script honest w b Just) l
      more (Queue u) = queue_more script honest w b Opened Just u (λ e. ([], sym (append-nil (queued s.queue))))
      more (Held u m) = held_more script honest w b Opened Just u m (λ e. ([], just_moves.held m ∙ sym (append-nil _)))
      more (Way c d) = way_more script honest w b Opened Just [] (sym (append-nil s.outbox)) c d

      onward : (l : Lane) (m : Name) → ((WaysAmid script honest w b Just).onward l m ≡ (WaysAmid script honest w b Opened).onward l m) ⊎ (IsOneWay l × ((WaysAmid script honest w b Opened).onward l m ≡ Free))
      onward l m = go (same_lane l (Held b G))
        where
          go : Same l (Held b G) → ((WaysAmid script honest w b Just).onward l m ≡ (WaysAmid script honest w b Opened).onward l m) ⊎ (IsOneWay l × ((WaysAmid script honest w b Opened).onward l m ≡ Free))
          go (inl e) = inr (subst IsOneWay (sym e) tt, subst (λ k. (WaysAmid script honest w b Opened).onward k m ≡ Free) (sym e) (loose w r at m))
          go (inr f) = inl (onward_same script honest b G Opened Just waits_else w refl l m f)

      pub just_grown : Grown script honest w b Opened Just
      just_grown = grown_by script honest w b Opened Just more (λ u z. leads_same script honest b G Opened Just waits_else w u z) onward
