-- A vat stays steady through each thing that a turn does with references: sends, reactions, new promises, and resolving; and what is followed to an end is clear.
use Rattle.std.proofs.Common.{◌≡◌, ℕ, zero, suc, ◌+◌, ◌*◌, Bool, true, false, List, [], ◌∷◌, ◌++◌, Option, Some, None, length, refl, sym, ap, subst, ◌∙◌, ◌⊎◌, inl, inr, arith, ◌==◌}
use Rattle.std.specs.Prelude.{slice_get, codes}
use Rattle.def_machine.specs.Values.{Words, Value, Broken, Ref, Name, Object, Promise, Naming, naming, name_of, Spot, Own, Foreign, NoObject, host_of}
use Rattle.def_machine.specs.State.{Standing, Unsettled, Settled, Known, GiftEntry, Vat, Gives, is_in, begun, new_promise}
use Rattle.def_machine.specs.Refs as refs
use Rattle.def_machine.specs.Refs.{Mine, Away, entry_of, standing_of}
use Rattle.def_run.specs.Draws.{draw_word}
use Rattle.def_run.specs.World as world
use Rattle.def_run.specs.World.{Script, Link, World, names}
use Rattle.law_fate.specs.Fates.Fate.{one}
use Rattle.law_fate.proofs.Fates.Light.{come_sound}
use Rattle.law_fate.proofs.Fates.PlacesRefs.{IsEnd}
use Rattle.law_fate.proofs.Fates.PlacesSteps.{global_names}
use Rattle.law_fate.proofs.Fates.RefsLight.{light_resolve, light_send, light_send_only, light_reacts}
use Rattle.law_reference.specs.Reference.Knowing.{Knowing}
use Rattle.law_reference.proofs.Reference.Costs.{free_promise}
use Rattle.law_reference.proofs.Reference.RefsCosts.{free_resolve, free_send, free_send_only, free_reacts}
use Rattle.law_fate.proofs.Name.Among.{get_put}
use Rattle.law_order.specs.Ordering.Places.{unsettled, released, released_at, onward_at, ways_of, ways, amid}
use Rattle.law_order.specs.Ordering.Settlings.{IsLoose}
use Rattle.law_order.specs.Ordering.Ways.{Free}
use Rattle.law_order.proofs.Waits.Classes.{owed_at, fit_at}
use Rattle.law_order.proofs.Waits.Costs as costs
use Rattle.law_order.proofs.Waits.Costs.{one_or}
use Rattle.law_order.proofs.Waits.Room.{share}
use Rattle.law_order.proofs.Waits.Sends as sends
use Rattle.law_order.proofs.Waits.Settling as settling
use Rattle.law_order.proofs.Steady.Ends.{no_objects}
use Rattle.law_order.proofs.Steady.Facts.{IsClear, ClearSpot}
use Rattle.law_order.proofs.Steady.Sending.{do_promise, send_good, send_only_good, react_good, do_resolve}
use Rattle.law_order.proofs.Steady.Steady.{Steady, At, GoodAt, carried, claims_on, light_at, done_at, after_at, less, IsAside}
use Rattle.law_order.proofs.Steady.Viewed.{severed_name}

module _ (script : Script) (w : World) (v : ℕ) where
  abbrev K : Naming Name Name
  K = names script v

  abbrev S : (Name → ℕ) → (Name → ℕ) → Vat Name → Type 0
  S c o s = Steady script w v c o s

  -- ---- what comes to be

  module _ (c o : Name → ℕ) (s t : Vat Name) (h : S c o s) where
    module _ (act : ℕ) (x : Value Name) (verb : Words) (args : List (Value Name)) (a : Value Name) where
      pub sent_steady : refs.send K act x verb args s ≡ Gives a t → S c o t
      unfolding names
      sent_steady e = carried script w v c o s t h
          (λ q Stay settled none aside g. done_at (GoodAt script w v q Stay s) (refs.send K act x verb args s) a t e (send_good script w v q Stay s.noticed (length s.known) settled (λ m. (fit_at v q).answer none m) act x verb args s h.sound.same g)) c o
          (light_at v (Promise 0 0) 0 s (refs.send K act x verb args s) a t e ((light_send (naming (draw_word script.key) v) v (global_names (draw_word script.key) v) (Promise 0 0) act x verb args).after s h.sound))
          (λ n. done_at (At script w v n (c n)) (refs.send K act x verb args s) a t e ((sends.free_send (draw_word script.key) v n (owed_at v n) (fit_at v n) act x verb args).after (c n) s (costs.less (draw_word script.key) v n (owed_at v n) (c n) (0 + c n) (omega arith) s (h.room n))))
          (λ n. claims_on script w v n 0 (o n) s t h.sound.same (after_at (Knowing v n 0) s (refs.send K act x verb args s) a t e ((free_send v n (draw_word script.key) act x verb args).after s)) (let i = h.single n in omega arith))

      pub sent_only_steady : refs.send_only K act x verb args s ≡ Gives a t → S c o t
      unfolding names
      sent_only_steady e = carried script w v c o s t h
          (λ q Stay settled none aside g. done_at (GoodAt script w v q Stay s) (refs.send_only K act x verb args s) a t e (send_only_good script w v q Stay s.noticed (length s.known) settled (λ m. (fit_at v q).answer none m) act x verb args s g)) c o
          (light_at v (Promise 0 0) 0 s (refs.send_only K act x verb args s) a t e ((light_send_only (naming (draw_word script.key) v) v (global_names (draw_word script.key) v) (Promise 0 0) act x verb args).after s h.sound))
          (λ n. done_at (At script w v n (c n)) (refs.send_only K act x verb args s) a t e ((sends.free_send_only (draw_word script.key) v n (owed_at v n) (fit_at v n) act x verb args).after (c n) s (costs.less (draw_word script.key) v n (owed_at v n) (c n) (0 + c n) (omega arith) s (h.room n))))
          (λ n. claims_on script w v n 0 (o n) s t h.sound.same (after_at (Knowing v n 0) s (refs.send_only K act x verb args s) a t e ((free_send_only v n (draw_word script.key) act x verb args).after s)) (let i = h.single n in omega arith))

    pub reacted_steady : (act : ℕ) (x y near a : Value Name) → refs.react K act x y near s ≡ Gives a t → S c o t
    unfolding names
    reacted_steady act x y near a e = carried script w v c o s t h
        (λ q Stay settled none aside g. done_at (GoodAt script w v q Stay s) (refs.react K act x y near s) a t e (react_good script w v q Stay s.noticed (length s.known) settled (λ m. (fit_at v q).answer none m) act x y near s h.sound.same g)) c o
        (light_at v (Promise 0 0) 0 s (refs.react K act x y near s) a t e ((light_reacts (naming (draw_word script.key) v) v (global_names (draw_word script.key) v) (Promise 0 0) act x y near).after s h.sound))
        (λ n. done_at (At script w v n (c n)) (refs.react K act x y near s) a t e ((sends.free_react (draw_word script.key) v n (owed_at v n) (fit_at v n) act x y near).after (c n) s (costs.less (draw_word script.key) v n (owed_at v n) (c n) (0 + c n) (omega arith) s (h.room n))))
        (λ n. claims_on script w v n 0 (o n) s t h.sound.same (after_at (Knowing v n 0) s (refs.react K act x y near s) a t e ((free_reacts v n (draw_word script.key) act x y near).after s)) (let i = h.single n in omega arith))

  -- a new promise
  module _ (c o : Name → ℕ) (s : Vat Name) (h : S c o s) where
    abbrev Promised : ℕ → Vat Name
    Promised u = record s { promises = suc s.promises; known = s.known ++ begun (Promise v s.promises) u ∷ [] }

    promise_goes : (q : Name) (Stay : Standing Name → Type 0) (settled : (y : Value Name) → Stay (Settled y)) → owed_at v q ≡ false → IsAside v q → GoodAt script w v q Stay s s → GoodAt script w v q Stay s (Promised s.number)
    unfolding new_promise names naming name_of
    promise_goes q Stay settled none aside g = (do_promise script w v q Stay s.noticed (length s.known) settled (λ m. (fit_at v q).answer none m)).after s g

    promise_room : (n : Name) → At script w v n (c n) (Promised s.number)
    promise_room n = costs.less (draw_word script.key) v n (owed_at v n) (2 * share (owed_at v n) (one (Promise v s.promises) n) + c n) (c n) (omega arith) (Promised s.number) (costs.comes_good (draw_word script.key) v n (owed_at v n) (c n) s (Promise v s.promises) s.number (h.room n))

    pub promised_steady : S c o (Promised s.number)
    unfolding names host_of
    promised_steady = carried script w v c o s (Promised s.number) h promise_goes c o
        (come_sound v (Promise v s.promises) (naming (draw_word script.key) v) (global_names (draw_word script.key) v) s (Promise v s.promises) s.number tt h.sound.same h.sound)
        promise_room
        (λ n. claims_on script w v n 0 (o n) s (Promised s.number) h.sound.same (free_promise v n (draw_word script.key) s) (let i = h.single n in omega arith))

  -- ---- resolving

  module _ (c o : Name → ℕ) (p : Name) (x : Value Name) (s t : Vat Name) (k : Known Name) (found : entry_of K s.known p ≡ Some k) (waits : k.standing ≡ Unsettled) (own : host_of p ≡ v) (e : refs.resolve K p x s ≡ Gives tt t) (h : S (λ n. 2 * share (owed_at v n) (one p n) + c n) o s) where
    object_apart : (q : Name) → p ≡ q → IsAside v q → ⊥
    object_apart q i (inl j) = none_apart k (sym (no_objects script v s.known h.sound.well (Object v zero) tt) ∙ (ap (λ n. entry_of K s.known n) (sym j ∙ sym i) ∙ found))
      where
        none_apart : (j : Known Name) → ◌≡◌ {A = Option (Known Name)} None (Some j) → ⊥
        none_apart j e = cc
    object_apart q i (inr f) = f (ap host_of (sym i) ∙ own)

    apart : (q : Name) → IsAside v q → (one p q ≡ 0) ⊎ (p ≡ q) → one p q ≡ 0
    apart q aside (inl z) = z
    apart q aside (inr i) = absurd (object_apart q i aside)

    -- it did neither settle nor wait
    fits : (n : Name) → (one p n ≡ 0) ⊎ (p ≡ n) → costs.Fits (draw_word script.key) v n (owed_at v n) p s.known
    unfolding names
    fits n (inl z) = inl z
    fits n (inr i) = inr (i, (k, subst (λ (z : Name). entry_of (naming (draw_word script.key) v) s.known z ≡ Some k) i found, inl waits))

    pub resolved_steady : S c o t
    unfolding names
    resolved_steady = carried script w v (λ n. 2 * share (owed_at v n) (one p n) + c n) o s t h
        (λ q Stay settled none aside g. done_at (GoodAt script w v q Stay s) (refs.resolve K p x s) tt t e ((do_resolve script w v q Stay s.noticed (length s.known) settled (λ m. (fit_at v q).answer none m) p (apart q aside (one_or p q)) x).after s g)) c o
        (light_at v p 0 s (refs.resolve K p x s) tt t e ((light_resolve (naming (draw_word script.key) v) v (global_names (draw_word script.key) v) p p x).after s h.sound))
        (λ n. done_at (At script w v n (c n)) (refs.resolve K p x s) tt t e (settling.resolves_so (draw_word script.key) v n (owed_at v n) (fit_at v n).eventual p (c n) s (fits n (one_or p n)) (h.room n) x))
        (λ n. claims_on script w v n 0 (o n) s t h.sound.same (after_at (Knowing v n 0) s (refs.resolve K p x s) tt t e ((free_resolve v n (draw_word script.key) p x).after s)) (let i = h.single n in omega arith))

  -- ---- what is followed has a host that was not noticed, where it is data or an object

  host_by : (b : Bool) (t : Words) (n : Name) → ◌≡◌ {A = Value Name} (elim b [ true ↦ Broken t | false ↦ Ref n ]) (Ref n) → b ≡ false
  host_by true t n e = absurd (broken_apart t n e)
    where
      broken_apart : (t : Words) (n : Name) → ◌≡◌ {A = Value Name} (Broken t) (Ref n) → ⊥
      broken_apart t n i = cc
  host_by false t n e = refl

  name_by : (a b : Name) → ◌≡◌ {A = Value Name} (Ref a) (Ref b) → a ≡ b
  name_by a b e = cc

  foreign_clear : (s : Vat Name) (n : Name) (g : ℕ) (q : Spot) → q ≡ Foreign g → refs.severed_at K s n q ≡ Ref n → is_in g s.noticed ≡ false
  unfolding refs.severed_at refs.severed_by
  foreign_clear s n g (Foreign f) i e = subst (λ z. is_in z s.noticed ≡ false) (one_host f g i) (host_by (is_in f s.noticed) (codes "partition") n e)
    where
      one_host : (a b : ℕ) → Foreign a ≡ Foreign b → a ≡ b
      one_host a b j = cc
  foreign_clear s n g other i e = cc

  module _ (honest : ℕ → Bool) (all : (h : ℕ) → honest h ≡ true) (r : Vat Name) (at : slice_get w.vats v ≡ Some r) where
    severed_foreign : (s : Vat Name) (x : Value Name) (n : Name) (g : ℕ) → refs.severed K s x ≡ Ref n → K.spot n ≡ Foreign g → is_in g s.noticed ≡ false
    unfolding refs.severed
    severed_foreign s (Ref m) n g e i = let same : m ≡ n = name_by m n (severed_name script honest w v s (Ref m) n e) in foreign_clear s n g (K.spot n) i (subst (λ z. refs.severed_at K s z (K.spot z) ≡ Ref n) same e)
    severed_foreign s other n g e i = cc

    no_spot : (s : Vat Name) (n : Name) (b : Bool) → IsEnd (elim b [ true ↦ Mine n | false ↦ Away (refs.host_at K s.number s.known n) n false ]) → ⊥
    no_spot s n true h = h
    no_spot s n false h = h

    spot_clear : (s : Vat Name) (x : Value Name) (n : Name) → refs.severed K s x ≡ Ref n → (q : Spot) → K.spot n ≡ q → IsEnd (refs.spotted K s n q) → ClearSpot s.noticed q
    unfolding refs.spotted refs.hosted
    spot_clear s x n e (Own i) f h = tt
    spot_clear s x n e (Foreign g) f h = severed_foreign s x n g e f
    spot_clear s x n e NoObject f h = no_spot s n (s.number == refs.host_at K s.number s.known n) h

    clear_by : (s : Vat Name) (x y : Value Name) → refs.severed K s x ≡ y → IsEnd (refs.place K s y) → IsClear K s.noticed y
    unfolding refs.place
    clear_by s x (Ref n) e h = spot_clear s x n e (K.spot n) refl h
    clear_by s x other e h = tt

    pub followed_clear : (s : Vat Name) (x : Value Name) → IsEnd (refs.place K s (refs.follow K s x)) → IsClear K s.noticed (refs.follow K s x)
    unfolding refs.follow
    followed_clear s x h = clear_by s (refs.follow_at K (suc (length s.known)) s.known x) (refs.severed K s (refs.follow_at K (suc (length s.known)) s.known x)) refl h

    -- ---- a promise of the vat's own

    -- a promise of the vat's own that waits for nothing leads nowhere yet
    promise_free : (i : ℕ) (vs : List (Vat Name)) (ls : List Link) (gs : List (GiftEntry Name)) → unsettled script honest vs ls v (Promise v i) gs ≡ Free
    unfolding unsettled
    promise_free i vs ls gs = refl

    pub promise_loose : (s : Vat Name) (i : ℕ) → standing_of K s.known (Promise v i) ≡ Unsettled → IsLoose script honest w v (Promise v i) s
    unfolding ways ways_of amid onward_at released_at released
    promise_loose s i e n = let vs = world.put_at v s w.vats in let ls = world.push_all v s.outbox w.links in
        ap (λ z. released_at script honest vs ls v (Promise v i) z) (get_put w.vats v r s at) ∙ (ap (λ t. released script honest vs ls v (Promise v i) s.gifts t) e ∙ promise_free i vs ls s.gifts)
