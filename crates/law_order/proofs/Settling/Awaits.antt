-- The answer of what went out waits on the new answer at the other vat: a tale, read as though the name still held the rest.
use Rattle.std.proofs.Common.{◌≡◌, ℕ, Bool, List, [], ◌∷◌, ◌++◌, Some, refl, sym, ap, subst, ◌∙◌}
use Rattle.std.specs.Prelude.{slice_get}
use Rattle.def_machine.specs.Values.{Name, Naming, Foreign}
use Rattle.def_machine.specs.State.{Message, Unsettled, WaitsOn, Known, Change, Wait, WaitOn, Waits, Vat, with_change}
use Rattle.def_machine.specs.Refs.{entry_of, standing_of, standing_in}
use Rattle.def_run.specs.World as world
use Rattle.def_run.specs.World.{Script, Event, Link, World, names}
use Rattle.law_order.specs.Ordering.Places.{released, released_at, onward_at, ways_of, ways, amid}
use Rattle.law_order.specs.Ordering.Settlings.{IsLoose}
use Rattle.law_order.specs.Ordering.Ways.{Held}
use Rattle.law_order.specs.Ordering.Worlds.{IsObject}
use Rattle.law_order.proofs.Ordering.Entries.{Differs, as_it_was, changes, differs}
use Rattle.law_order.proofs.Ordering.OrderPassing.{waiting_same}
use Rattle.law_order.proofs.Ordering.Sends.{get_put}
use Rattle.law_order.proofs.Ordering.Waiting.{waits_ready}
use Rattle.law_order.proofs.Settling.Acts.{Told}
use Rattle.law_order.proofs.Settling.Put.{put_known, put_change}
use Rattle.law_order.proofs.Settling.Read.{Real, others, ready_read}
use Rattle.law_order.proofs.Settling.Waits.{waited_told}

module _ (script : Script) (honest : ℕ → Bool) (w : World) (v h : ℕ) (head : List Event) (L : Type 0) (r : Vat Name) (at : slice_get w.vats v ≡ Some r) (p n : Name) (k : Known Name) (far : (names script v).spot n ≡ Foreign h) (object : IsObject n) (plain : IsObject p → ⊥) (named : k.name ≡ p) (hosted : k.host ≡ v)
    (ms : List (Message Name)) (t : Vat Name) (gt : Real script honest w v h r at p n k far object plain named hosted t) (b a : Name) (kb : Known Name) (found : entry_of (names script v) t.known b ≡ Some kb) (unsettled : kb.standing ≡ Unsettled) (apart : b ≡ p → ⊥) (new_apart : a ≡ p → ⊥) where
  abbrev K : Naming Name Name
  K = names script v

  abbrev R : Vat Name → Type 0
  R u = Real script honest w v h r at p n k far object plain named hosted u

  abbrev Rest : Vat Name → Vat Name
  Rest u = record u { known = put_known K p (record k { standing = WaitsOn n; held = ms }) u.known }

  abbrev pub Then : Vat Name
  Then = record t { known = with_change K (Wait b) a (with_change K (WaitOn a) b t.known); happened = t.happened ++ Waits b a ∷ [] }

  other_entry : (c : Change Name) (x : Name) (ks : List (Known Name)) → (x ≡ p → ⊥) → Differs script v c x p (entry_of K ks p) (entry_of K (with_change K c x ks) p) → entry_of K (with_change K c x ks) p ≡ entry_of K ks p
  other_entry c x ks f (as_it_was e) = e
  other_entry c x ks f (changes j e i l) = absurd (f (sym e))

  stays_known : entry_of K Then.known p ≡ entry_of K t.known p
  stays_known = other_entry (Wait b) a (with_change K (WaitOn a) b t.known) new_apart (differs script v (Wait b) a p (with_change K (WaitOn a) b t.known))
      ∙ other_entry (WaitOn a) b t.known apart (differs script v (WaitOn a) b p t.known)

  pub real_waits : IsLoose script honest w v b t → R Then
  real_waits loose = record { ready = waits_ready script honest w v t b a kb found unsettled loose gt.ready; known = gt.known; found = stays_known ∙ gt.found; settled = gt.settled; host = gt.host; nothing = gt.nothing; calm = gt.calm; itself = gt.itself; clear = gt.clear }

  -- ---- nothing is said of where it leads, also read so

  rest_found : entry_of K (Rest t).known b ≡ Some kb
  rest_found = others script honest w v h r at p n k far object plain named hosted ms t gt b apart ∙ found

  stands_open : (q : Vat Name) → entry_of K q.known b ≡ Some kb → standing_of K q.known b ≡ Unsettled
  unfolding standing_of standing_in
  stands_open q e = ap (λ o. standing_in o) e ∙ unsettled

  abbrev Links : List Link
  Links = world.push_all v t.outbox w.links

  abbrev Vats : Vat Name → List (Vat Name)
  Vats q = world.put_at v q w.vats

  onward_open : (q : Vat Name) → q.outbox ≡ t.outbox → q.gifts ≡ t.gifts → entry_of K q.known b ≡ Some kb → (m : Name) → (ways script honest (amid v q w)).onward (Held v b) m ≡ released script honest (Vats q) Links v b t.gifts Unsettled
  unfolding ways ways_of amid onward_at released_at
  onward_open q e f g m = ap (λ ps. onward_at script honest (Vats q) (world.push_all v ps w.links) (Held v b) m) e ∙ (ap (λ o. released_at script honest (Vats q) Links v b o) (get_put w.vats v r q at)
      ∙ (ap (λ gs. released script honest (Vats q) Links v b gs (standing_of K q.known b)) f ∙ ap (λ z. released script honest (Vats q) Links v b t.gifts z) (stands_open q g)))

  released_open : (vs rs : List (Vat Name)) → released script honest vs Links v b t.gifts Unsettled ≡ released script honest rs Links v b t.gifts Unsettled
  unfolding released
  released_open vs rs = waiting_same script honest vs rs Links v b t.gifts

  pub loose_read : IsLoose script honest w v b t → IsLoose script honest w v b (Rest t)
  loose_read loose m = onward_open (Rest t) refl refl rest_found m ∙ (released_open (Vats (Rest t)) (Vats t) ∙ (sym (onward_open t refl refl found m) ∙ loose m))

  known_is : (Rest Then).known ≡ with_change K (Wait b) a (with_change K (WaitOn a) b (Rest t).known)
  known_is = put_change script v p (record k { standing = WaitsOn n; held = ms }) named (Wait b) a new_apart (with_change K (WaitOn a) b t.known)
      ∙ ap (with_change K (Wait b) a) (put_change script v p (record k { standing = WaitsOn n; held = ms }) named (WaitOn a) b apart t.known)

  pub waits_read : IsLoose script honest w v b (Rest t) → Told script honest w v head L (Rest t) (Rest Then)
  waits_read loose = subst (λ ks. Told script honest w v head L (Rest t) (record t { known = ks; happened = t.happened ++ Waits b a ∷ [] })) (sym known_is)
      (waited_told script honest w v head L (Rest t) b a kb rest_found unsettled loose (ready_read script honest w v h r at p n k far object plain named hosted ms t gt))
