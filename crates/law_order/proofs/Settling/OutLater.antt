-- From a vat that is read so, as its arguments pass and the message goes out, to it read so then: what is asked holds of it still.
use Rattle.std.proofs.Common.{◌≡◌, ℕ, Bool, true, List, [], ◌∷◌, ◌++◌, Option, Some, None, refl, sym, ap, subst, ◌∙◌, ◌⊎◌, inl, inr}
use Rattle.std.specs.Prelude.{slice_get}
use Rattle.def_machine.specs.Values.{Value, Ref, Name, Naming, Foreign}
use Rattle.def_machine.specs.State.{Message, WaitsOn, Known, Passeds, Delivery, Deliver, Posted, Vat}
use Rattle.def_machine.specs.Refs as refs
use Rattle.def_machine.specs.Refs.{entry_of}
use Rattle.def_run.specs.World as world
use Rattle.def_run.specs.World.{Script, Event, Link, World, names, events_of}
use Rattle.law_fate.specs.Name.Names.{IsAmong}
use Rattle.law_order.specs.Ordering.Steps.{LeadsAmid, IsHeld}
use Rattle.law_order.specs.Ordering.Worlds.{IsObject, IsKnown}
use Rattle.law_order.proofs.Views.Quiet.{is_name}
use Rattle.law_order.proofs.Tales.Middle.{events_quiet}
use Rattle.law_order.proofs.Settling.Acts.{story_more}
use Rattle.law_order.proofs.Settling.Frames.{Less}
use Rattle.law_order.proofs.Settling.Later.{as_it_led, Later, WasHeld, Reacted}
use Rattle.law_order.proofs.Settling.Out.{real_out, leads_out, waits_else}
use Rattle.law_order.proofs.Settling.Pass.{Steps, Can, grown_seen}
use Rattle.law_order.proofs.Settling.Put.{put_known}
use Rattle.law_order.proofs.Settling.Read.{Real, others, seen, ready_read}
use Rattle.law_order.proofs.Settling.Waiting.{follow_same}

module _ (script : Script) (honest : ℕ → Bool) (w : World) (v h : ℕ) (head : List Event) (L : Type 0) (r : Vat Name) (at : slice_get w.vats v ≡ Some r) (p n : Name) (k : Known Name) (far : (names script v).spot n ≡ Foreign h) (object : IsObject n) (plain : IsObject p → ⊥) (named : k.name ≡ p) (hosted : k.host ≡ v)
    (rh : Vat Name) (everyone : (u : ℕ) → honest u ≡ true) (there : slice_get w.vats h ≡ Some rh) (number : rh.number ≡ h) (other : h ≡ v → ⊥) (objects : (o : Name) → IsObject o → entry_of (names script h) rh.known o ≡ None)
    (link : (l : Link) × (world.link_at v h w.links ≡ Some l)) (m : Message Name) (ms : List (Message Name)) where
  abbrev K : Naming Name Name
  K = names script v

  abbrev R : Vat Name → Type 0
  R u = Real script honest w v h r at p n k far object plain named hosted u

  abbrev Full : Vat Name → Vat Name
  Full u = record u { known = put_known K p (record k { standing = WaitsOn n; held = m ∷ ms }) u.known }

  abbrev Rest : Vat Name → Vat Name
  Rest u = record u { known = put_known K p (record k { standing = WaitsOn n; held = ms }) u.known }

  module _ (q t : Vat Name) (can : Can script honest w v h r at p n k far object plain named hosted rh everyone there number other objects m.id (m ∷ ms) q) (step : Steps script honest w v h r at p n k far object plain named hosted rh everyone there number other objects m.id (m ∷ ms) q t) (less : Less script v q t)
      (d : Delivery Name) (is : d.message ≡ m.id) (verb : List ℕ) (ys : Passeds Name) where
    abbrev gt : R t
    gt = step.keeps can.real

    abbrev Now : Vat Name
    Now = record t { happened = t.happened ++ Posted h m.id ∷ []; outbox = t.outbox ++ record { to = h; note = Deliver d n verb ys } ∷ [] }

    gn : R Now
    gn = real_out script honest w v h r at p n k far object plain named hosted everyone link m ms t gt d is verb ys

    leads : (x : Value Name) → LeadsAmid script honest w v (Rest Now) v x ≡ LeadsAmid script honest w v (Full q) v x
    leads x = leads_out script honest w v h r at p n k far object plain named hosted everyone link m ms t gt d is verb ys v x ∙ (grown_seen script honest w v h r at p n k far object plain named hosted rh everyone there number other objects m.id (m ∷ ms) q t step can).leading v x

    -- ---- what is known

    seen_q : entry_of K (Full q).known p ≡ Some (record k { standing = WaitsOn n; held = m ∷ ms })
    seen_q = seen script honest w v h r at p n k far object plain named hosted (m ∷ ms) q can.real

    seen_now : entry_of K (Rest Now).known p ≡ Some (record k { standing = WaitsOn n; held = ms })
    seen_now = seen script honest w v h r at p n k far object plain named hosted ms Now gn

    else_q : (a : Name) → (a ≡ p → ⊥) → entry_of K (Full q).known a ≡ entry_of K q.known a
    else_q a f = others script honest w v h r at p n k far object plain named hosted (m ∷ ms) q can.real a f

    else_now : (a : Name) → (a ≡ p → ⊥) → entry_of K (Rest Now).known a ≡ entry_of K t.known a
    else_now a f = others script honest w v h r at p n k far object plain named hosted ms Now gn a f

    known_back : (a : Name) → IsKnown K (Rest Now) a → IsKnown K (Full q) a
    known_back a i = go (is_name a p)
      where
        go : (a ≡ p) ⊎ (a ≡ p → ⊥) → IsKnown K (Full q) a
        go (inl e) = (record k { standing = WaitsOn n; held = m ∷ ms }, ap (entry_of K (Full q).known) e ∙ seen_q)
        go (inr f) = let j = less.known a (i.0, sym (else_now a f) ∙ i.1) in (j.0, else_q a f ∙ j.1)

    held_back : (x : Value Name) → IsHeld script honest w v (Rest Now) x → IsHeld script honest w v (Full q) x
    held_back (Ref a) (inl i) = inl i
    held_back (Ref a) (inr i) = inr (known_back a i)
    held_back other i = tt

    none_some : (j : Known Name) → ◌≡◌ {A = Option (Known Name)} None (Some j) → ⊥
    none_some j e = cc

    -- a known name is no object
    known_there : (a : Name) → IsHeld script honest w v t (Ref a) → IsKnown K q a → IsKnown K t a
    known_there a (inr i) j = i
    known_there a (inl o) j = absurd (none_some j.0 (sym (can.real.ready.ends.objects a o) ∙ j.1))

    known_on : (a : Name) → IsKnown K (Full q) a → IsKnown K (Rest Now) a
    known_on a i = go (is_name a p)
      where
        go : (a ≡ p) ⊎ (a ≡ p → ⊥) → IsKnown K (Rest Now) a
        go (inl e) = (record k { standing = WaitsOn n; held = ms }, ap (entry_of K (Rest Now).known) e ∙ seen_now)
        go (inr f) = let before : IsKnown K q a = (i.0, sym (else_q a f) ∙ i.1) in let j = known_there a (step.real.holds a (inr before)) before in (j.0, else_now a f ∙ j.1)

    some_same : (a b : Known Name) → Some a ≡ Some b → a ≡ b
    some_same a b e = cc

    was_held : (a : Name) (j : Known Name) → entry_of K (Rest Now).known a ≡ Some j → (x : Message Name) → IsAmong x j.held → WasHeld script honest w v head (Full q) a x
    was_held a j e x i = go (is_name a p)
      where
        go : (a ≡ p) ⊎ (a ≡ p → ⊥) → WasHeld script honest w v head (Full q) a x
        go (inl f) = record { known = record k { standing = WaitsOn n; held = m ∷ ms }; found = ap (entry_of K (Full q).known) f ∙ seen_q; among = inr (subst (λ (z : Known Name). IsAmong x z.held) (some_same j (record k { standing = WaitsOn n; held = ms }) (sym e ∙ ap (entry_of K (Rest Now).known) f ∙ seen_now)) i) }
        go (inr f) = let b = less.held a j (sym (else_now a f) ∙ e) x i in record { known = b.0; found = else_q a f ∙ b.1; among = b.2 }

    reacted : (a : Name) (j : Known Name) → entry_of K (Rest Now).known a ≡ Some j → (x : Message Name) → IsAmong x j.reactions → Reacted script honest w v head (Full q) a x
    reacted a j e x i = go (is_name a p)
      where
        go : (a ≡ p) ⊎ (a ≡ p → ⊥) → Reacted script honest w v head (Full q) a x
        go (inl f) = record { known = record k { standing = WaitsOn n; held = m ∷ ms }; found = ap (entry_of K (Full q).known) f ∙ seen_q; among = subst (λ (z : Known Name). IsAmong x z.reactions) (some_same j (record k { standing = WaitsOn n; held = ms }) (sym e ∙ ap (entry_of K (Rest Now).known) f ∙ seen_now)) i }
        go (inr f) = let b = less.reacts a j (sym (else_now a f) ∙ e) x i in record { known = b.0; found = else_q a f ∙ b.1; among = b.2 }

    -- ---- what is followed

    follow_puts : (x : Value Name) → refs.follow K (Rest Now) x ≡ refs.follow K (Rest t) x
    unfolding refs.follow refs.severed refs.severed_at refs.severed_by
    follow_puts x = refl

    follow_now : (x : Value Name) → refs.follow K (Rest Now) x ≡ refs.follow K (Full q) x
    follow_now x = follow_puts x ∙ (sym (follow_same script honest v p (Rest t) (Full t) (waits_else script honest w v h r at p n k far object plain named hosted everyone link m ms t gt d is verb ys) x) ∙ step.seen.follow x)

    pub out_later : Later script honest w v head L (Full q) (Rest Now)
    out_later = record {
      ready = λ z. ready_read script honest w v h r at p n k far object plain named hosted ms Now gn;
      leading = λ x i. as_it_led (held_back x i) (leads x);
      undrawn = λ x e. step.real.undrawn x e;
      told = events_of w.links v (Posted h m.id ∷ []);
      story = story_more script honest w v head L (Full q) (Rest Now) (Posted h m.id ∷ []) (ap (λ es. es ++ Posted h m.id ∷ []) step.real.happened);
      quiet = events_quiet w.links v (Posted h m.id ∷ []) (tt, tt);
      known = known_on;
      lists = step.real.lists;
      follows = λ l x j e. sym (follow_now x) ∙ e;
      held = was_held;
      reacts = reacted;
    }
