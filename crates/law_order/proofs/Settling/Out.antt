-- A held message goes out to another vat: read as though the name held it till then, a small step.
use Rattle.std.proofs.Common.{◌≡◌, ℕ, Bool, true, false, List, [], ◌∷◌, ◌++◌, Some, None, refl, sym, ap, subst, ◌∙◌, ◌⊎◌, inl, inr}
use Rattle.std.specs.Prelude.{slice_get}
use Rattle.def_machine.specs.Values.{Words, Value, Name, Naming, Foreign}
use Rattle.def_machine.specs.State.{Message, WaitsOn, Known, Passeds, Delivery, Note, Deliver, Posted, Vat}
use Rattle.def_machine.specs.Refs.{entry_of}
use Rattle.def_run.specs.World as world
use Rattle.def_run.specs.World.{Script, Link, World, names}
use Rattle.law_order.specs.Ordering.Ways.{Lane, Queue, Held, Way, Item, Place, Free, End, Ways, IsIn, IsOneWay, Doom, nowhere, by_end, alike, Ahead, doomed_there, in_end}
use Rattle.law_order.specs.Ordering.Places.{item, queued, held_on, held_in, stands_at, ways_of, ways, amid}
use Rattle.law_order.specs.Ordering.Settle.{KeepsBy, SentOn}
use Rattle.law_order.specs.Ordering.Steps.{WaysAmid, LeadsAmid, Grown}
use Rattle.law_order.specs.Ordering.Worlds.{IsObject}
use Rattle.law_order.proofs.Ordering.Adds.{adds_nothing, adds_note, grown_adds, stays_quiet}
use Rattle.law_order.proofs.Ordering.Arrived.{IsOpen}
use Rattle.law_order.proofs.Ordering.Comings.{note_open}
use Rattle.law_order.proofs.Ordering.Lanes.{Same, same_lane}
use Rattle.law_order.proofs.Ordering.News.{grown_then}
use Rattle.law_order.proofs.Ordering.Sends.{get_put}
use Rattle.law_order.proofs.Ordering.Settling.{sending_on_keeps}
use Rattle.law_order.proofs.History.Lost.{cut_leads}
use Rattle.law_order.proofs.Tales.Middle.{at_vat}
use Rattle.law_order.proofs.Settling.Put.{put_known}
use Rattle.law_order.proofs.Settling.Read.{Real, others, seen, onward_read, same_length}
use Rattle.law_order.proofs.Settling.Waiting.{WaitsElse, leads_same, onward_same}

module _ (script : Script) (honest : ℕ → Bool) (w : World) (v h : ℕ) (r : Vat Name) (at : slice_get w.vats v ≡ Some r) (p n : Name) (k : Known Name) (far : (names script v).spot n ≡ Foreign h) (object : IsObject n) (plain : IsObject p → ⊥) (named : k.name ≡ p) (hosted : k.host ≡ v)
    (everyone : (u : ℕ) → honest u ≡ true) (link : (l : Link) × (world.link_at v h w.links ≡ Some l)) (m : Message Name) (ms : List (Message Name)) where
  abbrev K : Naming Name Name
  K = names script v

  abbrev W : Vat Name → Ways
  W t = WaysAmid script honest w v t

  abbrev E : Place
  E = End (Way v h) n

  abbrev R : Vat Name → Type 0
  R u = Real script honest w v h r at p n k far object plain named hosted u

  -- the name still holds it, and those behind it; or only those
  abbrev pub Full : Vat Name → Vat Name
  Full u = record u { known = put_known K p (record k { standing = WaitsOn n; held = m ∷ ms }) u.known }

  abbrev pub Rest : Vat Name → Vat Name
  Rest u = record u { known = put_known K p (record k { standing = WaitsOn n; held = ms }) u.known }

  module _ (q : Vat Name) (g : R q) (d : Delivery Name) (is : d.message ≡ m.id) (verb : Words) (ys : Passeds Name) where
    abbrev Mail : Note Name
    Mail = Deliver d n verb ys

    abbrev There : Vat Name
    There = record q { happened = q.happened ++ Posted h m.id ∷ [] }

    abbrev Out : Vat Name
    Out = record q { happened = q.happened ++ Posted h m.id ∷ []; outbox = q.outbox ++ record { to = h; note = Mail } ∷ [] }

    pub real_out : R Out
    real_out = record {
      ready = (stays_quiet script honest w v There Out (adds_note K There (record { to = h; note = Mail }) tt, refl, refl, refl) (stays_quiet script honest w v q There (adds_nothing K q There refl refl refl refl refl refl, refl, refl, refl) g.ready).0).0;
      known = g.known;
      found = g.found;
      settled = g.settled;
      host = g.host;
      nothing = g.nothing;
      calm = g.calm;
      itself = g.itself;
      clear = g.clear;
    }

    seen_full : entry_of K (Full q).known p ≡ Some (record k { standing = WaitsOn n; held = m ∷ ms })
    seen_full = seen script honest w v h r at p n k far object plain named hosted (m ∷ ms) q g

    seen_rest : entry_of K (Rest q).known p ≡ Some (record k { standing = WaitsOn n; held = ms })
    seen_rest = seen script honest w v h r at p n k far object plain named hosted ms q g

    pub waits_else : WaitsElse K p (Rest q) (Full q)
    waits_else = record {
      number = refl;
      gifts = refl;
      noticed = refl;
      names_known = same_length script honest w v h r at p n k far object plain named hosted (m ∷ ms) q g ∙ sym (same_length script honest w v h r at p n k far object plain named hosted ms q g);
      plain = plain;
      before = record k { standing = WaitsOn n; held = ms };
      found = seen_rest;
      waits = tt;
      after = record k { standing = WaitsOn n; held = m ∷ ms };
      found_then = seen_full;
      waits_then = tt;
      host = refl;
      others = λ a f. others script honest w v h r at p n k far object plain named hosted (m ∷ ms) q g a f ∙ sym (others script honest w v h r at p n k far object plain named hosted ms q g a f);
    }

    put_grown : Grown script honest w v (Rest q) (Rest Out)
    put_grown = grown_then script honest w v (Rest q) (Rest There) (Rest Out)
        (grown_adds script honest w v (Rest q) (Rest There) (adds_nothing K (Rest q) (Rest There) refl refl refl refl refl refl))
        (grown_adds script honest w v (Rest There) (Rest Out) (adds_note K (Rest There) (record { to = h; note = Mail }) tt))

    pub leads_out : (u : ℕ) (x : Value Name) → LeadsAmid script honest w v (Rest Out) u x ≡ LeadsAmid script honest w v (Full q) u x
    leads_out u x = put_grown.leading u x ∙ sym (leads_same script honest v p (Rest q) (Full q) waits_else w u x)

    pub onward_out : (o : Name) → (W (Rest Out)).onward (Held v p) o ≡ E
    onward_out o = onward_read script honest w v h r at p n k far object plain named hosted ms Out real_out o

    onward_full : (l : Lane) (o : Name) → (W (Full q)).onward l o ≡ (W (Rest q)).onward l o
    onward_full l o = go (same_lane l (Held v p))
      where
        go : Same l (Held v p) → (W (Full q)).onward l o ≡ (W (Rest q)).onward l o
        go (inl e) = subst (λ z. (W (Full q)).onward z o ≡ (W (Rest q)).onward z o) (sym e) (onward_read script honest w v h r at p n k far object plain named hosted (m ∷ ms) q g o ∙ sym (onward_read script honest w v h r at p n k far object plain named hosted ms q g o))
        go (inr f) = onward_same script honest v p (Rest q) (Full q) waits_else w refl l o f

    -- ---- the message stands on the link, or what comes there is lost

    way_open : IsOpen v h w.links → (W (Rest Out)).stands (Way v h) ≡ (W (Rest q)).stands (Way v h) ++ item d.message n ∷ []
    way_open o = note_open script honest w v h (everyone v) (everyone h) d n verb ys (Rest q) (Rest Out) refl o

    in_last : (xs : List Item) (i : Item) → IsIn i (xs ++ i ∷ [])
    in_last [] i = inl refl
    in_last (x ∷ xs) i = inr (in_last xs i)

    by_cut : (b : Bool) → link.0.cut ≡ b → Ahead (W (Rest Out)) m.id E
    by_cut true c = doomed_there (by_end (subst (Doom (W (Rest Out))) (sym (cut_leads script honest everyone w v h (Rest Out) n (record { link = link.0; found = link.1; cut = c }))) nowhere))
    by_cut false c = in_end (subst (IsIn (item m.id n)) (sym (way_open (link.0, link.1, c) ∙ ap (λ z. (W (Rest q)).stands (Way v h) ++ item z n ∷ []) is)) (in_last ((W (Rest q)).stands (Way v h)) (item m.id n))) alike

    pub ahead_out : Ahead (W (Rest Out)) m.id E
    ahead_out = by_cut link.0.cut refl

    -- ---- what stands where

    held_full : (W (Full q)).stands (Held v p) ≡ item m.id p ∷ held_on p ms
    unfolding ways ways_of amid stands_at held_in held_on
    held_full = ap (λ o. elim o [ Some x ↦ held_in p (entry_of K x.known p) | None ↦ [] ]) (get_put w.vats v r (Full q) at) ∙ ap (held_in p) seen_full

    held_rest : (W (Rest q)).stands (Held v p) ≡ held_on p ms
    unfolding ways ways_of amid stands_at held_in
    held_rest = ap (λ o. elim o [ Some x ↦ held_in p (entry_of K x.known p) | None ↦ [] ]) (get_put w.vats v r (Rest q) at) ∙ ap (held_in p) seen_rest

    pub stand_else : (l : Lane) → (l ≡ Held v p → ⊥) → (W (Rest q)).stands l ≡ (W (Full q)).stands l
    unfolding ways ways_of amid stands_at
    stand_else (Queue u) f = at_vat (λ x. queued x.queue) [] v u (Full q) (Rest q) w.vats (λ e. refl)
    stand_else (Held u a) f = at_vat (λ x. held_in a (entry_of (names script u) x.known a)) [] v u (Full q) (Rest q) w.vats
        (λ e. subst (λ z. held_in a (entry_of (names script z) (Rest q).known a) ≡ held_in a (entry_of (names script z) (Full q).known a)) (sym e) (ap (held_in a) (sym (waits_else.others a (λ i. f (ap (λ z. Held z a) e ∙ ap (λ z. Held v z) i))))))
    stand_else (Way a b) f = refl

    -- ---- all stays ahead

    lanes_out : (l : Lane) (o : Name) → ((W (Rest Out)).onward l o ≡ (W (Full q)).onward l o) ⊎ (IsOneWay l × ((W (Full q)).onward l o ≡ Free))
    lanes_out l o = go (put_grown.grows.onward l o)
      where
        go : ((W (Rest Out)).onward l o ≡ (W (Rest q)).onward l o) ⊎ (IsOneWay l × ((W (Rest q)).onward l o ≡ Free)) → ((W (Rest Out)).onward l o ≡ (W (Full q)).onward l o) ⊎ (IsOneWay l × ((W (Full q)).onward l o ≡ Free))
        go (inl e) = inl (e ∙ sym (onward_full l o))
        go (inr e) = inr (e.0, onward_full l o ∙ e.1)

    stands_out : (l : Lane) (i : Item) → IsIn i ((W (Full q)).stands l) → IsIn i ((W (Rest Out)).stands l) ⊎ ((l ≡ Held v p) × Ahead (W (Rest Out)) i.mail E)
    stands_out l i j = go (same_lane l (Held v p))
      where
        held : IsIn i (item m.id p ∷ held_on p ms) → l ≡ Held v p → IsIn i ((W (Rest Out)).stands l) ⊎ ((l ≡ Held v p) × Ahead (W (Rest Out)) i.mail E)
        held (inl e) f = inr (f, subst (λ z. Ahead (W (Rest Out)) z E) (sym (ap (λ (y : Item). y.mail) e)) ahead_out)
        held (inr e) f = inl (subst (λ z. IsIn i ((W (Rest Out)).stands z)) (sym f) (put_grown.grows.stands (Held v p) i (subst (IsIn i) (sym held_rest) e)))

        go : Same l (Held v p) → IsIn i ((W (Rest Out)).stands l) ⊎ ((l ≡ Held v p) × Ahead (W (Rest Out)) i.mail E)
        go (inl e) = held (subst (IsIn i) held_full (subst (λ z. IsIn i ((W (Full q)).stands z)) e j)) e
        go (inr f) = inl (put_grown.grows.stands l i (subst (IsIn i) (sym (stand_else l f)) j))

    sent_out : SentOn (W (Full q)) (W (Rest Out)) v p E
    sent_out = record { leads = onward_out; lanes = lanes_out; stands = stands_out }

    -- What was ahead stays ahead as the message leaves what the name holds.
    pub keeps_out : KeepsBy (W (Full q)) (W (Rest Out)) (λ c. c)
    keeps_out = sending_on_keeps (W (Full q)) (W (Rest Out)) v p E sent_out
