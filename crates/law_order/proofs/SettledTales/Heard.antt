-- A vat is told that a name of another vat settled to what is no promise: what it has leads then where it led, or to that vat, or nowhere.
use Rattle.std.proofs.Common.{◌≡◌, ℕ, suc, Bool, true, false, List, [], ◌∷◌, Some, refl, sym, ap, subst, ◌∙◌, eqb-true}
use Rattle.std.specs.Prelude.{slice_get, ◌==◌, ◌&&◌}
use Rattle.def_machine.specs.Values.{Value, Items, Ref, Name, Naming, same_name, host_of}
use Rattle.def_machine.specs.State.{Standing, Settle, Settled, Settles, Vat}
use Rattle.def_machine.specs.Refs as refs
use Rattle.def_machine.specs.Refs.{standing_of}
use Rattle.def_run.specs.World.{Script, Event, World, names, events_of}
use Rattle.law_order.specs.Ordering.Ways.{Way, Place, Nowhere, End}
use Rattle.law_order.specs.Ordering.Places.{amid}
use Rattle.law_order.specs.Ordering.Settle.{aimed_at, settled_to}
use Rattle.law_order.specs.Ordering.Settlings.{with_line}
use Rattle.law_order.specs.Ordering.Steps.{Ready, LeadsAmid, IsHeld}
use Rattle.law_order.proofs.Ordering.Named.{same_is}
use Rattle.law_order.specs.Arrivals.Tellings.{IsTidy, IsToldOf, LeadsOnTo, told_by, owned}
use Rattle.law_order.proofs.Arrivals.Telling.{told_names_lead}
use Rattle.law_order.proofs.Arrivals.Tidy.{leads_good}
use Rattle.law_order.proofs.Arrivals.Told as tell
use Rattle.law_order.proofs.Tales.Middle.{events_quiet}
use Rattle.law_order.proofs.Settling.Acts.{story_more, held_back}
use Rattle.law_order.proofs.Settling.Block.{lists_back}
use Rattle.law_order.proofs.Settling.Frames.{Less, changed_frame, less_mild}
use Rattle.law_order.proofs.Settling.Later.{Later, Leading, NotHeld, as_it_led, elsewhere}
use Rattle.law_order.proofs.Settling.Settling.{IsList}

-- to vat a, or nowhere
pub data GoesOut (v a : ℕ) (e : Place) : Type 0 where
  nowhere : e ≡ Nowhere → GoesOut v a e
  there : (q : Name) → e ≡ End (Way v a) q → GoesOut v a e

both_true : (b c : Bool) → (b && c) ≡ true → (b ≡ true) × (c ≡ true)
both_true true true e = (refl, refl)
both_true true false e = absurd (cc)
both_true false c e = absurd (cc)

not_held : (v a : ℕ) (e : Place) → GoesOut v a e → NotHeld e
not_held v a e (nowhere i) = subst NotHeld (sym i) tt
not_held v a e (there q i) = subst NotHeld (sym i) tt

way_is : (v a g : ℕ) (q m : Name) → End (Way v a) q ≡ End (Way v g) m → a ≡ g
way_is v a g q m e = cc

no_way : (v g : ℕ) (m : Name) → Nowhere ≡ End (Way v g) m → ⊥
no_way v g m e = cc

-- over a link only to vat a
out_to : (v a g : ℕ) (e : Place) (m : Name) → GoesOut v a e → e ≡ End (Way v g) m → a ≡ g
out_to v a g e m (nowhere i) f = absurd (no_way v g m (sym i ∙ f))
out_to v a g e m (there q i) f = way_is v a g q m (sym i ∙ f)

module _ (script : Script) (honest : ℕ → Bool) (w : World) (v a : ℕ) (head : List Event) (r : Vat Name) (at : slice_get w.vats v ≡ Some r) (n : Name) (y : Value Name) (s : Vat Name) where
  abbrev K : Naming Name Name
  K = names script v

  abbrev pub Then : Vat Name
  Then = settled_to K (with_line s (Settles n y)) n y

  module _ (tidy : IsTidy script honest w v s) (told : IsToldOf script v a s Then n y) (out : GoesOut v a (aimed_at script v Then y)) (ready_then : Ready script honest w v Then) where
    abbrev E : Place
    E = aimed_at script v Then y

    abbrev Was : Value Name → Place
    Was x = LeadsAmid script honest w v s v x

    abbrev Now : Value Name → Place
    Now x = LeadsAmid script honest w v Then v x

    lead : (x : Value Name) → Now x ≡ told_by v n E (Was x)
    lead x = told_names_lead script honest w v a r s Then n y at tidy told v x

    less : Less script v s Then
    less = less_mild script v (Settle y) tt n s Then refl

    held : (x : Value Name) → IsHeld script honest w v Then x → IsHeld script honest w v s x
    held x i = held_back script honest w v head (IsList y) s Then less x i

    -- where it led out on the name
    out_by : (x : Value Name) (h : ℕ) → IsHeld script honest w v Then x → Was x ≡ End (Way v h) n → Now x ≡ E → Leading script honest w v head s Then x
    unfolding owned
    out_by x h i e f =
        let good = leads_good script honest (let z = amid v s w in z.vats) (let z = amid v s w in z.links) tidy.hosts tidy.links v x in
        let host : h ≡ a = sym (eqb-true (host_of n) h (subst (λ (p : Place). Rattle.law_order.specs.Ordering.Arrivals.IsGoodPlace owned p) e good)) ∙ told.host in
        elsewhere x (held x i) (subst NotHeld (sym f) (not_held v a E out)) (λ g m k. (n, e ∙ ap (λ z. End (Way v z) n) (host ∙ out_to v a g E m out (sym f ∙ k))))

    leading_at : (x : Value Name) → IsHeld script honest w v Then x → (c : Place) → Was x ≡ c → Now x ≡ told_by v n E c → Leading script honest w v head s Then x
    unfolding told_by
    leading_at x i (End (Way u h) m) e f = go ((u == v) && same_name m n) refl f
      where
        go : (b : Bool) → ((u == v) && same_name m n) ≡ b → Now x ≡ elim b [ true ↦ E | false ↦ End (Way u h) m ] → Leading script honest w v head s Then x
        go true q k = let z = both_true (u == v) (same_name m n) q in out_by x h i (e ∙ ap (λ j. End (Way j h) m) (eqb-true u v z.0) ∙ ap (λ j. End (Way v h) j) (same_is m n z.1)) k
        go false q k = as_it_led (held x i) (k ∙ sym e)
    leading_at x i other e f = as_it_led (held x i) (f ∙ sym e)

    led_to : (d : ℕ) (q : Standing Name) → LeadsOnTo y q → refs.led K (λ z. refs.follow_at K d Then.known z) n q ≡ y
    unfolding refs.led
    led_to d (Settled z) i = ap (λ x. refs.follow_at K d Then.known x) i ∙ told.ended d
    led_to d (Rattle.def_machine.specs.State.Viewed q) i = ap (λ x. refs.follow_at K d Then.known x) i ∙ told.ended d
    led_to d other i = absurd i

    goes : (d : ℕ) → refs.follow_at K (suc d) Then.known (Ref n) ≡ y
    unfolding refs.follow_at standing_of refs.standing_in
    goes d = ap (λ o. refs.led K (λ z. refs.follow_at K d Then.known z) n (refs.standing_in o)) told.only.found_then ∙ led_to d told.only.after.standing told.only.leads

    others : (m : Name) → (m ≡ n → ⊥) → standing_of K Then.known m ≡ standing_of K s.known m
    others m f = tell.others_stand script honest v a s Then n y (mine) told m f
      where
        mine : Rattle.law_order.specs.Arrivals.Tellings.HostsAreTold K s
        mine = Rattle.law_order.proofs.Arrivals.Telling.mine script honest w v a r s Then n y at tidy told

    back : (IsList y → ⊥) → (x : Value Name) (k : ℕ) → refs.follow K Then x ≡ Items k → refs.follow K s x ≡ Items k
    unfolding refs.follow refs.severed refs.severed_at refs.severed_by
    back never x k e = lists_back script v s n y goes others (IsList y) (λ j i. subst IsList (sym i) tt) never x k e

    pub heard_later : Later script honest w v head (IsList y) s Then
    heard_later = let frame = changed_frame K (Settle y) n s Then refl refl refl in record {
      ready = λ i. ready_then;
      leading = λ x i. leading_at x i (Was x) refl (lead x);
      undrawn = frame.undrawn;
      told = events_of w.links v (Settles n y ∷ []);
      story = story_more script honest w v head (IsList y) s Then (Settles n y ∷ []) refl;
      quiet = events_quiet w.links v (Settles n y ∷ []) (tt, tt);
      known = frame.known;
      lists = frame.lists;
      follows = back;
      held = λ m k f z i. let j = less.held m k f z i in record { known = j.0; found = j.1; among = j.2 };
      reacts = λ m k f z i. let j = less.reacts m k f z i in record { known = j.0; found = j.1; among = j.2 };
    }
