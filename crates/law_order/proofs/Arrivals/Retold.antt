-- Ways that turn at all names by which something comes to a lane.
use Rattle.std.proofs.Common.{◌≡◌, Bool, true, false, refl, sym, ap, subst, ◌∙◌}
use Rattle.def_machine.specs.Values.{Name}
use Rattle.law_order.specs.Ordering.Ways.{Lane, Way, Item, Place, Free, End, Mid, Ways, IsIn, Follows, doomed, one_way, alike, beside}
use Rattle.law_order.specs.Ordering.Turns.{Comes, is_there, on_end, on_mid, Reroutes, stays_so, said_now, ends_now, renamed_so, behind_all, gone_on, IsDefinite, IsTurned}
use Rattle.law_order.specs.Ordering.Messages.{StaysBehind}
use Rattle.law_order.specs.Ordering.Arrivals.{IsGoodPlace, Agree}
use Rattle.law_order.proofs.Ordering.Agreeing.{agreeing_keeps}
use Rattle.law_order.proofs.Ordering.Turned.{turning_keeps}
use Rattle.law_order.specs.Arrivals.Tellings.{IsRetold, RetellingKeeps}

-- these ways, in which nothing is said of how other names go on
unfoldable trimmed : (Lane → Name → Bool) → Ways → Ways
trimmed Good w = record { stands = w.stands; onward = λ l n. elim (Good l n) [ true ↦ w.onward l n | false ↦ Free ] }

module _ (Good : Lane → Name → Bool) (w : Ways) where
  trimmed_onward : (l : Lane) (n : Name) → Good l n ≡ true → (trimmed Good w).onward l n ≡ w.onward l n
  unfolding trimmed
  trimmed_onward l n e = ap (λ c. elim c [ true ↦ w.onward l n | false ↦ Free ]) e

  trimmed_stands : (l : Lane) → (trimmed Good w).stands l ≡ w.stands l
  unfolding trimmed
  trimmed_stands l = refl

  module _ (places : (l : Lane) (n : Name) → Good l n ≡ true → IsGoodPlace Good (w.onward l n)) (items : (l : Lane) (i : Item) → IsIn i (w.stands l) → Good l i.aim ≡ true) where
    to_trimmed : Agree Good w (trimmed Good w)
    to_trimmed = record {
      stands = λ l i h. subst (λ js. IsIn i js) (sym (trimmed_stands l)) h;
      onward = λ l n e. trimmed_onward l n e;
      places = λ l n e. places l n e;
      items = λ l i h. items l i h;
    }

    from_trimmed : Agree Good (trimmed Good w) w
    from_trimmed = record {
      stands = λ l i h. subst (λ js. IsIn i js) (trimmed_stands l) h;
      onward = λ l n e. sym (trimmed_onward l n e);
      places = λ l n e. subst (IsGoodPlace Good) (sym (trimmed_onward l n e)) (places l n e);
      items = λ l i h. items l i (subst (λ js. IsIn i js) (trimmed_stands l) h);
    }

    comes_trimmed : (c d : Place) → IsGoodPlace Good d → Comes w c d → Comes (trimmed Good w) c d
    comes_trimmed c d g is_there = is_there
    comes_trimmed c d g (on_end {l = l} {n = n} h) = on_end (subst (Comes (trimmed Good w) c) (sym (trimmed_onward l n g)) (comes_trimmed c (w.onward l n) (places l n g) h))
    comes_trimmed c d g (on_mid {l = l} {n = n} h) = on_mid (subst (Comes (trimmed Good w) c) (sym (trimmed_onward l n g.0)) (comes_trimmed c (w.onward l n) (places l n g.0) h))

module _ (Good : Lane → Name → Bool) (w u : Ways) (g : IsRetold Good w u) where
  abbrev W : Ways
  W = trimmed Good w

  abbrev U : Ways
  U = trimmed Good u

  rerouted : (c d : Place) → IsGoodPlace Good c → IsGoodPlace Good d → Reroutes w u c d → Reroutes W U c d
  rerouted c d i j stays_so = stays_so
  rerouted c d i j said_now = said_now
  rerouted c d i j (ends_now h) = ends_now ((agreeing_keeps Good u U (to_trimmed Good u g.places_then g.items_then) d j).0 h)
  rerouted c d i j (renamed_so {l = l} {m = m} {n = n} e k) = renamed_so (trimmed_onward Good u l n i ∙ e ∙ sym (trimmed_onward Good u l m j)) (subst IsDefinite (sym (trimmed_onward Good u l n i)) k)
  rerouted c d i j (behind_all {l = l} {b = b} {n = n} h k) = behind_all (λ x y. h x (subst (λ js. IsIn x js) (trimmed_stands Good w l) y)) (comes_trimmed Good u g.places_then g.items_then (Mid l b n) d j k)
  rerouted c d i j (gone_on {l = l} {n = n} h) = gone_on (subst (λ q. Reroutes W U q d) (sym (trimmed_onward Good w l n i.0)) (rerouted (w.onward l n) d (g.places l n i.0) j h))

  link_by : (l : Lane) (n : Name) (c : Bool) → Good l n ≡ c → (Good l n ≡ true → u.onward l n ≡ w.onward l n) → U.onward l n ≡ W.onward l n
  unfolding trimmed
  link_by l n true e h = ap (λ q. elim (Good l n) [ true ↦ q | false ↦ Free ]) (h e)
  link_by l n false e h = ap (λ c. elim c [ true ↦ u.onward l n | false ↦ Free ]) e ∙ sym (ap (λ c. elim c [ true ↦ w.onward l n | false ↦ Free ]) e)

  turned : IsTurned W U
  turned = record {
    stands = λ l i h. subst (λ js. IsIn i js) (sym (trimmed_stands Good u l)) (g.stands l i (subst (λ js. IsIn i js) (trimmed_stands Good w l) h));
    links = λ a b n. link_by (Way a b) n (Good (Way a b) n) refl (λ e. g.links a b n e);
    lanes = λ l n i. let e = g.one_way l n i in
        subst (λ q. Reroutes W U q (U.onward l n)) (sym (trimmed_onward Good w l n e)) (subst (λ q. Reroutes W U (w.onward l n) q) (sym (trimmed_onward Good u l n e)) (rerouted (w.onward l n) (u.onward l n) (g.places l n e) (g.places_then l n e) (g.lanes l n i)));
  }

  kept : (c d : Place) → IsGoodPlace Good c → IsGoodPlace Good d → Reroutes w u c d → StaysBehind w u c d
  kept c d i j r =
      let first = agreeing_keeps Good w W (to_trimmed Good w g.places g.items) c i in
      let then = turning_keeps W U turned c d (rerouted c d i j r) in
      let last = agreeing_keeps Good U u (from_trimmed Good u g.places_then g.items_then) d j in
      (λ h. last.0 (then.0 (first.0 h)), λ x h. last.1 x (then.1 x (first.1 x h)))

  -- ---- what follows

  pub aside : (l : Lane) (m n : Name) → Good l m ≡ true → Good l n ≡ true → Follows u (w.onward l m) (w.onward l n) → Follows u (End l m) (End l n)
  aside (Way a b) m n i j f = beside (subst (λ c. Follows u c (u.onward (Way a b) n)) (sym (g.links a b m i)) (subst (λ d. Follows u (w.onward (Way a b) m) d) (sym (g.links a b n j)) f))
  aside other m n i j f = one_way tt

  pub follows_kept : (c d : Place) → IsGoodPlace Good c → IsGoodPlace Good d → Follows w c d → Follows u c d
  follows_kept c d i j (doomed h) = doomed ((kept d d j j stays_so).0 h)
  follows_kept c d i j (one_way k) = one_way k
  follows_kept c d i j alike = alike
  follows_kept c d i j (beside {l = l} {m = m} {n = n} f) = aside l m n i j (follows_kept (w.onward l m) (w.onward l n) (g.places l m i) (g.places l n j) f)

pub retelling_keeps : RetellingKeeps
retelling_keeps = λ Good w u g c d i j r. kept Good w u g c d i j r
