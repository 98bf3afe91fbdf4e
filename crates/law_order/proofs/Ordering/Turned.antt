-- The changes by which no message goes on keep what is ahead.
use Rattle.std.proofs.Common.{◌≡◌, ℕ, refl, sym, subst, ◌⊎◌, inl, inr}
use Rattle.def_machine.specs.Values.{Name}
use Rattle.law_order.specs.Ordering.Ways.{Lane, Held, Way, Place, Nowhere, Free, End, Mid, Ways, IsIn, IsOneWay, Doom, nowhere, by_end, Ahead}
use Rattle.law_order.specs.Ordering.Changes.{Lacks}
use Rattle.law_order.specs.Ordering.Turns.{Comes, is_there, on_end, on_mid, Reroutes, stays_so, said_now, ends_now, renamed_so, behind_all, gone_on, IsTurned, IsPassed, IsNoticed, IsCut, OnlyOn, TurningKeeps, PassingByKeeps, NoticingKeeps, CuttingKeeps}
use Rattle.law_order.proofs.Ordering.Kept.{Leads, now, later_end, later_mid, Turns, from_free, to_doom, same_end, same_mid, held_back, passed_end, passed_mid, renamed, Goes, turning, between, Shifts, Change, Holds, kept, doom_kept, doom_closed}
use Rattle.law_order.proofs.Ordering.Changes.{self, equal, Never, never, some_name, Any, slide_self, slide_equal}

-- ---- names that lead elsewhere

comes : (w : Ways) (e d : Place) → Comes w e d → Leads w (λ c. c ≡ e) d
comes w e d is_there = now refl
comes w e d (on_end {l = l} {n = n} h) = later_end (comes w e (w.onward l n) h)
comes w e d (on_mid {l = l} {n = n} h) = later_mid (comes w e (w.onward l n) h)

module _ (w u : Ways) (g : IsTurned w u) (x : Name) where
  abbrev Rerouted : Place → Place → Type 0
  Rerouted = Turns w u x (Unit {0}) Never

  rerouted : (c d : Place) → Reroutes w u c d → Rerouted c d
  rerouted c d stays_so = self w u x Never c
  rerouted c d said_now = from_free
  rerouted c d (ends_now h) = to_doom h
  rerouted c d (renamed_so e i) = renamed e i
  rerouted c d (behind_all {l = l} {b = b} {n = n} i h) = held_back (λ m j. inl (tt, i (record { mail = x; aim = m }) j)) (comes u (Mid l b n) d h)
  rerouted c d (gone_on {l = l} {n = n} h) = passed_mid (λ m j. j) (rerouted (w.onward l n) d h)

  turned_lane : (l : Lane) (n : Name) → Rerouted (w.onward l n) (u.onward l n)
  turned_lane (Way a b) n = equal w u x Never (w.onward (Way a b) n) (u.onward (Way a b) n) (g.links a b n)
  turned_lane other n = rerouted (w.onward other n) (u.onward other n) (g.lanes other n tt)

  turned_change : Change w u x (Unit {0}) Never (λ c. c)
  turned_change = record {
    standing = λ l m i. inl (tt, g.stands l (record { mail = x; aim = m }) i);
    lanes = λ l n. turned_lane l n;
    links = λ a b. inl (λ n. g.links a b n);
    places = λ c. turning (self w u x Never c);
    ends = λ l. inl (λ n. refl);
  }

  turned_doom : (c d : Place) → Reroutes w u c d → Doom w c → Doom u d
  turned_doom c d r h = doom_kept w u x (Unit {0}) Never (λ q. q) turned_change c h d (rerouted c d r)

  turned_ahead : (c d : Place) → Reroutes w u c d → Ahead w x c → Ahead u x d
  turned_ahead c d r h = kept w u x (Unit {0}) Never (λ q. q) turned_change (Ahead u x) (never w u x) c h d (rerouted c d r)

pub turning_keeps : TurningKeeps
turning_keeps = λ w u g c d r. (λ h. turned_doom w u g some_name c d r h, λ x h. turned_ahead w u g x c d r h)

-- ---- a name that is passed by

module _ (w u : Ways) (v : ℕ) (p : Name) (e : Place) (f : Place → Place) (g : IsPassed w u v p e f) (x : Name) where
  abbrev Passed : Place → Place → Type 0
  Passed = Turns w u x (Unit {0}) Never

  passed_there : (n : Name) → Passed (End (Held v p) n) (f (End (Held v p) n))
  passed_there n = rw (g.there n) (passed_end {n = n} {d = e} (λ m i. g.none (record { mail = x; aim = m }) i) (rw (g.leads n) (self w u x Never e)))

  passed_at : (l : Lane) (n : Name) → ((m : Name) → f (End l m) ≡ End l m) ⊎ (l ≡ Held v p) → Passed (End l n) (f (End l n))
  passed_at l n (inl h) = rw (h n) same_end
  passed_at l n (inr h) = subst (λ q. Passed (End q n) (f (End q n))) (sym h) (passed_there n)

  passed : (c : Place) → Passed c (f c)
  passed Nowhere = rw g.nowhere_stays (self w u x Never Nowhere)
  passed Free = from_free
  passed (End l n) = passed_at l n (g.ends l)
  passed (Mid l b n) = rw (g.mids l b n) (self w u x Never (Mid l b n))

  passed_shift : (l : Lane) → ((m : Name) → f (End l m) ≡ End l m) ⊎ (l ≡ Held v p) → Shifts w u x (Unit {0}) Never f l
  passed_shift l (inl h) = inl h
  passed_shift l (inr h) = inr (inl (e, subst IsOneWay (sym h) tt, g.definite, λ n. subst (λ q. f (End q n) ≡ e) (sym h) (g.there n)))

  passed_change : Change w u x (Unit {0}) Never f
  passed_change = record {
    standing = λ l m i. inl (tt, g.stands l (record { mail = x; aim = m }) i);
    lanes = λ l n. rw (g.lanes l n) (passed (w.onward l n));
    links = λ a b. inl (λ n. g.lanes (Way a b) n);
    places = λ c. turning (passed c);
    ends = λ l. passed_shift l (g.ends l);
  }

  passed_doom : (c : Place) → Doom w c → Doom u (f c)
  passed_doom c h = doom_kept w u x (Unit {0}) Never f passed_change c h (f c) (passed c)

  passed_ahead : (c : Place) → Ahead w x c → Ahead u x (f c)
  passed_ahead c h = kept w u x (Unit {0}) Never f passed_change (Ahead u x) (never w u x) c h (f c) (passed c)

pub passing_by_keeps : PassingByKeeps
passing_by_keeps = λ w u v p e f g c. (λ h. passed_doom w u v p e f g some_name c h, λ x h. passed_ahead w u v p e f g x c h)

-- ---- what leads over a link that is cut

module _ (w u : Ways) (a b : ℕ) (f : Place → Place) (g : IsNoticed w u a b f) (x : Name) where
  abbrev Noticed : Place → Place → Type 0
  Noticed = Turns w u x (Unit {0}) Never

  noticed_there : (n : Name) → (f (End (Way a b) n) ≡ End (Way a b) n) ⊎ (f (End (Way a b) n) ≡ Nowhere) → Noticed (End (Way a b) n) (f (End (Way a b) n))
  noticed_there n (inl e) = rw e same_end
  noticed_there n (inr e) = rw e (to_doom nowhere)

  noticed_at : (l : Lane) (n : Name) → ((m : Name) → f (End l m) ≡ End l m) ⊎ (l ≡ Way a b) → Noticed (End l n) (f (End l n))
  noticed_at l n (inl h) = rw (h n) same_end
  noticed_at l n (inr h) = subst (λ q. Noticed (End q n) (f (End q n))) (sym h) (noticed_there n (g.there n))

  noticed : (c : Place) → Noticed c (f c)
  noticed Nowhere = rw g.nowhere_stays (self w u x Never Nowhere)
  noticed Free = from_free
  noticed (End l n) = noticed_at l n (g.ends l)
  noticed (Mid l js n) = rw (g.mids l js n) (self w u x Never (Mid l js n))

  shut_there : (n : Name) → Doom u (End (Way a b) n)
  shut_there n = by_end (subst (Doom u) (sym (g.shut n)) nowhere)

  shut_then : (n : Name) → (f (End (Way a b) n) ≡ End (Way a b) n) ⊎ (f (End (Way a b) n) ≡ Nowhere) → Doom u (f (End (Way a b) n))
  shut_then n (inl e) = subst (Doom u) (sym e) (shut_there n)
  shut_then n (inr e) = subst (Doom u) (sym e) nowhere

  noticed_shift : (l : Lane) → ((m : Name) → f (End l m) ≡ End l m) ⊎ (l ≡ Way a b) → Shifts w u x (Unit {0}) Never f l
  noticed_shift l (inl h) = inl h
  noticed_shift l (inr h) = inr (inr (λ n. subst (λ q. Doom u (End q n) × Doom u (f (End q n))) (sym h) (shut_there n, shut_then n (g.there n))))

  noticed_change : Change w u x (Unit {0}) Never f
  noticed_change = record {
    standing = λ l m i. inl (tt, g.stands l (record { mail = x; aim = m }) i);
    lanes = λ l n. rw (g.lanes l n) (noticed (w.onward l n));
    links = λ c d. inl (λ n. g.lanes (Way c d) n);
    places = λ c. turning (noticed c);
    ends = λ l. noticed_shift l (g.ends l);
  }

  noticed_doom : (c : Place) → Doom w c → Doom u (f c)
  noticed_doom c h = doom_kept w u x (Unit {0}) Never f noticed_change c h (f c) (noticed c)

  noticed_ahead : (c : Place) → Ahead w x c → Ahead u x (f c)
  noticed_ahead c h = kept w u x (Unit {0}) Never f noticed_change (Ahead u x) (never w u x) c h (f c) (noticed c)

pub noticing_keeps : NoticingKeeps
noticing_keeps = λ w u a b f g c. (λ h. noticed_doom w u a b f g some_name c h, λ x h. noticed_ahead w u a b f g x c h)

-- ---- a link that is cut

module _ (w u : Ways) (a b : ℕ) (g : IsCut w u a b) (x : Name) where
  -- a message that did not stand there
  module _ (none : Lacks x (w.stands (Way a b))) where
    spared_left : (l : Lane) (m : Name) → IsIn (record { mail = x; aim = m }) (w.stands l) → IsIn (record { mail = x; aim = m }) (u.stands l) ⊎ (l ≡ Way a b) → (Unit {0} × IsIn (record { mail = x; aim = m }) (u.stands l)) ⊎ Never l m
    spared_left l m i (inl j) = inl (tt, j)
    spared_left l m i (inr e) = absurd (none m (subst (λ q. IsIn (record { mail = x; aim = m }) (w.stands q)) e i))

    spared_lane : (l : Lane) (n : Name) → (u.onward l n ≡ w.onward l n) ⊎ Doom u (u.onward l n) → Turns w u x (Unit {0}) Never (w.onward l n) (u.onward l n)
    spared_lane l n (inl e) = equal w u x Never (w.onward l n) (u.onward l n) e
    spared_lane l n (inr h) = to_doom h

    spared_change : Change w u x (Unit {0}) Never (λ c. c)
    spared_change = record {
      standing = λ l m i. spared_left l m i (g.stands l (record { mail = x; aim = m }) i);
      lanes = λ l n. spared_lane l n (g.lanes l n);
      links = λ c d. g.links c d;
      places = λ c. turning (self w u x Never c);
      ends = λ l. inl (λ n. refl);
    }

    spared_ahead : (c : Place) → Ahead w x c → Ahead u x c
    spared_ahead c h = kept w u x (Unit {0}) Never (λ q. q) spared_change (Ahead u x) (never w u x) c h c (self w u x Never c)

  -- a message that stood there
  abbrev Drowned : Lane → Name → Type 0
  Drowned l m = l ≡ Way a b

  drowned_place : (c : Place) → OnlyOn a b x c → Turns w u x ⊥ Drowned c c
  drowned_place Nowhere o = to_doom nowhere
  drowned_place Free o = from_free
  drowned_place (End l n) o = same_end
  drowned_place (Mid l js n) (inl h) = same_mid (λ m i. absurd (h m i))
  drowned_place (Mid l js n) (inr h) = same_mid (λ m i. inr h)

  drowned_lane : (l : Lane) (n : Name) → OnlyOn a b x (w.onward l n) → (u.onward l n ≡ w.onward l n) ⊎ Doom u (u.onward l n) → Turns w u x ⊥ Drowned (w.onward l n) (u.onward l n)
  drowned_lane l n o (inl e) = rw e (drowned_place (w.onward l n) o)
  drowned_lane l n o (inr h) = to_doom h

  drowned_goes : (c : Place) → Goes w u x ⊥ Drowned c c
  drowned_goes Nowhere = turning (to_doom nowhere)
  drowned_goes Free = turning from_free
  drowned_goes (End l n) = turning same_end
  drowned_goes (Mid l js n) = between

  module _ (gone : (l : Lane) → Lacks x (u.stands l)) (only : (l : Lane) (n : Name) → OnlyOn a b x (w.onward l n)) where
    drowned_left : (l : Lane) (m : Name) → IsIn (record { mail = x; aim = m }) (u.stands l) ⊎ (l ≡ Way a b) → (⊥ × IsIn (record { mail = x; aim = m }) (u.stands l)) ⊎ Drowned l m
    drowned_left l m (inl j) = absurd (gone l m j)
    drowned_left l m (inr e) = inr e

    drowned_change : Change w u x ⊥ Drowned (λ c. c)
    drowned_change = record {
      standing = λ l m i. drowned_left l m (g.stands l (record { mail = x; aim = m }) i);
      lanes = λ l n. drowned_lane l n (only l n) (g.lanes l n);
      links = λ c d. g.links c d;
      places = λ c. drowned_goes c;
      ends = λ l. inl (λ n. refl);
    }

    drowned_holds : Holds w u x ⊥ Drowned (Doom u)
    drowned_holds = record { closed = doom_closed u; in_place = λ s l m n i h. absurd s; in_front = λ s l js m n i h. absurd s; went = λ l m n t h. subst (λ q. Doom u (u.onward q n)) (sym t) (rw (g.shut n) nowhere) }

    drowned : (c : Place) → OnlyOn a b x c → Ahead w x c → Doom u c
    drowned c o h = kept w u x ⊥ Drowned (λ q. q) drowned_change (Doom u) drowned_holds c h c (drowned_place c o)

module _ (w u : Ways) (a b : ℕ) (g : IsCut w u a b) where
  severed_lane : (l : Lane) (n : Name) → (u.onward l n ≡ w.onward l n) ⊎ Doom u (u.onward l n) → Turns w u some_name ⊥ Any (w.onward l n) (u.onward l n)
  severed_lane l n (inl e) = slide_equal w u (w.onward l n) (u.onward l n) e
  severed_lane l n (inr h) = to_doom h

  severed_change : Change w u some_name ⊥ Any (λ c. c)
  severed_change = record {
    standing = λ l m i. inr tt;
    lanes = λ l n. severed_lane l n (g.lanes l n);
    links = λ c d. g.links c d;
    places = λ c. turning (slide_self w u c);
    ends = λ l. inl (λ n. refl);
  }

  severed_doom : (c : Place) → Doom w c → Doom u c
  severed_doom c h = doom_kept w u some_name ⊥ Any (λ q. q) severed_change c h c (slide_self w u c)

pub cutting_keeps : CuttingKeeps
cutting_keeps = λ w u a b g c. (
  λ h. severed_doom w u a b g c h,
  λ x none h. spared_ahead w u a b g x none c h,
  λ x gone only o h. drowned w u a b g x gone only c o h,
)
