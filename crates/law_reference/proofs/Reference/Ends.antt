-- Where each view is known later than what it views, following ends at what waits.
use Rattle.std.proofs.Common.{◌≡◌, ℕ, zero, suc, ◌+◌, ◌<◌, ◌≤◌, true, List, Some, None, refl, sym, ◌∙◌, length, arith}
use Rattle.def_machine.specs.Values.{Value, Ref, Naming}
use Rattle.def_machine.specs.State.{Standing, Unsettled, WaitsOn, Viewed, Settled, Known}
use Rattle.def_machine.specs.Refs.{entry_of, standing_of, standing_in, follow_at, led}
use Rattle.law_machine.specs.Machine.Breaks.{still_waits, IsPending}
use Rattle.law_reference.specs.Reference.Views.{IsOpen, index_at, Awaits, ViewsWait}
use Rattle.law_reference.proofs.Reference.Entries.{index_less}

module _ {N W : Type 0} (K : Naming N W) where
  -- data, or a name that is not known, such as that of an object
  abbrev pub Final : List (Known N) → Value N → Type 0
  Final ks y = (n : N) → y ≡ Ref n → entry_of K ks n ≡ None

  -- what settled, settled for good
  abbrev pub SettledFinal : List (Known N) → Type 0
  SettledFinal ks = (n : N) (y : Value N) → standing_of K ks n ≡ Settled y → Final ks y

  entry_open : (ks : List (Known N)) (g : N) (k : Known N) → entry_of K ks g ≡ Some k → IsOpen k.standing → IsOpen (standing_of K ks g)
  unfolding standing_of standing_in
  entry_open ks g k e o = rw e o

  pub pends : (ks : List (Known N)) (n g : N) → Awaits K ks n g → IsPending K ks g
  pends ks n g aw = ((aw.entry, aw.found), entry_open ks g aw.entry aw.found aw.pending)

  same_ref : (n m : N) → ◌≡◌ {A = Value N} (Ref n) (Ref m) → n ≡ m
  same_ref n m e = cc

  waits_at : (ks : List (Known N)) (n m : N) (t : Standing N) → standing_of K ks n ≡ t → still_waits t ≡ true → ◌≡◌ {A = Value N} (Ref n) (Ref m) → still_waits (standing_of K ks m) ≡ true
  waits_at ks n m t e w i = let same : n ≡ m = same_ref n m i in rw (sym same) (rw e w)

  led_ends : (f : Value N → Value N) (ks : List (Known N)) (n m : N) (t : Standing N) → standing_of K ks n ≡ t → ((y : Value N) → t ≡ Settled y → f y ≡ Ref m → still_waits (standing_of K ks m) ≡ true) → ((q : N) → t ≡ Viewed q → f (Ref q) ≡ Ref m → still_waits (standing_of K ks m) ≡ true)
      → led K f n t ≡ Ref m → still_waits (standing_of K ks m) ≡ true
  unfolding led still_waits
  led_ends f ks n m (Settled y) e settled viewed h = settled y refl h
  led_ends f ks n m (Viewed q) e settled viewed h = viewed q refl h
  led_ends f ks n m (WaitsOn q) e settled viewed h = waits_at ks n m (WaitsOn q) e refl h
  led_ends f ks n m Unsettled e settled viewed h = waits_at ks n m Unsettled e refl h

  module _ (ks : List (Known N)) (views : ViewsWait K ks) where
    place_of : (n q : N) → Awaits K ks n q → (index_at K ks n < index_at K ks q) × (index_at K ks q < length ks)
    place_of n q aw = (aw.later, index_less K ks q aw.entry aw.found)

    followed_end : (d : ℕ) (n m : N) → IsOpen (standing_of K ks n) → length ks ≤ d + index_at K ks n → follow_at K (suc d) ks (Ref n) ≡ Ref m → still_waits (standing_of K ks m) ≡ true
    unfolding follow_at
    followed_end zero n m pends most h = led_ends (λ y. follow_at K zero ks y) ks n m (standing_of K ks n) refl (λ y e i. absurd (pends y e)) (λ q e i. absurd (none q e)) h
      where
        none : (q : N) → standing_of K ks n ≡ Viewed q → ⊥
        none q e = let at = place_of n q (views n q e) in let a : index_at K ks n < index_at K ks q = at.0 in let b : index_at K ks q < length ks = at.1 in omega arith
    followed_end (suc d) n m pends most h = led_ends (λ y. follow_at K (suc d) ks y) ks n m (standing_of K ks n) refl (λ y e i. absurd (pends y e))
        (λ q e i. let aw = views n q e in followed_end d q m (entry_open ks q aw.entry aw.found aw.pending) (let a : index_at K ks n < index_at K ks q = aw.later in omega arith) i) h

    final_ends : (d : ℕ) (y : Value N) (m : N) → Final ks y → follow_at K d ks y ≡ Ref m → still_waits (standing_of K ks m) ≡ true
    unfolding follow_at standing_of standing_in still_waits led
    final_ends zero y m f h = rw (f m h) refl
    final_ends (suc d) (Ref n) m f h = unknown (f n refl) h
      where
        unknown : entry_of K ks n ≡ None → led K (λ z. follow_at K d ks z) n (standing_in (entry_of K ks n)) ≡ Ref m → still_waits (standing_in (entry_of K ks m)) ≡ true
        unknown e i = let j : ◌≡◌ {A = Value N} (Ref n) (Ref m) = rw e at i in let same : n ≡ m = same_ref n m j in rw (sym same, e) refl
    final_ends (suc d) other m f h = cc

    viewed_open : (n q : N) → standing_of K ks n ≡ Viewed q → IsOpen (standing_of K ks n)
    viewed_open n q i y j = let both : Viewed q ≡ Settled y = sym i ∙ j in cc

    viewed_on : (n m q : N) → standing_of K ks n ≡ Viewed q → follow_at K (length ks) ks (Ref q) ≡ Ref m → follow_at K (suc (length ks)) ks (Ref n) ≡ Ref m
    unfolding follow_at led
    viewed_on n m q e i = rw e i

    either_ends : SettledFinal ks → (n m : N) (t : Standing N) → standing_of K ks n ≡ t → led K (λ y. follow_at K (length ks) ks y) n t ≡ Ref m → still_waits (standing_of K ks m) ≡ true
    unfolding led still_waits
    either_ends final n m (Settled y) e h = final_ends (length ks) y m (final n y e) h
    either_ends final n m (WaitsOn q) e h = waits_at ks n m (WaitsOn q) e refl h
    either_ends final n m Unsettled e h = waits_at ks n m Unsettled e refl h
    either_ends final n m (Viewed q) e h = followed_end (length ks) n m (viewed_open n q e) (omega arith) (viewed_on n m q e h)

    pub following_ends : SettledFinal ks → (x : Value N) (m : N) → follow_at K (suc (length ks)) ks x ≡ Ref m → still_waits (standing_of K ks m) ≡ true
    unfolding follow_at
    following_ends final (Ref n) m h = either_ends final n m (standing_of K ks n) refl h
    following_ends final other m h = cc
