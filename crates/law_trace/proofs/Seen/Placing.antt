-- Which line of a history each line of the renamed history is.
use Rattle.std.proofs.Common.{◌≡◌, ◌<◌, ◌≤◌, ℕ, zero, suc, List, Option, Some, None, option_map, take, refl, sym, ap, ◌∙◌, subst, ◌⊎◌, inl, inr, arith}
use Rattle.std.specs.Prelude.{slice_get}
use Rattle.def_event.specs.declared.event.Event.{Event}
use Rattle.def_event.specs.declared.event.Event.TheVariants.{Open, Turn, Idle, Carry, Cut, Notice, Frame, Raw}
use Rattle.def_event.specs.declared.raw.RawLine.TheVariants.{Inject, InjectCut, Malformed, Bytes, LeftBytes}
use Rattle.def_event.specs.Order.{vat_behind, vat_after, vat_at}
use Rattle.law_trace.proofs.UsesSeen.Renaming.{Renaming, AreEvents, no_event, one_event, silent_event, event}

abbrev pub IsFrame : Event → Type 0
IsFrame (Frame bytes) = Unit {0}
IsFrame _ = ⊥

some_is : {A : Type 0} (x y : A) → Some x ≡ Some y → x ≡ y
some_is x y e = cc

no_order : (m n : ℕ) → (m < n) ⊎ (n ≤ m)
no_order m zero = inr (omega arith)
no_order zero (suc n) = inl (omega arith)
no_order (suc m) (suc n) = elim (no_order m n) [ inl h ↦ inl (omega arith) | inr h ↦ inr (omega arith) ]

module _ (r : Renaming) where
  -- ---- the line behind which a line stands

  -- line j of the renamed history is that line
  pub at : {es fs : List Event} → AreEvents r es fs → ℕ → ℕ
  at no_event j = j
  at (one_event es fs e a) zero = zero
  at (one_event es fs e a) (suc j) = suc (at a j)
  at (silent_event es fs bytes a) j = suc (at a j)

  -- lines keep their order
  pub further : {es fs : List Event} (a : AreEvents r es fs) (i j : ℕ) → i < j → at a i < at a j
  unfolding at
  further no_event i j l = l
  further (one_event es fs e a) i zero l = absurd (omega arith)
  further (one_event es fs e a) zero (suc j) l = omega arith
  further (one_event es fs e a) (suc i) (suc j) l = let less : i < j = omega arith in let h : at a i < at a j = further a i j less in omega arith
  further (silent_event es fs bytes a) i j l = let h : at a i < at a j = further a i j l in omega arith

  pub before : {es fs : List Event} (a : AreEvents r es fs) (i j : ℕ) → at a i < at a j → i < j
  before a i j l = elim (no_order i j) [
    | inl h ↦ h
    | inr h ↦ absurd (behind h)
  ]
    where
      same_or : (m n : ℕ) → m ≤ n → (m < n) ⊎ (n ≡ m)
      same_or m n h = elim (no_order m n) [ inl k ↦ inl k | inr k ↦ inr (omega arith) ]

      behind : j ≤ i → ⊥
      behind h = elim (same_or j i h) [
        | inl k ↦ let g : at a j < at a i = further a j i k in omega arith
        | inr k ↦ let g : at a i ≡ at a j = ap (at a) k in omega arith
      ]

  -- the event of which line j is the renamed one
  pub record Mirrors (es : List Event) (i : ℕ) (f : Event) : Type 0 where
    pub event_there : Event
    pub there : slice_get es i ≡ Some event_there
    pub is : f ≡ event r event_there

  pub mirrors : {es fs : List Event} (a : AreEvents r es fs) (j : ℕ) (f : Event) → slice_get fs j ≡ Some f → Mirrors es (at a j) f
  unfolding at
  mirrors no_event j f q = absurd (cc)
  mirrors (one_event es fs e a) zero f q = record { event_there = e; there = refl; is = sym (some_is (event r e) f q) }
  mirrors (one_event es fs e a) (suc j) f q = let m = mirrors a j f q in record { event_there = m.event_there; there = m.there; is = m.is }
  mirrors (silent_event es fs bytes a) j f q = let m = mirrors a j f q in record { event_there = m.event_there; there = m.there; is = m.is }

  -- and each line but frames is there
  pub mirrored : {es fs : List Event} (a : AreEvents r es fs) (i : ℕ) (e : Event) → slice_get es i ≡ Some e → (IsFrame e → ⊥) → (j : ℕ) × (at a j ≡ i) × (slice_get fs j ≡ Some (event r e))
  unfolding at
  mirrored no_event i e q plain = absurd (cc)
  mirrored (one_event es fs x a) zero e q plain = (zero, refl, ap (λ z. Some (event r z)) (some_is x e q))
  mirrored (one_event es fs x a) (suc i) e q plain = let m = mirrored a i e q plain in (suc m.0, ap suc m.1, m.2)
  mirrored (silent_event es fs bytes a) zero e q plain = absurd (plain (subst IsFrame (some_is (Frame bytes) e q) tt))
  mirrored (silent_event es fs bytes a) (suc i) e q plain = let m = mirrored a i e q plain in (m.0, ap suc m.1, m.2)

  -- ---- vats

  behind_same : (here : Option ℕ) (e : Event) → vat_behind (option_map r.vat here) (event r e) ≡ option_map r.vat (vat_behind here e)
  behind_same here (Open v) = refl
  behind_same here (Turn k v) = refl
  behind_same here (Carry k v w note) = refl
  behind_same here (Notice k v w) = refl
  behind_same here (Idle k) = refl
  behind_same here (Cut k v w) = refl
  behind_same here (Raw (Inject k v w bytes)) = refl
  behind_same here (Raw (InjectCut k v w)) = refl
  behind_same here (Raw (Malformed k v w place)) = refl
  behind_same here (Raw (Bytes k v w bytes)) = refl
  behind_same here (Raw (LeftBytes v w bytes)) = refl
  behind_same here other = refl

  after_same : {es fs : List Event} (a : AreEvents r es fs) (here : Option ℕ) (j : ℕ) → vat_after (option_map r.vat here) (take j fs) ≡ option_map r.vat (vat_after here (take (at a j) es))
  unfolding at
  after_same no_event here zero = refl
  after_same no_event here (suc j) = refl
  after_same (one_event es fs e a) here zero = refl
  after_same (one_event es fs e a) here (suc j) = ap (λ h. vat_after h (take j fs)) (behind_same here e) ∙ after_same a (vat_behind here e) j
  after_same (silent_event es fs bytes a) here j = after_same a here j

  pub vat_same : {es fs : List Event} (a : AreEvents r es fs) (j : ℕ) → vat_at fs j ≡ option_map r.vat (vat_at es (at a j))
  vat_same a j = after_same a None j
