-- A vat is told where a name settled that is settled here: it asks for a gift, and nothing else changes.
use Rattle.std.proofs.Common.{◌≡◌, ℕ, zero, Bool, true, false, List, [], ◌∷◌, ◌++◌, Some, None, refl, sym, ap, subst, ◌∙◌}
use Rattle.def_machine.specs.Values.{Value, Name, Answer, Naming, host_of}
use Rattle.def_machine.specs.State.{Known, Standing, Settled, Change, Wait, See, Ask, Shorten, Views, Vat, begun, changed, changed_to, unless_settled, drawn_at, with_change}
use Rattle.def_machine.specs.Refs.{entry_of}
use Rattle.def_run.specs.World.{Script, World, names}
use Rattle.law_order.specs.Ordering.Steps.{Ready, Grown, StaysReady}
use Rattle.law_order.proofs.Ordering.Adds.{adds_nothing, adds_note, change_adds, stays_quiet}
use Rattle.law_order.proofs.Ordering.Coming.{old_entry}
use Rattle.law_order.proofs.Ordering.News.{asked, stays_then}
use Rattle.law_order.proofs.Ordering.Sends.{some_same}
use Rattle.law_order.specs.Arrivals.Views.{view_word, view_key, view_name, asked_vat, seen_vat}
use Rattle.law_order.proofs.Carries.Learning.{come_stays, gift_is_new}

-- nothing changes what is known of a settled name
module _ (K : Naming Name Name) (x : Change Name) (n : Name) (k : Known Name) (y : Value Name) (settled : k.standing ≡ Settled y) where
  still_by : (q : Standing Name) (j new : Known Name) → q ≡ Settled y → unless_settled q j new ≡ j
  unfolding unless_settled
  still_by q j new e = ap (λ z. unless_settled z j new) e

  still : (j : Known Name) → j ≡ k → changed x j ≡ j
  unfolding changed
  still j e = still_by j.standing j (changed_to x j) (ap (λ (z : Known Name). z.standing) e ∙ settled)

  pub settled_change : (ks : List (Known Name)) → entry_of K ks n ≡ Some k → with_change K x n ks ≡ ks
  unfolding entry_of with_change
  settled_change [] e = refl
  settled_change (j ∷ ks) e = go (K.same j.name n) e (λ f. settled_change ks f)
    where
      go : (b : Bool) → elim b [ true ↦ Some j | false ↦ entry_of K ks n ] ≡ Some k → (entry_of K ks n ≡ Some k → with_change K x n ks ≡ ks) → ◌≡◌ {A = List (Known Name)} (elim b [ true ↦ changed x j ∷ ks | false ↦ j ∷ with_change K x n ks ]) (j ∷ ks)
      go true f g = ap (λ z. z ∷ ks) (still j (some_same j k f))
      go false f g = ap (λ zs. j ∷ zs) (g f)

-- what waits on a gift changes nothing, where the name that is to have it as its view is settled
module _ (script : Script) (honest : ℕ → Bool) (w : World) (v : ℕ) (s : Vat Name) (n g : Name) (k : Known Name) (known : entry_of (names script v) s.known n ≡ Some k) (y : Value Name) (settled : k.standing ≡ Settled y) where
  abbrev J : Naming Name Name
  J = names script v

  abbrev pub Told : List (Known Name) → Vat Name
  Told ks = record s { known = with_change J (Wait n) g ks; happened = s.happened ++ Views n g ∷ [] }

  told_same : Told (with_change J (See g) n s.known) ≡ Told s.known
  told_same = ap (λ ks. Told ks) (settled_change J (See g) n k y settled s.known known)

  abbrev Between : Vat Name
  Between = record s { known = with_change J (Wait n) g s.known }

  waits : StaysReady script honest w v s (Told s.known)
  waits = stays_then script honest w v {s = s} {t = Between} {u = Told s.known} (stays_quiet script honest w v s Between (change_adds J (Wait n) g tt s, refl, refl, refl)) (stays_quiet script honest w v Between (Told s.known) (adds_nothing J Between (Told s.known) refl refl refl refl refl refl, refl, refl, refl))

  pub stale : StaysReady script honest w v s (Told (with_change J (See g) n s.known))
  stale = subst (λ t. StaysReady script honest w v s t) (sym told_same) waits

-- ---- a gift is asked for

module _ (script : Script) (honest : ℕ → Bool) (w : World) (v h c : ℕ) (s : Vat Name) (n : Name) (fresh : drawn_at zero (view_word script v h c n s) s.drawn ≡ None) where
  abbrev Word : ℕ
  Word = view_word script v h c n s

  abbrev Key : ℕ
  Key = view_key script v h c n s

  abbrev Q : Name
  Q = view_name script v h c n s

  abbrev A : Vat Name
  A = asked_vat script v h c n s

  abbrev First : Vat Name
  First = record s { drawn = s.drawn ++ Word ∷ []; outbox = s.outbox ++ record { to = h; note = Shorten n c Key } ∷ [] }

  abbrev Second : Vat Name
  Second = record First { known = s.known ++ begun Q c ∷ [] }

  comes : StaysReady script honest w v First Second
  unfolding host_of
  comes = come_stays script honest w v First Q (λ i. i) (Answer 0 (record { sender = 0; number = 0 })) (gift_is_new v First 0 (record { sender = 0; number = 0 }) c Key)

  pub asks : StaysReady script honest w v s A
  asks = stays_then script honest w v {s = s} {t = First} {u = A} (asked script honest w v h Word h c n s fresh)
      (stays_then script honest w v {s = First} {t = Second} {u = A} comes (stays_quiet script honest w v Second A (adds_note (names script v) Second (record { to = c; note = Ask h Key Q }) tt, refl, refl, refl)))

  -- a name that settled stays as it is
  module _ (k : Known Name) (known : entry_of (names script v) s.known n ≡ Some k) (y : Value Name) (settled : k.standing ≡ Settled y) (ready : Ready script honest w v s) where
    seen : StaysReady script honest w v s (seen_vat script v h c n s)
    seen = stays_then script honest w v {s = s} {t = A} {u = seen_vat script v h c n s} asks (stale script honest w v A n Q k (old_entry (names script v) s.known (begun Q c) k n known) y settled)

    pub stale_grown : Grown script honest w v s (seen_vat script v h c n s)
    stale_grown = (seen ready).1
