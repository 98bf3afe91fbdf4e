-- A note brings each name once at most that is neither an answer nor a gift, and none that is known.
use Rattle.std.proofs.Common.{◌≡◌, ℕ, zero, suc, ◌+◌, ◌≤◌, ◌<◌, Bool, true, false, List, [], ◌∷◌, Some, refl, sym, ◌∙◌, ◌⊎◌, inl, inr, arith, leb-true, subst, ◌==◌}
use Rattle.std.specs.Prelude.{slice_get, nat_le}
use Rattle.std.proofs.lemmas.Bool.{eqb-true, le-leb}
use Rattle.def_machine.specs.Values.{Name, Root, Object, Promise, Answer, Gift, Sent, Msg, same_name, answer_of, host_of}
use Rattle.def_machine.specs.State.{Message, Known, Note, Deliver, Vat}
use Rattle.def_machine.specs.Arrive.{Old, New}
use Rattle.def_run.specs.World as world
use Rattle.def_run.specs.World.{Script, Link, World, link_at, read_note, read_name, is_old}
use Rattle.law_fate.specs.Name.Names.{Bit, Named, Mail, Drew, At, Off, Entered, Owns, Gave, AllOf, IsAmong, IsMessageName, IsEventual, IsPlain, PlainOnce, WasMade, KnownOk, MessageOk, NoteOk, promises_of, names_in}
use Rattle.law_fate.proofs.Name.Facts.{MayBe, note_up}
use Rattle.law_fate.proofs.Name.Among.{promises_at}
use Rattle.law_fate.proofs.Name.SameNames.{has_among}
use Rattle.law_fate.proofs.Name.Run.{Had, Told, Stands}
use Rattle.law_reference.proofs.Reference.RunLift.{link_ok}
use Rattle.law_reference.specs.Reference.Knowing.{once, one, onward, onward_all, claims, numbered, new_name, new_answer}
use Rattle.law_reference.specs.Reference.NameTableRuns.{allowed, other, brings_here}
use Rattle.law_reference.specs.Reference.Bring.{IsNoGift}
use Rattle.law_reference.proofs.Reference.CareBeside.{made_message}
use Rattle.law_reference.proofs.Reference.Telling.{has, NeverNew, avoids_never, tells, mails, note_tells, note_not, brings_parts, here_most, one_or, has_true, has_grows}

true_false : true ≡ false → ⊥
true_false e = cc

-- it is neither an answer nor a gift
abbrev pub IsNeither : Name → Type 0
IsNeither (Answer h m) = ⊥
IsNeither (Gift h i) = ⊥
IsNeither other = Unit {0}

no_gift : (x : Name) → IsNeither x → IsNoGift x
no_gift (Gift g i) h = h
no_gift other h = tt

-- ---- a message has no such name for an answer

no_answer : (x : Name) (h : ℕ) (m : Msg) → IsNeither x → one (Answer h m) x ≡ 0
unfolding one same_name once
no_answer (Answer g k) h m n = absurd n
no_answer (Gift g i) h m n = absurd n
no_answer other h m n = refl

zero_either : (b : Bool) (c : ℕ) → c ≡ 0 → ◌≡◌ {A = ℕ} (elim b [ true ↦ 0 | false ↦ c ]) 0
zero_either true c e = refl
zero_either false c e = e

no_onward : (v : ℕ) (x id : Name) → IsNeither x → IsMessageName id → onward v x id ≡ 0
unfolding onward
no_onward v x (Sent m) n i = zero_either (host_of x == v) (one (Answer (host_of x) m) x) (no_answer x (host_of x) m n)
no_onward v x other n i = absurd i

no_answer_of : (v : ℕ) (x id : Name) → IsNeither x → IsMessageName id → one (answer_of v id) x ≡ 0
unfolding answer_of
no_answer_of v x (Sent m) n i = no_answer x v m n
no_answer_of v x other n i = absurd i

-- names that messages are named by
abbrev Mails : Bit Name → Type 0
Mails (Mail n) = IsMessageName n
Mails other = Unit {0}

no_mails : (v : ℕ) (x : Name) (ks : List Name) (n : Note Name) → IsNeither x → NoteOk Mails n → mails v x (read_note ks n) ≡ 0
unfolding mails read_note new_answer
no_mails v x ks (Deliver d n verb ys) k h = let a = no_answer_of v x d.message k h.0 in let b = no_onward v x d.message k h.0 in omega arith
no_mails v x ks other k h = refl

-- ---- claims

onward_none : (v : ℕ) (x : Name) (ms : List (Message Name)) → IsNeither x → AllOf (λ (m : Message Name). IsMessageName m.id) ms → onward_all v x ms ≡ 0
unfolding onward_all
onward_none v x [] n h = refl
onward_none v x (m ∷ ms) n h = let a = no_onward v x m.id n h.0 in let b = onward_none v x ms n h.1 in omega arith

abbrev HoldsMails : Known Name → Type 0
HoldsMails k = AllOf (λ (m : Message Name). IsMessageName m.id) k.held

claims_plain : (v : ℕ) (x : Name) (ks : List (Known Name)) → IsNeither x → IsPlain x → PlainOnce (names_in ks) → AllOf HoldsMails ks → claims v x ks ≤ has x (names_in ks)
unfolding claims once
claims_plain v x [] n p o h = omega arith
claims_plain v x (k ∷ ks) n p o h = either (claims_plain v x ks n p o.1 h.1) (one_or k.name x)
  where
    none_twice : k.name ≡ x → (b : Bool) → world.has_name (names_in ks) x ≡ b → once b ≡ 0
    none_twice e true f = absurd (o.0 (rw e p) (rw e (has_among (names_in ks) x f)))
    none_twice e false f = refl

    either : claims v x ks ≤ has x (names_in ks) → ((k.name ≡ x) × (one k.name x ≡ 1)) ⊎ (one k.name x ≡ 0) → one k.name x + onward_all v x k.held + claims v x ks ≤ has x (k.name ∷ names_in ks)
    either r (inl e) = let a = onward_none v x k.held n h.0 in let z : has x (names_in ks) ≡ 0 = none_twice e.0 (world.has_name (names_in ks) x) refl in let full : has x (k.name ∷ names_in ks) ≡ 1 = has_true x (k.name ∷ names_in ks) (inl (sym e.0)) in let u = e.1 in omega arith
    either r (inr e) = let a = onward_none v x k.held n h.0 in let grows = has_grows x (names_in ks) (k.name ∷ names_in ks) (λ i. inr i) in omega arith

-- what is not among the names known is not claimed
claims_none : (v : ℕ) (x : Name) (ks : List (Known Name)) → IsNeither x → (IsAmong x (names_in ks) → ⊥) → AllOf HoldsMails ks → claims v x ks ≡ 0
unfolding claims
claims_none v x [] n f h = refl
claims_none v x (k ∷ ks) n f h = either (claims_none v x ks n (λ i. f (inr i)) h.1) (one_or k.name x)
  where
    either : claims v x ks ≡ 0 → ((k.name ≡ x) × (one k.name x ≡ 1)) ⊎ (one k.name x ≡ 0) → one k.name x + onward_all v x k.held + claims v x ks ≡ 0
    either b (inl e) = absurd (f (inl (sym e.0)))
    either b (inr e) = let a = onward_none v x k.held n h.0 in omega arith

-- ---- a vat of a run, and a note that arrives there

module _ (script : Script) (w : World) (from to : ℕ) (l : Link) (n : Note Name) (ns : List (Note Name)) (s : Vat Name) (stands : Stands script w) (at : link_at from to w.links ≡ Some l) (notes : l.notes ≡ n ∷ ns) (there : slice_get w.vats to ≡ Some s) where
  told : NoteOk (Told script w) n
  told = found (link_at from to w.links) at (link_ok (λ (k : Link). AllOf (NoteOk (Told script w)) k.notes) from to w.links stands.links)
    where
      found : (o : _) → o ≡ Some l → MayBe (λ (k : Link). AllOf (NoteOk (Told script w)) k.notes) o → NoteOk (Told script w) n
      found o e h = let one : AllOf (NoteOk (Told script w)) l.notes = rw e at h in let two : AllOf (NoteOk (Told script w)) (n ∷ ns) = rw notes at one in two.0

  told_mails : (b : Bit Name) → Told script w b → Mails b
  told_mails (Named x) h = tt
  told_mails (Mail x) h = made_message w.vats x h.0
  told_mails (Drew i) h = tt
  told_mails other k = tt

  note_mails : NoteOk Mails n
  note_mails = note_up (Told script w) Mails told_mails n told

  all_held : (ms : List (Message Name)) → AllOf (MessageOk (Had script w to s)) ms → AllOf (λ (m : Message Name). IsMessageName m.id) ms
  all_held [] h = tt
  all_held (m ∷ ms) h = (made_message w.vats m.id h.0.0.0, all_held ms h.1)

  all_mails : (ks : List (Known Name)) → AllOf (KnownOk (Had script w to s)) ks → AllOf HoldsMails ks
  all_mails [] h = tt
  all_mails (k ∷ ks) h = (all_held k.held h.0.2, all_mails ks h.1)

  held_mails : AllOf HoldsMails s.known
  held_mails = let at_vat = stands.vats to s there in let parts = at_vat.parts in all_mails s.known parts.known

  abbrev Brings : Name → ℕ
  Brings x = brings_here to x from s.gifts (read_note (names_in s.known) n)

  brings_tells : (x : Name) → IsNeither x → Brings x ≤ tells x (read_note (names_in s.known) n)
  brings_tells x k = let a = here_most to x from s.gifts (read_note (names_in s.known) n) in let b = brings_parts to x from s.gifts (read_note (names_in s.known) n) (no_gift x k) in let c = no_mails to x (names_in s.known) n k note_mails in omega arith

  -- what is known once, and told where it is not known
  plain_once : (x : Name) → IsNeither x → IsPlain x → claims to x s.known + Brings x ≤ 1
  plain_once x k p = let at_vat = stands.vats to s there in let kept = at_vat.kept in let a = claims_plain to x s.known k p kept.once held_mails in let b = brings_tells x k in let c = note_tells x (names_in s.known) n (no_gift x k) in omega arith

  none_at : (x : Name) → IsNeither x → (IsAmong x (names_in s.known) → ⊥) → NoteOk (NeverNew x) n → claims to x s.known + Brings x ≡ 0
  none_at x k f g = let a = claims_none to x s.known k f held_mails in let b = brings_tells x k in let c = note_not x (names_in s.known) n (no_gift x k) g in omega arith

  eventual : (x : Name) → IsAmong x (names_in s.known) → IsEventual x
  eventual x a = let at_vat = stands.vats to s there in let kept = at_vat.kept in among_all (names_in s.known) kept.apart a
    where
      among_all : (xs : List Name) → AllOf IsEventual xs → IsAmong x xs → IsEventual x
      among_all [] h a = absurd a
      among_all (y ∷ ys) h (inl e) = rw e h.0
      among_all (y ∷ ys) h (inr a) = among_all ys h.1 a

  object_never : (v i : ℕ) (b : Bit Name) → Told script w b → NeverNew (Object v i) b
  unfolding new_name read_name is_old one same_name once
  object_never v i (Named (Object u j)) h = λ ks. refl
  object_never v i (Named (Root u)) h = λ ks. either (world.has_name ks (Root u))
    where
      either : (b : Bool) → new_name (Object v i) (elim b [ true ↦ Old (Root u) | false ↦ New (Root u) (host_of (Root u)) ]) ≡ 0
      either true = refl
      either false = refl
  object_never v i (Named (Promise u j)) h = λ ks. either (world.has_name ks (Promise u j))
    where
      either : (b : Bool) → new_name (Object v i) (elim b [ true ↦ Old (Promise u j) | false ↦ New (Promise u j) (host_of (Promise u j)) ]) ≡ 0
      either true = refl
      either false = refl
  object_never v i (Named (Answer u m)) h = λ ks. either (world.has_name ks (Answer u m))
    where
      either : (b : Bool) → new_name (Object v i) (elim b [ true ↦ Old (Answer u m) | false ↦ New (Answer u m) (host_of (Answer u m)) ]) ≡ 0
      either true = refl
      either false = refl
  object_never v i (Named (Gift u j)) h = λ ks. either (world.has_name ks (Gift u j))
    where
      either : (b : Bool) → new_name (Object v i) (elim b [ true ↦ Old (Gift u j) | false ↦ New (Gift u j) (host_of (Gift u j)) ]) ≡ 0
      either true = refl
      either false = refl
  object_never v i (Named (Sent m)) h = absurd h.0
  object_never v i other h = tt

  -- a promise that was not made is in no note
  unmade_never : (i : ℕ) → s.promises ≤ i → (b : Bit Name) → Told script w b → NeverNew (Promise to i) b
  unmade_never i l (Named x) h = avoids_never (Promise to i) (Named x) (λ e. let made : WasMade w.vats w.drawn (Promise to i) = rw e at h.0 in let p = promises_at w.vats to s there in let low : i < promises_of w.vats to = made in omega arith)
  unmade_never i l other h = tt

  own_promise : (i : ℕ) (b : Bool) → nat_le (suc i) s.promises ≡ b → claims to (Promise to i) s.known + Brings (Promise to i) ≤ once b
  unfolding once
  own_promise i true e = plain_once (Promise to i) tt tt
  own_promise i false e = let at_vat = stands.vats to s there in let kept = at_vat.kept in
      let few : s.promises ≤ i = at_most (nat_le s.promises i) refl in
      let none = none_at (Promise to i) tt (λ a. let low : i < s.promises = kept.below i a in absurd (omega arith)) (note_up (Told script w) (NeverNew (Promise to i)) (unmade_never i few) n told) in omega arith
    where
      total : (a b : ℕ) → (nat_le (suc a) b ≡ true) ⊎ (b ≤ a)
      total zero zero = inr (omega arith)
      total zero (suc b) = inl (le-leb 1 (suc b) (omega arith))
      total (suc a) zero = inr (omega arith)
      total (suc a) (suc b) = next (total a b)
        where
          next : (nat_le (suc a) b ≡ true) ⊎ (b ≤ a) → (nat_le (suc (suc a)) (suc b) ≡ true) ⊎ (suc b ≤ suc a)
          next (inl h) = let l = leb-true (suc a) b h in inl (le-leb (suc (suc a)) (suc b) (omega arith))
          next (inr h) = inr (omega arith)

      at_most : (c : Bool) → nat_le s.promises i ≡ c → s.promises ≤ i
      at_most c f = pick (total i s.promises)
        where
          pick : (nat_le (suc i) s.promises ≡ true) ⊎ (s.promises ≤ i) → s.promises ≤ i
          pick (inl h) = absurd (true_false (sym h ∙ e))
          pick (inr h) = h

  promise_either : (u i : ℕ) (b : Bool) → (to == u) ≡ b → claims to (Promise u i) s.known + Brings (Promise u i) ≤ elim b [ true ↦ 0 | false ↦ 1 ] + elim b [ true ↦ once (nat_le (suc i) s.promises) | false ↦ 0 ]
  promise_either u i true e = let same : to ≡ u = eqb-true to u e in let h = subst (λ z. claims to (Promise z i) s.known + Brings (Promise z i) ≤ once (nat_le (suc i) s.promises)) same (own_promise i (nat_le (suc i) s.promises) refl) in omega arith
  promise_either u i false e = let h = plain_once (Promise u i) tt tt in omega arith

  pub brings_neither : (x : Name) → IsNeither x → claims to x s.known + Brings x ≤ allowed to x s w.drawn
  unfolding allowed other numbered
  brings_neither (Root u) k = let h = plain_once (Root u) tt tt in omega arith
  brings_neither (Object u i) k = let none = none_at (Object u i) tt (λ a. eventual (Object u i) a) (note_up (Told script w) (NeverNew (Object u i)) (object_never u i) n told) in omega arith
  brings_neither (Promise u i) k = promise_either u i (to == u) refl
  brings_neither (Sent m) k = let none = none_at (Sent m) tt (λ a. eventual (Sent m) a) (note_up (Told script w) (NeverNew (Sent m)) sent_never n told) in omega arith
    where
      sent_never : (b : Bit Name) → Told script w b → NeverNew (Sent m) b
      sent_never (Named x) h = avoids_never (Sent m) (Named x) (λ e. let made : WasMade w.vats w.drawn (Sent m) = rw e at h.0 in made)
      sent_never (Mail x) h = tt
      sent_never (Drew j) h = tt
      sent_never (At u) h = tt
      sent_never (Off u) h = tt
      sent_never (Entered y) h = tt
      sent_never (Owns y j) h = tt
      sent_never (Gave j) h = tt
  brings_neither other k = absurd k
