-- In a state in which each name is known, so is what waits there.
use Rattle.std.proofs.Common.{◌≡◌, ℕ, Bool, true, false, List, [], ◌∷◌, Option, Some, None, refl, sym, ap, ◌∙◌, ◌⊎◌, inl, inr}
use Rattle.std.specs.Prelude.{slice_get}
use Rattle.def_machine.specs.Values.{Name, Root, Object, Promise, Answer, Gift, Sent, same_name, same_reference, naming, name_of, answer_of}
use Rattle.def_machine.specs.State.{Message, Known, Vat, WhereSome}
use Rattle.def_machine.specs.Refs.{entry_of}
use Rattle.law_fate.specs.Name.Names.{Bit, Named, Mail, At, Entered, AllOf, IsAmong, names_in, IsKnownIn, IsHad, IsEventual, IsMessageName, EntryOk, MessageOk, NameOk, KnownOk}
use Rattle.law_fate.proofs.Name.Facts.{all_map}
use Rattle.law_fate.proofs.Name.Among.{all_among}
use Rattle.law_fate.proofs.Name.SameNames.{reference_self, false_true}
use Rattle.law_fate.proofs.Name.Care.{Sound}
use Rattle.law_fate.proofs.Name.Tracked.{Marked, Ok, tracked}
use Rattle.law_never_astray.specs.Settlings.{IsNone, IsAwaited, IsAsked, EntryWaits, AllAwaited}

-- the names of messages
unfoldable pub is_mail : Name → Bool
is_mail (Sent m) = true
is_mail other = false

mail_name : (n : Name) → IsMessageName n → is_mail n ≡ true
unfolding is_mail
mail_name (Sent m) h = refl
mail_name other h = absurd h

some_map : {A : Type 0} (P Q : A → Type 0) → ((a : A) → P a → Q a) → (o : Option A) → WhereSome P o → WhereSome Q o
some_map P Q f (Some a) h = f a h
some_map P Q f None h = tt

not_object : (n : Name) (w i : ℕ) → IsEventual n → same_reference n (Object w i) ≡ false
unfolding same_reference same_name
not_object (Object v j) w i h = absurd h
not_object other w i h = refl

answer_object : (h : ℕ) (m : Name) (w i : ℕ) → is_mail m ≡ true → same_reference (answer_of h m) (Object w i) ≡ false
unfolding same_reference same_name answer_of is_mail
answer_object h (Sent m) w i e = refl
answer_object h other w i e = absurd (false_true e)

module _ (word : ℕ → ℕ) (v : ℕ) where
  among_entry : (ks : List (Known Name)) (n : Name) → IsEventual n → IsAmong n (names_in ks) → (k : Known Name) × (entry_of (naming word v) ks n ≡ Some k)
  unfolding entry_of naming
  among_entry [] n o h = absurd h
  among_entry (j ∷ ks) n o h = go (same_reference j.name n) refl h (among_entry ks n o)
    where
      go : (x : Bool) → same_reference j.name n ≡ x → (n ≡ j.name) ⊎ IsAmong n (names_in ks) → (IsAmong n (names_in ks) → (k : Known Name) × (entry_of (naming word v) ks n ≡ Some k)) → (k : Known Name) × ◌≡◌ {A = Option (Known Name)} (elim x [ true ↦ Some j | false ↦ entry_of (naming word v) ks n ]) (Some k)
      go true e i r = (j, refl)
      go false e (inl i) r = absurd (false_true (sym e ∙ (ap (λ x. same_reference x n) (sym i) ∙ reference_self n o)))
      go false e (inr i) r = r i

  no_object : (ks : List (Known Name)) (w i : ℕ) → AllOf IsEventual (names_in ks) → entry_of (naming word v) ks (Object w i) ≡ None
  unfolding entry_of naming
  no_object [] w i h = refl
  no_object (j ∷ ks) w i h = go (same_reference j.name (Object w i)) (not_object j.name w i h.0) (no_object ks w i h.1)
    where
      go : (x : Bool) → x ≡ false → entry_of (naming word v) ks (Object w i) ≡ None → ◌≡◌ {A = Option (Known Name)} (elim x [ true ↦ Some j | false ↦ entry_of (naming word v) ks (Object w i) ]) None
      go true e f = cc
      go false e f = f

  object_none : (ks : List (Known Name)) (w i : ℕ) → AllOf IsEventual (names_in ks) → IsNone (naming word v) is_mail ks (Object w i)
  unfolding naming name_of
  object_none ks w i h = (no_object ks w i h, λ a m k e. answer_object a m w i e)

  awaited : (ks : List (Known Name)) → AllOf IsEventual (names_in ks) → (n : Name) → IsKnownIn (names_in ks) n → IsAwaited (naming word v) is_mail ks n
  awaited ks h (Object w i) g = inr (object_none ks w i h)
  awaited ks h (Root w) g = inl (among_entry ks (Root w) tt g)
  awaited ks h (Promise w i) g = inl (among_entry ks (Promise w i) tt g)
  awaited ks h (Answer w m) g = inl (among_entry ks (Answer w m) tt g)
  awaited ks h (Gift w i) g = inl (among_entry ks (Gift w i) tt g)
  awaited ks h (Sent m) g = absurd (all_among IsEventual (names_in ks) (Sent m) h g)

  module _ (ns : List Name) (ms : List Name) (P : Bit Name → Type 0) (had : (b : Bit Name) → P b → IsHad ns ms b) (ks : List (Known Name)) (same : names_in ks ≡ ns) (apart : AllOf IsEventual (names_in ks)) (mails : AllOf IsMessageName ms) where
    entry_awaited : (n : Name) → EntryOk P n → IsAwaited (naming word v) is_mail ks n
    entry_awaited n h = awaited ks apart n (rw same (had (Entered n) h))

    name_awaited : (n : Name) → NameOk P n → IsAwaited (naming word v) is_mail ks n
    name_awaited n h = awaited ks apart n (rw same (had (Named n) h))

    message_asked : (m : Message Name) → MessageOk P m → IsAsked (naming word v) is_mail (IsAwaited (naming word v) is_mail ks) m
    message_asked m h = (mail_name m.id (all_among IsMessageName ms m.id mails (had (Mail m.id) h.0)), some_map (NameOk P) (IsAwaited (naming word v) is_mail ks) name_awaited m.answer h.3)

    entry_waits : (k : Known Name) → KnownOk P k → EntryWaits (naming word v) is_mail (IsAwaited (naming word v) is_mail ks) k
    entry_waits k h = (all_map entry_awaited k.waiting h.3, all_map message_asked k.held h.2)

    pub all_awaited : AllOf (KnownOk P) ks → AllAwaited (naming word v) is_mail ks
    all_awaited h = all_map entry_waits ks h

-- so it is in what is tracked
pub tracked_awaits : (news : Bool) (M : Marked) (vats : List (Vat Name)) (v : ℕ) (q : Vat Name) (there : slice_get vats v ≡ Some q) (here : M.mark (At v)) (word : ℕ → ℕ) (s : Vat Name) → Sound (tracked news M vats v q there here) s → AllAwaited (naming word v) is_mail s.known
tracked_awaits news M vats v q there here word s h = all_awaited word v (names_in s.known) s.mails (Ok news M vats v q there here s) (λ b i. i.1) s.known refl h.more.apart h.more.mails h.parts.known
