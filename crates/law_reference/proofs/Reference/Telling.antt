-- A note tells a name as new where it is not known, and once: how often a note brings a name that is no gift.
use Rattle.std.proofs.Common.{◌≡◌, ℕ, ◌+◌, ◌≤◌, Bool, true, false, List, [], ◌∷◌, ◌++◌, Option, Some, None, refl, ◌⊎◌, inl, inr, arith, subst}
use Rattle.def_machine.specs.Values.{Value, Ref, Name, Gift, same_name, host_of}
use Rattle.def_machine.specs.State.{Passed, Passeds, Plain, AGift, Many, NoMore, More, Note, Deliver, Open, Ask, SettledTo, Elsewhere, Shorten, GiftEntry, Delivery}
use Rattle.def_machine.specs.Arrive.{Incoming, Old, New, gift_at}
use Rattle.def_run.specs.World as world
use Rattle.def_run.specs.World.{has_name, is_old, read_name, known_after, read_value, read_passed, read_all, read_note}
use Rattle.law_fate.specs.Name.Names.{Bit, Named, IsAmong, ValueOk, PassedOk, PassedsOk, NoteOk}
use Rattle.law_fate.proofs.Name.SameNames.{same_is, has_among, among_has, new_unknown}
use Rattle.law_fate.proofs.Name.Among.{among_more, among_last}
use Rattle.law_reference.specs.Reference.Knowing.{once, one, new_name, new_in_value, new_in, new_in_all, new_answer, new_gift_here, brings}
use Rattle.law_reference.specs.Reference.NameTableRuns.{is_own, answer_here, brings_here}
use Rattle.law_reference.specs.Reference.Behind.{Avoids}
use Rattle.law_reference.specs.Reference.Bring.{IsNoGift}

true_false : (b : Bool) → b ≡ true → b ≡ false → ⊥
true_false b e f = cc

-- whether it is among these
abbrev pub has : Name → List Name → ℕ
has x ks = once (has_name ks x)

pub has_most : (x : Name) (ks : List Name) → has x ks ≤ 1
unfolding once
has_most x ks = either (has_name ks x)
  where
    either : (b : Bool) → once b ≤ 1
    either true = omega arith
    either false = omega arith

pub has_true : (x : Name) (ks : List Name) → IsAmong x ks → has x ks ≡ 1
unfolding once
has_true x ks h = rw (among_has ks x h) refl

-- what is among these is among more
pub has_grows : (x : Name) (ks js : List Name) → (IsAmong x ks → IsAmong x js) → has x ks ≤ has x js
unfolding once
has_grows x ks js f = either (has_name ks x) refl
  where
    either : (b : Bool) → has_name ks x ≡ b → once b ≤ has x js
    either true e = let h = has_true x js (f (has_among ks x e)) in omega arith
    either false e = omega arith

-- ---- names

pub one_or : (n x : Name) → ((n ≡ x) × (one n x ≡ 1)) ⊎ (one n x ≡ 0)
unfolding one once
one_or n x = either (same_name n x) refl
  where
    either : (b : Bool) → same_name n x ≡ b → ((n ≡ x) × (once b ≡ 1)) ⊎ (once b ≡ 0)
    either true e = inl (same_is n x e, refl)
    either false e = inr refl

new_one : (x n : Name) (ks : List Name) → is_old ks n ≡ false → one n x + has x ks ≤ has x (ks ++ n ∷ [])
unfolding once
new_one x n ks e = either (one_or n x)
  where
    none : IsAmong x ks → (n ≡ x) → ⊥
    none a i = new_unknown ks n e (rw i a)

    zero_or : (b : Bool) → has_name ks x ≡ b → n ≡ x → once b ≡ 0
    zero_or true f i = absurd (none (has_among ks x f) i)
    zero_or false f i = refl

    either : ((n ≡ x) × (one n x ≡ 1)) ⊎ (one n x ≡ 0) → one n x + has x ks ≤ has x (ks ++ n ∷ [])
    either (inl h) = let f : has x ks ≡ 0 = zero_or (has_name ks x) refl h.0 in let last : has x (ks ++ n ∷ []) ≡ 1 = has_true x (ks ++ n ∷ []) (subst (λ z. IsAmong z (ks ++ n ∷ [])) h.0 (among_last ks n)) in let g = h.1 in omega arith
    either (inr h) = let grows = has_grows x ks (ks ++ n ∷ []) (λ a. among_more x ks n a) in omega arith

name_either : (x n : Name) (ks : List Name) (b : Bool) → is_old ks n ≡ b → new_name x (elim b [ true ↦ Old n | false ↦ New n (host_of n) ]) + has x ks ≤ has x (elim b [ true ↦ ks | false ↦ ks ++ n ∷ [] ])
unfolding new_name
name_either x n ks true e = omega arith
name_either x n ks false e = new_one x n ks e

pub name_tells : (x n : Name) (ks : List Name) → new_name x (read_name ks n) + has x ks ≤ has x (known_after ks n)
unfolding read_name known_after
name_tells x n ks = name_either x n ks (is_old ks n) refl

value_tells : (x : Name) (y : Value Name) (ks : List Name) → new_in_value x (read_value ks y).read + has x ks ≤ has x (read_value ks y).known
unfolding new_in_value read_value
value_tells x (Ref n) ks = name_tells x n ks
value_tells x other ks = omega arith

no_gift_one : (x : Name) (h i : ℕ) → IsNoGift x → one (Gift h i) x ≡ 0
unfolding one same_name once
no_gift_one (Gift w j) h i g = absurd g
no_gift_one other h i g = refl

mutual
  unfolding new_in new_in_all read_passed read_all world.plain_read world.many_read world.more_read

  passed_tells : (x : Name) (y : Passed Name) (ks : List Name) → IsNoGift x → new_in x (read_passed y ks).read + has x ks ≤ has x (read_passed y ks).known
  passed_tells x (Plain y) ks g = value_tells x y ks
  passed_tells x (AGift h i) ks g = let none = no_gift_one x h i g in let grows = has_grows x ks (ks ++ Gift h i ∷ []) (λ a. among_more x ks (Gift h i) a) in omega arith
  passed_tells x (Many ys) ks g = passeds_tell x ys ks g

  passeds_tell : (x : Name) (ys : Passeds Name) (ks : List Name) → IsNoGift x → new_in_all x (read_all ys ks).read + has x ks ≤ has x (read_all ys ks).known
  passeds_tell x NoMore ks g = omega arith
  passeds_tell x (More y ys) ks g = let a = passed_tells x y ks g in let b = passeds_tell x ys (read_passed y ks).known g in omega arith

-- ---- notes

-- how often a note tells a name as new
unfoldable pub tells : Name → Note (Incoming Name Name) → ℕ
tells x (Deliver m z verb ys) = new_in_all x ys + new_name x z
tells x (Open i z) = new_name x z
tells x (Ask p i z) = 0
tells x (SettledTo z y) = new_name x z + new_in x y
tells x (Elsewhere z c) = new_name x z
tells x (Shorten z c i) = new_name x z

-- where it is not known, and once
pub note_tells : (x : Name) (ks : List Name) (n : Note Name) → IsNoGift x → tells x (read_note ks n) + has x ks ≤ 1
unfolding tells read_note
note_tells x ks (Deliver m n verb ys) g = let a = passeds_tell x ys ks g in let b = name_tells x n (read_all ys ks).known in let c = has_most x (known_after (read_all ys ks).known n) in omega arith
note_tells x ks (Open i n) g = let b = name_tells x n ks in let c = has_most x (known_after ks n) in omega arith
note_tells x ks (Ask p i n) g = let c = has_most x ks in omega arith
note_tells x ks (SettledTo n y) g = let a = name_tells x n ks in let b = passed_tells x y (known_after ks n) g in let c = has_most x (read_passed y (known_after ks n)).known in omega arith
note_tells x ks (Elsewhere n c) g = let b = name_tells x n ks in let d = has_most x (known_after ks n) in omega arith
note_tells x ks (Shorten n c i) g = let b = name_tells x n ks in let d = has_most x (known_after ks n) in omega arith

-- ---- what it does not name

not_one : (n x : Name) → (n ≡ x → ⊥) → one n x ≡ 0
not_one n x f = either (one_or n x)
  where
    either : ((n ≡ x) × (one n x ≡ 1)) ⊎ (one n x ≡ 0) → one n x ≡ 0
    either (inl h) = absurd (f h.0)
    either (inr h) = h

name_not_either : (x n : Name) (b : Bool) → (n ≡ x → ⊥) → new_name x (elim b [ true ↦ Old n | false ↦ New n (host_of n) ]) ≡ 0
unfolding new_name
name_not_either x n true f = refl
name_not_either x n false f = not_one n x f

name_not : (x n : Name) (ks : List Name) → (n ≡ x → ⊥) → new_name x (read_name ks n) ≡ 0
unfolding read_name
name_not x n ks f = name_not_either x n (is_old ks n) f

-- it is never new as x
abbrev pub NeverNew : Name → Bit Name → Type 0
NeverNew x (Named n) = (ks : List Name) → new_name x (read_name ks n) ≡ 0
NeverNew x other = Unit {0}

pub avoids_never : (x : Name) (b : Bit Name) → Avoids x b → NeverNew x b
avoids_never x (Named n) f = λ ks. name_not x n ks f
avoids_never x other f = tt

value_not : (x : Name) (y : Value Name) (ks : List Name) → ValueOk (NeverNew x) y → new_in_value x (read_value ks y).read ≡ 0
unfolding new_in_value read_value
value_not x (Ref n) ks f = f ks
value_not x other ks f = refl

mutual
  unfolding new_in new_in_all read_passed read_all world.plain_read world.many_read world.more_read

  passed_not : (x : Name) (y : Passed Name) (ks : List Name) → IsNoGift x → PassedOk (NeverNew x) y → new_in x (read_passed y ks).read ≡ 0
  passed_not x (Plain y) ks g f = value_not x y ks f
  passed_not x (AGift h i) ks g f = no_gift_one x h i g
  passed_not x (Many ys) ks g f = passeds_not x ys ks g f

  passeds_not : (x : Name) (ys : Passeds Name) (ks : List Name) → IsNoGift x → PassedsOk (NeverNew x) ys → new_in_all x (read_all ys ks).read ≡ 0
  passeds_not x NoMore ks g f = refl
  passeds_not x (More y ys) ks g f = let a = passed_not x y ks g f.0 in let b = passeds_not x ys (read_passed y ks).known g f.1 in omega arith

pub note_not : (x : Name) (ks : List Name) (n : Note Name) → IsNoGift x → NoteOk (NeverNew x) n → tells x (read_note ks n) ≡ 0
unfolding tells read_note
note_not x ks (Deliver m n verb ys) g f = let a = passeds_not x ys ks g f.2 in let b = f.1 (read_all ys ks).known in omega arith
note_not x ks (Open i n) g f = f.1 ks
note_not x ks (Ask p i n) g f = refl
note_not x ks (SettledTo n y) g f = let a = f.0 ks in let b = passed_not x y (known_after ks n) g f.1 in omega arith
note_not x ks other g f = f.0 ks

-- ---- what it brings

-- how often its message brings a name
unfoldable pub mails : ℕ → Name → Note (Incoming Name Name) → ℕ
mails v x (Deliver d z verb ys) = new_answer v x d.message
mails v x other = 0

no_gift_here : (v : ℕ) (x : Name) (i : ℕ) (o : Option (GiftEntry Name)) → IsNoGift x → new_gift_here v x i o ≡ 0
unfolding new_gift_here
no_gift_here v x i (Some k) g = refl
no_gift_here v x i None g = no_gift_one x v i g

pub brings_parts : (v : ℕ) (x : Name) (from : ℕ) (gs : List (GiftEntry Name)) (n : Note (Incoming Name Name)) → IsNoGift x → brings v x from gs n ≡ mails v x n + tells x n
unfolding brings mails tells
brings_parts v x from gs (Open i z) g = let none = no_gift_here v x i (gift_at from i gs) g in omega arith
brings_parts v x from gs (Ask p i z) g = no_gift_here v x i (gift_at p i gs) g
brings_parts v x from gs other g = omega arith

here_less : (v : ℕ) (x : Name) (m : Incoming Name Name) → answer_here v x m ≤ new_answer v x m
unfolding answer_here new_answer
here_less v x (Old m) = omega arith
here_less v x (New m h) = omega arith

own_less : (b : Bool) (v : ℕ) (x : Name) (from : ℕ) (gs : List (GiftEntry Name)) (m : Delivery (Incoming Name Name)) (z : Incoming Name Name) (verb : List ℕ) (ys : Passeds (Incoming Name Name)) → elim b [ true ↦ answer_here v x m.message + new_in_all x ys | false ↦ brings v x from gs (Deliver m z verb ys) ] ≤ brings v x from gs (Deliver m z verb ys)
unfolding brings
own_less true v x from gs m z verb ys = let less = here_less v x m.message in omega arith
own_less false v x from gs m z verb ys = omega arith

pub here_most : (v : ℕ) (x : Name) (from : ℕ) (gs : List (GiftEntry Name)) (n : Note (Incoming Name Name)) → brings_here v x from gs n ≤ brings v x from gs n
unfolding brings_here
here_most v x from gs (Deliver m z verb ys) = own_less (is_own v z) v x from gs m z verb ys
here_most v x from gs other = omega arith
