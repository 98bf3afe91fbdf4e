-- What laws of runs say of a note under way is what is asked of it where it arrives.
use Rattle.std.proofs.Common.{◌≡◌, ℕ, Bool, true, false, List, [], ◌∷◌, Option, Some, None, refl, sym, subst, inl, inr, ◌==◌}
use Rattle.std.proofs.lemmas.Bool.{eqb-true}
use Rattle.def_machine.specs.Values.{Value, Ref, Name, Root, Object, Promise, Answer, Gift, Sent, Naming, naming, host_of}
use Rattle.def_machine.specs.State.{Known, Passed, Passeds, Plain, AGift, Many, NoMore, More, GiftEntry, Vat, is_gift, is_in}
use Rattle.def_machine.specs.Refs.{entry_of}
use Rattle.def_machine.specs.Arrive.{Old, New, gift_at}
use Rattle.def_run.specs.World as world
use Rattle.def_run.specs.World.{is_old, read_name}
use Rattle.law_fate.specs.Name.Names.{AllOf, IsAmong, WasDrawn, PassedOk, PassedsOk, ValueOk, GiftOk, IsMade, WasMade, IsMessageMade, IsEventual, names_in}
use Rattle.law_fate.proofs.Name.SameNames.{reference_is}
use Rattle.law_fate.specs.Fates.Lasting.{NamesObject, PassedLast, NoPromise as LastsNot}
use Rattle.law_reference.specs.Reference.Notes.{PassesSpared, AllPassSpared, ValueSpared}
use Rattle.law_reference.specs.Reference.ListRingless.{IsToldWell, told_name, ToldValue, ToldPassed, ToldPasseds, IsToldMail, SettlesWell, IfMany}

is_in_none : (h : ℕ) → is_in h [] ≡ false
unfolding is_in
is_in_none h = refl

-- ---- names

new_well : (b : Bool) (hs : List ℕ) (n : Name) → IsEventual n → is_in (host_of n) hs ≡ false → IsToldWell hs (elim b [ true ↦ Old n | false ↦ New n (host_of n) ])
new_well true hs n i e = tt
new_well false hs n i e = (e, i)

pub told_well : (hs : List ℕ) (ks : List Name) (vats : List (Vat Name)) (d : List ℕ) (n : Name) → WasMade vats d n → (IsEventual n → is_in (host_of n) hs ≡ false) → IsToldWell hs (read_name ks n)
unfolding read_name is_old host_of
told_well hs ks vats d (Object w i) m f = tt
told_well hs ks vats d (Root w) m f = new_well (is_old ks (Root w)) hs (Root w) tt (f tt)
told_well hs ks vats d (Promise w i) m f = new_well (is_old ks (Promise w i)) hs (Promise w i) tt (f tt)
told_well hs ks vats d (Answer w i) m f = new_well (is_old ks (Answer w i)) hs (Answer w i) tt (f tt)
told_well hs ks vats d (Gift w i) m f = new_well (is_old ks (Gift w i)) hs (Gift w i) tt (f tt)
told_well hs ks vats d (Sent i) m f = absurd m

told_either : (b : Bool) (n : Name) → told_name (elim b [ true ↦ Old n | false ↦ New n (host_of n) ]) ≡ n
told_either true n = refl
told_either false n = refl

pub told_is : (ks : List Name) (n : Name) → told_name (read_name ks n) ≡ n
unfolding read_name
told_is ks n = told_either (is_old ks n) n

pub told_mail : (ks : List Name) (vats : List (Vat Name)) (d : List ℕ) (n : Name) → IsMessageMade vats n → IsToldMail (New n (host_of n))
told_mail ks vats d (Sent m) h = tt
told_mail ks vats d other h = absurd h

-- ---- what passes

module _ (vats : List (Vat Name)) (d : List ℕ) where
  -- nothing is heeded
  plain_value : (ks : List Name) (y : Value Name) → ValueOk (IsMade vats d) y → ToldValue [] (world.read_value ks y).read
  unfolding world.read_value
  plain_value ks (Ref n) h = told_well [] ks vats d n h (λ i. is_in_none (host_of n))
  plain_value ks other h = tt

  mutual
    unfolding world.read_passed world.read_all world.plain_read world.many_read world.more_read

    pub plain_passed : (y : Passed Name) (ks : List Name) → PassedOk (IsMade vats d) y → ToldPassed [] (world.read_passed y ks).read
    plain_passed (Plain y) ks h = plain_value ks y h
    plain_passed (AGift g i) ks h = tt
    plain_passed (Many ys) ks h = plain_passeds ys ks h

    pub plain_passeds : (ys : Passeds Name) (ks : List Name) → PassedsOk (IsMade vats d) ys → ToldPasseds [] (world.read_all ys ks).read
    plain_passeds NoMore ks h = tt
    plain_passeds (More y ys) ks h = (plain_passed y ks h.0, plain_passeds ys (world.read_passed y ks).known h.1)

  -- where the vats that were noticed are heeded
  module _ (s : Vat Name) where
    spared_value : (ks : List Name) (y : Value Name) → ValueOk (IsMade vats d) y → ValueSpared s y → ToldValue s.noticed (world.read_value ks y).read
    unfolding world.read_value
    spared_value ks (Ref n) h f = told_well s.noticed ks vats d n h (λ i. f)
    spared_value ks other h f = tt

    mutual
      unfolding world.read_passed world.read_all world.plain_read world.many_read world.more_read

      pub spared_passed : (y : Passed Name) (ks : List Name) → PassedOk (IsMade vats d) y → PassesSpared s y → ToldPassed s.noticed (world.read_passed y ks).read
      spared_passed (Plain y) ks h f = spared_value ks y h f
      spared_passed (AGift g i) ks h f = tt
      spared_passed (Many ys) ks h f = spared_passeds ys ks h f

      spared_passeds : (ys : Passeds Name) (ks : List Name) → PassedsOk (IsMade vats d) ys → AllPassSpared s ys → ToldPasseds s.noticed (world.read_all ys ks).read
      spared_passeds NoMore ks h f = tt
      spared_passeds (More y ys) ks h f = (spared_passed y ks h.0 f.0, spared_passeds ys (world.read_passed y ks).known h.1 f.1)

-- ---- what a name settles to

object_settles : (ks : List Name) (n : Name) → NamesObject n → SettlesWell (Plain (Ref (read_name ks n)))
unfolding read_name is_old
object_settles ks (Object w i) o = λ e. e
object_settles ks other o = absurd o

value_settles : (ks : List Name) (y : Value Name) → LastsNot y → SettlesWell (Plain (world.read_value ks y).read)
unfolding world.read_value
value_settles ks (Ref n) h = object_settles ks n h
value_settles ks other h = tt

pub settles_well : (ks : List Name) (y : Passed Name) → PassedLast y → SettlesWell (world.read_passed y ks).read
unfolding world.read_passed world.plain_read world.many_read
settles_well ks (Plain y) h = value_settles ks y h
settles_well ks (AGift g i) h = absurd h
settles_well ks (Many ys) h = tt

-- where a list passes
abbrev pub IsMany : Passed Name → Type 0
IsMany (Many ys) = Unit {0}
IsMany other = ⊥

pub if_many : (P : Type 0) (ks : List Name) (y : Passed Name) → (IsMany y → P) → IfMany (world.read_passed y ks).read P
unfolding world.read_passed world.plain_read world.many_read
if_many P ks (Many ys) f = f tt
if_many P ks other f = tt

-- ---- the next draw

module _ (word : ℕ → ℕ) (v : ℕ) where
  abbrev K : Naming Name Name
  K = naming word v

  unknown_head : (b : Bool) (k : Known Name) (o : Option (Known Name)) → (b ≡ true → ⊥) → o ≡ None → ◌≡◌ {A = Option (Known Name)} (elim b [ true ↦ Some k | false ↦ o ]) None
  unknown_head true k o f e = absurd (f refl)
  unknown_head false k o f e = e

  -- what is not among the names known is not found there
  pub unknown : (ks : List (Known Name)) (n : Name) → (IsAmong n (names_in ks) → ⊥) → entry_of K ks n ≡ None
  unfolding entry_of naming
  unknown [] n f = refl
  unknown (k ∷ ks) n f = unknown_head (K.same k.name n) k (entry_of K ks n) (λ e. f (inl (sym (reference_is k.name n e)))) (unknown ks n (λ a. f (inr a)))

  found_head : (P : Known Name → Type 0) (b : Bool) (k0 k : Known Name) (o : Option (Known Name)) → P k0 → ◌≡◌ {A = Option (Known Name)} (elim b [ true ↦ Some k0 | false ↦ o ]) (Some k) → (o ≡ Some k → P k) → P k
  found_head P true k0 k o h e f = let same : k0 ≡ k = cc in subst P same h
  found_head P false k0 k o h e f = f e

  pub found_all : (P : Known Name → Type 0) (ks : List (Known Name)) (n : Name) (k : Known Name) → AllOf P ks → entry_of K ks n ≡ Some k → P k
  unfolding entry_of
  found_all P [] n k h e = cc
  found_all P (k0 ∷ ks) n k h e = found_head P (K.same k0.name n) k0 k (entry_of K ks n) h.0 e (λ i. found_all P ks n k h.1 i)

  -- what is found is among the names known
  known_head : (b : Bool) (k0 k : Known Name) (n : Name) (o : Option (Known Name)) (ns : List Name) → (b ≡ true → k0.name ≡ n) → ◌≡◌ {A = Option (Known Name)} (elim b [ true ↦ Some k0 | false ↦ o ]) (Some k) → (o ≡ Some k → IsAmong n ns) → IsAmong n (k0.name ∷ ns)
  known_head true k0 k n o ns f e g = inl (sym (f refl))
  known_head false k0 k n o ns f e g = inr (g e)

  pub found_among : (ks : List (Known Name)) (n : Name) (k : Known Name) → entry_of K ks n ≡ Some k → IsAmong n (names_in ks)
  unfolding entry_of naming
  found_among [] n k e = cc
  found_among (k0 ∷ ks) n k e = known_head (K.same k0.name n) k0 k n (entry_of K ks n) (names_in ks) (reference_is k0.name n) e (λ i. found_among ks n k i)

-- a key whose word was not drawn is that of no gift that stands
gift_head : (b : Bool) (g : GiftEntry Name) (o : Option (GiftEntry Name)) → (b ≡ true → ⊥) → o ≡ None → ◌≡◌ {A = Option (GiftEntry Name)} (elim b [ true ↦ Some g | false ↦ o ]) None
gift_head true g o f e = absurd (f refl)
gift_head false g o f e = e

gift_either : (a b : Bool) → elim a [ true ↦ b | false ↦ false ] ≡ true → b ≡ true
gift_either true b e = e
gift_either false b e = cc

other_gift : (ds : List ℕ) (p k : ℕ) (g : GiftEntry Name) → (WasDrawn ds k → ⊥) → WasDrawn ds g.number → is_gift p k g ≡ true → ⊥
unfolding is_gift
other_gift ds p k g new l e = new (subst (WasDrawn ds) (eqb-true g.number k (gift_either (g.provider == p) (g.number == k) e)) l)

pub gift_unknown : (vats : List (Vat Name)) (d : List ℕ) (p k : ℕ) (gs : List (GiftEntry Name)) → (WasDrawn d k → ⊥) → AllOf (GiftOk (IsMade vats d)) gs → gift_at p k gs ≡ None
unfolding gift_at
gift_unknown vats d p k [] new h = refl
gift_unknown vats d p k (g ∷ gs) new h = gift_head (is_gift p k g) g (gift_at p k gs) (other_gift d p k g new h.0.1) (gift_unknown vats d p k gs new h.1)
