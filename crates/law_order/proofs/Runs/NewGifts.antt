-- In every run the gifts in the first note of a link are of another vat than its receiver, and none of them is known as it is read.
use Rattle.std.proofs.Common.{◌≡◌, ℕ, zero, ◌+◌, ◌≤◌, ◌==◌, Bool, true, false, List, [], ◌∷◌, ◌++◌, Some, refl, sym, subst, ◌⊎◌, inl, inr, eq-eqb, arith}
use Rattle.std.specs.Prelude.{slice_get}
use Rattle.def_machine.specs.Values.{Words, Value, Ref, Name, Gift, word_of}
use Rattle.def_machine.specs.State.{Passed, Passeds, Plain, AGift, Many, NoMore, More, Delivery, Note, Deliver, Vat, is_in}
use Rattle.def_run.specs.World.{Script, Entry, Link, World, Goes, begins, open_from, steps_from, link_at, is_old, known_after, read_value, read_passed, read_all, plain_read, many_read, more_read}
use Rattle.law_fate.specs.Name.Names.{AllOf, IsAmong, ValueOk, PassedOk, PassedsOk, NoteOk, names_in}
use Rattle.law_fate.specs.Name.Runs.{KnowsOnce}
use Rattle.law_fate.proofs.Name.Among.{among_or}
use Rattle.law_fate.specs.Fates.Fate.{once}
use Rattle.law_fate.specs.Fates.Lasting.{Each}
use Rattle.law_reference.specs.Reference.GiftPassing.{gifts_in, gifts_in_all, gifts_in_note, gifts_put, gifts_under_way, drawn_of, PassesFrom, AllPassFrom, Provides, HasProviders}
use Rattle.law_reference.specs.Reference.Hiding.{IsNotOf, Spares}
use Rattle.law_reference.proofs.Reference.GiftLaws.{gifts_pass_once, one_provider}
use Rattle.law_reference.proofs.Reference.GiftLinks.{found_tells}
use Rattle.law_reference.proofs.Reference.HideMoves.{taken_sum}
use Rattle.law_reference.proofs.Reference.HideRuns.{gifts_hidden, known_alone}
use Rattle.law_reference.proofs.Reference.VatStep.{link_all}
use Rattle.law_order.proofs.Runs.Beginnings.{reached_is}

-- each gift in what passes is of another vat, and is not among the names that are known as it is read
abbrev mutual
  pub IsNew : ℕ → List Name → Passed Name → Type 0
  IsNew v ns (Plain y) = Unit {0}
  IsNew v ns (AGift h i) = (h ≡ v → ⊥) × (IsAmong (Gift h i) ns → ⊥)
  IsNew v ns (Many ys) = AllNew v ns ys

  pub AllNew : ℕ → List Name → Passeds Name → Type 0
  AllNew v ns NoMore = Unit {0}
  AllNew v ns (More y ys) = IsNew v ns y × AllNew v (read_passed y ns).known ys

-- ---- what is known after a reading

known_if : (ns : List Name) (n : Name) (h i : ℕ) → IsNotOf i n → (c : Bool) → IsAmong (Gift h i) (elim c [ true ↦ ns | false ↦ ns ++ n ∷ [] ]) → IsAmong (Gift h i) ns
known_if ns n h i f true a = a
known_if ns n h i f false a = go (among_or (Gift h i) ns n a)
  where
    go : IsAmong (Gift h i) ns ⊎ (Gift h i ≡ n) → IsAmong (Gift h i) ns
    go (inl b) = b
    go (inr e) = absurd (subst (IsNotOf i) (sym e) f refl)

known_name : (ns : List Name) (n : Name) (h i : ℕ) → IsNotOf i n → IsAmong (Gift h i) (known_after ns n) → IsAmong (Gift h i) ns
unfolding known_after
known_name ns n h i f a = known_if ns n h i f (is_old ns n) a

known_value : (ns : List Name) (y : Value Name) (h i : ℕ) → ValueOk (Spares i) y → IsAmong (Gift h i) (read_value ns y).known → IsAmong (Gift h i) ns
unfolding read_value
known_value ns (Ref n) h i f a = known_name ns n h i f a
known_value ns other h i f a = a

once_true : (c : Bool) → c ≡ true → once c ≤ 0 → ⊥
unfolding once
once_true true e l = omega arith
once_true false e l = cc

key_is : (g h i j : ℕ) → Gift h i ≡ Gift g j → i ≡ j
key_is g h i j e = cc

known_gift : (ns : List Name) (g j h i : ℕ) → once (i == j) ≤ 0 → IsAmong (Gift h i) (ns ++ Gift g j ∷ []) → IsAmong (Gift h i) ns
known_gift ns g j h i l a = go (among_or (Gift h i) ns (Gift g j) a)
  where
    go : IsAmong (Gift h i) ns ⊎ (Gift h i ≡ Gift g j) → IsAmong (Gift h i) ns
    go (inl b) = b
    go (inr e) = absurd (once_true (i == j) (eq-eqb i j (key_is g h i j e)) l)

mutual
  unfolding read_passed read_all plain_read many_read more_read gifts_in gifts_in_all

  -- where no gift of the key passes, and none is named, none comes to be known
  known_passed : (y : Passed Name) (ns : List Name) (h i : ℕ) → gifts_in i y ≤ 0 → PassedOk (Spares i) y → IsAmong (Gift h i) (read_passed y ns).known → IsAmong (Gift h i) ns
  known_passed (Plain y) ns h i l f a = known_value ns y h i f a
  known_passed (AGift g j) ns h i l f a = known_gift ns g j h i l a
  known_passed (Many ys) ns h i l f a = known_all ys ns h i l f a

  known_all : (ys : Passeds Name) (ns : List Name) (h i : ℕ) → gifts_in_all i ys ≤ 0 → PassedsOk (Spares i) ys → IsAmong (Gift h i) (read_all ys ns).known → IsAmong (Gift h i) ns
  known_all NoMore ns h i l f a = a
  known_all (More y ys) ns h i l f a = known_passed y ns h i (omega arith) f.0 (known_all ys (read_passed y ns).known h i (omega arith) f.1 a)

-- ---- each gift is new

one_here : (i : ℕ) → 1 ≤ once (i == i)
unfolding once
one_here i = go (i == i) (eq-eqb i i refl)
  where
    go : (c : Bool) → c ≡ true → 1 ≤ once c
    go true e = omega arith
    go false e = cc

module _ (P : ℕ → ℕ) (d : List ℕ) (a v : ℕ) where
  -- it is not known before, if it is of another vat; it passes once at most, and is not named
  abbrev Unknown : (ℕ → ℕ) → List Name → Type 0
  Unknown count ns = (h i : ℕ) → (h ≡ v → ⊥) → 1 ≤ count i → IsAmong (Gift h i) ns → ⊥

  abbrev Few : (ℕ → ℕ) → Type 0
  Few count = (i : ℕ) → count i ≤ 1

  mutual
    unfolding gifts_in gifts_in_all

    pub new_passed : (y : Passed Name) (ns : List Name) → PassesFrom P d a v y → Unknown (λ i. gifts_in i y) ns → Few (λ i. gifts_in i y) → ((i : ℕ) → 1 ≤ gifts_in i y → PassedOk (Spares i) y) → IsNew v ns y
    new_passed (Plain y) ns f u few s = tt
    new_passed (AGift h i) ns f u few s = (f.2, u h i f.2 (one_here i))
    new_passed (Many ys) ns f u few s = new_all ys ns f u few s

    pub new_all : (ys : Passeds Name) (ns : List Name) → AllPassFrom P d a v ys → Unknown (λ i. gifts_in_all i ys) ns → Few (λ i. gifts_in_all i ys) → ((i : ℕ) → 1 ≤ gifts_in_all i ys → PassedsOk (Spares i) ys) → AllNew v ns ys
    new_all NoMore ns f u few s = tt
    new_all (More y ys) ns f u few s = (
      new_passed y ns f.0 (λ h i q l m. u h i q (omega arith) m) (λ i. let l = few i in omega arith) (λ i l. (s i (omega arith)).0),
      new_all ys (read_passed y ns).known f.1
          (λ h i q l m. let k = few i in u h i q (omega arith) (known_passed y ns h i (omega arith) (s i (omega arith)).0 m))
          (λ i. let l = few i in omega arith)
          (λ i l. (s i (omega arith)).1),
    )

-- ---- in runs

module _ (script : Script) (knows : KnowsOnce script) (w x : World) (es : List Entry) (k : ℕ) (o : open_from script zero script.vats (begins script) ≡ Goes w) (e : steps_from script es k w ≡ Goes x)
    (a b : ℕ) (l : Link) (s : Vat Name) (found : link_at a b x.links ≡ Some l) (there : slice_get x.vats b ≡ Some s) (n : Note Name) (rest : List (Note Name)) (first : l.notes ≡ n ∷ rest) where
  pub providers : HasProviders x
  providers = reached_is HasProviders _ x e ((one_provider script).1 w es k o)

  -- who provides the gifts in it
  pub from : Provides providers.0 x.drawn a b n
  from = (subst (λ ns. Each (Provides providers.0 x.drawn a b) ns) first (found_tells providers.0 x.drawn a b l x.links providers.1 found)).0

  first_part : (i : ℕ) → gifts_in_note i n ≤ gifts_under_way i x.links
  first_part i = let all = taken_sum i a b n rest l first x.links found in omega arith

  at_most_once : (c : Bool) → once c ≤ 1
  unfolding once
  at_most_once true = omega arith
  at_most_once false = omega arith

  drawn_once : (i : ℕ) → drawn_of i x.drawn ≤ 1
  unfolding drawn_of
  drawn_once i = at_most_once (is_in (word_of i) x.drawn)

  abbrev Passing : World → Type 0
  Passing y = ((i : ℕ) → (gifts_put i y.links ≤ drawn_of i y.drawn) × (gifts_under_way i y.links ≤ drawn_of i y.drawn)) × ((i j : ℕ) → 1 ≤ gifts_put i y.links → 1 ≤ gifts_put j y.links → word_of i ≡ word_of j → i ≡ j)

  pub few : (i : ℕ) → gifts_in_note i n ≤ 1
  few i =
      let passing : Passing x = reached_is Passing _ x e ((gifts_pass_once script).1 w es k o) in
      let most = (passing.0 i).1 in let part = first_part i in let one = drawn_once i in omega arith

  pub unknown : (h i : ℕ) → (h ≡ b → ⊥) → 1 ≤ gifts_in_note i n → IsAmong (Gift h i) (names_in s.known) → ⊥
  unknown h i f m c = f ((known_alone script knows).1 w x es k o e h i b s (let part = first_part i in omega arith) there c)

  pub spared : (i : ℕ) → 1 ≤ gifts_in_note i n → NoteOk (Spares i) n
  spared i m =
      let hidden = ((gifts_hidden script knows).1 w x es k o e i (let part = first_part i in omega arith)).1 in
      (subst (λ ns. AllOf (NoteOk (Spares i)) ns) first (link_all (λ (j : Link). AllOf (NoteOk (Spares i)) j.notes) a b x.links l hidden found)).0

-- of a note that delivers a message
pub gifts_are_new : (script : Script) → KnowsOnce script → (w x : World) (es : List Entry) (k : ℕ) → open_from script zero script.vats (begins script) ≡ Goes w → steps_from script es k w ≡ Goes x
    → (a b : ℕ) (l : Link) (s : Vat Name) → link_at a b x.links ≡ Some l → slice_get x.vats b ≡ Some s → (d : Delivery Name) (n : Name) (verb : Words) (ys : Passeds Name) (rest : List (Note Name)) → l.notes ≡ Deliver d n verb ys ∷ rest → AllNew b (names_in s.known) ys
unfolding gifts_in_note
gifts_are_new script knows w x es k o e a b l s found there d n verb ys rest first =
    let note : Note Name = Deliver d n verb ys in
    let told = from script knows w x es k o e a b l s found there note rest first in
    new_all (providers script knows w x es k o e a b l s found there note rest first).0 x.drawn a b ys (names_in s.known) told
    (λ h i q m c. unknown script knows w x es k o e a b l s found there note rest first h i q m c)
    (λ i. few script knows w x es k o e a b l s found there note rest first i)
    (λ i m. (spared script knows w x es k o e a b l s found there note rest first i m).2)
