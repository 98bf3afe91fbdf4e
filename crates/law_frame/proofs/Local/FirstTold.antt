-- What is read first in a note comes to be known, in order, behind what was known before.
use Rattle.std.proofs.Common.{◌≡◌, ℕ, Bool, true, false, List, [], ◌∷◌, ◌++◌, refl, sym, ap, subst, ◌∙◌, map, append_assoc, append-nil}
use Rattle.std.proofs.lemmas.List.{map-append}
use Rattle.def_machine.specs.Values.{Value, Ref, Name, Object, Gift, host_of}
use Rattle.def_machine.specs.State.{Passed, Passeds, Plain, AGift, Many, NoMore, More, Note, Deliver, Open, Ask, SettledTo, Elsewhere, Shorten}
use Rattle.def_machine.specs.Arrive.{Incoming, Old, New}
use Rattle.def_machine.specs.Maps as maps
use Rattle.def_machine.specs.Maps.{incoming}
use Rattle.def_run.specs.Wire.{is_object}
use Rattle.def_run.specs.World as world
use Rattle.def_run.specs.World.{is_old, read_name, known_after, read_note}
use Rattle.law_fate.specs.Name.Names.{AllOf}
use Rattle.law_fate.proofs.Name.Facts.{all_append}
use Rattle.law_frame.specs.Frame.Alike.{names_heard, as_told}
use Rattle.law_frame.proofs.Frame.Grow.{after_old}
use Rattle.law_frame.specs.Heard.Hearing.{as_heard}
use Rattle.law_frame.proofs.Local.Newcomers.{news_in, news_value, news_passed, news_all, news_note}

-- ---- what is told first, in names

abbrev self : Name → Name
self n = n

abbrev In : Incoming Name Name → List Name
In = news_in self Gift

abbrev InValue : Value (Incoming Name Name) → List Name
InValue = news_value self Gift

abbrev Of : Passed (Incoming Name Name) → List Name
Of = news_passed self Gift

abbrev OfAll : Passeds (Incoming Name Name) → List Name
OfAll = news_all self Gift

abbrev pub first_told : Note (Incoming Name Name) → List Name
first_told = news_note self Gift

abbrev pub IsNoObject : Name → Type 0
IsNoObject n = is_object n ≡ false

-- those are known by then that were known, and these behind them, of which none is an object
abbrev Behind : List Name → List Name → List Name → Type 0
Behind ks ns ls = (ls ≡ ks ++ ns) × AllOf IsNoObject ns

not_object : (ks : List Name) (n : Name) → is_old ks n ≡ false → is_object n ≡ false
unfolding is_old is_object
not_object ks (Object v i) e = cc
not_object ks other e = refl

name_behind : (ks : List Name) (n : Name) → Behind ks (In (read_name ks n)) (known_after ks n)
unfolding read_name known_after
name_behind ks n = by (is_old ks n) refl
  where
    by : (b : Bool) → is_old ks n ≡ b → Behind ks (In (elim b [ true ↦ Old n | false ↦ New n (host_of n) ])) (elim b [ true ↦ ks | false ↦ ks ++ n ∷ [] ])
    by true e = (sym (append-nil ks), tt)
    by false e = (refl, (not_object ks n e, tt))

none_behind : (ks : List Name) → Behind ks [] ks
none_behind ks = (sym (append-nil ks), tt)

value_behind : (ks : List Name) (y : Value Name) → Behind ks (InValue (world.read_value ks y).read) (world.read_value ks y).known
unfolding world.read_value
value_behind ks (Ref n) = name_behind ks n
value_behind ks other = none_behind ks

both_behind : (ks ns ls ms js : List Name) → Behind ks ns ls → Behind ls ms js → Behind ks (ns ++ ms) js
both_behind ks ns ls ms js a b = (b.0 ∙ ap (λ (xs : List Name). xs ++ ms) a.0 ∙ append_assoc ks ns ms, all_append IsNoObject ns ms a.1 b.1)

gift_apart : (h i : ℕ) → is_object (Gift h i) ≡ false
unfolding is_object
gift_apart h i = refl

mutual
  unfolding world.read_passed world.read_all world.plain_read world.many_read world.more_read

  passed_behind : (y : Passed Name) (ks : List Name) → Behind ks (Of (world.read_passed y ks).read) (world.read_passed y ks).known
  passed_behind (Plain y) ks = value_behind ks y
  passed_behind (AGift h i) ks = (refl, (gift_apart h i, tt))
  passed_behind (Many ys) ks = all_behind ys ks

  all_behind : (ys : Passeds Name) (ks : List Name) → Behind ks (OfAll (world.read_all ys ks).read) (world.read_all ys ks).known
  all_behind NoMore ks = none_behind ks
  all_behind (More y ys) ks = both_behind ks (Of (world.read_passed y ks).read) (world.read_passed y ks).known (OfAll (world.read_all ys (world.read_passed y ks).known).read) (world.read_all ys (world.read_passed y ks).known).known
      (passed_behind y ks) (all_behind ys (world.read_passed y ks).known)

-- what a message is sent to is known by then
abbrev pub TargetIsOld : List Name → Note Name → Type 0
TargetIsOld ks (Deliver d n verb ys) = is_old (world.read_all ys ks).known n ≡ true
TargetIsOld ks other = Unit {0}

read_old : (ks : List Name) (n : Name) → is_old ks n ≡ true → read_name ks n ≡ Old n
unfolding read_name
read_old ks n e = ap (λ (b : Bool). elim b [ true ↦ Old n | false ↦ New n (host_of n) ]) e

pub note_behind : (ks : List Name) (n : Note Name) → TargetIsOld ks n → (names_heard ks n ≡ ks ++ first_told (read_note ks n)) × AllOf IsNoObject (first_told (read_note ks n))
unfolding read_note names_heard
note_behind ks (Deliver d n verb ys) e =
    let K = (world.read_all ys ks).known in let zs = (world.read_all ys ks).read in
    let a = all_behind ys ks in
    subst (λ (x : Incoming Name Name). Behind ks (In x ++ OfAll zs) (known_after K n)) (sym (read_old K n e)) (after_old K n e ∙ a.0, a.1)
note_behind ks (Open i n) e = name_behind ks n
note_behind ks (Ask p i n) e = none_behind ks
note_behind ks (SettledTo n y) e = both_behind ks (In (read_name ks n)) (known_after ks n) (Of (world.read_passed y (known_after ks n)).read) (world.read_passed y (known_after ks n)).known (name_behind ks n) (passed_behind y (known_after ks n))
note_behind ks (Elsewhere n c) e = name_behind ks n
note_behind ks (Shorten n c i) e = name_behind ks n

-- what no receiver looks at is not told first
pub heard_first : (v u : ℕ) (n : Note (Incoming Name Name)) → first_told (as_heard v u n) ≡ first_told n
unfolding as_heard as_told
heard_first v u (Deliver d x verb ys) = refl
heard_first v u other = refl

-- ---- and with names changed

module _ {M : Type 0} (f : Name → M) where
  abbrev On : Incoming Name Name → Incoming M Name
  On = incoming f self

  abbrev Given : ℕ → ℕ → M
  Given h i = f (Gift h i)

  in_changed : (x : Incoming Name Name) → news_in f Given (On x) ≡ map f (In x)
  in_changed (Old n) = refl
  in_changed (New n h) = refl

  value_changed : (y : Value (Incoming Name Name)) → news_value f Given (maps.value On y) ≡ map f (InValue y)
  value_changed (Ref x) = in_changed x
  value_changed other = refl

  joined : (xs ys : List M) (ns ms : List Name) → xs ≡ map f ns → ys ≡ map f ms → xs ++ ys ≡ map f (ns ++ ms)
  joined xs ys ns ms e i = ap (λ zs. zs ++ ys) e ∙ ap (λ zs. map f ns ++ zs) i ∙ sym (map-append f ns ms)

  mutual
    passed_changed : (y : Passed (Incoming Name Name)) → news_passed f Given (maps.passed On y) ≡ map f (Of y)
    passed_changed (Plain y) = value_changed y
    passed_changed (AGift h i) = refl
    passed_changed (Many ys) = all_changed ys

    all_changed : (ys : Passeds (Incoming Name Name)) → news_all f Given (maps.passeds On ys) ≡ map f (OfAll ys)
    all_changed NoMore = refl
    all_changed (More y ys) = joined _ _ (Of y) (OfAll ys) (passed_changed y) (all_changed ys)

  pub note_changed : (n : Note (Incoming Name Name)) → news_note f Given (maps.note On n) ≡ map f (first_told n)
  note_changed (Deliver d x verb ys) = joined _ _ (In x) (OfAll ys) (in_changed x) (all_changed ys)
  note_changed (Open i x) = in_changed x
  note_changed (Ask p i x) = refl
  note_changed (SettledTo x y) = joined _ _ (In x) (Of y) (in_changed x) (passed_changed y)
  note_changed (Elsewhere x c) = in_changed x
  note_changed (Shorten x c i) = in_changed x
