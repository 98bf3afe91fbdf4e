-- What a line uses is known by the lines, where what it uses in the machine is.
use Rattle.std.proofs.Common.{◌≡◌, ℕ, ◌==◌, ◌&&◌, ◌||◌, Bool, true, false, List, [], ◌∷◌, ◌++◌, Option, Some, None, if◌then◌else◌, refl, sym, ap, subst, map, length, inl, inr, ◌⊎◌}
use Rattle.std.specs.Prelude.{bytes_eq, codes}
use Rattle.ev_base.specs.declared.names.Name.{Name as ShownName}
use Rattle.def_event.specs.declared.shown.Shown.{Shown}
use Rattle.def_event.specs.declared.event.Called.{Called as ShownCall}
use Rattle.def_event.specs.declared.event.Event.{Event as ShownEvent}
use Rattle.def_machine.specs.Values.{Words, Value, Ref, Name}
use Rattle.def_machine.specs.State.{Bound, Fixed, Slot, Message, Happened, Called, SlotWrote, ListMade, ObjectMade, Sends, Reacts, Finished, Posted}
use Rattle.def_machine.specs.Free.{same_words}
use Rattle.def_run.specs.Shown as show
use Rattle.law_frozen.proofs.EvalFacts.{same_is}
use Rattle.law_uses.specs.Connectivity.Known.{Item, AValue, AGuard, IsAmong, AllOf, parts_of, parts_of_all, by, values}
use Rattle.law_uses.specs.Connectivity.Connected as connected
use Rattle.law_uses.specs.Connectivity.Connected.{callee, itself}
use Rattle.def_event.specs.Uses as uses
use Rattle.def_event.specs.Uses.{Line, line_after, place_of, place_after, Thing, AName, Activation, KnowsName, things_of, names_of, name_of, names_used, user, made_by, UsesKnown, is_guarding, receivers}
use Rattle.law_uses.proofs.Uses.Shown.{among_either}
use Rattle.law_uses.specs.KnownUses.Told.{things_at}

-- It is so of the one line of an event, if it has one.
abbrev pub One : (List Line → Line → Type 0) → List Line → List ShownEvent → Type 0
One P past [] = Unit {0}
One P past (f ∷ []) = P past (line_after past f)
One P past (f ∷ g ∷ fs) = ⊥

module _ (draws : List ℕ) (v : ℕ) (past : List Line) where
  abbrev here : ℕ → Activation
  here a = record { at = place_of past; number = a }

  -- each thing that a value is, the activation knows by these lines
  abbrev pub Knew : ℕ → Value Name → Type 0
  Knew a x = (t : Thing) → uses.IsAmong t (things_at draws v x) → uses.Knows past (here a) t

  abbrev pub ItemKnown : ℕ → Item Name → Type 0
  ItemKnown a (AValue x) = Knew a x
  ItemKnown a other = Unit {0}

  -- what a value is shown as
  abbrev Shows : Value Name → Shown
  Shows x = show.shown_value draws v x

  name_thing : (x : Value Name) (n : ShownName) → uses.IsAmong n (names_of (Shows x)) → uses.IsAmong (AName n) (things_at draws v x)
  unfolding show.shown_value names_of things_of
  name_thing (Ref m) n (inl e) = inl (ap AName e)
  name_thing (Ref m) n (inr i) = absurd i
  name_thing other n i = absurd i

  -- Of a line of activation a that makes one name at most: each item is known, or is what the line makes.
  module _ (a : ℕ) (me : List (Item Name)) (made : Option ShownName) (mine : (x : Value Name) → IsAmong (AValue x) me → (n : ShownName) → uses.IsAmong n (names_of (Shows x)) → made ≡ Some n) where
    abbrev Used : ShownName → Type 0
    Used n = (made ≡ Some n) ⊎ KnowsName past (place_of past) a n

    abbrev Each : List (Item Name) → Type 0
    Each is = AllOf (λ (u : ℕ × Item Name). ItemKnown u.0 u.1 ⊎ IsAmong u.1 me) (by a is)

    value_used : (x : Value Name) → ItemKnown a (AValue x) ⊎ IsAmong (AValue x) me → (n : ShownName) → uses.IsAmong n (names_of (Shows x)) → Used n
    value_used x (inl k) n i = inr (k (AName n) (name_thing x n i))
    value_used x (inr m) n i = inl (mine x m n i)

    either_used : (n : ShownName) (xs ys : List ShownName) → (uses.IsAmong n xs → Used n) → (uses.IsAmong n ys → Used n) → uses.IsAmong n (xs ++ ys) → Used n
    either_used n xs ys f g i = either (among_either n xs ys i)
      where
        either : uses.IsAmong n xs ⊎ uses.IsAmong n ys → Used n
        either (inl j) = f j
        either (inr j) = g j

    values_used : (xs : List (Value Name)) → Each (values xs) → (n : ShownName) → uses.IsAmong n (uses.names (show.shown_values draws v xs)) → Used n
    unfolding by values show.shown_values
    values_used [] k n i = absurd i
    values_used (x ∷ xs) k n i = either_used n (names_of (Shows x)) (uses.names (show.shown_values draws v xs)) (value_used x k.0 n) (values_used xs k.1 n) i

    each_front : (is js : List (Item Name)) → Each (is ++ js) → Each is
    unfolding by
    each_front [] js k = tt
    each_front (i ∷ is) js k = (k.0, each_front is js k.1)

    each_rest : (is js : List (Item Name)) → Each (is ++ js) → Each js
    unfolding by
    each_rest [] js k = k
    each_rest (i ∷ is) js k = each_rest is js k.1

    capture_used : (b : Bound Name) → Each (parts_of b) → (n : ShownName) → uses.IsAmong n (names_of (show.shown_capture draws v b)) → Used n
    unfolding by parts_of show.shown_capture names_of
    capture_used (Fixed x g) k n i = value_used x k.0 n i
    capture_used (Slot s) k n i = absurd i

    captures_used : (bs : List (Bound Name)) → Each (parts_of_all bs) → (n : ShownName) → uses.IsAmong n (uses.names (map (show.shown_capture draws v) bs)) → Used n
    unfolding parts_of_all
    captures_used [] k n i = absurd i
    captures_used (b ∷ bs) k n i = either_used n (names_of (show.shown_capture draws v b)) (uses.names (map (show.shown_capture draws v) bs))
        (capture_used b (each_front (parts_of b) (parts_of_all bs) k) n) (captures_used bs (each_rest (parts_of b) (parts_of_all bs) k) n) i

  -- ---- lines

  none_mine : (made : Option ShownName) (x : Value Name) → IsAmong (AValue x) [] → (n : ShownName) → uses.IsAmong n (names_of (Shows x)) → made ≡ Some n
  none_mine made x m n i = absurd m

  or_false : (a b : Bool) → (a || b) ≡ false → a ≡ false
  or_false true b e = e
  or_false false b e = refl

  abbrev IsCoercing : Words → List (Value Name) → Bool
  IsCoercing verb args = bytes_eq verb (codes "coerce") && (length (show.shown_values draws v args) == 2)

  -- what is called as a guard, the text does not count
  called_value : (x : Value Name) (verb : Words) (args : List (Value Name)) → IsCoercing verb args ≡ false → callee x verb args ≡ AValue x
  unfolding callee show.shown_values
  called_value x verb (y ∷ z ∷ []) e = either (same_words (codes "coerce") verb) refl
    where
      either : (b : Bool) → same_words (codes "coerce") verb ≡ b → elim b as (λ _. Item Name) [ true ↦ AGuard x | false ↦ AValue x ] ≡ AValue x
      either true f = let g : IsCoercing (codes "coerce") (y ∷ z ∷ []) ≡ false = subst (λ w. IsCoercing w (y ∷ z ∷ []) ≡ false) (sym (same_is (codes "coerce") verb f)) e in cc
      either false f = refl
  called_value x verb other e = refl

  abbrev call_of : ℕ → Value Name → Words → List (Value Name) → Option ℕ → ShownCall
  call_of a x verb args b = record { activation = a; target = Shows x; verb = verb; args = show.shown_values draws v args; begun = b }

  receiver_used : (a : ℕ) (x : Value Name) (verb : Words) (args : List (Value Name)) (o : Option ℕ) → ItemKnown a (callee x verb args) ⊎ IsAmong (callee x verb args) [] → (b : Bool) → is_guarding (call_of a x verb args o) ≡ b
      → (n : ShownName) → uses.IsAmong n (if b then [] else names_of (Shows x)) → (None ≡ Some n) ⊎ KnowsName past (place_of past) a n
  receiver_used a x verb args o k true e n i = absurd i
  receiver_used a x verb args o k false e n i = value_used a [] None (none_mine None) x (subst (λ z. ItemKnown a z ⊎ IsAmong z []) (called_value x verb args (or_false (IsCoercing verb args) _ e)) k) n i

  abbrev OneUses : List ShownEvent → Type 0
  OneUses fs = One UsesKnown past fs

  abbrev pub AllKnown : Happened Name → Type 0
  AllKnown e = AllOf (λ (u : ℕ × Item Name). ItemKnown u.0 u.1 ⊎ IsAmong u.1 (itself e)) (connected.uses e)

  send_used : (a : ℕ) (m : Message Name) (o : Option Name) → AllOf (λ (u : ℕ × Item Name). ItemKnown u.0 u.1 ⊎ IsAmong u.1 []) (by a (values (m.target ∷ m.args))) → OneUses (show.shown_send draws v a m o ∷ [])
  unfolding show.shown_send show.shown_values names_used user made_by place_after
  send_used a m (Some p) k = λ n i. values_used a [] (Some (show.shown_name draws p)) (none_mine (Some (show.shown_name draws p))) (m.target ∷ m.args) k n i
  send_used a m None k = λ n i. values_used a [] None (none_mine None) (m.target ∷ m.args) k n i

  reaction_used : (a : ℕ) (x y : Value Name) (m : Message Name) (o : Option Name) → ItemKnown a (AValue x) ⊎ IsAmong (AValue x) [] → ItemKnown a (AValue y) ⊎ IsAmong (AValue y) [] → OneUses (show.shown_reaction draws v a x y m o)
  unfolding show.shown_reaction names_used user made_by place_after
  reaction_used a x y m (Some p) k l = let made : Option ShownName = Some (show.shown_name draws p) in
      λ n i. either_used a [] made (none_mine made) n (names_of (Shows x)) (names_of (Shows y)) (value_used a [] made (none_mine made) x k n) (value_used a [] made (none_mine made) y l n) i
  reaction_used a x y m None k l = tt

  -- an object that is made may capture itself
  itself_mine : (me : Name) (x : Value Name) → IsAmong (AValue x) (AValue (Ref me) ∷ []) → (n : ShownName) → uses.IsAmong n (names_of (Shows x)) → name_of (Shows (Ref me)) ≡ Some n
  unfolding show.shown_value names_of name_of
  itself_mine me x (inl e) n i = let same : x ≡ Ref me = cc in first (subst (λ z. uses.IsAmong n (names_of (Shows z))) same i)
    where
      first : uses.IsAmong n (show.shown_name draws me ∷ []) → Some (show.shown_name draws me) ≡ Some n
      first (inl q) = ap Some q
      first (inr j) = absurd j
  itself_mine me x (inr m) n i = absurd m

  pub happened_used : (e : Happened Name) → AllKnown e → OneUses (show.shown_happened draws v e)
  unfolding show.shown_happened names_used user made_by place_after connected.uses itself by values show.shown_value show.shown_values show.shown_capture
  happened_used (Called a x verb args b) k = λ n i. either_used a [] None (none_mine None) n (receivers (call_of a x verb args b)) (uses.names (show.shown_values draws v args))
      (receiver_used a x verb args b k.0 (is_guarding (call_of a x verb args b)) refl n) (values_used a [] None (none_mine None) args k.1 n) i
  happened_used (ListMade a l xs) k = λ n i. values_used a [] None (none_mine None) xs k n i
  happened_used (ObjectMade a me x caught stamps) k = let made : Option ShownName = name_of (Shows (Ref me)) in let mine = itself_mine me in
      λ n i. either_used a (AValue (Ref me) ∷ []) made mine n (uses.names (map (show.shown_capture draws v) caught)) (uses.names (show.shown_values draws v stamps))
      (captures_used a (AValue (Ref me) ∷ []) made mine caught (each_front a (AValue (Ref me) ∷ []) made mine (parts_of_all caught) (values stamps) k) n)
      (values_used a (AValue (Ref me) ∷ []) made mine stamps (each_rest a (AValue (Ref me) ∷ []) made mine (parts_of_all caught) (values stamps) k) n) i
  happened_used (Sends a m) k = send_used a m m.answer k
  happened_used (Reacts a x o m) k = reaction_used a x o m m.answer k.0 k.1.0
  happened_used (SlotWrote a s x) k = λ n i. value_used a [] None (none_mine None) x k.1.0 n i
  happened_used (Finished a x) k = λ n i. value_used a [] None (none_mine None) x k.0 n i
  happened_used (Posted w m) k = tt
  happened_used _ k = λ n i. absurd i
