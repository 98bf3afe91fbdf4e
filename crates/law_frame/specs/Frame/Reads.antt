-- What is written is read: each name by its number, and as new what the writer tells first.
use Rattle.std.specs.Prelude.{◌≡◌, ℕ, suc, Bool, true, false, List, [], ◌∷◌, ◌++◌, Option, Some, None, slice_get, length, ◌==◌, ◌⊎◌}
use Rattle.def_machine.specs.Values.{Value, Null, Flag, Number, Letter, Text, Prim, Broken, Items, Ref, Name, Gift, host_of, key, word_of}
use Rattle.def_machine.specs.State.{Passed, Passeds, Plain, AGift, Many, NoMore, More, Note, Delivery, Deliver, Open, Ask, SettledTo, Elsewhere, Shorten}
use Rattle.def_machine.specs.Arrive.{Incoming, Old, New}
use Rattle.def_run.specs.Connections.{Connection, Stage, Newcomers, Heard, stands_in, exported_note, frame_now, note_heard, learnt_at}
use Rattle.def_run.specs.Wire.{sight, is_object}
use Rattle.law_frame.specs.Frame.Growing.{IsFront}

abbrev pub found : {A : Type 0} → A → Stage Name → Heard Name A
found x s = record { read = x; after = s }

-- what follows once something was read
abbrev pub after_that : {A B : Type 0} → Heard Name A → (A → Stage Name → Heard Name B) → Heard Name B
after_that h f = f h.read h.after

-- From v to u, where v was asked for that by then.
module _ (v u : ℕ) (asked : List Name) where
  -- a name of v that has no number yet comes to be known, or is an object
  unfoldable pub seen_first : Name → Bool → Stage Name → Heard Name (Incoming Name Name)
  seen_first n true s = found (Old n) (record s { imports = s.imports ++ n ∷ [] })
  seen_first n false s = found (New n v) (record s { imports = s.imports ++ n ∷ []; known = suc s.known })

  unfoldable pub seen_told : Name → Bool → Stage Name → Heard Name (Incoming Name Name)
  seen_told n true s = found (Old n) s
  seen_told n false s = seen_first n (is_object n) s

  unfoldable pub seen_unasked : Name → Bool → Stage Name → Heard Name (Incoming Name Name)
  seen_unasked n true s = found (Old n) s
  seen_unasked n false s = seen_told n (stands_in (sight v u) s.imports n) s

  unfoldable pub seen_own : Name → Bool → Stage Name → Heard Name (Incoming Name Name)
  seen_own n true s = seen_unasked n (stands_in (sight v u) asked n) s
  seen_own n false s = found (Old n) s

  unfoldable pub seen_name : Name → Stage Name → Heard Name (Incoming Name Name)
  seen_name n s = seen_own n (host_of n == v) s

  unfoldable pub seen_value : Value Name → Stage Name → Heard Name (Passed (Incoming Name Name))
  seen_value (Ref n) s = after_that (seen_name n s) (λ x. found (Plain (Ref x)))
  seen_value Null s = found (Plain Null) s
  seen_value (Flag b) s = found (Plain (Flag b)) s
  seen_value (Number z) s = found (Plain (Number z)) s
  seen_value (Letter c) s = found (Plain (Letter c)) s
  seen_value (Text t) s = found (Plain (Text t)) s
  seen_value (Prim i) s = found (Plain (Prim i)) s
  seen_value (Broken t) s = found (Plain (Broken t)) s
  seen_value (Items k) s = found (Plain (Items k)) s

  -- a gift that u learnt as a gift from v before is that
  unfoldable pub seen_gift : ℕ → ℕ → Option Name → Stage Name → Heard Name (Passed (Incoming Name Name))
  seen_gift h i (Some n) s = found (Plain (Ref (Old n))) s
  seen_gift h i None s = found (AGift h i) (record s { learnt = s.learnt ++ record { host = h; number = i; name = Gift h i } ∷ []; known = suc s.known })

  unfoldable mutual
    pub seen_passed : Passed Name → Stage Name → Heard Name (Passed (Incoming Name Name))
    seen_passed (Plain y) s = seen_value y s
    seen_passed (AGift h i) s = seen_gift h i (learnt_at h i s.learnt) s
    seen_passed (Many ys) s = after_that (seen_all ys s) (λ zs. found (Many zs))

    pub seen_all : Passeds Name → Stage Name → Heard Name (Passeds (Incoming Name Name))
    seen_all NoMore s = found NoMore s
    seen_all (More y ys) s = after_that (seen_passed y s) (λ z r. after_that (seen_all ys r) (λ zs. found (More z zs)))

  unfoldable pub seen_note : Note Name → Stage Name → Heard Name (Note (Incoming Name Name))
  seen_note (Deliver d n verb ys) s = after_that (seen_name n s) (λ x r. after_that (seen_all ys r) (λ zs. found (Deliver (record { message = New d.message v; asks = d.asks; answer = None }) x verb zs)))
  seen_note (Open i n) s = after_that (seen_name n s) (λ x. found (Open i x))
  seen_note (Ask p i n) s = found (Ask p i (New n u)) s
  seen_note (SettledTo n y) s = after_that (seen_name n s) (λ x r. after_that (seen_passed y r) (λ z. found (SettledTo x z)))
  seen_note (Elsewhere n c) s = after_that (seen_name n s) (λ x. found (Elsewhere x c))
  seen_note (Shorten n c i) s = after_that (seen_name n s) (λ x. found (Shorten x v i))

-- Where v writes by tables t:
module _ (v u : ℕ) (t : Connection Name) where
  -- a name is of v, or has a number with it
  abbrev pub IsNumbered : Name → Type 0
  IsNumbered n = ((host_of n == v) ≡ true) ⊎ ((stands_in (sight v u) t.questions n ≡ true) ⊎ (stands_in (sight v u) t.imports n ≡ true))

  -- the key is read from its word under that provider
  abbrev pub IsRead : ℕ → ℕ → Type 0
  IsRead p i = key p (word_of i) ≡ i

  abbrev pub ValueFits : Value Name → Type 0
  ValueFits (Ref n) = IsNumbered n
  ValueFits (Items k) = ⊥
  ValueFits Null = Unit {0}
  ValueFits (Flag b) = Unit {0}
  ValueFits (Number z) = Unit {0}
  ValueFits (Letter c) = Unit {0}
  ValueFits (Text x) = Unit {0}
  ValueFits (Prim i) = Unit {0}
  ValueFits (Broken x) = Unit {0}

  abbrev mutual
    pub PassedFits : Passed Name → Type 0
    PassedFits (Plain y) = ValueFits y
    PassedFits (AGift h i) = IsRead v i
    PassedFits (Many ys) = AllFit ys

    pub AllFit : Passeds Name → Type 0
    AllFit NoMore = Unit {0}
    AllFit (More y ys) = PassedFits y × AllFit ys

  -- each name in a note has a number, each gift is of its provider, and no list stands there by its number in a heap
  abbrev pub NoteFits : Note Name → Type 0
  NoteFits (Deliver d n verb ys) = IsNumbered n × AllFit ys
  NoteFits (Open i n) = IsRead v i × IsNumbered n
  NoteFits (Ask p i n) = IsRead p i
  NoteFits (SettledTo n y) = IsNumbered n × PassedFits y
  NoteFits (Elsewhere n c) = IsNumbered n
  NoteFits (Shorten n c i) = IsRead u i × IsNumbered n

  -- what is new by a position is what v exported there, and the message and what is asked for are those of the note
  pub record Brings (F : Newcomers Name Name) (n : Note Name) : Type 0 where
    pub object : (p : ℕ) (m : Name) → slice_get (exported_note (sight v u) t.answers n t.exports) p ≡ Some m → F.object p ≡ m
    pub promise : (p k : ℕ) (m : Name) → slice_get (exported_note (sight v u) t.answers n t.exports) p ≡ Some m → F.promise p k ≡ m
    pub exported : (p : ℕ) (m : Name) → slice_get (exported_note (sight v u) t.answers n t.exports) p ≡ Some m → F.exported p ≡ m
    pub gift : (h i k : ℕ) → F.gift h i k ≡ Gift h i
    pub message : (d : Delivery Name) (m : Name) (verb : List ℕ) (ys : Passeds Name) → n ≡ Deliver d m verb ys → F.message ≡ d.message
    pub asked : (p i : ℕ) (m : Name) → n ≡ Ask p i m → F.asked (length t.questions) ≡ m

-- So the frame that v writes of a note is read by u, by its own tables d, as that note: where what v asked it for by then has arrived, and what v had of it by then is still what it has at those numbers.
-- And what v exported by then and with the note is what u has for its exports.
abbrev pub WhatIsWrittenIsRead : Type 0
WhatIsWrittenIsRead = (v u : ℕ) (t d : Connection Name) (n : Note Name) (s : Stage Name) (F : Newcomers Name Name)
    → s.imports ≡ t.exports → d.answers ≡ t.questions → IsFront t.imports d.exports → IsFront t.answers d.questions → NoteFits v u t n → Brings v u t F n
    → (note_heard is_object u v F d (frame_now (sight v u) n t) s ≡ Some (seen_note v u t.answers n s))
    × (let h : Heard Name (Note (Incoming Name Name)) = seen_note v u t.answers n s in h.after.imports ≡ exported_note (sight v u) t.answers n t.exports)
