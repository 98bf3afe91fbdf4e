-- Members of lists, and the states of the vats of a world with one of them changed.
use Rattle.std.proofs.Common.{◌≡◌, ℕ, ◌≤◌, ◌<◌, zero, suc, Bool, true, false, List, [], ◌∷◌, ◌++◌, Option, Some, None, refl, sym, ap, ◌⊎◌, inl, inr, length, ◌==◌, arith}
use Rattle.std.specs.Prelude.{slice_get}
use Rattle.std.proofs.lemmas.Bool.{eq-eqb}
use Rattle.def_machine.specs.Values.{Name, Promise, Answer, Gift, Sent, word_of}
use Rattle.def_machine.specs.State.{Known, Vat, drawn_at}
use Rattle.def_run.specs.World.{put_at}
use Rattle.law_fate.specs.Name.Names.{Bit, Named, Mail, Drew, Entered, Owns, Gave, AllOf, IsAmong, promises_of, messages_of, WasDrawn, WasMade, IsMessageMade, IsMade, names_in, IsPlain, PlainOnce}

pub among_more : {A : Type 0} (x : A) (xs : List A) (y : A) → IsAmong x xs → IsAmong x (xs ++ y ∷ [])
among_more x [] y h = absurd h
among_more x (z ∷ xs) y (inl e) = inl e
among_more x (z ∷ xs) y (inr h) = inr (among_more x xs y h)

pub among_last : {A : Type 0} (xs : List A) (y : A) → IsAmong y (xs ++ y ∷ [])
among_last [] y = inl refl
among_last (x ∷ xs) y = inr (among_last xs y)

pub among_or : {A : Type 0} (x : A) (xs : List A) (y : A) → IsAmong x (xs ++ y ∷ []) → IsAmong x xs ⊎ (x ≡ y)
among_or x [] y (inl e) = inr e
among_or x [] y (inr h) = absurd h
among_or x (z ∷ xs) y (inl e) = inl (inl e)
among_or x (z ∷ xs) y (inr h) = go (among_or x xs y h)
  where
    go : IsAmong x xs ⊎ (x ≡ y) → IsAmong x (z ∷ xs) ⊎ (x ≡ y)
    go (inl k) = inl (inr k)
    go (inr e) = inr e

pub among_is : {A : Type 0} (x y : A) (xs : List A) → x ≡ y → IsAmong y xs → IsAmong x xs
among_is x y xs e h = rw (sym e) at h

pub all_among : {A : Type 0} (P : A → Type 0) (xs : List A) (x : A) → AllOf P xs → IsAmong x xs → P x
all_among P [] x h i = absurd i
all_among P (y ∷ ys) x h (inl e) = rw (sym e) at h.0
all_among P (y ∷ ys) x h (inr i) = all_among P ys x h.1 i

pub names_end : (ks : List (Known Name)) (k : Known Name) → names_in (ks ++ k ∷ []) ≡ names_in ks ++ k.name ∷ []
names_end [] k = refl
names_end (j ∷ ks) k = ap (λ ns. j.name ∷ ns) (names_end ks k)

pub length_end : {A : Type 0} (xs : List A) (x : A) → length (xs ++ x ∷ []) ≡ suc (length xs)
length_end [] x = refl
length_end (y ∷ xs) x = ap suc (length_end xs x)

pub plain_end : (ns : List Name) (n : Name) → PlainOnce ns → (IsPlain n → IsAmong n ns → ⊥) → PlainOnce (ns ++ n ∷ [])
plain_end [] n h k = (λ p i. i, tt)
plain_end (m ∷ ns) n h k = (λ p i. new p (among_or m ns n i), plain_end ns n h.1 (λ p i. k p (inr i)))
  where
    new : IsPlain m → IsAmong m ns ⊎ (m ≡ n) → ⊥
    new p (inl i) = h.0 p i
    new p (inr e) = k (rw e at p) (inl (sym e))

-- ---- words

-- a key of the word that was drawn last
pub drawn_last : (ds : List ℕ) (w i : ℕ) → word_of i ≡ w → WasDrawn (ds ++ w ∷ []) i
drawn_last ds w i e = among_is (word_of i) w (ds ++ w ∷ []) e (among_last ds w)

-- a word that stands nowhere among those drawn is none of them
pub not_drawn : (k w : ℕ) (ds : List ℕ) → drawn_at k w ds ≡ None → IsAmong w ds → ⊥
unfolding drawn_at
not_drawn k w [] e a = a
not_drawn k w (x ∷ xs) e a = go (w == x) refl e (not_drawn (suc k) w xs) a
  where
    go : (b : Bool) → (w == x) ≡ b → ◌≡◌ {A = Option ℕ} (elim b [ true ↦ Some k | false ↦ drawn_at (suc k) w xs ]) None → (drawn_at (suc k) w xs ≡ None → IsAmong w xs → ⊥) → (w ≡ x) ⊎ IsAmong w xs → ⊥
    go true i f rest h = cc
    go false i f rest (inl j) = let g = eq-eqb w x j in cc
    go false i f rest (inr h) = rest f h

-- so no key of it was drawn
pub key_not_drawn : (ds : List ℕ) (w i : ℕ) → drawn_at zero w ds ≡ None → word_of i ≡ w → WasDrawn ds i → ⊥
key_not_drawn ds w i e f a = not_drawn zero w ds e (among_is w (word_of i) ds (sym f) a)

-- ---- the vats with one of them changed

pub get_put : (vats : List (Vat Name)) (v : ℕ) (q s : Vat Name) → slice_get vats v ≡ Some q → slice_get (put_at v s vats) v ≡ Some s
unfolding put_at
get_put [] v q s e = cc
get_put (x ∷ xs) zero q s e = refl
get_put (x ∷ xs) (suc v) q s e = get_put xs v q s e

pub promises_grow : (vats : List (Vat Name)) (v : ℕ) (s t : Vat Name) (w : ℕ) → s.promises ≤ t.promises → promises_of (put_at v s vats) w ≤ promises_of (put_at v t vats) w
unfolding put_at promises_of
promises_grow [] v s t w h = omega arith
promises_grow (x ∷ xs) zero s t zero h = h
promises_grow (x ∷ xs) zero s t (suc w) h = omega arith
promises_grow (x ∷ xs) (suc v) s t zero h = omega arith
promises_grow (x ∷ xs) (suc v) s t (suc w) h = promises_grow xs v s t w h

pub messages_grow : (vats : List (Vat Name)) (v : ℕ) (s t : Vat Name) (w : ℕ) → s.messages ≤ t.messages → messages_of (put_at v s vats) w ≤ messages_of (put_at v t vats) w
unfolding put_at messages_of
messages_grow [] v s t w h = omega arith
messages_grow (x ∷ xs) zero s t zero h = h
messages_grow (x ∷ xs) zero s t (suc w) h = omega arith
messages_grow (x ∷ xs) (suc v) s t zero h = omega arith
messages_grow (x ∷ xs) (suc v) s t (suc w) h = messages_grow xs v s t w h

pub promises_at : (vats : List (Vat Name)) (v : ℕ) (s : Vat Name) → slice_get vats v ≡ Some s → promises_of vats v ≡ s.promises
unfolding promises_of
promises_at vats v s e = rw (e, promises_of) refl

pub messages_at : (vats : List (Vat Name)) (v : ℕ) (s : Vat Name) → slice_get vats v ≡ Some s → messages_of vats v ≡ s.messages
unfolding messages_of
messages_at vats v s e = rw (e, messages_of) refl

less : (i a b : ℕ) → i < a → a ≤ b → i < b
less i a b h k = omega arith

-- what was made stays made
module _ (us vs : List (Vat Name)) (d e : List ℕ) (promises : (w : ℕ) → promises_of us w ≤ promises_of vs w) (messages : (w : ℕ) → messages_of us w ≤ messages_of vs w) (draws : (x : ℕ) → IsAmong x d → IsAmong x e) where
  pub made_up : (n : Name) → WasMade us d n → WasMade vs e n
  made_up (Promise w i) h = less i (promises_of us w) (promises_of vs w) h (promises w)
  made_up (Answer w m) h = less m.number (messages_of us m.sender) (messages_of vs m.sender) h (messages m.sender)
  made_up (Gift w i) h = draws (word_of i) h
  made_up (Sent m) h = absurd h
  made_up other h = tt

  mail_up : (n : Name) → IsMessageMade us n → IsMessageMade vs n
  mail_up (Sent m) h = less m.number (messages_of us m.sender) (messages_of vs m.sender) h (messages m.sender)
  mail_up other h = absurd h

  pub is_made_up : (b : Bit Name) → IsMade us d b → IsMade vs e b
  is_made_up (Named n) h = made_up n h
  is_made_up (Mail n) h = mail_up n h
  is_made_up (Drew i) h = draws (word_of i) h
  is_made_up (Entered n) h = made_up n h
  is_made_up (Owns n i) h = made_up n h
  is_made_up (Gave i) h = draws (word_of i) h
  is_made_up other h = tt
