-- What each move of a world keeps of notes and answers: a note names what its sender knows, and an answer follows its message.
use Rattle.std.proofs.Common.{◌≡◌, ℕ, zero, suc, Bool, true, false, List, [], ◌∷◌, Option, Some, refl, sym, ap, ◌∙◌, ◌⊎◌, inl, inr, ◌==◌, arith, subst}
use Rattle.std.specs.Prelude.{slice_get}
use Rattle.std.proofs.lemmas.Bool.{eqb-true, eq-eqb}
use Rattle.def_machine.specs.Values.{Name, Root, Object, Promise, Answer, Gift, Sent, Msg}
use Rattle.def_machine.specs.State.{Note, Put, Vat}
use Rattle.def_run.specs.World.{Link, put_at, push_all, pushed}
use Rattle.law_fate.specs.Name.Names.{Bit, Named, AllOf, IsAmong, IsKnownIn, NoteOk, names_in}
use Rattle.law_fate.proofs.Name.Facts.{all_map, note_up}
use Rattle.law_fate.proofs.Name.Among.{get_put}
use Rattle.law_reference.specs.Reference.Behind.{IsKnownTo as KnowsIn}
use Rattle.law_reference.proofs.Reference.First.{PutsFirst, among_dec}
use Rattle.law_reference.proofs.Reference.Unnamed.{all_not}
use Rattle.law_reference.proofs.Reference.AnswerLinks.{AtLink, push_keeps, push_others, push_of, pushed_all, CutOrFirst, pushed_more, push_first}

true_false : true ≡ false → ⊥
true_false e = cc

-- ---- one vat of a world goes on

pub put_cases : (v : ℕ) (y : Vat Name) (xs : List (Vat Name)) (u : ℕ) (t : Vat Name) → slice_get (put_at v y xs) u ≡ Some t → ((u ≡ v) × (y ≡ t)) ⊎ ((u ≡ v → ⊥) × (slice_get xs u ≡ Some t))
unfolding put_at
put_cases v y [] u t e = cc
put_cases zero y (x ∷ xs) zero t e = let same : y ≡ t = cc in inl (refl, same)
put_cases zero y (x ∷ xs) (suc u) t e = inr ((λ i. absurd (omega arith)), e)
put_cases (suc v) y (x ∷ xs) zero t e = inr ((λ i. absurd (omega arith)), e)
put_cases (suc v) y (x ∷ xs) (suc u) t e = go (put_cases v y xs u t e)
  where
    go : ((u ≡ v) × (y ≡ t)) ⊎ ((u ≡ v → ⊥) × (slice_get xs u ≡ Some t)) → ((suc u ≡ suc v) × (y ≡ t)) ⊎ ((suc u ≡ suc v → ⊥) × (slice_get (x ∷ xs) (suc u) ≡ Some t))
    go (inl h) = inl (ap suc h.0, h.1)
    go (inr h) = inr ((λ i. h.0 (omega arith)), h.1)

pub eq_dec : (a b : ℕ) → (a ≡ b) ⊎ (a ≡ b → ⊥)
eq_dec a b = either (a == b) refl
  where
    either : (c : Bool) → (a == b) ≡ c → (a ≡ b) ⊎ (a ≡ b → ⊥)
    either true e = inl (eqb-true a b e)
    either false e = inr (λ i. true_false (sym (eq-eqb a b i) ∙ e))

abbrev pub AllKnown : Vat Name → Link → Type 0
AllKnown s l = AllOf (NoteOk (KnowsIn s)) l.notes

-- each name in a note under way is known to the vat that put it
abbrev pub NotesKnown : List (Vat Name) → List Link → Type 0
NotesKnown vs ls = (a b : ℕ) (s : Vat Name) → slice_get vs a ≡ Some s → AtLink a b (AllKnown s) ls

-- it is known there, or the link is cut, or the message is in front
abbrev pub Followed : ℕ → Msg → Vat Name → Link → Type 0
Followed g m r l = IsAmong (Answer g m) (names_in r.known) ⊎ CutOrFirst m (Answer g m) l

abbrev pub Follow : List (Vat Name) → List Link → Type 0
Follow vs ls = (u g : ℕ) (m : Msg) (s r : Vat Name) → slice_get vs u ≡ Some s → slice_get vs g ≡ Some r → IsAmong (Answer g m) (names_in s.known) → AtLink u g (Followed g m r) ls

known_grows : (s t : Vat Name) → ((n : Name) → IsAmong n (names_in s.known) → IsAmong n (names_in t.known)) → (n : Name) → IsKnownIn (names_in s.known) n → IsKnownIn (names_in t.known) n
known_grows s t f (Object w i) h = tt
known_grows s t f (Root w) h = f (Root w) h
known_grows s t f (Promise w i) h = f (Promise w i) h
known_grows s t f (Answer w n) h = f (Answer w n) h
known_grows s t f (Gift w i) h = f (Gift w i) h
known_grows s t f (Sent n) h = f (Sent n) h

pub knows_up : (s t : Vat Name) → ((n : Name) → IsAmong n (names_in s.known) → IsAmong n (names_in t.known)) → (b : Bit Name) → KnowsIn s b → KnowsIn t b
knows_up s t f (Named n) h = known_grows s t f n h
knows_up s t f other h = tt

some_same : (s t : Vat Name) → ◌≡◌ {A = Option (Vat Name)} (Some s) (Some t) → s ≡ t
some_same s t e = cc

module _ (vs : List (Vat Name)) (v : ℕ) (s t : Vat Name) (there : slice_get vs v ≡ Some s) (grows : (n : Name) → IsAmong n (names_in s.known) → IsAmong n (names_in t.known)) (outs : AllOf (λ (p : Put Name). NoteOk (KnowsIn t) p.note) t.outbox) (ls : List Link)
    (known : NotesKnown vs ls) (follow : (u g : ℕ) (m : Msg) (r q : Vat Name) → slice_get vs u ≡ Some r → slice_get (put_at v t vs) g ≡ Some q → IsAmong (Answer g m) (names_in r.known) → AtLink u g (Followed g m q) ls)
    (first : (g : ℕ) (m : Msg) (q : Vat Name) → (g ≡ v → ⊥) → slice_get (put_at v t vs) g ≡ Some q → IsAmong (Answer g m) (names_in t.known) → (IsAmong (Answer g m) (names_in s.known) ⊎ PutsFirst g m t.outbox) ⊎ IsAmong (Answer g m) (names_in q.known)) where
  mine_known : (b : ℕ) → AtLink v b (AllKnown t) (push_all v t.outbox ls)
  mine_known b = push_of v b v (AllKnown t) (NoteOk (KnowsIn t)) (λ l n r h. pushed_all (NoteOk (KnowsIn t)) l n r h) t.outbox ls outs
      (λ l e. all_map (λ n k. note_up (KnowsIn s) (KnowsIn t) (knows_up s t grows) n k) l.notes (known v b s there l e))

  pub goes_known : NotesKnown (put_at v t vs) (push_all v t.outbox ls)
  goes_known a b r e = either (put_cases v t vs a r e)
    where
      either : ((a ≡ v) × (t ≡ r)) ⊎ ((a ≡ v → ⊥) × (slice_get vs a ≡ Some r)) → AtLink a b (AllKnown r) (push_all v t.outbox ls)
      either (inl h) = subst (λ z. AtLink a b (AllKnown z) (push_all v t.outbox ls)) h.1 (subst (λ z. AtLink z b (AllKnown t) (push_all v t.outbox ls)) (sym h.0) (mine_known b))
      either (inr h) = push_others a b v (AllKnown r) t.outbox ls h.0 (known a b r h.1)

  module _ (g : ℕ) (m : Msg) (q : Vat Name) (at : slice_get (put_at v t vs) g ≡ Some q) where
    abbrev It : Name
    It = Answer g m

    more_followed : (l : Link) (n : Note Name) → Followed g m q l → Followed g m q (pushed n l)
    more_followed l n (inl a) = inl a
    more_followed l n (inr h) = inr (pushed_more m It l n h)

    old_followed : IsAmong It (names_in s.known) → AtLink v g (Followed g m q) (push_all v t.outbox ls)
    old_followed a = push_keeps v g v (Followed g m q) more_followed t.outbox ls (follow v g m s q there at a)

    new_followed : PutsFirst g m t.outbox → IsAmong It (names_in s.known) ⊎ (IsAmong It (names_in s.known) → ⊥) → AtLink v g (Followed g m q) (push_all v t.outbox ls)
    new_followed p (inl a) = old_followed a
    new_followed p (inr f) = λ l e. inr (push_first m (Answer g m) g v t.outbox ls p (λ k i. all_not (Answer g m) s f k.notes (known v g s there k i)) l e)

    by_first : (IsAmong It (names_in s.known) ⊎ PutsFirst g m t.outbox) ⊎ IsAmong It (names_in q.known) → AtLink v g (Followed g m q) (push_all v t.outbox ls)
    by_first (inl (inl a)) = old_followed a
    by_first (inl (inr p)) = new_followed p (among_dec It (names_in s.known))
    by_first (inr a) = λ l e. inl a

    mine_followed : IsAmong It (names_in t.known) → (g ≡ v) ⊎ (g ≡ v → ⊥) → AtLink v g (Followed g m q) (push_all v t.outbox ls)
    mine_followed a (inl e) = λ l i. let same : t ≡ q = some_same t q (sym (get_put vs v s t there) ∙ sym (ap (λ u. slice_get (put_at v t vs) u) e) ∙ at) in inl (rw same at a)
    mine_followed a (inr f) = by_first (first g m q f at a)

  pub goes_follow : Follow (put_at v t vs) (push_all v t.outbox ls)
  goes_follow u g m r q e at a = either (put_cases v t vs u r e)
    where
      either : ((u ≡ v) × (t ≡ r)) ⊎ ((u ≡ v → ⊥) × (slice_get vs u ≡ Some r)) → AtLink u g (Followed g m q) (push_all v t.outbox ls)
      either (inl h) = let a1 : IsAmong (Answer g m) (names_in t.known) = rw (sym h.1) at a in subst (λ z. AtLink z g (Followed g m q) (push_all v t.outbox ls)) (sym h.0) (mine_followed g m q at a1 (eq_dec g v))
      either (inr h) = push_others u g v (Followed g m q) t.outbox ls h.0 (follow u g m r q h.1 at a)
