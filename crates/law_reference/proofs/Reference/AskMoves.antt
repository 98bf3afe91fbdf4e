-- What each move of a world keeps of gifts that vats know: those of others follow the asking, and one's own stand.
use Rattle.std.proofs.Common.{◌≡◌, ℕ, true, List, ◌∷◌, Option, Some, None, refl, sym, ap, ◌∙◌, ◌⊎◌, inl, inr, subst}
use Rattle.std.specs.Prelude.{slice_get}
use Rattle.def_machine.specs.Values.{Name, Gift}
use Rattle.def_machine.specs.State.{Note, Vat, is_in}
use Rattle.def_run.specs.World.{Link, put_at, push_all, pushed, with_link, with_notes, severed_link, link_at}
use Rattle.law_fate.specs.Name.Names.{IsAmong, names_in}
use Rattle.law_fate.proofs.Name.Among.{get_put}
use Rattle.law_reference.proofs.Reference.LinksCut.{fits_notes, fits_severed}
use Rattle.law_reference.proofs.Reference.First.{among_dec}
use Rattle.law_reference.proofs.Reference.Unnamed.{all_not}
use Rattle.law_reference.proofs.Reference.AnswerLinks.{AtLink, push_keeps, push_others, with_any}
use Rattle.law_reference.proofs.Reference.Follow.{put_cases, NotesKnown}
use Rattle.law_reference.proofs.Reference.FollowRuns.{same_link}
use Rattle.law_reference.specs.Reference.Standing.{IsEntered}
use Rattle.law_reference.specs.Reference.ApartAsking.{AsksFor, AskedFirst}
use Rattle.law_reference.proofs.Reference.AskCare.{PutsFirst}
use Rattle.law_reference.proofs.Reference.AskLinks.{CutOrAsked, pushed_asked, push_asked}

-- each gift of its own that a vat knows stands there
abbrev pub Owned : List (Vat Name) → Type 0
Owned vs = (v i : ℕ) (s : Vat Name) → slice_get vs v ≡ Some s → IsAmong (Gift v i) (names_in s.known) → IsEntered i s.gifts

-- It stands there; or the link is cut, or it is asked for in front; or its host is noticed.
abbrev pub Followed : ℕ → ℕ → Vat Name → Vat Name → Link → Type 0
Followed g i s r l = IsEntered i r.gifts ⊎ (CutOrAsked i (Gift g i) l ⊎ (is_in g s.noticed ≡ true))

abbrev pub Follow : List (Vat Name) → List Link → Type 0
Follow vs ls = (u g i : ℕ) (s r : Vat Name) → slice_get vs u ≡ Some s → slice_get vs g ≡ Some r → IsAmong (Gift g i) (names_in s.known) → AtLink u g (Followed g i s r) ls

some_same : (s t : Vat Name) → ◌≡◌ {A = Option (Vat Name)} (Some s) (Some t) → s ≡ t
some_same s t e = cc

-- ---- one vat of a world goes on

module _ (vs : List (Vat Name)) (v : ℕ) (s t : Vat Name) (there : slice_get vs v ≡ Some s) (stay : (i : ℕ) → IsEntered i s.gifts → IsEntered i t.gifts) (noticed : (g : ℕ) → is_in g s.noticed ≡ true → is_in g t.noticed ≡ true) (ls : List Link)
    (known : NotesKnown vs ls) (owned : Owned vs) (follow : (u g i : ℕ) (r q : Vat Name) → slice_get vs u ≡ Some r → slice_get (put_at v t vs) g ≡ Some q → IsAmong (Gift g i) (names_in r.known) → AtLink u g (Followed g i r q) ls)
    (first : (g i : ℕ) (q : Vat Name) → slice_get (put_at v t vs) g ≡ Some q → IsAmong (Gift g i) (names_in t.known) → (IsAmong (Gift g i) (names_in s.known) ⊎ IsEntered i q.gifts) ⊎ ((g ≡ v → ⊥) × (PutsFirst g i t.outbox ⊎ (is_in g t.noticed ≡ true)))) where
  own_next : (i : ℕ) → IsAmong (Gift v i) (names_in t.known) → IsEntered i t.gifts
  own_next i a = either (first v i t (get_put vs v s t there) a)
    where
      either : (IsAmong (Gift v i) (names_in s.known) ⊎ IsEntered i t.gifts) ⊎ ((v ≡ v → ⊥) × (PutsFirst v i t.outbox ⊎ (is_in v t.noticed ≡ true))) → IsEntered i t.gifts
      either (inl (inl k)) = stay i (owned v i s there k)
      either (inl (inr h)) = h
      either (inr h) = absurd (h.0 refl)

  pub goes_owned : Owned (put_at v t vs)
  goes_owned u i r e a = either (put_cases v t vs u r e)
    where
      either : ((u ≡ v) × (t ≡ r)) ⊎ ((u ≡ v → ⊥) × (slice_get vs u ≡ Some r)) → IsEntered i r.gifts
      either (inl h) = subst (λ (z : Vat Name). IsEntered i z.gifts) h.1 (own_next i (subst (λ z. IsAmong (Gift z i) (names_in t.known)) h.0 (subst (λ (z : Vat Name). IsAmong (Gift u i) (names_in z.known)) (sym h.1) a)))
      either (inr h) = owned u i r h.1 a

  module _ (g i : ℕ) (q : Vat Name) (at : slice_get (put_at v t vs) g ≡ Some q) where
    more_followed : (l : Link) (n : Note Name) → Followed g i t q l → Followed g i t q (pushed n l)
    more_followed l n (inl a) = inl a
    more_followed l n (inr (inl h)) = inr (inl (pushed_asked i (Gift g i) l n h))
    more_followed l n (inr (inr e)) = inr (inr e)

    later : (l : Link) → Followed g i s q l → Followed g i t q l
    later l (inl a) = inl a
    later l (inr (inl h)) = inr (inl h)
    later l (inr (inr e)) = inr (inr (noticed g e))

    old_followed : IsAmong (Gift g i) (names_in s.known) → AtLink v g (Followed g i t q) (push_all v t.outbox ls)
    old_followed a = push_keeps v g v (Followed g i t q) more_followed t.outbox ls (λ l e. later l (follow v g i s q there at a l e))

    new_followed : PutsFirst g i t.outbox → IsAmong (Gift g i) (names_in s.known) ⊎ (IsAmong (Gift g i) (names_in s.known) → ⊥) → AtLink v g (Followed g i t q) (push_all v t.outbox ls)
    new_followed p (inl a) = old_followed a
    new_followed p (inr f) = λ l e. inr (inl (push_asked i (Gift g i) g v t.outbox ls p (λ k j. all_not (Gift g i) s f k.notes (known v g s there k j)) l e))

    by_first : (IsAmong (Gift g i) (names_in s.known) ⊎ IsEntered i q.gifts) ⊎ ((g ≡ v → ⊥) × (PutsFirst g i t.outbox ⊎ (is_in g t.noticed ≡ true))) → AtLink v g (Followed g i t q) (push_all v t.outbox ls)
    by_first (inl (inl a)) = old_followed a
    by_first (inl (inr h)) = λ l e. inl h
    by_first (inr (f, inl p)) = new_followed p (among_dec (Gift g i) (names_in s.known))
    by_first (inr (f, inr e)) = λ l j. inr (inr e)

  pub goes_follow : Follow (put_at v t vs) (push_all v t.outbox ls)
  goes_follow u g i r q e at a = either (put_cases v t vs u r e)
    where
      either : ((u ≡ v) × (t ≡ r)) ⊎ ((u ≡ v → ⊥) × (slice_get vs u ≡ Some r)) → AtLink u g (Followed g i r q) (push_all v t.outbox ls)
      either (inl h) = let a1 : IsAmong (Gift g i) (names_in t.known) = rw (sym h.1) at a in subst (λ (z : Vat Name). AtLink u g (Followed g i z q) (push_all v t.outbox ls)) h.1 (subst (λ z. AtLink z g (Followed g i t q) (push_all v t.outbox ls)) (sym h.0) (by_first g i q at (first g i q at a1)))
      either (inr h) = push_others u g v (Followed g i r q) t.outbox ls h.0 (follow u g i r q h.1 at a)

-- ---- cuts, and notes that are taken

pub cut_follow : (vs : List (Vat Name)) (ls : List Link) (c d : ℕ) → Follow vs ls → Follow vs (with_link severed_link c d ls)
unfolding severed_link
cut_follow vs ls c d h u g i s r e f a = with_any u g c d (Followed g i s r) severed_link (fits_severed u g) ls (λ l j k m. inr (inl (inl refl))) (λ l j k. h u g i s r e f a l j)

-- where one vat goes on, alone
pub stepped_follow : (vs : List (Vat Name)) (ls : List Link) (v : ℕ) (s t : Vat Name) → slice_get vs v ≡ Some s → ((i : ℕ) → IsEntered i s.gifts → IsEntered i t.gifts) → Follow vs ls
    → (u g i : ℕ) (r q : Vat Name) → slice_get vs u ≡ Some r → slice_get (put_at v t vs) g ≡ Some q → IsAmong (Gift g i) (names_in r.known) → AtLink u g (Followed g i r q) ls
stepped_follow vs ls v s t there stay h u g i r q e f k = either (put_cases v t vs g q f)
  where
    grown : t ≡ q → (j : Link) → Followed g i r s j → Followed g i r q j
    grown x j (inl a) = inl (rw x at (stay i a))
    grown x j (inr a) = inr a

    either : ((g ≡ v) × (t ≡ q)) ⊎ ((g ≡ v → ⊥) × (slice_get vs g ≡ Some q)) → AtLink u g (Followed g i r q) ls
    either (inl x) = λ j l. grown x.1 j (h u g i r s e (ap (λ z. slice_get vs z) x.0 ∙ there) k j l)
    either (inr x) = h u g i r q e x.1 k

module _ (vs : List (Vat Name)) (ls : List Link) (a v : ℕ) (n : Note Name) (ns : List (Note Name)) (l : Link) (at : link_at a v ls ≡ Some l) (notes : l.notes ≡ n ∷ ns) where
  -- where there is no such vat
  pub none_follow : slice_get vs v ≡ None → Follow vs ls → Follow vs (with_link (with_notes ns) a v ls)
  unfolding with_notes
  none_follow none h u g i s r e f k = with_any u g a v (Followed g i s r) (with_notes ns) (fits_notes u g ns) ls (λ j m x y. absurd (no_vat (sym none ∙ sym (ap (λ z. slice_get vs z) y) ∙ f))) (λ j m x. h u g i s r e f k j m)
    where
      no_vat : {r : Vat Name} → ◌≡◌ {A = Option (Vat Name)} None (Some r) → ⊥
      no_vat e = cc

  module _ (s t : Vat Name) (there : slice_get vs v ≡ Some s) (stay : (i : ℕ) → IsEntered i s.gifts → IsEntered i t.gifts) (asks : (i : ℕ) → AsksFor i n → IsEntered i t.gifts) (h : Follow vs ls) where
    -- the note arrives: it did not ask for the gift, or the gift stands now
    front : (g i : ℕ) (r q : Vat Name) (k : Link) → g ≡ v → t ≡ q → k ≡ l → Followed g i r q k → Followed g i r q (with_notes ns k)
    unfolding with_notes
    front g i r q k x y z (inl b) = inl b
    front g i r q k x y z (inr (inr e)) = inr (inr e)
    front g i r q k x y z (inr (inl (inl c))) = inr (inl (inl c))
    front g i r q k x y z (inr (inl (inr b))) = let one : AskedFirst i (Gift g i) l.notes = rw z at b in let two : AskedFirst i (Gift g i) (n ∷ ns) = rw notes at one in by_note two
      where
        by_note : AskedFirst i (Gift g i) (n ∷ ns) → Followed g i r q (record k { notes = ns })
        by_note (inl c) = inl (rw y at (asks i c))
        by_note (inr c) = inr (inl (inr c.1))

    pub taken_follow : (u g i : ℕ) (r q : Vat Name) → slice_get vs u ≡ Some r → slice_get (put_at v t vs) g ≡ Some q → IsAmong (Gift g i) (names_in r.known) → AtLink u g (Followed g i r q) (with_link (with_notes ns) a v ls)
    taken_follow u g i r q e f k = let old = stepped_follow vs ls v s t there stay h u g i r q e f k in with_any u g a v (Followed g i r q) (with_notes ns) (fits_notes u g ns) ls
        (λ j m x y. front g i r q j y (some_same t q (sym (get_put vs v s t there) ∙ sym (ap (λ z. slice_get (put_at v t vs) z) y) ∙ f)) (same_link u g a v ls j l m at x y) (old j m))
        (λ j m x. old j m)
