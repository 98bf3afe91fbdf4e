-- In every world of a run the first note on a link brings each gift once at most and none that is claimed, where its gifts stand apart.
use Rattle.std.proofs.Common.{◌≡◌, ℕ, zero, suc, ◌+◌, ◌≤◌, Bool, true, false, List, [], ◌∷◌, Option, Some, None, refl, sym, ap, ◌∙◌, inl, inr, subst, arith}
use Rattle.std.specs.Prelude.{slice_get}
use Rattle.def_machine.specs.Values.{Name, Answer, Gift, Sent, Msg, same_name, host_of, answer_of, word_of}
use Rattle.def_machine.specs.State.{Passed, Passeds, Delivery, Note, Deliver, Open, Ask, SettledTo, Elsewhere, Shorten, GiftEntry, Vat, is_in}
use Rattle.def_machine.specs.Arrive.{New, gift_at}
use Rattle.def_run.specs.World as world
use Rattle.def_run.specs.World.{Link, World, link_at, has_name, read_name, known_after, read_passed, read_all, read_note, names_of}
use Rattle.law_fate.specs.Fates.Fate as fate
use Rattle.law_fate.specs.Fates.Lasting.{Each, KnownWell}
use Rattle.law_fate.specs.Fates.Wellness.{WorldWell}
use Rattle.law_fate.proofs.Fates.RunWell.{runs_stay_well}
use Rattle.law_reference.proofs.Reference.Puts.{among_in}
use Rattle.law_fate.specs.Name.Names.{Named, AllOf, IsAmong, WasDrawn, IsMade, IsMessageMade, NoteOk, names_in}
use Rattle.law_fate.proofs.Name.Facts.{MayBe}
use Rattle.law_fate.proofs.Name.Run.{link_holds}
use Rattle.law_fate.proofs.Name.SameNames.{same_is, same_self}
use Rattle.law_fate.proofs.Name.Laws.{notes_made}
use Rattle.law_reference.specs.Reference.Knowing.{once, one, claims, numbered, new_name, new_in, new_in_all, new_answer, new_gift_here, brings}
use Rattle.law_reference.specs.Reference.NameTableRuns.{other, allowed, is_own, answer_here, brings_here}
use Rattle.law_reference.specs.Reference.GiftPassing.{gifts_in, gifts_in_all, gifts_in_note, gifts_in_notes, gifts_on, drawn_of, IsProvidedBy, Provides, IsProvided}
use Rattle.law_reference.specs.Reference.News.{Passes, Names, GiftsApart, GiftsApartComeNew}
use Rattle.law_reference.specs.Reference.Standing.{IsEntered}
use Rattle.law_reference.proofs.Reference.GiftLinks.{found_tells}
use Rattle.law_reference.proofs.Reference.Reading.{seen, most_is, sum_or, either_is, full_is, one_other, name_reads, passed_reads, all_reads, name_unnamed, passed_unnamed, all_unnamed, passing, passing_all, passes_there, all_there, passing_draws, passing_all_draws, name_brought, named_made, passed_made, all_made, claims_seen, unclaimed, onward_sent}
use Rattle.law_reference.proofs.Reference.Found.{entered_found}
use Rattle.law_reference.proofs.Reference.GiftLaws.{Holds, reached_is, fits_opened, fits_stepped}

-- ---- sums

finish : (C B A : ℕ) → C ≤ A → A ≤ 1 → B + C ≤ 1 → (1 ≤ B → A ≡ 1) → C + B ≤ A
finish C zero A h k l f = omega arith
finish C (suc b) A h k l f = let e = f (omega arith) in omega arith

-- what is brought, claimed, seen before and after, and passes
core : (T C S S' a : ℕ) → T + S ≤ a + S' → S' ≤ 1 → C ≤ S → a ≤ 1 → (1 ≤ a → (C ≡ 0) × (T ≤ a)) → T + C ≤ 1
core T C S S' zero h k l m f = omega arith
core T C S S' (suc a) h k l m f = let r = f (omega arith) in let e = r.0 in let g = r.1 in omega arith

no_one : 1 ≤ 0 → ⊥
no_one l = omega arith

at_most : (B T C : ℕ) (Q : Type 0) → B ≤ T → T + C ≤ 1 → (1 ≤ T → Q) → (B + C ≤ 1) × (1 ≤ B → Q)
at_most B T C Q h k f = (omega arith, λ l. f (omega arith))

deliver_or : (b : Bool) (p q m n : ℕ) → p ≡ 0 → q ≡ 0 → elim b [ true ↦ p + m | false ↦ q + m + n ] ≤ m + n
deliver_or true p q m n e f = omega arith
deliver_or false p q m n e f = omega arith

-- a message brings no gift
sent_is : (vats : List (Vat Name)) (m : Name) → IsMessageMade vats m → (x : Msg) × (m ≡ Sent x)
sent_is vats (Sent x) h = (x, refl)
sent_is vats other h = absurd h

here_none : (v h i : ℕ) (m : Msg) → answer_here v (Gift h i) (New (Sent m) (host_of (Sent m))) ≡ 0
unfolding answer_here answer_of one same_name once
here_none v h i m = refl

answer_none : (v h i : ℕ) (m : Msg) → new_answer v (Gift h i) (New (Sent m) (host_of (Sent m))) ≡ 0
unfolding new_answer answer_of
answer_none v h i m = let a = onward_sent h i v m in let b = one_other h i (Answer v m) (λ e. no_gift v m h i e) in omega arith
  where
    no_gift : (v : ℕ) (m : Msg) (h i : ℕ) → Answer v m ≡ Gift h i → ⊥
    no_gift v m h i e = cc

same_draw : (v j h i : ℕ) → Gift v j ≡ Gift h i → j ≡ i
same_draw v j h i e = cc

drawn_most : (b : Bool) → fate.once b ≤ 1
unfolding fate.once
drawn_most true = omega arith
drawn_most false = omega arith

under_drawn : (i : ℕ) (d : List ℕ) → drawn_of i d ≤ 1
unfolding drawn_of
under_drawn i d = drawn_most (is_in (word_of i) d)

-- the gifts on a link are among those under way
found_or : (i : ℕ) (b : Bool) (l k : Link) (o : Option Link) (ls : List Link) → (o ≡ Some k → gifts_in_notes i k.notes ≤ gifts_on (λ j. j.notes) i ls) → elim b [ true ↦ Some l | false ↦ o ] ≡ Some k → gifts_in_notes i k.notes ≤ gifts_on (λ j. j.notes) i (l ∷ ls)
unfolding gifts_on
found_or i true l k o ls f e = let same : l ≡ k = cc in let a : gifts_in_notes i l.notes ≡ gifts_in_notes i k.notes = ap (λ (j : Link). gifts_in_notes i j.notes) same in omega arith
found_or i false l k o ls f e = let a = f e in omega arith

found_gifts : (i v w : ℕ) (k : Link) (ls : List Link) → link_at v w ls ≡ Some k → gifts_in_notes i k.notes ≤ gifts_on (λ j. j.notes) i ls
unfolding link_at
found_gifts i v w k [] e = cc
found_gifts i v w k (l ∷ ls) e = found_or i (world.is_link v w l) l k (link_at v w ls) ls (λ f. found_gifts i v w k ls f) e

first_gifts : (i : ℕ) (n : Note Name) (ns ms : List (Note Name)) → ms ≡ n ∷ ns → gifts_in_note i n ≤ gifts_in_notes i ms
unfolding gifts_in_notes
first_gifts i n ns ms e = rw (e, gifts_in_notes) (omega arith)

module _ (vats : List (Vat Name)) (d : List ℕ) (P : ℕ → ℕ) (from to : ℕ) (s : Vat Name) (well : Each KnownWell s.known) (provided : Each (IsProvided P d) s.gifts) (h i : ℕ) (few : claims to (Gift h i) s.known ≤ 1) where
  abbrev C : ℕ
  C = claims to (Gift h i) s.known

  abbrev Ks : List Name
  Ks = names_in s.known

  abbrev Brings : Note Name → ℕ
  Brings n = brings_here to (Gift h i) from s.gifts (read_note (names_of s) n)

  abbrev Fine : ℕ → Type 0
  Fine b = (b + C ≤ 1) × (1 ≤ b → WasDrawn d i)

  abbrev Mades : Note Name → Type 0
  Mades n = NoteOk (IsMade vats d) n

  claimed : C ≤ seen h i Ks
  claimed = claims_seen h i to s.known well few

  -- where a gift passes
  apart_from : (n : Note Name) (T a : ℕ) → GiftsApart to n s → (1 ≤ a → Passes (Gift h i) n) → ((Names (Gift h i) n → ⊥) → T ≤ a) → 1 ≤ a → (C ≡ 0) × (T ≤ a)
  apart_from n T a g p f l = (unclaimed h i to s.known well (g.unknown h i (p l)), f (g.unnamed h i (p l)))

  zero_fine : (b : ℕ) → Fine (0 + b) → Fine b
  zero_fine b f = (let a = f.0 in omega arith, λ l. f.1 (omega arith))

  -- a name alone
  name_alone : (nn : Name) → new_name (Gift h i) (read_name Ks nn) + C ≤ 1
  name_alone nn = core (new_name (Gift h i) (read_name Ks nn)) C (seen h i Ks) (seen h i (known_after Ks nn)) 0 (let a = name_reads h i Ks nn in omega arith) (most_is (has_name (known_after Ks nn) (Gift h i))) claimed (omega arith) (λ l. absurd (no_one l))

  name_low : (nn : Name) → IsMade vats d (Named nn) → 1 ≤ new_name (Gift h i) (read_name Ks nn) → WasDrawn d i
  name_low nn m l = named_made h i vats d nn (name_brought h i Ks nn l) m

  -- a gift that this vat hosts, of that provider and draw
  module _ (n : Note Name) (p j : ℕ) (own : IsProvidedBy P d j p) (g : GiftsApart to n s) where
    absent : gift_at p j s.gifts ≡ None → IsEntered j s.gifts → ⊥
    absent e a = entered_found P d p j s.gifts provided a own.1 e

    gift_or : (T : ℕ) → T + C ≤ 1 → (1 ≤ T → WasDrawn d i) → ((Names (Gift h i) n → ⊥) → T ≡ 0) → (b : Bool) → same_name (Gift to j) (Gift h i) ≡ b → gift_at p j s.gifts ≡ None → Fine (T + one (Gift to j) (Gift h i))
    unfolding one
    gift_or T t f u false e a = let none : once (same_name (Gift to j) (Gift h i)) ≡ 0 = one_other h i (Gift to j) (λ k. no_same (same_name (Gift to j) (Gift h i)) e (same_yes k)) in at_most (T + once (same_name (Gift to j) (Gift h i))) T C (WasDrawn d i) (omega arith) t f
      where
        no_same : (b : Bool) → b ≡ false → b ≡ true → ⊥
        no_same b e f = cc

        same_yes : Gift to j ≡ Gift h i → same_name (Gift to j) (Gift h i) ≡ true
        same_yes k = subst (λ z. same_name (Gift to j) z ≡ true) k (same_self (Gift to j))
    gift_or T t f u true e a = let same : Gift to j ≡ Gift h i = same_is (Gift to j) (Gift h i) e in
        let c : C ≡ 0 = unclaimed h i to s.known well (λ k. absent a (g.entered j (subst (λ z. IsAmong z (names_in s.known)) (sym same) k))) in
        let none : T ≡ 0 = u (λ k. absent a (g.behind j (subst (λ z. Names z n) (sym same) k))) in
        let most = most_is (same_name (Gift to j) (Gift h i)) in let k : j ≡ i = same_draw to j h i same in let l : WasDrawn d j = own.0 in (omega arith, λ x. subst (WasDrawn d) k l)

    gift_there : (T : ℕ) → T + C ≤ 1 → (1 ≤ T → WasDrawn d i) → ((Names (Gift h i) n → ⊥) → T ≡ 0) → (o : Option (GiftEntry Name)) → gift_at p j s.gifts ≡ o → Fine (T + new_gift_here to (Gift h i) j o)
    unfolding new_gift_here
    gift_there T t f u (Some x) e = at_most (T + 0) T C (WasDrawn d i) (omega arith) t f
    gift_there T t f u None e = gift_or T t f u (same_name (Gift to j) (Gift h i)) refl e

  -- how often it is new in the arguments of a message and as its target, and in what a name settled to
  abbrev InArgs : Passeds Name → ℕ
  InArgs ys = new_in_all (Gift h i) (read_all ys Ks).read

  abbrev AsTarget : Passeds Name → Name → ℕ
  AsTarget ys nn = new_name (Gift h i) (read_name (read_all ys Ks).known nn)

  abbrev InValue : Name → Passed Name → ℕ
  InValue nn y = new_in (Gift h i) (read_passed y (known_after Ks nn)).read

  args_fit : (m : Delivery Name) (nn : Name) (verb : List ℕ) (ys : Passeds Name) → gifts_in_all i ys ≤ 1 → GiftsApart to (Deliver m nn verb ys) s → InArgs ys + AsTarget ys nn + C ≤ 1
  args_fit m nn verb ys few' g = core (InArgs ys + AsTarget ys nn) C (seen h i Ks) (seen h i (known_after (read_all ys Ks).known nn)) (passing_all (Gift h i) ys)
      (let a = all_reads h i ys Ks in let b = name_reads h i (read_all ys Ks).known nn in omega arith) (most_is (has_name (known_after (read_all ys Ks).known nn) (Gift h i))) claimed (let a = passing_all_draws h i ys in omega arith)
      (apart_from (Deliver m nn verb ys) (InArgs ys + AsTarget ys nn) (passing_all (Gift h i) ys) g (λ l. all_there h i ys l) (λ f. let a = all_unnamed h i ys Ks (λ x. f (inr x)) in let b = name_unnamed h i (read_all ys Ks).known nn (λ x. f (inl x)) in omega arith))

  value_fits : (nn : Name) (y : Passed Name) → gifts_in i y ≤ 1 → GiftsApart to (SettledTo nn y) s → new_name (Gift h i) (read_name Ks nn) + InValue nn y + C ≤ 1
  value_fits nn y few' g = core (new_name (Gift h i) (read_name Ks nn) + InValue nn y) C (seen h i Ks) (seen h i (read_passed y (known_after Ks nn)).known) (passing (Gift h i) y)
      (let a = passed_reads h i y (known_after Ks nn) in let b = name_reads h i Ks nn in omega arith) (most_is (has_name (read_passed y (known_after Ks nn)).known (Gift h i))) claimed (let a = passing_draws h i y in omega arith)
      (apart_from (SettledTo nn y) (new_name (Gift h i) (read_name Ks nn) + InValue nn y) (passing (Gift h i) y) g (λ l. passes_there h i y l) (λ f. let a = passed_unnamed h i y (known_after Ks nn) (λ x. f (inr x)) in let b = name_unnamed h i Ks nn (λ x. f (inl x)) in omega arith))

  fine_deliver : (m : Delivery Name) (nn : Name) (verb : List ℕ) (ys : Passeds Name) → Mades (Deliver m nn verb ys) → gifts_in_all i ys ≤ 1 → GiftsApart to (Deliver m nn verb ys) s → Fine (Brings (Deliver m nn verb ys))
  unfolding brings_here brings read_note names_of
  fine_deliver m nn verb ys k few' g = at_most (Brings (Deliver m nn verb ys)) (InArgs ys + AsTarget ys nn) C (WasDrawn d i) (deliver_or (is_own to (read_name (read_all ys Ks).known nn)) _ _ (InArgs ys) (AsTarget ys nn) here_is answer_is)
      (args_fit m nn verb ys few' g) (λ l. either_is (λ x. all_made h i vats d ys Ks k.2 x) (λ x. named_made h i vats d nn (name_brought h i (read_all ys Ks).known nn x) k.1) (sum_or (InArgs ys) (AsTarget ys nn) l))
    where
      is : (x : Msg) × (m.message ≡ Sent x)
      is = sent_is vats m.message k.0

      here_is : answer_here to (Gift h i) (New m.message (host_of m.message)) ≡ 0
      here_is = subst (λ z. answer_here to (Gift h i) (New z (host_of z)) ≡ 0) (sym is.1) (here_none to h i is.0)

      answer_is : new_answer to (Gift h i) (New m.message (host_of m.message)) ≡ 0
      answer_is = subst (λ z. new_answer to (Gift h i) (New z (host_of z)) ≡ 0) (sym is.1) (answer_none to h i is.0)

  fine_settled : (nn : Name) (y : Passed Name) → Mades (SettledTo nn y) → gifts_in i y ≤ 1 → GiftsApart to (SettledTo nn y) s → Fine (Brings (SettledTo nn y))
  unfolding brings_here brings read_note names_of
  fine_settled nn y k few' g = (value_fits nn y few' g, λ l. either_is (λ x. named_made h i vats d nn (name_brought h i Ks nn x) k.0) (λ x. passed_made h i vats d y (known_after Ks nn) k.1 x) (sum_or (new_name (Gift h i) (read_name Ks nn)) (InValue nn y) l))

  note_fine : (n : Note Name) → Provides P d from to n → Mades n → gifts_in_note i n ≤ 1 → GiftsApart to n s → Fine (Brings n)
  unfolding brings_here brings read_note names_of gifts_in_note
  note_fine (Deliver m nn verb ys) t k o g = fine_deliver m nn verb ys k o g
  note_fine (SettledTo nn y) t k o g = fine_settled nn y k o g
  note_fine (Open j nn) t k o g = gift_there (Open j nn) from j t g (new_name (Gift h i) (read_name Ks nn)) (name_alone nn) (name_low nn k.1) (λ f. name_unnamed h i Ks nn f) (gift_at from j s.gifts) refl
  note_fine (Ask p j nn) t k o g = zero_fine (new_gift_here to (Gift h i) j (gift_at p j s.gifts)) (gift_there (Ask p j nn) p j t g 0 (let a = few in omega arith) (λ l. absurd (no_one l)) (λ f. refl) (gift_at p j s.gifts) refl)
  note_fine (Elsewhere nn c) t k o g = (name_alone nn, name_low nn k.0)
  note_fine (Shorten nn c j) t k o g = (name_alone nn, name_low nn k.0)

pub allowed_is : (to h i : ℕ) (d : List ℕ) (s : Vat Name) → allowed to (Gift h i) s d ≡ once (is_in (word_of i) d)
unfolding allowed other numbered
allowed_is to h i d s = omega arith

under_one : (a b c e : ℕ) → a ≤ b → b ≤ c → c ≤ e → e ≤ 1 → a ≤ 1
under_one a b c e p q r t = omega arith

come_new : (w : World) (P : ℕ → ℕ) → Holds P w → WorldWell w → AllOf (λ (l : Link). AllOf (NoteOk (IsMade w.vats w.drawn)) l.notes) w.links
    → (from to : ℕ) (l : Link) (n : Note Name) (ns : List (Note Name)) (s : Vat Name) → link_at from to w.links ≡ Some l → l.notes ≡ n ∷ ns → slice_get w.vats to ≡ Some s → GiftsApart to n s
    → (h i : ℕ) → claims to (Gift h i) s.known ≤ allowed to (Gift h i) s w.drawn
    → claims to (Gift h i) s.known + brings_here to (Gift h i) from s.gifts (read_note (names_of s) n) ≤ allowed to (Gift h i) s w.drawn
come_new w P o well made from to l n ns s e f there g h i few = let d : List ℕ = w.drawn in let is = allowed_is to h i d s in let most = most_is (is_in (word_of i) d) in
    let told : Each (Provides P d from to) (n ∷ ns) = rw f at (found_tells P d from to l w.links o.links e) in
    let mades : MayBe (λ (k : Link). AllOf (NoteOk (IsMade w.vats d)) k.notes) (link_at from to w.links) = link_holds (NoteOk (IsMade w.vats d)) from to w.links made in
    let those : AllOf (NoteOk (IsMade w.vats d)) l.notes = rw e at mades in
    let these : AllOf (NoteOk (IsMade w.vats d)) (n ∷ ns) = rw f at those in
    let some' = first_gifts i n ns l.notes f in let all' = found_gifts i from to l w.links e in let count = o.count i in let at = o.vats to s there in
    let fine = note_fine w.vats d P from to s (well.vats to s there) at.1 h i (omega arith) n told.0 these.0 (under_one (gifts_in_note i n) (gifts_in_notes i l.notes) (gifts_on (λ j. j.notes) i w.links) (drawn_of i d) some' all' count (under_drawn i d)) g in
    finish (claims to (Gift h i) s.known) (brings_here to (Gift h i) from s.gifts (read_note (names_of s) n)) (allowed to (Gift h i) s d) few (omega arith) fine.0 (λ x. is ∙ full_is (is_in (word_of i) d) (among_in (word_of i) d (fine.1 x)))

pub gifts_come_new : GiftsApartComeNew
gifts_come_new script once' = (
  λ ps rest w i e. let f = fits_opened script ps w e in come_new w f.0 f.1 (reached_is WorldWell _ w e ((runs_stay_well script).0 ps)) ((notes_made script once').0 ps rest w i e),
  λ w x es k e j. let f = fits_stepped script w x es k e j in come_new x f.0 f.1 (reached_is WorldWell _ x j ((runs_stay_well script).1 w es k e)) ((notes_made script once').1 w x es k e j),
)
