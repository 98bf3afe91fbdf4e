-- The gifts of each note stand apart, so notes bring what is new, names are known once, tables are tables and waits end.
use Rattle.std.proofs.Common.{◌≡◌, ℕ, zero, suc, ◌+◌, ◌≤◌, true, false, List, [], ◌∷◌, ◌++◌, Option, Some, refl, sym, ◌∙◌, ◌⊎◌, inl, inr, length, arith, ◌==◌, append_assoc}
use Rattle.std.specs.Prelude.{slice_get}
use Rattle.std.proofs.lemmas.Bool.{eq-eqb}
use Rattle.def_machine.specs.Values.{Value, Ref, Name, Gift}
use Rattle.def_machine.specs.State.{Passed, Passeds, Plain, AGift, Many, NoMore, More, Note, Deliver, Open, Ask, SettledTo, Elsewhere, Shorten, Vat}
use Rattle.def_run.specs.World as world
use Rattle.def_run.specs.World.{Script, Entry, Carry, Link, World, Goes as Going, link_at}
use Rattle.law_fate.specs.Fates.Fate.{once}
use Rattle.law_fate.specs.Fates.Lasting.{Each}
use Rattle.law_fate.specs.Name.Names.{Bit, Named, AllOf, ValueOk, PassedOk, PassedsOk, NoteOk}
use Rattle.law_fate.specs.Name.Runs.{KnowsOnce}
use Rattle.law_fate.proofs.Name.Facts.{MayBe}
use Rattle.law_fate.proofs.Name.Among.{length_end}
use Rattle.law_fate.proofs.Name.Run.{link_holds}
use Rattle.law_reference.specs.Reference.Cuts.{NoticesFollowCuts}
use Rattle.law_reference.specs.Reference.Behind.{Avoids, IsKnownTo as KnowsIn}
use Rattle.law_reference.proofs.Reference.FollowRuns.{tail_of}
use Rattle.law_reference.proofs.Reference.LegRuns.{sender_of}
use Rattle.law_reference.proofs.Reference.Moves.{steps_end}
use Rattle.law_reference.specs.Reference.News.{IsPassed, IsPassedIn, Passes, IsRefTo, IsNamed, IsNamedIn, Names, GiftsApart}
use Rattle.law_reference.specs.Reference.Standing.{IsEntered}
use Rattle.law_reference.specs.Reference.GiftPassing.{gifts_in, gifts_in_all, gifts_in_note, gifts_under_way, PassesFrom, AllPassFrom, Provides}
use Rattle.law_reference.specs.Reference.Apart.{EntryApart, AllApart}
use Rattle.law_reference.proofs.Reference.GiftLinks.{found_tells}
use Rattle.law_reference.proofs.Reference.GiftApart.{new_where_apart}
use Rattle.law_reference.proofs.Reference.KnownRuns.{names_are_known_once}
use Rattle.law_reference.proofs.Reference.VatTables.{tables_tell_things_apart}
use Rattle.law_reference.proofs.Reference.KnownOnce.{waits_end_where_new}
use Rattle.law_reference.specs.Reference.Hiding.{Spares}
use Rattle.law_reference.specs.Reference.ApartAsking.{AsksFor, AskedFirst, OwnGiftsStand, GiftsFollowAsks}
use Rattle.law_reference.specs.Reference.ApartWhole.{GiftsStandApart, NotesBringWhatIsNew, EachNameIsKnownOnce, EachVatHasItsTable, WaitsEndInEveryVat}
use Rattle.law_reference.proofs.Reference.AskMoves.{Followed}
use Rattle.law_reference.proofs.Reference.AskRuns.{NoticedCut, Past, Holds}
use Rattle.law_reference.proofs.Reference.AskHolds.{notices_front, stepped_past, opened_holds, stepped_holds, cuts_noticed}
use Rattle.law_reference.proofs.Reference.HideMoves.{taken_sum}
use Rattle.law_reference.proofs.Reference.HideRuns.{HiddenIn, stepped_hidden, host_alone}

true_false : true ≡ false → ⊥
true_false e = cc

-- ---- what passes in a note

module _ (h i : ℕ) where
  abbrev X : Name
  X = Gift h i

  once_same : (j : ℕ) → i ≡ j → once (i == j) ≡ 1
  unfolding once
  once_same j e = rw (eq-eqb i j e, once) refl

  same_gift : (c j : ℕ) → Gift c j ≡ X → (h ≡ c) × (i ≡ j)
  same_gift c j e = let a : h ≡ c = cc in let b : i ≡ j = cc in (a, b)

  mutual
    unfolding gifts_in gifts_in_all

    passed_one : (y : Passed Name) → IsPassed X y → 1 ≤ gifts_in i y
    passed_one (Plain y) p = absurd p
    passed_one (AGift c j) p = let e = once_same j (same_gift c j p).1 in omega arith
    passed_one (Many ys) p = passeds_one ys p

    passeds_one : (ys : Passeds Name) → IsPassedIn X ys → 1 ≤ gifts_in_all i ys
    passeds_one NoMore p = absurd p
    passeds_one (More y ys) (inl p) = let a = passed_one y p in omega arith
    passeds_one (More y ys) (inr p) = let a = passeds_one ys p in omega arith

  note_one : (n : Note Name) → Passes X n → 1 ≤ gifts_in_note i n
  unfolding gifts_in_note
  note_one (Deliver m n verb ys) p = passeds_one ys p
  note_one (SettledTo n y) p = passed_one y p
  note_one other p = absurd p

  -- it is not of the receiver
  module _ (P : ℕ → ℕ) (d : List ℕ) (from to : ℕ) where
    mutual
      passed_far : (y : Passed Name) → IsPassed X y → PassesFrom P d from to y → h ≡ to → ⊥
      passed_far (Plain y) p f = absurd p
      passed_far (AGift c j) p f = λ e. f.2 (sym (same_gift c j p).0 ∙ e)
      passed_far (Many ys) p f = passeds_far ys p f

      passeds_far : (ys : Passeds Name) → IsPassedIn X ys → AllPassFrom P d from to ys → h ≡ to → ⊥
      passeds_far NoMore p f = absurd p
      passeds_far (More y ys) (inl p) f = passed_far y p f.0
      passeds_far (More y ys) (inr p) f = passeds_far ys p f.1

    note_far : (n : Note Name) → Passes X n → Provides P d from to n → h ≡ to → ⊥
    note_far (Deliver m n verb ys) p f = passeds_far ys p f
    note_far (SettledTo n y) p f = passed_far y p f
    note_far other p f = absurd p

-- ---- what a note names

module _ (x : Name) (P : Bit Name → Type 0) where
  value_named : (y : Value Name) → IsRefTo x y → ValueOk P y → P (Named x)
  value_named (Ref n) e k = rw e at k
  value_named other e k = absurd e

  mutual
    passed_named : (y : Passed Name) → IsNamed x y → PassedOk P y → P (Named x)
    passed_named (Plain y) e k = value_named y e k
    passed_named (AGift c j) e k = absurd e
    passed_named (Many ys) e k = passeds_named ys e k

    passeds_named : (ys : Passeds Name) → IsNamedIn x ys → PassedsOk P ys → P (Named x)
    passeds_named NoMore e k = absurd e
    passeds_named (More y ys) (inl e) k = passed_named y e k.0
    passeds_named (More y ys) (inr e) k = passeds_named ys e k.1

  name_is : (n : Name) → n ≡ x → P (Named n) → P (Named x)
  name_is n e k = rw e at k

  -- what holds of all that a note tells holds of a name in it
  note_named : (n : Note Name) → Names x n → NoteOk P n → P (Named x)
  note_named (Deliver m n verb ys) (inl e) k = name_is n e k.1
  note_named (Deliver m n verb ys) (inr e) k = passeds_named ys e k.2
  note_named (Open j n) e k = name_is n e k.1
  note_named (Ask p j n) e k = absurd e
  note_named (SettledTo n y) (inl e) k = name_is n e k.0
  note_named (SettledTo n y) (inr e) k = passed_named y e k.1
  note_named (Elsewhere n c) e k = name_is n e k.0
  note_named (Shorten n c j) e k = name_is n e k.0

no_asking : (x : Name) (i : ℕ) (n : Note Name) → Names x n → AsksFor i n → ⊥
no_asking x i (Ask p j n) e f = e
no_asking x i other e f = f

no_more : {A : Type 0} {x : A} {xs : List A} → x ∷ xs ≡ [] → ⊥
no_more e = cc

-- ---- the first note of a link

module _ (script : Script) (w : World) (past : Past script w) (holds : Holds w) (sure : NoticedCut w) (hidden : HiddenIn w) (from to : ℕ) (l : Link) (n : Note Name) (ns : List (Note Name)) (s : Vat Name) (at : link_at from to w.links ≡ Some l) (notes : l.notes ≡ n ∷ ns) (there : slice_get w.vats to ≡ Some s) where
  provides : Provides past.2.0 w.drawn from to n
  provides = let fits = past.2 in let o = fits.1 in head (found_tells fits.0 w.drawn from to l w.links o.links at)
    where
      head : Each (Provides past.2.0 w.drawn from to) l.notes → Provides past.2.0 w.drawn from to n
      head k = let one : Each (Provides past.2.0 w.drawn from to) (n ∷ ns) = rw notes at k in one.0

  of_links : (P : Bit Name → Type 0) → AllOf (λ (k : Link). AllOf (NoteOk P) k.notes) w.links → NoteOk P n
  of_links P h = found (link_at from to w.links) at (link_holds (NoteOk P) from to w.links h)
    where
      found : (o : Option Link) → o ≡ Some l → MayBe (λ (k : Link). AllOf (NoteOk P) k.notes) o → NoteOk P n
      found o e k = let one : AllOf (NoteOk P) l.notes = rw e at k in (tail_of (NoteOk P) l l n ns one refl notes).0

  under_way : (h i : ℕ) → Passes (Gift h i) n → 1 ≤ gifts_under_way i w.links
  under_way h i p = let a = note_one h i n p in let b = taken_sum i from to n ns l notes w.links at in omega arith

  not_cut : l.cut ≡ true → ⊥
  not_cut e = let legs = past.1 in no_more (sym notes ∙ legs.dry from to l at e)

  sender : (u : Vat Name) × (slice_get w.vats from ≡ Some u)
  sender = let legs = past.1 in sender_of script w from to n ns l legs.none at notes

  known_note : NoteOk (KnowsIn sender.0) n
  known_note = let b = past.0 in let h = b.holds in (tail_of (NoteOk (KnowsIn sender.0)) l l n ns (h.0 from to sender.0 sender.1 l at) refl notes).0

  named_stands : (i : ℕ) → Names (Gift to i) n → IsEntered i s.gifts
  named_stands i e = followed (holds.1 from to i sender.0 s sender.1 there (note_named (Gift to i) (KnowsIn sender.0) n e known_note) l at)
    where
      first : AskedFirst i (Gift to i) (n ∷ ns) → IsEntered i s.gifts
      first (inl f) = absurd (no_asking (Gift to i) i n e f)
      first (inr f) = absurd (note_named (Gift to i) (Avoids (Gift to i)) n e f.0 refl)

      followed : Followed to i sender.0 s l → IsEntered i s.gifts
      followed (inl k) = k
      followed (inr (inl (inl c))) = absurd (not_cut c)
      followed (inr (inl (inr k))) = first (rw notes at k)
      followed (inr (inr k)) = absurd (not_cut (sure from sender.0 sender.1 to k l at))

  pub apart : GiftsApart to n s
  apart = record {
    unknown = λ h i p a. note_far h i past.2.0 w.drawn from to n p provides (host_alone w hidden h i to s (under_way h i p) there a);
    unnamed = λ h i p e. note_named (Gift h i) (Spares i) n e (of_links (Spares i) (hidden i (under_way h i p)).1) refl;
    entered = λ i a. holds.0 to i s there a;
    behind = λ i e. named_stands i e;
  }

-- ---- runs

pub own_stand : OwnGiftsStand
own_stand script once = (
  λ ps rest w i e v j s at a. (opened_holds script once ps rest w i e).0 v j s at a,
  λ w x es k c o e v j s at a. (stepped_holds script once w x es k c o e).0 v j s at a,
)

pub follow_asks : GiftsFollowAsks
follow_asks script once w x es k c o e u g i s r l at there found a = either ((stepped_holds script once w x es k c o e).1 u g i s r at there a l found)
  where
    either : Followed g i s r l → IsEntered i r.gifts ⊎ ((l.cut ≡ true) ⊎ AskedFirst i (Gift g i) l.notes)
    either (inl h) = inl h
    either (inr (inl h)) = inr h
    either (inr (inr h)) = inr (inl (cuts_noticed script once w x es k c o e u s at g h l found))

pub stand_apart : GiftsStandApart
stand_apart script once w x es k c o e from to l n ns s at notes there = apart script x (stepped_past script once w x es k o e) (stepped_holds script once w x es k c o e) (cuts_noticed script once w x es k c o e) (stepped_hidden script once w x es k o e) from to l n ns s at notes there

module _ (script : Script) (once : KnowsOnce script) (w0 : World) (k0 : ℕ) (opened : world.open_from script zero script.vats (world.begins script) ≡ Going w0) where
  entry_apart : (front : List Entry) (w : World) → NoticesFollowCuts front → world.steps_from script front k0 w0 ≡ Going w → (e : Entry) → EntryApart w e
  entry_apart front w c st (Carry from to) = λ l n ns s at notes there. stand_apart script once w0 w front k0 c opened st from to l n ns s at notes there
  entry_apart front w c st other = tt

  all_apart : (es front : List Entry) (k : ℕ) (w : World) → k ≡ k0 + length front → NoticesFollowCuts (front ++ es) → world.steps_from script front k0 w0 ≡ Going w → AllApart script es k w
  all_apart [] front k w n c st = tt
  all_apart (e ∷ es) front k w n c st = (
    entry_apart front w (notices_front script [] front (e ∷ es) c) st e,
    λ y i. let l = length_end front e in
        all_apart es (front ++ e ∷ []) (suc k) y (omega arith) (rw (append_assoc front (e ∷ []) es) c) (steps_end script front e k0 w0 w y st (rw n at i)),
  )

start : (script : Script) (k : ℕ) (w : World) → world.steps_from script [] k w ≡ Going w
unfolding world.steps_from
start script k w = refl

pub bring_new : NotesBringWhatIsNew
bring_new script once w es k c o = new_where_apart script once w es k o (all_apart script once w k o es [] k w (let n : k ≡ k + 0 = omega arith in n) c (start script k w))

pub known_once : EachNameIsKnownOnce
known_once script once = (
  λ ps rest w i e. (names_are_known_once script once).0 ps rest w i e,
  λ w x es k c o e. (names_are_known_once script once).1 w x es k o (bring_new script once w es k c o) e,
)

pub have_tables : EachVatHasItsTable
have_tables script once = (
  λ ps rest w i e. (tables_tell_things_apart script once).0 ps rest w i e,
  λ w x es k c o e. (tables_tell_things_apart script once).1 w x es k o (bring_new script once w es k c o) e,
)

pub waits_end : WaitsEndInEveryVat
waits_end script once = (
  λ ps rest w i e v s at. (waits_end_where_new script once).0 ps rest w i e v s at,
  λ w x es k c o e v s at. (waits_end_where_new script once).1 w x es k o (bring_new script once w es k c o) e v s at,
)
