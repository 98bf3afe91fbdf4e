-- What a notice broke is broken in every later world.
use Rattle.std.proofs.Common.{◌≡◌, ℕ, zero, suc, Bool, true, false, List, [], ◌∷◌, Option, Some, None, refl, sym, subst, ◌∙◌}
use Rattle.std.specs.Prelude.{slice_get}
use Rattle.def_machine.specs.Values.{Broken, Name, Naming}
use Rattle.def_machine.specs.State.{GiftEntry, Known, Vat, Done, Gives, is_in}
use Rattle.def_machine.specs.Refs.{entry_of, standing_of}
use Rattle.def_machine.specs.Arrive.{notice}
use Rattle.def_run.specs.World.{Script, NoticeLink, Event, NoticedAt, World, Run, Goes, Stopped, then_goes, put_at, put_back, readied, within, step, step_number, steps_from, names}
use Rattle.law_machine.specs.Machine.Laws.{SettledStays}
use Rattle.law_machine.specs.Machine.Breaks.{still_waits, IsBroken, HostedBreak, GiftsBreak}
use Rattle.law_machine.proofs.Machine.NoticeLaws.{notice_breaks}
use Rattle.law_machine.proofs.Machine.StepLaws.{settled_entry, standing_found}
use Rattle.law_machine.proofs.Run.RunLaws.{settlings_run}
use Rattle.law_reference.specs.Gift.Gifts.{IsLater, SameGifts, StaysBroken, NoticesBreakForGood}
use Rattle.law_reference.proofs.Gift.Stays.{gifts_run}

-- ---- one entry, and those after it

then_parts : (r : Run) (f : World → Run) (x : World) → then_goes r f ≡ Goes x → (y : World) × (r ≡ Goes y) × (f y ≡ Goes x)
unfolding then_goes
then_parts (Goes y) f x e = (y, refl, e)
then_parts (Stopped c n y) f x e = cc

put_found : {A : Type 0} (v : ℕ) (y x : A) (xs : List A) → slice_get xs v ≡ Some x → slice_get (put_at v y xs) v ≡ Some y
unfolding put_at
put_found v y x [] e = cc
put_found zero y x (z ∷ xs) e = refl
put_found (suc v) y x (z ∷ xs) e = put_found v y x xs e

goes_is : (w x : World) → Goes w ≡ Goes x → w ≡ x
goes_is w x e = cc

put_gives : (v : ℕ) (w x : World) (head : List Event) (n : ℕ) (s : Vat Name) (d : Done Name (Unit {0})) → slice_get w.vats v ≡ Some s → put_back v w head n d ≡ Goes x → (t : Vat Name) × (d ≡ Gives tt t) × (slice_get x.vats v ≡ Some t)
unfolding put_back
put_gives v w x head n s (Gives tt t) here e = (t, refl, subst (λ (y : World). slice_get y.vats v ≡ Some t) (goes_is _ x e) (put_found v t s w.vats here))
put_gives v w x head n s other here e = cc

module _ (script : Script) (v w : ℕ) where
  within_gives : (k : ℕ) (first x : World) (o : Option (Vat Name)) (s : Vat Name) → o ≡ Some s → slice_get first.vats v ≡ Some s
      → within v first (NoticedAt k v w ∷ []) (step_number script k) (notice (names script v) w) o ≡ Goes x
      → (t : Vat Name) × (notice (names script v) w (readied first s) ≡ Gives tt t) × (slice_get x.vats v ≡ Some t)
  unfolding within
  within_gives k first x None s e here i = cc
  within_gives k first x (Some q) s e here i = let same : q ≡ s = cc in put_gives v first x (NoticedAt k v w ∷ []) (step_number script k) s (notice (names script v) w (readied first s)) here (rw same at i)

  notice_gives : (k : ℕ) (first x : World) (s : Vat Name) → slice_get first.vats v ≡ Some s → step script (NoticeLink v w) k first ≡ Goes x
      → (t : Vat Name) × (notice (names script v) w (readied first s) ≡ Gives tt t) × (slice_get x.vats v ≡ Some t)
  unfolding step
  notice_gives k first x s here i = within_gives k first x (slice_get first.vats v) s here here i

-- ---- what is broken stays so

module _ (K : Naming Name Name) where
  pub still_broken : (n : Name) (s t : Vat Name) → SettledStays K s t → IsBroken K s n → IsBroken K t n
  unfolding standing_of
  still_broken n s t h x = let found = settled_entry (entry_of K s.known n) (Broken x.0) x.1 in (x.0, standing_found K t.known n found.0 (Broken x.0) (h n found.0 (Broken x.0) found.1 found.2) found.2)

not_opened : (a b : Bool) → (a ≡ true → b ≡ true) → b ≡ false → a ≡ false
not_opened true b h e = let i : b ≡ true = h refl in cc
not_opened false b h e = refl

some_is : {A : Type 0} (x y : A) → Some x ≡ Some y → x ≡ y
some_is x y e = cc

module _ (script : Script) (v w : ℕ) where
  abbrev K : Naming Name Name
  K = names script v

  later_broken : (s t : Vat Name) → HostedBreak K w s t → GiftsBreak K w s t → SameGifts s t → StaysBroken script v w s t
  later_broken s t hosts breaks same = record {
    hosted = hosts;
    gifts = breaks;
    unopened = λ i g h k here there p o e j. by_gift i g h k here (same i g here) there p o e j;
  }
    where
      by_gift : (i : ℕ) (g h : GiftEntry Name) (k : Known Name) → slice_get s.gifts i ≡ Some g → (f : GiftEntry Name) × (slice_get t.gifts i ≡ Some f) × IsLater g f → slice_get t.gifts i ≡ Some h → h.provider ≡ w → h.opened ≡ false
          → entry_of K s.known g.name ≡ Some k → still_waits k.standing ≡ true → IsBroken K t h.name
      by_gift i g h k here (f, at, later) there p o e j =
          let is : f ≡ h = some_is f h (sym at ∙ there) in let now : IsLater g h = rw is at later in
          subst (λ n. IsBroken K t n) (sym now.name) (breaks i g k here (sym now.provider ∙ p) (not_opened g.opened h.opened now.opened o) e j)

  from_notice : (first : World) (s u t : Vat Name) → is_in w s.noticed ≡ false → notice K w (readied first s) ≡ Gives tt u → SettledStays K u t → SameGifts s t → StaysBroken script v w s t
  unfolding readied
  from_notice first s u t near gives stay same = let broke = notice_breaks K w (readied first s) u near gives in later_broken s t
      (λ k e h j. still_broken K k.name u t stay (broke.0 k e h j))
      (λ i g k here p o e j. still_broken K g.name u t stay (broke.1 i g k here p o e j))
      same

vat_is : {s t : Vat Name} {o : Option (Vat Name)} → o ≡ Some s → o ≡ Some t → s ≡ t
vat_is e i = cc

pub broken_for_good : NoticesBreakForGood
unfolding steps_from
broken_for_good script v w es k first later goes s here near =
    let parts = then_parts (step script (NoticeLink v w) k first) (steps_from script es (suc k)) later goes in
    let gave = notice_gives script v w k first parts.0 s here parts.1 in
    let stay = settlings_run script es (suc k) parts.0 later parts.2 v gave.0 gave.2 in
    let kept = gifts_run script (NoticeLink v w ∷ es) k first later goes v s here in
    let same : SameGifts s stay.0 = rw (vat_is kept.1 stay.1) at kept.2 in
    (stay.0, stay.1, from_notice script v w first s gave.0 stay.0 near gave.1 stay.2 same)
