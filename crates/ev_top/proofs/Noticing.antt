-- A notice marks the cut as noticed, and no later step takes that back.
use Rattle.std.proofs.Common.{◌≡◌, ℕ, zero, suc, Bool, true, false, List, [], ◌∷◌, ◌++◌, Option, Some, None, refl, subst, if◌then◌else◌, ◌==◌}
use Rattle.std.specs.Prelude.{slice_get}
use Rattle.std.proofs.lemmas.Bool.{eq-eqb}
use Rattle.def_machine.specs.Values.{Name, Naming}
use Rattle.def_machine.specs.State.{Vat, Done, Gives, Act, ◌>>=◌, ◌>>◌, and_then, each, give, look, mark, is_in}
use Rattle.def_machine.specs.Arrive as arrive
use Rattle.def_machine.specs.Arrive.{notice}
use Rattle.def_run.specs.World.{Script, Entry, NoticeLink, Event, NoticedAt, World, Run, Goes, Stopped, then_goes, put_at, put_back, readied, within, step, step_number, steps_from, names}
use Rattle.law_machine.specs.Machine.Steps.{After}
use Rattle.law_machine.specs.Machine.Laws.{NoticedStays}
use Rattle.law_machine.proofs.Machine.Keeps.{Keeps, IsKept, IsKeptUnder, keeps}
use Rattle.law_machine.proofs.Machine.ArriveKeeps.{keeps_notice_name, keeps_notice_gift}
use Rattle.law_machine.proofs.Machine.StepLaws.{after_map, noticed_law, noticed_names}
use Rattle.law_machine.proofs.Run.RunLaws.{notices_run}

-- ---- in the step of a vat

in_last : (b c : Bool) → b ≡ true → elim b [ true ↦ true | false ↦ c ] ≡ true
in_last b c e = rw e refl

in_either : (b : Bool) (w : ℕ) (xs : List ℕ) → is_in w (xs ++ w ∷ []) ≡ true → elim b [ true ↦ true | false ↦ is_in w (xs ++ w ∷ []) ] ≡ true
in_either true w xs e = refl
in_either false w xs e = e

is_last : (w : ℕ) (xs : List ℕ) → is_in w (xs ++ w ∷ []) ≡ true
unfolding is_in
is_last w [] = in_last (w == w) (is_in w []) (eq-eqb w w refl)
is_last w (x ∷ xs) = in_either (w == x) w xs (is_last w xs)

module _ (K : Naming Name Name) where
  -- what follows the mark in a notice
  breakings : ℕ → Act Name (Unit {0})
  breakings w = look (λ s. s.known) >>= (λ names. each (arrive.notice_name K w) names >> (look (λ s. s.gifts) >>= (λ gifts. each (arrive.notice_gift K w) gifts)))

  keeps_breakings : (w : ℕ) → Keeps NoticedStays (breakings w)
  unfolding breakings
  keeps_breakings w = let base : IsKept {N = Name} NoticedStays = noticed_law in let law : IsKeptUnder K NoticedStays = noticed_names K in search (keeps, keeps_notice_name, keeps_notice_gift) depth 14

  all_mark : (w : ℕ) (s : Vat Name) → After (λ r t. is_in w t.noticed ≡ true) s (arrive.notice_all K w s)
  unfolding arrive.notice_all breakings ◌>>◌ mark and_then
  all_mark w s = let t : Vat Name = record s { noticed = s.noticed ++ w ∷ [] } in after_map NoticedStays (λ r t. is_in w t.noticed ≡ true) t (breakings w t) (λ u f. f w (is_last w s.noticed)) ((keeps_breakings w).after t)

  marks_once : (w : ℕ) (s : Vat Name) (b : Bool) → is_in w s.noticed ≡ b → After (λ r t. is_in w t.noticed ≡ true) s ((if b then give tt else arrive.notice_all K w) s)
  unfolding give
  marks_once w s true e = e
  marks_once w s false e = all_mark w s

  notice_marks : (w : ℕ) (s t : Vat Name) → notice K w s ≡ Gives tt t → is_in w t.noticed ≡ true
  unfolding arrive.notice ◌>>=◌ look and_then
  notice_marks w s t e = let h = marks_once w s (is_in w s.noticed) refl in subst (λ d. After (λ r t. is_in w t.noticed ≡ true) s d) e h

-- ---- in a run

then_parts : (r : Run) (f : World → Run) (x : World) → then_goes r f ≡ Goes x → (y : World) × (r ≡ Goes y) × (f y ≡ Goes x)
unfolding then_goes
then_parts (Goes y) f x e = (y, refl, e)
then_parts (Stopped c n y) f x e = cc

put_found : {A : Type 0} (v : ℕ) (y x : A) (xs : List A) → slice_get xs v ≡ Some x → slice_get (put_at v y xs) v ≡ Some y
unfolding put_at
put_found v y x [] e = cc
put_found zero y x (z ∷ xs) e = refl
put_found (suc v) y x (z ∷ xs) e = put_found v y x xs e

goes_is : (w x : World) → Goes w ≡ Goes x → w ≡ x
goes_is w x e = cc

put_gives : (v : ℕ) (w x : World) (head : List Event) (n : ℕ) (s : Vat Name) (d : Done Name (Unit {0})) → slice_get w.vats v ≡ Some s → put_back v w head n d ≡ Goes x → (t : Vat Name) × (d ≡ Gives tt t) × (slice_get x.vats v ≡ Some t)
unfolding put_back
put_gives v w x head n s (Gives tt t) here e = (t, refl, subst (λ (y : World). slice_get y.vats v ≡ Some t) (goes_is _ x e) (put_found v t s w.vats here))
put_gives v w x head n s other here e = cc

module _ (script : Script) (v w : ℕ) where
  within_gives : (k : ℕ) (first x : World) (o : Option (Vat Name)) (s : Vat Name) → o ≡ Some s → slice_get first.vats v ≡ Some s
      → within v first (NoticedAt k v w ∷ []) (step_number script k) (notice (names script v) w) o ≡ Goes x
      → (t : Vat Name) × (notice (names script v) w (readied first s) ≡ Gives tt t) × (slice_get x.vats v ≡ Some t)
  unfolding within
  within_gives k first x None s e here i = cc
  within_gives k first x (Some q) s e here i = let same : q ≡ s = cc in put_gives v first x (NoticedAt k v w ∷ []) (step_number script k) s (notice (names script v) w (readied first s)) here (rw same at i)

  notice_gives : (k : ℕ) (first x : World) (s : Vat Name) → slice_get first.vats v ≡ Some s → step script (NoticeLink v w) k first ≡ Goes x
      → (t : Vat Name) × (notice (names script v) w (readied first s) ≡ Gives tt t) × (slice_get x.vats v ≡ Some t)
  unfolding step
  notice_gives k first x s here i = within_gives k first x (slice_get first.vats v) s here here i

  -- after a notice and any entries behind it, the cut is noticed
  pub marked_for_good : (fs : List Entry) (k : ℕ) (first later : World) (s : Vat Name) → slice_get first.vats v ≡ Some s → steps_from script (NoticeLink v w ∷ fs) k first ≡ Goes later
      → (t : Vat Name) × (slice_get later.vats v ≡ Some t) × (is_in w t.noticed ≡ true)
  unfolding steps_from
  marked_for_good fs k first later s here goes =
      let parts = then_parts (step script (NoticeLink v w) k first) (steps_from script fs (suc k)) later goes in
      let gave = notice_gives k first parts.0 s here parts.1 in
      let kept = notices_run script fs (suc k) parts.0 later parts.2 v gave.0 gave.2 in
      (kept.0, kept.1, kept.2 w (notice_marks (names script v) w (readied first s) gave.0 gave.1))
