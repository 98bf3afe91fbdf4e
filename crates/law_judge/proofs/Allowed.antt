-- What an operation may say passes, item by item.
use Rattle.std.proofs.Common.{◌≡◌, ℕ, suc, ◌≤◌, Bool, true, false, not, nat_lt, nat_eq, ◌==◌, ◌&&◌, ◌||◌, List, [], ◌∷◌, ◌++◌, map, length, slice_get, Option, Some, None, ◌⊎◌, inl, inr, refl, ap, subst, sym, ◌∙◌, arith}
use Rattle.std.proofs.lemmas.Bool.{ne_eqb}
use Rattle.def_op.specs.declared.op.Plain.{Plain}
use Rattle.def_op.specs.declared.op.Plain.TheVariants as plain
use Rattle.def_op.specs.declared.spots.Part.{Part}
use Rattle.def_op.specs.declared.spots.Part.TheVariants.{Code, Number, Vat, Swiss, Other}
use Rattle.def_op.specs.declared.spots.Spot.{Spot}
use Rattle.def_op.specs.Frames.{Described, Datum, ListOf, Broken, YourExport, YourAnswer, MyExport, MyPromise, Third, MyAnswer, Members, none, more, count, IsSubject}
use Rattle.def_hostile.specs.Judge.{Counts, Look, Fine, Passes, On, Off, passes_where, onward, begins, asks, is_bad_target, code_passes, number_passes, numbered_by, vat_passes, is_elsewhere, item_passes, position_passes, same_kind, judged, judged_on}
use Rattle.law_judge.specs.PartsOf.{plain_code, plain_parts, first_code, parts_behind, parts_all, parts_in}
use Rattle.law_judge.specs.Points.{allowed, is_third, at_position, in_described, in_members}
use Rattle.law_judge.proofs.Running.{run, same_look, then_look}
use Rattle.law_judge.proofs.Growing.{same_gathered, allowed_by, gathered_by}

and_false : (b : Bool) → (b && false) ≡ false
and_false true = refl
and_false false = refl

-- no name stands where a promise is told to have settled
abbrev pub IsPast : Look → Type 0
IsPast l = ((l.op == 2) ≡ false) ⊎ (4 ≤ l.index)

-- nor in a list that begins there
abbrev pub IsClear : Look → Type 0
IsClear l = ((l.op == 2) ≡ false) ⊎ (3 ≤ l.index)

pub still_past : (l m : Look) → m.op ≡ l.op → l.index ≤ m.index → IsPast l → IsPast m
still_past l m op le (inl e) = inl (ap (λ (n : ℕ). n == 2) op ∙ e)
still_past l m op le (inr h) = inr (omega (arith, le, h))

clear_of : (l : Look) → IsPast l → IsClear l
clear_of l (inl e) = inl e
clear_of l (inr h) = inr (omega (arith, h))

module _ (vats me peer : ℕ) (c : Counts) where
  -- ---- items

  one_joins : (ps qs : List Part) (x : Passes) → ((k : Look) → run vats me peer c (ps ++ qs) k ≡ then_look (run vats me peer c qs) (run vats me peer c ps k))
      → then_look (run vats me peer c (ps ++ qs)) x ≡ then_look (run vats me peer c qs) (then_look (run vats me peer c ps) x)
  one_joins ps qs (On k) others = others k
  one_joins ps qs Off others = refl

  pub joins : (ps qs : List Part) (l : Look) (x : Passes) → run vats me peer c ps l ≡ x → run vats me peer c (ps ++ qs) l ≡ then_look (run vats me peer c qs) x
  joins [] qs l x e = ap (then_look (run vats me peer c qs)) e
  joins (p ∷ ps) qs l x e = one_joins ps qs (item_passes vats me peer c p l) (λ k. joins ps qs k (run vats me peer c ps k) refl) ∙ ap (then_look (run vats me peer c qs)) e

  one_judged : (s : Spot) (ss : List Spot) (m : Look) (x : Passes) → ((k : Look) → run vats me peer c (map (λ (s : Spot). s.part) ss) k ≡ On m → judged vats me peer c ss k ≡ Fine m.new)
      → then_look (run vats me peer c (map (λ (s : Spot). s.part) ss)) x ≡ On m → judged_on vats me peer c s (λ k. judged vats me peer c ss k) x ≡ Fine m.new
  unfolding judged_on
  one_judged s ss m (On k) others e = others k e
  one_judged s ss m Off others e = absurd cc

  -- items that pass are judged fine
  pub run_judges : (ss : List Spot) (l m : Look) → run vats me peer c (map (λ (s : Spot). s.part) ss) l ≡ On m → judged vats me peer c ss l ≡ Fine m.new
  unfolding judged
  run_judges [] l m e = ap (λ (k : Look). Fine k.new) (same_look l m e)
  run_judges (s ∷ ss) l m e = one_judged s ss m (item_passes vats me peer c s.part l) (λ k. run_judges ss k m) e

  pub past_bad : (b : ℕ) (l : Look) → IsPast l → is_bad_target vats me peer c b l ≡ false
  unfolding is_bad_target
  past_bad b l (inl e) = rw e (and_false (nat_eq l.index 3))
  past_bad b l (inr h) = let none : nat_eq l.index 3 ≡ false = ne_eqb l.index 3 (λ e. omega (arith, h, e)) in rw none refl

  pub code_goes : (b : ℕ) (ps : List Part) (l : Look) → 1 ≤ l.index → is_bad_target vats me peer c b l ≡ false → run vats me peer c (Code b ∷ ps) l ≡ run vats me peer c ps (onward (Some b) l)
  unfolding item_passes code_passes begins passes_where
  code_goes b ps l some bad =
      let none : nat_eq l.index 0 ≡ false = ne_eqb l.index 0 (λ z. omega (arith, some, z)) in
      let passes : (passes_where (not (is_bad_target vats me peer c b l)) (onward (Some b) l)) ≡ On (onward (Some b) l) = ap (λ (v : Bool). passes_where (not v) (onward (Some b) l)) bad in
      let is : item_passes vats me peer c (Code b) l ≡ On (onward (Some b) l) =
      subst (λ (v : Bool). (elim v as (λ _. Passes) [ true ↦ On (record l { index = 1; op = b }) | false ↦ passes_where (not (is_bad_target vats me peer c b l)) (onward (Some b) l) ]) ≡ On (onward (Some b) l)) (sym none) passes in
      ap (then_look (run vats me peer c ps)) is

  asks_not : (l : Look) → 2 ≤ l.index → asks vats me peer c l ≡ false
  unfolding asks
  asks_not l two = let none : nat_eq l.index 1 ≡ false = ne_eqb l.index 1 (λ z. omega (arith, two, z)) in rw none refl

  pub number_goes : (n : ℕ) (ps : List Part) (l : Look) → 2 ≤ l.index → run vats me peer c (Number n ∷ ps) l ≡ then_look (run vats me peer c ps) (numbered_by vats me peer c n l.code l)
  unfolding item_passes number_passes
  number_goes n ps l two =
      let behind = numbered_by vats me peer c n l.code l in
      let is : item_passes vats me peer c (Number n) l ≡ behind =
      subst (λ (v : Bool). (elim v as (λ _. Passes) [ true ↦ passes_where (n == c.answers) (onward None l) | false ↦ behind ]) ≡ behind) (sym (asks_not l two)) refl in
      ap (then_look (run vats me peer c ps)) is

  pub other_goes : (ps : List Part) (l : Look) → run vats me peer c (Other ∷ ps) l ≡ run vats me peer c ps (onward None l)
  unfolding item_passes
  other_goes ps l = refl

  pub swiss_goes : (s : ℕ) (ps : List Part) (l : Look) → run vats me peer c (Swiss s ∷ ps) l ≡ run vats me peer c ps (onward None l)
  unfolding item_passes
  swiss_goes s ps l = refl

  pub vat_goes : (v : ℕ) (ps : List Part) (l : Look) → (nat_lt v vats && (not (v == peer) && (is_elsewhere vats me peer c l.code || not (v == me)))) ≡ true → run vats me peer c (Vat v ∷ ps) l ≡ run vats me peer c ps (onward None l)
  unfolding item_passes vat_passes passes_where
  vat_goes v ps l e = ap (λ (b : Bool). then_look (run vats me peer c ps) (passes_where b (onward None l))) e

  -- ---- descriptions

  -- items that pass, with what is gathered behind them
  abbrev pub Reaches : List Part → Look → List Bool → Type 0
  Reaches ps l after = (m : Look) × (run vats me peer c ps l ≡ On m) × (m.new ≡ after) × (m.op ≡ l.op) × (suc l.index ≤ m.index)

  abbrev pub ReachesBehind : List Part → Look → List Bool → Type 0
  ReachesBehind ps l after = (m : Look) × (run vats me peer c ps l ≡ On m) × (m.new ≡ after) × (m.op ≡ l.op) × (l.index ≤ m.index)

  abbrev pub ReachesNext : List Part → Look → List Bool → Type 0
  ReachesNext ps l after = (m : Look) × (run vats me peer c ps l ≡ On m) × (m.new ≡ after) × (m.op ≡ l.op) × (m.index ≡ suc (suc l.index))

  bare : (b : ℕ) (l : Look) (after : List Bool) → 1 ≤ l.index → is_bad_target vats me peer c b l ≡ false → l.new ≡ after → Reaches (Code b ∷ []) l after
  unfolding onward
  bare b l after some bad e = (onward (Some b) l, code_goes b [] l some bad, e, refl, omega arith)

  with_other : (b : ℕ) (l : Look) (after : List Bool) → 1 ≤ l.index → is_bad_target vats me peer c b l ≡ false → l.new ≡ after → Reaches (Code b ∷ Other ∷ []) l after
  unfolding onward
  with_other b l after some bad e = (onward None (onward (Some b) l), code_goes b (Other ∷ []) l some bad ∙ other_goes [] (onward (Some b) l), e, refl, omega arith)

  number_reaches : (b n : ℕ) (ps : List Part) (l x : Look) → 1 ≤ l.index → is_bad_target vats me peer c b l ≡ false → numbered_by vats me peer c n (Some b) (onward (Some b) l) ≡ On x → run vats me peer c (Code b ∷ Number n ∷ ps) l ≡ run vats me peer c ps x
  unfolding onward
  number_reaches b n ps l x some bad e =
      code_goes b (Number n ∷ ps) l some bad ∙ number_goes n ps (onward (Some b) l) (omega (arith, some)) ∙ ap (then_look (run vats me peer c ps)) e

  -- a number that no table has to have
  with_number : (b n : ℕ) (l : Look) (after : List Bool) → numbered_by vats me peer c n (Some b) (onward (Some b) l) ≡ On (onward None (onward (Some b) l)) → 1 ≤ l.index → is_bad_target vats me peer c b l ≡ false → l.new ≡ after → Reaches (Code b ∷ Number n ∷ []) l after
  unfolding onward
  with_number b n l after passes some bad e = (onward None (onward (Some b) l), number_reaches b n [] l (onward None (onward (Some b) l)) some bad passes, e, refl, omega arith)

  abbrev Passing : Described → Type 0
  Passing d = (l : Look) (after : List Bool) → 1 ≤ l.index → is_bad_target vats me peer c (first_code d) l ≡ false → in_described vats me peer c d l.new ≡ Some after → Reaches (parts_in d) l after

  plain_passing : (p : Plain) → Passing (Datum p)
  unfolding first_code parts_behind plain_code plain_parts in_described numbered_by
  plain_passing plain.Null l after some bad e = bare 0 l after some bad (same_gathered l.new after e)
  plain_passing (plain.Bool false) l after some bad e = bare 1 l after some bad (same_gathered l.new after e)
  plain_passing (plain.Bool true) l after some bad e = bare 2 l after some bad (same_gathered l.new after e)
  plain_passing (plain.Int z) l after some bad e = with_other 3 l after some bad (same_gathered l.new after e)
  plain_passing (plain.Char n) l after some bad e = with_number 4 n l after refl some bad (same_gathered l.new after e)
  plain_passing (plain.Text t) l after some bad e = with_other 5 l after some bad (same_gathered l.new after e)
  plain_passing (plain.Prim n) l after some bad e = with_number 7 n l after refl some bad (same_gathered l.new after e)

  tested : (b : Bool) (l : Look) (new after : List Bool) → allowed b new ≡ Some after → passes_where b (onward None l) ≡ On (onward None l)
  unfolding passes_where
  tested b l new after e = ap (λ (v : Bool). passes_where v (onward None l)) (allowed_by b new after e).0

  your_export_passing : (n : ℕ) → Passing (YourExport n)
  unfolding first_code parts_behind in_described numbered_by
  your_export_passing n l after some bad e = with_number 9 n l after (tested (nat_lt n c.exports) (onward (Some 9) l) l.new after e) some bad (allowed_by (nat_lt n c.exports) l.new after e).1

  your_answer_passing : (n : ℕ) → Passing (YourAnswer n)
  unfolding first_code parts_behind in_described numbered_by
  your_answer_passing n l after some bad e = with_number 10 n l after (tested (nat_lt n c.answers) (onward (Some 10) l) l.new after e) some bad (allowed_by (nat_lt n c.answers) l.new after e).1

  my_answer_passing : (n : ℕ) → Passing (MyAnswer n)
  unfolding first_code parts_behind in_described numbered_by
  my_answer_passing n l after some bad e = with_number 14 n l after (tested (nat_lt n c.questions) (onward (Some 14) l) l.new after e) some bad (allowed_by (nat_lt n c.questions) l.new after e).1

  -- a position, known or new
  position_goes : (object : Bool) (n : ℕ) (o : Option Bool) (l : Look) (after : List Bool) → at_position vats me peer c object n o l.new ≡ Some after
      → (m : Look) × (position_passes vats me peer c object n l o ≡ On m) × (m.new ≡ after) × (m.op ≡ l.op) × (m.index ≡ suc l.index)
  unfolding at_position position_passes onward passes_where
  position_goes object n (Some k) l after e =
      let by = allowed_by (same_kind vats me peer c k object) l.new after e in
      (onward None l, ap (λ (v : Bool). passes_where v (onward None l)) by.0, by.1, refl, refl)
  position_goes object n None l after e =
      let by = allowed_by (n == length (c.imports ++ l.new)) (l.new ++ object ∷ []) after e in
      let m = onward None (record l { new = l.new ++ object ∷ [] }) in
      (m, ap (λ (v : Bool). passes_where v m) by.0, by.1, refl, refl)

  position_reaches : (b n : ℕ) (l : Look) (after : List Bool) → 1 ≤ l.index → is_bad_target vats me peer c b l ≡ false
      → ((m : Look) × (numbered_by vats me peer c n (Some b) (onward (Some b) l) ≡ On m) × (m.new ≡ after) × (m.op ≡ l.op) × (m.index ≡ suc (suc l.index))) → Reaches (Code b ∷ Number n ∷ []) l after
  position_reaches b n l after some bad g = (g.0, number_reaches b n [] l g.0 some bad g.1, g.2, g.3, omega (arith, g.4))

  my_export_passing : (n : ℕ) → Passing (MyExport n)
  unfolding first_code parts_behind in_described numbered_by onward
  my_export_passing n l after some bad e = position_reaches 11 n l after some bad (position_goes true n (slice_get (c.imports ++ l.new) n) (onward (Some 11) l) after e)

  my_promise_passing : (n : ℕ) → Passing (MyPromise n)
  unfolding first_code parts_behind in_described numbered_by onward
  my_promise_passing n l after some bad e = position_reaches 12 n l after some bad (position_goes false n (slice_get (c.imports ++ l.new) n) (onward (Some 12) l) after e)

  third_passing : (host s : ℕ) → Passing (Third host s)
  unfolding first_code parts_behind in_described is_third onward is_elsewhere
  third_passing host s l after some bad e =
      let by = allowed_by (is_third vats me peer c host) l.new after e in (
        onward None (onward None (onward (Some 13) l)),
        code_goes 13 (Vat host ∷ Swiss s ∷ []) l some bad ∙ vat_goes host (Swiss s ∷ []) (onward (Some 13) l) by.0 ∙ swiss_goes s [] (onward None (onward (Some 13) l)),
        by.1,
        refl,
        omega arith,
      )

  abbrev pub AllPassing : Members → Type 0
  AllPassing ds = (l : Look) (after : List Bool) → 1 ≤ l.index → IsPast l → in_members vats me peer c ds l.new ≡ Some after → ReachesBehind (parts_all ds) l after

  abbrev pub PassingClear : Described → Type 0
  PassingClear d = (l : Look) (after : List Bool) → 1 ≤ l.index → IsClear l → is_bad_target vats me peer c (first_code d) l ≡ false → in_described vats me peer c d l.new ≡ Some after → Reaches (parts_in d) l after

  behind_list : (l : Look) → IsClear l → IsPast (onward None (onward (Some 6) l))
  unfolding onward
  behind_list l (inl e) = inl e
  behind_list l (inr h) = inr (omega (arith, h))

  list_passing : (ds : Members) → AllPassing ds → PassingClear (ListOf ds)
  unfolding first_code parts_behind in_described onward numbered_by
  list_passing ds all l after some clear bad e =
      let g = all (onward None (onward (Some 6) l)) after (omega (arith, some)) (behind_list l clear) e in
      (g.0, number_reaches 6 (count ds) (parts_all ds) l (onward None (onward (Some 6) l)) some bad refl ∙ g.1, g.2, g.3, omega (arith, g.4))

  more_passing : (d : Described) (ds : Members) → PassingClear d → AllPassing ds → AllPassing (more d ds)
  unfolding parts_all in_members
  more_passing d ds first others l after some past e =
      let parts = gathered_by (in_members vats me peer c ds) (in_described vats me peer c d l.new) after e in
      let g = first l parts.0 some (clear_of l past) (past_bad (first_code d) l past) parts.1 in
      let h = others g.0 after (omega (arith, some, g.4)) (still_past l g.0 g.3 (omega (arith, g.4)) past) (ap (in_members vats me peer c ds) g.2 ∙ parts.2) in
      (h.0, joins (parts_in d) (parts_all ds) l (On g.0) g.1 ∙ h.1, h.2, h.3 ∙ g.3, omega (arith, g.4, h.4))

  none_passing : AllPassing none
  unfolding parts_all in_members
  none_passing l after some past e = (l, refl, same_gathered l.new after e, refl, omega arith)

  mutual
    unfolding first_code parts_behind in_described

    pub passing : (d : Described) → PassingClear d
    passing (Datum p) l after some clear bad e = plain_passing p l after some bad e
    passing (ListOf ds) l after some clear bad e = list_passing ds (all_passing ds) l after some clear bad e
    passing (Broken t) l after some clear bad e = with_other 8 l after some bad (same_gathered l.new after e)
    passing (YourExport n) l after some clear bad e = your_export_passing n l after some bad e
    passing (YourAnswer n) l after some clear bad e = your_answer_passing n l after some bad e
    passing (MyExport n) l after some clear bad e = my_export_passing n l after some bad e
    passing (MyPromise n) l after some clear bad e = my_promise_passing n l after some bad e
    passing (Third host s) l after some clear bad e = third_passing host s l after some bad e
    passing (MyAnswer n) l after some clear bad e = my_answer_passing n l after some bad e

    pub all_passing : (ds : Members) → AllPassing ds
    all_passing none l after some past e = none_passing l after some past e
    all_passing (more d ds) l after some past e = more_passing d ds (passing d) (all_passing ds) l after some past e

  -- the subject of what is told, with the place behind it
  subject_at : (b n : ℕ) (l : Look) (after : List Bool) → 1 ≤ l.index → is_bad_target vats me peer c b l ≡ false
      → ((m : Look) × (numbered_by vats me peer c n (Some b) (onward (Some b) l) ≡ On m) × (m.new ≡ after) × (m.op ≡ l.op) × (m.index ≡ suc (suc l.index))) → ReachesNext (Code b ∷ Number n ∷ []) l after
  subject_at b n l after some bad g = (g.0, number_reaches b n [] l g.0 some bad g.1, g.2, g.3, g.4)

  pub name_passing : (d : Described) → IsSubject d → (l : Look) (after : List Bool) → 1 ≤ l.index → is_bad_target vats me peer c (first_code d) l ≡ false → in_described vats me peer c d l.new ≡ Some after → ReachesNext (parts_in d) l after
  unfolding IsSubject first_code parts_behind in_described numbered_by onward
  name_passing (MyPromise n) is l after some bad e = subject_at 12 n l after some bad (position_goes false n (slice_get (c.imports ++ l.new) n) (onward (Some 12) l) after e)
  name_passing (MyAnswer n) is l after some bad e =
      subject_at 14 n l after some bad (onward None (onward (Some 14) l), tested (nat_lt n c.questions) (onward (Some 14) l) l.new after e, (allowed_by (nat_lt n c.questions) l.new after e).1, refl, refl)
  name_passing (Datum p) is l after some bad e = absurd is
  name_passing (ListOf ds) is l after some bad e = absurd is
  name_passing (Broken t) is l after some bad e = absurd is
  name_passing (YourExport n) is l after some bad e = absurd is
  name_passing (YourAnswer n) is l after some bad e = absurd is
  name_passing (MyExport n) is l after some bad e = absurd is
  name_passing (Third host s) is l after some bad e = absurd is
