-- The items of a frame judged by what they are, wherever they stand.
use Rattle.std.proofs.Common.{◌≡◌, ℕ, ◌≤◌, Bool, true, false, not, nat_lt, nat_eq, ◌==◌, ◌&&◌, ◌||◌, List, [], ◌∷◌, ◌++◌, map, Some, None, refl, ap, subst, sym, ◌∙◌, arith}
use Rattle.std.proofs.lemmas.Bool.{ne_eqb}
use Rattle.def_op.specs.declared.spots.Part.{Part}
use Rattle.def_op.specs.declared.spots.Part.TheVariants.{Code, Number, Vat, Swiss, Other}
use Rattle.def_op.specs.declared.spots.Spot.{Spot}
use Rattle.def_hostile.specs.Judge.{Counts, Look, Judged, Fine, Faulty, Passes, On, Off, passes_where, onward, begins, asks, is_bad_target, code_passes, number_passes, numbered_by, vat_passes, is_elsewhere, item_passes, judged, judged_on}

the_look : Look → Passes → Look
the_look d (On l) = l
the_look d Off = d

pub same_look : (l m : Look) → On l ≡ On m → l ≡ m
unfolding the_look
same_look l m e = ap (the_look l) e

the_kinds : List Bool → Judged → List Bool
the_kinds d (Fine new) = new
the_kinds d (Faulty place) = d

abbrev pub then_look : (Look → Passes) → Passes → Passes
then_look f (On l) = f l
then_look f Off = Off

module _ (vats me peer : ℕ) (c : Counts) where
  -- what is known behind these items
  abbrev pub run : List Part → Look → Passes
  run [] l = On l
  run (p ∷ ps) l = then_look (run ps) (item_passes vats me peer c p l)

  abbrev pub RunsTo : List Part → Look → List Bool → Type 0
  RunsTo ps l new = (m : Look) × (run ps l ≡ On m) × (m.new ≡ new)

  one_runs : (s : Spot) (ss : List Spot) (new : List Bool) (p : Passes) → ((k : Look) → judged vats me peer c ss k ≡ Fine new → RunsTo (map (λ (s : Spot). s.part) ss) k new)
      → judged_on vats me peer c s (λ k. judged vats me peer c ss k) p ≡ Fine new → (m : Look) × (then_look (run (map (λ (s : Spot). s.part) ss)) p ≡ On m) × (m.new ≡ new)
  unfolding judged_on
  one_runs s ss new (On k) others e = others k e
  one_runs s ss new Off others e = absurd cc

  -- items that are judged fine run to their new positions
  pub judged_runs : (ss : List Spot) (l : Look) (new : List Bool) → judged vats me peer c ss l ≡ Fine new → RunsTo (map (λ (s : Spot). s.part) ss) l new
  unfolding judged the_kinds
  judged_runs [] l new e = (l, refl, ap (the_kinds l.new) e)
  judged_runs (s ∷ ss) l new e = one_runs s ss new (item_passes vats me peer c s.part l) (λ k. judged_runs ss k new) e

  abbrev pub Meets : List Part → List Part → Look → Look → Type 0
  Meets ps qs l after = (m : Look) × (run ps l ≡ On m) × (run qs m ≡ On after)

  one_meets : (ps qs : List Part) (after : Look) (p : Passes) → ((k : Look) → run (ps ++ qs) k ≡ On after → Meets ps qs k after)
      → then_look (run (ps ++ qs)) p ≡ On after → (m : Look) × (then_look (run ps) p ≡ On m) × (run qs m ≡ On after)
  one_meets ps qs after (On k) others e = others k e
  one_meets ps qs after Off others e = absurd cc

  -- items behind others
  pub splits : (ps qs : List Part) (l after : Look) → run (ps ++ qs) l ≡ On after → Meets ps qs l after
  splits [] qs l after e = (l, refl, e)
  splits (p ∷ ps) qs l after e = one_meets ps qs after (item_passes vats me peer c p l) (λ k. splits ps qs k after) e

  -- ---- single items

  -- an item passes by a test
  pub passed : (ps : List Part) (b : Bool) (m after : Look) → then_look (run ps) (passes_where b m) ≡ On after → (b ≡ true) × (run ps m ≡ On after)
  unfolding passes_where
  passed ps true m after e = (refl, e)
  passed ps false m after e = absurd cc

  not_bad : (ps : List Part) (b : Bool) (m after : Look) → then_look (run ps) (passes_where (not b) m) ≡ On after → (b ≡ false) × (run ps m ≡ On after)
  unfolding passes_where
  not_bad ps false m after e = (refl, e)
  not_bad ps true m after e = absurd cc

  -- the first byte of a description
  pub code_runs : (b : ℕ) (ps : List Part) (l after : Look) → 1 ≤ l.index → run (Code b ∷ ps) l ≡ On after → (is_bad_target vats me peer c b l ≡ false) × (run ps (onward (Some b) l) ≡ On after)
  unfolding item_passes code_passes begins
  code_runs b ps l after some e =
      let none : nat_eq l.index 0 ≡ false = ne_eqb l.index 0 (λ z. omega (arith, some, z)) in
      let behind = passes_where (not (is_bad_target vats me peer c b l)) (onward (Some b) l) in
      let is : item_passes vats me peer c (Code b) l ≡ behind =
      subst (λ (v : Bool). (elim v as (λ _. Passes) [ true ↦ On (record l { index = 1; op = b }) | false ↦ behind ]) ≡ behind) (sym none) refl in
      not_bad ps (is_bad_target vats me peer c b l) (onward (Some b) l) after (sym (ap (then_look (run ps)) is) ∙ e)

  asks_not : (l : Look) → 2 ≤ l.index → asks vats me peer c l ≡ false
  unfolding asks
  asks_not l more = let none : nat_eq l.index 1 ≡ false = ne_eqb l.index 1 (λ z. omega (arith, more, z)) in rw none refl

  -- a number that is no question's
  pub number_runs : (n : ℕ) (ps : List Part) (l after : Look) → 2 ≤ l.index → run (Number n ∷ ps) l ≡ On after → then_look (run ps) (numbered_by vats me peer c n l.code l) ≡ On after
  unfolding item_passes number_passes
  number_runs n ps l after more e =
      let behind = numbered_by vats me peer c n l.code l in
      let is : item_passes vats me peer c (Number n) l ≡ behind =
      subst (λ (v : Bool). (elim v as (λ _. Passes) [ true ↦ passes_where (n == c.answers) (onward None l) | false ↦ behind ]) ≡ behind) (sym (asks_not l more)) refl in
      sym (ap (then_look (run ps)) is) ∙ e

  -- what is neither looked at
  pub other_runs : (ps : List Part) (l after : Look) → run (Other ∷ ps) l ≡ On after → run ps (onward None l) ≡ On after
  unfolding item_passes
  other_runs ps l after e = e

  pub swiss_runs : (s : ℕ) (ps : List Part) (l after : Look) → run (Swiss s ∷ ps) l ≡ On after → run ps (onward None l) ≡ On after
  unfolding item_passes
  swiss_runs s ps l after e = e

  pub vat_runs : (v : ℕ) (ps : List Part) (l after : Look) → run (Vat v ∷ ps) l ≡ On after
      → ((nat_lt v vats && (not (v == peer) && (is_elsewhere vats me peer c l.code || not (v == me)))) ≡ true) × (run ps (onward None l) ≡ On after)
  unfolding item_passes vat_passes
  vat_runs v ps l after e = passed ps (nat_lt v vats && (not (v == peer) && (is_elsewhere vats me peer c l.code || not (v == me)))) (onward None l) after e
