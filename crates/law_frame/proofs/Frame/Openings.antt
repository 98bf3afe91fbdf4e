-- What the opening turn of a vat makes of it in its own numbers.
use Rattle.std.proofs.Common.{◌≡◌, ℕ, zero, suc, ◌+◌, ◌≤◌, List, [], ◌∷◌, ◌++◌, Option, Some, None, refl, sym, ap, subst, ◌∙◌, length, map, append_assoc, arith}
use Rattle.std.specs.Prelude.{slice_get}
use Rattle.def_machine.specs.Values.{Name, Root, Local, Prom, naming, numbering}
use Rattle.def_machine.specs.State.{Vat, Gives, begun}
use Rattle.def_machine.specs.Scopes.{any_guard}
use Rattle.def_machine.specs.Eval.{opening}
use Rattle.law_machine.specs.Machine.Steps.{Opens as Starts, does}
use Rattle.law_machine.specs.Machine.Laws.{SameNames, SameMails}
use Rattle.law_machine.proofs.Machine.StepLaws.{names_stays, mails_stays}
use Rattle.def_run.specs.Draws.{draw_word}
use Rattle.def_run.specs.World as world
use Rattle.def_run.specs.World.{Script, Program, Opens, World, Run, Goes as Going, Stopped, readied, put_at}
use Rattle.law_fate.specs.Name.Names.{names_in}
use Rattle.law_fate.specs.Name.Runs.{KnowsOnce}
use Rattle.def_machine.specs.Maps as maps
use Rattle.law_machine.specs.Renamed.Renaming.{Wire as Wired}
use Rattle.law_machine.specs.Renamed.Stands.{Found, Is, IsTable, StandsFor, prom_found, found}
use Rattle.law_machine.proofs.Renamed.Steps.{openings_stand as turns_open}
use Rattle.law_reference.specs.Reference.Tables.{table_of}
use Rattle.law_reference.proofs.Reference.Moves.{opens_end}
use Rattle.law_reference.proofs.Reference.ApartWhole.{have_tables}
use Rattle.law_frame.specs.Frame.AlikeArrivals.{table_across}
use Rattle.law_frame.proofs.Frame.AlikeArrivals.{some_same, put_given, tables_join}
use Rattle.law_frame.specs.Frame.Steps.{given_by_numbers, opening_by_numbers, EndsFor, OpeningTurnsByNumbersStand}
use Rattle.law_frame.proofs.Frame.Own.{StayBut, stay_put, state_same, state_put, ends_with, ends_for, own_ends, known_on, stands_on, after_gives}

-- ---- a vat is as it was at the start until its own opening turn

opens_stay : (script : Script) (v : ℕ) (p : Program) (x y : World) (o : Option (Vat Name)) → world.within v x (Opens v ∷ []) v (opening (world.names script v) p.tree script.depth (Root v) (world.given script.vats p.knows)) o ≡ Going y → StayBut v x y
unfolding world.within
opens_stay script v p x y None e = cc
opens_stay script v p x y (Some s) e = let q = put_given script v x y (Opens v ∷ []) v (opening (world.names script v) p.tree script.depth (Root v) (world.given script.vats p.knows) (readied x s)) e in stay_put v q.0 x y q.2

then_stays : (r : Run) (f : World → Run) (u : ℕ) (x y : World) → world.then_goes r f ≡ Going y → ((z : World) → r ≡ Going z → f z ≡ Going y → slice_get y.vats u ≡ slice_get x.vats u) → slice_get y.vats u ≡ slice_get x.vats u
unfolding world.then_goes
then_stays (Going z) f u x y e g = g z refl e
then_stays (Stopped c k z) f u x y e g = cc

pub later_stay : (script : Script) (v : ℕ) (ps : List Program) (x y : World) → world.open_from script v ps x ≡ Going y → (u : ℕ) → v + length ps ≤ u → slice_get y.vats u ≡ slice_get x.vats u
unfolding world.open_from world.open_vat
later_stay script v [] x y e u h = ap (λ (z : World). slice_get z.vats u) (let same : y ≡ x = cc in same)
later_stay script v (p ∷ ps) x y e u h = then_stays (world.open_vat script v p x) (world.open_from script (suc v) ps) u x y e
    (λ z i j. later_stay script (suc v) ps z y j u (omega arith) ∙ opens_stay script v p x z (slice_get x.vats v) i u (λ k. less k (omega arith)))
  where
    less : v ≡ u → suc v ≤ u → ⊥
    less k l = omega arith

fresh_at : (script : Script) (v : ℕ) (front : List Program) (p : Program) (rest : List Program) → slice_get (world.fresh_from script v (front ++ p ∷ rest)) (length front) ≡ Some (world.fresh script (v + length front) p)
unfolding world.fresh_from
fresh_at script v [] p rest = let n : v ≡ v + 0 = omega arith in ap (λ z. Some (world.fresh script z p)) n
fresh_at script v (f ∷ front) p rest = let n : suc v + length front ≡ v + suc (length front) = omega arith in fresh_at script (suc v) front p rest ∙ ap (λ z. Some (world.fresh script z p)) n

pub begins_at : (script : Script) (ps rest : List Program) (p : Program) → script.vats ≡ ps ++ p ∷ rest → slice_get (world.begins script).vats (length ps) ≡ Some (world.fresh script (length ps) p)
unfolding world.begins
begins_at script ps rest p e = let n : 0 + length ps ≡ length ps = omega arith in ap (λ us. slice_get (world.fresh_from script zero us) (length ps)) e ∙ fresh_at script zero ps p rest ∙ ap (λ z. Some (world.fresh script z p)) n

-- ---- the roots that it knows then

pub root_first : (script : Script) (v : ℕ) (p : Program) → slice_get (names_in (world.fresh script v p).known) zero ≡ Some (Root v)
unfolding world.fresh world.known_root begun
root_first script v p = refl

root_at : (ws : List ℕ) (i w : ℕ) → slice_get ws i ≡ Some w → slice_get (names_in (map world.known_root ws)) i ≡ Some (Root w)
unfolding world.known_root begun
root_at [] i w e = cc
root_at (z ∷ ws) zero w e = let same : z ≡ w = cc in ap (λ a. Some (Root a)) same
root_at (z ∷ ws) (suc i) w e = root_at ws i w e

pub root_next : (script : Script) (v : ℕ) (p : Program) (i w : ℕ) → slice_get p.knows i ≡ Some w → slice_get (names_in (world.fresh script v p).known) (suc i) ≡ Some (Root w)
unfolding world.fresh
root_next script v p i w e = root_at p.knows i w e

pub prom_is : (x : World) (u : ℕ) (r : Vat Name) (k : ℕ) (n : Name) → slice_get (names_in r.known) k ≡ Some n → found u (table_across x u r) (Prom k) ≡ Is n
unfolding found prom_found table_across
prom_is x u r k n e = ap (prom_found k) e

pub given_same : (f : Local → Found) (ps : List Program) (k : ℕ) (ws : List ℕ) → ((i w : ℕ) → slice_get ws i ≡ Some w → f (Prom (k + i)) ≡ Is (Root w)) → map (maps.binding f) (given_by_numbers ps k ws) ≡ map (maps.binding Is) (world.given ps ws)
unfolding given_by_numbers world.given any_guard
given_same f ps k [] h = refl
given_same f ps k (w ∷ ws) h =
    let n : k + 0 ≡ k = omega arith in
    let first : f (Prom k) ≡ Is (Root w) = ap (λ j. f (Prom j)) (sym n) ∙ h zero w refl in
    let rest = given_same f ps (suc k) ws (λ i z e. let m : suc k + i ≡ k + suc i = omega arith in ap (λ j. f (Prom j)) m ∙ h (suc i) z e) in
    cc (first, rest)

-- ---- the turn

module _ (script : Script) (once : KnowsOnce script) (ps rest : List Program) (p : Program) (x y : World) (split : script.vats ≡ ps ++ p ∷ rest) (opened : world.open_from script zero ps (world.begins script) ≡ Going x) (opens : world.open_vat script (length ps) p x ≡ Going y)
    (s r : Vat Name) (there : slice_get x.vats (length ps) ≡ Some s) (after : slice_get y.vats (length ps) ≡ Some r) (q : Vat Local) (stands : StandsFor (length ps) (table_of x (length ps) s) q (readied x s)) where
  abbrev u : ℕ
  u = length ps

  abbrev word : ℕ → ℕ
  word = draw_word script.key

  abbrev F : Local → Found
  F = found u (table_across x u r)

  done : world.open_from script zero (ps ++ p ∷ []) (world.begins script) ≡ Going y
  done = let n : length ps ≡ 0 + length ps = omega arith in opens_end script ps p zero (world.begins script) x y opened (subst (λ z. world.open_vat script z p x ≡ Going y) n opens)

  is_table : IsTable u (table_across x u r)
  is_table = tables_join x y u s r ((have_tables script once).0 ps (p ∷ rest) x split opened u s there) ((have_tables script once).0 (ps ++ p ∷ []) rest y (split ∙ sym (append_assoc ps (p ∷ []) rest)) done u r after)

  is_fresh : s ≡ world.fresh script u p
  is_fresh = some_same s (world.fresh script u p) (sym there ∙ later_stay script zero ps (world.begins script) x opened u (omega arith) ∙ begins_at script ps rest p split)

  turned : (t : Vat Name) × (opening (naming word u) p.tree script.depth (Root u) (world.given script.vats p.knows) (readied x s) ≡ Gives tt t) × (y.vats ≡ put_at u t x.vats) → EndsFor x u s r (Some (opening (numbering {W = Wired} word) p.tree script.depth (Prom zero) (given_by_numbers script.vats 1 p.knows) q))
  unfolding does readied table_across
  turned b =
      let gave = world.given script.vats p.knows in
      let what = Starts p.tree script.depth (Root u) gave in
      let outcome : opening (naming word u) p.tree script.depth (Root u) gave (readied x s) ≡ Gives tt r = b.1 ∙ ap (λ z. Gives tt z) (state_put x y u s r b.0 there after b.2) in
      let same : SameNames (readied x s) r = after_gives SameNames (readied x s) r (does (naming word u) what (readied x s)) outcome (names_stays (naming word u) what (readied x s)) in
      let kept : SameMails (readied x s) r = after_gives SameMails (readied x s) r (does (naming word u) what (readied x s)) outcome (mails_stays (naming word u) what (readied x s)) in
      let at : (k : ℕ) (n : Name) → slice_get (names_in (world.fresh script u p).known) k ≡ Some n → F (Prom k) ≡ Is n = λ k n e. prom_is x u r k n (known_on s r same k n (ap (λ (z : Vat Name). slice_get (names_in z.known) k) is_fresh ∙ e)) in
      ends_for x u s r (opening (numbering {W = Wired} word) p.tree script.depth (Prom zero) (given_by_numbers script.vats 1 p.knows) q)
      (turns_open word u (table_across x u r) is_table p.tree script.depth (Prom zero) (Root u) (given_by_numbers script.vats 1 p.knows) gave (at zero (Root u) (root_first script u p)) (given_same F script.vats 1 p.knows (λ i w e. let n : suc i ≡ 1 + i = omega arith in subst (λ j. F (Prom j) ≡ Is (Root w)) n (at (suc i) (Root w) (root_next script u p i w e))))
      q (readied x s) (stands_on x u s (readied x s) r q same kept stands) (ends_with (table_across x u r) r (opening (naming word u) p.tree script.depth (Root u) gave (readied x s)) outcome refl refl)
      ∙ ap (λ d. maps.done Is (λ a. a) d) outcome)

  turn_ends : (o : Option (Vat Name)) → o ≡ Some s → world.within u x (Opens u ∷ []) u (opening (world.names script u) p.tree script.depth (Root u) (world.given script.vats p.knows)) o ≡ Going y → EndsFor x u s r (Some (opening (numbering {W = Wired} word) p.tree script.depth (Prom zero) (given_by_numbers script.vats 1 p.knows) q))
  unfolding world.within world.names
  turn_ends (Some t) i e = let same : t ≡ s = cc in turned (put_given script u x y (Opens u ∷ []) u (opening (naming word u) p.tree script.depth (Root u) (world.given script.vats p.knows) (readied x s)) (subst (λ z. world.put_back u x (Opens u ∷ []) u (opening (naming word u) p.tree script.depth (Root u) (world.given script.vats p.knows) (readied x z)) ≡ Going y) same e))
  turn_ends None i e = cc

-- u is that vat, or another
Ends : (script : Script) (x : World) (ps : List Program) (p : Program) (s r : Vat Name) (q : Vat Local) (u : ℕ) → Type 0
Ends script x ps p s r q u = EndsFor x u s r (Some (opening (numbering {W = Wired} (draw_word script.key)) p.tree script.depth (Prom zero) (given_by_numbers script.vats 1 p.knows) q))

pub openings_stand : OpeningTurnsByNumbersStand
unfolding opening_by_numbers world.open_vat Ends
openings_stand script once ps rest p x y split opened opens u s r there after q stands =
    own_ends x (length ps) u s r (Some (opening (numbering {W = Wired} (draw_word script.key)) p.tree script.depth (Prom zero) (given_by_numbers script.vats 1 p.knows) q))
    (λ i. subst (λ (z : ℕ). slice_get x.vats z ≡ Some s → slice_get y.vats z ≡ Some r → StandsFor z (table_of x z s) q (readied x s) → Ends script x ps p s r q z) i
    (λ there after stands. turn_ends script once ps rest p x y split opened opens s r there after q stands (slice_get x.vats (length ps)) there opens) there after stands)
    (λ o. state_same x y u s r there after (opens_stay script (length ps) p x y (slice_get x.vats (length ps)) opens u o))
