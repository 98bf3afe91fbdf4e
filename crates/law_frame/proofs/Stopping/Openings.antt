-- Where an opening turn stops a run, its vat stops by its own numbers, and every other vat takes no step.
use Rattle.std.proofs.Common.{◌≡◌, ℕ, zero, suc, ◌+◌, List, [], ◌∷◌, ◌++◌, Option, Some, None, refl, sym, ap, subst, ◌∙◌, length, arith}
use Rattle.std.specs.Prelude.{slice_get}
use Rattle.def_machine.specs.Values.{Name, Root, Local, Prom, naming, numbering}
use Rattle.def_machine.specs.State.{Vat, Stop, Stops}
use Rattle.def_machine.specs.Eval.{opening}
use Rattle.law_machine.specs.Machine.Steps.{Step, Opens as Starts, does}
use Rattle.law_machine.specs.Machine.Laws.{SameNames, SameMails}
use Rattle.law_machine.proofs.Machine.StepLaws.{names_stays, mails_stays}
use Rattle.law_machine.proofs.Machine.StepEnds.{step_ends}
use Rattle.def_run.specs.Draws.{draw_word}
use Rattle.def_run.specs.World as world
use Rattle.def_run.specs.World.{Script, Program, Opens, World, Goes as Going, Stopped, readied}
use Rattle.law_fate.specs.Name.Names.{names_in}
use Rattle.law_fate.specs.Name.Runs.{KnowsOnce}
use Rattle.law_fate.proofs.Name.Laws.{names_apart}
use Rattle.def_machine.specs.Maps as maps
use Rattle.law_machine.specs.Renamed.Renaming.{Wire as Wired}
use Rattle.law_machine.specs.Renamed.Stands.{Is, StandsFor, found}
use Rattle.law_machine.proofs.Renamed.Steps.{openings_stand as turns_open}
use Rattle.law_reference.specs.Reference.Knowing.{brought}
use Rattle.law_reference.specs.Reference.Tables.{table_of}
use Rattle.law_reference.proofs.Reference.KnownRuns.{opens_hold, begins_bounded}
use Rattle.law_reference.proofs.Reference.NameTableLaws.{exports_are_distinct}
use Rattle.law_reference.proofs.Reference.NameTableSteps.{steps_know_once}
use Rattle.law_frame.specs.Frame.AlikeArrivals.{table_across}
use Rattle.law_frame.specs.Frame.Steps.{given_by_numbers, opening_by_numbers}
use Rattle.law_frame.proofs.Frame.AlikeArrivals.{some_same}
use Rattle.law_frame.proofs.Frame.Own.{known_on, stands_on}
use Rattle.law_frame.proofs.Frame.Openings.{later_stay, begins_at, root_first, root_next, prom_is, given_same}
use Rattle.law_frame.specs.Stopping.Stops.{OpeningTurnsStopByNumbers}
use Rattle.law_frame.proofs.Stopping.Parted.{opens}
use Rattle.law_frame.proofs.Stopping.Tables.{after_stops, left_bounded, left_table}
use Rattle.law_frame.proofs.Stopping.Entries.{SoundIn, fits, stops_in, stop_ends, put_stops, own_stops}

module _ (script : Script) (once : KnowsOnce script) (ps rest : List Program) (p : Program) (x : World) (split : script.vats ≡ ps ++ p ∷ rest) (opened : world.open_from script zero ps (world.begins script) ≡ Going x)
    (s : Vat Name) (there : slice_get x.vats (length ps) ≡ Some s) (q : Vat Local) (stands : StandsFor (length ps) (table_of x (length ps) s) q (readied x s)) (c : Stop) where
  abbrev u : ℕ
  u = length ps

  abbrev word : ℕ → ℕ
  word = draw_word script.key

  is : SoundIn x u s
  is = record {
    bounded = opens_hold script zero ps (world.begins script) x (begins_bounded script once) opened u s there;
    kinds = (names_apart script once).0 ps (p ∷ rest) x split opened u s there;
    exports = (exports_are_distinct script).0 ps x opened u;
  }

  is_fresh : s ≡ world.fresh script u p
  is_fresh = some_same s (world.fresh script u p) (sym there ∙ later_stay script zero ps (world.begins script) x opened u (omega arith) ∙ begins_at script ps rest p split)

  opened_stops : (r : Vat Name) → opening (naming word u) p.tree script.depth (Root u) (world.given script.vats p.knows) (readied x s) ≡ Stops c r
      → (z : Vat Local) × (opening (numbering {W = Wired} word) p.tree script.depth (Prom zero) (given_by_numbers script.vats 1 p.knows) q ≡ Stops c z)
  unfolding does readied table_across brought
  opened_stops r outcome =
      let gave = world.given script.vats p.knows in let t : Vat Name = readied x s in let what : Step Name Name = Starts p.tree script.depth (Root u) gave in
      let F = found u (table_across x u r) in
      let b = left_bounded word u what t r c outcome (λ z. 0) (λ z. steps_know_once word u what t z) is.bounded.0 (fits x u s s.queue is.bounded) in
      let table = left_table word u what t r c outcome x b ((opens word u p.tree script.depth (Root u) gave).after t) is.kinds is.exports in
      let same : SameNames t r = after_stops SameNames t r c (does (naming word u) what t) outcome (names_stays (naming word u) what t) in
      let kept : SameMails t r = after_stops SameMails t r c (does (naming word u) what t) outcome (mails_stays (naming word u) what t) in
      let at : (k : ℕ) (n : Name) → slice_get (names_in (world.fresh script u p).known) k ≡ Some n → F (Prom k) ≡ Is n = λ k n e. prom_is x u r k n (known_on s r same k n (ap (λ (z : Vat Name). slice_get (names_in z.known) k) is_fresh ∙ e)) in
      stops_in F (opening (numbering {W = Wired} word) p.tree script.depth (Prom zero) (given_by_numbers script.vats 1 p.knows) q) c (maps.vat Is r)
      (turns_open word u (table_across x u r) table p.tree script.depth (Prom zero) (Root u) (given_by_numbers script.vats 1 p.knows) gave (at zero (Root u) (root_first script u p)) (given_same F script.vats 1 p.knows (λ i w e. let n : suc i ≡ 1 + i = omega arith in subst (λ j. F (Prom j) ≡ Is (Root w)) n (at (suc i) (Root w) (root_next script u p i w e))))
      q t (stands_on x u s t r q same kept stands) (stop_ends (table_across x u r) r c (opening (naming word u) p.tree script.depth (Root u) gave t) outcome refl refl)
      ∙ ap (λ d. maps.done Is (λ a. a) d) outcome)

  turn_stops : (y : World) (n : ℕ) (o : Option (Vat Name)) → o ≡ Some s → world.within u x (Opens u ∷ []) u (opening (world.names script u) p.tree script.depth (Root u) (world.given script.vats p.knows)) o ≡ Stopped c n y
      → (z : Vat Local) × (opening (numbering {W = Wired} word) p.tree script.depth (Prom zero) (given_by_numbers script.vats 1 p.knows) q ≡ Stops c z)
  unfolding world.within world.names does
  turn_stops y n None i e = absurd (none_some i)
    where
      none_some : None ≡ Some s → ⊥
      none_some f = cc
  turn_stops y n (Some t) i e = let same : t ≡ s = cc in let gave = world.given script.vats p.knows in
      let o = put_stops script u x y (Opens u ∷ []) u n c (opening (naming word u) p.tree script.depth (Root u) gave (readied x s)) (step_ends (naming word u) (Starts p.tree script.depth (Root u) gave) (readied x s))
      (subst (λ z. world.put_back u x (Opens u ∷ []) u (opening (naming word u) p.tree script.depth (Root u) gave (readied x z)) ≡ Stopped c n y) same e) in
      opened_stops o.0 o.1

pub openings_stop : OpeningTurnsStopByNumbers
unfolding opening_by_numbers world.open_vat
openings_stop script once ps rest p x y n c split opened stops u s there q stands = own_stops (length ps) u c (Some (opening (numbering {W = Wired} (draw_word script.key)) p.tree script.depth (Prom zero) (given_by_numbers script.vats 1 p.knows) q))
    (λ i. let z = turn_stops script once ps rest p x split opened s (subst (λ v. slice_get x.vats v ≡ Some s) (sym i) there) q (subst (λ v. StandsFor v (table_of x v s) q (readied x s)) (sym i) stands) c y n (slice_get x.vats (length ps)) (subst (λ v. slice_get x.vats v ≡ Some s) (sym i) there) stops in (z.0, ap Some z.1))
