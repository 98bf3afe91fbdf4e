-- Opening turns lead where the machine's do.
use Rattle.std.proofs.Common.{◌≡◌, ℕ, zero, suc, ◌+◌, ◌<◌, List, [], ◌∷◌, ◌++◌, Some, None, refl, sym, ap, ◌∙◌, subst, length, append_assoc, arith}
use Rattle.std.specs.Prelude.{slice_get}
use Rattle.std.proofs.lemmas.Option.{slice_get_within}
use Rattle.def_machine.specs.Values.{Name, Root, Prom, naming}
use Rattle.def_machine.specs.State.{Vat, Stop, Done, Gives, Stops}
use Rattle.def_machine.specs.Eval.{opening}
use Rattle.law_machine.specs.Machine.Steps.{Step, Opens as Starts, IsQuiet, does}
use Rattle.law_machine.proofs.Machine.StepEnds.{step_ends}
use Rattle.def_run.specs.Draws.{draw_word}
use Rattle.def_run.specs.World as machine
use Rattle.def_run.specs.World.{Script, Program, Opens, World, Goes, readied, put_back, within, heard_by, connections_after}
use Rattle.law_fate.specs.Name.Names.{names_in}
use Rattle.law_fate.specs.Name.Runs.{KnowsOnce}
use Rattle.law_fate.proofs.Name.Laws.{names_apart}
use Rattle.law_machine.specs.Renamed.Stands.{Table, Is, found, prom_found}
use Rattle.law_machine.proofs.Renamed.Stands.{Extends}
use Rattle.law_reference.specs.Reference.Knowing.{brought}
use Rattle.law_reference.specs.Reference.Tables.{table_of}
use Rattle.law_reference.proofs.Reference.ApartWhole.{have_tables}
use Rattle.law_reference.proofs.Reference.KnownRuns.{opens_hold, begins_bounded}
use Rattle.law_reference.proofs.Reference.Moves.{opens_end}
use Rattle.law_reference.proofs.Reference.NameTableLaws.{exports_are_distinct, positions_are_of_one_name}
use Rattle.law_reference.proofs.Reference.NameTableSteps.{steps_know_once}
use Rattle.law_frame.specs.Frame.AlikeArrivals.{table_across}
use Rattle.law_frame.proofs.Frame.Openings.{later_stay, begins_at, root_first, root_next}
use Rattle.law_frame.proofs.Frame.Untouched.{every_position}
use Rattle.law_frame.proofs.Heard.CutRuns.{exports_logged}
use Rattle.law_frame.proofs.Stopping.Entries.{SoundIn, fits}
use Rattle.law_frame.proofs.Stopping.Parted.{opens}
use Rattle.law_frame.proofs.Stopping.Tables.{left_bounded, left_table}
use Rattle.law_frame.proofs.Local.ToldLaws.{messages_in_order, lines_named, gifts_named, notes_named, names_told}
use Rattle.law_frame.proofs.Local.ToldPromises.{own_promises_ordered}
use Rattle.def_run.specs.Vats.{Member}
use Rattle.def_run.specs.Numbers as numbers
use Rattle.def_run.specs.Numbers.{Vats}
use Rattle.law_frame.specs.Local.Joined.{OpeningsMirror}
use Rattle.law_frame.specs.Local.Mirrors.{Mirrors, RunMirrors}
use Rattle.law_frame.specs.Local.Steps.{world_left}
use Rattle.law_frame.specs.Local.Writing.{PutsSo}
use Rattle.law_frame.proofs.Local.JoinedSteps.{WentOn, at_end, step_facts, stops_on}
use Rattle.law_frame.proofs.Local.JoinedTells.{Laws, laws_tell}
use Rattle.law_frame.proofs.Local.OpeningTurns.{opening_mirrors, opening_stops}
use Rattle.law_frame.proofs.Local.Positions.{there_is}
use Rattle.law_frame.proofs.Local.Puts.{each_puts_so}

module _ (script : Script) (once : KnowsOnce script) (ps rest : List Program) (p : Program) (x : World) (X : Vats) (split : script.vats ≡ ps ++ p ∷ rest)
    (opened : machine.open_from script zero ps (machine.begins script) ≡ Goes x) (h : Mirrors x X) where
  abbrev u : ℕ
  u = length ps

  -- the vat is as it was at the start
  abbrev s : Vat Name
  s = machine.fresh script u p

  pub at : slice_get x.vats u ≡ Some s
  at = later_stay script zero ps (machine.begins script) x opened u (omega arith) ∙ begins_at script ps rest p split

  abbrev word : ℕ → ℕ
  word = draw_word script.key

  abbrev d : Done Name (Unit {0})
  d = opening (machine.names script u) p.tree script.depth (Root u) (machine.given script.vats p.knows) (readied x s)

  -- its roots are the first in each later table
  module _ (t : Table) (more : Extends (table_of x u s) t) where
    named_at : (k : ℕ) (n : Name) → slice_get (names_in s.known) k ≡ Some n → found u t (Prom k) ≡ Is n
    unfolding found prom_found table_of
    named_at k n e = ap (prom_found k) (more.names k n e)

    pub root : found u t (Prom zero) ≡ Is (Root u)
    root = named_at zero (Root u) (root_first script u p)

    pub roots : (i w : ℕ) → slice_get p.knows i ≡ Some w → found u t (Prom (i + 1)) ≡ Is (Root w)
    roots i w e = let n : suc i ≡ i + 1 = omega arith in subst (λ k. found u t (Prom k) ≡ Is (Root w)) n (named_at (suc i) (Root w) (root_next script u p i w e))

  module _ (m : Member) (there : slice_get X.members u ≡ Some m) where
    abbrev OpeningMirrors : Type 0
    OpeningMirrors = RunMirrors (machine.open_vat script u p x) (numbers.open_member script u p X (slice_get X.members u))

    module _ (r : Vat Name) (e : d ≡ Gives tt r) where
      abbrev y : World
      y = world_left x u r (Opens u ∷ []) x.connections

      pub goes : machine.open_vat script u p x ≡ Goes y
      unfolding machine.open_vat within put_back heard_by connections_after
      goes = ap (within u x (Opens u ∷ []) u (opening (machine.names script u) p.tree script.depth (Root u) (machine.given script.vats p.knows))) at ∙ ap (put_back u x (Opens u ∷ []) u) e

      split_on : script.vats ≡ (ps ++ p ∷ []) ++ rest
      split_on = split ∙ sym (append_assoc ps (p ∷ []) rest)

      done : machine.open_from script zero (ps ++ p ∷ []) (machine.begins script) ≡ Goes y
      done = let n : length ps ≡ 0 + length ps = omega arith in opens_end script ps p zero (machine.begins script) x y opened (subst (λ z. machine.open_vat script z p x ≡ Goes y) n goes)

      after : slice_get y.vats u ≡ Some r
      after = at_end x X u s m r (Opens u ∷ []) h at there

      puts : PutsSo u r
      puts = (each_puts_so script once).0 (ps ++ p ∷ []) rest y split_on done u r after

      laws : Laws u s r None
      laws = record {
        messages = (messages_in_order script once).0 ps rest p x y split opened goes s r at after;
        apart = (names_apart script once).0 (ps ++ p ∷ []) rest y split_on done u r after;
        hosts = puts.hosts;
        lines = (lines_named script once).0 (ps ++ p ∷ []) rest y split_on done u r after;
        notes = (notes_named script once).0 (ps ++ p ∷ []) rest y split_on done u r after;
        gifts = (gifts_named script once).0 (ps ++ p ∷ []) rest y split_on done u r after;
        news = (names_told script once).0 ps rest p x y split opened goes s r at after;
        own_before = (own_promises_ordered script once).0 ps (p ∷ rest) x split opened u s at;
        own_after = (own_promises_ordered script once).0 (ps ++ p ∷ []) rest y split_on done u r after;
      }

      pub went_on : WentOn x y u s r
      went_on = record {
        tables = (have_tables script once).0 (ps ++ p ∷ []) rest y split_on done;
        puts = puts;
        tells = laws_tell u s r laws;
        keeps = λ v. (every_position script once).0 ps rest p x y split opened goes v;
        hosts = λ a b. ((positions_are_of_one_name (λ i. i) script).0 (ps ++ p ∷ []) y done a b).1;
        logged = (exports_logged script once).0 (ps ++ p ∷ []) rest y split_on done;
      }

      opening_goes : OpeningMirrors
      unfolding table_of
      opening_goes = let f = step_facts x X u s m r (Opens u ∷ []) h at there went_on in let t = table_of y u r in
          opening_mirrors script u p x X s m r h at there t f.1 f.0 refl refl (root t f.0) (roots t f.0) e f.2

    opening_ends : (c : Stop) (r : Vat Name) → d ≡ Stops c r → OpeningMirrors
    unfolding machine.names does readied table_across brought
    opening_ends c r e =
        let gave = machine.given script.vats p.knows in let q : Vat Name = readied x s in let what : Step Name Name = Starts p.tree script.depth (Root u) gave in let t = table_across x u r in
        let is : SoundIn x u s = record {
          bounded = opens_hold script zero ps (machine.begins script) x (begins_bounded script once) opened u s at;
          kinds = (names_apart script once).0 ps (p ∷ rest) x split opened u s at;
          exports = (exports_are_distinct script).0 ps x opened u;
        } in
        let b = left_bounded word u what q r c e (λ z. 0) (λ z. steps_know_once word u what q z) is.bounded.0 (fits x u s s.queue is.bounded) in
        let table = left_table word u what q r c e x b ((opens word u p.tree script.depth (Root u) gave).after q) is.kinds is.exports in
        let more : Extends (table_of x u s) t = stops_on word x u s q r what c e refl refl in
        opening_stops script u p x X s m r h at there t table more refl refl (root t more) (roots t more) c e

    opening_is : OpeningMirrors
    unfolding machine.names does
    opening_is = by d refl (step_ends (naming word u) (Starts p.tree script.depth (Root u) (machine.given script.vats p.knows)) (readied x s))
      where
        by : (o : Done Name (Unit {0})) → d ≡ o → IsQuiet o → OpeningMirrors
        by (Gives a r) i z = opening_goes r i
        by (Stops c r) i z = opening_ends c r i
        by other i z = absurd z

pub openings_so : OpeningsMirror
openings_so script once ps rest p x X split opened h =
    let m = there_is X.members (length ps) (subst (λ c. length ps < c) (sym h.count) (slice_get_within x.vats (length ps) (machine.fresh script (length ps) p) (at script once ps rest p x X split opened h))) in
    opening_is script once ps rest p x X split opened h m.0 m.1
