-- Turns and notices of runs lead where the machine's do.
use Rattle.std.proofs.Common.{◌≡◌, ℕ, zero, ◌+◌, ◌<◌, ◌≤◌, ◌-◌, List, [], ◌∷◌, ◌++◌, Option, Some, None, refl, sym, ap, ◌∙◌, subst, length, append_assoc}
use Rattle.std.specs.Prelude.{slice_get}
use Rattle.std.proofs.lemmas.Option.{slice_get_within}
use Rattle.def_machine.specs.Values.{Name, Local, naming}
use Rattle.def_machine.specs.State.{Message, Vat, Stop, Done, Gives, Stops}
use Rattle.def_machine.specs.Eval.{taking}
use Rattle.law_machine.specs.Machine.Steps.{Step, Takes, IsQuiet, does}
use Rattle.law_machine.proofs.Machine.StepEnds.{step_ends}
use Rattle.def_run.specs.Draws.{draw_word}
use Rattle.def_run.specs.World as machine
use Rattle.def_run.specs.World.{Script, Entry, Turn, Event, Turned, World, Goes, readied, put_back, within, heard_by, connections_after, tree_at, step_number}
use Rattle.law_fate.specs.Name.Names.{AllOf, names_in}
use Rattle.law_fate.specs.Name.Runs.{KnowsOnce}
use Rattle.law_fate.proofs.Name.Laws.{names_apart}
use Rattle.law_machine.specs.Renamed.Stands.{IsTable, StandsFor}
use Rattle.law_machine.proofs.Renamed.Stands.{Extends}
use Rattle.law_reference.specs.Reference.Cuts.{NoticesFollowCuts}
use Rattle.law_reference.specs.Reference.Knowing.{brought}
use Rattle.law_reference.specs.Reference.Tables.{table_of}
use Rattle.law_reference.proofs.Reference.AskHolds.{notices_front}
use Rattle.law_reference.proofs.Reference.ApartWhole.{bring_new, have_tables}
use Rattle.law_reference.proofs.Reference.KnownRuns.{steps_hold, opens_hold, begins_bounded}
use Rattle.law_reference.proofs.Reference.Moves.{steps_end}
use Rattle.law_reference.proofs.Reference.NameTableLaws.{exports_are_distinct, positions_are_of_one_name}
use Rattle.law_reference.proofs.Reference.NameTableSteps.{steps_know_once}
use Rattle.law_frame.specs.Frame.AlikeArrivals.{table_across}
use Rattle.law_frame.proofs.Frame.Untouched.{every_position}
use Rattle.law_frame.proofs.Heard.CutRuns.{exports_logged}
use Rattle.law_frame.proofs.Stopping.Entries.{SoundIn, fits}
use Rattle.law_frame.proofs.Stopping.Parted.{takes}
use Rattle.law_frame.proofs.Stopping.Tables.{left_bounded, left_table}
use Rattle.law_frame.specs.Local.Told.{IsTold, carried_by}
use Rattle.law_frame.proofs.Local.ToldLaws.{messages_in_order, lines_named, gifts_named, notes_named, names_told}
use Rattle.law_frame.proofs.Local.ToldPromises.{own_promises_ordered}
use Rattle.def_run.specs.Names.{own_mails}
use Rattle.def_run.specs.Vats.{Member}
use Rattle.def_run.specs.Numbers as numbers
use Rattle.def_run.specs.Numbers.{Vats}
use Rattle.law_frame.specs.Local.Joined.{IsLawful, TurnsMirror}
use Rattle.law_frame.specs.Local.Mirrors.{Mirrors, RunMirrors}
use Rattle.law_frame.specs.Local.Steps.{world_left, OwnStepStands}
use Rattle.law_frame.specs.Local.Writing.{PutsSo}
use Rattle.law_frame.proofs.Local.Closing.{idles_mirror}
use Rattle.law_frame.proofs.Local.JoinedSteps.{WentOn, at_end, step_facts, stops_on}
use Rattle.law_frame.proofs.Local.JoinedTells.{Laws, laws_tell}
use Rattle.law_frame.proofs.Local.Positions.{there_is}
use Rattle.law_frame.proofs.Local.Puts.{each_puts_so}
use Rattle.law_frame.proofs.Local.Turns.{turn_mirrors, turn_stops, turn_idles}

-- a vat is there on both sides, or on none
pub none_there : {A B : Type 0} (xs : List A) (ys : List B) (u : ℕ) → length ys ≡ length xs → slice_get xs u ≡ None → slice_get ys u ≡ None
none_there {A = A} {B = B} xs ys u e i = by (slice_get ys u) refl
  where
    clash : (x : A) → slice_get xs u ≡ Some x → ⊥
    clash x j = cc

    by : (o : Option B) → slice_get ys u ≡ o → o ≡ None
    by None j = refl
    by (Some y) j = let k = there_is xs u (subst (λ n. u < n) e (slice_get_within ys u y j)) in absurd (clash k.0 k.1)

-- ---- a world of a run, and an entry that is its next

module _ (script : Script) (lawful : IsLawful script) (w x : World) (X : Vats) (es rest : List Entry) (entry : Entry) (split : script.schedule ≡ es ++ entry ∷ rest)
    (opened : machine.open_from script zero script.vats (machine.begins script) ≡ Goes w) (stepped : machine.steps_from script es 1 w ≡ Goes x) (h : Mirrors x X) where
  abbrev once : KnowsOnce script
  once = lawful.0

  follow : NoticesFollowCuts es
  follow = notices_front script [] es (entry ∷ rest) (subst NoticesFollowCuts split lawful.1)

  follow_on : NoticesFollowCuts (es ++ entry ∷ [])
  follow_on = notices_front script [] (es ++ entry ∷ []) rest (subst NoticesFollowCuts (split ∙ sym (append_assoc es (entry ∷ []) rest)) lawful.1)

  abbrev k : ℕ
  k = 1 + length es

  module _ (u : ℕ) (s : Vat Name) (m : Member) (at : slice_get x.vats u ≡ Some s) (there : slice_get X.members u ≡ Some m) where
    module _ (r : Vat Name) (head : List Event) (steps : machine.step script entry k x ≡ Goes (world_left x u r head x.connections))
        (mails : (s.messages ≤ r.messages) × (r.mails ≡ s.mails ++ carried_by None ++ own_mails u s.messages (r.messages - s.messages)))
        (news : (ns : List Name) × (names_in r.known ≡ names_in s.known ++ ns) × AllOf (IsTold u s None r) ns) where
      abbrev y : World
      y = world_left x u r head x.connections

      later : machine.steps_from script (es ++ entry ∷ []) 1 w ≡ Goes y
      later = steps_end script es entry 1 w x y stepped steps

      after : slice_get y.vats u ≡ Some r
      after = at_end x X u s m r head h at there

      puts : PutsSo u r
      puts = (each_puts_so script once).1 w y (es ++ entry ∷ []) 1 opened later u r after

      laws : Laws u s r None
      laws = record {
        messages = mails;
        apart = (names_apart script once).1 w y (es ++ entry ∷ []) 1 opened later u r after;
        hosts = puts.hosts;
        lines = (lines_named script once).1 w y (es ++ entry ∷ []) 1 opened later u r after;
        notes = (notes_named script once).1 w y (es ++ entry ∷ []) 1 opened later u r after;
        gifts = (gifts_named script once).1 w y (es ++ entry ∷ []) 1 opened later u r after;
        news = news;
        own_before = (own_promises_ordered script once).1 w x es 1 opened stepped u s at;
        own_after = (own_promises_ordered script once).1 w y (es ++ entry ∷ []) 1 opened later u r after;
      }

      pub went_on : WentOn x y u s r
      went_on = record {
        tables = (have_tables script once).1 w y (es ++ entry ∷ []) 1 follow_on opened later;
        puts = puts;
        tells = laws_tell u s r laws;
        keeps = λ v. (every_position script once).1 w x y es entry 1 opened stepped steps v;
        hosts = λ a b. ((positions_are_of_one_name (λ i. i) script).1 w y (es ++ entry ∷ []) 1 opened later a b).1;
        logged = (exports_logged script once).1 w y (es ++ entry ∷ []) 1 follow_on opened later;
      }

      pub facts : Extends (table_of x u s) (table_of y u r) × IsTable u (table_of y u r) × ((p : Vat Local) → StandsFor u (table_of y u r) p r → OwnStepStands x X u s m r p head)
      facts = step_facts x X u s m r head h at there went_on

    abbrev word : ℕ → ℕ
    word = draw_word script.key

    pub sound : SoundIn x u s
    sound = record {
      bounded = steps_hold script es 1 w x (opens_hold script zero script.vats (machine.begins script) w (begins_bounded script once) opened) (bring_new script once w es 1 follow opened) stepped u s at;
      kinds = (names_apart script once).1 w x es 1 opened stepped u s at;
      exports = (exports_are_distinct script).1 w x es 1 opened stepped u;
    }

-- ---- turns

module _ (script : Script) (lawful : IsLawful script) (u : ℕ) (w x : World) (X : Vats) (es rest : List Entry) (split : script.schedule ≡ es ++ Turn u ∷ rest)
    (opened : machine.open_from script zero script.vats (machine.begins script) ≡ Goes w) (stepped : machine.steps_from script es 1 w ≡ Goes x) (h : Mirrors x X) where
  abbrev n : ℕ
  n = 1 + length es

  abbrev TurnMirrors : Type 0
  TurnMirrors = RunMirrors (machine.step script (Turn u) n x) (numbers.step script (Turn u) n X)

  none_turns : slice_get x.vats u ≡ None → TurnMirrors
  unfolding machine.step machine.turn numbers.step numbers.turn
  none_turns e =
      subst (λ z. RunMirrors (machine.turn script n u x z) (numbers.turn script n u X (slice_get X.members u))) (sym e)
      (subst (λ z. RunMirrors (machine.turn script n u x None) (numbers.turn script n u X z)) (sym (none_there x.vats X.members u h.count e)) (idles_mirror script n x X h))

  module _ (s : Vat Name) (m : Member) (at : slice_get x.vats u ≡ Some s) (there : slice_get X.members u ≡ Some m) where
    -- both sides look at their queues
    by_queues : RunMirrors (machine.turn_queue script n u x s s.queue) (numbers.turn_queue script n u X m m.vat.queue) → TurnMirrors
    unfolding machine.step machine.turn numbers.step numbers.turn
    by_queues i =
        subst (λ z. RunMirrors (machine.turn script n u x z) (numbers.turn script n u X (slice_get X.members u))) (sym at)
        (subst (λ z. RunMirrors (machine.turn_queue script n u x s s.queue) (numbers.turn script n u X z)) (sym there) i)

    module _ (q : Message Name) (qs : List (Message Name)) (queue : s.queue ≡ q ∷ qs) where
      abbrev t : Vat Name
      t = readied x (record s { queue = qs })

      abbrev d : Done Name (Unit {0})
      d = taking (machine.names script u) (tree_at script.vats u) script.depth q t

      abbrev BothTake : Type 0
      BothTake = RunMirrors (machine.turn_queue script n u x s (q ∷ qs)) (numbers.turn_queue script n u X m m.vat.queue)

      takes_on : (r : Vat Name) → d ≡ Gives tt r → machine.turn_queue script n u x s (q ∷ qs) ≡ Goes (world_left x u r (Turned n u ∷ []) x.connections)
      unfolding machine.turn_queue within put_back heard_by connections_after
      takes_on r e = ap (put_back u x (Turned n u ∷ []) (step_number script n)) e

      steps_on : (r : Vat Name) → d ≡ Gives tt r → machine.step script (Turn u) n x ≡ Goes (world_left x u r (Turned n u ∷ []) x.connections)
      unfolding machine.step machine.turn
      steps_on r e = ap (machine.turn script n u x) at ∙ ap (machine.turn_queue script n u x s) queue ∙ takes_on r e

      turn_goes : (r : Vat Name) → d ≡ Gives tt r → BothTake
      turn_goes r e =
          let head : List Event = Turned n u ∷ [] in let y = world_left x u r head x.connections in let after = at_end x X u s m r head h at there in
          turn_mirrors script n u x X s m r h at there n q qs
          (facts script lawful w x X es rest (Turn u) split opened stepped h u s m at there r head (steps_on r e)
          ((messages_in_order script lawful.0).1 w x y es (Turn u) 1 opened stepped (steps_on r e) s r q qs at after queue)
          ((names_told script lawful.0).1 w x y es (Turn u) 1 opened stepped (steps_on r e) s r q qs at after queue)) queue e

      turn_ends : (c : Stop) (r : Vat Name) → d ≡ Stops c r → BothTake
      unfolding machine.names does readied table_across brought
      turn_ends c r e =
          let word = draw_word script.key in let what : Step Name Name = Takes (tree_at script.vats u) script.depth q in
          let is : SoundIn x u s = sound script lawful w x X es rest (Turn u) split opened stepped h u s m at there in
          let b = left_bounded word u what t r c e (λ z. 0) (λ z. steps_know_once word u what t z) is.bounded.0 (fits x u s qs is.bounded) in
          let table = left_table word u what t r c e x b ((takes word u (tree_at script.vats u) script.depth q).after t) is.kinds is.exports in
          turn_stops script u x X s m c r h at there (table_across x u r) table (stops_on word x u s t r what c e refl refl) refl refl n q qs queue e

      both_take : BothTake
      unfolding machine.names does
      both_take = by d refl (step_ends (naming (draw_word script.key) u) (Takes (tree_at script.vats u) script.depth q) t)
        where
          by : (o : Done Name (Unit {0})) → d ≡ o → IsQuiet o → BothTake
          by (Gives a r) i z = turn_goes r i
          by (Stops c r) i z = turn_ends c r i
          by other i z = absurd z

    some_turns : TurnMirrors
    some_turns = by_queues (by s.queue refl)
      where
        by : (ms : List (Message Name)) → s.queue ≡ ms → RunMirrors (machine.turn_queue script n u x s ms) (numbers.turn_queue script n u X m m.vat.queue)
        by [] e = turn_idles script n u x X s m h at there e
        by (q ∷ qs) e = both_take q qs e

  turn_is : TurnMirrors
  turn_is = by (slice_get x.vats u) refl
    where
      by : (o : Option (Vat Name)) → slice_get x.vats u ≡ o → TurnMirrors
      by None e = none_turns e
      by (Some s) e = let m = there_is X.members u (subst (λ c. u < c) (sym h.count) (slice_get_within x.vats u s e)) in some_turns s m.0 e m.1

pub turns_so : TurnsMirror
turns_so script lawful u w x X es rest split opened stepped h = turn_is script lawful u w x X es rest split opened stepped h
