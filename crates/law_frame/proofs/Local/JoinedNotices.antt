-- Notices of cuts lead where the machine's do.
use Rattle.std.proofs.Common.{◌≡◌, ℕ, zero, ◌+◌, ◌<◌, List, [], ◌∷◌, ◌++◌, Option, Some, None, refl, sym, ap, ◌∙◌, subst, length}
use Rattle.std.specs.Prelude.{slice_get}
use Rattle.std.proofs.lemmas.Option.{slice_get_within}
use Rattle.def_machine.specs.Values.{Name, Local, naming}
use Rattle.def_machine.specs.State.{Vat, Stop, Done, Gives, Stops}
use Rattle.def_machine.specs.Arrive.{notice}
use Rattle.law_machine.specs.Machine.Steps.{Step, Notices, IsQuiet, does}
use Rattle.law_machine.proofs.Machine.StepEnds.{step_ends}
use Rattle.def_run.specs.Draws.{draw_word}
use Rattle.def_run.specs.World as machine
use Rattle.def_run.specs.World.{Script, Entry, NoticeLink, Event, NoticedAt, World, Goes, readied, put_back, within, heard_by, connections_after, step_number}
use Rattle.law_reference.specs.Reference.Knowing.{brought}
use Rattle.law_reference.proofs.Reference.NameTableSteps.{steps_know_once}
use Rattle.law_frame.specs.Frame.AlikeArrivals.{table_across}
use Rattle.law_frame.proofs.Stopping.Entries.{SoundIn, fits}
use Rattle.law_frame.proofs.Stopping.Parted.{notices}
use Rattle.law_frame.proofs.Stopping.Tables.{left_bounded, left_table}
use Rattle.law_frame.proofs.Local.ToldLaws.{messages_in_order, names_told}
use Rattle.def_run.specs.Vats.{Member}
use Rattle.def_run.specs.Numbers as numbers
use Rattle.def_run.specs.Numbers.{Vats, own_step}
use Rattle.law_frame.specs.Local.Joined.{IsLawful, NoticesMirror}
use Rattle.law_frame.specs.Local.Mirrors.{Mirrors, RunMirrors}
use Rattle.law_frame.specs.Local.Steps.{world_left}
use Rattle.law_frame.proofs.Local.Joined.{none_there, facts, sound}
use Rattle.law_frame.proofs.Local.JoinedSteps.{at_end, stops_on}
use Rattle.law_frame.proofs.Local.Positions.{there_is}
use Rattle.law_frame.proofs.Local.Turns.{notice_mirrors, notice_stops}

-- ---- notices

module _ (script : Script) (lawful : IsLawful script) (v u : ℕ) (w x : World) (X : Vats) (es rest : List Entry) (split : script.schedule ≡ es ++ NoticeLink v u ∷ rest)
    (opened : machine.open_from script zero script.vats (machine.begins script) ≡ Goes w) (stepped : machine.steps_from script es 1 w ≡ Goes x) (h : Mirrors x X) where
  abbrev n : ℕ
  n = 1 + length es

  abbrev head : List Event
  head = NoticedAt n v u ∷ []

  abbrev NoticeMirrors : Type 0
  NoticeMirrors = RunMirrors (machine.step script (NoticeLink v u) n x) (numbers.step script (NoticeLink v u) n X)

  none_notices : slice_get x.vats v ≡ None → NoticeMirrors
  unfolding machine.step within numbers.step numbers.notice_by step_number numbers.step_number
  none_notices e =
      subst (λ z. RunMirrors (within v x head (step_number script n) (notice (machine.names script v) u) z) (numbers.notice_by script n v u X (slice_get X.members v))) (sym e)
      (subst (λ z. RunMirrors (within v x head (step_number script n) (notice (machine.names script v) u) None) (numbers.notice_by script n v u X z)) (sym (none_there x.vats X.members v h.count e)) (refl, refl, h.drawn, h.history))

  module _ (s : Vat Name) (m : Member) (at : slice_get x.vats v ≡ Some s) (there : slice_get X.members v ≡ Some m) where
    abbrev d : Done Name (Unit {0})
    d = notice (machine.names script v) u (readied x s)

    abbrev l : Done Local (Unit {0})
    l = notice (numbers.numbers script) u (numbers.ready X m.vat)

    abbrev BothNotice : Type 0
    BothNotice = RunMirrors (put_back v x head (step_number script n) d) (numbers.after_step X v head (step_number script n) m (λ z. numbers.nothing_brought m) l)

    by_states : BothNotice → NoticeMirrors
    unfolding machine.step within numbers.step numbers.notice_by own_step step_number numbers.step_number
    by_states i =
        subst (λ z. RunMirrors (within v x head (step_number script n) (notice (machine.names script v) u) z) (numbers.notice_by script n v u X (slice_get X.members v))) (sym at)
        (subst (λ z. RunMirrors (put_back v x head (step_number script n) d) (numbers.notice_by script n v u X z)) (sym there) i)

    steps_on : (r : Vat Name) → d ≡ Gives tt r → machine.step script (NoticeLink v u) n x ≡ Goes (world_left x v r head x.connections)
    unfolding machine.step within put_back heard_by connections_after
    steps_on r e = ap (within v x head (step_number script n) (notice (machine.names script v) u)) at ∙ ap (put_back v x head (step_number script n)) e

    notice_goes : (r : Vat Name) → d ≡ Gives tt r → BothNotice
    notice_goes r e =
        let y = world_left x v r head x.connections in let after = at_end x X v s m r head h at there in
        notice_mirrors script n v x X s m r h at there u (step_number script n)
        (facts script lawful w x X es rest (NoticeLink v u) split opened stepped h v s m at there r head (steps_on r e)
        ((messages_in_order script lawful.0).1 w x y es (NoticeLink v u) 1 opened stepped (steps_on r e) s r at after)
        ((names_told script lawful.0).1 w x y es (NoticeLink v u) 1 opened stepped (steps_on r e) s r at after)) e

    notice_ends : (c : Stop) (r : Vat Name) → d ≡ Stops c r → BothNotice
    unfolding machine.names does readied table_across brought
    notice_ends c r e =
        let word = draw_word script.key in let what : Step Name Name = Notices u in let t : Vat Name = readied x s in
        let is : SoundIn x v s = sound script lawful w x X es rest (NoticeLink v u) split opened stepped h v s m at there in
        let b = left_bounded word v what t r c e (λ z. 0) (λ z. steps_know_once word v what t z) is.bounded.0 (fits x v s s.queue is.bounded) in
        let table = left_table word v what t r c e x b ((notices word v u).after t) is.kinds is.exports in
        notice_stops script v x X s m c r h at there (table_across x v r) table (stops_on word x v s t r what c e refl refl) refl refl u (step_number script n) head e

    some_notices : NoticeMirrors
    unfolding machine.names does
    some_notices = by_states (by d refl (step_ends (naming (draw_word script.key) v) (Notices u) (readied x s)))
      where
        by : (o : Done Name (Unit {0})) → d ≡ o → IsQuiet o → BothNotice
        by (Gives a r) i z = notice_goes r i
        by (Stops c r) i z = notice_ends c r i
        by other i z = absurd z

  notice_is : NoticeMirrors
  notice_is = by (slice_get x.vats v) refl
    where
      by : (o : Option (Vat Name)) → slice_get x.vats v ≡ o → NoticeMirrors
      by None e = none_notices e
      by (Some s) e = let m = there_is X.members v (subst (λ c. v < c) (sym h.count) (slice_get_within x.vats v s e)) in some_notices s m.0 e m.1

pub notices_so : NoticesMirror
notices_so script lawful v u w x X es rest split opened stepped h = notice_is script lawful v u w x X es rest split opened stepped h
