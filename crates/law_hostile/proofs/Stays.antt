-- Laws of runs with hostile vats, each by one lift.
use Rattle.std.proofs.Common.{ℕ, [], refl}
use Rattle.def_machine.specs.Values.{Name, Root, naming}
use Rattle.def_machine.specs.State.{Vat}
use Rattle.law_machine.specs.Machine.Laws.{SettledStays, NoticedStays}
use Rattle.law_machine.proofs.Machine.ArriveKeeps.{keeps_receive}
use Rattle.law_machine.proofs.Machine.StepLaws.{noticed_law, noticed_names, noticed_stays, settled_law, settled_names, settled_stays}
use Rattle.def_run.specs.Draws.{draw_word}
use Rattle.def_run.specs.World as world
use Rattle.def_run.specs.World.{Script, readied, names}
use Rattle.law_machine.proofs.Run.RunKeeps.{IsKeptInRuns}
use Rattle.law_fate.specs.Name.Names.{names_in}
use Rattle.law_reference.specs.Reference.Views.{ViewsWait}
use Rattle.law_reference.proofs.Reference.ViewsGo.{views_gentle, go_same, ViewsGo}
use Rattle.law_reference.proofs.Reference.ViewsRuns.{new_gifts, tells_none, views_wait_in_runs}
use Rattle.law_reference.proofs.Reference.ViewsSteps.{views_taking, views_opening, views_notice, views_arrive}
use Rattle.law_reference.proofs.Reference.OwnRuns.{Any, own_keep, begins_own, InScript}
use Rattle.law_reference.proofs.Reference.RunLift.{StepsKeep}
use Rattle.law_hostile.specs.Hostile as hostile
use Rattle.law_hostile.proofs.Lifts.{IsKeptByDeeds, single_deeds, gentle_deeds, leads_each, says_keeps, hear_keeps, reached_all}
use Rattle.law_machine.proofs.Run.Honest.{honest_reached}
use Rattle.law_hostile.proofs.Known.{names_are_known}
use Rattle.law_hostile.proofs.Ends.{heard_own, runs_are_reached, notes_name_their_ends, deeds_own, ready_clean, said_its}

module _ (script : Script) where
  notices : IsKeptInRuns script (λ v. NoticedStays)
  unfolding readied
  notices = record { same = λ v s i e. e; trans = λ v s t u h k i e. k i (h i e); steps = λ v what s. noticed_stays (names script v) what s; ready = λ v w s i e. e; taken = λ v s ms i e. e }

  settlings : IsKeptInRuns script (λ v. SettledStays (names script v))
  unfolding readied
  settlings = record { same = λ v s. (settled_law (names script v)).same s; trans = λ v s t u h k. (settled_law (names script v)).trans {s = s} {t = t} {u = u} h k; steps = λ v what s. settled_stays (names script v) what s; ready = λ v w s. (settled_law (names script v)).same s; taken = λ v s ms. (settled_law (names script v)).same s }

  settling_deeds : (v : ℕ) → IsKeptByDeeds v (SettledStays (names script v))
  unfolding names
  settling_deeds v = single_deeds (draw_word script.key) v (SettledStays (naming (draw_word script.key) v)) (settled_law (naming (draw_word script.key) v)) (settled_names (naming (draw_word script.key) v))

  views_keep : StepsKeep script (λ v s. ViewsWait (names script v) s.known) (Any script)
  unfolding names world.names_of readied
  views_keep = record {
    turn = λ w v s m ms g i q h. views_taking (draw_word script.key) v (world.tree_at script.vats v) script.depth m (readied w (record s { queue = ms })) h;
    note = λ w from v s n g i ok h. views_arrive (draw_word script.key) v from (names_in s.known) n (readied w s) h (new_gifts script w v s g i) (tells_none script w s n ok);
    notice = λ w v to s g i ok h. views_notice (draw_word script.key) v to (readied w s) h;
    opening = λ w v p s g i h. views_opening (draw_word script.key) v p.tree script.depth (Root v) (world.given script.vats p.knows) (readied w s) h;
  }

  -- what goes so has its views wait
  gone : (v : ℕ) (s t : Vat Name) → ViewsGo (names script v) s t → ViewsWait (names script v) s.known → ViewsWait (names script v) t.known
  gone v s t go h n g e = let b = go n g e in b.1 (h n g b.0)

  view_deeds : (v : ℕ) → IsKeptByDeeds v (ViewsGo (names script v))
  unfolding names
  view_deeds v = gentle_deeds (draw_word script.key) v (ViewsGo (naming (draw_word script.key) v)) (views_gentle (naming (draw_word script.key) v)) (λ s x. go_same (naming (draw_word script.key) v) s.known)

  readied_go : (v : ℕ) (w : world.World) (s : Vat Name) → ViewsWait (names script v) s.known → ViewsWait (names script v) (readied w s).known
  unfolding readied
  readied_go v w s h = h

pub notices_stay : hostile.NoticesStay
notices_stay script hs w x ys p = leads_each script hs (λ v. NoticedStays) (notices script) (λ v. single_deeds (draw_word script.key) v NoticedStays noticed_law (noticed_names (naming (draw_word script.key) v)))
    (λ v from sight n s. (keeps_receive (names script v) NoticedStays noticed_law (noticed_names (names script v)) sight from n).after s) w ys x p

pub settlings_stay : hostile.SettlingsStay
settlings_stay script hs w x ys p = leads_each script hs (λ v. SettledStays (names script v)) (settlings script) (settling_deeds script)
    (λ v from sight n s. (keeps_receive (names script v) (SettledStays (names script v)) (settled_law (names script v)) (settled_names (names script v)) sight from n).after s) w ys x p

pub views_wait : hostile.ViewsWaitInReached
unfolding world.open_from
views_wait script once hs w r = reached_all script hs (λ v s. ViewsWait (names script v) s.known) (views_keep script)
    (λ w v u s t r ds n g i p l f h. gone script v (readied w s) r (says_keeps script hs v (ViewsGo (names script v)) (view_deeds script v) w u n ds (readied w s) t r p f) (readied_go script v w s h))
    (λ w v s t n g o i f h. gone script v (readied w s) t (hear_keeps script hs v (ViewsGo (names script v)) (view_deeds script v) n (readied w s) t f) (readied_go script v w s h))
    (λ w v s h. readied_go script v w s h) once ((views_wait_in_runs script once).0 [] script.vats (world.begins script) refl refl) w r

pub what_a_vat_has_is_its_own : hostile.WhatAVatHasIsItsOwn
what_a_vat_has_is_its_own script once hs w r v s e = let o = reached_all script hs (InScript script) (own_keep script)
    (λ w v u s t r ds n g i p l f h. (said_its script hs v u n t r (deeds_own script hs w v ds (readied w s) t (ready_clean script hs w v s h) p) l.2 l.3 f).0.0)
    (λ w v s t n g o i f h. (heard_own script v n (readied w s) t (ready_clean script hs w v s h) f).0)
    (λ w v s h. (ready_clean script hs w v s h).0) once (begins_own script) w r v s e in (o.0, o.1, o.2, o.3)

-- ---- the laws of runs follow

pub runs_know_names : hostile.RunsKnowNames
runs_know_names script once = (
  λ ps rest w i e v s j. names_are_known script once [] w (runs_are_reached script w ((honest_reached script).0 ps rest w i e)) v s j,
  λ w x es k e i v s j. names_are_known script once [] x (runs_are_reached script x ((honest_reached script).1 w x es k e i)) v s j,
)

pub runs_name_their_ends : hostile.RunsNameTheirEnds
runs_name_their_ends script once = (
  λ ps rest w i e. notes_name_their_ends script once [] w (runs_are_reached script w ((honest_reached script).0 ps rest w i e)),
  λ w x es k e i. notes_name_their_ends script once [] x (runs_are_reached script x ((honest_reached script).1 w x es k e i)),
)
