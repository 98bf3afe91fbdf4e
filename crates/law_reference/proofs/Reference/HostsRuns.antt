-- In every world of a run in which notices stand behind their cuts, what waits has a host that was not noticed.
use Rattle.std.proofs.Common.{◌≡◌, ℕ, zero, suc, true, List, [], ◌∷◌, ◌++◌, Some, refl, sym, append-nil}
use Rattle.std.specs.Prelude.{slice_get}
use Rattle.def_machine.specs.Values.{Name, Root, host_of}
use Rattle.def_machine.specs.State.{Message, Note, Vat, Done, Gives, is_in}
use Rattle.def_machine.specs.Eval.{opening, taking}
use Rattle.def_machine.specs.Arrive.{arrive, notice}
use Rattle.def_run.specs.Draws.{draw_word}
use Rattle.def_run.specs.World as world
use Rattle.def_run.specs.World.{Script, Program, Entry, Turn, Carry, CutLink, NoticeLink, World, Goes as Going, names, names_of, read_note, readied}
use Rattle.law_fate.specs.Name.Names.{IsMade, NoteOk, names_in, Once}
use Rattle.law_fate.proofs.Name.Facts.{note_up}
use Rattle.law_fate.proofs.Name.Run.{Told}
use Rattle.law_reference.specs.Reference.Cuts.{NoticesFollow}
use Rattle.law_reference.specs.Reference.Notes.{NoteSpared}
use Rattle.law_reference.specs.Reference.Rest.{HostsRest}
use Rattle.law_reference.specs.Reference.Hosts.{HostsRestInRuns}
use Rattle.law_reference.proofs.Reference.Gentle.{AfterGives}
use Rattle.law_reference.proofs.Reference.StepsGentle.{gentle_taking, gentle_opening}
use Rattle.law_reference.proofs.Reference.NoticedSteps.{SameNoticed, noticed_gentle, noticed_free, noticed_settles, same_arrive}
use Rattle.law_reference.proofs.Reference.NoticedRuns.{AllSure, noticed_sure, Sure, Cut, either_cut, sure_on, cut_step, then_cut, fresh_noticed, Never, begins_noticed, opened_cut, noticed_links_cut}
use Rattle.law_reference.proofs.Reference.LinksCut.{open_cut}
use Rattle.law_reference.proofs.Reference.RunLift.{IsAllowed, InVats, step_keeps, opened_keeps}
use Rattle.law_reference.proofs.Reference.OwnTurns.{own_taking, own_opening}
use Rattle.law_reference.proofs.Reference.OwnArrive.{own_arrive}
use Rattle.law_reference.proofs.Reference.OwnRuns.{InScript, rest_of, answer_of_own, begins_stand}
use Rattle.law_reference.proofs.Reference.NotesLift as lift
use Rattle.law_reference.proofs.Reference.NotesLift.{NotesKeep, IsOpenLink}
use Rattle.law_reference.proofs.Reference.NotesRuns.{Its, OfNotes, its_keep, begins_all}
use Rattle.law_reference.proofs.Reference.NotesSpared.{note_spared, not_true, true_false}
use Rattle.law_reference.proofs.Reference.HostsSteps.{Missed, WaitsSpared, spared_by, note_missed, spared_notice, hosts_rest}

module _ (script : Script) where
  abbrev Spared : ℕ → Vat Name → Type 0
  Spared v s = WaitsSpared (draw_word script.key) v s

  abbrev pub Rests : ℕ → Vat Name → Type 0
  Rests v s = Its script v s × Spared v s

  both_rest : (v : ℕ) (d : Done Name (Unit {0})) → AfterGives (Its script v) d → AfterGives (Spared v) d → AfterGives (Rests v) d
  both_rest v (Gives a t) h k = (h, k)
  both_rest v other h k = tt

  -- ---- the steps of one vat, which did not notice itself

  turn_spared : (v : ℕ) (s : Vat Name) (m : Message Name) (ms : List (Message Name)) → s.queue ≡ m ∷ ms → (w : World) → Missed s v → InScript script v s → Spared v s
      → AfterGives (Spared v) (taking (names script v) (world.tree_at script.vats v) script.depth m (readied w (record s { queue = ms })))
  unfolding names readied
  turn_spared v s m ms q w near a h = let r : Vat Name = readied w (record s { queue = ms }) in spared_by (draw_word script.key) v r _ near (a.0, rest_of script v s m ms q a.1, a.2, a.3, tt, λ u e. e) h
      ((own_taking (draw_word script.key) v (Missed r) (world.tree_at script.vats v) script.depth m (answer_of_own script v s m ms q a.1)).after r)
      ((gentle_taking (names script v) SameNoticed (noticed_gentle (names script v)) (noticed_settles (names script v)) (noticed_free (names script v)) (world.tree_at script.vats v) script.depth m).after r)

  note_spares : (w : World) (from v : ℕ) (s : Vat Name) (n : Note Name) → NoteOk (IsMade w.vats w.drawn) n → NoteSpared s n → Missed s v → InScript script v s → Spared v s
      → AfterGives (Spared v) (arrive (names script v) from (read_note (names_of s) n) (readied w s))
  unfolding names names_of readied
  note_spares w from v s n ok free near a h = let r : Vat Name = readied w s in spared_by (draw_word script.key) v r _ near (a.0, a.1, a.2, a.3, tt, λ u e. e) h
      (own_arrive (draw_word script.key) v (Missed r) from r n (note_missed (draw_word script.key) v r w.vats w.drawn (names_in s.known) n ok free))
      ((same_arrive (names script v) from (world.read_note (world.names_of s) n)).after r)

  notice_spares : (w : World) (v to : ℕ) (s : Vat Name) → (v ≡ to → ⊥) → Missed s v → InScript script v s → Spared v s → AfterGives (Spared v) (notice (names script v) to (readied w s))
  unfolding names readied
  notice_spares w v to s other near a h = let r : Vat Name = readied w s in spared_notice (draw_word script.key) v to r near other (a.0, a.1, a.2, a.3, tt, λ u e. e) h

  opening_spares : (w : World) (v : ℕ) (p : Program) (s : Vat Name) → Missed s v → InScript script v s → Spared v s
      → AfterGives (Spared v) (opening (names script v) p.tree script.depth (Root v) (world.given script.vats p.knows) (readied w s))
  unfolding names readied host_of
  opening_spares w v p s near a h = let r : Vat Name = readied w s in spared_by (draw_word script.key) v r _ near (a.0, a.1, a.2, a.3, tt, λ u e. e) h
      ((own_opening (draw_word script.key) v (Missed r) p.tree script.depth (Root v) (world.given script.vats p.knows) refl).after r)
      ((gentle_opening (names script v) SameNoticed (noticed_gentle (names script v)) (noticed_settles (names script v)) (noticed_free (names script v)) p.tree script.depth (Root v) (world.given script.vats p.knows)).after r)

  -- ---- where what was noticed is cut

  module _ (S : ℕ → ℕ → Type 0) where
    -- what was noticed is in S, and what is in S is cut
    abbrev Behind : World → Type 0
    Behind w = InVats script (AllSure script S) S w × ((v u : ℕ) → S v u → Sure script w v u)

    cut_of : (w : World) → Behind w → (v : ℕ) (s : Vat Name) → slice_get w.vats v ≡ Some s → (u : ℕ) → is_in u s.noticed ≡ true → Sure script w v u
    cut_of w j v s i u e = j.1 v u (j.0 v s i u e)

    itself : (w : World) → Behind w → (v : ℕ) (s : Vat Name) → slice_get w.vats v ≡ Some s → Missed s v
    itself w j v s i = not_true (is_in v s.noticed) (λ e. (cut_of w j v s i v e).0 refl)

    sender : (w : World) → Behind w → (from v : ℕ) (s : Vat Name) → slice_get w.vats v ≡ Some s → IsOpenLink from v w.links → Missed s from
    sender w j from v s i o = not_true (is_in from s.noticed) (λ e. true_false o.0.cut ((cut_of w j v s i from e).2 o.0 o.1) o.2)

    note_free : (w : World) → Behind w → (from v : ℕ) (s : Vat Name) (n : Note Name) → slice_get w.vats v ≡ Some s → IsOpenLink from v w.links → OfNotes script from v n → NoteSpared s n
    note_free w j from v s n i o b = note_spared from v s (itself w j v s i) (sender w j from v s i o) n b.0 b.1

    opens_behind : (v : ℕ) (p : Program) (w y : World) → world.open_vat script v p w ≡ Going y → ((a b : ℕ) → S a b → Sure script w a b) → (a b : ℕ) → S a b → Sure script y a b
    opens_behind v p w y e f a b i = let h = f a b i in (h.0, open_cut a b script v p w y h.1 e, open_cut b a script v p w y h.2 e)

    rests_keep : NotesKeep script Rests (OfNotes script) Behind S
    rests_keep = record {
      turn = λ w v s m ms g j i q h. both_rest v _ ((its_keep script).turn w v s m ms g tt i q h.0) (turn_spared v s m ms q w (itself w j v s i) h.0.0 h.1);
      note = λ w from v s n g j i ok b o h. both_rest v _ ((its_keep script).note w from v s n g tt i ok b o h.0)
          (note_spares w from v s n (note_up (Told script w) (IsMade w.vats w.drawn) (λ b k. k.0) n ok) (note_free w j from v s n i o b) (itself w j v s i) h.0.0 h.1);
      notice = λ w v to s g j i ok h. both_rest v _ ((its_keep script).notice w v to s g tt i tt h.0) (notice_spares w v to s (j.1 v to ok).0 (itself w j v s i) h.0.0 h.1);
      opening = λ w v p s g j t i h. both_rest v _ ((its_keep script).opening w v p s g tt t i h.0) (opening_spares w v p s (itself w j v s i) h.0.0 h.1);
      outs = λ v s h. (its_keep script).outs v s h.0;
      step_on = λ entry k w y g j ok e. (step_keeps script (AllSure script S) S (noticed_sure script S) entry k w y g ok j.0 e, λ a b i. sure_on script entry k w y e a b (j.1 a b i));
      open_on = λ v p w y g j e. (opened_keeps script (AllSure script S) S (noticed_sure script S) v p w y g j.0 e, opens_behind v p w y e j.1);
    }

  -- ---- over the entries

  abbrev InAll : World → Type 0
  InAll w = lift.InBoth script Rests (OfNotes script) (Behind (Sure script w)) (Sure script w) w

  going_is : (w x : World) → Going w ≡ Going x → w ≡ x
  going_is w x e = cc

  all_step : (entry : Entry) (done : List Entry) (k : ℕ) (w y : World) → Cut script done w → IsAllowed (Sure script w) entry → InAll w → world.step script entry k w ≡ Going y → InAll y
  all_step entry done k w y h ok b e = (lift.step_all script Rests (OfNotes script) (Behind (Sure script w)) (Sure script w) (rests_keep (Sure script w)) entry k w y ok (h.stands, (h.noticed, λ v u i. i), b) e).2

  steps_rest : (es done : List Entry) (k : ℕ) (w x : World) → NoticesFollow done es → Cut script done w → InAll w → world.steps_from script es k w ≡ Going x → InAll x
  unfolding world.steps_from
  steps_rest [] done k w x f h b e = rw (going_is w x e) at b
  steps_rest (Turn v ∷ es) done k w x f h b e = then_cut script (InAll x) x (world.step script (Turn v) k w) (world.steps_from script es (suc k)) (λ y i j. steps_rest es (Turn v ∷ done) (suc k) y x f (cut_step script (Turn v) done k w y h tt i) (all_step (Turn v) done k w y h tt b i) j) e
  steps_rest (Carry v u ∷ es) done k w x f h b e = then_cut script (InAll x) x (world.step script (Carry v u) k w) (world.steps_from script es (suc k)) (λ y i j. steps_rest es (Carry v u ∷ done) (suc k) y x f (cut_step script (Carry v u) done k w y h tt i) (all_step (Carry v u) done k w y h tt b i) j) e
  steps_rest (CutLink v u ∷ es) done k w x f h b e = then_cut script (InAll x) x (world.step script (CutLink v u) k w) (world.steps_from script es (suc k)) (λ y i j. steps_rest es (CutLink v u ∷ done) (suc k) y x f (cut_step script (CutLink v u) done k w y h tt i) (all_step (CutLink v u) done k w y h tt b i) j) e
  steps_rest (NoticeLink v u ∷ es) done k w x f h b e = let sure : Sure script w v u = (let both = either_cut script done w h v u f.1 in (f.0, both.0, both.1)) in
      then_cut script (InAll x) x (world.step script (NoticeLink v u) k w) (world.steps_from script es (suc k)) (λ y i j. steps_rest es (NoticeLink v u ∷ done) (suc k) y x f.2 (cut_step script (NoticeLink v u) done k w y h sure i) (all_step (NoticeLink v u) done k w y h sure b i) j) e

  -- ---- the start

  none_noticed : (s : Vat Name) (v : ℕ) → s.noticed ≡ [] → Spared v s
  unfolding is_in
  none_noticed s v e n w = rw e refl

  module _ (once : (v : ℕ) (p : Program) → slice_get script.vats v ≡ Some p → Once (v ∷ p.knows)) where
    begins_rest : lift.All script Rests (OfNotes script) (Behind (Never script)) (Never script) (world.begins script)
    unfolding world.begins
    begins_rest = let its = begins_all script once in (begins_stand script once, (begins_noticed script, λ v u i. absurd i), ((λ v s i. (its.2.0 v s i, none_noticed s v (fresh_noticed script zero script.vats v s i))), its.2.1))

    opened_rest : (ps rest : List Program) (w : World) → script.vats ≡ ps ++ rest → world.open_from script zero ps (world.begins script) ≡ Going w → lift.All script Rests (OfNotes script) (Behind (Never script)) (Never script) w
    opened_rest ps rest w e i = lift.opens_all script Rests (OfNotes script) (Behind (Never script)) (Never script) (rests_keep (Never script)) [] ps rest (world.begins script) w e begins_rest i

    rest_opened : (ps rest : List Program) (w : World) → script.vats ≡ ps ++ rest → world.open_from script zero ps (world.begins script) ≡ Going w → (v : ℕ) (s : Vat Name) → slice_get w.vats v ≡ Some s → HostsRest (names script v) s
    unfolding names
    rest_opened ps rest w e i v s j = let all = opened_rest ps rest w e i in let h : Rests v s = all.2.0 v s j in let a : InScript script v s = h.0.0 in
        hosts_rest (draw_word script.key) v s a.0 (itself (Never script) w all.1 v s j) a.2 h.1

    rest_stepped : (w x : World) (es : List Entry) (k : ℕ) → NoticesFollow [] es → world.open_from script zero script.vats (world.begins script) ≡ Going w → world.steps_from script es k w ≡ Going x → (v : ℕ) (s : Vat Name) → slice_get x.vats v ≡ Some s → HostsRest (names script v) s
    unfolding names
    rest_stepped w x es k f e i v s j = let all = steps_rest es [] k w x f (opened_cut script once w e) (opened_rest script.vats [] w (sym (append-nil script.vats)) e).2 i in let h : Rests v s = all.0 v s j in let a : InScript script v s = h.0.0 in
        hosts_rest (draw_word script.key) v s a.0 (not_true (is_in v s.noticed) (λ b. (noticed_links_cut script once w x es k f e i v s j v b).0 refl)) a.2 h.1

pub hosts_rest_in_runs : HostsRestInRuns
hosts_rest_in_runs script once = (λ ps rest w e i v s j. rest_opened script once ps rest w e i v s j, λ w x es k f e i v s j. rest_stepped script once w x es k f e i v s j)
