-- In each vat of every world of a run no list leads back to itself.
use Rattle.std.proofs.Common.{◌≡◌, ℕ, zero, suc, Bool, true, false, List, [], ◌∷◌, ◌++◌, refl, sym, ap, subst, length, ◌+◌, arith, append_assoc}
use Rattle.std.specs.Prelude.{slice_get}
use Rattle.def_machine.specs.State.{is_in}
use Rattle.def_run.specs.World as world
use Rattle.def_run.specs.World.{Script, Program, Entry, Turn, Carry, CutLink, NoticeLink, Link, World, Run, Goes, Stopped, names}
use Rattle.law_fate.specs.Name.Runs.{KnowsOnce}
use Rattle.law_fate.proofs.Name.Laws.{names_made, names_known, next_new, notes_made}
use Rattle.law_fate.specs.Fates.Wellness.{WorldWell}
use Rattle.law_fate.specs.Fates.Lasting.{Each, NoteWell}
use Rattle.law_fate.specs.Fates.FateRuns.{Reached}
use Rattle.law_fate.proofs.Fates.RunWell.{runs_stay_well}
use Rattle.law_reference.specs.Reference.Cuts.{NoticesFollow, NoticesFollowCuts}
use Rattle.law_reference.proofs.Reference.HostsRuns.{hosts_rest_in_runs}
use Rattle.law_reference.proofs.Reference.NoticedRuns.{noticed_links_cut}
use Rattle.law_reference.proofs.Reference.NotesRuns.{notes_name_ends}
use Rattle.law_reference.proofs.Reference.NotesSpared.{notes_spared}
use Rattle.law_frozen.proofs.RunSound.{WorldSound, step_sound, open_sound, begins_sound}
use Rattle.law_reference.specs.Reference.Lists.{NoListLeadsBack}
use Rattle.law_reference.specs.Reference.ListRuns.{ListsEndIn, ListsEndInRuns}
use Rattle.law_reference.proofs.Reference.ListLaws.{ringless_lists_end}
use Rattle.law_reference.proofs.Reference.RingStart.{begins_by}
use Rattle.law_reference.proofs.Reference.VatStep.{RingsBy, Rings}
use Rattle.law_reference.proofs.Reference.Around.{Around, each_all}
use Rattle.law_reference.proofs.Reference.StepRings.{word, N, NoDraws, step_rings, open_rings, weaken_all}

goes_is : (w x : World) → Goes w ≡ Goes x → w ≡ x
goes_is w x e = cc

-- ---- one more entry

then_append : (r : Run) (f g : World → Run) (w y : World) → world.then_goes r f ≡ Goes w → ((z : World) → r ≡ Goes z → f z ≡ Goes w → g z ≡ Goes y) → world.then_goes r g ≡ Goes y
unfolding world.then_goes
then_append (Goes z) f g w y e h = h z refl e
then_append (Stopped c n z) f g w y e h = cc

then_one : (r : Run) (f : World → Run) (y : World) → r ≡ Goes y → f y ≡ Goes y → world.then_goes r f ≡ Goes y
unfolding world.then_goes
then_one r f y e g = rw e g

length_end : (e : Entry) (es : List Entry) → length (es ++ e ∷ []) ≡ suc (length es)
length_end e [] = refl
length_end e (f ∷ es) = ap suc (length_end e es)

stopped_goes : (c : _) (n : ℕ) (y x : World) → Stopped c n y ≡ Goes x → ⊥
stopped_goes c n y x e = cc

true_or : (b : Bool) → (b ≡ true → ⊥) → b ≡ false
true_or true f = absurd (f refl)
true_or false f = refl

-- notices that follow their cuts do so among the first entries
front_follows : (done front rest : List Entry) → NoticesFollow done (front ++ rest) → NoticesFollow done front
front_follows done [] rest h = tt
front_follows done (Turn v ∷ front) rest h = front_follows (Turn v ∷ done) front rest h
front_follows done (Carry v w ∷ front) rest h = front_follows (Carry v w ∷ done) front rest h
front_follows done (CutLink v w ∷ front) rest h = front_follows (CutLink v w ∷ done) front rest h
front_follows done (NoticeLink v w ∷ front) rest h = (h.0, h.1, front_follows (NoticeLink v w ∷ done) front rest h.2)

module _ (script : Script) (once : KnowsOnce script) where
  steps_append : (front : List Entry) (k0 : ℕ) (w0 w y : World) (e : Entry) (k : ℕ) → k ≡ k0 + length front → world.steps_from script front k0 w0 ≡ Goes w → world.step script e k w ≡ Goes y → world.steps_from script (front ++ e ∷ []) k0 w0 ≡ Goes y
  unfolding world.steps_from
  steps_append [] k0 w0 w y e k n s i = let same : w0 ≡ w = goes_is w0 w s in let one' : k ≡ k0 = (let m : k ≡ k0 + 0 = n in omega arith) in then_one (world.step script e k0 w0) (λ z. Goes z) y (rw (sym same, one') at i) refl
  steps_append (f ∷ fs) k0 w0 w y e k n s i = then_append (world.step script f k0 w0) (world.steps_from script fs (suc k0)) (world.steps_from script (fs ++ e ∷ []) (suc k0)) w y s (λ z a b. steps_append fs (suc k0) z w y e k (omega arith) b i)

  reached : (P : World → Type 0) (r : Run) (w : World) → r ≡ Goes w → Reached P r → P w
  reached P (Goes x) w e h = subst P (goes_is x w e) h
  reached P (Stopped c k x) w e h = cc

  module _ (w0 : World) (k0 : ℕ) (opened : world.open_from script zero script.vats (world.begins script) ≡ Goes w0) where
    -- what laws of runs say of the world after these entries
    around : (front : List Entry) (w : World) → NoticesFollowCuts front → world.steps_from script front k0 w0 ≡ Goes w → Around (word script) w
    unfolding names
    around front w follows e = record {
      made = λ v s i. (names_made script once).1 w0 w front k0 opened e v s i;
      had = λ v s i. (names_known script once).1 w0 w front k0 opened e v s i;
      next = λ v s i h. ((next_new script once).1 w0 w front k0 opened e v s i v s i).2 h;
      notes = (notes_made script once).1 w0 w front k0 opened e;
      ends = (notes_name_ends script once).1 w0 w front k0 opened e;
      well = each_all (λ (l : Link). Each NoteWell l.notes) w.links (reached WorldWell (world.steps_from script front k0 w0) w e ((runs_stay_well script).1 w0 front k0 opened)).links;
      rests = λ v s i. (hosts_rest_in_runs script once).1 w0 w front k0 follows opened e v s i;
      here = λ v s i. true_or (is_in v s.noticed) (λ b. (noticed_links_cut script once w0 w front k0 follows opened e v s i v b).0 refl);
      spared = λ u v s l i f c. notes_spared script once w0 w front k0 follows opened e u v s l i f c;
    }

    then_rings : (x : World) (r : Run) (f : World → Run) → ((y : World) → r ≡ Goes y → f y ≡ Goes x → Rings (word script) false x) → world.then_goes r f ≡ Goes x → Rings (word script) false x
    unfolding world.then_goes
    then_rings x (Goes y) f g e = g y refl e
    then_rings x (Stopped c n y) f g e = absurd (stopped_goes c n y x e)

    steps_rings : (es front : List Entry) (k : ℕ) (w x : World) → k ≡ k0 + length front → NoticesFollowCuts (front ++ es) → world.steps_from script front k0 w0 ≡ Goes w → Rings (word script) false w → WorldSound script w → world.steps_from script es k w ≡ Goes x → Rings (word script) false x
    unfolding world.steps_from
    steps_rings [] front k w x n follows e h sound f = record { views = h.views; by = subst (λ y. RingsBy (word script) false h.views y) (goes_is w x f) h.by }
    steps_rings (entry ∷ es) front k w x n follows e h sound f = then_rings x (world.step script entry k w) (world.steps_from script es (suc k)) (λ y i j. steps_rings es (front ++ entry ∷ []) (suc k) y x (let more = length_end entry front in omega arith)
        (subst NoticesFollowCuts (sym (append_assoc front (entry ∷ []) es)) follows) (steps_append front k0 w0 w y entry k n e i)
        (step_rings script entry k w y h sound (around front w (front_follows [] front (entry ∷ es) follows) e) i) (step_sound script entry k w y sound i) j) f

  -- ---- the opening turns

  then_by : (P Q : World → Type 0) (x : World) (r : Run) (f : World → Run) → ((y : World) → r ≡ Goes y → P y) → ((y : World) → P y → f y ≡ Goes x → Q x) → world.then_goes r f ≡ Goes x → Q x
  unfolding world.then_goes
  then_by P Q x (Goes y) f a b e = b y (a y refl) e
  then_by P Q x (Stopped c n y) f a b e = cc

  abbrev Both : World → Type 0
  Both w = RingsBy (word script) true (NoDraws script) w × WorldSound script w

  opens_rings : (v : ℕ) (ps : List Program) (w x : World) → Both w → world.open_from script v ps w ≡ Goes x → Both x
  unfolding world.open_from world.open_vat
  opens_rings v [] w x h e = subst Both (goes_is w x e) h
  opens_rings v (p ∷ ps) w x h e = then_by Both Both x (world.open_vat script v p w) (world.open_from script (suc v) ps)
      (λ y i. (open_rings script v p w y (slice_get w.vats v) refl h.0 h.1 i, open_sound script v p w y h.1 (slice_get w.vats v) refl i)) (λ y i j. opens_rings (suc v) ps y x i j) e

  opened_both : (ps : List Program) (w : World) → world.open_from script zero ps (world.begins script) ≡ Goes w → Both w
  opened_both ps w e = opens_rings zero ps (world.begins script) w (begins_by script, begins_sound script) e

  -- ---- in all

  ends_in : (heed : Bool) (D : ℕ → Type 0) (w : World) → RingsBy (word script) heed D w → ListsEndIn script w
  unfolding names
  ends_in heed D w h v s e = let none : NoListLeadsBack (N script v) s = (h.vats v s e).none in (none, λ x. ringless_lists_end (word script) v s none x)

  in_all : (w x : World) (es : List Entry) (k : ℕ) → NoticesFollowCuts es → world.open_from script zero script.vats (world.begins script) ≡ Goes w → world.steps_from script es k w ≡ Goes x → ListsEndIn script x
  unfolding world.steps_from
  in_all w x es k follows opened e = let both : Both w = opened_both script.vats w opened in let all : Rings (word script) false x = steps_rings w k opened es [] k w x (omega arith) follows refl (record { views = NoDraws script; by = weaken_all script w both.0 }) both.1 e in
      ends_in false all.views x all.by

pub lists_end_in_runs : ListsEndInRuns
lists_end_in_runs script once = (λ ps rest w i e. ends_in script once true (NoDraws script) w (opened_both script once ps w e).0, λ w x es k follows opened e. in_all script once w x es k follows opened e)
