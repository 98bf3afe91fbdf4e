-- What rests in each world of a run: that names wait and settle as law_reference has it, entry by entry.
use Rattle.std.proofs.Common.{◌≡◌, ℕ, zero, suc, ◌+◌, arith, Bool, true, false, List, [], ◌∷◌, ◌++◌, refl, sym, ap, subst, length, append_assoc, inl, inr}
use Rattle.std.specs.Prelude.{slice_get}
use Rattle.def_machine.specs.State.{is_in}
use Rattle.def_run.specs.World as world
use Rattle.def_run.specs.World.{Script, Program, Entry, Turn, Carry, CutLink, NoticeLink, Link, World, Run, Goes, Stopped, names, begins}
use Rattle.law_fate.specs.Name.Runs.{KnowsOnce}
use Rattle.law_fate.proofs.Name.Laws.{names_made, names_known, next_new, notes_made}
use Rattle.law_fate.specs.Fates.Wellness.{WorldWell}
use Rattle.law_fate.specs.Fates.Lasting.{Each, NoteWell}
use Rattle.law_fate.specs.Fates.FateRuns.{Reached}
use Rattle.law_fate.proofs.Fates.RunWell.{runs_stay_well}
use Rattle.law_frozen.proofs.RunSound.{WorldSound, step_sound, open_sound, begins_sound}
use Rattle.law_reference.specs.Reference.Cuts.{NoticesFollow, NoticesFollowCuts}
use Rattle.law_reference.proofs.Reference.HostsRuns.{hosts_rest_in_runs}
use Rattle.law_reference.proofs.Reference.NoticedRuns.{noticed_links_cut}
use Rattle.law_reference.proofs.Reference.NotesRuns.{notes_name_ends}
use Rattle.law_reference.proofs.Reference.NotesSpared.{notes_spared}
use Rattle.law_reference.proofs.Reference.RingStart.{begins_by}
use Rattle.law_reference.proofs.Reference.VatStep.{RingsBy, Rings}
use Rattle.law_reference.proofs.Reference.Around.{Around, each_all}
use Rattle.law_reference.proofs.Reference.StepRings.{word, NoDraws, step_rings, open_rings, weaken_all}
use Rattle.law_uses.specs.Running.Runs.{IsEntered, IsRun}

world_is : (w x : World) → Goes w ≡ Goes x → w ≡ x
world_is w x e = cc

-- a run that goes on did so before
split : (r : Run) (f : World → Run) (x : World) → world.then_goes r f ≡ Goes x → (y : World) × (r ≡ Goes y) × (f y ≡ Goes x)
unfolding world.then_goes
split (Goes y) f x e = (y, refl, e)
split (Stopped c k y) f x e = cc

follow_up : (r : Run) (f : World → Run) (y x : World) → r ≡ Goes y → f y ≡ Goes x → world.then_goes r f ≡ Goes x
unfolding world.then_goes
follow_up (Goes z) f y x e g = subst (λ u. f u ≡ Goes x) (sym (world_is z y e)) g
follow_up (Stopped c k z) f y x e g = cc

-- entries of which each notice stands behind its cut, without those at the end
pub front_stands : (rest done front : List Entry) → NoticesFollow done (front ++ rest) → NoticesFollow done front
front_stands rest done [] h = tt
front_stands rest done (Turn v ∷ front) h = front_stands rest (Turn v ∷ done) front h
front_stands rest done (Carry v w ∷ front) h = front_stands rest (Carry v w ∷ done) front h
front_stands rest done (CutLink v w ∷ front) h = front_stands rest (CutLink v w ∷ done) front h
front_stands rest done (NoticeLink v w ∷ front) h = (h.0, h.1, front_stands rest (NoticeLink v w ∷ done) front h.2)

false_unless : (b : Bool) → (b ≡ true → ⊥) → b ≡ false
false_unless true f = absurd (f refl)
false_unless false f = refl

at_world : (P : World → Type 0) (r : Run) (w : World) → r ≡ Goes w → Reached P r → P w
at_world P (Goes x) w e h = subst P (world_is x w e) h
at_world P (Stopped c k x) w e h = cc

module _ (script : Script) where
  -- one more entry
  entry_on : (front : List Entry) (entry : Entry) (k : ℕ) (w x y : World) → world.steps_from script front k w ≡ Goes x → world.step script entry (k + length front) x ≡ Goes y → world.steps_from script (front ++ entry ∷ []) k w ≡ Goes y
  unfolding world.steps_from
  entry_on [] entry k w x y e g = let n : k + zero ≡ k = omega arith in
      follow_up (world.step script entry k w) (λ z. Goes z) y y (subst (λ z. world.step script entry k z ≡ Goes y) (sym (world_is w x e)) (subst (λ m. world.step script entry m x ≡ Goes y) n g)) refl
  entry_on (f ∷ front) entry k w x y e g = let r = split (world.step script f k w) (world.steps_from script front (suc k)) x e in let n : k + suc (length front) ≡ suc k + length front = omega arith in
      follow_up (world.step script f k w) (world.steps_from script (front ++ entry ∷ []) (suc k)) r.0 y r.1 (entry_on front entry (suc k) r.0 x y r.2 (subst (λ m. world.step script entry m x ≡ Goes y) n g))

  -- a world of a run, by the entries that lead to it
  data Ran : World → Type 0 where
    opened : {w : World} → world.open_from script zero script.vats (begins script) ≡ Goes w → Ran w
    entered : {w x : World} (entry : Entry) (k : ℕ) → Ran w → IsEntered script w → world.step script entry k w ≡ Goes x → Ran x

  long : (front : List Entry) (entry : Entry) → length (front ++ entry ∷ []) ≡ suc (length front)
  long [] entry = refl
  long (f ∷ front) entry = ap suc (long front entry)

  ran_on : (es front : List Entry) (k : ℕ) (start w x : World) → NoticesFollowCuts (front ++ es) → world.open_from script zero script.vats (begins script) ≡ Goes start → world.steps_from script front k start ≡ Goes w → Ran w
      → world.steps_from script es (k + length front) w ≡ Goes x → Ran x
  unfolding world.steps_from
  ran_on [] front k start w x follows o e r g = subst Ran (world_is w x g) r
  ran_on (entry ∷ es) front k start w x follows o e r g = let s = split (world.step script entry (k + length front) w) (world.steps_from script es (suc (k + length front))) x g in
      let n : suc (k + length front) ≡ k + length (front ++ entry ∷ []) = (let l = long front entry in omega arith) in
      ran_on es (front ++ entry ∷ []) k start s.0 x (subst NoticesFollowCuts (sym (append_assoc front (entry ∷ []) es)) follows) o (entry_on front entry k start w s.0 e s.1)
      (entered entry (k + length front) r (start, front, k, front_stands (entry ∷ es) [] front follows, o, e) s.1) (subst (λ m. world.steps_from script es m s.0 ≡ Goes x) n s.2)

  ran : (x : World) → IsEntered script x → Ran x
  unfolding world.steps_from
  ran x (w, es, k, follows, o, e) = ran_on es [] k w w x follows o refl (opened o) (subst (λ m. world.steps_from script es m w ≡ Goes x) from e)
    where
      from : k ≡ k + length {A = Entry} []
      from = omega arith

  -- ---- the opening turns

  abbrev Begun : World → Type 0
  Begun w = RingsBy (word script) true (NoDraws script) w × WorldSound script w

  begun_on : (v : ℕ) (ps : List Program) (w x : World) → Begun w → world.open_from script v ps w ≡ Goes x → Begun x
  unfolding world.open_from world.open_vat
  begun_on v [] w x h e = subst Begun (world_is w x e) h
  begun_on v (p ∷ ps) w x h e = let s = split (world.open_vat script v p w) (world.open_from script (suc v) ps) x e in
      begun_on (suc v) ps s.0 x (open_rings script v p w s.0 (slice_get w.vats v) refl h.0 h.1 s.1, open_sound script v p w s.0 h.1 (slice_get w.vats v) refl s.1) s.2

  pub begun_rings : (ps : List Program) (w : World) → world.open_from script zero ps (begins script) ≡ Goes w → Rings (word script) false w
  begun_rings ps w e = record { views = NoDraws script; by = weaken_all script w (begun_on zero ps (begins script) w (begins_by script, begins_sound script) e).0 }

  pub begun_sound : (ps : List Program) (w : World) → world.open_from script zero ps (begins script) ≡ Goes w → WorldSound script w
  begun_sound ps w e = (begun_on zero ps (begins script) w (begins_by script, begins_sound script) e).1

  -- ---- entries

  module _ (once : KnowsOnce script) where
    -- what laws of runs say of the world before an entry
    around : (x : World) → IsEntered script x → Around (word script) x
    unfolding names
    around x (w, es, k, follows, o, e) = record {
      made = λ v s i. (names_made script once).1 w x es k o e v s i;
      had = λ v s i. (names_known script once).1 w x es k o e v s i;
      next = λ v s i h. ((next_new script once).1 w x es k o e v s i v s i).2 h;
      notes = (notes_made script once).1 w x es k o e;
      ends = (notes_name_ends script once).1 w x es k o e;
      well = each_all (λ (l : Link). Each NoteWell l.notes) x.links (at_world WorldWell (world.steps_from script es k w) x e ((runs_stay_well script).1 w es k o)).links;
      rests = λ v s i. (hosts_rest_in_runs script once).1 w x es k follows o e v s i;
      here = λ v s i. false_unless (is_in v s.noticed) (λ b. (noticed_links_cut script once w x es k follows o e v s i v b).0 refl);
      spared = λ u v s l i f c. notes_spared script once w x es k follows o e u v s l i f c;
    }

    ran_sound : (x : World) → Ran x → WorldSound script x
    ran_sound x (opened o) = begun_sound script.vats x o
    ran_sound x (entered {w = w} entry k r i e) = step_sound script entry k w x (ran_sound w r) e

    ran_rings : (x : World) → Ran x → Rings (word script) false x
    ran_rings x (opened o) = begun_rings script.vats x o
    ran_rings x (entered {w = w} entry k r i e) = step_rings script entry k w x (ran_rings w r) (ran_sound w r) (around w i) e

    pub run_rings : (x : World) → IsRun script x → Rings (word script) false x
    run_rings x (inl (ps, rest, q, o)) = begun_rings ps x o
    run_rings x (inr i) = ran_rings x (ran x i)

    pub run_sound : (x : World) → IsRun script x → WorldSound script x
    run_sound x (inl (ps, rest, q, o)) = begun_sound ps x o
    run_sound x (inr i) = ran_sound x (ran x i)
