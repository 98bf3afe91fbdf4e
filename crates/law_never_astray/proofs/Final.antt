-- No step of a run of accepted programs goes astray.
use Rattle.std.proofs.Common.{◌≡◌, ℕ, zero, suc, ◌<◌, Bool, true, false, List, [], ◌∷◌, ◌++◌, Some, None, refl, sym, ap, subst, ◌∙◌, length, ◌+◌, arith, append_assoc, append-nil}
use Rattle.std.specs.Prelude.{slice_get}
use Rattle.def_machine.specs.State.{Stop, Astray, is_in}
use Rattle.def_run.specs.World as world
use Rattle.def_run.specs.World.{Script, Program, Entry, Turn, Carry, CutLink, NoticeLink, Link, World, Run, Goes, Stopped, names}
use Rattle.law_fate.specs.Name.Runs.{KnowsOnce}
use Rattle.law_fate.proofs.Name.Laws.{names_made, names_known, next_new, notes_made}
use Rattle.law_fate.proofs.Name.Run.{steps_stand, opened_stands}
use Rattle.law_fate.specs.Fates.Wellness.{WorldWell}
use Rattle.law_fate.specs.Fates.Lasting.{Each, NoteWell}
use Rattle.law_fate.specs.Fates.FateRuns.{Reached}
use Rattle.law_fate.proofs.Fates.RunWell.{runs_stay_well}
use Rattle.law_frozen.proofs.RunSound.{WorldSound, step_sound, open_sound, begins_sound}
use Rattle.law_reference.specs.Reference.Cuts.{NoticesFollow, NoticesFollowCuts}
use Rattle.law_reference.proofs.Reference.HostsRuns.{hosts_rest_in_runs}
use Rattle.law_reference.proofs.Reference.NoticedRuns.{noticed_links_cut}
use Rattle.law_reference.proofs.Reference.NotesRuns.{notes_name_ends}
use Rattle.law_reference.proofs.Reference.NotesSpared.{notes_spared}
use Rattle.law_reference.proofs.Reference.ViewsRuns.{views_wait_in_runs}
use Rattle.law_reference.proofs.Reference.VatStep.{RingsBy, Rings}
use Rattle.law_reference.proofs.Reference.Around.{Around, each_all}
use Rattle.law_reference.proofs.Reference.StepRings.{word, NoDraws, step_rings, open_rings, weaken_all}
use Rattle.law_never_astray.proofs.ThingsWorlds.{things_are_there_in_runs}
use Rattle.law_never_astray.specs.CoveredRuns.{IsAccepted}
use Rattle.law_never_astray.proofs.CoveredWorlds.{all_carry_in_runs}
use Rattle.law_uses.proofs.Connectivity.RunDies.{opened_still, run_still}
use Rattle.law_never_astray.proofs.Arrivals.{arrivals_are_not_astray}
use Rattle.law_never_astray.specs.Runs.{NoticersAreThere, NeverAstray}
use Rattle.law_reference.proofs.Reference.RingStart.{begins_by}
use Rattle.law_never_astray.proofs.Stops.{turn_none, open_none}
use Rattle.law_never_astray.proofs.Steps.{Facts, Lasts, begins_last, some_there, entry_lasts, opening_lasts, turn_clear, open_clear}

-- ---- one step after another

no_stop : {A : Type 0} (x y : World) (c : Stop) (n : ℕ) → Goes x ≡ Stopped c n y → A
no_stop x y c n e = cc

pub goes_is : (w x : World) → Goes w ≡ Goes x → w ≡ x
goes_is w x e = cc

then_clear : (r : Run) (f : World → Run) (c : Stop) (n : ℕ) (y : World) → ((z : World) → r ≡ Goes z → f z ≡ Stopped c n y → c ≡ Astray → ⊥) → (r ≡ Stopped c n y → c ≡ Astray → ⊥) → world.then_goes r f ≡ Stopped c n y → c ≡ Astray → ⊥
unfolding world.then_goes
then_clear (Goes z) f c n y a b e = a z refl e
then_clear (Stopped d m z) f c n y a b e = b e

pub then_held : (P : World → Type 0) (r : Run) (f : World → Run) (x : World) → ((z : World) → r ≡ Goes z → f z ≡ Goes x → P x) → world.then_goes r f ≡ Goes x → P x
unfolding world.then_goes
then_held P (Goes z) f x a e = a z refl e
then_held P (Stopped c n z) f x a e = cc

then_one : (r : Run) (f : World → Run) (y : World) → r ≡ Goes y → f y ≡ Goes y → world.then_goes r f ≡ Goes y
unfolding world.then_goes
then_one r f y e g = rw e g

then_append : (r : Run) (f g : World → Run) (w y : World) → world.then_goes r f ≡ Goes w → ((z : World) → r ≡ Goes z → f z ≡ Goes w → g z ≡ Goes y) → world.then_goes r g ≡ Goes y
unfolding world.then_goes
then_append (Goes z) f g w y e h = h z refl e
then_append (Stopped c n z) f g w y e h = cc

pub end_length : {A : Type 0} (x : A) (xs : List A) → length (xs ++ x ∷ []) ≡ suc (length xs)
end_length x [] = refl
end_length x (y ∷ xs) = ap suc (end_length x xs)

mid_at : (front rest : List Program) (p : Program) → slice_get (front ++ p ∷ rest) (length front) ≡ Some p
mid_at [] rest p = refl
mid_at (f ∷ fs) rest p = mid_at fs rest p

-- notices that follow their cuts do so among the first entries
front_follows : (done front rest : List Entry) → NoticesFollow done (front ++ rest) → NoticesFollow done front
front_follows done [] rest h = tt
front_follows done (Turn v ∷ front) rest h = front_follows (Turn v ∷ done) front rest h
front_follows done (Carry v w ∷ front) rest h = front_follows (Carry v w ∷ done) front rest h
front_follows done (CutLink v w ∷ front) rest h = front_follows (CutLink v w ∷ done) front rest h
front_follows done (NoticeLink v w ∷ front) rest h = (h.0, h.1, front_follows (NoticeLink v w ∷ done) front rest h.2)

rest_there : (count : ℕ) (e : Entry) (es : List Entry) → NoticersAreThere count (e ∷ es) → NoticersAreThere count es
rest_there count (NoticeLink v w) es h = h.1
rest_there count other es h = h

false_if : (b : Bool) → (b ≡ true → ⊥) → b ≡ false
false_if true f = absurd (f refl)
false_if false f = refl

well_at : (r : Run) (w : World) → r ≡ Goes w → Reached WorldWell r → WorldWell w
well_at r w e h = rw e at h

module _ (script : Script) (once : KnowsOnce script) (accepted : IsAccepted script) where
  -- ---- the opening turns

  opened_facts : (ps rest : List Program) (w : World) → script.vats ≡ ps ++ rest → world.open_from script zero ps (world.begins script) ≡ Goes w → Facts script w
  opened_facts ps rest w i e = record {
    stands = opened_stands script once ps rest w i e;
    things = λ v s j. (things_are_there_in_runs script).0 ps rest w i e v s j;
    carries = (all_carry_in_runs script accepted).0 ps rest w i e;
    views = λ v s j. (views_wait_in_runs script once).0 ps rest w i e v s j;
    live = opened_still script ps w e;
  }

  pub record HeldOpen (w : World) : Type 0 where
    pub lasts : Lasts script accepted w
    by : RingsBy (word script) true (NoDraws script) w
    sound : WorldSound script w

  pub begun : HeldOpen (world.begins script)
  begun = record { lasts = begins_last script accepted; by = begins_by script; sound = begins_sound script }

  held_open : (front rest : List Program) (p : Program) (w y : World) → script.vats ≡ front ++ p ∷ rest → world.open_from script zero front (world.begins script) ≡ Goes w → HeldOpen w → world.open_vat script (length front) p w ≡ Goes y → HeldOpen y
  unfolding world.open_vat
  held_open front rest p w y i e h g = record {
    lasts = opening_lasts script accepted w (opened_facts front (p ∷ rest) w i e) h.lasts front rest p y i g;
    by = open_rings script (length front) p w y (slice_get w.vats (length front)) refl h.by h.sound g;
    sound = open_sound script (length front) p w y h.sound (slice_get w.vats (length front)) refl g;
  }

  opens_append : (front : List Program) (v0 : ℕ) (w0 w y : World) (p : Program) (v : ℕ) → v ≡ v0 + length front → world.open_from script v0 front w0 ≡ Goes w → world.open_vat script v p w ≡ Goes y → world.open_from script v0 (front ++ p ∷ []) w0 ≡ Goes y
  unfolding world.open_from
  opens_append [] v0 w0 w y p v n s i = let same : w0 ≡ w = goes_is w0 w s in let at : v ≡ v0 = (let m : v ≡ v0 + 0 = n in omega arith) in then_one (world.open_vat script v0 p w0) (λ z. Goes z) y (rw (sym same, at) at i) refl
  opens_append (f ∷ fs) v0 w0 w y p v n s i = then_append (world.open_vat script v0 f w0) (world.open_from script (suc v0) fs) (world.open_from script (suc v0) (fs ++ p ∷ [])) w y s (λ z a b. opens_append fs (suc v0) z w y p v (omega arith) b i)

  next_open : (front rest : List Program) (p : Program) (w y : World) → world.open_from script zero front (world.begins script) ≡ Goes w → world.open_vat script (length front) p w ≡ Goes y → world.open_from script zero (front ++ p ∷ []) (world.begins script) ≡ Goes y
  next_open front rest p w y e g = opens_append front zero (world.begins script) w y p (length front) (omega arith) e g

  open_one : (front rest : List Program) (p : Program) (w : World) → script.vats ≡ front ++ p ∷ rest → world.open_from script zero front (world.begins script) ≡ Goes w → HeldOpen w → (c : Stop) (n : ℕ) (y : World) → world.open_vat script (length front) p w ≡ Stopped c n y → c ≡ Astray → ⊥
  unfolding world.open_vat
  open_one front rest p w i e h c n y a = open_clear script accepted w (opened_facts front (p ∷ rest) w i e) h.lasts (λ v q s there d t g. open_none script v q w s h.by h.sound there d t g) (length front) p
      (subst (λ z. slice_get z (length front) ≡ Some p) (sym i) (mid_at front rest p)) (slice_get w.vats (length front)) refl c n y a

  opens_clear : (ps front : List Program) (w : World) → script.vats ≡ front ++ ps → world.open_from script zero front (world.begins script) ≡ Goes w → HeldOpen w → (c : Stop) (n : ℕ) (y : World) → world.open_from script (length front) ps w ≡ Stopped c n y → c ≡ Astray → ⊥
  unfolding world.open_from
  opens_clear [] front w i e h c n y g = no_stop w y c n g
  opens_clear (p ∷ ps) front w i e h c n y g = then_clear (world.open_vat script (length front) p w) (world.open_from script (suc (length front)) ps) c n y
      (λ z a b. opens_clear ps (front ++ p ∷ []) z (i ∙ sym (append_assoc front (p ∷ []) ps)) (next_open front ps p w z e a) (held_open front ps p w z i e h a) c n y (subst (λ k. world.open_from script k ps z ≡ Stopped c n y) (sym (end_length p front)) b))
      (λ a. open_one front ps p w i e h c n y a) g

  pub opens_held : (ps front rest : List Program) (w x : World) → script.vats ≡ front ++ (ps ++ rest) → world.open_from script zero front (world.begins script) ≡ Goes w → HeldOpen w → world.open_from script (length front) ps w ≡ Goes x → HeldOpen x
  unfolding world.open_from
  opens_held [] front rest w x i e h g = subst HeldOpen (goes_is w x g) h
  opens_held (p ∷ ps) front rest w x i e h g = then_held HeldOpen (world.open_vat script (length front) p w) (world.open_from script (suc (length front)) ps) x
      (λ z a b. opens_held ps (front ++ p ∷ []) rest z x (i ∙ sym (append_assoc front (p ∷ []) (ps ++ rest))) (next_open front (ps ++ rest) p w z e a) (held_open front (ps ++ rest) p w z i e h a) (subst (λ k. world.open_from script k ps z ≡ Goes x) (sym (end_length p front)) b)) g

  -- ---- the entries of a schedule

  module _ (w0 : World) (opened : world.open_from script zero script.vats (world.begins script) ≡ Goes w0) where
    pub facts : (front : List Entry) (k : ℕ) (w : World) → world.steps_from script front k w0 ≡ Goes w → Facts script w
    facts front k w e = record {
      stands = steps_stand script front k w0 w (opened_stands script once script.vats [] w0 (sym (append-nil script.vats)) opened) e;
      things = λ v s j. (things_are_there_in_runs script).1 w0 w front k opened e v s j;
      carries = (all_carry_in_runs script accepted).1 w0 w front k opened e;
      views = λ v s j. (views_wait_in_runs script once).1 w0 w front k opened e v s j;
      live = run_still script w0 w front k opened e;
    }

    around : (front : List Entry) (w : World) → NoticesFollowCuts front → world.steps_from script front 1 w0 ≡ Goes w → Around (word script) w
    unfolding names
    around front w follows e = record {
      made = λ v s i. (names_made script once).1 w0 w front 1 opened e v s i;
      had = λ v s i. (names_known script once).1 w0 w front 1 opened e v s i;
      next = λ v s i h. ((next_new script once).1 w0 w front 1 opened e v s i v s i).2 h;
      notes = (notes_made script once).1 w0 w front 1 opened e;
      ends = (notes_name_ends script once).1 w0 w front 1 opened e;
      well = each_all (λ (l : Link). Each NoteWell l.notes) w.links (well_at (world.steps_from script front 1 w0) w e ((runs_stay_well script).1 w0 front 1 opened)).links;
      rests = λ v s i. (hosts_rest_in_runs script once).1 w0 w front 1 follows opened e v s i;
      here = λ v s i. false_if (is_in v s.noticed) (λ b. (noticed_links_cut script once w0 w front 1 follows opened e v s i v b).0 refl);
      spared = λ u v s l i f c. notes_spared script once w0 w front 1 follows opened e u v s l i f c;
    }

    pub steps_append : (front : List Entry) (k0 : ℕ) (u w y : World) (e : Entry) (k : ℕ) → k ≡ k0 + length front → world.steps_from script front k0 u ≡ Goes w → world.step script e k w ≡ Goes y → world.steps_from script (front ++ e ∷ []) k0 u ≡ Goes y
    unfolding world.steps_from
    steps_append [] k0 u w y e k n s i = let same : u ≡ w = goes_is u w s in let at : k ≡ k0 = (let m : k ≡ k0 + 0 = n in omega arith) in then_one (world.step script e k0 u) (λ z. Goes z) y (rw (sym same, at) at i) refl
    steps_append (f ∷ fs) k0 u w y e k n s i = then_append (world.step script f k0 u) (world.steps_from script fs (suc k0)) (world.steps_from script (fs ++ e ∷ []) (suc k0)) w y s (λ z a b. steps_append fs (suc k0) z w y e k (omega arith) b i)

    is_there : (w : World) → Lasts script accepted w → (e : Entry) (es : List Entry) → NoticersAreThere (length script.vats) (e ∷ es) → (v u : ℕ) → e ≡ NoticeLink v u → slice_get w.vats v ≡ None → ⊥
    is_there w lasts (NoticeLink a b) es h v u i g = let same : a ≡ v = cc in let l : a < length script.vats = h.0 in let m = lasts.count in some_there v w.vats (let n = same in omega arith) g
    is_there w lasts other es h v u i g = cc

    entry_clear : (e : Entry) (es front : List Entry) (k : ℕ) (w : World) → NoticesFollowCuts front → NoticersAreThere (length script.vats) (e ∷ es) → world.steps_from script front 1 w0 ≡ Goes w → (D : ℕ → Type 0) → RingsBy (word script) false D w → WorldSound script w → Lasts script accepted w
        → (c : Stop) (n : ℕ) (y : World) → world.step script e k w ≡ Stopped c n y → c ≡ Astray → ⊥
    unfolding world.step
    entry_clear (Turn v) es front k w follows there e D rings sound lasts c n y g = turn_clear script accepted w (facts front 1 w e) lasts
        (λ u s m ms at q d t i. turn_none script w D rings sound (around front w follows e) u s m ms at q d t i) k v (slice_get w.vats v) refl c n y g
    entry_clear (Carry v u) es front k w follows there e D rings sound lasts c n y g = arrivals_are_not_astray script once w0 w y front (Carry v u) 1 k n c tt opened e g
    entry_clear (CutLink v u) es front k w follows there e D rings sound lasts c n y g = arrivals_are_not_astray script once w0 w y front (CutLink v u) 1 k n c tt opened e g
    entry_clear (NoticeLink v u) es front k w follows there e D rings sound lasts c n y g = arrivals_are_not_astray script once w0 w y front (NoticeLink v u) 1 k n c (is_there w lasts (NoticeLink v u) es there v u refl) opened e g

    steps_clear : (es front : List Entry) (k : ℕ) (w : World) → k ≡ 1 + length front → NoticesFollowCuts (front ++ es) → NoticersAreThere (length script.vats) es → world.steps_from script front 1 w0 ≡ Goes w → Rings (word script) false w → WorldSound script w → Lasts script accepted w
        → (c : Stop) (n : ℕ) (y : World) → world.steps_from script es k w ≡ Stopped c n y → c ≡ Astray → ⊥
    unfolding world.steps_from
    steps_clear [] front k w m follows there e rings sound lasts c n y g = no_stop w y c n g
    steps_clear (entry ∷ es) front k w m follows there e rings sound lasts c n y g = let before = front_follows [] front (entry ∷ es) follows in
        then_clear (world.step script entry k w) (world.steps_from script es (suc k)) c n y
        (λ z a b. steps_clear es (front ++ entry ∷ []) (suc k) z (let l = end_length entry front in omega arith) (subst NoticesFollowCuts (sym (append_assoc front (entry ∷ []) es)) follows) (rest_there (length script.vats) entry es there) (steps_append front 1 w0 w z entry k m e a)
        (step_rings script entry k w z rings sound (around front w before e) a) (step_sound script entry k w z sound a) (entry_lasts script accepted w (facts front 1 w e) lasts entry k z a) c n y b)
        (λ a. entry_clear entry es front k w before there e rings.views rings.by sound lasts c n y a) g

pub never_astray : NeverAstray
unfolding world.run world.close world.steps_from world.open_from
never_astray script once accepted follows there c n y e = then_clear (world.open_from script zero script.vats (world.begins script)) _ c n y
    (λ w a. then_clear (world.steps_from script script.schedule 1 w) _ c n y (λ z b g. no_stop _ y c n g)
    (let held = opens_held script once accepted script.vats [] [] (world.begins script) w (sym (append-nil script.vats)) refl (begun script once accepted) a in
    steps_clear script once accepted w a script.schedule [] 1 w refl follows there refl (record { views = NoDraws script; by = weaken_all script w held.by }) held.sound held.lasts c n y))
    (λ a. opens_clear script once accepted script.vats [] (world.begins script) refl refl (begun script once accepted) c n y a) e
