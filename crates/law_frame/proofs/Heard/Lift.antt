-- What each opening turn and each entry keeps holds of the worlds of a run, where laws that stand tell of the worlds and of each step.
use Rattle.std.proofs.Common.{◌≡◌, ℕ, zero, suc, ◌+◌, List, [], ◌∷◌, ◌++◌, Option, Some, None, refl, sym, ◌∙◌, length, append_assoc, append-nil, arith}
use Rattle.std.specs.Prelude.{slice_get}
use Rattle.def_machine.specs.Values.{Name, Root}
use Rattle.def_machine.specs.State.{Vat, Done, Gives}
use Rattle.def_machine.specs.Eval.{opening}
use Rattle.law_machine.specs.Machine.Steps.{Opens as Starts, does}
use Rattle.def_run.specs.World as world
use Rattle.def_run.specs.World.{Script, Program, Opens, Entry, World, Run, Goes as Going, Stopped, names, readied}
use Rattle.law_machine.specs.Run.Moves.{went}
use Rattle.law_fate.proofs.Name.Among.{length_end}
use Rattle.law_reference.specs.Reference.Cuts.{NoticesFollowCuts}
use Rattle.law_reference.proofs.Reference.AskHolds.{notices_front}
use Rattle.law_reference.proofs.Reference.Moves.{Does, waiting, get_mid, going_is, opens_end, steps_end}

-- ---- an opening turn

-- a vat took its opening turn, from s to t
abbrev pub Opened : Script → World → World → ℕ → Program → Type 0
Opened script x y v p = (s : Vat Name) × (t : Vat Name) × Does script x v s s t (Starts p.tree script.depth (Root v) (world.given script.vats p.knows)) × (y ≡ went v x (Opens v ∷ []) t)

module _ (script : Script) (v : ℕ) (p : Program) (x y : World) (there : slice_get script.vats v ≡ Some p) where
  going_as : (w : World) → Going w ≡ Going y → y ≡ w
  going_as w e = cc

  opened_by : (s : Vat Name) → slice_get x.vats v ≡ Some s → (d : Done Name (Unit {0})) → does (names script v) (Starts p.tree script.depth (Root v) (world.given script.vats p.knows)) (readied x s) ≡ d → world.put_back v x (Opens v ∷ []) v d ≡ Going y → Opened script x y v p
  unfolding world.put_back went waiting
  opened_by s q (Gives u t) f e = (s, t, record { there = q; number = refl; known = refl; promises = refl; messages = refl; gifts = refl; waits = λ n. omega arith; begins = (p, there, refl, refl, refl); gives = f }, going_as _ e)
  opened_by s q other f e = cc

  opened_or : (o : Option (Vat Name)) → slice_get x.vats v ≡ o → world.within v x (Opens v ∷ []) v (opening (names script v) p.tree script.depth (Root v) (world.given script.vats p.knows)) o ≡ Going y → Opened script x y v p
  unfolding world.within does
  opened_or None q e = cc
  opened_or (Some s) q e = opened_by s q _ refl e

  pub opening_does : world.open_vat script v p x ≡ Going y → Opened script x y v p
  unfolding world.open_vat
  opening_does e = opened_or (slice_get x.vats v) refl e

-- ---- runs

module _ (script : Script) (Start Past : World → Type 0) (Pair : World → World → Type 0)
    (start : (ps rest : List Program) (w : World) → script.vats ≡ ps ++ rest → world.open_from script zero ps (world.begins script) ≡ Going w → Start w)
    (past : (w x : World) (es : List Entry) (k : ℕ) → NoticesFollowCuts es → world.open_from script zero script.vats (world.begins script) ≡ Going w → world.steps_from script es k w ≡ Going x → Past x)
    (opening_pair : (ps rest : List Program) (p : Program) (x y : World) → script.vats ≡ ps ++ p ∷ rest → world.open_from script zero ps (world.begins script) ≡ Going x → world.open_vat script (length ps) p x ≡ Going y → Pair x y)
    (entry_pair : (w x y : World) (es : List Entry) (e : Entry) (k : ℕ) → world.open_from script zero script.vats (world.begins script) ≡ Going w → world.steps_from script es k w ≡ Going x → world.step script e (k + length es) x ≡ Going y → Pair x y)
    (J : World → Type 0)
    (opening_law : (v : ℕ) (p : Program) (x y : World) → Start x → Start y → Pair x y → Opened script x y v p → J x → J y)
    (entry_law : (e : Entry) (k : ℕ) (x y : World) → Past x → Past y → Pair x y → world.step script e k x ≡ Going y → J x → J y) where
  then_holds : (x : World) (r : Run) (f : World → Run) → ((y : World) → r ≡ Going y → f y ≡ Going x → J x) → world.then_goes r f ≡ Going x → J x
  unfolding world.then_goes
  then_holds x (Going y) f b e = b y refl e
  then_holds x (Stopped c n y) f b e = cc

  opens_hold : (ds ps rest : List Program) (w x : World) → script.vats ≡ ds ++ (ps ++ rest) → world.open_from script zero ds (world.begins script) ≡ Going w → J w → world.open_from script (length ds) ps w ≡ Going x → J x
  unfolding world.open_from
  opens_hold ds [] rest w x i d h e = rw (going_is w x e) at h
  opens_hold ds (p ∷ ps) rest w x i d h e = then_holds x (world.open_vat script (length ds) p w) (world.open_from script (suc (length ds)) ps)
      (λ y j f. let n : 0 + length ds ≡ length ds = omega arith in let done : world.open_from script zero (ds ++ p ∷ []) (world.begins script) ≡ Going y = opens_end script ds p zero (world.begins script) w y d (rw (sym n) at j) in
      let split : script.vats ≡ (ds ++ p ∷ []) ++ (ps ++ rest) = i ∙ sym (append_assoc ds (p ∷ []) (ps ++ rest)) in
      opens_hold (ds ++ p ∷ []) ps rest y x split done (opening_law (length ds) p w y (start ds (p ∷ (ps ++ rest)) w i d) (start (ds ++ p ∷ []) (ps ++ rest) y split done) (opening_pair ds (ps ++ rest) p w y i d j)
      (opening_does script (length ds) p w y (rw (sym i) at (get_mid ds p (ps ++ rest))) j) h) (rw (sym (length_end ds p)) at f)) e

  steps_hold : (w0 : World) (k0 : ℕ) → world.open_from script zero script.vats (world.begins script) ≡ Going w0 → (ds es : List Entry) (k : ℕ) (w x : World) → NoticesFollowCuts (ds ++ es) → k ≡ k0 + length ds → world.steps_from script ds k0 w0 ≡ Going w → J w → world.steps_from script es k w ≡ Going x → J x
  unfolding world.steps_from
  steps_hold w0 k0 o ds [] k w x c n d h e = rw (going_is w x e) at h
  steps_hold w0 k0 o ds (entry ∷ es) k w x c n d h e = then_holds x (world.step script entry k w) (world.steps_from script es (suc k))
      (λ y j f. let here : world.step script entry (k0 + length ds) w ≡ Going y = rw n at j in let done : world.steps_from script (ds ++ entry ∷ []) k0 w0 ≡ Going y = steps_end script ds entry k0 w0 w y d here in let l = length_end ds entry in
      let rest : NoticesFollowCuts ((ds ++ entry ∷ []) ++ es) = rw (append_assoc ds (entry ∷ []) es) c in
      steps_hold w0 k0 o (ds ++ entry ∷ []) es (suc k) y x rest (omega arith) done (entry_law entry k w y (past w0 w ds k0 (notices_front script [] ds (entry ∷ es) c) o d)
      (past w0 y (ds ++ entry ∷ []) k0 (notices_front script [] (ds ++ entry ∷ []) es rest) o done) (entry_pair w0 w y ds entry k0 o d here) j h) f) e

  module _ (begun : J (world.begins script)) where
    pub opened_holds : (ps rest : List Program) (w : World) → script.vats ≡ ps ++ rest → world.open_from script zero ps (world.begins script) ≡ Going w → J w
    unfolding world.open_from
    opened_holds ps rest w i e = opens_hold [] ps rest (world.begins script) w i refl begun e

    pub stepped_holds : (w x : World) (es : List Entry) (k : ℕ) → NoticesFollowCuts es → world.open_from script zero script.vats (world.begins script) ≡ Going w → world.steps_from script es k w ≡ Going x → J x
    unfolding world.steps_from
    stepped_holds w x es k c o e = let n : k ≡ k + 0 = omega arith in steps_hold w k o [] es k w x c n refl (opened_holds script.vats [] w (sym (append-nil script.vats)) o) e
