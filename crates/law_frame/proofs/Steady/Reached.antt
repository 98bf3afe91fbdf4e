-- What the run in numbers has come to mirrors what the machine's run has, where each step does.
use Rattle.std.proofs.Common.{◌≡◌, ℕ, zero, suc, ◌+◌, List, [], ◌∷◌, ◌++◌, refl, sym, ap, ◌∙◌, subst, length, append_assoc, append-nil, arith}
use Rattle.std.specs.Prelude.{slice_get}
use Rattle.def_run.specs.World as machine
use Rattle.def_run.specs.World.{Script, Program, Entry, World, Run, Goes, Stopped}
use Rattle.law_fate.proofs.Name.Among.{length_end}
use Rattle.law_reference.proofs.Reference.Moves.{opens_end, steps_end}
use Rattle.def_run.specs.Numbers as numbers
use Rattle.def_run.specs.Numbers.{Vats, Course, Runs, Halts, then_runs}
use Rattle.law_frame.specs.Local.Mirrors.{Mirrors, RunMirrors}
use Rattle.law_frame.specs.Local.Runs.{EachStepMirrors}
use Rattle.law_frame.proofs.Local.Starts.{start_mirrors}

-- where the run in numbers goes, so does the machine's
pub mirrored : (r : Run) (c : Course) (Z : Vats) → RunMirrors r c → c ≡ Runs Z → (z : World) × (r ≡ Goes z) × Mirrors z Z
mirrored (Goes z) (Runs Y) Z h e = let i : Y ≡ Z = cc in (z, refl, subst (λ k. Mirrors z k) i h)
mirrored (Stopped c n z) (Runs Y) Z h e = absurd h
mirrored (Goes z) (Halts c n Y) Z h e = absurd h
mirrored (Stopped c n z) (Halts d m Y) Z h e = cc

-- what goes on went before
pub went : (c : Course) (f : Vats → Course) (Y : Vats) → then_runs c f ≡ Runs Y → (Z : Vats) × (c ≡ Runs Z) × (f Z ≡ Runs Y)
unfolding then_runs
went (Runs Z) f Y e = (Z, refl, e)
went (Halts c n Z) f Y e = cc

-- after these opening turns
pub record Opened (script : Script) (ps : List Program) (X : Vats) : Type 0 where
  pub world : World
  pub opened : machine.open_from script zero ps (machine.begins script) ≡ Goes world
  pub mirrors : Mirrors world X

-- after all of them and these entries
pub record Stepped (script : Script) (es : List Entry) (X : Vats) : Type 0 where
  pub first : World
  pub opened : machine.open_from script zero script.vats (machine.begins script) ≡ Goes first
  pub last : World
  pub stepped : machine.steps_from script es 1 first ≡ Goes last
  pub mirrors : Mirrors last X

module _ (script : Script) (each : EachStepMirrors script) where
  opens_on : (qs ps rest : List Program) (v : ℕ) (x : World) (X Y : Vats) → v ≡ length ps → script.vats ≡ ps ++ (qs ++ rest) → machine.open_from script zero ps (machine.begins script) ≡ Goes x → Mirrors x X → numbers.open_from script v qs X ≡ Runs Y → Opened script (ps ++ qs) Y
  unfolding numbers.open_from
  opens_on [] ps rest v x X Y l e opened h i = let j : X ≡ Y = cc in record { world = x; opened = ap (λ zs. machine.open_from script zero zs (machine.begins script)) (append-nil ps) ∙ opened; mirrors = subst (λ z. Mirrors x z) j h }
  opens_on (p ∷ qs) ps rest v x X Y l e opened h i =
      let k = went (numbers.open_member script v p X (slice_get X.members v)) (numbers.open_from script (suc v) qs) Y i in
      let m = mirrored (machine.open_vat script (length ps) p x) (numbers.open_member script (length ps) p X (slice_get X.members (length ps))) k.0 (each.openings ps (qs ++ rest) p x X e opened h) (subst (λ n. numbers.open_member script n p X (slice_get X.members n) ≡ Runs k.0) l k.1) in
      let n : length ps ≡ 0 + length ps = omega arith in
      subst (λ zs. Opened script zs Y) (append_assoc ps (p ∷ []) qs)
      (opens_on qs (ps ++ p ∷ []) rest (suc v) m.0 k.0 Y (ap suc l ∙ sym (length_end ps p)) (e ∙ sym (append_assoc ps (p ∷ []) (qs ++ rest))) (opens_end script ps p zero (machine.begins script) x m.0 opened (subst (λ z. machine.open_vat script z p x ≡ Goes m.0) n m.1)) m.2 k.2)

  pub opens_mirror : (ps rest : List Program) (X : Vats) → script.vats ≡ ps ++ rest → numbers.open_from script zero ps (numbers.begins script) ≡ Runs X → Opened script ps X
  opens_mirror ps rest X e i = opens_on ps [] rest zero (machine.begins script) (numbers.begins script) X refl e none (start_mirrors script) i
    where
      none : machine.open_from script zero [] (machine.begins script) ≡ Goes (machine.begins script)
      none = unfold machine.open_from in refl

  next : (k n m : ℕ) → k ≡ 1 + n → m ≡ suc n → suc k ≡ 1 + m
  next k n m a b = omega arith

  steps_on : (w : World) → machine.open_from script zero script.vats (machine.begins script) ≡ Goes w → (fs es rest : List Entry) (k : ℕ) (x : World) (X Y : Vats) → k ≡ 1 + length es → script.schedule ≡ es ++ (fs ++ rest) → machine.steps_from script es 1 w ≡ Goes x → Mirrors x X → numbers.steps_from script fs k X ≡ Runs Y → Stepped script (es ++ fs) Y
  unfolding numbers.steps_from
  steps_on w opened [] es rest k x X Y l e stepped h i = let j : X ≡ Y = cc in record { first = w; opened = opened; last = x; stepped = ap (λ zs. machine.steps_from script zs 1 w) (append-nil es) ∙ stepped; mirrors = subst (λ z. Mirrors x z) j h }
  steps_on w opened (d ∷ fs) es rest k x X Y l e stepped h i =
      let z = went (numbers.step script d k X) (numbers.steps_from script fs (suc k)) Y i in
      let m = mirrored (machine.step script d (1 + length es) x) (numbers.step script d (1 + length es) X) z.0 (each.entries w x X es (fs ++ rest) d e opened stepped h) (subst (λ n. numbers.step script d n X ≡ Runs z.0) l z.1) in
      subst (λ zs. Stepped script zs Y) (append_assoc es (d ∷ []) fs)
      (steps_on w opened fs (es ++ d ∷ []) rest (suc k) m.0 z.0 Y (next k (length es) (length (es ++ d ∷ [])) l (length_end es d)) (e ∙ sym (append_assoc es (d ∷ []) (fs ++ rest))) (steps_end script es d 1 w x m.0 stepped m.1) m.2 z.2)

  pub steps_mirror : (es rest : List Entry) (W X : Vats) → script.schedule ≡ es ++ rest → numbers.open_from script zero script.vats (numbers.begins script) ≡ Runs W → numbers.steps_from script es 1 W ≡ Runs X → Stepped script es X
  steps_mirror es rest W X e i j = let o = opens_mirror script.vats [] W (sym (append-nil script.vats)) i in steps_on o.world o.opened es [] rest 1 o.world W X refl e none o.mirrors j
    where
      none : {w : World} → machine.steps_from script [] 1 w ≡ Goes w
      none = unfold machine.steps_from in refl
