-- Step after step, to the end of a run.
use Rattle.std.proofs.Common.{◌≡◌, ℕ, zero, suc, ◌+◌, List, [], ◌∷◌, ◌++◌, refl, sym, ap, ◌∙◌, subst, length, append_assoc, arith}
use Rattle.std.specs.Prelude.{slice_get}
use Rattle.def_run.specs.World as machine
use Rattle.def_run.specs.World.{Script, Program, Entry, World, Run, Goes, Stopped, then_goes}
use Rattle.def_run.specs.Numbers as numbers
use Rattle.def_run.specs.Numbers.{Vats, Course, Runs, Halts, then_runs}
use Rattle.law_frame.specs.Local.Mirrors.{Mirrors, RunMirrors}
use Rattle.law_frame.specs.Local.Runs.{EachStepMirrors, RunsMirror}
use Rattle.law_frame.proofs.Local.Starts.{start_mirrors}
use Rattle.law_frame.proofs.Local.Closing.{closings_mirror}

-- what goes on from what mirrors
goes_on : (r : Run) (c : Course) (g : World → Run) (f : Vats → Course) → RunMirrors r c → ((x : World) (X : Vats) → r ≡ Goes x → c ≡ Runs X → Mirrors x X → RunMirrors (g x) (f X)) → RunMirrors (then_goes r g) (then_runs c f)
unfolding then_goes then_runs
goes_on (Goes x) (Runs X) g f h k = k x X refl refl h
goes_on (Stopped c n x) (Halts d m X) g f h k = h
goes_on (Goes x) (Halts d m X) g f h k = absurd h
goes_on (Stopped c n x) (Runs X) g f h k = absurd h

-- one more behind what went
pub opened_one : (script : Script) (v : ℕ) (ps : List Program) (p : Program) (w x : World) → machine.open_from script v ps w ≡ Goes x → machine.open_from script v (ps ++ p ∷ []) w ≡ then_goes (machine.open_vat script (v + length ps) p x) (λ y. Goes y)
unfolding machine.open_from then_goes
opened_one script v [] p w x e = let i : w ≡ x = cc in let j : v ≡ v + zero = omega arith in ap (λ z. then_goes (machine.open_vat script v p z) (λ y. Goes y)) i ∙ ap (λ n. then_goes (machine.open_vat script n p x) (λ y. Goes y)) j
opened_one script v (q ∷ ps) p w x e = by (machine.open_vat script v q w) e (λ z i. opened_one script (suc v) ps p z x i)
  where
    by : (r : Run) → then_goes r (machine.open_from script (suc v) ps) ≡ Goes x → ((z : World) → machine.open_from script (suc v) ps z ≡ Goes x → machine.open_from script (suc v) (ps ++ p ∷ []) z ≡ then_goes (machine.open_vat script (suc v + length ps) p x) (λ y. Goes y))
        → then_goes r (machine.open_from script (suc v) (ps ++ p ∷ [])) ≡ then_goes (machine.open_vat script (v + suc (length ps)) p x) (λ y. Goes y)
    by (Goes z) i h = let j : suc v + length ps ≡ v + suc (length ps) = omega arith in h z i ∙ ap (λ n. then_goes (machine.open_vat script n p x) (λ y. Goes y)) j
    by (Stopped c n z) i h = cc

pub stepped_one : (script : Script) (es : List Entry) (e : Entry) (k : ℕ) (w x : World) → machine.steps_from script es k w ≡ Goes x → machine.steps_from script (es ++ e ∷ []) k w ≡ then_goes (machine.step script e (k + length es) x) (λ y. Goes y)
unfolding machine.steps_from then_goes
stepped_one script [] e k w x i = let j : w ≡ x = cc in let l : k ≡ k + zero = omega arith in ap (λ z. then_goes (machine.step script e k z) (λ y. Goes y)) j ∙ ap (λ n. then_goes (machine.step script e n x) (λ y. Goes y)) l
stepped_one script (d ∷ es) e k w x i = by (machine.step script d k w) i (λ z j. stepped_one script es e (suc k) z x j)
  where
    by : (r : Run) → then_goes r (machine.steps_from script es (suc k)) ≡ Goes x → ((z : World) → machine.steps_from script es (suc k) z ≡ Goes x → machine.steps_from script (es ++ e ∷ []) (suc k) z ≡ then_goes (machine.step script e (suc k + length es) x) (λ y. Goes y))
        → then_goes r (machine.steps_from script (es ++ e ∷ []) (suc k)) ≡ then_goes (machine.step script e (k + suc (length es)) x) (λ y. Goes y)
    by (Goes z) j h = let l : suc k + length es ≡ k + suc (length es) = omega arith in h z j ∙ ap (λ n. then_goes (machine.step script e n x) (λ y. Goes y)) l
    by (Stopped c n z) j h = cc

length_end : {A : Type 0} (xs : List A) (x : A) → length (xs ++ x ∷ []) ≡ suc (length xs)
length_end [] x = refl
length_end (y ∷ xs) x = ap suc (length_end xs x)

module _ (script : Script) (each : EachStepMirrors script) where
  pub openings_mirror : (ps rest : List Program) (v : ℕ) (x : World) (X : Vats) → v ≡ length ps → script.vats ≡ ps ++ rest → machine.open_from script zero ps (machine.begins script) ≡ Goes x → Mirrors x X → RunMirrors (machine.open_from script v rest x) (numbers.open_from script v rest X)
  unfolding machine.open_from numbers.open_from then_goes
  openings_mirror ps [] v x X l e opened h = h
  openings_mirror ps (p ∷ rest) v x X l e opened h =
      goes_on (machine.open_vat script v p x) (numbers.open_member script v p X (slice_get X.members v)) (machine.open_from script (suc v) rest) (numbers.open_from script (suc v) rest)
      (subst (λ n. RunMirrors (machine.open_vat script n p x) (numbers.open_member script n p X (slice_get X.members n))) (sym l) (each.openings ps rest p x X e opened h))
      (λ y Y i j k. openings_mirror (ps ++ p ∷ []) rest (suc v) y Y (ap suc l ∙ sym (length_end ps p)) (e ∙ sym (append_assoc ps (p ∷ []) rest)) (opened_one script zero ps p (machine.begins script) x opened ∙ ap (λ n. then_goes (machine.open_vat script n p x) (λ z. Goes z)) (from_zero ps l) ∙ ap (λ r. then_goes r (λ z. Goes z)) i) k)
    where
      from_zero : (qs : List Program) → v ≡ length qs → zero + length qs ≡ v
      from_zero qs m = omega arith

  pub entries_mirror : (w : World) → machine.open_from script zero script.vats (machine.begins script) ≡ Goes w → (es rest : List Entry) (k : ℕ) (x : World) (X : Vats) → k ≡ 1 + length es → script.schedule ≡ es ++ rest → machine.steps_from script es 1 w ≡ Goes x → Mirrors x X → RunMirrors (machine.steps_from script rest k x) (numbers.steps_from script rest k X)
  unfolding machine.steps_from numbers.steps_from then_goes
  entries_mirror w opened es [] k x X l e stepped h = h
  entries_mirror w opened es (d ∷ rest) k x X l e stepped h =
      goes_on (machine.step script d k x) (numbers.step script d k X) (machine.steps_from script rest (suc k)) (numbers.steps_from script rest (suc k))
      (subst (λ n. RunMirrors (machine.step script d n x) (numbers.step script d n X)) (sym l) (each.entries w x X es rest d e opened stepped h))
      (λ y Y i j m. entries_mirror w opened (es ++ d ∷ []) rest (suc k) y Y (more es (length_end es d) l) (e ∙ sym (append_assoc es (d ∷ []) rest)) (stepped_one script es d 1 w x stepped ∙ ap (λ n. then_goes (machine.step script d n x) (λ z. Goes z)) (sym l) ∙ ap (λ r. then_goes r (λ z. Goes z)) i) m)
    where
      more : (fs : List Entry) → length (fs ++ d ∷ []) ≡ suc (length fs) → k ≡ 1 + length fs → suc k ≡ 1 + length (fs ++ d ∷ [])
      more fs a b = omega arith

  run_mirrors : RunMirrors (machine.run script) (numbers.run script)
  unfolding machine.run numbers.run machine.open_from machine.steps_from
  run_mirrors =
      goes_on (machine.open_from script zero script.vats (machine.begins script)) (numbers.open_from script zero script.vats (numbers.begins script)) (λ w. then_goes (machine.steps_from script script.schedule 1 w) (machine.close script)) (λ w. then_runs (numbers.steps_from script script.schedule 1 w) (numbers.close script))
      (openings_mirror [] script.vats zero (machine.begins script) (numbers.begins script) refl refl opened_none (start_mirrors script))
      (λ w W i j h. goes_on (machine.steps_from script script.schedule 1 w) (numbers.steps_from script script.schedule 1 W) (machine.close script) (numbers.close script)
      (entries_mirror w i [] script.schedule 1 w W (omega arith) refl (stepped_none w) h) (λ x X a b k. closings_mirror script x X k))
    where
      opened_none : machine.open_from script zero [] (machine.begins script) ≡ Goes (machine.begins script)
      opened_none = refl

      stepped_none : (w : World) → machine.steps_from script [] 1 w ≡ Goes w
      stepped_none w = refl

pub runs_mirror : RunsMirror
runs_mirror script each = run_mirrors script each
