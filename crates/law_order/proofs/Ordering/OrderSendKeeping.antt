-- What is ahead of references and messages stays ahead in a course whose settlings keep it.
use Rattle.std.proofs.Common.{ℕ, Bool}
use Rattle.def_machine.specs.Values.{Name}
use Rattle.def_machine.specs.State.{Vat}
use Rattle.def_run.specs.World.{Script, World}
use Rattle.law_order.specs.Ordering.Steps.{Ready, Course, over, grew, settled, resolved, still_held, KeepsOrder, SettlingsKeep, GrownKeeps, CoursesKeep}
use Rattle.law_order.proofs.Ordering.Remaining.{kept_grown, kept_then}

module _ (script : Script) (honest : ℕ → Bool) (w : World) (v : ℕ) where
  keeps_self : (s : Vat Name) → KeepsOrder script honest w v s s
  keeps_self s = record { references = λ u x. (λ h. h, λ m h. h); places = λ l b n. (λ h. h, λ m h. h); apart = λ m l b n i h. h; held = λ m p b n h. still_held h }

  course_keeps : (s t : Vat Name) (c : Course script honest w v s t) → SettlingsKeep script honest w v c → Ready script honest w v s → Ready script honest w v t × KeepsOrder script honest w v s t
  course_keeps s t over h r = (r, keeps_self s)
  course_keeps s t (grew {t = q} f c) h r = let a = f r in let b = course_keeps q t c h a.0 in (b.0, kept_then script honest w v s q t (kept_grown script honest w v s q a.1) b.1)
  course_keeps s t (settled {t = q} p y e c) h r = let b = course_keeps q t c h.1 (h.0.0 r) in (b.0, kept_then script honest w v s q t h.0.1 b.1)
  course_keeps s t (resolved {t = q} p x e c) h r = let b = course_keeps q t c h.1 (h.0.0 r) in (b.0, kept_then script honest w v s q t h.0.1 b.1)

pub grown_keeps : GrownKeeps
grown_keeps = λ script honest w v s t g. kept_grown script honest w v s t g

pub courses_keep : CoursesKeep
courses_keep = λ script honest w v s t c h r. course_keeps script honest w v s t c h r
