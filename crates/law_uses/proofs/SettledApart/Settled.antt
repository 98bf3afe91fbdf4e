-- Names that settled at a vat are known there, so they are shown apart.
use Rattle.std.proofs.Common.{◌≡◌, ℕ, Bool, true, false, List, [], ◌∷◌, Some, refl, sym, inl, inr}
use Rattle.def_machine.specs.Values.{Value, Name, naming, same_reference}
use Rattle.def_machine.specs.State.{Settled, Known, Settles}
use Rattle.def_machine.specs.Refs.{standing_in, entry_of, standing_of}
use Rattle.def_run.specs.World.{Script, World, Run, Goes, Stopped, Here, names, run}
use Rattle.def_run.specs.Shown.{shown_name}
use Rattle.def_run.specs.Text.{history_of, draws_of}
use Rattle.law_fate.specs.Fates.FateRuns.{Reached}
use Rattle.law_fate.specs.Name.Names.{IsAmong, names_in}
use Rattle.law_fate.proofs.Name.SameNames.{reference_is}
use Rattle.law_uses.specs.Connectivity.Known as events
use Rattle.law_uses.proofs.Running.Course.{Course, run_course}
use Rattle.law_uses.proofs.Running.Stood.{course_stand, course_vats}
use Rattle.law_uses.specs.ShownApart.ShownApart.{ShownApart}
use Rattle.law_uses.proofs.ShownApart.Ends.{shown_apart}
use Rattle.law_uses.specs.SettledApart.Settled.{SettledNamesAreShownApart}

module _ (script : Script) (v : ℕ) where
  known_or : (k : Known Name) (ks : List (Known Name)) (n : Name) (y : Value Name) (b : Bool) → same_reference k.name n ≡ b → (standing_in (entry_of (names script v) ks n) ≡ Settled y → IsAmong n (names_in ks))
      → standing_in (elim b [ true ↦ Some k | false ↦ entry_of (names script v) ks n ]) ≡ Settled y → IsAmong n (names_in (k ∷ ks))
  known_or k ks n y true e rest f = inl (sym (reference_is k.name n e))
  known_or k ks n y false e rest f = inr (rest f)

  -- a name that settled is known
  settled_known : (ks : List (Known Name)) (n : Name) (y : Value Name) → standing_of (names script v) ks n ≡ Settled y → IsAmong n (names_in ks)
  unfolding standing_of entry_of standing_in names naming
  settled_known [] n y e = cc
  settled_known (k ∷ ks) n y e = known_or k ks n y (same_reference k.name n) refl (λ f. settled_known ks n y f) e

module _ (script : Script) where
  abbrev HasLine : Run → ℕ → Name → Value Name → Type 0
  HasLine r v n y = events.IsAmong (Here v (Settles n y)) (history_of r)

  world_apart : (w : World) → Course script w → ShownApart w → (v : ℕ) (m n : Name) (y z : Value Name) → events.IsAmong (Here v (Settles m y)) w.history → events.IsAmong (Here v (Settles n z)) w.history → shown_name w.drawn m ≡ shown_name w.drawn n → m ≡ n
  world_apart w c h v m n y z i j e = let s = course_vats script w c v (Settles m y) i in
      h v v s.0 s.0 s.1 s.1 m n (settled_known script v s.0.known m y (course_stand script w c v s.0 s.1 m y i)) (settled_known script v s.0.known n z (course_stand script w c v s.0 s.1 n z j)) e

  run_apart : (r : Run) → Reached (Course script) r → Reached ShownApart r → (v : ℕ) (m n : Name) (y z : Value Name) → HasLine r v m y → HasLine r v n z → shown_name (draws_of r) m ≡ shown_name (draws_of r) n → m ≡ n
  unfolding history_of draws_of
  run_apart (Goes w) c h v m n y z i j e = world_apart w c h v m n y z i j e
  run_apart (Stopped k l w) c h v m n y z i j e = world_apart w c h v m n y z i j e

pub settled_apart : SettledNamesAreShownApart
settled_apart script once follow = run_apart script (run script) (run_course script) (shown_apart.1 script once follow)
