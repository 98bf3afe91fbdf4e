-- Whose code activations run, and what values lead to, by the lines before a line of the run.
use Rattle.std.proofs.Common.{◌≡◌, ℕ, ◌+◌, List, [], ◌∷◌, ◌++◌, Option, Some, ap, ◌∙◌, subst, inl, inr, append_assoc}
use Rattle.def_machine.specs.Values.{Words, Value, Ref, Name, Object, naming, name_of}
use Rattle.def_machine.specs.State.{Happened, Called, PromiseMade}
use Rattle.def_run.specs.World as world
use Rattle.def_run.specs.World.{Script, Event, Here, World, names, events_of}
use Rattle.def_run.specs.Shown.{shown_name}
use Rattle.def_run.specs.Text.{history_of}
use Rattle.law_reference.specs.Reference.Cuts.{NoticesFollowCuts}
use Rattle.law_uses.specs.Connectivity.Known.{IsAmong, IsThing, Runs}
use Rattle.law_uses.specs.Connectivity.Connected.{held_from}
use Rattle.def_event.specs.Uses as text
use Rattle.law_uses.proofs.Uses.Shown.{lines}
use Rattle.law_uses.specs.Running.Facts.{activation}
use Rattle.law_uses.specs.Running.Runs.{IsRun}
use Rattle.law_uses.specs.Running.Running.{CallsAreOnObjects, PromisesAreOwn}
use Rattle.law_uses.proofs.Running.Rings.{front_stands}
use Rattle.law_uses.proofs.Running.Turns as turns
use Rattle.law_uses.specs.KnownUses.Told.{IsPassed, IsShownApart, lines_so, first_of}
use Rattle.law_uses.proofs.KnownUses.Lines.{place_among}
use Rattle.law_uses.proofs.KnownUses.Stood.{Stood, is_run, last_world}
use Rattle.law_uses.proofs.KnownUses.InTime.{each_in_time}

-- its notices stand behind their cuts
follows_so : (script : Script) → NoticesFollowCuts script.schedule → (w : World) → IsPassed script w → IsRun script w
follows_so script follows w (inl r) = inl r
follows_so script follows w (inr r) = inr (r.0, r.1, r.3, front_stands r.2 [] r.1 (subst NoticesFollowCuts r.4 follows), r.5, r.6)

module _ (script : Script) (v : ℕ) (e : Happened Name) (h : List Event) (s : Stood script v e h) where
  calls_on : CallsAreOnObjects s.line
  unfolding names naming held_from
  calls_on front rest a b x verb args q = let c = (each_in_time script v e h s front (rest ++ e ∷ s.line.rest) (Called a x verb args (Some b)) (s.line.told ∙ ap (λ z. z ++ e ∷ s.line.rest) q ∙ append_assoc front (Called a x verb args (Some b) ∷ rest) (e ∷ s.line.rest))).4 in
      (c.4.0, c.0, c.4.1, c.4.2)

  promises_own : PromisesAreOwn s.line
  unfolding names naming name_of
  promises_own a p r i = let m = place_among (PromiseMade a p r) s.line.after.happened i in let c = (each_in_time script v e h s m.0 m.1 (PromiseMade a p r) m.2).5 in (c.0, c.2)

  module _ (draws : List ℕ) (apart : IsShownApart script draws) (k : List Event) (is : history_of (world.run script) ≡ lines_so s.line ++ Here v e ∷ k) where
    last : IsRun script (last_world script).0
    last = follows_so script apart.1 (last_world script).0 (last_world script).1

    from : IsRun script s.line.from
    from = follows_so script apart.1 s.line.from (is_run script s.line.from s.begun)

    pub runs_told : (b i : ℕ) → Runs (names script v) (held_from s.line.step s.line.before s.line.after) s.line.so b i → text.Runs (lines draws (lines_so s.line)) (activation v b) (shown_name draws (Object v i))
    runs_told b i r = turns.turns_tell_what_runs script draws apart.0 apart.2 (last_world script).0 last (last_world script).2 s.next v e s.line from k is calls_on promises_own b i r

    -- where a call of the step is told
    pub ways_told : (a : ℕ) (y : Value Name) (verb : Words) (args : List (Value Name)) (b : Option ℕ) → IsAmong (Called a y verb args b) s.line.so → (front rest : List (Happened Name)) → s.line.so ≡ front ++ rest → (x : Value Name) (i : ℕ) → IsThing (names script v) (first_of s.line).before front x i
        → (n : Name) × (x ≡ Ref n) × text.IsFollowed (lines draws ((s.line.from.history ++ s.line.head) ++ events_of s.line.links v front)) (v + 1) (shown_name draws n) (shown_name draws (Object v i))
    unfolding held_from
    ways_told a y verb args b m front rest q x i t = turns.ways_told script draws apart.0 apart.2 (last_world script).0 last (last_world script).2 s.next v e s.line from k is calls_on promises_own a y verb args b m front rest q x i t
