-- In every world of a run each resolver that a vat has is of a promise of the vat's own, which it knows.
use Rattle.std.proofs.Common.{◌≡◌, ℕ, zero, List, Some}
use Rattle.std.specs.Prelude.{slice_get}
use Rattle.def_machine.specs.Values.{Name, Promise, Naming, naming, name_of}
use Rattle.def_machine.specs.State.{Resolver, Vat}
use Rattle.def_run.specs.World as world
use Rattle.def_run.specs.World.{Script, Entry, World, Goes, names}
use Rattle.law_frozen.specs.Frozen.{IsPromised, ThingWell}
use Rattle.law_frozen.proofs.RunSound.{WorldSound, begins_sound, opens_sound, steps_sound}
use Rattle.law_fate.specs.Name.Names.{ThingOk, IsHad, names_in}
use Rattle.law_fate.specs.Name.Runs.{KnowsOnce}
use Rattle.law_fate.proofs.Name.Laws.{names_known}
use Rattle.law_fate.proofs.Name.SameNames.{at_all}
use Rattle.law_order.proofs.Turns.Own.{known_promise}
use Rattle.law_order.proofs.Turns.Same.{Has}

module _ (script : Script) (once : KnowsOnce script) (w x : World) (es : List Entry) (k : ℕ) (opened : world.open_from script zero script.vats (world.begins script) ≡ Goes w) (steps : world.steps_from script es k w ≡ Goes x)
    (v : ℕ) (s : Vat Name) (there : slice_get x.vats v ≡ Some s) where
  abbrev K : Naming Name Name
  K = names script v

  sound : WorldSound script x
  sound = steps_sound script es k w x (opens_sound script zero script.vats (world.begins script) w (begins_sound script) opened) steps

  promise_of : (p : Name) → IsPromised K p → (i : ℕ) × (p ≡ Promise v i)
  unfolding names naming name_of
  promise_of p h = (h.0, h.2)

  pub own_resolver : (i : ℕ) (p : Name) → slice_get s.things i ≡ Some (Resolver p) → (j : ℕ) × (p ≡ Promise v j) × Has script v s p
  own_resolver i p e = let q = promise_of p (at_all (ThingWell K s.things s.lists) s.things i (Resolver p) (sound.vats v s there).things e) in
      (q.0, q.1, known_promise script v s p q.0 q.1 (at_all (ThingOk (IsHad (names_in s.known) s.mails)) s.things i (Resolver p) ((names_known script once).1 w x es k opened steps v s there).things e))
