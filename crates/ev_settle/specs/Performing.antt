-- What is to be done of a settling, as the machine does it.
use Rattle.std.specs.Prelude.{◌≡◌, ℕ, List, [], ◌∷◌, Ok, Err, Some, codes, map, option_map}
use Rattle.std.specs.declared.option.Option.{Option}
use Rattle.ev_base.specs.declared.values.Value.{Value as Held}
use Rattle.ev_base.specs.declared.values.Value.TheVariants as held
use Rattle.ev_heap.specs.declared.happened.Happened.TheVariants as event
use Rattle.def_machine.specs.Refs as refs
use Rattle.def_machine.specs.State as machine
use Rattle.def_machine.specs.State.{Vat, Act, Done, Sends, Reacts, Settles, Waits, Views, Lost, Posted, Finished, Threw, ◌>>◌}
use Rattle.def_machine.specs.Values.{Words, Local, Mess, Prom}
use Rattle.ev_pass.specs.Acts.{Out}
use Rattle.ev_pass.specs.Reading.{Lines, Reads, StandsFor, names_under, vat_at}
use Rattle.ev_pass.specs.declared.interior.Interior.{Interior}
use Rattle.ev_pass.specs.declared.interior.Stop.TheVariants.{Fuel, Repeated, Astray, Missing, Memory}
use Rattle.ev_refs.specs.Reading.{text_by, value_by, message_by}
use Rattle.ev_settle.specs.Settling.{settle}
use Rattle.ev_settle.specs.declared.tasks.Task.{Task}
use Rattle.ev_settle.specs.declared.tasks.Task.TheVariants.{SendOn, Settle, Enqueue, Inform}

-- which lines the events of references have
pub record Tells (ts : List Words) (line : Lines) : Type 0 where
  pub settled : (p : ℕ) (v : Held) → line (event.Settle p v) ≡ Settles (Prom p) (value_by ts v) ∷ []
  pub waits : (p q : ℕ) → line (event.Wait p q) ≡ Waits (Prom p) (Prom q) ∷ []
  pub views : (p q : ℕ) → line (event.View p q) ≡ Views (Prom p) (Prom q) ∷ []
  pub sends : (act m : ℕ) (x : Held) (verb : Words) (args : List Held) (answer : Option ℕ)
      → line (event.Send act m x verb args answer) ≡ Sends act (record { id = Mess m; target = value_by ts x; verb = verb; args = map (value_by ts) args; answer = option_map Prom answer }) ∷ []
  pub reacts : (act m : ℕ) (x o near : Held) (answer : ℕ)
      → line (event.When act m x o near answer) ≡ Reacts act (value_by ts x) (value_by ts o) (record { id = Mess m; target = value_by ts near; verb = codes "run"; args = value_by ts x ∷ []; answer = Some (Prom answer) }) ∷ []
  pub lost : (m : ℕ) → line (event.LostBroken m) ≡ Lost (Mess m) ∷ []
  pub posted : (h m : ℕ) → line (event.Posted h m) ≡ Posted h (Mess m) ∷ []
  pub finished : (act : ℕ) (v : Held) → line (event.Done act v) ≡ Finished act (value_by ts v) ∷ []
  pub threw : (act t : ℕ) → line (event.Threw act (held.Text t)) ≡ Threw act (text_by ts t) ∷ []

unfoldable pub task_act : List ℕ → List Words → Task → Act Local (Unit {0})
task_act key ts (SendOn m d) = refs.send_on (names_under key) (refs.settle_at (names_under key) d) (message_by ts m)
task_act key ts (Settle p v d) = refs.settle_at (names_under key) d (Prom p) (value_by ts v)
task_act key ts (Enqueue m) = machine.enqueue (message_by ts m)
task_act key ts (Inform p w) = refs.inform (names_under key) (Prom p) w

unfoldable pub tasks_act : List ℕ → List Words → List Task → Act Local (Unit {0})
tasks_act key ts [] = machine.give tt
tasks_act key ts (t ∷ more) = task_act key ts t >> tasks_act key ts more

-- what one part comes to, and what it leaves to be done, stands for what the machine does then
abbrev pub GoesOn : List Words → List ℕ → Lines → Vat Local → Out (List Task) → Done Local (Unit {0}) → Type 0
GoesOn ts key line s (Ok us, i) d = (d ≡ tasks_act key ts us (vat_at ts line i s)) × Reads ts key i
GoesOn ts key line s (Err Fuel, i) d = d ≡ machine.Stops machine.Fuel (vat_at ts line i s)
GoesOn ts key line s (Err (Repeated m n), i) d = d ≡ machine.Stops (machine.Repeated m n) (vat_at ts line i s)
GoesOn ts key line s (Err Astray, i) d = d ≡ machine.Stops machine.Astray (vat_at ts line i s)
GoesOn ts key line s (Err Missing, i) d = Unit {0}
GoesOn ts key line s (Err Memory, i) d = Unit {0}

abbrev pub SettlesAsTheMachine : Type 0
SettlesAsTheMachine = (ts : List Words) (key : List ℕ) (line : Lines) (s : Vat Local) (i : Interior) (p : ℕ) (v : Held) → Tells ts line → Reads ts key i
    → StandsFor ts key line s (λ u. u) (settle p v i) (refs.settle (names_under key) (Prom p) (value_by ts v) (vat_at ts line i s))
