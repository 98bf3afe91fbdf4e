-- What is said of passing in the machine's terms.
use Rattle.std.specs.Prelude.{◌≡◌, ℕ, List, [], ◌∷◌, Option, map, option_map}
use Rattle.ev_base.specs.declared.values.Value.{Value as Held}
use Rattle.def_machine.specs.Values.{Words, Value, Local, Mess, Prom}
use Rattle.def_machine.specs.State.{Vat, Posted}
use Rattle.def_machine.specs.Refs as refs
use Rattle.ev_refs.specs.Reading.{value_by}
use Rattle.ev_pass.specs.Delivering.{deliver, inform, posted}
use Rattle.ev_pass.specs.Passing.{pass, packs}
use Rattle.ev_pass.specs.Reading.{Lines, Reads, StandsFor, names_under, passed_by, passeds_by, reference_by, vat_at}
use Rattle.ev_pass.specs.declared.interior.Interior.{Interior}
use Rattle.ev_pass.specs.declared.note.Reference.{Reference}

abbrev pub PassesAsTheMachine : Type 0
PassesAsTheMachine = (ts : List Words) (key : List ℕ) (line : Lines) (s : Vat Local) (i : Interior) (w : ℕ) (v : Held) → Reads ts key i
    → StandsFor ts key line s (passed_by ts) (pass w v i) (refs.pass (names_under key) w (value_by ts v) (vat_at ts line i s))

abbrev pub PassesAllAsTheMachine : Type 0
PassesAllAsTheMachine = (ts : List Words) (key : List ℕ) (line : Lines) (s : Vat Local) (i : Interior) (w : ℕ) (vs : List Held) → Reads ts key i
    → StandsFor ts key line s (passeds_by ts) (packs (pass w) vs i) (refs.pass_all (names_under key) w (map (value_by ts) vs) (vat_at ts line i s))

-- a message is delivered, where what is told of that is the machine's line
abbrev pub DeliversAsTheMachine : Type 0
DeliversAsTheMachine = (ts : List Words) (key : List ℕ) (line : Lines) (s : Vat Local) (i : Interior) (m : ℕ) (a : Option ℕ) (verb : Words) (args : List Held) (h : ℕ) (x : Reference) (target : Value Local) → Reads ts key i
    → line (posted h m) ≡ Posted h (Mess m) ∷ []
    → StandsFor ts key line s (λ u. u) (deliver m a verb args h x i) (refs.deliver (names_under key) (record { id = Mess m; target = target; verb = verb; args = map (value_by ts) args; answer = option_map Prom a }) h (reference_by x) (vat_at ts line i s))

abbrev pub InformsAsTheMachine : Type 0
InformsAsTheMachine = (ts : List Words) (key : List ℕ) (line : Lines) (s : Vat Local) (i : Interior) (p w : ℕ) → Reads ts key i
    → StandsFor ts key line s (λ u. u) (inform p w i) (refs.inform (names_under key) (Prom p) w (vat_at ts line i s))
