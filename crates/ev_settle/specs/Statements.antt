-- What is said of resolving and sending in the machine's terms.
use Rattle.std.specs.Prelude.{◌≡◌, ℕ, List, Some, None, Ok, Err, codes, map, option_map}
use Rattle.std.specs.declared.option.Option.{Option}
use Rattle.ev_base.specs.declared.values.Value.{Value as Held}
use Rattle.def_kernel.specs.declared.node.Node.{Node}
use Rattle.def_machine.specs.Calls.{resolver_answer}
use Rattle.def_machine.specs.Eval.{closes}
use Rattle.def_machine.specs.Perform as perform
use Rattle.def_machine.specs.Refs as refs
use Rattle.def_machine.specs.Scopes.{Resolves, Smashes}
use Rattle.def_machine.specs.State as machine
use Rattle.def_machine.specs.State.{Vat, Done}
use Rattle.def_machine.specs.Values.{Words, Value, Null, Ref, Local, Prom}
use Rattle.ev_pass.specs.Reading.{Lines, Reads, StandsFor, names_under, vat_at}
use Rattle.ev_pass.specs.declared.interior.Interior.{Interior}
use Rattle.ev_refs.specs.Reading.{text_by, value_by}
use Rattle.ev_pass.specs.Acts.{Out}
use Rattle.ev_pass.specs.declared.interior.Stop.TheVariants.{Fuel, Repeated, Astray, Missing, Memory}
use Rattle.ev_settle.specs.Closing.{finish, throw}
use Rattle.ev_settle.specs.Performing.{Tells}
use Rattle.ev_settle.specs.declared.resolver.Resolution.{Resolution}
use Rattle.ev_settle.specs.declared.resolver.Resolution.TheVariants.{Resolved, AlreadyResolved, BadArgument}
use Rattle.ev_settle.specs.Reacting.{when_resolved, tell_resolver, smash_resolver}
use Rattle.ev_settle.specs.Resolving.{resolve}
use Rattle.ev_refs.specs.Reading.{message_by}
use Rattle.ev_refs.specs.declared.known.Message.{Message}
use Rattle.ev_settle.specs.Sending.{send, send_only}
use Rattle.ev_settle.specs.Settling.{forward}

abbrev pub ResolvesAsTheMachine : Type 0
ResolvesAsTheMachine = (ts : List Words) (key : List ℕ) (line : Lines) (s : Vat Local) (i : Interior) (p : ℕ) (x : Held) → Tells ts line → Reads ts key i
    → StandsFor ts key line s (λ u. u) (resolve p x i) (refs.resolve (names_under key) (Prom p) (value_by ts x) (vat_at ts line i s))

abbrev pub SendsAsTheMachine : Type 0
SendsAsTheMachine = (ts : List Words) (key : List ℕ) (line : Lines) (s : Vat Local) (i : Interior) (act : ℕ) (x : Held) (verb : Words) (args : List Held) → Tells ts line → Reads ts key i
    → StandsFor ts key line s (λ a. Ref (Prom a)) (send act x verb args i) (refs.send (names_under key) act (value_by ts x) verb (map (value_by ts) args) (vat_at ts line i s))

abbrev null : Value Local
null = Null

abbrev pub SendsOnlyAsTheMachine : Type 0
SendsOnlyAsTheMachine = (ts : List Words) (key : List ℕ) (line : Lines) (s : Vat Local) (i : Interior) (act : ℕ) (x : Held) (verb : Words) (args : List Held) → Tells ts line → Reads ts key i
    → StandsFor ts key line s (λ u. null) (send_only act x verb args i) (refs.send_only (names_under key) act (value_by ts x) verb (map (value_by ts) args) (vat_at ts line i s))

abbrev pub ForwardsAsTheMachine : Type 0
ForwardsAsTheMachine = (ts : List Words) (key : List ℕ) (line : Lines) (s : Vat Local) (i : Interior) (m : Message) → Tells ts line → Reads ts key i
    → StandsFor ts key line s (λ u. u) (forward m i) (refs.send_on (names_under key) (refs.settle (names_under key)) (message_by ts m) (vat_at ts line i s))

-- what something gives stands for how the machine ends, with a value or a problem
abbrev pub EndsFor : {A B : Type 0} → List Words → List ℕ → Lines → Vat Local → (A → Vat Local → Done Local B) → Out A → Done Local B → Type 0
EndsFor ts key line s end (Ok a, i) d = (d ≡ end a (vat_at ts line i s)) × Reads ts key i
EndsFor ts key line s end (Err Fuel, i) d = d ≡ machine.Stops machine.Fuel (vat_at ts line i s)
EndsFor ts key line s end (Err (Repeated m n), i) d = d ≡ machine.Stops (machine.Repeated m n) (vat_at ts line i s)
EndsFor ts key line s end (Err Astray, i) d = d ≡ machine.Stops machine.Astray (vat_at ts line i s)
EndsFor ts key line s end (Err Missing, i) d = Unit {0}
EndsFor ts key line s end (Err Memory, i) d = Unit {0}

-- the name of an answer is given, or a problem is thrown where the object is not near
abbrev pub answer_given : Option ℕ → Vat Local → Done Local (Value Local)
answer_given (Some a) s = machine.Gives (Ref (Prom a)) s
answer_given None s = machine.Throws (codes "not near") s

-- how a call on a resolver ends
abbrev pub resolution_by : Resolution → Vat Local → Done Local (Value Local)
resolution_by Resolved s = machine.Gives Null s
resolution_by AlreadyResolved s = machine.Throws (codes "already resolved") s
resolution_by BadArgument s = machine.Throws (codes "bad argument") s

abbrev pub WhensAsTheMachine : Type 0
WhensAsTheMachine = (ts : List Words) (key : List ℕ) (line : Lines) (s : Vat Local) (i : Interior) (tree : List Node) (act : ℕ) (x o : Held) → Tells ts line → Reads ts key i
    → EndsFor ts key line s answer_given (when_resolved act x o i) (perform.when_resolved (names_under key) tree act (value_by ts x) (value_by ts o) (vat_at ts line i s))

abbrev pub IsToldAsTheMachine : Type 0
IsToldAsTheMachine = (ts : List Words) (key : List ℕ) (line : Lines) (s : Vat Local) (i : Interior) (tree : List Node) (p : ℕ) (x : Held) → Tells ts line → Reads ts key i
    → EndsFor ts key line s resolution_by (tell_resolver p x i) (resolver_answer (names_under key) tree (Prom p) (Resolves (value_by ts x)) (vat_at ts line i s))

abbrev pub IsSmashedAsTheMachine : Type 0
IsSmashedAsTheMachine = (ts : List Words) (key : List ℕ) (line : Lines) (s : Vat Local) (i : Interior) (tree : List Node) (p : ℕ) (x : Held) → Tells ts line → Reads ts key i
    → EndsFor ts key line s resolution_by (smash_resolver p x i) (resolver_answer (names_under key) tree (Prom p) (Smashes (value_by ts x)) (vat_at ts line i s))

-- a turn that gave a value, or threw a problem, is closed
abbrev pub FinishesAsTheMachine : Type 0
FinishesAsTheMachine = (ts : List Words) (key : List ℕ) (line : Lines) (s : Vat Local) (i : Interior) (tree : List Node) (act : ℕ) (o : Option ℕ) (v : Held) → Tells ts line → Reads ts key i
    → StandsFor ts key line s (λ u. u) (finish act o v i) (closes (names_under key) tree act (option_map Prom o) (machine.give (value_by ts v)) (vat_at ts line i s))

abbrev pub ThrowsAsTheMachine : Type 0
ThrowsAsTheMachine = (ts : List Words) (key : List ℕ) (line : Lines) (s : Vat Local) (i : Interior) (tree : List Node) (act : ℕ) (o : Option ℕ) (t : ℕ) → Tells ts line → Reads ts key i
    → StandsFor ts key line s (λ u. u) (throw act o t i) (closes (names_under key) tree act (option_map Prom o) (machine.throw (text_by ts t)) (vat_at ts line i s))
