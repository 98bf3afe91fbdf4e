-- What turns run in the machine, and what the code answers of it.
use Rattle.std.specs.Prelude.{◌≡◌, ℕ, suc, nat_lt, true, List, [], ◌∷◌, length, Result, Ok, Err, IsErr}
use Rattle.ev_base.specs.declared.memory.Memory.{Memory}
use Rattle.ev_heap.specs.Contents.{Contents}
use Rattle.def_kernel.specs.declared.node.Node.{Node}
use Rattle.def_machine.specs.Values.{Words, Value, Naming, Local}
use Rattle.def_machine.specs.State.{Binding, Vat, Done, Gives, Throws, Stops, Fuel, Deep, Repeated, Astray, Act, ◌>>=◌, give, throw, stop, ending}
use Rattle.def_machine.specs.Eval.{evaluator}
use Rattle.ev_vat.specs.declared.turn.Ended.{Ended}
use Rattle.ev_vat.specs.declared.turn.Ended.TheVariants as ended
use Rattle.ev_pass.specs.declared.interior.Interior.{Interior}
use Rattle.ev_room.specs.Reading.{World, text_of, value_of, vat_of}
use Rattle.ev_room.specs.Sound.{IsSound, is_there}
use Rattle.ev_room.specs.declared.exit.Exit.{Exit}
use Rattle.ev_room.specs.declared.exit.Exit.TheVariants as exit
use Rattle.ev_base.specs.declared.values.Value.{Value as Held}
use Rattle.ev_base.specs.declared.values.Value.TheVariants as held
use Rattle.ev_room.specs.Sound.{no_guard}
use Rattle.ev_room.specs.declared.scope.Binding.{Binding as Bond}
use Rattle.ev_room.specs.declared.scope.Bound.TheVariants as scope

-- the same in the code's terms
abbrev pub bonds_from : ℕ → List Words → List Bond
bonds_from n [] = []
bonds_from n (x ∷ xs) = record { noun = x; bound = scope.Fixed (held.Prom n) no_guard } ∷ bonds_from (suc n) xs

-- the program is evaluated in an activation, where these nouns are bound
unfoldable pub evaluated : {N W : Type 0} → Naming N W → List Node → ℕ → List (Binding N) → ℕ → Act N (Value N)
evaluated K tree depth given a = do
  x ← (evaluator K tree depth).expression 0 (record { act = a; nouns = given })
  give x.value

-- what a turn runs, where what leaves by an ejector goes astray, since no escape awaits it
unfoldable pub turn_of : {N : Type 0} → Act N (Value N) → Act N (Value N)
turn_of m = ending give throw (λ n v. stop Astray) m

-- how a turn ended whose evaluation gave no value
abbrev pub EndsBy : Exit → Result Ended Memory → Type 0
EndsBy (exit.Thrown id) r = r ≡ Ok (ended.Thrown id)
EndsBy (exit.Ejected n v) r = r ≡ Ok ended.Astray
EndsBy exit.Fuel r = r ≡ Ok ended.Fuel
EndsBy exit.Deep r = r ≡ Ok ended.Deep
EndsBy (exit.Repeated i j) r = r ≡ Ok (ended.Repeated i j)
EndsBy exit.Astray r = r ≡ Ok ended.Astray
EndsBy exit.Memory r = IsErr r

-- how a turn ended, by how its evaluation did
abbrev pub EndsAs : Result Held Exit → Result Ended Memory → Type 0
EndsAs (Ok v) r = r ≡ Ok (ended.Value v)
EndsAs (Err e) r = EndsBy e r

-- what the code answered is the outcome, which leaves that vat, unless memory ran out
abbrev pub EndsAt : World → Result Ended Memory → Vat Local → Done Local (Value Local) → Type 0
EndsAt w (Ok (ended.Value v)) s out = out ≡ Gives (value_of w v) s
EndsAt w (Ok (ended.Thrown id)) s out = out ≡ Throws (text_of w id) s
EndsAt w (Ok ended.Fuel) s out = out ≡ Stops Fuel s
EndsAt w (Ok ended.Deep) s out = out ≡ Stops Deep s
EndsAt w (Ok (ended.Repeated i j)) s out = out ≡ Stops (Repeated i j) s
EndsAt w (Ok ended.Astray) s out = out ≡ Stops Astray s
EndsAt w (Err memory) s out = Unit {0}

-- the same, where it leaves what the code left
abbrev pub Ends : World → Result Ended Memory → Interior → Done Local (Value Local) → Type 0
Ends w r i out = EndsAt w r (vat_of w i) out

-- where it did not stop, what is left is what turns leave behind
abbrev pub LeftBy : Ended → Interior → Type 0
LeftBy (ended.Value v) i = IsSound i
LeftBy (ended.Thrown id) i = IsSound i
LeftBy ended.Fuel i = Unit {0}
LeftBy ended.Deep i = Unit {0}
LeftBy (ended.Repeated m n) i = Unit {0}
LeftBy ended.Astray i = Unit {0}

-- where it ended with a value or a problem, that stands in the heap
abbrev pub GivesThere : Contents → Ended → Type 0
GivesThere heap (ended.Value v) = is_there heap v ≡ true
GivesThere heap (ended.Thrown id) = nat_lt id (length heap.texts) ≡ true
GivesThere heap ended.Fuel = Unit {0}
GivesThere heap ended.Deep = Unit {0}
GivesThere heap (ended.Repeated i j) = Unit {0}
GivesThere heap ended.Astray = Unit {0}
