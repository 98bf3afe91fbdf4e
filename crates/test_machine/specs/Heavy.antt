-- A list that is too high passes to another vat as broken, and draws nothing.
use Rattle.std.specs.Prelude.{◌≡◌, ℕ, zero, suc, List, [], ◌∷◌, ◌++◌, length, codes}
use Rattle.def_machine.specs.Values.{Value, Broken, Items, Ref, Name, Local, Prom, Far, Naming, numbering}
use Rattle.def_machine.specs.State.{Settled, Plain, Passed, Vat, Done, Gives, Throws, Ejects, Stops}
use Rattle.def_machine.specs.Refs.{pass}
use Rattle.def_machine.specs.Refs.{opened_refs}

-- so many lists, each of the one before it
unfoldable pub nested : ℕ → ℕ → List (List (Value Local))
nested k zero = []
nested k (suc n) = (Items k ∷ []) ∷ nested (suc k) n

-- List 0 holds an object of vat 2, list 99 is 100 high, and list 100 holds a promise that settled to list 99.
unfoldable pub holder : Vat Local
holder = record {
  number = 0;
  fuel = 1000;
  drawn = [];
  things = [];
  slots = [];
  lists = (Ref (Far 2 0) ∷ []) ∷ nested 0 99 ++ (Ref (Prom 0) ∷ []) ∷ [];
  activations = 0;
  messages = 0;
  promises = 1;
  queue = [];
  known = record { name = Prom 0; host = 0; standing = Settled (Items 99); held = []; waiting = []; reactions = []; told = [] } ∷ [];
  mails = [];
  gifts = [];
  noticed = [];
  outbox = [];
  happened = [];
}

unfoldable pub naming_of : Naming Local Name
naming_of = numbering (λ i. i)

-- what is left of the fuel, and how many words were drawn
unfoldable pub left_after : Done Local (Passed Local) → ℕ × ℕ
left_after (Gives y t) = (t.fuel, length t.drawn)
left_after (Throws p t) = (0, 0)
left_after (Ejects n v t) = (0, 0)
left_after (Stops c t) = (0, 0)

-- To vat 1 the list of 100 passes with its member as a gift, for 101 units of fuel; the list of the promise passes as broken, for 10, and draws nothing.
abbrev pub HeavyHolds : Type 0
HeavyHolds =
    (left_after (pass naming_of 1 (Items 99) holder) ≡ (899, 1))
    × (pass naming_of 1 (Items 100) holder ≡ Gives (Plain (Broken (codes "too heavy"))) (record holder { fuel = 990 }))

-- opens the definitions of this file, and of those below
unfoldable pub opened_heavy : Unit {0}
unfolding nested holder naming_of left_after opened_refs
opened_heavy = tt
