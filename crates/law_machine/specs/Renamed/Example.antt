-- A table that meets its laws, and a send to another vat by it.
use Rattle.std.specs.Prelude.{◌≡◌, ℕ, List, [], ◌∷◌, None, pos, codes}
use Rattle.def_machine.specs.Values.{Root, Object, Answer, Sent, Number, Ref, Obj, Prom, naming, numbering}
use Rattle.def_machine.specs.State.{Vat, Known, begun}
use Rattle.def_machine.specs.Refs.{send}
use Rattle.def_machine.specs.Maps as maps
use Rattle.law_machine.specs.Renamed.Stands.{Table, Is, found, IsTable}

-- vat 0 knows its own root and that of vat 1, and the answer of its first message there
unfoldable pub sample : Table
sample = record {
  names = Root 0 ∷ Root 1 ∷ Answer 1 (record { sender = 0; number = 0 }) ∷ [];
  mails = Sent (record { sender = 0; number = 0 }) ∷ [];
  exports = λ h p. None;
}

abbrev pub SampleIsTable : Type 0
SampleIsTable = IsTable 0 sample

unfoldable pub knowing : {N : Type 0} → List (Known N) → Vat N
knowing ks = record { number = 0; fuel = 100; drawn = []; things = []; slots = []; lists = []; activations = 0; messages = 0; promises = 0; queue = []; known = ks; mails = []; gifts = []; noticed = []; outbox = []; happened = [] }

-- a message on the root of vat 1, with an object of vat 0 and a number, is the same under numbers and under names
abbrev pub SampleSends : Type 0
SampleSends = maps.done (found 0 sample) (maps.value (found 0 sample)) (send (numbering {W = ℕ} (λ i. i)) 0 (Ref (Prom 1)) (codes "f") (Ref (Obj 3) ∷ Number (pos 1) ∷ []) (knowing (begun (Prom 0) 0 ∷ begun (Prom 1) 1 ∷ [])))
    ≡ maps.done Is (maps.value Is) (send (naming (λ i. i) 0) 0 (Ref (Root 1)) (codes "f") (Ref (Object 0 3) ∷ Number (pos 1) ∷ []) (knowing (begun (Root 0) 0 ∷ begun (Root 1) 1 ∷ [])))
