-- The inside of a vat at its start, and as its next step finds it.
use Rattle.std.specs.Prelude.{◌≡◌, ℕ, zero, suc, List, [], ◌∷◌, fold, map}
use Rattle.def_machine.specs.State.{Known, Vat, begun, with_vat}
use Rattle.def_machine.specs.Values.{Local, Prom}
use Rattle.ev_intro.specs.Word.{Drawn}
use Rattle.ev_pass.specs.declared.interior.Interior.{Interior}
use Rattle.ev_refs.specs.References.{References, no_references, unsettled_of}
use Rattle.ev_refs.specs.declared.known.Known.{Known as Kept}
use Rattle.ev_room.specs.Sound.{cycle_id, partition_id}

-- each of a list once, in the order of coming
abbrev pub each_once : List ℕ → List ℕ
each_once vs = fold (λ ws v. with_vat v ws) [] vs

-- the root of a vat, of which these are to be told
abbrev pub root_of : ℕ → List ℕ → Kept
root_of me told = record (unsettled_of me) { told = told }

-- it knows its root, of which those that know it are to be told, and then the roots of those that it knows
abbrev pub root_references : ℕ → List ℕ → List ℕ → References
root_references me knows known_by = record (no_references me partition_id cycle_id) { known = root_of me (each_once known_by) ∷ map unsettled_of knows }

-- it has drawn no word and put no note, and draws under that key
pub record IsRooted (me : ℕ) (knows known_by : List ℕ) (under : List ℕ) (i : Interior) : Type 0 where
  pub refs : i.refs ≡ root_references me knows known_by
  pub drawn : i.words.count ≡ zero
  pub key : i.words.key ≡ under
  pub post : i.post ≡ []

-- the roots of those that a vat knows, as the names of these numbers
abbrev pub roots_known : ℕ → List ℕ → List (Known Local)
roots_known n [] = []
roots_known n (v ∷ vs) = begun (Prom n) v ∷ roots_known (suc n) vs

-- a vat of the machine at its start, in numbers of its own
abbrev pub fresh : ℕ → ℕ → List ℕ → List ℕ → Vat Local
fresh me fuel knows known_by = record {
  number = me;
  fuel = fuel;
  drawn = [];
  things = [];
  slots = [];
  lists = [];
  activations = zero;
  messages = zero;
  promises = zero;
  queue = [];
  known = record (begun (Prom zero) me) { told = each_once known_by } ∷ roots_known 1 knows;
  mails = [];
  gifts = [];
  noticed = [];
  outbox = [];
  happened = [];
}

-- as its next step finds it, with so much fuel, where those words were drawn so far: what the last one told and put is forgotten
abbrev pub readied : ℕ → Drawn → Interior → Interior
readied fuel words i = record i { micro = record { fuel = fuel; events = [] }; words = words; post = [] }
