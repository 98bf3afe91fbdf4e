-- How the inside of a vat stands for a vat of the machine, in local numbers, where the texts are these.
use Rattle.std.specs.Prelude.{◌≡◌, ℕ, List, [], ◌∷◌, ◌++◌, Some, Ok, Err, is_some, map, option_map, codes, slice_get}
use Rattle.ev_heap.specs.declared.happened.Happened.{Happened as Event}
use Rattle.ev_intro.specs.Word.{word}
use Rattle.def_machine.specs.Values.{Words, Naming, Local, Obj, Prom, Far, Mess, numbering}
use Rattle.def_machine.specs.State as machine
use Rattle.def_machine.specs.State.{Vat, Done, Happened}
use Rattle.ev_refs.specs.Leading.{lists_in}
use Rattle.ev_refs.specs.Reading.{text_by, value_by, vat_by}
use Rattle.ev_refs.specs.Statements.{KnowsTexts}
use Rattle.ev_pass.specs.Acts.{Out, words_by}
use Rattle.ev_pass.specs.Notes.{Parcel, Parcels, Plain, Gift, Many, NoMore, More, Noted, Deliver, Open, Ask, Settled, Elsewhere, Shorten, Sent}
use Rattle.ev_pass.specs.declared.interior.Interior.{Interior}
use Rattle.ev_pass.specs.declared.interior.Stop.TheVariants.{Fuel, Repeated, Astray, Missing, Memory}
use Rattle.ev_pass.specs.declared.note.Reference.{Reference}
use Rattle.ev_pass.specs.declared.note.Reference.TheVariants as reference

-- the lines of an event
abbrev pub Lines : Type 0
Lines = Event → List (Happened Local)

unfoldable pub lines_of : Lines → List Event → List (Happened Local)
lines_of line [] = []
lines_of line (e ∷ es) = line e ++ lines_of line es

abbrev pub reference_by : Reference → Local
reference_by (reference.Object i) = Obj i
reference_by (reference.Promise n) = Prom n
reference_by (reference.Far h p) = Far h p

unfoldable mutual
  pub passed_by : List Words → Parcel → machine.Passed Local
  passed_by ts (Plain v) = machine.Plain (value_by ts v)
  passed_by ts (Gift h i) = machine.AGift h i
  passed_by ts (Many ps) = machine.Many (passeds_by ts ps)

  pub passeds_by : List Words → Parcels → machine.Passeds Local
  passeds_by ts NoMore = machine.NoMore
  passeds_by ts (More p ps) = machine.More (passed_by ts p) (passeds_by ts ps)

abbrev pub note_by : List Words → Noted → machine.Note Local
note_by ts (Deliver m a x verb ps) = machine.Deliver (record { message = Mess m; asks = is_some a; answer = option_map Prom a }) (reference_by x) verb (passeds_by ts ps)
note_by ts (Open i x) = machine.Open i (reference_by x)
note_by ts (Ask p i n) = machine.Ask p i (Prom n)
note_by ts (Settled n p) = machine.SettledTo (Prom n) (passed_by ts p)
note_by ts (Elsewhere n c) = machine.Elsewhere (Prom n) c
note_by ts (Shorten n c i) = machine.Shorten (Prom n) c i

abbrev pub put_by : List Words → Sent → machine.Put Local
put_by ts p = record { to = p.to; note = note_by ts p.note }

-- with the heap's lists, the fuel and the words, and what happened and was put behind what was before
abbrev pub around : List Words → Lines → Interior → Vat Local → Vat Local
around ts line i s = record s {
  fuel = i.micro.fuel;
  drawn = words_by i.words.key i.words.count;
  lists = map (map (value_by ts)) (lists_in i.heap);
  outbox = s.outbox ++ map (put_by ts) i.post;
  happened = s.happened ++ lines_of line i.micro.events;
}

-- a vat of the machine with this inside, and all else as it is
abbrev pub vat_at : List Words → Lines → Interior → Vat Local → Vat Local
vat_at ts line i s = vat_by ts i.refs (around ts line i s)

-- The texts are those of the heap so far, and maybe others behind them; those of the problems have the numbers that the inside has for
-- them; and words are drawn under that key.
pub record Reads (ts : List Words) (key : List ℕ) (i : Interior) : Type 0 where
  pub known : KnowsTexts ts i.refs
  pub heavy : text_by ts i.too_heavy ≡ codes "too heavy"
  pub texts : (id : ℕ) (t : Words) → slice_get i.heap.texts id ≡ Some t → text_by ts id ≡ t
  pub drawn : i.words.key ≡ key

abbrev pub names_under : List ℕ → Naming Local Local
names_under key = numbering {W = Local} (word key)

-- What something gives in the code's terms stands for what it gives in the machine, and a stop for a stop. Where the heap does not have
-- a text that was to be weighed, nothing is said.
abbrev pub StandsFor : {A B : Type 0} → List Words → List ℕ → Lines → Vat Local → (A → B) → Out A → Done Local B → Type 0
StandsFor ts key line s read (Ok a, i) d = (d ≡ machine.Gives (read a) (vat_at ts line i s)) × Reads ts key i
StandsFor ts key line s read (Err Fuel, i) d = d ≡ machine.Stops machine.Fuel (vat_at ts line i s)
StandsFor ts key line s read (Err (Repeated m n), i) d = d ≡ machine.Stops (machine.Repeated m n) (vat_at ts line i s)
StandsFor ts key line s read (Err Astray, i) d = d ≡ machine.Stops machine.Astray (vat_at ts line i s)
StandsFor ts key line s read (Err Missing, i) d = Unit {0}
StandsFor ts key line s read (Err Memory, i) d = Unit {0}
