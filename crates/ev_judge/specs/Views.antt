-- What the definition of lawful frames sees of a vat's numbers, of what is known at an item and of a verdict.
use Rattle.std.specs.Prelude.{ℕ, length, map}
use Rattle.def_op.specs.Views.{operation}
use Rattle.def_hostile.specs.Judge as judge
use Rattle.def_hostile.specs.Judge.{Counts}
use Rattle.ev_tables.specs.Table.{Table}
use Rattle.ev_tables.specs.Standing.{is_object, local_of}
use Rattle.ev_judge.specs.declared.look.Look.{Look}
use Rattle.ev_judge.specs.declared.judge.Judged.{Judged}
use Rattle.ev_judge.specs.declared.judge.Judged.TheVariants.{Fine, Faulty}
use Rattle.ev_judge.specs.declared.judge.Verdict.{Verdict}
use Rattle.ev_judge.specs.declared.judge.Verdict.TheVariants.{Lawful, Malformed}

-- what a vat has in numbers for its peer
abbrev pub counts : Table → Counts
counts t = record {
  exports = length t.exports;
  answers = length t.answers;
  questions = length t.asked;
  imports = map (λ v. is_object (local_of v)) t.imports;
}

-- what is known at an item that has so many in front
abbrev pub seen : ℕ → Look → judge.Look
seen index l = record { index = index; op = l.op; code = l.code; new = l.gathered.items }

abbrev pub verdict_view : Verdict → judge.Verdict
verdict_view (Lawful op new) = judge.Lawful (operation op) new
verdict_view (Malformed place) = judge.Malformed place

abbrev pub judged_view : Judged → judge.Judged
judged_view (Fine new) = judge.Fine new
judged_view (Faulty place) = judge.Faulty place
