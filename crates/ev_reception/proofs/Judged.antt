-- What a member judges by is what the run in numbers judges by.
use Rattle.std.proofs.Common.{◌≡◌, ℕ, List, get_or, Result, Ok, Err, IfOk, refl, sym, ap, ◌∙◌}
use Rattle.def_hostile.specs.Arrivals.{counts_in}
use Rattle.def_hostile.specs.Judge.{verdict}
use Rattle.def_machine.specs.State as machine
use Rattle.def_machine.specs.Values.{Local}
use Rattle.def_run.specs.Connections.{Connection}
use Rattle.def_run.specs.Vats.{Member as Theirs, connection_for, unconnected}
use Rattle.ev_base.specs.declared.memory.Memory.{Memory}
use Rattle.ev_judge.specs.Views.{verdict_view}
use Rattle.ev_judge.specs.declared.judge.Verdict.{Verdict}
use Rattle.ev_pass.specs.declared.interior.Interior.{Interior}
use Rattle.ev_room.specs.Reading.{World, vat_of}
use Rattle.ev_tables.specs.Standing.{connection_of}
use Rattle.ev_tables.specs.Table.{Table}
use Rattle.ev_vat.proofs.Worlds.{grown_world, sees_grown}
use Rattle.ev_vat.specs.Standing.{IsMember}
use Rattle.ev_vat.specs.declared.member.Member.{Member}
use Rattle.ev_wire.proofs.Writes.{connection_is, table_is}
use Rattle.ev_wire.specs.Putting.{table_for}
use Rattle.law_evaluation.proofs.Acts.Sounds.{grown_same}
use Rattle.law_evaluation.specs.Arrivals.Arrivals.{vat_in}
use Rattle.ev_arrive.specs.declared.host.Host.{Host}

number_in : (w : World) (h : Host) → (vat_in w h).number ≡ h.inside.refs.me
unfolding vat_of
number_in w h = refl

module _ (m : Theirs) (q : Member) (is : IsMember m q) (v : ℕ) where
  abbrev i : Interior
  i = q.vat.host.inside

  abbrev t : Table
  t = table_for v q.connections.items

  abbrev world : World
  world = grown_world i i is.rest.sound (grown_same i.heap)

  number : i.refs.me ≡ m.vat.number
  number = sym (number_in world q.vat.host) ∙ ap (λ (s : machine.Vat Local). s.number) (is.vat world (sees_grown i i is.rest.sound (grown_same i.heap)))

  connection : connection_of t ≡ connection_for v m
  unfolding connection_for
  connection = sym (connection_is q.connections.items v) ∙ ap (λ (cs : List (Connection Local)). get_or cs v unconnected) is.rest.connections

  pub judged : (vats : ℕ) (bytes : List ℕ) (r : Result Verdict Memory) → IfOk r (λ x. verdict_view x ≡ verdict vats i.refs.me t.peer (counts_in (connection_of t)) bytes)
      → IfOk r (λ x. verdict_view x ≡ verdict vats m.vat.number v (counts_in (connection_for v m)) bytes)
  judged vats bytes (Ok x) e =
      e ∙ ap (λ (u : ℕ). verdict vats u t.peer (counts_in (connection_of t)) bytes) number
      ∙ ap (λ (u : ℕ). verdict vats m.vat.number u (counts_in (connection_of t)) bytes) (table_is i.refs q.connections.items v is.rest.tables).peer
      ∙ ap (λ (c : Connection Local). verdict vats m.vat.number v (counts_in c) bytes) connection
  judged vats bytes (Err x) e = tt
