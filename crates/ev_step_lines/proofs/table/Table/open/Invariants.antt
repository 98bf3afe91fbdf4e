use Rattle.std.proofs.Common.{◌≡◌, ◌++◌, [], replicate}
use Rattle.ev_step_lines.proofs.table.Table.open.Given as goal

abbrev pub invariant-loop : goal.invariant-loop
invariant-loop l = (l.self-inside.vat ≡ l.initial.self-inside.vat) × (l.self-inside.names ≡ l.initial.self-inside.names) × (l.self-inside.mails ≡ l.initial.self-inside.mails)
    × (l.self-inside.objects.items ≡ l.initial.self-inside.objects.items ++ replicate l.counter [])
