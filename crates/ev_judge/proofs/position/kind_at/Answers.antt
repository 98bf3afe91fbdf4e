use Rattle.std.proofs.Common.{◌≡◌, ℕ, ◌-◌, ◌∙◌, sym, ap, Some, slice_get, length}
use Rattle.ev_base.specs.declared.values.Value.{Value}
use Rattle.ev_tables.specs.Standing.{is_object, local_of}
use Rattle.ev_judge.proofs.Positions.{stands_first, stands_behind}
use Rattle.ev_judge.proofs.position.kind_at.Goals as goal

pub returns-in-Some : goal.returns-in-Some
returns-in-Some c =
    ap Some c.is_object.ensures
    ∙ sym (stands_first (λ (v : Value). is_object (local_of v)) c.args.connection.now.imports c.args.new.now c.args.position c.in-Some.value (sym c.imported.ensures ∙ c.in-Some.is))

pub returns-in-None : goal.returns-in-None
returns-in-None c =
    let place : c.saturating_sub.result ≡ c.args.position - length c.args.connection.now.imports = c.saturating_sub.ensures ∙ ap (λ (n : ℕ). c.args.position - n) c.next_import.ensures in
    c.new_kind.ensures ∙ ap (slice_get c.args.new.now) place
    ∙ sym (stands_behind (λ (v : Value). is_object (local_of v)) c.args.connection.now.imports c.args.new.now c.args.position (sym c.imported.ensures ∙ c.in-None.is))
