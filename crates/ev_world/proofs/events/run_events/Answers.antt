use Rattle.std.proofs.Common.{List, [], ap, length, map, subst, sym, ◌∙◌}
use Rattle.def_machine.specs.Values.{Words}
use Rattle.ev_script.specs.declared.script.VatScript.{VatScript}
use Rattle.ev_step_text.specs.Accounts.{IsAccount}
use Rattle.ev_world.proofs.EventRuns.{ended_is, halted_is}
use Rattle.ev_world.proofs.Wholes.{many_are, names_are}
use Rattle.ev_world.specs.Running.{script_of}
use Rattle.ev_world.proofs.events.run_events.Goals as goal
use Rattle.law_schedule.specs.Scripts.{machine_entry}

pub returns-in-Err-clause-events : goal.returns-in-Err-clause-events
returns-in-Err-clause-events c = λ steady.
    let S = script_of c.args.script.now c.args.programs.items c.args.limits.depth in
    let named = c.in_ok-names_of.ensures ∙ ap (map (λ (v : VatScript). v.name)) c.as_slice-vats.ensures ∙ names_are c.args.script.now c.args.programs.items c.args.limits.depth in
    let fresh = subst (λ (ns : List Words). IsAccount ns c.of_events-account.result []) named c.of_events-account.ensures in
    (halted_is S c.go_on.new.self.wire c.in-Err.halted.stop c.in-Err.halted.step c.go_on.new.self.history _ c.in_ok-end.end (c.in-Err.ensures.wire ∙ c.in_ok-world.ensures.wire)
    (c.in-Err.ensures.went S (many_are c.args.script.now c.args.programs.items c.args.limits.depth ∙ ap length (sym c.as_slice-vats.ensures)) (ap (map machine_entry) (sym c.as_slice.ensures)) steady (c.in_ok-world.ensures.begun fresh))
    c.in_ok-history_of.ensures c.in_ok-end.ensures).0

pub returns-in-Err-clause-end : goal.returns-in-Err-clause-end
returns-in-Err-clause-end c = λ steady.
    let S = script_of c.args.script.now c.args.programs.items c.args.limits.depth in
    let named = c.in_ok-names_of.ensures ∙ ap (map (λ (v : VatScript). v.name)) c.as_slice-vats.ensures ∙ names_are c.args.script.now c.args.programs.items c.args.limits.depth in
    let fresh = subst (λ (ns : List Words). IsAccount ns c.of_events-account.result []) named c.of_events-account.ensures in
    (halted_is S c.go_on.new.self.wire c.in-Err.halted.stop c.in-Err.halted.step c.go_on.new.self.history _ c.in_ok-end.end (c.in-Err.ensures.wire ∙ c.in_ok-world.ensures.wire)
    (c.in-Err.ensures.went S (many_are c.args.script.now c.args.programs.items c.args.limits.depth ∙ ap length (sym c.as_slice-vats.ensures)) (ap (map machine_entry) (sym c.as_slice.ensures)) steady (c.in_ok-world.ensures.begun fresh))
    c.in_ok-history_of.ensures c.in_ok-end.ensures).1

pub returns-clause-events : goal.returns-clause-events
returns-clause-events c = λ steady.
    let S = script_of c.args.script.now c.args.programs.items c.args.limits.depth in
    let named = c.in_ok-names_of.ensures ∙ ap (map (λ (v : VatScript). v.name)) c.as_slice-vats.ensures ∙ names_are c.args.script.now c.args.programs.items c.args.limits.depth in
    let fresh = subst (λ (ns : List Words). IsAccount ns c.of_events-account.result []) named c.of_events-account.ensures in
    (ended_is S c.go_on.new.self.wire c.go_on.new.self _ _ (c.in_default.ensures.wire ∙ c.in_ok-world.ensures.wire)
    (c.in_default.ensures.went S (many_are c.args.script.now c.args.programs.items c.args.limits.depth ∙ ap length (sym c.as_slice-vats.ensures)) (ap (map machine_entry) (sym c.as_slice.ensures)) steady (c.in_ok-world.ensures.begun fresh))
    (λ w is_at. c.in_ok-close.ensures S w is_at) c.in_ok-history.ensures).0

pub returns-clause-end : goal.returns-clause-end
returns-clause-end c = λ steady.
    let S = script_of c.args.script.now c.args.programs.items c.args.limits.depth in
    let named = c.in_ok-names_of.ensures ∙ ap (map (λ (v : VatScript). v.name)) c.as_slice-vats.ensures ∙ names_are c.args.script.now c.args.programs.items c.args.limits.depth in
    let fresh = subst (λ (ns : List Words). IsAccount ns c.of_events-account.result []) named c.of_events-account.ensures in
    (ended_is S c.go_on.new.self.wire c.go_on.new.self _ _ (c.in_default.ensures.wire ∙ c.in_ok-world.ensures.wire)
    (c.in_default.ensures.went S (many_are c.args.script.now c.args.programs.items c.args.limits.depth ∙ ap length (sym c.as_slice-vats.ensures)) (ap (map machine_entry) (sym c.as_slice.ensures)) steady (c.in_ok-world.ensures.begun fresh))
    (λ w is_at. c.in_ok-close.ensures S w is_at) c.in_ok-history.ensures).1
