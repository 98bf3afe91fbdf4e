use Rattle.std.proofs.Common.{Bool, List, [], ap, length, map, subst, sym, ◌∙◌}
use Rattle.def_run.specs.Numbers.{run}
use Rattle.def_machine.specs.Values.{Words}
use Rattle.def_run.specs.Text.{vat_names}
use Rattle.ev_script.specs.declared.script.VatScript.{VatScript}
use Rattle.ev_step_text.specs.Accounts.{IsAccount}
use Rattle.ev_world.specs.Running.{script_of, told_text}
use Rattle.ev_world.specs.Writing.{AppendsFront, EndsAs, IsWritten, WritesRun}
use Rattle.ev_world.specs.declared.writing.Halt.{Halt}
use Rattle.ev_world.proofs.Wholes.{many_are, names_are}
use Rattle.ev_world.proofs.WrittenRuns.{front_whole}
use Rattle.ev_world.proofs.written.write_run.Goals as goal
use Rattle.law_schedule.specs.Scripts.{machine_entry}

pub returns-in-Ok-go_on-clause-text : goal.returns-in-Ok-go_on-clause-text
returns-in-Ok-go_on-clause-text g c = λ steady.
    let S = script_of c.args.script.now c.args.programs.items c.args.limits.depth in
    let held = g.K.Sink.written c.args.out.now in
    let mid = g.K.Sink.written c.go_on.new.out in
    let named = c.in-Ok.ensures ∙ ap (map (λ (v : VatScript). v.name)) c.as_slice-vats.ensures ∙ names_are c.args.script.now c.args.programs.items c.args.limits.depth in
    let fresh = subst (λ (ns : List Words). IsAccount ns c.of_text-account.result []) named c.of_text-account.ensures in
    let went = c.in-Ok-go_on.ensures.went S (many_are c.args.script.now c.args.programs.items c.args.limits.depth ∙ ap length (sym c.as_slice-vats.ensures)) (ap (map machine_entry) (sym c.as_slice.ensures)) steady (c.in-Ok-start.ensures.begun fresh) in
    let at = subst (λ (b : Bool). IsWritten S (vat_names S) b held mid went.0 c.go_on.new.world) (sym c.in-Ok-go_on.ensures.wire) went.1.1 in
    subst (λ (b : Bool). WritesRun S b held (g.K.Sink.written c.write_left.new.out) c.write_left.result) (c.in-Ok-go_on.ensures.wire ∙ c.in-Ok-start.ensures.wire) (c.write_left.ensures.text S went.0 held went.1.0 at)

pub returns-in-Err-Stopped-clause-text : goal.returns-in-Err-Stopped-clause-text
returns-in-Err-Stopped-clause-text g c = λ steady.
    let S = script_of c.args.script.now c.args.programs.items c.args.limits.depth in
    let held = g.K.Sink.written c.args.out.now in
    let mid = g.K.Sink.written c.go_on.new.out in
    let named = c.in-Ok.ensures ∙ ap (map (λ (v : VatScript). v.name)) c.as_slice-vats.ensures ∙ names_are c.args.script.now c.args.programs.items c.args.limits.depth in
    let fresh = subst (λ (ns : List Words). IsAccount ns c.of_text-account.result []) named c.of_text-account.ensures in
    let went = c.in-Err-Stopped.ensures.went S (many_are c.args.script.now c.args.programs.items c.args.limits.depth ∙ ap length (sym c.as_slice-vats.ensures)) (ap (map machine_entry) (sym c.as_slice.ensures)) steady (c.in-Ok-start.ensures.begun fresh) in
    let ends = subst (λ (h : Halt). EndsAs h (vat_names S) c.in-Ok-start.world.wire held mid (run S)) c.in-Err-Stopped.field-0-is went in
    subst (λ (b : Bool). WritesRun S b held (g.K.Sink.written c.write_stop.new.out) c.write_stop.result) c.in-Ok-start.ensures.wire (c.write_stop.ensures.text S c.in-Ok-start.world.wire held ends)

pub returns-clause-text : goal.returns-clause-text
returns-clause-text g c = λ steady.
    let S = script_of c.args.script.now c.args.programs.items c.args.limits.depth in
    let held = g.K.Sink.written c.args.out.now in
    let mid = g.K.Sink.written c.go_on.new.out in
    let named = c.in-Ok.ensures ∙ ap (map (λ (v : VatScript). v.name)) c.as_slice-vats.ensures ∙ names_are c.args.script.now c.args.programs.items c.args.limits.depth in
    let fresh = subst (λ (ns : List Words). IsAccount ns c.of_text-account.result []) named c.of_text-account.ensures in
    let went = c.in-Err-Unwritten.ensures.went S (many_are c.args.script.now c.args.programs.items c.args.limits.depth ∙ ap length (sym c.as_slice-vats.ensures)) (ap (map machine_entry) (sym c.as_slice.ensures)) steady (c.in-Ok-start.ensures.begun fresh) in
    let ends = subst (λ (h : Halt). EndsAs h (vat_names S) c.in-Ok-start.world.wire held mid (run S)) c.in-Err-Unwritten.field-0-is went in
    subst (λ (b : Bool). AppendsFront held mid (told_text b S)) c.in-Ok-start.ensures.wire
    (front_whole S c.in-Ok-start.world.wire held mid ends)
