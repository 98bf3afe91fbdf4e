use Rattle.std.proofs.Common.{length, refl, subst, Option}
use Rattle.std.proofs.lemmas.Option.{slice_get_read}
use Rattle.ev_base.specs.declared.names.Msg.{Msg}
use Rattle.ev_uses.specs.Places.{NotesFor, PutsFor}
use Rattle.ev_uses.proofs.Finding.{none_found, source_step}
use Rattle.ev_uses.proofs.sources.Sources.put_lines.Goals as goal

pub loop-index-init : goal.loop-index-init
loop-index-init c carried sent = none_found c.args.events.now c.args.self.now carried sent

pub loop-index-preserved : goal.loop-index-preserved
loop-index-preserved c carried sent =
    let i = c.loop-index.index in
    let get = slice_get_read c.args.events.now (length c.args.events.now) i c.index-events-index.result refl c.loop-index-test.true c.index-events-index.is in
    source_step c.args.events.now i c.index-events-index.result (record { carried = c.loop-index.self.carried; sent = c.loop-index.self.sent }) (record { carried = c.put.new.self; sent = c.note.new.self }) get
    (subst (λ (m : Option Msg). PutsFor m i c.loop-index.self.carried c.put.new.self) c.carried_message.ensures c.in_ok-put.ensures)
    (subst (λ (m : Option Msg). NotesFor m i c.loop-index.self.sent c.note.new.self) c.sent_message.ensures c.in_ok-note.ensures) (c.loop-index.invariant carried sent)
