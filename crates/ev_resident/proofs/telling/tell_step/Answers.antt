use Rattle.std.proofs.Common.{ℕ, List, sym, ap, subst, ◌∙◌, map}
use Rattle.def_run.specs.Names.{names_after}
use Rattle.def_run.specs.Numbers.{frames_of}
use Rattle.ev_resident.specs.OutcomeStanding.{ObjectsStand}
use Rattle.ev_pass.specs.Notes.{Sent, sent}
use Rattle.ev_resident.specs.Framing.{AreOutgoing, all_outgoing}
use Rattle.ev_resident.specs.Telling.{naming_then}
use Rattle.ev_resident.specs.declared.outgoing.Outgoing.{Outgoing}
use Rattle.ev_resident.proofs.FramesOut.{frames_out}
use Rattle.ev_step_lines.specs.Lines.{Naming}
use Rattle.ev_resident.proofs.telling.tell_step.Goals as goal

pub returns-clause-told : goal.returns-clause-told
returns-clause-told c = λ v w u t s last cs messages brought after stands objects carries says cuts sends fits.
    let h = c.args.host.now in
    let i = h.inside in
    let n = c.name_step.new.names in
    let t' = names_after u t last messages brought s in
    let names = c.in_ok-name_step.ensures.names v s last u t messages brought after stands carries says in
    let kept = subst (λ (os : List (List ℕ)). ObjectsStand w.members u os) (sym c.in_ok-name_step.ensures.objects) objects in
    record {
      names = names;
      history = c.in_ok-tell_lines.ensures v s u t' w.members w.ways after names kept cuts;
      outgoing = subst (λ (ys : List Outgoing). AreOutgoing s.drawn (frames_of s (naming_then w u t s last messages brought) s.outbox cs) ys)
          (sym (c.in_ok-outgoing.ensures
          ∙ ap (λ (k : Naming). all_outgoing (record { telling = record { naming = k; texts = i.heap.texts; cut = c.args.cut.now }; drawn = i.words }) c.args.sendings.items (map sent c.puts.result.now)) c.table.ensures
          ∙ ap (λ (ps : List Sent). all_outgoing (record { telling = record { naming = n.naming; texts = i.heap.texts; cut = c.args.cut.now }; drawn = i.words }) c.args.sendings.items ps) c.puts.ensures))
          (frames_out v h s u t' n w.members c.args.cut.now c.args.sendings.items cs after names kept sends fits);
    }
