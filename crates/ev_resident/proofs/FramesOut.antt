-- The frames that are told of a step are those of the run.
use Rattle.std.proofs.Common.{◌≡◌, ℕ, Bool, List, map, sym, subst}
use Rattle.def_run.specs.Names.{Names}
use Rattle.def_run.specs.Numbers.{frames_of, name_at_vat}
use Rattle.def_run.specs.Vats.{Member as Theirs}
use Rattle.def_machine.specs.State.{Put, Vat}
use Rattle.def_machine.specs.Values.{Words, Name, Local}
use Rattle.def_run.specs.Connections.{Connection}
use Rattle.ev_arrive.specs.declared.host.Host.{Host}
use Rattle.ev_vat.specs.Sending.{AreOps, sending_of, spelled}
use Rattle.ev_vat.specs.declared.sending.Sending.{Sending}
use Rattle.ev_resident.specs.Names.{Named}
use Rattle.ev_resident.specs.Printing.{Agrees}
use Rattle.ev_resident.specs.NamesStanding.{words_of}
use Rattle.ev_resident.specs.OutcomeStanding.{IsAfter, NamesStand, ObjectsStand}
use Rattle.ev_resident.proofs.Naming.{agrees, mails_named, outbox_is, words_drawn}
use Rattle.ev_pass.specs.Reading.{put_by}
use Rattle.ev_resident.specs.Framing.{AreOutgoing, all_outgoing}
use Rattle.ev_resident.specs.declared.outgoing.Outgoing.{Outgoing}
use Rattle.ev_resident.proofs.Framing.{are_outgoing, noting}
use Rattle.ev_room.specs.Reading.{World, texts_of}

module _ (v : World) (h : Host) (s : Vat Local) (u : ℕ) (t : Names) (n : Named) (ms : List Theirs) (cut : List Bool) (xs : List Sending) (cs : List (Connection Local))
    (after : IsAfter v h s) (stands : NamesStand s.drawn u s t n) (objects : ObjectsStand ms u n.naming.objects)
    (sends : (f : Local → Name) → map sending_of xs ≡ map spelled (frames_of s f s.outbox cs)) (fits : (f : Local → Name) → AreOps (frames_of s f s.outbox cs)) where
  abbrev f : Local → Name
  f = name_at_vat ms u t

  table_agrees : Agrees (words_of h.inside.words) f n.naming
  table_agrees = subst (λ (ds : List ℕ). Agrees ds f n.naming) (sym (words_drawn v h s after)) (agrees s.drawn u s t n ms stands objects)

  pub frames_out : AreOutgoing s.drawn (frames_of s f s.outbox cs)
      (all_outgoing (record { telling = record { naming = n.naming; texts = h.inside.heap.texts; cut = cut }; drawn = h.inside.words }) xs h.inside.post)
  frames_out =
      let i = h.inside in
      let out : map (put_by (texts_of v)) i.post ≡ s.outbox = outbox_is v h s after in
      let ys : List Outgoing = all_outgoing (noting i.words n.naming cut v) xs i.post in
      subst (λ (ts : List Words). AreOutgoing s.drawn (frames_of s f s.outbox cs) (all_outgoing (record { telling = record { naming = n.naming; texts = ts; cut = cut }; drawn = i.words }) xs i.post)) after.texts
      (subst (λ (ds : List ℕ). AreOutgoing ds (frames_of s f s.outbox cs) ys) (words_drawn v h s after)
      (subst (λ (ps : List (Put Local)). AreOutgoing (words_of i.words) (frames_of s f ps cs) ys) out
      (are_outgoing i.words f n.naming cut v table_agrees (mails_named s.drawn u s t n ms stands objects) s i.post xs cs
      (subst (λ (ps : List (Put Local)). map sending_of xs ≡ map spelled (frames_of s f ps cs)) (sym out) (sends f))
      (subst (λ (ps : List (Put Local)). AreOps (frames_of s f ps cs)) (sym out) (fits f)))))
