-- The lines of a step, by the names after it.
use Rattle.std.proofs.Common.{◌≡◌, ℕ, Bool, List, ◌++◌, map, sym, ap, subst, ◌∙◌}
use Rattle.ev_arrive.specs.declared.host.Host.{Host}
use Rattle.def_run.specs.Names.{Names}
use Rattle.def_run.specs.Numbers.{Way, lines_of, link_of, name_at_vat}
use Rattle.def_run.specs.Vats.{Member}
use Rattle.def_machine.specs.Maps as maps
use Rattle.def_machine.specs.State.{Happened, Vat}
use Rattle.def_machine.specs.Values.{Words, Name, Local}
use Rattle.def_run.specs.Text.{shown_events}
use Rattle.def_run.specs.World.{events_of}
use Rattle.ev_resident.specs.Names.{Named}
use Rattle.ev_resident.specs.Printing.{TellsCuts}
use Rattle.ev_resident.proofs.Shows.{lines_shown}
use Rattle.ev_room.specs.Reading.{World, vat_of}
use Rattle.ev_room.specs.Reading as room
use Rattle.ev_step_lines.specs.Lines as told
use Rattle.ev_resident.specs.OutcomeStanding.{IsAfter, NamesStand, ObjectsStand}
use Rattle.ev_resident.proofs.Naming.{agrees}

module _ (w : World) (h : Host) (s : Vat Local) (u : ℕ) (t : Names) (n : Named) (ms : List Member) (ways : List Way) (cut : List Bool)
    (after : IsAfter w h s) (stands : NamesStand s.drawn u s t n) (objects : ObjectsStand ms u n.naming.objects) (cuts : TellsCuts u (map link_of ways) cut) where
  abbrev f : Local → Name
  f = name_at_vat ms u t

  happened_is : room.lines_of w h.inside.micro.events ≡ s.happened
  unfolding vat_of
  happened_is = ap (λ (es : List (Happened Local)). es ++ room.lines_of w h.inside.micro.events) (sym after.happened) ∙ ap (λ (v : Vat Local). v.happened) after.vat

  pub lines_are : shown_events s.drawn (lines_of ways u f s.happened) ≡ told.lines_of (record { naming = n.naming; texts = h.inside.heap.texts; cut = cut }) h.inside.micro.events
  unfolding lines_of
  lines_are =
      ap (λ (es : List (Happened Local)). shown_events s.drawn (events_of (map link_of ways) u (map (maps.line f) es))) (sym happened_is)
      ∙ ap (λ (v : ℕ). shown_events s.drawn (events_of (map link_of ways) v (map (maps.line f) (room.lines_of w h.inside.micro.events)))) (sym stands.vat)
      ∙ lines_shown s.drawn f n.naming (map link_of ways) cut w (agrees s.drawn u s t n ms stands objects) (subst (λ (v : ℕ). TellsCuts v (map link_of ways) cut) (sym stands.vat) cuts) h.inside.micro.events
      ∙ ap (λ (ts : List Words). told.lines_of (record { naming = n.naming; texts = ts; cut = cut }) h.inside.micro.events) after.texts
