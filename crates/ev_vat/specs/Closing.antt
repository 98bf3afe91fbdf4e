-- What is left at a vat at the end of a run, in lines, where its numbers stand for these names.
use Rattle.std.specs.Prelude.{ℕ, zero, suc, List, [], ◌∷◌, ◌++◌, map}
use Rattle.def_event.specs.declared.event.Event.{Event}
use Rattle.def_event.specs.declared.event.Event.TheVariants.{LeftQueue, LeftHeld, LeftWait}
use Rattle.def_event.specs.declared.shown.Shown as shown
use Rattle.ev_refs.specs.References.{References}
use Rattle.ev_refs.specs.declared.known.Known.{Known}
use Rattle.ev_refs.specs.declared.known.Message.{Message}
use Rattle.ev_step_lines.specs.Lines.{Naming, name_at, mail_at}

abbrev pub queue_line : Naming → Message → Event
queue_line t m = LeftQueue t.vat (mail_at t m.id)

-- of a message that is held at name n
abbrev pub held_line : Naming → ℕ → Message → Event
held_line t n m = LeftHeld t.vat (name_at t n) (mail_at t m.id)

-- of a reaction on name n
abbrev pub wait_line : Naming → ℕ → Message → Event
wait_line t n m = LeftWait t.vat (shown.Name (name_at t n)) (mail_at t m.id)

-- what names hold, from that number on
unfoldable pub held_lines : Naming → ℕ → List Known → List Event
held_lines t n [] = []
held_lines t n (k ∷ ks) = map (held_line t n) k.held ++ held_lines t (suc n) ks

-- what waits for names to settle, from that number on
unfoldable pub wait_lines : Naming → ℕ → List Known → List Event
wait_lines t n [] = []
wait_lines t n (k ∷ ks) = map (wait_line t n) k.reactions ++ wait_lines t (suc n) ks

-- the queue, what is held, and what waits
abbrev pub left_lines : Naming → References → List Event
left_lines t r = map (queue_line t) r.queue ++ held_lines t zero r.known ++ wait_lines t zero r.known
