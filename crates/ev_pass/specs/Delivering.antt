-- Messages that go out and vats that are told, in the code's terms.
use Rattle.std.specs.Prelude.{ℕ, if◌then◌else◌, List, Option}
use Rattle.ev_base.specs.declared.values.Value.{Value}
use Rattle.ev_base.specs.declared.values.Value.TheVariants as held
use Rattle.ev_heap.specs.declared.happened.Happened.{Happened as Event}
use Rattle.ev_heap.specs.declared.happened.Happened.TheVariants as event
use Rattle.def_machine.specs.State.{is_in}
use Rattle.ev_refs.specs.Follow.{followed, place_of}
use Rattle.ev_refs.specs.declared.follow.Place.{Place}
use Rattle.ev_refs.specs.declared.follow.Place.TheVariants.{Near, Mine, FarPromise, FarObject, Gone}
use Rattle.ev_pass.specs.Acts.{Act, ◌>>=◌, ◌>>◌, give, tell, send_out}
use Rattle.ev_pass.specs.Notes.{Deliver, Settled, Elsewhere}
use Rattle.ev_pass.specs.Passing.{pass, packs}
use Rattle.ev_pass.specs.declared.note.Reference.{Reference}

-- what is told where a message is put for a vat
abbrev pub posted : ℕ → ℕ → Event
posted h m = event.Posted h m

-- the arguments pass, and then the note is put, with the name of the answer, if it asks for one
unfoldable pub deliver : ℕ → Option ℕ → List ℕ → List Value → ℕ → Reference → Act (Unit {0})
deliver m a verb args h x = do
  ps ← packs (pass h) args
  tell (posted h m)
  send_out h (Deliver m a x verb ps)

unfoldable pub inform_plainly : ℕ → ℕ → Value → Act (Unit {0})
inform_plainly p w y = do
  z ← pass w y
  send_out w (Settled p z)

unfoldable pub inform_at : ℕ → ℕ → Value → Place → Act (Unit {0})
inform_at p w y (FarObject h q) = send_out w (Elsewhere p h)
inform_at p w y Near = inform_plainly p w y
inform_at p w y (Mine n) = inform_plainly p w y
inform_at p w y (FarPromise h n) = inform_plainly p w y
inform_at p w y (Gone t) = inform_plainly p w y

-- a vat is told what a name settled to
unfoldable pub inform : ℕ → ℕ → Act (Unit {0})
inform p w = λ s. (if is_in w s.refs.noticed then give tt else inform_at p w (followed s.refs (held.Prom p)) (place_of s.refs (followed s.refs (held.Prom p)))) s
