-- Sending, in the code's terms.
use Rattle.std.specs.Prelude.{ℕ, List, Some, None, Ok, length}
use Rattle.ev_base.specs.declared.values.Value.{Value}
use Rattle.ev_base.specs.declared.values.Value.TheVariants as held
use Rattle.ev_heap.specs.declared.happened.Happened.TheVariants as event
use Rattle.def_machine.specs.Values.{Words}
use Rattle.ev_pass.specs.Acts.{Act, ◌>>=◌, ◌>>◌, give, tell}
use Rattle.ev_pass.specs.Delivering.{deliver}
use Rattle.ev_pass.specs.declared.note.Reference.TheVariants as reference
use Rattle.ev_refs.specs.Follow.{followed, place_of}
use Rattle.ev_refs.specs.Mailing.{with_message, with_lone_message}
use Rattle.ev_refs.specs.declared.follow.Place.{Place}
use Rattle.ev_refs.specs.declared.follow.Place.TheVariants.{Near, Mine, FarPromise, FarObject, Gone}
use Rattle.ev_refs.specs.declared.known.Message.{Message}
use Rattle.ev_refs.specs.declared.mails.Fresh.{Fresh}
use Rattle.std.specs.declared.option.Option.{Option}
use Rattle.ev_settle.specs.Changes.{enqueue, hold}
use Rattle.ev_settle.specs.Settling.{settle}

-- a message of the vat's own, with its answer at that host
unfoldable pub new_message : ℕ → Act Fresh
new_message h = λ s. (Ok (record { id = s.refs.mails; answer = length s.refs.known }), record s { refs = with_message h s.refs })

-- one that asks for no answer
unfoldable pub new_lone_message : Act ℕ
new_lone_message = λ s. (Ok s.refs.mails, record s { refs = with_lone_message s.refs })

-- the host of the answer of a message on a target at this place
abbrev pub answer_host : ℕ → Place → ℕ
answer_host me (FarPromise h n) = h
answer_host me (FarObject h p) = h
answer_host me Near = me
answer_host me (Mine n) = me
answer_host me (Gone t) = me

-- the answer of a message that is lost is broken
unfoldable pub break_answer : Option ℕ → ℕ → Act (Unit {0})
break_answer None t = give tt
break_answer (Some a) t = settle a (held.Broken t)

-- a new message finds its place
unfoldable pub send_first : Message → Place → Act (Unit {0})
send_first m Near = enqueue m
send_first m (Mine n) = hold n m
send_first m (FarPromise h n) = deliver m.id m.answer m.verb m.args h (reference.Promise n)
send_first m (FarObject h p) = deliver m.id m.answer m.verb m.args h (reference.Far h p)
send_first m (Gone t) = tell (event.LostBroken m.id) >> break_answer m.answer t

-- a message of this vat on a followed target at this place, which was held as x; it gives the name of its answer
unfoldable pub send_new : ℕ → Value → Words → List Value → Value → Place → ℕ → Act ℕ
send_new act x verb args y p h = do
  f ← new_message h
  tell (event.Send act f.id x verb args (Some f.answer))
  send_first (record { id = f.id; target = y; verb = verb; args = args; answer = Some f.answer }) p
  give f.answer

unfoldable pub send : ℕ → Value → Words → List Value → Act ℕ
send act x verb args = λ s. send_new act x verb args (followed s.refs x) (place_of s.refs (followed s.refs x)) (answer_host s.refs.me (place_of s.refs (followed s.refs x))) s

-- the same without an answer
unfoldable pub send_lone : ℕ → Value → Words → List Value → Value → Place → Act (Unit {0})
send_lone act x verb args y p = do
  id ← new_lone_message
  tell (event.Send act id x verb args None)
  send_first (record { id = id; target = y; verb = verb; args = args; answer = None }) p

unfoldable pub send_only : ℕ → Value → Words → List Value → Act (Unit {0})
send_only act x verb args = λ s. send_lone act x verb args (followed s.refs x) (place_of s.refs (followed s.refs x)) s
