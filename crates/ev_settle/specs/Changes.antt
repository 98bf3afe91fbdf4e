-- Single changes of what a vat knows of names, in the code's terms.
use Rattle.std.specs.Prelude.{ℕ, [], ◌∷◌, ◌++◌, Some, None, Ok, length, slice_get, slice_set}
use Rattle.std.specs.declared.option.Option.{Option}
use Rattle.ev_heap.specs.declared.happened.Happened.TheVariants as event
use Rattle.ev_pass.specs.Acts.{Act, ◌>>◌, tell}
use Rattle.ev_refs.specs.Changes.{with_held, with_waiting, waiting_on, seen_as}
use Rattle.ev_refs.specs.Mailing.{with_mail}
use Rattle.ev_refs.specs.References.{References, unsettled_of}
use Rattle.ev_refs.specs.declared.known.Known.{Known}
use Rattle.ev_refs.specs.declared.known.Message.{Message}

unfoldable pub enqueue : Message → Act (Unit {0})
enqueue m = λ s. (Ok tt, record s { refs = record s.refs { queue = s.refs.queue ++ m ∷ [] } })

unfoldable pub held_in : ℕ → Message → Option Known → References → References
held_in n m None r = r
held_in n m (Some k) r = record r { known = slice_set r.known n (with_held m k) }

-- a message waits at a name, if that is known
unfoldable pub hold : ℕ → Message → Act (Unit {0})
hold n m = λ s. (Ok tt, record s { refs = held_in n m (slice_get s.refs.known n) s.refs })

-- a name of that host comes to be known, as the last
unfoldable pub come : ℕ → Act ℕ
come h = λ s. (Ok (length s.refs.known), record s { refs = record s.refs { known = s.refs.known ++ unsettled_of h ∷ [] } })

unfoldable pub waiting_in : ℕ → ℕ → Option Known → References → References
waiting_in p q None r = r
waiting_in p q (Some k) r = record r { known = slice_set r.known p (waiting_on q k) }

unfoldable pub begin_wait : ℕ → ℕ → Act (Unit {0})
begin_wait p q = λ s. (Ok tt, record s { refs = waiting_in p q (slice_get s.refs.known p) s.refs })

unfoldable pub awaited_in : ℕ → ℕ → Option Known → References → References
awaited_in p q None r = r
awaited_in p q (Some k) r = record r { known = slice_set r.known q (with_waiting p k) }

unfoldable pub note_wait : ℕ → ℕ → Act (Unit {0})
note_wait p q = λ s. (Ok tt, record s { refs = awaited_in p q (slice_get s.refs.known q) s.refs })

-- p waits on q
unfoldable pub wait_on : ℕ → ℕ → Act (Unit {0})
wait_on p q = do
  tell (event.Wait p q)
  begin_wait p q
  note_wait p q

unfoldable pub viewing_in : ℕ → ℕ → Option Known → References → References
viewing_in n g None r = r
viewing_in n g (Some k) r = record r { known = slice_set r.known n (seen_as g k) }

unfoldable pub begin_view : ℕ → ℕ → Act (Unit {0})
begin_view n g = λ s. (Ok tt, record s { refs = viewing_in n g (slice_get s.refs.known n) s.refs })

-- the view of n is the gift g, on which it waits
unfoldable pub see : ℕ → ℕ → Act (Unit {0})
see n g = do
  tell (event.View n g)
  begin_view n g
  note_wait n g

-- a message of another vat comes to be here, as the last
unfoldable pub mail : Act ℕ
mail = λ s. (Ok s.refs.mails, record s { refs = with_mail s.refs })
