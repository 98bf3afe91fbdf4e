-- What a vat does with a message that arrives, and with a gift in what it hears, in the code's terms.
use Rattle.std.specs.Prelude.{ℕ, List, Bool, if◌then◌else◌, Some, None}
use Rattle.ev_base.specs.declared.values.Value.{Value}
use Rattle.def_machine.specs.State.{is_in}
use Rattle.def_machine.specs.Values.{key}
use Rattle.ev_pass.specs.Acts.{send_out, to_tell}
use Rattle.ev_pass.specs.Notes.{Ask}
use Rattle.ev_settle.specs.Changes.{come, mail}
use Rattle.ev_settle.specs.Settling.{forward}
use Rattle.ev_arrive.specs.Acts.{Act, ◌>>=◌, ◌>>◌, give, within}
use Rattle.ev_arrive.specs.Breaking.{break_name}
use Rattle.ev_arrive.specs.declared.host.Carried.{Carried}
use Rattle.ev_arrive.specs.declared.host.Carried.TheVariants.{Back, New}

-- a message is here again, or comes to be here
unfoldable pub learn_message : Carried → Act ℕ
learn_message (Back m) = give m
learn_message New = within mail

-- the answer comes to be, of which the sender is to be told, and the message is sent on here
unfoldable pub send_on_asked : ℕ → ℕ → Value → List ℕ → List Value → Act (Unit {0})
send_on_asked from id x verb args = λ h. (do
  a ← within (come h.inside.refs.me)
  within (to_tell from a)
  within (forward (record { id = id; target = x; verb = verb; args = args; answer = Some a }))) h

-- a message with these arguments is here
unfoldable pub deliver : ℕ → ℕ → Bool → Value → List ℕ → List Value → Act (Unit {0})
deliver from id asks x verb args =
    if asks then send_on_asked from id x verb args else within (forward (record { id = id; target = x; verb = verb; args = args; answer = None }))

-- a gift is asked for, or is broken where its host is noticed
unfoldable pub ask_for : ℕ → ℕ → ℕ → ℕ → Act (Unit {0})
ask_for p h i n = λ k. (if is_in h k.inside.refs.noticed then break_name n else within (send_out h (Ask p (key p i) n))) k

-- a gift of that provider comes to be known
unfoldable pub learn_gift : ℕ → ℕ → ℕ → Act ℕ
learn_gift p h i = do
  n ← within (come h)
  ask_for p h i n
  give n
