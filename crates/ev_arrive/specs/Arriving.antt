-- What a vat does where a gift is opened or asked for, in the code's terms.
use Rattle.std.specs.Prelude.{ℕ, Bool, true, false, if◌then◌else◌}
use Rattle.def_machine.specs.State.{is_in}
use Rattle.ev_pass.specs.Acts.{to_tell}
use Rattle.ev_pass.specs.Delivering.{inform}
use Rattle.ev_refs.specs.declared.known.Standing.{Standing}
use Rattle.ev_refs.specs.declared.known.Standing.TheVariants.{Unsettled, WaitsOn, Viewed, Settled}
use Rattle.ev_settle.specs.Resolving.{resolve}
use Rattle.ev_arrive.specs.Acts.{Act, ◌>>=◌, ◌>>◌, give, learn_name, value_at, within}
use Rattle.ev_arrive.specs.Breaking.{break_at, standing_now}
use Rattle.ev_arrive.specs.Hosting.{have_gift, is_opened, open_gift}
use Rattle.ev_arrive.specs.declared.host.Incoming.{Incoming}

-- the gift of the sender resolves to that
unfoldable pub arrive_open : ℕ → ℕ → Incoming → Act (Unit {0})
arrive_open from i x = do
  y ← learn_name x
  n ← have_gift from i
  open_gift from i
  within (resolve n (value_at y))

unfoldable pub break_unless_opened : ℕ → Bool → Act (Unit {0})
break_unless_opened n true = give tt
break_unless_opened n false = break_at n

-- where the provider is noticed, a gift that was not opened breaks
unfoldable pub break_orphan : ℕ → ℕ → ℕ → Act (Unit {0})
break_orphan p i n = λ h. (if is_in p h.inside.refs.noticed then break_unless_opened n (is_opened p i h.gifts) else give tt) h

unfoldable pub tell_by : ℕ → ℕ → Standing → Act (Unit {0})
tell_by n w (Settled v) = within (inform n w)
tell_by n w Unsettled = within (to_tell w n)
tell_by n w (WaitsOn q) = within (to_tell w n)
tell_by n w (Viewed q) = within (to_tell w n)

unfoldable pub tell_asker : ℕ → ℕ → Act (Unit {0})
tell_asker n w = λ h. tell_by n w (standing_now h.inside.refs n) h

-- the asker is to be told of the gift, at once if it settled
unfoldable pub arrive_ask : ℕ → ℕ → ℕ → Act (Unit {0})
arrive_ask w p i = do
  n ← have_gift p i
  break_orphan p i n
  tell_asker n w
