-- How much room values take, and what passes for a value, in the code's terms.
use Rattle.std.specs.Prelude.{ℕ, zero, suc, ◌+◌, ◌-◌, nat_le, if◌then◌else◌, List, [], ◌∷◌, Some, None, Result, Ok, Err, length, option_map, slice_get}
use Rattle.std.specs.declared.option.Option.{Option}
use Rattle.ev_base.specs.declared.values.Value.{Value}
use Rattle.ev_base.specs.declared.values.Value.TheVariants as held
use Rattle.ev_heap.specs.Contents.{Contents}
use Rattle.ev_refs.specs.Follow.{followed}
use Rattle.ev_refs.specs.Leading.{lists_in, members_at}
use Rattle.ev_refs.specs.References.{References}
use Rattle.ev_pass.specs.declared.interior.Interior.{Interior}
use Rattle.ev_pass.specs.declared.interior.Stop.{Stop}
use Rattle.ev_pass.specs.declared.interior.Stop.TheVariants as stop
use Rattle.ev_pass.specs.declared.measure.Misfit.{Misfit}
use Rattle.ev_pass.specs.declared.measure.Misfit.TheVariants.{TooHeavy, Missing}
use Rattle.ev_pass.specs.declared.measure.Weighed.{Weighed}

-- the weight of what is no list, where the heap has its text
abbrev pub own_weight : Contents → Value → Option ℕ
own_weight h (held.Text id) = option_map (λ t. length {A = ℕ} t + 1) (slice_get h.texts id)
own_weight h (held.Broken id) = option_map (λ t. length {A = ℕ} t + 1) (slice_get h.texts id)
own_weight h _ = Some 1

-- the room that is left behind so much
unfoldable pub take_room : Option ℕ → ℕ → Result ℕ Misfit
take_room None room = Err Missing
take_room (Some n) room = if nat_le n room then Ok (room - n) else Err TooHeavy

unfoldable pub on_room : (ℕ → Result ℕ Misfit) → Result ℕ Misfit → Result ℕ Misfit
on_room f (Ok left) = f left
on_room f (Err e) = Err e

-- the room that is left behind all of these
unfoldable pub rooms : (Value → ℕ → Result ℕ Misfit) → List Value → ℕ → Result ℕ Misfit
rooms f [] room = Ok room
rooms f (v ∷ vs) room = on_room (rooms f vs) (f v room)

-- the room that is left behind a followed value, where the members of a list leave that
unfoldable pub room_at : (ℕ → ℕ → Result ℕ Misfit) → Contents → Value → ℕ → Result ℕ Misfit
room_at inside h (held.List k) room = inside k room
room_at inside h v room = take_room (own_weight h v) room

-- the same of a list, where its members leave that
unfoldable pub listed_room : (List Value → ℕ → Result ℕ Misfit) → Contents → ℕ → ℕ → Result ℕ Misfit
listed_room members h k room = on_room (members (members_at (lists_in h) k)) (take_room (Some 1) room)

-- the room that is left behind a list, each part of it followed, in which at most so many lists stand in each other
unfoldable pub room_in : ℕ → References → Contents → ℕ → ℕ → Result ℕ Misfit
room_in zero r h k room = Err TooHeavy
room_in (suc d) r h k room = listed_room (rooms (λ v left. room_at (λ j less. room_in d r h j less) h (followed r v) left)) h k room

-- the same of a value
unfoldable pub room_after : ℕ → References → Contents → Value → ℕ → Result ℕ Misfit
room_after d r h v room = room_at (λ k left. room_in d r h k left) h (followed r v) room

-- a list, by the room that it leaves
unfoldable pub weighed_list : Interior → ℕ → Result ℕ Misfit → Result Weighed Stop
weighed_list s k (Ok left) = Ok (record { weight = 65536 - left; value = held.List k })
weighed_list s k (Err TooHeavy) = Ok (record { weight = 10; value = held.Broken s.too_heavy })
weighed_list s k (Err Missing) = Err stop.Missing

unfoldable pub weighed_data : Value → Option ℕ → Result Weighed Stop
weighed_data v (Some n) = Ok (record { weight = n; value = v })
weighed_data v None = Err stop.Missing

-- what passes for a followed value, and its weight
unfoldable pub weighed_end : Interior → Value → Result Weighed Stop
weighed_end s (held.List k) = weighed_list s k (room_after 100 s.refs s.heap (held.List k) 65536)
weighed_end s v = weighed_data v (own_weight s.heap v)

unfoldable pub weighed : Interior → Value → Result Weighed Stop
weighed s v = weighed_end s (followed s.refs v)

-- opens what is told of room
unfoldable pub opened_measuring : Unit {0}
unfolding take_room on_room rooms room_at listed_room room_after room_in
opened_measuring = tt
