-- Passing, in the code's terms.
use Rattle.std.specs.Prelude.{ℕ, zero, suc, ◌==◌, if◌then◌else◌, List, [], ◌∷◌, Result, Ok, Err}
use Rattle.ev_base.specs.declared.values.Value.{Value}
use Rattle.ev_base.specs.declared.values.Value.TheVariants as held
use Rattle.def_machine.specs.Values.{key}
use Rattle.ev_refs.specs.Follow.{followed, place_of}
use Rattle.ev_refs.specs.Leading.{lists_in, members_at}
use Rattle.ev_refs.specs.declared.follow.Place.{Place}
use Rattle.ev_refs.specs.declared.follow.Place.TheVariants.{Near, Mine, FarPromise, FarObject, Gone}
use Rattle.ev_pass.specs.Acts.{Act, ◌>>=◌, ◌>>◌, give, fail, spend, draw, send_out, to_tell}
use Rattle.ev_pass.specs.Measuring.{weighed}
use Rattle.ev_pass.specs.Notes.{Parcel, Parcels, Plain, Gift, Many, NoMore, More, Open}
use Rattle.ev_pass.specs.declared.interior.Stop.{Stop}
use Rattle.ev_pass.specs.declared.measure.Weighed.{Weighed}
use Rattle.ev_pass.specs.declared.note.Reference.{Reference}
use Rattle.ev_pass.specs.declared.note.Reference.TheVariants as reference

-- a gift at that host, of which the host is told; this vat provides it
unfoldable pub provide : ℕ → Reference → Act Parcel
provide h x = λ s. (do
  w ← draw
  send_out h (Open (key s.refs.me w) x)
  give (Gift h (key s.refs.me w))) s

-- a name of that host passes as itself to the host, and else as a gift
unfoldable pub introduce : ℕ → Value → ℕ → Reference → Act Parcel
introduce w y h x = if h == w then give (Plain y) else provide h x

-- a followed value at this place
unfoldable pub address_plain : ℕ → Value → Place → Act Parcel
address_plain w y (FarPromise h n) = introduce w y h (reference.Promise n)
address_plain w y (FarObject h p) = introduce w y h (reference.Far h p)
address_plain w y (Mine n) = to_tell w n >> give (Plain y)
address_plain w y Near = give (Plain y)
address_plain w y (Gone t) = give (Plain y)

-- values, from left to right
unfoldable pub packs : (Value → Act Parcel) → List Value → Act Parcels
packs f [] = give NoMore
packs f (v ∷ vs) = do
  p ← f v
  ps ← packs f vs
  give (More p ps)

unfoldable pub pack_at : (ℕ → Act Parcel) → ℕ → Value → Act Parcel
pack_at inside w (held.List k) = inside k
pack_at inside w y = λ s. address_plain w y (place_of s.refs y) s

unfoldable pub wrap : Parcels → Act Parcel
wrap ps = give (Many ps)

-- a list, in which at most so many lists stand in each other
unfoldable pub pack_list : ℕ → ℕ → ℕ → Act Parcel
pack_list zero w k = λ s. give (Plain (held.Broken s.too_heavy)) s
pack_list (suc d) w k = λ s. (packs (λ v t. pack_at (λ j. pack_list d w j) w (followed t.refs v) t) (members_at (lists_in s.heap) k) >>= wrap) s

-- a value, with at most so many lists in each other
unfoldable pub pack : ℕ → ℕ → Value → Act Parcel
pack d w v = λ s. pack_at (λ k. pack_list d w k) w (followed s.refs v) s

-- a followed value
unfoldable pub pack_end : ℕ → ℕ → Value → Act Parcel
pack_end d w y = pack_at (λ k. pack_list d w k) w y

-- its whole weight is spent, and then it passes
unfoldable pub pass_weighed : ℕ → Weighed → Act Parcel
pass_weighed w x = spend x.weight >> pack_end 100 w x.value

unfoldable pub pass_by : ℕ → Result Weighed Stop → Act Parcel
pass_by w (Ok x) = pass_weighed w x
pass_by w (Err e) = fail e

-- one passing
unfoldable pub pass : ℕ → Value → Act Parcel
pass w v = λ s. pass_by w (weighed s v) s

-- opens what is told of passing, and not its recursion
unfoldable pub opened_passing : Unit {0}
unfolding provide introduce address_plain pack_at wrap pack_end pass_weighed pass_by pass
opened_passing = tt
