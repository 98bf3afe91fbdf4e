-- What a vat does where a name settled to an object of a third vat, and where its host is asked for that object, in the code's terms.
use Rattle.std.specs.Prelude.{◌==◌, ℕ, if◌then◌else◌}
use Rattle.ev_base.specs.declared.values.Value.{Value}
use Rattle.def_machine.specs.State.{is_in}
use Rattle.def_machine.specs.Values.{key}
use Rattle.ev_pass.specs.Acts.{draw, send_out}
use Rattle.ev_pass.specs.Notes.{Ask, Open, Shorten}
use Rattle.ev_pass.specs.declared.note.Reference.TheVariants as reference
use Rattle.ev_refs.specs.Follow.{followed, host_of, place_of}
use Rattle.ev_refs.specs.declared.follow.Place.{Place}
use Rattle.ev_refs.specs.declared.follow.Place.TheVariants.{Near, Mine, FarPromise, FarObject, Gone}
use Rattle.ev_settle.specs.Changes.{come, see}
use Rattle.ev_arrive.specs.Acts.{Act, ◌>>=◌, ◌>>◌, give, learn_name, learn_subject, value_at, within}
use Rattle.ev_arrive.specs.Breaking.{break_name}
use Rattle.ev_arrive.specs.Hosting.{have_gift}
use Rattle.ev_arrive.specs.declared.host.Incoming.{Incoming}
use Rattle.ev_arrive.specs.declared.host.Subject.{Subject}

-- a gift at another vat comes to be known, which is asked for it
unfoldable pub ask_there : ℕ → ℕ → ℕ → Act ℕ
ask_there h c w = do
  g ← within (come c)
  within (send_out c (Ask h (key h w) g))
  give g

-- the gift at host c, of provider h, which is here, at vat v, or is asked for
unfoldable pub gift_there : ℕ → ℕ → ℕ → ℕ → Act ℕ
gift_there v h c w = λ k. (if c == v then have_gift h w else ask_there h c w) k

-- the object to which a name of host h settled is asked of that host as a gift, which is the view of the name
unfoldable pub view_from : ℕ → ℕ → ℕ → ℕ → Act (Unit {0})
view_from v n h c = do
  w ← within draw
  within (send_out h (Shorten n c (key h w)))
  g ← gift_there v h c w
  within (see n g)

unfoldable pub view_there : ℕ → ℕ → Act (Unit {0})
view_there n c = λ k. view_from k.inside.refs.me n (host_of k.inside.refs n) c k

unfoldable pub settled_at : ℕ → ℕ → Act (Unit {0})
settled_at n c = λ k. (if is_in c k.inside.refs.noticed then break_name n else view_there n c) k

-- a name settled to an object of vat c
unfoldable pub arrive_elsewhere : Subject → ℕ → Act (Unit {0})
arrive_elsewhere x c = do
  n ← learn_subject x
  settled_at n c

unfoldable pub shorten_to : ℕ → Place → Act (Unit {0})
shorten_to i (FarObject h p) = within (send_out h (Open i (reference.Far h p)))
shorten_to i Near = give tt
shorten_to i (Mine n) = give tt
shorten_to i (FarPromise h n) = give tt
shorten_to i (Gone t) = give tt

unfoldable pub shorten_value : ℕ → Value → Act (Unit {0})
shorten_value i v = λ k. shorten_to i (place_of k.inside.refs (followed k.inside.refs v)) k

-- the object to which a name settled is opened as that gift, if it is an object of another vat
unfoldable pub arrive_shorten : Incoming → ℕ → Act (Unit {0})
arrive_shorten x i = do
  r ← learn_name x
  shorten_value i (value_at r)
