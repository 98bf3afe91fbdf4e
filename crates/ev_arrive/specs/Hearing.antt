-- What a note that a vat hears stands for in the machine, in local numbers.
use Rattle.std.specs.Prelude.{◌≡◌, ℕ, Bool, List, [], ◌∷◌, Some, None, map}
use Rattle.ev_base.specs.declared.values.Value.{Value as Held}
use Rattle.ev_heap.specs.declared.happened.Happened.TheVariants as event
use Rattle.def_machine.specs.Arrive as machine
use Rattle.def_machine.specs.Receive as receive
use Rattle.def_machine.specs.State as state
use Rattle.def_machine.specs.Values.{Words, Value, Null, Flag, Number, Letter, Text, Prim, Broken, Items, Ref, Local, Prom, key as gift_key}
use Rattle.ev_intro.specs.Gift.{find}
use Rattle.ev_intro.specs.Word.{word}
use Rattle.ev_pass.specs.Notes.{key_of}
use Rattle.ev_pass.specs.Reading.{Lines}
use Rattle.ev_refs.specs.Reading.{value_by}
use Rattle.ev_arrive.specs.Bringing.{Part, Parts, Plain, New, Gift, Many, NoMore, More, all_parts, part}
use Rattle.ev_arrive.specs.Reading.{carried_by, incoming_by, subject_by}
use Rattle.ev_arrive.specs.declared.host.Host.{Host}
use Rattle.ev_arrive.specs.Receiving.{host_by}
use Rattle.ev_arrive.specs.declared.receiving.Sight.{Sight}
use Rattle.ev_arrive.specs.declared.brought.Heard.{Heard}
use Rattle.ev_arrive.specs.declared.brought.Heard.TheVariants.{Deliver, Open, Ask, Settled, Elsewhere, Shorten}

-- a name in a note
abbrev pub Name : Type 0
Name = machine.Incoming Local Local

-- a value whose names are known
abbrev pub known_value : Value Local → Value Name
known_value Null = Null
known_value (Flag b) = Flag b
known_value (Number z) = Number z
known_value (Letter c) = Letter c
known_value (Text t) = Text t
known_value (Prim n) = Prim n
known_value (Broken p) = Broken p
known_value (Items k) = Items k
known_value (Ref n) = Ref (machine.Old n)

-- A value as it arrives from that vat, which provides the gifts in it. What its names are called elsewhere is not looked at.
unfoldable mutual
  pub part_by : List Words → ℕ → Local → Part → state.Passed Name
  part_by ts from n (Plain v) = state.Plain (known_value (value_by ts v))
  part_by ts from n (New h) = state.Plain (Ref (machine.New n h))
  part_by ts from n (Gift h w) = state.AGift h (gift_key from w)
  part_by ts from n (Many ps) = state.Many (parts_by ts from n ps)

  pub parts_by : List Words → ℕ → Local → Parts → state.Passeds Name
  parts_by ts from n NoMore = state.NoMore
  parts_by ts from n (More p ps) = state.More (part_by ts from n p) (parts_by ts from n ps)

-- A note of that vat. The machine does not look at the asker's name x, nor at the host c of what is to be shortened.
abbrev pub heard_by : List Words → Local → Name → ℕ → ℕ → Heard → state.Note Name
heard_by ts n x c from (Deliver m asks t verb args) = state.Deliver (record { message = carried_by n from m; asks = asks; answer = None }) (incoming_by n t) verb (parts_by ts from n (all_parts args.items))
heard_by ts n x c from (Open w t) = state.Open (gift_key from w) (incoming_by n t)
heard_by ts n x c from (Ask p w) = state.Ask p (gift_key p w) x
heard_by ts n x c from (Settled t y) = state.SettledTo (subject_by n t) (part_by ts from n (part y))
heard_by ts n x c from (Elsewhere t d) = state.Elsewhere (subject_by n t) d
heard_by ts n x c from (Shorten t i) = state.Shorten (incoming_by n t) c (key_of i)

-- lists that come in have these lines
abbrev pub TellsLists : List Words → Lines → Type 0
TellsLists ts line = (k : ℕ) (vs : List Held) → line (event.Arrived k vs) ≡ state.ListCame k (map (value_by ts) vs) ∷ []

-- What the code is told of a note by its vat's connections and names is what they tell: whether the name of the gift that is asked for has a number for the sender, and whether the vat knows the gift under the word of the next draw, of the name's host.
abbrev pub Sees : receive.Sight Local → Host → Heard → Sight → Type 0
Sees sight h (Ask p i) see = (g : ℕ × Bool) → find p i h.gifts ≡ Some g → see.numbered ≡ sight.numbers (Prom g.0)
Sees sight h (Elsewhere x c) see = see.known ≡ sight.knows c (host_by x h.inside.refs) (gift_key (host_by x h.inside.refs) (word h.inside.words.key h.inside.words.count))
Sees sight h (Deliver m asks t verb args) see = Unit {0}
Sees sight h (Open i t) see = Unit {0}
Sees sight h (Settled t y) see = Unit {0}
Sees sight h (Shorten t i) see = Unit {0}
