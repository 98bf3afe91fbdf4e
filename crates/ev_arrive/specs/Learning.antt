-- What a vat does with the values in a note, in the code's terms.
use Rattle.std.specs.Prelude.{ℕ, zero, suc, Bool, true, false, nat_lt, if◌then◌else◌, List, [], ◌∷◌, ◌++◌, Ok, length}
use Rattle.ev_base.specs.declared.values.Value.{Value}
use Rattle.ev_base.specs.declared.values.Value.TheVariants as held
use Rattle.ev_heap.specs.Contents.{Contents, is_light, listed}
use Rattle.ev_heap.specs.declared.happened.Happened.TheVariants as event
use Rattle.ev_pass.specs.Acts as inner
use Rattle.ev_pass.specs.declared.interior.Stop.TheVariants.{Missing}
use Rattle.ev_settle.specs.Changes.{come}
use Rattle.ev_settle.specs.Settling.{settle}
use Rattle.ev_arrive.specs.Acts.{Act, ◌>>=◌, give, learn_name, learn_subject, value_at, within}
use Rattle.ev_arrive.specs.Bringing.{Part, Parts, Plain, New, Gift, Many, NoMore, More}
use Rattle.ev_arrive.specs.Delivering.{deliver, learn_gift, learn_message}
use Rattle.ev_arrive.specs.declared.host.Carried.{Carried}
use Rattle.ev_arrive.specs.declared.host.Incoming.{Incoming}
use Rattle.ev_arrive.specs.declared.host.Subject.{Subject}

-- whether a heap has the text or the list that a value is
abbrev pub is_kept : Contents → Value → Bool
is_kept h (held.Text id) = nat_lt id (length h.texts)
is_kept h (held.Broken id) = nat_lt id (length h.texts)
is_kept h (held.List id) = nat_lt id (length h.lists)
is_kept h _ = true

abbrev pub are_kept : Contents → List Value → Bool
are_kept h [] = true
are_kept h (v ∷ vs) = if is_kept h v then are_kept h vs else false

unfoldable pub keep_list : List Value → inner.Act ℕ
keep_list vs = λ s. (Ok (length s.heap.lists), record s { heap = record s.heap { lists = s.heap.lists ++ listed s.heap vs ∷ [] } })

unfoldable pub list_if : List Value → Bool → Bool → inner.Act ℕ
list_if vs true true = keep_list vs
list_if vs true false = inner.fail Missing
list_if vs false light = inner.fail Missing

-- a list of these members, which the heap has and which is within the limits
unfoldable pub new_list : List Value → inner.Act ℕ
new_list vs = λ s. list_if vs (are_kept s.heap vs) (is_light s.heap vs) s

unfoldable pub list_told : List Value → ℕ → inner.Act Value
list_told vs k = inner.◌>>◌ (inner.tell (event.Arrived k vs)) (inner.give (held.List k))

-- a list that comes in, which is told
unfoldable pub make_list : List Value → inner.Act Value
make_list vs = inner.◌>>=◌ (new_list vs) (list_told vs)

-- a name that comes to be known
unfoldable pub learn_new : ℕ → Act Value
learn_new h = do
  n ← within (come h)
  give (held.Prom n)

unfoldable pub learn_given : ℕ → ℕ → ℕ → Act Value
learn_given from h i = do
  n ← learn_gift from h i
  give (held.Prom n)

-- values, from left to right
unfoldable pub learn_each : (Part → Act Value) → Parts → Act (List Value)
learn_each f NoMore = give []
learn_each f (More p ps) = do
  v ← f p
  vs ← learn_each f ps
  give (v ∷ vs)

unfoldable pub learn_part : (Parts → Act Value) → ℕ → Part → Act Value
learn_part inside from (Plain v) = give v
learn_part inside from (New h) = learn_new h
learn_part inside from (Gift h i) = learn_given from h i
learn_part inside from (Many ps) = inside ps

-- a list, in which at most so many lists stand in each other
unfoldable pub learn_list : ℕ → ℕ → Parts → Act Value
learn_list zero from ps = within (inner.fail Missing)
learn_list (suc d) from ps = learn_each (λ p. learn_part (λ qs. learn_list d from qs) from p) ps >>= (λ vs. within (make_list vs))

-- a value of a note from that vat, with at most so many lists in each other
unfoldable pub learn : ℕ → ℕ → Part → Act Value
learn d from p = learn_part (λ ps. learn_list d from ps) from p

-- a message of that vat arrives
unfoldable pub arrive_deliver : ℕ → Carried → Bool → Incoming → List ℕ → Parts → Act (Unit {0})
arrive_deliver from c asks x verb ps = do
  id ← learn_message c
  args ← learn_each (learn 100 from) ps
  r ← learn_name x
  deliver from id asks (value_at r) verb args

-- a name settled to that
unfoldable pub arrive_settled : ℕ → Subject → Part → Act (Unit {0})
arrive_settled from x p = do
  n ← learn_subject x
  v ← learn 100 from p
  within (settle n v)
