-- What a vat does with a note that comes in, whoever sent it. It arrives, but for what tells the vat nothing new, and for what would lead it back to a gift that it has.
use Rattle.std.specs.Prelude.{ℕ, Bool, true, false, not, Option, Some, None, ◌==◌, ◌&&◌, if◌then◌else◌, codes, length}
use Rattle.def_machine.specs.Values.{Broken, Naming, key}
use Rattle.def_machine.specs.State.{Standing, Unsettled, WaitsOn, Viewed, Settled, Note, Deliver, Open, Ask, SettledTo, Elsewhere, Shorten, GiftEntry, Vat, Act, ◌>>=◌, ◌>>◌, give, look, draw, is_in}
use Rattle.def_machine.specs.Refs.{standing_of, host_at, settle}
use Rattle.def_machine.specs.Arrive.{Incoming, Old, New, gift_at, opened_in, learn_name, arrive}
use Rattle.def_machine.specs.Arrive.{opened_arrive}

-- What the names of the receiver tell: whether it knows the gift of that host, provider and key as a gift, and whether a name of its own has a number for the sender.
pub record Sight (N : Type 0) : Type 0 where
  pub knows : ℕ → ℕ → ℕ → Bool
  pub numbers : N → Bool

unfoldable pub is_told : {N : Type 0} → Standing N → Bool
is_told (Settled y) = true
is_told (Viewed q) = true
is_told Unsettled = false
is_told (WaitsOn q) = false

unfoldable pub is_hosted : {N : Type 0} → Option (GiftEntry N) → Bool
is_hosted (Some g) = true
is_hosted None = false

module _ {N W : Type 0} (K : Naming N W) where
  -- it settled, or its view is another name
  unfoldable pub was_told : Incoming N W → Vat N → Bool
  was_told (Old n) s = is_told (standing_of K s.known n)
  was_told (New x h) s = false

  unfoldable pub host_by : Incoming N W → Vat N → ℕ
  host_by (Old n) s = host_at K s.number s.known n
  host_by (New x h) s = h

  -- the key of the next word under that provider
  unfoldable pub next_key : ℕ → Vat N → ℕ
  next_key p s = key p (K.word (length s.drawn))

  -- the draw is made and the name breaks, and nothing else happens
  unfoldable pub break_back : Note (Incoming N W) → Act N (Unit {0})
  break_back (Elsewhere x c) = do
    n ← learn_name K x
    draw K
    settle K n (Broken (codes "cycle"))
  break_back _ = give tt

  unfoldable pub receive_by : Bool → Bool → ℕ → Note (Incoming N W) → Act N (Unit {0})
  receive_by nothing back from n = if nothing then give tt else if back then break_back n else arrive K from n

  module _ (sight : Sight N) where
    unfoldable pub has_number : Option (GiftEntry N) → Bool
    has_number (Some g) = sight.numbers g.name
    has_number None = false

    -- A name was told of before, a gift was opened, or the sender was told of a gift that it asks for: a vat tells of a name once.
    unfoldable pub tells_nothing : ℕ → Note (Incoming N W) → Vat N → Bool
    tells_nothing from (Deliver d x verb ys) s = false
    tells_nothing from (Open i x) s = opened_in (gift_at from i s.gifts)
    tells_nothing from (Ask p i x) s = has_number (gift_at p i s.gifts)
    tells_nothing from (SettledTo x y) s = was_told x s
    tells_nothing from (Elsewhere x c) s = was_told x s
    tells_nothing from (Shorten x c i) s = false

    -- the vat hosts or knows the gift at host c, of provider h, under the next word
    unfoldable pub has_gift : ℕ → ℕ → Vat N → Bool
    has_gift c h s = if c == s.number then is_hosted (gift_at h (next_key h s) s.gifts) else sight.knows c h (next_key h s)

    -- The name settled at a vat that is not noticed, and its view would be a gift that the vat has.
    unfoldable pub leads_back : Note (Incoming N W) → Vat N → Bool
    leads_back (Elsewhere x c) s = not (is_in c s.noticed) && has_gift c (host_by x s) s
    leads_back _ s = false

    -- a note from that peer is received
    unfoldable pub receive : ℕ → Note (Incoming N W) → Act N (Unit {0})
    receive from n = do
      nothing ← look (tells_nothing from n)
      back ← look (leads_back n)
      receive_by nothing back from n

-- opens each definition of this file, and of those below
unfoldable pub opened_receive : Unit {0}
unfolding is_told was_told has_number tells_nothing host_by next_key is_hosted has_gift leads_back break_back receive_by receive opened_arrive
opened_receive = tt
