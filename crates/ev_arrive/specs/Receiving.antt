-- What a vat does with a note that comes in, in the code's terms. It arrives, but for what tells the vat nothing new, and for what would lead it back to a gift that it has.
use Rattle.std.specs.Prelude.{ℕ, Bool, true, false, Option, Some, None, ◌==◌, is_some, if◌then◌else◌}
use Rattle.ev_base.specs.declared.values.Value.TheVariants as held
use Rattle.ev_intro.specs.Gift.{find}
use Rattle.ev_intro.specs.Word.{word}
use Rattle.def_machine.specs.State.{is_in}
use Rattle.ev_pass.specs.Acts.{draw}
use Rattle.ev_refs.specs.Follow.{host_of}
use Rattle.ev_refs.specs.References.{References}
use Rattle.ev_refs.specs.declared.known.Standing.{Standing}
use Rattle.ev_refs.specs.declared.known.Standing.TheVariants.{Unsettled, WaitsOn, Viewed, Settled}
use Rattle.ev_settle.specs.Settling.{settle}
use Rattle.ev_arrive.specs.Acts.{Act, ◌>>=◌, ◌>>◌, give, learn_subject, within}
use Rattle.ev_arrive.specs.Breaking.{standing_now}
use Rattle.ev_arrive.specs.Hosting.{is_opened}
use Rattle.ev_arrive.specs.Noting.{arrive}
use Rattle.ev_arrive.specs.declared.brought.Heard.{Heard}
use Rattle.ev_arrive.specs.declared.brought.Heard.TheVariants.{Deliver, Open, Ask, Settled as SettledTo, Elsewhere, Shorten}
use Rattle.ev_arrive.specs.declared.host.Host.{Host}
use Rattle.ev_arrive.specs.declared.host.Subject.{Subject}
use Rattle.ev_arrive.specs.declared.host.Subject.TheVariants as subject
use Rattle.ev_arrive.specs.declared.receiving.Sight.{Sight}

-- it settled, or its view is another name
abbrev pub is_told : Standing → Bool
is_told (Settled v) = true
is_told (Viewed q) = true
is_told Unsettled = false
is_told (WaitsOn q) = false

unfoldable pub was_told : Subject → References → Bool
was_told (subject.Known n) r = is_told (standing_now r n)
was_told (subject.New v) r = false

-- whether a gift that is there has a number for the asker
abbrev pub has_number : Bool → Option (ℕ × Bool) → Bool
has_number numbered (Some g) = numbered
has_number numbered None = false

-- a name was told of before, a gift was opened, or the sender was told of a gift that it asks for
unfoldable pub tells_nothing : ℕ → Sight → Heard → Host → Bool
tells_nothing from see (Deliver m asks x verb args) h = false
tells_nothing from see (Open i x) h = is_opened from i h.gifts
tells_nothing from see (Ask p i) h = has_number see.numbered (find p i h.gifts)
tells_nothing from see (SettledTo x y) h = was_told x h.inside.refs
tells_nothing from see (Elsewhere x c) h = was_told x h.inside.refs
tells_nothing from see (Shorten x i) h = false

unfoldable pub host_by : Subject → References → ℕ
host_by (subject.Known n) r = host_of r n
host_by (subject.New v) r = v

-- the vat hosts or knows the gift at host c, of provider p, under the word of the next draw
unfoldable pub has_gift : Sight → ℕ → ℕ → Host → Bool
has_gift see c p h = if c == h.inside.refs.me then is_some (find p (word h.inside.words.key h.inside.words.count) h.gifts) else see.known

-- the name settled at a vat that is not noticed, and its view would be a gift that the vat has
unfoldable pub leads_back : Sight → Heard → Host → Bool
leads_back see (Elsewhere x c) h = if is_in c h.inside.refs.noticed then false else has_gift see c (host_by x h.inside.refs) h
leads_back see (Deliver m asks x verb args) h = false
leads_back see (Open i x) h = false
leads_back see (Ask p i) h = false
leads_back see (SettledTo x y) h = false
leads_back see (Shorten x i) h = false

unfoldable pub break_cycle : ℕ → Act (Unit {0})
break_cycle n = λ h. within (settle n (held.Broken h.inside.refs.cycle)) h

-- a word is drawn and the name breaks
unfoldable pub break_subject : Subject → Act (Unit {0})
break_subject x = do
  n ← learn_subject x
  within draw
  break_cycle n

unfoldable pub break_back : Heard → Act (Unit {0})
break_back (Elsewhere x c) = break_subject x
break_back (Deliver m asks x verb args) = give tt
break_back (Open i x) = give tt
break_back (Ask p i) = give tt
break_back (SettledTo x y) = give tt
break_back (Shorten x i) = give tt

unfoldable pub receive_by : Bool → Bool → ℕ → Heard → Act (Unit {0})
receive_by nothing back from note = if nothing then give tt else if back then break_back note else arrive from note

-- a note from that vat is received
unfoldable pub receive : ℕ → Sight → Heard → Act (Unit {0})
receive from see note = λ h. receive_by (tells_nothing from see note h) (leads_back see note h) from note h
