-- What the numbers of a vat are called in the lines of a history, by what its steps tell.
use Rattle.std.specs.Prelude.{ℕ, zero, suc, ◌+◌, ◌-◌, if◌then◌else◌, List, [], ◌∷◌, ◌++◌, Option, Some, None, drop, length, map, option_map, replicate, slice_get, unwrap_or, ◌==◌}
use Rattle.ev_base.specs.declared.names.Msg.{Msg}
use Rattle.ev_base.specs.declared.names.Name.{Name}
use Rattle.ev_base.specs.declared.names.Name.TheVariants as name
use Rattle.ev_heap.specs.declared.happened.Happened.{Happened}
use Rattle.ev_heap.specs.declared.happened.Happened.TheVariants as event
use Rattle.ev_heap.specs.Told.{rare_at}
use Rattle.ev_heap.specs.declared.lines.Line.{Line}
use Rattle.ev_heap.specs.declared.lines.Line.TheVariants as line
use Rattle.ev_intro.specs.Gift.{Gift, Gifts}
use Rattle.ev_intro.specs.Word.{Drawn, place}
use Rattle.ev_pass.specs.Notes.{Noted, Deliver, Open, Ask, Settled, Elsewhere, Shorten, Sent}
use Rattle.ev_pass.specs.declared.interior.Interior.{Interior}
use Rattle.ev_refs.specs.References.{References}
use Rattle.ev_refs.specs.declared.known.Known.{Known}
use Rattle.def_machine.specs.Values.{word_of}
use Rattle.ev_step_lines.specs.Lines.{Naming, no_names}

-- ---- numbers that a step tells of

pub record Entry : Type 0 where
  pub number : ℕ
  pub name : Name

unfoldable pub told_at : ℕ → List Entry → Option Name
told_at k [] = None
told_at k (e ∷ es) = if k == e.number then Some e.name else told_at k es

unfoldable pub unless_told : Option Name → Entry → List Entry → List Entry
unless_told None e es = es ++ e ∷ []
unless_told (Some x) e es = es

-- the first that is told of a number counts
unfoldable pub with_told : Entry → List Entry → List Entry
with_told e es = unless_told (told_at e.number es) e es

-- ---- what a step tells

-- what each of these tells, one after the other
unfoldable pub each_tells : {A : Type 0} → (A → List Entry → List Entry) → List A → List Entry → List Entry
each_tells f [] es = es
each_tells f (x ∷ xs) es = each_tells f xs (f x es)

unfoldable pub some_tells : {A : Type 0} → (A → List Entry → List Entry) → Option A → List Entry → List Entry
some_tells f None es = es
some_tells f (Some x) es = f x es

-- the answer at that host; a message that is not there has vat 0's root for its answer, which stands for no name
abbrev pub answer_name : ℕ → Option Msg → Name
answer_name h (Some m) = name.Answer h m
answer_name h None = name.Root zero

-- the host of a name, and vat 0 where there is none of that number
abbrev pub host_in : References → ℕ → ℕ
host_in r k = unwrap_or (option_map (λ (e : Known). e.host) (slice_get r.known k)) zero

-- a message of the vat asks for an answer as that number
unfoldable pub asked_tells : References → List Msg → ℕ → Option ℕ → List Entry → List Entry
asked_tells r ms m None es = es
asked_tells r ms m (Some a) es = with_told (record { number = a; name = answer_name (host_in r a) (slice_get ms m) }) es

unfoldable pub event_tells : References → List Msg → Happened → List Entry → List Entry
event_tells r ms (event.Send act m x verb args answer) es = asked_tells r ms m answer es
event_tells r ms (event.When act m x o near answer) es = asked_tells r ms m (Some answer) es
event_tells r ms _ es = es

abbrev pub events_tell : References → List Msg → List Happened → List Entry → List Entry
events_tell r ms hs es = each_tells (event_tells r ms) hs es

-- what a small line tells, whatever its values
unfoldable pub line_tells : References → List Msg → List Happened → Line → List Entry → List Entry
line_tells r ms hs (line.Rare i) es = event_tells r ms (rare_at hs i) es
line_tells r ms hs _ es = es

-- the name of a gift at a host under a word, by the place of the word among the draws
abbrev pub gift_at : Drawn → ℕ → ℕ → Name
gift_at d h w = name.Gift h (place w d)

unfoldable pub answer_tells : List Msg → ℕ → ℕ → Option ℕ → List Entry → List Entry
answer_tells ms to m None es = es
answer_tells ms to m (Some a) es = with_told (record { number = a; name = answer_name to (slice_get ms m) }) es

unfoldable pub note_tells : Drawn → List Msg → ℕ → Noted → List Entry → List Entry
note_tells d ms to (Deliver m answer x verb ps) es = answer_tells ms to m answer es
note_tells d ms to (Ask p i n) es = with_told (record { number = n; name = gift_at d to (word_of i) }) es
note_tells d ms to (Open i x) es = es
note_tells d ms to (Settled n p) es = es
note_tells d ms to (Elsewhere n c) es = es
note_tells d ms to (Shorten n c i) es = es

abbrev pub put_tells : Drawn → List Msg → Sent → List Entry → List Entry
put_tells d ms p es = note_tells d ms p.to p.note es

abbrev pub puts_tell : Drawn → List Msg → List Sent → List Entry → List Entry
puts_tell d ms ps es = each_tells (put_tells d ms) ps es

-- a gift that vat u hosts
abbrev pub gift_tells : Drawn → ℕ → Gift → List Entry → List Entry
gift_tells d u g es = with_told (record { number = g.promise; name = gift_at d u g.swiss }) es

abbrev pub gifts_tell : Drawn → ℕ → Gifts → List Entry → List Entry
gifts_tell d u gs es = each_tells (gift_tells d u) gs es

-- what a step of vat u tells that left its inside so, with these gifts new
abbrev pub step_tells : Drawn → ℕ → List Msg → Interior → Gifts → List Entry → List Entry
step_tells d u ms i gs es = gifts_tell d u gs (puts_tell d ms i.post (events_tell i.refs ms i.micro.events es))

-- ---- the names of a vat

-- the names, and how many promises, messages of its own and gifts the vat had as its last step left it
pub record Named : Type 0 where
  pub naming : Naming
  pub promises : ℕ
  pub messages : ℕ
  pub gifts : ℕ

-- a vat at its start knows its root and those of these vats
abbrev pub names_first : ℕ → List ℕ → ℕ → Named
names_first v knows vats = record {
  naming = record (no_names v) { names = name.Root v ∷ map name.Root knows; objects = replicate vats [] };
  promises = zero;
  messages = zero;
  gifts = zero;
}

abbrev pub carried_mails : Option Msg → List Msg
carried_mails None = []
carried_mails (Some m) = m ∷ []

-- so many messages of a vat, from that number on
unfoldable pub own_messages : ℕ → ℕ → ℕ → List Msg
own_messages v j zero = []
own_messages v j (suc n) = record { sender = v; number = j } ∷ own_messages v (suc j) n

abbrev pub with_mails : List Msg → Named → Named
with_mails ms t = record t { naming = record t.naming { mails = t.naming.mails ++ ms } }

unfoldable pub with_name : Name → Named → Named
with_name n t = record t { naming = record t.naming { names = t.naming.names ++ n ∷ [] } }

-- a name as it was told, or the next promise of the vat
unfoldable pub named_as : Option Name → Named → Named
named_as (Some n) t = with_name n t
named_as None t = with_name (name.Own t.naming.vat t.promises) (record t { promises = t.promises + 1 })

unfoldable pub one_named : List Entry → Named → Named
one_named es t = named_as (told_at (length t.naming.names) es) t

-- so many names more
unfoldable pub all_named : List Entry → ℕ → Named → Named
all_named es zero t = t
all_named es (suc n) t = all_named es n (one_named es t)

-- the names with the messages that a step brought and made
abbrev pub mailed : Option Msg → ℕ → Named → Named
mailed carried messages t = with_mails (own_messages t.naming.vat t.messages (messages - t.messages)) (with_mails (carried_mails carried) t)

-- the names once a step that left the inside so has told of the numbers, with what was told of them before it
abbrev pub heard : Drawn → Interior → Gifts → List Entry → Named → Named
heard d i gs es t = all_named (step_tells d t.naming.vat t.naming.mails i (drop t.gifts gs) es) (length i.refs.known - length t.naming.names) t

-- with the counts of the vat as it is now
abbrev pub counted : Interior → Gifts → Named → Named
counted i gs t = record t { promises = i.refs.promises; messages = i.refs.messages; gifts = length gs }

-- The names after a step that left the vat so: it told these numbers before, and a note brought that message, if one.
abbrev pub stepped : Drawn → Option Msg → List Entry → Interior → Gifts → Named → Named
stepped d carried es i gs t = counted i gs (heard d i gs es (mailed carried i.refs.messages t))
