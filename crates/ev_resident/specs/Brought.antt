-- What a frame told of the numbers that it gave names to.
use Rattle.std.specs.Prelude.{ℕ, suc, Bool, true, false, List, [], ◌∷◌, Option, Some, None, slice_get}
use Rattle.ev_base.specs.declared.names.Msg.{Msg}
use Rattle.ev_base.specs.declared.names.Name.{Name}
use Rattle.ev_base.specs.declared.names.Name.TheVariants as name
use Rattle.ev_base.specs.declared.values.Value.{Value}
use Rattle.ev_base.specs.declared.values.Value.TheVariants as held
use Rattle.ev_intro.specs.Word.{Drawn}
use Rattle.ev_resident.specs.Names.{Entry, each_tells, gift_at, with_told}
use Rattle.ev_wire.specs.Learnt.{LearntGift, LearntGifts}
use Rattle.ev_wire.specs.declared.news.News.{News}
use Rattle.ev_resident.specs.declared.resident.Resident.{Resident}
use Rattle.ev_step_lines.specs.Lines.{Naming, name_at, object_at}
use Rattle.ev_wire.specs.Putting.{table_for}

-- the name of what a vat holds so, by the names of its numbers; what is no reference stands for the vat's root
abbrev pub name_of : Naming → Value → Name
name_of n (held.Obj i) = name.Object n.vat i
name_of n (held.Prom k) = name_at n k
name_of n (held.Far h p) = name.Object h (object_at n h p)
name_of n v = name.Root n.vat

-- so does what is not there
abbrev pub name_if : Naming → Option Value → Name
name_if n (Some v) = name_of n v
name_if n None = name.Root n.vat

-- what a vat calls what it exported to that peer at a position
abbrev pub exported_name : Resident → ℕ → ℕ → Name
exported_name r peer p = name_if r.names.naming (slice_get (table_for peer r.member.connections.items).exports p)

-- a promise that came to stand at a position is what its exporter calls so
unfoldable pub import_tells : Name → Value → List Entry → List Entry
import_tells x (held.Prom k) es = with_told (record { number = k; name = x }) es
import_tells x v es = es

-- so are those from position p on
unfoldable pub imports_tell : (ℕ → Name) → ℕ → List Value → List Entry → List Entry
imports_tell g p [] es = es
imports_tell g p (v ∷ vs) es = imports_tell g (suc p) vs (import_tells (g p) v es)

-- a gift that was learnt
abbrev pub learnt_tells : Drawn → LearntGift → List Entry → List Entry
learnt_tells d g es = with_told (record { number = g.name; name = gift_at d g.host g.word }) es

abbrev pub all_learnt_tell : Drawn → LearntGifts → List Entry → List Entry
all_learnt_tell d gs es = each_tells (learnt_tells d) gs es

-- the answer of a message is the vat's own, as that number
unfoldable pub message_tells : ℕ → ℕ → Option Msg → List Entry → List Entry
message_tells u k None es = es
message_tells u k (Some m) es = with_told (record { number = k; name = name.Answer u m }) es

-- it is told where the message asks for it
unfoldable pub answer_tells : ℕ → ℕ → Option Msg → Bool → List Entry → List Entry
answer_tells u k carried true es = message_tells u k carried es
answer_tells u k carried false es = es

-- all that a frame told of numbers which vat u heard
abbrev pub frame_tells : Resident → ℕ → ℕ → News → Option Msg → Bool → Drawn → List Entry
frame_tells r u first news carried asks d = answer_tells u news.known carried asks (all_learnt_tell d news.gifts (imports_tell (exported_name r u) first news.imports []))
