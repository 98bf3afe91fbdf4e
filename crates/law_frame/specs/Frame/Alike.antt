-- That a note which arrives is read alike in numbers and in names.
use Rattle.std.specs.Prelude.{◌≡◌, ℕ, zero, suc, true, false, List, [], ◌∷◌, ◌++◌, Option, Some, None, length, map, slice_get, option_map, unwrap_or}
use Rattle.def_machine.specs.Values.{Name, Root, Local, word_of}
use Rattle.def_machine.specs.State.{Note, Deliver, Open, Ask, SettledTo, Elsewhere, Shorten, GiftEntry, Vat}
use Rattle.def_machine.specs.Arrive.{Incoming, Old, New}
use Rattle.law_fate.specs.Name.Names.{names_in}
use Rattle.def_machine.specs.Maps as maps
use Rattle.def_machine.specs.Maps.{incoming}
use Rattle.law_machine.specs.Renamed.Renaming.{Wire, Mine, Yours, MyAnswer, YourAnswer, Carried}
use Rattle.law_machine.specs.Renamed.Stands.{Table, Found, Is, found}
use Rattle.def_run.specs.World.{Script, Entry, Turn, Carry, CutLink, NoticeLink, Link, World, Run, Goes, Stopped, link_at, known_after, read_passed, read_all, read_note, names_of, begins, open_from, step}
use Rattle.law_reference.specs.Reference.Logs.{questions, exports, operation}
use Rattle.law_reference.specs.Reference.Exports.{exported_at}
use Rattle.law_frame.specs.Frame.Tables.{known_number, tables_of, opened_tables}
use Rattle.law_frame.specs.Frame.Hearing.{note_heard, opened_hearing}

-- the names that are known once a note was read
unfoldable pub names_heard : List Name → Note Name → List Name
names_heard ks (Deliver m n verb ys) = known_after (read_all ys ks).known n
names_heard ks (Open i n) = known_after ks n
names_heard ks (Ask p i n) = ks
names_heard ks (SettledTo n y) = (read_passed y (known_after ks n)).known
names_heard ks (Elsewhere n c) = known_after ks n
names_heard ks (Shorten n c i) = known_after ks n

-- the table of vat u once it has read a note
unfoldable pub table_heard : World → ℕ → Vat Name → Note Name → Table
table_heard w u s n = record { names = names_heard (names_in s.known) n; mails = s.mails; exports = exported_at w.links u }

-- what a message or a place that no receiver looks at is replaced by
unfoldable pub from_peer : {N W : Type 0} → ℕ → Incoming N W → Incoming N W
from_peer v (Old n) = Old n
from_peer v (New x h) = New x v

-- a note without what its frame does not tell
unfoldable pub as_told : {N W : Type 0} → ℕ → Note (Incoming N W) → Note (Incoming N W)
as_told v (Deliver d n verb ys) = Deliver (record { message = from_peer v d.message; asks = d.asks; answer = None }) n verb ys
as_told v (Open i n) = Open i n
as_told v (Ask p i n) = Ask p i n
as_told v (SettledTo n y) = SettledTo n y
as_told v (Elsewhere n c) = Elsewhere n c
as_told v (Shorten n c i) = Shorten n v i

unfoldable pub message_of : Note Name → Name
message_of (Deliver d n verb ys) = d.message
message_of (Open i n) = n
message_of (Ask p i n) = n
message_of (SettledTo n y) = n
message_of (Elsewhere n c) = n
message_of (Shorten n c i) = n

-- what a new name in a note from v to u is
unfoldable pub wire_name : World → ℕ → ℕ → Note Name → Wire → Name
wire_name w v u n (Mine b p) = unwrap_or (slice_get (exports (λ i. i) w.links v u) p) (Root v)
wire_name w v u n (Yours p) = unwrap_or (slice_get (exports (λ i. i) w.links u v) p) (Root u)
wire_name w v u n (MyAnswer q) = unwrap_or (slice_get (questions (λ i. i) w.links v u) q) (Root v)
wire_name w v u n (YourAnswer q) = unwrap_or (slice_get (questions (λ i. i) w.links u v) q) (Root u)
wire_name w v u n Carried = message_of n

-- a gift that the vat hosts, in numbers
unfoldable pub numbered_gift : List Name → GiftEntry Name → GiftEntry Local
numbered_gift ks g = record { name = known_number ks g.name; provider = g.provider; number = g.number; opened = g.opened }

-- the note as vat u reads it by its tables, with each number read by its table of names
unfoldable pub by_numbers : Script → World → ℕ → ℕ → Vat Name → Note Name → Option (Note (Incoming Found Name))
by_numbers script w v u s n =
    option_map (λ x. maps.note (incoming (found u (table_heard w u s n)) (wire_name w v u n)) x.read)
    (note_heard u v (tables_of w u s v) (map (numbered_gift (names_in s.known)) s.gifts) (operation word_of w.links v u n) (tables_of w u s v).imports (length s.known))

-- and as the one machine reads it
unfoldable pub by_names : ℕ → Vat Name → Note Name → Option (Note (Incoming Found Name))
by_names v s n = Some (as_told v (maps.note (incoming Is (λ x. x)) (read_note (names_of s) n)))

-- the note that an entry carries, read so
unfoldable pub head_read : (World → ℕ → ℕ → Vat Name → Note Name → Option (Note (Incoming Found Name))) → World → ℕ → ℕ → List (Note Name) → Option (Vat Name) → List (Option (Note (Incoming Found Name)))
head_read f w v u (n ∷ ns) (Some s) = f w v u s n ∷ []
head_read f w v u _ _ = []

unfoldable pub link_read : (World → ℕ → ℕ → Vat Name → Note Name → Option (Note (Incoming Found Name))) → World → ℕ → ℕ → Option Link → List (Option (Note (Incoming Found Name)))
link_read f w v u (Some l) = elim l.cut [ true ↦ [] | false ↦ head_read f w v u l.notes (slice_get w.vats u) ]
link_read f w v u None = []

unfoldable pub entry_read : (World → ℕ → ℕ → Vat Name → Note Name → Option (Note (Incoming Found Name))) → World → Entry → List (Option (Note (Incoming Found Name)))
entry_read f w (Carry v u) = link_read f w v u (link_at v u w.links)
entry_read f w (Turn v) = []
entry_read f w (CutLink v u) = []
entry_read f w (NoticeLink v u) = []

unfoldable pub where_goes : (World → List (Option (Note (Incoming Found Name)))) → Run → List (Option (Note (Incoming Found Name)))
where_goes f (Goes w) = f w
where_goes f (Stopped c k w) = []

unfoldable pub entries_read : (World → ℕ → ℕ → Vat Name → Note Name → Option (Note (Incoming Found Name))) → Script → List Entry → ℕ → World → List (Option (Note (Incoming Found Name)))
entries_read f script [] k w = []
entries_read f script (e ∷ es) k w = entry_read f w e ++ where_goes (entries_read f script es (suc k)) (step script e k w)

-- each note that is carried in the run of a script, read so as it arrives
unfoldable pub run_read : (World → ℕ → ℕ → Vat Name → Note Name → Option (Note (Incoming Found Name))) → Script → List (Option (Note (Incoming Found Name)))
run_read f script = where_goes (entries_read f script script.schedule 1) (open_from script zero script.vats (begins script))

-- In the run of that script each note that is carried is read alike by the numbers of its receiver and in names.
abbrev pub ReadsAlike : Script → Type 0
ReadsAlike script = run_read (by_numbers script) script ≡ run_read (λ w v u s n. by_names v s n) script

-- opens the definitions of this file, and of those below
unfoldable pub opened_alike : Unit {0}
unfolding names_heard table_heard from_peer as_told message_of wire_name numbered_gift by_numbers by_names head_read link_read entry_read where_goes entries_read run_read opened_tables opened_hearing
opened_alike = tt
