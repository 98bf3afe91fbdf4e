-- What the steps of a vat tell of the names that come to be known to it and of its messages.
use Rattle.std.specs.Prelude.{◌≡◌, ℕ, zero, suc, ◌+◌, ◌≤◌, ◌-◌, Bool, true, false, List, [], ◌∷◌, ◌++◌, ◌⊎◌, Option, Some, None, slice_get, length, drop, map, ◌==◌}
use Rattle.def_machine.specs.Values.{Name, Root, Object, Promise, Answer, Gift, Sent, answer_of}
use Rattle.def_machine.specs.State.{Message, Note, Deliver, Open, Ask, SettledTo, Elsewhere, Shorten, Put, GiftEntry, Happened, Vat}
use Rattle.def_run.specs.Names.{own_mails}
use Rattle.def_run.specs.World.{Script, Program, Entry, Turn, Carry, CutLink, NoticeLink, Link, World, Goes, begins, open_from, open_vat, step, steps_from, link_at}
use Rattle.law_fate.specs.Name.Names.{AllOf, IsAmong, names_in}
use Rattle.law_fate.specs.Name.Runs.{KnowsOnce, InEachVat}
use Rattle.law_frame.specs.Frame.Alike.{names_heard}
use Rattle.law_frame.specs.Frame.Lines.{LineFits, AnswersIn, DueIn, carried_in}

-- ---- steps

-- What holds of a vat, of what it was, of the note that an entry brings to it and of what it is then, where the entry is a step of the vat: a turn takes a message, the first note of a link that is not cut arrives, or a cut is noticed.
abbrev pub ByEntry : (ℕ → Vat Name → Option (Note Name) → Vat Name → Type 0) → World → Entry → World → Type 0
ByEntry P x (Turn v) y = (s r : Vat Name) (m : Message Name) (ms : List (Message Name)) → slice_get x.vats v ≡ Some s → slice_get y.vats v ≡ Some r → s.queue ≡ m ∷ ms → P v s None r
ByEntry P x (Carry a v) y = (s r : Vat Name) (l : Link) (n : Note Name) (ns : List (Note Name)) → slice_get x.vats v ≡ Some s → slice_get y.vats v ≡ Some r → link_at a v x.links ≡ Some l → l.cut ≡ false → l.notes ≡ n ∷ ns → P v s (Some n) r
ByEntry P x (CutLink a b) y = Unit {0}
ByEntry P x (NoticeLink v a) y = (s r : Vat Name) → slice_get x.vats v ≡ Some s → slice_get y.vats v ≡ Some r → P v s None r

-- so it is by each opening turn, which brings no note, and by each entry of a run
abbrev pub InEachStep : (ℕ → Vat Name → Option (Note Name) → Vat Name → Type 0) → Type 0
InEachStep P = (script : Script) → KnowsOnce script
    → ((ps rest : List Program) (p : Program) (x y : World) → script.vats ≡ ps ++ p ∷ rest → open_from script zero ps (begins script) ≡ Goes x → open_vat script (length ps) p x ≡ Goes y
    → (s r : Vat Name) → slice_get x.vats (length ps) ≡ Some s → slice_get y.vats (length ps) ≡ Some r → P (length ps) s None r)
    × ((w x y : World) (es : List Entry) (e : Entry) (k : ℕ) → open_from script zero script.vats (begins script) ≡ Goes w → steps_from script es k w ≡ Goes x → step script e (k + length es) x ≡ Goes y → ByEntry P x e y)

-- ---- messages

unfoldable pub carried_by : Option (Note Name) → List Name
carried_by (Some n) = carried_in n
carried_by None = []

-- The messages of a vat after a step are those before it, then the message of the note that arrived, then the vat's own, in order.
abbrev pub MessagesComeInOrder : Type 0
MessagesComeInOrder = InEachStep (λ v s o t. (s.messages ≤ t.messages) × (t.mails ≡ s.mails ++ carried_by o ++ own_mails v s.messages (t.messages - s.messages)))

-- ---- the vat's own promises

unfoldable pub is_own_promise : ℕ → Name → Bool
is_own_promise v (Promise w i) = v == w
is_own_promise v (Root w) = false
is_own_promise v (Object w i) = false
is_own_promise v (Answer w m) = false
is_own_promise v (Gift w i) = false
is_own_promise v (Sent m) = false

-- those of these names that are promises of vat v
unfoldable pub own_promises : ℕ → List Name → List Name
own_promises v [] = []
own_promises v (n ∷ ns) = elim (is_own_promise v n) [ true ↦ n ∷ own_promises v ns | false ↦ own_promises v ns ]

-- so many promises of vat v, from number j on
unfoldable pub promises_from : ℕ → ℕ → ℕ → List Name
promises_from v j zero = []
promises_from v j (suc n) = Promise v j ∷ promises_from v (suc j) n

-- The promises of its own that a vat knows are those that it made, in order.
abbrev pub OwnPromisesComeInOrder : Type 0
OwnPromisesComeInOrder = InEachVat (λ w v s. own_promises v (names_in s.known) ≡ promises_from v zero s.promises)

-- ---- lines

-- Each line of a new message that a vat told in its last step has as its answer the answer of that message at its own host, which the vat knows; the message is one that the vat has had.
abbrev pub LinesNameAnswers : Type 0
LinesNameAnswers = InEachVat (λ w v s. AllOf (LineFits (names_in s.known) s.mails) s.happened)

-- ---- notes

-- The answer that a message asks for at vat w is that of this message there, and the vat knows it; the message is one that it has had. A gift that is asked of vat w is that gift of it, which the vat knows.
abbrev pub AsksKnown : Vat Name → ℕ → Note Name → Type 0
AsksKnown s w (Deliver d n verb ys) = IsAmong d.message s.mails × ((x : Name) → d.answer ≡ Some x → (x ≡ answer_of w d.message) × IsAmong x (names_in s.known))
AsksKnown s w (Ask p i n) = (n ≡ Gift w i) × IsAmong n (names_in s.known)
AsksKnown s w (Open i n) = Unit {0}
AsksKnown s w (SettledTo n y) = Unit {0}
AsksKnown s w (Elsewhere n c) = Unit {0}
AsksKnown s w (Shorten n c i) = Unit {0}

-- so is what each note asks for that a vat put in its last step
abbrev pub NotesNameWhatTheyAsk : Type 0
NotesNameWhatTheyAsk = InEachVat (λ w v s. AllOf (λ (p : Put Name). AsksKnown s p.to p.note) s.outbox)

-- ---- gifts

-- Each gift that a vat hosts has its own name, which the vat knows.
abbrev pub GiftsAreNamed : Type 0
GiftsAreNamed = InEachVat (λ w v s. AllOf (λ (g : GiftEntry Name). (g.name ≡ Gift v g.number) × IsAmong g.name (names_in s.known)) s.gifts)

-- a gift but for whether it was opened
unfoldable pub unopened : GiftEntry Name → GiftEntry Name
unopened g = record { name = g.name; provider = g.provider; number = g.number; opened = false }

-- In a step gifts are added at the end, and those that a vat hosts stay as they are but for being opened.
abbrev pub GiftsComeAtTheEnd : Type 0
GiftsComeAtTheEnd = InEachStep (λ v s o t. (gs : List (GiftEntry Name)) × (map unopened t.gifts ≡ map unopened s.gifts ++ gs))

-- ---- all is told

-- the note asks for that name as the answer of a message, or as a gift
abbrev pub AsksAs : Note Name → Name → Type 0
AsksAs (Deliver d n verb ys) x = d.answer ≡ Some x
AsksAs (Ask p i n) x = n ≡ x
AsksAs (Open i n) x = ⊥
AsksAs (SettledTo n y) x = ⊥
AsksAs (Elsewhere n c) x = ⊥
AsksAs (Shorten n c i) x = ⊥

-- among the names that are known once the note was read, or the answer that it asks of the vat
abbrev pub IsBroughtBy : ℕ → List Name → Option (Note Name) → Name → Type 0
IsBroughtBy v ks None x = ⊥
IsBroughtBy v ks (Some n) x = IsAmong x (names_heard ks n) ⊎ DueIn v n x

-- A note that arrives brings no promise of the vat that the vat does not know.
abbrev pub NotesBringNoOwnPromise : Type 0
NotesBringNoOwnPromise = InEachStep (λ v s o t. (i : ℕ) → IsBroughtBy v (names_in s.known) o (Promise v i) → IsAmong (Promise v i) (names_in s.known))

-- How a name that came to be known in a step of vat v is told: it is a promise of the vat, or the answer in a line of a new message, or a note was put that asks for it, or it is a gift that came to the vat, or the note that arrived brought it.
abbrev pub IsTold : ℕ → Vat Name → Option (Note Name) → Vat Name → Name → Type 0
IsTold v s o t x = ((i : ℕ) × (x ≡ Promise v i))
    ⊎ (((e : Happened Name) × IsAmong e t.happened × AnswersIn e x)
    ⊎ (((p : Put Name) × IsAmong p t.outbox × AsksAs p.note x)
    ⊎ (((g : GiftEntry Name) × IsAmong g (drop (length s.gifts) t.gifts) × (g.name ≡ x))
    ⊎ IsBroughtBy v (names_in s.known) o x)))

-- In a step names come to be known at the end, and each of them is told.
abbrev pub EachNewNameIsTold : Type 0
EachNewNameIsTold = InEachStep (λ v s o t. (ns : List Name) × (names_in t.known ≡ names_in s.known ++ ns) × AllOf (IsTold v s o t) ns)

-- opens each definition of this file
unfoldable pub opened_told : Unit {0}
unfolding carried_by is_own_promise own_promises promises_from unopened
opened_told = tt
