-- Each kind of note is read alike in numbers and in names.
use Rattle.std.specs.Prelude.{◌≡◌, ℕ, zero, List, ◌∷◌, Some, slice_get}
use Rattle.def_machine.specs.Values.{Words, Name}
use Rattle.def_machine.specs.State.{Passed, Passeds, Note, Delivery, Deliver, Open, Ask, SettledTo, Shorten, Vat}
use Rattle.law_fate.specs.Name.Runs.{KnowsOnce}
use Rattle.def_run.specs.World.{Script, Entry, World, Goes, begins, open_from, steps_from}
use Rattle.law_reference.specs.Reference.Cuts.{NoticesFollowCuts}
use Rattle.law_reference.specs.Reference.NameTableRuns.{BringsNew, NotesBringNew}
use Rattle.law_frame.specs.Frame.Known.{OnUncutLink}
use Rattle.law_frame.specs.Frame.Alike.{by_numbers, by_names}
use Rattle.law_frame.specs.Frame.Gifts.{AskedGiftStands, GiftsWereAskedFor}

-- In every world of a run in which each notice stands behind a cut of the same two vats: it holds of the note that stands first on the link from v to u, another vat, where that link is not cut and s is the state of u.
abbrev pub OfNextNotes : (Script → World → ℕ → ℕ → Vat Name → Note Name → Type 0) → Type 0
OfNextNotes P = (script : Script) → KnowsOnce script → (w x : World) (es : List Entry) (k : ℕ) → NoticesFollowCuts es → open_from script zero script.vats (begins script) ≡ Goes w → steps_from script es k w ≡ Goes x
    → (v u : ℕ) (s : Vat Name) → slice_get x.vats u ≡ Some s → (v ≡ u → ⊥) → OnUncutLink x v u (λ l. (n : Note Name) (ns : List (Note Name)) → l.notes ≡ n ∷ ns → P script x v u s n)

-- The receiver reads the frame of the note by its own numbers as the one machine reads the note in names.
abbrev pub IsReadAlike : Script → World → ℕ → ℕ → Vat Name → Note Name → Type 0
IsReadAlike script x v u s n = by_numbers script x v u s n ≡ by_names v s n

-- a message
abbrev pub DeliveriesAreReadAlike : Type 0
DeliveriesAreReadAlike = OfNextNotes (λ script x v u s note. (d : Delivery Name) (n : Name) (verb : Words) (ys : Passeds Name) → note ≡ Deliver d n verb ys → GiftsWereAskedFor x v u note → IsReadAlike script x v u s note)

-- what a gift is
abbrev pub OpeningsAreReadAlike : Type 0
OpeningsAreReadAlike = OfNextNotes (λ script x v u s note. (i : ℕ) (n : Name) → note ≡ Open i n → GiftsWereAskedFor x v u note → IsReadAlike script x v u s note)

-- that a gift is asked for
abbrev pub AsksAreReadAlike : Type 0
AsksAreReadAlike = OfNextNotes (λ script x v u s note. (p i : ℕ) (n : Name) → note ≡ Ask p i n → AskedGiftStands u note s → IsReadAlike script x v u s note)

-- what a name settled to
abbrev pub SettlingsAreReadAlike : Type 0
SettlingsAreReadAlike = OfNextNotes (λ script x v u s note. (n : Name) (y : Passed Name) → note ≡ SettledTo n y → GiftsWereAskedFor x v u note → IsReadAlike script x v u s note)

-- that an object is wanted as a gift
abbrev pub ShorteningsAreReadAlike : Type 0
ShorteningsAreReadAlike = OfNextNotes (λ script x v u s note. (n : Name) (c i : ℕ) → note ≡ Shorten n c i → GiftsWereAskedFor x v u note → IsReadAlike script x v u s note)

-- any note
abbrev pub NotesAreReadAlike : Type 0
NotesAreReadAlike = OfNextNotes (λ script x v u s note. AskedGiftStands u note s → GiftsWereAskedFor x v u note → IsReadAlike script x v u s note)

-- So each note is, in every world of a run whose notes bring what is new, where it brings what is new too.
abbrev pub NewNotesAreReadAlike : Type 0
NewNotesAreReadAlike = (script : Script) → KnowsOnce script → (w x : World) (es : List Entry) (k : ℕ) → NoticesFollowCuts es → NotesBringNew script es k w → open_from script zero script.vats (begins script) ≡ Goes w → steps_from script es k w ≡ Goes x
    → (v u : ℕ) (s : Vat Name) → slice_get x.vats u ≡ Some s → (v ≡ u → ⊥) → OnUncutLink x v u (λ l. (n : Note Name) (ns : List (Note Name)) → l.notes ≡ n ∷ ns → BringsNew x v u n s → IsReadAlike script x v u s n)
