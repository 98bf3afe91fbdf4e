-- Lines without a line feed in them, and histories that have one text.
use Rattle.std.specs.Prelude.{◌≡◌, ℕ, true, List, [], ◌∷◌, map, filter, not, ◌==◌}
use Rattle.std.specs.List.{list_all}
use Rattle.std.specs.Str.{IsUtf8}
use Rattle.def_event.specs.declared.note.ShownNote.{ShownNote}
use Rattle.def_event.specs.declared.note.ShownNote.TheVariants.{Deliver, DeliverOnly}
use Rattle.def_event.specs.declared.event.Event.{Event}
use Rattle.def_event.specs.declared.event.Event.TheVariants.{Carry, Take, Call, Made, Send, SendOnly, LeftLink}
use Rattle.def_event.specs.Lines.{is_no_frame, line_of, render, render_run}

-- no line feed is in it
abbrev pub IsOneLine : List ℕ → Type 0
IsOneLine text = list_all (λ c. not (c == 10)) text ≡ true

abbrev pub AllOf : {A : Type 0} → (A → Type 0) → List A → Type 0
AllOf P [] = Unit {0}
AllOf P (x ∷ xs) = P x × AllOf P xs

-- its verb is a text
abbrev pub NoteFits : ShownNote → Type 0
NoteFits (Deliver m target verb args) = IsUtf8 verb
NoteFits (DeliverOnly m target verb args) = IsUtf8 verb
NoteFits _ = Unit {0}

-- Its verb is a text, and the name of an object that is made is such a name.
abbrev pub FitsAs : (List ℕ → Type 0) → Event → Type 0
FitsAs IsName (Carry k v w note) = NoteFits note
FitsAs IsName (Take t) = IsUtf8 t.verb
FitsAs IsName (Call c) = IsUtf8 c.verb
FitsAs IsName (Made o) = IsName o.name
FitsAs IsName (Send m) = IsUtf8 m.verb
FitsAs IsName (SendOnly m) = IsUtf8 m.verb
FitsAs IsName (LeftLink v w note) = NoteFits note
FitsAs IsName _ = Unit {0}

-- The name of an object that is made has no line feed.
abbrev pub Fits : Event → Type 0
Fits = FitsAs IsOneLine

-- of vats whose names have none
abbrev pub EachLineIsOne : Type 0
EachLineIsOne = (vats : List (List ℕ)) → AllOf IsOneLine vats → (e : Event) → Fits e → IsOneLine (line_of vats e)

abbrev pub TextsTellLines : Type 0
TextsTellLines = (vats : List (List ℕ)) → AllOf IsOneLine vats → (xs ys : List Event) → AllOf Fits xs → AllOf Fits ys
    → (render vats xs ≡ render vats ys → map (line_of vats) xs ≡ map (line_of vats) ys)
    × (render_run vats xs ≡ render_run vats ys → map (line_of vats) (filter is_no_frame xs) ≡ map (line_of vats) (filter is_no_frame ys))
