-- What is asked of gifts, so that a note that arrives is read alike.
use Rattle.std.specs.Prelude.{ℕ}
use Rattle.def_machine.specs.Values.{Name, Gift}
use Rattle.def_machine.specs.State.{Note, Deliver, Open, Ask, SettledTo, Elsewhere, Shorten, Vat}
use Rattle.def_run.specs.World.{World, link_at}
use Rattle.law_reference.specs.Reference.Logs.{questions_in, questions}
use Rattle.law_fate.specs.Name.Names.{IsAmong, names_in}
use Rattle.law_reference.specs.Reference.Standing.{IsEntered}
use Rattle.law_frame.specs.Frame.Asked.{told_in}
use Rattle.law_frame.specs.Frame.Tables.{arrived}

-- where a note asks for a gift that vat u knows, that gift stands among its gifts
abbrev pub AskedGiftStands : ℕ → Note Name → Vat Name → Type 0
AskedGiftStands u (Ask p i n) s = IsAmong (Gift u i) (names_in s.known) → IsEntered i s.gifts
AskedGiftStands u (Deliver m n verb ys) s = Unit {0}
AskedGiftStands u (Open i n) s = Unit {0}
AskedGiftStands u (SettledTo n y) s = Unit {0}
AskedGiftStands u (Elsewhere n c) s = Unit {0}
AskedGiftStands u (Shorten n c i) s = Unit {0}

-- A gift of vat u that a note from v tells, and for which v ever asked u, is one for which it asked in notes that have arrived.
abbrev pub GiftsWereAskedFor : World → ℕ → ℕ → Note Name → Type 0
GiftsWereAskedFor w v u n = (i : ℕ) → IsAmong (Gift u i) (told_in n) → IsAmong (Gift u i) (questions (λ i. i) w.links v u) → IsAmong (Gift u i) (questions_in u (arrived (link_at v u w.links)))
