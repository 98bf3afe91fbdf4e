-- The next note is received as it arrives.
use Rattle.std.specs.Prelude.{◌≡◌, ℕ, zero, false, List, ◌∷◌, Some, slice_get, length}
use Rattle.def_machine.specs.Values.{Name, Gift, key}
use Rattle.def_machine.specs.State.{Note, Deliver, Open, Ask, SettledTo, Elsewhere, Shorten, Vat}
use Rattle.def_machine.specs.Arrive.{arrive}
use Rattle.def_machine.specs.Receive.{Sight, tells_nothing, receive}
use Rattle.def_run.specs.Draws.{draw_word}
use Rattle.def_run.specs.World.{Script, Entry, World, Goes, begins, open_from, steps_from, names, names_of, read_note, readied}
use Rattle.law_fate.specs.Name.Names.{IsAmong}
use Rattle.law_fate.specs.Name.Runs.{KnowsOnce}
use Rattle.law_reference.specs.Reference.Cuts.{NoticesFollowCuts}
use Rattle.law_frame.specs.Frame.Known.{OnUncutLink}

-- The vat knows no gift under the word that is drawn next, and the sender has no number yet for a gift of the vat for which the note asks.
abbrev pub AsksAnew : Sight Name → ℕ → Note Name → Type 0
AsksAnew sight u (Ask p i n) = sight.numbers (Gift u i) ≡ false
AsksAnew sight u (Deliver d n verb ys) = Unit {0}
AsksAnew sight u (Open i n) = Unit {0}
AsksAnew sight u (SettledTo n y) = Unit {0}
AsksAnew sight u (Elsewhere n c) = Unit {0}
AsksAnew sight u (Shorten n c i) = Unit {0}

pub record SeesNew (script : Script) (x : World) (u : ℕ) (n : Note Name) (sight : Sight Name) : Type 0 where
  pub unknown : (c h : ℕ) → sight.knows c h (key h (draw_word script.key (length x.drawn))) ≡ false
  pub asked : AsksAnew sight u n

-- a note that tells what is so for good: what a gift is, or what a name settled to
abbrev pub TellsOfGood : Note Name → Type 0
TellsOfGood (Open i n) = Unit {0}
TellsOfGood (SettledTo n y) = Unit {0}
TellsOfGood (Elsewhere n c) = Unit {0}
TellsOfGood (Deliver d n verb ys) = ⊥
TellsOfGood (Ask p i n) = ⊥
TellsOfGood (Shorten n c i) = ⊥

-- In every world of a run in which each notice stands behind a cut of the same two vats, where the word that is drawn next was not drawn before: what the receiver makes of the next note, read in names, as it is received is what it makes of it as it arrives. Of a note that tells what is so for good that is said where it tells something new.
abbrev pub NextNotesAreReceived : Type 0
NextNotesAreReceived = (script : Script) → KnowsOnce script → (w x : World) (es : List Entry) (k : ℕ) → NoticesFollowCuts es → open_from script zero script.vats (begins script) ≡ Goes w → steps_from script es k w ≡ Goes x
    → (IsAmong (draw_word script.key (length x.drawn)) x.drawn → ⊥) → (v u : ℕ) (s : Vat Name) → slice_get x.vats u ≡ Some s → (v ≡ u → ⊥) → OnUncutLink x v u (λ l. (n : Note Name) (ns : List (Note Name)) → l.notes ≡ n ∷ ns → (sight : Sight Name) → SeesNew script x u n sight
    → (TellsOfGood n → tells_nothing (names script u) sight v (read_note (names_of s) n) (readied x s) ≡ false)
    → receive (names script u) sight v (read_note (names_of s) n) (readied x s) ≡ arrive (names script u) v (read_note (names_of s) n) (readied x s))
