-- What holds of lines whose gifts have names.
use Rattle.std.specs.Prelude.{◌≡◌, ◌⊎◌, ℕ, ◌<◌, true, List, ◌++◌}
use Rattle.def_machine.specs.State.{is_in}
use Rattle.def_machine.specs.Values.{provider_of, word_of}
use Rattle.def_run.specs.Marks.{base, spelled_out}
use Rattle.def_run.specs.World.{Event}
use Rattle.def_hostile.specs.Claims.{Claim, is_claimed, spelled_event}
use Rattle.def_hostile.specs.Hostile.{Line}
use Rattle.def_hostile.specs.HostileText.{shown_lines}
use Rattle.def_hostile.specs.Made.{claim_all}
use Rattle.def_hostile.specs.ShownMarks.{shown_event}
use Rattle.ev_claims.specs.Telling.{printed_event}
use Rattle.law_named_lines.specs.Gifts.{InEvent, InLines}

-- The gift has a name, or it prints by its word in any case: it is claimed, or a draw made it, with that word.
abbrev pub HasName : List ℕ → List Claim → List Claim → ℕ → ℕ → Type 0
HasName draws made cs h i = ((j : ℕ) × (i ≡ spelled_out j)) ⊎ ((is_claimed cs h (base i) ≡ true) ⊎ ((is_claimed made h (base i) ≡ true) × (is_in (word_of i) draws ≡ true)))

-- More words are drawn and more gifts are claimed, one that has a name never.
abbrev pub LinesKeepTheirText : Type 0
LinesKeepTheirText = (draws more : List ℕ) (made cs gs : List Claim) (ls : List Line) → InLines (HasName draws made cs) ls → shown_lines (draws ++ more) (claim_all made gs cs) ls ≡ shown_lines draws cs ls

abbrev pub PrintedLinesAreShown : Type 0
PrintedLinesAreShown = (draws : List ℕ) (cs : List Claim) (e : Event) → InEvent (λ h i. provider_of i < 32) e → printed_event (record { draws = draws; claims = cs }) e ≡ shown_event draws (spelled_event cs e)
