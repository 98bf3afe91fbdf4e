-- Gifts of another vat that a vat knows are asked for there in front of all that names them, and stand there then.
use Rattle.std.specs.Prelude.{◌≡◌, ℕ, zero, true, List, [], ◌∷◌, ◌++◌, ◌⊎◌, Some, slice_get}
use Rattle.def_machine.specs.Values.{Name, Gift}
use Rattle.def_machine.specs.State.{Note, Deliver, Open, Ask, SettledTo, Elsewhere, Shorten, Vat}
use Rattle.def_run.specs.World.{Script, Program, Entry, Link, World, Goes, begins, open_from, steps_from, link_at}
use Rattle.law_fate.specs.Name.Names.{IsAmong, names_in}
use Rattle.law_fate.specs.Name.Runs.{KnowsOnce}
use Rattle.law_reference.specs.Reference.Cuts.{NoticesFollowCuts}
use Rattle.law_reference.specs.Reference.Behind.{NamesNot}
use Rattle.law_reference.specs.Reference.Standing.{IsEntered}

-- the gift of draw i is asked for
abbrev pub AsksFor : ℕ → Note Name → Type 0
AsksFor i (Ask p j n) = j ≡ i
AsksFor i (Deliver m n verb ys) = ⊥
AsksFor i (Open j n) = ⊥
AsksFor i (SettledTo n y) = ⊥
AsksFor i (Elsewhere n c) = ⊥
AsksFor i (Shorten n c j) = ⊥

-- it is asked for among these notes, and no note in front names x
abbrev pub AskedFirst : ℕ → Name → List (Note Name) → Type 0
AskedFirst i x [] = ⊥
AskedFirst i x (n ∷ ns) = AsksFor i n ⊎ (NamesNot x n × AskedFirst i x ns)

-- It holds of the world after any of the opening turns, and after all of them and any entries in which notices stand behind their cuts.
abbrev pub InRunsBehindCuts : (World → Type 0) → Type 0
InRunsBehindCuts P = (script : Script) → KnowsOnce script
    → ((ps rest : List Program) (w : World) → script.vats ≡ ps ++ rest → open_from script zero ps (begins script) ≡ Goes w → P w)
    × ((w x : World) (es : List Entry) (k : ℕ) → NoticesFollowCuts es → open_from script zero script.vats (begins script) ≡ Goes w → steps_from script es k w ≡ Goes x → P x)

-- of the world after all opening turns and any entries alone
abbrev pub AfterEntriesBehindCuts : (World → Type 0) → Type 0
AfterEntriesBehindCuts P = (script : Script) → KnowsOnce script → (w x : World) (es : List Entry) (k : ℕ) → NoticesFollowCuts es → open_from script zero script.vats (begins script) ≡ Goes w → steps_from script es k w ≡ Goes x → P x

-- a gift of its own that a vat knows stands among its gifts
abbrev pub OwnGiftsStand : Type 0
OwnGiftsStand = InRunsBehindCuts (λ w. (v i : ℕ) (s : Vat Name) → slice_get w.vats v ≡ Some s → IsAmong (Gift v i) (names_in s.known) → IsEntered i s.gifts)

-- What vat u knows as a gift of vat g stands at g; or the link to g is cut; or the gift is asked for on the way there, in front of all that names it.
abbrev pub GiftsFollowAsks : Type 0
GiftsFollowAsks = AfterEntriesBehindCuts (λ w. (u g i : ℕ) (s r : Vat Name) (l : Link) → slice_get w.vats u ≡ Some s → slice_get w.vats g ≡ Some r → link_at u g w.links ≡ Some l
    → IsAmong (Gift g i) (names_in s.known) → IsEntered i r.gifts ⊎ ((l.cut ≡ true) ⊎ AskedFirst i (Gift g i) l.notes))
