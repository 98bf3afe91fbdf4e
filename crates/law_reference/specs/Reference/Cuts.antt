-- Cuts of links and their notices.
use Rattle.std.specs.Prelude.{◌≡◌, ℕ, zero, true, List, [], ◌∷◌, ◌⊎◌, Some, slice_get}
use Rattle.def_machine.specs.Values.{Name}
use Rattle.def_machine.specs.State.{Vat, is_in}
use Rattle.def_run.specs.World.{Script, Entry, Turn, Carry, CutLink, NoticeLink, Link, World, Goes, link_at, begins, open_from, steps_from}
use Rattle.law_fate.specs.Name.Names.{IsAmong}
use Rattle.law_fate.specs.Name.Runs.{KnowsOnce}

-- the links between those two vats were cut in one of these entries
abbrev pub IsCutAmong : ℕ → ℕ → List Entry → Type 0
IsCutAmong v w es = IsAmong (CutLink v w) es ⊎ IsAmong (CutLink w v) es

-- the same of each notice among the entries, where the first list is of those that came before
abbrev pub NoticesFollow : List Entry → List Entry → Type 0
NoticesFollow done [] = Unit {0}
NoticesFollow done (NoticeLink v w ∷ es) = (v ≡ w → ⊥) × IsCutAmong v w done × NoticesFollow (NoticeLink v w ∷ done) es
NoticesFollow done (Turn v ∷ es) = NoticesFollow (Turn v ∷ done) es
NoticesFollow done (Carry v w ∷ es) = NoticesFollow (Carry v w ∷ done) es
NoticesFollow done (CutLink v w ∷ es) = NoticesFollow (CutLink v w ∷ done) es

-- Each notice stands behind a cut of the same two vats, which are not one.
abbrev pub NoticesFollowCuts : List Entry → Type 0
NoticesFollowCuts es = NoticesFollow [] es

-- the link from one vat to another, if there is one, is cut
abbrev pub IsCutThere : ℕ → ℕ → List Link → Type 0
IsCutThere v w ls = (l : Link) → link_at v w ls ≡ Some l → l.cut ≡ true

-- In every world of a run, whoever noticed a vat as cut off is another vat, and the links between the two are cut.
abbrev pub NoticedLinksAreCut : Type 0
NoticedLinksAreCut = (script : Script) → KnowsOnce script → (w x : World) (es : List Entry) (k : ℕ) → NoticesFollowCuts es → open_from script zero script.vats (begins script) ≡ Goes w → steps_from script es k w ≡ Goes x
    → (v : ℕ) (s : Vat Name) → slice_get x.vats v ≡ Some s → (u : ℕ) → is_in u s.noticed ≡ true → (v ≡ u → ⊥) × IsCutThere v u x.links × IsCutThere u v x.links
