-- A vat is told once where a name settled.
use Rattle.std.specs.Prelude.{◌≡◌, ℕ, List, [], ◌∷◌, Some}
use Rattle.def_machine.specs.Values.{Name}
use Rattle.def_machine.specs.State.{Note, Deliver, Open, Ask, SettledTo, Elsewhere, Shorten}
use Rattle.def_run.specs.World.{Link, World, link_at}
use Rattle.law_fate.specs.Name.Names.{Once}
use Rattle.law_reference.specs.Reference.ApartAsking.{InRunsBehindCuts}

-- the name of which a note tells that it settled, if it tells of one, in front of these
unfoldable pub with_news : Note Name → List Name → List Name
with_news (SettledTo n y) ns = n ∷ ns
with_news (Elsewhere n c) ns = n ∷ ns
with_news (Deliver d n verb ys) ns = ns
with_news (Open i n) ns = ns
with_news (Ask p i n) ns = ns
with_news (Shorten n c i) ns = ns

-- the names of which these notes tell that they settled, in order
unfoldable pub news_in : List (Note Name) → List Name
news_in [] = []
news_in (n ∷ ns) = with_news n (news_in ns)

-- of all the notes that were ever put on a link, two tell of no one name that it settled
abbrev pub ToldOnce : World → Type 0
ToldOnce w = (u v : ℕ) (l : Link) → link_at u v w.links ≡ Some l → Once (news_in l.log)

abbrev pub EachIsToldOnce : Type 0
EachIsToldOnce = InRunsBehindCuts ToldOnce
