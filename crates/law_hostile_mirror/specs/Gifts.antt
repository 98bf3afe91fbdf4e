-- The gifts that draws made, by the notes that were put and by a list of them.
use Rattle.std.specs.Prelude.{◌≡◌, ℕ, true, false, List, Some, map}
use Rattle.def_machine.specs.Maps as maps
use Rattle.def_machine.specs.State.{Put, is_in}
use Rattle.def_machine.specs.Values.{Name, Local}
use Rattle.def_run.specs.World.{Link, link_at, push_all}
use Rattle.def_hostile.specs.Claims.{Claim, is_claimed, is_made}
use Rattle.def_hostile.specs.Made.{made_by, with_gifts}
use Rattle.law_fate.specs.Name.Names.{AllOf}

-- each of these notes of vat u has its link
abbrev pub HaveLinks : ℕ → List Link → List (Put Name) → Type 0
HaveLinks u ls qs = AllOf (λ (q : Put Name). (l : Link) × (link_at u q.to ls ≡ Some l)) qs

-- Where the list has the gifts that the notes of honest vats tell, it has them once an honest vat put these notes, and the gifts of its own numbers' notes were added.
abbrev pub GiftsMirror : Type 0
GiftsMirror = (hs : List ℕ) (u : ℕ) (f : Local → Name) (ps : List (Put Local)) (ls : List Link) (cs : List Claim) → is_in u hs ≡ false → HaveLinks u ls (map (maps.put f) ps) → ((h i : ℕ) → is_claimed cs h i ≡ is_made hs h i ls)
    → ((h i : ℕ) → is_claimed (with_gifts (made_by ps) cs) h i ≡ is_made hs h i (push_all u (map (maps.put f) ps) ls))
    × AllOf (λ (g : Claim). is_claimed (with_gifts (made_by ps) cs) g.host g.number ≡ true) (made_by ps)
