-- The notes that let gifts go: of one key at most one is under way, and each note under way was logged.
use Rattle.std.specs.Prelude.{◌≡◌, ℕ, ◌+◌, ◌≤◌, Bool, true, false, List, [], ◌∷◌, None, Some, ◌==◌}
use Rattle.def_machine.specs.Values.{Name}
use Rattle.def_machine.specs.State.{Note, Deliver, Open, Ask, SettledTo, Elsewhere, Shorten}
use Rattle.def_run.specs.World.{Script, Link, World, link_at}
use Rattle.law_machine.specs.Run.Moves.{IsReached}
use Rattle.law_order.specs.Ordering.Ways.{Way, Mid}
use Rattle.law_order.specs.Ordering.Places.{any_note, open_place, gift_place}

-- it lets the gift under that key go: it opens it, or asks its provider to
unfoldable pub lets_go : {N : Type 0} → ℕ → Note N → Bool
lets_go i (Deliver m n verb ys) = false
lets_go i (Open j n) = j == i
lets_go i (Ask p j n) = false
lets_go i (SettledTo n y) = false
lets_go i (Elsewhere n c) = false
lets_go i (Shorten n c j) = j == i

-- one where it is so, else zero
unfoldable pub once : Bool → ℕ
once true = 1
once false = 0

-- how many notes of these let it go
unfoldable pub letting_in : ℕ → List (Note Name) → ℕ
letting_in i [] = 0
letting_in i (n ∷ ns) = once (lets_go i n) + letting_in i ns

-- how many that are under way
unfoldable pub letting : ℕ → List Link → ℕ
letting i [] = 0
letting i (l ∷ ls) = letting_in i l.notes + letting i ls

-- of each key at most one
abbrev pub OneLetsGo : List Link → Type 0
OneLetsGo ls = (i : ℕ) → letting i ls ≤ 1

-- what is found among its notes is found in its log
abbrev pub IsLogged : Link → Type 0
IsLogged l = (f : Note Name → Bool) → any_note f l.notes ≡ true → any_note f l.log ≡ true

abbrev pub AllLogged : List Link → Type 0
AllLogged [] = Unit {0}
AllLogged (l ∷ ls) = IsLogged l × AllLogged ls

-- ---- laws

-- In every world of a run at most one note is under way that lets the gift under a key go.
abbrev pub OneNoteLetsAGiftGo : Type 0
OneNoteLetsAGiftGo = (script : Script) (w : World) → IsReached script w → OneLetsGo w.links

-- Each note under way was logged as it was put.
abbrev pub NotesAreLogged : Type 0
NotesAreLogged = (script : Script) (w : World) → IsReached script w → AllLogged w.links

-- So a note that opens a gift and stands first on its link is the one that lets it go.
abbrev pub FirstOpensLetGo : Type 0
FirstOpensLetGo = (script : Script) (honest : ℕ → Bool) (w : World) (a b : ℕ) (l : Link) (i : ℕ) (n : Name) (ns : List (Note Name)) → IsReached script w
    → honest a ≡ true → honest b ≡ true → link_at a b w.links ≡ Some l → l.notes ≡ Open i n ∷ ns → gift_place script honest b i w.links ≡ Mid (Way a b) [] n

-- And one that asks the provider of a gift for it is the one that does: none that opens the gift is under way.
abbrev pub FirstShortensLetGo : Type 0
FirstShortensLetGo = (script : Script) (honest : ℕ → Bool) (w : World) (a b c : ℕ) (l : Link) (i : ℕ) (n : Name) (ns : List (Note Name)) → IsReached script w
    → honest a ≡ true → honest b ≡ true → link_at a b w.links ≡ Some l → l.notes ≡ Shorten n c i ∷ ns
    → (open_place script honest c i w.links ≡ None) × (gift_place script honest c i w.links ≡ Mid (Way a b) [] n)

-- opens the definitions of this file
unfoldable pub opened_letting : Unit {0}
unfolding lets_go once letting_in letting
opened_letting = tt
