-- When the gifts that a note brings are new to the vat where it arrives.
use Rattle.std.specs.Prelude.{◌≡◌, ℕ, ◌+◌, ◌≤◌, List, ◌∷◌, ◌⊎◌, Some, slice_get}
use Rattle.def_machine.specs.Values.{Value, Null, Flag, Number, Letter, Text, Prim, Broken, Items, Ref, Name, Gift}
use Rattle.def_machine.specs.State.{Passed, Passeds, Plain, AGift, Many, NoMore, More, Note, Deliver, Open, Ask, SettledTo, Elsewhere, Shorten, Vat}
use Rattle.def_run.specs.World.{Link, link_at, read_note, names_of}
use Rattle.law_fate.specs.Name.Names.{IsAmong, names_in}
use Rattle.law_fate.specs.Name.Runs.{InRuns}
use Rattle.law_reference.specs.Reference.Standing.{IsEntered}
use Rattle.law_reference.specs.Reference.Knowing.{claims}
use Rattle.law_reference.specs.Reference.NameTableRuns.{allowed, brings_here}

module _ (x : Name) where
  -- x passes as a gift, in what passes and in a note
  abbrev mutual
    pub IsPassed : Passed Name → Type 0
    IsPassed (Plain y) = ⊥
    IsPassed (AGift h i) = Gift h i ≡ x
    IsPassed (Many ys) = IsPassedIn ys

    pub IsPassedIn : Passeds Name → Type 0
    IsPassedIn NoMore = ⊥
    IsPassedIn (More y ys) = IsPassed y ⊎ IsPassedIn ys

  abbrev pub Passes : Note Name → Type 0
  Passes (Deliver m n verb ys) = IsPassedIn ys
  Passes (SettledTo n y) = IsPassed y
  Passes (Open i n) = ⊥
  Passes (Ask p i n) = ⊥
  Passes (Elsewhere n c) = ⊥
  Passes (Shorten n c i) = ⊥

  abbrev pub IsRefTo : Value Name → Type 0
  IsRefTo (Ref n) = n ≡ x
  IsRefTo Null = ⊥
  IsRefTo (Flag b) = ⊥
  IsRefTo (Number z) = ⊥
  IsRefTo (Letter c) = ⊥
  IsRefTo (Text t) = ⊥
  IsRefTo (Prim n) = ⊥
  IsRefTo (Broken p) = ⊥
  IsRefTo (Items k) = ⊥

  -- x is named, in what passes and in a note; who asks for a gift names it for itself alone
  abbrev mutual
    pub IsNamed : Passed Name → Type 0
    IsNamed (Plain y) = IsRefTo y
    IsNamed (AGift h i) = ⊥
    IsNamed (Many ys) = IsNamedIn ys

    pub IsNamedIn : Passeds Name → Type 0
    IsNamedIn NoMore = ⊥
    IsNamedIn (More y ys) = IsNamed y ⊎ IsNamedIn ys

  abbrev pub Names : Note Name → Type 0
  Names (Deliver m n verb ys) = (n ≡ x) ⊎ IsNamedIn ys
  Names (Open i n) = n ≡ x
  Names (Ask p i n) = ⊥
  Names (SettledTo n y) = (n ≡ x) ⊎ IsNamed y
  Names (Elsewhere n c) = n ≡ x
  Names (Shorten n c i) = n ≡ x

-- A gift that passes in the note is neither known to the vat nor named in the note; and a gift of the vat's own that it knows, or that the note names, stands there.
pub record GiftsApart (to : ℕ) (n : Note Name) (s : Vat Name) : Type 0 where
  pub unknown : (h i : ℕ) → Passes (Gift h i) n → IsAmong (Gift h i) (names_in s.known) → ⊥
  pub unnamed : (h i : ℕ) → Passes (Gift h i) n → Names (Gift h i) n → ⊥
  pub entered : (i : ℕ) → IsAmong (Gift to i) (names_in s.known) → IsEntered i s.gifts
  pub behind : (i : ℕ) → Names (Gift to i) n → IsEntered i s.gifts

-- Then the first note on a link brings each gift once at most, and none that is claimed at the vat, where each gift is claimed there as often as it may be.
abbrev pub GiftsApartComeNew : Type 0
GiftsApartComeNew = InRuns (λ w. (from to : ℕ) (l : Link) (n : Note Name) (ns : List (Note Name)) (s : Vat Name) → link_at from to w.links ≡ Some l → l.notes ≡ n ∷ ns → slice_get w.vats to ≡ Some s → GiftsApart to n s
    → (h i : ℕ) → claims to (Gift h i) s.known ≤ allowed to (Gift h i) s w.drawn
    → claims to (Gift h i) s.known + brings_here to (Gift h i) from s.gifts (read_note (names_of s) n) ≤ allowed to (Gift h i) s w.drawn)
