-- How a name waits on the name that is its view.
use Rattle.std.specs.Prelude.{◌≡◌, ℕ, zero, suc, ◌<◌, true, false, List, [], ◌∷◌, Some}
use Rattle.def_machine.specs.Values.{Value, Naming}
use Rattle.def_machine.specs.State.{Standing, Viewed, Settled, Known}
use Rattle.def_machine.specs.Refs.{entry_of, standing_of}
use Rattle.law_fate.specs.Name.Names.{IsAmong}

-- it did not settle
abbrev pub IsOpen : {N : Type 0} → Standing N → Type 0
IsOpen {N} t = (y : Value N) → t ≡ Settled y → ⊥

module _ {N W : Type 0} (K : Naming N W) where
  -- how many names came to be known before that one
  unfoldable pub index_at : List (Known N) → N → ℕ
  index_at [] n = zero
  index_at (k ∷ ks) n = elim (K.same k.name n) [ true ↦ zero | false ↦ suc (index_at ks n) ]

  -- Name n waits on its view g: g came to be known later than n and did not settle, and n is among the names that wait on it.
  pub record Awaits (ks : List (Known N)) (n g : N) : Type 0 where
    pub entry : Known N
    pub found : entry_of K ks g ≡ Some entry
    pub pending : IsOpen entry.standing
    pub among : IsAmong n entry.waiting
    pub later : index_at ks n < index_at ks g

  -- each name that is viewed waits on its view
  abbrev pub ViewsWait : List (Known N) → Type 0
  ViewsWait ks = (n g : N) → standing_of K ks n ≡ Viewed g → Awaits ks n g
