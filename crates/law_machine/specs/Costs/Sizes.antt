-- How much a vat has made, and how much a note brings.
use Rattle.std.specs.Prelude.{ℕ, zero, suc, ◌+◌, List, [], ◌∷◌, length}
use Rattle.def_machine.specs.State.{Passed, Passeds, Plain, AGift, Many, NoMore, More, Note, Deliver, Open, Ask, SettledTo, Elsewhere, Shorten, Vat}

-- so many lists, and their members
abbrev pub spread : {A : Type 0} → List (List A) → ℕ
spread [] = zero
spread (x ∷ xs) = suc (length x + spread xs)

-- things, var slots, lists and their members, activations, messages and promises
unfoldable pub made : {N : Type 0} → Vat N → ℕ
made s = length s.things + (length s.slots + (spread s.lists + (s.activations + (s.messages + s.promises))))

-- the lists in a value that passes, and what is in them
abbrev mutual
  pub load : {N : Type 0} → Passed N → ℕ
  load (Plain y) = 1
  load (AGift h i) = 1
  load (Many ys) = suc (loads ys)

  pub loads : {N : Type 0} → Passeds N → ℕ
  loads NoMore = zero
  loads (More y ys) = load y + loads ys

abbrev pub note_load : {N : Type 0} → Note N → ℕ
note_load (Deliver d n verb ys) = loads ys
note_load (Open i n) = zero
note_load (Ask p i n) = zero
note_load (SettledTo n y) = load y
note_load (Elsewhere n c) = zero
note_load (Shorten n c i) = zero
