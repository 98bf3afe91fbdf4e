-- Which names may stand in a note or in a connection, where names are changed.
use Rattle.std.proofs.Common.{◌≡◌, Bool, true, List, [], ◌∷◌, map}
use Rattle.def_machine.specs.Values.{Value, Ref}
use Rattle.def_machine.specs.State.{Passed, Passeds, Plain, AGift, Many, NoMore, More, Note, Deliver, Open, Ask, SettledTo, Elsewhere, Shorten}
use Rattle.def_run.specs.Connections.{Connection}
use Rattle.law_fate.specs.Name.Names.{AllOf}
use Rattle.def_machine.specs.Maps as maps
use Rattle.law_frame.specs.Frame.Together.{ValueMay, PassedMay, AllMay, NoteMay, TablesMay, changed_tables}

-- what may be after the change may be before it
module _ {N M : Type 0} (f : N → M) (P : N → Bool) (Q : M → Bool) (back : (n : N) → Q (f n) ≡ true → P n ≡ true) where
  value_back : (y : Value N) → ValueMay Q (maps.value f y) → ValueMay P y
  value_back (Ref n) h = back n h
  value_back other h = tt

  mutual
    passed_back : (y : Passed N) → PassedMay Q (maps.passed f y) → PassedMay P y
    passed_back (Plain y) h = value_back y h
    passed_back (AGift a i) h = tt
    passed_back (Many ys) h = all_back ys h

    all_back : (ys : Passeds N) → AllMay Q (maps.passeds f ys) → AllMay P ys
    all_back NoMore h = tt
    all_back (More y ys) h = (passed_back y h.0, all_back ys h.1)

  pub note_back : (n : Note N) → NoteMay Q (maps.note f n) → NoteMay P n
  note_back (Deliver d n verb ys) h = (back n h.0, all_back ys h.1)
  note_back (Open i n) h = back n h
  note_back (Ask p i n) h = tt
  note_back (SettledTo n y) h = (back n h.0, passed_back y h.1)
  note_back (Elsewhere n c) h = back n h
  note_back (Shorten n c i) h = back n h

  list_back : (ns : List N) → AllOf (λ m. Q m ≡ true) (map f ns) → AllOf (λ n. P n ≡ true) ns
  list_back [] h = tt
  list_back (n ∷ ns) h = (back n h.0, list_back ns h.1)

  pub tables_back : (c : Connection N) → TablesMay Q (changed_tables f c) → TablesMay P c
  tables_back c h = record { exports = list_back c.exports h.exports; imports = list_back c.imports h.imports; questions = list_back c.questions h.questions; answers = list_back c.answers h.answers }

-- and what may be before it may be after it
module _ {N M : Type 0} (f : N → M) (P : N → Bool) (Q : M → Bool) (on : (n : N) → P n ≡ true → Q (f n) ≡ true) where
  value_on : (y : Value N) → ValueMay P y → ValueMay Q (maps.value f y)
  value_on (Ref n) h = on n h
  value_on other h = tt

  mutual
    passed_on : (y : Passed N) → PassedMay P y → PassedMay Q (maps.passed f y)
    passed_on (Plain y) h = value_on y h
    passed_on (AGift a i) h = tt
    passed_on (Many ys) h = all_on ys h

    all_on : (ys : Passeds N) → AllMay P ys → AllMay Q (maps.passeds f ys)
    all_on NoMore h = tt
    all_on (More y ys) h = (passed_on y h.0, all_on ys h.1)

  pub note_on : (n : Note N) → NoteMay P n → NoteMay Q (maps.note f n)
  note_on (Deliver d n verb ys) h = (on n h.0, all_on ys h.1)
  note_on (Open i n) h = on n h
  note_on (Ask p i n) h = tt
  note_on (SettledTo n y) h = (on n h.0, passed_on y h.1)
  note_on (Elsewhere n c) h = on n h
  note_on (Shorten n c i) h = on n h

  list_on : (ns : List N) → AllOf (λ n. P n ≡ true) ns → AllOf (λ m. Q m ≡ true) (map f ns)
  list_on [] h = tt
  list_on (n ∷ ns) h = (on n h.0, list_on ns h.1)

  pub tables_on : (c : Connection N) → TablesMay P c → TablesMay Q (changed_tables f c)
  tables_on c h = record { exports = list_on c.exports h.exports; imports = list_on c.imports h.imports; questions = list_on c.questions h.questions; answers = list_on c.answers h.answers }
