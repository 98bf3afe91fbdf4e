-- The items of the bytes that spell an operation, without their places.
use Rattle.std.specs.Prelude.{ℕ, true, false, List, [], ◌∷◌, ◌++◌}
use Rattle.def_op.specs.declared.op.Plain.{Plain}
use Rattle.def_op.specs.declared.op.Plain.TheVariants as plain
use Rattle.def_op.specs.declared.spots.Part.{Part}
use Rattle.def_op.specs.declared.spots.Part.TheVariants.{Code, Number, Vat, Swiss, Other}
use Rattle.def_op.specs.Frames.{Described, Datum, ListOf, Broken, YourExport, YourAnswer, MyExport, MyPromise, Third, MyAnswer, Members, none, more, count, Outcome, To, Elsewhere, Operation, Deliver, Resolve, Provide, Accept, Shorten, DeliverOnly}

unfoldable pub plain_code : Plain → ℕ
plain_code plain.Null = 0
plain_code (plain.Bool false) = 1
plain_code (plain.Bool true) = 2
plain_code (plain.Int z) = 3
plain_code (plain.Char c) = 4
plain_code (plain.Text text) = 5
plain_code (plain.Prim p) = 7

unfoldable pub plain_parts : Plain → List Part
plain_parts plain.Null = []
plain_parts (plain.Bool b) = []
plain_parts (plain.Int z) = Other ∷ []
plain_parts (plain.Char c) = Number c ∷ []
plain_parts (plain.Text text) = Other ∷ []
plain_parts (plain.Prim p) = Number p ∷ []

-- the first byte of a description
unfoldable pub first_code : Described → ℕ
first_code (Datum p) = plain_code p
first_code (ListOf ds) = 6
first_code (Broken text) = 8
first_code (YourExport n) = 9
first_code (YourAnswer n) = 10
first_code (MyExport n) = 11
first_code (MyPromise n) = 12
first_code (Third host s) = 13
first_code (MyAnswer n) = 14

unfoldable mutual
  -- what stands behind it
  pub parts_behind : Described → List Part
  parts_behind (Datum p) = plain_parts p
  parts_behind (ListOf ds) = Number (count ds) ∷ parts_all ds
  parts_behind (Broken text) = Other ∷ []
  parts_behind (YourExport n) = Number n ∷ []
  parts_behind (YourAnswer n) = Number n ∷ []
  parts_behind (MyExport n) = Number n ∷ []
  parts_behind (MyPromise n) = Number n ∷ []
  parts_behind (Third host s) = Vat host ∷ Swiss s ∷ []
  parts_behind (MyAnswer n) = Number n ∷ []

  pub parts_all : Members → List Part
  parts_all none = []
  parts_all (more d ds) = Code (first_code d) ∷ (parts_behind d ++ parts_all ds)

abbrev pub parts_in : Described → List Part
parts_in d = Code (first_code d) ∷ parts_behind d

unfoldable pub parts_outcome : Outcome → List Part
parts_outcome (To d) = parts_in d
parts_outcome (Elsewhere host) = Code 15 ∷ Vat host ∷ []

abbrev pub parts_message : Described → Members → List Part
parts_message target args = parts_in target ++ (Other ∷ Number (count args) ∷ parts_all args)

unfoldable pub parts_op : Operation → List Part
parts_op (Deliver q target verb args) = Code 1 ∷ Number q ∷ parts_message target args
parts_op (Resolve subject to) = Code 2 ∷ (parts_in subject ++ parts_outcome to)
parts_op (Provide target s) = Code 3 ∷ (parts_in target ++ (Swiss s ∷ []))
parts_op (Accept q provider s) = Code 4 ∷ Number q ∷ Vat provider ∷ Swiss s ∷ []
parts_op (Shorten subject s) = Code 5 ∷ (parts_in subject ++ (Swiss s ∷ []))
parts_op (DeliverOnly target verb args) = Code 6 ∷ parts_message target args
