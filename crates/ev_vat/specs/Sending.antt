-- Frames that are sent, without where they lie in memory.
use Rattle.std.specs.Prelude.{◌≡◌, ℕ, List, [], ◌∷◌, map}
use Rattle.def_op.specs.Frames.{IsOp, spelling}
use Rattle.def_run.specs.Numbers.{Addressed as Framed}
use Rattle.ev_vat.specs.declared.sending.Sending.{Sending}
use Rattle.ev_wire.specs.Putting.{Addressed}

-- bytes, and the vat that they are for
pub record Sent : Type 0 where
  pub to : ℕ
  pub bytes : List ℕ

abbrev pub sending_of : Sending → Sent
sending_of x = record { to = x.to; bytes = x.bytes }

-- the frame of an operation
abbrev pub packed : Addressed → Sent
packed x = record { to = x.to; bytes = spelling x.op }

-- each of these operations has a spelling
abbrev pub AllSpelled : List Addressed → Type 0
AllSpelled [] = Unit {0}
AllSpelled (x ∷ xs) = IsOp x.op × AllSpelled xs

-- what is sent are the frames of these operations, and each has a spelling
pub record AreSent (ops : List Addressed) (xs : List Sending) : Type 0 where
  pub frames : map sending_of xs ≡ map packed ops
  pub fits : AllSpelled ops

-- the frame of a note in the machine's run in numbers
abbrev pub spelled : Framed → Sent
spelled x = record { to = x.to; bytes = spelling x.frame.op }

-- each of these frames is of an operation that has a spelling
abbrev pub AreOps : List Framed → Type 0
AreOps [] = Unit {0}
AreOps (x ∷ xs) = IsOp x.frame.op × AreOps xs
