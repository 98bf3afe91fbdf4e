-- The frames that a step puts.
use Rattle.std.specs.Prelude.{◌≡◌, ℕ, List, [], ◌∷◌}
use Rattle.def_run.specs.Numbers.{Addressed as Framed}
use Rattle.ev_vat.specs.declared.sending.Sending.{Sending}
use Rattle.ev_resident.specs.Noting.{Noting}
use Rattle.ev_resident.specs.Notes.{frame_by}
use Rattle.ev_pass.specs.Notes.{Sent}
use Rattle.ev_resident.specs.declared.outgoing.Outgoing.{Outgoing}
use Rattle.ev_ways.specs.Standing.{IsFrame}

-- ---- what the code makes

-- the frame of what was put, in these bytes
abbrev pub outgoing_by : Noting → Sent → Sending → Outgoing
outgoing_by n p x = record { to = x.to; frame = frame_by n x.to p.note x.bytes }

-- the frames of what was put, in order, in these bytes
unfoldable pub all_outgoing : Noting → List Sending → List Sent → List Outgoing
all_outgoing n [] ps = []
all_outgoing n (x ∷ xs) [] = []
all_outgoing n (x ∷ xs) (p ∷ ps) = outgoing_by n p x ∷ all_outgoing n xs ps

-- ---- what they are

-- it goes to that vat, and its frame stands for that of the run, where these words were drawn
pub record IsOutgoing (ds : List ℕ) (x : Framed) (y : Outgoing) : Type 0 where
  pub to : y.to ≡ x.to
  pub frame : IsFrame ds x.to x.frame y.frame

-- one after the other
abbrev pub AreOutgoing : List ℕ → List Framed → List Outgoing → Type 0
AreOutgoing ds [] [] = Unit {0}
AreOutgoing ds (x ∷ xs) (y ∷ ys) = IsOutgoing ds x y × AreOutgoing ds xs ys
AreOutgoing ds [] (y ∷ ys) = ⊥
AreOutgoing ds (x ∷ xs) [] = ⊥
