-- When the ways that are kept stand for those of the run in numbers.
use Rattle.std.specs.Prelude.{◌≡◌, ℕ, zero, suc, Bool, true, false, List, [], ◌∷◌, ◌++◌, Option, Some, None, length, slice_get, ◌==◌}
use Rattle.ev_base.specs.declared.names.Msg.{Msg as ShownMsg}
use Rattle.def_op.specs.Frames.{IsOp, spelling}
use Rattle.def_machine.specs.Values.{Name, Sent}
use Rattle.def_machine.specs.State.{Note, Deliver, Open, Ask, SettledTo, Elsewhere, Shorten}
use Rattle.def_run.specs.Shown.{shown_msg, shown_note}
use Rattle.def_run.specs.Numbers.{Way, carried_in}
use Rattle.def_run.specs.Numbers.{Frame as Carrying}
use Rattle.ev_ways.specs.declared.frame.Frame.{Frame}
use Rattle.ev_ways.specs.Rows.{Lane, fresh}

-- ---- frames

-- the message as it prints, if one
unfoldable pub told_message : List ℕ → List Name → Option ShownMsg
told_message ds [] = None
told_message ds (m ∷ ms) = Some (shown_msg ds m)

-- the message as it is named, if one
abbrev pub named_message : Option ShownMsg → List Name
named_message None = []
named_message (Some m) = Sent (record { sender = m.sender; number = m.number }) ∷ []

-- whether a note brings a message that asks for an answer
unfoldable pub asks_in : Note Name → Bool
asks_in (Deliver d n verb ys) = d.asks
asks_in (Open i n) = false
asks_in (Ask p i n) = false
asks_in (SettledTo n y) = false
asks_in (Elsewhere n c) = false
asks_in (Shorten n c i) = false

-- frame k stands for frame x on a way to vat u, where these words were drawn
pub record IsFrame (ds : List ℕ) (u : ℕ) (x : Carrying) (k : Frame) : Type 0 where
  pub spelled : k.bytes ≡ spelling x.op
  pub fits : IsOp x.op
  pub told : k.note ≡ shown_note ds u x.note
  pub brought : k.message ≡ told_message ds (carried_in x.note)
  pub named : carried_in x.note ≡ named_message k.message
  pub asking : k.asks ≡ asks_in x.note

-- one after the other
abbrev pub AreFrames : List ℕ → ℕ → List Carrying → List Frame → Type 0
AreFrames ds u [] [] = Unit {0}
AreFrames ds u (x ∷ xs) (k ∷ ks) = IsFrame ds u x k × AreFrames ds u xs ks
AreFrames ds u [] (k ∷ ks) = ⊥
AreFrames ds u (x ∷ xs) [] = ⊥

-- ---- ways

-- a way with its ends
pub record Placed : Type 0 where
  pub from : ℕ
  pub to : ℕ
  pub lane : Lane

-- the ways from vat v, those to vat u and on; it has none to itself
unfoldable pub placed_to : ℕ → ℕ → List Lane → List Placed
placed_to v u [] = []
placed_to v u (l ∷ ls) = elim (v == u) [ true ↦ placed_to v (suc u) ls | false ↦ record { from = v; to = u; lane = l } ∷ placed_to v (suc u) ls ]

-- the ways from vat v and on, in order
unfoldable pub placed_from : ℕ → List (List Lane) → List Placed
placed_from v [] = []
placed_from v (r ∷ rs) = placed_to v zero r ++ placed_from (suc v) rs

pub record IsWay (ds : List ℕ) (l : Way) (p : Placed) : Type 0 where
  pub sender : p.from ≡ l.from
  pub receiver : p.to ≡ l.to
  pub is_cut : p.lane.is_cut ≡ l.cut
  pub under_way : AreFrames ds l.to l.frames p.lane.frames

abbrev pub AreWays : List ℕ → List Way → List Placed → Type 0
AreWays ds [] [] = Unit {0}
AreWays ds (l ∷ ls) (p ∷ ps) = IsWay ds l p × AreWays ds ls ps
AreWays ds [] (p ∷ ps) = ⊥
AreWays ds (l ∷ ls) [] = ⊥

-- The rows stand for these ways of n vats, where these words were drawn: each row has a way for each vat, and that of a vat to itself is
-- unused.
pub record WaysStand (ds : List ℕ) (n : ℕ) (ls : List Way) (rows : List (List Lane)) : Type 0 where
  pub ways : AreWays ds ls (placed_from zero rows)
  pub senders : length rows ≡ n
  pub receivers : (v : ℕ) (r : List Lane) → slice_get rows v ≡ Some r → length r ≡ n
  pub unused : (v : ℕ) (r : List Lane) (l : Lane) → slice_get rows v ≡ Some r → slice_get r v ≡ Some l → l ≡ fresh

-- opens each definition of this file
unfoldable pub opened_standing : Unit {0}
unfolding told_message asks_in placed_to placed_from
opened_standing = tt
