-- What a history tells of frames that are lost, and of those that are left at the end.
use Rattle.std.specs.Prelude.{ℕ, zero, suc, List, [], ◌∷◌, ◌++◌, Option, Some, None, map}
use Rattle.ev_base.specs.declared.names.Msg.{Msg}
use Rattle.def_event.specs.declared.event.Event.{Event}
use Rattle.def_event.specs.declared.event.Event.TheVariants.{LostCut, LeftLink}
use Rattle.ev_ways.specs.declared.frame.Frame.{Frame}
use Rattle.ev_ways.specs.declared.frame.Label.{Label}
use Rattle.ev_ways.specs.Labels.{label_of}
use Rattle.ev_ways.specs.Rows.{Lane}

-- ---- lost

unfoldable pub lost_event : Option Msg → List Event
lost_event None = []
lost_event (Some m) = LostCut m ∷ []

-- of each frame the message that it brings, if one
unfoldable pub lost_labels : List Label → List Event
lost_labels [] = []
lost_labels (l ∷ ls) = lost_event l.message ++ lost_labels ls

unfoldable pub lost_events : List Frame → List Event
lost_events ks = lost_labels (map label_of ks)

-- ---- left

unfoldable pub left_labels : ℕ → ℕ → List Label → List Event
left_labels v u [] = []
left_labels v u (l ∷ ls) = LeftLink v u l.note ∷ left_labels v u ls

unfoldable pub left_frames : ℕ → ℕ → List Frame → List Event
left_frames v u ks = left_labels v u (map label_of ks)

-- on the ways from vat v, from vat u on
unfoldable pub left_row : ℕ → ℕ → List Lane → List Event
left_row v u [] = []
left_row v u (l ∷ ls) = left_frames v u l.frames ++ left_row v (suc u) ls

-- on all ways from vat v and on
unfoldable pub left_rows : ℕ → List (List Lane) → List Event
left_rows v [] = []
left_rows v (r ∷ rs) = left_row v zero r ++ left_rows (suc v) rs

-- opens each definition of this file
unfoldable pub opened_telling : Unit {0}
unfolding lost_event lost_labels lost_events left_labels left_frames left_row left_rows
opened_telling = tt
