-- The lines that end a run in the code are those that the run in numbers shows.
use Rattle.std.proofs.Common.{◌≡◌, ℕ, zero, suc, ◌+◌, List, [], ◌∷◌, ◌++◌, Some, length, refl, sym, ap, subst, ◌∙◌, arith}
use Rattle.std.specs.Prelude.{slice_get}
use Rattle.def_event.specs.declared.event.Event.{Event as ShownEvent}
use Rattle.def_event.specs.declared.event.Event.TheVariants as line
use Rattle.def_run.specs.Numbers.{Vats, close, left_members, left_ways}
use Rattle.def_run.specs.Vats.{Member}
use Rattle.def_run.specs.Shown.{shown_event}
use Rattle.def_run.specs.Text.{shown_events, vat_names}
use Rattle.def_run.specs.World.{Ends, Event, Script}
use Rattle.ev_resident.specs.Standing.{IsResident}
use Rattle.ev_resident.specs.declared.resident.Resident.{Resident}
use Rattle.ev_step_text.specs.Accounts.{IsAccount}
use Rattle.ev_step_text.specs.declared.account.Account.{Account}
use Rattle.ev_ways.proofs.Closing.{left_stands}
use Rattle.ev_ways.proofs.Cuts.{shown_join}
use Rattle.ev_ways.specs.Rows.{Lane}
use Rattle.ev_ways.specs.Telling.{left_frames, left_labels, left_row, left_rows}
use Rattle.ev_ways.specs.declared.frame.Frame.{Frame}
use Rattle.ev_world.specs.Closing.{all_left}
use Rattle.ev_world.specs.Standing.{Comes, IsWorld, told_so}
use Rattle.ev_world.specs.declared.world.World.{World}
use Rattle.ev_world.proofs.Cuts.{told_behind}
use Rattle.ev_world.proofs.Plain.{IsPlain, plain_join}
use Rattle.ev_world.proofs.Remains.{members_shown, vats_plain}

-- ---- what is left on ways has no frames

frames_plain : (v u : ℕ) (ks : List Frame) → IsPlain (left_frames v u ks)
unfolding left_labels left_frames
frames_plain v u [] = refl
frames_plain v u (k ∷ ks) = ap (λ (es : List ShownEvent). line.LeftLink v u k.note ∷ es) (frames_plain v u ks)

row_plain : (v u : ℕ) (ls : List Lane) → IsPlain (left_row v u ls)
unfolding left_row
row_plain v u [] = refl
row_plain v u (l ∷ ls) = plain_join (left_frames v u l.frames) (left_row v (suc u) ls) (frames_plain v u l.frames) (row_plain v (suc u) ls)

rows_plain : (v : ℕ) (rows : List (List Lane)) → IsPlain (left_rows v rows)
unfolding left_rows
rows_plain v [] = refl
rows_plain v (r ∷ rs) = plain_join (left_row v zero r) (left_rows (suc v) rs) (row_plain v zero r) (rows_plain (suc v) rs)

-- ---- the end

ends_shown : (ds : List ℕ) → shown_events ds (Ends ∷ []) ≡ line.End ∷ []
unfolding shown_events shown_event
ends_shown ds = refl

module _ (S : Script) (w : Vats) (c : World) (at : IsWorld S w c) where
  -- the lines of the steps, and then those of what is left
  abbrev steps : List ShownEvent
  steps = shown_events w.drawn w.history

  abbrev vats : List ShownEvent
  vats = all_left c.residents.items

  abbrev ways : List ShownEvent
  ways = left_rows zero c.ways

  residents_are : (i : ℕ) (m : Member) (r : Resident) → slice_get w.members i ≡ Some m → slice_get c.residents.items i ≡ Some r → IsResident S w (0 + i) m r
  residents_are i m r e f = let here : i ≡ 0 + i = omega arith in subst (λ (v : ℕ). IsResident S w v m r) here (at.residents i m r e f)

  vats_shown : shown_events w.drawn (left_members S w.members zero w.members) ≡ vats
  vats_shown = members_shown S w zero w.members c.residents.items (at.count ∙ sym at.members) residents_are

  abbrev whole : List Event
  whole = w.history ++ left_members S w.members zero w.members ++ left_ways S w.ways ++ Ends ∷ []

  whole_shown : shown_events w.drawn whole ≡ steps ++ vats ++ ways ++ line.End ∷ []
  whole_shown =
      let members : List Event = left_members S w.members zero w.members in
      let links : List Event = left_ways S w.ways in
      shown_join w.drawn (w.history ++ members ++ links) (Ends ∷ [])
      ∙ ap (λ (es : List ShownEvent). es ++ shown_events w.drawn (Ends ∷ [])) (shown_join w.drawn (w.history ++ members) links)
      ∙ ap (λ (es : List ShownEvent). es ++ shown_events w.drawn links ++ shown_events w.drawn (Ends ∷ [])) (shown_join w.drawn w.history members)
      ∙ ap (λ (es : List ShownEvent). steps ++ es ++ shown_events w.drawn links ++ shown_events w.drawn (Ends ∷ [])) vats_shown
      ∙ ap (λ (es : List ShownEvent). steps ++ vats ++ es ++ shown_events w.drawn (Ends ∷ [])) (left_stands S w.drawn (length S.vats) w.ways c.ways at.ways)
      ∙ ap (λ (es : List ShownEvent). steps ++ vats ++ ways ++ es) (ends_shown w.drawn)

  -- the account once the vats, the ways and the end are told
  pub closes : (last : Account) → ((names : List (List ℕ)) (es : List ShownEvent) → IsAccount names c.history es → IsAccount names last (((es ++ vats) ++ ways) ++ line.End ∷ []))
      → Comes (λ (y : Vats). IsAccount (vat_names S) last (told_so c.wire (shown_events y.drawn y.history))) (close S w)
  unfolding close
  closes last told =
      let first : List ShownEvent = told_so c.wire steps in
      let one : first ++ vats ≡ told_so c.wire (steps ++ vats) = told_behind c.wire first steps vats refl (vats_plain c.residents.items) in
      let two : (first ++ vats) ++ ways ≡ told_so c.wire (steps ++ vats ++ ways) = told_behind c.wire (first ++ vats) (steps ++ vats) ways one (rows_plain zero c.ways) in
      let three : ((first ++ vats) ++ ways) ++ line.End ∷ [] ≡ told_so c.wire (steps ++ vats ++ ways ++ line.End ∷ []) = told_behind c.wire ((first ++ vats) ++ ways) (steps ++ vats ++ ways) (line.End ∷ []) two refl in (
        record w { history = whole },
        (refl, subst (λ (es : List ShownEvent). IsAccount (vat_names S) last es) (three ∙ ap (told_so c.wire) (sym whole_shown)) (told (vat_names S) first at.history)),
      )
