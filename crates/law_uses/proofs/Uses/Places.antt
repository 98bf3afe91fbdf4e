-- The lines of a step of a vat have its place.
use Rattle.std.proofs.Common.{◌≡◌, ℕ, ◌+◌, Bool, true, false, List, [], ◌∷◌, ◌++◌, Option, Some, None, refl, ap, ◌∙◌, subst}
use Rattle.def_machine.specs.Values.{Value, Name}
use Rattle.def_machine.specs.State.{Message, Note, Happened, Sends, Reacts, Posted}
use Rattle.def_run.specs.World as world
use Rattle.def_run.specs.World.{Event, Opens, Turned, Carried, NoticedAt, LostCut, Link}
use Rattle.def_run.specs.Shown as show
use Rattle.def_run.specs.Text.{shown_events}
use Rattle.law_fate.proofs.Fates.RunCounts.{pick}
use Rattle.law_uses.specs.Connectivity.Known.{AllOf}
use Rattle.def_event.specs.Uses.{Line, and_lines, place_after, place_of}
use Rattle.law_uses.proofs.Uses.Lines.{lines_join}
use Rattle.law_uses.proofs.Uses.Shown.{lines, shown_join}

module _ (draws : List ℕ) where
  -- the line of an event has the place of the line before it
  abbrev pub KeepsPlace : Event → Type 0
  KeepsPlace e = (past : List Line) → place_of (and_lines past (show.shown_event draws e)) ≡ place_of past

  send_keeps : (v a : ℕ) (m : Message Name) (o : Option Name) (past : List Line) → place_of (and_lines past (show.shown_send draws v a m o ∷ [])) ≡ place_of past
  unfolding show.shown_send place_after
  send_keeps v a m (Some n) past = refl
  send_keeps v a m None past = refl

  reaction_keeps : (v a : ℕ) (x y : Value Name) (m : Message Name) (o : Option Name) (past : List Line) → place_of (and_lines past (show.shown_reaction draws v a x y m o)) ≡ place_of past
  unfolding show.shown_reaction place_after
  reaction_keeps v a x y m (Some n) past = refl
  reaction_keeps v a x y m None past = refl

  happened_keeps : (v : ℕ) (e : Happened Name) (past : List Line) → place_of (and_lines past (show.shown_happened draws v e)) ≡ place_of past
  unfolding show.shown_happened place_after
  happened_keeps v (Sends a m) past = send_keeps v a m m.answer past
  happened_keeps v (Reacts a x o m) past = reaction_keeps v a x o m m.answer past
  happened_keeps v (Posted w m) past = refl
  happened_keeps v _ past = refl

  lost_keeps : (m : Name) (b : Bool) → AllOf KeepsPlace (pick b (LostCut m ∷ []) [])
  unfolding show.shown_event place_after
  lost_keeps m true = ((λ past. refl), tt)
  lost_keeps m false = tt

  event_keeps : (ls : List Link) (v : ℕ) (e : Happened Name) → AllOf KeepsPlace (world.event_of ls v e)
  unfolding world.event_of show.shown_event show.shown_happened place_after
  event_keeps ls v (Posted w m) = lost_keeps m (world.is_cut v w ls)
  event_keeps ls v (Sends a m) = ((λ past. send_keeps v a m m.answer past), tt)
  event_keeps ls v (Reacts a x o m) = ((λ past. reaction_keeps v a x o m m.answer past), tt)
  event_keeps ls v _ = ((λ past. refl), tt)

  all_join : (xs ys : List Event) → AllOf KeepsPlace xs → AllOf KeepsPlace ys → AllOf KeepsPlace (xs ++ ys)
  all_join [] ys h k = k
  all_join (x ∷ xs) ys h k = (h.0, all_join xs ys h.1 k)

  all_front : (xs ys : List Event) → AllOf KeepsPlace (xs ++ ys) → AllOf KeepsPlace xs
  all_front [] ys h = tt
  all_front (x ∷ xs) ys h = (h.0, all_front xs ys h.1)

  events_keep : (ls : List Link) (v : ℕ) (es : List (Happened Name)) → AllOf KeepsPlace (world.events_of ls v es)
  unfolding world.events_of
  events_keep ls v [] = tt
  events_keep ls v (e ∷ es) = all_join (world.event_of ls v e) (world.events_of ls v es) (event_keeps ls v e) (events_keep ls v es)

  all_keep : (es : List Event) (past : List Line) → AllOf KeepsPlace es → place_of (and_lines past (shown_events draws es)) ≡ place_of past
  unfolding shown_events
  all_keep [] past h = refl
  all_keep (e ∷ es) past h = ap place_of (lines_join past (show.shown_event draws e) (shown_events draws es)) ∙ all_keep es (and_lines past (show.shown_event draws e)) h.1 ∙ h.0 past

  -- Behind the line that tells of a step of vat v come lines that keep its place.
  pub step_place : (ls : List Link) (v : ℕ) (hs : List Event) (e : Event) (es : List (Happened Name)) (gs ks : List Event) → ((past : List Line) → place_of (and_lines past (show.shown_event draws e)) ≡ v + 1) → world.events_of ls v es ≡ gs ++ ks
      → place_of (lines draws (hs ++ e ∷ gs)) ≡ v + 1
  unfolding shown_events
  step_place ls v hs e es gs ks at q = ap (λ r. place_of (and_lines [] r)) (shown_join draws hs (e ∷ gs)) ∙ ap place_of (lines_join [] (shown_events draws hs) (show.shown_event draws e ++ shown_events draws gs))
      ∙ ap place_of (lines_join (and_lines [] (shown_events draws hs)) (show.shown_event draws e) (shown_events draws gs))
      ∙ all_keep gs (and_lines (and_lines [] (shown_events draws hs)) (show.shown_event draws e)) (all_front gs ks (subst (AllOf KeepsPlace) q (events_keep ls v es))) ∙ at (and_lines [] (shown_events draws hs))

  -- ---- the line that tells of a step

  pub opens_place : (v : ℕ) (past : List Line) → place_of (and_lines past (show.shown_event draws (Opens v))) ≡ v + 1
  unfolding show.shown_event place_after
  opens_place v past = refl

  pub turned_place : (k v : ℕ) (past : List Line) → place_of (and_lines past (show.shown_event draws (Turned k v))) ≡ v + 1
  unfolding show.shown_event place_after
  turned_place k v past = refl

  pub noticed_place : (k v u : ℕ) (past : List Line) → place_of (and_lines past (show.shown_event draws (NoticedAt k v u))) ≡ v + 1
  unfolding show.shown_event place_after
  noticed_place k v u past = refl

  pub carried_place : (k u v : ℕ) (n : Note Name) (bytes : List ℕ) (past : List Line) → place_of (and_lines past (show.shown_event draws (Carried k u v n bytes))) ≡ v + 1
  unfolding show.shown_event place_after
  carried_place k u v n bytes past = refl
