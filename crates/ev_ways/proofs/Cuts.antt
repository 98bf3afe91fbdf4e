-- A link is cut on both sides.
use Rattle.std.proofs.Common.{◌≡◌, ℕ, zero, suc, Bool, true, false, List, [], ◌∷◌, ◌++◌, Option, Some, None, refl, sym, ap, ◌∙◌, map}
use Rattle.std.specs.Prelude.{◌==◌, slice_get, if◌then◌else◌}
use Rattle.std.proofs.lemmas.Bool.{eq-eqb}
use Rattle.std.proofs.lemmas.List.{append_assoc}
use Rattle.def_event.specs.declared.event.Event.{Event as ShownEvent}
use Rattle.def_machine.specs.Values.{Name}
use Rattle.def_machine.specs.State.{Note, Deliver, Open, Ask, SettledTo, Elsewhere, Shorten}
use Rattle.def_run.specs.Shown.{shown_event}
use Rattle.def_run.specs.Text.{shown_events}
use Rattle.def_run.specs.World.{Event, LostCut}
use Rattle.def_run.specs.Numbers as numbers
use Rattle.def_run.specs.Numbers.{Way, way_at, with_way, carried_in, lost_frames, lost_on}
use Rattle.def_run.specs.Numbers.{Frame as Carrying}
use Rattle.ev_ways.specs.declared.frame.Frame.{Frame}
use Rattle.ev_ways.specs.Rows.{Lane, changed, changed_from, frames_at, frames_to, row_at, row_of, set_found, severed, with_at}
use Rattle.ev_ways.specs.Standing.{Placed, AreFrames, IsWay, WaysStand, placed_from, told_message}
use Rattle.ev_ways.specs.Statements.{CutStands}
use Rattle.ev_ways.specs.Telling.{lost_event, lost_events, lost_labels}
use Rattle.ev_ways.proofs.Places.{on, placed_at}
use Rattle.ev_ways.proofs.Stands.{MayStand, finds, changes_stand}
use Rattle.ev_ways.proofs.Looks.{of_place, frames_found}

-- ---- what is told of lost frames

pub shown_join : (ds : List ℕ) (es fs : List Event) → shown_events ds (es ++ fs) ≡ shown_events ds es ++ shown_events ds fs
unfolding shown_events
shown_join ds [] fs = refl
shown_join ds (e ∷ es) fs = ap (λ (xs : List ShownEvent). shown_event ds e ++ xs) (shown_join ds es fs) ∙ sym (append_assoc (shown_event ds e) (shown_events ds es) (shown_events ds fs))

note_lost : (ds : List ℕ) (n : Note Name) (es : List Event) → shown_events ds (map LostCut (carried_in n) ++ es) ≡ lost_event (told_message ds (carried_in n)) ++ shown_events ds es
unfolding carried_in shown_events shown_event told_message lost_event
note_lost ds (Deliver d n verb ys) es = refl
note_lost ds (Open i n) es = refl
note_lost ds (Ask p i n) es = refl
note_lost ds (SettledTo n y) es = refl
note_lost ds (Elsewhere n c) es = refl
note_lost ds (Shorten n c i) es = refl

pub frames_lost : (ds : List ℕ) (u : ℕ) (xs : List Carrying) (ks : List Frame) → AreFrames ds u xs ks → shown_events ds (lost_frames xs) ≡ lost_events ks
unfolding lost_frames lost_labels lost_events shown_events
frames_lost ds u [] [] h = refl
frames_lost ds u (x ∷ xs) (k ∷ ks) h =
    note_lost ds x.note (lost_frames xs)
    ∙ (ap (λ (es : List ShownEvent). lost_event (told_message ds (carried_in x.note)) ++ es) (frames_lost ds u xs ks h.1)
    ∙ ap (λ o. lost_event o ++ lost_events ks) (sym h.0.brought))
frames_lost ds u [] (k ∷ ks) h = absurd h
frames_lost ds u (x ∷ xs) [] h = absurd h

lost_of : (ds : List ℕ) (v u : ℕ) (o : Option Way) (q : Option Placed) → MayStand ds v u o q → shown_events ds (lost_on o) ≡ lost_events (of_place [] (λ (l : Lane). l.frames) q)
unfolding lost_on lost_labels lost_events shown_events
lost_of ds v u None None h = refl
lost_of ds v u (Some l) (Some p) h = frames_lost ds l.to l.frames p.lane.frames h.stands.under_way
lost_of ds v u None (Some p) h = absurd h
lost_of ds v u (Some l) None h = absurd h

pub way_lost : (ds : List ℕ) (n v u : ℕ) (ls : List Way) (ways : List (List Lane)) → WaysStand ds n ls ways → shown_events ds (lost_on (way_at v u ls)) ≡ lost_events (frames_at v u ways)
way_lost ds n v u ls ways h = lost_of ds v u (way_at v u ls) (placed_at v u (placed_from zero ways)) (finds ds v u ls (placed_from zero ways) h.ways) ∙ ap lost_events (sym (frames_found v u ways))

-- ---- the way back stays as it was

module _ {A : Type 0} (f : A → A) where
  past_of : (i j : ℕ) (xs : List A) (o : Option A) → (i ≡ j → ⊥) → slice_get (set_found f i xs o) j ≡ slice_get xs j
  unfolding set_found
  past_of i j xs None n = refl
  past_of i j [] (Some x) n = refl
  past_of zero zero (z ∷ zs) (Some x) n = absurd (n refl)
  past_of zero (suc j) (z ∷ zs) (Some x) n = refl
  past_of (suc i) zero (z ∷ zs) (Some x) n = refl
  past_of (suc i) (suc j) (z ∷ zs) (Some x) n = past_of i j zs (Some x) (λ e. n (ap suc e))

  pub past : (i j : ℕ) (xs : List A) → (i ≡ j → ⊥) → slice_get (with_at f i xs) j ≡ slice_get xs j
  unfolding with_at
  past i j xs n = past_of i j xs (slice_get xs i) n

back_or : (g : Lane → Lane) (v u : ℕ) (ways : List (List Lane)) (b c : Bool) → (v == u) ≡ b → (u == v) ≡ c
    → (if c then [] else frames_to v (row_at u (if b then ways else changed_from g v u ways))) ≡ (if c then [] else frames_to v (row_at u ways))
unfolding row_at changed_from
back_or g v u ways true c e f = refl
back_or g v u ways false true e f = refl
back_or g v u ways false false e f = ap (λ (o : Option (List Lane)). frames_to v (row_of o)) (past (λ (r : List Lane). with_at g u r) v u ways (λ i. let t : true ≡ false = sym (eq-eqb v u i) ∙ e in cc))

pub way_back : (g : Lane → Lane) (v u : ℕ) (ways : List (List Lane)) → frames_at u v (changed g v u ways) ≡ frames_at u v ways
unfolding frames_at changed
way_back g v u ways = back_or g v u ways (v == u) (u == v) refl refl

-- ---- the cut

way_cut : (ds : List ℕ) (l : Way) (p : Placed) → IsWay ds l p → IsWay ds (numbers.severed l) (on severed p)
unfolding numbers.severed
way_cut ds l p h = record { sender = h.sender; receiver = h.receiver; is_cut = refl; under_way = tt }

pub one_cut : (ds : List ℕ) (n v u : ℕ) (ls : List Way) (ways : List (List Lane)) → WaysStand ds n ls ways → WaysStand ds n (with_way numbers.severed v u ls) (changed severed v u ways)
one_cut ds n v u ls ways h = changes_stand ds n v u numbers.severed severed ls ways h (λ l p e f. way_cut ds l p f.stands)

pub cut_stands : CutStands
cut_stands ds n v u ls ways h = record {
  stand = one_cut ds n u v (with_way numbers.severed v u ls) (changed severed v u ways) (one_cut ds n v u ls ways h);
  lost = shown_join ds (lost_on (way_at v u ls)) (lost_on (way_at u v ls))
      ∙ (ap (λ (es : List ShownEvent). es ++ shown_events ds (lost_on (way_at u v ls))) (way_lost ds n v u ls ways h)
      ∙ ap (λ (es : List ShownEvent). lost_events (frames_at v u ways) ++ es) (way_lost ds n u v ls ways h ∙ ap lost_events (sym (way_back severed v u ways))));
}
