-- What is told of the frames that are left at the end.
use Rattle.std.proofs.Common.{◌≡◌, ℕ, zero, suc, ◌+◌, Bool, true, false, List, [], ◌∷◌, ◌++◌, Some, refl, sym, ap, ◌∙◌, subst, map, arith}
use Rattle.std.specs.Prelude.{◌==◌, slice_get}
use Rattle.std.proofs.lemmas.Bool.{eqb-true}
use Rattle.std.proofs.lemmas.List.{append_assoc}
use Rattle.def_event.specs.declared.event.Event.{Event as ShownEvent}
use Rattle.def_event.specs.declared.event.Event.TheVariants as event
use Rattle.def_event.specs.declared.note.ShownNote.{ShownNote}
use Rattle.def_run.specs.Shown.{shown_event}
use Rattle.def_run.specs.Text.{shown_events}
use Rattle.def_run.specs.World.{LeftLink, Script}
use Rattle.def_run.specs.Numbers.{Way, left_ways}
use Rattle.def_run.specs.Numbers.{Frame as Carrying}
use Rattle.ev_ways.specs.declared.frame.Frame.{Frame}
use Rattle.ev_ways.specs.Rows.{Lane, fresh}
use Rattle.ev_ways.specs.Standing.{AreFrames, AreWays, IsWay, Placed, placed_from, placed_to}
use Rattle.ev_ways.specs.Statements.{LeftStands}
use Rattle.ev_ways.specs.Telling.{left_frames, left_labels, left_row, left_rows}
use Rattle.ev_ways.proofs.Cuts.{shown_join}

-- ---- by the ways in order

unfoldable left_placed : List Placed → List ShownEvent
left_placed [] = []
left_placed (p ∷ ps) = left_frames p.from p.to p.lane.frames ++ left_placed ps

frames_left : (ds : List ℕ) (v u : ℕ) (xs : List Carrying) (ks : List Frame) → AreFrames ds u xs ks → shown_events ds (map (λ (x : Carrying). LeftLink v u x.note) xs) ≡ left_frames v u ks
unfolding shown_events shown_event left_labels left_frames
frames_left ds v u [] [] h = refl
frames_left ds v u (x ∷ xs) (k ∷ ks) h =
    ap (λ (es : List ShownEvent). shown_event ds (LeftLink v u x.note) ++ es) (frames_left ds v u xs ks h.1)
    ∙ ap (λ (n : ShownNote). event.LeftLink v u n ∷ left_frames v u ks) (sym h.0.told)
frames_left ds v u [] (k ∷ ks) h = absurd h
frames_left ds v u (x ∷ xs) [] h = absurd h

way_left : (ds : List ℕ) (l : Way) (p : Placed) → IsWay ds l p → shown_events ds (map (λ (x : Carrying). LeftLink l.from l.to x.note) l.frames) ≡ left_frames p.from p.to p.lane.frames
way_left ds l p h =
    frames_left ds l.from l.to l.frames p.lane.frames h.under_way
    ∙ (ap (λ (v : ℕ). left_frames v l.to p.lane.frames) (sym h.sender) ∙ ap (λ (u : ℕ). left_frames p.from u p.lane.frames) (sym h.receiver))

ways_left : (script : Script) (ds : List ℕ) (ls : List Way) (ps : List Placed) → AreWays ds ls ps → shown_events ds (left_ways script ls) ≡ left_placed ps
unfolding left_ways left_placed shown_events
ways_left script ds [] [] h = refl
ways_left script ds (l ∷ ls) (p ∷ ps) h =
    shown_join ds (map (λ (x : Carrying). LeftLink l.from l.to x.note) l.frames) (left_ways script ls)
    ∙ (ap (λ (es : List ShownEvent). es ++ shown_events ds (left_ways script ls)) (way_left ds l p h.0)
    ∙ ap (λ (es : List ShownEvent). left_frames p.from p.to p.lane.frames ++ es) (ways_left script ds ls ps h.1))
ways_left script ds [] (p ∷ ps) h = absurd h
ways_left script ds (l ∷ ls) [] h = absurd h

-- ---- by rows

placed_join : (ps qs : List Placed) → left_placed (ps ++ qs) ≡ left_placed ps ++ left_placed qs
unfolding left_placed
placed_join [] qs = refl
placed_join (p ∷ ps) qs =
    ap (λ (es : List ShownEvent). left_frames p.from p.to p.lane.frames ++ es) (placed_join ps qs)
    ∙ sym (append_assoc (left_frames p.from p.to p.lane.frames) (left_placed ps) (left_placed qs))

row_or : (v u : ℕ) (b : Bool) (l : Lane) (ps : List Placed) (es : List ShownEvent) → (b ≡ true → l ≡ fresh) → left_placed ps ≡ es
    → left_placed (elim b [ true ↦ ps | false ↦ record { from = v; to = u; lane = l } ∷ ps ]) ≡ left_frames v u l.frames ++ es
unfolding left_placed left_labels left_frames
row_or v u true l ps es f h = h ∙ ap (λ (m : Lane). left_frames v u m.frames ++ es) (sym (f refl))
row_or v u false l ps es f h = ap (λ (fs : List ShownEvent). left_frames v u l.frames ++ fs) h

-- the way of vat v to itself, if it stands among these, is unused
abbrev RowUnused : ℕ → ℕ → List Lane → Type 0
RowUnused v u r = (i : ℕ) (l : Lane) → v ≡ u + i → slice_get r i ≡ Some l → l ≡ fresh

row_left : (v u : ℕ) (r : List Lane) → RowUnused v u r → left_placed (placed_to v u r) ≡ left_row v u r
unfolding placed_to left_row left_placed
row_left v u [] k = refl
row_left v u (l ∷ ls) k =
    row_or v u (v == u) l (placed_to v (suc u) ls) (left_row v (suc u) ls) (λ e. k zero l (let i = eqb-true v u e in omega arith) refl)
    (row_left v (suc u) ls (λ i m e f. k (suc i) m (omega arith) f))

abbrev RowsUnused : ℕ → List (List Lane) → Type 0
RowsUnused v rows = (i : ℕ) (r : List Lane) (l : Lane) → slice_get rows i ≡ Some r → slice_get r (v + i) ≡ Some l → l ≡ fresh

rows_left : (v : ℕ) (rows : List (List Lane)) → RowsUnused v rows → left_placed (placed_from v rows) ≡ left_rows v rows
unfolding placed_from left_rows left_placed
rows_left v [] k = refl
rows_left v (r ∷ rs) k =
    placed_join (placed_to v zero r) (placed_from (suc v) rs)
    ∙ (ap (λ (es : List ShownEvent). es ++ left_placed (placed_from (suc v) rs)) (row_left v zero r (λ i l e f. k zero r l refl (let j : i ≡ v + 0 = omega arith in subst (λ (w : ℕ). slice_get r w ≡ Some l) j f)))
    ∙ ap (λ (es : List ShownEvent). left_row v zero r ++ es) (rows_left (suc v) rs (λ i s l e f. k (suc i) s l e (let j : suc v + i ≡ v + suc i = omega arith in subst (λ (w : ℕ). slice_get s w ≡ Some l) j f))))

pub left_stands : LeftStands
left_stands script ds n ls ways h =
    ways_left script ds ls (placed_from zero ways) h.ways
    ∙ rows_left zero ways (λ i r l e f. h.unused i r l e (let j : 0 + i ≡ i = omega arith in subst (λ (w : ℕ). slice_get r w ≡ Some l) j f))
