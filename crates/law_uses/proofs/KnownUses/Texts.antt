-- From what a line uses in its step to the line of the text.
use Rattle.std.proofs.Common.{◌≡◌, ℕ, zero, suc, ◌+◌, List, [], ◌∷◌, ◌++◌, Some, refl, sym, ap, ◌∙◌, subst, ◌⊎◌, inl, inr, append_assoc}
use Rattle.std.specs.Prelude.{slice_get, take}
use Rattle.def_event.specs.declared.shown.Shown.{Shown}
use Rattle.def_event.specs.declared.event.Event.{Event as ShownEvent}
use Rattle.def_event.specs.declared.event.Event.TheVariants as event
use Rattle.def_machine.specs.Values.{Name}
use Rattle.def_machine.specs.State.{Happened, ListCame, Settles, Waits, Views, Lost, Posted, Vat}
use Rattle.def_run.specs.World as world
use Rattle.def_run.specs.World.{Script, Event, Carried, Here, names}
use Rattle.def_run.specs.Shown as show
use Rattle.def_run.specs.Text.{shown_events, history_of}
use Rattle.law_uses.specs.Connectivity.Known as known
use Rattle.law_uses.specs.Connectivity.Known.{Item, AValue, IsAmong}
use Rattle.law_uses.specs.Connectivity.Connected.{uses, itself}
use Rattle.law_uses.specs.Connectivity.InTime.{Moment, WellThen, InTime}
use Rattle.law_uses.proofs.Connectivity.Passing.{all_map}
use Rattle.def_event.specs.Uses as text
use Rattle.def_event.specs.Uses.{Line, line_after, and_lines, place_of, HoldsAt, names_used, UsesKnown}
use Rattle.law_uses.proofs.Uses.Lines.{lines_join}
use Rattle.law_uses.proofs.Uses.Shown.{lines}
use Rattle.law_uses.proofs.Uses.Texts.{lines_stand}
use Rattle.law_uses.specs.KnownUses.Told.{IsShownApart, lines_so, first_of}
use Rattle.law_uses.specs.KnownUses.KnownUses.{UsesAreKnown, LinesUseWhatIsKnown}
use Rattle.law_uses.proofs.KnownUses.Stood.{Stood, stood_at}
use Rattle.law_uses.proofs.KnownUses.Known.{item_known}
use Rattle.law_uses.proofs.KnownUses.InTime.{line_in_time}
use Rattle.law_uses.proofs.KnownUses.Moments.{held, facts}
use Rattle.law_uses.proofs.KnownUses.Used.{ItemKnown, One, AllKnown, happened_used}

-- ---- a line in its step

-- a line has the place of its vat
pub placed_line : (script : Script) (draws : List ℕ) (v : ℕ) (e : Happened Name) (h k : List Event) → history_of (world.run script) ≡ h ++ Here v e ∷ k → place_of (lines draws h) ≡ v + 1
placed_line script draws v e h k is = lines_stand script draws h k v e is

module _ (script : Script) (v : ℕ) (e : Happened Name) (h : List Event) (s : Stood script v e h) (draws : List ℕ) (apart : IsShownApart script draws) (k : List Event) (is : history_of (world.run script) ≡ h ++ Here v e ∷ k) where
  abbrev past : List Line
  past = lines draws (lines_so s.line)

  at : place_of past ≡ v + 1
  at = ap (λ es. place_of (lines draws es)) (sym s.place) ∙ placed_line script draws v e h k is

  -- an item that the activation knows, by the place of the lines
  item_at : (r : Vat Name) → Moment (names script v) (first_of s.line) s.line.so r → (a : ℕ) (i : Item Name) → known.Knows (names script v) (held script v e h s r) s.line.so a i → ItemKnown draws v past a i
  item_at r m a (AValue x) g = λ t j. subst (λ n. text.Knows past (record { at = n; number = a }) t) (sym at) (item_known draws script v (lines_so s.line) (held script v e h s r) s.line.so (facts script v e h s draws apart k is r m) a (AValue x) g t j)
  item_at r m a other g = tt

  then_known : WellThen (names script v) (first_of s.line) s.line.so e → AllKnown draws v past e
  then_known w = all_map (λ (u : ℕ × Item Name). known.Knows (names script v) (held script v e h s w.0) s.line.so u.0 u.1 ⊎ IsAmong u.1 (itself e)) (λ (u : ℕ × Item Name). ItemKnown draws v past u.0 u.1 ⊎ IsAmong u.1 (itself e)) one (uses e) w.2
    where
      one : (u : ℕ × Item Name) → known.Knows (names script v) (held script v e h s w.0) s.line.so u.0 u.1 ⊎ IsAmong u.1 (itself e) → ItemKnown draws v past u.0 u.1 ⊎ IsAmong u.1 (itself e)
      one u (inl g) = inl (item_at w.0 w.1 u.0 u.1 g)
      one u (inr m) = inr m

  -- a line of no activation uses nothing
  all_known : (f : Happened Name) → (WellThen (names script v) (first_of s.line) s.line.so f → AllKnown draws v past f) → InTime (names script v) (first_of s.line) s.line.so f → AllKnown draws v past f
  unfolding uses
  all_known (ListCame n vs) g i = tt
  all_known (Settles p y) g i = tt
  all_known (Waits p q) g i = tt
  all_known (Views p q) g i = tt
  all_known (Lost m) g i = tt
  all_known (Posted w m) g i = tt
  all_known _ g i = g i

  pub line_uses : One UsesKnown (lines draws h) (show.shown_happened draws v e)
  line_uses = subst (λ es. One UsesKnown (lines draws es) (show.shown_happened draws v e)) (sym s.place) (happened_used draws v past e (all_known e then_known (line_in_time script v e h s)))

-- ---- the lines of a text

-- what a line that no step tells may be
abbrev IsQuiet : Event → Type 0
IsQuiet (Here v e) = ⊥
IsQuiet _ = Unit {0}

module _ (draws : List ℕ) where
  -- the event of a history that shows an event, and its place among those that it shows
  abbrev Shows : List Event → ℕ → ShownEvent → Type 0
  Shows es k f = (h : List Event) × (e : Event) × (rest : List Event) × (i : ℕ) × (es ≡ h ++ e ∷ rest) × (slice_get (show.shown_event draws e) i ≡ Some f)
      × (take k (shown_events draws es) ≡ shown_events draws h ++ take i (show.shown_event draws e))

  abbrev Parts : List ShownEvent → List ShownEvent → ℕ → ShownEvent → Type 0
  Parts xs ys k f = ((slice_get xs k ≡ Some f) × (take k (xs ++ ys) ≡ take k xs)) ⊎ ((j : ℕ) × (slice_get ys j ≡ Some f) × (take k (xs ++ ys) ≡ xs ++ take j ys))

  parts : (xs ys : List ShownEvent) (k : ℕ) (f : ShownEvent) → slice_get (xs ++ ys) k ≡ Some f → Parts xs ys k f
  parts [] ys k f q = inr (k, q, refl)
  parts (x ∷ xs) ys zero f q = inl (q, refl)
  parts (x ∷ xs) ys (suc k) f q = more (parts xs ys k f q)
    where
      more : Parts xs ys k f → Parts (x ∷ xs) ys (suc k) f
      more (inl p) = inl (p.0, ap (λ zs. x ∷ zs) p.1)
      more (inr p) = inr (p.0, p.1, ap (λ zs. x ∷ zs) p.2)

  shows : (es : List Event) (k : ℕ) (f : ShownEvent) → slice_get (shown_events draws es) k ≡ Some f → Shows es k f
  unfolding shown_events
  shows [] k f q = cc
  shows (e ∷ es) k f q = either (parts (show.shown_event draws e) (shown_events draws es) k f q) (λ j. shows es j f)
    where
      either : Parts (show.shown_event draws e) (shown_events draws es) k f → ((j : ℕ) → slice_get (shown_events draws es) j ≡ Some f → Shows es j f) → Shows (e ∷ es) k f
      either (inl p) g = ([], e, es, k, refl, p.0, p.1)
      either (inr p) g = let r = g p.0 p.1 in (e ∷ r.0, r.1, r.2, r.3, ap (λ zs. e ∷ zs) r.4, r.5, p.2 ∙ ap (λ zs. show.shown_event draws e ++ zs) r.6 ∙ sym (append_assoc (show.shown_event draws e) (shown_events draws r.0) (take r.3 (show.shown_event draws r.1))))

  at_among : (fs : List ShownEvent) (i : ℕ) (f : ShownEvent) → slice_get fs i ≡ Some f → text.IsAmong f fs
  at_among [] i f q = cc
  at_among (g ∷ fs) zero f q = inl cc
  at_among (g ∷ fs) (suc i) f q = inr (at_among fs i f q)

  -- Of lines by which a step tells what happens at a vat, and of others: so it is of each line of the text.
  module _ (P : List Line → Line → Type 0) (script : Script) (quiet : (past : List Line) (e : Event) (f : ShownEvent) → IsQuiet e → text.IsAmong f (show.shown_event draws e) → P past (line_after past f))
      (own : (v : ℕ) (e : Happened Name) (h k : List Event) → history_of (world.run script) ≡ h ++ Here v e ∷ k → Stood script v e h → One P (lines draws h) (show.shown_happened draws v e)) where
    one_at : (past : List Line) (fs : List ShownEvent) (i : ℕ) (f : ShownEvent) → One P past fs → slice_get fs i ≡ Some f → P (and_lines past (take i fs)) (line_after (and_lines past (take i fs)) f)
    one_at past [] i f u q = cc
    one_at past (g ∷ []) zero f u q = let same : g ≡ f = cc in subst (λ x. P past (line_after past x)) same u
    one_at past (g ∷ []) (suc i) f u q = cc
    one_at past (g ∷ x ∷ fs) i f u q = absurd u

    event_holds : (h rest : List Event) (e : Event) (i : ℕ) (f : ShownEvent) → history_of (world.run script) ≡ h ++ e ∷ rest → ((v : ℕ) (l : Happened Name) → e ≡ Here v l → Stood script v l h) → slice_get (show.shown_event draws e) i ≡ Some f
        → P (and_lines (lines draws h) (take i (show.shown_event draws e))) (line_after (and_lines (lines draws h) (take i (show.shown_event draws e))) f)
    unfolding show.shown_event
    event_holds h rest (Here v e) i f is s q = one_at (lines draws h) (show.shown_happened draws v e) i f (own v e h rest is (s v e refl)) q
    event_holds h rest e i f is s q = quiet _ e f tt (at_among (show.shown_event draws e) i f q)

    pub text_holds : (k : ℕ) → HoldsAt P (shown_events draws (history_of (world.run script))) k
    text_holds k f q = let r = shows (history_of (world.run script)) k f q in
        subst (λ past. P past (line_after past f)) (sym (ap (and_lines []) r.6 ∙ lines_join [] (shown_events draws r.0) (take r.3 (show.shown_event draws r.1))))
        (event_holds r.0 r.2 r.1 r.3 f r.4 (λ v l e. stood_at script r.0 r.2 v l (r.4 ∙ ap (λ z. r.0 ++ z ∷ r.2) e)) r.5)

  -- ---- lines of no vat

  abbrev UsesNone : ShownEvent → Type 0
  UsesNone f = (names_used f ≡ []) × ((a : ℕ) (x : Shown) → f ≡ event.Back a x → ⊥)

  only : (f g : ShownEvent) → UsesNone f → text.IsAmong g (f ∷ []) → UsesNone g
  only f g u (inl q) = subst UsesNone q u
  only f g u (inr i) = absurd i

  pub quiet_uses : (e : Event) (f : ShownEvent) → IsQuiet e → text.IsAmong f (show.shown_event draws e) → UsesNone f
  unfolding show.shown_event names_used
  quiet_uses (Here v e) f n i = absurd n
  quiet_uses (Carried k v w m bytes) f n (inl q) = subst UsesNone q (refl, λ a x r. cc)
  quiet_uses (Carried k v w m bytes) f n (inr i) = only (event.Frame bytes) f (refl, λ a x r. cc) i
  quiet_uses e f n i = only _ f (refl, λ a x r. cc) i

  uses_known : (script : Script) → IsShownApart script draws → UsesAreKnown script draws
  uses_known script apart = text_holds UsesKnown script (λ past e f n i m j. absurd (subst (λ ns. text.IsAmong m ns) (quiet_uses e f n i).0 j)) (λ v e h k is s. line_uses script v e h s draws apart k is)

pub lines_use_what_is_known : LinesUseWhatIsKnown
lines_use_what_is_known script draws apart = uses_known draws script apart
