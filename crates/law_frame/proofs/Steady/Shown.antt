-- What was told stays as it was told.
use Rattle.std.proofs.Common.{◌≡◌, ℕ, ◌<◌, List, [], ◌∷◌, ◌++◌, Option, Some, None, refl, sym, ap, ◌∙◌, subst, length, map}
use Rattle.std.specs.Prelude.{slice_get}
use Rattle.std.proofs.lemmas.Option.{slice_get_within}
use Rattle.def_machine.specs.Values.{Name}
use Rattle.def_machine.specs.State.{Known, Vat}
use Rattle.def_run.specs.Shown.{shown_name, shown_note}
use Rattle.def_run.specs.Text.{shown_events}
use Rattle.def_run.specs.World.{Link, World, link_at}
use Rattle.law_fate.specs.Name.Names.{AllOf, IsMade, KnownOk, NoteOk, Everywhere, names_in}
use Rattle.law_fate.proofs.Name.Facts.{MayBe}
use Rattle.law_fate.proofs.Name.Laws.{names_made, notes_made}
use Rattle.law_fate.proofs.Name.Run.{link_holds}
use Rattle.law_frame.proofs.Stopping.Shown.{made_more, said_note, shown_same}
use Rattle.law_frame.proofs.Stopping.ShownRuns.{steps_both, opened_both, all_opened}
use Rattle.law_frame.proofs.Stopping.Told.{AllShown}
use Rattle.def_run.specs.Vats.{Member}
use Rattle.def_run.specs.Numbers as numbers
use Rattle.def_run.specs.Numbers.{Vats, Way, Frame, way_at}
use Rattle.law_frame.specs.Local.Mirrors.{Mirrors}
use Rattle.law_frame.proofs.Local.Positions.{there_is}
use Rattle.law_frame.proofs.Local.Ways.{MayMirror, at_mirrors}
use Rattle.def_run.specs.Steady.{ShownAlike}
use Rattle.law_frame.specs.Steady.Statements.{RunsAreShownSteadily}
use Rattle.law_frame.proofs.Steady.Draws.{drawn_on, entry_draws, opening_draws}
use Rattle.law_frame.proofs.Steady.Reached.{opens_mirror, steps_mirror}

-- ---- in a world whose names were made

module _ (w : World) (W : Vats) (l : List ℕ) (h : Mirrors w W) (told : AllShown w) (made : (u : ℕ) (s : Vat Name) → slice_get w.vats u ≡ Some s → Everywhere (IsMade w.vats w.drawn) s) (notes : AllOf (λ (k : Link). AllOf (NoteOk (IsMade w.vats w.drawn)) k.notes) w.links) where
  known_alike : (ks : List (Known Name)) → AllOf (KnownOk (IsMade w.vats w.drawn)) ks → map (shown_name (w.drawn ++ l)) (names_in ks) ≡ map (shown_name w.drawn) (names_in ks)
  known_alike [] k = refl
  known_alike (e ∷ ks) k = ap (λ n. n ∷ map (shown_name (w.drawn ++ l)) (names_in ks)) (made_more w.vats w.drawn l e.name k.0.0) ∙ ap (λ ns. shown_name w.drawn e.name ∷ ns) (known_alike ks k.1)

  frames_alike : (u : ℕ) (xs : List Frame) → AllOf (NoteOk (IsMade w.vats w.drawn)) (map (λ (f : Frame). f.note) xs) → map (λ (x : Frame). shown_note (w.drawn ++ l) u x.note) xs ≡ map (λ (x : Frame). shown_note w.drawn u x.note) xs
  frames_alike u [] k = refl
  frames_alike u (x ∷ xs) k = ap (λ n. n ∷ map (λ (x : Frame). shown_note (w.drawn ++ l) u x.note) xs) (said_note w.vats w.drawn l u x.note k.0) ∙ ap (λ ns. shown_note w.drawn u x.note ∷ ns) (frames_alike u xs k.1)

  names_so : (u : ℕ) (m : Member) → slice_get W.members u ≡ Some m → map (shown_name (w.drawn ++ l)) m.names.known ≡ map (shown_name w.drawn) m.names.known
  names_so u m e =
      let s = there_is w.vats u (subst (λ n. u < n) h.count (slice_get_within W.members u m e)) in
      let is : m.names.known ≡ names_in s.0.known = (let k = h.vats u s.0 m s.1 e in k.known) in
      let known = (let all = made u s.0 s.1 in all.known) in
      ap (map (shown_name (w.drawn ++ l))) is ∙ known_alike s.0.known known ∙ ap (map (shown_name w.drawn)) (sym is)

  frames_so : (v u : ℕ) (x : Way) → way_at v u W.ways ≡ Some x → map (λ (f : Frame). shown_note (w.drawn ++ l) u f.note) x.frames ≡ map (λ (f : Frame). shown_note w.drawn u f.note) x.frames
  frames_so v u x e = by (link_at v u w.links) (subst (λ o. MayMirror (link_at v u w.links) o) e (at_mirrors v u w.links W.ways h.ways)) (link_holds (NoteOk (IsMade w.vats w.drawn)) v u w.links notes)
    where
      by : (o : Option Link) → MayMirror o (Some x) → MayBe (λ (k : Link). AllOf (NoteOk (IsMade w.vats w.drawn)) k.notes) o → map (λ (f : Frame). shown_note (w.drawn ++ l) u f.note) x.frames ≡ map (λ (f : Frame). shown_note w.drawn u f.note) x.frames
      by (Some k) i j = frames_alike u x.frames (subst (AllOf (NoteOk (IsMade w.vats w.drawn))) (sym i.notes) j)
      by None i j = absurd i

  abbrev Alike : List ℕ → Type 0
  Alike d = ShownAlike d (d ++ l) W

  shown_alike : ShownAlike W.drawn (W.drawn ++ l) W
  shown_alike = subst Alike (sym h.drawn) (record {
    history = ap (shown_events (w.drawn ++ l)) h.history ∙ shown_same w.drawn l w.history told ∙ ap (shown_events w.drawn) (sym h.history);
    names = names_so;
    frames = frames_so;
  })

-- ---- in each step of a run

pub shown_steadily : RunsAreShownSteadily
shown_steadily script once each = record {
  opening = λ ps rest p w y split opened goes.
      let o = opens_mirror script each ps (p ∷ rest) w split opened in
      let d = drawn_on w.drawn (numbers.open_member script (length ps) p w (slice_get w.members (length ps))) y (opening_draws script (length ps) p w (slice_get w.members (length ps))) goes in
      subst (λ es. ShownAlike w.drawn es w) (sym d.1)
      (shown_alike o.world w d.0 o.mirrors (opened_both script once ps (p ∷ rest) o.world split o.opened).1 ((names_made script once).0 ps (p ∷ rest) o.world split o.opened) ((notes_made script once).0 ps (p ∷ rest) o.world split o.opened));
  entry = λ es rest e k w x y split opened stepped goes.
      let o = steps_mirror script each es (e ∷ rest) w x split opened stepped in
      let d = drawn_on x.drawn (numbers.step script e k x) y (entry_draws script e k x) goes in
      subst (λ ds. ShownAlike x.drawn ds x) (sym d.1)
      (shown_alike o.last x d.0 o.mirrors (steps_both script es 1 o.first o.last (all_opened script once o.first o.opened) o.stepped).1 ((names_made script once).1 o.first o.last es 1 o.opened o.stepped) ((notes_made script once).1 o.first o.last es 1 o.opened o.stepped));
}
