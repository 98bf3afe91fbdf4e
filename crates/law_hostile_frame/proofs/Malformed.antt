-- An injected frame that is malformed, where the notice of a cut mirrors.
use Rattle.std.proofs.Common.{◌≡◌, ℕ, ◌<◌, false, length, List, [], ◌∷◌, ◌++◌, Option, Some, None, refl, ap, ◌∙◌, drop}
use Rattle.std.specs.Prelude.{slice_get}
use Rattle.def_machine.specs.Values.{Name}
use Rattle.def_machine.specs.State.{Vat}
use Rattle.def_run.specs.Numbers as run
use Rattle.def_run.specs.Numbers.{Vats, Course, Runs, Halts, way_at}
use Rattle.def_run.specs.Vats.{Member, connection_for}
use Rattle.def_run.specs.Wire.{connected_at}
use Rattle.def_run.specs.World as world
use Rattle.def_run.specs.World.{Event, World, Run, Goes, Stopped, NoticeLink, CutAt, link_at}
use Rattle.def_hostile.specs.Arrivals.{counts_in}
use Rattle.def_hostile.specs.Hostile as names
use Rattle.def_hostile.specs.Hostile.{Play, Scene, Line, Raw, Refused, is_hostile, raws_cut, counts}
use Rattle.def_hostile.specs.HostileText as names_text
use Rattle.def_hostile.specs.Judge.{Verdict, Malformed, verdict}
use Rattle.def_hostile.specs.Numbers as numbers
use Rattle.def_hostile.specs.Numbers.{Cast}
use Rattle.def_hostile.specs.NumbersText as numbers_text
use Rattle.law_machine.specs.Renamed.Stands.{IsTable}
use Rattle.law_hostile_frame.specs.Cuts.{NoticeMirrorsBehindCut, MalformedFramesMirror}
use Rattle.law_hostile_frame.specs.Tables.{table_in}
use Rattle.law_hostile_frame.specs.Mirrors.{SceneMirrors, ActsMirror}
use Rattle.law_hostile_frame.proofs.Counts.{verdicts_agree}
use Rattle.law_hostile_frame.proofs.Cuts.{now, here, cut_so, cut_told, told_alike, lines_joined}
use Rattle.law_hostile_frame.proofs.Steps.{told}

-- what stands for one another is shown alike
pub shown_same : (play : Play) (s : Scene) (c : Cast) → SceneMirrors play s c → numbers_text.shown_cast c ≡ names_text.shown_scene s
unfolding numbers_text.shown_cast names_text.shown_scene
shown_same play s c h = ap (λ ds. names_text.shown_lines ds c.claims c.lines) h.drawn ∙ ap (λ cs. names_text.shown_lines s.world.drawn cs c.lines) h.claims ∙ ap (λ ls. names_text.shown_lines s.world.drawn s.claims ls) h.lines

-- told with other lines and raw frames
relined : (play : Play) (s : Scene) (c : Cast) (ls ks : List Line) (rs qs : List Raw) → SceneMirrors play s c → ks ≡ ls → qs ≡ rs → SceneMirrors play (record s { lines = ls; raws = rs }) (record c { lines = ks; raws = qs })
relined play s c ls ks rs qs h e i = told play s c s.world.history c.vats.history ls ks rs qs h h.history e i

module _ (play : Play) (h u place k : ℕ) (s : Scene) (c : Cast) (m : SceneMirrors play s c) where
  abbrev es : List Event
  es = s.world.history ++ CutAt k h u ∷ (world.lost_on play.script (link_at h u s.world.links) ++ world.lost_on play.script (link_at u h s.world.links))

  abbrev fs : List Event
  fs = c.vats.history ++ CutAt k h u ∷ (run.lost_on (way_at h u c.vats.ways) ++ run.lost_on (way_at u h c.vats.ways))

  -- the world and the vats between the cut and the notice
  abbrev between : World
  between = now play s c m h u es fs

  abbrev there : Vats
  there = here play s c m h u es fs

  abbrev halfway : Scene
  halfway = record s { world = between; lines = s.lines; raws = raws_cut h u s.raws }

  abbrev half : Cast
  half = record c { vats = there; lines = c.lines; raws = raws_cut h u c.raws; made = c.made }

  mirrors_halfway : SceneMirrors play halfway half
  mirrors_halfway = cut_so play s c m h u es fs s.lines c.lines (raws_cut h u s.raws) (raws_cut h u c.raws) c.made (cut_told play s c m k h u) m.lines (ap (raws_cut h u) m.raws) refl

  noticed_so : (r : Run) (q : Course) → ActsMirror play (names.acted (names.step_of play k) halfway [] r) (numbers.acted (names.step_of play k) u half q)
      → ActsMirror play (names.severed_by play k h u place s (Goes between) r) (numbers.severed_by play k h u place c (Runs there) q)
  unfolding names.acted numbers.acted names.severed_by numbers.severed_by names.lines_behind numbers.lines_behind
  noticed_so (Goes z) (Runs Z) a = relined play (record halfway { world = z; lines = halfway.lines ++ [] ++ names.told_since between z }) (record half { vats = Z; made = numbers.made_after u Z c.made; lines = half.lines ++ numbers.told_since there Z })
      (s.lines ++ Refused k h u place ∷ (drop 1 (names.told_since s.world between) ++ drop 1 (names.told_since between z)))
      (c.lines ++ Refused k h u place ∷ (drop 1 (numbers.told_since c.vats there) ++ drop 1 (numbers.told_since there Z)))
      (raws_cut h u s.raws) (raws_cut h u c.raws) a
      (lines_joined m.lines (ap (λ ls. Refused k h u place ∷ ls) (lines_joined (ap (drop 1) (told_alike s.world between c.vats there m.history (cut_told play s c m k h u))) (ap (drop 1) (told_alike between z there Z (cut_told play s c m k h u) a.history)))))
      (ap (raws_cut h u) m.raws)
  noticed_so (Stopped e n z) (Halts f j Z) a = (a.0, refl, shown_same play s c m)
  noticed_so (Goes z) (Halts f j Z) a = absurd a
  noticed_so (Stopped e n z) (Runs Z) a = absurd a

  pub malformed_so : NoticeMirrorsBehindCut play h u k s → is_hostile play u ≡ false → ActsMirror play (names.malformed play k h u place s) (numbers.malformed play k h u place c)
  unfolding names.malformed numbers.malformed names.noticed_after numbers.noticed_after world.cut run.cut
  malformed_so notices honest = noticed_so (world.step play.script (NoticeLink u h) k between) (run.step play.script (NoticeLink u h) k there) (notices between half refl mirrors_halfway)

  judged_so : (bytes : List ℕ) (g : Member) (v w : Verdict) → w ≡ v → v ≡ Malformed place → NoticeMirrorsBehindCut play h u k s → is_hostile play u ≡ false
      → ActsMirror play (names.judged_frame play k h u bytes s v) (numbers.judged_frame play k h u bytes c g w)
  unfolding names.judged_frame numbers.judged_frame
  judged_so bytes g v w e i notices honest = rw (e, i) (malformed_so notices honest)

  framed_so : (bytes : List ℕ) (t : Vat Name) (g : Member) (o : Option Member) → o ≡ Some g → h < length c.vats.members → slice_get s.world.vats u ≡ Some t → slice_get c.vats.members u ≡ Some g → IsTable u (table_in s.world u t)
      → verdict (length play.script.vats) u h (counts (connected_at u h s.world.connections).tables) bytes ≡ Malformed place → NoticeMirrorsBehindCut play h u k s → is_hostile play u ≡ false
      → ActsMirror play (names.judged_frame play k h u bytes s (verdict (length play.script.vats) u h (counts (connected_at u h s.world.connections).tables) bytes)) (numbers.frame_for play k h u bytes c o)
  unfolding numbers.frame_for
  framed_so bytes t g None e below at there good bad notices honest = cc
  framed_so bytes t g (Some x) e below at there good bad notices honest =
      let same : x ≡ g = cc in
      let v : Verdict = verdict (length play.script.vats) u h (counts (connected_at u h s.world.connections).tables) bytes in
      let one : verdict (length play.script.vats) u h (counts_in (connection_for h x)) bytes ≡ v =
      ap (λ (y : Member). verdict (length play.script.vats) u h (counts_in (connection_for h y)) bytes) same
      ∙ verdicts_agree u (table_in s.world u t) good (connection_for h g) (connected_at u h s.world.connections).tables ((m.honest u t g honest at there).vat.connections h below) (length play.script.vats) h bytes in
      judged_so bytes x v (verdict (length play.script.vats) u h (counts_in (connection_for h x)) bytes) one bad notices honest

pub malformed_frames_mirror : MalformedFramesMirror
unfolding names.frame_comes numbers.frame_comes
malformed_frames_mirror play h u place k bytes s c t g notices honest below m at there good bad = framed_so play h u place k s c m bytes t g (slice_get c.vats.members u) there below at there good bad notices honest
