-- In no run an arrival or a notice goes astray.
use Rattle.std.proofs.Common.{◌≡◌, ℕ, Bool, true, false, List, [], ◌∷◌, Option, Some, None, refl, sym, ◌∙◌, append-nil}
use Rattle.std.specs.Prelude.{slice_get}
use Rattle.def_machine.specs.Values.{Name, naming}
use Rattle.def_machine.specs.State.{Note, Vat, Stop, Astray, Done, Gives, Stops}
use Rattle.def_machine.specs.Arrive.{arrive, notice}
use Rattle.def_run.specs.Draws.{draw_word}
use Rattle.def_run.specs.World as world
use Rattle.def_run.specs.World.{Script, Entry, Turn, Carry, CutLink, NoticeLink, Event, Link, World, Goes, Stopped, names, names_of, read_note, readied}
use Rattle.law_machine.specs.Machine.Steps.{Receives, Notices, IsQuiet, does}
use Rattle.law_machine.proofs.Machine.StepEnds.{step_ends}
use Rattle.law_fate.specs.Name.Names.{AllOf, NoteOk, names_in}
use Rattle.law_fate.proofs.Name.Facts.{MayBe, Nothing}
use Rattle.law_fate.proofs.Name.Tracked.{tracked, tracked_under}
use Rattle.law_fate.proofs.Name.Run.{Told, LinkStands, Stands, inside, low_at, sound_ready, knows_ready, link_holds, steps_stand, opened_stands}
use Rattle.law_never_astray.specs.Settlings.{NotAstray}
use Rattle.law_never_astray.specs.Arrivals.{IsThereFor, ArrivalsAreNotAstray}
use Rattle.law_never_astray.proofs.Awaited.{is_mail, tracked_awaits}
use Rattle.law_never_astray.proofs.Clear.{clear_notice}
use Rattle.law_never_astray.proofs.Hearing.{heard_note}

no_stop : {A : Type 0} (x y : World) (c : Stop) (n : ℕ) → Goes x ≡ Stopped c n y → A
no_stop x y c n e = cc

same_stop : (c d : Stop) (m n : ℕ) (x y : World) → Stopped c m x ≡ Stopped d n y → c ≡ d
same_stop c d m n x y e = cc

-- a step that gives or stops, and does not go astray
pub put_back_clear : (v : ℕ) (w y : World) (head : List Event) (step n : ℕ) (c : Stop) (d : Done Name (Unit {0})) → IsQuiet d → NotAstray d → world.put_back v w head step d ≡ Stopped c n y → c ≡ Astray → ⊥
unfolding world.put_back
put_back_clear v w y head step n c (Gives u t) q h e = no_stop _ y c n e
put_back_clear v w y head step n c (Stops r t) q h e = λ f. h (same_stop r c step n w y e ∙ f)
put_back_clear v w y head step n c other q h e = absurd q

module _ (script : Script) where
  arrive_clear : (from to : ℕ) (x : World) → Stands script x → (s : Vat Name) → slice_get x.vats to ≡ Some s → (n : Note Name) → NoteOk (Told script x) n → NotAstray (arrive (names script to) from (read_note (names_of s) n) (readied x s))
  unfolding names world.names_of
  arrive_clear from to x h s there n i = let g = h.vats to s there in
      (heard_note true (inside script) x.vats to s there (low_at script x h to s there) (draw_word script.key) x.vats x.drawn from (names_in s.known) n i).after (readied x s)
      (sound_ready script to x s s there refl refl h g.parts g.kept) (knows_ready script to x s s there refl refl h g.parts g.kept) tt

  notice_clear : (v to : ℕ) (x : World) → Stands script x → (s : Vat Name) → slice_get x.vats v ≡ Some s → NotAstray (notice (names script v) to (readied x s))
  unfolding names
  notice_clear v to x h s there = let g = h.vats v s there in let word : ℕ → ℕ = draw_word script.key in let low = low_at script x h v s there in
      (clear_notice (naming word v) (tracked true (inside script) x.vats v s there low) (tracked_under true (inside script) x.vats v s there low word) is_mail (tracked_awaits true (inside script) x.vats v s there low word) {C = Nothing} to).after (readied x s)
      (sound_ready script v x s s there refl refl h g.parts g.kept) tt

  arrive_quiet : (from to : ℕ) (s t : Vat Name) (n : Note Name) → IsQuiet (arrive (names script to) from (read_note (names_of s) n) t)
  unfolding does
  arrive_quiet from to s t n = step_ends (names script to) (Receives from (read_note (names_of s) n)) t

  notice_quiet : (v to : ℕ) (t : Vat Name) → IsQuiet (notice (names script v) to t)
  unfolding does
  notice_quiet v to t = step_ends (names script v) (Notices to) t

  module _ (x y : World) (h : Stands script x) (c : Stop) (n : ℕ) where
    -- the link's notes are put off, and all else is as it was
    arrives_clear : (k v to : ℕ) (ls : List Link) (m : Note Name) → NoteOk (Told script x) m → (o : Option (Vat Name)) → slice_get x.vats to ≡ o → world.arrives script k v to (record x { links = ls }) m o ≡ Stopped c n y → c ≡ Astray → ⊥
    unfolding world.arrives world.within world.idle world.readied
    arrives_clear k v to ls m i None q e = no_stop _ y c n e
    arrives_clear k v to ls m i (Some s) q e = put_back_clear to (record x { links = ls }) y _ (world.step_number script k) n c _ (arrive_quiet v to s (readied x s) m) (arrive_clear v to x h s q m i) e

    carry_notes_clear : (k v to : ℕ) (ns : List (Note Name)) → AllOf (NoteOk (Told script x)) ns → world.carry_notes script k v to x ns ≡ Stopped c n y → c ≡ Astray → ⊥
    unfolding world.carry_notes world.idle
    carry_notes_clear k v to [] i e = no_stop _ y c n e
    carry_notes_clear k v to (m ∷ ns) i e = arrives_clear k v to (world.with_link (world.with_notes ns) v to x.links) m i.0 (slice_get x.vats to) refl e

    carry_cut_clear : (k v to : ℕ) (l : Link) → LinkStands script x l → (b : Bool) → elim b [ true ↦ world.idle script k x | false ↦ world.carry_notes script k v to x l.notes ] ≡ Stopped c n y → c ≡ Astray → ⊥
    unfolding world.idle
    carry_cut_clear k v to l i true e = no_stop _ y c n e
    carry_cut_clear k v to l i false e = carry_notes_clear k v to l.notes i e

    carry_link_clear : (k v to : ℕ) (o : Option Link) → MayBe (LinkStands script x) o → world.carry_link script k v to x o ≡ Stopped c n y → c ≡ Astray → ⊥
    unfolding world.carry_link world.idle
    carry_link_clear k v to None i e = no_stop _ y c n e
    carry_link_clear k v to (Some l) i e = carry_cut_clear k v to l i l.cut e

    there_clear : (k v to : ℕ) (o : Option (Vat Name)) → slice_get x.vats v ≡ o → (o ≡ None → ⊥) → world.within v x (world.NoticedAt k v to ∷ []) (world.step_number script k) (notice (names script v) to) o ≡ Stopped c n y → c ≡ Astray → ⊥
    unfolding world.within
    there_clear k v to None q there e = absurd (there refl)
    there_clear k v to (Some s) q there e = put_back_clear v x y _ (world.step_number script k) n c _ (notice_quiet v to (readied x s)) (notice_clear v to x h s q) e

    step_clear : (k : ℕ) (entry : Entry) → IsThereFor x entry → world.step script entry k x ≡ Stopped c n y → c ≡ Astray → ⊥
    unfolding world.step world.cut
    step_clear k (Turn v) i e = absurd i
    step_clear k (Carry v to) i e = carry_link_clear k v to (world.link_at v to x.links) (link_holds (NoteOk (Told script x)) v to x.links h.links) e
    step_clear k (CutLink v to) i e = no_stop _ y c n e
    step_clear k (NoticeLink v to) i e = there_clear k v to (slice_get x.vats v) refl i e

pub arrivals_are_not_astray : ArrivalsAreNotAstray
arrivals_are_not_astray script once w x y es entry k l n c i opened stepped e =
    step_clear script x y (steps_stand script es k w x (opened_stands script once script.vats [] w (sym (append-nil script.vats)) opened) stepped) c n l entry i e
