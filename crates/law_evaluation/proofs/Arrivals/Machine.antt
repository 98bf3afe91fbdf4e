-- What arrives is what arrives in the machine.
use Rattle.std.proofs.Common.{◌≡◌, ℕ, ◌++◌, List, Ok, Err, length, map, refl, sym, ap, ◌∙◌}
use Rattle.ev_base.specs.declared.values.Value.{Value as Held}
use Rattle.ev_heap.specs.declared.kept.Cell.{Cell}
use Rattle.ev_heap.specs.declared.kept.Thing.{Thing}
use Rattle.def_machine.specs.Arrive as machine
use Rattle.def_machine.specs.Receive as receiving
use Rattle.def_machine.specs.State as state
use Rattle.def_machine.specs.State.{Done, Vat}
use Rattle.def_machine.specs.Values.{Words, Local}
use Rattle.ev_arrive.proofs.Notices.{notices_is}
use Rattle.ev_arrive.specs.Acts.{Out}
use Rattle.ev_arrive.specs.Noticing.{notice}
use Rattle.ev_arrive.specs.Reading.{Stands, with_gifts}
use Rattle.ev_arrive.specs.declared.host.Host.{Host}
use Rattle.ev_pass.specs.Reading.{vat_at}
use Rattle.ev_pass.specs.declared.interior.Interior.{Interior}
use Rattle.ev_pass.specs.declared.interior.Stop.TheVariants.{Fuel, Repeated, Astray, Missing, Memory}
use Rattle.ev_arrive.proofs.Arrives.{arrives_is}
use Rattle.ev_arrive.proofs.Receives.{receives_is}
use Rattle.ev_arrive.specs.Hearing.{Name, Sees, TellsLists, heard_by}
use Rattle.ev_arrive.specs.Noting.{arrive}
use Rattle.ev_arrive.specs.Receiving.{receive}
use Rattle.ev_arrive.specs.declared.brought.Heard.{Heard}
use Rattle.ev_arrive.specs.declared.receiving.Sight.{Sight}
use Rattle.ev_room.specs.Reading.{World, beside, cell_of, line_of, names, referred_line, texts_of, thing_of, vat_of}
use Rattle.ev_room.specs.Sound.{IsSound}
use Rattle.law_evaluation.proofs.Acts.Referring.{reads_before}
use Rattle.law_evaluation.proofs.Acts.Lines.{line_tells}
use Rattle.law_evaluation.specs.Arrivals.Arrivals.{EndsSound, Means, MoreLists, NoteFits, vat_in}
use Rattle.law_evaluation.proofs.Arrivals.Arrives as sounds
use Rattle.law_evaluation.proofs.Arrivals.Receives as notes

-- lists that come in have their lines
tells_lists : (w : World) → TellsLists (texts_of w) (line_of w)
unfolding line_of referred_line
tells_lists w k vs = refl

module _ (w : World) (h : Host) where
  -- objects, slots and activations are as they were
  beside_same : (t : Interior) → MoreLists h.inside.heap t.heap → beside w t ≡ beside w h.inside
  beside_same t m =
      let u = t.heap in
      let v = h.inside.heap in
      ap (λ (xs : List Thing). record w.before { things = map (thing_of w) xs; slots = map (cell_of w) u.slots; activations = length u.codes }) m.things
      ∙ ap (λ (xs : List Cell). record w.before { things = map (thing_of w) v.things; slots = map (cell_of w) xs; activations = length u.codes }) m.slots
      ∙ ap (λ (xs : List Held). record w.before { things = map (thing_of w) v.things; slots = map (cell_of w) v.slots; activations = length xs }) m.codes

  vat_is : (k : Host) → MoreLists h.inside.heap k.inside.heap → vat_at (texts_of w) (line_of w) k.inside (with_gifts k.gifts (beside w h.inside)) ≡ vat_in w k
  unfolding vat_of
  vat_is k m = sym (ap (λ (b : Vat Local). vat_at (texts_of w) (line_of w) k.inside (with_gifts k.gifts b)) (beside_same k.inside m))

  -- what leaves the vat sound and stands for what the machine does, means that
  means_by : (o : Out (Unit {0})) (d : Done Local (Unit {0})) → EndsSound h.inside o → Stands (texts_of w) w.key (line_of w) (beside w h.inside) (λ (u : Unit {0}). u) o d → Means w o d
  means_by (Ok u, k) d g s = s.0 ∙ ap (state.Gives tt) (vat_is k g.1.heap)
  means_by (Err Fuel, k) d g s = s ∙ ap (state.Stops state.Fuel) (vat_is k g.1.heap)
  means_by (Err (Repeated i j), k) d g s = s ∙ ap (state.Stops (state.Repeated i j)) (vat_is k g.1.heap)
  means_by (Err Astray, k) d g s = s ∙ ap (state.Stops state.Astray) (vat_is k g.1.heap)
  means_by (Err Missing, k) d g s = absurd g.0
  means_by (Err Memory, k) d g s = tt

pub receives : (w : World) (more : List Words) (h : Host) (n : Local) (x : Name) (c : ℕ) (sight : receiving.Sight Local) (from : ℕ) (see : Sight) (note : Heard)
    → IsSound h.inside → NoteFits h.inside.heap note → Sees sight h note see → texts_of w ≡ h.inside.heap.texts ++ more → h.inside.words.key ≡ w.key
    → Means w (receive from see note h) (receiving.receive (names w) sight from (heard_by (texts_of w) n x c from note) (vat_in w h))
unfolding vat_of
receives w more h n x c sight from see note sound f s front key =
    means_by w h (receive from see note h) _ (notes.receives h from see note sound f)
    (receives_is (texts_of w) w.key (line_of w) (beside w h.inside) (line_tells w) (tells_lists w) n x c sight see from note h (reads_before h.inside sound w ((more, front), key)) s)

pub arrives : (w : World) (more : List Words) (h : Host) (n : Local) (x : Name) (c : ℕ) (from : ℕ) (note : Heard)
    → IsSound h.inside → NoteFits h.inside.heap note → texts_of w ≡ h.inside.heap.texts ++ more → h.inside.words.key ≡ w.key
    → Means w (arrive from note h) (machine.arrive (names w) from (heard_by (texts_of w) n x c from note) (vat_in w h))
unfolding vat_of
arrives w more h n x c from note sound f front key =
    means_by w h (arrive from note h) _ (notes.arrive_ends from note h sound f)
    (arrives_is (texts_of w) w.key (line_of w) (beside w h.inside) (line_tells w) (tells_lists w) n x c from note h (reads_before h.inside sound w ((more, front), key)))

pub notices : (w : World) (more : List Words) (h : Host) (v : ℕ) → IsSound h.inside → texts_of w ≡ h.inside.heap.texts ++ more → h.inside.words.key ≡ w.key
    → Means w (notice v h) (machine.notice (names w) v (vat_in w h))
unfolding vat_of
notices w more h v sound front key =
    means_by w h (notice v h) _ (sounds.notices h v sound) (notices_is (texts_of w) w.key (line_of w) (beside w h.inside) (line_tells w) v h (reads_before h.inside sound w ((more, front), key)))
