-- What evaluation reads in the inside of a vat is what references read there.
use Rattle.std.proofs.Common.{◌≡◌, ℕ, ◌++◌, List, [], Option, Some, refl, ap, ◌∙◌}
use Rattle.std.specs.Prelude.{slice_get, unwrap_or}
use Rattle.std.proofs.lemmas.Option.{slice_get_within}
use Rattle.ev_base.specs.declared.values.Value.{Value as Held}
use Rattle.ev_heap.specs.Contents.{Contents}
use Rattle.def_machine.specs.Refs.{follow, place}
use Rattle.def_machine.specs.Values.{Words}
use Rattle.ev_pass.specs.Reading.{Reads, around, vat_at}
use Rattle.ev_pass.specs.declared.interior.Interior.{Interior}
use Rattle.ev_refs.specs.Follow.{followed, place_of}
use Rattle.ev_refs.specs.Reading.{place_by}
use Rattle.ev_refs.specs.Statements.{KnowsTexts}
use Rattle.ev_refs.proofs.Machine.{follow_is, place_is}
use Rattle.ev_room.specs.Sound.{KnowsProblems}
use Rattle.ev_intro.specs.Word.{word}
use Rattle.ev_room.specs.Reading.{World, beside, line_of, names, text_of, texts_of, value_of, vat_of}
use Rattle.law_evaluation.proofs.Acts.Sounds.{got_front}

knows : (w : World) (i : Interior) → KnowsProblems i → KnowsTexts (texts_of w) i.refs
knows w i k = (ap (λ (n : ℕ). text_of w n) k.partition, ap (λ (n : ℕ). text_of w n) k.cycle)

-- a text of the heap is that of the end
text_front : (ts us more : List Words) → ts ≡ us ++ more → (id : ℕ) (t : Words) → slice_get us id ≡ Some t → slice_get ts id ≡ Some t
text_front ts us more e id t h = ap (λ (x : List Words). slice_get x id) e ∙ got_front us more id (slice_get_within us id t h) ∙ h

pub reads : (w : World) (i : Interior) (more : List Words) → KnowsProblems i → texts_of w ≡ i.heap.texts ++ more → Reads (texts_of w) i.words.key i
reads w i more k e = record {
  known = knows w i k;
  heavy = ap (λ (n : ℕ). text_of w n) k.heavy;
  texts = λ id t h. ap (λ (o : Option Words). unwrap_or o []) (text_front (texts_of w) i.heap.texts more e id t h);
  drawn = refl;
}

pub stands : (w : World) (i j : Interior) → j.heap ≡ i.heap → vat_of w j ≡ vat_at (texts_of w) (line_of w) j (beside w i)
unfolding vat_of
stands w i j e = ap (λ (h : Contents). vat_at (texts_of w) (line_of w) j (beside w (record i { heap = h }))) e

pub follows : (w : World) (i : Interior) (v : Held) → KnowsProblems i → follow (names w) (vat_of w i) (value_of w v) ≡ value_of w (followed i.refs v)
unfolding vat_of
follows w i v k = follow_is (word w.key) (texts_of w) i.refs (around (texts_of w) (line_of w) i (beside w i)) v (knows w i k)

pub places : (w : World) (i : Interior) (v : Held) → place (names w) (vat_of w i) (value_of w v) ≡ place_by (texts_of w) (place_of i.refs v)
unfolding vat_of
places w i v = place_is (word w.key) (texts_of w) i.refs (around (texts_of w) (line_of w) i (beside w i)) v
