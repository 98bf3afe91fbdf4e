-- Worlds that see a vat with the gifts that it hosts.
use Rattle.std.proofs.Common.{◌≡◌, ℕ, List, [], ◌++◌, map, refl, sym, ap, ◌∙◌, append_assoc, append-nil}
use Rattle.def_machine.specs.State as machine
use Rattle.def_machine.specs.Values.{Words, Local}
use Rattle.ev_arrive.specs.Reading.{gift_by, with_gifts}
use Rattle.ev_intro.specs.Gift.{Gifts}
use Rattle.ev_vat.specs.Standing.{Sees}
use Rattle.ev_pass.specs.declared.interior.Interior.{Interior}
use Rattle.ev_room.specs.Reading.{World, line_of, referred_line, texts_of, vat_of}
use Rattle.ev_room.specs.Sound.{Grown, IsSound, Stays, problems}
use Rattle.ev_vat.specs.Rooted.{fresh}

-- the same world, where the vat had these gifts before
abbrev pub gifted : Gifts → World → World
gifted gs w = record w { before = record w.before { gifts = map gift_by gs } }

gifted_at : (before : machine.Vat Local) (texts : List Words) (key : List ℕ) (gs : Gifts) (i : Interior)
    → with_gifts gs (vat_of (record { before = before; texts = texts; key = key }) i) ≡ vat_of (record { before = record before { gifts = map gift_by gs }; texts = texts; key = key }) i
unfolding vat_of line_of referred_line
gifted_at before texts key gs i = refl

pub gifted_is : (w : World) (gs : Gifts) (i : Interior) → with_gifts gs (vat_of w i) ≡ vat_of (gifted gs w) i
gifted_is w gs i = gifted_at w.before w.texts w.key gs i

-- what sees a later inside sees an earlier one
pub sees_back : (w : World) (i j : Interior) → Grown i.heap j.heap → Stays i j → Sees w j → Sees w i
sees_back w i j g s e = record {
  outbox = e.outbox;
  happened = e.happened;
  rest = g.texts.0 ++ e.rest;
  texts = e.texts ∙ ap (λ (ts : List Words). ts ++ e.rest) g.texts.1 ∙ append_assoc i.heap.texts g.texts.0 e.rest;
  key = sym s ∙ e.key;
}

-- the world of an inside that grew out of one that is sound: its texts are those of the heap
abbrev pub grown_world : (i j : Interior) → IsSound i → Grown i.heap j.heap → World
grown_world i j sound g = record { before = fresh 0 0 [] []; texts = sound.problems_first.0 ++ g.texts.0; key = j.words.key }

pub grown_texts : (i j : Interior) (sound : IsSound i) (g : Grown i.heap j.heap) → texts_of (grown_world i j sound g) ≡ j.heap.texts
grown_texts i j sound g = sym (append_assoc problems sound.problems_first.0 g.texts.0) ∙ ap (λ (ts : List Words). ts ++ g.texts.0) (sym sound.problems_first.1) ∙ sym g.texts.1

pub sees_grown : (i j : Interior) (sound : IsSound i) (g : Grown i.heap j.heap) → Sees (grown_world i j sound g) j
sees_grown i j sound g = record { outbox = refl; happened = refl; rest = []; texts = grown_texts i j sound g ∙ sym (append-nil j.heap.texts); key = refl }
