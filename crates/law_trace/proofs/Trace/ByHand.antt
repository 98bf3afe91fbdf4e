-- Lines that say that a frame was put on a link by hand, or that one was malformed, are refused.
use Rattle.std.proofs.Common.{◌≡◌, ◌<◌, ◌≤◌, ℕ, Bool, true, false, ltb, List, [], ◌∷◌, Some, length, refl, sym, ◌∙◌, ap, arith}
use Rattle.std.specs.Prelude.{codes, decimal, Ok, Err}
use Rattle.std.specs.List.{list_all}
use Rattle.std.specs.Str.{bytes_eq}
use Rattle.std.proofs.lemmas.Bool.Decides.{nat_tests}
use Rattle.std.proofs.lemmas.Slice.Eq.{bytes_eq-Decides}
use Rattle.def_event.specs.declared.raw.RawLine.{RawLine}
use Rattle.def_event.specs.declared.raw.RawLine.TheVariants.{Inject, InjectCut, Malformed, Bytes, LeftBytes}
use Rattle.def_event.specs.Lines.{hex, raw_words}
use Rattle.def_event.specs.Lines as lines
use Rattle.ev_script.specs.Vats.{place_of}
use Rattle.ev_text.specs.Lines.{is_lower_digit}
use Rattle.ev_trace_words.specs.Laws.{AreNames}
use Rattle.ev_trace_words.specs.Parts.{count}
use Rattle.ev_trace_words.proofs.Hexed.{hex_lower}
use Rattle.ev_trace_words.proofs.Printed.{count_again, place_again}
use Rattle.ev_trace_lines.specs.Events.{bytes_of, carried, event_of, inject, injection, malformed, three_words}
use Rattle.law_trace.specs.Trace.Readable.{Below, IsByHand}
use Rattle.law_trace.specs.Trace.Events.{FramesByHandAreRefused}
use Rattle.law_trace.proofs.Trace.BytesAgain.{bytes_again, each_byte}
use Rattle.law_trace.proofs.Trace.LinesAgain.{entry_line}

-- digits of bytes are not the word of a link that is cut
no_cut_by : (word : List ℕ) (t : Bool) → bytes_eq word (codes "cut") ≡ t → list_all is_lower_digit word ≡ true → bytes_eq word (codes "cut") ≡ false
no_cut_by word false e h = e
no_cut_by word true e h = let f : false ≡ true = ap (list_all is_lower_digit) (sym ((bytes_eq-Decides word (codes "cut")).0 e)) ∙ h in absurd cc

few : (n : ℕ) → n ≤ 4096 → ltb 4096 n ≡ false
few n h = grind (arith, nat_tests)

bytes_refused : (word bytes : List ℕ) → bytes_eq word (codes "cut") ≡ false → bytes_of word ≡ Ok bytes → ltb 4096 (length bytes) ≡ false → injection word ≡ Err 43
bytes_refused word bytes e f g = rw e (rw f (rw g refl))

place_refused : (word : List ℕ) (n : ℕ) → count word ≡ Some n → malformed (word ∷ []) ≡ Err 43
place_refused word n e = rw e refl

module _ (names : List (List ℕ)) where
  injects : (x y what : List ℕ) (v w : ℕ) → place_of names x ≡ Some v → place_of names y ≡ Some w → inject names (x ∷ y ∷ what ∷ []) ≡ injection what
  unfolding three_words
  injects x y what v w e f = rw e (rw f refl)

  carries : (k : ℕ) (x y what : List ℕ) (v w : ℕ) → place_of names x ≡ Some v → place_of names y ≡ Some w → carried names k (x ∷ y ∷ codes "malformed" ∷ what ∷ []) ≡ malformed (what ∷ [])
  carries k x y what v w e f = rw e (rw f refl)

module _ (names : List (List ℕ)) (are : AreNames names) where
  vat_back : (v : ℕ) → v < length names → place_of names (lines.vat names v) ≡ Some v
  vat_back v h = place_again names v are.apart h

  refused : (line : RawLine) → IsByHand (Below names) line → event_of names (raw_words names line) ≡ Err 43
  refused (Inject k v w bytes) h =
      entry_line names k (codes "inject" ∷ lines.vat names v ∷ lines.vat names w ∷ hex bytes ∷ []) h.0
      ∙ injects names (lines.vat names v) (lines.vat names w) (hex bytes) v w (vat_back v h.1) (vat_back w h.2)
      ∙ bytes_refused (hex bytes) bytes (no_cut_by (hex bytes) (bytes_eq (hex bytes) (codes "cut")) refl (hex_lower bytes (each_byte bytes h.3.1))) (bytes_again bytes h.3) (few (length bytes) h.4)
  refused (InjectCut k v w) h =
      entry_line names k (codes "inject" ∷ lines.vat names v ∷ lines.vat names w ∷ codes "cut" ∷ []) h.0
      ∙ injects names (lines.vat names v) (lines.vat names w) (codes "cut") v w (vat_back v h.1) (vat_back w h.2)
  refused (Malformed k v w place) h =
      entry_line names k (codes "carry" ∷ lines.vat names v ∷ lines.vat names w ∷ codes "malformed" ∷ decimal place ∷ []) h.0
      ∙ carries names k (lines.vat names v) (lines.vat names w) (decimal place) v w (vat_back v h.1) (vat_back w h.2)
      ∙ place_refused (decimal place) place (count_again place h.3)
  refused (Bytes k v w bytes) h = absurd h
  refused (LeftBytes v w bytes) h = absurd h

pub all_refused : FramesByHandAreRefused
all_refused names line are h = refused names are line h
