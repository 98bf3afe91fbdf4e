-- The bytes of a frame are read again.
use Rattle.std.proofs.Common.{◌≡◌, ◌<◌, ℕ, zero, suc, true, ltb, List, [], ◌∷◌, length, refl, arith}
use Rattle.std.specs.Prelude.{Ok}
use Rattle.std.specs.List.{list_all}
use Rattle.std.proofs.lemmas.Bool.{lt-ltb}
use Rattle.hex.specs.Hex.{IsBytes, decode_of}
use Rattle.def_event.specs.Lines.{hex}
use Rattle.ev_text.specs.Lines.{is_lower_digit}
use Rattle.law_text.specs.Text.Feeds.{AllOf}
use Rattle.ev_trace_words.proofs.Hexed.{hex_again, hex_lower}
use Rattle.ev_trace_lines.specs.Events.{bytes_of}
use Rattle.law_trace.specs.Trace.Readable.{AreBytes}

pub each_byte : (xs : List ℕ) → AllOf (λ b. b < 256) xs → IsBytes xs
each_byte [] h i = omega arith
each_byte (x ∷ xs) h zero = h.0
each_byte (x ∷ xs) h (suc i) = each_byte xs h.1 i

some_digits : (xs : List ℕ) → 0 < length xs → 0 < length (hex xs)
some_digits [] h = absurd (omega arith)
some_digits (x ∷ xs) h = omega arith

read_by : (word xs : List ℕ) → ltb 0 (length word) ≡ true → list_all is_lower_digit word ≡ true → decode_of word ≡ Ok xs → bytes_of word ≡ Ok xs
read_by word xs e f g = rw (e, f, g) refl

pub bytes_again : (xs : List ℕ) → AreBytes xs → bytes_of (hex xs) ≡ Ok xs
bytes_again xs h =
    let bytes = each_byte xs h.1 in
    read_by (hex xs) xs (lt-ltb 0 (length (hex xs)) (some_digits xs h.0)) (hex_lower xs bytes) (hex_again xs bytes)
