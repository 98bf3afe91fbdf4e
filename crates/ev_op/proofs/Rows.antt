-- Spellings of some operations, by computing.
use Rattle.std.proofs.Common.{◌≡◌, ℕ, ◌^◌, ◌-◌, List, [], ◌∷◌, ◌++◌, refl}
use Rattle.std.specs.Prelude.{codes, pos, negsuc}
use Rattle.def_op.specs.Numbers.{unsigned, signed, digits, low_first}
use Rattle.def_op.specs.Frames.{YourExport, YourAnswer, MyExport, MyPromise, MyAnswer, Third, To, Elsewhere, Deliver, Resolve, Provide, Accept, Shorten, none, more, spelling, desc_bytes, count, outcome_bytes}

-- the bytes 76 b8 e0 ad a0 f1 3d 90 40 5d 6a e5 53 86 bd 28
draw : ℕ
draw = 0x28bd8653e56a5d40903df1a0ade0b876

draw_bytes : List ℕ
draw_bytes = 0x76 ∷ 0xb8 ∷ 0xe0 ∷ 0xad ∷ 0xa0 ∷ 0xf1 ∷ 0x3d ∷ 0x90 ∷ 0x40 ∷ 0x5d ∷ 0x6a ∷ 0xe5 ∷ 0x53 ∷ 0x86 ∷ 0xbd ∷ 0x28 ∷ []

deliver : spelling (Deliver 0 (YourExport 0) (codes "meet") (more (Third 2 draw) none)) ≡ (1 ∷ 0 ∷ 9 ∷ 0 ∷ 4 ∷ codes "meet") ++ (1 ∷ 13 ∷ 2 ∷ draw_bytes)
unfolding spelling desc_bytes count digits low_first draw draw_bytes
deliver = refl

accept : spelling (Accept 0 0 draw) ≡ 4 ∷ 0 ∷ 0 ∷ draw_bytes
unfolding spelling digits low_first draw draw_bytes
accept = refl

provide : spelling (Provide (YourExport 0) draw) ≡ 3 ∷ 9 ∷ 0 ∷ draw_bytes
unfolding spelling desc_bytes digits low_first draw draw_bytes
provide = refl

resolve : spelling (Resolve (MyPromise 0) (To (MyExport 1))) ≡ 2 ∷ 12 ∷ 0 ∷ 11 ∷ 1 ∷ []
unfolding spelling desc_bytes outcome_bytes digits
resolve = refl

elsewhere : spelling (Resolve (MyAnswer 0) (Elsewhere 2)) ≡ 2 ∷ 14 ∷ 0 ∷ 15 ∷ 2 ∷ []
unfolding spelling desc_bytes outcome_bytes digits
elsewhere = refl

shorten : spelling (Shorten (YourAnswer 0) draw) ≡ 5 ∷ 10 ∷ 0 ∷ draw_bytes
unfolding spelling desc_bytes digits low_first draw draw_bytes
shorten = refl

numbers : List (List ℕ)
numbers = unsigned 127 ∷ unsigned 128 ∷ unsigned 300 ∷ signed (pos 63) ∷ signed (pos 64) ∷ signed (negsuc 63) ∷ signed (negsuc 64) ∷ signed (negsuc 127) ∷ []

numbers-are : numbers ≡ (127 ∷ []) ∷ (128 ∷ 1 ∷ []) ∷ (172 ∷ 2 ∷ []) ∷ (63 ∷ []) ∷ (192 ∷ 0 ∷ []) ∷ (64 ∷ []) ∷ (191 ∷ 127 ∷ []) ∷ (128 ∷ 127 ∷ []) ∷ []
unfolding numbers digits
numbers-are = refl

ends : unsigned (2 ^ 64 - 1) ≡ 255 ∷ 255 ∷ 255 ∷ 255 ∷ 255 ∷ 255 ∷ 255 ∷ 255 ∷ 255 ∷ 1 ∷ []
unfolding digits
ends = refl
