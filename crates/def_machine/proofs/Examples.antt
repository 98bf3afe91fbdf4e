-- Small cases of the definitions, by computing.
use Rattle.std.proofs.Common.{◌≡◌, ℕ, [], ◌∷◌, ◌^◌, refl}
use Rattle.std.specs.Prelude.{pos, negsuc, neg_ℤ, Ok, Err, codes}
use Rattle.def_machine.specs.Ints.{apply, FloorDivide, Remainder, Mod, Pow, And, Xor, opened_ints}
use Rattle.def_machine.specs.Values.{Number, Text}
use Rattle.def_machine.specs.Native.{data_reply, Says, Writes, opened_native}

floors : apply FloorDivide (neg_ℤ (pos 7)) (pos 2) ≡ Ok (neg_ℤ (pos 4))
unfolding opened_ints
floors = refl

remains : apply Remainder (neg_ℤ (pos 7)) (pos 2) ≡ Ok (neg_ℤ (pos 1))
unfolding opened_ints
remains = refl

mods : apply Mod (neg_ℤ (pos 7)) (pos 2) ≡ Ok (pos 1)
unfolding opened_ints
mods = refl

least : apply FloorDivide (neg_ℤ (pos (2 ^ 127))) (neg_ℤ (pos 1)) ≡ Err (codes "integer overflow")
unfolding opened_ints
least = refl

least_mod : apply Mod (neg_ℤ (pos (2 ^ 127))) (neg_ℤ (pos 1)) ≡ Ok (pos 0)
unfolding opened_ints
least_mod = refl

least_power : apply Pow (neg_ℤ (pos 2)) (pos 127) ≡ Ok (neg_ℤ (pos (2 ^ 127)))
unfolding opened_ints
least_power = refl

high_power : apply Pow (pos 2) (pos 1000000000000) ≡ Err (codes "integer overflow")
unfolding opened_ints
high_power = refl

ands : apply And (neg_ℤ (pos 1)) (pos 12) ≡ Ok (pos 12)
unfolding opened_ints
ands = refl

xors : apply Xor (neg_ℤ (pos 1)) (pos 0) ≡ Ok (neg_ℤ (pos 1))
unfolding opened_ints
xors = refl

says_text : data_reply {N = ℕ} [] (Text (97 ∷ 195 ∷ 169 ∷ [])) (codes "size") [] [] ≡ Says (Number (pos 2))
unfolding opened_native
says_text = refl

part_text : data_reply {N = ℕ} [] (Text (97 ∷ 195 ∷ 169 ∷ 98 ∷ [])) (codes "run") (Number (pos 1) ∷ Number (pos 2) ∷ []) (Number (pos 1) ∷ Number (pos 2) ∷ []) ≡ Writes (195 ∷ 169 ∷ [])
unfolding opened_native
part_text = refl

adds_text : data_reply {N = ℕ} [] (Text (codes "a")) (codes "add") (Number (negsuc 4) ∷ []) (Number (negsuc 4) ∷ []) ≡ Writes (codes "a-5")
unfolding opened_native
adds_text = refl

most : apply Pow (pos 2) (pos 127) ≡ Err (codes "integer overflow")
unfolding opened_ints
most = refl

middle_text : data_reply {N = ℕ} [] (Text (codes "abcd")) (codes "run") (Number (pos 1) ∷ Number (pos 3) ∷ []) (Number (pos 1) ∷ Number (pos 3) ∷ []) ≡ Writes (codes "bc")
unfolding opened_native
middle_text = refl
