-- The first two draws under the key of zeros.
use Rattle.std.proofs.Common.{◌≡◌, ℕ, List, [], ◌∷◌, refl}
use Rattle.def_run.specs.Draws.{draw_word, opened_draws}

zeros : List ℕ
zeros = 0 ∷ 0 ∷ 0 ∷ 0 ∷ 0 ∷ 0 ∷ 0 ∷ 0 ∷ 0 ∷ 0 ∷ 0 ∷ 0 ∷ 0 ∷ 0 ∷ 0 ∷ 0 ∷ 0 ∷ 0 ∷ 0 ∷ 0 ∷ 0 ∷ 0 ∷ 0 ∷ 0 ∷ 0 ∷ 0 ∷ 0 ∷ 0 ∷ 0 ∷ 0 ∷ 0 ∷ 0 ∷ []

draw_0 : draw_word zeros 0 ≡ 0x28bd8653e56a5d40903df1a0ade0b876
unfolding opened_draws zeros
draw_0 = refl

draw_1 : draw_word zeros 1 ≡ 0xc70d778bccef36a81aed8da0b819d2bd
unfolding opened_draws zeros
draw_1 = refl
