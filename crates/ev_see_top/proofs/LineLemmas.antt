-- Lines that are lent, and their words.
use Rattle.std.proofs.Common.{◌≡◌, ℕ, List, [], ◌∷◌, map, refl, ap, Bor}
use Rattle.ev_trace_words.specs.Words.{words_of}

pub fused : (ts : List (Bor (List ℕ))) → map (λ t. words_of t.now) ts ≡ map words_of (map (λ t. t.now) ts)
fused [] = refl
fused (t ∷ ts) = ap (λ (ws : List (List (List ℕ))). words_of t.now ∷ ws) (fused ts)
