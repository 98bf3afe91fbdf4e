-- The names of a host, collected one by one.
use Rattle.std.proofs.Common.{◌≡◌, ◌∙◌, ◌+◌, ◌==◌, ◌≤◌, ℕ, zero, suc, Bool, true, false, List, [], ◌∷◌, ◌++◌, Option, Some, None, drop, length, refl, sym, ap, append_assoc, append-nil, arith}
use Rattle.std.specs.Prelude.{if◌then◌else◌, option_map, slice_get, unwrap_or}
use Rattle.std.proofs.lemmas.List.{drop_all}
use Rattle.ev_refs.specs.declared.known.Known.{Known}
use Rattle.ev_arrive.specs.Noticing.{hosted}

-- whether the host of a name is that vat
pub tested : (w h : ℕ) (o : Option Known) (b : Bool) → option_map (λ k. k.host) o ≡ Some h → b ≡ (h == w) → option_map (λ k. k.host == w) o ≡ Some b
tested w h (Some k) b e is = ap (λ (x : Option ℕ). Some (unwrap_or x zero == w)) e ∙ ap (λ (x : Bool). Some x) (sym is)
tested w h None b e is = cc

-- what stands at a place is the first of the rest from there
splits : (w : ℕ) (ks : List Known) (n : ℕ) (b : Bool) → option_map (λ k. k.host == w) (slice_get ks n) ≡ Some b → (k : Known) × ((drop n ks ≡ k ∷ drop (suc n) ks) × ((k.host == w) ≡ b))
splits w [] n b e = cc
splits w (k ∷ ks) zero b e = (k, (refl, ap (λ (o : Option Bool). unwrap_or o false) e))
splits w (k ∷ ks) (suc n) b e = splits w ks n b e

module _ (w n : ℕ) (ks : List Known) (done whole : List ℕ) (b : Bool) (here : option_map (λ k. k.host == w) (slice_get ks n) ≡ Some b) (so_far : done ++ hosted w n (drop n ks) ≡ whole) where
  abbrev rest : List ℕ
  rest = hosted w (n + 1) (drop (n + 1) ks)

  by_first : (c : Bool) → b ≡ c → hosted w n (drop n ks) ≡ (if c then n ∷ rest else rest)
  by_first c e =
      let first = splits w ks n b here in
      let after : suc n ≡ n + 1 = omega arith in
      ap (λ (z : List Known). hosted w n z) first.1.0
      ∙ ap (λ (m : ℕ). if first.0.host == w then n ∷ hosted w m (drop m ks) else hosted w m (drop m ks)) after
      ∙ ap (λ (x : Bool). if x then n ∷ rest else rest) (first.1.1 ∙ e)

  pub adds : (more pushed : List ℕ) → b ≡ true → more ≡ pushed → pushed ≡ done ++ n ∷ [] → more ++ rest ≡ whole
  adds more pushed is e f = ap (λ (z : List ℕ). z ++ rest) (e ∙ f) ∙ append_assoc done (n ∷ []) rest ∙ ap (λ (z : List ℕ). done ++ z) (sym (by_first true is)) ∙ so_far

  pub skips : (more : List ℕ) → b ≡ false → more ≡ done → more ++ rest ≡ whole
  skips more is e = ap (λ (z : List ℕ). z ++ rest) e ∙ ap (λ (z : List ℕ). done ++ z) (sym (by_first false is)) ∙ so_far

pub ends : (w n : ℕ) (ks : List Known) (done whole : List ℕ) → length ks ≤ n → done ++ hosted w n (drop n ks) ≡ whole → done ≡ whole
ends w n ks done whole le so_far = sym (append-nil done) ∙ ap (λ (z : List Known). done ++ hosted w n z) (sym (drop_all n ks le)) ∙ so_far
