-- What ends a text.
use Rattle.std.proofs.Common.{◌≡◌, ◌-◌, ◌++◌, ◌==◌, ℕ, Bool, true, false, cond, List, [], ◌∷◌, length, get_or, take, map, Some, None, refl, sym, ap, ◌∙◌, arith}
use Rattle.std.proofs.lemmas.List.{length-append, map-append}
use Rattle.std.proofs.Math.Seq.{get_or-append_seam}
use Rattle.ev_text.specs.Lines.{ended}

front_of : (front : List (List ℕ)) (last : List ℕ) → take (length front) (front ++ last ∷ []) ≡ front
front_of [] last = refl
front_of (part ∷ front) last = ap (λ (xs : List (List ℕ)). part ∷ xs) (front_of front last)

place_of : (front : List (List ℕ)) (last : List ℕ) → length (front ++ last ∷ []) - 1 ≡ length front
place_of front last = omega (arith, length-append front (last ∷ []))

-- the last part stands behind the others
ended_by : (front : List (List ℕ)) (last : List ℕ) → ended (front ++ last ∷ []) ≡ cond (length last == 0) (Some front) None
ended_by front last =
    let whole = front ++ last ∷ [] in
    ap (λ (k : ℕ). cond (length (get_or whole k []) == 0) (Some (take k whole)) None) (place_of front last)
    ∙ ap (λ (part : List ℕ). cond (length part == 0) (Some (take (length front) whole)) None) (get_or-append_seam front last [] [])
    ∙ ap (λ (xs : List (List ℕ)). cond (length last == 0) (Some xs) None) (front_of front last)

seen : {X : Type 0} (now : X → List ℕ) (front : List X) (last : X) → ended (map now (front ++ last ∷ [])) ≡ cond (length (now last) == 0) (Some (map now front)) None
seen now front last = ap ended (map-append now front (last ∷ [])) ∙ ended_by (map now front) (now last)

pub closed : {X : Type 0} (now : X → List ℕ) (parts front : List X) (last : X) (text : List (List ℕ)) → map now parts ≡ text → parts ≡ front ++ last ∷ []
    → (length (now last) == 0) ≡ true → Some (map now front) ≡ ended text
closed {X} now parts front last text is by e =
    sym (ap ended (sym is) ∙ ap (λ (xs : List X). ended (map now xs)) by ∙ seen now front last ∙ ap (λ (b : Bool). cond b (Some (map now front)) None) e)

pub not_closed : {X : Type 0} (now : X → List ℕ) (parts front : List X) (last : X) (text : List (List ℕ)) → map now parts ≡ text → parts ≡ front ++ last ∷ []
    → (length (now last) == 0) ≡ false → None ≡ ended text
not_closed {X} now parts front last text is by e =
    sym (ap ended (sym is) ∙ ap (λ (xs : List X). ended (map now xs)) by ∙ seen now front last ∙ ap (λ (b : Bool). cond b (Some (map now front)) None) e)
