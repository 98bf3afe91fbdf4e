-- The closing list, name by name.
use Rattle.std.proofs.Common.{◌≡◌, ◌∙◌, ◌+◌, ◌<◌, ◌≤◌, ℕ, suc, List, ◌∷◌, ◌++◌, drop, length, map, get_or, sym, ap, append_assoc, append-nil, arith}
use Rattle.std.proofs.lemmas.List.{drop_more, drop_all}
use Rattle.def_event.specs.declared.event.Event.{Event}
use Rattle.ev_refs.specs.declared.known.Known.{Known}
use Rattle.ev_step_lines.specs.Lines.{Naming}
use Rattle.ev_vat.specs.Closing.{held_line, wait_line, held_lines, wait_lines}

-- what is held at the next name is told
pub held_on : (t : Naming) (ks : List Known) (i : ℕ) (k : Known) (done more whole : List Event) → i < length ks → k ≡ get_or ks i k
    → more ≡ done ++ map (held_line t i) k.held → done ++ held_lines t i (drop i ks) ≡ whole → more ++ held_lines t (i + 1) (drop (i + 1) ks) ≡ whole
unfolding held_lines
held_on t ks i k done more whole lt is told so_far =
    let next : drop i ks ≡ k ∷ drop (i + 1) ks = drop_more ks i k lt ∙ ap (λ (z : Known). z ∷ drop (i + 1) ks) (sym is) in
    let counted : i + 1 ≡ suc i = omega arith in
    ap (λ (es : List Event). es ++ held_lines t (i + 1) (drop (i + 1) ks)) told
    ∙ append_assoc done (map (held_line t i) k.held) (held_lines t (i + 1) (drop (i + 1) ks))
    ∙ ap (λ (n : ℕ). done ++ (map (held_line t i) k.held ++ held_lines t n (drop (i + 1) ks))) counted
    ∙ ap (λ (zs : List Known). done ++ held_lines t i zs) (sym next)
    ∙ so_far

pub held_end : (t : Naming) (ks : List Known) (i : ℕ) (done whole : List Event) → length ks ≤ i → done ++ held_lines t i (drop i ks) ≡ whole → done ≡ whole
unfolding held_lines
held_end t ks i done whole le so_far = sym (append-nil done) ∙ ap (λ (zs : List Known). done ++ held_lines t i zs) (sym (drop_all i ks le)) ∙ so_far

-- the reactions on the next name are told
pub waits_on : (t : Naming) (ks : List Known) (i : ℕ) (k : Known) (done more whole : List Event) → i < length ks → k ≡ get_or ks i k
    → more ≡ done ++ map (wait_line t i) k.reactions → done ++ wait_lines t i (drop i ks) ≡ whole → more ++ wait_lines t (i + 1) (drop (i + 1) ks) ≡ whole
unfolding wait_lines
waits_on t ks i k done more whole lt is told so_far =
    let next : drop i ks ≡ k ∷ drop (i + 1) ks = drop_more ks i k lt ∙ ap (λ (z : Known). z ∷ drop (i + 1) ks) (sym is) in
    let counted : i + 1 ≡ suc i = omega arith in
    ap (λ (es : List Event). es ++ wait_lines t (i + 1) (drop (i + 1) ks)) told
    ∙ append_assoc done (map (wait_line t i) k.reactions) (wait_lines t (i + 1) (drop (i + 1) ks))
    ∙ ap (λ (n : ℕ). done ++ (map (wait_line t i) k.reactions ++ wait_lines t n (drop (i + 1) ks))) counted
    ∙ ap (λ (zs : List Known). done ++ wait_lines t i zs) (sym next)
    ∙ so_far

pub waits_end : (t : Naming) (ks : List Known) (i : ℕ) (done whole : List Event) → length ks ≤ i → done ++ wait_lines t i (drop i ks) ≡ whole → done ≡ whole
unfolding wait_lines
waits_end t ks i done whole le so_far = sym (append-nil done) ∙ ap (λ (zs : List Known). done ++ wait_lines t i zs) (sym (drop_all i ks le)) ∙ so_far
