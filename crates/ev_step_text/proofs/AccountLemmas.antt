-- The text of events, and then of others, is the text of all.
use Rattle.std.proofs.Common.{◌≡◌, ℕ, List, [], ◌∷◌, ◌++◌, refl, sym, ap, ◌∙◌, append_assoc}
use Rattle.def_event.specs.Lines.{line_of, render}
use Rattle.def_event.specs.declared.event.Event.{Event}

pub render_append : (names : List (List ℕ)) (es more : List Event) → render names (es ++ more) ≡ render names es ++ render names more
render_append names [] more = refl
render_append names (e ∷ es) more =
    ap (λ (t : List ℕ). (line_of names e ++ 10 ∷ []) ++ t) (render_append names es more) ∙ sym (append_assoc (line_of names e ++ 10 ∷ []) (render names es) (render names more))

-- a text that grew so has the text of more events
pub text_more : (names : List (List ℕ)) (es more : List Event) (before after : List ℕ) → after ≡ before ++ render names more → before ≡ render names es → after ≡ render names (es ++ more)
text_more names es more before after grew is = grew ∙ ap (λ (t : List ℕ). t ++ render names more) is ∙ sym (render_append names es more)
