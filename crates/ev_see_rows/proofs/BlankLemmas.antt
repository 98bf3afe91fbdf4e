-- Where there is no line there is no phrase.
use Rattle.std.proofs.Common.{◌≡◌, ◌++◌, [], Option, None, append-nil, sym, ◌∙◌, ap}
use Rattle.std.specs.Prelude.{unwrap_or}
use Rattle.def_see.specs.declared.line.Line.{Line}
use Rattle.def_see.specs.Words.{Words, is_act, is_entry}
use Rattle.def_see.specs.Rows.{carry_phrase, fate_phrase}

abbrev pub blank : Line
blank = record { label = []; at = []; words = [] }

pub no_carry : (found : Words) (o : Option Line) → o ≡ None → found ≡ found ++ carry_phrase (unwrap_or o blank)
unfolding carry_phrase is_entry
no_carry found o is = sym (append-nil found) ∙ ap (λ (p : Option Line). found ++ carry_phrase (unwrap_or p blank)) (sym is)

pub no_fate : (found : Words) (o : Option Line) → o ≡ None → found ≡ found ++ fate_phrase (unwrap_or o blank)
unfolding fate_phrase is_act
no_fate found o is = sym (append-nil found) ∙ ap (λ (p : Option Line). found ++ fate_phrase (unwrap_or p blank)) (sym is)
