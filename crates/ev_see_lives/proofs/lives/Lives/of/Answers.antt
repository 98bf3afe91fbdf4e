use Rattle.std.proofs.Common.{◌∙◌, ap, sym, map, filter, List, ℕ, String, string_bytes}
use Rattle.std.specs.Str.{bytes_eq}
use Rattle.std.specs.declared.alloc.Global.{Global}
use Rattle.ev_see_lives.specs.Lives.{numbers_of}
use Rattle.ev_see_lives.proofs.LifeLemmas.{life_by}
use Rattle.ev_see_lives.proofs.lives.Lives.of.Goals as goal

pub returns : goal.returns
unfolding numbers_of
returns c = λ q.
    c.in_ok-numbers.ensures q
    ∙ ap (λ (ps : List (String Global × ℕ)). map (λ (e : String Global × ℕ). e.1) (filter (λ (e : String Global × ℕ). bytes_eq q (string_bytes e.0)) ps)) c.deref.ensures.value
    ∙ sym (life_by q c.args.lines.now c.in_ok-pairs.pairs.items c.in_ok-pairs.ensures)
