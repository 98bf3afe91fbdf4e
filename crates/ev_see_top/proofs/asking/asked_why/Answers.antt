use Rattle.std.proofs.Common.{subst, List, ℕ}
use Rattle.ev_see_top.specs.Due.{IsWhy, IsWhyAsked, debt_of, most_bytes}
use Rattle.ev_see_top.proofs.ReadLemmas.{whole_read}
use Rattle.ev_see_top.proofs.DueLemmas.{why_few}
use Rattle.ev_see_top.proofs.asking.asked_why.Goals as goal

pub returns-in_ok-answer_why-in-Ok-clause-due : goal.returns-in_ok-answer_why-in-Ok-clause-due
returns-in_ok-answer_why-in-Ok-clause-due g c =
    let debt = debt_of c.in_ok-answer_why-in-Ok.field-0 in
    let bytes = c.in-Ok.bytes in
    whole_read (λ input. IsWhyAsked c.args.is_strict input debt) most_bytes (g.S.Source.left c.args.src.now) (g.S.Source.left c.read_all.new.src) bytes c.in-Ok.ensures.taken c.in-Ok.ensures.end
    (λ few. why_few c.args.is_strict bytes debt few (subst (λ (b : List ℕ). IsWhy c.args.is_strict b debt) c.as_slice.ensures c.in_ok-answer_why-in-Ok.ensures.due))
