use Rattle.std.proofs.Common.{◌∙◌, ap, sym}
use Rattle.ev_see_top.specs.Due.{IsFor, told_asked, told_due, most_bytes}
use Rattle.ev_see_top.proofs.ReadLemmas.{whole_read}
use Rattle.ev_see_top.proofs.DueLemmas.{few_asked}
use Rattle.ev_see_top.proofs.asking.asked_told.Goals as goal

pub returns-in_ok-answer_told-in-Ok-clause-due : goal.returns-in_ok-answer_told-in-Ok-clause-due
returns-in_ok-answer_told-in-Ok-clause-due g c =
    let answer = c.in_ok-answer_told-in-Ok.field-0 in
    whole_read (λ input. IsFor answer (told_asked c.args.drawn input)) most_bytes (g.S.Source.left c.args.src.now) (g.S.Source.left c.read_all.new.src) c.in-Ok.bytes c.in-Ok.ensures.taken c.in-Ok.ensures.end
    (λ few. c.in_ok-answer_told-in-Ok.ensures.due ∙ ap (told_due c.args.drawn) c.as_slice.ensures ∙ sym (few_asked c.args.drawn c.in-Ok.bytes few))
