use Rattle.std.proofs.Common.{arith, sym}
use Rattle.ev_text.proofs.UnquotingLemmas.{none_escapes, cut_behind, some_escapes}
use Rattle.ev_text.proofs.spellings.past_escape.Goals as goal

pub overflow_add-taken : goal.overflow_add-taken
overflow_add-taken c = omega (arith, (cut_behind c.args.rest.now (c.in-Some.c, c.in-Some.taken) c.utf8.rest c.requires (sym c.in-Some.ensures)).0)

pub range_from-requires : goal.range_from-requires
range_from-requires c = λ h. cut_behind c.args.rest.now (c.in-Some.c, c.in-Some.taken) c.utf8.rest c.requires (sym c.in-Some.ensures)

pub returns-in-None-clause-none : goal.returns-in-None-clause-none
returns-in-None-clause-none c = none_escapes c.args.rest.now c.requires (sym c.in-None.ensures)

pub returns-in-Some-clause-some : goal.returns-in-Some-clause-some
returns-in-Some-clause-some c = (some_escapes c.args.rest.now _ (c.in-Some.c, c.in-Some.taken) c.requires (sym c.in-Some.ensures) c.range_from.ensures.value).1
