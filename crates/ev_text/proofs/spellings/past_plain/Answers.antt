use Rattle.ev_text.proofs.UnquotingLemmas.{cut_plain, plain_split, some_plain}
use Rattle.ev_text.proofs.spellings.past_plain.Goals as goal

pub range-requires-clause-end_boundary : goal.range-requires-clause-end_boundary
range-requires-clause-end_boundary c = cut_plain _ _ c.plain_length-count.ensures

pub range_from-requires : goal.range_from-requires
range_from-requires c = λ h. cut_plain _ _ c.plain_length-count.ensures

pub returns-clause-plain : goal.returns-clause-plain
returns-clause-plain c = plain_split c.args.rest.now c.range.result.now c.range_from.result.now c.plain_length-count.result c.plain_length-count.ensures c.range.ensures.value c.range.ensures.len c.range_from.ensures.value

pub returns-clause-some : goal.returns-clause-some
returns-clause-some c = some_plain c.args.rest.now c.range.result.now c.plain_length-count.result c.plain_length-count.ensures c.range.ensures.len
