use Rattle.ev_generate.proofs.EntryLemmas.{appended}
use Rattle.ev_generate.proofs.push_vats.Goals as goal

pub returns : goal.returns
returns c = appended _ _ _ _ _ _ _ c.in_ok-push_str.ensures.bytes c.in_ok-write.ensures.bytes c.in_ok-push_str-2.ensures.bytes
