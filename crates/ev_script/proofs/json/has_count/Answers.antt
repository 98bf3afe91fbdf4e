use Rattle.std.proofs.Common.{refl}
use Rattle.std.proofs.lemmas.List.{length-map}
use Rattle.ev_script.proofs.JsonLemmas.{member_count-members_of}
use Rattle.ev_script.proofs.json.has_count.Goals as goal

pub returns-in-Some : goal.returns-in-Some
returns-in-Some c = rw (← c.in-Some.ensures, member_count-members_of, length-map, c.len.ensures.len) refl
