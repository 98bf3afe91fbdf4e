use Rattle.std.proofs.Common.{ℕ, List, refl, subst, sym}
use Rattle.ev_step_text.specs.Spelled.{IsKnown}
use Rattle.ev_step_text.proofs.SpelledLemmas.{none_known}
use Rattle.ev_step_text.proofs.write.write_all.Goals as goal

pub loop-entry-init : goal.loop-entry-init
loop-entry-init c = (refl, none_known c.args.read.verbs 64)

pub write_entry-requires-clause-known : goal.write_entry-requires-clause-known
write_entry-requires-clause-known c = subst (λ (verbs : List (List ℕ)). IsKnown verbs c.loop-entry.known) (sym c.next.ensures.verbs) c.loop-entry.invariant.1
