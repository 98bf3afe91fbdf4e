use Rattle.std.proofs.Common.{◌∷◌, [], map, refl}
use Rattle.ev_script.specs.declared.script.Entry.TheVariants.{Turn}
use Rattle.ev_script.proofs.RoundLemmas.{goes}
use Rattle.ev_script.proofs.schedule.push_turns.Goals as goal

pub loop-vat-preserved : goal.loop-vat-preserved
loop-vat-preserved c =
    goes (λ vats. map Turn vats) (Turn c.loop-vat.vat ∷ []) c.loop-vat.out.items _ _ c.loop-vat.vat c.args.vats c.loop-vat-test.true refl c.loop-vat.invariant
    c.in_ok-push.ensures.items
