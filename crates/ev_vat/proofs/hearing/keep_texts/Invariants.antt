use Rattle.std.proofs.Common.{◌≡◌, drop}
use Rattle.ev_vat.specs.Hearing.{with_texts}
use Rattle.ev_vat.proofs.hearing.keep_texts.Given as goal

-- the rest leads to all
abbrev pub invariant-loop-text : goal.invariant-loop-text
invariant-loop-text l = with_texts (drop l.text-index l.texts) l.vat ≡ with_texts l.texts l.initial.vat
