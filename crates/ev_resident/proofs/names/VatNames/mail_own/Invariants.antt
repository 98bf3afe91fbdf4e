use Rattle.std.proofs.Common.{◌≡◌, ◌-◌}
use Rattle.ev_resident.specs.Names.{own_messages, with_mails}
use Rattle.ev_resident.proofs.names.VatNames.mail_own.Given as goal

-- the messages so far, and those to come, are all
abbrev pub invariant-loop-number : goal.invariant-loop-number
invariant-loop-number l =
    (l.self.naming.vat ≡ l.fn.self.naming.vat)
    × (with_mails (own_messages l.fn.self.naming.vat l.number (l.messages - l.number)) l.self
    ≡ with_mails (own_messages l.fn.self.naming.vat l.fn.self.messages (l.messages - l.fn.self.messages)) l.fn.self)
