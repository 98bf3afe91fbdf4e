use Rattle.std.proofs.Common.{◌≡◌, drop}
use Rattle.ev_pass.specs.Notes.{sent}
use Rattle.ev_pass.specs.declared.post.Put.{Put}
use Rattle.ev_resident.specs.Names.{each_tells, put_tells}
use Rattle.ev_resident.proofs.names.VatNames.tell_puts.Given as goal

-- the notes so far, and then the rest, tell what all tell
abbrev pub invariant-loop-put : goal.invariant-loop-put
invariant-loop-put l =
    each_tells (λ (p : Put). put_tells l.words l.self.naming.mails (sent p)) (drop l.put-index l.puts) l.told
    ≡ each_tells (λ (p : Put). put_tells l.words l.self.naming.mails (sent p)) l.puts l.fn.told
