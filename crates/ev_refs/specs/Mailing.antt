-- What a vat counts of its own.
use Rattle.std.specs.Prelude.{ℕ, ◌+◌, [], ◌∷◌, ◌++◌}
use Rattle.ev_refs.specs.References.{References, unsettled_of}

-- a promise that the vat makes
abbrev pub with_promise : References → References
with_promise r = record r { promises = r.promises + 1; known = r.known ++ unsettled_of r.me ∷ [] }

-- a message of the vat's own, with its answer at that host
abbrev pub with_message : ℕ → References → References
with_message h r = record r { messages = r.messages + 1; mails = r.mails + 1; known = r.known ++ unsettled_of h ∷ [] }

-- one that asks for no answer
abbrev pub with_lone_message : References → References
with_lone_message r = record r { messages = r.messages + 1; mails = r.mails + 1 }

-- a message of another vat
abbrev pub with_mail : References → References
with_mail r = record r { mails = r.mails + 1 }
