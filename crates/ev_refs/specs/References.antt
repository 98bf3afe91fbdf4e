-- What a vat has of references, and its single changes.
use Rattle.std.specs.Prelude.{ℕ, List, []}
use Rattle.ev_refs.specs.declared.known.Known.{Known}
use Rattle.ev_refs.specs.declared.known.Message.{Message}
use Rattle.ev_refs.specs.declared.known.Standing.TheVariants.{Unsettled}

pub record References : Type 0 where
  -- the vat's own number
  pub me : ℕ
  -- the texts `partition` and `cycle`
  pub partition : ℕ
  pub cycle : ℕ
  -- what is known of each name, by its number
  pub known : List Known
  -- the messages that wait for their turn
  pub queue : List Message
  -- the messages that the vat has had, its own messages, and the promises that it made
  pub mails : ℕ
  pub messages : ℕ
  pub promises : ℕ
  -- the vats whose link it has noticed as cut
  pub noticed : List ℕ

abbrev pub no_references : ℕ → ℕ → ℕ → References
no_references me partition cycle = record { me = me; partition = partition; cycle = cycle; known = []; queue = []; mails = 0; messages = 0; promises = 0; noticed = [] }

-- a name of that host that comes to be known
abbrev pub unsettled_of : ℕ → Known
unsettled_of h = record { host = h; standing = Unsettled; held = []; waiting = []; reactions = []; told = [] }
