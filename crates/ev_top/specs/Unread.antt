-- What is known of the sources of a script once they were read.
use Rattle.std.specs.Prelude.{[], string_bytes, Result, Ok, Err}
use Rattle.ev_script.specs.declared.script.Script.{Script}
use Rattle.ev_top.specs.RunDue.{IsDueOfVats, Telling}
use Rattle.ev_io.specs.declared.reply.Reply.{Reply}
use Rattle.ev_top.specs.declared.sources.Unread.{Unread}
use Rattle.ev_top.specs.declared.sources.Unread.TheVariants.{Refused, Memory}

-- the reply, where one is refused, is so
abbrev pub IfRefused : Unread → (Reply → Type 0) → Type 0
IfRefused (Refused reply) Is = Is reply
IfRefused Memory Is = Unit {0}

-- A refusal is what is due for the script, whatever is to be told of its run.
abbrev pub IsDueHoweverRun : {A : Type 0} → Result A Unread → Script → Type 0
IsDueHoweverRun (Ok programs) script = Unit {0}
IsDueHoweverRun (Err unread) script = IfRefused unread (λ reply. (tell : Telling) → IsDueOfVats tell script [] script.vats reply.status (string_bytes reply.text))
