-- What is asked of an audition, in the terms of the code and as the machine has it.
use Rattle.std.specs.Prelude.{ℕ, if◌then◌else◌, List, [], ◌∷◌, codes}
use Rattle.ev_base.specs.declared.values.Value.{Value}
use Rattle.def_machine.specs.Free.{same_words}
use Rattle.def_machine.specs.Scopes as scopes
use Rattle.def_machine.specs.Values.{Words, Local}
use Rattle.ev_prims.specs.Reading.{value_by}
use Rattle.ev_audit.specs.declared.auditions.AuditionAsk.{AuditionAsk}
use Rattle.ev_audit.specs.declared.auditions.AuditionAsk.TheVariants.{GetsForm, GetsGuard, Asks, NoMethod}

-- where each text has its number
abbrev pub ask_by : (ℕ → Words) → AuditionAsk → scopes.AuditionAsk Local
ask_by t GetsForm = scopes.GetsForm
ask_by t (GetsGuard x) = scopes.GetsGuard (value_by t x)
ask_by t (Asks a) = scopes.Asks (value_by t a)
ask_by t NoMethod = scopes.NoAuditionAsk

-- by a verb and one argument
abbrev pub asking_one : Words → Value → AuditionAsk
asking_one verb x = if same_words (codes "getGuard") verb then GetsGuard x else if same_words (codes "ask") verb then Asks x else NoMethod

-- by a verb and arguments as they are held
unfoldable pub asking : Words → List Value → AuditionAsk
asking verb [] = if same_words (codes "getObjectExpr") verb then GetsForm else NoMethod
asking verb (x ∷ []) = asking_one verb x
asking verb _ = NoMethod
