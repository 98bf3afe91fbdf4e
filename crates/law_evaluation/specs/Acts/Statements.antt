-- What the acts on references leave of the values that these hold.
use Rattle.std.specs.Prelude.{ℕ, Bool, List}
use Rattle.std.specs.declared.option.Option.{Option}
use Rattle.ev_base.specs.declared.values.Value.{Value}
use Rattle.ev_base.specs.declared.values.Value.TheVariants.{Text}
use Rattle.def_machine.specs.Values.{Words}
use Rattle.ev_refs.specs.Follow.{followed}
use Rattle.ev_refs.specs.declared.known.Message.{Message}
use Rattle.ev_pass.specs.Passing.{pass}
use Rattle.ev_pass.specs.declared.interior.Interior.{Interior}
use Rattle.ev_settle.specs.Closing.{finish, throw}
use Rattle.ev_room.specs.Reading.{World, texts_of, line_of}
use Rattle.ev_settle.specs.Performing.{Tells}
use Rattle.ev_settle.specs.Reacting.{when_resolved, tell_resolver, smash_resolver}
use Rattle.ev_settle.specs.Resolving.{resolve}
use Rattle.ev_settle.specs.Sending.{send, send_only}
use Rattle.ev_settle.specs.Settling.{settle, forward}
use Rattle.ev_room.specs.Holding.{Every, IsOf, MessageOf}
use Rattle.law_evaluation.specs.Acts.Kinds.{Base, GroundOf, InsideOf, EndsOf, Anything}

-- for each kind of values, each ground for it, and each vat on that
abbrev pub EachInside : ((Value → Bool) → Base → Interior → Type 0) → Type 0
EachInside S = (kind : Value → Bool) (base : Base) (i : Interior) → GroundOf kind base → InsideOf kind base i → S kind base i

abbrev pub FollowsInside : Type 0
FollowsInside = EachInside (λ kind base i. (v : Value) → IsOf kind v → IsOf kind (followed i.refs v))

abbrev pub PassesInside : Type 0
PassesInside = EachInside (λ kind base i. (w : ℕ) (v : Value) → IsOf kind v → EndsOf kind base Anything (pass w v i))

abbrev pub SettlesInside : Type 0
SettlesInside = EachInside (λ kind base i. (p : ℕ) (v : Value) → IsOf kind v → EndsOf kind base Anything (settle p v i))

abbrev pub ResolvesInside : Type 0
ResolvesInside = EachInside (λ kind base i. (p : ℕ) (v : Value) → IsOf kind v → EndsOf kind base Anything (resolve p v i))

abbrev pub ForwardsInside : Type 0
ForwardsInside = EachInside (λ kind base i. (m : Message) → MessageOf kind m → EndsOf kind base Anything (forward m i))

abbrev pub SendsInside : Type 0
SendsInside = EachInside (λ kind base i. (act : ℕ) (x : Value) (verb : Words) (args : List Value) → IsOf kind x → Every (IsOf kind) args → EndsOf kind base Anything (send act x verb args i))

abbrev pub SendsOnlyInside : Type 0
SendsOnlyInside = EachInside (λ kind base i. (act : ℕ) (x : Value) (verb : Words) (args : List Value) → IsOf kind x → Every (IsOf kind) args → EndsOf kind base Anything (send_only act x verb args i))

abbrev pub WhensInside : Type 0
WhensInside = EachInside (λ kind base i. (act : ℕ) (x o : Value) → IsOf kind x → IsOf kind o → EndsOf kind base Anything (when_resolved act x o i))

abbrev pub TellsInside : Type 0
TellsInside = EachInside (λ kind base i. (p : ℕ) (x : Value) → IsOf kind x → EndsOf kind base Anything (tell_resolver p x i))

abbrev pub SmashesInside : Type 0
SmashesInside = EachInside (λ kind base i. (p : ℕ) (x : Value) → IsOf kind x → EndsOf kind base Anything (smash_resolver p x i))

abbrev pub FinishesInside : Type 0
FinishesInside = EachInside (λ kind base i. (act : ℕ) (o : Option ℕ) (v : Value) → IsOf kind v → EndsOf kind base Anything (finish act o v i))

abbrev pub ThrowsInside : Type 0
ThrowsInside = EachInside (λ kind base i. (act : ℕ) (o : Option ℕ) (t : ℕ) → IsOf kind (Text t) → EndsOf kind base Anything (throw act o t i))

-- whatever a turn leaves as it is, what happened stands for the lines that the laws of references ask for
abbrev pub LinesTell : Type 0
LinesTell = (w : World) → Tells (texts_of w) (line_of w)
