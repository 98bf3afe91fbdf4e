-- What Ref tells of a value, and what a resolver does, in the code's terms and as the machine has them.
use Rattle.std.specs.Prelude.{◌≡◌, ℕ, Bool, true, false, List, Some, None, codes}
use Rattle.std.specs.declared.option.Option.{Option}
use Rattle.ev_base.specs.declared.values.Value.{Value as Held}
use Rattle.ev_base.specs.declared.values.Value.TheVariants as held
use Rattle.def_kernel.specs.declared.node.Node.{Node}
use Rattle.def_machine.specs.Native as native
use Rattle.def_machine.specs.Perform.{broken_text, test_reply}
use Rattle.def_machine.specs.Refs.{follow, place}
use Rattle.def_machine.specs.State.{Vat}
use Rattle.def_machine.specs.Values.{Words, Local, numbering}
use Rattle.ev_prims.specs.Asking.{ref_test_in}
use Rattle.ev_prims.specs.declared.asking.RefTest.{RefTest}
use Rattle.ev_prims.specs.declared.asking.RefTest.TheVariants.{IsNear, IsFar, IsResolved, IsBroken, OptProblem, Fulfillment}
use Rattle.ev_refs.specs.Reading.{text_by, value_by, vat_by}
use Rattle.ev_refs.specs.References.{References}
use Rattle.ev_refs.specs.Statements.{KnowsTexts}
use Rattle.ev_refs.specs.declared.follow.Place.{Place}
use Rattle.ev_refs.specs.declared.follow.Place.TheVariants.{Near, Mine, FarPromise, FarObject, Gone}
use Rattle.ev_refs.specs.declared.natives.RefReply.{RefReply}
use Rattle.ev_refs.specs.declared.natives.RefReply.TheVariants.{Says, Problem, NotResolved}

abbrev pub near_at : Place → Bool
near_at Near = true
near_at _ = false

abbrev pub far_at : Place → Bool
far_at (FarObject h p) = true
far_at _ = false

abbrev pub resolved_at : Place → Bool
resolved_at (Mine n) = false
resolved_at (FarPromise h n) = false
resolved_at _ = true

abbrev pub gone_at : Place → Bool
gone_at (Gone t) = true
gone_at _ = false

-- the problem of what is broken, and else null
abbrev pub problem_at : Place → Held
problem_at (Gone t) = held.Text t
problem_at _ = held.Null

-- a value as it is held, where it is resolved and not broken
abbrev pub fulfilled_at : Held → Place → RefReply
fulfilled_at x Near = Says x
fulfilled_at x (FarObject h p) = Says x
fulfilled_at x (Gone t) = Problem t
fulfilled_at x (Mine n) = NotResolved
fulfilled_at x (FarPromise h n) = NotResolved

-- what is told of a value that is followed to that place
abbrev pub told_at : RefTest → Held → Place → RefReply
told_at IsNear x p = Says (held.Bool (near_at p))
told_at IsFar x p = Says (held.Bool (far_at p))
told_at IsResolved x p = Says (held.Bool (resolved_at p))
told_at IsBroken x p = Says (held.Bool (gone_at p))
told_at OptProblem x p = Says (problem_at p)
told_at Fulfillment x p = fulfilled_at x p

abbrev pub reply_by : List Words → RefReply → native.Reply Local
reply_by ts (Says v) = native.Says (value_by ts v)
reply_by ts (Problem t) = native.Fails (text_by ts t)
reply_by ts NotResolved = native.Fails (codes "not resolved")

-- that is what the machine tells of the value
abbrev pub TellsAsTheMachine : References → RefTest → Held → RefReply → Type 0
TellsAsTheMachine r test x reply = (word : ℕ → ℕ) (tree : List Node) (ts : List Words) (s : Vat Local) → KnowsTexts ts r
    → test_reply (numbering {W = Local} word) tree (ref_test_in test) (value_by ts x) (place (numbering {W = Local} word) (vat_by ts r s) (follow (numbering {W = Local} word) (vat_by ts r s) (value_by ts x))) ≡ reply_by ts reply

-- what is broken with a problem, or a bad argument
abbrev pub broken_reply : List Words → Option Held → native.Reply Local
broken_reply ts (Some v) = native.Says (value_by ts v)
broken_reply ts None = native.Fails (codes "bad argument")

-- a text as it is broken, and nothing of another value
abbrev pub broken_of : Held → Option Held
broken_of (held.Text t) = Some (held.Broken t)
broken_of _ = None

-- the machine breaks the same
abbrev pub BreaksAsTheMachine : References → Held → Option Held → Type 0
BreaksAsTheMachine r x reply = (word : ℕ → ℕ) (tree : List Node) (ts : List Words) (s : Vat Local) → KnowsTexts ts r
    → broken_text (numbering {W = Local} word) tree (follow (numbering {W = Local} word) (vat_by ts r s) (value_by ts x)) ≡ broken_reply ts reply
