-- The text of verdicts, by the names of the vats and the lines of the history.
use Rattle.std.specs.Prelude.{ℕ, ◌-◌, Bool, true, false, List, [], ◌∷◌, ◌++◌, codes, decimal, map, slice_get, unwrap_or, Option, Some, None}
use denote.Ref.{Bor}
use Rattle.ev_base.specs.declared.names.Msg.{Msg}
use Rattle.def_event.specs.Lines.{message, name, numbered}
use Rattle.def_why.specs.declared.fault.About.{About}
use Rattle.def_why.specs.declared.fault.About.TheVariants as about
use Rattle.def_why.specs.declared.fault.Fault.{Fault}
use Rattle.def_why.specs.declared.fault.Reason.{Reason}
use Rattle.def_why.specs.declared.fault.Reason.TheVariants as reason
use Rattle.def_why.specs.declared.fault.Refusal.{Refusal}
use Rattle.ev_see_verdicts.specs.declared.order.Overtaking.{Overtaking}
use Rattle.ev_see_verdicts.specs.declared.uses.Point.{Point}
use Rattle.ev_see_verdicts.specs.declared.uses.Point.TheVariants.{Used, GivenBack, TakenOtherwise, Added}
use Rattle.ev_see_verdicts.specs.declared.uses.Unfounded.{Unfounded}
use Rattle.ev_see_verdicts.specs.declared.verdicts.Verdicts.{Verdicts}

abbrev pub Texts : Type 0
Texts = List (List ℕ)

-- lines that are lent
abbrev pub texts : List (Bor (List ℕ)) → Texts
texts ls = map (λ l. l.now) ls

-- the text of a line, counted from 1
abbrev pub line_text : Texts → ℕ → List ℕ
line_text ls n = unwrap_or (slice_get ls (n - 1)) []

-- the line that fails, with its number
abbrev pub shown_line : ℕ → List ℕ → List ℕ
shown_line n text = codes "    line " ++ decimal n ++ codes ": " ++ text ++ codes "\n"

abbrev pub why_line : List ℕ → List ℕ
why_line why = codes "    " ++ why ++ codes "\n"

-- ---- order

-- a message that was overtaken, and the one that was taken too early
abbrev pub overtaken_line : Texts → Msg → Msg → List ℕ
overtaken_line vats first taken = codes "order no " ++ message vats first ++ 32 ∷ (message vats taken ++ codes "\n")

-- by the line that sends it
abbrev pub sent_words : ℕ → List ℕ
sent_words line = codes " was sent before it, in line " ++ decimal line ++ codes ", and was not taken\n"

abbrev pub order_why : Texts → Overtaking → List ℕ
order_why vats o = codes "    " ++ message vats o.first ++ sent_words o.sent

abbrev pub order_told : Texts → Texts → Option Overtaking → List ℕ
order_told vats ls None = codes "order yes\n"
order_told vats ls (Some o) = overtaken_line vats o.first o.taken ++ shown_line o.line (line_text ls o.line) ++ order_why vats o

-- ---- uses

unfoldable pub point_words : Point → List ℕ
point_words Used = codes "it uses what its activation does not know"
point_words GivenBack = codes "it gives back what is not known to who gives it"
point_words TakenOtherwise = codes "it takes the message with other names than it came with"
point_words Added = codes "it carries what was not in the line before of its message"

abbrev pub uses_told : Texts → Option Unfounded → List ℕ
uses_told ls None = codes "uses yes\n"
uses_told ls (Some u) = codes "uses no " ++ decimal u.line ++ codes "\n" ++ shown_line u.line (line_text ls u.line) ++ why_line (point_words u.point)

-- ---- the other verdicts

unfoldable pub reason_words : Reason → List ℕ
reason_words reason.TakenAgain = codes "it takes a message that was taken before:"
reason_words reason.TakenElsewhere = codes "it takes a message at a vat where it was not carried to:"
reason_words reason.SettledAgain = codes "a name settles again at this vat:"
reason_words reason.NotSent = codes "no line before sends the message:"
reason_words reason.CarriedElsewhere = codes "it carries a message from a vat at which it is not:"
reason_words reason.OtherVerb = codes "the message had another verb:"
reason_words reason.OtherData = codes "the message had other data:"
reason_words reason.SentAgain = codes "it sends a message that was sent before:"
reason_words reason.NotOfItsVat = codes "another vat's is not for this vat to make:"
reason_words reason.OtherAnswer = codes "the answer is that of another message:"
reason_words reason.MadeAgain = codes "it makes what was made before:"
reason_words reason.SlotNotMade = codes "no line before makes the slot:"
reason_words reason.SlotUnknown = codes "its maker does not know what the slot holds:"
reason_words reason.ReadOtherwise = codes "something else was written last to the slot:"
reason_words reason.CameInNoNote = codes "a list comes in a step that carries no note:"
reason_words reason.NotHanded = codes "no call handed this to an ejector:"
reason_words reason.NotItsHost = codes "another vat hosts the name of which it tells:"
reason_words reason.ToldUnsettled = codes "the name did not settle at its host before:"
reason_words reason.ToldOtherwise = codes "the name settled otherwise at its host:"
reason_words reason.SettledUntold = codes "nothing told this vat that the name settles so:"

unfoldable pub about_words : Texts → About → List ℕ
about_words vats (about.Message m) = message vats m
about_words vats (about.Name n) = name vats n
about_words vats (about.List v n) = numbered vats v 37 n
about_words vats (about.Slot v n) = numbered vats v 38 n

abbrev pub fault_line : Texts → Fault → List ℕ
fault_line vats f = codes "    " ++ reason_words f.reason ++ 32 ∷ (about_words vats f.about ++ codes "\n")

-- by the word of the verdict
abbrev pub refusal_told : List ℕ → Texts → Texts → Option Refusal → List ℕ
refusal_told word vats ls None = word ++ codes " yes\n"
refusal_told word vats ls (Some r) = word ++ codes " no " ++ decimal r.line ++ codes "\n" ++ shown_line r.line (line_text ls r.line) ++ fault_line vats r.fault

-- where it is asked
abbrev pub strict_told : Bool → Texts → Texts → Option Refusal → List ℕ
strict_told false vats ls r = []
strict_told true vats ls r = refusal_told (codes "strict") vats ls r

-- ---- the whole

abbrev pub told_text : Texts → Texts → Verdicts → List ℕ
told_text vats ls v =
    order_told vats ls v.order ++ uses_told ls v.uses ++ refusal_told (codes "taken") vats ls v.taken ++ refusal_told (codes "settled") vats ls v.settled
    ++ strict_told v.is_strict vats ls v.strict
