-- What is done inside a vat and with the gifts that it hosts, in the code's terms.
use Rattle.std.specs.Prelude.{◌≡◌, ℕ, Result, Ok, Err}
use Rattle.ev_base.specs.declared.values.Value.{Value}
use Rattle.ev_base.specs.declared.values.Value.TheVariants as held
use Rattle.ev_intro.specs.Gift.{Gifts}
use Rattle.ev_pass.specs.Acts as inner
use Rattle.ev_pass.specs.Acts.{Unless}
use Rattle.ev_pass.specs.declared.interior.Stop.{Stop}
use Rattle.ev_pass.specs.declared.note.Reference.{Reference}
use Rattle.ev_pass.specs.declared.note.Reference.TheVariants as reference
use Rattle.ev_settle.specs.Changes.{come}
use Rattle.ev_arrive.specs.declared.host.Host.{Host}
use Rattle.ev_arrive.specs.declared.host.Incoming.{Incoming}
use Rattle.ev_arrive.specs.declared.host.Incoming.TheVariants.{Known, New}
use Rattle.ev_arrive.specs.declared.host.Subject.{Subject}
use Rattle.ev_arrive.specs.declared.host.Subject.TheVariants as subject

-- what something gives, or why it comes to no end, and the vat after it
abbrev pub Out : Type 0 → Type 0
Out A = Result A Stop × Host

abbrev pub Act : Type 0 → Type 0
Act A = Host → Out A

-- what a function of the code returned and left is what the definition gives, unless memory ran out
abbrev pub Gives : {A : Type 0} → Result A Stop → Host → Out A → Type 0
Gives (Ok a) h out = out ≡ (Ok a, h)
Gives (Err e) h out = Unless e (out ≡ (Err e, h))

unfoldable pub and_then : {A B : Type 0} → Out A → (A → Act B) → Out B
and_then (Ok a, h) f = f a h
and_then (Err e, h) f = (Err e, h)

infixl 10 ◌>>=◌
unfoldable pub ◌>>=◌ : {A B : Type 0} → Act A → (A → Act B) → Act B
m >>= f = λ h. and_then (m h) f

infixl 10 ◌>>◌
unfoldable pub ◌>>◌ : {A B : Type 0} → Act A → Act B → Act B
m >> n = λ h. and_then (m h) (λ _. n)

unfoldable pub give : {A : Type 0} → A → Act A
give a = λ h. (Ok a, h)

abbrev pub around : {A : Type 0} → Gifts → inner.Out A → Out A
around g o = (o.0, record { inside = o.1; gifts = g })

-- what is done inside, which leaves the gifts as they are
unfoldable pub within : {A : Type 0} → inner.Act A → Act A
within m = λ h. around h.gifts (m h.inside)

-- what is known, as a value
abbrev pub value_at : Reference → Value
value_at (reference.Object i) = held.Obj i
value_at (reference.Promise n) = held.Prom n
value_at (reference.Far h p) = held.Far h p

-- a name that was heard of is known, or comes to be known, of that host
unfoldable pub learn_name : Incoming → Act Reference
learn_name (Known r) = give r
learn_name (New v) = do
  n ← within (come v)
  give (reference.Promise n)

-- the same of what settled
unfoldable pub learn_subject : Subject → Act ℕ
learn_subject (subject.Known n) = give n
learn_subject (subject.New v) = within (come v)

-- opens the acts
unfoldable pub opened_acts : Unit {0}
unfolding and_then ◌>>=◌ ◌>>◌ give
opened_acts = tt
