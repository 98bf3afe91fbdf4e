-- What single acts do inside a vat, in the code's terms.
use Rattle.std.specs.Prelude.{◌≡◌, ◌+◌, ◌-◌, ℕ, zero, suc, Bool, true, false, nat_le, List, [], ◌∷◌, ◌++◌, Some, None, Result, Ok, Err, slice_get, slice_set}
use Rattle.std.specs.declared.option.Option.{Option}
use Rattle.ev_heap.specs.declared.happened.Happened.{Happened as Event}
use Rattle.ev_intro.specs.Word.{word}
use Rattle.def_machine.specs.State.{drawn_at}
use Rattle.ev_refs.specs.Changes.{with_told}
use Rattle.ev_refs.specs.References.{References}
use Rattle.ev_refs.specs.declared.known.Known.{Known}
use Rattle.ev_pass.specs.Notes.{Noted}
use Rattle.ev_pass.specs.declared.interior.Interior.{Interior}
use Rattle.ev_pass.specs.declared.interior.Stop.{Stop}
use Rattle.ev_pass.specs.declared.interior.Stop.TheVariants.{Fuel, Repeated, Astray, Missing, Memory}

-- what something gives, or why it comes to no end, and the inside of the vat after it
abbrev pub Out : Type 0 → Type 0
Out A = Result A Stop × Interior

abbrev pub Act : Type 0 → Type 0
Act A = Interior → Out A

-- a fact, unless memory ran out
abbrev pub Unless : Stop → Type 0 → Type 0
Unless Memory fact = Unit {0}
Unless Fuel fact = fact
Unless (Repeated i j) fact = fact
Unless Astray fact = fact
Unless Missing fact = fact

-- what a function of the code returned and left is what the definition gives, unless memory ran out
abbrev pub Gives : {A : Type 0} → Result A Stop → Interior → Out A → Type 0
Gives (Ok a) s out = out ≡ (Ok a, s)
Gives (Err e) s out = Unless e (out ≡ (Err e, s))

-- the same of what is seen through a view
abbrev pub Shows : {A B : Type 0} → (A → B) → Result A Stop → Interior → Out B → Type 0
Shows view (Ok a) s out = out ≡ (Ok (view a), s)
Shows view (Err e) s out = Unless e (out ≡ (Err e, s))

unfoldable pub and_then : {A B : Type 0} → Out A → (A → Act B) → Out B
and_then (Ok a, s) f = f a s
and_then (Err e, s) f = (Err e, s)

infixl 10 ◌>>=◌
unfoldable pub ◌>>=◌ : {A B : Type 0} → Act A → (A → Act B) → Act B
m >>= f = λ s. and_then (m s) f

infixl 10 ◌>>◌
unfoldable pub ◌>>◌ : {A B : Type 0} → Act A → Act B → Act B
m >> n = λ s. and_then (m s) (λ _. n)

unfoldable pub give : {A : Type 0} → A → Act A
give a = λ s. (Ok a, s)

unfoldable pub fail : {A : Type 0} → Stop → Act A
fail e = λ s. (Err e, s)

unfoldable pub tell : Event → Act (Unit {0})
tell e = λ s. (Ok tt, record s { micro = record s.micro { events = s.micro.events ++ e ∷ [] } })

unfoldable pub spent : ℕ → Bool → Act (Unit {0})
spent n true = λ s. (Ok tt, record s { micro = record s.micro { fuel = s.micro.fuel - n } })
spent n false = λ s. (Err Fuel, s)

-- so many units of fuel, all or none
unfoldable pub spend : ℕ → Act (Unit {0})
spend n = λ s. spent n (nat_le n s.micro.fuel) s

unfoldable pub send_out : ℕ → Noted → Act (Unit {0})
send_out to n = λ s. (Ok tt, record s { post = s.post ++ record { to = to; note = n } ∷ [] })

-- the references where a vat is to be told of a name, if that is known
unfoldable pub told_in : ℕ → ℕ → Option Known → References → References
told_in w n None r = r
told_in w n (Some k) r = record r { known = slice_set r.known n (with_told w k) }

unfoldable pub to_tell : ℕ → ℕ → Act (Unit {0})
to_tell w n = λ s. (Ok tt, record s { refs = told_in w n (slice_get s.refs.known n) s.refs })

-- the first words under a key
unfoldable pub words_by : List ℕ → ℕ → List ℕ
words_by key zero = []
words_by key (suc n) = words_by key n ++ word key n ∷ []

unfoldable pub draws : Option ℕ → Act ℕ
draws None s = (Ok (word s.words.key s.words.count), record s { words = record s.words { count = s.words.count + 1 } })
draws (Some i) s = (Err (Repeated i s.words.count), s)

-- the next word is drawn; one that was drawn before is a stop
unfoldable pub draw : Act ℕ
draw = λ s. draws (drawn_at zero (word s.words.key s.words.count) (words_by s.words.key s.words.count)) s

-- opens the acts
unfoldable pub opened_acts : Unit {0}
unfolding and_then ◌>>=◌ ◌>>◌ give fail tell spent spend send_out told_in to_tell
opened_acts = tt
