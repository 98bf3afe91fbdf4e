-- No step of a vat lets a message be carried more often than twice for each time that it is sent.
use Rattle.std.specs.Prelude.{ℕ, ◌+◌, ◌≤◌}
use Rattle.def_machine.specs.Values.{Name, Root, Object, Promise, Answer, Gift, Sent, naming}
use Rattle.def_machine.specs.State.{Note, Deliver, Open, Ask, SettledTo, Elsewhere, Shorten, Vat, Done, Gives, Throws, Ejects, Stops}
use Rattle.def_machine.specs.Arrive.{Incoming}
use Rattle.law_machine.specs.Machine.Steps.{Step, Opens, Takes, Receives, Notices, does}
use Rattle.law_fate.specs.Fates.Fate.{sent_in}
use Rattle.law_fate.specs.Fates.FateLaws.{coming, opened_laws}
use Rattle.law_fate.specs.Fates.Lasting.{StepComes}
use Rattle.law_fate.specs.Fates.Carry.{load, opened_carry}
use Rattle.law_fate.specs.Fates.Sound.{Sound, name_in, StepArrives}

-- where a message comes on an object nothing is left, and on a promise as much again
unfoldable pub further : Name → ℕ → ℕ
further (Object v i) c = 0
further (Root v) c = c
further (Promise v i) c = c
further (Answer v m) c = c
further (Gift v i) c = c
further (Sent m) c = c

unfoldable pub note_leaves : Name → Note (Incoming Name Name) → ℕ
note_leaves x (Deliver d z verb ys) = further (name_in z) (coming x d.message)
note_leaves x (Open i z) = 0
note_leaves x (Ask p i z) = 0
note_leaves x (SettledTo z y) = 0
note_leaves x (Elsewhere z c) = 0
note_leaves x (Shorten z c i) = 0

-- what the note with which a step begins leaves to a message
unfoldable pub leaves : Name → Step Name Name → ℕ
leaves x (Opens tree depth root given) = 0
leaves x (Takes tree depth m) = 0
leaves x (Receives from n) = note_leaves x n
leaves x (Notices w) = 0

-- From s to t: all is in place, and a message weighs no more than it did, and c, and twice its sends.
pub record Lightened (v : ℕ) (x : Name) (c : ℕ) (s t : Vat Name) : Type 0 where
  pub sound : Sound v t
  pub kept : load x t + (sent_in x s.happened + sent_in x s.happened) ≤ c + load x s + (sent_in x t.happened + sent_in x t.happened)

abbrev pub AfterLightened : ℕ → Name → ℕ → Vat Name → Done Name (Unit {0}) → Type 0
AfterLightened v x c s (Gives a t) = Lightened v x c s t
AfterLightened v x c s (Throws p t) = Lightened v x c s t
AfterLightened v x c s (Ejects n y t) = Lightened v x c s t
AfterLightened v x c s (Stops e t) = Unit {0}

-- in every step of every vat from a state in which all is in place
abbrev pub StepsLighten : Type 0
StepsLighten = (word : ℕ → ℕ) (v : ℕ) (step : Step Name Name) (s : Vat Name) (x : Name) → Sound v s → StepComes step → StepArrives v step
    → AfterLightened v x (leaves x step) s (does (naming word v) step s)

-- opens each definition of this file, and of those below
unfoldable pub opened_lightened : Unit {0}
unfolding further note_leaves leaves opened_laws opened_carry
opened_lightened = tt
