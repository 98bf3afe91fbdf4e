-- What is told of a run: its events, or their text.
use Rattle.std.specs.Prelude.{◌≡◌, ℕ, List, ◌++◌, string_bytes}
use Rattle.def_event.specs.Lines.{render}
use Rattle.def_event.specs.declared.event.Event.{Event}
use Rattle.ev_step_text.specs.declared.account.Form.{Form}
use Rattle.ev_step_text.specs.declared.account.Form.TheVariants.{Events, Text}
use Rattle.ev_step_text.specs.declared.account.Account.{Account}

-- it tells these events, or has their text, where the vats have these names
abbrev pub Tells : List (List ℕ) → Form → List Event → Type 0
Tells names (Events told) es = told ≡ es
Tells names (Text text) es = string_bytes text ≡ render names es

-- the account is of these events, and the vats have these names in it
pub record IsAccount (names : List (List ℕ)) (a : Account) (es : List Event) : Type 0 where
  pub named : a.names ≡ names
  pub tells : Tells names a.form es

-- whatever the first account is of, the second is of that, and then of these
abbrev pub More : Account → Account → List Event → Type 0
More a b more = (names : List (List ℕ)) (es : List Event) → IsAccount names a es → IsAccount names b (es ++ more)

-- the account is of these events, whatever names the vats have in it
pub record Recounts (a : Account) (es : List Event) : Type 0 where
  pub names : List (List ℕ)
  pub is : IsAccount names a es
