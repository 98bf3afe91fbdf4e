-- The text of orders: a line that answers each, and `end`.
use Rattle.std.specs.Prelude.{◌≡◌, ℕ, List, [], ◌∷◌, ◌++◌, codes, String, string_bytes, Result, Ok, Err}
use Rattle.std.specs.declared.alloc.Global.{Global}
use Rattle.ev_script.specs.declared.script.ScriptFault.{ScriptFault}
use Rattle.ev_script.specs.declared.script.ScriptFault.TheVariants.{Rule, Memory}
use Rattle.ev_mint.specs.Answers.{Books, answer_text, empty_books, outcome}
use Rattle.ev_mint.specs.Orders.{read}
use Rattle.ev_mint.specs.declared.orders.Order.{Order}

abbrev pub written_line : List ℕ → List ℕ
written_line text = text ++ 10 ∷ []

abbrev pub last_line : List ℕ
last_line = written_line (codes "end")

-- the text of orders, by what was made before them
abbrev pub telling : Books → List Order → List ℕ
telling books [] = last_line
telling books (order ∷ orders) = written_line (answer_text (outcome order books).0) ++ telling (outcome order books).1 orders

-- what is due for bytes: the text of the orders that they are, or the first rule that they break
abbrev pub due_by : Result (List Order) ℕ → Result (List ℕ) ℕ
due_by (Ok orders) = Ok (telling empty_books orders)
due_by (Err rule) = Err rule

abbrev pub due : List ℕ → Result (List ℕ) ℕ
due bytes = due_by (read bytes)

-- an answer is what is due, unless memory runs out
abbrev pub Tells : Result (String Global) ScriptFault → Result (List ℕ) ℕ → Type 0
Tells (Ok text) due = due ≡ Ok (string_bytes text)
Tells (Err (Rule rule)) due = due ≡ Err rule
Tells (Err Memory) due = Unit {0}
