-- The form of an object expression: its lists are made, the inner ones first.
use Rattle.std.specs.Prelude.{◌≡◌, ℕ, Bool, true, false, List, [], ◌∷◌, ◌++◌, Some, None, Result, Ok, Err}
use Rattle.std.specs.declared.option.Option.{Option}
use Rattle.ev_base.specs.declared.values.Value.{Value}
use Rattle.ev_base.specs.declared.values.Value.TheVariants as held
use Rattle.def_kernel.specs.declared.node.Literal.TheVariants as literal
use Rattle.def_kernel.specs.declared.node.Node.{Node}
use Rattle.def_machine.specs.Form.{Item, Begin, End, Word, Fact, items_of}
use Rattle.ev_pass.specs.declared.interior.Interior.{Interior as Room}
use Rattle.ev_room.specs.declared.exit.Exit.{Exit}
use Rattle.ev_room.specs.declared.exit.Exit.TheVariants.{Astray}
use Rattle.ev_room.specs.Acts.{Act, Out, Unless, ◌>>=◌, give, fail, make_list, text_value}

-- the lists that have begun, the innermost first
abbrev pub Forms : Type 0
Forms = List (List Value)

-- a value behind those of the innermost
unfoldable pub with_member : Value → Forms → Forms
with_member v [] = []
with_member v (f ∷ fs) = (f ++ v ∷ []) ∷ fs

abbrev pub behind : Forms → Forms
behind [] = []
behind (f ∷ fs) = fs

-- the innermost is made
unfoldable pub make_form : ℕ → Forms → Act Value
make_form act [] = fail Astray
make_form act (f ∷ fs) = make_list act f

-- the whole, or nothing yet; and the lists that have begun
abbrev pub Step : Type 0
Step = Option Value × Forms

unfoldable pub formed : Bool → Value → Forms → Step
formed true v fs = (Some v, fs)
formed false v fs = (None, with_member v fs)

-- what an item does, which may be the last
unfoldable pub build_item : ℕ → Item → Bool → Forms → Act Step
build_item act Begin last fs = give (None, [] ∷ fs)
build_item act End last fs = do
  v ← make_form act fs
  give (formed last v (behind fs))
build_item act (Word u) last fs = do
  v ← text_value u
  give (formed false v fs)
build_item act (Fact (literal.Int z)) last fs = give (formed false (held.Int z) fs)
build_item act (Fact (literal.Char c)) last fs = give (formed false (held.Char c) fs)
build_item act (Fact (literal.Text u)) last fs = do
  v ← text_value u
  give (formed false v fs)

abbrev pub is_last : List Item → Bool
is_last [] = true
is_last _ = false

unfoldable pub build_on : Option Value → Act Value → Act Value
build_on (Some v) more = give v
build_on None more = more

-- the items are gone through, each list that ends is made
unfoldable pub build : ℕ → List Item → Forms → Act Value
build act [] fs = fail Astray
build act (i ∷ is) fs = do
  x ← build_item act i (is_last is) fs
  build_on x.0 (build act is x.1)

-- the form of the object expression at a node
unfoldable pub object_form : List Node → ℕ → ℕ → Act Value
object_form tree act id = build act (items_of tree id) []

-- what an item did to the lists that have begun, unless memory ran out
abbrev pub Builds : Result (Option Value) Exit → Forms → Room → Out Step → Type 0
Builds (Ok o) fs room out = out ≡ (Ok (o, fs), room)
Builds (Err e) fs room out = Unless e (out ≡ (Err e, room))

-- opens each definition of this file but the recursion
unfoldable pub opened_forms : Unit {0}
unfolding with_member make_form formed build_item build_on
opened_forms = tt
