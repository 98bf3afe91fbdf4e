-- The moves of the code as a list.
use Rattle.std.specs.Prelude.{ℕ, Bool, true, false, List, [], ◌∷◌, min}
use Rattle.def_syntax.specs.declared.place.Move.{Move}
use Rattle.def_syntax.specs.declared.place.Moves.{Moves}
use Rattle.def_syntax.specs.declared.place.Moves.TheVariants as counts
use Rattle.def_syntax.specs.declared.place.Place.{Place}
use Rattle.def_syntax.specs.declared.place.Place.TheVariants as places

abbrev pub listed : Moves → List Move
listed counts.None = []
listed (counts.One a) = a ∷ []
listed (counts.Two a b) = a ∷ b ∷ []
listed (counts.Three a b c) = a ∷ b ∷ c ∷ []
listed (counts.Four a b c d) = a ∷ b ∷ c ∷ d ∷ []
listed (counts.Five a b c d e) = a ∷ b ∷ c ∷ d ∷ e ∷ []
listed (counts.Six a b c d e f) = a ∷ b ∷ c ∷ d ∷ e ∷ f ∷ []

-- a height, or one more than the greatest that is allowed
abbrev pub capped : ℕ → ℕ
capped n = min n 61

-- the places in an object, a function or a member
abbrev pub is_in_object : Place → Bool
is_in_object places.Auditor = true
is_in_object places.AuditorMore = true
is_in_object places.Script = true
is_in_object places.Result = true
is_in_object places.ResultGuard = true
is_in_object places.ResultGuarded = true
is_in_object places.FunctionAuditor = true
is_in_object places.FunctionAuditorMore = true
is_in_object (places.MemberVerb a) = true
is_in_object (places.MemberOpen a) = true
is_in_object (places.MemberResult a) = true
is_in_object (places.MemberGuard a) = true
is_in_object places.Matcher = true
is_in_object _ = false

-- and those in a definition with `:=`
abbrev pub is_in_definition : Place → Bool
is_in_definition (places.Def a) = true
is_in_definition (places.Name a b) = true
is_in_definition (places.NameGuard a b) = true
is_in_definition (places.NameGuarded a b) = true
is_in_definition (places.Bound a b) = true
is_in_definition (places.Exit a b) = true
is_in_definition (places.Ejector a b) = true
is_in_definition (places.Value a b) = true
is_in_definition (places.Var a) = true
is_in_definition (places.VarName a) = true
is_in_definition (places.VarGuard a) = true
is_in_definition p = is_in_object p

-- and those in a form that begins with a word or a parenthesis
abbrev pub is_in_form : Place → Bool
is_in_form (places.Open a) = true
is_in_form (places.Test a) = true
is_in_form (places.Close a) = true
is_in_form places.IfThen = true
is_in_form places.IfElse = true
is_in_form places.WhenArrow = true
is_in_form places.WhenBlock = true
is_in_form (places.Caught a) = true
is_in_form (places.CatchPattern a) = true
is_in_form (places.CatchBlock a) = true
is_in_form places.Escape = true
is_in_form places.EscapeBlock = true
is_in_form places.Try = true
is_in_form places.TryMore = true
is_in_form places.TryPattern = true
is_in_form places.TryBlock = true
is_in_form places.For = true
is_in_form places.ForKey = true
is_in_form places.ForValue = true
is_in_form places.ForIn = true
is_in_form places.ForList = true
is_in_form p = is_in_definition p
