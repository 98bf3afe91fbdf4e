-- Which `return`, `break` and `continue` belong to what, and the first fault of a surface tree.
use Rattle.std.specs.Prelude.{ℕ, ◌+◌, ◌==◌, min, nat_lt, Bool, ◌||◌, if◌then◌else◌, List, [], ◌∷◌, ◌++◌, slice_get, codes, option_to_list, option_map, Option, Some, None, is_some}
use Rattle.std.specs.List.{starts_with}
use Rattle.std.specs.Str.{bytes_eq}
use Rattle.ev_base.specs.SafeScope.{safe_value}
use Rattle.def_syntax.specs.declared.form.Form.{Form}
use Rattle.def_syntax.specs.declared.form.Form.TheVariants as forms
use Rattle.def_syntax.specs.declared.sugar.SugarNode.{SugarNode}
use Rattle.ev_expand.specs.declared.marks.Marks.{Marks}
use Rattle.ev_expand.specs.declared.marks.Fault.{Fault}
use Rattle.ev_expand.specs.declared.marks.FaultKind.{FaultKind}
use Rattle.ev_expand.specs.declared.marks.FaultKind.TheVariants as kinds

unfoldable pub no_marks : Marks
no_marks = record { returns = None; breaks = None; continues = None; fault = None }

-- the earlier of two tokens that may be none
unfoldable pub earlier : Option ℕ → Option ℕ → Option ℕ
earlier None b = b
earlier (Some t) None = Some t
earlier (Some t) (Some u) = Some (min t u)

unfoldable pub earlier_fault : Option Fault → Option Fault → Option Fault
earlier_fault None b = b
earlier_fault (Some f) None = Some f
earlier_fault (Some f) (Some g) = if nat_lt g.token f.token then Some g else Some f

unfoldable pub both : Marks → Marks → Marks
both a b = record {
  returns = earlier a.returns b.returns;
  breaks = earlier a.breaks b.breaks;
  continues = earlier a.continues b.continues;
  fault = earlier_fault a.fault b.fault;
}

-- what is known of a node among those that have been looked at
unfoldable pub marks_found : Option Marks → Marks
marks_found None = no_marks
marks_found (Some m) = m

unfoldable pub marks_at : List Marks → ℕ → Marks
marks_at done i = marks_found (slice_get done i)

-- this, and what is known of some nodes
unfoldable pub together : List Marks → Marks → List ℕ → Marks
together done m [] = m
together done m (i ∷ is) = together done (both m (marks_at done i)) is

unfoldable pub pair_parts : Option (ℕ × ℕ) → List ℕ
pair_parts None = []
pair_parts (Some c) = c.0 ∷ c.1 ∷ []

unfoldable pub catch_parts : List (ℕ × ℕ) → List ℕ
catch_parts [] = []
catch_parts (c ∷ cs) = c.0 ∷ c.1 ∷ catch_parts cs

-- the nodes that are parts of a form
unfoldable pub parts : Form → List ℕ
parts (forms.Number s) = []
parts (forms.Text s) = []
parts (forms.Character s) = []
parts (forms.Noun x) = []
parts (forms.List es) = es
parts (forms.Group e) = e ∷ []
parts (forms.Block es) = es
parts (forms.If t b c) = t ∷ b ∷ option_to_list c
parts (forms.While t b) = t ∷ b ∷ []
parts (forms.For k v c b) = option_to_list k ++ v ∷ c ∷ b ∷ []
parts (forms.Escape p b c) = p ∷ b ∷ pair_parts c
parts (forms.Try b cs f) = b ∷ catch_parts cs ++ option_to_list f
parts (forms.When e b c) = e ∷ b ∷ pair_parts c
parts (forms.Function ps b) = ps ++ b ∷ []
parts (forms.Call f es) = f ∷ es
parts (forms.Index o es) = o ∷ es
parts (forms.VerbCall o v es) = o ∷ es
parts (forms.Send o v es) = o ∷ es
parts (forms.Prefix op e) = e ∷ []
parts (forms.Binary a op b) = a ∷ b ∷ []
parts (forms.MatchBind e p) = e ∷ p ∷ []
parts (forms.Assign x op e) = e ∷ []
parts (forms.AssignIndex o es e) = o ∷ es ++ e ∷ []
parts (forms.Leave w e) = option_to_list e
parts (forms.DefineObject x es ms) = es ++ ms
parts (forms.DefineFunction x ps g es b) = ps ++ option_to_list g ++ es ++ b ∷ []
parts (forms.Define p j e) = p ∷ option_to_list j ++ e ∷ []
parts (forms.DefineVar x g j e) = option_to_list g ++ option_to_list j ++ e ∷ []
parts (forms.AnyPattern g) = option_to_list g
parts (forms.FinalPattern x g) = option_to_list g
parts (forms.VarPattern x g) = option_to_list g
parts (forms.ListPattern ps) = ps
parts (forms.ViaPattern e p) = e ∷ p ∷ []
parts (forms.NounGuard x es) = es
parts (forms.ExprGuard e) = e ∷ []
parts (forms.To v ps g b) = ps ++ option_to_list g ++ b ∷ []
parts (forms.Method v ps g b) = ps ++ option_to_list g ++ b ∷ []
parts (forms.Matcher p b) = p ∷ b ∷ []
parts (forms.Program es) = es

-- the noun begins with `__`
unfoldable pub is_hidden : List ℕ → Bool
is_hidden x = starts_with (λ a b. a == b) x (codes "__")

-- the noun may not be bound or assigned
unfoldable pub is_reserved : List ℕ → Bool
is_reserved x = is_hidden x || is_some (safe_value x)

unfoldable pub fault_if : FaultKind → Option ℕ → Option Fault
fault_if kind t = option_map (λ token. record { kind = kind; token = token }) t

unfoldable pub with_fault : Option Fault → Marks → Marks
with_fault f m = record m { fault = earlier_fault m.fault f }

-- a loop is round these parts
unfoldable pub looped : Marks → Marks
looped m = record m { breaks = None; continues = None }

-- a `to`, `def f()`, `method`, `match`, `fn` or `when` is round these parts: a loop outside it does not count
unfoldable pub bounded : Marks → Marks
bounded m = with_fault (fault_if kinds.Break (earlier m.breaks m.continues)) (looped m)

-- it is a `to` or a `def f()`, to which a `return` belongs
unfoldable pub returning : Marks → Marks
returning m = record (bounded m) { returns = None }

-- it is another one, or the whole program: a `return` has nothing that it belongs to
unfoldable pub closed : Marks → Marks
closed m = with_fault (fault_if kinds.Return m.returns) (returning m)

-- a noun stands at this token, and may not
unfoldable pub named : Bool → ℕ → Marks → Marks
named wrong t m = with_fault (fault_if kinds.Name (if wrong then Some t else None)) m

-- a `return`, `break` or `continue` at this token
unfoldable pub leaving : List ℕ → ℕ → Marks → Marks
leaving word t m =
    if bytes_eq word (codes "return") then record m { returns = earlier (Some t) m.returns }
    else if bytes_eq word (codes "break") then record m { breaks = earlier (Some t) m.breaks }
    else record m { continues = earlier (Some t) m.continues }

-- an object that may have a name, behind the token `def`
unfoldable pub object_named : Option (List ℕ) → ℕ → Marks → Marks
object_named None t m = m
object_named (Some x) t m = named (is_reserved x) (t + 1) m

-- what is known of a form whose first token this is, by what is known of its parts
unfoldable pub form_marks : Form → ℕ → Marks → Marks
form_marks (forms.Noun x) t m = named (is_hidden x) t m
form_marks (forms.While a b) t m = looped m
form_marks (forms.For k v c b) t m = looped m
form_marks (forms.When e b c) t m = closed m
form_marks (forms.Function ps b) t m = closed m
form_marks (forms.Assign x op e) t m = named (is_reserved x) t m
form_marks (forms.Leave word e) t m = leaving word t m
form_marks (forms.DefineObject x es ms) t m = object_named x t m
form_marks (forms.DefineFunction x ps g es b) t m = named (is_reserved x) (t + 1) (returning m)
form_marks (forms.DefineVar x g j e) t m = named (is_reserved x) (t + 1) m
form_marks (forms.FinalPattern x g) t m = named (is_reserved x) t m
form_marks (forms.VarPattern x g) t m = named (is_reserved x) (t + 1) m
form_marks (forms.NounGuard x es) t m = named (is_hidden x) t m
form_marks (forms.To v ps g b) t m = returning m
form_marks (forms.Method v ps g b) t m = closed m
form_marks (forms.Matcher p b) t m = closed m
form_marks _ t m = m

-- what is known of the parts of a form
unfoldable pub inside : List Marks → Form → Marks
inside done form = together done no_marks (parts form)

unfoldable pub node_marks : List Marks → SugarNode → Marks
node_marks done n = form_marks n.form n.first (inside done n.form)

-- what is known of each node, those before it having been looked at
unfoldable pub marked_behind : List Marks → List SugarNode → List Marks
marked_behind done [] = done
marked_behind done (n ∷ ns) = marked_behind (done ++ node_marks done n ∷ []) ns

unfoldable pub marked : List SugarNode → List Marks
marked nodes = marked_behind [] nodes

unfoldable pub opened_marked : Unit {0}
unfolding no_marks earlier earlier_fault both marks_found marks_at together pair_parts catch_parts parts is_hidden is_reserved fault_if with_fault looped bounded returning closed named leaving object_named form_marks inside node_marks marked_behind marked
opened_marked = tt
