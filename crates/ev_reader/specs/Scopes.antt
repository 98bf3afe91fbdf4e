-- The scopes of a kernel tree: which names are visible at a node, and the first node whose name is not rightly bound.
--
-- A name is visible from the end of its pattern on. A scope of its own have the whole program, inside the given names; a
-- hide; each method with its patterns; each matcher; an if's test with its second item, and its third item; an escape's
-- pattern with its body, and its catch with its body; a try's body, and its pattern with its handler; each part of a
-- finally. A name is bound at most once in a scope, an inner scope may bind it anew, and only a name of `(var ..)` is
-- assigned. An object's own name is bound round the object, behind its auditors and before its members.
--
-- Of several faults the one whose node begins first counts. Nodes begin in the order in which they are visited here: a
-- `set` finds its name before its value; a `def` has its ejector and its value before its pattern; a `via` its expression
-- before its pattern; else from left to right. A name that is bound twice is a fault of the pattern that binds it second,
-- which begins before its guard.
use Rattle.std.specs.Prelude.{ℕ, zero, suc, Bool, true, false, not, ◌&&◌, List, [], ◌∷◌, ◌++◌, length, slice_get, bytes_eq, Option, Some, None, is_some, option_map, drop}
use Rattle.std.specs.List.{find}
use Rattle.def_kernel.specs.declared.node.Node.{Node}
use Rattle.def_kernel.specs.declared.node.Node.TheVariants.{Lit, Noun, Set, Def, Call, Sequence, If, Escape, Try, Finally, Hide, MatchBind, Object, Method, Matcher, Final, Var, Any, ListPattern, Via}
use Rattle.ev_reader.specs.declared.scope_fault.ScopeFault.{ScopeFault}
use Rattle.ev_reader.specs.declared.scope_fault.ScopeFault.TheVariants.{Unbound, AssignToFinal, BoundTwice}
use Rattle.ev_reader.specs.declared.scope.Binding.{Binding}
use Rattle.ev_reader.specs.declared.scan.Scan.{Scan}

-- whether a name is bound in a scope, and then whether it may be assigned
abbrev pub bound_in : List ℕ → List Binding → Option Bool
bound_in name scope = option_map (λ (b : Binding). b.is_var) (find (λ (b : Binding). bytes_eq name b.name) scope)

-- the same in scopes, the innermost of which is first
abbrev pub bound : List ℕ → List (List Binding) → Option Bool
bound name [] = None
bound name (scope ∷ scopes) = elim (bound_in name scope) [ Some is_var ↦ Some is_var | None ↦ bound name scopes ]

abbrev pub is_bound_here : List ℕ → List (List Binding) → Bool
is_bound_here name [] = false
is_bound_here name (scope ∷ scopes) = is_some (bound_in name scope)

-- a scope with a name; one that is bound stays as it is
abbrev pub with_name : List ℕ → Bool → List Binding → List Binding
with_name name is_var scope = elim (is_some (bound_in name scope)) [
  | true ↦ scope
  | false ↦ scope ++ record { name = name; is_var = is_var } ∷ []
]

abbrev pub with_name_here : List ℕ → Bool → List (List Binding) → List (List Binding)
with_name_here name is_var [] = []
with_name_here name is_var (scope ∷ scopes) = with_name name is_var scope ∷ scopes

-- a fault; an earlier one stays
abbrev pub first : Option ScopeFault → ScopeFault → Option ScopeFault
first (Some earlier) fault = Some earlier
first None fault = Some fault

abbrev pub faulty : ScopeFault → Scan → Scan
faulty fault s = record s { fault = first s.fault fault }

-- a noun is used
abbrev pub use_of : ℕ → Option Bool → Scan → Scan
use_of id None s = faulty (Unbound id) s
use_of id (Some is_var) s = s

abbrev pub uses : ℕ → List ℕ → Scan → Scan
uses id name s = use_of id (bound name s.scopes) s

-- a noun is assigned
abbrev pub assignment_of : ℕ → Option Bool → Scan → Scan
assignment_of id None s = faulty (Unbound id) s
assignment_of id (Some true) s = s
assignment_of id (Some false) s = faulty (AssignToFinal id) s

abbrev pub assigns : ℕ → List ℕ → Scan → Scan
assigns id name s = assignment_of id (bound name s.scopes) s

-- no fault was found
abbrev pub is_clean : Scan → Bool
is_clean s = not (is_some s.fault)

-- A pattern ends, and binds its name. Where the name was bound, that is the first fault if none was found before the
-- pattern began.
abbrev pub fault_behind : ℕ → Bool → Option ScopeFault → Option ScopeFault
fault_behind id true fault = Some (BoundTwice id)
fault_behind id false fault = fault

abbrev pub binds : ℕ → Bool → List ℕ → Bool → Scan → Scan
binds id clean name is_var s = record {
  scopes = with_name_here name is_var s.scopes;
  fault = fault_behind id (clean && is_bound_here name s.scopes) s.fault;
}

abbrev pub enter : Scan → Scan
enter s = record s { scopes = [] ∷ s.scopes }

abbrev pub leave : Scan → Scan
leave s = record s { scopes = drop 1 s.scopes }

-- in a scope of its own
abbrev pub inside : (Scan → Scan) → Scan → Scan
inside f s = leave (f (enter s))

abbrev pub Scanner : Type 0
Scanner = ℕ → Scan → Scan

abbrev pub all : Scanner → List ℕ → Scan → Scan
all rec [] s = s
all rec (id ∷ ids) s = all rec ids (rec id s)

abbrev pub perhaps : Scanner → Option ℕ → Scan → Scan
perhaps rec None s = s
perhaps rec (Some id) s = rec id s

abbrev pub catch : Scanner → Option (ℕ × ℕ) → Scan → Scan
catch rec None s = s
catch rec (Some caught) s = inside (λ u. rec caught.1 (rec caught.0 u)) s

-- a node of this number is visited
abbrev pub visit : Scanner → ℕ → Node → Scan → Scan
visit rec id (Lit literal) s = s
visit rec id (Noun name) s = uses id name s
visit rec id (Set name value) s = rec value (assigns id name s)
visit rec id (Def pattern exit value) s = rec pattern (rec value (perhaps rec exit s))
visit rec id (Call receiver verb args) s = all rec args (rec receiver s)
visit rec id (Sequence parts) s = all rec parts s
visit rec id (If test then_part else_part) s = inside (rec else_part) (inside (λ u. rec then_part (rec test u)) s)
visit rec id (Escape pattern body caught) s = catch rec caught (inside (λ u. rec body (rec pattern u)) s)
visit rec id (Try body pattern handler) s = inside (λ u. rec handler (rec pattern u)) (inside (rec body) s)
visit rec id (Finally body after) s = inside (rec after) (inside (rec body) s)
visit rec id (Hide body) s = inside (rec body) s
visit rec id (MatchBind value pattern) s = rec pattern (rec value s)
visit rec id (Object pattern auditors members) s = all rec members (rec pattern (all rec auditors s))
visit rec id (Method verb patterns body) s = inside (λ u. rec body (all rec patterns u)) s
visit rec id (Matcher pattern body) s = inside (λ u. rec body (rec pattern u)) s
visit rec id (Final name guard) s = binds id (is_clean s) name false (perhaps rec guard s)
visit rec id (Var name guard) s = binds id (is_clean s) name true (perhaps rec guard s)
visit rec id (Any guard) s = perhaps rec guard s
visit rec id (ListPattern patterns) s = all rec patterns s
visit rec id (Via value pattern) s = rec pattern (rec value s)

abbrev pub visit_found : Scanner → ℕ → Option Node → Scan → Scan
visit_found rec id None s = s
visit_found rec id (Some node) s = visit rec id node s

-- to a height that no tree of these nodes passes
abbrev pub scan : List Node → ℕ → Scanner
scan tree zero id s = s
scan tree (suc height) id s = visit_found (scan tree height) id (slice_get tree id) s

-- the given names are final
abbrev pub with_given : List (List ℕ) → List Binding → List Binding
with_given [] scope = scope
with_given (name ∷ names) scope = with_given names (with_name name false scope)

-- the program begins a scope inside that of the given names
abbrev pub started : List (List ℕ) → Scan
started given = record { scopes = [] ∷ with_given given [] ∷ []; fault = None }

-- the first fault of a tree inside the given names, or none
abbrev pub first_fault : List Node → List (List ℕ) → Option ScopeFault
first_fault tree given = (scan tree (length tree) 0 (started given)).fault
