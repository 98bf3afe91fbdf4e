-- Which kernel trees are scoped: what a node asks of the scopes round it, and which scopes it leaves.
use Rattle.std.specs.Prelude.{◌≡◌, ℕ, Bool, true, false, List, [], ◌∷◌, Option, Some, None}
use Rattle.def_kernel.specs.declared.node.Literal.{Literal}
use Rattle.def_kernel.specs.declared.node.Node.{Node}
use Rattle.def_kernel.specs.declared.node.Node.TheVariants.{Lit, Noun, Set, Def, Call, Sequence, If, Escape, Try, Finally, Hide, MatchBind, Object, Method, Matcher, Final, Var, Any, ListPattern, Via}
use Rattle.def_kernel.specs.Trees.{Has, IsTree}
use Rattle.ev_reader.specs.declared.scope.Binding.{Binding}
use Rattle.ev_reader.specs.Scopes.{bound, is_bound_here, with_name_here, with_given, first_fault}

-- the scopes round a node, the innermost first
abbrev pub Scopes : Type 0
Scopes = List (List Binding)

-- The node of this number stands rightly in the first scopes and leaves the second: each noun that is used is bound, each that
-- is assigned is bound by var, and each that is bound is not bound yet in its scope. What has a scope of its own stands in
-- an empty one inside, and leaves the scopes as they were.
mutual
  pub data Scoped (nodes : List Node) : Scopes → ℕ → Scopes → Type 0 where
    is_literal : {s : Scopes} {n : ℕ} {l : Literal} → Has nodes n (Lit l) → Scoped nodes s n s
    is_noun : {s : Scopes} {n : ℕ} {name : List ℕ} {is_var : Bool} → Has nodes n (Noun name) → bound name s ≡ Some is_var → Scoped nodes s n s
    is_set : {s t : Scopes} {n e : ℕ} {name : List ℕ} → Has nodes n (Set name e) → bound name s ≡ Some true → Scoped nodes s e t → Scoped nodes s n t
    is_def : {s t u v : Scopes} {n p e : ℕ} {exit : Option ℕ} → Has nodes n (Def p exit e) → MayScoped nodes s exit t → Scoped nodes t e u → Scoped nodes u p v → Scoped nodes s n v
    is_call : {s t u : Scopes} {n r : ℕ} {verb : List ℕ} {args : List ℕ} → Has nodes n (Call r verb args) → Scoped nodes s r t → AllScoped nodes t args u → Scoped nodes s n u
    is_sequence : {s t : Scopes} {n : ℕ} {parts : List ℕ} → Has nodes n (Sequence parts) → AllScoped nodes s parts t → Scoped nodes s n t
    is_choice : {s t u v : Scopes} {n a b c : ℕ} → Has nodes n (If a b c) → Scoped nodes ([] ∷ s) a t → Scoped nodes t b u → Scoped nodes ([] ∷ s) c v → Scoped nodes s n s
    is_escape : {s t u : Scopes} {n p b : ℕ} → Has nodes n (Escape p b None) → Scoped nodes ([] ∷ s) p t → Scoped nodes t b u → Scoped nodes s n s
    is_escape_catch : {s t u v w : Scopes} {n p b q c : ℕ} → Has nodes n (Escape p b (Some (q, c))) → Scoped nodes ([] ∷ s) p t → Scoped nodes t b u
        → Scoped nodes ([] ∷ s) q v → Scoped nodes v c w → Scoped nodes s n s
    is_try : {s t u v : Scopes} {n b p h : ℕ} → Has nodes n (Try b p h) → Scoped nodes ([] ∷ s) b t → Scoped nodes ([] ∷ s) p u → Scoped nodes u h v → Scoped nodes s n s
    is_finally : {s t u : Scopes} {n a b : ℕ} → Has nodes n (Finally a b) → Scoped nodes ([] ∷ s) a t → Scoped nodes ([] ∷ s) b u → Scoped nodes s n s
    is_hide : {s t : Scopes} {n e : ℕ} → Has nodes n (Hide e) → Scoped nodes ([] ∷ s) e t → Scoped nodes s n s
    is_match : {s t u : Scopes} {n e p : ℕ} → Has nodes n (MatchBind e p) → Scoped nodes s e t → Scoped nodes t p u → Scoped nodes s n u
    is_object : {s t u v : Scopes} {n p : ℕ} {auditors members : List ℕ} → Has nodes n (Object p auditors members) → AllScoped nodes s auditors t → Scoped nodes t p u
        → AllScoped nodes u members v → Scoped nodes s n v
    is_method : {s t u : Scopes} {n b : ℕ} {verb : List ℕ} {patterns : List ℕ} → Has nodes n (Method verb patterns b) → AllScoped nodes ([] ∷ s) patterns t → Scoped nodes t b u → Scoped nodes s n s
    is_matcher : {s t u : Scopes} {n p b : ℕ} → Has nodes n (Matcher p b) → Scoped nodes ([] ∷ s) p t → Scoped nodes t b u → Scoped nodes s n s
    is_final : {s t : Scopes} {n : ℕ} {name : List ℕ} {guard : Option ℕ} → Has nodes n (Final name guard) → MayScoped nodes s guard t → is_bound_here name t ≡ false → Scoped nodes s n (with_name_here name false t)
    is_var : {s t : Scopes} {n : ℕ} {name : List ℕ} {guard : Option ℕ} → Has nodes n (Var name guard) → MayScoped nodes s guard t → is_bound_here name t ≡ false → Scoped nodes s n (with_name_here name true t)
    is_any : {s t : Scopes} {n : ℕ} {guard : Option ℕ} → Has nodes n (Any guard) → MayScoped nodes s guard t → Scoped nodes s n t
    is_list : {s t : Scopes} {n : ℕ} {patterns : List ℕ} → Has nodes n (ListPattern patterns) → AllScoped nodes s patterns t → Scoped nodes s n t
    is_via : {s t u : Scopes} {n e p : ℕ} → Has nodes n (Via e p) → Scoped nodes s e t → Scoped nodes t p u → Scoped nodes s n u

  -- a node or none
  pub data MayScoped (nodes : List Node) : Scopes → Option ℕ → Scopes → Type 0 where
    has_none : {s : Scopes} → MayScoped nodes s None s
    has_one : {s t : Scopes} {n : ℕ} → Scoped nodes s n t → MayScoped nodes s (Some n) t

  -- nodes one after another
  pub data AllScoped (nodes : List Node) : Scopes → List ℕ → Scopes → Type 0 where
    no_more : {s : Scopes} → AllScoped nodes s [] s
    one_more : {s t u : Scopes} {n : ℕ} {ns : List ℕ} → Scoped nodes s n t → AllScoped nodes t ns u → AllScoped nodes s (n ∷ ns) u

-- the program begins a scope inside that of the given names, which are final
abbrev pub scopes_of : List (List ℕ) → Scopes
scopes_of given = [] ∷ with_given given [] ∷ []

-- Law: a tree in which the check of scopes finds no fault is scoped.
abbrev pub AcceptedTreesAreScoped : Type 0
AcceptedTreesAreScoped = (nodes : List Node) (given : List (List ℕ)) → IsTree nodes → first_fault nodes given ≡ None → (after : Scopes) × Scoped nodes (scopes_of given) 0 after
