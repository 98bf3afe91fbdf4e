-- Which lists of nodes are kernel trees, numbered in the order in which their forms begin.
use Rattle.std.specs.Prelude.{◌≡◌, ℕ, suc, ◌<◌, ◌^◌, true, List, [], ◌∷◌, length, slice_get, Some, None, ℤ, pos, negsuc}
use Rattle.std.specs.Char.{IsScalar}
use Rattle.std.specs.Str.{IsUtf8}
use Rattle.def_text.specs.Keywords.{is_identifier}
use Rattle.def_kernel.specs.declared.node.Literal.{Literal}
use Rattle.def_kernel.specs.declared.node.Literal.TheVariants.{Int, Char, Text}
use Rattle.def_kernel.specs.declared.node.Node.{Node}
use Rattle.def_kernel.specs.declared.node.Node.TheVariants.{Lit, Noun, Set, Def, Call, Sequence, If, Escape, Try, Finally, Hide, MatchBind, Object, Method, Matcher, Final, Var, Any, ListPattern, Via}
use Rattle.def_kernel.specs.declared.shape.Kind.{Kind}
use Rattle.def_kernel.specs.declared.shape.Kind.TheVariants.{Expression, Pattern, Member, Naming}

-- an integer that 128 bits hold with its sign
abbrev pub IsInt : ℤ → Type 0
IsInt (pos n) = n < 2 ^ 127
IsInt (negsuc n) = n < 2 ^ 127

-- a character is one of Unicode, and a text is in UTF-8
abbrev pub IsLiteral : Literal → Type 0
IsLiteral (Int z) = IsInt z
IsLiteral (Char c) = IsScalar c
IsLiteral (Text text) = IsUtf8 text

-- a name is an identifier; a verb may be any text
pub record IsName (name : List ℕ) : Type 0 where
  pub utf8 : IsUtf8 name
  pub is_one : is_identifier name ≡ true

-- this node has this number
abbrev pub Has : List Node → ℕ → Node → Type 0
Has nodes n node = slice_get nodes n ≡ Some node

-- The nodes from the first number to before the second are one tree of this kind: its own node comes first, and behind it
-- its parts, one behind another in the order of its form. Where a part ends, the next one begins. So the first part of the
-- node with the number n begins at n + 1, and the tree ends where its last part does.
mutual
  pub data Tree (nodes : List Node) : Kind → ℕ → ℕ → Type 0 where
    -- expressions
    literal : {n : ℕ} {l : Literal} → Has nodes n (Lit l) → IsLiteral l → Tree nodes Expression n (suc n)
    noun : {n : ℕ} {name : List ℕ} → Has nodes n (Noun name) → IsName name → Tree nodes Expression n (suc n)
    set : {n m : ℕ} {name : List ℕ} → Has nodes n (Set name (suc n)) → IsName name → Tree nodes Expression (suc n) m → Tree nodes Expression n m
    def : {n a m : ℕ} → Has nodes n (Def (suc n) None a) → Tree nodes Pattern (suc n) a → Tree nodes Expression a m → Tree nodes Expression n m
    def_exit : {n a b m : ℕ} → Has nodes n (Def (suc n) (Some a) b)
        → Tree nodes Pattern (suc n) a → Tree nodes Expression a b → Tree nodes Expression b m → Tree nodes Expression n m
    call : {n a m : ℕ} {verb : List ℕ} {args : List ℕ} → Has nodes n (Call (suc n) verb args) → IsUtf8 verb
        → Tree nodes Expression (suc n) a → Row nodes Expression args a m → Tree nodes Expression n m
    sequence : {n a m : ℕ} {more : List ℕ} → Has nodes n (Sequence (suc n ∷ more))
        → Tree nodes Expression (suc n) a → Row nodes Expression more a m → Tree nodes Expression n m
    choice : {n a b m : ℕ} → Has nodes n (If (suc n) a b)
        → Tree nodes Expression (suc n) a → Tree nodes Expression a b → Tree nodes Expression b m → Tree nodes Expression n m
    escape : {n a m : ℕ} → Has nodes n (Escape (suc n) a None) → Tree nodes Pattern (suc n) a → Tree nodes Expression a m → Tree nodes Expression n m
    escape_catch : {n a b c m : ℕ} → Has nodes n (Escape (suc n) a (Some (b, c)))
        → Tree nodes Pattern (suc n) a → Tree nodes Expression a b → Tree nodes Pattern b c → Tree nodes Expression c m → Tree nodes Expression n m
    try_catch : {n a b m : ℕ} → Has nodes n (Try (suc n) a b)
        → Tree nodes Expression (suc n) a → Tree nodes Pattern a b → Tree nodes Expression b m → Tree nodes Expression n m
    finally : {n a m : ℕ} → Has nodes n (Finally (suc n) a) → Tree nodes Expression (suc n) a → Tree nodes Expression a m → Tree nodes Expression n m
    hide : {n m : ℕ} → Has nodes n (Hide (suc n)) → Tree nodes Expression (suc n) m → Tree nodes Expression n m
    match_bind : {n a m : ℕ} → Has nodes n (MatchBind (suc n) a) → Tree nodes Expression (suc n) a → Tree nodes Pattern a m → Tree nodes Expression n m
    object : {n a b m : ℕ} {auditors members : List ℕ} → Has nodes n (Object (suc n) auditors members)
        → Tree nodes Naming (suc n) a → Row nodes Expression auditors a b → Row nodes Member members b m → Tree nodes Expression n m
    -- members of an object
    method : {n a m : ℕ} {verb : List ℕ} {patterns : List ℕ} → Has nodes n (Method verb patterns a) → IsUtf8 verb
        → Row nodes Pattern patterns (suc n) a → Tree nodes Expression a m → Tree nodes Member n m
    matcher : {n a m : ℕ} → Has nodes n (Matcher (suc n) a) → Tree nodes Pattern (suc n) a → Tree nodes Expression a m → Tree nodes Member n m
    -- patterns, without a guard and with one
    final : {n : ℕ} {name : List ℕ} → Has nodes n (Final name None) → IsName name → Tree nodes Pattern n (suc n)
    final_guarded : {n m : ℕ} {name : List ℕ} → Has nodes n (Final name (Some (suc n))) → IsName name → Tree nodes Expression (suc n) m → Tree nodes Pattern n m
    variable : {n : ℕ} {name : List ℕ} → Has nodes n (Var name None) → IsName name → Tree nodes Pattern n (suc n)
    variable_guarded : {n m : ℕ} {name : List ℕ} → Has nodes n (Var name (Some (suc n))) → IsName name → Tree nodes Expression (suc n) m → Tree nodes Pattern n m
    any : {n : ℕ} → Has nodes n (Any None) → Tree nodes Pattern n (suc n)
    any_guarded : {n m : ℕ} → Has nodes n (Any (Some (suc n))) → Tree nodes Expression (suc n) m → Tree nodes Pattern n m
    list : {n m : ℕ} {patterns : List ℕ} → Has nodes n (ListPattern patterns) → Row nodes Pattern patterns (suc n) m → Tree nodes Pattern n m
    via : {n a m : ℕ} → Has nodes n (Via (suc n) a) → Tree nodes Expression (suc n) a → Tree nodes Pattern a m → Tree nodes Pattern n m
    -- what names an object: a name or none, without a guard
    named : {n : ℕ} {name : List ℕ} → Has nodes n (Final name None) → IsName name → Tree nodes Naming n (suc n)
    unnamed : {n : ℕ} → Has nodes n (Any None) → Tree nodes Naming n (suc n)

  -- trees of this kind that begin at these numbers, one behind another
  pub data Row (nodes : List Node) : Kind → List ℕ → ℕ → ℕ → Type 0 where
    none : {kind : Kind} {n : ℕ} → Row nodes kind [] n n
    one_more : {kind : Kind} {n a m : ℕ} {starts : List ℕ} → Tree nodes kind n a → Row nodes kind starts a m → Row nodes kind (n ∷ starts) n m

-- all nodes are one expression, whose node is the first
abbrev pub IsTree : List Node → Type 0
IsTree nodes = Tree nodes Expression 0 (length nodes)
