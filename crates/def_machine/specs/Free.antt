-- The free nouns of an object's methods and matchers, in order of first use, and the nouns that a pattern binds.
use Rattle.std.specs.Prelude.{ℕ, zero, suc, Bool, true, false, List, [], ◌∷◌, ◌++◌, Option, Some, None, ◌==◌, ◌||◌, length, slice_get}
use Rattle.def_machine.specs.Values.{Words}
use Rattle.def_kernel.specs.declared.node.Node.{Node}
use Rattle.def_kernel.specs.declared.node.Node.TheVariants.{Lit, Noun, Set, Def, Call, Sequence, If, Escape, Try, Finally, Hide, MatchBind, Object, Method, Matcher, Final, Var, Any, ListPattern, Via}

unfoldable pub same_words : Words → Words → Bool
same_words [] [] = true
same_words (a ∷ as') (b ∷ bs) = elim (a == b) [ true ↦ same_words as' bs | false ↦ false ]
same_words [] (b ∷ bs) = false
same_words (a ∷ as') [] = false

unfoldable pub has_words : Words → List Words → Bool
has_words x [] = false
has_words x (y ∷ ys) = elim (same_words x y) [ true ↦ true | false ↦ has_words x ys ]

-- the entry of a table at a text, or the last one
unfoldable pub entry : {A : Type 0} → List (Words × A) → A → Words → A
entry [] a x = a
entry (e ∷ es) a x = elim (same_words e.0 x) [ true ↦ e.1 | false ↦ entry es a x ]

-- ---- free nouns, in the order in which nodes begin

-- the nouns that are bound so far, and those that were used and are not
pub record Walk : Type 0 where
  pub bound : List Words
  pub free : List Words

unfoldable pub uses : Words → Walk → Walk
uses x w = elim (has_words x w.bound || has_words x w.free) [ true ↦ w | false ↦ record w { free = w.free ++ x ∷ [] } ]

unfoldable pub binds : Words → Walk → Walk
binds x w = record w { bound = x ∷ w.bound }

abbrev pub Walker : Type 0
Walker = ℕ → Walk → Walk

unfoldable pub walk_all : Walker → List ℕ → Walk → Walk
walk_all rec [] w = w
walk_all rec (e ∷ es) w = walk_all rec es (rec e w)

unfoldable pub walk_option : Walker → Option ℕ → Walk → Walk
walk_option rec None w = w
walk_option rec (Some e) w = rec e w

-- what is bound inside is not bound after
unfoldable pub inside : (Walk → Walk) → Walk → Walk
inside f w = record (f w) { bound = w.bound }

-- an object's own name is bound round its members, and not in its auditors
unfoldable pub walk_object : Walker → ℕ → List ℕ → List ℕ → Walk → Walk
walk_object rec p auditors members w = inside (walk_all rec members) (rec p (walk_all rec auditors w))

unfoldable pub walk_node : Walker → Node → Walk → Walk
walk_node rec (Lit l) w = w
walk_node rec (Noun x) w = uses x w
walk_node rec (Set x e) w = rec e (uses x w)
walk_node rec (Def p j e) w = rec p (rec e (walk_option rec j w))
walk_node rec (Call r v es) w = walk_all rec es (rec r w)
walk_node rec (Sequence es) w = walk_all rec es w
walk_node rec (If t a b) w = inside (rec b) (inside (λ u. rec a (rec t u)) w)
walk_node rec (Escape p b None) w = inside (λ u. rec b (rec p u)) w
walk_node rec (Escape p b (Some c)) w = inside (λ u. rec c.1 (rec c.0 u)) (inside (λ u. rec b (rec p u)) w)
walk_node rec (Try b p h) w = inside (λ u. rec h (rec p u)) (inside (rec b) w)
walk_node rec (Finally a b) w = inside (rec b) (inside (rec a) w)
walk_node rec (Hide e) w = inside (rec e) w
walk_node rec (MatchBind e p) w = rec p (rec e w)
walk_node rec (Object p auditors members) w = walk_object rec p auditors members w
walk_node rec (Method v ps b) w = inside (λ u. rec b (walk_all rec ps u)) w
walk_node rec (Matcher p b) w = inside (λ u. rec b (rec p u)) w
walk_node rec (Final x g) w = binds x (walk_option rec g w)
walk_node rec (Var x g) w = binds x (walk_option rec g w)
walk_node rec (Any g) w = walk_option rec g w
walk_node rec (ListPattern ps) w = walk_all rec ps w
walk_node rec (Via e p) w = rec p (rec e w)

unfoldable pub walk_found : Walker → Option Node → Walk → Walk
walk_found rec None w = w
walk_found rec (Some n) w = walk_node rec n w

unfoldable pub walk : List Node → ℕ → Walker
walk tree zero e w = w
walk tree (suc d) e w = walk_found (λ e w. walk tree d e w) (slice_get tree e) w

unfoldable pub free_nouns : List Node → List ℕ → List Words
free_nouns tree members = (walk_all (walk tree (length tree)) members (record { bound = []; free = [] })).free

-- ---- the nouns that a pattern binds in the scope in which it stands, in the order of the form

-- a noun, and whether it is bound to a var slot
pub record BoundNoun : Type 0 where
  pub noun : Words
  pub is_var : Bool

abbrev pub Binder : Type 0
Binder = ℕ → List BoundNoun

unfoldable pub of_all : Binder → List ℕ → List BoundNoun
of_all rec [] = []
of_all rec (e ∷ es) = rec e ++ of_all rec es

unfoldable pub of_option : Binder → Option ℕ → List BoundNoun
of_option rec None = []
of_option rec (Some e) = rec e

-- a node of a scope of its own binds nothing outside
unfoldable pub of_node : Binder → Node → List BoundNoun
of_node rec (Set x e) = rec e
of_node rec (Def p j e) = rec p ++ of_option rec j ++ rec e
of_node rec (Call r v es) = rec r ++ of_all rec es
of_node rec (Sequence es) = of_all rec es
of_node rec (MatchBind e p) = rec e ++ rec p
of_node rec (Object p auditors members) = rec p ++ of_all rec auditors
of_node rec (Final x g) = record { noun = x; is_var = false } ∷ of_option rec g
of_node rec (Var x g) = record { noun = x; is_var = true } ∷ of_option rec g
of_node rec (Any g) = of_option rec g
of_node rec (ListPattern ps) = of_all rec ps
of_node rec (Via e p) = rec e ++ rec p
of_node rec _ = []

unfoldable pub of_found : Binder → Option Node → List BoundNoun
of_found rec None = []
of_found rec (Some n) = of_node rec n

unfoldable pub bound_at : List Node → ℕ → Binder
bound_at tree zero e = []
bound_at tree (suc d) e = of_found (λ e. bound_at tree d e) (slice_get tree e)

unfoldable pub bound_nouns : List Node → ℕ → List BoundNoun
bound_nouns tree p = bound_at tree (length tree) p

-- opens each definition of this file
unfoldable pub opened_free : Unit {0}
unfolding same_words has_words entry uses binds walk_all walk_option inside walk_object walk_node walk_found walk free_nouns of_all of_option of_node of_found bound_at bound_nouns
opened_free = tt
