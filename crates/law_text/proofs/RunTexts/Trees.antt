-- A kernel tree is such that lines can tell it.
use Rattle.std.specs.Str.{IsUtf8, bytes_eq}
use Rattle.std.proofs.lemmas.Slice.Eq.{bytes_eq-Decides}
use Rattle.def_kernel.specs.declared.node.Node.TheVariants.{Lit, Noun, Set, Call, Method, Final, Var}
use Rattle.law_text.specs.Text.Feeds.{AllOf}
use Rattle.law_text.specs.RunTexts.Laws.{IsShortLiteral, IsShort}
use Rattle.std.proofs.Common.{◌≡◌, ◌⊎◌, ◌||◌, inl, inr, ℕ, zero, suc, ◌≤◌, ◌<◌, Bool, true, false, List, [], ◌∷◌, Option, Some, if◌then◌else◌, refl, subst, sym, length, codes, arith}
use Rattle.std.specs.Prelude.{slice_get}
use Rattle.std.proofs.lemmas.Bool.{cases_lt}
use Rattle.def_text.specs.Keywords.{is_identifier}
use Rattle.def_text.specs.Quoting.{quoted}
use Rattle.def_kernel.specs.declared.node.Literal.{Literal}
use Rattle.def_kernel.specs.declared.node.Literal.TheVariants.{Text}
use Rattle.def_kernel.specs.declared.node.Node.{Node}
use Rattle.def_kernel.specs.declared.shape.Kind.{Kind}
use Rattle.def_kernel.specs.Trees.{IsLiteral, IsName, Has, Tree, Row, IsTree, literal, noun, set, def, def_exit, call, sequence, choice, escape, escape_catch, try_catch, finally, hide, match_bind, object, method, matcher, final, final_guarded, variable, variable_guarded, any, any_guarded, list, via, named, unnamed, none, one_more}
use Rattle.law_text.specs.Text.Words.{IsWord}
use Rattle.law_text.proofs.Text.Quotes.{verb_word}
use Rattle.law_text.specs.RunTexts.Fitting.{IsObjectName}
use Rattle.law_text.specs.RunTexts.Spelled.{LiteralFits, NodeFits, TreeFits}

bare : (b : Bool) (x y : List ℕ) → b ≡ true → IsWord (if b then x else y) → IsWord x
bare true x y e w = w
bare false x y e w = cc

-- the name of an object is a word
pub object_word : (x : List ℕ) → IsObjectName x → IsWord x
object_word x h = by (is_identifier x) (bytes_eq x (codes "_")) refl refl h.1
  where
    by : (a b : Bool) → is_identifier x ≡ a → bytes_eq x (codes "_") ≡ b → (a || b) ≡ true → IsWord x
    by true b e f i = bare (is_identifier x) x (quoted x) e (verb_word x h.0)
    by false true e f i = subst IsWord (sym ((bytes_eq-Decides x (codes "_")).0 f)) (λ d. refl)
    by false false e f i = cc

-- and an identifier may be one
object_name : (name : List ℕ) → IsName name → IsObjectName name
object_name name h = (h.utf8, rw h.is_one refl)

-- what a kernel tree tells of a node by itself
abbrev NodeSpelled : Node → Type 0
NodeSpelled (Lit l) = IsLiteral l
NodeSpelled (Noun x) = IsUtf8 x
NodeSpelled (Set x e) = IsUtf8 x
NodeSpelled (Call r verb args) = IsUtf8 verb
NodeSpelled (Method verb ps b) = IsUtf8 verb
NodeSpelled (Final x g) = IsUtf8 x × IsObjectName x
NodeSpelled (Var x g) = IsUtf8 x
NodeSpelled other = Unit {0}

literal_fits : (l : Literal) → IsLiteral l → IsShortLiteral l → LiteralFits l
literal_fits (Text t) h k = (h, k)
literal_fits other h k = h

-- and it fits where its texts are short
node_fits : (n : Node) → NodeSpelled n → IsShort n → NodeFits n
node_fits (Lit l) h k = literal_fits l h k
node_fits (Noun x) h k = (h, k)
node_fits (Set x e) h k = (h, k)
node_fits (Call r verb args) h k = (h, k)
node_fits (Method verb ps b) h k = (h, k)
node_fits (Final x g) h k = ((h.0, k), h.1)
node_fits (Var x g) h k = (h, k)
node_fits _ h k = tt

module _ (nodes : List Node) where
  -- each node from the first number to before the second fits
  abbrev Fit : ℕ → ℕ → Type 0
  Fit n m = (i : ℕ) (x : Node) → n ≤ i → i < m → slice_get nodes i ≡ Some x → NodeSpelled x

  nothing : (n : ℕ) → Fit n n
  nothing n i x l g e = absurd (omega (arith, l, g))

  join : (n a m : ℕ) → Fit n a → Fit a m → Fit n m
  join n a m h k i x l g e = by (cases_lt i a)
    where
      by : (i < a) ⊎ (a ≤ i) → NodeSpelled x
      by (inl u) = h i x l u e
      by (inr u) = k i x u g e

  same_node : (x y : Node) → ◌≡◌ {A = Option Node} (Some x) (Some y) → x ≡ y
  same_node x y e = cc

  one : (n : ℕ) (y : Node) → Has nodes n y → NodeSpelled y → Fit n (suc n)
  one n y has f i x l g e = let at : i ≡ n = omega (arith, l, g) in
      let found : slice_get nodes n ≡ Some x = subst (λ k. slice_get nodes k ≡ Some x) at e in
      subst NodeSpelled (same_node y x (subst (λ o. o ≡ Some x) has found)) f

  mutual
    fit : {kind : Kind} {n m : ℕ} → Tree nodes kind n m → Fit n m
    fit (literal {n = n} e f) = one n _ e f
    fit (noun {n = n} e f) = one n _ e f.utf8
    fit (set {n = n} {m = m} e f t) = join n (suc n) m (one n _ e f.utf8) (fit t)
    fit (def {n = n} {a = a} {m = m} e p t) = join n (suc n) m (one n _ e tt) (join (suc n) a m (fit p) (fit t))
    fit (def_exit {n = n} {a = a} {b = b} {m = m} e p j t) = join n (suc n) m (one n _ e tt) (join (suc n) a m (fit p) (join a b m (fit j) (fit t)))
    fit (call {n = n} {a = a} {m = m} e u t r) = join n (suc n) m (one n _ e u) (join (suc n) a m (fit t) (row r))
    fit (sequence {n = n} {a = a} {m = m} e t r) = join n (suc n) m (one n _ e tt) (join (suc n) a m (fit t) (row r))
    fit (choice {n = n} {a = a} {b = b} {m = m} e x y z) = join n (suc n) m (one n _ e tt) (join (suc n) a m (fit x) (join a b m (fit y) (fit z)))
    fit (escape {n = n} {a = a} {m = m} e p t) = join n (suc n) m (one n _ e tt) (join (suc n) a m (fit p) (fit t))
    fit (escape_catch {n = n} {a = a} {b = b} {c = c} {m = m} e p t q h) = join n (suc n) m (one n _ e tt) (join (suc n) a m (fit p) (join a b m (fit t) (join b c m (fit q) (fit h))))
    fit (try_catch {n = n} {a = a} {b = b} {m = m} e t p h) = join n (suc n) m (one n _ e tt) (join (suc n) a m (fit t) (join a b m (fit p) (fit h)))
    fit (finally {n = n} {a = a} {m = m} e s t) = join n (suc n) m (one n _ e tt) (join (suc n) a m (fit s) (fit t))
    fit (hide {n = n} {m = m} e t) = join n (suc n) m (one n _ e tt) (fit t)
    fit (match_bind {n = n} {a = a} {m = m} e t p) = join n (suc n) m (one n _ e tt) (join (suc n) a m (fit t) (fit p))
    fit (object {n = n} {a = a} {b = b} {m = m} e p r s) = join n (suc n) m (one n _ e tt) (join (suc n) a m (fit p) (join a b m (row r) (row s)))
    fit (method {n = n} {a = a} {m = m} e u r t) = join n (suc n) m (one n _ e u) (join (suc n) a m (row r) (fit t))
    fit (matcher {n = n} {a = a} {m = m} e p t) = join n (suc n) m (one n _ e tt) (join (suc n) a m (fit p) (fit t))
    fit (final {n = n} {name = name} e f) = one n _ e (f.utf8, object_name name f)
    fit (final_guarded {n = n} {m = m} {name = name} e f t) = join n (suc n) m (one n _ e (f.utf8, object_name name f)) (fit t)
    fit (variable {n = n} e f) = one n _ e f.utf8
    fit (variable_guarded {n = n} {m = m} e f t) = join n (suc n) m (one n _ e f.utf8) (fit t)
    fit (any {n = n} e) = one n _ e tt
    fit (any_guarded {n = n} {m = m} e t) = join n (suc n) m (one n _ e tt) (fit t)
    fit (list {n = n} {m = m} e r) = join n (suc n) m (one n _ e tt) (row r)
    fit (via {n = n} {a = a} {m = m} e t p) = join n (suc n) m (one n _ e tt) (join (suc n) a m (fit t) (fit p))
    fit (named {n = n} {name = name} e f) = one n _ e (f.utf8, object_name name f)
    fit (unnamed {n = n} e) = one n _ e tt

    row : {kind : Kind} {ns : List ℕ} {n m : ℕ} → Row nodes kind ns n m → Fit n m
    row (none {n = n}) = nothing n
    row (one_more {n = n} {a = a} {m = m} t r) = join n a m (fit t) (row r)

each_fits : (xs : List Node) → ((i : ℕ) (x : Node) → slice_get xs i ≡ Some x → NodeSpelled x) → AllOf IsShort xs → TreeFits xs
each_fits [] h k = tt
each_fits (x ∷ xs) h k = (node_fits x (h zero x refl) k.0, each_fits xs (λ i y e. h (suc i) y e) k.1)

inside : {A : Type 0} (xs : List A) (i : ℕ) (x : A) → slice_get xs i ≡ Some x → i < length xs
inside [] i x e = cc
inside (y ∷ xs) zero x e = omega arith
inside (y ∷ xs) (suc i) x e = let l = inside xs i x e in omega (arith, l)

pub tree_fits : (nodes : List Node) → IsTree nodes → AllOf IsShort nodes → TreeFits nodes
tree_fits nodes t k = each_fits nodes (λ i x e. fit nodes t i x (omega arith) (inside nodes i x e) e) k
