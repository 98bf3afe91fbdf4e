-- Each tree that tokens spell is fair: its parts are of the kinds that its shapes want.
use Rattle.std.proofs.Common.{◌≡◌, zero, suc, List, [], ◌∷◌, ◌++◌, Option, Some, None, slice_get, refl, sym, subst, ◌∙◌}
use Rattle.def_kernel.specs.declared.shape.Kind.{Kind}
use Rattle.def_kernel.specs.declared.shape.Kind.TheVariants.{Expression, Member}
use Rattle.def_syntax.specs.declared.token.TokenKind.{TokenKind}
use Rattle.def_syntax.specs.declared.token.TokenKind.TheVariants as kinds
use Rattle.def_syntax.specs.declared.syntax.Word.{Word}
use Rattle.def_syntax.specs.declared.syntax.Shape.{Shape}
use Rattle.def_syntax.specs.declared.syntax.Shape.TheVariants as shapes
use Rattle.def_syntax.specs.declared.syntax.Line.{Line}
use Rattle.def_syntax.specs.declared.syntax.Line.TheVariants as lines
use Rattle.def_syntax.specs.declared.syntax.Tail.{Tail}
use Rattle.def_syntax.specs.declared.syntax.Tail.TheVariants as tails
use Rattle.def_syntax.specs.declared.place.Place.{Place}
use Rattle.def_syntax.specs.declared.place.Place.TheVariants as places
use Rattle.def_syntax.specs.declared.place.Move.{Move}
use Rattle.def_syntax.specs.declared.place.Move.TheVariants.{Takes, Reads, Wraps}
use Rattle.def_syntax.specs.declared.place.Series.{Series}
use Rattle.def_syntax.specs.declared.place.Series.TheVariants as series
use Rattle.def_syntax.specs.declared.place.Head.{Head}
use Rattle.def_syntax.specs.declared.place.Head.TheVariants as heads
use Rattle.def_syntax.specs.declared.place.Caught.{Caught}
use Rattle.def_syntax.specs.declared.place.Caught.TheVariants as caught
use Rattle.def_syntax.specs.declared.place.Named.TheVariants as named
use Rattle.def_syntax.specs.declared.place.Definition.{Definition}
use Rattle.def_syntax.specs.declared.place.Definition.TheVariants as definitions
use Rattle.def_syntax.specs.declared.place.Role.{Role}
use Rattle.def_syntax.specs.declared.place.Role.TheVariants as roles
use Rattle.def_syntax.specs.Grammar.{Tree, Trees, node, none, more, leaf, no_word, lead, moves, ending, closing, parameters, behind, caught_shape, definition_shape, role_shape, form_at, tower_of, shape_of, word_of, assigned, changed, becomes, more_at, begun, Has, here, there, Goal, line, tail, inside, Spells, form, tower, stays, goes, ends, takes, reads, wraps, SpellsProgram}
use Rattle.law_reading.specs.Expansion.Shapes.{sort_of, Slot, part, token, slots, Only, Heads, Sorted, Fair, AllFair}
use Rattle.law_reading.specs.Expansion.Laws.{AllGood, Read, Any, SpelledIsFair}
use Rattle.law_reading.proofs.Expansion.Sorts.{only_more, ot, on, line_sort, series_sort, head_sort, place_sort, Laid, laid_ends, ended_is}
use Rattle.law_reading.proofs.Expansion.Moves.{laid_moves, kept_of}

-- ---- the kind of tree that is read stays

abbrev MoveSort : Kind → Move → Type 0
MoveSort kind (Takes j r) = place_sort r ≡ kind
MoveSort kind (Reads l r) = place_sort r ≡ kind
MoveSort kind (Wraps j s r) = place_sort r ≡ kind

abbrev EachSort : Kind → List Move → Type 0
EachSort kind [] = Unit {0}
EachSort kind (m ∷ ms) = MoveSort kind m × EachSort kind ms

sort_move : (kind : Kind) {ms : List Move} {m : Move} → EachSort kind ms → Has ms m → MoveSort kind m
sort_move kind h (here {m = m} {ms = ms}) = h.0
sort_move kind h (there {n = n} {ms = ms} i) = sort_move kind h.1 i

closing_sort : (x : Series) → MoveSort (series_sort x) (closing x)
closing_sort series.Arguments = refl
closing_sort other = refl

behind_sort : (x : Head) → place_sort (behind x) ≡ head_sort x
behind_sort heads.If = refl
behind_sort other = refl

caught_sort : (e : Caught) → sort_of (caught_shape e) ≡ Expression
caught_sort caught.Escape = refl
caught_sort caught.When = refl

definition_sort : (d : Definition) → sort_of (definition_shape d) ≡ Expression
definition_sort definitions.Def = refl
definition_sort definitions.Var = refl

role_sort : (r : Role) → sort_of (role_shape r) ≡ Member
role_sort roles.To = refl
role_sort roles.Method = refl

parameters_sort : (r : Role) → series_sort (parameters r) ≡ Member
parameters_sort roles.To = refl
parameters_sort roles.Method = refl

moves_sort : (q : Place) → EachSort (place_sort q) (moves q)
moves_sort (places.Done s) = tt
moves_sort places.Program = (refl, (refl, (refl, tt)))
moves_sort places.ProgramMore = (refl, (refl, tt))
moves_sort places.Block = (refl, (refl, (refl, (refl, tt))))
moves_sort places.BlockMore = (refl, (refl, (refl, tt)))
moves_sort (places.First x) = (refl, (closing_sort x, tt))
moves_sort (places.More zero x) = (closing_sort x, tt)
moves_sort (places.More (suc n) x) = (refl, (closing_sort x, tt))
moves_sort (places.Close h) = (behind_sort h, tt)
moves_sort (places.CatchBlock e) = (caught_sort e, tt)
moves_sort places.TryMore = (refl, (refl, tt))
moves_sort places.ForKey = (refl, (refl, tt))
moves_sort places.Verb = (refl, (refl, tt))
moves_sort places.Send = (refl, (refl, (refl, tt)))
moves_sort (places.Def c) = (refl, (refl, (refl, tt)))
moves_sort (places.Name c named.Noun) = (refl, (refl, (refl, (refl, (refl, (refl, tt))))))
moves_sort (places.Name c named.Ignore) = (refl, (refl, (refl, (refl, (refl, tt)))))
moves_sort (places.NameGuarded c x) = (refl, (refl, tt))
moves_sort (places.Bound c d) = (refl, (refl, tt))
moves_sort (places.Value c d) = (definition_sort d, tt)
moves_sort (places.VarName c) = (refl, (refl, (refl, tt)))
moves_sort places.AuditorMore = (refl, (refl, tt))
moves_sort places.Script = (refl, (refl, (refl, (refl, tt))))
moves_sort places.Result = (refl, (refl, (refl, tt)))
moves_sort places.ResultGuarded = (refl, (refl, tt))
moves_sort places.FunctionAuditorMore = (refl, (refl, tt))
moves_sort (places.MemberVerb r) = (refl, (refl, tt))
moves_sort (places.MemberOpen r) = (parameters_sort r, tt)
moves_sort (places.MemberResult r) = (refl, (role_sort r, tt))
moves_sort (places.MemberGuard r) = (role_sort r, tt)
moves_sort other = (refl, tt)

-- ---- where a node begins

abbrev FormOk : Line → TokenKind → Option Place → Type 0
FormOk l k None = Unit {0}
FormOk l k (Some q) = Laid q k [] × (place_sort q ≡ line_sort l)

form_ok : (l : Line) (k : TokenKind) → FormOk l k (form_at l k)
form_ok lines.Expr kinds.Return = ((tt, tt), refl)
form_ok lines.Expr kinds.Break = ((tt, tt), refl)
form_ok lines.Expr kinds.Continue = ((tt, tt), refl)
form_ok lines.Expr kinds.Def = (refl, refl)
form_ok lines.Expr kinds.Var = (refl, refl)
form_ok lines.ExprBeforeBlock kinds.Return = ((tt, (refl, tt)), refl)
form_ok lines.ExprBeforeBlock kinds.Break = ((tt, (refl, tt)), refl)
form_ok lines.ExprBeforeBlock kinds.Continue = ((tt, (refl, tt)), refl)
form_ok lines.ExprBeforeBlock kinds.Def = (refl, refl)
form_ok lines.ExprBeforeBlock kinds.Var = (refl, refl)
form_ok lines.Prefix kinds.Minus = ((refl, tt), refl)
form_ok lines.Prefix kinds.Not = ((refl, tt), refl)
form_ok lines.Prim kinds.Number = (tt, refl)
form_ok lines.Prim kinds.Text = (tt, refl)
form_ok lines.Prim kinds.Character = (tt, refl)
form_ok lines.Prim kinds.Identifier = ((refl, refl), refl)
form_ok lines.Prim kinds.OpenBracket = (tt, refl)
form_ok lines.Prim kinds.OpenParen = (refl, refl)
form_ok lines.Prim kinds.OpenBrace = (tt, refl)
form_ok lines.Prim kinds.If = ((refl, refl), refl)
form_ok lines.Prim kinds.While = ((refl, refl), refl)
form_ok lines.Prim kinds.For = (refl, refl)
form_ok lines.Prim kinds.Escape = (refl, refl)
form_ok lines.Prim kinds.Try = (refl, refl)
form_ok lines.Prim kinds.When = ((refl, refl), refl)
form_ok lines.Prim kinds.Fn = (tt, refl)
form_ok lines.Block kinds.OpenBrace = (tt, refl)
form_ok lines.Branch kinds.OpenBrace = (tt, refl)
form_ok lines.Branch kinds.If = ((refl, refl), refl)
form_ok lines.Pattern kinds.Ignore = ((tt, (refl, tt)), refl)
form_ok lines.Pattern kinds.Identifier = (((refl, tt), (refl, (refl, tt))), refl)
form_ok lines.Pattern kinds.Var = (refl, refl)
form_ok lines.Pattern kinds.OpenBracket = (tt, refl)
form_ok lines.Pattern kinds.Via = ((refl, refl), refl)
form_ok lines.OtherPattern kinds.Var = (refl, refl)
form_ok lines.OtherPattern kinds.OpenBracket = (tt, refl)
form_ok lines.OtherPattern kinds.Via = ((refl, refl), refl)
form_ok lines.Guard kinds.Identifier = ((refl, refl), refl)
form_ok lines.Guard kinds.OpenParen = (refl, refl)
form_ok lines.Member kinds.To = (refl, refl)
form_ok lines.Member kinds.Method = (refl, refl)
form_ok lines.Member kinds.Match = (refl, refl)
form_ok _ _ = tt

abbrev TowerOk : Line → Option (Line × Tail) → Type 0
TowerOk l None = Unit {0}
TowerOk l (Some m) = (line_sort m.0 ≡ Expression) × (line_sort l ≡ Expression)

tower_ok : (l : Line) → TowerOk l (tower_of l)
tower_ok lines.Expr = (refl, refl)
tower_ok lines.ExprBeforeBlock = (refl, refl)
tower_ok lines.Or = (refl, refl)
tower_ok lines.And = (refl, refl)
tower_ok lines.Equality = (refl, refl)
tower_ok lines.Bits = (refl, refl)
tower_ok lines.Relation = (refl, refl)
tower_ok lines.Range = (refl, refl)
tower_ok lines.Sum = (refl, refl)
tower_ok lines.Product = (refl, refl)
tower_ok lines.Power = (refl, refl)
tower_ok lines.Prefix = (refl, refl)
tower_ok lines.Postfix = (refl, refl)
tower_ok _ = tt

-- what goes on behind a tree
abbrev MoreOk : TokenKind → List Slot → Option Place → Type 0
MoreOk j ss None = Unit {0}
MoreOk j ss (Some q) = Laid q j ss × (place_sort q ≡ Expression)

-- a noun has no parts
noun_assigned : (l : Line) (j k : TokenKind) (ss : List Slot) → line_sort l ≡ Expression → Sorted shapes.Noun j ss → MoreOk j (ss ++ token k ∷ []) (Some (places.Last l shapes.Assign))
noun_assigned l j k ss e h = ((h.0, only_more Expression (ss ++ token k ∷ []) (part (line_sort l)) (ot Expression ss k (on (Only Expression) h.1 tt)) (e, tt)), refl)

assigned_ok : (l : Line) (s : Shape) (j k : TokenKind) (ss : List Slot) → line_sort l ≡ Expression → Sorted s j ss → MoreOk j (ss ++ token k ∷ []) (assigned l s)
assigned_ok l shapes.Noun j k ss e h = noun_assigned l j k ss e h
assigned_ok l shapes.Index j k ss e h = (only_more Expression (ss ++ token k ∷ []) (part (line_sort l)) (ot Expression ss k h) (e, tt), refl)
assigned_ok l _ j k ss e h = tt

changed_ok : (l : Line) (s : Shape) (j k : TokenKind) (ss : List Slot) → line_sort l ≡ Expression → Sorted s j ss → MoreOk j (ss ++ token k ∷ []) (changed l s)
changed_ok l shapes.Noun j k ss e h = noun_assigned l j k ss e h
changed_ok l _ j k ss e h = tt

becomes_ok : (l : Line) (s : Shape) (j k : TokenKind) (ss : List Slot) → line_sort l ≡ Expression → Sorted s j ss → MoreOk j (ss ++ token k ∷ []) (becomes l s k)
becomes_ok l s j kinds.Assign ss e h = assigned_ok l s j kinds.Assign ss e h
becomes_ok l s j kinds.AddAssign ss e h = changed_ok l s j kinds.AddAssign ss e h
becomes_ok l s j kinds.SubtractAssign ss e h = changed_ok l s j kinds.SubtractAssign ss e h
becomes_ok l s j kinds.MultiplyAssign ss e h = changed_ok l s j kinds.MultiplyAssign ss e h
becomes_ok l s j kinds.FloorDivideAssign ss e h = changed_ok l s j kinds.FloorDivideAssign ss e h
becomes_ok l s j kinds.RemainderAssign ss e h = changed_ok l s j kinds.RemainderAssign ss e h
becomes_ok l s j kinds.ModAssign ss e h = changed_ok l s j kinds.ModAssign ss e h
becomes_ok l s j kinds.PowAssign ss e h = changed_ok l s j kinds.PowAssign ss e h
becomes_ok l s j kinds.AndAssign ss e h = changed_ok l s j kinds.AndAssign ss e h
becomes_ok l s j kinds.OrAssign ss e h = changed_ok l s j kinds.OrAssign ss e h
becomes_ok l s j kinds.XorAssign ss e h = changed_ok l s j kinds.XorAssign ss e h
becomes_ok l s j _ ss e h = tt

-- behind any other tail the first part is the tree
abbrev SuffixOk : Tail → Shape → TokenKind → TokenKind → Type 0
SuffixOk tails.Becomes s j k = Unit {0}
SuffixOk tails.BecomesBeforeBlock s j k = Unit {0}
SuffixOk c s j k = MoreOk j (part Expression ∷ token k ∷ []) (more_at c s k)

suffix_ok : (c : Tail) (s : Shape) (j k : TokenKind) → SuffixOk c s j k
suffix_ok tails.Becomes s j k = tt
suffix_ok tails.BecomesBeforeBlock s j k = tt
suffix_ok tails.Ors s j kinds.LogicalOr = ((refl, (refl, tt)), refl)
suffix_ok tails.Ands s j kinds.LogicalAnd = ((refl, (refl, tt)), refl)
suffix_ok tails.Equality s j kinds.Same = ((refl, (refl, tt)), refl)
suffix_ok tails.Equality s j kinds.NotSame = ((refl, (refl, tt)), refl)
suffix_ok tails.Equality s j kinds.Matches = ((refl, refl), refl)
suffix_ok tails.Bits s j kinds.And = ((refl, (refl, tt)), refl)
suffix_ok tails.Bits s j kinds.Or = ((refl, (refl, tt)), refl)
suffix_ok tails.Bits s j kinds.Xor = ((refl, (refl, tt)), refl)
suffix_ok tails.Relation s j kinds.Less = ((refl, (refl, tt)), refl)
suffix_ok tails.Relation s j kinds.AtMost = ((refl, (refl, tt)), refl)
suffix_ok tails.Relation s j kinds.AsBigAs = ((refl, (refl, tt)), refl)
suffix_ok tails.Relation s j kinds.AtLeast = ((refl, (refl, tt)), refl)
suffix_ok tails.Relation s j kinds.Greater = ((refl, (refl, tt)), refl)
suffix_ok tails.Range s j kinds.Through = ((refl, (refl, tt)), refl)
suffix_ok tails.Range s j kinds.Till = ((refl, (refl, tt)), refl)
suffix_ok tails.Sums s j kinds.Plus = ((refl, (refl, tt)), refl)
suffix_ok tails.Sums s j kinds.Minus = ((refl, (refl, tt)), refl)
suffix_ok tails.Products s j kinds.Times = ((refl, (refl, tt)), refl)
suffix_ok tails.Products s j kinds.FloorDivide = ((refl, (refl, tt)), refl)
suffix_ok tails.Products s j kinds.Remainder = ((refl, (refl, tt)), refl)
suffix_ok tails.Products s j kinds.Mod = ((refl, (refl, tt)), refl)
suffix_ok tails.Power s j kinds.Pow = ((refl, (refl, tt)), refl)
suffix_ok tails.Suffixes s j kinds.OpenParen = ((refl, tt), refl)
suffix_ok tails.Suffixes s j kinds.OpenBracket = ((refl, tt), refl)
suffix_ok tails.Suffixes s j kinds.Dot = ((refl, tt), refl)
suffix_ok tails.Suffixes s j kinds.Send = ((refl, tt), refl)
suffix_ok _ s j _ = tt

more_ok : (G : Word → Type 0) (c : Tail) (v : Tree) (t : Word) → Fair G v → sort_of (shape_of v) ≡ Expression → MoreOk (word_of v).kind (slots (begun c v t)) (more_at c (shape_of v) t.kind)
more_ok G tails.Becomes (node s f ts) t h e = becomes_ok lines.Expr s f.kind t.kind (slots ts) refl h.0
more_ok G tails.BecomesBeforeBlock (node s f ts) t h e = becomes_ok lines.ExprBeforeBlock s f.kind t.kind (slots ts) refl h.0
more_ok G tails.Ors v t h e = subst (λ (x : Kind). MoreOk (word_of v).kind (part x ∷ token t.kind ∷ []) (more_at tails.Ors (shape_of v) t.kind)) (sym e) (suffix_ok tails.Ors (shape_of v) (word_of v).kind t.kind)
more_ok G tails.Ands v t h e = subst (λ (x : Kind). MoreOk (word_of v).kind (part x ∷ token t.kind ∷ []) (more_at tails.Ands (shape_of v) t.kind)) (sym e) (suffix_ok tails.Ands (shape_of v) (word_of v).kind t.kind)
more_ok G tails.Equality v t h e = subst (λ (x : Kind). MoreOk (word_of v).kind (part x ∷ token t.kind ∷ []) (more_at tails.Equality (shape_of v) t.kind)) (sym e) (suffix_ok tails.Equality (shape_of v) (word_of v).kind t.kind)
more_ok G tails.Bits v t h e = subst (λ (x : Kind). MoreOk (word_of v).kind (part x ∷ token t.kind ∷ []) (more_at tails.Bits (shape_of v) t.kind)) (sym e) (suffix_ok tails.Bits (shape_of v) (word_of v).kind t.kind)
more_ok G tails.Relation v t h e = subst (λ (x : Kind). MoreOk (word_of v).kind (part x ∷ token t.kind ∷ []) (more_at tails.Relation (shape_of v) t.kind)) (sym e) (suffix_ok tails.Relation (shape_of v) (word_of v).kind t.kind)
more_ok G tails.Range v t h e = subst (λ (x : Kind). MoreOk (word_of v).kind (part x ∷ token t.kind ∷ []) (more_at tails.Range (shape_of v) t.kind)) (sym e) (suffix_ok tails.Range (shape_of v) (word_of v).kind t.kind)
more_ok G tails.Sums v t h e = subst (λ (x : Kind). MoreOk (word_of v).kind (part x ∷ token t.kind ∷ []) (more_at tails.Sums (shape_of v) t.kind)) (sym e) (suffix_ok tails.Sums (shape_of v) (word_of v).kind t.kind)
more_ok G tails.Products v t h e = subst (λ (x : Kind). MoreOk (word_of v).kind (part x ∷ token t.kind ∷ []) (more_at tails.Products (shape_of v) t.kind)) (sym e) (suffix_ok tails.Products (shape_of v) (word_of v).kind t.kind)
more_ok G tails.Power v t h e = subst (λ (x : Kind). MoreOk (word_of v).kind (part x ∷ token t.kind ∷ []) (more_at tails.Power (shape_of v) t.kind)) (sym e) (suffix_ok tails.Power (shape_of v) (word_of v).kind t.kind)
more_ok G tails.Suffixes v t h e = subst (λ (x : Kind). MoreOk (word_of v).kind (part x ∷ token t.kind ∷ []) (more_at tails.Suffixes (shape_of v) t.kind)) (sym e) (suffix_ok tails.Suffixes (shape_of v) (word_of v).kind t.kind)
more_ok G tails.Nothing v t h e = tt

begun_fair : (G : Word → Type 0) (c : Tail) (v : Tree) (t : Word) → G t → Fair G v → AllFair G (begun c v t)
begun_fair G tails.Becomes (node s f ts) t g h = (h.1.1, g)
begun_fair G tails.BecomesBeforeBlock (node s f ts) t g h = (h.1.1, g)
begun_fair G _ v t g h = ((tt, h), g)

word_good : (G : Word → Type 0) (v : Tree) → Fair G v → G (word_of v)
word_good G (node s f ts) h = h.1.0

-- ---- the first token of what is wrapped

first_of : (ss : List Slot) (x y : Slot) → slice_get ((ss ++ x ∷ []) ++ y ∷ []) 0 ≡ slice_get (ss ++ x ∷ []) 0
first_of [] x y = refl
first_of (s ∷ ss) x y = refl

lead_slot : (fs : Trees) (j : TokenKind) → Heads j (slots fs) → (lead fs).kind ≡ j
lead_slot none j h = absurd (cc)
lead_slot (leaf none t) j h = cc
lead_slot (more none v) j h = absurd (cc)
lead_slot (leaf (leaf ts u) t) j h = lead_slot (leaf ts u) j (sym (first_of (slots ts) (token u.kind) (token t.kind)) ∙ h)
lead_slot (leaf (more ts u) t) j h = lead_slot (more ts u) j (sym (first_of (slots ts) (part (sort_of (shape_of u))) (token t.kind)) ∙ h)
lead_slot (more (leaf ts u) v) j h = lead_slot (leaf ts u) j (sym (first_of (slots ts) (token u.kind) (part (sort_of (shape_of v)))) ∙ h)
lead_slot (more (more ts u) v) j h = lead_slot (more ts u) j (sym (first_of (slots ts) (part (sort_of (shape_of u))) (part (sort_of (shape_of v)))) ∙ h)

lead_good : (G : Word → Type 0) → G no_word → (fs : Trees) → AllFair G fs → G (lead fs)
lead_good G n none a = n
lead_good G n (leaf none t) a = a.1
lead_good G n (leaf (leaf ts u) t) a = lead_good G n (leaf ts u) a.0
lead_good G n (leaf (more ts u) t) a = lead_good G n (more ts u) a.0
lead_good G n (more ts v) a = lead_good G n ts a.0

-- ---- each tree that is spelled

abbrev Promise : (Word → Type 0) → Goal → List Word → Tree → List Word → Type 0
Promise G (line l) ts w rest = AllGood G ts → Read G (line_sort l) w rest
Promise G (tail c v) ts w rest = Fair G v → sort_of (shape_of v) ≡ Expression → AllGood G ts → Read G Expression w rest
Promise G (inside q f fs) ts w rest = G f → AllFair G fs → Laid q f.kind (slots fs) → AllGood G ts → Read G (place_sort q) w rest

read_as : (G : Word → Type 0) {a b : Kind} {w : Tree} {rest : List Word} → a ≡ b → Read G a w rest → Read G b w rest
read_as G {a} {b} {w} {rest} e r = record { fair = r.fair; sort = r.sort ∙ e; good = r.good }

spelled : (G : Word → Type 0) → G no_word → {g : Goal} {ts : List Word} {w : Tree} {rest : List Word} → Spells g ts w rest → Promise G g ts w rest
spelled G n (form {l = l} {t = t} {q = q} e d) = λ a.
    let o : Laid q t.kind [] × (place_sort q ≡ line_sort l) = subst (λ (x : Option Place). FormOk l t.kind x) e (form_ok l t.kind) in
    read_as G o.1 (spelled G n d a.0 tt o.0 a.1)
spelled G n (tower {l = l} {m = m} {c = c} e d k) = λ a.
    let o : (line_sort m ≡ Expression) × (line_sort l ≡ Expression) = subst (λ (x : Option (Line × Tail)). TowerOk l x) e (tower_ok l) in
    let r = spelled G n d a in
    read_as G (sym o.1) (spelled G n k r.fair (r.sort ∙ o.0) r.good)
spelled G n (stays {c = c} {v = v} {ts = ts}) = λ h e a. record { fair = h; sort = e; good = a }
spelled G n (goes {c = c} {t = t} {q = q} {v = v} e d k) = λ h s a.
    let o : Laid q (word_of v).kind (slots (begun c v t)) × (place_sort q ≡ Expression) = subst (λ (x : Option Place). MoreOk (word_of v).kind (slots (begun c v t)) x) e (more_ok G c v t h s) in
    let r = spelled G n d (word_good G v h) (begun_fair G c v t a.0 h) o.0 a.1 in
    spelled G n k r.fair (r.sort ∙ o.1) r.good
spelled G n (ends {q = q} {s = s} {f = f} {fs = fs} {ts = ts} m) = λ g a l b.
    let e = ended_is (ending q) (place_sort q) s ts f.kind (slots fs) m (laid_ends q f.kind (slots fs) l) in
    record { fair = (e.0, (g, a)); sort = e.1; good = b }
spelled G n (takes {q = q} {r = r} {k = k} {t = t} {f = f} {fs = fs} h e d) = λ g a l b.
    let there : Laid r f.kind (slots fs ++ token k ∷ []) = kept_of f.kind (lead fs).kind (slots fs) (laid_moves q f.kind (lead fs).kind (slots fs) (lead_slot fs) l) h in
    let kept : Laid r f.kind (slots fs ++ token t.kind ∷ []) = subst (λ (j : TokenKind). Laid r f.kind (slots fs ++ token j ∷ [])) (sym e) there in
    read_as G (sort_move (place_sort q) (moves_sort q) h) (spelled G n d g (a, b.0) kept b.1)
spelled G n (reads {q = q} {r = r} {l = j} {f = f} {fs = fs} {v = v} h d k) = λ g a l b.
    let x = spelled G n d b in
    let there : Laid r f.kind (slots fs ++ part (line_sort j) ∷ []) = kept_of f.kind (lead fs).kind (slots fs) (laid_moves q f.kind (lead fs).kind (slots fs) (lead_slot fs) l) h in
    let kept : Laid r f.kind (slots fs ++ part (sort_of (shape_of v)) ∷ []) = subst (λ (y : Kind). Laid r f.kind (slots fs ++ part y ∷ [])) (sym x.sort) there in
    read_as G (sort_move (place_sort q) (moves_sort q) h) (spelled G n k g (a, x.fair) kept x.good)
spelled G n (wraps {q = q} {r = r} {k = k} {s = s} {t = t} {f = f} {fs = fs} h e d) = λ g a l b.
    let there : Sorted s (lead fs).kind (slots fs) × Laid r f.kind (part (sort_of s) ∷ token k ∷ []) = kept_of f.kind (lead fs).kind (slots fs) (laid_moves q f.kind (lead fs).kind (slots fs) (lead_slot fs) l) h in
    let kept : Laid r f.kind (part (sort_of s) ∷ token t.kind ∷ []) = subst (λ (j : TokenKind). Laid r f.kind (part (sort_of s) ∷ token j ∷ [])) (sym e) there.1 in
    read_as G (sort_move (place_sort q) (moves_sort q) h) (spelled G n d g ((tt, (there.0, (lead_good G n fs a, a))), b.0) kept b.1)

-- the tree of a program is fair, and an expression
pub program_fair : (G : Word → Type 0) → G no_word → (w : Tree) (ts : List Word) → SpellsProgram w ts → AllGood G ts → Read G Expression w []
program_fair G n w ts d a = spelled G n d n tt tt a

all_any : (ts : List Word) → AllGood Any ts
all_any [] = tt
all_any (t ∷ ts) = (tt, all_any ts)

pub spelled_is_fair : SpelledIsFair
spelled_is_fair w ts d = let r = program_fair Any tt w ts d (all_any ts) in (r.fair, r.sort)
