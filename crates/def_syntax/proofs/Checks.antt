-- What may follow each line, and the tests that one token decides.
use Rattle.std.proofs.Common.{◌≡◌, ℕ, zero, suc, List, [], ◌∷◌, Bool, true, false, not, ◌||◌, ◌&&◌, Option, Some, None, is_some, is_none, refl, subst, leb, nat_eq, max, ◌+◌}
use Rattle.def_syntax.specs.declared.token.TokenKind.{TokenKind}
use Rattle.def_syntax.specs.declared.token.TokenKind.TheVariants as kinds
use Rattle.def_syntax.specs.declared.syntax.Shape.TheVariants as shapes
use Rattle.def_syntax.specs.declared.syntax.Line.{Line}
use Rattle.def_syntax.specs.declared.syntax.Line.TheVariants as lines
use Rattle.def_syntax.specs.declared.syntax.Tail.{Tail}
use Rattle.def_syntax.specs.declared.syntax.Tail.TheVariants as tails
use Rattle.def_syntax.specs.declared.place.Place.{Place}
use Rattle.def_syntax.specs.declared.place.Place.TheVariants as places
use Rattle.def_syntax.specs.declared.place.Move.{Move}
use Rattle.def_syntax.specs.declared.place.Move.TheVariants.{Takes, Reads, Wraps}
use Rattle.def_syntax.specs.declared.place.Ending.{Ending}
use Rattle.def_syntax.specs.declared.place.Ending.TheVariants.{Never, Ends, BeforeStop}
use Rattle.def_syntax.specs.declared.place.Series.{Series}
use Rattle.def_syntax.specs.declared.place.Series.TheVariants as series
use Rattle.def_syntax.specs.declared.place.Head.{Head}
use Rattle.def_syntax.specs.declared.place.Head.TheVariants as heads
use Rattle.def_syntax.specs.declared.place.Context.{Context}
use Rattle.def_syntax.specs.declared.place.Context.TheVariants.{Plain, BeforeBlock}
use Rattle.def_syntax.specs.Kinds.{among}
use Rattle.def_syntax.specs.Grammar.{moves, ending, form_at, tower_of, more_at, again, is_stop, value_line}
use Rattle.def_syntax.specs.Machine.{begin, accepts}
use Rattle.def_syntax.specs.Heights.{weight, base, need, lift, lowest_of}
use Rattle.def_syntax.proofs.Numbering.{all_kinds, every, every_at}

abbrev pub implies : Bool → Bool → Bool
implies true b = b
implies false b = true

pub use_implies : (a b : Bool) → implies a b ≡ true → a ≡ true → b ≡ true
use_implies true b h e = h
use_implies false b h e = cc

pub and_l : (a b : Bool) → (a && b) ≡ true → a ≡ true
and_l true b h = refl
and_l false b h = h

pub and_r : (a b : Bool) → (a && b) ≡ true → b ≡ true
and_r true b h = h
and_r false b h = cc

pub and_both : (a b : Bool) → a ≡ true → b ≡ true → (a && b) ≡ true
and_both true b e h = h
and_both false b e h = e

pub or_l : (a b : Bool) → a ≡ true → (a || b) ≡ true
or_l true b h = refl
or_l false b h = cc

pub or_r : (a b : Bool) → b ≡ true → (a || b) ≡ true
or_r true b h = refl
or_r false b h = h

pub not_true : (a : Bool) → not a ≡ true → a ≡ true → ⊥
not_true true h e = cc
not_true false h e = cc

pub not_false : (b : Bool) → not b ≡ true → b ≡ false
not_false true h = cc
not_false false h = refl

-- the tokens that may follow a line
abbrev behind_expr : List TokenKind
behind_expr = kinds.Comma ∷ kinds.Semicolon ∷ kinds.LineEnd ∷ kinds.CloseParen ∷ kinds.CloseBracket ∷ kinds.CloseBrace ∷ []

abbrev behind_or : List TokenKind
behind_or = kinds.OpenBrace ∷ kinds.Assign ∷ kinds.AddAssign ∷ kinds.SubtractAssign ∷ kinds.MultiplyAssign ∷ kinds.FloorDivideAssign ∷ kinds.RemainderAssign ∷ kinds.ModAssign ∷ kinds.PowAssign ∷ kinds.AndAssign ∷ kinds.OrAssign ∷ kinds.XorAssign ∷ kinds.Comma ∷ kinds.Semicolon ∷ kinds.LineEnd ∷ kinds.CloseParen ∷ kinds.CloseBracket ∷ kinds.CloseBrace ∷ []

abbrev behind_and : List TokenKind
behind_and = kinds.LogicalOr ∷ behind_or

abbrev behind_equality : List TokenKind
behind_equality = kinds.LogicalAnd ∷ behind_and

abbrev behind_bits : List TokenKind
behind_bits = kinds.Same ∷ kinds.NotSame ∷ kinds.Matches ∷ behind_equality

abbrev behind_relation : List TokenKind
behind_relation = kinds.And ∷ kinds.Or ∷ kinds.Xor ∷ behind_bits

abbrev behind_range : List TokenKind
behind_range = kinds.Less ∷ kinds.AtMost ∷ kinds.AsBigAs ∷ kinds.AtLeast ∷ kinds.Greater ∷ behind_relation

abbrev behind_sum : List TokenKind
behind_sum = kinds.Through ∷ kinds.Till ∷ behind_range

abbrev behind_product : List TokenKind
behind_product = kinds.Plus ∷ kinds.Minus ∷ behind_sum

abbrev behind_power : List TokenKind
behind_power = kinds.Times ∷ kinds.FloorDivide ∷ kinds.Remainder ∷ kinds.Mod ∷ behind_product

abbrev behind_prefix : List TokenKind
behind_prefix = kinds.Pow ∷ behind_power

abbrev behind_prim : List TokenKind
behind_prim = kinds.OpenParen ∷ kinds.OpenBracket ∷ kinds.Dot ∷ kinds.Send ∷ behind_prefix

abbrev behind_block : List TokenKind
behind_block = kinds.Else ∷ kinds.Catch ∷ kinds.Finally ∷ kinds.To ∷ kinds.Method ∷ kinds.Match ∷ behind_prim

abbrev behind_pattern : List TokenKind
behind_pattern = kinds.Exit ∷ kinds.In ∷ kinds.FatArrow ∷ behind_equality

abbrev behind_guard : List TokenKind
behind_guard = kinds.Implements ∷ behind_pattern

abbrev behind_member : List TokenKind
behind_member = kinds.To ∷ kinds.Method ∷ kinds.Match ∷ kinds.Semicolon ∷ kinds.LineEnd ∷ kinds.CloseBrace ∷ []

abbrev pub behind_line : Line → List TokenKind
behind_line lines.Expr = behind_expr
behind_line lines.ExprBeforeBlock = kinds.OpenBrace ∷ []
behind_line lines.Or = behind_or
behind_line lines.And = behind_and
behind_line lines.Equality = behind_equality
behind_line lines.Bits = behind_bits
behind_line lines.Relation = behind_relation
behind_line lines.Range = behind_range
behind_line lines.Sum = behind_sum
behind_line lines.Product = behind_product
behind_line lines.Power = behind_power
behind_line lines.Prefix = behind_prefix
behind_line lines.Postfix = behind_prefix
behind_line lines.Prim = behind_prim
behind_line lines.Block = behind_block
behind_line lines.Branch = behind_prim
behind_line lines.Pattern = behind_pattern
behind_line lines.OtherPattern = kinds.Exit ∷ kinds.Assign ∷ []
behind_line lines.Guard = behind_guard
behind_line lines.Member = behind_member

abbrev pub follow : Option Line → TokenKind → Bool
follow None k = false
follow (Some l) k = among k (behind_line l)

-- A bare `return` may be the last token of a tree of this line, so a stop comes behind the tree.
abbrev pub leaves : Option Line → Bool
leaves None = true
leaves (Some lines.Expr) = true
leaves (Some _) = false

-- what may follow a node that is read from a place
pub data Level : Type 0 where
  anything : Level
  behind : Option Line → Level

abbrev pub follow_level : Level → TokenKind → Bool
follow_level anything k = true
follow_level (behind l) k = follow l k

abbrev series_level : Series → Level
series_level series.Parameters = behind (Some lines.Block)
series_level series.FunctionParameters = behind (Some lines.Block)
series_level series.ToParameters = behind (Some lines.Member)
series_level series.MethodParameters = behind (Some lines.Member)
series_level _ = anything

abbrev head_level : Head → Level
head_level heads.If = behind (Some lines.Branch)
head_level heads.Via = behind (Some lines.Pattern)
head_level heads.Group = anything
head_level heads.Guard = anything
head_level _ = behind (Some lines.Prim)

abbrev pub level : Place → Level
level (places.Done s) = anything
level (places.Last l s) = behind (Some l)
level places.Program = behind None
level places.ProgramMore = behind None
level places.Block = anything
level places.BlockMore = anything
level places.Leave = behind (Some lines.Expr)
level (places.First x) = series_level x
level (places.Item n x) = series_level x
level (places.More n x) = series_level x
level (places.Open h) = head_level h
level (places.Test h) = head_level h
level (places.Close h) = head_level h
level places.IfThen = behind (Some lines.Branch)
level places.IfElse = behind (Some lines.Branch)
level places.Verb = anything
level places.VerbOpen = anything
level places.Send = anything
level places.SendOpen = anything
level (places.Def c) = behind (Some (value_line c))
level (places.Name c x) = behind (Some (value_line c))
level (places.NameGuard c x) = behind (Some (value_line c))
level (places.NameGuarded c x) = behind (Some (value_line c))
level (places.Bound c d) = behind (Some (value_line c))
level (places.Exit c d) = behind (Some (value_line c))
level (places.Ejector c d) = behind (Some (value_line c))
level (places.Value c d) = behind (Some (value_line c))
level (places.Var c) = behind (Some (value_line c))
level (places.VarName c) = behind (Some (value_line c))
level (places.VarGuard c) = behind (Some (value_line c))
level places.Auditor = anything
level places.AuditorMore = anything
level places.Script = anything
level places.Result = behind (Some lines.Block)
level places.ResultGuard = behind (Some lines.Block)
level places.ResultGuarded = behind (Some lines.Block)
level places.FunctionAuditor = behind (Some lines.Block)
level places.FunctionAuditorMore = behind (Some lines.Block)
level (places.MemberVerb r) = behind (Some lines.Member)
level (places.MemberOpen r) = behind (Some lines.Member)
level (places.MemberResult r) = behind (Some lines.Member)
level (places.MemberGuard r) = behind (Some lines.Member)
level places.Matcher = behind (Some lines.Member)
level (places.PatternGuard s) = behind (Some lines.Pattern)
level places.VarPattern = behind (Some lines.Pattern)
level places.NounGuard = behind (Some lines.Guard)
level _ = behind (Some lines.Prim)

-- whether the lowest end of a node may be that of an expression
abbrev is_plain : Context → Bool
is_plain Plain = true
is_plain BeforeBlock = false

abbrev is_expr : Line → Bool
is_expr lines.Expr = true
is_expr _ = false

abbrev pub leaving : Place → Bool
leaving (places.Last l s) = is_expr l
leaving places.Program = true
leaving places.ProgramMore = true
leaving places.Leave = true
leaving (places.Def c) = is_plain c
leaving (places.Name c x) = is_plain c
leaving (places.NameGuard c x) = is_plain c
leaving (places.NameGuarded c x) = is_plain c
leaving (places.Bound c d) = is_plain c
leaving (places.Exit c d) = is_plain c
leaving (places.Ejector c d) = is_plain c
leaving (places.Value c d) = is_plain c
leaving (places.Var c) = is_plain c
leaving (places.VarName c) = is_plain c
leaving (places.VarGuard c) = is_plain c
leaving _ = false

abbrev pub accepted : List Move → TokenKind → Bool
accepted [] k = false
accepted (m ∷ ms) k = accepts m k || accepted ms k

abbrev pub may_end : Ending → Bool
may_end Never = false
may_end (Ends s) = true
may_end (BeforeStop s) = true

-- the tokens before which a node may end
abbrev pub may_end_at : Ending → TokenKind → Bool
may_end_at Never k = false
may_end_at (Ends s) k = true
may_end_at (BeforeStop s) k = is_stop k

-- the tokens that may stand at a place, where these may follow the node
abbrev pub comes : Place → (TokenKind → Bool) → TokenKind → Bool
comes q f k = accepted (moves q) k || (may_end_at (ending q) k && f k)

-- the first token of the lowest tree of a line
abbrev pub low_word : Line → TokenKind
low_word lines.Block = kinds.OpenBrace
low_word lines.Branch = kinds.OpenBrace
low_word lines.OtherPattern = kinds.Var
low_word lines.Member = kinds.Match
low_word _ = kinds.Identifier

abbrev pub move_first : Move → TokenKind
move_first (Takes k r) = k
move_first (Reads l r) = low_word l
move_first (Wraps k s r) = k

abbrev pub last_first : List Move → Option TokenKind
last_first [] = None
last_first (m ∷ []) = Some (move_first m)
last_first (m ∷ (n ∷ ms)) = last_first (n ∷ ms)

-- the first token of the lowest end of a node, from a place
abbrev pub low_first_of : Ending → List Move → Option TokenKind
low_first_of Never ms = last_first ms
low_first_of (Ends s) ms = None
low_first_of (BeforeStop s) ms = None

abbrev pub low_first : Place → Option TokenKind
low_first q = low_first_of (ending q) (moves q)

abbrev pub stop_first : Bool → Option TokenKind → Bool
stop_first b None = b
stop_first b (Some k) = is_stop k

-- A node that may stand in a line goes on at this place.
abbrev pub next_good : Place → Place → Bool
next_good q r = every (λ k. implies (follow_level (level q) k) (follow_level (level r) k)) && implies (leaving r) (leaving q)

abbrev pub joined : Line → Place → (TokenKind → Bool) → Bool → Bool
joined m r f b = every (λ k. implies (comes r f k) (follow (Some m) k)) && implies (leaves (Some m)) (stop_first b (low_first r))

abbrev pub move_good : Place → Move → Bool
move_good q (Takes k r) = next_good q r
move_good q (Reads m r) = next_good q r && joined m r (follow_level (level q)) (leaving q)
move_good q (Wraps k s r) = next_good q r

abbrev pub moves_good : Place → List Move → Bool
moves_good q [] = true
moves_good q (m ∷ ms) = move_good q m && moves_good q ms

-- each token begins one of these moves at most, and none of them where the node ends
abbrev pub apart : List Move → (TokenKind → Bool) → Bool
apart [] e = true
apart (m ∷ ms) e = every (λ k. implies (accepts m k) (not (accepted ms k || e k))) && apart ms e

-- no move lowers what a tree has at least
abbrev pub move_up : Place → Move → Bool
move_up q (Takes k r) = nat_eq (base q) (base r) && (leb (need q) (need r) && leb (lift q) (lift r))
move_up q (Reads l r) = nat_eq (base q) (base r) && (leb (need q) (max (lowest_of l + lift r) (need r)) && leb (lift q) (lift r))
move_up q (Wraps k s r) = nat_eq (base q) (base r) && (nat_eq (weight s) 1 && (leb (need q) (max (suc (lift r)) (need r)) && leb (lift q) (suc (lift r))))

abbrev pub moves_up : Place → List Move → Bool
moves_up q [] = true
moves_up q (m ∷ ms) = move_up q m && moves_up q ms

-- the move that keeps it
abbrev pub move_low : Place → Move → Bool
move_low q (Takes k r) = leb (need r) (need q) && leb (lift r) (lift q)
move_low q (Reads l r) = leb (max (lowest_of l + lift r) (need r)) (need q) && leb (lift r) (lift q)
move_low q (Wraps k s r) = leb (need r) (need q) && leb (suc (lift r)) (lift q)

abbrev pub last_low : Place → List Move → Bool
last_low q [] = false
last_low q (m ∷ []) = move_low q m
last_low q (m ∷ (n ∷ ms)) = last_low q (n ∷ ms)

abbrev pub is_final : Place → Ending → Bool
is_final q Never = last_low q (moves q)
is_final q (Ends s) = nat_eq (base q) (weight s) && (nat_eq (need q) 0 && nat_eq (lift q) 0)
is_final q (BeforeStop s) = (nat_eq (base q) (weight s) && (nat_eq (need q) 0 && nat_eq (lift q) 0)) && leaving q

-- the place behind a move
abbrev pub target : Move → Place
target (Takes k r) = r
target (Reads l r) = r
target (Wraps k s r) = r

abbrev pub last_target : List Move → Place → Place
last_target [] d = d
last_target (m ∷ []) d = target m
last_target (m ∷ (n ∷ ms)) d = last_target (n ∷ ms) d

-- the last moves lead to an end
abbrev mutual
  pub ends_soon : ℕ → Place → Bool
  ends_soon zero q = may_end (ending q)
  ends_soon (suc n) q = may_end (ending q) || ends_soon n (last_target (moves q) q)

abbrev pub fitting : Place → Bool
fitting q = moves_good q (moves q) && apart (moves q) (λ k. may_end_at (ending q) k && follow_level (level q) k)

abbrev pub rising : Place → Bool
rising q = moves_up q (moves q) && (is_final q (ending q) && ends_soon 12 q)

unfoldable pub good : Place → Bool
good q = fitting q && rising q

-- the tokens that go on behind a tree
abbrev pub tail_first : Tail → TokenKind → Bool
tail_first c k = is_some (more_at c shapes.Noun k)

-- the line of the tree with one more part
abbrev pub next_line : Line → Option Line → Tail → Option Line
next_line m h tails.Ors = Some m
next_line m h tails.Ands = Some m
next_line m h tails.Bits = Some m
next_line m h tails.Sums = Some m
next_line m h tails.Products = Some m
next_line m h tails.Suffixes = Some m
next_line m h _ = h

-- a node of a place may stand in a line
abbrev pub sits : Option Line → Place → Bool
sits h q = every (λ k. implies (follow h k) (follow_level (level q) k)) && implies (leaving q) (leaves h)

abbrev pub option_sits : Option Line → Option Place → Bool
option_sits h None = true
option_sits h (Some q) = sits h q && nat_eq (base q) 1

-- a tail behind a tree of the line m, in a line
unfoldable pub good_tail : Option Line → Option Line → Tail → Bool
good_tail None h c = false
good_tail (Some m) h c = implies (leaves (Some m)) (leaves h) && (every (λ k. implies (tail_first c k || follow h k) (follow (Some m) k)) && (every (λ k. implies (tail_first c k) (not (follow h k))) && every (λ k. option_sits (next_line m h c) (more_at c shapes.Noun k))))

pub nothing_good : (l : Line) → good_tail (Some l) (Some l) tails.Nothing ≡ true
unfolding good_tail every all_kinds
nothing_good lines.Expr = refl
nothing_good lines.ExprBeforeBlock = refl
nothing_good lines.Or = refl
nothing_good lines.And = refl
nothing_good lines.Equality = refl
nothing_good lines.Bits = refl
nothing_good lines.Relation = refl
nothing_good lines.Range = refl
nothing_good lines.Sum = refl
nothing_good lines.Product = refl
nothing_good lines.Power = refl
nothing_good lines.Prefix = refl
nothing_good lines.Postfix = refl
nothing_good lines.Prim = refl
nothing_good lines.Block = refl
nothing_good lines.Branch = refl
nothing_good lines.Pattern = refl
nothing_good lines.OtherPattern = refl
nothing_good lines.Guard = refl
nothing_good lines.Member = refl

-- the line that stands before the tail, once more
pub again_good : (m l : Line) (c : Tail) → good_tail (Some m) (Some l) c ≡ true → good_tail (next_line m (Some l) c) (Some l) (again c) ≡ true
again_good m l tails.Ors h = h
again_good m l tails.Ands h = h
again_good m l tails.Bits h = h
again_good m l tails.Sums h = h
again_good m l tails.Products h = h
again_good m l tails.Suffixes h = h
again_good m l _ h = nothing_good l

pub forms_good : (l : Line) → every (λ k. option_sits (Some l) (form_at l k)) ≡ true
unfolding every all_kinds
forms_good lines.Expr = refl
forms_good lines.ExprBeforeBlock = refl
forms_good lines.Or = refl
forms_good lines.And = refl
forms_good lines.Equality = refl
forms_good lines.Bits = refl
forms_good lines.Relation = refl
forms_good lines.Range = refl
forms_good lines.Sum = refl
forms_good lines.Product = refl
forms_good lines.Power = refl
forms_good lines.Prefix = refl
forms_good lines.Postfix = refl
forms_good lines.Prim = refl
forms_good lines.Block = refl
forms_good lines.Branch = refl
forms_good lines.Pattern = refl
forms_good lines.OtherPattern = refl
forms_good lines.Guard = refl
forms_good lines.Member = refl

pub form_good : (l : Line) (k : TokenKind) (q : Place) → form_at l k ≡ Some q → option_sits (Some l) (Some q) ≡ true
form_good l k q e = subst (λ (o : Option Place). option_sits (Some l) o ≡ true) e (every_at (λ k. option_sits (Some l) (form_at l k)) (forms_good l) k)

-- the line and the tail that a tower has are good, and its forms begin with tokens that the other line does not begin with
abbrev pub tower_tests : Line → Option (Line × Tail) → Bool
tower_tests l None = true
tower_tests l (Some x) = good_tail (Some x.0) (Some l) x.1 && every (λ k. implies (is_some (begin x.0 k)) (is_none (form_at l k)))

towers_good : (l : Line) → tower_tests l (tower_of l) ≡ true
unfolding every all_kinds begin good_tail
towers_good lines.Expr = refl
towers_good lines.ExprBeforeBlock = refl
towers_good lines.Or = refl
towers_good lines.And = refl
towers_good lines.Equality = refl
towers_good lines.Bits = refl
towers_good lines.Relation = refl
towers_good lines.Range = refl
towers_good lines.Sum = refl
towers_good lines.Product = refl
towers_good lines.Power = refl
towers_good lines.Prefix = refl
towers_good lines.Postfix = refl
towers_good _ = refl

pub tower_good : (l m : Line) (c : Tail) → tower_of l ≡ Some (m, c) → (good_tail (Some m) (Some l) c ≡ true) × ((k : TokenKind) → is_some (begin m k) ≡ true → is_none (form_at l k) ≡ true)
tower_good l m c e =
    let h = subst (λ (o : Option (Line × Tail)). tower_tests l o ≡ true) e (towers_good l) in
    (and_l _ _ h, λ k b. use_implies _ _ (every_at (λ k. implies (is_some (begin m k)) (is_none (form_at l k))) (and_r (good_tail (Some m) (Some l) c) _ h) k) b)
