-- The table of the code is that of the grammar.
use Rattle.std.proofs.Common.{◌≡◌, ℕ, zero, suc, ◌-◌, ◌<◌, [], ◌∷◌, true, false, Option, Some, None, is_some, refl, sym, ◌∙◌, ap, subst, arith, sub-one}
use Rattle.def_syntax.specs.declared.token.TokenKind.{TokenKind}
use Rattle.def_syntax.specs.declared.token.TokenKind.TheVariants as kinds
use Rattle.def_syntax.specs.declared.syntax.Line.{Line}
use Rattle.def_syntax.specs.declared.syntax.Line.TheVariants as lines
use Rattle.def_syntax.specs.declared.syntax.Tail.{Tail}
use Rattle.def_syntax.specs.declared.place.Place.{Place}
use Rattle.def_syntax.specs.declared.place.Place.TheVariants as places
use Rattle.def_syntax.specs.declared.place.Move.TheVariants.{Takes}
use Rattle.def_syntax.specs.declared.place.Series.{Series}
use Rattle.def_syntax.specs.Grammar.{moves, closing, form_at, tower_of}
use Rattle.def_syntax.specs.Machine.{Begun, begin, choose, under}
use Rattle.def_syntax.proofs.Complete.{begin_unrolls, begin_tower, under_of}

-- the moves behind a member, where more may come
pub more_moves : (n : ℕ) (x : Series) → (n ≡ 0 → ⊥) → moves (places.More n x) ≡ Takes kinds.Comma (places.Item (n - 1) x) ∷ closing x ∷ []
more_moves zero x h = absurd (h refl)
more_moves (suc n) x h = ap (λ (m : ℕ). Takes kinds.Comma (places.Item m x) ∷ closing x ∷ []) (sym (sub-one (suc n)))

pub begins_form : (l : Line) (k : TokenKind) (q : Place) → form_at l k ≡ Some q → is_some (begin l k) ≡ true
begins_form l k q e = ap (λ (b : Begun). is_some b) (begin_unrolls l k ∙ ap (λ (o : Option Place). choose o (under_of (tower_of l) k)) e)

pub begins_not : (l : Line) (k : TokenKind) → form_at l k ≡ None → tower_of l ≡ None → is_some (begin l k) ≡ false
begins_not l k e d = ap (λ (b : Begun). is_some b) (begin_unrolls l k ∙ ap (λ (o : Option Place). choose o (under_of (tower_of l) k)) e ∙ ap (λ (o : Option (Line × Tail)). under_of o k) d)

under_some : (c : Tail) (b : Begun) → is_some (under c b) ≡ is_some b
under_some c None = refl
under_some c (Some b) = refl

pub begins_tower : (l m : Line) (c : Tail) (k : TokenKind) → form_at l k ≡ None → tower_of l ≡ Some (m, c) → is_some (begin l k) ≡ is_some (begin m k)
begins_tower l m c k e d = ap (λ (b : Begun). is_some b) (begin_tower l m c k d ∙ ap (λ (o : Option Place). choose o (under c (begin m k))) e) ∙ under_some c (begin m k)

-- how many lines a line may be in turn
abbrev pub rank : Line → ℕ
rank lines.Expr = 13
rank lines.ExprBeforeBlock = 13
rank lines.Or = 12
rank lines.And = 11
rank lines.Equality = 10
rank lines.Bits = 9
rank lines.Relation = 8
rank lines.Range = 7
rank lines.Sum = 6
rank lines.Product = 5
rank lines.Power = 4
rank lines.Prefix = 3
rank lines.Postfix = 2
rank lines.Prim = 1
rank _ = 0

abbrev Below : ℕ → Option (Line × Tail) → Type 0
Below n None = Unit {0}
Below n (Some x) = rank x.0 < n

below : (l : Line) → Below (rank l) (tower_of l)
below lines.Expr = omega arith
below lines.ExprBeforeBlock = omega arith
below lines.Or = omega arith
below lines.And = omega arith
below lines.Equality = omega arith
below lines.Bits = omega arith
below lines.Relation = omega arith
below lines.Range = omega arith
below lines.Sum = omega arith
below lines.Product = omega arith
below lines.Power = omega arith
below lines.Prefix = omega arith
below lines.Postfix = omega arith
below _ = tt

pub rank_falls : (l m : Line) (c : Tail) → tower_of l ≡ Some (m, c) → rank m < rank l
rank_falls l m c e = subst (λ (o : Option (Line × Tail)). Below (rank l) o) e (below l)
