-- How low a tree can be that begins with some tokens.
use Rattle.std.proofs.Common.{◌≡◌, ℕ, zero, suc, List, [], ◌∷◌, Bool, true, false, cond, ◌||◌, ◌&&◌, Option, Some, None, refl, sym, subst, ap}
use Rattle.def_syntax.specs.declared.token.TokenKind.{TokenKind}
use Rattle.def_syntax.specs.declared.token.TokenKind.TheVariants as kinds
use Rattle.def_syntax.specs.declared.syntax.Word.{Word}
use Rattle.def_syntax.specs.declared.syntax.Shape.{Shape}
use Rattle.def_syntax.specs.declared.syntax.Shape.TheVariants as shapes
use Rattle.def_syntax.specs.declared.syntax.Line.{Line}
use Rattle.def_syntax.specs.declared.syntax.Line.TheVariants as lines
use Rattle.def_syntax.specs.declared.syntax.Tail.{Tail}
use Rattle.def_syntax.specs.declared.syntax.Tail.TheVariants as tails
use Rattle.def_syntax.specs.declared.place.Place.{Place}
use Rattle.def_syntax.specs.declared.place.Move.{Move}
use Rattle.def_syntax.specs.declared.place.Move.TheVariants.{Takes, Reads, Wraps}
use Rattle.def_syntax.specs.declared.place.Ending.{Ending}
use Rattle.def_syntax.specs.declared.place.Ending.TheVariants.{Never, Ends, BeforeStop}
use Rattle.def_syntax.specs.Grammar.{Tree, Trees, node, none, more, leaf, moves, ending, form_at, tower_of, shape_of, more_at, assigned, changed, becomes, begun, is_stop, IsStop, MayEnd, Has, here, there, wrapped, Goal, line, tail, inside, Spells, form, tower, stays, goes, ends, takes, reads, wraps}
use Rattle.def_syntax.specs.Machine.{Frame, within, after, State, at, end_in, Through, Completes, end_frames, finish}
use Rattle.std.proofs.Common.{◌+◌, ◌≤◌, max, arith, leb, nat_eq, leb-true, eqb-true, le_refl, le_trans}
use Rattle.def_syntax.proofs.Numbering.{every, every_at, all_kinds}
use Rattle.def_syntax.specs.Heights.{weight, height, tallest, base, lowest_of, need, lift, low, low_frames, least}
use Rattle.def_syntax.proofs.Checks.{use_implies, and_l, and_r, leaves, leaving, may_end, low_first, low_first_of, last_first, move_first, low_word, stop_first, next_good, move_up, moves_up, move_low, last_low, is_final, target, last_target, ends_soon, move_good, good_tail, form_good}
use Rattle.def_syntax.proofs.Complete.{Joins, Tailed, Fits, Valid, rising_at}
use Rattle.def_syntax.proofs.Lawful.{good_move}
use Rattle.def_syntax.proofs.Sound.{bound}

has_up : (q : Place) {ms : List Move} {m : Move} → moves_up q ms ≡ true → Has ms m → move_up q m ≡ true
has_up q g (here {m = m} {ms = ms}) = and_l (move_up q m) (moves_up q ms) g
has_up q g (there {n = n} {ms = ms} h) = has_up q (and_r (move_up q n) (moves_up q ms) g) h

up_at : (q : Place) (m : Move) → Has (moves q) m → move_up q m ≡ true
up_at q m h = has_up q (and_l (moves_up q (moves q)) _ (rising_at q)) h

final_at : (q : Place) → is_final q (ending q) ≡ true
final_at q = and_l (is_final q (ending q)) _ (and_r (moves_up q (moves q)) _ (rising_at q))

soon_at : (q : Place) → ends_soon 12 q ≡ true
soon_at q = and_r (is_final q (ending q)) _ (and_r (moves_up q (moves q)) _ (rising_at q))

abbrev UpTakes : Place → Place → Type 0
UpTakes q r = (base q ≡ base r) × (need q ≤ need r) × (lift q ≤ lift r)

up_takes : (q r : Place) (k : TokenKind) → move_up q (Takes k r) ≡ true → UpTakes q r
up_takes q r k h = (eqb-true (base q) (base r) (and_l _ _ h), leb-true (need q) (need r) (and_l _ _ (and_r (nat_eq (base q) (base r)) _ h)), leb-true (lift q) (lift r) (and_r (leb (need q) (need r)) _ (and_r (nat_eq (base q) (base r)) _ h)))

abbrev UpReads : Place → Line → Place → Type 0
UpReads q l r = (base q ≡ base r) × (need q ≤ max (lowest_of l + lift r) (need r)) × (lift q ≤ lift r)

up_reads : (q r : Place) (l : Line) → move_up q (Reads l r) ≡ true → UpReads q l r
up_reads q r l h = (eqb-true (base q) (base r) (and_l _ _ h), leb-true (need q) (max (lowest_of l + lift r) (need r)) (and_l _ _ (and_r (nat_eq (base q) (base r)) _ h)), leb-true (lift q) (lift r) (and_r (leb (need q) (max (lowest_of l + lift r) (need r))) _ (and_r (nat_eq (base q) (base r)) _ h)))

abbrev UpWraps : Place → Shape → Place → Type 0
UpWraps q s r = (base q ≡ base r) × (weight s ≡ 1) × (need q ≤ max (suc (lift r)) (need r)) × (lift q ≤ suc (lift r))

up_wraps : (q r : Place) (k : TokenKind) (s : Shape) → move_up q (Wraps k s r) ≡ true → UpWraps q s r
up_wraps q r k s h =
    let g = and_r (nat_eq (base q) (base r)) _ h in
    let i = and_r (nat_eq (weight s) 1) _ g in
    (eqb-true (base q) (base r) (and_l _ _ h), eqb-true (weight s) 1 (and_l _ _ g), leb-true (need q) (max (suc (lift r)) (need r)) (and_l _ _ i), leb-true (lift q) (suc (lift r)) (and_r (leb (need q) (max (suc (lift r)) (need r))) _ i))

-- where a node ends nothing more is needed
abbrev Final : Place → Ending → Type 0
Final q Never = Unit {0}
Final q (Ends s) = (base q ≡ weight s) × (need q ≡ 0) × (lift q ≡ 0)
Final q (BeforeStop s) = (base q ≡ weight s) × (need q ≡ 0) × (lift q ≡ 0) × (leaving q ≡ true)

final : (q : Place) (e : Ending) → is_final q e ≡ true → Final q e
final q Never h = tt
final q (Ends s) h = (eqb-true (base q) (weight s) (and_l _ _ h), eqb-true (need q) 0 (and_l _ _ (and_r (nat_eq (base q) (weight s)) _ h)), eqb-true (lift q) 0 (and_r (nat_eq (need q) 0) _ (and_r (nat_eq (base q) (weight s)) _ h)))
final q (BeforeStop s) h =
    let g = and_l (nat_eq (base q) (weight s) && (nat_eq (need q) 0 && nat_eq (lift q) 0)) (leaving q) h in
    (eqb-true (base q) (weight s) (and_l _ _ g), eqb-true (need q) 0 (and_l _ _ (and_r (nat_eq (base q) (weight s)) _ g)), eqb-true (lift q) 0 (and_r (nat_eq (need q) 0) _ (and_r (nat_eq (base q) (weight s)) _ g)), and_r (nat_eq (base q) (weight s) && (nat_eq (need q) 0 && nat_eq (lift q) 0)) (leaving q) h)

-- each form is as high as its line
abbrev option_high : Line → Option Place → Bool
option_high l None = true
option_high l (Some q) = leb (lowest_of l) (1 + max (lift q) (need q))

forms_high : (l : Line) → every (λ k. option_high l (form_at l k)) ≡ true
unfolding every all_kinds
forms_high lines.Expr = refl
forms_high lines.ExprBeforeBlock = refl
forms_high lines.Or = refl
forms_high lines.And = refl
forms_high lines.Equality = refl
forms_high lines.Bits = refl
forms_high lines.Relation = refl
forms_high lines.Range = refl
forms_high lines.Sum = refl
forms_high lines.Product = refl
forms_high lines.Power = refl
forms_high lines.Prefix = refl
forms_high lines.Postfix = refl
forms_high lines.Prim = refl
forms_high lines.Block = refl
forms_high lines.Branch = refl
forms_high lines.Pattern = refl
forms_high lines.OtherPattern = refl
forms_high lines.Guard = refl
forms_high lines.Member = refl

form_high : (l : Line) (k : TokenKind) (q : Place) → form_at l k ≡ Some q → (lowest_of l ≤ 1 + max (lift q) (need q)) × (base q ≡ 1)
form_high l k q e =
    let h = subst (λ (o : Option Place). option_high l o ≡ true) e (every_at (λ k. option_high l (form_at l k)) (forms_high l) k) in
    (leb-true (lowest_of l) (1 + max (lift q) (need q)) h, eqb-true (base q) 1 (and_r _ _ (form_good l k q e)))

abbrev TowerHigh : Line → Option (Line × Tail) → Type 0
TowerHigh l None = Unit {0}
TowerHigh l (Some x) = lowest_of l ≤ lowest_of x.0

tower_highs : (l : Line) → TowerHigh l (tower_of l)
tower_highs lines.Expr = omega arith
tower_highs lines.ExprBeforeBlock = omega arith
tower_highs lines.Or = omega arith
tower_highs lines.And = omega arith
tower_highs lines.Equality = omega arith
tower_highs lines.Bits = omega arith
tower_highs lines.Relation = omega arith
tower_highs lines.Range = omega arith
tower_highs lines.Sum = omega arith
tower_highs lines.Product = omega arith
tower_highs lines.Power = omega arith
tower_highs lines.Prefix = omega arith
tower_highs lines.Postfix = omega arith
tower_highs _ = tt

tower_high : (l m : Line) (c : Tail) → tower_of l ≡ Some (m, c) → lowest_of l ≤ lowest_of m
tower_high l m c e = subst (λ (o : Option (Line × Tail)). TowerHigh l o) e (tower_highs l)

abbrev option_one : Option Place → Type 0
option_one None = Unit {0}
option_one (Some q) = base q ≡ 1

becomes_one : (l : Line) (s : Shape) → option_one (assigned l s)
becomes_one l shapes.Noun = refl
becomes_one l shapes.Index = refl
becomes_one l _ = tt

changed_one : (l : Line) (s : Shape) → option_one (changed l s)
changed_one l shapes.Noun = refl
changed_one l _ = tt

assign_one : (l : Line) (s : Shape) (k : TokenKind) → option_one (becomes l s k)
assign_one l s kinds.Assign = becomes_one l s
assign_one l s kinds.AddAssign = changed_one l s
assign_one l s kinds.SubtractAssign = changed_one l s
assign_one l s kinds.MultiplyAssign = changed_one l s
assign_one l s kinds.FloorDivideAssign = changed_one l s
assign_one l s kinds.RemainderAssign = changed_one l s
assign_one l s kinds.ModAssign = changed_one l s
assign_one l s kinds.PowAssign = changed_one l s
assign_one l s kinds.AndAssign = changed_one l s
assign_one l s kinds.OrAssign = changed_one l s
assign_one l s kinds.XorAssign = changed_one l s
assign_one l s _ = tt

more_one : (c : Tail) (s : Shape) (k : TokenKind) → option_one (more_at c s k)
more_one tails.Becomes s k = assign_one lines.Expr s k
more_one tails.BecomesBeforeBlock s k = assign_one lines.ExprBeforeBlock s k
more_one tails.Ors s kinds.LogicalOr = refl
more_one tails.Ors s _ = tt
more_one tails.Ands s kinds.LogicalAnd = refl
more_one tails.Ands s _ = tt
more_one tails.Equality s kinds.Same = refl
more_one tails.Equality s kinds.NotSame = refl
more_one tails.Equality s kinds.Matches = refl
more_one tails.Equality s _ = tt
more_one tails.Bits s kinds.And = refl
more_one tails.Bits s kinds.Or = refl
more_one tails.Bits s kinds.Xor = refl
more_one tails.Bits s _ = tt
more_one tails.Relation s kinds.Less = refl
more_one tails.Relation s kinds.AtMost = refl
more_one tails.Relation s kinds.AsBigAs = refl
more_one tails.Relation s kinds.AtLeast = refl
more_one tails.Relation s kinds.Greater = refl
more_one tails.Relation s _ = tt
more_one tails.Range s kinds.Through = refl
more_one tails.Range s kinds.Till = refl
more_one tails.Range s _ = tt
more_one tails.Sums s kinds.Plus = refl
more_one tails.Sums s kinds.Minus = refl
more_one tails.Sums s _ = tt
more_one tails.Products s kinds.Times = refl
more_one tails.Products s kinds.FloorDivide = refl
more_one tails.Products s kinds.Remainder = refl
more_one tails.Products s kinds.Mod = refl
more_one tails.Products s _ = tt
more_one tails.Power s kinds.Pow = refl
more_one tails.Power s _ = tt
more_one tails.Suffixes s kinds.OpenParen = refl
more_one tails.Suffixes s kinds.OpenBracket = refl
more_one tails.Suffixes s kinds.Dot = refl
more_one tails.Suffixes s kinds.Send = refl
more_one tails.Suffixes s _ = tt
more_one tails.Nothing s _ = tt

more_base : (c : Tail) (s : Shape) (k : TokenKind) (q : Place) → more_at c s k ≡ Some q → base q ≡ 1
more_base c s k q e = subst option_one e (more_one c s k)

weight_one : (s : Shape) → weight s ≤ 1
weight_one shapes.Program = omega arith
weight_one _ = omega arith

begun_high : (c : Tail) (v : Tree) (t : Word) → height v ≤ 1 + tallest (begun c v t)
begun_high tails.Becomes (node s f ts) t = omega (arith, weight_one s)
begun_high tails.BecomesBeforeBlock (node s f ts) t = omega (arith, weight_one s)
begun_high _ v t = omega arith

abbrev low_of : Goal → ℕ
low_of (line l) = lowest_of l
low_of (tail c v) = height v
low_of (inside q f fs) = low q (tallest fs)

takes_up : (bq br lq lr nq nr t w : ℕ) → bq ≡ br → nq ≤ nr → lq ≤ lr → br + max (t + lr) nr ≤ w → bq + max (t + lq) nq ≤ w
takes_up bq br lq lr nq nr t w a b c h = omega arith

reads_up : (bq br lq lr nq nr t y x w : ℕ) → bq ≡ br → nq ≤ max (x + lr) nr → lq ≤ lr → x ≤ y → br + max (max t y + lr) nr ≤ w → bq + max (t + lq) nq ≤ w
reads_up bq br lq lr nq nr t y x w a b c d h = omega arith

wraps_up : (bq br lq lr nq nr t g w : ℕ) → bq ≡ br → g ≡ 1 → nq ≤ max (suc lr) nr → lq ≤ suc lr → br + max (max 0 (g + t) + lr) nr ≤ w → bq + max (t + lq) nq ≤ w
wraps_up bq br lq lr nq nr t g w a e b c h = omega arith

ends_up : (q : Place) (e : Ending) (s : Shape) (ts : List Word) (t : ℕ) → Final q e → MayEnd e s ts → low q t ≤ weight s + t
ends_up q Never s ts t f m = absurd m
ends_up q (Ends x) s ts t f m = let k : weight x ≡ weight s = ap weight m in omega (arith, f.0, f.1, f.2)
ends_up q (BeforeStop x) s ts t f m = let k : weight x ≡ weight s = ap weight m.0 in omega (arith, f.0, f.1, f.2)

pub low_spells : {g : Goal} {ts rest : List Word} {w : Tree} → Spells g ts w rest → low_of g ≤ height w
low_spells {w = w} (form {l = l} {t = t} {q = q} e d) =
    let c = form_high l t.kind q e in
    let h : low q (tallest none) ≤ height w = low_spells d in
    omega (arith, c.0, c.1, h)
low_spells {w = w} (tower {l = l} {m = m} {c = c} {v = v} e d tl) =
    let a : lowest_of m ≤ height v = low_spells d in
    let b : height v ≤ height w = low_spells tl in
    le_trans (tower_high l m c e) (le_trans a b)
low_spells (stays {v = v}) = le_refl (height v)
low_spells {w = w} (goes {c = c} {t = t} {q = q} {v = v} {u = u} e d tl) =
    let n : base q ≡ 1 = more_base c (shape_of v) t.kind q e in
    let a : low q (tallest (begun c v t)) ≤ height u = low_spells d in
    let b : height u ≤ height w = low_spells tl in
    let k : height v ≤ 1 + tallest (begun c v t) = begun_high c v t in
    omega (arith, n)
low_spells {ts = ts} (ends {q = q} {s = s} {fs = fs} e) = ends_up q (ending q) s ts (tallest fs) (final q (ending q) (final_at q)) e
low_spells {w = w} (takes {q = q} {r = r} {k = k} {fs = fs} m e d) =
    let u = up_takes q r k (up_at q (Takes k r) m) in
    takes_up (base q) (base r) (lift q) (lift r) (need q) (need r) (tallest fs) (height w) u.0 u.1 u.2 (low_spells d)
low_spells {w = w} (reads {q = q} {r = r} {l = l} {fs = fs} {v = v} m d n) =
    let u = up_reads q r l (up_at q (Reads l r) m) in
    reads_up (base q) (base r) (lift q) (lift r) (need q) (need r) (tallest fs) (height v) (lowest_of l) (height w) u.0 u.1 u.2 (low_spells d) (low_spells n)
low_spells {w = w} (wraps {q = q} {r = r} {k = k} {s = s} {fs = fs} m e d) =
    let u = up_wraps q r k s (up_at q (Wraps k s r) m) in
    wraps_up (base q) (base r) (lift q) (lift r) (need q) (need r) (tallest fs) (weight s) (height w) u.0 u.1 u.2 u.3 (low_spells d)

low_more : (b t x y i n : ℕ) → x ≤ y → b + max (max t x + i) n ≤ b + max (max t y + i) n
low_more b t x y i n h = omega arith

low_frames_up : (frs : List Frame) (a b : ℕ) → a ≤ b → low_frames frs a ≤ low_frames frs b
unfolding low_frames
low_frames_up [] a b h = h
low_frames_up (within q f fs ∷ frs) a b h = low_frames_up frs (low q (max (tallest fs) a)) (low q (max (tallest fs) b)) (low_more (base q) (tallest fs) a b (lift q) (need q) h)
low_frames_up (after c ∷ frs) a b h = low_frames_up frs a b h

low_through : (frs : List Frame) (v : Tree) (ts : List Word) (w : Tree) → Through frs v ts w [] → low_frames frs (height v) ≤ height w
unfolding low_frames
low_through [] v ts w th = subst (λ (x : Tree). height v ≤ height x) th.0 (le_refl (height v))
low_through (within q f fs ∷ frs) v ts w th =
    let first_part : low q (max (tallest fs) (height v)) ≤ height th.0 = low_spells th.2 in
    le_trans (low_frames_up frs (low q (max (tallest fs) (height v))) (height th.0) first_part) (low_through frs th.0 th.1 w th.3)
low_through (after c ∷ frs) v ts w th =
    let first_part : height v ≤ height th.0 = low_spells th.2 in
    le_trans (low_frames_up frs (height v) (height th.0) first_part) (low_through frs th.0 th.1 w th.3)

-- no completion is lower
pub least_below : (s : State) (ts : List Word) (w : Tree) → Completes s ts w → least s ≤ height w
least_below (at q f fs frs) ts w c =
    let first_part : low q (tallest fs) ≤ height c.0 = low_spells c.2 in
    le_trans (low_frames_up frs (low q (tallest fs)) (height c.0) first_part) (low_through frs c.0 c.1 w c.3)

-- the lowest end of a node
of_kind : TokenKind → Word
of_kind k = record { kind = k; number = 0 }

low_sample : Line → List Word → List Word
low_sample lines.Block rest = of_kind kinds.OpenBrace ∷ of_kind kinds.CloseBrace ∷ rest
low_sample lines.Branch rest = of_kind kinds.OpenBrace ∷ of_kind kinds.CloseBrace ∷ rest
low_sample lines.OtherPattern rest = of_kind kinds.Var ∷ of_kind kinds.Identifier ∷ rest
low_sample lines.Member rest = of_kind kinds.Match ∷ of_kind kinds.Identifier ∷ of_kind kinds.OpenBrace ∷ of_kind kinds.CloseBrace ∷ rest
low_sample _ rest = of_kind kinds.Identifier ∷ rest

low_by : Move → (Place → List Word) → List Word
low_by (Takes k r) on = of_kind k ∷ on r
low_by (Reads l r) on = low_sample l (on r)
low_by (Wraps k s r) on = of_kind k ∷ on r

low_last : List Move → (Place → List Word) → List Word → List Word
low_last [] on rest = rest
low_last (m ∷ []) on rest = low_by m on
low_last (m ∷ (n ∷ ms)) on rest = low_last (n ∷ ms) on rest

low_end : ℕ → Place → List Word → List Word
low_end zero q rest = rest
low_end (suc n) q rest = cond (may_end (ending q)) rest (low_last (moves q) (λ r. low_end n r rest) rest)

abbrev Sample : Line → List Word → Type 0
Sample l rest = (v : Tree) × Spells (line l) (low_sample l rest) v rest × (height v ≡ lowest_of l)

prim_sample : (rest : List Word) → Spells (line lines.Prim) (of_kind kinds.Identifier ∷ rest) (node shapes.Noun (of_kind kinds.Identifier) none) rest
unfolding of_kind
prim_sample rest = form refl (ends refl)

abbrev Noun : Line → List Word → Type 0
Noun l rest = Spells (line l) (of_kind kinds.Identifier ∷ rest) (node shapes.Noun (of_kind kinds.Identifier) none) rest

postfix_sample : (rest : List Word) → Noun lines.Postfix rest
postfix_sample rest = tower refl (prim_sample rest) stays

prefix_sample : (rest : List Word) → Noun lines.Prefix rest
prefix_sample rest = tower refl (postfix_sample rest) stays

power_sample : (rest : List Word) → Noun lines.Power rest
power_sample rest = tower refl (prefix_sample rest) stays

product_sample : (rest : List Word) → Noun lines.Product rest
product_sample rest = tower refl (power_sample rest) stays

sum_sample : (rest : List Word) → Noun lines.Sum rest
sum_sample rest = tower refl (product_sample rest) stays

range_sample : (rest : List Word) → Noun lines.Range rest
range_sample rest = tower refl (sum_sample rest) stays

relation_sample : (rest : List Word) → Noun lines.Relation rest
relation_sample rest = tower refl (range_sample rest) stays

bits_sample : (rest : List Word) → Noun lines.Bits rest
bits_sample rest = tower refl (relation_sample rest) stays

equality_sample : (rest : List Word) → Noun lines.Equality rest
equality_sample rest = tower refl (bits_sample rest) stays

and_sample : (rest : List Word) → Noun lines.And rest
and_sample rest = tower refl (equality_sample rest) stays

or_sample : (rest : List Word) → Noun lines.Or rest
or_sample rest = tower refl (and_sample rest) stays

block_node : Tree
block_node = node shapes.Block (of_kind kinds.OpenBrace) (leaf none (of_kind kinds.CloseBrace))

block_sample : (rest : List Word) → Spells (line lines.Block) (of_kind kinds.OpenBrace ∷ of_kind kinds.CloseBrace ∷ rest) block_node rest
unfolding of_kind block_node
block_sample rest = form refl (takes (there (there (there here))) refl (ends refl))

branch_sample : (rest : List Word) → Spells (line lines.Branch) (of_kind kinds.OpenBrace ∷ of_kind kinds.CloseBrace ∷ rest) block_node rest
unfolding of_kind block_node
branch_sample rest = form refl (takes (there (there (there here))) refl (ends refl))

pattern_sample : (rest : List Word) → Spells (line lines.Pattern) (of_kind kinds.Identifier ∷ rest) (node shapes.FinalPattern (of_kind kinds.Identifier) none) rest
unfolding of_kind
pattern_sample rest = form refl (ends refl)

guard_sample : (rest : List Word) → Spells (line lines.Guard) (of_kind kinds.Identifier ∷ rest) (node shapes.NounGuard (of_kind kinds.Identifier) none) rest
unfolding of_kind
guard_sample rest = form refl (ends refl)

var_sample : (rest : List Word) → Spells (line lines.OtherPattern) (of_kind kinds.Var ∷ of_kind kinds.Identifier ∷ rest) (node shapes.VarPattern (of_kind kinds.Var) (leaf none (of_kind kinds.Identifier))) rest
unfolding of_kind
var_sample rest = form refl (takes here refl (ends refl))

member_node : Tree
member_node = node shapes.Matcher (of_kind kinds.Match) (more (more none (node shapes.FinalPattern (of_kind kinds.Identifier) none)) block_node)

member_sample : (rest : List Word) → Spells (line lines.Member) (of_kind kinds.Match ∷ of_kind kinds.Identifier ∷ of_kind kinds.OpenBrace ∷ of_kind kinds.CloseBrace ∷ rest) member_node rest
unfolding of_kind member_node
member_sample rest = form refl (reads here (pattern_sample (of_kind kinds.OpenBrace ∷ of_kind kinds.CloseBrace ∷ rest)) (reads here (block_sample rest) (ends refl)))

-- each line has a lowest tree
line_low : (l : Line) (rest : List Word) → Sample l rest
unfolding low_sample block_node member_node
line_low lines.Expr rest = (node shapes.Noun (of_kind kinds.Identifier) none, tower refl (or_sample rest) stays, refl)
line_low lines.ExprBeforeBlock rest = (node shapes.Noun (of_kind kinds.Identifier) none, tower refl (or_sample rest) stays, refl)
line_low lines.Prim rest = (node shapes.Noun (of_kind kinds.Identifier) none, prim_sample rest, refl)
line_low lines.Block rest = (block_node, block_sample rest, refl)
line_low lines.Branch rest = (block_node, branch_sample rest, refl)
line_low lines.Pattern rest = (node shapes.FinalPattern (of_kind kinds.Identifier) none, pattern_sample rest, refl)
line_low lines.OtherPattern rest = (node shapes.VarPattern (of_kind kinds.Var) (leaf none (of_kind kinds.Identifier)), var_sample rest, refl)
line_low lines.Guard rest = (node shapes.NounGuard (of_kind kinds.Identifier) none, guard_sample rest, refl)
line_low lines.Member rest = (member_node, member_sample rest, refl)
line_low lines.Postfix rest = (node shapes.Noun (of_kind kinds.Identifier) none, postfix_sample rest, refl)
line_low lines.Prefix rest = (node shapes.Noun (of_kind kinds.Identifier) none, prefix_sample rest, refl)
line_low lines.Power rest = (node shapes.Noun (of_kind kinds.Identifier) none, power_sample rest, refl)
line_low lines.Product rest = (node shapes.Noun (of_kind kinds.Identifier) none, product_sample rest, refl)
line_low lines.Sum rest = (node shapes.Noun (of_kind kinds.Identifier) none, sum_sample rest, refl)
line_low lines.Range rest = (node shapes.Noun (of_kind kinds.Identifier) none, range_sample rest, refl)
line_low lines.Relation rest = (node shapes.Noun (of_kind kinds.Identifier) none, relation_sample rest, refl)
line_low lines.Bits rest = (node shapes.Noun (of_kind kinds.Identifier) none, bits_sample rest, refl)
line_low lines.Equality rest = (node shapes.Noun (of_kind kinds.Identifier) none, equality_sample rest, refl)
line_low lines.And rest = (node shapes.Noun (of_kind kinds.Identifier) none, and_sample rest, refl)
line_low lines.Or rest = (node shapes.Noun (of_kind kinds.Identifier) none, or_sample rest, refl)

-- the lowest move of a place
abbrev Reached : Place → Word → Trees → List Word → List Word → Type 0
Reached q f fs ts rest = (w : Tree) × Spells (inside q f fs) ts w rest × (height w ≤ low q (tallest fs))

takes_low : (bq br lq lr nq nr t w : ℕ) → bq ≡ br → nr ≤ nq → lr ≤ lq → w ≤ br + max (t + lr) nr → w ≤ bq + max (t + lq) nq
takes_low bq br lq lr nq nr t w a b c h = omega arith

reads_low : (bq br lq lr nq nr t y x w : ℕ) → bq ≡ br → max (x + lr) nr ≤ nq → lr ≤ lq → y ≡ x → w ≤ br + max (max t y + lr) nr → w ≤ bq + max (t + lq) nq
reads_low bq br lq lr nq nr t y x w a b c d h = omega arith

wraps_low : (bq br lq lr nq nr t g w : ℕ) → bq ≡ br → g ≡ 1 → nr ≤ nq → suc lr ≤ lq → w ≤ br + max (max 0 (g + t) + lr) nr → w ≤ bq + max (t + lq) nq
wraps_low bq br lq lr nq nr t g w a e b c h = omega arith

module _ (q : Place) (f : Word) (fs : Trees) (rest : List Word) (on : Place → List Word) where
  move_reached : (m : Move) → Has (moves q) m → move_low q m ≡ true → ((g : Word) (gs : Trees) → Reached (target m) g gs (on (target m)) rest) → Reached q f fs (low_by m on) rest
  unfolding low_by of_kind
  move_reached (Takes k r) h g next =
      let u = up_takes q r k (up_at q (Takes k r) h) in
      let x = next f (leaf fs (of_kind k)) in
      (x.0, takes h refl x.1, takes_low (base q) (base r) (lift q) (lift r) (need q) (need r) (tallest fs) (height x.0) u.0 (leb-true (need r) (need q) (and_l _ _ g)) (leb-true (lift r) (lift q) (and_r (leb (need r) (need q)) _ g)) x.2)
  move_reached (Reads l r) h g next =
      let u = up_reads q r l (up_at q (Reads l r) h) in
      let v = line_low l (on r) in
      let x = next f (more fs v.0) in
      (x.0, reads h v.1 x.1, reads_low (base q) (base r) (lift q) (lift r) (need q) (need r) (tallest fs) (height v.0) (lowest_of l) (height x.0) u.0 (leb-true (max (lowest_of l + lift r) (need r)) (need q) (and_l _ _ g)) (leb-true (lift r) (lift q) (and_r (leb (max (lowest_of l + lift r) (need r)) (need q)) _ g)) v.2 x.2)
  move_reached (Wraps k s r) h g next =
      let u = up_wraps q r k s (up_at q (Wraps k s r) h) in
      let x = next f (leaf (wrapped s fs) (of_kind k)) in
      (x.0, wraps h refl x.1, wraps_low (base q) (base r) (lift q) (lift r) (need q) (need r) (tallest fs) (weight s) (height x.0) u.0 u.1 (leb-true (need r) (need q) (and_l _ _ g)) (leb-true (suc (lift r)) (lift q) (and_r (leb (need r) (need q)) _ g)) x.2)

  last_reached : (ms : List Move) → ((m : Move) → Has ms m → Has (moves q) m) → last_low q ms ≡ true → ((m : Move) → Has (moves q) m → target m ≡ last_target ms q → (g : Word) (gs : Trees) → Reached (target m) g gs (on (target m)) rest) → Reached q f fs (low_last ms on rest) rest
  unfolding low_last
  last_reached [] sub g next = cc
  last_reached (m ∷ []) sub g next = move_reached m (sub m here) g (next m (sub m here) refl)
  last_reached (m ∷ (n ∷ ms)) sub g next = last_reached (n ∷ ms) (λ x h. sub x (there h)) g next

end_reached : (q : Place) (e : Ending) (f : Word) (fs : Trees) (rest : List Word) → ending q ≡ e → Final q e → may_end e ≡ true → (leaving q ≡ true → IsStop rest) → Reached q f fs rest rest
end_reached q Never f fs rest d g m k = cc
end_reached q (Ends s) f fs rest d g m k = (node s f fs, ends (subst (λ (x : Ending). MayEnd x s rest) (sym d) refl), omega (arith, g.0, g.1, g.2))
end_reached q (BeforeStop s) f fs rest d g m k = (node s f fs, ends (subst (λ (x : Ending). MayEnd x s rest) (sym d) (refl, k g.3)), omega (arith, g.0, g.1, g.2))

never_low : (q : Place) (e : Ending) → ending q ≡ e → may_end e ≡ false → last_low q (moves q) ≡ true
never_low q Never d m = subst (λ (x : Ending). is_final q x ≡ true) d (final_at q)
never_low q (Ends s) d m = cc
never_low q (BeforeStop s) d m = cc

move_leaving : (q : Place) (m : Move) → move_good q m ≡ true → leaving (target m) ≡ true → leaving q ≡ true
move_leaving q (Takes k r) g l = use_implies (leaving r) (leaving q) (and_r _ _ g) l
move_leaving q (Reads x r) g l = use_implies (leaving r) (leaving q) (and_r _ _ (and_l (next_good q r) _ g)) l
move_leaving q (Wraps k s r) g l = use_implies (leaving r) (leaving q) (and_r _ _ g) l

place_by : (q : Place) (f : Word) (fs : Trees) (rest : List Word) (on : Place → List Word) (t : Bool) → may_end (ending q) ≡ t → (leaving q ≡ true → IsStop rest) → (t ≡ false → (m : Move) → Has (moves q) m → target m ≡ last_target (moves q) q → (g : Word) (gs : Trees) → Reached (target m) g gs (on (target m)) rest) → Reached q f fs (cond t rest (low_last (moves q) on rest)) rest
place_by q f fs rest on true e k next = end_reached q (ending q) f fs rest refl (final q (ending q) (final_at q)) e k
place_by q f fs rest on false e k next = last_reached q f fs rest on (moves q) (λ m h. h) (never_low q (ending q) refl e) (next refl)

soon_on : (a b : Bool) → (a || b) ≡ true → a ≡ false → b ≡ true
soon_on true b h e = cc
soon_on false b h e = h

place_low : (n : ℕ) (q : Place) (f : Word) (fs : Trees) (rest : List Word) → ends_soon n q ≡ true → (leaving q ≡ true → IsStop rest) → Reached q f fs (low_end n q rest) rest
unfolding low_end
place_low zero q f fs rest s k = end_reached q (ending q) f fs rest refl (final q (ending q) (final_at q)) s k
place_low (suc n) q f fs rest s k =
    place_by q f fs rest (λ r. low_end n r rest) (may_end (ending q)) refl k
    (λ e m h t g gs. place_low n (target m) g gs rest (subst (λ (x : Place). ends_soon n x ≡ true) (sym t) (soon_on (may_end (ending q)) (ends_soon n (last_target (moves q) q)) s e)) (λ l. k (move_leaving q m (good_move q m h) l)))

low_endings : List Frame → List Word
low_endings [] = []
low_endings (within q f fs ∷ frs) = low_end 12 q (low_endings frs)
low_endings (after c ∷ frs) = low_endings frs

-- the first token of the lowest end
abbrev FirstIs : Option TokenKind → List Word → List Word → Type 0
FirstIs None ts rest = ts ≡ rest
FirstIs (Some k) ts rest = (t : Word) × (more : List Word) × (ts ≡ (t ∷ more)) × (t.kind ≡ k)

sample_first : (l : Line) (ts rest : List Word) → FirstIs (Some (low_word l)) (low_sample l ts) rest
unfolding low_sample of_kind
sample_first lines.Block ts rest = (of_kind kinds.OpenBrace, of_kind kinds.CloseBrace ∷ ts, refl, refl)
sample_first lines.Branch ts rest = (of_kind kinds.OpenBrace, of_kind kinds.CloseBrace ∷ ts, refl, refl)
sample_first lines.OtherPattern ts rest = (of_kind kinds.Var, of_kind kinds.Identifier ∷ ts, refl, refl)
sample_first lines.Member ts rest = (of_kind kinds.Match, of_kind kinds.Identifier ∷ of_kind kinds.OpenBrace ∷ of_kind kinds.CloseBrace ∷ ts, refl, refl)
sample_first _ ts rest = (of_kind kinds.Identifier, ts, refl, refl)

by_first : (m : Move) (on : Place → List Word) (rest : List Word) → FirstIs (Some (move_first m)) (low_by m on) rest
unfolding low_by of_kind
by_first (Takes k r) on rest = (of_kind k, on r, refl, refl)
by_first (Reads l r) on rest = sample_first l (on r) rest
by_first (Wraps k s r) on rest = (of_kind k, on r, refl, refl)

last_is : (ms : List Move) (on : Place → List Word) (rest : List Word) → FirstIs (last_first ms) (low_last ms on rest) rest
unfolding low_last
last_is [] on rest = refl
last_is (m ∷ []) on rest = by_first m on rest
last_is (m ∷ (n ∷ ms)) on rest = last_is (n ∷ ms) on rest

first_by : (e : Ending) (ms : List Move) (on : Place → List Word) (rest : List Word) → FirstIs (low_first_of e ms) (cond (may_end e) rest (low_last ms on rest)) rest
first_by Never ms on rest = last_is ms on rest
first_by (Ends s) ms on rest = refl
first_by (BeforeStop s) ms on rest = refl

first_is : (q : Place) (rest : List Word) → FirstIs (low_first q) (low_end 12 q rest) rest
unfolding low_end
first_is q rest = first_by (ending q) (moves q) (λ r. low_end 11 r rest) rest

stop_from : (b : Bool) (o : Option TokenKind) (ts rest : List Word) → FirstIs o ts rest → stop_first b o ≡ true → (b ≡ true → IsStop rest) → IsStop ts
stop_from b None ts rest e h k = subst IsStop (sym e) (k h)
stop_from b (Some j) ts rest e h k = subst IsStop (sym e.2) (subst (λ (i : TokenKind). is_stop i ≡ true) (sym e.3) h)

joins_stop : (m : Option Line) (q : Place) (h : Option Line) → Joins m q h → leaves m ≡ true → stop_first (leaves h) (low_first q) ≡ true
joins_stop None q h j l = absurd j
joins_stop (Some m) q h j l = j.1 l

tailed_leaves : (m h : Option Line) (c : Tail) → Tailed m h c → leaves m ≡ true → leaves h ≡ true
unfolding good_tail
tailed_leaves None h c g l = absurd g
tailed_leaves (Some m) None c g l = absurd g
tailed_leaves (Some m) (Some h) c g l = use_implies (leaves (Some m)) (leaves (Some h)) (and_l _ _ g) l

frames_stop : (frs : List Frame) (m : Option Line) → Fits m frs → leaves m ≡ true → IsStop (low_endings frs)
unfolding low_endings
frames_stop [] m h k = tt
frames_stop (within q f fs ∷ frs) m h k = stop_from (leaves h.0) (low_first q) (low_end 12 q (low_endings frs)) (low_endings frs) (first_is q (low_endings frs)) (joins_stop m q h.0 h.1 k) (frames_stop frs h.0 h.3)
frames_stop (after c ∷ frs) m h k = frames_stop frs h.0 h.2 (tailed_leaves m h.0 c h.1 k)

frames_low : (frs : List Frame) (m : Option Line) → Fits m frs → (v : Tree) → (w : Tree) × Through frs v (low_endings frs) w [] × (height w ≤ low_frames frs (height v))
unfolding low_endings low_frames
frames_low [] m h v = (v, (refl, refl), le_refl (height v))
frames_low (within q f fs ∷ frs) m h v =
    let x = place_low 12 q f (more fs v) (low_endings frs) (soon_at q) (λ k. frames_stop frs h.0 h.3 (h.2.1 k)) in
    let r = frames_low frs h.0 h.3 x.0 in
    (r.0, (x.0, low_endings frs, x.1, r.1), le_trans r.2 (low_frames_up frs (height x.0) (low q (max (tallest fs) (height v))) x.2))
frames_low (after c ∷ frs) m h v = let r = frames_low frs h.0 h.2 v in (r.0, (v, low_endings frs, stays, r.1), r.2)

-- one completion is as low as this
pub least_reached : (s : State) → Valid s → (ts : List Word) × (w : Tree) × Completes s ts w × (height w ≤ least s)
least_reached (at q f fs frs) h =
    let x = place_low 12 q f fs (low_endings frs) (soon_at q) (λ k. frames_stop frs h.0 h.2 (h.1.1 k)) in
    let r = frames_low frs h.0 h.2 x.0 in
    (low_end 12 q (low_endings frs), r.0, (x.0, low_endings frs, x.1, r.1), le_trans r.2 (low_frames_up frs (height x.0) (low q (tallest fs)) x.2))

end_in_low : (q : Place) (e : Ending) (f : Word) (fs : Trees) (w : Tree) → Final q e → end_in e f fs ≡ Some w → height w ≤ low q (tallest fs)
end_in_low q Never f fs w g e = cc
end_in_low q (Ends s) f fs w g e = let k : node s f fs ≡ w = cc in subst (λ (x : Tree). height x ≤ low q (tallest fs)) k (omega (arith, g.0, g.1, g.2))
end_in_low q (BeforeStop s) f fs w g e = let k : node s f fs ≡ w = cc in subst (λ (x : Tree). height x ≤ low q (tallest fs)) k (omega (arith, g.0, g.1, g.2))

end_frames_low : (frs : List Frame) (v w : Tree) → end_frames frs v ≡ Some w → height w ≤ low_frames frs (height v)
unfolding end_frames low_frames
end_frames_low [] v w e = let k : v ≡ w = cc in subst (λ (x : Tree). height x ≤ height v) k (le_refl (height v))
end_frames_low (within q f fs ∷ frs) v w e =
    let r = bound (end_in (ending q) f (more fs v)) (λ u. end_frames frs u) w e in
    let a = end_in_low q (ending q) f (more fs v) r.0 (final q (ending q) (final_at q)) r.1 in
    le_trans (end_frames_low frs r.0 w r.2) (low_frames_up frs (height r.0) (low q (max (tallest fs) (height v))) a)
end_frames_low (after c ∷ frs) v w e = end_frames_low frs v w e

-- the tree at the end of the tokens is as low as any
pub finish_low : (s : State) (w : Tree) → finish s ≡ Some w → height w ≤ least s
unfolding finish
finish_low (at q f fs frs) w e =
    let r = bound (end_in (ending q) f fs) (λ u. end_frames frs u) w e in
    let a = end_in_low q (ending q) f fs r.0 (final q (ending q) (final_at q)) r.1 in
    le_trans (end_frames_low frs r.0 w r.2) (low_frames_up frs (height r.0) (low q (tallest fs)) a)
