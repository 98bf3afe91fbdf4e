-- What is spelled is read.
use Rattle.std.proofs.Common.{◌≡◌, List, [], ◌∷◌, Bool, true, false, cond, not, ◌||◌, ◌&&◌, Option, Some, None, is_some, is_none, refl, sym, ◌∙◌, subst, ap, ◌⊎◌, inl, inr}
use Rattle.def_syntax.specs.declared.token.TokenKind.{TokenKind}
use Rattle.def_syntax.specs.declared.token.TokenKind.TheVariants as kinds
use Rattle.def_syntax.specs.declared.syntax.Word.{Word}
use Rattle.def_syntax.specs.declared.syntax.Shape.{Shape}
use Rattle.def_syntax.specs.declared.syntax.Shape.TheVariants as shapes
use Rattle.def_syntax.specs.declared.syntax.Line.{Line}
use Rattle.def_syntax.specs.declared.syntax.Line.TheVariants as lines
use Rattle.def_syntax.specs.declared.syntax.Tail.{Tail}
use Rattle.def_syntax.specs.declared.syntax.Tail.TheVariants as tails
use Rattle.def_syntax.specs.declared.place.Place.{Place}
use Rattle.def_syntax.specs.declared.place.Move.{Move}
use Rattle.def_syntax.specs.declared.place.Move.TheVariants.{Takes, Reads, Wraps}
use Rattle.def_syntax.specs.declared.place.Ending.{Ending}
use Rattle.def_syntax.specs.declared.place.Ending.TheVariants.{Never, Ends, BeforeStop}
use Rattle.def_syntax.specs.Kinds.{same}
use Rattle.def_syntax.specs.Grammar.{Tree, Trees, node, none, moves, ending, form_at, tower_of, shape_of, more_at, assigned, changed, becomes, MayEnd, Has, here, there, Goal, line, tail, inside, Spells, form, tower, stays, goes, ends, takes, reads, wraps}
use Rattle.def_syntax.specs.Machine.{Frame, within, after, Begun, choose, under, begin, accepts, pick, Outcome, moved, ended, stuck, opened, ends_before, follow_move, step_in, tail_step, step_frame, State, at, settle, pop, step, goal_of, Through, Completes}
use Rattle.def_syntax.proofs.Numbering.{same_self}
use Rattle.def_syntax.proofs.Numbering.{every, every_at}
use Rattle.def_syntax.proofs.Sound.{through_both, Means}
use Rattle.def_syntax.proofs.Checks.{implies, use_implies, and_l, and_r, and_both, or_l, or_r, not_true, follow, leaves, follow_level, level, leaving, accepted, may_end_at, comes, low_first, stop_first, moves_good, apart, fitting, rising, good, tail_first, next_line, sits, option_sits, good_tail, tower_good}
use Rattle.def_syntax.proofs.Good.{all_good}

abbrev pub under_of : Option (Line × Tail) → TokenKind → Begun
under_of None k = None
under_of (Some x) k = under x.1 (begin x.0 k)

pub begin_unrolls : (l : Line) (k : TokenKind) → begin l k ≡ choose (form_at l k) (under_of (tower_of l) k)
unfolding begin
begin_unrolls lines.Expr k = refl
begin_unrolls lines.ExprBeforeBlock k = refl
begin_unrolls lines.Or k = refl
begin_unrolls lines.And k = refl
begin_unrolls lines.Equality k = refl
begin_unrolls lines.Bits k = refl
begin_unrolls lines.Relation k = refl
begin_unrolls lines.Range k = refl
begin_unrolls lines.Sum k = refl
begin_unrolls lines.Product k = refl
begin_unrolls lines.Power k = refl
begin_unrolls lines.Prefix k = refl
begin_unrolls lines.Postfix k = refl
begin_unrolls lines.Prim k = refl
begin_unrolls lines.Block k = refl
begin_unrolls lines.Branch k = refl
begin_unrolls lines.Pattern k = refl
begin_unrolls lines.OtherPattern k = refl
begin_unrolls lines.Guard k = refl
begin_unrolls lines.Member k = refl

begin_form : (l : Line) (k : TokenKind) (q : Place) → form_at l k ≡ Some q → begin l k ≡ Some (q, [])
begin_form l k q e = begin_unrolls l k ∙ ap (λ (o : Option Place). choose o (under_of (tower_of l) k)) e

pub begin_tower : (l m : Line) (c : Tail) (k : TokenKind) → tower_of l ≡ Some (m, c) → begin l k ≡ choose (form_at l k) (under c (begin m k))
begin_tower l m c k e = begin_unrolls l k ∙ ap (λ (o : Option (Line × Tail)). choose (form_at l k) (under_of o k)) e

some_chosen : (o : Option Place) (b : Begun) → is_some b ≡ true → is_some (choose o b) ≡ true
some_chosen None b h = h
some_chosen (Some p) b h = refl

some_under : (c : Tail) (b : Begun) → is_some b ≡ true → is_some (under c b) ≡ true
some_under c None h = h
some_under c (Some b) h = refl

becomes_first : (l : Line) (s : Shape) (k : TokenKind) (q : Place) → becomes l s k ≡ Some q → is_some (becomes l shapes.Noun k) ≡ true
becomes_first l s kinds.Assign q e = refl
becomes_first l s kinds.AddAssign q e = refl
becomes_first l s kinds.SubtractAssign q e = refl
becomes_first l s kinds.MultiplyAssign q e = refl
becomes_first l s kinds.FloorDivideAssign q e = refl
becomes_first l s kinds.RemainderAssign q e = refl
becomes_first l s kinds.ModAssign q e = refl
becomes_first l s kinds.PowAssign q e = refl
becomes_first l s kinds.AndAssign q e = refl
becomes_first l s kinds.OrAssign q e = refl
becomes_first l s kinds.XorAssign q e = refl
becomes_first l s _ q e = cc

-- what goes on behind a tree that is not assigned to does not depend on its shape
same_more : (c : Tail) (s : Shape) (k : TokenKind) (q : Place) → more_at c s k ≡ Some q → (more_at c shapes.Noun k ≡ more_at c s k) → tail_first c k ≡ true
same_more c s k q e h = ap (λ (o : Option Place). is_some o) (h ∙ e)

more_first : (c : Tail) (s : Shape) (k : TokenKind) (q : Place) → more_at c s k ≡ Some q → tail_first c k ≡ true
more_first tails.Becomes s k q e = becomes_first lines.Expr s k q e
more_first tails.BecomesBeforeBlock s k q e = becomes_first lines.ExprBeforeBlock s k q e
more_first tails.Ors s kinds.LogicalOr q e = refl
more_first tails.Ors s _ q e = cc
more_first tails.Ands s kinds.LogicalAnd q e = refl
more_first tails.Ands s _ q e = cc
more_first tails.Equality s kinds.Same q e = refl
more_first tails.Equality s kinds.NotSame q e = refl
more_first tails.Equality s kinds.Matches q e = refl
more_first tails.Equality s _ q e = cc
more_first tails.Bits s kinds.And q e = refl
more_first tails.Bits s kinds.Or q e = refl
more_first tails.Bits s kinds.Xor q e = refl
more_first tails.Bits s _ q e = cc
more_first tails.Relation s kinds.Less q e = refl
more_first tails.Relation s kinds.AtMost q e = refl
more_first tails.Relation s kinds.AsBigAs q e = refl
more_first tails.Relation s kinds.AtLeast q e = refl
more_first tails.Relation s kinds.Greater q e = refl
more_first tails.Relation s _ q e = cc
more_first tails.Range s kinds.Through q e = refl
more_first tails.Range s kinds.Till q e = refl
more_first tails.Range s _ q e = cc
more_first tails.Sums s kinds.Plus q e = refl
more_first tails.Sums s kinds.Minus q e = refl
more_first tails.Sums s _ q e = cc
more_first tails.Products s kinds.Times q e = refl
more_first tails.Products s kinds.FloorDivide q e = refl
more_first tails.Products s kinds.Remainder q e = refl
more_first tails.Products s kinds.Mod q e = refl
more_first tails.Products s _ q e = cc
more_first tails.Power s kinds.Pow q e = refl
more_first tails.Power s _ q e = cc
more_first tails.Suffixes s kinds.OpenParen q e = refl
more_first tails.Suffixes s kinds.OpenBracket q e = refl
more_first tails.Suffixes s kinds.Dot q e = refl
more_first tails.Suffixes s kinds.Send q e = refl
more_first tails.Suffixes s _ q e = cc
more_first tails.Nothing s _ q e = cc

abbrev first_of : Goal → TokenKind → Bool
first_of (line l) k = is_some (begin l k)
first_of (tail c v) k = tail_first c k
first_of (inside q f fs) k = accepted (moves q) k

abbrev ends_at : Goal → TokenKind → Bool
ends_at (line l) k = false
ends_at (tail c v) k = true
ends_at (inside q f fs) k = may_end_at (ending q) k

abbrev Starts : Goal → Word → List Word → List Word → Type 0
Starts g t ts rest = (first_of g t.kind ≡ true) ⊎ ((ends_at g t.kind ≡ true) × (rest ≡ (t ∷ ts)))

pub has_accepted : {ms : List Move} {m : Move} (k : TokenKind) → Has ms m → accepts m k ≡ true → accepted ms k ≡ true
has_accepted k (here {m = m} {ms = ms}) a = or_l (accepts m k) (accepted ms k) a
has_accepted k (there {n = n} {ms = ms} h) a = or_r (accepts n k) (accepted ms k) (has_accepted k h a)

ends_from : (e : Ending) (s : Shape) (t : Word) (ts : List Word) → MayEnd e s (t ∷ ts) → may_end_at e t.kind ≡ true
ends_from Never s t ts h = absurd h
ends_from (Ends x) s t ts h = refl
ends_from (BeforeStop x) s t ts h = h.1

same_kind : (a b : TokenKind) → a ≡ b → same a b ≡ true
same_kind a b e = subst (λ (j : TokenKind). same a j ≡ true) e (same_self a)

-- a tree's first token, or nothing of it
pub starts : {g : Goal} {t : Word} {ts rest : List Word} {w : Tree} → Spells g (t ∷ ts) w rest → Starts g t ts rest
starts {t = t} (form {l = l} {q = q} e d) = inl (ap (λ (b : Begun). is_some b) (begin_form l t.kind q e))
starts {t = t} (tower {l = l} {m = m} {c = c} e d tl) = elim (starts d) [
  | inl h ↦ inl (ap (λ (b : Begun). is_some b) (begin_tower l m c t.kind e) ∙ some_chosen (form_at l t.kind) (under c (begin m t.kind)) (some_under c (begin m t.kind) h))
  | inr h ↦ absurd (cc h.0)
]
starts stays = inr (refl, refl)
starts {t = t} (goes {c = c} {q = q} {v = v} e d tl) = inl (more_first c (shape_of v) t.kind q e)
starts {t = t} {ts = ts} (ends {q = q} {s = s} e) = inr (ends_from (ending q) s t ts e, refl)
starts {t = t} (takes {k = k} m e d) = inl (has_accepted t.kind m (same_kind t.kind k e))
starts {t = t} (reads m d r) = elim (starts d) [ inl h ↦ inl (has_accepted t.kind m h) | inr h ↦ absurd (cc h.0) ]
starts {t = t} (wraps {k = k} m e d) = inl (has_accepted t.kind m (same_kind t.kind k e))

-- what a line spells, from what its first token opens
abbrev Closes : Begun → Word → List Word → Tree → List Word → Type 0
Closes None t ts w rest = ⊥
Closes (Some b) t ts w rest = (u : Tree) × (mid : List Word) × Spells (inside b.0 t none) ts u mid × Through b.1 u mid w rest

closes_under : (c : Tail) (b : Begun) (t : Word) (ts : List Word) (v : Tree) (mid : List Word) (w : Tree) (rest : List Word) → Closes b t ts v mid → Spells (tail c v) mid w rest → Closes (under c b) t ts w rest
closes_under c None t ts v mid w rest h s = absurd h
closes_under c (Some b) t ts v mid w rest h s = (h.0, h.1, h.2, through_both b.1 (after c ∷ []) h.0 h.1 v mid w rest h.3 (w, rest, s, (refl, refl)))

not_some : (o : Option Place) → is_none o ≡ true → o ≡ None
not_some None h = refl
not_some (Some p) h = cc

begin_complete : {l : Line} {t : Word} {ts rest : List Word} {w : Tree} → Spells (line l) (t ∷ ts) w rest → Closes (begin l t.kind) t ts w rest
begin_complete {t = t} {ts = ts} {rest = rest} {w = w} (form {l = l} {q = q} e d) = subst (λ (b : Begun). Closes b t ts w rest) (sym (begin_form l t.kind q e)) (w, rest, d, (refl, refl))
begin_complete {t = t} {ts = ts} {rest = rest} {w = w} (tower {l = l} {m = m} {c = c} {v = v} {mid = mid} e d tl) =
    let first_ok : is_some (begin m t.kind) ≡ true = elim (starts d) [ inl h ↦ h | inr h ↦ absurd (cc h.0) ] in
    let other : form_at l t.kind ≡ None = not_some (form_at l t.kind) ((tower_good l m c e).1 t.kind first_ok) in
    let is : begin l t.kind ≡ under c (begin m t.kind) = begin_tower l m c t.kind e ∙ ap (λ (o : Option Place). choose o (under c (begin m t.kind))) other in
    subst (λ (b : Begun). Closes b t ts w rest) (sym is) (closes_under c (begin m t.kind) t ts v mid w rest (begin_complete d) tl)

opened_complete : (b : Begun) (fr : Frame) (t : Word) (ts : List Word) (v : Tree) (mid : List Word) (w : Tree) (rest : List Word) → Closes b t ts v mid → Spells (goal_of fr v) mid w rest → Means (opened b t fr) t ts w rest
opened_complete None fr t ts v mid w rest h s = absurd h
opened_complete (Some b) fr t ts v mid w rest h s = (h.0, h.1, h.2, through_both b.1 (fr ∷ []) h.0 h.1 v mid w rest h.3 (w, rest, s, (refl, refl)))

-- the one move that a token begins
pick_here : (b : Bool) (m : Move) (o : Option Move) → b ≡ true → cond b (Some m) o ≡ Some m
pick_here true m o e = refl
pick_here false m o e = cc

pick_there : (b : Bool) (m : Move) (o p : Option Move) → b ≡ false → o ≡ p → cond b (Some m) o ≡ p
pick_there true m o p e d = cc
pick_there false m o p e d = d

is_false : (b : Bool) → (b ≡ true → ⊥) → b ≡ false
is_false true h = absurd (h refl)
is_false false h = refl

pick_has : {ms : List Move} {m : Move} (e : TokenKind → Bool) (k : TokenKind) → apart ms e ≡ true → Has ms m → accepts m k ≡ true → pick ms k ≡ Some m
pick_has e k g (here {m = m} {ms = ms}) a = pick_here (accepts m k) m (pick ms k) a
pick_has {m = m} e k g (there {n = n} {ms = ms} h) a =
    let other : accepts n k ≡ true → ⊥ = λ x. not_true (accepted ms k || e k) (use_implies _ _ (every_at (λ k. implies (accepts n k) (not (accepted ms k || e k))) (and_l _ (apart ms e) g) k) x) (or_l (accepted ms k) (e k) (has_accepted k h a)) in
    pick_there (accepts n k) n (pick ms k) (Some m) (is_false (accepts n k) other) (pick_has e k (and_r (every (λ k. implies (accepts n k) (not (accepted ms k || e k)))) (apart ms e) g) h a)

pick_none : (ms : List Move) (e : TokenKind → Bool) (k : TokenKind) → apart ms e ≡ true → e k ≡ true → pick ms k ≡ None
pick_none [] e k g a = refl
pick_none (n ∷ ms) e k g a =
    let other : accepts n k ≡ true → ⊥ = λ x. not_true (accepted ms k || e k) (use_implies _ _ (every_at (λ k. implies (accepts n k) (not (accepted ms k || e k))) (and_l _ (apart ms e) g) k) x) (or_r (accepted ms k) (e k) a) in
    pick_there (accepts n k) n (pick ms k) None (is_false (accepts n k) other) (pick_none ms e k (and_r (every (λ k. implies (accepts n k) (not (accepted ms k || e k)))) (apart ms e) g) a)

pub fitting_at : (q : Place) → fitting q ≡ true
unfolding good
fitting_at q = and_l (fitting q) (rising q) (all_good q)

pub rising_at : (q : Place) → rising q ≡ true
unfolding good
rising_at q = and_r (fitting q) (rising q) (all_good q)

apart_at : (q : Place) → apart (moves q) (λ k. may_end_at (ending q) k && follow_level (level q) k) ≡ true
apart_at q = and_r (moves_good q (moves q)) _ (fitting_at q)

-- the move of a token that begins it
move_of : (q : Place) (m : Move) (k : TokenKind) → Has (moves q) m → accepts m k ≡ true → pick (moves q) k ≡ Some m
move_of q m k h a = pick_has (λ k. may_end_at (ending q) k && follow_level (level q) k) k (apart_at q) h a

ending_complete : (e : Ending) (s : Shape) (f : Word) (fs : Trees) (t : Word) (ts : List Word) → MayEnd e s (t ∷ ts) → Means (ends_before e f fs t) t ts (node s f fs) (t ∷ ts)
ending_complete Never s f fs t ts h = absurd h
ending_complete (Ends x) s f fs t ts h = (ap (λ (y : Shape). node y f fs) h, refl)
ending_complete (BeforeStop x) s f fs t ts h = subst (λ (b : Bool). Means (cond b (ended (node x f fs)) stuck) t ts (node s f fs) (t ∷ ts)) (sym h.1) (ap (λ (y : Shape). node y f fs) h.0, refl)

in_complete : {q : Place} {f t : Word} {fs : Trees} {ts rest : List Word} {w : Tree} → Spells (inside q f fs) (t ∷ ts) w rest → (rest ≡ (t ∷ ts) → follow_level (level q) t.kind ≡ true) → Means (step_in q f fs t) t ts w rest
unfolding step_in
in_complete {t = t} {ts = ts} (ends {q = q} {s = s} {f = f} {fs = fs} e) k =
    let no : pick (moves q) t.kind ≡ None = pick_none (moves q) (λ k. may_end_at (ending q) k && follow_level (level q) k) t.kind (apart_at q) (and_both (may_end_at (ending q) t.kind) (follow_level (level q) t.kind) (ends_from (ending q) s t ts e) (k refl)) in
    subst (λ (o : Option Move). Means (follow_move o (ending q) f fs t) t ts (node s f fs) (t ∷ ts)) (sym no) (ending_complete (ending q) s f fs t ts e)
in_complete {t = t} {ts = ts} {rest = rest} {w = w} (takes {q = q} {r = r} {k = j} {f = f} {fs = fs} m e d) k =
    subst (λ (o : Option Move). Means (follow_move o (ending q) f fs t) t ts w rest) (sym (move_of q (Takes j r) t.kind m (same_kind t.kind j e))) (w, rest, d, (refl, refl))
in_complete {t = t} {ts = ts} {rest = rest} {w = w} (reads {q = q} {r = r} {l = l} {f = f} {fs = fs} {v = v} {mid = mid} m d n) k =
    let first_ok : is_some (begin l t.kind) ≡ true = elim (starts d) [ inl h ↦ h | inr h ↦ absurd (cc h.0) ] in
    subst (λ (o : Option Move). Means (follow_move o (ending q) f fs t) t ts w rest) (sym (move_of q (Reads l r) t.kind m first_ok)) (opened_complete (begin l t.kind) (within r f fs) t ts v mid w rest (begin_complete d) n)
in_complete {t = t} {ts = ts} {rest = rest} {w = w} (wraps {q = q} {r = r} {k = j} {s = s} {f = f} {fs = fs} m e d) k =
    subst (λ (o : Option Move). Means (follow_move o (ending q) f fs t) t ts w rest) (sym (move_of q (Wraps j s r) t.kind m (same_kind t.kind j e))) (w, rest, d, (refl, refl))

tail_follow : (m : Line) (h : Option Line) (c : Tail) (k : TokenKind) → good_tail (Some m) h c ≡ true → (tail_first c k || follow h k) ≡ true → follow (Some m) k ≡ true
unfolding good_tail
tail_follow m h c k g x = use_implies _ _ (every_at (λ k. implies (tail_first c k || follow h k) (follow (Some m) k)) (and_l _ _ (and_r _ _ g)) k) x

tail_apart : (m : Line) (h : Option Line) (c : Tail) (k : TokenKind) → good_tail (Some m) h c ≡ true → tail_first c k ≡ true → follow h k ≡ true → ⊥
unfolding good_tail
tail_apart m h c k g x f = not_true (follow h k) (use_implies _ _ (every_at (λ k. implies (tail_first c k) (not (follow h k))) (and_l _ _ (and_r _ _ (and_r _ _ g))) k) x) f

tail_sits : (m : Line) (h : Option Line) (c : Tail) (k : TokenKind) → good_tail (Some m) h c ≡ true → option_sits (next_line m h c) (more_at c shapes.Noun k) ≡ true
unfolding good_tail
tail_sits m h c k g = every_at (λ k. option_sits (next_line m h c) (more_at c shapes.Noun k)) (and_r (every (λ k. implies (tail_first c k) (not (follow h k)))) _ (and_r (every (λ k. implies (tail_first c k || follow h k) (follow (Some m) k))) _ (and_r (implies (leaves (Some m)) (leaves h)) _ g))) k

-- an assignment sits in a line whatever its shape
assigned_sits : (h : Option Line) (l : Line) (s : Shape) (q : Place) → assigned l s ≡ Some q → option_sits h (assigned l shapes.Noun) ≡ true → option_sits h (Some q) ≡ true
assigned_sits h l shapes.Noun q e g = subst (λ (o : Option Place). option_sits h o ≡ true) e g
assigned_sits h l shapes.Index q e g = subst (λ (o : Option Place). option_sits h o ≡ true) e g
assigned_sits h l _ q e g = cc

changed_sits : (h : Option Line) (l : Line) (s : Shape) (q : Place) → changed l s ≡ Some q → option_sits h (changed l shapes.Noun) ≡ true → option_sits h (Some q) ≡ true
changed_sits h l shapes.Noun q e g = subst (λ (o : Option Place). option_sits h o ≡ true) e g
changed_sits h l _ q e g = cc

becomes_sits : (h : Option Line) (l : Line) (s : Shape) (k : TokenKind) (q : Place) → becomes l s k ≡ Some q → option_sits h (becomes l shapes.Noun k) ≡ true → option_sits h (Some q) ≡ true
becomes_sits h l s kinds.Assign q e g = assigned_sits h l s q e g
becomes_sits h l s kinds.AddAssign q e g = changed_sits h l s q e g
becomes_sits h l s kinds.SubtractAssign q e g = changed_sits h l s q e g
becomes_sits h l s kinds.MultiplyAssign q e g = changed_sits h l s q e g
becomes_sits h l s kinds.FloorDivideAssign q e g = changed_sits h l s q e g
becomes_sits h l s kinds.RemainderAssign q e g = changed_sits h l s q e g
becomes_sits h l s kinds.ModAssign q e g = changed_sits h l s q e g
becomes_sits h l s kinds.PowAssign q e g = changed_sits h l s q e g
becomes_sits h l s kinds.AndAssign q e g = changed_sits h l s q e g
becomes_sits h l s kinds.OrAssign q e g = changed_sits h l s q e g
becomes_sits h l s kinds.XorAssign q e g = changed_sits h l s q e g
becomes_sits h l s _ q e g = cc

more_sits : (h : Option Line) (c : Tail) (s : Shape) (k : TokenKind) (q : Place) → more_at c s k ≡ Some q → option_sits h (more_at c shapes.Noun k) ≡ true → option_sits h (Some q) ≡ true
more_sits h tails.Becomes s k q e g = becomes_sits h lines.Expr s k q e g
more_sits h tails.BecomesBeforeBlock s k q e g = becomes_sits h lines.ExprBeforeBlock s k q e g
more_sits h tails.Ors s kinds.LogicalOr q e g = subst (λ (o : Option Place). option_sits h o ≡ true) e g
more_sits h tails.Ors s _ q e g = cc
more_sits h tails.Ands s kinds.LogicalAnd q e g = subst (λ (o : Option Place). option_sits h o ≡ true) e g
more_sits h tails.Ands s _ q e g = cc
more_sits h tails.Equality s kinds.Same q e g = subst (λ (o : Option Place). option_sits h o ≡ true) e g
more_sits h tails.Equality s kinds.NotSame q e g = subst (λ (o : Option Place). option_sits h o ≡ true) e g
more_sits h tails.Equality s kinds.Matches q e g = subst (λ (o : Option Place). option_sits h o ≡ true) e g
more_sits h tails.Equality s _ q e g = cc
more_sits h tails.Bits s kinds.And q e g = subst (λ (o : Option Place). option_sits h o ≡ true) e g
more_sits h tails.Bits s kinds.Or q e g = subst (λ (o : Option Place). option_sits h o ≡ true) e g
more_sits h tails.Bits s kinds.Xor q e g = subst (λ (o : Option Place). option_sits h o ≡ true) e g
more_sits h tails.Bits s _ q e g = cc
more_sits h tails.Relation s kinds.Less q e g = subst (λ (o : Option Place). option_sits h o ≡ true) e g
more_sits h tails.Relation s kinds.AtMost q e g = subst (λ (o : Option Place). option_sits h o ≡ true) e g
more_sits h tails.Relation s kinds.AsBigAs q e g = subst (λ (o : Option Place). option_sits h o ≡ true) e g
more_sits h tails.Relation s kinds.AtLeast q e g = subst (λ (o : Option Place). option_sits h o ≡ true) e g
more_sits h tails.Relation s kinds.Greater q e g = subst (λ (o : Option Place). option_sits h o ≡ true) e g
more_sits h tails.Relation s _ q e g = cc
more_sits h tails.Range s kinds.Through q e g = subst (λ (o : Option Place). option_sits h o ≡ true) e g
more_sits h tails.Range s kinds.Till q e g = subst (λ (o : Option Place). option_sits h o ≡ true) e g
more_sits h tails.Range s _ q e g = cc
more_sits h tails.Sums s kinds.Plus q e g = subst (λ (o : Option Place). option_sits h o ≡ true) e g
more_sits h tails.Sums s kinds.Minus q e g = subst (λ (o : Option Place). option_sits h o ≡ true) e g
more_sits h tails.Sums s _ q e g = cc
more_sits h tails.Products s kinds.Times q e g = subst (λ (o : Option Place). option_sits h o ≡ true) e g
more_sits h tails.Products s kinds.FloorDivide q e g = subst (λ (o : Option Place). option_sits h o ≡ true) e g
more_sits h tails.Products s kinds.Remainder q e g = subst (λ (o : Option Place). option_sits h o ≡ true) e g
more_sits h tails.Products s kinds.Mod q e g = subst (λ (o : Option Place). option_sits h o ≡ true) e g
more_sits h tails.Products s _ q e g = cc
more_sits h tails.Power s kinds.Pow q e g = subst (λ (o : Option Place). option_sits h o ≡ true) e g
more_sits h tails.Power s _ q e g = cc
more_sits h tails.Suffixes s kinds.OpenParen q e g = subst (λ (o : Option Place). option_sits h o ≡ true) e g
more_sits h tails.Suffixes s kinds.OpenBracket q e g = subst (λ (o : Option Place). option_sits h o ≡ true) e g
more_sits h tails.Suffixes s kinds.Dot q e g = subst (λ (o : Option Place). option_sits h o ≡ true) e g
more_sits h tails.Suffixes s kinds.Send q e g = subst (λ (o : Option Place). option_sits h o ≡ true) e g
more_sits h tails.Suffixes s _ q e g = cc
more_sits h tails.Nothing s _ q e g = cc

-- the place of one more part
pub tail_place : (m : Line) (h : Option Line) (c : Tail) (s : Shape) (k : TokenKind) (q : Place) → good_tail (Some m) h c ≡ true → more_at c s k ≡ Some q → option_sits (next_line m h c) (Some q) ≡ true
tail_place m h c s k q g e = more_sits (next_line m h c) c s k q e (tail_sits m h c k g)

stays_complete : (m : Line) (h : Option Line) (c : Tail) (v : Tree) (o : Option Place) (t : Word) (ts : List Word) → more_at c (shape_of v) t.kind ≡ o → good_tail (Some m) h c ≡ true → follow h t.kind ≡ true → Means (tail_step o c v t) t ts v (t ∷ ts)
stays_complete m h c v None t ts e g f = (refl, refl)
stays_complete m h c v (Some q) t ts e g f = absurd (tail_apart m h c t.kind g (more_first c (shape_of v) t.kind q e) f)

tail_complete : (m : Line) (h : Option Line) {c : Tail} {v : Tree} {t : Word} {ts rest : List Word} {w : Tree} → good_tail (Some m) h c ≡ true → Spells (tail c v) (t ∷ ts) w rest → (rest ≡ (t ∷ ts) → follow h t.kind ≡ true) → Means (tail_step (more_at c (shape_of v) t.kind) c v t) t ts w rest
tail_complete m h {c = c} {v = v} {t = t} {ts = ts} g stays k = stays_complete m h c v (more_at c (shape_of v) t.kind) t ts refl g (k refl)
tail_complete m h {t = t} {ts = ts} {rest = rest} {w = w} g (goes {c = c} {q = q} {v = v} {u = u} {mid = mid} e d tl) k = subst (λ (o : Option Place). Means (tail_step o c v t) t ts w rest) (sym e) (u, mid, d, (w, rest, tl, (refl, refl)))

-- a node of a place may stand in a line
abbrev pub Sits : Option Line → Place → Type 0
Sits h q = ((k : TokenKind) → follow h k ≡ true → follow_level (level q) k ≡ true) × (leaving q ≡ true → leaves h ≡ true)

-- behind a tree of a line its node, which stands in another line, goes on at a place
abbrev pub Joins : Option Line → Place → Option Line → Type 0
Joins None q h = ⊥
Joins (Some m) q h = ((k : TokenKind) → comes q (follow h) k ≡ true → follow (Some m) k ≡ true) × (leaves (Some m) ≡ true → stop_first (leaves h) (low_first q) ≡ true)

abbrev pub Tailed : Option Line → Option Line → Tail → Type 0
Tailed None h c = ⊥
Tailed (Some m) None c = ⊥
Tailed (Some m) (Some l) c = good_tail (Some m) (Some l) c ≡ true

-- The frames are those of nodes of some lines, round a tree of this line.
abbrev pub Fits : Option Line → List Frame → Type 0
Fits m [] = m ≡ None
Fits m (within q f fs ∷ frs) = (h : Option Line) × Joins m q h × Sits h q × Fits h frs
Fits m (after c ∷ frs) = (h : Option Line) × Tailed m h c × Fits h frs

abbrev pub Valid : State → Type 0
Valid (at q f fs frs) = (h : Option Line) × Sits h q × Fits h frs

pub sits_at : (h : Option Line) (q : Place) → option_sits h (Some q) ≡ true → Sits h q
sits_at h q g =
    let s : sits h q ≡ true = and_l _ _ g in
    (λ k f. use_implies _ _ (every_at (λ k. implies (follow h k) (follow_level (level q) k)) (and_l _ _ s) k) f, λ l. use_implies (leaving q) (leaves h) (and_r (every (λ k. implies (follow h k) (follow_level (level q) k))) _ s) l)

joins_follow : (m : Option Line) (q : Place) (h : Option Line) → Joins m q h → (k : TokenKind) → comes q (follow h) k ≡ true → follow m k ≡ true
joins_follow None q h j k c = absurd j
joins_follow (Some m) q h j k c = j.0 k c

tailed_follow : (m h : Option Line) (c : Tail) → Tailed m h c → (k : TokenKind) → (tail_first c k || follow h k) ≡ true → follow m k ≡ true
tailed_follow None h c g k x = absurd g
tailed_follow (Some m) None c g k x = absurd g
tailed_follow (Some m) (Some l) c g k x = tail_follow m (Some l) c k g x

tailed_complete : (m h : Option Line) {c : Tail} {v : Tree} {t : Word} {ts rest : List Word} {w : Tree} → Tailed m h c → Spells (tail c v) (t ∷ ts) w rest → (rest ≡ (t ∷ ts) → follow h t.kind ≡ true) → Means (tail_step (more_at c (shape_of v) t.kind) c v t) t ts w rest
tailed_complete None h g s k = absurd g
tailed_complete (Some m) None g s k = absurd g
tailed_complete (Some m) (Some l) g s k = tail_complete m (Some l) g s k

-- what stands where a node goes on is what may come there
comes_at : (q : Place) (f : TokenKind → Bool) (t : Word) (ts rest : List Word) → (accepted (moves q) t.kind ≡ true) ⊎ ((may_end_at (ending q) t.kind ≡ true) × (rest ≡ (t ∷ ts))) → (rest ≡ (t ∷ ts) → f t.kind ≡ true) → comes q f t.kind ≡ true
comes_at q f t ts rest (inl h) k = or_l (accepted (moves q) t.kind) _ h
comes_at q f t ts rest (inr h) k = or_r (accepted (moves q) t.kind) _ (and_both (may_end_at (ending q) t.kind) (f t.kind) h.0 (k h.1))

-- the token behind a tree of a line is one that may follow it
after_follow : (frs : List Frame) (m : Option Line) → Fits m frs → (v : Tree) (t : Word) (ts : List Word) (w : Tree) → Through frs v (t ∷ ts) w [] → follow m t.kind ≡ true
after_follow [] m h v t ts w th = absurd (cc th.1)
after_follow (within q f fs ∷ frs) m h v t ts w th =
    joins_follow m q h.0 h.1 t.kind (comes_at q (follow h.0) t ts th.1 (starts th.2) (λ e. after_follow frs h.0 h.3 th.0 t ts w (subst (λ (x : List Word). Through frs th.0 x w []) e th.3)))
after_follow (after c ∷ frs) m h v t ts w th =
    let first_or : (tail_first c t.kind || follow h.0 t.kind) ≡ true = elim (starts th.2) [
      | inl a ↦ or_l (tail_first c t.kind) (follow h.0 t.kind) a
      | inr a ↦ or_r (tail_first c t.kind) (follow h.0 t.kind) (after_follow frs h.0 h.2 th.0 t ts w (subst (λ (x : List Word). Through frs th.0 x w []) a.1 th.3))
    ] in
    tailed_follow m h.0 c h.1 t.kind first_or

-- a step of the machine is there, and the rest completes it
abbrev pub Goes : Option State → List Word → Tree → Type 0
Goes None ts w = ⊥
Goes (Some s) ts w = Completes s ts w

settle_complete : (o : Outcome) (frs : List Frame) (on : Tree → Option State) (t : Word) (ts : List Word) (u : Tree) (mid : List Word) (w : Tree) → Means o t ts u mid → Through frs u mid w [] → (Through frs u (t ∷ ts) w [] → Goes (on u) ts w) → Goes (settle o frs on) ts w
settle_complete (moved q f fs pushed) frs on t ts u mid w h th k = (h.0, h.1, h.2, through_both pushed frs h.0 h.1 u mid w [] h.3 th)
settle_complete (ended x) frs on t ts u mid w h th k = subst (λ (y : Tree). Goes (on y) ts w) (sym h.0) (k (subst (λ (m : List Word). Through frs u m w []) (sym h.1) th))
settle_complete stuck frs on t ts u mid w h th k = absurd h

pop_complete : (frs : List Frame) (m : Option Line) → Fits m frs → (v : Tree) (t : Word) (ts : List Word) (w : Tree) → Through frs v (t ∷ ts) w [] → Goes (pop frs v t) ts w
unfolding pop
pop_complete [] m h v t ts w th = absurd (cc th.1)
pop_complete (within q f fs ∷ frs) m h v t ts w th =
    settle_complete (step_frame (within q f fs) v t) frs (λ u. pop frs u t) t ts th.0 th.1 w
    (in_complete th.2 (λ e. h.2.0 t.kind (after_follow frs h.0 h.3 th.0 t ts w (subst (λ (x : List Word). Through frs th.0 x w []) e th.3))))
    th.3 (λ k. pop_complete frs h.0 h.3 th.0 t ts w k)
pop_complete (after c ∷ frs) m h v t ts w th =
    settle_complete (step_frame (after c) v t) frs (λ u. pop frs u t) t ts th.0 th.1 w
    (tailed_complete m h.0 h.1 th.2 (λ e. after_follow frs h.0 h.2 th.0 t ts w (subst (λ (x : List Word). Through frs th.0 x w []) e th.3)))
    th.3 (λ k. pop_complete frs h.0 h.2 th.0 t ts w k)

pub step_complete : (s : State) → Valid s → (t : Word) (ts : List Word) (w : Tree) → Completes s (t ∷ ts) w → Goes (step s t) ts w
unfolding step
step_complete (at q f fs frs) h t ts w c =
    settle_complete (step_in q f fs t) frs (λ u. pop frs u t) t ts c.0 c.1 w
    (in_complete c.2 (λ e. h.1.0 t.kind (after_follow frs h.0 h.2 c.0 t ts w (subst (λ (x : List Word). Through frs c.0 x w []) e c.3))))
    c.3 (λ k. pop_complete frs h.0 h.2 c.0 t ts w k)
