-- The plain lines spell what the lines spell.
use Rattle.std.proofs.Common.{◌≡◌, zero, suc, List, [], ◌∷◌, Option, Some, None, Bool, true, false, ◌&&◌, ◌||◌, refl, sym, ◌∙◌, subst, ap, ◌⊎◌, inl, inr}
use Rattle.def_syntax.specs.declared.token.TokenKind.{TokenKind}
use Rattle.def_syntax.specs.declared.token.TokenKind.TheVariants as kinds
use Rattle.def_syntax.specs.declared.syntax.Word.{Word}
use Rattle.def_syntax.specs.declared.syntax.Shape.{Shape}
use Rattle.def_syntax.specs.declared.syntax.Shape.TheVariants as shapes
use Rattle.def_syntax.specs.declared.syntax.Line.{Line}
use Rattle.def_syntax.specs.declared.syntax.Line.TheVariants as lines
use Rattle.def_syntax.specs.declared.syntax.Tail.{Tail}
use Rattle.def_syntax.specs.declared.syntax.Tail.TheVariants as tails
use Rattle.def_syntax.specs.Grammar.{Tree, Trees, node, none, more, tower_of, shape_of, word_of, again, begun, IsStop}
use Rattle.def_syntax.specs.Grammar.{Tree, Trees, node, none, more, tower_of, shape_of, word_of, again, begun, is_stop, IsStop}
use Rattle.law_reading.specs.Grammar.Lines.{Rule, ends, stops, token, tree, wraps, either, upto, several, catches, exprs, exprs_more, members, Opens, left, right, upto_on, upto_end, several_on, several_end, catches_on, catches_end, exprs_semicolon, exprs_line_end, exprs_on, exprs_end, more_semicolon, more_line_end, more_end, members_semicolon, members_line_end, members_on, members_end, rule_at, more_rule, assigned_rule, changed_rule, becomes_rule, def_rule, var_rule, Aim, line, tail, rest, Reads}
use Rattle.law_reading.specs.Grammar.Lines as lined
use Rattle.law_reading.specs.Grammar.Plain.{plain_line, plain, plain_of, plain_at, plain_tower, plain_more, Plain, PlainIsPlaces}
use Rattle.law_reading.specs.Grammar.Plain as plained
use Rattle.law_reading.proofs.Grammar.Meanings.{lines_are_places}

abbrev plain_tail : Tail → Tail
plain_tail tails.BecomesBeforeBlock = tails.Becomes
plain_tail c = c

abbrev plain_aim : Aim → Aim
plain_aim (line l) = line (plain_line l)
plain_aim (tail c v) = tail (plain_tail c) v
plain_aim (rest p f fs) = rest (plain p) f fs

plain_opens : {p q : Rule} → Opens p q → Opens (plain p) (plain q)
plain_opens left = left
plain_opens right = right
plain_opens upto_on = upto_on
plain_opens upto_end = upto_end
plain_opens several_on = several_on
plain_opens several_end = several_end
plain_opens catches_on = catches_on
plain_opens catches_end = catches_end
plain_opens exprs_semicolon = exprs_semicolon
plain_opens exprs_line_end = exprs_line_end
plain_opens exprs_on = exprs_on
plain_opens exprs_end = exprs_end
plain_opens more_semicolon = more_semicolon
plain_opens more_line_end = more_line_end
plain_opens more_end = more_end
plain_opens members_semicolon = members_semicolon
plain_opens members_line_end = members_line_end
plain_opens members_on = members_on
plain_opens members_end = members_end

-- what the rule of a form becomes
abbrev FormTo : Rule → Option Rule → Type 0
FormTo p o = (q : Rule) × (o ≡ Some q) × ((f : Word) (fs : Trees) (ts : List Word) (w : Tree) (us : List Word) → Plain (rest (plain p) f fs) ts w us → Plain (rest q f fs) ts w us)

form_same : (p : Rule) (o : Option Rule) → o ≡ Some p → FormTo p (plain_of o)
form_same p o e = (plain p, ap plain_of e, λ f fs ts w us d. d)

form_left : (p a : Rule) (o : Option Rule) → Some a ≡ Some p → o ≡ Some (either (plain a) (stops shapes.Leave)) → FormTo p o
form_left p a o e d = let k : a ≡ p = cc in (either (plain a) (stops shapes.Leave), d, λ f fs ts w us x. plained.opens left (subst (λ (y : Rule). Plain (rest (plain y) f fs) ts w us) (sym k) x))

form_def : (p a : Rule) (o : Option Rule) → Some a ≡ Some p → o ≡ Some (plain a) → FormTo p o
form_def p a o e d = let k : a ≡ p = cc in (plain a, d, λ f fs ts w us x. subst (λ (y : Rule). Plain (rest (plain y) f fs) ts w us) (sym k) x)

before_to : (k : TokenKind) (p : Rule) → rule_at lines.ExprBeforeBlock k ≡ Some p → FormTo p (plain_at lines.Expr k)
before_to kinds.Return p e = form_left p (tree lines.ExprBeforeBlock (ends shapes.Leave)) _ e refl
before_to kinds.Break p e = form_left p (tree lines.ExprBeforeBlock (ends shapes.Leave)) _ e refl
before_to kinds.Continue p e = form_left p (tree lines.ExprBeforeBlock (ends shapes.Leave)) _ e refl
before_to kinds.Def p e = form_def p (def_rule lines.ExprBeforeBlock) _ e refl
before_to kinds.Var p e = form_def p (var_rule lines.ExprBeforeBlock) _ e refl
before_to _ p e = cc

form_to : (l : Line) (k : TokenKind) (p : Rule) → rule_at l k ≡ Some p → FormTo p (plain_at (plain_line l) k)
form_to lines.ExprBeforeBlock k p e = before_to k p e
form_to lines.Expr k p e = form_same p (rule_at lines.Expr k) e
form_to lines.Or k p e = form_same p (rule_at lines.Or k) e
form_to lines.And k p e = form_same p (rule_at lines.And k) e
form_to lines.Equality k p e = form_same p (rule_at lines.Equality k) e
form_to lines.Bits k p e = form_same p (rule_at lines.Bits k) e
form_to lines.Relation k p e = form_same p (rule_at lines.Relation k) e
form_to lines.Range k p e = form_same p (rule_at lines.Range k) e
form_to lines.Sum k p e = form_same p (rule_at lines.Sum k) e
form_to lines.Product k p e = form_same p (rule_at lines.Product k) e
form_to lines.Power k p e = form_same p (rule_at lines.Power k) e
form_to lines.Prefix k p e = form_same p (rule_at lines.Prefix k) e
form_to lines.Postfix k p e = form_same p (rule_at lines.Postfix k) e
form_to lines.Prim k p e = form_same p (rule_at lines.Prim k) e
form_to lines.Block k p e = form_same p (rule_at lines.Block k) e
form_to lines.Branch k p e = form_same p (rule_at lines.Branch k) e
form_to lines.Pattern k p e = form_same p (rule_at lines.Pattern k) e
form_to lines.OtherPattern k p e = form_same p (rule_at lines.OtherPattern k) e
form_to lines.Guard k p e = form_same p (rule_at lines.Guard k) e
form_to lines.Member k p e = form_same p (rule_at lines.Member k) e

abbrev plain_pair : Option (Line × Tail) → Option (Line × Tail)
plain_pair None = None
plain_pair (Some x) = Some (plain_line x.0, plain_tail x.1)

tower_plain : (l : Line) → plain_tower (plain_line l) ≡ plain_pair (tower_of l)
tower_plain lines.Expr = refl
tower_plain other = refl

assigned_plain : (s : Shape) → plain_of (assigned_rule lines.Expr s) ≡ plain_of (assigned_rule lines.ExprBeforeBlock s)
assigned_plain shapes.Noun = refl
assigned_plain shapes.Index = refl
assigned_plain _ = refl

changed_plain : (s : Shape) → plain_of (changed_rule lines.Expr s) ≡ plain_of (changed_rule lines.ExprBeforeBlock s)
changed_plain shapes.Noun = refl
changed_plain _ = refl

becomes_plain : (s : Shape) (k : TokenKind) → plain_of (becomes_rule lines.Expr s k) ≡ plain_of (becomes_rule lines.ExprBeforeBlock s k)
becomes_plain s kinds.Assign = assigned_plain s
becomes_plain s kinds.AddAssign = changed_plain s
becomes_plain s kinds.SubtractAssign = changed_plain s
becomes_plain s kinds.MultiplyAssign = changed_plain s
becomes_plain s kinds.FloorDivideAssign = changed_plain s
becomes_plain s kinds.RemainderAssign = changed_plain s
becomes_plain s kinds.ModAssign = changed_plain s
becomes_plain s kinds.PowAssign = changed_plain s
becomes_plain s kinds.AndAssign = changed_plain s
becomes_plain s kinds.OrAssign = changed_plain s
becomes_plain s kinds.XorAssign = changed_plain s
becomes_plain s _ = refl

more_plain : (c : Tail) (s : Shape) (k : TokenKind) → plain_more (plain_tail c) s k ≡ plain_of (more_rule c s k)
more_plain tails.BecomesBeforeBlock s k = becomes_plain s k
more_plain other s k = refl

again_plain : (c : Tail) → plain_tail (again c) ≡ again (plain_tail c)
again_plain tails.Becomes = refl
again_plain other = refl

begun_plain : (c : Tail) (v : Tree) (t : Word) → begun c v t ≡ begun (plain_tail c) v t
begun_plain tails.Becomes v t = refl
begun_plain other v t = refl

-- what the lines spell, the plain lines spell
to_plain : {g : Aim} {ts us : List Word} {w : Tree} → Reads g ts w us → Plain (plain_aim g) ts w us
to_plain {us = us} {w = w} (lined.form {l = l} {t = t} {p = p} {ts = ts} e d) =
    let x = form_to l t.kind p e in
    plained.form x.1 (x.2 t none ts w us (to_plain d))
to_plain (lined.tower {l = l} e d tl) = plained.tower (tower_plain l ∙ ap plain_pair e) (to_plain d) (to_plain tl)
to_plain lined.stays = plained.stays
to_plain {us = us} {w = w} (lined.goes {c = c} {t = t} {p = p} {v = v} {u = u} {ts = ts} {mid = mid} e d tl) =
    plained.goes (more_plain c (shape_of v) t.kind ∙ ap plain_of e)
    (subst (λ (x : Trees). Plain (rest (plain p) (word_of v) x) ts u mid) (begun_plain c v t) (to_plain d))
    (subst (λ (x : Tail). Plain (tail x u) mid w us) (again_plain c) (to_plain tl))
to_plain lined.at_end = plained.at_end
to_plain (lined.at_stop i) = plained.at_stop i
to_plain (lined.takes e d) = plained.takes e (to_plain d)
to_plain (lined.reads d n) = plained.reads (to_plain d) (to_plain n)
to_plain (lined.groups e d) = plained.groups e (to_plain d)
to_plain (lined.opens o d) = plained.opens (plain_opens o) (to_plain d)

-- a block comes
abbrev Brace : List Word → Type 0
Brace [] = ⊥
Brace (t ∷ ts) = t.kind ≡ kinds.OpenBrace

abbrev not_b : Bool → Bool
not_b true = false
not_b false = true

abbrev is_before : Line → Bool
is_before lines.ExprBeforeBlock = true
is_before _ = false

abbrev is_end : Rule → Bool
is_end (ends s) = true
is_end _ = false

abbrev is_block : Line → Bool
is_block lines.Block = true
is_block _ = false

-- what may stand behind an expression before a block: a block, or the end of the node
abbrev before_ok : Rule → Bool
before_ok (ends s) = true
before_ok (tree l p) = is_block l
before_ok _ = false

abbrev safe : Rule → Bool
safe (ends s) = true
safe (stops s) = true
safe (token k p) = safe p
safe (tree l p) = (not_b (is_before l) || before_ok p) && safe p
safe (wraps k s p) = safe p
safe (either p q) = safe p && safe q
safe (upto n l p) = not_b (is_before l) && safe p
safe (several l p) = not_b (is_before l) && safe p
safe (catches p) = safe p
safe (exprs p) = safe p
safe (exprs_more p) = safe p
safe (members p) = safe p

-- an expression before a block is the last part
abbrev edged : Rule → Bool
edged (ends s) = false
edged (stops s) = false
edged (token k p) = edged p
edged (tree l p) = (is_before l && is_end p) || edged p
edged (wraps k s p) = edged p
edged (either p q) = edged p || edged q
edged (upto n l p) = edged p
edged (several l p) = edged p
edged (catches p) = edged p
edged (exprs p) = edged p
edged (exprs_more p) = edged p
edged (members p) = edged p

and_l : (a b : Bool) → (a && b) ≡ true → a ≡ true
and_l true b h = refl
and_l false b h = h

and_r : (a b : Bool) → (a && b) ≡ true → b ≡ true
and_r true b h = h
and_r false b h = cc

or_l : (a b : Bool) → a ≡ true → (a || b) ≡ true
or_l true b h = refl
or_l false b h = cc

or_r : (a b : Bool) → b ≡ true → (a || b) ≡ true
or_r true b h = refl
or_r false b h = h

twice : (x y : Bool) → (x && y) ≡ true → ((x || false) && (x && y)) ≡ true
twice true y h = h
twice false y h = cc

only : (b y : Bool) → ((b && false) || y) ≡ true → y ≡ true
only true y h = h
only false y h = h

-- a side of a plain rule is that of the rule
abbrev Side : Rule → Rule → Type 0
Side p q' = (q : Rule) × Opens p q × (plain q ≡ q') × (safe p ≡ true → safe q ≡ true) × (edged q ≡ true → edged p ≡ true)

side : (p q' : Rule) → Opens (plain p) q' → Side p q'
side (ends s) q' o = elim o [ ]
side (stops s) q' o = elim o [ ]
side (token k p) q' o = elim o [ ]
side (tree l p) q' o = elim o [ ]
side (wraps k s p) q' o = elim o [ ]
side (either p q) q' left = (p, left, refl, λ h. and_l (safe p) (safe q) h, λ h. or_l (edged p) (edged q) h)
side (either p q) q' right = (q, right, refl, λ h. and_r (safe p) (safe q) h, λ h. or_r (edged p) (edged q) h)
side (upto zero l p) q' upto_end = (p, upto_end, refl, λ h. and_r (not_b (is_before l)) (safe p) h, λ h. h)
side (upto (suc n) l p) q' upto_on = (token kinds.Comma (tree l (upto n l p)), upto_on, refl, λ h. twice (not_b (is_before l)) (safe p) h, λ h. only (is_before l) (edged p) h)
side (upto (suc n) l p) q' upto_end = (p, upto_end, refl, λ h. and_r (not_b (is_before l)) (safe p) h, λ h. h)
side (several l p) q' several_on = (token kinds.Comma (tree l (several l p)), several_on, refl, λ h. twice (not_b (is_before l)) (safe p) h, λ h. only (is_before l) (edged p) h)
side (several l p) q' several_end = (p, several_end, refl, λ h. and_r (not_b (is_before l)) (safe p) h, λ h. h)
side (catches p) q' catches_on = (token kinds.Catch (tree lines.Pattern (tree lines.Block (catches p))), catches_on, refl, λ h. h, λ h. h)
side (catches p) q' catches_end = (p, catches_end, refl, λ h. h, λ h. h)
side (exprs p) q' exprs_semicolon = (token kinds.Semicolon (exprs p), exprs_semicolon, refl, λ h. h, λ h. h)
side (exprs p) q' exprs_line_end = (token kinds.LineEnd (exprs p), exprs_line_end, refl, λ h. h, λ h. h)
side (exprs p) q' exprs_on = (tree lines.Expr (exprs_more p), exprs_on, refl, λ h. h, λ h. h)
side (exprs p) q' exprs_end = (p, exprs_end, refl, λ h. h, λ h. h)
side (exprs_more p) q' more_semicolon = (token kinds.Semicolon (exprs p), more_semicolon, refl, λ h. h, λ h. h)
side (exprs_more p) q' more_line_end = (token kinds.LineEnd (exprs p), more_line_end, refl, λ h. h, λ h. h)
side (exprs_more p) q' more_end = (p, more_end, refl, λ h. h, λ h. h)
side (members p) q' members_semicolon = (token kinds.Semicolon (members p), members_semicolon, refl, λ h. h, λ h. h)
side (members p) q' members_line_end = (token kinds.LineEnd (members p), members_line_end, refl, λ h. h, λ h. h)
side (members p) q' members_on = (tree lines.Member (members p), members_on, refl, λ h. h, λ h. h)
side (members p) q' members_end = (p, members_end, refl, λ h. h, λ h. h)

ends_back : (p : Rule) (s : Shape) → plain p ≡ ends s → p ≡ ends s
ends_back (ends x) s e = e
ends_back _ s e = cc

stops_back : (p : Rule) (s : Shape) → plain p ≡ stops s → p ≡ stops s
stops_back (stops x) s e = e
stops_back _ s e = cc

token_back : (p : Rule) (k : TokenKind) (q' : Rule) → plain p ≡ token k q' → (q : Rule) × (p ≡ token k q) × (plain q ≡ q')
token_back (token j q) k q' e = (q, (let i : j ≡ k = cc in ap (λ (x : TokenKind). token x q) i), (let i : plain q ≡ q' = cc in i))
token_back _ k q' e = cc

tree_back : (p : Rule) (l' : Line) (q' : Rule) → plain p ≡ tree l' q' → (l : Line) × (q : Rule) × (p ≡ tree l q) × (plain_line l ≡ l') × (plain q ≡ q')
tree_back (tree l q) l' q' e = (l, q, refl, (let i : plain_line l ≡ l' = cc in i), (let i : plain q ≡ q' = cc in i))
tree_back _ l' q' e = cc

wraps_back : (p : Rule) (k : TokenKind) (s : Shape) (q' : Rule) → plain p ≡ wraps k s q' → (q : Rule) × (p ≡ wraps k s q) × (plain q ≡ q')
wraps_back (wraps j x q) k s q' e = (q, (let a : j ≡ k = cc in let b : x ≡ s = cc in ap (λ (y : TokenKind). wraps y x q) a ∙ ap (λ (y : Shape). wraps k y q) b), (let i : plain q ≡ q' = cc in i))
wraps_back _ k s q' e = cc

abbrev simple : Rule → Bool
simple (ends s) = true
simple (tree l p) = true
simple _ = false

no_side : {p q : Rule} → Opens p q → simple p ≡ true → ⊥
no_side left e = cc
no_side right e = cc
no_side upto_on e = cc
no_side upto_end e = cc
no_side several_on e = cc
no_side several_end e = cc
no_side catches_on e = cc
no_side catches_end e = cc
no_side exprs_semicolon e = cc
no_side exprs_line_end e = cc
no_side exprs_on e = cc
no_side exprs_end e = cc
no_side more_semicolon e = cc
no_side more_line_end e = cc
no_side more_end e = cc
no_side members_semicolon e = cc
no_side members_line_end e = cc
no_side members_on e = cc
no_side members_end e = cc

ended_there : {g : Aim} {ts us : List Word} {w : Tree} → Plain g ts w us → (s : Shape) (f : Word) (fs : Trees) → g ≡ rest (ends s) f fs → us ≡ ts
ended_there plained.at_end s f fs g = refl
ended_there (plained.opens {p = p} o d) s f fs g = let i : p ≡ ends s = cc in absurd (no_side o (ap simple i))
ended_there other s f fs g = cc

block_kind : (k : TokenKind) (p : Rule) → plain_at lines.Block k ≡ Some p → k ≡ kinds.OpenBrace
block_kind kinds.OpenBrace p e = refl
block_kind _ p e = cc

block_first : {g : Aim} {ts us : List Word} {w : Tree} → Plain g ts w us → g ≡ line lines.Block → Brace ts
block_first (plained.form {l = l} {t = t} {p = p} e d) g = let i : l ≡ lines.Block = cc in block_kind t.kind p (ap (λ (x : Line). plain_at x t.kind) (sym i) ∙ e)
block_first (plained.tower {l = l} {m = m} {c = c} e d tl) g = let i : l ≡ lines.Block = cc in let j : None ≡ Some (m, c) = ap plain_tower (sym i) ∙ e in cc
block_first other g = cc

block_next : {g : Aim} {ts us : List Word} {w : Tree} → Plain g ts w us → (q : Rule) (f : Word) (fs : Trees) → g ≡ rest (tree lines.Block q) f fs → Brace ts
block_next (plained.reads {l = l} d n) q f fs g = let i : l ≡ lines.Block = cc in block_first d (ap line i)
block_next (plained.opens {p = p} o d) q f fs g = let i : p ≡ tree lines.Block q = cc in absurd (no_side o (ap simple i))
block_next other q f fs g = cc

-- behind an expression before a block a block comes
brace_behind : (q : Rule) (f : Word) (fs : Trees) (mid : List Word) (w : Tree) (us : List Word) → Plain (rest (plain q) f fs) mid w us → before_ok q ≡ true → (is_end q ≡ true → Brace us) → Brace mid
brace_behind (ends s) f fs mid w us d b h = subst Brace (ended_there d s f fs refl) (h refl)
brace_behind (tree lines.Block p) f fs mid w us d b h = block_next d (plain p) f fs refl
brace_behind (tree _ p) f fs mid w us d b h = cc
brace_behind _ f fs mid w us d b h = cc

abbrev Back : Aim → List Word → Tree → List Word → Type 0
Back (line l) ts w us = Reads (line l) ts w us × (Brace us → l ≡ lines.Expr → Reads (line lines.ExprBeforeBlock) ts w us)
Back (tail c v) ts w us = Reads (tail c v) ts w us × (Brace us → c ≡ tails.Becomes → Reads (tail tails.BecomesBeforeBlock v) ts w us)
Back (rest p' f fs) ts w us = (p : Rule) → plain p ≡ p' → safe p ≡ true → (edged p ≡ true → Brace us) → Reads (rest p f fs) ts w us

line_back : (l l' : Line) (ts : List Word) (v : Tree) (mid : List Word) → plain_line l ≡ l' → Back (line l') ts v mid → (is_before l ≡ true → Brace mid) → Reads (line l) ts v mid
line_back lines.ExprBeforeBlock l' ts v mid e b h = b.1 (h refl) (sym e)
line_back other l' ts v mid e b h = subst (λ (x : Line). Reads (line x) ts v mid) (sym e) b.0

abbrev option_safe : Option Rule → Bool
option_safe None = true
option_safe (Some p) = safe p && not_b (edged p)

forms_safe : (l : Line) (k : TokenKind) → is_before l ≡ false → option_safe (rule_at l k) ≡ true
forms_safe lines.ExprBeforeBlock k b = cc
forms_safe lines.Expr kinds.Return b = refl
forms_safe lines.Expr kinds.Break b = refl
forms_safe lines.Expr kinds.Continue b = refl
forms_safe lines.Expr kinds.Def b = refl
forms_safe lines.Expr kinds.Var b = refl
forms_safe lines.Prefix kinds.Minus b = refl
forms_safe lines.Prefix kinds.Not b = refl
forms_safe lines.Prim kinds.Number b = refl
forms_safe lines.Prim kinds.Text b = refl
forms_safe lines.Prim kinds.Character b = refl
forms_safe lines.Prim kinds.Identifier b = refl
forms_safe lines.Prim kinds.OpenBracket b = refl
forms_safe lines.Prim kinds.OpenParen b = refl
forms_safe lines.Prim kinds.OpenBrace b = refl
forms_safe lines.Prim kinds.If b = refl
forms_safe lines.Prim kinds.While b = refl
forms_safe lines.Prim kinds.For b = refl
forms_safe lines.Prim kinds.Escape b = refl
forms_safe lines.Prim kinds.Try b = refl
forms_safe lines.Prim kinds.When b = refl
forms_safe lines.Prim kinds.Fn b = refl
forms_safe lines.Block kinds.OpenBrace b = refl
forms_safe lines.Branch kinds.OpenBrace b = refl
forms_safe lines.Branch kinds.If b = refl
forms_safe lines.Pattern kinds.Ignore b = refl
forms_safe lines.Pattern kinds.Identifier b = refl
forms_safe lines.Pattern kinds.Var b = refl
forms_safe lines.Pattern kinds.OpenBracket b = refl
forms_safe lines.Pattern kinds.Via b = refl
forms_safe lines.OtherPattern kinds.Var b = refl
forms_safe lines.OtherPattern kinds.OpenBracket b = refl
forms_safe lines.OtherPattern kinds.Via b = refl
forms_safe lines.Guard kinds.Identifier b = refl
forms_safe lines.Guard kinds.OpenParen b = refl
forms_safe lines.Member kinds.To b = refl
forms_safe lines.Member kinds.Method b = refl
forms_safe lines.Member kinds.Match b = refl
forms_safe other _ b = refl

assigned_safe : (s : Shape) → option_safe (assigned_rule lines.Expr s) ≡ true
assigned_safe shapes.Noun = refl
assigned_safe shapes.Index = refl
assigned_safe _ = refl

changed_safe : (s : Shape) → option_safe (changed_rule lines.Expr s) ≡ true
changed_safe shapes.Noun = refl
changed_safe _ = refl

mores_safe : (c : Tail) (s : Shape) (k : TokenKind) → (c ≡ tails.BecomesBeforeBlock → ⊥) → option_safe (more_rule c s k) ≡ true
mores_safe tails.BecomesBeforeBlock s k n = absurd (n refl)
mores_safe tails.Becomes s kinds.Assign n = assigned_safe s
mores_safe tails.Becomes s kinds.AddAssign n = changed_safe s
mores_safe tails.Becomes s kinds.SubtractAssign n = changed_safe s
mores_safe tails.Becomes s kinds.MultiplyAssign n = changed_safe s
mores_safe tails.Becomes s kinds.FloorDivideAssign n = changed_safe s
mores_safe tails.Becomes s kinds.RemainderAssign n = changed_safe s
mores_safe tails.Becomes s kinds.ModAssign n = changed_safe s
mores_safe tails.Becomes s kinds.PowAssign n = changed_safe s
mores_safe tails.Becomes s kinds.AndAssign n = changed_safe s
mores_safe tails.Becomes s kinds.OrAssign n = changed_safe s
mores_safe tails.Becomes s kinds.XorAssign n = changed_safe s
mores_safe tails.Ors s kinds.LogicalOr n = refl
mores_safe tails.Ands s kinds.LogicalAnd n = refl
mores_safe tails.Equality s kinds.Same n = refl
mores_safe tails.Equality s kinds.NotSame n = refl
mores_safe tails.Equality s kinds.Matches n = refl
mores_safe tails.Bits s kinds.And n = refl
mores_safe tails.Bits s kinds.Or n = refl
mores_safe tails.Bits s kinds.Xor n = refl
mores_safe tails.Relation s kinds.Less n = refl
mores_safe tails.Relation s kinds.AtMost n = refl
mores_safe tails.Relation s kinds.AsBigAs n = refl
mores_safe tails.Relation s kinds.AtLeast n = refl
mores_safe tails.Relation s kinds.Greater n = refl
mores_safe tails.Range s kinds.Through n = refl
mores_safe tails.Range s kinds.Till n = refl
mores_safe tails.Sums s kinds.Plus n = refl
mores_safe tails.Sums s kinds.Minus n = refl
mores_safe tails.Products s kinds.Times n = refl
mores_safe tails.Products s kinds.FloorDivide n = refl
mores_safe tails.Products s kinds.Remainder n = refl
mores_safe tails.Products s kinds.Mod n = refl
mores_safe tails.Power s kinds.Pow n = refl
mores_safe tails.Suffixes s kinds.OpenParen n = refl
mores_safe tails.Suffixes s kinds.OpenBracket n = refl
mores_safe tails.Suffixes s kinds.Dot n = refl
mores_safe tails.Suffixes s kinds.Send n = refl
mores_safe other s _ n = refl

not_edged : (b : Bool) → not_b b ≡ true → b ≡ true → ⊥
not_edged true h e = cc
not_edged false h e = cc

-- the rule of a plain one
abbrev RuleOf : Option Rule → Rule → Type 0
RuleOf o p' = (p : Rule) × (o ≡ Some p) × (plain p ≡ p') × (safe p ≡ true) × (edged p ≡ true → ⊥)

rule_of : (o : Option Rule) (p' : Rule) → plain_of o ≡ Some p' → option_safe o ≡ true → RuleOf o p'
rule_of None p' e s = cc
rule_of (Some p) p' e s = (p, refl, (let i : plain p ≡ p' = cc in i), and_l (safe p) (not_b (edged p)) s, λ h. not_edged (edged p) (and_r (safe p) (not_b (edged p)) s) h)

form_rule : (l : Line) (k : TokenKind) (p' : Rule) → plain_at l k ≡ Some p' → RuleOf (rule_at l k) p'
form_rule lines.ExprBeforeBlock k p' e = cc
form_rule lines.Expr k p' e = rule_of (rule_at lines.Expr k) p' e (forms_safe lines.Expr k refl)
form_rule lines.Or k p' e = rule_of (rule_at lines.Or k) p' e (forms_safe lines.Or k refl)
form_rule lines.And k p' e = rule_of (rule_at lines.And k) p' e (forms_safe lines.And k refl)
form_rule lines.Equality k p' e = rule_of (rule_at lines.Equality k) p' e (forms_safe lines.Equality k refl)
form_rule lines.Bits k p' e = rule_of (rule_at lines.Bits k) p' e (forms_safe lines.Bits k refl)
form_rule lines.Relation k p' e = rule_of (rule_at lines.Relation k) p' e (forms_safe lines.Relation k refl)
form_rule lines.Range k p' e = rule_of (rule_at lines.Range k) p' e (forms_safe lines.Range k refl)
form_rule lines.Sum k p' e = rule_of (rule_at lines.Sum k) p' e (forms_safe lines.Sum k refl)
form_rule lines.Product k p' e = rule_of (rule_at lines.Product k) p' e (forms_safe lines.Product k refl)
form_rule lines.Power k p' e = rule_of (rule_at lines.Power k) p' e (forms_safe lines.Power k refl)
form_rule lines.Prefix k p' e = rule_of (rule_at lines.Prefix k) p' e (forms_safe lines.Prefix k refl)
form_rule lines.Postfix k p' e = rule_of (rule_at lines.Postfix k) p' e (forms_safe lines.Postfix k refl)
form_rule lines.Prim k p' e = rule_of (rule_at lines.Prim k) p' e (forms_safe lines.Prim k refl)
form_rule lines.Block k p' e = rule_of (rule_at lines.Block k) p' e (forms_safe lines.Block k refl)
form_rule lines.Branch k p' e = rule_of (rule_at lines.Branch k) p' e (forms_safe lines.Branch k refl)
form_rule lines.Pattern k p' e = rule_of (rule_at lines.Pattern k) p' e (forms_safe lines.Pattern k refl)
form_rule lines.OtherPattern k p' e = rule_of (rule_at lines.OtherPattern k) p' e (forms_safe lines.OtherPattern k refl)
form_rule lines.Guard k p' e = rule_of (rule_at lines.Guard k) p' e (forms_safe lines.Guard k refl)
form_rule lines.Member k p' e = rule_of (rule_at lines.Member k) p' e (forms_safe lines.Member k refl)

more_rule_of : (c : Tail) (s : Shape) (k : TokenKind) (p' : Rule) → plain_more c s k ≡ Some p' → RuleOf (more_rule c s k) p'
more_rule_of tails.BecomesBeforeBlock s k p' e = cc
more_rule_of tails.Becomes s k p' e = rule_of (more_rule tails.Becomes s k) p' e (mores_safe tails.Becomes s k (λ x. cc))
more_rule_of tails.Ors s k p' e = rule_of (more_rule tails.Ors s k) p' e (mores_safe tails.Ors s k (λ x. cc))
more_rule_of tails.Ands s k p' e = rule_of (more_rule tails.Ands s k) p' e (mores_safe tails.Ands s k (λ x. cc))
more_rule_of tails.Equality s k p' e = rule_of (more_rule tails.Equality s k) p' e (mores_safe tails.Equality s k (λ x. cc))
more_rule_of tails.Bits s k p' e = rule_of (more_rule tails.Bits s k) p' e (mores_safe tails.Bits s k (λ x. cc))
more_rule_of tails.Relation s k p' e = rule_of (more_rule tails.Relation s k) p' e (mores_safe tails.Relation s k (λ x. cc))
more_rule_of tails.Range s k p' e = rule_of (more_rule tails.Range s k) p' e (mores_safe tails.Range s k (λ x. cc))
more_rule_of tails.Sums s k p' e = rule_of (more_rule tails.Sums s k) p' e (mores_safe tails.Sums s k (λ x. cc))
more_rule_of tails.Products s k p' e = rule_of (more_rule tails.Products s k) p' e (mores_safe tails.Products s k (λ x. cc))
more_rule_of tails.Power s k p' e = rule_of (more_rule tails.Power s k) p' e (mores_safe tails.Power s k (λ x. cc))
more_rule_of tails.Suffixes s k p' e = rule_of (more_rule tails.Suffixes s k) p' e (mores_safe tails.Suffixes s k (λ x. cc))
more_rule_of tails.Nothing s k p' e = rule_of (more_rule tails.Nothing s k) p' e (mores_safe tails.Nothing s k (λ x. cc))

tower_back : (l : Line) (x : Line × Tail) → plain_tower l ≡ Some x → tower_of l ≡ Some x
tower_back lines.ExprBeforeBlock x e = cc
tower_back other x e = e

either_reads : {p q : Rule} {f : Word} {fs : Trees} {ts us : List Word} {w : Tree} → Reads (rest (either p q) f fs) ts w us → Reads (rest p f fs) ts w us ⊎ Reads (rest q f fs) ts w us
either_reads (lined.opens left d) = inl d
either_reads (lined.opens right d) = inr d

stop_reads : {s : Shape} {f : Word} {fs : Trees} {ts us : List Word} {w : Tree} → Reads (rest (stops s) f fs) ts w us → IsStop us
stop_reads (lined.at_stop i) = i
stop_reads (lined.opens o d) = elim o [ ]

stop_kind : (k : TokenKind) → k ≡ kinds.OpenBrace → is_stop k ≡ true → ⊥
stop_kind k e s = let i : is_stop kinds.OpenBrace ≡ true = ap is_stop (sym e) ∙ s in cc

brace_no_stop : (us : List Word) → Brace us → IsStop us → ⊥
brace_no_stop [] b i = b
brace_no_stop (t ∷ us) b i = stop_kind t.kind b i

leave_rule : Rule
leave_rule = either (tree lines.ExprBeforeBlock (ends shapes.Leave)) (stops shapes.Leave)

before_leave : (t : Word) (p' : Rule) (ts : List Word) (w : Tree) (us : List Word) → Some (either (tree lines.Expr (ends shapes.Leave)) (stops shapes.Leave)) ≡ Some p' → Back (rest p' t none) ts w us → Brace us → Reads (rest (tree lines.ExprBeforeBlock (ends shapes.Leave)) t none) ts w us
unfolding leave_rule
before_leave t p' ts w us e d b =
    let i : plain leave_rule ≡ p' = cc in
    elim (either_reads (d leave_rule i refl (λ h. b))) [
      | inl x ↦ x
      | inr x ↦ absurd (brace_no_stop us b (stop_reads x))
    ]

before_back : (k : TokenKind) (t : Word) (p' : Rule) (ts : List Word) (w : Tree) (us : List Word) → plain_at lines.Expr k ≡ Some p' → t.kind ≡ k → Back (rest p' t none) ts w us → Brace us → Reads (line lines.ExprBeforeBlock) (t ∷ ts) w us
before_back kinds.Return t p' ts w us e i d b = lined.form (ap (λ (x : TokenKind). rule_at lines.ExprBeforeBlock x) i) (before_leave t p' ts w us e d b)
before_back kinds.Break t p' ts w us e i d b = lined.form (ap (λ (x : TokenKind). rule_at lines.ExprBeforeBlock x) i) (before_leave t p' ts w us e d b)
before_back kinds.Continue t p' ts w us e i d b = lined.form (ap (λ (x : TokenKind). rule_at lines.ExprBeforeBlock x) i) (before_leave t p' ts w us e d b)
before_back kinds.Def t p' ts w us e i d b = lined.form (ap (λ (x : TokenKind). rule_at lines.ExprBeforeBlock x) i) (d (def_rule lines.ExprBeforeBlock) (let j : plain (def_rule lines.Expr) ≡ p' = cc in j) refl (λ h. b))
before_back kinds.Var t p' ts w us e i d b = lined.form (ap (λ (x : TokenKind). rule_at lines.ExprBeforeBlock x) i) (d (var_rule lines.ExprBeforeBlock) (let j : plain (var_rule lines.Expr) ≡ p' = cc in j) refl (λ h. b))
before_back _ t p' ts w us e i d b = cc

-- an assignment before a block
abbrev AssignOf : Shape → TokenKind → Rule → Type 0
AssignOf s k p' = (p : Rule) × (becomes_rule lines.ExprBeforeBlock s k ≡ Some p) × (plain p ≡ p') × (safe p ≡ true)

assigned_of : (s : Shape) (p' : Rule) → plain_of (assigned_rule lines.Expr s) ≡ Some p' → (p : Rule) × (assigned_rule lines.ExprBeforeBlock s ≡ Some p) × (plain p ≡ p') × (safe p ≡ true)
assigned_of shapes.Noun p' e = (tree lines.ExprBeforeBlock (ends shapes.Assign), refl, (let i : plain (tree lines.ExprBeforeBlock (ends shapes.Assign)) ≡ p' = cc in i), refl)
assigned_of shapes.Index p' e = (tree lines.ExprBeforeBlock (ends shapes.AssignIndex), refl, (let i : plain (tree lines.ExprBeforeBlock (ends shapes.AssignIndex)) ≡ p' = cc in i), refl)
assigned_of _ p' e = cc

changed_of : (s : Shape) (p' : Rule) → plain_of (changed_rule lines.Expr s) ≡ Some p' → (p : Rule) × (changed_rule lines.ExprBeforeBlock s ≡ Some p) × (plain p ≡ p') × (safe p ≡ true)
changed_of shapes.Noun p' e = (tree lines.ExprBeforeBlock (ends shapes.Assign), refl, (let i : plain (tree lines.ExprBeforeBlock (ends shapes.Assign)) ≡ p' = cc in i), refl)
changed_of _ p' e = cc

assign_of : (s : Shape) (k : TokenKind) (p' : Rule) → plain_more tails.Becomes s k ≡ Some p' → AssignOf s k p'
assign_of s kinds.Assign p' e = assigned_of s p' e
assign_of s kinds.AddAssign p' e = changed_of s p' e
assign_of s kinds.SubtractAssign p' e = changed_of s p' e
assign_of s kinds.MultiplyAssign p' e = changed_of s p' e
assign_of s kinds.FloorDivideAssign p' e = changed_of s p' e
assign_of s kinds.RemainderAssign p' e = changed_of s p' e
assign_of s kinds.ModAssign p' e = changed_of s p' e
assign_of s kinds.PowAssign p' e = changed_of s p' e
assign_of s kinds.AndAssign p' e = changed_of s p' e
assign_of s kinds.OrAssign p' e = changed_of s p' e
assign_of s kinds.XorAssign p' e = changed_of s p' e
assign_of s _ p' e = cc

nothing_stays : {g : Aim} {ts us : List Word} {w : Tree} → Plain g ts w us → (v : Tree) → g ≡ tail tails.Nothing v → us ≡ ts
nothing_stays plained.stays v g = refl
nothing_stays (plained.goes {c = c} {t = t} {p = p} {v = x} e d tl) v g =
    let i : c ≡ tails.Nothing = cc in
    let j : None ≡ Some p = ap (λ (y : Tail). plain_more y (shape_of x) t.kind) (sym i) ∙ e in
    cc
nothing_stays other v g = cc

module _ (c : Tail) (t : Word) (p' : Rule) (v u w : Tree) (ts mid us : List Word) where
  goes_before : plain_more c (shape_of v) t.kind ≡ Some p' → Back (rest p' (word_of v) (begun c v t)) ts u mid → Plain (tail (again c) u) mid w us → Back (tail (again c) u) mid w us → Brace us → c ≡ tails.Becomes → Reads (tail tails.BecomesBeforeBlock v) (t ∷ ts) w us
  goes_before e d tl b h i =
      let x = assign_of (shape_of v) t.kind p' (ap (λ (y : Tail). plain_more y (shape_of v) t.kind) (sym i) ∙ e) in
      let same_end : us ≡ mid = nothing_stays tl u (ap (λ (y : Tail). tail (again y) u) i) in
      let brace : Brace mid = subst Brace same_end h in
      let body : Reads (rest x.0 (word_of v) (begun tails.BecomesBeforeBlock v t)) ts u mid = subst (λ (y : Tail). Reads (rest x.0 (word_of v) (begun y v t)) ts u mid) i (d x.0 x.2 x.3 (λ z. brace)) in
      let more_tail : Reads (tail tails.Nothing u) mid w us = subst (λ (y : Tail). Reads (tail (again y) u) mid w us) i b.0 in
      lined.goes x.1 body more_tail

tree_edge : (l : Line) (q : Rule) → is_before l ≡ true → is_end q ≡ true → edged (tree l q) ≡ true
tree_edge lines.ExprBeforeBlock q b e = or_l (is_end q) (edged q) e
tree_edge _ q b e = cc

tree_ok : (l : Line) (q : Rule) → is_before l ≡ true → safe (tree l q) ≡ true → before_ok q ≡ true
tree_ok lines.ExprBeforeBlock q b s = and_l (before_ok q) (safe q) s
tree_ok _ q b s = cc

line_in : Option (Line × Tail) → Line
line_in None = lines.Expr
line_in (Some x) = x.0

tail_in : Option (Line × Tail) → Tail
tail_in None = tails.Nothing
tail_in (Some x) = x.1

-- what the plain lines spell, the lines spell
back : {g : Aim} {ts us : List Word} {w : Tree} → Plain g ts w us → Back g ts w us
unfolding line_in tail_in
back {us = us} {w = w} (plained.form {l = l} {t = t} {p = p'} {ts = ts} e d) =
    let x = form_rule l t.kind p' e in
    let b = back d in (
      lined.form x.1 (b x.0 x.2 x.3 (λ h. absurd (x.4 h))),
      λ h i. before_back t.kind t p' ts w us (ap (λ (y : Line). plain_at y t.kind) (sym i) ∙ e) refl b h,
    )
back {us = us} {w = w} (plained.tower {l = l} {m = m} {c = c} {v = v} {ts = ts} {mid = mid} e d tl) =
    let b = back d in
    let r = back tl in (
      lined.tower (tower_back l (m, c) e) b.0 r.0,
      λ h i.
          let k : Some (lines.Or, tails.Becomes) ≡ Some (m, c) = ap plain_tower (sym i) ∙ e in
          let a : m ≡ lines.Or = sym (ap line_in k) in
          let z : c ≡ tails.Becomes = sym (ap tail_in k) in
          lined.tower refl (subst (λ (y : Line). Reads (line y) ts v mid) a b.0) (r.1 h z),
    )
back plained.stays = (lined.stays, λ h i. lined.stays)
back {us = us} {w = w} (plained.goes {c = c} {t = t} {p = p'} {v = v} {u = u} {ts = ts} {mid = mid} e d tl) =
    let x = more_rule_of c (shape_of v) t.kind p' e in
    let b = back d in
    let r = back tl in
    (lined.goes x.1 (b x.0 x.2 x.3 (λ h. absurd (x.4 h))) r.0, λ h i. goes_before c t p' v u w ts mid us e b tl r h i)
back {ts = ts} (plained.at_end {s = s} {f = f} {fs = fs}) = λ p e k h. subst (λ (x : Rule). Reads (rest x f fs) ts (node s f fs) ts) (sym (ends_back p s e)) lined.at_end
back {ts = ts} (plained.at_stop {s = s} {f = f} {fs = fs} i) = λ p e k h. subst (λ (x : Rule). Reads (rest x f fs) ts (node s f fs) ts) (sym (stops_back p s e)) (lined.at_stop i)
back {us = us} {w = w} (plained.takes {k = j} {p = p'} {t = t} {f = f} {fs = fs} {ts = ts} i d) = λ p e k h.
    let x = token_back p j p' e in
    subst (λ (y : Rule). Reads (rest y f fs) (t ∷ ts) w us) (sym x.1)
    (lined.takes i (back d x.0 x.2 (subst (λ (y : Rule). safe y ≡ true) x.1 k) (λ z. h (subst (λ (y : Rule). edged y ≡ true) (sym x.1) z))))
back {ts = ts} {us = us} {w = w} (plained.reads {l = l'} {p = p'} {f = f} {fs = fs} {v = v} {mid = mid} d n) = λ p e k h.
    let x = tree_back p l' p' e in
    let ok : safe (tree x.0 x.1) ≡ true = subst (λ (y : Rule). safe y ≡ true) x.2 k in
    let edge : edged (tree x.0 x.1) ≡ true → Brace us = λ z. h (subst (λ (y : Rule). edged y ≡ true) (sym x.2) z) in
    let raw : Plain (rest (plain x.1) f (more fs v)) mid w us = subst (λ (y : Rule). Plain (rest y f (more fs v)) mid w us) (sym x.4) n in
    subst (λ (y : Rule). Reads (rest y f fs) ts w us) (sym x.2)
    (lined.reads
    (line_back x.0 l' ts v mid x.3 (back d) (λ b. brace_behind x.1 f (more fs v) mid w us raw (tree_ok x.0 x.1 b ok) (λ z. edge (tree_edge x.0 x.1 b z))))
    (back n x.1 x.4 (and_r (not_b (is_before x.0) || before_ok x.1) (safe x.1) ok) (λ z. edge (or_r (is_before x.0 && is_end x.1) (edged x.1) z))))
back {us = us} {w = w} (plained.groups {k = j} {s = s} {p = p'} {t = t} {f = f} {fs = fs} {ts = ts} i d) = λ p e k h.
    let x = wraps_back p j s p' e in
    subst (λ (y : Rule). Reads (rest y f fs) (t ∷ ts) w us) (sym x.1)
    (lined.groups i (back d x.0 x.2 (subst (λ (y : Rule). safe y ≡ true) x.1 k) (λ z. h (subst (λ (y : Rule). edged y ≡ true) (sym x.1) z))))
back (plained.opens {p = p'} {q = q'} o d) = λ p e k h.
    let x = side p q' (subst (λ (y : Rule). Opens y q') (sym e) o) in
    lined.opens x.1 (back d x.0 x.2 (x.3 k) (λ z. h (x.4 z)))

-- the plain lines spell what the table of places spells
pub plain_is_places : PlainIsPlaces
plain_is_places = λ ts w. (
  λ d. (lines_are_places ts w).0 (back d (exprs (ends shapes.Program)) refl refl (λ h. cc)),
  λ d. to_plain ((lines_are_places ts w).1 d),
)
