-- Each tree that tokens spell is fair: a walk through the places of the grammar.
use Rattle.std.proofs.Common.{◌≡◌, ◌⊎◌, inl, inr, zero, suc, List, [], ◌∷◌, ◌++◌, refl, sym, subst, ap, ◌∙◌, append_assoc}
use Rattle.def_kernel.specs.declared.shape.Kind.TheVariants.{Expression, Pattern, Member}
use Rattle.def_syntax.specs.declared.token.TokenKind.{TokenKind}
use Rattle.def_syntax.specs.declared.token.TokenKind.TheVariants as kinds
use Rattle.def_syntax.specs.declared.syntax.Shape.TheVariants as shapes
use Rattle.def_syntax.specs.declared.place.Place.{Place}
use Rattle.def_syntax.specs.declared.place.Place.TheVariants as places
use Rattle.def_syntax.specs.declared.place.Move.{Move}
use Rattle.def_syntax.specs.declared.place.Move.TheVariants.{Takes, Reads, Wraps}
use Rattle.def_syntax.specs.declared.place.Series.{Series}
use Rattle.def_syntax.specs.declared.place.Series.TheVariants as series
use Rattle.def_syntax.specs.declared.place.Head.{Head}
use Rattle.def_syntax.specs.declared.place.Head.TheVariants as heads
use Rattle.def_syntax.specs.declared.place.Caught.{Caught}
use Rattle.def_syntax.specs.declared.place.Caught.TheVariants as caught
use Rattle.def_syntax.specs.declared.place.Named.TheVariants as named
use Rattle.def_syntax.specs.declared.place.Context.{Context}
use Rattle.def_syntax.specs.declared.place.Context.TheVariants.{Plain, BeforeBlock}
use Rattle.def_syntax.specs.declared.place.Definition.{Definition}
use Rattle.def_syntax.specs.declared.place.Definition.TheVariants as definitions
use Rattle.def_syntax.specs.declared.place.Role.{Role}
use Rattle.def_syntax.specs.declared.place.Role.TheVariants as roles
use Rattle.def_syntax.specs.Grammar.{moves, closing, item_line, value_line, caught_shape, definition_shape, role_shape, Has, here, there}
use Rattle.law_reading.specs.Expansion.Shapes.{sort_of, Slot, part, token, Only, Before, Turned, Heads, IsObjectName, Tries, finishes, catches, with_key, without_key, two_more, Sorted}
use Rattle.law_reading.proofs.Expansion.Sorts.{op, ot, before_more, turned_of, one_more, turned_more, heads_more, object_more, on, line_sort, series_laid, opened_head, definition_laid, caught_slots, Grows, FunctionLaid, Laid}

-- ---- a move keeps it; the first part of what is wrapped is of the kind of its first token

abbrev pub Kept : TokenKind → TokenKind → List Slot → Move → Type 0
Kept k f ss (Takes j r) = Laid r k (ss ++ token j ∷ [])
Kept k f ss (Reads l r) = Laid r k (ss ++ part (line_sort l) ∷ [])
Kept k f ss (Wraps j s r) = Sorted s f ss × Laid r k (part (sort_of s) ∷ token j ∷ [])

abbrev pub EachKept : TokenKind → TokenKind → List Slot → List Move → Type 0
EachKept k f ss [] = Unit {0}
EachKept k f ss (m ∷ ms) = Kept k f ss m × EachKept k f ss ms

pub kept_of : (k f : TokenKind) (ss : List Slot) {ms : List Move} {m : Move} → EachKept k f ss ms → Has ms m → Kept k f ss m
kept_of k f ss h (here {m = m} {ms = ms}) = h.0
kept_of k f ss h (there {n = n} {ms = ms} i) = kept_of k f ss h.1 i

series_part : (x : Series) (k : TokenKind) (ss : List Slot) → series_laid x k ss → series_laid x k (ss ++ part (line_sort (item_line x)) ∷ [])
series_part series.GuardArguments k ss h = (h.0, op Expression ss h.1)
series_part series.Parameters k ss h = (heads_more kinds.Identifier ss (part Pattern) h.0, before_more kinds.CloseParen Pattern ss (part Pattern) h.1 (refl, tt))
series_part series.FunctionParameters k ss h = op Pattern ss h
series_part series.ToParameters k ss h = before_more kinds.CloseParen Pattern ss (part Pattern) h (refl, tt)
series_part series.MethodParameters k ss h = before_more kinds.CloseParen Pattern ss (part Pattern) h (refl, tt)
series_part series.ListPattern k ss h = op Pattern ss h
series_part other k ss h = op Expression ss h

series_comma : (x : Series) (k : TokenKind) (ss : List Slot) → series_laid x k ss → series_laid x k (ss ++ token kinds.Comma ∷ [])
series_comma series.GuardArguments k ss h = (h.0, ot Expression ss kinds.Comma h.1)
series_comma series.Parameters k ss h = (heads_more kinds.Identifier ss (token kinds.Comma) h.0, before_more kinds.CloseParen Pattern ss (token kinds.Comma) h.1 (refl, tt))
series_comma series.FunctionParameters k ss h = ot Pattern ss kinds.Comma h
series_comma series.ToParameters k ss h = before_more kinds.CloseParen Pattern ss (token kinds.Comma) h (refl, tt)
series_comma series.MethodParameters k ss h = before_more kinds.CloseParen Pattern ss (token kinds.Comma) h (refl, tt)
series_comma series.ListPattern k ss h = ot Pattern ss kinds.Comma h
series_comma other k ss h = ot Expression ss kinds.Comma h

series_closed : (x : Series) (k f : TokenKind) (ss : List Slot) → series_laid x k ss → Kept k f ss (closing x)
series_closed series.Members k f ss h = ot Expression ss kinds.CloseBracket h
series_closed series.Index k f ss h = ot Expression ss kinds.CloseBracket h
series_closed series.GuardArguments k f ss h = (h.0, ot Expression ss kinds.CloseBracket h.1)
series_closed series.Parameters k f ss h = (heads_more kinds.Identifier ss (token kinds.CloseParen) h.0, turned_of kinds.CloseParen Pattern Expression ss h.1)
series_closed series.FunctionParameters k f ss h = (ss, (refl, h))
series_closed series.ToParameters k f ss h = turned_of kinds.CloseParen Pattern Expression ss h
series_closed series.MethodParameters k f ss h = turned_of kinds.CloseParen Pattern Expression ss h
series_closed series.ListPattern k f ss h = ot Pattern ss kinds.CloseBracket h
series_closed other k f ss h = ot Expression ss kinds.CloseParen h

behind_laid : (x : Head) (k f : TokenKind) (ss : List Slot) → ss ≡ opened_head x ++ part Expression ∷ [] → EachKept k f ss (moves (places.Close x))
behind_laid heads.While k f ss e = (on (λ y. Only Expression ((y ++ token kinds.CloseParen ∷ []) ++ part Expression ∷ [])) e (refl, (refl, tt)), tt)
behind_laid heads.When k f ss e = (one_more (token kinds.CloseParen) e, tt)
behind_laid heads.Via k f ss e = (on (λ y. Sorted shapes.ViaPattern k ((y ++ token kinds.CloseParen ∷ []) ++ part Pattern ∷ [])) e (refl, refl), tt)
behind_laid other k f ss e = (on (λ y. Only Expression (y ++ token kinds.CloseParen ∷ [])) e (refl, tt), tt)

caught_done : (e : Caught) (k : TokenKind) (ss : List Slot) → ss ≡ (caught_slots e ++ token kinds.Catch ∷ []) ++ part Pattern ∷ [] → Sorted (caught_shape e) k (ss ++ part Expression ∷ [])
caught_done caught.Escape k ss h = on (λ y. Sorted shapes.Escape k (y ++ part Expression ∷ [])) h (refl, (refl, (refl, refl)))
caught_done caught.When k ss h = on (λ y. Sorted shapes.When k (y ++ part Expression ∷ [])) h (refl, (refl, (refl, refl)))

grown : (rs : List Slot) → Grows rs → Grows (((rs ++ token kinds.Catch ∷ []) ++ part Pattern ∷ []) ++ part Expression ∷ [])
grown rs h ss t = subst Tries (sym (append_assoc ((rs ++ token kinds.Catch ∷ []) ++ part Pattern ∷ []) (part Expression ∷ []) ss
    ∙ append_assoc (rs ++ token kinds.Catch ∷ []) (part Pattern ∷ []) (part Expression ∷ ss)
    ∙ append_assoc rs (token kinds.Catch ∷ []) (part Pattern ∷ part Expression ∷ ss))) (h (token kinds.Catch ∷ part Pattern ∷ part Expression ∷ ss) (catches t))

finished : (rs : List Slot) → Grows rs → Tries ((rs ++ token kinds.Finally ∷ []) ++ part Expression ∷ [])
finished rs h = subst Tries (sym (append_assoc rs (token kinds.Finally ∷ []) (part Expression ∷ []))) (h (token kinds.Finally ∷ part Expression ∷ []) finishes)

for_done : (k : TokenKind) (ss : List Slot) → ((ss ≡ with_key) ⊎ (ss ≡ without_key)) → Sorted shapes.For k (two_more ss)
for_done k ss (inl e) = inl (ap two_more e)
for_done k ss (inr e) = inr (ap two_more e)

definition_token : (d : Definition) (ss : List Slot) (t : TokenKind) → definition_laid d ss → definition_laid d (ss ++ token t ∷ [])
definition_token definitions.Def ss t h = (h.0 ++ token t ∷ [], (one_more (token t) h.1.0, ot Expression h.0 t h.1.1))
definition_token definitions.Var ss t h = (heads_more kinds.Identifier ss (token t) h.0, ot Expression ss t h.1)

definition_part : (d : Definition) (ss : List Slot) → definition_laid d ss → definition_laid d (ss ++ part Expression ∷ [])
definition_part definitions.Def ss h = (h.0 ++ part Expression ∷ [], (one_more (part Expression) h.1.0, op Expression h.0 h.1.1))
definition_part definitions.Var ss h = (heads_more kinds.Identifier ss (part Expression) h.0, op Expression ss h.1)

definition_done : (d : Definition) (k : TokenKind) (ss : List Slot) → definition_laid d ss → Sorted (definition_shape d) k (ss ++ part Expression ∷ [])
definition_done definitions.Def k ss h = (h.0 ++ part Expression ∷ [], (one_more (part Expression) h.1.0, (op Expression h.0 h.1.1, (ss, refl))))
definition_done definitions.Var k ss h = (heads_more kinds.Identifier ss (part Expression) h.0, (op Expression ss h.1, (ss, refl)))

value_done : (c : Context) (d : Definition) (k : TokenKind) (ss : List Slot) → definition_laid d ss → Sorted (definition_shape d) k (ss ++ part (line_sort (value_line c)) ∷ [])
value_done Plain d k ss h = definition_done d k ss h
value_done BeforeBlock d k ss h = definition_done d k ss h

function_token : (ss : List Slot) (t : TokenKind) → FunctionLaid ss → FunctionLaid (ss ++ token t ∷ [])
function_token ss t h = (heads_more kinds.Identifier ss (token t) h.0, turned_more kinds.CloseParen Pattern Expression ss (token t) h.1 tt)

function_part : (ss : List Slot) → FunctionLaid ss → FunctionLaid (ss ++ part Expression ∷ [])
function_part ss h = (heads_more kinds.Identifier ss (part Expression) h.0, turned_more kinds.CloseParen Pattern Expression ss (part Expression) h.1 (refl, tt))

function_done : (k : TokenKind) (ss : List Slot) → FunctionLaid ss → Sorted shapes.DefineFunction k (ss ++ part Expression ∷ [])
function_done k ss h = ((function_part ss h).0, ((function_part ss h).1, (ss, refl)))

role_done : (r : Role) (k : TokenKind) (ss : List Slot) → Turned kinds.CloseParen Pattern Expression ss → Sorted (role_shape r) k (ss ++ part Expression ∷ [])
role_done roles.To k ss h = (turned_more kinds.CloseParen Pattern Expression ss (part Expression) h (refl, tt), (ss, refl))
role_done roles.Method k ss h = (turned_more kinds.CloseParen Pattern Expression ss (part Expression) h (refl, tt), (ss, refl))

parameters_laid : (r : Role) (k f : TokenKind) (ss : List Slot) → Before kinds.CloseParen Pattern ss → EachKept k f ss (moves (places.MemberOpen r))
parameters_laid roles.To k f ss h = (before_more kinds.CloseParen Pattern ss (token kinds.OpenParen) h (refl, tt), tt)
parameters_laid roles.Method k f ss h = (before_more kinds.CloseParen Pattern ss (token kinds.OpenParen) h (refl, tt), tt)

-- the first token of what is wrapped is of this kind
abbrev pub IsLed : TokenKind → List Slot → Type 0
IsLed f ss = (j : TokenKind) → Heads j ss → f ≡ j

-- a name, or one with its guard, as a pattern
noun_wrapped : (f : TokenKind) (ss : List Slot) (rs : List Slot) → IsLed f ss → Heads kinds.Identifier rs → Only Expression rs → ss ≡ rs → Sorted shapes.FinalPattern f ss
noun_wrapped f ss rs led h o e = (led kinds.Identifier (on (Heads kinds.Identifier) e h), on (Only Expression) e o)

bound_by : (c : Context) (j : TokenKind) → definition_laid definitions.Def (part Pattern ∷ token j ∷ [])
bound_by c j = (token j ∷ [], (refl, tt))

pub laid_moves : (q : Place) (k f : TokenKind) (ss : List Slot) → IsLed f ss → Laid q k ss → EachKept k f ss (moves q)
laid_moves (places.Done s) k f ss led h = tt
laid_moves (places.Last l s) k f ss led h = (h, tt)
laid_moves places.Program k f ss led h = (ot Expression ss kinds.Semicolon h, (ot Expression ss kinds.LineEnd h, (op Expression ss h, tt)))
laid_moves places.ProgramMore k f ss led h = (ot Expression ss kinds.Semicolon h, (ot Expression ss kinds.LineEnd h, tt))
laid_moves places.Block k f ss led h = (ot Expression ss kinds.Semicolon h, (ot Expression ss kinds.LineEnd h, (op Expression ss h, (ot Expression ss kinds.CloseBrace h, tt))))
laid_moves places.BlockMore k f ss led h = (ot Expression ss kinds.Semicolon h, (ot Expression ss kinds.LineEnd h, (ot Expression ss kinds.CloseBrace h, tt)))
laid_moves places.Leave k f ss led h = ((h.0, op Expression ss h.1), tt)
laid_moves (places.First x) k f ss led h = (series_part x k ss h, (series_closed x k f ss h, tt))
laid_moves (places.Item n x) k f ss led h = (series_part x k ss h, tt)
laid_moves (places.More zero x) k f ss led h = (series_closed x k f ss h, tt)
laid_moves (places.More (suc n) x) k f ss led h = (series_comma x k ss h, (series_closed x k f ss h, tt))
laid_moves (places.Open x) k f ss led h = (one_more (token kinds.OpenParen) h.0 ∙ sym h.1, tt)
laid_moves (places.Close x) k f ss led h = behind_laid x k f ss h
laid_moves places.IfThen k f ss led h = (op Expression ss h, tt)
laid_moves places.IfElse k f ss led h = (op Expression (ss ++ token kinds.Else ∷ []) (ot Expression ss kinds.Else h), tt)
laid_moves places.WhenArrow k f ss led h = (one_more (token kinds.Arrow) h, tt)
laid_moves (places.Caught e) k f ss led h = (one_more (token kinds.Catch) h, tt)
laid_moves (places.CatchPattern e) k f ss led h = (one_more (part Pattern) h, tt)
laid_moves (places.CatchBlock e) k f ss led h = (caught_done e k ss h, tt)
laid_moves places.Escape k f ss led h = (one_more (part Pattern) h, tt)
laid_moves places.Try k f ss led h = (([], (one_more (part Expression) h, λ rs t. t)), tt)
laid_moves places.TryMore k f ss led h = (
  (h.0, (one_more (token kinds.Catch) h.1.0, h.1.1)),
  (((h.0 ++ token kinds.Finally ∷ []) ++ part Expression ∷ [], (one_more (part Expression) (one_more (token kinds.Finally) h.1.0), finished h.0 h.1.1)), tt),
)
laid_moves places.TryPattern k f ss led h = ((h.0, (one_more (part Pattern) h.1.0, h.1.1)), tt)
laid_moves places.TryBlock k f ss led h = ((((h.0 ++ token kinds.Catch ∷ []) ++ part Pattern ∷ []) ++ part Expression ∷ [], (one_more (part Expression) h.1.0, grown h.0 h.1.1)), tt)
laid_moves places.For k f ss led h = (one_more (part Pattern) h, tt)
laid_moves places.ForKey k f ss led h = (one_more (token kinds.FatArrow) h, (inr (one_more (token kinds.In) h), tt))
laid_moves places.ForValue k f ss led h = (one_more (part Pattern) h, tt)
laid_moves places.ForIn k f ss led h = (inl (one_more (token kinds.In) h), tt)
laid_moves places.ForList k f ss led h = (for_done k ss h, tt)
laid_moves places.Verb k f ss led h = (ot Expression ss kinds.Text h, (ot Expression ss kinds.Identifier h, tt))
laid_moves places.VerbOpen k f ss led h = (ot Expression ss kinds.OpenParen h, tt)
laid_moves places.Send k f ss led h = (ot Expression ss kinds.Text h, (ot Expression ss kinds.Identifier h, (ot Expression ss kinds.OpenParen h, tt)))
laid_moves places.SendOpen k f ss led h = (ot Expression ss kinds.OpenParen h, tt)
laid_moves (places.Def c) k f ss led h = (([], (one_more (part Pattern) h, tt)), (one_more (token kinds.Ignore) h, (one_more (token kinds.Identifier) h, tt)))
laid_moves (places.Name c named.Noun) k f ss led h = (
  one_more (token kinds.Colon) h,
  (
    (noun_wrapped f ss (token kinds.Identifier ∷ []) led refl tt h, bound_by c kinds.Exit),
    (
      (noun_wrapped f ss (token kinds.Identifier ∷ []) led refl tt h, bound_by c kinds.Assign),
      (
        on (λ y. series_laid series.Parameters k (y ++ token kinds.OpenParen ∷ [])) h (refl, (refl, (refl, tt))),
        (
          on (λ y. IsObjectName (y ++ token kinds.Implements ∷ []) × Before kinds.OpenBrace Expression (y ++ token kinds.Implements ∷ [])) h (inl refl, (refl, (refl, tt))),
          ((on (λ y. IsObjectName (y ++ token kinds.OpenBrace ∷ [])) h (inl refl), turned_of kinds.OpenBrace Expression Member ss (on (Before kinds.OpenBrace Expression) h (refl, tt))), tt),
        ),
      ),
    ),
  ),
)
laid_moves (places.Name c named.Ignore) k f ss led h = (
  one_more (token kinds.Colon) h,
  (
    (on (Only Expression) h tt, bound_by c kinds.Exit),
    (
      (on (Only Expression) h tt, bound_by c kinds.Assign),
      (
        on (λ y. IsObjectName (y ++ token kinds.Implements ∷ []) × Before kinds.OpenBrace Expression (y ++ token kinds.Implements ∷ [])) h (inr refl, (refl, (refl, tt))),
        ((on (λ y. IsObjectName (y ++ token kinds.OpenBrace ∷ [])) h (inr refl), turned_of kinds.OpenBrace Expression Member ss (on (Before kinds.OpenBrace Expression) h (refl, tt))), tt),
      ),
    ),
  ),
)
laid_moves (places.NameGuarded c named.Noun) k f ss led h =
    let w = noun_wrapped f ss (token kinds.Identifier ∷ token kinds.Colon ∷ part Expression ∷ []) led refl (refl, tt) h in
    ((w, bound_by c kinds.Exit), ((w, bound_by c kinds.Assign), tt))
laid_moves (places.NameGuarded c named.Ignore) k f ss led h = ((on (Only Expression) h (refl, tt), bound_by c kinds.Exit), ((on (Only Expression) h (refl, tt), bound_by c kinds.Assign), tt))
laid_moves (places.Bound c d) k f ss led h = (definition_token d ss kinds.Exit h, (definition_token d ss kinds.Assign h, tt))
laid_moves (places.Exit c d) k f ss led h = (definition_part d ss h, tt)
laid_moves (places.Ejector c d) k f ss led h = (definition_token d ss kinds.Assign h, tt)
laid_moves (places.Value c d) k f ss led h = (value_done c d k ss h, tt)
laid_moves (places.Var c) k f ss led h = (one_more (token kinds.Identifier) h, tt)
laid_moves (places.VarName c) k f ss led h = (
  one_more (token kinds.Colon) h,
  (on (λ y. definition_laid definitions.Var (y ++ token kinds.Exit ∷ [])) h (refl, tt), (on (λ y. definition_laid definitions.Var (y ++ token kinds.Assign ∷ [])) h (refl, tt), tt)),
)
laid_moves (places.VarGuard c) k f ss led h = (on (λ y. definition_laid definitions.Var (y ++ part Expression ∷ [])) h (refl, (refl, tt)), tt)
laid_moves places.Auditor k f ss led h = ((object_more ss (part Expression) h.0, before_more kinds.OpenBrace Expression ss (part Expression) h.1 (refl, tt)), tt)
laid_moves places.AuditorMore k f ss led h = (
  (object_more ss (token kinds.Comma) h.0, before_more kinds.OpenBrace Expression ss (token kinds.Comma) h.1 (refl, tt)),
  ((object_more ss (token kinds.OpenBrace) h.0, turned_of kinds.OpenBrace Expression Member ss h.1), tt),
)
laid_moves places.Script k f ss led h = (
  (object_more ss (token kinds.Semicolon) h.0, turned_more kinds.OpenBrace Expression Member ss (token kinds.Semicolon) h.1 tt),
  (
    (object_more ss (token kinds.LineEnd) h.0, turned_more kinds.OpenBrace Expression Member ss (token kinds.LineEnd) h.1 tt),
    (
      (object_more ss (part Member) h.0, turned_more kinds.OpenBrace Expression Member ss (part Member) h.1 (refl, tt)),
      ((object_more ss (token kinds.CloseBrace) h.0, turned_more kinds.OpenBrace Expression Member ss (token kinds.CloseBrace) h.1 tt), tt),
    ),
  ),
)
laid_moves places.Result k f ss led h = (function_token ss kinds.Colon h, (function_token ss kinds.Implements h, (function_done k ss h, tt)))
laid_moves places.ResultGuard k f ss led h = (function_part ss h, tt)
laid_moves places.ResultGuarded k f ss led h = (function_token ss kinds.Implements h, (function_done k ss h, tt))
laid_moves places.FunctionAuditor k f ss led h = (function_part ss h, tt)
laid_moves places.FunctionAuditorMore k f ss led h = (function_token ss kinds.Comma h, (function_done k ss h, tt))
laid_moves (places.MemberVerb r) k f ss led h = (on (λ y. Before kinds.CloseParen Pattern (y ++ token kinds.Text ∷ [])) h (refl, tt), (on (λ y. Before kinds.CloseParen Pattern (y ++ token kinds.Identifier ∷ [])) h (refl, tt), tt))
laid_moves (places.MemberOpen r) k f ss led h = parameters_laid r k f ss h
laid_moves (places.MemberResult r) k f ss led h = (turned_more kinds.CloseParen Pattern Expression ss (token kinds.Colon) h tt, (role_done r k ss h, tt))
laid_moves (places.MemberGuard r) k f ss led h = (role_done r k (ss ++ part Expression ∷ []) (turned_more kinds.CloseParen Pattern Expression ss (part Expression) h (refl, tt)), tt)
laid_moves places.Matcher k f ss led h = (on (λ y. Sorted shapes.Matcher k ((y ++ part Pattern ∷ []) ++ part Expression ∷ [])) h (refl, refl), tt)
laid_moves (places.PatternGuard s) k f ss led h = (h.1, tt)
laid_moves places.VarPattern k f ss led h = (on (λ y. Laid (places.PatternGuard shapes.VarPattern) k (y ++ token kinds.Identifier ∷ [])) h ((refl, tt), (refl, (refl, tt))), tt)
laid_moves places.NounGuard k f ss led h = ((h.0, on (λ y. Only Expression (y ++ token kinds.OpenBracket ∷ [])) h.1 tt), tt)
laid_moves other k f ss led h = (one_more (part Expression) h, tt)
