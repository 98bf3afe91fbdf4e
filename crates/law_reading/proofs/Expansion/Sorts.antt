-- What is known of the parts of a node at each place of the grammar.
use Rattle.std.proofs.Common.{◌≡◌, ◌⊎◌, inl, inr, List, [], ◌∷◌, ◌++◌, refl, sym, subst, ap, ◌∙◌, append_assoc}
use Rattle.std.proofs.lemmas.List.{append-nil}
use Rattle.def_kernel.specs.declared.shape.Kind.{Kind}
use Rattle.def_kernel.specs.declared.shape.Kind.TheVariants.{Expression, Pattern, Member}
use Rattle.def_syntax.specs.declared.token.TokenKind.{TokenKind}
use Rattle.def_syntax.specs.declared.token.TokenKind.TheVariants as kinds
use Rattle.def_syntax.specs.declared.syntax.Word.{Word}
use Rattle.def_syntax.specs.declared.syntax.Shape.{Shape}
use Rattle.def_syntax.specs.declared.syntax.Shape.TheVariants as shapes
use Rattle.def_syntax.specs.declared.syntax.Line.{Line}
use Rattle.def_syntax.specs.declared.syntax.Line.TheVariants as lines
use Rattle.def_syntax.specs.declared.place.Place.{Place}
use Rattle.def_syntax.specs.declared.place.Place.TheVariants as places
use Rattle.def_syntax.specs.declared.place.Ending.{Ending}
use Rattle.def_syntax.specs.declared.place.Ending.TheVariants.{Never, Ends, BeforeStop}
use Rattle.def_syntax.specs.declared.place.Series.{Series}
use Rattle.def_syntax.specs.declared.place.Series.TheVariants as series
use Rattle.def_syntax.specs.declared.place.Head.{Head}
use Rattle.def_syntax.specs.declared.place.Head.TheVariants as heads
use Rattle.def_syntax.specs.declared.place.Caught.{Caught}
use Rattle.def_syntax.specs.declared.place.Caught.TheVariants as caught
use Rattle.def_syntax.specs.declared.place.Named.{Named}
use Rattle.def_syntax.specs.declared.place.Named.TheVariants as named
use Rattle.def_syntax.specs.declared.place.Definition.{Definition}
use Rattle.def_syntax.specs.declared.place.Definition.TheVariants as definitions
use Rattle.law_reading.specs.Expansion.Shapes.{sort_of, Slot, part, token, Only, Before, Turned, Heads, IsObjectName, IsLeave, Tries, no_more, with_key, without_key, Sorted}
use Rattle.def_syntax.specs.Grammar.{ending, caught_shape, MayEnd}

-- ---- one more part

pub only_more : (kind : Kind) (ss : List Slot) (x : Slot) → Only kind ss → Only kind (x ∷ []) → Only kind (ss ++ x ∷ [])
only_more kind [] x h k = k
only_more kind (part j ∷ ss) x h k = (h.0, only_more kind ss x h.1 k)
only_more kind (token t ∷ ss) x h k = only_more kind ss x h k

pub op : (kind : Kind) (ss : List Slot) → Only kind ss → Only kind (ss ++ part kind ∷ [])
op kind ss h = only_more kind ss (part kind) h (refl, tt)

pub ot : (kind : Kind) (ss : List Slot) (t : TokenKind) → Only kind ss → Only kind (ss ++ token t ∷ [])
ot kind ss t h = only_more kind ss (token t) h tt

pub before_more : (mark : TokenKind) (kind : Kind) (ss : List Slot) (x : Slot) → Before mark kind ss → Before mark kind (x ∷ []) → Before mark kind (ss ++ x ∷ [])
before_more mark kind [] x h k = k
before_more mark kind (part j ∷ ss) x h k = (h.0, before_more mark kind ss x h.1 k)
before_more mark kind (token t ∷ ss) x h k = (h.0, before_more mark kind ss x h.1 k)

pub turned_of : (mark : TokenKind) (a b : Kind) (ss : List Slot) → Before mark a ss → Turned mark a b (ss ++ token mark ∷ [])
turned_of mark a b ss h = record { front = ss; back = []; is = refl; first = h; second = tt }

pub one_more : {ss rs : List Slot} (x : Slot) → ss ≡ rs → ss ++ x ∷ [] ≡ rs ++ x ∷ []
one_more x e = ap (λ (y : List Slot). y ++ x ∷ []) e

pub turned_more : (mark : TokenKind) (a b : Kind) (ss : List Slot) (x : Slot) → Turned mark a b ss → Only b (x ∷ []) → Turned mark a b (ss ++ x ∷ [])
turned_more mark a b ss x h k = record {
  front = h.front;
  back = h.back ++ x ∷ [];
  is = one_more x h.is ∙ append_assoc h.front (token mark ∷ h.back) (x ∷ []);
  first = h.first;
  second = only_more b h.back x h.second k;
}

pub heads_more : (t : TokenKind) (ss : List Slot) (x : Slot) → Heads t ss → Heads t (ss ++ x ∷ [])
heads_more t [] x h = absurd (cc)
heads_more t (s ∷ ss) x h = h

pub object_more : (ss : List Slot) (x : Slot) → IsObjectName ss → IsObjectName (ss ++ x ∷ [])
object_more ss x (inl h) = inl (heads_more kinds.Identifier ss x h)
object_more ss x (inr h) = inr (heads_more kinds.Ignore ss x h)

-- what holds of the parts that these are
pub on : (P : List Slot → Type 0) {a b : List Slot} → a ≡ b → P b → P a
on P {a} {b} e x = subst P (sym e) x

-- ---- what is known at a place

abbrev pub line_sort : Line → Kind
line_sort lines.Pattern = Pattern
line_sort lines.OtherPattern = Pattern
line_sort lines.Member = Member
line_sort _ = Expression

abbrev pub series_laid : Series → TokenKind → List Slot → Type 0
series_laid series.GuardArguments k ss = (k ≡ kinds.Identifier) × Only Expression ss
series_laid series.Parameters k ss = Heads kinds.Identifier ss × Before kinds.CloseParen Pattern ss
series_laid series.FunctionParameters k ss = Only Pattern ss
series_laid series.ToParameters k ss = Before kinds.CloseParen Pattern ss
series_laid series.MethodParameters k ss = Before kinds.CloseParen Pattern ss
series_laid series.ListPattern k ss = Only Pattern ss
series_laid _ k ss = Only Expression ss

-- what stands behind the `(` of a form begins the node, or not
abbrev pub opened_head : Head → List Slot
opened_head heads.Group = []
opened_head heads.Guard = []
opened_head _ = token kinds.OpenParen ∷ []

abbrev pub definition_laid : Definition → List Slot → Type 0
definition_laid definitions.Def ss = (rs : List Slot) × ((ss ≡ part Pattern ∷ rs) × Only Expression rs)
definition_laid definitions.Var ss = Heads kinds.Identifier ss × Only Expression ss

abbrev pub caught_slots : Caught → List Slot
caught_slots caught.Escape = part Pattern ∷ part Expression ∷ []
caught_slots caught.When = token kinds.OpenParen ∷ part Expression ∷ token kinds.CloseParen ∷ token kinds.Arrow ∷ part Expression ∷ []

abbrev pub named_kind : Named → TokenKind
named_kind named.Noun = kinds.Identifier
named_kind named.Ignore = kinds.Ignore

-- what may stand before the rest of a `try`
abbrev pub Grows : List Slot → Type 0
Grows rs = (ss : List Slot) → Tries ss → Tries (rs ++ ss)

abbrev pub FunctionLaid : List Slot → Type 0
FunctionLaid ss = Heads kinds.Identifier ss × Turned kinds.CloseParen Pattern Expression ss

abbrev pub Laid : Place → TokenKind → List Slot → Type 0
Laid (places.Done s) k ss = Sorted s k ss
Laid (places.Last l s) k ss = Sorted s k (ss ++ part (line_sort l) ∷ [])
Laid places.Leave k ss = IsLeave k × Only Expression ss
Laid (places.First x) k ss = series_laid x k ss
Laid (places.Item n x) k ss = series_laid x k ss
Laid (places.More n x) k ss = series_laid x k ss
Laid (places.Open h) k ss = (ss ≡ []) × (opened_head h ≡ token kinds.OpenParen ∷ [])
Laid (places.Test h) k ss = ss ≡ opened_head h
Laid (places.Close h) k ss = ss ≡ opened_head h ++ part Expression ∷ []
Laid places.WhenArrow k ss = ss ≡ token kinds.OpenParen ∷ part Expression ∷ token kinds.CloseParen ∷ []
Laid places.WhenBlock k ss = ss ≡ token kinds.OpenParen ∷ part Expression ∷ token kinds.CloseParen ∷ token kinds.Arrow ∷ []
Laid (places.Caught e) k ss = ss ≡ caught_slots e
Laid (places.CatchPattern e) k ss = ss ≡ caught_slots e ++ token kinds.Catch ∷ []
Laid (places.CatchBlock e) k ss = ss ≡ (caught_slots e ++ token kinds.Catch ∷ []) ++ part Pattern ∷ []
Laid places.Escape k ss = ss ≡ []
Laid places.EscapeBlock k ss = ss ≡ part Pattern ∷ []
Laid places.Try k ss = ss ≡ []
Laid places.TryMore k ss = (rs : List Slot) × ((ss ≡ part Expression ∷ rs) × Grows rs)
Laid places.TryPattern k ss = (rs : List Slot) × ((ss ≡ part Expression ∷ (rs ++ token kinds.Catch ∷ [])) × Grows rs)
Laid places.TryBlock k ss = (rs : List Slot) × ((ss ≡ part Expression ∷ ((rs ++ token kinds.Catch ∷ []) ++ part Pattern ∷ [])) × Grows rs)
Laid places.For k ss = ss ≡ []
Laid places.ForKey k ss = ss ≡ part Pattern ∷ []
Laid places.ForValue k ss = ss ≡ part Pattern ∷ token kinds.FatArrow ∷ []
Laid places.ForIn k ss = ss ≡ part Pattern ∷ token kinds.FatArrow ∷ part Pattern ∷ []
Laid places.ForList k ss = (ss ≡ with_key) ⊎ (ss ≡ without_key)
Laid (places.Def c) k ss = ss ≡ []
Laid (places.Name c x) k ss = ss ≡ token (named_kind x) ∷ []
Laid (places.NameGuard c x) k ss = ss ≡ token (named_kind x) ∷ token kinds.Colon ∷ []
Laid (places.NameGuarded c x) k ss = ss ≡ token (named_kind x) ∷ token kinds.Colon ∷ part Expression ∷ []
Laid (places.Bound c d) k ss = definition_laid d ss
Laid (places.Exit c d) k ss = definition_laid d ss
Laid (places.Ejector c d) k ss = definition_laid d ss
Laid (places.Value c d) k ss = definition_laid d ss
Laid (places.Var c) k ss = ss ≡ []
Laid (places.VarName c) k ss = ss ≡ token kinds.Identifier ∷ []
Laid (places.VarGuard c) k ss = ss ≡ token kinds.Identifier ∷ token kinds.Colon ∷ []
Laid places.Auditor k ss = IsObjectName ss × Before kinds.OpenBrace Expression ss
Laid places.AuditorMore k ss = IsObjectName ss × Before kinds.OpenBrace Expression ss
Laid places.Script k ss = IsObjectName ss × Turned kinds.OpenBrace Expression Member ss
Laid places.Result k ss = FunctionLaid ss
Laid places.ResultGuard k ss = FunctionLaid ss
Laid places.ResultGuarded k ss = FunctionLaid ss
Laid places.FunctionAuditor k ss = FunctionLaid ss
Laid places.FunctionAuditorMore k ss = FunctionLaid ss
Laid (places.MemberVerb r) k ss = ss ≡ []
Laid (places.MemberOpen r) k ss = Before kinds.CloseParen Pattern ss
Laid (places.MemberResult r) k ss = Turned kinds.CloseParen Pattern Expression ss
Laid (places.MemberGuard r) k ss = Turned kinds.CloseParen Pattern Expression ss
Laid places.Matcher k ss = ss ≡ []
Laid (places.PatternGuard s) k ss = Sorted s k ss × Sorted s k ((ss ++ token kinds.Colon ∷ []) ++ part Expression ∷ [])
Laid places.VarPattern k ss = ss ≡ []
Laid places.NounGuard k ss = (k ≡ kinds.Identifier) × (ss ≡ [])
Laid other k ss = Only Expression ss

-- the kind of tree that is read at a place
abbrev pub series_sort : Series → Kind
series_sort series.ListPattern = Pattern
series_sort series.ToParameters = Member
series_sort series.MethodParameters = Member
series_sort _ = Expression

abbrev pub head_sort : Head → Kind
head_sort heads.Via = Pattern
head_sort _ = Expression

abbrev pub place_sort : Place → Kind
place_sort (places.Done s) = sort_of s
place_sort (places.Last l s) = sort_of s
place_sort (places.First x) = series_sort x
place_sort (places.Item n x) = series_sort x
place_sort (places.More n x) = series_sort x
place_sort (places.Open h) = head_sort h
place_sort (places.Test h) = head_sort h
place_sort (places.Close h) = head_sort h
place_sort (places.MemberVerb r) = Member
place_sort (places.MemberOpen r) = Member
place_sort (places.MemberResult r) = Member
place_sort (places.MemberGuard r) = Member
place_sort places.Matcher = Member
place_sort (places.PatternGuard s) = sort_of s
place_sort places.VarPattern = Pattern
place_sort _ = Expression

-- ---- where a node ends

abbrev pub Ended : Ending → Kind → TokenKind → List Slot → Type 0
Ended Never kind k ss = Unit {0}
Ended (Ends s) kind k ss = Sorted s k ss × (sort_of s ≡ kind)
Ended (BeforeStop s) kind k ss = Sorted s k ss × (sort_of s ≡ kind)

pub caught_ends : (e : Caught) (k : TokenKind) (ss : List Slot) → ss ≡ caught_slots e → Sorted (caught_shape e) k ss × (sort_of (caught_shape e) ≡ Expression)
caught_ends caught.Escape k ss h = (on (Sorted shapes.Escape k) h (refl, (refl, (tt, tt))), refl)
caught_ends caught.When k ss h = (on (Sorted shapes.When k) h (refl, (refl, (tt, tt))), refl)

pub laid_ends : (q : Place) (k : TokenKind) (ss : List Slot) → Laid q k ss → Ended (ending q) (place_sort q) k ss
laid_ends (places.Done s) k ss h = (h, refl)
laid_ends places.Program k ss h = (h, refl)
laid_ends places.ProgramMore k ss h = (h, refl)
laid_ends places.Leave k ss h = (h, refl)
laid_ends places.IfElse k ss h = (h, refl)
laid_ends (places.Caught e) k ss h = caught_ends e k ss h
laid_ends places.TryMore k ss h = ((h.0, (h.1.0, subst Tries (append-nil h.0) (h.1.1 [] no_more))), refl)
laid_ends (places.PatternGuard s) k ss h = (h.0, refl)
laid_ends places.NounGuard k ss h = ((h.0, on (Only Expression) h.1 tt), refl)
laid_ends _ k ss h = tt

pub ended_is : (e : Ending) (kind : Kind) (s : Shape) (ts : List Word) (k : TokenKind) (ss : List Slot) → MayEnd e s ts → Ended e kind k ss → Sorted s k ss × (sort_of s ≡ kind)
ended_is Never kind s ts k ss m h = absurd m
ended_is (Ends r) kind s ts k ss m h = subst (λ (x : Shape). Sorted x k ss × (sort_of x ≡ kind)) m h
ended_is (BeforeStop r) kind s ts k ss m h = subst (λ (x : Shape). Sorted x k ss × (sort_of x ≡ kind)) m.0 h
