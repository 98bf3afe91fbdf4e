-- Each row of the expansion makes one tree of a kind, of trees of the kinds that it wants.
use Rattle.std.proofs.Common.{◌≡◌, Bool, true, false, cond, List, [], ◌∷◌, ◌++◌, Option, Some, None, codes, refl}
use Rattle.std.specs.Str.{IsUtf8, is_utf8, chars}
use lib.Utf8.{encode}
use Rattle.std.proofs.lemmas.Str.{IsUtf8-from_is_utf8}
use Rattle.def_text.specs.Keywords.{is_identifier}
use Rattle.def_kernel.specs.declared.node.Literal.TheVariants as literals
use Rattle.def_kernel.specs.declared.shape.Kind.{Kind}
use Rattle.def_kernel.specs.declared.shape.Kind.TheVariants.{Expression, Pattern, Member, Naming}
use Rattle.def_kernel.specs.Trees.{IsName}
use Rattle.ev_piece.specs.Pieces.{Piece, noun, call, def, seq, if_, escape, try_catch, final_pattern, variable, any, lit, method}
use Rattle.ev_desugar.specs.Words.{Words, arithmetic, updating, comparing, ranging, prefixing, ejector}
use Rattle.ev_desugar.specs.Rows.{null, truth, falsehood, body, made_list, sent_verb, send, assign_with, assign, put, prefix, same, different, conjunction, disjunction, compared, computed, binary, else_or_null, conditional, leavable, closure, repeated, key_or_any, iterated, while_loop, for_loop, escaped, caught, tried, fulfilment, fulfilled, settled, awaited, guarded, to_method, plain_method, object_pattern, defined_object, defined_function, defined_var, value_or_null, leave, noun_guard}
use Rattle.law_reading.specs.Expansion.Fitting.{Fits, FitsIf, AllFit}
use Rattle.law_reading.proofs.Expansion.Fitting.{fits_lit, fits_noun, fits_set, fits_def, fits_call, fits_seq, fits_if, fits_escape, fits_escape_catch, fits_try, fits_finally, fits_hide, fits_object, fits_method, fits_final, fits_variable, fits_any, fits_named, fits_unnamed}

-- a pattern with its block
abbrev pub FitsPair : Piece × Piece → Type 0
FitsPair c = Fits Pattern c.0 × Fits Expression c.1

abbrev pub FitsPairIf : Option (Piece × Piece) → Type 0
FitsPairIf None = Unit {0}
FitsPairIf (Some c) = FitsPair c

abbrev pub AllFitPairs : List (Piece × Piece) → Type 0
AllFitPairs [] = Unit {0}
AllFitPairs (c ∷ cs) = FitsPair c × AllFitPairs cs

-- the words of the rows
pub utf8 : (x : Words) → is_utf8 x ≡ true → IsUtf8 x
utf8 x e = IsUtf8-from_is_utf8 x e

pub name : (x : Words) → is_utf8 x ≡ true → is_identifier x ≡ true → IsName x
name x u e = record { utf8 = utf8 x u; is_one = e }

pub fits_word : (x : Words) → is_utf8 x ≡ true → is_identifier x ≡ true → Fits Expression (noun x)
fits_word x u e = fits_noun x (name x u e)

pub fits_null : Fits Expression null
unfolding null is_utf8 chars encode
fits_null = fits_word (codes "null") refl refl

pub fits_truth : Fits Expression truth
unfolding truth is_utf8 chars encode
fits_truth = fits_word (codes "true") refl refl

pub fits_falsehood : Fits Expression falsehood
unfolding falsehood is_utf8 chars encode
fits_falsehood = fits_word (codes "false") refl refl

pub either : (kind : Kind) (b : Bool) (p q : Piece) → Fits kind p → Fits kind q → Fits kind (cond b p q)
either kind true p q f g = f
either kind false p q f g = g

pub fits_body : (es : List Piece) → AllFit Expression es → Fits Expression (body es)
unfolding body is_utf8 chars encode
fits_body [] f = fits_null
fits_body (e ∷ []) f = f.0
fits_body (e ∷ d ∷ es) f = fits_seq e (d ∷ es) f.0 f.1

pub fits_made_list : (es : List Piece) → AllFit Expression es → Fits Expression (made_list es)
unfolding made_list is_utf8 chars encode
fits_made_list es f = fits_call (noun (codes "__makeList")) (codes "run") es (fits_word (codes "__makeList") refl refl) (utf8 (codes "run") refl) f

-- a verb, if there is one
pub data Spoken : Option Words → Type 0 where
  silent : Spoken None
  says : {v : Words} → IsUtf8 v → Spoken (Some v)

pub sent : (v : Option Words) → Spoken v → IsUtf8 (sent_verb v)
unfolding sent_verb is_utf8 chars encode
sent None silent = utf8 (codes "run") refl
sent (Some v) (says u) = u

pub fits_send : (a : Piece) (v : Option Words) (es : List Piece) → Fits Expression a → Spoken v → AllFit Expression es → Fits Expression (send a v es)
unfolding send is_utf8 chars encode
fits_send a v es f s g = fits_call (noun (codes "E")) (codes "send") (a ∷ lit (literals.Text (sent_verb v)) ∷ made_list es ∷ [])
    (fits_word (codes "E") refl refl) (utf8 (codes "send") refl) (f, (fits_lit (literals.Text (sent_verb v)) (sent v s), (fits_made_list es g, tt)))

pub one : (b : Bool) (v : Words) (o : Option Words) → is_utf8 v ≡ true → Spoken o → Spoken (cond b (Some v) o)
one true v o u s = says (utf8 v u)
one false v o u s = s

pub arithmetic_spoken : (op : Words) → Spoken (arithmetic op)
unfolding arithmetic is_utf8 chars encode
arithmetic_spoken op = one _ (codes "add") _ refl (one _ (codes "subtract") _ refl (one _ (codes "multiply") _ refl (one _ (codes "floorDivide") _ refl (one _ (codes "remainder") _ refl (one _ (codes "mod") _ refl (one _ (codes "pow") _ refl (one _ (codes "and") _ refl (one _ (codes "or") _ refl (one _ (codes "xor") _ refl silent)))))))))

pub updating_spoken : (op : Words) → Spoken (updating op)
unfolding updating is_utf8 chars encode
updating_spoken op = one _ (codes "add") _ refl (one _ (codes "subtract") _ refl (one _ (codes "multiply") _ refl (one _ (codes "floorDivide") _ refl (one _ (codes "remainder") _ refl (one _ (codes "mod") _ refl (one _ (codes "pow") _ refl (one _ (codes "and") _ refl (one _ (codes "or") _ refl (one _ (codes "xor") _ refl silent)))))))))

pub comparing_spoken : (op : Words) → Spoken (comparing op)
unfolding comparing is_utf8 chars encode
comparing_spoken op = one _ (codes "lessThan") _ refl (one _ (codes "leq") _ refl (one _ (codes "asBigAs") _ refl (one _ (codes "geq") _ refl (one _ (codes "greaterThan") _ refl silent))))

pub one_of : (b : Bool) (v w : Words) → is_utf8 v ≡ true → is_utf8 w ≡ true → IsUtf8 (cond b v w)
one_of true v w d e = utf8 v d
one_of false v w d e = utf8 w e

pub fits_assign_with : (v : Option Words) (x : Words) (e : Piece) → Spoken v → IsName x → Fits Expression e → Fits Expression (assign_with v x e)
unfolding assign_with is_utf8 chars encode
fits_assign_with None x e s i f = fits_set x e i f
fits_assign_with (Some v) x e (says u) i f = fits_set x (call (noun x) v (e ∷ [])) i (fits_call (noun x) v (e ∷ []) (fits_noun x i) u (f, tt))

pub fits_assign : (x op : Words) (e : Piece) → IsName x → Fits Expression e → Fits Expression (assign x op e)
unfolding assign is_utf8 chars encode
fits_assign x op e i f = fits_assign_with (updating op) x e (updating_spoken op) i f

pub fit_append : (kind : Kind) (ps qs : List Piece) → AllFit kind ps → AllFit kind qs → AllFit kind (ps ++ qs)
fit_append kind [] qs f g = g
fit_append kind (p ∷ ps) qs f g = (f.0, fit_append kind ps qs f.1 g)

pub fits_put : (o : Piece) (es : List Piece) (e : Piece) → Fits Expression o → AllFit Expression es → Fits Expression e → Fits Expression (put o es e)
unfolding put is_utf8 chars encode
fits_put o es e f g k = fits_call o (codes "put") (es ++ e ∷ []) f (utf8 (codes "put") refl) (fit_append Expression es (e ∷ []) g (k, tt))

pub fits_prefix : (op : Words) (a : Piece) → Fits Expression a → Fits Expression (prefix op a)
unfolding prefix prefixing is_utf8 chars encode
fits_prefix op a f = fits_call a (prefixing op) [] f (one_of _ (codes "negate") (codes "not") refl refl) tt

pub fits_same : (a b : Piece) → Fits Expression a → Fits Expression b → Fits Expression (same a b)
unfolding same is_utf8 chars encode
fits_same a b f g = fits_call (noun (codes "__equalizer")) (codes "sameEver") (a ∷ b ∷ []) (fits_word (codes "__equalizer") refl refl) (utf8 (codes "sameEver") refl) (f, (g, tt))

pub fits_different : (a b : Piece) → Fits Expression a → Fits Expression b → Fits Expression (different a b)
unfolding different is_utf8 chars encode
fits_different a b f g = fits_call (same a b) (codes "not") [] (fits_same a b f g) (utf8 (codes "not") refl) tt

pub fits_conjunction : (a b : Piece) → Fits Expression a → Fits Expression b → Fits Expression (conjunction a b)
unfolding conjunction is_utf8 chars encode
fits_conjunction a b f g = fits_if a (if_ b truth falsehood) falsehood f (fits_if b truth falsehood g fits_truth fits_falsehood) fits_falsehood

pub fits_disjunction : (a b : Piece) → Fits Expression a → Fits Expression b → Fits Expression (disjunction a b)
unfolding disjunction is_utf8 chars encode
fits_disjunction a b f g = fits_if a truth (if_ b truth falsehood) f fits_truth (fits_if b truth falsehood g fits_truth fits_falsehood)

pub fits_compared : (v : Option Words) (a : Piece) (op : Words) (b : Piece) → Spoken v → Fits Expression a → Fits Expression b → Fits Expression (compared v a op b)
unfolding compared ranging is_utf8 chars encode
fits_compared None a op b s f g = fits_call (noun (codes "__makeList")) (ranging op) (a ∷ b ∷ []) (fits_word (codes "__makeList") refl refl) (one_of _ (codes "through") (codes "till") refl refl) (f, (g, tt))
fits_compared (Some v) a op b (says u) f g = fits_call (noun (codes "__comparer")) v (a ∷ b ∷ []) (fits_word (codes "__comparer") refl refl) u (f, (g, tt))

pub fits_computed : (v : Option Words) (a : Piece) (op : Words) (b : Piece) → Spoken v → Fits Expression a → Fits Expression b → Fits Expression (computed v a op b)
unfolding computed is_utf8 chars encode
fits_computed None a op b s f g = fits_compared (comparing op) a op b (comparing_spoken op) f g
fits_computed (Some v) a op b (says u) f g = fits_call a v (b ∷ []) f u (g, tt)

pub fits_binary : (a : Piece) (op : Words) (b : Piece) → Fits Expression a → Fits Expression b → Fits Expression (binary a op b)
unfolding binary is_utf8 chars encode
fits_binary a op b f g =
    either Expression _ _ _ (fits_same a b f g) (either Expression _ _ _ (fits_different a b f g) (either Expression _ _ _ (fits_conjunction a b f g)
    (either Expression _ _ _ (fits_disjunction a b f g) (fits_computed (arithmetic op) a op b (arithmetic_spoken op) f g))))

pub fits_else : (c : Option Piece) → FitsIf Expression c → Fits Expression (else_or_null c)
unfolding else_or_null is_utf8 chars encode
fits_else None f = fits_null
fits_else (Some c) f = f

pub fits_conditional : (t b : Piece) (c : Option Piece) → Fits Expression t → Fits Expression b → FitsIf Expression c → Fits Expression (conditional t b c)
unfolding conditional is_utf8 chars encode
fits_conditional t b c f g k = fits_if t b (else_or_null c) f g (fits_else c k)

pub fits_leavable : (called : Bool) (x : Words) (b : Piece) → IsName x → Fits Expression b → Fits Expression (leavable called x b)
unfolding leavable is_utf8 chars encode
fits_leavable called x b i f = either Expression called (escape (final_pattern x None) b) b (fits_escape (final_pattern x None) b (fits_final x None i tt) f) f

pub fits_closure : (ps : List Piece) (b : Piece) → AllFit Pattern ps → Fits Expression b → Fits Expression (closure ps b)
unfolding closure is_utf8 chars encode
fits_closure ps b f g = fits_object (any None) [] (method (codes "run") ps b ∷ []) fits_unnamed tt (fits_method (codes "run") ps b (utf8 (codes "run") refl) f g, tt)

pub fits_repeated : (t c : Piece) → Fits Expression t → Fits Expression c → Fits Expression (repeated t c)
unfolding repeated is_utf8 chars encode
fits_repeated t c f g = fits_call (noun (codes "__loop")) (codes "run") (closure [] (if_ t (seq (c ∷ truth ∷ [])) falsehood) ∷ []) (fits_word (codes "__loop") refl refl) (utf8 (codes "run") refl)
    (fits_closure [] (if_ t (seq (c ∷ truth ∷ [])) falsehood) tt (fits_if t (seq (c ∷ truth ∷ [])) falsehood f (fits_seq c (truth ∷ []) g (fits_truth, tt)) fits_falsehood), tt)

pub fits_key : (k : Option Piece) → FitsIf Pattern k → Fits Pattern (key_or_any k)
unfolding key_or_any is_utf8 chars encode
fits_key None f = fits_any None tt
fits_key (Some k) f = f

pub fits_iterated : (k : Option Piece) (v c b : Piece) → FitsIf Pattern k → Fits Pattern v → Fits Expression c → Fits Expression b → Fits Expression (iterated k v c b)
unfolding iterated is_utf8 chars encode
fits_iterated k v c b f g d e = fits_call c (codes "iterate") (closure (key_or_any k ∷ v ∷ []) (seq (b ∷ null ∷ [])) ∷ []) d (utf8 (codes "iterate") refl)
    (fits_closure (key_or_any k ∷ v ∷ []) (seq (b ∷ null ∷ [])) (fits_key k f, (g, tt)) (fits_seq b (null ∷ []) e (fits_null, tt)), tt)

pub fits_while : (breaks continues : Bool) (t b : Piece) → Fits Expression t → Fits Expression b → Fits Expression (while_loop breaks continues t b)
unfolding while_loop is_utf8 chars encode
fits_while breaks continues t b f g = fits_leavable breaks (codes "__break") (repeated t (leavable continues (codes "__continue") b)) (name (codes "__break") refl refl)
    (fits_repeated t (leavable continues (codes "__continue") b) f (fits_leavable continues (codes "__continue") b (name (codes "__continue") refl refl) g))

pub fits_for : (breaks continues : Bool) (k : Option Piece) (v c b : Piece) → FitsIf Pattern k → Fits Pattern v → Fits Expression c → Fits Expression b → Fits Expression (for_loop breaks continues k v c b)
unfolding for_loop is_utf8 chars encode
fits_for breaks continues k v c b f g d e = fits_leavable breaks (codes "__break") (iterated k v c (leavable continues (codes "__continue") b)) (name (codes "__break") refl refl)
    (fits_iterated k v c (leavable continues (codes "__continue") b) f g d (fits_leavable continues (codes "__continue") b (name (codes "__continue") refl refl) e))

pub fits_escaped : (p b : Piece) (c : Option (Piece × Piece)) → Fits Pattern p → Fits Expression b → FitsPairIf c → Fits Expression (escaped p b c)
unfolding escaped is_utf8 chars encode
fits_escaped p b None f g k = fits_escape p b f g
fits_escaped p b (Some c) f g k = fits_escape_catch p b c.0 c.1 f g k.0 k.1

pub fits_caught : (b : Piece) (cs : List (Piece × Piece)) → Fits Expression b → AllFitPairs cs → Fits Expression (caught b cs)
unfolding caught is_utf8 chars encode
fits_caught b [] f g = f
fits_caught b (c ∷ cs) f g = fits_caught (try_catch b c.0 c.1) cs (fits_try b c.0 c.1 f g.0.0 g.0.1) g.1

pub fits_tried : (b : Piece) (cs : List (Piece × Piece)) (e : Option Piece) → Fits Expression b → AllFitPairs cs → FitsIf Expression e → Fits Expression (tried b cs e)
unfolding tried is_utf8 chars encode
fits_tried b cs (Some e) f g k = fits_finally (caught b cs) e (fits_caught b cs f g) k
fits_tried b [] None f g k = fits_hide b f
fits_tried b (c ∷ cs) None f g k = fits_caught b (c ∷ cs) f g

pub fits_fulfilled : (b : Piece) → Fits Expression b → Fits Expression (fulfilled b)
unfolding fulfilled fulfilment is_utf8 chars encode
fits_fulfilled b f = fits_seq fulfilment (b ∷ []) (fits_call (noun (codes "Ref")) (codes "fulfillment") (noun (codes "__w") ∷ []) (fits_word (codes "Ref") refl refl) (utf8 (codes "fulfillment") refl) (fits_word (codes "__w") refl refl, tt)) (f, tt)

pub fits_settled : (b : Piece) (c : Option (Piece × Piece)) → Fits Expression b → FitsPairIf c → Fits Expression (settled b c)
unfolding settled is_utf8 chars encode
fits_settled b None f g = fits_fulfilled b f
fits_settled b (Some c) f g = fits_try (fulfilled b) c.0 c.1 (fits_fulfilled b f) g.0 g.1

pub fits_awaited : (e b : Piece) (c : Option (Piece × Piece)) → Fits Expression e → Fits Expression b → FitsPairIf c → Fits Expression (awaited e b c)
unfolding awaited is_utf8 chars encode
fits_awaited e b c f g k = fits_call (noun (codes "Ref")) (codes "whenResolved") (e ∷ closure (final_pattern (codes "__w") None ∷ []) (settled b c) ∷ []) (fits_word (codes "Ref") refl refl) (utf8 (codes "whenResolved") refl)
    (f, (fits_closure (final_pattern (codes "__w") None ∷ []) (settled b c) (fits_final (codes "__w") None (name (codes "__w") refl refl) tt, tt) (fits_settled b c g k), tt))

pub fits_guarded : (g : Option Piece) (x : Piece) → FitsIf Expression g → Fits Expression x → Fits Expression (guarded g x)
unfolding guarded is_utf8 chars encode
fits_guarded None x f k = k
fits_guarded (Some g) x f k = fits_seq (def (final_pattern (codes "__r") (Some g)) None x) (noun (codes "__r") ∷ [])
    (fits_def (final_pattern (codes "__r") (Some g)) None x (fits_final (codes "__r") (Some g) (name (codes "__r") refl refl) f) tt k) (fits_word (codes "__r") refl refl, tt)

pub fits_to : (returns : Bool) (v : Words) (ps : List Piece) (g : Option Piece) (b : Piece) → IsUtf8 v → AllFit Pattern ps → FitsIf Expression g → Fits Expression b → Fits Member (to_method returns v ps g b)
unfolding to_method is_utf8 chars encode
fits_to returns v ps g b u f d e = fits_method v ps (guarded g (leavable returns (codes "__return") (seq (b ∷ null ∷ [])))) u f
    (fits_guarded g (leavable returns (codes "__return") (seq (b ∷ null ∷ []))) d (fits_leavable returns (codes "__return") (seq (b ∷ null ∷ [])) (name (codes "__return") refl refl) (fits_seq b (null ∷ []) e (fits_null, tt))))

pub fits_plain : (v : Words) (ps : List Piece) (g : Option Piece) (b : Piece) → IsUtf8 v → AllFit Pattern ps → FitsIf Expression g → Fits Expression b → Fits Member (plain_method v ps g b)
unfolding plain_method is_utf8 chars encode
fits_plain v ps g b u f d e = fits_method v ps (guarded g b) u f (fits_guarded g b d e)

-- the name of an object, if it has one
pub data Named : Option Words → Type 0 where
  nameless : Named None
  has_name : {x : Words} → IsName x → Named (Some x)

pub fits_object_pattern : (x : Option Words) → Named x → Fits Naming (object_pattern x)
unfolding object_pattern is_utf8 chars encode
fits_object_pattern None nameless = fits_unnamed
fits_object_pattern (Some x) (has_name i) = fits_named x i

pub fits_defined_object : (x : Option Words) (es ms : List Piece) → Named x → AllFit Expression es → AllFit Member ms → Fits Expression (defined_object x es ms)
unfolding defined_object is_utf8 chars encode
fits_defined_object x es ms i f g = fits_object (object_pattern x) es ms (fits_object_pattern x i) f g

pub fits_defined_function : (returns : Bool) (x : Words) (ps : List Piece) (g : Option Piece) (es : List Piece) (b : Piece)
    → IsName x → AllFit Pattern ps → FitsIf Expression g → AllFit Expression es → Fits Expression b → Fits Expression (defined_function returns x ps g es b)
unfolding defined_function is_utf8 chars encode
fits_defined_function returns x ps g es b i f d k e = fits_defined_object (Some x) es (to_method returns (codes "run") ps g b ∷ []) (has_name i) k (fits_to returns (codes "run") ps g b (utf8 (codes "run") refl) f d e, tt)

pub fits_defined_var : (x : Words) (g j : Option Piece) (e : Piece) → IsName x → FitsIf Expression g → FitsIf Expression j → Fits Expression e → Fits Expression (defined_var x g j e)
unfolding defined_var is_utf8 chars encode
fits_defined_var x g j e i f d k = fits_def (variable x g) j e (fits_variable x g i f) d k

pub fits_value : (e : Option Piece) → FitsIf Expression e → Fits Expression (value_or_null e)
unfolding value_or_null is_utf8 chars encode
fits_value None f = fits_null
fits_value (Some e) f = f

pub fits_leave : (word : Words) (e : Option Piece) → IsName (ejector word) → FitsIf Expression e → Fits Expression (leave word e)
unfolding leave is_utf8 chars encode
fits_leave word e i f = fits_call (noun (ejector word)) (codes "run") (value_or_null e ∷ []) (fits_noun (ejector word) i) (utf8 (codes "run") refl) (fits_value e f, tt)

pub fits_noun_guard : (x : Words) (es : List Piece) → IsName x → AllFit Expression es → Fits Expression (noun_guard x es)
unfolding noun_guard is_utf8 chars encode
fits_noun_guard x [] i f = fits_noun x i
fits_noun_guard x (e ∷ es) i f = fits_call (noun x) (codes "get") (e ∷ es) (fits_noun x i) (utf8 (codes "get") refl) f

-- two verbs of calls
pub run_utf8 : IsUtf8 (codes "run")
unfolding is_utf8 chars encode
run_utf8 = utf8 (codes "run") refl

pub get_utf8 : IsUtf8 (codes "get")
unfolding is_utf8 chars encode
get_utf8 = utf8 (codes "get") refl
