-- What each row of the expansion weighs: no more than its parts and some nodes.
use Rattle.std.specs.Str.{bytes_eq}
use Rattle.std.proofs.Common.{◌≡◌, ℕ, ◌+◌, ◌≤◌, Bool, true, false, cond, List, [], ◌∷◌, ◌++◌, Option, Some, None, codes, arith, refl}
use Rattle.def_kernel.specs.declared.node.Literal.TheVariants as literals
use Rattle.ev_piece.specs.Pieces.{Piece, noun, call, def, seq, if_, try_catch, final_pattern, variable, any, lit, method}
use Rattle.ev_desugar.specs.Words.{Words, arithmetic, updating, comparing, ranging, prefixing, ejector}
use Rattle.ev_desugar.specs.Rows.{null, truth, falsehood, body, made_list, sent_verb, send, assign_with, assign, put, prefix, same, different, conjunction, disjunction, compared, computed, binary, else_or_null, conditional, leavable, closure, repeated, key_or_any, iterated, while_loop, for_loop, escaped, caught, tried, fulfilment, fulfilled, settled, awaited, guarded, to_method, plain_method, object_pattern, defined_object, defined_function, defined_var, value_or_null, leave, noun_guard}
use Rattle.law_reading.specs.Sized.Weights.{over, weight}
use Rattle.law_reading.proofs.Sized.Pieces.{total, total_append, weight_if, weighs_lit, weighs_noun, weighs_set, weighs_def, weighs_call, weighs_seq, weighs_if, weighs_escape, weighs_escape_catch, weighs_try, weighs_finally, weighs_hide, weighs_object, weighs_method, weighs_final, weighs_variable, weighs_any, weighs_word}

-- a word, if there is one, is not too long
pub data Brief : Option Words → Type 0 where
  silent : Brief None
  says : {v : Words} → over v ≡ 0 → Brief (Some v)

weighs_null : weight null ≡ 1
unfolding null
weighs_null = weighs_word (codes "null") refl

weighs_truth : weight truth ≡ 1
unfolding truth
weighs_truth = weighs_word (codes "true") refl

weighs_falsehood : weight falsehood ≡ 1
unfolding falsehood
weighs_falsehood = weighs_word (codes "false") refl

-- a piece is no heavier than this
record Light (n : ℕ) (p : Piece) : Type 0 where
  most : weight p ≤ n

either : (n : ℕ) (b : Bool) (p q : Piece) → Light n p → Light n q → Light n (cond b p q)
either n true p q h k = h
either n false p q h k = k

pub light_body : (es : List Piece) → weight (body es) ≤ 1 + total es
unfolding body
light_body [] = omega (arith, weighs_null)
light_body (e ∷ []) = omega arith
light_body (e ∷ d ∷ es) = omega (arith, weighs_seq (e ∷ d ∷ es))

pub light_made_list : (es : List Piece) → weight (made_list es) ≡ 2 + total es
unfolding made_list
light_made_list es = omega (arith, weighs_call (noun (codes "__makeList")) (codes "run") es, weighs_word (codes "__makeList") refl)

over_sent : (v : Option Words) → Brief v → over (sent_verb v) ≡ 0
unfolding sent_verb
over_sent None silent = refl
over_sent (Some v) (says u) = u

pub light_send : (a : Piece) (v : Option Words) (es : List Piece) → Brief v → weight (send a v es) ≡ 5 + (weight a + total es)
unfolding send
light_send a v es h = omega (arith, weighs_call (noun (codes "E")) (codes "send") (a ∷ lit (literals.Text (sent_verb v)) ∷ made_list es ∷ []), weighs_word (codes "E") refl, weighs_lit (literals.Text (sent_verb v)), light_made_list es, over_sent v h)

-- a chosen verb is short
one : (b : Bool) (v : Words) (o : Option Words) → over v ≡ 0 → Brief o → Brief (cond b (Some v) o)
one true v o u s = says u
one false v o u s = s

arithmetic_short : (op : Words) → Brief (arithmetic op)
unfolding arithmetic
arithmetic_short op = one _ (codes "add") _ refl (one _ (codes "subtract") _ refl (one _ (codes "multiply") _ refl (one _ (codes "floorDivide") _ refl (one _ (codes "remainder") _ refl (one _ (codes "mod") _ refl (one _ (codes "pow") _ refl (one _ (codes "and") _ refl (one _ (codes "or") _ refl (one _ (codes "xor") _ refl silent)))))))))

updating_short : (op : Words) → Brief (updating op)
unfolding updating
updating_short op = one _ (codes "add") _ refl (one _ (codes "subtract") _ refl (one _ (codes "multiply") _ refl (one _ (codes "floorDivide") _ refl (one _ (codes "remainder") _ refl (one _ (codes "mod") _ refl (one _ (codes "pow") _ refl (one _ (codes "and") _ refl (one _ (codes "or") _ refl (one _ (codes "xor") _ refl silent)))))))))

comparing_short : (op : Words) → Brief (comparing op)
unfolding comparing
comparing_short op = one _ (codes "lessThan") _ refl (one _ (codes "leq") _ refl (one _ (codes "asBigAs") _ refl (one _ (codes "geq") _ refl (one _ (codes "greaterThan") _ refl silent))))

one_of : (b : Bool) (v w : Words) → over v ≡ 0 → over w ≡ 0 → over (cond b v w) ≡ 0
one_of true v w d e = d
one_of false v w d e = e

assign_by : (v : Option Words) (x : Words) (e : Piece) → Brief v → over x ≡ 0 → weight (assign_with v x e) ≤ 3 + weight e
unfolding assign_with
assign_by None x e s h = omega (arith, weighs_set x e, h)
assign_by (Some v) x e (says s) h = omega (arith, weighs_set x (call (noun x) v (e ∷ [])), weighs_call (noun x) v (e ∷ []), weighs_noun x, h, s)

pub light_assign : (x op : Words) (e : Piece) → over x ≡ 0 → weight (assign x op e) ≤ 3 + weight e
unfolding assign
light_assign x op e h = assign_by (updating op) x e (updating_short op) h

pub light_put : (o : Piece) (es : List Piece) (e : Piece) → weight (put o es e) ≡ 1 + (weight o + (total es + weight e))
unfolding put
light_put o es e = omega (arith, weighs_call o (codes "put") (es ++ e ∷ []), total_append es (e ∷ []))

over_prefixing : (op : Words) → over (prefixing op) ≡ 0
unfolding prefixing
over_prefixing op = one_of (bytes_eq op (codes "-")) (codes "negate") (codes "not") refl refl

over_ranging : (op : Words) → over (ranging op) ≡ 0
unfolding ranging
over_ranging op = one_of (bytes_eq op (codes "..")) (codes "through") (codes "till") refl refl

pub light_prefix : (op : Words) (a : Piece) → weight (prefix op a) ≡ 1 + weight a
unfolding prefix
light_prefix op a = omega (arith, weighs_call a (prefixing op) [], over_prefixing op)

light_same : (a b : Piece) → weight (same a b) ≡ 2 + (weight a + weight b)
unfolding same
light_same a b = omega (arith, weighs_call (noun (codes "__equalizer")) (codes "sameEver") (a ∷ b ∷ []), weighs_word (codes "__equalizer") refl)

light_different : (a b : Piece) → weight (different a b) ≡ 3 + (weight a + weight b)
unfolding different
light_different a b = omega (arith, weighs_call (same a b) (codes "not") [], light_same a b)

light_conjunction : (a b : Piece) → weight (conjunction a b) ≡ 5 + (weight a + weight b)
unfolding conjunction
light_conjunction a b = omega (arith, weighs_if a (if_ b truth falsehood) falsehood, weighs_if b truth falsehood, weighs_truth, weighs_falsehood)

light_disjunction : (a b : Piece) → weight (disjunction a b) ≡ 5 + (weight a + weight b)
unfolding disjunction
light_disjunction a b = omega (arith, weighs_if a truth (if_ b truth falsehood), weighs_if b truth falsehood, weighs_truth, weighs_falsehood)

light_compared : (v : Option Words) (a : Piece) (op : Words) (b : Piece) → Brief v → weight (compared v a op b) ≡ 2 + (weight a + weight b)
unfolding compared
light_compared None a op b s = omega (arith, weighs_call (noun (codes "__makeList")) (ranging op) (a ∷ b ∷ []), weighs_word (codes "__makeList") refl, over_ranging op)
light_compared (Some v) a op b (says s) = omega (arith, weighs_call (noun (codes "__comparer")) v (a ∷ b ∷ []), weighs_word (codes "__comparer") refl, s)

light_computed : (v : Option Words) (a : Piece) (op : Words) (b : Piece) → Brief v → weight (computed v a op b) ≤ 2 + (weight a + weight b)
unfolding computed
light_computed None a op b s = omega (arith, light_compared (comparing op) a op b (comparing_short op))
light_computed (Some v) a op b (says s) = omega (arith, weighs_call a v (b ∷ []), s)

binary_light : (a : Piece) (op : Words) (b : Piece) → Light (5 + (weight a + weight b)) (binary a op b)
unfolding binary
binary_light a op b =
    let s : Light (5 + (weight a + weight b)) (same a b) = record { most = omega (arith, light_same a b) } in
    let d : Light (5 + (weight a + weight b)) (different a b) = record { most = omega (arith, light_different a b) } in
    let c : Light (5 + (weight a + weight b)) (conjunction a b) = record { most = omega (arith, light_conjunction a b) } in
    let o : Light (5 + (weight a + weight b)) (disjunction a b) = record { most = omega (arith, light_disjunction a b) } in
    let e : Light (5 + (weight a + weight b)) (computed (arithmetic op) a op b) = record { most = omega (arith, light_computed (arithmetic op) a op b (arithmetic_short op)) } in
    either _ _ _ _ s (either _ _ _ _ d (either _ _ _ _ c (either _ _ _ _ o e)))

pub light_binary : (a : Piece) (op : Words) (b : Piece) → weight (binary a op b) ≤ 5 + (weight a + weight b)
light_binary a op b = (binary_light a op b).most

light_else : (c : Option Piece) → weight (else_or_null c) ≤ 1 + weight_if c
unfolding else_or_null
light_else None = omega (arith, weighs_null)
light_else (Some c) = omega arith

pub light_conditional : (t b : Piece) (c : Option Piece) → weight (conditional t b c) ≤ 2 + (weight t + (weight b + weight_if c))
unfolding conditional
light_conditional t b c = omega (arith, weighs_if t b (else_or_null c), light_else c)

light_leavable : (called : Bool) (x : Words) (b : Piece) → over x ≡ 0 → weight (leavable called x b) ≤ 2 + weight b
unfolding leavable
light_leavable true x b h = omega (arith, weighs_escape (final_pattern x None) b, weighs_final x None, h)
light_leavable false x b h = omega arith

pub light_closure : (ps : List Piece) (b : Piece) → weight (closure ps b) ≡ 3 + (total ps + weight b)
unfolding closure
light_closure ps b = omega (arith, weighs_object (any None) [] (method (codes "run") ps b ∷ []), weighs_any None, weighs_method (codes "run") ps b)

light_repeated : (t c : Piece) → weight (repeated t c) ≡ 9 + (weight t + weight c)
unfolding repeated
light_repeated t c = omega (
  arith,
  weighs_call (noun (codes "__loop")) (codes "run") (closure [] (if_ t (seq (c ∷ truth ∷ [])) falsehood) ∷ []),
  weighs_word (codes "__loop") refl,
  light_closure [] (if_ t (seq (c ∷ truth ∷ [])) falsehood),
  weighs_if t (seq (c ∷ truth ∷ [])) falsehood,
  weighs_seq (c ∷ truth ∷ []),
  weighs_truth,
  weighs_falsehood,
)

light_key : (k : Option Piece) → weight (key_or_any k) ≤ 1 + weight_if k
unfolding key_or_any
light_key None = omega (arith, weighs_any None)
light_key (Some k) = omega arith

light_iterated : (k : Option Piece) (v c b : Piece) → weight (iterated k v c b) ≤ 7 + (weight_if k + (weight v + (weight c + weight b)))
unfolding iterated
light_iterated k v c b = omega (arith, weighs_call c (codes "iterate") (closure (key_or_any k ∷ v ∷ []) (seq (b ∷ null ∷ [])) ∷ []), light_closure (key_or_any k ∷ v ∷ []) (seq (b ∷ null ∷ [])), light_key k, weighs_seq (b ∷ null ∷ []), weighs_null)

pub light_while : (breaks continues : Bool) (t b : Piece) → weight (while_loop breaks continues t b) ≤ 13 + (weight t + weight b)
unfolding while_loop
light_while breaks continues t b = omega (arith, light_leavable breaks (codes "__break") (repeated t (leavable continues (codes "__continue") b)) refl, light_repeated t (leavable continues (codes "__continue") b), light_leavable continues (codes "__continue") b refl)

pub light_for : (breaks continues : Bool) (k : Option Piece) (v c b : Piece) → weight (for_loop breaks continues k v c b) ≤ 11 + (weight_if k + (weight v + (weight c + weight b)))
unfolding for_loop
light_for breaks continues k v c b = omega (arith, light_leavable breaks (codes "__break") (iterated k v c (leavable continues (codes "__continue") b)) refl, light_iterated k v c (leavable continues (codes "__continue") b), light_leavable continues (codes "__continue") b refl)

-- a pattern with its block
abbrev pub pair_weight : Piece × Piece → ℕ
pair_weight c = weight c.0 + weight c.1

abbrev pub pair_if : Option (Piece × Piece) → ℕ
pair_if None = 0
pair_if (Some c) = pair_weight c

-- each pair is round what comes before it by a node of its own
abbrev pub pairs_weight : List (Piece × Piece) → ℕ
pairs_weight [] = 0
pairs_weight (c ∷ cs) = 1 + (pair_weight c + pairs_weight cs)

pub light_escaped : (p b : Piece) (c : Option (Piece × Piece)) → weight (escaped p b c) ≡ 1 + (weight p + (weight b + pair_if c))
unfolding escaped
light_escaped p b None = omega (arith, weighs_escape p b)
light_escaped p b (Some c) = omega (arith, weighs_escape_catch p b c.0 c.1)

light_caught : (b : Piece) (cs : List (Piece × Piece)) → weight (caught b cs) ≡ weight b + pairs_weight cs
unfolding caught
light_caught b [] = omega arith
light_caught b (c ∷ cs) = omega (arith, light_caught (try_catch b c.0 c.1) cs, weighs_try b c.0 c.1)

pub light_tried : (b : Piece) (cs : List (Piece × Piece)) (f : Option Piece) → weight (tried b cs f) ≤ 1 + (weight b + (pairs_weight cs + weight_if f))
unfolding tried
light_tried b cs (Some f) = omega (arith, weighs_finally (caught b cs) f, light_caught b cs)
light_tried b [] None = omega (arith, weighs_hide b)
light_tried b (c ∷ cs) None = omega (arith, light_caught b (c ∷ cs))

light_fulfilled : (b : Piece) → weight (fulfilled b) ≡ 4 + weight b
unfolding fulfilled fulfilment
light_fulfilled b = omega (arith, weighs_seq (fulfilment ∷ b ∷ []), weighs_call (noun (codes "Ref")) (codes "fulfillment") (noun (codes "__w") ∷ []), weighs_word (codes "Ref") refl, weighs_word (codes "__w") refl)

light_settled : (b : Piece) (c : Option (Piece × Piece)) → weight (settled b c) ≤ 5 + (weight b + pair_if c)
unfolding settled
light_settled b None = omega (arith, light_fulfilled b)
light_settled b (Some c) = omega (arith, weighs_try (fulfilled b) c.0 c.1, light_fulfilled b)

pub light_awaited : (e b : Piece) (c : Option (Piece × Piece)) → weight (awaited e b c) ≤ 11 + (weight e + (weight b + pair_if c))
unfolding awaited
light_awaited e b c = omega (
  arith,
  weighs_call (noun (codes "Ref")) (codes "whenResolved") (e ∷ closure (final_pattern (codes "__w") None ∷ []) (settled b c) ∷ []),
  weighs_word (codes "Ref") refl,
  light_closure (final_pattern (codes "__w") None ∷ []) (settled b c),
  weighs_final (codes "__w") None,
  light_settled b c,
)

light_guarded : (g : Option Piece) (x : Piece) → weight (guarded g x) ≤ 4 + (weight_if g + weight x)
unfolding guarded
light_guarded None x = omega arith
light_guarded (Some g) x = omega (arith, weighs_seq (def (final_pattern (codes "__r") (Some g)) None x ∷ noun (codes "__r") ∷ []), weighs_def (final_pattern (codes "__r") (Some g)) None x, weighs_final (codes "__r") (Some g), weighs_word (codes "__r") refl)

pub light_to : (returns : Bool) (v : Words) (ps : List Piece) (g : Option Piece) (b : Piece) → over v ≡ 0 → weight (to_method returns v ps g b) ≤ 9 + (total ps + (weight_if g + weight b))
unfolding to_method
light_to returns v ps g b h = omega (
  arith,
  weighs_method v ps (guarded g (leavable returns (codes "__return") (seq (b ∷ null ∷ [])))),
  light_guarded g (leavable returns (codes "__return") (seq (b ∷ null ∷ []))),
  light_leavable returns (codes "__return") (seq (b ∷ null ∷ [])) refl,
  weighs_seq (b ∷ null ∷ []),
  weighs_null,
  h,
)

pub light_plain : (v : Words) (ps : List Piece) (g : Option Piece) (b : Piece) → over v ≡ 0 → weight (plain_method v ps g b) ≤ 5 + (total ps + (weight_if g + weight b))
unfolding plain_method
light_plain v ps g b h = omega (arith, weighs_method v ps (guarded g b), light_guarded g b, h)

light_pattern : (x : Option Words) → Brief x → weight (object_pattern x) ≡ 1
unfolding object_pattern
light_pattern None h = omega (arith, weighs_any None)
light_pattern (Some x) (says h) = omega (arith, weighs_final x None, h)

pub light_defined_object : (x : Option Words) (es ms : List Piece) → Brief x → weight (defined_object x es ms) ≡ 2 + (total es + total ms)
unfolding defined_object
light_defined_object x es ms h = omega (arith, weighs_object (object_pattern x) es ms, light_pattern x h)

pub light_defined_function : (returns : Bool) (x : Words) (ps : List Piece) (g : Option Piece) (es : List Piece) (b : Piece) → over x ≡ 0 → weight (defined_function returns x ps g es b) ≤ 11 + (total ps + (weight_if g + (total es + weight b)))
unfolding defined_function
light_defined_function returns x ps g es b h = omega (arith, light_defined_object (Some x) es (to_method returns (codes "run") ps g b ∷ []) (says h), light_to returns (codes "run") ps g b refl)

pub light_defined_var : (x : Words) (g j : Option Piece) (e : Piece) → over x ≡ 0 → weight (defined_var x g j e) ≡ 2 + (weight_if g + (weight_if j + weight e))
unfolding defined_var
light_defined_var x g j e h = omega (arith, weighs_def (variable x g) j e, weighs_variable x g, h)

light_value : (e : Option Piece) → weight (value_or_null e) ≤ 1 + weight_if e
unfolding value_or_null
light_value None = omega (arith, weighs_null)
light_value (Some e) = omega arith

pub light_leave : (word : Words) (e : Option Piece) → over (ejector word) ≡ 0 → weight (leave word e) ≤ 3 + weight_if e
unfolding leave
light_leave word e h = omega (arith, weighs_call (noun (ejector word)) (codes "run") (value_or_null e ∷ []), weighs_noun (ejector word), light_value e, h)

pub light_noun_guard : (x : Words) (es : List Piece) → over x ≡ 0 → weight (noun_guard x es) ≤ 2 + total es
unfolding noun_guard
light_noun_guard x [] h = omega (arith, weighs_noun x, h)
light_noun_guard x (e ∷ es) h = omega (arith, weighs_call (noun x) (codes "get") (e ∷ es), weighs_noun x, h)
