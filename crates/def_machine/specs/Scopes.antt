-- Scopes, the members of an object expression, what an audition tells, and kinds of values.
use Rattle.std.specs.Prelude.{ℕ, zero, suc, Bool, true, false, List, [], ◌∷◌, ◌++◌, Option, Some, None, ◌==◌, ◌&&◌, length, slice_get, codes}
use Rattle.def_machine.specs.Values.{Words, Value, Null, Flag, Number, Letter, Text, Prim, Items, Ref}
use Rattle.def_machine.specs.State.{Bound, Fixed, Slot, Binding, Scope, Cell, Freedom, IsSafe, IsItself, IsFinal, IsVar, FreeName, Thing, Made, Called, Back, Thrown, Left, SlotRead, Astray, Act, ◌>>=◌, ◌>>◌, give, throw, look, tell, stop, eject, ending, for_some}
use Rattle.def_machine.specs.Refs.{Place, Near}
use Rattle.def_machine.specs.Free.{same_words, has_words, entry}
use Rattle.def_machine.specs.Native.{Reply, Says, Fails, VoidGuard, IntGuard, BooleanGuard, CharGuard, TextGuard, FrozenGuard, Rule, DeepFrozen, Selfless, Functional, Primitive, Guarding, Judging, primitive, list_at, safe_value}
use Rattle.def_kernel.specs.declared.node.Node.{Node}
use Rattle.def_kernel.specs.declared.node.Node.TheVariants.{Object, Method, Matcher, Final}
use Rattle.def_machine.specs.Refs.{opened_refs}
use Rattle.def_machine.specs.Form.{opened_form}

-- what an expression gives: its value, and the scope after it
pub record Answer (N : Type 0) : Type 0 where
  pub value : Value N
  pub scope : Scope N

pub record Answers (N : Type 0) : Type 0 where
  pub values : List (Value N)
  pub scope : Scope N

-- What evaluates the nodes below: an expression, and a pattern at a specimen with an ejector. Null is no ejector.
pub record Evaluator (N : Type 0) : Type 0 where
  pub expression : ℕ → Scope N → Act N (Answer N)
  pub pattern : ℕ → Value N → Value N → Scope N → Act N (Scope N)

-- a call by an activation: receiver, verb and arguments
abbrev pub Caller : Type 0 → Type 0
Caller N = ℕ → Value N → Words → List (Value N) → Act N (Value N)

-- ---- scopes

unfoldable pub bound_in : {N : Type 0} → List (Binding N) → Words → Option (Bound N)
bound_in [] x = None
bound_in (b ∷ bs) x = elim (same_words b.noun x) [ true ↦ Some b.bound | false ↦ bound_in bs x ]

unfoldable pub with_noun : {N : Type 0} → Words → Bound N → Scope N → Scope N
with_noun x b here = record here { nouns = record { noun = x; bound = b } ∷ here.nouns }

unfoldable pub answered : {N : Type 0} → Scope N → Value N → Act N (Answer N)
answered here v = give (record { value = v; scope = here })

unfoldable pub read_cell : {N : Type 0} → ℕ → ℕ → Option (Cell N) → Act N (Value N)
read_cell act k None = stop Astray
read_cell act k (Some c) = do
  tell (SlotRead act k c.value)
  give c.value

-- reading what a noun stands for
unfoldable pub read_bound : {N : Type 0} → ℕ → Option (Bound N) → Words → Act N (Value N)
read_bound act (Some (Fixed v g)) x = give v
read_bound act (Some (Slot k)) x = do
  c ← look (λ s. slice_get s.slots k)
  read_cell act k c
read_bound act None x = for_some (safe_value x) give (stop Astray)

-- the guard under which a noun is bound that has none
unfoldable pub any_guard : {N : Type 0} → Value N
any_guard = Prim 8

-- ---- members of an object expression

-- what a method or matcher runs
pub record Body : Type 0 where
  pub patterns : List ℕ
  pub body : ℕ

unfoldable pub suits : Words → ℕ → Option Node → Option Body
suits verb n (Some (Method v ps b)) = elim (same_words v verb && (length ps == n)) [ true ↦ Some (record { patterns = ps; body = b }) | false ↦ None ]
suits verb n _ = None

-- the first method of that verb and that many patterns
unfoldable pub method_of : List Node → List ℕ → Words → ℕ → Option Body
method_of tree [] verb n = None
method_of tree (m ∷ ms) verb n = elim (suits verb n (slice_get tree m)) [ Some b ↦ Some b | None ↦ method_of tree ms verb n ]

-- a matcher's pattern and body
pub record Case : Type 0 where
  pub pattern : ℕ
  pub body : ℕ

unfoldable pub matcher_in : Option Node → List Case
matcher_in (Some (Matcher p b)) = record { pattern = p; body = b } ∷ []
matcher_in _ = []

unfoldable pub matchers_of : List Node → List ℕ → List Case
matchers_of tree [] = []
matchers_of tree (m ∷ ms) = matcher_in (slice_get tree m) ++ matchers_of tree ms

unfoldable pub members_of : Option Node → List ℕ
members_of (Some (Object p auditors members)) = members
members_of _ = []

unfoldable pub captures : {N : Type 0} → Scope N → List Words → List (Binding N)
captures here [] = []
captures here (x ∷ xs) = elim (bound_in here.nouns x) [
  | Some b ↦ record { noun = x; bound = b } ∷ captures here xs
  | None ↦ captures here xs
]

-- the scope in which an object's name is bound to it
unfoldable pub named : {N : Type 0} → Option Node → Value N → Scope N → Scope N
named (Some (Final x g)) v here = with_noun x (Fixed v any_guard) here
named _ v here = here

-- the noun by which an object's members call the object itself, where its pattern binds one
unfoldable pub own_noun : Option Node → Option Words
own_noun (Some (Final x g)) = Some x
own_noun _ = None

-- how the history calls an object
unfoldable pub name_of : Option Node → Words
name_of (Some (Final x g)) = x
name_of _ = codes "_"

-- ---- auditing

unfoldable pub freedom_of_bound : {N : Type 0} → Option (Bound N) → Words → Freedom N
freedom_of_bound (Some (Fixed v g)) x = IsFinal g
freedom_of_bound (Some (Slot k)) x = IsVar
freedom_of_bound None x = IsSafe

unfoldable pub is_own : Option Words → Words → Bool
is_own (Some own) x = same_words own x
is_own None x = false

unfoldable pub freedom_of : {N : Type 0} → Option Words → List (Binding N) → Words → Freedom N
freedom_of own nouns x = elim (is_own own x) [ true ↦ IsItself | false ↦ freedom_of_bound (bound_in nouns x) x ]

unfoldable pub free_names : {N : Type 0} → Option Words → List (Binding N) → List Words → List (FreeName N)
free_names own nouns [] = []
free_names own nouns (x ∷ xs) = record { noun = x; freedom = freedom_of own nouns x } ∷ free_names own nouns xs

-- whether what is bound under the guard of that primitive is frozen
unfoldable pub freezes : Primitive → Bool
freezes (Guarding FrozenGuard) = true
freezes (Guarding IntGuard) = true
freezes (Guarding BooleanGuard) = true
freezes (Guarding CharGuard) = true
freezes (Guarding TextGuard) = true
freezes (Guarding VoidGuard) = true
freezes _ = false

unfoldable pub frozen_guard : {N : Type 0} → Value N → Bool
frozen_guard (Prim n) = freezes (primitive n)
frozen_guard _ = false

unfoldable pub frozen_freedom : {N : Type 0} → Freedom N → Bool
frozen_freedom IsSafe = true
frozen_freedom IsItself = true
frozen_freedom (IsFinal g) = frozen_guard g
frozen_freedom IsVar = false

unfoldable pub not_itself : {N : Type 0} → Freedom N → Bool
not_itself IsItself = false
not_itself _ = true

-- whether what is bound under the guard of that primitive is an integer, boolean, character, text or null
unfoldable pub guards_data : Primitive → Bool
guards_data (Guarding IntGuard) = true
guards_data (Guarding BooleanGuard) = true
guards_data (Guarding CharGuard) = true
guards_data (Guarding TextGuard) = true
guards_data (Guarding VoidGuard) = true
guards_data _ = false

unfoldable pub data_guard : {N : Type 0} → Value N → Bool
data_guard (Prim n) = guards_data (primitive n)
data_guard _ = false

unfoldable pub functional_freedom : {N : Type 0} → Words → Freedom N → Bool
functional_freedom x IsSafe = elim (has_words x (codes "E" ∷ codes "Ref" ∷ [])) [ true ↦ false | false ↦ true ]
functional_freedom x IsItself = true
functional_freedom x (IsFinal g) = data_guard g
functional_freedom x IsVar = false

-- What a rule wants of a free name. DeepFrozen: that it is of the safe scope, the object's own, or bound finally under a frozen guard.
-- Selfless: that it is not the object's own. Functional: that it is of the safe scope other than E and Ref, the object's own, or bound
-- finally under a guard of data.
unfoldable pub fits : {N : Type 0} → Rule → FreeName N → Bool
fits DeepFrozen f = frozen_freedom f.freedom
fits Selfless f = not_itself f.freedom
fits Functional f = functional_freedom f.noun f.freedom

-- an object meets a rule by its free names
unfoldable pub meets : {N : Type 0} → Rule → List (FreeName N) → Bool
meets r [] = true
meets r (f ∷ fs) = elim (fits r f) [ true ↦ meets r fs | false ↦ false ]

unfoldable pub guard_told : {N : Type 0} → Freedom N → Value N
guard_told IsSafe = any_guard
guard_told IsItself = any_guard
guard_told (IsFinal g) = g
guard_told IsVar = Null

-- the guard of a free name
unfoldable pub guard_at : {N : Type 0} → List (FreeName N) → Words → Reply N
guard_at [] x = Fails (codes "not free")
guard_at (f ∷ fs) x = elim (same_words f.noun x) [ true ↦ Says (guard_told f.freedom) | false ↦ guard_at fs x ]

unfoldable pub guard_asked : {N : Type 0} → List (FreeName N) → Value N → Reply N
guard_asked fs (Text x) = guard_at fs x
guard_asked fs _ = Fails (codes "bad argument")

-- the rule of a native auditor; the guard DeepFrozen is one too
unfoldable pub rule_of : Primitive → Option Rule
rule_of (Guarding FrozenGuard) = Some DeepFrozen
rule_of (Judging r) = Some r
rule_of _ = None

unfoldable pub is_auditor : Primitive → Bool
is_auditor p = elim (rule_of p) [ Some r ↦ true | None ↦ false ]

-- a native auditor approves by its rule
unfoldable pub approves : {N : Type 0} → Primitive → List (FreeName N) → Bool
approves p fs = elim (rule_of p) [ Some r ↦ meets r fs | None ↦ false ]

-- what is asked of an audition
pub data AuditionAsk (N : Type 0) : Type 0 where
  GetsForm : AuditionAsk N
  GetsGuard : Value N → AuditionAsk N
  Asks : Value N → AuditionAsk N
  NoAuditionAsk : AuditionAsk N

unfoldable pub audition_ask : {N : Type 0} → Words → List (Value N) → AuditionAsk N
audition_ask verb [] = entry ((codes "getObjectExpr", GetsForm) ∷ []) NoAuditionAsk verb
audition_ask verb (x ∷ []) = entry ((codes "getGuard", GetsGuard x) ∷ (codes "ask", Asks x) ∷ []) NoAuditionAsk verb
audition_ask verb _ = NoAuditionAsk

-- what is asked of a resolver
pub data ResolverAsk (N : Type 0) : Type 0 where
  Resolves : Value N → ResolverAsk N
  Smashes : Value N → ResolverAsk N
  NoResolverAsk : ResolverAsk N

unfoldable pub resolver_ask : {N : Type 0} → Words → List (Value N) → ResolverAsk N
resolver_ask verb (x ∷ []) = entry ((codes "resolve", Resolves x) ∷ (codes "smash", Smashes x) ∷ []) NoResolverAsk verb
resolver_ask verb _ = NoResolverAsk

-- the value with which a call leaves by an ejector
unfoldable pub ejector_ask : {N : Type 0} → Words → List (Value N) → Option (Value N)
ejector_ask verb [] = entry ((codes "run", Some Null) ∷ []) None verb
ejector_ask verb (x ∷ []) = entry ((codes "run", Some x) ∷ []) None verb
ejector_ask verb _ = None

-- ---- kinds

unfoldable pub is_null : {N : Type 0} → Value N → Bool
is_null Null = true
is_null _ = false

unfoldable pub is_int : {N : Type 0} → Value N → Bool
is_int (Number z) = true
is_int _ = false

unfoldable pub is_boolean : {N : Type 0} → Value N → Bool
is_boolean (Flag b) = true
is_boolean _ = false

unfoldable pub is_char : {N : Type 0} → Value N → Bool
is_char (Letter c) = true
is_char _ = false

unfoldable pub is_text : {N : Type 0} → Value N → Bool
is_text (Text t) = true
is_text _ = false

unfoldable pub is_list : {N : Type 0} → Value N → Bool
is_list (Items k) = true
is_list _ = false

unfoldable pub is_true : {N : Type 0} → Value N → Bool
is_true (Flag b) = b
is_true _ = false

unfoldable pub is_near : {N : Type 0} → Place N → Bool
is_near Near = true
is_near _ = false

unfoldable pub where_true : {N : Type 0} → Bool → Value N → Option (Value N)
where_true true y = Some y
where_true false y = None

unfoldable pub all_plain : {N : Type 0} → (Value N → Bool) → List (Value N) → Bool
all_plain f [] = true
all_plain f (v ∷ vs) = elim (f v) [ true ↦ all_plain f vs | false ↦ false ]

unfoldable pub plain_by : {N : Type 0} → (List (Value N) → Bool) → List (List (Value N)) → Value N → Bool
plain_by members ls (Items k) = members (list_at ls k)
plain_by members ls (Ref n) = false
plain_by members ls v = true

-- whether no name stands in it, at any depth
unfoldable pub is_plain : {N : Type 0} → ℕ → List (List (Value N)) → Value N → Bool
is_plain zero ls v = plain_by (λ vs. false) ls v
is_plain (suc d) ls v = plain_by (all_plain (λ w. is_plain d ls w)) ls v

unfoldable pub stamps_of : {N : Type 0} → Option (Thing N) → List (Value N)
stamps_of (Some (Made node caught stamps)) = stamps
stamps_of _ = []

-- with the call's last line, by how it ended
unfoldable pub ended : {N : Type 0} → ℕ → Act N (Value N) → Act N (Value N)
ended act m = ending (λ v. tell (Back act v) >> give v) (λ p. tell (Thrown act p) >> throw p) (λ n v. tell (Left act) >> eject n v) m

-- a call that begins no activation, with its lines
unfoldable pub with_lines : {N : Type 0} → ℕ → Value N → Words → List (Value N) → Act N (Value N) → Act N (Value N)
with_lines act x verb args m = do
  tell (Called act x verb args None)
  ended act m

-- opens each definition of this file, and of those below
unfoldable pub opened_scopes : Unit {0}
unfolding bound_in with_noun answered read_cell read_bound any_guard suits method_of matcher_in matchers_of members_of captures named own_noun name_of freedom_of_bound is_own freedom_of free_names freezes frozen_guard frozen_freedom not_itself guards_data data_guard functional_freedom fits meets guard_told guard_at guard_asked rule_of is_auditor approves audition_ask resolver_ask ejector_ask is_null is_int is_boolean is_char is_text is_list is_true is_near where_true all_plain plain_by is_plain stamps_of ended with_lines opened_refs opened_form
opened_scopes = tt
