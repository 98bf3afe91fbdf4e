-- Looking at nodes one after another finds the nouns that a pattern binds.
use Rattle.std.proofs.Common.{◌≡◌, ℕ, zero, suc, ◌+◌, ◌-◌, ◌<◌, true, false, List, [], ◌∷◌, ◌++◌, length, refl, ap, sym, subst, ◌∙◌, arith, append_assoc, append-nil}
use Rattle.std.specs.Prelude.{slice_get, Option, Some, None, Result, Ok, Err, OnOk}
use Rattle.ev_base.specs.declared.memory.Memory.{Memory}
use Rattle.def_kernel.specs.declared.node.Node.{Node}
use Rattle.def_kernel.specs.declared.node.Node.TheVariants.{Set, Def, Call, Sequence, MatchBind, Object, Final, Var, Any, ListPattern, Via}
use Rattle.def_machine.specs.Free.{BoundNoun, Binder, of_all, of_option, of_node, of_found, bound_at, bound_nouns}
use Rattle.ev_steps.specs.declared.binders.Task.{Task}
use Rattle.ev_steps.specs.Binders.{own, below, perhaps, at_level, own_of, below_of, finds, leaves, left}

level_append : (d : ℕ) (xs ys : List ℕ) → at_level d (xs ++ ys) ≡ at_level d xs ++ at_level d ys
level_append d [] ys = refl
level_append d (x ∷ xs) ys = ap (λ ts. record { node = x; height = d } ∷ ts) (level_append d xs ys)

pub defined : (d p e : ℕ) (j : Option ℕ) (ts us vs ws : List Task) → us ≡ record { node = e; height = d } ∷ ts → vs ≡ at_level d (perhaps j) ++ us → ws ≡ record { node = p; height = d } ∷ vs
    → ws ≡ at_level d (p ∷ perhaps j ++ e ∷ []) ++ ts
defined d p e j ts us vs ws a b c =
    c ∙ ap (λ xs. record { node = p; height = d } ∷ xs)
    (b ∙ ap (λ xs. at_level d (perhaps j) ++ xs) a
    ∙ sym (append_assoc (at_level d (perhaps j)) (record { node = e; height = d } ∷ []) ts)
    ∙ ap (λ xs. xs ++ ts) (sym (level_append d (perhaps j) (e ∷ []))))

-- ---- what a node binds

all_append : (rec : Binder) (xs ys : List ℕ) → of_all rec (xs ++ ys) ≡ of_all rec xs ++ of_all rec ys
unfolding of_all
all_append rec [] ys = refl
all_append rec (x ∷ xs) ys = ap (λ bs. rec x ++ bs) (all_append rec xs ys) ∙ sym (append_assoc (rec x) (of_all rec xs) (of_all rec ys))

one_of : (rec : Binder) (e : ℕ) → rec e ≡ of_all rec (e ∷ [])
unfolding of_all
one_of rec e = sym (append-nil (rec e))

option_is : (rec : Binder) (o : Option ℕ) → of_option rec o ≡ of_all rec (perhaps o)
unfolding of_option of_all
option_is rec None = refl
option_is rec (Some e) = sym (append-nil (rec e))

more_of : (rec : Binder) (e : ℕ) (es : List ℕ) → rec e ++ of_all rec es ≡ of_all rec (e ∷ es)
unfolding of_all
more_of rec e es = refl

node_is : (rec : Binder) (n : Node) → of_node rec n ≡ own n ++ of_all rec (below n)
unfolding of_node
node_is rec (Set x e) = one_of rec e
node_is rec (Def p j e) =
    append_assoc (rec p) (of_option rec j) (rec e)
    ∙ ap (λ bs. rec p ++ bs) (ap (λ bs. bs ++ rec e) (option_is rec j) ∙ ap (λ bs. of_all rec (perhaps j) ++ bs) (one_of rec e) ∙ sym (all_append rec (perhaps j) (e ∷ [])))
    ∙ more_of rec p (perhaps j ++ e ∷ [])
node_is rec (Call r v es) = more_of rec r es
node_is rec (Sequence es) = refl
node_is rec (MatchBind e p) = ap (λ bs. rec e ++ bs) (one_of rec p) ∙ more_of rec e (p ∷ [])
node_is rec (Object p auditors members) = more_of rec p auditors
node_is rec (Final x g) = ap (λ bs. record { noun = x; is_var = false } ∷ bs) (option_is rec g)
node_is rec (Var x g) = ap (λ bs. record { noun = x; is_var = true } ∷ bs) (option_is rec g)
node_is rec (Any g) = option_is rec g
node_is rec (ListPattern ps) = refl
node_is rec (Via e p) = ap (λ bs. rec e ++ bs) (one_of rec p) ∙ more_of rec e (p ∷ [])
node_is rec _ = unfold of_all in refl

found_is : (rec : Binder) (o : Option Node) → of_found rec o ≡ own_of o ++ of_all rec (below_of o)
unfolding of_found
found_is rec None = unfold of_all in refl
found_is rec (Some n) = node_is rec n

-- ---- tasks

left_append : (tree : List Node) (xs ys : List Task) → left tree (xs ++ ys) ≡ left tree xs ++ left tree ys
unfolding left
left_append tree [] ys = refl
left_append tree (x ∷ xs) ys = ap (λ bs. bound_at tree x.height x.node ++ bs) (left_append tree xs ys) ∙ sym (append_assoc (bound_at tree x.height x.node) (left tree xs) (left tree ys))

level_left : (tree : List Node) (d : ℕ) (es : List ℕ) → left tree (at_level d es) ≡ of_all (λ e. bound_at tree d e) es
unfolding left of_all
level_left tree d [] = refl
level_left tree d (e ∷ es) = ap (λ bs. bound_at tree d e ++ bs) (level_left tree d es)

task_is : (tree : List Node) (d e : ℕ) → bound_at tree d e ≡ finds tree d e ++ left tree (leaves tree d e)
unfolding bound_at
task_is tree zero e = unfold left in refl
task_is tree (suc d) e = found_is (λ x. bound_at tree d x) (slice_get tree e) ∙ ap (λ bs. own_of (slice_get tree e) ++ bs) (sym (level_left tree d (below_of (slice_get tree e))))

pub starts : (tree : List Node) (p : ℕ) (found : List BoundNoun) (ts us : List Task) → found ≡ [] → ts ≡ [] → us ≡ record { node = p; height = length tree } ∷ ts → found ++ left tree us ≡ bound_nouns tree p
unfolding bound_nouns left
starts tree p found ts us e f g = rw (e, g, f) (append-nil (bound_at tree (length tree) p))

pub goes : (tree : List Node) (t : Task) (ts us vs : List Task) (found more : List BoundNoun) (all : List BoundNoun) → ts ≡ t ∷ us → more ≡ found ++ finds tree t.height t.node → vs ≡ leaves tree t.height t.node ++ us
    → found ++ left tree ts ≡ all → more ++ left tree vs ≡ all
unfolding left
goes tree t ts us vs found more all e f g h =
    rw (f, g)
    (ap (λ bs. (found ++ finds tree t.height t.node) ++ bs) (left_append tree (leaves tree t.height t.node) us)
    ∙ append_assoc found (finds tree t.height t.node) (left tree (leaves tree t.height t.node) ++ left tree us)
    ∙ ap (λ bs. found ++ bs) (sym (append_assoc (finds tree t.height t.node) (left tree (leaves tree t.height t.node)) (left tree us))
    ∙ ap (λ bs. bs ++ left tree us) (sym (task_is tree t.height t.node)))
    ∙ ap (λ xs. found ++ left tree xs) (sym e) ∙ h)

pub finds_none : (tree : List Node) (d e : ℕ) (found : List BoundNoun) → 0 < d → slice_get tree e ≡ None → found ≡ found ++ finds tree d e
finds_none tree zero e found h is = absurd (omega arith)
finds_none tree (suc d) e found h is = rw is (sym (append-nil found))

pub leaves_none : (tree : List Node) (d e : ℕ) (ts : List Task) → 0 < d → slice_get tree e ≡ None → ts ≡ leaves tree d e ++ ts
leaves_none tree zero e ts h is = absurd (omega arith)
leaves_none tree (suc d) e ts h is = rw is refl

pub finds_some : (tree : List Node) (d e : ℕ) (n : Node) (found : List BoundNoun) (r : Result (Unit {0}) Memory) (more : List BoundNoun) → 0 < d → slice_get tree e ≡ Some n → OnOk r (more ≡ found ++ own n) → OnOk r (more ≡ found ++ finds tree d e)
finds_some tree zero e n found r more h is g = absurd (omega arith)
finds_some tree (suc d) e n found r more h is g = rw is g

pub leaves_some : (tree : List Node) (d e : ℕ) (n : Node) (ts us : List Task) (r : Result (Unit {0}) Memory) → 0 < d → slice_get tree e ≡ Some n → us ≡ at_level (d - 1) (below n) ++ ts → OnOk r (us ≡ leaves tree d e ++ ts)
leaves_some tree zero e n ts us r h is g = absurd (omega arith)
leaves_some tree (suc d) e n ts us (Ok u) h is g = let same : suc d - 1 ≡ d = omega arith in rw is (subst (λ (k : ℕ). us ≡ at_level k (below n) ++ ts) same g)
leaves_some tree (suc d) e n ts us (Err m) h is g = tt

pub ends_here : (tree : List Node) (found all : List BoundNoun) (ts : List Task) → ts ≡ [] → found ++ left tree ts ≡ all → found ≡ all
unfolding left
ends_here tree found all ts e h = sym (append-nil found) ∙ ap (λ xs. found ++ left tree xs) (sym e) ∙ h

-- ---- how many tasks a task leads to

abbrev pub costs : (ℕ → ℕ) → List ℕ → ℕ
costs rec [] = 0
costs rec (e ∷ es) = rec e + costs rec es

abbrev pub cost : List Node → ℕ → ℕ → ℕ
cost tree zero e = 1
cost tree (suc d) e = suc (costs (cost tree d) (below_of (slice_get tree e)))

abbrev pub weight : List Node → List Task → ℕ
weight tree [] = 0
weight tree (t ∷ ts) = cost tree t.height t.node + weight tree ts

weight_append : (tree : List Node) (xs ys : List Task) → weight tree (xs ++ ys) ≡ weight tree xs + weight tree ys
weight_append tree [] ys = omega arith
weight_append tree (x ∷ xs) ys = let rest : weight tree (xs ++ ys) ≡ weight tree xs + weight tree ys = weight_append tree xs ys in omega arith

level_weight : (tree : List Node) (d : ℕ) (es : List ℕ) → weight tree (at_level d es) ≡ costs (cost tree d) es
level_weight tree d [] = refl
level_weight tree d (e ∷ es) = ap (λ n. cost tree d e + n) (level_weight tree d es)

left_less : (tree : List Node) (d e : ℕ) → weight tree (leaves tree d e) < cost tree d e
left_less tree zero e = omega arith
left_less tree (suc d) e = let same : weight tree (at_level d (below_of (slice_get tree e))) ≡ costs (cost tree d) (below_of (slice_get tree e)) = level_weight tree d (below_of (slice_get tree e)) in omega arith

pub shrinks : (tree : List Node) (t : Task) (ts us vs : List Task) → ts ≡ t ∷ us → vs ≡ leaves tree t.height t.node ++ us → weight tree vs < weight tree ts
shrinks tree t ts us vs e f =
    let a : weight tree (leaves tree t.height t.node ++ us) ≡ weight tree (leaves tree t.height t.node) + weight tree us = weight_append tree (leaves tree t.height t.node) us in
    let b : weight tree (leaves tree t.height t.node) < cost tree t.height t.node = left_less tree t.height t.node in
    let c : weight tree vs ≡ weight tree (leaves tree t.height t.node ++ us) = ap (weight tree) f in
    let g : weight tree ts ≡ weight tree (t ∷ us) = ap (weight tree) e in
    omega arith
