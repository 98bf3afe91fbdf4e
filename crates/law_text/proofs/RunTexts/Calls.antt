-- Auditors, auditions, ejectors, resolvers and objects; and how objects are made.
use Rattle.std.proofs.Common.{◌≡◌, ◌||◌, ℕ, zero, suc, ◌<◌, Bool, true, false, List, [], ◌∷◌, ◌++◌, Option, Some, None, if◌then◌else◌, ◌==◌, refl, length, map, codes, arith}
use Rattle.std.specs.Prelude.{slice_get}
use Rattle.def_machine.specs.Values.{Words, Value, Null, Flag, Number, Letter, Text, Prim, Broken, Items, Ref, Name, Naming, naming, Spot, Own}
use Rattle.def_machine.specs.State.{Bound, Fixed, Binding, Scope, Freedom, IsItself, IsFinal, IsVar, FreeName, View, Thing, Made, Ejector, Audition, Resolver, Standing, Unsettled, Called, Back, Thrown, Left, Got, EjectorMade, AuditionMade, Astray, Vat, Act, WhereSome, look, eject}
use Rattle.def_machine.specs.Refs.{Place, Near}
use Rattle.def_machine.specs.Free.{same_words}
use Rattle.def_machine.specs.Form as form
use Rattle.def_machine.specs.Form.{Item, Begin, End, Word, Fact, literal_value}
use Rattle.def_machine.specs.Native as native
use Rattle.def_machine.specs.Native.{primitive}
use Rattle.def_machine.specs.Scopes as scopes
use Rattle.def_machine.specs.Scopes.{Answer, Answers, Evaluator, Caller, Body, Case, AuditionAsk, GetsForm, GetsGuard, Asks, NoAuditionAsk, ResolverAsk, Resolves, Smashes, NoResolverAsk}
use Rattle.def_machine.specs.Calls as calls
use Rattle.def_kernel.specs.declared.node.Node.{Node}
use Rattle.def_kernel.specs.declared.node.Node.TheVariants.{Hide, Final}
use Rattle.def_kernel.specs.declared.node.Literal.{Literal}
use Rattle.def_kernel.specs.declared.node.Literal.TheVariants as literal
use Rattle.def_text.specs.Keywords.{is_identifier}
use Rattle.law_text.specs.Text.Feeds.{AllOf}
use Rattle.law_text.specs.RunTexts.Fitting.{Limits, size, IsLow, IsObjectName, NameFits, ValueFits, ValuesFit, BoundFits, NounsFit, FreedomFits, ViewFits, ThingFits, TextFits}
use Rattle.law_text.specs.RunTexts.Spelled.{LiteralFits, NodeFits, TreeFits}
use Rattle.law_text.proofs.RunTexts.Fine.{Fine, nothing, all_append, fine_bind, fine_then, fine_give, fine_throw, fine_eject, fine_stop, fine_look, fine_low, fine_sees, fine_if, fine_left, fine_ending, fine_tell, fine_activation, fine_thing, fine_kill}
use Rattle.law_text.proofs.RunTexts.Texts.{plain, utf8}
use Rattle.law_text.proofs.RunTexts.Natives.{ReplyFits, either_has, entry_has, asked_fits, primitive_guarded}
use Rattle.law_text.proofs.RunTexts.Refs.{where_either, fine_settle, fine_resolve, look_follow}
use Rattle.law_text.proofs.RunTexts.Perform.{GoodCaller, fine_make_list, fine_reply, fine_data_answer, fine_perform}

-- ---- forms

abbrev ItemFits : Item → Type 0
ItemFits (Word w) = TextFits w
ItemFits (Fact l) = LiteralFits l
ItemFits other = Unit {0}

abbrev ItemsFit : List Item → Type 0
ItemsFit is = AllOf ItemFits is

group_fits : (is : List Item) → ItemsFit is → ItemsFit (form.group is)
unfolding form.group
group_fits is h = (tt, all_append ItemFits is (End ∷ []) h (tt, tt))

headed_fits : (w : Words) (is : List Item) → TextFits w → ItemsFit is → ItemsFit (form.headed w is)
unfolding form.headed
headed_fits w is u h = group_fits (Word w ∷ is) (u, h)

module _ (rec : form.Former) (each : (e : ℕ) → ItemsFit (rec e)) where
  both : (xs ys : List Item) → ItemsFit xs → ItemsFit ys → ItemsFit (xs ++ ys)
  both xs ys h k = all_append ItemFits xs ys h k

  forms_fit : (es : List ℕ) → ItemsFit (form.forms rec es)
  unfolding form.forms
  forms_fit [] = tt
  forms_fit (e ∷ es) = both (rec e) _ (each e) (forms_fit es)

  option_fits : (o : Option ℕ) → ItemsFit (form.form_option rec o)
  unfolding form.form_option
  option_fits None = tt
  option_fits (Some e) = each e

  exit_fits : (o : Option ℕ) → ItemsFit (form.exit_form rec o)
  unfolding form.exit_form
  exit_fits None = tt
  exit_fits (Some j) = (plain _ refl, each j)

  caught_fits : (o : Option (ℕ × ℕ)) → ItemsFit (form.caught_form rec o)
  unfolding form.caught_form
  caught_fits None = tt
  caught_fits (Some c) = both (rec c.0) (rec c.1) (each c.0) (each c.1)

  node_form_fits : (n : Node) → NodeFits n → ItemsFit (form.node_form rec n)
  unfolding form.node_form
  node_form_fits (Hide e) f = search (headed_fits, group_fits, both, forms_fit, option_fits, exit_fits, caught_fits, each, plain) depth 14
  node_form_fits other f = search (headed_fits, group_fits, both, forms_fit, option_fits, exit_fits, caught_fits, each, plain) depth 14

form_found_fits : (tree : List Node) (rec : form.Former) → ((e : ℕ) → ItemsFit (rec e)) → (o : Option Node) → WhereSome NodeFits o → ItemsFit (form.form_found rec o)
unfolding form.form_found
form_found_fits tree rec each None f = tt
form_found_fits tree rec each (Some n) f = node_form_fits rec each n f

pub node_at : (tree : List Node) (id : ℕ) → TreeFits tree → WhereSome NodeFits (slice_get tree id)
node_at [] id h = tt
node_at (n ∷ tree) zero h = h.0
node_at (n ∷ tree) (suc id) h = node_at tree id h.1

form_at_fits : (tree : List Node) → TreeFits tree → (d e : ℕ) → ItemsFit (form.form_at tree d e)
unfolding form.form_at
form_at_fits tree h zero e = tt
form_at_fits tree h (suc d) e = form_found_fits tree (λ i. form.form_at tree d i) (form_at_fits tree h d) (slice_get tree e) (node_at tree e h)

items_fit : (tree : List Node) → TreeFits tree → (e : ℕ) → ItemsFit (form.items_of tree e)
unfolding form.items_of
items_fit tree h e = form_at_fits tree h (length tree) e

module _ (L : Limits) where
  abbrev pub ScopeFits : Scope Name → Type 0
  ScopeFits here = IsLow L here.act × NounsFit L here.nouns

  abbrev pub AnswerFits : Answer Name → Type 0
  AnswerFits x = ValueFits L x.value × ScopeFits x.scope

  abbrev pub AnswersFit : Answers Name → Type 0
  AnswersFit x = ValuesFit L x.values × ScopeFits x.scope

  -- what evaluates the nodes below
  pub record GoodEvaluator (rec : Evaluator Name) : Type 1 where
    pub expression : (D : Type 0) (id : ℕ) (here : Scope Name) → (D → ScopeFits here) → Fine L D (rec.expression id here) AnswerFits
    pub pattern : (D : Type 0) (id : ℕ) (x j : Value Name) (here : Scope Name) → (D → ValueFits L x) → (D → ValueFits L j) → (D → ScopeFits here) → Fine L D (rec.pattern id x j here) ScopeFits

  -- ---- scopes

  pub bound_fits : (ns : List (Binding Name)) (x : Words) → NounsFit L ns → WhereSome (BoundFits L) (scopes.bound_in ns x)
  unfolding scopes.bound_in
  bound_fits [] x h = tt
  bound_fits (b ∷ bs) x h = where_either (BoundFits L) (same_words b.noun x) b.bound (scopes.bound_in bs x) h.0 (bound_fits bs x h.1)

  caught_one : (x : Words) (o : Option (Bound Name)) (rest : List (Binding Name)) → WhereSome (BoundFits L) o → NounsFit L rest → NounsFit L (elim o [ Some b ↦ record { noun = x; bound = b } ∷ rest | None ↦ rest ])
  caught_one x (Some b) rest h k = (h, k)
  caught_one x None rest h k = k

  captures_fit : (here : Scope Name) (xs : List Words) → NounsFit L here.nouns → NounsFit L (scopes.captures here xs)
  unfolding scopes.captures
  captures_fit here [] h = tt
  captures_fit here (x ∷ xs) h = caught_one x (scopes.bound_in here.nouns x) (scopes.captures here xs) (bound_fits here.nouns x h) (captures_fit here xs h)

  bounds_fit : (bs : List (Binding Name)) → NounsFit L bs → AllOf (BoundFits L) (map (λ (b : Binding Name). b.bound) bs)
  bounds_fit [] h = tt
  bounds_fit (b ∷ bs) h = (h.0, bounds_fit bs h.1)

  named_fits : (o : Option Node) (x : Value Name) (here : Scope Name) → ValueFits L x → ScopeFits here → ScopeFits (scopes.named o x here)
  unfolding scopes.named scopes.with_noun scopes.any_guard
  named_fits (Some (Final y g)) x here f h = (h.0, ((f, refl), h.1))
  named_fits other x here f h = h

  or_true : (b : Bool) → (b || true) ≡ true
  or_true true = refl
  or_true false = refl

  -- how the history calls an object
  called_by : (o : Option Node) → WhereSome NodeFits o → IsObjectName (scopes.name_of o)
  unfolding scopes.name_of
  called_by (Some (Final y g)) f = f.1
  called_by other f = (utf8 _ refl, or_true (is_identifier (codes "_")))

  freedom_bound_fits : (o : Option (Bound Name)) (x : Words) → WhereSome (BoundFits L) o → FreedomFits L (scopes.freedom_of_bound o x)
  unfolding scopes.freedom_of_bound
  freedom_bound_fits (Some (Fixed y g)) x h = h.1
  freedom_bound_fits other x h = tt

  freedom_fits : (own : Option Words) (ns : List (Binding Name)) (x : Words) → NounsFit L ns → FreedomFits L (scopes.freedom_of own ns x)
  unfolding scopes.freedom_of
  freedom_fits own ns x h = either_has (FreedomFits L) (scopes.is_own own x) IsItself (scopes.freedom_of_bound (scopes.bound_in ns x) x) tt (freedom_bound_fits (scopes.bound_in ns x) x (bound_fits ns x h))

  free_fits : (own : Option Words) (ns : List (Binding Name)) (xs : List Words) → NounsFit L ns → AllOf (λ (f : FreeName Name). FreedomFits L f.freedom) (scopes.free_names own ns xs)
  unfolding scopes.free_names
  free_fits own ns [] h = tt
  free_fits own ns (x ∷ xs) h = (freedom_fits own ns x h, free_fits own ns xs h)

  told_fits : (x : Freedom Name) → FreedomFits L x → ValueFits L (scopes.guard_told x)
  unfolding scopes.guard_told scopes.any_guard
  told_fits (IsFinal g) h = h
  told_fits IsVar h = tt
  told_fits other h = refl

  guard_at_fits : (fs : List (FreeName Name)) (x : Words) → AllOf (λ (f : FreeName Name). FreedomFits L f.freedom) fs → ReplyFits L (scopes.guard_at fs x)
  unfolding scopes.guard_at
  guard_at_fits [] x h = plain _ refl
  guard_at_fits (f ∷ fs) x h = either_has (ReplyFits L) (same_words f.noun x) (native.Says (scopes.guard_told f.freedom)) (scopes.guard_at fs x) (told_fits f.freedom h.0) (guard_at_fits fs x h.1)

  guard_asked_fits : (fs : List (FreeName Name)) (x : Value Name) → AllOf (λ (f : FreeName Name). FreedomFits L f.freedom) fs → ReplyFits L (scopes.guard_asked fs x)
  unfolding scopes.guard_asked
  guard_asked_fits fs (Text t) h = guard_at_fits fs t h
  guard_asked_fits fs _ h = plain _ refl

  abbrev AuditionAskFits : AuditionAsk Name → Type 0
  AuditionAskFits (GetsGuard x) = ValueFits L x
  AuditionAskFits (Asks x) = ValueFits L x
  AuditionAskFits other = Unit {0}

  abbrev ResolverAskFits : ResolverAsk Name → Type 0
  ResolverAskFits (Resolves x) = ValueFits L x
  ResolverAskFits (Smashes x) = ValueFits L x
  ResolverAskFits NoResolverAsk = Unit {0}

  audition_ask_fits : (verb : Words) (args : List (Value Name)) → ValuesFit L args → AuditionAskFits (scopes.audition_ask verb args)
  unfolding scopes.audition_ask
  audition_ask_fits verb [] h = entry_has AuditionAskFits _ _ verb (tt, tt) tt
  audition_ask_fits verb (x ∷ []) h = let i : ValueFits L x = h.0 in entry_has AuditionAskFits _ _ verb (i, (i, tt)) tt
  audition_ask_fits verb (x ∷ y ∷ ys) h = tt

  resolver_ask_fits : (verb : Words) (args : List (Value Name)) → ValuesFit L args → ResolverAskFits (scopes.resolver_ask verb args)
  unfolding scopes.resolver_ask
  resolver_ask_fits verb (x ∷ []) h = let i : ValueFits L x = h.0 in entry_has ResolverAskFits _ _ verb (i, (i, tt)) tt
  resolver_ask_fits verb other h = tt

  ejector_ask_fits : (verb : Words) (args : List (Value Name)) → ValuesFit L args → WhereSome (ValueFits L) (scopes.ejector_ask verb args)
  unfolding scopes.ejector_ask
  ejector_ask_fits verb [] h = entry_has (WhereSome (ValueFits L)) _ _ verb (tt, tt) tt
  ejector_ask_fits verb (x ∷ []) h = entry_has (WhereSome (ValueFits L)) _ _ verb (h.0, tt) tt
  ejector_ask_fits verb (x ∷ y ∷ ys) h = tt

  pub literal_fits : (l : Literal) → LiteralFits l → ValueFits L (literal_value l)
  unfolding literal_value
  literal_fits (literal.Int z) f = f
  literal_fits other f = f

  module _ (word : ℕ → ℕ) (v : ℕ) (inside : v < L.many) (tree : List Node) (good_tree : TreeFits tree) where
    abbrev K : Naming Name Name
    K = naming word v

    pub made_object : (i : ℕ) → IsLow L i → NameFits L (K.object i)
    unfolding naming
    made_object i low = (inside, low)

    pub fine_answered : {C : Type 0} (here : Scope Name) (x : Value Name) → (C → ScopeFits here) → (C → ValueFits L x) → Fine L C (scopes.answered here x) AnswerFits
    unfolding scopes.answered
    fine_answered here x h f = fine_give L _ (λ c. (f c, h c))

    fine_ended : {C : Type 0} (act : ℕ) (m : Act Name (Value Name)) → (C → IsLow L act) → Fine L C m (ValueFits L) → Fine L C (scopes.ended act m) (ValueFits L)
    unfolding scopes.ended
    fine_ended act m a h = fine_ending L (ValueFits L) h (λ x. fine_then L (fine_tell L (Back act x) (λ c. (a c.0, c.1))) (fine_give L x (λ c. c.1)))
        (λ p. fine_then L (fine_tell L (Thrown act p) (λ c. (a c.0, c.1))) (fine_throw L p (λ c. c.1))) (λ n x. fine_then L (fine_tell L (Left act) (λ c. a c.0)) (fine_eject L n x (λ c. c.1)))

    fine_with_lines : {C : Type 0} (act : ℕ) (x : Value Name) (verb : Words) (args : List (Value Name)) (m : Act Name (Value Name)) → (C → IsLow L act) → (C → ValueFits L x) → (C → TextFits verb) → (C → ValuesFit L args) → Fine L C m (ValueFits L) → Fine L C (scopes.with_lines act x verb args m) (ValueFits L)
    unfolding scopes.with_lines
    fine_with_lines act x verb args m a f u g h = fine_then L (fine_tell L (Called act x verb args None) (λ c. (a c, f c, u c, g c, tt))) (fine_ended act m a h)

    -- ---- auditing

    pub fine_leave : {C A : Type 0} {G : A → Type 0} (j : ℕ) {m : Act Name A} → Fine L C m G → Fine L C (calls.leave K tree j m) G
    unfolding calls.leave
    fine_leave j h = fine_then L (fine_kill L j) h

    fine_leaving : {C A : Type 0} {G : A → Type 0} (j : ℕ) {m : Act Name A} → Fine L C m G → Fine L C (calls.leaving K tree j m) G
    unfolding calls.leaving
    fine_leaving {G = G} j h = fine_ending L G h (λ x. fine_leave j (fine_give L x (λ c. c.1))) (λ p. fine_leave j (fine_throw L p (λ c. c.1))) (λ n x. fine_leave j (fine_eject L n x (λ c. c.1)))

    audit : {C : Type 0} (again : Caller Name) → GoodCaller L again → (act : ℕ) (view : View Name) (a : Value Name) (p : Place Name) → (C → IsLow L act) → (C → ViewFits L view) → (C → ValueFits L a) → Fine L C (calls.audit K tree again act view a p) (nothing L)
    unfolding calls.audit
    audit again good act view a Near h g f = fine_bind L (IsLow L) (fine_thing L (Audition true view) g) (λ n. fine_then L (fine_tell L (AuditionMade act (K.object n)) (λ c. (h c.0, made_object n c.1)))
        (fine_bind L (ValueFits L) (fine_leaving n (good _ act a (codes "audit") (Ref (K.object n) ∷ []) (λ c. h c.0) (λ c. f c.0) (λ c. plain _ refl) (λ c. (made_object n c.1, tt)))) (λ x. fine_sees L _)))
    audit again good act view a other h g f = fine_throw L _ (λ c. plain _ refl)

    verdict : {C : Type 0} (again : Caller Name) → GoodCaller L again → (act : ℕ) (view : View Name) (a y : Value Name) → (C → IsLow L act) → (C → ViewFits L view) → (C → ValueFits L a) → Fine L C (calls.verdict K tree again act view a y) (nothing L)
    unfolding calls.verdict
    verdict again good act view a (Prim n) h g f = fine_if L _ (fine_give L _ (λ c. tt)) (fine_throw L _ (λ c. plain _ refl))
    verdict again good act view a (Ref n) h g f = fine_bind L (nothing L) (fine_sees L _) (λ p. audit again good act view a p (λ c. h c.0) (λ c. g c.0) (λ c. f c.0))
    verdict again good act view a _ h g f = fine_throw L _ (λ c. plain _ refl)

    stamped : (b : Bool) (y : Value Name) (ys : List (Value Name)) → ValueFits L y → ValuesFit L ys → ValuesFit L (calls.with_stamp K tree b y ys)
    unfolding calls.with_stamp
    stamped true y ys f h = (f, h)
    stamped false y ys f h = h

    ask_all : (again : Caller Name) → GoodCaller L again → (act : ℕ) (view : View Name) (as' : List (Value Name)) {C : Type 0} → (C → IsLow L act) → (C → ViewFits L view) → (C → ValuesFit L as') → Fine L C (calls.ask_all K tree again act view as') (ValuesFit L)
    unfolding calls.ask_all
    ask_all again good act view [] h g f = fine_give L [] (λ c. tt)
    ask_all again good act view (a ∷ as') h g f = fine_bind L (ValueFits L) (look_follow L word v inside a (λ c. (f c).0)) (λ y. fine_bind L (nothing L) (verdict again good act view a y (λ c. h c.0) (λ c. g c.0) (λ c. (f c.0).0))
        (λ b. fine_bind L (ValuesFit L) (ask_all again good act view as' (λ c. h c.0.0) (λ c. g c.0.0) (λ c. (f c.0.0).1)) (λ ys. fine_give L _ (λ c. stamped b y ys c.0.0.1 c.1))))

    item_fits : (x : Value Name) (fs : List (List (Value Name))) → ValueFits L x → AllOf (ValuesFit L) fs → AllOf (ValuesFit L) (calls.with_item K tree x fs)
    unfolding calls.with_item
    item_fits x [] f h = tt
    item_fits x (g ∷ fs) f h = (all_append (ValueFits L) g (x ∷ []) h.0 (f, tt), h.1)

    build : (act : ℕ) (is : List Item) (fs : List (List (Value Name))) {C : Type 0} → (C → IsLow L act) → ItemsFit is → (C → AllOf (ValuesFit L) fs) → Fine L C (calls.build K tree act is fs) (ValueFits L)
    unfolding calls.build
    build act (Begin ∷ is) fs a h g = build act is ([] ∷ fs) a h.1 (λ c. (tt, g c))
    build act (Word w ∷ is) fs a h g = build act is (calls.with_item K tree (Text w) fs) a h.1 (λ c. item_fits (Text w) fs h.0 (g c))
    build act (Fact l ∷ is) fs a h g = build act is (calls.with_item K tree (literal_value l) fs) a h.1 (λ c. item_fits (literal_value l) fs (literal_fits l h.0) (g c))
    build act (End ∷ []) (f ∷ fs) a h g = fine_make_list L word v inside tree act f a (λ c. (g c).0)
    build act (End ∷ i ∷ is) (f ∷ fs) a h g = fine_bind L (ValueFits L) (fine_make_list L word v inside tree act f a (λ c. (g c).0)) (λ x. build act (i ∷ is) (calls.with_item K tree x fs) (λ c. a c.0) h.1 (λ c. item_fits x fs c.1 (g c.0).1))
    build act (End ∷ []) [] a h g = fine_stop L Astray
    build act (End ∷ i ∷ is) [] a h g = fine_stop L Astray
    build act [] fs a h g = fine_stop L Astray

    audition_live : {C : Type 0} (again : Caller Name) → GoodCaller L again → (act : ℕ) (view : View Name) (q : AuditionAsk Name) → (C → IsLow L act) → (C → ViewFits L view) → (C → AuditionAskFits q) → Fine L C (calls.audition_live K tree again act view q) (ValueFits L)
    unfolding calls.audition_live
    audition_live again good act view GetsForm a g f = build act (form.items_of tree view.node) [] a (items_fit tree good_tree view.node) (λ c. tt)
    audition_live again good act view (GetsGuard x) a g f = fine_bind L (ReplyFits L) (fine_look L _ (λ s h c. guard_asked_fits view.free _ (g c))) (λ r. fine_reply L word v inside tree again good act r (λ c. a c.0) (λ c. c.1))
    audition_live again good act view (Asks x) a g f = fine_bind L (nothing L) (fine_sees L _) (λ y. fine_bind L (nothing L) (verdict again good act view x y (λ c. a c.0) (λ c. g c.0) (λ c. f c.0)) (λ b. fine_give L (Flag b) (λ c. tt)))
    audition_live again good act view NoAuditionAsk a g f = fine_throw L _ (λ c. plain _ refl)

    audition_answer : {C : Type 0} (again : Caller Name) → GoodCaller L again → (act : ℕ) (live : Bool) (view : View Name) (q : AuditionAsk Name) → (C → IsLow L act) → (C → ViewFits L view) → (C → AuditionAskFits q) → Fine L C (calls.audition_answer K tree again act live view q) (ValueFits L)
    unfolding calls.audition_answer
    audition_answer again good act live view NoAuditionAsk a g f = fine_throw L _ (λ c. plain _ refl)
    audition_answer again good act true view q a g f = audition_live again good act view q a g f
    audition_answer again good act false view q a g f = fine_throw L _ (λ c. plain _ refl)

    -- ---- ejectors and resolvers

    ejector_answer : {C : Type 0} (i : ℕ) (live : Bool) (o : Option (Value Name)) → (C → WhereSome (ValueFits L) o) → Fine L C (calls.ejector_answer K tree i live o) (ValueFits L)
    unfolding calls.ejector_answer
    ejector_answer i live None f = fine_throw L _ (λ c. plain _ refl)
    ejector_answer i true (Some x) f = fine_eject L i x f
    ejector_answer i false (Some x) f = fine_throw L _ (λ c. plain _ refl)

    where_unresolved : {C : Type 0} (w : Standing Name) (m : Act Name (Unit {0})) → Fine L C m (nothing L) → Fine L C (calls.where_unresolved K tree w m) (ValueFits L)
    unfolding calls.where_unresolved
    where_unresolved Unsettled m h = fine_then L h (fine_give L Null (λ c. tt))
    where_unresolved _ m h = fine_throw L _ (λ c. plain _ refl)

    smash : {C : Type 0} (p : Name) (y : Value Name) → (C → NameFits L p) → (C → ValueFits L y) → Fine L C (calls.smash K tree p y) (ValueFits L)
    unfolding calls.smash
    smash p (Text t) g f = fine_bind L (nothing L) (fine_sees L _) (λ w. where_unresolved w _ (fine_settle L word v inside _ p (Broken t) (λ c. g c.0) (λ c. f c.0)))
    smash p _ g f = fine_throw L _ (λ c. plain _ refl)

    resolver_answer : {C : Type 0} (p : Name) (q : ResolverAsk Name) → (C → NameFits L p) → (C → ResolverAskFits q) → Fine L C (calls.resolver_answer K tree p q) (ValueFits L)
    unfolding calls.resolver_answer
    resolver_answer p (Resolves x) g f = fine_bind L (nothing L) (fine_sees L _) (λ w. where_unresolved w _ (fine_resolve L word v inside p x (λ c. g c.0) (λ c. f c.0)))
    resolver_answer p (Smashes x) g f = fine_bind L (ValueFits L) (look_follow L word v inside x f) (λ y. smash p y (λ c. g c.0) (λ c. c.1))
    resolver_answer p NoResolverAsk g f = fine_throw L _ (λ c. plain _ refl)

    thing_answer : {C : Type 0} (again : Caller Name) → GoodCaller L again → (act i : ℕ) (t : Thing Name) (verb : Words) (args : List (Value Name)) → (C → IsLow L act) → (C → ThingFits L t) → (C → ValuesFit L args) → Fine L C (calls.thing_answer K tree again act i t verb args) (ValueFits L)
    unfolding calls.thing_answer
    thing_answer again good act i (Ejector live) verb args a g f = ejector_answer i live _ (λ c. ejector_ask_fits verb args (f c))
    thing_answer again good act i (Audition live view) verb args a g f = audition_answer again good act live view _ a g (λ c. audition_ask_fits verb args (f c))
    thing_answer again good act i (Resolver p) verb args a g f = resolver_answer p _ g (λ c. resolver_ask_fits verb args (f c))
    thing_answer again good act i (Made node caught stamps) verb args a g f = fine_stop L Astray

    pub fine_ejector : {C : Type 0} (act : ℕ) → (C → IsLow L act) → Fine L C (calls.new_ejector K tree act) (IsLow L)
    unfolding calls.new_ejector
    fine_ejector act a = fine_bind L (IsLow L) (fine_thing L (Ejector true) (λ c. tt)) (λ j. fine_then L (fine_tell L (EjectorMade act (K.object j)) (λ c. (a c.0, made_object j c.1))) (fine_give L j (λ c. c.1)))

    -- ---- objects

    module _ (rec : Evaluator Name) (good : GoodEvaluator rec) where
      pub fine_bind_all : (ps : List ℕ) (vs : List (Value Name)) (j : Value Name) (here : Scope Name) {C : Type 0} → (C → ValuesFit L vs) → (C → ValueFits L j) → (C → ScopeFits here) → Fine L C (calls.bind_all K tree rec ps vs j here) ScopeFits
      unfolding calls.bind_all
      fine_bind_all [] vs j here f g h = fine_give L here h
      fine_bind_all (p ∷ ps) [] j here f g h = fine_give L here h
      fine_bind_all (p ∷ ps) (x ∷ vs) j here f g h = fine_bind L ScopeFits (good.pattern _ p x j here (λ c. (f c).0) g h) (λ next. fine_bind_all ps vs j next (λ c. (f c.0).1) (λ c. g c.0) (λ c. c.1))

      pub fine_unless : {C A : Type 0} {G : A → Type 0} (b : Bool) (n : ℕ) (x : Value Name) {m : Act Name A} → (C → ValueFits L x) → Fine L C m G → Fine L C (if b then m else eject n x) G
      fine_unless b n x f h = fine_if L b h (fine_eject L n x f)

      match_all : {C : Type 0} (ms : List Case) (x : Value Name) (here : Scope Name) → (C → ValueFits L x) → (C → ScopeFits here) → Fine L C (calls.match_all K tree rec ms x here) (ValueFits L)
      unfolding calls.match_all calls.matched calls.hand_over
      match_all [] x here f h = fine_throw L _ (λ c. plain _ refl)
      match_all (m ∷ ms) x here f h = fine_bind L (IsLow L) (fine_ejector here.act (λ c. (h c).0)) (λ j. fine_ending L ScopeFits (good.pattern _ m.pattern x (Ref (K.object j)) here (λ c. f c.0) (λ c. made_object j c.1) (λ c. h c.0))
          (λ inner. fine_leave j (fine_bind L AnswerFits (good.expression _ m.body inner (λ c. c.1)) (λ y. fine_give L y.value (λ c. c.1.0))))
          (λ p. fine_leave j (fine_throw L p (λ c. c.1)))
          (λ n y. fine_leave j (fine_unless (n == j) n y (λ c. c.1) (fine_then L (fine_tell L (Got here.act y) (λ c. ((h c.0.0).0, c.1))) (fine_left L (fine_left L (match_all ms x here f h)))))))

      try_matchers : {C : Type 0} (ms : List Case) (verb : Words) (args : List (Value Name)) (here : Scope Name) → (C → TextFits verb) → (C → ValuesFit L args) → (C → ScopeFits here) → Fine L C (calls.try_matchers K tree rec ms verb args here) (ValueFits L)
      unfolding calls.try_matchers
      try_matchers [] verb args here u f h = fine_throw L _ (λ c. plain _ refl)
      try_matchers (m ∷ ms) verb args here u f h = fine_bind L (ValueFits L) (fine_make_list L word v inside tree here.act args (λ c. (h c).0) f)
          (λ l. fine_bind L (ValueFits L) (fine_make_list L word v inside tree here.act (Text verb ∷ l ∷ []) (λ c. (h c.0).0) (λ c. (u c.0, (c.1, tt)))) (λ pair. match_all (m ∷ ms) pair here (λ c. c.1) (λ c. h c.0.0)))

      run_body : {C : Type 0} (ms : List Case) (verb : Words) (o : Option Body) (args : List (Value Name)) (here : Scope Name) → (C → TextFits verb) → (C → ValuesFit L args) → (C → ScopeFits here) → Fine L C (calls.run_body K tree rec ms verb o args here) (ValueFits L)
      unfolding calls.run_body
      run_body ms verb (Some b) args here u f h = fine_bind L ScopeFits (fine_bind_all b.patterns args Null here f (λ c. tt) h) (λ inner. fine_bind L AnswerFits (good.expression _ b.body inner (λ c. c.1)) (λ x. fine_give L x.value (λ c. c.1.0)))
      run_body ms verb None args here u f h = try_matchers ms verb args here u f h

      run_object : {C : Type 0} (members : List ℕ) (verb : Words) (args : List (Value Name)) (here : Scope Name) → (C → TextFits verb) → (C → ValuesFit L args) → (C → ScopeFits here) → Fine L C (calls.run_object K tree rec members verb args here) (ValueFits L)
      unfolding calls.run_object
      run_object members verb args here u f h = run_body _ verb _ args here u f h

      -- ---- calls

      call_thing : {C : Type 0} (again : Caller Name) → GoodCaller L again → (act : ℕ) (x : Value Name) (i : ℕ) (o : Option (Thing Name)) (verb : Words) (args : List (Value Name)) → (C → IsLow L act) → (C → ValueFits L x) → (C → WhereSome (ThingFits L) o) → (C → TextFits verb) → (C → ValuesFit L args) → Fine L C (calls.call_thing K tree rec again act x i o verb args) (ValueFits L)
      unfolding calls.call_thing
      call_thing again h act x i None verb args a f g u k = fine_stop L Astray
      call_thing again h act x i (Some (Made node caught stamps)) verb args a f g u k = fine_bind L (IsLow L) (fine_activation L) (λ b. fine_then L (fine_tell L (Called act x verb args (Some b)) (λ c. (a c.0, f c.0, u c.0, k c.0, c.1)))
          (fine_ended act _ (λ c. a c.0) (run_object _ verb args (record { act = b; nouns = caught }) (λ c. u c.0) (λ c. k c.0) (λ c. (c.1, (g c.0).0)))))
      call_thing again h act x i (Some (Ejector live)) verb args a f g u k = fine_with_lines act x verb args _ a f u k (thing_answer again h act i (Ejector live) verb args a g k)
      call_thing again h act x i (Some (Audition live view)) verb args a f g u k = fine_with_lines act x verb args _ a f u k (thing_answer again h act i (Audition live view) verb args a g k)
      call_thing again h act x i (Some (Resolver p)) verb args a f g u k = fine_with_lines act x verb args _ a f u k (thing_answer again h act i (Resolver p) verb args a g k)

      look_thing : {C : Type 0} (i : ℕ) → Fine L C (look (λ (s : Vat Name). slice_get s.things i)) (WhereSome (ThingFits L))
      look_thing i = fine_look L _ (λ s h c. found s.things i h.things)
        where
          found : (ts : List (Thing Name)) (i : ℕ) → AllOf (ThingFits L) ts → WhereSome (ThingFits L) (slice_get ts i)
          found [] i h = tt
          found (t ∷ ts) zero h = h.0
          found (t ∷ ts) (suc i) h = found ts i h.1

      call_spot : {C : Type 0} (again : Caller Name) → GoodCaller L again → (act : ℕ) (x : Value Name) (p : Spot) (verb : Words) (args : List (Value Name)) → (C → IsLow L act) → (C → ValueFits L x) → (C → TextFits verb) → (C → ValuesFit L args) → Fine L C (calls.call_spot K tree rec again act x p verb args) (ValueFits L)
      unfolding calls.call_spot
      call_spot again h act x (Own i) verb args a f u k = fine_bind L (WhereSome (ThingFits L)) (look_thing i) (λ t. call_thing again h act x i t verb args (λ c. a c.0) (λ c. f c.0) (λ c. c.1) (λ c. u c.0) (λ c. k c.0))
      call_spot again h act x other verb args a f u k = fine_throw L _ (λ c. plain _ refl)

      call_value : {C : Type 0} (again : Caller Name) → GoodCaller L again → (act : ℕ) (x y : Value Name) (verb : Words) (args : List (Value Name)) → (C → IsLow L act) → (C → ValueFits L x) → (C → ValueFits L y) → (C → TextFits verb) → (C → ValuesFit L args) → Fine L C (calls.call_value K tree rec again act x y verb args) (ValueFits L)
      unfolding calls.call_value
      call_value again h act x (Ref n) verb args a f g u k = call_spot again h act x (K.spot n) verb args a f u k
      call_value again h act x (Broken p) verb args a f g u k = fine_throw L p g
      call_value again h act x (Prim n) verb args a f g u k = fine_perform L word v inside tree again h act _ a (λ c. asked_fits L (primitive n) (primitive_guarded L n) verb args (k c))
      call_value again h act x Null verb args a f g u k = fine_with_lines act x verb args _ a f u k (fine_data_answer L word v inside tree again h act Null verb args a g k)
      call_value again h act x (Flag b) verb args a f g u k = fine_with_lines act x verb args _ a f u k (fine_data_answer L word v inside tree again h act (Flag b) verb args a g k)
      call_value again h act x (Number z) verb args a f g u k = fine_with_lines act x verb args _ a f u k (fine_data_answer L word v inside tree again h act (Number z) verb args a g k)
      call_value again h act x (Letter l) verb args a f g u k = fine_with_lines act x verb args _ a f u k (fine_data_answer L word v inside tree again h act (Letter l) verb args a g k)
      call_value again h act x (Text t) verb args a f g u k = fine_with_lines act x verb args _ a f u k (fine_data_answer L word v inside tree again h act (Text t) verb args a g k)
      call_value again h act x (Items i) verb args a f g u k = fine_with_lines act x verb args _ a f u k (fine_data_answer L word v inside tree again h act (Items i) verb args a g k)

      call_one : (again : Caller Name) → GoodCaller L again → GoodCaller L (calls.call_one K tree rec again)
      unfolding calls.call_one
      call_one again h = λ D act x verb args a f u k. fine_bind L (ValueFits L) (look_follow L word v inside x f) (λ y. call_value again h act x y verb args (λ c. a c.0) (λ c. f c.0) (λ c. c.1) (λ c. u c.0) (λ c. k c.0))

      call_at : (d : ℕ) → GoodCaller L (calls.call_at K tree d rec)
      unfolding calls.call_at
      call_at zero = λ D act x verb args a f u k. fine_stop L Astray
      call_at (suc d) = λ D act x verb args a f u k. call_one (λ a y w xs. calls.call_at K tree d rec a y w xs) (call_at d) D act x verb args a f u k

      pub fine_call : GoodCaller L (calls.call K tree rec)
      unfolding calls.call
      fine_call = λ D act x verb args a f u k. fine_bind L (nothing L) (fine_sees L _) (λ n. call_at n _ act x verb args (λ c. a c.0) (λ c. f c.0) (λ c. u c.0) (λ c. k c.0))

      turn_thing : {C : Type 0} (act i : ℕ) (o : Option (Thing Name)) (verb : Words) (args : List (Value Name)) → (C → IsLow L act) → (C → WhereSome (ThingFits L) o) → (C → TextFits verb) → (C → ValuesFit L args) → Fine L C (calls.turn_thing K tree rec act i o verb args) (ValueFits L)
      unfolding calls.turn_thing
      turn_thing act i None verb args a g u k = fine_stop L Astray
      turn_thing act i (Some (Made node caught stamps)) verb args a g u k = run_object _ verb args (record { act = act; nouns = caught }) u k (λ c. (a c, (g c).0))
      turn_thing act i (Some (Ejector live)) verb args a g u k = thing_answer _ fine_call act i (Ejector live) verb args a g k
      turn_thing act i (Some (Audition live view)) verb args a g u k = thing_answer _ fine_call act i (Audition live view) verb args a g k
      turn_thing act i (Some (Resolver p)) verb args a g u k = thing_answer _ fine_call act i (Resolver p) verb args a g k

      turn_spot : {C : Type 0} (act : ℕ) (p : Spot) (verb : Words) (args : List (Value Name)) → (C → IsLow L act) → (C → TextFits verb) → (C → ValuesFit L args) → Fine L C (calls.turn_spot K tree rec act p verb args) (ValueFits L)
      unfolding calls.turn_spot
      turn_spot act (Own i) verb args a u k = fine_bind L (WhereSome (ThingFits L)) (look_thing i) (λ t. turn_thing act i t verb args (λ c. a c.0) (λ c. c.1) (λ c. u c.0) (λ c. k c.0))
      turn_spot act other verb args a u k = fine_stop L Astray

      pub fine_turn_value : {C : Type 0} (act : ℕ) (x : Value Name) (verb : Words) (args : List (Value Name)) → (C → IsLow L act) → (C → ValueFits L x) → (C → TextFits verb) → (C → ValuesFit L args) → Fine L C (calls.turn_value K tree rec act x verb args) (ValueFits L)
      unfolding calls.turn_value
      fine_turn_value act (Ref n) verb args a f u k = turn_spot act (K.spot n) verb args a u k
      fine_turn_value act (Broken p) verb args a f u k = fine_throw L p f
      fine_turn_value act (Prim n) verb args a f u k = fine_perform L word v inside tree _ fine_call act _ a (λ c. asked_fits L (primitive n) (primitive_guarded L n) verb args (k c))
      fine_turn_value act Null verb args a f u k = fine_data_answer L word v inside tree _ fine_call act Null verb args a f k
      fine_turn_value act (Flag b) verb args a f u k = fine_data_answer L word v inside tree _ fine_call act (Flag b) verb args a f k
      fine_turn_value act (Number z) verb args a f u k = fine_data_answer L word v inside tree _ fine_call act (Number z) verb args a f k
      fine_turn_value act (Letter l) verb args a f u k = fine_data_answer L word v inside tree _ fine_call act (Letter l) verb args a f k
      fine_turn_value act (Text t) verb args a f u k = fine_data_answer L word v inside tree _ fine_call act (Text t) verb args a f k
      fine_turn_value act (Items i) verb args a f u k = fine_data_answer L word v inside tree _ fine_call act (Items i) verb args a f k

    -- ---- making objects

    view_fits : (node : ℕ) (o : Option Node) (xs : List Words) (here : Scope Name) → ScopeFits here → ViewFits L (calls.view_of K tree node o xs here)
    unfolding calls.view_of
    view_fits node o xs here h = free_fits (scopes.own_noun o) here.nouns xs h.1

    object_made : {C : Type 0} (node : ℕ) (x : Words) (act : ℕ) (me : Name) (after : Scope Name) (stamps : List (Value Name)) (caught : List (Binding Name)) → IsObjectName x → (C → IsLow L act) → (C → NameFits L me) → (C → ScopeFits after) → (C → ValuesFit L stamps) → (C → NounsFit L caught) → Fine L C (calls.object_made K tree node x act me after stamps caught) AnswerFits
    unfolding calls.object_made
    object_made node x act me after stamps caught w a f h k g = fine_then L (fine_thing L (Made node caught stamps) (λ c. (g c, k c)))
        (fine_then L (fine_tell L _ (λ c. (a c, f c, w, bounds_fit caught (g c), k c))) (fine_answered after (Ref me) h f))

    below : (s : Vat Name) → size s < L.limit → length s.things < L.limit
    unfolding size
    below s low = omega (arith, low)

    pub fine_make_object : {C : Type 0} (again : Caller Name) → GoodCaller L again → (node : ℕ) (o : Option Node) (free : List Words) (auditors : List (Value Name)) (here : Scope Name) → WhereSome NodeFits o → (C → ValuesFit L auditors) → (C → ScopeFits here) → Fine L C (calls.make_object K tree again node o free auditors here) AnswerFits
    unfolding calls.make_object calls.object_as calls.object_in
    fine_make_object again good node o free auditors here w f h = fine_bind L (ValuesFit L) (ask_all again good here.act (calls.view_of K tree node o free here) auditors (λ c. (h c).0) (λ c. view_fits node o free here (h c)) f)
        (λ stamps. fine_bind L (IsLow L) (fine_low L _ (λ s low. below s low)) (λ n. object_made node (scopes.name_of o) here.act (K.object n) (scopes.named o (Ref (K.object n)) here) stamps
        (scopes.captures (scopes.named o (Ref (K.object n)) here) free) (called_by o w) (λ c. (h c.0.0).0) (λ c. made_object n c.1) (λ c. named_fits o _ here (made_object n c.1) (h c.0.0)) (λ c. c.0.1)
        (λ c. captures_fit _ free (named_fits o _ here (made_object n c.1) (h c.0.0)).1)))
