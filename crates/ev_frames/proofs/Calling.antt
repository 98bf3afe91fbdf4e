-- Calls begin, and bodies of methods come to an end.
use Rattle.std.proofs.Common.{◌≡◌, ℕ, ◌+◌, Bool, List, [], ◌∷◌, Option, Some, None, Ok, Err, length, refl, sym, ap, ◌∙◌, arith}
use Rattle.std.specs.Prelude.{Result, slice_get, reverse, take}
use Rattle.ev_base.specs.declared.values.Value.{Value}
use Rattle.ev_base.specs.declared.values.Value.TheVariants as held
use Rattle.ev_audit.specs.Asks.{asking}
use Rattle.ev_heap.specs.declared.happened.Happened.TheVariants as event
use Rattle.ev_heap.specs.declared.kept.AuditView.{AuditView}
use Rattle.def_kernel.specs.declared.node.Node.{Node}
use Rattle.def_kernel.specs.declared.node.Node.TheVariants.{Lit, Noun, Set, Def, Call, Sequence, If, Escape, Try, Finally, Hide, MatchBind, Object as ObjectNode, Method, Matcher, Final, Var, Any, ListPattern, Via}
use Rattle.def_machine.specs.Values.{Words}
use Rattle.def_machine.specs.Scopes.{Case, matchers_of, members_of}
use Rattle.ev_room.specs.declared.exit.Exit.{Exit}
use Rattle.ev_pass.specs.declared.interior.Interior.{Interior as Room}
use Rattle.ev_room.specs.declared.object.Object.{Object}
use Rattle.ev_room.specs.declared.object.Code.TheVariants.{Runs, Leaves, Resolves, Audits}
use Rattle.ev_room.specs.declared.scope.Binding.{Binding}
use Rattle.ev_room.specs.declared.scope.Scope.{Scope}
use Rattle.ev_room.specs.Acts.{Act, Out, Gives, Unless, and_then, ◌>>=◌, ◌>>◌, give, answer, cut, closed, closed_by, tell, new_activation, first_method, look_code, ejected, ejector_answer, call_ejector}
use Rattle.ev_steps.specs.Eventual.{resolving, resolver_answer, call_resolver}
use Rattle.ev_steps.specs.Steps.{Caller, Evaluator, again_by, audition_answer, call_audition, answered, call_data, evaluator, bind_all, call, call_at, call_object, call_code, call_made, run_object, run_found, run_method, turn_code, turn_object, value_of_matchers}
use Rattle.ev_frames.specs.declared.frames.Frame.{Frame}
use Rattle.ev_frames.specs.declared.frames.Frame.TheVariants.{Body, Guard as GuardOf}
use Rattle.ev_frames.specs.declared.frames.Guard.TheVariants.{Alone}
use Rattle.ev_frames.specs.declared.now.Now.{Now}
use Rattle.ev_frames.specs.Rest.{Goes, Stays, Nested, rest, settled, valued, given, guarding, opened_method, bound_then, activated, verb_of, args_of}
use Rattle.ev_room.proofs.Exits.{unless_as}
use Rattle.ev_frames.proofs.Rests.{goes_as, then_then, unless_so}

pub body_nested : (fs gs : List Frame) (here there : Scope) → Nested fs here → gs ≡ Body here ∷ fs → Nested gs there
unfolding Nested
body_nested fs gs here there h e = rw e h

pub settled_gave : (tree : List Node) (fs : List Frame) (here : Scope) (o : Out Value) (v : Value) (t : Room) → o ≡ (Ok v, t) → rest tree fs here (settled here o) ≡ rest tree fs here (Ok (v, here), t)
unfolding and_then give
settled_gave tree fs here o v t e = rw e refl

pub settled_ended : (tree : List Node) (fs : List Frame) (here : Scope) (o : Out Value) (x : Exit) (t : Room) → Unless x (o ≡ (Err x, t)) → Unless x (rest tree fs here (settled here o) ≡ rest tree fs here (Err x, t))
unfolding and_then
settled_ended tree fs here o x t e = unless_as x (λ (y : o ≡ (Err x, t)). rw y refl) e

-- what came to an end at once
pub given_goes : (tree : List Node) (fs : List Frame) (here : Scope) (t : Room) (r : Result Value Exit) (q : Result Now Exit) (o : Out Value) → q ≡ given r → Gives r t o → Goes tree q fs here t (rest tree fs here (settled here o))
unfolding given
given_goes tree fs here t (Ok v) q o e g = rw e (settled_gave tree fs here o v t g)
given_goes tree fs here t (Err x) q o e g = rw e (settled_ended tree fs here o x t g)

pub given_stays : (r : Result Value Exit) (q : Result Now Exit) (fs : List Frame) (here : Scope) → q ≡ given r → Nested fs here → Stays q fs here
unfolding given
given_stays (Ok v) q fs here e h = rw e h
given_stays (Err x) q fs here e h = rw e (unless_so x h)

-- ---- methods

found_is : (rec : Evaluator) (ms : List Case) (verb : Words) (m : Option Node) (args : List Value) (here : Scope) (s : Room) → run_found rec ms verb m args here s ≡ valued (opened_method rec ms verb m args here s)
unfolding run_found opened_method run_method value_of_matchers bound_then ◌>>=◌
found_is rec ms verb None args here s = refl
found_is rec ms verb (Some (Method v ps b)) args here s = sym (then_then (bind_all rec ps args held.Null here s) (λ inner. rec.expression b inner) (λ x. give x.0))
found_is rec ms verb (Some (Lit l)) args here s = refl
found_is rec ms verb (Some (Noun x)) args here s = refl
found_is rec ms verb (Some (Set x e)) args here s = refl
found_is rec ms verb (Some (Def p j e)) args here s = refl
found_is rec ms said (Some (Call r verb es)) args here s = refl
found_is rec ms verb (Some (Sequence es)) args here s = refl
found_is rec ms verb (Some (If t a b)) args here s = refl
found_is rec ms verb (Some (Escape p b c)) args here s = refl
found_is rec ms verb (Some (Try b p h)) args here s = refl
found_is rec ms verb (Some (Finally a b)) args here s = refl
found_is rec ms verb (Some (Hide e)) args here s = refl
found_is rec ms verb (Some (MatchBind a b)) args here s = refl
found_is rec cs verb (Some (ObjectNode p as' ms)) args here s = refl
found_is rec ms verb (Some (Matcher p b)) args here s = refl
found_is rec ms verb (Some (Final x g)) args here s = refl
found_is rec ms verb (Some (Var x g)) args here s = refl
found_is rec ms verb (Some (Any g)) args here s = refl
found_is rec ms verb (Some (ListPattern ps)) args here s = refl
found_is rec ms verb (Some (Via a b)) args here s = refl

module _ (tree : List Node) (d : ℕ) (fs gs : List Frame) (here : Scope) (s : Room) (x : Value) (i : ℕ) (verb : Words) (args : List Value) where
  made_as : (o : Object)
      → call_made tree (evaluator tree d) here.act x i verb args o s
      ≡ and_then (activated here.act x i verb args s) (λ b. closed here.act (run_object tree (evaluator tree d) o.node verb args (record { act = b; nouns = reverse o.nouns })))
  unfolding call_made activated ◌>>=◌ ◌>>◌ and_then new_activation tell give
  made_as o = refl

  made_is : (o : Object) (b : ℕ) (t : Room) → activated here.act x i verb args s ≡ (Ok b, t)
      → call_made tree (evaluator tree d) here.act x i verb args o s
      ≡ closed_by here.act (run_object tree (evaluator tree d) o.node verb args (record { act = b; nouns = reverse o.nouns }) t)
  unfolding closed and_then
  made_is o b t e = made_as o ∙ (rw e refl)

  -- the body is run above the scope of the call
  pub made_begins : (o : Object) (b : ℕ) (there a : Scope) (t u : Room) (r : Result Now Exit) (m : Option Node) (ms : List Case) → activated here.act x i verb args s ≡ (Ok b, t)
      → there ≡ record { act = b; nouns = reverse o.nouns } → gs ≡ Body here ∷ fs → m ≡ first_method tree (members_of (slice_get tree o.node)) verb (length args) → ms ≡ matchers_of tree (members_of (slice_get tree o.node))
      → (hs : List Frame) → Goes tree r hs a u (rest tree gs there (opened_method (evaluator tree d) ms verb m args there t))
      → Goes tree r hs a u (rest tree fs here (settled here (call_made tree (evaluator tree d) here.act x i verb args o s)))
  unfolding rest run_object
  made_begins o b there a t u r m ms e is pushed found those hs g =
      let is_so : rest tree fs here (settled here (call_made tree (evaluator tree d) here.act x i verb args o s)) ≡ rest tree gs there (opened_method (evaluator tree d) ms verb m args there t) =
      rw (pushed, is, found, those) (ap (λ (q : Out Value). rest tree fs here (settled here q))
      (made_is o b t e ∙ ap (λ (q : Out Value). closed_by here.act q)
      (found_is (evaluator tree d) (matchers_of tree (members_of (slice_get tree o.node))) verb (first_method tree (members_of (slice_get tree o.node)) verb (length args)) args (record { act = b; nouns = reverse o.nouns }) t))) in
      goes_as tree r hs a u (rest tree gs there (opened_method (evaluator tree d) ms verb m args there t)) _ is_so g

  pub made_ends : (o : Object) (e : Exit) (t : Room) → Unless e (activated here.act x i verb args s ≡ (Err e, t))
      → Unless e (rest tree fs here (settled here (call_made tree (evaluator tree d) here.act x i verb args o s)) ≡ rest tree fs here (Err e, t))
  unfolding and_then
  made_ends o e t h = unless_as e (λ (y : activated here.act x i verb args s ≡ (Err e, t)). rw (made_as o, y) refl) h

module _ (tree : List Node) (d : ℕ) (again : Caller) (fs gs : List Frame) (here : Scope) (s : Room) (x : Value) (i : ℕ) (verb : Words) (args : List Value) where
  abbrev called : Act Value
  called = call_object tree (evaluator tree d) again here.act x i verb args

  pub runs : (o : Object) (t u : Room) (r : Result Now Exit) (a : Scope) → look_code i s ≡ (Ok (Runs o), t)
      → Goes tree r gs a u (rest tree fs here (settled here (call_made tree (evaluator tree d) here.act x i verb args o t)))
      → Goes tree r gs a u (rest tree fs here (settled here (called s)))
  unfolding call_object call_code ◌>>=◌
  runs o t u r a e g = goes_as tree r gs a u (rest tree fs here (settled here (call_made tree (evaluator tree d) here.act x i verb args o t))) _ (rw e (unfold and_then in refl)) g

  pub audits : (live : Bool) (view : AuditView) (t u : Room) (r : Result Now Exit) (a : Scope) → look_code i s ≡ (Ok (Audits live view), t)
      → Goes tree r gs a u (rest tree fs here (settled here (call_audition tree again here.act x live view verb args t)))
      → Goes tree r gs a u (rest tree fs here (settled here (called s)))
  unfolding call_object call_code ◌>>=◌
  audits live view t u r a e g = goes_as tree r gs a u (rest tree fs here (settled here (call_audition tree again here.act x live view verb args t))) _ (rw e (unfold and_then in refl)) g

  object_leaves : (live : Bool) (t : Room) → look_code i s ≡ (Ok (Leaves live), t) → called s ≡ call_ejector here.act x i live verb args t
  unfolding call_object call_code ◌>>=◌ and_then
  object_leaves live t e = rw e refl

  object_resolves : (p : ℕ) (t : Room) → look_code i s ≡ (Ok (Resolves p), t) → called s ≡ call_resolver here.act x p verb args t
  unfolding call_object call_code ◌>>=◌ and_then
  object_resolves p t e = rw e refl

  pub leaves : (live : Bool) (t u : Room) (r : Result Value Exit) (q : Result Now Exit) → look_code i s ≡ (Ok (Leaves live), t) → q ≡ given r → Gives r u (call_ejector here.act x i live verb args t)
      → Goes tree q fs here u (rest tree fs here (settled here (called s)))
  leaves live t u r q e f g =
      goes_as tree q fs here u (rest tree fs here (settled here (call_ejector here.act x i live verb args t))) _ (ap (λ (o : Out Value). rest tree fs here (settled here o)) (object_leaves live t e))
      (given_goes tree fs here u r q (call_ejector here.act x i live verb args t) f g)

  pub resolves : (p : ℕ) (t u : Room) (r : Result Value Exit) (q : Result Now Exit) → look_code i s ≡ (Ok (Resolves p), t) → q ≡ given r → Gives r u (call_resolver here.act x p verb args t)
      → Goes tree q fs here u (rest tree fs here (settled here (called s)))
  resolves p t u r q e f g =
      goes_as tree q fs here u (rest tree fs here (settled here (call_resolver here.act x p verb args t))) _ (ap (λ (o : Out Value). rest tree fs here (settled here o)) (object_resolves p t e))
      (given_goes tree fs here u r q (call_resolver here.act x p verb args t) f g)

  pub look_ends : (t : Room) (e : Exit) → Unless e (look_code i s ≡ (Err e, t))
      → Unless e (rest tree fs here (settled here (called s)) ≡ rest tree fs here (Err e, t))
  unfolding call_object ◌>>=◌ and_then
  look_ends t e h = unless_as e (λ (y : look_code i s ≡ (Err e, t)). rw y refl) h

pub call_goes : (tree : List Node) (d act n : ℕ) (x : Value) (verb : Words) (args : List Value) (s u : Room) (fs gs : List Frame) (here a : Scope) (r : Result Now Exit) → n ≡ length s.heap.lists
    → Goes tree r gs a u (rest tree fs here (settled here (call_at tree (evaluator tree d) (n + 4) act x verb args s)))
    → Goes tree r gs a u (rest tree fs here (settled here (call tree (evaluator tree d) act x verb args s)))
unfolding call
call_goes tree d act n x verb args s u fs gs here a r e g =
    goes_as tree r gs a u (rest tree fs here (settled here (call_at tree (evaluator tree d) (n + 4) act x verb args s))) _ (rw e refl) g

-- ---- what a turn does with a message

back_to : (here : Scope) (ns : List Binding) → here.nouns ≡ [] → cut (length here.nouns) (record { act = here.act; nouns = ns }) ≡ here
back_to here ns e =
    ap (λ (bs : List Binding). record { act = here.act; nouns = take (length bs) ns }) e
    ∙ ap (λ (bs : List Binding). record { act = here.act; nouns = bs }) (sym e)

pub answer_gives : (r : Result Value Exit) (t : Room) → Gives r t (answer r t)
unfolding answer
answer_gives (Ok v) t = refl
answer_gives (Err e) t = unless_so e refl

module _ (tree : List Node) (d : ℕ) (fs gs : List Frame) (here : Scope) (s : Room) (verb : Words) (args : List Value) where
  -- the code is run above what leaves the scope as it was
  pub run_begins : (o : Object) (there a : Scope) (u : Room) (r : Result Now Exit) (m : Option Node) (ms : List Case) → here.nouns ≡ [] → gs ≡ GuardOf d (length here.nouns) Alone ∷ fs
      → there ≡ record { act = here.act; nouns = reverse o.nouns } → m ≡ first_method tree (members_of (slice_get tree o.node)) verb (length args) → ms ≡ matchers_of tree (members_of (slice_get tree o.node))
      → (hs : List Frame) → Goes tree r hs a u (rest tree gs there (opened_method (evaluator tree d) ms verb m args there s))
      → Goes tree r hs a u (rest tree fs here (settled here (run_object tree (evaluator tree d) o.node verb args (record { act = here.act; nouns = reverse o.nouns }) s)))
  unfolding rest guarding run_object
  run_begins o there a u r m ms bare pushed is found those hs g =
      goes_as tree r hs a u (rest tree gs there (opened_method (evaluator tree d) ms verb m args there s)) _
      (rw (pushed, is, found, those) (ap (λ (q : Out Value). rest tree fs here (settled here q))
      (found_is (evaluator tree d) (matchers_of tree (members_of (slice_get tree o.node))) verb (first_method tree (members_of (slice_get tree o.node)) verb (length args)) args (record { act = here.act; nouns = reverse o.nouns }) s)
      ∙ ap (λ (b : Scope). rest tree fs b (settled b (valued (opened_method (evaluator tree d) (matchers_of tree (members_of (slice_get tree o.node))) verb (first_method tree (members_of (slice_get tree o.node)) verb (length args)) args (record { act = here.act; nouns = reverse o.nouns }) s))))
      (sym (back_to here (reverse o.nouns) bare)))) g

  pub run_nested : (o : Object) (there : Scope) → here.nouns ≡ [] → Nested fs here → gs ≡ GuardOf d (length here.nouns) Alone ∷ fs → there ≡ record { act = here.act; nouns = reverse o.nouns } → Nested gs there
  unfolding Nested
  run_nested o there bare h pushed is =
      rw (pushed, is) (rw bare (omega arith), rw (back_to here (reverse o.nouns) bare) h)

  pub turn_runs : (i : ℕ) (o : Object) (t u : Room) (r : Result Now Exit) (a : Scope) → look_code i s ≡ (Ok (Runs o), t)
      → Goes tree r gs a u (rest tree fs here (settled here (run_object tree (evaluator tree d) o.node verb args (record { act = here.act; nouns = reverse o.nouns }) t)))
      → Goes tree r gs a u (rest tree fs here (settled here (turn_object tree (evaluator tree d) here.act i verb args s)))
  unfolding turn_object turn_code ◌>>=◌
  turn_runs i o t u r a e g =
      goes_as tree r gs a u (rest tree fs here (settled here (run_object tree (evaluator tree d) o.node verb args (record { act = here.act; nouns = reverse o.nouns }) t))) _ (rw e (unfold and_then in refl)) g

  turn_left : (i : ℕ) (live : Bool) (t : Room) → look_code i s ≡ (Ok (Leaves live), t) → turn_object tree (evaluator tree d) here.act i verb args s ≡ answer (ejector_answer i live (ejected verb args)) t
  unfolding turn_object turn_code ◌>>=◌ and_then
  turn_left i live t e = rw e refl

  turn_resolved : (i p : ℕ) (t : Room) → look_code i s ≡ (Ok (Resolves p), t) → turn_object tree (evaluator tree d) here.act i verb args s ≡ resolver_answer p (resolving verb args) t
  unfolding turn_object turn_code ◌>>=◌ and_then
  turn_resolved i p t e = rw e refl

  pub turn_leaves : (i : ℕ) (live : Bool) (t : Room) (r : Result Value Exit) (q : Result Now Exit) → look_code i s ≡ (Ok (Leaves live), t) → q ≡ given r → r ≡ ejector_answer i live (ejected verb args)
      → Goes tree q fs here t (rest tree fs here (settled here (turn_object tree (evaluator tree d) here.act i verb args s)))
  turn_leaves i live t r q e f g =
      goes_as tree q fs here t (rest tree fs here (settled here (answer (ejector_answer i live (ejected verb args)) t))) _ (ap (λ (o : Out Value). rest tree fs here (settled here o)) (turn_left i live t e))
      (given_goes tree fs here t (ejector_answer i live (ejected verb args)) q (answer (ejector_answer i live (ejected verb args)) t) (f ∙ ap given g) (answer_gives (ejector_answer i live (ejected verb args)) t))

  pub turn_resolves : (i p : ℕ) (t u : Room) (r : Result Value Exit) (q : Result Now Exit) → look_code i s ≡ (Ok (Resolves p), t) → q ≡ given r → Gives r u (resolver_answer p (resolving verb args) t)
      → Goes tree q fs here u (rest tree fs here (settled here (turn_object tree (evaluator tree d) here.act i verb args s)))
  turn_resolves i p t u r q e f g =
      goes_as tree q fs here u (rest tree fs here (settled here (resolver_answer p (resolving verb args) t))) _ (ap (λ (o : Out Value). rest tree fs here (settled here o)) (turn_resolved i p t e))
      (given_goes tree fs here u r q (resolver_answer p (resolving verb args) t) f g)

  pub turn_audits : (i : ℕ) (live : Bool) (view : AuditView) (t u : Room) (r : Result Now Exit) (a : Scope) → look_code i s ≡ (Ok (Audits live view), t)
      → Goes tree r gs a u (rest tree fs here (settled here (audition_answer tree (again_by tree (evaluator tree d) None) here.act live view (asking verb args) t)))
      → Goes tree r gs a u (rest tree fs here (settled here (turn_object tree (evaluator tree d) here.act i verb args s)))
  unfolding turn_object turn_code ◌>>=◌
  turn_audits i live view t u r a e g =
      goes_as tree r gs a u (rest tree fs here (settled here (audition_answer tree (again_by tree (evaluator tree d) None) here.act live view (asking verb args) t))) _ (rw e (unfold and_then in refl)) g

  pub turn_ends : (i : ℕ) (t : Room) (e : Exit) → Unless e (look_code i s ≡ (Err e, t))
      → Unless e (rest tree fs here (settled here (turn_object tree (evaluator tree d) here.act i verb args s)) ≡ rest tree fs here (Err e, t))
  unfolding turn_object ◌>>=◌ and_then
  turn_ends i t e h = unless_as e (λ (y : look_code i s ≡ (Err e, t)). rw y refl) h

-- ---- data

pub data_told : (tree : List Node) (again : Caller) (fs gs : List Frame) (here : Scope) (s t u : Room) (x y : Value) (verb : Words) (args : List Value) (r : Result Now Exit) (a : Scope)
    → tell (event.Call here.act x verb args None) s ≡ (Ok tt, t)
    → Goes tree r gs a u (rest tree fs here (settled here (closed_by here.act (answered again here.act y verb args t))))
    → Goes tree r gs a u (rest tree fs here (settled here (call_data again here.act x y verb args s)))
unfolding call_data closed ◌>>◌ and_then
data_told tree again fs gs here s t u x y verb args r a e g = rw e g

pub data_ends : (tree : List Node) (again : Caller) (fs : List Frame) (here : Scope) (s t : Room) (x y : Value) (verb : Words) (args : List Value) (z : Exit)
    → Unless z (tell (event.Call here.act x verb args None) s ≡ (Err z, t))
    → Unless z (rest tree fs here (settled here (call_data again here.act x y verb args s)) ≡ rest tree fs here (Err z, t))
unfolding call_data ◌>>◌ and_then
data_ends tree again fs here s t x y verb args z e = unless_as z (λ (is : tell (event.Call here.act x verb args None) s ≡ (Err z, t)). rw is refl) e

pub verb_is : (o : Option Node) (r : ℕ) (verb : Words) (args : List ℕ) → o ≡ Some (Call r verb args) → verb ≡ verb_of o
unfolding verb_of
verb_is o r verb args e = rw e refl

pub args_is : (o : Option Node) (r : ℕ) (verb : Words) (args : List ℕ) → o ≡ Some (Call r verb args) → args ≡ args_of o
unfolding args_of
args_is o r verb args e = rw e refl
