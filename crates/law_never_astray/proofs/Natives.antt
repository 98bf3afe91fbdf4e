-- What guards, data, primitives and auditors do: none of it goes astray.
use Rattle.std.proofs.Common.{◌≡◌, ℕ, zero, suc, ◌≤◌, Bool, true, false, List, [], ◌∷◌, ◌++◌, Option, Some, None, refl, length}
use Rattle.def_machine.specs.Values.{Words, Value, Flag, Text, Prim, Broken, Items, Ref, Naming}
use Rattle.def_machine.specs.State.{View, Thing, Ejector, Audition, Resolver, Standing, Unsettled, Message, Known, Vat, Act, ◌>>=◌, and_then, give, look, throw, eject, new_thing, new_promise}
use Rattle.def_machine.specs.Refs as refs
use Rattle.def_machine.specs.Refs.{Place, Near, Mine, Away, Gone, settle, resolve, send, send_only, react}
use Rattle.def_machine.specs.Form.{Item, Begin, End, Word, Fact as Fixing, items_of}
use Rattle.def_machine.specs.Native.{Reply, Says, Writes, Lists as Listed, Iterates, Fails, Guard, Asked, MakesList, Loops, SendsTo, CallsTo, MakesPromise, Breaks, Tells, Whens, IsStamped, Coerces, AddsNull, NoMethod}
use Rattle.def_machine.specs.Scopes as scopes
use Rattle.def_machine.specs.Perform as perform
use Rattle.def_machine.specs.Calls as calls
use Rattle.def_machine.specs.Scopes.{Caller, AuditionAsk, GetsForm, GetsGuard, Asks, NoAuditionAsk, ResolverAsk, Resolves, Smashes, NoResolverAsk}
use Rattle.def_kernel.specs.declared.node.Node.{Node}
use Rattle.law_fate.proofs.Name.Facts.{Fact, Also, IsName, IsValue, AreValues, IsThing, IsView, IsPlace, MayValue, IsReply, IsAsked, IsAuditionAsk, IsResolverAsk, nothing}
use Rattle.law_fate.proofs.Name.Care.{Care, Gets, Fine, gets, got, got_left, got_ejector, got_audition, got_resolver, told_called, told_back, told_thrown, told_left, told_got, told_slot_made, told_slot_read, told_slot_wrote, told_list_made, told_ejector_made, told_audition_made, told_promise_made, told_object_made, told_finished, told_threw}
use Rattle.law_fate.proofs.Name.Looks.{looks, look_place, look_place_of, follow_ok}
use Rattle.law_fate.proofs.Name.EvalFacts.{knows, got_no_lists}
use Rattle.law_fate.proofs.Name.Serves.{Serves, below_end}
use Rattle.law_fate.proofs.Name.CareEval.{fine_build}
use Rattle.law_never_astray.specs.Covered.{ThingCarries}
use Rattle.law_never_astray.proofs.Leads.{Nothing}
use Rattle.law_never_astray.proofs.CoveredNatives.{IsSeen}
use Rattle.law_never_astray.proofs.Forms.{lead_form}
use Rattle.law_never_astray.proofs.Good.{Good, Off, goods, good_leaf, good_left, good_next, good_ends, good_give, good_throw, good_eject, good_told, good_thing, go_unit, on_name, out_of_fuel}
use Rattle.law_never_astray.proofs.Rests.{Quiet, quiets, quiet_bind, quiet_stop}
use Rattle.law_never_astray.specs.Near.{IsNear}
use Rattle.law_never_astray.proofs.Near.{place_near}

-- a call does, whatever is called
abbrev pub GoodCaller : {N : Type 0} → Care N → List Node → (Vat N → Type 0) → (List (Message N) → List (Known N) → Type 0) → Caller N → Type 0
GoodCaller {N} S tree Bad Rests again = (C : Fact N) (many act : ℕ) (x : Value N) → Gets S C (IsValue x) → (verb : Words) (args : List (Value N)) → Gets S C (AreValues args) → Good S tree Bad Rests C many (again act x verb args) IsValue Nothing

-- what evaluation does with references and promises
pub record Works {N W : Type 0} (K : Naming N W) (S : Care N) (tree : List Node) (Bad : Vat N → Type 0) (Rests : List (Message N) → List (Known N) → Type 0) : Type 0 where
  pub serves : Serves K S
  pub promises : (C : Fact N) (n : ℕ) → Good S tree Bad Rests C n (new_promise K) IsName Nothing
  pub breaks : (C : Fact N) (n : ℕ) (p : N) → Gets S C (IsName p) → (t : Words) → Good S tree Bad Rests C n (settle K p (Broken t)) nothing Nothing
  pub resolves : (C : Fact N) (n : ℕ) (p : N) → Gets S C (IsName p) → (y : Value N) → Gets S C (IsValue y) → Good S tree Bad Rests C n (resolve K p y) nothing Nothing
  pub sends : (C : Fact N) (n act : ℕ) (x : Value N) → Gets S C (IsValue x) → (verb : Words) (args : List (Value N)) → Gets S C (AreValues args) → Good S tree Bad Rests C n (send K act x verb args) IsValue Nothing
  pub sends_only : (C : Fact N) (n act : ℕ) (x : Value N) → Gets S C (IsValue x) → (verb : Words) (args : List (Value N)) → Gets S C (AreValues args) → Good S tree Bad Rests C n (send_only K act x verb args) IsValue Nothing
  pub reacts : (C : Fact N) (n act : ℕ) (x : Value N) → Gets S C (IsValue x) → (o : Value N) → Gets S C (IsValue o) → (near : Value N) → Gets S C (IsValue near) → IsNear K near → Good S tree Bad Rests C n (react K act x o near) IsValue Nothing

pub ruleset told = (told_called, told_back, told_thrown, told_left, told_got, told_slot_made, told_slot_read, told_slot_wrote, told_list_made, told_ejector_made, told_audition_made, told_promise_made, told_object_made, told_finished, told_threw)

module _ {N W : Type 0} (K : Naming N W) (S : Care N) (tree : List Node) (Bad : Vat N → Type 0) (Rests : List (Message N) → List (Known N) → Type 0) (works : Works K S tree Bad Rests) where
  pub work_break : {C : Fact N} {n : ℕ} (p : N) → Gets S C (IsName p) → (t : Words) → Good S tree Bad Rests C n (settle K p (Broken t)) nothing Nothing
  work_break {C = C} {n = n} p g t = works.breaks C n p g t

  pub work_resolve : {C : Fact N} {n : ℕ} (p : N) → Gets S C (IsName p) → (y : Value N) → Gets S C (IsValue y) → Good S tree Bad Rests C n (resolve K p y) nothing Nothing
  work_resolve {C = C} {n = n} p g y h = works.resolves C n p g y h

  work_send : {C : Fact N} {n : ℕ} (act : ℕ) (x : Value N) → Gets S C (IsValue x) → (verb : Words) (args : List (Value N)) → Gets S C (AreValues args) → Good S tree Bad Rests C n (send K act x verb args) IsValue Nothing
  work_send {C = C} {n = n} act x g verb args h = works.sends C n act x g verb args h

  work_send_only : {C : Fact N} {n : ℕ} (act : ℕ) (x : Value N) → Gets S C (IsValue x) → (verb : Words) (args : List (Value N)) → Gets S C (AreValues args) → Good S tree Bad Rests C n (send_only K act x verb args) IsValue Nothing
  work_send_only {C = C} {n = n} act x g verb args h = works.sends_only C n act x g verb args h

  pub place_here : {C : Fact N} (y : Value N) → Gets S C (IsValue y) → Fine S C (look (λ s. refs.place K s y)) IsPlace
  place_here y g = look_place K S works.serves.spots y g

  pub place_of_here : {C : Fact N} (x : Value N) → Gets S C (IsValue x) → Fine S C (look (λ s. refs.place K s (refs.follow K s x))) IsPlace
  place_of_here x g = look_place_of K S works.serves.spots x g

  ruleset done = (gets, goods, told, work_break, work_resolve, work_send, work_send_only, place_here, place_of_here)

  -- a thing that came to be is there, so its number is that of a name in hand
  pub new_named : {C : Fact N} {n : ℕ} (t : Thing N) → Gets S C (IsThing t) → ((k : ℕ) → n ≤ k → ThingCarries tree k t) → Good S tree Bad Rests C n (new_thing t) (λ i. IsName (K.object i)) Nothing
  unfolding new_thing
  new_named t g h = record { after = λ s i c k r. let e = (good_thing S tree Bad Rests t g h).after s i c k r in ((e.0.0, e.0.1, works.serves.object (record s { things = s.things ++ t ∷ [] }) (length s.things) (below_end s.things t)), e.1, e.2) }

  new_resolver : {C : Fact N} {n : ℕ} (p : N) → Gets S C (IsName p) → Good S tree Bad Rests C n (new_thing (Resolver p)) (λ i. IsName (K.object i)) Nothing
  new_resolver {C = C} p g = new_named (Resolver p) (got_resolver S C p g) (λ k l. tt)

  new_audition : {C : Fact N} {n : ℕ} (view : View N) → IsSeen tree view → Gets S C (IsView view) → Good S tree Bad Rests C n (new_thing (Audition true view)) (λ i. IsName (K.object i)) Nothing
  new_audition {C = C} view seen g = new_named (Audition true view) (got_audition S C true view g) (λ k l. seen)

  pub on_object : {B : Type 0} {C : Fact N} {n : ℕ} {m : Act N ℕ} {f : ℕ → Act N B} {H : B → Fact N} {G : ℕ → B → Type 0} → Good S tree Bad Rests C n m (λ i. IsName (K.object i)) Nothing → ((i : ℕ) → Good S tree Bad Rests (Also C (IsName (K.object i))) n (f i) H G)
      → Good S tree Bad Rests C n (m >>= f) H G
  on_object h k = good_next S tree Bad Rests (λ i. IsName (K.object i)) h k

  -- ---- the form of a node

  quiet_store : (act : ℕ) (vs : List (Value N)) → Quiet Rests (perform.store K tree act vs)
  unfolding perform.store
  quiet_store act vs = search (quiets) depth 14

  quiet_make_list : (act : ℕ) (vs : List (Value N)) → Quiet Rests (perform.make_list K tree act vs)
  unfolding perform.make_list
  quiet_make_list act vs = search (quiets, quiet_store) depth 14

  quiet_build : (act : ℕ) (is : List Item) (fs : List (List (Value N))) → Quiet Rests (calls.build K tree act is fs)
  unfolding calls.build
  quiet_build act (Begin ∷ is) fs = quiet_build act is ([] ∷ fs)
  quiet_build act (Word w ∷ is) fs = quiet_build act is _
  quiet_build act (Fixing l ∷ is) fs = quiet_build act is _
  quiet_build act (End ∷ []) (f ∷ fs) = quiet_make_list act f
  quiet_build act (End ∷ i ∷ is) (f ∷ fs) = quiet_bind Rests (quiet_make_list act f) (λ v. quiet_build act (i ∷ is) _)
  quiet_build act _ _ = quiet_stop Rests _

  -- ---- what is done

  pub good_ended : {C : Fact N} → {many : ℕ} → (x1 : ℕ) → (x2 : Act N (Value N)) → Good S tree Bad Rests C many x2 IsValue Nothing → Good S tree Bad Rests C many (scopes.ended x1 x2) IsValue Nothing
  unfolding scopes.ended
  good_ended {C = C} act m h2 = search (done, looks, knows) depth 30

  pub good_with_lines : {C : Fact N} → {many : ℕ} → (x1 : ℕ) → (x2 : Value N) → Gets S C (IsValue x2) → (x3 : Words) → (x4 : List (Value N)) → Gets S C (AreValues x4) → (x5 : Act N (Value N)) → Good S tree Bad Rests C many x5 IsValue Nothing → Good S tree Bad Rests C many (scopes.with_lines x1 x2 x3 x4 x5) IsValue Nothing
  unfolding scopes.with_lines
  good_with_lines {C = C} act x g1 verb args g2 m h5 = search (done, looks, knows, good_ended) depth 30

  pub good_fail_by : {C : Fact N} → {many : ℕ} → {A : Type 0} → {G : A → Fact N} → {L : ℕ → A → Type 0} → (x1 : Caller N) → GoodCaller S tree Bad Rests x1 → (x2 : ℕ) → (x3 : Value N) → Gets S C (IsValue x3) → (x4 : Words) → (x5 : Bool) → Good S tree Bad Rests C many (perform.fail_by K tree {A = A} x1 x2 x3 x4 x5) G L
  unfolding perform.fail_by
  good_fail_by {C = C} again h1 act j g1 p true = search (done, looks, knows) depth 30
  good_fail_by {C = C} again h1 act j g1 p false = search (done, looks, knows) depth 30

  pub good_failed : {C : Fact N} → {many : ℕ} → {A : Type 0} → {G : A → Fact N} → {L : ℕ → A → Type 0} → (x1 : Caller N) → GoodCaller S tree Bad Rests x1 → (x2 : ℕ) → (x3 : Value N) → Gets S C (IsValue x3) → (x4 : Words) → Good S tree Bad Rests C many (perform.failed K tree {A = A} x1 x2 x3 x4) G L
  unfolding perform.failed
  good_failed {C = C} again h1 act j g1 p = search (done, looks, knows, good_fail_by) depth 30

  pub good_handed : {C : Fact N} → {many : ℕ} → (x1 : Value N) → Gets S C (IsValue x1) → Good S tree Bad Rests C many (perform.handed K tree x1) IsValue Nothing
  unfolding perform.handed
  good_handed {C = C} j g1 = search (done, looks, knows) depth 30

  pub good_native_coerce : {C : Fact N} → {many : ℕ} → (again : Caller N) → GoodCaller S tree Bad Rests again → (act : ℕ) → (g : Guard) → (j : Value N) → Gets S C (IsValue j) → (x : Value N) → Gets S C (IsValue x) → Good S tree Bad Rests C many (perform.native_coerce K tree again act g j x) IsValue Nothing
  unfolding perform.native_coerce
  good_native_coerce {C = C} again h1 act g j g1 x g2 = search (done, looks, knows, good_failed) depth 30

  pub good_coerce_native : {C : Fact N} → {many : ℕ} → (again : Caller N) → GoodCaller S tree Bad Rests again → (act : ℕ) → (o : Option Guard) → (j : Value N) → Gets S C (IsValue j) → (x : Value N) → Gets S C (IsValue x) → Good S tree Bad Rests C many (perform.coerce_native K tree again act o j x) IsValue Nothing
  unfolding perform.coerce_native
  good_coerce_native {C = C} again h1 act (Some g) j g1 x g2 = search (done, looks, knows, good_native_coerce) depth 30
  good_coerce_native {C = C} again h1 act None j g1 x g2 = search (done, looks, knows) depth 30

  pub good_coerce_near : {C : Fact N} → {many : ℕ} → (x1 : Caller N) → GoodCaller S tree Bad Rests x1 → (x2 : ℕ) → (x3 : Value N) → Gets S C (IsValue x3) → (x4 : Value N) → Gets S C (IsValue x4) → (x5 : Value N) → Gets S C (IsValue x5) → (x6 : Place N) → Good S tree Bad Rests C many (perform.coerce_near K tree x1 x2 x3 x4 x5 x6) IsValue Nothing
  unfolding perform.coerce_near
  good_coerce_near {C = C} again h1 act g g1 j g2 x g3 Near = search (done, looks, knows, good_handed) depth 30
  good_coerce_near {C = C} again h1 act g g1 j g2 x g3 _ = search (done, looks, knows) depth 30

  pub good_coerce : {C : Fact N} → {many : ℕ} → (again : Caller N) → GoodCaller S tree Bad Rests again → (act : ℕ) → (g : Value N) → Gets S C (IsValue g) → (j : Value N) → Gets S C (IsValue j) → (x : Value N) → Gets S C (IsValue x) → Good S tree Bad Rests C many (perform.coerce K tree again act g j x) IsValue Nothing
  unfolding perform.coerce
  good_coerce {C = C} again h1 act (Prim n) g0 j g1 x g2 = search (done, looks, knows, good_coerce_native) depth 30
  good_coerce {C = C} again h1 act (Ref n) g0 j g1 x g2 = search (done, looks, knows, good_coerce_near) depth 30
  good_coerce {C = C} again h1 act _ g0 j g1 x g2 = search (done, looks, knows) depth 30

  pub good_store : {C : Fact N} → {many : ℕ} → (x1 : ℕ) → (x2 : List (Value N)) → Gets S C (AreValues x2) → Good S tree Bad Rests C many (perform.store K tree x1 x2) IsValue Nothing
  unfolding perform.store
  good_store {C = C} act vs g1 = search (done, looks, knows) depth 30

  pub good_make_list : {C : Fact N} → {many : ℕ} → (x1 : ℕ) → (x2 : List (Value N)) → Gets S C (AreValues x2) → Good S tree Bad Rests C many (perform.make_list K tree x1 x2) IsValue Nothing
  unfolding perform.make_list
  good_make_list {C = C} act vs g1 = search (done, looks, knows, good_store) depth 30

  pub good_spell : {C : Fact N} → {many : ℕ} → (x1 : Words) → Good S tree Bad Rests C many (perform.spell K tree x1) IsValue Nothing
  unfolding perform.spell
  good_spell {C = C} t = search (done, looks, knows) depth 30

  pub good_write_text : {C : Fact N} → {many : ℕ} → (x1 : Words) → Good S tree Bad Rests C many (perform.write_text K tree x1) IsValue Nothing
  unfolding perform.write_text
  good_write_text {C = C} t = search (done, looks, knows, good_spell) depth 30

  pub good_iterate : {C : Fact N} → {many : ℕ} → (x1 : Caller N) → GoodCaller S tree Bad Rests x1 → (x2 : ℕ) → (x3 : Value N) → Gets S C (IsValue x3) → (x4 : ℕ) → (x5 : List (Value N)) → Gets S C (AreValues x5) → Good S tree Bad Rests C many (perform.iterate K tree x1 x2 x3 x4 x5) IsValue Nothing
  unfolding perform.iterate
  good_iterate {C = C} again h act o g1 k [] g2 = search (done, looks, knows) depth 30
  good_iterate {C = C} {many = many} again h act o g1 k (v ∷ vs) g2 = let d0_g2 : Gets S C (IsValue v) = record { at = λ s h. (g2.at s h).0 } in let d1_g2 : Gets S C (AreValues vs) = record { at = λ s h. (g2.at s h).1 } in let rest : (D : Fact N) → Gets S D (IsValue o) → Gets S D (AreValues vs) → Good S tree Bad Rests D many (perform.iterate K tree again act o (suc k) vs) IsValue Nothing = λ D a b. good_iterate {C = D} again h act o a (suc k) vs b in search (done, looks, knows) depth 30

  pub good_reply : {C : Fact N} → {many : ℕ} → (x1 : Caller N) → GoodCaller S tree Bad Rests x1 → (x2 : ℕ) → (x3 : Reply N) → Gets S C (IsReply x3) → Good S tree Bad Rests C many (perform.reply K tree x1 x2 x3) IsValue Nothing
  unfolding perform.reply
  good_reply {C = C} again h1 act (Says v) g1 = let d_g1 : Gets S C (IsValue v) = record { at = λ s h. (g1.at s h) } in search (done, looks, knows) depth 30
  good_reply {C = C} again h1 act (Writes t) g1 = search (done, looks, knows, good_write_text) depth 30
  good_reply {C = C} again h1 act (Listed vs) g1 = let d_g1 : Gets S C (AreValues vs) = record { at = λ s h. (g1.at s h) } in search (done, looks, knows, good_make_list) depth 30
  good_reply {C = C} again h1 act (Iterates o vs) g1 = let do_g1 : Gets S C (IsValue o) = record { at = λ s h. (g1.at s h).0 } in let d_g1 : Gets S C (AreValues vs) = record { at = λ s h. (g1.at s h).1 } in search (done, looks, knows, good_iterate) depth 30
  good_reply {C = C} again h1 act (Fails p) g1 = search (done, looks, knows) depth 30

  pub good_data_answer : {C : Fact N} → {many : ℕ} → (x1 : Caller N) → GoodCaller S tree Bad Rests x1 → (x2 : ℕ) → (x3 : Value N) → Gets S C (IsValue x3) → (x4 : Words) → (x5 : List (Value N)) → Gets S C (AreValues x5) → Good S tree Bad Rests C many (perform.data_answer K tree x1 x2 x3 x4 x5) IsValue Nothing
  unfolding perform.data_answer
  good_data_answer {C = C} again h1 act y g1 verb args g2 = search (done, looks, knows, good_reply) depth 30

  pub good_send_by : {C : Fact N} → {many : ℕ} → (x0 : Bool) → (x1 : ℕ) → (x2 : Value N) → Gets S C (IsValue x2) → (x3 : Words) → (x4 : List (Value N)) → Gets S C (AreValues x4) → Good S tree Bad Rests C many (perform.send_by K tree x0 x1 x2 x3 x4) IsValue Nothing
  unfolding perform.send_by
  good_send_by {C = C} only act x g1 verb args g2 = search (done, looks, knows) depth 30

  pub good_send_listed : {C : Fact N} → {many : ℕ} → (x0 : Bool) → (x1 : ℕ) → (x2 : Value N) → Gets S C (IsValue x2) → (x3 : Words) → (x4 : List (Value N)) → Gets S C (AreValues x4) → Good S tree Bad Rests C many (perform.send_listed K tree x0 x1 x2 x3 x4) IsValue Nothing
  unfolding perform.send_listed
  good_send_listed {C = C} only act x g1 verb args g2 = search (done, looks, knows, good_send_by) depth 30

  pub good_send_with : {C : Fact N} → {many : ℕ} → (x0 : Bool) → (x1 : ℕ) → (x2 : Value N) → Gets S C (IsValue x2) → (x3 : Value N) → Gets S C (IsValue x3) → (x4 : Value N) → Gets S C (IsValue x4) → Good S tree Bad Rests C many (perform.send_with K tree x0 x1 x2 x3 x4) IsValue Nothing
  unfolding perform.send_with
  good_send_with {C = C} only act x g1 (Text verb) g2 (Items k) g3 = search (done, looks, knows, good_send_listed) depth 30
  good_send_with {C = C} only act x g1 _ g2 _ g3 = search (done, looks, knows) depth 30

  pub good_call_listed : {C : Fact N} → {many : ℕ} → (x1 : Caller N) → GoodCaller S tree Bad Rests x1 → (x2 : ℕ) → (x3 : Value N) → Gets S C (IsValue x3) → (x4 : Words) → (x5 : List (Value N)) → Gets S C (AreValues x5) → Good S tree Bad Rests C many (perform.call_listed K tree x1 x2 x3 x4 x5) IsValue Nothing
  unfolding perform.call_listed
  good_call_listed {C = C} again h1 act x g1 verb args g2 = search (done, looks, knows) depth 30

  pub good_call_with : {C : Fact N} → {many : ℕ} → (x1 : Caller N) → GoodCaller S tree Bad Rests x1 → (x2 : ℕ) → (x3 : Value N) → Gets S C (IsValue x3) → (x4 : Value N) → Gets S C (IsValue x4) → (x5 : Value N) → Gets S C (IsValue x5) → Good S tree Bad Rests C many (perform.call_with K tree x1 x2 x3 x4 x5) IsValue Nothing
  unfolding perform.call_with
  good_call_with {C = C} again h1 act x g1 (Text verb) g2 (Items k) g3 = search (done, looks, knows, good_call_listed) depth 30
  good_call_with {C = C} again h1 act x g1 _ g2 _ g3 = search (done, looks, knows) depth 30

  pub good_make_promise : {C : Fact N} → {many : ℕ} → (x1 : ℕ) → Good S tree Bad Rests C many (perform.make_promise K tree x1) IsValue Nothing
  unfolding perform.make_promise
  good_make_promise {C = C} act = on_name S tree Bad Rests (works.promises C _) (λ p. on_object (new_resolver p (got S C (IsName p))) (λ r. search (done, looks, knows, good_make_list) depth 30))

  pub good_react_near : {C : Fact N} → {many : ℕ} → (act : ℕ) → (x : Value N) → Gets S C (IsValue x) → (o : Value N) → Gets S C (IsValue o) → (y : Value N) → Gets S C (IsValue y) → (p : Place N) → (p ≡ Near → IsNear K y) → Good S tree Bad Rests C many (perform.react_near K tree act x o y p) IsValue Nothing
  unfolding perform.react_near
  good_react_near {C = C} {many = many} act x g1 o g2 y g3 Near near = works.reacts C many act x g1 o g2 y g3 (near refl)
  good_react_near {C = C} act x g1 o g2 y g3 (Mine n) near = good_throw S tree Bad Rests _
  good_react_near {C = C} act x g1 o g2 y g3 (Away h n b) near = good_throw S tree Bad Rests _
  good_react_near {C = C} act x g1 o g2 y g3 (Gone t) near = good_throw S tree Bad Rests _

  pub good_when_resolved : {C : Fact N} → {many : ℕ} → (act : ℕ) → (x : Value N) → Gets S C (IsValue x) → (o : Value N) → Gets S C (IsValue o) → Good S tree Bad Rests C many (perform.when_resolved K tree act x o) IsValue Nothing
  unfolding perform.when_resolved ◌>>=◌ look and_then
  good_when_resolved {C = C} act x g1 o g2 = record {
    after = λ s h c k r. let y : Value N = refs.follow K s o in
        (good_react_near {C = Also C (IsValue y)} act x (got_left S C (IsValue y) (IsValue x) g1) o (got_left S C (IsValue y) (IsValue o) g2) y (got S C (IsValue y)) (refs.place K s y) (λ e. place_near K s y e)).after s h (c, follow_ok K (S.ok s) s h.parts.known o (g2.at s c)) k r;
  }

  pub good_after_turn : {C : Fact N} → {many : ℕ} → (x1 : Act N (Value N)) → Good S tree Bad Rests C many x1 IsValue Nothing → (x2 : Value N) → Gets S C (IsValue x2) → Good S tree Bad Rests C many (perform.after_turn K tree x1 x2) IsValue Nothing
  unfolding perform.after_turn
  good_after_turn {C = C} more h1 (Flag true) g1 = search (done, looks, knows) depth 30
  good_after_turn {C = C} more h1 (Flag false) g1 = search (done, looks, knows) depth 30
  good_after_turn {C = C} more h1 _ g1 = search (done, looks, knows) depth 30

  pub good_turns : {C : Fact N} → {many : ℕ} → (x1 : ℕ) → (x2 : Act N (Value N)) → Good S tree Bad Rests C many x2 IsValue Nothing → Good S tree Bad Rests C many (perform.turns K tree x1 x2) IsValue Nothing
  unfolding perform.turns
  good_turns {C = C} zero body h = search (done, looks, knows) depth 30
  good_turns {C = C} {many = many} (suc n) body h = let rest : (x y : Value N) → Good S tree Bad Rests (Also (Also C (IsValue x)) (IsValue y)) many (λ s. perform.turns K tree n body s) IsValue Nothing = λ x y. good_left S tree Bad Rests (good_left S tree Bad Rests (good_turns {C = C} n body h)) in search (done, looks, knows, good_after_turn) depth 30

  pub good_loop : {C : Fact N} → {many : ℕ} → (x1 : Act N (Value N)) → Good S tree Bad Rests C many x1 IsValue Nothing → Good S tree Bad Rests C many (perform.loop K tree x1) IsValue Nothing
  unfolding perform.loop
  good_loop {C = C} body h1 = search (done, looks, knows, good_turns) depth 30

  pub good_perform : {C : Fact N} → {many : ℕ} → (x1 : Caller N) → GoodCaller S tree Bad Rests x1 → (x2 : ℕ) → (x3 : Asked N) → Gets S C (IsAsked x3) → Good S tree Bad Rests C many (perform.perform K tree x1 x2 x3) IsValue Nothing
  unfolding perform.perform
  good_perform {C = C} again h1 act (MakesList vs) g1 = let d_g1 : Gets S C (AreValues vs) = record { at = λ s h. (g1.at s h) } in search (done, looks, knows, good_make_list) depth 30
  good_perform {C = C} again h1 act (Loops o) g1 = let d_g1 : Gets S C (IsValue o) = record { at = λ s h. (g1.at s h) } in search (done, looks, knows, good_loop) depth 30
  good_perform {C = C} again h1 act (SendsTo only x v l) g1 = let d0_g1 : Gets S C (IsValue x) = record { at = λ s h. (g1.at s h).0 } in let d1_g1 : Gets S C (IsValue v) = record { at = λ s h. (g1.at s h).1 } in let d2_g1 : Gets S C (IsValue l) = record { at = λ s h. (g1.at s h).2 } in search (done, looks, knows, good_send_with) depth 30
  good_perform {C = C} again h1 act (CallsTo x v l) g1 = let d0_g1 : Gets S C (IsValue x) = record { at = λ s h. (g1.at s h).0 } in let d1_g1 : Gets S C (IsValue v) = record { at = λ s h. (g1.at s h).1 } in let d2_g1 : Gets S C (IsValue l) = record { at = λ s h. (g1.at s h).2 } in search (done, looks, knows, good_call_with) depth 30
  good_perform {C = C} again h1 act MakesPromise g1 = search (done, looks, knows, good_make_promise) depth 30
  good_perform {C = C} again h1 act (Breaks t) g1 = let d_g1 : Gets S C (IsValue t) = record { at = λ s h. (g1.at s h) } in search (done, looks, knows, good_reply) depth 30
  good_perform {C = C} again h1 act (Tells test x) g1 = let d_g1 : Gets S C (IsValue x) = record { at = λ s h. (g1.at s h) } in search (done, looks, knows, good_reply) depth 30
  good_perform {C = C} again h1 act (Whens x o) g1 = let d0_g1 : Gets S C (IsValue x) = record { at = λ s h. (g1.at s h).0 } in let d1_g1 : Gets S C (IsValue o) = record { at = λ s h. (g1.at s h).1 } in search (done, looks, knows, good_when_resolved) depth 30
  good_perform {C = C} again h1 act (IsStamped a x) g1 = search (done, looks, knows) depth 30
  good_perform {C = C} again h1 act (Coerces g x j) g1 = let d0_g1 : Gets S C (IsValue x) = record { at = λ s h. (g1.at s h).0 } in let d1_g1 : Gets S C (IsValue j) = record { at = λ s h. (g1.at s h).1 } in search (done, looks, knows, good_native_coerce) depth 30
  good_perform {C = C} again h1 act (AddsNull g) g1 = let d_g1 : Gets S C (IsValue g) = record { at = λ s h. (g1.at s h) } in search (done, looks, knows, good_reply) depth 30
  good_perform {C = C} again h1 act NoMethod g1 = search (done, looks, knows) depth 30
  good_perform {C = C} again h1 act other g1 = search (done, looks, knows, good_reply) depth 30

  pub good_leave : {C : Fact N} → {many : ℕ} → {A : Type 0} → {G : A → Fact N} → {L : ℕ → A → Type 0} → (x1 : ℕ) → (x2 : Act N A) → Good S tree Bad Rests C many x2 G L → Good S tree Bad Rests C many (calls.leave K tree {A = A} x1 x2) G L
  unfolding calls.leave
  good_leave {C = C} j m h2 = search (done, looks, knows) depth 30

  pub good_leaving : {C : Fact N} → {many : ℕ} → {A : Type 0} → {G : A → Fact N} → (n : ℕ) → (m : Act N A) → Good S tree Bad Rests C many m G Nothing → Good S tree Bad Rests C many (calls.leaving K tree {A = A} n m) G Nothing
  unfolding calls.leaving
  good_leaving {C = C} {G = G} n m h = good_ends S tree Bad Rests G h (λ a. good_leave n (give a) (good_give S tree Bad Rests a (got S C (G a)))) (λ p. good_leave n (throw p) (good_throw S tree Bad Rests p)) (λ k v. good_leave n (eject k v) (good_eject S tree Bad Rests k v (got S C (IsValue v))))

  pub good_audit : {C : Fact N} → {many : ℕ} → (x1 : Caller N) → GoodCaller S tree Bad Rests x1 → (x2 : ℕ) → (x3 : View N) → IsSeen tree x3 → Gets S C (IsView x3) → (x4 : Value N) → Gets S C (IsValue x4) → (x5 : Place N) → Good S tree Bad Rests C many (calls.audit K tree x1 x2 x3 x4 x5) nothing Nothing
  unfolding calls.audit
  good_audit {C = C} again h1 act view seen g1 a g2 Near = on_object (new_audition view seen g1) (λ n. search (done, looks, knows, good_leaving) depth 30)
  good_audit {C = C} again h1 act view seen g1 a g2 _ = search (done, looks, knows) depth 30

  pub good_verdict : {C : Fact N} → {many : ℕ} → (again : Caller N) → GoodCaller S tree Bad Rests again → (act : ℕ) → (view : View N) → IsSeen tree view → Gets S C (IsView view) → (a : Value N) → Gets S C (IsValue a) → (y : Value N) → Gets S C (IsValue y) → Good S tree Bad Rests C many (calls.verdict K tree again act view a y) nothing Nothing
  unfolding calls.verdict
  good_verdict {C = C} again h1 act view seen g1 a g2 (Prim n) g3 = search (done, looks, knows) depth 30
  good_verdict {C = C} again h1 act view seen g1 a g2 (Ref n) g3 = search (done, looks, knows, good_audit) depth 30
  good_verdict {C = C} again h1 act view seen g1 a g2 _ g3 = search (done, looks, knows) depth 30

  pub good_ask_all : {C : Fact N} → {many : ℕ} → (again : Caller N) → GoodCaller S tree Bad Rests again → (act : ℕ) → (view : View N) → IsSeen tree view → Gets S C (IsView view) → (xs : List (Value N)) → Gets S C (AreValues xs) → Good S tree Bad Rests C many (calls.ask_all K tree again act view xs) AreValues Nothing
  unfolding calls.ask_all
  good_ask_all {C = C} again h1 act view seen g1 [] g2 = search (done, looks, knows) depth 30
  good_ask_all {C = C} {many = many} again h1 act view seen g1 (a ∷ as') g2 = let da : Gets S C (IsValue a) = record { at = λ s h. (g2.at s h).0 } in let ds : Gets S C (AreValues as') = record { at = λ s h. (g2.at s h).1 } in
      let rest : (D : Fact N) → Gets S D (IsView view) → Gets S D (AreValues as') → Good S tree Bad Rests D many (calls.ask_all K tree again act view as') AreValues Nothing = λ D i k. good_ask_all {C = D} again h1 act view seen i as' k in search (done, looks, knows, good_verdict) depth 30

  pub good_ejector_answer : {C : Fact N} → {many : ℕ} → (x1 : ℕ) → (x2 : Bool) → (x3 : Option (Value N)) → Gets S C (MayValue x3) → Good S tree Bad Rests C many (calls.ejector_answer K tree x1 x2 x3) IsValue Nothing
  unfolding calls.ejector_answer
  good_ejector_answer {C = C} i live None g1 = search (done, looks, knows) depth 30
  good_ejector_answer {C = C} i true (Some v) g1 = let d_g1 : Gets S C (IsValue v) = record { at = λ s h. (g1.at s h) } in search (done, looks, knows) depth 30
  good_ejector_answer {C = C} i false (Some v) g1 = let d_g1 : Gets S C (IsValue v) = record { at = λ s h. (g1.at s h) } in search (done, looks, knows) depth 30

  pub good_where_unresolved : {C : Fact N} → {many : ℕ} → (x1 : Standing N) → (x2 : Act N (Unit {0})) → Good S tree Bad Rests C many x2 nothing Nothing → Good S tree Bad Rests C many (calls.where_unresolved K tree x1 x2) IsValue Nothing
  unfolding calls.where_unresolved
  good_where_unresolved {C = C} Unsettled m h2 = search (done, looks, knows) depth 30
  good_where_unresolved {C = C} _ m h2 = search (done, looks, knows) depth 30

  pub good_smash : {C : Fact N} → {many : ℕ} → (x1 : N) → Gets S C (IsName x1) → (x2 : Value N) → Gets S C (IsValue x2) → Good S tree Bad Rests C many (calls.smash K tree x1 x2) IsValue Nothing
  unfolding calls.smash
  good_smash {C = C} p n0 (Text t) g1 = search (done, looks, knows, good_where_unresolved) depth 30
  good_smash {C = C} p n0 _ g1 = search (done, looks, knows) depth 30

  pub good_resolver_answer : {C : Fact N} → {many : ℕ} → (x1 : N) → Gets S C (IsName x1) → (x2 : ResolverAsk N) → Gets S C (IsResolverAsk x2) → Good S tree Bad Rests C many (calls.resolver_answer K tree x1 x2) IsValue Nothing
  unfolding calls.resolver_answer
  good_resolver_answer {C = C} p n0 (Resolves x) g1 = let d_g1 : Gets S C (IsValue x) = record { at = λ s h. (g1.at s h) } in search (done, looks, knows, good_where_unresolved) depth 30
  good_resolver_answer {C = C} p n0 (Smashes x) g1 = let d_g1 : Gets S C (IsValue x) = record { at = λ s h. (g1.at s h) } in search (done, looks, knows, good_smash) depth 30
  good_resolver_answer {C = C} p n0 NoResolverAsk g1 = search (done, looks, knows) depth 30

  pub good_audition_live : {C : Fact N} → {many : ℕ} → (x1 : Caller N) → GoodCaller S tree Bad Rests x1 → (x2 : ℕ) → (x3 : View N) → IsSeen tree x3 → Gets S C (IsView x3) → (x4 : AuditionAsk N) → Gets S C (IsAuditionAsk x4) → Good S tree Bad Rests C many (calls.audition_live K tree x1 x2 x3 x4) IsValue Nothing
  unfolding calls.audition_live
  good_audition_live {C = C} {many = many} again h1 act view seen g1 GetsForm g2 = good_leaf S tree Bad Rests (fine_build K S works.serves tree {C = C} act (items_of tree view.node) [] (got_no_lists S C)) (lead_form K tree (Off S tree Bad Rests) (out_of_fuel S tree Bad Rests) many act view.node seen.0 seen.1) (quiet_build act (items_of tree view.node) [])
  good_audition_live {C = C} again h1 act view seen g1 (GetsGuard x) g2 = let d_g2 : Gets S C (IsValue x) = record { at = λ s h. (g2.at s h) } in search (done, looks, knows, good_reply) depth 30
  good_audition_live {C = C} again h1 act view seen g1 (Asks a) g2 = let d_g2 : Gets S C (IsValue a) = record { at = λ s h. (g2.at s h) } in search (done, looks, knows, good_verdict) depth 30
  good_audition_live {C = C} again h1 act view seen g1 NoAuditionAsk g2 = search (done, looks, knows) depth 30

  pub good_audition_answer : {C : Fact N} → {many : ℕ} → (x1 : Caller N) → GoodCaller S tree Bad Rests x1 → (x2 : ℕ) → (x3 : Bool) → (x4 : View N) → IsSeen tree x4 → Gets S C (IsView x4) → (x5 : AuditionAsk N) → Gets S C (IsAuditionAsk x5) → Good S tree Bad Rests C many (calls.audition_answer K tree x1 x2 x3 x4 x5) IsValue Nothing
  unfolding calls.audition_answer
  good_audition_answer {C = C} again h1 act live view seen g1 NoAuditionAsk g2 = good_throw S tree Bad Rests _
  good_audition_answer {C = C} again h1 act true view seen g1 ask g2 = good_audition_live again h1 act view seen g1 ask g2
  good_audition_answer {C = C} again h1 act false view seen g1 ask g2 = good_throw S tree Bad Rests _

  pub good_new_ejector : {C : Fact N} → {many : ℕ} → (x1 : ℕ) → Good S tree Bad Rests C many (calls.new_ejector K tree x1) (λ i. IsName (K.object i)) Nothing
  unfolding calls.new_ejector
  good_new_ejector {C = C} act = on_object (new_named (Ejector true) (got_ejector S C true) (λ k l. tt)) (λ j. go_unit S tree Bad Rests (good_told S tree Bad Rests _ (told_ejector_made S act (K.object j))) (good_give S tree Bad Rests j (got S C (IsName (K.object j)))))

  pub good_hand_over : {C : Fact N} → {many : ℕ} → (x1 : ℕ) → (x2 : ℕ) → (x3 : Act N (Value N)) → Good S tree Bad Rests C many x3 IsValue Nothing → (x4 : ℕ) → (x5 : Value N) → Gets S C (IsValue x5) → Good S tree Bad Rests C many (calls.hand_over K tree x1 x2 x3 x4 x5) IsValue Nothing
  unfolding calls.hand_over
  good_hand_over {C = C} act j next h3 n v g1 = search (done, looks, knows) depth 30
