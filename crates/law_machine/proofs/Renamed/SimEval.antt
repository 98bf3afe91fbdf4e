-- Two namings: all of evaluation.
use Rattle.std.proofs.Common.{◌≡◌, ℕ, zero, suc, Bool, true, false, List, [], ◌∷◌, Option, Some, None, refl, length, map, ◌==◌, ◌+◌, if◌then◌else◌}
use Rattle.std.specs.Prelude.{slice_get, option_map}
use Rattle.def_machine.specs.Values.{Words, Value, Flag, Text, Prim, Broken, Items, Ref, Naming, Spot, Own}
use Rattle.def_machine.specs.State.{Bound, Fixed, Slot, Binding, Scope, Cell, View, FreeName, Thing, Made, Ejector, Message, Standing, Unsettled, Vat, Act, give, throw, eject, ObjectMade}
use Rattle.def_machine.specs.Form.{Item, Begin, End, Word, Fact}
use Rattle.def_machine.specs.Free.{BoundNoun}
use Rattle.def_machine.specs.Native as native
use Rattle.def_machine.specs.Native.{list_at, Reply, Asked}
use Rattle.def_machine.specs.Refs as refs
use Rattle.def_machine.specs.Refs.{Place, Near}
use Rattle.def_machine.specs.Scopes as scopes
use Rattle.def_machine.specs.Perform as perform
use Rattle.def_machine.specs.Calls as calls
use Rattle.def_machine.specs.Eval as eval
use Rattle.def_machine.specs.Form as form
use Rattle.def_machine.specs.Scopes.{Answer, Evaluator, Caller, Body, Case, AuditionAsk, GetsForm, NoAuditionAsk, ResolverAsk, Resolves}
use Rattle.def_kernel.specs.declared.node.Node.{Node}
use Rattle.def_kernel.specs.declared.node.Node.TheVariants.{Lit, Any}
use Rattle.def_machine.specs.Maps as maps
use Rattle.law_machine.specs.Renamed.EvalMaps as evals
use Rattle.law_machine.proofs.Machine.Keeps.{Keeps, IsKept, IsKeptUnder}
use Rattle.law_machine.proofs.Machine.EvalKeeps as grown
use Rattle.law_machine.proofs.Machine.EvalKeeps.{GoodCaller, GoodEvaluator}
use Rattle.law_machine.proofs.Renamed.Kept.{keeps_things}
use Rattle.law_machine.proofs.Renamed.Sim.{Books, Renames, Sim, Grows, id, sims, sim_spend, bind_value, bind_then, length_map}
use Rattle.law_machine.proofs.Renamed.NativeMaps.{asked_map}
use Rattle.law_machine.proofs.Renamed.EvalPure.{literal_map, bound_map, with_noun_map, captures_map, named_map, approves_map, audition_ask_map, resolver_ask_map, ejector_ask_map}
use Rattle.law_machine.proofs.Renamed.SimPerform as first
use Rattle.law_machine.proofs.Renamed.SimPerform.{sim_ending, bind_bound, SameCaller, SameEvaluator, evsims}

module _ {N M W V : Type 0} (f : N → M) (w : W → V) (K : Naming N W) (L : Naming M V) (Fits : Books M → Type 0) (law : Renames f w K L Fits) (tree : List Node) where
  -- ---- what stands of guards, data and primitives

  base : IsKept (Grows Fits)
  base = first.base f w K L Fits law tree

  under : IsKeptUnder L (Grows Fits)
  under = first.under f w K L Fits law tree

  follows : (x : Value N) (x' : Value M) → x' ≡ maps.value f x → (s : Vat N) → refs.follow L (maps.vat f s) x' ≡ maps.value f (refs.follow K s x)
  follows = first.follows f w K L Fits law tree

  true_follow : (j : Value N) (s : Vat N) → scopes.is_true (refs.follow L (maps.vat f s) (maps.value f j)) ≡ scopes.is_true (refs.follow K s j)
  true_follow = first.true_follow f w K L Fits law tree

  ref_place : (n : N) (s : Vat N) → refs.place L (maps.vat f s) (Ref (f n)) ≡ maps.place f (refs.place K s (Ref n))
  ref_place = first.ref_place f w K L Fits law tree

  if_at : {C D : Type 0} {l : C → D} (b b' : Bool) {m k : Act N C} {n k' : Act M D} → b' ≡ b → Sim f Fits l m n → Sim f Fits l k k' → Sim f Fits l (if b then m else k) (if b' then n else k')
  if_at = first.if_at f w K L Fits law tree

  eq_same : (xs : List (Value N)) (n : ℕ) → (length (map (maps.value f) xs) == n) ≡ (length xs == n)
  eq_same = first.eq_same f w K L Fits law tree

  object_refs : (i : ℕ) → Ref (L.object i) ≡ Ref (f (K.object i))
  object_refs = first.object_refs f w K L Fits law tree

  made_line : (act : ℕ) (me : N) (x : Words) (bs : List (Binding N)) (stamps : List (Value N)) → ObjectMade act (f me) x (map (λ b. b.bound) (map (maps.binding f) bs)) (map (maps.value f) stamps) ≡ maps.line f (ObjectMade act me x (map (λ b. b.bound) bs) stamps)
  made_line = first.made_line f w K L Fits law tree

  view_same : (node : ℕ) (p : Option Node) (free : List Words) (here : Scope N) → calls.view_of L tree node p free (maps.scope f here) ≡ maps.view f (calls.view_of K tree node p free here)
  view_same = first.view_same f w K L Fits law tree

  fixed_noun : (x : Words) (v g : Value N) (here : Scope N) → scopes.with_noun x (Fixed (maps.value f v) (maps.value f g)) (maps.scope f here) ≡ maps.scope f (scopes.with_noun x (Fixed v g) here)
  fixed_noun = first.fixed_noun f w K L Fits law tree

  slot_noun : (x : Words) (k : ℕ) (here : Scope N) → scopes.with_noun x (Slot k) (maps.scope f here) ≡ maps.scope f (scopes.with_noun x (Slot k) here)
  slot_noun = first.slot_noun f w K L Fits law tree

  items_map : (v : Value N) (fs : List (List (Value N))) → calls.with_item L tree (maps.value f v) (map (map (maps.value f)) fs) ≡ map (map (maps.value f)) (calls.with_item K tree v fs)
  items_map = first.items_map f w K L Fits law tree

  stamped_all : (b : Bool) (y : Value N) (ys : List (Value N)) → calls.with_stamp L tree b (maps.value f y) (map (maps.value f) ys) ≡ map (maps.value f) (calls.with_stamp K tree b y ys)
  stamped_all = first.stamped_all f w K L Fits law tree

  standings : (p : N) (s : Vat N) → refs.standing_of L (map (maps.known f) s.known) (f p) ≡ maps.standing f (refs.standing_of K s.known p)
  standings = first.standings f w K L Fits law tree

  guards_asked : (xs : List (FreeName N)) (x : Value N) (s : Vat N) → scopes.guard_asked (map (maps.free_name f) xs) (refs.follow L (maps.vat f s) (maps.value f x)) ≡ evals.reply f (scopes.guard_asked xs (refs.follow K s x))
  guards_asked = first.guards_asked f w K L Fits law tree

  lists_here : (k : ℕ) (s : Vat N) → list_at (map (map (maps.value f)) s.lists) k ≡ map (maps.value f) (list_at s.lists k)
  lists_here = first.lists_here f w K L Fits law tree

  cells_here : (k : ℕ) (s : Vat N) → slice_get (map (maps.cell f) s.slots) k ≡ option_map (maps.cell f) (slice_get s.slots k)
  cells_here = first.cells_here f w K L Fits law tree

  things_here : (k : ℕ) (s : Vat N) → slice_get (map (maps.thing f) s.things) k ≡ option_map (maps.thing f) (slice_get s.things k)
  things_here = first.things_here f w K L Fits law tree

  count_things : (s : Vat N) → length (map (maps.thing f) s.things) ≡ length s.things
  count_things = first.count_things f w K L Fits law tree

  count_lists : (s : Vat N) → 4 + length (map (map (maps.value f)) s.lists) ≡ 4 + length s.lists
  count_lists = first.count_lists f w K L Fits law tree

  objects : (i : ℕ) → L.object i ≡ f (K.object i)
  objects = first.objects f w K L Fits law tree

  sim_resolve : (p : N) (x : Value N) (p' : M) (x' : Value M) → p' ≡ f p → x' ≡ maps.value f x → Sim f Fits id (refs.resolve K p x) (refs.resolve L p' x')
  sim_resolve = first.sim_resolve f w K L Fits law tree

  sim_settle : (p : N) (y : Value N) (p' : M) (y' : Value M) → p' ≡ f p → y' ≡ maps.value f y → Sim f Fits id (refs.settle K p y) (refs.settle L p' y')
  sim_settle = first.sim_settle f w K L Fits law tree

  sim_answered : (x1 : Scope N) (x1' : Scope M) → x1' ≡ maps.scope f x1 → (x2 : Value N) (x2' : Value M) → x2' ≡ maps.value f x2 → Sim f Fits (evals.answer f) (scopes.answered x1 x2) (scopes.answered x1' x2')
  sim_answered = first.sim_answered f w K L Fits law tree

  sim_read_bound : (x1 : ℕ) → (x2 : Option (Bound N)) (x2' : Option (Bound M)) → x2' ≡ option_map (maps.bound f) x2 → (x3 : Words) → Sim f Fits (maps.value f) (scopes.read_bound x1 x2 x3) (scopes.read_bound x1 x2' x3)
  sim_read_bound = first.sim_read_bound f w K L Fits law tree

  sim_ended : (x1 : ℕ) → (x2 : Act N (Value N)) (x2' : Act M (Value M)) → Sim f Fits (maps.value f) x2 x2' → Keeps (Grows Fits) x2' → Sim f Fits (maps.value f) (scopes.ended x1 x2) (scopes.ended x1 x2')
  sim_ended = first.sim_ended f w K L Fits law tree

  sim_with_lines : (x1 : ℕ) → (x2 : Value N) (x2' : Value M) → x2' ≡ maps.value f x2 → (x3 : Words) → (x4 : List (Value N)) (x4' : List (Value M)) → x4' ≡ map (maps.value f) x4 → (x5 : Act N (Value N)) (x5' : Act M (Value M)) → Sim f Fits (maps.value f) x5 x5' → Keeps (Grows Fits) x5' → Sim f Fits (maps.value f) (scopes.with_lines x1 x2 x3 x4 x5) (scopes.with_lines x1 x2' x3 x4' x5')
  sim_with_lines = first.sim_with_lines f w K L Fits law tree

  sim_failed : {A B : Type 0} (l : A → B) → (x1 : Caller N) (x1' : Caller M) → SameCaller f Fits x1 x1' → GoodCaller (Grows Fits) x1' → (x2 : ℕ) → (x3 : Value N) (x3' : Value M) → x3' ≡ maps.value f x3 → (x4 : Words) → Sim f Fits (l) (perform.failed K tree {A = A} x1 x2 x3 x4) (perform.failed L tree {A = B} x1' x2 x3' x4)
  sim_failed = first.sim_failed f w K L Fits law tree

  sim_handed : (x1 : Value N) (x1' : Value M) → x1' ≡ maps.value f x1 → Sim f Fits (maps.value f) (perform.handed K tree x1) (perform.handed L tree x1')
  sim_handed = first.sim_handed f w K L Fits law tree

  sim_coerce : (x1 : Caller N) (x1' : Caller M) → SameCaller f Fits x1 x1' → GoodCaller (Grows Fits) x1' → (x2 : ℕ) → (x3 : Value N) (x3' : Value M) → x3' ≡ maps.value f x3 → (x4 : Value N) (x4' : Value M) → x4' ≡ maps.value f x4 → (x5 : Value N) (x5' : Value M) → x5' ≡ maps.value f x5 → Sim f Fits (maps.value f) (perform.coerce K tree x1 x2 x3 x4 x5) (perform.coerce L tree x1' x2 x3' x4' x5')
  sim_coerce = first.sim_coerce f w K L Fits law tree

  at_make_list : (x1 : ℕ) → (x2 : List (Value N)) → Sim f Fits (maps.value f) (perform.make_list K tree x1 x2) (perform.make_list L tree x1 (map (maps.value f) x2))
  at_make_list = first.at_make_list f w K L Fits law tree

  sim_make_list : (x1 : ℕ) → (x2 : List (Value N)) (x2' : List (Value M)) → x2' ≡ map (maps.value f) x2 → Sim f Fits (maps.value f) (perform.make_list K tree x1 x2) (perform.make_list L tree x1 x2')
  sim_make_list = first.sim_make_list f w K L Fits law tree

  sim_reply : (x1 : Caller N) (x1' : Caller M) → SameCaller f Fits x1 x1' → GoodCaller (Grows Fits) x1' → (x2 : ℕ) → (x3 : Reply N) (x3' : Reply M) → x3' ≡ evals.reply f x3 → Sim f Fits (maps.value f) (perform.reply K tree x1 x2 x3) (perform.reply L tree x1' x2 x3')
  sim_reply = first.sim_reply f w K L Fits law tree

  sim_data_answer : (x1 : Caller N) (x1' : Caller M) → SameCaller f Fits x1 x1' → GoodCaller (Grows Fits) x1' → (x2 : ℕ) → (x3 : Value N) (x3' : Value M) → x3' ≡ maps.value f x3 → (x4 : Words) → (x5 : List (Value N)) (x5' : List (Value M)) → x5' ≡ map (maps.value f) x5 → Sim f Fits (maps.value f) (perform.data_answer K tree x1 x2 x3 x4 x5) (perform.data_answer L tree x1' x2 x3' x4 x5')
  sim_data_answer = first.sim_data_answer f w K L Fits law tree

  at_perform : (x1 : Caller N) (x1' : Caller M) → SameCaller f Fits x1 x1' → GoodCaller (Grows Fits) x1' → (x2 : ℕ) → (x3 : Asked N) → Sim f Fits (maps.value f) (perform.perform K tree x1 x2 x3) (perform.perform L tree x1' x2 (evals.asked f x3))
  at_perform = first.at_perform f w K L Fits law tree

  -- ---- auditing

  at_leave : {A B : Type 0} (l : A → B) → (x1 : ℕ) → (x2 : Act N A) (x2' : Act M B) → Sim f Fits (l) x2 x2' → Keeps (Grows Fits) x2' → Sim f Fits (l) (calls.leave K tree {A = A} x1 x2) (calls.leave L tree {A = B} x1 x2')
  unfolding calls.leave
  at_leave l j m x2' h2 g2 = search (sims, evsims, keeps_things, base, under, law) depth 16

  sim_leave : {A B : Type 0} (l : A → B) → (x1 : ℕ) → (x2 : Act N A) (x2' : Act M B) → Sim f Fits (l) x2 x2' → Keeps (Grows Fits) x2' → Sim f Fits (l) (calls.leave K tree {A = A} x1 x2) (calls.leave L tree {A = B} x1 x2')
  sim_leave l x1 x2 x2' h2 g2 = at_leave l x1 x2 x2' h2 g2

  at_leaving : {A B : Type 0} (l : A → B) → (x1 : ℕ) → (x2 : Act N A) (x2' : Act M B) → Sim f Fits (l) x2 x2' → Keeps (Grows Fits) x2' → Sim f Fits (l) (calls.leaving K tree {A = A} x1 x2) (calls.leaving L tree {A = B} x1 x2')
  unfolding calls.leaving
  at_leaving l n m x2' h2 g2 = sim_ending f Fits l h2 (λ v. at_leave l n (give v) (give (l v)) (search sims) (search (keeps_things, base))) (λ p. at_leave l n (throw p) (throw p) (search sims) (search (keeps_things, base))) (λ k v. at_leave l n (eject k v) (eject k (maps.value f v)) (search sims) (search (keeps_things, base))) (λ b. search (keeps_things, base, under)) (λ p. search (keeps_things, base, under)) (λ k v. search (keeps_things, base, under))

  sim_leaving : {A B : Type 0} (l : A → B) → (x1 : ℕ) → (x2 : Act N A) (x2' : Act M B) → Sim f Fits (l) x2 x2' → Keeps (Grows Fits) x2' → Sim f Fits (l) (calls.leaving K tree {A = A} x1 x2) (calls.leaving L tree {A = B} x1 x2')
  sim_leaving l x1 x2 x2' h2 g2 = at_leaving l x1 x2 x2' h2 g2

  at_audit : (x1 : Caller N) (x1' : Caller M) → SameCaller f Fits x1 x1' → GoodCaller (Grows Fits) x1' → (x2 : ℕ) → (x3 : View N) → (x4 : Value N) → (x5 : Place N) → Sim f Fits (id) (calls.audit K tree x1 x2 x3 x4 x5) (calls.audit L tree x1' x2 (maps.view f x3) (maps.value f x4) (maps.place f x5))
  unfolding calls.audit
  at_audit again x1' h1 g1 act view a Near = search (sims, evsims, sim_leaving, true_follow, follows, objects, object_refs, keeps_things, base, under, law) depth 16
  at_audit again x1' h1 g1 act view a _ = search (sims, evsims, keeps_things, base, under, law) depth 16

  sim_audit : (x1 : Caller N) (x1' : Caller M) → SameCaller f Fits x1 x1' → GoodCaller (Grows Fits) x1' → (x2 : ℕ) → (x3 : View N) (x3' : View M) → x3' ≡ maps.view f x3 → (x4 : Value N) (x4' : Value M) → x4' ≡ maps.value f x4 → (x5 : Place N) (x5' : Place M) → x5' ≡ maps.place f x5 → Sim f Fits (id) (calls.audit K tree x1 x2 x3 x4 x5) (calls.audit L tree x1' x2 x3' x4' x5')
  sim_audit x1 x1' h1 g1 x2 x3 x3' e3 x4 x4' e4 x5 x5' e5 = rw (e3, e4, e5) (at_audit x1 x1' h1 g1 x2 x3 x4 x5)

  at_verdict : (x1 : Caller N) (x1' : Caller M) → SameCaller f Fits x1 x1' → GoodCaller (Grows Fits) x1' → (x2 : ℕ) → (x3 : View N) → (x4 : Value N) → (x5 : Value N) → Sim f Fits (id) (calls.verdict K tree x1 x2 x3 x4 x5) (calls.verdict L tree x1' x2 (maps.view f x3) (maps.value f x4) (maps.value f x5))
  unfolding calls.verdict
  at_verdict again x1' h1 g1 act view a (Prim n) = search (sims, evsims, approves_map, keeps_things, base, under, law, sim_audit, ref_place) depth 16
  at_verdict again x1' h1 g1 act view a other = search (sims, evsims, approves_map, keeps_things, base, under, law, sim_audit, ref_place) depth 16

  sim_verdict : (x1 : Caller N) (x1' : Caller M) → SameCaller f Fits x1 x1' → GoodCaller (Grows Fits) x1' → (x2 : ℕ) → (x3 : View N) (x3' : View M) → x3' ≡ maps.view f x3 → (x4 : Value N) (x4' : Value M) → x4' ≡ maps.value f x4 → (x5 : Value N) (x5' : Value M) → x5' ≡ maps.value f x5 → Sim f Fits (id) (calls.verdict K tree x1 x2 x3 x4 x5) (calls.verdict L tree x1' x2 x3' x4' x5')
  sim_verdict x1 x1' h1 g1 x2 x3 x3' e3 x4 x4' e4 x5 x5' e5 = rw (e3, e4, e5) (at_verdict x1 x1' h1 g1 x2 x3 x4 x5)

  at_ask_all : (x1 : Caller N) (x1' : Caller M) → SameCaller f Fits x1 x1' → GoodCaller (Grows Fits) x1' → (x2 : ℕ) → (x3 : View N) → (x4 : List (Value N)) → Sim f Fits (map (maps.value f)) (calls.ask_all K tree x1 x2 x3 x4) (calls.ask_all L tree x1' x2 (maps.view f x3) (map (maps.value f) x4))
  unfolding calls.ask_all
  at_ask_all again x1' h1 g1 act view [] = search sims
  at_ask_all again x1' h1 g1 act view (a ∷ as') = let rest = at_ask_all again x1' h1 g1 act view as' in let grow = grown.keeps_ask_all L (Grows Fits) base under tree x1' g1 act (maps.view f view) (map (maps.value f) as') in search (sims, evsims, follows, sim_verdict, stamped_all, keeps_things, base, under) depth 16

  sim_ask_all : (x1 : Caller N) (x1' : Caller M) → SameCaller f Fits x1 x1' → GoodCaller (Grows Fits) x1' → (x2 : ℕ) → (x3 : View N) (x3' : View M) → x3' ≡ maps.view f x3 → (x4 : List (Value N)) (x4' : List (Value M)) → x4' ≡ map (maps.value f) x4 → Sim f Fits (map (maps.value f)) (calls.ask_all K tree x1 x2 x3 x4) (calls.ask_all L tree x1' x2 x3' x4')
  sim_ask_all x1 x1' h1 g1 x2 x3 x3' e3 x4 x4' e4 = rw (e3, e4) (at_ask_all x1 x1' h1 g1 x2 x3 x4)

  at_build : (x1 : ℕ) → (x2 : List Item) → (x3 : List (List (Value N))) → Sim f Fits (maps.value f) (calls.build K tree x1 x2 x3) (calls.build L tree x1 x2 (map (map (maps.value f)) x3))
  unfolding calls.build
  at_build act (Begin ∷ is) fs = at_build act is ([] ∷ fs)
  at_build act (Word x ∷ is) fs = rw (items_map (Text x) fs) (at_build act is (calls.with_item K tree (Text x) fs))
  at_build act (Fact l ∷ is) fs = rw (literal_map f l, items_map (form.literal_value l) fs) (at_build act is (calls.with_item K tree (form.literal_value l) fs))
  at_build act (End ∷ []) (g ∷ fs) = at_make_list act g
  at_build act (End ∷ i ∷ is) (g ∷ fs) = bind_value f Fits _ _ (at_make_list act g) (λ v. rw (items_map v fs) (at_build act (i ∷ is) (calls.with_item K tree v fs))) (λ v. grown.keeps_build L (Grows Fits) base under tree act (i ∷ is) _)
  at_build act [] fs = search sims
  at_build act (End ∷ []) [] = search sims
  at_build act (End ∷ i ∷ is) [] = search sims

  sim_build : (x1 : ℕ) → (x2 : List Item) → (x3 : List (List (Value N))) (x3' : List (List (Value M))) → x3' ≡ map (map (maps.value f)) x3 → Sim f Fits (maps.value f) (calls.build K tree x1 x2 x3) (calls.build L tree x1 x2 x3')
  sim_build x1 x2 x3 x3' e3 = rw (e3) (at_build x1 x2 x3)

  at_audition_live : (x1 : Caller N) (x1' : Caller M) → SameCaller f Fits x1 x1' → GoodCaller (Grows Fits) x1' → (x2 : ℕ) → (x3 : View N) → (x4 : AuditionAsk N) → Sim f Fits (maps.value f) (calls.audition_live K tree x1 x2 x3 x4) (calls.audition_live L tree x1' x2 (maps.view f x3) (evals.audition_ask f x4))
  unfolding calls.audition_live
  at_audition_live again x1' h1 g1 act view GetsForm = search (sims, evsims, sim_build, keeps_things, base, under, law, sim_reply, follows, guards_asked, sim_verdict) depth 16
  at_audition_live again x1' h1 g1 act view other = search (sims, evsims, sim_build, keeps_things, base, under, law, sim_reply, follows, guards_asked, sim_verdict) depth 16

  sim_audition_live : (x1 : Caller N) (x1' : Caller M) → SameCaller f Fits x1 x1' → GoodCaller (Grows Fits) x1' → (x2 : ℕ) → (x3 : View N) (x3' : View M) → x3' ≡ maps.view f x3 → (x4 : AuditionAsk N) (x4' : AuditionAsk M) → x4' ≡ evals.audition_ask f x4 → Sim f Fits (maps.value f) (calls.audition_live K tree x1 x2 x3 x4) (calls.audition_live L tree x1' x2 x3' x4')
  sim_audition_live x1 x1' h1 g1 x2 x3 x3' e3 x4 x4' e4 = rw (e3, e4) (at_audition_live x1 x1' h1 g1 x2 x3 x4)

  at_audition_answer : (x1 : Caller N) (x1' : Caller M) → SameCaller f Fits x1 x1' → GoodCaller (Grows Fits) x1' → (x2 : ℕ) → (x3 : Bool) → (x4 : View N) → (x5 : AuditionAsk N) → Sim f Fits (maps.value f) (calls.audition_answer K tree x1 x2 x3 x4 x5) (calls.audition_answer L tree x1' x2 x3 (maps.view f x4) (evals.audition_ask f x5))
  unfolding calls.audition_answer
  at_audition_answer again x1' h1 g1 act live view NoAuditionAsk = search (sims, evsims, keeps_things, base, under, law) depth 16
  at_audition_answer again x1' h1 g1 act true view ask = search (sims, evsims, sim_audition_live, keeps_things, base, under, law) depth 16
  at_audition_answer again x1' h1 g1 act false view ask = search (sims, evsims, keeps_things, base, under, law) depth 16

  sim_audition_answer : (x1 : Caller N) (x1' : Caller M) → SameCaller f Fits x1 x1' → GoodCaller (Grows Fits) x1' → (x2 : ℕ) → (x3 : Bool) → (x4 : View N) (x4' : View M) → x4' ≡ maps.view f x4 → (x5 : AuditionAsk N) (x5' : AuditionAsk M) → x5' ≡ evals.audition_ask f x5 → Sim f Fits (maps.value f) (calls.audition_answer K tree x1 x2 x3 x4 x5) (calls.audition_answer L tree x1' x2 x3 x4' x5')
  sim_audition_answer x1 x1' h1 g1 x2 x3 x4 x4' e4 x5 x5' e5 = rw (e4, e5) (at_audition_answer x1 x1' h1 g1 x2 x3 x4 x5)

  at_ejector_answer : (x1 : ℕ) → (x2 : Bool) → (x3 : Option (Value N)) → Sim f Fits (maps.value f) (calls.ejector_answer K tree x1 x2 x3) (calls.ejector_answer L tree x1 x2 (option_map (maps.value f) x3))
  unfolding calls.ejector_answer
  at_ejector_answer i live None = search (sims, evsims, keeps_things, base, under, law) depth 16
  at_ejector_answer i true (Some v) = search (sims, evsims, keeps_things, base, under, law) depth 16
  at_ejector_answer i false (Some v) = search (sims, evsims, keeps_things, base, under, law) depth 16

  sim_ejector_answer : (x1 : ℕ) → (x2 : Bool) → (x3 : Option (Value N)) (x3' : Option (Value M)) → x3' ≡ option_map (maps.value f) x3 → Sim f Fits (maps.value f) (calls.ejector_answer K tree x1 x2 x3) (calls.ejector_answer L tree x1 x2 x3')
  sim_ejector_answer x1 x2 x3 x3' e3 = rw (e3) (at_ejector_answer x1 x2 x3)

  at_where_unresolved : (x1 : Standing N) → (x2 : Act N (Unit {0})) (x2' : Act M (Unit {0})) → Sim f Fits (id) x2 x2' → Keeps (Grows Fits) x2' → Sim f Fits (maps.value f) (calls.where_unresolved K tree x1 x2) (calls.where_unresolved L tree (maps.standing f x1) x2')
  unfolding calls.where_unresolved
  at_where_unresolved Unsettled m x2' h2 g2 = search (sims, evsims, keeps_things, base, under, law) depth 16
  at_where_unresolved _ m x2' h2 g2 = search (sims, evsims, keeps_things, base, under, law) depth 16

  sim_where_unresolved : (x1 : Standing N) (x1' : Standing M) → x1' ≡ maps.standing f x1 → (x2 : Act N (Unit {0})) (x2' : Act M (Unit {0})) → Sim f Fits (id) x2 x2' → Keeps (Grows Fits) x2' → Sim f Fits (maps.value f) (calls.where_unresolved K tree x1 x2) (calls.where_unresolved L tree x1' x2')
  sim_where_unresolved x1 x1' e1 x2 x2' h2 g2 = rw (e1) (at_where_unresolved x1 x2 x2' h2 g2)

  at_smash : (x1 : N) → (x2 : Value N) → Sim f Fits (maps.value f) (calls.smash K tree x1 x2) (calls.smash L tree (f x1) (maps.value f x2))
  unfolding calls.smash
  at_smash p (Text t) = search (sims, evsims, sim_where_unresolved, sim_settle, standings, keeps_things, base, under, law) depth 16
  at_smash p _ = search (sims, evsims, keeps_things, base, under, law) depth 16

  sim_smash : (x1 : N) (x1' : M) → x1' ≡ f x1 → (x2 : Value N) (x2' : Value M) → x2' ≡ maps.value f x2 → Sim f Fits (maps.value f) (calls.smash K tree x1 x2) (calls.smash L tree x1' x2')
  sim_smash x1 x1' e1 x2 x2' e2 = rw (e1, e2) (at_smash x1 x2)

  at_resolver_answer : (x1 : N) → (x2 : ResolverAsk N) → Sim f Fits (maps.value f) (calls.resolver_answer K tree x1 x2) (calls.resolver_answer L tree (f x1) (evals.resolver_ask f x2))
  unfolding calls.resolver_answer
  at_resolver_answer p (Resolves x) = search (sims, evsims, sim_where_unresolved, sim_resolve, standings, keeps_things, base, under, law, sim_smash, follows) depth 16
  at_resolver_answer p other = search (sims, evsims, sim_where_unresolved, sim_resolve, standings, keeps_things, base, under, law, sim_smash, follows) depth 16

  sim_resolver_answer : (x1 : N) (x1' : M) → x1' ≡ f x1 → (x2 : ResolverAsk N) (x2' : ResolverAsk M) → x2' ≡ evals.resolver_ask f x2 → Sim f Fits (maps.value f) (calls.resolver_answer K tree x1 x2) (calls.resolver_answer L tree x1' x2')
  sim_resolver_answer x1 x1' e1 x2 x2' e2 = rw (e1, e2) (at_resolver_answer x1 x2)

  at_bind_all : (x1 : Evaluator N) (x1' : Evaluator M) → SameEvaluator f Fits x1 x1' → GoodEvaluator (Grows Fits) x1' → (x2 : List ℕ) → (x3 : List (Value N)) → (x4 : Value N) → (x5 : Scope N) → Sim f Fits (maps.scope f) (calls.bind_all K tree x1 x2 x3 x4 x5) (calls.bind_all L tree x1' x2 (map (maps.value f) x3) (maps.value f x4) (maps.scope f x5))
  unfolding calls.bind_all
  at_bind_all rec rec' good grow [] vs j here = search sims
  at_bind_all rec rec' good grow (p ∷ ps) [] j here = search sims
  at_bind_all rec rec' good grow (p ∷ ps) (v ∷ vs) j here = let rest = at_bind_all rec rec' good grow ps vs j in let more = grown.keeps_bind_all L (Grows Fits) base under tree rec' grow ps (map (maps.value f) vs) (maps.value f j) in search (sims, evsims, good.pattern, grow.pattern, keeps_things, base, under) depth 14

  sim_bind_all : (x1 : Evaluator N) (x1' : Evaluator M) → SameEvaluator f Fits x1 x1' → GoodEvaluator (Grows Fits) x1' → (x2 : List ℕ) → (x3 : List (Value N)) (x3' : List (Value M)) → x3' ≡ map (maps.value f) x3 → (x4 : Value N) (x4' : Value M) → x4' ≡ maps.value f x4 → (x5 : Scope N) (x5' : Scope M) → x5' ≡ maps.scope f x5 → Sim f Fits (maps.scope f) (calls.bind_all K tree x1 x2 x3 x4 x5) (calls.bind_all L tree x1' x2 x3' x4' x5')
  sim_bind_all x1 x1' h1 g1 x2 x3 x3' e3 x4 x4' e4 x5 x5' e5 = rw (e3, e4, e5) (at_bind_all x1 x1' h1 g1 x2 x3 x4 x5)

  at_new_ejector : (x1 : ℕ) → Sim f Fits (id) (calls.new_ejector K tree x1) (calls.new_ejector L tree x1)
  unfolding calls.new_ejector
  at_new_ejector act = search (sims, evsims, objects, keeps_things, base, under, law) depth 16

  sim_new_ejector : (x1 : ℕ) → Sim f Fits (id) (calls.new_ejector K tree x1) (calls.new_ejector L tree x1)
  sim_new_ejector x1 = at_new_ejector x1

  at_hand_over : (x1 : ℕ) → (x2 : ℕ) → (x3 : Act N (Value N)) (x3' : Act M (Value M)) → Sim f Fits (maps.value f) x3 x3' → Keeps (Grows Fits) x3' → (x4 : ℕ) → (x5 : Value N) → Sim f Fits (maps.value f) (calls.hand_over K tree x1 x2 x3 x4 x5) (calls.hand_over L tree x1 x2 x3' x4 (maps.value f x5))
  unfolding calls.hand_over
  at_hand_over act j next x3' h3 g3 n v = search (sims, evsims, keeps_things, base, under, law) depth 16

  sim_hand_over : (x1 : ℕ) → (x2 : ℕ) → (x3 : Act N (Value N)) (x3' : Act M (Value M)) → Sim f Fits (maps.value f) x3 x3' → Keeps (Grows Fits) x3' → (x4 : ℕ) → (x5 : Value N) (x5' : Value M) → x5' ≡ maps.value f x5 → Sim f Fits (maps.value f) (calls.hand_over K tree x1 x2 x3 x4 x5) (calls.hand_over L tree x1 x2 x3' x4 x5')
  sim_hand_over x1 x2 x3 x3' h3 g3 x4 x5 x5' e5 = rw (e5) (at_hand_over x1 x2 x3 x3' h3 g3 x4 x5)

  at_matched : (x1 : Evaluator N) (x1' : Evaluator M) → SameEvaluator f Fits x1 x1' → GoodEvaluator (Grows Fits) x1' → (x2 : ℕ) → (x3 : ℕ) → (x4 : ℕ) → (x5 : Act N (Value N)) (x5' : Act M (Value M)) → Sim f Fits (maps.value f) x5 x5' → Keeps (Grows Fits) x5' → (x6 : Act N (Scope N)) (x6' : Act M (Scope M)) → Sim f Fits (maps.scope f) x6 x6' → Keeps (Grows Fits) x6' → Sim f Fits (maps.value f) (calls.matched K tree x1 x2 x3 x4 x5 x6) (calls.matched L tree x1' x2 x3 x4 x5' x6')
  unfolding calls.matched
  at_matched rec rec' good grow act j body next x5' h5 g5 m x6' h6 g6 = search (sims, evsims, sim_leave, sim_hand_over, good.expression, grow.expression, keeps_things, base, under, law) depth 16

  sim_matched : (x1 : Evaluator N) (x1' : Evaluator M) → SameEvaluator f Fits x1 x1' → GoodEvaluator (Grows Fits) x1' → (x2 : ℕ) → (x3 : ℕ) → (x4 : ℕ) → (x5 : Act N (Value N)) (x5' : Act M (Value M)) → Sim f Fits (maps.value f) x5 x5' → Keeps (Grows Fits) x5' → (x6 : Act N (Scope N)) (x6' : Act M (Scope M)) → Sim f Fits (maps.scope f) x6 x6' → Keeps (Grows Fits) x6' → Sim f Fits (maps.value f) (calls.matched K tree x1 x2 x3 x4 x5 x6) (calls.matched L tree x1' x2 x3 x4 x5' x6')
  sim_matched x1 x1' h1 g1 x2 x3 x4 x5 x5' h5 g5 x6 x6' h6 g6 = at_matched x1 x1' h1 g1 x2 x3 x4 x5 x5' h5 g5 x6 x6' h6 g6

  at_match_all : (x1 : Evaluator N) (x1' : Evaluator M) → SameEvaluator f Fits x1 x1' → GoodEvaluator (Grows Fits) x1' → (x2 : List Case) → (x3 : Value N) → (x4 : Scope N) → Sim f Fits (maps.value f) (calls.match_all K tree x1 x2 x3 x4) (calls.match_all L tree x1' x2 (maps.value f x3) (maps.scope f x4))
  unfolding calls.match_all
  at_match_all rec rec' good grow [] v here = search sims
  at_match_all rec rec' good grow (m ∷ ms) v here = let rest = at_match_all rec rec' good grow ms v here in let more = grown.keeps_match_all L (Grows Fits) base under tree rec' grow ms (maps.value f v) (maps.scope f here) in search (sims, evsims, sim_new_ejector, sim_matched, objects, object_refs, good.pattern, grow.pattern, keeps_things, base, under, law) depth 16

  sim_match_all : (x1 : Evaluator N) (x1' : Evaluator M) → SameEvaluator f Fits x1 x1' → GoodEvaluator (Grows Fits) x1' → (x2 : List Case) → (x3 : Value N) (x3' : Value M) → x3' ≡ maps.value f x3 → (x4 : Scope N) (x4' : Scope M) → x4' ≡ maps.scope f x4 → Sim f Fits (maps.value f) (calls.match_all K tree x1 x2 x3 x4) (calls.match_all L tree x1' x2 x3' x4')
  sim_match_all x1 x1' h1 g1 x2 x3 x3' e3 x4 x4' e4 = rw (e3, e4) (at_match_all x1 x1' h1 g1 x2 x3 x4)

  at_try_matchers : (x1 : Evaluator N) (x1' : Evaluator M) → SameEvaluator f Fits x1 x1' → GoodEvaluator (Grows Fits) x1' → (x2 : List Case) → (x3 : Words) → (x4 : List (Value N)) → (x5 : Scope N) → Sim f Fits (maps.value f) (calls.try_matchers K tree x1 x2 x3 x4 x5) (calls.try_matchers L tree x1' x2 x3 (map (maps.value f) x4) (maps.scope f x5))
  unfolding calls.try_matchers
  at_try_matchers rec rec' good grow [] verb args here = search (sims, evsims, keeps_things, base, under, law) depth 16
  at_try_matchers rec rec' good grow (m ∷ ms) verb args here = search (sims, evsims, sim_make_list, sim_match_all, keeps_things, base, under, law) depth 16

  sim_try_matchers : (x1 : Evaluator N) (x1' : Evaluator M) → SameEvaluator f Fits x1 x1' → GoodEvaluator (Grows Fits) x1' → (x2 : List Case) → (x3 : Words) → (x4 : List (Value N)) (x4' : List (Value M)) → x4' ≡ map (maps.value f) x4 → (x5 : Scope N) (x5' : Scope M) → x5' ≡ maps.scope f x5 → Sim f Fits (maps.value f) (calls.try_matchers K tree x1 x2 x3 x4 x5) (calls.try_matchers L tree x1' x2 x3 x4' x5')
  sim_try_matchers x1 x1' h1 g1 x2 x3 x4 x4' e4 x5 x5' e5 = rw (e4, e5) (at_try_matchers x1 x1' h1 g1 x2 x3 x4 x5)

  at_run_body : (x1 : Evaluator N) (x1' : Evaluator M) → SameEvaluator f Fits x1 x1' → GoodEvaluator (Grows Fits) x1' → (x2 : List Case) → (x3 : Words) → (x4 : Option Body) → (x5 : List (Value N)) → (x6 : Scope N) → Sim f Fits (maps.value f) (calls.run_body K tree x1 x2 x3 x4 x5 x6) (calls.run_body L tree x1' x2 x3 x4 (map (maps.value f) x5) (maps.scope f x6))
  unfolding calls.run_body
  at_run_body rec rec' good grow ms verb (Some b) args here = search (sims, evsims, sim_bind_all, good.expression, grow.expression, keeps_things, base, under, law) depth 16
  at_run_body rec rec' good grow ms verb None args here = search (sims, evsims, sim_try_matchers, keeps_things, base, under, law) depth 16

  sim_run_body : (x1 : Evaluator N) (x1' : Evaluator M) → SameEvaluator f Fits x1 x1' → GoodEvaluator (Grows Fits) x1' → (x2 : List Case) → (x3 : Words) → (x4 : Option Body) → (x5 : List (Value N)) (x5' : List (Value M)) → x5' ≡ map (maps.value f) x5 → (x6 : Scope N) (x6' : Scope M) → x6' ≡ maps.scope f x6 → Sim f Fits (maps.value f) (calls.run_body K tree x1 x2 x3 x4 x5 x6) (calls.run_body L tree x1' x2 x3 x4 x5' x6')
  sim_run_body x1 x1' h1 g1 x2 x3 x4 x5 x5' e5 x6 x6' e6 = rw (e5, e6) (at_run_body x1 x1' h1 g1 x2 x3 x4 x5 x6)

  at_run_object : (x1 : Evaluator N) (x1' : Evaluator M) → SameEvaluator f Fits x1 x1' → GoodEvaluator (Grows Fits) x1' → (x2 : List ℕ) → (x3 : Words) → (x4 : List (Value N)) → (x5 : Scope N) → Sim f Fits (maps.value f) (calls.run_object K tree x1 x2 x3 x4 x5) (calls.run_object L tree x1' x2 x3 (map (maps.value f) x4) (maps.scope f x5))
  unfolding calls.run_object
  at_run_object rec rec' good grow members verb args here = rw (length_map (maps.value f) args) (at_run_body rec rec' good grow (scopes.matchers_of tree members) verb (scopes.method_of tree members verb (length args)) args here)

  sim_run_object : (x1 : Evaluator N) (x1' : Evaluator M) → SameEvaluator f Fits x1 x1' → GoodEvaluator (Grows Fits) x1' → (x2 : List ℕ) → (x3 : Words) → (x4 : List (Value N)) (x4' : List (Value M)) → x4' ≡ map (maps.value f) x4 → (x5 : Scope N) (x5' : Scope M) → x5' ≡ maps.scope f x5 → Sim f Fits (maps.value f) (calls.run_object K tree x1 x2 x3 x4 x5) (calls.run_object L tree x1' x2 x3 x4' x5')
  sim_run_object x1 x1' h1 g1 x2 x3 x4 x4' e4 x5 x5' e5 = rw (e4, e5) (at_run_object x1 x1' h1 g1 x2 x3 x4 x5)

  at_thing_answer : (x1 : Caller N) (x1' : Caller M) → SameCaller f Fits x1 x1' → GoodCaller (Grows Fits) x1' → (x2 : ℕ) → (x3 : ℕ) → (x4 : Thing N) → (x5 : Words) → (x6 : List (Value N)) → Sim f Fits (maps.value f) (calls.thing_answer K tree x1 x2 x3 x4 x5 x6) (calls.thing_answer L tree x1' x2 x3 (maps.thing f x4) x5 (map (maps.value f) x6))
  unfolding calls.thing_answer
  at_thing_answer again x1' h1 g1 act i (Ejector live) verb args = search (sims, evsims, sim_ejector_answer, ejector_ask_map, keeps_things, base, under, law, sim_audition_answer, audition_ask_map, sim_resolver_answer, resolver_ask_map) depth 16
  at_thing_answer again x1' h1 g1 act i other verb args = search (sims, evsims, sim_ejector_answer, ejector_ask_map, keeps_things, base, under, law, sim_audition_answer, audition_ask_map, sim_resolver_answer, resolver_ask_map) depth 16

  sim_thing_answer : (x1 : Caller N) (x1' : Caller M) → SameCaller f Fits x1 x1' → GoodCaller (Grows Fits) x1' → (x2 : ℕ) → (x3 : ℕ) → (x4 : Thing N) (x4' : Thing M) → x4' ≡ maps.thing f x4 → (x5 : Words) → (x6 : List (Value N)) (x6' : List (Value M)) → x6' ≡ map (maps.value f) x6 → Sim f Fits (maps.value f) (calls.thing_answer K tree x1 x2 x3 x4 x5 x6) (calls.thing_answer L tree x1' x2 x3 x4' x5 x6')
  sim_thing_answer x1 x1' h1 g1 x2 x3 x4 x4' e4 x5 x6 x6' e6 = rw (e4, e6) (at_thing_answer x1 x1' h1 g1 x2 x3 x4 x5 x6)

  at_call_thing : (x1 : Evaluator N) (x1' : Evaluator M) → SameEvaluator f Fits x1 x1' → GoodEvaluator (Grows Fits) x1' → (x2 : Caller N) (x2' : Caller M) → SameCaller f Fits x2 x2' → GoodCaller (Grows Fits) x2' → (x3 : ℕ) → (x4 : Value N) → (x5 : ℕ) → (x6 : Option (Thing N)) → (x7 : Words) → (x8 : List (Value N)) → Sim f Fits (maps.value f) (calls.call_thing K tree x1 x2 x3 x4 x5 x6 x7 x8) (calls.call_thing L tree x1' x2' x3 (maps.value f x4) x5 (option_map (maps.thing f) x6) x7 (map (maps.value f) x8))
  unfolding calls.call_thing
  at_call_thing rec rec' good grow again x2' h2 g2 act x i (Some (Made node caught stamps)) verb args = search (sims, evsims, keeps_things, base, under, law, sim_ended, sim_run_object, sim_with_lines, sim_thing_answer) depth 16
  at_call_thing rec rec' good grow again x2' h2 g2 act x i other verb args = search (sims, evsims, keeps_things, base, under, law, sim_ended, sim_run_object, sim_with_lines, sim_thing_answer) depth 16

  sim_call_thing : (x1 : Evaluator N) (x1' : Evaluator M) → SameEvaluator f Fits x1 x1' → GoodEvaluator (Grows Fits) x1' → (x2 : Caller N) (x2' : Caller M) → SameCaller f Fits x2 x2' → GoodCaller (Grows Fits) x2' → (x3 : ℕ) → (x4 : Value N) (x4' : Value M) → x4' ≡ maps.value f x4 → (x5 : ℕ) → (x6 : Option (Thing N)) (x6' : Option (Thing M)) → x6' ≡ option_map (maps.thing f) x6 → (x7 : Words) → (x8 : List (Value N)) (x8' : List (Value M)) → x8' ≡ map (maps.value f) x8 → Sim f Fits (maps.value f) (calls.call_thing K tree x1 x2 x3 x4 x5 x6 x7 x8) (calls.call_thing L tree x1' x2' x3 x4' x5 x6' x7 x8')
  sim_call_thing x1 x1' h1 g1 x2 x2' h2 g2 x3 x4 x4' e4 x5 x6 x6' e6 x7 x8 x8' e8 = rw (e4, e6, e8) (at_call_thing x1 x1' h1 g1 x2 x2' h2 g2 x3 x4 x5 x6 x7 x8)

  at_call_spot : (x1 : Evaluator N) (x1' : Evaluator M) → SameEvaluator f Fits x1 x1' → GoodEvaluator (Grows Fits) x1' → (x2 : Caller N) (x2' : Caller M) → SameCaller f Fits x2 x2' → GoodCaller (Grows Fits) x2' → (x3 : ℕ) → (x4 : Value N) → (x5 : Spot) → (x6 : Words) → (x7 : List (Value N)) → Sim f Fits (maps.value f) (calls.call_spot K tree x1 x2 x3 x4 x5 x6 x7) (calls.call_spot L tree x1' x2' x3 (maps.value f x4) x5 x6 (map (maps.value f) x7))
  unfolding calls.call_spot
  at_call_spot rec rec' good grow again x2' h2 g2 act x (Own i) verb args = search (sims, evsims, sim_call_thing, things_here, keeps_things, base, under, law) depth 16
  at_call_spot rec rec' good grow again x2' h2 g2 act x _ verb args = search (sims, evsims, keeps_things, base, under, law) depth 16

  sim_call_spot : (x1 : Evaluator N) (x1' : Evaluator M) → SameEvaluator f Fits x1 x1' → GoodEvaluator (Grows Fits) x1' → (x2 : Caller N) (x2' : Caller M) → SameCaller f Fits x2 x2' → GoodCaller (Grows Fits) x2' → (x3 : ℕ) → (x4 : Value N) (x4' : Value M) → x4' ≡ maps.value f x4 → (x5 : Spot) → (x6 : Words) → (x7 : List (Value N)) (x7' : List (Value M)) → x7' ≡ map (maps.value f) x7 → Sim f Fits (maps.value f) (calls.call_spot K tree x1 x2 x3 x4 x5 x6 x7) (calls.call_spot L tree x1' x2' x3 x4' x5 x6 x7')
  sim_call_spot x1 x1' h1 g1 x2 x2' h2 g2 x3 x4 x4' e4 x5 x6 x7 x7' e7 = rw (e4, e7) (at_call_spot x1 x1' h1 g1 x2 x2' h2 g2 x3 x4 x5 x6 x7)

  at_call_value : (x1 : Evaluator N) (x1' : Evaluator M) → SameEvaluator f Fits x1 x1' → GoodEvaluator (Grows Fits) x1' → (x2 : Caller N) (x2' : Caller M) → SameCaller f Fits x2 x2' → GoodCaller (Grows Fits) x2' → (x3 : ℕ) → (x4 : Value N) → (x5 : Value N) → (x6 : Words) → (x7 : List (Value N)) → Sim f Fits (maps.value f) (calls.call_value K tree x1 x2 x3 x4 x5 x6 x7) (calls.call_value L tree x1' x2' x3 (maps.value f x4) (maps.value f x5) x6 (map (maps.value f) x7))
  unfolding calls.call_value
  at_call_value rec rec' good grow again x2' h2 g2 act x (Ref n) verb args = rw (law.spot n) (at_call_spot rec rec' good grow again x2' h2 g2 act x (K.spot n) verb args)
  at_call_value rec rec' good grow again x2' h2 g2 act x (Broken p) verb args = search sims
  at_call_value rec rec' good grow again x2' h2 g2 act x (Prim n) verb args = rw (asked_map f (native.primitive n) verb args) (at_perform again x2' h2 g2 act (native.asked (native.primitive n) verb args))
  at_call_value rec rec' good grow again x2' h2 g2 act x other verb args = search (sims, evsims, sim_with_lines, sim_data_answer, keeps_things, base, under, law) depth 16

  sim_call_value : (x1 : Evaluator N) (x1' : Evaluator M) → SameEvaluator f Fits x1 x1' → GoodEvaluator (Grows Fits) x1' → (x2 : Caller N) (x2' : Caller M) → SameCaller f Fits x2 x2' → GoodCaller (Grows Fits) x2' → (x3 : ℕ) → (x4 : Value N) (x4' : Value M) → x4' ≡ maps.value f x4 → (x5 : Value N) (x5' : Value M) → x5' ≡ maps.value f x5 → (x6 : Words) → (x7 : List (Value N)) (x7' : List (Value M)) → x7' ≡ map (maps.value f) x7 → Sim f Fits (maps.value f) (calls.call_value K tree x1 x2 x3 x4 x5 x6 x7) (calls.call_value L tree x1' x2' x3 x4' x5' x6 x7')
  sim_call_value x1 x1' h1 g1 x2 x2' h2 g2 x3 x4 x4' e4 x5 x5' e5 x6 x7 x7' e7 = rw (e4, e5, e7) (at_call_value x1 x1' h1 g1 x2 x2' h2 g2 x3 x4 x5 x6 x7)

  at_call_one : (x1 : Evaluator N) (x1' : Evaluator M) → SameEvaluator f Fits x1 x1' → GoodEvaluator (Grows Fits) x1' → (x2 : Caller N) (x2' : Caller M) → SameCaller f Fits x2 x2' → GoodCaller (Grows Fits) x2' → (x3 : ℕ) → (x4 : Value N) → (x5 : Words) → (x6 : List (Value N)) → Sim f Fits (maps.value f) (calls.call_one K tree x1 x2 x3 x4 x5 x6) (calls.call_one L tree x1' x2' x3 (maps.value f x4) x5 (map (maps.value f) x6))
  unfolding calls.call_one
  at_call_one rec rec' good grow again x2' h2 g2 act x verb args = search (sims, evsims, sim_call_value, follows, keeps_things, base, under, law) depth 16

  sim_call_one : (x1 : Evaluator N) (x1' : Evaluator M) → SameEvaluator f Fits x1 x1' → GoodEvaluator (Grows Fits) x1' → (x2 : Caller N) (x2' : Caller M) → SameCaller f Fits x2 x2' → GoodCaller (Grows Fits) x2' → (x3 : ℕ) → (x4 : Value N) (x4' : Value M) → x4' ≡ maps.value f x4 → (x5 : Words) → (x6 : List (Value N)) (x6' : List (Value M)) → x6' ≡ map (maps.value f) x6 → Sim f Fits (maps.value f) (calls.call_one K tree x1 x2 x3 x4 x5 x6) (calls.call_one L tree x1' x2' x3 x4' x5 x6')
  sim_call_one x1 x1' h1 g1 x2 x2' h2 g2 x3 x4 x4' e4 x5 x6 x6' e6 = rw (e4, e6) (at_call_one x1 x1' h1 g1 x2 x2' h2 g2 x3 x4 x5 x6)

  at_call_at : (x1 : ℕ) → (x2 : Evaluator N) (x2' : Evaluator M) → SameEvaluator f Fits x2 x2' → GoodEvaluator (Grows Fits) x2' → (x3 : ℕ) → (x4 : Value N) → (x5 : Words) → (x6 : List (Value N)) → Sim f Fits (maps.value f) (calls.call_at K tree x1 x2 x3 x4 x5 x6) (calls.call_at L tree x1 x2' x3 (maps.value f x4) x5 (map (maps.value f) x6))
  unfolding calls.call_at
  at_call_at zero rec rec' good grow act x verb args = search sims
  at_call_at (suc d) rec rec' good grow act x verb args = at_call_one rec rec' good grow (λ a y v xs. calls.call_at K tree d rec a y v xs) (λ a y v xs. calls.call_at L tree d rec' a y v xs) (λ a y y' v xs xs' i j. rw (i, j) (at_call_at d rec rec' good grow a y v xs)) (λ a y v xs. grown.keeps_call_at L (Grows Fits) base under tree d rec' grow a y v xs) act x verb args

  sim_call_at : (x1 : ℕ) → (x2 : Evaluator N) (x2' : Evaluator M) → SameEvaluator f Fits x2 x2' → GoodEvaluator (Grows Fits) x2' → (x3 : ℕ) → (x4 : Value N) (x4' : Value M) → x4' ≡ maps.value f x4 → (x5 : Words) → (x6 : List (Value N)) (x6' : List (Value M)) → x6' ≡ map (maps.value f) x6 → Sim f Fits (maps.value f) (calls.call_at K tree x1 x2 x3 x4 x5 x6) (calls.call_at L tree x1 x2' x3 x4' x5 x6')
  sim_call_at x1 x2 x2' h2 g2 x3 x4 x4' e4 x5 x6 x6' e6 = rw (e4, e6) (at_call_at x1 x2 x2' h2 g2 x3 x4 x5 x6)

  at_call : (x1 : Evaluator N) (x1' : Evaluator M) → SameEvaluator f Fits x1 x1' → GoodEvaluator (Grows Fits) x1' → (x2 : ℕ) → (x3 : Value N) → (x4 : Words) → (x5 : List (Value N)) → Sim f Fits (maps.value f) (calls.call K tree x1 x2 x3 x4 x5) (calls.call L tree x1' x2 (maps.value f x3) x4 (map (maps.value f) x5))
  unfolding calls.call
  at_call rec rec' good grow act x verb args = search (sims, evsims, sim_call_at, count_lists, keeps_things, base, under, law) depth 16

  sim_call : (x1 : Evaluator N) (x1' : Evaluator M) → SameEvaluator f Fits x1 x1' → GoodEvaluator (Grows Fits) x1' → (x2 : ℕ) → (x3 : Value N) (x3' : Value M) → x3' ≡ maps.value f x3 → (x4 : Words) → (x5 : List (Value N)) (x5' : List (Value M)) → x5' ≡ map (maps.value f) x5 → Sim f Fits (maps.value f) (calls.call K tree x1 x2 x3 x4 x5) (calls.call L tree x1' x2 x3' x4 x5')
  sim_call x1 x1' h1 g1 x2 x3 x3' e3 x4 x5 x5' e5 = rw (e3, e5) (at_call x1 x1' h1 g1 x2 x3 x4 x5)

  -- calls over evaluators that do the same do the same
  sim_caller : (rec : Evaluator N) (rec' : Evaluator M) → SameEvaluator f Fits rec rec' → GoodEvaluator (Grows Fits) rec' → SameCaller f Fits (calls.call K tree rec) (calls.call L tree rec')
  sim_caller rec rec' good grow act x x' verb args args' e i = sim_call rec rec' good grow act x x' e verb args args' i

  at_turn_thing : (x1 : Evaluator N) (x1' : Evaluator M) → SameEvaluator f Fits x1 x1' → GoodEvaluator (Grows Fits) x1' → (x2 : ℕ) → (x3 : ℕ) → (x4 : Option (Thing N)) → (x5 : Words) → (x6 : List (Value N)) → Sim f Fits (maps.value f) (calls.turn_thing K tree x1 x2 x3 x4 x5 x6) (calls.turn_thing L tree x1' x2 x3 (option_map (maps.thing f) x4) x5 (map (maps.value f) x6))
  unfolding calls.turn_thing
  at_turn_thing rec rec' good grow act i (Some (Made node caught stamps)) verb args = search (sims, evsims, keeps_things, base, under, law, sim_run_object, sim_thing_answer, sim_call) depth 16
  at_turn_thing rec rec' good grow act i other verb args = search (sims, evsims, keeps_things, base, under, law, sim_run_object, sim_thing_answer, sim_call) depth 16

  sim_turn_thing : (x1 : Evaluator N) (x1' : Evaluator M) → SameEvaluator f Fits x1 x1' → GoodEvaluator (Grows Fits) x1' → (x2 : ℕ) → (x3 : ℕ) → (x4 : Option (Thing N)) (x4' : Option (Thing M)) → x4' ≡ option_map (maps.thing f) x4 → (x5 : Words) → (x6 : List (Value N)) (x6' : List (Value M)) → x6' ≡ map (maps.value f) x6 → Sim f Fits (maps.value f) (calls.turn_thing K tree x1 x2 x3 x4 x5 x6) (calls.turn_thing L tree x1' x2 x3 x4' x5 x6')
  sim_turn_thing x1 x1' h1 g1 x2 x3 x4 x4' e4 x5 x6 x6' e6 = rw (e4, e6) (at_turn_thing x1 x1' h1 g1 x2 x3 x4 x5 x6)

  at_turn_spot : (x1 : Evaluator N) (x1' : Evaluator M) → SameEvaluator f Fits x1 x1' → GoodEvaluator (Grows Fits) x1' → (x2 : ℕ) → (x3 : Spot) → (x4 : Words) → (x5 : List (Value N)) → Sim f Fits (maps.value f) (calls.turn_spot K tree x1 x2 x3 x4 x5) (calls.turn_spot L tree x1' x2 x3 x4 (map (maps.value f) x5))
  unfolding calls.turn_spot
  at_turn_spot rec rec' good grow act (Own i) verb args = search (sims, evsims, sim_turn_thing, things_here, keeps_things, base, under, law) depth 16
  at_turn_spot rec rec' good grow act _ verb args = search (sims, evsims, keeps_things, base, under, law) depth 16

  sim_turn_spot : (x1 : Evaluator N) (x1' : Evaluator M) → SameEvaluator f Fits x1 x1' → GoodEvaluator (Grows Fits) x1' → (x2 : ℕ) → (x3 : Spot) → (x4 : Words) → (x5 : List (Value N)) (x5' : List (Value M)) → x5' ≡ map (maps.value f) x5 → Sim f Fits (maps.value f) (calls.turn_spot K tree x1 x2 x3 x4 x5) (calls.turn_spot L tree x1' x2 x3 x4 x5')
  sim_turn_spot x1 x1' h1 g1 x2 x3 x4 x5 x5' e5 = rw (e5) (at_turn_spot x1 x1' h1 g1 x2 x3 x4 x5)

  at_turn_value : (x1 : Evaluator N) (x1' : Evaluator M) → SameEvaluator f Fits x1 x1' → GoodEvaluator (Grows Fits) x1' → (x2 : ℕ) → (x3 : Value N) → (x4 : Words) → (x5 : List (Value N)) → Sim f Fits (maps.value f) (calls.turn_value K tree x1 x2 x3 x4 x5) (calls.turn_value L tree x1' x2 (maps.value f x3) x4 (map (maps.value f) x5))
  unfolding calls.turn_value
  at_turn_value rec rec' good grow act (Ref n) verb args = rw (law.spot n) (at_turn_spot rec rec' good grow act (K.spot n) verb args)
  at_turn_value rec rec' good grow act (Broken p) verb args = search sims
  at_turn_value rec rec' good grow act (Prim n) verb args = rw (asked_map f (native.primitive n) verb args) (at_perform (calls.call K tree rec) (calls.call L tree rec') (sim_caller rec rec' good grow) (grown.keeps_call L (Grows Fits) base under tree rec' grow) act (native.asked (native.primitive n) verb args))
  at_turn_value rec rec' good grow act other verb args = search (sims, evsims, sim_data_answer, sim_call, grown.keeps_call, keeps_things, base, under, law) depth 16

  sim_turn_value : (x1 : Evaluator N) (x1' : Evaluator M) → SameEvaluator f Fits x1 x1' → GoodEvaluator (Grows Fits) x1' → (x2 : ℕ) → (x3 : Value N) (x3' : Value M) → x3' ≡ maps.value f x3 → (x4 : Words) → (x5 : List (Value N)) (x5' : List (Value M)) → x5' ≡ map (maps.value f) x5 → Sim f Fits (maps.value f) (calls.turn_value K tree x1 x2 x3 x4 x5) (calls.turn_value L tree x1' x2 x3' x4 x5')
  sim_turn_value x1 x1' h1 g1 x2 x3 x3' e3 x4 x5 x5' e5 = rw (e3, e5) (at_turn_value x1 x1' h1 g1 x2 x3 x4 x5)

  at_object_made : (x1 : ℕ) → (x2 : Words) → (x3 : ℕ) → (x4 : N) → (x5 : Scope N) → (x6 : List (Value N)) → (x7 : List (Binding N)) → Sim f Fits (evals.answer f) (calls.object_made K tree x1 x2 x3 x4 x5 x6 x7) (calls.object_made L tree x1 x2 x3 (f x4) (maps.scope f x5) (map (maps.value f) x6) (map (maps.binding f) x7))
  unfolding calls.object_made
  at_object_made node x act me after stamps caught = search (sims, evsims, sim_answered, made_line, keeps_things, base, under, law) depth 16

  sim_object_made : (x1 : ℕ) → (x2 : Words) → (x3 : ℕ) → (x4 : N) (x4' : M) → x4' ≡ f x4 → (x5 : Scope N) (x5' : Scope M) → x5' ≡ maps.scope f x5 → (x6 : List (Value N)) (x6' : List (Value M)) → x6' ≡ map (maps.value f) x6 → (x7 : List (Binding N)) (x7' : List (Binding M)) → x7' ≡ map (maps.binding f) x7 → Sim f Fits (evals.answer f) (calls.object_made K tree x1 x2 x3 x4 x5 x6 x7) (calls.object_made L tree x1 x2 x3 x4' x5' x6' x7')
  sim_object_made x1 x2 x3 x4 x4' e4 x5 x5' e5 x6 x6' e6 x7 x7' e7 = rw (e4, e5, e6, e7) (at_object_made x1 x2 x3 x4 x5 x6 x7)

  at_object_in : (x1 : ℕ) → (x2 : Words) → (x3 : List Words) → (x4 : ℕ) → (x5 : N) → (x6 : List (Value N)) → (x7 : Scope N) → Sim f Fits (evals.answer f) (calls.object_in K tree x1 x2 x3 x4 x5 x6 x7) (calls.object_in L tree x1 x2 x3 x4 (f x5) (map (maps.value f) x6) (maps.scope f x7))
  unfolding calls.object_in
  at_object_in node x free act me stamps after = search (sims, evsims, sim_object_made, captures_map, keeps_things, base, under, law) depth 16

  sim_object_in : (x1 : ℕ) → (x2 : Words) → (x3 : List Words) → (x4 : ℕ) → (x5 : N) (x5' : M) → x5' ≡ f x5 → (x6 : List (Value N)) (x6' : List (Value M)) → x6' ≡ map (maps.value f) x6 → (x7 : Scope N) (x7' : Scope M) → x7' ≡ maps.scope f x7 → Sim f Fits (evals.answer f) (calls.object_in K tree x1 x2 x3 x4 x5 x6 x7) (calls.object_in L tree x1 x2 x3 x4 x5' x6' x7')
  sim_object_in x1 x2 x3 x4 x5 x5' e5 x6 x6' e6 x7 x7' e7 = rw (e5, e6, e7) (at_object_in x1 x2 x3 x4 x5 x6 x7)

  at_object_as : (x1 : ℕ) → (x2 : Option Node) → (x3 : List Words) → (x4 : List (Value N)) → (x5 : N) → (x6 : Scope N) → Sim f Fits (evals.answer f) (calls.object_as K tree x1 x2 x3 x4 x5 x6) (calls.object_as L tree x1 x2 x3 (map (maps.value f) x4) (f x5) (maps.scope f x6))
  unfolding calls.object_as
  at_object_as node p free stamps me here = rw (named_map f p (Ref me) here) (at_object_in node (scopes.name_of p) free here.act me stamps (scopes.named p (Ref me) here))

  sim_object_as : (x1 : ℕ) → (x2 : Option Node) → (x3 : List Words) → (x4 : List (Value N)) (x4' : List (Value M)) → x4' ≡ map (maps.value f) x4 → (x5 : N) (x5' : M) → x5' ≡ f x5 → (x6 : Scope N) (x6' : Scope M) → x6' ≡ maps.scope f x6 → Sim f Fits (evals.answer f) (calls.object_as K tree x1 x2 x3 x4 x5 x6) (calls.object_as L tree x1 x2 x3 x4' x5' x6')
  sim_object_as x1 x2 x3 x4 x4' e4 x5 x5' e5 x6 x6' e6 = rw (e4, e5, e6) (at_object_as x1 x2 x3 x4 x5 x6)

  at_make_object : (x1 : Caller N) (x1' : Caller M) → SameCaller f Fits x1 x1' → GoodCaller (Grows Fits) x1' → (x2 : ℕ) → (x3 : Option Node) → (x4 : List Words) → (x5 : List (Value N)) → (x6 : Scope N) → Sim f Fits (evals.answer f) (calls.make_object K tree x1 x2 x3 x4 x5 x6) (calls.make_object L tree x1' x2 x3 x4 (map (maps.value f) x5) (maps.scope f x6))
  unfolding calls.make_object
  at_make_object again x1' h1 g1 node p free auditors here = search (sims, evsims, sim_ask_all, sim_object_as, count_things, objects, view_same, keeps_things, base, under, law) depth 16

  sim_make_object : (x1 : Caller N) (x1' : Caller M) → SameCaller f Fits x1 x1' → GoodCaller (Grows Fits) x1' → (x2 : ℕ) → (x3 : Option Node) → (x4 : List Words) → (x5 : List (Value N)) (x5' : List (Value M)) → x5' ≡ map (maps.value f) x5 → (x6 : Scope N) (x6' : Scope M) → x6' ≡ maps.scope f x6 → Sim f Fits (evals.answer f) (calls.make_object K tree x1 x2 x3 x4 x5 x6) (calls.make_object L tree x1' x2 x3 x4 x5' x6')
  sim_make_object x1 x1' h1 g1 x2 x3 x4 x5 x5' e5 x6 x6' e6 = rw (e5, e6) (at_make_object x1 x1' h1 g1 x2 x3 x4 x5 x6)

  at_all_of : (x1 : Evaluator N) (x1' : Evaluator M) → SameEvaluator f Fits x1 x1' → GoodEvaluator (Grows Fits) x1' → (x2 : List ℕ) → (x3 : Scope N) → Sim f Fits (evals.answers f) (eval.all_of K tree x1 x2 x3) (eval.all_of L tree x1' x2 (maps.scope f x3))
  unfolding eval.all_of
  at_all_of rec rec' good grow [] here = search sims
  at_all_of rec rec' good grow (e ∷ es) here = let rest = at_all_of rec rec' good grow es in let more = grown.keeps_all_of L (Grows Fits) base under tree rec' grow es in search (sims, evsims, good.expression, grow.expression, keeps_things, base, under) depth 14

  sim_all_of : (x1 : Evaluator N) (x1' : Evaluator M) → SameEvaluator f Fits x1 x1' → GoodEvaluator (Grows Fits) x1' → (x2 : List ℕ) → (x3 : Scope N) (x3' : Scope M) → x3' ≡ maps.scope f x3 → Sim f Fits (evals.answers f) (eval.all_of K tree x1 x2 x3) (eval.all_of L tree x1' x2 x3')
  sim_all_of x1 x1' h1 g1 x2 x3 x3' e3 = rw (e3) (at_all_of x1 x1' h1 g1 x2 x3)

  at_last_of : (x1 : Evaluator N) (x1' : Evaluator M) → SameEvaluator f Fits x1 x1' → GoodEvaluator (Grows Fits) x1' → (x2 : Answer N) → (x3 : List ℕ) → Sim f Fits (evals.answer f) (eval.last_of K tree x1 x2 x3) (eval.last_of L tree x1' (evals.answer f x2) x3)
  unfolding eval.last_of
  at_last_of rec rec' good grow x [] = search sims
  at_last_of rec rec' good grow x (e ∷ es) = let rest = λ (y : Answer N). at_last_of rec rec' good grow y es in let more = λ (y : Answer M). grown.keeps_last_of L (Grows Fits) base under tree rec' grow y es in search (sims, evsims, good.expression, grow.expression, keeps_things, base, under) depth 14

  sim_last_of : (x1 : Evaluator N) (x1' : Evaluator M) → SameEvaluator f Fits x1 x1' → GoodEvaluator (Grows Fits) x1' → (x2 : Answer N) (x2' : Answer M) → x2' ≡ evals.answer f x2 → (x3 : List ℕ) → Sim f Fits (evals.answer f) (eval.last_of K tree x1 x2 x3) (eval.last_of L tree x1' x2' x3)
  sim_last_of x1 x1' h1 g1 x2 x2' e2 x3 = rw (e2) (at_last_of x1 x1' h1 g1 x2 x3)

  at_exit_of : (x1 : Evaluator N) (x1' : Evaluator M) → SameEvaluator f Fits x1 x1' → GoodEvaluator (Grows Fits) x1' → (x2 : Option ℕ) → (x3 : Scope N) → Sim f Fits (evals.answer f) (eval.exit_of K tree x1 x2 x3) (eval.exit_of L tree x1' x2 (maps.scope f x3))
  unfolding eval.exit_of
  at_exit_of rec rec' good grow None here = search (sims, evsims, sim_answered, keeps_things, base, under, law) depth 16
  at_exit_of rec rec' good grow (Some j) here = search (sims, evsims, good.expression, grow.expression, keeps_things, base, under, law) depth 16

  sim_exit_of : (x1 : Evaluator N) (x1' : Evaluator M) → SameEvaluator f Fits x1 x1' → GoodEvaluator (Grows Fits) x1' → (x2 : Option ℕ) → (x3 : Scope N) (x3' : Scope M) → x3' ≡ maps.scope f x3 → Sim f Fits (evals.answer f) (eval.exit_of K tree x1 x2 x3) (eval.exit_of L tree x1' x2 x3')
  sim_exit_of x1 x1' h1 g1 x2 x3 x3' e3 = rw (e3) (at_exit_of x1 x1' h1 g1 x2 x3)

  at_caught_by : (x1 : Evaluator N) (x1' : Evaluator M) → SameEvaluator f Fits x1 x1' → GoodEvaluator (Grows Fits) x1' → (x2 : Scope N) → (x3 : Option (ℕ × ℕ)) → (x4 : Value N) → Sim f Fits (evals.answer f) (eval.caught_by K tree x1 x2 x3 x4) (eval.caught_by L tree x1' (maps.scope f x2) x3 (maps.value f x4))
  unfolding eval.caught_by
  at_caught_by rec rec' good grow here None v = search (sims, evsims, sim_answered, keeps_things, base, under, law) depth 16
  at_caught_by rec rec' good grow here (Some c) v = search (sims, evsims, sim_answered, good.expression, good.pattern, grow.expression, grow.pattern, keeps_things, base, under, law) depth 16

  sim_caught_by : (x1 : Evaluator N) (x1' : Evaluator M) → SameEvaluator f Fits x1 x1' → GoodEvaluator (Grows Fits) x1' → (x2 : Scope N) (x2' : Scope M) → x2' ≡ maps.scope f x2 → (x3 : Option (ℕ × ℕ)) → (x4 : Value N) (x4' : Value M) → x4' ≡ maps.value f x4 → Sim f Fits (evals.answer f) (eval.caught_by K tree x1 x2 x3 x4) (eval.caught_by L tree x1' x2' x3 x4')
  sim_caught_by x1 x1' h1 g1 x2 x2' e2 x3 x4 x4' e4 = rw (e2, e4) (at_caught_by x1 x1' h1 g1 x2 x3 x4)

  at_escaped : (x1 : Evaluator N) (x1' : Evaluator M) → SameEvaluator f Fits x1 x1' → GoodEvaluator (Grows Fits) x1' → (x2 : ℕ) → (x3 : Scope N) → (x4 : Option (ℕ × ℕ)) → (x5 : Act N (Answer N)) (x5' : Act M (Answer M)) → Sim f Fits (evals.answer f) x5 x5' → Keeps (Grows Fits) x5' → Sim f Fits (evals.answer f) (eval.escaped K tree x1 x2 x3 x4 x5) (eval.escaped L tree x1' x2 (maps.scope f x3) x4 x5')
  unfolding eval.escaped
  at_escaped rec rec' good grow j here c m x5' h5 g5 = search (sims, evsims, sim_leave, sim_answered, sim_caught_by, keeps_things, base, under, law) depth 16

  sim_escaped : (x1 : Evaluator N) (x1' : Evaluator M) → SameEvaluator f Fits x1 x1' → GoodEvaluator (Grows Fits) x1' → (x2 : ℕ) → (x3 : Scope N) (x3' : Scope M) → x3' ≡ maps.scope f x3 → (x4 : Option (ℕ × ℕ)) → (x5 : Act N (Answer N)) (x5' : Act M (Answer M)) → Sim f Fits (evals.answer f) x5 x5' → Keeps (Grows Fits) x5' → Sim f Fits (evals.answer f) (eval.escaped K tree x1 x2 x3 x4 x5) (eval.escaped L tree x1' x2 x3' x4 x5')
  sim_escaped x1 x1' h1 g1 x2 x3 x3' e3 x4 x5 x5' h5 g5 = rw (e3) (at_escaped x1 x1' h1 g1 x2 x3 x4 x5 x5' h5 g5)

  at_handles : (x1 : Evaluator N) (x1' : Evaluator M) → SameEvaluator f Fits x1 x1' → GoodEvaluator (Grows Fits) x1' → (x2 : ℕ) → (x3 : ℕ) → (x4 : Scope N) → (x5 : Words) → Sim f Fits (evals.answer f) (eval.handles K tree x1 x2 x3 x4 x5) (eval.handles L tree x1' x2 x3 (maps.scope f x4) x5)
  unfolding eval.handles
  at_handles rec rec' good grow p h here t = search (sims, evsims, sim_answered, good.expression, good.pattern, grow.expression, grow.pattern, keeps_things, base, under, law) depth 16

  sim_handles : (x1 : Evaluator N) (x1' : Evaluator M) → SameEvaluator f Fits x1 x1' → GoodEvaluator (Grows Fits) x1' → (x2 : ℕ) → (x3 : ℕ) → (x4 : Scope N) (x4' : Scope M) → x4' ≡ maps.scope f x4 → (x5 : Words) → Sim f Fits (evals.answer f) (eval.handles K tree x1 x2 x3 x4 x5) (eval.handles L tree x1' x2 x3 x4' x5)
  sim_handles x1 x1' h1 g1 x2 x3 x4 x4' e4 x5 = rw (e4) (at_handles x1 x1' h1 g1 x2 x3 x4 x5)

  at_tried : (x1 : Evaluator N) (x1' : Evaluator M) → SameEvaluator f Fits x1 x1' → GoodEvaluator (Grows Fits) x1' → (x2 : ℕ) → (x3 : ℕ) → (x4 : Scope N) → (x5 : Act N (Answer N)) (x5' : Act M (Answer M)) → Sim f Fits (evals.answer f) x5 x5' → Keeps (Grows Fits) x5' → Sim f Fits (evals.answer f) (eval.tried K tree x1 x2 x3 x4 x5) (eval.tried L tree x1' x2 x3 (maps.scope f x4) x5')
  unfolding eval.tried
  at_tried rec rec' good grow p h here m x5' h5 g5 = search (sims, evsims, sim_answered, sim_handles, keeps_things, base, under, law) depth 16

  sim_tried : (x1 : Evaluator N) (x1' : Evaluator M) → SameEvaluator f Fits x1 x1' → GoodEvaluator (Grows Fits) x1' → (x2 : ℕ) → (x3 : ℕ) → (x4 : Scope N) (x4' : Scope M) → x4' ≡ maps.scope f x4 → (x5 : Act N (Answer N)) (x5' : Act M (Answer M)) → Sim f Fits (evals.answer f) x5 x5' → Keeps (Grows Fits) x5' → Sim f Fits (evals.answer f) (eval.tried K tree x1 x2 x3 x4 x5) (eval.tried L tree x1' x2 x3 x4' x5')
  sim_tried x1 x1' h1 g1 x2 x3 x4 x4' e4 x5 x5' h5 g5 = rw (e4) (at_tried x1 x1' h1 g1 x2 x3 x4 x5 x5' h5 g5)

  at_at_last : (x1 : Evaluator N) (x1' : Evaluator M) → SameEvaluator f Fits x1 x1' → GoodEvaluator (Grows Fits) x1' → (x2 : ℕ) → (x3 : Scope N) → (x4 : Act N (Answer N)) (x4' : Act M (Answer M)) → Sim f Fits (evals.answer f) x4 x4' → Keeps (Grows Fits) x4' → Sim f Fits (evals.answer f) (eval.at_last K tree x1 x2 x3 x4) (eval.at_last L tree x1' x2 (maps.scope f x3) x4')
  unfolding eval.at_last
  at_at_last rec rec' good grow b here m x4' h4 g4 = search (sims, evsims, sim_answered, good.expression, grow.expression, keeps_things, base, under, law) depth 16

  sim_at_last : (x1 : Evaluator N) (x1' : Evaluator M) → SameEvaluator f Fits x1 x1' → GoodEvaluator (Grows Fits) x1' → (x2 : ℕ) → (x3 : Scope N) (x3' : Scope M) → x3' ≡ maps.scope f x3 → (x4 : Act N (Answer N)) (x4' : Act M (Answer M)) → Sim f Fits (evals.answer f) x4 x4' → Keeps (Grows Fits) x4' → Sim f Fits (evals.answer f) (eval.at_last K tree x1 x2 x3 x4) (eval.at_last L tree x1' x2 x3' x4')
  sim_at_last x1 x1' h1 g1 x2 x3 x3' e3 x4 x4' h4 g4 = rw (e3) (at_at_last x1 x1' h1 g1 x2 x3 x4 x4' h4 g4)

  at_choose : (x1 : Evaluator N) (x1' : Evaluator M) → SameEvaluator f Fits x1 x1' → GoodEvaluator (Grows Fits) x1' → (x2 : ℕ) → (x3 : ℕ) → (x4 : Scope N) → (x5 : Scope N) → (x6 : Value N) → Sim f Fits (evals.answer f) (eval.choose K tree x1 x2 x3 x4 x5 x6) (eval.choose L tree x1' x2 x3 (maps.scope f x4) (maps.scope f x5) (maps.value f x6))
  unfolding eval.choose
  at_choose rec rec' good grow a b here inner (Flag true) = search (sims, evsims, sim_answered, good.expression, grow.expression, keeps_things, base, under, law) depth 16
  at_choose rec rec' good grow a b here inner other = search (sims, evsims, sim_answered, good.expression, grow.expression, keeps_things, base, under, law) depth 16

  sim_choose : (x1 : Evaluator N) (x1' : Evaluator M) → SameEvaluator f Fits x1 x1' → GoodEvaluator (Grows Fits) x1' → (x2 : ℕ) → (x3 : ℕ) → (x4 : Scope N) (x4' : Scope M) → x4' ≡ maps.scope f x4 → (x5 : Scope N) (x5' : Scope M) → x5' ≡ maps.scope f x5 → (x6 : Value N) (x6' : Value M) → x6' ≡ maps.value f x6 → Sim f Fits (evals.answer f) (eval.choose K tree x1 x2 x3 x4 x5 x6) (eval.choose L tree x1' x2 x3 x4' x5' x6')
  sim_choose x1 x1' h1 g1 x2 x3 x4 x4' e4 x5 x5' e5 x6 x6' e6 = rw (e4, e5, e6) (at_choose x1 x1' h1 g1 x2 x3 x4 x5 x6)

  at_unmatched_noun : (x1 : ℕ) → (x2 : Bool) → Sim f Fits (maps.bound f) (eval.unmatched_noun K tree x1 x2) (eval.unmatched_noun L tree x1 x2)
  unfolding eval.unmatched_noun eval.no_match scopes.any_guard
  at_unmatched_noun act false = search (sims, evsims, keeps_things, base, under, law) depth 16
  at_unmatched_noun act true = search (sims, evsims, keeps_things, base, under, law) depth 16

  sim_unmatched_noun : (x1 : ℕ) → (x2 : Bool) → Sim f Fits (maps.bound f) (eval.unmatched_noun K tree x1 x2) (eval.unmatched_noun L tree x1 x2)
  sim_unmatched_noun x1 x2 = at_unmatched_noun x1 x2

  at_unmatched : (x1 : List BoundNoun) → (x2 : Scope N) → Sim f Fits (maps.scope f) (eval.unmatched K tree x1 x2) (eval.unmatched L tree x1 (maps.scope f x2))
  unfolding eval.unmatched
  at_unmatched [] here = search sims
  at_unmatched (b ∷ bs) here = let rest = at_unmatched bs in let more = grown.keeps_unmatched L (Grows Fits) base under tree bs in bind_bound f Fits _ _ (at_unmatched_noun here.act b.is_var) (λ n. rw (with_noun_map f b.noun n here) (at_unmatched bs (scopes.with_noun b.noun n here))) (λ n. grown.keeps_unmatched L (Grows Fits) base under tree bs _)

  sim_unmatched : (x1 : List BoundNoun) → (x2 : Scope N) (x2' : Scope M) → x2' ≡ maps.scope f x2 → Sim f Fits (maps.scope f) (eval.unmatched K tree x1 x2) (eval.unmatched L tree x1 x2')
  sim_unmatched x1 x2 x2' e2 = rw (e2) (at_unmatched x1 x2)

  at_not_matched : (x1 : ℕ) → (x2 : Scope N) → (x3 : Value N) → Sim f Fits (evals.answer f) (eval.not_matched K tree x1 x2 x3) (eval.not_matched L tree x1 (maps.scope f x2) (maps.value f x3))
  unfolding eval.not_matched
  at_not_matched p here v = search (sims, evsims, sim_unmatched, sim_answered, keeps_things, base, under, law) depth 16

  sim_not_matched : (x1 : ℕ) → (x2 : Scope N) (x2' : Scope M) → x2' ≡ maps.scope f x2 → (x3 : Value N) (x3' : Value M) → x3' ≡ maps.value f x3 → Sim f Fits (evals.answer f) (eval.not_matched K tree x1 x2 x3) (eval.not_matched L tree x1 x2' x3')
  sim_not_matched x1 x2 x2' e2 x3 x3' e3 = rw (e2, e3) (at_not_matched x1 x2 x3)

  at_match_ended : (x1 : ℕ) → (x2 : ℕ) → (x3 : Scope N) → (x4 : Act N (Scope N)) (x4' : Act M (Scope M)) → Sim f Fits (maps.scope f) x4 x4' → Keeps (Grows Fits) x4' → Sim f Fits (evals.answer f) (eval.match_ended K tree x1 x2 x3 x4) (eval.match_ended L tree x1 x2 (maps.scope f x3) x4')
  unfolding eval.match_ended
  at_match_ended j p here m x4' h4 g4 = search (sims, evsims, sim_leave, sim_answered, sim_not_matched, keeps_things, base, under, law) depth 16

  sim_match_ended : (x1 : ℕ) → (x2 : ℕ) → (x3 : Scope N) (x3' : Scope M) → x3' ≡ maps.scope f x3 → (x4 : Act N (Scope N)) (x4' : Act M (Scope M)) → Sim f Fits (maps.scope f) x4 x4' → Keeps (Grows Fits) x4' → Sim f Fits (evals.answer f) (eval.match_ended K tree x1 x2 x3 x4) (eval.match_ended L tree x1 x2 x3' x4')
  sim_match_ended x1 x2 x3 x3' e3 x4 x4' h4 g4 = rw (e3) (at_match_ended x1 x2 x3 x4 x4' h4 g4)

  at_write_cell : (x1 : Evaluator N) (x1' : Evaluator M) → SameEvaluator f Fits x1 x1' → GoodEvaluator (Grows Fits) x1' → (x2 : ℕ) → (x3 : ℕ) → (x4 : Value N) → (x5 : Option (Cell N)) → Sim f Fits (maps.value f) (eval.write_cell K tree x1 x2 x3 x4 x5) (eval.write_cell L tree x1' x2 x3 (maps.value f x4) (option_map (maps.cell f) x5))
  unfolding eval.write_cell
  at_write_cell rec rec' good grow act k v None = search (sims, evsims, keeps_things, base, under, law) depth 16
  at_write_cell rec rec' good grow act k v (Some c) = search (sims, evsims, sim_coerce, sim_call, keeps_things, base, under, law) depth 16

  sim_write_cell : (x1 : Evaluator N) (x1' : Evaluator M) → SameEvaluator f Fits x1 x1' → GoodEvaluator (Grows Fits) x1' → (x2 : ℕ) → (x3 : ℕ) → (x4 : Value N) (x4' : Value M) → x4' ≡ maps.value f x4 → (x5 : Option (Cell N)) (x5' : Option (Cell M)) → x5' ≡ option_map (maps.cell f) x5 → Sim f Fits (maps.value f) (eval.write_cell K tree x1 x2 x3 x4 x5) (eval.write_cell L tree x1' x2 x3 x4' x5')
  sim_write_cell x1 x1' h1 g1 x2 x3 x4 x4' e4 x5 x5' e5 = rw (e4, e5) (at_write_cell x1 x1' h1 g1 x2 x3 x4 x5)

  at_write_bound : (x1 : Evaluator N) (x1' : Evaluator M) → SameEvaluator f Fits x1 x1' → GoodEvaluator (Grows Fits) x1' → (x2 : ℕ) → (x3 : Option (Bound N)) → (x4 : Value N) → Sim f Fits (maps.value f) (eval.write_bound K tree x1 x2 x3 x4) (eval.write_bound L tree x1' x2 (option_map (maps.bound f) x3) (maps.value f x4))
  unfolding eval.write_bound
  at_write_bound rec rec' good grow act (Some (Slot k)) v = search (sims, evsims, sim_write_cell, cells_here, keeps_things, base, under, law) depth 16
  at_write_bound rec rec' good grow act _ v = search (sims, evsims, keeps_things, base, under, law) depth 16

  sim_write_bound : (x1 : Evaluator N) (x1' : Evaluator M) → SameEvaluator f Fits x1 x1' → GoodEvaluator (Grows Fits) x1' → (x2 : ℕ) → (x3 : Option (Bound N)) (x3' : Option (Bound M)) → x3' ≡ option_map (maps.bound f) x3 → (x4 : Value N) (x4' : Value M) → x4' ≡ maps.value f x4 → Sim f Fits (maps.value f) (eval.write_bound K tree x1 x2 x3 x4) (eval.write_bound L tree x1' x2 x3' x4')
  sim_write_bound x1 x1' h1 g1 x2 x3 x3' e3 x4 x4' e4 = rw (e3, e4) (at_write_bound x1 x1' h1 g1 x2 x3 x4)

  at_guard_of : (x1 : Evaluator N) (x1' : Evaluator M) → SameEvaluator f Fits x1 x1' → GoodEvaluator (Grows Fits) x1' → (x2 : Option ℕ) → (x3 : Scope N) → Sim f Fits (evals.answer f) (eval.guard_of K tree x1 x2 x3) (eval.guard_of L tree x1' x2 (maps.scope f x3))
  unfolding eval.guard_of scopes.any_guard
  at_guard_of rec rec' good grow None here = search (sims, evsims, sim_answered, keeps_things, base, under, law) depth 16
  at_guard_of rec rec' good grow (Some g) here = search (sims, evsims, sim_answered, good.expression, grow.expression, follows, keeps_things, base, under, law) depth 16

  sim_guard_of : (x1 : Evaluator N) (x1' : Evaluator M) → SameEvaluator f Fits x1 x1' → GoodEvaluator (Grows Fits) x1' → (x2 : Option ℕ) → (x3 : Scope N) (x3' : Scope M) → x3' ≡ maps.scope f x3 → Sim f Fits (evals.answer f) (eval.guard_of K tree x1 x2 x3) (eval.guard_of L tree x1' x2 x3')
  sim_guard_of x1 x1' h1 g1 x2 x3 x3' e3 = rw (e3) (at_guard_of x1 x1' h1 g1 x2 x3)

  at_bind_list : (x1 : Evaluator N) (x1' : Evaluator M) → SameEvaluator f Fits x1 x1' → GoodEvaluator (Grows Fits) x1' → (x2 : List ℕ) → (x3 : Value N) → (x4 : Scope N) → (x5 : List (Value N)) → Sim f Fits (maps.scope f) (eval.bind_list K tree x1 x2 x3 x4 x5) (eval.bind_list L tree x1' x2 (maps.value f x3) (maps.scope f x4) (map (maps.value f) x5))
  unfolding eval.bind_list
  at_bind_list rec rec' good grow ps j here vs = search (sims, evsims, sim_bind_all, sim_failed, sim_call, if_at, eq_same, keeps_things, base, under, law) depth 16

  sim_bind_list : (x1 : Evaluator N) (x1' : Evaluator M) → SameEvaluator f Fits x1 x1' → GoodEvaluator (Grows Fits) x1' → (x2 : List ℕ) → (x3 : Value N) (x3' : Value M) → x3' ≡ maps.value f x3 → (x4 : Scope N) (x4' : Scope M) → x4' ≡ maps.scope f x4 → (x5 : List (Value N)) (x5' : List (Value M)) → x5' ≡ map (maps.value f) x5 → Sim f Fits (maps.scope f) (eval.bind_list K tree x1 x2 x3 x4 x5) (eval.bind_list L tree x1' x2 x3' x4' x5')
  sim_bind_list x1 x1' h1 g1 x2 x3 x3' e3 x4 x4' e4 x5 x5' e5 = rw (e3, e4, e5) (at_bind_list x1 x1' h1 g1 x2 x3 x4 x5)

  at_bind_items : (x1 : Evaluator N) (x1' : Evaluator M) → SameEvaluator f Fits x1 x1' → GoodEvaluator (Grows Fits) x1' → (x2 : List ℕ) → (x3 : Value N) → (x4 : Scope N) → (x5 : Value N) → Sim f Fits (maps.scope f) (eval.bind_items K tree x1 x2 x3 x4 x5) (eval.bind_items L tree x1' x2 (maps.value f x3) (maps.scope f x4) (maps.value f x5))
  unfolding eval.bind_items
  at_bind_items rec rec' good grow ps j here (Items k) = search (sims, evsims, sim_bind_list, lists_here, keeps_things, base, under, law) depth 16
  at_bind_items rec rec' good grow ps j here _ = search (sims, evsims, sim_failed, sim_call, keeps_things, base, under, law) depth 16

  sim_bind_items : (x1 : Evaluator N) (x1' : Evaluator M) → SameEvaluator f Fits x1 x1' → GoodEvaluator (Grows Fits) x1' → (x2 : List ℕ) → (x3 : Value N) (x3' : Value M) → x3' ≡ maps.value f x3 → (x4 : Scope N) (x4' : Scope M) → x4' ≡ maps.scope f x4 → (x5 : Value N) (x5' : Value M) → x5' ≡ maps.value f x5 → Sim f Fits (maps.scope f) (eval.bind_items K tree x1 x2 x3 x4 x5) (eval.bind_items L tree x1' x2 x3' x4' x5')
  sim_bind_items x1 x1' h1 g1 x2 x3 x3' e3 x4 x4' e4 x5 x5' e5 = rw (e3, e4, e5) (at_bind_items x1 x1' h1 g1 x2 x3 x4 x5)

  -- what the nodes of the language are put together from: a node that is put together so too is no more text here
  ruleset nodes = (sims, evsims, sim_answered, sim_read_bound, sim_write_bound, sim_failed, sim_handed, sim_coerce, sim_make_list, sim_leave, sim_bind_all, sim_new_ejector, sim_call, sim_make_object, sim_all_of, sim_last_of, sim_exit_of, sim_caught_by, sim_escaped, sim_handles, sim_tried, sim_at_last, sim_choose, sim_unmatched, sim_not_matched, sim_match_ended, sim_guard_of, sim_bind_list, sim_bind_items, literal_map, bound_map, with_noun_map, fixed_noun, slot_noun, follows, objects, object_refs, keeps_things, base, under)

  at_step : (x1 : Evaluator N) (x1' : Evaluator M) → SameEvaluator f Fits x1 x1' → GoodEvaluator (Grows Fits) x1' → (x2 : ℕ) → (x3 : Node) → (x4 : Scope N) → Sim f Fits (evals.answer f) (eval.step K tree x1 x2 x3 x4) (eval.step L tree x1' x2 x3 (maps.scope f x4))
  unfolding eval.step
  at_step rec rec' good grow id (Lit l) here = search (nodes, good.expression, good.pattern, grow.expression, grow.pattern, law) depth 16
  at_step rec rec' good grow id other here = search (nodes, good.expression, good.pattern, grow.expression, grow.pattern, law) depth 16

  sim_step : (x1 : Evaluator N) (x1' : Evaluator M) → SameEvaluator f Fits x1 x1' → GoodEvaluator (Grows Fits) x1' → (x2 : ℕ) → (x3 : Node) → (x4 : Scope N) (x4' : Scope M) → x4' ≡ maps.scope f x4 → Sim f Fits (evals.answer f) (eval.step K tree x1 x2 x3 x4) (eval.step L tree x1' x2 x3 x4')
  sim_step x1 x1' h1 g1 x2 x3 x4 x4' e4 = rw (e4) (at_step x1 x1' h1 g1 x2 x3 x4)

  at_bind_step : (x1 : Evaluator N) (x1' : Evaluator M) → SameEvaluator f Fits x1 x1' → GoodEvaluator (Grows Fits) x1' → (x2 : Node) → (x3 : Value N) → (x4 : Value N) → (x5 : Scope N) → Sim f Fits (maps.scope f) (eval.bind_step K tree x1 x2 x3 x4 x5) (eval.bind_step L tree x1' x2 (maps.value f x3) (maps.value f x4) (maps.scope f x5))
  unfolding eval.bind_step
  at_bind_step rec rec' good grow (Any g) v j here = search (nodes, good.expression, good.pattern, grow.expression, grow.pattern, law) depth 16
  at_bind_step rec rec' good grow other v j here = search (nodes, good.expression, good.pattern, grow.expression, grow.pattern, law) depth 16

  sim_bind_step : (x1 : Evaluator N) (x1' : Evaluator M) → SameEvaluator f Fits x1 x1' → GoodEvaluator (Grows Fits) x1' → (x2 : Node) → (x3 : Value N) (x3' : Value M) → x3' ≡ maps.value f x3 → (x4 : Value N) (x4' : Value M) → x4' ≡ maps.value f x4 → (x5 : Scope N) (x5' : Scope M) → x5' ≡ maps.scope f x5 → Sim f Fits (maps.scope f) (eval.bind_step K tree x1 x2 x3 x4 x5) (eval.bind_step L tree x1' x2 x3' x4' x5')
  sim_bind_step x1 x1' h1 g1 x2 x3 x3' e3 x4 x4' e4 x5 x5' e5 = rw (e3, e4, e5) (at_bind_step x1 x1' h1 g1 x2 x3 x4 x5)

  at_step_found : (x1 : Evaluator N) (x1' : Evaluator M) → SameEvaluator f Fits x1 x1' → GoodEvaluator (Grows Fits) x1' → (x2 : ℕ) → (x3 : Option Node) → (x4 : Scope N) → Sim f Fits (evals.answer f) (eval.step_found K tree x1 x2 x3 x4) (eval.step_found L tree x1' x2 x3 (maps.scope f x4))
  unfolding eval.step_found
  at_step_found rec rec' good grow id None here = search (sims, evsims, keeps_things, base, under, law) depth 16
  at_step_found rec rec' good grow id (Some n) here = search (sims, evsims, sim_step, keeps_things, base, under, law) depth 16

  sim_step_found : (x1 : Evaluator N) (x1' : Evaluator M) → SameEvaluator f Fits x1 x1' → GoodEvaluator (Grows Fits) x1' → (x2 : ℕ) → (x3 : Option Node) → (x4 : Scope N) (x4' : Scope M) → x4' ≡ maps.scope f x4 → Sim f Fits (evals.answer f) (eval.step_found K tree x1 x2 x3 x4) (eval.step_found L tree x1' x2 x3 x4')
  sim_step_found x1 x1' h1 g1 x2 x3 x4 x4' e4 = rw (e4) (at_step_found x1 x1' h1 g1 x2 x3 x4)

  at_bind_found : (x1 : Evaluator N) (x1' : Evaluator M) → SameEvaluator f Fits x1 x1' → GoodEvaluator (Grows Fits) x1' → (x2 : Option Node) → (x3 : Value N) → (x4 : Value N) → (x5 : Scope N) → Sim f Fits (maps.scope f) (eval.bind_found K tree x1 x2 x3 x4 x5) (eval.bind_found L tree x1' x2 (maps.value f x3) (maps.value f x4) (maps.scope f x5))
  unfolding eval.bind_found
  at_bind_found rec rec' good grow None v j here = search (sims, evsims, keeps_things, base, under, law) depth 16
  at_bind_found rec rec' good grow (Some n) v j here = search (sims, evsims, sim_bind_step, keeps_things, base, under, law) depth 16

  sim_bind_found : (x1 : Evaluator N) (x1' : Evaluator M) → SameEvaluator f Fits x1 x1' → GoodEvaluator (Grows Fits) x1' → (x2 : Option Node) → (x3 : Value N) (x3' : Value M) → x3' ≡ maps.value f x3 → (x4 : Value N) (x4' : Value M) → x4' ≡ maps.value f x4 → (x5 : Scope N) (x5' : Scope M) → x5' ≡ maps.scope f x5 → Sim f Fits (maps.scope f) (eval.bind_found K tree x1 x2 x3 x4 x5) (eval.bind_found L tree x1' x2 x3' x4' x5')
  sim_bind_found x1 x1' h1 g1 x2 x3 x3' e3 x4 x4' e4 x5 x5' e5 = rw (e3, e4, e5) (at_bind_found x1 x1' h1 g1 x2 x3 x4 x5)

  -- ---- depth

  sim_deeper : (rec : Evaluator N) (rec' : Evaluator M) → SameEvaluator f Fits rec rec' → GoodEvaluator (Grows Fits) rec' → SameEvaluator f Fits (eval.deeper K tree rec) (eval.deeper L tree rec')
  unfolding eval.deeper
  sim_deeper rec rec' good grow = record {
    expression = λ id here here' e. rw e (bind_then f Fits (sim_spend f Fits 1) (at_step_found rec rec' good grow id (slice_get tree id) here) (grown.keeps_step_found L (Grows Fits) base under tree rec' grow id (slice_get tree id) (maps.scope f here)));
    pattern = λ id v v' j j' here here' e i k. rw (e, i, k) (bind_then f Fits (sim_spend f Fits 1) (at_bind_found rec rec' good grow (slice_get tree id) v j here) (grown.keeps_bind_found L (Grows Fits) base under tree rec' grow (slice_get tree id) (maps.value f v) (maps.value f j) (maps.scope f here)));
  }

  sim_evaluator : (d : ℕ) → SameEvaluator f Fits (eval.evaluator K tree d) (eval.evaluator L tree d)
  unfolding eval.evaluator
  sim_evaluator zero = record { expression = λ id here here' e. search sims; pattern = λ id v v' j j' here here' e i k. search sims }
  sim_evaluator (suc d) = sim_deeper (eval.evaluator K tree d) (eval.evaluator L tree d) (sim_evaluator d) (grown.good_evaluator L (Grows Fits) base under tree d)

  -- ---- turns

  sim_closes : (act : ℕ) (o : Option N) (m : Act N (Value N)) (m' : Act M (Value M)) → Sim f Fits (maps.value f) m m' → Sim f Fits id (eval.closes K tree act o m) (eval.closes L tree act (option_map f o) m')
  unfolding eval.closes
  sim_closes act o m m' h = search (sims, evsims, sim_resolve, sim_settle, keeps_things, base, under, law) depth 16

  sim_closes_root : (act : ℕ) (p : N) (m : Act N (Value N)) (m' : Act M (Value M)) → Sim f Fits (maps.value f) m m' → Sim f Fits id (eval.closes K tree act (Some p) m) (eval.closes L tree act (Some (f p)) m')
  sim_closes_root act p m m' h = sim_closes act (Some p) m m' h

  start_noun : (a : ℕ) (bs : List (Binding N)) → record { act = a; nouns = map (maps.binding f) bs } ≡ maps.scope f (record { act = a; nouns = bs })
  start_noun a bs = refl

  pub sim_opening : (depth : ℕ) (p : N) (bs : List (Binding N)) → Sim f Fits id (eval.opening K tree depth p bs) (eval.opening L tree depth (f p) (map (maps.binding f) bs))
  unfolding eval.opening
  sim_opening depth p bs = let good = sim_evaluator depth in let grow = grown.good_evaluator L (Grows Fits) base under tree depth in search (sims, evsims, sim_closes_root, good.expression, grow.expression, grown.keeps_closes, keeps_things, base, under) depth 16

  pub sim_taking : (depth : ℕ) (m : Message N) → Sim f Fits id (eval.taking K tree depth m) (eval.taking L tree depth (maps.message f m))
  unfolding eval.taking
  sim_taking depth m = let good = sim_evaluator depth in let grow = grown.good_evaluator L (Grows Fits) base under tree depth in search (sims, evsims, sim_closes, at_turn_value, grown.keeps_closes, grown.keeps_turn_value, keeps_things, base, under) depth 16
