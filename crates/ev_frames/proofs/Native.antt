-- Calls in which data and primitives call again.
use Rattle.std.proofs.Common.{◌≡◌, ℕ, Bool, zero, suc, ◌+◌, ◌-◌, ◌<◌, List, [], ◌∷◌, Some, None, Ok, Err, true, false, length, drop, pos, codes, refl, sym, ap, subst, ◌∙◌, arith, add-one, sub-one}
use Rattle.std.specs.Prelude.{Option, Result, map, slice_get}
use Rattle.ev_base.specs.declared.values.Value.{Value}
use Rattle.ev_base.specs.declared.values.Value.TheVariants as held
use Rattle.def_kernel.specs.declared.node.Node.{Node}
use Rattle.def_machine.specs.Values.{Words}
use Rattle.ev_prims.specs.declared.reply.Reply.{Reply}
use Rattle.ev_prims.specs.declared.reply.Reply.TheVariants as reply
use Rattle.ev_prims.specs.declared.order.Test.{Test}
use Rattle.ev_prims.specs.Answers.{data_answer, members_at}
use Rattle.ev_prims.specs.Orders.{compared_by}
use Rattle.ev_prims.specs.Ranges.{range_answer}
use Rattle.ev_prims.specs.Reading.{text_in, value_by}
use Rattle.def_machine.specs.Native.{value_order}
use Rattle.ev_room.specs.declared.exit.Exit.{Exit}
use Rattle.ev_room.specs.declared.exit.Exit.TheVariants.{Thrown, Astray, Fuel}
use Rattle.ev_room.specs.Sound.{bad_message_id}
use Rattle.ev_room.specs.Coercion.{null_or}
use Rattle.ev_room.specs.declared.exit.Came.TheVariants.{Gave}
use Rattle.ev_pass.specs.declared.interior.Interior.{Interior as Room}
use Rattle.ev_room.specs.declared.scope.Scope.{Scope}
use Rattle.ev_room.specs.Acts.{Out, and_then, ◌>>=◌, ◌>>◌, give, fail, closed_by, ended_by, call_there}
use Rattle.ev_refs.specs.Follow.{followed}
use Rattle.ev_steps.specs.declared.message.Request.{Request}
use Rattle.ev_steps.specs.Steps.{Caller, evaluator, again_by, call_at, call_value, called_with, iterate, turns, loop, after_turn, replied, compared, compared_at, compared_there, pair_there, answered, answered_there}
use Rattle.ev_steps.proofs.Depth as depth
use Rattle.ev_frames.specs.declared.frames.Frame.{Frame}
use Rattle.ev_frames.specs.declared.frames.Frame.TheVariants.{Guard as GuardOf}
use Rattle.ev_frames.specs.declared.frames.Guard.{Guard}
use Rattle.ev_frames.specs.declared.frames.Guard.TheVariants.{Close, Members, Turns}
use Rattle.ev_frames.specs.declared.now.Now.{Now}
use Rattle.ev_frames.specs.Rest.{Goes, rest, settled, valued, guarding, came_back}
use Rattle.ev_room.proofs.Places.{drop_none, drop_some}
use Rattle.ev_frames.proofs.Rests.{goes_as, guard_pushed}

pub valued_settled : (here : Scope) (o : Out Value) → valued (settled here o) ≡ o
unfolding and_then give
valued_settled here (Ok v, s) = refl
valued_settled here (Err e, s) = refl

-- a frame is pushed above something that gives a value in the scope
pub value_pushed : (tree : List Node) (d : ℕ) (g : Guard) (fs : List Frame) (here : Scope) (o : Out Value)
    → rest tree fs here (settled here (guarding tree (evaluator tree d) g here o)) ≡ rest tree (GuardOf d (length here.nouns) g ∷ fs) here (settled here o)
value_pushed tree d g fs here o =
    sym (guard_pushed tree d g fs here (settled here o)
    ∙ ap (λ (p : Out Value). rest tree fs here (settled here (guarding tree (evaluator tree d) g here p))) (valued_settled here o))

module _ (tree : List Node) (d : ℕ) (n : Option ℕ) (fs gs : List Frame) (here : Scope) (s : Room) where
  pub member_begins : (f v : Value) (k : ℕ) (vs : List Value) → slice_get vs k ≡ Some v → gs ≡ GuardOf d (length here.nouns) (Members n f vs (k + 1)) ∷ fs
      → rest tree fs here (settled here (iterate (again_by tree (evaluator tree d) n) here.act f k (drop k vs) s))
      ≡ rest tree gs here (settled here (again_by tree (evaluator tree d) n here.act f (codes "run") (held.Int (pos k) ∷ v ∷ []) s))
  unfolding iterate guarding ◌>>◌
  member_begins f v k vs at pushed =
      rw (pushed, drop_some vs k v at, add-one k)
      (value_pushed tree d (Members n f vs (suc k)) fs here (again_by tree (evaluator tree d) n here.act f (codes "run") (held.Int (pos k) ∷ v ∷ []) s))

  pub members_done : (f : Value) (k : ℕ) (vs : List Value) → slice_get vs k ≡ None
      → rest tree fs here (settled here (iterate (again_by tree (evaluator tree d) n) here.act f k (drop k vs) s)) ≡ rest tree fs here (Ok (held.Null, here), s)
  unfolding iterate and_then give
  members_done f k vs at = rw (drop_none vs k at) refl

  turns_is : (f : Value) (k : ℕ) → 0 < k
      → turns (again_by tree (evaluator tree d) n) here.act f k s ≡ guarding tree (evaluator tree d) (Turns n f (k - 1)) here (again_by tree (evaluator tree d) n here.act f (codes "run") [] s)
  unfolding turns guarding ◌>>=◌
  turns_is f zero h = absurd (omega arith)
  turns_is f (suc k) h = rw sub-one refl

  pub turn_begins : (f : Value) (k : ℕ) → 0 < k → gs ≡ GuardOf d (length here.nouns) (Turns n f (k - 1)) ∷ fs
      → rest tree fs here (settled here (turns (again_by tree (evaluator tree d) n) here.act f k s))
      ≡ rest tree gs here (settled here (again_by tree (evaluator tree d) n here.act f (codes "run") [] s))
  turn_begins f k h pushed =
      rw pushed (ap (λ (o : Out Value). rest tree fs here (settled here o)) (turns_is f k h)
      ∙ value_pushed tree d (Turns n f (k - 1)) fs here (again_by tree (evaluator tree d) n here.act f (codes "run") [] s))

  pub turns_none : (f : Value) (k : ℕ) → k ≡ 0 → rest tree fs here (settled here (turns (again_by tree (evaluator tree d) n) here.act f k s)) ≡ rest tree fs here (Err Fuel, s)
  unfolding turns and_then fail
  turns_none f k e = rw e refl

  -- what is iterated by data closes its call behind all members
  pub iterates : (f : Value) (vs : List Value) (hs : List Frame) (r : Result Now Exit) (a : Scope) (u : Room) → gs ≡ GuardOf d (length here.nouns) Close ∷ fs
      → Goes tree r hs a u (rest tree gs here (settled here (iterate (again_by tree (evaluator tree d) n) here.act f 0 (drop 0 vs) s)))
      → Goes tree r hs a u (rest tree fs here (settled here (closed_by here.act (replied (again_by tree (evaluator tree d) n) here.act (reply.Iterates f vs) s))))
  unfolding guarding replied
  iterates f vs hs r a u pushed g =
      goes_as tree r hs a u (rest tree gs here (settled here (iterate (again_by tree (evaluator tree d) n) here.act f 0 (drop 0 vs) s))) _
      (rw pushed (value_pushed tree d Close fs here (iterate (again_by tree (evaluator tree d) n) here.act f 0 vs s))) g

module _ (tree : List Node) (d n : ℕ) (fs gs : List Frame) (here : Scope) (s : Room) where
  pub call_deep : (act : ℕ) (x : Value) (verb : Words) (args : List Value) → n ≡ 0
      → rest tree fs here (settled here (call_at tree (evaluator tree d) n act x verb args s)) ≡ rest tree fs here (Err Astray, s)
  unfolding and_then
  call_deep act x verb args e = rw (depth.call_deep tree (evaluator tree d) n act x verb args s e) refl

  pub call_goes : (act : ℕ) (x y : Value) (verb : Words) (args : List Value) (r : Result Now Exit) (a : Scope) (u : Room) → 0 < n → y ≡ followed s.refs x
      → Goes tree r gs a u (rest tree fs here (settled here (call_value tree (evaluator tree d) (again_by tree (evaluator tree d) (Some (n - 1))) act x y verb args s)))
      → Goes tree r gs a u (rest tree fs here (settled here (call_at tree (evaluator tree d) n act x verb args s)))
  unfolding again_by
  call_goes act x y verb args r a u h e g =
      goes_as tree r gs a u (rest tree fs here (settled here (call_value tree (evaluator tree d) (call_at tree (evaluator tree d) (n - 1)) act x y verb args s))) _
      (ap (λ (o : Out Value). rest tree fs here (settled here o)) (depth.call_goes tree (evaluator tree d) n act x verb args s h
      ∙ ap (λ (z : Value). call_value tree (evaluator tree d) (call_at tree (evaluator tree d) (n - 1)) act x z verb args s) (sym e))) g

pub loops : (tree : List Node) (again : Caller) (fs gs : List Frame) (here : Scope) (s : Room) (f : Value) (k : ℕ) (r : Result Now Exit) (a : Scope) (u : Room) → k ≡ s.micro.fuel + 1
    → Goes tree r gs a u (rest tree fs here (settled here (turns again here.act f k s)))
    → Goes tree r gs a u (rest tree fs here (settled here (loop again here.act f s)))
unfolding loop
loops tree again fs gs here s f k r a u e g = rw e at g

module _ (tree : List Node) (again : Caller) (fs gs : List Frame) (here : Scope) (s : Room) (r : Result Now Exit) (a : Scope) (u : Room) where
  pub calls_with : (x : Value) (q : Request) (args : List Value) (m : Option Request) → m ≡ Some q → args ≡ q.args
      → Goes tree r gs a u (rest tree fs here (settled here (again here.act x q.verb args s)))
      → Goes tree r gs a u (rest tree fs here (settled here (called_with again here.act x m s)))
  unfolding called_with
  calls_with x q args m e is g = goes_as tree r gs a u (rest tree fs here (settled here (again here.act x q.verb args s))) _ (rw (e, is) refl) g

pub calls_bad : (tree : List Node) (again : Caller) (fs : List Frame) (here : Scope) (s : Room) (x : Value) (m : Option Request) → m ≡ None
    → rest tree fs here (settled here (called_with again here.act x m s)) ≡ rest tree fs here (Err (Thrown bad_message_id), s)
unfolding called_with and_then fail
calls_bad tree again fs here s x m e = rw e refl

-- ---- comparisons

compared_is : (again : Caller) (act : ℕ) (t : Test) (x y : Value) (s : Room) (said : Reply) → pair_there s.heap x y ≡ true
    → said ≡ compared_by t (value_order (value_by (text_in s.heap) x) (value_by (text_in s.heap) y)) → compared_at again act t x y s ≡ replied again act said s
unfolding compared_at compared_there
compared_is again act t x y s said h e = rw (h, e) refl

pub compares : (tree : List Node) (again : Caller) (fs gs : List Frame) (here : Scope) (s : Room) (t : Test) (x y : Value) (said : Reply) (r : Result Now Exit) (a : Scope) (u : Room) → pair_there s.heap x y ≡ true
    → said ≡ compared_by t (value_order (value_by (text_in s.heap) x) (value_by (text_in s.heap) y))
    → Goes tree r gs a u (rest tree fs here (settled here (replied again here.act said s)))
    → Goes tree r gs a u (rest tree fs here (settled here (compared_at again here.act t x y s)))
compares tree again fs gs here s t x y said r a u h e g =
    goes_as tree r gs a u (rest tree fs here (settled here (replied again here.act said s))) _ (ap (λ (o : Out Value). rest tree fs here (settled here o)) (compared_is again here.act t x y s said h e)) g

pub compares_not : (tree : List Node) (again : Caller) (fs : List Frame) (here : Scope) (s : Room) (t : Test) (x y : Value) → pair_there s.heap x y ≡ false
    → rest tree fs here (settled here (compared_at again here.act t x y s)) ≡ rest tree fs here (Err Astray, s)
unfolding compared_at compared_there and_then fail
compares_not tree again fs here s t x y h = rw h refl

module _ (tree : List Node) (again : Caller) (fs gs : List Frame) (here : Scope) (s : Room) (r : Result Now Exit) (a : Scope) (u : Room) where
  pub compares_held : (t : Test) (x y p q : Value) → p ≡ followed s.refs x → q ≡ followed s.refs y
      → Goes tree r gs a u (rest tree fs here (settled here (compared_at again here.act t p q s)))
      → Goes tree r gs a u (rest tree fs here (settled here (compared again here.act t x y s)))
  unfolding compared
  compares_held t x y p q i j g = goes_as tree r gs a u (rest tree fs here (settled here (compared_at again here.act t p q s))) _ (rw (i, j) refl) g

  -- ---- replies

  pub ranges : (last : Bool) (x y p q : Value) (said : Reply) → p ≡ followed s.refs x → q ≡ followed s.refs y → said ≡ range_answer last p q
      → Goes tree r gs a u (rest tree fs here (settled here (replied again here.act said s)))
      → Goes tree r gs a u (rest tree fs here (settled here (replied again here.act (range_answer last (followed s.refs x) (followed s.refs y)) s)))
  ranges last x y p q said i j e g = goes_as tree r gs a u (rest tree fs here (settled here (replied again here.act said s))) _ (rw (e, i, j) refl) g

  pub adds_null : (x y : Value) (said : Reply) → y ≡ followed s.refs x → said ≡ null_or y
      → Goes tree r gs a u (rest tree fs here (settled here (replied again here.act said s)))
      → Goes tree r gs a u (rest tree fs here (settled here (replied again here.act (null_or (followed s.refs x)) s)))
  adds_null x y said i e g = goes_as tree r gs a u (rest tree fs here (settled here (replied again here.act said s))) _ (rw (e, i) refl) g

  pub turn_goes : (f : Value) (k : ℕ) (v w : Value) → w ≡ followed s.refs v
      → Goes tree r gs a u (rest tree fs here (settled here (after_turn (turns again here.act f k) w s)))
      → Goes tree r gs a u (rest tree fs here (settled here (and_then (came_back (Gave v), s) (λ x t. after_turn (turns again here.act f k) (followed t.refs x) t))))
  unfolding came_back and_then
  turn_goes f k v w e g = goes_as tree r gs a u (rest tree fs here (settled here (after_turn (turns again here.act f k) w s))) _ (rw e refl) g

-- ---- data

pub answers : (x : Value) (verb : Words) (args near : List Value) (s : Room) (said : Reply) → near ≡ map (followed s.refs) args → call_there s.heap x near ≡ true
    → said ≡ data_answer (text_in s.heap) (members_at s.heap) x verb args near → (again : Caller) (act : ℕ) → answered again act x verb args s ≡ replied again act said s
unfolding answered answered_there
answers x verb args near s said i h e again act =
    let there : call_there s.heap x (map (followed s.refs) args) ≡ true = subst (λ (ns : List Value). call_there s.heap x ns ≡ true) i h in
    rw (there, e, i) refl

pub answers_not : (x : Value) (verb : Words) (args near : List Value) (s : Room) → near ≡ map (followed s.refs) args → call_there s.heap x near ≡ false
    → (again : Caller) (act : ℕ) → answered again act x verb args s ≡ (Err Astray, s)
unfolding answered answered_there fail
answers_not x verb args near s i h again act =
    let there : call_there s.heap x (map (followed s.refs) args) ≡ false = subst (λ (ns : List Value). call_there s.heap x ns ≡ false) i h in
    rw there refl

module _ (tree : List Node) (again : Caller) (fs gs : List Frame) (here : Scope) (s : Room) (x : Value) (verb : Words) (args : List Value) where
  pub says : (said : Reply) (r : Result Now Exit) (a : Scope) (u : Room) → ((b : Caller) (act : ℕ) → answered b act x verb args s ≡ replied b act said s)
      → Goes tree r gs a u (rest tree fs here (settled here (replied again here.act said s)))
      → Goes tree r gs a u (rest tree fs here (settled here (answered again here.act x verb args s)))
  says said r a u h g = goes_as tree r gs a u (rest tree fs here (settled here (replied again here.act said s))) _ (ap (λ (o : Out Value). rest tree fs here (settled here o)) (h again here.act)) g

  pub says_not : ((b : Caller) (act : ℕ) → answered b act x verb args s ≡ (Err Astray, s)) → rest tree fs here (settled here (answered again here.act x verb args s)) ≡ rest tree fs here (Err Astray, s)
  unfolding and_then
  says_not h = rw (h again here.act) refl

  pub closes : (said : Reply) (r : Result Now Exit) (a : Scope) (u : Room) → ((b : Caller) (act : ℕ) → answered b act x verb args s ≡ replied b act said s)
      → Goes tree r gs a u (rest tree fs here (settled here (closed_by here.act (replied again here.act said s))))
      → Goes tree r gs a u (rest tree fs here (settled here (closed_by here.act (answered again here.act x verb args s))))
  closes said r a u h g =
      goes_as tree r gs a u (rest tree fs here (settled here (closed_by here.act (replied again here.act said s)))) _ (ap (λ (o : Out Value). rest tree fs here (settled here (closed_by here.act o))) (h again here.act)) g

  pub closes_not : ((b : Caller) (act : ℕ) → answered b act x verb args s ≡ (Err Astray, s)) → rest tree fs here (settled here (closed_by here.act (answered again here.act x verb args s))) ≡ rest tree fs here (Err Astray, s)
  unfolding closed_by ended_by and_then
  closes_not h = rw (h again here.act) refl
