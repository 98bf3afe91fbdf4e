-- Two namings: what guards, data and primitives do.
use Rattle.std.proofs.Common.{◌≡◌, ℕ, zero, suc, Bool, true, false, List, [], ◌∷◌, Option, Some, None, refl, ap, length, map, ◌==◌, ◌+◌, ◌-◌, if◌then◌else◌}
use Rattle.std.specs.Prelude.{slice_get, option_map, nat_le}
use Rattle.def_machine.specs.Values.{Words, Value, Flag, Text, Prim, Items, Ref, Naming}
use Rattle.def_machine.specs.State.{Bound, Fixed, Slot, Binding, Scope, Cell, FreeName, Thing, Vat, Done, Gives, Throws, Ejects, Stops, Act, ◌>>=◌, ◌>>◌, end_by, ending, for_some, spend, ObjectMade}
use Rattle.def_machine.specs.Native as native
use Rattle.def_machine.specs.Native.{list_at, Reply, Writes, Guard, RefTest, Asked, MakesList}
use Rattle.def_machine.specs.Refs as refs
use Rattle.def_machine.specs.Refs.{Place, Near, has_room}
use Rattle.def_machine.specs.Scopes as scopes
use Rattle.def_machine.specs.Perform as perform
use Rattle.def_machine.specs.Calls as calls
use Rattle.def_machine.specs.Scopes.{Answer, Answers, Evaluator, Caller}
use Rattle.def_kernel.specs.declared.node.Node.{Node}
use Rattle.def_machine.specs.Maps as maps
use Rattle.law_machine.specs.Renamed.EvalMaps as evals
use Rattle.law_machine.specs.Machine.Steps.{After}
use Rattle.law_machine.proofs.Machine.Keeps.{Keeps, IsKept, IsKeptUnder}
use Rattle.law_machine.proofs.Machine.EvalKeeps as grown
use Rattle.law_machine.proofs.Machine.EvalKeeps.{GoodCaller, keeps_eval}
use Rattle.law_machine.proofs.Renamed.Sim.{Books, books, Renames, Sim, FitsAfter, Grows, grows, grows_under, id, sims, sim_bind, sim_some, sim_spend, sim_if, length_map, map_get}
use Rattle.law_machine.proofs.Renamed.SimRefs.{same_follow, same_place, same_place_of, same_standing, sim_settle as settle_same, sim_resolve as resolve_same, sim_send as send_same, sim_send_only as send_only_same, sim_react as react_same, list_at_map, room_map, behind_map}
use Rattle.law_machine.proofs.Renamed.NativeMaps.{data_map, safe_map, range_map, order_map, compared_map, null_reply_map}
use Rattle.law_machine.proofs.Renamed.EvalPure.{with_noun_map, free_names_map, guard_asked_map, is_null_map, is_true_map, with_item_map, with_stamp_map, stamped_map, taken_map, same_reply_map, broken_text_map, thrown_text_map, test_map}

-- what follows an end
module _ {N M : Type 0} (f : N → M) (Fits : Books M → Type 0) where
  end_fits : {B D : Type 0} (e : Done M B) (F : B → Act M D) (G : Words → Act M D) (H : ℕ → Value M → Act M D) → ((b : B) → Keeps (Grows Fits) (F b)) → ((p : Words) → Keeps (Grows Fits) (G p)) → ((n : ℕ) (v : Value M) → Keeps (Grows Fits) (H n v))
      → FitsAfter Fits (end_by F G H e) → FitsAfter Fits e
  unfolding end_by Grows
  end_fits {D = D} (Gives b t) F G H i j k h = go (F b t) ((i b).after t) h
    where
      go : (d : Done M D) → After (Grows Fits) t d → FitsAfter Fits d → Fits (books t)
      go (Gives b u) a h = a h
      go (Throws p u) a h = a h
      go (Ejects n v u) a h = a h
      go (Stops c u) a h = a h
  end_fits {D = D} (Throws p t) F G H i j k h = go (G p t) ((j p).after t) h
    where
      go : (d : Done M D) → After (Grows Fits) t d → FitsAfter Fits d → Fits (books t)
      go (Gives b u) a h = a h
      go (Throws p u) a h = a h
      go (Ejects n v u) a h = a h
      go (Stops c u) a h = a h
  end_fits {D = D} (Ejects n v t) F G H i j k h = go (H n v t) ((k n v).after t) h
    where
      go : (d : Done M D) → After (Grows Fits) t d → FitsAfter Fits d → Fits (books t)
      go (Gives b u) a h = a h
      go (Throws p u) a h = a h
      go (Ejects n v u) a h = a h
      go (Stops c u) a h = a h
  end_fits (Stops c t) F G H i j k h = h

  end_done : {A B C D : Type 0} (g : A → B) (l : C → D) (d : Done N A) (F : A → Act N C) (G : Words → Act N C) (H : ℕ → Value N → Act N C) (F' : B → Act M D) (G' : Words → Act M D) (H' : ℕ → Value M → Act M D)
      → ((a : A) → Sim f Fits l (F a) (F' (g a))) → ((p : Words) → Sim f Fits l (G p) (G' p)) → ((n : ℕ) (v : Value N) → Sim f Fits l (H n v) (H' n (maps.value f v)))
      → FitsAfter Fits (end_by F' G' H' (maps.done f g d)) → end_by F' G' H' (maps.done f g d) ≡ maps.done f l (end_by F G H d)
  unfolding end_by
  end_done g l (Gives a s) F G H F' G' H' i j k h = (i a).at s h
  end_done g l (Throws p s) F G H F' G' H' i j k h = (j p).at s h
  end_done g l (Ejects n v s) F G H F' G' H' i j k h = (k n v).at s h
  end_done g l (Stops c s) F G H F' G' H' i j k h = refl

  pub sim_ending : {A B C D : Type 0} (g : A → B) {l : C → D} {m : Act N A} {n : Act M B} {F : A → Act N C} {G : Words → Act N C} {H : ℕ → Value N → Act N C} {F' : B → Act M D} {G' : Words → Act M D} {H' : ℕ → Value M → Act M D}
      → Sim f Fits g m n → ((a : A) → Sim f Fits l (F a) (F' (g a))) → ((p : Words) → Sim f Fits l (G p) (G' p)) → ((n : ℕ) (v : Value N) → Sim f Fits l (H n v) (H' n (maps.value f v)))
      → ((b : B) → Keeps (Grows Fits) (F' b)) → ((p : Words) → Keeps (Grows Fits) (G' p)) → ((n : ℕ) (v : Value M) → Keeps (Grows Fits) (H' n v)) → Sim f Fits l (ending F G H m) (ending F' G' H' n)
  unfolding ending
  sim_ending g {l = l} {m = m} {n = n} {F = F} {G = G} {H = H} {F' = F'} {G' = G'} {H' = H'} p i j k a b c = record {
    at = λ s h.
        let x : n (maps.vat f s) ≡ maps.done f g (m s) = p.at s (end_fits (n (maps.vat f s)) F' G' H' a b c h) in
        let y : FitsAfter Fits (end_by F' G' H' (maps.done f g (m s))) = rw x at h in
        rw x (end_done g l (m s) F G H F' G' H' i j k y);
  }

module _ {N M : Type 0} (f : N → M) (Fits : Books M → Type 0) {C D : Type 0} {l : C → D} where
  pub bind_answer : {m : Act N (Answer N)} {n : Act M (Answer M)} (k : Answer N → Act N C) (k' : Answer M → Act M D) → Sim f Fits (evals.answer f) m n → ((a : Answer N) → Sim f Fits l (k a) (k' ((evals.answer f) a))) → ((b : Answer M) → Keeps (Grows Fits) (k' b)) → Sim f Fits l (m >>= k) (n >>= k')
  bind_answer k k' p q w = sim_bind f Fits (evals.answer f) k k' p q w

  pub bind_answers : {m : Act N (Answers N)} {n : Act M (Answers M)} (k : Answers N → Act N C) (k' : Answers M → Act M D) → Sim f Fits (evals.answers f) m n → ((a : Answers N) → Sim f Fits l (k a) (k' ((evals.answers f) a))) → ((b : Answers M) → Keeps (Grows Fits) (k' b)) → Sim f Fits l (m >>= k) (n >>= k')
  bind_answers k k' p q w = sim_bind f Fits (evals.answers f) k k' p q w

  pub bind_scope : {m : Act N (Scope N)} {n : Act M (Scope M)} (k : Scope N → Act N C) (k' : Scope M → Act M D) → Sim f Fits (maps.scope f) m n → ((a : Scope N) → Sim f Fits l (k a) (k' ((maps.scope f) a))) → ((b : Scope M) → Keeps (Grows Fits) (k' b)) → Sim f Fits l (m >>= k) (n >>= k')
  bind_scope k k' p q w = sim_bind f Fits (maps.scope f) k k' p q w

  pub bind_thing : {m : Act N (Option (Thing N))} {n : Act M (Option (Thing M))} (k : Option (Thing N) → Act N C) (k' : Option (Thing M) → Act M D) → Sim f Fits (option_map (maps.thing f)) m n → ((a : Option (Thing N)) → Sim f Fits l (k a) (k' ((option_map (maps.thing f)) a))) → ((b : Option (Thing M)) → Keeps (Grows Fits) (k' b)) → Sim f Fits l (m >>= k) (n >>= k')
  bind_thing k k' p q w = sim_bind f Fits (option_map (maps.thing f)) k k' p q w

  pub bind_cell : {m : Act N (Option (Cell N))} {n : Act M (Option (Cell M))} (k : Option (Cell N) → Act N C) (k' : Option (Cell M) → Act M D) → Sim f Fits (option_map (maps.cell f)) m n → ((a : Option (Cell N)) → Sim f Fits l (k a) (k' ((option_map (maps.cell f)) a))) → ((b : Option (Cell M)) → Keeps (Grows Fits) (k' b)) → Sim f Fits l (m >>= k) (n >>= k')
  bind_cell k k' p q w = sim_bind f Fits (option_map (maps.cell f)) k k' p q w

  pub bind_bound : {m : Act N (Bound N)} {n : Act M (Bound M)} (k : Bound N → Act N C) (k' : Bound M → Act M D) → Sim f Fits (maps.bound f) m n → ((a : Bound N) → Sim f Fits l (k a) (k' ((maps.bound f) a))) → ((b : Bound M) → Keeps (Grows Fits) (k' b)) → Sim f Fits l (m >>= k) (n >>= k')
  bind_bound k k' p q w = sim_bind f Fits (maps.bound f) k k' p q w

  pub bind_reply : {m : Act N (Reply N)} {n : Act M (Reply M)} (k : Reply N → Act N C) (k' : Reply M → Act M D) → Sim f Fits (evals.reply f) m n → ((a : Reply N) → Sim f Fits l (k a) (k' ((evals.reply f) a))) → ((b : Reply M) → Keeps (Grows Fits) (k' b)) → Sim f Fits l (m >>= k) (n >>= k')
  bind_reply k k' p q w = sim_bind f Fits (evals.reply f) k k' p q w

  pub bind_taken : {m : Act N (Option (Value N))} {n : Act M (Option (Value M))} (k : Option (Value N) → Act N C) (k' : Option (Value M) → Act M D) → Sim f Fits (option_map (maps.value f)) m n → ((a : Option (Value N)) → Sim f Fits l (k a) (k' ((option_map (maps.value f)) a))) → ((b : Option (Value M)) → Keeps (Grows Fits) (k' b)) → Sim f Fits l (m >>= k) (n >>= k')
  bind_taken k k' p q w = sim_bind f Fits (option_map (maps.value f)) k k' p q w

  pub end_value : {m : Act N (Value N)} {n : Act M (Value M)} {F : Value N → Act N C} {G : Words → Act N C} {H : ℕ → Value N → Act N C} {F' : Value M → Act M D} {G' : Words → Act M D} {H' : ℕ → Value M → Act M D} → Sim f Fits (maps.value f) m n → ((a : Value N) → Sim f Fits l (F a) (F' ((maps.value f) a))) → ((p : Words) → Sim f Fits l (G p) (G' p)) → ((n : ℕ) (v : Value N) → Sim f Fits l (H n v) (H' n (maps.value f v))) → ((b : Value M) → Keeps (Grows Fits) (F' b)) → ((p : Words) → Keeps (Grows Fits) (G' p)) → ((n : ℕ) (v : Value M) → Keeps (Grows Fits) (H' n v)) → Sim f Fits l (ending F G H m) (ending F' G' H' n)
  end_value p i j k a b c = sim_ending f Fits (maps.value f) p i j k a b c

  pub end_answer : {m : Act N (Answer N)} {n : Act M (Answer M)} {F : Answer N → Act N C} {G : Words → Act N C} {H : ℕ → Value N → Act N C} {F' : Answer M → Act M D} {G' : Words → Act M D} {H' : ℕ → Value M → Act M D} → Sim f Fits (evals.answer f) m n → ((a : Answer N) → Sim f Fits l (F a) (F' ((evals.answer f) a))) → ((p : Words) → Sim f Fits l (G p) (G' p)) → ((n : ℕ) (v : Value N) → Sim f Fits l (H n v) (H' n (maps.value f v))) → ((b : Answer M) → Keeps (Grows Fits) (F' b)) → ((p : Words) → Keeps (Grows Fits) (G' p)) → ((n : ℕ) (v : Value M) → Keeps (Grows Fits) (H' n v)) → Sim f Fits l (ending F G H m) (ending F' G' H' n)
  end_answer p i j k a b c = sim_ending f Fits (evals.answer f) p i j k a b c

  pub end_scope : {m : Act N (Scope N)} {n : Act M (Scope M)} {F : Scope N → Act N C} {G : Words → Act N C} {H : ℕ → Value N → Act N C} {F' : Scope M → Act M D} {G' : Words → Act M D} {H' : ℕ → Value M → Act M D} → Sim f Fits (maps.scope f) m n → ((a : Scope N) → Sim f Fits l (F a) (F' ((maps.scope f) a))) → ((p : Words) → Sim f Fits l (G p) (G' p)) → ((n : ℕ) (v : Value N) → Sim f Fits l (H n v) (H' n (maps.value f v))) → ((b : Scope M) → Keeps (Grows Fits) (F' b)) → ((p : Words) → Keeps (Grows Fits) (G' p)) → ((n : ℕ) (v : Value M) → Keeps (Grows Fits) (H' n v)) → Sim f Fits l (ending F G H m) (ending F' G' H' n)
  end_scope p i j k a b c = sim_ending f Fits (maps.scope f) p i j k a b c

  pub some_value : (o : Option (Value N)) (o' : Option (Value M)) (k : Value N → Act N C) (k' : Value M → Act M D) {m : Act N C} {n : Act M D} → o' ≡ option_map (maps.value f) o → ((a : Value N) → Sim f Fits l (k a) (k' (maps.value f a))) → Sim f Fits l m n → Sim f Fits l (for_some o k m) (for_some o' k' n)
  some_value o o' k k' e p q = sim_some f Fits (maps.value f) o o' k k' e p q

  bind_value_at : (m : Act N (Value N)) (n : Act M (Value M)) (k : Act N C) (k' : Act M D) → Sim f Fits (maps.value f) m n → Sim f Fits l k k' → Keeps (Grows Fits) k' → Sim f Fits l (m >>= (λ _. k)) (n >>= (λ _. k'))
  bind_value_at m n k k' p q w = sim_bind f Fits (maps.value f) (λ _. k) (λ _. k') p (λ _. q) (λ _. w)

  bind_answer_at : (m : Act N (Answer N)) (n : Act M (Answer M)) (k : Act N C) (k' : Act M D) → Sim f Fits (evals.answer f) m n → Sim f Fits l k k' → Keeps (Grows Fits) k' → Sim f Fits l (m >>= (λ _. k)) (n >>= (λ _. k'))
  bind_answer_at m n k k' p q w = sim_bind f Fits (evals.answer f) (λ _. k) (λ _. k') p (λ _. q) (λ _. w)

  pub then_value : {m : Act N (Value N)} {n : Act M (Value M)} {k : Act N C} {k' : Act M D} → Sim f Fits (maps.value f) m n → Sim f Fits l k k' → Keeps (Grows Fits) k' → Sim f Fits l (m >> k) (n >> k')
  unfolding ◌>>◌
  then_value {m = m} {n = n} {k = k} {k' = k'} p q w = unfold ◌>>=◌ in bind_value_at m n k k' p q w

  pub then_answer : {m : Act N (Answer N)} {n : Act M (Answer M)} {k : Act N C} {k' : Act M D} → Sim f Fits (evals.answer f) m n → Sim f Fits l k k' → Keeps (Grows Fits) k' → Sim f Fits l (m >> k) (n >> k')
  unfolding ◌>>◌
  then_answer {m = m} {n = n} {k = k} {k' = k'} p q w = unfold ◌>>=◌ in bind_answer_at m n k k' p q w

pub ruleset evsims = (then_value, then_answer, bind_answer, bind_answers, bind_scope, bind_thing, bind_cell, bind_bound, bind_reply, bind_taken, end_value, end_answer, end_scope, some_value)

-- the two callers do the same
abbrev pub SameCaller : {N M : Type 0} → (N → M) → (Books M → Type 0) → Caller N → Caller M → Type 0
SameCaller {N} {M} f Fits again again' = (act : ℕ) (x : Value N) (x' : Value M) (verb : Words) (args : List (Value N)) (args' : List (Value M)) → x' ≡ maps.value f x → args' ≡ map (maps.value f) args → Sim f Fits (maps.value f) (again act x verb args) (again' act x' verb args')

pub record SameEvaluator {N M : Type 0} (f : N → M) (Fits : Books M → Type 0) (rec : Evaluator N) (rec' : Evaluator M) : Type 0 where
  pub expression : (id : ℕ) (here : Scope N) (here' : Scope M) → here' ≡ maps.scope f here → Sim f Fits (evals.answer f) (rec.expression id here) (rec'.expression id here')
  pub pattern : (id : ℕ) (v : Value N) (v' : Value M) (j : Value N) (j' : Value M) (here : Scope N) (here' : Scope M) → v' ≡ maps.value f v → j' ≡ maps.value f j → here' ≡ maps.scope f here → Sim f Fits (maps.scope f) (rec.pattern id v j here) (rec'.pattern id v' j' here')

module _ {N M W V : Type 0} (f : N → M) (w : W → V) (K : Naming N W) (L : Naming M V) (Fits : Books M → Type 0) (law : Renames f w K L Fits) (tree : List Node) where
  pub base : IsKept (Grows Fits)
  base = grows Fits

  pub under : IsKeptUnder L (Grows Fits)
  under = grows_under L Fits law.before

  -- ---- what is looked at

  pub follows : (x : Value N) (x' : Value M) → x' ≡ maps.value f x → (s : Vat N) → refs.follow L (maps.vat f s) x' ≡ maps.value f (refs.follow K s x)
  follows x x' e s = same_follow f w K L Fits law x x' e s

  follow_all : (s : Vat N) (xs : List (Value N)) → map (refs.follow L (maps.vat f s)) (map (maps.value f) xs) ≡ map (maps.value f) (map (refs.follow K s) xs)
  follow_all s [] = refl
  follow_all s (x ∷ xs) = rw (follows x (maps.value f x) refl s, follow_all s xs) refl

  places : (y : Value N) (s : Vat N) → refs.place L (maps.vat f s) (maps.value f y) ≡ maps.place f (refs.place K s y)
  places y s = same_place f w K L Fits law y s

  null_follow : (j : Value N) (s : Vat N) → scopes.is_null (refs.follow L (maps.vat f s) (maps.value f j)) ≡ scopes.is_null (refs.follow K s j)
  null_follow j s = rw (follows j (maps.value f j) refl s) (is_null_map f (refs.follow K s j))

  pub true_follow : (j : Value N) (s : Vat N) → scopes.is_true (refs.follow L (maps.vat f s) (maps.value f j)) ≡ scopes.is_true (refs.follow K s j)
  true_follow j s = rw (follows j (maps.value f j) refl s) (is_true_map f (refs.follow K s j))

  taken_follow : (g : Guard) (x : Value N) (s : Vat N) → perform.taken L tree (maps.vat f s) g (maps.value f x) (refs.follow L (maps.vat f s) (maps.value f x)) ≡ option_map (maps.value f) (perform.taken K tree s g x (refs.follow K s x))
  taken_follow g x s = rw (follows x (maps.value f x) refl s) (taken_map f w K L Fits law tree s g x (refs.follow K s x))

  pub ref_place : (n : N) (s : Vat N) → refs.place L (maps.vat f s) (Ref (f n)) ≡ maps.place f (refs.place K s (Ref n))
  ref_place n s = places (Ref n) s

  spend_at : (n n' : ℕ) → n' ≡ n → Sim f Fits id (spend n) (spend n')
  spend_at n n' e = rw e (sim_spend f Fits n)

  pub if_at : {C D : Type 0} {l : C → D} (b b' : Bool) {m k : Act N C} {n k' : Act M D} → b' ≡ b → Sim f Fits l m n → Sim f Fits l k k' → Sim f Fits l (if b then m else k) (if b' then n else k')
  if_at b b' e p q = rw e (sim_if f Fits b p q)

  le_same : (xs : List (Value N)) (n : ℕ) → nat_le (length (map (maps.value f) xs)) n ≡ nat_le (length xs) n
  le_same xs n = rw (length_map (maps.value f) xs) refl

  pub eq_same : (xs : List (Value N)) (n : ℕ) → (length (map (maps.value f) xs) == n) ≡ (length xs == n)
  eq_same xs n = rw (length_map (maps.value f) xs) refl

  pub object_refs : (i : ℕ) → Ref (L.object i) ≡ Ref (f (K.object i))
  object_refs i = ap Ref (law.object i)

  bounds_of : (bs : List (Binding N)) → map (λ b. b.bound) (map (maps.binding f) bs) ≡ map (maps.bound f) (map (λ b. b.bound) bs)
  bounds_of [] = refl
  bounds_of (b ∷ bs) = ap (λ zs. maps.bound f b.bound ∷ zs) (bounds_of bs)

  pub made_line : (act : ℕ) (me : N) (x : Words) (bs : List (Binding N)) (stamps : List (Value N)) → ObjectMade act (f me) x (map (λ b. b.bound) (map (maps.binding f) bs)) (map (maps.value f) stamps) ≡ maps.line f (ObjectMade act me x (map (λ b. b.bound) bs) stamps)
  made_line act me x bs stamps = ap (λ zs. ObjectMade act (f me) x zs (map (maps.value f) stamps)) (bounds_of bs)

  pub view_same : (node : ℕ) (p : Option Node) (free : List Words) (here : Scope N) → calls.view_of L tree node p free (maps.scope f here) ≡ maps.view f (calls.view_of K tree node p free here)
  unfolding calls.view_of
  view_same node p free here = ap (λ xs. record { node = node; free = xs }) (free_names_map f (scopes.own_noun p) here.nouns free)

  pub fixed_noun : (x : Words) (v g : Value N) (here : Scope N) → scopes.with_noun x (Fixed (maps.value f v) (maps.value f g)) (maps.scope f here) ≡ maps.scope f (scopes.with_noun x (Fixed v g) here)
  fixed_noun x v g here = with_noun_map f x (Fixed v g) here

  pub slot_noun : (x : Words) (k : ℕ) (here : Scope N) → scopes.with_noun x (Slot k) (maps.scope f here) ≡ maps.scope f (scopes.with_noun x (Slot k) here)
  slot_noun x k here = with_noun_map f x (Slot k) here

  pub items_map : (v : Value N) (fs : List (List (Value N))) → calls.with_item L tree (maps.value f v) (map (map (maps.value f)) fs) ≡ map (map (maps.value f)) (calls.with_item K tree v fs)
  items_map v fs = with_item_map f w K L Fits law tree v fs

  pub stamped_all : (b : Bool) (y : Value N) (ys : List (Value N)) → calls.with_stamp L tree b (maps.value f y) (map (maps.value f) ys) ≡ map (maps.value f) (calls.with_stamp K tree b y ys)
  stamped_all b y ys = with_stamp_map f w K L Fits law tree b y ys

  pub standings : (p : N) (s : Vat N) → refs.standing_of L (map (maps.known f) s.known) (f p) ≡ maps.standing f (refs.standing_of K s.known p)
  standings p s = same_standing f w K L Fits law p s

  fit_list : (vs : List (Value N)) (s : Vat N) → refs.list_fits (map (map (maps.value f)) s.lists) (map (maps.value f) vs) ≡ refs.list_fits s.lists vs
  unfolding refs.list_fits
  fit_list vs s = ap has_room (behind_map f (λ u left. refs.room_after (λ v. v) s.lists (refs.highest - 1) u left) (λ u left. refs.room_after (λ v. v) (map (map (maps.value f)) s.lists) (refs.highest - 1) u left) (λ u left. room_map f (λ v. v) (λ v. v) (λ v. refl) s.lists (refs.highest - 1) u left) vs (refs.most - 1))

  replies : (y : Value N) (verb : Words) (args : List (Value N)) (s : Vat N) → native.data_reply (map (map (maps.value f)) s.lists) (maps.value f y) verb (map (maps.value f) args) (map (refs.follow L (maps.vat f s)) (map (maps.value f) args)) ≡ evals.reply f (native.data_reply s.lists y verb args (map (refs.follow K s) args))
  replies y verb args s = rw (follow_all s args) (data_map f s.lists y verb args (map (refs.follow K s) args))

  ranges : (last : Bool) (a b : Value N) (s : Vat N) → native.range_reply last (refs.follow L (maps.vat f s) (maps.value f a)) (refs.follow L (maps.vat f s) (maps.value f b)) ≡ evals.reply f (native.range_reply last (refs.follow K s a) (refs.follow K s b))
  ranges last a b s = rw (follows a _ refl s, follows b _ refl s) (range_map f last (refs.follow K s a) (refs.follow K s b))

  equals : (a b : Value N) (s : Vat N) → perform.same_reply L tree (maps.vat f s) (maps.value f a) (maps.value f b) ≡ evals.reply f (perform.same_reply K tree s a b)
  equals a b s = same_reply_map f w K L Fits law tree s a b

  compares : (test : native.Order → Bool) (a b : Value N) (s : Vat N) → native.compared test (native.value_order (refs.follow L (maps.vat f s) (maps.value f a)) (refs.follow L (maps.vat f s) (maps.value f b))) ≡ evals.reply f (native.compared test (native.value_order (refs.follow K s a) (refs.follow K s b)))
  compares test a b s = rw (follows a _ refl s, follows b _ refl s, order_map f (refs.follow K s a) (refs.follow K s b)) (compared_map f test (native.value_order (refs.follow K s a) (refs.follow K s b)))

  breaks : (x : Value N) (s : Vat N) → perform.broken_text L tree (refs.follow L (maps.vat f s) (maps.value f x)) ≡ evals.reply f (perform.broken_text K tree (refs.follow K s x))
  breaks x s = rw (follows x _ refl s) (broken_text_map f w K L Fits law tree (refs.follow K s x))

  throws : (x : Value N) (s : Vat N) → perform.thrown_text L tree (refs.follow L (maps.vat f s) (maps.value f x)) ≡ evals.reply f (perform.thrown_text K tree (refs.follow K s x))
  throws x s = rw (follows x _ refl s) (thrown_text_map f w K L Fits law tree (refs.follow K s x))

  nulls : (x : Value N) (s : Vat N) → native.null_or_reply (refs.follow L (maps.vat f s) (maps.value f x)) ≡ evals.reply f (native.null_or_reply (refs.follow K s x))
  nulls x s = rw (follows x _ refl s) (null_reply_map f (refs.follow K s x))

  tests : (t : RefTest) (x : Value N) (s : Vat N) → perform.test_reply L tree t (maps.value f x) (refs.place L (maps.vat f s) (refs.follow L (maps.vat f s) (maps.value f x))) ≡ evals.reply f (perform.test_reply K tree t x (refs.place K s (refs.follow K s x)))
  tests t x s = rw (same_place_of f w K L Fits law x s) (test_map f w K L Fits law tree t x (refs.place K s (refs.follow K s x)))

  stampeds : (a x : Value N) (s : Vat N) → perform.is_stamped L tree (maps.vat f s) (refs.follow L (maps.vat f s) (maps.value f a)) (refs.follow L (maps.vat f s) (maps.value f x)) ≡ perform.is_stamped K tree s (refs.follow K s a) (refs.follow K s x)
  stampeds a x s = rw (follows a _ refl s, follows x _ refl s) (stamped_map f w K L Fits law tree s (refs.follow K s a) (refs.follow K s x))

  pub guards_asked : (xs : List (FreeName N)) (x : Value N) (s : Vat N) → scopes.guard_asked (map (maps.free_name f) xs) (refs.follow L (maps.vat f s) (maps.value f x)) ≡ evals.reply f (scopes.guard_asked xs (refs.follow K s x))
  guards_asked xs x s = rw (follows x _ refl s) (guard_asked_map f xs (refs.follow K s x))

  pub lists_here : (k : ℕ) (s : Vat N) → list_at (map (map (maps.value f)) s.lists) k ≡ map (maps.value f) (list_at s.lists k)
  lists_here k s = list_at_map f s.lists k

  pub cells_here : (k : ℕ) (s : Vat N) → slice_get (map (maps.cell f) s.slots) k ≡ option_map (maps.cell f) (slice_get s.slots k)
  cells_here k s = map_get (maps.cell f) s.slots k

  pub things_here : (k : ℕ) (s : Vat N) → slice_get (map (maps.thing f) s.things) k ≡ option_map (maps.thing f) (slice_get s.things k)
  things_here k s = map_get (maps.thing f) s.things k

  pub count_things : (s : Vat N) → length (map (maps.thing f) s.things) ≡ length s.things
  count_things s = length_map (maps.thing f) s.things

  pub count_lists : (s : Vat N) → 4 + length (map (map (maps.value f)) s.lists) ≡ 4 + length s.lists
  count_lists s = ap (λ n. 4 + n) (length_map (map (maps.value f)) s.lists)

  pub objects : (i : ℕ) → L.object i ≡ f (K.object i)
  objects = law.object

  pub sim_resolve : (p : N) (x : Value N) (p' : M) (x' : Value M) → p' ≡ f p → x' ≡ maps.value f x → Sim f Fits id (refs.resolve K p x) (refs.resolve L p' x')
  sim_resolve p x p' x' e i = rw (e, i) (resolve_same f w K L Fits law p x)

  pub sim_settle : (p : N) (y : Value N) (p' : M) (y' : Value M) → p' ≡ f p → y' ≡ maps.value f y → Sim f Fits id (refs.settle K p y) (refs.settle L p' y')
  sim_settle = settle_same f w K L Fits law

  sim_send : (act : ℕ) (x : Value N) (x' : Value M) (verb : Words) (args : List (Value N)) (args' : List (Value M)) → x' ≡ maps.value f x → args' ≡ map (maps.value f) args → Sim f Fits (maps.value f) (refs.send K act x verb args) (refs.send L act x' verb args')
  sim_send act x x' verb args args' e i = rw (e, i) (send_same f w K L Fits law act x verb args)

  sim_send_only : (act : ℕ) (x : Value N) (x' : Value M) (verb : Words) (args : List (Value N)) (args' : List (Value M)) → x' ≡ maps.value f x → args' ≡ map (maps.value f) args → Sim f Fits (maps.value f) (refs.send_only K act x verb args) (refs.send_only L act x' verb args')
  sim_send_only act x x' verb args args' e i = rw (e, i) (send_only_same f w K L Fits law act x verb args)

  sim_react : (act : ℕ) (x o near : Value N) (x' o' near' : Value M) → x' ≡ maps.value f x → o' ≡ maps.value f o → near' ≡ maps.value f near → Sim f Fits (maps.value f) (refs.react K act x o near) (refs.react L act x' o' near')
  sim_react act x o near x' o' near' e i j = rw (e, i, j) (react_same f w K L Fits law act x o near)

  settles : (p : N) (y : Value N) (p' : M) (y' : Value M) → p' ≡ f p → y' ≡ maps.value f y → Sim f Fits id (refs.settle K p y) (refs.settle L p' y')
  settles = settle_same f w K L Fits law

  -- ---- what is done

  at_answered : (x1 : Scope N) → (x2 : Value N) → Sim f Fits (evals.answer f) (scopes.answered x1 x2) (scopes.answered (maps.scope f x1) (maps.value f x2))
  unfolding scopes.answered
  at_answered here v = search (sims, evsims, keeps_eval, base, under, law) depth 16

  pub sim_answered : (x1 : Scope N) (x1' : Scope M) → x1' ≡ maps.scope f x1 → (x2 : Value N) (x2' : Value M) → x2' ≡ maps.value f x2 → Sim f Fits (evals.answer f) (scopes.answered x1 x2) (scopes.answered x1' x2')
  sim_answered x1 x1' e1 x2 x2' e2 = rw (e1, e2) (at_answered x1 x2)

  at_read_cell : (x1 : ℕ) → (x2 : ℕ) → (x3 : Option (Cell N)) → Sim f Fits (maps.value f) (scopes.read_cell x1 x2 x3) (scopes.read_cell x1 x2 (option_map (maps.cell f) x3))
  unfolding scopes.read_cell
  at_read_cell act k None = search (sims, evsims, keeps_eval, base, under, law) depth 16
  at_read_cell act k (Some c) = search (sims, evsims, keeps_eval, base, under, law) depth 16

  sim_read_cell : (x1 : ℕ) → (x2 : ℕ) → (x3 : Option (Cell N)) (x3' : Option (Cell M)) → x3' ≡ option_map (maps.cell f) x3 → Sim f Fits (maps.value f) (scopes.read_cell x1 x2 x3) (scopes.read_cell x1 x2 x3')
  sim_read_cell x1 x2 x3 x3' e3 = rw (e3) (at_read_cell x1 x2 x3)

  at_read_bound : (x1 : ℕ) → (x2 : Option (Bound N)) → (x3 : Words) → Sim f Fits (maps.value f) (scopes.read_bound x1 x2 x3) (scopes.read_bound x1 (option_map (maps.bound f) x2) x3)
  unfolding scopes.read_bound
  at_read_bound act (Some (Fixed v g)) x = search (sims, evsims, keeps_eval, base, under, law, sim_read_cell, cells_here, safe_map) depth 16
  at_read_bound act other x = search (sims, evsims, keeps_eval, base, under, law, sim_read_cell, cells_here, safe_map) depth 16

  pub sim_read_bound : (x1 : ℕ) → (x2 : Option (Bound N)) (x2' : Option (Bound M)) → x2' ≡ option_map (maps.bound f) x2 → (x3 : Words) → Sim f Fits (maps.value f) (scopes.read_bound x1 x2 x3) (scopes.read_bound x1 x2' x3)
  sim_read_bound x1 x2 x2' e2 x3 = rw (e2) (at_read_bound x1 x2 x3)

  at_ended : (x1 : ℕ) → (x2 : Act N (Value N)) (x2' : Act M (Value M)) → Sim f Fits (maps.value f) x2 x2' → Keeps (Grows Fits) x2' → Sim f Fits (maps.value f) (scopes.ended x1 x2) (scopes.ended x1 x2')
  unfolding scopes.ended
  at_ended act m x2' h2 g2 = search (sims, evsims, keeps_eval, base, under, law) depth 16

  pub sim_ended : (x1 : ℕ) → (x2 : Act N (Value N)) (x2' : Act M (Value M)) → Sim f Fits (maps.value f) x2 x2' → Keeps (Grows Fits) x2' → Sim f Fits (maps.value f) (scopes.ended x1 x2) (scopes.ended x1 x2')
  sim_ended x1 x2 x2' h2 g2 = at_ended x1 x2 x2' h2 g2

  at_with_lines : (x1 : ℕ) → (x2 : Value N) → (x3 : Words) → (x4 : List (Value N)) → (x5 : Act N (Value N)) (x5' : Act M (Value M)) → Sim f Fits (maps.value f) x5 x5' → Keeps (Grows Fits) x5' → Sim f Fits (maps.value f) (scopes.with_lines x1 x2 x3 x4 x5) (scopes.with_lines x1 (maps.value f x2) x3 (map (maps.value f) x4) x5')
  unfolding scopes.with_lines
  at_with_lines act x verb args m x5' h5 g5 = search (sims, evsims, sim_ended, keeps_eval, base, under, law) depth 16

  pub sim_with_lines : (x1 : ℕ) → (x2 : Value N) (x2' : Value M) → x2' ≡ maps.value f x2 → (x3 : Words) → (x4 : List (Value N)) (x4' : List (Value M)) → x4' ≡ map (maps.value f) x4 → (x5 : Act N (Value N)) (x5' : Act M (Value M)) → Sim f Fits (maps.value f) x5 x5' → Keeps (Grows Fits) x5' → Sim f Fits (maps.value f) (scopes.with_lines x1 x2 x3 x4 x5) (scopes.with_lines x1 x2' x3 x4' x5')
  sim_with_lines x1 x2 x2' e2 x3 x4 x4' e4 x5 x5' h5 g5 = rw (e2, e4) (at_with_lines x1 x2 x3 x4 x5 x5' h5 g5)

  at_fail_by : {A B : Type 0} (l : A → B) → (x1 : Caller N) (x1' : Caller M) → SameCaller f Fits x1 x1' → GoodCaller (Grows Fits) x1' → (x2 : ℕ) → (x3 : Value N) → (x4 : Words) → (x5 : Bool) → Sim f Fits (l) (perform.fail_by K tree {A = A} x1 x2 x3 x4 x5) (perform.fail_by L tree {A = B} x1' x2 (maps.value f x3) x4 x5)
  unfolding perform.fail_by
  at_fail_by l again x1' h1 g1 act j p true = search (sims, evsims, keeps_eval, base, under, law) depth 16
  at_fail_by l again x1' h1 g1 act j p false = search (sims, evsims, keeps_eval, base, under, law) depth 16

  sim_fail_by : {A B : Type 0} (l : A → B) → (x1 : Caller N) (x1' : Caller M) → SameCaller f Fits x1 x1' → GoodCaller (Grows Fits) x1' → (x2 : ℕ) → (x3 : Value N) (x3' : Value M) → x3' ≡ maps.value f x3 → (x4 : Words) → (x5 : Bool) → Sim f Fits (l) (perform.fail_by K tree {A = A} x1 x2 x3 x4 x5) (perform.fail_by L tree {A = B} x1' x2 x3' x4 x5)
  sim_fail_by l x1 x1' h1 g1 x2 x3 x3' e3 x4 x5 = rw (e3) (at_fail_by l x1 x1' h1 g1 x2 x3 x4 x5)

  at_failed : {A B : Type 0} (l : A → B) → (x1 : Caller N) (x1' : Caller M) → SameCaller f Fits x1 x1' → GoodCaller (Grows Fits) x1' → (x2 : ℕ) → (x3 : Value N) → (x4 : Words) → Sim f Fits (l) (perform.failed K tree {A = A} x1 x2 x3 x4) (perform.failed L tree {A = B} x1' x2 (maps.value f x3) x4)
  unfolding perform.failed
  at_failed l again x1' h1 g1 act j p = search (sims, evsims, sim_fail_by, null_follow, follows, keeps_eval, base, under, law) depth 16

  pub sim_failed : {A B : Type 0} (l : A → B) → (x1 : Caller N) (x1' : Caller M) → SameCaller f Fits x1 x1' → GoodCaller (Grows Fits) x1' → (x2 : ℕ) → (x3 : Value N) (x3' : Value M) → x3' ≡ maps.value f x3 → (x4 : Words) → Sim f Fits (l) (perform.failed K tree {A = A} x1 x2 x3 x4) (perform.failed L tree {A = B} x1' x2 x3' x4)
  sim_failed l x1 x1' h1 g1 x2 x3 x3' e3 x4 = rw (e3) (at_failed l x1 x1' h1 g1 x2 x3 x4)

  at_handed : (x1 : Value N) → Sim f Fits (maps.value f) (perform.handed K tree x1) (perform.handed L tree (maps.value f x1))
  unfolding perform.handed
  at_handed j = search (sims, evsims, null_follow, follows, keeps_eval, base, under, law) depth 16

  pub sim_handed : (x1 : Value N) (x1' : Value M) → x1' ≡ maps.value f x1 → Sim f Fits (maps.value f) (perform.handed K tree x1) (perform.handed L tree x1')
  sim_handed x1 x1' e1 = rw (e1) (at_handed x1)

  at_native_coerce : (x1 : Caller N) (x1' : Caller M) → SameCaller f Fits x1 x1' → GoodCaller (Grows Fits) x1' → (x2 : ℕ) → (x3 : Guard) → (x4 : Value N) → (x5 : Value N) → Sim f Fits (maps.value f) (perform.native_coerce K tree x1 x2 x3 x4 x5) (perform.native_coerce L tree x1' x2 x3 (maps.value f x4) (maps.value f x5))
  unfolding perform.native_coerce
  at_native_coerce again x1' h1 g1 act g j x = search (sims, evsims, sim_failed, taken_follow, follows, keeps_eval, base, under, law) depth 16

  sim_native_coerce : (x1 : Caller N) (x1' : Caller M) → SameCaller f Fits x1 x1' → GoodCaller (Grows Fits) x1' → (x2 : ℕ) → (x3 : Guard) → (x4 : Value N) (x4' : Value M) → x4' ≡ maps.value f x4 → (x5 : Value N) (x5' : Value M) → x5' ≡ maps.value f x5 → Sim f Fits (maps.value f) (perform.native_coerce K tree x1 x2 x3 x4 x5) (perform.native_coerce L tree x1' x2 x3 x4' x5')
  sim_native_coerce x1 x1' h1 g1 x2 x3 x4 x4' e4 x5 x5' e5 = rw (e4, e5) (at_native_coerce x1 x1' h1 g1 x2 x3 x4 x5)

  at_coerce_near : (x1 : Caller N) (x1' : Caller M) → SameCaller f Fits x1 x1' → GoodCaller (Grows Fits) x1' → (x2 : ℕ) → (x3 : Value N) → (x4 : Value N) → (x5 : Value N) → (x6 : Place N) → Sim f Fits (maps.value f) (perform.coerce_near K tree x1 x2 x3 x4 x5 x6) (perform.coerce_near L tree x1' x2 (maps.value f x3) (maps.value f x4) (maps.value f x5) (maps.place f x6))
  unfolding perform.coerce_near
  at_coerce_near again x1' h1 g1 act g j x Near = search (sims, evsims, sim_handed, keeps_eval, base, under, law) depth 16
  at_coerce_near again x1' h1 g1 act g j x _ = search (sims, evsims, keeps_eval, base, under, law) depth 16

  sim_coerce_near : (x1 : Caller N) (x1' : Caller M) → SameCaller f Fits x1 x1' → GoodCaller (Grows Fits) x1' → (x2 : ℕ) → (x3 : Value N) (x3' : Value M) → x3' ≡ maps.value f x3 → (x4 : Value N) (x4' : Value M) → x4' ≡ maps.value f x4 → (x5 : Value N) (x5' : Value M) → x5' ≡ maps.value f x5 → (x6 : Place N) (x6' : Place M) → x6' ≡ maps.place f x6 → Sim f Fits (maps.value f) (perform.coerce_near K tree x1 x2 x3 x4 x5 x6) (perform.coerce_near L tree x1' x2 x3' x4' x5' x6')
  sim_coerce_near x1 x1' h1 g1 x2 x3 x3' e3 x4 x4' e4 x5 x5' e5 x6 x6' e6 = rw (e3, e4, e5, e6) (at_coerce_near x1 x1' h1 g1 x2 x3 x4 x5 x6)

  at_coerce_native : (x1 : Caller N) (x1' : Caller M) → SameCaller f Fits x1 x1' → GoodCaller (Grows Fits) x1' → (x2 : ℕ) → (x3 : Option Guard) → (x4 : Value N) → (x5 : Value N) → Sim f Fits (maps.value f) (perform.coerce_native K tree x1 x2 x3 x4 x5) (perform.coerce_native L tree x1' x2 x3 (maps.value f x4) (maps.value f x5))
  unfolding perform.coerce_native
  at_coerce_native again x1' h1 g1 act (Some g) j x = search (sims, evsims, sim_native_coerce, keeps_eval, base, under, law) depth 16
  at_coerce_native again x1' h1 g1 act None j x = search (sims, evsims, keeps_eval, base, under, law) depth 16

  sim_coerce_native : (x1 : Caller N) (x1' : Caller M) → SameCaller f Fits x1 x1' → GoodCaller (Grows Fits) x1' → (x2 : ℕ) → (x3 : Option Guard) → (x4 : Value N) (x4' : Value M) → x4' ≡ maps.value f x4 → (x5 : Value N) (x5' : Value M) → x5' ≡ maps.value f x5 → Sim f Fits (maps.value f) (perform.coerce_native K tree x1 x2 x3 x4 x5) (perform.coerce_native L tree x1' x2 x3 x4' x5')
  sim_coerce_native x1 x1' h1 g1 x2 x3 x4 x4' e4 x5 x5' e5 = rw (e4, e5) (at_coerce_native x1 x1' h1 g1 x2 x3 x4 x5)

  at_coerce : (x1 : Caller N) (x1' : Caller M) → SameCaller f Fits x1 x1' → GoodCaller (Grows Fits) x1' → (x2 : ℕ) → (x3 : Value N) → (x4 : Value N) → (x5 : Value N) → Sim f Fits (maps.value f) (perform.coerce K tree x1 x2 x3 x4 x5) (perform.coerce L tree x1' x2 (maps.value f x3) (maps.value f x4) (maps.value f x5))
  unfolding perform.coerce
  at_coerce again x1' h1 g1 act (Prim n) j x = search (sims, evsims, sim_coerce_native, keeps_eval, base, under, law, sim_coerce_near, ref_place) depth 16
  at_coerce again x1' h1 g1 act other j x = search (sims, evsims, sim_coerce_native, keeps_eval, base, under, law, sim_coerce_near, ref_place) depth 16

  pub sim_coerce : (x1 : Caller N) (x1' : Caller M) → SameCaller f Fits x1 x1' → GoodCaller (Grows Fits) x1' → (x2 : ℕ) → (x3 : Value N) (x3' : Value M) → x3' ≡ maps.value f x3 → (x4 : Value N) (x4' : Value M) → x4' ≡ maps.value f x4 → (x5 : Value N) (x5' : Value M) → x5' ≡ maps.value f x5 → Sim f Fits (maps.value f) (perform.coerce K tree x1 x2 x3 x4 x5) (perform.coerce L tree x1' x2 x3' x4' x5')
  sim_coerce x1 x1' h1 g1 x2 x3 x3' e3 x4 x4' e4 x5 x5' e5 = rw (e3, e4, e5) (at_coerce x1 x1' h1 g1 x2 x3 x4 x5)

  at_store : (x1 : ℕ) → (x2 : List (Value N)) → Sim f Fits (maps.value f) (perform.store K tree x1 x2) (perform.store L tree x1 (map (maps.value f) x2))
  unfolding perform.store
  at_store act vs = search (sims, evsims, spend_at, length_map, keeps_eval, base, under, law) depth 16

  sim_store : (x1 : ℕ) → (x2 : List (Value N)) (x2' : List (Value M)) → x2' ≡ map (maps.value f) x2 → Sim f Fits (maps.value f) (perform.store K tree x1 x2) (perform.store L tree x1 x2')
  sim_store x1 x2 x2' e2 = rw (e2) (at_store x1 x2)

  pub at_make_list : (x1 : ℕ) → (x2 : List (Value N)) → Sim f Fits (maps.value f) (perform.make_list K tree x1 x2) (perform.make_list L tree x1 (map (maps.value f) x2))
  unfolding perform.make_list
  at_make_list act vs = search (sims, evsims, sim_store, fit_list, keeps_eval, base, under, law) depth 16

  pub sim_make_list : (x1 : ℕ) → (x2 : List (Value N)) (x2' : List (Value M)) → x2' ≡ map (maps.value f) x2 → Sim f Fits (maps.value f) (perform.make_list K tree x1 x2) (perform.make_list L tree x1 x2')
  sim_make_list x1 x2 x2' e2 = rw (e2) (at_make_list x1 x2)

  at_spell : (x1 : Words) → Sim f Fits (maps.value f) (perform.spell K tree x1) (perform.spell L tree x1)
  unfolding perform.spell
  at_spell t = search (sims, evsims, spend_at, length_map, keeps_eval, base, under, law) depth 16

  sim_spell : (x1 : Words) → Sim f Fits (maps.value f) (perform.spell K tree x1) (perform.spell L tree x1)
  sim_spell x1 = at_spell x1

  at_write_text : (x1 : Words) → Sim f Fits (maps.value f) (perform.write_text K tree x1) (perform.write_text L tree x1)
  unfolding perform.write_text
  at_write_text t = search (sims, evsims, sim_spell, if_at, le_same, keeps_eval, base, under, law) depth 16

  sim_write_text : (x1 : Words) → Sim f Fits (maps.value f) (perform.write_text K tree x1) (perform.write_text L tree x1)
  sim_write_text x1 = at_write_text x1

  at_iterate : (x1 : Caller N) (x1' : Caller M) → SameCaller f Fits x1 x1' → GoodCaller (Grows Fits) x1' → (x2 : ℕ) → (x3 : Value N) → (x4 : ℕ) → (x5 : List (Value N)) → Sim f Fits (maps.value f) (perform.iterate K tree x1 x2 x3 x4 x5) (perform.iterate L tree x1' x2 (maps.value f x3) x4 (map (maps.value f) x5))
  unfolding perform.iterate
  at_iterate again x1' h1 g1 act o k [] = search sims
  at_iterate again x1' h1 g1 act o k (v ∷ vs) = let rest = at_iterate again x1' h1 g1 act o (suc k) vs in let grow = grown.keeps_iterate L (Grows Fits) base under tree x1' g1 act (maps.value f o) (suc k) (map (maps.value f) vs) in search (sims, evsims, keeps_eval, base, under) depth 14

  sim_iterate : (x1 : Caller N) (x1' : Caller M) → SameCaller f Fits x1 x1' → GoodCaller (Grows Fits) x1' → (x2 : ℕ) → (x3 : Value N) (x3' : Value M) → x3' ≡ maps.value f x3 → (x4 : ℕ) → (x5 : List (Value N)) (x5' : List (Value M)) → x5' ≡ map (maps.value f) x5 → Sim f Fits (maps.value f) (perform.iterate K tree x1 x2 x3 x4 x5) (perform.iterate L tree x1' x2 x3' x4 x5')
  sim_iterate x1 x1' h1 g1 x2 x3 x3' e3 x4 x5 x5' e5 = rw (e3, e5) (at_iterate x1 x1' h1 g1 x2 x3 x4 x5)

  at_reply : (x1 : Caller N) (x1' : Caller M) → SameCaller f Fits x1 x1' → GoodCaller (Grows Fits) x1' → (x2 : ℕ) → (x3 : Reply N) → Sim f Fits (maps.value f) (perform.reply K tree x1 x2 x3) (perform.reply L tree x1' x2 (evals.reply f x3))
  unfolding perform.reply
  at_reply again x1' h1 g1 act (Writes t) = search (sims, evsims, sim_write_text, keeps_eval, base, under, law, sim_make_list, sim_iterate) depth 16
  at_reply again x1' h1 g1 act other = search (sims, evsims, sim_write_text, keeps_eval, base, under, law, sim_make_list, sim_iterate) depth 16

  pub sim_reply : (x1 : Caller N) (x1' : Caller M) → SameCaller f Fits x1 x1' → GoodCaller (Grows Fits) x1' → (x2 : ℕ) → (x3 : Reply N) (x3' : Reply M) → x3' ≡ evals.reply f x3 → Sim f Fits (maps.value f) (perform.reply K tree x1 x2 x3) (perform.reply L tree x1' x2 x3')
  sim_reply x1 x1' h1 g1 x2 x3 x3' e3 = rw (e3) (at_reply x1 x1' h1 g1 x2 x3)

  at_data_answer : (x1 : Caller N) (x1' : Caller M) → SameCaller f Fits x1 x1' → GoodCaller (Grows Fits) x1' → (x2 : ℕ) → (x3 : Value N) → (x4 : Words) → (x5 : List (Value N)) → Sim f Fits (maps.value f) (perform.data_answer K tree x1 x2 x3 x4 x5) (perform.data_answer L tree x1' x2 (maps.value f x3) x4 (map (maps.value f) x5))
  unfolding perform.data_answer
  at_data_answer again x1' h1 g1 act y verb args = search (sims, evsims, sim_reply, follows, replies, keeps_eval, base, under, law) depth 16

  pub sim_data_answer : (x1 : Caller N) (x1' : Caller M) → SameCaller f Fits x1 x1' → GoodCaller (Grows Fits) x1' → (x2 : ℕ) → (x3 : Value N) (x3' : Value M) → x3' ≡ maps.value f x3 → (x4 : Words) → (x5 : List (Value N)) (x5' : List (Value M)) → x5' ≡ map (maps.value f) x5 → Sim f Fits (maps.value f) (perform.data_answer K tree x1 x2 x3 x4 x5) (perform.data_answer L tree x1' x2 x3' x4 x5')
  sim_data_answer x1 x1' h1 g1 x2 x3 x3' e3 x4 x5 x5' e5 = rw (e3, e5) (at_data_answer x1 x1' h1 g1 x2 x3 x4 x5)

  at_send_by : (x0 : Bool) → (x1 : ℕ) → (x2 : Value N) → (x3 : Words) → (x4 : List (Value N)) → Sim f Fits (maps.value f) (perform.send_by K tree x0 x1 x2 x3 x4) (perform.send_by L tree x0 x1 (maps.value f x2) x3 (map (maps.value f) x4))
  unfolding perform.send_by
  at_send_by only act x verb args = sim_if f Fits only (sim_send_only act x _ verb args _ refl refl) (sim_send act x _ verb args _ refl refl)

  at_send_listed : (x0 : Bool) → (x1 : ℕ) → (x2 : Value N) → (x3 : Words) → (x4 : List (Value N)) → Sim f Fits (maps.value f) (perform.send_listed K tree x0 x1 x2 x3 x4) (perform.send_listed L tree x0 x1 (maps.value f x2) x3 (map (maps.value f) x4))
  unfolding perform.send_listed
  at_send_listed only act x verb args = search (sims, evsims, at_send_by, if_at, le_same, keeps_eval, base, under, law) depth 16

  sim_send_listed : (x0 : Bool) → (x1 : ℕ) → (x2 : Value N) (x2' : Value M) → x2' ≡ maps.value f x2 → (x3 : Words) → (x4 : List (Value N)) (x4' : List (Value M)) → x4' ≡ map (maps.value f) x4 → Sim f Fits (maps.value f) (perform.send_listed K tree x0 x1 x2 x3 x4) (perform.send_listed L tree x0 x1 x2' x3 x4')
  sim_send_listed x0 x1 x2 x2' e2 x3 x4 x4' e4 = rw (e2, e4) (at_send_listed x0 x1 x2 x3 x4)

  at_send_with : (x0 : Bool) → (x1 : ℕ) → (x2 : Value N) → (x3 : Value N) → (x4 : Value N) → Sim f Fits (maps.value f) (perform.send_with K tree x0 x1 x2 x3 x4) (perform.send_with L tree x0 x1 (maps.value f x2) (maps.value f x3) (maps.value f x4))
  unfolding perform.send_with
  at_send_with only act x (Text verb) (Items k) = search (sims, evsims, sim_send_listed, lists_here, keeps_eval, base, under, law) depth 16
  at_send_with only act x _ _ = search (sims, evsims, keeps_eval, base, under, law) depth 16

  sim_send_with : (x0 : Bool) → (x1 : ℕ) → (x2 : Value N) (x2' : Value M) → x2' ≡ maps.value f x2 → (x3 : Value N) (x3' : Value M) → x3' ≡ maps.value f x3 → (x4 : Value N) (x4' : Value M) → x4' ≡ maps.value f x4 → Sim f Fits (maps.value f) (perform.send_with K tree x0 x1 x2 x3 x4) (perform.send_with L tree x0 x1 x2' x3' x4')
  sim_send_with x0 x1 x2 x2' e2 x3 x3' e3 x4 x4' e4 = rw (e2, e3, e4) (at_send_with x0 x1 x2 x3 x4)

  at_call_listed : (x1 : Caller N) (x1' : Caller M) → SameCaller f Fits x1 x1' → GoodCaller (Grows Fits) x1' → (x2 : ℕ) → (x3 : Value N) → (x4 : Words) → (x5 : List (Value N)) → Sim f Fits (maps.value f) (perform.call_listed K tree x1 x2 x3 x4 x5) (perform.call_listed L tree x1' x2 (maps.value f x3) x4 (map (maps.value f) x5))
  unfolding perform.call_listed
  at_call_listed again x1' h1 g1 act x verb args = search (sims, evsims, if_at, le_same, keeps_eval, base, under, law) depth 16

  sim_call_listed : (x1 : Caller N) (x1' : Caller M) → SameCaller f Fits x1 x1' → GoodCaller (Grows Fits) x1' → (x2 : ℕ) → (x3 : Value N) (x3' : Value M) → x3' ≡ maps.value f x3 → (x4 : Words) → (x5 : List (Value N)) (x5' : List (Value M)) → x5' ≡ map (maps.value f) x5 → Sim f Fits (maps.value f) (perform.call_listed K tree x1 x2 x3 x4 x5) (perform.call_listed L tree x1' x2 x3' x4 x5')
  sim_call_listed x1 x1' h1 g1 x2 x3 x3' e3 x4 x5 x5' e5 = rw (e3, e5) (at_call_listed x1 x1' h1 g1 x2 x3 x4 x5)

  at_call_with : (x1 : Caller N) (x1' : Caller M) → SameCaller f Fits x1 x1' → GoodCaller (Grows Fits) x1' → (x2 : ℕ) → (x3 : Value N) → (x4 : Value N) → (x5 : Value N) → Sim f Fits (maps.value f) (perform.call_with K tree x1 x2 x3 x4 x5) (perform.call_with L tree x1' x2 (maps.value f x3) (maps.value f x4) (maps.value f x5))
  unfolding perform.call_with
  at_call_with again x1' h1 g1 act x (Text verb) (Items k) = search (sims, evsims, sim_call_listed, lists_here, keeps_eval, base, under, law) depth 16
  at_call_with again x1' h1 g1 act x _ _ = search (sims, evsims, keeps_eval, base, under, law) depth 16

  sim_call_with : (x1 : Caller N) (x1' : Caller M) → SameCaller f Fits x1 x1' → GoodCaller (Grows Fits) x1' → (x2 : ℕ) → (x3 : Value N) (x3' : Value M) → x3' ≡ maps.value f x3 → (x4 : Value N) (x4' : Value M) → x4' ≡ maps.value f x4 → (x5 : Value N) (x5' : Value M) → x5' ≡ maps.value f x5 → Sim f Fits (maps.value f) (perform.call_with K tree x1 x2 x3 x4 x5) (perform.call_with L tree x1' x2 x3' x4' x5')
  sim_call_with x1 x1' h1 g1 x2 x3 x3' e3 x4 x4' e4 x5 x5' e5 = rw (e3, e4, e5) (at_call_with x1 x1' h1 g1 x2 x3 x4 x5)

  at_make_promise : (x1 : ℕ) → Sim f Fits (maps.value f) (perform.make_promise K tree x1) (perform.make_promise L tree x1)
  unfolding perform.make_promise
  at_make_promise act = search (sims, evsims, sim_make_list, objects, object_refs, keeps_eval, base, under, law) depth 16

  sim_make_promise : (x1 : ℕ) → Sim f Fits (maps.value f) (perform.make_promise K tree x1) (perform.make_promise L tree x1)
  sim_make_promise x1 = at_make_promise x1

  at_react_near : (x1 : ℕ) → (x2 : Value N) → (x3 : Value N) → (x4 : Value N) → (x5 : Place N) → Sim f Fits (maps.value f) (perform.react_near K tree x1 x2 x3 x4 x5) (perform.react_near L tree x1 (maps.value f x2) (maps.value f x3) (maps.value f x4) (maps.place f x5))
  unfolding perform.react_near
  at_react_near act x o y Near = search (sims, evsims, sim_react, keeps_eval, base, under, law) depth 16
  at_react_near act x o y _ = search (sims, evsims, keeps_eval, base, under, law) depth 16

  sim_react_near : (x1 : ℕ) → (x2 : Value N) (x2' : Value M) → x2' ≡ maps.value f x2 → (x3 : Value N) (x3' : Value M) → x3' ≡ maps.value f x3 → (x4 : Value N) (x4' : Value M) → x4' ≡ maps.value f x4 → (x5 : Place N) (x5' : Place M) → x5' ≡ maps.place f x5 → Sim f Fits (maps.value f) (perform.react_near K tree x1 x2 x3 x4 x5) (perform.react_near L tree x1 x2' x3' x4' x5')
  sim_react_near x1 x2 x2' e2 x3 x3' e3 x4 x4' e4 x5 x5' e5 = rw (e2, e3, e4, e5) (at_react_near x1 x2 x3 x4 x5)

  at_when_resolved : (x1 : ℕ) → (x2 : Value N) → (x3 : Value N) → Sim f Fits (maps.value f) (perform.when_resolved K tree x1 x2 x3) (perform.when_resolved L tree x1 (maps.value f x2) (maps.value f x3))
  unfolding perform.when_resolved
  at_when_resolved act x o = search (sims, evsims, sim_react_near, follows, places, keeps_eval, base, under, law) depth 16

  sim_when_resolved : (x1 : ℕ) → (x2 : Value N) (x2' : Value M) → x2' ≡ maps.value f x2 → (x3 : Value N) (x3' : Value M) → x3' ≡ maps.value f x3 → Sim f Fits (maps.value f) (perform.when_resolved K tree x1 x2 x3) (perform.when_resolved L tree x1 x2' x3')
  sim_when_resolved x1 x2 x2' e2 x3 x3' e3 = rw (e2, e3) (at_when_resolved x1 x2 x3)

  at_after_turn : (x1 : Act N (Value N)) (x1' : Act M (Value M)) → Sim f Fits (maps.value f) x1 x1' → Keeps (Grows Fits) x1' → (x2 : Value N) → Sim f Fits (maps.value f) (perform.after_turn K tree x1 x2) (perform.after_turn L tree x1' (maps.value f x2))
  unfolding perform.after_turn
  at_after_turn more x1' h1 g1 (Flag true) = search (sims, evsims, keeps_eval, base, under, law) depth 16
  at_after_turn more x1' h1 g1 other = search (sims, evsims, keeps_eval, base, under, law) depth 16

  sim_after_turn : (x1 : Act N (Value N)) (x1' : Act M (Value M)) → Sim f Fits (maps.value f) x1 x1' → Keeps (Grows Fits) x1' → (x2 : Value N) (x2' : Value M) → x2' ≡ maps.value f x2 → Sim f Fits (maps.value f) (perform.after_turn K tree x1 x2) (perform.after_turn L tree x1' x2')
  sim_after_turn x1 x1' h1 g1 x2 x2' e2 = rw (e2) (at_after_turn x1 x1' h1 g1 x2)

  at_turns : (x1 : ℕ) → (x2 : Act N (Value N)) (x2' : Act M (Value M)) → Sim f Fits (maps.value f) x2 x2' → Keeps (Grows Fits) x2' → Sim f Fits (maps.value f) (perform.turns K tree x1 x2) (perform.turns L tree x1 x2')
  unfolding perform.turns
  at_turns zero body x2' h2 g2 = search sims
  at_turns (suc n) body x2' h2 g2 = let rest = at_turns n body x2' h2 g2 in let grow = grown.keeps_turns L (Grows Fits) base under tree n x2' g2 in search (sims, evsims, sim_after_turn, follows, keeps_eval, base, under) depth 14

  sim_turns : (x1 : ℕ) → (x2 : Act N (Value N)) (x2' : Act M (Value M)) → Sim f Fits (maps.value f) x2 x2' → Keeps (Grows Fits) x2' → Sim f Fits (maps.value f) (perform.turns K tree x1 x2) (perform.turns L tree x1 x2')
  sim_turns x1 x2 x2' h2 g2 = at_turns x1 x2 x2' h2 g2

  at_loop : (x1 : Act N (Value N)) (x1' : Act M (Value M)) → Sim f Fits (maps.value f) x1 x1' → Keeps (Grows Fits) x1' → Sim f Fits (maps.value f) (perform.loop K tree x1) (perform.loop L tree x1')
  unfolding perform.loop
  at_loop body x1' h1 g1 = search (sims, evsims, sim_turns, keeps_eval, base, under, law) depth 16

  sim_loop : (x1 : Act N (Value N)) (x1' : Act M (Value M)) → Sim f Fits (maps.value f) x1 x1' → Keeps (Grows Fits) x1' → Sim f Fits (maps.value f) (perform.loop K tree x1) (perform.loop L tree x1')
  sim_loop x1 x1' h1 g1 = at_loop x1 x1' h1 g1

  pub at_perform : (x1 : Caller N) (x1' : Caller M) → SameCaller f Fits x1 x1' → GoodCaller (Grows Fits) x1' → (x2 : ℕ) → (x3 : Asked N) → Sim f Fits (maps.value f) (perform.perform K tree x1 x2 x3) (perform.perform L tree x1' x2 (evals.asked f x3))
  unfolding perform.perform
  at_perform again x1' h1 g1 act (MakesList vs) = search (sims, evsims, sim_make_list, keeps_eval, base, under, law, sim_reply, follows, ranges, equals, compares, sim_loop, sim_send_with, sim_call_with, sim_make_promise, breaks, tests, sim_when_resolved, throws, stampeds, sim_native_coerce, nulls) depth 16
  at_perform again x1' h1 g1 act other = search (sims, evsims, sim_make_list, keeps_eval, base, under, law, sim_reply, follows, ranges, equals, compares, sim_loop, sim_send_with, sim_call_with, sim_make_promise, breaks, tests, sim_when_resolved, throws, stampeds, sim_native_coerce, nulls) depth 16

  sim_perform : (x1 : Caller N) (x1' : Caller M) → SameCaller f Fits x1 x1' → GoodCaller (Grows Fits) x1' → (x2 : ℕ) → (x3 : Asked N) (x3' : Asked M) → x3' ≡ evals.asked f x3 → Sim f Fits (maps.value f) (perform.perform K tree x1 x2 x3) (perform.perform L tree x1' x2 x3')
  sim_perform x1 x1' h1 g1 x2 x3 x3' e3 = rw (e3) (at_perform x1 x1' h1 g1 x2 x3)
