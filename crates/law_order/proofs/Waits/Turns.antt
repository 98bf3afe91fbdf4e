-- A turn takes no more room of a name, that is no promise of the vat's own, than the message that it takes, or the root that it resolves.
use Rattle.std.proofs.Common.{◌≡◌, ℕ, suc, ◌+◌, ◌*◌, Bool, List, [], ◌∷◌, ◌++◌, Option, Some, sym, subst, arith}
use Rattle.def_machine.specs.Values.{Words, Value, Broken, Name, Promise, Naming, naming, name_of}
use Rattle.def_machine.specs.State.{Binding, Message, Took, Scope, Vat, Astray, Done, Gives, Throws, Ejects, Stops, Act, ◌>>=◌, ◌>>◌, and_then, end_by, ending, give, tell, for_some, new_activation}
use Rattle.def_machine.specs.Refs.{settle, resolve}
use Rattle.def_machine.specs.Calls.{turn_value}
use Rattle.def_machine.specs.Scopes.{Answer}
use Rattle.def_machine.specs.Eval as eval
use Rattle.def_kernel.specs.declared.node.Node.{Node}
use Rattle.law_fate.specs.Fates.Fate.{one}
use Rattle.law_frozen.specs.Frozen.{IsPromised, Sound, AllOf as EachOf, MessageThere, NounWell}
use Rattle.law_frozen.proofs.Fine.{Keeper, Loose, Quiet, Fact, IsValue, AreNouns, IsMessage, nothing, answer, Ends as FineEnds, Fine, got_itself}
use Rattle.law_frozen.proofs.Serves.{Serves, served_by}
use Rattle.law_frozen.proofs.FineEval.{good_evaluator, fine_turn_value}
use Rattle.law_frozen.proofs.Reach.{global_spots}
use Rattle.law_order.proofs.Ordering.Moves.{IsKept, keeps_give, keeps_stop, keeps_tell}
use Rattle.law_order.specs.Waits.Answers.{answered_by, answers}
use Rattle.law_order.proofs.Waits.Room.{share, share_most}
use Rattle.law_order.proofs.Waits.Costs.{Ends}
use Rattle.law_order.proofs.Waits.Costs as costs
use Rattle.law_order.proofs.Waits.Settling as settling
use Rattle.law_order.proofs.Waits.Sends.{IsFit}
use Rattle.law_order.proofs.Waits.Sends as sends

module _ (word : ℕ → ℕ) (v : ℕ) (x : Name) (owed : Bool) (fit : IsFit v x owed) (promise : (i : ℕ) → one (Promise v i) x ≡ 0) where
  abbrev N : Naming Name Name
  N = naming word v

  abbrev Costs : {A : Type 0} → ℕ → Act Name A → Type 0
  Costs c m = costs.Costs word v x owed c m

  abbrev At : ℕ → Vat Name → Type 0
  At c s = costs.At word v x owed c s

  abbrev Spares : Vat Name → Vat Name → Type 0
  Spares s t = costs.Spares word v x owed s t

  base : IsKept Spares
  base = costs.spares word v x owed

  abbrev plain : Keeper N
  plain = record { holds = λ s. Sound N s; sound = λ s h. h; quiet = λ s t q h i. i }

  loose : Loose N plain
  loose = record { any = λ s t h i. i }

  is_promised : (p : Name) → IsPromised N p → one p x ≡ 0
  unfolding naming name_of
  is_promised p h = subst (λ (n : Name). one n x ≡ 0) (sym h.2) (promise h.0)

  breaks_free : (p : Name) → one p x ≡ 0 → (y : Value Name) → Costs 0 (settle N p y)
  breaks_free p z y = let most = share_most owed (one p x) in costs.costs_more word v x owed (share owed (one p x)) 0 (omega arith) (settling.costs_settle word v x owed fit.eventual p y)

  resolves_free : (p : Name) → one p x ≡ 0 → (y : Value Name) → Costs 0 (resolve N p y)
  resolves_free p z y = costs.costs_more word v x owed (2 * one p x) 0 (omega arith) (settling.costs_resolve word v x owed fit.eventual p y)

  -- ---- evaluation, with so much in hand

  module _ (d : ℕ) where
    quiet_at : (s t : Vat Name) → Quiet s t → At d s → At d t
    quiet_at s t q h = subst (λ (n : ℕ). costs.Good word v x owed d n t.queue t.known t.gifts) (sym q.0) (subst (λ ms. costs.Good word v x owed d s.number ms t.known t.gifts) (sym q.4)
        (subst (λ ks. costs.Good word v x owed d s.number s.queue ks t.gifts) (sym q.1) (subst (λ gs. costs.Good word v x owed d s.number s.queue s.known gs) (sym q.7) h)))

    abbrev both : Keeper N
    both = record { holds = λ s. Sound N s × At d s; sound = λ s h. h.0; quiet = λ s t q h i. (i, quiet_at s t q h.1) }

    joined : {A : Type 0} (G : A → Fact Name) (s : Vat Name) (r : Done Name A) → FineEnds N plain G s r → Ends (At d) r → FineEnds N both G s r
    joined G s (Throws p t) h k = (h.0, (h.1, k))
    joined G s (Stops c t) h k = (h.0, (h.1, k))
    joined G s other h k = (h.0, (h.1, k), h.2)

    kept : {A : Type 0} (m : Act Name A) → Costs 0 m → (s : Vat Name) → At d s → Ends (At d) (m s)
    kept m k s g = k.after d s (costs.less word v x owed d (0 + d) (omega arith) s g)

    fine_both : {A : Type 0} {C : Fact Name} {m : Act Name A} {G : A → Fact Name} → Fine N plain C m G → Costs 0 m → Fine N both C m G
    fine_both {m = m} {G = G} f k = record { after = λ s h c. joined G s (m s) (f.after s h.0 c) (kept m k s h.1) }

    serves : Serves N both
    serves = let first = served_by N plain loose in record {
      promises = λ C. fine_both (first.promises C) (costs.costs_free word v x owed 0 (costs.spare_promise word v x owed));
      smashes = λ C p t own s h c e. joined nothing s (settle N p (Broken t) s) (first.smashes C p t own s h.0 c e) (kept (settle N p (Broken t)) (breaks_free p (is_promised p (own.at s.things s.lists c)) (Broken t)) s h.1);
      resolves = λ C p y own g s h c e. joined nothing s (resolve N p y s) (first.resolves C p y own g s h.0 c e) (kept (resolve N p y) (resolves_free p (is_promised p (own.at s.things s.lists c)) y) s h.1);
      sends = λ C act y g verb args h. fine_both (first.sends C act y g verb args h) (sends.free_send word v x owed fit act y verb args);
      sends_only = λ C act y g verb args h. fine_both (first.sends_only C act y g verb args h) (sends.free_send_only word v x owed fit act y verb args);
      reacts = λ C act y g o h near k. fine_both (first.reacts C act y g o h near k) (sends.free_react word v x owed fit act y o near);
    }

    held_after : {A : Type 0} (G : A → Fact Name) (s : Vat Name) (r : Done Name A) → FineEnds N both G s r → Ends (At d) r
    held_after G s (Gives a t) h = let k = h.1 in k.1
    held_after G s other h = let k = h.1 in k.1

    -- what a message asks
    pub turn_keeps : (tree : List Node) (depth act : ℕ) (m : Message Name) (s : Vat Name) → Sound N s → MessageThere s.lists m → At d s → Ends (At d) (turn_value N tree (eval.evaluator N tree depth) act m.target m.verb m.args s)
    turn_keeps tree depth act m s sound there g = let f = fine_turn_value N both serves (global_spots word v) tree {C = IsMessage m} (eval.evaluator N tree depth) (good_evaluator N both serves (global_spots word v) tree depth) act m.target (record { at = λ ts ls h. h.0 }) m.verb m.args (record { at = λ ts ls h. h.1 }) in
        held_after IsValue s (turn_value N tree (eval.evaluator N tree depth) act m.target m.verb m.args s) (f.after s (sound, g) there)

    value_of : Answer Name → Act Name (Value Name)
    value_of y = give y.value

    then_value : (r : Done Name (Answer Name)) → Ends (At d) r → Ends (At d) (and_then r value_of)
    unfolding and_then give value_of
    then_value (Gives a t) h = h
    then_value other h = h

    -- a program
    pub program_keeps : (tree : List Node) (depth : ℕ) (here : Scope Name) (s : Vat Name) → Sound N s → EachOf (NounWell N s.things s.lists) here.nouns → At d s
        → Ends (At d) (and_then ((eval.evaluator N tree depth).expression 0 here s) (λ y. give y.value))
    unfolding value_of
    program_keeps tree depth here s sound well g = let good = good_evaluator N both serves (global_spots word v) tree depth in let f = good.expression (AreNouns here.nouns) 0 here (got_itself N (AreNouns here.nouns)) in
        let rec = eval.evaluator N tree depth in then_value (rec.expression 0 here s) (held_after answer s (rec.expression 0 here s) (f.after s (sound, g) well))

  -- ---- the end of a turn

  ended : {A B : Type 0} (c e : ℕ) (f : A → Act Name B) (g : Words → Act Name B) (h : ℕ → Value Name → Act Name B) (r : Done Name A) → Ends (At (c + e)) r
      → ((a : A) → Costs c (f a)) → ((t : Words) → Costs c (g t)) → ((n : ℕ) (y : Value Name) → Costs c (h n y)) → Ends (At e) (end_by f g h r)
  unfolding end_by
  ended c e f g h (Gives a t) k i j l = let m = i a in m.after e t k
  ended c e f g h (Throws p t) k i j l = let m = j p in m.after e t k
  ended c e f g h (Ejects n y t) k i j l = let m = l n y in m.after e t k
  ended c e f g h (Stops w t) k i j l = costs.less word v x owed (c + e) e (omega arith) t k

  gives_free : (y : Unit {0}) → Costs 0 (give y)
  gives_free y = costs.costs_free word v x owed 0 (keeps_give Spares base y)

  breaks_twice : (p : Name) (y : Value Name) → Costs (2 * one p x) (settle N p y)
  breaks_twice p y = let most = share_most owed (one p x) in costs.costs_more word v x owed (share owed (one p x)) (2 * one p x) (omega arith) (settling.costs_settle word v x owed fit.eventual p y)

  -- with what it takes to resolve, and to break, what the turn is to end with
  closes_keeps : (tree : List Node) (act c : ℕ) (o : Option Name) (e : ℕ) (m : Act Name (Value Name)) (s : Vat Name)
      → ((y : Value Name) → Costs c (for_some o (λ p. resolve N p y) (give tt))) → ((t : Words) → Costs c (for_some o (λ p. settle N p (Broken t)) (give tt))) → Ends (At (c + e)) (m s) → Ends (At e) (eval.closes N tree act o m s)
  unfolding eval.closes ending
  closes_keeps tree act c o e m s resolves breaks h = ended c e _ _ _ (m s) h
      (λ y. costs.free_then word v x owed c (keeps_tell Spares base _) (resolves y))
      (λ t. costs.free_then word v x owed c (keeps_tell Spares base _) (breaks t))
      (λ n y. costs.costs_free word v x owed c (keeps_stop Spares base Astray))

  -- a turn takes no more than the message that it takes
  pub taking_keeps : (tree : List Node) (depth : ℕ) (m : Message Name) (e : ℕ) (s : Vat Name) → Sound N s → MessageThere s.lists m → At (2 * answers x m + e) s → Ends (At e) (eval.taking N tree depth m s)
  unfolding eval.taking ◌>>=◌ ◌>>◌ and_then new_activation tell answers
  taking_keeps tree depth m e s sound there g = let t : Vat Name = record s { activations = suc s.activations; happened = s.happened ++ Took s.activations m ∷ [] } in let c : ℕ = 2 * answered_by x m.answer in
      closes_keeps tree s.activations c m.answer e (turn_value N tree (eval.evaluator N tree depth) s.activations m.target m.verb m.args) t
      (λ y. costs.costs_some word v x owed m.answer (λ p. settling.costs_resolve word v x owed fit.eventual p y) (gives_free tt))
      (λ w. costs.costs_some word v x owed m.answer (λ p. breaks_twice p (Broken w)) (gives_free tt))
      (turn_keeps (c + e) tree depth s.activations m t
      (record { things = sound.things; slots = sound.slots; lists = sound.lists; stacked = sound.stacked; queue = sound.queue; known = sound.known; outbox = sound.outbox }) there g)

  abbrev program : List Node → ℕ → ℕ → List (Binding Name) → Act Name (Value Name)
  program tree depth act given = (eval.evaluator N tree depth).expression 0 (record { act = act; nouns = given }) >>= (λ (y : Answer Name). give y.value)

  -- an opening turn takes no more than the root that it resolves
  pub opening_keeps : (tree : List Node) (depth : ℕ) (root : Name) (given : List (Binding Name)) (e : ℕ) (s : Vat Name) → Sound N s → EachOf (NounWell N s.things s.lists) given → At (2 * one root x + e) s → Ends (At e) (eval.opening N tree depth root given s)
  unfolding eval.opening ◌>>=◌ and_then new_activation for_some
  opening_keeps tree depth root given e s sound well g = let t : Vat Name = record s { activations = suc s.activations } in let c : ℕ = 2 * one root x in
      closes_keeps tree s.activations c (Some root) e (program tree depth s.activations given) t (λ y. settling.costs_resolve word v x owed fit.eventual root y) (λ w. breaks_twice root (Broken w)) (program_keeps (c + e) tree depth (record { act = s.activations; nouns = given }) t
      (record { things = sound.things; slots = sound.slots; lists = sound.lists; stacked = sound.stacked; queue = sound.queue; known = sound.known; outbox = sound.outbox }) well g)
