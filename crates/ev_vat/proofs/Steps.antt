-- The steps of a vat are the machine's.
use Rattle.std.proofs.Common.{◌≡◌, ℕ, zero, nat_lt, true, false, List, [], ◌∷◌, ◌++◌, Option, Some, None, Ok, Err, Result, length, refl, sym, ap, subst, ◌∙◌, inl, inr}
use Rattle.std.specs.Prelude.{option_map, OnOk, drop, slice_get}
use Rattle.ev_base.specs.declared.values.Value.{Value as Held}
use Rattle.ev_base.specs.declared.values.Value.TheVariants as held
use Rattle.def_kernel.specs.declared.node.Node.{Node}
use Rattle.def_machine.specs.Calls.{turn_value}
use Rattle.def_machine.specs.Eval.{closes, evaluator, opening, taking}
use Rattle.def_machine.specs.State as machine
use Rattle.def_machine.specs.State.{Done, Gives, Throws, Ejects, Stops, Took, opened_state}
use Rattle.def_machine.specs.Values.{Words, Value, Local, Prom}
use Rattle.ev_vat.specs.Turn.{Ends, GivesThere, LeftBy, evaluated, turn_of}
use Rattle.ev_vat.specs.declared.turn.Ended.{Ended}
use Rattle.ev_vat.specs.declared.turn.Ended.TheVariants as ended
use Rattle.ev_heap.specs.Contents.{Contents}
use Rattle.ev_pass.specs.Acts as inside
use Rattle.ev_pass.specs.Reading.{StandsFor}
use Rattle.ev_pass.specs.declared.interior.Interior.{Interior}
use Rattle.ev_pass.specs.declared.interior.Stop.{Stop}
use Rattle.ev_pass.specs.declared.interior.Stop.TheVariants as stop
use Rattle.ev_refs.specs.Reading.{message_by}
use Rattle.ev_refs.specs.declared.known.Message.{Message}
use Rattle.ev_room.specs.Acts.{Out, new_activation, tell}
use Rattle.ev_room.specs.Holding.{Every, IsOf, MessageOf}
use Rattle.ev_room.specs.Reading.{World, beside, line_of, names, referred_line, text_of, texts_of, value_of, values_of, vat_of}
use Rattle.ev_room.specs.Sound.{Grown, IsSound, Stays, are_there, is_there}
use Rattle.ev_settle.specs.Closing.{finish, throw}
use Rattle.ev_settle.proofs.Closes.{finishes_is, throws_is}
use Rattle.ev_vat.specs.Vat.{Closed, ClosesSo, MessageThere, StepIs, StopsWith, TurnIs, TurnOf, UnlessMemory, closed_by, stop_of, taken, with_queue}
use Rattle.ev_vat.specs.declared.vat.VatStop.{VatStop}
use Rattle.ev_vat.specs.declared.vat.VatStop.TheVariants.{Fuel, Deep, WordRepeated, Astray, Memory}
use Rattle.law_evaluation.proofs.Acts.Inside.{stands}
use Rattle.law_machine.specs.Renamed.Alone.{start}
use Rattle.law_evaluation.proofs.Acts.Sounds.{all_and, all_on, grown_by, grown_on, there_on}
use Rattle.law_evaluation.proofs.Acts.Stands.{Met, itself, activation_met, before_back, tell_met, vat}
use Rattle.law_evaluation.proofs.Acts.Weights.{IsBefore}
use Rattle.law_evaluation.proofs.Acts.Referring.{base_of, ground_of, inside_of, reads_before, sound_after}
use Rattle.law_evaluation.proofs.Acts.Lines.{line_tells}
use Rattle.law_evaluation.proofs.Acts.Sends as holds
use Rattle.law_evaluation.specs.Acts.Kinds.{Anything, EndsOf, InsideOf}

pub closes_by : (q : Result (Unit {0}) Stop) (t : Interior) (out : inside.Out (Unit {0})) → inside.Gives q t out → Closed (closed_by q) t out
unfolding closed_by stop_of
closes_by (Ok u) t out h = h
closes_by (Err stop.Fuel) t out h = h
closes_by (Err (stop.Repeated i j)) t out h = h
closes_by (Err stop.Astray) t out h = inl h
closes_by (Err stop.Missing) t out h = inr h
closes_by (Err stop.Memory) t out h = tt

-- ---- closing

stop_same : {A : Type 0} (x : Done Local A) (c d : machine.Stop) (s t : machine.Vat Local) → x ≡ Stops c s → x ≡ Stops d t → c ≡ d
stop_same x c d s t e f = cc

-- an end of a turn depends on how its evaluation ended, whatever that was
module _ (w : World) (tree : List Node) (act : ℕ) (o : Option ℕ) where
  abbrev ends : machine.Act Local (Value Local) → machine.Act Local (Unit {0})
  ends m = closes (names w) tree act (option_map Prom o) m

  abbrev ends_by : Done Local (Value Local) → Done Local (Unit {0})
  ends_by d = ends (λ s. d) (w.before)

  abbrev came_by : Done Local (Value Local) → Done Local (Value Local)
  came_by d = turn_of (λ s. d) (w.before)

  gave_by : (d : Done Local (Value Local)) (x : Value Local) (t : machine.Vat Local) → came_by d ≡ Gives x t → ends_by d ≡ ends_by (Gives x t)
  unfolding turn_of opened_state
  gave_by (Gives y u) x t h = ap (λ (d : Done Local (Value Local)). ends_by d) h
  gave_by (Throws p u) x t h = absurd (cc)
  gave_by (Ejects n v u) x t h = absurd (cc)
  gave_by (Stops c u) x t h = absurd (cc)

  threw_by : (d : Done Local (Value Local)) (p : Words) (t : machine.Vat Local) → came_by d ≡ Throws p t → ends_by d ≡ ends_by (Throws p t)
  unfolding turn_of opened_state
  threw_by (Gives y u) p t h = absurd (cc)
  threw_by (Throws q u) p t h = ap (λ (d : Done Local (Value Local)). ends_by d) h
  threw_by (Ejects n v u) p t h = absurd (cc)
  threw_by (Stops c u) p t h = absurd (cc)

  stopped_by : (d : Done Local (Value Local)) (c : machine.Stop) (t : machine.Vat Local) → came_by d ≡ Stops c t → StopsWith c (ends_by d)
  unfolding turn_of closes opened_state
  stopped_by (Gives y u) c t h = absurd (cc)
  stopped_by (Throws q u) c t h = absurd (cc)
  stopped_by (Ejects n v u) c t h = (u, ap (λ (e : machine.Stop). Stops e u) (stop_same (came_by (Ejects n v u)) machine.Astray c u t refl h))
  stopped_by (Stops e u) c t h = (u, ap (λ (d : machine.Stop). Stops d u) (stop_same (came_by (Stops e u)) e c u t refl h))

  -- what the end of a turn does in the machine, by what evaluation came to
  end_is : (m : machine.Act Local (Value Local)) (s : machine.Vat Local) → ends m s ≡ ends_by (m s)
  unfolding closes opened_state
  end_is m s = refl

  turn_is : (m : machine.Act Local (Value Local)) (s : machine.Vat Local) → turn_of m s ≡ came_by (m s)
  unfolding turn_of opened_state
  turn_is m s = refl

-- ---- what acts on references end

-- what holds of each end but want of memory holds of it, of which nothing is said
step_unless : (w : World) (r : Result (Unit {0}) VatStop) (t : Interior) (d : Done Local (Unit {0})) (A : Type 0) → UnlessMemory r A → (A → StepIs w r t d) → StepIs w r t d
step_unless w (Ok u) t d A a f = f a
step_unless w (Err Fuel) t d A a f = f a
step_unless w (Err Deep) t d A a f = f a
step_unless w (Err (WordRepeated i j)) t d A a f = f a
step_unless w (Err Astray) t d A a f = f a
step_unless w (Err Memory) t d A a f = tt

unless_map : (r : Result (Unit {0}) VatStop) (A B : Type 0) → (A → B) → UnlessMemory r A → UnlessMemory r B
unless_map (Ok u) A B f a = f a
unless_map (Err Fuel) A B f a = f a
unless_map (Err Deep) A B f a = f a
unless_map (Err (WordRepeated i j)) A B f a = f a
unless_map (Err Astray) A B f a = f a
unless_map (Err Memory) A B f a = tt

unless_all : (r : Result (Unit {0}) VatStop) (A : Type 0) → A → UnlessMemory r A
unless_all (Ok u) A a = a
unless_all (Err Fuel) A a = a
unless_all (Err Deep) A a = a
unless_all (Err (WordRepeated i j)) A a = a
unless_all (Err Astray) A a = a
unless_all (Err Memory) A a = tt

-- what the acts of a vat leave, and what they stand for
module _ (w : World) (s : Interior) where
  abbrev Leaves : inside.Out (Unit {0}) → Type 0
  Leaves out = EndsOf (is_there s.heap) (base_of s) Anything out

  abbrev Means : inside.Out (Unit {0}) → Done Local (Unit {0}) → Type 0
  Means out d = StandsFor (texts_of w) w.key (line_of w) (beside w s) (λ (u : Unit {0}). u) out d

  grown_in : (t : Interior) → InsideOf (is_there s.heap) (base_of s) t → Grown s.heap t.heap
  grown_in t g = grown_by s.heap t.heap (ap (λ (x : Contents). x.texts) g.heap) (ap (λ (x : Contents). x.lists) g.heap)

  earlier : (t : Interior) → InsideOf (is_there s.heap) (base_of s) t → IsBefore w t → IsBefore w s
  earlier t g b = before_back w s t (grown_in t g) g.key b

  done_is : (t : Interior) (d : Done Local (Unit {0})) → Leaves (Ok tt, t) → (IsBefore w s → Means (Ok tt, t) d) → IsBefore w t → d ≡ Gives tt (vat w t)
  done_is t d g h b = (h (earlier t g.1 b)).0 ∙ ap (Gives tt) (sym (stands w s t g.1.heap))

  -- an act on references stands for what the machine does, and so does the step that it ends
  closed_is : (out : inside.Out (Unit {0})) (d : Done Local (Unit {0})) (r : Result (Unit {0}) VatStop) (t : Interior)
      → Leaves out → (IsBefore w s → Means out d) → Closed r t out → IsBefore w t → StepIs w r t d
  closed_is out d (Ok u) t g h c b = done_is t d (subst Leaves c g) (λ f. subst (λ (x : inside.Out (Unit {0})). Means x d) c (h f)) b
  closed_is out d (Err Fuel) t g h c b =
      let k : Leaves (Err stop.Fuel, t) = subst Leaves c g in
      (_, subst (λ (x : inside.Out (Unit {0})). Means x d) c (h (earlier t k.1 b)))
  closed_is out d (Err Deep) t g h c b = absurd c
  closed_is out d (Err (WordRepeated i j)) t g h c b =
      let k : Leaves (Err (stop.Repeated i j), t) = subst Leaves c g in
      (_, subst (λ (x : inside.Out (Unit {0})). Means x d) c (h (earlier t k.1 b)))
  closed_is out d (Err Astray) t g h (inl c) b =
      let k : Leaves (Err stop.Astray, t) = subst Leaves c g in
      (_, subst (λ (x : inside.Out (Unit {0})). Means x d) c (h (earlier t k.1 b)))
  closed_is out d (Err Astray) t g h (inr c) b =
      let k : Leaves (Err stop.Missing, t) = subst Leaves c g in
      absurd k.0
  closed_is out d (Err Memory) t g h c b = tt

  -- what it leaves is on the same ground, unless memory ran out
  closed_inside : (out : inside.Out (Unit {0})) (r : Result (Unit {0}) VatStop) (t : Interior) → Leaves out → Closed r t out → UnlessMemory r (InsideOf (is_there s.heap) (base_of s) t)
  closed_inside out (Ok u) t g c = (subst Leaves c g).1
  closed_inside out (Err Fuel) t g c = (subst Leaves c g).1
  closed_inside out (Err Deep) t g c = absurd c
  closed_inside out (Err (WordRepeated i j)) t g c = (subst Leaves c g).1
  closed_inside out (Err Astray) t g (inl c) = (subst Leaves c g).1
  closed_inside out (Err Astray) t g (inr c) = (subst Leaves c g).1
  closed_inside out (Err Memory) t g c = tt

-- ---- the end of a turn

module _ (w : World) (tree : List Node) (act : ℕ) (o : Option ℕ) (s : Interior) where
  finishing : (v : Held) → IsSound s → is_there s.heap v ≡ true → Leaves w s (finish act o v s)
  finishing v sound i = holds.finishes (is_there s.heap) (base_of s) s (ground_of s sound) (inside_of s sound) act o v i

  throwing : (id : ℕ) → IsSound s → nat_lt id (length s.heap.texts) ≡ true → Leaves w s (throw act o id s)
  throwing id sound i = holds.throws (is_there s.heap) (base_of s) s (ground_of s sound) (inside_of s sound) act o id i

  -- what gives a value, and what throws, ends as the act on references does that closes it
  value_means : (v : Held) (m : machine.Act Local (Value Local)) (u : machine.Vat Local) → IsSound s → IsBefore w s → turn_of m u ≡ Gives (value_of w v) (vat w s)
      → Means w s (finish act o v s) (closes (names w) tree act (option_map Prom o) m u)
  unfolding vat_of machine.give
  value_means v m u sound b h =
      subst (Means w s (finish act o v s)) (sym (end_is w tree act o m u ∙ gave_by w tree act o (m u) (value_of w v) (vat w s) (sym (turn_is w tree act o m u) ∙ h) ∙ sym (end_is w tree act o (machine.give (value_of w v)) (vat w s))))
      (finishes_is (texts_of w) w.key (line_of w) (beside w s) (line_tells w) tree act o v s (reads_before s sound w b))

  problem_means : (id : ℕ) (m : machine.Act Local (Value Local)) (u : machine.Vat Local) → IsSound s → IsBefore w s → turn_of m u ≡ Throws (text_of w id) (vat w s)
      → Means w s (throw act o id s) (closes (names w) tree act (option_map Prom o) m u)
  unfolding vat_of machine.throw
  problem_means id m u sound b h =
      subst (Means w s (throw act o id s)) (sym (end_is w tree act o m u ∙ threw_by w tree act o (m u) (text_of w id) (vat w s) (sym (turn_is w tree act o m u) ∙ h) ∙ sym (end_is w tree act o (machine.throw (text_of w id)) (vat w s))))
      (throws_is (texts_of w) w.key (line_of w) (beside w s) (line_tells w) tree act o id s (reads_before s sound w b))

  stop_means : (c : machine.Stop) (m : machine.Act Local (Value Local)) (u v : machine.Vat Local) → turn_of m u ≡ Stops c v → StopsWith c (closes (names w) tree act (option_map Prom o) m u)
  stop_means c m u v h = subst (StopsWith c) (sym (end_is w tree act o m u)) (stopped_by w tree act o (m u) c v (sym (turn_is w tree act o m u) ∙ h))

  -- how a turn ends is how the machine ends it, by how evaluation ended
  turn_closes : (e : Ended) (m : machine.Act Local (Value Local)) (u : machine.Vat Local) (r : Result (Unit {0}) VatStop) (t : Interior)
      → LeftBy e s → GivesThere s.heap e → (IsBefore w s → Ends w (Ok e) s (turn_of m u)) → ClosesSo e act o r s t → IsBefore w t → StepIs w r t (closes (names w) tree act (option_map Prom o) m u)
  turn_closes (ended.Value v) m u r t sound i h c b =
      closed_is w s (finish act o v s) _ r t (finishing v sound i) (λ f. value_means v m u sound f (h f)) c b
  turn_closes (ended.Thrown id) m u r t sound i h c b =
      closed_is w s (throw act o id s) _ r t (throwing id sound i) (λ f. problem_means id m u sound f (h f)) c b
  turn_closes ended.Fuel m u r t sound i h c b =
      subst (λ (x : Result (Unit {0}) VatStop). StepIs w x t (closes (names w) tree act (option_map Prom o) m u)) (sym c.0) (stop_means machine.Fuel m u (vat w s) (h (subst (IsBefore w) c.1 b)))
  turn_closes ended.Deep m u r t sound i h c b =
      subst (λ (x : Result (Unit {0}) VatStop). StepIs w x t (closes (names w) tree act (option_map Prom o) m u)) (sym c.0) (stop_means machine.Deep m u (vat w s) (h (subst (IsBefore w) c.1 b)))
  turn_closes (ended.Repeated x y) m u r t sound i h c b =
      subst (λ (x : Result (Unit {0}) VatStop). StepIs w x t (closes (names w) tree act (option_map Prom o) m u)) (sym c.0) (stop_means (machine.Repeated x y) m u (vat w s) (h (subst (IsBefore w) c.1 b)))
  turn_closes ended.Astray m u r t sound i h c b =
      subst (λ (x : Result (Unit {0}) VatStop). StepIs w x t (closes (names w) tree act (option_map Prom o) m u)) (sym c.0) (stop_means machine.Astray m u (vat w s) (h (subst (IsBefore w) c.1 b)))

  -- a turn leaves the heap as its evaluation left it, and the key, unless memory ran out
  abbrev Kept : Interior → Type 0
  Kept t = (t.heap ≡ s.heap) × (t.words.key ≡ s.words.key)

  turn_keeps : (e : Ended) (r : Result (Unit {0}) VatStop) (t : Interior) → LeftBy e s → GivesThere s.heap e → ClosesSo e act o r s t → UnlessMemory r (Kept t)
  turn_keeps (ended.Value v) r t sound i c = unless_map r _ (Kept t) (λ g. (g.heap, g.key)) (closed_inside w s (finish act o v s) r t (finishing v sound i) c)
  turn_keeps (ended.Thrown id) r t sound i c = unless_map r _ (Kept t) (λ g. (g.heap, g.key)) (closed_inside w s (throw act o id s) r t (throwing id sound i) c)
  turn_keeps ended.Fuel r t sound i c = unless_all r (Kept t) (ap (λ (x : Interior). x.heap) c.1, ap (λ (x : Interior). x.words.key) c.1)
  turn_keeps ended.Deep r t sound i c = unless_all r (Kept t) (ap (λ (x : Interior). x.heap) c.1, ap (λ (x : Interior). x.words.key) c.1)
  turn_keeps (ended.Repeated x y) r t sound i c = unless_all r (Kept t) (ap (λ (x : Interior). x.heap) c.1, ap (λ (x : Interior). x.words.key) c.1)
  turn_keeps ended.Astray r t sound i c = unless_all r (Kept t) (ap (λ (x : Interior). x.heap) c.1, ap (λ (x : Interior). x.words.key) c.1)

  closed_sound : (sound : IsSound s) (out : inside.Out (Unit {0})) (r : Result (Unit {0}) VatStop) (t : Interior) → Leaves w s out → Closed r t out → OnOk r (IsSound t)
  closed_sound sound out (Ok u) t g c = sound_after s sound t (closed_inside w s out (Ok u) t g c)
  closed_sound sound out (Err x) t g c = tt

  -- what is left is sound where it came to its end
  turn_sound : (e : Ended) (r : Result (Unit {0}) VatStop) (t : Interior) → LeftBy e s → GivesThere s.heap e → ClosesSo e act o r s t → OnOk r (IsSound t)
  turn_sound (ended.Value v) r t sound i c = closed_sound sound (finish act o v s) r t (finishing v sound i) c
  turn_sound (ended.Thrown id) r t sound i c = closed_sound sound (throw act o id s) r t (throwing id sound i) c
  turn_sound ended.Fuel r t sound i c = subst (λ (x : Result (Unit {0}) VatStop). OnOk x (IsSound t)) (sym c.0) tt
  turn_sound ended.Deep r t sound i c = subst (λ (x : Result (Unit {0}) VatStop). OnOk x (IsSound t)) (sym c.0) tt
  turn_sound (ended.Repeated x y) r t sound i c = subst (λ (x : Result (Unit {0}) VatStop). OnOk x (IsSound t)) (sym c.0) tt
  turn_sound ended.Astray r t sound i c = subst (λ (x : Result (Unit {0}) VatStop). OnOk x (IsSound t)) (sym c.0) tt

-- ---- whole turns

-- what is said of the evaluation of a turn
pub record Evaluates (tree : List Node) (s t : Interior) (e : Ended) (m : World → machine.Act Local (Value Local)) : Type 0 where
  pub turn : (w : World) (rest : List Words) → texts_of w ≡ t.heap.texts ++ rest → s.words.key ≡ w.key → Ends w (Ok e) t (turn_of (m w) (vat w s))
  pub grown : Grown s.heap t.heap
  pub stays : Stays s t
  pub left : LeftBy e t
  pub there : GivesThere t.heap e

-- of what does not depend on it
abbrev any : World
any = record { before = start zero; texts = []; key = [] }

-- the texts of an inside are a front of those of the end
before_by : (w : World) (v : Interior) (rest : List Words) → texts_of w ≡ v.heap.texts ++ rest → v.words.key ≡ w.key → IsBefore w v
before_by w v rest e k = ((rest, e), k)

module _ (tree : List Node) (act : ℕ) (o : Option ℕ) (s t u v : Interior) (e : Ended) (r : Result (Unit {0}) VatStop) (m : World → machine.Act Local (Value Local))
    (from : Stays s t) (ev : Evaluates tree t u e m) (c : ClosesSo e act o r u v) where
  -- how a turn ends whose evaluation began in an inside, is the machine's
  ends_turn : (w : World) (rest : List Words) → texts_of w ≡ v.heap.texts ++ rest → s.words.key ≡ w.key → (d : Done Local (Unit {0}))
      → (IsBefore w v → IsBefore w t → d ≡ closes (names w) tree act (option_map Prom o) (m w) (vat w t)) → StepIs w r v d
  ends_turn w rest before key d is =
      step_unless w r v d _ (turn_keeps w tree act o u e r v ev.left ev.there c)
      (λ k. let b : IsBefore w v = before_by w v rest before (k.1 ∙ ev.stays ∙ from ∙ key) in
      let f : IsBefore w u = before_back w u v (grown_by u.heap v.heap (ap (λ (x : Contents). x.texts) k.0) (ap (λ (x : Contents). x.lists) k.0)) k.1 b in
      let g : IsBefore w t = before_back w t u ev.grown ev.stays f in
      subst (StepIs w r v) (sym (is b g))
      (turn_closes w tree act o u e (m w) (vat w t) r v ev.left ev.there (λ x. ev.turn w x.0.0 x.0.1 (sym ev.stays ∙ x.1)) c b))

  ends_grown : Grown s.heap t.heap → UnlessMemory r (Grown s.heap v.heap)
  ends_grown g = unless_map r _ (Grown s.heap v.heap) (λ (k : (v.heap ≡ u.heap) × (v.words.key ≡ u.words.key)). grown_on g (grown_on ev.grown (grown_by u.heap v.heap (ap (λ (x : Contents). x.texts) k.0) (ap (λ (x : Contents). x.lists) k.0)))) (turn_keeps any tree act o u e r v ev.left ev.there c)

  ends_stays : UnlessMemory r (Stays s v)
  ends_stays = unless_map r _ (Stays s v) (λ (k : (v.heap ≡ u.heap) × (v.words.key ≡ u.words.key)). k.1 ∙ ev.stays ∙ from) (turn_keeps any tree act o u e r v ev.left ev.there c)

  ends_sound : OnOk r (IsSound v)
  ends_sound = turn_sound any tree act o u e r v ev.left ev.there c

-- ---- an activation begins

module _ (x : Held) (s t : Interior) (act : ℕ) (sound : IsSound s) (begun : new_activation x s ≡ (Ok act, t)) where
  begun_met : (w : World) → Met w itself s (Ok act, t) (machine.new_activation (vat w s))
  begun_met w = subst (λ (o : Out ℕ). Met w itself s o (machine.new_activation (vat w s))) begun (activation_met w x s sound)

  pub begun_sound : IsSound t
  begun_sound = (begun_met any).keeps.0

  begun_grown : Grown s.heap t.heap
  begun_grown = (begun_met any).grown

-- ---- the opening turn

module _ (tree : List Node) (depth : ℕ) where
  opening_is : (w : World) (given : List (machine.Binding Local)) (s : machine.Vat Local)
      → opening (names w) tree depth (Prom 0) given s ≡ machine.and_then (machine.new_activation s) (λ a. closes (names w) tree a (Some (Prom 0)) (evaluated (names w) tree depth given a))
  unfolding opening machine.◌>>=◌ evaluated
  opening_is w given s = refl

  begins_so : (w : World) (act : ℕ) (d : Done Local ℕ) (t : machine.Vat Local) (f : ℕ → machine.Act Local (Unit {0})) → d ≡ Gives act t → machine.and_then d f ≡ f act t
  unfolding machine.and_then
  begins_so w act d t f e = rw e refl

module _ (s t u v : Interior) (tree : List Node) (depth act : ℕ) (given : List (machine.Binding Local)) (e : Ended) (r : Result (Unit {0}) VatStop)
    (sound : IsSound s) (begun : new_activation held.Null s ≡ (Ok act, t))
    (turn : (w : World) (rest : List Words) → texts_of w ≡ u.heap.texts ++ rest → t.words.key ≡ w.key → Ends w (Ok e) u (turn_of (evaluated (names w) tree depth given act) (vat_of w t)))
    (grown : Grown t.heap u.heap) (stays : Stays t u) (left : LeftBy e u) (there : GivesThere u.heap e) (c : ClosesSo e act (Some 0) r u v) where
  evaluates : Evaluates tree t u e (λ w. evaluated (names w) tree depth given act)
  evaluates = record { turn = turn; grown = grown; stays = stays; left = left; there = there }

  from : Stays s t
  from = (begun_met held.Null s t act sound begun any).stays

  pub opens : (w : World) (rest : List Words) → texts_of w ≡ v.heap.texts ++ rest → s.words.key ≡ w.key → StepIs w r v (opening (names w) tree depth (Prom 0) given (vat_of w s))
  opens w rest before key =
      ends_turn tree act (Some 0) s t u v e r (λ w. evaluated (names w) tree depth given act) from evaluates c w rest before key _
      (λ b g. opening_is tree depth w given (vat w s) ∙ begins_so tree depth w act (machine.new_activation (vat w s)) (vat w t) _ ((begun_met held.Null s t act sound begun w).is g))

  pub opens_grown : UnlessMemory r (Grown s.heap v.heap)
  opens_grown = ends_grown tree act (Some 0) s t u v e r (λ w. evaluated (names w) tree depth given act) from evaluates c (begun_grown held.Null s t act sound begun)

  pub opens_stays : UnlessMemory r (Stays s v)
  opens_stays = ends_stays tree act (Some 0) s t u v e r (λ w. evaluated (names w) tree depth given act) from evaluates c

  pub opens_sound : OnOk r (IsSound v)
  opens_sound = ends_sound tree act (Some 0) s t u v e r (λ w. evaluated (names w) tree depth given act) from evaluates c

-- ---- a turn that takes a message

taken_line : (w : World) (act : ℕ) (m : Message) → line_of w (taken act m) ≡ Took act (message_by (texts_of w) m) ∷ []
unfolding line_of referred_line
taken_line w act m = refl

module _ (m : Message) (s t y : Interior) (act : ℕ) (sound : IsSound s) (begun : new_activation m.target s ≡ (Ok act, t)) (told : tell (taken act m) t ≡ (Ok tt, y)) where
  told_met : (w : World) → Met w itself t (Ok tt, y) (machine.tell (Took act (message_by (texts_of w) m)) (vat w t))
  told_met w = subst (λ (o : Out (Unit {0})). Met w itself t o (machine.tell (Took act (message_by (texts_of w) m)) (vat w t))) told (tell_met w (taken act m) _ t (begun_sound m.target s t act sound begun) (taken_line w act m))

  pub told_sound : IsSound y
  told_sound = (told_met any).keeps.0

  told_grown : Grown s.heap y.heap
  told_grown = grown_on (begun_grown m.target s t act sound begun) (told_met any).grown

  told_stays : Stays s y
  told_stays = (told_met any).stays ∙ (begun_met m.target s t act sound begun any).stays

  pub target_there : MessageThere s.heap m → is_there y.heap m.target ≡ true
  target_there i = there_on told_grown m.target i.0

  pub args_there : MessageThere s.heap m → are_there y.heap m.args ≡ true
  args_there i = all_on told_grown m.args i.1

  module _ (u v : Interior) (tree : List Node) (depth : ℕ) (e : Ended) (r : Result (Unit {0}) VatStop)
      (turn : (w : World) (rest : List Words) → texts_of w ≡ u.heap.texts ++ rest → y.words.key ≡ w.key
      → Ends w (Ok e) u (turn_of (turn_value (names w) tree (evaluator (names w) tree depth) act (value_of w m.target) m.verb (values_of w m.args)) (vat_of w y)))
      (grown : Grown y.heap u.heap) (stays : Stays y u) (left : LeftBy e u) (there : GivesThere u.heap e) (c : ClosesSo e act m.answer r u v) where
    abbrev runs : World → machine.Act Local (Value Local)
    runs w = turn_value (names w) tree (evaluator (names w) tree depth) act (value_of w m.target) m.verb (values_of w m.args)

    runs_so : Evaluates tree y u e runs
    runs_so = record { turn = turn; grown = grown; stays = stays; left = left; there = there }

    taking_is : (w : World) (x : machine.Vat Local)
        → taking (names w) tree depth (message_by (texts_of w) m) x
        ≡ machine.and_then (machine.new_activation x) (λ a z. machine.and_then (machine.tell (Took a (message_by (texts_of w) m)) z)
        (λ k. closes (names w) tree a (option_map Prom m.answer) (turn_value (names w) tree (evaluator (names w) tree depth) a (value_of w m.target) m.verb (values_of w m.args))))
    unfolding taking machine.◌>>=◌ machine.◌>>◌
    taking_is w x = refl

    told_so : (w : World) (d : Done Local (Unit {0})) (z : machine.Vat Local) (f : Unit {0} → machine.Act Local (Unit {0})) → d ≡ Gives tt z → machine.and_then d f ≡ f tt z
    unfolding machine.and_then
    told_so w d z f h = rw h refl

    pub takes : (w : World) (rest : List Words) → texts_of w ≡ v.heap.texts ++ rest → s.words.key ≡ w.key → StepIs w r v (taking (names w) tree depth (message_by (texts_of w) m) (vat_of w s))
    takes w rest before key =
        ends_turn tree act m.answer s y u v e r runs told_stays runs_so c w rest before key _
        (λ b g. taking_is w (vat w s)
        ∙ begins_so tree depth w act (machine.new_activation (vat w s)) (vat w t) _ ((begun_met m.target s t act sound begun w).is (before_back w t y (told_met any).grown (told_met any).stays g))
        ∙ told_so w (machine.tell (Took act (message_by (texts_of w) m)) (vat w t)) (vat w y) _ ((told_met w).is g))

    pub takes_grown : UnlessMemory r (Grown s.heap v.heap)
    takes_grown = ends_grown tree act m.answer s y u v e r runs told_stays runs_so c told_grown

    pub takes_stays : UnlessMemory r (Stays s v)
    takes_stays = ends_stays tree act m.answer s y u v e r runs told_stays runs_so c

    pub takes_sound : OnOk r (IsSound v)
    takes_sound = ends_sound tree act m.answer s y u v e r runs told_stays runs_so c

-- ---- the queue

-- a message of a vat that is sound stands in the heap
every_there : (h : Contents) (vs : List Held) → Every (IsOf (is_there h)) vs → are_there h vs ≡ true
every_there h [] i = refl
every_there h (v ∷ vs) i = all_and (is_there h v) (are_there h vs) i.0 (every_there h vs i.1)

front_of : (q : List Message) (m : Message) → slice_get q 0 ≡ Some m → q ≡ m ∷ drop 1 q
front_of [] m e = absurd (cc)
front_of (x ∷ q) m e = cc

module _ (s : Interior) (m : Message) (first : slice_get s.refs.queue 0 ≡ Some m) where
  abbrev taken_out : Interior
  taken_out = with_queue (drop 1 s.refs.queue) s

  in_front : IsSound s → Every (MessageOf (is_there s.heap)) (m ∷ drop 1 s.refs.queue)
  in_front sound = subst (Every (MessageOf (is_there s.heap))) (front_of s.refs.queue m first) sound.refs.queue

  pub front_there : IsSound s → MessageThere s.heap m
  front_there sound = let i = (in_front sound).0 in (i.0, every_there s.heap m.args i.1)

  -- without its first message it is sound
  pub front_sound : IsSound s → IsSound taken_out
  front_sound sound = sound_after s sound taken_out (record { heap = refl; refs = record { known = sound.refs.known; queue = (in_front sound).1; partition = refl; cycle = refl }; heavy = refl; key = refl })

  pub turn_takes : (w : World) (tree : List Node) (depth : ℕ) (t : Interior) → StepIs w (Ok tt) t (taking (names w) tree depth (message_by (texts_of w) m) (vat_of w taken_out)) → TurnIs w tree depth (Ok true) s t
  turn_takes w tree depth t h = subst (TurnOf w tree depth (Ok true) s t) (sym (front_of s.refs.queue m first)) h

  pub turn_stops : (w : World) (tree : List Node) (depth : ℕ) (t : Interior) (e : VatStop) → StepIs w (Err e) t (taking (names w) tree depth (message_by (texts_of w) m) (vat_of w taken_out)) → TurnIs w tree depth (Err e) s t
  turn_stops w tree depth t e h = subst (TurnOf w tree depth (Err e) s t) (sym (front_of s.refs.queue m first)) h

none_left : (q : List Message) → slice_get q 0 ≡ None → q ≡ []
none_left [] e = refl
none_left (m ∷ q) e = absurd (cc)

-- where no message waits, a turn is idle
pub turn_idle : (w : World) (tree : List Node) (depth : ℕ) (s t : Interior) → slice_get s.refs.queue 0 ≡ None → t ≡ with_queue (drop 1 s.refs.queue) s → TurnIs w tree depth (Ok false) s t
turn_idle w tree depth s t none e =
    subst (TurnOf w tree depth (Ok false) s t) (sym (none_left s.refs.queue none))
    (refl, e ∙ ap (λ (q : List Message). with_queue (drop 1 q) s) (none_left s.refs.queue none) ∙ ap (λ (q : List Message). with_queue q s) (sym (none_left s.refs.queue none)))
