-- Calls on primitives: what the code does is what the machine does.
use Rattle.std.proofs.Common.{◌≡◌, ℕ, zero, suc, ◌+◌, nat_le, nat_lt, ℤ, pos, ◌+ℤ◌, Bool, true, false, List, [], ◌∷◌, Option, Some, None, length, refl, ap, ◌∙◌, arith}
use Rattle.std.specs.Prelude.{codes, if◌then◌else◌}
use Rattle.std.specs.Str.{bytes_eq}
use Rattle.std.proofs.lemmas.List.{length-map}
use Rattle.ev_base.specs.declared.values.Value.{Value as Held}
use Rattle.ev_base.specs.declared.values.Value.TheVariants as held
use Rattle.ev_heap.specs.Contents.{Contents}
use Rattle.def_kernel.specs.declared.node.Node.{Node}
use Rattle.def_machine.specs.Values.{Words, Value, Flag, Text, Broken, Items, Local}
use Rattle.def_machine.specs.State.{Vat, opened_state}
use Rattle.def_machine.specs.State as machine
use Rattle.def_machine.specs.Refs.{follow}
use Rattle.def_machine.specs.Native as native
use Rattle.def_machine.specs.Scopes as scopes
use Rattle.def_machine.specs.Perform as perform
use Rattle.ev_prims.specs.Asking.{asked_with}
use Rattle.def_machine.specs.Free.{same_words}
use Rattle.ev_steps.specs.Eventual.{short_message, message_in}
use Rattle.ev_refs.specs.Follow.{followed}
use Rattle.ev_prims.specs.Answers.{members_at}
use Rattle.ev_prims.specs.declared.asking.RefTest.{RefTest}
use Rattle.ev_prims.specs.Asks.{where_named, ranges, compares, tells, guard_one, primitive_at, asks_none, asks_one, asks_two, asks_three, asks_more, asked_by, asked_of}
use Rattle.ev_prims.specs.Forms.{args_of}
use Rattle.ev_prims.specs.Orders.{test_in, compared_by}
use Rattle.ev_prims.specs.Ranges.{counted_from, so_many, range_answer}
use Rattle.ev_prims.specs.Reading.{text_in, value_by, reply_by}
use Rattle.ev_prims.specs.Verbs.{range_named, ref_test_named, test_named}
use Rattle.ev_prims.specs.declared.asking.Asked.{Asked}
use Rattle.ev_prims.specs.declared.asking.Asked.TheVariants as ask
use Rattle.ev_prims.specs.Primitives.{primitive_in}
use Rattle.ev_prims.specs.declared.order.Test.{Test}
use Rattle.ev_prims.specs.declared.primitives.Rule.{Rule}
use Rattle.ev_prims.specs.declared.primitives.Guard.{Guard}
use Rattle.ev_prims.specs.declared.primitives.Kind.{Kind}
use Rattle.ev_prims.specs.declared.primitives.Kind.TheVariants as kind
use Rattle.ev_prims.specs.declared.primitives.Primitive.{Primitive}
use Rattle.ev_prims.specs.declared.primitives.Primitive.TheVariants.{MakeList, Equalizer, Comparer, Looper, Sender, References, Thrower, StampReader, Guarding, Judging, NoPrimitive}
use Rattle.ev_prims.specs.declared.problem.Problem.TheVariants.{NotBoolean, NoMethod, Unthrowable}
use Rattle.ev_prims.proofs.RangeAnswers.{range_means}
use Rattle.law_evaluation.proofs.Evaluation.Alike.{unsettled_or, same_reply_is}
use Rattle.ev_steps.specs.Same.{is_open, is_same, same_unless, same_ever}
use Rattle.law_evaluation.proofs.Acts.Promises.{promise_met, broken_met, test_met}
use Rattle.law_evaluation.proofs.Acts.EventualSends.{send_met, when_met, bad_message_met}
use Rattle.law_evaluation.proofs.Evaluation.Asks.{asked_is}
use Rattle.law_evaluation.proofs.Evaluation.Coercing.{guard_coerced_met}
use Rattle.ev_room.specs.declared.exit.Exit.TheVariants as exit
use Rattle.ev_pass.specs.declared.interior.Interior.{Interior as Room}
use Rattle.ev_room.specs.Reading.{World, names, text_of, value_of, values_of, vat_of}
use Rattle.ev_room.specs.Coercion.{null_or}
use Rattle.ev_room.specs.Sound.{IsSound, not_settled_id, is_there, are_there}
use Rattle.ev_steps.specs.Steps.{Caller, replied, after_turn, turns, loop, pair_there, compared_there, compared_at, compared, called_with, performed}
use Rattle.ev_room.specs.Acts.{Act, ◌>>=◌, give, fail, fails, is_stamped, thrown_id}
use Rattle.law_evaluation.proofs.Evaluation.Calls.{CallsMet, replied_met}
use Rattle.law_evaluation.proofs.Acts.Frozen.{stamped_is}
use Rattle.law_evaluation.proofs.Acts.Coercing.{fits_null_or, null_or_means, primitive_is}
use Rattle.law_evaluation.proofs.Acts.Replies.{Fits, each_of, members_there}
use Rattle.law_evaluation.proofs.Acts.Sounds.{grown_same, there_on, all_and}
use Rattle.law_evaluation.proofs.Acts.Following.{followed_there}
use Rattle.law_evaluation.proofs.Acts.Stands.{Met, vat, a_value, met_by, then_met, give_met, throw_met, fails_met, list_met, known_there, members_are, follow_is}
use Rattle.ev_room.proofs.There.{both}
use Rattle.law_evaluation.proofs.Acts.Weights.{IsFront, same_text}

-- ---- what is asked is of values that stand there

abbrev Good : Contents → Asked → Type 0
Good h (ask.Ranges last x y) = (is_there h x ≡ true) × (is_there h y ≡ true)
Good h (ask.Same x y) = (is_there h x ≡ true) × (is_there h y ≡ true)
Good h (ask.Compares t x y) = (is_there h x ≡ true) × (is_there h y ≡ true)
Good h (ask.Loops f) = is_there h f ≡ true
Good h (ask.SendsTo only x v l) = (is_there h x ≡ true) × ((is_there h v ≡ true) × (is_there h l ≡ true))
Good h (ask.CallsTo x v l) = (is_there h x ≡ true) × ((is_there h v ≡ true) × (is_there h l ≡ true))
Good h (ask.Breaks x) = is_there h x ≡ true
Good h (ask.Tells test x) = is_there h x ≡ true
Good h (ask.Whens x o) = (is_there h x ≡ true) × (is_there h o ≡ true)
Good h (ask.ThrowsIt v) = is_there h v ≡ true
Good h (ask.Coerces g x j) = (is_there h x ≡ true) × (is_there h j ≡ true)
Good h (ask.AddsNull x) = is_there h x ≡ true
Good h other = Unit {0}

module _ (h : Contents) where
  good_if : (b : Bool) (x y : Asked) → Good h x → Good h y → Good h (if b then x else y)
  good_if true x y g k = g
  good_if false x y g k = k

  good_where : (name : Words) (x : Asked) (verb : Words) → Good h x → Good h (where_named name x verb)
  good_where name x verb g = good_if (bytes_eq verb name) x ask.NoMethod g tt

  good_ranges : (o : Option Bool) (a b : Held) → is_there h a ≡ true → is_there h b ≡ true → Good h (ranges o a b)
  good_ranges (Some last) a b i j = (i, j)
  good_ranges None a b i j = tt

  good_compares : (o : Option Test) (a b : Held) → is_there h a ≡ true → is_there h b ≡ true → Good h (compares o a b)
  good_compares (Some t) a b i j = (i, j)
  good_compares None a b i j = tt

  good_list : (verb : Words) (xs : List Held) → are_there h xs ≡ true → Good h (asked_by MakeList verb (args_of xs))
  unfolding args_of asks_none asks_one asks_two asks_three asks_more asked_by
  good_list verb (a ∷ b ∷ []) i =
      let s = both (is_there h a) (are_there h (b ∷ [])) i in
      let t = both (is_there h b) true s.1 in
      good_if (bytes_eq verb (codes "run")) ask.MakesList (ranges (range_named verb) a b) tt (good_ranges (range_named verb) a b s.0 t.0)
  good_list verb (a ∷ b ∷ c ∷ []) i = good_where (codes "run") ask.MakesList verb tt
  good_list verb other i = good_where (codes "run") ask.MakesList verb tt

  good_equalizer : (verb : Words) (xs : List Held) → are_there h xs ≡ true → Good h (asked_by Equalizer verb (args_of xs))
  unfolding args_of asks_none asks_one asks_two asks_three asks_more asked_by
  good_equalizer verb (a ∷ b ∷ []) i =
      let s = both (is_there h a) (are_there h (b ∷ [])) i in
      let t = both (is_there h b) true s.1 in
      good_where (codes "sameEver") (ask.Same a b) verb (s.0, t.0)
  good_equalizer verb (a ∷ b ∷ c ∷ []) i = tt
  good_equalizer verb other i = tt

  good_comparer : (verb : Words) (xs : List Held) → are_there h xs ≡ true → Good h (asked_by Comparer verb (args_of xs))
  unfolding args_of asks_none asks_one asks_two asks_three asks_more asked_by
  good_comparer verb (a ∷ b ∷ []) i =
      let s = both (is_there h a) (are_there h (b ∷ [])) i in
      let t = both (is_there h b) true s.1 in
      good_compares (test_named verb) a b s.0 t.0
  good_comparer verb (a ∷ b ∷ c ∷ []) i = tt
  good_comparer verb other i = tt

  good_looper : (verb : Words) (xs : List Held) → are_there h xs ≡ true → Good h (asked_by Looper verb (args_of xs))
  unfolding args_of asks_none asks_one asks_two asks_three asks_more asked_by
  good_looper verb (a ∷ []) i = good_where (codes "run") (ask.Loops a) verb (both (is_there h a) true i).0
  good_looper verb (a ∷ b ∷ []) i = tt
  good_looper verb (a ∷ b ∷ c ∷ []) i = tt
  good_looper verb other i = tt

  good_sender : (verb : Words) (xs : List Held) → are_there h xs ≡ true → Good h (asked_by Sender verb (args_of xs))
  unfolding args_of asks_none asks_one asks_two asks_three asks_more asked_by
  good_sender verb (a ∷ b ∷ c ∷ []) i =
      let s = both (is_there h a) (are_there h (b ∷ c ∷ [])) i in
      let t = both (is_there h b) (are_there h (c ∷ [])) s.1 in
      let g : Good h (ask.SendsTo false a b c) = (s.0, (t.0, (both (is_there h c) true t.1).0)) in
      good_if (same_words (codes "send") verb) (ask.SendsTo false a b c) _ g
      (good_if (same_words (codes "sendOnly") verb) (ask.SendsTo true a b c) _ g
      (good_if (same_words (codes "call") verb) (ask.CallsTo a b c) ask.NoMethod g tt))
  good_sender verb other i = tt

  good_tells : (o : Option RefTest) (a : Held) → is_there h a ≡ true → Good h (tells o a)
  good_tells (Some t) a i = i
  good_tells None a i = tt

  good_references : (verb : Words) (xs : List Held) → are_there h xs ≡ true → Good h (asked_by References verb (args_of xs))
  unfolding args_of asks_none asks_one asks_two asks_three asks_more asked_by
  good_references verb [] i = good_where (codes "promise") ask.MakesPromise verb tt
  good_references verb (a ∷ []) i =
      let s = both (is_there h a) true i in
      good_if (bytes_eq verb (codes "broken")) (ask.Breaks a) (tells (ref_test_named verb) a) s.0 (good_tells (ref_test_named verb) a s.0)
  good_references verb (a ∷ b ∷ []) i =
      let s = both (is_there h a) (are_there h (b ∷ [])) i in
      good_if (same_words (codes "whenResolved") verb) (ask.Whens a b) ask.NoMethod (s.0, (both (is_there h b) true s.1).0) tt
  good_references verb (a ∷ b ∷ c ∷ []) i = tt
  good_references verb (a ∷ b ∷ c ∷ d ∷ xs) i = tt

  good_thrower : (verb : Words) (xs : List Held) → are_there h xs ≡ true → Good h (asked_by Thrower verb (args_of xs))
  unfolding args_of asks_none asks_one asks_two asks_three asks_more asked_by
  good_thrower verb (a ∷ []) i = good_where (codes "run") (ask.ThrowsIt a) verb (both (is_there h a) true i).0
  good_thrower verb (a ∷ b ∷ []) i = tt
  good_thrower verb (a ∷ b ∷ c ∷ []) i = tt
  good_thrower verb other i = tt

  good_kind : (k : Kind) (b : Bool) (verb : Words) (a : Held) → is_there h a ≡ true → Good h (guard_one (record { kind = k; or_null = b }) verb a)
  good_kind k true verb a i = tt
  good_kind kind.Null false verb a i = good_where (codes "get") (ask.AddsNull a) verb i
  good_kind _ false verb a i = tt

  good_guard : (g : Guard) (verb : Words) (xs : List Held) → are_there h xs ≡ true → Good h (asked_by (Guarding g) verb (args_of xs))
  unfolding args_of asks_none asks_one asks_two asks_three asks_more asked_by
  good_guard g verb (a ∷ []) i = good_kind g.kind g.or_null verb a (both (is_there h a) true i).0
  good_guard g verb (a ∷ b ∷ []) i =
      let s = both (is_there h a) (are_there h (b ∷ [])) i in
      let t = both (is_there h b) true s.1 in
      good_where (codes "coerce") (ask.Coerces g a b) verb (s.0, t.0)
  good_guard g verb (a ∷ b ∷ c ∷ []) i = tt
  good_guard g verb other i = tt

  good_stamps : (verb : Words) (xs : List Held) → Good h (asked_by StampReader verb (args_of xs))
  unfolding args_of asks_none asks_one asks_two asks_three asks_more asked_by
  good_stamps verb (a ∷ b ∷ []) = good_where (codes "run") (ask.IsStamped a b) verb tt
  good_stamps verb (a ∷ b ∷ c ∷ []) = tt
  good_stamps verb other = tt

  good_judging : (r : Rule) (verb : Words) (xs : List Held) → Good h (asked_by (Judging r) verb (args_of xs))
  unfolding args_of asks_none asks_one asks_two asks_three asks_more asked_by
  good_judging r verb [] = tt
  good_judging r verb (a ∷ []) = tt
  good_judging r verb (a ∷ b ∷ []) = tt
  good_judging r verb (a ∷ b ∷ c ∷ []) = tt
  good_judging r verb (a ∷ b ∷ c ∷ d ∷ xs) = tt

  good_none : (verb : Words) (xs : List Held) → Good h (asked_by NoPrimitive verb (args_of xs))
  unfolding args_of asks_none asks_one asks_two asks_three asks_more asked_by
  good_none verb [] = tt
  good_none verb (a ∷ []) = tt
  good_none verb (a ∷ b ∷ []) = tt
  good_none verb (a ∷ b ∷ c ∷ []) = tt
  good_none verb (a ∷ b ∷ c ∷ d ∷ xs) = tt

  good : (p : Primitive) (verb : Words) (xs : List Held) → are_there h xs ≡ true → Good h (asked_by p verb (args_of xs))
  good MakeList verb xs i = good_list verb xs i
  good Equalizer verb xs i = good_equalizer verb xs i
  good Comparer verb xs i = good_comparer verb xs i
  good Looper verb xs i = good_looper verb xs i
  good Sender verb xs i = good_sender verb xs i
  good References verb xs i = good_references verb xs i
  good Thrower verb xs i = good_thrower verb xs i
  good StampReader verb xs i = good_stamps verb xs
  good (Guarding g) verb xs i = good_guard g verb xs i
  good (Judging r) verb xs i = good_judging r verb xs
  good NoPrimitive verb xs i = good_none verb xs

-- ---- values, by the texts of the moment and of the end

same_value : (w : World) (h : Contents) → IsFront w h → (x : Held) → is_there h x ≡ true → value_of w x ≡ value_by (text_in h) x
same_value w h f (held.Text id) i = ap (λ (u : Words). Text u) (same_text w h f id i)
same_value w h f (held.Broken id) i = ap (λ (u : Words). Broken u) (same_text w h f id i)
same_value w h f _ i = refl

compared_is : (t : ℕ → Words) (test : Test) (o : Option native.Order) → native.compared (test_in test) o ≡ reply_by t (compared_by test o)
unfolding native.compared compared_by
compared_is t test (Some o) = refl
compared_is t test None = refl

module _ (w : World) (tree : List Node) (again : Caller) (their : scopes.Caller Local) (h : CallsMet w again their) where
  -- ---- the loop

  ends_met : (act : ℕ) (x : Held) (more : Act Held) (theirs : machine.Act Local (Value Local)) (s : Room) → IsSound s
      → Met w a_value s (more s) (theirs (vat w s))
      → Met w a_value s (after_turn more x s) (perform.after_turn (names w) tree theirs (value_of w x) (vat w s))
  unfolding after_turn perform.after_turn
  ends_met act (held.Bool true) more theirs s sound k = k
  ends_met act (held.Bool false) more theirs s sound k = give_met w a_value held.Null s sound refl
  ends_met act _ more theirs s sound k = fails_met w a_value NotBoolean s sound

  turn_is : (act n : ℕ) (f : Value Local) (v : Vat Local)
      → perform.turns (names w) tree (suc n) (their act f (codes "run") []) v
      ≡ machine.and_then (their act f (codes "run") [] v) (λ x t. perform.after_turn (names w) tree (λ s. perform.turns (names w) tree n (their act f (codes "run") []) s) (follow (names w) t x) t)
  unfolding perform.turns machine.◌>>=◌ machine.look machine.and_then
  turn_is act n f v = refl

  turns_met : (act n : ℕ) (f : Held) (s : Room) → IsSound s → is_there s.heap f ≡ true
      → Met w a_value s (turns again act f n s) (perform.turns (names w) tree n (their act (value_of w f) (codes "run") []) (vat w s))
  unfolding turns ◌>>=◌
  turns_met act zero f s sound i = unfold perform.turns machine.stop fail in record { grown = grown_same s.heap; stays = refl; keeps = tt; is = λ j. refl }
  turns_met act (suc n) f s sound i =
      rw (turn_is act n (value_of w f) (vat w s))
      (then_met _ _ (h act f (codes "run") [] s sound i refl)
      (λ x t q j g. rw (follow_is w t q x) (ends_met act (followed t.refs x) (turns again act f n) (λ y. perform.turns (names w) tree n (their act (value_of w f) (codes "run") []) y) t q
      (turns_met act n f t q (there_on g f i)))))

  loop_is : (act : ℕ) (f : Held) (s : Room) → perform.loop (names w) tree (their act (value_of w f) (codes "run") []) (vat w s) ≡ perform.turns (names w) tree (s.micro.fuel + 1) (their act (value_of w f) (codes "run") []) (vat w s)
  unfolding perform.loop opened_state vat_of
  loop_is act f s = let e : suc s.micro.fuel ≡ s.micro.fuel + 1 = omega arith in ap (λ (n : ℕ). perform.turns (names w) tree n (their act (value_of w f) (codes "run") []) (vat w s)) e

  loop_met : (act : ℕ) (f : Held) (s : Room) → IsSound s → is_there s.heap f ≡ true → Met w a_value s (loop again act f s) (perform.loop (names w) tree (their act (value_of w f) (codes "run") []) (vat w s))
  unfolding loop
  loop_met act f s sound i = rw (loop_is act f s) (turns_met act (s.micro.fuel + 1) f s sound i)

  -- ---- the comparer

  fits_compared : (c : Contents) (test : Test) (o : Option native.Order) → Fits c (compared_by test o)
  unfolding compared_by
  fits_compared c test (Some o) = refl
  fits_compared c test None = tt

  compares_is : (act : ℕ) (test : Test) (x y : Value Local) (v : Vat Local)
      → perform.perform (names w) tree their act (native.Compares (test_in test) x y) v
      ≡ perform.reply (names w) tree their act (native.compared (test_in test) (native.value_order (follow (names w) v x) (follow (names w) v y))) v
  unfolding perform.perform opened_state
  compares_is act test x y v = refl

  order_by : (act : ℕ) (test : Test) (x y : Held) (s : Room) → is_there s.heap x ≡ true → is_there s.heap y ≡ true → IsFront w s.heap
      → perform.reply (names w) tree their act (native.compared (test_in test) (native.value_order (value_of w x) (value_of w y))) (vat w s)
      ≡ perform.reply (names w) tree their act (reply_by (text_of w) (compared_by test (native.value_order (value_by (text_in s.heap) x) (value_by (text_in s.heap) y)))) (vat w s)
  order_by act test x y s i j f =
      ap (λ (z : Value Local). perform.reply (names w) tree their act (native.compared (test_in test) (native.value_order z (value_of w y))) (vat w s)) (same_value w s.heap f x i)
      ∙ ap (λ (z : Value Local). perform.reply (names w) tree their act (native.compared (test_in test) (native.value_order (value_by (text_in s.heap) x) z)) (vat w s)) (same_value w s.heap f y j)
      ∙ ap (λ (r : native.Reply Local). perform.reply (names w) tree their act r (vat w s)) (compared_is (text_of w) test (native.value_order (value_by (text_in s.heap) x) (value_by (text_in s.heap) y)))

  order_met : (act : ℕ) (test : Test) (x y : Held) (b : Bool) (s : Room) → IsSound s → is_there s.heap x ≡ true → is_there s.heap y ≡ true → b ≡ true
      → Met w a_value s (compared_there again act test x y b s) (perform.reply (names w) tree their act (native.compared (test_in test) (native.value_order (value_of w x) (value_of w y))) (vat w s))
  unfolding compared_there
  order_met act test x y true s sound i j e =
      let o = native.value_order (value_by (text_in s.heap) x) (value_by (text_in s.heap) y) in
      met_by _ (λ f. order_by act test x y s i j f.0) (replied_met w tree again their h act (compared_by test o) s sound (fits_compared s.heap test o))
  order_met act test x y false s sound i j e = absurd (cc)

  compared_met : (act : ℕ) (test : Test) (x y : Held) (s : Room) → IsSound s → is_there s.heap x ≡ true → is_there s.heap y ≡ true
      → Met w a_value s (compared again act test x y s) (perform.perform (names w) tree their act (native.Compares (test_in test) (value_of w x) (value_of w y)) (vat w s))
  unfolding compared compared_at
  compared_met act test x y s sound i j =
      let k = followed_there s sound x i in
      let l = followed_there s sound y j in
      rw (compares_is act test (value_of w x) (value_of w y) (vat w s), follow_is w s sound x, follow_is w s sound y)
      (order_met act test (followed s.refs x) (followed s.refs y) (pair_there s.heap (followed s.refs x) (followed s.refs y)) s sound k l (unfold pair_there in all_and (is_there s.heap (followed s.refs x)) (is_there s.heap (followed s.refs y)) k l))

  -- ---- the equalizer

  same_is : (act : ℕ) (x y : Value Local) (v : Vat Local)
      → perform.perform (names w) tree their act (native.Same x y) v ≡ perform.reply (names w) tree their act (perform.same_reply (names w) tree v x y) v
  unfolding perform.perform opened_state
  same_is act x y v = refl

  same_by_met : (act : ℕ) (x y : Held) (b : Bool) (s : Room) → IsSound s
      → Met w a_value s (same_unless b x y s) (perform.reply (names w) tree their act (unsettled_or b (is_same s (length s.heap.lists) x y)) (vat w s))
  unfolding same_unless perform.reply
  same_by_met act x y true s sound = throw_met w a_value not_settled_id s sound (known_there s sound not_settled_id refl)
  same_by_met act x y false s sound = give_met w a_value (held.Bool (is_same s (length s.heap.lists) x y)) s sound refl

  same_met : (act : ℕ) (x y : Held) (s : Room) → IsSound s → is_there s.heap x ≡ true → is_there s.heap y ≡ true
      → Met w a_value s (same_ever x y s) (perform.perform (names w) tree their act (native.Same (value_of w x) (value_of w y)) (vat w s))
  unfolding same_ever
  same_met act x y s sound i j =
      let b = if is_open s (length s.heap.lists) x then true else is_open s (length s.heap.lists) y in
      met_by _
      (λ f. same_is act (value_of w x) (value_of w y) (vat w s)
      ∙ ap (λ (r : native.Reply Local). perform.reply (names w) tree their act r (vat w s)) (same_reply_is w tree s f.0 sound x y i j))
      (same_by_met act x y b s sound)

  -- ---- ranges

  numbers_there : (c : Contents) (a : ℤ) (n : ℕ) → are_there c (counted_from a n) ≡ true
  unfolding counted_from
  numbers_there c a zero = refl
  numbers_there c a (suc n) = numbers_there c (a +ℤ pos 1) n

  fits_many : (c : Contents) (a : ℤ) (n : ℕ) (b : Bool) → Fits c (so_many a n b)
  unfolding so_many
  fits_many c a n true = each_of c (counted_from a n) (numbers_there c a n)
  fits_many c a n false = tt

  fits_range : (c : Contents) (last : Bool) (x y : Held) → Fits c (range_answer last x y)
  unfolding range_answer
  fits_range c true (held.Int a) (held.Int b) = fits_many c a (native.gap a (b +ℤ pos 1)) (nat_le (native.gap a (b +ℤ pos 1)) 65535)
  fits_range c false (held.Int a) (held.Int b) = fits_many c a (native.gap a b) (nat_le (native.gap a b) 65535)
  fits_range c true (held.Int a) _ = tt
  fits_range c false (held.Int a) _ = tt
  fits_range c true _ y = tt
  fits_range c false _ y = tt

  ranges_is : (act : ℕ) (last : Bool) (x y : Value Local) (v : Vat Local)
      → perform.perform (names w) tree their act (native.Ranges last x y) v ≡ perform.reply (names w) tree their act (native.range_reply last (follow (names w) v x) (follow (names w) v y)) v
  unfolding perform.perform opened_state
  ranges_is act last x y v = refl

  ranges_met : (act : ℕ) (last : Bool) (x y : Held) (s : Room) → IsSound s
      → Met w a_value s (replied again act (range_answer last (followed s.refs x) (followed s.refs y)) s) (perform.perform (names w) tree their act (native.Ranges last (value_of w x) (value_of w y)) (vat w s))
  ranges_met act last x y s sound =
      rw (
        ranges_is act last (value_of w x) (value_of w y) (vat w s),
        follow_is w s sound x,
        follow_is w s sound y,
        range_means (text_of w) last (followed s.refs x) (followed s.refs y),
      ) (replied_met w tree again their h act (range_answer last (followed s.refs x) (followed s.refs y)) s sound (fits_range s.heap last (followed s.refs x) (followed s.refs y)))

  -- ---- throw

  throws_is : (act : ℕ) (x : Value Local) (v : Vat Local) → perform.perform (names w) tree their act (native.ThrowsIt x) v ≡ perform.reply (names w) tree their act (perform.thrown_text (names w) tree (follow (names w) v x)) v
  unfolding perform.perform opened_state
  throws_is act x v = refl

  thrown_met : (act : ℕ) (x : Held) (s : Room) → IsSound s → is_there s.heap x ≡ true
      → Met w a_value s (fail (exit.Thrown (thrown_id x)) s) (perform.reply (names w) tree their act (perform.thrown_text (names w) tree (value_of w x)) (vat w s))
  unfolding perform.reply perform.thrown_text
  thrown_met act (held.Text id) s sound i = throw_met w a_value id s sound i
  thrown_met act _ s sound i = unfold fails in fails_met w a_value Unthrowable s sound

  -- ---- the guard that takes null as well

  adds_is : (act : ℕ) (x : Value Local) (v : Vat Local)
      → perform.perform (names w) tree their act (native.AddsNull x) v ≡ perform.reply (names w) tree their act (native.null_or_reply (follow (names w) v x)) v
  unfolding perform.perform opened_state
  adds_is act x v = refl

  adds_met : (act : ℕ) (x : Held) (s : Room) → IsSound s
      → Met w a_value s (replied again act (null_or (followed s.refs x)) s) (perform.perform (names w) tree their act (native.AddsNull (value_of w x)) (vat w s))
  adds_met act x s sound =
      rw (
        adds_is act (value_of w x) (vat w s),
        follow_is w s sound x,
        ← null_or_means (text_of w) (followed s.refs x),
      ) (replied_met w tree again their h act (null_or (followed s.refs x)) s sound (fits_null_or s.heap (followed s.refs x)))

  -- ---- calls with a list of arguments

  calls_is : (act : ℕ) (x v l : Value Local) (y : Vat Local)
      → perform.perform (names w) tree their act (native.CallsTo x v l) y ≡ perform.call_with (names w) tree their act x (follow (names w) y v) (follow (names w) y l) y
  unfolding perform.perform opened_state
  calls_is act x v l y = refl

  call_listed_is : (act : ℕ) (x : Value Local) (verb : Words) (k : ℕ) (y : Vat Local)
      → perform.call_with (names w) tree their act x (Text verb) (Items k) y ≡ perform.call_listed (names w) tree their act x verb (native.list_at y.lists k) y
  unfolding perform.call_with opened_state
  call_listed_is act x verb k y = refl

  short_call_met : (act : ℕ) (x : Held) (id : ℕ) (vs : List Held) (b : Bool) (s : Room) → IsSound s → is_there s.heap x ≡ true → nat_lt id (length s.heap.texts) ≡ true → are_there s.heap vs ≡ true
      → Met w a_value s (called_with again act x (short_message (text_in s.heap id) vs b) s)
      ((if b then their act (value_of w x) (text_of w id) (values_of w vs) else machine.throw (codes "bad message")) (vat w s))
  unfolding called_with
  short_call_met act x id vs true s sound i j k =
      met_by _ (λ f. ap (λ (u : Words). their act (value_of w x) u (values_of w vs) (vat w s)) (same_text w s.heap f.0 id j)) (h act x (text_in s.heap id) vs s sound i k)
  short_call_met act x id vs false s sound i j k = bad_message_met w tree s sound

  listed_call_met : (act : ℕ) (x : Held) (id k : ℕ) (s : Room) → IsSound s → is_there s.heap x ≡ true → nat_lt id (length s.heap.texts) ≡ true
      → Met w a_value s (called_with again act x (message_in s.heap (held.Text id) (held.List k)) s) (perform.call_with (names w) tree their act (value_of w x) (Text (text_of w id)) (Items k) (vat w s))
  unfolding message_in perform.call_listed
  listed_call_met act x id k s sound i j =
      rw (
        call_listed_is act (value_of w x) (text_of w id) k (vat w s),
        members_are w s k,
        length-map (members_at s.heap k) (value_of w),
      ) (short_call_met act x id (members_at s.heap k) (nat_le (length (members_at s.heap k)) 255) s sound i j (members_there s.heap sound.lists k))

  bad_call_met : (act : ℕ) (x : Held) (y z : Value Local) (s : Room) → IsSound s → perform.call_with (names w) tree their act (value_of w x) y z (vat w s) ≡ machine.throw (codes "bad message") (vat w s)
      → Met w a_value s (called_with again act x None s) (perform.call_with (names w) tree their act (value_of w x) y z (vat w s))
  unfolding called_with
  bad_call_met act x y z s sound e = rw e (bad_message_met w tree s sound)

  -- at a followed verb and a followed list
  call_with_met : (act : ℕ) (x y z : Held) (s : Room) → IsSound s → is_there s.heap x ≡ true → is_there s.heap y ≡ true
      → Met w a_value s (called_with again act x (message_in s.heap y z) s) (perform.call_with (names w) tree their act (value_of w x) (value_of w y) (value_of w z) (vat w s))
  call_with_met act x (held.Text id) (held.List k) s sound i j = listed_call_met act x id k s sound i j
  call_with_met act x y z s sound i j = unfold message_in perform.call_with in bad_call_met act x (value_of w y) (value_of w z) s sound refl

  calls_met : (act : ℕ) (x v l : Held) (s : Room) → IsSound s → is_there s.heap x ≡ true → is_there s.heap v ≡ true
      → Met w a_value s (called_with again act x (message_in s.heap (followed s.refs v) (followed s.refs l)) s) (perform.perform (names w) tree their act (native.CallsTo (value_of w x) (value_of w v) (value_of w l)) (vat w s))
  calls_met act x v l s sound i j =
      rw (calls_is act (value_of w x) (value_of w v) (value_of w l) (vat w s), follow_is w s sound v, follow_is w s sound l)
      (call_with_met act x (followed s.refs v) (followed s.refs l) s sound i (followed_there s sound v j))

  -- ---- stamps

  stamped_as : (act : ℕ) (y x : Value Local) (v : Vat Local)
      → perform.perform (names w) tree their act (native.IsStamped y x) v ≡ machine.give (Flag (perform.is_stamped (names w) tree v (follow (names w) v y) (follow (names w) v x))) v
  unfolding perform.perform opened_state
  stamped_as act y x v = refl

  stamped_met : (act : ℕ) (y x : Held) (s : Room) → IsSound s
      → Met w a_value s (give (held.Bool (is_stamped s.heap (followed s.refs y) (followed s.refs x))) s) (perform.perform (names w) tree their act (native.IsStamped (value_of w y) (value_of w x)) (vat w s))
  stamped_met act y x s sound =
      rw (
        stamped_as act (value_of w y) (value_of w x) (vat w s),
        follow_is w s sound y,
        follow_is w s sound x,
        stamped_is w tree s sound.lists (followed s.refs y) (followed s.refs x),
      ) (give_met w a_value (held.Bool (is_stamped s.heap (followed s.refs y) (followed s.refs x))) s sound refl)

  -- ---- what is asked

  asked_met : (act : ℕ) (r : Asked) (args : List Held) (s : Room) → IsSound s → are_there s.heap args ≡ true → Good s.heap r
      → Met w a_value s (performed again act r args s) (perform.perform (names w) tree their act (asked_with (text_of w) args r) (vat w s))
  unfolding performed
  asked_met act ask.MakesList args s sound a g = unfold perform.perform in list_met w tree act args s sound a
  asked_met act (ask.Ranges last x y) args s sound a g = ranges_met act last x y s sound
  asked_met act (ask.Same x y) args s sound a g = same_met act x y s sound g.0 g.1
  asked_met act (ask.Compares t x y) args s sound a g = compared_met act t x y s sound g.0 g.1
  asked_met act (ask.Loops f) args s sound a g = unfold perform.perform in loop_met act f s sound g
  asked_met act (ask.SendsTo only x v l) args s sound a g = send_met w tree s sound their only act x v l g.0 g.1.0 g.1.1
  asked_met act (ask.CallsTo x v l) args s sound a g = calls_met act x v l s sound g.0 g.1.0
  asked_met act ask.MakesPromise args s sound a g = promise_met w tree their act s sound
  asked_met act (ask.Breaks x) args s sound a g = broken_met w tree their s sound act x g
  asked_met act (ask.Tells test x) args s sound a g = test_met w tree their s sound act test x g
  asked_met act (ask.Whens x o) args s sound a g = when_met w tree s sound their act x o g.0 g.1
  asked_met act (ask.ThrowsIt v) args s sound a g = rw (throws_is act (value_of w v) (vat w s), follow_is w s sound v) (thrown_met act (followed s.refs v) s sound (followed_there s sound v g))
  asked_met act (ask.Coerces k x j) args s sound a g = unfold perform.perform in guard_coerced_met w tree again their h act k x j s sound g.0 g.1
  asked_met act (ask.AddsNull x) args s sound a g = adds_met act x s sound
  asked_met act ask.NoMethod args s sound a g = unfold perform.perform in fails_met w a_value NoMethod s sound
  asked_met act (ask.IsStamped y x) args s sound a g = stamped_met act y x s sound

  -- ---- the primitives

  one_met : (act : ℕ) (p : Primitive) (verb : Words) (args : List Held) (s : Room) → IsSound s → are_there s.heap args ≡ true
      → Met w a_value s (performed again act (asked_by p verb (args_of args)) args s) (perform.perform (names w) tree their act (native.asked (primitive_in p) verb (values_of w args)) (vat w s))
  one_met act p verb args s sound a = rw (asked_is (text_of w) verb p args) (asked_met act (asked_by p verb (args_of args)) args s sound a (good s.heap p verb args a))

  pub primitive_met : (act n : ℕ) (verb : Words) (args : List Held) (s : Room) → IsSound s → are_there s.heap args ≡ true
      → Met w a_value s (performed again act (asked_of n verb args) args s) (perform.perform (names w) tree their act (native.asked (native.primitive n) verb (values_of w args)) (vat w s))
  primitive_met act n verb args s sound a = rw (primitive_is n) (one_met act (primitive_at n) verb args s sound a)
