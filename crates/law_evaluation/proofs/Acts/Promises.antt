-- Promises, what `Ref` tells of values, and resolvers: what an activation does is what the machine does.
use Rattle.std.proofs.Common.{◌≡◌, ◌==◌, ℕ, suc, ◌+◌, nat_lt, Bool, true, false, List, [], ◌∷◌, ◌++◌, length, refl, sym, ap, ◌∙◌, arith}
use Rattle.std.specs.Prelude.{codes, if◌then◌else◌}
use Rattle.std.specs.Str.{bytes_eq}
use Rattle.std.proofs.lemmas.List.{length-map, map-append}
use Rattle.ev_base.specs.declared.values.Value.{Value as Held}
use Rattle.ev_base.specs.declared.values.Value.TheVariants as held
use Rattle.ev_heap.specs.declared.happened.Happened.TheVariants as event
use Rattle.ev_heap.specs.declared.kept.Shape.TheVariants as shape
use Rattle.def_kernel.specs.declared.node.Node.{Node}
use Rattle.def_machine.specs.Calls as calls
use Rattle.def_machine.specs.Free.{entry, same_words}
use Rattle.def_machine.specs.Native as native
use Rattle.def_machine.specs.Perform as perform
use Rattle.def_machine.specs.Scopes as scopes
use Rattle.def_machine.specs.State as machine
use Rattle.def_machine.specs.State.{Resolver, PromiseMade, Vat, Done, opened_state}
use Rattle.def_machine.specs.Values.{Words, Ref, Local, Obj, Prom, numbering}
use Rattle.ev_steps.specs.Eventual.{broken, broken_as, make_promise, new_promise, new_resolver, referred, resolution, resolver_answer, resolving, test_value, told_as}
use Rattle.ev_steps.specs.declared.resolver.Resolving.{Resolving}
use Rattle.ev_steps.specs.declared.resolver.Resolving.TheVariants.{Resolves, Smashes, NotAsked}
use Rattle.ev_intro.specs.Word.{word}
use Rattle.ev_pass.specs.Reading.{around}
use Rattle.ev_pass.specs.declared.interior.Interior.{Interior}
use Rattle.ev_room.proofs.There.{both}
use Rattle.ev_prims.specs.Asking.{ref_test_in}
use Rattle.ev_prims.specs.declared.asking.RefTest.{RefTest}
use Rattle.ev_prims.specs.declared.asking.RefTest.TheVariants.{IsNear, IsFar, IsResolved, IsBroken, OptProblem, Fulfillment}
use Rattle.ev_prims.specs.declared.problem.Problem.TheVariants.{NoMethod, BadArgument}
use Rattle.ev_refs.proofs.Machine.{as_many}
use Rattle.ev_refs.proofs.Tells.{breaks, tells}
use Rattle.ev_settle.proofs.Changing.{one_name}
use Rattle.ev_refs.specs.Follow.{followed, host_of, hosted, place_of}
use Rattle.ev_refs.specs.Reading.{known_by, knowns_by}
use Rattle.ev_refs.specs.References.{References, unsettled_of}
use Rattle.ev_refs.specs.Telling.{broken_of, broken_reply, fulfilled_at, problem_at, reply_by, told_at}
use Rattle.ev_refs.specs.declared.follow.Place.{Place}
use Rattle.ev_refs.specs.declared.follow.Place.TheVariants.{Near, Mine, FarPromise, FarObject, Gone}
use Rattle.ev_refs.specs.declared.natives.RefReply.{RefReply}
use Rattle.ev_refs.specs.declared.natives.RefReply.TheVariants.{Says, Problem, NotResolved}
use Rattle.ev_room.specs.Acts.{◌>>=◌, ◌>>◌}
use Rattle.ev_room.specs.Reading.{World, beside, line_of, names, referred_line, texts_of, thing_of, value_of, values_of, vat_of}
use Rattle.ev_room.specs.Sound.{IsSound, is_there, are_there, already_resolved_id, not_resolved_id}
use Rattle.ev_settle.specs.Reacting as reacting
use Rattle.ev_settle.specs.Statements.{resolution_by}
use Rattle.ev_settle.specs.declared.resolver.Resolution.{Resolution}
use Rattle.ev_settle.specs.declared.resolver.Resolution.TheVariants as ended
use Rattle.ev_settle.proofs.Reacts.{smashes_is, tells_is}
use Rattle.law_evaluation.proofs.Acts.Following.{followed_there}
use Rattle.law_evaluation.proofs.Acts.Sounds.{grown_same, resolver_sound, things_grown}
use Rattle.law_evaluation.proofs.Acts.Stands.{Met, a_value, fails_met, give_met, itself, known_there, list_met, tell_met, then_met, throw_met, vat}
use Rattle.law_evaluation.proofs.Acts.Words.{same_turned}
use Rattle.law_evaluation.proofs.Acts.Referring.{base_of, ground_of, inside_of, knows_texts, promise_sound, reads_before, then_ends}
use Rattle.law_evaluation.proofs.Acts.Lines.{line_tells}
use Rattle.law_evaluation.proofs.Acts.Sends as holds

module _ (w : World) (tree : List Node) where
  -- ---- promises of the vat's own

  one_more : (ts : List Words) (r : References) → knowns_by ts 0 r.known ++ known_by ts (length (knowns_by ts 0 r.known)) (unsettled_of r.me) ∷ [] ≡ knowns_by ts 0 (r.known ++ unsettled_of r.me ∷ [])
  one_more ts r =
      let here : 0 + length r.known ≡ length r.known = omega arith in
      ap (λ (n : ℕ). knowns_by ts 0 r.known ++ known_by ts n (unsettled_of r.me) ∷ []) (as_many (word w.key) ts ts 0 r.known)
      ∙ sym (one_name ts 0 r.known (unsettled_of r.me) ∙ ap (λ (n : ℕ). knowns_by ts 0 r.known ++ known_by ts n (unsettled_of r.me) ∷ []) here)

  abbrev promised : Interior → ℕ → ℕ → List (machine.Known Local) → Done Local Local
  promised s n c ks = machine.Gives (Prom n) (record (vat w s) { promises = c; known = ks })

  new_promise_met : (s : Interior) → IsSound s → Met w (record { of = λ w n. Prom n; fits = λ h n. Unit {0} }) s (new_promise s) (machine.new_promise (names w) (vat w s))
  unfolding new_promise machine.new_promise machine.begun numbering vat_of
  new_promise_met s sound = record {
    grown = grown_same s.heap;
    stays = refl;
    keeps = (promise_sound s sound, tt);
    is = λ b.
        let count : suc s.refs.promises ≡ s.refs.promises + 1 = omega arith in
        let ts = texts_of w in
        ap (λ (n : ℕ). promised s n (suc s.refs.promises) (knowns_by ts 0 s.refs.known ++ known_by ts (length (knowns_by ts 0 s.refs.known)) (unsettled_of s.refs.me) ∷ [])) (as_many (word w.key) ts ts 0 s.refs.known)
        ∙ ap (λ (c : ℕ). promised s (length s.refs.known) c (knowns_by ts 0 s.refs.known ++ known_by ts (length (knowns_by ts 0 s.refs.known)) (unsettled_of s.refs.me) ∷ [])) count
        ∙ ap (λ (ks : List (machine.Known Local)). promised s (length s.refs.known) (s.refs.promises + 1) ks) (one_more ts s.refs);
  }

  new_resolver_met : (p : ℕ) (s : Interior) → IsSound s → Met w itself s (new_resolver p s) (machine.new_thing (Resolver (Prom p)) (vat w s))
  unfolding new_resolver machine.new_thing vat_of
  new_resolver_met p s sound = record {
    grown = things_grown s sound (s.heap.things ++ record { shape = shape.Resolver p; alive = true } ∷ []);
    stays = refl;
    keeps = (resolver_sound s sound p, tt);
    is = λ b. rw (length-map s.heap.things (thing_of w), map-append (thing_of w) s.heap.things (record { shape = shape.Resolver p; alive = true } ∷ [])) refl;
  }

  made_line : (act p r : ℕ) → line_of w (event.Promise act p (held.Obj r)) ≡ PromiseMade act (Prom p) (Obj r) ∷ []
  unfolding line_of referred_line
  made_line act p r = refl

  promise_is : (their : scopes.Caller Local) (act : ℕ) (v : Vat Local)
      → perform.perform (names w) tree their act native.MakesPromise v
      ≡ machine.and_then (machine.new_promise (names w) v) (λ p t. machine.and_then (machine.new_thing (Resolver p) t) (λ r u. machine.and_then (machine.tell (PromiseMade act p (Obj r)) u)
      (λ x. perform.make_list (names w) tree act (Ref p ∷ Ref (Obj r) ∷ []))))
  unfolding perform.perform perform.make_promise machine.◌>>=◌ machine.◌>>◌ numbering
  promise_is their act v = refl

  pub promise_met : (their : scopes.Caller Local) (act : ℕ) (s : Interior) → IsSound s → Met w a_value s (make_promise act s) (perform.perform (names w) tree their act native.MakesPromise (vat w s))
  unfolding make_promise ◌>>=◌ ◌>>◌
  promise_met their act s sound =
      rw (promise_is their act (vat w s))
      (then_met _ _ (new_promise_met s sound)
      (λ p t q i g. then_met _ _ (new_resolver_met p t q)
      (λ r u l j e. then_met _ _ (tell_met w (event.Promise act p (held.Obj r)) (PromiseMade act (Prom p) (Obj r)) u l (made_line act p r))
      (λ x y m k d. list_met w tree act (held.Prom p ∷ held.Obj r ∷ []) y m refl))))

-- ---- broken references, and what `Ref` tells

-- what `Ref` gives or throws stands in the heap
abbrev ReplyThere : Interior → RefReply → Type 0
ReplyThere s (Says v) = is_there s.heap v ≡ true
ReplyThere s (Problem t) = nat_lt t (length s.heap.texts) ≡ true
ReplyThere s NotResolved = Unit {0}

module _ (w : World) (tree : List Node) (their : scopes.Caller Local) (s : Interior) (sound : IsSound s) where
  broken_is : (act : ℕ) (t : Held) → is_there s.heap t ≡ true
      → perform.perform (names w) tree their act (native.Breaks (value_of w t)) (vat w s) ≡ perform.reply (names w) tree their act (broken_reply (texts_of w) (broken_of (followed s.refs t))) (vat w s)
  unfolding perform.perform opened_state vat_of
  broken_is act t i =
      ap (λ (r : native.Reply Local). perform.reply (names w) tree their act r (vat w s))
      (breaks s.refs t (followed s.refs t) (broken_of (followed s.refs t)) refl refl (word w.key) tree (texts_of w) (around (texts_of w) (line_of w) s (beside w s)) (knows_texts s sound w))

  breaks_met : (act : ℕ) (y : Held) → is_there s.heap y ≡ true → Met w a_value s (broken_as (broken_of y) s) (perform.reply (names w) tree their act (broken_reply (texts_of w) (broken_of y)) (vat w s))
  unfolding broken_as perform.reply
  breaks_met act (held.Text t) i = give_met w a_value (held.Broken t) s sound i
  breaks_met act other i = fails_met w a_value BadArgument s sound

  pub broken_met : (act : ℕ) (t : Held) → is_there s.heap t ≡ true → Met w a_value s (broken t s) (perform.perform (names w) tree their act (native.Breaks (value_of w t)) (vat w s))
  unfolding broken
  broken_met act t i = rw (broken_is act t i) (breaks_met act (followed s.refs t) (followed_there s sound t i))

  tests_is : (act : ℕ) (test : RefTest) (x : Held)
      → perform.perform (names w) tree their act (native.Tells (ref_test_in test) (value_of w x)) (vat w s)
      ≡ perform.reply (names w) tree their act (reply_by (texts_of w) (told_at test x (place_of s.refs (followed s.refs x)))) (vat w s)
  unfolding perform.perform opened_state vat_of
  tests_is act test x =
      ap (λ (r : native.Reply Local). perform.reply (names w) tree their act r (vat w s))
      (tells s.refs test x (followed s.refs x) (place_of s.refs (followed s.refs x)) (told_at test x (place_of s.refs (followed s.refs x))) refl refl refl (word w.key) tree (texts_of w)
      (around (texts_of w) (line_of w) s (beside w s)) (knows_texts s sound w))

  -- what is gone is gone with a text of the heap
  abbrev PlaceThere : Place → Type 0
  PlaceThere (Gone t) = nat_lt t (length s.heap.texts) ≡ true
  PlaceThere _ = Unit {0}

  replied_met : (act : ℕ) (r : RefReply) → ReplyThere s r → Met w a_value s (told_as r s) (perform.reply (names w) tree their act (reply_by (texts_of w) r) (vat w s))
  unfolding told_as perform.reply
  replied_met act (Says v) i = give_met w a_value v s sound i
  replied_met act (Problem t) i = throw_met w a_value t s sound i
  replied_met act NotResolved i = throw_met w a_value not_resolved_id s sound (known_there s sound not_resolved_id refl)

  fulfilled_there : (x : Held) (p : Place) → is_there s.heap x ≡ true → PlaceThere p → ReplyThere s (fulfilled_at x p)
  fulfilled_there x (Gone t) i j = j
  fulfilled_there x (Mine n) i j = tt
  fulfilled_there x (FarPromise h n) i j = tt
  fulfilled_there x other i j = i

  problem_there : (p : Place) → PlaceThere p → is_there s.heap (problem_at p) ≡ true
  problem_there (Gone t) j = j
  problem_there other j = refl

  told_there : (test : RefTest) (x : Held) (p : Place) → is_there s.heap x ≡ true → PlaceThere p → ReplyThere s (told_at test x p)
  told_there OptProblem x p i j = problem_there p j
  told_there Fulfillment x p i j = fulfilled_there x p i j
  told_there other x p i j = refl

  hosted_there : (b : Bool) (n h : ℕ) → PlaceThere (if b then Mine n else FarPromise h n)
  hosted_there true n h = tt
  hosted_there false n h = tt

  placed_there : (y : Held) → is_there s.heap y ≡ true → PlaceThere (place_of s.refs y)
  unfolding place_of hosted
  placed_there (held.Broken t) i = i
  placed_there (held.Prom n) i = hosted_there (s.refs.me == host_of s.refs n) n (host_of s.refs n)
  placed_there other i = tt

  pub test_met : (act : ℕ) (test : RefTest) (x : Held) → is_there s.heap x ≡ true → Met w a_value s (test_value test x s) (perform.perform (names w) tree their act (native.Tells (ref_test_in test) (value_of w x)) (vat w s))
  unfolding test_value
  test_met act test x i =
      let p = place_of s.refs (followed s.refs x) in
      rw (tests_is act test x) (replied_met act (told_at test x p) (told_there test x p i (placed_there (followed s.refs x) (followed_there s sound x i))))

-- ---- resolvers

abbrev ask_by : World → Resolving → scopes.ResolverAsk Local
ask_by w (Resolves x) = scopes.Resolves (value_of w x)
ask_by w (Smashes x) = scopes.Smashes (value_of w x)
ask_by w NotAsked = scopes.NoResolverAsk

abbrev asks_chosen : (w : World) (a b : Bool) (x : Held) → scopes.ResolverAsk Local
asks_chosen w a b x = elim a [ true ↦ scopes.Resolves (value_of w x) | false ↦ elim b [ true ↦ scopes.Smashes (value_of w x) | false ↦ scopes.NoResolverAsk ] ]

chosen_is : (w : World) (a b : Bool) (x : Held) → asks_chosen w a b x ≡ ask_by w (if a then Resolves x else if b then Smashes x else NotAsked)
chosen_is w true b x = refl
chosen_is w false true x = refl
chosen_is w false false x = refl

asked_is : (w : World) (verb : Words) (args : List Held) → scopes.resolver_ask verb (values_of w args) ≡ ask_by w (resolving verb args)
unfolding scopes.resolver_ask resolving entry
asked_is w verb (x ∷ []) =
    ap (λ (b : Bool). asks_chosen w b (same_words (codes "smash") verb) x) (same_turned (codes "resolve") verb)
    ∙ ap (λ (b : Bool). asks_chosen w (bytes_eq verb (codes "resolve")) b x) (same_turned (codes "smash") verb)
    ∙ chosen_is w (bytes_eq verb (codes "resolve")) (bytes_eq verb (codes "smash")) x
asked_is w verb other = refl

abbrev AskedThere : Interior → Resolving → Type 0
AskedThere s (Resolves x) = is_there s.heap x ≡ true
AskedThere s (Smashes x) = is_there s.heap x ≡ true
AskedThere s NotAsked = Unit {0}

choice_there : (s : Interior) (a b : Bool) (x : Held) → is_there s.heap x ≡ true → AskedThere s (if a then Resolves x else if b then Smashes x else NotAsked)
choice_there s true b x i = i
choice_there s false true x i = i
choice_there s false false x i = tt

asked_there : (s : Interior) (verb : Words) (args : List Held) → are_there s.heap args ≡ true → AskedThere s (resolving verb args)
unfolding resolving
asked_there s verb (x ∷ []) i = choice_there s (bytes_eq verb (codes "resolve")) (bytes_eq verb (codes "smash")) x (both (is_there s.heap x) true i).0
asked_there s verb other i = tt

module _ (w : World) (tree : List Node) (s : Interior) (sound : IsSound s) where
  resolved_met : (r : Resolution) (t : Interior) → IsSound t → Met w a_value t (resolution r t) (resolution_by r (vat w t))
  unfolding resolution machine.give machine.throw
  resolved_met ended.Resolved t q = give_met w a_value held.Null t q refl
  resolved_met ended.AlreadyResolved t q = throw_met w a_value already_resolved_id t q (known_there t q already_resolved_id refl)
  resolved_met ended.BadArgument t q = fails_met w a_value BadArgument t q

  answers_met : (p : ℕ) (a : Resolving) → AskedThere s a → Met w a_value s (resolver_answer p a s) (calls.resolver_answer (names w) tree (Prom p) (ask_by w a) (vat w s))
  unfolding resolver_answer referred ◌>>=◌ resolution vat_of
  answers_met p (Resolves x) i =
      then_ends w s sound a_value (reacting.tell_resolver p x s) (λ r. resolution r) resolution_by _
      (holds.tells (is_there s.heap) (base_of s) s (ground_of s sound) (inside_of s sound) p x i)
      (λ b. tells_is (texts_of w) w.key (line_of w) (beside w s) (line_tells w) tree p x s (reads_before s sound w b))
      (λ r t q e. resolved_met r t q)
  answers_met p (Smashes x) i =
      then_ends w s sound a_value (reacting.smash_resolver p x s) (λ r. resolution r) resolution_by _
      (holds.smashes (is_there s.heap) (base_of s) s (ground_of s sound) (inside_of s sound) p x i)
      (λ b. smashes_is (texts_of w) w.key (line_of w) (beside w s) (line_tells w) tree p x s (reads_before s sound w b))
      (λ r t q e. resolved_met r t q)
  answers_met p NotAsked i = unfold calls.resolver_answer in fails_met w a_value NoMethod s sound

  -- what the resolver of a promise answers to a message
  pub resolver_met : (p : ℕ) (verb : Words) (args : List Held) → are_there s.heap args ≡ true
      → Met w a_value s (resolver_answer p (resolving verb args) s) (calls.resolver_answer (names w) tree (Prom p) (scopes.resolver_ask verb (values_of w args)) (vat w s))
  resolver_met p verb args a = rw (asked_is w verb args) (answers_met p (resolving verb args) (asked_there s verb args a))
