-- Reactions and resolvers, as the machine has them.
use Rattle.std.proofs.Common.{◌≡◌, ℕ, Bool, true, false, List, [], ◌∷◌, Option, Some, None, Ok, Err, map, refl, sym, ap, ◌∙◌, subst}
use Rattle.std.specs.Prelude.{Result, codes, if◌then◌else◌, option_map, slice_get, slice_set}
use Rattle.ev_base.specs.declared.values.Value.{Value as Held}
use Rattle.ev_base.specs.declared.values.Value.TheVariants as held
use Rattle.ev_heap.specs.declared.happened.Happened.TheVariants as event
use Rattle.ev_intro.specs.Word.{word}
use Rattle.def_kernel.specs.declared.node.Node.{Node}
use Rattle.def_machine.specs.Calls.{resolver_answer, smash, where_unresolved}
use Rattle.def_machine.specs.Perform.{react_near, when_resolved}
use Rattle.def_machine.specs.Refs as refs
use Rattle.def_machine.specs.Scopes.{Resolves, Smashes}
use Rattle.def_machine.specs.State as machine
use Rattle.def_machine.specs.State.{Vat, React, Reacts, alter}
use Rattle.def_machine.specs.Values.{Words, Value, Null, Text, Ref, Local, Mess, Prom}
use Rattle.ev_pass.specs.Acts as code
use Rattle.ev_pass.specs.Acts.{Out, Act}
use Rattle.ev_pass.specs.Reading.{Lines, Reads, StandsFor, names_under, vat_at}
use Rattle.ev_pass.specs.declared.interior.Interior.{Interior}
use Rattle.ev_pass.specs.declared.interior.Stop.TheVariants as stop
use Rattle.ev_pass.proofs.Machine.{followed_at, placed_at}
use Rattle.ev_pass.proofs.Stands.{both_then, gives, told_is}
use Rattle.ev_refs.specs.Changes.{with_reaction}
use Rattle.ev_refs.specs.Follow.{followed, place_of}
use Rattle.ev_refs.specs.Reading.{value_by, message_by, known_by, knowns_by, standing_by, place_by}
use Rattle.ev_refs.specs.Waiting.{is_open, open_found, stands_open}
use Rattle.ev_refs.specs.declared.follow.Place.{Place}
use Rattle.ev_refs.specs.declared.follow.Place.TheVariants.{Near, Mine, FarPromise, FarObject, Gone}
use Rattle.ev_refs.specs.declared.known.Known.{Known}
use Rattle.ev_refs.specs.declared.known.Message.{Message}
use Rattle.ev_refs.specs.declared.known.Standing.{Standing}
use Rattle.ev_refs.specs.declared.known.Standing.TheVariants.{Unsettled, WaitsOn, Viewed, Settled}
use Rattle.ev_refs.proofs.Changing as single
use Rattle.ev_refs.proofs.Changing.{change_is, unknown_same}
use Rattle.ev_refs.proofs.Machine.{entry_is}
use Rattle.ev_settle.specs.Performing.{Tells}
use Rattle.ev_settle.specs.Reacting as part
use Rattle.ev_settle.specs.Reacting.{reacting_in, react_known, react_placed, react_on, react_new, some_answer, when_placed, resolved_by, tell_resolver, smash_with, smash_resolver}
use Rattle.ev_settle.specs.Resolving.{resolve}
use Rattle.ev_settle.specs.Sending.{new_message}
use Rattle.ev_settle.specs.Settling.{settle}
use Rattle.ev_settle.specs.Statements.{EndsFor, answer_given, resolution_by}
use Rattle.ev_settle.specs.declared.resolver.Resolution.{Resolution}
use Rattle.ev_settle.specs.declared.resolver.Resolution.TheVariants.{Resolved, AlreadyResolved, BadArgument}
use Rattle.ev_settle.proofs.Changing.{reads_still, enqueue_is}
use Rattle.ev_settle.proofs.Performs.{settles_is}
use Rattle.ev_settle.proofs.Sends.{named, new_is, resolves_is}

module _ (ts : List Words) (key : List ℕ) (line : Lines) (s : Vat Local) (tells : Tells ts line) where
  abbrev at : Interior → Vat Local
  at i = vat_at ts line i s

  reacting_found : (n : ℕ) (m : Message) (i : Interior) (o : Option Known) → slice_get i.refs.known n ≡ o → Reads ts key i
      → StandsFor ts key line s (λ u. u) (Ok tt, record i { refs = reacting_in n m o i.refs }) (alter (names_under key) (React (message_by ts m)) (Prom n) (at i))
  unfolding alter reacting_in
  reacting_found n m i None h good = (ap (λ (ks : List (machine.Known Local)). machine.Gives tt (record (at i) { known = ks })) (unknown_same (word key) ts (React (message_by ts m)) i.refs.known n h), reads_still ts key line s i i.refs refl refl good)
  reacting_found n m i (Some k) h good = (
    ap (λ (ks : List (machine.Known Local)). machine.Gives tt (record (at i) { known = ks })) (change_is (word key) ts (React (message_by ts m)) i.refs.known n k (with_reaction m k) h (single.react_is ts n m k)),
    reads_still ts key line s i (record i.refs { known = slice_set i.refs.known n (with_reaction m k) }) refl refl good,
  )

  react_known_is : (n : ℕ) (m : Message) (i : Interior) → Reads ts key i → StandsFor ts key line s (λ u. u) (react_known n m i) (alter (names_under key) (React (message_by ts m)) (Prom n) (at i))
  unfolding react_known
  react_known_is n m i good = reacting_found n m i (slice_get i.refs.known n) refl good

  react_at_is : (m : Message) (p : Place) (i : Interior) → Reads ts key i → StandsFor ts key line s (λ u. u) (react_placed m p i) (refs.react_at (names_under key) (message_by ts m) (place_by ts p) (at i))
  unfolding react_placed refs.react_at
  react_at_is m Near i good = enqueue_is ts key line s m i good
  react_at_is m (Mine n) i good = react_known_is n m i good
  react_at_is m (FarPromise h n) i good = react_known_is n m i good
  react_at_is m (FarObject h p) i good = enqueue_is ts key line s m i good
  react_at_is m (Gone t) i good = enqueue_is ts key line s m i good

  react_on_is : (m : Message) (x : Held) (i : Interior) → Reads ts key i
      → StandsFor ts key line s (λ u. u) (react_on m x i) (refs.react_at (names_under key) (message_by ts m) (refs.place (names_under key) (at i) (refs.follow (names_under key) (at i) (value_by ts x))) (at i))
  unfolding react_on
  react_on_is m x i good =
      subst (λ (y : Value Local). StandsFor ts key line s (λ u. u) (react_on m x i) (refs.react_at (names_under key) (message_by ts m) (refs.place (names_under key) (at i) y) (at i))) (sym (followed_at ts key line s i x good))
      (subst (λ (q : refs.Place Local). StandsFor ts key line s (λ u. u) (react_on m x i) (refs.react_at (names_under key) (message_by ts m) q (at i))) (sym (placed_at ts key line s i (followed i.refs x))) (react_at_is m (place_of i.refs (followed i.refs x)) i good))

  module _ (act : ℕ) (x o : Held) where
    reacts_is : (near : Held) (i : Interior) → Reads ts key i → StandsFor ts key line s (λ a. Ref (Prom a)) (react_new act x o near i.refs.me i) (refs.react (names_under key) act (value_by ts x) (value_by ts o) (value_by ts near) (at i))
    unfolding react_new refs.react refs.reaction code.◌>>=◌ code.◌>>◌ machine.◌>>=◌ machine.◌>>◌ machine.look machine.and_then
    reacts_is near i good =
        both_then ts key line s (named ts key line s tells) (λ a. Ref (Prom a)) (new_message i.refs.me i) _ _ _ (new_is ts key line s tells i.refs.me i good)
        (λ f j e next. both_then ts key line s (λ u. u) (λ a. Ref (Prom a)) (code.tell (event.When act f.id x o near f.answer) j) _ _ _
        (told_is ts key line s (event.When act f.id x o near f.answer) (Reacts act (value_by ts x) (value_by ts o) (record { id = Mess f.id; target = value_by ts near; verb = codes "run"; args = value_by ts x ∷ []; answer = Some (Prom f.answer) })) j (tells.reacts act f.id x o near f.answer) next)
        (λ u k g more. both_then ts key line s (λ v. v) (λ a. Ref (Prom a)) (react_on (record { id = f.id; target = near; verb = codes "run"; args = x ∷ []; answer = Some f.answer }) x k) _ _ _
        (react_on_is (record { id = f.id; target = near; verb = codes "run"; args = x ∷ []; answer = Some f.answer }) x k more)
        (λ v l d done. gives ts key line s (λ a. Ref (Prom a)) f.answer l done)))

    to_given : (r : Out ℕ) (d : machine.Done Local (Value Local)) → StandsFor ts key line s (λ a. Ref (Prom a)) r d → EndsFor ts key line s answer_given (code.and_then r some_answer) d
    unfolding code.and_then some_answer code.give
    to_given (Ok a, i) d h = h
    to_given (Err stop.Fuel, i) d h = h
    to_given (Err (stop.Repeated m n), i) d h = h
    to_given (Err stop.Astray, i) d h = h
    to_given (Err stop.Missing, i) d h = tt
    to_given (Err stop.Memory, i) d h = tt

    when_at : (tree : List Node) (y : Held) (p : Place) (i : Interior) → Reads ts key i
        → EndsFor ts key line s answer_given (when_placed act x o y p i.refs.me i) (react_near (names_under key) tree act (value_by ts x) (value_by ts o) (value_by ts y) (place_by ts p) (at i))
    unfolding when_placed react_near machine.throw code.give code.◌>>=◌
    when_at tree y Near i good = to_given (react_new act x o y i.refs.me i) _ (reacts_is y i good)
    when_at tree y (Mine n) i good = (refl, good)
    when_at tree y (FarPromise h n) i good = (refl, good)
    when_at tree y (FarObject h p) i good = (refl, good)
    when_at tree y (Gone t) i good = (refl, good)

    pub whens_is : (tree : List Node) (i : Interior) → Reads ts key i → EndsFor ts key line s answer_given (part.when_resolved act x o i) (when_resolved (names_under key) tree act (value_by ts x) (value_by ts o) (at i))
    unfolding part.when_resolved when_resolved machine.◌>>=◌ machine.look machine.and_then
    whens_is tree i good =
        let end = followed i.refs o in
        subst (λ (y : Value Local). EndsFor ts key line s answer_given (part.when_resolved act x o i) (react_near (names_under key) tree act (value_by ts x) (value_by ts o) y (refs.place (names_under key) (at i) y) (at i))) (sym (followed_at ts key line s i o good))
        (subst (λ (q : refs.Place Local). EndsFor ts key line s answer_given (part.when_resolved act x o i) (react_near (names_under key) tree act (value_by ts x) (value_by ts o) (value_by ts end) q (at i))) (sym (placed_at ts key line s i end)) (when_at tree end (place_of i.refs end) i good))

  -- ---- resolvers

  then_resolved : (r : Out (Unit {0})) (d : machine.Done Local (Unit {0})) → StandsFor ts key line s (λ u. u) r d → EndsFor ts key line s resolution_by (code.and_then r (λ _. code.give Resolved)) (machine.and_then d (λ _. machine.give Null))
  unfolding code.and_then code.give machine.and_then machine.give
  then_resolved (Ok u, i) d h = (ap (λ (x : machine.Done Local (Unit {0})). machine.and_then x (λ _. machine.give Null)) h.0, h.1)
  then_resolved (Err stop.Fuel, i) d h = rw h refl
  then_resolved (Err (stop.Repeated m n), i) d h = rw h refl
  then_resolved (Err stop.Astray, i) d h = rw h refl
  then_resolved (Err stop.Missing, i) d h = tt
  then_resolved (Err stop.Memory, i) d h = tt

  module _ (tree : List Node) (m : Act (Unit {0})) (n : machine.Act Local (Unit {0})) (i : Interior) (good : Reads ts key i) (same : StandsFor ts key line s (λ u. u) (m i) (n (at i))) where
    by_standing : (st : Standing) → EndsFor ts key line s resolution_by ((if stands_open st then resolved_by m else code.give AlreadyResolved) i) (where_unresolved (names_under key) tree (standing_by ts st) n (at i))
    unfolding where_unresolved resolved_by code.◌>>◌ machine.◌>>◌ machine.throw code.give
    by_standing Unsettled = then_resolved (m i) (n (at i)) same
    by_standing (WaitsOn q) = (refl, good)
    by_standing (Viewed q) = (refl, good)
    by_standing (Settled v) = (refl, good)

    by_known : (p : ℕ) (o : Option Known) → EndsFor ts key line s resolution_by ((if open_found o then resolved_by m else code.give AlreadyResolved) i) (where_unresolved (names_under key) tree (refs.standing_in (option_map (known_by ts p) o)) n (at i))
    unfolding open_found refs.standing_in
    by_known p None = by_standing Unsettled
    by_known p (Some k) = by_standing k.standing

    by_name : (p : ℕ) → EndsFor ts key line s resolution_by ((if is_open i.refs p then resolved_by m else code.give AlreadyResolved) i) (where_unresolved (names_under key) tree (refs.standing_of (names_under key) (knowns_by ts 0 i.refs.known) (Prom p)) n (at i))
    unfolding is_open refs.standing_of
    by_name p =
        subst (λ (o : Option (machine.Known Local)). EndsFor ts key line s resolution_by ((if open_found (slice_get i.refs.known p) then resolved_by m else code.give AlreadyResolved) i) (where_unresolved (names_under key) tree (refs.standing_in o) n (at i)))
        (sym (entry_is (word key) ts i.refs.known p)) (by_known p (slice_get i.refs.known p))

  pub tells_is : (tree : List Node) (p : ℕ) (x : Held) (i : Interior) → Reads ts key i → EndsFor ts key line s resolution_by (tell_resolver p x i) (resolver_answer (names_under key) tree (Prom p) (Resolves (value_by ts x)) (at i))
  unfolding tell_resolver resolver_answer machine.◌>>=◌ machine.look machine.and_then
  tells_is tree p x i good = by_name tree (resolve p x) (refs.resolve (names_under key) (Prom p) (value_by ts x)) i good (resolves_is ts key line s tells p x i good) p

  smashed_with : (tree : List Node) (p : ℕ) (y : Held) (i : Interior) → Reads ts key i → EndsFor ts key line s resolution_by (smash_with p y i) (smash (names_under key) tree (Prom p) (value_by ts y) (at i))
  unfolding smash_with smash machine.◌>>=◌ machine.look machine.and_then machine.throw code.give
  smashed_with tree p (held.Text t) i good = by_name tree (settle p (held.Broken t)) (refs.settle (names_under key) (Prom p) (value_by ts (held.Broken t))) i good (settles_is ts key line s tells p (held.Broken t) i good) p
  smashed_with tree p held.Null i good = (refl, good)
  smashed_with tree p (held.Bool b) i good = (refl, good)
  smashed_with tree p (held.Int z) i good = (refl, good)
  smashed_with tree p (held.Char c) i good = (refl, good)
  smashed_with tree p (held.List k) i good = (refl, good)
  smashed_with tree p (held.Prim n) i good = (refl, good)
  smashed_with tree p (held.Obj n) i good = (refl, good)
  smashed_with tree p (held.Prom n) i good = (refl, good)
  smashed_with tree p (held.Far h q) i good = (refl, good)
  smashed_with tree p (held.Broken id) i good = (refl, good)

  pub smashes_is : (tree : List Node) (p : ℕ) (x : Held) (i : Interior) → Reads ts key i → EndsFor ts key line s resolution_by (smash_resolver p x i) (resolver_answer (names_under key) tree (Prom p) (Smashes (value_by ts x)) (at i))
  unfolding smash_resolver resolver_answer machine.◌>>=◌ machine.look machine.and_then
  smashes_is tree p x i good =
      subst (λ (y : Value Local). EndsFor ts key line s resolution_by (smash_resolver p x i) (smash (names_under key) tree (Prom p) y (at i))) (sym (followed_at ts key line s i x good)) (smashed_with tree p (followed i.refs x) i good)
