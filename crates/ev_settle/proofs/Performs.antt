-- Each part of a settling is done as the machine does it, and so all of them.
use Rattle.std.proofs.Common.{◌≡◌, ℕ, zero, suc, Bool, true, false, List, [], ◌∷◌, ◌++◌, Option, Some, None, Ok, Err, length, map, refl, sym, ap, ◌∙◌, subst, append_assoc}
use Rattle.std.specs.Prelude.{option_map, slice_get, slice_set}
use Rattle.std.proofs.lemmas.List.{length-map}
use Rattle.ev_base.specs.declared.values.Value.{Value as Held}
use Rattle.ev_base.specs.declared.values.Value.TheVariants as held
use Rattle.ev_heap.specs.declared.happened.Happened.TheVariants as event
use Rattle.ev_intro.specs.Word.{word}
use Rattle.def_machine.specs.Refs as refs
use Rattle.def_machine.specs.Refs.{entry_of, target_of, settle_at, settle_one, settle_entry, settle_standing, send_to, inform, reaches}
use Rattle.def_machine.specs.State as machine
use Rattle.def_machine.specs.State.{Vat, Act, Done, Gives, Throws, Ejects, Stops, Settles, Lost, and_then, ◌>>◌, give, each, alter, Settle as Settling}
use Rattle.def_machine.specs.Values.{Words, Value, Broken, Items, Local, Mess, Prom}
use Rattle.ev_pass.specs.Acts as code
use Rattle.ev_pass.specs.Acts.{Out}
use Rattle.ev_pass.specs.Delivering as out
use Rattle.ev_pass.specs.Reading.{Lines, Reads, StandsFor, around, names_under, vat_at}
use Rattle.ev_pass.specs.declared.interior.Interior.{Interior}
use Rattle.ev_pass.specs.declared.interior.Stop.TheVariants as stop
use Rattle.ev_pass.specs.declared.note.Reference.TheVariants as reference
use Rattle.ev_pass.proofs.Delivers.{informs}
use Rattle.ev_pass.proofs.Machine.{followed_at, placed_at}
use Rattle.ev_pass.proofs.Stands.{told_is}
use Rattle.ev_refs.specs.Changes.{unless_settled, settled_as, waiters_at, waiters_of}
use Rattle.ev_refs.specs.Follow.{followed, place_of}
use Rattle.ev_refs.specs.Leading.{leads_back, lists_in}
use Rattle.ev_refs.specs.Reading.{text_by, value_by, message_by, known_by, knowns_by, standing_by, place_by}
use Rattle.ev_refs.specs.References.{References}
use Rattle.ev_refs.specs.Statements.{KnowsTexts}
use Rattle.ev_refs.specs.declared.follow.Place.{Place}
use Rattle.ev_refs.specs.declared.follow.Place.TheVariants.{Near, Mine, FarPromise, FarObject, Gone}
use Rattle.ev_refs.specs.declared.known.Known.{Known}
use Rattle.ev_refs.specs.declared.known.Message.{Message}
use Rattle.ev_refs.specs.declared.known.Standing.{Standing}
use Rattle.ev_refs.specs.declared.known.Standing.TheVariants.{Unsettled, WaitsOn, Viewed, Settled}
use Rattle.ev_refs.specs.declared.known.Waiters.{Waiters}
use Rattle.ev_refs.proofs.Changing.{change_is, settle_is}
use Rattle.ev_refs.proofs.Machine.{as_many, entry_is}
use Rattle.ev_refs.proofs.Reaches.{reaches_is}
use Rattle.ev_settle.specs.Changes.{enqueue, hold}
use Rattle.ev_settle.specs.Performing.{Tells, task_act, tasks_act, GoesOn}
use Rattle.ev_settle.specs.Settling as part
use Rattle.ev_settle.specs.Settling.{lost_answer, send_placed, set_known, parts_of, settle_waiters, settle_found, broken_if, perform, next, run, patience, settle, forward}
use Rattle.ev_settle.specs.Tasks.{sends, settles, enqueues, informs as informing}
use Rattle.ev_settle.specs.declared.tasks.Task.{Task}
use Rattle.ev_settle.specs.declared.tasks.Task.TheVariants.{SendOn, Settle, Enqueue, Inform}
use Rattle.ev_settle.proofs.Changing.{reads_still, enqueue_is, hold_is, pass_on_is}

abbrev broken : Words → Value Local
broken t = Broken t

-- ---- one thing after another

unit_then : (d : Done Local (Unit {0})) (f g : Act Local (Unit {0})) → and_then (and_then d (λ _. f)) (λ _. g) ≡ and_then d (λ _ s. and_then (f s) (λ _. g))
unfolding and_then
unit_then (Gives u s) f g = refl
unit_then (Throws p s) f g = refl
unit_then (Ejects n v s) f g = refl
unit_then (Stops c s) f g = refl

unit_last : (d : Done Local (Unit {0})) → and_then d (λ _. give tt) ≡ d
unfolding and_then give
unit_last (Gives u s) = refl
unit_last (Throws p s) = refl
unit_last (Ejects n v s) = refl
unit_last (Stops c s) = refl

same_then : (d e : Done Local (Unit {0})) (f g : Act Local (Unit {0})) → d ≡ e → ((s : Vat Local) → f s ≡ g s) → and_then d (λ _. f) ≡ and_then e (λ _. g)
unfolding and_then
same_then (Gives u s) e f g h k = subst (λ (x : Done Local (Unit {0})). f s ≡ and_then x (λ _. g)) h (k s)
same_then (Throws p s) e f g h k = subst (λ (x : Done Local (Unit {0})). Throws p s ≡ and_then x (λ _. g)) h refl
same_then (Ejects n v s) e f g h k = subst (λ (x : Done Local (Unit {0})). Ejects n v s ≡ and_then x (λ _. g)) h refl
same_then (Stops c s) e f g h k = subst (λ (x : Done Local (Unit {0})). Stops c s ≡ and_then x (λ _. g)) h refl

set_same : (ks : List Known) (n : ℕ) (known : Known) → slice_get ks n ≡ Some known → slice_set ks n known ≡ ks
set_same [] n known h = absurd cc
set_same (x ∷ ks) zero known h = cc
set_same (x ∷ ks) (suc n) known h = ap (λ (ys : List Known). x ∷ ys) (set_same ks n known h)

stays : (v : Held) (known : Known) (z : Held) → known.standing ≡ Settled z → settled_as v known ≡ known
unfolding unless_settled
stays v known z e = rw e refl

module _ (ts : List Words) (key : List ℕ) where
  tasks_append : (xs ys : List Task) (s : Vat Local) → tasks_act key ts (xs ++ ys) s ≡ and_then (tasks_act key ts xs s) (λ _. tasks_act key ts ys)
  unfolding tasks_act give ◌>>◌ and_then
  tasks_append [] ys s = refl
  tasks_append (x ∷ xs) ys s =
      same_then (task_act key ts x s) (task_act key ts x s) (tasks_act key ts (xs ++ ys)) (λ t. and_then (tasks_act key ts xs t) (λ _. tasks_act key ts ys)) refl (tasks_append xs ys)
      ∙ sym (unit_then (task_act key ts x s) (tasks_act key ts xs) (tasks_act key ts ys))

  each_send : (d : ℕ) (ms : List Message) (s : Vat Local) → each (refs.send_on (names_under key) (settle_at (names_under key) d)) (map (message_by ts) ms) s ≡ tasks_act key ts (sends d ms) s
  unfolding each tasks_act task_act ◌>>◌
  each_send d [] s = refl
  each_send d (m ∷ ms) s = same_then _ _ _ _ refl (each_send d ms)

  each_settle : (d : ℕ) (v : Held) (ps : List ℕ) (s : Vat Local) → each (λ q. settle_at (names_under key) d q (value_by ts v)) (map Prom ps) s ≡ tasks_act key ts (settles d v ps) s
  unfolding each tasks_act task_act ◌>>◌
  each_settle d v [] s = refl
  each_settle d v (p ∷ ps) s = same_then _ _ _ _ refl (each_settle d v ps)

  each_enqueue : (ms : List Message) (s : Vat Local) → each machine.enqueue (map (message_by ts) ms) s ≡ tasks_act key ts (enqueues ms) s
  unfolding each tasks_act task_act ◌>>◌
  each_enqueue [] s = refl
  each_enqueue (m ∷ ms) s = same_then _ _ _ _ refl (each_enqueue ms)

  each_inform : (p : ℕ) (ws : List ℕ) (s : Vat Local) → each (inform (names_under key) (Prom p)) ws s ≡ tasks_act key ts (informing p ws) s
  unfolding each tasks_act task_act ◌>>◌
  each_inform p [] s = refl
  each_inform p (w ∷ ws) s = same_then _ _ _ _ refl (each_inform p ws)

  -- one part, and then the others
  first_part : (m n : Act Local (Unit {0})) (xs ys rest : List Task) → ((t : Vat Local) → m t ≡ tasks_act key ts xs t)
      → ((t : Vat Local) → and_then (n t) (λ _. tasks_act key ts rest) ≡ tasks_act key ts ys t)
      → (t : Vat Local) → and_then ((m >> n) t) (λ _. tasks_act key ts rest) ≡ tasks_act key ts (xs ++ ys) t
  unfolding ◌>>◌
  first_part m n xs ys rest h g t =
      unit_then (m t) n (tasks_act key ts rest)
      ∙ same_then (m t) (tasks_act key ts xs t) (λ u. and_then (n u) (λ _. tasks_act key ts rest)) (tasks_act key ts ys) (h t) g
      ∙ sym (tasks_append xs ys t)

  last_part : (m : Act Local (Unit {0})) (xs rest : List Task) → ((t : Vat Local) → m t ≡ tasks_act key ts xs t)
      → (t : Vat Local) → and_then (m t) (λ _. tasks_act key ts rest) ≡ tasks_act key ts (xs ++ rest) t
  last_part m xs rest h t = same_then (m t) (tasks_act key ts xs t) (tasks_act key ts rest) (tasks_act key ts rest) (h t) (λ u. refl) ∙ sym (tasks_append xs rest t)

  four : (as' bs cs ds rest : List Task) → as' ++ (bs ++ (cs ++ (ds ++ rest))) ≡ (as' ++ (bs ++ (cs ++ ds))) ++ rest
  four as' bs cs ds rest =
      ap (λ (xs : List Task). as' ++ (bs ++ xs)) (sym (append_assoc cs ds rest))
      ∙ ap (λ (xs : List Task). as' ++ xs) (sym (append_assoc bs (cs ++ ds) rest))
      ∙ sym (append_assoc as' (bs ++ (cs ++ ds)) rest)

  -- the four parts, in order, and then the rest
  in_order : (p : ℕ) (v : Held) (d : ℕ) (ws : Waiters) (rest : List Task) (t : Vat Local)
      → and_then ((each (refs.send_on (names_under key) (settle_at (names_under key) d)) (map (message_by ts) ws.held) >> (each (λ q. settle_at (names_under key) d q (value_by ts v)) (map Prom ws.waiting) >> (each machine.enqueue (map (message_by ts) ws.reactions) >> each (inform (names_under key) (Prom p)) ws.told))) t) (λ _. tasks_act key ts rest)
      ≡ tasks_act key ts (parts_of p v d ws ++ rest) t
  in_order p v d ws rest t =
      first_part _ _ (sends d ws.held) _ rest (each_send d ws.held)
      (first_part _ _ (settles d v ws.waiting) _ rest (each_settle d v ws.waiting)
      (first_part _ _ (enqueues ws.reactions) _ rest (each_enqueue ws.reactions)
      (last_part _ (informing p ws.told) rest (each_inform p ws.told)))) t
      ∙ ap (λ (xs : List Task). tasks_act key ts xs t) (four (sends d ws.held) (settles d v ws.waiting) (enqueues ws.reactions) (informing p ws.told) rest)

  two_first : (m n more r : Act Local (Unit {0})) (t u w : Vat Local) → m t ≡ Gives tt u → n u ≡ Gives tt w → and_then ((m >> (n >> more)) t) (λ _. r) ≡ and_then (more w) (λ _. r)
  unfolding ◌>>◌ and_then
  two_first m n more r t u w h g =
      ap (λ (x : Done Local (Unit {0})). and_then (and_then x (λ _ y. and_then (n y) (λ _. more))) (λ _. r)) h
      ∙ ap (λ (x : Done Local (Unit {0})). and_then (and_then x (λ _. more)) (λ _. r)) g

  module _ (line : Lines) (s : Vat Local) (tells : Tells ts line) where
    abbrev at : Interior → Vat Local
    at i = vat_at ts line i s

    abbrev Goes : Out (List Task) → Done Local (Unit {0}) → Type 0
    Goes o d = GoesOn ts key line s o d

    -- what changes the inside alone, and then the rest
    rests : (o : Out (Unit {0})) (d : Done Local (Unit {0})) (rest : List Task) → StandsFor ts key line s (λ u. u) o d → Goes (code.and_then o (λ _. code.give rest)) (and_then d (λ _. tasks_act key ts rest))
    unfolding code.and_then code.give and_then
    rests (Ok u, i) d rest h = (ap (λ (x : Done Local (Unit {0})). and_then x (λ _. tasks_act key ts rest)) h.0, h.1)
    rests (Err stop.Fuel, i) d rest h = rw h refl
    rests (Err (stop.Repeated m n), i) d rest h = rw h refl
    rests (Err stop.Astray, i) d rest h = rw h refl
    rests (Err stop.Missing, i) d rest h = tt
    rests (Err stop.Memory, i) d rest h = tt

    -- ---- a message that is sent on

    lost_is : (o : Option ℕ) (t d : ℕ) (rest : List Task) (i : Interior)
        → and_then (machine.for_some (option_map Prom o) (λ a. settle_at (names_under key) d a (Broken (text_by ts t))) (give tt) (at i)) (λ _. tasks_act key ts rest) ≡ tasks_act key ts (lost_answer o t d rest) (at i)
    unfolding machine.for_some give and_then tasks_act task_act ◌>>◌
    lost_is None t d rest i = refl
    lost_is (Some a) t d rest i = refl

    told_then : (m : Message) (d t : ℕ) (rest : List Task) (i j : Interior) → StandsFor ts key line s (λ u. u) (Ok tt, j) (machine.tell (Lost (Mess m.id)) (at i))
        → Goes (Ok (lost_answer m.answer t d rest), j)
        (and_then (and_then (machine.tell (Lost (Mess m.id)) (at i)) (λ _. machine.for_some (option_map Prom m.answer) (λ a. settle_at (names_under key) d a (Broken (text_by ts t))) (give tt))) (λ _. tasks_act key ts rest))
    unfolding and_then
    told_then m d t rest i j h = (
      ap (λ (x : Done Local (Unit {0})). and_then (and_then x (λ _. machine.for_some (option_map Prom m.answer) (λ a. settle_at (names_under key) d a (Broken (text_by ts t))) (give tt))) (λ _. tasks_act key ts rest)) h.0
          ∙ lost_is m.answer t d rest j,
      h.1,
    )

    gone_is : (m : Message) (d t : ℕ) (rest : List Task) (i : Interior) → Reads ts key i
        → Goes (code.and_then (code.tell (event.LostBroken m.id) i) (λ _. code.give (lost_answer m.answer t d rest)))
        (and_then (and_then (machine.tell (Lost (Mess m.id)) (at i)) (λ _. machine.for_some (option_map Prom m.answer) (λ a. settle_at (names_under key) d a (Broken (text_by ts t))) (give tt))) (λ _. tasks_act key ts rest))
    unfolding code.tell code.and_then code.give and_then
    gone_is m d t rest i good =
        let after : Interior = record i { micro = record i.micro { events = i.micro.events ++ event.LostBroken m.id ∷ [] } } in
        told_then m d t rest i after (told_is ts key line s (event.LostBroken m.id) (Lost (Mess m.id)) i (tells.lost m.id) good)

    placed : (m : Message) (d : ℕ) (y : Held) (p : Place) (rest : List Task) (i : Interior) → Reads ts key i
        → Goes (send_placed m d y p rest i) (and_then (send_to (names_under key) (settle_at (names_under key) d) (message_by ts m) (value_by ts y) (place_by ts p) (at i)) (λ _. tasks_act key ts rest))
    unfolding send_placed send_to code.◌>>◌ code.and_then code.give ◌>>◌ and_then
    placed m d y Near rest i good = rests (enqueue (record m { target = y }) i) _ rest (enqueue_is ts key line s (record m { target = y }) i good)
    placed m d y (Mine n) rest i good = rests (hold n (record m { target = y }) i) _ rest (hold_is ts key line s n (record m { target = y }) i good)
    placed m d y (FarPromise h n) rest i good = rests (part.pass_on m h (reference.Promise n) i) _ rest (pass_on_is ts key line s tells m h (reference.Promise n) i good)
    placed m d y (FarObject h p) rest i good = rests (part.pass_on m h (reference.Far h p) i) _ rest (pass_on_is ts key line s tells m h (reference.Far h p) i good)
    placed m d y (Gone t) rest i good = gone_is m d t rest i good

    sent_on : (m : Message) (d : ℕ) (rest : List Task) (i : Interior) → Reads ts key i → Goes (part.send_on m d rest i) (and_then (refs.send_on (names_under key) (settle_at (names_under key) d) (message_by ts m) (at i)) (λ _. tasks_act key ts rest))
    unfolding part.send_on refs.send_on machine.◌>>=◌ machine.look and_then
    sent_on m d rest i good =
        let end = followed i.refs m.target in
        subst (λ (x : Value Local). Goes (part.send_on m d rest i) (and_then (send_to (names_under key) (settle_at (names_under key) d) (message_by ts m) x (refs.place (names_under key) (at i) x) (at i)) (λ _. tasks_act key ts rest)))
        (sym (followed_at ts key line s i m.target good))
        (subst (λ (x : refs.Place Local). Goes (part.send_on m d rest i) (and_then (send_to (names_under key) (settle_at (names_under key) d) (message_by ts m) (value_by ts end) x (at i)) (λ _. tasks_act key ts rest)))
        (sym (placed_at ts key line s i end)) (placed m d end (place_of i.refs end) rest i good))

    -- ---- a name that settles

    settled_now : (p : ℕ) (v : Held) (d : ℕ) (known : Known) (rest : List Task) (i : Interior) → slice_get i.refs.known p ≡ Some known → Reads ts key i
        → Goes (settle_waiters p v d known (Some (waiters_of known)) rest i) (and_then (refs.settle_known (names_under key) (λ q z. settle_at (names_under key) d q z) (Prom p) (value_by ts v) (known_by ts p known) (at i)) (λ _. tasks_act key ts rest))
    unfolding settle_waiters set_known code.◌>>◌ code.and_then code.tell code.give refs.settle_known alter
    settled_now p v d known rest i h good =
        let j : Interior = record i { micro = record i.micro { events = i.micro.events ++ event.Settle p v ∷ [] } } in
        let k : Interior = record j { refs = record i.refs { known = slice_set i.refs.known p (settled_as v known) } } in
        let told : StandsFor ts key line s (λ u. u) (Ok tt, j) (machine.tell (Settles (Prom p) (value_by ts v)) (at i)) = told_is ts key line s (event.Settle p v) (Settles (Prom p) (value_by ts v)) i (tells.settled p v) good in
        let altered : alter (names_under key) (Settling (value_by ts v)) (Prom p) (at j) ≡ Gives tt (at k) =
        ap (λ (ks : List (machine.Known Local)). Gives tt (record (at j) { known = ks })) (change_is (word key) ts (Settling (value_by ts v)) i.refs.known p known (settled_as v known) h (settle_is ts p v known)) in (
          two_first _ _ _ (tasks_act key ts rest) (at i) (at j) (at k) told.0 altered ∙ in_order p v d (waiters_of known) rest (at k),
          reads_still ts key line s j (record i.refs { known = slice_set i.refs.known p (settled_as v known) }) refl refl told.1,
        )

    by_standing : (p : ℕ) (v : Held) (d : ℕ) (known : Known) (st : Standing) (rest : List Task) (i : Interior) → known.standing ≡ st → slice_get i.refs.known p ≡ Some known → Reads ts key i
        → Goes (settle_waiters p v d known (waiters_at st known) rest i) (and_then (settle_standing (names_under key) (λ q z. settle_at (names_under key) d q z) (Prom p) (value_by ts v) (known_by ts p known) (standing_by ts st) (at i)) (λ _. tasks_act key ts rest))
    unfolding settle_standing settle_waiters waiters_at set_known code.◌>>◌ code.and_then code.give give and_then
    by_standing p v d known Unsettled rest i e h good = settled_now p v d known rest i h good
    by_standing p v d known (WaitsOn q) rest i e h good = settled_now p v d known rest i h good
    by_standing p v d known (Viewed q) rest i e h good = settled_now p v d known rest i h good
    by_standing p v d known (Settled z) rest i e h good =
        let same : slice_set i.refs.known p (settled_as v known) ≡ i.refs.known = ap (λ (x : Known). slice_set i.refs.known p x) (stays v known z e) ∙ set_same i.refs.known p known h in
        subst (λ (ks : List Known). Goes (Ok rest, record i { refs = record i.refs { known = ks } }) (tasks_act key ts rest (at i))) (sym same) (refl, good)

    by_entry : (p : ℕ) (v : Held) (d : ℕ) (o : Option Known) (rest : List Task) (i : Interior) → slice_get i.refs.known p ≡ o → Reads ts key i
        → Goes (settle_found p v d o rest i) (and_then (settle_entry (names_under key) (λ q z. settle_at (names_under key) d q z) (Prom p) (value_by ts v) (option_map (known_by ts p) o) (at i)) (λ _. tasks_act key ts rest))
    unfolding settle_entry settle_found give and_then code.give
    by_entry p v d None rest i h good = (refl, good)
    by_entry p v d (Some known) rest i h good = by_standing p v d known known.standing rest i refl h good

    cut_is : (b : Bool) (r : References) (v : Held) → KnowsTexts ts r → refs.cut_cycle (names_under key) b (value_by ts v) ≡ value_by ts (broken_if b r v)
    unfolding refs.cut_cycle broken_if
    cut_is true r v knows = ap (λ (t : Words). broken t) (sym knows.1)
    cut_is false r v knows = refl

    target_is : (i : Interior) (p : ℕ) (v : Held) → Reads ts key i → target_of (names_under key) (at i) (Prom p) (value_by ts v) ≡ value_by ts (part.target_of i.refs (lists_in i.heap) p v)
    unfolding target_of part.target_of
    target_is i p (held.List id) good =
        let ls = lists_in i.heap in
        ap (λ (n : ℕ). refs.cut_cycle (names_under key) (reaches (names_under key) (suc n) (at i) (Prom p) (Items id)) (Items id)) (length-map ls (map (value_by ts)))
        ∙ ap (λ (b : Bool). refs.cut_cycle (names_under key) b (Items id)) (reaches_is (word key) ts i.refs ls p (around ts line i s) good.known refl (suc (length ls)) (held.List id))
        ∙ cut_is (leads_back (suc (length ls)) i.refs ls p (held.List id)) i.refs (held.List id) good.known
    target_is i p held.Null good = refl
    target_is i p (held.Bool b) good = refl
    target_is i p (held.Int z) good = refl
    target_is i p (held.Char c) good = refl
    target_is i p (held.Text id) good = refl
    target_is i p (held.Prim n) good = refl
    target_is i p (held.Obj n) good = refl
    target_is i p (held.Prom q) good = refl
    target_is i p (held.Far a q) good = refl
    target_is i p (held.Broken id) good = refl

    settled_at : (p : ℕ) (v : Held) (d : ℕ) (rest : List Task) (i : Interior) → Reads ts key i
        → Goes (part.settle_at p v d rest i) (and_then (settle_at (names_under key) d (Prom p) (value_by ts v) (at i)) (λ _. tasks_act key ts rest))
    unfolding part.settle_at settle_at settle_one machine.◌>>=◌ machine.look machine.stop code.fail and_then
    settled_at p v zero rest i good = refl
    settled_at p v (suc d) rest i good =
        let x = part.target_of i.refs (lists_in i.heap) p v in
        subst (λ (y : Value Local). Goes (part.settle_at p v (suc d) rest i) (and_then (settle_entry (names_under key) (λ q z. settle_at (names_under key) d q z) (Prom p) y (entry_of (names_under key) (knowns_by ts 0 i.refs.known) (Prom p)) (at i)) (λ _. tasks_act key ts rest)))
        (sym (target_is i p v good))
        (subst (λ (o : Option (machine.Known Local)). Goes (part.settle_at p v (suc d) rest i) (and_then (settle_entry (names_under key) (λ q z. settle_at (names_under key) d q z) (Prom p) (value_by ts x) o (at i)) (λ _. tasks_act key ts rest)))
        (sym (entry_is (word key) ts i.refs.known p)) (by_entry p x d (slice_get i.refs.known p) rest i refl good))

    -- one part, and then the rest
    pub performed : (t : Task) (rest : List Task) (i : Interior) → Reads ts key i → Goes (perform t rest i) (tasks_act key ts (t ∷ rest) (at i))
    unfolding perform tasks_act task_act ◌>>◌ code.◌>>◌
    performed (SendOn m d) rest i good = sent_on m d rest i good
    performed (Settle p v d) rest i good = settled_at p v d rest i good
    performed (Enqueue m) rest i good = rests (enqueue m i) _ rest (enqueue_is ts key line s m i good)
    performed (Inform p w) rest i good = rests (out.inform p w i) _ rest (informs ts key line s p w i good)

    run_then : (n : ℕ) (o : Out (List Task)) (d : Done Local (Unit {0})) → Goes o d → ((us : List Task) (j : Interior) → Reads ts key j → StandsFor ts key line s (λ u. u) (run n us j) (tasks_act key ts us (at j)))
        → StandsFor ts key line s (λ u. u) (code.and_then o (run n)) d
    unfolding code.and_then
    run_then n (Ok us, j) d h more = subst (λ (x : Done Local (Unit {0})). StandsFor ts key line s (λ u. u) (run n us j) x) (sym h.0) (more us j h.1)
    run_then n (Err stop.Fuel, j) d h more = h
    run_then n (Err (stop.Repeated a b), j) d h more = h
    run_then n (Err stop.Astray, j) d h more = h
    run_then n (Err stop.Missing, j) d h more = tt
    run_then n (Err stop.Memory, j) d h more = tt

    nothing : (i : Interior) → Reads ts key i → StandsFor ts key line s (λ u. u) (Ok tt, i) (tasks_act key ts [] (at i))
    unfolding tasks_act give
    nothing i good = (refl, good)

    one_task : (p : ℕ) (v : Held) (d : ℕ) (t : Vat Local) → tasks_act key ts (Settle p v d ∷ []) t ≡ settle_at (names_under key) d (Prom p) (value_by ts v) t
    unfolding tasks_act task_act ◌>>◌
    one_task p v d t = unit_last (settle_at (names_under key) d (Prom p) (value_by ts v) t)

    -- part by part
    ran : (n : ℕ) (us : List Task) (i : Interior) → Reads ts key i → StandsFor ts key line s (λ u. u) (run n us i) (tasks_act key ts us (at i))
    unfolding run next code.fail code.give code.◌>>=◌
    ran zero us i good = tt
    ran (suc n) [] i good = nothing i good
    ran (suc n) (t ∷ us) i good = run_then n (perform t us i) (tasks_act key ts (t ∷ us) (at i)) (performed t us i good) (ran n)

    pub settles_is : (p : ℕ) (v : Held) (i : Interior) → Reads ts key i → StandsFor ts key line s (λ u. u) (settle p v i) (refs.settle (names_under key) (Prom p) (value_by ts v) (at i))
    unfolding settle refs.settle machine.◌>>=◌ machine.look and_then
    settles_is p v i good =
        let depth : length (knowns_by ts 0 i.refs.known) ≡ length i.refs.known = as_many (word key) ts ts 0 i.refs.known in
        let one = one_task p v (suc (suc (length i.refs.known))) (at i) in
        subst (λ (d : Done Local (Unit {0})). StandsFor ts key line s (λ u. u) (settle p v i) d)
        (one ∙ ap (λ (n : ℕ). settle_at (names_under key) (suc (suc n)) (Prom p) (value_by ts v) (at i)) (sym depth))
        (ran patience (Settle p v (suc (suc (length i.refs.known))) ∷ []) i good)

    one_sent : (m : Message) (d : ℕ) (t : Vat Local) → tasks_act key ts (SendOn m d ∷ []) t ≡ refs.send_on (names_under key) (settle_at (names_under key) d) (message_by ts m) t
    unfolding tasks_act task_act ◌>>◌
    one_sent m d t = unit_last (refs.send_on (names_under key) (settle_at (names_under key) d) (message_by ts m) t)

    -- what is lost breaks its answer, and no name came to be known since the message was here
    answer_by : (a : Option Local) (w : Words) (t : Vat Local) (ks : List (machine.Known Local)) → t.known ≡ ks
        → machine.for_some a (λ n. settle_at (names_under key) (suc (suc (length ks))) n (Broken w)) (give tt) t ≡ machine.for_some a (λ n. refs.settle (names_under key) n (Broken w)) (give tt) t
    unfolding machine.for_some refs.settle machine.◌>>=◌ machine.look and_then
    answer_by (Some n) w t ks h = ap (λ (z : List (machine.Known Local)). settle_at (names_under key) (suc (suc (length z))) n (Broken w) t) (sym h)
    answer_by None w t ks h = refl

    placed_so : (m : machine.Message Local) (y : Value Local) (p : refs.Place Local) (t : Vat Local)
        → refs.send_to (names_under key) (settle_at (names_under key) (suc (suc (length t.known)))) m y p t ≡ refs.send_to (names_under key) (refs.settle (names_under key)) m y p t
    unfolding refs.send_to machine.tell ◌>>◌ and_then
    placed_so m y refs.Near t = refl
    placed_so m y (refs.Mine n) t = refl
    placed_so m y (refs.Away h n o) t = refl
    placed_so m y (refs.Gone w) t = answer_by m.answer w (record t { happened = t.happened ++ Lost m.id ∷ [] }) t.known refl

    sent_so : (m : machine.Message Local) (t : Vat Local) → refs.send_on (names_under key) (settle_at (names_under key) (suc (suc (length t.known)))) m t ≡ refs.send_on (names_under key) (refs.settle (names_under key)) m t
    unfolding refs.send_on machine.◌>>=◌ machine.look and_then
    sent_so m t = placed_so m (refs.follow (names_under key) t m.target) (refs.place (names_under key) t (refs.follow (names_under key) t m.target)) t

    -- a message that is here is sent on
    pub forwards_is : (m : Message) (i : Interior) → Reads ts key i → StandsFor ts key line s (λ u. u) (forward m i) (refs.send_on (names_under key) (refs.settle (names_under key)) (message_by ts m) (at i))
    unfolding forward
    forwards_is m i good =
        let depth : length (knowns_by ts 0 i.refs.known) ≡ length i.refs.known = as_many (word key) ts ts 0 i.refs.known in
        subst (λ (d : Done Local (Unit {0})). StandsFor ts key line s (λ u. u) (forward m i) d)
        (one_sent m (suc (suc (length i.refs.known))) (at i)
        ∙ ap (λ (n : ℕ). refs.send_on (names_under key) (settle_at (names_under key) (suc (suc n))) (message_by ts m) (at i)) (sym depth)
        ∙ sent_so (message_by ts m) (at i))
        (ran patience (SendOn m (suc (suc (length i.refs.known))) ∷ []) i good)
