-- What settles, and what is sent on then.
use Rattle.std.proofs.Common.{ℕ, zero, suc, Bool, true, false, List, [], ◌∷◌, ◌++◌, Option, Some, None, length}
use Rattle.std.specs.Prelude.{slice_get}
use Rattle.ev_base.specs.declared.values.Value.{Value}
use Rattle.ev_base.specs.declared.values.Value.TheVariants as held
use Rattle.ev_heap.specs.declared.happened.Happened.TheVariants as event
use Rattle.ev_refs.specs.Changes.{with_held, with_waiting, waiting_on, settled_as, waiters_at}
use Rattle.ev_refs.specs.Follow.{followed, place_of}
use Rattle.ev_refs.specs.Leading.{lists_in, leads_back}
use Rattle.ev_refs.specs.References.{References, unsettled_of}
use Rattle.ev_refs.specs.declared.follow.Place.{Place}
use Rattle.ev_refs.specs.declared.follow.Place.TheVariants.{Near, Mine, FarPromise, FarObject, Gone}
use Rattle.ev_refs.specs.declared.known.Known.{Known}
use Rattle.ev_refs.specs.declared.known.Message.{Message}
use Rattle.ev_refs.specs.declared.known.Standing.{Standing}
use Rattle.ev_refs.specs.declared.known.Standing.TheVariants.{Unsettled, WaitsOn, Viewed, Settled}
use Rattle.ev_refs.specs.declared.known.Waiters.{Waiters}
use Rattle.ev_pass.specs.Acts.{Act, ◌>>=◌, ◌>>◌, give, fail, tell}
use Rattle.ev_pass.specs.Delivering.{deliver, inform}
use Rattle.ev_pass.specs.declared.interior.Interior.{Interior}
use Rattle.ev_pass.specs.declared.note.Reference.{Reference}
use Rattle.ev_pass.specs.declared.note.Reference.TheVariants as reference
use Rattle.ev_settle.specs.Changes.{enqueue, held_in, hold, come, waiting_in, begin_wait, awaited_in, note_wait, wait_on}
use Rattle.ev_settle.specs.Settling.{pass_asking, pass_by_answer, pass_on, lost_answer, send_placed, send_on, set_known, parts_of, settle_waiters, settle_found, broken_if, target_of, settle_at, perform, next, run, patience, settle, forward}
use Rattle.ev_settle.specs.Tasks.{sends, enqueues, informs}
use Rattle.ev_settle.specs.Tasks as tasks
use Rattle.ev_settle.specs.declared.tasks.Task.{Task}
use Rattle.ev_settle.specs.declared.tasks.Task.TheVariants.{SendOn, Settle, Enqueue, Inform}
use Rattle.ev_room.specs.Holding.{Every, IfThere, IsOf, MessageOf, KnownOf}
use Rattle.law_evaluation.specs.Acts.Kinds.{Base, ReferencesIn, GroundOf, InsideOf, EndsOf, Anything}
use Rattle.law_evaluation.proofs.Acts.Acts.{then_of, give_of, tell_of, unless_of, with_known, refer}
use Rattle.law_evaluation.proofs.Acts.Follows.{PlaceOf, followed_of, placed_of, turned}
use Rattle.law_evaluation.proofs.Acts.Following.{every_got}
use Rattle.law_evaluation.proofs.Acts.Lists.{every_both, every_more, every_map, every_one}
use Rattle.law_evaluation.proofs.Acts.Passes.{deliver_of, inform_of}

module _ (kind : Value → Bool) (base : Base) where
  -- ---- single changes

  held_of : (n : ℕ) (m : Message) (o : Option Known) (r : References) → IfThere (KnownOf kind) o → MessageOf kind m → ReferencesIn kind base r → ReferencesIn kind base (held_in n m o r)
  unfolding held_in
  held_of n m None r a b c = c
  held_of n m (Some k) r a b c = with_known kind base r n (with_held m k) c (unless_of kind base k.standing k _ a (a.0, (every_more (MessageOf kind) k.held m a.1.0 b, a.1.1)))

  waiting_of : (p q : ℕ) (o : Option Known) (r : References) → IfThere (KnownOf kind) o → ReferencesIn kind base r → ReferencesIn kind base (waiting_in p q o r)
  unfolding waiting_in
  waiting_of p q None r a c = c
  waiting_of p q (Some k) r a c = with_known kind base r p (waiting_on q k) c (unless_of kind base k.standing k _ a (tt, a.1))

  awaited_of : (p q : ℕ) (o : Option Known) (r : References) → IfThere (KnownOf kind) o → ReferencesIn kind base r → ReferencesIn kind base (awaited_in p q o r)
  unfolding awaited_in
  awaited_of p q None r a c = c
  awaited_of p q (Some k) r a c = with_known kind base r q (with_waiting p k) c (unless_of kind base k.standing k _ a a)

  -- what waits at a name is of the kind
  abbrev WaitersOf : Waiters → Type 0
  WaitersOf ws = Every (MessageOf kind) ws.held × Every (MessageOf kind) ws.reactions

  waiters_of_kind : (st : Standing) (k : Known) → KnownOf kind k → IfThere WaitersOf (waiters_at st k)
  unfolding waiters_at
  waiters_of_kind (Settled v) k a = tt
  waiters_of_kind other k a = a.1

  pub settled_of : (v : Value) (k : Known) → IsOf kind v → KnownOf kind k → KnownOf kind (settled_as v k)
  settled_of v k a b = unless_of kind base k.standing k _ b (a, (tt, tt))

  abbrev TaskOf : Task → Type 0
  TaskOf (SendOn m d) = MessageOf kind m
  TaskOf (Settle p v d) = IsOf kind v
  TaskOf (Enqueue m) = MessageOf kind m
  TaskOf (Inform p w) = Unit {0}

  parts_of_kind : (p : ℕ) (v : Value) (d : ℕ) (ws : Waiters) → IsOf kind v → WaitersOf ws → Every TaskOf (parts_of p v d ws)
  parts_of_kind p v d ws a b =
      every_both TaskOf (sends d ws.held) _ (every_map (MessageOf kind) TaskOf (λ m. SendOn m d) ws.held (λ m c. c) b.0)
      (every_both TaskOf (tasks.settles d v ws.waiting) _ (every_map Anything TaskOf (λ q. Settle q v d) ws.waiting (λ q c. a) (every_one Anything ws.waiting (λ q. tt)))
      (every_both TaskOf (enqueues ws.reactions) _ (every_map (MessageOf kind) TaskOf Enqueue ws.reactions (λ m c. c) b.1)
      (every_map Anything TaskOf (Inform p) ws.told (λ w c. tt) (every_one Anything ws.told (λ w. tt)))))

  broken_of : (b : Bool) (r : References) (v : Value) → IsOf kind (held.Broken r.cycle) → IsOf kind v → IsOf kind (broken_if b r v)
  unfolding broken_if
  broken_of true r v a c = a
  broken_of false r v a c = c

  target_of_kind : (r : References) (ls : List (List Value)) (p : ℕ) (v : Value) → IsOf kind (held.Broken r.cycle) → IsOf kind v → IsOf kind (target_of r ls p v)
  unfolding target_of
  target_of_kind r ls p (held.List k) a b = broken_of (leads_back (suc (length ls)) r ls p (held.List k)) r (held.List k) a b
  target_of_kind r ls p other a b = b

module _ (kind : Value → Bool) (base : Base) (ground : GroundOf kind base) where
  abbrev known_at : (n : ℕ) (i : Interior) → InsideOf kind base i → IfThere (KnownOf kind) (slice_get i.refs.known n)
  known_at n i good = every_got (KnownOf kind) i.refs.known n good.refs.known

  pub enqueue_of : (m : Message) (i : Interior) → InsideOf kind base i → MessageOf kind m → EndsOf kind base Anything (enqueue m i)
  unfolding enqueue
  enqueue_of m i good a = (tt, refer kind base i _ good (record { known = good.refs.known; queue = every_more (MessageOf kind) i.refs.queue m good.refs.queue a; partition = good.refs.partition; cycle = good.refs.cycle }))

  pub hold_of : (n : ℕ) (m : Message) (i : Interior) → InsideOf kind base i → MessageOf kind m → EndsOf kind base Anything (hold n m i)
  unfolding hold
  hold_of n m i good a = (tt, refer kind base i _ good (held_of kind base n m (slice_get i.refs.known n) i.refs (known_at n i good) a good.refs))

  pub come_of : (w : ℕ) (i : Interior) → InsideOf kind base i → EndsOf kind base Anything (come w i)
  unfolding come
  come_of w i good = (tt, refer kind base i _ good (record { known = every_more (KnownOf kind) i.refs.known (unsettled_of w) good.refs.known (tt, (tt, tt)); queue = good.refs.queue; partition = good.refs.partition; cycle = good.refs.cycle }))

  begin_wait_of : (p q : ℕ) (i : Interior) → InsideOf kind base i → EndsOf kind base Anything (begin_wait p q i)
  unfolding begin_wait
  begin_wait_of p q i good = (tt, refer kind base i _ good (waiting_of kind base p q (slice_get i.refs.known p) i.refs (known_at p i good) good.refs))

  note_wait_of : (p q : ℕ) (i : Interior) → InsideOf kind base i → EndsOf kind base Anything (note_wait p q i)
  unfolding note_wait
  note_wait_of p q i good = (tt, refer kind base i _ good (awaited_of kind base p q (slice_get i.refs.known q) i.refs (known_at q i good) good.refs))

  pub wait_on_of : (p q : ℕ) (i : Interior) → InsideOf kind base i → EndsOf kind base Anything (wait_on p q i)
  unfolding wait_on ◌>>◌
  wait_on_of p q i good =
      then_of kind base Anything Anything (tell (event.Wait p q) i) _ (tell_of kind base (event.Wait p q) i good)
      (λ u a j next. then_of kind base Anything Anything (begin_wait p q j) _ (begin_wait_of p q j next) (λ v b k last. note_wait_of p q k last))

  -- ---- parts of a settling

  asking_of : (m : Message) (w : ℕ) (x : Reference) (p : ℕ) (i : Interior) → InsideOf kind base i → MessageOf kind m → EndsOf kind base Anything (pass_asking m w x p i)
  unfolding pass_asking ◌>>=◌ ◌>>◌
  asking_of m w x p i good a =
      then_of kind base Anything Anything (come w i) _ (come_of w i good)
      (λ n b j next. then_of kind base Anything Anything (deliver m.id (Some n) m.verb m.args w x j) _ (deliver_of kind base ground m.id (Some n) m.verb m.args w x j next a.1) (λ u c k last. wait_on_of p n k last))

  by_answer_of : (m : Message) (w : ℕ) (x : Reference) (o : Option ℕ) (i : Interior) → InsideOf kind base i → MessageOf kind m → EndsOf kind base Anything (pass_by_answer m w x o i)
  unfolding pass_by_answer
  by_answer_of m w x None i good a = deliver_of kind base ground m.id None m.verb m.args w x i good a.1
  by_answer_of m w x (Some p) i good a = asking_of m w x p i good a

  -- an act, and then what was to be done before
  before : (m : Act (Unit {0})) (rest : List Task) (i : Interior) → Every (TaskOf kind base) rest → EndsOf kind base Anything (m i) → EndsOf kind base (Every (TaskOf kind base)) ((m >> give rest) i)
  unfolding ◌>>◌
  before m rest i a g = then_of kind base Anything (Every (TaskOf kind base)) (m i) _ g (λ u b j next. give_of kind base (Every (TaskOf kind base)) rest j a next)

  lost_of : (o : Option ℕ) (t d : ℕ) (rest : List Task) → IsOf kind (held.Broken t) → Every (TaskOf kind base) rest → Every (TaskOf kind base) (lost_answer o t d rest)
  lost_of None t d rest a b = b
  lost_of (Some n) t d rest a b = (a, b)

  placed_on : (m : Message) (d : ℕ) (y : Value) (p : Place) (rest : List Task) (i : Interior) → InsideOf kind base i → MessageOf kind m → IsOf kind y → PlaceOf kind base ground p → Every (TaskOf kind base) rest
      → EndsOf kind base (Every (TaskOf kind base)) (send_placed m d y p rest i)
  unfolding send_placed pass_on
  placed_on m d y Near rest i good a b c more = before (enqueue (record m { target = y })) rest i more (enqueue_of (record m { target = y }) i good (b, a.1))
  placed_on m d y (Mine n) rest i good a b c more = before (hold n (record m { target = y })) rest i more (hold_of n (record m { target = y }) i good (b, a.1))
  placed_on m d y (FarPromise w n) rest i good a b c more = before (pass_on m w (reference.Promise n)) rest i more (by_answer_of m w (reference.Promise n) m.answer i good a)
  placed_on m d y (FarObject w p) rest i good a b c more = before (pass_on m w (reference.Far w p)) rest i more (by_answer_of m w (reference.Far w p) m.answer i good a)
  placed_on m d y (Gone t) rest i good a b c more = before (tell (event.LostBroken m.id)) (lost_answer m.answer t d rest) i (lost_of m.answer t d rest c more) (tell_of kind base (event.LostBroken m.id) i good)

  send_on_of : (m : Message) (d : ℕ) (rest : List Task) (i : Interior) → InsideOf kind base i → MessageOf kind m → Every (TaskOf kind base) rest → EndsOf kind base (Every (TaskOf kind base)) (send_on m d rest i)
  unfolding send_on
  send_on_of m d rest i good a more =
      let y = followed i.refs m.target in
      let is = followed_of kind base ground i.refs m.target good.refs a.0 in
      placed_on m d y (place_of i.refs y) rest i good a is (placed_of kind base ground i.refs y is) more

  set_of : (n : ℕ) (k : Known) (i : Interior) → InsideOf kind base i → KnownOf kind k → EndsOf kind base Anything (set_known n k i)
  unfolding set_known
  set_of n k i good a = (tt, refer kind base i _ good (with_known kind base i.refs n k good.refs a))

  waiters_settle : (p : ℕ) (v : Value) (d : ℕ) (k : Known) (o : Option Waiters) (rest : List Task) (i : Interior) → InsideOf kind base i → IsOf kind v → KnownOf kind k → IfThere (WaitersOf kind base) o → Every (TaskOf kind base) rest
      → EndsOf kind base (Every (TaskOf kind base)) (settle_waiters p v d k o rest i)
  unfolding settle_waiters ◌>>◌
  waiters_settle p v d k None rest i good a b c more = before (set_known p (settled_as v k)) rest i more (set_of p (settled_as v k) i good (settled_of kind base v k a b))
  waiters_settle p v d k (Some ws) rest i good a b c more =
      then_of kind base Anything (Every (TaskOf kind base)) (set_known p (settled_as v k) i) _ (set_of p (settled_as v k) i good (settled_of kind base v k a b))
      (λ u e j next. then_of kind base Anything (Every (TaskOf kind base)) (tell (event.Settle p v) j) _ (tell_of kind base (event.Settle p v) j next)
      (λ w f l last. give_of kind base (Every (TaskOf kind base)) (parts_of p v d ws ++ rest) l (every_both (TaskOf kind base) (parts_of p v d ws) rest (parts_of_kind kind base p v d ws a c) more) last))

  found_settle : (p : ℕ) (v : Value) (d : ℕ) (o : Option Known) (rest : List Task) (i : Interior) → InsideOf kind base i → IsOf kind v → IfThere (KnownOf kind) o → Every (TaskOf kind base) rest
      → EndsOf kind base (Every (TaskOf kind base)) (settle_found p v d o rest i)
  unfolding settle_found
  found_settle p v d None rest i good a b more = give_of kind base (Every (TaskOf kind base)) rest i more good
  found_settle p v d (Some k) rest i good a b more = waiters_settle p v d k (waiters_at k.standing k) rest i good a b (waiters_of_kind kind base k.standing k b) more

  settle_at_of : (p : ℕ) (v : Value) (d : ℕ) (rest : List Task) (i : Interior) → InsideOf kind base i → IsOf kind v → Every (TaskOf kind base) rest → EndsOf kind base (Every (TaskOf kind base)) (settle_at p v d rest i)
  unfolding settle_at fail
  settle_at_of p v zero rest i good a more = (tt, good)
  settle_at_of p v (suc d) rest i good a more =
      found_settle p (target_of i.refs (lists_in i.heap) p v) d (slice_get i.refs.known p) rest i good (target_of_kind kind base i.refs (lists_in i.heap) p v (turned kind base ground i.refs good.refs) a) (known_at p i good) more

  perform_of : (t : Task) (rest : List Task) (i : Interior) → InsideOf kind base i → TaskOf kind base t → Every (TaskOf kind base) rest → EndsOf kind base (Every (TaskOf kind base)) (perform t rest i)
  unfolding perform
  perform_of (SendOn m d) rest i good a more = send_on_of m d rest i good a more
  perform_of (Settle p v d) rest i good a more = settle_at_of p v d rest i good a more
  perform_of (Enqueue m) rest i good a more = before (enqueue m) rest i more (enqueue_of m i good a)
  perform_of (Inform p w) rest i good a more = before (inform p w) rest i more (inform_of kind base ground p w i good)

  run_of : (n : ℕ) (ts : List Task) (i : Interior) → InsideOf kind base i → Every (TaskOf kind base) ts → EndsOf kind base Anything (run n ts i)
  unfolding run next fail ◌>>=◌
  run_of zero ts i good a = (tt, good)
  run_of (suc n) [] i good a = give_of kind base Anything tt i tt good
  run_of (suc n) (t ∷ ts) i good a = then_of kind base (Every (TaskOf kind base)) Anything (perform t ts i) _ (perform_of t ts i good a.0 a.1) (λ more b j next. run_of n more j next b)

  pub settle_of : (p : ℕ) (v : Value) (i : Interior) → InsideOf kind base i → IsOf kind v → EndsOf kind base Anything (settle p v i)
  unfolding settle
  settle_of p v i good a = run_of patience (Settle p v (suc (suc (length i.refs.known))) ∷ []) i good (a, tt)

  pub forward_of : (m : Message) (i : Interior) → InsideOf kind base i → MessageOf kind m → EndsOf kind base Anything (forward m i)
  unfolding forward
  forward_of m i good a = run_of patience (SendOn m (suc (suc (length i.refs.known))) ∷ []) i good (a, tt)

pub settles : (kind : Value → Bool) (base : Base) (i : Interior) → GroundOf kind base → InsideOf kind base i → (p : ℕ) (v : Value) → IsOf kind v → EndsOf kind base Anything (settle p v i)
settles kind base i ground good p v a = settle_of kind base ground p v i good a

pub forwards : (kind : Value → Bool) (base : Base) (i : Interior) → GroundOf kind base → InsideOf kind base i → (m : Message) → MessageOf kind m → EndsOf kind base Anything (forward m i)
forwards kind base i ground good m a = forward_of kind base ground m i good a
