-- What resolves, what is sent, what reacts, and what a resolver is told.
use Rattle.std.proofs.Common.{ℕ, Bool, true, false, List, [], ◌∷◌, Option, Some, None, length}
use Rattle.std.specs.Prelude.{if◌then◌else◌, codes, is_some, slice_get}
use Rattle.ev_base.specs.declared.values.Value.{Value}
use Rattle.ev_base.specs.declared.values.Value.TheVariants as held
use Rattle.ev_heap.specs.declared.happened.Happened.TheVariants as event
use Rattle.def_machine.specs.Values.{Words}
use Rattle.ev_refs.specs.Changes.{with_reaction}
use Rattle.ev_refs.specs.Follow.{followed, place_of}
use Rattle.ev_refs.specs.References.{References, unsettled_of}
use Rattle.ev_refs.specs.Waiting.{waits_lead, is_open}
use Rattle.ev_refs.specs.declared.follow.Place.{Place}
use Rattle.ev_refs.specs.declared.follow.Place.TheVariants.{Near, Mine, FarPromise, FarObject, Gone}
use Rattle.ev_refs.specs.declared.known.Known.{Known}
use Rattle.ev_refs.specs.declared.known.Message.{Message}
use Rattle.ev_pass.specs.Acts.{Act, ◌>>=◌, ◌>>◌, give, tell}
use Rattle.ev_pass.specs.declared.interior.Interior.{Interior}
use Rattle.ev_pass.specs.declared.note.Reference.TheVariants as reference
use Rattle.ev_settle.specs.Changes.{wait_on}
use Rattle.ev_settle.specs.Closing.{resolve_answer, finish, throw}
use Rattle.ev_settle.specs.Reacting.{reacting_in, react_known, react_placed, react_on, react_new, some_answer, when_placed, when_resolved, resolved_by, tell_resolver, smash_with, smash_resolver}
use Rattle.ev_settle.specs.Resolving.{wait_unless_cycle, resolve_placed, resolve}
use Rattle.ev_settle.specs.Sending.{new_message, new_lone_message, answer_host, break_answer, send_first, send_new, send, send_lone, send_only}
use Rattle.ev_settle.specs.Settling.{settle}
use Rattle.ev_settle.specs.declared.resolver.Resolution.TheVariants.{Resolved, AlreadyResolved, BadArgument}
use Rattle.ev_room.specs.Holding.{Every, IfThere, IsOf, MessageOf, KnownOf}
use Rattle.law_evaluation.specs.Acts.Kinds.{Base, ReferencesIn, GroundOf, InsideOf, EndsOf, Anything}
use Rattle.law_evaluation.proofs.Acts.Acts.{then_of, give_of, tell_of, unless_of, with_known, refer}
use Rattle.law_evaluation.proofs.Acts.Follows.{PlaceOf, followed_of, placed_of, turned}
use Rattle.law_evaluation.proofs.Acts.Following.{every_got}
use Rattle.law_evaluation.proofs.Acts.Lists.{every_more}
use Rattle.law_evaluation.proofs.Acts.Passes.{deliver_of}
use Rattle.law_evaluation.proofs.Acts.Settles.{enqueue_of, hold_of, wait_on_of, settle_of}

reacting_of : (kind : Value → Bool) (base : Base) (n : ℕ) (m : Message) (o : Option Known) (r : References) → IfThere (KnownOf kind) o → MessageOf kind m → ReferencesIn kind base r → ReferencesIn kind base (reacting_in n m o r)
unfolding reacting_in
reacting_of kind base n m None r a b c = c
reacting_of kind base n m (Some k) r a b c = with_known kind base r n (with_reaction m k) c (unless_of kind base k.standing k _ a (a.0, (a.1.0, every_more (MessageOf kind) k.reactions m a.1.1 b)))

module _ (kind : Value → Bool) (base : Base) (ground : GroundOf kind base) where
  -- ---- resolving

  cycle_of : (b : Bool) (p q : ℕ) (i : Interior) → InsideOf kind base i → EndsOf kind base Anything ((if b then settle p (held.Broken i.refs.cycle) else wait_on p q) i)
  cycle_of true p q i good = settle_of kind base ground p (held.Broken i.refs.cycle) i good (turned kind base ground i.refs good.refs)
  cycle_of false p q i good = wait_on_of kind base ground p q i good

  waits_of : (p q : ℕ) (i : Interior) → InsideOf kind base i → EndsOf kind base Anything (wait_unless_cycle p q i)
  unfolding wait_unless_cycle
  waits_of p q i good = cycle_of (waits_lead (length i.refs.known) i.refs.known p q) p q i good

  resolve_at : (p : ℕ) (y : Value) (q : Place) (i : Interior) → InsideOf kind base i → IsOf kind y → EndsOf kind base Anything (resolve_placed p y q i)
  unfolding resolve_placed
  resolve_at p y (Mine n) i good a = waits_of p n i good
  resolve_at p y (FarPromise w n) i good a = waits_of p n i good
  resolve_at p y other i good a = settle_of kind base ground p y i good a

  pub resolve_of : (p : ℕ) (x : Value) (i : Interior) → InsideOf kind base i → IsOf kind x → EndsOf kind base Anything (resolve p x i)
  unfolding resolve
  resolve_of p x i good a = resolve_at p (followed i.refs x) (place_of i.refs (followed i.refs x)) i good (followed_of kind base ground i.refs x good.refs a)

  -- ---- sending

  new_of : (w : ℕ) (i : Interior) → InsideOf kind base i → EndsOf kind base Anything (new_message w i)
  unfolding new_message
  new_of w i good = (tt, refer kind base i _ good (record { known = every_more (KnownOf kind) i.refs.known (unsettled_of w) good.refs.known (tt, (tt, tt)); queue = good.refs.queue; partition = good.refs.partition; cycle = good.refs.cycle }))

  lone_of : (i : Interior) → InsideOf kind base i → EndsOf kind base Anything (new_lone_message i)
  unfolding new_lone_message
  lone_of i good = (tt, refer kind base i _ good (record { known = good.refs.known; queue = good.refs.queue; partition = good.refs.partition; cycle = good.refs.cycle }))

  break_of : (o : Option ℕ) (t : ℕ) (i : Interior) → InsideOf kind base i → IsOf kind (held.Broken t) → EndsOf kind base Anything (break_answer o t i)
  unfolding break_answer
  break_of None t i good a = give_of kind base Anything tt i tt good
  break_of (Some n) t i good a = settle_of kind base ground n (held.Broken t) i good a

  first_of : (m : Message) (p : Place) (i : Interior) → InsideOf kind base i → MessageOf kind m → PlaceOf kind base ground p → EndsOf kind base Anything (send_first m p i)
  unfolding send_first ◌>>◌
  first_of m Near i good a b = enqueue_of kind base ground m i good a
  first_of m (Mine n) i good a b = hold_of kind base ground n m i good a
  first_of m (FarPromise w n) i good a b = deliver_of kind base ground m.id m.answer m.verb m.args w (reference.Promise n) i good a.1
  first_of m (FarObject w p) i good a b = deliver_of kind base ground m.id m.answer m.verb m.args w (reference.Far w p) i good a.1
  first_of m (Gone t) i good a b = then_of kind base Anything Anything (tell (event.LostBroken m.id) i) _ (tell_of kind base (event.LostBroken m.id) i good) (λ u c j next. break_of m.answer t j next b)

  send_new_of : (act : ℕ) (x : Value) (verb : Words) (args : List Value) (y : Value) (p : Place) (w : ℕ) (i : Interior) → InsideOf kind base i → Every (IsOf kind) args → IsOf kind y → PlaceOf kind base ground p
      → EndsOf kind base Anything (send_new act x verb args y p w i)
  unfolding send_new ◌>>=◌ ◌>>◌
  send_new_of act x verb args y p w i good a b c =
      then_of kind base Anything Anything (new_message w i) _ (new_of w i good)
      (λ f d j next. let m : Message = record { id = f.id; target = y; verb = verb; args = args; answer = Some f.answer } in
      then_of kind base Anything Anything (tell (event.Send act f.id x verb args (Some f.answer)) j) _ (tell_of kind base (event.Send act f.id x verb args (Some f.answer)) j next)
      (λ u e k more. then_of kind base Anything Anything (send_first m p k) _ (first_of m p k more (b, a) c)
      (λ v g l last. give_of kind base Anything f.answer l tt last)))

  pub send_of : (act : ℕ) (x : Value) (verb : Words) (args : List Value) (i : Interior) → InsideOf kind base i → IsOf kind x → Every (IsOf kind) args → EndsOf kind base Anything (send act x verb args i)
  unfolding send
  send_of act x verb args i good a b =
      let y = followed i.refs x in
      let is = followed_of kind base ground i.refs x good.refs a in
      send_new_of act x verb args y (place_of i.refs y) (answer_host i.refs.me (place_of i.refs y)) i good b is (placed_of kind base ground i.refs y is)

  send_lone_of : (act : ℕ) (x : Value) (verb : Words) (args : List Value) (y : Value) (p : Place) (i : Interior) → InsideOf kind base i → Every (IsOf kind) args → IsOf kind y → PlaceOf kind base ground p
      → EndsOf kind base Anything (send_lone act x verb args y p i)
  unfolding send_lone ◌>>=◌ ◌>>◌
  send_lone_of act x verb args y p i good a b c =
      then_of kind base Anything Anything (new_lone_message i) _ (lone_of i good)
      (λ id d j next. let m : Message = record { id = id; target = y; verb = verb; args = args; answer = None } in
      then_of kind base Anything Anything (tell (event.Send act id x verb args None) j) _ (tell_of kind base (event.Send act id x verb args None) j next)
      (λ u e k more. first_of m p k more (b, a) c))

  pub send_only_of : (act : ℕ) (x : Value) (verb : Words) (args : List Value) (i : Interior) → InsideOf kind base i → IsOf kind x → Every (IsOf kind) args → EndsOf kind base Anything (send_only act x verb args i)
  unfolding send_only
  send_only_of act x verb args i good a b =
      let y = followed i.refs x in
      let is = followed_of kind base ground i.refs x good.refs a in
      send_lone_of act x verb args y (place_of i.refs y) i good b is (placed_of kind base ground i.refs y is)

  -- ---- reacting

  react_known_of : (n : ℕ) (m : Message) (i : Interior) → InsideOf kind base i → MessageOf kind m → EndsOf kind base Anything (react_known n m i)
  unfolding react_known
  react_known_of n m i good a = (tt, refer kind base i _ good (reacting_of kind base n m (slice_get i.refs.known n) i.refs (every_got (KnownOf kind) i.refs.known n good.refs.known) a good.refs))

  react_at_of : (m : Message) (p : Place) (i : Interior) → InsideOf kind base i → MessageOf kind m → EndsOf kind base Anything (react_placed m p i)
  unfolding react_placed
  react_at_of m (Mine n) i good a = react_known_of n m i good a
  react_at_of m (FarPromise w n) i good a = react_known_of n m i good a
  react_at_of m other i good a = enqueue_of kind base ground m i good a

  react_on_of : (m : Message) (x : Value) (i : Interior) → InsideOf kind base i → MessageOf kind m → EndsOf kind base Anything (react_on m x i)
  unfolding react_on
  react_on_of m x i good a = react_at_of m (place_of i.refs (followed i.refs x)) i good a

  react_new_of : (act : ℕ) (x o near : Value) (w : ℕ) (i : Interior) → InsideOf kind base i → IsOf kind x → IsOf kind near → EndsOf kind base Anything (react_new act x o near w i)
  unfolding react_new ◌>>=◌ ◌>>◌
  react_new_of act x o near w i good a b =
      then_of kind base Anything Anything (new_message w i) _ (new_of w i good)
      (λ f c j next. let m : Message = record { id = f.id; target = near; verb = codes "run"; args = x ∷ []; answer = Some f.answer } in
      then_of kind base Anything Anything (tell (event.When act f.id x o near f.answer) j) _ (tell_of kind base (event.When act f.id x o near f.answer) j next)
      (λ u d k more. then_of kind base Anything Anything (react_on m x k) _ (react_on_of m x k more (b, (a, tt)))
      (λ v e l last. give_of kind base Anything f.answer l tt last)))

  when_at_of : (act : ℕ) (x o y : Value) (p : Place) (w : ℕ) (i : Interior) → InsideOf kind base i → IsOf kind x → IsOf kind y → EndsOf kind base Anything (when_placed act x o y p w i)
  unfolding when_placed some_answer ◌>>=◌
  when_at_of act x o y Near w i good a b = then_of kind base Anything Anything (react_new act x o y w i) _ (react_new_of act x o y w i good a b) (λ n c j next. give_of kind base Anything (Some n) j tt next)
  when_at_of act x o y other w i good a b = give_of kind base Anything None i tt good

  -- ---- resolvers

  open_of : (b : Bool) (m : Act (Unit {0})) (i : Interior) → InsideOf kind base i → EndsOf kind base Anything (m i) → EndsOf kind base Anything ((if b then resolved_by m else give AlreadyResolved) i)
  unfolding resolved_by ◌>>◌
  open_of true m i good a = then_of kind base Anything Anything (m i) _ a (λ u c j next. give_of kind base Anything Resolved j tt next)
  open_of false m i good a = give_of kind base Anything AlreadyResolved i tt good

  smash_of : (p : ℕ) (y : Value) (i : Interior) → InsideOf kind base i → IsOf kind y → EndsOf kind base Anything (smash_with p y i)
  unfolding smash_with
  smash_of p (held.Text t) i good a = open_of (is_open i.refs p) (settle p (held.Broken t)) i good (settle_of kind base ground p (held.Broken t) i good (ground.broken t a))
  smash_of p other i good a = give_of kind base Anything BadArgument i tt good

  -- ---- the end of a turn

  answered_of : (o : Option ℕ) (v : Value) (i : Interior) → InsideOf kind base i → IsOf kind v → EndsOf kind base Anything (resolve_answer o v i)
  unfolding resolve_answer
  answered_of None v i good a = give_of kind base Anything tt i tt good
  answered_of (Some p) v i good a = resolve_of p v i good a

  pub finish_of : (act : ℕ) (o : Option ℕ) (v : Value) (i : Interior) → InsideOf kind base i → IsOf kind v → EndsOf kind base Anything (finish act o v i)
  unfolding finish ◌>>◌
  finish_of act o v i good a = then_of kind base Anything Anything (tell (event.Done act v) i) _ (tell_of kind base (event.Done act v) i good) (λ u b j next. answered_of o v j next a)

  pub throw_of : (act : ℕ) (o : Option ℕ) (t : ℕ) (i : Interior) → InsideOf kind base i → IsOf kind (held.Text t) → EndsOf kind base Anything (throw act o t i)
  unfolding throw ◌>>◌
  throw_of act o t i good a = then_of kind base Anything Anything (tell (event.Threw act (held.Text t)) i) _ (tell_of kind base (event.Threw act (held.Text t)) i good) (λ u b j next. break_of o t j next (ground.broken t a))

pub resolves : (kind : Value → Bool) (base : Base) (i : Interior) → GroundOf kind base → InsideOf kind base i → (p : ℕ) (v : Value) → IsOf kind v → EndsOf kind base Anything (resolve p v i)
resolves kind base i ground good p v a = resolve_of kind base ground p v i good a

pub sends : (kind : Value → Bool) (base : Base) (i : Interior) → GroundOf kind base → InsideOf kind base i → (act : ℕ) (x : Value) (verb : Words) (args : List Value) → IsOf kind x → Every (IsOf kind) args → EndsOf kind base Anything (send act x verb args i)
sends kind base i ground good act x verb args a b = send_of kind base ground act x verb args i good a b

pub sends_only : (kind : Value → Bool) (base : Base) (i : Interior) → GroundOf kind base → InsideOf kind base i → (act : ℕ) (x : Value) (verb : Words) (args : List Value) → IsOf kind x → Every (IsOf kind) args → EndsOf kind base Anything (send_only act x verb args i)
sends_only kind base i ground good act x verb args a b = send_only_of kind base ground act x verb args i good a b

pub whens : (kind : Value → Bool) (base : Base) (i : Interior) → GroundOf kind base → InsideOf kind base i → (act : ℕ) (x o : Value) → IsOf kind x → IsOf kind o → EndsOf kind base Anything (when_resolved act x o i)
unfolding when_resolved
whens kind base i ground good act x o a b = when_at_of kind base ground act x o (followed i.refs o) (place_of i.refs (followed i.refs o)) i.refs.me i good a (followed_of kind base ground i.refs o good.refs b)

pub tells : (kind : Value → Bool) (base : Base) (i : Interior) → GroundOf kind base → InsideOf kind base i → (p : ℕ) (x : Value) → IsOf kind x → EndsOf kind base Anything (tell_resolver p x i)
unfolding tell_resolver
tells kind base i ground good p x a = open_of kind base ground (is_open i.refs p) (resolve p x) i good (resolve_of kind base ground p x i good a)

pub smashes : (kind : Value → Bool) (base : Base) (i : Interior) → GroundOf kind base → InsideOf kind base i → (p : ℕ) (x : Value) → IsOf kind x → EndsOf kind base Anything (smash_resolver p x i)
unfolding smash_resolver
smashes kind base i ground good p x a = smash_of kind base ground p (followed i.refs x) i good (followed_of kind base ground i.refs x good.refs a)

pub finishes : (kind : Value → Bool) (base : Base) (i : Interior) → GroundOf kind base → InsideOf kind base i → (act : ℕ) (o : Option ℕ) (v : Value) → IsOf kind v → EndsOf kind base Anything (finish act o v i)
finishes kind base i ground good act o v a = finish_of kind base ground act o v i good a

pub throws : (kind : Value → Bool) (base : Base) (i : Interior) → GroundOf kind base → InsideOf kind base i → (act : ℕ) (o : Option ℕ) (t : ℕ) → IsOf kind (held.Text t) → EndsOf kind base Anything (throw act o t i)
throws kind base i ground good act o t a = throw_of kind base ground act o t i good a
