-- What a vat does with references, but for settlings, keeps it ready, and the ways only grow; so a whole turn goes by such changes and by settlings.
use Rattle.std.proofs.Common.{◌≡◌, ℕ, zero, suc, ◌-◌, Bool, false, List, [], ◌∷◌, ◌++◌, Option, Some, None, length, refl, sym, subst}
use Rattle.def_machine.specs.Values.{Words, Value, Null, Broken, Ref, Name, Naming, IsOwn, naming, name_of, mail_of, answer_of}
use Rattle.def_machine.specs.State.{Message, Passed, Passeds, AGift, Delivery, Deliver, Open, Change, Hold, React, ToTell, Vat, Done, Gives, Throws, Ejects, Stops, Act, ◌>>=◌, ◌>>◌, and_then, give, draw, draws, send_out, enqueue, alter, for_some, new_message, new_lone_message, drawn_at, look, tell, Sends}
use Rattle.def_machine.specs.State as state
use Rattle.def_machine.specs.Refs as refs
use Rattle.def_machine.specs.Refs.{Place, Near, Mine, Away, Gone}
use Rattle.law_machine.specs.Machine.Steps.{After}
use Rattle.def_run.specs.World.{Script, World, names}
use Rattle.law_order.specs.Ordering.Worlds.{AddsOnly}
use Rattle.law_order.specs.Ordering.Steps.{StaysReady, Course, over, grew, settled, resolved, PassingGrows, DeliveringGrows, ReactingGrows, SendingGrows, SendingGoesSo, TurnsGoSo}
use Rattle.law_order.proofs.Ordering.Moves.{Keeps, IsKept, IsKeptUnder, keeps_bind, keeps_then, keeps_look, keeps_give, keeps_tell}
use Rattle.law_order.proofs.Ordering.Passings.{keeps_pass, keeps_pass_all}
use Rattle.law_order.proofs.Ordering.Evals.{keeps_taking, keeps_opening}
use Rattle.law_order.proofs.Ordering.Adds.{IsSimple, stays_quiet, adds_nothing, adds_message, adds_note, change_adds}
use Rattle.law_order.proofs.Ordering.News.{stays_self, stays_then, messaged, lone_messaged, promised, opened}

module _ (script : Script) (honest : ℕ → Bool) (w : World) (v : ℕ) where
  abbrev K : Naming Name Name
  K = names script v

  abbrev R : Vat Name → Vat Name → Type 0
  R = StaysReady script honest w v

  abbrev C : Vat Name → Vat Name → Type 0
  C = Course script honest w v

  -- ---- what only adds

  adds : (s t : Vat Name) → AddsOnly K s t → t.messages ≡ s.messages → t.promises ≡ s.promises → t.drawn ≡ s.drawn → R s t
  adds s t g m p d = stays_quiet script honest w v s t (g, m, p, d)

  quiet : (s t : Vat Name) → t.known ≡ s.known → t.number ≡ s.number → t.gifts ≡ s.gifts → t.noticed ≡ s.noticed → t.queue ≡ s.queue → t.outbox ≡ s.outbox → t.messages ≡ s.messages → t.promises ≡ s.promises → t.drawn ≡ s.drawn → R s t
  quiet s t a b c d e f m p q = adds s t (adds_nothing K s t a b c d e f) m p q

  pub stays : IsKept R
  stays = record {
    same = λ s. stays_self script honest w v s;
    trans = λ a b. stays_then script honest w v a b;
    fuel = λ s n. quiet s (record s { fuel = s.fuel - n }) refl refl refl refl refl refl refl refl refl;
    happened = λ s e. quiet s (record s { happened = s.happened ++ e ∷ [] }) refl refl refl refl refl refl refl refl refl;
    activations = λ s. quiet s (record s { activations = suc s.activations }) refl refl refl refl refl refl refl refl refl;
    thing = λ s t. quiet s (record s { things = s.things ++ t ∷ [] }) refl refl refl refl refl refl refl refl refl;
    killed = λ s n. quiet s (record s { things = state.change state.dead n s.things }) refl refl refl refl refl refl refl refl refl;
    slot = λ s c. quiet s (record s { slots = s.slots ++ c ∷ [] }) refl refl refl refl refl refl refl refl refl;
    written = λ s n y. quiet s (record s { slots = state.change (state.holding y) n s.slots }) refl refl refl refl refl refl refl refl refl;
    list = λ s ys. quiet s (record s { lists = s.lists ++ ys ∷ [] }) refl refl refl refl refl refl refl refl refl;
  }

  stays_enqueue : (m : Message Name) → Keeps R (enqueue m)
  unfolding enqueue
  stays_enqueue m = record { after = λ s. adds s (record s { queue = s.queue ++ m ∷ [] }) (adds_message K s m) refl refl refl }

  stays_out : (h : ℕ) (m : Delivery Name) (n : Name) (verb : Words) (ys : Passeds Name) → Keeps R (send_out h (Deliver m n verb ys))
  unfolding send_out
  stays_out h m n verb ys = record { after = λ s. adds s (record s { outbox = s.outbox ++ record { to = h; note = Deliver m n verb ys } ∷ [] }) (adds_note K s (record { to = h; note = Deliver m n verb ys }) tt) refl refl refl }

  stays_alter : (c : Change Name) (n : Name) → IsSimple c → Keeps R (alter K c n)
  unfolding alter
  stays_alter c n i = record { after = λ s. adds s (record s { known = state.with_change K c n s.known }) (change_adds K c n i s) refl refl refl }

  stays_tell_to : (h : ℕ) (n : Name) → Keeps R (alter K (ToTell h) n)
  stays_tell_to h n = stays_alter (ToTell h) n tt

  stays_hold : (m : Message Name) (n : Name) → Keeps R (alter K (Hold m) n)
  stays_hold m n = stays_alter (Hold m) n tt

  stays_react_to : (m : Message Name) (n : Name) → Keeps R (alter K (React m) n)
  stays_react_to m n = stays_alter (React m) n tt

  stays_message : (h : ℕ) → Keeps R (new_message K h)
  unfolding new_message names naming name_of mail_of answer_of
  stays_message h = record { after = λ s. messaged script honest w v s h }

  stays_lone : Keeps R (new_lone_message K)
  unfolding new_lone_message names naming name_of mail_of
  stays_lone = record { after = λ s. lone_messaged script honest w v s }

  -- a draw, and the note that lets the gift go
  stays_gift : (h : ℕ) (n : Name) → Keeps {N = Name} {A = Passed Name} R (draw K >>= (λ i. send_out h (Open i n) >> give (AGift h i)))
  unfolding draw ◌>>=◌ ◌>>◌ and_then send_out give draws
  stays_gift h n = record { after = λ s. go s (drawn_at zero (K.word (length s.drawn)) s.drawn) refl }
    where
      go : (s : Vat Name) (o : Option ℕ) → drawn_at zero (K.word (length s.drawn)) s.drawn ≡ o → After {N = Name} {A = Passed Name} R s (and_then (draws (K.word (length s.drawn)) o s) (λ i. send_out h (Open i n) >> give (AGift h i)))
      go s (Some i) e = stays_self script honest w v s
      go s None e = opened script honest w v h (K.word (length s.drawn)) n s e

  -- ---- passing

  pub stays_pass : (h : ℕ) (x : Value Name) → Keeps R (refs.pass K h x)
  stays_pass h x = keeps_pass K R stays stays_tell_to stays_gift h x

  stays_pass_all : (h : ℕ) (xs : List (Value Name)) → Keeps R (refs.pass_all K h xs)
  stays_pass_all h xs = keeps_pass_all K R stays stays_tell_to stays_gift h xs

  pub stays_deliver : (m : Message Name) (h : ℕ) (n : Name) → Keeps R (refs.deliver K m h n)
  unfolding refs.deliver
  stays_deliver m h n = search (keeps_bind, keeps_then, keeps_tell, stays_pass_all, stays_out, stays) depth 14

  stays_react_at : (m : Message Name) (p : Place Name) → Keeps R (refs.react_at K m p)
  unfolding refs.react_at
  stays_react_at m (Mine n) = stays_react_to m n
  stays_react_at m (Away h n false) = stays_react_to m n
  stays_react_at m other = stays_enqueue m

  pub stays_react : (act : ℕ) (x o near : Value Name) → Keeps R (refs.react K act x o near)
  unfolding refs.react
  stays_react act x o near = search (keeps_bind, keeps_then, keeps_look, keeps_give, keeps_tell, stays_message, stays_react_at, stays) depth 14

  stays_send_first : (m : Message Name) (y : Value Name) (p : Place Name) → ((z : Words) → p ≡ Gone z → ⊥) → Keeps R (refs.send_first K m y p)
  unfolding refs.send_first refs.send_to
  stays_send_first m y (Away h n o) f = stays_deliver m h n
  stays_send_first m y Near f = stays_enqueue (record m { target = y })
  stays_send_first m y (Mine n) f = stays_hold (record m { target = y }) n
  stays_send_first m y (Gone p) f = absurd (f p refl)

  -- what follows when the value was followed, and its place is known
  abbrev Following : ℕ → Value Name → Words → List (Value Name) → Value Name → Place Name → Act Name (Value Name)
  Following act x verb args y p = look (λ s. s.number) >>= (λ u. new_message K (refs.answer_host K u p) >>= (λ new. tell (Sends act (record { id = new.0; target = x; verb = verb; args = args; answer = Some new.1 })) >> (refs.send_first K (record { id = new.0; target = y; verb = verb; args = args; answer = Some new.1 }) y p >> give (Ref new.1))))

  stays_following : (act : ℕ) (x : Value Name) (verb : Words) (args : List (Value Name)) (y : Value Name) (p : Place Name) → ((z : Words) → p ≡ Gone z → ⊥) → Keeps R (Following act x verb args y p)
  stays_following act x verb args y p f =
      let first : ((m : Message Name) → Keeps R (refs.send_first K m y p)) = λ m. stays_send_first m y p f in
      search (keeps_bind, keeps_then, keeps_look, keeps_give, keeps_tell, stays_message, stays) depth 14

  pub stays_send : (act : ℕ) (x : Value Name) (verb : Words) (args : List (Value Name)) (s : Vat Name) → ((z : Words) → refs.place K s (refs.follow K s x) ≡ Gone z → ⊥) → After R s (refs.send K act x verb args s)
  unfolding refs.send ◌>>=◌ and_then look
  stays_send act x verb args s f = (stays_following act x verb args (refs.follow K s x) (refs.place K s (refs.follow K s x)) f).after s

  abbrev FollowingOnly : ℕ → Value Name → Words → List (Value Name) → Value Name → Place Name → Act Name (Value Name)
  FollowingOnly act x verb args y p = new_lone_message K >>= (λ id. tell (Sends act (record { id = id; target = x; verb = verb; args = args; answer = None })) >> (refs.send_first K (record { id = id; target = y; verb = verb; args = args; answer = None }) y p >> give Null))

  stays_following_only : (act : ℕ) (x : Value Name) (verb : Words) (args : List (Value Name)) (y : Value Name) (p : Place Name) → ((z : Words) → p ≡ Gone z → ⊥) → Keeps R (FollowingOnly act x verb args y p)
  stays_following_only act x verb args y p f =
      let first : ((m : Message Name) → Keeps R (refs.send_first K m y p)) = λ m. stays_send_first m y p f in
      search (keeps_bind, keeps_then, keeps_look, keeps_give, keeps_tell, stays_lone, stays) depth 14

  pub stays_send_only : (act : ℕ) (x : Value Name) (verb : Words) (args : List (Value Name)) (s : Vat Name) → ((z : Words) → refs.place K s (refs.follow K s x) ≡ Gone z → ⊥) → After R s (refs.send_only K act x verb args s)
  unfolding refs.send_only ◌>>=◌ and_then look
  stays_send_only act x verb args s f = (stays_following_only act x verb args (refs.follow K s x) (refs.place K s (refs.follow K s x)) f).after s

  -- ---- courses

  join : {s t u : Vat Name} → C s t → C t u → C s u
  join over d = d
  join (grew f c) d = grew f (join c d)
  join (settled p y e c) d = settled p y e (join c d)
  join (resolved p x e c) d = resolved p x e (join c d)

  single : {s t : Vat Name} → R s t → C s t
  single f = grew f over

  single_after : {A : Type 0} (s : Vat Name) (d : Done Name A) → After R s d → After C s d
  single_after s (Gives a t) f = single f
  single_after s other f = single f

  so : {A : Type 0} {m : Act Name A} → Keeps R m → Keeps C m
  so {m = m} h = record { after = λ s. single_after s (m s) (h.after s) }

  pub courses : IsKept C
  courses = record {
    same = λ s. over;
    trans = λ a b. join a b;
    fuel = λ s n. single (stays.fuel s n);
    happened = λ s e. single (stays.happened s e);
    activations = λ s. single (stays.activations s);
    thing = λ s t. single (stays.thing s t);
    killed = λ s n. single (stays.killed s n);
    slot = λ s c. single (stays.slot s c);
    written = λ s n y. single (stays.written s n y);
    list = λ s ys. single (stays.list s ys);
  }

  settled_by : (p : Name) (y : Value Name) (s : Vat Name) (d : Done Name (Unit {0})) → refs.settle K p y s ≡ d → After C s d
  settled_by p y s (Gives a t) e = settled p y (subst (λ d. After (λ r q. q ≡ t) s d) (sym e) refl) over
  settled_by p y s (Throws z t) e = settled p y (subst (λ d. After (λ r q. q ≡ t) s d) (sym e) refl) over
  settled_by p y s (Ejects n z t) e = settled p y (subst (λ d. After (λ r q. q ≡ t) s d) (sym e) refl) over
  settled_by p y s (Stops c t) e = settled p y (subst (λ d. After (λ r q. q ≡ t) s d) (sym e) refl) over

  resolved_by : (p : Name) (x : Value Name) (s : Vat Name) (d : Done Name (Unit {0})) → refs.resolve K p x s ≡ d → After C s d
  resolved_by p x s (Gives a t) e = resolved p x (subst (λ d. After (λ r q. q ≡ t) s d) (sym e) refl) over
  resolved_by p x s (Throws z t) e = resolved p x (subst (λ d. After (λ r q. q ≡ t) s d) (sym e) refl) over
  resolved_by p x s (Ejects n z t) e = resolved p x (subst (λ d. After (λ r q. q ≡ t) s d) (sym e) refl) over
  resolved_by p x s (Stops c t) e = resolved p x (subst (λ d. After (λ r q. q ≡ t) s d) (sym e) refl) over

  so_settle : (p : Name) (y : Value Name) → Keeps C (refs.settle K p y)
  so_settle p y = record { after = λ s. settled_by p y s (refs.settle K p y s) refl }

  so_resolve : (p : Name) (x : Value Name) → Keeps C (refs.resolve K p x)
  so_resolve p x = record { after = λ s. resolved_by p x s (refs.resolve K p x s) refl }

  so_some : (o : Option Name) {f : Name → Act Name (Unit {0})} → ((a : Name) → Keeps C (f a)) → Keeps C (for_some o f (give tt))
  unfolding for_some
  so_some (Some a) h = h a
  so_some None h = keeps_give C courses tt

  so_send_first : (m : Message Name) (y : Value Name) (p : Place Name) → Keeps C (refs.send_first K m y p)
  unfolding refs.send_first refs.send_to
  so_send_first m y (Away h n o) = so (stays_deliver m h n)
  so_send_first m y Near = so (stays_enqueue (record m { target = y }))
  so_send_first m y (Mine n) = so (stays_hold (record m { target = y }) n)
  so_send_first m y (Gone p) = keeps_then C courses (keeps_tell C courses _) (so_some m.answer (λ a. so_settle a (Broken p)))

  so_message : (h : ℕ) → Keeps C (new_message K h)
  so_message h = so (stays_message h)

  pub so_send : (act : ℕ) (x : Value Name) (verb : Words) (args : List (Value Name)) → Keeps C (refs.send K act x verb args)
  unfolding refs.send
  so_send act x verb args = search (keeps_bind, keeps_then, keeps_look, keeps_give, keeps_tell, so_message, so_send_first, courses) depth 14

  so_lone : Keeps C (new_lone_message K)
  so_lone = so stays_lone

  pub so_send_only : (act : ℕ) (x : Value Name) (verb : Words) (args : List (Value Name)) → Keeps C (refs.send_only K act x verb args)
  unfolding refs.send_only
  so_send_only act x verb args = search (keeps_bind, keeps_then, keeps_look, keeps_give, keeps_tell, so_lone, so_send_first, courses) depth 14

  so_promise : (s : Vat Name) → C s (record s { promises = suc s.promises; known = s.known ++ state.begun (K.made (IsOwn s.promises) (length s.known)) s.number ∷ [] })
  unfolding names naming name_of
  so_promise s = single (promised script honest w v s)

  pub acts : IsKeptUnder K C
  acts = record {
    promised = so_promise;
    settles = so_settle;
    resolves = so_resolve;
    sends = so_send;
    sends_only = so_send_only;
    reacts = λ act x o near. so (stays_react act x o near);
  }

pub passing_grows : PassingGrows
passing_grows = λ script honest w v h x s. (stays_pass script honest w v h x).after s

pub delivering_grows : DeliveringGrows
delivering_grows = λ script honest w v h n m s. (stays_deliver script honest w v m h n).after s

pub reacting_grows : ReactingGrows
reacting_grows = λ script honest w v act x o near s. (stays_react script honest w v act x o near).after s

pub sending_grows : SendingGrows
sending_grows = λ script honest w v act x verb args s f. (stays_send script honest w v act x verb args s f, stays_send_only script honest w v act x verb args s f)

pub sending_goes_so : SendingGoesSo
sending_goes_so = λ script honest w v act x verb args s. ((so_send script honest w v act x verb args).after s, (so_send_only script honest w v act x verb args).after s)

pub turns_go_so : TurnsGoSo
turns_go_so = λ script honest w v tree depth s. (
  λ m. (keeps_taking (names script v) (Course script honest w v) (courses script honest w v) (acts script honest w v) tree depth m).after s,
  λ p given. (keeps_opening (names script v) (Course script honest w v) (courses script honest w v) (acts script honest w v) tree depth p given).after s,
)
