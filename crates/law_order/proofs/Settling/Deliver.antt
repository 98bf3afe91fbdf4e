-- The first message that a name holds goes out in a note, with its arguments: a small step.
use Rattle.std.proofs.Common.{◌≡◌, ℕ, zero, Bool, true, List, [], ◌∷◌, ◌++◌, Some, None, sym, ap, subst, ◌∙◌}
use Rattle.std.specs.Prelude.{slice_get}
use Rattle.def_machine.specs.Values.{Ref, Name, Naming, Foreign}
use Rattle.def_machine.specs.State.{Message, Known, WaitsOn, Passeds, NoMore, Deliver, Posted, Vat, Done, Gives, Act, ◌>>=◌, ◌>>◌, and_then, tell, send_out}
use Rattle.def_machine.specs.Refs as refs
use Rattle.def_machine.specs.Refs.{entry_of}
use Rattle.def_run.specs.World as world
use Rattle.def_run.specs.World.{Script, Event, Link, World, names}
use Rattle.law_machine.specs.Machine.Steps.{After}
use Rattle.law_order.specs.Ordering.Ways.{Held, Ways}
use Rattle.law_order.specs.Ordering.Order.{Coming, comes}
use Rattle.law_order.specs.Ordering.Places.{item, held_in}
use Rattle.law_order.specs.Ordering.Steps.{WaysAmid, Grown}
use Rattle.law_order.specs.Ordering.Worlds.{IfGives, IsObject}
use Rattle.law_order.proofs.Ordering.Changes.{growing_keeps}
use Rattle.law_order.proofs.Ordering.News.{grown_then}
use Rattle.law_order.specs.History.Befores.{IsBroughtFrom}
use Rattle.law_order.specs.History.Passings.{OnGives, AllCame, CameAs}
use Rattle.law_order.specs.History.Tells.{SmallStep}
use Rattle.law_order.specs.History.Told.{IsTold}
use Rattle.law_order.proofs.History.PassWalk as walk
use Rattle.law_order.specs.Tales.Middle.{middle}
use Rattle.law_order.proofs.Settling.Frames.{Same, same_pass_all}
use Rattle.law_order.proofs.Settling.Goes.{goes_small}
use Rattle.law_order.proofs.Settling.Goes as goes
use Rattle.law_order.proofs.Settling.Later.{Later}
use Rattle.law_order.proofs.Settling.Out.{real_out}
use Rattle.law_order.proofs.Settling.OutLater.{out_later}
use Rattle.law_order.proofs.Settling.Pass.{Steps, Can, Behind, seen_passing, grown_seen}
use Rattle.law_order.proofs.Settling.Put.{put_known}
use Rattle.law_order.proofs.Settling.Read.{Real}

given_by : {A : Type 0} (P : Vat Name → Vat Name → Type 0) (s : Vat Name) (d : Done Name A) → After P s d → OnGives (λ a t. P s t) d
given_by P s (Gives a t) h = h
given_by P s other h = tt

both_given : {A : Type 0} (P Q : A → Vat Name → Type 0) (d : Done Name A) → OnGives P d → OnGives Q d → OnGives (λ a t. P a t × Q a t) d
both_given P Q (Gives a t) f g = (f, g)
both_given P Q other f g = tt

with_each : {I A : Type 0} (P : A → Vat Name → Type 0) (Q : I → A → Vat Name → Type 0) (d : Done Name A) → OnGives P d → ((i : I) → OnGives (Q i) d) → OnGives (λ a t. P a t × ((i : I) → Q i a t)) d
with_each P Q (Gives a t) f g = (f, g)
with_each P Q other f g = tt

bind_if : {A B : Type 0} (P : A → Vat Name → Type 0) (Q : Vat Name → Type 0) (d : Done Name A) (f : A → Act Name B) → OnGives P d → ((a : A) (t : Vat Name) → P a t → IfGives Q (f a t)) → IfGives Q (and_then d f)
unfolding and_then
bind_if P Q (Gives a t) f h g = g a t h
bind_if P Q other f h g = tt

module _ (script : Script) (honest : ℕ → Bool) (w : World) (v h : ℕ) (head : List Event) (r : Vat Name) (at : slice_get w.vats v ≡ Some r) (p n : Name) (k : Known Name) (far : (names script v).spot n ≡ Foreign h) (object : IsObject n) (plain : IsObject p → ⊥) (named : k.name ≡ p) (hosted : k.host ≡ v)
    (rh : Vat Name) (everyone : (u : ℕ) → honest u ≡ true) (there : slice_get w.vats h ≡ Some rh) (number : rh.number ≡ h) (other : h ≡ v → ⊥) (objects : (o : Name) → IsObject o → entry_of (names script h) rh.known o ≡ None)
    (link : (l : Link) × (world.link_at v h w.links ≡ Some l)) (m : Message Name) (ms : List (Message Name)) where
  abbrev K : Naming Name Name
  K = names script v

  abbrev W : Vat Name → Ways
  W t = WaysAmid script honest w v t

  abbrev R : Vat Name → Type 0
  R u = Real script honest w v h r at p n k far object plain named hosted u

  abbrev Full : Vat Name → Vat Name
  Full u = record u { known = put_known K p (record k { standing = WaitsOn n; held = m ∷ ms }) u.known }

  abbrev Rest : Vat Name → Vat Name
  Rest u = record u { known = put_known K p (record k { standing = WaitsOn n; held = ms }) u.known }

  abbrev S : Vat Name → Vat Name → Type 0
  S u t = Steps script honest w v h r at p n k far object plain named hosted rh everyone there number other objects m.id (m ∷ ms) u t

  abbrev C : Vat Name → Type 0
  C u = Can script honest w v h r at p n k far object plain named hosted rh everyone there number other objects m.id (m ∷ ms) u

  abbrev B : Vat Name → Vat Name → Name → Name → Type 0
  B u t e o = Behind script honest w v h r at p n k far object plain named hosted rh everyone there number other objects m.id (m ∷ ms) u t e o

  abbrev All : List Event → Vat Name → Passeds Name → Passeds Name → Vat Name → Type 0
  All done q zs ys t = walk.AllPass script honest w v h (λ u. C u) (λ u t. S u t) (λ u t e o. B u t e o) (seen_passing script honest w v h r at p n k far object plain named hosted rh everyone there number other objects m.id (m ∷ ms)) done q zs ys t

  abbrev Told : Type 0
  Told = (done : List Event) × IsTold script done

  -- From s to q the vat got a new answer for the message, or nothing changed.
  pub record Begins (s q : Vat Name) : Type 0 where
    pub grown : Grown script honest w v (Full s) (Full q)
    pub queue : q.queue ≡ s.queue
    pub held : (a : Name) → held_in a (entry_of K (Full q).known a) ≡ held_in a (entry_of K (Full s).known a)
    pub happened : q.happened ≡ s.happened
    pub outbox : q.outbox ≡ s.outbox

  module _ (s q : Vat Name) (gs : R s) (begins : Begins s q) (can : C q) (x : Message Name) (is : x.id ≡ m.id) (coming : Coming) (came : comes v m.id zero (middle w v head s).history ≡ Some coming)
      (args : (d : ℕ) (done : List Event) → IsTold script done → AllCame (λ z y. CameAs script honest w v h d q done z y) coming.args x.args) where
    passing_all : OnGives (λ ys t. All [] q NoMore ys t × ((i : Told) → All i.0 q coming.args ys t)) (refs.pass_all K h x.args q)
    passing_all = with_each (λ ys t. All [] q NoMore ys t) (λ i ys t. All i.0 q coming.args ys t) (refs.pass_all K h x.args q)
        (walk.passed_all script honest w v h (λ u. C u) (λ u t. S u t) (λ u t e o. B u t e o) (seen_passing script honest w v h r at p n k far object plain named hosted rh everyone there number other objects m.id (m ∷ ms)) [] NoMore x.args q can (λ d. tt))
        (λ i. walk.passed_all script honest w v h (λ u. C u) (λ u t. S u t) (λ u t e o. B u t e o) (seen_passing script honest w v h r at p n k far object plain named hosted rh everyone there number other objects m.id (m ∷ ms)) i.0 coming.args x.args q can (λ d. args d i.0 i.1))

    abbrev pub Delivered : Vat Name → Type 0
    Delivered t = R t × (SmallStep script honest (middle w v head (Full s)) (middle w v head (Rest t)) × Later script honest w v head ⊥ (Full q) (Rest t))

    abbrev Went : Passeds Name → Vat Name → Type 0
    Went ys t = (All [] q NoMore ys t × ((i : Told) → All i.0 q coming.args ys t)) × Same script v q t

    passing_same : OnGives (λ ys t. Went ys t) (refs.pass_all K h x.args q)
    passing_same = both_given (λ ys t. All [] q NoMore ys t × ((i : Told) → All i.0 q coming.args ys t)) (λ ys t. Same script v q t) (refs.pass_all K h x.args q) passing_all
        (given_by (Same script v) q (refs.pass_all K h x.args q) ((same_pass_all script v h x.args).after q))

    module _ (ys : Passeds Name) (t : Vat Name) (a : All [] q NoMore ys t × ((i : Told) → All i.0 q coming.args ys t)) (same : Same script v q t) where
      grown_all : Grown script honest w v (Full s) (Full t)
      grown_all = grown_then script honest w v (Full s) (Full q) (Full t) begins.grown (grown_seen script honest w v h r at p n k far object plain named hosted rh everyone there number other objects m.id (m ∷ ms) q t a.0.step can)

      passed : goes.Passed script honest w v h head r at p n k far object plain named hosted everyone link m ms s t ys coming.args
      passed = record {
        grown = grown_all;
        queue = a.0.step.real.queue ∙ begins.queue;
        held = λ o. a.0.step.seen.held o ∙ begins.held o;
        happened = a.0.step.real.happened ∙ begins.happened;
        puts = a.0.step.real.puts;
        outbox = a.0.step.real.outbox ∙ ap (λ ps. ps ++ a.0.step.real.puts) begins.outbox;
        silent = a.0.step.real.silent;
        behind = λ done told e o i b c f j bs within isin. (a.1 (done, told)).behind e o i b c (subst (λ z. IsBroughtFrom (Held v p) (item m.id p ∷ []) z c) (sym (begins.grown.leading v (Ref e))) f) ((growing_keeps (W (Full s)) (W (Full q)) begins.grown.grows c).1 b j) bs within isin;
      }

      abbrev Now : Vat Name
      Now = record t { happened = t.happened ++ Posted h x.id ∷ []; outbox = t.outbox ++ record { to = h; note = Deliver (refs.delivery_of K x) n x.verb ys } ∷ [] }

      went_out : SmallStep script honest (middle w v head (Full s)) (middle w v head (Rest (record t { happened = t.happened ++ Posted h m.id ∷ []; outbox = t.outbox ++ record { to = h; note = Deliver (refs.delivery_of K x) n x.verb ys } ∷ [] })))
      went_out = goes_small script honest w v h head r at p n k far object plain named hosted everyone link m ms s t gs (a.0.step.keeps can.real) (refs.delivery_of K x) is x.verb ys coming came passed

      real_now : R (record t { happened = t.happened ++ Posted h m.id ∷ []; outbox = t.outbox ++ record { to = h; note = Deliver (refs.delivery_of K x) n x.verb ys } ∷ [] })
      real_now = real_out script honest w v h r at p n k far object plain named hosted everyone link m ms t (a.0.step.keeps can.real) (refs.delivery_of K x) is x.verb ys

      on_now : Later script honest w v head ⊥ (Full q) (Rest (record t { happened = t.happened ++ Posted h m.id ∷ []; outbox = t.outbox ++ record { to = h; note = Deliver (refs.delivery_of K x) n x.verb ys } ∷ [] }))
      on_now = out_later script honest w v h head ⊥ r at p n k far object plain named hosted rh everyone there number other objects link m ms q t can a.0.step same.less (refs.delivery_of K x) is x.verb ys

      now : Delivered Now
      now = subst (λ z. Delivered (record t { happened = t.happened ++ Posted h z ∷ []; outbox = t.outbox ++ record { to = h; note = Deliver (refs.delivery_of K x) n x.verb ys } ∷ [] })) (sym is) (real_now, (went_out, on_now))

    -- The message is delivered, read as though the name held it till then; and what is asked of the vat so read is kept from where the answer was there.
    pub delivered_small : IfGives (λ t. Delivered t) (refs.deliver K x h n q)
    unfolding refs.deliver ◌>>=◌ ◌>>◌ and_then tell send_out
    delivered_small = bind_if (λ ys t. Went ys t) (λ t. Delivered t) (refs.pass_all K h x.args q)
        (λ ys. tell (Posted h x.id) >> send_out h (Deliver (refs.delivery_of K x) n x.verb ys)) passing_same (λ ys t a. now ys t a.0 a.1)
