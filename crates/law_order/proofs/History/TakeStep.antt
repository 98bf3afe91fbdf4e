-- The first message of a queue is taken in a small step.
use Rattle.std.proofs.Common.{◌≡◌, ℕ, Bool, true, false, List, [], ◌∷◌, ◌++◌, Some, None, refl, sym, ap, subst, ◌∙◌, ◌⊎◌, inl, inr, ◌||◌, append_assoc}
use Rattle.std.specs.Prelude.{slice_get}
use Rattle.def_machine.specs.Values.{Value, Null, Flag, Number, Letter, Text, Prim, Broken, Items, Ref, Name, same_name}
use Rattle.def_machine.specs.State.{Message, Took, Vat}
use Rattle.def_machine.specs.Refs as refs
use Rattle.def_run.specs.World as world
use Rattle.def_run.specs.World.{Script, Event, Here, Link, World, names}
use Rattle.law_machine.specs.Run.Moves.{went}
use Rattle.law_order.specs.Ordering.Ways.{Lane, Queue, Held, Way, Item, Place, Mid, Ways, IsIn, Ahead}
use Rattle.law_order.specs.Ordering.Messages.{StandsAt}
use Rattle.law_order.specs.Ordering.Changes.{stays, nearer, Grows, IsTaken}
use Rattle.law_order.specs.Ordering.Places.{item, queued, held_in, stands_at, ways_of, ways, amid}
use Rattle.law_order.specs.Ordering.Worlds.{RefersAlike}
use Rattle.law_order.specs.Ordering.Steps.{LeadsAmid}
use Rattle.law_order.specs.Ordering.Order.{takes_it}
use Rattle.law_order.proofs.Ordering.Adding.{refers_same}
use Rattle.law_order.proofs.Ordering.Amid.{put_either, entry_self, leads_same, onward_same}
use Rattle.law_order.proofs.Ordering.Changes.{growing_keeps, taking_keeps}
use Rattle.law_order.proofs.Ordering.Named.{same_self}
use Rattle.law_order.proofs.Ordering.Pushing.{all_same}
use Rattle.law_order.proofs.Ordering.Standing.{queue_is}
use Rattle.law_order.specs.History.Lines.{was_taken}
use Rattle.law_order.specs.History.Befores.{passing_place, up_to, IsBroughtFrom}
use Rattle.law_order.specs.History.Tells.{Keeps, SmallStep}
use Rattle.law_order.specs.History.Takes.{taken_state, TakesAreSmallSteps}
use Rattle.law_order.proofs.History.Same.{brought_once}
use Rattle.law_order.proofs.History.SentStep.{events_append}

taken_last : (a : Name) (es : List Event) (e : Event) → takes_it a e ≡ true → was_taken a (es ++ e ∷ []) ≡ true
unfolding was_taken
taken_last a [] e h = subst (λ b. (b || false) ≡ true) (sym h) refl
taken_last a (c ∷ es) e h = go (takes_it a c) (taken_last a es e h)
  where
    go : (b : Bool) {p : Bool} → p ≡ true → (b || p) ≡ true
    go true i = refl
    go false i = i

module _ (script : Script) (honest : ℕ → Bool) (w : World) (v act : ℕ) (head : List Event) (r s : Vat Name) (m : Message Name) (ms : List (Message Name)) (at : slice_get w.vats v ≡ Some r) (first : s.queue ≡ m ∷ ms) where
  abbrev T : Vat Name
  T = taken_state act m ms s

  abbrev From : World
  From = went v w head s

  abbrev To : World
  To = went v w head T

  abbrev W : Vat Name → Ways
  W t = ways script honest (amid v t w)

  abbrev Line : Event
  Line = Here v (Took act m)

  told : To.history ≡ From.history ++ Line ∷ []
  unfolding went world.event_of world.events_of
  told = ap (λ es. (w.history ++ head) ++ es) (events_append w.links v s.happened (Took act m ∷ [])) ∙ sym (append_assoc (w.history ++ head) (world.events_of w.links v s.happened) (Line ∷ []))

  -- ---- the ways

  alike : RefersAlike (names script v) s T
  alike = record { number = refl; gifts = refl; noticed = refl; names_known = refl; entries = λ n. entry_self n (refs.entry_of (names script v) s.known n) }

  abbrev Links : List Link
  Links = world.push_all v s.outbox w.links

  leading : (u : ℕ) (x : Value Name) → LeadsAmid script honest w v T u x ≡ LeadsAmid script honest w v s u x
  unfolding amid
  leading u x = leads_same script honest w.vats Links Links (all_same Links) v s T (refers_same script honest v s T alike) u x

  onward : (l : Lane) (n : Name) → (W T).onward l n ≡ (W s).onward l n
  unfolding ways ways_of amid
  onward l n = onward_same script honest w.vats Links Links (all_same Links) v s T (refers_same script honest v s T alike) l n

  lane_case : (l : Lane) → (l ≡ Queue v) ⊎ ((W T).stands l ≡ (W s).stands l)
  unfolding ways ways_of stands_at amid
  lane_case (Queue u) = elim (put_either v s T w.vats u) [ inl e ↦ inl (ap Queue e.0) | inr e ↦ inr (ap (λ o. elim o [ Some x ↦ queued x.queue | None ↦ [] ]) e) ]
  lane_case (Held u n) = inr (elim (put_either v s T w.vats u) [
    | inl e ↦ ap (λ o. elim o [ Some x ↦ held_in n (refs.entry_of (names script u) x.known n) | None ↦ [] ]) e.2 ∙ sym (ap (λ o. elim o [ Some x ↦ held_in n (refs.entry_of (names script u) x.known n) | None ↦ [] ]) e.1)
    | inr e ↦ ap (λ o. elim o [ Some x ↦ held_in n (refs.entry_of (names script u) x.known n) | None ↦ [] ]) e
  ])
  lane_case (Way a b) = inr refl

  queue_now : (W T).stands (Queue v) ≡ queued ms
  queue_now = queue_is script honest w v r at T

  queue_before : (W s).stands (Queue v) ≡ queued (m ∷ ms)
  queue_before = queue_is script honest w v r at s ∙ ap queued first

  -- ---- what is ahead stays ahead, but for what is taken

  -- of a thing in front of which the message may have stood
  abbrev Still : Place → Place → Type 0
  Still c d = (a : Name) → (a ≡ m.id → ⊥) → Ahead (W s) a c → Ahead (W T) a d

  keeps : (a : Name) (c d : Place) → Still c d → Keeps script honest From To a c d
  unfolding went ways amid takes_it
  keeps a c d f h = go (same_name m.id a) refl
    where
      go : (b : Bool) → same_name m.id a ≡ b → (was_taken a To.history ≡ true) ⊎ Ahead (W T) a d
      go true e = inl (subst (λ es. was_taken a es ≡ true) (sym told) (taken_last a From.history Line e))
      go false e = inr (f a (λ i. absurd (let j : same_name m.id a ≡ true = subst (λ z. same_name m.id z ≡ true) (sym i) (same_self m.id) in cc)) h)

  -- what stood in a lane now stood there before, behind the same or behind the message too
  record Stood (b : Name) (l : Lane) (c : List Item) (n : Name) : Type 0 where
    pub before : List Item
    pub stood : StandsAt (W s) b l before n
    pub still : Still (Mid l before n) (Mid l c n)

  module _ (same : (c : Place) → Still c c) (back : (b : Name) (c : List Item) (n : Name) → StandsAt (W T) b (Queue v) c n → Stood b (Queue v) c n) (stands : (n : Name) → m.target ≡ Ref n → StandsAt (W s) m.id (Queue v) [] n) where
    stood_in : (b : Name) (l : Lane) (c : List Item) (n : Name) → StandsAt (W T) b l c n → Stood b l c n
    stood_in b l c n h = go (lane_case l)
      where
        go : (l ≡ Queue v) ⊎ ((W T).stands l ≡ (W s).stands l) → Stood b l c n
        go (inl e) = subst (λ k. Stood b k c n) (sym e) (back b c n (subst (λ k. StandsAt (W T) b k c n) e h))
        go (inr e) = record { before = c; stood = record { behind = h.behind; found = sym e ∙ h.found }; still = same (Mid l c n) }

    held_in_place : (u : ℕ) (p d q : Name) (b : List Item) → StandsAt (W T) d (Held u p) b q → StandsAt (W s) d (Held u p) b q
    held_in_place u p d q b h = go (lane_case (Held u p))
      where
        go : (Held u p ≡ Queue v) ⊎ ((W T).stands (Held u p) ≡ (W s).stands (Held u p)) → StandsAt (W s) d (Held u p) b q
        go (inl e) = absurd (cc)
        go (inr e) = record { behind = h.behind; found = sym e ∙ h.found }

    small : SmallStep script honest From To
    unfolding went ways amid
    small = record {
      line = Some Line;
      quiet = [];
      lines = told;
      all_quiet = tt;
      told = λ n e. stands n e;
      references = λ a n u. keeps a (LeadsAmid script honest w v s u (Ref n)) (LeadsAmid script honest w v T u (Ref n)) (subst (λ c. Still (LeadsAmid script honest w v s u (Ref n)) c) (sym (leading u (Ref n))) (same (LeadsAmid script honest w v s u (Ref n))));
      messages = λ b l c n h. let k = stood_in b l c n h in inl (record { lane = l; before = k.before; aim = n; stood = k.stood; keeps = λ a. keeps a (Mid l k.before n) (Mid l c n) k.still });
      passings = λ u g front d n ys b. inl (record { before = front; brings = record { link = b.link; found = b.found; verb = b.verb; rest = b.rest; notes = b.notes }; keeps = λ a o. keeps a (passing_place u g front d n o) (passing_place u g front d n o) (same (passing_place u g front d n o)) });
      carriers = λ u p d q b h. inl (record { before = b; aim = q; stood = held_in_place u p d q b h; keeps = λ a n c k f g. keeps a c k (subst (λ z. Still c z) (brought_once (Held u p) (up_to b d q) (LeadsAmid script honest w v s u (Ref n)) c k f (subst (λ z. IsBroughtFrom (Held u p) (up_to b d q) z k) (leading u (Ref n)) g)) (same c)) });
    }

  -- ---- by the target

  module _ (n : Name) (on : m.target ≡ Ref n) where
    queued_first : queued (m ∷ ms) ≡ item m.id n ∷ queued ms
    unfolding queued
    queued_first = ap (λ z. elim z [ Ref k ↦ item m.id k ∷ queued ms | _ ↦ queued ms ]) on

    in_queue : (W s).stands (Queue v) ≡ item m.id n ∷ (W T).stands (Queue v)
    in_queue = queue_before ∙ queued_first ∙ ap (λ js. item m.id n ∷ js) (sym queue_now)

    is_taken : IsTaken (W s) (W T) v (item m.id n)
    is_taken = record { leaves = record { stands = leaves; links = λ a b k. onward (Way a b) k }; lanes = onward }
      where
        leaves : (l : Lane) (j : Item) → IsIn j ((W s).stands l) → IsIn j ((W T).stands l) ⊎ ((l ≡ Queue v) × (j ≡ item m.id n))
        leaves l j h = go (lane_case l)
          where
            go : (l ≡ Queue v) ⊎ ((W T).stands l ≡ (W s).stands l) → IsIn j ((W T).stands l) ⊎ ((l ≡ Queue v) × (j ≡ item m.id n))
            go (inl e) = elim (subst (IsIn j) (ap (λ k. (W s).stands k) e ∙ in_queue) h) [ inl i ↦ inr (e, i) | inr i ↦ inl (subst (λ k. IsIn j ((W T).stands k)) (sym e) i) ]
            go (inr e) = inl (subst (IsIn j) (sym e) h)

    taken_small : SmallStep script honest From To
    taken_small = small (λ c a f h. (taking_keeps (W s) (W T) v (item m.id n) is_taken c c stays).1 a f h)
        (λ b c k h. record { before = item m.id n ∷ c; stood = record { behind = h.behind; found = in_queue ∙ ap (λ js. item m.id n ∷ js) h.found }; still = λ a f i. (taking_keeps (W s) (W T) v (item m.id n) is_taken (Mid (Queue v) (item m.id n ∷ c) k) (Mid (Queue v) c k) nearer).1 a f i })
        (λ k e. record { behind = (W T).stands (Queue v); found = in_queue ∙ ap (λ o. item m.id o ∷ (W T).stands (Queue v)) (named k e) })
      where
        named : (k : Name) → m.target ≡ Ref k → n ≡ k
        named k e = cc

  module _ (data_target : (n : Name) → m.target ≡ Ref n → ⊥) where
    not_queued : (z : Value Name) → m.target ≡ z → queued (m ∷ ms) ≡ queued ms
    unfolding queued
    not_queued (Ref n) e = absurd (data_target n e)
    not_queued other e = ap (λ z. elim z [ Ref k ↦ item m.id k ∷ queued ms | _ ↦ queued ms ]) e

    same_lanes : (l : Lane) → (W T).stands l ≡ (W s).stands l
    same_lanes l = elim (lane_case l) [ inl e ↦ subst (λ k. (W T).stands k ≡ (W s).stands k) (sym e) (queue_now ∙ sym (queue_before ∙ not_queued m.target refl)) | inr e ↦ e ]

    grows : Grows (W s) (W T)
    grows = record { stands = λ l i h. subst (IsIn i) (sym (same_lanes l)) h; onward = λ l n. inl (onward l n) }

    data_small : SmallStep script honest From To
    data_small = small (λ c a f h. (growing_keeps (W s) (W T) grows c).1 a h)
        (λ b c n h. record { before = c; stood = record { behind = h.behind; found = sym (same_lanes (Queue v)) ∙ h.found }; still = λ a f i. (growing_keeps (W s) (W T) grows (Mid (Queue v) c n)).1 a i })
        (λ n e. absurd (data_target n e))

  by_target : (z : Value Name) → m.target ≡ z → SmallStep script honest From To
  by_target (Ref n) e = taken_small n e
  by_target Null e = data_small (λ n i. cc)
  by_target (Flag b) e = data_small (λ n i. cc)
  by_target (Number b) e = data_small (λ n i. cc)
  by_target (Letter b) e = data_small (λ n i. cc)
  by_target (Text b) e = data_small (λ n i. cc)
  by_target (Prim b) e = data_small (λ n i. cc)
  by_target (Broken b) e = data_small (λ n i. cc)
  by_target (Items b) e = data_small (λ n i. cc)

pub takes_are_small_steps : TakesAreSmallSteps
takes_are_small_steps = λ script honest w v act head r s m ms at first. by_target script honest w v act head r s m ms at first m.target refl
