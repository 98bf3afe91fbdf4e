-- A send in the middle of a step is a small step.
use Rattle.std.proofs.Common.{◌≡◌, ℕ, zero, Bool, true, false, List, [], ◌∷◌, ◌++◌, Some, None, length, refl, sym, ap, subst, ◌∙◌, ◌⊎◌, inl, inr, ◌&&◌, append_assoc}
use Rattle.std.proofs.lemmas.Bool.{eq-eqb}
use Rattle.def_machine.specs.Values.{Value, Ref, Name, same_name}
use Rattle.def_machine.specs.State.{Message, Passeds, Delivery, Note, Happened, Sends, Vat}
use Rattle.def_run.specs.World.{Script, Event, Here, World, event_of, events_of}
use Rattle.law_fate.specs.Name.Names.{IsAmong}
use Rattle.law_machine.specs.Run.Moves.{went}
use Rattle.law_order.specs.Ordering.Ways.{Lane, Held, Item, Place, End, Mid, Ways, Ahead}
use Rattle.law_order.specs.Ordering.Messages.{StandsAt}
use Rattle.law_order.specs.Ordering.Places.{item, leads, ways, amid}
use Rattle.law_order.specs.Ordering.Steps.{WaysAmid, LeadsAmid, Grown}
use Rattle.law_order.specs.Ordering.Order.{Coming, plains, comes, comes_in, all_pass_as}
use Rattle.law_order.proofs.Ordering.Named.{same_self}
use Rattle.law_order.proofs.Ordering.Changes.{growing_keeps}
use Rattle.law_order.proofs.Ordering.Messages.{comers_are_behind}
use Rattle.law_order.specs.History.Lines.{AllQuiet, with_first, was_taken, was_sent}
use Rattle.law_order.specs.History.Befores.{Brings, passing_place, up_to, IsBroughtFrom, in_lane, apart}
use Rattle.law_order.specs.History.Told.{IsTold}
use Rattle.law_order.specs.History.Tells.{Keeps, IsSource, held_there, learnt_now, IsStillBrought, IsPutNow, IsSentOnNow, IsStanding, IsStillHeld, IsHeldNow, IsSentNow, SmallStep}
use Rattle.law_order.proofs.History.Lines.{last_or, comes_now}
use Rattle.law_order.proofs.History.Same.{brought_once, more_in_front}

-- ---- lines

pub events_append : (ls : List Rattle.def_run.specs.World.Link) (v : ℕ) (es fs : List (Happened Name)) → events_of ls v (es ++ fs) ≡ events_of ls v es ++ events_of ls v fs
unfolding events_of
events_append ls v [] fs = refl
events_append ls v (e ∷ es) fs = ap (λ gs. event_of ls v e ++ gs) (events_append ls v es fs) ∙ sym (append_assoc (event_of ls v e) (events_of ls v es) (events_of ls v fs))

module _ (script : Script) (honest : ℕ → Bool) (w : World) (v act : ℕ) (head : List Event) (s t : Vat Name) (m : Message Name) where
  abbrev From : World
  From = went v w head s

  abbrev To : World
  To = went v w head t

  abbrev W : Vat Name → Ways
  W u = WaysAmid script honest w v u

  abbrev Led : ℕ → Value Name → Place
  Led u x = LeadsAmid script honest w v s u x

  -- Nothing came to that lane; or the new message did, last, where its target led.
  pub data Comes (l : Lane) : Type 0 where
    none_came : (W t).stands l ≡ (W s).stands l → Comes l
    came_last : (n : Name) → (W t).stands l ≡ (W s).stands l ++ item m.id n ∷ [] → Led v m.target ≡ End l n → ((u : ℕ) (p : Name) → l ≡ Held u p → u ≡ v) → Comes l

  -- That note delivers the new message, and brings what stands behind all that was ahead of the references in the arguments.
  pub record BringsIt (u g : ℕ) (front : List (Note Name)) (d : Delivery Name) (n : Name) (ys : Passeds Name) : Type 0 where
    pub message : d.message ≡ m.id
    pub sender : u ≡ v
    pub behind : (done : List Event) → IsTold script done → (e o : Name) → IsAmong o (all_pass_as v done e ys (plains m.args)) → (a : Name) → Ahead (W s) a (Led v (Ref e)) → Ahead (W t) a (passing_place u g front d n o)

  -- the send from s to t
  pub record IsSend : Type 0 where
    pub grown : Grown script honest w v s t
    pub after : List (Happened Name)
    pub happened : t.happened ≡ s.happened ++ (Sends act m ∷ after)
    pub quiet : AllQuiet (events_of w.links v after)
    pub comes_there : (l : Lane) → Comes l
    pub notes : (u g : ℕ) (front : List (Note Name)) (d : Delivery Name) (n : Name) (ys : Passeds Name) → Brings To u g front d n ys → Brings From u g front d n ys ⊎ BringsIt u g front d n ys
    pub ahead : Ahead (W t) m.id (Led v m.target)
    -- the message is new
    pub unsent : was_sent m.id From.history ≡ false
    pub untaken : was_taken m.id From.history ≡ false
    pub uncome : (u : ℕ) → comes u m.id zero From.history ≡ None
    pub nowhere : (l : Lane) (b : List Item) (n : Name) → StandsAt (W s) m.id l b n → ⊥

  module _ (i : IsSend) where
    abbrev line : Event
    line = Here v (Sends act m)

    abbrev quiet_lines : List Event
    quiet_lines = events_of w.links v i.after

    told_lines : To.history ≡ From.history ++ with_first (Some line) quiet_lines
    unfolding went event_of events_of
    told_lines = ap (λ es. (w.history ++ head) ++ es) (ap (events_of w.links v) i.happened ∙ events_append w.links v s.happened (Sends act m ∷ i.after)) ∙ sym (append_assoc (w.history ++ head) (events_of w.links v s.happened) (events_of w.links v (Sends act m ∷ i.after)))

    grows_at : (a : Name) (c : Place) → Ahead (W s) a c → Ahead (W t) a c
    grows_at a c h = (growing_keeps (W s) (W t) i.grown.grows c).1 a h

    -- ---- its own coming

    abbrev Arrival : Coming
    Arrival = record { line = length From.history; args = plains m.args }

    came_in : comes_in v m.id (length From.history) (Here v (Sends act m)) ≡ Some Arrival
    unfolding comes_in
    came_in = ap (λ b. elim (b && same_name m.id m.id) [ true ↦ Some Arrival | false ↦ None ]) (eq-eqb v v refl) ∙ ap (λ b. elim b [ true ↦ Some Arrival | false ↦ None ]) (same_self m.id)

    came : comes v m.id zero To.history ≡ Some Arrival
    came = ap (comes v m.id zero) told_lines ∙ comes_now v m.id From.history (Some line) quiet_lines i.quiet (i.uncome v) ∙ came_in

    -- ---- what stands where

    record Old (b : Name) (l : Lane) (c : List Item) (n : Name) : Type 0 where
      pub stood : StandsAt (W s) b l c n

    record New (b : Name) (l : Lane) (c : List Item) (n : Name) : Type 0 where
      pub message : b ≡ m.id
      pub front : c ≡ (W s).stands l
      pub led : Led v m.target ≡ End l n
      pub own : (u : ℕ) (p : Name) → l ≡ Held u p → u ≡ v

    old_or_new : (b : Name) (l : Lane) (c : List Item) (n : Name) → StandsAt (W t) b l c n → Old b l c n ⊎ New b l c n
    old_or_new b l c n h = go (i.comes_there l)
      where
        go : Comes l → Old b l c n ⊎ New b l c n
        go (none_came e) = inl (record { stood = record { behind = h.behind; found = sym e ∙ h.found } })
        go (came_last o e f g) = elim (last_or ((W s).stands l) c (item m.id o) (item b n) h.behind (sym e ∙ h.found)) [
          | inl k ↦ inl (record { stood = record { behind = k.0; found = k.1 } })
          | inr k ↦ inr (record { message = ap (λ (j : Item). j.mail) k.same; front = k.front; led = f ∙ ap (End l) (sym (ap (λ (j : Item). j.aim) k.same)); own = g })
        ]

    -- ---- the parts of the step

    references : (a n : Name) (u : ℕ) → Keeps script honest From To a (leads script honest From.vats From.links u (Ref n)) (leads script honest To.vats To.links u (Ref n))
    unfolding went ways amid
    references a n u h = inr (subst (λ c. Ahead (W t) a c) (sym (i.grown.leading u (Ref n))) (grows_at a (Led u (Ref n)) h))

    messages : (b : Name) (l : Lane) (c : List Item) (n : Name) → StandsAt (ways script honest To) b l c n → IsStanding script honest From To b l c n ⊎ (was_sent b From.history ≡ false)
    unfolding went ways amid
    messages b l c n h = elim (old_or_new b l c n h) [
      | inl k ↦ inl (record { lane = l; before = c; aim = n; stood = k.stood; keeps = λ a j. inr (grows_at a (Mid l c n) j) })
      | inr k ↦ inr (subst (λ x. was_sent x From.history ≡ false) (sym k.message) i.unsent)
    ]

    passings : (u g : ℕ) (front : List (Note Name)) (d : Delivery Name) (n : Name) (ys : Passeds Name) → Brings To u g front d n ys
        → IsStillBrought script honest From To u g front d n ys ⊎ (IsPutNow script honest From To (Some line) u g front d n ys ⊎ IsSentOnNow script honest From To u g front d n ys)
    unfolding went ways amid
    passings u g front d n ys b = elim (i.notes u g front d n ys b) [
      | inl k ↦ inl (record { before = front; brings = k; keeps = λ a o j. inr (grows_at a (passing_place u g front d n o) j) })
      | inr k ↦ inr (inl (record {
        new = subst (λ x. comes u x zero From.history ≡ None) (sym k.message) (i.uncome u);
        coming = Arrival;
        came = subst (λ x. comes u x zero To.history ≡ Some Arrival) (sym k.message) (subst (λ x. comes x m.id zero To.history ≡ Some Arrival) (sym k.sender) came);
        keeps = λ done so a e o c f j h. put u g front d n ys k done so a e o c f j h;
      }))
    ]
      where
        put : (u g : ℕ) (front : List (Note Name)) (d : Delivery Name) (n : Name) (ys : Passeds Name) → BringsIt u g front d n ys → (done : List Event) → IsTold script done → (a e o : Name) (c : Place) → IsSource script honest From To (Some (Here v (Sends act m))) u e c
            → IsAmong o (all_pass_as u done e ys (plains m.args)) → Keeps script honest From To a c (passing_place u g front d n o)
        put u g front d n ys k done so a e o c held_there j h = inr (k.behind done so e o (subst (λ x. IsAmong o (all_pass_as x done e ys (plains m.args))) k.sender j) a (subst (λ x. Ahead (W s) a (Led x (Ref e))) k.sender h))
        put u g front d n ys k done so a e o c (learnt_now f) j h = absurd (cc)

    carriers : (u : ℕ) (p d q : Name) (b : List Item) → StandsAt (ways script honest To) d (Held u p) b q → IsStillHeld script honest From To u p d (up_to b d q) ⊎ IsHeldNow script honest From To (Some line) u p d (up_to b d q)
    unfolding went ways amid
    carriers u p d q b h = go (old_or_new d (Held u p) b q h)
      where
        same_place : (n : Name) (c k : Place) → IsBroughtFrom (Held u p) (up_to b d q) (Led u (Ref n)) c → IsBroughtFrom (Held u p) (up_to b d q) (LeadsAmid script honest w v t u (Ref n)) k → c ≡ k
        same_place n c k f g = brought_once (Held u p) (up_to b d q) (Led u (Ref n)) c k f (subst (λ z. IsBroughtFrom (Held u p) (up_to b d q) z k) (i.grown.leading u (Ref n)) g)

        brought : New d (Held u p) b q → (a : Name) (c k : Place) → IsBroughtFrom (Held u p) (up_to b d q) c k → Ahead (W s) a c → Ahead (W t) a k
        brought e a c k (in_lane {n = n}) j = more_in_front (W t) a (Held u p) b (item d q) n (subst (λ z. Ahead (W t) a (Mid (Held u p) z n)) (sym e.front) ((comers_are_behind (W s) (W t) (Held u p) n i.grown.grows).1 a j))
        brought e a c k (apart f) j = grows_at a c j

        held : New d (Held u p) b q → (a n : Name) (c k : Place) → IsSource script honest From To (Some (Here v (Sends act m))) u n c → IsBroughtFrom (Held u p) (up_to b d q) (LeadsAmid script honest w v t u (Ref n)) k → Keeps script honest From To a c k
        held e a n c k held_there g j = inr (brought e a (Led u (Ref n)) k (subst (λ z. IsBroughtFrom (Held u p) (up_to b d q) z k) (i.grown.leading u (Ref n)) g) j)
        held e a n c k (learnt_now f) g j = absurd (cc)

        go : Old d (Held u p) b q ⊎ New d (Held u p) b q → IsStillHeld script honest From To u p d (up_to b d q) ⊎ IsHeldNow script honest From To (Some (Here v (Sends act m))) u p d (up_to b d q)
        go (inl k) = inl (record { before = b; aim = q; stood = k.stood; keeps = λ a n c z f g j. inr (subst (λ y. Ahead (W t) a y) (same_place n c z f g) (grows_at a c j)) })
        go (inr k) = inr (record {
          new = subst (λ x. comes u x zero From.history ≡ None) (sym k.message) (i.uncome u);
          coming = Arrival;
          came = subst (λ x. comes u x zero To.history ≡ Some Arrival) (sym k.message) (subst (λ x. comes x m.id zero To.history ≡ Some Arrival) (sym (k.own u p refl)) came);
          keeps = λ a n c z f g j. held k a n c z f g j;
        })

    told : IsSentNow script honest From To v m
    unfolding went ways amid
    told = record {
      unsent = i.unsent;
      untaken = i.untaken;
      ahead = λ n e. subst (λ c. Ahead (W t) m.id c) (ap (Led v) e ∙ sym (i.grown.leading v (Ref n))) i.ahead;
      behind = λ n a l b aim e h j. inr (behind n a l b aim e h j);
    }
      where
        behind : (n a : Name) (l : Lane) (b : List Item) (aim : Name) → m.target ≡ Ref n → StandsAt (W t) m.id l b aim → Ahead (W s) a (Led v (Ref n)) → Ahead (W t) a (Mid l b aim)
        behind n a l b aim e h j = elim (old_or_new m.id l b aim h) [
          | inl k ↦ absurd (i.nowhere l b aim k.stood)
          | inr k ↦ subst (λ z. Ahead (W t) a (Mid l z aim)) (sym k.front) ((comers_are_behind (W s) (W t) l aim i.grown.grows).1 a (subst (λ c. Ahead (W s) a c) (ap (Led v) (sym e) ∙ k.led) j))
        ]

    pub send_step : SmallStep script honest From To
    send_step = record {
      line = Some line;
      quiet = quiet_lines;
      lines = told_lines;
      all_quiet = i.quiet;
      told = told;
      references = references;
      messages = messages;
      passings = passings;
      carriers = carriers;
    }
