-- Acts of a vat in the middle of a step, as tales: lines, reactions that are queued, others that are told.
use Rattle.std.proofs.Common.{◌≡◌, ℕ, Bool, true, false, List, [], ◌∷◌, ◌++◌, Some, refl, sym, ap, ◌∙◌, ◌⊎◌, inl, inr, append_assoc}
use Rattle.std.proofs.lemmas.List.{append-nil}
use Rattle.std.specs.Prelude.{slice_get}
use Rattle.def_machine.specs.Values.{Value, Items, Ref, Name, Naming}
use Rattle.def_machine.specs.State.{Message, Note, SettledTo, Elsewhere, Happened, Vat, Done, Gives, send_out}
use Rattle.def_machine.specs.Refs as refs
use Rattle.def_machine.specs.Refs.{Place, Away}
use Rattle.def_run.specs.World.{Script, Event, World, names, events_of}
use Rattle.law_machine.specs.Machine.Steps.{After}
use Rattle.law_fate.proofs.Fates.Leads.{Ends}
use Rattle.law_fate.specs.Name.Names.{AllOf}
use Rattle.law_machine.specs.Run.Moves.{went}
use Rattle.law_order.specs.Ordering.Settlings.{with_line}
use Rattle.law_order.specs.Ordering.Places.{item, queued}
use Rattle.law_order.specs.Ordering.Steps.{Ready, StaysReady, Grown, IsHeld}
use Rattle.law_order.specs.Ordering.Worlds.{IfGives, LetsNothingGo}
use Rattle.law_order.proofs.Ordering.Adds.{adds_nothing, adds_message, adds_note, stays_quiet}
use Rattle.law_order.proofs.Ordering.Moves.{Keeps, IsKept, keeps_bind, keeps_look, keeps_if, keeps_give}
use Rattle.law_order.proofs.Ordering.Sendings.{stays, stays_pass}
use Rattle.law_order.proofs.Ordering.Standing.{queued_append, queued_end}
use Rattle.law_order.specs.History.Lines.{was_sent}
use Rattle.law_order.specs.History.Tells.{SmallStep, Tale, over, then_on}
use Rattle.law_order.proofs.History.ReactStep.{adding_is_small}
use Rattle.law_order.proofs.History.Same.{same_worlds}
use Rattle.law_order.specs.Tales.Middle.{middle, IsQuietLine, MovesNone}
use Rattle.law_order.proofs.Tales.Middle.{events_quiet, events_both, growing_is_small}
use Rattle.law_order.proofs.Tales.Stilling.{Any, still_inform}
use Rattle.law_order.proofs.Settling.Frames.{Frame, frame_inform, Less, Same, same_kept, same_pass, same_states}
use Rattle.law_order.proofs.Settling.Frames as frames
use Rattle.law_order.proofs.Settling.Later.{Later, as_it_led, later_self, later_then}

pub tale_then : (script : Script) (honest : ℕ → Bool) (x y z : World) → Tale script honest x y → Tale script honest y z → Tale script honest x z
tale_then script honest x y z over h = h
tale_then script honest x y z (then_on {y = u} s t) h = then_on s (tale_then script honest u y z t h)

-- what each keeps, as others are told what a name settled to
module _ (K : Naming Name Name) (R : Vat Name → Vat Name → Type 0) (law : IsKept R) (passes : (h : ℕ) (x : Value Name) → Keeps R (refs.pass K h x)) (puts : (h : ℕ) (n : Note Name) → LetsNothingGo n → Keeps R (send_out h n)) where
  informs_of : (p : Name) (h : ℕ) (y : Value Name) (q : Place Name) → Keeps R (refs.inform_of K p h y q)
  unfolding refs.inform_of
  informs_of p h y (Away g n true) = puts h (Elsewhere p g) tt
  informs_of p h y other = keeps_bind R law (passes h y) (λ z. puts h (SettledTo p z) tt)

  informs : (p : Name) (h : ℕ) → Keeps R (refs.inform K p h)
  unfolding refs.inform
  informs p h = keeps_bind R law (keeps_look R law _) (λ y. keeps_bind R law (keeps_look R law _) (λ q. keeps_bind R law (keeps_look R law _) (λ gone. keeps_if R law gone (keeps_give R law _) (informs_of p h y q))))

pub all_four : {A : Type 0} (s : Vat Name) (P Q R S : Vat Name → Vat Name → Type 0) (Z : Vat Name → Type 0) (d : Done Name A) → After P s d → After Q s d → After R s d → Ends Any S s d → ((t : Vat Name) → P s t → Q s t → R s t → S s t → Z t) → IfGives Z d
all_four s P Q R S Z (Gives a t) p q r i f = f t p q r i
all_four s P Q R S Z other p q r i f = tt

module _ (script : Script) (honest : ℕ → Bool) (w : World) (v : ℕ) (head : List Event) (L : Type 0) where
  abbrev K : Naming Name Name
  K = names script v

  -- From s to t, by small steps.
  pub record Told (s t : Vat Name) : Type 0 where
    pub tale : Tale script honest (middle w v head s) (middle w v head t)
    pub later : Later script honest w v head L s t

  pub told_self : (s : Vat Name) → Told s s
  told_self s = record { tale = over; later = later_self script honest w v head L s }

  pub told_then : (s t u : Vat Name) → Told s t → Told t u → Told s u
  told_then s t u g h = record { tale = tale_then script honest (middle w v head s) (middle w v head t) (middle w v head u) g.tale h.tale; later = later_then script honest w v head L s t u g.later h.later }

  pub story_more : (s t : Vat Name) (es : List (Happened Name)) → t.happened ≡ s.happened ++ es → (middle w v head t).history ≡ (middle w v head s).history ++ events_of w.links v es
  story_more s t es e = ap (λ hs. w.history ++ head ++ events_of w.links v hs) e ∙ ap (λ hs. w.history ++ head ++ hs) (events_both w.links v s.happened es) ∙ sym (append_assoc (w.history ++ head) (events_of w.links v s.happened) (events_of w.links v es))

  pub held_back : (s t : Vat Name) → Less script v s t → (x : Value Name) → IsHeld script honest w v t x → IsHeld script honest w v s x
  held_back s t less (Ref n) (inl i) = inl i
  held_back s t less (Ref n) (inr i) = inr (less.known n i)
  held_back s t less other i = tt

  -- where the ways only grow
  pub later_by : (s t : Vat Name) (es : List (Happened Name)) → t.happened ≡ s.happened ++ es → AllOf IsQuietLine es → Ready script honest w v s → StaysReady script honest w v s t → Less script v s t
      → ((L → ⊥) → (x : Value Name) (k : ℕ) → refs.follow K t x ≡ Items k → refs.follow K s x ≡ Items k) → Frame K s t → Later script honest w v head L s t
  later_by s t es e q ready stay less follows frame = record {
    ready = λ r. (stay r).0;
    leading = λ x i. as_it_led (held_back s t less x i) ((stay ready).1.leading v x);
    undrawn = frame.undrawn;
    told = events_of w.links v es;
    story = story_more s t es e;
    quiet = events_quiet w.links v es q;
    known = frame.known;
    lists = frame.lists;
    follows = follows;
    held = λ n k f m i. let j = less.held n k f m i in record { known = j.0; found = j.1; among = j.2 };
    reacts = λ n k f m i. let j = less.reacts n k f m i in record { known = j.0; found = j.1; among = j.2 };
  }

  -- and what the vat knows is followed as it was
  pub later_grown : (s t : Vat Name) (es : List (Happened Name)) → t.happened ≡ s.happened ++ es → AllOf IsQuietLine es → Ready script honest w v s → StaysReady script honest w v s t → Same script v s t → Frame K s t → Later script honest w v head L s t
  later_grown s t es e q ready stay same frame = later_by s t es e q ready stay same.less (λ l x k f. sym (same.follow x) ∙ f) frame

  -- and no message moves
  pub told_small : (s t : Vat Name) → Grown script honest w v s t → MovesNone K s t → Later script honest w v head L s t → Told s t
  told_small s t g none later = record { tale = then_on (growing_is_small script honest w v head s t g none) over; later = later }

  pub grown_told : (s t : Vat Name) → Ready script honest w v s → StaysReady script honest w v s t → Same script v s t → Frame K s t → MovesNone K s t → Told s t
  grown_told s t ready stay same frame none = told_small s t (stay ready).1 none (later_grown s t none.lines none.happened none.quiet ready stay same frame)

  -- ---- a line

  pub line_told : (s : Vat Name) (e : Happened Name) → IsQuietLine e → Ready script honest w v s → Told s (with_line s e)
  line_told s e q ready = grown_told s (with_line s e) ready (stays_quiet script honest w v s (with_line s e) (adds_nothing K s (with_line s e) refl refl refl refl refl refl, refl, refl, refl)) (same_states script v s (with_line s e) refl refl refl) (frames.frame_same K s (with_line s e) refl refl refl)
      (record { queue = refl; held = λ n. refl; puts = []; outbox = sym (append-nil s.outbox); none = tt; lines = e ∷ []; happened = refl; quiet = (q, tt) })

  -- ---- others are told

  puts_stay : (h : ℕ) (n : Note Name) → LetsNothingGo n → Keeps (StaysReady script honest w v) (send_out h n)
  unfolding send_out
  puts_stay h n i = record { after = λ s. let t : Vat Name = record s { outbox = s.outbox ++ record { to = h; note = n } ∷ [] } in stays_quiet script honest w v s t (adds_note K s (record { to = h; note = n }) i, refl, refl, refl) }

  puts_same : (h : ℕ) (n : Note Name) → LetsNothingGo n → Keeps (Same script v) (send_out h n)
  unfolding send_out
  puts_same h n i = record { after = λ s. same_states script v s (record s { outbox = s.outbox ++ record { to = h; note = n } ∷ [] }) refl refl refl }

  pub inform_told : (p : Name) (h : ℕ) (s : Vat Name) → Ready script honest w v s → IfGives (λ t. Told s t) (refs.inform K p h s)
  inform_told p h s ready = all_four s (StaysReady script honest w v) (Same script v) (Frame K) (MovesNone K) (λ t. Told s t) (refs.inform K p h s)
      ((informs K (StaysReady script honest w v) (stays script honest w v) (λ g x. stays_pass script honest w v g x) puts_stay p h).after s)
      ((informs K (Same script v) (same_kept script v) (λ g x. same_pass script v g x) puts_same p h).after s)
      (frame_inform K p h s) ((still_inform K p h).after s)
      (λ t a b c d. grown_told s t ready a b c d)

  -- ---- a reaction is queued

  to_went : (s : Vat Name) → SmallStep script honest (middle w v head s) (went v w head s)
  unfolding went
  to_went s = same_worlds script honest (middle w v head s) (went v w head s) [] refl refl (sym (append-nil (middle w v head s).history)) tt

  from_went : (s : Vat Name) → SmallStep script honest (went v w head s) (middle w v head s)
  unfolding went
  from_went s = same_worlds script honest (went v w head s) (middle w v head s) [] refl refl (sym (append-nil (middle w v head s).history)) tt

  pub went_tale : (s t : Vat Name) → SmallStep script honest (went v w head s) (went v w head t) → Tale script honest (middle w v head s) (middle w v head t)
  went_tale s t h = then_on (to_went s) (then_on h (then_on (from_went t) over))

  module _ (r : Vat Name) (at : slice_get w.vats v ≡ Some r) (s : Vat Name) (m : Message Name) (unsent : was_sent m.id (middle w v head s).history ≡ false) (ready : Ready script honest w v s) where
    abbrev Then : Vat Name
    Then = record s { queue = s.queue ++ m ∷ [] }

    one_more : (z : Value Name) → m.target ≡ z → (queued Then.queue ≡ queued s.queue) ⊎ ((i : Rattle.law_order.specs.Ordering.Ways.Item) × (queued Then.queue ≡ queued s.queue ++ i ∷ []) × (was_sent i.mail (went v w head s).history ≡ false))
    unfolding queued went
    one_more (Ref n) e = inr (item m.id n, queued_end s.queue m n e, unsent)
    one_more other e = inl (queued_append s.queue (m ∷ []) ∙ ap (λ z. queued s.queue ++ elim z [ Ref k ↦ item m.id k ∷ [] | _ ↦ [] ]) e ∙ append-nil (queued s.queue))

    stay : StaysReady script honest w v s Then
    stay = stays_quiet script honest w v s Then (adds_message K s m, refl, refl, refl)

    queue_small : SmallStep script honest (went v w head s) (went v w head Then)
    unfolding events_of
    queue_small = adding_is_small script honest w v head r s at Then (stay ready).1 (record { lines = []; happened = sym (append-nil s.happened); quiet = tt; queue = one_more m.target refl; held = λ n. refl; outbox = refl })

    pub queue_told : Told s (record s { queue = s.queue ++ m ∷ [] })
    queue_told = record { tale = went_tale s Then queue_small; later = later_grown s Then [] (sym (append-nil s.happened)) tt ready stay (same_states script v s Then refl refl refl) (frames.frame_same K s Then refl refl refl) }

-- fewer lists may have come
pub told_wider : (script : Script) (honest : ℕ → Bool) (w : World) (v : ℕ) (head : List Event) (L M : Type 0) (s t : Vat Name) → (L → M) → Told script honest w v head L s t → Told script honest w v head M s t
told_wider script honest w v head L M s t f h = record {
  tale = h.tale;
  later = record {
    ready = h.later.ready;
    leading = h.later.leading;
    undrawn = h.later.undrawn;
    told = h.later.told;
    story = h.later.story;
    quiet = h.later.quiet;
    known = h.later.known;
    lists = h.later.lists;
    follows = λ l x k e. h.later.follows (λ i. l (f i)) x k e;
    held = h.later.held;
    reacts = h.later.reacts;
  };
}
