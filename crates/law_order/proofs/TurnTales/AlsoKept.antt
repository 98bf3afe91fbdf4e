-- What more is kept of a vat in the middle of a turn is kept by what adds to what names hold only what came as told, and to what reacts only what was never sent.
use Rattle.std.proofs.Common.{◌≡◌, ℕ, suc, ◌<◌, Bool, true, false, List, [], ◌∷◌, ◌++◌, Some, refl, sym, ap, subst, ◌∙◌, ◌⊎◌, inl, inr, ◌||◌, arith}
use Rattle.std.proofs.lemmas.List.{append-nil}
use Rattle.std.specs.Prelude.{slice_get}
use Rattle.def_machine.specs.Values.{Value, Ref, Name, Promise, Sent, Naming, naming, name_of, same_name}
use Rattle.def_machine.specs.State.{Cell, Thing, Message, Known, Happened, Sends, Vat, begun}
use Rattle.def_machine.specs.Refs.{entry_of}
use Rattle.def_run.specs.Draws.{draw_word}
use Rattle.def_run.specs.World as world
use Rattle.def_run.specs.World.{Script, Event, Here, World, names, events_of}
use Rattle.law_machine.specs.Machine.Laws.{SameLists, SettledStays}
use Rattle.law_machine.proofs.Machine.Keeps.{IsKept, IsKeptUnder}
use Rattle.law_machine.proofs.Machine.StepLaws.{settled_law, settled_names}
use Rattle.law_fate.specs.Name.Names.{AllOf, IsAmong, IsMessageMade, KnownOk, MessageOk, messages_of}
use Rattle.law_fate.proofs.Name.Among.{all_among, get_put, messages_at}
use Rattle.law_fate.proofs.Name.Care.{TellsOfNone, Sound}
use Rattle.law_fate.proofs.Name.Facts.{all_map}
use Rattle.law_fate.proofs.Name.Run as run
use Rattle.law_fate.proofs.Name.SameNames.{same_is}
use Rattle.law_reference.proofs.Reference.Told.{found_all}
use Rattle.law_order.specs.Ordering.Steps.{IsHeld}
use Rattle.law_order.specs.Ordering.Worlds.{IsKnown}
use Rattle.law_order.specs.History.Lines.{AllQuiet, sends_it, was_sent}
use Rattle.law_order.specs.Sending.Came.{CameSo}
use Rattle.law_order.proofs.Sending.Keeping.{came_later}
use Rattle.law_order.proofs.Settling.Acts.{story_more}
use Rattle.law_order.proofs.Settling.Kept.{AllHeld, StaysSo}
use Rattle.law_order.proofs.Settling.Later.{unsent_more}
use Rattle.law_order.specs.Tales.Middle.{middle}
use Rattle.law_order.proofs.Tales.Middle.{events_quiet}
use Rattle.law_order.proofs.Turns.Same.{has_more}
use Rattle.law_order.proofs.TurnTales.Also.{Also}
use Rattle.law_order.proofs.TurnTales.Counted.{quietly_counted, promised_counted}
use Rattle.law_order.proofs.TurnTales.Course.{quiet_line}
use Rattle.law_order.proofs.TurnTales.Puts.{HeldIn, ReactsIn, Puts, puts_begun}
use Rattle.law_order.proofs.TurnTales.Sends.{NoMessage}
use Rattle.law_order.proofs.TurnTales.Turning.{T}
use Rattle.law_order.proofs.TurnTales.Views.{views_promised}

-- ---- lines

pub sent_both : (m : Name) (es fs : List Event) → was_sent m es ≡ false → was_sent m fs ≡ false → was_sent m (es ++ fs) ≡ false
unfolding was_sent
sent_both m [] fs h k = k
sent_both m (e ∷ es) fs h k = go (sends_it m e) (λ i. sent_both m es fs i k) h
  where
    go : (b : Bool) → (was_sent m es ≡ false → was_sent m (es ++ fs) ≡ false) → (b || was_sent m es) ≡ false → (b || was_sent m (es ++ fs)) ≡ false
    go false f i = f i
    go true f i = i

no_send : (m : Name) (u act : ℕ) (f : Message Name) → (m ≡ f.id → ⊥) → sends_it m (Here u (Sends act f)) ≡ false
unfolding sends_it
no_send m u act f free = go (same_name f.id m) refl
  where
    go : (b : Bool) → same_name f.id m ≡ b → b ≡ false
    go true e = absurd (free (sym (same_is f.id m e)))
    go false e = refl

-- by a send of another, and lines that do not count
pub unsent_by_other : (m : Name) (es : List Event) (u act : ℕ) (f : Message Name) (after : List Event) → (m ≡ f.id → ⊥) → AllQuiet after → was_sent m es ≡ false → was_sent m (es ++ (Here u (Sends act f) ∷ after)) ≡ false
unfolding was_sent
unsent_by_other m es u act f after free quiet h = sent_both m es (Here u (Sends act f) ∷ after) h (ap (λ b. b || was_sent m after) (no_send m u act f free) ∙ unsent_more m [] after refl quiet)

module _ (script : Script) (honest : ℕ → Bool) (w : World) (v : ℕ) (head : List Event) where
  abbrev K : Naming Name Name
  K = names script v

  abbrev Story : Vat Name → List Event
  Story s = (middle w v head s).history

  pub held_known : (s t : Vat Name) → ((n : Name) → IsKnown K s n → IsKnown K t n) → (x : Value Name) → IsHeld script honest w v s x → IsHeld script honest w v t x
  held_known s t f (Ref n) (inl i) = inl i
  held_known s t f (Ref n) (inr i) = inr (f n i)
  held_known s t f other i = tt

  -- what came as told came so still, whatever settles
  pub came_stays : StaysSo script honest w v head (CameSo script honest w v head)
  came_stays L s t g m c = came_later script honest w v head s t g.told g.story (λ i x e. subst (λ ls. slice_get ls i ≡ Some x) (sym g.lists) e) (held_known s t g.known) m c

  -- ---- from s to t

  module _ (H R : Message Name → Type 0) (s t : Vat Name) (puts : Puts script v H R s t) where
    module _ (old : (n : Name) (m : Message Name) → ReactsIn script v s n m → was_sent m.id (Story t) ≡ false) (new : (m : Message Name) → R m → was_sent m.id (Story t) ≡ false) where
      unsent_or : (n : Name) (m : Message Name) → ReactsIn script v s n m ⊎ R m → was_sent m.id (Story t) ≡ false
      unsent_or n m (inl j) = old n m j
      unsent_or n m (inr i) = new m i

      pub unsent_then : (n : Name) (k : Known Name) → entry_of (names script v) t.known n ≡ Some k → (m : Message Name) → IsAmong m k.reactions → was_sent m.id (middle w v head t).history ≡ false
      unsent_then n k e m i = unsent_or n m (puts.reacts n k e m i)

    module _ (lists : SameLists s t) (known : (n : Name) → IsKnown K s n → IsKnown K t n) (more : List Event) (story : Story t ≡ Story s ++ more) (came : AllHeld script honest w v head (CameSo script honest w v head) s) (new : (m : Message Name) → H m → CameSo script honest w v head t m) where
      came_or : (n : Name) (m : Message Name) → HeldIn script v s n m ⊎ H m → CameSo script honest w v head t m
      came_or n m (inl j) = came_later script honest w v head s t more story lists (held_known s t known) m (came n j.0 j.1 m j.2)
      came_or n m (inr i) = new m i

      pub came_then : AllHeld script honest w v head (CameSo script honest w v head) t
      came_then n k e m i = came_or n m (puts.held n k e m i)

  -- what reacts in s was made before the next message of the vat
  module _ (r : Vat Name) (there : slice_get w.vats v ≡ Some r) (h : run.Stands script w) (s : Vat Name) (sure : Sound (T script w v r there h) s) where
    made_before : (id : Name) → IsMessageMade (world.put_at v s w.vats) id → id ≡ Sent (record { sender = v; number = s.messages }) → ⊥
    made_before id made e = let below : s.messages < messages_of (world.put_at v s w.vats) v = subst (IsMessageMade (world.put_at v s w.vats)) e made in let at = messages_at (world.put_at v s w.vats) v s (get_put w.vats v r s there) in absurd (omega arith)

    pub reacts_made : (n : Name) (m : Message Name) → ReactsIn script v s n m → m.id ≡ Sent (record { sender = v; number = s.messages }) → ⊥
    unfolding naming names
    reacts_made n m j e =
        let parts = sure.parts in
        let entry : KnownOk ((T script w v r there h).ok s) j.0 = found_all (draw_word script.key) v (KnownOk ((T script w v r there h).ok s)) s.known n j.0 parts.known j.1 in
        let message : MessageOk ((T script w v r there h).ok s) m = all_among (MessageOk ((T script w v r there h).ok s)) j.0.reactions m entry.4 j.2 in
        made_before m.id message.0.0 e

  -- ---- acts that send nothing

  module _ (came : Name → ℕ) (r q : Vat Name) (s : Vat Name) (also : Also script honest w v head came r q s) where
    module _ (fuel : ℕ) (lines more : List (Happened Name)) (acts : ℕ) (things : List (Thing Name)) (slots : List (Cell Name)) (lists : List (List (Value Name))) (told : lines ≡ s.happened ++ more) (none : AllOf TellsOfNone more) (stay : SameLists s (record s { lists = lists })) where
      abbrev Beside : Vat Name
      Beside = record s { fuel = fuel; happened = lines; activations = acts; things = things; slots = slots; lists = lists }

      story : Story Beside ≡ Story s ++ events_of w.links v more
      story = story_more script honest w v head ⊥ s Beside more told

      quiet : AllQuiet (events_of w.links v more)
      quiet = events_quiet w.links v more (all_map quiet_line more none)

      pub quietly_also : Also script honest w v head came r q Beside
      unfolding names
      quietly_also = record {
        counted = quietly_counted (draw_word script.key) w v came q s fuel lines more acts things slots lists told none also.counted;
        settled = also.settled;
        draws = also.draws;
        views = also.views;
        unsent = λ n k e m i. subst (λ es. was_sent m.id es ≡ false) (sym story) (unsent_more m.id (Story s) (events_of w.links v more) (also.unsent n k e m i) quiet);
        came_so = λ n k e m i. came_later script honest w v head s Beside (events_of w.links v more) story stay (held_known s Beside (λ b j. j)) m (also.came_so n k e m i);
      }

    abbrev Begun : Vat Name
    Begun = record s { promises = suc s.promises; known = s.known ++ begun (Promise v s.promises) s.number ∷ [] }

    begun_puts : Puts script v NoMessage NoMessage s Begun
    begun_puts = puts_begun script v NoMessage NoMessage (Promise v s.promises) s.number s Begun refl

    begun_settled : SettledStays K s Begun
    unfolding names naming name_of
    begun_settled = let under : IsKeptUnder K (SettledStays K) = settled_names K in under.promised s

    pub promised_also : Also script honest w v head came r q Begun
    promised_also = let law : IsKept (SettledStays K) = settled_law K in record {
      counted = promised_counted (draw_word script.key) w v came q s also.counted;
      settled = law.trans {s = r} {t = s} {u = Begun} also.settled begun_settled;
      draws = also.draws;
      views = views_promised script v s also.views;
      unsent = unsent_then NoMessage NoMessage s Begun begun_puts (λ n m j. also.unsent n j.0 j.1 m j.2) (λ m i. absurd i);
      came_so = came_then NoMessage NoMessage s Begun begun_puts (λ i x e. e) (λ n i. has_more script v s.known (begun (Promise v s.promises) s.number) n i.0 i.1) [] (sym (append-nil (Story s))) also.came_so (λ m i. absurd i);
    }
