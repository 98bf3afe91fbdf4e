-- In the middle of a turn, where a message was sent, or an object is to react: what is to react was never sent, and what names hold came as told.
use Rattle.std.proofs.Common.{◌≡◌, ℕ, zero, Bool, false, List, [], ◌∷◌, ◌++◌, Some, None, length, refl, sym, ap, subst, ◌∙◌, arith}
use Rattle.std.specs.Prelude.{slice_get}
use Rattle.def_machine.specs.Values.{Value, Name, Sent}
use Rattle.def_machine.specs.State.{Message, Known, Sends, Happened, Vat, Gives, Act}
use Rattle.def_machine.specs.Refs as refs
use Rattle.def_run.specs.World as world
use Rattle.def_run.specs.World.{Script, Event, Here, World, names, events_of}
use Rattle.law_machine.specs.Machine.Laws.{SameLists}
use Rattle.law_machine.proofs.Machine.Keeps.{Keeps, IsKept, IsKeptUnder}
use Rattle.law_machine.proofs.Machine.StepLaws.{lists_law, lists_names}
use Rattle.law_fate.specs.Name.Names.{Bit, Mail, Drew, At, Off, Gave, bare, AllOf, IsAmong, ValueOk, ValuesOk}
use Rattle.law_fate.proofs.Name.Care.{Sound}
use Rattle.law_fate.proofs.Name.Facts.{all_map, known_up, value_up}
use Rattle.law_fate.proofs.Name.Run as run
use Rattle.law_fate.proofs.Name.Run.{IsInside}
use Rattle.law_fate.specs.Fates.WholeFateRuns.{KnowsVats}
use Rattle.law_order.specs.Ordering.Order.{comes}
use Rattle.law_order.specs.Ordering.Ways.{Way, End}
use Rattle.law_order.specs.Ordering.Steps.{Ready, LeadsAmid, IsHeld}
use Rattle.law_order.specs.Ordering.Worlds.{IsKnown}
use Rattle.law_order.specs.History.Lines.{AllQuiet, was_sent}
use Rattle.law_order.specs.Sending.Came.{CameSo}
use Rattle.law_order.specs.Sending.New.{AreNextNew, IsBegun}
use Rattle.law_order.proofs.Sending.Held.{value_held, values_held}
use Rattle.law_order.proofs.Sending.Keeping.{sent_so}
use Rattle.law_order.proofs.Sending.New.{next_messages_are_new}
use Rattle.law_order.proofs.Sending.Sending.{Around}
use Rattle.law_order.proofs.Sending.There.{target_there}
use Rattle.law_order.proofs.Settling.Acts.{story_more}
use Rattle.law_order.proofs.Settling.Kept.{AllHeld}
use Rattle.law_order.proofs.Settling.Later.{unsent_more}
use Rattle.law_order.proofs.Steady.Facts.{ready}
use Rattle.law_order.proofs.Steady.Steady.{Steady, after_at}
use Rattle.law_order.specs.Tales.Middle.{middle}
use Rattle.law_order.proofs.Tales.Middle.{events_quiet}
use Rattle.law_order.proofs.TurnTales.Also.{Also}
use Rattle.law_order.proofs.TurnTales.AlsoKept.{held_known, unsent_by_other, unsent_then, came_then, reacts_made}
use Rattle.law_order.proofs.TurnTales.Puts.{ReactsIn, Does}
use Rattle.law_order.proofs.TurnTales.Sends.{NoMessage, IsOf, IsNamed}
use Rattle.law_order.proofs.TurnTales.Turning.{T}

inside_bare : (count : ℕ) (b : Bit Name) → IsInside count (bare b) → IsInside count b
inside_bare count (Mail n) h = tt
inside_bare count (Drew i) h = tt
inside_bare count (At h) i = i
inside_bare count (Off h) i = i
inside_bare count (Gave i) h = tt
inside_bare count other h = h

-- lists that a vat has stay, whatever it does
pub lists_on : (script : Script) (v : ℕ) {X : Type 0} (m : Act Name X) → (IsKept {N = Name} SameLists → IsKeptUnder (names script v) SameLists → Keeps SameLists m) → (s t : Vat Name) (a : X) → m s ≡ Gives a t → SameLists s t
lists_on script v m k s t a e = after_at SameLists s (m s) a t e ((k lists_law (lists_names (names script v))).after s)

module _ (script : Script) (honest : ℕ → Bool) (w : World) (around : Around script w) (v : ℕ) (head : List Event) (came : Name → ℕ) (r q : Vat Name) (begins : IsBegun w v head came r q) (there : slice_get w.vats v ≡ Some r) (h : run.Stands script w)
    (c o : Name → ℕ) (s : Vat Name) (sure : Sound (T script w v r there h) s) (steady : Steady script w v c o s) (also : Also script honest w v head came r q s) where
  abbrev Id : Name
  Id = Sent (record { sender = v; number = s.messages })

  abbrev Held : Value Name → Type 0
  Held x = IsHeld script honest w v s x

  abbrev Story : Vat Name → List Event
  Story t = (middle w v head t).history

  ready_now : Ready script honest w v s
  ready_now = ready script w v honest c o s steady

  -- what the vat numbers next is new
  pub next_new : AreNextNew script honest w v head s
  next_new = next_messages_are_new script honest w around.of_run v head came r q s begins also.counted

  pub never_sent : was_sent (Sent (record { sender = v; number = s.messages })) (middle w v head s).history ≡ false
  never_sent = let told = next_new.told in told.unsent s.messages (omega arith)

  pub never_came : (u : ℕ) → comes u (Sent (record { sender = v; number = s.messages })) zero (middle w v head s).history ≡ None
  never_came u = let told = next_new.told in told.uncome u s.messages (omega arith)

  -- ---- what is in hand

  pub hand : (x : Value Name) → ValueOk ((T script w v r there h).ok s) x → IsHeld script honest w v s x
  hand x ok = let kept = sure.more in value_held script honest w v s ((T script w v r there h).ok s) (λ b i. i.1) kept.apart x ok

  pub hands : (xs : List (Value Name)) → ValuesOk ((T script w v r there h).ok s) xs → AllOf (IsHeld script honest w v s) xs
  hands xs oks = let kept = sure.more in values_held script honest w v s ((T script w v r there h).ok s) (λ b i. i.1) kept.apart xs oks

  -- its target is of a vat that is there
  module _ (vats : KnowsVats script) where
    inside_of : (b : Bit Name) → (T script w v r there h).ok s b → IsInside (length script.vats) b
    inside_of b i = inside_bare (length script.vats) b (i.3 vats)

    pub leads_there : (x : Value Name) → ValueOk ((T script w v r there h).ok s) x → (u : ℕ) (n : Name) → LeadsAmid script honest w v s v x ≡ End (Way v u) n → (t : Vat Name) × (slice_get w.vats u ≡ Some t)
    leads_there x ok u n e = let kept = sure.more in let parts = sure.parts in
        target_there script honest w around v r there s ready_now kept.hosts (all_map (known_up ((T script w v r there h).ok s) (IsInside (length script.vats)) inside_of) s.known parts.known) x (hand x ok) (value_up ((T script w v r there h).ok s) (IsInside (length script.vats)) inside_of x ok) u n e

  -- ---- from s to t, where the message f was sent

  module _ (act : ℕ) (f : Message Name) (id : f.id ≡ Id) (args : AllOf Held f.args) (t : Vat Name) (does : Does script v (IsOf f) NoMessage (Sends act f ∷ []) s t) where
    abbrev After : List Event
    After = events_of w.links v does.after

    abbrev More : List Event
    More = Here v (Sends act f) ∷ After

    more_is : events_of w.links v (Sends act f ∷ does.after) ≡ More
    unfolding events_of world.event_of
    more_is = refl

    story : Story t ≡ Story s ++ More
    story = story_more script honest w v head ⊥ s t (Sends act f ∷ does.after) does.happened ∙ ap (λ es. Story s ++ es) more_is

    quiet : AllQuiet After
    quiet = events_quiet w.links v does.after does.quiet

    old_unsent : (n : Name) (m : Message Name) → ReactsIn script v s n m → was_sent m.id (Story t) ≡ false
    old_unsent n m j = subst (λ es. was_sent m.id es ≡ false) (sym story) (unsent_by_other m.id (Story s) v act f After (λ e. reacts_made script honest w v head r there h s sure n m j (e ∙ id)) quiet (also.unsent n j.0 j.1 m j.2))

    pub send_unsent : (n : Name) (k : Known Name) → refs.entry_of (names script v) t.known n ≡ Some k → (m : Message Name) → IsAmong m k.reactions → was_sent m.id (middle w v head t).history ≡ false
    send_unsent = unsent_then script honest w v head (IsOf f) NoMessage s t does.puts old_unsent (λ m i. absurd i)

    uncome : comes v f.id zero (Story s) ≡ None
    uncome = subst (λ z. comes v z zero (Story s) ≡ None) (sym id) (never_came v)

    pub send_came : SameLists s t → ((n : Name) → IsKnown (names script v) s n → IsKnown (names script v) t n) → AllHeld script honest w v head (CameSo script honest w v head) t
    send_came lists known = came_then script honest w v head (IsOf f) NoMessage s t does.puts lists known More story also.came_so
        (λ m i. sent_so script honest w v head s t More story act f After refl quiet uncome m i.0 i.1 (all_map (λ x j. held_known script honest w v head s t known x j) f.args args))

  -- ---- from s to t, where an object is to react by the next message

  module _ (line : Happened Name) (silent : Rattle.law_order.specs.Tales.Middle.IsQuietLine line) (t : Vat Name) (does : Does script v NoMessage (IsNamed Id) (line ∷ []) s t) where
    told : Story t ≡ Story s ++ events_of w.links v (line ∷ does.after)
    told = story_more script honest w v head ⊥ s t (line ∷ does.after) does.happened

    unsent_yet : (m : Name) → was_sent m (Story s) ≡ false → was_sent m (Story t) ≡ false
    unsent_yet m e = subst (λ es. was_sent m es ≡ false) (sym told) (unsent_more m (Story s) (events_of w.links v (line ∷ does.after)) e (events_quiet w.links v (line ∷ does.after) (silent, does.quiet)))

    pub react_unsent : (n : Name) (k : Known Name) → refs.entry_of (names script v) t.known n ≡ Some k → (m : Message Name) → IsAmong m k.reactions → was_sent m.id (middle w v head t).history ≡ false
    react_unsent = unsent_then script honest w v head NoMessage (IsNamed Id) s t does.puts (λ n m j. unsent_yet m.id (also.unsent n j.0 j.1 m j.2)) (λ m i. unsent_yet m.id (subst (λ z. was_sent z (Story s) ≡ false) (sym i) never_sent))

    pub react_came : SameLists s t → ((n : Name) → IsKnown (names script v) s n → IsKnown (names script v) t n) → AllHeld script honest w v head (CameSo script honest w v head) t
    react_came lists known = came_then script honest w v head NoMessage (IsNamed Id) s t does.puts lists known (events_of w.links v (line ∷ does.after)) told also.came_so (λ m i. absurd i)
