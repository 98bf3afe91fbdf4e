-- What a vat is asked to hold for a settling, as it is about to open a gift: it holds what it held as its step began, and names that just came to be known hold nothing.
use Rattle.law_uses.specs.Connectivity.Known as connected
use Rattle.std.proofs.Common.{◌≡◌, ℕ, zero, Bool, true, false, List, [], ◌∷◌, ◌++◌, Option, Some, None, refl, sym, ap, subst, ◌∙◌, ◌⊎◌, inl, inr}
use Rattle.std.specs.Prelude.{slice_get}
use Rattle.def_machine.specs.Values.{Value, Ref, Name, Naming}
use Rattle.def_machine.specs.State.{Message, Known, Vat, begun}
use Rattle.def_machine.specs.Refs as refs
use Rattle.def_machine.specs.Refs.{entry_of, standing_of}
use Rattle.def_run.specs.World as world
use Rattle.def_run.specs.World.{Script, Entry, Event, World, names, readied}
use Rattle.law_machine.specs.Machine.Laws.{SettledStays}
use Rattle.law_fate.specs.Name.Names.{AllOf, IsAmong, HostIsTrue}
use Rattle.law_fate.specs.Name.Runs.{KnowsOnce}
use Rattle.law_order.specs.Ordering.Order.{comes}
use Rattle.law_order.specs.Ordering.Steps.{Ready, IsHeld}
use Rattle.law_order.specs.Ordering.Worlds.{IsKnown}
use Rattle.law_order.specs.History.Lines.{AllQuiet, was_sent}
use Rattle.law_order.specs.History.Told.{IsOfRun}
use Rattle.law_order.proofs.MessageTales.Reaching.{IsAtRest}
use Rattle.law_order.proofs.MessageTales.Rests.{rests}
use Rattle.law_order.proofs.NewsTales.Parts.{middle_unsent}
use Rattle.law_order.proofs.NoticeTales.Unsent as reacting
use Rattle.law_order.specs.Sending.Came.{AreHadAs, Agrees, HoldsMembers, CameSo}
use Rattle.law_order.proofs.Sending.Around.{around_of}
use Rattle.law_order.proofs.Sending.Came.{what_is_had_came}
use Rattle.law_order.proofs.Sending.HeldCame.{held_came_so}
use Rattle.law_order.proofs.Sending.Passing.{vats_there, can_pass}
use Rattle.law_order.proofs.Sending.Sending.{Around}
use Rattle.law_order.proofs.Sending.Views.{ViewsRest, views_no_list}
use Rattle.law_order.specs.Settling.Holding.{Holds, HeldCame, Came}
use Rattle.law_order.specs.Tales.Entries.{GoesBy}
use Rattle.law_order.specs.Tales.Middle.{middle, IsQuietLine}
use Rattle.law_order.proofs.OpenTales.Grown.{Stands}
use Rattle.law_order.proofs.Steady.Wells.{entry_among}

turned : {A : Type 0} (x : A) (xs : List A) → IsAmong x xs → connected.IsAmong x xs
turned x [] i = i
turned x (y ∷ xs) (inl e) = inl e
turned x (y ∷ xs) (inr i) = inr (turned x xs i)

module _ (script : Script) (once : KnowsOnce script) (honest : ℕ → Bool) (everyone : (u : ℕ) → honest u ≡ true) (x y : World) (of_run : IsOfRun script x) (en : Entry) (g : GoesBy script en x y) (b : ℕ) (was : Vat Name) (there : slice_get x.vats b ≡ Some was) (head : List Event) (silent : AllQuiet head)
    (u : Vat Name) (entries : (m : Name) → Stands script honest x b head m (entry_of (names script b) was.known m) (entry_of (names script b) u.known m)) (happened : u.happened ≡ []) (lists : u.lists ≡ was.lists) (drawn : u.drawn ≡ x.drawn) (hosts : AllOf HostIsTrue u.known) (ready : Ready script honest x b u) where
  abbrev K : Naming Name Name
  K = names script b

  around : Around script x
  around = around_of script once x of_run

  rest : IsAtRest script honest x
  rest = rests script once honest everyone x of_run

  none_some : (k : Known Name) → ◌≡◌ {A = Option (Known Name)} None (Some k) → ⊥
  none_some k e = cc

  settled : SettledStays K was u
  settled n k z e f = go (entries n)
    where
      go : (entry_of K u.known n ≡ entry_of K was.known n) ⊎ ((h : ℕ) × (entry_of K was.known n ≡ None) × (entry_of K u.known n ≡ Some (begun n h))) → entry_of K u.known n ≡ Some k
      go (inl i) = i ∙ e
      go (inr i) = absurd (none_some k (sym i.1 ∙ e))

  same_words : (d : ℕ) → IsAmong d x.drawn → IsAmong d u.drawn
  same_words d i = subst (λ ds. IsAmong d ds) (sym drawn) i

  stood_begun : (n : Name) (h : ℕ) → refs.standing_in (Some (begun n h)) ≡ refs.standing_in {N = Name} None
  unfolding refs.standing_in begun
  stood_begun n h = refl

  pub standing_same : (n : Name) → standing_of K u.known n ≡ standing_of K was.known n
  unfolding standing_of
  standing_same n = go (entries n)
    where
      go : (entry_of K u.known n ≡ entry_of K was.known n) ⊎ ((h : ℕ) × (entry_of K was.known n ≡ None) × (entry_of K u.known n ≡ Some (begun n h))) → refs.standing_in (entry_of K u.known n) ≡ refs.standing_in (entry_of K was.known n)
      go (inl i) = ap (λ o. refs.standing_in o) i
      go (inr i) = ap (λ o. refs.standing_in o) i.2 ∙ stood_begun n i.0 ∙ sym (ap (λ o. refs.standing_in o) i.1)

  known_on : (n : Name) → IsKnown K was n → IsKnown K u n
  known_on n k = go (entries n)
    where
      go : (entry_of K u.known n ≡ entry_of K was.known n) ⊎ ((h : ℕ) × (entry_of K was.known n ≡ None) × (entry_of K u.known n ≡ Some (begun n h))) → IsKnown K u n
      go (inl i) = (k.0, i ∙ k.1)
      go (inr i) = (begun n i.0, i.2)

  held_on : (z : Value Name) → IsHeld script honest x b was z → IsHeld script honest x b u z
  held_on (Ref n) (inl i) = inl i
  held_on (Ref n) (inr k) = inr (known_on n k)
  held_on other i = tt

  all_held : (zs : List (Value Name)) → AllOf (IsHeld script honest x b was) zs → AllOf (IsHeld script honest x b u) zs
  all_held [] i = tt
  all_held (z ∷ zs) i = (held_on z i.0, all_held zs i.1)

  -- ---- what reacts was never sent

  no_reactions : (n : Name) (h : ℕ) (m : Message Name) → (let k : Known Name = begun n h in IsAmong m k.reactions) → ⊥
  unfolding begun
  no_reactions n h m i = i

  no_held : (n : Name) (h : ℕ) (m : Message Name) → (let k : Known Name = begun n h in IsAmong m k.held) → ⊥
  unfolding begun
  no_held n h m i = i

  some_known : (j k : Known Name) → Some j ≡ Some k → j ≡ k
  some_known j k e = cc

  unsent : (n : Name) (k : Known Name) → entry_of K u.known n ≡ Some k → (m : Message Name) → IsAmong m k.reactions → was_sent m.id (middle x b head u).history ≡ false
  unsent n k e m a = go (entries n)
    where
      go : (entry_of K u.known n ≡ entry_of K was.known n) ⊎ ((h : ℕ) × (entry_of K was.known n ≡ None) × (entry_of K u.known n ≡ Some (begun n h))) → was_sent m.id (middle x b head u).history ≡ false
      go (inl i) = middle_unsent x b head u m.id silent (subst (λ es. AllOf IsQuietLine es) (sym happened) tt)
          (reacting.unsent script g.opened x g.es 1 g.opens g.before b was there m (k, entry_among K was.known n k (sym i ∙ e), a))
      go (inr i) = absurd (no_reactions n i.0 m (subst (λ (j : Known Name). IsAmong m j.reactions) (some_known k (begun n i.0) (sym e ∙ i.2)) a))

  pub holds : Holds script honest x b head u
  holds = record {
    ready = ready;
    there = vats_there script honest x around.stands around.meet around.far b was there u ready settled hosts same_words;
    passes = λ h t other found. can_pass script honest x around.stands around.meet around.far b was there u ready settled hosts same_words h t other found;
    unsent = unsent;
  }

  -- ---- what is held came as the history tells

  agrees : Agrees script b u
  agrees = let a = rest.agrees b was there in record {
    lists = λ done told k vs ws e l. a.lists done told k vs ws (ap (λ ls. slice_get ls k) (sym lists) ∙ e) l;
    settled = λ done told n k z i e. a.settled done told n k z i (sym (standing_same n) ∙ e);
  }

  views : ViewsRest script b u.known
  views = let a = rest.views b was there in record {
    views = λ n v k e f. a.views n v k (sym (standing_same n) ∙ e) (sym (standing_same v) ∙ f);
    last = λ n z e. a.last n z (sym (standing_same n) ∙ e);
    objects = λ n i. standing_same n ∙ a.objects n i;
  }

  members : HoldsMembers script honest x b u
  members k vs e = all_held vs (rest.members b was there k vs (ap (λ ls. slice_get ls k) (sym lists) ∙ e))

  came_so : (n : Name) (k : Known Name) → entry_of K was.known n ≡ Some k → (m : Message Name) → IsAmong m k.held → CameSo script honest x b head (readied x (record was { queue = was.queue })) m
  came_so n k e m a = held_came_so script honest x around b was there k (turned k was.known (entry_among K was.known n k e)) m (turned m k.held a) head was.queue

  at_once : (m : Message Name) → CameSo script honest x b head (readied x (record was { queue = was.queue })) m → Came script honest x b head u m
  unfolding readied
  at_once m c = record {
    coming = c.coming;
    came = subst (λ es. comes b m.id zero (x.history ++ head ++ world.events_of x.links b es) ≡ Some c.coming) (sym happened) c.came;
    args = λ h d done told. what_is_had_came script honest x b h u agrees (views_no_list script b u views) members c.coming.args m.args (subst (λ ls. AreHadAs ls c.coming.args m.args) (sym lists) c.had) (all_held m.args c.held) d done told;
  }

  pub came : HeldCame script honest x b head u
  came n k e m a = go (entries n)
    where
      go : (entry_of K u.known n ≡ entry_of K was.known n) ⊎ ((h : ℕ) × (entry_of K was.known n ≡ None) × (entry_of K u.known n ≡ Some (begun n h))) → Came script honest x b head u m
      go (inl i) = at_once m (came_so n k (sym i ∙ e) m a)
      go (inr i) = absurd (no_held n i.0 m (subst (λ (j : Known Name). IsAmong m j.held) (some_known k (begun n i.0) (sym e ∙ i.2)) a))
