-- A name of another vat breaks, of which its vat was told: what waited on it breaks, and then reactions are queued, all by small steps.
use Rattle.std.proofs.Common.{◌≡◌, ℕ, zero, suc, Bool, true, false, List, [], Some, length, sym, subst, ◌⊎◌, inl, inr}
use Rattle.std.specs.Prelude.{slice_get}
use Rattle.def_machine.specs.Values.{Words, Value, Broken, Name, Naming, host_of}
use Rattle.def_machine.specs.State.{Message, Unsettled, Settled, Known, Settles, Vat, Done, Gives}
use Rattle.def_machine.specs.State as state
use Rattle.def_machine.specs.Refs as refs
use Rattle.def_machine.specs.Refs.{entry_of, standing_of}
use Rattle.def_run.specs.World.{Script, Entry, Event, World, Goes as Going, begins, open_from, steps_from, names, readied}
use Rattle.law_fate.specs.Name.Names.{AllOf, IsAmong}
use Rattle.law_fate.specs.Name.Runs.{KnowsOnce}
use Rattle.law_fate.proofs.Name.Facts.{all_append}
use Rattle.law_reference.specs.Reference.Cuts.{NoticesFollowCuts}
use Rattle.law_order.specs.Ordering.Settlings.{with_line}
use Rattle.law_order.specs.Ordering.Worlds.{IfGives}
use Rattle.law_order.specs.Views.Wholes.{SettlesLed}
use Rattle.law_order.proofs.Views.Settling.{IsOpen}
use Rattle.law_order.specs.Waits.Answers.{IsWaitOf}
use Rattle.law_order.specs.Notices.Notices.{IsReacting}
use Rattle.law_order.proofs.Notices.Sinking.{Sound, Sinks, sinks_line, sinks_then, stands_then, sound_then, breaks_sinks, down}
use Rattle.law_order.proofs.Notices.Sinkings.{Goes, Fit, IsDown, MayBreak, waiter_may, waits, queues, breaks}
use Rattle.law_order.proofs.Notices.Soundness.{sound_in, ready_sound}
use Rattle.law_order.proofs.News.Waiters.{ready_then}
use Rattle.law_order.specs.History.Lines.{AllQuiet, was_sent}
use Rattle.law_order.specs.History.Tells.{SmallStep, Tale, over, then_on}
use Rattle.law_order.specs.Tales.Middle.{middle, IsQuietLine}
use Rattle.law_order.proofs.NoticeTales.Small.{all_quiet}
use Rattle.law_order.proofs.NoticeTales.Unsent.{unsent}
use Rattle.law_order.proofs.NewsTales.Parts.{Parts, middle_unsent}
use Rattle.law_order.proofs.NewsTales.Parts as parts
use Rattle.law_order.proofs.NewsTales.Sunk.{sunk_small}

module _ (script : Script) (once : KnowsOnce script) (w x : World) (es : List Entry) (k : ℕ) (follow : NoticesFollowCuts es) (o : open_from script zero script.vats (begins script) ≡ Going w) (e : steps_from script es k w ≡ Going x)
    (honest : ℕ → Bool) (all : (h : ℕ) → honest h ≡ true) (b : ℕ) (was : Vat Name) (there : slice_get x.vats b ≡ Some was) (head : List Event) (silent : AllQuiet head) (n : Name) (away : host_of n ≡ b → ⊥)
    (j : Known Name) (found : entry_of (names script b) was.known n ≡ Some j) (unsettled : j.standing ≡ Unsettled) (empty : j.held ≡ []) (problem : Words) where
  abbrev K : Naming Name Name
  K = names script b

  abbrev Y : Value Name
  Y = Broken problem

  abbrev Start : Vat Name
  Start = readied x was

  abbrev Then : Vat Name
  Then = parts.Then K Start n Y j

  abbrev P : Message Name → Type 0
  P m = IsReacting was m

  abbrev At : Vat Name → World
  At s = middle x b head s

  sound : Sound K P b Start
  sound = ready_sound script P x b was (sound_in script once w x es k follow o e b was there)

  open_still : IsOpen j.standing
  open_still = subst IsOpen (sym unsettled) tt

  -- ---- the name breaks

  sinks : Sinks K P Y Start Then
  unfolding readied
  sinks = let line : Vat Name = with_line Start (Settles n Y) in sinks_then K P Y Start line Then (sinks_line K P Y Start (Settles n Y) tt) (breaks_sinks script P b line n problem j found open_still)

  fit : Fit script honest x b was there P problem Then
  fit = (sound_then K P Y b tt Start Then sinks sound, ready_then script once w x es k follow o e honest all b was there n away j found unsettled empty Y tt tt)

  is_down : IsDown script honest x b was there P problem n Then
  unfolding readied
  is_down = down script P b (with_line Start (Settles n Y)) n problem j found open_still

  may : (q : Name) → IsAmong q j.waiting → MayBreak script honest x b was there P problem q Then
  unfolding readied
  may q a = waiter_may script honest x b was there P problem Then n q is_down (go (stands_then K P Y Start Then sinks q))
    where
      waited : IsWaitOf n (standing_of K Start.known q)
      waited = sound.waits n j q found a

      go : (standing_of K Then.known q ≡ standing_of K Start.known q) ⊎ (standing_of K Then.known q ≡ Settled Y) → IsWaitOf n (standing_of K Then.known q)
      go (inl f) = subst (IsWaitOf n) (sym f) waited
      go (inr f) = subst (IsWaitOf n) (sym f) tt

  -- ---- what waited on it, and reacts

  abbrev Depth : ℕ
  Depth = suc (length Start.known)

  abbrev To : Vat Name → Vat Name → Type 0
  To s t = Goes script honest x b was there P problem s t

  waits_go : IfGives (To Then) (state.each (λ q. refs.settle_at K Depth q Y) j.waiting Then)
  waits_go = (waits script honest x b was there P problem (λ q s. SettlesLed script honest x b Y Depth q s) (λ q z. refs.settle_at K Depth q z) (breaks script honest x b was there P problem Depth) n j.waiting Then fit is_down may).1

  reacts_go : (s : Vat Name) → IfGives (To s) (state.each state.enqueue j.reactions s)
  unfolding readied
  reacts_go s = queues script honest x b was there P problem j.reactions s (sound.known n j found).reacts

  goes_at : (s t : Vat Name) (d : Done Name (Unit {0})) → d ≡ Gives tt t → IfGives (To s) d → To s t
  goes_at s t d f h = subst (λ z. IfGives (To s) z) f h

  -- ---- by small steps

  quiet_then : AllOf IsQuietLine Then.happened
  unfolding readied
  quiet_then = (tt, tt)

  unsent_at : (s : Vat Name) → AllOf IsQuietLine s.happened → (m : Message Name) → P m → was_sent m.id (At s).history ≡ false
  unsent_at s q m h = middle_unsent x b head s m.id silent q (unsent script w x es k o e b was there m h)

  quiet_on : (s t : Vat Name) → To s t → AllOf IsQuietLine s.happened → AllOf IsQuietLine t.happened
  quiet_on s t g q = let l = g.0.lines in subst (λ fs. AllOf IsQuietLine fs) (sym l.1) (all_append IsQuietLine s.happened l.0 q (all_quiet l.0 l.2))

  small : (s t : Vat Name) → To s t → AllOf IsQuietLine s.happened → SmallStep script honest (At s) (At t)
  small s t g q = sunk_small script honest x b was there head P problem s t g.0 g.1.1 (unsent_at s q)

  -- what reacted on it is queued, wherever the vat has come to
  pub reacts_tale : (s t : Vat Name) → AllOf IsQuietLine s.happened → state.each state.enqueue j.reactions s ≡ Gives tt t → Tale script honest (At s) (At t)
  reacts_tale s t q f = then_on (small s t (goes_at s t (state.each state.enqueue j.reactions s) f (reacts_go s)) q) over

  pub breaks_tale : (t : Vat Name) → Parts K Start n Y j t → Tale script honest (At Then) (At t)
  breaks_tale t p =
      let one : To Then p.between = goes_at Then p.between (state.each (λ q. refs.settle_at K Depth q Y) j.waiting Then) p.waits waits_go in
      then_on (small Then p.between one quiet_then) (reacts_tale p.between t (quiet_on Then p.between one quiet_then) p.reacts)
