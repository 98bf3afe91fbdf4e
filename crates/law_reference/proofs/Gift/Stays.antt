-- Gifts keep their places and stay opened, by every step and by every run.
use Rattle.std.proofs.Common.{◌≡◌, ℕ, zero, suc, Bool, true, false, List, [], ◌∷◌, ◌++◌, Some, refl, ◌∙◌}
use Rattle.std.specs.Prelude.{slice_get}
use Rattle.def_machine.specs.Values.{Naming}
use Rattle.def_machine.specs.State.{GiftEntry, Vat, is_gift, with_opened}
use Rattle.def_run.specs.World.{Script, Program, Entry, World, Goes, readied, names, open_from, steps_from}
use Rattle.law_machine.specs.Machine.Steps.{Step, does, After}
use Rattle.law_machine.proofs.Machine.Keeps.{IsKept, IsKeptUnder}
use Rattle.law_machine.proofs.Machine.StepLaws.{kept_by_steps, get_append}
use Rattle.law_machine.specs.Run.Runs.{EachVat}
use Rattle.law_machine.proofs.Run.RunKeeps.{IsKeptInRuns, each_kept, run_keeps, opens_keep}
use Rattle.law_reference.specs.Gift.Gifts.{IsLater, SameGifts}

later_self : {N : Type 0} (g : GiftEntry N) → IsLater g g
later_self g = record { name = refl; provider = refl; number = refl; opened = λ e. e }

later_on : {N : Type 0} (f g h : GiftEntry N) → IsLater f g → IsLater g h → IsLater f h
later_on f g h a b = record { name = b.name ∙ a.name; provider = b.provider ∙ a.provider; number = b.number ∙ a.number; opened = λ e. b.opened (a.opened e) }

later_opened : {N : Type 0} (g : GiftEntry N) → IsLater g (record g { opened = true })
later_opened g = record { name = refl; provider = refl; number = refl; opened = λ e. refl }

-- each gift of the first list is in the second, at its place
abbrev Lasts : {N : Type 0} → List (GiftEntry N) → List (GiftEntry N) → Type 0
Lasts {N} gs hs = (i : ℕ) (g : GiftEntry N) → slice_get gs i ≡ Some g → (h : GiftEntry N) × (slice_get hs i ≡ Some h) × IsLater g h

lasts_self : {N : Type 0} (gs : List (GiftEntry N)) → Lasts gs gs
lasts_self gs i g e = (g, e, later_self g)

lasts_added : {N : Type 0} (gs hs : List (GiftEntry N)) → Lasts gs (gs ++ hs)
lasts_added gs hs i g e = (g, get_append gs hs i g e, later_self g)

some_is : {A : Type 0} (x y : A) → Some x ≡ Some y → x ≡ y
some_is x y e = cc

lasts_cons : {N : Type 0} (g0 h0 : GiftEntry N) (gs hs : List (GiftEntry N)) → IsLater g0 h0 → Lasts gs hs → Lasts (g0 ∷ gs) (h0 ∷ hs)
lasts_cons g0 h0 gs hs a h zero g e = (h0, refl, rw (some_is g0 g e) at a)
lasts_cons g0 h0 gs hs a h (suc i) g e = h i g e

lasts_either : {N : Type 0} (b : Bool) (g : GiftEntry N) (gs hs : List (GiftEntry N)) → Lasts gs hs → Lasts (g ∷ gs) (elim b [ true ↦ record g { opened = true } ∷ gs | false ↦ g ∷ hs ])
lasts_either true g gs hs h = lasts_cons g (record g { opened = true }) gs gs (later_opened g) (lasts_self gs)
lasts_either false g gs hs h = lasts_cons g g gs hs (later_self g) h

lasts_opened : {N : Type 0} (p i : ℕ) (gs : List (GiftEntry N)) → Lasts gs (with_opened p i gs)
unfolding with_opened
lasts_opened p i [] = lasts_self []
lasts_opened p i (g ∷ gs) = lasts_either (is_gift p i g) g gs (with_opened p i gs) (lasts_opened p i gs)

lasts_on : {N : Type 0} (fs gs hs : List (GiftEntry N)) → Lasts fs gs → Lasts gs hs → Lasts fs hs
lasts_on fs gs hs a b i f e = let g = a i f e in let h = b i g.0 g.1 in (h.0, h.1, later_on f g.0 h.0 g.2 h.2)

pub gifts_law : {N : Type 0} → IsKept {N = N} SameGifts
gifts_law = record {
  same = λ s. lasts_self s.gifts;
  trans = λ {s} {t} {u} h k. lasts_on s.gifts t.gifts u.gifts h k;
  fuel = λ s n. lasts_self s.gifts;
  happened = λ s e. lasts_self s.gifts;
  activations = λ s. lasts_self s.gifts;
  thing = λ s x. lasts_self s.gifts;
  killed = λ s n. lasts_self s.gifts;
  slot = λ s c. lasts_self s.gifts;
  written = λ s n v. lasts_self s.gifts;
  list = λ s vs. lasts_self s.gifts;
  queue = λ s m. lasts_self s.gifts;
  outbox = λ s n. lasts_self s.gifts;
  gift = λ s g. lasts_added s.gifts (g ∷ []);
  opened = λ s p i. lasts_opened p i s.gifts;
  noticed = λ s w. lasts_self s.gifts;
  drawn = λ s w. lasts_self s.gifts;
}

pub gifts_names : {N W : Type 0} (K : Naming N W) → IsKeptUnder K SameGifts
gifts_names K = record {
  altered = λ s c n. lasts_self s.gifts;
  came = λ s c h. lasts_self s.gifts;
  mailed = λ s c. lasts_self s.gifts;
  lone = λ s id. lasts_self s.gifts;
  promised = λ s. lasts_self s.gifts;
  messaged = λ s h id. lasts_self s.gifts;
}

pub gifts_stay : {N W : Type 0} (K : Naming N W) (step : Step N W) (s : Vat N) → After SameGifts s (does K step s)
gifts_stay K = kept_by_steps K SameGifts gifts_law (gifts_names K)

gifts_in_runs : (script : Script) → IsKeptInRuns script (λ v. SameGifts)
unfolding readied
gifts_in_runs script = record {
  same = λ v s. lasts_self s.gifts;
  trans = λ v s t u h k. lasts_on s.gifts t.gifts u.gifts h k;
  steps = λ v what s. gifts_stay (names script v) what s;
  ready = λ v w s. lasts_self s.gifts;
  taken = λ v s ms. lasts_self s.gifts;
}

pub gifts_run : (script : Script) (es : List Entry) (k : ℕ) (w x : World) → steps_from script es k w ≡ Goes x → EachVat (λ v. SameGifts) w x
gifts_run script = run_keeps script (EachVat (λ v. SameGifts)) (each_kept script (λ v. SameGifts) (gifts_in_runs script))

pub gifts_open : (script : Script) (v : ℕ) (ps : List Program) (w x : World) → open_from script v ps w ≡ Goes x → EachVat (λ v. SameGifts) w x
gifts_open script = opens_keep script (EachVat (λ v. SameGifts)) (each_kept script (λ v. SameGifts) (gifts_in_runs script))
