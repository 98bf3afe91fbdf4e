-- A note that opens a gift is carried by small steps, in every run of a script that is read.
use Rattle.std.proofs.Common.{◌≡◌, ℕ, zero, suc, Bool, true, false, List, [], ◌∷◌, ◌++◌, Some, refl, sym, ap, subst, ◌∙◌, ◌⊎◌, inl, inr, ◌&&◌, ◌||◌}
use Rattle.std.specs.Prelude.{slice_get}
use Rattle.def_machine.specs.Values.{Broken, Words, Name, Gift, Ref, Naming, same_name}
use Rattle.def_machine.specs.State.{Unsettled, Settled, Open, GiftEntry, Vat, Done, Gives, with_opened}
use Rattle.def_machine.specs.Refs as refs
use Rattle.def_machine.specs.Refs.{entry_of, standing_of}
use Rattle.def_run.specs.World as world
use Rattle.def_run.specs.World.{Script, Carry, Event, Carried, World, names, names_of, read_note, readied, step_number}
use Rattle.law_machine.proofs.Run.Honest.{honest_reached}
use Rattle.law_fate.specs.Name.Names.{AllOf, IsAmong, HostIsTrue}
use Rattle.law_fate.specs.Name.Runs.{KnowsOnce}
use Rattle.law_fate.proofs.Name.Facts.{all_map}
use Rattle.law_fate.specs.Fates.Sound.{KnownSound}
use Rattle.law_reference.proofs.Gift.Opened.{IsOpenedBy, opens}
use Rattle.law_reference.proofs.Gift.Runs.{all_named, stepped_well}
use Rattle.law_reference.specs.Reference.Cuts.{NoticesFollowCuts}
use Rattle.law_reference.specs.Reference.ListRingless.{IsNamed}
use Rattle.law_reference.proofs.Reference.Gentle.{AfterGives}
use Rattle.law_order.proofs.ToldOnce.Opens.{opened_gifts_are_new}
use Rattle.law_order.specs.Ordering.Places.{opened_there, gift_place}
use Rattle.law_order.specs.Ordering.Steps.{Ready}
use Rattle.law_order.specs.Ordering.Ways.{Way, Mid}
use Rattle.law_order.proofs.Ordering.Named.{same_self}
use Rattle.law_order.proofs.Ordering.Sends.{get_put}
use Rattle.law_order.specs.Asks.Asks.{Bears}
use Rattle.law_order.proofs.Cuts.Reached.{first_opens_let_go}
use Rattle.law_order.proofs.Runs.Beginnings.{each_all}
use Rattle.law_order.proofs.Steady.Facts as facts
use Rattle.law_order.proofs.Steady.Starts.{of_all}
use Rattle.law_order.proofs.Steady.Steady.{Steady}
use Rattle.law_order.specs.History.Lines.{counts, AllQuiet}
use Rattle.law_order.specs.History.Tells.{Tale, over, then_on}
use Rattle.law_order.specs.History.Told.{IsOfRun, entered}
use Rattle.law_order.specs.Tales.Entries.{GoesBy}
use Rattle.law_order.specs.Tales.Middle.{middle}
use Rattle.law_order.proofs.Tales.Arriving.{Bare, Arrival, ended_is, step_is}
use Rattle.law_order.proofs.Tales.Begun.{begin_small, ended, end_small}
use Rattle.law_order.proofs.Sending.Around.{stands_in}
use Rattle.law_order.specs.Settling.Holding.{Holds, HeldCame, VatsAreSound}
use Rattle.law_order.proofs.Settling.Acts.{tale_then}
use Rattle.law_order.proofs.Settling.Sound.{vats_are_sound}
use Rattle.law_order.specs.OpenTales.Tales.{OpensAreTales}
use Rattle.law_order.proofs.OpenTales.Grown.{Stands}
use Rattle.law_order.proofs.OpenTales.Holding as holding
use Rattle.law_order.proofs.OpenTales.Knows as knows
use Rattle.law_order.proofs.OpenTales.Knows.{Has}
use Rattle.law_order.proofs.OpenTales.Leaving.{note_leaves}
use Rattle.law_order.proofs.OpenTales.Resolved.{resolved_tale}
use Rattle.law_order.proofs.OpenTales.Rested.{rested_tale}
use Rattle.law_order.proofs.OpenTales.Steadies.{opened_steady}

open_quiet : (k a b i : ℕ) (n : Name) (bytes : List ℕ) → AllQuiet (Carried k a b (Open i n) bytes ∷ [])
unfolding counts
open_quiet k a b i n bytes = (refl, tt)

-- a gift of that name that stands there opened
flagged : (gs : List (GiftEntry Name)) (k : ℕ) (z : GiftEntry Name) (m : Name) → slice_get gs k ≡ Some z → z.name ≡ m → z.opened ≡ true → opened_there m gs ≡ true
unfolding opened_there
flagged [] k z m e f o = cc
flagged (u ∷ gs) zero z m e f o = here u (let same : u ≡ z = cc in ap (λ (q : GiftEntry Name). q.name) same ∙ f) (let same : u ≡ z = cc in ap (λ (q : GiftEntry Name). q.opened) same ∙ o)
  where
    both : (c d e : Bool) → c ≡ true → d ≡ true → ((c && d) || e) ≡ true
    both true true e i j = refl
    both true false e i j = absurd (cc)
    both false d e i j = absurd (cc)

    here : (q : GiftEntry Name) → q.name ≡ m → q.opened ≡ true → ((same_name q.name m && q.opened) || opened_there m gs) ≡ true
    here q i j = both (same_name q.name m) q.opened (opened_there m gs) (ap (λ v. same_name v m) i ∙ same_self m) j
flagged (u ∷ gs) (suc k) z m e f o = more (same_name u.name m && u.opened) (opened_there m gs) (flagged gs k z m e f o)
  where
    more : (c d : Bool) → d ≡ true → (c || d) ≡ true
    more true d i = refl
    more false d i = i

module _ (script : Script) (once : KnowsOnce script) (follow : NoticesFollowCuts script.schedule) (honest : ℕ → Bool) (all : (u : ℕ) → honest u ≡ true) (x y : World) (a b i : ℕ) (n : Name) (g : GoesBy script (Carry a b) x y) (h : Bears x a b (Open i n)) where
  abbrev K : Naming Name Name
  K = names script b

  abbrev Was : Vat Name
  Was = h.vat

  abbrev Start : Vat Name
  Start = readied x Was

  abbrev Head : List Event
  Head = knows.Head script once follow honest x y a b i n g h

  abbrev G : Name
  G = Gift b i

  of_run : IsOfRun script x
  of_run = entered g.es (Carry a b ∷ g.rest) g.opened g.split g.opens g.before

  its : Has script once follow honest x y a b i n g h
  its = knows.has script once follow honest x y a b i n g h

  abbrev S : Vat Name
  S = its.s

  abbrev Opened : Vat Name
  Opened = record S { gifts = with_opened a i S.gifts }

  abbrev At : Vat Name → World
  At t = middle x b Head t

  silent : AllQuiet Head
  silent = open_quiet g.number a b i n _

  -- ---- what the vat has

  empty : S.outbox ≡ []
  unfolding readied
  empty = its.more.outbox

  entries : (m : Name) → Stands script honest x b Head m (entry_of K Was.known m) (entry_of K Opened.known m)
  unfolding readied
  entries m = its.more.entries m

  told : S.happened ≡ []
  unfolding readied
  told = its.more.happened

  words : S.drawn ≡ x.drawn
  unfolding readied
  words = its.more.drawn

  lists : S.lists ≡ Was.lists
  unfolding readied
  lists = its.more.lists

  hosts : AllOf HostIsTrue S.known
  hosts = all_map {P = KnownSound b} {Q = HostIsTrue} (λ k q. q.host) S.known (each_all (KnownSound b) S.known its.steady.sound.names)

  steady_then : Steady script x b (of_all []) (λ z. 0) Opened
  steady_then = opened_steady script x b (of_all []) (λ z. 0) S its.steady a i

  ready : Ready script honest x b Opened
  ready = facts.ready script x b honest (of_all []) (λ z. 0) Opened steady_then

  holds : Holds script honest x b Head Opened
  holds = holding.holds script once honest all x y of_run (Carry a b) g b Was h.there Head silent Opened entries told lists words hosts ready

  came : HeldCame script honest x b Head Opened
  came = holding.came script once honest all x y of_run (Carry a b) g b Was h.there Head silent Opened entries told lists words hosts ready

  stood : standing_of K S.known G ≡ standing_of K Was.known G
  stood = holding.standing_same script once honest all x y of_run (Carry a b) g b Was h.there Head silent Opened entries told lists words hosts ready G

  first : gift_place script honest b i x.links ≡ Mid (Way a b) [] n
  first = first_opens_let_go script honest x a b h.link i n h.rest ((honest_reached script).1 g.opened x g.es 1 g.opens g.before) (all a) (all b) h.found h.first

  -- ---- the gift is resolved

  calm : (standing_of K Was.known G ≡ Unsettled) ⊎ ((p : Words) × (standing_of K Was.known G ≡ Settled (Broken p)))
  calm = (opened_gifts_are_new script once).1 g.opened x g.es 1 g.opens g.before a b Was h.link h.there h.found i n (subst (λ ns. IsAmong (Open i n) ns) (sym h.first) (inl refl))

  entry_stood : its.known.0.standing ≡ standing_of K S.known G
  unfolding standing_of refs.standing_in
  entry_stood = sym (ap (λ z. refs.standing_in z) its.known.1)

  sound : VatsAreSound script x
  sound = vats_are_sound script x (stands_in script once x of_run)

  gift_tale : (t : Vat Name) → refs.resolve K G (Ref n) Opened ≡ Gives tt t → Tale script honest (At S) (At t)
  gift_tale t e = go calm
    where
      go : (standing_of K Was.known G ≡ Unsettled) ⊎ ((p : Words) × (standing_of K Was.known G ≡ Settled (Broken p))) → Tale script honest (At S) (At t)
      go (inl f) = resolved_tale script honest all x a b i n h Head S empty first its.entry its.kept its.named its.known.0 its.known.1 (entry_stood ∙ stood ∙ f) its.learnt (of_all []) (λ z. 0) its.steady sound holds came t e
      go (inr f) = rested_tale script honest all x a b i n h Head S empty first its.entry its.kept its.named its.known.0 its.known.1 (Broken f.0) (entry_stood ∙ stood ∙ f.1) t e

  inner : (t : Vat Name) → Arrival script honest x a b (Open i n) h ≡ Gives tt t → Tale script honest (At Start) (At t)
  inner t e = tale_then script honest (At Start) (At S) (At t) its.more.tale (gift_tale t (sym its.comes ∙ e))

  -- ---- and then the note leaves

  abbrev Without : World
  Without = Bare script honest x a b (Open i n) h

  gives_given : (P : Vat Name → Type 0) (d : Done Name (Unit {0})) (t : Vat Name) → AfterGives P d → d ≡ Gives tt t → P t
  gives_given P d t q e = rw e at q

  opened_by : (t : Vat Name) → Arrival script honest x a b (Open i n) h ≡ Gives tt t → IsOpenedBy a i t.gifts
  unfolding read_note
  opened_by t e = gives_given (λ u. IsOpenedBy a i u.gifts) (Arrival script honest x a b (Open i n) h) t (opens K a i (world.read_name (names_of Was) n) Start) e

  named : (t : Vat Name) → ended Without b Head t ≡ y → AllOf (IsNamed b) t.gifts
  named t same = let there : slice_get y.vats b ≡ Some t = subst (λ (z : World). slice_get z.vats b ≡ Some t) same (get_put x.vats b Was t h.there) in
      (stepped_well script once g.opened y (g.es ++ Carry a b ∷ []) 1 g.opens g.after b t there).3

  flag : (t : Vat Name) → Arrival script honest x a b (Open i n) h ≡ Gives tt t → ended Without b Head t ≡ y → opened_there G t.gifts ≡ true
  flag t e same = let o = opened_by t e in flagged t.gifts o.0 o.1 G o.2 (all_named b t.gifts o.0 o.1 (named t same) o.2 ∙ ap (λ j. Gift b j) o.4) o.5

  opens_then : (t : Vat Name) → Arrival script honest x a b (Open i n) h ≡ Gives tt t → ended Without b Head t ≡ y → Tale script honest x y
  opens_then t e same = then_on (begin_small script honest x b Head Was h.there silent)
      (tale_then script honest (At Start) (At t) y (inner t e)
      (then_on (note_leaves script honest x a b i n h t (flag t e same) Head)
      (subst (λ z. Tale script honest (middle Without b Head t) z) same (then_on (end_small script honest Without b Head t) over))))

  opens_tale : Tale script honest x y
  opens_tale = let end = ended_is Without y b Head (step_number script g.number) (Arrival script honest x a b (Open i n) h) (sym (step_is script honest x a b (Open i n) h g.number) ∙ g.goes) in opens_then end.0 end.1 end.2

pub opens_are_tales : OpensAreTales
opens_are_tales script once vats follow honest all i n x y a b g h = opens_tale script once follow honest all x y a b i n g h
