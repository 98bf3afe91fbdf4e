-- A note that a name settled elsewhere is carried by small steps.
use Rattle.std.proofs.Common.{◌≡◌, ℕ, zero, Bool, true, false, List, [], ◌∷◌, ◌++◌, Some, refl, sym, subst, ◌∙◌, ◌⊎◌, inl, inr, eqb-true, eq-eqb}
use Rattle.std.specs.Prelude.{codes, ◌==◌}
use Rattle.def_machine.specs.Values.{Words, Broken, Ref, Name, Naming, host_of}
use Rattle.def_machine.specs.State.{Known, Elsewhere, Unsettled, Settled, Put, Vat, Gives, is_in}
use Rattle.def_machine.specs.Refs as refs
use Rattle.def_machine.specs.Refs.{entry_of}
use Rattle.def_run.specs.World as world
use Rattle.def_run.specs.World.{Script, Carry, Entry, Event, World, Goes, begins, open_from, steps_from, names, readied}
use Rattle.law_fate.specs.Name.Names.{AllOf, names_in}
use Rattle.law_fate.specs.Name.Runs.{KnowsOnce}
use Rattle.law_fate.specs.Fates.WholeFateRuns.{KnowsVats}
use Rattle.law_reference.specs.Reference.Cuts.{NoticesFollowCuts}
use Rattle.law_order.specs.Ordering.Ways.{Lane, Item, IsIn}
use Rattle.law_order.specs.Ordering.Steps.{WaysAmid}
use Rattle.law_order.specs.Arrivals.Tellings.{owned, IsTidy, IsToldOf, IsNoteFor}
use Rattle.law_order.specs.Arrivals.Views.{view_name, asked_vat, seen_vat}
use Rattle.law_order.specs.News.News.{BearsElsewhere}
use Rattle.law_order.proofs.News.Tidiness.{tidy}
use Rattle.law_order.proofs.News.Learnt.{Learnt}
use Rattle.law_order.proofs.News.Elsewhere as far
use Rattle.law_order.proofs.News.Teller as teller
use Rattle.law_order.proofs.News.Teller.{elsewhere}
use Rattle.law_order.proofs.News.ElsewhereRuns as runs
use Rattle.law_order.proofs.News.Home as home
use Rattle.law_order.proofs.News.HomeRuns as near
use Rattle.law_order.specs.History.Lines.{AllQuiet}
use Rattle.law_order.specs.History.Tells.{SmallStep, Tale, over, then_on}
use Rattle.law_order.specs.Tales.Middle.{middle, MovesNone}
use Rattle.law_order.proofs.Tales.Middle.{growing_is_small}
use Rattle.law_order.proofs.NewsTales.Breaks.{breaks_tale}
use Rattle.law_order.proofs.NewsTales.Moving.{learnt_moves, far_moves, home_moves}
use Rattle.law_order.proofs.NewsTales.Told.{stale_tale, told_tale}
use Rattle.law_order.proofs.NewsTales.Turning.{turned_small}
use Rattle.law_order.proofs.NewsTales.Viewing.{stands_good, viewed_leading}

module _ (script : Script) (once : KnowsOnce script) (knows : KnowsVats script) (w x y : World) (es : List Entry) (k a b : ℕ) (n : Name) (follow : NoticesFollowCuts es)
    (o : open_from script zero script.vats (begins script) ≡ Goes w) (e : steps_from script es k w ≡ Goes x) (f : steps_from script (es ++ Carry a b ∷ []) k w ≡ Goes y) (honest : ℕ → Bool) (all : (h : ℕ) → honest h ≡ true) (head : List Event) where
  abbrev K : Naming Name Name
  K = names script b

  module _ (c : ℕ) (h : BearsElsewhere script honest x a b n c) where
    abbrev Was : Vat Name
    Was = h.borne.vat

    abbrev Start : Vat Name
    Start = readied x Was

    abbrev S : Vat Name
    S = (far.learnt script once knows w x y es k a b c n follow o e f honest h).0

    abbrev L : Learnt script x honest b Was n S
    L = far.L script once knows w x y es k a b c n follow o e f honest h

    abbrev T : Vat Name
    T = (far.came script once knows w x y es k a b c n follow o e f honest h).0

    abbrev At : Vat Name → World
    At s = middle x b head s

    -- it is unsettled, or broken
    standing : (L.entry.standing ≡ Unsettled) ⊎ ((p : Words) × (L.entry.standing ≡ Settled (Broken p)))
    standing = far.standing script once knows w x y es k a b c n follow o e f honest h

    -- ---- the name is learnt

    learnt_moved : MovesNone K Start S
    learnt_moved = learnt_moves script b (world.read_name (names_in Was.known) n) n Start S (far.learnt script once knows w x y es k a b c n follow o e f honest h).1

    learnt_small : SmallStep script honest (At Start) (At S)
    learnt_small = growing_is_small script honest x b head Start S L.grown learnt_moved

    pub learnt_then : Tale script honest (At S) (At T) → Tale script honest (At Start) (At T)
    learnt_then t = then_on learnt_small t

    all_tidy : IsTidy script honest x b S
    all_tidy = tidy script once w x es k o e honest b S L.hosts L.ready.ends.objects L.own (subst (λ ps. AllOf (λ (p : Put Name). IsNoteFor p.to p.note) ps) (sym L.empty) tt)

    own_there : (l : Lane) (i : Item) → IsIn i ((WaysAmid script honest x b S).stands l) → owned l i.aim ≡ true
    own_there = stands_good script honest x b S all_tidy

    -- ---- the object is of a third vat

    module _ (third : c ≡ b → ⊥) (live : is_in c S.noticed ≡ false) where
      third_seen : T ≡ seen_vat script b a c n S
      third_seen = (far.saw script once knows w x y es k a b c n follow o e f honest h third live).1

      third_moves : MovesNone K S T
      third_moves = subst (λ t. MovesNone K S t) (sym third_seen) (far_moves script b a c S n)

      third_new : SmallStep script honest (At S) (At T) → Tale script honest (At Start) (At T)
      third_new s = learnt_then (then_on s over)

      pub third_tale : (L.entry.standing ≡ Unsettled) ⊎ ((p : Words) × (L.entry.standing ≡ Settled (Broken p))) → Tale script honest (At Start) (At T)
      third_tale (inl i) = third_new (turned_small script honest all x b head S T third_moves (far.third_own script once knows w x y es k a b c n follow o e f honest h third live i) own_there
          (viewed_leading script honest x b a Was S (asked_vat script b a c n S) T n (view_name script b a c n S) h.borne.there
          (far.asked_grown script once knows w x y es k a b c n follow o e f honest h third live) (far.asked_tidy script once knows w x y es k a b c n follow o e f honest h third live)
          (subst (λ t. IsToldOf script b a (asked_vat script b a c n S) t n (Ref (view_name script b a c n S))) (sym third_seen) (far.seen_told script once knows w x y es k a b c n follow o e f honest h third live i)) (far.new_here script once knows w x y es k a b c n follow o e f honest h third live) third_moves))
      third_tale (inr i) = third_new (growing_is_small script honest x b head S T (far.third_grown script once knows w x y es k a b c n follow o e f honest h third live i.0 i.1) third_moves)

  -- ---- the object is of the receiver itself

  module _ (h : BearsElsewhere script honest x a b n b) (live : is_in b (S b h).noticed ≡ false) where
    home_seen : T b h ≡ home.Saw script b a (S b h) n
    home_seen = (near.saw script once knows w x y es k a b n follow o e f honest h live).1

    home_moved : MovesNone K (S b h) (T b h)
    home_moved = subst (λ t. MovesNone K (S b h) t) (sym home_seen) (home_moves script b a (S b h) n)

    home_new : SmallStep script honest (At b h (S b h)) (At b h (T b h)) → Tale script honest (At b h (Start b h)) (At b h (T b h))
    home_new s = learnt_then b h (then_on s over)

    pub home_tale : ((L b h).entry.standing ≡ Unsettled) ⊎ ((p : Words) × ((L b h).entry.standing ≡ Settled (Broken p))) → Tale script honest (At b h (Start b h)) (At b h (T b h))
    home_tale (inl i) = home_new (turned_small script honest all x b head (S b h) (T b h) home_moved (near.home_own script once knows w x y es k a b n follow o e f honest h live i) (own_there b h)
        (viewed_leading script honest x b a (Was b h) (S b h) (home.Had script b a (S b h) n) (T b h) n (home.Q script b a (S b h) n) h.borne.there
        (near.had_grown script once knows w x y es k a b n follow o e f honest h live) (near.asked_tidy script once knows w x y es k a b n follow o e f honest h live)
        (subst (λ t. IsToldOf script b a (home.Had script b a (S b h) n) t n (Ref (home.Q script b a (S b h) n))) (sym home_seen) (near.seen_told script once knows w x y es k a b n follow o e f honest h live i)) (near.new_here script once knows w x y es k a b n follow o e f honest h live) home_moved))
    home_tale (inr i) = home_new (growing_is_small script honest x b head (S b h) (T b h) (near.home_grown script once knows w x y es k a b n follow o e f honest h live i.0 i.1) home_moved)

  -- ---- the receiver noticed that vat, and the name breaks

  module _ (c : ℕ) (h : BearsElsewhere script honest x a b n c) (silent : AllQuiet head) (gone : is_in c (S c h).noticed ≡ true) where
    abbrev Problem : Words
    Problem = codes "partition"

    gone_ends : refs.settle K n (Broken Problem) (S c h) ≡ Gives tt (T c h)
    gone_ends = runs.ends script once knows w x y es k a b n follow o e f honest c h gone

    gone_empty : (j : Known Name) → entry_of K (Was c h).known n ≡ Some j → (j.held ≡ []) × (j.told ≡ [])
    gone_empty j i = teller.empty script once w x es k o e a b n (Elsewhere n c) elsewhere h.borne j i

    away : host_of n ≡ b → ⊥
    away i = far.other script once knows w x y es k a b c n follow o e f honest h (sym (far.hosted script once knows w x y es k a b c n follow o e f honest h) ∙ i)

    same_target : refs.target_of K (S c h) n (Broken Problem) ≡ Broken Problem
    unfolding refs.target_of
    same_target = refl

    pub gone_tale : ((L c h).entry.standing ≡ Unsettled) ⊎ ((p : Words) × ((L c h).entry.standing ≡ Settled (Broken p))) → Tale script honest (At c h (Start c h)) (At c h (T c h))
    gone_tale (inl i) = learnt_then c h (told_tale script honest all x b a (Was c h) h.borne.there head n (S c h) (L c h) gone_empty (Broken Problem) (Broken Problem) same_target tt (T c h) gone_ends i
        (runs.all_tidy script once knows w x y es k a b n follow o e f honest c h gone i) (runs.told script once knows w x y es k a b n follow o e f honest c h gone i) (runs.gone_first script once knows w x y es k a b n follow o e f honest c h gone i)
        (λ j found stood bare p. breaks_tale script once w x es k follow o e honest all b (Was c h) h.borne.there head silent n away j found stood bare.0 Problem (T c h) p))
    gone_tale (inr i) = learnt_then c h (stale_tale script honest all x b a (Was c h) h.borne.there head n (S c h) (L c h) gone_empty (Broken Problem) (Broken Problem) same_target tt (T c h) gone_ends (Broken i.0) i.1)

  -- ---- whatever vat it is

  at_home : (c : ℕ) (h : BearsElsewhere script honest x a b n c) → b ≡ c → is_in c (S c h).noticed ≡ false → Tale script honest (At c h (Start c h)) (At c h (T c h))
  at_home c h same = subst (λ z. (g : BearsElsewhere script honest x a b n z) → is_in z (S z g).noticed ≡ false → Tale script honest (At z g (Start z g)) (At z g (T z g))) same (λ g live. home_tale g live (standing b g)) h

  false_true : false ≡ true → ⊥
  false_true i = cc

  pub elsewhere_tale : (c : ℕ) (h : BearsElsewhere script honest x a b n c) → AllQuiet head → Tale script honest (At c h (Start c h)) (At c h (T c h))
  elsewhere_tale c h silent = go (is_in c (S c h).noticed) refl (b == c) refl
    where
      go : (q : Bool) → is_in c (S c h).noticed ≡ q → (r : Bool) → (b == c) ≡ r → Tale script honest (At c h (Start c h)) (At c h (T c h))
      go true i r j = gone_tale c h silent i (standing c h)
      go false i true j = at_home c h (eqb-true b c j) i
      go false i false j = third_tale c h (λ z. false_true (sym j ∙ eq-eqb b c (sym z))) i (standing c h)
