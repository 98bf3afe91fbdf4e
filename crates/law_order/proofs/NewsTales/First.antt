-- A name of another vat settles, of which its vat was told: that is a small step, before what waited on it settles.
use Rattle.std.proofs.Common.{◌≡◌, ℕ, Bool, true, List, [], Option, Some, sym, ap, subst, ◌∙◌, ◌⊎◌, inl, inr}
use Rattle.std.specs.Prelude.{slice_get}
use Rattle.def_machine.specs.Values.{Value, Ref, Name, Naming}
use Rattle.def_machine.specs.State.{Known, Unsettled, Settle, Settles, Vat, changed}
use Rattle.def_machine.specs.Refs as refs
use Rattle.def_machine.specs.Refs.{entry_of}
use Rattle.def_run.specs.World.{Script, Event, World, names}
use Rattle.law_fate.specs.Fates.Lasting.{NoPromise}
use Rattle.law_order.specs.Ordering.Ways.{Held, End}
use Rattle.law_order.specs.Ordering.Settle.{aimed_at, settled_to}
use Rattle.law_order.specs.Ordering.Settlings.{with_line}
use Rattle.law_order.specs.Ordering.Steps.{WaysAmid, LeadsAmid}
use Rattle.law_order.specs.Arrivals.Notes.{KeepsAll}
use Rattle.law_order.specs.Arrivals.Tellings.{IsTidy, IsToldOf, told_by}
use Rattle.law_order.proofs.Arrivals.Telling.{told_names_lead}
use Rattle.law_order.proofs.Runs.Beginnings.{named_object}
use Rattle.law_order.proofs.Views.Settling.{IsOpen, settles}
use Rattle.law_order.proofs.News.Home.{own_all}
use Rattle.law_order.proofs.News.Opening.{mine_is, severed_is, no_object}
use Rattle.law_order.specs.History.Tells.{SmallStep}
use Rattle.law_order.specs.Tales.Middle.{middle, MovesNone}
use Rattle.law_order.proofs.NewsTales.Moving.{on, line_moves, settle_moves}
use Rattle.law_order.proofs.NewsTales.Turning.{turned_small}
use Rattle.law_order.proofs.NewsTales.Viewing.{told_either, aimed_held, stands_good}

module _ (script : Script) (honest : ℕ → Bool) (all : (h : ℕ) → honest h ≡ true) (x : World) (b a : ℕ) (was : Vat Name) (there : slice_get x.vats b ≡ Some was) (head : List Event) (n : Name) (s : Vat Name)
    (k : Known Name) (found : entry_of (names script b) s.known n ≡ Some k) (unsettled : k.standing ≡ Unsettled) (empty : k.held ≡ []) (y : Value Name) (last : NoPromise y) where
  abbrev K : Naming Name Name
  K = names script b

  abbrev pub Then : Vat Name
  Then = settled_to K (with_line s (Settles n y)) n y

  same_entry : (j : Known Name) → entry_of K s.known n ≡ Some j → j ≡ k
  same_entry j e = some_is (sym e ∙ found)
    where
      some_is : ◌≡◌ {A = Option (Known Name)} (Some j) (Some k) → j ≡ k
      some_is f = cc

  held_then : (changed (Settle y) k).held ≡ k.held
  held_then = ap (λ (j : Known Name). j.held) (settles y k (subst IsOpen (sym unsettled) tt)) ∙ sym empty

  pub moves : MovesNone K s Then
  moves = let lined : Vat Name = with_line s (Settles n y) in on script b {s = s} {t = lined} {u = Then} (line_moves script b s (Settles n y) tt)
      (settle_moves script b lined y n (λ j e. subst (λ (z : Known Name). (changed (Settle y) z).held ≡ z.held) (sym (same_entry j e)) held_then))

  -- it leads to no name of the vat
  aims_apart : (u : ℕ) (p m : Name) → aimed_at script b Then y ≡ End (Held u p) m → ⊥
  unfolding aimed_at
  aims_apart u p m e = let z : Value Name = refs.severed K Then y in let g = aimed_held b u z (refs.place K Then z) p m e in
      let is : z ≡ Ref p = mine_is K Then p z g.0 in let same : y ≡ Ref p = severed_is K Then p y is in
      no_object script b Then p p (named_object script b p (subst NoPromise same last)) (sym (ap (λ q. refs.place K Then q) is) ∙ g.0)

  module _ (tidy : IsTidy script honest x b s) (told : IsToldOf script b a s Then n y) (keeps : KeepsAll script honest x b s Then) where
    leading : (u : ℕ) (m : Name) → (LeadsAmid script honest x b Then u (Ref m) ≡ LeadsAmid script honest x b s u (Ref m)) ⊎ ((p z : Name) → LeadsAmid script honest x b Then u (Ref m) ≡ End (Held u p) z → (WaysAmid script honest x b Then).stands (Held u p) ≡ [])
    leading u m = go (told_either b n (aimed_at script b Then y) (LeadsAmid script honest x b s u (Ref m)))
      where
        leads : LeadsAmid script honest x b Then u (Ref m) ≡ told_by b n (aimed_at script b Then y) (LeadsAmid script honest x b s u (Ref m))
        leads = told_names_lead script honest x b a was s Then n y there tidy told u (Ref m)

        go : (told_by b n (aimed_at script b Then y) (LeadsAmid script honest x b s u (Ref m)) ≡ LeadsAmid script honest x b s u (Ref m)) ⊎ (told_by b n (aimed_at script b Then y) (LeadsAmid script honest x b s u (Ref m)) ≡ aimed_at script b Then y)
            → (LeadsAmid script honest x b Then u (Ref m) ≡ LeadsAmid script honest x b s u (Ref m)) ⊎ ((p z : Name) → LeadsAmid script honest x b Then u (Ref m) ≡ End (Held u p) z → (WaysAmid script honest x b Then).stands (Held u p) ≡ [])
        go (inl e) = inl (leads ∙ e)
        go (inr e) = inr (λ p z f. absurd (aims_apart u p z (sym (leads ∙ e) ∙ f)))

    pub first_small : SmallStep script honest (middle x b head s) (middle x b head Then)
    first_small = turned_small script honest all x b head s Then moves (own_all script honest x b s Then keeps) (stands_good script honest x b s tidy) leading
