-- Opening turns are made of small steps in every run, where of each what more is kept is shown.
use Rattle.std.proofs.Common.{◌≡◌, ℕ, zero, ◌+◌, ◌≤◌, Bool, true, List, [], ◌∷◌, ◌++◌, Option, Some, None, length, refl, sym, ap, subst, ◌∙◌, arith}
use Rattle.std.specs.Prelude.{slice_get}
use Rattle.def_machine.specs.Values.{Name, Promise, Root, naming, name_of}
use Rattle.def_machine.specs.State.{Astray, Resolver, Vat, Gives}
use Rattle.def_machine.specs.Eval.{opening}
use Rattle.def_run.specs.World as world
use Rattle.def_run.specs.World.{Script, Program, World, Goes, names, readied}
use Rattle.law_frozen.specs.Frozen.{IsPromised, ThingWell}
use Rattle.law_frozen.proofs.RunSound.{WorldSound, begins_sound, opens_sound}
use Rattle.law_fate.specs.Name.Runs.{KnowsOnce}
use Rattle.law_fate.proofs.Name.Among.{get_put}
use Rattle.law_fate.proofs.Name.SameNames.{at_all}
use Rattle.law_fate.specs.Fates.WholeFateRuns.{KnowsVats}
use Rattle.law_reference.specs.Reference.Cuts.{NoticesFollowCuts}
use Rattle.law_reference.proofs.Reference.Moves.{get_mid, opens_end}
use Rattle.law_order.specs.History.Tells.{Tale}
use Rattle.law_order.specs.Tales.Entries.{OpeningsAreTales, OfScripts}
use Rattle.law_order.proofs.Tales.Begun.{ended}
use Rattle.law_order.proofs.TurnTales.ByTurns.{same_world}
use Rattle.law_order.proofs.TurnTales.OpenRuns.{Kept, open_head_of, opening_goes}
use Rattle.law_order.proofs.TurnTales.Steps.{open_is, opening_tale}

module _ (script : Script) (once : KnowsOnce script) (honest : ℕ → Bool) (all : (u : ℕ) → honest u ≡ true) (ps rest : List Program) (p : Program) (w y : World) (split : script.vats ≡ ps ++ p ∷ rest) (opened : world.open_from script zero ps (world.begins script) ≡ Goes w) (opens : world.open_vat script (length ps) p w ≡ Goes y) where
  abbrev V : ℕ
  V = length ps

  pub at : slice_get script.vats V ≡ Some p
  at = ap (λ us. slice_get us V) split ∙ get_mid ps p rest

  pub no_less : V ≤ V
  no_less = omega arith

  from_zero : V ≡ zero + V
  from_zero = omega arith

  module _ (s : Vat Name) (there : slice_get w.vats V ≡ Some s) where
    -- what is to be shown of the opening turn, which ended in that state
    abbrev pub Shown : Vat Name → Type 1
    Shown t = Kept script once honest all ps (p ∷ rest) w split opened V no_less s there p at t

    module _ (shown : (t : Vat Name) → slice_get y.vats V ≡ Some t → Shown t) where
      module _ (t : Vat Name) (e : opening (names script V) p.tree script.depth (Root V) (world.given script.vats p.knows) (readied w s) ≡ Gives tt t) where
        is_end : ended w V (open_head_of V) t ≡ y
        unfolding world.put_back
        is_end = same_world (ended w V (open_head_of V) t) y (sym (ap (world.put_back V w (open_head_of V) V) e) ∙ (sym (open_is script honest w V s there p) ∙ opens))

        at_end : slice_get y.vats V ≡ Some t
        at_end = subst (λ (z : World). slice_get z.vats V ≡ Some t) is_end (get_put w.vats V s t there)

        sound : WorldSound script y
        sound = opens_sound script zero (ps ++ p ∷ []) (world.begins script) y (begins_sound script) (opens_end script ps p zero (world.begins script) w y opened (subst (λ z. world.open_vat script z p w ≡ Goes y) from_zero opens))

        promise_of : (q : Name) → IsPromised (names script V) q → (j : ℕ) × (q ≡ Promise V j)
        unfolding names naming name_of
        promise_of q h = (h.0, h.2)

        resolvers : (i : ℕ) (q : Name) → slice_get t.things i ≡ Some (Resolver q) → (j : ℕ) × (q ≡ Promise V j)
        resolvers i q f = let z = sound.vats V t at_end in promise_of q (at_all (ThingWell (names script V) t.things t.lists) t.things i (Resolver q) z.things f)

      pub opening_by : Tale script honest w y
      opening_by = opening_tale script honest w V s there p (λ t e. opening_goes script once honest all ps (p ∷ rest) w split opened V no_less s there p at t (shown t (at_end t e)) (resolvers t e) p.tree script.depth e) y opens

  -- the vat is there
  none_opens : slice_get w.vats V ≡ None → ⊥
  unfolding world.open_vat world.within
  none_opens e = apart (sym (ap (λ o. world.within V w (open_head_of V) V (opening (names script V) p.tree script.depth (Root V) (world.given script.vats p.knows)) o) e) ∙ opens)
    where
      apart : world.Stopped Astray V w ≡ Goes y → ⊥
      apart f = cc

  pub opening_all : ((s : Vat Name) (there : slice_get w.vats V ≡ Some s) (t : Vat Name) → slice_get y.vats V ≡ Some t → Shown s there t) → Tale script honest w y
  opening_all shown = go (slice_get w.vats V) refl
    where
      go : (o : Option (Vat Name)) → slice_get w.vats V ≡ o → Tale script honest w y
      go (Some s) e = opening_by s e (shown s e)
      go None e = absurd (none_opens e)

-- What is to be shown of every opening turn of every script that is read.
abbrev pub OpeningsAreShown : Type 1
OpeningsAreShown = (script : Script) (once : KnowsOnce script) → KnowsVats script → NoticesFollowCuts script.schedule → (honest : ℕ → Bool) (all : (u : ℕ) → honest u ≡ true) (ps rest : List Program) (p : Program) (w y : World) (split : script.vats ≡ ps ++ p ∷ rest) (opened : world.open_from script zero ps (world.begins script) ≡ Goes w)
    (opens : world.open_vat script (length ps) p w ≡ Goes y) (s : Vat Name) (there : slice_get w.vats (length ps) ≡ Some s) (t : Vat Name) → slice_get y.vats (length ps) ≡ Some t → Shown script once honest all ps rest p w y split opened opens s there t

pub openings_by : OpeningsAreShown → OfScripts OpeningsAreTales
openings_by shown script once vats follow honest all ps rest p w y split opened opens = opening_all script once honest all ps rest p w y split opened opens (shown script once vats follow honest all ps rest p w y split opened opens)
