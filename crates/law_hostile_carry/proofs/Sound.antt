-- What each honest vat is in each configuration of a run with a hostile vat.
use Rattle.std.proofs.Common.{◌≡◌, ℕ, Bool, true, false, List, [], ◌∷◌, Option, Some, None, refl}
use Rattle.def_machine.specs.Values.{Name, Root, Object, naming, same_reference, Foreign, spot_of}
use Rattle.def_machine.specs.State.{Known, Vat}
use Rattle.def_machine.specs.Refs.{entry_of}
use Rattle.def_run.specs.Draws.{draw_word}
use Rattle.def_run.specs.World.{names}
use Rattle.def_hostile.specs.Hostile.{Play}
use Rattle.law_machine.specs.Machine.Breaks.{FarApart}
use Rattle.law_fate.proofs.Name.SameNames.{reference_is}
use Rattle.law_fate.specs.Fates.Lasting.{Each, NamesObject, NamesNoObject, KnownWell}
use Rattle.law_scenes.proofs.Real.{scenes_are_real}
use Rattle.law_hostile_carry.specs.Sound.{HonestVatsAreSound, FarObjectsAreApart}
use Rattle.law_hostile_carry.proofs.Borne.{real_borne}

pick_other : (b : Bool) (k : Known Name) (o : Option (Known Name)) → (b ≡ true → ⊥) → o ≡ None → ◌≡◌ {A = Option (Known Name)} (elim b [ true ↦ Some k | false ↦ o ]) None
pick_other true k o f e = absurd (f refl)
pick_other false k o f e = e

no_object : (n m : Name) → n ≡ m → NamesObject m → NamesNoObject n → ⊥
no_object n (Object u i) e o g = rw e at g
no_object n other e o g = o

-- an object has no entry where no name known is an object
no_entry : (word : ℕ → ℕ) (v : ℕ) (ks : List (Known Name)) (m : Name) → Each KnownWell ks → NamesObject m → entry_of (naming word v) ks m ≡ None
unfolding entry_of naming
no_entry word v [] m h o = refl
no_entry word v (k ∷ ks) m h o = pick_other (same_reference k.name m) k (entry_of (naming word v) ks m) (λ e. no_object k.name m (reference_is k.name m e) o h.0.name) (no_entry word v ks m h.1 o)

spot_object : (v : ℕ) (m : Name) (h : ℕ) → spot_of v m ≡ Foreign h → NamesObject m
unfolding spot_of
spot_object v (Object u i) h e = tt
spot_object v other h e = cc

-- under names that every vat means the same by
far_apart : (word : ℕ → ℕ) (v : ℕ) (t : Vat Name) → Each KnownWell t.known → FarApart (naming word v) t
unfolding naming
far_apart word v t w m h e = no_entry word v t.known m w (spot_object v m h e)

pub honest_vats_are_sound : HonestVatsAreSound
honest_vats_are_sound play h bad s c v t e o = (real_borne play (Root 0) h bad (scenes_are_real play h bad s c)).vats v t e o

pub far_objects_are_apart : FarObjectsAreApart
unfolding names
far_objects_are_apart play h bad s c v t e o = let p = honest_vats_are_sound play h bad s c v t e o in far_apart (draw_word play.script.key) v t p.well
