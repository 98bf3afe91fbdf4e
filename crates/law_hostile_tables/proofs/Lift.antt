-- What holds of each honest vat at the start, and is kept by each of its steps, holds of it in each world of a run in which a vat is hostile.
use Rattle.std.proofs.Common.{◌≡◌, ℕ, false, List, ◌∷◌, Some, refl, sym, subst, ◌⊎◌, inl, inr}
use Rattle.std.specs.Prelude.{slice_get}
use Rattle.def_machine.specs.Values.{Name}
use Rattle.def_machine.specs.State.{Note, Vat, Gives}
use Rattle.def_machine.specs.Arrive.{arrive}
use Rattle.def_machine.specs.Receive.{receive}
use Rattle.def_run.specs.World as world
use Rattle.def_run.specs.World.{CutLink, Link, World, Goes, put_at, link_at, with_link, with_notes, names, names_of, read_note, readied}
use Rattle.def_hostile.specs.Hostile.{Play}
use Rattle.law_machine.specs.Machine.Steps.{Step, Receives, does}
use Rattle.law_machine.specs.Run.Moves.{IsAlone, Does, Moved, Still, Severs, Drops, Steps, Arrives, Hears, Tells, AnyNotice, went, without}
use Rattle.law_machine.proofs.Run.Told.{moves_told}
use Rattle.law_adversary.specs.Moves.{FrameMove, Usual, Recorded, Framed, Received, entered_at, sight_at}
use Rattle.law_adversary.proofs.Lift.{frames_lifted}
use Rattle.law_reference.proofs.Reference.RunLift.{put_at_or}
use Rattle.law_injected.specs.HostileRuns.{AnyDeed, NothingSaid, IsHostile, IsSpoken, IsReached}

module _ (play : Play) (P : ℕ → Vat Name → Type 0) where
  abbrev Honest : ℕ → Type 0
  Honest v = IsHostile play v → ⊥

  -- the next note from a to v, which is s
  pub record IsNext (w : World) (a v : ℕ) (s : Vat Name) (l : Link) (n : Note Name) (ns : List (Note Name)) : Type 0 where
    pub honest : IsHostile play v → ⊥
    pub at : link_at a v w.links ≡ Some l
    pub uncut : l.cut ≡ false
    pub notes : l.notes ≡ n ∷ ns
    pub there : slice_get w.vats v ≡ Some s

  pub record IsKept : Type 0 where
    pub begun : (v : ℕ) (s : Vat Name) → slice_get (world.begins play.script).vats v ≡ Some s → P v s
    pub alone : (w : World) → IsReached play w → (v : ℕ) (s q t : Vat Name) (what : Step Name Name) → (IsHostile play v → ⊥) → IsAlone what → Does play.script w v s q t what → P v s → P v t
    pub arrived : (w : World) → IsReached play w → (a v : ℕ) (s t : Vat Name) (l : Link) (n : Note Name) (ns : List (Note Name)) → IsNext w a v s l n ns
        → arrive (names play.script v) a (read_note (names_of s) n) (readied w s) ≡ Gives tt t → P v s → P v t
    pub received : (w : World) → IsReached play w → (a v : ℕ) (s t : Vat Name) (l : Link) (n : Note Name) (ns : List (Note Name)) → IsNext w a v s l n ns
        → receive (names play.script v) (sight_at w a v s) a (read_note (names_of s) (entered_at w a v s n)) (readied w s) ≡ Gives tt t → P v s → P v t

  module _ (kept : IsKept) where
    abbrev Holds : List (Vat Name) → Type 0
    Holds vs = (v : ℕ) (s : Vat Name) → slice_get vs v ≡ Some s → (IsHostile play v → ⊥) → P v s

    same_vats : (w y : World) → y.vats ≡ w.vats → Holds w.vats → Holds y.vats
    same_vats w y e h = subst Holds (sym e) h

    put_holds : (vs : List (Vat Name)) (v : ℕ) (t : Vat Name) → ((IsHostile play v → ⊥) → P v t) → Holds vs → Holds (put_at v t vs)
    put_holds vs v t f h u r e o = go (put_at_or v t vs u r e)
      where
        go : ((u ≡ v) × (t ≡ r)) ⊎ (slice_get vs u ≡ Some r) → P u r
        go (inl i) = subst (λ z. P u z) i.1 (subst (λ x. (IsHostile play x → ⊥) → P x t) (sym i.0) f o)
        go (inr i) = h u r i o

    went_holds : (w x y : World) (v : ℕ) (t : Vat Name) → y.vats ≡ put_at v t x.vats → x.vats ≡ w.vats → ((IsHostile play v → ⊥) → P v t) → Holds w.vats → Holds y.vats
    went_holds w x y v t e i f h = subst Holds (sym e) (put_holds x.vats v t f (subst Holds (sym i) h))

    going_vats : (x y : World) → Goes x ≡ Goes y → y.vats ≡ x.vats
    going_vats x y e = cc

    cut_vats : (k a b : ℕ) (w y : World) → world.step play.script (CutLink a b) k w ≡ Goes y → y.vats ≡ w.vats
    unfolding world.step world.cut
    cut_vats k a b w y e = going_vats _ y e

    vats_is : (x y : World) → y ≡ x → y.vats ≡ x.vats
    vats_is x y e = cc

    abbrev Usually : World → World → Type 0
    Usually w y = Moved play.script w (IsHostile play) AnyNotice AnyDeed NothingSaid y

    arrives_so : (w : World) → IsReached play w → (a v : ℕ) (s t : Vat Name) (l : Link) (n : Note Name) (ns : List (Note Name)) → (IsHostile play v → ⊥) → link_at a v w.links ≡ Some l → l.cut ≡ false → l.notes ≡ n ∷ ns → Does play.script w v s s t (Receives a (read_note (names_of s) n)) → P v s → P v t
    unfolding does
    arrives_so w r a v s t l n ns o i c j d h = kept.arrived w r a v s t l n ns (record { honest = o; at = i; uncut = c; notes = j; there = d.there }) d.gives h

    usual : (w y : World) → IsReached play w → Holds w.vats → Usually w y → Holds y.vats
    unfolding went without
    usual w y r h (Still es e) = same_vats w y (vats_is _ y e) h
    usual w y r h (Severs k a b e) = same_vats w y (cut_vats k a b w y e) h
    usual w y r h (Drops a v n ns l es i c j none e) = same_vats w y (vats_is _ y e) h
    usual w y r h (Steps v s q t what head o alone may quiet d e) = went_holds w w y v t (vats_is _ y e) refl (λ f. kept.alone w r v s q t what f alone d (h v s d.there f)) h
    usual w y r h (Arrives a v s t n ns l k frame o i c j d e) = went_holds w w y v t (vats_is _ y e) refl (λ f. arrives_so w r a v s t l n ns f i c j d (h v s d.there f)) h
    usual w y r h (Hears a v s t n ns l k frame bad i c j q f e) = went_holds w w y v t (vats_is _ y e) refl (λ o. absurd (o bad)) h
    usual w y r h (Tells v u s t z ds n bad i p l f e) = absurd l

    moves : (w y : World) → IsReached play w → Holds w.vats → FrameMove play.script (IsHostile play) AnyNotice AnyDeed NothingSaid (IsSpoken play) w y → Holds y.vats
    unfolding went without
    moves w y r h (Usual m) = usual w y r h (moves_told play.script (IsHostile play) AnyNotice AnyDeed NothingSaid w y m)
    moves w y r h (Recorded b bad es e) = same_vats w y (vats_is _ y e) h
    moves w y r h (Framed v u s t z ds n op new bad i p x f e) = went_holds w w y v z (vats_is _ y e) refl (λ o. absurd (o bad)) h
    moves w y r h (Received b bad k a v l n ns s t o i c j q f e) = went_holds w w y v t (vats_is _ y e) refl (λ g. kept.received w r a v s t l n ns (record { honest = o; at = i; uncut = c; notes = j; there = q }) f (h v s q g)) h

    pub held : (w : World) → IsReached play w → (v : ℕ) (s : Vat Name) → slice_get w.vats v ≡ Some s → (IsHostile play v → ⊥) → P v s
    held w r = frames_lifted play.script (IsHostile play) AnyNotice AnyDeed NothingSaid (IsSpoken play) (λ w. Holds w.vats) (λ v s e o. kept.begun v s e) (λ x y q h m. moves x y q h m) w r
