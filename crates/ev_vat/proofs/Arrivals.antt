-- Notes that come in, and links that are noticed as cut, as steps of a vat.
use Rattle.std.proofs.Common.{◌≡◌, ℕ, ◌++◌, List, Result, Ok, Err, ap, subst, ◌∙◌}
use Rattle.std.specs.Prelude.{OnOk}
use Rattle.def_machine.specs.Arrive as machine
use Rattle.def_machine.specs.Receive as receiving
use Rattle.def_machine.specs.State.{Done}
use Rattle.def_machine.specs.Values.{Words, Local}
use Rattle.ev_arrive.specs.Acts.{Gives, Out}
use Rattle.ev_arrive.specs.Noticing.{notice}
use Rattle.ev_arrive.specs.declared.host.Host.{Host}
use Rattle.ev_pass.specs.declared.interior.Stop.{Stop}
use Rattle.ev_pass.specs.declared.interior.Stop.TheVariants as stop
use Rattle.ev_arrive.specs.Hearing.{Name, Sees, heard_by}
use Rattle.ev_arrive.specs.Noting.{arrive}
use Rattle.ev_arrive.specs.Receiving.{receive}
use Rattle.ev_arrive.specs.declared.brought.Heard.{Heard}
use Rattle.ev_arrive.specs.declared.receiving.Sight.{Sight}
use Rattle.ev_room.specs.Reading.{World, names, texts_of}
use Rattle.ev_room.specs.Sound.{Grown, IsSound, Stays}
use Rattle.ev_vat.specs.Vat.{ArrivalIs, UnlessMemory, closed_by, stop_of}
use Rattle.law_evaluation.proofs.Arrivals.Arrives.{notices}
use Rattle.law_evaluation.proofs.Arrivals.Leaving.{more_grown}
use Rattle.law_evaluation.proofs.Arrivals.Machine as means
use Rattle.law_evaluation.proofs.Arrivals.Receives.{arrive_ends, receives}
use Rattle.law_evaluation.specs.Arrivals.Arrivals.{EndsSound, Leaves, Means, NoteFits, vat_in}

module _ (h k : Host) (out : Out (Unit {0})) (sound : EndsSound h.inside out) where
  -- what holds of all that the vat is left as holds of this, unless memory ran out
  left : (q : Result (Unit {0}) Stop) (A : Type 0) → (Leaves h.inside k.inside → A) → Gives q k out → UnlessMemory (closed_by q) A
  unfolding closed_by stop_of
  left (Ok u) A f e = f (subst (EndsSound h.inside) e sound).1
  left (Err stop.Fuel) A f e = f (subst (EndsSound h.inside) e sound).1
  left (Err (stop.Repeated i j)) A f e = f (subst (EndsSound h.inside) e sound).1
  left (Err stop.Astray) A f e = f (subst (EndsSound h.inside) e sound).1
  left (Err stop.Missing) A f e = absurd (subst (EndsSound h.inside) e sound).0
  left (Err stop.Memory) A f e = tt

  left_sound : (q : Result (Unit {0}) Stop) → Gives q k out → OnOk (closed_by q) (IsSound k.inside)
  unfolding closed_by
  left_sound (Ok u) e = (subst (EndsSound h.inside) e sound).1.sound
  left_sound (Err x) e = tt

  module _ (w : World) (d : Done Local (Unit {0})) (rest : List Words) (front : texts_of w ≡ k.inside.heap.texts ++ rest) (each : texts_of w ≡ h.inside.heap.texts ++ rest → Means w out d) where
    -- the texts are those that were there
    meant : Leaves h.inside k.inside → Means w out d
    meant l = each (front ∙ ap (λ (ts : List Words). ts ++ rest) l.heap.texts)

    comes : (q : Result (Unit {0}) Stop) → Gives q k out → ArrivalIs w (closed_by q) k d
    unfolding closed_by stop_of
    comes (Ok u) e = subst (λ (o : Out (Unit {0})). Means w o d) e (meant (subst (EndsSound h.inside) e sound).1)
    comes (Err stop.Fuel) e = (vat_in w k, subst (λ (o : Out (Unit {0})). Means w o d) e (meant (subst (EndsSound h.inside) e sound).1))
    comes (Err (stop.Repeated i j)) e = (vat_in w k, subst (λ (o : Out (Unit {0})). Means w o d) e (meant (subst (EndsSound h.inside) e sound).1))
    comes (Err stop.Astray) e = (vat_in w k, subst (λ (o : Out (Unit {0})). Means w o d) e (meant (subst (EndsSound h.inside) e sound).1))
    comes (Err stop.Missing) e = absurd (subst (EndsSound h.inside) e sound).0
    comes (Err stop.Memory) e = tt

module _ (h k : Host) (from : ℕ) (see : Sight) (note : Heard) (q : Result (Unit {0}) Stop) (is : Gives q k (receive from see note h)) (sound : IsSound h.inside) (fits : NoteFits h.inside.heap note) where
  abbrev ends : EndsSound h.inside (receive from see note h)
  ends = receives h from see note sound fits

  pub heard : (w : World) (rest : List Words) → texts_of w ≡ k.inside.heap.texts ++ rest → h.inside.words.key ≡ w.key
      → (their : receiving.Sight Local) → Sees their h note see → (n : Local) (x : Name) (c : ℕ)
      → ArrivalIs w (closed_by q) k (receiving.receive (names w) their from (heard_by (texts_of w) n x c from note) (vat_in w h))
  heard w rest front key their s n x c =
      comes h k (receive from see note h) ends w _ rest front (λ f. means.receives w rest h n x c their from see note sound fits s f key) q is

  pub heard_grown : UnlessMemory (closed_by q) (Grown h.inside.heap k.inside.heap)
  heard_grown = left h k (receive from see note h) ends q (Grown h.inside.heap k.inside.heap) (λ l. more_grown l.heap) is

  pub heard_stays : UnlessMemory (closed_by q) (Stays h.inside k.inside)
  heard_stays = left h k (receive from see note h) ends q (Stays h.inside k.inside) (λ l. l.stays) is

  pub heard_sound : OnOk (closed_by q) (IsSound k.inside)
  heard_sound = left_sound h k (receive from see note h) ends q is

module _ (h k : Host) (from : ℕ) (note : Heard) (q : Result (Unit {0}) Stop) (is : Gives q k (arrive from note h)) (sound : IsSound h.inside) (fits : NoteFits h.inside.heap note) where
  abbrev arrival_ends : EndsSound h.inside (arrive from note h)
  arrival_ends = arrive_ends from note h sound fits

  pub arrived : (w : World) (rest : List Words) → texts_of w ≡ k.inside.heap.texts ++ rest → h.inside.words.key ≡ w.key → (n : Local) (x : Name) (c : ℕ)
      → ArrivalIs w (closed_by q) k (machine.arrive (names w) from (heard_by (texts_of w) n x c from note) (vat_in w h))
  arrived w rest front key n x c =
      comes h k (arrive from note h) arrival_ends w _ rest front (λ f. means.arrives w rest h n x c from note sound fits f key) q is

  pub arrived_grown : UnlessMemory (closed_by q) (Grown h.inside.heap k.inside.heap)
  arrived_grown = left h k (arrive from note h) arrival_ends q (Grown h.inside.heap k.inside.heap) (λ l. more_grown l.heap) is

  pub arrived_stays : UnlessMemory (closed_by q) (Stays h.inside k.inside)
  arrived_stays = left h k (arrive from note h) arrival_ends q (Stays h.inside k.inside) (λ l. l.stays) is

  pub arrived_sound : OnOk (closed_by q) (IsSound k.inside)
  arrived_sound = left_sound h k (arrive from note h) arrival_ends q is

module _ (h k : Host) (v : ℕ) (q : Result (Unit {0}) Stop) (is : Gives q k (notice v h)) (sound : IsSound h.inside) where
  abbrev ends_so : EndsSound h.inside (notice v h)
  ends_so = notices h v sound

  pub noticed : (w : World) (rest : List Words) → texts_of w ≡ k.inside.heap.texts ++ rest → h.inside.words.key ≡ w.key
      → ArrivalIs w (closed_by q) k (machine.notice (names w) v (vat_in w h))
  noticed w rest front key = comes h k (notice v h) ends_so w _ rest front (λ f. means.notices w rest h v sound f key) q is

  pub noticed_grown : UnlessMemory (closed_by q) (Grown h.inside.heap k.inside.heap)
  noticed_grown = left h k (notice v h) ends_so q (Grown h.inside.heap k.inside.heap) (λ l. more_grown l.heap) is

  pub noticed_stays : UnlessMemory (closed_by q) (Stays h.inside k.inside)
  noticed_stays = left h k (notice v h) ends_so q (Stays h.inside k.inside) (λ l. l.stays) is

  pub noticed_sound : OnOk (closed_by q) (IsSound k.inside)
  noticed_sound = left_sound h k (notice v h) ends_so q is
