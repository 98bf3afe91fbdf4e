-- Where an opening turn or a turn of a run stops, no list leads back to itself.
use Rattle.std.proofs.Common.{◌≡◌, ℕ, true, false, List, [], ◌∷◌, Some, refl, subst, inl}
use Rattle.std.specs.Prelude.{slice_get}
use Rattle.def_machine.specs.Values.{Name, Root, host_of}
use Rattle.def_machine.specs.State.{Message, Vat, Stop, Done, Stops}
use Rattle.def_machine.specs.Eval.{opening, taking}
use Rattle.law_machine.specs.Machine.Steps.{Opens, Takes, does, After}
use Rattle.def_run.specs.World as world
use Rattle.def_run.specs.World.{Script, Program, World, names, readied}
use Rattle.law_fate.specs.Name.Names.{AllOf}
use Rattle.law_frozen.specs.Frozen.{AllOf as EachOf, MessageThere, Sound}
use Rattle.law_frozen.proofs.RunSound.{WorldSound, given_well}
use Rattle.law_reference.specs.Reference.Lists.{NoListLeadsBack}
use Rattle.law_reference.specs.Reference.ListRingless.{IsOwn, Ringless, TellsSo}
use Rattle.law_reference.proofs.Reference.OwnTurns.{where_map}
use Rattle.law_reference.proofs.Reference.Kept.{ringless_same}
use Rattle.law_reference.proofs.Reference.RefsRing.{answer_view}
use Rattle.law_reference.proofs.Reference.TurnsRing.{turns_keep}
use Rattle.law_reference.proofs.Reference.VatStep.{Seen, RingsBy}
use Rattle.law_reference.proofs.Reference.StepRings.{word, N, NoDraws}
use Rattle.law_reference.proofs.Reference.Around.{Around, waits_spared}

module _ (script : Script) where
  abbrev Ended : (ℕ → Type 0) → World → ℕ → Vat Name → Type 0
  Ended D w v t = Sound (N script v) t × Ringless (N script v) v D (Seen (word script) w.vats v) t.noticed t × TellsSo (N script v) D t

  none_after : (D : ℕ → Type 0) (w : World) (v : ℕ) (s t : Vat Name) (c : Stop) (d : Done Name (Unit {0})) → After (λ r u. Ended D w v u) s d → d ≡ Stops c t → NoListLeadsBack (N script v) t
  none_after D w v s t c (Stops r u) h e = let same : u ≡ t = cc in subst (NoListLeadsBack (N script v)) same h.1.none
  none_after D w v s t c other h e = cc

  sound_at : (v : ℕ) (w : World) (s : Vat Name) → WorldSound script w → slice_get w.vats v ≡ Some s → Sound (N script v) s
  unfolding names
  sound_at v w s h e = h.vats v s e

  ready_sound : (v : ℕ) (w : World) (s : Vat Name) → Sound (N script v) s → Sound (N script v) (readied w s)
  unfolding readied
  ready_sound v w s k = record { things = k.things; slots = k.slots; lists = k.lists; stacked = k.stacked; queue = k.queue; known = k.known; outbox = tt }

  -- ---- a turn

  with_queue : (v : ℕ) (s : Vat Name) (m : Message Name) (ms : List (Message Name)) → Sound (N script v) s → s.queue ≡ m ∷ ms → MessageThere s.lists m × Sound (N script v) (record s { queue = ms })
  with_queue v s m ms h e = let waiting : EachOf (MessageThere s.lists) (m ∷ ms) = rw e at h.queue in
      (waiting.0, record { things = h.things; slots = h.slots; lists = h.lists; stacked = h.stacked; queue = waiting.1; known = h.known; outbox = h.outbox })

  turn_ends : (w : World) (D : ℕ → Type 0) → RingsBy (word script) false D w → WorldSound script w → Around (word script) w → (v : ℕ) (s : Vat Name) (m : Message Name) (ms : List (Message Name)) → slice_get w.vats v ≡ Some s → s.queue ≡ m ∷ ms
      → After (λ r t. Ended D w v t) (readied w (record s { queue = ms })) (does (N script v) (Takes (world.tree_at script.vats v) script.depth m) (readied w (record s { queue = ms })))
  unfolding readied
  turn_ends w D rings sound a v s m ms e q = let A : Name → Type 0 = Seen (word script) w.vats v in let r : Vat Name = readied w (record s { queue = ms }) in let here : Sound (N script v) s = sound_at v w s sound e in let waiting = with_queue v s m ms here q in
      let ring : Ringless (N script v) v D A [] s = rings.vats v s e in let own : AllOf (IsOwn v) (m ∷ ms) = subst (λ xs. AllOf (IsOwn v) xs) q ring.queue in
      let full : Ringless (N script v) v D A s.noticed s = record { number = ring.number; names = record { here = a.here v s e; spared = waits_spared (word script) w a v s e; far = ring.names.far; seen = ring.names.seen; waits = ring.names.waits; settled = ring.names.settled; held = ring.names.held; eventual = ring.names.eventual }; none = ring.none; queue = ring.queue; gifts = ring.gifts } in
      turns_keep D A (word script) v (Takes (world.tree_at script.vats v) script.depth m) r (where_map _ _ (λ b o. (o.0, λ i. answer_view (word script) v true D A b o.1 i)) m.answer own.0.1) (ready_sound v w (record s { queue = ms }) waiting.1) waiting.0
      (rings.drawn, tt) (ringless_same (word script) v true D A s r here refl refl refl (inl refl) own.1 ring.gifts full)

  pub turn_none : (w : World) (D : ℕ → Type 0) → RingsBy (word script) false D w → WorldSound script w → Around (word script) w → (v : ℕ) (s : Vat Name) (m : Message Name) (ms : List (Message Name)) → slice_get w.vats v ≡ Some s → s.queue ≡ m ∷ ms
      → (c : Stop) (t : Vat Name) → taking (names script v) (world.tree_at script.vats v) script.depth m (readied w (record s { queue = ms })) ≡ Stops c t → NoListLeadsBack (names script v) t
  unfolding does names
  turn_none w D rings sound a v s m ms e q c t i = none_after D w v (readied w (record s { queue = ms })) t c _ (turn_ends w D rings sound a v s m ms e q) i

  -- ---- an opening turn

  open_ends : (v : ℕ) (p : Program) (w : World) (s : Vat Name) → RingsBy (word script) true (NoDraws script) w → WorldSound script w → slice_get w.vats v ≡ Some s
      → After (λ r t. Ended (NoDraws script) w v t) (readied w s) (does (N script v) (Opens p.tree script.depth (Root v) (world.given script.vats p.knows)) (readied w s))
  unfolding readied host_of names
  open_ends v p w s h sound e = let A : Name → Type 0 = Seen (word script) w.vats v in let here : Sound (N script v) s = sound_at v w s sound e in let ring : Ringless (N script v) v (NoDraws script) A s.noticed s = h.vats v s e in
      turns_keep (NoDraws script) A (word script) v (Opens p.tree script.depth (Root v) (world.given script.vats p.knows)) (readied w s) (refl, λ i. i) (ready_sound v w s here) (given_well script v (readied w s) p.knows)
      (h.drawn, tt) (ringless_same (word script) v true (NoDraws script) A s (readied w s) here refl refl refl (inl refl) ring.queue ring.gifts ring)

  pub open_none : (v : ℕ) (p : Program) (w : World) (s : Vat Name) → RingsBy (word script) true (NoDraws script) w → WorldSound script w → slice_get w.vats v ≡ Some s
      → (c : Stop) (t : Vat Name) → opening (names script v) p.tree script.depth (Root v) (world.given script.vats p.knows) (readied w s) ≡ Stops c t → NoListLeadsBack (names script v) t
  unfolding does names
  open_none v p w s h sound e c t i = none_after (NoDraws script) w v (readied w s) t c _ (open_ends v p w s h sound e) i
