-- Each step of a vat of a world keeps of it that what waits or settled may settle, whichever names may.
use Rattle.std.proofs.Common.{◌≡◌, ℕ, List, ◌∷◌, refl, sym, subst}
use Rattle.def_machine.specs.Values.{Name, Root, Naming, naming}
use Rattle.def_machine.specs.State.{Message, Note, Vat, Done, Gives}
use Rattle.law_machine.specs.Machine.Steps.{Step, Opens as Starts, Takes, Receives, Notices, does, After}
use Rattle.def_run.specs.Draws.{draw_word}
use Rattle.def_run.specs.World.{Script, World, names, names_of, read_note, readied}
use Rattle.law_fate.specs.Name.Names.{AllOf, HostIsTrue}
use Rattle.law_frozen.specs.Frozen.{AllOf as EachOf, MessageThere, NotePasses, Sound}
use Rattle.law_frozen.specs.Laws.{StepWell}
use Rattle.law_frozen.proofs.RunSound.{note_read, given_well}
use Rattle.law_reference.proofs.Reference.Moves.{IsAlone, Does}
use Rattle.law_instance.proofs.Told.Kept.{Rule, MayAnswer, Kept}
use Rattle.law_instance.proofs.Told.Rests as rests
use Rattle.law_instance.proofs.Told.Steps as steps

pub after_given : (R : Vat Name → Vat Name → Type 0) (s : Vat Name) (d : Done Name (Unit {0})) (t : Vat Name) → After R s d → d ≡ Gives tt t → R s t
after_given R s d t h e = rw e at h

module _ (script : Script) (v : ℕ) (w : World) (R : Rule v) where
  abbrev word : ℕ → ℕ
  word = draw_word script.key

  abbrev N : Naming Name Name
  N = naming word v

  abbrev Well : Vat Name → Type 0
  Well s = Kept word v R s

  stepped : (q t : Vat Name) (what : Step Name Name) → does (names script v) what (readied w q) ≡ Gives tt t → steps.StepMay word v R what → AllOf HostIsTrue (readied w q).known → Sound N (readied w q) → StepWell N (readied w q) what → Well (readied w q) → Well t
  unfolding names
  stepped q t what gives may hosts sound well h = after_given (λ r u. Well u) (readied w q) (does N what (readied w q)) t (steps.step_keeps word v R what (readied w q) may hosts sound well h) gives

  well_ready : (q : Vat Name) → Well q → Well (readied w q)
  unfolding readied
  well_ready q h = h

  hosts_ready : (q : Vat Name) → AllOf HostIsTrue q.known → AllOf HostIsTrue (readied w q).known
  unfolding readied
  hosts_ready q h = h

  sound_ready : (s : Vat Name) (ms : List (Message Name)) → Sound N s → EachOf (MessageThere s.lists) ms → Sound N (readied w (record s { queue = ms }))
  unfolding readied
  sound_ready s ms k h = record { things = k.things; slots = k.slots; lists = k.lists; stacked = k.stacked; queue = h; known = k.known; outbox = tt }

  sound_same : (s : Vat Name) → Sound N s → Sound N (readied w s)
  unfolding readied
  sound_same s k = record { things = k.things; slots = k.slots; lists = k.lists; stacked = k.stacked; queue = k.queue; known = k.known; outbox = tt }

  -- a step that no note begins
  pub alone_kept : (s q t : Vat Name) (what : Step Name Name) → IsAlone what → Does script w v s q t what → R.May (Root v) → ((c : ℕ) → what ≡ Notices c → R.Out c) → AllOf HostIsTrue s.known → Sound N s → Well s → Well t
  unfolding readied names
  alone_kept s q t (Starts tree depth root given) a d root_may out hosts sound h = let b = d.begins in
      let gives : does (names script v) (Starts tree depth root given) (readied w s) ≡ Gives tt t = subst (λ z. does (names script v) (Starts tree depth root given) (readied w z) ≡ Gives tt t) b.2 d.gives in
      let well : StepWell N (readied w s) (Starts tree depth root given) = subst (λ bs. StepWell N (readied w s) (Starts tree depth root bs)) (sym b.4) (given_well script v (readied w s) b.0.knows) in
      stepped s t (Starts tree depth root given) gives (subst R.May (sym b.3) root_may) (hosts_ready s hosts) (sound_same s sound) well (well_ready s h)
  alone_kept s q t (Takes tree depth m) a d root_may out hosts sound h = let b = d.begins in let r : Vat Name = record s { queue = b.0 } in
      let gives : does (names script v) (Takes tree depth m) (readied w r) ≡ Gives tt t = subst (λ z. does (names script v) (Takes tree depth m) (readied w z) ≡ Gives tt t) b.2 d.gives in
      let there : EachOf (MessageThere s.lists) (m ∷ b.0) = subst (λ ms. EachOf (MessageThere s.lists) ms) b.1 sound.queue in
      let may : AllOf (λ n. MayAnswer word v R n) (m ∷ b.0) = subst (λ ms. AllOf (λ n. MayAnswer word v R n) ms) b.1 h.2 in
      stepped r t (Takes tree depth m) gives may.0 (hosts_ready r hosts) (sound_ready s b.0 sound there.1) there.0 (well_ready r (h.0, h.1, may.1, h.3))
  alone_kept s q t (Receives from n) a d root_may out hosts sound h = absurd a
  alone_kept s q t (Notices to) a d root_may out hosts sound h = stepped s t (Notices to) (subst (λ z. does (names script v) (Notices to) (readied w z) ≡ Gives tt t) d.begins d.gives) (out to refl) (hosts_ready s hosts) (sound_same s sound) tt (well_ready s h)

  -- a note that arrives
  pub arrive_kept : (from : ℕ) (s t : Vat Name) (n : Note Name) → does (names script v) (Receives from (read_note (names_of s) n)) (readied w s) ≡ Gives tt t → rests.NoteMay word v R from (read_note (names_of s) n) → AllOf HostIsTrue s.known → NotePasses n → Sound N s → Well s → Well t
  arrive_kept from s t n gives may hosts passes sound h = stepped s t (Receives from (read_note (names_of s) n)) gives may (hosts_ready s hosts) (sound_same s sound) (note_read (names_of s) n passes) (well_ready s h)
