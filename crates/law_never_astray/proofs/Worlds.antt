-- A turn of a vat in a world, and its opening turn, do not go astray where no list leads back to itself where they stop.
use Rattle.std.proofs.Common.{◌≡◌, ℕ, true, List, [], ◌∷◌, Some, None, refl, length}
use Rattle.std.specs.Prelude.{slice_get}
use Rattle.def_machine.specs.Values.{Words, Name, Root, Naming, naming, spot_of}
use Rattle.def_machine.specs.State.{Message, Vat}
use Rattle.def_machine.specs.Eval.{opening, taking}
use Rattle.def_kernel.specs.declared.node.Node.{Node}
use Rattle.def_run.specs.Draws.{draw_word}
use Rattle.def_run.specs.World as world
use Rattle.def_run.specs.World.{Script, Program, World, readied}
use Rattle.def_kernel.specs.Trees.{IsTree}
use Rattle.ev_reader.specs.Scopes.{first_fault}
use Rattle.law_fate.specs.Name.Names.{Named, AllOf, IsAmong, MessageOk, NounOk, Parts, Everywhere, names_in}
use Rattle.law_fate.proofs.Name.Facts.{message_up, nouns_up}
use Rattle.law_fate.proofs.Name.Care.{Care, Under, Makes, Sound, parts_up}
use Rattle.law_fate.proofs.Name.Tracked.{tracked, tracked_under, tracked_makes}
use Rattle.law_fate.proofs.Name.Run.{Had, Inside, Stands, inside, inside_root, low_at, had_ready, sound_ready, knows_low, given_ok}
use Rattle.law_never_astray.specs.Things.{There, ThingsAreThere}
use Rattle.law_never_astray.proofs.ThingsCounted.{named_counted, things, things_under, things_makes}
use Rattle.law_never_astray.proofs.CallChains.{calls_end}
use Rattle.law_never_astray.specs.Covered.{Carries}
use Rattle.law_never_astray.specs.CoveredLaws.{AreGiven}
use Rattle.law_reference.specs.Reference.Lists.{NoListLeadsBack}
use Rattle.law_never_astray.specs.Settlings.{AllAwaited}
use Rattle.law_never_astray.specs.Ejections.{NoneIsLive}
use Rattle.law_never_astray.proofs.Awaited.{is_mail, tracked_awaits}
use Rattle.law_never_astray.specs.Near.{TargetsNear}
use Rattle.law_never_astray.proofs.Both.{both, both_under, both_makes, parts_both, message_both, nouns_both}
use Rattle.law_never_astray.proofs.Eval.{NamesThere}
use Rattle.law_never_astray.proofs.Natives.{Works}
use Rattle.law_never_astray.proofs.Works.{works_by}
use Rattle.law_never_astray.proofs.Views.{AtPeace, at_peace}
use Rattle.law_never_astray.proofs.Rings.{ended_before}
use Rattle.law_never_astray.proofs.Turns.{OffIn, taking_off, opening_off}

pub root_there : (word : ℕ → ℕ) (v u c : ℕ) → There (naming word v) c (Named (Root u))
unfolding naming spot_of
root_there word v u c i e = cc

module _ (script : Script) (x : World) (h : Stands script x) (v : ℕ) (s : Vat Name) (there : slice_get x.vats v ≡ Some s) (tree : List Node) where
  abbrev word : ℕ → ℕ
  word = draw_word script.key

  abbrev K : Naming Name Name
  K = naming word v

  abbrev low : Inside script (Named (Root v))
  low = inside_root script v (low_at script x h v s there)

  abbrev T : Care Name
  T = tracked true (inside script) x.vats v s there (low_at script x h v s there)

  abbrev C : Care Name
  C = things K (There K) (named_counted word v)

  abbrev S : Care Name
  S = both T C

  first : Under K T
  first = tracked_under true (inside script) x.vats v s there (low_at script x h v s there) word

  second : Under K C
  second = things_under K (There K) (named_counted word v)

  law : Under K S
  law = both_under K T C first second

  makes : Makes K S
  makes = both_makes K T C first second (tracked_makes (inside script) x.vats v s there (low_at script x h v s there) word) (things_makes K (There K) (named_counted word v))

  -- a list leads back to itself
  abbrev Ring : Vat Name → Type 0
  Ring t = NoListLeadsBack K t → ⊥

  first_sound : (u : Vat Name) → Sound S u → Sound T u
  first_sound u g = record { parts = parts_up (S.ok u) (T.ok u) (λ b i. i.0) u.things u.slots u.lists u.queue u.known u.gifts u.outbox g.parts; more = g.more.0 }

  awaits : (u : Vat Name) → Sound S u → AllAwaited K is_mail u.known
  awaits u g = tracked_awaits true (inside script) x.vats v s there (low_at script x h v s there) word u (first_sound u g)

  works : Works K S tree Ring (AtPeace word v)
  works = works_by K S law makes is_mail awaits tree Ring (AtPeace word v) (at_peace word v)

  named : NamesThere K S
  named u n ok i e = ok.1 i e

  -- a state in which both are ready
  ready_sound : (q : Vat Name) → Sound T (readied x q) → Parts (There K (length q.things)) q.things q.slots q.lists q.queue q.known q.gifts [] → Sound S (readied x q)
  unfolding readied
  ready_sound q g p = record { parts = parts_both (T.ok (readied x q)) (C.ok (readied x q)) q.things q.slots q.lists q.queue q.known q.gifts g.parts p; more = (g.more, tt) }

  emptied : (q : Vat Name) → Everywhere (There K (length q.things)) q → Parts (There K (length q.things)) q.things q.slots q.lists q.queue q.known q.gifts []
  emptied q p = record { things = p.things; slots = p.slots; lists = p.lists; queue = p.queue; known = p.known; gifts = p.gifts; outbox = tt }

  -- ---- a turn

  pub turn_off : (depth : ℕ) (m : Message Name) (ms : List (Message Name)) → s.queue ≡ m ∷ ms → ThingsAreThere K s → Carries tree s → AtPeace word v s.queue s.known → NoneIsLive s.things → OffIn Ring (AtPeace word v) (taking K tree depth m (readied x (record s { queue = ms })))
  unfolding readied
  turn_off depth m ms q p carries peace live =
      let g = h.vats v s there in let r : Vat Name = record s { queue = ms } in let u : Vat Name = readied x r in
      let waiting : AllOf (MessageOk (Had script x v s)) (m ∷ ms) = rw q at g.parts.queue in let counted : AllOf (MessageOk (There K (length s.things))) (m ∷ ms) = rw q at p.queue in
      let parts : Parts (Had script x v s) s.things s.slots s.lists ms s.known s.gifts s.outbox = record { things = g.parts.things; slots = g.parts.slots; lists = g.parts.lists; queue = waiting.1; known = g.parts.known; gifts = g.parts.gifts; outbox = g.parts.outbox } in
      let rest : Parts (There K (length s.things)) s.things s.slots s.lists ms s.known s.gifts [] = record { things = p.things; slots = p.slots; lists = p.lists; queue = counted.1; known = p.known; gifts = p.gifts; outbox = tt } in
      let sound : Sound S u = ready_sound r (sound_ready script v x s r there refl refl h parts g.kept) rest in
      let message : MessageOk (S.ok u) m = message_both (T.ok u) (C.ok u) m (message_up (Had script x v s) (T.ok u) (had_ready script v x s r there refl refl h parts g.kept) m waiting.0) counted.0 in
      let near : TargetsNear K (m ∷ ms) s.known = rw q at peace.1 in
      taking_off K S law tree Ring (AtPeace word v) works named (calls_end.0 word v tree) (λ d act y verb args a t c i e f none. f (ended_before word v tree d act y verb args a t c i.0 e none) none)
      depth m u sound message carries (peace.0, (near.0.1, near.1)) live near.0.0

  -- ---- an opening turn

  pub open_off : (p : Program) → slice_get script.vats v ≡ Some p → (known : List Words) → IsTree tree → first_fault tree known ≡ None → AreGiven (world.given script.vats p.knows) known → ThingsAreThere K s → Carries tree s → AtPeace word v s.queue s.known → NoneIsLive s.things
      → AllOf (NounOk (There K (length s.things))) (world.given script.vats p.knows) → OffIn Ring (AtPeace word v) (opening K tree script.depth (Root v) (world.given script.vats p.knows) (readied x s))
  unfolding readied
  open_off p at known t f g there_p carries peace live nouns =
      let a = h.vats v s there in let u : Vat Name = readied x s in let up = had_ready script v x s s there refl refl h a.parts a.kept in
      let roots : AllOf (λ (w : ℕ). IsAmong (Root w) (names_in s.known)) (v ∷ p.knows) = a.roots p at in
      let given : AllOf (NounOk (Had script x v s)) (world.given script.vats p.knows) = given_ok script x v s p.knows roots.1 (knows_low script p.knows (λ k. k v p at)) in
      let sound : Sound S u = ready_sound s (sound_ready script v x s s there refl refl h a.parts a.kept) (emptied s there_p) in
      opening_off K S law tree Ring (AtPeace word v) works named (calls_end.0 word v tree) (λ d act y verb args b z c i q k none. k (ended_before word v tree d act y verb args b z c i.0 q none) none)
      script.depth (Root v) (world.given script.vats p.knows) known u t f g sound
      ((up (Named (Root v)) (tt, roots.0, tt, low), root_there word v v (length s.things)), nouns_both (T.ok u) (C.ok u) (world.given script.vats p.knows) (nouns_up (Had script x v s) (T.ok u) up (world.given script.vats p.knows) given) nouns) carries peace live
