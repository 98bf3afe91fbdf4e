-- Every step of a vat in a run finds a place for each message that it begins with or sends.
use Rattle.std.proofs.Common.{◌≡◌, ℕ, suc, ◌+◌, ◌≤◌, Bool, true, false, List, [], ◌∷◌, ◌++◌, Some, refl, length, arith}
use Rattle.std.specs.Prelude.{slice_get}
use Rattle.def_machine.specs.Values.{Name, Root, naming}
use Rattle.def_machine.specs.State.{Put, Message, Took, Note, Deliver, Open, Ask, SettledTo, Elsewhere, Shorten, Vat, Done, Gives, ◌>>=◌, ◌>>◌, and_then, tell, new_activation}
use Rattle.def_machine.specs.Arrive.{arrive, notice}
use Rattle.def_machine.specs.Eval as eval
use Rattle.def_machine.specs.Calls as calls
use Rattle.law_machine.specs.Machine.Steps.{Step, Opens, Takes, Receives, Notices, does}
use Rattle.def_run.specs.Draws.{draw_word}
use Rattle.def_run.specs.World.{Script, Program, World, names, names_of, read_note, readied, tree_at, given}
use Rattle.law_fate.specs.Name.Names.{PutOk, GoesOk, Bit, Named, AllOf, IsAmong, MessageOk, NoteOk, names_in, Parts}
use Rattle.law_fate.proofs.Name.Facts.{all_map, Also, IsName, IsMessage, AreNouns, Nothing, nothing, Holds, message_up, nouns_up}
use Rattle.law_fate.proofs.Name.Care.{Care, Sound, Ends, fine_activation, fine_tell}
use Rattle.law_fate.proofs.Name.Serves.{closing_some}
use Rattle.law_fate.proofs.Name.CareEval.{fine_opening, fine_turn}
use Rattle.law_fate.proofs.Name.CareArrive.{fine_notice}
use Rattle.law_fate.proofs.Name.Tracked.{Ok}
use Rattle.law_fate.proofs.Name.Learn.{Ended, Knows, reads_note}
use Rattle.law_fate.proofs.Name.Run.{Had, Told, inside, inside_root, low_at, knows_low, VatStands, Stands, given_ok, had_ready, sound_ready, knows_ready}
use Rattle.law_fate.specs.Fates.Fate.{one, of_note, in_note, at_vat, sent_here, sent_in, gone_here, account}
use Rattle.law_fate.specs.Fates.FateLaws.{brought}
use Rattle.law_fate.specs.Fates.Lasting.{Each, KnownWell, NoteWell, AllWell, StepComes, PlacesLast}
use Rattle.law_fate.specs.Fates.Wellness.{WorldWell}
use Rattle.law_fate.proofs.Fates.Counts.{sent_end, gone_end}
use Rattle.law_fate.proofs.Fates.TurnAccount.{steps_double_none}
use Rattle.law_fate.proofs.Fates.PlacesLast.{PaysAt}
use Rattle.law_fate.proofs.Fates.PlacesSteps.{steps_keep_places}
use Rattle.law_fate.proofs.Fates.RunWell.{note_comes}
use Rattle.law_fate.specs.Fates.Steps.{Found}
use Rattle.law_fate.specs.Fates.WholeFateRuns.{KnowsVats, GoesToVat, PutsToVats}
use Rattle.law_fate.proofs.Fates.Places.{T, F, Unnumbered, SentAt, sent_none, under, quiet_under, quiet_sound, unnumbered, whole, whole_sound, whole_serves, whole_closing}
use Rattle.law_fate.proofs.Fates.WholeArrive.{deliver_finds}

-- at least so many more are placed
abbrev Least : (ℕ → Bool) → Name → ℕ → Vat Name → Done Name (Unit {0}) → Type 0
Least cut x c s (Gives a t) = account cut x s + c ≤ account cut x t
Least cut x c s other = Unit {0}

least_last : (cut : ℕ → Bool) (x : Name) (s : Vat Name) (d : Done Name (Unit {0})) → PlacesLast cut x s d → Least cut x 0 s d
least_last cut x s (Gives a t) h = let i = h.1 in omega arith
least_last cut x s other h = tt

least_pays : (cut : ℕ → Bool) (x : Name) (c : ℕ) (s : Vat Name) (d : Done Name (Unit {0})) → PaysAt cut x c s d → Least cut x c s d
least_pays cut x c s (Gives a t) h = let i = h.1 in omega arith
least_pays cut x c s other h = tt

least_found : (cut : ℕ → Bool) (x : Name) (c : ℕ) (s : Vat Name) (d : Done Name (Unit {0})) → sent_in x s.happened ≡ 0 → Least cut x c s d → SentAt x 0 s d → Found cut x c s d
least_found cut x c s (Gives a t) e h n = omega arith
least_found cut x c s other e h n = tt

module _ (script : Script) (w : World) (h : Stands script w) (wl : WorldWell w) (v : ℕ) (s : Vat Name) (there : slice_get w.vats v ≡ Some s) (cut : ℕ → Bool) (x : Name) where
  abbrev word : ℕ → ℕ
  word = draw_word script.key

  abbrev S : Care Name
  S = whole (inside script) w.vats v s there (low_at script w h v s there) word cut x

  stands : VatStands script w v s
  stands = h.vats v s there

  known_well : Each KnownWell s.known
  known_well = wl.vats v s there

  nothing_sent : (q : Vat Name) → sent_in x (readied w q).happened ≡ 0
  unfolding readied sent_in
  nothing_sent q = refl

  ends_found : (r : Vat Name) (d : Done Name (Unit {0})) → sent_in x r.happened ≡ 0 → Ends S nothing r d → Found cut x 0 r d
  ends_found r (Gives a t) e i = let g = i.0 in let k = g.1 in let l = k.kept in omega arith
  ends_found r other e i = tt

  ready_well : AllWell (readied w s)
  unfolding readied
  ready_well = (known_well, tt)

  ready_sound : Sound (T (inside script) w.vats v s there (low_at script w h v s there) word) (readied w s)
  ready_sound = sound_ready script v w s s there refl refl h stands.parts stands.kept

  -- ---- the opening turn

  opens_ends : (p : Program) → slice_get script.vats v ≡ Some p → Ends S nothing (readied w s) (eval.opening (naming word v) p.tree script.depth (Root v) (given script.vats p.knows) (readied w s))
  opens_ends p e = (fine_opening (naming word v) S (whole_serves (inside script) w.vats v s there (low_at script w h v s there) word cut x) p.tree {C = Also (IsName (Root v)) (AreNouns (given script.vats p.knows))} script.depth (Root v) (record { at = λ r c. c.0 })
      (whole_closing (inside script) w.vats v s there (low_at script w h v s there) word cut x (Root v)) (given script.vats p.knows) (record { at = λ r c. c.1 })).after (readied w s)
      (whole_sound (inside script) w.vats v s there (low_at script w h v s there) word cut x (readied w s) ready_sound ready_well) hold
    where
      up : (b : Bit Name) → Had script w v s b → Ok true (inside script) w.vats v s there (low_at script w h v s there) (readied w s) b
      up b i = had_ready script v w s s there refl refl h stands.parts stands.kept b i

      roots : AllOf (λ (u : ℕ). IsAmong (Root u) (names_in s.known)) (v ∷ p.knows)
      roots = stands.roots p e

      hold : Holds (Ok true (inside script) w.vats v s there (low_at script w h v s there) (readied w s)) (Also (IsName (Root v)) (AreNouns (given script.vats p.knows)))
      hold = (up (Named (Root v)) (tt, roots.0, tt, inside_root script v (low_at script w h v s there)), nouns_up (Had script w v s) (Ok true (inside script) w.vats v s there (low_at script w h v s there) (readied w s)) up (given script.vats p.knows) (given_ok script w v s p.knows roots.1 (knows_low script p.knows (λ k. k v p e))))

  pub opens_find : (p : Program) → slice_get script.vats v ≡ Some p → Found cut x 0 (readied w s) (does (names script v) (Opens p.tree script.depth (Root v) (given script.vats p.knows)) (readied w s))
  unfolding does names
  opens_find p e = ends_found (readied w s) (eval.opening (naming word v) p.tree script.depth (Root v) (given script.vats p.knows) (readied w s)) (nothing_sent s) (opens_ends p e)

  -- ---- a turn

  taken_found : (m : Message Name) (r t : Vat Name) (d : Done Name (Unit {0})) → sent_in x r.happened ≡ 0 → account cut x t ≡ account cut x r + one m.id x → sent_in x t.happened ≡ 0 → Ends S nothing t d → Found cut x (one m.id x) r d
  taken_found m r t (Gives a u) e f g i = let j = i.0 in let k = j.1 in let l = k.kept in omega arith
  taken_found m r t other e f g i = tt

  took_account : (act : ℕ) (m : Message Name) (r : Vat Name) → account cut x (record r { activations = suc r.activations; happened = r.happened ++ Took act m ∷ [] }) ≡ account cut x r + one m.id x
  unfolding account at_vat gone_here
  took_account act m r = let a = gone_end cut x r.happened (Took act m) in omega arith

  took_sent : (act : ℕ) (m : Message Name) (r : Vat Name) → sent_in x r.happened ≡ 0 → sent_in x (record r { activations = suc r.activations; happened = r.happened ++ Took act m ∷ [] }).happened ≡ 0
  unfolding sent_here
  took_sent act m r e = let a = sent_end x r.happened (Took act m) in omega arith

  -- the state once the message is taken, and what the turn makes of it
  abbrev Taken : Message Name → Vat Name → Vat Name
  Taken m r = record r { activations = suc r.activations; happened = r.happened ++ Took r.activations m ∷ [] }

  abbrev Turned : Message Name → Vat Name → Done Name (Unit {0})
  Turned m r = eval.closes (naming word v) (tree_at script.vats v) r.activations m.answer (calls.turn_value (naming word v) (tree_at script.vats v) (eval.evaluator (naming word v) (tree_at script.vats v) script.depth) r.activations m.target m.verb m.args) (Taken m r)

  turn_ends : (m : Message Name) (r : Vat Name) → Sound (T (inside script) w.vats v s there (low_at script w h v s there) word) r → AllWell r → MessageOk (Ok true (inside script) w.vats v s there (low_at script w h v s there) r) m → Ends S nothing (Taken m r) (Turned m r)
  unfolding new_activation tell
  turn_ends m r g wr good = let K = naming word v in let law = under (inside script) w.vats v s there (low_at script w h v s there) word in let act : ℕ = r.activations in
      let one' = (fine_activation (T (inside script) w.vats v s there (low_at script w h v s there) word) {C = IsMessage m}).after r g good in let t : Vat Name = record r { activations = suc r.activations } in
      let two = (fine_tell K (T (inside script) w.vats v s there (low_at script w h v s there) word) law {C = Nothing} (Took act m)).after t one'.1 tt in let u : Vat Name = record t { happened = t.happened ++ Took act m ∷ [] } in
      let good_t : MessageOk (Ok true (inside script) w.vats v s there (low_at script w h v s there) t) m = message_up (Ok true (inside script) w.vats v s there (low_at script w h v s there) r) (Ok true (inside script) w.vats v s there (low_at script w h v s there) t) ((T (inside script) w.vats v s there (low_at script w h v s there) word).up r t one'.0) m good in
      let good_u : MessageOk (Ok true (inside script) w.vats v s there (low_at script w h v s there) u) m = message_up (Ok true (inside script) w.vats v s there (low_at script w h v s there) t) (Ok true (inside script) w.vats v s there (low_at script w h v s there) u) ((T (inside script) w.vats v s there (low_at script w h v s there) word).up t u two.0) m good_t in
      (fine_turn K S (whole_serves (inside script) w.vats v s there (low_at script w h v s there) word cut x) (tree_at script.vats v) {C = IsMessage m} script.depth act m (record { at = λ r c. c })
      (closing_some K S (whole_closing (inside script) w.vats v s there (low_at script w h v s there) word cut x) m.answer)).after u (whole_sound (inside script) w.vats v s there (low_at script w h v s there) word cut x u two.1 (wr.0, wr.1)) good_u

  turn_finds : (m : Message Name) (r : Vat Name) → sent_in x r.happened ≡ 0 → Sound (T (inside script) w.vats v s there (low_at script w h v s there) word) r → AllWell r → MessageOk (Ok true (inside script) w.vats v s there (low_at script w h v s there) r) m → Found cut x (one m.id x) r (eval.taking (naming word v) (tree_at script.vats v) script.depth m r)
  unfolding eval.taking ◌>>=◌ ◌>>◌ and_then new_activation tell
  turn_finds m r e g wr good = taken_found m r (Taken m r) (Turned m r) e (took_account r.activations m r) (took_sent r.activations m r e) (turn_ends m r g wr good)

  taken_ready : (m : Message Name) (ms : List (Message Name)) → s.queue ≡ m ∷ ms → Sound (T (inside script) w.vats v s there (low_at script w h v s there) word) (readied w (record s { queue = ms })) × (AllWell (readied w (record s { queue = ms })) × MessageOk (Ok true (inside script) w.vats v s there (low_at script w h v s there) (readied w (record s { queue = ms }))) m)
  unfolding readied
  taken_ready m ms e = (sound_ready script v w s (record s { queue = ms }) there refl refl h parts stands.kept, (ready, good))
    where
      r : Vat Name
      r = readied w (record s { queue = ms })

      waiting : AllOf (MessageOk (Had script w v s)) (m ∷ ms)
      waiting = let p = stands.parts in rw e at p.queue

      parts : Parts (Had script w v s) s.things s.slots s.lists ms s.known s.gifts s.outbox
      parts = let p = stands.parts in record { things = p.things; slots = p.slots; lists = p.lists; queue = waiting.1; known = p.known; gifts = p.gifts; outbox = p.outbox }

      ready : AllWell r
      ready = (known_well, tt)

      good : MessageOk (Ok true (inside script) w.vats v s there (low_at script w h v s there) r) m
      good = message_up (Had script w v s) (Ok true (inside script) w.vats v s there (low_at script w h v s there) r) (had_ready script v w s (record s { queue = ms }) there refl refl h parts stands.kept) m waiting.0

  pub takes_find : (m : Message Name) (ms : List (Message Name)) → s.queue ≡ m ∷ ms → Found cut x (one m.id x) (readied w (record s { queue = ms })) (does (names script v) (Takes (tree_at script.vats v) script.depth m) (readied w (record s { queue = ms })))
  unfolding does names
  takes_find m ms e = let ready = taken_ready m ms e in let more = ready.1 in turn_finds m (readied w (record s { queue = ms })) (nothing_sent (record s { queue = ms })) ready.0 more.0 more.1

  -- ---- what arrives, and a notice

  came_none : (c : ℕ) (step : Step Name Name) (r : Vat Name) → sent_in x r.happened ≡ 0 → Least cut x c r (does (naming word v) step r) → Unnumbered r (does (naming word v) step r) → Found cut x c r (does (naming word v) step r)
  came_none c step r e l n = least_found cut x c r (does (naming word v) step r) e l (sent_none cut v x (brought x step) r (does (naming word v) step r) (steps_double_none word v step r cut x) n)

  lasts : (step : Step Name Name) (r : Vat Name) → AllWell r → StepComes step → Least cut x 0 r (does (naming word v) step r)
  lasts step r wr g = least_last cut x r (does (naming word v) step r) (steps_keep_places word v step r cut x wr g)

  notice_quiet : (u : ℕ) → Unnumbered (readied w s) (does (naming word v) (Notices u) (readied w s))
  unfolding does
  notice_quiet u = unnumbered (inside script) w.vats v s there (low_at script w h v s there) word nothing (readied w s) (notice (naming word v) u (readied w s)) ((fine_notice (naming word v) (F (inside script) w.vats v s there (low_at script w h v s there) word) (quiet_under (inside script) w.vats v s there (low_at script w h v s there) word) {C = Nothing} u).after (readied w s) (quiet_sound (inside script) w.vats v s there (low_at script w h v s there) word (readied w s) ready_sound) tt)

  pub notices_find : (u : ℕ) → Found cut x 0 (readied w s) (does (names script v) (Notices u) (readied w s))
  unfolding names
  notices_find u = came_none 0 (Notices u) (readied w s) (nothing_sent s) (lasts (Notices u) (readied w s) ready_well tt) (notice_quiet u)

  -- what the vat knows, where no new message is made
  quiet_knows : Knows false (inside script) w.vats v s there (low_at script w h v s there) word w.vats w.drawn (names_in s.known) (readied w s)
  quiet_knows = let k = knows_ready script v w s s there refl refl h stands.parts stands.kept in record { all = k.all; told = k.told; own = k.own; made = k.made }

  ended_quiet : (r : Vat Name) (d : Done Name (Unit {0})) → Ended false (inside script) w.vats v s there (low_at script w h v s there) word w.vats w.drawn r d → Unnumbered r d
  ended_quiet r (Gives a t) g = let k = g.0 in k.messages
  ended_quiet r other g = tt

  note_quiet : (from : ℕ) (n : Note Name) → NoteOk (Told script w) n → Unnumbered (readied w s) (does (naming word v) (Receives from (read_note (names_in s.known) n)) (readied w s))
  unfolding does
  note_quiet from n g = ended_quiet (readied w s) (arrive (naming word v) from (read_note (names_in s.known) n) (readied w s)) ((reads_note false (inside script) w.vats v s there (low_at script w h v s there) word w.vats w.drawn from (names_in s.known) n g).after (readied w s) (quiet_sound (inside script) w.vats v s there (low_at script w h v s there) word (readied w s) ready_sound) quiet_knows tt)

  note_least : (from : ℕ) (n : Note Name) → NoteOk (Told script w) n → NoteWell n → Least cut x (of_note x n) (readied w s) (does (naming word v) (Receives from (read_note (names_in s.known) n)) (readied w s))
  unfolding does of_note in_note
  note_least from (Deliver d n verb ys) g k = least_pays cut x (one d.message x) (readied w s) (arrive (naming word v) from (read_note (names_in s.known) (Deliver d n verb ys)) (readied w s)) (deliver_finds (inside script) w.vats v s there (low_at script w h v s there) word w.vats w.drawn cut x from (names_in s.known) d.message d.asks d.answer n verb ys g.0 g.1 g.2 k (readied w s) (quiet_sound (inside script) w.vats v s there (low_at script w h v s there) word (readied w s) ready_sound) ready_well quiet_knows)
  note_least from (Open i n) g k = lasts (Receives from (read_note (names_in s.known) (Open i n))) (readied w s) ready_well (note_comes (names_in s.known) (Open i n) k)
  note_least from (Ask p i n) g k = lasts (Receives from (read_note (names_in s.known) (Ask p i n))) (readied w s) ready_well (note_comes (names_in s.known) (Ask p i n) k)
  note_least from (SettledTo n y) g k = lasts (Receives from (read_note (names_in s.known) (SettledTo n y))) (readied w s) ready_well (note_comes (names_in s.known) (SettledTo n y) k)
  note_least from (Elsewhere n c) g k = lasts (Receives from (read_note (names_in s.known) (Elsewhere n c))) (readied w s) ready_well (note_comes (names_in s.known) (Elsewhere n c) k)
  note_least from (Shorten n c i) g k = lasts (Receives from (read_note (names_in s.known) (Shorten n c i))) (readied w s) ready_well (note_comes (names_in s.known) (Shorten n c i) k)

  pub note_finds : (from : ℕ) (n : Note Name) → NoteOk (Told script w) n → NoteWell n → Found cut x (of_note x n) (readied w s) (does (names script v) (Receives from (read_note (names_of s) n)) (readied w s))
  unfolding names names_of
  note_finds from n g k = came_none (of_note x n) (Receives from (read_note (names_in s.known) n)) (readied w s) (nothing_sent s) (note_least from n g k) (note_quiet from n g)

  -- ---- where each vat knows only vats of the script, deliver notes are put to other vats of it

  goes_to : (k : KnowsVats script) (t : Vat Name) (to : ℕ) (n : Note Name) → GoesOk (Ok true (inside script) w.vats v s there (low_at script w h v s there) t) to n → GoesToVat (length script.vats) v to n
  goes_to k t to (Deliver m n verb ys) g = (g.3 k, g.2)
  goes_to k t to other g = tt

  all_go : (k : KnowsVats script) (t : Vat Name) → AllOf (PutOk (Ok true (inside script) w.vats v s there (low_at script w h v s there) t)) t.outbox → AllOf (λ (p : Put Name). GoesToVat (length script.vats) v p.to p.note) t.outbox
  all_go k t g = all_map (λ p i. goes_to k t p.to p.note i.1) t.outbox g

  whole_puts : (k : KnowsVats script) (r : Vat Name) (d : Done Name (Unit {0})) → Ends S nothing r d → PutsToVats (length script.vats) v d
  whole_puts k r (Gives a t) i = let g = i.1 in let p = g.parts in all_go k t p.outbox
  whole_puts k r other i = tt

  named_puts : (k : KnowsVats script) (r : Vat Name) (d : Done Name (Unit {0})) → Ends (T (inside script) w.vats v s there (low_at script w h v s there) word) nothing r d → PutsToVats (length script.vats) v d
  named_puts k r (Gives a t) i = let g = i.1 in let p = g.parts in all_go k t p.outbox
  named_puts k r other i = tt

  ended_puts : (k : KnowsVats script) (r : Vat Name) (d : Done Name (Unit {0})) → Ended true (inside script) w.vats v s there (low_at script w h v s there) word w.vats w.drawn r d → PutsToVats (length script.vats) v d
  ended_puts k r (Gives a t) i = let g = i.1 in let p = g.parts in all_go k t p.outbox
  ended_puts k r other i = tt

  pub opens_put : KnowsVats script → (p : Program) → slice_get script.vats v ≡ Some p → PutsToVats (length script.vats) v (does (names script v) (Opens p.tree script.depth (Root v) (given script.vats p.knows)) (readied w s))
  unfolding does names
  opens_put k p e = whole_puts k (readied w s) (eval.opening (naming word v) p.tree script.depth (Root v) (given script.vats p.knows) (readied w s)) (opens_ends p e)

  pub takes_put : KnowsVats script → (m : Message Name) (ms : List (Message Name)) → s.queue ≡ m ∷ ms → PutsToVats (length script.vats) v (does (names script v) (Takes (tree_at script.vats v) script.depth m) (readied w (record s { queue = ms })))
  unfolding does names eval.taking ◌>>=◌ ◌>>◌ and_then new_activation tell
  takes_put k m ms e = let ready = taken_ready m ms e in let more = ready.1 in let r : Vat Name = readied w (record s { queue = ms }) in whole_puts k (Taken m r) (Turned m r) (turn_ends m r ready.0 more.0 more.1)

  pub notices_put : KnowsVats script → (u : ℕ) → PutsToVats (length script.vats) v (does (names script v) (Notices u) (readied w s))
  unfolding does names
  notices_put k u = named_puts k (readied w s) (notice (naming word v) u (readied w s)) ((fine_notice (naming word v) (T (inside script) w.vats v s there (low_at script w h v s there) word) (under (inside script) w.vats v s there (low_at script w h v s there) word) {C = Nothing} u).after (readied w s) ready_sound tt)

  pub note_put : KnowsVats script → (from : ℕ) (n : Note Name) → NoteOk (Told script w) n → PutsToVats (length script.vats) v (does (names script v) (Receives from (read_note (names_of s) n)) (readied w s))
  unfolding does names names_of
  note_put k from n g = ended_puts k (readied w s) (arrive (naming word v) from (read_note (names_in s.known) n) (readied w s)) ((reads_note true (inside script) w.vats v s there (low_at script w h v s there) word w.vats w.drawn from (names_in s.known) n g).after (readied w s) ready_sound (knows_ready script v w s s there refl refl h stands.parts stands.kept) tt)
