-- In each world of a run with hostile vats the carries of a message, and what it weighs, are no more than twice its sends and the times that frames brought it.
use Rattle.std.proofs.Common.{◌≡◌, ℕ, zero, ◌+◌, ◌≤◌, Bool, true, false, not, List, [], ◌∷◌, ◌++◌, Option, Some, None, refl, sym, ◌∙◌, ap, subst, length, codes, inl, inr, ◌⊎◌, arith}
use Rattle.std.specs.Prelude.{slice_get, ◌&&◌}
use Rattle.def_machine.specs.Values.{Broken, Name, Root}
use Rattle.def_machine.specs.State.{Message, Note, Deliver, SettledTo, Elsewhere, Put, Vat, Gives, Plain, is_in, send_out}
use Rattle.law_machine.specs.Machine.Steps.{Step, Opens as Starts, Takes, Receives, Notices, does}
use Rattle.law_machine.specs.Run.Moves.{went, without}
use Rattle.law_adversary.specs.Moves.{entered_at, sight_at}
use Rattle.def_run.specs.Draws.{draw_word}
use Rattle.def_run.specs.World as world
use Rattle.def_run.specs.World.{Script, Program, Opens, Entry, Turn, Carry, CutLink, NoticeLink, Event, Turned, Carried, NoticedAt, CutAt, Idle, Link, World, Goes, names, names_of, readied, read_note}
use Rattle.def_hostile.specs.Hostile as hostile
use Rattle.def_hostile.specs.Hostile.{Play}
use Rattle.law_fate.specs.Name.Names.{AllOf}
use Rattle.law_fate.proofs.Name.Facts.{all_map, all_end}
use Rattle.law_fate.specs.Fates.Fate.{total, at_vat, of_note, places, sent_by, sent, sent_in}
use Rattle.law_fate.specs.Fates.Lasting.{Each, NoteWell, AllWell, PlacesLast, StepComes}
use Rattle.law_fate.specs.Fates.Carry.{carried_by, carries, weight, held_at, put_weight, load, vat_weight}
use Rattle.law_fate.specs.Fates.Sound.{NoteSound, Sound, StepArrives}
use Rattle.law_fate.specs.Fates.CarryLaws.{Lightened, note_leaves, leaves, AfterLightened}
use Rattle.law_fate.proofs.Fates.RunCounts.{total_append, total_put, sends_told, Apart, AllApart}
use Rattle.law_fate.proofs.Fates.RunAccount.{no_cut_line}
use Rattle.law_fate.proofs.Fates.RunFates.{begins_fated}
use Rattle.law_fate.proofs.Fates.RunWell.{note_comes}
use Rattle.law_fate.proofs.Fates.PlacesSteps.{steps_keep_places}
use Rattle.law_fate.proofs.Fates.StepsLight.{steps_lighten}
use Rattle.law_fate.proofs.Fates.WorldLight.{VatSound, note_arrives, note_pays, none_carried, fresh_weighs, links_from_weigh, put_at_or, fresh_sound}
use Rattle.law_reference.specs.Reference.Notes.{IsBetween}
use Rattle.law_reference.proofs.Reference.NotesLift.{links_from_fit}
use Rattle.law_hostile.proofs.EnteredNames.{keeps_ends}
use Rattle.law_hostile.proofs.Links.{with_link_holds, found_holds}
use Rattle.law_injected.specs.HostileRuns.{IsHostile}
use Rattle.law_lawful.specs.Lawful.{AnyWord}
use Rattle.law_lawful.proofs.Moved.{left_fits}
use Rattle.law_lawful.proofs.Reached.{reached_fits}
use Rattle.law_scenes.specs.Doings.{IsQuiet, IsOwn, IsTakenFor, itself, broken, Swallowing, Receiving, Saying, IsReal, start, opened, entered, happened, swallowed, received, said}
use Rattle.law_scenes.proofs.Said.{hear_inert, speaks, Speaks}
use Rattle.law_scenes.proofs.Received.{Came, came}
use Rattle.law_scenes.proofs.Reached.{real_reached}
use Rattle.law_scenes.proofs.Scenes.{put_went, said_history}
use Rattle.law_hostile_fate.specs.Brought.{where_so, brought_by, brought}
use Rattle.law_hostile_fate.proofs.Account.{none_told}
use Rattle.law_hostile_carry.proofs.Settles.{frames_settle_well}
use Rattle.law_hostile_carry.proofs.Weights.{told_weight, puts_weigh, says_weigh, cuts_weigh, first_weighs, told_less, bears_none, one_less, weighs, entered_weighs, entered_well}

-- ---- small things

end_none : {A : Type 0} (xs : List A) → xs ++ [] ≡ xs
end_none [] = refl
end_none (x ∷ xs) = ap (λ r. x ∷ r) (end_none xs)

each_all : {A : Type 0} (P : A → Type 0) (xs : List A) → Each P xs → AllOf P xs
each_all P [] h = tt
each_all P (x ∷ xs) h = (h.0, each_all P xs h.1)

apart_all : (ls : List Link) → AllApart ls → AllOf Apart ls
apart_all [] h = tt
apart_all (l ∷ ls) h = (h.0, apart_all ls h.1)

both_all : {A : Type 0} (P Q : A → Type 0) (xs : List A) → AllOf P xs → AllOf Q xs → AllOf (λ x. P x × Q x) xs
both_all P Q [] h k = tt
both_all P Q (x ∷ xs) h k = ((h.0, k.0), both_all P Q xs h.1 k.1)

not_true : (b : Bool) → (b ≡ true → ⊥) → b ≡ false
not_true true f = absurd (f refl)
not_true false f = refl

put_all : (P : ℕ → Vat Name → Type 0) (v : ℕ) (t : Vat Name) (xs : List (Vat Name)) → P v t → ((u : ℕ) (s : Vat Name) → slice_get xs u ≡ Some s → P u s) → (u : ℕ) (s : Vat Name) → slice_get (world.put_at v t xs) u ≡ Some s → P u s
put_all P v t xs h all u s e = either (put_at_or v t xs u s e)
  where
    either : ((v ≡ u) × (t ≡ s)) ⊎ (slice_get xs u ≡ Some s) → P u s
    either (inl i) = subst (λ a. P a s) i.0 (subst (λ z. P v z) i.1 h)
    either (inr i) = all u s i

none_among : (ns : List (Note Name)) → AllOf (λ (n : Note Name). ⊥) ns → ns ≡ []
none_among [] h = refl
none_among (n ∷ ns) h = absurd h.0

no_first : (n : Note Name) (ns : List (Note Name)) → [] ≡ n ∷ ns → ⊥
no_first n ns e = cc

is_so : (b : Bool) → b ≡ false → b ≡ true → ⊥
is_so b e f = cc

module _ (hs : List ℕ) where
  -- A link between two vats, with notes that are well; between two hostile ones there are none.
  abbrev LinkOk : Link → Type 0
  LinkOk l = Apart l × AllOf NoteWell l.notes × (is_in l.from hs ≡ true → is_in l.to hs ≡ true → l.notes ≡ [])

  pushed_ok : (n : Note Name) (l : Link) → NoteWell n → (is_in l.from hs ≡ true → is_in l.to hs ≡ true → ⊥) → LinkOk l → LinkOk (world.pushed n l)
  unfolding world.pushed
  pushed_ok n l g o h = either l.cut
    where
      either : (b : Bool) → LinkOk (elim b [ true ↦ record l { log = l.log ++ n ∷ [] } | false ↦ record l { notes = l.notes ++ n ∷ []; log = l.log ++ n ∷ [] } ])
      either true = h
      either false = (h.0, all_end NoteWell l.notes n h.1 g, λ i j. absurd (o i j))

  puts_ok : (v : ℕ) (ps : List (Put Name)) (ls : List Link) → (is_in v hs ≡ true → AllOf (λ (p : Put Name). is_in p.to hs ≡ true → ⊥) ps) → AllOf (λ (p : Put Name). NoteWell p.note) ps → AllOf LinkOk ls → AllOf LinkOk (world.push_all v ps ls)
  unfolding world.push_all
  puts_ok v [] ls o g h = h
  puts_ok v (p ∷ ps) ls o g h = puts_ok v ps (world.with_link (world.pushed p.note) v p.to ls) (λ i. (o i).1) g.1
      (with_link_holds LinkOk (world.pushed p.note) v p.to (λ l e f k. pushed_ok p.note l g.0 (λ i j. (o (subst (λ a. is_in a hs ≡ true) e i)).0 (subst (λ a. is_in a hs ≡ true) f j)) k) ls h)

  severed_ok : (v u : ℕ) (ls : List Link) → AllOf LinkOk ls → AllOf LinkOk (world.with_link world.severed_link v u ls)
  unfolding world.severed_link
  severed_ok v u ls h = with_link_holds LinkOk world.severed_link v u (λ l e f k. (k.0, tt, λ i j. refl)) ls h

-- where a note that is between two vats goes
sound_note : (v u : ℕ) (n : Note Name) → IsBetween v u n → NoteSound v u n
sound_note v u (Deliver d n verb ys) h = h
sound_note v u (SettledTo n y) h = h
sound_note v u (Elsewhere n c) h = h
sound_note v u other h = tt

twice_less : (a b c d : ℕ) → a ≤ b → b ≤ c → a ≤ c
twice_less a b c d h k = omega (arith, h, k)

module _ (play : Play) (x : Name) where
  abbrev hs : List ℕ
  hs = play.hostile

  abbrev script : Script
  script = play.script

  abbrev Word : ℕ → ℕ
  Word = draw_word script.key

  -- what holds of each world, with so much in hand
  pub record Borne (hand : ℕ) (w : World) : Type 0 where
    pub kept : carries x w.history + (total (vat_weight x) w.vats + total (told_weight hs x) w.links) + hand ≤ (sent x w.history + brought hs x w.history) + (sent x w.history + brought hs x w.history)
    pub vats : (v : ℕ) (s : Vat Name) → slice_get w.vats v ≡ Some s → (IsHostile play v → ⊥) → VatSound v s
    pub idle : (v : ℕ) (s : Vat Name) → slice_get w.vats v ≡ Some s → IsHostile play v → at_vat x s ≡ 0
    pub links : AllOf (LinkOk hs) w.links

  less_hand : (hand less : ℕ) (w : World) → less ≤ hand → Borne hand w → Borne less w
  less_hand hand less w i h = let k = h.kept in record { kept = omega (arith, i, k); vats = h.vats; idle = h.idle; links = h.links }

  hostile_in : (v : ℕ) → IsHostile play v → is_in v hs ≡ true
  unfolding hostile.is_hostile
  hostile_in v i = i

  honest_in : (v : ℕ) → (IsHostile play v → ⊥) → is_in v hs ≡ false
  unfolding hostile.is_hostile
  honest_in v o = not_true (is_in v hs) o

  -- ---- lines

  -- lines of which a frame brings and carries so much, and that tell of no send
  record Lines (c b : ℕ) (es : List Event) : Type 0 where
    carry : total (carried_by x) es ≤ c
    bring : b ≤ total (brought_by hs x) es

  line_added : (hand c b : ℕ) (w : World) (es : List Event) → Borne hand w → Lines c b es → c ≤ hand + (b + b) → Borne 0 (record w { history = w.history ++ es })
  unfolding carries sent brought
  line_added hand c b w es h l room = let k = h.kept in let i = total_append (carried_by x) w.history es in let j = total_append (sent_by x) w.history es in let m = total_append (brought_by hs x) w.history es in let p = l.carry in let q = l.bring in
      record { kept = omega arith; vats = h.vats; idle = h.idle; links = h.links }

  one_line : (e : Event) → carried_by x e ≡ 0 → Lines 0 0 (e ∷ [])
  unfolding total
  one_line e i = record { carry = omega (arith, i); bring = omega arith }

  -- ---- a step of an honest vat

  stepped : (v : ℕ) (w : World) (head : List Event) (hand c d b : ℕ) (s q t r : Vat Name) → slice_get w.vats v ≡ Some s → (IsHostile play v → ⊥) → Borne hand w → vat_weight x q ≤ vat_weight x s → Lines d b head → d + c ≤ hand + (b + b)
      → r.known ≡ q.known → r.outbox ≡ [] → r.happened ≡ [] → Lightened v x c r t → AllOf (λ (p : Put Name). NoteWell p.note) t.outbox → Borne 0 (went v w head t)
  unfolding went carries sent brought brought_by load vat_weight put_weight sent_in
  stepped v w head hand c d b s q t r e o h less lines room known out quiet a wells =
      let es : List Event = world.events_of w.links v t.happened in
      let before = h.kept in let after = a.kept in let sound = a.sound in
      let at_t = total_put (vat_weight x) v w.vats s t e in let pushed = puts_weigh hs x v t.outbox w.links in
      let sends = sends_told w.links v x t.happened in let carried = none_carried x w.links v t.happened in
      let brings : total (brought_by hs x) es ≡ 0 = none_told x (brought_by hs x) (λ u y. refl) (λ y. refl) w.links v t.happened in
      let k1 = ap (held_at x) known in let k2 : put_weight x r.outbox ≡ 0 = ap (put_weight x) out in let k3 : sent_in x r.happened ≡ 0 = ap (sent_in x) quiet in
      let a1 = total_append (sent_by x) (w.history ++ head) es in let a2 = total_append (sent_by x) w.history head in
      let b1 = total_append (carried_by x) (w.history ++ head) es in let b2 = total_append (carried_by x) w.history head in
      let c1 = total_append (brought_by hs x) (w.history ++ head) es in let c2 = total_append (brought_by hs x) w.history head in
      let l1 = lines.carry in let l2 = lines.bring in
      record {
        kept = omega arith;
        vats = put_all (λ u z. (IsHostile play u → ⊥) → VatSound u z) v t w.vats (λ p. record { same = sound.same; well = sound.well; names = sound.names; own = sound.own; notes = tt }) h.vats;
        idle = put_all (λ u z. IsHostile play u → at_vat x z ≡ 0) v t w.vats (λ bad. absurd (o bad)) h.idle;
        links = puts_ok hs v t.outbox w.links (λ i. absurd (is_so (is_in v hs) (honest_in v o) i)) wells h.links;
      }

  module _ (v : ℕ) (w z : World) (head : List Event) (hand d b : ℕ) (s q t : Vat Name) (what : Step Name Name) where
    ready_is : ((readied z q).known ≡ q.known) × ((readied z q).outbox ≡ []) × ((readied z q).happened ≡ [])
    unfolding readied
    ready_is = (refl, refl, refl)

    ready_sound : VatSound v q → Sound v (readied z q)
    unfolding readied
    ready_sound h = h

    ready_well : VatSound v q → AllWell (readied z q)
    unfolding readied
    ready_well h = (h.well, tt)

    step_borne : slice_get w.vats v ≡ Some s → (IsHostile play v → ⊥) → Borne hand w → VatSound v q → vat_weight x q ≤ vat_weight x s → Lines d b head → d + leaves x what ≤ hand + (b + b) → StepComes what → StepArrives v what
        → does (names script v) what (readied z q) ≡ Gives tt t → Borne 0 (went v w head t)
    unfolding names
    step_borne e o h sound less lines room comes arrives gives =
        let light : Lightened v x (leaves x what) (readied z q) t = subst (λ k. AfterLightened v x (leaves x what) (readied z q) k) gives (steps_lighten Word v what (readied z q) x (ready_sound sound) comes arrives) in
        let places : PlacesLast (λ to. false) (Root 0) (readied z q) (Gives (tt {0}) t) = subst (λ k. PlacesLast (λ to. false) (Root 0) (readied z q) k) gives (steps_keep_places Word v what (readied z q) (λ to. false) (Root 0) (ready_well sound) comes) in
        stepped v w head hand (leaves x what) d b s q t (readied z q) e o h less lines room ready_is.0 ready_is.1 ready_is.2 light (each_all (λ (p : Put Name). NoteWell p.note) t.outbox places.0.1)

  quiet_room : 0 + 0 ≤ 0 + (0 + 0)
  quiet_room = omega arith

  alone : (v : ℕ) (w y : World) (head : List Event) (n : ℕ) (what : Step Name Name) (s q : Vat Name) → leaves x what ≡ 0 → StepComes what → StepArrives v what → slice_get w.vats v ≡ Some s → (IsHostile play v → ⊥) → VatSound v q → vat_weight x q ≤ vat_weight x s → Lines 0 0 head
      → world.within v w head n (does (names script v) what) (Some q) ≡ Goes y → Borne 0 w → Borne 0 y
  unfolding world.within
  alone v w y head n what s q none comes arrives e o sound less lines i h = let g = put_went v w y head n _ i in
      subst (λ z. Borne 0 z) (sym g.2) (step_borne v w w head 0 0 0 s q g.0 what e o h sound less lines (omega (arith, none)) comes arrives g.1)

  open_at : (v : ℕ) (p : Program) (w y : World) (o : Option (Vat Name)) → (IsHostile play v → ⊥) → slice_get w.vats v ≡ o → world.within v w (Opens v ∷ []) v (does (names script v) (Starts p.tree script.depth (Root v) (world.given script.vats p.knows))) o ≡ Goes y → Borne 0 w → Borne 0 y
  unfolding world.within leaves carried_by
  open_at v p w y None o e i h = cc
  open_at v p w y (Some s) o e i h = alone v w y (Opens v ∷ []) v (Starts p.tree script.depth (Root v) (world.given script.vats p.knows)) s s refl tt tt e o (h.vats v s e o) (omega arith) (one_line (Opens v) refl) i h

  opened_borne : (v : ℕ) (p : Program) (w y : World) → (IsHostile play v → ⊥) → world.open_vat script v p w ≡ Goes y → Borne 0 w → Borne 0 y
  unfolding world.open_vat does
  opened_borne v p w y o i h = open_at v p w y (slice_get w.vats v) o refl i h

  going_is : (w y : World) → Goes w ≡ Goes y → y ≡ w
  going_is w y e = cc

  quiet_borne : (e : Event) (w : World) → carried_by x e ≡ 0 → Borne 0 w → Borne 0 (record w { history = w.history ++ e ∷ [] })
  quiet_borne e w i h = line_added 0 0 0 w (e ∷ []) h (one_line e i) quiet_room

  idle_borne : (k : ℕ) (w y : World) → world.idle script k w ≡ Goes y → Borne 0 w → Borne 0 y
  unfolding world.idle carried_by
  idle_borne k w y i h = subst (λ z. Borne 0 z) (sym (going_is _ y i)) (quiet_borne (Idle k) w refl h)

  queue_borne : (k v : ℕ) (w y : World) (s : Vat Name) (ms : List (Message Name)) → (IsHostile play v → ⊥) → slice_get w.vats v ≡ Some s → world.turn_queue script k v w s ms ≡ Goes y → Borne 0 w → Borne 0 y
  unfolding world.turn_queue does leaves carried_by vat_weight
  queue_borne k v w y s [] o e i h = idle_borne k w y i h
  queue_borne k v w y s (m ∷ ms) o e i h = alone v w y (Turned k v ∷ []) (world.step_number script k) (Takes (world.tree_at script.vats v) script.depth m) s (record s { queue = ms }) refl tt tt e o (h.vats v s e o) (omega arith) (one_line (Turned k v) refl) i h

  turn_borne : (k v : ℕ) (w y : World) (o : Option (Vat Name)) → (IsHostile play v → ⊥) → slice_get w.vats v ≡ o → world.turn script k v w o ≡ Goes y → Borne 0 w → Borne 0 y
  unfolding world.turn
  turn_borne k v w y None o e i h = idle_borne k w y i h
  turn_borne k v w y (Some s) o e i h = queue_borne k v w y s s.queue o e i h

  notice_borne : (k v u : ℕ) (w y : World) (o : Option (Vat Name)) → (IsHostile play v → ⊥) → slice_get w.vats v ≡ o → world.within v w (NoticedAt k v u ∷ []) (world.step_number script k) (does (names script v) (Notices u)) o ≡ Goes y → Borne 0 w → Borne 0 y
  unfolding world.within leaves carried_by
  notice_borne k v u w y None o e i h = cc
  notice_borne k v u w y (Some s) o e i h = alone v w y (NoticedAt k v u ∷ []) (world.step_number script k) (Notices u) s s refl tt tt e o (h.vats v s e o) (omega arith) (one_line (NoticedAt k v u) refl) i h

  cut_links : (v u : ℕ) (w : World) → Borne 0 w → Borne 0 (record w { links = world.with_link world.severed_link u v (world.with_link world.severed_link v u w.links) })
  cut_links v u w h = let k = h.kept in let a = cuts_weigh hs x v u w.links in let b = cuts_weigh hs x u v (world.with_link world.severed_link v u w.links) in
      record { kept = omega (arith, k, a, b); vats = h.vats; idle = h.idle; links = severed_ok hs u v (world.with_link world.severed_link v u w.links) (severed_ok hs v u w.links h.links) }

  cut_borne : (k v u : ℕ) (w y : World) → world.cut script k v u w ≡ Goes y → Borne 0 w → Borne 0 y
  unfolding world.cut carried_by
  cut_borne k v u w y i h = subst (λ z. Borne 0 z) (sym (going_is _ y i)) (line_added 0 0 0 (record w { links = world.with_link world.severed_link u v (world.with_link world.severed_link v u w.links) })
      (CutAt k v u ∷ (world.lost_on script (world.link_at v u w.links) ++ world.lost_on script (world.link_at u v w.links))) (cut_links v u w h)
      (record { carry = let a = no_cut_line x script v u k w.links (carried_by x) refl (λ m. refl) in omega (arith, a); bring = omega arith }) quiet_room)

  entered_borne : (entry : Entry) (k : ℕ) (w y : World) → IsOwn play entry → world.step script entry k w ≡ Goes y → Borne 0 w → Borne 0 y
  unfolding world.step does
  entered_borne (Turn v) k w y o i h = turn_borne k v w y (slice_get w.vats v) o refl i h
  entered_borne (Carry v u) k w y o i h = absurd o
  entered_borne (CutLink v u) k w y o i h = cut_borne k v u w y i h
  entered_borne (NoticeLink v u) k w y o i h = notice_borne k v u w y (slice_get w.vats v) o refl i h

  happened_borne : (e : Event) (w : World) → IsQuiet e → Borne 0 w → Borne 0 (record w { history = w.history ++ e ∷ [] })
  unfolding carried_by
  happened_borne (Idle k) w q h = quiet_borne (Idle k) w refl h
  happened_borne (NoticedAt k v u) w q h = quiet_borne (NoticedAt k v u) w refl h
  happened_borne (Carried k v u n bytes) w q h = quiet_borne (Carried k v u n bytes) w (q x) h
  happened_borne other w q h = absurd q

  -- ---- vats, links and lines alone matter

  same_borne : (hand : ℕ) (w y : World) → y.history ≡ w.history → y.vats ≡ w.vats → y.links ≡ w.links → Borne hand w → Borne hand y
  same_borne hand w y e f g h = record { kept = rw (e, f, g) h.kept; vats = λ v s i. h.vats v s (subst (λ vs. slice_get vs v ≡ Some s) f i); idle = λ v s i. h.idle v s (subst (λ vs. slice_get vs v ≡ Some s) f i); links = subst (λ ls. AllOf (LinkOk hs) ls) (sym g) h.links }

  -- a vat that bears no more
  put_borne : (hand u : ℕ) (w : World) (s t : Vat Name) → slice_get w.vats u ≡ Some s → vat_weight x t ≤ vat_weight x s → ((IsHostile play u → ⊥) → VatSound u t) → (IsHostile play u → at_vat x t ≡ 0) → Borne hand w → Borne hand (record w { vats = world.put_at u t w.vats })
  put_borne hand u w s t e less sound none h = let k = h.kept in let a = total_put (vat_weight x) u w.vats s t e in record {
    kept = omega (arith, k, a, less);
    vats = put_all (λ v z. (IsHostile play v → ⊥) → VatSound v z) u t w.vats sound h.vats;
    idle = put_all (λ v z. IsHostile play v → at_vat x z ≡ 0) u t w.vats none h.idle;
    links = h.links;
  }

  went_is : (v : ℕ) (w : World) (head : List Event) (t : Vat Name) → ((went v w head t).history ≡ w.history ++ head ++ world.events_of w.links v t.happened) × ((went v w head t).vats ≡ world.put_at v t w.vats) × ((went v w head t).links ≡ world.push_all v t.outbox w.links)
  unfolding went
  went_is v w head t = (refl, refl, refl)

  -- one that puts and tells nothing, behind that line
  silent_borne : (hand c b u : ℕ) (w : World) (head : List Event) (s t : Vat Name) → slice_get w.vats u ≡ Some s → vat_weight x t ≤ vat_weight x s → ((IsHostile play u → ⊥) → VatSound u t) → (IsHostile play u → at_vat x t ≡ 0) → t.outbox ≡ [] → t.happened ≡ [] → Lines c b head → c ≤ hand + (b + b) → Borne hand w → Borne 0 (went u w head t)
  unfolding world.events_of world.push_all
  silent_borne hand c b u w head s t e less sound none out quiet lines room h = let g = went_is u w head t in let z : World = record w { vats = world.put_at u t w.vats } in
      same_borne 0 (record z { history = z.history ++ head }) (went u w head t) (g.0 ∙ ap (λ es. w.history ++ head ++ world.events_of w.links u es) quiet ∙ end_none (w.history ++ head)) g.1 (g.2 ∙ ap (λ ps. world.push_all u ps w.links) out)
      (line_added hand c b z head (put_borne hand u w s t e less sound none h) lines room)

  -- ---- a note leaves its link

  without_is : (v u : ℕ) (ns : List (Note Name)) (w : World) → ((without v u ns w).history ≡ w.history) × ((without v u ns w).vats ≡ w.vats) × ((without v u ns w).links ≡ world.with_link (world.with_notes ns) v u w.links)
  unfolding without
  without_is v u ns w = (refl, refl, refl)

  link_found : (v u : ℕ) (w : World) (l : Link) → world.link_at v u w.links ≡ Some l → Borne 0 w → LinkOk hs l × (l.from ≡ v) × (l.to ≡ u)
  link_found v u w l e h = found_holds (LinkOk hs) v u w.links l h.links e

  notes_well : (v u : ℕ) (w : World) (l : Link) (n : Note Name) (ns : List (Note Name)) → world.link_at v u w.links ≡ Some l → l.notes ≡ n ∷ ns → Borne 0 w → AllOf NoteWell (n ∷ ns)
  notes_well v u w l n ns e i h = subst (λ ms. AllOf NoteWell ms) i (link_found v u w l e h).0.1

  -- no hostile vat says anything to one
  not_both : (v u : ℕ) (w : World) (l : Link) (n : Note Name) (ns : List (Note Name)) → world.link_at v u w.links ≡ Some l → l.notes ≡ n ∷ ns → Borne 0 w → is_in v hs ≡ true → is_in u hs ≡ true → ⊥
  not_both v u w l n ns e i h a b = let f = link_found v u w l e h in no_first n ns (sym (f.0.2 (subst (λ z. is_in z hs ≡ true) (sym f.1) a) (subst (λ z. is_in z hs ≡ true) (sym f.2) b)) ∙ i)

  from_link : (v u : ℕ) (w : World) (l : Link) (n : Note Name) (ns : List (Note Name)) → world.link_at v u w.links ≡ Some l → l.notes ≡ n ∷ ns → Borne 0 w → Borne (where_so (not (is_in v hs)) (weight x n)) (without v u ns w)
  unfolding without world.with_notes
  from_link v u w l n ns e i h = let k = h.kept in let a = first_weighs hs x v u w.links l n ns e i in let well = notes_well v u w l n ns e i h in record {
    kept = omega (arith, k, a);
    vats = h.vats;
    idle = h.idle;
    links = with_link_holds (LinkOk hs) (world.with_notes ns) v u (λ j f g p. (p.0, well.1, λ q r. absurd (not_both v u w l n ns e i h (subst (λ z. is_in z hs ≡ true) f q) (subst (λ z. is_in z hs ≡ true) g r)))) w.links h.links;
  }

  without_there : (v u : ℕ) (ns : List (Note Name)) (w : World) (t : ℕ) (s : Vat Name) → slice_get w.vats t ≡ Some s → slice_get (without v u ns w).vats t ≡ Some s
  unfolding without
  without_there v u ns w t s e = e

  -- ---- a note comes to a hostile vat

  where_true : (b : Bool) (n : ℕ) → b ≡ false → where_so (not b) n ≡ n
  unfolding where_so
  where_true false n e = refl
  where_true true n e = cc

  carried_line : (k v u : ℕ) (n : Note Name) (frame : List ℕ) → Lines (of_note x n) 0 (Carried k v u n frame ∷ [])
  unfolding total carried_by
  carried_line k v u n frame = record { carry = omega arith; bring = omega arith }

  ready_none : (w : World) (s t : Vat Name) → t.outbox ≡ (readied w s).outbox → t.happened ≡ (readied w s).happened → at_vat x t ≡ at_vat x (readied w s) → (t.outbox ≡ []) × (t.happened ≡ []) × (at_vat x t ≡ at_vat x s)
  unfolding readied at_vat
  ready_none w s t e f g = (e, f, g)

  bears_less : (s t : Vat Name) → at_vat x t ≡ 0 → vat_weight x t ≤ vat_weight x s
  bears_less s t e = let a = bears_none x t e in omega (arith, a)

  swallowed_borne : (k v u : ℕ) (w y : World) (l : Link) (n : Note Name) (ns : List (Note Name)) → world.link_at v u w.links ≡ Some l → l.notes ≡ n ∷ ns → Swallowing play k v u w y n ns → Borne 0 w → Borne 0 y
  swallowed_borne k v u w y l n ns i j s h = let z : World = without v u ns w in let q = hear_inert script u x n (readied w s.before) s.after s.hears in let r = ready_none w s.before s.after q.put q.happened q.held in
      let none : at_vat x s.after ≡ 0 = r.2 ∙ h.idle u s.before s.there s.bad in let far : is_in v hs ≡ false = not_true (is_in v hs) (λ a. not_both v u w l n ns i j h a (hostile_in u s.bad)) in
      let room : of_note x n ≤ where_so (not (is_in v hs)) (weight x n) + (0 + 0) = let a = where_true (is_in v hs) (weight x n) far in let b = (weighs x n).0 in omega (arith, a, b) in
      subst (λ a. Borne 0 a) (sym s.is) (silent_borne (where_so (not (is_in v hs)) (weight x n)) (of_note x n) 0 u z (Carried k v u n (world.next_frame v u w.connections) ∷ []) s.before s.after (without_there v u ns w u s.before s.there)
      (bears_less s.before s.after none) (λ o. absurd (o s.bad)) (λ b. none) r.0 r.1 (carried_line k v u n _) room (from_link v u w l n ns i j h))

  -- ---- a hostile vat says a note

  sent_is : (u : ℕ) (n : Note Name) (t r : Vat Name) → send_out u n t ≡ Gives tt r → (r.outbox ≡ t.outbox ++ record { to = u; note = n } ∷ []) × (at_vat x r ≡ at_vat x t)
  unfolding send_out at_vat
  sent_is u n t r e = out _ r e (refl, refl)
    where
      out : (z r : Vat Name) → Gives (tt {0}) z ≡ Gives (tt {0}) r → (z.outbox ≡ t.outbox ++ record { to = u; note = n } ∷ []) × (at_vat x z ≡ at_vat x t) → (r.outbox ≡ t.outbox ++ record { to = u; note = n } ∷ []) × (at_vat x r ≡ at_vat x t)
      out z r f k = let same : z ≡ r = cc in rw same at k

  said_borne : (h u : ℕ) (w y : World) → Saying play h u w y → Borne 0 w → Borne 0 y
  said_borne h u w y s g = let q : Vat Name = (s.spoken).record_of in let facts : Speaks x h s.note q s.ready = speaks play x w h u s.ready s.note s.op s.new s.spoken in let sends = sent_is u s.note s.ready s.after s.sends in
      let none : at_vat x s.after ≡ 0 = sends.1 ∙ facts.held ∙ g.idle h q (s.spoken).speaks s.bad in let put : s.after.outbox ≡ record { to = u; note = s.note } ∷ [] = sends.0 ∙ ap (λ (ps : List (Put Name)). ps ++ record { to = u; note = s.note } ∷ []) facts.put in
      let z : World = record w { vats = world.put_at h s.after w.vats } in let b = put_borne 0 h w q s.after (s.spoken).speaks (bears_less q s.after none) (λ o. absurd (o s.bad)) (λ i. none) g in
      let ls : List Link = world.push_all h s.after.outbox w.links in let e = went_is h w [] s.after in
      same_borne 0 (record z { links = ls }) y (said_history play h u w y s) (ap (λ (a : World). a.vats) s.is ∙ e.1) (ap (λ (a : World). a.links) s.is ∙ e.2)
      (record {
        kept = let k = b.kept in let a = says_weigh hs x h (hostile_in h s.bad) s.after.outbox w.links in omega (arith, k, a);
        vats = b.vats;
        idle = b.idle;
        links = puts_ok hs h s.after.outbox w.links (λ i. subst (λ (ps : List (Put Name)). AllOf (λ (p : Put Name). is_in p.to hs ≡ true → ⊥) ps) (sym put) ((λ j. is_so (is_in u hs) (honest_in u (s.spoken).honest) j), tt))
            (subst (λ (ps : List (Put Name)). AllOf (λ (p : Put Name). NoteWell p.note) ps) (sym put) (frames_settle_well play w h u s.ready s.note s.op s.new s.spoken, tt)) g.links;
      })

  -- ---- a note comes to an honest vat

  where_and : (a b : Bool) (n : ℕ) → b ≡ false → where_so a n ≤ where_so (a && not b) n
  unfolding where_so
  where_and true false n e = omega arith
  where_and false b n e = omega arith
  where_and a true n e = cc

  received_line : (k v u : ℕ) (m : Note Name) (frame : List ℕ) → is_in u hs ≡ false → Lines (of_note x m) (where_so (is_in v hs) (of_note x m)) (Carried k v u m frame ∷ [])
  unfolding total carried_by brought_by
  received_line k v u m frame e = let a = where_and (is_in v hs) (is_in u hs) (of_note x m) e in record { carry = omega arith; bring = omega (arith, a) }

  has_room : (b : Bool) (c p q : ℕ) → p + c ≤ q → q ≤ p + p → p + c ≤ where_so (not b) q + (where_so b p + where_so b p)
  unfolding where_so
  has_room true c p q h k = omega (arith, h, k)
  has_room false c p q h k = omega (arith, h, k)

  ready_parts : (w : World) (s : Vat Name) → ((readied w s).outbox ≡ []) × ((readied w s).happened ≡ []) × (vat_weight x (readied w s) ≡ vat_weight x s) × (at_vat x (readied w s) ≡ at_vat x s)
  unfolding readied vat_weight at_vat
  ready_parts w s = (refl, refl, refl, refl)

  ready_vat : (u : ℕ) (w : World) (s : Vat Name) → VatSound u s → VatSound u (readied w s)
  unfolding readied
  ready_vat u w s h = h

  -- by a broken name no message comes
  broken_leaves : (v : ℕ) (ks : List Name) (p : Name) → leaves x (Receives v (read_note ks (SettledTo p (Plain (Broken (codes "cycle")))))) ≡ 0
  unfolding leaves read_note note_leaves
  broken_leaves v ks p = refl

  module _ (who : ℕ) (bad : IsHostile play who) where
    received_borne : (k v u : ℕ) (w y : World) (l : Link) (n : Note Name) (ns : List (Note Name)) → world.link_at v u w.links ≡ Some l → l.notes ≡ n ∷ ns → IsReal play w → Receiving play k v u w y n ns → Borne 0 w → Borne 0 y
    unfolding leaves
    received_borne k v u w y l n ns i j real r h = subst (λ a. Borne 0 a) (sym r.is) (same_borne 0 _ _ refl refl refl (either (came play w u s v (sight_at w v u s) t m r.receives)))
      where
        s : Vat Name
        s = r.before

        t : Vat Name
        t = r.after

        m : Note Name
        m = entered_at w v u s n

        z : World
        z = without v u ns w

        head : List Event
        head = Carried k v u m (world.next_frame v u w.connections) ∷ []

        hand : ℕ
        hand = where_so (not (is_in v hs)) (weight x n)

        lines : Lines (of_note x m) (where_so (is_in v hs) (of_note x m)) head
        lines = received_line k v u m (world.next_frame v u w.connections) (honest_in u r.honest)

        weight_same : weight x m ≡ weight x n
        weight_same = entered_weighs x u v _ (names_of s) n

        less_twice : weight x n ≤ of_note x m + of_note x m
        less_twice = let a = (weighs x m).1 in let b = weight_same in omega (arith, a, b)

        room : (c : ℕ) → of_note x m + c ≤ weight x m → of_note x m + c ≤ hand + (where_so (is_in v hs) (of_note x m) + where_so (is_in v hs) (of_note x m))
        room c a = has_room (is_in v hs) c (of_note x m) (weight x n) (let b = weight_same in omega (arith, a, b)) less_twice

        there : slice_get z.vats u ≡ Some s
        there = without_there v u ns w u s r.there

        taken : Borne hand z
        taken = from_link v u w l n ns i j h

        vat : VatSound u s
        vat = h.vats u s r.there r.honest

        found : LinkOk hs l × (l.from ≡ v) × (l.to ≡ u)
        found = link_found v u w l i h

        apart : v ≡ u → ⊥
        apart e = found.0.0 (found.1 ∙ e ∙ sym found.2)

        between : IsBetween v u m
        between = keeps_ends u v _ (names_of s) n (left_fits play AnyWord v u l n ns w i j (reached_fits play w (real_reached play who bad real))).1.1

        well : NoteWell m
        well = entered_well u v _ (names_of s) n (notes_well v u w l n ns i j h).0

        comes : (a : World) (b : Note Name) (c : ℕ) → leaves x (Receives v (read_note (names_of s) b)) ≡ c → of_note x m + c ≤ weight x m → NoteWell b → NoteSound v u b → does (names script u) (Receives v (read_note (names_of s) b)) (readied a s) ≡ Gives tt t → Borne 0 (went u z head t)
        comes a b c e pays good sound gives = step_borne u z a head hand (of_note x m) (where_so (is_in v hs) (of_note x m)) s s t (Receives v (read_note (names_of s) b)) there r.honest taken vat (omega arith) lines
            (subst (λ p. of_note x m + p ≤ hand + (where_so (is_in v hs) (of_note x m) + where_so (is_in v hs) (of_note x m))) (sym e) (room c pays)) (note_comes (names_of s) b good) (note_arrives (names_of s) v u b apart sound) gives

        by_kind : (a : World) (b : Note Name) → IsTakenFor w m a b → does (names script u) (Receives v (read_note (names_of s) b)) (readied a s) ≡ Gives tt t → Borne 0 (went u z head t)
        by_kind a b itself gives = comes w m _ refl (note_pays x (names_of s) m) well (sound_note v u m between) gives
        by_kind a b (broken p c word e) gives = comes _ (SettledTo p (Plain (Broken (codes "cycle")))) 0 (broken_leaves v (names_of s) p) (let f = (weighs x m).0 in omega (arith, f)) tt (subst (λ q. IsBetween v u q) e between) gives

        either : Came play w u s v (sight_at w v u s) t m → Borne 0 (went u z head t)
        either (inl e) = let p = ready_parts w s in let a : vat_weight x t ≡ vat_weight x s = ap (vat_weight x) e ∙ p.2 in
            silent_borne hand (of_note x m) (where_so (is_in v hs) (of_note x m)) u z head s t there (omega (arith, a)) (λ o. subst (λ q. VatSound u q) (sym e) (ready_vat u w s vat)) (λ b. absurd (r.honest b)) (ap (λ (q : Vat Name). q.outbox) e ∙ p.0) (ap (λ (q : Vat Name). q.happened) e ∙ p.1) lines
            (let b = room 0 (let f = (weighs x m).0 in omega (arith, f)) in omega (arith, b)) taken
        either (inr (a, b, how, gives)) = by_kind a b how gives

    -- ---- each world of a run

    fated_none : (v : ℕ) (s : Vat Name) → slice_get (world.begins script).vats v ≡ Some s → at_vat x s ≡ 0
    unfolding world.begins places sent total
    fated_none v s e = let a = (begins_fated x script).kept in let b = one_less x (at_vat x) v (world.begins script).vats s e in omega (arith, a, b)

    from_zero : (v : ℕ) (s : Vat Name) → VatSound (0 + v) s → VatSound v s
    from_zero v s h = let i : 0 + v ≡ v = omega arith in subst (λ a. VatSound a s) i h

    links_ok : (ls : List Link) → AllOf Apart ls → AllOf (λ (l : Link). AllOf (λ (n : Note Name). ⊥) l.log × AllOf (λ (n : Note Name). ⊥) l.notes) ls → AllOf (LinkOk hs) ls
    links_ok [] h k = tt
    links_ok (l ∷ ls) h k = ((h.0, all_map (λ n a. absurd a) l.notes k.0.1, λ i j. none_among l.notes k.0.1), links_ok ls h.1 k.1)

    begins_borne : Borne 0 (world.begins script)
    unfolding world.begins carries sent brought total
    begins_borne = let a = fresh_weighs x script zero script.vats in let b = links_from_weigh x script.vats zero script.vats in let c = told_less hs x (world.begins script).links in record {
      kept = omega (arith, a, b, c);
      vats = λ v s e o. from_zero v s (fresh_sound script zero script.vats v s e);
      idle = λ v s e i. fated_none v s e;
      links = links_ok (world.begins script).links (apart_all (world.begins script).links (begins_fated x script).apart) (links_from_fit (λ v u n. ⊥) script.vats zero script.vats);
    }

    pub real_borne : {w : World} → IsReal play w → Borne 0 w
    real_borne start = begins_borne
    real_borne (opened {w = w} {x = y} front rest p o i r e) = opened_borne (length front) p w y o e (real_borne r)
    real_borne (entered {w = w} {x = y} entry k o r e) = entered_borne entry k w y o e (real_borne r)
    real_borne (happened {w = w} e q r) = happened_borne e w q (real_borne r)
    real_borne (swallowed {w = w} {x = y} k v u l n ns i c j r s) = swallowed_borne k v u w y l n ns i j s (real_borne r)
    real_borne (received {w = w} {x = y} k v u l n ns i c j r s) = received_borne k v u w y l n ns i j r s (real_borne r)
    real_borne (said {w = w} {x = y} h u r s) = said_borne h u w y s (real_borne r)
