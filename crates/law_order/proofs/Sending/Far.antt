-- In every world of a run a name of another vat is unsettled at a vat, or broken, or it settled at its host: a vat has names settle to what is not broken, wait or be viewed, where they are its own or where its host told so, and told truly.
use Rattle.std.proofs.Common.{◌≡◌, ℕ, zero, List, ◌∷◌, ◌++◌, Option, Some, None, refl, sym, ap, subst, ◌∙◌, ◌⊎◌, inl, inr}
use Rattle.std.specs.Prelude.{slice_get}
use Rattle.def_machine.specs.Values.{Words, Value, Broken, Name, Root, Promise, Answer, Gift, Msg, naming, host_of}
use Rattle.def_machine.specs.State.{Standing, Unsettled, WaitsOn, Viewed, Settled, Passed, Note, Deliver, Open, SettledTo, Elsewhere, Vat}
use Rattle.def_machine.specs.Refs.{entry_of, standing_in, standing_of}
use Rattle.law_machine.specs.Machine.Laws.{SettledStays}
use Rattle.law_machine.specs.Machine.Steps.{Step, Receives, does}
use Rattle.law_machine.proofs.Machine.StepLaws.{settled_stays, settled_entry, standing_found}
use Rattle.def_run.specs.Draws.{draw_word}
use Rattle.def_run.specs.World as world
use Rattle.def_run.specs.World.{Script, Program, Entry, Link, World, Goes as Going, names, names_of, read_note, readied, put_at, link_at}
use Rattle.law_fate.specs.Name.Names.{IsAmong, NoteOk}
use Rattle.law_fate.specs.Name.Runs.{KnowsOnce}
use Rattle.law_fate.proofs.Name.Among.{all_among, get_put}
use Rattle.law_fate.specs.Fates.CarryRuns.{WorldSound as Sounds}
use Rattle.law_fate.specs.Fates.Lasting.{Each}
use Rattle.law_fate.specs.Fates.Sound.{NoteSound}
use Rattle.law_fate.proofs.Fates.RunLight.{messages_go_to_hosts}
use Rattle.law_frozen.specs.Frozen.{AllOf as EachOf, NotePasses}
use Rattle.law_frozen.proofs.Fine.{MayBe as Maybe}
use Rattle.law_frozen.proofs.RunSound.{WorldSound, LinkPasses, link_passes, begins_sound, opens_sound, steps_sound}
use Rattle.law_reference.proofs.Reference.Follow.{eq_dec, put_cases}
use Rattle.law_reference.proofs.Reference.LegRuns.{MailBits, Before, stands_of, first_mails}
use Rattle.law_reference.proofs.Reference.LegMoves.{opened_before, stepped_before}
use Rattle.law_reference.proofs.Reference.Moves.{Moved, Still, Severs, Drops, Steps, Arrives, Does, opened_hold, stepped_hold}
use Rattle.law_reference.proofs.Reference.Told.{told_is}
use Rattle.law_reference.proofs.Reference.VatStep.{link_all}
use Rattle.law_reference.specs.Reference.ListRingless.{told_name}
use Rattle.law_reference.proofs.Gift.Found.{kept_more, calms}
use Rattle.law_reference.proofs.Gift.Keeps.{after_given, alone_kept, arrive_kept}
use Rattle.law_reference.proofs.Gift.Kept.{settling, Kept}
use Rattle.law_reference.proofs.Gift.Rests as rests
use Rattle.law_order.proofs.ToldOnce.News.{fresh_kept}
use Rattle.law_order.proofs.Ordering.Sends.{found_ends}
use Rattle.law_order.proofs.Runs.Beginnings.{reached_is, each_all}
use Rattle.law_order.proofs.Runs.ToldRuns.{elsewhere_is_true, told_names_settled}
use Rattle.law_order.proofs.History.Refs.{other_put}
use Rattle.law_order.specs.History.Told.{IsOfRun, opened, entered}
use Rattle.law_order.proofs.Sending.Passing.{IsSettledAt, FarNamesRest}

module _ (script : Script) where
  abbrev word : ℕ → ℕ
  word = draw_word script.key

  -- what may settle, wait or be viewed at v
  abbrev May : World → ℕ → Name → Type 0
  May w v n = (host_of n ≡ v) ⊎ IsSettledAt script w (host_of n) n

  own_answers : (w : World) (v : ℕ) (m : Msg) → May w v (Answer v m)
  unfolding host_of
  own_answers w v m = inl refl

  own_promises : (w : World) (v i : ℕ) → May w v (Promise v i)
  unfolding host_of
  own_promises w v i = inl refl

  own_root : (w : World) (v : ℕ) → May w v (Root v)
  unfolding host_of
  own_root w v = inl refl

  own_gift : (w : World) (v i : ℕ) → May w v (Gift v i)
  unfolding host_of
  own_gift w v i = inl refl

  abbrev AllWell : World → Type 0
  AllWell w = (v : ℕ) (s : Vat Name) → slice_get w.vats v ≡ Some s → Kept word v (settling word v (May w v)) s

  -- what a note tells of a name is of the sender's own, and settled there
  abbrev TellsTrue : World → ℕ → Note Name → Type 0
  TellsTrue w a (SettledTo n y) = (host_of n ≡ a) × IsSettledAt script w a n
  TellsTrue w a (Elsewhere n c) = (host_of n ≡ a) × IsSettledAt script w a n
  TellsTrue w a other = Unit {0}

  record Past (w : World) : Type 0 where
    pub before : Before script w
    pub sound : WorldSound script w
    pub true_notes : (a v : ℕ) (l : Link) (n : Note Name) → link_at a v w.links ≡ Some l → IsAmong n l.notes → TellsTrue w a n

  -- ---- a step of one vat leaves what settled

  stays_by : (x : World) (v : ℕ) (s q t : Vat Name) (what : Step Name Name) → Does script x v s q t what → SettledStays (names script v) s t
  unfolding readied
  stays_by x v s q t what d = subst (λ ks. SettledStays (names script v) (record s { known = ks }) t) d.known (after_given (SettledStays (names script v)) (readied x q) (does (names script v) what (readied x q)) t (settled_stays (names script v) what (readied x q)) d.gives)

  stood_later : (v : ℕ) (s t : Vat Name) (n : Name) (z : Value Name) → SettledStays (names script v) s t → standing_of (names script v) s.known n ≡ Settled z → standing_of (names script v) t.known n ≡ Settled z
  unfolding standing_of
  stood_later v s t n z h e = let f = settled_entry (entry_of (names script v) s.known n) z e in standing_found (names script v) t.known n f.0 z (h n f.0 z f.1 f.2) f.2

  -- ---- a move

  module _ (x y : World) where
    same_settled : y.vats ≡ x.vats → (u : ℕ) (n : Name) → IsSettledAt script x u n → IsSettledAt script y u n
    same_settled e u n h = record { vat = h.vat; found = subst (λ vs. slice_get vs u ≡ Some h.vat) (sym e) h.found; value = h.value; settled = h.settled }

    step_settled : (v : ℕ) (s q t : Vat Name) (what : Step Name Name) → Does script x v s q t what → y.vats ≡ put_at v t x.vats → (u : ℕ) (n : Name) → IsSettledAt script x u n → IsSettledAt script y u n
    step_settled v s q t what d vats u n h = go (eq_dec u v)
      where
        some_vat : (a b : Vat Name) → Some a ≡ Some b → a ≡ b
        some_vat a b e = cc

        go : (u ≡ v) ⊎ (u ≡ v → ⊥) → IsSettledAt script y u n
        go (inl i) = let same : h.vat ≡ s = some_vat h.vat s (sym h.found ∙ ap (slice_get x.vats) i ∙ d.there) in
            record {
              vat = t;
              found = ap (slice_get y.vats) i ∙ ap (λ us. slice_get us v) vats ∙ get_put x.vats v s t d.there;
              value = h.value;
              settled = subst (λ c. standing_of (names script c) t.known n ≡ Settled h.value) (sym i) (stood_later v s t n h.value (stays_by x v s q t what d) (subst (λ (z : Vat Name). standing_of (names script v) z.known n ≡ Settled h.value) same (subst (λ c. standing_of (names script c) h.vat.known n ≡ Settled h.value) i h.settled)));
            }
        go (inr f) = record { vat = h.vat; found = ap (λ us. slice_get us u) vats ∙ other_put v u t x.vats f ∙ h.found; value = h.value; settled = h.settled }

    settled_on : Moved script x y → (u : ℕ) (n : Name) → IsSettledAt script x u n → IsSettledAt script y u n
    settled_on (Still vats links drawn) u n h = same_settled vats u n h
    settled_on (Severs a b vats links drawn) u n h = same_settled vats u n h
    settled_on (Drops a v m ns l at notes none vats links drawn) u n h = same_settled vats u n h
    settled_on (Steps v s q t what alone d vats links drawn first fresh) u n h = step_settled v s q t what d vats u n h
    settled_on (Arrives a v s t m ns l at cut notes d vats links drawn first fresh) u n h = step_settled v s s t (Receives a (read_note (names_of s) m)) d vats u n h

    module _ (f : Past x) (move : Moved script x y) where
      later : (v : ℕ) (n : Name) → May x v n → May y v n
      later v n (inl e) = inl e
      later v n (inr h) = inr (settled_on move (host_of n) n h)

      held : AllWell x → (v : ℕ) (s : Vat Name) → slice_get x.vats v ≡ Some s → Kept word v (settling word v (May y v)) s
      held h v s there = kept_more word v (May x v) (May y v) (later v) s (h v s there)

      same_vats : y.vats ≡ x.vats → AllWell x → AllWell y
      same_vats e h v s there = held h v s (subst (λ vs. slice_get vs v ≡ Some s) e there)

      one_vat : (a : ℕ) (t : Vat Name) → y.vats ≡ put_at a t x.vats → Kept word a (settling word a (May y a)) t → AllWell x → AllWell y
      one_vat a t e k h v s there = go (put_cases a t x.vats v s (subst (λ vs. slice_get vs v ≡ Some s) e there))
        where
          go : ((v ≡ a) × (t ≡ s)) ⊎ ((v ≡ a → ⊥) × (slice_get x.vats v ≡ Some s)) → Kept word v (settling word v (May y v)) s
          go (inl i) = subst (λ (z : Vat Name). Kept word v (settling word v (May y v)) z) i.1 (subst (λ (c : ℕ). Kept word c (settling word c (May y c)) t) (sym i.0) k)
          go (inr i) = held h v s i.1

      -- a note that arrives
      module _ (a v : ℕ) (s t : Vat Name) (n : Note Name) (ns : List (Note Name)) (l : Link) (at : link_at a v x.links ≡ Some l) (notes : l.notes ≡ n ∷ ns) where
        passes : NotePasses n
        passes = let sound = f.sound in let found : Maybe LinkPasses (Some l) = subst (Maybe LinkPasses) at (link_passes a v x.links sound.links) in let all : EachOf NotePasses (n ∷ ns) = subst (λ ms. EachOf NotePasses ms) notes found in all.0

        told : TellsTrue x a n
        told = f.true_notes a v l n at (subst (IsAmong n) (sym notes) (inl refl))

        may : (z : Name) → (host_of z ≡ a) × IsSettledAt script x a z → May y v (told_name (world.read_name (names_of s) z))
        may z h = subst (May y v) (sym (told_is (names_of s) z)) (inr (settled_on move (host_of z) z (subst (λ c. IsSettledAt script x c z) (sym h.0) h.1)))

        note_may : (k : Note Name) → k ≡ n → NoteOk MailBits k → rests.NoteMay word v (settling word v (May y v)) (own_answers y v) (read_note (names_of s) k)
        unfolding read_note
        note_may (Deliver d z verb ys) e ok = ok.0
        note_may (Open i z) e ok = own_gift y v i
        note_may (SettledTo z c) e ok = may z (subst (TellsTrue x a) (sym e) told)
        note_may (Elsewhere z c) e ok = may z (subst (TellsTrue x a) (sym e) told)
        note_may other e ok = tt

        arrived : Does script x v s s t (Receives a (read_note (names_of s) n)) → AllWell x → Kept word v (settling word v (May y v)) t
        unfolding naming names
        arrived d h = let sound = f.sound in arrive_kept script v x (May y v) (own_answers y v) (own_promises y v) a s t n d.gives (note_may n refl (first_mails script x a v n ns l f.before at notes)) passes (sound.vats v s d.there) (held h v s d.there)

  moved : (x y : World) → Past x → Past y → Moved script x y → AllWell x → AllWell y
  unfolding naming names
  moved x y f g (Still vats links drawn) h = same_vats x y f (Still vats links drawn) vats h
  moved x y f g (Severs a b vats links drawn) h = same_vats x y f (Severs a b vats links drawn) vats h
  moved x y f g (Drops a v n ns l at notes none vats links drawn) h = same_vats x y f (Drops a v n ns l at notes none vats links drawn) vats h
  moved x y f g (Steps v s q t what alone d vats links drawn first fresh) h = let move = Steps v s q t what alone d vats links drawn first fresh in let sound = f.sound in
      one_vat x y f move v t vats (alone_kept script v x (May y v) (own_answers y v) (own_promises y v) s q t what alone d (own_root y v) (sound.vats v s d.there) (held x y f move h v s d.there)) h
  moved x y f g (Arrives a v s t n ns l at cut notes d vats links drawn first fresh) h = let move = Arrives a v s t n ns l at cut notes d vats links drawn first fresh in
      one_vat x y f move v t vats (arrived x y f move a v s t n ns l at notes d h) h

  begins_well : AllWell (world.begins script)
  unfolding world.begins
  begins_well v s e = fresh_kept script v (May (world.begins script) v) s e

  -- ---- runs

  true_note : (w : World) → Sounds w → ((u v : ℕ) (l : Link) (n : Name) (c : ℕ) → link_at u v w.links ≡ Some l → IsAmong (Elsewhere n c) l.notes → IsSettledAt script w u n)
      → ((u v : ℕ) (l : Link) (n : Name) (y : Passed Name) → link_at u v w.links ≡ Some l → IsAmong (SettledTo n y) l.notes → IsSettledAt script w u n)
      → (a v : ℕ) (l : Link) (n : Note Name) → link_at a v w.links ≡ Some l → IsAmong n l.notes → TellsTrue w a n
  true_note w sounds far near a v l n at i = go n i (all_among (NoteSound l.from l.to) l.notes n (each_all (NoteSound l.from l.to) l.notes (link_all (λ (k : Link). Each (NoteSound k.from k.to) k.notes) a v w.links l (each_all (λ (k : Link). Each (NoteSound k.from k.to) k.notes) w.links sounds.links) at)) i)
    where
      ends : (l.from ≡ a) × (l.to ≡ v)
      ends = found_ends a v w.links l at

      go : (m : Note Name) → IsAmong m l.notes → NoteSound l.from l.to m → TellsTrue w a m
      go (SettledTo z y) j h = (h ∙ ends.0, near a v l z y at j)
      go (Elsewhere z c) j h = (h ∙ ends.0, far a v l z c at j)
      go other j h = tt

  module _ (once : KnowsOnce script) where
    opened_past : (ps rest : List Program) (w : World) → script.vats ≡ ps ++ rest → world.open_from script zero ps (world.begins script) ≡ Going w → Past w
    opened_past ps rest w i e = record {
      before = opened_before script once ps rest w i e;
      sound = opens_sound script zero ps (world.begins script) w (begins_sound script) e;
      true_notes = true_note w (reached_is Sounds _ w e ((messages_go_to_hosts script).0 ps))
          (λ u v l n c at a. let t = (elsewhere_is_true script once).0 ps rest w i e u v l n c at a in record { vat = t.0; found = t.1; value = _; settled = t.3 })
          (λ u v l n y at a. let t = (told_names_settled script once).0 ps rest w i e u v l n y at a in record { vat = t.0; found = t.1; value = t.2; settled = t.3 });
    }

    stepped_past : (w x : World) (es : List Entry) (k : ℕ) → world.open_from script zero script.vats (world.begins script) ≡ Going w → world.steps_from script es k w ≡ Going x → Past x
    stepped_past w x es k o e = record {
      before = stepped_before script once w x es k o e;
      sound = steps_sound script es k w x (opens_sound script zero script.vats (world.begins script) w (begins_sound script) o) e;
      true_notes = true_note x (reached_is Sounds _ x e ((messages_go_to_hosts script).1 w es k o))
          (λ u v l n c at a. let t = (elsewhere_is_true script once).1 w x es k o e u v l n c at a in record { vat = t.0; found = t.1; value = _; settled = t.3 })
          (λ u v l n y at a. let t = (told_names_settled script once).1 w x es k o e u v l n y at a in record { vat = t.0; found = t.1; value = t.2; settled = t.3 });
    }

    opened_well : (ps rest : List Program) (w : World) → script.vats ≡ ps ++ rest → world.open_from script zero ps (world.begins script) ≡ Going w → AllWell w
    opened_well = opened_hold script Past opened_past stepped_past (λ w p. stands_of script w p.before) AllWell (λ x y f g m h. moved x y f g m h) begins_well

    stepped_well : (w x : World) (es : List Entry) (k : ℕ) → world.open_from script zero script.vats (world.begins script) ≡ Going w → world.steps_from script es k w ≡ Going x → AllWell x
    stepped_well = stepped_hold script Past opened_past stepped_past (λ w p. stands_of script w p.before) AllWell (λ x y f g m h. moved x y f g m h) begins_well

    well_of : (w : World) → IsOfRun script w → AllWell w
    well_of w (opened ps rest i e) = opened_well ps rest w i e
    well_of w (entered es rest o i a e) = stepped_well o w es 1 a e

    abbrev Rests : World → ℕ → Vat Name → Name → Type 0
    Rests w h t n = (standing_of (names script h) t.known n ≡ Unsettled) ⊎ (((p : Words) × (standing_of (names script h) t.known n ≡ Settled (Broken p))) ⊎ IsSettledAt script w (host_of n) n)

    unless_may : (w : World) → AllWell w → (h : ℕ) (t : Vat Name) → slice_get w.vats h ≡ Some t → (n : Name) → (May w h n → ⊥) → Rests w h t n
    unfolding names standing_of
    unless_may w well h t there n cannot = go (calms word h (May w h) n cannot t.known (let k = well h t there in k.1))
      where
        go : (standing_in (entry_of (names script h) t.known n) ≡ Unsettled) ⊎ ((p : Words) × (standing_in (entry_of (names script h) t.known n) ≡ Settled (Broken p))) → Rests w h t n
        go (inl e) = inl e
        go (inr e) = inr (inl e)

    some_vat : (a b : Vat Name) → Some a ≡ Some b → a ≡ b
    some_vat a b e = cc

    none_vat : (a : Vat Name) → ◌≡◌ {A = Option (Vat Name)} None (Some a) → ⊥
    none_vat a e = cc

    pub far_names_rest : (w : World) → IsOfRun script w → FarNamesRest script w
    far_names_rest w of_run h t there n other = by_vat (slice_get w.vats (host_of n)) refl
      where
        rests : (IsSettledAt script w (host_of n) n → ⊥) → Rests w h t n
        rests f = unless_may w (well_of w of_run) h t there n (λ m. elim m [ inl i ↦ other i | inr i ↦ f i ])

        by_standing : (u : Vat Name) → slice_get w.vats (host_of n) ≡ Some u → (x : Standing Name) → standing_of (names script (host_of n)) u.known n ≡ x → Rests w h t n
        by_standing u e (Settled z) f = inr (inr (record { vat = u; found = e; value = z; settled = f }))
        by_standing u e Unsettled f = rests (λ k. absurd (let same : k.vat ≡ u = some_vat k.vat u (sym k.found ∙ e) in let g : standing_of (names script (host_of n)) u.known n ≡ Settled k.value = subst (λ (q : Vat Name). standing_of (names script (host_of n)) q.known n ≡ Settled k.value) same k.settled in cc))
        by_standing u e (WaitsOn q) f = rests (λ k. absurd (let same : k.vat ≡ u = some_vat k.vat u (sym k.found ∙ e) in let g : standing_of (names script (host_of n)) u.known n ≡ Settled k.value = subst (λ (q : Vat Name). standing_of (names script (host_of n)) q.known n ≡ Settled k.value) same k.settled in cc))
        by_standing u e (Viewed q) f = rests (λ k. absurd (let same : k.vat ≡ u = some_vat k.vat u (sym k.found ∙ e) in let g : standing_of (names script (host_of n)) u.known n ≡ Settled k.value = subst (λ (q : Vat Name). standing_of (names script (host_of n)) q.known n ≡ Settled k.value) same k.settled in cc))

        by_vat : (o : Option (Vat Name)) → slice_get w.vats (host_of n) ≡ o → Rests w h t n
        by_vat (Some u) e = by_standing u e (standing_of (names script (host_of n)) u.known n) refl
        by_vat None e = rests (λ k. none_vat k.vat (sym e ∙ k.found))
