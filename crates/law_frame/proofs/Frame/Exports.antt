-- What was exported keeps its position where nothing of it is asked for later.
use Rattle.std.proofs.Common.{◌≡◌, ℕ, zero, suc, ◌+◌, Bool, true, false, List, [], ◌∷◌, ◌++◌, Option, Some, None, refl, sym, ap, subst, ◌∙◌, ◌⊎◌, inl, inr, length, ◌==◌, append_assoc, append-nil}
use Rattle.std.specs.Prelude.{slice_get}
use Rattle.def_machine.specs.Values.{answer_of, Value, Ref, Name, host_of, Local}
use Rattle.def_machine.specs.State.{Passed, Passeds, Plain, AGift, Many, NoMore, More, Note, Deliver, Open, Ask, SettledTo, Elsewhere, Shorten, Vat}
use Rattle.def_run.specs.World as world
use Rattle.def_run.specs.World.{Script, Program, Entry, Link, World, Goes as Going, link_at, has_name, pushed, with_notes, severed_link, with_link, push_all}
use Rattle.law_reference.specs.Reference.Logs as wire
use Rattle.law_fate.specs.Name.Names.{AllOf, IsAmong}
use Rattle.law_fate.specs.Name.Runs.{KnowsOnce}
use Rattle.law_fate.proofs.Name.SameNames.{has_among, among_has}
use Rattle.law_machine.specs.Renamed.Stands.{StandsFor}
use Rattle.law_machine.proofs.Renamed.Stands.{both, still}
use Rattle.law_reference.proofs.Reference.LinksCut.{fits_notes, fits_severed}
use Rattle.law_reference.specs.Reference.Exports.{object_of, exported_at}
use Rattle.law_reference.specs.Reference.Tables.{table_of}
use Rattle.law_reference.proofs.Reference.AnswerLinks.{AtLink, with_any, push_keeps}
use Rattle.law_reference.proofs.Reference.LegRuns.{stands_of}
use Rattle.law_reference.proofs.Reference.LegMoves.{opened_before, stepped_before}
use Rattle.law_reference.proofs.Reference.Moves.{Moved, Still, Severs, Drops, Steps, Arrives, get_mid, entry_moves, opening_moves}
use Rattle.law_frame.proofs.Frame.Questions.{asked_or, asked_first, asked_rest}
use Rattle.law_frame.specs.Frame.Asked.{told_value, told_passed, told_all, told_in}
use Rattle.law_frame.proofs.Frame.Ranks.{Starts, exports_start, exports_twice}
use Rattle.law_frame.proofs.Frame.SourceLaws.{log_is}
use Rattle.law_frame.specs.Frame.AlikeArrivals.{table_across}
use Rattle.law_frame.specs.Frame.Exports.{AsksForNothingTold, KeepsPositions, PositionsStay, StatesGoOn}
use Rattle.law_frame.proofs.Frame.LinksStay.{roots_is, lasts_of}

-- ---- notes are put at the end of what was put on a link

abbrev Since : List Link → ℕ → ℕ → Link → Type 0
Since ls a b k = (l : Link) × (link_at a b ls ≡ Some l) × (k.roots ≡ l.roots) × (more : List (Note Name)) × (k.log ≡ l.log ++ more)

pushed_either : (ls : List Link) (a b : ℕ) (k : Link) (n : Note Name) (c : Bool) → Since ls a b k → Since ls a b (elim c [ true ↦ record k { log = k.log ++ n ∷ [] } | false ↦ record k { notes = k.notes ++ n ∷ []; log = k.log ++ n ∷ [] } ])
pushed_either ls a b k n true h = (h.0, h.1, h.2, h.3 ++ n ∷ [], ap (λ xs. xs ++ n ∷ []) h.4 ∙ append_assoc h.0.log h.3 (n ∷ []))
pushed_either ls a b k n false h = (h.0, h.1, h.2, h.3 ++ n ∷ [], ap (λ xs. xs ++ n ∷ []) h.4 ∙ append_assoc h.0.log h.3 (n ∷ []))

pushed_since : (ls : List Link) (a b : ℕ) (k : Link) (n : Note Name) → Since ls a b k → Since ls a b (pushed n k)
unfolding pushed
pushed_since ls a b k n h = pushed_either ls a b k n k.cut h

taken_since : (ls : List Link) (a b c v : ℕ) (ns : List (Note Name)) (ks : List Link) → AtLink a b (Since ls a b) ks → AtLink a b (Since ls a b) (with_link (with_notes ns) c v ks)
unfolding with_notes
taken_since ls a b c v ns ks h = with_any a b c v (Since ls a b) (with_notes ns) (fits_notes a b ns) ks (λ l e i j. h l e) (λ l e f. h l e)

cut_since : (ls : List Link) (a b c d : ℕ) (ks : List Link) → AtLink a b (Since ls a b) ks → AtLink a b (Since ls a b) (with_link severed_link c d ks)
unfolding severed_link
cut_since ls a b c d ks h = with_any a b c d (Since ls a b) severed_link (fits_severed a b) ks (λ l e i j. h l e) (λ l e f. h l e)

first_since : (ls : List Link) (a b : ℕ) → AtLink a b (Since ls a b) ls
first_since ls a b = λ l e. (l, e, refl, [], sym (append-nil l.log))

put_since : (ls : List Link) (a b v : ℕ) (ps : List _) (ks : List Link) → AtLink a b (Since ls a b) ks → AtLink a b (Since ls a b) (push_all v ps ks)
put_since ls a b v ps ks h = push_keeps a b v (Since ls a b) (λ k n i. pushed_since ls a b k n i) ps ks h

moved_since : (script : Script) (x y : World) → Moved script x y → (a b : ℕ) → AtLink a b (Since x.links a b) y.links
moved_since script x y (Still v l d) a b = subst (λ z. AtLink a b (Since x.links a b) z) (sym l) (first_since x.links a b)
moved_since script x y (Severs c e v l d) a b = subst (λ z. AtLink a b (Since x.links a b) z) (sym l) (cut_since x.links a b e c (with_link severed_link c e x.links) (cut_since x.links a b c e x.links (first_since x.links a b)))
moved_since script x y (Drops c v n ns l at notes none vats links drawn) a b = subst (λ z. AtLink a b (Since x.links a b) z) (sym links) (taken_since x.links a b c v ns x.links (first_since x.links a b))
moved_since script x y (Steps v s q t what alone d vats links drawn first fresh) a b = subst (λ z. AtLink a b (Since x.links a b) z) (sym links) (put_since x.links a b v t.outbox x.links (first_since x.links a b))
moved_since script x y (Arrives c v s t n ns l at cut notes d vats links drawn first fresh) a b = subst (λ z. AtLink a b (Since x.links a b) z) (sym links) (put_since x.links a b v t.outbox (with_link (with_notes ns) c v x.links) (taken_since x.links a b c v ns x.links (first_since x.links a b)))

some_is : (l j : Link) → Some l ≡ Some j → l ≡ j
some_is l j e = cc

-- the link that was l
now : (script : Script) (x y : World) → Moved script x y → (a b : ℕ) (l : Link) → link_at a b x.links ≡ Some l → (k : Link) × (link_at a b y.links ≡ Some k) × (k.roots ≡ l.roots) × (more : List (Note Name)) × (k.log ≡ l.log ++ more)
now script x y m a b l e = let t = lasts_of script x y m a b (l, e) in let h = moved_since script x y m a b t.0 t.1 in let same : h.0 ≡ l = some_is h.0 l (sym h.1 ∙ e) in
    (t.0, t.1, h.2 ∙ ap (λ (z : Link). z.roots) same, h.3, h.4 ∙ ap (λ (z : Link). z.log ++ h.3) same)

-- ---- what was asked for is asked for after

asked_more : (w : ℕ) (xs more : List (Note Name)) (n : Name) → IsAmong n (wire.questions_in w xs) → IsAmong n (wire.questions_in w (xs ++ more))
unfolding wire.questions_in
asked_more w [] more n a = absurd a
asked_more w (Deliver d t verb ys ∷ xs) more n a = first (asked_or d.asks (answer_of w d.message) n (wire.questions_in w xs) a) (λ b. asked_more w xs more n b)
  where
    first : ((d.asks ≡ true) × (n ≡ answer_of w d.message)) ⊎ IsAmong n (wire.questions_in w xs) → (IsAmong n (wire.questions_in w xs) → IsAmong n (wire.questions_in w (xs ++ more))) → IsAmong n (wire.asked_if d.asks (answer_of w d.message) (wire.questions_in w (xs ++ more)))
    first (inl e) g = asked_first d.asks (answer_of w d.message) n (wire.questions_in w (xs ++ more)) e.0 e.1
    first (inr b) g = asked_rest d.asks (answer_of w d.message) n (wire.questions_in w (xs ++ more)) (g b)
asked_more w (Ask p i t ∷ xs) more n (inl e) = inl e
asked_more w (Ask p i t ∷ xs) more n (inr a) = inr (asked_more w xs more n a)
asked_more w (Open i t ∷ xs) more n a = asked_more w xs more n a
asked_more w (SettledTo t y ∷ xs) more n a = asked_more w xs more n a
asked_more w (Elsewhere t c ∷ xs) more n a = asked_more w xs more n a
asked_more w (Shorten t c i ∷ xs) more n a = asked_more w xs more n a

pub asked_on : (script : Script) (x y : World) → Moved script x y → (u h : ℕ) (n : Name) (o : Option Link) → link_at u h x.links ≡ o → IsAmong n (wire.questions_in h (wire.log_of o)) → IsAmong n (wire.questions (λ i. i) y.links u h)
unfolding wire.log_of wire.questions_in wire.questions
asked_on script x y m u h n None e a = absurd a
asked_on script x y m u h n (Some l) e a = let k = now script x y m u h l e in
    subst (λ ns. IsAmong n (wire.questions_in h ns)) (sym (log_is k.0 (link_at u h y.links) k.1 ∙ k.4)) (asked_more h l.log k.3 n a)

-- ---- exports by one list of what was asked for, and by another

all_left : {A : Type 0} (P : A → Type 0) (xs ys : List A) → AllOf P (xs ++ ys) → AllOf P xs
all_left P [] ys h = tt
all_left P (x ∷ xs) ys h = (h.0, all_left P xs ys h.1)

all_right : {A : Type 0} (P : A → Type 0) (xs ys : List A) → AllOf P (xs ++ ys) → AllOf P ys
all_right P [] ys h = h
all_right P (x ∷ xs) ys h = all_right P xs ys h.1

module _ (v : ℕ) (before after : List Name) where
  abbrev Alike : Name → Type 0
  Alike n = has_name before n ≡ has_name after n

  export_same : (n : Name) (ns : List Name) → Alike n → wire.with_export v before n ns ≡ wire.with_export v after n ns
  unfolding wire.with_export
  export_same n ns h = ap (λ (b : Bool). elim (host_of n == v) [ true ↦ elim b [ true ↦ ns | false ↦ elim (has_name ns n) [ true ↦ ns | false ↦ ns ++ n ∷ [] ] ] | false ↦ ns ]) h

  value_same : (y : Value Name) (ns : List Name) → AllOf Alike (told_value y) → wire.with_value v before y ns ≡ wire.with_value v after y ns
  unfolding wire.with_value told_value
  value_same (Ref n) ns h = export_same n ns h.0
  value_same other ns h = refl

  mutual
    unfolding wire.with_passed wire.with_all told_passed told_all

    passed_same : (y : Passed Name) (ns : List Name) → AllOf Alike (told_passed y) → wire.with_passed v before y ns ≡ wire.with_passed v after y ns
    passed_same (Plain y) ns h = value_same y ns h
    passed_same (AGift w i) ns h = refl
    passed_same (Many ys) ns h = passeds_same ys ns h

    passeds_same : (ys : Passeds Name) (ns : List Name) → AllOf Alike (told_all ys) → wire.with_all v before ys ns ≡ wire.with_all v after ys ns
    passeds_same NoMore ns h = refl
    passeds_same (More y ys) ns h = ap (wire.with_all v before ys) (passed_same y ns (all_left Alike (told_passed y) (told_all ys) h)) ∙ passeds_same ys (wire.with_passed v after y ns) (all_right Alike (told_passed y) (told_all ys) h)

  pub note_same : (n : Note Name) (ns : List Name) → AllOf Alike (told_in n) → wire.with_note v before n ns ≡ wire.with_note v after n ns
  unfolding wire.with_note told_in
  note_same (Deliver m t verb ys) ns h = ap (wire.with_all v before ys) (export_same t ns h.0) ∙ passeds_same ys (wire.with_export v after t ns) h.1
  note_same (Open i t) ns h = export_same t ns h.0
  note_same (Ask p i t) ns h = refl
  note_same (SettledTo t y) ns h = ap (wire.with_passed v before y) (export_same t ns h.0) ∙ passed_same y (wire.with_export v after t ns) h.1
  note_same (Elsewhere t c) ns h = export_same t ns h.0
  note_same (Shorten t c i) ns h = export_same t ns h.0

  pub log_same : (log : List (Note Name)) (ns : List Name) → ((n : Note Name) → IsAmong n log → AllOf Alike (told_in n)) → wire.exports_after v before log ns ≡ wire.exports_after v after log ns
  unfolding wire.exports_after
  log_same [] ns h = refl
  log_same (n ∷ log) ns h = ap (wire.exports_after v before log) (note_same n ns (h n (inl refl))) ∙ log_same log (wire.with_note v after n ns) (λ m a. h m (inr a))

pub each_so : {A : Type 0} (P : A → Type 0) (xs : List A) → ((x : A) → IsAmong x xs → P x) → AllOf P xs
each_so P [] f = tt
each_so P (x ∷ xs) f = (f x (inl refl), each_so P xs (λ y a. f y (inr a)))

-- ---- exports grow at their end

module _ (script : Script) (x y : World) (m : Moved script x y) (u : ℕ) (new : AsksForNothingTold x y u) (h : ℕ) where
  abbrev pub Before : List Name
  Before = wire.questions (λ i. i) x.links u h

  abbrev pub After : List Name
  After = wire.questions (λ i. i) y.links u h

  asked_after : (n : Name) → IsAmong n Before → IsAmong n After
  unfolding wire.questions
  asked_after n a = asked_on script x y m u h n (link_at u h x.links) refl a

  pub alike : (l : Link) → link_at h u x.links ≡ Some l → (n : Note Name) → IsAmong n l.log → AllOf (λ z. has_name Before z ≡ has_name After z) (told_in n)
  alike l e n a = each_so (λ z. has_name Before z ≡ has_name After z) (told_in n)
      (λ z b. both (has_name Before z) (has_name After z) (λ i. among_has After z (asked_after z (has_among Before z i))) (λ i. among_has Before z (new h l e n z a b (has_among After z i))))

  grown : (l : Link) → link_at h u x.links ≡ Some l → Starts (wire.exports_after h Before l.log l.roots) (wire.exports (λ i. i) y.links h u)
  unfolding wire.exports
  grown l e = let k = now script x y m h u l e in
      let logs : wire.log_of (link_at h u y.links) ≡ l.log ++ k.3 = log_is k.0 (link_at h u y.links) k.1 ∙ k.4 in
      let roots : wire.roots_of (link_at h u y.links) ≡ l.roots = roots_is k.0 (link_at h u y.links) k.1 ∙ k.2 in
      let same = log_same h Before After l.log l.roots (alike l e) in
      let more = exports_start h After k.3 (wire.exports_after h After l.log l.roots) in
      (more.0, ap (λ ns. wire.exports_after h After ns (wire.roots_of (link_at h u y.links))) logs ∙ ap (wire.exports_after h After (l.log ++ k.3)) roots ∙ exports_twice h After l.log k.3 l.roots ∙ more.1 ∙ ap (λ ns. ns ++ more.0) (sym same))

  get_front : {A : Type 0} (xs ys : List A) (p : ℕ) (n : A) → slice_get xs p ≡ Some n → slice_get (xs ++ ys) p ≡ Some n
  get_front [] ys p n e = cc
  get_front (z ∷ xs) ys zero n e = e
  get_front (z ∷ xs) ys (suc p) n e = get_front xs ys p n e

  position : (p : ℕ) (n : Name) (o : Option Link) → link_at h u x.links ≡ o → slice_get (wire.exports_after h Before (wire.log_of o) (wire.roots_of o)) p ≡ Some n → slice_get (wire.exports (λ i. i) y.links h u) p ≡ Some n
  unfolding wire.log_of wire.roots_of wire.exports_after
  position p n None e i = cc
  position p n (Some l) e i = let g = grown l e in ap (λ ns. slice_get ns p) g.1 ∙ get_front (wire.exports_after h Before l.log l.roots) g.0 p n i

  object_at : (p j : ℕ) (o : Option Name) → slice_get (wire.exports (λ i. i) x.links h u) p ≡ o → object_of o ≡ Some j → object_of (slice_get (wire.exports (λ i. i) y.links h u) p) ≡ Some j
  unfolding object_of wire.exports
  object_at p j (Some n) e i = ap object_of (position p n (link_at h u x.links) refl e) ∙ i
  object_at p j None e i = cc

  either_at : (p j : ℕ) (b : Bool) → elim b [ true ↦ None | false ↦ object_of (slice_get (wire.exports (λ i. i) x.links h u) p) ] ≡ Some j → elim b [ true ↦ None | false ↦ object_of (slice_get (wire.exports (λ i. i) y.links h u) p) ] ≡ Some j
  either_at p j true e = cc
  either_at p j false e = object_at p j (slice_get (wire.exports (λ i. i) x.links h u) p) refl e

  stays_at : (p j : ℕ) → exported_at x.links u h p ≡ Some j → exported_at y.links u h p ≡ Some j
  unfolding exported_at
  stays_at p j e = either_at p j (u == h) e

keeps : (script : Script) (x y : World) → Moved script x y → (u : ℕ) → AsksForNothingTold x y u → KeepsPositions x y u
keeps script x y m u new h p j e = stays_at script x y m u new h p j e

goes_on : (script : Script) (x y : World) → Moved script x y → (u : ℕ) → AsksForNothingTold x y u → (r : Vat Name) (p : Vat Local) (t : Vat Name) → StandsFor u (table_across x u r) p t → StandsFor u (table_of y u r) p t
unfolding table_across table_of
goes_on script x y m u new r p t e = still u (table_across x u r) (table_of y u r) (record { names = λ k n i. i; mails = λ k n i. i; exports = λ h q j i. keeps script x y m u new h q j i }) p t e

-- ---- in each step

module _ (script : Script) (once : KnowsOnce script) where
  opening : (ps rest : List Program) (p : Program) (x y : World) → script.vats ≡ ps ++ p ∷ rest → world.open_from script zero ps (world.begins script) ≡ Going x → world.open_vat script (length ps) p x ≡ Going y → Moved script x y
  opening ps rest p x y split opened opens = opening_moves script (length ps) p x y (stands_of script x (opened_before script once ps (p ∷ rest) x split opened)) (ap (λ us. slice_get us (length ps)) split ∙ get_mid ps p rest) opens

  entry : (w x y : World) (es : List Entry) (e : Entry) (k : ℕ) → world.open_from script zero script.vats (world.begins script) ≡ Going w → world.steps_from script es k w ≡ Going x → world.step script e (k + length es) x ≡ Going y → Moved script x y
  entry w x y es e k opened stepped steps = entry_moves script e (k + length es) x y (stands_of script x (stepped_before script once w x es k opened stepped)) steps

pub positions_stay : PositionsStay
positions_stay script once = (
  λ ps rest p x y split opened opens. keeps script x y (opening script once ps rest p x y split opened opens),
  λ w x y es e k opened stepped steps. keeps script x y (entry script once w x y es e k opened stepped steps),
)

pub states_go_on : StatesGoOn
states_go_on script once = (
  λ ps rest p x y split opened opens. goes_on script x y (opening script once ps rest p x y split opened opens),
  λ w x y es e k opened stepped steps. goes_on script x y (entry script once w x y es e k opened stepped steps),
)
