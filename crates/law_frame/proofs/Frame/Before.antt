-- What a vat asked for before a step, where none of the notes that it puts in the step asks for it.
use Rattle.std.proofs.Common.{◌≡◌, ℕ, zero, suc, Bool, true, false, List, [], ◌∷◌, ◌++◌, Option, Some, None, refl, sym, ap, subst, ◌∙◌, ◌⊎◌, inl, inr}
use Rattle.std.specs.Prelude.{slice_get}
use Rattle.def_machine.specs.Values.{answer_of, Name}
use Rattle.def_machine.specs.State.{Note, Deliver, Open, Ask, SettledTo, Elsewhere, Shorten, Put, Vat}
use Rattle.def_run.specs.World as world
use Rattle.def_run.specs.World.{Script, Program, Entry, Link, World, Goes as Going, link_at, pushed, with_notes, severed_link, with_link, push_all, put_at}
use Rattle.law_reference.specs.Reference.Logs as wire
use Rattle.law_fate.specs.Name.Names.{AllOf, IsAmong, IsKnownIn, names_in}
use Rattle.law_fate.specs.Name.Runs.{KnowsOnce}
use Rattle.law_fate.proofs.Name.Facts.{all_map}
use Rattle.law_fate.proofs.Name.Among.{get_put}
use Rattle.law_reference.proofs.Reference.NotesLift as lift
use Rattle.law_reference.proofs.Reference.LinksCut.{fits_notes, fits_severed}
use Rattle.law_reference.proofs.Reference.Follow.{eq_dec}
use Rattle.law_reference.proofs.Reference.AnswerLinks.{AtLink, with_any, push_others, push_where}
use Rattle.law_reference.proofs.Reference.LegRuns.{Before, stands_of}
use Rattle.law_reference.proofs.Reference.LegMoves.{opened_before, stepped_before}
use Rattle.law_reference.proofs.Reference.Moves.{Moved, Still, Severs, Drops, Steps, Arrives, opened_hold, stepped_hold}
use Rattle.law_frame.proofs.Frame.Questions.{asked_or, asked_first, asked_rest}
use Rattle.law_frame.specs.Frame.Asked.{AsksOf, told_in}
use Rattle.law_frame.proofs.Frame.LinksKnown.{AsksOwn, Sent, LinkKnown, at_link}
use Rattle.law_frame.proofs.Frame.WireRuns.{Wire}
use Rattle.law_frame.proofs.Frame.SourceLaws.{log_is}

pub pick : {A : Type 0} (P : A → Type 0) (xs : List A) (a : A) → AllOf P xs → IsAmong a xs → P a
pick P [] a h i = absurd i
pick P (x ∷ xs) a h (inl e) = subst P (sym e) h.0
pick P (x ∷ xs) a h (inr i) = pick P xs a h.1 i

-- ---- a note that does not ask for z

module _ (h : ℕ) (z : Name) where
  abbrev pub AsksNot : Note Name → Type 0
  AsksNot n = AsksOwn h n → AsksOf h n z → ⊥

  abbrev pub PutsNot : List (Put Name) → Type 0
  PutsNot ps = AllOf (λ (p : Put Name). p.to ≡ h → AsksNot p.note) ps

  own_split : (ns : List (Note Name)) (n : Note Name) → AllOf (AsksOwn h) (ns ++ n ∷ []) → AllOf (AsksOwn h) ns × AsksOwn h n
  own_split [] n k = (tt, k.0)
  own_split (x ∷ ns) n k = let r = own_split ns n k.1 in ((k.0, r.0), r.1)

  last_asked : (ns : List (Note Name)) (n : Note Name) → AsksNot n → AsksOwn h n → IsAmong z (wire.questions_in h (ns ++ n ∷ [])) → IsAmong z (wire.questions_in h ns)
  unfolding wire.questions_in
  last_asked [] (Deliver d t verb ys) f o a = only (asked_or d.asks (answer_of h d.message) z [] a)
    where
      only : ((d.asks ≡ true) × (z ≡ answer_of h d.message)) ⊎ ⊥ → ⊥
      only (inl e) = f o (e.0, sym e.1)
      only (inr b) = b
  last_asked [] (Ask p i t) f o (inl e) = absurd (f o (sym e))
  last_asked [] (Ask p i t) f o (inr a) = a
  last_asked (Deliver d t verb ys ∷ ns) n f o a = first (asked_or d.asks (answer_of h d.message) z (wire.questions_in h (ns ++ n ∷ [])) a) (λ b. last_asked ns n f o b)
    where
      first : ((d.asks ≡ true) × (z ≡ answer_of h d.message)) ⊎ IsAmong z (wire.questions_in h (ns ++ n ∷ [])) → (IsAmong z (wire.questions_in h (ns ++ n ∷ [])) → IsAmong z (wire.questions_in h ns)) → IsAmong z (wire.asked_if d.asks (answer_of h d.message) (wire.questions_in h ns))
      first (inl e) g = asked_first d.asks (answer_of h d.message) z (wire.questions_in h ns) e.0 e.1
      first (inr b) g = asked_rest d.asks (answer_of h d.message) z (wire.questions_in h ns) (g b)
  last_asked (Ask p i t ∷ ns) n f o (inl e) = inl e
  last_asked (Ask p i t ∷ ns) n f o (inr a) = inr (last_asked ns n f o a)
  last_asked (Open i t ∷ ns) n f o a = last_asked ns n f o a
  last_asked (SettledTo t y ∷ ns) n f o a = last_asked ns n f o a
  last_asked (Elsewhere t c ∷ ns) n f o a = last_asked ns n f o a
  last_asked (Shorten t c i ∷ ns) n f o a = last_asked ns n f o a
  last_asked [] other f o a = a

-- ---- what is asked for on a link was asked for before

module _ (x : World) (u h : ℕ) (z : Name) where
  abbrev pub AskedBefore : Link → Type 0
  AskedBefore k = AllOf (AsksOwn h) k.log → IsAmong z (wire.questions_in h k.log) → IsAmong z (wire.questions (λ i. i) x.links u h)

  pushed_either : (c : Bool) (k : Link) (n : Note Name) → AsksNot h z n → AskedBefore k → AskedBefore (elim c [ true ↦ record k { log = k.log ++ n ∷ [] } | false ↦ record k { notes = k.notes ++ n ∷ []; log = k.log ++ n ∷ [] } ])
  pushed_either true k n f g = λ own a. let s = own_split h z k.log n own in g s.0 (last_asked h z k.log n f s.1 a)
  pushed_either false k n f g = λ own a. let s = own_split h z k.log n own in g s.0 (last_asked h z k.log n f s.1 a)

  pushed_before : (k : Link) (n : Note Name) → AsksNot h z n → AskedBefore k → AskedBefore (pushed n k)
  unfolding pushed
  pushed_before k n f g = pushed_either k.cut k n f g

  first_before : AtLink u h AskedBefore x.links
  unfolding wire.questions
  first_before l e own a = subst (λ ns. IsAmong z (wire.questions_in h ns)) (sym (log_is l (link_at u h x.links) e)) a

  taken_before : (c v : ℕ) (ns : List (Note Name)) (ks : List Link) → AtLink u h AskedBefore ks → AtLink u h AskedBefore (with_link (with_notes ns) c v ks)
  unfolding with_notes
  taken_before c v ns ks g = with_any u h c v AskedBefore (with_notes ns) (fits_notes u h ns) ks (λ l e i j. g l e) (λ l e f. g l e)

  cut_before : (c v : ℕ) (ks : List Link) → AtLink u h AskedBefore ks → AtLink u h AskedBefore (with_link severed_link c v ks)
  unfolding severed_link
  cut_before c v ks g = with_any u h c v AskedBefore severed_link (fits_severed u h) ks (λ l e i j. g l e) (λ l e f. g l e)

  put_before : (v : ℕ) (ps : List (Put Name)) (ks : List Link) → (u ≡ v) ⊎ (u ≡ v → ⊥) → (u ≡ v → PutsNot h z ps) → AtLink u h AskedBefore ks → AtLink u h AskedBefore (push_all v ps ks)
  put_before v ps ks (inl e) f g = subst (λ c. AtLink u h AskedBefore (push_all c ps ks)) e (push_where h u AskedBefore (AsksNot h z) (λ l n r b. pushed_before l n r b) ps ks (f e) g)
  put_before v ps ks (inr o) f g = push_others u h v AskedBefore ps ks o g

  -- what the vat puts in the step, if the step is one of it
  module _ (script : Script) (y : World) where
    abbrev pub MovePutsNot : Moved script x y → Type 0
    MovePutsNot (Steps v s q t what alone d vats links drawn first fresh) = u ≡ v → PutsNot h z t.outbox
    MovePutsNot (Arrives c v s t n ns l at cut notes d vats links drawn first fresh) = u ≡ v → PutsNot h z t.outbox
    MovePutsNot other = Unit {0}

    moved_before : (m : Moved script x y) → MovePutsNot m → AtLink u h AskedBefore y.links
    moved_before (Still v l d) f = subst (λ ks. AtLink u h AskedBefore ks) (sym l) first_before
    moved_before (Severs c e v l d) f = subst (λ ks. AtLink u h AskedBefore ks) (sym l) (cut_before e c (with_link severed_link c e x.links) (cut_before c e x.links first_before))
    moved_before (Drops c v n ns l at notes none vats links drawn) f = subst (λ ks. AtLink u h AskedBefore ks) (sym links) (taken_before c v ns x.links first_before)
    moved_before (Steps v s q t what alone d vats links drawn first fresh) f = subst (λ ks. AtLink u h AskedBefore ks) (sym links) (put_before v t.outbox x.links (eq_dec u v) f first_before)
    moved_before (Arrives c v s t n ns l at cut notes d vats links drawn first fresh) f = subst (λ ks. AtLink u h AskedBefore ks) (sym links) (put_before v t.outbox (with_link (with_notes ns) c v x.links) (eq_dec u v) f (taken_before c v ns x.links first_before))

    asked_at : Wire script y → AtLink u h AskedBefore y.links → (o : Option Link) → link_at u h y.links ≡ o → IsAmong z (wire.questions_in h (wire.log_of o)) → IsAmong z (wire.questions (λ i. i) x.links u h)
    unfolding wire.log_of wire.questions_in
    asked_at wires g None e a = absurd a
    asked_at wires g (Some k) e a = let b = at_link (LinkKnown y.vats) u h k y.links wires.links e in let known = b.0 in
        g k e (subst (λ (c : ℕ). AllOf (AsksOwn c) k.log) b.2 (all_map (λ n i. i.0) k.log known.sent)) a

    pub asked_before : Wire script y → (m : Moved script x y) → MovePutsNot m → IsAmong z (wire.questions (λ i. i) y.links u h) → IsAmong z (wire.questions (λ i. i) x.links u h)
    unfolding wire.questions
    asked_before wires m f a = asked_at wires (moved_before m f) (link_at u h y.links) refl a

-- ---- what is no vat puts nothing

abbrev pub NoneLogged : World → Type 0
NoneLogged w = (a b : ℕ) → slice_get w.vats a ≡ None → AtLink a b (λ l. l.log ≡ []) w.links

some_none : {t : Vat Name} → ◌≡◌ {A = Option (Vat Name)} None (Some t) → ⊥
some_none e = cc

put_none : (v : ℕ) (y : Vat Name) (xs : List (Vat Name)) (a : ℕ) → slice_get (put_at v y xs) a ≡ None → slice_get xs a ≡ None
unfolding put_at
put_none v y [] a e = e
put_none zero y (x ∷ xs) zero e = absurd (some_none (sym e))
put_none zero y (x ∷ xs) (suc a) e = e
put_none (suc v) y (x ∷ xs) zero e = e
put_none (suc v) y (x ∷ xs) (suc a) e = put_none v y xs a e

none_taken : (a b c v : ℕ) (ns : List (Note Name)) (ls : List Link) → AtLink a b (λ l. l.log ≡ []) ls → AtLink a b (λ l. l.log ≡ []) (with_link (with_notes ns) c v ls)
unfolding with_notes
none_taken a b c v ns ls h = with_any a b c v (λ l. l.log ≡ []) (with_notes ns) (fits_notes a b ns) ls (λ l e i j. h l e) (λ l e f. h l e)

none_cut : (a b c v : ℕ) (ls : List Link) → AtLink a b (λ l. l.log ≡ []) ls → AtLink a b (λ l. l.log ≡ []) (with_link severed_link c v ls)
unfolding severed_link
none_cut a b c v ls h = with_any a b c v (λ l. l.log ≡ []) severed_link (fits_severed a b) ls (λ l e i j. h l e) (λ l e f. h l e)

none_put : (vs : List (Vat Name)) (v : ℕ) (s t : Vat Name) (ls : List Link) → slice_get vs v ≡ Some s → (a b : ℕ) → (slice_get vs a ≡ None → AtLink a b (λ l. l.log ≡ []) ls) → slice_get (put_at v t vs) a ≡ None → AtLink a b (λ l. l.log ≡ []) (push_all v t.outbox ls)
none_put vs v s t ls there a b h e = push_others a b v (λ l. l.log ≡ []) t.outbox ls (λ i. some_none (sym e ∙ (ap (λ c. slice_get (put_at v t vs) c) i ∙ get_put vs v s t there))) (h (put_none v t vs a e))

module _ (script : Script) where
  none_on : (w y : World) → Before script w → Before script y → Moved script w y → NoneLogged w → NoneLogged y
  none_on w y p r (Still v l d) h = rw (v, l) h
  none_on w y p r (Severs c e v l d) h = rw (v, l) (λ a b o. none_cut a b e c (with_link severed_link c e w.links) (none_cut a b c e w.links (h a b o)))
  none_on w y p r (Drops c v n ns l at notes none vats links drawn) h = rw (vats, links) (λ a b o. none_taken a b c v ns w.links (h a b o))
  none_on w y p r (Steps v s q t what alone d vats links drawn first fresh) h = rw (vats, links) (λ a b o. none_put w.vats v s t w.links d.there a b (h a b) o)
  none_on w y p r (Arrives c v s t n ns l at cut notes d vats links drawn first fresh) h = rw (vats, links) (λ a b o. none_put w.vats v s t (with_link (with_notes ns) c v w.links) d.there a b (λ i. none_taken a b c v ns w.links (h a b i)) o)

  empty : (log : List (Note Name)) → AllOf (λ (n : Note Name). ⊥) log → log ≡ []
  empty [] h = refl
  empty (n ∷ log) h = absurd h.0

  begins_none : NoneLogged (world.begins script)
  unfolding world.begins
  begins_none a b o l e = let fits : AllOf (λ (k : Link). k.log ≡ []) (world.links_from script.vats zero script.vats) = all_map (λ k i. empty k.log i.0) (world.links_from script.vats zero script.vats) (lift.links_from_fit (λ v u n. ⊥) script.vats zero script.vats) in
      (at_link (λ (k : Link). k.log ≡ []) a b l (world.links_from script.vats zero script.vats) fits e).0

  module _ (once : KnowsOnce script) where
    pub opened_none : (ps rest : List Program) (w : World) → script.vats ≡ ps ++ rest → world.open_from script zero ps (world.begins script) ≡ Going w → NoneLogged w
    opened_none = opened_hold script (Before script) (opened_before script once) (stepped_before script once) (stands_of script) NoneLogged none_on begins_none

    pub stepped_none : (w x : World) (es : List Entry) (k : ℕ) → world.open_from script zero script.vats (world.begins script) ≡ Going w → world.steps_from script es k w ≡ Going x → NoneLogged x
    stepped_none = stepped_hold script (Before script) (opened_before script once) (stepped_before script once) (stands_of script) NoneLogged none_on begins_none

-- ---- what a vat told it knows

module _ (script : Script) (x : World) (wires : Wire script x) (none : NoneLogged x) (h u : ℕ) (l : Link) (at : link_at h u x.links ≡ Some l) (n : Note Name) (z : Name) (a : IsAmong n l.log) (b : IsAmong z (told_in n)) where
  none_told : (log : List (Note Name)) → log ≡ [] → IsAmong n log → ⊥
  none_told [] e i = i
  none_told (m ∷ log) e i = cc

  told_by : (r : Vat Name) → slice_get x.vats h ≡ Some r → IsKnownIn (names_in r.known) z
  told_by r there = let k = at_link (LinkKnown x.vats) h u l x.links wires.links at in let known = k.0 in let sent = pick (Sent x.vats l.from l.to) l.log n known.sent a in
      let by = sent.2 r (subst (λ (c : ℕ). slice_get x.vats c ≡ Some r) (sym k.1) there) in pick (IsKnownIn (names_in r.known)) (told_in n) z by.1 b

  -- there is such a vat, and it knows it
  pub told_known : (r : Vat Name) × (slice_get x.vats h ≡ Some r) × IsKnownIn (names_in r.known) z
  told_known = either (slice_get x.vats h) refl
    where
      either : (o : Option (Vat Name)) → slice_get x.vats h ≡ o → (r : Vat Name) × (slice_get x.vats h ≡ Some r) × IsKnownIn (names_in r.known) z
      either (Some r) e = (r, e, told_by r e)
      either None e = absurd (none_told l.log (none h u e l at) a)
