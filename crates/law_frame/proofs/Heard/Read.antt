-- The next frame is read, where its note fits.
use Rattle.std.proofs.Common.{◌≡◌, ℕ, suc, true, List, [], ◌∷◌, ◌++◌, Some, refl, sym, ap, subst, ◌∙◌, ◌⊎◌, inl, inr, length, append_assoc}
use Rattle.std.specs.Prelude.{slice_get, unwrap_or}
use Rattle.std.proofs.lemmas.Bool.{eq-eqb}
use Rattle.def_op.specs.Frames.{Operation}
use Rattle.def_machine.specs.Values.{Value, Items, Ref, Name, Root, host_of}
use Rattle.def_machine.specs.State.{Passed, Passeds, Plain, AGift, Many, NoMore, More, Note, Delivery, Deliver, Open, Ask, SettledTo, Elsewhere, Shorten}
use Rattle.def_machine.specs.Arrive.{Incoming}
use Rattle.def_machine.proofs.Keys.{key_of}
use Rattle.def_run.specs.Connections as tables
use Rattle.def_run.specs.Connections.{Connection, Stage, Heard, stands_in, asked_in, exported_note, frame_now, note_heard}
use Rattle.def_run.specs.Wire as conn
use Rattle.def_run.specs.Wire.{Connected, sight, is_object, newcomers, numbered, read_frame, frame_due}
use Rattle.law_machine.proofs.Machine.StepLaws.{get_append}
use Rattle.law_fate.specs.Name.Names.{IsAmong}
use Rattle.law_fate.proofs.Name.SameNames.{among_has}
use Rattle.law_reference.specs.Reference.Logs as wire
use Rattle.law_reference.specs.Reference.GiftPassing.{PassesFrom, AllPassFrom, Provides}
use Rattle.law_frame.specs.Frame.Asked.{ListlessValue, Listless, AllListless, HoldsNoList, told_value, told_passed, told_all, told_in}
use Rattle.law_frame.specs.Frame.Growing.{IsFront, TablesGrow}
use Rattle.law_frame.specs.Frame.Reads.{IsNumbered, ValueFits, PassedFits, AllFit, NoteFits, Brings, seen_note}
use Rattle.law_frame.proofs.Frame.ArriveAsking.{among_front, among_back}
use Rattle.law_frame.proofs.Frame.Lists.{front_trans}
use Rattle.law_frame.proofs.Frame.Ranks.{exports_start}
use Rattle.law_frame.proofs.Frame.Written.{nth_front}
use Rattle.law_frame.proofs.Frame.Seen.{written_read}
use Rattle.law_frame.proofs.Heard.Kept.{in_has, Noted, AreKept, Kept, exported_same, exports_more, asked_more, kept_exports, kept_questions}

-- ---- what a note has to fit

-- What is known of the next note from v to u, where Q is what v ever asked u for and N what of that has arrived.
pub record Fits (v u : ℕ) (Q N : List Name) (n : Note Name) : Type 0 where
  pub ends : (z : Name) → IsAmong z (told_in n) → (host_of z ≡ v) ⊎ (host_of z ≡ u)
  pub asked : (z : Name) → IsAmong z (told_in n) → host_of z ≡ u → IsAmong z Q → IsAmong z N
  pub lists : HoldsNoList n
  pub provided : (P : ℕ → ℕ) × (d : List ℕ) × Provides P d v u n

module _ (v u : ℕ) where
  in_of : (ns : List Name) (n : Name) → IsAmong n ns → stands_in (sight v u) ns n ≡ true
  in_of ns n a = in_has v u ns n ∙ among_has ns n a

  module _ (t : Connection Name) where
    value_fits : (y : Value Name) → ((z : Name) → IsAmong z (told_value y) → IsNumbered v u t z) → ListlessValue y → ValueFits v u t y
    unfolding told_value
    value_fits (Ref n) f l = f n (inl refl)
    value_fits (Items k) f l = l
    value_fits other f l = tt

    mutual
      unfolding told_passed told_all

      passed_fits : (P : ℕ → ℕ) (d : List ℕ) (y : Passed Name) → ((z : Name) → IsAmong z (told_passed y) → IsNumbered v u t z) → Listless y → PassesFrom P d v u y → PassedFits v u t y
      passed_fits P d (Plain y) f l p = value_fits y f l
      passed_fits P d (AGift h i) f l p = key_of v i p.0.2
      passed_fits P d (Many ys) f l p = all_fit P d ys f l p

      all_fit : (P : ℕ → ℕ) (d : List ℕ) (ys : Passeds Name) → ((z : Name) → IsAmong z (told_all ys) → IsNumbered v u t z) → AllListless ys → AllPassFrom P d v u ys → AllFit v u t ys
      all_fit P d NoMore f l p = tt
      all_fit P d (More y ys) f l p = (passed_fits P d y (λ z a. f z (among_front z (told_passed y) (told_all ys) a)) l.0 p.0, all_fit P d ys (λ z a. f z (among_back z (told_passed y) (told_all ys) a)) l.1 p.1)

    note_fits : (P : ℕ → ℕ) (d : List ℕ) (n : Note Name) → ((z : Name) → IsAmong z (told_in n) → IsNumbered v u t z) → HoldsNoList n → Provides P d v u n → NoteFits v u t n
    unfolding told_in
    note_fits P d (Deliver m n verb ys) f l p = (f n (inl refl), all_fit P d ys (λ z a. f z (inr a)) l p)
    note_fits P d (Open i n) f l p = (key_of v i p.2, f n (inl refl))
    note_fits P d (Ask q i n) f l p = key_of q i p.2
    note_fits P d (SettledTo n y) f l p = (f n (inl refl), passed_fits P d y (λ z a. f z (inr a)) l p)
    note_fits P d (Elsewhere n c) f l p = f n (inl refl)
    note_fits P d (Shorten n c i) f l p = (key_of u i p.2, f n (inl refl))

  -- ---- a note with another message, which its frame does not tell

  unfoldable pub with_message : Name → Note Name → Note Name
  with_message m (Deliver d n verb ys) = Deliver (record d { message = m }) n verb ys
  with_message m (Open i n) = Open i n
  with_message m (Ask p i n) = Ask p i n
  with_message m (SettledTo n y) = SettledTo n y
  with_message m (Elsewhere n c) = Elsewhere n c
  with_message m (Shorten n c i) = Shorten n c i

  same_frame : (m : Name) (n : Note Name) (t : Connection Name) → frame_now (sight v u) (with_message m n) t ≡ frame_now (sight v u) n t
  unfolding with_message tables.frame_now tables.operation tables.exporting tables.exported_note
  same_frame m (Deliver d n verb ys) t = refl
  same_frame m other t = refl

  same_export : (m : Name) (n : Note Name) (answers ns : List Name) → exported_note (sight v u) answers (with_message m n) ns ≡ exported_note (sight v u) answers n ns
  unfolding with_message tables.exported_note
  same_export m (Deliver d n verb ys) answers ns = refl
  same_export m other answers ns = refl

  message_fits : (m : Name) (n : Note Name) (t : Connection Name) → NoteFits v u t n → NoteFits v u t (with_message m n)
  unfolding with_message
  message_fits m (Deliver d n verb ys) t h = h
  message_fits m other t h = h

  -- ---- the next frame

  module _ (Q A : List Name) (c d : Connected) (m : Name) (n : Note Name) (ns : List (Note Name)) (log : List (Note Name)) (roots : List Name) (k : Kept v u Q A c d log (n ∷ ns) roots)
      (from : c.from ≡ v) (d_from : d.from ≡ u) (d_to : d.to ≡ v) (given : IsFront c.tables.imports d.tables.exports) (heard : IsFront c.tables.answers d.tables.questions) (fits : Fits v u Q d.tables.answers n) where
    -- by tables that v had as it put the note
    pub record Next (t : Connection Name) : Type 0 where
      pub exports : t.exports ≡ d.tables.imports
      pub questions : t.questions ≡ d.tables.answers
      pub grows : TablesGrow t c.tables
      pub noted : Noted v u Q A n t
      pub due : frame_due c d ≡ Some (frame_now (sight v u) n t)
      pub later : IsFront (wire.with_note v A n d.tables.imports) c.tables.exports
      pub asks : c.tables.questions ≡ (d.tables.answers ++ asked_in (sight v u) n) ++ wire.questions_in u ns

    pub next : (t : Connection Name) × Next t
    unfolding conn.frame_due
    next = by k.0 k.1 k.3 k.4 k.8
      where
        by : (front rest : List Operation) → c.written ≡ front ++ rest → length front ≡ d.heard → AreKept v u Q A c d.tables.imports d.tables.answers (n ∷ ns) rest → (t : Connection Name) × Next t
        by front [] e f h = absurd h
        by front (o ∷ os) e f h = (
          h.0,
          record {
            exports = h.1;
            questions = h.2;
            grows = h.3;
            noted = h.5;
            due = ap (λ ws. slice_get ws d.heard) e ∙ ap (λ (i : ℕ). slice_get (front ++ o ∷ os) i) (sym f) ∙ nth_front front os o ∙ ap (λ z. Some z) h.4;
            later = (let more = exports_start v A ns (wire.with_note v A n d.tables.imports) in (more.0, kept_exports v u Q A c (wire.with_note v A n d.tables.imports) (d.tables.answers ++ asked_in (sight v u) n) ns os h.6 ∙ more.1));
            asks = kept_questions v u Q A c (wire.with_note v A n d.tables.imports) (d.tables.answers ++ asked_in (sight v u) n) ns os h.6;
          },
        )

    abbrev T : Connection Name
    T = next.0

    of_next : Next T
    of_next = next.1

    numbered_told : (z : Name) → IsAmong z (told_in n) → IsNumbered v u T z
    numbered_told z a = either (fits.ends z a)
      where
        of_it : host_of z ≡ u → IsAmong z Q ⊎ IsAmong z (next.0).imports → IsNumbered v u next.0 z
        of_it e (inl b) = let x = next.1 in inr (inl (in_of (next.0).questions z (subst (λ qs. IsAmong z qs) (sym x.questions) (fits.asked z a e b))))
        of_it e (inr b) = inr (inr (in_of (next.0).imports z b))

        either : (host_of z ≡ v) ⊎ (host_of z ≡ u) → IsNumbered v u next.0 z
        either (inl e) = inl (eq-eqb (host_of z) v e)
        either (inr e) = let x = next.1 in let noted = x.noted in of_it e (noted.gives z a e)

    fits_now : NoteFits v u T (with_message m n)
    fits_now = let p = fits.provided in message_fits m n T (note_fits T p.0 p.1 n numbered_told fits.lists p.2)

    exported_now : exported_note (sight v u) (next.0).answers (with_message m n) (next.0).exports ≡ wire.with_note v A n d.tables.imports
    exported_now = let x = next.1 in let noted = x.noted in same_export m n (next.0).answers (next.0).exports ∙ exported_same v u (next.0).answers A n (next.0).exports noted.heard ∙ ap (λ (is : List Name). wire.with_note v A n is) x.exports

    at_number : (p : ℕ) (x : Name) → slice_get (exported_note (sight v u) (next.0).answers (with_message m n) (next.0).exports) p ≡ Some x → numbered c.from c.tables.exports p ≡ x
    unfolding numbered
    at_number p x e = let k = next.1 in ap (λ o. unwrap_or o (Root c.from)) (ap (λ (is : List Name). slice_get is p) k.later.1 ∙ get_append (wire.with_note v A n d.tables.imports) k.later.0 p x (ap (λ (is : List Name). slice_get is p) (sym exported_now) ∙ e))

    message_is : (x : Note Name) (e : Delivery Name) (z : Name) (verb : List ℕ) (ys : Passeds Name) → with_message m x ≡ Deliver e z verb ys → m ≡ e.message
    unfolding with_message
    message_is (Deliver q z verb ys) e y w zs f = let same : record q { message = m } ≡ e = cc in ap (λ (k : Delivery Name). k.message) same
    message_is (Open i z) e y w zs f = cc
    message_is (Ask p i z) e y w zs f = cc
    message_is other e b w zs f = cc

    nth_mid : (xs zs : List Name) (x : Name) → slice_get ((xs ++ x ∷ []) ++ zs) (length xs) ≡ Some x
    nth_mid [] zs x = refl
    nth_mid (y ∷ xs) zs x = nth_mid xs zs x

    asked_now : (x : Note Name) → n ≡ x → (p i : ℕ) (z : Name) → with_message m x ≡ Ask p i z → numbered c.from c.tables.questions (length (next.0).questions) ≡ z
    unfolding with_message numbered tables.asked_in
    asked_now (Ask q j y) e p i z f = let k = next.1 in let same : y ≡ z = cc in
        ap (λ o. unwrap_or o (Root c.from)) (ap (λ (qs : List Name). slice_get c.tables.questions (length qs)) k.questions ∙ ap (λ (qs : List Name). slice_get qs (length d.tables.answers)) (k.asks ∙ ap (λ (x : Note Name). (d.tables.answers ++ asked_in (sight v u) x) ++ wire.questions_in u ns) e) ∙ nth_mid d.tables.answers (wire.questions_in u ns) y) ∙ same
    asked_now other e p i z f = cc

    brings : Brings v u T (newcomers c m) (with_message m n)
    unfolding newcomers
    brings = record {
      object = at_number;
      promise = λ p k x e. at_number p x e;
      exported = at_number;
      gift = λ h i k. refl;
      message = λ q y verb ys e. message_is n q y verb ys e;
      asked = λ p i y e. asked_now n refl p i y e;
    }

    abbrev pub Seen : Stage Name → Heard Name (Note (Incoming Name Name))
    Seen s = seen_note v u (next.0).answers (with_message m n) s

    pub read_next : (s : Stage Name) → s.imports ≡ d.tables.imports → (read_frame d c m s (frame_due c d) ≡ Some (Seen s)) × (let h : Heard Name (Note (Incoming Name Name)) = Seen s in h.after.imports ≡ wire.with_note v A n d.tables.imports)
    unfolding conn.read_frame
    read_next s e = let x = next.1 in let g = x.grows in
        let r = written_read v u next.0 d.tables (with_message m n) s (newcomers c m) (e ∙ sym x.exports) (sym x.questions) (front_trans (next.0).imports c.tables.imports d.tables.exports g.imports given) (front_trans (next.0).answers c.tables.answers d.tables.questions g.answers heard) fits_now brings in (
          ap (λ o. read_frame d c m s o) x.due ∙ ap (λ (a : ℕ). note_heard is_object a d.to (newcomers c m) d.tables (frame_now (sight v u) n next.0) s) d_from ∙ ap (λ (b : ℕ). note_heard is_object u b (newcomers c m) d.tables (frame_now (sight v u) n next.0) s) d_to
              ∙ ap (λ o. note_heard is_object u v (newcomers c m) d.tables o s) (sym (same_frame m n next.0)) ∙ r.0,
          r.1 ∙ exported_now,
        )

    -- once it was read, by any message
    pub kept_read : m ≡ Root c.from → (to : c.to ≡ u) → Kept v u Q A c (conn.received c n d) log ns roots
    unfolding conn.received conn.first_stage conn.imports_after
    kept_read e to = by k.0 k.1 k.2 k.3 k.4 k.5 k.6 k.7 k.8
      where
        imports_now : conn.imports_after d.tables.imports (read_frame d c (Root c.from) (conn.first_stage d) (frame_due c d)) ≡ wire.with_note v A n d.tables.imports
        imports_now = let r = read_next (conn.first_stage d) refl in ap (λ o. conn.imports_after d.tables.imports o) (ap (λ (q : Name). read_frame d c q (conn.first_stage d) (frame_due c d)) (sym e) ∙ r.0) ∙ r.1

        answers_now : d.tables.answers ++ asked_in (sight c.from c.to) n ≡ d.tables.answers ++ asked_in (sight v u) n
        answers_now = ap (λ (a : ℕ). d.tables.answers ++ asked_in (sight a c.to) n) from ∙ ap (λ (b : ℕ). d.tables.answers ++ asked_in (sight v b) n) to

        count : (fs : List Operation) (o : Operation) (j : ℕ) → length fs ≡ j → length (fs ++ o ∷ []) ≡ suc j
        count fs o j f = more fs ∙ ap suc f
          where
            more : (xs : List Operation) → length (xs ++ o ∷ []) ≡ suc (length xs)
            more [] = refl
            more (x ∷ xs) = ap suc (more xs)

        by : (front rest : List Operation) (gone : List (Note Name)) → c.written ≡ front ++ rest → length front ≡ d.heard → log ≡ gone ++ n ∷ ns → d.tables.answers ≡ wire.questions_in u gone → d.tables.imports ≡ wire.exports_after v A gone roots
            → AreKept v u Q A c d.tables.imports d.tables.answers (n ∷ ns) rest → Kept v u Q A c (conn.received c n d) log ns roots
        by front [] gone w f g a i h = absurd h
        by front (o ∷ os) gone w f g a i h = (
          front ++ o ∷ [],
          os,
          gone ++ n ∷ [],
          w ∙ sym (append_assoc front (o ∷ []) os),
          count front o d.heard f,
          g ∙ sym (append_assoc gone (n ∷ []) ns),
          answers_now ∙ ap (λ (qs : List Name). qs ++ asked_in (sight v u) n) a ∙ asked_more v u gone n,
          imports_now ∙ ap (λ (is : List Name). wire.with_note v A n is) i ∙ sym (exports_more v u A gone n roots),
          subst (λ (is : List Name). AreKept v u Q A c is (d.tables.answers ++ asked_in (sight c.from c.to) n) ns os) (sym imports_now) (subst (λ (qs : List Name). AreKept v u Q A c (wire.with_note v A n d.tables.imports) qs ns os) (sym answers_now) h.6),
        )
