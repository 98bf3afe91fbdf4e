-- What a vat has in numbers for a peer goes with what the notes between them tell: one connection.
use Rattle.std.proofs.Common.{◌≡◌, ℕ, Bool, true, false, List, [], ◌∷◌, ◌++◌, refl, sym, ap, subst, ◌∙◌, ◌⊎◌, inl, inr, length, append_assoc, append-nil, ◌==◌}
use Rattle.std.proofs.lemmas.Bool.{eqb-true}
use Rattle.def_op.specs.Frames.{Operation}
use Rattle.def_machine.specs.Values.{Value, Ref, Name, same_name, host_of, answer_of}
use Rattle.def_machine.specs.State.{Passed, Passeds, Plain, AGift, Many, NoMore, More, Note, Deliver, Open, Ask, SettledTo, Elsewhere, Shorten}
use Rattle.def_run.specs.Connections as tables
use Rattle.def_run.specs.Connections.{Connection, stands_in, asked_in, exported_note, frame_now}
use Rattle.def_run.specs.Wire as conn
use Rattle.def_run.specs.Wire.{Connected, sight}
use Rattle.def_run.specs.World.{has_name}
use Rattle.law_fate.specs.Name.Names.{AllOf, IsAmong}
use Rattle.law_reference.specs.Reference.Logs as wire
use Rattle.law_frame.specs.Frame.Asked.{told_value, told_passed, told_all, told_in}
use Rattle.law_frame.specs.Frame.Growing.{TablesGrow}
use Rattle.law_frame.proofs.Frame.ArriveAsking.{among_front, among_back}
use Rattle.law_frame.proofs.Frame.Exports.{note_same, log_same}
use Rattle.law_frame.proofs.Frame.Grow.{questions_twice, among_left, among_right}
use Rattle.law_frame.proofs.Frame.Ranks.{exports_twice}
use Rattle.law_frame.proofs.Frame.Grows.{tables_trans, wrote_grows, received_grows}

module _ (v u : ℕ) where
  -- ---- what is exported, by names

  pub in_has : (ns : List Name) (n : Name) → stands_in (sight v u) ns n ≡ has_name ns n
  unfolding stands_in has_name sight
  in_has [] n = refl
  in_has (m ∷ ms) n = ap (λ (b : Bool). elim (same_name m n) [ true ↦ true | false ↦ b ]) (in_has ms n)

  as_or : (b : Bool) (xs ys ns : List Name) → (b ≡ true → xs ≡ ys) → ◌≡◌ {A = List Name} (elim b [ true ↦ xs | false ↦ ns ]) (elim b [ true ↦ ys | false ↦ ns ])
  as_or true xs ys ns f = f refl
  as_or false xs ys ns f = refl

  module _ (answers asked : List Name) where
    -- a name of v was asked for by then, where it is asked for at all
    abbrev pub Heard : Name → Type 0
    Heard n = host_of n ≡ v → has_name answers n ≡ has_name asked n

    as_same : (n : Name) (ns : List Name) → Heard n → tables.exported_as (sight v u) answers n ns ≡ wire.with_export v asked n ns
    unfolding tables.exported_as wire.with_export sight
    as_same n ns f = as_or (host_of n == v) _ _ ns
        (λ e. ap (λ (b : Bool). elim b [ true ↦ ns | false ↦ elim (stands_in (sight v u) ns n) [ true ↦ ns | false ↦ ns ++ n ∷ [] ] ]) (in_has answers n ∙ f (eqb-true (host_of n) v e))
        ∙ ap (λ (c : Bool). elim (has_name asked n) [ true ↦ ns | false ↦ elim c [ true ↦ ns | false ↦ ns ++ n ∷ [] ] ]) (in_has ns n))

    value_same : (y : Value Name) (ns : List Name) → ((z : Name) → IsAmong z (told_value y) → Heard z) → tables.exported_value (sight v u) answers y ns ≡ wire.with_value v asked y ns
    unfolding tables.exported_value wire.with_value told_value
    value_same (Ref n) ns f = as_same n ns (f n (inl refl))
    value_same other ns f = refl

    mutual
      unfolding tables.exported_passed tables.exported_all wire.with_passed wire.with_all told_passed told_all

      passed_same : (y : Passed Name) (ns : List Name) → ((z : Name) → IsAmong z (told_passed y) → Heard z) → tables.exported_passed (sight v u) answers y ns ≡ wire.with_passed v asked y ns
      passed_same (Plain y) ns f = value_same y ns f
      passed_same (AGift h i) ns f = refl
      passed_same (Many ys) ns f = all_same ys ns f

      all_same : (ys : Passeds Name) (ns : List Name) → ((z : Name) → IsAmong z (told_all ys) → Heard z) → tables.exported_all (sight v u) answers ys ns ≡ wire.with_all v asked ys ns
      all_same NoMore ns f = refl
      all_same (More y ys) ns f = ap (tables.exported_all (sight v u) answers ys) (passed_same y ns (λ z a. f z (among_front z (told_passed y) (told_all ys) a))) ∙ all_same ys (wire.with_passed v asked y ns) (λ z a. f z (among_back z (told_passed y) (told_all ys) a))

    pub exported_same : (n : Note Name) (ns : List Name) → ((z : Name) → IsAmong z (told_in n) → Heard z) → exported_note (sight v u) answers n ns ≡ wire.with_note v asked n ns
    unfolding tables.exported_note wire.with_note told_in
    exported_same (Deliver m t verb ys) ns f = ap (tables.exported_all (sight v u) answers ys) (as_same t ns (f t (inl refl))) ∙ all_same ys (wire.with_export v asked t ns) (λ z a. f z (inr a))
    exported_same (Open i t) ns f = as_same t ns (f t (inl refl))
    exported_same (Ask p i t) ns f = refl
    exported_same (SettledTo t y) ns f = ap (tables.exported_passed (sight v u) answers y) (as_same t ns (f t (inl refl))) ∙ passed_same y (wire.with_export v asked t ns) (λ z a. f z (inr a))
    exported_same (Elsewhere t c) ns f = as_same t ns (f t (inl refl))
    exported_same (Shorten t c i) ns f = as_same t ns (f t (inl refl))

  if_same : (b : Bool) (m : Name) → tables.answer_if (sight v u) b m ≡ wire.asked_if b (answer_of u m) []
  unfolding tables.answer_if wire.asked_if sight
  if_same true m = refl
  if_same false m = refl

  pub asked_same : (n : Note Name) → asked_in (sight v u) n ≡ wire.questions_in u (n ∷ [])
  unfolding tables.asked_in wire.questions_in
  asked_same (Deliver d t verb ys) = if_same d.asks d.message
  asked_same other = refl

  pub asked_more : (ns : List (Note Name)) (n : Note Name) → wire.questions_in u ns ++ asked_in (sight v u) n ≡ wire.questions_in u (ns ++ n ∷ [])
  asked_more ns n = ap (λ qs. wire.questions_in u ns ++ qs) (asked_same n) ∙ sym (questions_twice u ns (n ∷ []))

  pub exports_more : (A : List Name) (ns : List (Note Name)) (n : Note Name) (is : List Name) → wire.exports_after v A (ns ++ n ∷ []) is ≡ wire.with_note v A n (wire.exports_after v A ns is)
  unfolding wire.exports_after
  exports_more A ns n is = exports_twice v A ns (n ∷ []) is

  -- ---- the notes under way

  -- What v had as it put a note: each name of u in it was asked of u, or had been exported by u and had arrived; and each name of v in it that u ever asks for had been asked for in what had arrived.
  pub record Noted (Q A : List Name) (n : Note Name) (t : Connection Name) : Type 0 where
    pub gives : (z : Name) → IsAmong z (told_in n) → host_of z ≡ u → IsAmong z Q ⊎ IsAmong z t.imports
    pub heard : (z : Name) → IsAmong z (told_in n) → Heard t.answers A z

  module _ (Q A : List Name) (c : Connected) where
    -- The frames of those notes, in order, up to the last that was put: each was written by the tables that v had as the note was put.
    abbrev pub AreKept : List Name → List Name → List (Note Name) → List Operation → Type 0
    AreKept is qs [] [] = (is ≡ c.tables.exports) × (qs ≡ c.tables.questions)
    AreKept is qs (n ∷ ns) (o ∷ os) = (t : Connection Name) × (t.exports ≡ is) × (t.questions ≡ qs) × TablesGrow t c.tables × (o ≡ frame_now (sight v u) n t) × Noted Q A n t × AreKept (wire.with_note v A n is) (qs ++ asked_in (sight v u) n) ns os
    AreKept is qs [] (o ∷ os) = ⊥
    AreKept is qs (n ∷ ns) [] = ⊥

    pub kept_exports : (is qs : List Name) (ns : List (Note Name)) (os : List Operation) → AreKept is qs ns os → c.tables.exports ≡ wire.exports_after v A ns is
    unfolding wire.exports_after
    kept_exports is qs [] [] h = sym h.0
    kept_exports is qs (n ∷ ns) (o ∷ os) h = kept_exports (wire.with_note v A n is) (qs ++ asked_in (sight v u) n) ns os h.6
    kept_exports is qs [] (o ∷ os) h = absurd h
    kept_exports is qs (n ∷ ns) [] h = absurd h

    pub kept_questions : (is qs : List Name) (ns : List (Note Name)) (os : List Operation) → AreKept is qs ns os → c.tables.questions ≡ qs ++ wire.questions_in u ns
    unfolding wire.questions_in
    kept_questions is qs [] [] h = sym h.1 ∙ sym (append-nil qs)
    kept_questions is qs (n ∷ ns) (o ∷ os) h = kept_questions (wire.with_note v A n is) (qs ++ asked_in (sight v u) n) ns os h.6 ∙ append_assoc qs (asked_in (sight v u) n) (wire.questions_in u ns)
        ∙ ap (λ (xs : List Name). qs ++ xs) (ap (λ (xs : List Name). xs ++ wire.questions_in u ns) (asked_same n) ∙ sym (questions_twice u (n ∷ []) ns))
    kept_questions is qs [] (o ∷ os) h = absurd h
    kept_questions is qs (n ∷ ns) [] h = absurd h

  -- the connection grows in what it reads alone
  later : (Q A : List Name) (c e : Connected) → TablesGrow c.tables e.tables → e.tables.exports ≡ c.tables.exports → e.tables.questions ≡ c.tables.questions
      → (is qs : List Name) (ns : List (Note Name)) (os : List Operation) → AreKept Q A c is qs ns os → AreKept Q A e is qs ns os
  later Q A c e g x q is qs [] [] h = (h.0 ∙ sym x, h.1 ∙ sym q)
  later Q A c e g x q is qs (n ∷ ns) (o ∷ os) h = (h.0, h.1, h.2, tables_trans h.0 c.tables e.tables h.3 g, h.4, h.5, later Q A c e g x q (wire.with_note v A n is) (qs ++ asked_in (sight v u) n) ns os h.6)
  later Q A c e g x q is qs [] (o ∷ os) h = absurd h
  later Q A c e g x q is qs (n ∷ ns) [] h = absurd h

  -- more is asked for
  more_asked : (Q R A B : List Name) (c : Connected) → ((z : Name) → IsAmong z Q → IsAmong z R) → (is qs : List Name) (ns : List (Note Name)) (os : List Operation) → ((n : Note Name) → IsAmong n ns → AllOf (λ z. has_name A z ≡ has_name B z) (told_in n))
      → AreKept Q A c is qs ns os → AreKept R B c is qs ns os
  more_asked Q R A B c f is qs [] [] g h = h
  more_asked Q R A B c f is qs (n ∷ ns) (o ∷ os) g h = (h.0, h.1, h.2, h.3, h.4, noted h.5, subst (λ (js : List Name). AreKept R B c js (qs ++ asked_in (sight v u) n) ns os) (note_same v A B n is (g n (inl refl))) (more_asked Q R A B c f (wire.with_note v A n is) (qs ++ asked_in (sight v u) n) ns os (λ m a. g m (inr a)) h.6))
    where
      pick : (zs : List Name) → AllOf (λ z. has_name A z ≡ has_name B z) zs → (z : Name) → IsAmong z zs → has_name A z ≡ has_name B z
      pick [] k z a = absurd a
      pick (y ∷ zs) k z (inl e) = subst (λ (w : Name). has_name A w ≡ has_name B w) (sym e) k.0
      pick (y ∷ zs) k z (inr a) = pick zs k.1 z a

      noted : {t : Connection Name} → Noted Q A n t → Noted R B n t
      noted {t = t} k = record { gives = λ z a e. either t.imports z (k.gives z a e); heard = λ z a e. k.heard z a e ∙ pick (told_in n) (g n (inl refl)) z a }
        where
          either : (xs : List Name) (z : Name) → IsAmong z Q ⊎ IsAmong z xs → IsAmong z R ⊎ IsAmong z xs
          either xs z (inl a) = inl (f z a)
          either xs z (inr a) = inr a
  more_asked Q R A B c f is qs [] (o ∷ os) g h = absurd h
  more_asked Q R A B c f is qs (n ∷ ns) [] g h = absurd h

  -- one more is put
  module _ (Q A : List Name) (m : Note Name) (c : Connected) (from : c.from ≡ v) (to : c.to ≡ u) (noted : Noted Q A m c.tables) where
    sight_is : sight c.from c.to ≡ sight v u
    sight_is = ap (λ (a : ℕ). sight a c.to) from ∙ ap (λ (b : ℕ). sight v b) to

    put_last : (is qs : List Name) → is ≡ c.tables.exports → qs ≡ c.tables.questions → AreKept Q A (conn.wrote m c) is qs (m ∷ []) (frame_now (sight c.from c.to) m c.tables ∷ [])
    unfolding conn.wrote tables.put_on
    put_last is qs x q = let g = wrote_grows m c in (
      c.tables,
      sym x,
      sym q,
      g.tables,
      ap (λ S. frame_now S m c.tables) sight_is,
      noted,
      (ap (λ (ns : List Name). wire.with_note v A m ns) x ∙ sym (exported_same c.tables.answers A m c.tables.exports noted.heard) ∙ sym (ap (λ S. exported_note S c.tables.answers m c.tables.exports) sight_is), ap (λ (ns : List Name). ns ++ asked_in (sight v u) m) q ∙ sym (ap (λ S. c.tables.questions ++ asked_in S m) sight_is)),
    )

    put_more : (is qs : List Name) (ns : List (Note Name)) (os : List Operation) → AreKept Q A c is qs ns os → AreKept Q A (conn.wrote m c) is qs (ns ++ m ∷ []) (os ++ frame_now (sight c.from c.to) m c.tables ∷ [])
    put_more is qs [] [] h = put_last is qs h.0 h.1
    put_more is qs (n ∷ ns) (o ∷ os) h = let g = wrote_grows m c in let w : Connected = conn.wrote m c in (h.0, h.1, h.2, tables_trans h.0 c.tables w.tables h.3 g.tables, h.4, h.5, put_more (wire.with_note v A n is) (qs ++ asked_in (sight v u) n) ns os h.6)
    put_more is qs [] (o ∷ os) h = absurd h
    put_more is qs (n ∷ ns) [] h = absurd h

  -- ---- a connection with its notes

  -- Of the notes that were put, some have arrived: the peer was asked for what they ask for, and has by position what they told first. The others are under way, and have their frames.
  abbrev pub Kept : List Name → List Name → Connected → Connected → List (Note Name) → List (Note Name) → List Name → Type 0
  Kept Q A c d log notes roots = (front rest : List Operation) × (gone : List (Note Name)) × (c.written ≡ front ++ rest) × (length front ≡ d.heard) × (log ≡ gone ++ notes)
      × (d.tables.answers ≡ wire.questions_in u gone) × (d.tables.imports ≡ wire.exports_after v A gone roots) × AreKept Q A c d.tables.imports d.tables.answers notes rest

  pub kept_put : (Q A : List Name) (m : Note Name) (c d : Connected) (log notes : List (Note Name)) (roots : List Name) → c.from ≡ v → c.to ≡ u → Noted Q A m c.tables → Kept Q A c d log notes roots → Kept Q A (conn.wrote m c) d (log ++ m ∷ []) (notes ++ m ∷ []) roots
  unfolding conn.wrote
  kept_put Q A m c d log notes roots from to noted h = let o = frame_now (sight c.from c.to) m c.tables in
      (h.0, h.1 ++ o ∷ [], h.2, ap (λ ws. ws ++ o ∷ []) h.3 ∙ append_assoc h.0 h.1 (o ∷ []), h.4, ap (λ ns. ns ++ m ∷ []) h.5 ∙ append_assoc h.2 notes (m ∷ []), h.6, h.7, put_more Q A m c from to noted d.tables.imports d.tables.answers notes h.1 h.8)

  -- the reader puts notes itself
  pub kept_reader : (Q A : List Name) (m : Note Name) (c d : Connected) (log notes : List (Note Name)) (roots : List Name) → Kept Q A c d log notes roots → Kept Q A c (conn.wrote m d) log notes roots
  unfolding conn.wrote tables.put_on
  kept_reader Q A m c d log notes roots h = (h.0, h.1, h.2, h.3, h.4, h.5, h.6, h.7, h.8)

  -- the writer reads
  pub kept_writer : (Q A : List Name) (m : Note Name) (p c d : Connected) (log notes : List (Note Name)) (roots : List Name) → Kept Q A c d log notes roots → Kept Q A (conn.received p m c) d log notes roots
  unfolding conn.received
  kept_writer Q A m p c d log notes roots h = let g = received_grows p m c in (h.0, h.1, h.2, h.3, h.4, h.5, h.6, h.7, later Q A c (conn.received p m c) g.tables refl refl d.tables.imports d.tables.answers notes h.1 h.8)

  pub kept_asked : (Q R A B : List Name) (c d : Connected) (log notes : List (Note Name)) (roots : List Name) → ((z : Name) → IsAmong z Q → IsAmong z R) → ((n : Note Name) → IsAmong n log → AllOf (λ z. has_name A z ≡ has_name B z) (told_in n))
      → Kept Q A c d log notes roots → Kept R B c d log notes roots
  kept_asked Q R A B c d log notes roots f g h = (
    h.0,
    h.1,
    h.2,
    h.3,
    h.4,
    h.5,
    h.6,
    h.7 ∙ log_same v A B h.2 roots (λ n a. g n (subst (λ ns. IsAmong n ns) (sym h.5) (among_left n h.2 notes a))),
    more_asked Q R A B c f d.tables.imports d.tables.answers notes h.1 (λ n a. g n (subst (λ ns. IsAmong n ns) (sym h.5) (among_right n h.2 notes a))) h.8,
  )
