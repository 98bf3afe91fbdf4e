-- A note is written alike by two kinds of names, of which a function leads from one to the other.
use Rattle.std.proofs.Common.{◌≡◌, ℕ, zero, suc, Bool, true, false, List, [], ◌∷◌, ◌++◌, refl, sym, ap, ◌∙◌, map, length}
use Rattle.def_op.specs.Frames as op
use Rattle.def_op.specs.Frames.{Described, Members}
use Rattle.def_machine.specs.Values.{Value, Ref, word_of}
use Rattle.def_machine.specs.State.{Passed, Passeds, Plain, AGift, Many, NoMore, More, Note, Deliver, Open, Ask, SettledTo, Elsewhere, Shorten}
use Rattle.law_fate.specs.Name.Names.{AllOf}
use Rattle.def_run.specs.Connections as write
use Rattle.def_run.specs.Connections.{Connection, Sight}
use Rattle.def_machine.specs.Maps as maps
use Rattle.law_frame.specs.Frame.Together.{SeesAlike, ValueMay, PassedMay, AllMay, NoteMay, TablesMay, AsksAlike, WriteTogether, WritingsGoTogether, changed_tables}

module _ {N M : Type 0} (f : N → M) (P : N → Bool) (S : Sight N) (T : Sight M) (alike : SeesAlike f P S T) where
  abbrev May : List N → Type 0
  May ns = AllOf (λ n. P n ≡ true) ns

  map_end : (xs : List N) (x : N) → map f (xs ++ x ∷ []) ≡ map f xs ++ f x ∷ []
  map_end [] x = refl
  map_end (y ∷ xs) x = ap (λ ys. f y ∷ ys) (map_end xs x)

  map_on : (xs ys : List N) → map f (xs ++ ys) ≡ map f xs ++ map f ys
  map_on [] ys = refl
  map_on (x ∷ xs) ys = ap (λ zs. f x ∷ zs) (map_on xs ys)

  map_length : (xs : List N) → length (map f xs) ≡ length xs
  map_length [] = refl
  map_length (x ∷ xs) = ap suc (map_length xs)

  may_end : (xs : List N) (x : N) → May xs → P x ≡ true → May (xs ++ x ∷ [])
  may_end [] x m p = (p, tt)
  may_end (y ∷ xs) x (q, m) p = (q, may_end xs x m p)

  or_else : (a b c d : Bool) → a ≡ b → c ≡ d → ◌≡◌ {A = Bool} (elim a [ true ↦ true | false ↦ c ]) (elim b [ true ↦ true | false ↦ d ])
  or_else true true c d e g = refl
  or_else false false c d e g = g
  or_else true false c d e g = cc
  or_else false true c d e g = cc

  stands : (ns : List N) (n : N) → May ns → write.stands_in T (map f ns) (f n) ≡ write.stands_in S ns n
  unfolding write.stands_in
  stands [] n m = refl
  stands (x ∷ ns) n (p, m) = or_else (T.same (f x) (f n)) (S.same x n) (write.stands_in T (map f ns) (f n)) (write.stands_in S ns n) (alike.same x n p) (stands ns n m)

  place_or : (a b : Bool) (i j : ℕ) → a ≡ b → i ≡ j → ◌≡◌ {A = ℕ} (elim a [ true ↦ zero | false ↦ suc i ]) (elim b [ true ↦ zero | false ↦ suc j ])
  place_or true true i j e g = refl
  place_or false false i j e g = ap suc g
  place_or true false i j e g = cc
  place_or false true i j e g = cc

  place : (ns : List N) (n : N) → May ns → write.place_in T (map f ns) (f n) ≡ write.place_in S ns n
  unfolding write.place_in
  place [] n m = refl
  place (x ∷ ns) n (p, m) = place_or (T.same (f x) (f n)) (S.same x n) (write.place_in T (map f ns) (f n)) (write.place_in S ns n) (alike.same x n p) (place ns n m)

  -- ---- exports

  export_or : (a b c d e g : Bool) (xs : List M) (ns : List N) (n : N) → a ≡ b → c ≡ d → e ≡ g → xs ≡ map f ns
      → ◌≡◌ {A = List M} (elim a [ true ↦ elim c [ true ↦ xs | false ↦ elim e [ true ↦ xs | false ↦ xs ++ f n ∷ [] ] ] | false ↦ xs ])
      (map f (elim b [ true ↦ elim d [ true ↦ ns | false ↦ elim g [ true ↦ ns | false ↦ ns ++ n ∷ [] ] ] | false ↦ ns ]))
  export_or true true true true e g xs ns n p q r s = s
  export_or true true false false true true xs ns n p q r s = s
  export_or true true false false false false xs ns n p q r s = ap (λ ys. ys ++ f n ∷ []) s ∙ sym (map_end ns n)
  export_or false false c d e g xs ns n p q r s = s
  export_or true false c d e g xs ns n p q r s = cc
  export_or false true c d e g xs ns n p q r s = cc
  export_or true true true false e g xs ns n p q r s = cc
  export_or true true false true e g xs ns n p q r s = cc
  export_or true true false false true false xs ns n p q r s = cc
  export_or true true false false false true xs ns n p q r s = cc

  exported : (asked ns : List N) (n : N) → P n ≡ true → May asked → May ns → write.exported_as T (map f asked) (f n) (map f ns) ≡ map f (write.exported_as S asked n ns)
  unfolding write.exported_as
  exported asked ns n p a m = export_or (T.own (f n)) (S.own n) (write.stands_in T (map f asked) (f n)) (write.stands_in S asked n) (write.stands_in T (map f ns) (f n)) (write.stands_in S ns n) (map f ns) ns n (alike.own n p) (stands asked n a) (stands ns n m) refl

  exports_or : (a b c : Bool) (ns : List N) (n : N) → May ns → P n ≡ true → May (elim a [ true ↦ elim b [ true ↦ ns | false ↦ elim c [ true ↦ ns | false ↦ ns ++ n ∷ [] ] ] | false ↦ ns ])
  exports_or true true c ns n m p = m
  exports_or true false true ns n m p = m
  exports_or true false false ns n m p = may_end ns n m p
  exports_or false b c ns n m p = m

  exports_may : (asked ns : List N) (n : N) → May ns → P n ≡ true → May (write.exported_as S asked n ns)
  unfolding write.exported_as
  exports_may asked ns n m p = exports_or (S.own n) (write.stands_in S asked n) (write.stands_in S ns n) ns n m p

  -- what is exported by something in a note, and that it may be
  abbrev Exports : List M → List N → Type 0
  Exports xs ns = (xs ≡ map f ns) × May ns

  module _ (asked : List N) (a : May asked) where
    abbrev Asked : List M
    Asked = map f asked

    name_exports : (n : N) (xs : List M) (ns : List N) → P n ≡ true → Exports xs ns → Exports (write.exported_as T Asked (f n) xs) (write.exported_as S asked n ns)
    name_exports n xs ns p (e, m) = (ap (write.exported_as T Asked (f n)) e ∙ exported asked ns n p a m, exports_may asked ns n m p)

    value_exports : (y : Value N) (xs : List M) (ns : List N) → ValueMay P y → Exports xs ns → Exports (write.exported_value T Asked (maps.value f y) xs) (write.exported_value S asked y ns)
    unfolding write.exported_value
    value_exports (Ref n) xs ns p e = name_exports n xs ns p e
    value_exports other xs ns p e = e

    mutual
      unfolding write.exported_passed write.exported_all

      passed_exports : (y : Passed N) (xs : List M) (ns : List N) → PassedMay P y → Exports xs ns → Exports (write.exported_passed T Asked (maps.passed f y) xs) (write.exported_passed S asked y ns)
      passed_exports (Plain y) xs ns p e = value_exports y xs ns p e
      passed_exports (AGift h i) xs ns p e = e
      passed_exports (Many ys) xs ns p e = all_export ys xs ns p e

      all_export : (ys : Passeds N) (xs : List M) (ns : List N) → AllMay P ys → Exports xs ns → Exports (write.exported_all T Asked (maps.passeds f ys) xs) (write.exported_all S asked ys ns)
      all_export NoMore xs ns p e = e
      all_export (More y ys) xs ns (p, q) e = all_export ys (write.exported_passed T Asked (maps.passed f y) xs) (write.exported_passed S asked y ns) q (passed_exports y xs ns p e)

    note_exports : (n : Note N) (xs : List M) (ns : List N) → NoteMay P n → Exports xs ns → Exports (write.exported_note T Asked (maps.note f n) xs) (write.exported_note S asked n ns)
    unfolding write.exported_note
    note_exports (Deliver d n verb ys) xs ns (p, q) e = all_export ys (write.exported_as T Asked (f n) xs) (write.exported_as S asked n ns) q (name_exports n xs ns p e)
    note_exports (Open i n) xs ns p e = name_exports n xs ns p e
    note_exports (Ask p i n) xs ns m e = e
    note_exports (SettledTo n y) xs ns (p, q) e = passed_exports y (write.exported_as T Asked (f n) xs) (write.exported_as S asked n ns) q (name_exports n xs ns p e)
    note_exports (Elsewhere n c) xs ns p e = name_exports n xs ns p e
    note_exports (Shorten n c i) xs ns p e = name_exports n xs ns p e

  -- ---- descriptions

  position_alike : (a b : Bool) (i j : ℕ) → a ≡ b → i ≡ j → write.position T a i ≡ write.position S b j
  unfolding write.position
  position_alike true true i j e g = ap op.MyExport g
  position_alike false false i j e g = ap op.MyPromise g
  position_alike true false i j e g = cc
  position_alike false true i j e g = cc

  module _ (c : Connection N) (m : TablesMay P c) where
    abbrev d : Connection M
    d = changed_tables f c

    mine_alike : (n : N) (a b : Bool) → a ≡ b → write.mine T d (f n) a ≡ write.mine S c n b
    unfolding write.mine
    mine_alike n true true e = position_alike (T.object (f n)) (S.object n) (write.place_in T d.exports (f n)) (write.place_in S c.exports n) (alike.object n) (place c.exports n m.exports)
    mine_alike n false false e = ap op.MyAnswer (place c.answers n m.answers)
    mine_alike n true false e = cc
    mine_alike n false true e = cc

    yours_alike : (n : N) (a b : Bool) → a ≡ b → write.yours T d (f n) a ≡ write.yours S c n b
    unfolding write.yours
    yours_alike n true true e = ap op.YourAnswer (place c.questions n m.questions)
    yours_alike n false false e = ap op.YourExport (place c.imports n m.imports)
    yours_alike n true false e = cc
    yours_alike n false true e = cc

    described_or : (n : N) (a b : Bool) → a ≡ b → ◌≡◌ {A = Described} (elim a [ true ↦ write.mine T d (f n) (write.stands_in T d.exports (f n)) | false ↦ write.yours T d (f n) (write.stands_in T d.questions (f n)) ])
        (elim b [ true ↦ write.mine S c n (write.stands_in S c.exports n) | false ↦ write.yours S c n (write.stands_in S c.questions n) ])
    described_or n true true e = mine_alike n (write.stands_in T d.exports (f n)) (write.stands_in S c.exports n) (stands c.exports n m.exports)
    described_or n false false e = yours_alike n (write.stands_in T d.questions (f n)) (write.stands_in S c.questions n) (stands c.questions n m.questions)
    described_or n true false e = cc
    described_or n false true e = cc

    described_alike : (n : N) → P n ≡ true → write.described T d (f n) ≡ write.described S c n
    unfolding write.described
    described_alike n p = described_or n (T.own (f n)) (S.own n) (alike.own n p)

    value_alike : (y : Value N) → ValueMay P y → write.described_value T d (maps.value f y) ≡ write.described_value S c y
    unfolding write.described_value
    value_alike (Ref n) p = described_alike n p
    value_alike other p = refl

    mutual
      unfolding write.described_passed write.described_all

      passed_alike : (y : Passed N) → PassedMay P y → write.described_passed T d (maps.passed f y) ≡ write.described_passed S c y
      passed_alike (Plain y) p = value_alike y p
      passed_alike (AGift h i) p = refl
      passed_alike (Many ys) p = ap op.ListOf (all_alike ys p)

      all_alike : (ys : Passeds N) → AllMay P ys → write.described_all T d (maps.passeds f ys) ≡ write.described_all S c ys
      all_alike NoMore p = refl
      all_alike (More y ys) (p, q) = ap (λ z. op.more z (write.described_all T d (maps.passeds f ys))) (passed_alike y p) ∙ ap (op.more (write.described_passed S c y)) (all_alike ys q)

    delivered_alike : (b : Bool) (i j : ℕ) (x y : Described) (verb : List ℕ) (xs ys : Members) → i ≡ j → x ≡ y → xs ≡ ys → write.delivered T b i x verb xs ≡ write.delivered S b j y verb ys
    unfolding write.delivered
    delivered_alike true i j x y verb xs ys e g h = ap (λ k. op.Deliver k x verb xs) e ∙ (ap (λ z. op.Deliver j z verb xs) g ∙ ap (op.Deliver j y verb) h)
    delivered_alike false i j x y verb xs ys e g h = ap (λ z. op.DeliverOnly z verb xs) g ∙ ap (op.DeliverOnly y verb) h

    operation_alike : (n : Note N) → NoteMay P n → write.operation T d (maps.note f n) ≡ write.operation S c n
    unfolding write.operation
    operation_alike (Deliver e n verb ys) (p, q) = delivered_alike e.asks (length d.questions) (length c.questions) (write.described T d (f n)) (write.described S c n) verb (write.described_all T d (maps.passeds f ys)) (write.described_all S c ys) (map_length c.questions) (described_alike n p) (all_alike ys q)
    operation_alike (Open i n) p = ap (λ z. op.Provide z (word_of i)) (described_alike n p)
    operation_alike (Ask p i n) m = ap (λ k. op.Accept k p (word_of i)) (map_length c.questions)
    operation_alike (SettledTo n y) (p, q) = ap (λ z. op.Resolve z (op.To (write.described_passed T d (maps.passed f y)))) (described_alike n p) ∙ ap (λ z. op.Resolve (write.described S c n) (op.To z)) (passed_alike y q)
    operation_alike (Elsewhere n h) p = ap (λ z. op.Resolve z (op.Elsewhere h)) (described_alike n p)
    operation_alike (Shorten n h i) p = ap (λ z. op.Shorten z (word_of i)) (described_alike n p)

  -- ---- a note

  asked_or : (b : Bool) (k : N) → (b ≡ true → T.answer (f k) ≡ f (S.answer k)) → write.answer_if T b (f k) ≡ map f (write.answer_if S b k)
  unfolding write.answer_if
  asked_or true k e = ap (λ z. z ∷ []) (e refl)
  asked_or false k e = refl

  asked_alike : (n : Note N) → AsksAlike f S T n → write.asked_in T (maps.note f n) ≡ map f (write.asked_in S n)
  unfolding write.asked_in
  asked_alike (Deliver d n verb ys) e = asked_or d.asks d.message e
  asked_alike other e = refl

  module _ (c : Connection N) (n : Note N) (m : TablesMay P c) (k : NoteMay P n) where
    grown : Exports (write.exported_note T (map f c.answers) (maps.note f n) (map f c.exports)) (write.exported_note S c.answers n c.exports)
    grown = note_exports c.answers m.answers n (map f c.exports) c.exports k (refl, m.exports)

    exporting_alike : write.exporting T (maps.note f n) (changed_tables f c) ≡ changed_tables f (write.exporting S n c)
    unfolding write.exporting
    exporting_alike = ap (λ xs. record (changed_tables f c) { exports = xs }) grown.0

    pub exporting_may : TablesMay P (write.exporting S n c)
    unfolding write.exporting
    exporting_may = record { exports = grown.1; imports = m.imports; questions = m.questions; answers = m.answers }

    pub frame_alike : write.frame_now T (maps.note f n) (changed_tables f c) ≡ write.frame_now S n c
    unfolding write.frame_now
    frame_alike = ap (λ x. write.operation T x (maps.note f n)) exporting_alike ∙ operation_alike (write.exporting S n c) exporting_may n k

    pub put_alike : AsksAlike f S T n → write.put_on T (maps.note f n) (changed_tables f c) ≡ changed_tables f (write.put_on S n c)
    unfolding write.put_on
    put_alike e = ap (λ xs. record (changed_tables f c) { exports = xs; questions = map f c.questions ++ write.asked_in T (maps.note f n) }) grown.0
        ∙ ap (λ qs. record (changed_tables f c) { exports = map f (write.exported_note S c.answers n c.exports); questions = qs }) (ap (λ qs. map f c.questions ++ qs) (asked_alike n e) ∙ sym (map_on c.questions (write.asked_in S n)))

pub write_together : {N M : Type 0} → WriteTogether N M
write_together f P S T alike c n m k e = (frame_alike f P S T alike c n m k, put_alike f P S T alike c n m k e)

pub writings_go_together : WritingsGoTogether
writings_go_together = (write_together, write_together)
