-- What a vat does with a note that arrives ends in a sound state: from how each name and each gift in it comes to be known.
use Rattle.std.proofs.Common.{◌≡◌, ℕ, Bool, true, false, List, [], ◌∷◌, ◌++◌, refl}
use Rattle.def_machine.specs.Values.{Value, Null, Flag, Number, Letter, Text, Prim, Broken, Items, Ref, Name, Gift, host_of, Naming, naming, IsLearnt}
use Rattle.def_machine.specs.State.{Passed, Passeds, Plain, AGift, Many, NoMore, More, Note, Deliver, Open, Ask, SettledTo, Elsewhere, Shorten, Vat, come}
use Rattle.def_machine.specs.Arrive as arrive
use Rattle.def_machine.specs.Arrive.{Old, New}
use Rattle.def_run.specs.World as world
use Rattle.def_run.specs.World.{is_old, read_name, known_after}
use Rattle.law_fate.specs.Name.Names.{Bit, Named, Drew, Gave, At, IsMessageName, ValueOk}
use Rattle.law_fate.proofs.Name.Facts.{Fact, Nothing, Also, IsName, IsMail, IsVat, IsValue, AreValues, nothing, Holds}
use Rattle.law_fate.proofs.Name.Care.{Care, Under, Gets, Fine, fine_bind, fine_give, fine_under, fine_with}
use Rattle.law_fate.proofs.Name.CareArrive.{Gifts, fine_make_list, fine_arrive_ask, fine_delivered, fine_opened, fine_went, fine_shortened}
use Rattle.law_fate.proofs.Name.CareRefs.{fine_settle}

-- What is told of each name in a note, of each gift that passes, and of a draw that is asked for.
module _ (T : Name → Type 0) (G : ℕ → ℕ → Type 0) (Q : ℕ → Type 0) where
  abbrev pub ValueTells : Value Name → Type 0
  ValueTells (Ref n) = T n
  ValueTells other = Unit {0}

  pub value_tells : (P : Bit Name → Type 0) → ((n : Name) → P (Named n) → T n) → (y : Value Name) → ValueOk P y → ValueTells y
  value_tells P told (Ref n) f = told n f
  value_tells P told other f = tt

  abbrev mutual
    pub PassedTells : Passed Name → Type 0
    PassedTells (Plain y) = ValueTells y
    PassedTells (AGift h j) = G h j
    PassedTells (Many ys) = PassedsTell ys

    pub PassedsTell : Passeds Name → Type 0
    PassedsTell NoMore = Unit {0}
    PassedsTell (More y ys) = PassedTells y × PassedsTell ys

  -- of what a note is about, and of what passes in it
  abbrev pub NoteTells : Note Name → Type 0
  NoteTells (Deliver d n verb ys) = IsMessageName d.message × T n × PassedsTell ys
  NoteTells (Open j n) = T n
  NoteTells (Ask p j n) = Q j
  NoteTells (SettledTo n y) = T n × PassedTells y
  NoteTells (Elsewhere n c) = T n
  NoteTells (Shorten n c j) = T n

  module _ (word : ℕ → ℕ) (v : ℕ) (S : Care Name) where
    abbrev K : Naming Name Name
    K = naming word v

    -- how what a note brings comes to be known, with a fact on the names that are known by then
    pub record Brings (Ks : List Name → Fact Name) : Type 0 where
      pub old : (ks : List Name) (n : Name) → T n → is_old ks n ≡ true → (s : Vat Name) → Holds (S.ok s) (Ks ks) → S.ok s (Named n)
      pub new : (ks : List Name) (n : Name) → T n → is_old ks n ≡ false → Fine S (Ks ks) (come K (IsLearnt n) (host_of n)) (λ a. Also (IsName a) (Ks (ks ++ n ∷ [])))
      pub gift : (ks : List Name) (p h j : ℕ) → G h j → Fine S (Ks ks) (arrive.learn_gift K p h j) (λ y. Also (IsValue y) (Ks (ks ++ Gift h j ∷ [])))
      pub mail : (m : Name) (h : ℕ) → IsMessageName m → Fine S Nothing (arrive.learn_message K (New m h)) IsMail
      pub drew : (s : Vat Name) (j : ℕ) → S.ok s (Drew j)
      pub gave : (s : Vat Name) (j : ℕ) → Q j → S.ok s (Gave j)
      pub vat : (s : Vat Name) (h : ℕ) → S.ok s (At h)

    -- what a name is viewed as, where it settled at another vat
    abbrev pub Views : Type 0
    Views = (D : Fact Name) (n : Name) → Gets S D (IsName n) → (c : ℕ) → Gets S D (IsVat c) → Fine S D (arrive.view_there K n c) nothing

    -- a note that tells where a name settled
    abbrev pub IsNews : Note Name → Type 0
    IsNews (Elsewhere n c) = Unit {0}
    IsNews other = ⊥

    module _ (law : Under K S) (gifts : Gifts K S) (Ks : List Name → Fact Name) (b : Brings Ks) where
      either_read : (ks : List Name) (n : Name) (c : Bool) → is_old ks n ≡ c → T n → Fine S (Ks ks) (arrive.learn_name K (elim c [ true ↦ Old n | false ↦ New n (host_of n) ])) (λ a. Also (IsName a) (Ks (elim c [ true ↦ ks | false ↦ ks ++ n ∷ [] ])))
      unfolding arrive.learn_name
      either_read ks n true e t = fine_give S n (record { at = λ s c. (b.old ks n t e s c, c) })
      either_read ks n false e t = b.new ks n t e

      pub name_read : (ks : List Name) (n : Name) → T n → Fine S (Ks ks) (arrive.learn_name K (read_name ks n)) (λ a. Also (IsName a) (Ks (known_after ks n)))
      unfolding read_name known_after
      name_read ks n t = either_read ks n (is_old ks n) refl t

      value_read : (ks : List Name) (y : Value Name) → ValueTells y → Fine S (Ks ks) (arrive.learn_value K (world.read_value ks y).read) (λ z. Also (IsValue z) (Ks (world.read_value ks y).known))
      unfolding arrive.learn_value world.read_value
      value_read ks Null t = fine_give S Null (record { at = λ s c. (tt, c) })
      value_read ks (Flag f) t = fine_give S (Flag f) (record { at = λ s c. (tt, c) })
      value_read ks (Number z) t = fine_give S (Number z) (record { at = λ s c. (tt, c) })
      value_read ks (Letter l) t = fine_give S (Letter l) (record { at = λ s c. (tt, c) })
      value_read ks (Text w) t = fine_give S (Text w) (record { at = λ s c. (tt, c) })
      value_read ks (Prim k) t = fine_give S (Prim k) (record { at = λ s c. (tt, c) })
      value_read ks (Broken w) t = fine_give S (Broken w) (record { at = λ s c. (tt, c) })
      value_read ks (Items k) t = fine_give S (Items k) (record { at = λ s c. (tt, c) })
      value_read ks (Ref n) t = fine_bind S (λ a. Also (IsName a) (Ks (known_after ks n))) (name_read ks n t) (λ a. fine_give S (Ref a) (record { at = λ s c. (c.1.0, c.1.1) }))

      mutual
        unfolding arrive.learn arrive.learn_all world.read_passed world.read_all world.plain_read world.many_read world.more_read

        passed_read : (p : ℕ) (y : Passed Name) (ks : List Name) → PassedTells y → Fine S (Ks ks) (arrive.learn K p (world.read_passed y ks).read) (λ z. Also (IsValue z) (Ks (world.read_passed y ks).known))
        passed_read p (Plain y) ks t = value_read ks y t
        passed_read p (AGift h j) ks t = b.gift ks p h j t
        passed_read p (Many ys) ks t = fine_bind S (λ vs. Also (AreValues vs) (Ks (world.read_all ys ks).known)) (all_read p ys ks t) (λ vs. fine_with S (Ks (world.read_all ys ks).known) (record { at = λ s c. c.1.1 }) (fine_make_list K S law vs (record { at = λ s c. c.1.0 })))

        all_read : (p : ℕ) (ys : Passeds Name) (ks : List Name) → PassedsTell ys → Fine S (Ks ks) (arrive.learn_all K p (world.read_all ys ks).read) (λ zs. Also (AreValues zs) (Ks (world.read_all ys ks).known))
        all_read p NoMore ks t = fine_give S [] (record { at = λ s c. (tt, c) })
        all_read p (More y ys) ks t = let one : List Name = (world.read_passed y ks).known in let both : List Name = (world.read_all ys one).known in
            fine_bind S (λ z. Also (IsValue z) (Ks one)) (passed_read p y ks t.0) (λ z. fine_bind S (λ zs. Also (AreValues zs) (Ks both)) (fine_under S (record { at = λ s c. c.1.1 }) (all_read p ys one t.1))
            (λ zs. fine_give S (z ∷ zs) (record { at = λ s c. ((c.0.1.0, c.1.0), c.1.1) })))

      pub note_read : (from : ℕ) (ks : List Name) (n : Note Name) → NoteTells n → (IsNews n → Views) → Fine S (Ks ks) (arrive.arrive K from (world.read_note ks n)) nothing
      unfolding arrive.arrive world.read_note arrive.arrive_deliver arrive.arrive_open arrive.arrive_settled arrive.arrive_elsewhere arrive.arrive_shorten
      note_read from ks (Deliver d n verb ys) t views = let one : List Name = (world.read_all ys ks).known in
          fine_bind S IsMail (fine_under S (record { at = λ s c. tt }) (b.mail d.message (host_of d.message) t.0)) (λ id. fine_bind S (λ zs. Also (AreValues zs) (Ks one)) (fine_under S (record { at = λ s c. c.0 }) (all_read from ys ks t.2))
          (λ args. fine_bind S (λ a. Also (IsName a) (Ks (known_after one n))) (fine_under S (record { at = λ s c. c.1.1 }) (name_read one n t.1))
          (λ x. fine_delivered K S law from id (record { at = λ s c. c.0.0.1 }) x (record { at = λ s c. c.1.0 }) verb args (record { at = λ s c. c.0.1.0 }) d.asks)))
      note_read from ks (Open j n) t views = fine_bind S (λ a. Also (IsName a) (Ks (known_after ks n))) (name_read ks n t) (λ y. fine_opened K S law gifts from j (record { at = λ s c. b.drew s j }) y (record { at = λ s c. c.1.0 }))
      note_read from ks (Ask p j n) t views = fine_arrive_ask K S law gifts from p j (record { at = λ s c. b.gave s j t })
      note_read from ks (SettledTo n y) t views = let one : List Name = known_after ks n in fine_bind S (λ a. Also (IsName a) (Ks one)) (name_read ks n t.0) (λ x. fine_bind S (λ z. Also (IsValue z) (Ks (world.read_passed y one).known)) (fine_under S (record { at = λ s c. c.1.1 }) (passed_read from y one t.1))
          (λ z. fine_settle K S law x (record { at = λ s c. S.entered s x c.0.1.0 }) z (record { at = λ s c. c.1.0 })))
      note_read from ks (Elsewhere n c) t views = fine_bind S (λ a. Also (IsName a) (Ks (known_after ks n))) (name_read ks n t) (λ x. fine_went K S law (views tt) x (record { at = λ s d. d.1.0 }) c (record { at = λ s d. b.vat s c }))
      note_read from ks (Shorten n c j) t views = fine_bind S (λ a. Also (IsName a) (Ks (known_after ks n))) (name_read ks n t) (λ x. fine_shortened K S law x (record { at = λ s d. d.1.0 }) j (record { at = λ s d. b.drew s j }))
