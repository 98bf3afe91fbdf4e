-- What arrives names what is there: all that a vat does with a note or a notice keeps this.
use Rattle.std.proofs.Common.{ℕ, Bool, true, false, List, [], ◌∷◌, ◌++◌, length}
use Rattle.def_machine.specs.Values.{Value, Null, Flag, Number, Letter, Text, Prim, Broken, Items, Ref, Name, Naming, IsLearnt, naming, name_of, mail_of, under}
use Rattle.def_machine.specs.State.{See, Passed, Passeds, Plain, AGift, Many, NoMore, More, Note, Deliver, Open, Ask, SettledTo, Elsewhere, Shorten, Views, alter, come, mail, begun}
use Rattle.def_machine.specs.Arrive as arrive
use Rattle.def_machine.specs.Arrive.{Old, New}
use Rattle.def_run.specs.World as world
use Rattle.def_run.specs.World.{read_name, known_after, is_old}
use Rattle.law_fate.specs.Name.Names.{Bit}
use Rattle.law_fate.proofs.Name.Facts.{Fact, Also, IsName, IsMail, IsDraw, IsGiven, IsVat, IsValue, AreValues, DoesPass, DoAllPass, NoteDoes, nothing}
use Rattle.law_fate.proofs.Name.Care.{Care, Under, Giving, Gets, Fine, fine_bind, fine_give, fine_look, fine_tell, fine_out, fine_draw, fine_wait, come_gift, with_known, changes_ok, bind_number, bind_draw, bind_name, bind_value, bind_values, then_unit, got}
use Rattle.law_fate.proofs.Name.CareRefs.{fine_settle}
use Rattle.law_fate.proofs.Name.CareArrive.{Gifts, gifts_by, fine_ask_for, fine_make_list, fine_gift_there, fine_delivered, fine_opened, fine_arrive_ask, fine_went, fine_shortened}
use Rattle.law_never_astray.proofs.ThingsCounted.{Counted, same_long, things, things_under, things_gives}

module _ (word : ℕ → ℕ) (v : ℕ) (P : ℕ → Bit Name → Type 0) (counted : Counted (naming word v) P) where
  abbrev K : Naming Name Name
  K = naming word v

  abbrev S : Care Name
  S = things (naming word v) P counted

  abbrev law : Under K S
  law = things_under (naming word v) P counted

  abbrev gives : Giving K S
  gives = things_gives (naming word v) P counted

  vat_good : {C : Fact Name} (h : ℕ) → Gets S C (IsVat h)
  vat_good h = record { at = λ s c. counted.vat (length s.things) h }

  draw_good : {C : Fact Name} (i : ℕ) → Gets S C (IsDraw i)
  draw_good i = record { at = λ s c. counted.drew (length s.things) i }

  gift_good : {C : Fact Name} (i : ℕ) → Gets S C (IsGiven i)
  gift_good i = record { at = λ s c. counted.gave (length s.things) i }

  -- ---- a name, a message and a value are learnt as what the note names

  come_learnt : {C : Fact Name} (n : Name) (h : ℕ) → Gets S C (IsName n) → Fine S C (come K (IsLearnt n) h) IsName
  unfolding come naming name_of
  come_learnt n w g = record { after = λ s h c. let l = same_long (length s.things) in (l, record { parts = with_known K S law s (record s { known = s.known ++ begun n w ∷ [] }) n w l (g.at s c) h; more = tt }, g.at s c) }

  learn_either : {C : Fact Name} (n : Name) (h : ℕ) (b : Bool) → Gets S C (IsName n) → Fine S C (arrive.learn_name K (elim b [ true ↦ Old n | false ↦ New n h ])) IsName
  unfolding arrive.learn_name
  learn_either n h true g = fine_give S n g
  learn_either n h false g = come_learnt n h g

  learn_name : {C : Fact Name} (ks : List Name) (n : Name) → Gets S C (IsName n) → Fine S C (arrive.learn_name K (read_name ks n)) IsName
  unfolding read_name
  learn_name ks n g = learn_either n _ (is_old ks n) g

  learn_message : {C : Fact Name} (m : Name) (h : ℕ) → Gets S C (IsMail m) → Fine S C (arrive.learn_message K (New m h)) IsMail
  unfolding arrive.learn_message mail naming mail_of
  learn_message m w g = record { after = λ s h c. let p = h.parts in (same_long (length s.things), record { parts = record { things = p.things; slots = p.slots; lists = p.lists; queue = p.queue; known = p.known; gifts = p.gifts; outbox = p.outbox }; more = tt }, g.at s c) }

  learn_value : {C : Fact Name} (ks : List Name) (y : Value Name) → Gets S C (IsValue y) → Fine S C (arrive.learn_value K (world.read_value ks y).read) IsValue
  unfolding arrive.learn_value world.read_value
  learn_value ks Null g = fine_give S Null g
  learn_value ks (Flag b) g = fine_give S (Flag b) g
  learn_value ks (Number z) g = fine_give S (Number z) g
  learn_value ks (Letter c) g = fine_give S (Letter c) g
  learn_value ks (Text t) g = fine_give S (Text t) g
  learn_value ks (Prim n) g = fine_give S (Prim n) g
  learn_value ks (Broken p) g = fine_give S (Broken p) g
  learn_value ks (Items k) g = fine_give S (Items k) g
  learn_value ks (Ref n) g = bind_name S (learn_name ks n (record { at = λ s c. g.at s c })) (λ a. fine_give S (Ref a) (record { at = λ s c. c.1 }))

  learn_gift : {C : Fact Name} (p h i : ℕ) → Fine S C (arrive.learn_gift K p h i) IsValue
  unfolding arrive.learn_gift
  learn_gift {C = C} p h i = bind_name S (come_gift K S law gives h i (gift_good i) (vat_good h)) (λ n. then_unit S (fine_ask_for K S law p h i (gift_good i) n (got S C (IsName n))) (fine_give S (Ref n) (record { at = λ s c. c.1 })))

  mutual
    unfolding arrive.learn arrive.learn_all world.read_passed world.read_all world.plain_read world.many_read world.more_read

    learn : {C : Fact Name} (p : ℕ) (y : Passed Name) (ks : List Name) → Gets S C (DoesPass y) → Fine S C (arrive.learn K p (world.read_passed y ks).read) IsValue
    learn p (Plain y) ks g = learn_value ks y (record { at = λ s c. g.at s c })
    learn p (AGift h i) ks g = learn_gift p h i
    learn {C = C} p (Many ys) ks g = bind_values S (learn_all p ys ks (record { at = λ s c. g.at s c })) (λ vs. fine_make_list K S law vs (got S C (AreValues vs)))

    learn_all : {C : Fact Name} (p : ℕ) (ys : Passeds Name) (ks : List Name) → Gets S C (DoAllPass ys) → Fine S C (arrive.learn_all K p (world.read_all ys ks).read) AreValues
    learn_all p NoMore ks g = fine_give S [] (record { at = λ s c. tt })
    learn_all p (More y ys) ks g = bind_value S (learn p y ks (record { at = λ s c. (g.at s c).0 })) (λ x. bind_values S (learn_all p ys (world.read_passed y ks).known (record { at = λ s c. (g.at s c.0).1 })) (λ xs.
        fine_give S (x ∷ xs) (record { at = λ s c. (c.0.1, c.1) })))

  -- ---- views

  alter_view : {C : Fact Name} (n g : Name) → Gets S C (IsName g) → Fine S C (alter K (See g) n) nothing
  unfolding alter
  alter_view n g k = record {
    after = λ s h c. let p = h.parts in (same_long (length s.things), record { parts = record { things = p.things; slots = p.slots; lists = p.lists; queue = p.queue; known = changes_ok K S law (P (length s.things)) (See g) n s.known (k.at s c) (λ a e. tt) p.known; gifts = p.gifts; outbox = p.outbox }; more = tt }, tt);
  }

  view_there : {C : Fact Name} (n : Name) → Gets S C (IsName n) → (c : ℕ) → Fine S C (arrive.view_there K n c) nothing
  unfolding arrive.view_there arrive.see
  view_there {C = C} n g c = bind_number S (fine_look S _) (λ u. bind_number S (fine_look S _) (λ h. bind_draw S (fine_draw K S law) (λ i.
      let D : Fact Name = Also C (IsDraw i) in then_unit S (fine_out K S law h (Shorten n c (under h i)) (record { at = λ s d. (g.at s d.0, counted.drew (length s.things) (under h i)) }) (record { at = λ s d. tt }))
      (bind_name S (fine_gift_there K S law gives u h c (under h i) (vat_good c) (gift_good (under h i))) (λ x. then_unit S (fine_tell K S law (Views n x)) (then_unit S (alter_view n x (got S D (IsName x)))
      (fine_wait K S law n x (record { at = λ s d. counted.entered (length s.things) n (g.at s d.0.0) }))))))))

  -- ---- steps

  abbrev gifts : Gifts K S
  gifts = gifts_by K S law gives

  pub arrives : (from : ℕ) (ks : List Name) (n : Note Name) → Fine S (NoteDoes n) (arrive.arrive K from (world.read_note ks n)) nothing
  unfolding arrive.arrive world.read_note arrive.arrive_deliver arrive.arrive_open arrive.arrive_settled arrive.arrive_elsewhere arrive.arrive_shorten
  arrives from ks (Deliver d n verb ys) = fine_bind S IsMail (learn_message d.message _ (record { at = λ s c. c.0 })) (λ id. bind_values S (learn_all from ys ks (record { at = λ s c. c.0.2 })) (λ args.
      bind_name S (learn_name (world.read_all ys ks).known n (record { at = λ s c. c.0.0.1 })) (λ x. fine_delivered K S law from id (record { at = λ s c. c.0.0.1 }) x (record { at = λ s c. c.1 }) verb args (record { at = λ s c. c.0.1 }) d.asks)))
  arrives from ks (Open i n) = bind_name S (learn_name ks n (record { at = λ s c. c.1 })) (λ y. fine_opened K S law gifts from i (draw_good i) y (record { at = λ s c. c.1 }))
  arrives from ks (Ask p i n) = fine_arrive_ask K S law gifts from p i (gift_good i)
  arrives from ks (SettledTo n y) = bind_name S (learn_name ks n (record { at = λ s c. c.0 })) (λ x. bind_value S (learn from y (known_after ks n) (record { at = λ s c. c.0.1 })) (λ z.
      fine_settle K S law x (record { at = λ s c. counted.entered (length s.things) x c.0.1 }) z (record { at = λ s c. c.1 })))
  arrives from ks (Elsewhere n c) = bind_name S (learn_name ks n (record { at = λ s d. d.0 })) (λ x. fine_went K S law (λ D m g w k. view_there m g w) x (record { at = λ s d. d.1 }) c (vat_good c))
  arrives from ks (Shorten n c i) = bind_name S (learn_name ks n (record { at = λ s d. d.0 })) (λ x. fine_shortened K S law x (record { at = λ s d. d.1 }) i (draw_good i))
