-- What a vat learns from a note in which each name was made was made, and so is all that it does.
use Rattle.std.proofs.Common.{◌≡◌, ℕ, Bool, true, false, List, [], ◌∷◌, ◌++◌, Some, inl, inr, subst, sym}
use Rattle.std.specs.Prelude.{slice_get}
use Rattle.def_machine.specs.Values.{Value, Null, Flag, Number, Letter, Text, Prim, Broken, Items, Ref, Name, Root, Naming, naming, name_of, mail_of, host_of, IsLearnt, IsCarried, under, word_of}
use Rattle.def_machine.specs.State.{Message, See, Passed, Passeds, Plain, AGift, Many, NoMore, More, Note, Deliver, Open, Ask, SettledTo, Elsewhere, Shorten, Views, Vat, come, mail, alter, begun, with_change}
use Rattle.def_machine.specs.Scopes.{any_guard}
use Rattle.def_machine.specs.Eval.{opening, taking}
use Rattle.def_machine.specs.Arrive as arrive
use Rattle.def_machine.specs.Arrive.{Old, New}
use Rattle.def_machine.proofs.Keys.{word_key}
use Rattle.def_kernel.specs.declared.node.Node.{Node}
use Rattle.def_run.specs.World as world
use Rattle.def_run.specs.World.{Program, is_old, read_name, known_after}
use Rattle.law_fate.specs.Name.Names.{Named, Mail, Drew, NounOk, AllOf, IsAmong}
use Rattle.law_fate.proofs.Name.Facts.{Fact, Nothing, IsName, IsMail, IsDraw, IsVat, IsValue, AreValues, IsMessage, DoesPass, DoAllPass, NoteDoes, nothing}
use Rattle.law_fate.proofs.Name.Care.{Care, Under, Giving, Gets, Fine, still, fine_give, fine_look, bind_name, bind_value, bind_values, bind_number, bind_draw, fine_bind, then_unit, fine_tell, fine_draw, fine_out, fine_wait, with_known, changes_ok, come_gift}
use Rattle.law_fate.proofs.Name.CareArrive.{Gifts, gifts_by, fine_ask_for, fine_make_list, fine_arrive_ask, fine_delivered, fine_opened, fine_went, fine_shortened, fine_gift_there, fine_notice}
use Rattle.law_fate.proofs.Name.CareEval.{fine_opening, fine_taking}
use Rattle.law_fate.proofs.Name.CareRefs.{fine_settle}
use Rattle.law_fate.proofs.Name.Serves.{served_by, closing_by}
use Rattle.law_lawful.proofs.Claimed.{Ok, ok_up, grows_same, claimed, claimed_under, claimed_gives, claimed_makes}

module _ (Claim : ℕ → Type 0) (vats : List (Vat Name)) (v : ℕ) (q : Vat Name) (there : slice_get vats v ≡ Some q) (word : ℕ → ℕ) where
  abbrev K : Naming Name Name
  K = naming word v

  abbrev pub T : Care Name
  T = claimed Claim vats v q there

  abbrev U : Under K T
  U = claimed_under Claim vats v q there word

  abbrev V : Giving K T
  V = claimed_gives Claim vats v q there word

  abbrev G : Gifts K T
  G = gifts_by K T U V

  -- ---- names

  fine_come : {C : Fact Name} (n : Name) (h : ℕ) → Gets T C (IsName n) → Fine T C (come K (IsLearnt n) h) IsName
  unfolding come naming name_of
  fine_come n h g = record {
    after = λ s i c. let t : Vat Name = record s { known = s.known ++ begun n h ∷ [] } in let o : Ok Claim vats v q there t (Named n) = ok_up Claim vats v q there s t (grows_same s) (Named n) (g.at s c) in
        (grows_same s, record { parts = with_known K T U s t n h (grows_same s) o i; more = tt }, o);
  }

  either_name : {C : Fact Name} (n : Name) (b : Bool) → Gets T C (IsName n) → Fine T C (arrive.learn_name K (elim b [ true ↦ Old n | false ↦ New n (host_of n) ])) IsName
  unfolding arrive.learn_name
  either_name n true g = fine_give T n g
  either_name n false g = fine_come n (host_of n) g

  fine_name : {C : Fact Name} (ks : List Name) (n : Name) → Gets T C (IsName n) → Fine T C (arrive.learn_name K (read_name ks n)) IsName
  unfolding read_name
  fine_name ks n g = either_name n (is_old ks n) g

  fine_value : {C : Fact Name} (ks : List Name) (y : Value Name) → Gets T C (IsValue y) → Fine T C (arrive.learn_value K (world.read_value ks y).read) IsValue
  unfolding arrive.learn_value world.read_value
  fine_value ks Null g = fine_give T Null g
  fine_value ks (Flag b) g = fine_give T (Flag b) g
  fine_value ks (Number z) g = fine_give T (Number z) g
  fine_value ks (Letter c) g = fine_give T (Letter c) g
  fine_value ks (Text t) g = fine_give T (Text t) g
  fine_value ks (Prim n) g = fine_give T (Prim n) g
  fine_value ks (Broken p) g = fine_give T (Broken p) g
  fine_value ks (Items k) g = fine_give T (Items k) g
  fine_value ks (Ref n) g = bind_name T (fine_name ks n (record { at = λ s c. g.at s c })) (λ x. fine_give T (Ref x) (record { at = λ s c. c.1 }))

  fine_gift : {C : Fact Name} (p h i : ℕ) → Gets T C (IsDraw i) → Fine T C (arrive.learn_gift K p h i) IsValue
  unfolding arrive.learn_gift
  fine_gift p h i g = bind_name T (come_gift K T U V h i (record { at = λ s c. g.at s c }) (record { at = λ s c. tt })) (λ n. then_unit T
      (fine_ask_for K T U p h i (record { at = λ s c. g.at s c.0 }) n (record { at = λ s c. c.1 }))
      (fine_give T (Ref n) (record { at = λ s c. c.1 })))

  mutual
    unfolding arrive.learn arrive.learn_all world.read_passed world.read_all world.plain_read world.many_read world.more_read

    fine_passed : {C : Fact Name} (p : ℕ) (y : Passed Name) (ks : List Name) → Gets T C (DoesPass y) → Fine T C (arrive.learn K p (world.read_passed y ks).read) IsValue
    fine_passed p (Plain y) ks g = fine_value ks y (record { at = λ s c. g.at s c })
    fine_passed p (AGift h i) ks g = fine_gift p h i (record { at = λ s c. (g.at s c).1 })
    fine_passed p (Many ys) ks g = bind_values T (fine_all p ys ks (record { at = λ s c. g.at s c })) (λ vs. fine_make_list K T U vs (record { at = λ s c. c.1 }))

    fine_all : {C : Fact Name} (p : ℕ) (ys : Passeds Name) (ks : List Name) → Gets T C (DoAllPass ys) → Fine T C (arrive.learn_all K p (world.read_all ys ks).read) AreValues
    fine_all p NoMore ks g = fine_give T [] (record { at = λ s c. tt })
    fine_all p (More y ys) ks g = bind_value T (fine_passed p y ks (record { at = λ s c. (g.at s c).0 })) (λ x. bind_values T (fine_all p ys (world.read_passed y ks).known (record { at = λ s c. (g.at s c.0).1 })) (λ xs. fine_give T (x ∷ xs) (record { at = λ s c. (c.0.1, c.1) })))

  -- ---- what is viewed

  under_word : (h i : ℕ) (s : Vat Name) → Ok Claim vats v q there s (Drew i) → Ok Claim vats v q there s (Drew (under h i))
  unfolding under
  under_word h i s (inl a) = inl (subst (λ w. IsAmong w s.drawn) (sym (word_key h (word_of i))) a)
  under_word h i s (inr c) = inr (subst Claim (sym (word_key h (word_of i))) c)

  alter_see : {C : Fact Name} (n g : Name) → Gets T C (IsName g) → Fine T C (alter K (See g) n) nothing
  unfolding alter
  alter_see n g k = record {
    after = λ s i c. let t : Vat Name = record s { known = with_change K (See g) n s.known } in let p = still T s t (grows_same s) i in
        (grows_same s, record { parts = record { things = p.things; slots = p.slots; lists = p.lists; queue = p.queue; known = changes_ok K T U (Ok Claim vats v q there t) (See g) n s.known (ok_up Claim vats v q there s t (grows_same s) (Named g) (k.at s c)) (λ a e. tt) p.known; gifts = p.gifts; outbox = p.outbox }; more = tt }, tt);
  }

  fine_see : {C : Fact Name} (n g : Name) → Gets T C (IsName n) → Gets T C (IsName g) → Fine T C (arrive.see K n g) nothing
  unfolding arrive.see
  fine_see n g a b = then_unit T (fine_tell K T U (Views n g)) (then_unit T (alter_see n g b) (fine_wait K T U n g (record { at = λ s c. a.at s c })))

  fine_view : (C : Fact Name) (n : Name) → Gets T C (IsName n) → (c : ℕ) → Gets T C (IsVat c) → Fine T C (arrive.view_there K n c) nothing
  unfolding arrive.view_there
  fine_view C n a c b = bind_number T (fine_look T _) (λ u. bind_number T (fine_look T _) (λ h. bind_draw T (fine_draw K T U) (λ i. then_unit T
      (fine_out K T U h (Shorten n c (under h i)) (record { at = λ s d. (a.at s d.0, under_word h i s d.1) }) (record { at = λ s d. tt }))
      (bind_name T (fine_gift_there K T U V u h c (under h i) (record { at = λ s d. tt }) (record { at = λ s d. under_word h i s d.1 })) (λ g. fine_see n g (record { at = λ s d. a.at s d.0.0 }) (record { at = λ s d. d.1 }))))))

  -- ---- notes

  fine_mail : {C : Fact Name} (m : Name) → Gets T C (IsMail m) → Fine T C (mail K (IsCarried m)) IsMail
  unfolding mail naming mail_of
  fine_mail m g = record {
    after = λ s i c. let t : Vat Name = record s { mails = s.mails ++ m ∷ [] } in let p = still T s t (grows_same s) i in
        (grows_same s, record { parts = p; more = tt }, ok_up Claim vats v q there s t (grows_same s) (Mail m) (g.at s c));
  }

  pub fine_note : (from : ℕ) (ks : List Name) (n : Note Name) → Fine T (NoteDoes n) (arrive.arrive K from (world.read_note ks n)) nothing
  unfolding arrive.arrive world.read_note arrive.arrive_deliver arrive.arrive_open arrive.arrive_settled arrive.arrive_elsewhere arrive.arrive_shorten arrive.learn_message
  fine_note from ks (Deliver d n verb ys) = fine_bind T IsMail (fine_mail d.message (record { at = λ s c. c.0 })) (λ id. bind_values T (fine_all from ys ks (record { at = λ s c. c.0.2 })) (λ args. bind_name T (fine_name (world.read_all ys ks).known n (record { at = λ s c. c.0.0.1 }))
      (λ x. fine_delivered K T U from id (record { at = λ s c. c.0.0.1 }) x (record { at = λ s c. c.1 }) verb args (record { at = λ s c. c.0.1 }) d.asks)))
  fine_note from ks (Open i n) = bind_name T (fine_name ks n (record { at = λ s c. c.1 })) (λ y. fine_opened K T U G from i (record { at = λ s c. c.0.0 }) y (record { at = λ s c. c.1 }))
  fine_note from ks (Ask p i n) = fine_arrive_ask K T U G from p i (record { at = λ s c. c.0 })
  fine_note from ks (SettledTo n y) = bind_name T (fine_name ks n (record { at = λ s c. c.0 })) (λ x. bind_value T (fine_passed from y (known_after ks n) (record { at = λ s c. c.0.1 })) (λ z. fine_settle K T U x (record { at = λ s c. c.0.1 }) z (record { at = λ s c. c.1 })))
  fine_note from ks (Elsewhere n c) = bind_name T (fine_name ks n (record { at = λ s d. d.0 })) (λ x. fine_went K T U fine_view x (record { at = λ s d. d.1 }) c (record { at = λ s d. tt }))
  fine_note from ks (Shorten n c i) = bind_name T (fine_name ks n (record { at = λ s d. d.0 })) (λ x. fine_shortened K T U x (record { at = λ s d. d.1 }) i (record { at = λ s d. d.0.1 }))

  -- ---- turns and notices

  pub fine_turn : (tree : List Node) (depth : ℕ) (m : Message Name) → Fine T (IsMessage m) (taking K tree depth m) nothing
  fine_turn tree depth m = fine_taking K T U (claimed_makes Claim vats v q there word) tree depth m (record { at = λ s c. c })

  pub fine_noticed : (w : ℕ) → Fine T Nothing (arrive.notice K w) nothing
  fine_noticed w = fine_notice K T U w

  given_made : (s : Vat Name) (ps : List Program) (us : List ℕ) → AllOf (NounOk (Ok Claim vats v q there s)) (world.given ps us)
  unfolding world.given any_guard
  given_made s ps [] = tt
  given_made s ps (u ∷ us) = ((tt, tt), given_made s ps us)

  pub fine_open : (tree : List Node) (depth : ℕ) (ps : List Program) (us : List ℕ) → Fine T Nothing (opening K tree depth (Root v) (world.given ps us)) nothing
  fine_open tree depth ps us = fine_opening K T (served_by K T U (claimed_makes Claim vats v q there word)) tree depth (Root v) (record { at = λ s c. tt }) (closing_by K T U (Root v)) (world.given ps us) (record { at = λ s c. given_made s ps us })
