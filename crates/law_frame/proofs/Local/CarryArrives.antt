-- What is new in a note is named otherwise in numbers than in names, where nothing looks at it: so a note that was heard arrives alike.
use Rattle.std.proofs.Common.{◌≡◌, ℕ, Bool, List, Option, Some, None, refl, sym, ap, ◌∙◌}
use Rattle.std.specs.Prelude.{option_map}
use Rattle.def_machine.specs.Values.{Value, Null, Flag, Number, Letter, Text, Prim, Broken, Items, Ref, Name, Naming, Local, numbering, naming}
use Rattle.def_machine.specs.State.{Passed, Passeds, Plain, AGift, Many, NoMore, More, Note, Delivery, Deliver, Open, Ask, SettledTo, Elsewhere, Shorten, Vat, Done, Gives, Throws, Ejects, Stops, Act}
use Rattle.def_machine.specs.Arrive as machine
use Rattle.def_machine.specs.Arrive.{Incoming, Old, New}
use Rattle.def_machine.specs.Maps as maps
use Rattle.def_machine.specs.Maps.{incoming}
use Rattle.law_machine.specs.Renamed.Stands.{Table, Found, Is, found, finding, IsTable, StandsFor}
use Rattle.law_machine.proofs.Renamed.Sim.{Books, Renames, FitsAfter, id}
use Rattle.law_machine.proofs.Renamed.SimArrive.{sim_arrive}
use Rattle.law_machine.proofs.Renamed.Same.{value_same, vat_same}
use Rattle.law_machine.proofs.Renamed.Stands.{step_stands, books_of, books_after, FitsTable, found_renames, is_renames}
use Rattle.law_frame.proofs.Frame.AlikeArrivals.{told_arrives}
use Rattle.law_frame.specs.Heard.Hearing.{as_heard}
use Rattle.law_frame.specs.Local.Hearing.{unnamed}

-- ---- two notes that are one where both are changed: a third that goes with both

-- a value that is no reference
unfoldable plain : {X Y : Type 0} → Value X → Option (Value Y)
plain Null = Some Null
plain (Flag b) = Some (Flag b)
plain (Number i) = Some (Number i)
plain (Letter c) = Some (Letter c)
plain (Text t) = Some (Text t)
plain (Prim i) = Some (Prim i)
plain (Broken t) = Some (Broken t)
plain (Items k) = Some (Items k)
plain (Ref n) = None

plain_changed : {X Y Z : Type 0} (f : X → Y) (y : Value X) → plain {Y = Z} (maps.value f y) ≡ plain y
unfolding plain
plain_changed f Null = refl
plain_changed f other = refl

plain_is : {X Y Z : Type 0} (f : X → Z) (g : Y → Z) (y : Value X) (w : Value Y) → plain y ≡ Some w → maps.value g w ≡ maps.value f y
unfolding plain
plain_is f g Null w e = let i : Null ≡ w = cc in ap (maps.value g) (sym i)
plain_is f g (Flag b) w e = let i : Flag b ≡ w = cc in ap (maps.value g) (sym i)
plain_is f g (Number i) w e = let i : Number i ≡ w = cc in ap (maps.value g) (sym i)
plain_is f g (Letter c) w e = let i : Letter c ≡ w = cc in ap (maps.value g) (sym i)
plain_is f g (Text t) w e = let i : Text t ≡ w = cc in ap (maps.value g) (sym i)
plain_is f g (Prim i) w e = let i : Prim i ≡ w = cc in ap (maps.value g) (sym i)
plain_is f g (Broken t) w e = let i : Broken t ≡ w = cc in ap (maps.value g) (sym i)
plain_is f g (Items k) w e = let i : Items k ≡ w = cc in ap (maps.value g) (sym i)
plain_is f g (Ref n) w e = cc

reference_is : {X Y : Type 0} (y : Value X) → plain {Y = Y} y ≡ None → (n : X) × (y ≡ Ref n)
unfolding plain
reference_is (Ref n) e = (n, refl)
reference_is other e = cc

module _ {A B C D E H : Type 0} (F : A → D) (G : B → D) (P : C → E) (Q : B → E) (R : C → H) (S : A → H) (one : (a : A) (b : B) → F a ≡ G b → (c : C) × (P c ≡ Q b) × (R c ≡ S a)) where
  value_with : (y : Value A) (z : Value B) → maps.value F y ≡ maps.value G z → (w : Value C) × (maps.value P w ≡ maps.value Q z) × (maps.value R w ≡ maps.value S y)
  value_with y z e = by (plain {Y = C} y) refl
    where
      same : plain {Y = C} z ≡ plain {Y = C} y
      same = sym (plain_changed G z) ∙ sym (ap (λ x. plain {Y = C} x) e) ∙ plain_changed F y

      named_so : (a : A) (b : B) → y ≡ Ref a → z ≡ Ref b → (w : Value C) × (maps.value P w ≡ maps.value Q z) × (maps.value R w ≡ maps.value S y)
      named_so a b i j =
          let k : ◌≡◌ {A = Value D} (Ref (F a)) (Ref (G b)) = sym (ap (maps.value F) i) ∙ e ∙ ap (maps.value G) j in
          let l : F a ≡ G b = cc in
          let c = one a b l in
          (Ref c.0, ap Ref c.1 ∙ sym (ap (maps.value Q) j), ap Ref c.2 ∙ sym (ap (maps.value S) i))

      by : (o : Option (Value C)) → plain {Y = C} y ≡ o → (w : Value C) × (maps.value P w ≡ maps.value Q z) × (maps.value R w ≡ maps.value S y)
      by (Some w) i = (w, plain_is Q P z w (same ∙ i), plain_is S R y w i)
      by None i = let a = reference_is {Y = C} y i in let b = reference_is {Y = C} z (same ∙ i) in named_so a.0 b.0 a.1 b.1

  more_with : (y : Passed A) (z : Passed B) (ys : Passeds A) (zs : Passeds B) → (w : Passed C) × (maps.passed P w ≡ maps.passed Q z) × (maps.passed R w ≡ maps.passed S y) → (w : Passeds C) × (maps.passeds P w ≡ maps.passeds Q zs) × (maps.passeds R w ≡ maps.passeds S ys)
      → (w : Passeds C) × (maps.passeds P w ≡ maps.passeds Q (More z zs)) × (maps.passeds R w ≡ maps.passeds S (More y ys))
  more_with y z ys zs w ws = (More w.0 ws.0, both w.1 ws.1, both w.2 ws.2)
    where
      both : {X : Type 0} {a b : Passed X} {c d : Passeds X} → a ≡ b → c ≡ d → More a c ≡ More b d
      both p q = cc

  mutual
    passed_with : (y : Passed A) (z : Passed B) → maps.passed F y ≡ maps.passed G z → (w : Passed C) × (maps.passed P w ≡ maps.passed Q z) × (maps.passed R w ≡ maps.passed S y)
    passed_with (Plain y) (Plain z) e = let i : maps.value F y ≡ maps.value G z = cc in let w = value_with y z i in (Plain w.0, ap Plain w.1, ap Plain w.2)
    passed_with (AGift h i) (AGift g j) e = let k : h ≡ g = cc in let l : i ≡ j = cc in (AGift h i, ap (λ a. AGift a i) k ∙ ap (λ a. AGift g a) l, refl)
    passed_with (Many ys) (Many zs) e = let i : maps.passeds F ys ≡ maps.passeds G zs = cc in let w = all_with ys zs i in (Many w.0, ap Many w.1, ap Many w.2)
    passed_with other (AGift g j) e = cc
    passed_with other another e = cc

    all_with : (ys : Passeds A) (zs : Passeds B) → maps.passeds F ys ≡ maps.passeds G zs → (w : Passeds C) × (maps.passeds P w ≡ maps.passeds Q zs) × (maps.passeds R w ≡ maps.passeds S ys)
    all_with NoMore NoMore e = (NoMore, refl, refl)
    all_with (More y ys) (More z zs) e =
        let i : maps.passed F y ≡ maps.passed G z = cc in let j : maps.passeds F ys ≡ maps.passeds G zs = cc in
        more_with y z ys zs (passed_with y z i) (all_with ys zs j)
    all_with NoMore (More z zs) e = cc
    all_with (More y ys) NoMore e = cc

  option_with : (o : Option A) (p : Option B) → option_map F o ≡ option_map G p → (q : Option C) × (option_map P q ≡ option_map Q p) × (option_map R q ≡ option_map S o)
  option_with (Some a) (Some b) e = let i : F a ≡ G b = cc in let c = one a b i in (Some c.0, ap Some c.1, ap Some c.2)
  option_with None None e = (None, refl, refl)
  option_with (Some a) None e = cc
  option_with None (Some b) e = cc

  delivery_with : (d : Delivery A) (e : Delivery B) → maps.delivery F d ≡ maps.delivery G e → (g : Delivery C) × (maps.delivery P g ≡ maps.delivery Q e) × (maps.delivery R g ≡ maps.delivery S d)
  delivery_with d e i =
      let m = one d.message e.message (ap (λ (x : Delivery D). x.message) i) in
      let o = option_with d.answer e.answer (ap (λ (x : Delivery D). x.answer) i) in
      let k : d.asks ≡ e.asks = ap (λ (x : Delivery D). x.asks) i in
      (record { message = m.0; asks = d.asks; answer = o.0 }, three m.1 k o.1, three m.2 refl o.2)
    where
      three : {X : Type 0} {a b : X} {c d : Bool} {e f : Option X} → a ≡ b → c ≡ d → e ≡ f → ◌≡◌ {A = Delivery X} (record { message = a; asks = c; answer = e }) (record { message = b; asks = d; answer = f })
      three p q r = cc

  -- the note that goes with both
  pub note_with : (x : Note A) (y : Note B) → maps.note F x ≡ maps.note G y → (w : Note C) × (maps.note P w ≡ maps.note Q y) × (maps.note R w ≡ maps.note S x)
  note_with (Deliver d t verb ys) (Deliver e z word zs) i =
      let j : maps.delivery F d ≡ maps.delivery G e = cc in let k : F t ≡ G z = cc in let l : verb ≡ word = cc in let m : maps.passeds F ys ≡ maps.passeds G zs = cc in
      let g = delivery_with d e j in let c = one t z k in let ws = all_with ys zs m in
      (Deliver g.0 c.0 verb ws.0, four g.1 c.1 l ws.1, four g.2 c.2 refl ws.2)
    where
      four : {X : Type 0} {a b : Delivery X} {c d : X} {e f : List ℕ} {g h : Passeds X} → a ≡ b → c ≡ d → e ≡ f → g ≡ h → Deliver a c e g ≡ Deliver b d f h
      four p q r s = cc
  note_with (Open i t) (Open j z) e = let k : F t ≡ G z = cc in let l : i ≡ j = cc in let c = one t z k in (Open i c.0, ap (λ a. Open a (P c.0)) l ∙ ap (Open j) c.1, ap (Open i) c.2)
  note_with (Ask p i t) (Ask q j z) e = let k : F t ≡ G z = cc in let l : i ≡ j = cc in let m : p ≡ q = cc in let c = one t z k in (Ask p i c.0, ap (λ a. Ask a i (P c.0)) m ∙ ap (λ a. Ask q a (P c.0)) l ∙ ap (Ask q j) c.1, ap (Ask p i) c.2)
  note_with (SettledTo t y) (SettledTo z w) e = let k : F t ≡ G z = cc in let l : maps.passed F y ≡ maps.passed G w = cc in let c = one t z k in let v = passed_with y w l in (SettledTo c.0 v.0, ap (λ a. SettledTo a (maps.passed P v.0)) c.1 ∙ ap (SettledTo (Q z)) v.1, ap (λ a. SettledTo a (maps.passed R v.0)) c.2 ∙ ap (SettledTo (S t)) v.2)
  note_with (Elsewhere t c) (Elsewhere z b) e = let k : F t ≡ G z = cc in let l : c ≡ b = cc in let n = one t z k in (Elsewhere n.0 c, ap (λ a. Elsewhere (P n.0) a) l ∙ ap (λ a. Elsewhere a b) n.1, ap (λ a. Elsewhere a c) n.2)
  note_with (Shorten t c i) (Shorten z b j) e = let k : F t ≡ G z = cc in let l : c ≡ b = cc in let m : i ≡ j = cc in let n = one t z k in (Shorten n.0 c i, ap (λ a. Shorten (P n.0) a i) l ∙ ap (λ a. Shorten (P n.0) b a) m ∙ ap (λ a. Shorten a b j) n.1, ap (λ a. Shorten a c i) n.2)
  note_with other (Open j z) same = cc
  note_with other another same = cc

-- ---- in numbers nothing looks at what is new

any_books : {M B : Type 0} (d : Done M B) → FitsAfter (λ (b : Books M). Unit {0}) d
any_books (Gives a t) = tt
any_books other = tt

done_same : (d : Done Local (Unit {0})) → maps.done id id d ≡ d
done_same (Gives a t) = ap (Gives a) (vat_same t)
done_same (Throws p t) = ap (Throws p) (vat_same t)
done_same (Ejects n v t) = ap (λ x. Ejects n x (maps.vat id t)) (value_same v) ∙ ap (Ejects n v) (vat_same t)
done_same (Stops c t) = ap (Stops c) (vat_same t)

new_renames : {W V : Type 0} (word : ℕ → ℕ) (g : W → V) → Renames id g (numbering {W = W} word) (numbering {W = V} word) (λ (b : Books Local). Unit {0})
unfolding numbering
new_renames word g = record {
  object = λ i. refl;
  spot = λ n. refl;
  same = λ a b. refl;
  word = λ i. refl;
  made = λ c ns ms h. refl;
  mailed = λ c ns ms h. refl;
  before = record { names = λ ns ns2 ms h. tt; mails = λ ns ms ms2 h. tt };
}

new_named : {W V : Type 0} (word : ℕ → ℕ) (g : W → V) (from : ℕ) (n : Note (Incoming Local W)) (q : Vat Local) → machine.arrive (numbering word) from (maps.note (incoming id g) n) q ≡ machine.arrive (numbering word) from n q
new_named word g from n q =
    let sim = sim_arrive id g (numbering word) (numbering word) (λ (b : Books Local). Unit {0}) (new_renames word g) from n in
    ap (λ (z : Vat Local). machine.arrive (numbering word) from (maps.note (incoming id g) n) z) (sym (vat_same q)) ∙ sim.at q (any_books (machine.arrive (numbering word) from (maps.note (incoming id g) n) (maps.vat id q))) ∙ done_same (machine.arrive (numbering word) from n q)

-- ---- a note as it is heard arrives as the note

pub heard_arrives : (K : Naming Name Name) (v u from : ℕ) (n : Note (Incoming Name Name)) → machine.arrive K from (as_heard v u n) ≡ machine.arrive K from n
unfolding as_heard machine.arrive
heard_arrives K v u from (Ask p i x) = refl
heard_arrives K v u from (Deliver d x verb ys) = told_arrives K v from (Deliver d x verb ys)
heard_arrives K v u from (Open i x) = told_arrives K v from (Open i x)
heard_arrives K v u from (SettledTo x y) = told_arrives K v from (SettledTo x y)
heard_arrives K v u from (Elsewhere x c) = told_arrives K v from (Elsewhere x c)
heard_arrives K v u from (Shorten x c i) = told_arrives K v from (Shorten x c i)

-- ---- both

-- a name that is new in both
one_with : (f : Local → Found) (a : Incoming Local Local) (b : Incoming Name Name) → incoming f unnamed a ≡ incoming Is unnamed b
    → (c : Incoming Local Name) × (incoming f (λ (x : Name). x) c ≡ incoming Is (λ (x : Name). x) b) × (incoming (λ (x : Local). x) unnamed c ≡ incoming (λ (x : Local). x) unnamed a)
one_with f (Old a) (Old b) e = let i : f a ≡ Is b = cc in (Old a, ap Old i, refl)
one_with f (New a h) (New b g) e = let i : h ≡ g = cc in (New b h, ap (New b) i, refl)
one_with f (Old a) (New b g) e = cc
one_with f (New a h) (Old b) e = cc

module _ (word : ℕ → ℕ) (u : ℕ) (t : Table) (good : IsTable u t) (v : ℕ) where
  -- A note that in numbers was read as that in names, but for how what is new is named, arrives as that does, where t is the table after the arrival.
  pub arrives_same : (n : Note (Incoming Local Local)) (m : Note (Incoming Name Name)) → maps.note (incoming (found u t) unnamed) n ≡ maps.note (incoming Is unnamed) (as_heard v u m)
      → (q : Vat Local) (s : Vat Name) (d : Done Name (Unit {0})) → StandsFor u t q s → machine.arrive (naming word u) v m s ≡ d → books_after d ≡ books_of t
      → maps.done (found u t) id (machine.arrive (numbering {W = Local} word) v n q) ≡ maps.done Is id d
  arrives_same n m e q s d stands i books =
      let w = note_with (incoming (found u t) unnamed) (incoming Is unnamed) (incoming (found u t) (λ (x : Name). x)) (incoming Is (λ (x : Name). x)) (incoming (λ (x : Local). x) unnamed) (incoming (λ (x : Local). x) unnamed) (one_with (found u t)) n (as_heard v u m) e in
      let same : machine.arrive (numbering {W = Local} word) v n q ≡ machine.arrive (numbering {W = Name} word) v w.0 q =
      sym (new_named word unnamed v n q) ∙ sym (ap (λ (k : Note (Incoming Local (Unit {0}))). machine.arrive (numbering word) v k q) w.2) ∙ new_named word unnamed v w.0 q in
      let heard : machine.arrive (naming word u) v (as_heard v u m) s ≡ d = ap (λ (f : Act Name (Unit {0})). f s) (heard_arrives (naming word u) v u v m) ∙ i in
      ap (maps.done (found u t) id) same
      ∙ step_stands u t good id id (machine.arrive (numbering {W = Name} word) v w.0) (machine.arrive (naming word u) v (as_heard v u m)) (machine.arrive (finding word u) v (maps.note (incoming (found u t) (λ (x : Name). x)) w.0))
      (sim_arrive (found u t) (λ (x : Name). x) (numbering word) (finding word u) (FitsTable u t good) (found_renames u t good word (λ (x : Name). x)) v w.0)
      (rw w.1 (sim_arrive Is (λ (x : Name). x) (naming word u) (finding word u) (λ (b : Books Found). Unit {0}) (is_renames word u) v (as_heard v u m))) q s stands (ap books_after heard ∙ books)
      ∙ ap (maps.done Is id) heard
