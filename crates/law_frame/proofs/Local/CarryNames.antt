-- What a frame tells of numbers is so, and all that comes to be known by it is told.
use Rattle.std.proofs.Common.{◌≡◌, ℕ, zero, suc, ◌+◌, ◌≤◌, ◌<◌, Bool, true, false, List, [], ◌∷◌, ◌++◌, ◌⊎◌, inl, inr, Option, Some, None, refl, sym, ap, ◌∙◌, subst, length, map, arith}
use Rattle.std.specs.Prelude.{slice_get, drop}
use Rattle.std.proofs.lemmas.List.{length-append}
use Rattle.std.proofs.lemmas.Option.{slice_get_within}
use Rattle.def_op.specs.Frames.{Operation}
use Rattle.def_machine.specs.Values.{Name, Root, Promise, Gift, host_of, answer_of, Local, Prom}
use Rattle.def_machine.specs.State.{Note, Deliver, Vat}
use Rattle.def_machine.specs.Arrive.{Incoming}
use Rattle.def_run.specs.Connections.{Learnt, Heard, Stage}
use Rattle.def_run.specs.Wire.{connected_at}
use Rattle.def_run.specs.World.{World, readied}
use Rattle.law_fate.specs.Name.Names.{AllOf, IsAmong, names_in}
use Rattle.law_fate.proofs.Name.SameNames.{at_all}
use Rattle.def_machine.specs.Maps as maps
use Rattle.law_machine.specs.Renamed.Stands.{Table, Found, Is, found}
use Rattle.law_reference.specs.Reference.Tables.{table_of}
use Rattle.law_frame.specs.Frame.Growing.{IsFront}
use Rattle.law_frame.specs.Frame.Lines.{DueIn}
use Rattle.law_frame.specs.Frame.Alike.{names_heard, table_heard}
use Rattle.law_frame.specs.Frame.Positions.{exported_with}
use Rattle.law_frame.proofs.Frame.Ranks.{Starts}
use Rattle.law_frame.proofs.Frame.Grow.{among_left, among_right}
use Rattle.law_frame.proofs.Frame.Exported.{among_split}
use Rattle.law_frame.proofs.Frame.OrderRuns.{among_get}
use Rattle.law_frame.proofs.Frame.AlikeLaws.{heard_starts}
use Rattle.law_frame.specs.Local.Told.{IsBroughtBy}
use Rattle.def_run.specs.Names.{Told, of_promise}
use Rattle.def_run.specs.Vats.{Member, connection_for, is_object, stage_of, heard_in}
use Rattle.def_run.specs.Numbers.{Vats, ready, name_at_vat, name_exported, told_imports, told_learnt, told_answer, brought}
use Rattle.law_frame.specs.Local.Mirrors.{VatMirrors, LearntAre}
use Rattle.law_frame.specs.Local.Naming.{SomeOf, IsOwnPromise, ToldSo, BroughtSo}
use Rattle.law_frame.specs.Local.Hearing.{HearsSo}
use Rattle.law_frame.proofs.Local.Named.{name_is}
use Rattle.law_frame.proofs.Local.Naming.{At, some_left, some_right, map_drop, all_join}
use Rattle.law_frame.proofs.Local.Sights.{some_name}
use Rattle.law_frame.proofs.Local.OwnSteps.{front, mapped_length}
use Rattle.law_frame.proofs.Local.CarryNew.{Grew, Late, Number, Named, late_note}

-- ---- lists

drop_front : {A : Type 0} (xs ys : List A) → drop (length xs) (xs ++ ys) ≡ ys
drop_front [] ys = refl
drop_front (x ∷ xs) ys = drop_front xs ys

get_dropped : {A : Type 0} (k i : ℕ) (xs : List A) → slice_get (drop k xs) i ≡ slice_get xs (k + i)
get_dropped zero i xs = let e : zero + i ≡ i = omega arith in ap (slice_get xs) (sym e)
get_dropped (suc k) i [] = let e : suc k + i ≡ suc (k + i) = omega arith in ap (λ j. slice_get [] j) (sym e)
get_dropped (suc k) i (x ∷ xs) = let e : suc k + i ≡ suc (k + i) = omega arith in get_dropped k i xs ∙ ap (slice_get (x ∷ xs)) (sym e)

get_behind : (xs ys : List Name) (i : ℕ) → slice_get (xs ++ ys) (length xs + i) ≡ slice_get ys i
get_behind [] ys i = let e : zero + i ≡ i = omega arith in ap (slice_get ys) e
get_behind (x ∷ xs) ys i = let e : suc (length xs) + i ≡ suc (length xs + i) = omega arith in ap (slice_get (x ∷ xs ++ ys)) e ∙ get_behind xs ys i

mapped_at : {A B C : Type 0} (f : A → C) (g : B → C) (xs : List A) (ys : List B) (q : ℕ) (y : B) → map f xs ≡ map g ys → slice_get ys q ≡ Some y → (a : A) × (slice_get xs q ≡ Some a) × (f a ≡ g y)
mapped_at f g (x ∷ xs) (z ∷ ys) zero y e i = let j : f x ≡ g z = cc in let k : z ≡ y = cc in (x, refl, j ∙ ap g k)
mapped_at f g (x ∷ xs) (z ∷ ys) (suc q) y e i = let j : map f xs ≡ map g ys = cc in mapped_at f g xs ys q y j i
mapped_at f g [] (z ∷ ys) q y e i = cc
mapped_at f g xs [] q y e i = cc

pub all_dropped : {A : Type 0} (P : A → Type 0) (k : ℕ) (xs : List A) → AllOf P xs → AllOf P (drop k xs)
all_dropped P zero xs h = h
all_dropped P (suc k) [] h = tt
all_dropped P (suc k) (x ∷ xs) h = all_dropped P k xs h.1

pub front_at : (xs ys : List Name) → IsFront xs ys → (k : ℕ) (n : Name) → slice_get xs k ≡ Some n → slice_get ys k ≡ Some n
front_at xs ys f k n e = ap (λ zs. slice_get zs k) f.1 ∙ front xs f.0 k n e

-- ---- the answer that a note asks for

-- its name
unfoldable pub due_names : ℕ → Note Name → List Name
due_names u (Deliver d n verb ys) = elim d.asks [ true ↦ answer_of u d.message ∷ [] | false ↦ [] ]
due_names u other = []

due_or : (y a : Name) (b : Bool) → IsAmong y (elim b [ true ↦ a ∷ [] | false ↦ [] ]) → (b ≡ true) × (a ≡ y)
due_or y a true (inl e) = (refl, sym e)
due_or y a true (inr h) = absurd h
due_or y a false h = absurd h

among_due : (u : ℕ) (n : Note Name) (y : Name) → IsAmong y (due_names u n) → DueIn u n y
unfolding due_names
among_due u (Deliver d n verb ys) y h = due_or y (answer_of u d.message) d.asks h
among_due u other y h = h

or_due : (y a : Name) (b : Bool) → b ≡ true → a ≡ y → IsAmong y (elim b [ true ↦ a ∷ [] | false ↦ [] ])
or_due y a true e i = inl (sym i)
or_due y a false e i = cc

due_among : (u : ℕ) (n : Note Name) (y : Name) → DueIn u n y → IsAmong y (due_names u n)
unfolding due_names
due_among u (Deliver d n verb ys) y h = or_due y (answer_of u d.message) d.asks h.0 h.1
due_among u other y h = h

-- its number
abbrev one_told : ℕ → Name → Bool → List Told
one_told k a b = elim b [ true ↦ record { number = k; name = a } ∷ [] | false ↦ [] ]

answer_or : (u k : ℕ) (ns : List Name) (a : Name) (b : Bool) → (b ≡ true → ToldSo u ns (record { number = k; name = a })) → AllOf (ToldSo u ns) (one_told k a b)
answer_or u k ns a true f = (f refl, tt)
answer_or u k ns a false f = tt

answer_sound : (u k : ℕ) (ns : List Name) (n : Note Name) → ((y : Name) → DueIn u n y → ToldSo u ns (record { number = k; name = y })) → AllOf (ToldSo u ns) (told_answer u k n)
unfolding told_answer
answer_sound u k ns (Deliver d n verb ys) f = answer_or u k ns (answer_of u d.message) d.asks (λ e. f (answer_of u d.message) (e, refl))
answer_sound u k ns other f = tt

or_answer : (k : ℕ) (a : Name) (b : Bool) → b ≡ true → SomeOf (At k) (one_told k a b)
or_answer k a true e = inl refl
or_answer k a false e = cc

answer_told : (u k : ℕ) (n : Note Name) (y : Name) → DueIn u n y → SomeOf (At k) (told_answer u k n)
unfolding told_answer
answer_told u k (Deliver d n verb ys) y h = or_answer k (answer_of u d.message) d.asks h.0
answer_told u k other y h = absurd h

-- ---- new numbers are told

number_told : (k : ℕ) (a : Local) (y : Name) → Number k a → SomeOf (At k) (of_promise a y)
unfolding of_promise
number_told k (Prom j) y e = let i : j ≡ k = cc in inl i
number_told k other y e = cc

imports_told : (k : ℕ) (f : ℕ → Name) (p : ℕ) (ls : List Local) → SomeOf (Number k) ls → SomeOf (At k) (told_imports f p ls)
unfolding told_imports
imports_told k f p [] h = absurd h
imports_told k f p (a ∷ ls) (inl e) = some_left (At k) (of_promise a (f p)) (told_imports f (suc p) ls) (number_told k a (f p) e)
imports_told k f p (a ∷ ls) (inr h) = some_right (At k) (of_promise a (f p)) (told_imports f (suc p) ls) (imports_told k f (suc p) ls h)

learnt_told : (k : ℕ) (gs : List (Learnt Local)) → SomeOf (Named k) gs → SomeOf (At k) (told_learnt gs)
unfolding told_learnt
learnt_told k [] h = absurd h
learnt_told k (g ∷ gs) (inl e) = some_left (At k) (of_promise g.name (Gift g.host g.number)) (told_learnt gs) (number_told k g.name (Gift g.host g.number) e)
learnt_told k (g ∷ gs) (inr h) = some_right (At k) (of_promise g.name (Gift g.host g.number)) (told_learnt gs) (learnt_told k gs h)

-- ---- what is told is so

-- t is a table of vat u whose names are the first of ns
module _ (u : ℕ) (t : Table) (ns : List Name) (later : Starts t.names ns) where
  one_sound : (a : Local) (y z : Name) → z ≡ y → found u t a ≡ Is y → (IsOwnPromise u y → ⊥) → AllOf (ToldSo u ns) (of_promise a z)
  unfolding of_promise found
  one_sound (Prom k) y z e h o =
      let at : slice_get ns k ≡ Some y = front_at t.names ns later k y (some_name (slice_get t.names k) k y h) in
      ((at ∙ ap Some (sym e), λ i. o (i.0, sym e ∙ i.1)), tt)
  one_sound other y z e h o = tt

  imports_sound : (f : ℕ → Name) (p : ℕ) (ls : List Local) (es : List Name) → map (found u t) ls ≡ map Is es → ((i : ℕ) (y : Name) → slice_get es i ≡ Some y → (f (p + i) ≡ y) × (IsOwnPromise u y → ⊥)) → AllOf (ToldSo u ns) (told_imports f p ls)
  unfolding told_imports
  imports_sound f p [] es e g = tt
  imports_sound f p (a ∷ ls) [] e g = cc
  imports_sound f p (a ∷ ls) (y ∷ es) e g =
      let h : found u t a ≡ Is y = cc in let k : map (found u t) ls ≡ map Is es = cc in
      let first = g zero y refl in let z : p ≡ p + zero = omega arith in
      all_join (ToldSo u ns) (of_promise a (f p)) (told_imports f (suc p) ls) (one_sound a y (f p) (ap f z ∙ first.0) h first.1)
      (imports_sound f (suc p) ls es k (λ i x j. let r = g (suc i) x j in let q : suc p + i ≡ p + suc i = omega arith in (ap f q ∙ r.0, r.1)))

  no_gift : (h i : ℕ) → IsOwnPromise u (Gift h i) → ⊥
  no_gift h i o = clash o.1
    where
      clash : {j : ℕ} → Gift h i ≡ Promise u j → ⊥
      clash e = cc

  learnt_sound : (gs : List (Learnt Local)) → LearntAre u t gs → AllOf (ToldSo u ns) (told_learnt gs)
  unfolding told_learnt
  learnt_sound [] h = tt
  learnt_sound (g ∷ gs) h = all_join (ToldSo u ns) (of_promise g.name (Gift g.host g.number)) (told_learnt gs) (one_sound g.name (Gift g.host g.number) (Gift g.host g.number) refl h.0 (no_gift g.host g.number)) (learnt_sound gs h.1)

-- ---- a frame from v that vat u hears

module _ (x : World) (X : Vats) (v u : ℕ) (other : v ≡ u → ⊥) (t s : Vat Name) (k m : Member) (sender : slice_get X.members v ≡ Some k) (was : VatMirrors x X v t k) (mine : VatMirrors x X u s m) (here : u < length X.members)
    (n : Note Name) (o : Operation) (h : Heard Local (Note (Incoming Local Local))) (heard : heard_in v o m ≡ Some h) (so : HearsSo x v u s n h) (r : Vat Name)
    (later : Starts (names_heard (names_in s.known) n) (names_in r.known)) (differ : (i j : ℕ) (y : Name) → slice_get (names_in r.known) i ≡ Some y → slice_get (names_in r.known) j ≡ Some y → i ≡ j)
    (answered : (y : Name) → DueIn u n y → slice_get (names_in r.known) (length (names_heard (names_in s.known) n)) ≡ Some y)
    (exported : IsFront (exported_with x v u n) (connected_at v u x.connections).tables.exports) (hosts : AllOf (λ y. host_of y ≡ v) (connected_at v u x.connections).tables.exports)
    (no_own : (i : ℕ) → IsBroughtBy u (names_in s.known) (Some n) (Promise u i) → IsAmong (Promise u i) (names_in s.known)) where
  abbrev ns : List Name
  ns = names_in r.known

  abbrev ks : List Name
  ks = names_in s.known

  -- the names that come to be known ls the note is read
  abbrev rest : List Name
  rest = (heard_starts (names_in s.known) n).0

  -- and by the note
  abbrev pub Came : List Name
  Came = rest ++ due_names u n

  heard_is : names_heard ks n ≡ ks ++ rest
  heard_is = (heard_starts ks n).1

  longer : length ks ≤ length (names_heard ks n)
  longer = let e = ap (λ xs. length xs) heard_is in let l = length-append ks rest in omega arith

  -- what was known stands in front
  old_at : (y : Name) → IsAmong y ks → (j : ℕ) × (slice_get ns j ≡ Some y) × (j < length ks)
  old_at y a =
      let j = among_get y ks a in
      let first : slice_get (names_heard ks n) j.0 ≡ Some y = ap (λ xs. slice_get xs j.0) heard_is ∙ front ks rest j.0 y j.1 in
      (j.0, front_at (names_heard ks n) ns later j.0 y first, slice_get_within ks j.0 y j.1)

  -- ---- sound

  positions_here : (q : ℕ) (y : Name) → slice_get (exported_with x v u n) q ≡ Some y → name_exported X.members v u q ≡ y
  unfolding name_exported
  positions_here q y e =
      let c : slice_get (connected_at v u x.connections).tables.exports q ≡ Some y = front_at (exported_with x v u n) (connected_at v u x.connections).tables.exports exported q y e in
      let same = ap (λ (z : _). z.exports) (was.connections u here) in
      let a = mapped_at (found v (table_of x v t)) Is (connection_for u k).exports (connected_at v u x.connections).tables.exports q y same c in
      ap (λ i. whole i) sender ∙ ap (λ i. part i) a.1 ∙ name_is x X v t k.names was.known was.mails was.positions a.0 y a.2
    where
      part : Option Local → Name
      part i = elim i [ Some z ↦ name_at_vat X.members v k.names z | None ↦ Root v ]

      whole : Option Member → Name
      whole i = elim i [ Some j ↦ elim (slice_get (connection_for u j).exports q) [ Some z ↦ name_at_vat X.members v j.names z | None ↦ Root v ] | None ↦ Root v ]

  of_sender : (q : ℕ) (y : Name) → slice_get (exported_with x v u n) q ≡ Some y → IsOwnPromise u y → ⊥
  unfolding host_of
  of_sender q y e i =
      let c = front_at (exported_with x v u n) (connected_at v u x.connections).tables.exports exported q y e in
      let host = at_all (λ z. host_of z ≡ v) (connected_at v u x.connections).tables.exports q y hosts c in
      other (sym host ∙ ap host_of i.1)

  due_so : (y : Name) → DueIn u n y → ToldSo u ns (record { number = h.after.known; name = y })
  due_so y d = (ap (slice_get ns) so.known ∙ answered y d, λ i. own i)
    where
      own : IsOwnPromise u y → ⊥
      own i =
          let a = old_at (Promise u i.0) (no_own i.0 (inr (subst (λ z. DueIn u n z) i.1 d))) in
          let e : a.0 ≡ length (names_heard ks n) = differ a.0 (length (names_heard ks n)) y (a.1 ∙ ap Some (sym i.1)) (answered y d) in
          let l = longer in let b = a.2 in absurd (omega arith)

  module _ (g : Grew (stage_of v m) h.after) where
    positions_are : drop (length (connection_for v m).imports) h.after.imports ≡ g.positions
    unfolding stage_of
    positions_are = ap (drop (length (connection_for v m).imports)) g.imports ∙ drop_front (connection_for v m).imports g.positions

    gifts_are : drop (length m.learnt) h.after.learnt ≡ g.gifts
    unfolding stage_of
    gifts_are = ap (drop (length m.learnt)) g.learnt ∙ drop_front m.learnt g.gifts

    known_before : (let b : Stage Local = stage_of v m in b.known) ≡ length ks
    unfolding stage_of ready readied
    known_before = mapped_length (maps.known (found u (table_of x u s))) (maps.known Is) m.vat.known s.known (ap (λ (z : Vat Found). z.known) mine.stands) ∙ names_length s.known
      where
        names_length : (es : List _) → length es ≡ length (names_in es)
        names_length [] = refl
        names_length (e ∷ es) = ap suc (names_length es)

    sound : AllOf (ToldSo u ns) (brought X.members v u n h m)
    unfolding brought table_heard
    sound =
        let L = length (connection_for v m).imports in
        let T : Table = table_heard x u s n in
        let same : map (found u T) (drop L h.after.imports) ≡ map Is (drop L (exported_with x v u n)) = map_drop (found u T) L h.after.imports ∙ ap (drop L) so.imports ∙ sym (map_drop Is L (exported_with x v u n)) in
        all_join (ToldSo u ns) (told_imports (name_exported X.members v u) L (drop L h.after.imports) ++ told_learnt (drop (length m.learnt) h.after.learnt)) (told_answer u h.after.known n)
        (all_join (ToldSo u ns) (told_imports (name_exported X.members v u) L (drop L h.after.imports)) (told_learnt (drop (length m.learnt) h.after.learnt))
        (imports_sound u T ns later (name_exported X.members v u) L (drop L h.after.imports) (drop L (exported_with x v u n)) same
        (λ i y e. let at = sym (get_dropped L i (exported_with x v u n)) ∙ e in (positions_here (L + i) y at, of_sender (L + i) y at)))
        (learnt_sound u T ns later (drop (length m.learnt) h.after.learnt) (all_dropped (λ (z : Learnt Local). found u T z.name ≡ Is (Gift z.host z.number)) (length m.learnt) h.after.learnt so.learnt)))
        (answer_sound u h.after.known ns n due_so)

    -- ---- all

    abbrev Imports : List Told
    Imports = told_imports (name_exported X.members v u) (length (connection_for v m).imports) (drop (length (connection_for v m).imports) h.after.imports)

    abbrev Gifts : List Told
    Gifts = told_learnt (drop (length m.learnt) h.after.learnt)

    read_told : (i : ℕ) → (let b : Stage Local = stage_of v m in b.known) ≤ i → i < h.after.known → SomeOf (At i) (Imports ++ Gifts ++ told_answer u h.after.known n)
    read_told i a b = by (g.each i a b)
      where
        by : SomeOf (Number i) g.positions ⊎ SomeOf (Named i) g.gifts → SomeOf (At i) (Imports ++ Gifts ++ told_answer u h.after.known n)
        by (inl c) = some_left (At i) (Imports ++ Gifts) (told_answer u h.after.known n) (some_left (At i) Imports Gifts (imports_told i (name_exported X.members v u) (length (connection_for v m).imports) (drop (length (connection_for v m).imports) h.after.imports) (subst (λ xs. SomeOf (Number i) xs) (sym positions_are) c)))
        by (inr c) = some_left (At i) (Imports ++ Gifts) (told_answer u h.after.known n) (some_right (At i) Imports Gifts (learnt_told i (drop (length m.learnt) h.after.learnt) (subst (λ xs. SomeOf (Named i) xs) (sym gifts_are) c)))

    all_told : (i : ℕ) (y : Name) → slice_get ns i ≡ Some y → IsAmong y Came → SomeOf (At i) (brought X.members v u n h m)
    unfolding brought
    all_told i y at a = by (among_split y rest (due_names u n) a)
      where
        by : IsAmong y rest ⊎ IsAmong y (due_names u n) → SomeOf (At i) (Imports ++ Gifts ++ told_answer u h.after.known n)
        by (inl b) =
            let j = among_get y rest b in
            let first : slice_get (names_heard ks n) (length ks + j.0) ≡ Some y = ap (λ xs. slice_get xs (length ks + j.0)) heard_is ∙ get_behind ks rest j.0 ∙ j.1 in
            let e : i ≡ length ks + j.0 = differ i (length ks + j.0) y at (front_at (names_heard ks n) ns later (length ks + j.0) y first) in
            let within = slice_get_within (names_heard ks n) (length ks + j.0) y first in
            let known = known_before in let after = so.known in
            read_told i (omega arith) (omega arith)
        by (inr b) =
            let d = among_due u n y b in
            let e : i ≡ h.after.known = differ i (length (names_heard ks n)) y at (answered y d) ∙ sym so.known in
            subst (λ j. SomeOf (At j) (Imports ++ Gifts ++ told_answer u h.after.known n)) (sym e)
            (some_right (At h.after.known) (Imports ++ Gifts) (told_answer u h.after.known n) (answer_told u h.after.known n y d))

    brought_so : BroughtSo u ns Came (brought X.members v u n h m)
    brought_so = record { sound = sound; all = all_told }

  grew : Grew (stage_of v m) h.after
  unfolding heard_in
  grew = subst (λ e. Late (stage_of v m) e) heard (late_note is_object m.vat.number v (connection_for v m) o (stage_of v m))

  pub frame_brought : BroughtSo u (names_in r.known) Came (brought X.members v u n h m)
  frame_brought = brought_so grew

  -- a name that came to be known, and that the note brought, is one that came by it
  pub came_by : (new : List Name) → names_in r.known ≡ names_in s.known ++ new → (y : Name) → IsAmong y new → IsBroughtBy u (names_in s.known) (Some n) y → IsAmong y Came
  came_by new grows y a (inr d) = among_right y rest (due_names u n) (due_among u n y d)
  came_by new grows y a (inl b) = by (among_split y ks rest (subst (λ xs. IsAmong y xs) heard_is b))
    where
      by : IsAmong y ks ⊎ IsAmong y rest → IsAmong y Came
      by (inr c) = among_left y rest (due_names u n) c
      by (inl c) =
          let i = old_at y c in
          let j = among_get y new a in
          let e : i.0 ≡ length ks + j.0 = differ i.0 (length ks + j.0) y i.1 (ap (λ xs. slice_get xs (length ks + j.0)) grows ∙ get_behind ks new j.0 ∙ j.1) in
          let l = i.2 in absurd (omega arith)
