-- What a vat has for the sender of a frame once it was heard and has arrived, in numbers and in names.
use Rattle.std.proofs.Common.{◌≡◌, ℕ, ◌<◌, Bool, true, false, List, [], ◌∷◌, ◌++◌, ◌⊎◌, inl, inr, Option, Some, None, refl, sym, ap, ◌∙◌, subst, length, map, arith}
use Rattle.std.specs.Prelude.{slice_set, get_or, option_map, ◌==◌}
use Rattle.std.proofs.lemmas.Bool.{eqb-true}
use Rattle.std.proofs.lemmas.List.{get_or-set_same, get_or-set_other, map-append}
use Rattle.def_machine.specs.Values.{Name, Gift, answer_of, Local, Prom}
use Rattle.def_machine.specs.State.{Note, Deliver, Ask, GiftEntry, Vat, is_gift}
use Rattle.def_machine.specs.Arrive.{Incoming, gift_at}
use Rattle.def_run.specs.Connections.{Connection, Heard, asked_in, answer_if}
use Rattle.def_run.specs.Wire.{Connected, connected_at, sight, received, hear_at, imports_after, read_frame, first_stage, frame_due}
use Rattle.def_run.specs.World.{World, read_note}
use Rattle.law_fate.specs.Name.Names.{AllOf, IsAmong, names_in}
use Rattle.def_machine.specs.Maps as maps
use Rattle.def_machine.specs.Maps.{incoming}
use Rattle.law_machine.specs.Renamed.Stands.{Table, Found, Is, found}
use Rattle.law_machine.proofs.Renamed.Stands.{Extends}
use Rattle.law_frame.specs.Frame.Alike.{as_told}
use Rattle.law_frame.specs.Frame.Growing.{IsFront}
use Rattle.law_frame.specs.Frame.Lines.{DueIn}
use Rattle.law_frame.specs.Frame.OwnFrames.{refers}
use Rattle.law_frame.specs.Frame.Positions.{exported_with}
use Rattle.law_frame.specs.Frame.Together.{TablesMay, changed_tables}
use Rattle.law_frame.proofs.Frame.Places.{same_or, connected_ends}
use Rattle.law_frame.specs.Heard.Hearing.{as_heard}
use Rattle.def_run.specs.Vats.{Member, unconnected, connection_for, gift_name, asked_by, heard_on}
use Rattle.law_frame.specs.Local.Mirrors.{HoldReferences}
use Rattle.law_frame.specs.Local.Writing.{ConnectionsMirror}
use Rattle.law_frame.specs.Local.Hearing.{unnamed}
use Rattle.law_frame.proofs.Local.Steps.{names_still, tables_still}
use Rattle.law_frame.proofs.Local.CarryLinks.{heard_here, heard_there}
use Rattle.law_frame.proofs.Local.CarryGifts.{Stands}

-- ---- what a note asks for, whatever its names are

unfoldable asks : {A : Type 0} → Note A → Bool
asks (Deliver d x verb ys) = d.asks
asks other = false

-- the provider and the key of a gift
unfoldable gift_asked : {A : Type 0} → Note A → List ℕ
gift_asked (Ask p i x) = p ∷ i ∷ []
gift_asked other = []

unfoldable by_asked : ℕ → Vat Local → Bool → List ℕ → List Local
by_asked k s b [] = elim b [ true ↦ Prom k ∷ [] | false ↦ [] ]
by_asked k s b (p ∷ []) = []
by_asked k s b (p ∷ i ∷ is) = gift_name (gift_at p i s.gifts)

asked_is : (k : ℕ) (s : Vat Local) (n : Note (Incoming Local Local)) → asked_by k s n ≡ by_asked k s (asks n) (gift_asked n)
unfolding asked_by by_asked asks gift_asked
asked_is k s (Deliver d x verb ys) = refl
asked_is k s other = refl

asks_changed : {A B : Type 0} (f : A → B) (n : Note A) → (asks (maps.note f n) ≡ asks n) × (gift_asked (maps.note f n) ≡ gift_asked n)
unfolding asks gift_asked
asks_changed f (Deliver d x verb ys) = (refl, refl)
asks_changed f other = (refl, refl)

asks_heard : (v u : ℕ) (ks : List Name) (n : Note Name) → (asks (as_heard v u (read_note ks n)) ≡ asks n) × (gift_asked (as_heard v u (read_note ks n)) ≡ gift_asked n)
unfolding asks gift_asked as_heard as_told read_note
asks_heard v u ks (Deliver d x verb ys) = (refl, refl)
asks_heard v u ks other = (refl, refl)

-- a note that was heard asks for what the note asks for
asks_same : {D : Type 0} (F : Incoming Local Local → D) (G : Incoming Name Name → D) (v u : ℕ) (ks : List Name) (n : Note Name) (h : Note (Incoming Local Local)) → maps.note F h ≡ maps.note G (as_heard v u (read_note ks n)) → (k : ℕ) (s : Vat Local) → asked_by k s h ≡ by_asked k s (asks n) (gift_asked n)
asks_same F G v u ks n h e k s =
    let a = asks_changed F h in let b = asks_changed G (as_heard v u (read_note ks n)) in let c = asks_heard v u ks n in
    let i : asks h ≡ asks n = sym a.0 ∙ ap asks e ∙ b.0 ∙ c.0 in
    let j : gift_asked h ≡ gift_asked n = sym a.1 ∙ ap gift_asked e ∙ b.1 ∙ c.1 in
    asked_is k s h ∙ ap (λ x. by_asked k s x (gift_asked h)) i ∙ ap (λ x. by_asked k s (asks n) x) j

-- ---- a gift has a number in numbers as it has a name in names

gift_changed : {A B : Type 0} (f : A → B) (p i : ℕ) (gs : List (GiftEntry A)) → gift_at p i (map (maps.gift f) gs) ≡ option_map (maps.gift f) (gift_at p i gs)
unfolding gift_at is_gift
gift_changed f p i [] = refl
gift_changed f p i (g ∷ gs) = by (is_gift p i g) (gift_changed f p i gs)
  where
    by : (b : Bool) → gift_at p i (map (maps.gift f) gs) ≡ option_map (maps.gift f) (gift_at p i gs) → ◌≡◌ {A = Option (GiftEntry _)} (elim b [ true ↦ Some (maps.gift f g) | false ↦ gift_at p i (map (maps.gift f) gs) ]) (option_map (maps.gift f) (elim b [ true ↦ Some g | false ↦ gift_at p i gs ]))
    by true e = refl
    by false e = e

key_or : (x : GiftEntry Name) (i : ℕ) (a b : Bool) → (x.number == i) ≡ b → elim a [ true ↦ b | false ↦ false ] ≡ true → x.number ≡ i
key_or x i true true e h = eqb-true x.number i e
key_or x i true false e h = cc
key_or x i false b e h = cc

own_key : (p i : ℕ) (x : GiftEntry Name) → is_gift p i x ≡ true → x.number ≡ i
unfolding is_gift
own_key p i x e = key_or x i (x.provider == p) (x.number == i) refl e

gift_key : (p i : ℕ) (gs : List (GiftEntry Name)) (g : GiftEntry Name) → gift_at p i gs ≡ Some g → g.number ≡ i
unfolding gift_at
gift_key p i [] g e = cc
gift_key p i (x ∷ gs) g e = by (is_gift p i x) refl e (λ k. gift_key p i gs g k)
  where
    by : (b : Bool) → is_gift p i x ≡ b → ◌≡◌ {A = Option (GiftEntry Name)} (elim b [ true ↦ Some x | false ↦ gift_at p i gs ]) (Some g) → (gift_at p i gs ≡ Some g → g.number ≡ i) → g.number ≡ i
    by true j k f = let same : x ≡ g = cc in ap (λ (z : GiftEntry Name). z.number) (sym same) ∙ own_key p i x j
    by false j k f = f k

gift_own : (u p i : ℕ) (ns : List Name) (gs : List (GiftEntry Name)) (g : GiftEntry Name) → AllOf (λ (z : GiftEntry Name). (z.name ≡ Gift u z.number) × IsAmong z.name ns) gs → gift_at p i gs ≡ Some g → g.name ≡ Gift u g.number
unfolding gift_at
gift_own u p i ns [] g h e = cc
gift_own u p i ns (x ∷ gs) g h e = by (is_gift p i x) e (λ k. gift_own u p i ns gs g h.1 k)
  where
    by : (b : Bool) → ◌≡◌ {A = Option (GiftEntry Name)} (elim b [ true ↦ Some x | false ↦ gift_at p i gs ]) (Some g) → (gift_at p i gs ≡ Some g → g.name ≡ Gift u g.number) → g.name ≡ Gift u g.number
    by true k f = let same : x ≡ g = cc in subst (λ (z : GiftEntry Name). z.name ≡ Gift u z.number) same h.0.0
    by false k f = f k

-- what is one option in both
one_there : (F : Local → Found) (o : Option (GiftEntry Local)) (g : GiftEntry Name) → option_map (maps.gift F) o ≡ Some (maps.gift Is g) → map F (gift_name o) ≡ Is g.name ∷ []
unfolding gift_name
one_there F (Some k) g e = let i : maps.gift F k ≡ maps.gift Is g = cc in ap (λ z. z ∷ []) (ap (λ (z : GiftEntry Found). z.name) i)
one_there F None g e = cc

gift_found : (F : Local → Found) (u p i : ℕ) (q : Vat Local) (r : Vat Name) → maps.vat F q ≡ maps.vat Is r → AllOf (λ (z : GiftEntry Name). (z.name ≡ Gift u z.number) × IsAmong z.name (names_in r.known)) r.gifts → Stands p i r.gifts → map F (gift_name (gift_at p i q.gifts)) ≡ Is (Gift u i) ∷ []
gift_found F u p i q r e named h =
    let there : option_map (maps.gift F) (gift_at p i q.gifts) ≡ Some (maps.gift Is h.0) = sym (gift_changed F p i q.gifts) ∙ ap (gift_at p i) (ap (λ (z : Vat Found). z.gifts) e) ∙ gift_changed Is p i r.gifts ∙ ap (option_map (maps.gift Is)) h.1 in
    let name : (h.0).name ≡ Gift u i = gift_own u p i (names_in r.known) r.gifts h.0 named h.1 ∙ ap (λ k. Gift u k) (gift_key p i r.gifts h.0 h.1) in
    one_there F (gift_at p i q.gifts) h.0 there ∙ ap (λ z. Is z ∷ []) name

-- ---- the questions that have arrived

answer_or : (F : Local → Found) (v u k : ℕ) (m : Name) (b : Bool) → (b ≡ true → F (Prom k) ≡ Is (answer_of u m)) → map F (elim b [ true ↦ Prom k ∷ [] | false ↦ [] ]) ≡ map Is (answer_if (sight v u) b m)
unfolding answer_if sight
answer_or F v u k m true f = ap (λ z. z ∷ []) (f refl)
answer_or F v u k m false f = refl

-- a gift that a note asks for, at vat u
abbrev pub GiftStands : ℕ → Vat Name → Note Name → Type 0
GiftStands u r (Ask p i x) = (x ≡ Gift u i) × Stands p i r.gifts
GiftStands u r other = Unit {0}

asked_so : (F : Local → Found) (v u k : ℕ) (q : Vat Local) (r : Vat Name) → maps.vat F q ≡ maps.vat Is r → AllOf (λ (z : GiftEntry Name). (z.name ≡ Gift u z.number) × IsAmong z.name (names_in r.known)) r.gifts → (n : Note Name) → GiftStands u r n → ((y : Name) → DueIn u n y → F (Prom k) ≡ Is y)
    → map F (by_asked k q (asks n) (gift_asked n)) ≡ map Is (asked_in (sight v u) n)
unfolding by_asked asks gift_asked asked_in
asked_so F v u k q r e named (Deliver d x verb ys) g f = answer_or F v u k d.message d.asks (λ i. f (answer_of u d.message) (i, refl))
asked_so F v u k q r e named (Ask p i x) g f = gift_found F u p i q r e named g.1 ∙ ap (λ z. Is z ∷ []) (sym g.0)
asked_so F v u k q r e named other g f = refl

-- What a note that was heard asks for has, in numbers, what it asks for in names.
pub asked_found : (f : Local → Found) (v u : ℕ) (ks : List Name) (n : Note Name) (h : Note (Incoming Local Local)) → maps.note (incoming f unnamed) h ≡ maps.note (incoming Is unnamed) (as_heard v u (read_note ks n)) → (k : ℕ) (q : Vat Local) (r : Vat Name) → maps.vat f q ≡ maps.vat Is r
    → AllOf (λ (z : GiftEntry Name). (z.name ≡ Gift u z.number) × IsAmong z.name (names_in r.known)) r.gifts → GiftStands u r n → ((y : Name) → DueIn u n y → f (Prom k) ≡ Is y) → map f (asked_by k q h) ≡ map Is (asked_in (sight v u) n)
asked_found f v u ks n h e k q r stands named gift due = ap (map f) (asks_same (incoming f unnamed) (incoming Is unnamed) v u ks n h e k q) ∙ asked_so f v u k q r stands named n gift due

-- ---- connections in names

all_front : (P : Name → Type 0) (xs ys : List Name) → IsFront xs ys → AllOf P ys → AllOf P xs
all_front P xs ys f h = by xs f.0 (subst (λ zs. AllOf P zs) f.1 h)
  where
    by : (ls bs : List Name) → AllOf P (ls ++ bs) → AllOf P ls
    by [] bs k = tt
    by (a ∷ ls) bs k = (k.0, by ls bs k.1)

module _ (x : World) (v u : ℕ) (other : v ≡ u → ⊥) (n : Note Name) where
  abbrev C : Connected
  C = connected_at v u x.connections

  abbrev D : Connected
  D = connected_at u v x.connections

  abbrev ds : List Connected
  ds = hear_at v u n x.connections

  module _ (imports : imports_after D.tables.imports (read_frame D C (Name.Root C.from) (first_stage D) (frame_due C D)) ≡ exported_with x v u n) where
    tables_now : (connected_at u v ds).tables ≡ record { exports = D.tables.exports; imports = exported_with x v u n; questions = D.tables.questions; answers = D.tables.answers ++ asked_in (sight v u) n }
    unfolding received
    tables_now = let ends = connected_ends v u x.connections in
        ap (λ (c : Connected). c.tables) (heard_here n v u x.connections other)
        ∙ ap (λ is. changed is (D.tables.answers ++ asked_in (sight C.from C.to) n)) imports
        ∙ ap (λ a. changed (exported_with x v u n) (D.tables.answers ++ asked_in (sight a C.to) n)) ends.0
        ∙ ap (λ b. changed (exported_with x v u n) (D.tables.answers ++ asked_in (sight v b) n)) ends.1
      where
        changed : List Name → List Name → Connection Name
        changed is qs = record { exports = D.tables.exports; imports = is; questions = D.tables.questions; answers = qs }

    module _ (exported : IsFront (exported_with x v u n) C.tables.exports) (asked : IsFront (D.tables.answers ++ asked_in (sight v u) n) C.tables.questions) (many : ℕ) (from : v < many) (to : u < many) (hold : (w : ℕ) → w < many → HoldReferences w many x.connections) where
      heard_refers : TablesMay refers (connected_at u v ds).tables
      heard_refers = let mine = hold u to v from in let theirs = hold v from u to in
          subst (λ t. TablesMay refers t) (sym tables_now) (record {
            exports = mine.exports;
            imports = all_front (λ z. refers z ≡ true) (exported_with x v u n) C.tables.exports exported theirs.exports;
            questions = mine.questions;
            answers = all_front (λ z. refers z ≡ true) (D.tables.answers ++ asked_in (sight v u) n) C.tables.questions asked theirs.questions;
          })

      -- no message has a number after it either
      pub refer_heard : (w : ℕ) → w < many → HoldReferences w many ds
      refer_heard w a z b = by (same_or u v w z)
        where
          by : ((u ≡ w) × (v ≡ z)) ⊎ (u ≡ w → v ≡ z → ⊥) → TablesMay refers (connected_at w z ds).tables
          by (inl e) = subst (λ j. TablesMay refers (connected_at w j ds).tables) e.1 (subst (λ i. TablesMay refers (connected_at i v ds).tables) e.0 heard_refers)
          by (inr o) = subst (λ (c : Connected). TablesMay refers c.tables) (sym (heard_there n v u x.connections other w z o)) (hold w a z b)

    -- ---- and in numbers

    module _ (m : Member) (h : Heard Local (Note (Incoming Local Local))) (q : Vat Local) (t T T2 : Table) (before : Extends t T2) (more : Extends T T2) (many : ℕ) (peers : length m.connections ≡ many) (from : v < many)
        (was : (z : ℕ) → z < many → changed_tables (found u t) (connection_for z m) ≡ changed_tables Is (connected_at u z x.connections).tables)
        (positions : map (found u T) h.after.imports ≡ map Is (exported_with x v u n)) (answers : map (found u T2) (asked_by h.after.known q h.read) ≡ map Is (asked_in (sight v u) n)) where
      tables_same : {a b c d e f g i : List Found} → a ≡ e → b ≡ f → c ≡ g → d ≡ i → ◌≡◌ {A = Connection Found} (record { exports = a; imports = b; questions = c; answers = d }) (record { exports = e; imports = f; questions = g; answers = i })
      tables_same i j k l = cc

      both : {ls bs cs es : List Found} → ls ≡ bs → cs ≡ es → ls ++ cs ≡ bs ++ es
      both i j = cc

      still_here : changed_tables (found u T2) (connection_for v m) ≡ changed_tables Is D.tables
      still_here = tables_still u t T2 before (connection_for v m) D.tables (was v from)

      mirrors_here : changed_tables (found u T2) (heard_on h q (connection_for v m)) ≡ changed_tables Is (connected_at u v ds).tables
      unfolding heard_on
      mirrors_here =
          tables_same (ap (λ (c : Connection Found). c.exports) still_here) (names_still u T T2 more h.after.imports (exported_with x v u n) positions) (ap (λ (c : Connection Found). c.questions) still_here)
          (map-append (found u T2) (connection_for v m).answers (asked_by h.after.known q h.read) ∙ both (ap (λ (c : Connection Found). c.answers) still_here) answers ∙ sym (map-append Is D.tables.answers (asked_in (sight v u) n)))
          ∙ ap (λ c. changed_tables Is c) (sym tables_now)

      -- what the vat has in numbers after it stands for what it has in names
      pub connections_heard : ConnectionsMirror u T2 many (slice_set m.connections v (heard_on h q (connection_for v m))) ds
      unfolding connection_for
      connections_heard z a = by (same_or v v z z)
        where
          here : changed_tables (found u T2) (get_or (slice_set m.connections v (heard_on h q (connection_for v m))) v unconnected) ≡ changed_tables Is (connected_at u v ds).tables
          here = ap (λ c. changed_tables (found u T2) c) (get_or-set_same m.connections v (heard_on h q (connection_for v m)) unconnected (let e = peers in omega arith)) ∙ mirrors_here

          by : ((v ≡ z) × (v ≡ z)) ⊎ (v ≡ z → v ≡ z → ⊥) → changed_tables (found u T2) (get_or (slice_set m.connections v (heard_on h q (connection_for v m))) z unconnected) ≡ changed_tables Is (connected_at u z ds).tables
          by (inl e) = subst (λ j. changed_tables (found u T2) (get_or (slice_set m.connections v (heard_on h q (connection_for v m))) j unconnected) ≡ changed_tables Is (connected_at u j ds).tables) e.0 here
          by (inr o) = ap (λ c. changed_tables (found u T2) c) (get_or-set_other m.connections v z (heard_on h q (connection_for v m)) unconnected (λ e. o (sym e) (sym e)))
              ∙ tables_still u t T2 before (connection_for z m) (connected_at u z x.connections).tables (was z a)
              ∙ ap (λ (c : Connected). changed_tables Is c.tables) (sym (heard_there n v u x.connections other u z (λ i j. o j j)))
