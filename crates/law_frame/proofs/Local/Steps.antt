-- What a step that goes leaves: the two runs stand for one another again.
use Rattle.std.proofs.Common.{◌≡◌, ℕ, zero, suc, ◌<◌, Bool, true, false, List, [], ◌∷◌, ◌++◌, ◌⊎◌, inl, inr, Option, Some, None, refl, sym, ap, ◌∙◌, subst, length, map, arith}
use Rattle.std.specs.Prelude.{slice_get, slice_set, option_map}
use Rattle.std.proofs.lemmas.List.{length-set}
use Rattle.std.proofs.lemmas.Option.{slice_get_within}
use Rattle.def_machine.specs.Values.{Name, Object, Gift, Local}
use Rattle.def_machine.specs.State.{Note, Put, Vat}
use Rattle.def_run.specs.Connections.{Connection, Learnt}
use Rattle.def_run.specs.Wire.{Connected, connected_at, write_all}
use Rattle.def_run.specs.World as machine
use Rattle.def_run.specs.World.{Event, Link, World, link_at, with_link, put_at, events_of, readied}
use Rattle.law_fate.specs.Name.Names.{names_in}
use Rattle.def_machine.specs.Maps as maps
use Rattle.law_machine.specs.Renamed.Stands.{Table, Found, Is, found, IsTable, StandsFor}
use Rattle.law_machine.proofs.Renamed.Stands.{Extends, again, found_again, still}
use Rattle.law_reference.specs.Reference.Logs.{exports}
use Rattle.law_reference.specs.Reference.Exports.{exported_at}
use Rattle.law_reference.specs.Reference.Tables.{table_of}
use Rattle.law_frame.specs.Frame.Together.{TablesMay, changed_tables}
use Rattle.law_frame.specs.Frame.OwnFrames.{refers}
use Rattle.law_frame.proofs.Frame.Places.{same_or, link_same, link_other}
use Rattle.def_run.specs.Names.{Names, names_after}
use Rattle.def_run.specs.Vats.{Member, connection_for}
use Rattle.def_run.specs.Numbers as numbers
use Rattle.def_run.specs.Numbers.{Way, Vats, Brought, far_name, name_at_vat, ready, all_written, frames_of, left_by, way_at}
use Rattle.law_frame.specs.Local.Mirrors.{Mirrors, VatMirrors, WaysMirror, LearntAre, HoldReferences}
use Rattle.law_frame.specs.Local.Writing.{ConnectionsMirror, AllDue}
use Rattle.law_frame.specs.Local.Steps.{world_left, StepStands, StepsMirror}
use Rattle.law_frame.proofs.Local.Named as named
use Rattle.law_frame.proofs.Local.Ways.{MayMirror, at_mirrors, lines_same}
use Rattle.law_frame.proofs.Local.Positions.{exported_some, link_there, number_at, far_is, there_is}
use Rattle.law_frame.proofs.Local.Writing.{writings_mirror, put_other, after_put}

-- ---- one vat put in its place

pub set_other : {A : Type 0} (xs : List A) (i j : ℕ) (y : A) → (i ≡ j → ⊥) → slice_get (slice_set xs i y) j ≡ slice_get xs j
set_other [] i j y n = refl
set_other (x ∷ xs) zero zero y n = absurd (n refl)
set_other (x ∷ xs) zero (suc j) y n = refl
set_other (x ∷ xs) (suc i) zero y n = refl
set_other (x ∷ xs) (suc i) (suc j) y n = set_other xs i j y (λ e. n (ap suc e))

pub set_same : {A : Type 0} (xs : List A) (i : ℕ) (y z : A) → slice_get (slice_set xs i y) i ≡ Some z → z ≡ y
set_same [] i y z e = cc
set_same (x ∷ xs) zero y z e = cc
set_same (x ∷ xs) (suc i) y z e = set_same xs i y z e

pub put_beside : {A : Type 0} (xs : List A) (i j : ℕ) (y : A) → (i ≡ j → ⊥) → slice_get (put_at i y xs) j ≡ slice_get xs j
unfolding put_at
put_beside [] i j y n = refl
put_beside (x ∷ xs) zero zero y n = absurd (n refl)
put_beside (x ∷ xs) zero (suc j) y n = refl
put_beside (x ∷ xs) (suc i) zero y n = refl
put_beside (x ∷ xs) (suc i) (suc j) y n = put_beside xs i j y (λ e. n (ap suc e))

pub put_here : {A : Type 0} (xs : List A) (i : ℕ) (y z : A) → slice_get (put_at i y xs) i ≡ Some z → z ≡ y
unfolding put_at
put_here [] i y z e = cc
put_here (x ∷ xs) zero y z e = cc
put_here (x ∷ xs) (suc i) y z e = put_here xs i y z e

pub put_length : {A : Type 0} (xs : List A) (i : ℕ) (y : A) → length (put_at i y xs) ≡ length xs
unfolding put_at
put_length [] i y = refl
put_length (x ∷ xs) zero y = refl
put_length (x ∷ xs) (suc i) y = ap suc (put_length xs i y)

pub put_there : {A : Type 0} (xs : List A) (i : ℕ) (y : A) → i < length xs → slice_get (put_at i y xs) i ≡ Some y
unfolding put_at
put_there [] i y h = absurd (omega arith)
put_there (x ∷ xs) zero y h = refl
put_there (x ∷ xs) (suc i) y h = put_there xs i y (omega arith)

pub set_there : {A : Type 0} (xs : List A) (i : ℕ) (y : A) → i < length xs → slice_get (slice_set xs i y) i ≡ Some y
set_there [] i y h = absurd (omega arith)
set_there (x ∷ xs) zero y h = refl
set_there (x ∷ xs) (suc i) y h = set_there xs i y (omega arith)

-- a note that is put makes no link
put_ends : (m : Note Name) (l : Link) → ((machine.pushed m l).from ≡ l.from) × ((machine.pushed m l).to ≡ l.to)
unfolding machine.pushed
put_ends m l = by l.cut
  where
    abbrev_link : Bool → Link
    abbrev_link b = elim b [ true ↦ record l { log = l.log ++ m ∷ [] } | false ↦ record l { notes = l.notes ++ m ∷ []; log = l.log ++ m ∷ [] } ]

    by : (b : Bool) → ((abbrev_link b).from ≡ l.from) × ((abbrev_link b).to ≡ l.to)
    by true = (refl, refl)
    by false = (refl, refl)

some_before : (m : Note Name) (o : Option Link) (l : Link) → option_map (machine.pushed m) o ≡ Some l → (k : Link) × (o ≡ Some k)
some_before m (Some k) l e = (k, refl)
some_before m None l e = cc

link_before : (m : Note Name) (a b h v : ℕ) (ls : List Link) (l : Link) → link_at h v (with_link (machine.pushed m) a b ls) ≡ Some l → (k : Link) × (link_at h v ls ≡ Some k)
link_before m a b h v ls l e = by (same_or a b h v)
  where
    by : ((a ≡ h) × (b ≡ v)) ⊎ (a ≡ h → b ≡ v → ⊥) → (k : Link) × (link_at h v ls ≡ Some k)
    by (inl i) = some_before m (link_at h v ls) l (sym (link_same (machine.pushed m) (λ z. (put_ends m z).0) (λ z. (put_ends m z).1) h v ls) ∙ ap (λ z. link_at h v (with_link (machine.pushed m) z v ls)) (sym i.0) ∙ ap (λ z. link_at h v (with_link (machine.pushed m) a z ls)) (sym i.1) ∙ e)
    by (inr i) = (l, sym (link_other (machine.pushed m) (λ z. (put_ends m z).0) (λ z. (put_ends m z).1) a b h v ls i) ∙ e)

pushed_there : (u : ℕ) (qs : List (Put Name)) (h v : ℕ) (ls : List Link) (l : Link) → link_at h v (machine.push_all u qs ls) ≡ Some l → (k : Link) × (link_at h v ls ≡ Some k)
unfolding machine.push_all
pushed_there u [] h v ls l e = (l, e)
pushed_there u (q ∷ qs) h v ls l e = let k = pushed_there u qs h v (with_link (machine.pushed q.note) u q.to ls) l e in link_before q.note u q.to h v ls k.0 k.1

-- the connections of others
write_other : (u : ℕ) (qs : List (Put Name)) (a b : ℕ) (ds : List Connected) → (u ≡ a → ⊥) → connected_at a b (write_all u qs ds) ≡ connected_at a b ds
unfolding write_all
write_other u [] a b ds n = refl
write_other u (q ∷ qs) a b ds n = write_other u qs a b (after_put q.note u q.to ds) n ∙ put_other q.note u q.to a b ds (λ e f. n e)

-- what was found under one table is found under a longer one
module _ (v : ℕ) (t z : Table) (more : Extends t z) where
  pub more_found : (a : Local) (n : Name) → found v t a ≡ Is n → found v z a ≡ Is n
  unfolding again
  more_found a n e = sym (found_again v t z more a) ∙ ap (again v t z more) e

  pub names_still : (xs : List Local) (ns : List Name) → map (found v t) xs ≡ map Is ns → map (found v z) xs ≡ map Is ns
  names_still [] ns e = none ns e
    where
      none : (ls : List Name) → ◌≡◌ {A = List Found} [] (map Is ls) → ◌≡◌ {A = List Found} [] (map Is ls)
      none ls k = k
  names_still (a ∷ xs) (n ∷ ns) e = let i : found v t a ≡ Is n = cc in let j : map (found v t) xs ≡ map Is ns = cc in joined (more_found a n i) (names_still xs ns j)
    where
      joined : {x y : Found} {xs ys : List Found} → x ≡ y → xs ≡ ys → x ∷ xs ≡ y ∷ ys
      joined e i = cc
  names_still (a ∷ xs) [] e = cc

  pub tables_still : (c : Connection Local) (d : Connection Name) → changed_tables (found v t) c ≡ changed_tables Is d → changed_tables (found v z) c ≡ changed_tables Is d
  tables_still c d e = tables_same
      (names_still c.exports d.exports (ap (λ (x : Connection Found). x.exports) e)) (names_still c.imports d.imports (ap (λ (x : Connection Found). x.imports) e))
      (names_still c.questions d.questions (ap (λ (x : Connection Found). x.questions) e)) (names_still c.answers d.answers (ap (λ (x : Connection Found). x.answers) e))
    where
      tables_same : {a b e g : List Found} {h i j k : List Found} → a ≡ h → b ≡ i → e ≡ j → g ≡ k → ◌≡◌ {A = Connection Found} (record { exports = a; imports = b; questions = e; answers = g }) (record { exports = h; imports = i; questions = j; answers = k })
      tables_same l m n o = cc

  pub learnt_still : (gs : List (Learnt Local)) → LearntAre v t gs → LearntAre v z gs
  learnt_still [] h = tt
  learnt_still (g ∷ gs) h = (more_found g.name (Gift g.host g.number) h.0, learnt_still gs h.1)

-- ---- the step

module _ (x : World) (X : Vats) (u : ℕ) (m : Member) (b : Brought) (r : Vat Name) (p : Vat Local) (head : List Event) (ds : List Connected) where
  abbrev n : ℕ
  n = length X.members

  abbrev Y : Vats
  Y = left_by X u head m b p

  abbrev y : World
  y = world_left x u r head ds

  abbrev T : Table
  T = table_of y u r

  module _ (so : StepStands x X u m b r p head ds) where
    abbrev t : Names
    t = names_after u m.names m.vat b.carried b.told p

    abbrev f : Local → Name
    f = name_at_vat X.members u t

    -- vat u has its place on both sides
    there : slice_get y.vats u ≡ Some r
    there = put_there x.vats u r (let e = so.count in let i = so.here in omega arith)

    table : IsTable u T
    table = so.tables u r there

    many : length Y.members ≡ n
    unfolding left_by
    many = length-set X.members u (record { vat = p; learnt = b.learnt; connections = all_written p p.outbox b.connections; names = t })

    fewer : (v : ℕ) → v < length Y.members → v < n
    fewer v i = let e = many in omega arith

    ways_end : (h v : ℕ) (l : Link) → link_at h v x.links ≡ Some l → h < n
    ways_end h v l e = may_end (way_at h v X.ways) refl (subst (λ o. MayMirror o (way_at h v X.ways)) e (at_mirrors h v x.links X.ways so.ways))
      where
        may_end : (o : Option Way) → way_at h v X.ways ≡ o → MayMirror (Some l) o → h < n
        may_end (Some w) i k = (so.due h v w i).0
        may_end None i k = absurd k

    -- what others have in numbers stays
    module _ (v : ℕ) (s : Vat Name) (k : Member) (apart : u ≡ v → ⊥) (h : VatMirrors x X v s k) where
      more : Extends (table_of x v s) (table_of y v s)
      unfolding table_of
      more = record { names = λ i z e. e; mails = λ i z e. e; exports = so.keeps v }

      connections_still : (z : ℕ) → z < n → changed_tables (found v (table_of y v s)) (connection_for z k) ≡ changed_tables Is (connected_at v z y.connections).tables
      connections_still z i = tables_still v (table_of x v s) (table_of y v s) more (connection_for z k) (connected_at v z x.connections).tables (h.connections z i) ∙ ap (λ (c : Connected). changed_tables Is c.tables) (sym (write_other u r.outbox v z ds apart ∙ so.unheard v z apart))

    -- the exporter is a vat that is there
    link_ends : (h v q : ℕ) (a : Name) → slice_get (exports (λ i. i) y.links h v) q ≡ Some a → h < n
    link_ends h v q a e = let l = link_there y.links h v q a e in let o = pushed_there u r.outbox h v x.links l.0 l.1 in ways_end h v o.0 o.1

    -- so do their objects
    other_position : (ms : List Member) (v h q j : ℕ) → slice_get ms h ≡ slice_get X.members h → (u ≡ h → ⊥) → h < n → v < n → (v ≡ h → ⊥) → slice_get (exports (λ i. i) y.links h v) q ≡ Some (Object h j) → far_name ms v h q ≡ Object h j
    other_position ms v h q j as_was apart a c d e =
        let k = there_is X.members h a in
        let s = there_is x.vats h (let i = so.count in omega arith) in
        let mirrors = so.others h s.0 k.0 apart s.1 k.1 in
        let good : IsTable h (table_of y h s.0) = so.tables h s.0 (put_beside x.vats u h r apart ∙ s.1) in
        let same = ap (λ (z : Connection Found). z.exports) (connections_still h s.0 k.0 apart mirrors v c) in
        far_is ms k.0 v h q j (as_was ∙ k.1) (number_at h (table_of y h s.0) good (connection_for v k.0).exports (connected_at h v y.connections).tables.exports q j same (ap (λ xs. slice_get xs q) (so.logged h v (λ f. d (sym f)) a c) ∙ e))

    known_so : t.known ≡ names_in r.known
    known_so = ap (λ (z : Names). z.known) so.named

    mails_so : t.mails ≡ r.mails
    mails_so = ap (λ (z : Names). z.mails) so.named

    own_position : (h q j : ℕ) → exported_at y.links u h q ≡ Some j → far_name X.members u h q ≡ Object h j
    own_position h q j e =
        let k = exported_some y.links u h q j (so.hosts h u) e in
        let ends = link_ends h u q (Object h j) k.1 in
        other_position X.members u h q j refl k.0 ends so.here k.0 k.1

    state_named : maps.vat f p ≡ r
    state_named = named.named u T f (named.name_is y X u r t known_so mails_so own_position) p r so.stands

    names_known : T.names ≡ names_in r.known
    unfolding table_of
    names_known = refl

    conns : ConnectionsMirror u T n (all_written p p.outbox b.connections) (write_all u r.outbox ds) × HoldReferences u n (write_all u r.outbox ds) × (length (all_written p p.outbox b.connections) ≡ n)
    conns = (writings_mirror u n T table r p so.stands names_known so.puts f state_named b.connections ds so.peers so.connections (so.references u so.here)).0

    pushed : WaysMirror (machine.push_all u r.outbox x.links) (numbers.push_all u (frames_of p f p.outbox b.connections) X.ways) × AllDue n (write_all u r.outbox ds) (numbers.push_all u (frames_of p f p.outbox b.connections) X.ways)
    pushed = (writings_mirror u n T table r p so.stands names_known so.puts f state_named b.connections ds so.peers so.connections (so.references u so.here)).1 x.links X.ways so.ways so.due

    abbrev now : Member
    now = record { vat = p; learnt = b.learnt; connections = all_written p p.outbox b.connections; names = t }

    fuel_same : p.fuel ≡ r.fuel
    fuel_same = ap (λ (z : Vat Found). z.fuel) so.stands

    drawn_same : p.drawn ≡ r.drawn
    drawn_same = ap (λ (z : Vat Found). z.drawn) so.stands

    now_stands : StandsFor u T (ready Y p) (readied y r)
    unfolding ready readied left_by
    now_stands = ap (λ (z : Vat Found). record z { outbox = []; happened = [] }) so.stands

    own_number : (v q j : ℕ) → v < n → slice_get (exports (λ i. i) y.links u v) q ≡ Some (Object u j) → (u ≡ v → ⊥) → far_name Y.members v u q ≡ Object u j
    unfolding left_by connection_for
    own_number v q j i e d =
        let same = ap (λ (z : Connection Found). z.exports) (conns.0 v i) in
        far_is (slice_set X.members u now) now v u q j (set_there X.members u now so.here) (number_at u T table (connection_for v now).exports (connected_at u v y.connections).tables.exports q j same (ap (λ xs. slice_get xs q) (so.logged u v d so.here i) ∙ e))

    position : (v h q j : ℕ) → v < n → exported_at y.links v h q ≡ Some j → far_name Y.members v h q ≡ Object h j
    unfolding left_by
    position v h q j i e = by (same_or u u h h)
      where
        k : (v ≡ h → ⊥) × (slice_get (exports (λ i. i) y.links h v) q ≡ Some (Object h j))
        k = exported_some y.links v h q j (so.hosts h v) e

        by : ((u ≡ h) × (u ≡ h)) ⊎ (u ≡ h → u ≡ h → ⊥) → far_name (slice_set X.members u now) v h q ≡ Object h j
        by (inl g) = subst (λ z. far_name (slice_set X.members u now) v z q ≡ Object z j) g.0 (own_number v q j i (subst (λ z. slice_get (exports (λ i. i) y.links z v) q ≡ Some (Object z j)) (sym g.0) k.1) (λ f. k.0 (sym f ∙ g.0)))
        by (inr g) = let apart : u ≡ h → ⊥ = λ f. g f f in other_position (slice_set X.members u now) v h q j (set_other X.members u h now apart) apart (link_ends h v q (Object h j) k.1) i k.0 k.1

    own_mirrors : VatMirrors y Y u r now
    unfolding connection_for
    own_mirrors = record { placed = so.puts.placed; stands = now_stands; known = known_so; mails = mails_so; positions = λ h q j e. position u h q j so.here e; peers = conns.2 ∙ sym many; connections = λ v i. conns.0 v (fewer v i); learnt = so.learnt }

    module _ (v : ℕ) (s : Vat Name) (k : Member) (apart : u ≡ v → ⊥) (within : v < n) (h : VatMirrors x X v s k) where
      with_both : (z : Vat Found) → (a c : ℕ) (d e : List ℕ) → a ≡ c → d ≡ e → ◌≡◌ {A = Vat Found} (record z { fuel = a; drawn = d }) (record z { fuel = c; drawn = e })
      with_both z a c d e i j = ap (λ o. record z { fuel = o; drawn = d }) i ∙ ap (λ o. record z { fuel = c; drawn = o }) j

      still_stands : StandsFor v (table_of y v s) (ready Y k.vat) (readied y s)
      unfolding ready readied left_by
      still_stands = ap (λ (z : Vat Found). record z { fuel = p.fuel; drawn = p.drawn }) (still v (table_of x v s) (table_of y v s) (more v s k apart h) (ready X k.vat) (readied x s) h.stands) ∙ with_both (maps.vat Is (readied x s)) p.fuel r.fuel p.drawn r.drawn fuel_same drawn_same

      other_mirrors : VatMirrors y Y v s k
      other_mirrors = record { placed = h.placed; stands = still_stands; known = h.known; mails = h.mails; positions = λ g q j e. position v g q j within e; peers = h.peers ∙ sym many; connections = λ z i. connections_still v s k apart h z (fewer z i); learnt = learnt_still v (table_of x v s) (table_of y v s) (more v s k apart h) k.learnt h.learnt }

    each_mirrors : (v : ℕ) (s : Vat Name) (k : Member) → slice_get y.vats v ≡ Some s → slice_get Y.members v ≡ Some k → VatMirrors y Y v s k
    unfolding left_by
    each_mirrors v s k e i = by (same_or u u v v)
      where
        by : ((u ≡ v) × (u ≡ v)) ⊎ (u ≡ v → u ≡ v → ⊥) → VatMirrors y Y v s k
        by (inl j) =
            let a : s ≡ r = put_here x.vats u r s (ap (slice_get (put_at u r x.vats)) j.0 ∙ e) in
            let c : k ≡ now = set_same X.members u now k (ap (slice_get (slice_set X.members u now)) j.0 ∙ i) in
            subst (λ z. VatMirrors y Y z s k) j.0 (subst (λ (z : Vat Name). VatMirrors y Y u z k) (sym a) (subst (λ (z : Member). VatMirrors y Y u r z) (sym c) own_mirrors))
        by (inr j) =
            let apart : u ≡ v → ⊥ = λ g. j g g in
            let was = sym (set_other X.members u v now apart) ∙ i in
            other_mirrors v s k apart (slice_get_within X.members v k was) (so.others v s k apart (sym (put_beside x.vats u v r apart) ∙ e) was)

    refer_still : (v : ℕ) → v < n → HoldReferences v n (write_all u r.outbox ds)
    refer_still v i = by (same_or u u v v)
      where
        by : ((u ≡ v) × (u ≡ v)) ⊎ (u ≡ v → u ≡ v → ⊥) → HoldReferences v n (write_all u r.outbox ds)
        by (inl j) = subst (λ z. HoldReferences z n (write_all u r.outbox ds)) j.0 conns.1
        by (inr j) = λ z k. subst (λ (c : Connected). TablesMay refers c.tables) (sym (write_other u r.outbox v z ds (λ g. j g g))) (so.references v i z k)

    lines_so : X.history ++ head ++ numbers.lines_of X.ways u f p.happened ≡ x.history ++ head ++ events_of x.links u r.happened
    lines_so = joined (ap (λ es. es ++ head) so.history) (lines_same x.links X.ways so.ways u f p.happened ∙ ap (λ (z : Vat Name). events_of x.links u z.happened) state_named)
      where
        joined : {a c d e : List Event} → a ≡ c → d ≡ e → a ++ d ≡ c ++ e
        joined i j = cc

    step_mirrors : Mirrors y Y
    unfolding left_by
    step_mirrors = record {
      fuel = fuel_same;
      drawn = drawn_same;
      history = lines_so;
      count = many ∙ so.count ∙ sym (put_length x.vats u r);
      ways = pushed.0;
      ends = λ a c w e. let d = pushed.1 a c w e in let g = many in (rw g d.0, rw g d.1);
      frames = λ a c w e i. (pushed.1 a c w e).2 i;
      references = λ v i. subst (λ k. HoldReferences v k (write_all u r.outbox ds)) (sym many) (refer_still v (fewer v i));
      vats = each_mirrors;
    }

pub steps_mirror : StepsMirror
steps_mirror x X u m b r p head ds so = step_mirrors x X u m b r p head ds so
