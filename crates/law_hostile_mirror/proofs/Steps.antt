-- What a step of an honest vat leaves: the two runs stand for one another again.
use Rattle.std.proofs.Common.{◌≡◌, ℕ, zero, suc, ◌<◌, Bool, true, false, List, [], ◌∷◌, ◌++◌, ◌⊎◌, inl, inr, Option, Some, None, refl, sym, ap, ◌∙◌, subst, length, map, arith, append-nil}
use Rattle.std.specs.Prelude.{slice_get, slice_set, unwrap_or, ◌==◌}
use Rattle.std.proofs.lemmas.Bool.{eq-eqb}
use Rattle.std.proofs.lemmas.List.{length-set}
use Rattle.std.proofs.lemmas.Option.{slice_get_within}
use Rattle.def_machine.specs.Maps as maps
use Rattle.def_machine.specs.State.{Vat, Put}
use Rattle.def_machine.specs.Values.{Name, Object, host_of, Local, Obj, Prom, Far, Mess}
use Rattle.def_run.specs.Connections.{Connection}
use Rattle.def_run.specs.Names.{Names, names_after, name_by}
use Rattle.def_run.specs.Numbers as run
use Rattle.def_run.specs.Numbers.{Way, Vats, Runs, Brought, far_name, name_at_vat, ready, all_written, frames_of, left_by, way_at}
use Rattle.def_run.specs.Vats.{Member, connection_for}
use Rattle.def_run.specs.Wire.{Connected, connected_at, write_all}
use Rattle.def_run.specs.World as world
use Rattle.def_run.specs.World.{Event, World, Goes, put_at, events_of, readied}
use Rattle.def_hostile.specs.Claims.{Claim, is_claimed, is_made}
use Rattle.def_hostile.specs.Hostile as names
use Rattle.def_hostile.specs.Hostile.{Play, Scene, is_hostile, is_empty}
use Rattle.def_hostile.specs.Made.{made_by, with_gifts}
use Rattle.def_hostile.specs.Numbers as numbers
use Rattle.def_hostile.specs.Numbers.{Cast, made_after, puts_of}
use Rattle.def_hostile.specs.Outsiders.{Outsider}
use Rattle.law_fate.specs.Name.Names.{AllOf, names_in}
use Rattle.law_fate.proofs.Name.SameNames.{at_all}
use Rattle.law_machine.specs.Renamed.Stands.{Table, Found, Is, found, StandsFor}
use Rattle.law_machine.proofs.Renamed.Stands.{Extends, still}
use Rattle.law_reference.specs.Reference.Exports.{object_of}
use Rattle.law_frame.specs.Frame.Growing.{IsFront}
use Rattle.law_frame.specs.Frame.OwnFrames.{refers}
use Rattle.law_frame.specs.Frame.Together.{TablesMay, changed_tables}
use Rattle.law_frame.specs.Local.Mirrors.{WaysMirror, HoldReferences}
use Rattle.law_frame.specs.Local.Steps.{world_left}
use Rattle.law_frame.specs.Local.Writing.{ConnectionsMirror, AllDue}
use Rattle.law_frame.proofs.Frame.Grows.{write_grows}
use Rattle.law_frame.proofs.Frame.Places.{same_or}
use Rattle.law_frame.proofs.Local.Named.{named}
use Rattle.law_frame.proofs.Local.Sights.{some_name, some_mail, some_far}
use Rattle.law_frame.proofs.Local.Positions as positions
use Rattle.law_frame.proofs.Local.Positions.{number_at}
use Rattle.law_frame.proofs.Local.Steps.{set_other, set_same, set_there, put_beside, put_here, put_length, tables_still, learnt_still}
use Rattle.law_frame.proofs.Local.Ways.{lines_same}
use Rattle.law_frame.proofs.Local.Writing.{writings_mirror, put_other, after_put}
use Rattle.law_hostile_frame.specs.Mirrors.{HonestMirrors, IsPlain, OutsiderMirrors, SceneMirrors, ActsMirror}
use Rattle.law_hostile_frame.specs.Tables.{had_at, table_in}
use Rattle.law_hostile_frame.proofs.Cuts.{told_alike, lines_joined}
use Rattle.law_hostile_mirror.specs.Gifts.{HaveLinks}
use Rattle.law_hostile_mirror.specs.Steps.{HonestStepStands, HonestStepsMirror}
use Rattle.law_hostile_mirror.proofs.Gifts.{gifts_mirror, still_claimed}

-- the connections of others
pub write_other : (u : ℕ) (qs : List (Put Name)) (a b : ℕ) (ds : List Connected) → (u ≡ a → ⊥) → connected_at a b (write_all u qs ds) ≡ connected_at a b ds
unfolding write_all
write_other u [] a b ds n = refl
write_other u (q ∷ qs) a b ds n = write_other u qs a b (after_put q.note u q.to ds) n ∙ put_other q.note u q.to a b ds (λ e f. n e)

-- ---- positions

object_some : (o : Option Name) (j : ℕ) → object_of o ≡ Some j → (w : ℕ) × (o ≡ Some (Object w j))
unfolding object_of
object_some (Some (Object w i)) j e = let k : i ≡ j = cc in (w, ap (λ x. Some (Object w x)) k)
object_some other j e = cc

pub front_get : {A : Type 0} (xs ys : List A) (k : ℕ) (n : A) → slice_get xs k ≡ Some n → slice_get (xs ++ ys) k ≡ Some n
front_get [] ys k n e = cc
front_get (x ∷ xs) ys zero n e = e
front_get (x ∷ xs) ys (suc k) n e = front_get xs ys k n e

-- what stands at a place stands there in a longer list
object_on : (xs ys : List Name) (p j : ℕ) → IsFront xs ys → object_of (slice_get xs p) ≡ Some j → object_of (slice_get ys p) ≡ Some j
unfolding object_of
object_on xs ys p j f e =
    let o = object_some (slice_get xs p) j e in
    ap object_of (ap (λ zs. slice_get zs p) f.1 ∙ front_get xs f.0 p (Object o.0 j) o.1)

or_none : {a b : Option ℕ} {j : ℕ} (c : Bool) → (a ≡ Some j → b ≡ Some j) → ◌≡◌ {A = Option ℕ} (elim c [ true ↦ None | false ↦ a ]) (Some j) → ◌≡◌ {A = Option ℕ} (elim c [ true ↦ None | false ↦ b ]) (Some j)
or_none true f e = e
or_none false f e = f e

-- where what others exported only grew
had_on : (ds es : List Connected) (v h p j : ℕ) → IsFront (connected_at h v ds).tables.exports (connected_at h v es).tables.exports → had_at ds v h p ≡ Some j → had_at es v h p ≡ Some j
unfolding had_at
had_on ds es v h p j f e = or_none (v == h) (object_on (connected_at h v ds).tables.exports (connected_at h v es).tables.exports p j f) e

-- ---- the names that a member of the run has

got_or : (d n : Name) (o : Option Name) → o ≡ Some n → unwrap_or o d ≡ n
got_or d n (Some m) e = cc
got_or d n None e = cc

module _ (w : World) (ms : List Member) (u : ℕ) (s : Vat Name) (t : Names) (known : t.known ≡ names_in s.known) (mails : t.mails ≡ s.mails)
    (at : (h p j : ℕ) → had_at w.connections u h p ≡ Some j → far_name ms u h p ≡ Object h j) where
  pub name_is : (a : Local) (n : Name) → found u (table_in w u s) a ≡ Is n → name_at_vat ms u t a ≡ n
  unfolding found table_in name_at_vat name_by
  name_is (Obj i) n e = cc
  name_is (Prom k) n e = got_or (Name.Root u) n (slice_get t.known k) (ap (λ xs. slice_get xs k) known ∙ some_name (slice_get (names_in s.known) k) k n e)
  name_is (Mess j) n e = got_or (Name.Sent (record { sender = u; number = j })) n (slice_get t.mails j) (ap (λ xs. slice_get xs j) mails ∙ some_mail (slice_get s.mails j) j n e)
  name_is (Far h p) n e = let i = some_far (had_at w.connections u h p) h p n e in at h p i.0 i.1 ∙ sym i.2

-- ---- a hostile vat's numbers are named alike, whoever the members are

plain_named : (ms ns : List Member) (h : ℕ) (t : Names) (a : Local) → IsPlain t.known a → name_at_vat ms h t a ≡ name_at_vat ns h t a
unfolding name_at_vat name_by
plain_named ms ns h t (Obj i) k = refl
plain_named ms ns h t (Prom j) k = refl
plain_named ms ns h t (Far g p) k = absurd k
plain_named ms ns h t (Mess j) k = absurd k

all_named : (ms ns : List Member) (h : ℕ) (t : Names) (xs : List Local) → AllOf (IsPlain t.known) xs → map (name_at_vat ms h t) xs ≡ map (name_at_vat ns h t) xs
all_named ms ns h t [] k = refl
all_named ms ns h t (x ∷ xs) k = ap (λ y. y ∷ map (name_at_vat ms h t) xs) (plain_named ms ns h t x k.0) ∙ ap (λ ys. name_at_vat ns h t x ∷ ys) (all_named ms ns h t xs k.1)

-- ---- the step

module _ (play : Play) (s : Scene) (c : Cast) (x : World) (X : Vats) (u : ℕ) (m : Member) (b : Brought) (r : Vat Name) (p : Vat Local) (head : List Event) (ds : List Connected) (so : HonestStepStands play s c x X u m b r p head ds) where
  abbrev n : ℕ
  n = length X.members

  abbrev Y : Vats
  Y = left_by X u head m b p

  abbrev y : World
  y = world_left x u r head ds

  abbrev T : Table
  T = table_in y u r

  abbrev t : Names
  t = names_after u m.names m.vat b.carried b.told p

  abbrev f : Local → Name
  f = name_at_vat X.members u t

  abbrev now : Member
  now = record { vat = p; learnt = b.learnt; connections = all_written p p.outbox b.connections; names = t }

  many : length Y.members ≡ n
  unfolding left_by
  many = length-set X.members u now

  fewer : (v : ℕ) → v < length Y.members → v < n
  fewer v i = let e = many in omega arith

  -- what others have exported stays, and what the vat has exported grows
  unexported : (h v : ℕ) → (u ≡ h → ⊥) → connected_at h v y.connections ≡ connected_at h v x.connections
  unexported h v apart = write_other u r.outbox h v ds apart ∙ so.unheard h v apart

  same_front : {A : Type 0} (xs ys : List A) → ys ≡ xs → IsFront xs ys
  same_front xs ys e = ([], e ∙ sym (append-nil xs))

  grown : (h v : ℕ) → IsFront (connected_at h v x.connections).tables.exports (connected_at h v y.connections).tables.exports
  grown h v = by (same_or u u h h)
    where
      own : IsFront (connected_at u v x.connections).tables.exports (connected_at u v y.connections).tables.exports
      own = subst (λ xs. IsFront xs (connected_at u v y.connections).tables.exports) (so.heard v) (write_grows u r.outbox u v ds).tables.exports

      by : ((u ≡ h) × (u ≡ h)) ⊎ (u ≡ h → u ≡ h → ⊥) → IsFront (connected_at h v x.connections).tables.exports (connected_at h v y.connections).tables.exports
      by (inl e) = subst (λ z. IsFront (connected_at z v x.connections).tables.exports (connected_at z v y.connections).tables.exports) e.0 own
      by (inr e) = same_front (connected_at h v x.connections).tables.exports (connected_at h v y.connections).tables.exports (ap (λ (d : Connected). d.tables.exports) (unexported h v (λ g. e g g)))

  had_before : (v h q j : ℕ) → (u ≡ h → ⊥) → had_at y.connections v h q ≡ Some j → had_at x.connections v h q ≡ Some j
  unfolding had_at
  had_before v h q j apart e = ap (λ (d : Connected). elim_or (v == h) (object_of (slice_get d.tables.exports q))) (sym (unexported h v apart)) ∙ e
    where
      elim_or : Bool → Option ℕ → Option ℕ
      elim_or a o = elim a [ true ↦ None | false ↦ o ]

  none_own : (h q j : ℕ) → had_at y.connections u h q ≡ Some j → u ≡ h → ⊥
  unfolding had_at
  none_own h q j e i = by (u == h) (eq-eqb u h i) e
    where
      by : (a : Bool) → a ≡ true → ◌≡◌ {A = Option ℕ} (elim a [ true ↦ None | false ↦ object_of (slice_get (connected_at h u y.connections).tables.exports q) ]) (Some j) → ⊥
      by true k l = cc
      by false k l = cc

  known_so : t.known ≡ names_in r.known
  known_so = ap (λ (z : Names). z.known) so.named

  mails_so : t.mails ≡ r.mails
  mails_so = ap (λ (z : Names). z.mails) so.named

  own_position : (h q j : ℕ) → had_at y.connections u h q ≡ Some j → far_name X.members u h q ≡ Object h j
  own_position h q j e = so.positions h q j (had_before u h q j (none_own h q j e) e)

  state_named : maps.vat f p ≡ r
  state_named = named u T f (name_is y X.members u r t known_so mails_so own_position) p r so.stands

  names_known : T.names ≡ names_in r.known
  unfolding table_in
  names_known = refl

  conns : ConnectionsMirror u T n (all_written p p.outbox b.connections) (write_all u r.outbox ds) × HoldReferences u n (write_all u r.outbox ds) × (length (all_written p p.outbox b.connections) ≡ n)
  conns = (writings_mirror u n T so.table r p so.stands names_known so.puts f state_named b.connections ds so.peers so.connections (so.references u so.here)).0

  pushed : WaysMirror (world.push_all u r.outbox x.links) (run.push_all u (frames_of p f p.outbox b.connections) X.ways) × AllDue n (write_all u r.outbox ds) (run.push_all u (frames_of p f p.outbox b.connections) X.ways)
  pushed = (writings_mirror u n T so.table r p so.stands names_known so.puts f state_named b.connections ds so.peers so.connections (so.references u so.here)).1 x.links X.ways so.ways so.due

  fuel_same : p.fuel ≡ r.fuel
  fuel_same = ap (λ (z : Vat Found). z.fuel) so.stands

  drawn_same : p.drawn ≡ r.drawn
  drawn_same = ap (λ (z : Vat Found). z.drawn) so.stands

  now_stands : StandsFor u T (ready Y p) (readied y r)
  unfolding ready readied left_by
  now_stands = ap (λ (z : Vat Found). record z { outbox = []; happened = [] }) so.stands

  -- ---- positions

  own_number : (v q j : ℕ) → v < n → slice_get (connected_at u v y.connections).tables.exports q ≡ Some (Object u j) → far_name Y.members v u q ≡ Object u j
  unfolding left_by connection_for
  own_number v q j i e =
      let same = ap (λ (z : Connection Found). z.exports) (conns.0 v i) in
      positions.far_is (slice_set X.members u now) now v u q j (set_there X.members u now so.here) (number_at u T so.table (connection_for v now).exports (connected_at u v y.connections).tables.exports q j same e)

  other_named : (v h q : ℕ) → (u ≡ h → ⊥) → far_name Y.members v h q ≡ far_name X.members v h q
  unfolding left_by far_name run.exported
  other_named v h q apart = ap (λ (o : Option Member). run.object_at h q (elim o [ Some k ↦ slice_get (connection_for v k).exports q | None ↦ None ])) (set_other X.members u h now apart)

  -- the number of an object among what its host has exported
  had_some : (v h q j : ℕ) → had_at y.connections v h q ≡ Some j → (w : ℕ) × (slice_get (connected_at h v y.connections).tables.exports q ≡ Some (Object w j))
  unfolding had_at
  had_some v h q j e = by (v == h) e
    where
      by : (a : Bool) → ◌≡◌ {A = Option ℕ} (elim a [ true ↦ None | false ↦ object_of (slice_get (connected_at h v y.connections).tables.exports q) ]) (Some j) → (w : ℕ) × (slice_get (connected_at h v y.connections).tables.exports q ≡ Some (Object w j))
      by true k = cc
      by false k = object_some (slice_get (connected_at h v y.connections).tables.exports q) j k

  own_object : (v q j : ℕ) → had_at y.connections v u q ≡ Some j → slice_get (connected_at u v y.connections).tables.exports q ≡ Some (Object u j)
  unfolding host_of
  own_object v q j e =
      let o = had_some v u q j e in
      let w : o.0 ≡ u = at_all (λ n. host_of n ≡ u) (connected_at u v y.connections).tables.exports q (Object o.0 j) (so.hosts v) o.1 in
      o.1 ∙ ap (λ z. Some (Object z j)) w

  position : (v h q j : ℕ) → v < n → ((g i k : ℕ) → had_at x.connections v g i ≡ Some k → far_name X.members v g i ≡ Object g k) → had_at y.connections v h q ≡ Some j → far_name Y.members v h q ≡ Object h j
  position v h q j i was e = by (same_or u u h h)
    where
      by : ((u ≡ h) × (u ≡ h)) ⊎ (u ≡ h → u ≡ h → ⊥) → far_name Y.members v h q ≡ Object h j
      by (inl g) = subst (λ z. far_name Y.members v z q ≡ Object z j) g.0 (own_number v q j i (own_object v q j (subst (λ z. had_at y.connections v z q ≡ Some j) (sym g.0) e)))
      by (inr g) = let apart : u ≡ h → ⊥ = λ k. g k k in other_named v h q apart ∙ was h q j (had_before v h q j apart e)

  -- ---- vats

  own_mirrors : HonestMirrors play y Y u r now
  unfolding connection_for left_by
  own_mirrors = record {
    vat = record {
      placed = so.puts.placed;
      stands = now_stands;
      known = known_so;
      mails = mails_so;
      positions = λ h q j e. position u h q j so.here so.positions e;
      peers = conns.2 ∙ sym many;
      connections = λ v i. conns.0 v (fewer v i);
      learnt = so.learnt;
    };
    knows = so.knows;
  }

  -- what others have in numbers stays
  module _ (v : ℕ) (z : Vat Name) (k : Member) (apart : u ≡ v → ⊥) (within : v < n) where
    more : Extends (table_in x v z) (table_in y v z)
    unfolding table_in
    more = record { names = λ i a e. e; mails = λ i a e. e; exports = λ h q j e. had_on x.connections y.connections v h q j (grown h v) e }

    with_both : (a : Vat Found) → (g h : ℕ) (d e : List ℕ) → g ≡ h → d ≡ e → ◌≡◌ {A = Vat Found} (record a { fuel = g; drawn = d }) (record a { fuel = h; drawn = e })
    with_both a g h d e i j = ap (λ o. record a { fuel = o; drawn = d }) i ∙ ap (λ o. record a { fuel = h; drawn = o }) j

    module _ (h : HonestMirrors play x X v z k) where
      still_stands : StandsFor v (table_in y v z) (ready Y k.vat) (readied y z)
      unfolding ready readied left_by
      still_stands = ap (λ (a : Vat Found). record a { fuel = p.fuel; drawn = p.drawn }) (still v (table_in x v z) (table_in y v z) more (ready X k.vat) (readied x z) h.vat.stands) ∙ with_both (maps.vat Is (readied x z)) p.fuel r.fuel p.drawn r.drawn fuel_same drawn_same

      connections_still : (a : ℕ) → a < n → changed_tables (found v (table_in y v z)) (connection_for a k) ≡ changed_tables Is (connected_at v a y.connections).tables
      connections_still a i = tables_still v (table_in x v z) (table_in y v z) more (connection_for a k) (connected_at v a x.connections).tables (h.vat.connections a i) ∙ ap (λ (d : Connected). changed_tables Is d.tables) (sym (unexported v a apart))

      other_mirrors : HonestMirrors play y Y v z k
      other_mirrors = record {
        vat = record {
          placed = h.vat.placed;
          stands = still_stands;
          known = h.vat.known;
          mails = h.vat.mails;
          positions = λ g q j e. position v g q j within h.vat.positions e;
          peers = h.vat.peers ∙ sym many;
          connections = λ a i. connections_still a (fewer a i);
          learnt = learnt_still v (table_in x v z) (table_in y v z) more k.learnt h.vat.learnt;
        };
        knows = h.knows;
      }

    outsider_mirrors : (o : Outsider) → OutsiderMirrors x X play v z o k → OutsiderMirrors y Y play v z o k
    outsider_mirrors o h = record {
      objects = h.objects;
      promises = h.promises;
      messages = h.messages;
      exports = λ a i. all_named Y.members X.members v k.names (connection_for a k).exports (h.plain a (fewer a i)) ∙ h.exports a (fewer a i) ∙ ap (λ (d : Connected). d.tables.exports) (sym (unexported v a apart));
      plain = λ a i. h.plain a (fewer a i);
      peers = h.peers ∙ sym many;
      idle = h.idle;
      empty = h.empty;
    }

  was_there : (v : ℕ) (z : Vat Name) → (u ≡ v → ⊥) → slice_get y.vats v ≡ Some z → slice_get x.vats v ≡ Some z
  was_there v z apart e = sym (put_beside x.vats u v r apart) ∙ e

  was_member : (v : ℕ) (k : Member) → (u ≡ v → ⊥) → slice_get Y.members v ≡ Some k → slice_get X.members v ≡ Some k
  unfolding left_by
  was_member v k apart e = sym (set_other X.members u v now apart) ∙ e

  each_honest : (v : ℕ) (z : Vat Name) (k : Member) → is_hostile play v ≡ false → slice_get y.vats v ≡ Some z → slice_get Y.members v ≡ Some k → HonestMirrors play y Y v z k
  unfolding left_by
  each_honest v z k honest e i = by (same_or u u v v)
    where
      by : ((u ≡ v) × (u ≡ v)) ⊎ (u ≡ v → u ≡ v → ⊥) → HonestMirrors play y Y v z k
      by (inl j) =
          let a : z ≡ r = put_here x.vats u r z (ap (slice_get (put_at u r x.vats)) j.0 ∙ e) in
          let d : k ≡ now = set_same X.members u now k (ap (slice_get (slice_set X.members u now)) j.0 ∙ i) in
          subst (λ g. HonestMirrors play y Y g z k) j.0 (subst (λ (g : Vat Name). HonestMirrors play y Y u g k) (sym a) (subst (λ (g : Member). HonestMirrors play y Y u r g) (sym d) own_mirrors))
      by (inr j) =
          let apart : u ≡ v → ⊥ = λ g. j g g in
          let was = was_member v k apart i in
          other_mirrors v z k apart (slice_get_within X.members v k was) (so.others v z k apart honest (was_there v z apart e) was)

  not_own : (v : ℕ) → is_hostile play v ≡ true → u ≡ v → ⊥
  not_own v e i = clash (is_hostile play u) (ap (is_hostile play) i ∙ e) so.own
    where
      clash : (b : Bool) → b ≡ true → b ≡ false → ⊥
      clash b j k = cc

  each_hostile : (v : ℕ) (z : Vat Name) (o : Outsider) (g : Member) → is_hostile play v ≡ true → slice_get y.vats v ≡ Some z → slice_get c.outsiders v ≡ Some o → slice_get Y.members v ≡ Some g → OutsiderMirrors y Y play v z o g
  each_hostile v z o g bad e i j =
      let apart = not_own v bad in
      let was = was_member v g apart j in
      outsider_mirrors v z g apart (slice_get_within X.members v g was) o (so.hostile v z o g bad (was_there v z apart e) i was)

  -- ---- the rest

  refer_still : (v : ℕ) → v < n → HoldReferences v n (write_all u r.outbox ds)
  refer_still v i = by (same_or u u v v)
    where
      by : ((u ≡ v) × (u ≡ v)) ⊎ (u ≡ v → u ≡ v → ⊥) → HoldReferences v n (write_all u r.outbox ds)
      by (inl j) = subst (λ z. HoldReferences z n (write_all u r.outbox ds)) j.0 conns.1
      by (inr j) = λ z k. subst (λ (d : Connected). TablesMay refers d.tables) (sym (write_other u r.outbox v z ds (λ g. j g g))) (so.references v i z k)

  history_so : Y.history ≡ y.history
  unfolding left_by
  history_so = joined (ap (λ es. es ++ head) so.history) (lines_same x.links X.ways so.ways u f p.happened ∙ ap (λ (z : Vat Name). events_of x.links u z.happened) state_named)
    where
      joined : {a d e g : List Event} → a ≡ d → e ≡ g → a ++ e ≡ d ++ g
      joined i j = cc

  outbox_named : map (maps.put f) p.outbox ≡ r.outbox
  outbox_named = ap (λ (z : Vat Name). z.outbox) state_named

  abbrev gifts : List Claim
  gifts = with_gifts (made_by p.outbox) c.made

  made_so : ((h i : ℕ) → is_claimed gifts h i ≡ is_made play.hostile h i y.links) × AllOf (λ (g : Claim). is_claimed gifts g.host g.number ≡ true) (made_by p.outbox)
  unfolding is_hostile
  made_so =
      let both = gifts_mirror play.hostile u f p.outbox x.links c.made so.own (subst (λ qs. HaveLinks u x.links qs) (sym outbox_named) so.links) so.made in
      (λ h i. both.0 h i ∙ ap (λ qs. is_made play.hostile h i (world.push_all u qs x.links)) outbox_named, both.1)

  all_still : (gs : List Claim) → AllOf (λ (g : Claim). is_claimed c.made g.host g.number ≡ true) gs → AllOf (λ (g : Claim). is_claimed gifts g.host g.number ≡ true) gs
  all_still [] a = tt
  all_still (g ∷ gs) a = (still_claimed (made_by p.outbox) c.made g.host g.number a.0, all_still gs a.1)

  made_is : made_after u Y c.made ≡ gifts
  unfolding made_after puts_of left_by
  made_is = ap (λ o. with_gifts (puts_of o) c.made) (set_there X.members u now so.here)

  puts_so : (v : ℕ) (k : Member) → slice_get Y.members v ≡ Some k → AllOf (λ (g : Claim). is_claimed gifts g.host g.number ≡ true) (made_by k.vat.outbox)
  unfolding left_by
  puts_so v k i = by (same_or u u v v)
    where
      by : ((u ≡ v) × (u ≡ v)) ⊎ (u ≡ v → u ≡ v → ⊥) → AllOf (λ (g : Claim). is_claimed gifts g.host g.number ≡ true) (made_by k.vat.outbox)
      by (inl j) = let d : k ≡ now = set_same X.members u now k (ap (slice_get (slice_set X.members u now)) j.0 ∙ i) in subst (λ (g : Member). AllOf (λ (a : Claim). is_claimed gifts a.host a.number ≡ true) (made_by g.vat.outbox)) (sym d) made_so.1
      by (inr j) = all_still (made_by k.vat.outbox) (so.earlier v k (was_member v k (λ g. j g g) i))

  -- with these lines and gifts
  left_so : (ls ks : List names.Line) (gs : List Claim) → ks ≡ ls → gs ≡ gifts → SceneMirrors play (record s { world = y; lines = ls }) (record c { vats = Y; made = gs; lines = ks })
  unfolding left_by
  left_so ls ks gs e g = record {
    fuel = fuel_same;
    drawn = drawn_same;
    history = history_so;
    lines = e;
    raws = so.raws;
    claims = so.claims;
    made = λ h i. ap (λ xs. is_claimed xs h i) g ∙ made_so.0 h i;
    puts = λ v k i. subst (λ xs. AllOf (λ (a : Claim). is_claimed xs a.host a.number ≡ true) (made_by k.vat.outbox)) (sym g) (puts_so v k i);
    count = many ∙ so.count ∙ sym (put_length x.vats u r);
    outsiders = so.outsiders ∙ sym (put_length x.vats u r);
    ways = pushed.0;
    ends = λ a d w e. let k = pushed.1 a d w e in let g = many in (rw g k.0, rw g k.1);
    frames = λ a d w e i. (pushed.1 a d w e).2 i;
    references = λ v i. subst (λ k. HoldReferences v k (write_all u r.outbox ds)) (sym many) (refer_still v (fewer v i));
    honest = each_honest;
    hostile = each_hostile;
  }

  step_mirrors : (k : ℕ) → ActsMirror play (names.acted k s [] (Goes y)) (numbers.acted k u c (Runs Y))
  unfolding names.acted numbers.acted
  step_mirrors k = left_so (s.lines ++ [] ++ names.told_since s.world y) (c.lines ++ numbers.told_since c.vats Y) (made_after u Y c.made)
      (lines_joined (so.lines ∙ sym (append-nil s.lines)) (told_alike s.world y c.vats Y so.before history_so)) made_is

pub honest_steps_mirror : HonestStepsMirror
honest_steps_mirror play k s c x X u m b r p head ds so = step_mirrors play s c x X u m b r p head ds so k
