-- The two runs at the start, where some vats are hostile.
use Rattle.std.proofs.Common.{◌≡◌, ℕ, zero, suc, Bool, true, false, List, [], ◌∷◌, ◌++◌, Some, refl, sym, ap, ◌∙◌, subst, length, map}
use Rattle.std.specs.Prelude.{slice_get, get_or, is_some, Option, None, ◌==◌}
use Rattle.std.proofs.lemmas.List.{length-map}
use Rattle.def_machine.specs.Values.{Name, Root, Gift, Local, Prom, same_name}
use Rattle.def_machine.specs.State.{Vat, begun, is_in}
use Rattle.def_run.specs.Connections.{Connection, learnt_at}
use Rattle.def_run.specs.Numbers as run
use Rattle.def_run.specs.Numbers.{Way, Vats, name_at_vat, link_of, left_member}
use Rattle.def_run.specs.Names.{Names}
use Rattle.def_run.specs.Vats.{Member, connection_for, unconnected}
use Rattle.def_run.specs.Wire as wire
use Rattle.def_run.specs.Wire.{Connected, connected_at, connects, is_object}
use Rattle.def_run.specs.World as world
use Rattle.def_run.specs.World.{Script, Program, Link, World, has_name, left_vat}
use Rattle.def_hostile.specs.Claims.{Claim, is_claimed, is_made, made_on, made_in}
use Rattle.def_hostile.specs.Hostile as names
use Rattle.def_hostile.specs.Hostile.{Play, Raw, is_hostile, raw_of}
use Rattle.def_hostile.specs.Made.{made_by}
use Rattle.def_hostile.specs.Numbers as numbers
use Rattle.def_hostile.specs.Outsiders.{Outsider, nobody, starting}
use Rattle.law_fate.specs.Name.Names.{AllOf, names_in}
use Rattle.law_fate.proofs.Name.SameNames.{at_all}
use Rattle.law_reference.specs.Reference.Exports.{exported_at, object_of}
use Rattle.law_reference.specs.Reference.Logs.{exports, exports_after, questions, log_of, roots_of}
use Rattle.law_reference.specs.Reference.Tables.{table_of}
use Rattle.law_machine.specs.Renamed.Stands.{Found}
use Rattle.law_machine.proofs.Renamed.Stands.{Extends, still}
use Rattle.law_frame.specs.Local.Mirrors as mirrors
use Rattle.law_frame.specs.Local.Mirrors.{Mirrors, WaysMirror}
use Rattle.law_frame.proofs.Local.Steps.{tables_still, learnt_still}
use Rattle.law_frame.proofs.Local.Named.{name_is}
use Rattle.law_frame.proofs.Local.Starts.{start_mirrors, vats_count}
use Rattle.law_hostile_frame.specs.Mirrors.{IsPlain, VatMirrors, HonestMirrors, OutsiderMirrors, SceneMirrors}
use Rattle.law_hostile_frame.specs.Tables.{had_at, table_in}
use Rattle.law_hostile_frame.specs.Steps.{StartsMirror}
use Rattle.law_hostile_frame.proofs.Counts.{named_all}

by_bool : (P : Bool → Type 0) → P true → P false → (b : Bool) → P b
by_bool P x y true = x
by_bool P x y false = y

all_join : {A : Type 0} (P : A → Type 0) (xs ys : List A) → AllOf P xs → AllOf P ys → AllOf P (xs ++ ys)
all_join P [] ys h k = k
all_join P (x ∷ xs) ys h k = (h.0, all_join P xs ys h.1 k)

-- ---- raw frames

module _ (play : Play) where
  raws_same : (ls : List Link) (xs : List Way) → WaysMirror ls xs → map (λ x. raw_of play (link_of x)) xs ≡ map (raw_of play) ls
  unfolding raw_of link_of
  raws_same [] [] h = refl
  raws_same (l ∷ ls) (x ∷ xs) h = ap (λ (v : ℕ). record { from = v; to = x.to; frames = [] } ∷ map (λ y. raw_of play (link_of y)) xs) h.0.from ∙ ap (λ (u : ℕ). record { from = l.from; to = u; frames = [] } ∷ map (λ y. raw_of play (link_of y)) xs) h.0.to ∙ ap (λ rs. raw_of play l ∷ rs) (raws_same ls xs h.1)
  raws_same [] (x ∷ xs) h = absurd h
  raws_same (l ∷ ls) [] h = absurd h

-- ---- no gift was made

abbrev IsEmptyLink : Link → Type 0
IsEmptyLink l = l.log ≡ []

to_empty : (v u : ℕ) (ps : List Program) → AllOf IsEmptyLink (world.links_to v u ps)
unfolding world.links_to
to_empty v u [] = tt
to_empty v u (p ∷ ps) =
    let rest = to_empty v (suc u) ps in
    by_bool (λ b. AllOf IsEmptyLink (elim b [ true ↦ world.links_to v (suc u) ps | false ↦ record { from = v; to = u; cut = false; notes = []; roots = world.roots_for v p; log = [] } ∷ world.links_to v (suc u) ps ])) rest (refl, rest) (v == u)

from_empty : (all : List Program) (v : ℕ) (ps : List Program) → AllOf IsEmptyLink (world.links_from all v ps)
unfolding world.links_from
from_empty all v [] = tt
from_empty all v (p ∷ ps) = all_join IsEmptyLink (world.links_to v zero all) (world.links_from all (suc v) ps) (to_empty v zero all) (from_empty all (suc v) ps)

none_on : (h i : ℕ) (b : Bool) (l : Link) → IsEmptyLink l → made_on h i b l ≡ false
unfolding made_on made_in
none_on h i true l e = refl
none_on h i false l e = ap (made_in h i l.to) e

abbrev made_then : Bool → Bool → Bool
made_then b x = elim b [ true ↦ true | false ↦ x ]

none_made : (hs : List ℕ) (h i : ℕ) (ls : List Link) → AllOf IsEmptyLink ls → is_made hs h i ls ≡ false
unfolding is_made
none_made hs h i [] a = refl
none_made hs h i (l ∷ ls) a = ap (λ b. made_then b (is_made hs h i ls)) (none_on h i (is_in l.from hs) l a.0) ∙ none_made hs h i ls a.1

-- ---- fresh vats

no_gift : (h i : ℕ) (ws : List ℕ) → has_name (names_in (map world.known_root ws)) (Gift h i) ≡ false
unfolding has_name same_name world.known_root begun
no_gift h i [] = refl
no_gift h i (w ∷ ws) = no_gift h i ws

-- ---- what is exported at the start

-- a link on which nothing was put, and whose roots are no objects
abbrev RootsAlone : Link → Type 0
RootsAlone l = IsEmptyLink l × ((p : ℕ) → object_of (slice_get l.roots p) ≡ None)

no_object : (v : ℕ) (p : Program) (k : ℕ) → object_of (slice_get (world.roots_for v p) k) ≡ None
unfolding world.roots_for object_of
no_object v p k = by (is_in v p.knows) k
  where
    by : (b : Bool) (i : ℕ) → object_of (slice_get (elim b [ true ↦ Root v ∷ [] | false ↦ [] ]) i) ≡ None
    by true zero = refl
    by true (suc i) = refl
    by false i = refl

to_alone : (v u : ℕ) (ps : List Program) → AllOf RootsAlone (world.links_to v u ps)
unfolding world.links_to
to_alone v u [] = tt
to_alone v u (p ∷ ps) =
    let rest = to_alone v (suc u) ps in
    by_bool (λ b. AllOf RootsAlone (elim b [ true ↦ world.links_to v (suc u) ps | false ↦ record { from = v; to = u; cut = false; notes = []; roots = world.roots_for v p; log = [] } ∷ world.links_to v (suc u) ps ])) rest ((refl, no_object v p), rest) (v == u)

roots_alone : (all : List Program) (v : ℕ) (ps : List Program) → AllOf RootsAlone (world.links_from all v ps)
unfolding world.links_from
roots_alone all v [] = tt
roots_alone all v (p ∷ ps) = all_join RootsAlone (world.links_to v zero all) (world.links_from all (suc v) ps) (to_alone v zero all) (roots_alone all (suc v) ps)

abbrev NothingPut : Option Link → Type 0
NothingPut o = (log_of o ≡ []) × ((p : ℕ) → object_of (slice_get (roots_of o) p) ≡ None)

at_alone : (v u : ℕ) (ls : List Link) → AllOf RootsAlone ls → NothingPut (world.link_at v u ls)
unfolding world.link_at log_of roots_of object_of
at_alone v u [] h = (refl, λ p. refl)
at_alone v u (l ∷ ls) h = by_bool (λ b. NothingPut (elim b [ true ↦ Some l | false ↦ world.link_at v u ls ])) h.0 (at_alone v u ls h.1) (world.is_link v u l)

none_or : (b : Bool) (o : Option ℕ) (j : ℕ) → o ≡ None → ◌≡◌ {A = Option ℕ} (elim b [ true ↦ None | false ↦ o ]) (Some j) → ⊥
none_or true o j e i = cc
none_or false o j e i = cc

none_exported : (ls : List Link) → AllOf RootsAlone ls → (u h p j : ℕ) → exported_at ls u h p ≡ Some j → ⊥
unfolding exported_at exports exports_after
none_exported ls a u h p j e =
    let f : NothingPut (world.link_at h u ls) = at_alone h u ls a in
    none_or (u == h) (object_of (slice_get (exports_after h (questions (λ i. i) ls u h) (log_of (world.link_at h u ls)) (roots_of (world.link_at h u ls))) p)) j
    (ap (λ ns. object_of (slice_get (exports_after h (questions (λ i. i) ls u h) ns (roots_of (world.link_at h u ls))) p)) f.0 ∙ f.1 p) e

-- a connection on which no object was exported
abbrev Bare : Connected → Type 0
Bare c = (p : ℕ) → object_of (slice_get c.tables.exports p) ≡ None

to_bare : (v : ℕ) (p : Program) (w : ℕ) (qs : List Program) → AllOf Bare (world.connections_to v p w qs)
unfolding world.connections_to world.first_connection
to_bare v p w [] = tt
to_bare v p w (q ∷ qs) =
    let rest = to_bare v p (suc w) qs in
    by_bool (λ b. AllOf Bare (elim b [ true ↦ world.connections_to v p (suc w) qs | false ↦ world.first_connection v w p q ∷ world.connections_to v p (suc w) qs ])) rest (no_object v q, rest) (v == w)

connections_bare : (all : List Program) (v : ℕ) (ps : List Program) → AllOf Bare (world.connections_from all v ps)
unfolding world.connections_from
connections_bare all v [] = tt
connections_bare all v (p ∷ ps) = all_join Bare (world.connections_to v p zero all) (world.connections_from all (suc v) ps) (to_bare v p zero all) (connections_bare all (suc v) ps)

at_bare : (v u : ℕ) (cs : List Connected) → AllOf Bare cs → Bare (connected_at v u cs)
unfolding connected_at wire.unconnected object_of
at_bare v u [] h = λ p. refl
at_bare v u (c ∷ cs) h = by_bool (λ b. Bare (elim b [ true ↦ c | false ↦ connected_at v u cs ])) h.0 (at_bare v u cs h.1) (connects v u c)

none_had : (cs : List Connected) → AllOf Bare cs → (u h p j : ℕ) → had_at cs u h p ≡ Some j → ⊥
unfolding had_at
none_had cs a u h p j e = none_or (u == h) (object_of (slice_get (connected_at h u cs).tables.exports p)) j (at_bare h u cs a p) e

-- a number that is exported at the start is that of the root
plain_if : (v : ℕ) (ns : List Name) → slice_get ns zero ≡ Some (Root v) → (b : Bool) → AllOf (IsPlain ns) (elim b [ true ↦ Prom zero ∷ [] | false ↦ [] ])
unfolding is_object
plain_if v ns e true = ((Root v, e, refl), tt)
plain_if v ns e false = tt

all_plain : (u : ℕ) (p : Program) (v : ℕ) (qs : List Program) (ns : List Name) → slice_get ns zero ≡ Some (Root u) → AllOf (λ (c : Connection Local). AllOf (IsPlain ns) c.exports) (run.connections_from u p v qs)
unfolding run.connections_from run.first_connection unconnected
all_plain u p v [] ns e = tt
all_plain u p v (q ∷ qs) ns e =
    (by_bool (λ b. AllOf (IsPlain ns) (either b (run.first_connection u v p q)).exports) tt (plain_if u ns e (is_in u q.knows)) (u == v), all_plain u p (suc v) qs ns e)
  where
    either : Bool → Connection Local → Connection Local
    either b c = elim b [ true ↦ unconnected | false ↦ c ]

plain_got : (ns : List Name) (cs : List (Connection Local)) → AllOf (λ (c : Connection Local). AllOf (IsPlain ns) c.exports) cs → (u : ℕ) → AllOf (IsPlain ns) (get_or cs u unconnected).exports
unfolding unconnected
plain_got ns [] h u = tt
plain_got ns (c ∷ cs) h zero = h.0
plain_got ns (c ∷ cs) h (suc u) = plain_got ns cs h.1 u

-- what is asked of a state in names, and of a member
pub record FreshState (script : Script) (s : Vat Name) : Type 0 where
  pub gifts : (h i : ℕ) → has_name (names_in s.known) (Gift h i) ≡ false
  pub things : s.things ≡ []
  pub promises : s.promises ≡ zero
  pub messages : s.messages ≡ zero
  pub left : left_vat script s ≡ []

pub record FreshMember (script : Script) (m : Member) : Type 0 where
  pub learnt : m.learnt ≡ []
  pub outbox : m.vat.outbox ≡ []
  pub plain : (u : ℕ) → AllOf (IsPlain m.names.known) (connection_for u m).exports
  pub left : (ms : List Member) (u : ℕ) (t : Names) → left_member script ms u (record m { names = t }) ≡ []

module _ (script : Script) where
  none_held : (v : ℕ) (ws : List ℕ) → world.left_held script v (map world.known_root ws) ≡ []
  unfolding world.left_held world.known_root begun
  none_held v [] = refl
  none_held v (w ∷ ws) = none_held v ws

  none_waits : (v : ℕ) (ws : List ℕ) → world.left_wait script v (map world.known_root ws) ≡ []
  unfolding world.left_wait world.known_root begun
  none_waits v [] = refl
  none_waits v (w ∷ ws) = none_waits v ws

  fresh_state : (v : ℕ) (p : Program) → FreshState script (world.fresh script v p)
  unfolding world.fresh has_name same_name world.known_root begun left_vat world.left_held world.left_wait
  fresh_state v p = record { gifts = λ h i. no_gift h i p.knows; things = refl; promises = refl; messages = refl; left = ap (λ es. es ++ world.left_wait script v (map world.known_root p.knows)) (none_held v p.knows) ∙ none_waits v p.knows }

  states_fresh : (v : ℕ) (ps : List Program) → AllOf (FreshState script) (world.fresh_from script v ps)
  unfolding world.fresh_from
  states_fresh v [] = tt
  states_fresh v (p ∷ ps) = (fresh_state v p, states_fresh (suc v) ps)

  none_held_here : (u k : ℕ) (f : Local → Name) (ws : List ℕ) → run.left_held script u f (run.roots_known k ws) ≡ []
  unfolding run.left_held run.roots_known begun
  none_held_here u k f [] = refl
  none_held_here u k f (w ∷ ws) = none_held_here u (suc k) f ws

  none_waits_here : (u k : ℕ) (f : Local → Name) (ws : List ℕ) → run.left_wait script u f (run.roots_known k ws) ≡ []
  unfolding run.left_wait run.roots_known begun
  none_waits_here u k f [] = refl
  none_waits_here u k f (w ∷ ws) = none_waits_here u (suc k) f ws

  fresh_member : (v : ℕ) (p : Program) → FreshMember script (run.fresh_member script v p)
  unfolding run.fresh_member run.fresh_vat left_member run.left_held run.left_wait begun connection_for
  fresh_member v p = record {
    learnt = refl;
    outbox = refl;
    plain = λ u. plain_got (Root v ∷ map Root p.knows) (run.connections_from v p zero script.vats) (all_plain v p zero script.vats (Root v ∷ map Root p.knows) refl) u;
    left = λ ms u t.
        let f : Local → Name = name_at_vat ms u t in
        ap (λ es. es ++ run.left_wait script u f (run.roots_known 1 p.knows)) (none_held_here u 1 f p.knows) ∙ none_waits_here u 1 f p.knows;
  }

  members_fresh : (v : ℕ) (ps : List Program) → AllOf (FreshMember script) (run.fresh_from script v ps)
  unfolding run.fresh_from
  members_fresh v [] = tt
  members_fresh v (p ∷ ps) = (fresh_member v p, members_fresh (suc v) ps)

nobody_yet : (ps : List Program) → AllOf (λ o. o ≡ nobody) (starting ps)
unfolding starting
nobody_yet [] = tt
nobody_yet (p ∷ ps) = (refl, nobody_yet ps)

-- ---- the scene

module _ (play : Play) where
  abbrev W : Vats
  W = run.begins play.script

  abbrev w : World
  w = world.begins play.script

  abbrev M : Mirrors w W
  M = start_mirrors play.script

  state_at : (u : ℕ) (t : Vat Name) → slice_get w.vats u ≡ Some t → FreshState play.script t
  unfolding world.begins
  state_at u t e = at_all (FreshState play.script) (world.fresh_from play.script zero play.script.vats) u t (states_fresh play.script zero play.script.vats) e

  member_at : (u : ℕ) (m : Member) → slice_get W.members u ≡ Some m → FreshMember play.script m
  unfolding run.begins
  member_at u m e = at_all (FreshMember play.script) (run.fresh_from play.script zero play.script.vats) u m (members_fresh play.script zero play.script.vats) e

  -- nothing was exported but roots, by the notes that were put as by tables
  none_logged : (u h p j : ℕ) → exported_at w.links u h p ≡ Some j → ⊥
  unfolding world.begins
  none_logged u h p j e = none_exported (world.links_from play.script.vats zero play.script.vats) (roots_alone play.script.vats zero play.script.vats) u h p j e

  none_told : (u h p j : ℕ) → had_at w.connections u h p ≡ Some j → ⊥
  unfolding world.begins
  none_told u h p j e = none_had (world.connections_from play.script.vats zero play.script.vats) (connections_bare play.script.vats zero play.script.vats) u h p j e

  more : (u : ℕ) (t : Vat Name) → Extends (table_of w u t) (table_in w u t)
  unfolding table_of table_in
  more u t = record { names = λ k n e. e; mails = λ k n e. e; exports = λ h p j e. absurd (none_logged u h p j e) }

  vat_at : (u : ℕ) (t : Vat Name) (m : Member) → slice_get w.vats u ≡ Some t → slice_get W.members u ≡ Some m → VatMirrors w W u t m
  vat_at u t m e f = let v = M.vats u t m e f in record {
    placed = v.placed;
    stands = still u (table_of w u t) (table_in w u t) (more u t) (run.ready W m.vat) (world.readied w t) v.stands;
    known = v.known;
    mails = v.mails;
    positions = λ h p j i. absurd (none_told u h p j i);
    peers = v.peers;
    connections = λ z i. tables_still u (table_of w u t) (table_in w u t) (more u t) (connection_for z m) (connected_at u z w.connections).tables (v.connections z i);
    learnt = learnt_still u (table_of w u t) (table_in w u t) (more u t) m.learnt v.learnt;
  }

  honest_at : (u : ℕ) (t : Vat Name) (m : Member) → slice_get w.vats u ≡ Some t → slice_get W.members u ≡ Some m → HonestMirrors play w W u t m
  unfolding learnt_at
  honest_at u t m e f = record { vat = vat_at u t m e f; knows = λ some h i n k. (state_at u t e).gifts h i ∙ sym (ap (λ gs. is_some (learnt_at h i gs)) (member_at u m f).learnt) }

  plain_at : (u h : ℕ) (g : Member) → slice_get W.members h ≡ Some g → AllOf (IsPlain g.names.known) (connection_for u g).exports
  plain_at u h g k = (member_at h g k).plain u

  outsider_at : (h : ℕ) (r : Vat Name) (o : Outsider) (g : Member) → slice_get w.vats h ≡ Some r → slice_get (starting play.script.vats) h ≡ Some o → slice_get W.members h ≡ Some g → OutsiderMirrors w W play h r o g
  unfolding nobody
  outsider_at h r o g e f k =
      let x = state_at h r e in
      let y = member_at h g k in
      let z : o ≡ nobody = at_all (λ (q : Outsider). q ≡ nobody) (starting play.script.vats) h o (nobody_yet play.script.vats) f in
      let v : mirrors.VatMirrors w W h r g = M.vats h r g e k in
      record {
        objects = ap (λ (q : Outsider). q.objects) z ∙ sym (ap length x.things);
        promises = ap (λ (q : Outsider). q.promises) z ∙ sym x.promises;
        messages = ap (λ (q : Outsider). q.messages) z ∙ sym x.messages;
        exports = λ u i. named_all h (table_of w h r) (name_at_vat W.members h g.names) (name_is w W h r g.names v.known v.mails v.positions) (connection_for u g).exports (connected_at h u w.connections).tables.exports (ap (λ (c : Connection Found). c.exports) (v.connections u i));
        plain = λ u i. plain_at u h g k;
        peers = v.peers;
        idle = x.left;
        empty = λ ms t. y.left ms h t;
      }

  made_so : (h i : ℕ) → is_claimed [] h i ≡ is_made play.hostile h i w.links
  unfolding is_claimed world.begins
  made_so h i = sym (none_made play.hostile h i (world.links_from play.script.vats zero play.script.vats) (from_empty play.script.vats zero play.script.vats))

  none_put : AllOf (λ (g : Claim). is_claimed [] g.host g.number ≡ true) (made_by [])
  unfolding made_by
  none_put = tt

  pub starts_so : SceneMirrors play (names.starts play) (numbers.starts play)
  unfolding names.starts numbers.starts starting world.begins world.fresh_from
  starts_so = record {
    fuel = M.fuel;
    drawn = M.drawn;
    history = M.history;
    lines = refl;
    raws = raws_same play w.links W.ways M.ways;
    claims = refl;
    made = λ h i. made_so h i;
    puts = λ u m e. subst (λ ps. AllOf (λ (g : Claim). is_claimed [] g.host g.number ≡ true) (made_by ps)) (sym (member_at u m e).outbox) none_put;
    count = M.count;
    outsiders = length-map play.script.vats (λ p. nobody) ∙ sym (vats_count play.script zero play.script.vats);
    ways = M.ways;
    ends = M.ends;
    frames = M.frames;
    references = M.references;
    honest = λ u t m b e f. honest_at u t m e f;
    hostile = λ h r o g b e f k. outsider_at h r o g e f k;
  }

pub starts_mirror : StartsMirror
starts_mirror play = starts_so play
