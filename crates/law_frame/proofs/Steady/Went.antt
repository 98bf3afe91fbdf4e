-- A vat that took a step, before it and after it, in names and in numbers.
use Rattle.std.proofs.Common.{◌≡◌, ℕ, zero, ◌+◌, ◌-◌, ◌<◌, List, [], ◌∷◌, ◌++◌, Some, refl, sym, ap, ◌∙◌, subst, length, arith, append_assoc}
use Rattle.std.specs.Prelude.{slice_get}
use Rattle.std.proofs.lemmas.Option.{slice_get_within}
use Rattle.def_machine.specs.Values.{Name, Local}
use Rattle.def_machine.specs.State.{Vat}
use Rattle.def_run.specs.World as machine
use Rattle.def_run.specs.World.{Script, Program, Entry, Event, World, Goes}
use Rattle.law_fate.specs.Name.Names.{AllOf, HostIsTrue}
use Rattle.law_fate.specs.Name.Runs.{KnowsOnce}
use Rattle.law_fate.proofs.Name.Laws.{hosts_true}
use Rattle.law_frame.proofs.Local.OwnSteps.{front as get_front}
use Rattle.law_machine.specs.Renamed.Stands.{IsTable}
use Rattle.law_machine.proofs.Renamed.Stands.{Extends}
use Rattle.law_reference.specs.Reference.Cuts.{NoticesFollowCuts}
use Rattle.law_reference.specs.Reference.Tables.{table_of, EachHasTable}
use Rattle.law_reference.proofs.Reference.AskHolds.{notices_front}
use Rattle.law_reference.proofs.Reference.ApartWhole.{have_tables}
use Rattle.law_reference.proofs.Reference.Moves.{opens_end, steps_end}
use Rattle.law_frame.specs.Frame.Exports.{KeepsPositions}
use Rattle.law_frame.proofs.Frame.Untouched.{every_position}
use Rattle.def_run.specs.Names.{Names, own_mails, names_after}
use Rattle.def_run.specs.Vats.{Member}
use Rattle.def_run.specs.Numbers as numbers
use Rattle.def_run.specs.Numbers.{Vats, Brought, Runs, left_by}
use Rattle.law_frame.specs.Local.Mirrors.{Mirrors, VatMirrors}
use Rattle.law_frame.specs.Local.Runs.{EachStepMirrors}
use Rattle.law_frame.proofs.Local.Positions.{there_is}
use Rattle.law_frame.proofs.Local.Steps.{set_there}
use Rattle.def_run.specs.Seeing.{SeesAsBefore}
use Rattle.law_frame.specs.Steady.Statements.{AsksOnce, EachAsksOnce, HostsAsked, EachHostsAsked}
use Rattle.law_frame.proofs.Steady.Hosted.{Hosted, Apart, hosted_so, apart_so}
use Rattle.law_frame.proofs.Steady.Owns.{sees_as_before}
use Rattle.law_frame.proofs.Steady.Reached.{mirrored, opens_mirror, steps_mirror}

-- the names that numbers have only grow, at the end
pub record Grows (t z : Names) : Type 0 where
  pub known : (ns : List Name) × (z.known ≡ t.known ++ ns)
  pub mails : (ns : List Name) × (z.mails ≡ t.mails ++ ns)

-- From x to y, in numbers from X to Y, by a step that goes: what the laws of runs say of both worlds.
pub record Pair (X Y : Vats) : Type 0 where
  pub x : World
  pub y : World
  pub start : Mirrors x X
  pub after : Mirrors y Y
  pub good : EachHasTable x
  pub well : EachHasTable y
  pub hosts_then : (u : ℕ) (s : Vat Name) → slice_get x.vats u ≡ Some s → AllOf HostIsTrue s.known
  pub hosts_now : (u : ℕ) (s : Vat Name) → slice_get y.vats u ≡ Some s → AllOf HostIsTrue s.known
  pub keeps : (u : ℕ) → KeepsPositions x y u
  pub asks : EachAsksOnce → AsksOnce y
  pub hosts_asked : EachHostsAsked → HostsAsked y

-- Vat u, which was m in numbers, is k.
module _ (X Y : Vats) (p : Pair X Y) (u : ℕ) (m k : Member) (there : slice_get X.members u ≡ Some m) (here : slice_get Y.members u ≡ Some k) (grows : Grows m.names k.names) where
  within : u < length X.members
  within = slice_get_within X.members u m there

  within_y : u < length Y.members
  within_y = slice_get_within Y.members u k here

  pub was : (s : Vat Name) × (slice_get (let w = p.x in w.vats) u ≡ Some s)
  was = let h = p.start in there_is (let w = p.x in w.vats) u (subst (λ n. u < n) h.count within)

  pub is : (r : Vat Name) × (slice_get (let w = p.y in w.vats) u ≡ Some r)
  is = let h = p.after in there_is (let w = p.y in w.vats) u (subst (λ n. u < n) h.count within_y)

  pub before : VatMirrors p.x X u was.0 m
  before = let h = p.start in h.vats u was.0 m was.1 there

  pub now : VatMirrors p.y Y u is.0 k
  now = let h = p.after in h.vats u is.0 k is.1 here

  pub table : IsTable u (table_of p.y u is.0)
  table = p.well u is.0 is.1

  pub more : Extends (table_of p.x u was.0) (table_of p.y u is.0)
  unfolding table_of
  more = record {
    names = λ i n e. ap (λ xs. slice_get xs i) (sym now.known ∙ grows.known.1) ∙ get_front m.names.known grows.known.0 i n (ap (λ xs. slice_get xs i) before.known ∙ e);
    mails = λ i n e. ap (λ xs. slice_get xs i) (sym now.mails ∙ grows.mails.1) ∙ get_front m.names.mails grows.mails.0 i n (ap (λ xs. slice_get xs i) before.mails ∙ e);
    exports = p.keeps u;
  }

  pub owns_same : SeesAsBefore m.vat k.vat m.connections
  owns_same = sees_as_before p.x p.y X Y u was.0 is.0 m k (p.good u was.0 was.1) table more (p.hosts_then u was.0 was.1) (p.hosts_now u is.0 is.1) p.start before now within

-- ---- what a step leaves

abbrev pub left_member : Vats → ℕ → Member → Brought → Vat Local → Member
left_member X u m b s = record { vat = s; learnt = b.learnt; connections = numbers.all_written s s.outbox b.connections; names = names_after u m.names m.vat b.carried b.told s }

pub left_there : (X : Vats) (u : ℕ) (head : List Event) (m n : Member) (b : Brought) (s : Vat Local) → slice_get X.members u ≡ Some n → slice_get (let Y : Vats = left_by X u head m b s in Y.members) u ≡ Some (left_member X u m b s)
unfolding left_by
left_there X u head m n b s e = set_there X.members u (left_member X u m b s) (slice_get_within X.members u n e)

pub left_grows : (X : Vats) (u : ℕ) (m : Member) (b : Brought) (s : Vat Local) → Grows m.names (let k : Member = left_member X u m b s in k.names)
unfolding names_after
left_grows X u m b s = record { known = (_, refl); mails = (b.carried ++ own_mails u m.vat.messages (s.messages - m.vat.messages), append_assoc m.names.mails b.carried (own_mails u m.vat.messages (s.messages - m.vat.messages))) }

-- ---- in runs

-- the machine's run came to x by these opening turns, and goes to y by one more
pub record OpenedOn (script : Script) (ps : List Program) (p : Program) (x y : World) : Type 0 where
  pub opened : machine.open_from script zero ps (machine.begins script) ≡ Goes x
  pub goes : machine.open_vat script (length ps) p x ≡ Goes y
  pub done : machine.open_from script zero (ps ++ p ∷ []) (machine.begins script) ≡ Goes y

-- or by these entries, and by one more
pub record SteppedOn (script : Script) (es : List Entry) (e : Entry) (x y : World) : Type 0 where
  pub first : World
  pub opened : machine.open_from script zero script.vats (machine.begins script) ≡ Goes first
  pub stepped : machine.steps_from script es 1 first ≡ Goes x
  pub goes : machine.step script e (1 + length es) x ≡ Goes y
  pub done : machine.steps_from script (es ++ e ∷ []) 1 first ≡ Goes y

module _ (script : Script) (once : KnowsOnce script) (each : EachStepMirrors script) where
  pub opening_went : (ps rest : List Program) (p : Program) (X Y : Vats) → script.vats ≡ ps ++ p ∷ rest → numbers.open_from script zero ps (numbers.begins script) ≡ Runs X
      → numbers.open_member script (length ps) p X (slice_get X.members (length ps)) ≡ Runs Y → (q : Pair X Y) × OpenedOn script ps p q.x q.y
  opening_went ps rest p X Y split opened goes =
      let o = opens_mirror script each ps (p ∷ rest) X split opened in
      let m = mirrored (machine.open_vat script (length ps) p o.world) (numbers.open_member script (length ps) p X (slice_get X.members (length ps))) Y (each.openings ps rest p o.world X split o.opened o.mirrors) goes in
      let n : length ps ≡ 0 + length ps = omega arith in
      let done : machine.open_from script zero (ps ++ p ∷ []) (machine.begins script) ≡ Goes m.0 = opens_end script ps p zero (machine.begins script) o.world m.0 o.opened (subst (λ z. machine.open_vat script z p o.world ≡ Goes m.0) n m.1) in
      let split_on : script.vats ≡ (ps ++ p ∷ []) ++ rest = split ∙ sym (append_assoc ps (p ∷ []) rest) in (
        record {
          x = o.world;
          y = m.0;
          start = o.mirrors;
          after = m.2;
          good = (have_tables script once).0 ps (p ∷ rest) o.world split o.opened;
          well = (have_tables script once).0 (ps ++ p ∷ []) rest m.0 split_on done;
          hosts_then = (hosts_true script once).0 ps (p ∷ rest) o.world split o.opened;
          hosts_now = (hosts_true script once).0 (ps ++ p ∷ []) rest m.0 split_on done;
          keeps = (every_position script once).0 ps rest p o.world m.0 split o.opened m.1;
          asks = λ a. (a script once).0 (ps ++ p ∷ []) rest m.0 split_on done;
          hosts_asked = λ a. (a script once).0 (ps ++ p ∷ []) rest m.0 split_on done;
        },
        record { opened = o.opened; goes = m.1; done = done },
      )

  pub opening_pair : (ps rest : List Program) (p : Program) (X Y : Vats) → script.vats ≡ ps ++ p ∷ rest → numbers.open_from script zero ps (numbers.begins script) ≡ Runs X
      → numbers.open_member script (length ps) p X (slice_get X.members (length ps)) ≡ Runs Y → Pair X Y
  opening_pair ps rest p X Y split opened goes = let z = opening_went ps rest p X Y split opened goes in z.0

  module _ (follow : NoticesFollowCuts script.schedule) where
    pub entry_went : (es rest : List Entry) (e : Entry) (W X Y : Vats) → script.schedule ≡ es ++ e ∷ rest → numbers.open_from script zero script.vats (numbers.begins script) ≡ Runs W → numbers.steps_from script es 1 W ≡ Runs X
        → numbers.step script e (1 + length es) X ≡ Runs Y → (p : Pair X Y) × Hosted p.y × Apart p.x × SteppedOn script es e p.x p.y
    entry_went es rest e W X Y split opened stepped goes =
        let o = steps_mirror script each es (e ∷ rest) W X split opened stepped in
        let m = mirrored (machine.step script e (1 + length es) o.last) (numbers.step script e (1 + length es) X) Y (each.entries o.first o.last X es rest e split o.opened o.stepped o.mirrors) goes in
        let done : machine.steps_from script (es ++ e ∷ []) 1 o.first ≡ Goes m.0 = steps_end script es e 1 o.first o.last m.0 o.stepped m.1 in
        let front : NoticesFollowCuts es = notices_front script [] es (e ∷ rest) (subst NoticesFollowCuts split follow) in
        let front_on : NoticesFollowCuts (es ++ e ∷ []) = notices_front script [] (es ++ e ∷ []) rest (subst NoticesFollowCuts (split ∙ sym (append_assoc es (e ∷ []) rest)) follow) in (
          record {
            x = o.last;
            y = m.0;
            start = o.mirrors;
            after = m.2;
            good = (have_tables script once).1 o.first o.last es 1 front o.opened o.stepped;
            well = (have_tables script once).1 o.first m.0 (es ++ e ∷ []) 1 front_on o.opened done;
            hosts_then = (hosts_true script once).1 o.first o.last es 1 o.opened o.stepped;
            hosts_now = (hosts_true script once).1 o.first m.0 (es ++ e ∷ []) 1 o.opened done;
            keeps = (every_position script once).1 o.first o.last m.0 es e 1 o.opened o.stepped m.1;
            asks = λ a. (a script once).1 o.first m.0 (es ++ e ∷ []) 1 front_on o.opened done;
            hosts_asked = λ a. (a script once).1 o.first m.0 (es ++ e ∷ []) 1 front_on o.opened done;
          },
          hosted_so script once o.first m.0 (es ++ e ∷ []) o.opened done front_on,
          apart_so script once o.first o.last es o.opened o.stepped,
          record { first = o.first; opened = o.opened; stepped = o.stepped; goes = m.1; done = done },
        )

    pub entry_pair : (es rest : List Entry) (e : Entry) (W X Y : Vats) → script.schedule ≡ es ++ e ∷ rest → numbers.open_from script zero script.vats (numbers.begins script) ≡ Runs W → numbers.steps_from script es 1 W ≡ Runs X
        → numbers.step script e (1 + length es) X ≡ Runs Y → (p : Pair X Y) × Hosted p.y × Apart p.x
    entry_pair es rest e W X Y split opened stepped goes = let z = entry_went es rest e W X Y split opened stepped goes in (z.0, z.1, z.2)
