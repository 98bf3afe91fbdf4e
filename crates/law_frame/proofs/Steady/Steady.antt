-- What the code of a run asks of it is so, where each step asks for what is new.
use Rattle.std.proofs.Common.{◌≡◌, ℕ, zero, ◌+◌, ◌<◌, Bool, true, false, List, [], ◌∷◌, ◌++◌, drop, Option, Some, None, refl, sym, ap, ◌∙◌, subst, length}
use Rattle.std.specs.Prelude.{slice_get, option_map}
use Rattle.def_op.specs.Frames.{spelling}
use Rattle.def_machine.specs.Values.{Local, Prom, host_of}
use Rattle.def_machine.specs.State.{Message, Note, Vat, Gives, Act}
use Rattle.def_machine.specs.Arrive.{Incoming, arrive, notice}
use Rattle.def_machine.specs.Eval.{opening, taking}
use Rattle.def_run.specs.Connections.{Heard}
use Rattle.def_run.specs.World.{Script, Program, Entry, Turn, Carry, CutLink, NoticeLink, Event, Opens, Turned, Carried, NoticedAt, Link, World, link_at, tree_at}
use Rattle.def_run.specs.Wire.{connected_at}
use Rattle.law_fate.specs.Name.Names.{AllOf}
use Rattle.law_frame.specs.Local.Joined.{IsLawful}
use Rattle.law_frame.specs.Local.Mirrors.{Mirrors}
use Rattle.law_frame.specs.Local.Runs.{EachStepMirrors}
use Rattle.law_frame.proofs.Local.Positions.{there_is}
use Rattle.law_frame.proofs.Local.Ways.{MayMirror, at_mirrors, way_same, way_other}
use Rattle.def_run.specs.Vats.{Member, connection_for, asked_by, heard_in}
use Rattle.def_run.specs.Numbers as numbers
use Rattle.def_run.specs.Numbers.{Vats, Course, Runs, Way, Frame, Addressed, Brought, way_at, with_way, left_by}
use Rattle.def_run.specs.Seeing.{SeesAsBefore}
use Rattle.def_run.specs.Steady.{AllOwn, TurnIsSteady, EntryIsSteady}
use Rattle.law_frame.specs.Steady.Statements.{TurnAsksAnew, EntryAsksAnew, RunsAreSteadyWhereTheyAskAnew}
use Rattle.law_frame.proofs.Steady.Hosted.{Hosted, Apart}
use Rattle.law_frame.proofs.Steady.Hearing.{imports_of, answers_of, imports_heard, answers_heard}
use Rattle.law_frame.proofs.Steady.Shown.{shown_steadily}
use Rattle.law_frame.proofs.Steady.Went.{Pair, left_member, left_there, left_grows, owns_same, opening_pair, entry_pair, before}

-- ---- where a step leads

own_leads : (X : Vats) (u : ℕ) (head : List Event) (n : ℕ) (m : Member) (act : Act Local (Unit {0})) (s : Vat Local) → act (numbers.ready X m.vat) ≡ Gives tt s → numbers.own_step X u head n m act ≡ Runs (left_by X u head m (numbers.nothing_brought m) s)
unfolding numbers.own_step numbers.after_step
own_leads X u head n m act s e = ap (numbers.after_step X u head n m (λ z. numbers.nothing_brought m)) e

-- ---- a way that a step of another vat leaves

pushed_ends : (x : Frame) (l : Way) → ((numbers.pushed x l).from ≡ l.from) × ((numbers.pushed x l).to ≡ l.to)
unfolding numbers.pushed
pushed_ends x l = by l.cut
  where
    by : (b : Bool) → ((λ (z : Way). z.from) (elim b [ true ↦ l | false ↦ record l { frames = l.frames ++ x ∷ [] } ]) ≡ l.from) × ((λ (z : Way). z.to) (elim b [ true ↦ l | false ↦ record l { frames = l.frames ++ x ∷ [] } ]) ≡ l.to)
    by true = (refl, refl)
    by false = (refl, refl)

others_stay : (u v : ℕ) → (v ≡ u → ⊥) → (xs : List Addressed) (ls : List Way) → way_at v u (numbers.push_all u xs ls) ≡ way_at v u ls
unfolding numbers.push_all
others_stay u v other [] ls = refl
others_stay u v other (x ∷ xs) ls = others_stay u v other xs (with_way (numbers.pushed x.frame) u x.to ls) ∙ way_other (numbers.pushed x.frame) (λ z. (pushed_ends x.frame z).0) (λ z. (pushed_ends x.frame z).1) u x.to v u ls (λ e f. other (sym e))

-- a way in numbers is a link in names
link_of_way : (w : World) (W : Vats) → Mirrors w W → (v u : ℕ) (l : Way) → way_at v u W.ways ≡ Some l → (j : Link) × (link_at v u w.links ≡ Some j) × (l.cut ≡ j.cut)
link_of_way w W h v u l e = by (link_at v u w.links) refl (subst (λ o. MayMirror (link_at v u w.links) o) e (at_mirrors v u w.links W.ways h.ways))
  where
    by : (o : Option Link) → link_at v u w.links ≡ o → MayMirror o (Some l) → (j : Link) × (link_at v u w.links ≡ Some j) × (l.cut ≡ j.cut)
    by (Some j) i k = (j, i, k.cut)
    by None i k = absurd k

module _ (script : Script) (lawful : IsLawful script) (each : EachStepMirrors script) where
  pub opening_leads : (u : ℕ) (p : Program) (X : Vats) (m : Member) (s : Vat Local) → slice_get X.members u ≡ Some m → opening (numbers.numbers script) p.tree script.depth (Prom zero) (numbers.given script.vats 1 p.knows) (numbers.ready X m.vat) ≡ Gives tt s
      → numbers.open_member script u p X (slice_get X.members u) ≡ Runs (left_by X u (Opens u ∷ []) m (numbers.nothing_brought m) s)
  unfolding numbers.open_member
  opening_leads u p X m s there e = ap (numbers.open_member script u p X) there ∙ own_leads X u (Opens u ∷ []) u m (opening (numbers.numbers script) p.tree script.depth (Prom zero) (numbers.given script.vats 1 p.knows)) s e

  opening_owns : (ps rest : List Program) (p : Program) (X : Vats) → script.vats ≡ ps ++ p ∷ rest → numbers.open_from script zero ps (numbers.begins script) ≡ Runs X → (m : Member) → slice_get X.members (length ps) ≡ Some m
      → (s : Vat Local) → opening (numbers.numbers script) p.tree script.depth (Prom zero) (numbers.given script.vats 1 p.knows) (numbers.ready X m.vat) ≡ Gives tt s → SeesAsBefore m.vat s m.connections
  opening_owns ps rest p X split opened m there s e =
      let u = length ps in let head : List Event = Opens u ∷ [] in let b = numbers.nothing_brought m in
      let pair = opening_pair script lawful.0 each ps rest p X (left_by X u head m b s) split opened (opening_leads u p X m s there e) in
      owns_same X (left_by X u head m b s) pair u m (left_member X u m b s) there (left_there X u head m m b s there) (left_grows X u m b s)

  module _ (es rest : List Entry) (W X : Vats) (opened : numbers.open_from script zero script.vats (numbers.begins script) ≡ Runs W) (stepped : numbers.steps_from script es 1 W ≡ Runs X) where
    abbrev k : ℕ
    k = 1 + length es

    pub turn_leads : (u : ℕ) (m : Member) → slice_get X.members u ≡ Some m → (q : Message Local) (qs : List (Message Local)) → m.vat.queue ≡ q ∷ qs
        → (s : Vat Local) → taking (numbers.numbers script) (tree_at script.vats u) script.depth q (record (numbers.ready X m.vat) { queue = qs }) ≡ Gives tt s → numbers.step script (Turn u) k X ≡ Runs (left_by X u (Turned k u ∷ []) m (numbers.nothing_brought m) s)
    unfolding numbers.step numbers.turn numbers.turn_queue numbers.after_step
    turn_leads u m there q qs queue s e = ap (numbers.turn script k u X) there ∙ ap (numbers.turn_queue script k u X m) queue ∙ ap (numbers.after_step X u (Turned k u ∷ []) (numbers.step_number script k) m (λ z. numbers.nothing_brought m)) e

    pub notice_leads : (v u : ℕ) (m : Member) → slice_get X.members v ≡ Some m → (s : Vat Local) → notice (numbers.numbers script) u (numbers.ready X m.vat) ≡ Gives tt s → numbers.step script (NoticeLink v u) k X ≡ Runs (left_by X v (NoticedAt k v u ∷ []) m (numbers.nothing_brought m) s)
    unfolding numbers.step numbers.notice_by
    notice_leads v u m there s e = ap (numbers.notice_by script k v u X) there ∙ own_leads X v (NoticedAt k v u ∷ []) (numbers.step_number script k) m (notice (numbers.numbers script) u) s e

    turn_owns : (u : ℕ) → script.schedule ≡ es ++ Turn u ∷ rest → (m : Member) → slice_get X.members u ≡ Some m → (q : Message Local) (qs : List (Message Local)) → m.vat.queue ≡ q ∷ qs
        → (s : Vat Local) → taking (numbers.numbers script) (tree_at script.vats u) script.depth q (record (numbers.ready X m.vat) { queue = qs }) ≡ Gives tt s → SeesAsBefore m.vat s m.connections
    turn_owns u split m there q qs queue s e =
        let head : List Event = Turned k u ∷ [] in let b = numbers.nothing_brought m in
        let pair = entry_pair script lawful.0 each lawful.1 es rest (Turn u) W X (left_by X u head m b s) split opened stepped (turn_leads u m there q qs queue s e) in
        owns_same X (left_by X u head m b s) pair.0 u m (left_member X u m b s) there (left_there X u head m m b s there) (left_grows X u m b s)

    notice_owns : (v u : ℕ) → script.schedule ≡ es ++ NoticeLink v u ∷ rest → (m : Member) → slice_get X.members v ≡ Some m → (s : Vat Local) → notice (numbers.numbers script) u (numbers.ready X m.vat) ≡ Gives tt s → SeesAsBefore m.vat s m.connections
    notice_owns v u split m there s e =
        let head : List Event = NoticedAt k v u ∷ [] in let b = numbers.nothing_brought m in
        let pair = entry_pair script lawful.0 each lawful.1 es rest (NoticeLink v u) W X (left_by X v head m b s) split opened stepped (notice_leads v u m there s e) in
        owns_same X (left_by X v head m b s) pair.0 v m (left_member X v m b s) there (left_there X v head m m b s there) (left_grows X v m b s)

    -- a frame that was heard
    module _ (v u : ℕ) (split : script.schedule ≡ es ++ Carry v u ∷ rest) (m : Member) (l : Way) (x : Frame) (xs : List Frame) (there : slice_get X.members u ≡ Some m) (at : way_at v u X.ways ≡ Some l) (uncut : l.cut ≡ false) (first : l.frames ≡ x ∷ xs)
        (h : Heard Local (Note (Incoming Local Local))) (heard : heard_in v x.op m ≡ Some h) (s : Vat Local) (arrives : arrive (numbers.numbers script) v h.read (numbers.ready X m.vat) ≡ Gives tt s) where
      abbrev taken : Way → Way
      taken z = record z { frames = xs }

      abbrev pub off : Vats
      off = record X { ways = with_way taken v u X.ways }

      abbrev pub head : List Event
      head = Carried k v u x.note (spelling x.op) ∷ []

      abbrev pub b : Brought
      b = numbers.brings script off v u x h m s

      abbrev pub Y : Vats
      Y = left_by off u head m b s

      hears : numbers.arrives script k v u off x (slice_get X.members u) ≡ Runs Y
      unfolding numbers.arrives numbers.hears numbers.after_step numbers.ready
      hears = ap (numbers.arrives script k v u off x) there ∙ ap (numbers.hears script k v u off x m) heard ∙ ap (numbers.after_step off u head (numbers.step_number script k) m (numbers.brings script off v u x h m)) arrives

      pub leads : numbers.step script (Carry v u) k X ≡ Runs Y
      unfolding numbers.step numbers.carry_way numbers.carry_frames
      leads = ap (numbers.carry_way script k v u X) at ∙ by l.cut uncut ∙ ap (numbers.carry_frames script k v u X) first ∙ hears
        where
          by : (c : Bool) → c ≡ false → ◌≡◌ {A = Course} (elim c [ true ↦ numbers.idle script k X | false ↦ numbers.carry_frames script k v u X l.frames ]) (numbers.carry_frames script k v u X l.frames)
          by false e = refl
          by true e = cc

      pub pair : (p : Pair X Y) × Hosted p.y × Apart p.x
      pair = entry_pair script lawful.0 each lawful.1 es rest (Carry v u) W X Y split opened stepped leads

      abbrev now_is : Member
      now_is = left_member off u m b s

      here : slice_get Y.members u ≡ Some now_is
      here = left_there off u head m m b s there

      carry_owns : SeesAsBefore m.vat s m.connections
      carry_owns = owns_same X Y pair.0 u m now_is there here (left_grows off u m b s)

      pub other : v ≡ u → ⊥
      other e = let p = pair.0 in let j = link_of_way p.x X p.start v u l at in pair.2 u j.0 (subst (λ z. link_at z u (let w = p.x in w.links) ≡ Some j.0) e j.1)

      left_way : way_at v u Y.ways ≡ Some (taken l)
      unfolding left_by
      left_way = others_stay u v other (numbers.frames_of s (numbers.name_at_vat X.members u (let z = now_is in z.names)) s.outbox b.connections) (with_way taken v u X.ways) ∙ way_same taken (λ z. refl) (λ z. refl) v u X.ways ∙ ap (option_map taken) at

      low : (v < length X.members) × (u < length X.members)
      low = let p = pair.0 in let t = p.start in t.ends v u l at

      low_y : (v < length Y.members) × (u < length Y.members)
      low_y = let p = pair.0 in let t = p.after in t.ends v u (taken l) left_way

      hosted : AllOf (λ n. host_of n ≡ v) (connected_at u v (let p = pair.0 in let w = p.y in w.connections)).tables.imports × AllOf (λ n. host_of n ≡ u) (connected_at u v (let p = pair.0 in let w = p.y in w.connections)).tables.answers
      hosted = let p = pair.0 in let t = p.after in let j = link_of_way p.y Y p.after v u (taken l) left_way in
          let r = there_is (let w = p.y in w.vats) v (subst (λ n. v < n) t.count low_y.0) in let z = there_is (let w = p.y in w.vats) u (subst (λ n. u < n) t.count low_y.1) in
          pair.1 v u r.0 z.0 r.1 z.1 other j.0 j.1 (sym j.2 ∙ uncut)

      low_m : v < length m.connections
      low_m = let i = before X Y pair.0 u m now_is there here (left_grows off u m b s) in subst (λ n. v < n) (sym i.peers) low.0

      imports_so : AllOwn false s (drop (length (connection_for v m).imports) h.after.imports)
      unfolding connection_for numbers.brings
      imports_so = imports_heard s v m h low_m (imports_of X Y pair.0 u m now_is there here (left_grows off u m b s) v low_y.0 other hosted.0)

      answers_so : AllOwn true s (asked_by h.after.known s h.read)
      unfolding connection_for numbers.brings
      answers_so = answers_heard s v m h low_m (answers_of X Y pair.0 u m now_is there here (left_grows off u m b s) v low_y.0 hosted.1)

    turn_steady : (u : ℕ) → script.schedule ≡ es ++ Turn u ∷ rest → (m : Member) → slice_get X.members u ≡ Some m → (queue : List (Message Local)) → m.vat.queue ≡ queue → TurnAsksAnew script X u m queue → TurnIsSteady script X u m queue
    turn_steady u split m there [] e asks = tt
    turn_steady u split m there (q ∷ qs) e asks = λ s i. record { owns = turn_owns u split m there q qs e s i; asks = asks s i }

    pub entry_steady : (e : Entry) → script.schedule ≡ es ++ e ∷ rest → EntryAsksAnew script X e → EntryIsSteady script X e
    entry_steady (Turn u) split asks = λ m there. turn_steady u split m there m.vat.queue refl (asks m there)
    entry_steady (Carry v u) split asks = λ m l x xs there at uncut first h heard s arrives. record {
      step = record { owns = carry_owns v u split m l x xs there at uncut first h heard s arrives; asks = asks m l x xs there at uncut first h heard s arrives };
      imports = imports_so v u split m l x xs there at uncut first h heard s arrives;
      answers = answers_so v u split m l x xs there at uncut first h heard s arrives;
    }
    entry_steady (CutLink v u) split asks = tt
    entry_steady (NoticeLink v u) split asks = λ m there s i. record { owns = notice_owns v u split m there s i; asks = asks m there s i }

pub runs_steady : RunsAreSteadyWhereTheyAskAnew
runs_steady script lawful each asks = let shown = shown_steadily script lawful.0 each in record {
  openings = λ ps rest p w split opened m there s e. record { owns = opening_owns script lawful each ps rest p w split opened m there s e; asks = asks.openings ps rest p w split opened m there s e };
  entries = λ es rest e w x split opened stepped. entry_steady script lawful each es rest w x opened stepped e split (asks.entries es rest e w x split opened stepped);
  shown_opening = λ ps rest p w y split opened goes. shown.opening ps rest p w y split opened goes;
  shown = λ es rest e k w x y split opened stepped goes. shown.entry es rest e k w x y split opened stepped goes;
}
