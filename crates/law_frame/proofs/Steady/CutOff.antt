-- What a vat asked another for was not told by that one where the two were cut off either.
use Rattle.std.proofs.Common.{◌≡◌, ℕ, ◌<◌, true, false, List, [], ◌∷◌, Some, refl, sym, ap, subst, ◌∙◌, ◌⊎◌, inl, inr, length}
use Rattle.def_machine.specs.Values.{Name}
use Rattle.def_machine.specs.State.{Note, Put, Vat}
use Rattle.def_run.specs.Connections as tables
use Rattle.def_run.specs.Wire as conn
use Rattle.def_run.specs.Wire.{Connected, connected_at, with_connected}
use Rattle.def_run.specs.World as world
use Rattle.def_run.specs.World.{Script, Program, Opens, Entry, CutLink, Event, Carried, Link, World, Goes as Going, link_at, with_link, with_notes}
use Rattle.law_machine.specs.Run.Moves as run
use Rattle.law_machine.specs.Run.Moves.{IsReached, Stepped, Nobody, AnyNotice, went}
use Rattle.law_machine.proofs.Run.Honest.{NoDeed, NoWord, honest_reached}
use Rattle.law_machine.proofs.Run.Told.{moves_told}
use Rattle.law_fate.specs.Name.Names.{AllOf, IsAmong}
use Rattle.law_fate.specs.Name.Runs.{KnowsOnce}
use Rattle.law_fate.proofs.Name.Among.{all_among}
use Rattle.law_reference.specs.Reference.Logs as wire
use Rattle.law_reference.proofs.Reference.AnswerLinks.{AtLink}
use Rattle.law_frame.specs.Frame.Asked.{told_in}
use Rattle.law_frame.proofs.Frame.Exports.{each_so}
use Rattle.law_frame.proofs.Frame.Grow.{among_left}
use Rattle.law_frame.proofs.Frame.LinksGo.{FoundFrom}
use Rattle.law_frame.proofs.Frame.LinksStay.{AllLinked, roots_is, opened_linked, stepped_linked}
use Rattle.law_frame.proofs.Frame.Places.{same_or, connected_same, connected_other}
use Rattle.law_frame.proofs.Frame.Told.{exports_told}
use Rattle.law_frame.proofs.Frame.Written.{wrote_from, wrote_to, received_from, received_to, carried_heard}
use Rattle.law_frame.proofs.Heard.Lift.{Opened, opened_holds, stepped_holds}
use Rattle.law_frame.proofs.Heard.Moves.{goes_of}
use Rattle.law_frame.proofs.Heard.Open.{IsOpen, some_is, open_taken, open_pushed}
use Rattle.law_frame.proofs.Heard.Pairs.{Paired, true_false, begins_open, opened_paired, stepped_paired}
use Rattle.law_frame.proofs.Heard.Pending.{Facts, wires, splits}
use Rattle.law_frame.proofs.Heard.Questions.{questions_logged}
use Rattle.law_frame.proofs.Heard.Runs.{opened_worldly, stepped_worldly, opened_kept, stepped_kept, opening_pair, entry_pair}
use Rattle.law_frame.proofs.Heard.Steps.{Asked, AllKept, Onward, honest, went_links, went_connections}
use Rattle.law_frame.proofs.Local.Positions.{there_is}
use Rattle.law_frame.specs.Steady.Statements.{OfTwo, AsksOnce, EachAsksOnce}
use Rattle.law_frame.proofs.Steady.AskOnce.{Openings, Entries, AsksEachOnce, each_asked}
use Rattle.law_frame.proofs.Steady.Hearing.{unlike}
use Rattle.law_frame.proofs.Steady.Questions.{Counted, reached, opened_counted, stepped_counted}
use Rattle.law_frame.proofs.Steady.Roots.{IsRoot, AllHaveRoots, opened_roots, stepped_roots, questions_no_root, roots_at}
use Rattle.law_frame.proofs.Steady.Untold.{AreCutOff, UntoldUnlessCut, each_untold}

-- what vat u has by position of what v told it
abbrev Imports : List Connected → ℕ → ℕ → List Name
Imports cs u v = (connected_at u v cs).tables.imports

-- ---- notes that are put leave it as it was

wrote_imports : (n : Note Name) (c : Connected) → (let e : Connected = conn.wrote n c in e.tables.imports) ≡ c.tables.imports
unfolding conn.wrote tables.put_on
wrote_imports n c = refl

one_imports : (a b u v : ℕ) (n : Note Name) (cs : List Connected) → Imports (with_connected (conn.wrote n) a b cs) u v ≡ Imports cs u v
one_imports a b u v n cs = either (same_or a b u v)
  where
    either : ((a ≡ u) × (b ≡ v)) ⊎ (a ≡ u → b ≡ v → ⊥) → Imports (with_connected (conn.wrote n) a b cs) u v ≡ Imports cs u v
    either (inr o) = ap (λ (c : Connected). c.tables.imports) (connected_other (conn.wrote n) (wrote_from n) (wrote_to n) a b u v cs o)
    either (inl e) = subst (λ (y : ℕ). Imports (with_connected (conn.wrote n) a b cs) u y ≡ Imports cs u y) e.1 (subst (λ (x : ℕ). Imports (with_connected (conn.wrote n) a b cs) x b ≡ Imports cs x b) e.0
        (ap (λ (c : Connected). c.tables.imports) (connected_same (conn.wrote n) (wrote_from n) (wrote_to n) a b cs) ∙ wrote_imports n (connected_at a b cs)))

puts_imports : (a u v : ℕ) (ps : List (Put Name)) (cs : List Connected) → Imports (conn.write_all a ps cs) u v ≡ Imports cs u v
unfolding conn.write_all
puts_imports a u v [] cs = refl
puts_imports a u v (p ∷ ps) cs = puts_imports a u v ps (with_connected (conn.wrote p.note) a p.to cs) ∙ one_imports a p.to u v p.note cs

-- ---- what is told

-- a root of the link from v to u, or told in a note that was ever put there
abbrev Told : World → ℕ → ℕ → Name → Type 0
Told w v u z = (l : Link) × (link_at v u w.links ≡ Some l) × (IsAmong z l.roots ⊎ ((n : Note Name) × IsAmong n l.log × IsAmong z (told_in n)))

abbrev ImportsTold : World → Type 0
ImportsTold w = OfTwo w (λ u v. (z : Name) → IsAmong z (Imports w.connections u v) → Told w v u z)

abbrev ImportsUnasked : World → Type 0
ImportsUnasked w = OfTwo w (λ u v. (z : Name) → IsAmong z (Asked w u v) → IsAmong z (Imports w.connections u v) → ⊥)

module _ (script : Script) where
  -- what is known of the worlds of a run
  record Known (w : World) : Type 0 where
    pub facts : Facts script w
    pub kept : AllKept w
    pub paired : Paired w
    pub linked : AllLinked script w
    pub count : Counted script w
    pub roots : AllHaveRoots w
    pub untold : UntoldUnlessCut w
    pub moves : IsReached script w

  -- ---- in a world

  module _ (w : World) (f : Known w) (u v : ℕ) (low_u : u < length w.vats) (low_v : v < length w.vats) (other : v ≡ u → ⊥) where
    in_link : (l : Link) × (link_at v u w.links ≡ Some l)
    in_link = f.linked v u (unlike v u other) (subst (λ n. v < n) f.count low_v) (subst (λ n. u < n) f.count low_u)

    out_link : (l : Link) × (link_at u v w.links ≡ Some l)
    out_link = f.linked u v (unlike u v (λ e. other (sym e))) (subst (λ n. u < n) f.count low_u) (subst (λ n. v < n) f.count low_v)

    -- a root, or told in a note that was put
    abbrev P : Name → Type 0
    P y = IsAmong y in_link.0.roots ⊎ ((n : Note Name) × IsAmong n in_link.0.log × IsAmong y (told_in n))

    -- what arrived on a link that is not cut was told
    open_told : in_link.0.cut ≡ false → (z : Name) → IsAmong z (Imports w.connections u v) → Told w v u z
    open_told e z a =
        let s = there_is w.vats v low_v in let t = there_is w.vats u low_u in let alike = f.paired.0 v u in
        let k = f.kept v u other s.0 t.0 s.1 t.1 in_link.0 out_link.0 in_link.1 out_link.1 e (alike.2 out_link.0 out_link.1 ∙ sym (alike.1 in_link.0 in_link.1) ∙ e) in (
          in_link.0,
          in_link.1,
          all_among P (wire.exports_after v (Asked w u v) k.2 in_link.0.roots) z
              (exports_told v (Asked w u v) P k.2 in_link.0.roots (each_so P in_link.0.roots (λ y b. inl b)) (each_so (λ n. AllOf P (told_in n)) k.2 (λ n b. each_so P (told_in n) (λ y c. inr (n, subst (λ ns. IsAmong n ns) (sym k.5) (among_left n k.2 in_link.0.notes b), c)))))
              (subst (IsAmong z) k.7 a),
        )

    -- both stand on one connection only where the link is cut
    both_cut : (z : Name) → IsAmong z (Asked w u v) → IsAmong z (Imports w.connections u v) → in_link.0.cut ≡ true
    both_cut z a b = by (f.untold u v low_u low_v other z (subst (IsAmong z) (sym (questions_logged script [] w (reached script w f.moves) u v out_link.0 out_link.1)) a) b)
      where
        by : AreCutOff w u v → in_link.0.cut ≡ true
        by (l, inl e, i) = let alike = f.paired.0 v u in alike.1 in_link.0 in_link.1 ∙ sym (alike.2 l e) ∙ i
        by (l, inr e, i) = subst (λ (k : Link). k.cut ≡ true) (some_is l in_link.0 (sym e ∙ in_link.1)) i

    -- what is asked for is no root
    root_not : (z : Name) → IsAmong z (Asked w u v) → IsRoot z → ⊥
    unfolding wire.questions
    root_not z a = all_among (λ n. IsRoot n → ⊥) (Asked w u v) z (questions_no_root script w (wires script w f.facts) u v (link_at u v w.links) refl) a

    is_root : (l : Link) → link_at v u w.links ≡ Some l → (z : Name) → IsAmong z l.roots → IsRoot z
    is_root l e z a = all_among IsRoot (wire.roots_of (link_at v u w.links)) z (roots_at w f.roots v u) (subst (IsAmong z) (sym (roots_is l (link_at v u w.links) e)) a)

  -- ---- a move

  module _ (x y : World) (u v : ℕ) where
    -- the imports stay, or the link is not cut after it
    abbrev Goes : Type 0
    Goes = (Imports y.connections u v ≡ Imports x.connections u v) ⊎ AtLink v u IsOpen y.links

    went_imports : (a : ℕ) (t : Vat Name) (head : List Event) (before : World) → y ≡ went a before head t → (cs : List Connected) → world.heard_by head before.connections ≡ cs → Imports y.connections u v ≡ Imports cs u v
    went_imports a t head before e cs quiet = ap (λ ds. Imports ds u v) (ap (λ (w : World). w.connections) e ∙ went_connections script a before head t ∙ ap (conn.write_all a t.outbox) quiet) ∙ puts_imports a u v t.outbox cs

    going : {a b : World} → Going a ≡ Going b → a ≡ b
    going e = cc

    cut_imports : (k a b : ℕ) → world.step script (CutLink a b) k x ≡ Going y → Imports y.connections u v ≡ Imports x.connections u v
    unfolding world.step world.cut
    cut_imports k a b e = ap (λ (w : World). Imports w.connections u v) (sym (going e))

    same_imports : y.connections ≡ x.connections → Imports y.connections u v ≡ Imports x.connections u v
    same_imports e = ap (λ ds. Imports ds u v) e

    quiet_open : (a : ℕ) → world.heard_by (Opens a ∷ []) x.connections ≡ x.connections
    unfolding world.heard_by
    quiet_open a = refl

    -- a note from a arrives at b
    arrives : (a b : ℕ) (t : Vat Name) (n : Note Name) (ns : List (Note Name)) (l : Link) (head : List Event) → link_at a b x.links ≡ Some l → l.cut ≡ false → y ≡ went b (record x { links = with_link (with_notes ns) a b x.links }) head t
        → world.heard_by head x.connections ≡ with_connected (conn.received (connected_at a b x.connections) n) b a x.connections → ((b ≡ u) × (a ≡ v)) ⊎ (b ≡ u → a ≡ v → ⊥) → Goes
    arrives a b t n ns l head from uncut e heard (inr o) = inl (went_imports b t head (record x { links = with_link (with_notes ns) a b x.links }) e (with_connected (conn.received (connected_at a b x.connections) n) b a x.connections) heard
        ∙ ap (λ (c : Connected). c.tables.imports) (connected_other (conn.received (connected_at a b x.connections) n) (received_from (connected_at a b x.connections) n) (received_to (connected_at a b x.connections) n) b a u v x.connections o))
    arrives a b t n ns l head from uncut e heard (inl i) =
        let way : link_at v u x.links ≡ Some l = subst (λ c. link_at v c x.links ≡ Some l) i.0 (subst (λ c. link_at c b x.links ≡ Some l) i.1 from) in
        inr (subst (λ ks. AtLink v u IsOpen ks) (sym (ap (λ (w : World). w.links) e ∙ went_links script b (record x { links = with_link (with_notes ns) a b x.links }) head t))
        (open_pushed v u b t.outbox (with_link (with_notes ns) a b x.links) (open_taken v u a b ns x.links (λ k g. subst (λ (z : Link). IsOpen z) (some_is l k (sym way ∙ g)) uncut))))

    moved : run.Moved script x Nobody AnyNotice NoDeed NoWord y → Goes
    moved (run.Still es e) = inl (same_imports (ap (λ (w : World). w.connections) e))
    moved (run.Severs k a b e) = inl (cut_imports k a b e)
    moved (run.Drops a b n ns j es from uncut notes none e) = inl (same_imports (ap (λ (w : World). w.connections) e))
    moved (run.Steps a q o t what head decent alone may quiet d e) = inl (went_imports a t head x e x.connections (quiet x.connections))
    moved (run.Arrives a b q t n ns l k frame decent from uncut notes d e) = arrives a b t n ns l (Carried k a b n frame ∷ []) from uncut e (carried_heard script k a b n frame x.connections) (same_or b a u v)
    moved (run.Hears a b q t n ns j k frame hostile from uncut notes i g e) = absurd hostile
    moved (run.Tells a b q t p ds n hostile i g j o e) = absurd hostile

    entry_goes : (e : Entry) (k : ℕ) → world.step script e k x ≡ Going y → Goes
    entry_goes e k i = moved (moves_told script Nobody AnyNotice NoDeed NoWord x y (Stepped e k (honest script x e) i))

    opening_goes : (a : ℕ) (p : Program) → Opened script x y a p → Goes
    opening_goes a p o = inl (went_imports a o.1 (Opens a ∷ []) x o.3 x.connections (quiet_open a))

  abbrev Both : World → Type 0
  Both w = ImportsTold w × ImportsUnasked w

  module _ (x y : World) (f : Known x) (g : Known y) (pair : Onward script x y) (goes : (u v : ℕ) → Goes x y u v) (h : Both x) (u v : ℕ) (low_u : u < length y.vats) (low_v : v < length y.vats) (other : v ≡ u → ⊥) where
    was_u : u < length x.vats
    was_u = subst (λ n. u < n) (g.count ∙ sym f.count) low_u

    was_v : v < length x.vats
    was_v = subst (λ n. v < n) (g.count ∙ sym f.count) low_v

    abbrev L : (l : Link) × (link_at v u y.links ≡ Some l)
    L = in_link y g u v low_u low_v other

    -- what was told before is told after
    told_later : (z : Name) → Told x v u z → Told y v u z
    told_later z (l, e, t) = (L.0, L.1, go t)
      where
        from : FoundFrom x.links v u L.0
        from = goes_of script x y (splits script x f.facts) pair.0 v u L.0 L.1

        same : from.0 ≡ l
        same = some_is from.0 l (sym from.1 ∙ e)

        go : IsAmong z l.roots ⊎ ((n : Note Name) × IsAmong n l.log × IsAmong z (told_in n)) → IsAmong z L.0.roots ⊎ ((n : Note Name) × IsAmong n L.0.log × IsAmong z (told_in n))
        go (inl a) = inl (subst (IsAmong z) (sym (from.2.roots)) (subst (λ (k : Link). IsAmong z k.roots) (sym same) a))
        go (inr a) = inr (a.0, from.2.log a.0 (subst (λ (k : Link). IsAmong a.0 k.log) (sym same) a.1), a.2)

    told_on : Goes x y u v → (z : Name) → IsAmong z (Imports y.connections u v) → Told y v u z
    told_on (inl e) z a = told_later z (h.0 u v was_u was_v other z (subst (IsAmong z) e a))
    told_on (inr o) z a = open_told y g u v low_u low_v other (o L.0 L.1) z a

    unasked_told : (z : Name) → IsAmong z (Asked y u v) → Told x v u z → IsAmong z (Imports x.connections u v) → ⊥
    unasked_told z a (l, e, inl r) b = root_not y g u v low_u low_v other z a (is_root x f u v was_u was_v other l e z r)
    unasked_told z a (l, e, inr t) b = h.1 u v was_u was_v other z (pair.1 u v l e t.0 z t.1 t.2 a) b

    unasked_on : Goes x y u v → (z : Name) → IsAmong z (Asked y u v) → IsAmong z (Imports y.connections u v) → ⊥
    unasked_on (inl e) z a b = let c = subst (IsAmong z) e b in unasked_told z a (h.0 u v was_u was_v other z c) c
    unasked_on (inr o) z a b = true_false (both_cut y g u v low_u low_v other z a b) (o L.0 L.1)

  both_on : (x y : World) → Known x → Known y → Onward script x y → ((u v : ℕ) → Goes x y u v) → Both x → Both y
  both_on x y f g pair goes h = (
    λ u v low_u low_v other. told_on x y f g pair goes h u v low_u low_v other (goes u v),
    λ u v low_u low_v other. unasked_on x y f g pair goes h u v low_u low_v other (goes u v),
  )

  -- no link is cut at the start
  begins_both : Known (world.begins script) → Both (world.begins script)
  begins_both f = let w = world.begins script in (
    λ u v low_u low_v other. let l = in_link w f u v low_u low_v other in open_told w f u v low_u low_v other (begins_open script v u l.0 l.1),
    λ u v low_u low_v other z a b. let l = in_link w f u v low_u low_v other in true_false (both_cut w f u v low_u low_v other z a b) (begins_open script v u l.0 l.1),
  )

  -- ---- runs

  module _ (once : KnowsOnce script) where
    opened_known : Openings script once Known
    opened_known ps rest w split e = record {
      facts = (opened_worldly script once ps rest w split e).facts;
      kept = opened_kept script once ps rest w split e;
      paired = opened_paired script once ps rest w split e;
      linked = opened_linked script once ps rest w split e;
      count = opened_counted script once ps rest w split e;
      roots = opened_roots script once ps rest w split e;
      untold = (each_untold script once).0 ps rest w split e;
      moves = (honest_reached script).0 ps rest w split e;
    }

    stepped_known : Entries script once Known
    stepped_known w x es k follow opened stepped = record {
      facts = (stepped_worldly script once w x es k follow opened stepped).facts;
      kept = stepped_kept script once w x es k follow opened stepped;
      paired = stepped_paired script once w x es k opened stepped;
      linked = stepped_linked script once w x es k opened stepped;
      count = stepped_counted script once w x es k opened stepped;
      roots = stepped_roots script once w x es k opened stepped;
      untold = (each_untold script once).1 w x es k follow opened stepped;
      moves = (honest_reached script).1 w x es k opened stepped;
    }

    first_known : Known (world.begins script)
    unfolding world.open_from
    first_known = opened_known [] script.vats (world.begins script) refl refl

    opened_both : Openings script once Both
    opened_both = opened_holds script Known Known (Onward script) opened_known stepped_known (opening_pair script once) (entry_pair script once) Both (λ a p x y f g m o h. both_on x y f g m (λ u v. opening_goes x y u v a p o) h) (λ e k x y f g m i h. both_on x y f g m (λ u v. entry_goes x y u v e k i) h) (begins_both first_known)

    stepped_both : Entries script once Both
    stepped_both = stepped_holds script Known Known (Onward script) opened_known stepped_known (opening_pair script once) (entry_pair script once) Both (λ a p x y f g m o h. both_on x y f g m (λ u v. opening_goes x y u v a p o) h) (λ e k x y f g m i h. both_on x y f g m (λ u v. entry_goes x y u v e k i) h) (begins_both first_known)

    asks_once : (w : World) → Known w → AsksEachOnce w → Both w → AsksOnce w
    asks_once w f asked h = record {
      asked = asked;
      untold = λ u v low_u low_v other z a b. let m = out_link w f u v low_u low_v other in h.1 u v low_u low_v other z (subst (IsAmong z) (questions_logged script [] w (reached script w f.moves) u v m.0 m.1) a) b;
    }

pub each_asks_once : EachAsksOnce
each_asks_once script once = (
  λ ps rest w split e. asks_once script once w (opened_known script once ps rest w split e) ((each_asked script once).0 ps rest w split e) (opened_both script once ps rest w split e),
  λ w x es k follow opened stepped. asks_once script once x (stepped_known script once w x es k follow opened stepped) ((each_asked script once).1 w x es k follow opened stepped) (stepped_both script once w x es k follow opened stepped),
)
