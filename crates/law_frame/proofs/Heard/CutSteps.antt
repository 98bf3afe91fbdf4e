-- Each step of a run keeps that a vat has of its exports what the log of the link tells, be it cut or not.
use Rattle.std.proofs.Common.{◌≡◌, ℕ, Bool, true, false, List, [], ◌∷◌, Some, refl, sym, ap, subst, ◌∙◌, ◌⊎◌, inl, inr}
use Rattle.std.specs.Prelude.{slice_get}
use Rattle.def_machine.specs.Values.{Name}
use Rattle.def_machine.specs.State.{Note, Put, Vat}
use Rattle.def_run.specs.Wire as conn
use Rattle.def_run.specs.Wire.{Connected, connected_at, with_connected}
use Rattle.def_run.specs.World as world
use Rattle.def_run.specs.World.{Script, Program, Opens, Entry, CutLink, Event, Carried, Link, World, Goes as Going, link_at, with_link, with_notes, severed_link, put_at, has_name}
use Rattle.law_machine.specs.Run.Moves as run
use Rattle.law_machine.specs.Run.Moves.{Stepped, Nobody, AnyNotice, went}
use Rattle.law_machine.proofs.Run.Honest.{NoDeed, NoWord}
use Rattle.law_machine.proofs.Run.Told.{moves_told}
use Rattle.law_fate.specs.Name.Names.{IsAmong}
use Rattle.law_fate.proofs.Name.Among.{get_put}
use Rattle.law_fate.proofs.Name.SameNames.{has_among, among_has}
use Rattle.law_machine.proofs.Renamed.Stands.{both}
use Rattle.law_reference.specs.Reference.Logs as wire
use Rattle.law_reference.proofs.Reference.Follow.{put_cases}
use Rattle.law_frame.specs.Frame.Asked.{told_in}
use Rattle.law_frame.proofs.Frame.Exports as exports
use Rattle.law_frame.proofs.Frame.Exports.{log_same, each_so}
use Rattle.law_frame.proofs.Frame.Ranks.{exports_twice}
use Rattle.law_frame.proofs.Frame.Written.{carried_heard}
use Rattle.law_frame.proofs.Heard.CutPuts.{AsLogged, Fitting, puts_answers, puts_logged, taken_logged, cut_logged, read_logged}
use Rattle.law_frame.proofs.Heard.Kept.{Kept, kept_exports}
use Rattle.law_frame.proofs.Heard.Lift.{Opened}
use Rattle.law_frame.proofs.Heard.Pairs.{Paired}
use Rattle.law_frame.proofs.Heard.Pending.{Facts, wires}
use Rattle.law_frame.specs.Frame.Tables.{arrived}
use Rattle.law_frame.proofs.Frame.WireArrivals.{arrived_is}
use Rattle.law_frame.proofs.Heard.Steps.{Asked, AllKept, Worldly, Onward, honest, went_vats, went_links, went_connections}

-- what a vat heard that it was asked for, it was asked for
abbrev pub HeardWereAsked : World → Type 0
HeardWereAsked w = (v u : ℕ) (z : Name) → IsAmong z (connected_at v u w.connections).tables.answers → IsAmong z (Asked w u v)

-- What a vat puts on a cut link tells none of its own names for which the other asks, but those for which it was heard to ask.
abbrev pub LostUntold : World → Type 0
LostUntold w = (v u : ℕ) (t : Vat Name) → slice_get w.vats v ≡ Some t → (v ≡ u → ⊥) → (l : Link) → link_at v u w.links ≡ Some l → l.cut ≡ true → (p : Put Name) → IsAmong p t.outbox → p.to ≡ u
    → (z : Name) → IsAmong z (told_in p.note) → IsAmong z (Asked w u v) → IsAmong z (connected_at v u w.connections).tables.answers

abbrev pub LogsKept : World → Type 0
LogsKept w = (v u : ℕ) (r s : Vat Name) → slice_get w.vats v ≡ Some r → slice_get w.vats u ≡ Some s → (v ≡ u → ⊥) → AsLogged (Asked w u v) v u w.links w.connections

module _ (script : Script) where
  -- ---- a link that is not cut

  module _ (y : World) (facts : Facts script y) (kept_all : AllKept y) (pairs : Paired y) (v u : ℕ) (r s : Vat Name) (there : slice_get y.vats v ≡ Some r) (gone : slice_get y.vats u ≡ Some s) (other : v ≡ u → ⊥) (l : Link) (at : link_at v u y.links ≡ Some l) (uncut : l.cut ≡ false) where
    back : (m : Link) × (link_at u v y.links ≡ Some m) × (m.cut ≡ false)
    back = let wired = wires script y facts in let m = wired.paired v u (l, at) in let cut = pairs.0 v u in (m.0, m.1, cut.2 m.0 m.1 ∙ sym (cut.1 l at) ∙ uncut)

    kept : Kept v u (Asked y v u) (Asked y u v) (connected_at v u y.connections) (connected_at u v y.connections) l.log l.notes l.roots
    kept = kept_all v u other r s there gone l back.0 at back.1 uncut back.2

    pub open_logged : (connected_at v u y.connections).tables.exports ≡ wire.exports_after v (Asked y u v) l.log l.roots
    open_logged = let k = kept in let D = connected_at u v y.connections in let A : List Name = Asked y u v in
        kept_exports v u (Asked y v u) A (connected_at v u y.connections) D.tables.imports D.tables.answers l.notes k.1 k.8 ∙ ap (λ (is : List Name). wire.exports_after v A l.notes is) k.7
        ∙ sym (exports_twice v A k.2 l.notes l.roots) ∙ ap (λ (ms : List (Note Name)). wire.exports_after v A ms l.roots) (sym k.5)

    -- what was heard is what was asked for in the notes that have arrived
    pub open_answers : (connected_at u v y.connections).tables.answers ≡ wire.questions_in u (arrived (Some l))
    open_answers = let k = kept in k.6 ∙ ap (wire.questions_in u) (sym (arrived_is l k.2 k.5))

  -- what is known of each world of a run
  pub record Ready (w : World) : Type 0 where
    pub worldly : Worldly script w
    pub kept : AllKept w
    pub paired : Paired w
    pub heard : HeardWereAsked w
    pub untold : LostUntold w

  module _ (x y : World) (pair : Onward script x y) (of : Ready y) (h : LogsKept x) (v u : ℕ) (r s : Vat Name) (there : slice_get y.vats v ≡ Some r) (gone : slice_get y.vats u ≡ Some s) (other : v ≡ u → ⊥) (l : Link) (at : link_at v u y.links ≡ Some l) where
    abbrev A : List Name
    A = Asked y u v

    abbrev In : World → Type 0
    In z = AsLogged A v u z.links z.connections

    -- ---- a link that is cut

    module _ (cut : l.cut ≡ true) where
      -- by what is asked for in the world after
      base : (q p : Vat Name) → slice_get x.vats v ≡ Some q → slice_get x.vats u ≡ Some p → In x
      base q p i j k e = h v u q p i j other k e ∙ log_same v (Asked x u v) A k.log k.roots (λ n a. exports.alike script x y pair.0 u (pair.1 u) v k e n a)

      abbrev Q : List Name
      Q = (connected_at v u y.connections).tables.answers

      fitting : (a : ℕ) (t : Vat Name) → slice_get y.vats a ≡ Some t → (p : Put Name) → IsAmong p t.outbox → a ≡ v → p.to ≡ u → Fitting A v u Q p.note
      fitting a t placed p among i j z b host = both (has_name Q z) (has_name A z) (λ e. among_has A z (of.heard v u z (has_among Q z e)))
          (λ e. among_has Q z (of.untold v u t (subst (λ c. slice_get y.vats c ≡ Some t) i placed) other l at cut p among j z b (has_among A z e)))

      was : (a : ℕ) (q t : Vat Name) → slice_get x.vats a ≡ Some q → y.vats ≡ put_at a t x.vats → (c : ℕ) (p : Vat Name) → slice_get y.vats c ≡ Some p → (o : Vat Name) × (slice_get x.vats c ≡ Some o)
      was a q t i e c p j = either (put_cases a t x.vats c p (subst (λ us. slice_get us c ≡ Some p) e j))
        where
          either : ((c ≡ a) × (t ≡ p)) ⊎ ((c ≡ a → ⊥) × (slice_get x.vats c ≡ Some p)) → (o : Vat Name) × (slice_get x.vats c ≡ Some o)
          either (inl k) = (q, ap (λ d. slice_get x.vats d) k.0 ∙ i)
          either (inr k) = (p, k.1)

      -- vat a, which was in state q, went on to t
      went_on : (a : ℕ) (q t : Vat Name) (head : List Event) (before : World) → slice_get x.vats a ≡ Some q → before.vats ≡ x.vats → y ≡ went a before head t → (cs : List Connected) → world.heard_by head before.connections ≡ cs
          → ((o p : Vat Name) → slice_get x.vats v ≡ Some o → slice_get x.vats u ≡ Some p → AsLogged A v u before.links cs) → In y
      went_on a q t head before i same e cs quiet k = subst (λ ls. AsLogged A v u ls y.connections) (sym links) (subst (λ ds. AsLogged A v u (world.push_all a t.outbox before.links) ds) (sym connections)
          (puts_logged A v u Q a t.outbox before.links cs (sym (puts_answers a v u t.outbox cs) ∙ ap (λ ds. (connected_at v u ds).tables.answers) (sym connections)) (each_so (λ (p : Put Name). a ≡ v → p.to ≡ u → Fitting A v u Q p.note) t.outbox (λ p b. fitting a t placed p b))
          (k first.0 second.0 first.1 second.1)))
        where
          vats : y.vats ≡ put_at a t x.vats
          vats = ap (λ (z : World). z.vats) e ∙ went_vats script a before head t ∙ ap (put_at a t) same

          placed : slice_get y.vats a ≡ Some t
          placed = ap (λ us. slice_get us a) vats ∙ get_put x.vats a q t i

          links : y.links ≡ world.push_all a t.outbox before.links
          links = ap (λ (z : World). z.links) e ∙ went_links script a before head t

          connections : y.connections ≡ conn.write_all a t.outbox cs
          connections = ap (λ (z : World). z.connections) e ∙ went_connections script a before head t ∙ ap (conn.write_all a t.outbox) quiet

          first : (o : Vat Name) × (slice_get x.vats v ≡ Some o)
          first = was a q t i vats v r there

          second : (o : Vat Name) × (slice_get x.vats u ≡ Some o)
          second = was a q t i vats u s gone

      going : {a b : World} → Going a ≡ Going b → a ≡ b
      going e = cc

      same_vats : y.vats ≡ x.vats → In x
      same_vats e = base r s (ap (λ us. slice_get us v) (sym e) ∙ there) (ap (λ us. slice_get us u) (sym e) ∙ gone)

      cuts : (k a b : ℕ) → world.step script (CutLink a b) k x ≡ Going y → In y
      unfolding world.step world.cut
      cuts k a b e = let i = going e in subst In i (cut_logged A v u b a (with_link severed_link a b x.links) x.connections (cut_logged A v u a b x.links x.connections (same_vats (ap (λ (z : World). z.vats) (sym i)))))

      moved : run.Moved script x Nobody AnyNotice NoDeed NoWord y → In y
      moved (run.Still es e) = subst In (sym e) (same_vats (ap (λ (z : World). z.vats) e))
      moved (run.Severs k a b e) = cuts k a b e
      moved (run.Drops a b n ns j es from uncut notes none e) = subst In (sym e) (taken_logged A v u a b ns x.links x.connections (same_vats (ap (λ (z : World). z.vats) e)))
      moved (run.Steps a q o t what head decent alone may quiet d e) = went_on a q t head x d.there refl e x.connections (quiet x.connections) base
      moved (run.Arrives a b q t n ns j k frame decent from uncut notes d e) =
          went_on b q t (Carried k a b n frame ∷ []) (record x { links = with_link (with_notes ns) a b x.links }) d.there refl e (with_connected (conn.received (connected_at a b x.connections) n) b a x.connections) (carried_heard script k a b n frame x.connections)
          (λ o p i g. read_logged A v u a b (connected_at a b x.connections) n (with_link (with_notes ns) a b x.links) x.connections (taken_logged A v u a b ns x.links x.connections (base o p i g)))
      moved (run.Hears a b q t n ns j k frame hostile from uncut notes i g e) = absurd hostile
      moved (run.Tells a b q t p ds n hostile i g j o e) = absurd hostile

      cut_entry : (e : Entry) (k : ℕ) → world.step script e k x ≡ Going y → In y
      cut_entry e k i = moved (moves_told script Nobody AnyNotice NoDeed NoWord x y (Stepped e k (honest script x e) i))

      quiet_open : (a : ℕ) → world.heard_by (Opens a ∷ []) x.connections ≡ x.connections
      unfolding world.heard_by
      quiet_open a = refl

      cut_opening : (a : ℕ) (p : Program) → Opened script x y a p → In y
      cut_opening a p o = let d = o.2 in went_on a o.0 o.1 (Opens a ∷ []) x d.there refl o.3 x.connections (quiet_open a) base

    -- ---- both

    by_entry : (b : Bool) → l.cut ≡ b → (e : Entry) (k : ℕ) → world.step script e k x ≡ Going y → (connected_at v u y.connections).tables.exports ≡ wire.exports_after v A l.log l.roots
    by_entry true i e k j = cut_entry i e k j l at
    by_entry false i e k j = open_logged y of.worldly.facts of.kept of.paired v u r s there gone other l at i

    by_opening : (b : Bool) → l.cut ≡ b → (a : ℕ) (p : Program) → Opened script x y a p → (connected_at v u y.connections).tables.exports ≡ wire.exports_after v A l.log l.roots
    by_opening true i a p o = cut_opening i a p o l at
    by_opening false i a p o = open_logged y of.worldly.facts of.kept of.paired v u r s there gone other l at i

  pub entry_logs : (e : Entry) (k : ℕ) (x y : World) → Ready y → Onward script x y → world.step script e k x ≡ Going y → LogsKept x → LogsKept y
  entry_logs e k x y of pair i h v u r s there gone other l at = by_entry x y pair of h v u r s there gone other l at l.cut refl e k i

  pub opening_logs : (a : ℕ) (p : Program) (x y : World) → Ready y → Onward script x y → Opened script x y a p → LogsKept x → LogsKept y
  opening_logs a p x y of pair o h v u r s there gone other l at = by_opening x y pair of h v u r s there gone other l at l.cut refl a p o
