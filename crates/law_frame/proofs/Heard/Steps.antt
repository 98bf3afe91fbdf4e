-- Each step of a run keeps that what vats have in numbers for each other goes with what the notes between them tell.
use Rattle.std.proofs.Common.{◌≡◌, ℕ, false, List, [], ◌∷◌, Some, refl, sym, ap, subst, ◌∙◌, ◌⊎◌, inl, inr}
use Rattle.std.specs.Prelude.{slice_get, option_map}
use Rattle.def_machine.specs.Values.{Name, host_of}
use Rattle.def_machine.specs.State.{Note, Put, Vat}
use Rattle.def_run.specs.Connections.{Connection}
use Rattle.def_run.specs.Wire as conn
use Rattle.def_run.specs.Wire.{Connected, connected_at, with_connected}
use Rattle.def_run.specs.World as world
use Rattle.def_run.specs.World.{Script, Program, Opens, Entry, CutLink, NoticeLink, Event, Carried, Link, World, Goes as Going, link_at, with_link, with_notes, pushed, severed_link, put_at, push_all, has_name}
use Rattle.law_machine.specs.Run.Moves as run
use Rattle.law_machine.specs.Run.Moves.{Stepped, IsHonest, Nobody, AnyNotice, went}
use Rattle.law_machine.proofs.Run.Honest.{NoDeed, NoWord}
use Rattle.law_machine.proofs.Run.Told.{moves_told}
use Rattle.law_fate.specs.Name.Names.{IsAmong, PutOk}
use Rattle.law_fate.proofs.Name.Among.{all_among, get_put}
use Rattle.law_fate.proofs.Name.Run.{Had}
use Rattle.law_fate.proofs.Name.SameNames.{has_among, among_has}
use Rattle.law_machine.proofs.Renamed.Stands.{both}
use Rattle.law_reference.specs.Reference.Logs as wire
use Rattle.law_reference.proofs.Reference.AskRuns.{NoticedCut}
use Rattle.law_reference.proofs.Reference.Moves.{Moved}
use Rattle.law_frame.specs.Frame.Asked.{told_in}
use Rattle.law_frame.specs.Frame.Tables.{arrived}
use Rattle.law_frame.specs.Frame.Exports.{AsksForNothingTold}
use Rattle.law_frame.proofs.Frame.WireArrivals.{arrived_is}
use Rattle.law_frame.proofs.Frame.Exports as exports
use Rattle.law_frame.proofs.Frame.Exports.{asked_on, each_so}
use Rattle.law_frame.proofs.Frame.Grow.{questions_twice, among_left}
use Rattle.law_frame.proofs.Frame.Objects.{Handed}
use Rattle.law_frame.proofs.Frame.Places.{same_or, link_same, link_other}
use Rattle.law_frame.proofs.Frame.SourceLaws.{log_is}
use Rattle.law_frame.proofs.Frame.Written.{pushed_from, pushed_to, notes_from, notes_to, carried_heard}
use Rattle.law_frame.proofs.Heard.Pairs.{pushed_cut}
use Rattle.law_frame.proofs.Heard.Bare.{Bare}
use Rattle.law_frame.proofs.Heard.Pending.{Facts, AloneWhereLate, stands}
use Rattle.law_frame.proofs.Heard.Here.{ToldHere, VatsHere}
use Rattle.law_frame.proofs.Heard.Puts.{Early, peer_given, own_heard}
use Rattle.law_frame.proofs.Heard.Kept.{Noted, Kept, kept_asked}
use Rattle.law_frame.proofs.Heard.Read.{Fits}
use Rattle.law_frame.proofs.Heard.Links.{Uncut, Good, MayPut, good_vats, puts_good, read_good, severed_good, dropped_good}
use Rattle.law_frame.proofs.Heard.Lift.{Opened}

-- what each vat asked each other one for
abbrev pub Asked : World → ℕ → ℕ → List Name
Asked w a b = wire.questions (λ i. i) w.links a b

abbrev pub AllKept : World → Type 0
AllKept w = Good (Asked w) w.vats w.links w.connections

-- ---- notes are put

put_link : (n : Note Name) (a b v u : ℕ) (ls : List Link) (l : Link) → link_at v u ls ≡ Some l → (k : Link) × (link_at v u (with_link (pushed n) a b ls) ≡ Some k) × (k.cut ≡ l.cut) × ((v ≡ a → ⊥) → k ≡ l)
put_link n a b v u ls l at = either (same_or a b v u)
  where
    either : ((a ≡ v) × (b ≡ u)) ⊎ (a ≡ v → b ≡ u → ⊥) → (k : Link) × (link_at v u (with_link (pushed n) a b ls) ≡ Some k) × (k.cut ≡ l.cut) × ((v ≡ a → ⊥) → k ≡ l)
    either (inr o) = (l, link_other (pushed n) (pushed_from n) (pushed_to n) a b v u ls o ∙ at, refl, λ i. refl)
    either (inl e) = (pushed n l, ap (λ (x : ℕ). link_at v u (with_link (pushed n) x b ls)) e.0 ∙ ap (λ (y : ℕ). link_at v u (with_link (pushed n) v y ls)) e.1 ∙ link_same (pushed n) (pushed_from n) (pushed_to n) v u ls ∙ ap (λ o. option_map (pushed n) o) at, pushed_cut n l, λ i. absurd (i (sym e.0)))

-- a link on which nothing is put stays, and others stay as cut as they are
puts_link : (a : ℕ) (ps : List (Put Name)) (v u : ℕ) (ls : List Link) (l : Link) → link_at v u ls ≡ Some l → (k : Link) × (link_at v u (push_all a ps ls) ≡ Some k) × (k.cut ≡ l.cut) × ((v ≡ a → ⊥) → k ≡ l)
unfolding push_all
puts_link a [] v u ls l at = (l, at, refl, λ i. refl)
puts_link a (p ∷ ps) v u ls l at = let one = put_link p.note a p.to v u ls l at in let rest = puts_link a ps v u (with_link (pushed p.note) a p.to ls) one.0 one.1 in (rest.0, rest.1, rest.2 ∙ one.2, λ i. rest.3 i ∙ one.3 i)

module _ (script : Script) where
  -- what is known of each world of a run
  pub record Worldly (w : World) : Type 0 where
    pub facts : Facts script w
    pub here : VatsHere w.vats w.links
    pub late : AloneWhereLate w
    pub noticed : NoticedCut w
    pub early : Early w

  -- and of the next note on a link, after the opening turns
  abbrev pub NextFits : World → Type 0
  NextFits w = (a b : ℕ) → (a ≡ b → ⊥) → (s : Vat Name) → slice_get w.vats b ≡ Some s → (l : Link) → link_at a b w.links ≡ Some l → l.cut ≡ false → (n : Note Name) (ns : List (Note Name)) → l.notes ≡ n ∷ ns
      → Fits a b (Asked w a b) (wire.questions_in b (arrived (Some l))) n

  -- and of each step
  abbrev pub Onward : World → World → Type 0
  Onward x y = Moved script x y × ((u : ℕ) → AsksForNothingTold x y u)

  module _ (x y : World) (pair : Onward x y) where
    asked_after : (a b : ℕ) (z : Name) → IsAmong z (Asked x a b) → IsAmong z (Asked y a b)
    unfolding wire.questions
    asked_after a b z k = asked_on script x y pair.0 a b z (link_at a b x.links) refl k

    -- by what is asked for in the world after
    pub asked_good : (vats : List (Vat Name)) → AllKept x → Good (Asked y) x.vats x.links x.connections
    asked_good vats h v u other r s there gone l m at back free shut = kept_asked v u (Asked x v u) (Asked y v u) (Asked x u v) (Asked y u v) (connected_at v u x.connections) (connected_at u v x.connections) l.log l.notes l.roots (asked_after v u)
        (λ n a. exports.alike script x y pair.0 u (pair.1 u) v l at n a) (h v u other r s there gone l m at back free shut)

  -- vat v goes on to t, and puts what it put
  module _ (x y : World) (of : Worldly y) (v : ℕ) (t : Vat Name) (placed : slice_get y.vats v ≡ Some t) (vats : List (Vat Name)) (ls : List Link) (cs : List Connected) (links : y.links ≡ push_all v t.outbox ls) (h : Good (Asked y) vats ls cs) where
    module _ (p : Put Name) (among : IsAmong p t.outbox) (other : v ≡ p.to → ⊥) (r s : Vat Name) (there : slice_get vats v ≡ Some r) (gone : slice_get vats p.to ≡ Some s) (out : Uncut v p.to ls) (into : Uncut p.to v ls) where
      kept : Kept p.to v (Asked y p.to v) (Asked y v p.to) (connected_at p.to v cs) (connected_at v p.to cs) into.0.log into.0.notes into.0.roots
      kept = h p.to v (λ e. other (sym e)) s r gone there into.0 out.0 into.1 out.1 into.2 out.2

      gone_is : arrived (Some into.0) ≡ kept.2
      gone_is = arrived_is into.0 kept.2 kept.5

      back : link_at p.to v y.links ≡ Some into.0
      back = let k = puts_link v t.outbox p.to v ls into.0 into.1 in ap (λ ks. link_at p.to v ks) links ∙ k.1 ∙ ap (λ z. Some z) (k.3 (λ i. other (sym i)))

      later : (k : Link) × (link_at v p.to y.links ≡ Some k) × (k.cut ≡ false)
      later = let k = puts_link v t.outbox v p.to ls out.0 out.1 in (k.0, ap (λ ks. link_at v p.to ks) links ∙ k.1, k.2 ∙ out.2)

      ok : PutOk (Had script y v t) p
      ok = let k = (stands script y of.facts).vats v t placed in let parts = k.parts in all_among (PutOk (Had script y v t)) t.outbox p parts.outbox among

      handed : PutOk (Handed v (ToldHere y.links v)) p
      handed = let parts = of.here v t placed in all_among (PutOk (Handed v (ToldHere y.links v))) t.outbox p parts.outbox among

      peer : (z : Name) → IsAmong z (told_in p.note) → host_of z ≡ p.to → IsAmong z (Asked y v p.to) ⊎ IsAmong z (connected_at v p.to cs).tables.imports
      peer z a host = either (peer_given script y of.facts of.here of.late of.noticed of.early v p.to t placed other later.0 into.0 later.1 back later.2 into.2 p.note ok handed (λ i alone. all_among (PutOk (Bare v i v)) t.outbox p (let b = alone.bare v t other placed in b.outbox) among) z a host)
        where
          either : IsAmong z (Asked y v p.to) ⊎ IsAmong z (wire.exports_after p.to (Asked y v p.to) (arrived (Some into.0)) into.0.roots) → IsAmong z (Asked y v p.to) ⊎ IsAmong z (connected_at v p.to cs).tables.imports
          either (inl b) = inl b
          either (inr b) = inr (subst (λ ns. IsAmong z ns) (ap (λ ms. wire.exports_after p.to (Asked y v p.to) ms into.0.roots) gone_is ∙ sym kept.7) b)

      own : (z : Name) → IsAmong z (told_in p.note) → IsAmong z (Asked y p.to v) → IsAmong z (wire.questions_in v kept.2)
      own z a b = subst (λ ms. IsAmong z (wire.questions_in v ms)) gone_is (own_heard script y of.facts of.here of.late of.noticed of.early v p.to t placed other later.0 into.0 later.1 back later.2 into.2 p.note ok handed (λ i alone. all_among (PutOk (Bare v i v)) t.outbox p (let k = alone.bare v t other placed in k.outbox) among) z a b)

      asked_there : (z : Name) → IsAmong z (wire.questions_in v kept.2) → IsAmong z (Asked y p.to v)
      unfolding wire.questions
      asked_there z b = subst (λ ns. IsAmong z ns) (sym (ap (wire.questions_in v) (log_is into.0 (link_at p.to v y.links) back ∙ kept.5) ∙ questions_twice v kept.2 into.0.notes)) (among_left z (wire.questions_in v kept.2) (wire.questions_in v into.0.notes) b)

      noted : (c : Connection Name) → c.imports ≡ (connected_at v p.to cs).tables.imports → c.answers ≡ (connected_at v p.to cs).tables.answers → Noted v p.to (Asked y v p.to) (Asked y p.to v) p.note c
      noted c ei ea = record {
        gives = λ z a host. either z (peer z a host);
        heard = λ z a host. ap (λ (ns : List Name). has_name ns z) (ea ∙ kept.6) ∙ both (has_name (wire.questions_in v kept.2) z) (has_name (Asked y p.to v) z)
            (λ i. among_has (Asked y p.to v) z (asked_there z (has_among (wire.questions_in v kept.2) z i))) (λ i. among_has (wire.questions_in v kept.2) z (own z a (has_among (Asked y p.to v) z i)));
      }
        where
          either : (z : Name) → IsAmong z (Asked y v p.to) ⊎ IsAmong z (connected_at v p.to cs).tables.imports → IsAmong z (Asked y v p.to) ⊎ IsAmong z c.imports
          either z (inl b) = inl b
          either z (inr b) = inr (subst (λ ns. IsAmong z ns) (sym ei) b)

    put_kept : Good (Asked y) vats y.links (conn.write_all v t.outbox cs)
    put_kept = subst (λ ks. Good (Asked y) vats ks (conn.write_all v t.outbox cs)) (sym links)
        (puts_good (Asked y) vats v (λ b. (connected_at v b cs).tables.imports) (λ b. (connected_at v b cs).tables.answers) t.outbox ls cs (λ b. (refl, refl))
        (each_so (λ (p : Put Name). MayPut (Asked y) vats v p.to ls (connected_at v p.to cs).tables.imports (connected_at v p.to cs).tables.answers p.note) t.outbox (λ p a other r s there gone out into c ei ea. noted p a other r s there gone out into c ei ea)) h)

  -- ---- an opening turn

  quiet_open : (v : ℕ) (cs : List Connected) → world.heard_by (Opens v ∷ []) cs ≡ cs
  unfolding world.heard_by
  quiet_open v cs = refl

  pub went_vats : (v : ℕ) (x : World) (head : List Event) (t : Vat Name) → (went v x head t).vats ≡ put_at v t x.vats
  unfolding went
  went_vats v x head t = refl

  pub went_links : (v : ℕ) (x : World) (head : List Event) (t : Vat Name) → (went v x head t).links ≡ push_all v t.outbox x.links
  unfolding went
  went_links v x head t = refl

  pub went_connections : (v : ℕ) (x : World) (head : List Event) (t : Vat Name) → (went v x head t).connections ≡ conn.write_all v t.outbox (world.heard_by head x.connections)
  unfolding went world.connections_after
  went_connections v x head t = refl

  -- vat v, which was there, goes on to t, by links and connections that are kept
  went_good : (x y : World) (of : Worldly y) (v : ℕ) (s t : Vat Name) (head : List Event) (base : World) → slice_get x.vats v ≡ Some s → base.vats ≡ x.vats → y ≡ went v base head t → (cs : List Connected) → world.heard_by head base.connections ≡ cs → Good (Asked y) x.vats base.links cs → AllKept y
  went_good x y of v s t head base there same e cs quiet h = subst (λ us. Good (Asked y) us y.links y.connections) (sym vats)
      (subst (λ ds. Good (Asked y) (put_at v t x.vats) y.links ds) (sym connections) (put_kept x y of v t placed (put_at v t x.vats) base.links cs links (good_vats (Asked y) v t x.vats base.links cs h)))
    where
      vats : y.vats ≡ put_at v t x.vats
      vats = ap (λ (z : World). z.vats) e ∙ went_vats v base head t ∙ ap (put_at v t) same

      placed : slice_get y.vats v ≡ Some t
      placed = ap (λ us. slice_get us v) vats ∙ get_put x.vats v s t there

      links : y.links ≡ push_all v t.outbox base.links
      links = ap (λ (z : World). z.links) e ∙ went_links v base head t

      connections : y.connections ≡ conn.write_all v t.outbox cs
      connections = ap (λ (z : World). z.connections) e ∙ went_connections v base head t ∙ ap (conn.write_all v t.outbox) quiet

  pub opening_kept : (v : ℕ) (p : Program) (x y : World) → Worldly x → Worldly y → Onward x y → Opened script x y v p → AllKept x → AllKept y
  opening_kept v p x y f g pair o h = let d = o.2 in went_good x y g v o.0 o.1 (Opens v ∷ []) x d.there refl o.3 x.connections (quiet_open v x.connections) (asked_good x y pair x.vats h)

  -- ---- an entry

  pub honest : (x : World) (e : Entry) → IsHonest script Nobody AnyNotice NoDeed NoWord x e
  honest x (CutLink a b) = tt
  honest x (NoticeLink v to) = (λ i. i, tt)
  honest x other = λ i. i

  going_is : (x y : World) → Going x ≡ Going y → y ≡ x
  going_is x y e = cc

  cut_kept : (x y : World) (k a b : ℕ) → Good (Asked y) x.vats x.links x.connections → world.step script (CutLink a b) k x ≡ Going y → AllKept y
  unfolding world.step world.cut
  cut_kept x y k a b h e = let same = going_is _ y e in let cut = severed_good (Asked y) x.vats b a (with_link severed_link a b x.links) x.connections (severed_good (Asked y) x.vats a b x.links x.connections h) in
      subst (λ (z : World). Good (Asked y) z.vats z.links z.connections) (sym same) cut

  -- the note that arrives fits, by what is asked for in the world after
  module _ (x y : World) (h : Good (Asked y) x.vats x.links x.connections) (a v : ℕ) (s t : Vat Name) (n : Note Name) (ns : List (Note Name)) (l : Link) (at : link_at a v x.links ≡ Some l) (notes : l.notes ≡ n ∷ ns)
      (links : y.links ≡ push_all v t.outbox (with_link (with_notes ns) a v x.links)) (fits : Fits a v (Asked x a v) (wire.questions_in v (arrived (Some l))) n) where
    log_stays : (let j : Link = with_notes ns l in j.log) ≡ l.log
    unfolding with_notes
    log_stays = refl

    still_asked : (a ≡ v → ⊥) → Asked y a v ≡ Asked x a v
    unfolding wire.questions
    still_asked other = let k = puts_link v t.outbox a v (with_link (with_notes ns) a v x.links) (with_notes ns l) (link_same (with_notes ns) (notes_from ns) (notes_to ns) a v x.links ∙ ap (λ o. option_map (with_notes ns) o) at) in
        ap (wire.questions_in v) (log_is (with_notes ns l) (link_at a v y.links) (ap (λ ks. link_at a v ks) links ∙ k.1 ∙ ap (λ z. Some z) (k.3 other)) ∙ log_stays ∙ sym (log_is l (link_at a v x.links) at))

    next_fits : (a ≡ v → ⊥) → (r q : Vat Name) → slice_get x.vats a ≡ Some r → slice_get x.vats v ≡ Some q → (j : Link) → link_at v a x.links ≡ Some j → l.cut ≡ false → j.cut ≡ false → Fits a v (Asked y a v) (connected_at v a x.connections).tables.answers n
    next_fits other r q there gone j back free shut = let kept = h a v other r q there gone l j at back free shut in record {
      ends = fits.ends;
      asked = λ z b host i. subst (λ ms. IsAmong z ms) (ap (wire.questions_in v) (arrived_is l kept.2 kept.5) ∙ sym kept.6) (fits.asked z b host (subst (λ ms. IsAmong z ms) (still_asked other) i));
      lists = fits.lists;
      provided = fits.provided;
    }

  entry_moved : (x y : World) → Worldly y → NextFits x → Onward x y → AllKept x → run.Moved script x Nobody AnyNotice NoDeed NoWord y → AllKept y
  entry_moved x y g next pair h (run.Still es e) = let k = asked_good x y pair x.vats h in subst (λ (z : World). Good (Asked y) z.vats z.links z.connections) (sym e) k
  entry_moved x y g next pair h (run.Severs k a b e) = cut_kept x y k a b (asked_good x y pair x.vats h) e
  entry_moved x y g next pair h (run.Drops a v n ns l es at uncut notes none e) = let k = dropped_good (Asked y) x.vats a v ns x.links x.connections none (asked_good x y pair x.vats h) in subst (λ (z : World). Good (Asked y) z.vats z.links z.connections) (sym e) k
  entry_moved x y g next pair h (run.Steps v s q t what head honest alone may quiet d e) = went_good x y g v s t head x d.there refl e x.connections (quiet x.connections) (asked_good x y pair x.vats h)
  entry_moved x y g next pair h (run.Arrives a v s t n ns l k frame honest at uncut notes d e) = let before = asked_good x y pair x.vats h in
      went_good x y g v s t (Carried k a v n frame ∷ []) (record x { links = with_link (with_notes ns) a v x.links }) d.there refl e (with_connected (conn.received (connected_at a v x.connections) n) v a x.connections) (carried_heard script k a v n frame x.connections)
      (read_good (Asked y) x.vats a v l n ns x.links x.connections at notes (λ other r q there gone j back free shut. next_fits x y before a v s t n ns l at notes (ap (λ (z : World). z.links) e ∙ went_links v (record x { links = with_link (with_notes ns) a v x.links }) (Carried k a v n frame ∷ []) t) (next a v other s d.there l at uncut n ns notes) other r q there gone j back free shut) before)
  entry_moved x y g next pair h (run.Hears a v s t n ns l k frame hostile at uncut notes there i e) = absurd hostile
  entry_moved x y g next pair h (run.Tells v u s t r ds n hostile there p l o e) = absurd hostile

  pub entry_kept : (entry : Entry) (k : ℕ) (x y : World) → Worldly x → NextFits x → Worldly y → Onward x y → world.step script entry k x ≡ Going y → AllKept x → AllKept y
  entry_kept entry k x y f next g pair e h = entry_moved x y g next pair h (moves_told script Nobody AnyNotice NoDeed NoWord x y (Stepped entry k (honest x entry) e))
