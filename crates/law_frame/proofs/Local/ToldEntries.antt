-- Each entry that is a step of a vat is one of the steps of vats.
use Rattle.std.proofs.Common.{◌≡◌, ℕ, Bool, true, false, List, [], ◌∷◌, ◌++◌, Option, Some, None, refl, sym, ap, subst, ◌∙◌, length, inl}
use Rattle.std.specs.Prelude.{slice_get}
use Rattle.def_machine.specs.Values.{Name, Root}
use Rattle.def_machine.specs.State.{Message, Note, Vat, Done, Gives}
use Rattle.def_machine.specs.Eval.{opening}
use Rattle.def_machine.specs.Arrive.{notice}
use Rattle.def_run.specs.World as world
use Rattle.def_run.specs.World.{Script, Program, Opens, Entry, Turn, Carry, CutLink, NoticeLink, Event, Turned, Carried, NoticedAt, Link, World, Goes as Going, link_at, names, names_of, read_note, readied, put_at, with_link, with_notes}
use Rattle.law_machine.specs.Machine.Steps.{Step, Opens as Starts, Takes, Receives, Notices, does}
use Rattle.law_machine.specs.Run.Moves.{Does}
use Rattle.law_fate.specs.Name.Names.{IsAmong}
use Rattle.law_fate.proofs.Name.Among.{get_put}
use Rattle.law_frame.proofs.Frame.WireRuns.{get_mid, going_is}
use Rattle.law_frame.specs.Local.Told.{ByEntry}

-- what a step of vat v brings: the arrival of a note that is under way brings that note, and no other step brings one
abbrev pub Brings : World → ℕ → Vat Name → Step Name Name → Option (Note Name) → Type 0
Brings w v s (Receives from m) (Some n) = (l : Link) × (link_at from v w.links ≡ Some l) × IsAmong n l.notes × (m ≡ read_note (names_of s) n)
Brings w v s (Receives from m) None = ⊥
Brings w v s (Starts tree depth root given) o = o ≡ None
Brings w v s other o = o ≡ None

-- it holds of each vat, of what it was, of what a step of it brings, and of what the step leaves, whatever step may be the next
abbrev pub EachStep : Script → (ℕ → Vat Name → Option (Note Name) → Vat Name → Type 0) → World → Type 0
EachStep script P w = (v : ℕ) (s q t : Vat Name) (what : Step Name Name) (o : Option (Note Name)) → Brings w v s what o → Does script w v s q t what → P v s o t

-- the state after is what the step gave
put_gives : (v : ℕ) (x y : World) (head : List Event) (n : ℕ) (s r : Vat Name) (d : Done Name (Unit {0})) → slice_get x.vats v ≡ Some s → slice_get y.vats v ≡ Some r → world.put_back v x head n d ≡ Going y → d ≡ Gives tt r
unfolding world.put_back
put_gives v x y head n s r (Gives u t) there after e = let vats : put_at v t x.vats ≡ y.vats = ap (λ (w : World). w.vats) (going_is _ y e) in let got : slice_get (put_at v t x.vats) v ≡ Some t = get_put x.vats v s t there in
    let same : Some t ≡ Some r = sym got ∙ ap (λ us. slice_get us v) vats ∙ after in let here : t ≡ r = cc in ap (λ (z : Vat Name). Gives tt z) here
put_gives v x y head n s r other there after e = cc

module _ (script : Script) (P : ℕ → Vat Name → Option (Note Name) → Vat Name → Type 0) (x y : World) (law : EachStep script P x) (v : ℕ) (s r : Vat Name) (there : slice_get x.vats v ≡ Some s) (after : slice_get y.vats v ≡ Some r) where
  takes : (k : ℕ) (m : Message Name) (ms : List (Message Name)) → s.queue ≡ m ∷ ms → world.turn_queue script k v x s (m ∷ ms) ≡ Going y → P v s None r
  unfolding world.turn_queue world.within does
  takes k m ms q e = let what : Step Name Name = Takes (world.tree_at script.vats v) script.depth m in
      law v s (record s { queue = ms }) r what None refl (record { there = there; begins = (ms, q, refl, refl, refl); gives = put_gives v x y (Turned k v ∷ []) (world.step_number script k) s r _ there after e })

  turns : (k : ℕ) (m : Message Name) (ms : List (Message Name)) → s.queue ≡ m ∷ ms → world.turn script k v x (Some s) ≡ Going y → P v s None r
  unfolding world.turn
  turns k m ms q e = takes k m ms q (subst (λ qs. world.turn_queue script k v x s qs ≡ Going y) q e)

  notices : (k a : ℕ) → world.within v x (NoticedAt k v a ∷ []) (world.step_number script k) (notice (names script v) a) (Some s) ≡ Going y → P v s None r
  unfolding world.within does
  notices k a e = law v s s r (Notices a) None refl (record { there = there; begins = refl; gives = put_gives v x y (NoticedAt k v a ∷ []) (world.step_number script k) s r _ there after e })

  pub opens : (p : Program) → slice_get script.vats v ≡ Some p → world.within v x (Opens v ∷ []) v (opening (names script v) p.tree script.depth (Root v) (world.given script.vats p.knows)) (Some s) ≡ Going y → P v s None r
  unfolding world.within does
  opens p i e = law v s s r (Starts p.tree script.depth (Root v) (world.given script.vats p.knows)) None refl (record { there = there; begins = (p, i, refl, refl, refl, refl, refl); gives = put_gives v x y (Opens v ∷ []) v s r _ there after e })

  module _ (a : ℕ) (l : Link) (n : Note Name) (ns : List (Note Name)) (at : link_at a v x.links ≡ Some l) (notes : l.notes ≡ n ∷ ns) where
    first : IsAmong n l.notes
    first = rw notes (inl refl)

    arrives : (k : ℕ) → world.arrives script k a v (record x { links = with_link (with_notes ns) a v x.links }) n (Some s) ≡ Going y → P v s (Some n) r
    unfolding world.arrives world.within does readied
    arrives k e = let z : World = record x { links = with_link (with_notes ns) a v x.links } in
        law v s s r (Receives a (read_note (names_of s) n)) (Some n) (l, at, first, refl) (record { there = there; begins = refl; gives = put_gives v z y (Carried k a v n (world.next_frame a v x.connections) ∷ []) (world.step_number script k) s r _ there after e })

    carries : (k : ℕ) → world.carry_notes script k a v x (n ∷ ns) ≡ Going y → P v s (Some n) r
    unfolding world.carry_notes
    carries k e = arrives k (rw there at e)

    uncut : (k : ℕ) (b : Bool) → b ≡ false → elim b [ true ↦ world.idle script k x | false ↦ world.carry_notes script k a v x l.notes ] ≡ Going y → P v s (Some n) r
    uncut k true c e = cc
    uncut k false c e = carries k (rw notes at e)

    along : (k : ℕ) → l.cut ≡ false → world.carry_link script k a v x (Some l) ≡ Going y → P v s (Some n) r
    unfolding world.carry_link
    along k c e = uncut k l.cut c e

pub by_entry : (script : Script) (P : ℕ → Vat Name → Option (Note Name) → Vat Name → Type 0) (x y : World) → EachStep script P x → (e : Entry) (k : ℕ) → world.step script e k x ≡ Going y → ByEntry P x e y
unfolding world.step
by_entry script P x y law (Turn v) k e = λ s r m ms there after q. turns script P x y law v s r there after k m ms q (rw there at e)
by_entry script P x y law (Carry a v) k e = λ s r l n ns there after at c notes. along script P x y law v s r there after a l n ns at notes k c (rw at at e)
by_entry script P x y law (CutLink a b) k e = tt
by_entry script P x y law (NoticeLink v a) k e = λ s r there after. notices script P x y law v s r there after k a (rw there at e)

pub by_opening : (script : Script) (P : ℕ → Vat Name → Option (Note Name) → Vat Name → Type 0) (x y : World) → EachStep script P x → (ps rest : List Program) (p : Program) → script.vats ≡ ps ++ p ∷ rest → world.open_vat script (length ps) p x ≡ Going y
    → (s r : Vat Name) → slice_get x.vats (length ps) ≡ Some s → slice_get y.vats (length ps) ≡ Some r → P (length ps) s None r
unfolding world.open_vat
by_opening script P x y law ps rest p i e s r there after = opens script P x y law (length ps) s r there after p (rw (sym i) at (get_mid ps p rest)) (rw there at e)
