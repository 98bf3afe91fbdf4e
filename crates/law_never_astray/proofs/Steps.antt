-- A step of a world leaves what is to be taken near, and does not go astray where no list leads back to itself as it stops.
use Rattle.std.proofs.Common.{◌≡◌, ℕ, zero, suc, ◌<◌, List, [], ◌∷◌, ◌++◌, Option, Some, None, refl, sym, ap, subst, ◌∙◌, length, arith, map}
use Rattle.std.specs.Prelude.{slice_get}
use Rattle.def_machine.specs.Values.{Name, Root, Naming, naming}
use Rattle.def_machine.specs.State.{Binding, Message, Known, Vat, Stop, Astray, Done, Gives, Stops, begun}
use Rattle.def_machine.specs.Eval.{opening, taking}
use Rattle.def_machine.specs.Scopes.{any_guard}
use Rattle.def_kernel.specs.declared.node.Node.{Node}
use Rattle.law_machine.specs.Machine.Steps.{Step, Opens as Starts, Takes, Receives, Notices, does, IsQuiet}
use Rattle.law_machine.proofs.Machine.StepEnds.{step_ends}
use Rattle.def_run.specs.Draws.{draw_word}
use Rattle.def_run.specs.World as world
use Rattle.def_run.specs.World.{Script, Program, Entry, CutLink, NoticeLink, Event, World, Goes, Stopped, names, readied, tree_at, put_at}
use Rattle.law_machine.specs.Run.Moves.{IsHonest, Stepped, Opened, Moved, Still, Severs, Drops, Steps, Arrives, Hears, Tells, Nobody, AnyNotice, Does, went}
use Rattle.law_machine.proofs.Run.Told.{moves_told}
use Rattle.law_fate.specs.Name.Names.{AllOf, NounOk}
use Rattle.law_fate.proofs.Name.Run.{Stands}
use Rattle.law_never_astray.specs.Things.{There, ThingsAreThere}
use Rattle.law_never_astray.specs.Covered.{Carries}
use Rattle.law_never_astray.specs.CoveredRuns.{IsAccepted, AllCarry}
use Rattle.law_reference.specs.Reference.Lists.{NoListLeadsBack}
use Rattle.law_reference.specs.Reference.Views.{ViewsWait}
use Rattle.law_uses.specs.Connectivity.Runs.{NothingLive}
use Rattle.law_never_astray.specs.Settlings.{NotAstray}
use Rattle.law_never_astray.proofs.Ejections.{none_live}
use Rattle.law_never_astray.proofs.Arrivals.{put_back_clear}
use Rattle.law_never_astray.specs.Near.{ReactsNear, TargetsNear, AllNear}
use Rattle.law_never_astray.proofs.Rests.{RestsAfter}
use Rattle.law_never_astray.proofs.NearArrive.{keep_arrive, keep_notice}
use Rattle.law_never_astray.proofs.Turns.{OffIn}
use Rattle.law_never_astray.proofs.Views.{AtPeace}
use Rattle.law_never_astray.proofs.Worlds.{root_there, turn_off, open_off}

-- what laws of runs say of a world
pub record Facts (script : Script) (w : World) : Type 0 where
  pub stands : Stands script w
  pub things : (v : ℕ) (s : Vat Name) → slice_get w.vats v ≡ Some s → ThingsAreThere (names script v) s
  pub carries : AllCarry script w
  pub views : (v : ℕ) (s : Vat Name) → slice_get w.vats v ≡ Some s → ViewsWait (names script v) s.known
  pub live : NothingLive w

-- where it gives, what is to be taken is near
given_near : (K : Naming Name Name) (d : Done Name (Unit {0})) (t : Vat Name) → RestsAfter (TargetsNear K) d → d ≡ Gives tt t → TargetsNear K t.queue t.known
given_near K (Gives a u) t h e = let same : u ≡ t = cc in subst (λ (z : Vat Name). TargetsNear K z.queue z.known) same h
given_near K other t h e = cc

off_near : (word : ℕ → ℕ) (v : ℕ) (Bad : Vat Name → Type 0) (d : Done Name (Unit {0})) (t : Vat Name) → OffIn Bad (AtPeace word v) d → d ≡ Gives tt t → TargetsNear (naming word v) t.queue t.known
off_near word v Bad (Gives a u) t h e = let same : u ≡ t = cc in subst (λ (z : Vat Name). TargetsNear (naming word v) z.queue z.known) same h.1
off_near word v Bad other t h e = cc

put_near : (P : ℕ → Vat Name → Type 0) (v : ℕ) (t : Vat Name) (xs : List (Vat Name)) → P v t → ((u : ℕ) (s : Vat Name) → slice_get xs u ≡ Some s → P u s) → (u : ℕ) (s : Vat Name) → slice_get (put_at v t xs) u ≡ Some s → P u s
unfolding put_at
put_near P v t [] h all u s e = cc
put_near P zero t (x ∷ xs) h all zero s e = let same : t ≡ s = cc in subst (P zero) same h
put_near P zero t (x ∷ xs) h all (suc u) s e = all (suc u) s e
put_near P (suc v) t (x ∷ xs) h all zero s e = all zero s e
put_near P (suc v) t (x ∷ xs) h all (suc u) s e = put_near (λ n. P (suc n)) v t xs h (λ n z f. all (suc n) z f) u s e

-- a state that is a bad one where it stopped astray is none, where no list leads back to itself there
off_clear : (K : Naming Name Name) (Rests : List (Message Name) → List (Known Name) → Type 0) (d : Done Name (Unit {0})) → OffIn (λ t. NoListLeadsBack K t → ⊥) Rests d → ((c : Stop) (t : Vat Name) → d ≡ Stops c t → NoListLeadsBack K t) → NotAstray d
off_clear K Rests (Stops c t) h f = λ e. h e (f c t refl)
off_clear K Rests other h f = tt

module _ (script : Script) where
  given_there : (v : ℕ) (c : ℕ) (us : List ℕ) → AllOf (NounOk (There (names script v) c)) (world.given script.vats us)
  unfolding world.given any_guard names
  given_there v c [] = tt
  given_there v c (u ∷ us) = ((root_there (draw_word script.key) v u c, tt), given_there v c us)

-- ---- what a step leaves

tree_is : (ps : List Program) (v : ℕ) (p : Program) → slice_get ps v ≡ Some p → tree_at ps v ≡ p.tree
unfolding tree_at
tree_is ps v p e = go (slice_get ps v) e
  where
    go : (o : Option Program) → o ≡ Some p → elim o as (λ _. List Node) [ Some x ↦ x.tree | None ↦ [] ] ≡ p.tree
    go (Some x) i = let same : x ≡ p = cc in ap (λ (y : Program). y.tree) same
    go None i = cc

put_length : (v : ℕ) (t : Vat Name) (ss : List (Vat Name)) → length (put_at v t ss) ≡ length ss
unfolding put_at
put_length v t [] = refl
put_length zero t (s ∷ ss) = refl
put_length (suc v) t (s ∷ ss) = ap suc (put_length v t ss)

pub some_there : (v : ℕ) (ss : List (Vat Name)) → v < length ss → slice_get ss v ≡ None → ⊥
some_there v [] l e = omega arith
some_there zero (s ∷ ss) l e = cc
some_there (suc v) (s ∷ ss) l e = some_there v ss (omega arith) e

found_below : {A : Type 0} (v : ℕ) (xs : List A) (x : A) → slice_get xs v ≡ Some x → v < length xs
found_below v [] x e = cc
found_below zero (y ∷ xs) x e = omega arith
found_below (suc v) (y ∷ xs) x e = let l : v < length xs = found_below v xs x e in omega arith

module _ (script : Script) (accepted : IsAccepted script) where
  -- what is to be taken is near, and there are as many vats as programs
  pub record Lasts (w : World) : Type 0 where
    pub near : AllNear script w
    pub count : length w.vats ≡ length script.vats

  -- as a run begins

  roots_near : (K : Naming Name Name) (us : List ℕ) → AllOf (ReactsNear K) (map world.known_root us)
  unfolding world.known_root begun
  roots_near K [] = tt
  roots_near K (u ∷ us) = (tt, roots_near K us)

  fresh_near : (K : Naming Name Name) (v : ℕ) (ps : List Program) (u : ℕ) (s : Vat Name) → slice_get (world.fresh_from script v ps) u ≡ Some s → TargetsNear K s.queue s.known
  unfolding world.fresh_from world.fresh world.known_root begun
  fresh_near K v [] u s e = cc
  fresh_near K v (p ∷ ps) zero s e = let same : world.fresh script v p ≡ s = cc in subst (λ (z : Vat Name). TargetsNear K z.queue z.known) same (tt, (tt, roots_near K p.knows))
  fresh_near K v (p ∷ ps) (suc u) s e = fresh_near K (suc v) ps u s e

  fresh_length : (v : ℕ) (ps : List Program) → length (world.fresh_from script v ps) ≡ length ps
  unfolding world.fresh_from
  fresh_length v [] = refl
  fresh_length v (p ∷ ps) = ap suc (fresh_length (suc v) ps)

  pub begins_last : Lasts (world.begins script)
  unfolding world.begins
  begins_last = record { near = λ v s e. fresh_near (names script v) zero script.vats v s e; count = fresh_length zero script.vats }

  abbrev M : World → World → Type 0
  M w y = Moved script w Nobody AnyNotice (λ w v s d. ⊥) (λ w v u s n. ⊥) y

  lasts_on : (w y : World) → y.vats ≡ w.vats → Lasts w → Lasts y
  lasts_on w y e h = record { near = λ v s i. h.near v s (sym (ap (λ (xs : List (Vat Name)). slice_get xs v) e) ∙ i); count = ap length e ∙ h.count }

  went_lasts : (v : ℕ) (w : World) (head : List Event) (t : Vat Name) → TargetsNear (names script v) t.queue t.known → Lasts w → Lasts (went v w head t)
  unfolding went
  went_lasts v w head t c h = record { near = put_near (λ u s. TargetsNear (names script u) s.queue s.known) v t w.vats c h.near; count = put_length v t w.vats ∙ h.count }

  going_vats : (w y : World) → Goes w ≡ Goes y → y.vats ≡ w.vats
  going_vats w y e = let same : y ≡ w = cc in ap (λ (z : World). z.vats) same

  module _ (w : World) (h : Facts script w) (lasts : Lasts w) where
    peace_at : (v : ℕ) (s : Vat Name) → slice_get w.vats v ≡ Some s → AtPeace (draw_word script.key) v s.queue s.known
    unfolding names
    peace_at v s e = (h.views v s e, lasts.near v s e)

    turn_ends : (v : ℕ) (s : Vat Name) (there : slice_get w.vats v ≡ Some s) (m : Message Name) (ms : List (Message Name)) → s.queue ≡ m ∷ ms
        → OffIn (λ t. NoListLeadsBack (names script v) t → ⊥) (AtPeace (draw_word script.key) v) (taking (names script v) (tree_at script.vats v) script.depth m (readied w (record s { queue = ms })))
    unfolding names
    turn_ends v s there m ms q = turn_off script w h.stands v s there (tree_at script.vats v) script.depth m ms q (h.things v s there) (h.carries v s there) (peace_at v s there) (none_live s.things (h.live v s there))

    open_ends : (v : ℕ) (s : Vat Name) (there : slice_get w.vats v ≡ Some s) (p : Program) → slice_get script.vats v ≡ Some p
        → OffIn (λ t. NoListLeadsBack (names script v) t → ⊥) (AtPeace (draw_word script.key) v) (opening (names script v) p.tree script.depth (Root v) (world.given script.vats p.knows) (readied w s))
    unfolding names
    open_ends v s there p at = let ok = accepted v p at in open_off script w h.stands v s there p.tree p at ok.1.0 ok.0 ok.1.1 ok.1.2 (h.things v s there)
        (subst (λ tree. Carries tree s) (tree_is script.vats v p at) (h.carries v s there)) (peace_at v s there) (none_live s.things (h.live v s there)) (given_there script v (length s.things) p.knows)

    opens_near : (v : ℕ) (s t : Vat Name) (there : slice_get w.vats v ≡ Some s) (p : Program) → slice_get script.vats v ≡ Some p → (q : Vat Name) (tree : List Node) (depth : ℕ) (root : Name) (nouns : List (Binding Name))
        → q ≡ s → tree ≡ p.tree → depth ≡ script.depth → root ≡ Root v → nouns ≡ world.given script.vats p.knows → opening (names script v) tree depth root nouns (readied w q) ≡ Gives tt t → TargetsNear (names script v) t.queue t.known
    unfolding names
    opens_near v s t there p at q tree depth root nouns a b c d e g = off_near (draw_word script.key) v _ (opening (names script v) p.tree script.depth (Root v) (world.given script.vats p.knows) (readied w s)) t (open_ends v s there p at)
        (subst (λ z. opening (names script v) p.tree script.depth (Root v) (world.given script.vats p.knows) (readied w z) ≡ Gives tt t) a
        (subst (λ z. opening (names script v) p.tree script.depth (Root v) z (readied w q) ≡ Gives tt t) e
        (subst (λ z. opening (names script v) p.tree script.depth z nouns (readied w q) ≡ Gives tt t) d
        (subst (λ z. opening (names script v) p.tree z root nouns (readied w q) ≡ Gives tt t) c
        (subst (λ z. opening (names script v) z depth root nouns (readied w q) ≡ Gives tt t) b g)))))

    takes_near : (v : ℕ) (s t : Vat Name) (there : slice_get w.vats v ≡ Some s) (m : Message Name) (ms : List (Message Name)) → s.queue ≡ m ∷ ms → (q : Vat Name) (tree : List Node) (depth : ℕ)
        → q ≡ record s { queue = ms } → tree ≡ tree_at script.vats v → depth ≡ script.depth → taking (names script v) tree depth m (readied w q) ≡ Gives tt t → TargetsNear (names script v) t.queue t.known
    unfolding names
    takes_near v s t there m ms i q tree depth a b c g = off_near (draw_word script.key) v _ (taking (names script v) (tree_at script.vats v) script.depth m (readied w (record s { queue = ms }))) t (turn_ends v s there m ms i)
        (subst (λ z. taking (names script v) (tree_at script.vats v) script.depth m (readied w z) ≡ Gives tt t) a
        (subst (λ z. taking (names script v) (tree_at script.vats v) z m (readied w q) ≡ Gives tt t) c
        (subst (λ z. taking (names script v) z depth m (readied w q) ≡ Gives tt t) b g)))

    -- a step of vat v
    step_near : (v : ℕ) (s q t : Vat Name) (what : Step Name Name) → Does script w v s q t what → TargetsNear (names script v) t.queue t.known
    unfolding does readied
    step_near v s q t (Starts tree depth root nouns) d = let b = d.begins in opens_near v s t d.there b.0 b.1 q tree depth root nouns b.2 b.3 b.4 b.5 b.6 d.gives
    step_near v s q t (Takes tree depth m) d = let b = d.begins in takes_near v s t d.there m b.0 b.1 q tree depth b.2 b.3 b.4 d.gives
    step_near v s q t (Receives from n) d = given_near (names script v) _ t ((keep_arrive (names script v) from n).after (readied w q) (subst (λ (z : Vat Name). TargetsNear (names script v) z.queue z.known) (sym d.begins) (lasts.near v s d.there))) d.gives
    step_near v s q t (Notices u) d = given_near (names script v) _ t ((keep_notice (names script v) u).after (readied w q) (subst (λ (z : Vat Name). TargetsNear (names script v) z.queue z.known) (sym d.begins) (lasts.near v s d.there))) d.gives

    severed_lasts : (k a b : ℕ) (y : World) → world.step script (CutLink a b) k w ≡ Goes y → Lasts y
    unfolding world.step world.cut
    severed_lasts k a b y e = lasts_on w y (going_vats _ y e) lasts

    moved_lasts : (y : World) → M w y → Lasts y
    moved_lasts y (Still es e) = lasts_on w y (ap (λ (z : World). z.vats) e) lasts
    moved_lasts y (Severs k a b e) = severed_lasts k a b y e
    moved_lasts y (Drops a v n ns l es at nocut notes gone e) = lasts_on w y (ap (λ (z : World). z.vats) e) lasts
    moved_lasts y (Steps v s q t what head honest alone may quiet d e) = subst Lasts (sym e) (went_lasts v w head t (step_near v s q t what d) lasts)
    moved_lasts y (Arrives a v s t n ns l k frame honest at nocut notes d e) = subst Lasts (sym e) (went_lasts v (record w { links = world.with_link (world.with_notes ns) a v w.links }) _ t (step_near v s s t _ d) (lasts_on w _ refl lasts))
    moved_lasts y (Hears a v s t n ns l k frame hostile at nocut notes there hears e) = absurd hostile
    moved_lasts y (Tells v u s t r ds n hostile there performs lawful puts e) = absurd hostile

    honest : (e : Entry) → IsHonest script Nobody AnyNotice (λ w v s d. ⊥) (λ w v u s n. ⊥) w e
    honest (CutLink a b) = tt
    honest (NoticeLink v to) = (λ b. b, tt)
    honest other = λ b. b

    pub entry_lasts : (e : Entry) (k : ℕ) (y : World) → world.step script e k w ≡ Goes y → Lasts y
    entry_lasts e k y i = moved_lasts y (moves_told script Nobody AnyNotice (λ w v s d. ⊥) (λ w v u s n. ⊥) w y (Stepped e k (honest e) i))

    pub opening_lasts : (front rest : List Program) (p : Program) (y : World) → script.vats ≡ front ++ p ∷ rest → world.open_vat script (length front) p w ≡ Goes y → Lasts y
    opening_lasts front rest p y e i = moved_lasts y (moves_told script Nobody AnyNotice (λ w v s d. ⊥) (λ w v u s n. ⊥) w y (Opened front rest p (λ b. b) e i))

    -- ---- that a step is not astray

    no_stop : {A : Type 0} (x y : World) (c : Stop) (n : ℕ) → Goes x ≡ Stopped c n y → A
    no_stop x y c n e = cc

    taking_quiet : (v : ℕ) (tree : List Node) (depth : ℕ) (m : Message Name) (u : Vat Name) → IsQuiet (taking (names script v) tree depth m u)
    unfolding does
    taking_quiet v tree depth m u = step_ends (names script v) (Takes tree depth m) u

    opening_quiet : (v : ℕ) (tree : List Node) (depth : ℕ) (root : Name) (nouns : List (Binding Name)) (u : Vat Name) → IsQuiet (opening (names script v) tree depth root nouns u)
    unfolding does
    opening_quiet v tree depth root nouns u = step_ends (names script v) (Starts tree depth root nouns) u

    module _ (none : (v : ℕ) (s : Vat Name) (m : Message Name) (ms : List (Message Name)) → slice_get w.vats v ≡ Some s → s.queue ≡ m ∷ ms → (c : Stop) (t : Vat Name)
        → taking (names script v) (tree_at script.vats v) script.depth m (readied w (record s { queue = ms })) ≡ Stops c t → NoListLeadsBack (names script v) t) where
      queue_clear : (k v : ℕ) (s : Vat Name) (qs : List (Message Name)) → slice_get w.vats v ≡ Some s → s.queue ≡ qs → (c : Stop) (n : ℕ) (y : World) → world.turn_queue script k v w s qs ≡ Stopped c n y → c ≡ Astray → ⊥
      unfolding world.turn_queue world.within world.idle
      queue_clear k v s [] there q c n y e = no_stop _ y c n e
      queue_clear k v s (m ∷ ms) there q c n y e = put_back_clear v w y _ (world.step_number script k) n c _ (taking_quiet v (tree_at script.vats v) script.depth m (readied w (record s { queue = ms })))
          (off_clear (names script v) (AtPeace (draw_word script.key) v) _ (turn_ends v s there m ms q) (none v s m ms there q)) e

      pub turn_clear : (k v : ℕ) (o : Option (Vat Name)) → slice_get w.vats v ≡ o → (c : Stop) (n : ℕ) (y : World) → world.turn script k v w o ≡ Stopped c n y → c ≡ Astray → ⊥
      unfolding world.turn world.idle
      turn_clear k v None there c n y e = no_stop _ y c n e
      turn_clear k v (Some s) there c n y e = queue_clear k v s s.queue there refl c n y e

    pub open_clear : (none : (v : ℕ) (p : Program) (s : Vat Name) → slice_get w.vats v ≡ Some s → (c : Stop) (t : Vat Name) → opening (names script v) p.tree script.depth (Root v) (world.given script.vats p.knows) (readied w s) ≡ Stops c t → NoListLeadsBack (names script v) t)
        → (v : ℕ) (p : Program) → slice_get script.vats v ≡ Some p → (o : Option (Vat Name)) → slice_get w.vats v ≡ o → (c : Stop) (n : ℕ) (y : World)
        → world.within v w (world.Opens v ∷ []) v (opening (names script v) p.tree script.depth (Root v) (world.given script.vats p.knows)) o ≡ Stopped c n y → c ≡ Astray → ⊥
    unfolding world.within
    open_clear none v p at None there c n y e = λ f. some_there v w.vats (let l = found_below v script.vats p at in let m = lasts.count in omega arith) there
    open_clear none v p at (Some s) there c n y e = put_back_clear v w y _ v n c _ (opening_quiet v p.tree script.depth (Root v) (world.given script.vats p.knows) (readied w s))
        (off_clear (names script v) (AtPeace (draw_word script.key) v) _ (open_ends v s there p at) (none v p s there)) e
