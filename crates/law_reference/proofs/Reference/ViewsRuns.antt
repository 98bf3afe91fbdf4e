-- In every world of a run what is viewed waits on its view.
use Rattle.std.proofs.Common.{◌≡◌, ℕ, zero, suc, Bool, true, false, List, [], ◌∷◌, ◌++◌, Option, Some, None, refl, sym, subst, map, append-nil, ◌∙◌, ◌==◌}
use Rattle.std.specs.Prelude.{slice_get}
use Rattle.std.proofs.lemmas.Bool.{eqb-true}
use Rattle.def_machine.specs.Values.{Name, Root, Gift, naming, same_reference}
use Rattle.def_machine.specs.State.{Note, Elsewhere, Unsettled, Viewed, Known, GiftEntry, Vat, is_gift, begun}
use Rattle.def_machine.specs.Refs.{entry_of, standing_of, standing_in}
use Rattle.def_machine.specs.Arrive.{gift_at}
use Rattle.def_run.specs.Draws.{draw_word}
use Rattle.def_run.specs.World as world
use Rattle.def_run.specs.World.{Script, Program, Entry, World, Goes, names, readied}
use Rattle.law_fate.specs.Name.Names.{Bit, Drew, Entered, Named, AllOf, WasDrawn, IsMade, NoteOk, KnownOk, GiftOk, names_in, Once}
use Rattle.law_fate.proofs.Name.Run.{Had, Stands, opened_stands}
use Rattle.law_reference.specs.Reference.Views.{ViewsWait}
use Rattle.law_reference.specs.Reference.Rest.{ViewsWaitInRuns}
use Rattle.law_reference.proofs.Reference.ViewsMade.{GiftsAreNew}
use Rattle.law_fate.proofs.Name.SameNames.{reference_is}
use Rattle.law_reference.proofs.Reference.ViewsSteps.{TellsNoNewGift, views_taking, views_opening, views_notice, views_arrive}
use Rattle.law_reference.proofs.Reference.RunLift.{StepsKeep, InVats, steps_keep, opens_keep, all_allowed}

-- ---- the gifts under a word that was not drawn are new

pick_other : (b : Bool) (k : Known Name) (o : Option (Known Name)) → (b ≡ true → ⊥) → o ≡ None → ◌≡◌ {A = Option (Known Name)} (elim b [ true ↦ Some k | false ↦ o ]) None
pick_other true k o f e = absurd (f refl)
pick_other false k o f e = e

made_gift : (vats : List (Vat Name)) (d : List ℕ) (a i : ℕ) (n : Name) → (WasDrawn d i → ⊥) → IsMade vats d (Named n) → n ≡ Gift a i → ⊥
made_gift vats d a i n new m e = let drawn : WasDrawn d i = rw e at m in new drawn

unknown_gift : (word : ℕ → ℕ) (v : ℕ) (vats : List (Vat Name)) (d : List ℕ) (P : Bit Name → Type 0) → ((b : Bit Name) → P b → IsMade vats d b) → (a i : ℕ) → (WasDrawn d i → ⊥) → (ks : List (Known Name)) → AllOf (KnownOk P) ks → entry_of (naming word v) ks (Gift a i) ≡ None
unfolding entry_of naming
unknown_gift word v vats d P made a i new [] h = refl
unknown_gift word v vats d P made a i new (k ∷ ks) h = pick_other (same_reference k.name (Gift a i)) k (entry_of (naming word v) ks (Gift a i)) (λ e. made_gift vats d a i k.name new (made (Entered k.name) h.0.0) (reference_is k.name (Gift a i) e)) (unknown_gift word v vats d P made a i new ks h.1)

gift_other : (b : Bool) (g : GiftEntry Name) (o : Option (GiftEntry Name)) → (b ≡ true → ⊥) → o ≡ None → ◌≡◌ {A = Option (GiftEntry Name)} (elim b [ true ↦ Some g | false ↦ o ]) None
gift_other true g o f e = absurd (f refl)
gift_other false g o f e = e

gift_number : (b c : Bool) → (elim b [ true ↦ c | false ↦ false ]) ≡ true → c ≡ true
gift_number true c e = e
gift_number false c e = cc

is_number : (p d : ℕ) (g : GiftEntry Name) → is_gift p d g ≡ true → g.number ≡ d
unfolding is_gift
is_number p d g e = eqb-true g.number d (gift_number (g.provider == p) (g.number == d) e)

absent_gift : (vats : List (Vat Name)) (d : List ℕ) (P : Bit Name → Type 0) → ((b : Bit Name) → P b → IsMade vats d b) → (p i : ℕ) → (WasDrawn d i → ⊥) → (gs : List (GiftEntry Name)) → AllOf (GiftOk P) gs → gift_at p i gs ≡ None
unfolding gift_at
absent_gift vats d P made p i new [] h = refl
absent_gift vats d P made p i new (g ∷ gs) h = gift_other (is_gift p i g) g (gift_at p i gs) (λ e. new (subst (WasDrawn d) (is_number p i g e) (made (Drew g.number) h.0.1))) (absent_gift vats d P made p i new gs h.1)

module _ (script : Script) where
  pub new_gifts : (w : World) (v : ℕ) (s : Vat Name) → Stands script w → slice_get w.vats v ≡ Some s → GiftsAreNew (draw_word script.key) v (readied w s)
  unfolding readied
  new_gifts w v s h e = let g = (h.vats v s e).parts in record {
    names = λ c i new. unknown_gift (draw_word script.key) v w.vats w.drawn (Had script w v s) (λ b m. m.0) c i new s.known g.known;
    gifts = λ p i new. absent_gift w.vats w.drawn (Had script w v s) (λ b m. m.0) p i new s.gifts g.gifts;
  }

  pub tells_none : (w : World) (s : Vat Name) (n : Note Name) → NoteOk (IsMade w.vats w.drawn) n → TellsNoNewGift (draw_word script.key) zero (readied w s) n
  unfolding readied
  tells_none w s (Elsewhere n c) h = λ a i new e. made_gift w.vats w.drawn a i n new h.0 e
  tells_none w s other h = tt

  abbrev Waiting : ℕ → Vat Name → Type 0
  Waiting v s = ViewsWait (names script v) s.known

  -- each notice is allowed
  abbrev Any : ℕ → ℕ → Type 0
  Any v to = Unit {0}

  views_keep : StepsKeep script Waiting Any
  unfolding names world.names_of readied
  views_keep = record {
    turn = λ w v s m ms g i q h. views_taking (draw_word script.key) v (world.tree_at script.vats v) script.depth m (readied w (record s { queue = ms })) h;
    note = λ w from v s n g i ok h. views_arrive (draw_word script.key) v from (names_in s.known) n (readied w s) h (new_gifts w v s g i) (tells_none w s n ok);
    notice = λ w v to s g i ok h. views_notice (draw_word script.key) v to (readied w s) h;
    opening = λ w v p s g i h. views_opening (draw_word script.key) v p.tree script.depth (Root v) (world.given script.vats p.knows) (readied w s) h;
  }

  -- ---- the start

  begun_view : (b : Bool) (k : Known Name) (o : Option (Known Name)) (g : Name) → k.standing ≡ Unsettled → (standing_in o ≡ Viewed g → ⊥) → standing_in (elim b [ true ↦ Some k | false ↦ o ]) ≡ Viewed g → ⊥
  unfolding standing_in
  begun_view true k o g u f e = let both : Unsettled ≡ Viewed g = sym u ∙ e in cc
  begun_view false k o g u f e = f e

  none_view : (g : Name) → standing_in None ≡ Viewed g → ⊥
  unfolding standing_in
  none_view g e = cc

  root_unsettled : (u : ℕ) → (world.known_root u).standing ≡ Unsettled
  unfolding world.known_root begun
  root_unsettled u = refl

  no_view : (v : ℕ) (us : List ℕ) (n g : Name) → standing_of (names script v) (map world.known_root us) n ≡ Viewed g → ⊥
  unfolding standing_of entry_of
  no_view v [] n g e = none_view g e
  no_view v (u ∷ us) n g e = begun_view ((names script v).same (world.known_root u).name n) (world.known_root u) (entry_of (names script v) (map world.known_root us) n) g (root_unsettled u) (no_view v us n g) e

  fresh_view : (v u : ℕ) (p : Program) (n g : Name) → standing_of (names script v) (world.fresh script u p).known n ≡ Viewed g → ⊥
  unfolding standing_of entry_of world.fresh
  fresh_view v u p n g e = begun_view ((names script v).same (world.known_root u).name n) (record (world.known_root u) { told = world.knowers u zero script.vats }) (entry_of (names script v) (map world.known_root p.knows) n) g (root_unsettled u) (no_view v p.knows n g) e

  some_same : (a b : Vat Name) → Some a ≡ Some b → a ≡ b
  some_same a b e = cc

  fresh_views : (u : ℕ) (ps : List Program) (v n : ℕ) (s : Vat Name) → slice_get (world.fresh_from script u ps) n ≡ Some s → Waiting v s
  unfolding world.fresh_from
  fresh_views u [] v n s e = cc
  fresh_views u (p ∷ ps) v zero s e = let one : Waiting v (world.fresh script u p) = λ m g i. absurd (fresh_view v u p m g i) in rw (some_same (world.fresh script u p) s e) at one
  fresh_views u (p ∷ ps) v (suc n) s e = fresh_views (suc u) ps v n s e

  begins_views : InVats script Waiting Any (world.begins script)
  unfolding world.begins
  begins_views v s e = fresh_views zero script.vats v v s e

  -- ---- the worlds of a run

  module _ (once : (v : ℕ) (p : Program) → slice_get script.vats v ≡ Some p → Once (v ∷ p.knows)) where
    begins_stand : Stands script (world.begins script)
    unfolding world.open_from
    begins_stand = opened_stands script once [] script.vats (world.begins script) refl refl

    opened_views : (ps rest : List Program) (w : World) → script.vats ≡ ps ++ rest → world.open_from script zero ps (world.begins script) ≡ Goes w → InVats script Waiting Any w
    opened_views ps rest w e i = opens_keep script Waiting Any views_keep [] ps rest (world.begins script) w e begins_stand begins_views i

    stepped_views : (w x : World) (es : List Entry) (k : ℕ) → world.open_from script zero script.vats (world.begins script) ≡ Goes w → world.steps_from script es k w ≡ Goes x → InVats script Waiting Any x
    stepped_views w x es k e i = steps_keep script Waiting Any views_keep es k w x (opened_stands script once script.vats [] w (sym (append-nil script.vats)) e) (all_allowed Any (λ v to. tt) es) (opened_views script.vats [] w (sym (append-nil script.vats)) e) i

pub views_wait_in_runs : ViewsWaitInRuns
views_wait_in_runs script once = (
  λ ps rest w e i. opened_views script once ps rest w e i,
  λ w x es k e i. stepped_views script once w x es k e i,
)
