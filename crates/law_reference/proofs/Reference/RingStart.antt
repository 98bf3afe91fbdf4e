-- The world in which a run begins has no list that leads back to itself.
use Rattle.std.proofs.Common.{◌≡◌, ℕ, zero, suc, Bool, true, false, List, [], ◌∷◌, Option, Some, None, refl, sym, subst, ◌∙◌, map, ◌+◌, ◌==◌, arith}
use Rattle.std.specs.Prelude.{slice_get}
use Rattle.std.proofs.lemmas.Bool.{eq-eqb}
use Rattle.def_machine.specs.Values.{Value, Name}
use Rattle.def_machine.specs.State.{Unsettled, Viewed, Settled, Known, Vat, begun}
use Rattle.def_machine.specs.Native.{list_at}
use Rattle.def_machine.specs.Refs.{entry_of, standing_of, standing_in}
use Rattle.def_run.specs.World as world
use Rattle.def_run.specs.World.{Script, Program, Link}
use Rattle.law_fate.specs.Name.Names.{AllOf, IsAmong, IsEventual}
use Rattle.law_fate.proofs.Name.Facts.{all_append}
use Rattle.law_reference.specs.Reference.Lists.{NoListLeadsBack}
use Rattle.law_reference.specs.Reference.ListRingless.{HoldsOwn, NamesRest, Ringless}
use Rattle.law_reference.proofs.Reference.Following.{no_true}
use Rattle.law_reference.proofs.Reference.Kept.{is_in_none}
use Rattle.law_reference.proofs.Reference.VatStep.{Seen, LinkTrue, RingsBy}
use Rattle.law_reference.proofs.Reference.StepRings.{word, N, NoDraws}

module _ (script : Script) where
  -- ---- the start

  abbrev Fresh : Known Name → Type 0
  Fresh k = (k.standing ≡ Unsettled) × (k.waiting ≡ [])

  found_head : (b : Bool) (k0 k : Known Name) (o : Option (Known Name)) → Fresh k0 → ◌≡◌ {A = Option (Known Name)} (elim b [ true ↦ Some k0 | false ↦ o ]) (Some k) → (o ≡ Some k → Fresh k) → Fresh k
  found_head true k0 k o h e f = let same : k0 ≡ k = cc in subst (λ (x : Known Name). Fresh x) same h
  found_head false k0 k o h e f = f e

  found_fresh : (v : ℕ) (ks : List (Known Name)) (n : Name) (k : Known Name) → AllOf Fresh ks → entry_of (N script v) ks n ≡ Some k → Fresh k
  unfolding entry_of
  found_fresh v [] n k h e = cc
  found_fresh v (k0 ∷ ks) n k h e = found_head ((N script v).same k0.name n) k0 k (entry_of (N script v) ks n) h.0 e (λ i. found_fresh v ks n k h.1 i)

  stands_head : (o : Option (Known Name)) → ((k : Known Name) → o ≡ Some k → Fresh k) → standing_in o ≡ Unsettled
  unfolding standing_in
  stands_head None f = refl
  stands_head (Some k) f = (f k refl).0

  unsettled : (v : ℕ) (ks : List (Known Name)) (n : Name) → AllOf Fresh ks → standing_of (N script v) ks n ≡ Unsettled
  unfolding standing_of
  unsettled v ks n h = stands_head (entry_of (N script v) ks n) (λ k e. found_fresh v ks n k h e)

  view_open : (g : Name) → Unsettled ≡ Viewed g → ⊥
  view_open g e = cc

  open_value : (y : Value Name) → Unsettled ≡ Settled y → ⊥
  open_value y e = cc

  none_waits : (n : Name) (k : Known Name) → Fresh k → IsAmong n k.waiting → ⊥
  none_waits n k f a = subst (λ xs. IsAmong n xs) f.1 a

  roots_fresh : (us : List ℕ) → AllOf Fresh (map world.known_root us)
  unfolding world.known_root begun
  roots_fresh [] = tt
  roots_fresh (u ∷ us) = ((refl, refl), roots_fresh us)

  roots_hold : (v : ℕ) (us : List ℕ) → AllOf (HoldsOwn v) (map world.known_root us)
  unfolding world.known_root begun
  roots_hold v [] = tt
  roots_hold v (u ∷ us) = ((tt, tt), roots_hold v us)

  roots_eventual : (us : List ℕ) → AllOf (λ (k : Known Name). IsEventual k.name) (map world.known_root us)
  unfolding world.known_root begun
  roots_eventual [] = tt
  roots_eventual (u ∷ us) = (tt, roots_eventual us)

  fresh_all : (v : ℕ) (p : Program) → AllOf Fresh (world.fresh script v p).known
  unfolding world.fresh world.known_root begun
  fresh_all v p = ((refl, refl), roots_fresh p.knows)

  fresh_none : (v : ℕ) (p : Program) → NoListLeadsBack (N script v) (world.fresh script v p)
  unfolding world.fresh list_at
  fresh_none v p zero d h = absurd h.1.1
  fresh_none v p (suc k) d h = absurd h.1.1

  fresh_names : (A : Name → Type 0) (v : ℕ) (p : Program) → NamesRest (N script v) v (NoDraws script) A (world.fresh script v p).known []
  unfolding world.fresh world.known_root begun
  fresh_names A v p = let ks : List (Known Name) = (world.fresh script v p).known in let all : AllOf Fresh ks = fresh_all v p in record {
    here = is_in_none v;
    spared = λ n k e w. is_in_none k.host;
    far = λ n g e i. view_open g (sym (unsettled v ks n all) ∙ e);
    seen = λ n g e. absurd (view_open g (sym (unsettled v ks n all) ∙ e));
    waits = λ n q k e a not. absurd (none_waits n k (found_fresh v ks q k all e) a);
    settled = λ n y e. absurd (open_value y (sym (unsettled v ks n all) ∙ e));
    held = ((tt, tt), roots_hold v p.knows);
    eventual = (tt, roots_eventual p.knows);
  }

  fresh_ring : (A : Name → Type 0) (v : ℕ) (p : Program) → Ringless (N script v) v (NoDraws script) A (world.fresh script v p).noticed (world.fresh script v p)
  unfolding world.fresh
  fresh_ring A v p = record { number = refl; names = fresh_names A v p; none = fresh_none v p; queue = tt; gifts = tt }

  some_is : (s t : Vat Name) → Some s ≡ Some t → s ≡ t
  some_is s t e = cc

  fresh_from : (A : ℕ → Name → Type 0) (u : ℕ) (ps : List Program) (n : ℕ) (s : Vat Name) → slice_get (world.fresh_from script u ps) n ≡ Some s → Ringless (N script (u + n)) (u + n) (NoDraws script) (A (u + n)) s.noticed s
  unfolding world.fresh_from
  fresh_from A u [] n s e = cc
  fresh_from A u (p ∷ ps) zero s e = let same : u ≡ u + zero = omega arith in subst (λ z. Ringless (N script z) z (NoDraws script) (A z) s.noticed s) same (subst (λ (t : Vat Name). Ringless (N script u) u (NoDraws script) (A u) t.noticed t) (some_is (world.fresh script u p) s e) (fresh_ring (A u) u p))
  fresh_from A u (p ∷ ps) (suc n) s e = let same : suc u + n ≡ u + suc n = omega arith in subst (λ z. Ringless (N script z) z (NoDraws script) (A z) s.noticed s) same (fresh_from A (suc u) ps n s e)

  -- a link leads from one vat to another, and bears no note
  module _ (vats : List (Vat Name)) where
    abbrev True : Link → Type 0
    True l = LinkTrue (word script) (NoDraws script) vats l

    either_links : (b : Bool) (l : Link) (ls : List Link) → (b ≡ false → True l) → AllOf True ls → AllOf True (elim b [ true ↦ ls | false ↦ l ∷ ls ])
    either_links true l ls h i = i
    either_links false l ls h i = (h refl, i)

    apart : (v w : ℕ) → (v == w) ≡ false → v ≡ w → ⊥
    apart v w e f = no_true (sym e ∙ eq-eqb v w f)

    links_to_true : (v w : ℕ) (ps : List Program) → AllOf True (world.links_to v w ps)
    unfolding world.links_to
    links_to_true v w [] = tt
    links_to_true v w (p ∷ ps) = either_links (v == w) _ (world.links_to v (suc w) ps) (λ e. (apart v w e, tt)) (links_to_true v (suc w) ps)

    links_from_true : (all : List Program) (v : ℕ) (ps : List Program) → AllOf True (world.links_from all v ps)
    unfolding world.links_from
    links_from_true all v [] = tt
    links_from_true all v (p ∷ ps) = all_append True (world.links_to v zero all) (world.links_from all (suc v) ps) (links_to_true v zero all) (links_from_true all (suc v) ps)

  pub begins_by : RingsBy (word script) true (NoDraws script) (world.begins script)
  unfolding world.begins
  begins_by = let vats : List (Vat Name) = world.fresh_from script zero script.vats in record {
    drawn = λ i l d. d;
    vats = λ v s e. (let same : zero + v ≡ v = omega arith in subst (λ z. Ringless (N script z) z (NoDraws script) (Seen (word script) vats z) s.noticed s) same (fresh_from (λ u. Seen (word script) vats u) zero script.vats v s e));
    links = links_from_true vats script.vats zero script.vats;
  }
