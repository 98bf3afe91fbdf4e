-- A gift comes to be as it is asked for, and breaks at once where its provider was noticed: what the machine does.
use Rattle.std.proofs.Common.{◌≡◌, ℕ, Bool, true, false, List, [], ◌∷◌, ◌++◌, Option, Some, None, if◌then◌else◌, refl, ap, ◌∙◌, codes, eq-eqb}
use Rattle.std.specs.Prelude.{◌==◌}
use Rattle.def_machine.specs.Values.{Name, Gift, Broken, Naming, naming, name_of, host_of}
use Rattle.def_machine.specs.State.{Unsettled, GiftEntry, Vat, Gives, ◌>>=◌, ◌>>◌, and_then, give, look, each, new_gift, come, begun, is_gift, is_in}
use Rattle.def_machine.specs.Refs as refs
use Rattle.def_machine.specs.Refs.{entry_of, standing_of, standing_in}
use Rattle.def_machine.specs.Arrive as arrive
use Rattle.def_machine.specs.Arrive.{gift_at, opened_in}
use Rattle.def_run.specs.World.{Script, World, names}
use Rattle.law_order.specs.Ordering.Steps.{Ready, StaysReady}
use Rattle.law_order.proofs.Ordering.Coming.{new_entry}
use Rattle.law_order.proofs.Views.Severed.{IsAlone, came_alone}
use Rattle.law_order.proofs.Carries.Breaking.{IsFresh, Broke, settles_so}
use Rattle.law_order.proofs.Carries.Learning.{alone_self}
use Rattle.law_order.proofs.Asks.Asking.{makes}
use Rattle.law_order.proofs.Asks.Gifts.{Given}

-- ---- the gift that is found

abbrev IfBoth : Bool → Bool → Bool
IfBoth c d = elim c [ true ↦ d | false ↦ false ]

abbrev Found : GiftEntry Name → Bool → Option (GiftEntry Name) → Option (GiftEntry Name)
Found g c o = elim c [ true ↦ Some g | false ↦ o ]

not_both : (c : Bool) → c ≡ true → c ≡ false → ⊥
not_both c e f = cc

new_found : (p i : ℕ) (g : GiftEntry Name) (c d : Bool) → g.provider ≡ p → g.number ≡ i → (g.provider == p) ≡ c → (g.number == i) ≡ d → Found g (IfBoth c d) None ≡ Some g
new_found p i g true true e f j k = refl
new_found p i g true false e f j k = absurd (not_both (g.number == i) (eq-eqb g.number i f) k)
new_found p i g false d e f j k = absurd (not_both (g.provider == p) (eq-eqb g.provider p e) j)

found_last : (p i : ℕ) (gs : List (GiftEntry Name)) (g : GiftEntry Name) → g.provider ≡ p → g.number ≡ i → gift_at p i gs ≡ None → gift_at p i (gs ++ g ∷ []) ≡ Some g
unfolding gift_at is_gift
found_last p i [] g e f h = new_found p i g (g.provider == p) (g.number == i) e f refl refl
found_last p i (x ∷ gs) g e f h = go (is_gift p i x) h (λ q. found_last p i gs g e f q)
  where
    go : (c : Bool) → Found x c (gift_at p i gs) ≡ None → (gift_at p i gs ≡ None → gift_at p i (gs ++ g ∷ []) ≡ Some g) → Found x c (gift_at p i (gs ++ g ∷ [])) ≡ Some g
    go true q k = cc
    go false q k = k q

-- ---- it comes to be, and breaks

module _ (script : Script) (honest : ℕ → Bool) (w : World) (v p i : ℕ) (s : Vat Name) (ready : Ready script honest w v s) (gone : is_in p s.noticed ≡ true) (none : gift_at p i s.gifts ≡ None) (unknown : entry_of (names script v) s.known (Gift v i) ≡ None) where
  abbrev K : Naming Name Name
  K = names script v

  abbrev pub It : Name
  It = Gift v i

  abbrev Came : Vat Name
  Came = record s { known = s.known ++ begun It v ∷ [] }

  abbrev pub Has : Vat Name
  Has = Given script honest w v Came It p i

  abbrev pub Then : Vat Name
  Then = Broke K Has It (codes "partition")

  abbrev New : GiftEntry Name
  New = record { name = It; provider = p; number = i; opened = false }

  made : arrive.gift_or_new K v p i None s ≡ Gives It Has
  unfolding arrive.gift_or_new ◌>>=◌ ◌>>◌ and_then come new_gift give names naming name_of host_of
  made = refl

  pub had_new : arrive.have_gift K p i s ≡ Gives It Has
  unfolding arrive.have_gift ◌>>=◌ and_then look
  had_new = ap (λ o. arrive.gift_or_new K s.number p i o s) none ∙ ap (λ u. arrive.gift_or_new K u p i None s) ready.number ∙ made

  pub has_new : StaysReady script honest w v s Has
  unfolding arrive.gift_or_new ◌>>=◌ ◌>>◌ and_then come new_gift give names naming name_of host_of
  has_new = (makes script honest w v s p i).0

  pub fresh : IsFresh K v Has It (begun It v)
  unfolding begun
  fresh = record {
    found = new_entry K s.known (begun It v) It unknown ∙ alone_self script v It v tt;
    unsettled = refl;
    held = refl;
    waiting = refl;
    reactions = refl;
    hosted = refl;
  }

  pub alone : IsAlone K Has.known It
  unfolding host_of
  alone = came_alone script honest v s It ready.ends (λ o. o) unknown

  settled : refs.settle K It (Broken (codes "partition")) Has ≡ Gives tt Then
  unfolding begun each give
  settled = settles_so K v Has It (codes "partition") fresh

  stood : standing_of K Has.known It ≡ Unsettled
  unfolding standing_of standing_in
  stood = ap (λ o. standing_in o) fresh.found ∙ fresh.unsettled

  broke : arrive.break_unopened K It false Has ≡ Gives tt Then
  unfolding arrive.break_unopened arrive.break_at ◌>>=◌ and_then look
  broke = ap (λ q. arrive.break_at K It (codes "partition") q Has) stood ∙ settled

  orphan_is : arrive.break_orphan K p i It Has ≡ arrive.break_unopened K It (opened_in (gift_at p i Has.gifts)) Has
  unfolding arrive.break_orphan ◌>>=◌ and_then look
  orphan_is = ap (λ c. (if c then arrive.break_unopened K It (opened_in (gift_at p i Has.gifts)) else give tt) Has) gone

  pub orphaned : arrive.break_orphan K p i It Has ≡ Gives tt Then
  unfolding opened_in
  orphaned = orphan_is ∙ ap (λ o. arrive.break_unopened K It (opened_in o) Has) (found_last p i s.gifts New refl refl none) ∙ broke
