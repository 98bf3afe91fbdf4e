-- A note by which the provider of a gift is asked to open it leaves its link: the gift leads to the note that opens it, or nowhere.
use Rattle.std.proofs.Common.{◌≡◌, ℕ, ◌≤◌, Bool, true, false, List, [], ◌∷◌, ◌++◌, Some, None, refl, sym, ap, subst, ◌∙◌, ◌⊎◌, inl, inr, eq-eqb, eqb-true, arith}
use Rattle.std.specs.Prelude.{◌==◌, ◌&&◌, ◌||◌}
use Rattle.def_machine.specs.Values.{Ref, Name}
use Rattle.def_machine.specs.State.{Note, Open, Shorten, Vat}
use Rattle.def_run.specs.World as world
use Rattle.def_run.specs.World.{Script, Link, World}
use Rattle.law_order.specs.Ordering.Ways.{Lane, Way, Item, Place, Nowhere, End, Mid, Ways, IsIn, Doom, nowhere}
use Rattle.law_order.specs.Ordering.Messages.{More}
use Rattle.law_order.specs.Ordering.Turns.{Reroutes, stays_so, ends_now, IsTurned}
use Rattle.law_order.specs.Ordering.Places.{delivered, opens, shortens, note_place, any_note, first_place, is_honest, open_place, shorten_place, was_put, or_never, gift_place, leads_in, stands_at, ways_of, ways, amid}
use Rattle.law_order.specs.Ordering.Arrivals.{in_front, keeping, IsOpenWay}
use Rattle.law_order.proofs.Ordering.Arrived.{kept_there}
use Rattle.law_order.proofs.Ordering.OrderKeeping.{LinkLeaves, AllLeave, Same, each_same, place_front, all_leave, gift_leaves, links_still, stands_leaves}
use Rattle.law_order.proofs.Ordering.Shortened.{shortened_gifts_turn}
use Rattle.law_order.specs.Cuts.Letting.{lets_go, letting, OneLetsGo, AllLogged}
use Rattle.law_order.proofs.Cuts.Counts.{counts_one, taken_less}
use Rattle.law_order.proofs.Cuts.Gifts.{none_opens, none_shortens, under_way_put, first_shortens, none_open}
use Rattle.law_order.specs.Asks.Shortens.{BearsShorten}
use Rattle.law_order.proofs.Asks.Steps as steps
use Rattle.law_order.proofs.Asks.Turning.{lane_turns}
use Rattle.law_order.proofs.Asks.Lost.{IsLost, lost_turns}

-- ---- on the links

module _ (script : Script) (honest : ℕ → Bool) (w : World) (a b c i : ℕ) (n : Name) (h : BearsShorten script honest w a b c i n) (most : OneLetsGo w.links) (logged : AllLogged w.links) where
  abbrev Asks : Note Name
  Asks = Shorten n c i

  -- without the note, and with it
  abbrev pub Links : List Link
  Links = world.with_link (world.with_notes h.borne.rest) a b w.links

  abbrev Kept : List Link
  Kept = world.with_link (in_front Asks) a b Links

  abbrev Bare : World
  Bare = steps.Bare script honest w a b Asks h.borne

  kept_is : Kept ≡ w.links
  unfolding keeping
  kept_is = ap (λ z. z.links) (steps.same script honest w a b Asks h.borne)

  lets : lets_go i Asks ≡ true
  unfolding lets_go
  lets = eq-eqb i i refl

  -- no other note lets the gift go
  none_under : letting i Links ≤ 0
  none_under = let less = taken_less i a b w.links h.borne.link Asks h.borne.rest h.borne.found h.borne.first in let one = counts_one (lets_go i Asks) lets in let few = most i in omega arith

  under : first_place (open_place script honest c i w.links) (shorten_place script honest c i w.links) ≡ Some (Mid (Way a b) [] n)
  unfolding first_place
  under = ap (λ o. first_place o (shorten_place script honest c i w.links)) (none_open script honest a b i n h.borne.rest h.sender h.receiver c w.links h.borne.link (most i) h.borne.found h.borne.first)
      ∙ first_shortens script honest a b i n h.borne.rest h.sender h.receiver c w.links h.borne.link (most i) h.borne.found h.borne.first

  -- so what waits for the gift leads to it
  only : gift_place script honest c i w.links ≡ Mid (Way a b) [] n
  unfolding gift_place or_never
  only = ap (λ o. or_never script honest (was_put script honest c i w.links) o) under

  same_log : (ls : List Link) → was_put script honest c i (world.with_link (world.with_notes h.borne.rest) a b ls) ≡ was_put script honest c i ls
  unfolding world.with_link world.with_notes was_put is_honest
  same_log [] = refl
  same_log (l ∷ ls) = go (same_log ls) (world.is_link a b l)
    where
      go : was_put script honest c i (world.with_link (world.with_notes h.borne.rest) a b ls) ≡ was_put script honest c i ls → (x : Bool)
          → was_put script honest c i (elim x [ true ↦ world.with_notes h.borne.rest l ∷ ls | false ↦ l ∷ world.with_link (world.with_notes h.borne.rest) a b ls ]) ≡ (((honest l.from && honest l.to) && (((l.to == c) && any_note (opens i) l.log) || any_note (shortens c i) l.log)) || was_put script honest c i ls)
      go r true = refl
      go r false = ap (λ z. ((honest l.from && honest l.to) && (((l.to == c) && any_note (opens i) l.log) || any_note (shortens c i) l.log)) || z) r

  -- and without it nowhere
  gone : gift_place script honest c i Links ≡ Nowhere
  unfolding gift_place first_place or_never
  gone = ap (λ z. or_never script honest z (first_place (open_place script honest c i Links) (shorten_place script honest c i Links))) (same_log w.links ∙ under_way_put script honest c i w.links (Mid (Way a b) [] n) logged under)
      ∙ ap (λ o. or_never script honest true (first_place o (shorten_place script honest c i Links))) (none_opens script honest c i Links none_under)
      ∙ ap (λ o. or_never script honest true o) (none_shortens script honest c i Links none_under)

  -- ---- all else leads where it led

  abbrev Other : ℕ → ℕ → Type 0
  Other g j = ((c == g) && (i == j)) ≡ false

  asks_link : (l : Link) → LinkLeaves Same Other (in_front Asks l) l
  unfolding in_front opens shortens delivered
  asks_link l = record {
    from = refl;
    to = refl;
    cut = refl;
    opened = λ g j o x. refl;
    shortened = λ g j o. refl;
    opening = λ g j o x. each_same Other (note_place (opens j) (Way l.from l.to) [] (Asks ∷ l.notes)) (note_place (opens j) (Way l.from l.to) [] l.notes) (sym (place_front (opens j) (Way l.from l.to) Asks l.notes refl));
    shortening = λ g j o. each_same Other (note_place (shortens g j) (Way l.from l.to) [] (Asks ∷ l.notes)) (note_place (shortens g j) (Way l.from l.to) [] l.notes) (sym (place_front (shortens g j) (Way l.from l.to) Asks l.notes o));
  }

  all : AllLeave Same Other Kept Links
  all = all_leave Same Other (λ x. refl) a b Asks (λ l e f. asks_link l) Links

  both_true : (x y : Bool) → (x && y) ≡ true → (x ≡ true) × (y ≡ true)
  both_true true y e = (refl, e)
  both_true false y e = cc

  module _ (vs : List (Vat Name)) where
    abbrev Was : Ways
    Was = ways_of script honest vs Kept

    abbrev Now : Ways
    Now = ways_of script honest vs Links

    abbrev Turn : Place → Place → Type 0
    Turn x y = Reroutes Was Now x y

    -- what waits for that gift leads nowhere, and for any other where it led
    gift_by : (g j : ℕ) (x : Bool) → ((c == g) && (i == j)) ≡ x → Turn (gift_place script honest g j Kept) (gift_place script honest g j Links)
    gift_by g j true e = let f = both_true (c == g) (i == j) e in
        ends_now (subst (λ p. Doom Now p) (sym (ap (λ z. gift_place script honest z j Links) (sym (eqb-true c g f.0)) ∙ ap (λ z. gift_place script honest c z Links) (sym (eqb-true i j f.1)) ∙ gone)) nowhere)
    gift_by g j false e = subst (λ p. Turn (gift_place script honest g j Kept) p) (sym (gift_leaves Same Other (λ x. refl) script honest g j e Kept Links all)) stays_so

    stands_left : (l : Lane) (x : Item) → IsIn x (stands_at script honest vs Links l) ⊎ ((l ≡ Way a b) × IsIn x (delivered (Asks ∷ []))) → IsIn x (stands_at script honest vs Links l)
    unfolding delivered
    stands_left l x (inl k) = k
    stands_left l x (inr k) = absurd k.1

    turned : IsTurned Was Now
    unfolding ways_of
    turned = record {
      stands = λ l x k. stands_left l x (stands_leaves script honest vs a b Asks Links l x k);
      links = λ x y o. links_still Same Other (λ z. refl) script honest vs Kept Links all x y o;
      lanes = λ l o k. lane_turns script honest vs Kept Links Was Now (λ g j. gift_by g j ((c == g) && (i == j)) refl) l o k;
    }

  -- ---- as the vat puts nothing, or opens the gift

  module _ (t : Vat Name) (empty : t.outbox ≡ []) where
    abbrev Vats : List (Vat Name)
    Vats = world.put_at b t w.vats

    pub shut_turns : IsTurned (steps.With script honest w a b Asks h.borne t) (steps.End script honest w a b Asks h.borne t)
    unfolding ways amid world.push_all
    shut_turns = subst (λ ps. IsTurned (ways_of script honest Vats (world.push_all b ps w.links)) (ways_of script honest Vats (world.push_all b ps Links))) (sym empty)
        (subst (λ ks. IsTurned (ways_of script honest Vats ks) (ways_of script honest Vats Links)) kept_is (turned Vats))

    ends_kept : (x y : ℕ) (l : Link) → world.is_link x y (world.with_notes h.borne.rest l) ≡ world.is_link x y l
    unfolding world.is_link world.with_notes
    ends_kept x y l = refl

    cut_kept : (l : Link) → (world.with_notes h.borne.rest l).cut ≡ l.cut
    unfolding world.with_notes
    cut_kept l = refl

    way : IsOpenWay honest a b Bare
    way = let o = kept_there (world.with_notes h.borne.rest) false a b a b (ends_kept a b) cut_kept w.links (h.borne.link, h.borne.found, h.borne.uncut) in record { link = o.0; found = o.1; uncut = o.2; sender = h.sender; receiver = h.receiver }

    abbrev pub Opens : Name → Vat Name
    Opens q = record t { outbox = t.outbox ++ record { to = c; note = Open i q } ∷ [] }

    none_amid : open_place script honest c i (amid b t Bare).links ≡ None
    unfolding amid world.push_all
    none_amid = subst (λ ps. open_place script honest c i (world.push_all b ps Links) ≡ None) (sym empty) (none_opens script honest c i Links none_under)

    only_amid : gift_place script honest c i (amid b t (keeping a b Asks Bare)).links ≡ Mid (Way a b) [] n
    unfolding amid keeping world.push_all
    only_amid = subst (λ ps. gift_place script honest c i (world.push_all b ps Kept) ≡ Mid (Way a b) [] n) (sym empty) (ap (λ ks. gift_place script honest c i ks) kept_is ∙ only)

    pub open_turns : (q : Name) → IsOpenWay honest b c Bare → leads_in script honest b t (Ref n) ≡ End (Way b c) q → IsTurned (steps.With script honest w a b Asks h.borne t) (steps.End script honest w a b Asks h.borne (Opens q))
    open_turns q on lead = subst (λ z. IsTurned (ways script honest (amid b t z)) (steps.End script honest w a b Asks h.borne (Opens q))) (steps.same script honest w a b Asks h.borne)
        (shortened_gifts_turn script honest Bare a b c h.borne.vat t i n q h.borne.there way on lead none_amid only_amid)

    -- it is lost
    pub lost : (q : Name) → IsLost script honest b c i q Links → ((k : Lane) → More (steps.End script honest w a b Asks h.borne t) (steps.End script honest w a b Asks h.borne (Opens q)) k) → IsTurned (steps.End script honest w a b Asks h.borne t) (steps.End script honest w a b Asks h.borne (Opens q))
    unfolding world.push_all
    lost q none more = lost_turns script honest b c i q Bare t none_left (subst (λ ps. IsLost script honest b c i q (world.push_all b ps Links)) (sym empty) none) more
      where
        none_left : letting i (world.push_all b t.outbox Links) ≤ 0
        none_left = subst (λ ps. letting i (world.push_all b ps Links) ≤ 0) (sym empty) none_under
