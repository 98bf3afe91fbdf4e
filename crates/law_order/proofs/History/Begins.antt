-- At the start of a run nothing is told, and nothing is under way.
use Rattle.std.proofs.Common.{◌≡◌, ℕ, zero, suc, Bool, true, false, List, [], ◌∷◌, ◌++◌, Option, Some, None, refl, sym, ap, ◌∙◌, subst, map, slice_get, ◌==◌}
use Rattle.def_machine.specs.Values.{Name, Naming}
use Rattle.def_machine.specs.State.{Known, Vat, Note, Passeds, Delivery, Deliver, begun}
use Rattle.def_machine.specs.Refs.{entry_of}
use Rattle.def_run.specs.World as world
use Rattle.def_run.specs.World.{Script, Program, Link}
use Rattle.law_fate.specs.Name.Names.{AllOf}
use Rattle.law_order.specs.Ordering.Ways.{Held, Item}
use Rattle.law_order.specs.Ordering.Messages.{StandsAt}
use Rattle.law_order.specs.Ordering.Places.{item, held_in, held_on, stands_at, ways, ways_of}
use Rattle.law_order.specs.Ordering.Order.{reached, reached_by, is_before, before_from, keeps_order}
use Rattle.law_order.specs.History.Befores.{Brings, TellsOrder}

abbrev HoldsNothing : Known Name → Type 0
HoldsNothing k = k.held ≡ []

abbrev Quiet : Link → Type 0
Quiet l = l.notes ≡ []

roots_hold_nothing : (ws : List ℕ) → AllOf HoldsNothing (map world.known_root ws)
unfolding world.known_root begun
roots_hold_nothing [] = tt
roots_hold_nothing (w ∷ ws) = (refl, roots_hold_nothing ws)

fresh_hold_nothing : (script : Script) (u : ℕ) (ps : List Program) (v : ℕ) (s : Vat Name) → slice_get (world.fresh_from script u ps) v ≡ Some s → AllOf HoldsNothing s.known
unfolding world.fresh_from world.fresh world.known_root begun
fresh_hold_nothing script u [] v s e = absurd (cc)
fresh_hold_nothing script u (p ∷ ps) zero s e = subst (λ (t : Vat Name). AllOf HoldsNothing t.known) (some_is (world.fresh script u p) s e) (refl, roots_hold_nothing p.knows)
  where
    some_is : (a b : Vat Name) → Some a ≡ Some b → a ≡ b
    some_is a b i = cc
fresh_hold_nothing script u (p ∷ ps) (suc v) s e = fresh_hold_nothing script (suc u) ps v s e

holds_nothing : (K : Naming Name Name) (ks : List (Known Name)) (n : Name) → AllOf HoldsNothing ks → held_in n (entry_of K ks n) ≡ []
unfolding entry_of held_in held_on
holds_nothing K [] n h = refl
holds_nothing K (k ∷ ks) n h = go (K.same k.name n) (holds_nothing K ks n h.1)
  where
    go : (b : Bool) → held_in n (entry_of K ks n) ≡ [] → held_in n (elim b [ true ↦ Some k | false ↦ entry_of K ks n ]) ≡ []
    go true i = ap (held_on n) h.0
    go false i = i

abbrev EmptyFor : Script → ℕ → Name → Option (Vat Name) → Type 0
EmptyFor script v p o = elim o [ Some s ↦ held_in p (entry_of (world.names script v) s.known p) | None ↦ [] ] ≡ []

held_empty : (script : Script) (v : ℕ) (p : Name) (o : Option (Vat Name)) → slice_get (world.fresh_from script zero script.vats) v ≡ o → EmptyFor script v p o
held_empty script v p None e = refl
held_empty script v p (Some s) e = holds_nothing (world.names script v) s.known p (fresh_hold_nothing script zero script.vats v s e)

no_item : (b : List Item) (i : Item) (c : List Item) → [] ≡ b ++ i ∷ c → ⊥
no_item [] i c e = cc
no_item (j ∷ b) i c e = cc

none_held : (script : Script) (honest : ℕ → Bool) (v : ℕ) (p d q : Name) (b : List Item) → StandsAt (ways script honest (world.begins script)) d (Held v p) b q → ⊥
unfolding ways ways_of stands_at world.begins
none_held script honest v p d q b s = no_item b (item d q) s.behind (sym (held_empty script v p (slice_get (world.fresh_from script zero script.vats) v) refl) ∙ s.found)

-- ---- links

links_to_quiet : (v w : ℕ) (ps : List Program) → AllOf Quiet (world.links_to v w ps)
unfolding world.links_to
links_to_quiet v w [] = tt
links_to_quiet v w (p ∷ ps) = go (v == w) (links_to_quiet v (suc w) ps)
  where
    go : (b : Bool) → AllOf Quiet (world.links_to v (suc w) ps) → AllOf Quiet (elim b [ true ↦ world.links_to v (suc w) ps | false ↦ record { from = v; to = w; cut = false; notes = []; roots = world.roots_for v p; log = [] } ∷ world.links_to v (suc w) ps ])
    go true h = h
    go false h = (refl, h)

both_quiet : (ls ms : List Link) → AllOf Quiet ls → AllOf Quiet ms → AllOf Quiet (ls ++ ms)
both_quiet [] ms h k = k
both_quiet (l ∷ ls) ms h k = (h.0, both_quiet ls ms h.1 k)

links_from_quiet : (all : List Program) (v : ℕ) (ps : List Program) → AllOf Quiet (world.links_from all v ps)
unfolding world.links_from
links_from_quiet all v [] = tt
links_from_quiet all v (p ∷ ps) = both_quiet (world.links_to v zero all) (world.links_from all (suc v) ps) (links_to_quiet v zero all) (links_from_quiet all (suc v) ps)

found_quiet : (u v : ℕ) (ls : List Link) (l : Link) → AllOf Quiet ls → world.link_at u v ls ≡ Some l → l.notes ≡ []
unfolding world.link_at
found_quiet u v [] l h e = absurd (cc)
found_quiet u v (m ∷ ls) l h e = go (world.is_link u v m) (found_quiet u v ls l h.1) e
  where
    go : (b : Bool) → (world.link_at u v ls ≡ Some l → l.notes ≡ []) → elim b [ true ↦ Some m | false ↦ world.link_at u v ls ] ≡ Some l → l.notes ≡ []
    go true f i = subst (λ (k : Link). k.notes ≡ []) (some_is m l i) h.0
      where
        some_is : (a b : Link) → Some a ≡ Some b → a ≡ b
        some_is a b j = cc
    go false f i = f i

no_note : (ns : List (Note Name)) (n : Note Name) (ms : List (Note Name)) → [] ≡ ns ++ n ∷ ms → ⊥
no_note [] n ms e = cc
no_note (m ∷ ns) n ms e = cc

none_brought : (script : Script) (u v : ℕ) (front : List (Note Name)) (d : Delivery Name) (n : Name) (ys : Passeds Name) → Brings (world.begins script) u v front d n ys → ⊥
unfolding world.begins
none_brought script u v front d n ys b = no_note front (Deliver d n b.verb ys) b.rest (sym (found_quiet u v (world.links_from script.vats zero script.vats) b.link (links_from_quiet script.vats zero script.vats) b.found) ∙ b.notes)

pub begins_tell : (script : Script) (honest : ℕ → Bool) → TellsOrder script honest (world.begins script)
unfolding world.begins reached reached_by is_before before_from keeps_order
begins_tell script honest = record {
  first = λ a. record {
    references = λ r h. absurd h;
    messages = λ b h l c n s. absurd (cc);
    passings = λ u v front d n ys b c r h done told m i. absurd h.reach;
    carriers = λ v p d q b s c r h k i. absurd h.reach;
  };
  comings = λ u v front d n ys b. absurd (none_brought script u v front d n ys b);
  held = λ v p d q b s. absurd (none_held script honest v p d q b s);
  ordered = λ a b. refl;
}
