-- A promise of the vat's own that it knows and that did neither settle nor wait may be resolved, and may break: it leads nowhere yet, and is owed to nobody.
use Rattle.std.proofs.Common.{◌≡◌, ℕ, ◌+◌, ◌*◌, Bool, true, false, List, Some, refl, sym, ap, subst, ◌∙◌, ◌⊎◌, inl, inr, arith}
use Rattle.std.specs.Prelude.{slice_get}
use Rattle.def_machine.specs.Values.{Value, Name, Promise, Naming, naming, host_of}
use Rattle.def_machine.specs.State.{Cell, Thing, Happened, Unsettled, Known, Vat}
use Rattle.def_machine.specs.Refs as refs
use Rattle.def_machine.specs.Refs.{entry_of, standing_of}
use Rattle.def_run.specs.Draws.{draw_word}
use Rattle.def_run.specs.World.{Script, World, names}
use Rattle.law_fate.specs.Name.Names.{IsKnownIn, names_in}
use Rattle.law_fate.proofs.Name.SameNames.{reference_is, reference_self}
use Rattle.law_fate.specs.Fates.Fate.{one}
use Rattle.law_fate.proofs.Fates.ViewsEnd.{among_known}
use Rattle.law_reference.specs.Reference.NameTableRuns.{allowed}
use Rattle.law_order.specs.Ordering.Settlings.{IsLoose}
use Rattle.law_order.proofs.Waits.Classes.{owed_at}
use Rattle.law_order.proofs.Waits.Costs.{one_or}
use Rattle.law_order.proofs.Waits.Room.{share}
use Rattle.law_order.proofs.Steady.Blocks.{promise_loose}
use Rattle.law_order.proofs.Steady.Steady.{Steady, less}

-- a promise of the vat's own that is among the names that it knows is known
pub known_promise : (script : Script) (v : ℕ) (s : Vat Name) (p : Name) (i : ℕ) → p ≡ Promise v i → IsKnownIn (names_in s.known) p → (k : Known Name) × (entry_of (names script v) s.known p ≡ Some k)
unfolding names naming
known_promise script v s p i e h = subst (λ n. (k : Known Name) × (entry_of (names script v) s.known n ≡ Some k)) (sym e) (among_known (naming (draw_word script.key) v) reference_is reference_self s.known (Promise v i) (reference_self (Promise v i) tt) (subst (λ n. IsKnownIn (names_in s.known) n) e h))

-- what touches no name leaves a vat steady
pub aside_steady : (script : Script) (w : World) (v : ℕ) (c o : Name → ℕ) (s : Vat Name) (fuel : ℕ) (lines : List (Happened Name)) (acts : ℕ) (things : List (Thing Name)) (slots : List (Cell Name)) (lists : List (List (Value Name))) → Steady script w v c o s
    → Steady script w v c o (record s { fuel = fuel; happened = lines; activations = acts; things = things; slots = slots; lists = lists })
unfolding allowed
aside_steady script w v c o s fuel lines acts things slots lists h = record { sound = h.sound; later = h.later; owners = h.owners; itself = h.itself; draws = h.draws; room = λ x. h.room x; single = λ x. h.single x }

promise_free : (v i : ℕ) → owed_at v (Promise v i) ≡ false
unfolding owed_at
promise_free v i = refl

no_share : (v i : ℕ) (n : Name) → share (owed_at v n) (one (Promise v i) n) ≡ 0
unfolding share
no_share v i n = go (one_or (Promise v i) n)
  where
    by_bool : (b : Bool) → share b 0 ≡ 0
    by_bool true = refl
    by_bool false = refl

    go : (one (Promise v i) n ≡ 0) ⊎ (Promise v i ≡ n) → share (owed_at v n) (one (Promise v i) n) ≡ 0
    go (inl z) = ap (share (owed_at v n)) z ∙ by_bool (owed_at v n)
    go (inr e) = ap (λ b. share b (one (Promise v i) n)) (ap (owed_at v) (sym e) ∙ promise_free v i)

module _ (script : Script) (honest : ℕ → Bool) (all : (h : ℕ) → honest h ≡ true) (w : World) (v : ℕ) (r : Vat Name) (at : slice_get w.vats v ≡ Some r) (c o : Name → ℕ)
    (p : Name) (s : Vat Name) (steady : Steady script w v c o s) (i : ℕ) (is : p ≡ Promise v i) (stands : standing_of (names script v) s.known p ≡ Unsettled) where
  abbrev K : Naming Name Name
  K = names script v

  pub waits : (k : Known Name) → entry_of K s.known p ≡ Some k → k.standing ≡ Unsettled
  unfolding standing_of refs.standing_in
  waits k found = ap (λ z. refs.standing_in z) (sym found) ∙ stands

  pub host : host_of p ≡ v
  unfolding host_of
  host = ap host_of is

  none : (n : Name) → share (owed_at v n) (one p n) ≡ 0
  none n = ap (λ q. share (owed_at v n) (one q n)) is ∙ no_share v i n

  pub twice : Steady script w v (λ n. 2 * share (owed_at v n) (one p n) + c n) o s
  twice = less script w v c o (λ n. 2 * share (owed_at v n) (one p n) + c n) o (λ n. let z = none n in omega arith) (λ n. omega arith) s steady

  pub once_in : Steady script w v (λ n. share (owed_at v n) (one p n) + c n) o s
  once_in = less script w v c o (λ n. share (owed_at v n) (one p n) + c n) o (λ n. let z = none n in omega arith) (λ n. omega arith) s steady

  pub loose : IsLoose script honest w v p s
  loose = subst (λ q. IsLoose script honest w v q s) (sym is) (promise_loose script w v honest all r at s i (ap (λ q. standing_of K s.known q) (sym is) ∙ stands))
