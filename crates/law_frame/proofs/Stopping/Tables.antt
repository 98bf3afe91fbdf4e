-- The names and messages of a state at which a step stopped make a table, with what others exported before.
use Rattle.std.proofs.Common.{◌≡◌, ℕ, ◌+◌, ◌≤◌, List, [], ◌∷◌, Some, refl, sym, subst, ◌==◌, ◌&&◌, inl, inr, arith}
use Rattle.def_machine.specs.Values.{Name, Object, Sent, same_name, spot_of, Foreign, naming}
use Rattle.def_machine.specs.State.{Vat, Stop, Done, Stops}
use Rattle.law_machine.specs.Machine.Steps.{Step, After, does}
use Rattle.law_fate.specs.Name.Names.{AllOf, IsAmong, IsEventual, IsMessageName, Once, names_in}
use Rattle.law_machine.specs.Renamed.Stands.{IsTable}
use Rattle.def_run.specs.World.{World}
use Rattle.law_reference.specs.Reference.Exports.{exported_at}
use Rattle.law_reference.specs.Reference.Knowing.{claims, numbered, Knowing}
use Rattle.law_reference.specs.Reference.NameTableRuns.{other, allowed}
use Rattle.law_reference.specs.Reference.Tables.{table_of}
use Rattle.law_reference.proofs.Reference.Bounds.{Bounded, step_bounded, allowed_once, claims_once, differ}
use Rattle.law_reference.proofs.Reference.Onward.{claims_known}
use Rattle.law_reference.proofs.Reference.VatTables.{has_table}
use Rattle.law_frame.specs.Frame.AlikeArrivals.{table_across}
use Rattle.law_frame.proofs.Stopping.Parted.{IsNoMessage, Parted}

pub after_stops : (R : Vat Name → Vat Name → Type 0) (s r : Vat Name) (c : Stop) (d : Done Name (Unit {0})) → d ≡ Stops c r → After R s d → R s r
after_stops R s r c d e h = subst (λ z. After R s z) e h

-- what is known as it may be is no object
no_object : (d : List ℕ) (u : ℕ) (r : Vat Name) → Bounded d u r → (h i : ℕ) → IsAmong (Object h i) (names_in r.known) → ⊥
unfolding allowed other numbered
no_object d u r b h i a = let least = claims_known u (Object h i) r.known a in let most = b.1 (Object h i) in absurd (omega arith)

eventual : (n : Name) → IsNoMessage n → ((h i : ℕ) → n ≡ Object h i → ⊥) → IsEventual n
eventual (Object w i) p o = absurd (o w i refl)
eventual (Sent m) p o = absurd p
eventual other p o = tt

all_eventual : (ns : List Name) → AllOf IsNoMessage ns → ((h i : ℕ) → IsAmong (Object h i) ns → ⊥) → AllOf IsEventual ns
all_eventual [] p o = tt
all_eventual (n ∷ ns) p o = (eventual n p.0 (λ h i e. o h i (inl (sym e))), all_eventual ns p.1 (λ h i a. o h i (inr a)))

eventual_no_message : (n : Name) → IsEventual n → IsNoMessage n
eventual_no_message (Sent m) h = absurd h
eventual_no_message other h = tt

pub all_no_messages : (ns : List Name) → AllOf IsEventual ns → AllOf IsNoMessage ns
all_no_messages [] h = tt
all_no_messages (n ∷ ns) h = (eventual_no_message n h.0, all_no_messages ns h.1)

-- what others exported to vat u, each to one position
abbrev pub Exported : World → ℕ → Type 0
Exported x u = ((h p j : ℕ) → exported_at x.links u h p ≡ Some j → spot_of u (Object h j) ≡ Foreign h)
    × ((h p g q i j : ℕ) → exported_at x.links u h p ≡ Some i → exported_at x.links u g q ≡ Some j → same_name (Object h i) (Object g j) ≡ ((h == g) && (p == q)))

-- What a step of vat u leaves from state s where it stops, with what came by it within what is allowed.
module _ (word : ℕ → ℕ) (u : ℕ) (what : Step Name Name) (s r : Vat Name) (c : Stop) (stops : does (naming word u) what s ≡ Stops c r) where
  pub left_bounded : (came : Name → ℕ) → ((z : Name) → After (λ a b. Knowing u z (came z) a b) s (does (naming word u) what s)) → s.number ≡ u → ((z : Name) → claims u z s.known + came z ≤ allowed u z s s.drawn) → Bounded r.drawn u r
  left_bounded came knows number fits = step_bounded u s r came number (λ z. after_stops (λ a b. Knowing u z (came z) a b) s r c (does (naming word u) what s) stops (knows z)) fits

  pub left_once : Bounded r.drawn u r → Once (names_in r.known)
  left_once b = claims_once u r.known (λ z. let a = b.1 z in let m = allowed_once u z r r.drawn in omega arith)

  pub left_table : (x : World) → Bounded r.drawn u r → After Parted s (does (naming word u) what s) → AllOf IsEventual (names_in s.known) × AllOf IsMessageName s.mails → Exported x u → IsTable u (table_across x u r)
  unfolding table_across table_of
  left_table x b parts kinds exports = let apart : Parted s r = after_stops Parted s r c (does (naming word u) what s) stops parts in
      has_table x u r (all_eventual (names_in r.known) (apart.names (all_no_messages (names_in s.known) kinds.0)) (no_object r.drawn u r b), apart.mails kinds.1) (differ (names_in r.known) (left_once b)) exports
