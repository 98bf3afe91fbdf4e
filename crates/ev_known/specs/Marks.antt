-- From where on activations and objects have chains, in the terms of a table.
use Rattle.std.specs.Prelude.{◌≡◌, ℕ, ◌+◌, ◌<◌, ◌≤◌, Bool, true, false, cond, nat_le, slice_get, List, Option, Some, None}
use Rattle.std.specs.Map.{lookup}
use Rattle.ev_base.specs.declared.names.Name.{Name}
use Rattle.def_event.specs.Uses as uses
use Rattle.def_event.specs.Uses.{AName, IsTold, Line, Thing}
use Rattle.ev_links.specs.declared.chains.Standing.{Standing}
use Rattle.ev_links.specs.declared.label.Label.{Label}
use Rattle.ev_links.specs.Chains.{PlanTables, standing}
use Rattle.ev_links.specs.Label.{label}
use Rattle.ev_known.specs.declared.facts.Fact.{Fact}
use Rattle.ev_known.specs.declared.facts.Fact.TheVariants as fact
use Rattle.ev_known.specs.declared.marks.Holder.{Holder}
use Rattle.ev_known.specs.declared.marks.Holder.TheVariants as holder
use Rattle.ev_known.specs.declared.marks.Mark.{Mark}
use Rattle.ev_known.specs.contracts.marks.MarkPartialEq.TheImpl.{eq-value}

-- the place that is marked
unfoldable pub mark_at : List (Mark × ℕ) → Mark → Option ℕ
mark_at es m = lookup (eq-value.it m) es

abbrev pub PutsMark : Mark → ℕ → List (Mark × ℕ) → List (Mark × ℕ) → Type 0
PutsMark m i old new = (q : Mark) → mark_at new q ≡ cond (eq-value.it m q) (Some i) (mark_at old q)

-- what an activation was given, or an object captured
abbrev pub Held : List Line → Holder → Thing → Type 0
Held past (holder.Activation a) t = IsTold past (uses.Given (record { at = a.at; number = a.number }) t)
Held past (holder.Object o) t = (n : Name) → label (AName n) ≡ o → IsTold past (uses.Captured n t)

abbrev pub HeldAs : List Line → Holder → Label → Type 0
HeldAs past h l = (t : Thing) → label t ≡ l → Held past h t

-- at each place that is marked something stands that is held
pub record MarksStand (es : List (Mark × ℕ)) (plan : PlanTables) (past : List Line) : Type 0 where
  pub each : (h : Holder) (at : ℕ) (chain : Label) (i : ℕ) → mark_at es (record { holder = h; chain = record { at = at; name = chain } }) ≡ Some i
      → (l : Label) × (standing plan.standings (record { at = at; name = l }) ≡ Some (record { chain = chain; place = i })) × HeldAs past h l

abbrev pub is_from : Option ℕ → ℕ → Bool
is_from None n = false
is_from (Some i) n = nat_le i n

-- whether something stands there or before that is held
abbrev pub is_marked : List (Mark × ℕ) → Holder → ℕ → Standing → Bool
is_marked es h at x = is_from (mark_at es (record { holder = h; chain = record { at = at; name = x.chain } })) x.place

-- ---- what is marked

-- what a holder has, and the place at which it is used
pub record Holding : Type 0 where
  pub holder : Holder
  pub at : ℕ
  pub label : Label

-- what a fact tells of it: the code of an object runs at the place of its vat
abbrev pub holding : Fact → Option Holding
holding (fact.Given a l) = Some (record { holder = holder.Activation a; at = a.at; label = l })
holding (fact.Captured o l) = Some (record { holder = holder.Object o; at = o.host + 1; label = l })
holding _ = None

-- where that stands in a chain, it is marked
abbrev pub IsMarkedFor : List (Mark × ℕ) → PlanTables → Option Holding → Type 0
IsMarkedFor es plan None = Unit {0}
IsMarkedFor es plan (Some h) = (x : Standing) → standing plan.standings (record { at = h.at; name = h.label }) ≡ Some x → is_marked es h.holder h.at x ≡ true

-- what was marked still is
abbrev pub AreKept : List (Mark × ℕ) → List (Mark × ℕ) → Type 0
AreKept old new = (h : Holder) (at : ℕ) (x : Standing) → is_marked old h at x ≡ true → is_marked new h at x ≡ true

-- and what the facts from one on, up to another, tell is marked
pub record AreMarked (plan : PlanTables) (facts : List Fact) (first next : ℕ) (old new : List (Mark × ℕ)) : Type 0 where
  pub kept : AreKept old new
  pub each : (i : ℕ) (f : Fact) → first ≤ i → i < next → slice_get facts i ≡ Some f → IsMarkedFor new plan (holding f)
