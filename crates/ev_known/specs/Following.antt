-- What names lead to, in the terms of tables.
use Rattle.std.specs.Prelude.{◌≡◌, ◌≤◌, ℕ, Bool, true, false, cond, List, Option, Some, None, is_some, nat_le}
use Rattle.std.specs.Map.{lookup}
use Rattle.ev_base.specs.declared.names.Name.{Name}
use Rattle.def_event.specs.declared.event.Event.{Event}
use Rattle.def_event.specs.Uses.{AName, Given_for, IsGivenBy, IsFirstGivenBy, IsFollowed, Line, is_object, settles, views}
use Rattle.ev_links.specs.declared.label.Label.{Label}
use Rattle.ev_links.specs.declared.label.Kind.{Kind}
use Rattle.ev_links.specs.declared.label.Kind.TheVariants as kind
use Rattle.ev_links.specs.declared.chains.End.{End}
use Rattle.ev_links.specs.declared.chains.Spot.{Spot}
use Rattle.ev_links.specs.declared.chains.Standing.{Standing}
use Rattle.ev_known.specs.declared.following.Goal.{Goal}
use Rattle.ev_known.specs.declared.following.Goal.TheVariants.{To, Data}
use Rattle.ev_links.specs.contracts.chains.SpotPartialEq.TheImpl.{eq-value}
use Rattle.ev_links.specs.Chains.{PlanStands, PlanTables, end_of, standing}
use Rattle.ev_links.specs.Label.{label}

abbrev pub Table : Type 0
Table = List (Spot × Goal)

-- what is given at a spot
unfoldable pub goal_at : Table → Spot → Option Goal
goal_at es s = lookup (eq-value.it s) es

abbrev pub Puts : Spot → Goal → Table → Table → Type 0
Puts s g old new = (q : Spot) → goal_at new q ≡ cond (eq-value.it s q) (Some g) (goal_at old q)

-- put, unless something stands there
abbrev pub Noted : Spot → Goal → Bool → Table → Table → Type 0
Noted s g true old new = new ≡ old
Noted s g false old new = Puts s g old new

-- what a line gives
abbrev pub goal : Option Name → Goal
goal (Some n) = To (label (AName n))
goal None = Data

abbrev pub is_object_kind : Kind → Bool
is_object_kind kind.Object = true
is_object_kind _ = false

abbrev pub is_object_label : Label → Bool
is_object_label l = is_object_kind l.kind

abbrev pub next_by : Option Goal → Option Goal → Option Label
next_by (Some (To l)) view = Some l
next_by (Some Data) view = None
next_by None (Some (To l)) = Some l
next_by None (Some Data) = None
next_by None None = None

-- what a name leads to: what it settled to, else its view
abbrev pub next_of : Table → Table → ℕ → Label → Option Label
next_of settled viewed at l =
    next_by (goal_at settled (record { at = at; name = l })) (goal_at viewed (record { at = at; name = l }))

-- a name leads to the object
pub data Follows (settled viewed : Table) (at : ℕ) : Label → Label → Type 0 where
  there : {o : Label} → is_object_label o ≡ true → Follows settled viewed at o o
  further : {l o : Label} (m : Label) → is_object_label l ≡ false → next_of settled viewed at l ≡ Some m → Follows settled viewed at m o → Follows settled viewed at l o

abbrev pub FollowsTo : Table → Table → ℕ → Label → Option Label → Type 0
FollowsTo settled viewed at l None = (o : Label) → Follows settled viewed at l o → ⊥
FollowsTo settled viewed at l (Some o) = Follows settled viewed at l o

-- what a line gives is noted
abbrev pub NotedFor : ℕ → Option Given_for → Table → Table → Type 0
NotedFor at None old new = new ≡ old
NotedFor at (Some g) old new =
    let s : Spot = record { at = at; name = label (AName g.name) } in Noted s (goal g.value) (is_some (goal_at old s)) old new

-- what the table has for a name is what the first line gives
abbrev pub FirstAs : (Event → Option Given_for) → List Line → ℕ → Name → Option Goal → Type 0
FirstAs by past at n None = IsGivenBy by past at n → ⊥
FirstAs by past at n (Some g) =
    IsGivenBy by past at n × (v : Option Name) × (goal v ≡ g) × IsFirstGivenBy by past at n v × ((w : Option Name) → IsFirstGivenBy by past at n w → w ≡ v)

pub record GivesFirst (by : Event → Option Given_for) (es : Table) (past : List Line) : Type 0 where
  pub each : (at : ℕ) (n : Name) → FirstAs by past at n (goal_at es (record { at = at; name = label (AName n) }))

-- ---- chains of names that settled to one another

-- a name settled to the next, and so on, or they are one
pub data Steps (settled : Table) (at : ℕ) : Label → Label → Type 0 where
  here : {l : Label} → Steps settled at l l
  onward : {l o : Label} (n : Name) (m : Label) → label (AName n) ≡ l → is_object n ≡ false → goal_at settled (record { at = at; name = l }) ≡ Some (To m) → Steps settled at m o → Steps settled at l o

-- how far a chain has come, where its first name stands at 0
abbrev pub place_told : Option End → ℕ
place_told None = 0
place_told (Some e) = e.place

-- As far as chains have come, their names have settled to one another.
pub record ChainsStand (plan : PlanTables) (told : List (Spot × End)) (settled : Table) : Type 0 where
  pub planned : PlanStands plan
  pub steps : (at : ℕ) (l m : Label) (x y : Standing) → standing plan.standings (record { at = at; name = l }) ≡ Some x → standing plan.standings (record { at = at; name = m }) ≡ Some y → x.chain ≡ y.chain
      → x.place ≤ y.place → y.place ≤ place_told (end_of told (record { at = at; name = y.chain })) → Steps settled at l m
  pub ends : (at : ℕ) (chain : Label) (e : End) → end_of told (record { at = at; name = chain }) ≡ Some e → standing plan.standings (record { at = at; name = e.name }) ≡ Some (record { chain = chain; place = e.place })

-- a name leads to the next, and so on, at least once
pub data Strides (settled viewed : Table) (at : ℕ) : Label → Label → Type 0 where
  one : {l m : Label} → is_object_label l ≡ false → next_of settled viewed at l ≡ Some m → Strides settled viewed at l m
  more : {l o : Label} (m : Label) → is_object_label l ≡ false → next_of settled viewed at l ≡ Some m → Strides settled viewed at m o → Strides settled viewed at l o

abbrev pub StridesTo : Table → Table → ℕ → Label → Option Label → Type 0
StridesTo settled viewed at l None = next_of settled viewed at l ≡ None
StridesTo settled viewed at l (Some m) = Strides settled viewed at l m

-- whether a place is one to which the chain has come
abbrev pub is_told_in : List (Spot × End) → ℕ → Standing → Bool
is_told_in told at x = nat_le x.place (place_told (end_of told (record { at = at; name = x.chain })))

-- ---- all

pub record Tables : Type 0 where
  pub settled : Table
  pub viewed : Table
  pub plan : PlanTables
  pub told : List (Spot × End)

-- tables that have what the first lines give
pub record TablesStand (tables : Tables) (past : List Line) : Type 0 where
  pub settled : GivesFirst settles tables.settled past
  pub viewed : GivesFirst views tables.viewed past
  pub chains : ChainsStand tables.plan tables.told tables.settled

-- the one object to which a name leads, or none
abbrev pub FollowedAs : List Line → ℕ → Name → Option Label → Type 0
FollowedAs past at n None = (o : Name) → IsFollowed past at n o → ⊥
FollowedAs past at n (Some l) = (o : Name) × (label (AName o) ≡ l) × IsFollowed past at n o × ((p : Name) → IsFollowed past at n p → p ≡ o)
