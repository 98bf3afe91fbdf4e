-- What activations know, in the terms of tables.
use Rattle.std.specs.Prelude.{◌≡◌, ◌<◌, ℕ, Bool, true, false, ◌&&◌, not, if◌then◌else◌, List, length, reverse, Option, Some, None}
use Rattle.std.specs.List.{list_any}
use Rattle.ev_base.specs.declared.names.Name.{Name}
use Rattle.def_event.specs.Uses.{Audition, IsFollowed, IsTold, Line}
use Rattle.ev_known.specs.declared.facts.Activation.{Activation}
use Rattle.ev_known.specs.declared.facts.Fact.{Fact}
use Rattle.ev_known.specs.declared.facts.Fact.TheVariants as fact
use Rattle.ev_known.specs.declared.found.Finding.{Finding}
use Rattle.ev_known.specs.declared.marks.Holder.TheVariants as holder
use Rattle.ev_known.specs.declared.marks.Mark.{Mark}
use Rattle.ev_links.specs.declared.chains.Standing.{Standing}
use Rattle.ev_links.specs.declared.label.Label.{Label}
use Rattle.ev_links.specs.declared.label.Kind.{Kind}
use Rattle.ev_links.specs.declared.label.Kind.TheVariants as kind
use Rattle.ev_links.specs.declared.links.Link.{Link}
use Rattle.ev_links.specs.declared.links.Scope.TheVariants.{Place}
use Rattle.ev_links.specs.Chains.{standing}
use Rattle.ev_known.specs.Following.{Tables, TablesStand, is_told_in}
use Rattle.ev_known.specs.Marks.{MarksStand, is_marked}
use Rattle.ev_known.specs.Found.{FoundStand, is_found}
use Rattle.ev_known.specs.Leads.{LinksStand}
use Rattle.ev_links.specs.Links.{IsReached, is_open, row}
use Rattle.ev_known.specs.Runs.{RunsStand, runner}
use Rattle.ev_known.specs.Telling.{StandsFor, is_told}

pub record Known : Type 0 where
  pub facts : List Fact
  pub following : Tables
  pub runs : List (Activation × Label)
  pub links : List (Label × List Link)
  pub marks : List (Mark × ℕ)
  pub found : List Finding

-- it stands for these lines
pub record KnownStand (k : Known) (past : List Line) : Type 0 where
  pub facts : StandsFor k.facts past
  pub following : TablesStand k.following past
  pub runs : RunsStand k.runs past
  pub links : LinksStand k.links past
  pub marks : MarksStand k.marks k.following.plan past
  pub found : FoundStand k.found past

abbrev pub is_root_kind : Kind → Bool
is_root_kind kind.Root = true
is_root_kind _ = false

abbrev pub is_root_label : Label → Bool
is_root_label l = is_root_kind l.kind

abbrev pub has_captured : List Fact → Option Label → Label → Bool
has_captured facts None l = false
has_captured facts (Some o) l = is_told facts (fact.Captured o l)

-- what an activation has by itself
abbrev pub has_in : Known → Activation → Label → Bool
has_in k a l =
    if is_root_label l && is_told k.facts (fact.Opened a) then true
    else if is_told k.facts (fact.Given a l) then true else has_captured k.facts (runner k.runs a) l

abbrev pub is_marked_for : Known → ℕ → Standing → Option Label → Bool
is_marked_for k at x None = false
is_marked_for k at x (Some o) = is_marked k.marks (holder.Object o) at x

abbrev pub is_behind : Known → Activation → Option Standing → Bool
is_behind k a None = false
is_behind k a (Some x) =
    if not (is_told_in k.following.told a.at x) then false
    else if is_marked k.marks (holder.Activation a) a.at x then true else is_marked_for k a.at x (runner k.runs a)

-- whether it stands in a chain behind what the activation, or the object that it runs, has there
abbrev pub is_chained : Known → Activation → Label → Bool
is_chained k a l = is_behind k a (standing k.following.plan.standings (record { at = a.at; name = l }))

-- what it has, or was found to know, or stands behind what it has
abbrev pub knows_in : Known → Activation → Label → Bool
knows_in k a l = if is_found k.found (record { by = a; thing = l }) then true else if has_in k a l then true else is_chained k a l

-- whether a link leads from there
abbrev pub leads_from : Known → Activation → Link → Bool
leads_from k a x = is_open (Place a.at) x.way && knows_in k a x.other

-- whether one of the links does, of which the last is looked at first
abbrev pub any_leads : Known → Activation → List Link → Bool
any_leads k a links = list_any (leads_from k a) (reverse links)

-- whether something known leads to the thing
abbrev pub is_led : Known → Activation → Label → Bool
is_led k a l = any_leads k a (row k.links l)

-- Going back from these, all that was looked at: at that place stands one to which something known leads, or there is none such.
abbrev pub Searched : Known → Activation → List Label → List Label → Option ℕ → Type 0
Searched k a starts seen None = (l : Label) → IsReached k.links (Place a.at) starts l → is_led k a l ≡ false
Searched k a starts seen (Some i) = (i < length seen) × (l : Label) × IsReached k.links (Place a.at) starts l × (is_led k a l ≡ true)

-- the name is followed at the place to an audition
abbrev pub LeadsToAudition : List Line → ℕ → Name → Type 0
LeadsToAudition past at n = (o : Name) × IsFollowed past at n o × IsTold past (Audition o)
