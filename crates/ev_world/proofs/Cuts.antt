-- Steps of a run that change no vat: a link is cut, and an entry that does nothing.
use Rattle.std.proofs.Common.{◌≡◌, ℕ, Bool, true, false, List, [], ◌∷◌, ◌++◌, Option, Some, None, length, map, refl, sym, ap, subst, ◌∙◌, append_assoc}
use Rattle.std.specs.Prelude.{filter}
use Rattle.std.proofs.lemmas.List.Elements.{filter-append}
use Rattle.def_event.specs.Lines.{is_no_frame}
use Rattle.def_event.specs.declared.event.Event.{Event as ShownEvent}
use Rattle.def_event.specs.declared.event.Event.TheVariants as line
use Rattle.def_run.specs.Numbers.{Vats, Way, cut, idle, lost_on, severed, step, way_at, with_way}
use Rattle.def_run.specs.Shown.{shown_event}
use Rattle.def_run.specs.Text.{shown_events, vat_names}
use Rattle.def_run.specs.World.{CutAt, CutLink, Event, Idle, Script}
use Rattle.ev_base.specs.declared.names.Msg.{Msg}
use Rattle.ev_step_text.specs.Accounts.{IsAccount, More}
use Rattle.ev_step_text.specs.declared.account.Account.{Account}
use Rattle.ev_ways.specs.declared.frame.Frame.{Frame}
use Rattle.ev_ways.specs.declared.frame.Label.{Label}
use Rattle.ev_ways.specs.Labels.{label_of}
use Rattle.ev_ways.specs.Rows.{Lane, changed, frames_at}
use Rattle.ev_ways.specs.Rows as rows
use Rattle.ev_ways.specs.Standing.{WaysStand}
use Rattle.ev_ways.specs.Statements.{IsCut}
use Rattle.ev_ways.specs.Telling.{lost_event, lost_events, lost_labels}
use Rattle.ev_ways.proofs.Cuts.{cut_stands, shown_join}
use Rattle.ev_world.specs.Standing.{Comes, IsWorld, told_so}
use Rattle.ev_world.specs.declared.world.World.{World}

-- ---- lines that are no frames

pub told_behind : (wire : Bool) (h a b : List ShownEvent) → h ≡ told_so wire a → filter is_no_frame b ≡ b → h ++ b ≡ told_so wire (a ++ b)
told_behind true h a b e f = ap (λ (es : List ShownEvent). es ++ b) e
told_behind false h a b e f = ap (λ (es : List ShownEvent). es ++ b) e ∙ ap (λ (es : List ShownEvent). filter is_no_frame a ++ es) (sym f) ∙ sym (filter-append is_no_frame a b)

-- an account that grew by such lines
pub says_behind : (names : List (List ℕ)) (wire : Bool) (h j : Account) (a b : List ShownEvent) → IsAccount names h (told_so wire a) → filter is_no_frame b ≡ b → More h j b → IsAccount names j (told_so wire (a ++ b))
says_behind names wire h j a b is plain more = subst (λ (es : List ShownEvent). IsAccount names j es) (told_behind wire (told_so wire a) a b refl plain) (more names (told_so wire a) is)

one_lost : (o : Option Msg) (es : List ShownEvent) → filter is_no_frame es ≡ es → filter is_no_frame (lost_event o ++ es) ≡ lost_event o ++ es
unfolding lost_event
one_lost None es e = e
one_lost (Some m) es e = ap (λ (xs : List ShownEvent). line.LostCut m ∷ xs) e

lost_plain : (ks : List Frame) → filter is_no_frame (lost_events ks) ≡ lost_events ks
unfolding lost_labels lost_events
lost_plain [] = refl
lost_plain (k ∷ ks) = one_lost k.message (lost_events ks) (lost_plain ks)

-- ---- other ways, and more lines

-- The vats stay, the ways are others, and there are more lines.
pub moved : (S : Script) (w : Vats) (c : World) (ls : List Way) (more : List Event) (ways : List (List Lane)) (lines : List ShownEvent) (h : Account) → IsWorld S w c
    → WaysStand w.drawn (length S.vats) ls ways → shown_events w.drawn more ≡ lines → filter is_no_frame lines ≡ lines → More c.history h lines
    → IsWorld S (record w { ways = ls; history = w.history ++ more }) (record c { ways = ways; history = h })
moved S w c ls more ways lines h at stand shown plain grew = record {
  fuel = at.fuel;
  key = at.key;
  drawn = at.drawn;
  depth = at.depth;
  count = at.count;
  members = at.members;
  residents = λ u m r e f.
      let is = at.residents u m r e f in
      record { member = is.member; ready = is.ready; key = is.key; names = is.names; objects = is.objects };
  rooms = at.rooms;
  programs = at.programs;
  nouns = at.nouns;
  ways = stand;
  history =
      subst (λ (es : List ShownEvent). IsAccount (vat_names S) h (told_so c.wire es))
      (ap (λ (es : List ShownEvent). shown_events w.drawn w.history ++ es) (sym shown) ∙ sym (shown_join w.drawn w.history more))
      (says_behind (vat_names S) c.wire c.history h (shown_events w.drawn w.history) lines at.history plain grew);
}

-- an entry that does nothing
pub idle_is : (S : Script) (w : Vats) (c : World) (k : ℕ) (h : Account) → IsWorld S w c → More c.history h (line.Idle k ∷ []) → Comes (λ (y : Vats). IsWorld S y (record c { history = h })) (idle S k w)
unfolding idle shown_events shown_event
idle_is S w c k h at grew = (record w { history = w.history ++ Idle k ∷ [] }, (refl, moved S w c w.ways (Idle k ∷ []) c.ways (line.Idle k ∷ []) h at at.ways refl refl grew))

-- ---- a link is cut

abbrev cut_lines : ℕ → ℕ → ℕ → List (List Lane) → List ShownEvent
cut_lines k v u ways = line.Cut k v u ∷ (lost_events (frames_at v u ways) ++ lost_events (frames_at u v (changed rows.severed v u ways)))

cut_plain : (k v u : ℕ) (xs ys : List Frame) → filter is_no_frame (line.Cut k v u ∷ (lost_events xs ++ lost_events ys)) ≡ line.Cut k v u ∷ (lost_events xs ++ lost_events ys)
cut_plain k v u xs ys =
    ap (λ (es : List ShownEvent). line.Cut k v u ∷ es)
    (filter-append is_no_frame (lost_events xs) (lost_events ys) ∙ ap (λ (es : List ShownEvent). es ++ filter is_no_frame (lost_events ys)) (lost_plain xs) ∙ ap (λ (es : List ShownEvent). lost_events xs ++ es) (lost_plain ys))

cut_shown : (ds : List ℕ) (k v u : ℕ) (more : List Event) → shown_events ds (CutAt k v u ∷ more) ≡ line.Cut k v u ∷ shown_events ds more
unfolding shown_events shown_event
cut_shown ds k v u more = refl

pub cut_is : (S : Script) (w : Vats) (c : World) (k v u : ℕ) (h : Account) → IsWorld S w c → More c.history h (cut_lines k v u c.ways)
    → Comes (λ (y : Vats). IsWorld S y (record c { ways = changed rows.severed u v (changed rows.severed v u c.ways); history = h })) (step S (CutLink v u) k w)
unfolding step cut
cut_is S w c k v u h at grew =
    let law : IsCut w.drawn (length S.vats) v u w.ways c.ways = cut_stands w.drawn (length S.vats) v u w.ways c.ways at.ways in
    let lost : List Event = lost_on (way_at v u w.ways) ++ lost_on (way_at u v w.ways) in (
      record w { ways = with_way severed u v (with_way severed v u w.ways); history = w.history ++ CutAt k v u ∷ lost },
      (
        refl,
        moved S w c (with_way severed u v (with_way severed v u w.ways)) (CutAt k v u ∷ lost) (changed rows.severed u v (changed rows.severed v u c.ways)) (cut_lines k v u c.ways) h at law.stand
            (cut_shown w.drawn k v u lost ∙ ap (λ (es : List ShownEvent). line.Cut k v u ∷ es) law.lost) (cut_plain k v u (frames_at v u c.ways) (frames_at u v (changed rows.severed v u c.ways))) grew,
      ),
    )

-- the lines of a cut as they are told one after the other
pub cut_told : (h a b : List ShownEvent) (e : ShownEvent) → ((h ++ e ∷ []) ++ a) ++ b ≡ h ++ e ∷ (a ++ b)
cut_told h a b e = append_assoc (h ++ e ∷ []) a b ∙ append_assoc h (e ∷ []) (a ++ b)

-- what is left once both ways were cut, one after the other
pub cut_done : (S : Script) (w : Vats) (c : World) (k v u : ℕ) (there back : List (List Lane)) (first second : List Label) (a b h : Account) → IsWorld S w c
    → there ≡ changed rows.severed v u c.ways → back ≡ changed rows.severed u v there → first ≡ map label_of (frames_at v u c.ways) → second ≡ map label_of (frames_at u v there)
    → More c.history a (line.Cut k v u ∷ []) → More a b (lost_labels first) → More b h (lost_labels second)
    → Comes (λ (y : Vats). IsWorld S y (record c { ways = back; history = h })) (step S (CutLink v u) k w)
unfolding lost_events
cut_done S w c k v u there back first second a b h at one two lost more begun then_lost then_more =
    let ways : changed rows.severed u v (changed rows.severed v u c.ways) ≡ back = sym (two ∙ ap (λ (r : List (List Lane)). changed rows.severed u v r) one) in
    let all_first : lost_labels first ≡ lost_events (frames_at v u c.ways) = ap lost_labels lost in
    let all_second : lost_labels second ≡ lost_events (frames_at u v (changed rows.severed v u c.ways)) = ap lost_labels (more ∙ ap (λ (r : List (List Lane)). map label_of (frames_at u v r)) one) in
    let lines : (es : List ShownEvent) → ((es ++ line.Cut k v u ∷ []) ++ lost_labels first) ++ lost_labels second ≡ es ++ cut_lines k v u c.ways = λ es.
    cut_told es (lost_labels first) (lost_labels second) (line.Cut k v u)
    ∙ ap (λ (xs : List ShownEvent). es ++ line.Cut k v u ∷ (xs ++ lost_labels second)) all_first
    ∙ ap (λ (xs : List ShownEvent). es ++ line.Cut k v u ∷ (lost_events (frames_at v u c.ways) ++ xs)) all_second in
    let grew : More c.history h (cut_lines k v u c.ways) = λ names es is.
    subst (λ (xs : List ShownEvent). IsAccount names h xs) (lines es)
    (then_more names ((es ++ line.Cut k v u ∷ []) ++ lost_labels first) (then_lost names (es ++ line.Cut k v u ∷ []) (begun names es is))) in
    subst (λ (r : List (List Lane)). Comes (λ (y : Vats). IsWorld S y (record c { ways = r; history = h })) (step S (CutLink v u) k w)) ways (cut_is S w c k v u h at grew)
