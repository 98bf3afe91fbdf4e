-- Lines are decided by sets of labels.
use Rattle.std.proofs.Common.{◌≡◌, Bool, true, false, List, [], Option, Some, None, refl, sym, ap, subst, ◌∙◌, inl, inr}
use Rattle.std.specs.Prelude.{◌↔◌}
use Rattle.ev_base.specs.declared.names.Msg.{Msg}
use Rattle.def_event.specs.declared.event.Addressed.{Addressed}
use Rattle.def_event.specs.declared.event.Event.{Event}
use Rattle.def_event.specs.declared.event.Event.TheVariants.{Take}
use Rattle.def_event.specs.Uses as uses
use Rattle.def_event.specs.Uses.{AName, CarriesThese, IsAmong, IsListed, Line, Reaches, TakesSent, Thing, all_parts, arguments_in, line_before}
use Rattle.ev_links.specs.declared.label.Label.{Label}
use Rattle.ev_links.specs.declared.links.Link.{Link}
use Rattle.ev_links.specs.declared.links.Scope.TheVariants.{All, Lists}
use Rattle.ev_links.specs.Label.{label}
use Rattle.ev_links.specs.Links.{AreReached}
use Rattle.ev_known.proofs.Keys.{label_same}
use Rattle.ev_uses.specs.declared.sought.Sought.TheVariants.{Names, NoGifts}
use Rattle.ev_uses.specs.Lines.{AddsThings, message_of, things_with}
use Rattle.ev_uses.specs.Onward.{OnwardStand}
use Rattle.ev_uses.specs.Sought.{ReachesSought, has_sought}
use Rattle.ev_uses.proofs.Comparing.{no_gifts, other_names, same_names}
use Rattle.ev_uses.proofs.Reaching.{AreLabels, added_labels, all_open, lists_open, reached_back, reached_labels, reaches_more, same_parts}

-- ---- what is carried

pub nothing_carried : (past : List Line) (d : Option (Msg × List Thing)) → message_of d ≡ None → (true ≡ true) ↔ CarriesThese past d
nothing_carried past None e = (λ h. tt, λ h. refl)
nothing_carried past (Some x) e = absurd cc

carried_decided : (rows : List (Label × List Link)) (past : List Line) (d : Option (Msg × List Thing)) (m : Msg) (ts : List Thing) (carried old known : List Label) (b : Bool)
    → OnwardStand rows past → message_of d ≡ Some m → AddsThings (things_with d) [] carried → AddsThings ts [] old → ts ≡ line_before past m → AreReached rows All old known
    → b ≡ has_sought NoGifts known carried → (b ≡ true) ↔ CarriesThese past d
carried_decided rows past None m ts carried old known b o is c a before r e = absurd cc
carried_decided rows past (Some x) m ts carried old known b o is c a before r e =
    let same : x.0 ≡ m = cc in
    let had : List Thing = line_before past x.0 in
    let started : AreLabels old (λ t. IsAmong t had)
    = added_labels had old (subst (λ (us : List Thing). AddsThings us [] old) (before ∙ ap (line_before past) (sym same)) a) in
    let both = no_gifts known carried (Reaches past (λ t. IsAmong t had) (λ w. Unit {0})) (λ t. IsAmong t x.1)
    (reached_labels rows past o All (λ w. Unit {0}) all_open had old started known r) (added_labels x.1 carried c) in
    (λ h. both.0 (sym e ∙ h), λ h. e ∙ both.1 h)

-- all that is carried was found on the way
carried_found : (rows : List (Label × List Link)) (past : List Line) (d : Option (Msg × List Thing)) (m : Msg) (ts : List Thing) (carried old known : List Label)
    → OnwardStand rows past → message_of d ≡ Some m → AddsThings (things_with d) [] carried → AddsThings ts [] old → ts ≡ line_before past m → ReachesSought rows old known carried true → CarriesThese past d
carried_found rows past None m ts carried old known o is c a before r = absurd cc
carried_found rows past (Some x) m ts carried old known o is c a before r =
    let same : x.0 ≡ m = cc in
    let had : List Thing = line_before past x.0 in
    let started : AreLabels old (λ t. IsAmong t had)
    = added_labels had old (subst (λ (us : List Thing). AddsThings us [] old) (before ∙ ap (line_before past) (sym same)) a) in
    let back = reached_back rows past o All (λ w. Unit {0}) all_open had old started in
    let found : AreLabels known (λ t. IsAmong (label t) known)
    = record { there = λ t h. h; back = λ l i. let t = back l (r.sound l i) in (t.0, t.1, subst (λ (y : Label). IsAmong y known) (sym t.1) i) } in
    let both = no_gifts known carried (λ t. IsAmong (label t) known) (λ t. IsAmong t x.1) found (added_labels x.1 carried c) in
    λ n i. elim (both.0 (sym r.answer) n i) [
      | inl g ↦ inl g
      | inr b ↦ inr (let t = back (label (AName n)) (r.sound (label (AName n)) b) in subst (Reaches past (λ u. IsAmong u had) (λ w. Unit {0})) (label_same t.0 (AName n) t.1) t.2)
    ]

pub carried_sought : (rows : List (Label × List Link)) (past : List Line) (d : Option (Msg × List Thing)) (m : Msg) (ts : List Thing) (carried old known : List Label) (b : Bool)
    → OnwardStand rows past → message_of d ≡ Some m → AddsThings (things_with d) [] carried → AddsThings ts [] old → ts ≡ line_before past m → ReachesSought rows old known carried b
    → (b ≡ true) ↔ CarriesThese past d
carried_sought rows past d m ts carried old known true o is c a before r = (λ _. carried_found rows past d m ts carried old known o is c a before r, λ _. refl)
carried_sought rows past d m ts carried old known false o is c a before r = carried_decided rows past d m ts carried old known false o is c a before (r.all refl) r.answer

-- ---- what is taken

-- the same parts were sent
pub takes_alike : (es : List Event) (past : List Line) (t : Addressed) (there sent : List Label) → AddsThings (all_parts t.args) [] there → AddsThings (arguments_in es t.message) [] sent → there ≡ sent
    → (true ≡ true) ↔ TakesSent es past (Take t)
unfolding TakesSent
takes_alike es past t there sent h g same =
    let parts = all_parts t.args in
    let others = arguments_in es t.message in
    let k = subst (AddsThings parts []) same h in (
      λ _. λ n. (
        reaches_more past (λ u. IsAmong u parts) (λ u. IsAmong u others) IsListed (AName n) (same_parts parts others sent k g),
        reaches_more past (λ u. IsAmong u others) (λ u. IsAmong u parts) IsListed (AName n) (same_parts others parts sent g k),
      ),
      λ _. refl,
    )

pub stands_in : (rows : List (Label × List Link)) (past : List Line) (ts : List Thing) (old labels : List Label) → OnwardStand rows past → AddsThings ts [] old → AreReached rows Lists old labels
    → AreLabels labels (Reaches past (λ t. IsAmong t ts) IsListed)
stands_in rows past ts old labels o a r = reached_labels rows past o Lists IsListed lists_open ts old (added_labels ts old a) labels r

module _ (es : List Event) (past : List Line) (t : Addressed) (there sent : List Label) (are : AreLabels there (Reaches past (λ u. IsAmong u (all_parts t.args)) IsListed))
    (others : AreLabels sent (Reaches past (λ u. IsAmong u (arguments_in es t.message)) IsListed)) where
  pub takes_same : (b : Bool) → has_sought Names sent there ≡ true → b ≡ has_sought Names there sent → (b ≡ true) ↔ TakesSent es past (Take t)
  unfolding TakesSent
  takes_same b first e =
      let both = same_names there sent (Reaches past (λ u. IsAmong u (all_parts t.args)) IsListed) (Reaches past (λ u. IsAmong u (arguments_in es t.message)) IsListed) are others first in
      (λ h. both.0 (sym e ∙ h), λ h. e ∙ both.1 h)

  pub takes_other : has_sought Names sent there ≡ false → (false ≡ true) ↔ TakesSent es past (Take t)
  unfolding TakesSent
  takes_other first =
      other_names there sent (Reaches past (λ u. IsAmong u (all_parts t.args)) IsListed) (Reaches past (λ u. IsAmong u (arguments_in es t.message)) IsListed) are others first
