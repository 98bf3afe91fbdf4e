-- In every world of a run what a vat has of its exports is what it ever exported, on cut links too.
use Rattle.std.proofs.Common.{◌≡◌, ℕ, zero, suc, Bool, true, false, List, [], ◌∷◌, ◌++◌, refl, sym, ap, subst, ◌∙◌, ◌==◌}
use Rattle.std.proofs.lemmas.Bool.{eqb-true}
use Rattle.def_machine.specs.Values.{Name}
use Rattle.def_run.specs.Wire as conn
use Rattle.def_run.specs.Wire.{Connected, connected_at, connects}
use Rattle.def_run.specs.World as world
use Rattle.def_run.specs.World.{Script, Program, Entry, World, Goes as Going, link_at}
use Rattle.law_fate.specs.Name.Names.{AllOf, IsAmong}
use Rattle.law_fate.specs.Name.Runs.{KnowsOnce}
use Rattle.law_fate.proofs.Name.Facts.{all_append}
use Rattle.law_reference.specs.Reference.Logs as wire
use Rattle.law_reference.specs.Reference.Cuts.{NoticesFollowCuts}
use Rattle.law_reference.proofs.Reference.SingleRuns as answers
use Rattle.law_frame.proofs.Frame.LinksStay.{AllLinked, opened_linked, stepped_linked, roots_is}
use Rattle.law_frame.proofs.Frame.SourceLaws.{log_is}
use Rattle.law_frame.specs.Heard.Exported.{ExportsLogged, ExportsAreAsLogged}
use Rattle.law_frame.proofs.Heard.CutAnswers.{Past, AnswersLost, lost_on}
use Rattle.law_frame.proofs.Heard.CutGifts.{AloneWhereLost, alone_on, lost_untold}
use Rattle.law_frame.proofs.Heard.CutHeard.{Answers, HeardOn, entry_goes, opening_goes, heard_later, heard_asked}
use Rattle.law_frame.proofs.Heard.CutSteps.{HeardWereAsked, LogsKept, Ready, open_logged, entry_logs, opening_logs}
use Rattle.law_frame.proofs.Heard.Lift.{Opened, opened_holds, stepped_holds}
use Rattle.law_frame.proofs.Heard.Pairs.{opened_paired, stepped_paired, begins_open, true_false}
use Rattle.law_frame.proofs.Heard.Pending.{AloneWhereLate, Facts, stands}
use Rattle.law_frame.proofs.Heard.Runs.{opened_worldly, stepped_worldly, opened_kept, stepped_kept, opening_pair, entry_pair}
use Rattle.law_frame.proofs.Heard.Steps.{Onward, Worldly}

-- ---- at the start nothing was heard

abbrev Unheard : Connected → Type 0
Unheard c = c.tables.answers ≡ []

to_or : (b : Bool) (c : Connected) (cs : List Connected) → Unheard c → AllOf Unheard cs → AllOf Unheard (elim b [ true ↦ cs | false ↦ c ∷ cs ])
to_or true c cs e h = h
to_or false c cs e h = (e, h)

to_unheard : (v : ℕ) (p : Program) (w : ℕ) (qs : List Program) → AllOf Unheard (world.connections_to v p w qs)
unfolding world.connections_to world.first_connection
to_unheard v p w [] = tt
to_unheard v p w (q ∷ qs) = to_or (v == w) (world.first_connection v w p q) (world.connections_to v p (suc w) qs) refl (to_unheard v p (suc w) qs)

from_unheard : (all : List Program) (v : ℕ) (ps : List Program) → AllOf Unheard (world.connections_from all v ps)
unfolding world.connections_from
from_unheard all v [] = tt
from_unheard all v (p ∷ ps) = all_append Unheard (world.connections_to v p zero all) (world.connections_from all (suc v) ps) (to_unheard v p zero all) (from_unheard all (suc v) ps)

found_or : (b : Bool) (c d : Connected) → Unheard c → Unheard d → Unheard (elim b [ true ↦ c | false ↦ d ])
found_or true c d e f = e
found_or false c d e f = f

found_unheard : (v u : ℕ) (cs : List Connected) → AllOf Unheard cs → Unheard (connected_at v u cs)
unfolding connected_at conn.unconnected
found_unheard v u [] h = refl
found_unheard v u (c ∷ cs) h = found_or (connects v u c) c (connected_at v u cs) h.0 (found_unheard v u cs h.1)

-- ---- runs

-- what is kept along
abbrev Along : World → Type 0
Along w = HeardWereAsked w × AnswersLost w × AloneWhereLost w

module _ (script : Script) where
  abbrev Known : World → Type 0
  Known w = Past script w × AloneWhereLate w

  begins_along : Along (world.begins script)
  unfolding world.begins
  begins_along = (
    λ v u z a. absurd (subst (λ ns. IsAmong z ns) (found_unheard v u (world.connections_from script.vats zero script.vats) (from_unheard script.vats zero script.vats)) a),
    λ u g m r other at l link cut asks unheard. absurd (true_false cut (begins_open script u g l link)),
    λ u g i r other at l link cut asks unheard. absurd (true_false cut (begins_open script u g l link)),
  )

  along_on : (x y : World) → Known x → Known y → Onward script x y → HeardOn x y → ((v u : ℕ) (z : Name) → IsAmong z (Answers y.connections v u) → IsAmong z (wire.questions (λ i. i) y.links u v)) → Along x → Along y
  along_on x y f g pair on heard h = (heard, lost_on script x y f.0 g.0.facts on pair.0 h.1, alone_on script x y f.0 f.1 g.0.facts on pair.0 h.2)

  entry_along : (e : Entry) (k : ℕ) (x y : World) → Known x → Known y → Onward script x y → world.step script e k x ≡ Going y → Along x → Along y
  entry_along e k x y f g pair i h = along_on x y f g pair (λ v u z a. heard_later script x y f.0.facts pair v u z (entry_goes script x y f.0.facts pair v u z e k i) a)
      (λ v u z a. heard_asked script x y f.0.facts pair v u z h.0 (entry_goes script x y f.0.facts pair v u z e k i) a) h

  opening_along : (v : ℕ) (p : Program) (x y : World) → Known x → Known y → Onward script x y → Opened script x y v p → Along x → Along y
  opening_along c p x y f g pair o h = along_on x y f g pair (λ v u z a. heard_later script x y f.0.facts pair v u z (opening_goes script x y f.0.facts pair v u z c p o) a)
      (λ v u z a. heard_asked script x y f.0.facts pair v u z h.0 (opening_goes script x y f.0.facts pair v u z c p o) a) h

  module _ (once : KnowsOnce script) where
    abbrev Openings : (World → Type 0) → Type 0
    Openings P = (ps rest : List Program) (w : World) → script.vats ≡ ps ++ rest → world.open_from script zero ps (world.begins script) ≡ Going w → P w

    abbrev Entries : (World → Type 0) → Type 0
    Entries P = (w x : World) (es : List Entry) (k : ℕ) → NoticesFollowCuts es → world.open_from script zero script.vats (world.begins script) ≡ Going w → world.steps_from script es k w ≡ Going x → P x

    opened_known : Openings Known
    opened_known ps rest w split e = let worldly = opened_worldly script once ps rest w split e in
        (record { facts = worldly.facts; legs = (answers.opened_both script once ps rest w split e).legs; kept = opened_kept script once ps rest w split e; paired = opened_paired script once ps rest w split e }, worldly.late)

    stepped_known : Entries Known
    stepped_known w x es k follow opened stepped = let worldly = stepped_worldly script once w x es k follow opened stepped in
        (record { facts = worldly.facts; legs = (answers.stepped_both script once w x es k opened stepped).legs; kept = stepped_kept script once w x es k follow opened stepped; paired = stepped_paired script once w x es k opened stepped }, worldly.late)

    opened_along : Openings Along
    opened_along = opened_holds script Known Known (Onward script) opened_known stepped_known (opening_pair script once) (entry_pair script once) Along opening_along entry_along begins_along

    stepped_along : Entries Along
    stepped_along = stepped_holds script Known Known (Onward script) opened_known stepped_known (opening_pair script once) (entry_pair script once) Along opening_along entry_along begins_along

    ready : (w : World) → Worldly script w → Known w → Along w → Ready script w
    ready w worldly f h = record { worldly = worldly; kept = f.0.kept; paired = f.0.paired; heard = h.0; untold = lost_untold script w f.0.facts f.0.paired h.1 h.2 }

    opened_ready : Openings (Ready script)
    opened_ready ps rest w split e = ready w (opened_worldly script once ps rest w split e) (opened_known ps rest w split e) (opened_along ps rest w split e)

    stepped_ready : Entries (Ready script)
    stepped_ready w x es k follow opened stepped = ready x (stepped_worldly script once w x es k follow opened stepped) (stepped_known w x es k follow opened stepped) (stepped_along w x es k follow opened stepped)

    begins_logs : LogsKept (world.begins script)
    unfolding world.open_from
    begins_logs v u r s there gone other l at = let f = opened_known [] script.vats (world.begins script) refl refl in
        open_logged script (world.begins script) f.0.facts f.0.kept f.0.paired v u r s there gone other l at (begins_open script v u l at)

    opened_logs : Openings LogsKept
    opened_logs = opened_holds script (Ready script) (Ready script) (Onward script) opened_ready stepped_ready (opening_pair script once) (entry_pair script once) LogsKept
        (λ v p x y f g m o h. opening_logs script v p x y g m o h) (λ e k x y f g m i h. entry_logs script e k x y g m i h) begins_logs

    stepped_logs : Entries LogsKept
    stepped_logs = stepped_holds script (Ready script) (Ready script) (Onward script) opened_ready stepped_ready (opening_pair script once) (entry_pair script once) LogsKept
        (λ v p x y f g m o h. opening_logs script v p x y g m o h) (λ e k x y f g m i h. entry_logs script e k x y g m i h) begins_logs

    not_same : (v u : ℕ) → (v ≡ u → ⊥) → (v == u) ≡ false
    not_same v u o = by (v == u) refl
      where
        by : (b : Bool) → (v == u) ≡ b → b ≡ false
        by true e = absurd (o (eqb-true v u e))
        by false e = refl

    -- there is a link between any two vats
    all_logged : (w : World) → Facts script w → AllLinked script w → LogsKept w → ExportsLogged w
    unfolding wire.exports
    all_logged w f linked h v u r s there gone other =
        let a = (stands script w f).vats v r there in let b = (stands script w f).vats u s gone in let l = linked v u (not_same v u other) a.low b.low in
        h v u r s there gone other l.0 l.1 ∙ ap (λ ns. wire.exports_after v (wire.questions (λ i. i) w.links u v) ns l.0.roots) (sym (log_is l.0 (link_at v u w.links) l.1))
        ∙ ap (λ rs. wire.exports_after v (wire.questions (λ i. i) w.links u v) (wire.log_of (link_at v u w.links)) rs) (sym (roots_is l.0 (link_at v u w.links) l.1))

pub exports_logged : ExportsAreAsLogged
exports_logged script once = (
  λ ps rest w split e. all_logged script once w (opened_known script once ps rest w split e).0.facts (opened_linked script once ps rest w split e) (opened_logs script once ps rest w split e),
  λ w x es k follow opened stepped. all_logged script once x (stepped_known script once w x es k follow opened stepped).0.facts (stepped_linked script once w x es k opened stepped) (stepped_logs script once w x es k follow opened stepped),
)
