-- In each world of a run a vat asked another once for a name.
use Rattle.std.proofs.Common.{◌≡◌, ℕ, zero, ◌<◌, List, [], ◌++◌, Option, Some, None, refl, sym, subst, length}
use Rattle.def_machine.specs.Values.{Name}
use Rattle.def_run.specs.World as world
use Rattle.def_run.specs.World.{Script, Program, Entry, Link, World, Goes as Going, link_at}
use Rattle.def_run.specs.Wire.{connected_at}
use Rattle.law_fate.specs.Name.Names.{Once}
use Rattle.law_fate.specs.Name.Runs.{KnowsOnce}
use Rattle.law_reference.specs.Reference.ApartAsking.{InRunsBehindCuts}
use Rattle.law_reference.specs.Reference.Cuts.{NoticesFollowCuts}
use Rattle.law_reference.specs.Reference.Logs as wire
use Rattle.law_reference.proofs.Reference.ApartWhole.{known_once}
use Rattle.law_reference.proofs.Reference.Moves.{Moved}
use Rattle.law_reference.proofs.Reference.SingleRuns as answers
use Rattle.law_machine.specs.Run.Moves.{IsReached}
use Rattle.law_machine.proofs.Run.Honest.{honest_reached}
use Rattle.law_frame.proofs.Frame.Answered.{opening_move, entry_move}
use Rattle.law_frame.proofs.Frame.LinksStay.{AllLinked, opened_linked, stepped_linked}
use Rattle.law_frame.proofs.Frame.OrderRuns.{differ_once}
use Rattle.law_frame.proofs.Heard.Lift.{opened_holds, stepped_holds}
use Rattle.law_frame.proofs.Heard.Questions.{questions_logged}
use Rattle.law_frame.proofs.Heard.Runs.{opened_worldly, stepped_worldly}
use Rattle.law_frame.proofs.Heard.Start.{found, from_match}
use Rattle.law_frame.proofs.Heard.Steps.{Asked}
use Rattle.law_frame.specs.Steady.Statements.{OfTwo}
use Rattle.law_frame.proofs.Steady.AskSteps.{Known, asked_on}
use Rattle.law_frame.proofs.Steady.Hearing.{unlike}
use Rattle.law_frame.proofs.Steady.Questions.{reached, opened_counted, stepped_counted}

abbrev pub AllAskedOnce : World → Type 0
AllAskedOnce w = (u h : ℕ) → Once (Asked w u h)

-- at the start nothing was asked for
begins_once : (script : Script) → AllAskedOnce (world.begins script)
unfolding world.begins wire.questions wire.questions_in wire.log_of
begins_once script u h = by (link_at u h ls) refl
  where
    all : List Program
    all = script.vats

    ls : List Link
    ls = world.links_from all zero all

    empty : (l : Link) → link_at u h ls ≡ Some l → l.log ≡ []
    empty l at = let f = found all u h ls (world.connections_from all zero all) l (from_match all [] all zero refl refl) at in let q = f.quiet in q.1

    by : (o : Option Link) → link_at u h ls ≡ o → Once (wire.questions_in h (wire.log_of o))
    by None e = tt
    by (Some l) e = subst (λ (ns : List _). Once (wire.questions_in h ns)) (sym (empty l e)) tt

module _ (script : Script) (once : KnowsOnce script) where
  abbrev pub Openings : (World → Type 0) → Type 0
  Openings P = (ps rest : List Program) (w : World) → script.vats ≡ ps ++ rest → world.open_from script zero ps (world.begins script) ≡ Going w → P w

  abbrev pub Entries : (World → Type 0) → Type 0
  Entries P = (w x : World) (es : List Entry) (k : ℕ) → NoticesFollowCuts es → world.open_from script zero script.vats (world.begins script) ≡ Going w → world.steps_from script es k w ≡ Going x → P x

  opened_known : Openings (Known script)
  opened_known ps rest w split e = record {
    facts = (opened_worldly script once ps rest w split e).facts;
    legs = (answers.opened_both script once ps rest w split e).legs;
    once = differ_once w ((known_once script once).0 ps rest w split e);
  }

  stepped_known : Entries (Known script)
  stepped_known w x es k follow opened stepped = record {
    facts = (stepped_worldly script once w x es k follow opened stepped).facts;
    legs = (answers.stepped_both script once w x es k opened stepped).legs;
    once = differ_once x ((known_once script once).1 w x es k follow opened stepped);
  }

  moved_once : (x y : World) → Known script x → Known script y → Moved script x y → AllAskedOnce x → AllAskedOnce y
  moved_once x y f g m h u v = asked_on script x y f g u v (h u v) m

  opened_once : Openings AllAskedOnce
  opened_once = opened_holds script (Known script) (Known script) (Moved script) opened_known stepped_known (opening_move script once) (entry_move script once) AllAskedOnce (λ v p x y f g m o h. moved_once x y f g m h) (λ e k x y f g m i h. moved_once x y f g m h) (begins_once script)

  stepped_once : Entries AllAskedOnce
  stepped_once = stepped_holds script (Known script) (Known script) (Moved script) opened_known stepped_known (opening_move script once) (entry_move script once) AllAskedOnce (λ v p x y f g m o h. moved_once x y f g m h) (λ e k x y f g m i h. moved_once x y f g m h) (begins_once script)

abbrev pub AsksEachOnce : World → Type 0
AsksEachOnce w = OfTwo w (λ u v. Once (connected_at u v w.connections).tables.questions)

-- the questions of a connection are what its notes asked for
of_connections : (script : Script) (w : World) → IsReached script w → AllLinked script w → length w.vats ≡ length script.vats → AllAskedOnce w → AsksEachOnce w
of_connections script w r linked count h u v low_u low_v other =
    let m = linked u v (unlike u v (λ e. other (sym e))) (subst (λ n. u < n) count low_u) (subst (λ n. v < n) count low_v) in
    subst (λ (qs : List Name). Once qs) (sym (questions_logged script [] w (reached script w r) u v m.0 m.1)) (h u v)

pub each_asked : InRunsBehindCuts AsksEachOnce
each_asked script once = (
  λ ps rest w split opened. of_connections script w ((honest_reached script).0 ps rest w split opened) (opened_linked script once ps rest w split opened) (opened_counted script once ps rest w split opened) (opened_once script once ps rest w split opened),
  λ w x es k follow opened stepped. of_connections script x ((honest_reached script).1 w x es k opened stepped) (stepped_linked script once w x es k opened stepped) (stepped_counted script once w x es k opened stepped) (stepped_once script once w x es k follow opened stepped),
)
