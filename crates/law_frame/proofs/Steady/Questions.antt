-- What a vat asked another for is of that one.
use Rattle.std.proofs.Common.{◌≡◌, ℕ, zero, ◌<◌, true, List, [], ◌∷◌, ◌++◌, sym, ap, ◌∙◌, subst, length}
use Rattle.def_machine.specs.Values.{Name, host_of}
use Rattle.def_machine.specs.State.{Note, Vat, is_in}
use Rattle.def_run.specs.World as machine
use Rattle.def_run.specs.World.{Script, Program, Entry, World, Goes}
use Rattle.law_fate.specs.Name.Names.{AllOf}
use Rattle.law_fate.specs.Name.Runs.{KnowsOnce}
use Rattle.law_machine.specs.Run.Moves.{Deed, Nobody, AnyNotice, IsReached, Reached, Move, Opened, Stepped, Swallowed, Says, IsHonest, Follows}
use Rattle.law_machine.proofs.Run.Honest.{honest_reached}
use Rattle.law_reference.specs.Reference.Logs.{questions}
use Rattle.law_reference.proofs.Reference.LegMoves.{opened_before, stepped_before}
use Rattle.law_reference.proofs.Reference.LegRuns.{Before, stands_of}
use Rattle.law_reference.proofs.Reference.Moves.{Moved, Still, Severs, Drops, Steps, Arrives, opened_hold, stepped_hold}
use Rattle.law_frame.proofs.Frame.LinksStay.{AllLinked, opened_linked, stepped_linked}
use Rattle.law_frame.proofs.Frame.WireLaws.{questions_hosted}
use Rattle.law_frame.proofs.Heard.Questions.{questions_logged}
use Rattle.law_frame.proofs.Local.Starts.{vats_count}
use Rattle.law_frame.proofs.Local.Steps.{put_length}
use Rattle.law_frame.specs.Steady.Statements.{HostsAsked, EachHostsAsked}
use Rattle.law_frame.proofs.Steady.Hearing.{unlike}

-- ---- a run without hostile vats is one in which none of these is

abbrev pub None : ℕ → Type 0
None v = is_in v [] ≡ true

abbrev pub AnyDeed : World → ℕ → Vat Name → Deed → Type 0
AnyDeed w v s d = Unit {0}

abbrev pub AnyWord : World → ℕ → ℕ → Vat Name → Note Name → Type 0
AnyWord w v u s n = Unit {0}

module _ (script : Script) where
  not_in : (v : ℕ) → None v → ⊥
  unfolding is_in
  not_in v h = cc

  honest_entry : (w : World) (entry : Entry) → IsHonest script None AnyNotice AnyDeed AnyWord w entry
  honest_entry w (machine.Turn v) = not_in v
  honest_entry w (machine.Carry a v) = not_in v
  honest_entry w (machine.CutLink a b) = tt
  honest_entry w (machine.NoticeLink v to) = (not_in v, tt)

  honest_move : (w y : World) → Move script Nobody AnyNotice (λ w v s d. ⊥) (λ w v u s n. ⊥) w y → Move script None AnyNotice AnyDeed AnyWord w y
  honest_move w y (Opened front rest p o i e) = Opened front rest p (not_in (length front)) i e
  honest_move w y (Stepped entry k o e) = Stepped entry k (honest_entry w entry) e
  honest_move w y (Swallowed k a v l n ns s t o i c j q f e) = absurd o
  honest_move w y (Says v u s t r ds n o i p l f e) = absurd o

  follows : (ws : List World) (y : World) → Follows script Nobody AnyNotice (λ w v s d. ⊥) (λ w v u s n. ⊥) ws y → Follows script None AnyNotice AnyDeed AnyWord ws y
  follows [] y h = h
  follows (w ∷ ws) y h = (honest_move w y h.0, follows ws w h.1)

  pub reached : (w : World) → IsReached script w → Reached script None AnyNotice AnyDeed AnyWord w
  reached w r = (r.0, follows r.0 w r.1)

-- ---- as many vats as programs

abbrev pub Counted : Script → World → Type 0
Counted script w = length w.vats ≡ length script.vats

count_on : (script : Script) (w y : World) → Before script w → Before script y → Moved script w y → Counted script w → Counted script y
count_on script w y p q (Still v l d) h = ap length v ∙ h
count_on script w y p q (Severs c e v l d) h = ap length v ∙ h
count_on script w y p q (Drops c v note ns k at notes none vats links drawn) h = ap length vats ∙ h
count_on script w y p q (Steps v s z t what alone d vats links drawn first fresh) h = ap length vats ∙ put_length w.vats v t ∙ h
count_on script w y p q (Arrives c v s t note ns k at cut notes d vats links drawn first fresh) h = ap length vats ∙ put_length w.vats v t ∙ h

counted_first : (script : Script) → Counted script (machine.begins script)
unfolding machine.begins
counted_first script = vats_count script zero script.vats

module _ (script : Script) (once : KnowsOnce script) where
  pub opened_counted : (ps rest : List Program) (w : World) → script.vats ≡ ps ++ rest → machine.open_from script zero ps (machine.begins script) ≡ Goes w → Counted script w
  opened_counted = opened_hold script (Before script) (opened_before script once) (stepped_before script once) (stands_of script) (Counted script) (count_on script) (counted_first script)

  pub stepped_counted : (w x : World) (es : List Entry) (k : ℕ) → machine.open_from script zero script.vats (machine.begins script) ≡ Goes w → machine.steps_from script es k w ≡ Goes x → Counted script x
  stepped_counted = stepped_hold script (Before script) (opened_before script once) (stepped_before script once) (stands_of script) (Counted script) (count_on script) (counted_first script)

  -- ---- what was asked for

  hosts_of : (w : World) → IsReached script w → AllLinked script w → Counted script w → ((v u : ℕ) → AllOf (λ n. host_of n ≡ u) (questions (λ i. i) w.links v u)) → HostsAsked w
  hosts_of w r linked count hosts u v low_u low_v other =
      let l = linked u v (unlike u v (λ e. other (sym e))) (subst (λ n. u < n) count low_u) (subst (λ n. v < n) count low_v) in
      subst (AllOf (λ n. host_of n ≡ v)) (sym (questions_logged script [] w (reached script w r) u v l.0 l.1)) (hosts u v)

pub hosts_asked : EachHostsAsked
hosts_asked script once = (
  λ ps rest w split opened. hosts_of script once w ((honest_reached script).0 ps rest w split opened) (opened_linked script once ps rest w split opened) (opened_counted script once ps rest w split opened) ((questions_hosted script once).0 ps rest w split opened),
  λ w x es k follow opened stepped. hosts_of script once x ((honest_reached script).1 w x es k opened stepped) (stepped_linked script once w x es k opened stepped) (stepped_counted script once w x es k opened stepped) ((questions_hosted script once).1 w x es k opened stepped),
)
