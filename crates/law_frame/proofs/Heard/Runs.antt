-- In every world of a run what vats have in numbers for each other goes with what the notes between them tell.
use Rattle.std.proofs.Common.{◌≡◌, ℕ, zero, ◌+◌, List, [], ◌∷◌, ◌++◌, refl, sym, subst, length}
use Rattle.def_run.specs.World as world
use Rattle.def_run.specs.World.{Script, Program, Entry, Link, World, Goes as Going}
use Rattle.law_fate.specs.Name.Names.{AllOf, IsAmong}
use Rattle.law_fate.specs.Name.Runs.{KnowsOnce}
use Rattle.law_fate.proofs.Name.Among.{all_among}
use Rattle.law_fate.proofs.Name.Run.{begins_stands}
use Rattle.law_reference.specs.Reference.Logs as wire
use Rattle.law_reference.specs.Reference.Cuts.{NoticesFollowCuts}
use Rattle.law_reference.proofs.Reference.NotesRuns.{notes_name_ends, notes_carry_ends}
use Rattle.law_reference.proofs.Reference.SingleRuns as answers
use Rattle.law_reference.proofs.Reference.RunLift.{opens_keep}
use Rattle.law_reference.proofs.Reference.NoticedRuns.{AllSure, noticed_sure, Never, begins_noticed}
use Rattle.law_reference.proofs.Reference.AskRuns.{NoticedCut}
use Rattle.law_reference.proofs.Reference.AskHolds.{cuts_noticed}
use Rattle.law_reference.proofs.Reference.ApartWhole.{bring_new}
use Rattle.law_reference.proofs.Reference.Moves.{Moved}
use Rattle.law_frame.specs.Frame.Asked.{HoldsNoList}
use Rattle.law_frame.specs.Frame.Tables.{arrived}
use Rattle.law_frame.proofs.Frame.WireLaws.{asked_for_known, notes_listless}
use Rattle.law_frame.proofs.Frame.LinksKnown.{at_link}
use Rattle.law_frame.proofs.Frame.OrderRuns.{opens_ordered, begins_ordered, stepped_ordered}
use Rattle.law_frame.proofs.Frame.Untold.{opened_knows, stepped_knows}
use Rattle.law_frame.proofs.Frame.Untouched.{nothing_told}
use Rattle.law_frame.proofs.Frame.Answered.{opening_move, entry_move}
use Rattle.law_frame.proofs.Frame.Worlds as next
use Rattle.law_frame.proofs.Heard.Pairs.{opened_paired, stepped_paired}
use Rattle.law_frame.proofs.Heard.Pending.{Facts, AloneWhereLate, late_on, begins_late}
use Rattle.law_frame.proofs.Heard.Here.{VatsHere, here_moved, begins_here}
use Rattle.law_frame.proofs.Heard.Steps.{AllKept, Worldly, NextFits, Onward, opening_kept, entry_kept}
use Rattle.law_frame.proofs.Heard.Start.{begins_kept}
use Rattle.law_frame.proofs.Heard.Lift.{opened_holds, stepped_holds}

module _ (script : Script) (once : KnowsOnce script) where
  -- ---- what is known of worlds and steps

  opened_facts : (ps rest : List Program) (w : World) → script.vats ≡ ps ++ rest → world.open_from script zero ps (world.begins script) ≡ Going w → Facts script w
  unfolding world.open_from
  opened_facts ps rest w split e = record {
    knows = opened_knows script once ps rest w split e;
    ordered = opens_ordered script once [] ps rest (world.begins script) w split refl (begins_ordered script) e;
    fits = (notes_name_ends script once).0 ps rest w split e;
    carries = (notes_carry_ends script once).0 ps rest w split e;
    alone = (opened_paired script once ps rest w split e).1;
    asked = λ u s there v. (asked_for_known script once).0 ps rest w split e u s there v;
  }

  stepped_facts : (w x : World) (es : List Entry) (k : ℕ) → NoticesFollowCuts es → world.open_from script zero script.vats (world.begins script) ≡ Going w → world.steps_from script es k w ≡ Going x → Facts script x
  stepped_facts w x es k follow opened stepped = record {
    knows = stepped_knows script once w x es k opened stepped;
    ordered = stepped_ordered script once w x es k (bring_new script once w es k follow opened) opened stepped;
    fits = (notes_name_ends script once).1 w x es k opened stepped;
    carries = (notes_carry_ends script once).1 w x es k opened stepped;
    alone = (stepped_paired script once w x es k opened stepped).1;
    asked = λ u s there v. (asked_for_known script once).1 w x es k opened stepped u s there v;
  }

  -- ---- gifts whose asking is under way, and objects

  opened_late : (ps rest : List Program) (w : World) → script.vats ≡ ps ++ rest → world.open_from script zero ps (world.begins script) ≡ Going w → AloneWhereLate w
  opened_late = opened_holds script (Facts script) (Facts script) (Moved script) opened_facts stepped_facts (opening_move script once) (entry_move script once) AloneWhereLate (λ v p x y f g m o h. late_on script x y f g m h) (λ e k x y f g m i h. late_on script x y f g m h) (begins_late script)

  stepped_late : (w x : World) (es : List Entry) (k : ℕ) → NoticesFollowCuts es → world.open_from script zero script.vats (world.begins script) ≡ Going w → world.steps_from script es k w ≡ Going x → AloneWhereLate x
  stepped_late = stepped_holds script (Facts script) (Facts script) (Moved script) opened_facts stepped_facts (opening_move script once) (entry_move script once) AloneWhereLate (λ v p x y f g m o h. late_on script x y f g m h) (λ e k x y f g m i h. late_on script x y f g m h) (begins_late script)

  abbrev Here : World → Type 0
  Here w = VatsHere w.vats w.links

  opened_here : (ps rest : List Program) (w : World) → script.vats ≡ ps ++ rest → world.open_from script zero ps (world.begins script) ≡ Going w → Here w
  opened_here = opened_holds script (Facts script) (Facts script) (Moved script) opened_facts stepped_facts (opening_move script once) (entry_move script once) Here (λ v p x y f g m o h. here_moved script x y f g m h) (λ e k x y f g m i h. here_moved script x y f g m h) (begins_here script)

  stepped_here : (w x : World) (es : List Entry) (k : ℕ) → NoticesFollowCuts es → world.open_from script zero script.vats (world.begins script) ≡ Going w → world.steps_from script es k w ≡ Going x → Here x
  stepped_here = stepped_holds script (Facts script) (Facts script) (Moved script) opened_facts stepped_facts (opening_move script once) (entry_move script once) Here (λ v p x y f g m o h. here_moved script x y f g m h) (λ e k x y f g m i h. here_moved script x y f g m h) (begins_here script)

  -- ---- worlds

  opened_noticed : (ps rest : List Program) (w : World) → script.vats ≡ ps ++ rest → world.open_from script zero ps (world.begins script) ≡ Going w → NoticedCut w
  unfolding world.open_from
  opened_noticed ps rest w split e v s there u i = absurd (opens_keep script (AllSure script (Never script)) (Never script) (noticed_sure script (Never script)) [] ps rest (world.begins script) w split (begins_stands script once) (begins_noticed script) e v s there u i)

  pub opened_worldly : (ps rest : List Program) (w : World) → script.vats ≡ ps ++ rest → world.open_from script zero ps (world.begins script) ≡ Going w → Worldly script w
  opened_worldly ps rest w split e = record {
    facts = opened_facts ps rest w split e;
    here = opened_here ps rest w split e;
    late = opened_late ps rest w split e;
    noticed = opened_noticed ps rest w split e;
    early = λ a g m r l there i at. let b = answers.opened_both script once ps rest w split e in let legs = b.legs in legs.early m a g r there i l at;
  }

  pub stepped_worldly : (w x : World) (es : List Entry) (k : ℕ) → NoticesFollowCuts es → world.open_from script zero script.vats (world.begins script) ≡ Going w → world.steps_from script es k w ≡ Going x → Worldly script x
  stepped_worldly w x es k follow opened stepped = record {
    facts = stepped_facts w x es k follow opened stepped;
    here = stepped_here w x es k follow opened stepped;
    late = stepped_late w x es k follow opened stepped;
    noticed = cuts_noticed script once w x es k follow opened stepped;
    early = λ a g m r l there i at. let b = answers.stepped_both script once w x es k opened stepped in let legs = b.legs in legs.early m a g r there i l at;
  }

  -- the next note on a link fits
  pub stepped_fits : (w x : World) (es : List Entry) (k : ℕ) → NoticesFollowCuts es → world.open_from script zero script.vats (world.begins script) ≡ Going w → world.steps_from script es k w ≡ Going x → NextFits script x
  stepped_fits w x es k follow opened stepped a b other s there l at uncut n ns head = record {
    ends = λ z i. next.told_ends a b z n (λ e. other (sym e)) (next.proper script once w x es k follow opened stepped a b s there other l at uncut n ns head) (next.between script once w x es k follow opened stepped a b s there other l at uncut n ns head) (next.carries script once w x es k follow opened stepped a b s there other l at uncut n ns head) i;
    asked = λ z i host j. subst (λ o. IsAmong z (wire.questions_in b (arrived o))) at (next.asked_before script once w x es k follow opened stepped a b s there other l at uncut n ns head (next.asked_for script once w x es k follow opened stepped a b s there other l at uncut n ns head (bring_new script once w es k follow opened)) z i j);
    lists = all_among HoldsNoList l.log n (at_link (λ (j : Link). AllOf HoldsNoList j.log) a b l x.links ((notes_listless script once).1 w x es k opened stepped) at).0 (next.logged script once w x es k follow opened stepped a b s there other l at uncut n ns head);
    provided = (next.Providers script once w x es k follow opened stepped a b s there other l at uncut n ns head, x.drawn, next.provides script once w x es k follow opened stepped a b s there other l at uncut n ns head);
  }

  -- ---- connections

  abbrev Past : World → Type 0
  Past w = Worldly script w × NextFits script w

  stepped_past : (w x : World) (es : List Entry) (k : ℕ) → NoticesFollowCuts es → world.open_from script zero script.vats (world.begins script) ≡ Going w → world.steps_from script es k w ≡ Going x → Past x
  stepped_past w x es k follow opened stepped = (stepped_worldly w x es k follow opened stepped, stepped_fits w x es k follow opened stepped)

  pub opening_pair : (ps rest : List Program) (p : Program) (x y : World) → script.vats ≡ ps ++ p ∷ rest → world.open_from script zero ps (world.begins script) ≡ Going x → world.open_vat script (length ps) p x ≡ Going y → Onward script x y
  opening_pair ps rest p x y split opened opens = (opening_move script once ps rest p x y split opened opens, λ u. (nothing_told script once).0 ps rest p x y split opened opens u)

  pub entry_pair : (w x y : World) (es : List Entry) (e : Entry) (k : ℕ) → world.open_from script zero script.vats (world.begins script) ≡ Going w → world.steps_from script es k w ≡ Going x → world.step script e (k + length es) x ≡ Going y → Onward script x y
  entry_pair w x y es e k opened stepped steps = (entry_move script once w x y es e k opened stepped steps, λ u. (nothing_told script once).1 w x y es e k opened stepped steps u)

  pub stepped_kept : (w x : World) (es : List Entry) (k : ℕ) → NoticesFollowCuts es → world.open_from script zero script.vats (world.begins script) ≡ Going w → world.steps_from script es k w ≡ Going x → AllKept x
  stepped_kept = stepped_holds script (Worldly script) Past (Onward script) opened_worldly stepped_past opening_pair entry_pair AllKept (λ v p x y f g m o h. opening_kept script v p x y f g m o h) (λ e k x y f g m i h. entry_kept script e k x y f.0 f.1 g.0 m i h) (begins_kept script)

  pub opened_kept : (ps rest : List Program) (w : World) → script.vats ≡ ps ++ rest → world.open_from script zero ps (world.begins script) ≡ Going w → AllKept w
  opened_kept = opened_holds script (Worldly script) Past (Onward script) opened_worldly stepped_past opening_pair entry_pair AllKept (λ v p x y f g m o h. opening_kept script v p x y f g m o h) (λ e k x y f g m i h. entry_kept script e k x y f.0 f.1 g.0 m i h) (begins_kept script)
