-- Single acts, and one after another.
use Rattle.std.proofs.Common.{ℕ, zero, Bool, true, false, Option, Some, None, Ok, Err}
use Rattle.std.specs.Prelude.{nat_le, slice_get, slice_set}
use Rattle.ev_base.specs.declared.values.Value.{Value}
use Rattle.ev_heap.specs.declared.happened.Happened.{Happened as Event}
use Rattle.ev_intro.specs.Word.{word}
use Rattle.def_machine.specs.State.{drawn_at}
use Rattle.ev_refs.specs.Changes.{unless_settled, with_told}
use Rattle.ev_refs.specs.References.{References}
use Rattle.ev_refs.specs.declared.known.Known.{Known}
use Rattle.ev_refs.specs.declared.known.Standing.{Standing}
use Rattle.ev_refs.specs.declared.known.Standing.TheVariants.{Unsettled, WaitsOn, Viewed, Settled}
use Rattle.ev_pass.specs.Acts.{Out, Act, and_then, give, tell, spent, spend, send_out, told_in, to_tell, words_by, draws, draw}
use Rattle.ev_pass.specs.Notes.{Noted}
use Rattle.ev_pass.specs.declared.interior.Interior.{Interior}
use Rattle.ev_room.specs.Holding.{IfThere, KnownOf}
use Rattle.law_evaluation.specs.Acts.Kinds.{Base, ReferencesIn, InsideOf, EndsOf, Anything}
use Rattle.law_evaluation.proofs.Acts.Following.{every_got}
use Rattle.law_evaluation.proofs.Acts.Lists.{every_set}

module _ (kind : Value → Bool) (base : Base) where
  pub unless_of : (st : Standing) (k new : Known) → KnownOf kind k → KnownOf kind new → KnownOf kind (unless_settled st k new)
  unfolding unless_settled
  unless_of (Settled v) k new a b = a
  unless_of other k new a b = b

  pub with_known : (r : References) (n : ℕ) (k : Known) → ReferencesIn kind base r → KnownOf kind k → ReferencesIn kind base (record r { known = slice_set r.known n k })
  with_known r n k a b = record { known = every_set (KnownOf kind) r.known n k a.known b; queue = a.queue; partition = a.partition; cycle = a.cycle }

  told_of : (w n : ℕ) (o : Option Known) (r : References) → IfThere (KnownOf kind) o → ReferencesIn kind base r → ReferencesIn kind base (told_in w n o r)
  unfolding told_in
  told_of w n None r a b = b
  told_of w n (Some k) r a b = with_known r n (with_told w k) b (unless_of k.standing k _ a a)

  pub then_of : {A B : Type 0} (Q : A → Type 0) (R : B → Type 0) (o : Out A) (f : A → Act B) → EndsOf kind base Q o
      → ((a : A) → Q a → (i : Interior) → InsideOf kind base i → EndsOf kind base R (f a i)) → EndsOf kind base R (and_then o f)
  unfolding and_then
  then_of Q R (Ok a, i) f g next = next a g.0 i g.1
  then_of Q R (Err e, i) f g next = g

  -- with other references
  pub refer : (i : Interior) (r : References) → InsideOf kind base i → ReferencesIn kind base r → InsideOf kind base (record i { refs = r })
  refer i r a b = record { heap = a.heap; refs = b; heavy = a.heavy; key = a.key }

  pub give_of : {A : Type 0} (Q : A → Type 0) (a : A) (i : Interior) → Q a → InsideOf kind base i → EndsOf kind base Q (give a i)
  unfolding give
  give_of Q a i is good = (is, good)

  pub tell_of : (e : Event) (i : Interior) → InsideOf kind base i → EndsOf kind base Anything (tell e i)
  unfolding tell
  tell_of e i good = (tt, record { heap = good.heap; refs = good.refs; heavy = good.heavy; key = good.key })

  spent_of : (n : ℕ) (b : Bool) (i : Interior) → InsideOf kind base i → EndsOf kind base Anything (spent n b i)
  unfolding spent
  spent_of n true i good = (tt, record { heap = good.heap; refs = good.refs; heavy = good.heavy; key = good.key })
  spent_of n false i good = (tt, good)

  pub spend_of : (n : ℕ) (i : Interior) → InsideOf kind base i → EndsOf kind base Anything (spend n i)
  unfolding spend
  spend_of n i good = spent_of n (nat_le n i.micro.fuel) i good

  pub send_out_of : (w : ℕ) (n : Noted) (i : Interior) → InsideOf kind base i → EndsOf kind base Anything (send_out w n i)
  unfolding send_out
  send_out_of w n i good = (tt, record { heap = good.heap; refs = good.refs; heavy = good.heavy; key = good.key })

  pub to_tell_of : (w n : ℕ) (i : Interior) → InsideOf kind base i → EndsOf kind base Anything (to_tell w n i)
  unfolding to_tell
  to_tell_of w n i good = (tt, refer i _ good (told_of w n (slice_get i.refs.known n) i.refs (every_got (KnownOf kind) i.refs.known n good.refs.known) good.refs))

  draws_of : (o : Option ℕ) (i : Interior) → InsideOf kind base i → EndsOf kind base Anything (draws o i)
  unfolding draws
  draws_of None i good = (tt, record { heap = good.heap; refs = good.refs; heavy = good.heavy; key = good.key })
  draws_of (Some j) i good = (tt, good)

  pub draw_of : (i : Interior) → InsideOf kind base i → EndsOf kind base Anything (draw i)
  unfolding draw
  draw_of i good = draws_of (drawn_at zero (word i.words.key i.words.count) (words_by i.words.key i.words.count)) i good
