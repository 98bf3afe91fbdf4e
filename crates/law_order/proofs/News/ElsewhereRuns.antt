-- A note that a name settled elsewhere is carried in a run, whose object's vat the receiver noticed: the name breaks.
use Rattle.std.proofs.Common.{◌≡◌, ℕ, zero, Bool, true, List, [], ◌∷◌, ◌++◌, Some, refl, sym, ap, subst, ◌∙◌, inl}
use Rattle.std.specs.Prelude.{codes, if◌then◌else◌}
use Rattle.def_machine.specs.Values.{Value, Broken, Name, Naming, host_of}
use Rattle.def_machine.specs.State.{Known, Elsewhere, Unsettled, Settles, Put, Vat, is_in}
use Rattle.def_machine.specs.State as state
use Rattle.def_machine.specs.Refs as refs
use Rattle.def_machine.specs.Refs.{entry_of}
use Rattle.def_machine.specs.Arrive as arriving
use Rattle.def_machine.specs.Arrive.{Old}
use Rattle.def_run.specs.World.{Script, Carry, Entry, World, Goes, begins, open_from, steps_from, names}
use Rattle.law_fate.specs.Name.Names.{AllOf}
use Rattle.law_fate.specs.Name.Runs.{KnowsOnce}
use Rattle.law_fate.specs.Fates.WholeFateRuns.{KnowsVats}
use Rattle.law_reference.specs.Reference.Cuts.{NoticesFollowCuts}
use Rattle.law_order.specs.Ordering.Ways.{Nowhere}
use Rattle.law_order.specs.Ordering.Places.{aimed}
use Rattle.law_order.specs.Ordering.Worlds.{FollowsEnd}
use Rattle.law_order.specs.Ordering.Settle.{aimed_at, settled_to}
use Rattle.law_order.specs.Ordering.Settlings.{with_line}
use Rattle.law_order.specs.Arrivals.Tellings.{IsToldOf, IsTidy, IsNoteFor}
use Rattle.law_order.specs.Arrivals.Notes.{KeepsAll}
use Rattle.law_order.proofs.Arrivals.TrueNotes.{ended_names_keep}
use Rattle.law_order.proofs.Runs.Truths.{data_self}
use Rattle.law_order.specs.News.News.{WaitersGo, BearsElsewhere}
use Rattle.law_order.proofs.News.Tidiness.{tidy}
use Rattle.law_order.proofs.News.Teller as teller
use Rattle.law_order.proofs.News.Teller.{elsewhere}
use Rattle.law_order.proofs.News.Learnt.{Learnt}
use Rattle.law_order.proofs.News.Away.{told_settled}
use Rattle.law_order.proofs.News.Resting as resting
use Rattle.law_order.proofs.News.Elsewhere as far

module _ (script : Script) (once : KnowsOnce script) (knows : KnowsVats script) (w x y : World) (es : List Entry) (k a b : ℕ) (n : Name) (follow : NoticesFollowCuts es)
    (o : open_from script zero script.vats (begins script) ≡ Goes w) (e : steps_from script es k w ≡ Goes x) (f : steps_from script (es ++ Carry a b ∷ []) k w ≡ Goes y) (honest : ℕ → Bool) where
  abbrev K : Naming Name Name
  K = names script b

  abbrev Problem : Value Name
  Problem = Broken (codes "partition")

  module _ (c : ℕ) (h : BearsElsewhere script honest x a b n c) where
    abbrev S : Vat Name
    S = (far.learnt script once knows w x y es k a b c n follow o e f honest h).0

    abbrev L : Learnt script x honest b h.borne.vat n S
    L = far.L script once knows w x y es k a b c n follow o e f honest h

    abbrev T : Vat Name
    T = (far.came script once knows w x y es k a b c n follow o e f honest h).0

    -- ---- the receiver noticed that vat, and the name breaks

    module _ (gone : is_in c S.noticed ≡ true) where
      breaks : arriving.arrive K a (Elsewhere (Old n) c) S ≡ refs.settle K n Problem S
      unfolding arriving.arrive arriving.arrive_elsewhere arriving.learn_name state.◌>>=◌ state.and_then state.give state.look
      breaks = ap (λ q. (if q then refs.settle K n Problem else arriving.view_there K n c) S) gone

      pub ends : refs.settle K n Problem S ≡ state.Gives tt T
      ends = sym breaks ∙ sym (far.arrival script once knows w x y es k a b c n follow o e f honest h) ∙ (far.came script once knows w x y es k a b c n follow o e f honest h).2

      away : host_of n ≡ b → ⊥
      away i = far.other script once knows w x y es k a b c n follow o e f honest h (sym (far.hosted script once knows w x y es k a b c n follow o e f honest h) ∙ i)

      empty : (j : Known Name) → entry_of K h.borne.vat.known n ≡ Some j → (j.held ≡ []) × (j.told ≡ [])
      empty j i = teller.empty script once w x es k o e a b n (Elsewhere n c) elsewhere h.borne j i

      module _ (unsettled : L.entry.standing ≡ Unsettled) where
        abbrev Then : Vat Name
        Then = settled_to K (with_line S (Settles n Problem)) n Problem

        ended : FollowsEnd K T
        ended = far.ended script once knows w x y es k a b c n follow o e f honest h

        goes : WaitersGo script honest b h.borne.vat n
        goes = h.waiters (ap (λ ws. is_in c ws) (sym L.noticed) ∙ gone)

        pub told : IsToldOf script b a S Then n Problem
        told = record {
          only = told_settled script b S n Problem L.entry L.found unsettled (resting.bare script once w x es k follow o e honest b h.borne.vat h.borne.there n away S L empty Problem tt tt tt T ends).0;
          own = L.ready.number;
          host = far.hosted script once knows w x y es k a b c n follow o e f honest h;
          other = far.other script once knows w x y es k a b c n follow o e f honest h;
          reached = inl (ap (λ ws. is_in a ws) L.noticed ∙ teller.unnoticed script once w x es k o e a b n (Elsewhere n c) elsewhere h.borne follow);
          plain = far.plain script once knows w x y es k a b c n follow o e f honest h;
          follows = resting.follows script once w x es k follow o e honest b h.borne.vat h.borne.there n away S L empty Problem tt tt tt T ends ended goes unsettled;
          ended = λ d. data_self script b d Then.known Problem tt;
        }

        pub all_tidy : IsTidy script honest x b S
        all_tidy = tidy script once w x es k o e honest b S L.hosts L.ready.ends.objects L.own (subst (λ ps. AllOf (λ (p : Put Name). IsNoteFor p.to p.note) ps) (sym L.empty) tt)

        nowhere : aimed_at script b Then Problem ≡ Nowhere
        unfolding aimed_at aimed refs.severed refs.place
        nowhere = refl

        pub gone_first : KeepsAll script honest x b S Then
        gone_first = ended_names_keep script honest x b a h.borne.vat S Then n Problem h.borne.there all_tidy told nowhere
