-- What the laws of runs say of a step of a vat that no note brought: where it goes on, and where it stops.
use Rattle.std.proofs.Common.{◌≡◌, ℕ, ◌<◌, List, [], Some, sym, ap, ◌∙◌, subst, length}
use Rattle.std.specs.Prelude.{slice_get}
use Rattle.std.proofs.lemmas.Option.{slice_get_within}
use Rattle.def_machine.specs.Values.{Name, Local, host_of, naming}
use Rattle.def_machine.specs.State.{Vat, Stop, Stops}
use Rattle.law_machine.specs.Machine.Steps.{Step, does}
use Rattle.law_machine.specs.Machine.Laws.{SameNames, SameMails}
use Rattle.law_machine.proofs.Machine.StepLaws.{names_stays, mails_stays}
use Rattle.def_run.specs.World.{Event, World}
use Rattle.law_fate.specs.Name.Names.{AllOf, names_in}
use Rattle.law_machine.specs.Renamed.Stands.{IsTable, StandsFor}
use Rattle.law_machine.proofs.Renamed.Stands.{Extends}
use Rattle.law_reference.specs.Reference.Logs.{exports}
use Rattle.law_reference.specs.Reference.Tables.{table_of, EachHasTable}
use Rattle.law_frame.specs.Frame.AlikeArrivals.{table_across}
use Rattle.law_frame.specs.Frame.Exports.{KeepsPositions}
use Rattle.law_frame.proofs.Frame.Own.{known_on}
use Rattle.law_frame.specs.Heard.Exported.{ExportsLogged}
use Rattle.law_frame.proofs.Stopping.Tables.{after_stops}
use Rattle.def_run.specs.Vats.{Member}
use Rattle.def_run.specs.Numbers.{Vats}
use Rattle.law_frame.specs.Local.Mirrors.{Mirrors}
use Rattle.law_frame.specs.Local.Naming.{Tells}
use Rattle.law_frame.specs.Local.Steps.{world_left, OwnStepStands}
use Rattle.law_frame.specs.Local.Writing.{PutsSo}
use Rattle.law_frame.proofs.Local.OwnSteps.{table_goes_on}
use Rattle.law_frame.proofs.Local.Positions.{there_is}
use Rattle.law_frame.proofs.Local.Steps.{put_there, put_length}

-- ---- a step that goes on

-- Vat u went from state s, in world x, to state r, in world y.
pub record WentOn (x y : World) (u : ℕ) (s r : Vat Name) : Type 0 where
  pub tables : EachHasTable y
  pub puts : PutsSo u r
  pub tells : Tells u s r [] []
  pub keeps : (v : ℕ) → KeepsPositions x y v
  pub hosts : (h v : ℕ) → AllOf (λ n. host_of n ≡ h) (exports (λ i. i) y.links h v)
  pub logged : ExportsLogged y

module _ (x : World) (X : Vats) (u : ℕ) (s : Vat Name) (m : Member) (r : Vat Name) (head : List Event) (h : Mirrors x X) (at : slice_get x.vats u ≡ Some s) (there : slice_get X.members u ≡ Some m) where
  abbrev y : World
  y = world_left x u r head x.connections

  pub at_end : slice_get y.vats u ≡ Some r
  at_end = put_there x.vats u r (slice_get_within x.vats u s at)

  module _ (so : WentOn x y u s r) where
    has_state : (v : ℕ) → v < length X.members → (t : Vat Name) × (slice_get y.vats v ≡ Some t)
    has_state v i = there_is y.vats v (subst (λ k. v < k) (h.count ∙ sym (put_length x.vats u r)) i)

    -- what is asked of it, whatever stands for it in numbers
    pub step_facts : Extends (table_of x u s) (table_of y u r) × IsTable u (table_of y u r) × ((p : Vat Local) → StandsFor u (table_of y u r) p r → OwnStepStands x X u s m r p head)
    step_facts = (
      table_goes_on x u s r head so.tells so.keeps,
      so.tables u r at_end,
      λ p e. record {
        at = at;
        there = there;
        tables = so.tables;
        stands = e;
        puts = so.puts;
        tells = so.tells;
        keeps = so.keeps;
        hosts = so.hosts;
        logged = λ a b other i j. let t = has_state a i in let z = has_state b j in so.logged a b t.0 z.0 t.1 z.1 other;
      },
    )

-- ---- a step that stops

-- the table goes on from that before
pub stops_on : (word : ℕ → ℕ) (x : World) (u : ℕ) (s t r : Vat Name) (what : Step Name Name) (c : Stop) → does (naming word u) what t ≡ Stops c r → t.known ≡ s.known → t.mails ≡ s.mails → Extends (table_of x u s) (table_across x u r)
unfolding table_of table_across
stops_on word x u s t r what c e known mails = record {
  names = λ k n i. known_on t r (after_stops SameNames t r c (does (naming word u) what t) e (names_stays (naming word u) what t)) k n (ap (λ ks. slice_get (names_in ks) k) known ∙ i);
  mails = λ k n i. after_stops SameMails t r c (does (naming word u) what t) e (mails_stays (naming word u) what t) k n (ap (λ ns. slice_get ns k) mails ∙ i);
  exports = λ a p j i. i;
}
