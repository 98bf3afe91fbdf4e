-- A steady vat stays so as a name comes to be known that it is yet to learn, as a gift comes to be at its host, and as a gift counts as opened.
use Rattle.std.proofs.Common.{◌≡◌, ℕ, ◌+◌, ◌*◌, ◌≤◌, false, [], ◌∷◌, ◌++◌, None, refl, sym, ap, ◌∙◌, arith}
use Rattle.def_machine.specs.Values.{Name, Gift, Promise, Naming, naming, host_of}
use Rattle.def_machine.specs.State.{WaitsOn, GiftEntry, Vat, begun, open_gift, with_opened}
use Rattle.def_machine.specs.Refs.{entry_of, standing_of}
use Rattle.def_run.specs.Draws.{draw_word}
use Rattle.def_run.specs.World.{Script, World, names}
use Rattle.law_fate.proofs.Name.Facts.{all_end}
use Rattle.law_fate.specs.Fates.Fate as fate
use Rattle.law_fate.specs.Fates.Lasting.{NamesNoObject}
use Rattle.law_fate.specs.Fates.CarryLaws.{Lightened}
use Rattle.law_fate.proofs.Fates.Light.{come_sound, light_open}
use Rattle.law_fate.proofs.Fates.PlacesLast.{each_end}
use Rattle.law_fate.proofs.Fates.PlacesSteps.{global_names}
use Rattle.law_reference.specs.Reference.Knowing.{one, once}
use Rattle.law_reference.specs.Reference.ListRingless.{IsNamed}
use Rattle.law_reference.specs.Reference.NameTableRuns.{allowed}
use Rattle.law_reference.proofs.Reference.Bounds.{allowed_once}
use Rattle.law_reference.proofs.Reference.Claims.{claims_end}
use Rattle.law_reference.proofs.Reference.Onward.{claims_known}
use Rattle.law_fate.proofs.Name.SameNames.{same_self}
use Rattle.law_order.proofs.Runs.Beginnings.{none_found}
use Rattle.law_order.proofs.Waits.Classes.{owed_at}
use Rattle.law_order.proofs.Waits.Costs as costs
use Rattle.law_order.proofs.Waits.Counts.{comes_stands}
use Rattle.law_order.proofs.Waits.Room.{share}
use Rattle.law_reference.proofs.Gift.Kept.{opened_named}
use Rattle.law_order.proofs.Steady.Ends.{later_come}
use Rattle.law_order.proofs.Steady.Steady.{Steady}

-- it is that name once
one_itself : (n : Name) → one n n ≡ 1
unfolding one once
one_itself n = ap (λ b. once b) (same_self n)

module _ (script : Script) (w : World) (v : ℕ) (c : Name → ℕ) where
  abbrev K : Naming Name Name
  K = names script v

  abbrev word : ℕ → ℕ
  word = draw_word script.key

  -- what is yet to be learnt is not known
  pub to_learn : (o : Name → ℕ) (m : Name) (s : Vat Name) → Steady script w v c o s → 1 ≤ o m → entry_of K s.known m ≡ None
  to_learn o m s h l = none_found script v s.known m (λ a. let k = claims_known v m s.known a in let i = h.single m in let once = allowed_once v m s s.drawn in absurd (omega arith))

  -- ---- a name comes to be known

  module _ (o : Name → ℕ) (m : Name) (s : Vat Name) (h : Steady script w v c (λ x. one m x + o x) s) where
    abbrev Came : Vat Name
    Came = record s { known = s.known ++ begun m (host_of m) ∷ [] }

    owners : (n q : Name) → standing_of K Came.known n ≡ WaitsOn q → host_of n ≡ v
    unfolding names
    owners n q e = h.owners n q (sym (comes_stands word v m (host_of m) n s.known) ∙ e)

    room : (x : Name) → costs.At word v x (owed_at v x) (c x) Came
    room x = costs.less word v x (owed_at v x) (2 * share (owed_at v x) (fate.one m x) + c x) (c x) (omega arith) Came (costs.comes_good word v x (owed_at v x) (c x) s m (host_of m) (h.room x))

    pub come_steady : NamesNoObject m → Steady script w v c o Came
    unfolding names allowed
    come_steady plain = record {
      sound = come_sound v m (naming word v) (global_names word v) s m (host_of m) plain refl h.sound;
      later = later_come script v m (host_of m) s.known h.later;
      owners = owners;
      itself = h.itself;
      draws = h.draws;
      room = room;
      single = λ x. let i = h.single x in let k = claims_end v x s.known m (host_of m) in omega arith;
    }

    pub not_known : entry_of K s.known m ≡ None
    not_known = to_learn (λ x. one m x + o x) m s h (let i = one_itself m in omega arith)

  -- ---- gifts

  module _ (o : Name → ℕ) (s : Vat Name) (h : Steady script w v c o s) (p i : ℕ) where
    abbrev Given : Vat Name
    Given = record s { gifts = s.gifts ++ record { name = Gift v i; provider = p; number = i; opened = false } ∷ [] }

    pub given_steady : Steady script w v c o Given
    unfolding allowed host_of
    given_steady = record {
      sound = record { same = h.sound.same; well = h.sound.well; names = h.sound.names; own = each_end (λ (g : GiftEntry Name). host_of g.name ≡ v) s.gifts (record { name = Gift v i; provider = p; number = i; opened = false }) h.sound.own refl; notes = h.sound.notes };
      later = h.later;
      owners = h.owners;
      itself = h.itself;
      draws = h.draws;
      room = λ x. let r = h.room x in record { number = r.number; fits = r.fits; waiting = r.waiting; gifts = all_end (IsNamed v) s.gifts (record { name = Gift v i; provider = p; number = i; opened = false }) r.gifts refl };
      single = λ x. h.single x;
    }

    abbrev Opened : Vat Name
    Opened = record s { gifts = with_opened p i s.gifts }

    lighter : Lightened v (Promise 0 0) 0 s Opened
    unfolding open_gift
    lighter = (light_open v (Promise 0 0) p i).after s h.sound

    pub opened_steady : Steady script w v c o Opened
    unfolding allowed
    opened_steady = record {
      sound = lighter.sound;
      later = h.later;
      owners = h.owners;
      itself = h.itself;
      draws = h.draws;
      room = λ x. let r = h.room x in record { number = r.number; fits = r.fits; waiting = r.waiting; gifts = opened_named v p i s.gifts r.gifts };
      single = λ x. h.single x;
    }
