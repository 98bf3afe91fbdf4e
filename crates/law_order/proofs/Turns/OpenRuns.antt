-- As the opening turn of a vat begins in a run, where all are honest, the vat is steady with its root in hand.
use Rattle.std.proofs.Common.{◌≡◌, ℕ, zero, suc, ◌+◌, ◌*◌, ◌≤◌, Bool, true, false, List, [], ◌∷◌, ◌++◌, Some, length, map, refl, sym, ap, subst, ◌∙◌, inl, inr, arith}
use Rattle.std.specs.Prelude.{slice_get}
use Rattle.def_machine.specs.Values.{Name, Root, naming}
use Rattle.def_machine.specs.State.{Standing, Unsettled, Known, Vat, begun, is_in}
use Rattle.def_machine.specs.Refs.{entry_of, standing_of, standing_in}
use Rattle.def_run.specs.Draws.{draw_word}
use Rattle.def_run.specs.World as world
use Rattle.def_run.specs.World.{Script, Program, World, Goes, names, readied}
use Rattle.law_fate.specs.Fates.Fate.{one, total}
use Rattle.law_fate.specs.Name.Names.{AllOf}
use Rattle.law_fate.specs.Name.Runs.{KnowsOnce}
use Rattle.law_reference.proofs.OwnWaits.Runs.{waits_in_runs}
use Rattle.law_reference.specs.Reference.Knowing.{claims}
use Rattle.law_reference.specs.Reference.NameTableRuns.{allowed}
use Rattle.law_reference.proofs.Reference.Counts.{opened_counted}
use Rattle.law_reference.proofs.Reference.KnownRuns.{begins_bounded, opens_hold}
use Rattle.law_reference.proofs.Reference.ViewsRuns.{views_wait_in_runs}
use Rattle.law_order.proofs.Runs.Beginnings.{vats_are_ready}
use Rattle.law_order.specs.Waits.Answers.{answered_by, asked_at, waits_at, waitings}
use Rattle.law_order.proofs.Waits.Classes.{owed_at, root_room}
use Rattle.law_order.proofs.Waits.Costs as costs
use Rattle.law_order.proofs.Waits.Entries.{opened_fresh}
use Rattle.law_order.proofs.Waits.Room as room
use Rattle.law_order.proofs.Waits.Room.{share, share_most, times, spent}
use Rattle.law_order.proofs.Steady.Ends.{ViewsLater}
use Rattle.law_order.proofs.Steady.Steady.{Steady}

-- ---- a vat at the start has room for its root

asked_none : (x : Name) (us : List ℕ) → total (asked_at x) (map world.known_root us) ≡ 0
unfolding total asked_at world.known_root begun
asked_none x [] = refl
asked_none x (u ∷ us) = let rest = asked_none x us in omega arith

waits_none : (x : Name) (us : List ℕ) → total (waits_at x) (map world.known_root us) ≡ 0
unfolding total waits_at world.known_root begun
waits_none x [] = refl
waits_none x (u ∷ us) = let rest = waits_none x us in omega arith

waits_as : (word : ℕ → ℕ) (v : ℕ) (x : Name) (t : Standing Name) (us : List ℕ) → AllOf (room.WaitsAs word v x t) (map world.known_root us)
unfolding total waits_at world.known_root begun
waits_as word v x t [] = tt
waits_as word v x t (u ∷ us) = (inl refl, waits_as word v x t us)

no_standing : (word : ℕ → ℕ) (v : ℕ) (x : Name) (us : List ℕ) → standing_of (naming word v) (map world.known_root us) x ≡ Unsettled
unfolding standing_of entry_of standing_in world.known_root begun
no_standing word v x [] = refl
no_standing word v x (u ∷ us) = go ((naming word v).same (Root u) x) (no_standing word v x us)
  where
    go : (b : Bool) → standing_in (entry_of (naming word v) (map world.known_root us) x) ≡ Unsettled → standing_in (elim b [ true ↦ Some (world.known_root u) | false ↦ entry_of (naming word v) (map world.known_root us) x ]) ≡ Unsettled
    go true e = refl
    go false e = e

module _ (script : Script) where
  abbrev word : ℕ → ℕ
  word = draw_word script.key

  root_stands : (v : ℕ) (q : Program) (x : Name) → standing_of (naming word v) (world.fresh script v q).known x ≡ Unsettled
  unfolding standing_of entry_of standing_in world.fresh world.known_root begun
  root_stands v q x = go ((naming word v).same (Root v) x) (no_standing word v x q.knows)
    where
      go : (b : Bool) → standing_in (entry_of (naming word v) (map world.known_root q.knows) x) ≡ Unsettled → standing_in (elim b [ true ↦ Some (record (world.known_root v) { told = world.knowers v zero script.vats }) | false ↦ entry_of (naming word v) (map world.known_root q.knows) x ]) ≡ Unsettled
      go true e = refl
      go false e = e

  root_room_at : (v : ℕ) (q : Program) (x : Name) → costs.At word v x (owed_at v x) (2 * one (Root v) x) (world.fresh script v q)
  unfolding world.fresh world.known_root begun times total asked_at waits_at waitings room.burden spent
  root_room_at v q x = let asks = asked_none x q.knows in let waits = waits_none x q.knows in let stands = ap spent (root_stands v q x) in
      let none : room.burden word v x (world.fresh script v q).known ≡ 0 = omega arith in
      let shares : share (owed_at v x) (room.burden word v x (world.fresh script v q).known) ≡ share (owed_at v x) 0 = ap (share (owed_at v x)) none in let most = share_most (owed_at v x) 0 in
      let whole : times x (world.fresh script v q).known ≡ one (Root v) x + total (λ (j : Known Name). one j.name x) (map world.known_root q.knows) = refl in
      let makes : one (Root v) x ≤ share (owed_at v x) (times x (world.fresh script v q).known) = root_room v x (times x (world.fresh script v q).known) (omega arith) in
      record {
        number = refl;
        fits = omega arith;
        waiting = inr (inl refl, waits_as word v x (standing_of (naming word v) (world.fresh script v q).known x) q.knows);
        gifts = tt;
      }

  some_vat : (s t : Vat Name) → Some s ≡ Some t → s ≡ t
  some_vat s t e = cc

  fresh_is : (u : ℕ) (ps : List Program) (i : ℕ) (s : Vat Name) → slice_get (world.fresh_from script u ps) i ≡ Some s → (v : ℕ) × (q : Program) × (world.fresh script v q ≡ s)
  unfolding world.fresh_from
  fresh_is u [] i s e = cc
  fresh_is u (q ∷ ps) zero s e = (u, q, some_vat (world.fresh script u q) s e)
  fresh_is u (q ∷ ps) (suc i) s e = fresh_is (suc u) ps i s e

  -- ---- an opening turn of a run

  module _ (once : KnowsOnce script) (ps rest : List Program) (w : World) (split : script.vats ≡ ps ++ rest) (opened : world.open_from script zero ps (world.begins script) ≡ Goes w) (v : ℕ) (later : length ps ≤ v) (s : Vat Name) (there : slice_get w.vats v ≡ Some s) where
    is_fresh : (u : ℕ) × (q : Program) × (world.fresh script u q ≡ s)
    is_fresh = fresh_is zero script.vats v s (opened_fresh script ps rest w split opened v s later there)

    number : s.number ≡ v
    number = ((opened_counted script ps w opened).sound.vats v s there).same

    same_number : is_fresh.0 ≡ v
    unfolding world.fresh
    same_number = ap (λ (z : Vat Name). z.number) is_fresh.2 ∙ number

    fresh_here : world.fresh script v is_fresh.1 ≡ s
    fresh_here = ap (λ u. world.fresh script u is_fresh.1) (sym same_number) ∙ is_fresh.2

    abbrev Hand : Name → ℕ
    Hand n = 2 * answered_by n (Some (Root v))

    room_here : (n : Name) → costs.At word v n (owed_at v n) (Hand n) (readied w s)
    unfolding readied answered_by
    room_here n = subst (λ (z : Vat Name). costs.At word v n (owed_at v n) (2 * one (Root v) n) z) fresh_here (root_room_at v is_fresh.1 n)

    views_later : ViewsLater (names script v) s.known
    views_later n g e = let a = (views_wait_in_runs script once).0 ps rest w split opened v s there n g e in (a.entry, a.found, a.later)

    claims_of : (n : Name) → claims v n s.known ≤ allowed v n s w.drawn
    claims_of n = (opens_hold script zero ps (world.begins script) w (begins_bounded script once) opened v s there).1 n

    no_notice : is_in v s.noticed ≡ false
    unfolding world.fresh is_in
    no_notice = subst (λ (z : Vat Name). is_in v z.noticed ≡ false) fresh_here refl

    pub steady : Steady script w v Hand (λ n. 0) (readied w s)
    unfolding readied allowed
    steady = let sound = (opened_counted script ps w opened).sound.vats v s there in record {
      sound = record { same = sound.same; well = sound.well; names = sound.names; own = sound.own; notes = tt };
      later = views_later;
      owners = (waits_in_runs script once).0 ps rest w split opened v s there;
      itself = no_notice;
      draws = ((vats_are_ready script once).0 ps rest w split opened (λ h. true) v s s.queue there).draws;
      room = room_here;
      single = λ n. let c = claims_of n in omega arith;
    }
