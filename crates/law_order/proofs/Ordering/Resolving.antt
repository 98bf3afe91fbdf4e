-- What is ahead stays ahead as a name is resolved.
use Rattle.std.proofs.Common.{◌≡◌, ℕ, suc, Bool, true, false, Some, length, subst}
use Rattle.std.specs.Prelude.{slice_get, codes, if◌then◌else◌}
use Rattle.def_machine.specs.Values.{Value, Broken, Name, Naming}
use Rattle.def_machine.specs.State.{Vat, Wait, WaitOn, Waits}
use Rattle.def_machine.specs.State as state
use Rattle.def_machine.specs.Refs as refs
use Rattle.def_machine.specs.Refs.{Mine, Away}
use Rattle.def_run.specs.World.{Script, World, names}
use Rattle.law_order.specs.Ordering.Worlds.{IfGives}
use Rattle.law_order.specs.Ordering.Settlings.{with_line}
use Rattle.law_order.specs.Ordering.Steps.{Course, over, grew, settled, resolved, SettlingsKeep, StaysInOrder}
use Rattle.law_order.proofs.Ordering.OrderSendKeeping.{courses_keep}
use Rattle.law_order.specs.Ordering.Resolve.{WaitOnKeeps, SettlesPlain, CycleWell, PlaceWell, ResolvesWell, ResolvingKeeps, SettlesIn, SettledCoursesKeep}
use Rattle.law_order.proofs.Ordering.Waiting.{waits_grown, waits_ready}
use Rattle.law_order.proofs.Ordering.Remaining.{kept_grown}
use Rattle.law_order.proofs.Ordering.Whole.{settlings_keep}

pub wait_on_keeps : WaitOnKeeps
unfolding refs.wait_on state.◌>>◌ state.and_then state.tell state.alter
wait_on_keeps = λ script honest w v s p q k e u loose. (λ r. waits_ready script honest w v s p q k e u loose r, kept_grown script honest w v s (with_line (record s { known = state.with_change (names script v) (Wait p) q (state.with_change (names script v) (WaitOn q) p s.known) }) (Waits p q)) (waits_grown script honest w v s p q k e u loose))

-- ---- resolving

module _ (script : Script) (honest : ℕ → Bool) (w : World) (v : ℕ) (r : Vat Name) (at : slice_get w.vats v ≡ Some r) (p : Name) (s : Vat Name) where
  abbrev J : Naming Name Name
  J = names script v

  abbrev Kept : Vat Name → Type 0
  Kept t = StaysInOrder script honest w v s t

  settle_kept : (y : Value Name) → SettlesPlain script honest w v p y s → IfGives Kept (refs.settle J p y s)
  unfolding refs.settle state.◌>>=◌ state.and_then state.look
  settle_kept y h = settlings_keep script honest w v r y at h.0 h.1 (suc (suc (length s.known))) p s h.2

  cycle_kept : (q : Name) (c : Bool) → CycleWell script honest w v p s c → IfGives Kept ((if c then refs.settle J p (Broken (codes "cycle")) else refs.wait_on J p q) s)
  cycle_kept q true h = settle_kept (Broken (codes "cycle")) h
  cycle_kept q false h = wait_on_keeps script honest w v s p q h.0 h.1 h.2 h.3

  wait_kept : (q : Name) → CycleWell script honest w v p s (refs.waits_lead J (length s.known) s.known p q) → IfGives Kept (refs.wait_unless_cycle J p q s)
  unfolding refs.wait_unless_cycle state.◌>>=◌ state.and_then state.look
  wait_kept q h = cycle_kept q (refs.waits_lead J (length s.known) s.known p q) h

  resolve_kept : (y : Value Name) (q : refs.Place Name) → PlaceWell script honest w v p s y q → IfGives Kept (refs.resolve_to J p y q s)
  unfolding refs.resolve_to
  resolve_kept y (Mine q) h = wait_kept q h
  resolve_kept y (Away g q false) h = wait_kept q h
  resolve_kept y other h = settle_kept y h

  resolves : (x : Value Name) → ResolvesWell script honest w v p s x → IfGives Kept (refs.resolve J p x s)
  unfolding refs.resolve state.◌>>=◌ state.and_then state.look
  resolves x h = resolve_kept (refs.follow J s x) (refs.place J s (refs.follow J s x)) h

pub resolving_keeps : ResolvingKeeps
resolving_keeps = λ script honest w v r s p x at h. resolves script honest w v r at p s x h

-- ---- courses

module _ (script : Script) (honest : ℕ → Bool) (w : World) (v : ℕ) (r : Vat Name) (at : slice_get w.vats v ≡ Some r) where
  all_keep : (s t : Vat Name) (c : Course script honest w v s t) → SettlesIn script honest w v c → SettlingsKeep script honest w v c
  all_keep s t over h = tt
  all_keep s t (grew {t = q} f c) h = all_keep q t c h
  all_keep s t (settled {t = q} p y e c) h = (subst (λ d. IfGives (λ z. StaysInOrder script honest w v s z) d) h.0 (settle_kept script honest w v r at p s y h.1), all_keep q t c h.2)
  all_keep s t (resolved {t = q} p x e c) h = (subst (λ d. IfGives (λ z. StaysInOrder script honest w v s z) d) h.0 (resolves script honest w v r at p s x h.1), all_keep q t c h.2)

pub settled_courses_keep : SettledCoursesKeep
settled_courses_keep = λ script honest w v r s t c at h ready. courses_keep script honest w v s t c (all_keep script honest w v r at s t c h) ready
