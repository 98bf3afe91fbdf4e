-- The lines of every step of every run are connected.
use Rattle.std.proofs.Common.{◌≡◌, ℕ, zero, List, refl}
use Rattle.def_machine.specs.Values.{Own}
use Rattle.def_run.specs.World.{Script, Program, Entry, World, Goes, readied, names, begins, open_from, steps_from}
use Rattle.law_uses.specs.Connectivity.Runs.{NothingLive}
use Rattle.law_uses.proofs.Connectivity.RunDies.{opened_still, run_still}
use Rattle.law_uses.specs.Connectivity.UseLaws.{NextConnected}
use Rattle.law_uses.proofs.Connectivity.FineSteps.{named_spots, steps_connect}

module _ (script : Script) where
  pub own_spots : (v i : ℕ) → (names script v).spot ((names script v).object i) ≡ Own i
  unfolding names
  own_spots v i = named_spots _ v i

  still_next : (w : World) → NothingLive w → NextConnected script w
  unfolding readied
  still_next w h v s e ms step = steps_connect (names script v) (own_spots v) step (readied w (record s { queue = ms })) refl (λ i. h v s e i)

  pub opened_connect : (ps : List Program) (w : World) → open_from script zero ps (begins script) ≡ Goes w → NextConnected script w
  opened_connect ps w e = still_next w (opened_still script ps w e)

  pub run_connect : (w x : World) (es : List Entry) (k : ℕ) → open_from script zero script.vats (begins script) ≡ Goes w → steps_from script es k w ≡ Goes x → NextConnected script x
  run_connect w x es k e i = still_next x (run_still script w x es k e i)
