-- In each turn of a run, a message that is made in it and goes to a promise of another vat has no answer at its sender.
use Rattle.std.proofs.Common.{◌≡◌, ℕ, ◌≤◌, ◌<◌, List, ◌∷◌, ◌++◌, Some, ◌⊎◌, arith}
use Rattle.std.specs.Prelude.{slice_get}
use Rattle.def_machine.specs.Values.{Name, Root, Answer, Sent, Msg}
use Rattle.def_machine.specs.State.{Message, Vat, Done}
use Rattle.def_machine.specs.Eval.{opening, taking}
use Rattle.def_run.specs.Draws.{draw_word}
use Rattle.def_run.specs.World as world
use Rattle.def_run.specs.World.{Script, Program, World, names, readied}
use Rattle.law_fate.specs.Fates.Carry.{held_at, put_weight, load}
use Rattle.law_fate.proofs.Fates.WorldLight.{VatSound}
use Rattle.law_reference.specs.Reference.Knowing.{claims}
use Rattle.law_fate.proofs.Name.Serves.{closing_some}
use Rattle.law_fate.proofs.Name.Run.{inside, low_at, Stands}
use Rattle.law_reference.proofs.Reference.Gentle.{AfterGives, gives_map}
use Rattle.law_reference.proofs.Reference.CareMore.{KeptQuiet}
use Rattle.law_reference.proofs.Reference.Fresh.{Kept, quiet, serves, closes}
use Rattle.law_reference.proofs.Reference.StepsMore.{turn_keeps, opening_keeps}

-- where the message was made it weighs one at most, or its answer here is not known
abbrev pub OneLeg : ℕ → Msg → Vat Name → Type 0
OneLeg v m t = m.number < t.messages → (load (Sent m) t ≤ 1) ⊎ (claims v (Answer v m) t.known ≤ 0)

-- so of each message that was not made before
abbrev pub FreshOut : ℕ → Vat Name → Vat Name → Type 0
FreshOut v s t = (m : Msg) → m.sender ≡ v → VatSound v s → s.messages ≤ m.number → held_at (Sent m) s.known ≤ 0 → claims v (Answer v m) s.known ≤ 0 → OneLeg v m t

-- where no message is made
pub quiet_fresh : (v : ℕ) (s t : Vat Name) → t.messages ≡ s.messages → FreshOut v s t
quiet_fresh v s t e m mine sound new none free made = absurd (omega arith)

module _ (script : Script) (m : Msg) (v : ℕ) (mine : m.sender ≡ v) where
  module _ (w : World) (s : Vat Name) (there : slice_get w.vats v ≡ Some s) (h : Stands script w) (sound : VatSound v s) (new : s.messages ≤ m.number) (none : held_at (Sent m) s.known ≤ 0) (free : claims v (Answer v m) s.known ≤ 0) where
    abbrev word : ℕ → ℕ
    word = draw_word script.key

    abbrev Keeps : Vat Name → Type 0
    Keeps t = Kept v m mine (inside script) w.vats s there (low_at script w h v s there) word t

    abbrev keeps_quiet : KeptQuiet Keeps
    keeps_quiet = quiet v m mine (inside script) w.vats s there (low_at script w h v s there) word

    starts : (fs ms : List (Message Name)) → s.queue ≡ fs ++ ms → Keeps (readied w (record s { queue = ms }))
    unfolding readied load put_weight
    starts fs ms e = (sound, ((λ i. absurd (omega arith)), (λ i. (omega arith, free))))

    one_leg : (d : Done Name (Unit {0})) → AfterGives Keeps d → AfterGives (OneLeg v m) d
    one_leg d h = gives_map Keeps (OneLeg v m) d (λ t k. let one = k.1 in one.0) h

    pub turn_fresh : (n : Message Name) (ms : List (Message Name)) → s.queue ≡ n ∷ ms → AfterGives (OneLeg v m) (taking (names script v) (world.tree_at script.vats v) script.depth n (readied w (record s { queue = ms })))
    turn_fresh n ms e = one_leg _ (turn_keeps script w v s there h Keeps keeps_quiet starts (serves v m mine (inside script) w.vats s there (low_at script w h v s there) word) n ms e
        (closing_some _ _ (closes v m mine (inside script) w.vats s there (low_at script w h v s there) word) n.answer))

    pub opening_fresh : (p : Program) → slice_get script.vats v ≡ Some p → AfterGives (OneLeg v m) (opening (names script v) p.tree script.depth (Root v) (world.given script.vats p.knows) (readied w s))
    opening_fresh p t = one_leg _ (opening_keeps script w v s there h Keeps keeps_quiet starts (serves v m mine (inside script) w.vats s there (low_at script w h v s there) word) p t
        (closes v m mine (inside script) w.vats s there (low_at script w h v s there) word (Root v)))
