-- In every run an opening turn is made of small steps, where what it does with references is so.
use Rattle.std.proofs.Common.{◌≡◌, ℕ, zero, suc, ◌*◌, ◌≤◌, Bool, true, List, [], ◌∷◌, ◌++◌, Some, length, refl, subst}
use Rattle.std.specs.Prelude.{slice_get}
use Rattle.def_kernel.specs.declared.node.Node.{Node}
use Rattle.def_machine.specs.Values.{Name, Promise, Root}
use Rattle.def_machine.specs.State.{Resolver, Scope, Vat, Gives, ◌>>=◌, and_then, new_activation}
use Rattle.def_machine.specs.Eval as eval
use Rattle.def_run.specs.World as world
use Rattle.def_run.specs.World.{Script, Program, Event, Opens, World, Goes, names, readied}
use Rattle.law_fate.specs.Name.Names.{Bit, Named, AllOf, IsAmong, NounOk, names_in}
use Rattle.law_fate.specs.Name.Runs.{KnowsOnce}
use Rattle.law_fate.proofs.Name.Facts.{Nothing, AreNouns, nouns_up}
use Rattle.law_fate.proofs.Name.Care.{Sound, fine_activation, rise}
use Rattle.law_fate.proofs.Name.Run.{Had, Stands, low_at, inside_root, knows_low, given_ok, opened_stands, sound_ready, had_ready}
use Rattle.law_order.specs.History.Tells.{Tale, over}
use Rattle.law_order.specs.Waits.Answers.{answered_by}
use Rattle.law_order.proofs.Steady.Steady.{Steady}
use Rattle.law_order.specs.Tales.Middle.{middle}
use Rattle.law_order.proofs.Tales.Begun.{tale_both}
use Rattle.law_order.proofs.Turns.Own as own
use Rattle.law_order.proofs.Turns.OpenRuns as runs
use Rattle.law_order.proofs.TurnTales.Acts.{quiet_goes}
use Rattle.law_order.proofs.TurnTales.Course as course
use Rattle.law_order.proofs.TurnTales.Course.{Given}
use Rattle.law_order.proofs.TurnTales.Turning as turning
use Rattle.law_order.proofs.TurnTales.Turning.{T}

module _ (script : Script) (w : World) (v : ℕ) (s : Vat Name) (there : slice_get w.vats v ≡ Some s) (h : Stands script w) where
  abbrev Start : Vat Name
  Start = readied w s

  sure : Sound (T script w v s there h) Start
  sure = let k = h.vats v s there in sound_ready script v w s s there refl refl h k.parts k.kept

  up : (b : Bit Name) → Had script w v s b → (T script w v s there h).ok Start b
  up = let k = h.vats v s there in had_ready script v w s s there refl refl h k.parts k.kept

  abbrev pub Begun : Vat Name
  Begun = record Start { activations = suc s.activations }

  begun : ((T script w v s there h).rel Start Begun) × Sound (T script w v s there h) Begun
  unfolding new_activation readied
  begun = let k = (fine_activation (T script w v s there h) {C = Nothing}).after Start sure tt in (k.0, k.1)

  pub begun_sure : Sound (T script w v s there h) Begun
  begun_sure = begun.1

  module _ (p : Program) (t : slice_get script.vats v ≡ Some p) where
    roots : AllOf (λ (u : ℕ). IsAmong (Root u) (names_in s.known)) (v ∷ p.knows)
    roots = let k = h.vats v s there in k.roots p t

    pub root_ok : (T script w v s there h).ok Begun (Named (Root v))
    root_ok = (T script w v s there h).up Start Begun begun.0 (Named (Root v)) (up (Named (Root v)) (tt, roots.0, tt, inside_root script v (low_at script w h v s there)))

    pub given_in : AllOf (NounOk ((T script w v s there h).ok Begun)) (world.given script.vats p.knows)
    given_in = rise (T script w v s there h) Start Begun begun.0 (AreNouns (world.given script.vats p.knows))
        (nouns_up (Had script w v s) ((T script w v s there h).ok Start) up (world.given script.vats p.knows) (given_ok script w v s p.knows roots.1 (knows_low script p.knows (λ f. f v p t))))

abbrev pub open_head_of : ℕ → List Event
open_head_of v = Opens v ∷ []

module _ (script : Script) (once : KnowsOnce script) (honest : ℕ → Bool) (all : (u : ℕ) → honest u ≡ true) (ps rest : List Program) (w : World) (split : script.vats ≡ ps ++ rest) (opened : world.open_from script zero ps (world.begins script) ≡ Goes w)
    (v : ℕ) (later : length ps ≤ v) (s : Vat Name) (there : slice_get w.vats v ≡ Some s) (p : Program) (at : slice_get script.vats v ≡ Some p) where
  pub stands : Stands script w
  stands = opened_stands script once ps rest w split opened

  abbrev Start' : Vat Name
  Start' = Begun script w v s there stands

  -- what more is kept, from where the opening begins, by which the acts are small steps
  pub record Kept (t : Vat Name) : Type 1 where
    pub more : Vat Name → Type 0
    pub given : Given script honest all w v s there stands (open_head_of v) t more
    pub begins : more (record (readied w s) { activations = suc s.activations })

  module _ (t : Vat Name) (keeps : Kept t) (resolvers : (i : ℕ) (q : Name) → slice_get t.things i ≡ Some (Resolver q) → (j : ℕ) × (q ≡ Promise v j)) where
    abbrev Leads : Type 0
    Leads = Tale script honest (middle w v (open_head_of v) Start') (middle w v (open_head_of v) t)

    abbrev Hand : Name → ℕ
    Hand a = 2 * answered_by a (Some (Root v))

    steady : Steady script w v Hand (λ a. 0) Start'
    unfolding readied
    steady = own.aside_steady script w v Hand (λ a. 0) (readied w s) w.fuel [] (suc s.activations) s.things s.slots s.lists (runs.steady script once ps rest w split opened v later s there)

    fit : course.Fit script honest all w v s there stands (open_head_of v) t keeps.more Hand (λ a. 0) Start' Start'
    fit = record { steady = steady; more = keeps.begins; goes = over }

    root_of : (a b : Name) → Some a ≡ Some b → a ≡ b
    root_of a b e = cc

    named : (a : Name) → Some (Root v) ≡ Some a → (T script w v s there stands).ok Start' (Named a)
    named a e = subst (λ z. (T script w v s there stands).ok Start' (Named z)) (root_of (Root v) a e) (root_ok script w v s there stands p at)

    inner : (tree : List Node) (depth : ℕ) → eval.opening (names script v) tree depth (Root v) (world.given script.vats p.knows) (readied w s) ≡ Gives tt t → Leads
    unfolding eval.opening new_activation ◌>>=◌ and_then readied names
    inner tree depth e = let keep = keeps.given in let scope : Scope Name = record { act = s.activations; nouns = world.given script.vats p.knows } in
        turning.opening_ends script w v s there stands t (course.Fit script honest all w v s there stands (open_head_of v) t keeps.more Hand (λ a. 0) Start')
        (course.acts script honest all w v s there stands (open_head_of v) t keeps.more keep resolvers Start' Hand (λ a. 0)) (Some (Root v)) Leads (course.ending script honest all w v s there stands (open_head_of v) t keeps.more keep resolvers Start' (Some (Root v)))
        tree depth s.activations Start' (begun_sure script w v s there stands) fit named scope (given_in script w v s there stands p at) e

    begins : Tale script honest (middle w v (open_head_of v) (readied w s)) (middle w v (open_head_of v) Start')
    unfolding readied
    begins = quiet_goes script honest w v (open_head_of v) (readied w s) Start' (record { known = refl; number = refl; gifts = refl; noticed = refl; queue = refl; outbox = refl; lines = []; happened = refl; quiet = tt })

    pub opening_goes : (tree : List Node) (depth : ℕ) → eval.opening (names script v) tree depth (Root v) (world.given script.vats p.knows) (readied w s) ≡ Gives tt t → Tale script honest (middle w v (open_head_of v) (readied w s)) (middle w v (open_head_of v) t)
    opening_goes tree depth e = tale_both script honest (middle w v (open_head_of v) (readied w s)) (middle w v (open_head_of v) Start') (middle w v (open_head_of v) t) begins (inner tree depth e)
