-- Turns put gifts under new words alone, each once, and tell of the vat as their provider; and so does what arrives, but that a view has the old host as its provider.
use Rattle.std.proofs.Common.{◌≡◌, ℕ, Bool, true, false, List, refl, ◌∙◌}
use Rattle.def_machine.specs.Values.{Name, Naming, naming, word_of}
use Rattle.def_machine.specs.State.{Binding, Message, Note, Deliver, Open, Ask, SettledTo, Elsewhere, Shorten, Vat, Took, is_in}
use Rattle.def_machine.specs.Eval as eval
use Rattle.def_machine.specs.Arrive as arrive
use Rattle.def_run.specs.World as world
use Rattle.def_kernel.specs.declared.node.Node.{Node}
use Rattle.law_machine.specs.Machine.Steps.{After}
use Rattle.law_machine.proofs.Machine.Keeps.{Keeps}
use Rattle.law_fate.specs.Name.Names.{IsAmong}
use Rattle.law_fate.proofs.Fates.Spares.{keeps_activation, keeps_bind, keeps_then}
use Rattle.law_fate.proofs.Fates.Leads.{IsLed, IsLedUnder, all_by, led_by_all, led_under_by_all}
use Rattle.law_fate.proofs.Fates.TurnLeads.{good_evaluator, leads_turn_value, leads_closes, leads_opening}
use Rattle.law_reference.specs.Reference.GiftPassing.{IsProvidedBy, Provides}
use Rattle.law_reference.proofs.Reference.Puts.{AllStay, Fair, spared, fair_tell, provides_up, in_among, among_in}
use Rattle.law_reference.proofs.Reference.RefsPuts.{spared_under}
use Rattle.law_reference.proofs.Reference.ArrivePuts.{fair_arrive, news_of_gone, news_of_view, told_host}

-- as P tells of the words d, and q of all others
unfoldable pub later : (ℕ → ℕ) → List ℕ → ℕ → ℕ → ℕ
later P d q x = elim (is_in x d) [ true ↦ P x | false ↦ q ]

old_or : (P : ℕ → ℕ) (q x : ℕ) (b : Bool) → b ≡ true → elim b [ true ↦ P x | false ↦ q ] ≡ P x
old_or P q x true e = refl
old_or P q x false e = cc

new_or : (P : ℕ → ℕ) (q x : ℕ) (b : Bool) → (b ≡ true → ⊥) → elim b [ true ↦ P x | false ↦ q ] ≡ q
new_or P q x true f = absurd (f refl)
new_or P q x false f = refl

later_old : (P : ℕ → ℕ) (d : List ℕ) (q x : ℕ) → IsAmong x d → later P d q x ≡ P x
unfolding later
later_old P d q x a = old_or P q x (is_in x d) (among_in x d a)

pub later_new : (P : ℕ → ℕ) (d : List ℕ) (q x : ℕ) → (IsAmong x d → ⊥) → later P d q x ≡ q
unfolding later
later_new P d q x f = new_or P q x (is_in x d) (λ e. f (in_among x d e))

pub later_up : (P : ℕ → ℕ) (d : List ℕ) (q : ℕ) (e : List ℕ) → AllStay d e → (i p : ℕ) → IsProvidedBy P d i p → IsProvidedBy (later P d q) e i p
later_up P d q e l i p h = (l (word_of i) h.0, later_old P d q (word_of i) h.0 ∙ h.1, h.2)

module _ (v : ℕ) (d0 : List ℕ) (F : ℕ → ℕ) (fresh : (x : ℕ) → (IsAmong x d0 → ⊥) → F x ≡ v) (word : ℕ → ℕ) where
  abbrev K : Naming Name Name
  K = naming word v

  abbrev R : Vat Name → Vat Name → Type 0
  R = Fair v d0 F

  base : IsLed R R
  base = led_by_all R (spared v d0 F)

  law : IsLedUnder K R R
  law = led_under_by_all K R (spared_under v d0 F fresh word)

  pub fair_taking : (tree : List Node) (depth : ℕ) (m : Message Name) → Keeps R (eval.taking K tree depth m)
  unfolding eval.taking
  fair_taking tree depth m = keeps_bind R (spared v d0 F) (keeps_activation R (spared v d0 F)) (λ a. keeps_then R (spared v d0 F) (fair_tell v d0 F (Took a m))
      (all_by R _ (leads_closes K R R base law tree a m.answer _ (leads_turn_value K R R base law tree (eval.evaluator K tree depth) (good_evaluator K R R base law tree depth) a m.target m.verb m.args))))

  pub fair_opening : (tree : List Node) (depth : ℕ) (root : Name) (given : List (Binding Name)) → Keeps R (eval.opening K tree depth root given)
  fair_opening tree depth root given = all_by R _ (leads_opening K R R base law tree depth root given)

-- ---- what arrives

module _ (P : ℕ → ℕ) (d : List ℕ) (from to : ℕ) (word : ℕ → ℕ) (ks : List Name) (s : Vat Name) where
  -- what arrives ends well where all later words are of provider q
  abbrev Arrives : ℕ → Note Name → Type 0
  Arrives q n = After (Fair to d (later P d q)) s (arrive.arrive (naming word to) from (world.read_note ks n) s)

  abbrev Ends : Note Name → Type 0
  Ends n = (q : ℕ) × Arrives q n

  told : (q : ℕ) (n : Note Name) → Provides P d from to n → Provides (later P d q) d from to n
  told q n h = provides_up P (later P d q) d d (later_up P d q d (λ x a. a)) from to n h

  news : (n : Name) (c : ℕ) (b : Bool) → is_in c s.noticed ≡ b → Ends (Elsewhere n c)
  news n c true e = (to, news_of_gone to d (later P d to) (λ i h. later_new P d to i h) word from ks n c s e)
  news n c false e = (told_host to word (world.read_name ks n) s, news_of_view to d (later P d (told_host to word (world.read_name ks n) s)) word from ks n c s (λ i h. later_new P d (told_host to word (world.read_name ks n) s) i h) e)

  pub arrival_ends : (n : Note Name) → Provides P d from to n → Ends n
  arrival_ends (Elsewhere n c) h = news n c (is_in c s.noticed) refl
  arrival_ends (Deliver m n verb ys) h = (to, (fair_arrive to d (later P d to) (λ i l. later_new P d to i l) word from ks (Deliver m n verb ys) tt (told to (Deliver m n verb ys) h)).after s)
  arrival_ends (Open i n) h = (to, (fair_arrive to d (later P d to) (λ i l. later_new P d to i l) word from ks (Open i n) tt (told to (Open i n) h)).after s)
  arrival_ends (Ask p i n) h = (to, (fair_arrive to d (later P d to) (λ i l. later_new P d to i l) word from ks (Ask p i n) tt (told to (Ask p i n) h)).after s)
  arrival_ends (SettledTo n y) h = (to, (fair_arrive to d (later P d to) (λ i l. later_new P d to i l) word from ks (SettledTo n y) tt (told to (SettledTo n y) h)).after s)
  arrival_ends (Shorten n c i) h = (to, (fair_arrive to d (later P d to) (λ i l. later_new P d to i l) word from ks (Shorten n c i) tt (told to (Shorten n c i) h)).after s)
