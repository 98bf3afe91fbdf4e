-- In every step what is viewed waits on its view.
use Rattle.std.proofs.Common.{◌≡◌, ℕ, Bool, true, false, List, [], ◌∷◌, ◌++◌, Option, Some, None, refl, ◌∙◌, if◌then◌else◌}
use Rattle.std.specs.Prelude.{codes}
use Rattle.def_machine.specs.Values.{Broken, Name, Gift, Naming, naming, name_of, host_of, same_reference}
use Rattle.def_machine.specs.State.{Binding, Message, Unsettled, Known, Note, Deliver, Open, Ask, SettledTo, Elsewhere, Shorten, Vat, Act, ◌>>=◌, and_then, give, look, mark, come, begun, is_in}
use Rattle.def_machine.specs.Refs as refs
use Rattle.def_machine.specs.Refs.{entry_of}
use Rattle.def_machine.specs.Arrive as arrive
use Rattle.def_machine.specs.Arrive.{Old, New}
use Rattle.def_machine.specs.Eval as eval
use Rattle.def_kernel.specs.declared.node.Node.{Node}
use Rattle.def_run.specs.World as world
use Rattle.law_fate.specs.Name.Names.{WasDrawn}
use Rattle.law_reference.specs.Reference.Views.{ViewsWait}
use Rattle.law_reference.proofs.Reference.Entries.{Mild}
use Rattle.law_reference.proofs.Reference.Gentle.{AfterGives, Gentle, IsGentle, gives_by}
use Rattle.law_reference.proofs.Reference.RefsGentle.{SettlesBy, gentle_settle}
use Rattle.law_reference.proofs.Reference.StepsGentle.{gentle_refers, gentle_arrive_deliver, gentle_taking, gentle_opening}
use Rattle.law_reference.proofs.Reference.StepsGo.{Refers, IsFree, goes_arrive_open, goes_arrive_ask, goes_arrive_settled, goes_arrive_shorten, goes_notice}
use Rattle.law_reference.proofs.Reference.ViewsGo.{ViewsGo, go_same, go_append, entry_last, views_gentle, settles_views}
use Rattle.law_reference.proofs.Reference.ViewsMade.{GiftsAreNew, views_there}
use Rattle.law_fate.proofs.Name.SameNames.{reference_is}

unsettled : (n : Name) (h : ℕ) → (begun n h).standing ≡ Unsettled
unfolding begun
unsettled n h = refl

module _ (word : ℕ → ℕ) (v : ℕ) where
  abbrev Names : Naming Name Name
  Names = naming word v

  abbrev pub Good : Vat Name → Type 0
  Good t = ViewsWait Names t.known

  law : IsGentle Names (ViewsGo Names)
  law = views_gentle Names

  block : SettlesBy Names (ViewsGo Names)
  block = settles_views Names

  refers : Refers Names (ViewsGo Names)
  refers = gentle_refers Names (ViewsGo Names) law block

  free : IsFree (ViewsGo Names)
  free = record { activations = λ s. go_same Names s.known; thing = λ s x. go_same Names s.known; killed = λ s n. go_same Names s.known; slot = λ s c. go_same Names s.known; written = λ s n x. go_same Names s.known }

  -- ---- notices

  marked : (w : ℕ) → Gentle (ViewsGo Names) (mark w)
  unfolding mark
  marked w = record { after = λ s. go_same Names s.known }

  -- ---- the views of the state after

  views_on : (s t : Vat Name) → Good s → ViewsGo Names s t → Good t
  views_on s t views go n g e = let back = go n g e in back.1 (views n g back.0)

  after_gentle : {A : Type 0} (m : Act Name A) (s : Vat Name) → Gentle (ViewsGo Names) m → Good s → AfterGives Good (m s)
  after_gentle m s h views = gives_by (ViewsGo Names) Good s (m s) (λ t go. views_on s t views go) (h.after s)

  pub views_taking : (tree : List Node) (depth : ℕ) (m : Message Name) (s : Vat Name) → Good s → AfterGives Good (eval.taking Names tree depth m s)
  views_taking tree depth m s views = after_gentle (eval.taking Names tree depth m) s (gentle_taking Names (ViewsGo Names) law block free tree depth m) views

  pub views_opening : (tree : List Node) (depth : ℕ) (root : Name) (given : List (Binding Name)) (s : Vat Name) → Good s → AfterGives Good (eval.opening Names tree depth root given s)
  views_opening tree depth root given s views = after_gentle (eval.opening Names tree depth root given) s (gentle_opening Names (ViewsGo Names) law block free tree depth root given) views

  pub views_notice : (w : ℕ) (s : Vat Name) → Good s → AfterGives Good (arrive.notice Names w s)
  views_notice w s views = after_gentle (arrive.notice Names w) s (goes_notice Names Mild (ViewsGo Names) law refers marked w) views

  -- ---- the news that a name settled elsewhere

  -- it is no gift under a word that was not drawn
  abbrev pub NoNewGift : Vat Name → Name → Type 0
  NoNewGift s n = (a i : ℕ) → (WasDrawn s.drawn i → ⊥) → n ≡ Gift a i → ⊥

  went : (n : Name) (c : ℕ) (s : Vat Name) (b : Bool) → Good s → GiftsAreNew word v s → NoNewGift s n → AfterGives Good ((if b then refs.settle Names n (Broken (codes "partition")) else arrive.view_there Names n c) s)
  went n c s true views new other = after_gentle (refs.settle Names n (Broken (codes "partition"))) s (gentle_settle Names (ViewsGo Names) law block n (Broken (codes "partition"))) views
  went n c s false views new other = views_there word v s n c views new other

  not_same : (x g : Name) (h : ℕ) (b : Bool) → same_reference x g ≡ b → (x ≡ g → ⊥) → ◌≡◌ {A = Option (Known Name)} (elim b [ true ↦ Some (begun x h) | false ↦ None ]) None
  not_same x g h true e f = absurd (f (reference_is x g e))
  not_same x g h false e f = refl

  not_begun : (x g : Name) (h : ℕ) → (x ≡ g → ⊥) → ◌≡◌ {A = Option (Known Name)} (elim (same_reference (begun x h).name g) [ true ↦ Some (begun x h) | false ↦ None ]) None
  unfolding begun
  not_begun x g h f = not_same x g h (same_reference x g) refl f

  still_new : (s : Vat Name) (x g : Name) (h : ℕ) → entry_of Names s.known g ≡ None → (x ≡ g → ⊥) → entry_of Names (s.known ++ begun x h ∷ []) g ≡ None
  unfolding naming
  still_new s x g h e f = entry_last Names s.known (begun x h) g e ∙ not_begun x g h f

  with_name : (s : Vat Name) (x : Name) (h : ℕ) → Good s → GiftsAreNew word v s → NoNewGift s x → Good (record s { known = s.known ++ begun x h ∷ [] }) × GiftsAreNew word v (record s { known = s.known ++ begun x h ∷ [] })
  with_name s x h views new other = (λ n g e. let back = go_append Names s.known (begun x h) (unsettled x h) n g e in back.1 (views n g back.0), record { names = λ c i l. still_new s x (Gift c i) h (new.names c i l) (other c i l); gifts = new.gifts })

  either_old : (x : Name) (c : ℕ) (s : Vat Name) (b : Bool) → Good s → GiftsAreNew word v s → NoNewGift s x → AfterGives Good (arrive.arrive_elsewhere Names (elim b [ true ↦ Old x | false ↦ New x (host_of x) ]) c s)
  unfolding arrive.arrive_elsewhere arrive.learn_name ◌>>=◌ and_then give look come naming name_of
  either_old x c s true views new other = went x c s (is_in c s.noticed) views new other
  either_old x c s false views new other = let more = with_name s x (host_of x) views new other in went x c (record s { known = s.known ++ begun x (host_of x) ∷ [] }) (is_in c s.noticed) more.0 more.1 other

  -- a note that tells of no gift under a word that was not drawn
  abbrev pub TellsNoNewGift : Vat Name → Note Name → Type 0
  TellsNoNewGift s (Elsewhere n c) = NoNewGift s n
  TellsNoNewGift s other = Unit {0}

  pub views_arrive : (from : ℕ) (ks : List Name) (n : Note Name) (s : Vat Name) → Good s → GiftsAreNew word v s → TellsNoNewGift s n → AfterGives Good (arrive.arrive Names from (world.read_note ks n) s)
  unfolding arrive.arrive world.read_note world.read_name
  views_arrive from ks (Deliver m n verb ys) s views new other = after_gentle _ s (gentle_arrive_deliver Names (ViewsGo Names) law block from _ _ verb _) views
  views_arrive from ks (Open i n) s views new other = after_gentle _ s (goes_arrive_open Names Mild (ViewsGo Names) law refers from i _) views
  views_arrive from ks (Ask p i n) s views new other = after_gentle _ s (goes_arrive_ask Names Mild (ViewsGo Names) law refers from p i) views
  views_arrive from ks (SettledTo n y) s views new other = after_gentle _ s (goes_arrive_settled Names Mild (ViewsGo Names) law refers from _ _) views
  views_arrive from ks (Elsewhere n c) s views new other = either_old n c s (world.is_old ks n) views new other
  views_arrive from ks (Shorten n c i) s views new other = after_gentle _ s (goes_arrive_shorten Names Mild (ViewsGo Names) law refers _ i) views
