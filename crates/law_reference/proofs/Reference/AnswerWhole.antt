-- Each entry brings what is new where it does so in every world of the run.
use Rattle.std.proofs.Common.{◌≡◌, ℕ, zero, suc, ◌+◌, List, [], ◌∷◌, ◌++◌, Some, refl, arith, length, subst}
use Rattle.std.specs.Prelude.{slice_get}
use Rattle.def_machine.specs.Values.{Name, Root, Object, Promise, Answer, Gift, Sent}
use Rattle.def_machine.specs.State.{Note, Vat}
use Rattle.def_run.specs.World as world
use Rattle.def_run.specs.World.{Script, Entry, Carry, Link, World, Goes as Going, link_at}
use Rattle.law_fate.specs.Name.Runs.{KnowsOnce}
use Rattle.law_fate.proofs.Name.Among.{length_end}
use Rattle.law_reference.specs.Reference.NameTableRuns.{BringsNew, EntryBringsNew, NotesBringNew}
use Rattle.law_reference.specs.Reference.AnswerWhole.{GiftsComeNew, NotesBringNewWhereGiftsDo}
use Rattle.law_reference.proofs.Reference.Moves.{steps_end}
use Rattle.law_reference.proofs.Reference.SingleRuns.{notes_bring_new_but_gifts}

module _ (script : Script) (once : KnowsOnce script) (gifts : GiftsComeNew script) (w : World) (k : ℕ) (opened : world.open_from script zero script.vats (world.begins script) ≡ Going w) where
  brings_all : (x : World) (es : List Entry) → world.steps_from script es k w ≡ Going x → (from to : ℕ) (l : Link) (n : Note Name) (ns : List (Note Name)) (s : Vat Name) → link_at from to x.links ≡ Some l → l.notes ≡ n ∷ ns → slice_get x.vats to ≡ Some s → BringsNew x from to n s
  brings_all x es e from to l n ns s a b c (Root u) = (notes_bring_new_but_gifts script once).1 w x es k opened e from to l n ns s a b c (Root u) tt
  brings_all x es e from to l n ns s a b c (Object u i) = (notes_bring_new_but_gifts script once).1 w x es k opened e from to l n ns s a b c (Object u i) tt
  brings_all x es e from to l n ns s a b c (Promise u i) = (notes_bring_new_but_gifts script once).1 w x es k opened e from to l n ns s a b c (Promise u i) tt
  brings_all x es e from to l n ns s a b c (Answer g m) = (notes_bring_new_but_gifts script once).1 w x es k opened e from to l n ns s a b c (Answer g m) tt
  brings_all x es e from to l n ns s a b c (Gift h i) = gifts w x es k opened e from to l n ns s a b c h i
  brings_all x es e from to l n ns s a b c (Sent m) = (notes_bring_new_but_gifts script once).1 w x es k opened e from to l n ns s a b c (Sent m) tt

  entry_brings : (x : World) (es : List Entry) → world.steps_from script es k w ≡ Going x → (entry : Entry) → EntryBringsNew x entry
  entry_brings x es e (Carry from to) = λ l n ns s a b c. brings_all x es e from to l n ns s a b c
  entry_brings x es e other = tt

  entries_bring : (es ds : List Entry) (x : World) → world.steps_from script ds k w ≡ Going x → NotesBringNew script es (k + length ds) x
  entries_bring [] ds x e = tt
  entries_bring (entry ∷ es) ds x e = (
    entry_brings x ds e entry,
    λ y f. let done = steps_end script ds entry k w x y e f in let n : k + length (ds ++ entry ∷ []) ≡ suc (k + length ds) = (let l = length_end ds entry in omega arith) in
        subst (λ j. NotesBringNew script es j y) n (entries_bring es (ds ++ entry ∷ []) y done),
  )

  pub brings_from : (es : List Entry) → NotesBringNew script es k w
  unfolding world.steps_from
  brings_from es = let n : k + 0 ≡ k = omega arith in subst (λ j. NotesBringNew script es j w) n (entries_bring es [] w refl)

pub notes_bring_new_where_gifts_do : NotesBringNewWhereGiftsDo
notes_bring_new_where_gifts_do script once gifts w opened es k = brings_from script once gifts w k opened es
