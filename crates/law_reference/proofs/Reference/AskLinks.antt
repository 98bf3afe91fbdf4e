-- A gift that is asked for among the notes under way, in front of all that names it, through the changes of links.
use Rattle.std.proofs.Common.{◌≡◌, ℕ, true, List, [], ◌∷◌, ◌++◌, ◌⊎◌, inl, inr}
use Rattle.def_machine.specs.Values.{Name}
use Rattle.def_machine.specs.State.{Note, Put}
use Rattle.def_run.specs.World.{Link, pushed, push_all}
use Rattle.law_fate.specs.Name.Names.{AllOf}
use Rattle.law_reference.specs.Reference.Behind.{NamesNot}
use Rattle.law_reference.proofs.Reference.AnswerLinks.{AtLink, pushed_ahead, push_ahead}
use Rattle.law_reference.specs.Reference.ApartAsking.{AsksFor, AskedFirst}
use Rattle.law_reference.proofs.Reference.First.{PutsAhead}

module _ (i : ℕ) (x : Name) where
  asked_more : (ns : List (Note Name)) (n : Note Name) → AskedFirst i x ns → AskedFirst i x (ns ++ n ∷ [])
  asked_more [] n h = absurd h
  asked_more (k ∷ ns) n (inl h) = inl h
  asked_more (k ∷ ns) n (inr h) = inr (h.0, asked_more ns n h.1)

  asked_last : (ns : List (Note Name)) (n : Note Name) → AllOf (NamesNot x) ns → AsksFor i n → AskedFirst i x (ns ++ n ∷ [])
  asked_last [] n h b = inl b
  asked_last (k ∷ ns) n h b = inr (h.0, asked_last ns n h.1 b)

  -- it is cut, or the gift is asked for in front
  abbrev pub CutOrAsked : Link → Type 0
  CutOrAsked l = (l.cut ≡ true) ⊎ AskedFirst i x l.notes

  pub pushed_asked : (l : Link) (n : Note Name) → CutOrAsked l → CutOrAsked (pushed n l)
  pushed_asked l n h = pushed_ahead (AsksFor i) x (AskedFirst i x) asked_more asked_last l n h

  -- the note that asks, put in front, is under way in front, where nothing on the link names the gift yet
  pub push_asked : (g v : ℕ) (ps : List (Put Name)) (ls : List Link) → PutsAhead (AsksFor i) x g ps → AtLink v g (λ l. AllOf (NamesNot x) l.notes) ls → AtLink v g CutOrAsked (push_all v ps ls)
  push_asked g v ps ls h k = push_ahead (AsksFor i) x (AskedFirst i x) asked_more asked_last g v ps ls h k
