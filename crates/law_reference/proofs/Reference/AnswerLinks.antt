-- What holds of the link between two vats, through the changes of links.
use Rattle.std.proofs.Common.{◌≡◌, ℕ, Bool, true, false, List, [], ◌∷◌, ◌++◌, Option, Some, refl, sym, ◌∙◌, ◌⊎◌, inl, inr, ◌==◌}
use Rattle.std.proofs.lemmas.Bool.{eqb-true, eq-eqb}
use Rattle.def_machine.specs.Values.{Name, Msg}
use Rattle.def_machine.specs.State.{Note, Put}
use Rattle.def_run.specs.World.{Link, link_at, is_link, with_link, pushed, push_all}
use Rattle.law_fate.specs.Name.Names.{AllOf}
use Rattle.law_fate.proofs.Name.Facts.{all_end}
use Rattle.law_reference.proofs.Reference.LinksCut.{Fits, fits_pushed}
use Rattle.law_reference.specs.Reference.Behind.{NamesNot, Bears, ComesFirst}
use Rattle.law_reference.proofs.Reference.First.{PutsAhead}

true_false : true ≡ false → ⊥
true_false e = cc

-- what holds of the link from a to b
abbrev pub AtLink : ℕ → ℕ → (Link → Type 0) → List Link → Type 0
AtLink a b Q ls = (l : Link) → link_at a b ls ≡ Some l → Q l

same_ends : (a b : ℕ) (l : Link) (p q : Bool) → (l.from == a) ≡ p → (l.to == b) ≡ q → elim p [ true ↦ q | false ↦ false ] ≡ true → (l.from ≡ a) × (l.to ≡ b)
same_ends a b l true true e f i = (eqb-true l.from a e, eqb-true l.to b f)
same_ends a b l true false e f i = cc
same_ends a b l false q e f i = cc

pub link_ends : (a b : ℕ) (l : Link) → is_link a b l ≡ true → (l.from ≡ a) × (l.to ≡ b)
unfolding is_link
link_ends a b l e = same_ends a b l (l.from == a) (l.to == b) refl refl e

both_true : (p q : Bool) → p ≡ true → q ≡ true → elim p [ true ↦ q | false ↦ false ] ≡ true
both_true true q e f = f
both_true false q e f = cc

pub is_between : (a b : ℕ) (l : Link) → l.from ≡ a → l.to ≡ b → is_link a b l ≡ true
unfolding is_link
is_between a b l e f = both_true (l.from == a) (l.to == b) (eq-eqb l.from a e) (eq-eqb l.to b f)

pub found_ends : (a b : ℕ) (ls : List Link) (l : Link) → link_at a b ls ≡ Some l → (l.from ≡ a) × (l.to ≡ b)
unfolding link_at
found_ends a b [] l e = cc
found_ends a b (j ∷ ls) l e = at (is_link a b j) refl e (λ i. found_ends a b ls l i)
  where
    at : (p : Bool) → is_link a b j ≡ p → ◌≡◌ {A = Option Link} (elim p [ true ↦ Some j | false ↦ link_at a b ls ]) (Some l) → (link_at a b ls ≡ Some l → (l.from ≡ a) × (l.to ≡ b)) → (l.from ≡ a) × (l.to ≡ b)
    at true f i rest = let one : j ≡ l = cc in rw one at (link_ends a b j f)
    at false f i rest = rest i

head_is : (l j : Link) → ◌≡◌ {A = Option Link} (Some l) (Some j) → l ≡ j
head_is l j e = cc

module _ (a b c d : ℕ) (Q : Link → Type 0) (f : Link → Link) (fits : Fits a b f) where
  -- the link that is changed, and the others
  abbrev Changes : List Link → Type 0
  Changes ls = (l : Link) → link_at a b ls ≡ Some l → a ≡ c → b ≡ d → Q (f l)

  abbrev Others : List Link → Type 0
  Others ls = (l : Link) → link_at a b ls ≡ Some l → ((a ≡ c) × (b ≡ d) → ⊥) → Q l

  same_pair : (l : Link) → is_link a b l ≡ true → is_link c d l ≡ true → (a ≡ c) × (b ≡ d)
  same_pair l e i = let x = link_ends a b l e in let y = link_ends c d l i in (sym x.0 ∙ y.0, sym x.1 ∙ y.1)

  other_pair : (l : Link) → is_link a b l ≡ true → is_link c d l ≡ false → (a ≡ c) × (b ≡ d) → ⊥
  other_pair l e i h = let x = link_ends a b l e in true_false (sym (is_between c d l (x.0 ∙ h.0) (x.1 ∙ h.1)) ∙ i)

  mixed_pair : (l : Link) → is_link a b l ≡ false → is_link c d l ≡ true → (a ≡ c) × (b ≡ d) → ⊥
  mixed_pair l e i h = let y = link_ends c d l i in true_false (sym (is_between a b l (y.0 ∙ sym h.0) (y.1 ∙ sym h.1)) ∙ e)

  with_head : (p r : Bool) (l : Link) (ls rest : List Link) → is_link c d l ≡ p → is_link a b l ≡ r
      → ((j : Link) → ◌≡◌ {A = Option Link} (elim r [ true ↦ Some l | false ↦ link_at a b ls ]) (Some j) → a ≡ c → b ≡ d → Q (f j))
      → ((j : Link) → ◌≡◌ {A = Option Link} (elim r [ true ↦ Some l | false ↦ link_at a b ls ]) (Some j) → ((a ≡ c) × (b ≡ d) → ⊥) → Q j)
      → (Changes ls → Others ls → AtLink a b Q rest) → AtLink a b Q (elim p [ true ↦ f l ∷ ls | false ↦ l ∷ rest ])
  unfolding link_at
  with_head true true l ls rest i e h k g j x = let one : ◌≡◌ {A = Option Link} (Some (f l)) (Some j) = rw (fits.place a b l ∙ e, link_at) at x in let pair = same_pair l e i in rw (head_is (f l) j one) at (h l refl pair.0 pair.1)
  with_head true false l ls rest i e h k g j x = let one : link_at a b ls ≡ Some j = rw (fits.place a b l ∙ e, link_at) at x in k j one (mixed_pair l e i)
  with_head false true l ls rest i e h k g j x = let one : ◌≡◌ {A = Option Link} (Some l) (Some j) = rw (e, link_at) at x in rw (head_is l j one) at (k l refl (other_pair l e i))
  with_head false false l ls rest i e h k g j x = let one : link_at a b rest ≡ Some j = rw (e, link_at) at x in g h k j one

  pub with_any : (ls : List Link) → Changes ls → Others ls → AtLink a b Q (with_link f c d ls)
  unfolding with_link link_at
  with_any [] h k l e = cc
  with_any (l ∷ ls) h k j e = with_head (is_link c d l) (is_link a b l) l ls (with_link f c d ls) refl refl h k (with_any ls) j e

-- ---- notes that are put

module _ (a b v : ℕ) (Q : Link → Type 0) (put : (l : Link) (n : Note Name) → Q l → Q (pushed n l)) where
  -- what each note that is put keeps
  pub push_keeps : (ps : List (Put Name)) (ls : List Link) → AtLink a b Q ls → AtLink a b Q (push_all v ps ls)
  unfolding push_all
  push_keeps [] ls h = h
  push_keeps (p ∷ ps) ls h = push_keeps ps (with_link (pushed p.note) v p.to ls) (with_any a b v p.to Q (pushed p.note) (fits_pushed a b p.note) ls (λ l e i j. put l p.note (h l e)) (λ l e f. h l e))

module _ (a b v : ℕ) (Q : Link → Type 0) where
  -- another vat puts nothing on it
  pub push_others : (ps : List (Put Name)) (ls : List Link) → (a ≡ v → ⊥) → AtLink a b Q ls → AtLink a b Q (push_all v ps ls)
  unfolding push_all
  push_others [] ls f h = h
  push_others (p ∷ ps) ls f h = push_others ps (with_link (pushed p.note) v p.to ls) f (with_any a b v p.to Q (pushed p.note) (fits_pushed a b p.note) ls (λ l e i j. absurd (f i)) (λ l e k. h l e))

  -- the notes put are such that it holds
  pub push_of : (R : Note Name → Type 0) → ((l : Link) (n : Note Name) → R n → Q l → Q (pushed n l)) → (ps : List (Put Name)) (ls : List Link) → AllOf (λ (p : Put Name). R p.note) ps → AtLink a b Q ls → AtLink a b Q (push_all v ps ls)
  unfolding push_all
  push_of R put [] ls r h = h
  push_of R put (p ∷ ps) ls r h = push_of R put ps (with_link (pushed p.note) v p.to ls) r.1 (with_any a b v p.to Q (pushed p.note) (fits_pushed a b p.note) ls (λ l e i j. put l p.note r.0 (h l e)) (λ l e k. h l e))

module _ (b v : ℕ) (Q : Link → Type 0) where
  -- the notes put to its end are such that it holds
  pub push_where : (R : Note Name → Type 0) → ((l : Link) (n : Note Name) → R n → Q l → Q (pushed n l)) → (ps : List (Put Name)) (ls : List Link) → AllOf (λ (p : Put Name). p.to ≡ b → R p.note) ps → AtLink v b Q ls → AtLink v b Q (push_all v ps ls)
  unfolding push_all
  push_where R put [] ls r h = h
  push_where R put (p ∷ ps) ls r h = push_where R put ps (with_link (pushed p.note) v p.to ls) r.1 (with_any v b v p.to Q (pushed p.note) (fits_pushed v b p.note) ls (λ l e i j. put l p.note (r.0 (sym j)) (h l e)) (λ l e k. h l e))

-- ---- a note that is put

module _ (R : Note Name → Type 0) where
  pushed_either : (c : Bool) (n : Note Name) (l : Link) → R n → AllOf R l.notes → (let j : Link = elim c [ true ↦ record l { log = l.log ++ n ∷ [] } | false ↦ record l { notes = l.notes ++ n ∷ []; log = l.log ++ n ∷ [] } ] in AllOf R j.notes)
  pushed_either true n l r h = h
  pushed_either false n l r h = all_end R l.notes n h r

  pub pushed_all : (l : Link) (n : Note Name) → R n → AllOf R l.notes → AllOf R (pushed n l).notes
  unfolding pushed
  pushed_all l n r h = pushed_either l.cut n l r h

-- what is ahead of all that names x, among the notes under way, where more notes leave it so, and B says what comes to be so as the last
module _ (B : Note Name → Type 0) (x : Name) (Ahead : List (Note Name) → Type 0) (more : (ns : List (Note Name)) (n : Note Name) → Ahead ns → Ahead (ns ++ n ∷ [])) (last : (ns : List (Note Name)) (n : Note Name) → AllOf (NamesNot x) ns → B n → Ahead (ns ++ n ∷ [])) where
  -- or the link is cut
  abbrev pub CutOr : Link → Type 0
  CutOr l = (l.cut ≡ true) ⊎ Ahead l.notes

  more_either : (c : Bool) (n : Note Name) (l : Link) → CutOr l → CutOr (elim c [ true ↦ record l { log = l.log ++ n ∷ [] } | false ↦ record l { notes = l.notes ++ n ∷ []; log = l.log ++ n ∷ [] } ])
  more_either true n l (inl e) = inl e
  more_either true n l (inr h) = inr h
  more_either false n l (inl e) = inl e
  more_either false n l (inr h) = inr (more l.notes n h)

  pub pushed_ahead : (l : Link) (n : Note Name) → CutOr l → CutOr (pushed n l)
  unfolding pushed
  pushed_ahead l n h = more_either l.cut n l h

  last_either : (c : Bool) (n : Note Name) (l : Link) → l.cut ≡ c → AllOf (NamesNot x) l.notes → B n → CutOr (elim c [ true ↦ record l { log = l.log ++ n ∷ [] } | false ↦ record l { notes = l.notes ++ n ∷ []; log = l.log ++ n ∷ [] } ])
  last_either true n l e h b = inl e
  last_either false n l e h b = inr (last l.notes n h b)

  pushed_last : (l : Link) (n : Note Name) → AllOf (NamesNot x) l.notes → B n → CutOr (pushed n l)
  unfolding pushed
  pushed_last l n h b = last_either l.cut n l refl h b

  -- what is put ahead is under way ahead, where nothing on the link names x yet
  pub push_ahead : (g v : ℕ) (ps : List (Put Name)) (ls : List Link) → PutsAhead B x g ps → AtLink v g (λ l. AllOf (NamesNot x) l.notes) ls → AtLink v g CutOr (push_all v ps ls)
  unfolding push_all
  push_ahead g v [] ls h k = absurd h
  push_ahead g v (p ∷ ps) ls (inl b) k = push_keeps v g v CutOr pushed_ahead ps (with_link (pushed p.note) v p.to ls)
      (with_any v g v p.to CutOr (pushed p.note) (fits_pushed v g p.note) ls (λ l e i j. pushed_last l p.note (k l e) b.1) (λ l e f. absurd (f (refl, sym b.0))))
  push_ahead g v (p ∷ ps) ls (inr h) k = push_ahead g v ps (with_link (pushed p.note) v p.to ls) h.1
      (with_any v g v p.to (λ l. AllOf (NamesNot x) l.notes) (pushed p.note) (fits_pushed v g p.note) ls (λ l e i j. pushed_all (NamesNot x) l p.note h.0 (k l e)) (λ l e f. k l e))

-- ---- the message of an answer

module _ (m : Msg) (x : Name) where
  comes_more : (ns : List (Note Name)) (n : Note Name) → ComesFirst m x ns → ComesFirst m x (ns ++ n ∷ [])
  comes_more [] n h = absurd h
  comes_more (k ∷ ns) n (inl h) = inl h
  comes_more (k ∷ ns) n (inr h) = inr (h.0, comes_more ns n h.1)

  comes_last : (ns : List (Note Name)) (n : Note Name) → AllOf (NamesNot x) ns → Bears m x n → ComesFirst m x (ns ++ n ∷ [])
  comes_last [] n h b = inl b
  comes_last (k ∷ ns) n h b = inr (h.0, comes_last ns n h.1 b)

  -- it is cut, or the message is under way in front
  abbrev pub CutOrFirst : Link → Type 0
  CutOrFirst l = (l.cut ≡ true) ⊎ ComesFirst m x l.notes

  pub pushed_more : (l : Link) (n : Note Name) → CutOrFirst l → CutOrFirst (pushed n l)
  pushed_more l n h = pushed_ahead (Bears m x) x (ComesFirst m x) comes_more comes_last l n h

  pub push_first : (g v : ℕ) (ps : List (Put Name)) (ls : List Link) → PutsAhead (Bears m x) x g ps → AtLink v g (λ l. AllOf (NamesNot x) l.notes) ls → AtLink v g CutOrFirst (push_all v ps ls)
  push_first g v ps ls h k = push_ahead (Bears m x) x (ComesFirst m x) comes_more comes_last g v ps ls h k
