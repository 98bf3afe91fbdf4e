-- Of a draw that no note has, no gift is let go: nothing is said of where such gifts lead.
use Rattle.std.proofs.Common.{◌≡◌, ℕ, zero, suc, Bool, true, false, List, [], ◌∷◌, ◌++◌, Option, Some, None, refl, sym, ap, subst, ◌∙◌}
use Rattle.std.proofs.lemmas.Bool.{ne_eqb, eq-eqb}
use Rattle.std.specs.Prelude.{◌==◌, ◌&&◌, ◌||◌}
use Rattle.def_machine.specs.Values.{Name, key, word_of}
use Rattle.def_machine.specs.State.{Note, Open, Shorten, is_in, drawn_at}
use Rattle.def_machine.proofs.Keys.{word_key}
use Rattle.def_run.specs.World.{Link}
use Rattle.def_run.specs.World as world
use Rattle.law_order.specs.Ordering.Ways.{Lane, Way, Item, Place, Free}
use Rattle.law_order.specs.Ordering.Places.{delivered, opens, shortens, subject, in_lane, note_place, any_note, first_place, is_honest, open_place, shorten_place, was_put, or_never, gift_place}
use Rattle.law_order.proofs.Ordering.Sends.{pushed_shut, pushed_open}
use Rattle.law_order.specs.Ordering.Steps.{LetsDrawn, NotesDrawn, AllDrawn}
use Rattle.law_order.proofs.Ordering.Noted.{Spares}

-- ---- words that were drawn

abbrev Holds : List ℕ → List ℕ → Type 0
Holds ds es = (x : ℕ) → is_in x ds ≡ true → is_in x es ≡ true

more_note : (ds es : List ℕ) (n : Note Name) → Holds ds es → LetsDrawn ds n → LetsDrawn es n
more_note ds es (Open j n) i h = i (word_of j) h
more_note ds es (Shorten n c j) i h = i (word_of j) h
more_note ds es other i h = tt

more_notes : (ds es : List ℕ) (ns : List (Note Name)) → Holds ds es → NotesDrawn ds ns → NotesDrawn es ns
more_notes ds es [] i h = tt
more_notes ds es (n ∷ ns) i h = (more_note ds es n i h.0, more_notes ds es ns i h.1)

pub more_draws : (ds es : List ℕ) (ls : List Link) → Holds ds es → AllDrawn ds ls → AllDrawn es ls
more_draws ds es [] i h = tt
more_draws ds es (l ∷ ls) i h = (more_notes ds es l.notes i h.0, more_notes ds es l.log i h.1, more_draws ds es ls i h.2)

-- a word that was drawn is among those and one more
pub in_more : (w : ℕ) (ds : List ℕ) → Holds ds (ds ++ w ∷ [])
unfolding is_in
in_more w [] x h = cc
in_more w (d ∷ ds) x h = go (x == d) (in_more w ds x) h
  where
    go : (b : Bool) → (is_in x ds ≡ true → is_in x (ds ++ w ∷ []) ≡ true) → ◌≡◌ {A = Bool} (elim b [ true ↦ true | false ↦ is_in x ds ]) true → ◌≡◌ {A = Bool} (elim b [ true ↦ true | false ↦ is_in x (ds ++ w ∷ []) ]) true
    go true rest e = refl
    go false rest e = rest e

-- and so is the one more
in_last : (x w : ℕ) (ds : List ℕ) → x ≡ w → is_in x (ds ++ w ∷ []) ≡ true
unfolding is_in
in_last x w [] e = ap (λ b. elim b [ true ↦ true | false ↦ false ]) (eq-eqb x w e)
in_last x w (d ∷ ds) e = go (x == d) (in_last x w ds e)
  where
    go : (b : Bool) → is_in x (ds ++ w ∷ []) ≡ true → ◌≡◌ {A = Bool} (elim b [ true ↦ true | false ↦ is_in x (ds ++ w ∷ []) ]) true
    go true rest = refl
    go false rest = rest

pub key_in_last : (p w : ℕ) (ds : List ℕ) → is_in (word_of (key p w)) (ds ++ w ∷ []) ≡ true
key_in_last p w ds = in_last (word_of (key p w)) w ds (word_key p w)

-- a word that stands nowhere among those drawn is none of them
found_or : (k w : ℕ) (ds : List ℕ) → drawn_at k w ds ≡ None → is_in w ds ≡ false
unfolding drawn_at is_in
found_or k w [] e = refl
found_or k w (d ∷ ds) e = go (w == d) (found_or (suc k) w ds) e
  where
    go : (b : Bool) → (drawn_at (suc k) w ds ≡ None → is_in w ds ≡ false) → ◌≡◌ {A = Option ℕ} (elim b [ true ↦ Some k | false ↦ drawn_at (suc k) w ds ]) None → ◌≡◌ {A = Bool} (elim b [ true ↦ true | false ↦ is_in w ds ]) false
    go true rest f = cc
    go false rest f = rest f

pub key_is_new : (p w : ℕ) (ds : List ℕ) → drawn_at zero w ds ≡ None → is_in (word_of (key p w)) ds ≡ false
key_is_new p w ds e = subst (λ (x : ℕ). is_in x ds ≡ false) (sym (word_key p w)) (found_or zero w ds e)

one_more : (d : List ℕ) (ns : List (Note Name)) (n : Note Name) → NotesDrawn d ns → LetsDrawn d n → NotesDrawn d (ns ++ n ∷ [])
one_more d [] n h i = (i, tt)
one_more d (m ∷ ns) n h i = (h.0, one_more d ns n h.1 i)

abbrev LinkDrawn : List ℕ → Link → Type 0
LinkDrawn d l = NotesDrawn d l.notes × NotesDrawn d l.log

push_drawn : (d : List ℕ) (b : Bool) (n : Note Name) (l : Link) → l.cut ≡ b → LetsDrawn d n → LinkDrawn d l → LinkDrawn d (world.pushed n l)
push_drawn d true n l e i h = subst (LinkDrawn d) (sym (pushed_shut n l e)) (h.0, one_more d l.log n h.1 i)
push_drawn d false n l e i h = subst (LinkDrawn d) (sym (pushed_open n l e)) (one_more d l.notes n h.0 i, one_more d l.log n h.1 i)

pub with_drawn : (d : List ℕ) (n : Note Name) (v h : ℕ) (ls : List Link) → LetsDrawn d n → AllDrawn d ls → AllDrawn d (world.with_link (world.pushed n) v h ls)
unfolding world.with_link
with_drawn d n v h [] i j = tt
with_drawn d n v h (l ∷ ls) i j = go (with_drawn d n v h ls i j.2) (world.is_link v h l)
  where
    go : AllDrawn d (world.with_link (world.pushed n) v h ls) → (b : Bool) → AllDrawn d (elim b [ true ↦ world.pushed n l ∷ ls | false ↦ l ∷ world.with_link (world.pushed n) v h ls ])
    go f true = let p = push_drawn d l.cut n l refl i (j.0, j.1) in (p.0, p.1, j.2)
    go f false = (j.0, j.1, f)

-- ---- no such note

-- it lets no gift go under that key
abbrev pub Lacks : ℕ → Note Name → Type 0
Lacks d (Open i n) = i ≡ d → ⊥
Lacks d (Shorten n c i) = i ≡ d → ⊥
Lacks d other = Unit {0}

abbrev pub NotesLack : ℕ → List (Note Name) → Type 0
NotesLack d [] = Unit {0}
NotesLack d (n ∷ ns) = Lacks d n × NotesLack d ns

abbrev pub LinksLack : ℕ → List Link → Type 0
LinksLack d [] = Unit {0}
LinksLack d (l ∷ ls) = NotesLack d l.notes × NotesLack d l.log × LinksLack d ls

-- where its word was not drawn
module _ (ds : List ℕ) (d : ℕ) (new : is_in (word_of d) ds ≡ false) where
  another : (i : ℕ) → is_in (word_of i) ds ≡ true → i ≡ d → ⊥
  another i h e = let drawn : is_in (word_of d) ds ≡ true = subst (λ (j : ℕ). is_in (word_of j) ds ≡ true) e h in go (is_in (word_of d) ds) drawn new
    where
      go : (b : Bool) → b ≡ true → b ≡ false → ⊥
      go true e f = cc
      go false e f = cc

  note_lacks : (n : Note Name) → LetsDrawn ds n → Lacks d n
  note_lacks (Open i n) h = another i h
  note_lacks (Shorten n c i) h = another i h
  note_lacks other h = tt

  notes_lack : (ns : List (Note Name)) → NotesDrawn ds ns → NotesLack d ns
  notes_lack [] h = tt
  notes_lack (n ∷ ns) h = (note_lacks n h.0, notes_lack ns h.1)

  pub links_lack : (ls : List Link) → AllDrawn ds ls → LinksLack d ls
  links_lack [] h = tt
  links_lack (l ∷ ls) h = (notes_lack l.notes h.0, notes_lack l.log h.1, links_lack ls h.2)

and_false : (a b : Bool) → b ≡ false → (a && b) ≡ false
and_false true b e = e
and_false false b e = refl

pub lacks_spares : (d : ℕ) (n : Note Name) → Lacks d n → Spares d n
unfolding opens shortens
lacks_spares d (Open i n) h = (ne_eqb i d h, λ g. refl)
lacks_spares d (Shorten n c i) h = (refl, λ g. and_false (c == g) (i == d) (ne_eqb i d h))
lacks_spares d other h = (refl, λ g. refl)

pub no_place : (d : ℕ) (f : Note Name → Bool) (l : Lane) (b : List Item) (ns : List (Note Name)) → ((n : Note Name) → Spares d n → f n ≡ false) → NotesLack d ns → note_place f l b ns ≡ None
unfolding note_place
no_place d f l b [] t h = refl
no_place d f l b (n ∷ ns) t h = ap (λ c. elim c [ true ↦ in_lane l b (subject n) | false ↦ note_place f l (b ++ delivered (n ∷ [])) ns ]) (t n (lacks_spares d n h.0)) ∙ no_place d f l (b ++ delivered (n ∷ [])) ns t h.1

no_note : (d : ℕ) (f : Note Name → Bool) (ns : List (Note Name)) → ((n : Note Name) → Spares d n → f n ≡ false) → NotesLack d ns → any_note f ns ≡ false
unfolding any_note
no_note d f [] t h = refl
no_note d f (n ∷ ns) t h = ap (λ c. c || any_note f ns) (t n (lacks_spares d n h.0)) ∙ no_note d f ns t h.1

abbrev IsNothing : Option Place → Type 0
IsNothing o = o ≡ None

module _ (script : world.Script) (honest : ℕ → Bool) where
  pub no_open : (h d : ℕ) (ls : List Link) → LinksLack d ls → open_place script honest h d ls ≡ None
  unfolding open_place first_place
  no_open h d [] b = refl
  no_open h d (l ∷ ls) b = go (no_open h d ls b.2) (is_honest script honest l && (l.to == h))
    where
      go : open_place script honest h d ls ≡ None → (c : Bool) → IsNothing (elim c [ true ↦ first_place (note_place (opens d) (Way l.from l.to) [] l.notes) (open_place script honest h d ls) | false ↦ open_place script honest h d ls ])
      go rest true = ap (λ o. first_place o (open_place script honest h d ls)) (no_place d (opens d) (Way l.from l.to) [] l.notes (λ n s. s.0) b.0) ∙ rest
      go rest false = rest

  pub no_shorten : (h d : ℕ) (ls : List Link) → LinksLack d ls → shorten_place script honest h d ls ≡ None
  unfolding shorten_place first_place
  no_shorten h d [] b = refl
  no_shorten h d (l ∷ ls) b = go (no_shorten h d ls b.2) (is_honest script honest l)
    where
      go : shorten_place script honest h d ls ≡ None → (c : Bool) → IsNothing (elim c [ true ↦ first_place (note_place (shortens h d) (Way l.from l.to) [] l.notes) (shorten_place script honest h d ls) | false ↦ shorten_place script honest h d ls ])
      go rest true = ap (λ o. first_place o (shorten_place script honest h d ls)) (no_place d (shortens h d) (Way l.from l.to) [] l.notes (λ n s. s.1 h) b.0) ∙ rest
      go rest false = rest

  not_put : (h d : ℕ) (ls : List Link) → LinksLack d ls → was_put script honest h d ls ≡ false
  unfolding was_put
  not_put h d [] b = refl
  not_put h d (l ∷ ls) b =
      ap (λ o. (is_honest script honest l && (((l.to == h) && o) || any_note (shortens h d) l.log)) || was_put script honest h d ls) (no_note d (opens d) l.log (λ n s. s.0) b.1)
      ∙ ap (λ o. (is_honest script honest l && (((l.to == h) && false) || o)) || was_put script honest h d ls) (no_note d (shortens h d) l.log (λ n s. s.1 h) b.1)
      ∙ ap (λ o. (is_honest script honest l && (((l.to == h) && false) || false)) || o) (not_put h d ls b.2)
      ∙ go (is_honest script honest l) (l.to == h)
    where
      go : (a c : Bool) → ((a && ((c && false) || false)) || false) ≡ false
      go true true = refl
      go true false = refl
      go false true = refl
      go false false = refl

  pub nothing_said : (h d : ℕ) (ls : List Link) → LinksLack d ls → gift_place script honest h d ls ≡ Free
  unfolding gift_place or_never first_place
  nothing_said h d ls b =
      ap (λ a. or_never script honest a (first_place (open_place script honest h d ls) (shorten_place script honest h d ls))) (not_put h d ls b)
      ∙ ap (λ a. or_never script honest false (first_place a (shorten_place script honest h d ls))) (no_open h d ls b)
      ∙ ap (λ a. or_never script honest false (first_place None a)) (no_shorten h d ls b)
