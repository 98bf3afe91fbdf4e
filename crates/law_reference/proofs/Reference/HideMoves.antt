-- What each move of a world keeps of gifts under way: who is no host of one does not know it, and its host has it not in hand.
use Rattle.std.proofs.Common.{◌≡◌, ℕ, zero, ◌+◌, ◌≤◌, Bool, true, false, List, [], ◌∷◌, Option, Some, refl, sym, ◌∙◌, ◌⊎◌, inl, inr, subst, ◌==◌, arith}
use Rattle.std.specs.Prelude.{slice_get}
use Rattle.std.proofs.lemmas.Bool.{eq-eqb}
use Rattle.def_machine.specs.Values.{Name, Root, Gift, naming, word_of}
use Rattle.def_machine.specs.State.{Message, Passed, Passeds, Plain, AGift, Many, NoMore, More, Note, Deliver, Open, Ask, SettledTo, Elsewhere, Shorten, Put, Vat, Done, Gives, is_in}
use Rattle.def_machine.specs.Scopes.{any_guard}
use Rattle.def_machine.specs.Arrive.{arrive}
use Rattle.law_machine.specs.Machine.Steps.{Step, Opens as Starts, Takes, Receives, Notices, does, After}
use Rattle.def_run.specs.Draws.{draw_word}
use Rattle.def_run.specs.World as world
use Rattle.def_run.specs.World.{Script, Program, Link, World, names, names_of, read_note, readied, put_at, push_all, with_link, with_notes, severed_link, link_at}
use Rattle.law_fate.specs.Fates.Fate.{once}
use Rattle.law_fate.specs.Name.Names.{Bit, Named, Mail, Entered, Owns, Gave, AllOf, WasDrawn, IsMade, WasMade, NounOk, PassedOk, PassedsOk, NoteOk, Everywhere}
use Rattle.law_fate.proofs.Name.Facts.{all_map, note_up, Nothing, nothing}
use Rattle.law_fate.proofs.Name.Care.{Fine, parts_up}
use Rattle.law_fate.proofs.Name.Run.{Had, Told, Stands}
use Rattle.law_reference.proofs.Reference.Gentle.{AfterGives}
use Rattle.law_reference.proofs.Reference.CareBeside.{made_message}
use Rattle.law_reference.proofs.Reference.Follow.{put_cases}
use Rattle.law_reference.proofs.Reference.AnswerLinks.{pushed_all}
use Rattle.law_reference.proofs.Reference.Moves.{IsAlone, Does}
use Rattle.law_reference.specs.Reference.GiftPassing.{gifts_in, gifts_in_all, gifts_in_note, gifts_in_notes, gifts_on, drawn_of, Provides}
use Rattle.law_reference.proofs.Reference.Puts.{Fair, gifts_out, in_among, among_in}
use Rattle.law_reference.proofs.Reference.ArrivePuts.{fair_notice}
use Rattle.law_reference.proofs.Reference.StepsPuts.{later, fair_taking, fair_opening, arrival_ends}
use Rattle.law_reference.specs.Reference.Hiding.{IsNotOf, Shuns, Spares}
use Rattle.law_reference.proofs.Reference.Arrivals.{PassedTells, PassedsTell, value_tells}
use Rattle.law_reference.proofs.Reference.HideCare.{Hides, Tells, Goes, not_other, hides_under, hides_makes, note_hides, news_goes}
use Rattle.law_reference.proofs.Reference.ApartSteps.{ready, does_sound, arrives_sound}

-- ---- links

either_all : (Q : Link → Type 0) (b : Bool) (l j : Link) (ls rest : List Link) → Q l → AllOf Q ls → Q j → AllOf Q rest → AllOf Q (elim b [ true ↦ j ∷ ls | false ↦ l ∷ rest ])
either_all Q true l j ls rest h k i m = (i, k)
either_all Q false l j ls rest h k i m = (h, m)

pub all_with : (Q : Link → Type 0) (f : Link → Link) → ((l : Link) → Q l → Q (f l)) → (v w : ℕ) (ls : List Link) → AllOf Q ls → AllOf Q (with_link f v w ls)
unfolding with_link
all_with Q f k v w [] h = tt
all_with Q f k v w (l ∷ ls) h = either_all Q (world.is_link v w l) l (f l) ls (with_link f v w ls) h.0 h.1 (k l h.0) (all_with Q f k v w ls h.1)

-- it holds of each note on the links
abbrev pub Notes : (Note Name → Type 0) → List Link → Type 0
Notes R ls = AllOf (λ (l : Link). AllOf R l.notes) ls

notes_pushed : (R : Note Name → Type 0) (v : ℕ) (ps : List (Put Name)) (ls : List Link) → AllOf (λ (p : Put Name). R p.note) ps → Notes R ls → Notes R (push_all v ps ls)
unfolding push_all
notes_pushed R v [] ls h k = k
notes_pushed R v (p ∷ ps) ls h k = notes_pushed R v ps (with_link (world.pushed p.note) v p.to ls) h.1 (all_with (λ (l : Link). AllOf R l.notes) (world.pushed p.note) (λ l m. pushed_all R l p.note h.0 m) v p.to ls k)

pub notes_severed : (R : Note Name → Type 0) (v w : ℕ) (ls : List Link) → Notes R ls → Notes R (with_link severed_link v w ls)
unfolding severed_link
notes_severed R v w ls h = all_with (λ (l : Link). AllOf R l.notes) severed_link (λ l k. tt) v w ls h

pub notes_taken : (R : Note Name → Type 0) (v w : ℕ) (ns : List (Note Name)) (ls : List Link) → AllOf R ns → Notes R ls → Notes R (with_link (with_notes ns) v w ls)
unfolding with_notes
notes_taken R v w ns ls k h = all_with (λ (l : Link). AllOf R l.notes) (with_notes ns) (λ l m. k) v w ls h

taken_or : (i : ℕ) (n : Note Name) (ns : List (Note Name)) (b : Bool) (k l : Link) (o : Option Link) (ls rest : List Link) → k.notes ≡ n ∷ ns → elim b [ true ↦ Some l | false ↦ o ] ≡ Some k → (o ≡ Some k → gifts_in_note i n + gifts_on (λ j. j.notes) i rest ≤ gifts_on (λ j. j.notes) i ls)
    → gifts_in_note i n + gifts_on (λ j. j.notes) i (elim b [ true ↦ with_notes ns l ∷ ls | false ↦ l ∷ rest ]) ≤ gifts_on (λ j. j.notes) i (l ∷ ls)
unfolding gifts_on with_notes gifts_in_notes
taken_or i n ns true k l o ls rest e f g = let same : l ≡ k = cc in let notes : l.notes ≡ n ∷ ns = rw (sym same) at e in rw (notes, gifts_in_notes) (omega arith)
taken_or i n ns false k l o ls rest e f g = let a = g f in omega arith

-- the first note is taken from a link, with the gifts in it
pub taken_sum : (i a v : ℕ) (n : Note Name) (ns : List (Note Name)) (k : Link) → k.notes ≡ n ∷ ns → (ls : List Link) → link_at a v ls ≡ Some k → gifts_in_note i n + gifts_on (λ j. j.notes) i (with_link (with_notes ns) a v ls) ≤ gifts_on (λ j. j.notes) i ls
unfolding with_link link_at
taken_sum i a v n ns k e [] f = cc
taken_sum i a v n ns k e (l ∷ ls) f = taken_or i n ns (world.is_link a v l) k l (link_at a v ls) ls (with_link (with_notes ns) a v ls) e f (λ g. taken_sum i a v n ns k e ls g)

drawn_most : (b : Bool) → once b ≤ 1
unfolding once
drawn_most true = omega arith
drawn_most false = omega arith

pub under_drawn : (i : ℕ) (d : List ℕ) → drawn_of i d ≤ 1
unfolding drawn_of
under_drawn i d = drawn_most (is_in (word_of i) d)

-- of a word that was drawn
pub early : (i : ℕ) (d : List ℕ) → 1 ≤ drawn_of i d → WasDrawn d i
unfolding drawn_of once
early i d l = go (is_in (word_of i) d) refl l
  where
    go : (b : Bool) → is_in (word_of i) d ≡ b → 1 ≤ once b → WasDrawn d i
    go true e l = in_among (word_of i) d e
    go false e l = absurd (omega arith)

-- of a word that was not drawn
pub late : (i : ℕ) (d : List ℕ) → drawn_of i d ≡ 0 → WasDrawn d i → ⊥
unfolding drawn_of once
late i d e a = none (is_in (word_of i) d) (among_in (word_of i) d a) e
  where
    none : (b : Bool) → b ≡ true → once b ≡ 0 → ⊥
    none true f e = cc
    none false f e = cc

module _ (i : ℕ) where
  -- of the vats and links of a world
  abbrev pub HiddenAt : List (Vat Name) → List Link → Type 0
  HiddenAt vs ls = ((v : ℕ) (s : Vat Name) → slice_get vs v ≡ Some s → Everywhere (Shuns i v) s) × Notes (NoteOk (Spares i)) ls

  -- ---- a word that was not drawn

  other_key : (j : ℕ) (d : List ℕ) → WasDrawn d j → (WasDrawn d i → ⊥) → j ≡ i → ⊥
  other_key j d h new e = new (subst (WasDrawn d) e h)

  made_not : (us : List (Vat Name)) (d : List ℕ) → (WasDrawn d i → ⊥) → (n : Name) → WasMade us d n → IsNotOf i n
  made_not us d l (Gift h j) m = other_key j d m l
  made_not us d l other m = tt

  made_shuns : (us : List (Vat Name)) (d : List ℕ) → (WasDrawn d i → ⊥) → (v : ℕ) (b : Bit Name) → IsMade us d b → Shuns i v b
  made_shuns us d l v (Named n) m = made_not us d l n m
  made_shuns us d l v (Mail n) m = made_message us n m
  made_shuns us d l v (Entered n) m = not_other i v n (made_not us d l n m)
  made_shuns us d l v (Owns n j) m = (not_other i v n (made_not us d l n m), λ f. made_not us d l n m)
  made_shuns us d l v (Gave j) m = other_key j d m l
  made_shuns us d l v other m = tt

  shuns_spares : (v : ℕ) (b : Bit Name) → Shuns i v b → Spares i b
  shuns_spares v (Named n) h = h
  shuns_spares v (Mail n) h = h
  shuns_spares v (Gave j) h = h
  shuns_spares v other h = tt

  pub new_hidden : (script : Script) (w : World) → Stands script w → (WasDrawn w.drawn i → ⊥) → HiddenAt w.vats w.links
  new_hidden script w h l = (
    λ v s e. let k = h.vats v s e in parts_up (Had script w v s) (Shuns i v) (λ b m. made_shuns w.vats w.drawn l v b m.0) s.things s.slots s.lists s.queue s.known s.gifts s.outbox k.parts,
    all_map (λ j k. all_map (λ n m. note_up (Told script w) (Spares i) (λ b x. shuns_spares zero b (made_shuns w.vats w.drawn l zero b x.0)) n m) j.notes k) w.links h.links,
  )

  -- ---- one vat goes on

  pub hidden_next : (vs : List (Vat Name)) (v : ℕ) (t : Vat Name) (taken : List Link) → HiddenAt vs taken → Everywhere (Shuns i v) t → HiddenAt (put_at v t vs) (push_all v t.outbox taken)
  hidden_next vs v t taken h k = (
    λ u r e. vat u r (put_cases v t vs u r e),
    notes_pushed (NoteOk (Spares i)) v t.outbox taken (all_map (λ p m. note_up (Shuns i v) (Spares i) (shuns_spares v) p.note m.0) t.outbox k.outbox) h.1,
  )
    where
      vat : (u : ℕ) (r : Vat Name) → ((u ≡ v) × (t ≡ r)) ⊎ ((u ≡ v → ⊥) × (slice_get vs u ≡ Some r)) → Everywhere (Shuns i u) r
      vat u r (inl x) = let one : Everywhere (Shuns i u) t = rw (sym x.0) at k in rw x.1 at one
      vat u r (inr x) = h.0 u r x.1

  -- ---- what a note tells

  once_other : (j : ℕ) (b : Bool) → (i == j) ≡ b → once b ≡ 0 → j ≡ i → ⊥
  unfolding once
  once_other j true e f x = cc
  once_other j false e f x = no (sym (eq-eqb i j (sym x)) ∙ e)
    where
      no : true ≡ false → ⊥
      no e = cc

  mutual
    unfolding gifts_in gifts_in_all

    passed_tells : (y : Passed Name) → PassedOk (Spares i) y → gifts_in i y ≡ 0 → PassedTells (IsNotOf i) (λ h j. j ≡ i → ⊥) (λ j. j ≡ i → ⊥) y
    passed_tells (Plain y) f e = value_tells (IsNotOf i) (λ h j. j ≡ i → ⊥) (λ j. j ≡ i → ⊥) (Spares i) (λ n k. k) y f
    passed_tells (AGift c j) f e = once_other j (i == j) refl e
    passed_tells (Many ys) f e = passeds_tell ys f e

    passeds_tell : (ys : Passeds Name) → PassedsOk (Spares i) ys → gifts_in_all i ys ≡ 0 → PassedsTell (IsNotOf i) (λ h j. j ≡ i → ⊥) (λ j. j ≡ i → ⊥) ys
    passeds_tell NoMore f e = tt
    passeds_tell (More y ys) f e = (passed_tells y f.0 (omega arith), passeds_tell ys f.1 (omega arith))

  note_tells : (v : ℕ) (O : Type 0) (word : ℕ → ℕ) (n : Note Name) → NoteOk (Spares i) n → gifts_in_note i n ≡ 0 → Tells i v O word n
  unfolding gifts_in_note
  note_tells v O word (Deliver m n verb ys) f e = (f.0, f.1, passeds_tell ys f.2 e)
  note_tells v O word (Open j n) f e = f.1
  note_tells v O word (SettledTo n y) f e = (f.0, passed_tells y f.1 e)
  note_tells v O word other f e = f.0

  -- ---- a step

  given_shuns : (v : ℕ) (ps : List Program) (us : List ℕ) → AllOf (NounOk (Shuns i v)) (world.given ps us)
  unfolding world.given any_guard
  given_shuns v ps [] = tt
  given_shuns v ps (u ∷ us) = ((tt, tt), given_shuns v ps us)

  module _ (script : Script) (w : World) (v : ℕ) (s : Vat Name) (number : s.number ≡ v) (parts : Everywhere (Shuns i v) s) where
    abbrev word : ℕ → ℕ
    word = draw_word script.key

    its_roots : (p : Program) → slice_get script.vats v ≡ Some p → Shuns i v (Named (Root v)) × AllOf (NounOk (Shuns i v)) (world.given script.vats p.knows)
    its_roots p e = (tt, given_shuns v script.vats p.knows)

    more_is : (O : Type 0) → (O → WasDrawn w.drawn i) → (qs : List (Message Name)) → ((readied w (record s { queue = qs })).number ≡ v) × (O → WasDrawn (readied w (record s { queue = qs })).drawn i)
    unfolding readied
    more_is O l qs = (number, l)

    -- that no note begins
    pub alone_hides : (q t : Vat Name) (what : Step Name Name) → IsAlone what → Does script w v s q t what → Everywhere (Shuns i v) t
    alone_hides q t what o d = let sound = does_sound script w v s (Hides i v ⊥) (hides_under i v ⊥ word) (hides_makes i v ⊥ word) (Shuns i v) parts (λ qs b h. h) (more_is ⊥ (λ x. absurd x)) its_roots q t what o d in sound.parts

    -- of a note, where the word was drawn
    pub note_old : (t : Vat Name) (from : ℕ) (n : Note Name) → WasDrawn w.drawn i → NoteOk (Spares i) n → gifts_in_note i n ≡ 0 → Does script w v s s t (Receives from (read_note (names_of s) n)) → Everywhere (Shuns i v) t
    note_old t from n l f e d = let sound = arrives_sound script w v s (Hides i v (Unit {0})) (hides_under i v (Unit {0}) word) (hides_makes i v (Unit {0}) word) (Shuns i v) parts (λ qs b h. h) (more_is (Unit {0}) (λ x. l)) its_roots t from n Nothing
        (note_hides i v (Unit {0}) word from (names_of s) n (note_tells v (Unit {0}) word n f e) (λ x. tt)) tt d in sound.parts

    none_hides : (t : Vat Name) (from : ℕ) (n : Note Name) → Fine (Hides i v ⊥) Nothing (arrive (naming word v) from (read_note (names_of s) n)) nothing → Does script w v s s t (Receives from (read_note (names_of s) n)) → Everywhere (Shuns i v) t
    none_hides t from n f d = let sound = arrives_sound script w v s (Hides i v ⊥) (hides_under i v ⊥ word) (hides_makes i v ⊥ word) (Shuns i v) parts (λ qs b h. h) (more_is ⊥ (λ x. absurd x)) its_roots t from n Nothing f tt d in sound.parts

    goes_on : (t : Vat Name) (d : Done Name (Unit {0})) → AfterGives (Goes i v ⊥ word) d → d ≡ Gives tt t → Goes i v ⊥ word t
    goes_on t d h e = rw e at h

    goes_parts : (t : Vat Name) → 1 ≤ gifts_out i t.outbox → Goes i v ⊥ word t → Everywhere (Shuns i v) t
    goes_parts t l (inl h) = h.parts
    goes_parts t l (inr e) = absurd (no_less (gifts_out i t.outbox) l e)
      where
        no_less : (x : ℕ) → 1 ≤ x → x ≡ 0 → ⊥
        no_less x l e = omega arith

    none_put : gifts_out i (readied w s).outbox ≡ 0
    unfolding readied gifts_out
    none_put = refl

    -- and where it was not
    pub note_new : (t : Vat Name) (from : ℕ) (n : Note Name) → 1 ≤ gifts_out i t.outbox → NoteOk (Spares i) n → gifts_in_note i n ≡ 0 → Does script w v s s t (Receives from (read_note (names_of s) n)) → Everywhere (Shuns i v) t
    unfolding does names
    note_new t from (Elsewhere n c) l f e d = goes_parts t l (goes_on t _ (news_goes i v ⊥ word (readied w s) from (names_of s) n c f.0 (ready script w v s (Hides i v ⊥) (hides_under i v ⊥ word) (hides_makes i v ⊥ word) (Shuns i v) parts (λ qs b h. h) (more_is ⊥ (λ x. absurd x)) its_roots s.queue parts.queue) none_put) d.gives)
    note_new t from (Deliver m n verb ys) l f e d = none_hides t from (Deliver m n verb ys) (note_hides i v ⊥ word from (names_of s) (Deliver m n verb ys) (note_tells v ⊥ word (Deliver m n verb ys) f e) (λ x. x)) d
    note_new t from (Open j n) l f e d = none_hides t from (Open j n) (note_hides i v ⊥ word from (names_of s) (Open j n) (note_tells v ⊥ word (Open j n) f e) (λ x. x)) d
    note_new t from (Ask p j n) l f e d = none_hides t from (Ask p j n) (note_hides i v ⊥ word from (names_of s) (Ask p j n) (note_tells v ⊥ word (Ask p j n) f e) (λ x. x)) d
    note_new t from (SettledTo n y) l f e d = none_hides t from (SettledTo n y) (note_hides i v ⊥ word from (names_of s) (SettledTo n y) (note_tells v ⊥ word (SettledTo n y) f e) (λ x. x)) d
    note_new t from (Shorten n c j) l f e d = none_hides t from (Shorten n c j) (note_hides i v ⊥ word from (names_of s) (Shorten n c j) (note_tells v ⊥ word (Shorten n c j) f e) (λ x. x)) d

  -- ---- the gifts that pass in what is put are under words that are drawn in the step

  module _ (script : Script) (w : World) (v : ℕ) (s : Vat Name) where
    fair_out : (F : ℕ → ℕ) (q t : Vat Name) (d : Done Name (Unit {0})) → After (Fair v w.drawn F) (readied w q) d → d ≡ Gives tt t → gifts_out i t.outbox + drawn_of i w.drawn ≤ drawn_of i t.drawn
    unfolding readied gifts_out
    fair_out F q t d h e = let one : Fair v w.drawn F (readied w q) t = rw e at h in let puts = one.puts in let c = puts.count i in omega arith

    pub alone_out : (q t : Vat Name) (what : Step Name Name) → IsAlone what → Does script w v s q t what → gifts_out i t.outbox + drawn_of i w.drawn ≤ drawn_of i t.drawn
    unfolding does names
    alone_out q t (Starts tree depth root given) o d = fair_out (λ j. v) q t _ ((fair_opening v w.drawn (λ j. v) (λ j l. refl) (draw_word script.key) tree depth root given).after (readied w q)) d.gives
    alone_out q t (Takes tree depth m) o d = fair_out (λ j. v) q t _ ((fair_taking v w.drawn (λ j. v) (λ j l. refl) (draw_word script.key) tree depth m).after (readied w q)) d.gives
    alone_out q t (Receives from n) o d = absurd o
    alone_out q t (Notices u) o d = fair_out (λ j. v) q t _ ((fair_notice v w.drawn (λ j. v) (λ j l. refl) (draw_word script.key) u).after (readied w q)) d.gives

    pub note_out : (P : ℕ → ℕ) (t : Vat Name) (from : ℕ) (n : Note Name) → Provides P w.drawn from v n → Does script w v s s t (Receives from (read_note (names_of s) n)) → gifts_out i t.outbox + drawn_of i w.drawn ≤ drawn_of i t.drawn
    unfolding does names
    note_out P t from n h d = let ends = arrival_ends P w.drawn from v (draw_word script.key) (names_of s) (readied w s) n h in fair_out (later P w.drawn ends.0) s t _ ends.1 d.gives
