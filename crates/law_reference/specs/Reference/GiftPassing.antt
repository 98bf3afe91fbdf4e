-- Gifts in the notes under way: how often one under a key passes, and who is the provider of a word.
use Rattle.std.specs.Prelude.{◌≡◌, ℕ, ◌+◌, ◌≤◌, List, [], ◌∷◌, Some, slice_get, ◌==◌}
use Rattle.def_machine.specs.Values.{Name, word_of, provider_of}
use Rattle.def_machine.specs.State.{Passed, Passeds, Plain, AGift, Many, NoMore, More, Note, Deliver, Open, Ask, SettledTo, Elsewhere, Shorten, GiftEntry, Vat, is_in}
use Rattle.def_run.specs.World.{Link, World}
use Rattle.law_fate.specs.Name.Names.{WasDrawn}
use Rattle.law_fate.specs.Fates.Fate.{once}
use Rattle.law_fate.specs.Fates.Lasting.{Each}
use Rattle.law_fate.specs.Fates.FateRuns.{InRuns}

-- ---- how often a gift under a key passes

unfoldable mutual
  pub gifts_in : ℕ → Passed Name → ℕ
  gifts_in i (Plain y) = 0
  gifts_in i (AGift h j) = once (i == j)
  gifts_in i (Many ys) = gifts_in_all i ys

  pub gifts_in_all : ℕ → Passeds Name → ℕ
  gifts_in_all i NoMore = 0
  gifts_in_all i (More y ys) = gifts_in i y + gifts_in_all i ys

unfoldable pub gifts_in_note : ℕ → Note Name → ℕ
gifts_in_note i (Deliver m n verb ys) = gifts_in_all i ys
gifts_in_note i (SettledTo n y) = gifts_in i y
gifts_in_note i _ = 0

unfoldable pub gifts_in_notes : ℕ → List (Note Name) → ℕ
gifts_in_notes i [] = 0
gifts_in_notes i (n ∷ ns) = gifts_in_note i n + gifts_in_notes i ns

-- in that part of each link
unfoldable pub gifts_on : (Link → List (Note Name)) → ℕ → List Link → ℕ
gifts_on part i [] = 0
gifts_on part i (l ∷ ls) = gifts_in_notes i (part l) + gifts_on part i ls

-- in all notes that were put
abbrev pub gifts_put : ℕ → List Link → ℕ
gifts_put i ls = gifts_on (λ l. l.log) i ls

-- in all notes under way
abbrev pub gifts_under_way : ℕ → List Link → ℕ
gifts_under_way i ls = gifts_on (λ l. l.notes) i ls

-- one where the word of key i is among those
unfoldable pub drawn_of : ℕ → List ℕ → ℕ
drawn_of i ds = once (is_in (word_of i) ds)

-- Under each key of a word that was drawn one gift at most was put in all notes, and one at most is under way; and under no other key.
-- And those that were put under one word are under one key: so of each draw one gift at most was put.
abbrev pub GiftsPassOnce : Type 0
GiftsPassOnce = InRuns (λ w. ((i : ℕ) → (gifts_put i w.links ≤ drawn_of i w.drawn) × (gifts_under_way i w.links ≤ drawn_of i w.drawn))
    × ((i j : ℕ) → 1 ≤ gifts_put i w.links → 1 ≤ gifts_put j w.links → word_of i ≡ word_of j → i ≡ j))

-- ---- providers

-- Where P tells the provider of each word and d are the words drawn:
module _ (P : ℕ → ℕ) (d : List ℕ) where
  -- the word of key i was drawn, and p is its provider, as the key tells too
  abbrev pub IsProvidedBy : ℕ → ℕ → Type 0
  IsProvidedBy i p = WasDrawn d i × (P (word_of i) ≡ p) × (provider_of i ≡ p)

  -- in a note from v to w: a gift that passes is of neither of the two, and v provides it
  abbrev mutual
    pub PassesFrom : ℕ → ℕ → Passed Name → Type 0
    PassesFrom v w (Plain y) = Unit {0}
    PassesFrom v w (AGift h i) = IsProvidedBy i v × (h ≡ v → ⊥) × (h ≡ w → ⊥)
    PassesFrom v w (Many ys) = AllPassFrom v w ys

    pub AllPassFrom : ℕ → ℕ → Passeds Name → Type 0
    AllPassFrom v w NoMore = Unit {0}
    AllPassFrom v w (More y ys) = PassesFrom v w y × AllPassFrom v w ys

  -- So it is with what passes; v provides what it opens; who asks names the provider; and who wants an object as a gift asks the provider.
  abbrev pub Provides : ℕ → ℕ → Note Name → Type 0
  Provides v w (Deliver m n verb ys) = AllPassFrom v w ys
  Provides v w (Open i n) = IsProvidedBy i v
  Provides v w (Ask p i n) = IsProvidedBy i p
  Provides v w (SettledTo n y) = PassesFrom v w y
  Provides v w (Elsewhere n c) = Unit {0}
  Provides v w (Shorten n c i) = IsProvidedBy i w

  -- a gift at its host is entered with its provider
  abbrev pub IsProvided : GiftEntry Name → Type 0
  IsProvided g = IsProvidedBy g.number g.provider

-- so are all notes that were put on a link, and all that are under way on it
abbrev pub LinkProvides : (ℕ → ℕ) → List ℕ → Link → Type 0
LinkProvides P d l = Each (Provides P d l.from l.to) l.log × Each (Provides P d l.from l.to) l.notes

-- there is one provider for each word, of whom all notes and all gifts at their hosts tell
abbrev pub HasProviders : World → Type 0
HasProviders w = (P : ℕ → ℕ) × Each (LinkProvides P w.drawn) w.links
    × ((v : ℕ) (s : Vat Name) → slice_get w.vats v ≡ Some s → Each (IsProvided P w.drawn) s.gifts)

abbrev pub EachDrawHasOneProvider : Type 0
EachDrawHasOneProvider = InRuns HasProviders

-- opens the definitions of this file
unfoldable pub opened_passing : Unit {0}
unfolding gifts_in gifts_in_all gifts_in_note gifts_in_notes gifts_on drawn_of
opened_passing = tt
