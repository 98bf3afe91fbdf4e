-- In every world of a run no gift that a vat knows, and none that a note names, prints by its word.
use Rattle.std.proofs.Common.{◌≡◌, ℕ, zero, ◌<◌, ◌≤◌, Bool, true, false, not, List, [], ◌∷◌, ◌++◌, Some, refl, sym, ap, subst, ◌∙◌, inl, inr, length}
use Rattle.std.specs.Prelude.{slice_get}
use Rattle.std.proofs.lemmas.Bool.{lt-leb}
use Rattle.def_machine.specs.Values.{Value, Ref, Name, Gift, word_of, provider_of}
use Rattle.def_machine.specs.State.{Passed, Passeds, Plain, AGift, Many, NoMore, More, Note, Deliver, Open, Ask, SettledTo, Elsewhere, Shorten, Vat}
use Rattle.def_run.specs.Marks.{is_spelled_out}
use Rattle.def_run.specs.World as world
use Rattle.def_run.specs.World.{Script, Program, Entry, Link, World, Goes as Going}
use Rattle.law_fate.specs.Fates.Lasting.{Each}
use Rattle.law_fate.specs.Fates.WholeFateRuns.{KnowsVats}
use Rattle.law_fate.specs.Name.Names.{Bit, Named, Drew, AllOf, IsAmong, WasDrawn, WasMade, IsMade, ValueOk, PassedOk, PassedsOk, NoteOk, names_in}
use Rattle.law_fate.specs.Name.Runs.{KnowsOnce}
use Rattle.law_fate.proofs.Name.Facts.{all_map, note_up}
use Rattle.law_fate.proofs.Name.Run.{Told}
use Rattle.law_reference.specs.Reference.Cuts.{NoticesFollowCuts}
use Rattle.law_reference.specs.Reference.GiftPassing.{PassesFrom, AllPassFrom, Provides}
use Rattle.law_reference.specs.Reference.Hiding.{IsNotOf, Spares}
use Rattle.law_reference.specs.Reference.Standing.{IsEntered}
use Rattle.law_reference.proofs.Reference.ApartWhole.{own_stand}
use Rattle.law_reference.proofs.Reference.AskHolds.{opened_past, stepped_past}
use Rattle.law_reference.proofs.Reference.AskRuns.{Past}
use Rattle.law_reference.proofs.Reference.GiftLinks.{LinkTells}
use Rattle.law_reference.proofs.Reference.LegRuns.{stands_of}
use Rattle.law_uses.proofs.ShownApart.Provided.{Keyed}
use Rattle.law_uses.proofs.ShownApart.Shown.{gift_provided}
use Rattle.law_instance.proofs.Shown.Keys.{opened_keyed, stepped_keyed}

-- it does not print by its word
unfoldable pub is_low : Name → Bool
is_low (Gift h i) = not (is_spelled_out i)
is_low other = true

abbrev pub IsLow : Name → Type 0
IsLow n = is_low n ≡ true

-- so each name in a note, and each key that shows
abbrev pub LowBit : Bit Name → Type 0
LowBit (Named n) = IsLow n
LowBit (Drew i) = is_spelled_out i ≡ false
LowBit other = Unit {0}

key_low : (i : ℕ) → provider_of i < 32 → is_spelled_out i ≡ false
unfolding is_spelled_out
key_low i h = lt-leb 32 (provider_of i) h

differ : (b : Bool) → b ≡ true → b ≡ false → ⊥
differ b e f = cc

gift_low : (h i : ℕ) → is_spelled_out i ≡ false → IsLow (Gift h i)
unfolding is_low
gift_low h i e = ap not e

pub record Low (w : World) : Type 0 where
  pub known : (v : ℕ) (s : Vat Name) → slice_get w.vats v ≡ Some s → AllOf IsLow (names_in s.known)
  pub notes : AllOf (λ (l : Link). AllOf (NoteOk LowBit) l.notes) w.links

module _ (script : Script) (w : World) (past : Past script w) (own : (v i : ℕ) (s : Vat Name) → slice_get w.vats v ≡ Some s → IsAmong (Gift v i) (names_in s.known) → IsEntered i s.gifts) (P : ℕ → ℕ) (few : (x : ℕ) → P x < 32) (h : Keyed P w) where
  -- ---- what is known

  told_low : (i : ℕ) → P (word_of i) ≡ provider_of i → is_spelled_out i ≡ false
  told_low i e = key_low i (subst (λ q. q < 32) e (few (word_of i)))

  known_name : (v : ℕ) (s : Vat Name) → slice_get w.vats v ≡ Some s → (n : Name) → IsAmong n (names_in s.known) → IsLow n
  unfolding is_low
  known_name v s there (Gift g i) a = gift_low g i (told_low i ((gift_provided script w past own P h v g i s there a).1))
  known_name v s there other a = refl

  all_known : (ns : List Name) → ((n : Name) → IsAmong n ns → IsLow n) → AllOf IsLow ns
  all_known [] f = tt
  all_known (n ∷ ns) f = (f n (inl refl), all_known ns (λ m a. f m (inr a)))

  -- ---- what notes name

  -- no gift under a key that is too high is named
  abbrev Spared : (ℕ → Type 0) → Type 0
  Spared Q = (i : ℕ) → is_spelled_out i ≡ true → WasDrawn w.drawn i → Q i

  name_low : (n : Name) → WasMade w.vats w.drawn n → Spared (λ i. IsNotOf i n) → IsLow n
  unfolding is_low
  name_low (Gift g i) made f = go (is_spelled_out i) refl
    where
      go : (b : Bool) → is_spelled_out i ≡ b → not b ≡ true
      go false e = refl
      go true e = absurd (f i e made refl)
  name_low other made f = refl

  value_low : (y : Value Name) → ValueOk (IsMade w.vats w.drawn) y → Spared (λ i. ValueOk (Spares i) y) → ValueOk LowBit y
  value_low (Ref n) made f = name_low n made f
  value_low other made f = made

  mutual
    passed_low : (v u : ℕ) (y : Passed Name) → PassedOk (IsMade w.vats w.drawn) y → Spared (λ i. PassedOk (Spares i) y) → PassesFrom P w.drawn v u y → PassedOk LowBit y
    passed_low v u (Plain y) made f o = value_low y made f
    passed_low v u (AGift g i) made f o = let provided = o.0 in (tt, told_low i (provided.1 ∙ sym provided.2))
    passed_low v u (Many ys) made f o = all_low v u ys made f o

    all_low : (v u : ℕ) (ys : Passeds Name) → PassedsOk (IsMade w.vats w.drawn) ys → Spared (λ i. PassedsOk (Spares i) ys) → AllPassFrom P w.drawn v u ys → PassedsOk LowBit ys
    all_low v u NoMore made f o = tt
    all_low v u (More y ys) made f o = (passed_low v u y made.0 (λ i e a. (f i e a).0) o.0, all_low v u ys made.1 (λ i e a. (f i e a).1) o.1)

  note_low : (v u : ℕ) (n : Note Name) → NoteOk (IsMade w.vats w.drawn) n → Spared (λ i. NoteOk (Spares i) n) → Provides P w.drawn v u n → NoteOk LowBit n
  note_low v u (Deliver m n verb ys) made f o = (tt, name_low n made.1 (λ i e a. (f i e a).1), all_low v u ys made.2 (λ i e a. (f i e a).2) o)
  note_low v u (Open j n) made f o = (told_low j (o.1 ∙ sym o.2), name_low n made.1 (λ i e a. (f i e a).1))
  note_low v u (Ask p j n) made f o = (tt, name_low n made.1 (λ i e a. (f i e a).1))
  note_low v u (SettledTo n y) made f o = (name_low n made.0 (λ i e a. (f i e a).0), passed_low v u y made.1 (λ i e a. (f i e a).1) o)
  note_low v u (Elsewhere n c) made f o = (name_low n made.0 (λ i e a. (f i e a).0), tt)
  note_low v u (Shorten n c j) made f o = (name_low n made.0 (λ i e a. (f i e a).0), told_low j (o.1 ∙ sym o.2))

  notes_low : (v u : ℕ) (ns : List (Note Name)) → AllOf (NoteOk (IsMade w.vats w.drawn)) ns → Spared (λ i. AllOf (NoteOk (Spares i)) ns) → Each (Provides P w.drawn v u) ns → AllOf (NoteOk LowBit) ns
  notes_low v u [] made f o = tt
  notes_low v u (n ∷ ns) made f o = (note_low v u n made.0 (λ i e a. (f i e a).0) o.0, notes_low v u ns made.1 (λ i e a. (f i e a).1) o.1)

  links_low : (ls : List Link) → AllOf (λ (l : Link). AllOf (NoteOk (IsMade w.vats w.drawn)) l.notes) ls → Spared (λ i. AllOf (λ (l : Link). AllOf (NoteOk (Spares i)) l.notes) ls) → Each (LinkTells P w.drawn) ls → AllOf (λ (l : Link). AllOf (NoteOk LowBit) l.notes) ls
  links_low [] made f o = tt
  links_low (l ∷ ls) made f o = (notes_low l.from l.to l.notes made.0 (λ i e a. (f i e a).0) o.0.1, links_low ls made.1 (λ i e a. (f i e a).1) o.1)

  pub world_low : Low w
  world_low = record {
    known = λ v s there. all_known (names_in s.known) (known_name v s there);
    notes = links_low w.links (all_map (λ l i. all_map (λ n j. note_up (Told script w) (IsMade w.vats w.drawn) (λ b k. k.0) n j) l.notes i) w.links (let stands = stands_of script w past.0 in stands.links))
        (λ i e a. (h.hidden i (λ same. high_low i e (subst (λ q. q < 32) same (few (word_of i)))) a).1) h.links;
  }
    where
      high_low : (i : ℕ) → is_spelled_out i ≡ true → provider_of i < 32 → ⊥
      high_low i e low = differ (is_spelled_out i) e (key_low i low)

module _ (script : Script) (knows : KnowsVats script) (few : length script.vats ≤ 16) (once : KnowsOnce script) where
  pub opened_low : (ps rest : List Program) (w : World) → script.vats ≡ ps ++ rest → world.open_from script zero ps (world.begins script) ≡ Going w → Low w
  opened_low ps rest w i e = let k = opened_keyed script knows few once ps rest w i e in world_low script w (opened_past script once ps rest w i e) ((own_stand script once).0 ps rest w i e) k.0 k.1 k.2

  pub stepped_low : (w x : World) (es : List Entry) (k : ℕ) → NoticesFollowCuts es → world.open_from script zero script.vats (world.begins script) ≡ Going w → world.steps_from script es k w ≡ Going x → Low x
  stepped_low w x es n c o e = let k = stepped_keyed script knows few once w x es n o e in world_low script x (stepped_past script once w x es n o e) ((own_stand script once).1 w x es n c o e) k.0 k.1 k.2
