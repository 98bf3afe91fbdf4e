-- The next note is received as it arrives.
use Rattle.std.proofs.Common.{◌≡◌, ℕ, Bool, true, false, not, ◌&&◌, if◌then◌else◌, List, [], ◌∷◌, Option, Some, None, refl, ap, subst, ◌∙◌, length, ◌==◌}
use Rattle.std.specs.Prelude.{slice_get}
use Rattle.def_machine.specs.Values.{Name, Gift, naming, key, word_of}
use Rattle.def_machine.specs.State.{Note, Deliver, Ask, Elsewhere, Shorten, GiftEntry, Vat, is_gift, is_in}
use Rattle.def_machine.specs.Arrive.{gift_at}
use Rattle.def_machine.specs.Receive as receive
use Rattle.def_machine.specs.Receive.{Sight}
use Rattle.def_machine.proofs.Keys.{word_key}
use Rattle.law_machine.proofs.Machine.ReceivingLaws.{it_arrives}
use Rattle.def_run.specs.Draws.{draw_word}
use Rattle.def_run.specs.World.{Script, World, names, names_of, read_note, readied}
use Rattle.law_fate.specs.Name.Names.{AllOf, IsAmong, GiftOk, names_in}
use Rattle.law_fate.proofs.Name.Run.{Had}
use Rattle.law_frame.proofs.Frame.WireAsking.{GiftFits}
use Rattle.law_frame.specs.Heard.Received.{AsksAnew, TellsOfGood, NextNotesAreReceived}
use Rattle.law_frame.proofs.Heard.Bare.{found_number}
use Rattle.law_frame.proofs.Heard.Pending.{stands, wires}
use Rattle.law_frame.proofs.Heard.Steps.{Worldly}
use Rattle.law_frame.proofs.Heard.Runs.{stepped_worldly}

and_false : (b : Bool) → (b && false) ≡ false
and_false true = refl
and_false false = refl

if_false : (b : Bool) (c d : Bool) → c ≡ false → d ≡ false → (if b then c else d) ≡ false
if_false true c d e f = e
if_false false c d e f = f

found_or : (P : GiftEntry Name → Type 0) (b : Bool) (k g : GiftEntry Name) (o : Option (GiftEntry Name)) → P k → (o ≡ Some g → P g) → elim b [ true ↦ Some k | false ↦ o ] ≡ Some g → P g
found_or P true k g o h f e = subst P (let same : k ≡ g = cc in same) h
found_or P false k g o h f e = f e

all_found : (P : GiftEntry Name → Type 0) (p i : ℕ) (gs : List (GiftEntry Name)) (g : GiftEntry Name) → AllOf P gs → gift_at p i gs ≡ Some g → P g
unfolding gift_at
all_found P p i [] g h e = cc
all_found P p i (k ∷ gs) g h e = found_or P (is_gift p i k) k g (gift_at p i gs) h.0 (λ f. all_found P p i gs g h.1 f) e

module _ (script : Script) (x : World) (of : Worldly script x) (u : ℕ) (s : Vat Name) (there : slice_get x.vats u ≡ Some s) (new : IsAmong (draw_word script.key (length x.drawn)) x.drawn → ⊥) (sight : Sight Name) where
  none_hosted : (h : ℕ) (o : Option (GiftEntry Name)) → gift_at h (key h (draw_word script.key (length x.drawn))) s.gifts ≡ o → receive.is_hosted o ≡ false
  unfolding receive.is_hosted
  none_hosted h None e = refl
  none_hosted h (Some g) e = absurd (drawn (all_found (GiftOk (Had script x u s)) h (key h (draw_word script.key (length x.drawn))) s.gifts g (let k = (stands script x of.facts).vats u s there in let parts = k.parts in parts.gifts) e))
    where
      drawn : GiftOk (Had script x u s) g → ⊥
      drawn k = new (subst (λ (z : ℕ). IsAmong z x.drawn) (ap word_of (found_number h (key h (draw_word script.key (length x.drawn))) s.gifts g e) ∙ word_key h (draw_word script.key (length x.drawn))) k.1.0)

  -- no gift is had under the next word
  none_had : ((c h : ℕ) → sight.knows c h (key h (draw_word script.key (length x.drawn))) ≡ false) → (c h : ℕ) → receive.has_gift (names script u) sight c h (readied x s) ≡ false
  unfolding receive.has_gift receive.next_key readied names naming
  none_had f c h = if_false (c == s.number) _ _ (none_hosted h (gift_at h (key h (draw_word script.key (length x.drawn))) s.gifts) refl) (f c h)

  none_back : ((c h : ℕ) → sight.knows c h (key h (draw_word script.key (length x.drawn))) ≡ false) → (n : Note Name) → receive.leads_back (names script u) sight (read_note (names_of s) n) (readied x s) ≡ false
  unfolding receive.leads_back read_note
  none_back f (Elsewhere n c) = ap (λ (b : Bool). not (is_in c (readied x s).noticed) && b) (none_had f c _) ∙ and_false (not (is_in c (readied x s).noticed))
  none_back f other = refl

  number_or : (p i : ℕ) → sight.numbers (Gift u i) ≡ false → (o : Option (GiftEntry Name)) → gift_at p i s.gifts ≡ o → receive.has_number (names script u) sight o ≡ false
  unfolding receive.has_number
  number_or p i e None f = refl
  number_or p i e (Some g) f = let h = wires script x of.facts in let fits = all_found (GiftFits u (names_in s.known)) p i s.gifts g (h.gifts u s there) f in
      ap sight.numbers (fits.0 ∙ ap (λ j. Gift u j) (found_number p i s.gifts g f)) ∙ e

  tells_new : (v : ℕ) (n : Note Name) → AsksAnew sight u n → (TellsOfGood n → receive.tells_nothing (names script u) sight v (read_note (names_of s) n) (readied x s) ≡ false) → receive.tells_nothing (names script u) sight v (read_note (names_of s) n) (readied x s) ≡ false
  unfolding receive.tells_nothing read_note readied
  tells_new v (Deliver d n verb ys) a f = refl
  tells_new v (Ask p i n) a f = number_or p i a (gift_at p i s.gifts) refl
  tells_new v (Shorten n c i) a f = refl
  tells_new v other a f = f tt

pub received_arrive : NextNotesAreReceived
received_arrive script once w x es k follow opened stepped new v u s there other l at uncut n ns head sight sees told = let of = stepped_worldly script once w x es k follow opened stepped in
    it_arrives (names script u) sight v (read_note (names_of s) n) (readied x s) (tells_new script x of u s there new sight v n sees.asked told) (none_back script x of u s there new sight sees.unknown n)
