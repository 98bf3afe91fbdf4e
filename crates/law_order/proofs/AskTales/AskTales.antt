-- In every run a note that asks for a gift is carried by small steps.
use Rattle.std.proofs.Common.{◌≡◌, ℕ, Bool, true, false, [], ◌∷◌, Option, Some, None, refl, sym, subst, inl}
use Rattle.def_machine.specs.Values.{Name, Gift}
use Rattle.def_machine.specs.State.{Ask, GiftEntry, Vat, Gives, is_in}
use Rattle.def_machine.specs.Refs.{entry_of}
use Rattle.def_machine.specs.Arrive as arrive
use Rattle.def_machine.specs.Arrive.{gift_at}
use Rattle.def_run.specs.World.{Script, Carry, World, names, read_note, readied}
use Rattle.law_fate.specs.Name.Names.{IsAmong}
use Rattle.law_reference.proofs.Reference.AskHolds.{notices_front}
use Rattle.law_order.specs.Ordering.Steps.{Ready}
use Rattle.law_reference.specs.Reference.Cuts.{NoticesFollowCuts}
use Rattle.law_order.proofs.Runs.Beginnings.{vats_are_ready}
use Rattle.law_order.specs.Asks.Asks.{Bears}
use Rattle.law_order.proofs.Asked.Asked.{asked_for_are_opened}
use Rattle.law_order.proofs.Asked.AskRuns.{found_among, asked_for_are_new}
use Rattle.law_order.specs.History.Tells.{Tale}
use Rattle.law_order.specs.Tales.Middle.{middle}
use Rattle.law_order.proofs.Tales.Arriving.{head_of, silent_tale}
use Rattle.law_order.specs.AskTales.Tales.{AsksAreTales}
use Rattle.law_order.proofs.AskTales.Asks.{live, stood, came}

module _ (script : Script) (honest : ℕ → Bool) (x : World) (a b p i : ℕ) (n : Name) (h : Bears x a b (Ask p i n)) (ready : Ready script honest x b (readied x h.vat)) (opened : (g : GiftEntry Name) → IsAmong g h.vat.gifts → g.number ≡ i → g.opened ≡ true)
    (new : gift_at p i h.vat.gifts ≡ None → entry_of (names script b) h.vat.known (Gift b i) ≡ None) where
  abbrev Inner : ℕ → Vat Name → Type 0
  Inner k t = Tale script honest (middle x b (head_of script honest x a b (Ask p i n) h k) (readied x h.vat)) (middle x b (head_of script honest x a b (Ask p i n) h k) t)

  inner : (c : Bool) → is_in p h.vat.noticed ≡ c → (o : Option (GiftEntry Name)) → gift_at p i h.vat.gifts ≡ o → (k : ℕ) (t : Vat Name) → arrive.arrive_ask (names script b) a p i (readied x h.vat) ≡ Gives tt t → Inner k t
  unfolding readied
  inner false e o g k t f = live script honest x a b p i n h ready e k t f
  inner true e (Some j) g k t f = let found = found_among p i h.vat.gifts j g in stood script honest x a b p i n h ready j g (opened j found.0 found.1) k t f
  inner true e None g k t f = came script honest x a b p i n h ready e g (new g) k t f

pub asks_are_tales : AsksAreTales
unfolding arrive.arrive read_note
asks_are_tales script knows vats cuts honest all p i n x y a b g h =
    let w = g.opened in
    let front : NoticesFollowCuts g.es = notices_front script [] g.es (Carry a b ∷ g.rest) (subst NoticesFollowCuts g.split cuts) in
    let ready = (vats_are_ready script knows).1 w x g.es 1 g.opens g.before honest b h.vat h.vat.queue h.there in
    let asked : IsAmong (Ask p i n) h.link.notes = subst (λ ms. IsAmong (Ask p i n) ms) (sym h.first) (inl refl) in
    let opened : (j : GiftEntry Name) → IsAmong j h.vat.gifts → j.number ≡ i → j.opened ≡ true = λ j c d. (asked_for_are_opened script knows).1 w x g.es 1 g.opens g.before a b h.link p i n h.found asked b h.vat j h.there c d in
    let new : gift_at p i h.vat.gifts ≡ None → entry_of (names script b) h.vat.known (Gift b i) ≡ None = asked_for_are_new script knows w x g.es 1 a b p i n front g.opens g.before h in
    silent_tale script honest x a b (Ask p i n) h tt g.number y (λ t e. inner script honest x a b p i n h ready opened new (is_in p h.vat.noticed) refl (gift_at p i h.vat.gifts) refl g.number t e) g.goes
