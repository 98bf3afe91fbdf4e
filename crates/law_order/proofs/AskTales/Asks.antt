-- A note that asks for a gift is carried: by small steps, where the receiver did not notice the provider, where the gift stands there and was opened, and where it comes to be and breaks.
use Rattle.std.proofs.Common.{◌≡◌, ℕ, Bool, true, false, [], ◌∷◌, ◌++◌, Option, Some, None, if◌then◌else◌, refl, sym, ap, subst, ◌∙◌, ◌⊎◌, inl, inr, length, codes}
use Rattle.def_machine.specs.Values.{Name, Gift, Naming, IsGift}
use Rattle.def_machine.specs.State.{Standing, Settled, GiftEntry, Ask, Vat, Done, Gives, Act, ◌>>=◌, ◌>>◌, and_then, give, look, come, new_gift, begun, is_in}
use Rattle.def_machine.specs.Refs.{entry_of, standing_of}
use Rattle.def_machine.specs.Arrive as arrive
use Rattle.def_machine.specs.Arrive.{gift_at, opened_in}
use Rattle.def_run.specs.World.{Script, World, names, readied}
use Rattle.law_machine.specs.Machine.Steps.{After}
use Rattle.law_fate.proofs.Fates.Leads.{Leads, Ends, leads_bind, leads_then, leads_give, leads_look}
use Rattle.law_order.specs.Ordering.Steps.{Ready, StaysReady}
use Rattle.law_order.proofs.Carries.Breaking.{breaks}
use Rattle.law_order.specs.Asks.Asks.{Bears}
use Rattle.law_order.proofs.Asks.Asking.{asks, tell_now}
use Rattle.law_order.specs.History.Tells.{Tale, over, then_on}
use Rattle.law_order.specs.Tales.Middle.{middle, MovesNone}
use Rattle.law_order.proofs.Tales.Arriving.{head_of}
use Rattle.law_order.proofs.Tales.Middle.{growing_is_small}
use Rattle.law_order.proofs.AskTales.Breaking.{breaking_small}
use Rattle.law_order.proofs.AskTales.Orphans as orphans
use Rattle.law_order.proofs.Tales.Stilling.{Any, base, still_come, still_gift, still_to_tell, still_inform}

if_both : (c : Bool) (m n : Act Name (Unit {0})) (t : Vat Name) → m t ≡ Gives tt t → n t ≡ Gives tt t → (if c then m else n) t ≡ Gives tt t
if_both true m n t e f = e
if_both false m n t e f = f

module _ (K : Naming Name Name) where
  abbrev R : Vat Name → Vat Name → Type 0
  R = MovesNone K

  asker_told : (n : Name) (to : ℕ) (t : Standing Name) → Leads Any R (arrive.tell_asker K n to t)
  unfolding arrive.tell_asker
  asker_told n to (Settled y) = still_inform K n to
  asker_told n to other = still_to_tell K to n

  abbrev Tells : Name → ℕ → Act Name (Unit {0})
  Tells n to = look (λ t. standing_of K t.known n) >>= (λ t. arrive.tell_asker K n to t)

  tells_still : (n : Name) (to : ℕ) → Leads Any R (Tells n to)
  tells_still n to = leads_bind Any R (base K) (leads_look Any R (base K) _) (λ t. asker_told n to t)

  gift_or_new : (v p i : ℕ) (o : Option (GiftEntry Name)) → Leads Any R (arrive.gift_or_new K v p i o)
  unfolding arrive.gift_or_new
  gift_or_new v p i (Some g) = leads_give Any R (base K) g.name
  gift_or_new v p i None = leads_bind Any R (base K) (still_come K _ v) (λ n. leads_then Any R (base K) (still_gift K n p i) (leads_give Any R (base K) n))

  -- no gift breaks, as its provider was not noticed or it was opened
  abbrev Spared : ℕ → ℕ → Vat Name → Type 0
  Spared p i t = (is_in p t.noticed ≡ false) ⊎ (opened_in (gift_at p i t.gifts) ≡ true)

  orphan_none : (p i : ℕ) (n : Name) (t : Vat Name) → Spared p i t → arrive.break_orphan K p i n t ≡ Gives tt t
  unfolding arrive.break_orphan arrive.break_unopened ◌>>=◌ and_then look give
  orphan_none p i n t (inl e) = ap (λ c. (if c then arrive.break_unopened K n (opened_in (gift_at p i t.gifts)) else (λ s. Gives tt s)) t) e
  orphan_none p i n t (inr e) = ap (λ c. (if is_in p t.noticed then arrive.break_unopened K n c else (λ s. Gives tt s)) t) e ∙ if_both (is_in p t.noticed) (arrive.break_unopened K n true) (λ s. Gives tt s) t refl refl

  -- as the gift is there, or came to be, only the asker is told
  asked_by : (from p i : ℕ) (n : Name) (s t : Vat Name) → arrive.have_gift K p i s ≡ Gives n t → Spared p i t → arrive.arrive_ask K from p i s ≡ Tells n from t
  unfolding arrive.arrive_ask ◌>>=◌ ◌>>◌ and_then
  asked_by from p i n s t e h = ap (λ d. and_then d (λ m. λ q. and_then (arrive.break_orphan K p i m q) (λ x. Tells m from))) e ∙ ap (λ d. and_then d (λ x. Tells n from)) (orphan_none p i n t h)

  had_still : (p i : ℕ) (n : Name) (s t : Vat Name) → arrive.have_gift K p i s ≡ Gives n t → R s t
  unfolding arrive.have_gift ◌>>=◌ and_then look
  had_still p i n s t e = subst (λ d. Ends Any R s d) e ((gift_or_new s.number p i (gift_at p i s.gifts)).after s)

  tells_end : (n : Name) (to : ℕ) (s t : Vat Name) → Tells n to s ≡ Gives tt t → R s t
  tells_end n to s t e = subst (λ d. Ends Any R s d) e ((tells_still n to).after s)

noticed_new : (K : Naming Name Name) (p i : ℕ) (n : Name) (s t : Vat Name) → arrive.gift_or_new K s.number p i None s ≡ Gives n t → t.noticed ≡ s.noticed
unfolding arrive.gift_or_new ◌>>=◌ ◌>>◌ and_then come new_gift give
noticed_new K p i n s t e = let m : Name = K.made (IsGift s.number i) (length s.known) in
    let r : Vat Name = record s { known = s.known ++ begun m s.number ∷ []; gifts = s.gifts ++ record { name = m; provider = p; number = i; opened = false } ∷ [] } in
    let same : r ≡ t = cc in ap (λ (z : Vat Name). z.noticed) (sym same)

abbrev IsGiven : Done Name Name → Type 0
IsGiven (Gives n t) = Unit {0}
IsGiven other = ⊥

-- what was noticed before a gift comes to be
had_noticed : (K : Naming Name Name) (p i : ℕ) (n : Name) (s t : Vat Name) → arrive.have_gift K p i s ≡ Gives n t → t.noticed ≡ s.noticed
unfolding arrive.have_gift arrive.gift_or_new ◌>>=◌ ◌>>◌ and_then look give
had_noticed K p i n s t e = go (gift_at p i s.gifts) e
  where
    go : (o : Option (GiftEntry Name)) → arrive.gift_or_new K s.number p i o s ≡ Gives n t → t.noticed ≡ s.noticed
    go (Some g) f = let same : s ≡ t = cc in ap (λ (z : Vat Name). z.noticed) (sym same)
    go None f = noticed_new K p i n s t f

had_there : (K : Naming Name Name) (p i : ℕ) (s : Vat Name) (g : GiftEntry Name) → gift_at p i s.gifts ≡ Some g → arrive.have_gift K p i s ≡ Gives g.name s
unfolding arrive.have_gift arrive.gift_or_new ◌>>=◌ and_then look give
had_there K p i s g e = ap (λ o. arrive.gift_or_new K s.number p i o s) e

-- what did not give did not go on
given_of : (d : Done Name Name) (f : Name → Act Name (Unit {0})) (t : Vat Name) → and_then d f ≡ Gives tt t → IsGiven d
unfolding and_then
given_of (Gives m q) f t e = tt
given_of other f t e = cc

not_given : (K : Naming Name Name) (from p i : ℕ) (s t : Vat Name) (d : Done Name Name) → arrive.have_gift K p i s ≡ d → arrive.arrive_ask K from p i s ≡ Gives tt t → IsGiven d
unfolding arrive.arrive_ask ◌>>=◌ ◌>>◌ and_then
not_given K from p i s t d e f = subst IsGiven e (given_of (arrive.have_gift K p i s) (λ n. λ q. and_then (arrive.break_orphan K p i n q) (λ x. Tells K n from)) t f)

-- ---- in a world

module _ (script : Script) (honest : ℕ → Bool) (w : World) (a b p i : ℕ) (n : Name) (h : Bears w a b (Ask p i n)) (ready : Ready script honest w b (readied w h.vat)) where
  abbrev K0 : Naming Name Name
  K0 = names script b

  abbrev S : Vat Name
  S = readied w h.vat

  small : (k : ℕ) (t : Vat Name) → StaysReady script honest w b S t → MovesNone K0 S t → Tale script honest (middle w b (head_of script honest w a b (Ask p i n) h k) S) (middle w b (head_of script honest w a b (Ask p i n) h k) t)
  small k t g m = then_on (growing_is_small script honest w b (head_of script honest w a b (Ask p i n) h k) S t (g ready).1 m) over

  -- the provider was not noticed
  pub live : is_in p S.noticed ≡ false → (k : ℕ) (t : Vat Name) → arrive.arrive_ask K0 a p i S ≡ Gives tt t → Tale script honest (middle w b (head_of script honest w a b (Ask p i n) h k) S) (middle w b (head_of script honest w a b (Ask p i n) h k) t)
  live e k t f = small k t (subst (λ d. After (StaysReady script honest w b) S d) f (asks script honest w b a p i S ready.number e)) (moves (arrive.have_gift K0 p i S) refl)
    where
      moves : (d : Done Name Name) → arrive.have_gift K0 p i S ≡ d → MovesNone K0 S t
      moves (Gives m q) g = let noticed = had_noticed K0 p i m S q g in
          (base K0).trans (had_still K0 p i m S q g) (tells_end K0 m a q t (sym (asked_by K0 a p i m S q g (inl (ap (λ ws. is_in p ws) noticed ∙ e))) ∙ f))
      moves other g = absurd (not_given K0 a p i S t other g f)

  -- the gift stands there, and was opened
  pub stood : (g : GiftEntry Name) → gift_at p i S.gifts ≡ Some g → g.opened ≡ true → (k : ℕ) (t : Vat Name) → arrive.arrive_ask K0 a p i S ≡ Gives tt t → Tale script honest (middle w b (head_of script honest w a b (Ask p i n) h k) S) (middle w b (head_of script honest w a b (Ask p i n) h k) t)
  unfolding opened_in
  stood g found e k t f = small k t (subst (λ d. After (StaysReady script honest w b) S d) tells ((tell_now script honest w b g.name a).after S)) (tells_end K0 g.name a S t tells)
    where
      tells : Tells K0 g.name a S ≡ Gives tt t
      tells = sym (asked_by K0 a p i g.name S S (had_there K0 p i S g found) (inr (ap (λ o. opened_in o) found ∙ e))) ∙ f

  -- the provider was noticed, and the gift comes to be: so it breaks
  module _ (gone : is_in p S.noticed ≡ true) (none : gift_at p i S.gifts ≡ None) (unknown : entry_of K0 S.known (Gift b i) ≡ None) where
    abbrev It : Name
    It = orphans.It script honest w b p i S ready gone none unknown

    abbrev Has : Vat Name
    Has = orphans.Has script honest w b p i S ready gone none unknown

    abbrev Then : Vat Name
    Then = orphans.Then script honest w b p i S ready gone none unknown

    -- only the asker is told after that
    told_then : arrive.have_gift K0 p i S ≡ Gives It Has → arrive.break_orphan K0 p i It Has ≡ Gives tt Then → arrive.arrive_ask K0 a p i S ≡ Tells K0 It a Then
    unfolding arrive.arrive_ask ◌>>=◌ ◌>>◌ and_then
    told_then e f = ap (λ d. and_then d (λ m. λ q. and_then (arrive.break_orphan K0 p i m q) (λ x. Tells K0 m a))) e ∙ ap (λ d. and_then d (λ x. Tells K0 It a)) f

    pub came : (k : ℕ) (t : Vat Name) → arrive.arrive_ask K0 a p i S ≡ Gives tt t → Tale script honest (middle w b (head_of script honest w a b (Ask p i n) h k) S) (middle w b (head_of script honest w a b (Ask p i n) h k) t)
    came k t f =
        let head = head_of script honest w a b (Ask p i n) h k in
        let had = orphans.had_new script honest w b p i S ready gone none unknown in
        let fresh = orphans.fresh script honest w b p i S ready gone none unknown in
        let alone = orphans.alone script honest w b p i S ready gone none unknown in
        let grown = orphans.has_new script honest w b p i S ready gone none unknown ready in
        let tells : Tells K0 It a Then ≡ Gives tt t = sym (told_then had (orphans.orphaned script honest w b p i S ready gone none unknown)) ∙ f in
        let broken = breaks script honest w b h.vat h.there Has It (codes "partition") fresh alone tt (λ o. o) grown.0 in
        let told : StaysReady script honest w b Then t = subst (λ d. After (StaysReady script honest w b) Then d) tells ((tell_now script honest w b It a).after Then) in
        then_on (growing_is_small script honest w b head S Has grown.1 (had_still K0 p i It S Has had))
        (then_on (breaking_small script honest w b h.vat h.there head Has It (codes "partition") fresh alone tt (λ o. o) grown.0)
        (then_on (growing_is_small script honest w b head Then t (told broken.0).1 (tells_end K0 It a Then t tells)) over))
