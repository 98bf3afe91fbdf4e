-- Sends and reactions in the middle of a turn are made of small steps, and keep what more is kept.
use Rattle.std.proofs.Common.{◌≡◌, ℕ, Bool, true, false, List, Some, refl, ◌⊎◌, inl, inr}
use Rattle.std.specs.Prelude.{slice_get}
use Rattle.def_machine.specs.Values.{Words, Value, Name, Naming}
use Rattle.def_machine.specs.State.{Message, Known, Vat, Gives, Act}
use Rattle.def_machine.specs.Refs as refs
use Rattle.def_machine.specs.Refs.{Place, Gone, entry_of}
use Rattle.def_run.specs.Draws.{draw_word}
use Rattle.def_run.specs.World.{Script, Event, World, names}
use Rattle.law_machine.specs.Machine.Laws.{SameLists, SameDraws, SettledStays}
use Rattle.law_machine.proofs.Machine.Keeps.{Keeps, IsKept}
use Rattle.law_machine.proofs.Machine.RefsKeeps.{keeps_send, keeps_send_only, keeps_react}
use Rattle.law_fate.specs.Name.Names.{IsAmong, ValueOk, ValuesOk}
use Rattle.law_fate.proofs.Name.Care.{Sound}
use Rattle.law_fate.proofs.Name.Run as run
use Rattle.law_fate.specs.Fates.WholeFateRuns.{KnowsVats}
use Rattle.law_order.specs.Ordering.Worlds.{IsKnown}
use Rattle.law_order.specs.History.Lines.{was_sent}
use Rattle.law_order.specs.Sending.Came.{Agrees, CameSo}
use Rattle.law_order.specs.Sending.New.{IsBegun}
use Rattle.law_order.proofs.Sending.Sending.{Around, Having, can_send_asking, can_send_lone}
use Rattle.law_order.proofs.Settling.Kept.{AllHeld}
use Rattle.law_order.proofs.Steady.Facts.{ready}
use Rattle.law_order.proofs.Steady.Steady.{Steady, after_at}
use Rattle.law_order.specs.Tales.Middle.{middle}
use Rattle.law_order.proofs.Turns.Same.{Same, same_send, same_send_only, same_react}
use Rattle.law_order.proofs.TurnTales.Acts.{Goes, react_goes, send_goes, send_only_goes}
use Rattle.law_order.proofs.TurnTales.Also.{Also, settled_on, draws_on, having_of}
use Rattle.law_order.proofs.TurnTales.Counted.{sent_counted, sent_only_counted, reacted_counted}
use Rattle.law_order.proofs.TurnTales.Lost.{lone_gone, asking_gone}
use Rattle.law_order.proofs.TurnTales.Sends.{lone_does, asking_does, react_does}
use Rattle.law_order.proofs.TurnTales.SentOn.{lists_on, never_sent, hand, hands, leads_there, send_unsent, send_came, react_unsent, react_came}
use Rattle.law_order.proofs.TurnTales.Stays as stays
use Rattle.law_order.proofs.TurnTales.Turning as turning
use Rattle.law_order.proofs.TurnTales.Turning.{T}
use Rattle.law_order.proofs.TurnTales.Views.{views_sent, views_sent_only, views_reacted}

-- whether a place is gone
gone_or : (p : Place Name) → ((t : Words) × (p ≡ Gone t)) ⊎ ((t : Words) → p ≡ Gone t → ⊥)
gone_or (Gone t) = inl (t, refl)
gone_or other = inr (λ t e. cc)

module _ (script : Script) (vats : KnowsVats script) (honest : ℕ → Bool) (all : (u : ℕ) → honest u ≡ true) (w : World) (around : Around script w) (v : ℕ) (head : List Event) (came : Name → ℕ) (r q : Vat Name) (begins : IsBegun w v head came r q) (there : slice_get w.vats v ≡ Some r) (h : run.Stands script w)
    (end : Vat Name) (agrees : Agrees script v end) where
  abbrev K : Naming Name Name
  K = names script v

  abbrev Sure : Vat Name → Type 0
  Sure s = Sound (T script w v r there h) s

  abbrev Ok : Vat Name → Value Name → Type 0
  Ok s x = ValueOk ((T script w v r there h).ok s) x

  abbrev Oks : Vat Name → List (Value Name) → Type 0
  Oks s xs = ValuesOk ((T script w v r there h).ok s) xs

  abbrev A : Vat Name → Type 0
  A s = Also script honest w v head came r q s

  abbrev Then : Vat Name → Type 0
  Then s = stays.Stays (turning.K script w v r there h) s end

  abbrev Leads : Vat Name → Vat Name → Type 0
  Leads s t = Goes script honest w v head s t

  abbrev C : Vat Name → Message Name → Type 0
  C s m = CameSo script honest w v head s m

  abbrev Unsent : Vat Name → Type 0
  Unsent s = (n : Name) (k : Known Name) → entry_of K s.known n ≡ Some k → (m : Message Name) → IsAmong m k.reactions → was_sent m.id (middle w v head s).history ≡ false

  -- what stays to the end of the turn stayed from before the act
  to_end : {X : Type 0} (m : Act Name X) → (IsKept (stays.Stays K) → Keeps (stays.Stays K) m) → (s t : Vat Name) (a : X) → m s ≡ Gives a t → Then t → stays.Stays K s end
  unfolding names
  to_end m k s t a e g = let law : IsKept (stays.Stays K) = stays.stays_kept K in law.trans {s = s} {t = t} {u = end} (after_at (stays.Stays K) s (m s) a t e ((k law).after s)) g

  module _ (c o : Name → ℕ) (act : ℕ) (s t : Vat Name) (a : Value Name) (sure : Sure s) (steady : Steady script w v c o s) (also : A s) where
    having_now : stays.Stays K s end → Having script honest all w around v head came r q begins s
    having_now g = having_of script honest all w around v head came r q begins there h c o s sure steady also end agrees g

    module _ (x : Value Name) (ok : Ok s x) where
      abbrev Where : Place Name
      Where = refs.place K s (refs.follow K s x)

      module _ (verb : Words) (args : List (Value Name)) (oks : Oks s args) where
        -- ---- a send with an answer

        module _ (e : refs.send K act x verb args s ≡ Gives a t) (g : Then t) where
          asked : Unsent t → AllHeld script honest w v head C t → A t
          unfolding names
          asked unsent came_so = record {
            counted = sent_counted (draw_word script.key) w v came q act x verb args s t a e also.counted;
            settled = settled_on script v (refs.send K act x verb args) (λ law under. keeps_send K (SettledStays K) law under act x verb args) r s t a e also.settled;
            draws = draws_on script v (refs.send K act x verb args) (λ law under. keeps_send K SameDraws law under act x verb args) w.drawn s t a e also.draws;
            views = views_sent script v act x s t a verb args e also.views;
            unsent = unsent;
            came_so = came_so;
          }

          ask_lists : SameLists s t
          ask_lists = lists_on script v (refs.send K act x verb args) (λ law under. keeps_send K SameLists law under act x verb args) s t a e

          ask_known : (n : Name) → IsKnown K s n → IsKnown K t n
          ask_known = (after_at (Same script v) s (refs.send K act x verb args s) a t e ((same_send script v act x verb args).after s)).1

          asks_by : ((p : Words) × (Where ≡ Gone p)) ⊎ ((p : Words) → Where ≡ Gone p → ⊥) → Leads s t × A t
          asks_by (inl i) = let k = asking_gone script honest all w around v head came r q begins there h c o s sure steady also act x verb args ok oks i.0 i.1 a t e in let holds = k.1.0 in (k.0, asked holds.unsent k.1.1)
          asks_by (inr free) =
              let having = having_now (to_end (refs.send K act x verb args) (λ law. keeps_send K (stays.Stays K) law (stays.stays_under K) act x verb args) s t a e g) in
              let in_hand = hand script honest w around v head came r q begins there h c o s sure steady also x ok in
              let all_hands = hands script honest w around v head came r q begins there h c o s sure steady also args oks in
              let does = asking_does script v act s x verb args free a t e in (
                send_goes script honest w v head act s t x verb args a (can_send_asking script honest all w around v head came r q begins act s x verb args having also.counted in_hand free (leads_there script honest w around v head came r q begins there h c o s sure steady also vats x ok) all_hands) e,
                asked (send_unsent script honest w around v head came r q begins there h c o s sure steady also act _ refl all_hands t does) (send_came script honest w around v head came r q begins there h c o s sure steady also act _ refl all_hands t does ask_lists ask_known),
              )

          asks : Leads s t × A t
          asks = asks_by (gone_or Where)

        -- ---- a send without an answer

        module _ (e : refs.send_only K act x verb args s ≡ Gives a t) (g : Then t) where
          sent_so : Unsent t → AllHeld script honest w v head C t → A t
          unfolding names
          sent_so unsent came_so = record {
            counted = sent_only_counted (draw_word script.key) w v came q act x verb args s t a e also.counted;
            settled = settled_on script v (refs.send_only K act x verb args) (λ law under. keeps_send_only K (SettledStays K) law under act x verb args) r s t a e also.settled;
            draws = draws_on script v (refs.send_only K act x verb args) (λ law under. keeps_send_only K SameDraws law under act x verb args) w.drawn s t a e also.draws;
            views = views_sent_only script v act x s t a verb args e also.views;
            unsent = unsent;
            came_so = came_so;
          }

          lone_lists : SameLists s t
          lone_lists = lists_on script v (refs.send_only K act x verb args) (λ law under. keeps_send_only K SameLists law under act x verb args) s t a e

          lone_known : (n : Name) → IsKnown K s n → IsKnown K t n
          lone_known = (after_at (Same script v) s (refs.send_only K act x verb args s) a t e ((same_send_only script v act x verb args).after s)).1

          all_hands : Rattle.law_fate.specs.Name.Names.AllOf (Rattle.law_order.specs.Ordering.Steps.IsHeld script honest w v s) args
          all_hands = hands script honest w around v head came r q begins there h c o s sure steady also args oks

          lone_by : ((p : Words) × (Where ≡ Gone p)) ⊎ ((p : Words) → Where ≡ Gone p → ⊥) → Leads s t × A t
          lone_by (inl i) =
              let k = lone_gone script honest all w around v head came r q begins there h c o s sure steady also act x verb args ok oks i.0 i.1 a t e in
              (k.0, sent_so (send_unsent script honest w around v head came r q begins there h c o s sure steady also act _ refl all_hands t k.1) (send_came script honest w around v head came r q begins there h c o s sure steady also act _ refl all_hands t k.1 lone_lists lone_known))
          lone_by (inr free) =
              let having = having_now (to_end (refs.send_only K act x verb args) (λ law. keeps_send_only K (stays.Stays K) law (stays.stays_under K) act x verb args) s t a e g) in
              let in_hand = hand script honest w around v head came r q begins there h c o s sure steady also x ok in
              let does = lone_does script v act s x verb args free a t e in (
                send_only_goes script honest w v head act s t x verb args a (can_send_lone script honest all w around v head came r q begins act s x verb args having also.counted in_hand free (leads_there script honest w around v head came r q begins there h c o s sure steady also vats x ok) all_hands) e,
                sent_so (send_unsent script honest w around v head came r q begins there h c o s sure steady also act _ refl all_hands t does) (send_came script honest w around v head came r q begins there h c o s sure steady also act _ refl all_hands t does lone_lists lone_known),
              )

          lones : Leads s t × A t
          lones = lone_by (gone_or Where)

      -- ---- a reaction

      module _ (y near : Value Name) (e : refs.react K act x y near s ≡ Gives a t) where
        reacts : Leads s t × A t
        unfolding names
        reacts =
            let does = react_does script v act s x y near a t e in
            let known : ((n : Name) → IsKnown K s n → IsKnown K t n) = (after_at (Same script v) s (refs.react K act x y near s) a t e ((same_react script v act x y near).after s)).1 in
            let lists = lists_on script v (refs.react K act x y near) (λ law under. keeps_react K SameLists law under act x y near) s t a e in (
              react_goes script honest w v head act r s t x y near a there (ready script w v honest c o s steady) (never_sent script honest w around v head came r q begins there h c o s sure steady also) e,
              record {
                counted = reacted_counted (draw_word script.key) w v came q act x y near s t a e also.counted;
                settled = settled_on script v (refs.react K act x y near) (λ law under. keeps_react K (SettledStays K) law under act x y near) r s t a e also.settled;
                draws = draws_on script v (refs.react K act x y near) (λ law under. keeps_react K SameDraws law under act x y near) w.drawn s t a e also.draws;
                views = views_reacted script v act x s t a y near e also.views;
                unsent = react_unsent script honest w around v head came r q begins there h c o s sure steady also _ tt t does;
                came_so = react_came script honest w around v head came r q begins there h c o s sure steady also _ tt t does lists known;
              },
            )

  -- ---- as a turn asks it

  pub sent_field : (c o : Name → ℕ) (act : ℕ) (x : Value Name) (verb : Words) (args : List (Value Name)) (s t : Vat Name) (a : Value Name) → Sure s → Ok s x → Oks s args → Steady script w v c o s → refs.send K act x verb args s ≡ Gives a t → Then t → A s → Leads s t × A t
  sent_field c o act x verb args s t a sure ok oks steady e g also = asks c o act s t a sure steady also x ok verb args oks e g

  pub sent_only_field : (c o : Name → ℕ) (act : ℕ) (x : Value Name) (verb : Words) (args : List (Value Name)) (s t : Vat Name) (a : Value Name) → Sure s → Ok s x → Oks s args → Steady script w v c o s → refs.send_only K act x verb args s ≡ Gives a t → Then t → A s → Leads s t × A t
  sent_only_field c o act x verb args s t a sure ok oks steady e g also = lones c o act s t a sure steady also x ok verb args oks e g

  pub reacted_field : (c o : Name → ℕ) (act : ℕ) (x y near : Value Name) (s t : Vat Name) (a : Value Name) → Sure s → Ok s x → Ok s y → Ok s near → Steady script w v c o s → refs.react K act x y near s ≡ Gives a t → Then t → A s → Leads s t × A t
  reacted_field c o act x y near s t a sure ok okay near_ok steady e g also = reacts c o act s t a sure steady also x ok y near e
