-- A turn is made of small steps, where what it does with references is so from each state on its way.
use Rattle.std.proofs.Common.{◌≡◌, ℕ, ◌+◌, ◌*◌, Bool, true, List, [], ◌∷◌, ◌++◌, Option, Some, refl, sym, subst, inr}
use Rattle.std.specs.Prelude.{slice_get}
use Rattle.def_machine.specs.Values.{Words, Value, Broken, Name, Promise, Naming, host_of}
use Rattle.def_machine.specs.State.{Cell, Thing, Resolver, Known, Unsettled, Happened, Took, Sends, Finished, Threw, Vat, Gives, tell}
use Rattle.def_machine.specs.Refs as refs
use Rattle.def_machine.specs.Refs.{entry_of, standing_of}
use Rattle.def_run.specs.World.{Script, Event, World, names}
use Rattle.law_fate.specs.Name.Names.{AllOf, Named, ValueOk, ValuesOk}
use Rattle.law_fate.proofs.Name.Facts.{all_map, Nothing, IsValue}
use Rattle.law_fate.proofs.Name.Care.{TellsOfNone, Sound, fine_tell, rise}
use Rattle.law_fate.proofs.Name.Run.{Stands, inside, low_at}
use Rattle.law_fate.proofs.Name.Serves.{HasResolver}
use Rattle.law_fate.proofs.Name.Tracked.{tracked_under}
use Rattle.law_fate.specs.Fates.Fate.{one}
use Rattle.law_order.specs.Ordering.Settlings.{IsLoose, with_line}
use Rattle.law_order.specs.Waits.Answers.{answered_by}
use Rattle.law_order.proofs.Waits.Classes.{owed_at}
use Rattle.law_order.proofs.Waits.Room.{share}
use Rattle.law_order.proofs.Steady.Blocks.{sent_steady, sent_only_steady, reacted_steady, promised_steady, resolved_steady}
use Rattle.law_order.proofs.Steady.Facts.{ready}
use Rattle.law_order.proofs.Steady.Steady.{Steady, lined}
use Rattle.law_order.proofs.Steady.Wells.{MaySettle, here, owed_loose, settle_keeps}
use Rattle.law_order.specs.Tales.Middle.{middle, IsQuietLine}
use Rattle.law_order.proofs.Tales.Begun.{tale_both}
use Rattle.law_order.proofs.Turns.Own as own
use Rattle.law_order.proofs.Turns.Turns as turns
use Rattle.law_order.proofs.TurnTales.Acts.{Goes, quiet_goes, promise_goes}
use Rattle.law_order.proofs.TurnTales.Stays.{Stays, stays_kept}
use Rattle.law_order.proofs.TurnTales.Turning as turning
use Rattle.law_order.proofs.TurnTales.Turning.{T, Acts, Closes, Promised, Aside}

pub quiet_line : (e : Happened Name) → TellsOfNone e → IsQuietLine e
quiet_line (Took act m) h = absurd h
quiet_line (Sends act m) h = absurd h
quiet_line other h = tt

module _ (script : Script) (honest : ℕ → Bool) (all : (h : ℕ) → honest h ≡ true) (w : World) (v : ℕ) (r : Vat Name) (there : slice_get w.vats v ≡ Some r) (h : Stands script w) (head : List Event) (end : Vat Name) (Also : Vat Name → Type 0) where
  abbrev K : Naming Name Name
  K = names script v

  abbrev Sure : Vat Name → Type 0
  Sure s = Sound (T script w v r there h) s

  abbrev Ok : Vat Name → Value Name → Type 0
  Ok s x = ValueOk ((T script w v r there h).ok s) x

  abbrev Oks : Vat Name → List (Value Name) → Type 0
  Oks s xs = ValuesOk ((T script w v r there h).ok s) xs

  abbrev S : (Name → ℕ) → (Name → ℕ) → Vat Name → Type 0
  S c o s = Steady script w v c o s

  abbrev Leads : Vat Name → Vat Name → Type 0
  Leads s t = Goes script honest w v head s t

  abbrev Then : Vat Name → Type 0
  Then s = Stays (turning.K script w v r there h) s end

  -- What more is kept of a vat, and what the acts are small steps by.
  pub record Given : Type 0 where
    pub quietly : (s : Vat Name) (fuel : ℕ) (lines more : List (Happened Name)) (acts : ℕ) (things : List (Thing Name)) (slots : List (Cell Name)) (lists : List (List (Value Name))) → lines ≡ s.happened ++ more → AllOf TellsOfNone more → ((k : ℕ) (vs : List (Value Name)) → slice_get s.lists k ≡ Some vs → slice_get lists k ≡ Some vs)
        → Then (Aside script w v r there h s fuel lines acts things slots lists) → Also s → Also (Aside script w v r there h s fuel lines acts things slots lists)
    pub promised : (c o : Name → ℕ) (s : Vat Name) → Sure s → S c o s → Then (Promised script w v r there h s) → Also s → Also (Promised script w v r there h s)
    pub sent : (c o : Name → ℕ) (act : ℕ) (x : Value Name) (verb : Words) (args : List (Value Name)) (s t : Vat Name) (a : Value Name) → Sure s → Ok s x → Oks s args → S c o s → refs.send K act x verb args s ≡ Gives a t → Then t → Also s → Leads s t × Also t
    pub sent_only : (c o : Name → ℕ) (act : ℕ) (x : Value Name) (verb : Words) (args : List (Value Name)) (s t : Vat Name) (a : Value Name) → Sure s → Ok s x → Oks s args → S c o s → refs.send_only K act x verb args s ≡ Gives a t → Then t → Also s → Leads s t × Also t
    pub reacted : (c o : Name → ℕ) (act : ℕ) (x y near : Value Name) (s t : Vat Name) (a : Value Name) → Sure s → Ok s x → Ok s y → Ok s near → S c o s → refs.react K act x y near s ≡ Gives a t → Then t → Also s → Leads s t × Also t
    pub broken : (c o : Name → ℕ) (p : Name) (x : Words) (s t : Vat Name) → Sure s → MaySettle script honest w v p (Broken x) s → S (λ n. share (owed_at v n) (one p n) + c n) o s → refs.settle K p (Broken x) s ≡ Gives tt t → Then t → Also s → Leads s t × Also t
    pub resolved : (c o : Name → ℕ) (p : Name) (y : Value Name) (s t : Vat Name) (k : Known Name) → Sure s → Ok s y → entry_of K s.known p ≡ Some k → k.standing ≡ Unsettled → host_of p ≡ v → IsLoose script honest w v p s
        → S (λ n. 2 * share (owed_at v n) (one p n) + c n) o s → refs.resolve K p y s ≡ Gives tt t → Then t → Also s → Leads s t × Also t

  -- in the middle of a turn that began so, with so much in hand
  pub record Fit (c o : Name → ℕ) (begin s : Vat Name) : Type 0 where
    pub steady : S c o s
    pub more : Also s
    pub goes : Leads begin s

  module _ (given : Given) (resolvers : (i : ℕ) (p : Name) → slice_get end.things i ≡ Some (Resolver p) → (j : ℕ) × (p ≡ Promise v j)) (begin : Vat Name) where
    onward : (c o : Name → ℕ) (s t : Vat Name) → Fit c o begin s → S c o t → Leads s t × Also t → Fit c o begin t
    onward c o s t f steady k = record { steady = steady; more = k.1; goes = tale_both script honest (middle w v head begin) (middle w v head s) (middle w v head t) f.goes k.0 }

    quiet_leads : (s : Vat Name) (fuel : ℕ) (lines more : List (Happened Name)) (acts : ℕ) (things : List (Thing Name)) (slots : List (Cell Name)) (lists : List (List (Value Name))) → lines ≡ s.happened ++ more → AllOf TellsOfNone more → Leads s (Aside script w v r there h s fuel lines acts things slots lists)
    quiet_leads s fuel lines more acts things slots lists e q = quiet_goes script honest w v head s _ (record { known = refl; number = refl; gifts = refl; noticed = refl; queue = refl; outbox = refl; lines = more; happened = e; quiet = all_map quiet_line more q })

    module _ (c o : Name → ℕ) where
      -- the name of a resolver is a promise of the vat's own
      module _ (p : Name) (s : Vat Name) (sure : Sure s) (named : (T script w v r there h).ok s (Named p)) (has : HasResolver s p) (stands : standing_of (turning.K script w v r there h) s.known p ≡ Unsettled) (later : Then s) (f : Fit c o begin s) where
        abbrev number : ℕ
        number = (resolvers has.0 p (later.resolvers has.0 p has.1)).0

        is : p ≡ Promise v number
        is = (resolvers has.0 p (later.resolvers has.0 p has.1)).1

        known : (k : Known Name) × (entry_of K s.known p ≡ Some k)
        known = own.known_promise script v s p number is named.1

        stood : standing_of K s.known p ≡ Unsettled
        unfolding names
        stood = stands

        host : host_of p ≡ v
        host = own.host script honest all w v r there c o p s f.steady number is stood

        breaks : (x : Words) (t : Vat Name) → refs.settle K p (Broken x) s ≡ Gives tt t → Then t → Fit c o begin t
        breaks x t e g = let once = own.once_in script honest all w v r there c o p s f.steady number is stood in let may = here host stood (inr tt) in
            onward c o s t f (settle_keeps script honest all w v r there (Broken x) tt c o p s t tt once may e).1 (given.broken c o p x s t sure may once e g f.more)

        resolves : (y : Value Name) (t : Vat Name) → Ok s y → refs.resolve K p y s ≡ Gives tt t → Then t → Fit c o begin t
        resolves y t ok e g = let twice = own.twice script honest all w v r there c o p s f.steady number is stood in let waits = own.waits script honest all w v r there c o p s f.steady number is stood known.0 known.1 in
            onward c o s t f (resolved_steady script w v c o p y s t known.0 known.1 waits host e twice)
            (given.resolved c o p y s t known.0 sure ok known.1 waits host (own.loose script honest all w v r there c o p s f.steady number is stood) twice e g f.more)

      pub acts : Acts script w v r there h end (Fit c o begin)
      unfolding names
      acts = record {
        quietly = λ s fuel lines more count things slots lists e q i g f. onward c o s _ f (own.aside_steady script w v c o s fuel lines count things slots lists f.steady) (quiet_leads s fuel lines more count things slots lists e q, given.quietly s fuel lines more count things slots lists e q i g f.more);
        promised = λ s sure g f. onward c o s _ f (promised_steady script w v c o s f.steady) (promise_goes script honest w v head s (ready script w v honest c o s f.steady), given.promised c o s sure f.steady g f.more);
        sent = λ act x verb args s t a sure ok oks e g f. onward c o s t f (sent_steady script w v c o s t f.steady act x verb args a e) (given.sent c o act x verb args s t a sure ok oks f.steady e g f.more);
        sent_only = λ act x verb args s t a sure ok oks e g f. onward c o s t f (sent_only_steady script w v c o s t f.steady act x verb args a e) (given.sent_only c o act x verb args s t a sure ok oks f.steady e g f.more);
        reacted = λ act x y near s t a sure ok okay near_ok e g f. onward c o s t f (reacted_steady script w v c o s t f.steady act x y near a e) (given.reacted c o act x y near s t a sure ok okay near_ok f.steady e g f.more);
        broken = λ p x s t sure named has u e b g f. breaks p s sure named has u b f x t e g;
        resolved = λ p y s t sure named ok has u e b g f. resolves p s sure named has u b f y t ok e g;
      }

    -- ---- the end of a turn, with its answer in hand

    module _ (answer : Option Name) where
      abbrev Hand : Name → ℕ
      Hand n = 2 * answered_by n answer

      abbrev Nobody : Name → ℕ
      Nobody n = 0

      -- with one more line
      module _ (s : Vat Name) (e : Happened Name) (quiet : TellsOfNone e) (g : Then (with_line s e)) (sure : Sure s) (f : Fit Hand Nobody begin s) where
        next : Fit Hand Nobody begin (with_line s e)
        next = (acts Hand Nobody).quietly s s.fuel (s.happened ++ e ∷ []) (e ∷ []) s.activations s.things s.slots s.lists refl (quiet, tt) (λ k vs i. i) g f

        lined_sure : ((T script w v r there h).rel s (with_line s e)) × Sure (with_line s e)
        unfolding tell
        lined_sure = let k = (fine_tell (turning.K script w v r there h) (T script w v r there h) (tracked_under true (inside script) w.vats v r there (low_at script w h v r there) (turning.word script w v r there h)) {C = Nothing} e).after s sure tt in (k.0, k.1)

        lined_ok : (y : Value Name) → Ok s y → Ok (with_line s e) y
        lined_ok y ok = rise (T script w v r there h) s (with_line s e) lined_sure.0 (IsValue y) ok

      module _ (p : Name) (has : answer ≡ Some p) (s : Vat Name) (sure : Sure s) (f : Fit Hand Nobody begin s) where
        closes : (y : Value Name) → Ok s y → refs.resolve K p y s ≡ Gives tt end → Then end → Leads begin end
        closes y ok e g = let at = turns.known script honest all w v r there answer p has s f.steady in
            let k = given.resolved Nobody Nobody p y s end at.0 sure ok at.1 (turns.waits script honest all w v r there answer p has s f.steady) (turns.host script honest all w v r there answer p has s f.steady)
            (owed_loose script honest all w v r there s p (turns.owed script honest all w v r there answer p has s f.steady) (turns.stands script honest all w v r there answer p has s f.steady)) (turns.in_hand script honest all w v r there answer p has s f.steady) e g f.more in
            tale_both script honest (middle w v head begin) (middle w v head s) (middle w v head end) f.goes k.0

        fails : (x : Words) → refs.settle K p (Broken x) s ≡ Gives tt end → Then end → Leads begin end
        fails x e g = let k = given.broken Nobody Nobody p x s end sure (here (turns.host script honest all w v r there answer p has s f.steady) (turns.stands script honest all w v r there answer p has s f.steady) (inr tt)) (turns.in_hand_once script honest all w v r there answer p has s f.steady) e g f.more in
            tale_both script honest (middle w v head begin) (middle w v head s) (middle w v head end) f.goes k.0

      pub ending : Closes script w v r there h end (Fit Hand Nobody begin) (acts Hand Nobody) answer (Leads begin end)
      unfolding names
      ending = let nothing = (stays_kept (turning.K script w v r there h)).same end in record {
        closed = λ act p y s is sure named ok e g f. let line : Happened Name = Finished act y in closes p is (with_line s line) (lined_sure s line tt g sure f).1 (next s line tt g sure f) y (lined_ok s line tt g sure f y ok) e nothing;
        failed = λ act p x s is sure named e g f. let line : Happened Name = Threw act x in fails p is (with_line s line) (lined_sure s line tt g sure f).1 (next s line tt g sure f) x e nothing;
        unasked = λ e s is q same f. subst (λ z. Leads begin z) same (onward Hand Nobody s (with_line s e) f (lined script w v Hand Nobody s e f.steady) (quiet_leads s s.fuel (s.happened ++ e ∷ []) (e ∷ []) s.activations s.things s.slots s.lists refl (q, tt), given.quietly s s.fuel (s.happened ++ e ∷ []) (e ∷ []) s.activations s.things s.slots s.lists refl (q, tt) (λ k vs i. i) (subst (λ z. Then z) (sym same) nothing) f.more)).goes;
      }
