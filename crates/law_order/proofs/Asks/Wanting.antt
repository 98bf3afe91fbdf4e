-- Which notes a step puts by which the provider of a gift is asked to open it: none to another vat, but as a note arrives that tells where a name settled.
use Rattle.std.proofs.Common.{◌≡◌, ℕ, ◌≤◌, Bool, true, false, List, [], ◌∷◌, ◌++◌, Option, Some, None, refl, sym, ◌∙◌, ◌⊎◌, inl, if◌then◌else◌, arith, eq-eqb}
use Rattle.std.specs.Prelude.{codes, ◌==◌}
use Rattle.def_machine.specs.Values.{Broken, Ref, Name, Naming, IsGift, naming, name_of, under, word_of}
use Rattle.def_machine.specs.State.{Note, Open, Ask, Shorten, Put, GiftEntry, Vat, Gives, Act, ◌>>=◌, ◌>>◌, and_then, give, look, tell, alter, come, draw, draws, send_out, new_gift, begun, is_in}
use Rattle.def_machine.specs.Refs as refs
use Rattle.def_machine.specs.Refs.{Away, settle, host_at}
use Rattle.def_machine.specs.Arrive as arrive
use Rattle.def_machine.specs.Arrive.{Incoming, Old, New}
use Rattle.law_machine.specs.Machine.Steps.{After}
use Rattle.law_fate.specs.Name.Names.{AllOf, IsAmong}
use Rattle.law_fate.proofs.Name.Facts.{all_end}
use Rattle.law_fate.specs.Fates.Lasting.{Each}
use Rattle.law_reference.specs.Reference.GiftPassing.{Provides}
use Rattle.law_order.specs.Cuts.Letting.{lets_go, once}
use Rattle.law_order.proofs.Cuts.Counts.{letting_put, counts_one}

-- Of a note from v to w that asks w so, P holds, or w is v itself.
abbrev pub Asked : (ℕ → Note Name → Type 0) → ℕ → ℕ → Note Name → Type 0
Asked P v w (Shorten n c i) = (v ≡ w) ⊎ P w (Shorten n c i)
Asked P v w other = Unit {0}

abbrev pub AllAsked : (ℕ → Note Name → Type 0) → ℕ → List (Put Name) → Type 0
AllAsked P v ps = AllOf (λ (p : Put Name). Asked P v p.to p.note) ps

module _ (P : ℕ → Note Name → Type 0) (v : ℕ) where
  -- ---- where all words that are drawn are of v

  -- of no key under which a note lets a gift go was the word drawn before
  abbrev pub NewWords : List ℕ → List (Put Name) → Type 0
  NewWords ds ps = (i : ℕ) → 1 ≤ letting_put i ps → IsAmong (word_of i) ds → ⊥

  shorten_lets : (n : Name) (c i : ℕ) → lets_go i (Shorten n c i) ≡ true
  unfolding lets_go
  shorten_lets n c i = eq-eqb i i refl

  asked_by : (F : ℕ → ℕ) (d e : List ℕ) (w : ℕ) (m : Note Name) → ((x : ℕ) → (IsAmong x d → ⊥) → F x ≡ v) → ((i : ℕ) → 1 ≤ once (lets_go i m) → IsAmong (word_of i) d → ⊥) → Provides F e v w m → Asked P v w m
  asked_by F d e w (Shorten n c i) new words h = inl (sym (new (word_of i) (words i (let one = counts_one (lets_go i (Shorten n c i)) (shorten_lets n c i) in omega arith))) ∙ h.1)
  asked_by F d e w other new words h = tt

  pub all_asked : (F : ℕ → ℕ) (d e : List ℕ) (ps : List (Put Name)) → ((x : ℕ) → (IsAmong x d → ⊥) → F x ≡ v) → NewWords d ps → Each (λ (p : Put Name). Provides F e v p.to p.note) ps → AllAsked P v ps
  unfolding letting_put
  all_asked F d e [] new words h = tt
  all_asked F d e (p ∷ ps) new words h = (asked_by F d e p.to p.note new (λ i l. words i (omega arith)) h.0, all_asked F d e ps new (λ i l. words i (omega arith)) h.1)

  -- ---- a note tells where a name settled

  abbrev V : Vat Name → Vat Name → Type 0
  V s t = AllAsked P v s.outbox → AllAsked P v t.outbox

  module _ (word : ℕ → ℕ) where
    abbrev K : Naming Name Name
    K = naming word v

    -- it is known who is asked
    module _ (p c : ℕ) (n : Name) (ok : (i : ℕ) → Asked P v p (Shorten n c i)) where
      abbrev Wants : ℕ → Put Name
      Wants i = record { to = p; note = Shorten n c i }

      put_one : (s : Vat Name) (i : ℕ) → AllAsked P v s.outbox → AllAsked P v (s.outbox ++ Wants i ∷ [])
      put_one s i h = all_end (λ (q : Put Name). Asked P v q.to q.note) s.outbox (Wants i) h (ok i)

      seen_had : (s : Vat Name) (i u : ℕ) (ds : List ℕ) (o : Option (GiftEntry Name)) → After V s (and_then (arrive.gift_or_new K u p i o (record s { drawn = ds; outbox = s.outbox ++ Wants i ∷ [] })) (λ g. arrive.see K n g))
      unfolding arrive.gift_or_new arrive.see ◌>>=◌ ◌>>◌ and_then come new_gift give tell alter
      seen_had s i u ds (Some g) = put_one s i
      seen_had s i u ds None = put_one s i

      there_after : (s : Vat Name) (i u : ℕ) (ds : List ℕ) (b : Bool)
          → After V s (and_then ((if b then arrive.have_gift K p i else (come K (IsGift c i) c >>= (λ g. send_out c (Ask p i g) >> give g))) (record s { drawn = ds; outbox = s.outbox ++ Wants i ∷ [] })) (λ g. arrive.see K n g))
      unfolding arrive.have_gift arrive.see ◌>>=◌ ◌>>◌ and_then come send_out give look tell alter
      there_after s i u ds true = seen_had s i s.number ds (arrive.gift_at p i s.gifts)
      there_after s i u ds false = λ h. all_end (λ (q : Put Name). Asked P v q.to q.note) (s.outbox ++ Wants i ∷ []) _ (put_one s i h) tt

    drawn_then : (s : Vat Name) (x c u p : ℕ) (n : Name) (o : Option ℕ) → ((i : ℕ) → Asked P v p (Shorten n c i)) → After V s (and_then (draws x o s) (λ i. send_out p (Shorten n c (under p i)) >> (arrive.gift_there K u p c (under p i) >>= (λ g. arrive.see K n g))))
    unfolding draws and_then send_out ◌>>◌ ◌>>=◌ arrive.gift_there
    drawn_then s x c u p n (Some j) ok = λ h. h
    drawn_then s x c u p n None ok = there_after p c n ok s _ u _ (c == u)

    view_after : (s : Vat Name) (n : Name) (c : ℕ) → ((i : ℕ) → Asked P v (host_at K s.number s.known n) (Shorten n c i)) → After V s (arrive.view_there K n c s)
    unfolding arrive.view_there ◌>>=◌ and_then look draw
    view_after s n c ok = drawn_then s _ c s.number (host_at K s.number s.known n) n _ ok

    there_if : (b : Bool) (m n : Act Name (Unit {0})) (s : Vat Name) → b ≡ false → After V s (n s) → After V s ((if b then m else n) s)
    there_if true m n s e h = cc
    there_if false m n s e h = h

    pub news_after : (z : Incoming Name Name) (c : ℕ) (s : Vat Name) → is_in c s.noticed ≡ false → ((n : Name) (t : Vat Name) → arrive.learn_name K z s ≡ Gives n t → (i : ℕ) → Asked P v (host_at K t.number t.known n) (Shorten n c i)) → After V s (arrive.arrive_elsewhere K z c s)
    unfolding arrive.arrive_elsewhere arrive.learn_name ◌>>=◌ and_then look give come naming name_of
    news_after (Old n) c s e f = there_if (is_in c s.noticed) (settle K n (Broken (codes "partition"))) (arrive.view_there K n c) s e (view_after s n c (f n s refl))
    news_after (New n h) c s e f = let t : Vat Name = record s { known = s.known ++ begun n h ∷ [] } in there_if (is_in c s.noticed) (settle K n (Broken (codes "partition"))) (arrive.view_there K n c) t e (view_after t n c (f n t refl))

    -- ---- the provider is asked

    shorten_after : (i : ℕ) (p : refs.Place Name) (s : Vat Name) → After V s (arrive.shorten_to K i p s)
    unfolding arrive.shorten_to send_out give
    shorten_after i (Away h n true) s = λ k. all_end (λ (q : Put Name). Asked P v q.to q.note) s.outbox (record { to = h; note = Open i n }) k tt
    shorten_after i other s = λ k. k

    pub wish_after : (z : Incoming Name Name) (i : ℕ) (s : Vat Name) → After V s (arrive.arrive_shorten K z i s)
    unfolding arrive.arrive_shorten arrive.learn_name ◌>>=◌ and_then look give come naming name_of
    wish_after (Old n) i s = shorten_after i (refs.place K s (refs.follow K s (Ref n))) s
    wish_after (New n h) i s = let t : Vat Name = record s { known = s.known ++ begun n h ∷ [] } in shorten_after i (refs.place K t (refs.follow K t (Ref n))) t
