-- What a vat does with the news that a name settled at another vat brings it no gift of a key whose provider is not the host of that name.
use Rattle.std.proofs.Common.{◌≡◌, ℕ, Bool, true, false, List, [], ◌∷◌, ◌++◌, Option, Some, None, if◌then◌else◌, codes, refl, sym, ap, ◌∙◌}
use Rattle.def_machine.specs.Values.{Broken, Name, Naming, naming, name_of, host_of, key, provider_of, under}
use Rattle.def_machine.specs.State.{See, Views, Elsewhere, Shorten, Vat, ◌>>=◌, ◌>>◌, and_then, give, look, come, draw, draws, send_out, alter, is_in, begun}
use Rattle.def_machine.specs.Refs as refs
use Rattle.def_machine.specs.Refs.{host_at}
use Rattle.def_machine.specs.Arrive as arrive
use Rattle.def_machine.specs.Arrive.{Old, New}
use Rattle.def_machine.proofs.Keys.{provider_under}
use Rattle.def_run.specs.World as world
use Rattle.law_fate.proofs.Name.Facts.{Fact, Nothing, IsName, IsGiven, nothing}
use Rattle.law_fate.proofs.Name.Care.{Care, Under, Sound, Ends, Gets, Fine, widen, fine_bind, fine_then, fine_tell, fine_out, fine_wait, changes_ok, with_known}
use Rattle.law_fate.proofs.Name.CareRefs.{fine_settle}
use Rattle.law_fate.proofs.Name.CareArrive.{fine_gift_there}
use Rattle.law_reference.specs.Reference.Hiding.{IsNotOf, Shuns}
use Rattle.law_reference.proofs.Reference.HideCare.{Hides, not_other, hides_under, hides_gives}
use Rattle.law_reference.proofs.Reference.ArrivePuts.{told_host}

module _ (i v : ℕ) (word : ℕ → ℕ) where
  abbrev S : Care Name
  S = Hides i v ⊥

  abbrev K : Naming Name Name
  K = naming word v

  abbrev law : Under K S
  law = hides_under i v ⊥ word

  -- a key under another provider is another
  draws_by : (s : Vat Name) (w : ℕ) (o : Option ℕ) (h : ℕ) → (provider_of i ≡ h → ⊥) → Sound S s → Ends S (λ j. IsGiven (under h j)) s (draws w o s)
  unfolding draws
  draws_by s w (Some k) h other g = tt
  draws_by s w None h other g = let p = g.parts in let m = g.more in (tt, record { parts = record { things = p.things; slots = p.slots; lists = p.lists; queue = p.queue; known = p.known; gifts = p.gifts; outbox = p.outbox }; more = (m.0, λ o. absurd o) }, λ e. other (ap provider_of (sym e) ∙ provider_under h (key s.number w)))

  draw_by : {C : Fact Name} → (h : ℕ) → (provider_of i ≡ h → ⊥) → Fine S C (draw K) (λ j. IsGiven (under h j))
  unfolding draw
  draw_by h other = record { after = λ s g c. draws_by s _ _ h other g }

  see_by : {C : Fact Name} (n g : Name) → Gets S C (IsName g) → Fine S C (alter K (See g) n) nothing
  unfolding alter
  see_by n g k = record { after = λ s h c. let p = h.parts in (tt, record { parts = record { things = p.things; slots = p.slots; lists = p.lists; queue = p.queue; known = changes_ok K S law (Shuns i v) (See g) n s.known (k.at s c) (λ a e. tt) p.known; gifts = p.gifts; outbox = p.outbox }; more = h.more }, tt) }

  seen_by : {C : Fact Name} (n g : Name) → IsNotOf i n → Gets S C (IsName g) → Fine S C (arrive.see K n g) nothing
  unfolding arrive.see
  seen_by n g f k = fine_then S nothing (fine_tell K S law (Views n g)) (fine_then S nothing (see_by n g k) (fine_wait K S law n g (record { at = λ s c. not_other i v n f })))

  viewed_by : (u h c : ℕ) (n : Name) → (provider_of i ≡ h → ⊥) → IsNotOf i n
      → Fine S Nothing (draw K >>= (λ j. send_out h (Shorten n c (under h j)) >> (arrive.gift_there K u h c (under h j) >>= (λ g. arrive.see K n g)))) nothing
  viewed_by u h c n other f = fine_bind S (λ j. IsGiven (under h j)) (draw_by h other) (λ j. fine_then S nothing (fine_out K S law h (Shorten n c (under h j)) (record { at = λ s d. (f, tt) }) (record { at = λ s d. tt }))
      (fine_bind S IsName (fine_gift_there K S law (hides_gives i v ⊥ word) u h c (under h j) (record { at = λ s d. tt }) (record { at = λ s d. d.1 })) (λ x. seen_by n x f (record { at = λ s d. d.1 }))))

  view_by : (s : Vat Name) (n : Name) (c : ℕ) → (provider_of i ≡ host_at K s.number s.known n → ⊥) → IsNotOf i n → Sound S s → Ends S nothing s (arrive.view_there K n c s)
  unfolding arrive.view_there ◌>>=◌ and_then look
  view_by s n c other f g = (viewed_by s.number (host_at K s.number s.known n) c n other f).after s g tt

  -- the name is learnt: it breaks where that vat is noticed, and else it is viewed
  went_by : (s : Vat Name) (n : Name) (c : ℕ) (b : Bool) → (b ≡ false → provider_of i ≡ host_at K s.number s.known n → ⊥) → IsNotOf i n → Sound S s
      → Ends S nothing s ((if b then refs.settle K n (Broken (codes "partition")) else arrive.view_there K n c) s)
  went_by s n c true other f g = (fine_settle K S law {C = Nothing} n (record { at = λ r d. not_other i v n f }) (Broken (codes "partition")) (record { at = λ r d. tt })).after s g tt
  went_by s n c false other f g = view_by s n c (other refl) f g

  news_or : (s : Vat Name) (n : Name) (c : ℕ) (b : Bool) → (is_in c s.noticed ≡ false → provider_of i ≡ told_host v word (elim b [ true ↦ Old n | false ↦ New n (host_of n) ]) s → ⊥) → IsNotOf i n → Sound S s
      → Ends S nothing s (and_then (arrive.learn_name K (elim b [ true ↦ Old n | false ↦ New n (host_of n) ]) s) (λ m. look (λ s. is_in c s.noticed) >>= (λ gone. if gone then refs.settle K m (Broken (codes "partition")) else arrive.view_there K m c)))
  unfolding arrive.learn_name give come ◌>>=◌ and_then look naming name_of told_host
  news_or s n c true other f g = went_by s n c (is_in c s.noticed) other f g
  news_or s n c false other f g = let t : Vat Name = record s { known = s.known ++ begun n (host_of n) ∷ [] } in
      widen S {A = Unit {0}} nothing s t ((if is_in c t.noticed then refs.settle K n (Broken (codes "partition")) else arrive.view_there K n c) t) tt
      (went_by t n c (is_in c t.noticed) other f (record { parts = with_known K S law s t n (host_of n) tt f g; more = g.more }))

  -- where the host of the name is told, unless the vat that it settled at is noticed
  pub news_by : (s : Vat Name) (from : ℕ) (ks : List Name) (n : Name) (c : ℕ) → (is_in c s.noticed ≡ false → provider_of i ≡ told_host v word (world.read_name ks n) s → ⊥) → IsNotOf i n → Sound S s
      → Ends S nothing s (arrive.arrive K from (world.read_note ks (Elsewhere n c)) s)
  unfolding arrive.arrive world.read_note arrive.arrive_elsewhere world.read_name ◌>>=◌
  news_by s from ks n c other f g = news_or s n c (world.is_old ks n) other f g
