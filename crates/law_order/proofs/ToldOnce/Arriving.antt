-- What a vat is told as it asks for a gift, and as it asks the provider of one.
use Rattle.std.proofs.Common.{◌≡◌, ℕ, true, false, List, [], ◌∷◌, ◌++◌, Option, Some, None, refl, sym, ap, subst, ◌∙◌, ◌⊎◌, inl, inr, append_assoc}
use Rattle.def_machine.specs.Values.{Name, Gift, Naming, naming, name_of}
use Rattle.def_machine.specs.State.{Standing, Settled, ToTell, Note, Open, GiftEntry, Vat, Done, Gives, Act, WhereSome, ◌>>=◌, ◌>>◌, and_then, give, look, alter, come, new_gift, begun}
use Rattle.def_machine.specs.Refs as refs
use Rattle.def_machine.specs.Refs.{Place, Away, standing_of}
use Rattle.def_machine.specs.Arrive as arrive
use Rattle.def_machine.specs.Arrive.{Incoming, gift_at}
use Rattle.law_machine.specs.Machine.Laws.{SettledStays}
use Rattle.law_machine.specs.Machine.Steps.{After}
use Rattle.law_fate.specs.Name.Names.{AllOf, IsAmong, Once, GiftOk}
use Rattle.law_fate.proofs.Name.Facts.{IsEntry, nothing}
use Rattle.law_fate.proofs.Name.Care.{Sound, Ends, with_entry}
use Rattle.law_fate.proofs.Name.CareArrive.{fine_break_orphan}
use Rattle.law_fate.proofs.Name.Facts as facts
use Rattle.law_fate.proofs.Name.Among.{all_among}
use Rattle.law_reference.specs.Reference.ListRingless.{IsNamed}
use Rattle.law_frame.specs.Frame.Asked.{told_in}
use Rattle.law_frame.proofs.Frame.Exported.{among_split}
use Rattle.law_frame.proofs.Frame.Grow.{among_right}
use Rattle.law_reference.proofs.Gift.Kept.{found_named}
use Rattle.law_frame.proofs.Heard.Bare.{Bare, Bares, bare_under}
use Rattle.law_frame.proofs.Heard.Pending.{told_not}
use Rattle.law_order.proofs.Ordering.Moves.{Keeps, keeps_bind, keeps_look, keeps_give}
use Rattle.law_order.proofs.Cuts.WholeWalk.{whole_learn_name, having, breaking_orphan}
use Rattle.law_frame.proofs.Steady.Again.{once_both}
use Rattle.law_order.specs.ToldOnce.Told.{with_news}
use Rattle.law_order.proofs.ToldOnce.Puts.{notes_to, news_to, news_named, all_to}
use Rattle.law_order.proofs.ToldOnce.Telling as telling
use Rattle.law_order.proofs.ToldOnce.Telling.{from_after}
use Rattle.law_order.proofs.ToldOnce.Settling as settling

-- ---- what was given

unbind : {A B : Type 0} (d : Done Name A) (f : A → Act Name B) (b : B) (t : Vat Name) → and_then d f ≡ Gives b t → (a : A) × (r : Vat Name) × (d ≡ Gives a r) × (f a r ≡ Gives b t)
unfolding and_then
unbind (Gives a r) f b t e = (a, r, refl, e)
unbind other f b t e = cc

pub given_by : {A : Type 0} (R : Vat Name → Vat Name → Type 0) (s t : Vat Name) (a : A) (d : Done Name A) → d ≡ Gives a t → After R s d → R s t
given_by R s t a d e h = subst (After R s) e h

-- vat h tells vat v
module _ (word : ℕ → ℕ) (h v : ℕ) where
  abbrev K : Naming Name Name
  K = naming word h

  abbrev Tells : Vat Name → Vat Name → Type 0
  Tells = settling.Tells K v

  abbrev SettledIn : Vat Name → Name → Type 0
  SettledIn = telling.IsSettledIn K v

  -- What v is told from s to t, each name once; it settled there, and had not settled in s, but where Late holds of it.
  pub record Says (Late : Name → Type 0) (s t : Vat Name) : Type 0 where
    pub names : List Name
    pub told : news_to v t.outbox ≡ news_to v s.outbox ++ names
    pub once : Once {A = Name} names
    pub fresh : (n : Name) → IsAmong n names → Late n ⊎ (SettledIn s n → ⊥)
    pub settled : (n : Name) → IsAmong n names → SettledIn t n

  pub record Told (Late : Name → Type 0) (s t : Vat Name) : Type 0 where
    pub stays : SettledStays K s t
    pub distinct : telling.Distinct K v s → telling.Distinct K v t
    pub says : telling.Distinct K v s → Says Late s t

  pub tells_told : (Late : Name → Type 0) (s t : Vat Name) → Tells s t → Told Late s t
  tells_told Late s t k = record { stays = k.stays; distinct = k.distinct; says = λ d. (let a = k.news d in record { names = a.names; told = a.told; once = a.once; fresh = λ n x. inr (a.fresh n x); settled = a.settled }) }

  -- ---- a provider is asked

  shorten_keeps : (i : ℕ) (q : Place Name) → Keeps Tells (arrive.shorten_to K i q)
  unfolding arrive.shorten_to with_news
  shorten_keeps i (Away c n true) = settling.lifted K v (telling.still_out K v c (Open i n) refl)
  shorten_keeps i other = keeps_give Tells (settling.base K v) tt

  pub arriving_shorten : (z : Incoming Name Name) (i : ℕ) → Keeps Tells (arrive.arrive_shorten K z i)
  unfolding arrive.arrive_shorten
  arriving_shorten z i = keeps_bind Tells (settling.base K v) (whole_learn_name K Tells (settling.walked K v) z) (λ n. keeps_bind Tells (settling.base K v) (keeps_look Tells (settling.base K v) _) (λ q. shorten_keeps i q))

  -- ---- a gift is asked for

  module _ (i : ℕ) where
    abbrev X : Name
    X = Gift h i

    abbrev Care : Vat Name → Type 0
    Care s = Sound (Bares h i h) s

    -- nothing that is put names it
    untold : (s : Vat Name) → Care s → IsAmong X (news_to v s.outbox) → ⊥
    untold s k a = let parts = k.parts in let r = news_named X (notes_to v s.outbox) a in
        all_among (λ (n : Note Name). IsAmong X (told_in n) → ⊥) (notes_to v s.outbox) r.0 (all_to (λ n. IsAmong X (told_in n) → ⊥) v s.outbox (facts.all_map (λ p o. told_not h i h p.note o.0) s.outbox parts.outbox)) r.1 r.2

    sound_given : {A : Type 0} (G : A → facts.Fact Name) (s t : Vat Name) (a : A) (d : Done Name A) → d ≡ Gives a t → Ends (Bares h i h) G s d → Care t × facts.Holds (Bare h i h) (G a)
    sound_given G s t a d e k = let one : Ends (Bares h i h) G s (Gives a t) = subst (Ends (Bares h i h) G s) e k in (one.1, one.2)

    -- its name
    had_name : (p u : ℕ) (o : Option (GiftEntry Name)) (s t : Vat Name) (n : Name) → u ≡ h → WhereSome (λ (g : GiftEntry Name). g.name ≡ X) o → arrive.gift_or_new K u p i o s ≡ Gives n t → n ≡ X
    unfolding arrive.gift_or_new ◌>>=◌ ◌>>◌ and_then come new_gift give naming name_of
    had_name p u (Some g) s t n e k f = let same : g.name ≡ n = cc in sym same ∙ k
    had_name p u None s t n e k f = let same : Gift u i ≡ n = cc in sym same ∙ ap (λ c. Gift c i) e

    have_name : (p : ℕ) (s t : Vat Name) (n : Name) → s.number ≡ h → AllOf (IsNamed h) s.gifts → arrive.have_gift K p i s ≡ Gives n t → n ≡ X
    unfolding arrive.have_gift ◌>>=◌ and_then look
    have_name p s t n e k f = had_name p s.number (gift_at p i s.gifts) s t n e (found_named h p i s.gifts k) f

    had_care : (p : ℕ) (o : Option (GiftEntry Name)) (s t : Vat Name) (n : Name) → s.number ≡ h → Care s → arrive.gift_or_new K s.number p i o s ≡ Gives n t → Care t
    unfolding arrive.gift_or_new ◌>>=◌ ◌>>◌ and_then come new_gift give naming name_of
    had_care p (Some g) s t n e k f = let same : s ≡ t = cc in subst Care same k
    had_care p None s t n e k f = let x : GiftEntry Name = record { name = Gift s.number i; provider = p; number = i; opened = false } in
        let r : Vat Name = record s { known = s.known ++ begun (Gift s.number i) s.number ∷ [] } in
        let parts = with_entry K (Bares h i h) (bare_under h i h word) s r (Gift s.number i) s.number tt (λ c. refl) k in
        let q : Vat Name = record s { known = s.known ++ begun (Gift s.number i) s.number ∷ []; gifts = s.gifts ++ x ∷ [] } in
        let care : Care q = record { parts = record { things = parts.things; slots = parts.slots; lists = parts.lists; queue = parts.queue; known = parts.known; gifts = facts.all_end (GiftOk (Bare h i h)) s.gifts x parts.gifts ((λ c. (refl, refl)), tt); outbox = parts.outbox }; more = k.more } in
        let same : q ≡ t = cc in subst Care same care

    have_care : (p : ℕ) (s t : Vat Name) (n : Name) → s.number ≡ h → Care s → arrive.have_gift K p i s ≡ Gives n t → Care t
    unfolding arrive.have_gift ◌>>=◌ and_then look
    have_care p s t n e k f = had_care p (gift_at p i s.gifts) s t n e k f

    -- the asker is told, if it settled
    abbrev Said : Name → ℕ → Vat Name → Vat Name → Type 0
    Said n from s t = telling.Still K v s t ⊎ (SettledIn s n × telling.Adds K v n (from ∷ []) s t)

    still_said : (n : Name) (from : ℕ) (s : Vat Name) → After (Said n from) s (alter K (ToTell from) n s)
    still_said n from s = let k = telling.still_alter K v (ToTell from) n in from_after (telling.Still K v) (Said n from) s s (alter K (ToTell from) n s) (λ t g. inl g) (k.after s)

    said : (n : Name) (from : ℕ) (s : Vat Name) (x : Standing Name) → standing_of K s.known n ≡ x → After (Said n from) s (arrive.tell_asker K n from x s)
    unfolding arrive.tell_asker
    said n from s (Settled y) e = from_after (telling.Adds K v n (from ∷ [])) (Said n from) s s (refs.inform K n from s) (λ t g. inr ((y, e), g)) (telling.informs K v n from s)
    said n from s other e = still_said n from s

    -- the gift, as the asker is told of it
    abbrev Answers : ℕ → Name → Type 0
    Answers from n = (n ≡ X) × (v ≡ from)

    module _ (from : ℕ) (s r t : Vat Name) (n : Name) (is : n ≡ X) (first : Tells s r) (care : Care r) where
      joins : SettledIn r n → telling.Adds K v n (from ∷ []) r t → telling.Distinct K v s → Says (Answers from) s t
      joins k a d = go (a.which ((λ x. x), tt))
        where
          news : settling.News K v s r
          news = first.news d

          among_there : (m : Name) → IsAmong m news.names → IsAmong m (news_to v r.outbox)
          among_there m x = subst (IsAmong m) (sym news.told) (among_right m (news_to v s.outbox) news.names x)

          none : a.names ≡ [] → Says (Answers from) s t
          none e = record {
            names = news.names;
            told = a.told ∙ ap (λ ns. news_to v r.outbox ++ ns) e ∙ nothing_more (news_to v r.outbox) ∙ news.told;
            once = news.once;
            fresh = λ m x. inr (news.fresh m x);
            settled = λ m x. telling.stays_settled K v r t a.stays m (news.settled m x);
          }
            where
              nothing_more : (xs : List Name) → xs ++ [] ≡ xs
              nothing_more [] = refl
              nothing_more (x ∷ xs) = ap (λ ys. x ∷ ys) (nothing_more xs)

          one_is : (m : Name) → IsAmong m (n ∷ []) → m ≡ n
          one_is m (inl e) = e
          one_is m (inr x) = absurd x

          from_is : IsAmong v (from ∷ []) → v ≡ from
          from_is (inl e) = e
          from_is (inr x) = absurd x

          one : a.names ≡ n ∷ [] → v ≡ from → Says (Answers from) s t
          one e f = record {
            names = news.names ++ n ∷ [];
            told = a.told ∙ ap (λ ns. news_to v r.outbox ++ ns) e ∙ ap (λ ns. ns ++ n ∷ []) news.told ∙ append_assoc (news_to v s.outbox) news.names (n ∷ []);
            once = once_both news.names (n ∷ []) news.once ((λ x. x), tt) (λ m x y. untold r care (subst (λ z. IsAmong z (news_to v r.outbox)) (one_is m y ∙ is) (among_there m x)));
            fresh = λ m x. fresh m (among_split m news.names (n ∷ []) x);
            settled = λ m x. settled m (among_split m news.names (n ∷ []) x);
          }
            where
              fresh : (m : Name) → IsAmong m news.names ⊎ IsAmong m (n ∷ []) → Answers from m ⊎ (SettledIn s m → ⊥)
              fresh m (inl x) = inr (news.fresh m x)
              fresh m (inr x) = inl (one_is m x ∙ is, f)

              settled : (m : Name) → IsAmong m news.names ⊎ IsAmong m (n ∷ []) → SettledIn t m
              settled m (inl x) = telling.stays_settled K v r t a.stays m (news.settled m x)
              settled m (inr x) = telling.stays_settled K v r t a.stays m (subst (SettledIn r) (sym (one_is m x)) k)

          go : (a.names ≡ []) ⊎ ((a.names ≡ n ∷ []) × IsAmong v (from ∷ [])) → Says (Answers from) s t
          go (inl e) = none e
          go (inr e) = one e.0 (from_is e.1)

      ends : Said n from r t → Told (Answers from) s t
      ends (inl g) = let base = settling.base K v in tells_told (Answers from) s t (base.trans first (settling.still_tells K v r t g))
      ends (inr (k, a)) = record {
        stays = λ m j y e o. a.stays m j y (first.stays m j y e o) o;
        distinct = λ d. a.distinct (first.distinct d);
        says = λ d. joins k a d;
      }

    -- the whole arrival, where the gift was not in hand
    pub arriving_ask : (from p : ℕ) (s t : Vat Name) → s.number ≡ h → AllOf (IsNamed h) s.gifts → Care s → arrive.arrive_ask K from p i s ≡ Gives tt t → Told (Answers from) s t
    unfolding arrive.arrive_ask ◌>>=◌ ◌>>◌ and_then look
    arriving_ask from p s t number named care e =
        let one = unbind (arrive.have_gift K p i s) _ tt t e in
        let n : Name = one.0 in let q : Vat Name = one.1 in
        let two = unbind (arrive.break_orphan K p i n q) _ tt t one.3 in
        let r : Vat Name = two.1 in
        let walked = settling.walked K v in let base = settling.base K v in
        let had : Tells s q = given_by Tells s q n (arrive.have_gift K p i s) one.2 ((having K Tells walked p i).after s) in
        let broke : Tells q r = given_by Tells q r tt (arrive.break_orphan K p i n q) two.2 ((breaking_orphan K Tells walked p i n).after q) in
        let cared : Care q = have_care p s q n number care one.2 in
        let orphan = fine_break_orphan K (Bares h i h) (bare_under h i h word) {C = IsEntry n} p i n (record { at = λ u c. c }) in
        let after = sound_given nothing q r tt (arrive.break_orphan K p i n q) two.2 (orphan.after q cared (λ c. refl)) in
        ends from s r t n (have_name p s q n number named one.2) (base.trans had broke) after.0
        (given_by (Said n from) r t tt _ two.3 (said n from r (standing_of K r.known n) refl))
