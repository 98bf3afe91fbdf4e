-- What a vat noticed, it noticed before the step, or it is what the step notices.
use Rattle.std.proofs.Common.{◌≡◌, ℕ, Bool, true, false, List, [], ◌∷◌, ◌++◌, refl, ◌∙◌, ◌⊎◌, inl, inr, if◌then◌else◌, ◌==◌}
use Rattle.std.proofs.lemmas.Bool.{eqb-true}
use Rattle.def_machine.specs.Values.{Value, Naming}
use Rattle.def_machine.specs.State.{Known, Note, Deliver, Open, Ask, SettledTo, Elsewhere, Shorten, See, Settle, Settles as Told, with_change, Vat, Act, ◌>>=◌, ◌>>◌, and_then, each, give, look, tell, mark, alter, is_in}
use Rattle.def_machine.specs.Refs as refs
use Rattle.def_machine.specs.Arrive as arrive
use Rattle.def_machine.specs.Arrive.{Incoming}
use Rattle.law_reference.proofs.Reference.Entries.{Mild}
use Rattle.law_reference.proofs.Reference.Gentle.{AfterGives, Gentle, IsGentle, gentle, gives_by}
use Rattle.law_reference.proofs.Reference.Settles.{told_on}
use Rattle.law_reference.proofs.Reference.RefsGentle.{SettlesBy, GoodSettler, gentle_settle, gentle_send_on, gentle_inform}
use Rattle.law_reference.proofs.Reference.StepsGo.{Refers, IsFree, goes_learn_name, goes_gift_there, goes_arrive_open, goes_arrive_ask, goes_arrive_settled, goes_arrive_shorten, goes_notice_name, goes_notice_gift}
use Rattle.law_reference.proofs.Reference.StepsGentle.{gentle_refers, gentle_arrive_deliver}

abbrev pub SameNoticed : {N : Type 0} → Vat N → Vat N → Type 0
SameNoticed s t = t.noticed ≡ s.noticed

module _ {N W : Type 0} (K : Naming N W) where
  pub noticed_gentle : IsGentle K (SameNoticed {N = N})
  noticed_gentle = record {
    same = λ s. refl;
    trans = λ h k. k ∙ h;
    fuel = λ s n. refl;
    happened = λ s e. refl;
    list = λ s vs. refl;
    queue = λ s m. refl;
    outbox = λ s n. refl;
    gift = λ s g. refl;
    opened = λ s p i. refl;
    drawn = λ s w. refl;
    altered = λ s c n mild. refl;
    came = λ s c h. refl;
    mailed = λ s c. refl;
    lone = λ s id. refl;
    promised = λ s. refl;
    messaged = λ s h id. refl;
  }

  pub noticed_free : IsFree (SameNoticed {N = N})
  noticed_free = record { activations = λ s. refl; thing = λ s x. refl; killed = λ s n. refl; slot = λ s c. refl; written = λ s n x. refl }

  told_same : (settle : N → Value N → Act N (Unit {0})) → GoodSettler SameNoticed settle → (p : N) (y : Value N) (k : Known N) → Gentle SameNoticed (told_on K settle p y k)
  unfolding told_on
  told_same settle good p y k = let law : IsGentle K SameNoticed = noticed_gentle in search (gentle, gentle_send_on, gentle_inform) depth 14

  pub noticed_settles : SettlesBy K (SameNoticed {N = N})
  unfolding refs.settle_known told_on ◌>>◌ tell alter and_then
  noticed_settles settle good lasts settles p y k s e = (told_same settle good p y k).after (record s { happened = s.happened ++ Told p y ∷ []; known = with_change K (Settle y) p s.known })

  law : IsGentle K (SameNoticed {N = N})
  law = noticed_gentle

  block : SettlesBy K (SameNoticed {N = N})
  block = noticed_settles

  refers : Refers K (SameNoticed {N = N})
  refers = gentle_refers K SameNoticed law block

  same_view : (g n : N) → Gentle SameNoticed (alter K (See g) n)
  unfolding alter
  same_view g n = record { after = λ s. refl }

  same_see : (n g : N) → Gentle SameNoticed (arrive.see K n g)
  unfolding arrive.see
  same_see n g = search (gentle, same_view, law) depth 14

  same_there : (n : N) (c : ℕ) → Gentle SameNoticed (arrive.view_there K n c)
  unfolding arrive.view_there
  same_there n c = search (gentle, goes_gift_there, same_see, law, refers) depth 14

  same_elsewhere : (x : Incoming N W) (c : ℕ) → Gentle SameNoticed (arrive.arrive_elsewhere K x c)
  unfolding arrive.arrive_elsewhere
  same_elsewhere x c = search (gentle, goes_learn_name, gentle_settle, same_there, law, block, refers) depth 14

  pub same_arrive : (from : ℕ) (n : Note (Incoming N W)) → Gentle SameNoticed (arrive.arrive K from n)
  unfolding arrive.arrive
  same_arrive from (Deliver m x verb ys) = gentle_arrive_deliver K SameNoticed law block from m x verb ys
  same_arrive from (Open i x) = goes_arrive_open K Mild SameNoticed law refers from i x
  same_arrive from (Ask p i x) = goes_arrive_ask K Mild SameNoticed law refers from p i
  same_arrive from (SettledTo x y) = goes_arrive_settled K Mild SameNoticed law refers from x y
  same_arrive from (Elsewhere x c) = same_elsewhere x c
  same_arrive from (Shorten x c i) = goes_arrive_shorten K Mild SameNoticed law refers x i

  -- ---- the notice

  unfoldable pub breakings : ℕ → Act N (Unit {0})
  breakings w = look (λ s. s.known) >>= (λ names. each (arrive.notice_name K w) names >> (look (λ s. s.gifts) >>= (λ gifts. each (arrive.notice_gift K w) gifts)))

  pub same_breakings : (w : ℕ) → Gentle SameNoticed (breakings w)
  unfolding breakings
  same_breakings w = search (gentle, goes_notice_name, goes_notice_gift, law, refers) depth 14

  -- what is noticed in t was noticed in s, or is w
  abbrev pub NoticedOr : ℕ → Vat N → Vat N → Type 0
  NoticedOr w s t = (u : ℕ) → is_in u t.noticed ≡ true → (is_in u s.noticed ≡ true) ⊎ (u ≡ w)

  in_head : (b : Bool) (u w x : ℕ) (xs ys : List ℕ) → (b ≡ true → u ≡ x) → ((is_in u ys ≡ true) → (is_in u xs ≡ true) ⊎ (u ≡ w)) → (elim b [ true ↦ true | false ↦ is_in u ys ]) ≡ true → ((elim b [ true ↦ true | false ↦ is_in u xs ]) ≡ true) ⊎ (u ≡ w)
  in_head true u w x xs ys f g e = inl refl
  in_head false u w x xs ys f g e = g e

  in_last : (b : Bool) (u w : ℕ) → (b ≡ true → u ≡ w) → (elim b [ true ↦ true | false ↦ false ]) ≡ true → u ≡ w
  in_last true u w f e = f refl
  in_last false u w f e = cc

  pub in_append : (u w : ℕ) (xs : List ℕ) → is_in u (xs ++ w ∷ []) ≡ true → (is_in u xs ≡ true) ⊎ (u ≡ w)
  unfolding is_in
  in_append u w [] e = inr (in_last (u == w) u w (eqb-true u w) e)
  in_append u w (x ∷ xs) e = in_head (u == x) u w x xs (xs ++ w ∷ []) (eqb-true u x) (in_append u w xs) e

  noticed_all : (w : ℕ) (s : Vat N) → AfterGives (NoticedOr w s) (arrive.notice_all K w s)
  unfolding arrive.notice_all breakings ◌>>◌ mark and_then
  noticed_all w s = let t : Vat N = record s { noticed = s.noticed ++ w ∷ [] } in gives_by SameNoticed (NoticedOr w s) t (breakings w t) (λ u e x h. in_append x w s.noticed (rw e at h)) ((same_breakings w).after t)

  noticed_once : (w : ℕ) (s : Vat N) (b : Bool) → AfterGives (NoticedOr w s) ((if b then give tt else arrive.notice_all K w) s)
  unfolding give
  noticed_once w s true = λ u h. inl h
  noticed_once w s false = noticed_all w s

  pub noticed_or : (w : ℕ) (s : Vat N) → AfterGives (NoticedOr w s) (arrive.notice K w s)
  unfolding arrive.notice ◌>>=◌ look and_then
  noticed_or w s = noticed_once w s (is_in w s.noticed)
