-- What the notes that were put in a step ask for, each once.
use Rattle.std.proofs.Common.{◌≡◌, ℕ, ◌≤◌, Bool, true, false, List, [], ◌∷◌, ◌++◌, refl, sym, ap, subst, ◌∙◌, ◌⊎◌, inl, inr, append_assoc, append-nil, arith, ◌==◌}
use Rattle.std.proofs.lemmas.Bool.{eqb-true, eq-eqb}
use Rattle.def_machine.specs.Values.{Name, Answer, Gift, Sent, Msg, answer_of}
use Rattle.def_machine.specs.State.{Note, Deliver, Ask, Put}
use Rattle.def_run.specs.World.{Link, with_link, pushed, push_all}
use Rattle.law_fate.specs.Fates.Fate.{total, of_note}
use Rattle.law_fate.specs.Name.Names.{AllOf, IsAmong, Once}
use Rattle.law_fate.proofs.Name.SameNames.{message_is}
use Rattle.law_reference.specs.Reference.Logs as wire
use Rattle.law_reference.proofs.Reference.LinksCut.{fits_pushed}
use Rattle.law_reference.proofs.Reference.AnswerLinks.{AtLink, with_any}
use Rattle.law_reference.proofs.Reference.Follow.{eq_dec}
use Rattle.law_frame.proofs.Frame.Exported.{among_split}
use Rattle.law_frame.proofs.Frame.Grow.{questions_twice}
use Rattle.law_frame.proofs.Frame.LinksKnown.{AsksOwn}
use Rattle.law_frame.proofs.Frame.Questions.{asked_or}
use Rattle.law_frame.proofs.Heard.CutCounts.{asks_bears}
use Rattle.law_frame.proofs.Heard.Questions.{pushed_log}
use Rattle.law_frame.proofs.Steady.GiftAsks.{gifts_asked, with_ask}

-- ---- lists

pub once_both : (xs ys : List Name) → Once xs → Once ys → ((z : Name) → IsAmong z xs → IsAmong z ys → ⊥) → Once (xs ++ ys)
once_both [] ys h k f = k
once_both (x ∷ xs) ys h k f = ((λ a. go (among_split x xs ys a)), once_both xs ys h.1 k (λ z a b. f z (inr a) b))
  where
    go : IsAmong x xs ⊎ IsAmong x ys → ⊥
    go (inl a) = h.0 a
    go (inr b) = f x (inl refl) b

pub once_last : (xs ys : List Name) → Once (xs ++ ys) → Once ys
once_last [] ys h = h
once_last (x ∷ xs) ys h = once_last xs ys h.1

pub once_apart : (xs ys : List Name) (z : Name) → Once (xs ++ ys) → IsAmong z xs → IsAmong z ys → ⊥
once_apart [] ys z h a b = a
once_apart (x ∷ xs) ys z h (inl e) b = h.0 (subst (λ n. IsAmong n (xs ++ ys)) e (right xs))
  where
    right : (xs : List Name) → IsAmong z (xs ++ ys)
    right [] = b
    right (y ∷ xs) = inr (right xs)
once_apart (x ∷ xs) ys z h (inr a) b = once_apart xs ys z h.1 a b

-- ---- what notes that are put ask of vat h

unfoldable pub where_to : Bool → List Name → List Name → List Name
where_to true qs rest = qs ++ rest
where_to false qs rest = rest

unfoldable pub asked_of : ℕ → List (Put Name) → List Name
asked_of h [] = []
asked_of h (p ∷ ps) = where_to (p.to == h) (wire.questions_in h (p.note ∷ [])) (asked_of h ps)

where_same : (p h : ℕ) (qs rest : List Name) → p ≡ h → where_to (p == h) qs rest ≡ qs ++ rest
unfolding where_to
where_same p h qs rest e = ap (λ b. where_to b qs rest) (eq-eqb p h e)

where_other : (p h : ℕ) (qs rest : List Name) → (p ≡ h → ⊥) → where_to (p == h) qs rest ≡ rest
unfolding where_to
where_other p h qs rest o = by (p == h) refl
  where
    by : (b : Bool) → (p == h) ≡ b → where_to b qs rest ≡ rest
    by true e = absurd (o (eqb-true p h e))
    by false e = refl

module _ (v h : ℕ) where
  abbrev pub Asks : List Name → Link → Type 0
  Asks qs k = wire.questions_in h k.log ≡ qs

  pushed_asks : (qs : List Name) (n : Note Name) (l : Link) → Asks qs l → Asks (qs ++ wire.questions_in h (n ∷ [])) (pushed n l)
  pushed_asks qs n l e = ap (wire.questions_in h) (pushed_log n l) ∙ questions_twice h l.log (n ∷ []) ∙ ap (λ xs. xs ++ wire.questions_in h (n ∷ [])) e

  last_asks : (qs zs : List Name) (ls : List Link) → qs ≡ zs → AtLink v h (Asks zs) ls → AtLink v h (Asks qs) ls
  last_asks qs zs ls e g = λ k i. g k i ∙ sym e

  one_asks : (qs rest : List Name) (p : Put Name) (ls ks : List Link) → (p.to ≡ h) ⊎ (p.to ≡ h → ⊥) → AtLink v h (Asks qs) ls → ((zs : List Name) → AtLink v h (Asks zs) (with_link (pushed p.note) v p.to ls) → AtLink v h (Asks (zs ++ rest)) ks)
      → AtLink v h (Asks (qs ++ where_to (p.to == h) (wire.questions_in h (p.note ∷ [])) rest)) ks
  one_asks qs rest p ls ks (inl e) f on = let qn = wire.questions_in h (p.note ∷ []) in
      last_asks (qs ++ where_to (p.to == h) qn rest) ((qs ++ qn) ++ rest) ks (ap (λ xs. qs ++ xs) (where_same p.to h qn rest e) ∙ sym (append_assoc qs qn rest))
      (on (qs ++ qn) (with_any v h v p.to (Asks (qs ++ qn)) (pushed p.note) (fits_pushed v h p.note) ls (λ l i j k. pushed_asks qs p.note l (f l i)) (λ l i o. absurd (o (refl, sym e)))))
  one_asks qs rest p ls ks (inr o) f on = let qn = wire.questions_in h (p.note ∷ []) in
      last_asks (qs ++ where_to (p.to == h) qn rest) (qs ++ rest) ks (ap (λ xs. qs ++ xs) (where_other p.to h qn rest o))
      (on qs (with_any v h v p.to (Asks qs) (pushed p.note) (fits_pushed v h p.note) ls (λ l i j k. absurd (o (sym k))) (λ l i k. f l i)))

  -- they are asked for at the end
  pub push_asks : (qs : List Name) (ps : List (Put Name)) (ls : List Link) → AtLink v h (Asks qs) ls → AtLink v h (Asks (qs ++ asked_of h ps)) (push_all v ps ls)
  unfolding push_all asked_of
  push_asks qs [] ls f = λ k e. f k e ∙ sym (append-nil qs)
  push_asks qs (p ∷ ps) ls f = one_asks qs (asked_of h ps) p ls (push_all v ps (with_link (pushed p.note) v p.to ls)) (eq_dec p.to h) f (λ zs g. push_asks zs ps (with_link (pushed p.note) v p.to ls) g)

-- ---- how a name is asked for

abbrev pub Own : Put Name → Type 0
Own p = AsksOwn p.to p.note

abbrev pub Puts : Msg → List (Put Name) → ℕ
Puts m ps = total (λ (p : Put Name). of_note (Sent m) p.note) ps

answer_is : (h : ℕ) (id : Name) (m : Msg) → id ≡ Sent m → answer_of h id ≡ Answer h m
unfolding answer_of
answer_is h id m e = ap (answer_of h) e

module _ (h : ℕ) (z : Name) where
  -- by a note that bears a message
  abbrev pub Borne : (Msg → ℕ) → Type 0
  Borne f = (m : Msg) × (z ≡ Answer h m) × (1 ≤ f m)

  by_note : (n : Note Name) → AsksOwn h n → IsAmong z (wire.questions_in h (n ∷ [])) → Borne (λ m. of_note (Sent m) n) ⊎ IsAmong z (with_ask n [])
  unfolding wire.questions_in with_ask
  by_note (Deliver d t verb ys) o a = either (asked_or d.asks (answer_of h d.message) z [] a)
    where
      either : ((d.asks ≡ true) × (z ≡ answer_of h d.message)) ⊎ ⊥ → Borne (λ m. of_note (Sent m) (Deliver d t verb ys)) ⊎ IsAmong z []
      either (inl e) = let m = message_is d.message o in let i = answer_is h d.message m.0 m.1 in inl (m.0, e.1 ∙ i, asks_bears h m.0 (Deliver d t verb ys) o (e.0, i))
      either (inr b) = absurd b
  by_note (Ask p i t) o a = inr a
  by_note other o a = absurd a

  ask_first : (n : Note Name) (gs : List Name) → IsAmong z (with_ask n []) → IsAmong z (with_ask n gs)
  unfolding with_ask
  ask_first (Ask p i t) gs (inl e) = inl e
  ask_first (Ask p i t) gs (inr a) = absurd a
  ask_first other gs a = absurd a

  ask_later : (n : Note Name) (gs : List Name) → IsAmong z gs → IsAmong z (with_ask n gs)
  unfolding with_ask
  ask_later (Ask p i t) gs a = inr a
  ask_later other gs a = a

  ask_twice : (n : Note Name) (gs : List Name) → Once (with_ask n gs) → IsAmong z (with_ask n []) → IsAmong z gs → ⊥
  unfolding with_ask
  ask_twice (Ask p i t) gs h (inl e) b = h.0 (subst (λ n. IsAmong n gs) e b)
  ask_twice (Ask p i t) gs h (inr a) b = a
  ask_twice other gs h a b = a

  abbrev pub AskedBy : List (Put Name) → Type 0
  AskedBy ps = Borne (λ m. Puts m ps) ⊎ IsAmong z (gifts_asked ps)

  by_first : (p : Put Name) (ps : List (Put Name)) → Borne (λ m. of_note (Sent m) p.note) ⊎ IsAmong z (with_ask p.note []) → AskedBy (p ∷ ps)
  unfolding total gifts_asked
  by_first p ps (inl b) = let k = b.2 in inl (b.0, b.1, omega arith)
  by_first p ps (inr a) = inr (ask_first p.note (gifts_asked ps) a)

  by_later : (p : Put Name) (ps : List (Put Name)) → AskedBy ps → AskedBy (p ∷ ps)
  unfolding total gifts_asked
  by_later p ps (inl b) = let k = b.2 in inl (b.0, b.1, omega arith)
  by_later p ps (inr a) = inr (ask_later p.note (gifts_asked ps) a)

  asked_either : (p : Put Name) (ps : List (Put Name)) → Own p → (p.to ≡ h) ⊎ (p.to ≡ h → ⊥) → IsAmong z (where_to (p.to == h) (wire.questions_in h (p.note ∷ [])) (asked_of h ps)) → (IsAmong z (asked_of h ps) → AskedBy ps) → AskedBy (p ∷ ps)
  asked_either p ps o (inl e) a f = by (among_split z qn (asked_of h ps) (subst (λ zs. IsAmong z zs) (where_same p.to h qn (asked_of h ps) e) a))
    where
      qn : List Name
      qn = wire.questions_in h (p.note ∷ [])

      by : IsAmong z qn ⊎ IsAmong z (asked_of h ps) → AskedBy (p ∷ ps)
      by (inl b) = by_first p ps (by_note p.note (subst (λ c. AsksOwn c p.note) e o) b)
      by (inr b) = by_later p ps (f b)
  asked_either p ps o (inr n) a f = by_later p ps (f (subst (λ zs. IsAmong z zs) (where_other p.to h (wire.questions_in h (p.note ∷ [])) (asked_of h ps) n) a))

  pub asked_at : (ps : List (Put Name)) → AllOf Own ps → IsAmong z (asked_of h ps) → AskedBy ps
  unfolding asked_of
  asked_at [] o a = absurd a
  asked_at (p ∷ ps) o a = asked_either p ps o.0 (eq_dec p.to h) a (λ b. asked_at ps o.1 b)

-- no gift is an answer
no_answer : (g c i : ℕ) (m : Msg) → Answer g m ≡ Gift c i → ⊥
no_answer g c i m e = cc

gift_rest : (g c : ℕ) (m : Msg) (n : Note Name) (gs : List Name) → AsksOwn c n → IsAmong (Answer g m) (with_ask n gs) → IsAmong (Answer g m) gs
unfolding with_ask
gift_rest g c m (Ask p i t) gs o (inl e) = absurd (no_answer g c i m (e ∙ o))
gift_rest g c m (Ask p i t) gs o (inr a) = a
gift_rest g c m other gs o a = a

no_gift : (g : ℕ) (m : Msg) (ps : List (Put Name)) → AllOf Own ps → IsAmong (Answer g m) (gifts_asked ps) → ⊥
unfolding gifts_asked
no_gift g m [] o a = a
no_gift g m (p ∷ ps) o a = no_gift g m ps o.1 (gift_rest g p.to m p.note (gifts_asked ps) o.0 a)

-- ---- each once

once_if : (b : Bool) (x : Name) → Once (wire.asked_if b x [])
unfolding wire.asked_if
once_if true x = (λ a. a, tt)
once_if false x = tt

once_note : (h : ℕ) (n : Note Name) → Once (wire.questions_in h (n ∷ []))
unfolding wire.questions_in
once_note h (Deliver d t verb ys) = once_if d.asks (answer_of h d.message)
once_note h (Ask p i t) = (λ a. a, tt)
once_note h other = tt

once_rest : (n : Note Name) (gs : List Name) → Once (with_ask n gs) → Once gs
unfolding with_ask
once_rest (Ask p i t) gs h = h.1
once_rest other gs h = h

one_fewer : (m : Msg) (p : Put Name) (ps : List (Put Name)) → Puts m (p ∷ ps) ≤ 1 → Puts m ps ≤ 1
unfolding total
one_fewer m p ps k = omega arith

two_puts : (m : Msg) (p : Put Name) (ps : List (Put Name)) → Puts m (p ∷ ps) ≤ 1 → 1 ≤ of_note (Sent m) p.note → 1 ≤ Puts m ps → ⊥
unfolding total
two_puts m p ps k a b = absurd (omega arith)

same_message : (h : ℕ) (m n : Msg) → Answer h m ≡ Answer h n → m ≡ n
same_message h m n e = cc

module _ (h : ℕ) (p : Put Name) (ps : List (Put Name)) (own : AllOf Own (p ∷ ps)) (one : (m : Msg) → Puts m (p ∷ ps) ≤ 1) (gifts : Once (with_ask p.note (gifts_asked ps))) where
  not_later : (z : Name) → Borne h z (λ m. of_note (Sent m) p.note) ⊎ IsAmong z (with_ask p.note []) → AskedBy h z ps → ⊥
  unfolding gifts_asked
  not_later z (inl b) (inl c) = let e : c.0 ≡ b.0 = same_message h c.0 b.0 (sym c.1 ∙ b.1) in two_puts b.0 p ps (one b.0) b.2 (subst (λ m. 1 ≤ Puts m ps) e c.2)
  not_later z (inl b) (inr a) = no_gift h b.0 ps own.1 (subst (λ n. IsAmong n (gifts_asked ps)) b.1 a)
  not_later z (inr a) (inl c) = no_gift h c.0 (p ∷ []) (own.0, tt) (subst (λ n. IsAmong n (with_ask p.note [])) c.1 a)
  not_later z (inr a) (inr b) = ask_twice h z p.note (gifts_asked ps) gifts a b

  first_once : (p.to ≡ h) ⊎ (p.to ≡ h → ⊥) → Once (asked_of h ps) → Once (where_to (p.to == h) (wire.questions_in h (p.note ∷ [])) (asked_of h ps))
  first_once (inl e) k = let qn = wire.questions_in h (p.note ∷ []) in subst (λ (zs : List Name). Once zs) (sym (where_same p.to h qn (asked_of h ps) e))
      (once_both qn (asked_of h ps) (once_note h p.note) k (λ z a b. not_later z (by_note h z p.note (subst (λ c. AsksOwn c p.note) e own.0) a) (asked_at h z ps own.1 b)))
  first_once (inr o) k = subst (λ (zs : List Name). Once zs) (sym (where_other p.to h (wire.questions_in h (p.note ∷ [])) (asked_of h ps) o)) k

-- where each message is put once at most, and each gift is asked for once
pub asked_once : (h : ℕ) (ps : List (Put Name)) → AllOf Own ps → ((m : Msg) → Puts m ps ≤ 1) → Once (gifts_asked ps) → Once (asked_of h ps)
unfolding asked_of gifts_asked
asked_once h [] own one gifts = tt
asked_once h (p ∷ ps) own one gifts = first_once h p ps own one gifts (eq_dec p.to h) (asked_once h ps own.1 (λ m. one_fewer m p ps (one m)) (once_rest p.note (gifts_asked ps) gifts))
