-- What the notes that were put tell one vat, and the log of the link to it.
use Rattle.std.proofs.Common.{◌≡◌, ℕ, Bool, true, false, List, [], ◌∷◌, ◌++◌, refl, sym, ap, ◌∙◌, ◌⊎◌, inl, inr, append_assoc, append-nil, ◌==◌}
use Rattle.std.proofs.lemmas.Bool.{eqb-true, eq-eqb}
use Rattle.def_machine.specs.Values.{Name}
use Rattle.def_machine.specs.State.{Note, SettledTo, Elsewhere, Put}
use Rattle.def_run.specs.World.{Link, with_link, pushed, push_all}
use Rattle.law_fate.specs.Name.Names.{AllOf, IsAmong}
use Rattle.law_reference.proofs.Reference.LinksCut.{fits_pushed}
use Rattle.law_reference.proofs.Reference.AnswerLinks.{AtLink, with_any}
use Rattle.law_reference.proofs.Reference.Follow.{eq_dec}
use Rattle.law_frame.specs.Frame.Asked.{told_in}
use Rattle.law_frame.proofs.Heard.Questions.{pushed_log}
use Rattle.law_order.specs.ToldOnce.Told.{with_news, news_in}

-- ---- lists of notes

news_front : (n : Note Name) (xs ys : List Name) → with_news n (xs ++ ys) ≡ with_news n xs ++ ys
unfolding with_news
news_front (SettledTo n y) xs ys = refl
news_front other xs ys = refl

pub news_twice : (xs ys : List (Note Name)) → news_in (xs ++ ys) ≡ news_in xs ++ news_in ys
unfolding news_in
news_twice [] ys = refl
news_twice (n ∷ xs) ys = ap (with_news n) (news_twice xs ys) ∙ news_front n (news_in xs) (news_in ys)

-- that a name settled is told in a note that names it
news_told : (z : Name) (n : Note Name) (ns : List Name) → IsAmong z (with_news n ns) → IsAmong z (told_in n) ⊎ IsAmong z ns
unfolding with_news told_in
news_told z (SettledTo n y) ns (inl e) = inl (inl e)
news_told z (SettledTo n y) ns (inr a) = inr a
news_told z (Elsewhere n c) ns (inl e) = inl (inl e)
news_told z (Elsewhere n c) ns (inr a) = inr a
news_told z other ns a = inr a

pub news_named : (z : Name) (ns : List (Note Name)) → IsAmong z (news_in ns) → (n : Note Name) × IsAmong n ns × IsAmong z (told_in n)
unfolding news_in
news_named z [] a = absurd a
news_named z (n ∷ ns) a = go (news_named z ns) (news_told z n (news_in ns) a)
  where
    go : (IsAmong z (news_in ns) → (m : Note Name) × IsAmong m ns × IsAmong z (told_in m)) → IsAmong z (told_in n) ⊎ IsAmong z (news_in ns) → (m : Note Name) × IsAmong m (n ∷ ns) × IsAmong z (told_in m)
    go f (inl b) = (n, inl refl, b)
    go f (inr b) = let r = f b in (r.0, inr r.1, r.2)

-- ---- the notes that were put to v

unfoldable pub note_if : Bool → Note Name → List (Note Name) → List (Note Name)
note_if true n ns = n ∷ ns
note_if false n ns = ns

unfoldable pub notes_to : ℕ → List (Put Name) → List (Note Name)
notes_to v [] = []
notes_to v (p ∷ ps) = note_if (p.to == v) p.note (notes_to v ps)

-- of which names they tell that they settled
abbrev pub news_to : ℕ → List (Put Name) → List Name
news_to v ps = news_in (notes_to v ps)

if_front : (b : Bool) (n : Note Name) (xs ys : List (Note Name)) → note_if b n (xs ++ ys) ≡ note_if b n xs ++ ys
unfolding note_if
if_front true n xs ys = refl
if_front false n xs ys = refl

notes_twice : (v : ℕ) (ps qs : List (Put Name)) → notes_to v (ps ++ qs) ≡ notes_to v ps ++ notes_to v qs
unfolding notes_to
notes_twice v [] qs = refl
notes_twice v (p ∷ ps) qs = ap (note_if (p.to == v) p.note) (notes_twice v ps qs) ∙ if_front (p.to == v) p.note (notes_to v ps) (notes_to v qs)

pub news_end : (v : ℕ) (ps : List (Put Name)) (p : Put Name) → news_to v (ps ++ p ∷ []) ≡ news_to v ps ++ news_to v (p ∷ [])
news_end v ps p = ap news_in (notes_twice v ps (p ∷ [])) ∙ news_twice (notes_to v ps) (notes_to v (p ∷ []))

-- what holds of each that was put holds of each that was put to v
pub all_to : (Q : Note Name → Type 0) (v : ℕ) (ps : List (Put Name)) → AllOf (λ (p : Put Name). Q p.note) ps → AllOf Q (notes_to v ps)
unfolding notes_to note_if
all_to Q v [] h = tt
all_to Q v (p ∷ ps) h = go (p.to == v) (all_to Q v ps h.1)
  where
    go : (b : Bool) → AllOf Q (notes_to v ps) → AllOf Q (note_if b p.note (notes_to v ps))
    go true k = (h.0, k)
    go false k = k

if_same : (p v : ℕ) (n : Note Name) (ns : List (Note Name)) → p ≡ v → note_if (p == v) n ns ≡ n ∷ ns
unfolding note_if
if_same p v n ns e = ap (λ b. note_if b n ns) (eq-eqb p v e)

if_other : (p v : ℕ) (n : Note Name) (ns : List (Note Name)) → (p ≡ v → ⊥) → note_if (p == v) n ns ≡ ns
unfolding note_if
if_other p v n ns o = by (p == v) refl
  where
    by : (b : Bool) → (p == v) ≡ b → note_if b n ns ≡ ns
    by true e = absurd (o (eqb-true p v e))
    by false e = refl

-- a note put to v alone, and one put to another
pub one_to : (v w : ℕ) (n : Note Name) → w ≡ v → notes_to v (record { to = w; note = n } ∷ []) ≡ n ∷ []
unfolding notes_to
one_to v w n e = if_same w v n [] e

pub none_to : (v w : ℕ) (n : Note Name) → (w ≡ v → ⊥) → notes_to v (record { to = w; note = n } ∷ []) ≡ []
unfolding notes_to
none_to v w n o = if_other w v n [] o

-- ---- the log of the link from u to v

module _ (u v : ℕ) where
  abbrev pub Logs : List (Note Name) → Link → Type 0
  Logs log l = l.log ≡ log

  pushed_logs : (log : List (Note Name)) (n : Note Name) (l : Link) → Logs log l → Logs (log ++ n ∷ []) (pushed n l)
  pushed_logs log n l e = pushed_log n l ∙ ap (λ ns. ns ++ n ∷ []) e

  last_logs : (log more : List (Note Name)) (ls : List Link) → log ≡ more → AtLink u v (Logs more) ls → AtLink u v (Logs log) ls
  last_logs log more ls e f = λ l i. f l i ∙ sym e

  one_logs : (log rest : List (Note Name)) (p : Put Name) (ls ks : List Link) → (p.to ≡ v) ⊎ (p.to ≡ v → ⊥) → AtLink u v (Logs log) ls → ((more : List (Note Name)) → AtLink u v (Logs more) (with_link (pushed p.note) u p.to ls) → AtLink u v (Logs (more ++ rest)) ks)
      → AtLink u v (Logs (log ++ note_if (p.to == v) p.note rest)) ks
  one_logs log rest p ls ks (inl e) f on = last_logs (log ++ note_if (p.to == v) p.note rest) ((log ++ p.note ∷ []) ++ rest) ks (ap (λ ns. log ++ ns) (if_same p.to v p.note rest e) ∙ sym (append_assoc log (p.note ∷ []) rest))
      (on (log ++ p.note ∷ []) (with_any u v u p.to (Logs (log ++ p.note ∷ [])) (pushed p.note) (fits_pushed u v p.note) ls (λ l i j k. pushed_logs log p.note l (f l i)) (λ l i o. absurd (o (refl, sym e)))))
  one_logs log rest p ls ks (inr o) f on = last_logs (log ++ note_if (p.to == v) p.note rest) (log ++ rest) ks (ap (λ ns. log ++ ns) (if_other p.to v p.note rest o))
      (on log (with_any u v u p.to (Logs log) (pushed p.note) (fits_pushed u v p.note) ls (λ l i j k. absurd (o (sym k))) (λ l i k. f l i)))

  -- what u put to v stands at its end
  pub push_logs : (log : List (Note Name)) (ps : List (Put Name)) (ls : List Link) → AtLink u v (Logs log) ls → AtLink u v (Logs (log ++ notes_to v ps)) (push_all u ps ls)
  unfolding push_all notes_to
  push_logs log [] ls f = λ l e. f l e ∙ sym (append-nil log)
  push_logs log (p ∷ ps) ls f = one_logs log (notes_to v ps) p ls (push_all u ps (with_link (pushed p.note) u p.to ls)) (eq_dec p.to v) f (λ more g. push_logs more ps (with_link (pushed p.note) u p.to ls) g)
