-- Where the names come from that a vat knows of other vats: it asked for them, or they were told, or their host was noticed.
use Rattle.std.proofs.Common.{◌≡◌, ℕ, Bool, true, false, List, [], ◌∷◌, ◌++◌, Some, refl, sym, ap, subst, ◌∙◌, ◌⊎◌, inl, inr, append_assoc}
use Rattle.def_machine.specs.Values.{Value, Ref, Name, Gift, Sent as Message_name, host_of, answer_of}
use Rattle.def_machine.specs.State.{Passed, Passeds, Plain, AGift, Many, NoMore, More, Note, Deliver, Open, Ask, SettledTo, Elsewhere, Shorten, Put, Vat, is_in}
use Rattle.def_run.specs.World as world
use Rattle.def_run.specs.World.{Link}
use Rattle.law_fate.specs.Name.Names.{AllOf, IsAmong, IsMessageName, IsEventual, names_in}
use Rattle.law_fate.proofs.Name.Facts.{all_map}
use Rattle.law_reference.specs.Reference.Notes.{IsBetween, IsOfEither, PassesBetween, AllPassBetween, Carries}
use Rattle.law_reference.proofs.Reference.LinksCut.{fits_pushed, fits_notes, fits_severed}
use Rattle.law_frame.specs.Frame.Asked.{AsksOf, told_value, told_passed, told_all, told_in}
use Rattle.law_frame.specs.Frame.Tables.{arrived}
use Rattle.law_frame.proofs.Frame.ArriveAsking.{MailFits}
use Rattle.law_frame.proofs.Frame.Exported.{among_split, by_cases}
use Rattle.law_frame.proofs.Frame.LinksKnown.{AsksOwn, with_link_all, with_found_all, at_link}
use Rattle.law_frame.proofs.Frame.LinksGo.{Splits, LinkGoes, LinksGo, Lasts, Stays, with_link_lasts, links_on, links_same, with_link_goes, with_found_goes, with_link_here, pushed_goes, pushed_log, taken_goes, taken_arrived}

-- a note on that link asked for the name
abbrev pub AskedOn : Link → Name → Type 0
AskedOn m n = (x : Note Name) × IsAmong x m.log × AsksOf (host_of n) x n

-- a note on that link told it, which has arrived as long as the link is not cut; or it is a root of the link
abbrev pub ToldOn : Link → Name → Type 0
ToldOn l n = IsAmong n l.roots ⊎ ((x : Note Name) × IsAmong x l.log × (l.cut ≡ false → IsAmong x (arrived (Some l))) × IsAmong n (told_in x))

-- The vat is its host, or noticed its host; else it asked for it or was told of it.
abbrev pub Source : List Link → ℕ → Vat Name → Name → Type 0
Source ls v s n = (host_of n ≡ v) ⊎ ((is_in (host_of n) s.noticed ≡ true)
    ⊎ ((l m : Link) → world.link_at (host_of n) v ls ≡ Some l → world.link_at v (host_of n) ls ≡ Some m → AskedOn m n ⊎ ToldOn l n))

abbrev pub Sourced : List Link → ℕ → Vat Name → Type 0
Sourced ls v s = (n : Name) → IsAmong n (names_in s.known) → Source ls v s n

told_later : (l k : Link) → LinkGoes l k → (n : Name) → ToldOn l n → ToldOn k n
told_later l k h n (inl a) = inl (rw (sym h.roots) at a)
told_later l k h n (inr b) = inr (b.0, h.log b.0 b.1, (λ c. h.arrivals c b.0 (b.2 (h.uncut c))), b.3)

source_links : (ls ks : List Link) → LinksGo ls ks → (v : ℕ) (n : Name) → ((l m : Link) → world.link_at (host_of n) v ls ≡ Some l → world.link_at v (host_of n) ls ≡ Some m → AskedOn m n ⊎ ToldOn l n)
    → (l m : Link) → world.link_at (host_of n) v ks ≡ Some l → world.link_at v (host_of n) ks ≡ Some m → AskedOn m n ⊎ ToldOn l n
source_links ls ks h v n f l m e i = let a = h (host_of n) v l e in let b = h v (host_of n) m i in let g = a.2 in let k = b.2 in go g k (f a.0 b.0 a.1 b.1)
  where
    go : {l0 m0 : Link} → LinkGoes l0 l → LinkGoes m0 m → AskedOn m0 n ⊎ ToldOn l0 n → AskedOn m n ⊎ ToldOn l n
    go g k (inl x) = inl (x.0, k.log x.0 x.1, x.2)
    go {l0 = l0} g k (inr t) = inr (told_later l0 l g n t)

-- it stays so while the links and the vat go on
pub source_on : (ls ks : List Link) → LinksGo ls ks → (v : ℕ) (s t : Vat Name) → ((h : ℕ) → is_in h s.noticed ≡ true → is_in h t.noticed ≡ true) → (n : Name) → Source ls v s n → Source ks v t n
source_on ls ks h v s t f n (inl e) = inl e
source_on ls ks h v s t f n (inr (inl e)) = inr (inl (f (host_of n) e))
source_on ls ks h v s t f n (inr (inr g)) = inr (inr (source_links ls ks h v n g))

-- ---- notes that are put

true_false : (b : Bool) → b ≡ true → b ≡ false → ⊥
true_false b e f = cc

pushed_stays : (n : Note Name) → Stays (world.pushed n)
pushed_stays n a b l = let fits = fits_pushed a b n in fits.place a b l

notes_stay : (ns : List (Note Name)) → Stays (world.with_notes ns)
notes_stay ns a b l = let fits = fits_notes a b ns in fits.place a b l

pub severed_stay : Stays world.severed_link
severed_stay a b l = let fits = fits_severed a b in fits.place a b l

splits_either : (n : Note Name) (l : Link) (b : Bool) → l.cut ≡ b → Splits l → Splits (elim b [ true ↦ record l { log = l.log ++ n ∷ [] } | false ↦ record l { notes = l.notes ++ n ∷ []; log = l.log ++ n ∷ [] } ])
splits_either n l true c h = λ e. absurd (true_false l.cut c e)
splits_either n l false c h = λ e. let s = h e in (s.0, ap (λ ns. ns ++ n ∷ []) s.1 ∙ append_assoc s.0 l.notes (n ∷ []))

pushed_splits : (n : Note Name) (l : Link) → Splits l → Splits (world.pushed n l)
unfolding world.pushed
pushed_splits n l h = splits_either n l l.cut refl h

push_splits : (n : Note Name) (v w : ℕ) (ls : List Link) → AllOf Splits ls → AllOf Splits (world.with_link (world.pushed n) v w ls)
push_splits n v w ls h = with_link_all Splits (world.pushed n) v w (λ l a b i. pushed_splits n l i) ls h

push_goes : (n : Note Name) (v w : ℕ) (ls : List Link) → AllOf Splits ls → LinksGo ls (world.with_link (world.pushed n) v w ls)
push_goes n v w ls h = with_link_goes (world.pushed n) (pushed_stays n) v w ls (all_map (λ l i. pushed_goes n l i) ls h)

pub push_all_goes : (v : ℕ) (ps : List (Put Name)) (ls : List Link) → AllOf Splits ls → LinksGo ls (world.push_all v ps ls)
unfolding world.push_all
push_all_goes v [] ls h = links_same ls
push_all_goes v (p ∷ ps) ls h = let one : List Link = world.with_link (world.pushed p.note) v p.to ls in links_on ls one (world.push_all v ps one) (push_goes p.note v p.to ls h) (push_all_goes v ps one (push_splits p.note v p.to ls h))

pub push_all_lasts : (v : ℕ) (ps : List (Put Name)) (ls : List Link) → Lasts ls (world.push_all v ps ls)
unfolding world.push_all
push_all_lasts v [] ls = λ a b t. t
push_all_lasts v (p ∷ ps) ls = λ a b t. push_all_lasts v ps (world.with_link (world.pushed p.note) v p.to ls) a b (with_link_lasts (world.pushed p.note) (pushed_stays p.note) v p.to ls a b t)

pub take_lasts : (ns : List (Note Name)) (from v : ℕ) (ls : List Link) → Lasts ls (world.with_link (world.with_notes ns) from v ls)
take_lasts ns from v ls = with_link_lasts (world.with_notes ns) (notes_stay ns) from v ls

first_logged : (v : ℕ) (p : Put Name) (ps : List (Put Name)) (ls : List Link) → AllOf Splits ls → (m : Link) → world.link_at v p.to (world.push_all v (p ∷ ps) ls) ≡ Some m → IsAmong p.note m.log
unfolding world.push_all
first_logged v p ps ls h m e = let one : List Link = world.with_link (world.pushed p.note) v p.to ls in let found = push_all_goes v ps one (push_splits p.note v p.to ls h) v p.to m e in let goes = found.2 in
    let was = with_link_here (world.pushed p.note) (pushed_stays p.note) v p.to ls found.0 found.1 in goes.log p.note (rw (sym was.2) at (pushed_log p.note was.0))

rest_logged : (v : ℕ) (p q : Put Name) (ps : List (Put Name)) (ls : List Link) (m : Link) → ((m : Link) → world.link_at v p.to (world.push_all v ps (world.with_link (world.pushed q.note) v q.to ls)) ≡ Some m → IsAmong p.note m.log) → world.link_at v p.to (world.push_all v (q ∷ ps) ls) ≡ Some m → IsAmong p.note m.log
unfolding world.push_all
rest_logged v p q ps ls m f e = f m e

logged : (v : ℕ) (ps : List (Put Name)) (ls : List Link) → AllOf Splits ls → (p : Put Name) → IsAmong p ps → (m : Link) → world.link_at v p.to (world.push_all v ps ls) ≡ Some m → IsAmong p.note m.log
logged v [] ls h p a m e = absurd a
logged v (q ∷ ps) ls h p (inl i) m e = let to : p.to ≡ q.to = ap (λ (r : Put Name). r.to) i in let note : q.note ≡ p.note = ap (λ (r : Put Name). r.note) (sym i) in rw note at (first_logged v q ps ls h m (rw to at e))
logged v (q ∷ ps) ls h p (inr a) m e = rest_logged v p q ps ls m (λ k i. logged v ps (world.with_link (world.pushed q.note) v q.to ls) (push_splits q.note v q.to ls h) p a k i) e

pub answer_host : (to : ℕ) (m : Name) → IsMessageName m → host_of (answer_of to m) ≡ to
unfolding answer_of host_of
answer_host to (Message_name m) h = refl
answer_host to other h = absurd h

pub gift_host : (to i : ℕ) → host_of (Gift to i) ≡ to
unfolding host_of
gift_host to i = refl

-- what is asked for is of the vat that is asked
asks_host : (to : ℕ) (x : Note Name) (n : Name) → MailFits x → AsksOwn to x → AsksOf to x n → host_of n ≡ to
asks_host to (Deliver d t verb ys) n h k e = ap host_of (sym e.1) ∙ answer_host to d.message h
asks_host to (Ask p i t) n h k e = ap host_of (sym e ∙ k) ∙ gift_host to i
asks_host to other n h k e = absurd e

-- a name for which a note was put
pub source_asked : (ls : List Link) → AllOf Splits ls → (v : ℕ) (t : Vat Name) (n : Name) (p : Put Name) → IsAmong p t.outbox → MailFits p.note → AsksOwn p.to p.note → AsksOf p.to p.note n → Source (world.push_all v t.outbox ls) v t n
source_asked ls h v t n p a f o k = let host : host_of n ≡ p.to = asks_host p.to p.note n f o k in
    inr (inr (λ l m e i. inl (p.note, logged v t.outbox ls h p a m (rw host at i), rw (sym host) at k)))

some_is : (l j : Link) → Some l ≡ Some j → l ≡ j
some_is l j e = cc

log_same : (x : Note Name) (ns : List (Note Name)) (l : Link) → IsAmong x l.log → IsAmong x (world.with_notes ns l).log
unfolding world.with_notes
log_same x ns l a = a

among_mid : {A : Type 0} (x : A) (front rest : List A) → IsAmong x (front ++ x ∷ rest)
among_mid x [] rest = inl refl
among_mid x (y ∷ front) rest = inr (among_mid x front rest)

-- what is under way was put
pub waiting_logged : (x : Note Name) (ns : List (Note Name)) (l : Link) → l.notes ≡ x ∷ ns → (front : List (Note Name)) × (l.log ≡ front ++ l.notes) → IsAmong x l.log
waiting_logged x ns l e s = subst (λ ms. IsAmong x ms) (sym (s.1 ∙ ap (λ ms. s.0 ++ ms) e)) (among_mid x s.0 ns)

cut_before : (ns : List (Note Name)) (l : Link) → (world.with_notes ns l).cut ≡ false → l.cut ≡ false
unfolding world.with_notes
cut_before ns l e = e

pub taken_splits : (x : Note Name) (ns : List (Note Name)) (l : Link) → l.notes ≡ x ∷ ns → Splits l → Splits (world.with_notes ns l)
unfolding world.with_notes
taken_splits x ns l e h = λ c. let s = h c in (s.0 ++ x ∷ [], s.1 ∙ ap (λ ms. s.0 ++ ms) e ∙ sym (append_assoc s.0 (x ∷ []) ns))

-- the links once the note was taken
pub take_goes : (x : Note Name) (ns : List (Note Name)) (from v : ℕ) (l : Link) (ls : List Link) → world.link_at from v ls ≡ Some l → l.notes ≡ x ∷ ns → AllOf Splits ls → LinksGo ls (world.with_link (world.with_notes ns) from v ls)
take_goes x ns from v l ls at e h = with_found_goes (world.with_notes ns) (notes_stay ns) from v l ls at (taken_goes x ns l e (at_link Splits from v l ls h at).0)

pub take_splits : (x : Note Name) (ns : List (Note Name)) (from v : ℕ) (l : Link) (ls : List Link) → world.link_at from v ls ≡ Some l → l.notes ≡ x ∷ ns → AllOf Splits ls → AllOf Splits (world.with_link (world.with_notes ns) from v ls)
take_splits x ns from v l ls at e h = with_found_all Splits (world.with_notes ns) from v l (λ j same a b i. taken_splits x ns j (ap (λ (z : Link). z.notes) same ∙ e) i) ls at h

-- a name that the note tells which arrives
pub source_told : (ls : List Link) → AllOf Splits ls → (from v : ℕ) (l : Link) (x : Note Name) (ns : List (Note Name)) → world.link_at from v ls ≡ Some l → l.notes ≡ x ∷ ns → l.cut ≡ false → (t : Vat Name) (ps : List (Put Name)) → AllOf Splits (world.with_link (world.with_notes ns) from v ls) → (n : Name) → host_of n ≡ from → IsAmong n (told_in x)
    → Source (world.push_all v ps (world.with_link (world.with_notes ns) from v ls)) v t n
source_told ls h from v l x ns at e uncut t ps later n host told = inr (inr (λ j m i q. inr (inr (x, logged_there j (rw host at i), (λ c. there j (rw host at i) c), told))))
  where
    logged_there : (j : Link) → world.link_at from v (world.push_all v ps (world.with_link (world.with_notes ns) from v ls)) ≡ Some j → IsAmong x j.log
    logged_there j i = let found = push_all_goes v ps (world.with_link (world.with_notes ns) from v ls) later from v j i in let goes = found.2 in
        let was = with_link_here (world.with_notes ns) (notes_stay ns) from v ls found.0 found.1 in
        let same : was.0 ≡ l = some_is was.0 l (sym was.1 ∙ at) in
        let split : Splits l = (at_link Splits from v l ls h at).0 in
        goes.log x (rw (sym was.2) at (log_same x ns was.0 (subst (λ (z : Link). IsAmong x z.log) (sym same) (waiting_logged x ns l e (split uncut)))))

    there : (j : Link) → world.link_at from v (world.push_all v ps (world.with_link (world.with_notes ns) from v ls)) ≡ Some j → j.cut ≡ false → IsAmong x (arrived (Some j))
    there j i c = let found = push_all_goes v ps (world.with_link (world.with_notes ns) from v ls) later from v j i in let goes = found.2 in
        let was = with_link_here (world.with_notes ns) (notes_stay ns) from v ls found.0 found.1 in
        let same : was.0 ≡ l = some_is was.0 l (sym was.1 ∙ at) in
        let kept : (was.0).cut ≡ false = let uncut : (found.0).cut ≡ false = goes.uncut c in cut_before ns was.0 (ap (λ (z : Link). z.cut) (sym was.2) ∙ uncut) in
        let notes : (was.0).notes ≡ x ∷ ns = ap (λ (z : Link). z.notes) same ∙ e in
        let split : Splits was.0 = (at_link Splits from v was.0 ls h was.1).0 in
        goes.arrivals c x (rw (sym was.2) at (taken_arrived x ns was.0 notes split kept))

-- ---- what a note tells is of one of the two vats

module _ (a v : ℕ) (n : Name) where
  abbrev pub OfEither : Type 0
  OfEither = (host_of n ≡ a) ⊎ (host_of n ≡ v)

  value_either : (y : Value Name) → IsOfEither a v y → IsAmong n (told_value y) → OfEither
  unfolding told_value
  value_either (Ref m) (inl h) (inl e) = inl (ap host_of e ∙ h)
  value_either (Ref m) (inr h) (inl e) = inr (ap host_of e ∙ h)
  value_either (Ref m) h (inr b) = absurd b
  value_either other h b = absurd b

  mutual
    unfolding told_passed told_all

    pub passed_either : (y : Passed Name) → PassesBetween a v y → IsAmong n (told_passed y) → OfEither
    passed_either (Plain y) h b = value_either y h b
    passed_either (AGift w i) h b = absurd b
    passed_either (Many ys) h b = all_either ys h b

    pub all_either : (ys : Passeds Name) → AllPassBetween a v ys → IsAmong n (told_all ys) → OfEither
    all_either NoMore h b = absurd b
    all_either (More y ys) h b = by_cases (among_split n (told_passed y) (told_all ys) b) (λ c. passed_either y h.0 c) (λ c. all_either ys h.1 c)

  pub told_either : (x : Note Name) → IsEventual n → IsBetween a v x → Carries a v x → IsAmong n (told_in x) → OfEither
  unfolding told_in
  told_either (Deliver m t verb ys) o h k (inl e) = inr (ap host_of e ∙ h)
  told_either (Deliver m t verb ys) o h k (inr b) = all_either ys k.0 b
  told_either (Open i t) o h k (inl e) = inr (ap host_of e ∙ h)
  told_either (Ask p i t) o h k b = absurd b
  told_either (SettledTo t y) o h k (inl e) = inl (ap host_of e ∙ h)
  told_either (SettledTo t y) o h k (inr b) = passed_either y k b
  told_either (Elsewhere t c) o h k (inl e) = inl (ap host_of e ∙ h)
  told_either (Shorten t c i) o h k (inl e) = inr (ap host_of e ∙ h (rw e at o))
  told_either other o h k (inr b) = absurd b
