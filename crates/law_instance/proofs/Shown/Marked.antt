-- A step by names that are marked, each by whether it is no gift that prints by its word: where each name that is known after the step is none, neither is any in what the step leaves, lines too.
use Rattle.std.proofs.Common.{◌≡◌, ℕ, Bool, true, false, List, [], ◌∷◌, ◌++◌, refl, sym, ap, subst, ◌∙◌, map}
use Rattle.def_machine.specs.Values.{Name, Root, Object, Gift, Sent, same_reference, spot_of, Naming, Coming, IsRoot, Mailing, IsSent, IsCarried, mail_of, name_of, naming}
use Rattle.def_machine.specs.State.{Known, Vat, Done, Gives, Act}
use Rattle.def_machine.specs.Maps as maps
use Rattle.def_machine.specs.Maps.{coming, mailing}
use Rattle.def_run.specs.World.{World, readied}
use Rattle.law_fate.specs.Name.Names.{AllOf, IsAmong, IsMessageName, IsHad, IsKnownIn, Parts, names_in}
use Rattle.law_fate.proofs.Name.Among.{all_among}
use Rattle.law_frame.proofs.Frame.Same.{vat_same as marked_same}
use Rattle.law_machine.proofs.Renamed.MapMaps.{vat_twice}
use Rattle.law_machine.proofs.Renamed.Same.{vat_same}
use Rattle.law_machine.proofs.Renamed.Sim.{Books, Renames, Sim, FitsAfter, IsBefore, names, id}
use Rattle.law_instance.proofs.Shown.Low.{is_low, IsLow}

-- a name, and whether it does not print by its word
abbrev pub Marked : Type 0
Marked = Name × Bool

abbrev pub marked : Name → Marked
marked n = (n, is_low n)

abbrev pub sure : Name → Marked
sure n = (n, true)

abbrev plain : Marked → Name
plain m = m.0

abbrev self : Name → Name
self n = n

-- the name where it is marked, and else another
unfoldable pub kept : Marked → Name
kept m = elim m.1 [ true ↦ m.0 | false ↦ Root 0 ]

abbrev pub keep : Name → Name
keep n = kept (marked n)

-- ---- names that are known are sure

pub low_sure : (n : Name) → IsLow n → marked n ≡ sure n
low_sure n h = ap (λ b. (n, b)) h

module _ (ks : List Name) (low : AllOf IsLow ks) where
  pub known_low : (n : Name) → IsKnownIn ks n → IsLow n
  unfolding is_low
  known_low (Object w i) h = refl
  known_low other h = all_among IsLow ks other low h

  mail_sure : (ms : List Name) → AllOf IsMessageName ms → (n : Name) → IsAmong n ms → marked n ≡ sure n
  unfolding is_low
  mail_sure ms h (Gift w i) a = absurd (all_among IsMessageName ms (Gift w i) h a)
  mail_sure ms h other a = refl

  had_sure : (ms : List Name) → AllOf IsMessageName ms → map marked ms ≡ map sure ms
  unfolding is_low
  had_sure [] h = refl
  had_sure (Sent m ∷ ms) h = ap (λ ns. sure (Sent m) ∷ ns) (had_sure ms h.1)
  had_sure other h = absurd h.0

  -- so is each name in a state with such names, as a step finds it
  pub state_sure : (x : World) (s : Vat Name) → AllOf IsMessageName s.mails → Parts (IsHad ks s.mails) s.things s.slots s.lists s.queue s.known s.gifts s.outbox → maps.vat marked (readied x s) ≡ maps.vat sure (readied x s)
  unfolding readied
  state_sure x s mails parts = marked_same marked sure (IsHad ks s.mails) (IsHad ks s.mails) (λ n p q. low_sure n (known_low n p)) (λ n p q. mail_sure s.mails mails n p) (λ n p q. low_sure n (known_low n p)) (λ n i p q. low_sure n (known_low n p)) (readied x s) s.outbox (had_sure s.mails mails) refl refl parts parts

-- ---- two readings of the machine

abbrev Free : Books Marked → Type 0
Free b = Unit {0}

abbrev IsSure : Marked → Type 0
IsSure m = is_low m.0 ≡ true

-- each name known, and each message, is
abbrev pub AllSure : Books Marked → Type 0
AllSure b = AllOf IsSure b.names × AllOf IsSure b.mails

all_first : (xs ys : List Marked) → AllOf IsSure (xs ++ ys) → AllOf IsSure xs
all_first [] ys h = tt
all_first (x ∷ xs) ys h = (h.0, all_first xs ys h.1)

all_last : (xs : List Marked) (x : Marked) → AllOf IsSure (xs ++ x ∷ []) → IsSure x
all_last [] x h = h.0
all_last (y ∷ xs) x h = all_last xs x h.1

sure_marked : (a b : Name) → a ≡ b → is_low a ≡ true → sure a ≡ marked b
sure_marked a b e h = ap (λ t. (a, t)) (sym h) ∙ ap (λ z. marked z) e

module _ (word : ℕ → ℕ) (v : ℕ) where
  abbrev K : Naming Name Name
  K = naming word v

  -- what comes to be is sure
  unfoldable pub Marking : Naming Marked Name
  Marking = record { object = λ i. sure (Object v i); made = λ c k. sure (name_of v (coming plain self c)); mailed = λ c k. sure (mail_of v c); spot = λ m. spot_of v m.0; same = λ a b. same_reference a.0 b.0; word = word }

  marked_name : (c : Coming Name Name) → name_of v (coming plain self (coming marked self c)) ≡ name_of v c
  marked_name (IsRoot w) = refl
  marked_name other = refl

  sure_name : (c : Coming Name Name) → name_of v (coming plain self (coming sure self c)) ≡ name_of v c
  sure_name (IsRoot w) = refl
  sure_name other = refl

  same_mail : (c : Mailing Name) → mail_of v (mailing self c) ≡ mail_of v c
  same_mail (IsSent i) = refl
  same_mail (IsCarried x) = refl

  before : IsBefore AllSure
  before = record { names = λ ns ns' ms h. (all_first ns ns' h.0, h.1); mails = λ ns ms ms' h. (h.0, all_first ms ms' h.1) }

  pub marked_renames : Renames marked self K Marking AllSure
  unfolding naming Marking is_low
  marked_renames = record {
    object = λ i. refl;
    spot = λ n. refl;
    same = λ a b. refl;
    word = λ i. refl;
    made = λ c ns ms h. sure_marked (name_of v (coming plain self (coming marked self c))) (name_of v c) (marked_name c) (all_last ns _ h.0);
    mailed = λ c ns ms h. sure_marked (mail_of v (mailing self c)) (mail_of v c) (same_mail c) (all_last ms _ h.1);
    before = before;
  }

  pub sure_renames : Renames sure self K Marking Free
  unfolding naming Marking
  sure_renames = record {
    object = λ i. refl;
    spot = λ n. refl;
    same = λ a b. refl;
    word = λ i. refl;
    made = λ c ns ms h. ap sure (sure_name c);
    mailed = λ c ns ms h. ap sure (same_mail c);
    before = record { names = λ ns ns' ms h. tt; mails = λ ns ms ms' h. tt };
  }

-- ---- what a step leaves

known_sure : (ks : List (Known Name)) → AllOf IsLow (names_in ks) → AllOf IsSure (names (map (maps.known sure) ks))
known_sure [] h = tt
known_sure (k ∷ ks) h = (h.0, known_sure ks h.1)

mails_sure : (ms : List Name) → AllOf IsMessageName ms → AllOf IsSure (map sure ms)
unfolding is_low
mails_sure [] h = tt
mails_sure (Sent m ∷ ms) h = (refl, mails_sure ms h.1)
mails_sure other h = absurd h.0

free : {A : Type 0} (o : Done Marked A) → FitsAfter Free o
free (Gives a t) = tt
free other = tt

kept_sure : (r : Vat Name) → maps.vat marked r ≡ maps.vat sure r → r ≡ maps.vat (keep) r
unfolding kept
kept_sure r e = sym (vat_same r) ∙ sym (vat_twice sure kept r) ∙ sym (ap (λ z. maps.vat kept z) e) ∙ vat_twice marked kept r

given_is : (s t : Vat Marked) → ◌≡◌ {A = Done Marked (Unit {0})} (Gives tt s) (Gives tt t) → s ≡ t
given_is s t e = cc

-- Where each name was made by then, a step from a state in which each is sure leaves each as it was.
pub left_kept : (m : Act Name (Unit {0})) (k : Act Marked (Unit {0})) → Sim marked AllSure id m k → Sim sure Free id m k → (s r : Vat Name) → maps.vat marked s ≡ maps.vat sure s → m s ≡ Gives tt r → AllOf IsLow (names_in r.known) → AllOf IsMessageName r.mails → r ≡ maps.vat (keep) r
left_kept m k f g s r same gives known mails =
    let there : k (maps.vat sure s) ≡ Gives tt (maps.vat sure r) = g.at s (free (k (maps.vat sure s))) ∙ ap (λ o. maps.done sure id o) gives in
    let here : k (maps.vat marked s) ≡ Gives tt (maps.vat sure r) = ap k same ∙ there in
    let fits : FitsAfter AllSure (k (maps.vat marked s)) = subst (λ o. FitsAfter AllSure o) (sym here) (known_sure r.known known, mails_sure r.mails mails) in
    let both : Gives tt (maps.vat marked r) ≡ Gives tt (maps.vat sure r) = sym (ap (λ o. maps.done marked id o) gives) ∙ sym (f.at s fits) ∙ here in
    kept_sure r (given_is (maps.vat marked r) (maps.vat sure r) both)
