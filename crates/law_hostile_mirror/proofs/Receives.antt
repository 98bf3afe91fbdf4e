-- A note that comes in is received in numbers as in names.
use Rattle.std.proofs.Common.{◌≡◌, ℕ, Bool, true, false, not, ◌&&◌, if◌then◌else◌, List, [], ◌∷◌, Option, Some, None, refl, sym, ap, ◌∙◌, length, map}
use Rattle.std.specs.Prelude.{option_map, ◌==◌}
use Rattle.std.proofs.lemmas.Bool.{eq-eqb}
use Rattle.def_machine.specs.Arrive as machine
use Rattle.def_machine.specs.Arrive.{Incoming, Old, New, gift_at, opened_in}
use Rattle.def_machine.specs.Maps as maps
use Rattle.def_machine.specs.Maps.{incoming}
use Rattle.def_machine.specs.Receive.{Sight, is_told, is_hosted, was_told, host_by, next_key, has_number, tells_nothing, has_gift, leads_back, break_back, receive_by, receive}
use Rattle.def_machine.specs.Refs as refs
use Rattle.def_machine.specs.State.{Standing, Settled, Note, Deliver, Open, Ask, SettledTo, Elsewhere, Shorten, GiftEntry, Vat, Done, Gives, Throws, Ejects, Stops, Act, ◌>>=◌, and_then, look, give, is_gift, is_in}
use Rattle.def_machine.specs.Values.{Name, Local, Naming, key, Value, numbering, naming}
use Rattle.def_run.specs.Marks.{base}
use Rattle.law_machine.proofs.Machine.Keeps.{IsKept, IsKeptUnder}
use Rattle.law_machine.proofs.Machine.ArriveKeeps.{keeps_arrive_all}
use Rattle.law_machine.proofs.Renamed.Sim.{Books, Renames, Sim, Grows, grows, grows_under, id, sims}
use Rattle.law_machine.proofs.Renamed.SimRefs.{same_standing, same_host, sim_settle}
use Rattle.law_machine.proofs.Renamed.Stands.{step_stands, books_of, books_after, FitsTable, found_renames, is_renames}
use Rattle.law_machine.specs.Renamed.Renaming.{EndsWith}
use Rattle.law_machine.specs.Renamed.Stands.{Table, Found, Is, found, finding, IsTable, StandsFor}
use Rattle.law_frame.proofs.Local.CarryArrives.{arrives_same}
use Rattle.law_frame.specs.Frame.Alike.{as_told}
use Rattle.law_frame.specs.Heard.Hearing.{as_heard}
use Rattle.law_frame.specs.Local.Hearing.{unnamed}
use Rattle.law_hostile_mirror.specs.Receives.{SightsAgree, ViewsPlainly, ReceivingsGoTogether}

-- ---- what tells nothing

gift_changed : {A B : Type 0} (f : A → B) (p i : ℕ) (gs : List (GiftEntry A)) → gift_at p i (map (maps.gift f) gs) ≡ option_map (maps.gift f) (gift_at p i gs)
unfolding gift_at is_gift
gift_changed f p i [] = refl
gift_changed f p i (g ∷ gs) = by (is_gift p i g) (gift_changed f p i gs)
  where
    by : (b : Bool) → gift_at p i (map (maps.gift f) gs) ≡ option_map (maps.gift f) (gift_at p i gs) → ◌≡◌ {A = Option (GiftEntry _)} (elim b [ true ↦ Some (maps.gift f g) | false ↦ gift_at p i (map (maps.gift f) gs) ]) (option_map (maps.gift f) (elim b [ true ↦ Some g | false ↦ gift_at p i gs ]))
    by true e = refl
    by false e = e

told_changed : {A B : Type 0} (f : A → B) (x : Standing A) → is_told (maps.standing f x) ≡ is_told x
unfolding is_told
told_changed f (Settled y) = refl
told_changed f other = refl

opened_same : {A B C : Type 0} (f : A → C) (g : B → C) (o : Option (GiftEntry A)) (p : Option (GiftEntry B)) → option_map (maps.gift f) o ≡ option_map (maps.gift g) p → opened_in o ≡ opened_in p
unfolding opened_in
opened_same f g (Some x) (Some y) e = let i : maps.gift f x ≡ maps.gift g y = cc in ap (λ (z : GiftEntry _). z.opened) i
opened_same f g None None e = refl
opened_same f g (Some x) None e = cc
opened_same f g None (Some y) e = cc

hosted_same : {A B C : Type 0} (f : A → C) (g : B → C) (o : Option (GiftEntry A)) (p : Option (GiftEntry B)) → option_map (maps.gift f) o ≡ option_map (maps.gift g) p → is_hosted o ≡ is_hosted p
unfolding is_hosted
hosted_same f g (Some x) (Some y) e = refl
hosted_same f g None None e = refl
hosted_same f g (Some x) None e = cc
hosted_same f g None (Some y) e = cc

-- ---- a note as it is heard is received as the note

module _ (K : Naming Name Name) (b : Sight Name) (v u : ℕ) where
  heard_tells : (m : Note (Incoming Name Name)) (s : Vat Name) → tells_nothing K b v (as_heard v u m) s ≡ tells_nothing K b v m s
  unfolding as_heard as_told tells_nothing
  heard_tells (Deliver d x verb ys) s = refl
  heard_tells other s = refl

  heard_leads : (m : Note (Incoming Name Name)) (s : Vat Name) → leads_back K b (as_heard v u m) s ≡ leads_back K b m s
  unfolding as_heard as_told leads_back
  heard_leads (Deliver d x verb ys) s = refl
  heard_leads other s = refl

  heard_breaks : (m : Note (Incoming Name Name)) → break_back K (as_heard v u m) ≡ break_back K m
  unfolding as_heard as_told break_back
  heard_breaks (Deliver d x verb ys) = refl
  heard_breaks other = refl

elsewhere_heard : (v u : ℕ) (m : Note (Incoming Name Name)) (x : Incoming Name Name) (c : ℕ) → as_heard v u m ≡ Elsewhere x c → m ≡ Elsewhere x c
unfolding as_heard as_told
elsewhere_heard v u (Elsewhere y d) x c e = e
elsewhere_heard v u (Deliver d y verb ys) x c e = cc
elsewhere_heard v u (Open i y) x c e = cc
elsewhere_heard v u (Ask p i y) x c e = cc
elsewhere_heard v u (SettledTo y z) x c e = cc
elsewhere_heard v u (Shorten y d i) x c e = cc

-- ---- a name that leads back breaks alike

module _ {N M W V : Type 0} (f : N → M) (w : W → V) (K : Naming N W) (L : Naming M V) (Fits : Books M → Type 0) (law : Renames f w K L Fits) where
  kept : IsKept (Grows Fits)
  kept = grows Fits

  kept_under : IsKeptUnder L (Grows Fits)
  kept_under = grows_under L Fits law.before

  settles : (p : N) (y : Value N) (p' : M) (y' : Value M) → p' ≡ f p → y' ≡ maps.value f y → Sim f Fits id (refs.settle K p y) (refs.settle L p' y')
  settles = sim_settle f w K L Fits law

  sim_learn_name : (x : Incoming N W) → Sim f Fits f (machine.learn_name K x) (machine.learn_name L (incoming f w x))
  unfolding machine.learn_name
  sim_learn_name (Old n) = search sims
  sim_learn_name (New x h) = search (sims, law)

  sim_break_back : (x : Incoming N W) (c : ℕ) → Sim f Fits id (break_back K (Elsewhere x c)) (break_back L (Elsewhere (incoming f w x) c))
  unfolding break_back
  sim_break_back x c = search (sims, sim_learn_name, settles, keeps_arrive_all, kept, kept_under, law) depth 14

-- ---- both

module _ (word : ℕ → ℕ) (u : ℕ) (t : Table) (good : IsTable u t) (v : ℕ) (a : Sight Local) (b : Sight Name) (sights : SightsAgree u t a b) (q : Vat Local) (s : Vat Name) (number : s.number ≡ u) (stands : StandsFor u t q s) where
  abbrev K : Naming Local Local
  K = numbering word

  abbrev L : Naming Name Name
  L = naming word u

  abbrev F : Local → Found
  F = found u t

  gifts_same : (p i : ℕ) → option_map (maps.gift F) (gift_at p i q.gifts) ≡ option_map (maps.gift Is) (gift_at p i s.gifts)
  gifts_same p i = sym (gift_changed F p i q.gifts) ∙ ap (gift_at p i) (ap (λ (z : Vat Found). z.gifts) stands) ∙ gift_changed Is p i s.gifts

  standing_same : (k : Local) (n : Name) → F k ≡ Is n → is_told (refs.standing_of K q.known k) ≡ is_told (refs.standing_of L s.known n)
  standing_same k n e =
      sym (told_changed F (refs.standing_of K q.known k))
      ∙ ap is_told (sym (same_standing F (λ (z : Local). Name.Root 0) K (finding word u) (FitsTable u t good) (found_renames u t good word (λ (z : Local). Name.Root 0)) k q))
      ∙ ap (λ (z : Vat Found). is_told (refs.standing_of (finding word u) z.known (F k))) stands
      ∙ ap (λ x. is_told (refs.standing_of (finding word u) (map (maps.known Is) s.known) x)) e
      ∙ ap is_told (same_standing Is (λ z. z) L (finding word u) (λ (z : Books Found). Unit {0}) (is_renames word u) n s)
      ∙ told_changed Is (refs.standing_of L s.known n)

  host_same : (k : Local) (n : Name) → F k ≡ Is n → refs.host_at K q.number q.known k ≡ refs.host_at L s.number s.known n
  host_same k n e =
      sym (same_host F (λ (z : Local). Name.Root 0) K (finding word u) (FitsTable u t good) (found_renames u t good word (λ (z : Local). Name.Root 0)) k q)
      ∙ ap (λ (z : Vat Found). refs.host_at (finding word u) z.number z.known (F k)) stands
      ∙ ap (λ x. refs.host_at (finding word u) s.number (map (maps.known Is) s.known) x) e
      ∙ same_host Is (λ z. z) L (finding word u) (λ (z : Books Found). Unit {0}) (is_renames word u) n s

  told_same : (x : Incoming Local Local) (y : Incoming Name Name) → incoming F unnamed x ≡ incoming Is unnamed y → was_told K x q ≡ was_told L y s
  unfolding was_told
  told_same (Old k) (Old n) e = let i : F k ≡ Is n = cc in standing_same k n i
  told_same (New z h) (New y g) e = refl
  told_same (Old k) (New y g) e = cc
  told_same (New z h) (Old n) e = cc

  hosts_same : (x : Incoming Local Local) (y : Incoming Name Name) → incoming F unnamed x ≡ incoming Is unnamed y → host_by K x q ≡ host_by L y s
  unfolding host_by
  hosts_same (Old k) (Old n) e = let i : F k ≡ Is n = cc in host_same k n i
  hosts_same (New z h) (New y g) e = cc
  hosts_same (Old k) (New y g) e = cc
  hosts_same (New z h) (Old n) e = cc

  number_same : (o : Option (GiftEntry Local)) (p : Option (GiftEntry Name)) → option_map (maps.gift F) o ≡ option_map (maps.gift Is) p → has_number K a o ≡ has_number L b p
  unfolding has_number
  number_same (Some x) (Some y) e = let i : maps.gift F x ≡ maps.gift Is y = cc in sights.numbers x.name y.name (ap (λ (z : GiftEntry Found). z.name) i)
  number_same None None e = refl
  number_same (Some x) None e = cc
  number_same None (Some y) e = cc

  tells_same : (n : Note (Incoming Local Local)) (m : Note (Incoming Name Name)) → maps.note (incoming F unnamed) n ≡ maps.note (incoming Is unnamed) m → tells_nothing K a v n q ≡ tells_nothing L b v m s
  unfolding tells_nothing
  tells_same (Deliver d x verb ys) (Deliver e y word zs) i = refl
  tells_same (Open i x) (Open j y) e = let k : i ≡ j = cc in opened_same F Is (gift_at v i q.gifts) (gift_at v i s.gifts) (gifts_same v i) ∙ ap (λ z. opened_in (gift_at v z s.gifts)) k
  tells_same (Ask p i x) (Ask r j y) e = let k : i ≡ j = cc in let l : p ≡ r = cc in number_same (gift_at p i q.gifts) (gift_at p i s.gifts) (gifts_same p i) ∙ ap (λ z. has_number L b (gift_at p z s.gifts)) k ∙ ap (λ z. has_number L b (gift_at z j s.gifts)) l
  tells_same (SettledTo x y) (SettledTo z w) e = let k : incoming F unnamed x ≡ incoming Is unnamed z = cc in told_same x z k
  tells_same (Elsewhere x c) (Elsewhere z d) e = let k : incoming F unnamed x ≡ incoming Is unnamed z = cc in told_same x z k
  tells_same (Shorten x c i) (Shorten z d j) e = refl
  tells_same other another e = cc

  numbered : q.number ≡ u
  numbered = ap (λ (z : Vat Found). z.number) stands ∙ number

  drawn_same : q.drawn ≡ s.drawn
  drawn_same = ap (λ (z : Vat Found). z.drawn) stands

  noticed_same : q.noticed ≡ s.noticed
  noticed_same = ap (λ (z : Vat Found). z.noticed) stands

  key_same : (p : ℕ) → next_key K p q ≡ next_key L p s
  unfolding next_key numbering naming
  key_same p = ap (λ (ds : List ℕ). key p (word (length ds))) drawn_same

  key_is : (p : ℕ) → next_key L p s ≡ key p (word (length s.drawn))
  unfolding next_key naming
  key_is p = refl

  gift_same : (c h : ℕ) → base (key h (word (length s.drawn))) ≡ key h (word (length s.drawn)) → has_gift K a c h q ≡ has_gift L b c h s
  unfolding has_gift
  gift_same c h plain = by (c == q.number) (c == s.number) refl (ap (λ z. c == z) (ap (λ (z : Vat Found). z.number) stands))
    where
      clash : (d : Bool) → d ≡ true → d ≡ false → ⊥
      clash d i k = cc

      elsewhere : (c == q.number) ≡ false → c ≡ u → ⊥
      elsewhere e i = clash (c == q.number) (eq-eqb c q.number (i ∙ sym numbered)) e

      near : is_hosted (gift_at h (next_key K h q) q.gifts) ≡ is_hosted (gift_at h (next_key L h s) s.gifts)
      near = hosted_same F Is (gift_at h (next_key K h q) q.gifts) (gift_at h (next_key K h q) s.gifts) (gifts_same h (next_key K h q)) ∙ ap (λ z. is_hosted (gift_at h z s.gifts)) (key_same h)

      far : (c == q.number) ≡ false → a.knows c h (next_key K h q) ≡ b.knows c h (next_key L h s)
      far e = ap (a.knows c h) (key_same h ∙ key_is h) ∙ sights.knows c h (word (length s.drawn)) (elsewhere e) plain ∙ ap (b.knows c h) (sym (key_is h))

      by : (d e : Bool) → (c == q.number) ≡ d → d ≡ e → (if d then is_hosted (gift_at h (next_key K h q) q.gifts) else a.knows c h (next_key K h q)) ≡ (if e then is_hosted (gift_at h (next_key L h s) s.gifts) else b.knows c h (next_key L h s))
      by true true i k = near
      by false false i k = far i
      by true false i k = cc
      by false true i k = cc

  leads_same : (n : Note (Incoming Local Local)) (m : Note (Incoming Name Name)) → maps.note (incoming F unnamed) n ≡ maps.note (incoming Is unnamed) m → ViewsPlainly word u m s → leads_back K a n q ≡ leads_back L b m s
  unfolding leads_back
  leads_same (Elsewhere x c) (Elsewhere z d) e plain =
      let k : incoming F unnamed x ≡ incoming Is unnamed z = cc in let l : c ≡ d = cc in
      ap (λ ns. not (is_in c ns) && has_gift K a c (host_by K x q) q) noticed_same
      ∙ ap (λ h. not (is_in c s.noticed) && has_gift K a c h q) (hosts_same x z k)
      ∙ ap (λ g. not (is_in c s.noticed) && g) (gift_same c (host_by L z s) (plain z d (word (length s.drawn)) refl))
      ∙ ap (λ g. not (is_in g s.noticed) && has_gift L b g (host_by L z s) s) l
  leads_same (Deliver d x verb ys) (Deliver e y word zs) i plain = refl
  leads_same (Open i x) (Open j y) e plain = refl
  leads_same (Ask p i x) (Ask r j y) e plain = refl
  leads_same (SettledTo x y) (SettledTo z w) e plain = refl
  leads_same (Shorten x c i) (Shorten z d j) e plain = refl
  leads_same other another e plain = cc

  -- ---- how it ends

  books_end : (d : Done Name (Unit {0})) → EndsWith t d → books_after d ≡ books_of t
  books_end (Gives x r) h = cc (h.0, h.1)
  books_end (Throws x r) h = cc (h.0, h.1)
  books_end (Ejects x y r) h = cc (h.0, h.1)
  books_end (Stops x r) h = cc (h.0, h.1)

  breaks_by : (w : Local → Name) (x : Incoming Local Local) (y : Incoming Name Name) (c : ℕ) → incoming F w x ≡ incoming Is (λ z. z) y → books_after (break_back L (Elsewhere y c) s) ≡ books_of t
      → maps.done F id (break_back K (Elsewhere x c) q) ≡ maps.done Is id (break_back L (Elsewhere y c) s)
  breaks_by w x y c e books =
      step_stands u t good id id (break_back K (Elsewhere x c)) (break_back L (Elsewhere y c)) (break_back (finding word u) (Elsewhere (incoming F w x) c))
      (sim_break_back F w K (finding word u) (FitsTable u t good) (found_renames u t good word w) x c)
      (rw e (sim_break_back Is (λ z. z) L (finding word u) (λ (z : Books Found). Unit {0}) (is_renames word u) y c)) q s stands books

  breaks_one : (x : Incoming Local Local) (y : Incoming Name Name) (c : ℕ) → incoming F unnamed x ≡ incoming Is unnamed y → books_after (break_back L (Elsewhere y c) s) ≡ books_of t → maps.done F id (break_back K (Elsewhere x c) q) ≡ maps.done Is id (break_back L (Elsewhere y c) s)
  breaks_one (Old k) (Old n) c e books = let i : F k ≡ Is n = cc in breaks_by (λ z. Name.Root 0) (Old k) (Old n) c (ap Old i) books
  breaks_one (New z h) (New y g) c e books = let i : h ≡ g = cc in breaks_by (λ k. y) (New z h) (New y g) c (ap (λ j. New y j) i) books
  breaks_one (Old k) (New y g) c e books = cc
  breaks_one (New z h) (Old n) c e books = cc

  breaks_same : (n : Note (Incoming Local Local)) (m : Note (Incoming Name Name)) → maps.note (incoming F unnamed) n ≡ maps.note (incoming Is unnamed) m → leads_back L b m s ≡ true → books_after (break_back L m s) ≡ books_of t
      → maps.done F id (break_back K n q) ≡ maps.done Is id (break_back L m s)
  unfolding leads_back
  breaks_same (Elsewhere x c) (Elsewhere z d) e h books =
      let k : incoming F unnamed x ≡ incoming Is unnamed z = cc in let l : c ≡ d = cc in
      ap (λ g. maps.done F id (break_back K (Elsewhere x g) q)) l ∙ breaks_one x z d k books
  breaks_same n (Deliver d x verb ys) e h books = cc
  breaks_same n (Open i x) e h books = cc
  breaks_same n (Ask p i x) e h books = cc
  breaks_same n (SettledTo x y) e h books = cc
  breaks_same n (Shorten x c i) e h books = cc
  breaks_same other (Elsewhere z d) e h books = cc

  module _ (n : Note (Incoming Local Local)) (m : Note (Incoming Name Name)) (read : maps.note (incoming F unnamed) n ≡ maps.note (incoming Is unnamed) (as_heard v u m)) (plain : ViewsPlainly word u m s) (d : Done Name (Unit {0})) (ends : EndsWith t d) where
    abbrev ours : Bool → Bool → Done Local (Unit {0})
    ours x y = receive_by K x y v n q

    abbrev theirs : Bool → Bool → Done Name (Unit {0})
    theirs x y = receive_by L x y v m s

    by : (x y : Bool) → leads_back L b m s ≡ y → theirs x y ≡ d → maps.done F id (ours x y) ≡ maps.done Is id d
    unfolding receive_by give
    by true y l e = ap (Gives tt) stands ∙ ap (maps.done Is id) e
    by false true l e =
        let heard : break_back L (as_heard v u m) s ≡ d = ap (λ (f : Act Name (Unit {0})). f s) (heard_breaks L b v u m) ∙ e in
        breaks_same n (as_heard v u m) read (heard_leads L b v u m s ∙ l) (ap books_after heard ∙ books_end d ends) ∙ ap (maps.done Is id) heard
    by false false l e = arrives_same word u t good v n m read q s d stands e (books_end d ends)

    plainly : ViewsPlainly word u (as_heard v u m) s
    plainly x c w e = plain x c w (elsewhere_heard v u m x c e)

    pub receives_same : receive L b v m s ≡ d → maps.done F id (receive K a v n q) ≡ maps.done Is id d
    unfolding receive ◌>>=◌ look and_then
    receives_same e =
        let tells : tells_nothing K a v n q ≡ tells_nothing L b v m s = tells_same n (as_heard v u m) read ∙ heard_tells L b v u m s in
        let leads : leads_back K a n q ≡ leads_back L b m s = leads_same n (as_heard v u m) read plainly ∙ heard_leads L b v u m s in
        ap (λ x. maps.done F id (ours x (leads_back K a n q))) tells ∙ ap (λ y. maps.done F id (ours (tells_nothing L b v m s) y)) leads
        ∙ by (tells_nothing L b v m s) (leads_back L b m s) refl e

pub receivings_go_together : ReceivingsGoTogether
receivings_go_together word u t good v a b sights n m read q s d number plain stands e ends = receives_same word u t good v a b sights q s number stands n m read plain d ends e
