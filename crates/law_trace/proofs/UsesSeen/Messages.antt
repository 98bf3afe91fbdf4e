-- What messages are taken and carried with, where events have other names.
use Rattle.std.proofs.Common.{◌≡◌, ◌↔◌, ◌⊎◌, ◌++◌, ℕ, Bool, true, List, [], ◌∷◌, map, Option, Some, None, option_map, unwrap_or, refl, sym, ap, subst, ◌∙◌}
use Rattle.ev_base.specs.declared.names.Msg.{Msg}
use Rattle.ev_base.specs.declared.names.Name.{Name}
use Rattle.def_event.specs.declared.shown.Shown.{Shown}
use Rattle.def_event.specs.declared.note.ShownNote.{ShownNote}
use Rattle.def_event.specs.declared.note.ShownNote.TheVariants.{Deliver, DeliverOnly}
use Rattle.def_event.specs.declared.event.Event.{Event}
use Rattle.def_event.specs.declared.event.Event.TheVariants.{Frame, Carry, Take, Send, SendOnly, When}
use Rattle.def_event.specs.Uses.{Thing, AName, AList, Line, IsAmong, Reaches, IsListed, StandsIn, parts, all_parts, same_message, of_message, sent_with, delivered_with, carried_with, or_else, first_of, last_of, arguments_in, TakesSent, delivered, of_delivered, had, line_before, is_gift, CarriesThese, CarriesSent}
use Rattle.law_trace.proofs.UsesSeen.Same.{alike, among_map, among_same, either, if_same, image, joined, through}
use Rattle.law_trace.proofs.UsesSeen.Renaming.{Renaming, IsRenaming, AreLines, none, one, silent, AreEvents, no_event, one_event, silent_event, values, event, note, thing}
use Rattle.law_trace.proofs.UsesSeen.Facts.{things_apart}
use Rattle.law_trace.proofs.UsesSeen.Reaching.{listed_same, reach_same, reach_image}

-- ---- the first and the last of some that are told

else_same : {A B : Type 0} (g : A → B) (o p : Option A) → or_else (option_map g o) (option_map g p) ≡ option_map g (or_else o p)
else_same g None p = refl
else_same g (Some x) p = refl

else_none : {A : Type 0} (o : Option A) → or_else o None ≡ o
else_none None = refl
else_none (Some x) = refl

-- of which a line that shows a frame tells nothing
module _ {A B : Type 0} (r : Renaming) (g : A → B) (f : Event → Option A) (h : Event → Option B) (same : (e : Event) → h (event r e) ≡ option_map g (f e)) (quiet : (bytes : List ℕ) → f (Frame bytes) ≡ None) where
  first_same : (es fs : List Event) → AreEvents r es fs → first_of h fs ≡ option_map g (first_of f es)
  first_same es fs no_event = refl
  first_same es fs (one_event xs ys e a) = ap (λ (o : Option B). or_else o (first_of h ys)) (same e) ∙ ap (or_else (option_map g (f e))) (first_same xs ys a) ∙ else_same g (f e) (first_of f xs)
  first_same es fs (silent_event xs ys bytes a) = first_same xs ys a ∙ ap (λ (o : Option A). option_map g (or_else o (first_of f xs))) (sym (quiet bytes))

  last_same : (es fs : List Event) → AreEvents r es fs → last_of h fs ≡ option_map g (last_of f es)
  last_same es fs no_event = refl
  last_same es fs (one_event xs ys e a) = ap (λ (o : Option B). or_else o (h (event r e))) (last_same xs ys a) ∙ ap (or_else (option_map g (last_of f xs))) (same e) ∙ else_same g (last_of f xs) (f e)
  last_same es fs (silent_event xs ys bytes a) = last_same xs ys a ∙ ap (option_map g) (sym (else_none (last_of f xs)) ∙ ap (or_else (last_of f xs)) (sym (quiet bytes)))

things_or_none : (g : Thing → Thing) (o : Option (List Thing)) → unwrap_or (option_map (map g) o) [] ≡ map g (unwrap_or o [])
things_or_none g None = refl
things_or_none g (Some ts) = refl

-- a name under which the things of before stand is one of before
module _ (to : Name → Name) (P Q S T : Name → Type 0) (p : (n : Name) → S (to n) ↔ P n) (q : (n : Name) → T (to n) ↔ Q n) where
  one_way : ((m : Name) → S m → (n : Name) × (to n ≡ m)) → ((n : Name) → P n → Q n) → (m : Name) → S m → T m
  one_way known h m s = let n = known m s in subst T n.1 ((q n.0).1 (h n.0 ((p n.0).0 (subst S (sym n.1) s))))

module _ (r : Renaming) (good : IsRenaming r) where
  abbrev things_to : List Thing → List Thing
  things_to ts = map (thing r) ts

  -- ---- what lines send

  all_parts_same : (xs : List Shown) → all_parts (values r xs) ≡ things_to (all_parts xs)
  all_parts_same [] = refl
  all_parts_same (x ∷ xs) = joined (thing r) (parts x) (all_parts xs) (parts (r.value x)) (all_parts (values r xs)) (good.as_parts x) (all_parts_same xs)

  of_message_same : (m n : Msg) (ts us : List Thing) → us ≡ things_to ts → of_message (r.message m) (r.message n) us ≡ option_map things_to (of_message m n ts)
  of_message_same m n ts us e =
      if_same (option_map things_to) (same_message m n) (same_message (r.message m) (r.message n)) (Some ts) None (Some us) None (good.messages_same m n) (ap (λ (x : List Thing). Some x) e) refl

  parts_sent : (m n : Msg) (xs : List Shown) → of_message (r.message m) (r.message n) (all_parts (values r xs)) ≡ option_map things_to (of_message m n (all_parts xs))
  parts_sent m n xs = of_message_same m n (all_parts xs) (all_parts (values r xs)) (all_parts_same xs)

  sent_same : (m : Msg) (e : Event) → sent_with (r.message m) (event r e) ≡ option_map things_to (sent_with m e)
  unfolding sent_with
  sent_same m (Send s) = parts_sent m s.message s.args
  sent_same m (SendOnly s) = parts_sent m s.message s.args
  sent_same m (When w) = of_message_same m w.message (parts w.value) (parts (r.value w.value)) (good.as_parts w.value)
  sent_same m e = refl

  delivers_same : (m : Msg) (n : ShownNote) → delivered_with (r.message m) (note r n) ≡ option_map things_to (delivered_with m n)
  unfolding delivered_with
  delivers_same m (Deliver k target verb args) = parts_sent m k args
  delivers_same m (DeliverOnly k target verb args) = parts_sent m k args
  delivers_same m n = refl

  carried_same : (m : Msg) (e : Event) → carried_with (r.message m) (event r e) ≡ option_map things_to (carried_with m e)
  unfolding carried_with
  carried_same m (Carry k v w n) = delivers_same m n
  carried_same m e = refl

  no_sent : (m : Msg) (bytes : List ℕ) → sent_with m (Frame bytes) ≡ None
  unfolding sent_with
  no_sent m bytes = refl

  no_carried : (m : Msg) (bytes : List ℕ) → carried_with m (Frame bytes) ≡ None
  unfolding carried_with
  no_carried m bytes = refl

  arguments_same : (whole told : List Event) → AreEvents r whole told → (m : Msg) → arguments_in told (r.message m) ≡ things_to (arguments_in whole m)
  arguments_same whole told are m =
      let last : last_of (carried_with (r.message m)) told ≡ option_map things_to (last_of (carried_with m) whole) =
      last_same r things_to (carried_with m) (carried_with (r.message m)) (carried_same m) (no_carried m) whole told are in
      let first : first_of (sent_with (r.message m)) told ≡ option_map things_to (first_of (sent_with m) whole) =
      first_same r things_to (sent_with m) (sent_with (r.message m)) (sent_same m) (no_sent m) whole told are in
      ap (λ (o : Option (List Thing)). unwrap_or (or_else o (first_of (sent_with (r.message m)) told)) []) last
      ∙ ap (λ (o : Option (List Thing)). unwrap_or (or_else (option_map things_to (last_of (carried_with m) whole)) o) []) first
      ∙ ap (λ (o : Option (List Thing)). unwrap_or o []) (else_same things_to (last_of (carried_with m) whole) (first_of (sent_with m) whole))
      ∙ things_or_none (thing r) (or_else (last_of (carried_with m) whole) (first_of (sent_with m) whole))

  -- ---- what stands in arguments

  thing_image : (t : Thing) (n : Name) → thing r t ≡ AName n → (m : Name) × (t ≡ AName m) × (r.name m ≡ n)
  thing_image (AName m) n e = (m, refl, cc)
  thing_image (AList v k) n e = absurd cc

  module _ (past later : List Line) (is : AreLines r past later) where
    module _ (ts us : List Thing) (same : us ≡ things_to ts) where
      stands_same : (n : Name) → StandsIn later us (r.name n) ↔ StandsIn past ts n
      stands_same n =
          reach_same r good past later is (λ t. IsAmong t ts) (λ t. IsAmong t us) IsListed IsListed (λ t. among_same (thing r) (things_apart r good) t ts us same) (listed_same r good) (AName n)

      stands_image : (m : Name) → StandsIn later us m → (n : Name) × (r.name n ≡ m)
      stands_image m h =
          let known : (u : Thing) → IsAmong u us → (t : Thing) × (thing r t ≡ u) = λ u i. (let k = image (thing r) ts u (subst (IsAmong u) same i) in (k.0, k.2)) in
          let t = reach_image r good past later is (λ u. IsAmong u us) IsListed known (AName m) h in
          let n = thing_image t.0 m t.1 in
          (n.0, n.2)

    -- two lists of things stand for the same names exactly if they did
    stand_alike : (ts us vs ws : List Thing) → us ≡ things_to ts → ws ≡ things_to vs → ((n : Name) → StandsIn later us n ↔ StandsIn later ws n) ↔ ((n : Name) → StandsIn past ts n ↔ StandsIn past vs n)
    stand_alike ts us vs ws e f =
        let same = stands_same ts us e in
        let other = stands_same vs ws f in (
          λ all n. (λ h. (other n).0 ((all (r.name n)).0 ((same n).1 h)), λ h. (same n).0 ((all (r.name n)).1 ((other n).1 h))),
          λ all n. (
            one_way r.name (StandsIn past ts) (StandsIn past vs) (StandsIn later us) (StandsIn later ws) same other (stands_image ts us e) (λ m. (all m).0) n,
            one_way r.name (StandsIn past vs) (StandsIn past ts) (StandsIn later ws) (StandsIn later us) other same (stands_image vs ws f) (λ m. (all m).1) n,
          ),
        )

  pub takes_same : (whole told : List Event) → AreEvents r whole told → (past later : List Line) → AreLines r past later → (e : Event) → TakesSent told later (event r e) ↔ TakesSent whole past e
  unfolding TakesSent
  takes_same whole told are past later is (Take t) =
      stand_alike past later is (all_parts t.args) (all_parts (values r t.args)) (arguments_in whole t.message) (arguments_in told (r.message t.message)) (all_parts_same t.args) (arguments_same whole told are t.message)
  takes_same whole told are past later is e = (λ x. x, λ x. x)

  -- ---- what is carried

  abbrev delivery : Msg × List Thing → Msg × List Thing
  delivery d = (r.message d.0, things_to d.1)

  delivered_same : (n : ShownNote) → delivered (note r n) ≡ option_map delivery (delivered n)
  unfolding delivered
  delivered_same (Deliver m target verb args) = ap (λ (ts : List Thing). Some (r.message m, AName (r.name target) ∷ ts)) (all_parts_same args)
  delivered_same (DeliverOnly m target verb args) = ap (λ (ts : List Thing). Some (r.message m, AName (r.name target) ∷ ts)) (all_parts_same args)
  delivered_same n = refl

  of_delivered_same : (m : Msg) (o : Option (Msg × List Thing)) → of_delivered (r.message m) (option_map delivery o) ≡ option_map things_to (of_delivered m o)
  of_delivered_same m None = refl
  of_delivered_same m (Some d) = of_message_same m d.0 d.1 (things_to d.1) refl

  had_same : (m : Msg) (e : Event) → had (r.message m) (event r e) ≡ option_map things_to (had m e)
  unfolding had
  had_same m (Send s) =
      of_message_same m s.message (parts s.target ++ all_parts s.args ++ AName s.answer ∷ []) (parts (r.value s.target) ++ all_parts (values r s.args) ++ AName (r.name s.answer) ∷ [])
      (joined (thing r) (parts s.target ++ all_parts s.args) (AName s.answer ∷ []) (parts (r.value s.target) ++ all_parts (values r s.args)) (AName (r.name s.answer) ∷ []) (all_parts_same (s.target ∷ s.args)) refl)
  had_same m (SendOnly s) =
      of_message_same m s.message (parts s.target ++ all_parts s.args) (parts (r.value s.target) ++ all_parts (values r s.args)) (all_parts_same (s.target ∷ s.args))
  had_same m (Carry k v w n) = ap (of_delivered (r.message m)) (delivered_same n) ∙ of_delivered_same m (delivered n)
  had_same m e = refl

  no_had : (m : Msg) (bytes : List ℕ) → had m (Frame bytes) ≡ None
  unfolding had
  no_had m bytes = refl

  events_are : (past later : List Line) → AreLines r past later → AreEvents r (map (λ (l : Line). l.event) past) (map (λ (l : Line). l.event) later)
  events_are past later none = no_event
  events_are past later (one p q l is) = one_event (map (λ (x : Line). x.event) p) (map (λ (x : Line). x.event) q) l.event (events_are p q is)
  events_are past later (silent p q bytes is) = silent_event (map (λ (x : Line). x.event) p) (map (λ (x : Line). x.event) q) bytes (events_are p q is)

  -- a gift, or reached from what the line before of the message has
  abbrev MayCarry : List Line → Msg → Name → Type 0
  MayCarry past m n = (is_gift n ≡ true) ⊎ Reaches past (λ t. IsAmong t (line_before past m)) (λ w. Unit {0}) (AName n)

  module _ (past later : List Line) (is : AreLines r past later) where
    line_before_same : (m : Msg) → line_before later (r.message m) ≡ things_to (line_before past m)
    line_before_same m =
        let before = map (λ (l : Line). l.event) past in
        let after = map (λ (l : Line). l.event) later in
        ap (λ (o : Option (List Thing)). unwrap_or o []) (first_same r things_to (had m) (had (r.message m)) (had_same m) (no_had m) before after (events_are past later is)) ∙ things_or_none (thing r) (first_of (had m) before)

    may_carry_same : (m : Msg) (n : Name) → MayCarry later (r.message m) (r.name n) ↔ MayCarry past m n
    may_carry_same m n =
        let starts : (t : Thing) → IsAmong (thing r t) (line_before later (r.message m)) ↔ IsAmong t (line_before past m) =
        λ t. among_same (thing r) (things_apart r good) t (line_before past m) (line_before later (r.message m)) (line_before_same m) in
        either (alike (λ (b : Bool). b ≡ true) (is_gift (r.name n)) (is_gift n) (good.gifts n))
        (reach_same r good past later is (λ t. IsAmong t (line_before past m)) (λ t. IsAmong t (line_before later (r.message m))) (λ w. Unit {0}) (λ w. Unit {0}) starts (λ w. (λ x. x, λ x. x)) (AName n))

    these_same : (o : Option (Msg × List Thing)) → CarriesThese later (option_map delivery o) ↔ CarriesThese past o
    these_same None = (λ x. x, λ x. x)
    these_same (Some d) = (
      λ all n i. (may_carry_same d.0 n).0 (all (r.name n) (among_map (thing r) (AName n) d.1 i)),
      λ all m i.
          let t = image (thing r) d.1 (AName m) i in
          let n = thing_image t.0 m t.2 in
          subst (MayCarry later (r.message d.0)) n.2 ((may_carry_same d.0 n.0).1 (all n.0 (subst (λ (x : Thing). IsAmong x d.1) n.1 t.1))),
    )

    pub carries_same : (e : Event) → CarriesSent later (event r e) ↔ CarriesSent past e
    unfolding CarriesSent
    carries_same (Carry k v w n) = through (alike (CarriesThese later) (delivered (note r n)) (option_map delivery (delivered n)) (delivered_same n)) (these_same (delivered n))
    carries_same e = (λ x. x, λ x. x)
