-- Whatever a vat does by names that it has, and however that ends: messages stay messages, and no message comes to be known.
use Rattle.std.proofs.Common.{◌≡◌, ℕ, suc, ◌-◌, true, false, List, [], ◌∷◌, ◌++◌, refl, sym, ap, subst, ◌∙◌, map}
use Rattle.def_machine.specs.Values.{Value, Name, Object, Promise, Answer, Sent, same_reference, spot_of, Naming, Coming, IsAnswer, IsLearnt, Mailing, IsSent, IsCarried, answer_of, mail_of, name_of, naming}
use Rattle.def_machine.specs.State.{Binding, Message, Thing, Made, Known, Change, Note, Vat, Done, Gives, Throws, Ejects, Stops, Act, Took, change, dead, holding, with_opened, changed, with_change, alter, come, mail, new_promise, new_message, new_lone_message, begun}
use Rattle.def_machine.specs.Refs as refs
use Rattle.def_machine.specs.Arrive as arrive
use Rattle.def_machine.specs.Arrive.{Incoming}
use Rattle.def_machine.specs.Eval as eval
use Rattle.def_kernel.specs.declared.node.Node.{Node}
use Rattle.law_machine.specs.Machine.Steps.{After}
use Rattle.law_machine.proofs.Machine.Walks.{IsClosed, InRefs, InRefsUnder, InSettling, where_some}
use Rattle.law_machine.proofs.Machine.Blocks.{Singles, SinglesUnder, refs_under_of, settling_of, arrive_of, arrive_under_of, eval_of, eval_under_of}
use Rattle.law_machine.proofs.Machine.RefsWalk.{walk_settle, walk_send_on, walk_resolve}
use Rattle.law_machine.proofs.Machine.ArriveWalk.{walk_arrive, walk_notice}
use Rattle.law_machine.proofs.Machine.EvalWalk.{walk_taking, walk_opening}
use Rattle.law_machine.proofs.Machine.Keeps.{Keeps, KeepsBy, IsKept, keeps_closed, keeps_ends, keeps_singles, keeps_draw, keeps_bind, keeps_then, keeps_activation, keeps_tell}
use Rattle.law_machine.proofs.Machine.RefsKeeps.{keeps_in_refs, keeps_settle}
use Rattle.law_fate.specs.Name.Names.{AllOf, IsMessageName, names_in}
use Rattle.law_fate.proofs.Name.Facts.{all_end}
use Rattle.law_fate.proofs.Name.Among.{names_end}
use Rattle.law_fate.proofs.Name.Tracked.{names_change}
use Rattle.def_machine.specs.Maps as maps
use Rattle.def_machine.specs.Maps.{coming, mailing, incoming}
use Rattle.law_machine.proofs.Renamed.Sim.{Books, Renames, Sim, FitsAfter, Grows, grows, grows_under, id}
use Rattle.law_machine.proofs.Renamed.SimRefs.{sim_settle, sim_send_on}
use Rattle.law_machine.proofs.Renamed.SimArrive.{sim_arrive, sim_notice}
use Rattle.law_machine.proofs.Renamed.SimEval.{sim_taking, sim_opening}
use Rattle.law_machine.proofs.Renamed.Same.{value_same, vat_same}

abbrev pub IsNoMessage : Name → Type 0
IsNoMessage (Sent m) = ⊥
IsNoMessage other = Unit {0}

pub record Parted (s t : Vat Name) : Type 0 where
  pub names : AllOf IsNoMessage (names_in s.known) → AllOf IsNoMessage (names_in t.known)
  pub mails : AllOf IsMessageName s.mails → AllOf IsMessageName t.mails

pub stays : (s t : Vat Name) → names_in t.known ≡ names_in s.known → t.mails ≡ s.mails → Parted s t
stays s t e f = record { names = λ h. subst (λ ns. AllOf IsNoMessage ns) (sym e) h; mails = λ h. subst (λ ns. AllOf IsMessageName ns) (sym f) h }

all_known : (ks : List (Known Name)) (n : Name) (h : ℕ) → IsNoMessage n → AllOf IsNoMessage (names_in ks) → AllOf IsNoMessage (names_in (ks ++ begun n h ∷ []))
unfolding begun
all_known ks n h p a = subst (λ ns. AllOf IsNoMessage ns) (sym (names_end ks (begun n h))) (all_end IsNoMessage (names_in ks) n a p)

-- a name comes to be known, and a message is had
pub grown : (s t : Vat Name) (n : Name) (h : ℕ) → IsNoMessage n → t.known ≡ s.known ++ begun n h ∷ [] → t.mails ≡ s.mails → Parted s t
grown s t n h p e f = record { names = λ a. subst (λ ks. AllOf IsNoMessage (names_in ks)) (sym e) (all_known s.known n h p a); mails = λ a. subst (λ ns. AllOf IsMessageName ns) (sym f) a }

pub posted : (s t : Vat Name) (n : Name) → IsMessageName n → names_in t.known ≡ names_in s.known → t.mails ≡ s.mails ++ n ∷ [] → Parted s t
posted s t n p e f = record { names = λ a. subst (λ ns. AllOf IsNoMessage ns) (sym e) a; mails = λ a. subst (λ ns. AllOf IsMessageName ns) (sym f) (all_end IsMessageName s.mails n a p) }

pub base : IsKept Parted
base = record {
  same = λ s. stays s s refl refl;
  trans = λ h k. record { names = λ a. k.names (h.names a); mails = λ a. k.mails (h.mails a) };
  fuel = λ s n. stays s (record s { fuel = s.fuel - n }) refl refl;
  happened = λ s e. stays s (record s { happened = s.happened ++ e ∷ [] }) refl refl;
  activations = λ s. stays s (record s { activations = suc s.activations }) refl refl;
  thing = λ s t. stays s (record s { things = s.things ++ t ∷ [] }) refl refl;
  killed = λ s n. stays s (record s { things = change dead n s.things }) refl refl;
  slot = λ s c. stays s (record s { slots = s.slots ++ c ∷ [] }) refl refl;
  written = λ s n y. stays s (record s { slots = change (holding y) n s.slots }) refl refl;
  list = λ s vs. stays s (record s { lists = s.lists ++ vs ∷ [] }) refl refl;
  queue = λ s m. stays s (record s { queue = s.queue ++ m ∷ [] }) refl refl;
  outbox = λ s n. stays s (record s { outbox = s.outbox ++ n ∷ [] }) refl refl;
  gift = λ s g. stays s (record s { gifts = s.gifts ++ g ∷ [] }) refl refl;
  opened = λ s p i. stays s (record s { gifts = with_opened p i s.gifts }) refl refl;
  noticed = λ s w. stays s (record s { noticed = s.noticed ++ w ∷ [] }) refl refl;
  drawn = λ s w. stays s (record s { drawn = s.drawn ++ w ∷ [] }) refl refl;
}

pub answered : (h : ℕ) (n : Name) → IsNoMessage (answer_of h n)
unfolding answer_of
answered h (Sent m) = tt
answered h other = tt

-- ---- a naming by which nothing is learnt

abbrev never : ⊥ → Name
never b = absurd b

abbrev self : Name → Name
self n = n

abbrev Free : Books Name → Type 0
Free b = Unit {0}

module _ (word : ℕ → ℕ) (v : ℕ) where
  abbrev K : Naming Name Name
  K = naming word v

  unfoldable Closed : Naming Name ⊥
  Closed = record { object = Object v; made = λ c k. name_of v (coming self never c); mailed = λ c k. mail_of v (mailing never c); spot = spot_of v; same = same_reference; word = word }

  abbrev P : {A : Type 0} → Act Name A → Type 0
  P m = Keeps Parted m

  -- each name of the one is that of the other
  renames : Renames self never Closed K Free
  unfolding naming Closed
  renames = record {
    object = λ i. refl;
    spot = λ n. refl;
    same = λ a b. refl;
    word = λ i. refl;
    made = λ c ns ms h. refl;
    mailed = λ c ns ms h. refl;
    before = record { names = λ ns ns' ms h. tt; mails = λ ns ms ms' h. tt };
  }

  -- ---- there all that is done parts names and messages

  made_name : (c : Coming Name ⊥) → IsNoMessage (name_of v (coming self never c))
  unfolding name_of
  made_name (IsAnswer h m) = answered h m
  made_name (IsLearnt x) = absurd x
  made_name other = tt

  made_mail : (c : Mailing ⊥) → IsMessageName (mail_of v (mailing never c))
  unfolding mail_of
  made_mail (IsSent i) = tt
  made_mail (IsCarried x) = absurd x

  same_change : (c : Change Name) (n : Name) (ks : List (Known Name)) → with_change Closed c n ks ≡ with_change K c n ks
  unfolding with_change Closed naming
  same_change c n [] = refl
  same_change c n (k ∷ ks) = ap (λ (js : List (Known Name)). elim (same_reference k.name n) [ true ↦ changed c k ∷ ks | false ↦ k ∷ js ]) (same_change c n ks)

  alters : (c : Change Name) (n : Name) → P (alter Closed c n)
  unfolding alter
  alters c n = record { after = λ s. stays s (record s { known = with_change Closed c n s.known }) (ap (λ ks. names_in ks) (same_change c n s.known) ∙ names_change K c n s.known) refl }

  comes : (c : Coming Name ⊥) (h : ℕ) → P (come Closed c h)
  unfolding come Closed
  comes c h = record { after = λ s. grown s (record s { known = s.known ++ begun (name_of v (coming self never c)) h ∷ [] }) (name_of v (coming self never c)) h (made_name c) refl refl }

  mails : (c : Mailing ⊥) → P (mail Closed c)
  unfolding mail Closed
  mails c = record { after = λ s. posted s (record s { mails = s.mails ++ mail_of v (mailing never c) ∷ [] }) (mail_of v (mailing never c)) (made_mail c) refl refl }

  promises : P (new_promise Closed)
  unfolding new_promise Closed name_of
  promises = record { after = λ s. grown s _ (Promise v s.promises) s.number tt refl refl }

  messages : (h : ℕ) → P (new_message Closed h)
  unfolding new_message Closed name_of mail_of answer_of
  messages h = record {
    after = λ s. let id : Name = Sent (record { sender = v; number = s.messages }) in let a : Name = Answer h (record { sender = v; number = s.messages }) in
        let t : Vat Name = record s { mails = s.mails ++ id ∷ [] } in base.trans (posted s t id tt refl refl) (grown t (record t { messages = suc s.messages; known = s.known ++ begun a h ∷ [] }) a h tt refl refl);
  }

  lone : P (new_lone_message Closed)
  unfolding new_lone_message Closed mail_of
  lone = record { after = λ s. let id : Name = Sent (record { sender = v; number = s.messages }) in posted s (record s { messages = suc s.messages; mails = s.mails ++ id ∷ [] }) id tt refl refl }

  under : SinglesUnder (KeepsBy Parted) Closed
  under = record { alters = alters; comes = comes; mails = mails; promises = promises; messages = messages; lone_messages = lone; draws = keeps_draw Closed Parted base }

  abbrev closed : IsClosed (KeepsBy Parted)
  closed = keeps_closed Parted base

  abbrev singles : Singles (KeepsBy Parted)
  singles = keeps_singles Parted base

  in_refs : InRefs (KeepsBy Parted)
  in_refs = keeps_in_refs Parted base

  refs_under : InRefsUnder (KeepsBy Parted) Closed
  refs_under = refs_under_of (KeepsBy Parted) closed singles Closed under

  settling : InSettling (KeepsBy Parted) Closed
  settling = settling_of (KeepsBy Parted) closed singles Closed under

  settles_closed : (p : Name) (y : Value Name) → P (refs.settle Closed p y)
  settles_closed = walk_settle (KeepsBy Parted) Closed closed in_refs refs_under settling

  -- ---- and so it is of what is done by the names themselves

  free : {A : Type 0} (d : Done Name A) → FitsAfter Free d
  free (Gives a t) = tt
  free other = tt

  from_map : {A B : Type 0} (g : A → B) (s : Vat Name) (d : Done Name A) → After Parted s d → After Parted s (maps.done self g d)
  from_map g s (Gives a t) h = subst (λ z. Parted s z) (sym (vat_same t)) h
  from_map g s (Throws p t) h = subst (λ z. Parted s z) (sym (vat_same t)) h
  from_map g s (Ejects n y t) h = subst (λ z. Parted s z) (sym (vat_same t)) h
  from_map g s (Stops c t) h = subst (λ z. Parted s z) (sym (vat_same t)) h

  by_closed : {A B : Type 0} (g : A → B) (m : Act Name A) (n : Act Name B) → Sim self Free g m n → P m → P n
  by_closed g m n f h = record { after = λ s. subst (λ d. After Parted s d) (sym (f.at s (free (n (maps.vat self s)))) ∙ ap n (vat_same s)) (from_map g s (m s) (h.after s)) }

  head_same : {A : Type 0} (a b : A) → ◌≡◌ {A = List A} (a ∷ []) (b ∷ []) → a ≡ b
  head_same a b e = cc

  message_same : (m : Message Name) (s : Vat Name) → maps.message self m ≡ m
  message_same m s = head_same (maps.message self m) m (ap (λ (z : Vat Name). z.queue) (vat_same (record s { queue = m ∷ [] })))

  caught_of : List (Thing Name) → List (Binding Name)
  caught_of (Made node bs stamps ∷ ts) = bs
  caught_of _ = []

  bindings_same : (bs : List (Binding Name)) (s : Vat Name) → map (maps.binding self) bs ≡ bs
  unfolding caught_of
  bindings_same bs s = ap (λ (z : Vat Name). caught_of z.things) (vat_same (record s { things = Made 0 bs [] ∷ [] }))

  pub settles : (p : Name) (y : Value Name) → P (refs.settle K p y)
  settles p y = by_closed id (refs.settle Closed p y) (refs.settle K p y) (sim_settle self never Closed K Free renames p y p y refl (sym (value_same y))) (settles_closed p y)

  pub sends : (m : Message Name) → P (refs.send_on K (refs.settle K) m)
  sends m = record {
    after = λ s. subst (λ z. After Parted s (refs.send_on K (refs.settle K) z s)) (message_same m s)
        ((by_closed id (refs.send_on Closed (refs.settle Closed) m) (refs.send_on K (refs.settle K) (maps.message self m))
        (sim_send_on self never Closed K Free renames (refs.settle Closed) (refs.settle K) (sim_settle self never Closed K Free renames) (keeps_settle K (Grows Free) (grows Free) (grows_under K Free renames.before)) m)
        (walk_send_on (KeepsBy Parted) Closed closed in_refs refs_under (refs.settle Closed) settles_closed m)).after s);
  }

  -- a note with no name that is new
  pub arrives_closed : (from : ℕ) (n : Note (Incoming Name ⊥)) → P (arrive.arrive K from (maps.note (incoming self never) n))
  arrives_closed from n = by_closed id (arrive.arrive Closed from n) (arrive.arrive K from (maps.note (incoming self never) n)) (sim_arrive self never Closed K Free renames from n)
      (walk_arrive (KeepsBy Parted) Closed closed in_refs refs_under settling (arrive_of (KeepsBy Parted) closed singles) (arrive_under_of (KeepsBy Parted) closed singles Closed under) from n)

  pub notices : (w : ℕ) → P (arrive.notice K w)
  notices w = by_closed id (arrive.notice Closed w) (arrive.notice K w) (sim_notice self never Closed K Free renames w)
      (walk_notice (KeepsBy Parted) Closed closed in_refs refs_under settling (arrive_of (KeepsBy Parted) closed singles) (arrive_under_of (KeepsBy Parted) closed singles Closed under) w)

  resolves_closed : (p : Name) (y : Value Name) → P (refs.resolve Closed p y)
  resolves_closed = walk_resolve (KeepsBy Parted) Closed closed in_refs refs_under settling

  pub takes : (tree : List Node) (depth : ℕ) (m : Message Name) → P (eval.taking K tree depth m)
  takes tree depth m = record {
    after = λ s. subst (λ z. After Parted s (eval.taking K tree depth z s)) (message_same m s)
        ((by_closed id (eval.taking Closed tree depth m) (eval.taking K tree depth (maps.message self m)) (sim_taking self never Closed K Free renames tree depth m)
        (walk_taking (KeepsBy Parted) Closed tree closed (keeps_ends Parted base) (eval_of (KeepsBy Parted) closed singles (keeps_ends Parted base)) (eval_under_of (KeepsBy Parted) closed singles Closed under (keeps_ends Parted base) tree) depth m
        (λ f h. keeps_bind Parted base (keeps_activation Parted base) (λ a. keeps_then Parted base (keeps_tell Parted base (Took a m)) (h a))) (where_some _ resolves_closed m.answer))).after s);
  }

  pub opens : (tree : List Node) (depth : ℕ) (p : Name) (bs : List (Binding Name)) → P (eval.opening K tree depth p bs)
  opens tree depth p bs = record {
    after = λ s. subst (λ z. After Parted s (eval.opening K tree depth p z s)) (bindings_same bs s)
        ((by_closed id (eval.opening Closed tree depth p bs) (eval.opening K tree depth p (map (maps.binding self) bs)) (sim_opening self never Closed K Free renames tree depth p bs)
        (walk_opening (KeepsBy Parted) Closed tree closed (keeps_ends Parted base) (eval_of (KeepsBy Parted) closed singles (keeps_ends Parted base)) (eval_under_of (KeepsBy Parted) closed singles Closed under (keeps_ends Parted base) tree) depth p bs (resolves_closed p))).after s);
  }
