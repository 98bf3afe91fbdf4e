-- What a vat knows it goes on knowing; and where a message arrives, the vat knows its answer there.
use Rattle.std.proofs.Common.{◌≡◌, ℕ, List, [], ◌∷◌, ◌++◌, refl, sym, ◌∙◌, Some, None, true}
use Rattle.def_machine.specs.Values.{Words, Value, Ref, Name, Answer, Sent, Msg, Naming, naming, name_of, mail_of, answer_of}
use Rattle.def_machine.specs.State.{Known, ToTell, Passeds, Vat, Done, Gives, Act, ◌>>=◌, ◌>>◌, and_then, look, come, mail, alter, begun}
use Rattle.def_machine.specs.Refs as refs
use Rattle.def_machine.specs.Arrive as arrive
use Rattle.def_machine.specs.Arrive.{Incoming, New}
use Rattle.law_machine.specs.Machine.Steps.{Step, does, After}
use Rattle.law_machine.proofs.Machine.Keeps.{Keeps, IsKept, IsKeptUnder}
use Rattle.law_machine.proofs.Machine.RefsKeeps.{keeps_refs}
use Rattle.law_machine.proofs.Machine.ArriveKeeps.{keeps_learn_name, keeps_learn_all}
use Rattle.law_machine.proofs.Machine.StepLaws.{kept_by_steps}
use Rattle.law_fate.specs.Name.Names.{IsAmong, names_in}
use Rattle.law_fate.proofs.Name.Among.{among_more, among_last, names_end}
use Rattle.law_fate.proofs.Name.Tracked.{names_change}
use Rattle.law_reference.proofs.Reference.Gentle.{AfterGives}

-- what is known stays known, and the vat has its number
abbrev pub Stays : Vat Name → Vat Name → Type 0
Stays s t = (t.number ≡ s.number) × ((n : Name) → IsAmong n (names_in s.known) → IsAmong n (names_in t.known))

stays_law : IsKept Stays
stays_law = record {
  same = λ s. (refl, λ n h. h);
  trans = λ {s} {t} {u} f k. (k.0 ∙ f.0, λ n h. k.1 n (f.1 n h));
  fuel = λ s n. (refl, λ n h. h);
  happened = λ s e. (refl, λ n h. h);
  activations = λ s. (refl, λ n h. h);
  thing = λ s t. (refl, λ n h. h);
  killed = λ s n. (refl, λ n h. h);
  slot = λ s c. (refl, λ n h. h);
  written = λ s n y. (refl, λ n h. h);
  list = λ s vs. (refl, λ n h. h);
  queue = λ s m. (refl, λ n h. h);
  outbox = λ s p. (refl, λ n h. h);
  gift = λ s g. (refl, λ n h. h);
  opened = λ s p i. (refl, λ n h. h);
  noticed = λ s w. (refl, λ n h. h);
  drawn = λ s w. (refl, λ n h. h);
}

one_more : (s : Vat Name) (k : Known Name) (n : Name) → IsAmong n (names_in s.known) → IsAmong n (names_in (s.known ++ k ∷ []))
one_more s k n h = rw (names_end s.known k) (among_more n (names_in s.known) k.name h)

stays_under : (K : Naming Name Name) → IsKeptUnder K Stays
stays_under K = record {
  altered = λ s c n. (refl, λ x h. rw (names_change K c n s.known) h);
  came = λ s c w. (refl, λ n h. one_more s _ n h);
  mailed = λ s c. (refl, λ n h. h);
  lone = λ s id. (refl, λ n h. h);
  promised = λ s. (refl, λ n h. one_more s _ n h);
  messaged = λ s w id. (refl, λ n h. one_more s _ n h);
}

pub steps_stay : (K : Naming Name Name) (step : Step Name Name) (s : Vat Name) → After Stays s (does K step s)
steps_stay K = kept_by_steps K Stays stays_law (stays_under K)

module _ (word : ℕ → ℕ) (v : ℕ) (m : Msg) where
  abbrev K : Naming Name Name
  K = naming word v

  -- the answer is known after it
  abbrev Comes : Done Name (Unit {0}) → Type 0
  Comes d = AfterGives (λ (t : Vat Name). IsAmong (Answer v m) (names_in t.known)) d

  base : IsKept Stays
  base = stays_law

  law : IsKeptUnder K Stays
  law = stays_under K

  come_stays : (s : Vat Name) (d : Done Name (Unit {0})) → IsAmong (Answer v m) (names_in s.known) → After Stays s d → Comes d
  come_stays s (Gives u t) h r = r.1 (Answer v m) h
  come_stays s other h r = tt

  later : {A : Type 0} (s : Vat Name) (d : Done Name A) (f : A → Act Name (Unit {0})) → s.number ≡ v → After Stays s d → ((a : A) (t : Vat Name) → t.number ≡ v → Comes (f a t)) → Comes (and_then d f)
  unfolding and_then
  later s (Gives a t) f e r k = k a t (r.0 ∙ e)
  later s other f e r k = tt

  rest_stays : (from : ℕ) (a n : Name) (verb : Words) (args : List (Value Name)) → Keeps Stays (alter K (ToTell from) a >> refs.send_on K (refs.settle K) (record { id = Sent m; target = Ref n; verb = verb; args = args; answer = Some a }))
  rest_stays from a n verb args = let b = base in let l = law in search (keeps_refs, b, l) depth 14

  answered : (from : ℕ) (n : Name) (verb : Words) (args : List (Value Name)) (s : Vat Name) → s.number ≡ v
      → Comes (arrive.send_on_asked K from (Sent m) n verb args s)
  unfolding arrive.send_on_asked ◌>>=◌ and_then look come naming name_of answer_of begun
  answered from n verb args s e = let k : Known Name = begun (Answer s.number m) s.number in let s1 : Vat Name = record s { known = s.known ++ k ∷ [] } in
      let there : IsAmong (Answer s.number m) (names_in s1.known) = rw (names_end s.known k) (among_last (names_in s.known) (Answer s.number m)) in
      come_stays s1 _ (rw (sym e) there) ((rest_stays from (Answer s.number m) n verb args).after s1)

  pub arrived : (from h : ℕ) (z : Incoming Name Name) (verb : Words) (ys : Passeds (Incoming Name Name)) (s : Vat Name) → s.number ≡ v → Comes (arrive.arrive_deliver K from (record { message = New (Sent m) h; asks = true; answer = None }) z verb ys s)
  unfolding arrive.arrive_deliver arrive.learn_message ◌>>=◌ and_then mail naming mail_of
  arrived from h z verb ys s e = let s1 : Vat Name = record s { mails = s.mails ++ Sent m ∷ [] } in later s1 (arrive.learn_all K from ys s1) _ e ((keeps_learn_all K Stays base law from ys).after s1)
      (λ args t f. later t (arrive.learn_name K z t) _ f ((keeps_learn_name K Stays base law z).after t) (λ n r g. answered from n verb args r g))
