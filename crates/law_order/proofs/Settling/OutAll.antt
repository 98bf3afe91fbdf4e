-- All that a name held goes out to an object of another vat, one message after another: a tale, each state between read as though the name waited on the object and still held the rest.
use Rattle.std.proofs.Common.{arith, ◌≡◌, ℕ, ◌≤◌, Bool, true, false, List, [], ◌∷◌, ◌++◌, Option, Some, None, length, refl, sym, ap, subst, ◌∙◌}
use Rattle.std.proofs.lemmas.Bool.{ne_eqb}
use Rattle.std.specs.Prelude.{slice_get, ◌==◌}
use Rattle.def_machine.specs.Values.{Ref, Name, Root, Promise, Answer, Sent, Msg, Naming, Foreign, naming, name_of, answer_of, host_of, IsAnswer}
use Rattle.def_machine.specs.State.{Message, WaitsOn, Known, Vat, WhereSome, ◌>>=◌, ◌>>◌, and_then, look, give, each, for_some, come, begun, is_in}
use Rattle.def_machine.specs.Refs as refs
use Rattle.def_machine.specs.Refs.{Settler, Away, entry_of}
use Rattle.def_run.specs.World as world
use Rattle.def_run.specs.World.{Script, Event, Link, World, names}
use Rattle.law_order.specs.Ordering.Places.{by_host, of_name, leads_in, leads_at, leads, amid}
use Rattle.law_order.specs.Ordering.Settlings.{AnswersAnew, GoesFar, SendsWell}
use Rattle.law_order.specs.Ordering.Steps.{Ready, LeadsAmid}
use Rattle.law_order.specs.Ordering.Ways.{Held, Way, Nowhere, End}
use Rattle.law_order.specs.Ordering.Worlds.{IfGives, IsObject}
use Rattle.law_order.proofs.Ordering.Sends.{get_put, if_both, chain}
use Rattle.law_order.specs.Carries.Carries.{IsNotNext}
use Rattle.law_order.proofs.Carries.Learning.{come_stays}
use Rattle.law_order.proofs.Settling.Acts.{Told, told_then}
use Rattle.law_order.proofs.Settling.Begun as begins_at
use Rattle.law_order.proofs.Settling.Goings as goings
use Rattle.law_order.proofs.Settling.Put.{put_known}
use Rattle.law_order.proofs.Settling.Read.{others}

-- ---- the answer of a message that goes on comes to be known

module _ (script : Script) (honest : ℕ → Bool) (w : World) (v h : ℕ) (n b : Name) (m : Message Name) (s : Vat Name) (g : AnswersAnew script honest w v h n b m s) where
  abbrev A : Name
  A = Answer h g.message

  msg_is : (i j : Msg) (a c : ℕ) → Answer a i ≡ Answer c j → i ≡ j
  msg_is i j a c e = cc

  not_later : (i : ℕ) → s.messages ≤ i → g.message ≡ record { sender = v; number = i } → ⊥
  not_later i j e = let b = g.before (ap (λ (z : Msg). z.sender) e) in let number : g.message.number ≡ i = ap (λ (z : Msg). z.number) e in omega arith

  not_root : (a : ℕ) (i : Msg) → Answer a i ≡ Root 0 → ⊥
  not_root a i e = cc

  not_sent : (a : ℕ) (i j : Msg) → Answer a i ≡ Sent j → ⊥
  not_sent a i j e = cc

  not_promise : (a c d : ℕ) (i : Msg) → Answer a i ≡ Promise c d → ⊥
  not_promise a c d i e = cc

  not_next : IsNotNext v s (Root 0) A
  not_next = (λ e. not_root h g.message e, λ i e. not_sent h g.message i e, λ a i j e. not_later i j (msg_is g.message (record { sender = v; number = i }) h a e), λ i j e. not_promise h v i g.message e)

  pub answer_ready : Ready script honest w v s → Ready script honest w v (record s { known = s.known ++ begun A h ∷ [] })
  unfolding host_of
  answer_ready r = (come_stays script honest w v s A (λ i. i) (Root 0) not_next r).0

  pub answer_named : (names script v).made (IsAnswer h m.id) (length s.known) ≡ A
  unfolding names naming name_of answer_of
  answer_named = ap (λ z. answer_of h z) g.sent

-- what a vat does not know leads to its host, where that is another, which it did not notice
pub unknown_leads : (script : Script) (honest : ℕ → Bool) (w : World) (v : ℕ) (r s : Vat Name) → slice_get w.vats v ≡ Some r → (h : ℕ) (i : Msg) → entry_of (names script v) s.known (Answer h i) ≡ None → is_in h s.noticed ≡ false → (h ≡ v → ⊥)
    → LeadsAmid script honest w v s v (Ref (Answer h i)) ≡ End (Way v h) (Answer h i)
unfolding leads leads_at leads_in of_name by_host host_of amid
unknown_leads script honest w v r s at h i unknown clear other = let a = Answer h i in
    ap (λ o. leads_at script honest v o (Ref a)) (get_put w.vats v r s at) ∙ (ap (λ o. of_name script honest v s a o) unknown
    ∙ (ap (λ q. elim q [ true ↦ Nowhere | false ↦ elim (v == h) [ true ↦ End (Held v a) a | false ↦ End (Way v h) a ] ]) clear
    ∙ ap (λ q. elim q [ true ↦ End (Held v a) a | false ↦ End (Way v h) a ]) (ne_eqb v h (λ e. other (sym e)))))

-- ---- one by one

module _ (script : Script) (honest : ℕ → Bool) (w : World) (v h : ℕ) (head : List Event) (r : Vat Name) (at : slice_get w.vats v ≡ Some r) (p n : Name) (k : Known Name) (far : (names script v).spot n ≡ Foreign h) (object : IsObject n) (plain : IsObject p → ⊥) (named : k.name ≡ p) (hosted : k.host ≡ v)
    (rh : Vat Name) (everyone : (u : ℕ) → honest u ≡ true) (there : slice_get w.vats h ≡ Some rh) (number : rh.number ≡ h) (other : h ≡ v → ⊥) (objects : (o : Name) → IsObject o → entry_of (names script h) rh.known o ≡ None)
    (link : (l : Link) × (world.link_at v h w.links ≡ Some l)) (R : Name → Vat Name → Type 0) (settle : Settler {N = Name} {W = Name} (names script v)) where
  abbrev K : Naming Name Name
  K = names script v

  abbrev Read : List (Message Name) → Vat Name → Vat Name
  Read ms u = record u { known = put_known K p (record k { standing = WaitsOn n; held = ms }) u.known }

  abbrev pub F : List (Message Name) → Vat Name → Type 0
  F ms u = goings.Fit script honest w v h head r at p n k far object plain named hosted rh everyone there number other objects link ms u

  placed : (s : Vat Name) → refs.place K s (Ref n) ≡ Away h n true
  unfolding refs.place refs.spotted
  placed s = ap (λ q. refs.spotted K s n q) far

  module _ (m : Message Name) (ms : List (Message Name)) (u : Vat Name) (f : F (m ∷ ms) u) where
    abbrev To : Vat Name → Type 0
    To t = goings.To script honest w v h head r at p n k far object plain named hosted rh everyone there number other objects link m ms u f t

    module _ (b : Name) (g : AnswersAnew script honest w v h n b m u) where
      abbrev New : Name
      New = Answer h g.message

      ready : Ready script honest w v (record u { known = u.known ++ begun New h ∷ [] })
      ready = answer_ready script honest w v h n b m u g f.real.ready

      unknown_read : entry_of K (Read (m ∷ ms) u).known New ≡ None
      unfolding host_of
      unknown_read = others script honest w v h r at p n k far object plain named hosted (m ∷ ms) u f.real New (begins_at.apart script honest w v h head r at p n k far object plain named hosted rh everyone there number other objects link m ms New (λ i. i) u f.real g.unknown ready) ∙ g.unknown

      leads_new : LeadsAmid script honest w v (Read (m ∷ ms) u) v (Ref New) ≡ End (Way v h) New
      leads_new = unknown_leads script honest w v r (Read (m ∷ ms) u) at h g.message unknown_read f.real.clear other

      asked : IfGives To (and_then (refs.deliver K (record m { answer = Some New }) h n (record u { known = u.known ++ begun New h ∷ [] })) (λ _. refs.wait_on K b New))
      unfolding host_of
      asked = goings.asked_out script honest w v h head r at p n k far object plain named hosted rh everyone there number other objects link m ms u f New (λ i. i) g.unknown ready leads_new refl b g.waits

      answered : IfGives To ((come K (IsAnswer h m.id) h >>= (λ a. refs.deliver K (record m { answer = Some a }) h n >> refs.wait_on K b a)) u)
      unfolding ◌>>=◌ ◌>>◌ and_then come
      answered = subst (λ a. IfGives To (and_then (refs.deliver K (record m { answer = Some a }) h n (record u { known = u.known ++ begun a h ∷ [] })) (λ _. refs.wait_on K b a))) (sym (answer_named script honest w v h n b m u g)) asked

    passed : WhereSome (λ b. AnswersAnew script honest w v h n b m u) m.answer → IfGives To (refs.pass_on K m h n u)
    unfolding refs.pass_on for_some
    passed = go m.answer
      where
        go : (o : Option Name) → WhereSome (λ b. AnswersAnew script honest w v h n b m u) o → IfGives To (for_some o (λ b. come K (IsAnswer h m.id) h >>= (λ a. refs.deliver K (record m { answer = Some a }) h n >> refs.wait_on K b a)) (refs.deliver K m h n) u)
        go (Some b) g = answered b g
        go None g = goings.first_out script honest w v h head r at p n k far object plain named hosted rh everyone there number other objects link m ms u f

    -- the first goes out
    one_out : GoesFar script honest w v n m u (K.spot n) → IfGives To (refs.send_on K settle m u)
    unfolding refs.send_on ◌>>=◌ and_then look refs.send_to
    one_out g =
        let i = subst (λ z. GoesFar script honest w v n m u z) far g in
        subst (λ z. IfGives To (refs.send_to K settle m z (refs.place K u z) u)) (sym i.0)
        (subst (λ z. IfGives To (refs.send_to K settle m (Ref n) z u)) (sym (placed u)) (passed i.1))

  -- So all do, to a vat that holds none for the name.
  pub all_out : (s : Vat Name) (ms : List (Message Name)) (u : Vat Name) → F ms u → SendsWell script honest w v (Ref n) R settle ms u → Told script honest w v head ⊥ s (Read ms u) → IfGives (λ t. F [] t × Told script honest w v head ⊥ s (Read [] t)) (each (refs.send_on K settle) ms u)
  unfolding each ◌>>◌ give
  all_out s [] u f g d = (f, d)
  all_out s (m ∷ ms) u f g d = chain (λ t. To m ms u f t × SendsWell script honest w v (Ref n) R settle ms t) (λ t. F [] t × Told script honest w v head ⊥ s (Read [] t)) (refs.send_on K settle m u) (each (refs.send_on K settle) ms)
      (if_both (λ t. To m ms u f t) (λ t. SendsWell script honest w v (Ref n) R settle ms t) (refs.send_on K settle m u) (one_out m ms u f g.0) g.1)
      (λ t i. all_out s ms t i.0.0 i.1 (told_then script honest w v head ⊥ s (Read (m ∷ ms) u) (Read ms t) d i.0.1))
