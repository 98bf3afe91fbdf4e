-- When names are the same, and which names a reader of notes knows.
use Rattle.std.proofs.Common.{◌≡◌, ℕ, Bool, true, false, List, [], ◌∷◌, refl, sym, ap, ◌∙◌, ◌⊎◌, inl, inr, ◌==◌, ◌&&◌, Option, Some, None, zero, suc}
use Rattle.std.specs.Prelude.{slice_get}
use Rattle.std.proofs.lemmas.Bool.{eqb-true, eq-eqb}
use Rattle.def_machine.specs.Values.{Name, Root, Object, Promise, Answer, Gift, Sent, Msg, same_name, same_reference, same_msg, Foreign, NoObject, spot_of, naming}
use Rattle.def_run.specs.World.{has_name, is_old}
use Rattle.def_machine.specs.Refs.{entry_of}
use Rattle.def_machine.specs.State.{Known, Vat}
use Rattle.law_fate.specs.Name.Names.{AllOf, IsAmong, IsKnownIn, IsEventual, IsMessageName, WasMade, names_in}

pub false_true : false ≡ true → ⊥
false_true e = cc

both : (a b : Bool) → (a && b) ≡ true → (a ≡ true) × (b ≡ true)
both true b e = (refl, e)
both false b e = absurd (false_true e)

and_true : (a b : Bool) → a ≡ true → b ≡ true → (a && b) ≡ true
and_true true b e f = f
and_true false b e f = absurd (false_true e)

msg_is : (m n : Msg) → same_msg m n ≡ true → m ≡ n
msg_is m n e = let h = both (m.sender == n.sender) (m.number == n.number) e in let a : m.sender ≡ n.sender = eqb-true m.sender n.sender h.0 in let b : m.number ≡ n.number = eqb-true m.number n.number h.1 in
    ap (λ w. record { sender = w; number = m.number }) a ∙ ap (λ i. record { sender = n.sender; number = i }) b

msg_same : (m : Msg) → same_msg m m ≡ true
msg_same m = and_true (m.sender == m.sender) (m.number == m.number) (eq-eqb m.sender m.sender refl) (eq-eqb m.number m.number refl)

two_is : (f : ℕ → ℕ → Name) (w u i j : ℕ) → ((w == u) && (i == j)) ≡ true → f w i ≡ f u j
two_is f w u i j e = let h = both (w == u) (i == j) e in ap (λ x. f x i) (eqb-true w u h.0) ∙ ap (f u) (eqb-true i j h.1)

two_same : (w i : ℕ) → ((w == w) && (i == i)) ≡ true
two_same w i = and_true (w == w) (i == i) (eq-eqb w w refl) (eq-eqb i i refl)

pub same_is : (a b : Name) → same_name a b ≡ true → a ≡ b
unfolding same_name
same_is (Root w) (Root u) e = ap Root (eqb-true w u e)
same_is (Object w i) (Object u j) e = two_is Object w u i j e
same_is (Promise w i) (Promise u j) e = two_is Promise w u i j e
same_is (Answer w m) (Answer u n) e = let h = both (w == u) (same_msg m n) e in ap (λ x. Answer x m) (eqb-true w u h.0) ∙ ap (Answer u) (msg_is m n h.1)
same_is (Gift w i) (Gift u j) e = two_is Gift w u i j e
same_is (Sent m) (Sent n) e = ap Sent (msg_is m n e)
same_is other (Object u j) e = absurd (false_true e)
same_is other another e = absurd (false_true e)

pub reference_is : (a b : Name) → same_reference a b ≡ true → a ≡ b
unfolding same_reference
reference_is (Root w) b e = same_is (Root w) b e
reference_is (Object w i) b e = same_is (Object w i) b e
reference_is (Promise w i) b e = same_is (Promise w i) b e
reference_is (Answer w m) b e = same_is (Answer w m) b e
reference_is (Gift w i) b e = same_is (Gift w i) b e
reference_is (Sent m) b e = absurd (false_true e)

pub same_self : (a : Name) → same_name a a ≡ true
unfolding same_name
same_self (Root w) = eq-eqb w w refl
same_self (Object w i) = two_same w i
same_self (Promise w i) = two_same w i
same_self (Answer w m) = and_true (w == w) (same_msg m m) (eq-eqb w w refl) (msg_same m)
same_self (Gift w i) = two_same w i
same_self (Sent m) = msg_same m

-- a root, a promise, an answer or a gift is the same as itself
pub reference_self : (a : Name) → IsEventual a → same_reference a a ≡ true
unfolding same_reference
reference_self (Root w) h = same_self (Root w)
reference_self (Promise w i) h = same_self (Promise w i)
reference_self (Answer w m) h = same_self (Answer w m)
reference_self (Gift w i) h = same_self (Gift w i)
reference_self other h = absurd h

among_either : (b : Bool) (m n : Name) (ms : List Name) → (b ≡ true → m ≡ n) → (has_name ms n ≡ true → IsAmong n ms) → elim b [ true ↦ true | false ↦ has_name ms n ] ≡ true → IsAmong n (m ∷ ms)
among_either true m n ms f g e = inl (sym (f refl))
among_either false m n ms f g e = inr (g e)

pub has_among : (ns : List Name) (n : Name) → has_name ns n ≡ true → IsAmong n ns
unfolding has_name
has_among [] n e = absurd (false_true e)
has_among (m ∷ ms) n e = among_either (same_name m n) m n ms (same_is m n) (has_among ms n) e

has_either : (b c : Bool) → ((b ≡ true) ⊎ (c ≡ true)) → elim b [ true ↦ true | false ↦ c ] ≡ true
has_either true c h = refl
has_either false c (inl e) = absurd (false_true e)
has_either false c (inr e) = e

pub among_has : (ns : List Name) (n : Name) → IsAmong n ns → has_name ns n ≡ true
unfolding has_name
among_has [] n h = absurd h
among_has (m ∷ ms) n (inl e) = has_either (same_name m n) (has_name ms n) (inl (ap (λ x. same_name x n) (sym e) ∙ same_self n))
among_has (m ∷ ms) n (inr i) = has_either (same_name m n) (has_name ms n) (inr (among_has ms n i))

-- an old name is known, or an object
pub old_known : (ns : List Name) (n : Name) → is_old ns n ≡ true → IsKnownIn ns n
unfolding is_old
old_known ns (Object w i) e = tt
old_known ns (Root w) e = has_among ns (Root w) e
old_known ns (Promise w i) e = has_among ns (Promise w i) e
old_known ns (Answer w m) e = has_among ns (Answer w m) e
old_known ns (Gift w i) e = has_among ns (Gift w i) e
old_known ns (Sent m) e = has_among ns (Sent m) e

true_false : (b : Bool) → b ≡ true → b ≡ false → ⊥
true_false b e f = cc

-- and a new one is neither
pub new_unknown : (ns : List Name) (n : Name) → is_old ns n ≡ false → IsAmong n ns → ⊥
unfolding is_old
new_unknown ns (Object w i) e a = absurd (false_true (sym e))
new_unknown ns (Root w) e a = true_false (has_name ns (Root w)) (among_has ns (Root w) a) e
new_unknown ns (Promise w i) e a = true_false (has_name ns (Promise w i)) (among_has ns (Promise w i) a) e
new_unknown ns (Answer w m) e a = true_false (has_name ns (Answer w m)) (among_has ns (Answer w m) a) e
new_unknown ns (Gift w i) e a = true_false (has_name ns (Gift w i)) (among_has ns (Gift w i) a) e
new_unknown ns (Sent m) e a = true_false (has_name ns (Sent m)) (among_has ns (Sent m) a) e

-- what is new, and was made, is a root, a promise, an answer or a gift
pub new_eventual : (ns : List Name) (vats : List (Vat Name)) (d : List ℕ) (n : Name) → is_old ns n ≡ false → WasMade vats d n → IsEventual n
unfolding is_old
new_eventual ns vats d (Object w i) e m = absurd (false_true (sym e))
new_eventual ns vats d (Sent x) e m = absurd m
new_eventual ns vats d other e m = tt

-- ---- no object is found among names of that kind

far_is : (v : ℕ) (m : Name) (h : ℕ) → spot_of v m ≡ Foreign h → IsEventual m → ⊥
unfolding spot_of
far_is v (Object w i) h e o = o
far_is v other h e o = cc

no_entry : (b : Bool) (k : Known Name) (o : Option (Known Name)) → (b ≡ true → ⊥) → o ≡ None → ◌≡◌ {A = Option (Known Name)} (elim b [ true ↦ Some k | false ↦ o ]) None
no_entry true k o f e = absurd (f refl)
no_entry false k o f e = e

eventual_is : (a b : Name) → a ≡ b → IsEventual a → IsEventual b
eventual_is a b e h = rw e at h

pub far_apart : (word : ℕ → ℕ) (v : ℕ) (ks : List (Known Name)) → AllOf IsEventual (names_in ks) → (m : Name) (h : ℕ) → spot_of v m ≡ Foreign h → entry_of (naming word v) ks m ≡ None
unfolding entry_of naming
far_apart word v [] o m h e = refl
far_apart word v (k ∷ ks) o m h e = no_entry (same_reference k.name m) k (entry_of (naming word v) ks m) (λ f. far_is v m h e (eventual_is k.name m (reference_is k.name m f) o.0)) (far_apart word v ks o.1 m h e)

-- ---- kinds of names

pub at_all : {A : Type 0} (P : A → Type 0) (xs : List A) (i : ℕ) (x : A) → AllOf P xs → slice_get xs i ≡ Some x → P x
at_all P [] i x h e = cc
at_all P (y ∷ ys) zero x h e = let same : y ≡ x = cc in rw same at h.0
at_all P (y ∷ ys) (suc i) x h e = at_all P ys i x h.1 e

pub eventual_spot : (v : ℕ) (n : Name) → IsEventual n → spot_of v n ≡ NoObject
unfolding spot_of
eventual_spot v (Object w i) h = absurd h
eventual_spot v (Sent m) h = absurd h
eventual_spot v other h = refl

pub message_is : (n : Name) → IsMessageName n → (m : Msg) × (n ≡ Sent m)
message_is (Sent m) h = (m, refl)
message_is other h = absurd h

not_both : (n : Name) → IsEventual n → IsMessageName n → ⊥
not_both (Sent m) h k = h
not_both other h k = k

is_false : (b : Bool) → (b ≡ true → ⊥) → b ≡ false
is_false true f = absurd (f refl)
is_false false f = refl

as_message : (a b : Name) → a ≡ b → IsMessageName b → IsMessageName a
as_message a b e h = rw (sym e) at h

pub kinds_apart : (a b : Name) → IsEventual a → IsMessageName b → (same_name a b ≡ false) × (same_name b a ≡ false)
kinds_apart a b h k = (is_false (same_name a b) (λ e. not_both a h (as_message a b (same_is a b e) k)), is_false (same_name b a) (λ e. not_both a h (as_message a b (sym (same_is b a e)) k)))
