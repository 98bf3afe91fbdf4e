-- The entries of a map by message as a list of mentions.
use Rattle.std.proofs.Common.{◌≡◌, ℕ, zero, suc, Bool, true, false, cond, ◌&&◌, nat_eq, List, [], ◌∷◌, ◌++◌, map, Option, Some, None, is_some, MatchOption, refl, sym, ap, ◌∙◌}
use Rattle.std.specs.Prelude.{slice_get}
use Rattle.std.specs.Map.{lookup}
use Rattle.std.proofs.lemmas.Bool.{eqb-true, eq-eqb}
use Rattle.ev_base.specs.declared.names.Msg.{Msg}
use Rattle.ev_order.specs.declared.mentions.MessageKey.{MessageKey}
use Rattle.ev_order.specs.declared.mentions.Mention.{Mention}
use Rattle.ev_order.specs.Mentions.{MentionList, IsThere, IsAbsent}

abbrev pub mention_of : MessageKey × Mention → Msg × Mention
mention_of e = (record { sender = e.0.sender; number = e.0.number }, e.1)

abbrev pub mentions_of : List (MessageKey × Mention) → MentionList
mentions_of es = map mention_of es

abbrev pub same_key : MessageKey → MessageKey → Bool
same_key a b = nat_eq a.sender b.sender && nat_eq a.number b.number

abbrev pub message_of : MessageKey → Msg
message_of k = record { sender = k.sender; number = k.number }

both : (a b : Bool) → (a && b) ≡ true → (a ≡ true) × (b ≡ true)
both true true h = (refl, refl)
both true false h = absurd cc
both false b h = absurd cc

message_is : (a b : MessageKey) → same_key a b ≡ true → message_of a ≡ message_of b
message_is a b h =
    let p = both (nat_eq a.sender b.sender) (nat_eq a.number b.number) h in
    let e = eqb-true a.sender b.sender p.0 in
    let f = eqb-true a.number b.number p.1 in
    λ i. record { sender = e i; number = f i }

is_itself : (a b : MessageKey) → message_of a ≡ message_of b → same_key a b ≡ true
is_itself a b e = rw (eq-eqb a.sender b.sender (ap (λ (m : Msg). m.sender) e)) (eq-eqb a.number b.number (ap (λ (m : Msg). m.number) e))

-- what the map finds is there
found_in : (k : MessageKey) (e : MessageKey × Mention) (es : List (MessageKey × Mention)) (s : Mention) (b : Bool) → same_key k e.0 ≡ b → cond b (Some e.1) (lookup (same_key k) es) ≡ Some s
    → (lookup (same_key k) es ≡ Some s → IsThere (message_of k) s (mentions_of es)) → IsThere (message_of k) s (mentions_of (e ∷ es))
found_in k e es s true is there later = (0, let m = message_is k e.0 is in let v : e.1 ≡ s = cc in λ i. Some (sym m i, v i))
found_in k e es s false is there later = let n = later there in (suc n.0, n.1)

pub found : (k : MessageKey) (es : List (MessageKey × Mention)) (s : Mention) → lookup (same_key k) es ≡ Some s → IsThere (message_of k) s (mentions_of es)
found k [] s h = absurd cc
found k (e ∷ es) s h = found_in k e es s (same_key k e.0) refl h (found k es s)

-- and what it does not find is not
missing_in : (k : MessageKey) (e : MessageKey × Mention) (es : List (MessageKey × Mention)) (s : Mention) (n : ℕ) (b : Bool) → slice_get (mentions_of (e ∷ es)) n ≡ Some (message_of k, s) → same_key k e.0 ≡ b → cond b (Some e.1) (lookup (same_key k) es) ≡ None
    → (lookup (same_key k) es ≡ None → IsAbsent (message_of k) (mentions_of es)) → ⊥
missing_in k e es s n true at is none later = cc
missing_in k e es s zero false at is none later =
    let one : mention_of e ≡ (message_of k, s) = cc in
    let two : true ≡ false = sym (is_itself k e.0 (sym (ap (λ (p : Msg × Mention). p.0) one))) ∙ is in
    cc
missing_in k e es s (suc n) false at is none later = later none s (n, at)

pub missing : (k : MessageKey) (es : List (MessageKey × Mention)) → lookup (same_key k) es ≡ None → IsAbsent (message_of k) (mentions_of es)
missing k [] h s there = no_entry there.0 there.1
  where
    no_entry : (n : ℕ) → slice_get (mentions_of []) n ≡ Some (message_of k, s) → ⊥
    no_entry zero e = cc
    no_entry (suc n) e = cc
missing k (e ∷ es) h s there = missing_in k e es s there.0 (same_key k e.0) there.1 refl h (missing k es)

-- one more
pub pushed : (es : List (MessageKey × Mention)) (e : MessageKey × Mention) → mentions_of (es ++ e ∷ []) ≡ mentions_of es ++ mention_of e ∷ []
pushed [] e = refl
pushed (d ∷ es) e = ap (λ (ms : MentionList). mention_of d ∷ ms) (pushed es e)

pub none_from : {A : Type 0} (o : Option A) → is_some o ≡ false → o ≡ None
none_from None h = refl
none_from (Some x) h = absurd cc

pub some_from : {A : Type 0} (o : Option A) → is_some o ≡ true → (x : A) × (o ≡ Some x)
some_from None h = absurd cc
some_from (Some x) h = (x, refl)

pub finds : (k : MessageKey) (es : List (MessageKey × Mention)) (o : Option Mention) → lookup (same_key k) es ≡ o → MatchOption o (IsAbsent (message_of k) (mentions_of es)) (λ s. IsThere (message_of k) s (mentions_of es))
finds k es None e = missing k es e
finds k es (Some s) e = found k es s e
