-- How the names and messages of a vat grow by one after the other.
use Rattle.std.proofs.Common.{◌≡◌, ◌+◌, ◌-◌, ◌<◌, ◌≤◌, ℕ, suc, List, [], ◌∷◌, ◌++◌, length, Option, Some, None, sym, ap, ◌∙◌, append_assoc, append-nil, arith}
use Rattle.std.proofs.lemmas.List.{length-append}
use Rattle.ev_base.specs.declared.names.Msg.{Msg}
use Rattle.ev_base.specs.declared.names.Name.{Name}
use Rattle.ev_base.specs.declared.names.Name.TheVariants.{Own}
use Rattle.ev_resident.specs.Names.{Entry, Named, told_at, own_messages, with_mails, with_name, named_as, one_named, all_named}

-- ---- messages

abbrev set_mails : List Msg → Named → Named
set_mails ms t = record t { naming = record t.naming { mails = ms } }

abbrev own : ℕ → ℕ → Msg
own v j = record { sender = v; number = j }

-- one message more, and there is one less to come
pub mails_on : (v j m : ℕ) (t u : Named) → j < m → t.naming.vat ≡ v → u ≡ with_mails (own t.naming.vat j ∷ []) t
    → with_mails (own_messages v (j + 1) (m - (j + 1))) u ≡ with_mails (own_messages v j (m - j)) t
unfolding own_messages
mails_on v j m t u less same e =
    let n = m - (j + 1) in
    let next : j + 1 ≡ suc j = omega arith in
    let counted : suc (m - (j + 1)) ≡ m - j = omega arith in
    ap (λ (x : Named). with_mails (own_messages v (j + 1) n) x) e
    ∙ ap (λ (ms : List Msg). set_mails ms t) (append_assoc t.naming.mails (own t.naming.vat j ∷ []) (own_messages v (j + 1) n))
    ∙ ap (λ (w : ℕ). set_mails (t.naming.mails ++ own w j ∷ own_messages v (j + 1) n) t) same
    ∙ ap (λ (k : ℕ). set_mails (t.naming.mails ++ own v j ∷ own_messages v k n) t) next
    ∙ ap (λ (k : ℕ). with_mails (own_messages v j k) t) counted

pub mails_done : (v j m : ℕ) (t : Named) → m ≤ j → with_mails (own_messages v j (m - j)) t ≡ t
unfolding own_messages
mails_done v j m t le =
    let none : m - j ≡ 0 = omega arith in
    ap (λ (k : ℕ). with_mails (own_messages v j k) t) none
    ∙ ap (λ (ms : List Msg). set_mails ms t) (append-nil t.naming.mails)

-- ---- names

longer_as : (o : Option Name) (t : Named) → length (named_as o t).naming.names ≡ length t.naming.names + 1
unfolding named_as with_name
longer_as (Some n) t = length-append t.naming.names (n ∷ [])
longer_as None t = length-append t.naming.names (Own t.naming.vat t.promises ∷ [])

longer : (es : List Entry) (t : Named) → length (one_named es t).naming.names ≡ length t.naming.names + 1
unfolding one_named
longer es t = longer_as (told_at (length t.naming.names) es) t

pub one_longer : (es : List Entry) (i : ℕ) (t u : Named) → i ≡ length t.naming.names → u ≡ one_named es t → i + 1 ≡ length u.naming.names
one_longer es i t u h e = ap (λ (n : ℕ). n + 1) h ∙ sym (longer es t) ∙ ap (λ (x : Named). length x.naming.names) (sym e)

-- one name more, and there is one less to come
pub names_on : (es : List Entry) (i k : ℕ) (t u : Named) → i < k → u ≡ one_named es t → all_named es (k - (i + 1)) u ≡ all_named es (k - i) t
unfolding all_named
names_on es i k t u less e =
    let counted : suc (k - (i + 1)) ≡ k - i = omega arith in
    ap (λ (x : Named). all_named es (k - (i + 1)) x) e
    ∙ ap (λ (n : ℕ). all_named es n t) counted

pub names_done : (es : List Entry) (i k : ℕ) (t : Named) → k ≤ i → all_named es (k - i) t ≡ t
unfolding all_named
names_done es i k t le =
    let none : k - i ≡ 0 = omega arith in
    ap (λ (n : ℕ). all_named es n t) none
