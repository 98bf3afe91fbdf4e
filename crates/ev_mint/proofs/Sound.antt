-- The balances of a mint's purses stay what it issued.
use Rattle.std.proofs.Common.{◌≡◌, ◌≢◌, ℕ, zero, suc, ◌<◌, ◌≤◌, ◌+◌, ◌-◌, Bool, true, false, true≢false, cond, nat_eq, List, [], ◌∷◌, ◌++◌, length, slice_set, refl, sym, ap, subst, ◌∙◌, arith}
use Rattle.std.proofs.lemmas.Bool.{eqb-true}
use Rattle.std.proofs.lemmas.List.{get_or-set_same, get_or-set_other}
use Rattle.ev_mint.specs.declared.mints.Purse.{Purse}
use Rattle.ev_mint.specs.Money.{most, total_of, with_total, purse_at, mint_of, balance_of, with_balance, held_for, balances, IsSound, taken_out, put_in}

abbrev purse : ℕ → ℕ → Purse
purse mint balance = record { mint = mint; balance = balance }

-- ---- sums

pub append_sum : (m : ℕ) (ps : List Purse) (q : Purse) → balances m (ps ++ q ∷ []) ≡ balances m ps + held_for m q
append_sum m [] q = omega arith
append_sum m (p ∷ ps) q = let e = append_sum m ps q in omega arith

pub set_sum : (m : ℕ) (ps : List Purse) (i : ℕ) (q : Purse) → i < length ps → balances m (slice_set ps i q) + held_for m (purse_at i ps) ≡ balances m ps + held_for m q
set_sum m [] i q lt = absurd (omega arith)
set_sum m (p ∷ ps) zero q lt = omega arith
set_sum m (p ∷ ps) (suc i) q lt = let e = set_sum m ps i q (omega arith) in omega arith

-- ---- what a mint holds

abbrev part : ℕ → ℕ → ℕ → ℕ
part m mint amount = held_for m (purse mint amount)

more_by : (b : Bool) (balance amount : ℕ) → cond b (balance + amount) 0 ≡ cond b balance 0 + cond b amount 0
more_by true balance amount = refl
more_by false balance amount = refl

less_by : (b : Bool) (balance amount : ℕ) → amount ≤ balance → cond b balance 0 ≡ cond b (balance - amount) 0 + cond b amount 0
less_by true balance amount le = omega arith
less_by false balance amount le = refl

-- ---- a mint, an issue, an empty purse

last_total : (totals : List ℕ) (m : ℕ) → total_of m (totals ++ 0 ∷ []) ≡ total_of m totals
last_total [] zero = refl
last_total [] (suc m) = refl
last_total (t ∷ totals) zero = refl
last_total (t ∷ totals) (suc m) = last_total totals m

pub sound_minted : (totals : List ℕ) (ps : List Purse) → IsSound totals ps → IsSound (totals ++ 0 ∷ []) ps
sound_minted totals ps h m = let e = last_total totals m in ((h m).0 ∙ sym e, subst (λ (n : ℕ). n ≤ most) (sym e) (h m).1)

nothing : (b : Bool) → cond b zero zero ≡ zero
nothing true = refl
nothing false = refl

pub sound_sprouted : (totals : List ℕ) (ps : List Purse) (mint : ℕ) → IsSound totals ps → IsSound totals (ps ++ purse mint 0 ∷ [])
sound_sprouted totals ps mint h m =
    let e = append_sum m ps (purse mint 0) in
    let z = nothing (nat_eq mint m) in
    let k = (h m).0 in
    (omega arith, (h m).1)

zero_more : (n : ℕ) → n ≡ n + 0
zero_more n = omega arith

same : (n : ℕ) → nat_eq n n ≡ true
same n = grind arith

differs : (m mint : ℕ) → nat_eq mint m ≡ false → m ≢ mint
differs m mint e x = absurd (true≢false (sym (same mint) ∙ ap (λ (n : ℕ). nat_eq mint n) (sym x) ∙ e))

issued_by : (b : Bool) (m mint amount total : ℕ) (totals : List ℕ) → nat_eq mint m ≡ b → mint < length totals → total ≡ total_of mint totals
    → total_of m (with_total mint (total + amount) totals) ≡ total_of m totals + cond b amount 0
issued_by true m mint amount total totals e lt is =
    let same : mint ≡ m = eqb-true mint m e in
    subst (λ (n : ℕ). total_of n (with_total mint (total + amount) totals) ≡ total_of n totals + amount) same
    (get_or-set_same totals mint (total + amount) 0 lt ∙ ap (λ (n : ℕ). n + amount) is)
issued_by false m mint amount total totals e lt is =
    get_or-set_other totals mint m (total + amount) 0 (differs m mint e) ∙ zero_more (total_of m totals)

pub sound_issued : (totals : List ℕ) (ps : List Purse) (mint amount : ℕ) → mint < length totals → total_of mint totals + amount ≤ most
    → IsSound totals ps → IsSound (with_total mint (total_of mint totals + amount) totals) (ps ++ purse mint amount ∷ [])
sound_issued totals ps mint amount lt le h m =
    let t = total_of mint totals in
    let e = issued_by (nat_eq mint m) m mint amount t totals refl lt refl in
    let f = append_sum m ps (purse mint amount) in
    let k = (h m).0 in
    (omega arith, within (nat_eq mint m) refl)
  where
    within : (b : Bool) → nat_eq mint m ≡ b → total_of m (with_total mint (total_of mint totals + amount) totals) ≤ most
    within true e = subst (λ (n : ℕ). n ≤ most) (sym (issued_by true m mint amount (total_of mint totals) totals e lt refl)) (subst (λ (n : ℕ). total_of n totals + amount ≤ most) (eqb-true mint m e) le)
    within false e = subst (λ (n : ℕ). n ≤ most) (sym (issued_by false m mint amount (total_of mint totals) totals e lt refl ∙ sym (zero_more (total_of m totals)))) (h m).1

-- ---- a deposit

kept_mint : (ps : List Purse) (i j balance : ℕ) → mint_of j (with_balance i balance ps) ≡ mint_of j ps
kept_mint [] i j balance = refl
kept_mint (p ∷ ps) zero zero balance = refl
kept_mint (p ∷ ps) zero (suc j) balance = refl
kept_mint (p ∷ ps) (suc i) zero balance = refl
kept_mint (p ∷ ps) (suc i) (suc j) balance = kept_mint ps i j balance

pub kept_length : (ps : List Purse) (i balance : ℕ) → length (with_balance i balance ps) ≡ length ps
kept_length [] i balance = refl
kept_length (p ∷ ps) zero balance = refl
kept_length (p ∷ ps) (suc i) balance = ap suc (kept_length ps i balance)

-- what is taken out of a purse is less in what its mint holds
less_held : (m : ℕ) (ps : List Purse) (i amount : ℕ) → i < length ps → amount ≤ balance_of i ps
    → balances m (taken_out i amount ps) + part m (mint_of i ps) amount ≡ balances m ps
less_held m ps i amount lt le =
    let e = set_sum m ps i (purse (mint_of i ps) (balance_of i ps - amount)) lt in
    let f = less_by (nat_eq (mint_of i ps) m) (balance_of i ps) amount le in
    omega arith

more_held : (m : ℕ) (ps : List Purse) (i amount : ℕ) → i < length ps
    → balances m (put_in i amount ps) ≡ balances m ps + part m (mint_of i ps) amount
more_held m ps i amount lt =
    let e = set_sum m ps i (purse (mint_of i ps) (balance_of i ps + amount)) lt in
    let f = more_by (nat_eq (mint_of i ps) m) (balance_of i ps) amount in
    omega arith

pub sound_deposited : (totals : List ℕ) (ps : List Purse) (into from amount : ℕ) → into < length ps → from < length ps → mint_of into ps ≡ mint_of from ps
    → amount ≤ balance_of from ps → IsSound totals ps → IsSound totals (put_in into amount (taken_out from amount ps))
sound_deposited totals ps into from amount in_lt from_lt is le h m =
    let less = taken_out from amount ps in
    let there : into < length less = subst (λ (n : ℕ). into < n) (sym (kept_length ps from (balance_of from ps - amount))) in_lt in
    let mint : mint_of into less ≡ mint_of from ps = kept_mint ps from into (balance_of from ps - amount) ∙ is in
    (more_held m less into amount there ∙ ap (λ (k : ℕ). balances m less + part m k amount) mint ∙ less_held m ps from amount from_lt le ∙ (h m).0, (h m).1)

held_own : (b : Bool) (balance : ℕ) → b ≡ true → cond b balance 0 ≡ balance
held_own true balance e = refl
held_own false balance e = absurd cc

one_held : (m : ℕ) (ps : List Purse) (i : ℕ) → i < length ps → held_for m (purse_at i ps) ≤ balances m ps
one_held m [] i lt = absurd (omega arith)
one_held m (p ∷ ps) zero lt = omega arith
one_held m (p ∷ ps) (suc i) lt = let e = one_held m ps i (omega arith) in omega arith

-- what is put in fits
pub fits : (totals : List ℕ) (ps : List Purse) (into from amount : ℕ) → into < length ps → from < length ps → mint_of into ps ≡ mint_of from ps
    → amount ≤ balance_of from ps → IsSound totals ps → balance_of into (taken_out from amount ps) + amount ≤ most
fits totals ps into from amount in_lt from_lt is le h =
    let less = taken_out from amount ps in
    let m = mint_of from ps in
    let there : into < length less = subst (λ (n : ℕ). into < n) (sym (kept_length ps from (balance_of from ps - amount))) in_lt in
    let mint : mint_of into less ≡ m = kept_mint ps from into (balance_of from ps - amount) ∙ is in
    let own : nat_eq (mint_of into less) m ≡ true = ap (λ (k : ℕ). nat_eq k m) mint ∙ same m in
    let held = held_own (nat_eq (mint_of into less) m) (balance_of into less) own in
    let amount_held = held_own (nat_eq m m) amount (same m) in
    let one = one_held m less into there in
    let lost = less_held m ps from amount from_lt le in
    let total = (h m).0 in
    let bound = (h m).1 in
    omega arith

-- the same of purses out of which was taken
pub fits_after : (totals : List ℕ) (ps less : List Purse) (into from amount : ℕ) → less ≡ taken_out from amount ps → into < length ps → from < length ps
    → mint_of into ps ≡ mint_of from ps → amount ≤ balance_of from ps → IsSound totals ps → balance_of into less + amount ≤ most
fits_after totals ps less into from amount made in_lt from_lt is le h =
    subst (λ (xs : List Purse). balance_of into xs + amount ≤ most) (sym made) (fits totals ps into from amount in_lt from_lt is le h)

-- the same of totals and purses after an issue
pub sound_after : (totals more : List ℕ) (ps qs : List Purse) (mint amount total : ℕ) → more ≡ with_total mint (total + amount) totals → qs ≡ ps ++ purse mint amount ∷ []
    → total ≡ total_of mint totals → mint < length totals → total + amount ≤ most → IsSound totals ps → IsSound more qs
sound_after totals more ps qs mint amount total made added is lt le h =
    let sound = sound_issued totals ps mint amount lt (subst (λ (n : ℕ). n + amount ≤ most) is le) h in
    let made_so : more ≡ with_total mint (total_of mint totals + amount) totals = made ∙ ap (λ (n : ℕ). with_total mint (n + amount) totals) is in
    subst (λ (ts : List ℕ). IsSound ts qs) (sym made_so) (subst (λ (xs : List Purse). IsSound (with_total mint (total_of mint totals + amount) totals) xs) (sym added) sound)
