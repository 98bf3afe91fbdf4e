-- The sample table meets its laws, by its cases.
use Rattle.std.proofs.Common.{◌≡◌, ℕ, zero, suc, Bool, true, false, Some, refl, sym, ◌==◌}
use Rattle.std.specs.Prelude.{slice_get}
use Rattle.def_machine.specs.Values.{Name, Root, Answer, Msg, Sent, NoObject, same_name, same_reference, spot_of}
use Rattle.def_machine.specs.Refs.{opened_refs}
use Rattle.law_machine.specs.Renamed.Stands.{found, prom_found, mess_found, far_found}
use Rattle.law_machine.specs.Renamed.Example.{sample, knowing, SampleIsTable, SampleSends}

alike : (x y a b : Name) (t : Bool) → Some x ≡ Some a → Some y ≡ Some b → same_reference x y ≡ t → same_reference a b ≡ t
alike x y a b t e h p = let i : x ≡ a = cc in let j : y ≡ b = cc in rw (i, j) at p

spotted : (x a : Name) → Some x ≡ Some a → spot_of 0 x ≡ NoObject → spot_of 0 a ≡ NoObject
spotted x a e p = let i : x ≡ a = cc in rw i at p

pub sample_is_table : SampleIsTable
unfolding sample same_name same_reference spot_of
sample_is_table = record {
  promises = promises;
  distinct = distinct;
  messages = messages;
  abroad = λ h p j e. cc;
  exports_distinct = λ h p g q i j e k. cc;
}
  where
    promises : (k : ℕ) (n : Name) → slice_get sample.names k ≡ Some n → spot_of 0 n ≡ NoObject
    promises zero n e = spotted (Root 0) n e refl
    promises (suc zero) n e = spotted (Root 1) n e refl
    promises (suc (suc zero)) n e = spotted (Answer 1 (record { sender = 0; number = 0 })) n e refl
    promises (suc (suc (suc k))) n e = cc

    distinct : (i j : ℕ) (a b : Name) → slice_get sample.names i ≡ Some a → slice_get sample.names j ≡ Some b → same_reference a b ≡ (i == j)
    distinct zero zero a b e h = alike (Root 0) (Root 0) a b true e h refl
    distinct zero (suc zero) a b e h = alike (Root 0) (Root 1) a b false e h refl
    distinct zero (suc (suc zero)) a b e h = alike (Root 0) (Answer 1 (record { sender = 0; number = 0 })) a b false e h refl
    distinct (suc zero) zero a b e h = alike (Root 1) (Root 0) a b false e h refl
    distinct (suc zero) (suc zero) a b e h = alike (Root 1) (Root 1) a b true e h refl
    distinct (suc zero) (suc (suc zero)) a b e h = alike (Root 1) (Answer 1 (record { sender = 0; number = 0 })) a b false e h refl
    distinct (suc (suc zero)) zero a b e h = alike (Answer 1 (record { sender = 0; number = 0 })) (Root 0) a b false e h refl
    distinct (suc (suc zero)) (suc zero) a b e h = alike (Answer 1 (record { sender = 0; number = 0 })) (Root 1) a b false e h refl
    distinct (suc (suc zero)) (suc (suc zero)) a b e h = alike (Answer 1 (record { sender = 0; number = 0 })) (Answer 1 (record { sender = 0; number = 0 })) a b true e h refl
    distinct (suc (suc (suc i))) j a b e h = cc
    distinct other (suc (suc (suc j))) a b e h = cc

    messages : (k : ℕ) (n : Name) → slice_get sample.mails k ≡ Some n → (m : Msg) × (n ≡ Sent m)
    messages zero n e = let i : Sent (record { sender = 0; number = 0 }) ≡ n = cc in (record { sender = 0; number = 0 }, sym i)
    messages (suc k) n e = cc

pub sample_sends : SampleSends
unfolding sample knowing opened_refs found prom_found mess_found far_found
sample_sends = refl
