-- What stands for the arguments of a message in a note that is read is known by then.
use Rattle.std.proofs.Common.{◌≡◌, ℕ, zero, suc, List, [], ◌∷◌, ◌++◌, Some, sym, subst, inl, inr}
use Rattle.def_machine.specs.Values.{Words, Ref, Name, Gift}
use Rattle.def_machine.specs.State.{Passed, Passeds, Plain, AGift, NoMore, More, Delivery, Deliver, Open}
use Rattle.def_run.specs.World.{known_after, read_value, read_passed, read_all, plain_read, more_read}
use Rattle.law_fate.specs.Name.Names.{IsAmong, IsKnownIn}
use Rattle.law_fate.proofs.Name.Among.{among_last}
use Rattle.law_fate.proofs.Name.Tracked.{known_among}
use Rattle.law_frame.specs.Frame.Alike.{names_heard}
use Rattle.law_frame.specs.Frame.Asked.{told_in}
use Rattle.law_frame.proofs.Frame.Told.{after_more, all_more, heard_told, known_up}
use Rattle.law_order.specs.Ordering.Order.{passes}
use Rattle.law_trace.specs.Shown.Shown.{passed_at}

after_known : (ks : List Name) (n : Name) → IsKnownIn (known_after ks n) n
unfolding names_heard told_in
after_known ks n = let told = heard_told ks (Open 0 n) in told.0

passed_known : (ks : List Name) (y : Passed Name) (n : Name) → IsAmong n (passes y) → IsKnownIn (read_passed y ks).known n
unfolding passes read_passed plain_read read_value
passed_known ks (Plain (Ref m)) n (inl e) = subst (λ z. IsKnownIn (known_after ks m) z) (sym e) (after_known ks m)
passed_known ks (AGift h i) n (inl e) = known_among (ks ++ Gift h i ∷ []) n (subst (λ z. IsAmong z (ks ++ Gift h i ∷ [])) (sym e) (among_last ks (Gift h i)))
passed_known ks (Plain (Ref m)) n (inr a) = absurd a
passed_known ks (AGift h i) n (inr a) = absurd a
passed_known ks other n a = absurd a

passeds_known : (ks : List Name) (ys : Passeds Name) (place : ℕ) (y : Passed Name) → passed_at ys place ≡ Some y → (n : Name) → IsAmong n (passes y) → IsKnownIn (read_all ys ks).known n
unfolding passed_at read_all more_read
passeds_known ks NoMore place y e n a = cc
passeds_known ks (More x ys) zero y e n a = let one : List Name = (read_passed x ks).known in let same : y ≡ x = cc in
    known_up one (read_all ys one).known (λ m b. all_more one ys m b) n (passed_known ks x n (subst (λ z. IsAmong n (passes z)) same a))
passeds_known ks (More x ys) (suc i) y e n a = passeds_known (read_passed x ks).known ys i y e n a

pub note_heard : (ks : List Name) (d : Delivery Name) (z : Name) (verb : Words) (ys : Passeds Name) (place : ℕ) (y : Passed Name) → passed_at ys place ≡ Some y → (n : Name) → IsAmong n (passes y) → IsKnownIn (names_heard ks (Deliver d z verb ys)) n
unfolding names_heard
note_heard ks d z verb ys place y e n a = let one : List Name = (read_all ys ks).known in known_up one (known_after one z) (λ m b. after_more one z m b) n (passeds_known ks ys place y e n a)
