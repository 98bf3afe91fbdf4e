-- What data answers holds values that stand in the heap.
use Rattle.std.proofs.Common.{◌≡◌, ℕ, true, List, [], ◌∷◌, ◌++◌, Option, Some, None, refl}
use Rattle.std.specs.Prelude.{option_map, slice_get, unwrap_or}
use Rattle.ev_base.specs.declared.values.Value.{Value}
use Rattle.ev_heap.specs.Contents.{Contents}
use Rattle.ev_heap.specs.declared.kept.Listed.{Listed}
use Rattle.def_machine.specs.Values.{Words}
use Rattle.ev_prims.specs.Answers.{members_at, data_answer}
use Rattle.ev_prims.specs.declared.reply.Reply.{Reply}
use Rattle.ev_prims.proofs.Holds.{AllOf, Fits as Holds, IsOfData, fits_data as holds_data}
use Rattle.ev_room.specs.Sound.{Each, IsListed, is_there, are_there}
use Rattle.ev_room.proofs.There.{both}
use Rattle.law_evaluation.proofs.Acts.Sounds.{all_and}

module _ (h : Contents) where
  abbrev pub Stands : Value → Type 0
  Stands v = is_there h v ≡ true

  -- the values of an answer stand in the heap
  abbrev pub Fits : Reply → Type 0
  Fits r = Holds Stands r

  pub each_of : (vs : List Value) → are_there h vs ≡ true → AllOf Stands vs
  each_of [] i = tt
  each_of (v ∷ vs) i = let s = both (is_there h v) (are_there h vs) i in (s.0, each_of vs s.1)

  pub of_each : (vs : List Value) → AllOf Stands vs → are_there h vs ≡ true
  of_each [] i = refl
  of_each (v ∷ vs) i = all_and (is_there h v) (are_there h vs) i.0 (of_each vs i.1)

  of_data : IsOfData Stands
  of_data = record { int = λ z. refl; flag = λ b. refl; char = λ c. refl }

  pub there_joined : (vs ws : List Value) → are_there h vs ≡ true → are_there h ws ≡ true → are_there h (vs ++ ws) ≡ true
  there_joined [] ws t u = u
  there_joined (v ∷ vs) ws t u =
      let s = both (is_there h v) (are_there h vs) t in
      all_and (is_there h v) (are_there h (vs ++ ws)) s.0 (there_joined vs ws s.1 u)

  -- the members of a list, and none where there is none
  one_list : (o : Option Listed) → ((l : Listed) → o ≡ Some l → IsListed h l) → are_there h (unwrap_or (option_map (λ (l : Listed). l.members) o) []) ≡ true
  one_list (Some l) f = (f l refl).1
  one_list None f = refl

  pub members_there : Each (IsListed h) h.lists → (k : ℕ) → are_there h (members_at h k) ≡ true
  members_there s k = one_list (slice_get h.lists k) (s k)

  pub fits_data : Each (IsListed h) h.lists → (t : ℕ → Words) (x : Value) (verb : Words) (hs xs : List Value) → are_there h hs ≡ true → Fits (data_answer t (members_at h) x verb hs xs)
  fits_data s t x verb hs xs i = holds_data Stands of_data (members_at h) (λ k. each_of (members_at h k) (members_there s k)) t x verb hs xs (each_of hs i)
