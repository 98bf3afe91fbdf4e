-- A number shows only what was registered under its digest.
use Rattle.std.proofs.Common.{◌≡◌, ◌⊎◌, inl, inr, ℕ, Bool, true, false, cond, List, [], ◌∷◌, ◌++◌, Option, Some, None, Result, Ok, Err, refl, sym, ap}
use Rattle.std.specs.Map.{lookup}
use Rattle.std.specs.Str.{bytes_eq}
use Rattle.std.proofs.lemmas.Slice.Eq.{bytes_eq-Decides}
use Rattle.ev_sturdy.specs.declared.sturdy.SturdyFault.{SturdyFault}
use Rattle.ev_sturdy.specs.declared.sturdy.SturdyFault.TheVariants.{Down}
use Rattle.ev_sturdy.specs.Kept.{digest, object_in}
use Rattle.ev_sturdy.specs.Past.{Registered, Connected, Shown, Cut, Noticed, Past, registrations, holds_since, is_a_cut, WasRegistered, ShowsRegistered}

abbrev value_of : Result ℕ SturdyFault → Option ℕ
value_of (Ok x) = Some x
value_of (Err e) = None

abbrev value_in : ℕ → Option ℕ → ℕ
value_in x None = x
value_in x (Some y) = y

is_owner : (o : Option ℕ) (object : ℕ) → object_in o ≡ Ok object → o ≡ Some object
is_owner None object h = absurd cc
is_owner (Some other) object h = ap value_of h

by_cut : (b : Bool) (o : Option ℕ) (object : ℕ) → cond b (Err Down) (object_in o) ≡ Ok object → o ≡ Some object
by_cut true o object h = absurd cc
by_cut false o object h = is_owner o object h

-- what is found in a longer list was there, or is what was added
abbrev IsAdded : (List ℕ → Bool) → List ℕ → ℕ → ℕ → Type 0
IsAdded test key value found = (test key ≡ true) × (found ≡ value)

added : (b : Bool) (value found : ℕ) → cond b (Some value) None ≡ Some found → (b ≡ true) × (found ≡ value)
added true value found h = (refl, sym (ap (value_in value) h))
added false value found h = absurd cc

first_or : {Q : Type 0} (b : Bool) (value found : ℕ) (part whole : Option ℕ) → cond b (Some value) whole ≡ Some found
    → (whole ≡ Some found → (part ≡ Some found) ⊎ Q) → (cond b (Some value) part ≡ Some found) ⊎ Q
first_or true value found part whole h k = inl h
first_or false value found part whole h k = k h

found_in : (test : List ℕ → Bool) (es : List (List ℕ × ℕ)) (key : List ℕ) (value found : ℕ) → lookup test (es ++ (key, value) ∷ []) ≡ Some found
    → (lookup test es ≡ Some found) ⊎ IsAdded test key value found
found_in test [] key value found h = inr (added (test key) value found h)
found_in test (e ∷ es) key value found h =
    first_or (test e.0) e.1 found (lookup test es) (lookup test (es ++ (key, value) ∷ [])) h (found_in test es key value found)

same_digest : (xs ys : List ℕ) → bytes_eq xs ys ≡ true → xs ≡ ys
same_digest xs ys h = (bytes_eq-Decides xs ys).0 h

registered_so : (key : List ℕ) (object swiss other : ℕ) (past : Past) (before : Type 0) → before ⊎ IsAdded (bytes_eq key) (digest swiss) other object
    → (before → WasRegistered key object past) → ((key ≡ digest swiss) × (object ≡ other)) ⊎ WasRegistered key object past
registered_so key object swiss other past before (inl h) k = inr (k h)
registered_so key object swiss other past before (inr h) k = inl (same_digest key (digest swiss) h.0, h.1)

owned : (key : List ℕ) (object : ℕ) (past : Past) → lookup (bytes_eq key) (registrations past) ≡ Some object → WasRegistered key object past
owned key object [] h = absurd cc
owned key object (Registered swiss other ∷ past) h =
    registered_so key object swiss other past (lookup (bytes_eq key) (registrations past) ≡ Some object)
    (found_in (bytes_eq key) (registrations past) (digest swiss) other object h) (owned key object past)
owned key object (Connected ∷ past) h = owned key object past h
owned key object (Shown other ∷ past) h = owned key object past h
owned key object (Cut ∷ past) h = owned key object past h
owned key object (Noticed side ∷ past) h = owned key object past h

pub shows_registered : ShowsRegistered
shows_registered swiss object past h =
    owned (digest swiss) object past (by_cut (holds_since is_a_cut past) (lookup (bytes_eq (digest swiss)) (registrations past)) object h)
