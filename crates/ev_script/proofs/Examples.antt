-- The definitions on small scripts, computed.
use Rattle.std.proofs.Common.{◌≡◌, ℕ, true, false, List, [], ◌∷◌, Some, None, refl}
use Rattle.std.specs.Prelude.{codes}
use Rattle.serde_json.specs.Data.{Data, number, unsigned, null, object, no_members, member}
use Rattle.ev_script.specs.declared.script.Entry.TheVariants as entry
use Rattle.ev_script.specs.declared.entries.Spelled.TheVariants as spelled
use Rattle.ev_script.specs.declared.entries.Verb.TheVariants as verb
use Rattle.ev_script.specs.Head.{fuel_from, is_script_object, key_byte}
use Rattle.ev_script.specs.Vats.{are_vat_names, is_vat_name, known}
use Rattle.ev_script.specs.Schedule.{are_in_order, round, spelled_by}

abbrev names : List (List ℕ)
names = codes "a" ∷ codes "b" ∷ []

-- entries
carries : spelled_by names (codes "carry a b") ≡ Some (spelled.Pair verb.Carry (Some 0) (Some 1))
carries = refl

unknown : spelled_by names (codes "turn A!") ≡ Some (spelled.Turn None)
unknown = refl

two_spaces : spelled_by names (codes "turn  a") ≡ None
two_spaces = refl

no_word : spelled_by names (codes "turn ") ≡ None
no_word = refl

three_words : spelled_by names (codes "cut a b a") ≡ None
three_words = refl

drains : spelled_by names (codes "drain 100000") ≡ Some (spelled.Drain 100000)
drains = refl

too_many : spelled_by names (codes "drain 100001") ≡ None
too_many = refl

leading_zero : spelled_by names (codes "drain 01") ≡ None
leading_zero = refl

-- a round of two vats, and of none
two_vats : round 2 ≡ entry.Turn 0 ∷ entry.Turn 1 ∷ entry.Carry 0 1 ∷ entry.Carry 1 0 ∷ []
two_vats = refl

no_vats : round 0 ≡ []
no_vats = refl

-- cuts and notices
behind_its_cut : are_in_order [] (entry.Cut 1 0 ∷ entry.Turn 0 ∷ entry.Notice 0 1 ∷ entry.Notice 1 0 ∷ []) ≡ true
behind_its_cut = refl

before_its_cut : are_in_order [] (entry.Notice 0 1 ∷ entry.Cut 0 1 ∷ []) ≡ false
before_its_cut = refl

-- names, and whom a vat knows
keyword : is_vat_name (codes "if") ≡ false
keyword = refl

safe : is_vat_name (codes "any") ≡ false
safe = refl

sixteen : is_vat_name (codes "abcdefghijklmn16") ≡ true
sixteen = refl

twice : are_vat_names (codes "a" ∷ codes "b" ∷ codes "a" ∷ []) ≡ false
twice = refl

knows_b : known names 0 (codes "b" ∷ []) ≡ Some (1 ∷ [])
knows_b = refl

knows_itself : known names 0 (codes "a" ∷ []) ≡ None
knows_itself = refl

knows_twice : known names 0 (codes "b" ∷ codes "b" ∷ []) ≡ None
knows_twice = refl

-- the fuel, and the members
no_fuel : fuel_from None ≡ Some 1000000
no_fuel = refl

null_fuel : fuel_from (Some null) ≡ None
null_fuel = refl

most_fuel : fuel_from (Some (number (unsigned 10000000))) ≡ Some 10000000
most_fuel = refl

abbrev members : Data → Data
members fuel = object (member (codes "fuel") fuel (member (codes "key") null (member (codes "schedule") null (member (codes "vats") null no_members))))

four_members : is_script_object (members null) ≡ true
four_members = refl

a_byte : key_byte (codes "0af1") 1 ≡ 241
a_byte = refl
