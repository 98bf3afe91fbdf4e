-- A text of two vats, and texts that say nothing.
use Rattle.std.proofs.Common.{◌≡◌, ℕ, List, [], ◌∷◌, ◌++◌, Some, Ok, Err, refl, codes}
use Rattle.def_vats.specs.Reading.{told, nothing_told}

line : List ℕ → List ℕ
line text = text ++ 10 ∷ []

two : List ℕ
unfolding line
two = line (codes "Bob is asked.") ++ line (codes "=== vat alice knows bob") ++ line (codes "bob <- meet()") ++ line [] ++ line (codes "=== vat bob")
    ++ line [] ++ line (codes "def bob {") ++ line (codes "}") ++ line [] ++ line (codes "=== schedule") ++ line (codes "# the message") ++ line (codes "carry alice bob") ++ codes "turn bob"

two_told : told two ≡ Ok (record nothing_told {
  vats = record { name = codes "alice"; knows = codes "bob" ∷ []; source = codes "bob <- meet()\n" }
      ∷ record { name = codes "bob"; knows = []; source = codes "\ndef bob {\n}\n" } ∷ [];
  schedule = codes "carry alice bob" ∷ codes "turn bob" ∷ [];
})
unfolding told two line
two_told = refl

quoted : told (codes "=== fuel 7\n=== quoted a\n|=== b\n|") ≡ Ok (record nothing_told { fuel = Some 7; vats = record { name = codes "a"; knows = []; source = codes "=== b\n" } ∷ [] })
unfolding told
quoted = refl

misspelled : told (codes "\n=== vatt a\n") ≡ Err 2
unfolding told
misspelled = refl
