-- The script that is generated for a number, as what its bytes are read to.
use Rattle.std.specs.Prelude.{◌≡◌, ◌≤◌, ◌+◌, ◌*◌, ◌==◌, ℕ, if◌then◌else◌, List, [], ◌∷◌, ◌++◌, codes, decimal, length, map, Ok}
use Rattle.std.specs.List.{range_with_len, repeat}
use Rattle.ev_generate.specs.Generated.{choice, generated, generated_key}
use Rattle.ev_script.specs.Schedule.{round}
use Rattle.ev_script.specs.Script.{read}
use Rattle.ev_script.specs.declared.script.Entry.{Entry}
use Rattle.ev_script.specs.declared.script.Entry.TheVariants.{Turn, Carry}
use Rattle.ev_script.specs.declared.script.Script.{Script}
use Rattle.ev_script.specs.declared.script.VatScript.{VatScript}

-- the program of the first vat, which sends so many messages to the second
abbrev pub sending : ℕ → List ℕ
sending n = codes "for i in 1.." ++ decimal n ++ codes " { v1 <- hop(i, v2) }"

-- that of the second, which hands each on to the vat that comes with it
abbrev pub handing_on : List ℕ
handing_on = codes "def t { method hop(i, w) { w <- add(i) } }"

-- that of the third, which adds them up
abbrev pub adding : List ℕ
adding = codes "var sum := 0; def t { method add(i) { sum += i } }"

abbrev pub generated_vats : ℕ → List VatScript
generated_vats n =
    record { name = codes "v0"; knows = 1 ∷ 2 ∷ []; source = sending n }
    ∷ record { name = codes "v1"; knows = []; source = handing_on }
    ∷ record { name = codes "v2"; knows = []; source = adding }
    ∷ []

-- the entry of a choice: a turn of one of the vats, or a carry from one to another
abbrev pub chosen : ℕ → Entry
chosen c =
    if c == 0 then Turn 0
    else if c == 1 then Turn 1
    else if c == 2 then Turn 2
    else if c == 3 then Carry 0 1
    else if c == 4 then Carry 0 2
    else if c == 5 then Carry 1 0
    else if c == 6 then Carry 1 2
    else if c == 7 then Carry 2 0
    else Carry 2 1

-- the chosen entries, and then rounds of the three vats
abbrev pub generated_schedule : ℕ → List Entry
generated_schedule n = map (λ i. chosen (choice (generated_key n) i)) (range_with_len 0 n) ++ repeat (3 * n + 10) (round 3)

abbrev pub generated_script : ℕ → Script
generated_script n = record { key = generated_key n; fuel = 1000000; vats = generated_vats n; schedule = generated_schedule n }

-- Law: the bytes are read to it.
abbrev pub GeneratedScriptsAreRead : Type 0
GeneratedScriptsAreRead = (n : ℕ) → n ≤ 3000 → read (generated n) ≡ Ok (generated_script n)

-- Law: the run of it has an opening turn for each of three vats, and 28 n + 90 entries.
abbrev pub GeneratedScriptsAreLong : Type 0
GeneratedScriptsAreLong = (n : ℕ) → (length (generated_vats n) ≡ 3) × (length (generated_schedule n) ≡ 28 * n + 90)
