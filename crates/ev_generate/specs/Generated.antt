-- The script that is generated for a number, byte by byte: its key, its schedule and its three vats.
use Rattle.std.specs.Prelude.{ℕ, ◌+◌, ◌*◌, ◌%◌, ◌==◌, if◌then◌else◌, List, [], ◌∷◌, ◌++◌, codes, decimal}
use Rattle.std.specs.Int.{w32, to_le_bytes}
use Rattle.std.specs.List.{flat_map, range_with_len, repeat}
use Rattle.hex.specs.Hex.{encode_lower}
use Rattle.rand_chacha.specs.ChaCha.{word_at, key_of}

-- the key: four bytes of the number, the lowest first, and 28 bytes of zero
abbrev pub generated_key : ℕ → List ℕ
generated_key n = to_le_bytes w32 n ++ repeat 28 (0 ∷ [])

-- entry i of the schedule is chosen by word i of ChaCha20 on stream 0 under the key
unfoldable pub choice : List ℕ → ℕ → ℕ
choice key i = word_at 10 (key_of key) 0 i % 9

-- a turn of one of the vats, or a carry from one to another
abbrev pub entry : ℕ → List ℕ
entry chosen =
    if chosen == 0 then codes "turn v0"
    else if chosen == 1 then codes "turn v1"
    else if chosen == 2 then codes "turn v2"
    else if chosen == 3 then codes "carry v0 v1"
    else if chosen == 4 then codes "carry v0 v2"
    else if chosen == 5 then codes "carry v1 v0"
    else if chosen == 6 then codes "carry v1 v2"
    else if chosen == 7 then codes "carry v2 v0"
    else codes "carry v2 v1"

-- an entry as JSON spells it, with the comma behind it
abbrev pub spelled_entry : ℕ → List ℕ
spelled_entry chosen = codes "\"" ++ entry chosen ++ codes "\","

-- the chosen entries, as many as the number says
abbrev pub entries : List ℕ → ℕ → List ℕ
entries key n = flat_map (λ i. spelled_entry (choice key i)) (range_with_len 0 n)

-- what stands in front of the entries
abbrev pub head : List ℕ → List ℕ
head key = codes "{\"key\":\"" ++ encode_lower key ++ codes "\",\"schedule\":["

-- Behind the chosen entries the schedule drains.
abbrev pub drain : ℕ → List ℕ
drain n = codes "\"drain " ++ decimal (3 * n + 10)

-- The vats follow: the first sends as many messages as the number says to the second, which hands each on to the third.
abbrev pub before_count : List ℕ
before_count = codes "\"],\"vats\":[{\"knows\":[\"v1\",\"v2\"],\"name\":\"v0\",\"source\":\"for i in 1.."

abbrev pub behind_count : List ℕ
behind_count =
    codes " { v1 <- hop(i, v2) }\"},{\"knows\":[],\"name\":\"v1\",\"source\":\"def t { method hop(i, w) { w <- add(i) } }\"},{\"knows\":[],\"name\":\"v2\",\"source\":\"var sum := 0; def t { method add(i) { sum += i } }\"}]}"

abbrev pub vats : ℕ → List ℕ
vats n = before_count ++ decimal n ++ behind_count

-- the text of the script that is generated for a number
abbrev pub generated : ℕ → List ℕ
generated n = head (generated_key n) ++ entries (generated_key n) n ++ drain n ++ vats n
