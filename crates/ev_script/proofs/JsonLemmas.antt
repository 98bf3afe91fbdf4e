-- What a read of JSON says of the JSON value of the bytes, and items of a list as they are seen.
use Rattle.std.proofs.Common.{◌≡◌, ℕ, suc, List, [], ◌∷◌, length, String, true, false, Some, None, cond, refl, ap}
use Rattle.std.specs.Str.{IsUtf8, is_utf8}
use Rattle.std.proofs.lemmas.Str.{IsUtf8-from_is_utf8, is_utf8-from_IsUtf8}
use Rattle.std.specs.declared.alloc.Global.{Global}
use Rattle.serde_json.specs.Data.{Data}
use Rattle.serde_json.specs.View.{members_of, items_of}
use Rattle.serde_json.specs.Read.{read}
use Rattle.ev_script.specs.Json.{json_of, member_count, listed}

pub json_of-read : (bytes : List ℕ) (d : Data) → IsUtf8 bytes → read bytes ≡ Some d → json_of bytes ≡ Some d
unfolding json_of
json_of-read bytes d text is = rw (is_utf8-from_IsUtf8 bytes text) is

pub json_of-refused : (bytes : List ℕ) → (IsUtf8 bytes → read bytes ≡ None) → json_of bytes ≡ None
unfolding json_of
json_of-refused bytes none =
    elim (is_utf8 bytes) as (λ b. is_utf8 bytes ≡ b → cond b (read bytes) None ≡ None)
    [ true ↦ λ e. none (IsUtf8-from_is_utf8 bytes e) | false ↦ λ e. refl ] refl

-- an object has as many members as its map has entries
pub member_count-members_of : (ms : List (String Global × Data)) → member_count (members_of ms) ≡ length ms
member_count-members_of [] = refl
member_count-members_of (m ∷ ms) = ap suc (member_count-members_of ms)

-- the items of a list that is seen are the list
pub listed_items_of : (ds : List Data) → listed (items_of ds) ≡ ds
listed_items_of [] = refl
listed_items_of (d ∷ ds) = ap (λ es. d ∷ es) (listed_items_of ds)
