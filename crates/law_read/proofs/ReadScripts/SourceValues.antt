-- Each string in a value of JSON that a text in UTF-8 spells is in UTF-8.
use Rattle.std.proofs.Common.{ℕ, zero, suc, List, [], ◌∷◌, length, Option, Some, None, Ordering, Less, Equal, Greater}
use Rattle.std.specs.Prelude.{option_map, option_and_then}
use Rattle.std.specs.Ordering.{nat_cmp, match_ordering}
use Rattle.std.specs.Cmp.Lexicographic.{slice_cmp}
use Rattle.std.specs.Str.{IsUtf8}
use Rattle.json.specs.Token.{Token}
use Rattle.json.specs.Lex.{tokens}
use Rattle.json.specs.Json as json
use Rattle.json.specs.Json.{Json, Parse, parse_map, after_end_array, read_key, items_step, members_step, value_with, value, if_last}
use Rattle.serde_json.specs.Data.{Num, Data, null, boolean, number, string, array, object, Items, no_items, item, Members, no_members, member, put}
use Rattle.serde_json.specs.Read.{number_of, of_json, of_items, of_members, max_depth, read}
use Rattle.law_read.proofs.ReadScripts.SourceTokens.{AreTexts, tokens_are_texts}

-- ---- what tokens spell

abbrev mutual
  HasTexts : Json → Type 0
  HasTexts (json.string s) = IsUtf8 s
  HasTexts (json.array js) = ItemsHave js
  HasTexts (json.object ms) = MembersHave ms
  HasTexts other = Unit {0}

  ItemsHave : json.Items → Type 0
  ItemsHave json.no_items = Unit {0}
  ItemsHave (json.item j js) = HasTexts j × ItemsHave js

  MembersHave : json.Members → Type 0
  MembersHave json.no_members = Unit {0}
  MembersHave (json.member k j ms) = HasTexts j × MembersHave ms

-- what was read is so, and so are the tokens behind it
abbrev Gives : {A : Type 0} → (A → Type 0) → Option (A × List Token) → Type 0
Gives P None = Unit {0}
Gives P (Some r) = P r.0 × AreTexts r.1

abbrev Reads : {A : Type 0} → (A → Type 0) → Parse A → Type 0
Reads P f = (ts : List Token) → AreTexts ts → Gives P (f ts)

gives_map : {A B : Type 0} (P : A → Type 0) (Q : B → Type 0) (f : A → B) (r : Option (A × List Token)) → ((a : A) → P a → Q (f a)) → Gives P r → Gives Q (parse_map f r)
gives_map P Q f None h g = tt
gives_map P Q f (Some r) h g = (h r.0 g.0, g.1)

gives_then : {A B : Type 0} (P : A → Type 0) (Q : B → Type 0) (f : A × List Token → Option (B × List Token)) (r : Option (A × List Token)) → Gives P r → ((a : A) (ts : List Token) → P a → AreTexts ts → Gives Q (f (a, ts))) → Gives Q (option_and_then f r)
gives_then P Q f None g h = tt
gives_then P Q f (Some r) g h = h r.0 r.1 g.0 g.1

abbrev IfTexts : Option (List Token) → Type 0
IfTexts None = Unit {0}
IfTexts (Some ts) = AreTexts ts

array_ends : (ts : List Token) → AreTexts ts → IfTexts (after_end_array ts)
array_ends (Token.end_array ∷ ts) a = a.1
array_ends other a = tt

-- nothing is asked of a key
abbrev Any : Option (List ℕ) → Type 0
Any k = Unit {0}

key_read : (ts : List Token) → AreTexts ts → Gives Any (read_key ts)
key_read (Token.end_object ∷ ts) a = (tt, a.1)
key_read (Token.key s ∷ ts) a = (tt, a.1)
key_read other a = tt

items_go : (v : Parse Json) (more : Parse json.Items) (ts : List Token) (o : Option (List Token)) → Reads HasTexts v → Reads ItemsHave more → AreTexts ts → IfTexts o → Gives ItemsHave (items_step v more ts o)
items_go v more ts (Some rest) h m a b = (tt, b)
items_go v more ts None h m a b =
    gives_then HasTexts ItemsHave (λ p. parse_map (json.item p.0) (more p.1)) (v ts) (h ts a) (λ j us k c. gives_map ItemsHave ItemsHave (json.item j) (more us) (λ js i. (k, i)) (m us c))

members_go : (v : Parse Json) (more : Parse json.Members) (k : Option (List ℕ)) (ts : List Token) → Reads HasTexts v → Reads MembersHave more → AreTexts ts → Gives MembersHave (members_step v more k ts)
members_go v more None ts h m a = (tt, a)
members_go v more (Some k) ts h m a =
    gives_then HasTexts MembersHave (λ p. parse_map (json.member k p.0) (more p.1)) (v ts) (h ts a) (λ j us t c. gives_map MembersHave MembersHave (json.member k j) (more us) (λ js i. (t, i)) (m us c))

items_read : (v : Parse Json) → Reads HasTexts v → (n : ℕ) → Reads ItemsHave (json.items v n)
unfolding json.items
items_read v h zero ts a = tt
items_read v h (suc n) ts a = items_go v (json.items v n) ts (after_end_array ts) h (items_read v h n) a (array_ends ts a)

members_read : (v : Parse Json) → Reads HasTexts v → (n : ℕ) → Reads MembersHave (json.members v n)
unfolding json.members
members_read v h zero ts a = tt
members_read v h (suc n) ts a =
    gives_then Any MembersHave (λ p. members_step v (json.members v n) p.0 p.1) (read_key ts) (key_read ts a) (λ k us t c. members_go v (json.members v n) k us h (members_read v h n) c)

one_read : (a : Parse json.Items) (o : Parse json.Members) → Reads ItemsHave a → Reads MembersHave o → Reads HasTexts (value_with a o)
one_read a o h m (Token.begin_object ∷ ts) t = gives_map MembersHave HasTexts json.object (o ts) (λ ms i. i) (m ts t.1)
one_read a o h m (Token.begin_array ∷ ts) t = gives_map ItemsHave HasTexts json.array (a ts) (λ js i. i) (h ts t.1)
one_read a o h m (Token.string s ∷ ts) t = t
one_read a o h m (Token.number s ∷ ts) t = (tt, t.1)
one_read a o h m (Token.boolean b ∷ ts) t = (tt, t.1)
one_read a o h m (Token.null ∷ ts) t = (tt, t.1)
one_read a o h m other t = tt

value_read : (depth : ℕ) → Reads HasTexts (value depth)
unfolding value
value_read zero ts a = one_read (λ us. None) (λ us. None) (λ us b. tt) (λ us b. tt) ts a
value_read (suc depth) ts a =
    one_read (λ us. json.items (value depth) (length us) us) (λ us. json.members (value depth) (length us) us)
    (λ us b. items_read (value depth) (value_read depth) (length us) us b) (λ us b. members_read (value depth) (value_read depth) (length us) us b) ts a

-- ---- the value

abbrev mutual
  pub AllTexts : Data → Type 0
  AllTexts null = Unit {0}
  AllTexts (boolean b) = Unit {0}
  AllTexts (number n) = Unit {0}
  AllTexts (string s) = IsUtf8 s
  AllTexts (array ds) = AllOfItems ds
  AllTexts (object ms) = AllOfMembers ms

  pub AllOfItems : Items → Type 0
  AllOfItems no_items = Unit {0}
  AllOfItems (item d ds) = AllTexts d × AllOfItems ds

  pub AllOfMembers : Members → Type 0
  AllOfMembers no_members = Unit {0}
  AllOfMembers (member k d ms) = AllTexts d × AllOfMembers ms

-- so is what may be there
abbrev pub If : {A : Type 0} → (A → Type 0) → Option A → Type 0
If P None = Unit {0}
If P (Some a) = P a

if_map : {A B : Type 0} (P : A → Type 0) (Q : B → Type 0) (f : A → B) (o : Option A) → ((a : A) → P a → Q (f a)) → If P o → If Q (option_map f o)
if_map P Q f None h i = tt
if_map P Q f (Some a) h i = h a i

pub if_then : {A B : Type 0} (P : A → Type 0) (Q : B → Type 0) (f : A → Option B) (o : Option A) → ((a : A) → P a → If Q (f a)) → If P o → If Q (option_and_then f o)
if_then P Q f None h i = tt
if_then P Q f (Some a) h i = h a i

pub by_order : {A : Type 0} (P : A → Type 0) (o : Ordering) (a b c : A) → P a → P b → P c → P (match_ordering o a b c)
by_order P Less a b c h i j = h
by_order P Equal a b c h i j = i
by_order P Greater a b c h i j = j

put_in : (k : List ℕ) (d : Data) (ms : Members) → AllTexts d → AllOfMembers ms → AllOfMembers (put k d ms)
put_in k d no_members h i = (h, tt)
put_in k d (member l e ms) h i =
    by_order AllOfMembers (slice_cmp nat_cmp k l) (member k d (member l e ms)) (member l d ms) (member l e (put k d ms)) (h, i) (h, i.1) (i.0, put_in k d ms h i.1)

number_if : (o : Option Num) → If AllTexts (option_map number o)
number_if None = tt
number_if (Some n) = tt

mutual
  data_of : (j : Json) → HasTexts j → If AllTexts (of_json j)
  data_of (json.number s) t = number_if (number_of s)
  data_of (json.string s) t = t
  data_of (json.array js) t = if_map AllOfItems AllTexts array (of_items js) (λ ds i. i) (items_of js t)
  data_of (json.object ms) t = if_map AllOfMembers AllTexts object (of_members ms no_members) (λ ns i. i) (members_of ms no_members t tt)
  data_of other t = tt

  items_of : (js : json.Items) → ItemsHave js → If AllOfItems (of_items js)
  items_of json.no_items t = tt
  items_of (json.item j js) t =
      if_then AllTexts AllOfItems (λ d. option_map (item d) (of_items js)) (of_json j) (λ d h. if_map AllOfItems AllOfItems (item d) (of_items js) (λ ds i. (h, i)) (items_of js t.1)) (data_of j t.0)

  members_of : (ms : json.Members) (found : Members) → MembersHave ms → AllOfMembers found → If AllOfMembers (of_members ms found)
  members_of json.no_members found t f = f
  members_of (json.member k j ms) found t f = if_then AllTexts AllOfMembers (λ d. of_members ms (put k d found)) (of_json j) (λ d h. members_of ms (put k d found) t.1 (put_in k d found h f)) (data_of j t.0)

-- ---- the whole

last : (r : Option (Json × List Token)) → Gives HasTexts r → If HasTexts (option_and_then (λ p. if_last p.0 p.1) r)
last None g = tt
last (Some (j, [])) g = g.0
last (Some (j, t ∷ ts)) g = tt

pub texts_of : (text : List ℕ) → IsUtf8 text → If AllTexts (read text)
texts_of text u =
    if_then HasTexts AllTexts of_json (option_and_then (λ p. if_last p.0 p.1) (value max_depth (tokens text))) (λ j h. data_of j h)
    (last (value max_depth (tokens text)) (value_read max_depth (tokens text) (tokens_are_texts text u)))
