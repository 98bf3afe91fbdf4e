-- Characters read one after another, whatever their places.
use Rattle.std.proofs.Common.{◌≡◌, ℕ, ◌+◌, ◌&&◌, ◌||◌, eqb, true, false, List, [], ◌∷◌, ◌++◌, length, Option, Some, None, Result, Ok, Err, option_and_then, is_some, refl, sym, ◌∙◌, ap, subst, append_assoc}
use Rattle.std.specs.Char.{encode_utf8}
use Rattle.std.specs.Str.{chars, IsUtf8}
use Rattle.std.proofs.lemmas.Str.{chars-append, IsUtf8-append, chars-nil, IsUtf8-nil}
use Rattle.std.proofs.lemmas.Option.{same_Some}
use Rattle.def_kernel.specs.declared.node.Node.{Node}
use Rattle.def_kernel.specs.declared.reader.Item.{Item}
use Rattle.def_kernel.specs.declared.reader.Item.TheVariants.{Node as ANode}
use Rattle.def_kernel.specs.declared.reader.Frame.{Frame}
use Rattle.def_kernel.specs.declared.reader.Mode.{Mode}
use Rattle.def_kernel.specs.declared.reader.Mode.TheVariants.{Heading as heading, Behind as behind, Before as before, Whole as whole}
use Rattle.def_kernel.specs.declared.reader.State.{State}
use Rattle.def_kernel.specs.declared.shape.Head.{Head}
use Rattle.def_kernel.specs.declared.shape.Kind.{Kind}
use Rattle.def_kernel.specs.declared.shape.Want.{Want}
use Rattle.def_kernel.specs.declared.shape.Want.TheVariants.{Tree}
use Rattle.def_kernel.specs.Reading.{step, read_on, finished, add_item, close_in, wanted, takes_exit, open_wanted}

-- the state behind these characters
abbrev pub steps : List ℕ → State → Option State
steps [] s = Some s
steps (c ∷ cs) s = option_and_then (λ next. steps cs next) (step c s)

pub reads_one : (c : ℕ) (cs : List ℕ) (s next : State) → step c s ≡ Some next → steps (c ∷ cs) s ≡ steps cs next
reads_one c cs s next e = ap (λ o. option_and_then (λ n. steps cs n) o) e

after_step : (c : ℕ) (cs : List ℕ) (place : ℕ) (s t : State) (o : Option State) → step c s ≡ o → option_and_then (λ n. steps cs n) o ≡ Some t
    → ((k : ℕ) (n : State) → steps cs n ≡ Some t → read_on cs k n ≡ Ok t.nodes) → read_on (c ∷ cs) place s ≡ Ok t.nodes
after_step c cs place s t None e none later = absurd (cc)
after_step c cs place s t (Some n) e on later =
    ap (λ o. elim o as (λ _. Result (List Node) ℕ) [ None ↦ Err place | Some next ↦ read_on cs (place + length (encode_utf8 c)) next ]) e
    ∙ later (place + length (encode_utf8 c)) n on

-- what these characters lead to is the answer, where nothing may come behind them
pub whole_read : (cs : List ℕ) (place : ℕ) (s t : State) → t.mode ≡ whole → steps cs s ≡ Some t → read_on cs place s ≡ Ok t.nodes
whole_read [] place s t ends e =
    ap (λ (x : State). finished x.mode place x.nodes) (same_Some s t e) ∙ ap (λ m. finished m place t.nodes) ends
whole_read (c ∷ cs) place s t ends e = after_step c cs place s t (step c s) refl e (λ k n on. whole_read cs k n t ends on)

-- what may stand behind an item
pub data Stops : List ℕ → Type 0 where
  space : {cs : List ℕ} → Stops (32 ∷ cs)
  bracket : {cs : List ℕ} → Stops (41 ∷ cs)

-- a text whose characters lead from one state to another, where a space or a bracket comes next
pub record Goes (text : List ℕ) (s t : State) : Type 0 where
  pub utf8 : IsUtf8 text
  pub stops : (rest : List ℕ) → Stops rest → Stops (chars text ++ rest)
  pub reads : (rest : List ℕ) → Stops rest → steps (chars text ++ rest) s ≡ steps rest t

pub split : (a b rest : List ℕ) → IsUtf8 a → chars (a ++ b) ++ rest ≡ chars a ++ (chars b ++ rest)
split a b rest u = ap (λ cs. cs ++ rest) (chars-append a b u) ∙ append_assoc (chars a) (chars b) rest

pub goes_nowhere : (s : State) → Goes [] s s
goes_nowhere s = record {
  utf8 = IsUtf8-nil;
  stops = λ rest h. subst (λ cs. Stops (cs ++ rest)) (sym chars-nil) h;
  reads = λ rest h. ap (λ cs. steps (cs ++ rest) s) chars-nil;
}

pub goes_on : (a b : List ℕ) (s t u : State) → Goes a s t → Goes b t u → Goes (a ++ b) s u
goes_on a b s t u first later = record {
  utf8 = IsUtf8-append a b first.utf8 later.utf8;
  stops = λ rest h. subst Stops (sym (split a b rest first.utf8)) (first.stops (chars b ++ rest) (later.stops rest h));
  reads = λ rest h. ap (λ cs. steps cs s) (split a b rest first.utf8) ∙ first.reads (chars b ++ rest) (later.stops rest h) ∙ later.reads rest h;
}

-- a space, `(` and `)`
space_utf8 : IsUtf8 (32 ∷ [])
unfolding encode_utf8
space_utf8 = (32 ∷ [], (refl, refl))

open_utf8 : IsUtf8 (40 ∷ [])
unfolding encode_utf8
open_utf8 = (40 ∷ [], (refl, refl))

close_utf8 : IsUtf8 (41 ∷ [])
unfolding encode_utf8
close_utf8 = (41 ∷ [], (refl, refl))

space_chars : chars (32 ∷ []) ≡ 32 ∷ []
unfolding chars
space_chars = refl

open_chars : chars (40 ∷ []) ≡ 40 ∷ []
unfolding chars
open_chars = refl

close_chars : chars (41 ∷ []) ≡ 41 ∷ []
unfolding chars
close_chars = refl

behind_space : (text rest : List ℕ) → chars (32 ∷ text) ++ rest ≡ 32 ∷ (chars text ++ rest)
behind_space text rest = split (32 ∷ []) text rest space_utf8 ∙ ap (λ cs. cs ++ (chars text ++ rest)) space_chars

-- a text between brackets
pub bracketed_utf8 : (text : List ℕ) → IsUtf8 text → IsUtf8 (40 ∷ (text ++ 41 ∷ []))
bracketed_utf8 text u = IsUtf8-append (40 ∷ []) (text ++ 41 ∷ []) open_utf8 (IsUtf8-append text (41 ∷ []) u close_utf8)

pub bracketed : (text rest : List ℕ) → IsUtf8 text → chars (40 ∷ (text ++ 41 ∷ [])) ++ rest ≡ 40 ∷ (chars text ++ 41 ∷ rest)
bracketed text rest u =
    split (40 ∷ []) (text ++ 41 ∷ []) rest open_utf8 ∙ ap (λ cs. cs ++ (chars (text ++ 41 ∷ []) ++ rest)) open_chars
    ∙ ap (λ cs. 40 ∷ cs) (split text (41 ∷ []) rest u ∙ ap (λ cs. chars text ++ (cs ++ rest)) close_chars)

-- an item behind a space
pub item : (text : List ℕ) (s t : State) → IsUtf8 text → ((rest : List ℕ) → Stops rest → steps (32 ∷ (chars text ++ rest)) s ≡ steps rest t) → Goes (32 ∷ text) s t
item text s t u reads = record {
  utf8 = IsUtf8-append (32 ∷ []) text space_utf8 u;
  stops = λ rest h. subst Stops (sym (behind_space text rest)) space;
  reads = λ rest h. ap (λ cs. steps cs s) (behind_space text rest) ∙ reads rest h;
}

abbrev pub state : List Frame → List Node → Mode → State
state frames nodes mode = record { frames = frames; nodes = nodes; mode = mode }

abbrev pub framed : ℕ → Head → List Item → List Frame → List Frame
framed number head items frames = record { number = number; head = head; items = items } ∷ frames

-- behind the items of a form
abbrev pub at : ℕ → Head → List Item → List Frame → List Node → State
at number head items frames nodes = state (framed number head items frames) nodes behind

-- behind the bracket of a form, which is an item of the form round it
abbrev pub closed : List Frame → Item → List Node → State
closed [] item nodes = state [] nodes whole
closed (frame ∷ frames) item nodes = state (add_item item (frame ∷ frames)) nodes behind

pub closes_in : (frames : List Frame) (item : Item) (nodes : List Node) → close_in frames item nodes ≡ Some (closed frames item nodes)
closes_in [] item nodes = refl
closes_in (frame ∷ frames) item nodes = refl

-- behind a space, where something is wanted
pub space_wanted : (number : ℕ) (head : Head) (items : List Item) (frames : List Frame) (nodes : List Node) (want : Want) → wanted head (length items) ≡ Some want
    → step 32 (at number head items frames nodes) ≡ Some (state (framed number head items frames) nodes before)
space_wanted number head items frames nodes want e =
    ap (λ o. elim (eqb 32 32 && (is_some o || takes_exit head (length items))) as (λ _. Option State) [
      | true ↦ Some (state (framed number head items frames) nodes before)
      | false ↦ None
    ]) e

pub opens_tree : (number : ℕ) (head : Head) (items : List Item) (frames : List Frame) (nodes : List Node) (kind : Kind) → wanted head (length items) ≡ Some (Tree kind)
    → step 40 (state (framed number head items frames) nodes before) ≡ Some (state (framed number head items frames) nodes (heading kind []))
opens_tree number head items frames nodes kind e = ap (λ o. open_wanted o (state (framed number head items frames) nodes whole)) e

-- the form of a tree of this kind whose first node has this number, and the nodes that it adds
pub record ReadsTree (text : List ℕ) (kind : Kind) (n : ℕ) (part : List Node) : Type 0 where
  pub utf8 : IsUtf8 text
  pub reads : (frames : List Frame) (start : List Node) → length start ≡ n → (s : State) → step 40 s ≡ Some (state frames start (heading kind []))
      → (rest : List ℕ) → steps (chars text ++ rest) s ≡ steps rest (closed frames (ANode n) (start ++ part))

-- a tree where one is wanted
pub tree_item : (text : List ℕ) (kind : Kind) (n : ℕ) (part : List Node) → ReadsTree text kind n part
    → (number : ℕ) (head : Head) (items : List Item) (frames : List Frame) (start : List Node) → wanted head (length items) ≡ Some (Tree kind) → length start ≡ n
    → Goes (32 ∷ text) (at number head items frames start) (at number head (items ++ ANode n ∷ []) frames (start ++ part))
tree_item text kind n part tree number head items frames start wants long =
    item text (at number head items frames start) (at number head (items ++ ANode n ∷ []) frames (start ++ part)) tree.utf8 (λ rest h.
    reads_one 32 (chars text ++ rest) (at number head items frames start) (state (framed number head items frames) start before) (space_wanted number head items frames start (Tree kind) wants)
    ∙ tree.reads (framed number head items frames) start long (state (framed number head items frames) start before) (opens_tree number head items frames start kind wants) rest)
