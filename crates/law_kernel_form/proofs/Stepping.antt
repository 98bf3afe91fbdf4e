-- Where a character leads from a state in which things stand as they should.
use Rattle.std.proofs.Common.{◌≡◌, ℕ, zero, suc, ◌-◌, ◌^◌, ◌<◌, ◌≤◌, inl, inr, ◌&&◌, ◌||◌, cond, eqb, Bool, true, false, pos, List, [], ◌∷◌, ◌++◌, length, Option, Some, None, is_some, option_map, refl, sym, ◌∙◌, ap, subst, arith, lit<, length-append, append_assoc}
use Rattle.std.specs.Prelude.{slice_set, ◌-ℤ◌, codes, bytes_eq}
use Rattle.std.specs.Char.{IsScalar, encode_utf8}
use Rattle.std.specs.List.{starts_with}
use lib.Utf8.{scalar}
use Rattle.std.proofs.lemmas.Bool.{eqb-true}
use Rattle.std.proofs.lemmas.Bool.Decides.{nat_tests}
use Rattle.std.proofs.lemmas.Option.{same_Some}
use Rattle.std.proofs.lemmas.Str.{IsUtf8-encode, IsUtf8-nil}
use Rattle.def_text.specs.Keywords.{begins_identifier}
use Rattle.def_kernel.specs.declared.node.Node.{Node}
use Rattle.def_kernel.specs.declared.reader.Item.{Item}
use Rattle.def_kernel.specs.declared.reader.Item.TheVariants.{Node as ANode, Nodes as ANodes}
use Rattle.def_kernel.specs.declared.reader.Frame.{Frame}
use Rattle.def_kernel.specs.declared.reader.Mode.{Mode}
use Rattle.def_kernel.specs.declared.reader.Mode.TheVariants.{Heading as heading, Behind as behind, Before as before, Grouping as grouping, Exiting as exiting, Bare as bare, Negative as negative, Digits as digits, Text as text, Character as character, Whole as whole}
use Rattle.def_kernel.specs.declared.reader.State.{State}
use Rattle.def_kernel.specs.declared.shape.Kind.{Kind}
use Rattle.def_kernel.specs.declared.shape.Head.{Head}
use Rattle.def_kernel.specs.declared.shape.Head.TheVariants as head
use Rattle.def_kernel.specs.declared.shape.Want.{Want}
use Rattle.def_kernel.specs.declared.shape.Want.TheVariants as want
use Rattle.def_kernel.specs.Reading.{heads, head_of, no_node, node_of, numbers, takes_exit, ends, next_wanted, may_exit, with_exit, add_item, begin, begin_head, close_frame, close, step_behind, step_before, step_heading, step_exiting, open_wanted, begin_wanted, item_begins, item_ends, literal_begins, is_digit, ends_word, is_front_of_head}
use Rattle.def_kernel.specs.Trees.{IsInt}
use Rattle.law_kernel_form.proofs.Steps.{state, framed, at, closed, closes_in}
use Rattle.std.proofs.lemmas.List.{append-nil}
use Rattle.std.proofs.lemmas.Str.{encode_ascii}
use Rattle.std.proofs.lemmas.Slice.Eq.{bytes_eq-Decides}
use Rattle.def_kernel.specs.Forms.{spaced}
use Rattle.law_kernel_form.proofs.Decimals.{one_down, first_text}
use Rattle.law_kernel_form.proofs.Writing.{gap, open_text, up_to_item, mode_text, text_at, item_text, last_form, spaced_more}
use Rattle.law_kernel_form.proofs.Shapes.{Spelt, first_words, first_gap, no_more, also, Of, of_word, of_lit, of_noun, of_set, of_def, of_call, of_seq, of_if, of_escape, of_try, of_finally, of_hide, of_match, of_object, of_final, of_var, of_any, of_list, of_via, of_method, of_matcher, of_final_name, of_no_name, of_def_exit}
use Rattle.law_kernel_form.proofs.Standing.{grown, inside, Open, a_form, trees, Stands, Untouched, Good, one_by_one, stays, adds, get_front, node_closed, group_closed}

-- by what a test answered
pub by_test : {P : Type 0} (b : Bool) (x y : Option State) (t : State) → elim b as (λ _. Option State) [ true ↦ x | false ↦ y ] ≡ Some t
    → (b ≡ true → x ≡ Some t → P) → (b ≡ false → y ≡ Some t → P) → P
by_test true x y t e p q = p refl e
by_test false x y t e p q = q refl e

pub by_choice : {A P : Type 0} (b : Bool) (x y : Option A) (t : A) → cond b x y ≡ Some t → (b ≡ true → x ≡ Some t → P) → (b ≡ false → y ≡ Some t → P) → P
by_choice true x y t e p q = p refl e
by_choice false x y t e p q = q refl e

pub by_value : {A B P : Type 0} (f : A → B) (o : Option A) (t : B) → option_map f o ≡ Some t → ((x : A) → o ≡ Some x → f x ≡ t → P) → P
by_value f None t e p = absurd (cc)
by_value f (Some x) t e p = p x refl (same_Some (f x) t e)

pub nothing_here : {A : Type 0} {P : Type 0} (t : A) → None ≡ Some t → P
nothing_here t e = absurd (cc)

nothing_true : {P : Type 0} → false ≡ true → P
nothing_true e = absurd (cc)

pub right : (a b : Bool) → (a && b) ≡ true → b ≡ true
right true b e = e
right false b e = absurd (cc)

pub left : (a b : Bool) → (a && b) ≡ true → a ≡ true
left true b e = refl
left false b e = absurd (cc)

-- this state it leads to
pub leads_to : (last : List Node) (x : List ℕ) (s u t : State) → Some u ≡ Some t → Good last x s u → Good last x s t
leads_to last x s u t e good = subst (λ y. Good last x s y) (same_Some u t e) good

-- a character of one byte
pub byte : (c d : ℕ) → eqb c d ≡ true → d < 128 → encode_utf8 c ≡ d ∷ []
byte c d e h = ap encode_utf8 (eqb-true c d e) ∙ encode_ascii d h

-- the bracket of the innermost form
form_closed : (last : List Node) (number : ℕ) (shape : Head) (items : List Item) (frames : List Frame) (nodes : List Node) (mode : Mode) (t : State) → ends shape (length items) ≡ true
    → close_frame shape number items frames nodes ≡ Some t
    → (Stands last (framed number shape items frames) (length nodes) mode → Open last (framed number shape items frames) (length nodes))
    → (Stands last (framed number shape items frames) (length nodes) mode → text_at (last_form last) (framed number shape items frames) mode ≡ open_text (last_form last) (framed number shape items frames))
    → Good last (41 ∷ []) (state (framed number shape items frames) nodes mode) t
form_closed last number (head.Group kind) items frames nodes mode t may_close e opened text_is =
    leads_to last (41 ∷ []) (state (framed number (head.Group kind) items frames) nodes mode) (closed frames (ANodes (numbers items)) nodes) t (sym (closes_in frames (ANodes (numbers items)) nodes) ∙ e)
    (group_closed last number kind items frames nodes mode opened text_is)
form_closed last number shape items frames nodes mode t may_close e opened text_is =
    leads_to last (41 ∷ []) (state (framed number shape items frames) nodes mode) (closed frames (ANode number) (slice_set nodes number (node_of shape items))) t
    (sym (closes_in frames (ANode number) (slice_set nodes number (node_of shape items))) ∙ e) (node_closed last number shape items frames nodes mode refl may_close opened text_is)

pub close_good : (last : List Node) (c : ℕ) (frames : List Frame) (nodes : List Node) (mode : Mode) (t : State) → eqb c 41 ≡ true → close (state frames nodes whole) ≡ Some t
    → (Stands last frames (length nodes) mode → Open last frames (length nodes))
    → (Stands last frames (length nodes) mode → text_at (last_form last) frames mode ≡ open_text (last_form last) frames)
    → Good last (encode_utf8 c) (state frames nodes mode) t
close_good last c [] nodes mode t is e opened text_is = absurd (cc)
close_good last c (frame ∷ frames) nodes mode t is e opened text_is =
    subst (λ x. Good last x (state (frame ∷ frames) nodes mode) t) (sym (byte c 41 is (lit< tt)))
    (by_test (ends frame.head (length frame.items)) (close_frame frame.head frame.number frame.items frames nodes) None t e
    (λ may_close closes. form_closed last frame.number frame.head frame.items frames nodes mode t may_close closes opened text_is) (λ _ none. nothing_here t none))

pub behind_good : (last : List Node) (c : ℕ) (frames : List Frame) (nodes : List Node) (t : State) → step_behind c (state frames nodes whole) ≡ Some t → Good last (encode_utf8 c) (state frames nodes behind) t
behind_good last c frames nodes t e =
    by_test (eqb c 41) (close (state frames nodes whole))
    (elim (eqb c 32 && (is_some (next_wanted frames) || may_exit frames)) as (λ _. Option State) [ true ↦ Some (state frames nodes before) | false ↦ None ]) t e
    (λ is closes. close_good last c frames nodes behind t is closes (λ x. x.0) (λ x. refl))
    (λ _ goes. by_test (eqb c 32 && (is_some (next_wanted frames) || may_exit frames)) (Some (state frames nodes before)) None t goes
    (λ may is. leads_to last (encode_utf8 c) (state frames nodes behind) (state frames nodes before) t is (stays last (encode_utf8 c) frames nodes behind before (λ x. x.0) (λ x.
    ap (λ w. open_text (last_form last) frames ++ w) (byte c 32 (left (eqb c 32) (is_some (next_wanted frames) || may_exit frames) may) (lit< tt) ∙ sym x.1)
    ∙ sym (append-nil (up_to_item (last_form last) frames)))))
    (λ _ none. nothing_here t none))

-- an item that ends before this character
pub item_good : (last : List Node) (c : ℕ) (frames : List Frame) (nodes : List Node) (mode : Mode) (item : Item) (t : State)
    → (Stands last frames (length nodes) mode → Open last frames (length nodes)) → (Stands last frames (length nodes) mode → Open last (add_item item frames) (length nodes))
    → text_at (last_form last) frames mode ≡ up_to_item (last_form last) frames ++ mode_text mode
    → (Stands last frames (length nodes) mode → mode_text mode ≡ item_text (last_form last) item) → item_ends item c (state frames nodes whole) ≡ Some t
    → Good last (encode_utf8 c) (state frames nodes mode) t
item_good last c frames nodes mode item t opened leads at_item same e =
    one_by_one last (encode_utf8 c) (state frames nodes mode) (state (add_item item frames) nodes behind) t (λ over. absurd (cc))
    (adds last [] frames nodes mode item opened leads at_item (λ is. append-nil (mode_text mode) ∙ same is))
    (behind_good last c (add_item item frames) nodes t e)

-- a form begins
begin_is : (kind : Kind) (shape : Head) (s : State) → Of kind shape → begin shape s ≡ at (length s.nodes) shape [] s.frames (s.nodes ++ no_node ∷ [])
begin_is _ _ s of_lit = refl
begin_is _ _ s of_noun = refl
begin_is _ _ s of_set = refl
begin_is _ _ s of_def = refl
begin_is _ _ s of_call = refl
begin_is _ _ s of_seq = refl
begin_is _ _ s of_if = refl
begin_is _ _ s of_escape = refl
begin_is _ _ s of_try = refl
begin_is _ _ s of_finally = refl
begin_is _ _ s of_hide = refl
begin_is _ _ s of_match = refl
begin_is _ _ s of_object = refl
begin_is _ _ s of_final = refl
begin_is _ _ s of_var = refl
begin_is _ _ s of_any = refl
begin_is _ _ s of_list = refl
begin_is _ _ s of_via = refl
begin_is _ _ s of_method = refl
begin_is _ _ s of_matcher = refl
begin_is _ _ s of_final_name = refl
begin_is _ _ s of_no_name = refl
begin_is _ _ s of_def_exit = refl

begins_good : (last : List Node) (kind : Kind) (w : List ℕ) (shape : Head) (frames : List Frame) (nodes : List Node) → Spelt kind w shape
    → Good last [] (state frames nodes (heading kind w)) (at (length nodes) shape [] frames (nodes ++ no_node ∷ []))
begins_good last kind w shape frames nodes spelt =
    let longer : length (nodes ++ no_node ∷ []) ≡ suc (length nodes) = length-append nodes (no_node ∷ []) ∙ omega arith in
    record {
      keeps = λ i some within untouched. record {
        same = get_front nodes (no_node ∷ []) i within;
        within = omega arith;
        untouched = ((λ same. absurd (omega arith)), untouched);
      };
      stands = λ place later. (subst (λ m. Open last (framed (length nodes) shape [] frames) m) (sym longer) (a_form place spelt.of spelt.ready no_more), first_gap spelt.of);
      says = λ place later.
          append-nil (up_to_item (last_form last) frames ++ 40 ∷ w)
          ∙ ap (λ v. up_to_item (last_form last) frames ++ 40 ∷ v) (spelt.is ∙ sym (first_words spelt.of));
    }

word_good : (last : List Node) (c : ℕ) (kind : Kind) (w : List ℕ) (frames : List Frame) (nodes : List Node) (t : State) (o : Option Head) → head_of (heads kind) w ≡ o
    → begin_head o c (state frames nodes whole) ≡ Some t → Good last (encode_utf8 c) (state frames nodes (heading kind w)) t
word_good last c kind w frames nodes t None found e = nothing_here t e
word_good last c kind w frames nodes t (Some shape) found e =
    let spelt = of_word kind w shape found in
    let begun = at (length nodes) shape [] frames (nodes ++ no_node ∷ []) in
    one_by_one last (encode_utf8 c) (state frames nodes (heading kind w)) begun t (λ same. absurd (cc)) (begins_good last kind w shape frames nodes spelt)
    (behind_good last c (framed (length nodes) shape [] frames) (nodes ++ no_node ∷ []) t
    (ap (λ s. step_behind c s) (sym (begin_is kind shape (state frames nodes whole) spelt.of)) ∙ e))

pub heading_good : (last : List Node) (c : ℕ) (kind : Kind) (w : List ℕ) (frames : List Frame) (nodes : List Node) (t : State)
    → step_heading kind w c (state frames nodes whole) ≡ Some t → Good last (encode_utf8 c) (state frames nodes (heading kind w)) t
heading_good last c kind w frames nodes t e =
    by_test (ends_word c) (begin_head (head_of (heads kind) w) c (state frames nodes whole))
    (elim (is_front_of_head (w ++ encode_utf8 c) kind) as (λ _. Option State) [ true ↦ Some (state frames nodes (heading kind (w ++ encode_utf8 c))) | false ↦ None ]) t e
    (λ _ begins. word_good last c kind w frames nodes t (head_of (heads kind) w) refl begins)
    (λ _ goes. by_test (is_front_of_head (w ++ encode_utf8 c) kind) (Some (state frames nodes (heading kind (w ++ encode_utf8 c)))) None t goes
    (λ _ is. leads_to last (encode_utf8 c) (state frames nodes (heading kind w)) (state frames nodes (heading kind (w ++ encode_utf8 c))) t is
    (stays last (encode_utf8 c) frames nodes (heading kind w) (heading kind (w ++ encode_utf8 c)) (λ place. place)
    (λ _. grown (up_to_item (last_form last) frames) (40 ∷ w) (encode_utf8 c) (40 ∷ (w ++ encode_utf8 c)) refl)))
    (λ _ none. nothing_here t none))

-- trees between brackets begin
group_good : (last : List Node) (c : ℕ) (kind : Kind) (frames : List Frame) (nodes : List Node) → eqb c 40 ≡ true → next_wanted frames ≡ Some (want.Group kind)
    → Good last (encode_utf8 c) (state frames nodes before) (state (framed 0 (head.Group kind) [] frames) nodes grouping)
group_good last c kind frames nodes is wants = record {
  keeps = λ i some within untouched. record { same = refl; within = within; untouched = ((λ same. absurd (omega arith)), untouched) };
  stands = λ opened later. (trees opened wants no_more, refl);
  says = λ opened later.
      grown (up_to_item (last_form last) frames) [] (encode_utf8 c) (40 ∷ []) (byte c 40 is (lit< tt))
      ∙ sym (append-nil (up_to_item (last_form last) frames ++ 40 ∷ [])) ∙ sym (append-nil ((up_to_item (last_form last) frames ++ 40 ∷ []) ++ []));
}

opens_good : (last : List Node) (c : ℕ) (frames : List Frame) (nodes : List Node) (t : State) (o : Option Want) → eqb c 40 ≡ true → next_wanted frames ≡ o
    → open_wanted o (state frames nodes whole) ≡ Some t → Good last (encode_utf8 c) (state frames nodes before) t
opens_good last c frames nodes t (Some (want.Tree kind)) is wants e =
    leads_to last (encode_utf8 c) (state frames nodes before) (state frames nodes (heading kind [])) t e
    (stays last (encode_utf8 c) frames nodes before (heading kind []) (λ opened. inside opened wants) (λ _. grown (up_to_item (last_form last) frames) [] (encode_utf8 c) (40 ∷ []) (byte c 40 is (lit< tt))))
opens_good last c frames nodes t (Some (want.Group kind)) is wants e =
    leads_to last (encode_utf8 c) (state frames nodes before) (state (framed 0 (head.Group kind) [] frames) nodes grouping) t e (group_good last c kind frames nodes is wants)
opens_good last c frames nodes t _ is wants e = nothing_here t e

-- an integer of one digit
pub digit_low : (c : ℕ) → is_digit c ≡ true → c ≤ 57
digit_low c e = grind (arith, nat_tests)

small : (d : ℕ) → d ≤ 57 → IsInt (pos d)
small d h = let l : 57 < 2 ^ 127 = lit< tt in omega arith

pub small_negative : (d : ℕ) → d ≤ 57 → IsInt (pos 0 -ℤ pos d)
small_negative zero h = lit< tt
small_negative (suc d) h = subst IsInt (sym (one_down d)) (let l : 57 < 2 ^ 127 = lit< tt in omega arith)

-- what an item's first character leads to
record Begun (last : List Node) (frames : List Frame) (m c : ℕ) (mode : Mode) : Type 0 where
  pub leads : Open last frames m → Stands last frames m mode
  pub says : up_to_item (last_form last) frames ++ encode_utf8 c ≡ text_at (last_form last) frames mode

begun_so : (last : List Node) (frames : List Frame) (m c : ℕ) (mode new : Mode) → Some new ≡ Some mode → (Open last frames m → Stands last frames m new)
    → up_to_item (last_form last) frames ++ encode_utf8 c ≡ text_at (last_form last) frames new → Begun last frames m c mode
begun_so last frames m c mode new is leads says = subst (λ x. Begun last frames m c x) (same_Some new mode is) (record { leads = leads; says = says })

begun_literal : (last : List Node) (frames : List Frame) (m c : ℕ) (mode : Mode) → next_wanted frames ≡ Some want.Literal → literal_begins c ≡ Some mode → Begun last frames m c mode
begun_literal last frames m c mode wants e =
    let b = up_to_item (last_form last) frames in
    by_choice (eqb c 34) (Some (text false [])) _ mode e (λ at is. begun_so last frames m c mode (text false []) is (λ opened. ((opened, wants), IsUtf8-nil)) (ap (λ w. b ++ w) (byte c 34 at (lit< tt))))
    (λ _ e1. by_choice (eqb c 39) (Some character) _ mode e1 (λ at is. begun_so last frames m c mode character is (λ opened. (opened, wants)) (ap (λ w. b ++ w) (byte c 39 at (lit< tt))))
    (λ _ e2. by_choice (eqb c 45) (Some negative) _ mode e2 (λ at is. begun_so last frames m c mode negative is (λ opened. (opened, wants)) (ap (λ w. b ++ w) (byte c 45 at (lit< tt))))
    (λ _ e3. by_choice (is_digit c) (Some (digits false (pos (c - 48)))) None mode e3
    (λ digit is. begun_so last frames m c mode (digits false (pos (c - 48))) is (λ opened. ((opened, wants), (small (c - 48) (let l = digit_low c digit in omega arith), tt)))
    (ap (λ w. b ++ w) (first_text c digit)))
    (λ _ none. nothing_here mode none))))

begun : (last : List Node) (frames : List Frame) (m c : ℕ) (mode : Mode) (wants : Want) → IsScalar c → next_wanted frames ≡ Some wants → item_begins wants c ≡ Some mode → Begun last frames m c mode
begun last frames m c mode want.Name scalar next e =
    by_choice (begins_identifier c) (Some (bare (encode_utf8 c))) None mode e
    (λ _ is. begun_so last frames m c mode (bare (encode_utf8 c)) is (λ opened. (opened, (inl next, IsUtf8-encode c scalar))) refl) (λ _ none. nothing_here mode none)
begun last frames m c mode want.Verb scalar next e =
    by_choice (eqb c 34) (Some (text true [])) (cond (begins_identifier c) (Some (bare (encode_utf8 c))) None) mode e
    (λ at is. begun_so last frames m c mode (text true []) is (λ opened. ((opened, next), IsUtf8-nil)) (ap (λ w. up_to_item (last_form last) frames ++ w) (byte c 34 at (lit< tt))))
    (λ _ more. by_choice (begins_identifier c) (Some (bare (encode_utf8 c))) None mode more
    (λ _ is. begun_so last frames m c mode (bare (encode_utf8 c)) is (λ opened. (opened, (inr next, IsUtf8-encode c scalar))) refl) (λ _ none. nothing_here mode none))
begun last frames m c mode want.Literal scalar next e = begun_literal last frames m c mode next e
begun last frames m c mode other scalar next e = nothing_here mode e

begin_good : (last : List Node) (c : ℕ) (frames : List Frame) (nodes : List Node) (t : State) (o : Option Want) → IsScalar c → next_wanted frames ≡ o
    → begin_wanted o c (state frames nodes whole) ≡ Some t → Good last (encode_utf8 c) (state frames nodes before) t
begin_good last c frames nodes t None scalar next e = nothing_here t e
begin_good last c frames nodes t (Some wants) scalar next e =
    by_value (λ (mode : Mode). state frames nodes mode) (item_begins wants c) t e (λ mode begins is.
    let b = begun last frames (length nodes) c mode wants scalar next begins in
    subst (λ x. Good last (encode_utf8 c) (state frames nodes before) x) is (stays last (encode_utf8 c) frames nodes before mode b.leads
    (λ _. ap (λ w. w ++ encode_utf8 c) (append-nil (up_to_item (last_form last) frames)) ∙ b.says)))

pub before_good : (last : List Node) (c : ℕ) (frames : List Frame) (nodes : List Node) (t : State) → IsScalar c → step_before c (state frames nodes whole) ≡ Some t
    → Good last (encode_utf8 c) (state frames nodes before) t
before_good last c frames nodes t scalar e =
    by_test (eqb c 40) (open_wanted (next_wanted frames) (state frames nodes whole))
    (elim (eqb c 101 && may_exit frames) as (λ _. Option State) [ true ↦ Some (state frames nodes (exiting (101 ∷ []))) | false ↦ begin_wanted (next_wanted frames) c (state frames nodes whole) ]) t e
    (λ is opens. opens_good last c frames nodes t (next_wanted frames) is refl opens)
    (λ _ more. by_test (eqb c 101 && may_exit frames) (Some (state frames nodes (exiting (101 ∷ [])))) (begin_wanted (next_wanted frames) c (state frames nodes whole)) t more
    (λ exits is. leads_to last (encode_utf8 c) (state frames nodes before) (state frames nodes (exiting (101 ∷ []))) t is
    (stays last (encode_utf8 c) frames nodes before (exiting (101 ∷ [])) (λ opened. (opened, right (eqb c 101) (may_exit frames) exits))
    (λ _. grown (up_to_item (last_form last) frames) [] (encode_utf8 c) (101 ∷ []) (byte c 101 (left (eqb c 101) (may_exit frames) exits) (lit< tt)))))
    (λ _ begins. begin_good last c frames nodes t (next_wanted frames) scalar refl begins))

-- what leads somewhere from one mode leads there from another that says no less
from_mode : (last : List Node) (x : List ℕ) (frames : List Frame) (nodes : List Node) (mode other : Mode) (t : State) → (Stands last frames (length nodes) other → Stands last frames (length nodes) mode)
    → text_at (last_form last) frames other ≡ text_at (last_form last) frames mode
    → Good last x (state frames nodes mode) t → Good last x (state frames nodes other) t
from_mode last x frames nodes mode other t leads same_text good = record {
  keeps = λ i some within untouched. let k = good.keeps i some within untouched in record { same = k.same; within = k.within; untouched = k.untouched };
  stands = λ is later. good.stands (leads is) later;
  says = λ is later. ap (λ w. w ++ x) same_text ∙ good.says (leads is) later;
}

-- an opening bracket may stand where an item does
pub grouping_good : (last : List Node) (c : ℕ) (frames : List Frame) (nodes : List Node) (t : State) → IsScalar c
    → elim (eqb c 41) as (λ _. Option State) [ true ↦ close (state frames nodes whole) | false ↦ step_before c (state frames nodes whole) ] ≡ Some t
    → Good last (encode_utf8 c) (state frames nodes grouping) t
grouping_good last c frames nodes t is_scalar e =
    by_test (eqb c 41) (close (state frames nodes whole)) (step_before c (state frames nodes whole)) t e
    (λ is closes. close_good last c frames nodes grouping t is closes (λ x. x.0) (λ x.
    append-nil (up_to_item (last_form last) frames) ∙ ap (λ w. open_text (last_form last) frames ++ w) x.1 ∙ append-nil (open_text (last_form last) frames)))
    (λ _ goes. from_mode last (encode_utf8 c) frames nodes before grouping t (λ x. x.0) refl (before_good last c frames nodes t is_scalar goes))

two_is : (n : ℕ) → suc (suc n) ≡ 1 → ⊥
two_is n e = absurd (omega arith)

two_items : (n : ℕ) → eqb (suc (suc n)) 1 ≡ true → ⊥
two_items n e = absurd (two_is n (eqb-true (suc (suc n)) 1 e))

-- a definition with an ejector
record Exits (last : List Node) (number : ℕ) (shape : Head) (items : List Item) (frames : List Frame) (m : ℕ) : Type 0 where
  pub opened : Open last (framed number head.DefExit items frames) m
  pub says : up_to_item (last_form last) (framed number shape items frames) ++ codes "exit" ≡ open_text (last_form last) (framed number head.DefExit items frames)

exits_text : (form : ℕ → List ℕ) (number : ℕ) (i : Item) (frames : List Frame)
    → up_to_item form (framed number head.Def (i ∷ []) frames) ++ codes "exit" ≡ open_text form (framed number head.DefExit (i ∷ []) frames)
exits_text form number i frames =
    let b = up_to_item form frames in
    let ws = codes "def" ∷ item_text form i ∷ [] in
    ap (λ w. w ++ codes "exit") (append_assoc b (40 ∷ spaced ws) (32 ∷ []))
    ∙ append_assoc b (40 ∷ (spaced ws ++ 32 ∷ [])) (codes "exit")
    ∙ ap (λ w. b ++ 40 ∷ w) (sym (spaced_more ws (codes "exit")))

exits_at : (last : List Node) (number : ℕ) (shape : Head) (items : List Item) (frames : List Frame) (m : ℕ) → takes_exit shape (length items) ≡ true → Open last (framed number shape items frames) m
    → Exits last number shape items frames m
exits_at last number head.Def (i ∷ []) frames m exits (a_form place of_def ready (also f no_more)) = record {
  opened = a_form place of_def_exit tt (also f no_more);
  says = exits_text (last_form last) number i frames;
}
exits_at last number head.Def [] frames m exits opened = nothing_true exits
exits_at last number head.Def (i ∷ j ∷ items) frames m exits opened = absurd (two_items (length items) exits)
exits_at last number _ items frames m exits opened = nothing_true exits

with_exit_untouched : (i : ℕ) (frames : List Frame) → Untouched i frames → Untouched i (with_exit frames)
with_exit_untouched i [] h = h
with_exit_untouched i (frame ∷ frames) h = h

-- the states on both sides of `exit`
record WithExit (last : List Node) (frames : List Frame) (m : ℕ) : Type 0 where
  pub opened : Open last (with_exit frames) m
  pub says : up_to_item (last_form last) frames ++ codes "exit" ≡ open_text (last_form last) (with_exit frames)
  pub spaced_out : gap (last_form last) (with_exit frames) ≡ 32 ∷ []

with_exit_open : (last : List Node) (frames : List Frame) (m : ℕ) → may_exit frames ≡ true → Open last frames m → WithExit last frames m
with_exit_open last [] m exits opened = nothing_true exits
with_exit_open last (frame ∷ frames) m exits opened =
    let x = exits_at last frame.number frame.head frame.items frames m exits opened in record { opened = x.opened; says = x.says; spaced_out = refl }

pub exiting_good : (last : List Node) (c : ℕ) (w : List ℕ) (frames : List Frame) (nodes : List Node) (t : State) → step_exiting w c (state frames nodes whole) ≡ Some t
    → Good last (encode_utf8 c) (state frames nodes (exiting w)) t
exiting_good last c w frames nodes t e =
    by_test (eqb c 32 && bytes_eq w (codes "exit")) (Some (state (with_exit frames) nodes before))
    (elim (starts_with (λ a b. eqb a b) (codes "exit") (w ++ encode_utf8 c)) as (λ _. Option State) [ true ↦ Some (state frames nodes (exiting (w ++ encode_utf8 c))) | false ↦ None ]) t e
    (λ ends is. leads_to last (encode_utf8 c) (state frames nodes (exiting w)) (state (with_exit frames) nodes before) t is record {
      keeps = λ i some within untouched. record { same = refl; within = within; untouched = with_exit_untouched i frames untouched };
      stands = λ is later. (with_exit_open last frames (length nodes) is.1 is.0).opened;
      says = λ is later.
          let x = with_exit_open last frames (length nodes) is.1 is.0 in
          ap (λ v. (up_to_item (last_form last) frames ++ v) ++ encode_utf8 c) ((bytes_eq-Decides w (codes "exit")).0 (right (eqb c 32) (bytes_eq w (codes "exit")) ends))
          ∙ ap (λ v. v ++ encode_utf8 c) x.says ∙ ap (λ v. open_text (last_form last) (with_exit frames) ++ v) (byte c 32 (left (eqb c 32) (bytes_eq w (codes "exit")) ends) (lit< tt) ∙ sym x.spaced_out)
          ∙ sym (append-nil (up_to_item (last_form last) (with_exit frames)));
    })
    (λ _ more. by_test (starts_with (λ a b. eqb a b) (codes "exit") (w ++ encode_utf8 c)) (Some (state frames nodes (exiting (w ++ encode_utf8 c)))) None t more
    (λ _ is. leads_to last (encode_utf8 c) (state frames nodes (exiting w)) (state frames nodes (exiting (w ++ encode_utf8 c))) t is
    (stays last (encode_utf8 c) frames nodes (exiting w) (exiting (w ++ encode_utf8 c)) (λ x. x) (λ _. append_assoc (up_to_item (last_form last) frames) w (encode_utf8 c))))
    (λ _ none. nothing_here t none))
