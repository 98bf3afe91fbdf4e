-- What the names and numbers that the code keeps stand for.
use Rattle.std.specs.Prelude.{[], ◌≡◌, ◌-◌, ℕ, List, ◌++◌, length, map, option_map, ◌≤◌, true, ◌∷◌}
use Rattle.ev_base.specs.declared.names.Msg.{Msg}
use Rattle.ev_base.specs.declared.names.Name.{Name as ShownName}
use Rattle.def_run.specs.Names as local
use Rattle.def_machine.specs.State.{Vat, is_in}
use Rattle.def_machine.specs.Values.{Name, Gift, Sent, Local, word_of}
use Rattle.def_run.specs.Shown.{shown_name}
use Rattle.ev_intro.specs.Word.{Drawn}
use Rattle.ev_pass.specs.Acts.{words_by}
use Rattle.ev_resident.specs.Names.{Entry, Named, told_at}

-- the words that were drawn, in order
abbrev pub words_of : Drawn → List ℕ
words_of d = words_by d.key d.count

-- a name as a line prints it that is written when these words were drawn
abbrev pub printed : Drawn → Name → ShownName
printed d n = shown_name (words_of d) n

-- messages as names
abbrev pub mail_of : Msg → Name
mail_of m = Sent (record { sender = m.sender; number = m.number })

abbrev pub mails_of : List Msg → List Name
mails_of ms = map mail_of ms

-- of each number the same was told, as it is printed
abbrev pub Says : Drawn → List Entry → List local.Told → Type 0
Says d es ts = (k : ℕ) → told_at k es ≡ option_map (printed d) (local.told_at k ts)

-- The names that come to be known in a step which found the vat with these counts and left it so, where its messages are those, and those
-- numbers were told before.
abbrev pub new_names : Named → List Name → List local.Told → Vat Local → List Name
new_names t ms brought s =
    local.named_from t.naming.vat (brought ++ local.told_in_step t.naming.vat t.gifts ms s) (length t.naming.names) t.promises
    (length s.known - length t.naming.names)

-- ---- a vat's names

-- the table has these names as they are printed when these words were drawn, and these messages
pub record Stands (d : Drawn) (t : local.Names) (n : Named) : Type 0 where
  pub known : n.naming.names ≡ map (printed d) t.known
  pub mails : mails_of n.naming.mails ≡ t.mails

-- the counts are those of that vat
pub record Counts (s : Vat Local) (n : Named) : Type 0 where
  pub promises : n.promises ≡ s.promises
  pub messages : n.messages ≡ s.messages
  pub gifts : n.gifts ≡ length s.gifts

-- ---- later

-- where the name is a gift, its word is among these
abbrev pub WordIsIn : List ℕ → Name → Type 0
WordIsIn ws (Gift h i) = is_in (word_of i) ws ≡ true
WordIsIn ws _ = Unit {0}

abbrev pub WordsAreIn : List ℕ → List Name → Type 0
WordsAreIn ws [] = Unit {0}
WordsAreIn ws (n ∷ ns) = WordIsIn ws n × WordsAreIn ws ns

-- A table has the same names when more words were drawn, where the word of each gift among them was drawn.
abbrev pub PrintedNamesStay : Type 0
PrintedNamesStay =
    (before after : Drawn) (t : local.Names) (n : Named) → before.key ≡ after.key → before.count ≤ after.count → WordsAreIn (words_of before) t.known
    → Stands before t n → Stands after t n
