-- What holds of each line that is read.
use Rattle.std.proofs.Common.{◌≡◌, ℕ, true, codes, List, [], ◌∷◌, refl}
use Rattle.std.specs.Str.{is_utf8}
use Rattle.std.proofs.lemmas.Bool.{and_from}
use Rattle.xod_base.specs.declared.query.Mode.TheVariants.{Ordinary}
use Rattle.xod_base.specs.Names.{is_name_word, is_session_word}
use Rattle.xod_words.specs.Words.{Word, words_of, is_word, begins_with, no_word, one_word, two_words, three_words}
use Rattle.xod_words.specs.Names.{name_of, session_name_of, variable_of}
use Rattle.xod_words.specs.Numbers.{count_of}
use Rattle.xod_words.specs.Values.{ent_of, value_of}
use Rattle.xod_words.specs.Queries.{draft_of}
use Rattle.xod_words.specs.Drafts.{is_ent}
use Rattle.xod_words.specs.declared.draft.Ent.{Ent}
use Rattle.xod_words.proofs.CallerLemmas.{Gives, none_gives, some_gives, choice_gives, when_gives, then_gives, after, Named, name_gives, SessionNamed, session_name_gives, variable_gives, Valued, value_gives, IsEnt, ent_gives, GoodDraft, draft_gives}
use Rattle.xod_lang.specs.Statements.{alone, mode_of, begin_form, are_tries, do_form, new_form, only_ent, delete_form, set_form, ent_and_name, unset_form, link_ends, link_form, setlink_form, unlink_form, unlinkall_form, show_form, query_form, count_form, private_form, form_of}
use Rattle.xod_lang.specs.Items.{turned_of, turn_of, item_of}
use Rattle.xod_lang.specs.Scripts.{session_line, order_line, item_line, statement_line, keyword_line, said_by, line_of}
use Rattle.xod_lang.specs.WellFormed.{is_form, is_item}
use Rattle.xod_lang.specs.declared.script.Form.{Form}
use Rattle.xod_lang.specs.declared.script.Form.TheVariants as form
use Rattle.xod_lang.specs.declared.script.Item.{Item}
use Rattle.xod_lang.specs.declared.line.Line.{Line}
use Rattle.xod_lang.specs.declared.line.Line.TheVariants as line

-- ---- statements

abbrev GoodForm : Form → Type 0
GoodForm form = is_form form ≡ true

alone_gives : (form : Form) → GoodForm form → (words : List Word) → Gives GoodForm (alone form words)
unfolding alone
alone_gives form good words = after GoodForm (no_word words) _ (λ none. some_gives GoodForm form good)

begin_gives : (words : List Word) → Gives GoodForm (begin_form words)
unfolding begin_form
begin_gives [] = some_gives GoodForm (form.Begin Ordinary) refl
begin_gives (word ∷ more) =
    after GoodForm (no_word more) _ (λ none.
    after GoodForm (mode_of word) _ (λ mode. some_gives GoodForm (form.Begin mode) refl))

do_gives : (words : List Word) → Gives GoodForm (do_form words)
unfolding do_form
do_gives words =
    after GoodForm (one_word words) _ (λ word.
    after GoodForm (count_of word) _ (λ count. when_gives GoodForm (are_tries count) (form.Do count) (λ h. h)))

new_gives : (words : List Word) → Gives GoodForm (new_form words)
unfolding new_form
new_gives words =
    after GoodForm (three_words words) _ (λ three.
    then_gives Named GoodForm (name_of three.0) _ (name_gives three.0) (λ kind k.
    then_gives SessionNamed GoodForm (variable_of three.2) _ (variable_gives three.2) (λ var v.
    when_gives GoodForm (is_word three.1 (codes "as")) (form.New kind var) (λ h. and_from _ _ k v))))

only_gives : (words : List Word) → Gives IsEnt (only_ent words)
unfolding only_ent
only_gives words = after IsEnt (one_word words) ent_of ent_gives

delete_gives : (words : List Word) → Gives GoodForm (delete_form words)
unfolding delete_form
delete_gives words = then_gives IsEnt GoodForm (only_ent words) _ (only_gives words) (λ ent e. some_gives GoodForm (form.Delete ent) e.is)

set_gives : (words : List Word) → Gives GoodForm (set_form words)
unfolding set_form
set_gives words =
    after GoodForm (three_words words) _ (λ three.
    then_gives IsEnt GoodForm (ent_of three.0) _ (ent_gives three.0) (λ ent e.
    then_gives Named GoodForm (name_of three.1) _ (name_gives three.1) (λ prop p.
    then_gives Valued GoodForm (value_of three.2) _ (value_gives three.2) (λ value v.
    some_gives GoodForm (form.Set ent prop value) (and_from _ _ e.is (and_from _ _ p v))))))

abbrev EntAndName : (Ent × List ℕ) → Type 0
EntAndName found = (is_ent found.0 ≡ true) × (is_name_word found.1 ≡ true)

ent_and_name_gives : (words : List Word) → Gives EntAndName (ent_and_name words)
unfolding ent_and_name
ent_and_name_gives words =
    after EntAndName (two_words words) _ (λ two.
    then_gives IsEnt EntAndName (ent_of two.0) _ (ent_gives two.0) (λ ent e.
    then_gives Named EntAndName (name_of two.1) _ (name_gives two.1) (λ name n.
    some_gives EntAndName _ (e.is, n))))

unset_gives : (words : List Word) → Gives GoodForm (unset_form words)
unfolding unset_form
unset_gives words =
    then_gives EntAndName GoodForm (ent_and_name words) _ (ent_and_name_gives words) (λ found f.
    some_gives GoodForm (form.Unset found.0 found.1) (and_from _ _ f.0 f.1))

record LinkEnds (ends : Ent × List ℕ × Ent) : Type 0 where
  source : is_ent ends.0 ≡ true
  link : is_name_word ends.1 ≡ true
  target : is_ent ends.2 ≡ true

link_ends_give : (words : List Word) → Gives LinkEnds (link_ends words)
unfolding link_ends
link_ends_give words =
    after LinkEnds (three_words words) _ (λ three.
    then_gives IsEnt LinkEnds (ent_of three.0) _ (ent_gives three.0) (λ source s.
    then_gives Named LinkEnds (name_of three.1) _ (name_gives three.1) (λ link l.
    then_gives IsEnt LinkEnds (ent_of three.2) _ (ent_gives three.2) (λ target t.
    some_gives LinkEnds _ (record { source = s.is; link = l; target = t.is })))))

link_gives : (words : List Word) → Gives GoodForm (link_form words)
unfolding link_form
link_gives words =
    then_gives LinkEnds GoodForm (link_ends words) _ (link_ends_give words) (λ ends e.
    some_gives GoodForm (form.Link ends.0 ends.1 ends.2) (and_from _ _ e.source (and_from _ _ e.link e.target)))

setlink_gives : (words : List Word) → Gives GoodForm (setlink_form words)
unfolding setlink_form
setlink_gives words =
    then_gives LinkEnds GoodForm (link_ends words) _ (link_ends_give words) (λ ends e.
    some_gives GoodForm (form.SetLink ends.0 ends.1 ends.2) (and_from _ _ e.source (and_from _ _ e.link e.target)))

unlink_gives : (words : List Word) → Gives GoodForm (unlink_form words)
unfolding unlink_form
unlink_gives words =
    then_gives LinkEnds GoodForm (link_ends words) _ (link_ends_give words) (λ ends e.
    some_gives GoodForm (form.Unlink ends.0 ends.1 ends.2) (and_from _ _ e.source (and_from _ _ e.link e.target)))

unlinkall_gives : (words : List Word) → Gives GoodForm (unlinkall_form words)
unfolding unlinkall_form
unlinkall_gives words =
    then_gives EntAndName GoodForm (ent_and_name words) _ (ent_and_name_gives words) (λ found f.
    some_gives GoodForm (form.UnlinkAll found.0 found.1) (and_from _ _ f.0 f.1))

show_gives : (words : List Word) → Gives GoodForm (show_form words)
unfolding show_form
show_gives words = then_gives IsEnt GoodForm (only_ent words) _ (only_gives words) (λ ent e. some_gives GoodForm (form.Show ent) e.is)

query_gives : (words : List Word) → Gives GoodForm (query_form words)
unfolding query_form
query_gives words = then_gives GoodDraft GoodForm (draft_of words) _ (draft_gives words) (λ draft d. some_gives GoodForm (form.Query draft) d)

count_gives : (words : List Word) → Gives GoodForm (count_form words)
unfolding count_form
count_gives words = then_gives GoodDraft GoodForm (draft_of words) _ (draft_gives words) (λ draft d. some_gives GoodForm (form.Count draft) d)

private_gives : (word : Word) (words : List Word) → Gives GoodForm (private_form word words)
unfolding private_form
private_gives word words =
    choice_gives GoodForm (is_word word (codes "new")) _ _ (new_gives words)
    (choice_gives GoodForm (is_word word (codes "delete")) _ _ (delete_gives words)
    (choice_gives GoodForm (is_word word (codes "set")) _ _ (set_gives words)
    (choice_gives GoodForm (is_word word (codes "unset")) _ _ (unset_gives words)
    (choice_gives GoodForm (is_word word (codes "link")) _ _ (link_gives words)
    (choice_gives GoodForm (is_word word (codes "setlink")) _ _ (setlink_gives words)
    (choice_gives GoodForm (is_word word (codes "unlink")) _ _ (unlink_gives words)
    (choice_gives GoodForm (is_word word (codes "unlinkall")) _ _ (unlinkall_gives words)
    (choice_gives GoodForm (is_word word (codes "show")) _ _ (show_gives words)
    (choice_gives GoodForm (is_word word (codes "query")) _ _ (query_gives words)
    (choice_gives GoodForm (is_word word (codes "count")) _ _ (count_gives words) (none_gives GoodForm)))))))))))

form_gives : (word : Word) (words : List Word) → Gives GoodForm (form_of word words)
unfolding form_of
form_gives word words =
    choice_gives GoodForm (is_word word (codes "begin")) _ _ (begin_gives words)
    (choice_gives GoodForm (is_word word (codes "flush")) _ _ (alone_gives form.Flush refl words)
    (choice_gives GoodForm (is_word word (codes "revert")) _ _ (alone_gives form.Revert refl words)
    (choice_gives GoodForm (is_word word (codes "end")) _ _ (alone_gives form.End refl words)
    (choice_gives GoodForm (is_word word (codes "commit")) _ _ (alone_gives form.Commit refl words)
    (choice_gives GoodForm (is_word word (codes "sync")) _ _ (alone_gives form.Sync refl words)
    (choice_gives GoodForm (is_word word (codes "do")) _ _ (do_gives words)
    (choice_gives GoodForm (is_word word (codes "done")) _ _ (alone_gives form.Done refl words) (private_gives word words))))))))

-- ---- items

abbrev GoodItem : Item → Type 0
GoodItem item = is_item item ≡ true

turn_gives : (words : List Word) → Gives GoodItem (turn_of words)
unfolding turn_of
turn_gives [] = none_gives GoodItem
turn_gives (word ∷ words) =
    then_gives SessionNamed GoodItem (session_name_of word) _ (session_name_gives word) (λ session s.
    after GoodItem (turned_of words) _ (λ step. some_gives GoodItem _ s))

item_gives : (word : Word) (words : List Word) → Gives GoodItem (item_of word words)
unfolding item_of
item_gives word words = choice_gives GoodItem (is_word word (codes "turn")) _ _ (turn_gives words) (none_gives GoodItem)

-- ---- lines

abbrev pub GoodLine : Line → Type 0
GoodLine line.Nothing = Unit {0}
GoodLine (line.Session name) = is_session_word name ≡ true
GoodLine line.Order = Unit {0}
GoodLine (line.Statement form) = is_form form ≡ true
GoodLine (line.Item item) = is_item item ≡ true

session_gives : (words : List Word) → Gives GoodLine (session_line words)
unfolding session_line
session_gives words =
    after GoodLine (one_word words) _ (λ word.
    then_gives SessionNamed GoodLine (session_name_of word) _ (session_name_gives word) (λ name n. some_gives GoodLine (line.Session name) n))

order_gives : (words : List Word) → Gives GoodLine (order_line words)
unfolding order_line
order_gives words = after GoodLine (no_word words) _ (λ none. some_gives GoodLine line.Order tt)

item_line_gives : (word : Word) (words : List Word) → Gives GoodLine (item_line word words)
unfolding item_line
item_line_gives word words = then_gives GoodItem GoodLine (item_of word words) _ (item_gives word words) (λ item i. some_gives GoodLine (line.Item item) i)

statement_gives : (word : Word) (words : List Word) → Gives GoodLine (statement_line word words)
unfolding statement_line
statement_gives word words = then_gives GoodForm GoodLine (form_of word words) _ (form_gives word words) (λ form f. some_gives GoodLine (line.Statement form) f)

keyword_gives : (word : Word) (words : List Word) → Gives GoodLine (keyword_line word words)
unfolding keyword_line
keyword_gives word words =
    choice_gives GoodLine (is_word word (codes "session")) _ _ (session_gives words)
    (choice_gives GoodLine (is_word word (codes "order")) _ _ (order_gives words)
    (choice_gives GoodLine (is_word word (codes "turn")) _ _ (item_line_gives word words) (statement_gives word words)))

said_gives : (words : List Word) → Gives GoodLine (said_by words)
unfolding said_by
said_gives [] = some_gives GoodLine line.Nothing tt
said_gives (word ∷ words) = choice_gives GoodLine (begins_with 35 word) _ _ (some_gives GoodLine line.Nothing tt) (keyword_gives word words)

pub line_gives : (bytes : List ℕ) → Gives GoodLine (line_of bytes)
unfolding line_of
line_gives bytes = choice_gives GoodLine (is_utf8 bytes) _ _ (said_gives (words_of bytes)) (none_gives GoodLine)
