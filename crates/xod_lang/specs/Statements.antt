-- What a statement says.
use Rattle.std.specs.Prelude.{ℕ, Bool, ◌&&◌, List, [], ◌∷◌, Option, Some, None, nat_le, if◌then◌else◌, codes}
use Rattle.xod_base.specs.declared.limits.TheConstants.{MOST_TRIES}
use Rattle.xod_base.specs.declared.query.Mode.{Mode}
use Rattle.xod_base.specs.declared.query.Mode.TheVariants.{Ordinary, ReadOnly, Exclusive}
use Rattle.xod_words.specs.Words.{Word, ◌>>=◌, is_word, no_word, one_word, two_words, three_words}
use Rattle.xod_words.specs.Names.{name_of, variable_of}
use Rattle.xod_words.specs.Numbers.{count_of}
use Rattle.xod_words.specs.Values.{ent_of, value_of}
use Rattle.xod_words.specs.Queries.{draft_of}
use Rattle.xod_words.specs.declared.draft.Ent.{Ent}
use Rattle.xod_lang.specs.declared.script.Form.{Form}
use Rattle.xod_lang.specs.declared.script.Form.TheVariants.{Begin, Flush, Revert, End, Commit, Sync, Do, Done, New, Delete, Set, Unset, Link, SetLink, Unlink, UnlinkAll, Show, Query, Count}

-- ---- shared steps and blocks

-- a form that is a keyword alone
unfoldable pub alone : Form → List Word → Option Form
alone form words = no_word words >>= λ none. Some form

unfoldable pub mode_of : Word → Option Mode
mode_of word =
    if is_word word (codes "read") then Some ReadOnly
    else if is_word word (codes "exclusive") then Some Exclusive
    else None

-- `begin`, `begin read`, `begin exclusive`
unfoldable pub begin_form : List Word → Option Form
begin_form [] = Some (Begin Ordinary)
begin_form (word ∷ more) = do
  none ← no_word more
  mode ← mode_of word
  Some (Begin mode)

abbrev pub are_tries : ℕ → Bool
are_tries count = nat_le 1 count && nat_le count MOST_TRIES

-- `do COUNT`, from 1 to 100
unfoldable pub do_form : List Word → Option Form
do_form words = do
  word ← one_word words
  count ← count_of word
  if are_tries count then Some (Do count) else None

-- ---- entities and properties

-- `new NAME as VAR`
unfoldable pub new_form : List Word → Option Form
new_form words = do
  three ← three_words words
  kind ← name_of three.0
  var ← variable_of three.2
  if is_word three.1 (codes "as") then Some (New kind var) else None

-- the entity of the one word that there is
unfoldable pub only_ent : List Word → Option Ent
only_ent words = one_word words >>= ent_of

-- `delete ENT`
unfoldable pub delete_form : List Word → Option Form
delete_form words = do
  ent ← only_ent words
  Some (Delete ent)

-- `set ENT NAME VALUE`
unfoldable pub set_form : List Word → Option Form
set_form words = do
  three ← three_words words
  ent ← ent_of three.0
  prop ← name_of three.1
  value ← value_of three.2
  Some (Set ent prop value)

-- an entity and a name, and no more
unfoldable pub ent_and_name : List Word → Option (Ent × List ℕ)
ent_and_name words = do
  two ← two_words words
  ent ← ent_of two.0
  name ← name_of two.1
  Some (ent, name)

-- `unset ENT NAME`
unfoldable pub unset_form : List Word → Option Form
unset_form words = do
  found ← ent_and_name words
  Some (Unset found.0 found.1)

-- ---- links

-- an entity, a name and an entity, and no more
unfoldable pub link_ends : List Word → Option (Ent × List ℕ × Ent)
link_ends words = do
  three ← three_words words
  source ← ent_of three.0
  link ← name_of three.1
  target ← ent_of three.2
  Some (source, link, target)

-- `link ENT NAME ENT`
unfoldable pub link_form : List Word → Option Form
link_form words = do
  ends ← link_ends words
  Some (Link ends.0 ends.1 ends.2)

-- `setlink ENT NAME ENT`
unfoldable pub setlink_form : List Word → Option Form
setlink_form words = do
  ends ← link_ends words
  Some (SetLink ends.0 ends.1 ends.2)

-- `unlink ENT NAME ENT`
unfoldable pub unlink_form : List Word → Option Form
unlink_form words = do
  ends ← link_ends words
  Some (Unlink ends.0 ends.1 ends.2)

-- `unlinkall ENT NAME`
unfoldable pub unlinkall_form : List Word → Option Form
unlinkall_form words = do
  found ← ent_and_name words
  Some (UnlinkAll found.0 found.1)

-- ---- reading

-- `show ENT`
unfoldable pub show_form : List Word → Option Form
show_form words = do
  ent ← only_ent words
  Some (Show ent)

-- `query QUERY`
unfoldable pub query_form : List Word → Option Form
query_form words = do
  draft ← draft_of words
  Some (Query draft)

-- `count QUERY`
unfoldable pub count_form : List Word → Option Form
count_form words = do
  draft ← draft_of words
  Some (Count draft)

-- ---- by the first word

-- an act, or a form that reads
unfoldable pub private_form : Word → List Word → Option Form
private_form word words =
    if is_word word (codes "new") then new_form words
    else if is_word word (codes "delete") then delete_form words
    else if is_word word (codes "set") then set_form words
    else if is_word word (codes "unset") then unset_form words
    else if is_word word (codes "link") then link_form words
    else if is_word word (codes "setlink") then setlink_form words
    else if is_word word (codes "unlink") then unlink_form words
    else if is_word word (codes "unlinkall") then unlinkall_form words
    else if is_word word (codes "show") then show_form words
    else if is_word word (codes "query") then query_form words
    else if is_word word (codes "count") then count_form words
    else None

-- What a statement says that begins with this word.
unfoldable pub form_of : Word → List Word → Option Form
form_of word words =
    if is_word word (codes "begin") then begin_form words
    else if is_word word (codes "flush") then alone Flush words
    else if is_word word (codes "revert") then alone Revert words
    else if is_word word (codes "end") then alone End words
    else if is_word word (codes "commit") then alone Commit words
    else if is_word word (codes "sync") then alone Sync words
    else if is_word word (codes "do") then do_form words
    else if is_word word (codes "done") then alone Done words
    else private_form word words
