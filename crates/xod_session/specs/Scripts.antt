-- Which scripts a session plays: those with names of the right length, whose lines rise, and each of whose statements
-- stands where it may.
use Rattle.std.specs.Prelude.{ℕ, Bool, true, false, not, ◌&&◌, List, [], ◌∷◌, nat_lt}
use Rattle.xod_base.specs.Rows.{has_name_length}
use Rattle.xod_base.specs.Queries.{is_named}
use Rattle.xod_lang.specs.declared.script.Form.{Form}
use Rattle.xod_lang.specs.declared.script.Form.TheVariants as form
use Rattle.xod_lang.specs.declared.script.Statement.{Statement}

-- ---- names

-- each name in an act has 1 to 255 bytes, and a query can be written down
abbrev pub is_named_form : Form → Bool
is_named_form (form.New kind name) = has_name_length kind
is_named_form (form.Set ent prop value) = has_name_length prop
is_named_form (form.Unset ent prop) = has_name_length prop
is_named_form (form.Link source link target) = has_name_length link
is_named_form (form.SetLink source link target) = has_name_length link
is_named_form (form.Unlink source link target) = has_name_length link
is_named_form (form.UnlinkAll source link) = has_name_length link
is_named_form (form.Query draft) = is_named draft.query
is_named_form (form.Count draft) = is_named draft.query
is_named_form other = true

abbrev pub are_named : List Statement → Bool
are_named [] = true
are_named (statement ∷ more) = is_named_form statement.form && are_named more

-- ---- lines

abbrev pub is_before : ℕ → List Statement → Bool
is_before line [] = true
is_before line (statement ∷ more) = nat_lt line statement.line && is_before line more

-- the lines of the statements rise
abbrev pub do_lines_rise : List Statement → Bool
do_lines_rise [] = true
do_lines_rise (statement ∷ more) = is_before statement.line more && do_lines_rise more

-- ---- transactions and blocks

-- Whether a statement may stand where a transaction is open or not, and a `do` block is open or not. A block has a
-- transaction of its own.
abbrev pub may_stand : Bool → Bool → Form → Bool
may_stand is_open in_block (form.Begin mode) = not is_open && not in_block
may_stand is_open in_block (form.Do tries) = not is_open && not in_block
may_stand is_open in_block form.Done = is_open && in_block
may_stand is_open in_block form.Sync = not in_block
may_stand is_open in_block form.Flush = is_open && not in_block
may_stand is_open in_block form.Revert = is_open && not in_block
may_stand is_open in_block form.End = is_open && not in_block
may_stand is_open in_block form.Commit = is_open && not in_block
may_stand is_open in_block other = is_open

-- whether a transaction is open behind a statement
abbrev pub is_open_behind : Bool → Form → Bool
is_open_behind is_open (form.Begin mode) = true
is_open_behind is_open (form.Do tries) = true
is_open_behind is_open form.Done = false
is_open_behind is_open form.End = false
is_open_behind is_open form.Commit = false
is_open_behind is_open other = is_open

-- whether a block is open behind a statement
abbrev pub in_block_behind : Bool → Form → Bool
in_block_behind in_block (form.Do tries) = true
in_block_behind in_block form.Done = false
in_block_behind in_block other = in_block

-- Each statement stands where it may, and at the end neither a transaction nor a block is open.
abbrev pub do_stand : Bool → Bool → List Statement → Bool
do_stand is_open in_block [] = not is_open && not in_block
do_stand is_open in_block (statement ∷ more) =
    may_stand is_open in_block statement.form
    && do_stand (is_open_behind is_open statement.form) (in_block_behind in_block statement.form) more
