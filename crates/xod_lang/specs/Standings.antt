-- Where a session stands between two statements, and which statements are allowed there.
use Rattle.std.specs.Prelude.{Bool, true, false, not, Option, Some, None, if◌then◌else◌}
use Rattle.xod_lang.specs.declared.script.Form.{Form}
use Rattle.xod_lang.specs.declared.script.Form.TheVariants as form
use Rattle.xod_lang.specs.declared.standing.Standing.{Standing}
use Rattle.xod_lang.specs.declared.standing.Standing.TheVariants.{Outside, InTransaction, InBlock}

abbrev pub is_outside : Standing → Bool
is_outside Outside = true
is_outside InTransaction = false
is_outside InBlock = false

-- between a `begin` and an `end` or `commit`
abbrev pub is_open : Standing → Bool
is_open Outside = false
is_open InTransaction = true
is_open InBlock = false

-- between a `do` and a `done`
abbrev pub is_in_block : Standing → Bool
is_in_block Outside = false
is_in_block InTransaction = false
is_in_block InBlock = true

abbrev pub goes_to : Standing → Bool → Option Standing
goes_to next allowed = if allowed then Some next else None

-- Where a session stands after a statement; none where the statement is not allowed.
unfoldable pub stands_after : Standing → Form → Option Standing
stands_after standing (form.Begin mode) = goes_to InTransaction (is_outside standing)
stands_after standing (form.Do tries) = goes_to InBlock (is_outside standing)
stands_after standing form.Done = goes_to Outside (is_in_block standing)
stands_after standing form.Flush = goes_to InTransaction (is_open standing)
stands_after standing form.Revert = goes_to InTransaction (is_open standing)
stands_after standing form.End = goes_to Outside (is_open standing)
stands_after standing form.Commit = goes_to Outside (is_open standing)
stands_after standing form.Sync = goes_to standing (not (is_in_block standing))
stands_after standing private = goes_to standing (not (is_outside standing))
