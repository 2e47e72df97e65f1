-- A script and a place in it, as a session keeps them.
use Rattle.std.specs.Prelude.{◌≡◌, ◌≤◌, ℕ, ◌-◌, Bool, true, false, not, ◌&&◌, List, [], ◌∷◌, drop, length, Option, Some, None, is_some, option_map, nat_le, nat_lt, if◌then◌else◌, refl}
use Rattle.std.specs.Coded.{Coded, code_by, coded×, coded_ℕ, coded_bool, coded_list, coded_option}
use Rattle.xod_base.specs.declared.answer.FlushAnswer.TheVariants as flush
use Rattle.xod_base.specs.declared.answer.Reply.{Reply}
use Rattle.xod_base.specs.declared.answer.Reply.TheVariants as reply
use Rattle.xod_lang.specs.declared.script.Form.{Form}
use Rattle.xod_lang.specs.declared.script.Form.TheVariants as form
use Rattle.xod_lang.specs.declared.script.Statement.{Statement}
use Rattle.xod_lang.specs.contracts.script.Statement as statement_contracts
use Rattle.xod_session.specs.declared.course.Due.{Due}
use Rattle.xod_session.specs.declared.course.Due.TheVariants.{Fresh, Ending, Reverting}
use Rattle.xod_session.specs.contracts.course.Due as due_contracts
use Rattle.xod_session.specs.declared.course.SharedStep.{SharedStep}
use Rattle.xod_session.specs.declared.course.SharedStep.TheVariants as shared
use Rattle.xod_session.specs.declared.course.Tried.{Tried}
use Rattle.xod_session.specs.declared.course.Spot.{Spot}
use Rattle.xod_session.specs.Scripts.{are_named, do_lines_rise, do_stand}
use Rattle.xod_session.specs.Sessions.{can_stop, private_before, private_count}
use Rattle.xod_session.specs.States.{Block, Place, opened}
use Rattle.xod_session.specs.Turns.{asks_then, placed_then}

-- The script, the statements behind its last shared step, the place, and whether a transaction is open there.
pub record CourseView : Type 0 where
  pub script : List Statement
  pub since : List Statement
  pub place : Place
  pub is_open : Bool

-- ---- how it is told apart

abbrev pub block_code : Coded Block
block_code = code_by (ℕ × List Statement) (coded× coded_ℕ (coded_list ((statement_contracts.the_row).coded))) (λ b. (b.left, b.body)) (λ p. record { left = p.0; body = p.1 }) (λ _. refl)

abbrev pub place_code : Coded Place
place_code =
    code_by (List Statement × (Due × (Option Block × (Option ℕ × Bool))))
    (coded× (coded_list ((statement_contracts.the_row).coded)) (coded× ((due_contracts.the_row).coded) (coded× (coded_option block_code) (coded× (coded_option coded_ℕ) coded_bool))))
    (λ p. (p.rest, (p.due, (p.block, (p.just, p.stopped)))))
    (λ p. record { rest = p.0; due = p.1.0; block = p.1.1.0; just = p.1.1.1.0; stopped = p.1.1.1.1 })
    (λ _. refl)

abbrev pub course_code : Coded CourseView
course_code =
    code_by (List Statement × (List Statement × (Place × Bool)))
    (coded× (coded_list ((statement_contracts.the_row).coded)) (coded× (coded_list ((statement_contracts.the_row).coded)) (coded× place_code coded_bool)))
    (λ c. (c.script, (c.since, (c.place, c.is_open))))
    (λ p. record { script = p.0; since = p.1.0; place = p.1.1.0; is_open = p.1.1.1 })
    (λ _. refl)

-- ---- blocks by the place behind their `do`

abbrev pub block_of : List Statement → Tried → Block
block_of script block = record { left = block.left; body = drop block.body script }

abbrev pub is_within : List Statement → Option Tried → Bool
is_within script None = true
is_within script (Some block) = nat_le block.body (length script)

-- the place of a spot in a script
abbrev pub spot_place : List Statement → Bool → Spot → Place
spot_place script stopped spot =
    record { rest = drop spot.at script; due = spot.due; block = option_map (block_of script) spot.block; just = spot.just; stopped = stopped }

-- a spot lies in its script
pub record IsWithin (script : List Statement) (spot : Spot) : Type 0 where
  pub at : spot.at ≤ length script
  pub block : is_within script spot.block ≡ true

-- what is due behind the flush of a block, by the number of tries that are left
abbrev pub due_by_left : Option ℕ → Reply → Due
due_by_left (Some left) (reply.Flushed (flush.Conflict base now)) = if nat_lt 0 left then Reverting else Ending
due_by_left left answer = Ending

-- ---- what stands

-- a statement of which something is due is one that asks for more than one step
abbrev pub asks_more : Bool → Form → Bool
asks_more in_block form.Commit = not in_block
asks_more in_block form.Done = in_block
asks_more in_block other = false

abbrev pub is_due : Bool → Due → List Statement → Bool
is_due in_block Fresh rest = true
is_due in_block Ending [] = false
is_due in_block Ending (statement ∷ more) = asks_more in_block statement.form
is_due in_block Reverting [] = false
is_due in_block Reverting (statement ∷ more) = in_block && asks_more in_block statement.form

abbrev pub does_body_stand : Option Block → Bool
does_body_stand None = true
does_body_stand (Some block) = do_stand true true block.body && do_lines_rise block.body

-- Each statement to come stands where it may, and so does each of the block that it is in; the lines rise.
pub record Stands (view : CourseView) : Type 0 where
  pub rising : do_lines_rise view.since ≡ true
  pub rest : do_stand view.is_open (is_some view.place.block) view.place.rest ≡ true
  pub due : is_due (is_some view.place.block) view.place.due view.place.rest ≡ true
  pub body : does_body_stand view.place.block ≡ true

-- how many private statements were answered since the last shared step
abbrev pub answered_count : CourseView → ℕ
answered_count view = length view.since - length view.place.rest

-- What always holds of a course.
pub record IsCourse (view : CourseView) : Type 0 where
  pub named : are_named view.script ≡ true
  pub rest : view.place.rest ≡ drop (answered_count view) view.since
  pub private : answered_count view ≤ private_count view.since
  pub closed : view.is_open ≡ false → answered_count view ≡ 0
  pub over : view.place.stopped ≡ true → view.is_open ≡ false
  pub stands : view.place.stopped ≡ false → Stands view

-- ---- what it becomes

abbrev pub course_of : List Statement → CourseView
course_of script = record { script = script; since = script; place = (opened script).place; is_open = false }

-- further by some statements
abbrev pub skipped : CourseView → ℕ → CourseView
skipped view count = record view { place = record view.place { rest = drop count view.place.rest } }

abbrev pub is_open_by : Option SharedStep → Bool → Bool
is_open_by (Some (shared.Begin mode)) is_open = true
is_open_by (Some shared.End) is_open = false
is_open_by other is_open = is_open

abbrev pub at_place : CourseView → Place → Bool → CourseView
at_place view place is_open = record view { since = place.rest; place = place; is_open = is_open }

-- the place behind the step of its next statement
abbrev pub place_behind : Place → List Statement → Reply → Place
place_behind place [] answer = place
place_behind place (statement ∷ more) answer = placed_then place place.due statement more answer

-- behind the next shared step
abbrev pub course_placed : CourseView → List Statement → Reply → CourseView
course_placed view [] answer = view
course_placed view (statement ∷ more) answer =
    at_place view (placed_then view.place view.place.due statement more answer) (is_open_by (asks_then view.place.due statement.form) view.is_open)

-- where the session has stopped
abbrev pub course_halted : CourseView → CourseView
course_halted view = at_place view (record view.place { stopped = true; just = None }) false

-- ---- what it answers

-- the next statement's line and its shared step
abbrev pub front_asked : Due → List Statement → Option (ℕ × SharedStep)
front_asked due [] = None
front_asked due (statement ∷ more) = option_map (λ asked. (statement.line, asked)) (asks_then due statement.form)

-- no private statement is left before the next shared step
abbrev pub IsReady : CourseView → Type 0
IsReady view = private_count view.place.rest ≡ 0

-- the place behind the last shared step
abbrev pub since_place : CourseView → Place
since_place view = record view.place { rest = view.since }

-- The session can stop at a line, and the private statements before it were answered since the last shared step, and
-- no others.
pub record StopsAt (view : CourseView) (line : ℕ) : Type 0 where
  pub can : can_stop (since_place view) line ≡ true
  pub answered : private_before line view.since ≡ answered_count view

-- a begin comes where no transaction is open; each other step but a sync where one is
abbrev pub FitsOpen : SharedStep → Bool → Type 0
FitsOpen (shared.Begin mode) is_open = is_open ≡ false
FitsOpen shared.Flush is_open = is_open ≡ true
FitsOpen shared.Revert is_open = is_open ≡ true
FitsOpen shared.End is_open = is_open ≡ true
FitsOpen shared.Sync is_open = Unit {0}
