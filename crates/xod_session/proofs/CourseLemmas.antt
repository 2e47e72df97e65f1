-- What a course keeps when it goes on.
use Rattle.std.proofs.Common.{◌≡◌, ◌≤◌, ℕ, zero, suc, ◌+◌, ◌-◌, Bool, true, false, cond, List, [], ◌∷◌, drop, length, Option, Some, None, refl, sym, ap, subst, ◌∙◌, arith, eq-eqb, ltb-true}
use Rattle.std.specs.Prelude.{◌&&◌, ◌||◌, ◌==◌, not, is_some, nat_lt}
use Rattle.std.specs.List.{slice_get}
use Rattle.std.proofs.lemmas.Option.{none-some, same_Some}
use Rattle.std.proofs.lemmas.Bool.{false≢true}
use Rattle.std.proofs.lemmas.List.{drop-drop, length-drop}
use Rattle.xod_base.specs.declared.answer.FlushAnswer.TheVariants as flush
use Rattle.xod_base.specs.declared.answer.Reply.{Reply}
use Rattle.xod_base.specs.declared.answer.Reply.TheVariants as reply
use Rattle.xod_base.specs.declared.query.Mode.TheVariants.{Ordinary}
use Rattle.xod_lang.specs.declared.script.Form.{Form}
use Rattle.xod_lang.specs.declared.script.Form.TheVariants as form
use Rattle.xod_lang.specs.declared.script.Statement.{Statement}
use Rattle.xod_session.specs.declared.course.Due.{Due}
use Rattle.xod_session.specs.declared.course.Due.TheVariants.{Fresh, Ending, Reverting}
use Rattle.xod_session.specs.declared.course.Spot.{Spot}
use Rattle.xod_session.specs.declared.course.SharedStep.{SharedStep}
use Rattle.xod_session.specs.declared.course.SharedStep.TheVariants as shared
use Rattle.xod_session.specs.Courses.{CourseView, FitsOpen, IsCourse, IsReady, StopsAt, answered_count, asks_more, at_place, course_halted, course_placed, does_body_stand, front_asked, is_due, is_open_by, place_behind, skipped, spot_place}
use Rattle.xod_session.specs.Scripts.{do_lines_rise, do_stand, is_before, may_stand}
use Rattle.xod_session.specs.Sessions.{is_front, is_line, private_before, private_count}
use Rattle.xod_session.specs.States.{Block, Place}
use Rattle.xod_session.specs.Turns.{asks, asks_then, back_to, due_after, is_private, just_of, placed_fresh, placed_then, tried}
use Rattle.xod_session.proofs.OptionLemmas.{and_true, both_true, map_some}
use Rattle.xod_session.proofs.AgreeLemmas.{placed-stopped}

-- ---- lists of statements

pub private_count-within : (rest : List Statement) → private_count rest ≤ length rest
private_count-within [] = omega arith
private_count-within (statement ∷ more) =
    elim (is_private statement.form) as (λ b. cond b (suc (private_count more)) 0 ≤ suc (length more)) [ true ↦ omega (arith, private_count-within more) | false ↦ omega arith ]

pub private_count-drop : (count : ℕ) (rest : List Statement) → count ≤ private_count rest → private_count rest ≡ count + private_count (drop count rest)
private_count-drop zero rest within = omega arith
private_count-drop (suc count) [] within = absurd (omega arith)
private_count-drop (suc count) (statement ∷ more) within =
    elim (is_private statement.form) as (λ b. suc count ≤ cond b (suc (private_count more)) 0 → cond b (suc (private_count more)) 0 ≡ suc count + private_count (drop count more)) [
      | true ↦ λ within. omega (arith, private_count-drop count more (omega arith))
      | false ↦ λ within. absurd (omega arith)
    ] within

pub rising-drop : (count : ℕ) (rest : List Statement) → do_lines_rise rest ≡ true → do_lines_rise (drop count rest) ≡ true
rising-drop zero rest rising = rising
rising-drop (suc count) [] rising = rising
rising-drop (suc count) (statement ∷ more) rising = rising-drop count more (both_true (is_before statement.line more) (do_lines_rise more) rising).1

-- ---- a private statement changes nothing of what is open

stand-private : (is_open in_block : Bool) (line : ℕ) (f : Form) (more : List Statement) → is_private f ≡ true → do_stand is_open in_block (record { line = line; form = f } ∷ more) ≡ true → do_stand is_open in_block more ≡ true
stand-private is_open in_block line (form.Begin mode) more private stands = absurd (false≢true private)
stand-private is_open in_block line form.Flush more private stands = absurd (false≢true private)
stand-private is_open in_block line form.Revert more private stands = absurd (false≢true private)
stand-private is_open in_block line form.End more private stands = absurd (false≢true private)
stand-private is_open in_block line form.Commit more private stands = absurd (false≢true private)
stand-private is_open in_block line form.Sync more private stands = absurd (false≢true private)
stand-private is_open in_block line (form.Do tries) more private stands = absurd (false≢true private)
stand-private is_open in_block line form.Done more private stands = absurd (false≢true private)
stand-private is_open in_block line (form.New kind var) more private stands = (both_true is_open (do_stand is_open in_block more) stands).1
stand-private is_open in_block line (form.Delete ent) more private stands = (both_true is_open (do_stand is_open in_block more) stands).1
stand-private is_open in_block line (form.Set ent prop value) more private stands = (both_true is_open (do_stand is_open in_block more) stands).1
stand-private is_open in_block line (form.Unset ent prop) more private stands = (both_true is_open (do_stand is_open in_block more) stands).1
stand-private is_open in_block line (form.Link source link target) more private stands = (both_true is_open (do_stand is_open in_block more) stands).1
stand-private is_open in_block line (form.SetLink source link target) more private stands = (both_true is_open (do_stand is_open in_block more) stands).1
stand-private is_open in_block line (form.Unlink source link target) more private stands = (both_true is_open (do_stand is_open in_block more) stands).1
stand-private is_open in_block line (form.UnlinkAll source link) more private stands = (both_true is_open (do_stand is_open in_block more) stands).1
stand-private is_open in_block line (form.Show ent) more private stands = (both_true is_open (do_stand is_open in_block more) stands).1
stand-private is_open in_block line (form.Query draft) more private stands = (both_true is_open (do_stand is_open in_block more) stands).1
stand-private is_open in_block line (form.Count draft) more private stands = (both_true is_open (do_stand is_open in_block more) stands).1

pub stand-open : (is_open in_block : Bool) (f : Form) → is_private f ≡ true → may_stand is_open in_block f ≡ is_open
stand-open is_open in_block (form.Begin mode) private = absurd (false≢true private)
stand-open is_open in_block form.Flush private = absurd (false≢true private)
stand-open is_open in_block form.Revert private = absurd (false≢true private)
stand-open is_open in_block form.End private = absurd (false≢true private)
stand-open is_open in_block form.Commit private = absurd (false≢true private)
stand-open is_open in_block form.Sync private = absurd (false≢true private)
stand-open is_open in_block (form.Do tries) private = absurd (false≢true private)
stand-open is_open in_block form.Done private = absurd (false≢true private)
stand-open is_open in_block (form.New kind var) private = refl
stand-open is_open in_block (form.Delete ent) private = refl
stand-open is_open in_block (form.Set ent prop value) private = refl
stand-open is_open in_block (form.Unset ent prop) private = refl
stand-open is_open in_block (form.Link source link target) private = refl
stand-open is_open in_block (form.SetLink source link target) private = refl
stand-open is_open in_block (form.Unlink source link target) private = refl
stand-open is_open in_block (form.UnlinkAll source link) private = refl
stand-open is_open in_block (form.Show ent) private = refl
stand-open is_open in_block (form.Query draft) private = refl
stand-open is_open in_block (form.Count draft) private = refl

more-shared : (in_block : Bool) (f : Form) → asks_more in_block f ≡ true → is_private f ≡ false
more-shared in_block (form.Begin mode) more = absurd (false≢true more)
more-shared in_block form.Flush more = absurd (false≢true more)
more-shared in_block form.Revert more = absurd (false≢true more)
more-shared in_block form.End more = absurd (false≢true more)
more-shared in_block form.Commit more = refl
more-shared in_block form.Sync more = absurd (false≢true more)
more-shared in_block (form.Do tries) more = absurd (false≢true more)
more-shared in_block form.Done more = refl
more-shared in_block (form.New kind var) more = absurd (false≢true more)
more-shared in_block (form.Delete ent) more = absurd (false≢true more)
more-shared in_block (form.Set ent prop value) more = absurd (false≢true more)
more-shared in_block (form.Unset ent prop) more = absurd (false≢true more)
more-shared in_block (form.Link source link target) more = absurd (false≢true more)
more-shared in_block (form.SetLink source link target) more = absurd (false≢true more)
more-shared in_block (form.Unlink source link target) more = absurd (false≢true more)
more-shared in_block (form.UnlinkAll source link) more = absurd (false≢true more)
more-shared in_block (form.Show ent) more = absurd (false≢true more)
more-shared in_block (form.Query draft) more = absurd (false≢true more)
more-shared in_block (form.Count draft) more = absurd (false≢true more)

stand-drop : (is_open in_block : Bool) (count : ℕ) (rest : List Statement) → count ≤ private_count rest → do_stand is_open in_block rest ≡ true → do_stand is_open in_block (drop count rest) ≡ true
stand-drop is_open in_block zero rest within stands = stands
stand-drop is_open in_block (suc count) [] within stands = absurd (omega arith)
stand-drop is_open in_block (suc count) (statement ∷ more) within stands =
    elim (is_private statement.form) as (λ b. is_private statement.form ≡ b → suc count ≤ cond b (suc (private_count more)) 0 → do_stand is_open in_block (drop count more) ≡ true) [
      | true ↦ λ private within. stand-drop is_open in_block count more (omega arith) (stand-private is_open in_block statement.line statement.form more private stands)
      | false ↦ λ shared within. absurd (omega arith)
    ] refl within

due-drop : (in_block : Bool) (due : Due) (count : ℕ) (rest : List Statement) → count ≤ private_count rest → is_due in_block due rest ≡ true → is_due in_block due (drop count rest) ≡ true
due-drop in_block Fresh count rest within is = refl
due-drop in_block due zero rest within is = is
due-drop in_block Ending (suc count) [] within is = absurd (omega arith)
due-drop in_block Ending (suc count) (statement ∷ more) within is =
    let none : suc count ≤ 0 = subst (λ b. suc count ≤ cond b (suc (private_count more)) 0) (more-shared in_block statement.form is) within in absurd (omega arith)
due-drop in_block Reverting (suc count) [] within is = absurd (omega arith)
due-drop in_block Reverting (suc count) (statement ∷ more) within is =
    let none : suc count ≤ 0 = subst (λ b. suc count ≤ cond b (suc (private_count more)) 0) (more-shared in_block statement.form (both_true in_block (asks_more in_block statement.form) is).1) within in absurd (omega arith)

-- ---- further by private statements

pub none_answered : (rest : List Statement) → length rest - length rest ≡ 0
none_answered rest = omega arith

closed_list : (is_open in_block : Bool) (rest : List Statement) → do_stand is_open in_block rest ≡ true → is_open ≡ false → private_count rest ≡ 0
closed_list is_open in_block [] stands closed = refl
closed_list is_open in_block (statement ∷ more) stands closed =
    elim (is_private statement.form) as (λ b. is_private statement.form ≡ b → cond b (suc (private_count more)) 0 ≡ 0) [
      | true ↦ λ private. absurd (false≢true (sym closed ∙ sym (stand-open is_open in_block statement.form private) ∙ (both_true (may_stand is_open in_block statement.form) _ stands).0))
      | false ↦ λ shared. refl
    ] refl

module _ (view : CourseView) (course : IsCourse view) where
  -- what is left is shorter
  left : length view.place.rest ≤ length view.since
  left = omega (arith, ap length course.rest, length-drop (answered_count view) view.since)

  pub answered-skipped : (count : ℕ) → count ≤ private_count view.place.rest → answered_count (skipped view count) ≡ answered_count view + count
  answered-skipped count within = omega (arith, left, length-drop count view.place.rest, private_count-within view.place.rest)

  -- the private statements that were answered, and those still to come
  pub private-split : private_count view.since ≡ answered_count view + private_count view.place.rest
  private-split = private_count-drop (answered_count view) view.since course.private ∙ ap (λ l. answered_count view + private_count l) (sym course.rest)

  pub skipped-course : view.place.stopped ≡ false → (count : ℕ) → count ≤ private_count view.place.rest → IsCourse (skipped view count)
  skipped-course going count within = record {
    named = course.named;
    rest = ap (drop count) course.rest ∙ drop-drop count (answered_count view) view.since ∙ ap (λ n. drop n view.since) (sym (answered-skipped count within));
    private = omega (arith, answered-skipped count within, private-split);
    closed = λ closed. omega (arith, answered-skipped count within, course.closed closed, closed_list view.is_open (is_some view.place.block) view.place.rest (course.stands going).rest closed);
    over = course.over;
    stands = λ g. let s = course.stands going in record {
      rising = s.rising;
      rest = stand-drop view.is_open (is_some view.place.block) count view.place.rest within s.rest;
      due = due-drop (is_some view.place.block) view.place.due count view.place.rest within s.due;
      body = s.body;
    };
  }

  pub halted-course : IsCourse (course_halted view)
  halted-course = record {
    named = course.named;
    rest = ap (λ n. drop n view.place.rest) (sym (none_answered view.place.rest));
    private = omega (arith, none_answered view.place.rest);
    closed = λ closed. none_answered view.place.rest;
    over = λ stopped. refl;
    stands = λ going. absurd (false≢true (sym going));
  }

  pub rest-rising : view.place.stopped ≡ false → do_lines_rise view.place.rest ≡ true
  rest-rising going = subst (λ l. do_lines_rise l ≡ true) (sym course.rest) (rising-drop (answered_count view) view.since (course.stands going).rising)

-- ---- behind a shared step

pub not_true : (b : Bool) → not b ≡ true → b ≡ false
not_true true e = absurd (false≢true e)
not_true false e = refl

due_after-cases : (P : Due → Type 0) (block : Option Block) (answer : Reply) → P Ending → (is_some block ≡ true → P Reverting) → P (due_after block answer)
due_after-cases P None answer ending back = ending
due_after-cases P (Some block) (reply.At commit) ending back = ending
due_after-cases P (Some block) reply.Ended ending back = ending
due_after-cases P (Some block) reply.Synced ending back = ending
due_after-cases P (Some block) (reply.Acted a) ending back = ending
due_after-cases P (Some block) (reply.Shown a) ending back = ending
due_after-cases P (Some block) (reply.Ids a) ending back = ending
due_after-cases P (Some block) (reply.Count a) ending back = ending
due_after-cases P (Some block) (reply.Refused a) ending back = ending
due_after-cases P (Some block) (reply.Unset a) ending back = ending
due_after-cases P (Some block) (reply.Stop a) ending back = ending
due_after-cases P (Some block) (reply.Flushed flush.Nothing) ending back = ending
due_after-cases P (Some block) (reply.Flushed (flush.Committed version fault)) ending back = ending
due_after-cases P (Some block) (reply.Flushed (flush.Conflict base now)) ending back = elim (nat_lt 0 block.left) as (λ b. P (cond b Reverting Ending)) [ true ↦ back refl | false ↦ ending ]

-- the statements to come stand at a place, and their lines rise
record Fits (is_open : Bool) (place : Place) : Type 0 where
  rising : do_lines_rise place.rest ≡ true
  rest : do_stand is_open (is_some place.block) place.rest ≡ true
  due : is_due (is_some place.block) place.due place.rest ≡ true
  body : does_body_stand place.block ≡ true

module _ (is_open : Bool) (place : Place) (line : ℕ) (more : List Statement) (answer : Reply) (body : does_body_stand place.block ≡ true) where
  done-due : is_some place.block ≡ true → is_due (is_some place.block) (due_after place.block answer) (record { line = line; form = form.Done } ∷ more) ≡ true
  done-due is = due_after-cases (λ d. is_due (is_some place.block) d (record { line = line; form = form.Done } ∷ more) ≡ true) place.block answer is (λ there. and_true (is_some place.block) (is_some place.block) there there)

  fresh-fits : (f : Form) → is_private f ≡ false → do_lines_rise (record { line = line; form = f } ∷ more) ≡ true → do_lines_rise more ≡ true → do_stand is_open (is_some place.block) (record { line = line; form = f } ∷ more) ≡ true
      → place.due ≡ Fresh → Fits (is_open_by (asks f) is_open) (placed_fresh place (record { line = line; form = f }) more f answer)
  fresh-fits (form.Begin mode) shared all rising stands fresh = record { rising = rising; rest = (both_true (may_stand is_open (is_some place.block) (form.Begin mode)) _ stands).1; due = ap (λ d. is_due (is_some place.block) d more) fresh; body = body }
  fresh-fits form.Flush shared all rising stands fresh = record { rising = rising; rest = (both_true (may_stand is_open (is_some place.block) form.Flush) _ stands).1; due = ap (λ d. is_due (is_some place.block) d more) fresh; body = body }
  fresh-fits form.Revert shared all rising stands fresh = record { rising = rising; rest = (both_true (may_stand is_open (is_some place.block) form.Revert) _ stands).1; due = ap (λ d. is_due (is_some place.block) d more) fresh; body = body }
  fresh-fits form.End shared all rising stands fresh = record { rising = rising; rest = (both_true (may_stand is_open (is_some place.block) form.End) _ stands).1; due = ap (λ d. is_due (is_some place.block) d more) fresh; body = body }
  fresh-fits form.Commit shared all rising stands fresh =
      let s = (both_true (may_stand is_open (is_some place.block) form.Commit) _ stands).0 in
      record { rising = all; rest = stands; due = (both_true is_open (not (is_some place.block)) s).1; body = body }
  fresh-fits form.Sync shared all rising stands fresh = record { rising = rising; rest = (both_true (may_stand is_open (is_some place.block) form.Sync) _ stands).1; due = ap (λ d. is_due (is_some place.block) d more) fresh; body = body }
  fresh-fits (form.Do tries) shared all rising stands fresh =
      let s = (both_true (may_stand is_open (is_some place.block) (form.Do tries)) (do_stand true true more) stands).1 in
      record { rising = rising; rest = s; due = ap (λ d. is_due true d more) fresh; body = and_true (do_stand true true more) (do_lines_rise more) s rising }
  fresh-fits form.Done shared all rising stands fresh =
      let s = (both_true (may_stand is_open (is_some place.block) form.Done) _ stands).0 in
      record { rising = all; rest = stands; due = done-due (both_true is_open (is_some place.block) s).1; body = body }
  fresh-fits (form.New kind var) shared all rising stands fresh = absurd (false≢true (sym shared))
  fresh-fits (form.Delete ent) shared all rising stands fresh = absurd (false≢true (sym shared))
  fresh-fits (form.Set ent prop value) shared all rising stands fresh = absurd (false≢true (sym shared))
  fresh-fits (form.Unset ent prop) shared all rising stands fresh = absurd (false≢true (sym shared))
  fresh-fits (form.Link source link target) shared all rising stands fresh = absurd (false≢true (sym shared))
  fresh-fits (form.SetLink source link target) shared all rising stands fresh = absurd (false≢true (sym shared))
  fresh-fits (form.Unlink source link target) shared all rising stands fresh = absurd (false≢true (sym shared))
  fresh-fits (form.UnlinkAll source link) shared all rising stands fresh = absurd (false≢true (sym shared))
  fresh-fits (form.Show ent) shared all rising stands fresh = absurd (false≢true (sym shared))
  fresh-fits (form.Query draft) shared all rising stands fresh = absurd (false≢true (sym shared))
  fresh-fits (form.Count draft) shared all rising stands fresh = absurd (false≢true (sym shared))

  ending-fits : (f : Form) → asks_more (is_some place.block) f ≡ true → do_lines_rise more ≡ true → do_stand is_open (is_some place.block) (record { line = line; form = f } ∷ more) ≡ true
      → Fits false (record place { rest = more; due = Fresh; block = None; just = None })
  ending-fits (form.Begin mode) due rising stands = absurd (false≢true due)
  ending-fits form.Flush due rising stands = absurd (false≢true due)
  ending-fits form.Revert due rising stands = absurd (false≢true due)
  ending-fits form.End due rising stands = absurd (false≢true due)
  ending-fits form.Commit due rising stands = record { rising = rising; rest = subst (λ b. do_stand false b more ≡ true) (not_true (is_some place.block) due) (both_true (may_stand is_open (is_some place.block) form.Commit) _ stands).1; due = refl; body = refl }
  ending-fits form.Sync due rising stands = absurd (false≢true due)
  ending-fits (form.Do tries) due rising stands = absurd (false≢true due)
  ending-fits form.Done due rising stands = record { rising = rising; rest = (both_true (may_stand is_open (is_some place.block) form.Done) _ stands).1; due = refl; body = refl }
  ending-fits (form.New kind var) due rising stands = absurd (false≢true due)
  ending-fits (form.Delete ent) due rising stands = absurd (false≢true due)
  ending-fits (form.Set ent prop value) due rising stands = absurd (false≢true due)
  ending-fits (form.Unset ent prop) due rising stands = absurd (false≢true due)
  ending-fits (form.Link source link target) due rising stands = absurd (false≢true due)
  ending-fits (form.SetLink source link target) due rising stands = absurd (false≢true due)
  ending-fits (form.Unlink source link target) due rising stands = absurd (false≢true due)
  ending-fits (form.UnlinkAll source link) due rising stands = absurd (false≢true due)
  ending-fits (form.Show ent) due rising stands = absurd (false≢true due)
  ending-fits (form.Query draft) due rising stands = absurd (false≢true due)
  ending-fits (form.Count draft) due rising stands = absurd (false≢true due)

  back-fits : (block : Option Block) → is_some block ≡ true → does_body_stand block ≡ true → is_open ≡ true → (rest : List Statement) → Fits is_open (record place { rest = back_to block rest; due = Fresh; block = tried block; just = None })
  back-fits None there stands is rest = absurd (false≢true there)
  back-fits (Some block) there stands is rest =
      let b = both_true (do_stand true true block.body) (do_lines_rise block.body) stands in
      record { rising = b.1; rest = subst (λ o. do_stand o true block.body ≡ true) (sym is) b.0; due = refl; body = stands }

  more-open : (f : Form) → asks_more (is_some place.block) f ≡ true → do_stand is_open (is_some place.block) (record { line = line; form = f } ∷ more) ≡ true → is_open ≡ true
  more-open (form.Begin mode) due stands = absurd (false≢true due)
  more-open form.Flush due stands = absurd (false≢true due)
  more-open form.Revert due stands = absurd (false≢true due)
  more-open form.End due stands = absurd (false≢true due)
  more-open form.Commit due stands = (both_true is_open (not (is_some place.block)) (both_true (may_stand is_open (is_some place.block) form.Commit) _ stands).0).0
  more-open form.Sync due stands = absurd (false≢true due)
  more-open (form.Do tries) due stands = absurd (false≢true due)
  more-open form.Done due stands = (both_true is_open (is_some place.block) (both_true (may_stand is_open (is_some place.block) form.Done) _ stands).0).0
  more-open (form.New kind var) due stands = absurd (false≢true due)
  more-open (form.Delete ent) due stands = absurd (false≢true due)
  more-open (form.Set ent prop value) due stands = absurd (false≢true due)
  more-open (form.Unset ent prop) due stands = absurd (false≢true due)
  more-open (form.Link source link target) due stands = absurd (false≢true due)
  more-open (form.SetLink source link target) due stands = absurd (false≢true due)
  more-open (form.Unlink source link target) due stands = absurd (false≢true due)
  more-open (form.UnlinkAll source link) due stands = absurd (false≢true due)
  more-open (form.Show ent) due stands = absurd (false≢true due)
  more-open (form.Query draft) due stands = absurd (false≢true due)
  more-open (form.Count draft) due stands = absurd (false≢true due)

  then-fits : (due : Due) (f : Form) → (due ≡ Fresh → is_private f ≡ false) → place.due ≡ due → is_due (is_some place.block) due (record { line = line; form = f } ∷ more) ≡ true
      → do_lines_rise (record { line = line; form = f } ∷ more) ≡ true → do_stand is_open (is_some place.block) (record { line = line; form = f } ∷ more) ≡ true
      → Fits (is_open_by (asks_then due f) is_open) (placed_then place due (record { line = line; form = f }) more answer)
  then-fits Fresh f shared is due all stands = fresh-fits f (shared refl) all (both_true (is_before line more) (do_lines_rise more) all).1 stands is
  then-fits Ending f shared is due all stands = ending-fits f due (both_true (is_before line more) (do_lines_rise more) all).1 stands
  then-fits Reverting f shared is due all stands =
      let d = both_true (is_some place.block) (asks_more (is_some place.block) f) due in
      back-fits place.block d.0 body (more-open f d.1 stands) (record { line = line; form = f } ∷ more)

module _ (view : CourseView) (course : IsCourse view) (going : view.place.stopped ≡ false) where
  at-course : (place : Place) (is_open : Bool) → place.stopped ≡ false → Fits is_open place → IsCourse (at_place view place is_open)
  at-course place is_open still fits = record {
    named = course.named;
    rest = ap (λ n. drop n place.rest) (sym (none_answered place.rest));
    private = omega (arith, none_answered place.rest);
    closed = λ closed. none_answered place.rest;
    over = λ stopped. absurd (false≢true (sym still ∙ stopped));
    stands = λ g. record { rising = fits.rising; rest = fits.rest; due = fits.due; body = fits.body };
  }

  -- the front of a ready course asks for a shared step
  front-shared : (line : ℕ) (f : Form) (more : List Statement) → view.place.rest ≡ record { line = line; form = f } ∷ more → IsReady view → is_private f ≡ false
  front-shared line f more is ready =
      let none : private_count (record { line = line; form = f } ∷ more) ≡ 0 = ap private_count (sym is) ∙ ready in
      elim (is_private f) as (λ b. cond b (suc (private_count more)) 0 ≡ 0 → b ≡ false) [ true ↦ λ n. absurd (omega arith) | false ↦ λ n. refl ] none

  pub placed-course : (rest : List Statement) (answer : Reply) → view.place.rest ≡ rest → IsReady view → IsCourse (course_placed view rest answer)
  placed-course [] answer is ready = course
  placed-course (statement ∷ more) answer is ready =
      let s = course.stands going in
      at-course (placed_then view.place view.place.due statement more answer) (is_open_by (asks_then view.place.due statement.form) view.is_open)
      (placed-stopped view.place view.place.due statement more answer ∙ going)
      (then-fits view.is_open view.place statement.line more answer s.body view.place.due statement.form (λ fresh. front-shared statement.line statement.form more is ready) refl
      (subst (λ l. is_due (is_some view.place.block) view.place.due l ≡ true) is s.due)
      (subst (λ l. do_lines_rise l ≡ true) is (rest-rising view course going))
      (subst (λ l. do_stand view.is_open (is_some view.place.block) l ≡ true) is s.rest))

-- ---- stops

before-drop : (line count : ℕ) (rest : List Statement) (statement : Statement) (more : List Statement) → is_before line rest ≡ true → drop count rest ≡ statement ∷ more → nat_lt line statement.line ≡ true
before-drop line zero [] statement more before is = absurd cc
before-drop line zero (first ∷ rest) statement more before is = let same : first ≡ statement = cc in subst (λ (s : Statement). nat_lt line s.line ≡ true) same (both_true (nat_lt line first.line) (is_before line rest) before).0
before-drop line (suc count) [] statement more before is = absurd cc
before-drop line (suc count) (first ∷ rest) statement more before is = before-drop line count rest statement more (both_true (nat_lt line first.line) (is_before line rest) before).1 is

not_below_itself : (line : ℕ) → nat_lt line line ≡ false
not_below_itself line = elim (nat_lt line line) as (λ b. nat_lt line line ≡ b → b ≡ false) [ true ↦ λ e. absurd (omega (arith, ltb-true line line e)) | false ↦ λ e. refl ] refl

or_true : (a b : Bool) → b ≡ true → (a || b) ≡ true
or_true true b e = refl
or_true false b e = e

and_false : (a b : Bool) → b ≡ false → (a && b) ≡ false
and_false true b e = e
and_false false b e = refl

-- a private statement that is not before a line
private_before-front : (line : ℕ) (statement : Statement) (more : List Statement) → nat_lt statement.line line ≡ false → private_before line (statement ∷ more) ≡ 0
private_before-front line statement more is = ap (λ b. cond b (suc (private_before line more)) 0) (and_false (is_private statement.form) (nat_lt statement.line line) is)

-- the statement behind some private ones
behind : (count : ℕ) (rest : List Statement) (statement : Statement) (more : List Statement) → drop count rest ≡ statement ∷ more → count ≤ private_count rest → do_lines_rise rest ≡ true
    → (is_front statement.line rest ≡ true) × (private_before statement.line rest ≡ count)
behind zero [] statement more is within rising = absurd cc
behind zero (first ∷ rest) statement more is within rising =
    let same : first ≡ statement = cc in
    subst (λ (s : Statement). (is_front s.line (first ∷ rest) ≡ true) × (private_before s.line (first ∷ rest) ≡ 0)) same
    (ap (λ b. b || (is_private first.form && is_front first.line rest)) (eq-eqb first.line first.line refl), private_before-front first.line first rest (not_below_itself first.line))
behind (suc count) [] statement more is within rising = absurd cc
behind (suc count) (first ∷ rest) statement more is within rising =
    let r = both_true (is_before first.line rest) (do_lines_rise rest) rising in
    let below = before-drop first.line count rest statement more r.0 is in
    elim (is_private first.form) as (λ b. suc count ≤ cond b (suc (private_count rest)) 0 → (((first.line == statement.line) || (b && is_front statement.line rest)) ≡ true) × (cond (b && nat_lt first.line statement.line) (suc (private_before statement.line rest)) 0 ≡ suc count)) [
      | true ↦ λ within. let all = behind count rest statement more is (omega arith) r.1 in
          (or_true (first.line == statement.line) (is_front statement.line rest) all.0, ap (λ b. cond b (suc (private_before statement.line rest)) 0) below ∙ ap suc all.1)
      | false ↦ λ within. absurd (omega arith)
    ] within

-- statements behind a line
private_before-none : (line : ℕ) (rest : List Statement) → is_before line rest ≡ true → private_before line rest ≡ 0
private_before-none line [] before = refl
private_before-none line (first ∷ rest) before =
    let above = (both_true (nat_lt line first.line) (is_before line rest) before).0 in
    private_before-front line first rest (elim (nat_lt first.line line) as (λ b. nat_lt first.line line ≡ b → b ≡ false) [ true ↦ λ e. absurd (omega (arith, ltb-true first.line line e, ltb-true line first.line above)) | false ↦ λ e. refl ] refl)

-- a flush that has just committed
just_of-line : (line : ℕ) (answer : Reply) (just : ℕ) → just_of line answer ≡ Some just → line ≡ just
just_of-line line (reply.At commit) just e = absurd (none-some just e)
just_of-line line reply.Ended just e = absurd (none-some just e)
just_of-line line reply.Synced just e = absurd (none-some just e)
just_of-line line (reply.Acted a) just e = absurd (none-some just e)
just_of-line line (reply.Shown a) just e = absurd (none-some just e)
just_of-line line (reply.Ids a) just e = absurd (none-some just e)
just_of-line line (reply.Count a) just e = absurd (none-some just e)
just_of-line line (reply.Refused a) just e = absurd (none-some just e)
just_of-line line (reply.Unset a) just e = absurd (none-some just e)
just_of-line line (reply.Stop a) just e = absurd (none-some just e)
just_of-line line (reply.Flushed flush.Nothing) just e = absurd (none-some just e)
just_of-line line (reply.Flushed (flush.Conflict base now)) just e = absurd (none-some just e)
just_of-line line (reply.Flushed (flush.Committed version fault)) just e = same_Some _ _ e

module _ (place : Place) (line : ℕ) (more : List Statement) (answer : Reply) (above : is_before line more ≡ true) where
  fresh-just : (f : Form) (just : ℕ) → (placed_fresh place (record { line = line; form = f }) more f answer).just ≡ Some just → private_before just (placed_fresh place (record { line = line; form = f }) more f answer).rest ≡ 0
  fresh-just (form.Begin mode) just e = subst (λ l. private_before l more ≡ 0) (just_of-line line answer just e) (private_before-none line more above)
  fresh-just form.Flush just e = subst (λ l. private_before l more ≡ 0) (just_of-line line answer just e) (private_before-none line more above)
  fresh-just form.Revert just e = subst (λ l. private_before l more ≡ 0) (just_of-line line answer just e) (private_before-none line more above)
  fresh-just form.End just e = subst (λ l. private_before l more ≡ 0) (just_of-line line answer just e) (private_before-none line more above)
  fresh-just form.Commit just e = subst (λ l. private_before l (record { line = line; form = form.Commit } ∷ more) ≡ 0) (just_of-line line answer just e) (private_before-front line (record { line = line; form = form.Commit }) more (not_below_itself line))
  fresh-just form.Sync just e = subst (λ l. private_before l more ≡ 0) (just_of-line line answer just e) (private_before-none line more above)
  fresh-just (form.Do tries) just e = absurd (none-some just e)
  fresh-just form.Done just e = subst (λ l. private_before l (record { line = line; form = form.Done } ∷ more) ≡ 0) (just_of-line line answer just e) (private_before-front line (record { line = line; form = form.Done }) more (not_below_itself line))
  fresh-just (form.New kind var) just e = subst (λ l. private_before l more ≡ 0) (just_of-line line answer just e) (private_before-none line more above)
  fresh-just (form.Delete ent) just e = subst (λ l. private_before l more ≡ 0) (just_of-line line answer just e) (private_before-none line more above)
  fresh-just (form.Set ent prop value) just e = subst (λ l. private_before l more ≡ 0) (just_of-line line answer just e) (private_before-none line more above)
  fresh-just (form.Unset ent prop) just e = subst (λ l. private_before l more ≡ 0) (just_of-line line answer just e) (private_before-none line more above)
  fresh-just (form.Link source link target) just e = subst (λ l. private_before l more ≡ 0) (just_of-line line answer just e) (private_before-none line more above)
  fresh-just (form.SetLink source link target) just e = subst (λ l. private_before l more ≡ 0) (just_of-line line answer just e) (private_before-none line more above)
  fresh-just (form.Unlink source link target) just e = subst (λ l. private_before l more ≡ 0) (just_of-line line answer just e) (private_before-none line more above)
  fresh-just (form.UnlinkAll source link) just e = subst (λ l. private_before l more ≡ 0) (just_of-line line answer just e) (private_before-none line more above)
  fresh-just (form.Show ent) just e = subst (λ l. private_before l more ≡ 0) (just_of-line line answer just e) (private_before-none line more above)
  fresh-just (form.Query draft) just e = subst (λ l. private_before l more ≡ 0) (just_of-line line answer just e) (private_before-none line more above)
  fresh-just (form.Count draft) just e = subst (λ l. private_before l more ≡ 0) (just_of-line line answer just e) (private_before-none line more above)

  then-just : (due : Due) (f : Form) (just : ℕ) → (placed_then place due (record { line = line; form = f }) more answer).just ≡ Some just → private_before just (placed_then place due (record { line = line; form = f }) more answer).rest ≡ 0
  then-just Fresh f just e = fresh-just f just e
  then-just Ending f just e = absurd (none-some just e)
  then-just Reverting f just e = absurd (none-some just e)

is_line-just : (just : Option ℕ) (line : ℕ) → just ≡ Some line → is_line just line ≡ true
is_line-just None line e = absurd (none-some line e)
is_line-just (Some n) line e = eq-eqb n line (same_Some _ _ e)

module _ (view : CourseView) (course : IsCourse view) (going : view.place.stopped ≡ false) where
  -- a session can stop at its next statement
  pub front-stops : (statement : Statement) (more : List Statement) → view.place.rest ≡ statement ∷ more → StopsAt view statement.line
  front-stops statement more is =
      let all = behind (answered_count view) view.since statement more (sym course.rest ∙ is) course.private (course.stands going).rising in
      record { can = ap (λ b. b || is_line view.place.just statement.line) all.0; answered = all.1 }

  -- and at a flush that has just committed
  pub just-stops : (statement : Statement) (more : List Statement) (answer : Reply) (line : ℕ) → view.place.rest ≡ statement ∷ more → (course_placed view (statement ∷ more) answer).place.just ≡ Some line
      → StopsAt (course_placed view (statement ∷ more) answer) line
  just-stops statement more answer line is just =
      let rising = subst (λ l. do_lines_rise l ≡ true) is (rest-rising view course going) in
      let place = placed_then view.place view.place.due statement more answer in
      record {
        can = or_true (is_front line place.rest) (is_line place.just line) (is_line-just place.just line just);
        answered = then-just view.place statement.line more answer (both_true (is_before statement.line more) (do_lines_rise more) rising).0 view.place.due statement.form line just ∙ sym (none_answered place.rest);
      }

  -- ---- what is open

  fresh-open : (f : Form) (asked : SharedStep) → asks f ≡ Some asked → may_stand view.is_open (is_some view.place.block) f ≡ true → FitsOpen asked view.is_open
  fresh-open (form.Begin mode) asked e stands = subst (λ a. FitsOpen a view.is_open) (same_Some _ _ e) (not_true view.is_open (both_true (not view.is_open) (not (is_some view.place.block)) stands).0)
  fresh-open form.Flush asked e stands = subst (λ a. FitsOpen a view.is_open) (same_Some _ _ e) (both_true view.is_open (not (is_some view.place.block)) stands).0
  fresh-open form.Revert asked e stands = subst (λ a. FitsOpen a view.is_open) (same_Some _ _ e) (both_true view.is_open (not (is_some view.place.block)) stands).0
  fresh-open form.End asked e stands = subst (λ a. FitsOpen a view.is_open) (same_Some _ _ e) (both_true view.is_open (not (is_some view.place.block)) stands).0
  fresh-open form.Commit asked e stands = subst (λ a. FitsOpen a view.is_open) (same_Some _ _ e) (both_true view.is_open (not (is_some view.place.block)) stands).0
  fresh-open form.Sync asked e stands = subst (λ a. FitsOpen a view.is_open) (same_Some _ _ e) tt
  fresh-open (form.Do tries) asked e stands = subst (λ a. FitsOpen a view.is_open) (same_Some _ _ e) (not_true view.is_open (both_true (not view.is_open) (not (is_some view.place.block)) stands).0)
  fresh-open form.Done asked e stands = subst (λ a. FitsOpen a view.is_open) (same_Some _ _ e) (both_true view.is_open (is_some view.place.block) stands).0
  fresh-open (form.New kind var) asked e stands = absurd (none-some asked e)
  fresh-open (form.Delete ent) asked e stands = absurd (none-some asked e)
  fresh-open (form.Set ent prop value) asked e stands = absurd (none-some asked e)
  fresh-open (form.Unset ent prop) asked e stands = absurd (none-some asked e)
  fresh-open (form.Link source link target) asked e stands = absurd (none-some asked e)
  fresh-open (form.SetLink source link target) asked e stands = absurd (none-some asked e)
  fresh-open (form.Unlink source link target) asked e stands = absurd (none-some asked e)
  fresh-open (form.UnlinkAll source link) asked e stands = absurd (none-some asked e)
  fresh-open (form.Show ent) asked e stands = absurd (none-some asked e)
  fresh-open (form.Query draft) asked e stands = absurd (none-some asked e)
  fresh-open (form.Count draft) asked e stands = absurd (none-some asked e)

  then-open : (due : Due) (line : ℕ) (f : Form) (more : List Statement) (asked : SharedStep) → asks_then due f ≡ Some asked → is_due (is_some view.place.block) due (record { line = line; form = f } ∷ more) ≡ true
      → do_stand view.is_open (is_some view.place.block) (record { line = line; form = f } ∷ more) ≡ true → FitsOpen asked view.is_open
  then-open Fresh line f more asked e due stands = fresh-open f asked e (both_true (may_stand view.is_open (is_some view.place.block) f) _ stands).0
  then-open Ending line f more asked e due stands = subst (λ a. FitsOpen a view.is_open) (same_Some _ _ e) (more-open view.is_open view.place line more (reply.Ended) (course.stands going).body f due stands)
  then-open Reverting line f more asked e due stands =
      subst (λ a. FitsOpen a view.is_open) (same_Some _ _ e) (more-open view.is_open view.place line more (reply.Ended) (course.stands going).body f (both_true (is_some view.place.block) (asks_more (is_some view.place.block) f) due).1 stands)

  pub front-open : (rest : List Statement) (line : ℕ) (asked : SharedStep) → view.place.rest ≡ rest → front_asked view.place.due rest ≡ Some (line, asked) → FitsOpen asked view.is_open
  front-open [] line asked is e = absurd (none-some (line, asked) e)
  front-open (statement ∷ more) line asked is e =
      let m = map_some (λ asked. (statement.line, asked)) (asks_then view.place.due statement.form) (line, asked) e in
      let same : m.0 ≡ asked = ap (λ (p : ℕ × SharedStep). p.1) (same_Some _ _ m.2) in
      subst (λ a. FitsOpen a view.is_open) same (then-open view.place.due statement.line statement.form more m.0 m.1
      (subst (λ l. is_due (is_some view.place.block) view.place.due l ≡ true) is (course.stands going).due)
      (subst (λ l. do_stand view.is_open (is_some view.place.block) l ≡ true) is (course.stands going).rest))

  -- at the end of a script no transaction is open
  pub ended-closed : view.place.rest ≡ [] → view.is_open ≡ false
  ended-closed is = not_true view.is_open (both_true (not view.is_open) (not (is_some view.place.block)) (subst (λ l. do_stand view.is_open (is_some view.place.block) l ≡ true) is (course.stands going).rest)).0

  -- where no transaction is open, no private statement comes next
  pub closed-ready : view.is_open ≡ false → IsReady view
  closed-ready closed = closed_list view.is_open (is_some view.place.block) view.place.rest (course.stands going).rest closed

-- the next statement, its line and its step
pub front-is : (due : Due) (rest : List Statement) (line : ℕ) (asked : SharedStep) → front_asked due rest ≡ Some (line, asked)
    → (statement : Statement) × (more : List Statement) × (rest ≡ statement ∷ more) × (statement.line ≡ line) × (asks_then due statement.form ≡ Some asked)
front-is due [] line asked e = absurd (none-some (line, asked) e)
front-is due (statement ∷ more) line asked e =
    let m = map_some (λ asked. (statement.line, asked)) (asks_then due statement.form) (line, asked) e in
    let same = same_Some _ _ m.2 in
    (statement, more, refl, ap (λ (p : ℕ × SharedStep). p.0) same, m.1 ∙ ap (λ (p : ℕ × SharedStep). Some p.1) same)

-- a flush that has just committed
abbrev is_flush : SharedStep → Bool
is_flush (shared.Begin mode) = false
is_flush shared.Flush = true
is_flush shared.Revert = false
is_flush shared.End = false
is_flush shared.Sync = false

no_flush : (asked : SharedStep) → is_flush asked ≡ false → ◌≡◌ {A = Option SharedStep} (Some asked) (Some shared.Flush) → ⊥
no_flush asked other e = false≢true (sym other ∙ ap is_flush (same_Some _ _ e))

fresh_just : (place : Place) (statement : Statement) (more : List Statement) (f : Form) (version : ℕ) → asks f ≡ Some shared.Flush → (placed_fresh place statement more f (reply.Flushed (flush.Committed version None))).just ≡ Some statement.line
fresh_just place statement more (form.Begin mode) version e = absurd (no_flush (shared.Begin mode) refl e)
fresh_just place statement more form.Flush version e = refl
fresh_just place statement more form.Revert version e = absurd (no_flush shared.Revert refl e)
fresh_just place statement more form.End version e = absurd (no_flush shared.End refl e)
fresh_just place statement more form.Commit version e = refl
fresh_just place statement more form.Sync version e = absurd (no_flush shared.Sync refl e)
fresh_just place statement more (form.Do tries) version e = absurd (no_flush (shared.Begin Ordinary) refl e)
fresh_just place statement more form.Done version e = refl
fresh_just place statement more (form.New kind var) version e = absurd (none-some _ e)
fresh_just place statement more (form.Delete ent) version e = absurd (none-some _ e)
fresh_just place statement more (form.Set ent prop value) version e = absurd (none-some _ e)
fresh_just place statement more (form.Unset ent prop) version e = absurd (none-some _ e)
fresh_just place statement more (form.Link source link target) version e = absurd (none-some _ e)
fresh_just place statement more (form.SetLink source link target) version e = absurd (none-some _ e)
fresh_just place statement more (form.Unlink source link target) version e = absurd (none-some _ e)
fresh_just place statement more (form.UnlinkAll source link) version e = absurd (none-some _ e)
fresh_just place statement more (form.Show ent) version e = absurd (none-some _ e)
fresh_just place statement more (form.Query draft) version e = absurd (none-some _ e)
fresh_just place statement more (form.Count draft) version e = absurd (none-some _ e)

pub flush-just : (place : Place) (due : Due) (statement : Statement) (more : List Statement) (version : ℕ) → asks_then due statement.form ≡ Some shared.Flush
    → (placed_then place due statement more (reply.Flushed (flush.Committed version None))).just ≡ Some statement.line
flush-just place Fresh statement more version e = fresh_just place statement more statement.form version e
flush-just place Ending statement more version e = absurd (no_flush shared.End refl e)
flush-just place Reverting statement more version e = absurd (no_flush shared.Revert refl e)

-- ---- as it is kept

pub none-first : {A : Type 0} (xs : List A) → None ≡ slice_get xs 0 → xs ≡ []
none-first [] e = refl
none-first (x ∷ xs) e = absurd (none-some x e)

pub first_is : {A : Type 0} (xs : List A) (x : A) → Some x ≡ slice_get xs 0 → xs ≡ x ∷ drop 1 xs
first_is [] x e = absurd (none-some x (sym e))
first_is (y ∷ xs) x e = ap (λ z. z ∷ xs) (sym (same_Some _ _ e))

pub spot-placed : (script since : List Statement) (spot later : Spot) (is_open open_later stopped : Bool) (statement : Statement) (answer : Reply) → Some statement ≡ slice_get (drop spot.at script) 0
    → spot_place script stopped later ≡ place_behind (spot_place script stopped spot) (drop spot.at script) answer → open_later ≡ is_open_by (asks_then spot.due statement.form) is_open
    → ◌≡◌ {A = CourseView} (record { script = script; since = drop later.at script; place = spot_place script stopped later; is_open = open_later })
    (course_placed (record { script = script; since = since; place = spot_place script stopped spot; is_open = is_open }) (drop spot.at script) answer)
spot-placed script since spot later is_open open_later stopped statement answer first place open_is =
    let is = first_is (drop spot.at script) statement first in
    let there = place ∙ ap (λ l. place_behind (spot_place script stopped spot) l answer) is in
    (λ i. record { script = script; since = (there i).rest; place = there i; is_open = open_is i })
    ∙ ap (λ l. course_placed (record { script = script; since = since; place = spot_place script stopped spot; is_open = is_open }) l answer) (sym is)
