-- A well-formed session is one that can be played.
use Rattle.std.proofs.Common.{◌≡◌, ◌<◌, ℕ, ◌+◌, Bool, true, false, List, [], ◌∷◌, length, Some, None, refl, ap, ◌∙◌, arith, leb-true, lt-ltb}
use Rattle.std.specs.Prelude.{◌&&◌, nat_le, nat_lt, not, option_and_then}
use Rattle.std.specs.List.{list_all}
use Rattle.std.proofs.lemmas.Option.{none-some, same_Some}
use Rattle.std.proofs.lemmas.Bool.{false≢true}
use Rattle.xod_base.specs.declared.limits.TheConstants.{LONGEST_NAME}
use Rattle.xod_base.specs.Names.{is_name_byte, is_name_word, is_session_word, starts_name}
use Rattle.xod_base.specs.Queries.{is_named}
use Rattle.xod_base.specs.Rows.{has_name_length}
use Rattle.xod_base.specs.Values.{is_value}
use Rattle.xod_words.specs.declared.draft.Draft.{Draft}
use Rattle.xod_words.specs.Drafts.{is_draft, is_ent}
use Rattle.xod_lang.specs.declared.script.Form.{Form}
use Rattle.xod_lang.specs.declared.script.Form.TheVariants as form
use Rattle.xod_lang.specs.declared.script.SessionScript.{SessionScript}
use Rattle.xod_lang.specs.declared.script.Statement.{Statement}
use Rattle.xod_lang.specs.declared.standing.Standing.{Standing}
use Rattle.xod_lang.specs.declared.standing.Standing.TheVariants.{Outside, InTransaction, InBlock}
use Rattle.xod_lang.specs.Standings.{stands_after}
use Rattle.xod_lang.specs.WellFormed.{ends_outside, has_form, is_form, is_well_formed_session, lines_rise, stands_through}
use Rattle.xod_session.specs.Scripts.{are_named, do_lines_rise, do_stand, in_block_behind, is_before, is_named_form, is_open_behind, may_stand}
use Rattle.xod_session.proofs.OptionLemmas.{and_true, both_true}

-- ---- names

word-length : (word : List ℕ) → is_name_word word ≡ true → has_name_length word ≡ true
unfolding is_name_word
word-length [] is = absurd (false≢true is)
word-length (byte ∷ bytes) is =
    and_true (nat_lt 0 (length (byte ∷ bytes))) (nat_le (length (byte ∷ bytes)) LONGEST_NAME) (lt-ltb 0 (length (byte ∷ bytes)) (omega arith))
    (both_true (starts_name (byte ∷ bytes) && list_all is_name_byte (byte ∷ bytes)) (nat_le (length (byte ∷ bytes)) LONGEST_NAME) is).1

draft-named : (draft : Draft) → is_draft draft ≡ true → is_named draft.query ≡ true
unfolding is_draft
draft-named draft is = (both_true (is_named draft.query) _ is).0

form-named : (f : Form) → is_form f ≡ true → is_named_form f ≡ true
form-named (form.Begin mode) is = refl
form-named form.Flush is = refl
form-named form.Revert is = refl
form-named form.End is = refl
form-named form.Commit is = refl
form-named form.Sync is = refl
form-named (form.Do tries) is = refl
form-named form.Done is = refl
form-named (form.New kind var) is = word-length kind (both_true (is_name_word kind) (is_session_word var) is).0
form-named (form.Delete ent) is = refl
form-named (form.Set ent prop value) is = word-length prop (both_true (is_name_word prop) (is_value value) (both_true (is_ent ent) _ is).1).0
form-named (form.Unset ent prop) is = word-length prop (both_true (is_ent ent) (is_name_word prop) is).1
form-named (form.Link source link target) is = word-length link (both_true (is_name_word link) (is_ent target) (both_true (is_ent source) _ is).1).0
form-named (form.SetLink source link target) is = word-length link (both_true (is_name_word link) (is_ent target) (both_true (is_ent source) _ is).1).0
form-named (form.Unlink source link target) is = word-length link (both_true (is_name_word link) (is_ent target) (both_true (is_ent source) _ is).1).0
form-named (form.UnlinkAll source link) is = word-length link (both_true (is_ent source) (is_name_word link) is).1
form-named (form.Show ent) is = refl
form-named (form.Query draft) is = draft-named draft is
form-named (form.Count draft) is = draft-named draft is

all-named : (rest : List Statement) → list_all has_form rest ≡ true → are_named rest ≡ true
all-named [] all = refl
all-named (statement ∷ more) all =
    let t = both_true (has_form statement) (list_all has_form more) all in
    and_true (is_named_form statement.form) (are_named more) (form-named statement.form t.0) (all-named more t.1)

-- ---- lines

lines-before : (line low : ℕ) (rest : List Statement) → line < low → lines_rise low rest ≡ true → is_before line rest ≡ true
lines-before line low [] below rise = refl
lines-before line low (statement ∷ more) below rise =
    let t = both_true (nat_le low statement.line) (lines_rise (statement.line + 1) more) rise in
    let least = leb-true low statement.line t.0 in
    and_true (nat_lt line statement.line) (is_before line more) (lt-ltb line statement.line (omega arith)) (lines-before line (statement.line + 1) more (omega arith) t.1)

all-rise : (low : ℕ) (rest : List Statement) → lines_rise low rest ≡ true → do_lines_rise rest ≡ true
all-rise low [] rise = refl
all-rise low (statement ∷ more) rise =
    let t = both_true (nat_le low statement.line) (lines_rise (statement.line + 1) more) rise in
    and_true (is_before statement.line more) (do_lines_rise more) (lines-before statement.line (statement.line + 1) more (omega arith) t.1) (all-rise (statement.line + 1) more t.1)

-- ---- where statements stand

abbrev open_at : Standing → Bool
open_at Outside = false
open_at InTransaction = true
open_at InBlock = true

abbrev block_at : Standing → Bool
block_at Outside = false
block_at InTransaction = false
block_at InBlock = true

record Allows (standing : Standing) (f : Form) (next : Standing) : Type 0 where
  may : may_stand (open_at standing) (block_at standing) f ≡ true
  opens : is_open_behind (open_at standing) f ≡ open_at next
  blocks : in_block_behind (block_at standing) f ≡ block_at next

allows : (standing : Standing) (f : Form) (next : Standing) → stands_after standing f ≡ Some next → Allows standing f next
unfolding stands_after
allows Outside (form.Begin mode) next e = let is : InTransaction ≡ next = same_Some _ _ e in record { may = refl; opens = ap open_at is; blocks = ap block_at is }
allows Outside form.Flush next e = absurd (none-some next e)
allows Outside form.Revert next e = absurd (none-some next e)
allows Outside form.End next e = absurd (none-some next e)
allows Outside form.Commit next e = absurd (none-some next e)
allows Outside form.Sync next e = let is : Outside ≡ next = same_Some _ _ e in record { may = refl; opens = ap open_at is; blocks = ap block_at is }
allows Outside (form.Do tries) next e = let is : InBlock ≡ next = same_Some _ _ e in record { may = refl; opens = ap open_at is; blocks = ap block_at is }
allows Outside form.Done next e = absurd (none-some next e)
allows Outside (form.New kind var) next e = absurd (none-some next e)
allows Outside (form.Delete ent) next e = absurd (none-some next e)
allows Outside (form.Set ent prop value) next e = absurd (none-some next e)
allows Outside (form.Unset ent prop) next e = absurd (none-some next e)
allows Outside (form.Link source link target) next e = absurd (none-some next e)
allows Outside (form.SetLink source link target) next e = absurd (none-some next e)
allows Outside (form.Unlink source link target) next e = absurd (none-some next e)
allows Outside (form.UnlinkAll source link) next e = absurd (none-some next e)
allows Outside (form.Show ent) next e = absurd (none-some next e)
allows Outside (form.Query draft) next e = absurd (none-some next e)
allows Outside (form.Count draft) next e = absurd (none-some next e)
allows InTransaction (form.Begin mode) next e = absurd (none-some next e)
allows InTransaction form.Flush next e = let is : InTransaction ≡ next = same_Some _ _ e in record { may = refl; opens = ap open_at is; blocks = ap block_at is }
allows InTransaction form.Revert next e = let is : InTransaction ≡ next = same_Some _ _ e in record { may = refl; opens = ap open_at is; blocks = ap block_at is }
allows InTransaction form.End next e = let is : Outside ≡ next = same_Some _ _ e in record { may = refl; opens = ap open_at is; blocks = ap block_at is }
allows InTransaction form.Commit next e = let is : Outside ≡ next = same_Some _ _ e in record { may = refl; opens = ap open_at is; blocks = ap block_at is }
allows InTransaction form.Sync next e = let is : InTransaction ≡ next = same_Some _ _ e in record { may = refl; opens = ap open_at is; blocks = ap block_at is }
allows InTransaction (form.Do tries) next e = absurd (none-some next e)
allows InTransaction form.Done next e = absurd (none-some next e)
allows InTransaction (form.New kind var) next e = let is : InTransaction ≡ next = same_Some _ _ e in record { may = refl; opens = ap open_at is; blocks = ap block_at is }
allows InTransaction (form.Delete ent) next e = let is : InTransaction ≡ next = same_Some _ _ e in record { may = refl; opens = ap open_at is; blocks = ap block_at is }
allows InTransaction (form.Set ent prop value) next e = let is : InTransaction ≡ next = same_Some _ _ e in record { may = refl; opens = ap open_at is; blocks = ap block_at is }
allows InTransaction (form.Unset ent prop) next e = let is : InTransaction ≡ next = same_Some _ _ e in record { may = refl; opens = ap open_at is; blocks = ap block_at is }
allows InTransaction (form.Link source link target) next e = let is : InTransaction ≡ next = same_Some _ _ e in record { may = refl; opens = ap open_at is; blocks = ap block_at is }
allows InTransaction (form.SetLink source link target) next e = let is : InTransaction ≡ next = same_Some _ _ e in record { may = refl; opens = ap open_at is; blocks = ap block_at is }
allows InTransaction (form.Unlink source link target) next e = let is : InTransaction ≡ next = same_Some _ _ e in record { may = refl; opens = ap open_at is; blocks = ap block_at is }
allows InTransaction (form.UnlinkAll source link) next e = let is : InTransaction ≡ next = same_Some _ _ e in record { may = refl; opens = ap open_at is; blocks = ap block_at is }
allows InTransaction (form.Show ent) next e = let is : InTransaction ≡ next = same_Some _ _ e in record { may = refl; opens = ap open_at is; blocks = ap block_at is }
allows InTransaction (form.Query draft) next e = let is : InTransaction ≡ next = same_Some _ _ e in record { may = refl; opens = ap open_at is; blocks = ap block_at is }
allows InTransaction (form.Count draft) next e = let is : InTransaction ≡ next = same_Some _ _ e in record { may = refl; opens = ap open_at is; blocks = ap block_at is }
allows InBlock (form.Begin mode) next e = absurd (none-some next e)
allows InBlock form.Flush next e = absurd (none-some next e)
allows InBlock form.Revert next e = absurd (none-some next e)
allows InBlock form.End next e = absurd (none-some next e)
allows InBlock form.Commit next e = absurd (none-some next e)
allows InBlock form.Sync next e = absurd (none-some next e)
allows InBlock (form.Do tries) next e = absurd (none-some next e)
allows InBlock form.Done next e = let is : Outside ≡ next = same_Some _ _ e in record { may = refl; opens = ap open_at is; blocks = ap block_at is }
allows InBlock (form.New kind var) next e = let is : InBlock ≡ next = same_Some _ _ e in record { may = refl; opens = ap open_at is; blocks = ap block_at is }
allows InBlock (form.Delete ent) next e = let is : InBlock ≡ next = same_Some _ _ e in record { may = refl; opens = ap open_at is; blocks = ap block_at is }
allows InBlock (form.Set ent prop value) next e = let is : InBlock ≡ next = same_Some _ _ e in record { may = refl; opens = ap open_at is; blocks = ap block_at is }
allows InBlock (form.Unset ent prop) next e = let is : InBlock ≡ next = same_Some _ _ e in record { may = refl; opens = ap open_at is; blocks = ap block_at is }
allows InBlock (form.Link source link target) next e = let is : InBlock ≡ next = same_Some _ _ e in record { may = refl; opens = ap open_at is; blocks = ap block_at is }
allows InBlock (form.SetLink source link target) next e = let is : InBlock ≡ next = same_Some _ _ e in record { may = refl; opens = ap open_at is; blocks = ap block_at is }
allows InBlock (form.Unlink source link target) next e = let is : InBlock ≡ next = same_Some _ _ e in record { may = refl; opens = ap open_at is; blocks = ap block_at is }
allows InBlock (form.UnlinkAll source link) next e = let is : InBlock ≡ next = same_Some _ _ e in record { may = refl; opens = ap open_at is; blocks = ap block_at is }
allows InBlock (form.Show ent) next e = let is : InBlock ≡ next = same_Some _ _ e in record { may = refl; opens = ap open_at is; blocks = ap block_at is }
allows InBlock (form.Query draft) next e = let is : InBlock ≡ next = same_Some _ _ e in record { may = refl; opens = ap open_at is; blocks = ap block_at is }
allows InBlock (form.Count draft) next e = let is : InBlock ≡ next = same_Some _ _ e in record { may = refl; opens = ap open_at is; blocks = ap block_at is }

end-outside : (standing : Standing) → ends_outside (Some standing) ≡ true → (not (open_at standing) && not (block_at standing)) ≡ true
end-outside Outside is = refl
end-outside InTransaction is = absurd (false≢true is)
end-outside InBlock is = absurd (false≢true is)

through-stand : (standing : Standing) (rest : List Statement) → ends_outside (stands_through standing rest) ≡ true → do_stand (open_at standing) (block_at standing) rest ≡ true
through-stand standing [] ends = end-outside standing ends
through-stand standing (statement ∷ more) ends =
    elim (stands_after standing statement.form) as (λ o. stands_after standing statement.form ≡ o → ends_outside (option_and_then (λ next. stands_through next more) o) ≡ true → do_stand (open_at standing) (block_at standing) (statement ∷ more) ≡ true) [
      | None ↦ λ is e. absurd (false≢true e)
      | Some next ↦ λ is e.
          let a = allows standing statement.form next is in
          and_true (may_stand (open_at standing) (block_at standing) statement.form) _ a.may
          ((λ i. do_stand (a.opens i) (a.blocks i) more) ∙ through-stand next more e)
    ] refl ends

-- ---- a session

pub record CanPlay (rest : List Statement) : Type 0 where
  pub named : are_named rest ≡ true
  pub rising : do_lines_rise rest ≡ true
  pub stand : do_stand false false rest ≡ true

pub can_play : (script : SessionScript) → is_well_formed_session script ≡ true → CanPlay script.statements
unfolding is_well_formed_session
can_play script is =
    let a = both_true (is_session_word script.name) _ is in
    let b = both_true (lines_rise 1 script.statements) _ a.1 in
    let c = both_true (list_all has_form script.statements) (ends_outside (stands_through Outside script.statements)) b.1 in
    record { named = all-named script.statements c.0; rising = all-rise 1 script.statements b.0; stand = through-stand Outside script.statements c.1 }
