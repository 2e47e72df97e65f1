-- From what was found and planned to what a call says of its view.
use base.Fml.{GName}
use Rattle.std.proofs.Common.{◌≡◌, ℕ, Bool, IsTrue, List, Result, Ok, Err, IfOk, OnOk, refl, sym, ap, subst, ◌∙◌, true≢false}
use Rattle.xod_base.specs.declared.answer.StmtError.{StmtError}
use Rattle.xod_base.specs.declared.answer.StmtError.TheVariants as refusal
use Rattle.xod_base.specs.declared.causes.ReadError.{ReadError}
use Rattle.xod_base.specs.declared.causes.ReadError.TheVariants.{Device, Damaged, Memory}
use Rattle.xod_base.specs.Rows.{RowsValue}
use Rattle.xod_base.specs.Views.{Trees}
use Rattle.xod_journal.specs.declared.change.RowChange.{RowChange}
use Rattle.xod_journal.specs.Locals.{IsExpected, is_of_rows}
use Rattle.xod_tables.specs.Tables.{AreTables}
use Rattle.xod_writes.specs.Changes.{all_writes}
use Rattle.xod_acts.specs.declared.plan.Plan.{Plan}
use Rattle.xod_acts.specs.Plans.{IsPlan, changes_of}
use Rattle.xod_acts.specs.Telling.{Expands, Gives, Looks, error_of}
use Rattle.xod_acts.proofs.Fitting.{Ready}
use Rattle.xod_acts.proofs.Going.{Agrees}

-- an answer of which it is known what was to be made
record Made (made result : Result Plan StmtError) : Type 0 where
  pub plan : IfOk result IsPlan
  pub any_mode : result ≡ Err refusal.ReadOnly → ⊥
  pub device : result ≡ Err refusal.Device → ⊥
  pub expected : (rows : RowsValue) (wanted : Result (List RowChange) StmtError) → Agrees rows wanted made → IsExpected wanted (changes_of result)
  pub writes : (rows : RowsValue) (wanted : Result (List RowChange) StmtError) → Agrees rows wanted made
      → IfOk result (λ plan. plan.writes ≡ all_writes rows plan.changes)

-- what was wanted, where it was made
wanted_is : {made result : Result Plan StmtError} {rows : RowsValue} {wanted : Result (List RowChange) StmtError} → made ≡ result
    → Agrees rows wanted made → wanted ≡ changes_of result
wanted_is is agrees = sym agrees.changes ∙ ap changes_of is

not_of_rows : {made : Result Plan StmtError} (error : StmtError) → Ready made → made ≡ Err error → IsTrue (is_of_rows error)
not_of_rows error ready is = (subst Ready is ready).refusal

-- a refusal that is the one that was made
as_made : (made : Result Plan StmtError) (error : StmtError) → (error ≡ refusal.ReadOnly → ⊥) → (error ≡ refusal.Device → ⊥)
    → ((wanted : Result (List RowChange) StmtError) → wanted ≡ Err error → IsExpected wanted (changes_of (Err error))) → made ≡ Err error → Made made (Err error)
as_made made error not_read_only not_device expected is = record {
  plan = tt;
  any_mode = λ e. not_read_only cc;
  device = λ e. not_device cc;
  expected = λ rows wanted agrees. expected wanted (wanted_is is agrees);
  writes = λ rows wanted agrees. tt;
}

refused : (made : Result Plan StmtError) → Ready made → (error : StmtError) → Gives made (Err error) → Made made (Err error)
refused made ready (refusal.NoEntity id) is = as_made made (refusal.NoEntity id) (λ e. cc) (λ e. cc) (λ wanted e. e) is
refused made ready refusal.ReadOnly is = absurd (true≢false (sym (not_of_rows refusal.ReadOnly ready is)))
refused made ready (refusal.TooMany list limit) is = as_made made (refusal.TooMany list limit) (λ e. cc) (λ e. cc) (λ wanted e. e) is
refused made ready (refusal.IdsSpent number) is = as_made made (refusal.IdsSpent number) (λ e. cc) (λ e. cc) (λ wanted e. e) is
refused made ready (refusal.TextTooLong bytes) is = as_made made (refusal.TextTooLong bytes) (λ e. cc) (λ e. cc) (λ wanted e. e) is
refused made ready refusal.Device is = absurd (true≢false (sym (not_of_rows refusal.Device ready is)))
refused made ready (refusal.Damaged place) is = absurd (true≢false (sym (not_of_rows (refusal.Damaged place) ready is)))
refused made ready refusal.Memory is = record {
  plan = tt;
  any_mode = λ e. cc;
  device = λ e. cc;
  expected = λ rows wanted agrees. tt;
  writes = λ rows wanted agrees. tt;
}

given : (made : Result Plan StmtError) → Ready made → (result : Result Plan StmtError) → Gives made result → Made made result
given made ready (Ok plan) is = record {
  plan = (subst Ready is ready).plan;
  any_mode = λ e. cc;
  device = λ e. cc;
  expected = λ rows wanted agrees. wanted_is is agrees;
  writes = λ rows wanted agrees. subst (λ m. IfOk m (λ plan. plan.writes ≡ all_writes rows plan.changes)) is agrees.writes;
}
given made ready (Err error) is = refused made ready error is

module _ {View A : Type 0} {tells : View → Bool} {trees : View → Trees} {commit : View → ℕ} {refs : View → List GName} {faults : View → ℕ}
    {old new : View} {of_rows : RowsValue → A} where
  -- a plan that is made of what was found
  pub expands : {wanted : RowsValue → Result (List RowChange) StmtError} (plan_of : A → Result Plan StmtError) (found : A)
      → Looks tells trees commit refs faults of_rows old new (Ok found)
      → Ready (plan_of found) → ((rows : RowsValue) → AreTables (trees old) rows → Agrees rows (wanted rows) (plan_of (of_rows rows)))
      → (result : Result Plan StmtError) → Gives (plan_of found) result → Expands tells trees commit refs faults wanted old new result
  expands {wanted} plan_of found looks ready agrees result gives =
      let m = given (plan_of found) ready result gives in
      let same = looks.counts.ok in
      let agree = λ (told : IsTrue (tells old)) (rows : RowsValue) (are : AreTables (trees old) rows).
      subst (λ (known : A). Agrees rows (wanted rows) (plan_of known)) (sym (looks.reads.value told rows are)) (agrees rows are) in
      record {
        plans = record {
          plan = m.plan;
          any_mode = m.any_mode;
          changes = λ told rows are. m.expected rows (wanted rows) (agree told rows are);
          writes = λ told rows are. m.writes rows (wanted rows) (agree told rows are);
        };
        counts = record { never_falls = looks.keeps.never_falls; device = λ e. absurd (m.device e); memory = λ e. same; ok = on_ok result same };
        keeps = looks.keeps;
      }
    where
      on_ok : (r : Result Plan StmtError) → faults new ≡ faults old → OnOk r (faults new ≡ faults old)
      on_ok (Ok plan) is = is
      on_ok (Err error) is = tt

  -- a call whose reader failed
  pub unread : {wanted : RowsValue → Result (List RowChange) StmtError} (error : ReadError) → Looks tells trees commit refs faults of_rows old new (Err error)
      → Expands tells trees commit refs faults wanted old new (Err (error_of error))
  unread Device looks = record {
    plans = record { plan = tt; any_mode = λ e. cc; changes = λ told rows are. tt; writes = λ told rows are. tt };
    counts = record { never_falls = looks.keeps.never_falls; device = λ e. looks.counts.device refl; memory = λ e. cc; ok = tt };
    keeps = looks.keeps;
  }
  unread (Damaged place) looks = record {
    plans = record { plan = tt; any_mode = λ e. cc; changes = λ told rows are. absurd (looks.reads.damaged told rows are place refl); writes = λ told rows are. tt };
    counts = record { never_falls = looks.keeps.never_falls; device = λ e. cc; memory = λ e. cc; ok = tt };
    keeps = looks.keeps;
  }
  unread Memory looks = record {
    plans = record { plan = tt; any_mode = λ e. cc; changes = λ told rows are. tt; writes = λ told rows are. tt };
    counts = record { never_falls = looks.keeps.never_falls; device = λ e. cc; memory = λ e. looks.counts.memory refl; ok = tt };
    keeps = looks.keeps;
  }
