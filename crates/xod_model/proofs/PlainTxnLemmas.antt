-- What lists answer meets what a transaction promises: rows refuse nothing for a device or for damaged bytes.
use Rattle.std.proofs.Common.{◌≡◌, ◌∙◌, true, false, ◌⊎◌, inl, inr, List, refl, sym, ap, subst, arith}
use Rattle.std.specs.Prelude.{Result, Ok, Err, OnOk, OnErr, ◌≢◌}
use Rattle.std.proofs.lemmas.Bool.{false≢true}
use Rattle.xod_base.specs.declared.answer.ActAnswer.{ActAnswer}
use Rattle.xod_base.specs.declared.answer.StmtError.{StmtError}
use Rattle.xod_base.specs.declared.answer.StmtError.TheVariants as refusal
use Rattle.xod_base.specs.declared.query.Act.{Act}
use Rattle.xod_base.specs.declared.query.Mode.{Mode}
use Rattle.xod_base.specs.declared.query.Mode.TheVariants.{Ordinary, ReadOnly, Exclusive}
use Rattle.xod_base.specs.Rows.{RowsValue}
use Rattle.xod_journal.specs.declared.change.RowChange.{RowChange}
use Rattle.xod_journal.specs.Changes.{act_outcome, expansion_of, outcome_of}
use Rattle.xod_journal.specs.Locals.{Acts, CountsFaults, IsExpected, Makes, held_of, is_of_rows}
use Rattle.xod_journal.specs.Txns.{OpenTxn, txn_acted}
use Rattle.xod_journal.proofs.CallerLemmas.{expansion-refusal}
use Rattle.xod_model.specs.Refusals.{Tells}

-- what lists answer, where the expected refusals are those of rows
module _ {A : Type 0} (expected : Result A StmtError) (of_rows : (error : StmtError) → expected ≡ Err error → is_of_rows error ≡ true) where
  pub tells-expected : (result : Result A StmtError) → Tells expected result → IsExpected expected result
  tells-expected (Ok answer) tells = tells
  tells-expected (Err (refusal.NoEntity id)) tells = tells
  tells-expected (Err refusal.ReadOnly) tells = tells
  tells-expected (Err (refusal.TooMany _ limit)) tells = tells
  tells-expected (Err (refusal.IdsSpent kind)) tells = tells
  tells-expected (Err (refusal.TextTooLong bytes)) tells = tells
  tells-expected (Err refusal.Device) tells = tt
  tells-expected (Err (refusal.Damaged place)) tells = absurd (false≢true (of_rows _ tells))
  tells-expected (Err refusal.Memory) tells = tt

  never : (error : StmtError) → is_of_rows error ≡ false → expected ≡ Err error → ⊥
  never error outside is = false≢true (sym outside ∙ of_rows error is)

  no_device : (result : Result A StmtError) → Tells expected result → result ≡ Err refusal.Device → ⊥
  no_device result tells is = never refusal.Device refl (let P : Result A StmtError → Type 0 = Tells expected in subst P is tells)

  pub tells-counts : (result : Result A StmtError) → Tells expected result → CountsFaults 0 0 result
  tells-counts (Ok answer) tells = record { never_falls = omega arith; device = λ is. absurd (no_device _ tells is); memory = λ _. refl; ok = refl }
  tells-counts (Err error) tells = record { never_falls = omega arith; device = λ is. absurd (no_device _ tells is); memory = λ _. refl; ok = tt }

-- ---- acts

outcome-refusal : (expansion : Result (List RowChange) StmtError) → ((error : StmtError) → expansion ≡ Err error → is_of_rows error ≡ true)
    → (error : StmtError) → act_outcome expansion ≡ Err error → is_of_rows error ≡ true
outcome-refusal (Ok changes) of_rows error is = cc
outcome-refusal (Err refused) of_rows error is = of_rows error (cc)

makes : (expansion : Result (List RowChange) StmtError) (old new : OpenTxn) (answer : ActAnswer) → act_outcome expansion ≡ Ok answer → new ≡ txn_acted old expansion → old.mode ≢ ReadOnly → Makes old new answer
makes (Ok changes) old new answer is acted writes = record { changes = changes; writes = writes; grown = ap held_of acted; answer_is = cc }
makes (Err error) old new answer is acted writes = absurd (cc)

-- a mode that writes
writes_not : (mode : Mode) → (mode ≡ Ordinary) ⊎ (mode ≡ Exclusive) → mode ≢ ReadOnly
writes_not mode (inl is) reads = cc
writes_not mode (inr is) reads = cc

writes-outcome : (mode : Mode) (rows : RowsValue) (act : Act) → (mode ≡ Ordinary) ⊎ (mode ≡ Exclusive) → outcome_of mode rows act ≡ expansion_of rows act
writes-outcome mode rows act (inl is) = ap (λ m. outcome_of m rows act) is
writes-outcome mode rows act (inr is) = ap (λ m. outcome_of m rows act) is

module _ (act : Act) (old new : OpenTxn) where
  abbrev expected : Result ActAnswer StmtError
  expected = act_outcome (expansion_of old.rows act)

  of_rows : (error : StmtError) → expected ≡ Err error → is_of_rows error ≡ true
  of_rows = outcome-refusal (expansion_of old.rows act) (expansion-refusal old.rows act)

  pub act-counts : (result : Result ActAnswer StmtError) → Tells expected result → CountsFaults 0 0 result
  act-counts result tells = tells-counts expected of_rows result tells

  module _ (mode : (old.mode ≡ Ordinary) ⊎ (old.mode ≡ Exclusive)) where
    same : outcome_of old.mode old.rows act ≡ expansion_of old.rows act
    same = writes-outcome old.mode old.rows act mode

    told : (result : Result ActAnswer StmtError) → Tells expected result → IsExpected (act_outcome (outcome_of old.mode old.rows act)) result
    told result tells = subst (λ o. IsExpected (act_outcome o) result) (sym same) (tells-expected expected of_rows result tells)

    pub act-acts : (result : Result ActAnswer StmtError) → Tells expected result → OnOk result (new ≡ txn_acted old (expansion_of old.rows act)) → OnErr result (new ≡ old) → Acts true act old new result
    act-acts (Ok answer) tells acted refused = record {
      made = makes (expansion_of old.rows act) old new answer tells acted (writes_not old.mode mode);
      refused = tt;
      reads_only = λ is. absurd (cc);
      answer = λ _. told (Ok answer) tells;
      changed = λ _. acted ∙ ap (txn_acted old) (sym same);
    }
    act-acts (Err error) tells acted refused = record {
      made = tt;
      refused = refused;
      reads_only = λ is. absurd (never expected of_rows refusal.ReadOnly refl (let P : Result ActAnswer StmtError → Type 0 = Tells expected in subst P is tells));
      answer = λ _. told (Err error) tells;
      changed = λ _. tt;
    }
