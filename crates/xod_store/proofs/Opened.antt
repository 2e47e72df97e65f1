-- The transactions that steps hand out, and why steps are refused.
use Rattle.std.proofs.Common.{◌≡◌, ℕ, Bool, true, false, List, [], Some, sym, ap, ◌∙◌}
use Rattle.std.specs.Prelude.{IsTrue, option_map, unwrap_or}
use Rattle.xod_base.specs.declared.query.Mode.{Mode}
use Rattle.xod_base.specs.Causes.{Rose}
use Rattle.xod_base.specs.Rows.{RowsValue, no_rows}
use Rattle.xod_base.specs.Views.{Trees}
use Rattle.xod_env.specs.declared.error.EnvError.{EnvError}
use Rattle.xod_env.specs.declared.error.EnvError.TheVariants.{Broken, Device, Damaged, NumbersSpent, Memory}
use Rattle.xod_estxn.specs.Txns.{base_rows, txn_over}
use Rattle.xod_journal.specs.declared.change.RowChange.{RowChange}
use Rattle.xod_journal.specs.declared.journal.JournalEntry.{JournalEntry}
use Rattle.xod_journal.specs.Changes.{all_applied}
use Rattle.xod_journal.specs.Spaces.{HasReason, IsFault, IsTxn, SpaceView}
use Rattle.xod_journal.specs.Standing.{Newest, newest_after}
use Rattle.xod_journal.specs.Txns.{txn_at}
use Rattle.xod_tables.specs.Reading.{rows_of}
use Rattle.xod_store.specs.Causes.{cause_of}
use Rattle.xod_store.specs.Parts.{IsTold}
use Rattle.xod_store.specs.Pins.{HasEnvReason}

-- ---- transactions at the newest commit

module _ (start : Newest) (journal : List JournalEntry) (newest : Trees) (kinds : List (List ℕ)) (trees : Trees) (told : IsTold start journal newest kinds) (same : trees ≡ newest) where
  -- what its trees are the tables of
  pub sees-newest : base_rows trees ≡ (newest_after start journal).rows
  sees-newest = ap base_rows same ∙ ap (λ o. unwrap_or o no_rows) told.tables

  pub may-begin : (names : List (List ℕ)) → names ≡ kinds → option_map (λ (r : RowsValue). r.types) (rows_of trees) ≡ Some names
  may-begin names named =
      ap (λ t. option_map (λ (r : RowsValue). r.types) (rows_of t)) same ∙ ap (option_map (λ (r : RowsValue). r.types)) told.tables ∙ ap Some (sym (named ∙ told.kinds_are))

-- a transaction without changes at a commit
pub is-txn : (space : SpaceView) (tells : Bool) (mode mode2 : Mode) (base : ℕ) (trees : Trees) (own : List RowChange) (now : Newest) → mode ≡ mode2 → base ≡ now.commit → own ≡ []
    → (IsTrue space.tells → IsTrue tells) → (IsTrue space.tells → base_rows trees ≡ now.rows) → IsTxn space tells (txn_over mode base trees own) (txn_at mode2 now)
is-txn space tells mode mode2 base trees own now same at none tell rows = record {
  held = λ i. (record { mode = same i; base = at i }, none i);
  told = tell;
  all = λ told. λ i. record { mode = same i; base = at i; begun = rows told i; own = none i; rows = all_applied (rows told i) (none i) };
}

-- ---- refusals

-- a call that reads no record and needs no number
pub env-reason : (old : SpaceView) (rose spent : Type 0) (was_broken : Bool) (before now : ℕ) (error : EnvError) → HasEnvReason was_broken before now error → old.is_broken ≡ was_broken → (Rose before now → rose)
    → HasReason old rose spent (cause_of error)
env-reason old rose spent was_broken before now Broken why same up = same ∙ why
env-reason old rose spent was_broken before now Device why same up = (up why.0, same ∙ why.1)
env-reason old rose spent was_broken before now (Damaged place) why same up = absurd why
env-reason old rose spent was_broken before now (NumbersSpent last) why same up = absurd why
env-reason old rose spent was_broken before now Memory why same up = tt

-- after a commit
pub env-fault : (old new : SpaceView) (before now : ℕ) (error : EnvError) → HasEnvReason false before now error → (Rose before now → Rose old.faults new.faults) → IsFault old new (cause_of error)
env-fault old new before now Broken why up = absurd (apart why)
  where
    apart : false ≡ true → ⊥
    apart is = absurd (cc)
env-fault old new before now Device why up = up why.0
env-fault old new before now (Damaged place) why up = absurd why
env-fault old new before now (NumbersSpent last) why up = absurd why
env-fault old new before now Memory why up = tt
