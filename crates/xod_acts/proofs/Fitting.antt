-- Plans that fit any trees: their keys and values are short, and there are writes exactly where there are changes.
use Rattle.std.proofs.Common.{◌≡◌, ℕ, ◌≤◌, Bool, true, false, cond, IsTrue, List, [], ◌∷◌, ◌++◌, map, length, Option, Some, None, Result, Ok, Err, IfOk, IfErr, refl, arith, length-append, leb-true}
use Rattle.std.proofs.lemmas.List.{length-map}
use Rattle.std.specs.Prelude.{◌&&◌, nat_le, nat_lt}
use Rattle.std.specs.List.{AllByRecursion}
use Rattle.xod_base.specs.declared.answer.NameKind.{NameKind}
use Rattle.xod_base.specs.declared.answer.StmtError.{StmtError}
use Rattle.xod_base.specs.declared.answer.StmtError.TheVariants.{TooMany}
use Rattle.xod_base.specs.declared.limits.TheConstants.{MOST_NAMES, LONGEST_NAME, LONGEST_TEXT}
use Rattle.xod_base.specs.declared.value.EntityId.{EntityId}
use Rattle.xod_base.specs.declared.value.Value.{Value}
use Rattle.xod_base.specs.declared.value.Value.TheVariants.{Flag, Int, Text}
use Rattle.xod_base.specs.Rows.{has_name_length, text_length}
use Rattle.xod_base.specs.Values.{folded, folded_byte, key_of}
use Rattle.xod_journal.specs.declared.change.RowChange.{RowChange}
use Rattle.xod_journal.specs.declared.change.RowChange.TheVariants.{AddEntity, RemoveEntity, Prop, LinkAdd, LinkDel}
use Rattle.xod_journal.specs.Changes.{option_text_length}
use Rattle.xod_journal.specs.Locals.{is_of_rows}
use Rattle.xod_overlay.specs.declared.write.Write.{Write}
use Rattle.xod_tables.specs.Keys.{index_key, stored, u32}
use Rattle.xod_tables.specs.Writes.{keys_of_option, name_writes, put, removed, value_writes}
use Rattle.xod_reader.specs.declared.slot.Slot.{Slot}
use Rattle.xod_reader.specs.declared.slot.Slot.TheVariants.{Listed, Free, Full}
use Rattle.xod_tables.specs.declared.trees.TheConstants.{INDEX}
use Rattle.xod_acts.specs.declared.plan.Plan.{Plan}
use Rattle.xod_acts.specs.Making.{no_plan, numbered_writes, with_all, with_change, with_name, with_named}
use Rattle.xod_acts.specs.Plans.{FitsWrite, IsPlan}

-- the writes of a plan fit
abbrev pub AllFit : List Write → Type 0
AllFit writes = AllByRecursion FitsWrite writes

pub fit_append : (first more : List Write) → AllFit first → AllFit more → AllFit (first ++ more)
fit_append [] more f m = m
fit_append (write ∷ first) more f m = (f.0, fit_append first more f.1 m)

-- ---- values

long_key : (value : Value) → text_length value ≤ 1024 → length (key_of value) ≤ 1030
long_key (Flag flag) h = omega arith
long_key (Int number) h = omega arith
long_key (Text text) h =
    let a = length-append (3 ∷ folded text) (0 ∷ []) in
    let b = length-map text folded_byte in
    omega (arith, a, b, h)

long_stored : (value : Value) → text_length value ≤ 1024 → length (stored value) ≤ 1030
long_stored (Flag flag) h = omega arith
long_stored (Int number) h = omega arith
long_stored (Text text) h = omega (arith, h)

fits_removals : (id : EntityId) (number : ℕ) (value : Option Value) → option_text_length value ≤ 1024
    → AllFit (map (λ key. removed INDEX (index_key id number key)) (keys_of_option value))
fits_removals id number None h = tt
fits_removals id number (Some value) h =
    let k = long_key value h in
    let a = length-append (key_of value) (u32 id.local) in
    (record { tree = (omega arith, omega arith); parts = (omega (arith, a, k), tt) }, tt)

fits_entries : (id : EntityId) (number : ℕ) (value : Option Value) → option_text_length value ≤ 1024
    → AllFit (map (λ key. put INDEX (index_key id number key) []) (keys_of_option value))
fits_entries id number None h = tt
fits_entries id number (Some value) h =
    let k = long_key value h in
    let a = length-append (key_of value) (u32 id.local) in
    (record { tree = (omega arith, omega arith); parts = (omega (arith, a, k), omega arith) }, tt)

fits_value : (id : EntityId) (number : ℕ) (old new : Option Value) → option_text_length old ≤ 1024 → option_text_length new ≤ 1024
    → AllFit (value_writes id number old new)
fits_value id number old None o n = (record { tree = (omega arith, omega arith); parts = (omega arith, tt) }, fit_append _ _ (fits_removals id number old o) tt)
fits_value id number old (Some new) o n =
    let k = long_stored new n in (
      record { tree = (omega arith, omega arith); parts = (omega arith, omega (arith, k)) },
      fit_append _ _ (fits_removals id number old o)
          (fits_entries id number (Some new) n),
    )

-- ---- changes

-- no text of a change is longer than the limit
abbrev pub IsShortChange : RowChange → Type 0
IsShortChange (AddEntity id kind) = Unit {0}
IsShortChange (RemoveEntity id) = Unit {0}
IsShortChange (Prop id name old new) = (option_text_length old ≤ LONGEST_TEXT) × (option_text_length new ≤ LONGEST_TEXT)
IsShortChange (LinkAdd source link target) = Unit {0}
IsShortChange (LinkDel source link target) = Unit {0}

fits_numbered : (number : ℕ) (change : RowChange) → IsShortChange change → AllFit (numbered_writes number change)
fits_numbered number (AddEntity id kind) h = (
  record { tree = (omega arith, omega arith); parts = (omega arith, omega arith) },
  (record { tree = (omega arith, omega arith); parts = (omega arith, omega arith) }, tt),
)
fits_numbered number (RemoveEntity id) h = (record { tree = (omega arith, omega arith); parts = (omega arith, tt) }, tt)
fits_numbered number (Prop id name old new) h = fits_value id number old new h.0 h.1
fits_numbered number (LinkAdd source link target) h = (
  record { tree = (omega arith, omega arith); parts = (omega arith, omega arith) },
  (record { tree = (omega arith, omega arith); parts = (omega arith, omega arith) }, tt),
)
fits_numbered number (LinkDel source link target) h =
    (record { tree = (omega arith, omega arith); parts = (omega arith, tt) }, (record { tree = (omega arith, omega arith); parts = (omega arith, tt) }, tt))

not_empty : {A : Type 0} (xs : List A) (y : A) (ys : List A) → xs ++ y ∷ ys ≡ [] → ⊥
not_empty [] y ys e = cc
not_empty (x ∷ xs) y ys e = cc

some_writes : (writes : List Write) (number : ℕ) (change : RowChange) → writes ++ numbered_writes number change ≡ [] → ⊥
some_writes writes number (AddEntity id kind) = not_empty writes _ _
some_writes writes number (RemoveEntity id) = not_empty writes _ _
some_writes writes number (Prop id name old new) = not_empty writes _ _
some_writes writes number (LinkAdd source link target) = not_empty writes _ _
some_writes writes number (LinkDel source link target) = not_empty writes _ _

pub plan_none : IsPlan no_plan
plan_none = record { fit = tt; alike = (λ e. refl, λ e. refl) }

-- a plan with a change more
pub plan_with : (number : ℕ) (change : RowChange) (plan : Plan) → AllFit plan.writes → IsShortChange change → IsPlan (with_change number change plan)
plan_with number change plan f s = record {
  fit = fit_append plan.writes (numbered_writes number change) f (fits_numbered number change s);
  alike = (λ e. absurd (not_empty plan.changes change [] e), λ e. absurd (some_writes plan.writes number change e));
}

pub plan_all : {A : Type 0} (number : A → ℕ) (change : A → RowChange) (items : List A) (plan : Plan) → IsPlan plan
    → AllByRecursion (λ item. IsShortChange (change item)) items → IsPlan (with_all number change items plan)
plan_all number change [] plan p s = p
plan_all number change (item ∷ items) plan p s = plan_all number change items (with_change (number item) (change item) plan)
    (plan_with (number item) (change item) plan p.fit s.0) s.1

-- ---- what may be answered

-- a plan that fits, or a refusal that rows give
pub record Ready (made : Result Plan StmtError) : Type 0 where
  pub plan : IfOk made IsPlan
  pub refusal : IfErr made (λ error. IsTrue (is_of_rows error))

pub ready_plan : (plan : Plan) → IsPlan plan → Ready (Ok plan)
ready_plan plan p = record { plan = p; refusal = tt }

pub ready_refused : (error : StmtError) → IsTrue (is_of_rows error) → Ready (Err error)
ready_refused error r = record { plan = tt; refusal = r }

pub ready_if : (b : Bool) {m n : Result Plan StmtError} → Ready m → Ready n → Ready (cond b m n)
ready_if true p q = p
ready_if false p q = q

two : (a b : Bool) → (a && b) ≡ true → (a ≡ true) × (b ≡ true)
two true b h = (refl, h)
two false b h = cc

fits_name : (list : NameKind) (number : ℕ) (name : List ℕ) → IsTrue (has_name_length name) → AllFit (name_writes list number name)
fits_name list number name h =
    let k : length name ≤ LONGEST_NAME = leb-true (length name) LONGEST_NAME (two (nat_lt 0 (length name)) (nat_le (length name) LONGEST_NAME) h).1 in (
      record { tree = (omega arith, omega arith); parts = (omega arith, omega (arith, k)) },
      (record { tree = (omega arith, omega arith); parts = (omega (arith, k), omega arith) }, tt),
    )

pub ready_named : (list : NameKind) (name : List ℕ) (slot : Slot) (change : RowChange) (plan : Plan) → IsTrue (has_name_length name)
    → IsShortChange change → IsPlan plan → Ready (with_named list name slot change plan)
ready_named list name (Listed number) change plan n s p = ready_plan _ (plan_with number change plan p.fit s)
ready_named list name (Free number) change plan n s p =
    ready_plan _ (plan_with number change (with_name list number name plan)
    (fit_append plan.writes (name_writes list number name) p.fit (fits_name list number name n)) s)
ready_named list name Full change plan n s p = ready_refused (TooMany list MOST_NAMES) refl
