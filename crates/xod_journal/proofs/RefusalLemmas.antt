-- What rows refuse: neither the mode, nor the outside, nor memory.
use Rattle.std.proofs.Common.{◌≡◌, ℕ, Bool, true, false, cond, List, [], refl, sym, ap, ◌∙◌, rules}
use Rattle.std.specs.Prelude.{Result, Ok, Err}
use Rattle.xod_base.specs.declared.answer.StmtError.{StmtError}
use Rattle.xod_base.specs.declared.query.Act.{Act}
use Rattle.xod_base.specs.declared.query.Act.TheVariants as act
use Rattle.xod_base.specs.declared.value.EntityId.{EntityId}
use Rattle.xod_base.specs.Rows.{RowsValue}
use Rattle.xod_journal.specs.declared.change.RowChange.{RowChange}
use Rattle.xod_journal.specs.Changes.{between, expansion_of, link_behind, others_of, targets_gone}
use Rattle.xod_journal.specs.Locals.{is_of_rows}
use Rattle.xod_journal.specs.Shows.{shown_of}

abbrev by_rows : {A : Type 0} → Result A StmtError → Bool
by_rows (Ok answer) = true
by_rows (Err error) = is_of_rows error

-- an answer, or a refusal that rows give
record Given {A : Type 0} (result : Result A StmtError) : Type 0 where
  is : by_rows result ≡ true

either : {A : Type 0} (b : Bool) {x y : Result A StmtError} → Given x → Given y → Given (cond b x y)
either true p q = p
either false p q = q

answered : {A : Type 0} (answer : A) → Given (Ok answer)
answered answer = record { is = refl }

refused : {A : Type 0} (error : StmtError) → is_of_rows error ≡ true → Given {A = A} (Err error)
refused error is = record { is = is }

joined : (rows : RowsValue) (source target : EntityId) (link : List ℕ) (before : List RowChange) → Given (between rows source target (link_behind rows source link target before))
joined rows source target link before = search (rules, either, answered, refused) depth 9

expanded : (rows : RowsValue) (asked : Act) → Given (expansion_of rows asked)
expanded rows (act.New kind) = search (rules, either, answered, refused) depth 9
expanded rows (act.Delete id) = search (rules, either, answered, refused) depth 9
expanded rows (act.Set id prop value) = search (rules, either, answered, refused) depth 9
expanded rows (act.Unset id prop) = search (rules, either, answered, refused) depth 9
expanded rows (act.Link source link target) = joined rows source target link []
expanded rows (act.SetLink source link target) = joined rows source target link (targets_gone source link (others_of rows source link target))
expanded rows (act.Unlink source link target) = search (rules, either, answered, refused) depth 9
expanded rows (act.UnlinkAll source link) = search (rules, either, answered, refused) depth 9

shown : (rows : RowsValue) (id : EntityId) → Given (shown_of rows id)
shown rows id = search (rules, either, answered, refused) depth 9

-- the refusal of an act
pub expansion-refusal : (rows : RowsValue) (asked : Act) (error : StmtError) → expansion_of rows asked ≡ Err error → is_of_rows error ≡ true
expansion-refusal rows asked error is = sym (ap by_rows is) ∙ (expanded rows asked).is

-- the refusal of what is shown
pub shown-refusal : (rows : RowsValue) (id : EntityId) (error : StmtError) → shown_of rows id ≡ Err error → is_of_rows error ≡ true
shown-refusal rows id error is = sym (ap by_rows is) ∙ (shown rows id).is
