-- What a transaction begins with, over the trees of an environment.
use Rattle.std.proofs.Common.{◌≡◌, ℕ, List, Bool, true, false, IsTrue, Option, Some, None, is_some, Result, Ok, Err, IfOk, IfSome, refl, sym, ap, subst, ◌∙◌}
use Rattle.std.proofs.lemmas.Bool.{true≢false}
use Rattle.std.specs.Option.{option_map, unwrap_or}
use Rattle.xod_base.specs.declared.answer.NameKind.TheVariants.{Kinds}
use Rattle.xod_base.specs.declared.causes.ReadError.{ReadError}
use Rattle.xod_base.specs.Rows.{RowsValue}
use Rattle.xod_base.specs.Views.{Trees}
use Rattle.xod_estxn.specs.Txns.{MayBegin}
use Rattle.xod_keys.specs.Readings.{names_at}
use Rattle.xod_range.specs.Reads.{Reads}
use Rattle.xod_readings.specs.Laws.{NamesOfRowsAreRead}
use Rattle.xod_tables.specs.Laws.{RowsAreReadExactly}
use Rattle.xod_tables.specs.Reading.{rows_of}
use Rattle.xod_tables.specs.Tables.{AreTables, names_tree}
use Rattle.xod_tables.specs.declared.trees.TheConstants.{NAMES}

-- ---- the names of the types

same : (kinds types : List (List ℕ)) → Some kinds ≡ Some types → kinds ≡ types
same kinds types is = ap (λ (o : Option (List (List ℕ))). unwrap_or o kinds) is

same_ok : (result : Result (List (List ℕ)) ReadError) (types : List (List ℕ)) (read : Option (List (List ℕ))) → read ≡ Some types
    → IfOk result (λ kinds. read ≡ Some kinds) → IfOk result (λ kinds. kinds ≡ types)
same_ok (Ok kinds) types read law is = same kinds types (sym is ∙ law)
same_ok (Err error) types read law is = tt

-- the names that are read in the tables of rows are those of its types
pub types-read : {tells : Bool} {trees : Trees} {result : Result (List (List ℕ)) ReadError} → NamesOfRowsAreRead → Reads tells (trees NAMES) (names_at Kinds) result
    → IsTrue tells → (rows : RowsValue) → AreTables trees rows → IfOk result (λ kinds. kinds ≡ rows.types)
types-read {result = result} law reads told rows are =
    same_ok result rows.types (names_at Kinds (names_tree rows)) ((law rows are.sound).all Kinds)
    (subst (λ o. IfSome o (λ map. IfOk result (λ kinds. names_at Kinds map ≡ Some kinds))) are.names (reads.value told))

-- ---- where a transaction begins

by-rows : (found : Option RowsValue) (kinds : List (List ℕ)) → is_some found ≡ true → ((rows : RowsValue) → found ≡ Some rows → kinds ≡ rows.types)
    → option_map (λ rows. rows.types) found ≡ Some kinds
by-rows None kinds some is = absurd (true≢false (sym some))
by-rows (Some rows) kinds some is = ap Some (sym (is rows refl))

-- A snapshot has the trees of an environment, which are the tables of some rows.
pub begun : {tells told now : Bool} {newest lent seen : Trees} (kinds : List (List ℕ)) → RowsAreReadExactly
    → told ≡ tells → now ≡ told → seen ≡ lent → (IsTrue tells → lent ≡ newest) → (IsTrue tells → is_some (rows_of newest) ≡ true)
    → (IsTrue told → (rows : RowsValue) → AreTables lent rows → kinds ≡ rows.types) → MayBegin now seen kinds
begun {tells} {told} {now} {newest} {lent} {seen} kinds exactly alike stays same_trees are_newest some is now_tells =
    let told_is : IsTrue told = subst IsTrue stays now_tells in
    let tells_is : IsTrue tells = subst IsTrue alike told_is in
    by-rows (rows_of seen) kinds (subst (λ trees. is_some (rows_of trees) ≡ true) (sym (same_trees ∙ are_newest tells_is)) (some tells_is))
    (λ rows found. is told_is rows (subst (λ trees. AreTables trees rows) same_trees ((exactly seen rows).0 found)))

-- an environment that answered is not broken
no-error : {A E : Type 0} (a : A) (e : E) → ◌≡◌ {A = Result A E} (Ok a) (Err e) → ⊥
no-error a e same = absurd cc

pub not-broken : {A E : Type 0} (a : A) (e : E) (broken : Bool) → (broken ≡ true → ◌≡◌ {A = Result A E} (Ok a) (Err e)) → broken ≡ false
not-broken a e true is = absurd (no-error a e (is refl))
not-broken a e false is = refl
