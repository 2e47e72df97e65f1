-- What an audit of a lease says of the trees that a root names.
use Rattle.std.proofs.Common.{◌≡◌, ◌-◌, ◌/◌, ◌%◌, ◌^◌, ◌&&◌, ℕ, suc, Bool, true, false, cond, eqb, leb, List, [], ◌∷◌, length, Option, Some, None, Result, Ok, Err, refl, sym, ap, ◌∙◌, subst, arith}
use Rattle.std.specs.Prelude.{IfOk, IsSome, IsTrue}
use Rattle.std.specs.FinMap.{entries, find, get, get-entries}
use Rattle.std.specs.Option.{option_map}
use Rattle.std.specs.Ordering.{eq_by_cmp, nat_cmp}
use Rattle.std.proofs.Math.Path.{fun_ext}
use Rattle.std.proofs.lemmas.Result.{IfOk-weaker}
use Rattle.std.proofs.lemmas.Bool.Decides.{nat_tests}
use Rattle.xod_base.specs.declared.causes.Place.{Place}
use Rattle.xod_base.specs.declared.causes.ReadError.{ReadError}
use Rattle.xod_base.specs.declared.causes.ReadError.TheVariants.{Damaged, Device, Memory}
use Rattle.xod_base.specs.Rows.{RowsValue}
use Rattle.xod_base.specs.Views.{CountsFaults, Trees}
use Rattle.xod_volume.specs.Files.{Files}
use Rattle.xod_block.specs.declared.address.Address.{Address}
use Rattle.xod_block.specs.Addresses.{number_of}
use Rattle.xod_block.specs.Bodies.{records_of}
use Rattle.xod_block.specs.Maps.{RecordsAt}
use Rattle.xod_block.specs.Records.{Link, RecordValue, spelling}
use Rattle.xod_pages.specs.Lent.{lent_bodies}
use Rattle.xod_root.specs.Roots.{Roots}
use Rattle.xod_snapshot.specs.Snapshots.{snapshot_trees}
use Rattle.xod_tables.specs.declared.trees.TheConstants.{NAMES, NUMBERS, NEXT, ENTITIES, PROPERTIES, INDEX, LINKS, BACK}
use Rattle.xod_tables.specs.Reading.{rows_of}
use Rattle.xod_trie.specs.Tries.{trie_map}
use Rattle.xod_audit.specs.Audits.{Audits, kinds_of}
use Rattle.xod_audit.specs.Tests.{are_there}
use Rattle.xod_recover.specs.Check.{Newest, check_root, check_tables, check_trees, has_body, no_newest, records_upto, root_address, root_of, trees_under}
use Rattle.xod_recover.specs.Cuts.{ended_by, fitting, lent_upto}
use Rattle.xod_recover.specs.Steps.{kinds_audited, kinds_or_bad, kinds_reached, kinds_upto, trees_named}
use Rattle.xod_recover.specs.Walks.{bad_trees}
use Rattle.xod_recover.proofs.KeptRoots.{map-kept, whole-roots}
use Rattle.xod_recover.proofs.Storing.{empty-rows, tree-map, whole-maps}
use Rattle.xod_recover.proofs.Wholes.{trees-whole}

-- ---- the roots of trees, as a list and as a map

same_test : (q y : ℕ) → eqb y q ≡ eq_by_cmp nat_cmp q y
same_test q y = grind (arith, nat_tests)

root-find : (trees : List Link) (tree : ℕ) → root_of trees tree ≡ find nat_cmp tree trees
root-find [] tree = refl
root-find (link ∷ trees) tree =
    ap (λ (o : Option Address). cond (eqb link.0 tree) (Some link.1) o) (root-find trees tree)
    ∙ ap (λ (b : Bool). cond b (Some link.1) (find nat_cmp tree trees)) (same_test tree link.0)

pub root-get : (roots : Roots) (tree : ℕ) → root_of (entries roots) tree ≡ get roots tree
root-get roots tree = root-find (entries roots) tree ∙ sym (get-entries roots tree)

-- ---- the trees of a snapshot are those that the root names

fits : (room : ℕ) (o : Option RecordValue) (item : RecordValue) → fitting room o ≡ Some item → o ≡ Some item
fits room None item e = absurd cc
fits room (Some other) item e = chosen (leb (length (spelling other)) room) e
  where
    chosen : (b : Bool) → cond b (Some other) None ≡ Some item → Some other ≡ Some item
    chosen true is = is
    chosen false is = absurd cc

ended : (records : RecordsAt) (file end number : ℕ) (item : RecordValue) → ended_by records file end number ≡ Some item → records number ≡ Some item
ended records file end number item e = either (eqb (number / 2 ^ 64) file) e
  where
    either : (own : Bool) → cond own (fitting (end - number % 2 ^ 64) (records number)) (records number) ≡ Some item → records number ≡ Some item
    either true is = fits (end - number % 2 ^ 64) (records number) item is
    either false is = is

module _ (lent : Files) (has : ℕ → Bool) (root : Address) (end : ℕ) (roots : Roots) (none : bad_trees (lent_upto lent root.file end) has root (entries roots) ≡ None) where
  abbrev sealed : RecordsAt
  sealed = lent_upto lent root.file end

  pub snapshot-named : snapshot_trees lent roots ≡ trees_named sealed (entries roots)
  snapshot-named = fun_ext (λ tree.
      ap (trie_map (records_of (lent_bodies lent))) (sym (root-get roots tree))
      ∙ map-kept sealed (records_of (lent_bodies lent)) has has (number_of root) (λ number item lt is. ended (records_of (lent_bodies lent)) root.file end number item is) (λ at lt is. is)
      (root_of (entries roots) tree) (whole-roots sealed has root (entries roots) (trees-whole sealed has root (entries roots) none) tree))

  each-there : (tree : ℕ) → IsSome (snapshot_trees lent roots tree)
  each-there tree = subst (λ (t : Trees). IsSome (t tree)) (sym snapshot-named) (tree-map sealed (entries roots) tree (whole-maps sealed has root (entries roots) (trees-whole sealed has root (entries roots) none)))

  pub snapshot-there : IsTrue (are_there (snapshot_trees lent roots))
  snapshot-there = λ i. each-there NAMES i && each-there NUMBERS i && each-there NEXT i && each-there ENTITIES i && each-there PROPERTIES i && each-there INDEX i && each-there LINKS i && each-there BACK i

  -- so what is found of these is what is found of the root
  pub kinds-named : kinds_reached sealed has root (entries roots) ≡ kinds_or_bad root None (kinds_of (snapshot_trees lent roots))
  kinds-named =
      ap (λ (bad : Option Place). kinds_or_bad root bad (kinds_of (trees_named sealed (entries roots)))) none
      ∙ sym (ap (λ (t : Trees). kinds_or_bad root None (kinds_of t)) snapshot-named)

-- ---- an audit of the trees of a root

-- the names of the types of rows
abbrev types_of : Option RowsValue → Option (List (List ℕ))
types_of = option_map (λ rows. rows.types)

module _ (tells : Bool) (trees : Trees) (root : Address) where
  pub audited-kinds : (audited : Result (Option (List (List ℕ))) ReadError) → Audits tells trees audited → IsTrue tells → IsTrue (are_there trees)
      → IfOk (kinds_audited root audited) (λ kinds. kinds_or_bad root None (kinds_of trees) ≡ Ok kinds)
  audited-kinds (Ok (Some kinds)) is told there = sym (ap (kinds_or_bad root None) (is.names told there))
  audited-kinds (Ok None) is told there = tt
  audited-kinds (Err (Damaged place)) is told there = tt
  audited-kinds (Err Device) is told there = tt
  audited-kinds (Err Memory) is told there = tt

  pub audited-damaged : (audited : Result (Option (List (List ℕ))) ReadError) → Audits tells trees audited → IsTrue tells → IsTrue (are_there trees)
      → (place : Place) → kinds_audited root audited ≡ Err (Damaged place) → kinds_or_bad root None (kinds_of trees) ≡ Err place
  audited-damaged (Ok (Some kinds)) is told there place e = absurd cc
  audited-damaged (Ok None) is told there place e = sym (ap (kinds_or_bad root None) (is.names told there)) ∙ cc e
  audited-damaged (Err (Damaged other)) is told there place e = ap (λ (o : Option RowsValue). kinds_or_bad root None (types_of o)) (is.damaged told other refl) ∙ cc e
  audited-damaged (Err Device) is told there place e = absurd cc
  audited-damaged (Err Memory) is told there place e = absurd cc

pub audited-counts : (root : Address) (audited : Result (Option (List (List ℕ))) ReadError) (before now : ℕ) → CountsFaults before now audited → CountsFaults before now (kinds_audited root audited)
audited-counts root (Ok (Some kinds)) before now is = record { device = λ e. absurd cc; memory = λ e. absurd cc; ok = is.ok }
audited-counts root (Ok None) before now is = record { device = λ e. absurd cc; memory = λ e. absurd cc; ok = tt }
audited-counts root (Err (Damaged place)) before now is = record { device = λ e. absurd cc; memory = λ e. absurd cc; ok = tt }
audited-counts root (Err Device) before now is = record { device = λ e. is.device refl; memory = λ e. absurd cc; ok = tt }
audited-counts root (Err Memory) before now is = record { device = λ e. absurd cc; memory = λ e. is.memory refl; ok = tt }

-- ---- a walk that found nothing bad, and then an audit

module _ (lent later : Files) (has : ℕ → Bool) (root : Address) (end : ℕ) (roots : Roots) (same : later ≡ lent)
    (none : bad_trees (lent_upto lent root.file end) has root (entries roots) ≡ None) (tells : Bool) (told : IsTrue tells)
    (audited : Result (Option (List (List ℕ))) ReadError) (audits : Audits tells (snapshot_trees later roots) audited) (result : Result (List (List ℕ)) ReadError) (is : result ≡ kinds_audited root audited) where
  here : Audits tells (snapshot_trees lent roots) audited
  here = subst (λ (f : Files). Audits tells (snapshot_trees f roots) audited) same audits

  pub judged-kinds : IfOk result (λ kinds. kinds_reached (lent_upto lent root.file end) has root (entries roots) ≡ Ok kinds)
  judged-kinds = subst (λ (r : Result (List (List ℕ)) ReadError). IfOk r (λ kinds. kinds_reached (lent_upto lent root.file end) has root (entries roots) ≡ Ok kinds)) (sym is)
      (IfOk-weaker (kinds_audited root audited) _ _ (λ kinds e. kinds-named lent has root end roots none ∙ e)
      (audited-kinds tells (snapshot_trees lent roots) root audited here told (snapshot-there lent has root end roots none)))

  pub judged-damaged : (place : Place) → result ≡ Err (Damaged place) → kinds_reached (lent_upto lent root.file end) has root (entries roots) ≡ Err place
  judged-damaged place e =
      kinds-named lent has root end roots none
      ∙ audited-damaged tells (snapshot_trees lent roots) root audited here told (snapshot-there lent has root end roots none) place (sym is ∙ e)

pub judged-counts : (root : Address) (audited : Result (Option (List (List ℕ))) ReadError) (result : Result (List (List ℕ)) ReadError) (before mid now : ℕ) → mid ≡ before → CountsFaults mid now audited → result ≡ kinds_audited root audited
    → CountsFaults before now result
judged-counts root audited result before mid now same counts is =
    subst (λ (r : Result (List (List ℕ)) ReadError). CountsFaults before now r) (sym is)
    (subst (λ (n : ℕ). CountsFaults n now (kinds_audited root audited)) same (audited-counts root audited mid now counts))

-- ---- and the check

tables-kinds : (newest : Newest) (root : Address) (rows : Option RowsValue) (kinds : List (List ℕ)) → kinds_or_bad root None (types_of rows) ≡ Ok kinds
    → (check_tables newest rows ≡ Ok newest) × (types_of rows ≡ Some kinds)
tables-kinds newest root None kinds e = absurd cc
tables-kinds newest root (Some rows) kinds e = (refl, cc e)

reached-kinds : (files : Files) (newest : Newest) (root : Address) (bad : Option Place) (kinds : List (List ℕ)) → kinds_or_bad root bad (kinds_of (trees_under files newest)) ≡ Ok kinds
    → (check_trees files newest bad ≡ Ok newest) × (kinds_of (trees_under files newest) ≡ Some kinds)
reached-kinds files newest root (Some place) kinds e = absurd cc
reached-kinds files newest root None kinds e = tables-kinds newest root (rows_of (trees_under files newest)) kinds e

module _ (files : Files) (file mark end back start marks commit : ℕ) (trees : List Link) (start_is : start ≡ end - back) where
  abbrev named : ℕ → Newest
  named number = record { file = file; marks = number; end = end; back = back; commit = commit; trees = trees }

  abbrev bad : Option Place
  bad = bad_trees (records_upto files file end) (has_body files) (root_address file end back) trees

  abbrev from_start : ℕ → Result (List (List ℕ)) Place
  from_start number = kinds_upto files (record { file = file; at = number }) end trees

  -- where rows are found, the root passes
  pub root-kinds : (kinds : List (List ℕ)) → marks ≡ suc mark → from_start start ≡ Ok kinds
      → (check_root files file mark end back (Some (commit, trees)) ≡ Ok (named marks)) × (kinds_of (trees_under files (named marks)) ≡ Some kinds)
  root-kinds kinds marks_is e =
      let is = reached-kinds files (named (suc mark)) (root_address file end back) bad kinds (sym (ap from_start start_is) ∙ e) in
      (is.0 ∙ sym (ap (λ (number : ℕ). Ok (named number)) marks_is), is.1)

-- an empty store has no type
pub empty-kinds : (files : Files) (newest : Newest) (kinds : List (List ℕ)) → newest ≡ no_newest → kinds ≡ [] → kinds_of (trees_under files newest) ≡ Some kinds
empty-kinds files newest kinds is none = ap (λ (n : Newest). kinds_of (trees_under files n)) is ∙ ap types_of (empty-rows files) ∙ ap (λ (l : List (List ℕ)). Some l) (sym none)
