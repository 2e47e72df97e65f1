-- The first pair is made: where the environment is then, and what is stored in each image on the way.
use Rattle.std.proofs.Common.{◌≡◌, ◌≤◌, ◌⊎◌, ℕ, true, false, List, [], ◌∷◌, length, Option, is_some, refl, sym, ◌∙◌, ap, subst, arith, inl, inr}
use Rattle.std.proofs.lemmas.Bool.{cases_eq, cases_lt}
use Rattle.std.specs.FinMap.{empty, entries, get, len-empty, len-entries}
use Rattle.std.specs.Ordering.{nat_cmp}
use Rattle.xod_base.specs.Rows.{no_rows}
use Rattle.xod_block.specs.declared.address.Address.{Address}
use Rattle.xod_block.specs.Records.{Fits, FitsRoot, Link}
use Rattle.xod_log.specs.Calls.{MakesPair}
use Rattle.xod_log.specs.Ends.{IsUsed, body_of, ends_of}
use Rattle.xod_log.specs.Standing.{IsDurablePair, IsSettled, Stands, empty_log, last_file}
use Rattle.xod_log.proofs.CallerLemmas.{weakened}
use Rattle.xod_recover.specs.Images.{Settled, Stores, UnusedFrom}
use Rattle.xod_recover.specs.Opened.{is_used}
use Rattle.xod_recover.specs.Stores.{Stored, stored_in}
use Rattle.xod_recover.proofs.CallerLemmas.{same_used}
use Rattle.xod_root.specs.Roots.{root_record}
use Rattle.xod_tables.specs.Reading.{rows_of}
use Rattle.xod_tables.proofs.CallerLemmas.{no_tables, rows_of_tables}
use Rattle.xod_volume.specs.Crash.{Passes}
use Rattle.xod_volume.specs.Files.{Files}
use Rattle.xod_volume.proofs.CallerLemmas.{same_files}
use Rattle.xod_env.specs.Envs.{IsAt, env_trees, no_roots}
use Rattle.xod_env.proofs.RestStores.{nothing-newest, unused-stores}
use Rattle.xod_env.proofs.UsedFiles.{used-false}

-- ---- no tree is listed

no-entries : (links : List Link) → length links ≡ 0 → links ≡ []
no-entries [] none = refl
no-entries (link ∷ links) none = absurd (omega (arith, none))

pub none-fits : Fits (root_record 0 no_roots)
none-fits =
    let none : entries (empty {X = Address} {R = nat_cmp}) ≡ [] = no-entries (entries (empty {X = Address} {R = nat_cmp})) (sym (len-entries (empty {X = Address} {R = nat_cmp})) ∙ len-empty nat_cmp Address) in
    subst (FitsRoot 0) (sym none) (record { commit_fits = omega arith; few = omega arith; each = tt; rising = refl })

-- ---- reads

module _ (was left : Files) (makes : MakesPair 0 was left) where
  pub made-above : UnusedFrom 1 was → UnusedFrom 1 left
  made-above unused other gt low = same_used left was other
      (makes.others (body_of other) (λ e. omega (arith, e, gt)) (λ e. omega (arith, e)))
      (makes.others (ends_of other) (λ e. omega (arith, e)) (λ e. omega (arith, e, gt))) ∙ unused other gt low

  first-unused : UnusedFrom 0 was → is_used left 0 ≡ false
  first-unused unused = elim makes.pair [
    | inl same ↦ same_used left was 0 same.body same.ends ∙ unused 0 (omega arith) (omega arith)
    | inr not_used ↦ used-false left 0 not_used
  ]

  pub made-unused : UnusedFrom 0 was → UnusedFrom 0 left
  made-unused unused other le low = elim (cases_lt 0 other) [
    | inl gt ↦ made-above (λ further further_gt further_low. unused further (omega arith) further_low) other gt low
    | inr zero ↦ let is : 0 ≡ other = omega (arith, zero) in subst (λ (k : ℕ). is_used left k ≡ false) is (first-unused unused)
  ]

  pub made-stores : UnusedFrom 1 was → (nothing_stored : Option Stored) → ((files : Files) → UnusedFrom 0 files → stored_in files ≡ nothing_stored) → (stored_in left ≡ stored_in was) ⊎ (stored_in left ≡ nothing_stored)
  made-stores unused nothing_stored stores = elim makes.pair [
    | inl same ↦ inl (ap stored_in (same_files left was (λ other. elim (cases_eq other (body_of 0)) [
      | inl is ↦ subst (λ (k : ℕ). get left k ≡ get was k) (sym is) same.body
      | inr not_body ↦ elim (cases_eq other (ends_of 0)) [
        | inl is ↦ subst (λ (k : ℕ). get left k ≡ get was k) (sym is) same.ends
        | inr not_ends ↦ makes.others other not_body not_ends
      ]
    ])))
    | inr not_used ↦ inr (stores left (λ other le low. elim (cases_lt 0 other) [
      | inl gt ↦ made-above unused other gt low
      | inr zero ↦ let is : 0 ≡ other = omega (arith, zero) in subst (λ (k : ℕ). is_used left k ≡ false) is (used-false left 0 not_used)
    ]))
  ]

pub all-unused : (files : Files) → ((file : ℕ) → file ≤ last_file → ¬ (IsUsed file files)) → UnusedFrom 0 files
all-unused files unused other le low = used-false files other (unused other low)

first-tables : (files : Files) → is_some (rows_of (env_trees 0 files no_roots)) ≡ true
first-tables files =
    let trees = env_trees 0 files no_roots in
    ap is_some (rows_of_tables trees no_rows (no_tables trees (λ tree. nothing-newest 0 files no_roots tree refl)))

pub first-at : (target : ℕ) (files : Files) (images : Files → Type 0) → UnusedFrom 0 files → Stands (empty_log 0 target) files images → IsAt (empty_log 0 target) no_roots 0 files images
first-at target files images unused stands = record {
  stands = stands;
  file_fits = omega arith;
  end_fits = omega arith;
  back_fits = omega arith;
  newest = record {
    no_commit = λ none. refl;
    no_roots = λ none. len-empty nat_cmp Address;
    within = omega arith;
    fits = none-fits;
    root = λ some. absurd (omega (arith, some));
  };
  maps = λ tree. ap is_some (nothing-newest 0 files no_roots tree refl);
  tables = first-tables files;
  first_file = λ none. refl;
  first_mark = λ none. refl;
  first_seal = λ none. refl;
  top = λ other gt low. unused other (omega arith) low;
  reaches = omega arith;
}

-- ---- what a crash may leave

module _ (t0 t1 : ℕ) (i0 i1 : ℕ → Files → Type 0) (passes : Passes t0 t1 i0 i1 (MakesPair 0)) (files : Files) (unused : UnusedFrom 0 files) (settled : Settled files (i0 t0)) where
  was-above : (was : Files) → i0 t0 was → UnusedFrom 1 was
  was-above was i = settled.above was i 1 (omega arith) (λ other le low. unused other (omega arith) low)

  pub since-made : Passes t0 t1 i0 i1 (Stores (stored_in files))
  since-made = weakened t0 t1 i0 i1 (MakesPair 0) (Stores (stored_in files)) passes
      (λ was left i makes. made-stores was left makes (was-above was i) (stored_in files) (λ other none. unused-stores other none ∙ sym (unused-stores files unused)))

  module _ (after : Files) (reads : MakesPair 0 files after) (durable : IsDurablePair 0 after (i1 t1)) (others : (other : ℕ) → IsSettled other files (i0 t0) → IsSettled other after (i1 t1))
      (first_unused : is_used after 0 ≡ false) where
    left-unused : (left : Files) → i1 t1 left → UnusedFrom 0 left
    left-unused left i other le low = elim (cases_lt 0 other) [
      | inl gt ↦ let from = passes.each t1 left passes.later (omega arith) i in made-above from.0 left from.2 (was-above from.0 from.1) other gt low
      | inr zero ↦
          let is : 0 ≡ other = omega (arith, zero) in
          subst (λ (k : ℕ). is_used left k ≡ false) is (same_used left after 0 (durable.body left i) (durable.ends left i) ∙ first_unused)
    ]

    pub made-settled : Settled after (i1 t1)
    made-settled = record {
      each_file = λ file. others file (settled.each_file file);
      alike = λ left i. unused-stores left (left-unused left i) ∙ sym (unused-stores after (made-unused files after reads unused));
      above = λ left i file some none other le low. left-unused left i other (omega arith) low;
    }
