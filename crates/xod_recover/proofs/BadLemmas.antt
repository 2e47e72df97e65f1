-- The first bad place under a record by those of its children.
use Rattle.std.proofs.Common.{◌≡◌, ◌<◌, ◌≤◌, ℕ, zero, suc, Bool, true, false, ◌&&◌, cond, ltb, List, [], ◌∷◌, Option, Some, None, refl, sym, ap, ◌∙◌, arith, inl, inr, ◌*◌, ◌^◌}
use Rattle.std.proofs.lemmas.Bool.{cases_lt, le-ltb, lt-ltb}
use Rattle.xod_base.specs.declared.causes.Place.{Place}
use Rattle.xod_block.specs.declared.address.Address.{Address}
use Rattle.xod_block.specs.Addresses.{number_of}
use Rattle.xod_block.specs.Fetches.{place_of}
use Rattle.xod_block.specs.Maps.{RecordsAt}
use Rattle.xod_block.specs.Records.{Link, RecordValue}
use Rattle.xod_trie.specs.declared.branch.Branch.{Branch}
use Rattle.xod_trie.specs.Branches.{branch_of}
use Rattle.xod_recover.specs.Walks.{file_at, or_else, first_bad, bad_branch, bad_within, bad_under, bad_trees}
use Rattle.xod_recover.specs.Frames.{bad_below}

first_bad-same : (f g : Address → Option Place) → ((child : Address) → f child ≡ g child) → (children : List Link) → first_bad f children ≡ first_bad g children
first_bad-same f g same [] = refl
first_bad-same f g same (child ∷ children) =
    ap (λ (o : Option Place). or_else o (first_bad f children)) (same child.1)
    ∙ ap (or_else (g child.1)) (first_bad-same f g same children)

bad_branch-same : (f g : Address → Address → Option Place) (at : Address) → ((child : Address) → f at child ≡ g at child) → (branch : Option Branch) → bad_branch f at branch ≡ bad_branch g at branch
bad_branch-same f g at same None = refl
bad_branch-same f g at same (Some branch) = first_bad-same (f at) (g at) same branch.children

-- the test decides, and only where an address is below does it matter what is there
below_alike : (at naming : Address) (has : Bool) (x y other : Option Place) → (number_of at < number_of naming → x ≡ y)
    → cond (ltb (number_of at) (number_of naming) && has) x other ≡ cond (ltb (number_of at) (number_of naming) && has) y other
below_alike at naming has x y other same = elim (cases_lt (number_of at) (number_of naming)) [
  | inl lt ↦ ap (λ (o : Option Place). cond (ltb (number_of at) (number_of naming) && has) o other) (same lt)
  | inr ge ↦
      let not_below : ltb (number_of at) (number_of naming) ≡ false = le-ltb (number_of at) (number_of naming) ge in
      ap (λ (b : Bool). cond (b && has) x other) not_below ∙ sym (ap (λ (b : Bool). cond (b && has) y other) not_below)
]

module _ (records : RecordsAt) (has_body : ℕ → Bool) where
  -- any bound above the naming address will do
  bad_within-same : (m n : ℕ) (naming at : Address) → number_of naming < m → number_of naming < n → bad_within m records has_body naming at ≡ bad_within n records has_body naming at
  bad_within-same zero n naming at lm ln = absurd (omega (arith, lm))
  bad_within-same (suc m) zero naming at lm ln = absurd (omega (arith, ln))
  bad_within-same (suc m) (suc n) naming at lm ln =
      below_alike at naming (has_body (file_at at)) _ _ (Some (place_of naming)) (λ lt.
      bad_branch-same (bad_within m records has_body) (bad_within n records has_body) at (λ child. bad_within-same m n at child (omega (arith, lt, lm)) (omega (arith, lt, ln))) (branch_of (records (number_of at))))

  pub bad_under-step : (naming at : Address) → bad_under records has_body naming at ≡ cond (ltb (number_of at) (number_of naming) && has_body (file_at at)) (bad_below records has_body at) (Some (place_of naming))
  unfolding bad_under
  bad_under-step naming at =
      below_alike at naming (has_body (file_at at)) _ _ (Some (place_of naming)) (λ lt.
      bad_branch-same (bad_within (number_of naming) records has_body) (λ naming at. bad_within (suc (number_of naming)) records has_body naming at) at (λ child. bad_within-same (number_of naming) (suc (number_of at)) at child lt (omega arith)) (branch_of (records (number_of at))))

  -- what stands below, in a file that has a body
  pub bad_under-below : (naming at : Address) → number_of at < number_of naming → has_body (file_at at) ≡ true → bad_under records has_body naming at ≡ bad_below records has_body at
  bad_under-below naming at lt has =
      bad_under-step naming at
      ∙ ap (λ (b : Bool). cond (b && has_body (file_at at)) (bad_below records has_body at) (Some (place_of naming))) (lt-ltb _ _ lt)
      ∙ ap (λ (b : Bool). cond b (bad_below records has_body at) (Some (place_of naming))) has

  -- what does not
  pub bad_under-above : (naming at : Address) → number_of naming ≤ number_of at → bad_under records has_body naming at ≡ Some (place_of naming)
  bad_under-above naming at le =
      bad_under-step naming at
      ∙ ap (λ (b : Bool). cond (b && has_body (file_at at)) (bad_below records has_body at) (Some (place_of naming))) (le-ltb _ _ le)

  -- what no record stands at
  pub bad_under-absent : (naming at : Address) → number_of at < number_of naming → branch_of (records (number_of at)) ≡ None → bad_under records has_body naming at ≡ Some (cond (has_body (file_at at)) (place_of at) (place_of naming))
  bad_under-absent naming at lt none =
      bad_under-step naming at
      ∙ ap (λ (b : Bool). cond (b && has_body (file_at at)) (bad_below records has_body at) (Some (place_of naming))) (lt-ltb _ _ lt)
      ∙ ap (λ (o : Option Branch). cond (has_body (file_at at)) (bad_branch (bad_under records has_body) at o) (Some (place_of naming))) none
      ∙ either (has_body (file_at at)) (place_of at) (place_of naming)
    where
      either : (b : Bool) (x y : Place) → cond b (Some x) (Some y) ≡ Some (cond b x y)
      either true x y = refl
      either false x y = refl

-- ---- what a walk looks at: records below the one that names, and log files that are not above it

-- two sources of records and bodies that agree so far
pub record Agree (s t : RecordsAt) (h k : ℕ → Bool) (number : ℕ) : Type 0 where
  pub records : (at : ℕ) → at < number → s at ≡ t at
  pub bodies : (file : ℕ) → file * 2 ^ 64 ≤ number → h file ≡ k file

agree-below : (s t : RecordsAt) (h k : ℕ → Bool) (number lower : ℕ) → lower < number → Agree s t h k number → Agree s t h k lower
agree-below s t h k number lower lt a = record {
  records = λ at below. a.records at (omega (arith, lt, below));
  bodies = λ file le. a.bodies file (omega (arith, lt, le));
}

module _ (s t : RecordsAt) (h k : ℕ → Bool) where
  bad_within-agree : (depth : ℕ) (naming at : Address) → Agree s t h k (number_of naming) → bad_within depth s h naming at ≡ bad_within depth t k naming at
  bad_within-agree zero naming at a = refl
  bad_within-agree (suc depth) naming at a = elim (cases_lt (number_of at) (number_of naming)) [
    | inl lt ↦
        let body : h (file_at at) ≡ k (file_at at) = a.bodies (file_at at) (omega (arith, lt)) in
        ap (λ (b : Bool). cond (ltb (number_of at) (number_of naming) && b) (bad_branch (bad_within depth s h) at (branch_of (s (number_of at)))) (Some (place_of naming))) body
        ∙ ap (λ (o : Option Place). cond (ltb (number_of at) (number_of naming) && k (file_at at)) o (Some (place_of naming)))
        (bad_branch-same (bad_within depth s h) (bad_within depth t k) at (λ child. bad_within-agree depth at child (agree-below s t h k (number_of naming) (number_of at) lt a)) (branch_of (s (number_of at)))
        ∙ ap (λ (r : Option RecordValue). bad_branch (bad_within depth t k) at (branch_of r)) (a.records (number_of at) lt))
    | inr ge ↦
        let not_below : ltb (number_of at) (number_of naming) ≡ false = le-ltb (number_of at) (number_of naming) ge in
        ap (λ (b : Bool). cond (b && h (file_at at)) (bad_branch (bad_within depth s h) at (branch_of (s (number_of at)))) (Some (place_of naming))) not_below
        ∙ sym (ap (λ (b : Bool). cond (b && k (file_at at)) (bad_branch (bad_within depth t k) at (branch_of (t (number_of at)))) (Some (place_of naming))) not_below)
  ]

  pub bad_trees-agree : (root : Address) (trees : List Link) → Agree s t h k (number_of root) → bad_trees s h root trees ≡ bad_trees t k root trees
  unfolding bad_under
  bad_trees-agree root trees a = first_bad-same (bad_under s h root) (bad_under t k root) (λ child. bad_within-agree (suc (number_of root)) root child a) trees
