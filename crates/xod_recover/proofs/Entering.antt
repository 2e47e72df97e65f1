-- What is bad under a record at an address that it names, by what was read there.
use Rattle.std.proofs.Common.{◌≡◌, ◌<◌, ◌^◌, ℕ, Bool, cond, List, Option, Some, None, refl, sym, ap, ◌∙◌, arith}
use Rattle.std.specs.Prelude.{IsSome}
use Rattle.std.proofs.lemmas.Nat.{div-mul-add}
use Rattle.std.specs.Option.{option_map}
use Rattle.xod_base.specs.declared.causes.Place.{Place}
use Rattle.xod_block.specs.declared.address.Address.{Address}
use Rattle.xod_block.specs.Addresses.{number_of}
use Rattle.xod_block.specs.Fetches.{place_of}
use Rattle.xod_block.specs.Maps.{RecordsAt}
use Rattle.xod_block.specs.Records.{Link, RecordValue}
use Rattle.xod_trie.specs.declared.branch.Branch.{Branch}
use Rattle.xod_trie.specs.Branches.{branch_of}
use Rattle.xod_recover.specs.Walks.{file_at, first_bad, bad_branch, bad_under}
use Rattle.xod_recover.specs.Frames.{StandInBodies, Enters, bad_below}
use Rattle.xod_recover.proofs.BadLemmas.{bad_under-below, bad_under-above, bad_under-absent}

-- the children of a branch, where there is one
abbrev children_of : Option Branch → Option (List Link)
children_of branch = option_map (λ b. b.children) branch

below-children : (bad : Address → Address → Option Place) (at : Address) (branch : Option Branch) (children : List Link) → Some children ≡ children_of branch → bad_branch bad at branch ≡ first_bad (bad at) children
below-children bad at None children e = absurd cc
below-children bad at (Some branch) children e = let same : children ≡ branch.children = cc e in ap (first_bad (bad at)) (sym same)

a_record : (item : Option RecordValue) (children : List Link) → Some children ≡ children_of (branch_of item) → IsSome item
a_record None children e = absurd cc
a_record (Some item) children e = refl

no_branch : (branch : Option Branch) → None ≡ children_of branch → branch ≡ None
no_branch None e = refl
no_branch (Some branch) e = absurd cc

clean-record : (bad : Address → Address → Option Place) (at : Address) (item : Option RecordValue) → bad_branch bad at (branch_of item) ≡ None → IsSome item
clean-record bad at None e = absurd cc
clean-record bad at (Some item) e = refl

module _ (records : RecordsAt) (has_body : ℕ → Bool) where
  pub enters : (naming at : Address) (children : List Link) → StandInBodies records has_body → at.at < 2 ^ 64 → number_of at < number_of naming → Some children ≡ option_map (λ b. b.children) (branch_of (records (number_of at))) → Enters records has_body naming at children
  enters naming at children stand fits lt is = record {
    under = bad_under-below records has_body naming at lt (stand at fits (a_record (records (number_of at)) children is));
    below = below-children (bad_under records has_body) at (branch_of (records (number_of at))) children is;
  }

  pub clean-under : (naming at : Address) → StandInBodies records has_body → at.at < 2 ^ 64 → number_of at < number_of naming → bad_below records has_body at ≡ None → bad_under records has_body naming at ≡ None
  clean-under naming at stand fits lt clean =
      bad_under-below records has_body naming at lt (stand at fits (clean-record (bad_under records has_body) at (records (number_of at)) clean)) ∙ clean

  -- the file of an address is that in which its number stands
  blamed_place : (naming at : Address) → at.at < 2 ^ 64 → cond (has_body at.file) (place_of at) (place_of naming) ≡ cond (has_body (file_at at)) (place_of at) (place_of naming)
  blamed_place naming at fits = ap (λ (file : ℕ). cond (has_body file) (place_of at) (place_of naming)) (sym (div-mul-add at.file (2 ^ 64) at.at fits))

  -- nothing was read there, or no branch
  pub blamed-absent : (naming at : Address) (place : Place) → at.at < 2 ^ 64 → number_of at < number_of naming → None ≡ option_map (λ b. b.children) (branch_of (records (number_of at))) → place ≡ cond (has_body at.file) (place_of at) (place_of naming) → bad_under records has_body naming at ≡ Some place
  blamed-absent naming at place fits lt none is = bad_under-absent records has_body naming at lt (no_branch (branch_of (records (number_of at))) none) ∙ ap (λ (p : Place). Some p) (sym (is ∙ blamed_place naming at fits))

  pub blamed-nothing : (naming at : Address) (place : Place) → at.at < 2 ^ 64 → number_of at < number_of naming → records (number_of at) ≡ None → place ≡ cond (has_body at.file) (place_of at) (place_of naming) → bad_under records has_body naming at ≡ Some place
  blamed-nothing naming at place fits lt none is = bad_under-absent records has_body naming at lt (ap branch_of none) ∙ ap (λ (p : Place). Some p) (sym (is ∙ blamed_place naming at fits))

  pub blamed-above : (naming at : Address) (place : Place) → (number_of at < number_of naming → ⊥) → place ≡ place_of naming → bad_under records has_body naming at ≡ Some place
  blamed-above naming at place not is = bad_under-above records has_body naming at (omega (arith, not)) ∙ ap (λ (p : Place). Some p) (sym is)
