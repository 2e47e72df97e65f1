-- A walk finds nothing bad exactly in what is whole.
use Rattle.std.proofs.Common.{◌≡◌, ◌<◌, ℕ, zero, suc, Bool, true, false, ◌&&◌, cond, ltb, List, [], ◌∷◌, Option, Some, None, slice_get, refl, sym, ap, ◌∙◌, subst, arith}
use Rattle.std.specs.Prelude.{IsSome}
use Rattle.std.specs.List.{AllByRecursion}
use Rattle.std.proofs.lemmas.Bool.{and_parts, ltb-true}
use Rattle.xod_base.specs.declared.causes.Place.{Place}
use Rattle.xod_block.specs.declared.address.Address.{Address}
use Rattle.xod_block.specs.Addresses.{number_of}
use Rattle.xod_block.specs.Fetches.{place_of}
use Rattle.xod_block.specs.Maps.{RecordsAt, map_at}
use Rattle.xod_block.specs.Records.{Link}
use Rattle.xod_trie.specs.declared.branch.Branch.{Branch}
use Rattle.xod_trie.specs.Branches.{HasChild, branch_of}
use Rattle.xod_trie.specs.Damage.{Names, IsReached, AtRoot, Below}
use Rattle.xod_trie.proofs.CallerLemmas.{map-up, named-has, no_branch-map}
use Rattle.xod_recover.specs.Frames.{bad_below}
use Rattle.xod_recover.specs.Walks.{file_at, or_else, first_bad, bad_branch, bad_under}
use Rattle.xod_recover.specs.Whole.{IsWhole}
use Rattle.xod_recover.proofs.BadLemmas.{bad_under-step, bad_under-below}

cond_none : (b : Bool) (o : Option Place) (place : Place) → cond b o (Some place) ≡ None → (b ≡ true) × (o ≡ None)
cond_none true o place e = (refl, e)
cond_none false o place e = absurd cc

or_none : (a b : Option Place) → or_else a b ≡ None → (a ≡ None) × (b ≡ None)
or_none None b e = (refl, e)
or_none (Some place) b e = absurd cc

a_branch : (bad : Address → Address → Option Place) (at : Address) (o : Option Branch) → bad_branch bad at o ≡ None → (b : Branch) × (o ≡ Some b) × (first_bad (bad at) b.children ≡ None)
a_branch bad at None e = absurd cc
a_branch bad at (Some b) e = (b, refl, e)

none-at : (bad : Address → Option Place) (children : List Link) (index : ℕ) (child : Link) → first_bad bad children ≡ None → slice_get children index ≡ Some child → bad child.1 ≡ None
none-at bad [] index child e is = absurd cc
none-at bad (first ∷ children) zero child e is =
    let same : first ≡ child = cc is in
    subst (λ (c : Link). bad c.1 ≡ None) same (or_none (bad first.1) (first_bad bad children) e).0
none-at bad (first ∷ children) (suc index) child e is = none-at bad children index child (or_none (bad first.1) (first_bad bad children) e).1 is

none-all : (bad : Address → Option Place) (children : List Link) → ((index : ℕ) (child : Link) → slice_get children index ≡ Some child → bad child.1 ≡ None) → first_bad bad children ≡ None
none-all bad [] each = refl
none-all bad (child ∷ children) each =
    ap (λ (o : Option Place). or_else o (first_bad bad children)) (each 0 child refl)
    ∙ none-all bad children (λ index c is. each (suc index) c is)

-- each place in a list has what the list has
have-all : (P : Link → Type 0) (children : List Link) → ((index : ℕ) (child : Link) → slice_get children index ≡ Some child → P child) → AllByRecursion P children
have-all P [] each = tt
have-all P (child ∷ children) each = (each 0 child refl, have-all P children (λ index c is. each (suc index) c is))

module _ (records : RecordsAt) (has_body : ℕ → Bool) where
  -- what it says that nothing is bad
  record Clean (naming at : Address) : Type 0 where
    pub lower : number_of at < number_of naming
    pub body : has_body (file_at at) ≡ true
    pub branch : Branch
    pub is : branch_of (records (number_of at)) ≡ Some branch
    pub children : first_bad (bad_under records has_body at) branch.children ≡ None

  clean : (naming at : Address) → bad_under records has_body naming at ≡ None → Clean naming at
  clean naming at none =
      let c = cond_none (ltb (number_of at) (number_of naming) && has_body (file_at at)) (bad_below records has_body at) (place_of naming) (sym (bad_under-step records has_body naming at) ∙ none) in
      let p = and_parts (ltb (number_of at) (number_of naming)) (has_body (file_at at)) c.0 in
      let b = a_branch (bad_under records has_body) at (branch_of (records (number_of at))) c.1 in
      record { lower = ltb-true (number_of at) (number_of naming) p.0; body = p.1; branch = b.0; is = b.1; children = b.2 }

  clean-map : (bound : ℕ) (naming at : Address) → number_of at < bound → bad_under records has_body naming at ≡ None → IsSome (map_at records (number_of at))
  clean-map zero naming at lt none = absurd (omega (arith, lt))
  clean-map (suc bound) naming at lt none =
      let c = clean naming at none in
      map-up records (number_of at) c.branch c.is (have-all (HasChild records (number_of at)) c.branch.children (λ index child is.
      let below = none-at (bad_under records has_body at) c.branch.children index child c.children is in
      let lower = (clean at child.1 below).lower in
      record { lower = lower; map = clean-map bound at child.1 (omega (arith, lower, lt)) below }))

  clean-reached : (naming root at : Address) → bad_under records has_body naming root ≡ None → IsReached records (Some root) at → (from : Address) × (bad_under records has_body from at ≡ None)
  clean-reached naming root _ none (AtRoot at is) = let same : root ≡ at = cc is in (naming, subst (λ (a : Address). bad_under records has_body naming a ≡ None) same none)
  clean-reached naming root _ none (Below at child reached names) =
      let h = clean-reached naming root at none reached in
      let c = clean h.0 at h.1 in
      let same : c.branch ≡ names.branch = cc (c.is, names.is) in
      (at, none-at (bad_under records has_body at) names.branch.children names.index (names.byte, child) (subst (λ (b : Branch). first_bad (bad_under records has_body at) b.children ≡ None) same c.children) names.link)

  pub none-whole : (naming at : Address) → bad_under records has_body naming at ≡ None → IsWhole records has_body naming at
  none-whole naming at none = record {
    lower = (clean naming at none).lower;
    map = clean-map (suc (number_of at)) naming at (omega arith) none;
    bodies = λ reached is. let h = clean-reached naming at reached none is in (clean h.0 reached h.1).body;
  }

  -- what is reached from a child is reached from its parent
  reached-further : (at child x : Address) → Names (records (number_of at)) child → IsReached records (Some child) x → IsReached records (Some at) x
  reached-further at child _ names (AtRoot x is) = let same : child ≡ x = cc is in subst (λ (a : Address). IsReached records (Some at) a) same (Below at child (AtRoot at refl) names)
  reached-further at child _ names (Below y x reached next) = Below y x (reached-further at child y names reached) next

  branch-there : (at : Address) (o : Option Branch) → branch_of (records (number_of at)) ≡ o → IsSome (map_at records (number_of at)) → (b : Branch) × (branch_of (records (number_of at)) ≡ Some b)
  branch-there at None is some = absurd (no_branch-map records (number_of at) is some)
  branch-there at (Some b) is some = (b, is)

  whole-clean : (bound : ℕ) (naming at : Address) → number_of at < bound → IsWhole records has_body naming at → bad_under records has_body naming at ≡ None
  whole-clean zero naming at lt whole = absurd (omega (arith, lt))
  whole-clean (suc bound) naming at lt whole =
      let b = branch-there at (branch_of (records (number_of at))) refl whole.map in
      bad_under-below records has_body naming at whole.lower (whole.bodies at (AtRoot at refl))
      ∙ ap (bad_branch (bad_under records has_body) at) b.1
      ∙ none-all (bad_under records has_body at) b.0.children (λ index child is.
      let names : Names (records (number_of at)) child.1 = record { branch = b.0; is = b.1; index = index; byte = child.0; link = is } in
      let has = named-has records (number_of at) child.1 whole.map names in
      whole-clean bound at child.1 (omega (arith, has.0, lt)) (record { lower = has.0; map = has.1; bodies = λ x reached. whole.bodies x (reached-further at child.1 x names reached) }))

  pub whole-none : (naming at : Address) → IsWhole records has_body naming at → bad_under records has_body naming at ≡ None
  whole-none naming at whole = whole-clean (suc (number_of at)) naming at (omega arith) whole

  -- trees of which nothing is bad
  pub trees-whole : (root : Address) (trees : List Link) → first_bad (bad_under records has_body root) trees ≡ None → AllByRecursion (λ tree. IsWhole records has_body root tree.1) trees
  trees-whole root trees none = have-all (λ tree. IsWhole records has_body root tree.1) trees (λ index tree is. none-whole root tree.1 (none-at (bad_under records has_body root) trees index tree none is))
