-- What trees reach where more records have come, and the bodies up to the current one.
use Rattle.std.proofs.Common.{◌≡◌, ◌<◌, ◌≤◌, ℕ, ◌/◌, ◌%◌, ◌^◌, Bool, true, false, cond, [], drop, Option, Some, None, is_some, IsSome, refl, sym, ◌∙◌, ap, subst, arith, inl, inr}
use Rattle.std.specs.FinMap.{get, get-retain_keys, nat_cmp-IsAntisymmetric}
use Rattle.std.proofs.lemmas.Bool.Decides.{nat_tests}
use Rattle.xod_block.specs.declared.address.Address.{Address}
use Rattle.xod_block.specs.Addresses.{number_of}
use Rattle.xod_block.specs.Maps.{OnlyMore, RecordsAt, map_at}
use Rattle.xod_block.specs.Reading.{record_in}
use Rattle.xod_block.specs.Records.{RecordValue}
use Rattle.xod_block.proofs.CallerLemmas.{record_in-past}
use Rattle.xod_log.specs.Ends.{body_of}
use Rattle.xod_trie.specs.Branches.{branch_of}
use Rattle.xod_trie.specs.Damage.{AtRoot, Below, IsReached, Names}
use Rattle.xod_trie.specs.Tries.{trie_map}
use Rattle.xod_trie.proofs.CallerLemmas.{named-has, no_branch-map, reached-map, trie_map-more}
use Rattle.std.proofs.lemmas.Bool.{cases_lt}
use Rattle.xod_volume.proofs.CallerLemmas.{same_files}
use Rattle.xod_volume.specs.Files.{Content, Files, bytes_in}
use Rattle.xod_recover.specs.Check.{has_body}
use Rattle.xod_recover.specs.Walks.{file_at}
use Rattle.xod_env.specs.Bodies.{is_body_up_to}
use Rattle.xod_env.specs.Envs.{bodies_up_to, env_records}

-- ---- bodies

body-counts : (current file : ℕ) → file ≤ current → is_body_up_to current (body_of file) ≡ true
body-counts current file le = grind (arith, nat_tests)

body-past : (current file : ℕ) → current < file → is_body_up_to current (body_of file) ≡ false
body-past current file lt = grind (arith, nat_tests)

get-body : (current file : ℕ) (files : Files) → get (bodies_up_to current files) (body_of file) ≡ cond (is_body_up_to current (body_of file)) (get files (body_of file)) None
get-body current file files = get-retain_keys files (is_body_up_to current) (body_of file) (λ x e. ap (is_body_up_to current) (sym (nat_cmp-IsAntisymmetric (body_of file) x e)))

pub body-up-to : (current file : ℕ) (files : Files) → file ≤ current → get (bodies_up_to current files) (body_of file) ≡ get files (body_of file)
body-up-to current file files le = get-body current file files ∙ ap (λ (b : Bool). cond b (get files (body_of file)) None) (body-counts current file le)

pub body-not : (current file : ℕ) (files : Files) → current < file → get (bodies_up_to current files) (body_of file) ≡ None
body-not current file files lt = get-body current file files ∙ ap (λ (b : Bool). cond b (get files (body_of file)) None) (body-past current file lt)

-- a body that is there is the same, and one that is not has no record
pub content-more : (a b : Content) → (is_some b ≡ true → a ≡ b) → (at : ℕ) (item : RecordValue) → record_in (drop at (bytes_in b)) ≡ Some item → record_in (drop at (bytes_in a)) ≡ Some item
content-more a None same at item is =
    let none : record_in (drop at []) ≡ None = record_in-past at [] (omega arith) in
    absurd cc
content-more a (Some bytes) same at item is = ap (λ (c : Content). record_in (drop at (bytes_in c))) (same refl) ∙ is

-- ---- what is reached

item-by : (records : RecordsAt) (n : ℕ) (o : Option RecordValue) → records n ≡ o → IsSome (map_at records n) → (item : RecordValue) × (records n ≡ Some item)
item-by records n None is some = absurd (no_branch-map records n (ap branch_of is) some)
item-by records n (Some item) is some = (item, is)

-- where more records have come, no more is reached from a root that has a map
module _ (old new : RecordsAt) (root : Address) (more : OnlyMore old new (number_of root)) (some : IsSome (map_at old (number_of root))) where
  pub reached-back : (at : Address) → IsReached new (Some root) at → IsReached old (Some root) at × (number_of at ≤ number_of root) × IsSome (map_at old (number_of at))
  reached-back _ (AtRoot at is) =
      let same : root ≡ at = cc is in
      subst (λ (a : Address). IsReached old (Some root) a × (number_of a ≤ number_of root) × IsSome (map_at old (number_of a))) same (AtRoot root refl, omega arith, some)
  reached-back _ (Below at child reached names) =
      let h = reached-back at reached in
      let item = item-by old (number_of at) (old (number_of at)) refl h.2 in
      let same : new (number_of at) ≡ old (number_of at) = more (number_of at) item.0 h.1 item.1 ∙ sym item.1 in
      let there = subst (λ (o : Option RecordValue). Names o child) same names in
      let below = named-has old (number_of at) child h.2 there in
      (Below at child h.0 there, omega (arith, h.1, below.0), below.1)

-- its map is the same
pub map-kept : (old new : RecordsAt) (o : Option Address) → ((at : Address) → o ≡ Some at → OnlyMore old new (number_of at)) → IsSome (trie_map old o) → trie_map new o ≡ trie_map old o
map-kept old new None more some = refl
map-kept old new (Some at) more some = trie_map-more old new at (more at refl) some

-- ---- bodies up to the current one that are the same

body-half : (current number : ℕ) → is_body_up_to current number ≡ true → number ≡ body_of (number / 2)
body-half current number is = grind (arith, nat_tests)

body-low : (current number : ℕ) → is_body_up_to current number ≡ true → number / 2 ≤ current
body-low current number is = grind (arith, nat_tests)

where-kept : (b : Bool) (x y : Content) → (b ≡ true → x ≡ y) → cond b x None ≡ cond b y None
where-kept true x y same = same refl
where-kept false x y same = refl

pub same-up-to : (current : ℕ) (before now : Files) → ((file : ℕ) → file ≤ current → get now (body_of file) ≡ get before (body_of file)) → bodies_up_to current now ≡ bodies_up_to current before
same-up-to current before now same = same_files _ _ (λ number.
    get-retain_keys now (is_body_up_to current) number (λ x e. ap (is_body_up_to current) (sym (nat_cmp-IsAntisymmetric number x e)))
    ∙ where-kept (is_body_up_to current number) (get now number) (get before number) (λ is.
    let own = body-half current number is in
    ap (λ (n : ℕ). get now n) own ∙ same (number / 2) (body-low current number is) ∙ ap (λ (n : ℕ). get before n) (sym own))
    ∙ sym (get-retain_keys before (is_body_up_to current) number (λ x e. ap (is_body_up_to current) (sym (nat_cmp-IsAntisymmetric number x e)))))

both-ways : (o : Option RecordValue) (item : RecordValue) → o ≡ None → o ≡ Some item → ⊥
both-ways None item none is = cc is
both-ways (Some other) item none is = cc none

-- a record stands in bytes that are there
there-by : (c : Content) (at : ℕ) (item : RecordValue) → record_in (drop at (bytes_in c)) ≡ Some item → is_some c ≡ true
there-by None at item is = absurd (both-ways (record_in (drop at [])) item (record_in-past at [] (omega arith)) is)
there-by (Some bytes) at item is = refl

-- the log file that the number of what is reached stands in has a body
pub reached-body : (current : ℕ) (files : Files) (o : Option Address) (at : Address) → IsSome (trie_map (env_records current files) o) → IsReached (env_records current files) o at → has_body files (file_at at) ≡ true
reached-body current files o at some reached =
    let n = number_of at in
    let item = item-by (env_records current files) n (env_records current files n) refl (reached-map (env_records current files) o at reached some) in
    elim (cases_lt current (n / 2 ^ 64)) [
      | inl gt ↦
          let none : record_in (drop (n % 2 ^ 64) (bytes_in (get (bodies_up_to current files) (body_of (n / 2 ^ 64))))) ≡ None =
          ap (λ (c : Content). record_in (drop (n % 2 ^ 64) (bytes_in c))) (body-not current (n / 2 ^ 64) files gt) ∙ record_in-past (n % 2 ^ 64) [] (omega arith) in
          absurd (both-ways (env_records current files n) item.0 none item.1)
      | inr le ↦
          there-by (get files (body_of (n / 2 ^ 64))) (n % 2 ^ 64) item.0
          (sym (ap (λ (c : Content). record_in (drop (n % 2 ^ 64) (bytes_in c))) (body-up-to current (n / 2 ^ 64) files le)) ∙ item.1)
    ]
