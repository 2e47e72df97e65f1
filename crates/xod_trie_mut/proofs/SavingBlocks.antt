-- What a save puts behind the bytes of a block.
use Rattle.std.proofs.Common.{◌≡◌, ◌<◌, ◌≤◌, ℕ, ◌+◌, ◌-◌, Bool, true, cond, List, [], ◌∷◌, ◌++◌, length, drop, Option, Some, None, slice_get, refl, sym, ◌∙◌, ap, subst, arith, append_assoc, length-append, inl, inr}
use Rattle.std.specs.Prelude.{IsSome}
use Rattle.std.specs.List.{AllByRecursion}
use Rattle.std.specs.Option.{option_map}
use Rattle.std.proofs.lemmas.Bool.{cases_lt, le-ltb, lt-ltb}
use Rattle.std.proofs.lemmas.Grind.{flat_map-append}
use Rattle.std.proofs.lemmas.List.{append-nil, drop_at, drop-append-le}
use Rattle.xod_block.specs.declared.address.Address.{Address}
use Rattle.xod_block.specs.Addresses.{number_of}
use Rattle.xod_block.specs.Bodies.{with_block}
use Rattle.xod_block.specs.Maps.{RecordsAt, OnlyMore, map_at}
use Rattle.xod_block.specs.Reading.{record_in}
use Rattle.xod_block.specs.Records.{RecordValue, Leaf, Node, Root, Fits, spelling}
use Rattle.xod_block.proofs.CallerLemmas.{map_at-agree, record_at-spelling, record_in-more, record_in-past}
use Rattle.xod_trie.specs.declared.branch.Branch.{Branch}
use Rattle.xod_trie.specs.Branches.{FitsBranch, branch_of}
use Rattle.xod_trie_mut.specs.Own.{AreOwn, IsBelowBase, is_saved, own_file, own_start, record_as, with_own}
use Rattle.xod_trie_mut.specs.Saves.{IsBelow, Places, block_places, further, put_within, spelled}
use Rattle.xod_trie_mut.proofs.SavingRecords.{record-fits}
use Rattle.xod_trie_mut.proofs.SavingOwn.{branch-back, own-below, own-branch, whole-is}
use Rattle.xod_trie_mut.proofs.SavingBranches.{IsFine, IsReach, put-fine, put-map}

-- ---- blocks that grow

pub block-below : (start : ℕ) (block : List ℕ) (records : RecordsAt) (n : ℕ) → n < start → with_block start block records n ≡ records n
block-below start block records n lt = ap (λ (q : Bool). cond q (records n) (record_in (drop (n - start) block))) (lt-ltb n start lt)

pub block-at : (start : ℕ) (block : List ℕ) (records : RecordsAt) (n index : ℕ) → n ≡ start + index → with_block start block records n ≡ record_in (drop index block)
block-at start block records n index e =
    let above : start ≤ n = omega (arith, e) in
    let off : n - start ≡ index = omega (arith, e) in
    ap (λ (q : Bool). cond q (records n) (record_in (drop (n - start) block))) (le-ltb n start above)
    ∙ ap (λ (i : ℕ). record_in (drop i block)) off

pub block-more : (start : ℕ) (block more : List ℕ) (records : RecordsAt) (n : ℕ) → OnlyMore (with_block start block records) (with_block start (block ++ more) records) n
block-more start block more records n below item le e = elim (cases_lt below start) [
  | inl lt ↦ block-below start (block ++ more) records below lt ∙ sym (block-below start block records below lt) ∙ e
  | inr ge ↦
      let index = below - start in
      let here : below ≡ start + index = omega arith in
      let read : record_in (drop index block) ≡ Some item = sym (block-at start block records below index here) ∙ e in
      elim (cases_lt index (length block)) [
        | inl within ↦
            block-at start (block ++ more) records below index here
            ∙ ap record_in (drop-append-le index block more (omega (arith, within)))
            ∙ record_in-more more (drop index block) item read
        | inr past ↦ absurd (let none : None ≡ Some item = sym (record_in-past index block past) ∙ read in cc)
      ]
]

-- the record at the end of a block
pub block-end : (start : ℕ) (block : List ℕ) (records : RecordsAt) (n : ℕ) (item : RecordValue) → Fits item → n ≡ start + length block → with_block start (block ++ spelling item) records n ≡ Some item
block-end start block records n item fits e =
    block-at start (block ++ spelling item) records n (length block) e
    ∙ ap record_in (drop_at block (spelling item) (length block) refl ∙ sym (append-nil (spelling item)))
    ∙ ap (option_map (λ found. found.0)) (record_at-spelling item [] fits)

pub spelling-some : (item : RecordValue) → 1 ≤ length (spelling item)
spelling-some (Leaf key value) = omega arith
spelling-some (Node key value children) = omega arith
spelling-some (Root commit trees) = omega arith

pub spelled-last : (bs : List Branch) (b : Branch) → spelled (bs ++ b ∷ []) ≡ spelled bs ++ spelling (record_as b)
spelled-last bs b = flat_map-append (λ (c : Branch). spelling (record_as c)) bs (b ∷ []) ∙ ap (λ (l : List ℕ). spelled bs ++ l) (append-nil (spelling (record_as b)))

pub below-number : (base : Option Address) (at a : Address) → IsBelow base at → IsBelowBase base a → number_of a < number_of at
below-number None at a below le = absurd le
below-number (Some base) at a below le = omega (arith, below, le)

-- ---- saves

module _ (at : Address) (block : List ℕ) (base : Option Address) (own : List Branch) (sound : AreOwn base own) (below : IsBelow base at) where
  abbrev pub places : Places
  places = block_places (further at (length block))

  abbrev pub bytes : List Branch → List ℕ
  bytes bs = block ++ spelled bs

  abbrev pub Low : List Branch → Address → Type 0
  Low bs a = number_of a < number_of (places bs)

  place-number : (bs : List Branch) → number_of (places bs) ≡ number_of at + length (bytes bs)
  place-number bs = let both = length-append block (spelled bs) in omega (arith, both)

  bytes-last : (bs : List Branch) (b : Branch) → bytes (bs ++ b ∷ []) ≡ bytes bs ++ spelling (record_as b)
  bytes-last bs b = ap (λ (l : List ℕ). block ++ l) (spelled-last bs b) ∙ sym (append_assoc block (spelled bs) (spelling (record_as b)))

  pub low_saved : (bs : List Branch) (a : Address) → is_saved a ≡ true → IsBelowBase base a → Low bs a
  low_saved bs a e le = let lt = below-number base at a below le in let n = place-number bs in omega (arith, lt, n)

  pub low_place : (bs : List Branch) (b : Branch) → Low (bs ++ b ∷ []) (places bs)
  low_place bs b =
      let n = place-number bs in
      let m = place-number (bs ++ b ∷ []) in
      let same = ap (λ (l : List ℕ). length l) (bytes-last bs b) in
      let longer = length-append (bytes bs) (spelling (record_as b)) in
      let some = spelling-some (record_as b) in
      omega (arith, n, m, same, longer, some)

  pub low_more : (bs : List Branch) (b : Branch) (a : Address) → Low bs a → Low (bs ++ b ∷ []) a
  low_more bs b a low = let next = low_place bs b in omega (arith, low, next)

  pub block-fine : (depth : ℕ) (before : List Branch) (a : Address) → IsReach base own depth a → IsFine places base own sound Low low_saved low_place low_more before (put_within depth places own before a)
  block-fine depth before a r = put-fine places base own sound Low low_saved low_place low_more depth before a r

  module _ (records : RecordsAt) (small : number_of at ≤ own_start) where
    abbrev pub new : List Branch → RecordsAt
    new bs = with_block (number_of at) (bytes bs) records

    more : (bs : List Branch) (b : Branch) (n : ℕ) → OnlyMore (new bs) (new (bs ++ b ∷ [])) n
    more bs b n = subst (λ (l : List ℕ). OnlyMore (new bs) (with_block (number_of at) l records) n) (sym (bytes-last bs b)) (block-more (number_of at) (bytes bs) (spelling (record_as b)) records n)

    stored : (bs : List Branch) (b : Branch) → FitsBranch b → branch_of (new (bs ++ b ∷ []) (number_of (places bs))) ≡ Some b
    stored bs b fits =
        ap (λ (l : List ℕ). branch_of (with_block (number_of at) l records (number_of (places bs)))) (bytes-last bs b)
        ∙ ap branch_of (block-end (number_of at) (bytes bs) records (number_of (places bs)) (record_as b) (record-fits b.key b.value b.children fits) (place-number bs))
        ∙ branch-back b.key b.value b.children

    kept : (bs : List Branch) (a : Address) → is_saved a ≡ true → IsBelowBase base a → map_at (new bs) (number_of a) ≡ map_at (with_own own records) (number_of a)
    kept bs a e le =
        let lt = below-number base at a below le in
        map_at-agree (new bs) (with_own own records) (number_of a) (λ n up.
        block-below (number_of at) (bytes bs) records n (omega (arith, lt, up))
        ∙ sym (own-below own records n (omega (arith, lt, up, small))))

    before_is : (a : Address) (b : Branch) → a.file ≡ own_file → slice_get own a.at ≡ Some b → branch_of (with_own own records (number_of a)) ≡ Some b
    before_is a b file is = let here = sound a.at b is in own-branch own records a b file is (whole-is b here.parts here.enough)

    pub block-map : (depth : ℕ) (before : List Branch) (a : Address) → IsReach base own depth a → IsSome (map_at (with_own own records) (number_of a)) → AllByRecursion FitsBranch (put_within depth places own before a).branches → map_at (new (put_within depth places own before a).branches) (number_of (put_within depth places own before a).at) ≡ map_at (with_own own records) (number_of a)
    block-map depth before a r some fits = put-map places base own sound Low low_saved low_place low_more (with_own own records) new FitsBranch more stored kept before_is (λ bs x low. low) depth before a r some fits
