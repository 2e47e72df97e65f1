-- What a lease of all bodies holds, and what is reached in it.
use Rattle.std.proofs.Common.{◌≡◌, ◌<◌, ℕ, zero, suc, ◌-◌, ◌/◌, ◌%◌, ◌^◌, Bool, true, false, ◌||◌, cond, eqb, eq-eqb, List, [], ◌∷◌, length, get_or, drop, Option, Some, None, refl, sym, ap, ◌∙◌, subst, arith}
use Rattle.std.specs.Prelude.{is_some, IsSome}
use Rattle.std.specs.List.{All, filter}
use Rattle.std.specs.FinMap.{get, keys}
use Rattle.std.proofs.lemmas.Bool.{eqb-true}
use Rattle.std.proofs.lemmas.List.Elements.{All-filter}
use Rattle.xod_block.specs.declared.address.Address.{Address}
use Rattle.xod_block.specs.Addresses.{number_of}
use Rattle.xod_block.specs.Bodies.{Bodies, records_of}
use Rattle.xod_block.specs.Maps.{RecordsAt}
use Rattle.xod_block.specs.Reading.{record_in}
use Rattle.xod_block.specs.Records.{Link, RecordValue}
use Rattle.xod_block.proofs.CallerLemmas.{record_in-past}
use Rattle.xod_volume.specs.Files.{Files, Content, bytes_in, bytes_of}
use Rattle.xod_volume.specs.Leases.{names, lent_of}
use Rattle.xod_volume.proofs.CallerLemmas.{get_lent}
use Rattle.xod_pages.specs.Lent.{lent_bodies}
use Rattle.xod_log.specs.Ends.{body_of}
use Rattle.xod_recover.specs.Check.{has_body, records_upto}
use Rattle.xod_recover.specs.Cuts.{fitting, ended_by}
use Rattle.xod_recover.specs.Frames.{StandInBodies, lists_body}
use Rattle.xod_recover.specs.Listings.{is_body}
use Rattle.xod_recover.specs.Steps.{kinds_reached}
use Rattle.xod_recover.specs.Walks.{file_at}
use Rattle.xod_recover.proofs.Cutting.{records_of-cut}
use Rattle.xod_recover.proofs.Listing.{listed, listed_at}

same_function : {A B : Type 0} (f g : A → B) → ((x : A) → f x ≡ g x) → f ≡ g
same_function f g same = λ i x. same x i

get_or_any : (xs : List ℕ) (i d e : ℕ) → i < length xs → get_or xs i d ≡ get_or xs i e
get_or_any [] i d e lt = absurd (omega (arith, lt))
get_or_any (x ∷ xs) zero d e lt = refl
get_or_any (x ∷ xs) (suc i) d e lt = get_or_any xs i d e (omega (arith, lt))

-- ---- which files are lent

even : (file : ℕ) → is_body (body_of file) ≡ true
even file = eq-eqb (body_of file % 2) 0 (omega arith)

other_is_none : (number file : ℕ) → is_body number ≡ false → eqb number (body_of file) ≡ false
other_is_none number file odd = differs (eqb number (body_of file)) refl
  where
    differs : (b : Bool) → eqb number (body_of file) ≡ b → b ≡ false
    differs false e = refl
    differs true e =
        let same : number ≡ body_of file = eqb-true number (body_of file) e in
        let is : is_body number ≡ true = ap is_body same ∙ even file in
        absurd cc

kept-names : (number file : ℕ) (numbers others : List ℕ) (body : Bool) → is_body number ≡ body → names others (body_of file) ≡ names numbers (body_of file) → names (cond body (number ∷ others) others) (body_of file) ≡ names (number ∷ numbers) (body_of file)
kept-names number file numbers others true e same = ap (λ (b : Bool). eqb number (body_of file) || b) same
kept-names number file numbers others false e same = same ∙ sym (ap (λ (b : Bool). b || names numbers (body_of file)) (other_is_none number file e))

names-filter : (numbers : List ℕ) (file : ℕ) → names (filter is_body numbers) (body_of file) ≡ names numbers (body_of file)
names-filter [] file = refl
names-filter (number ∷ numbers) file = kept-names number file numbers (filter is_body numbers) (is_body number) refl (names-filter numbers file)

bytes_in-there : (content : Content) → bytes_in (cond (is_some content) content None) ≡ bytes_in content
bytes_in-there None = refl
bytes_in-there (Some bytes) = refl

-- ---- what is in them

ended_by-some : (records : RecordsAt) (file end number : ℕ) → IsSome (ended_by records file end number) → IsSome (records number)
ended_by-some records file end number some = either (eqb (number / 2 ^ 64) file) (records number) some
  where
    fits : (room : ℕ) (item : Option RecordValue) → IsSome (fitting room item) → IsSome item
    fits room None e = absurd cc
    fits room (Some item) e = refl

    either : (own : Bool) (item : Option RecordValue) → IsSome (cond own (fitting (end - number % 2 ^ 64) item) item) → IsSome item
    either true item e = fits (end - number % 2 ^ 64) item e
    either false item e = e

body-there : (content : Content) (at : ℕ) → IsSome (record_in (drop at (bytes_in content))) → is_some content ≡ true
body-there None at some = let none = record_in-past at [] (omega arith) in absurd cc
body-there (Some bytes) at some = refl

module _ (files : Files) (numbers : List ℕ) (are : numbers ≡ keys files) where
  pub lists-has : (file : ℕ) → lists_body numbers file ≡ has_body files file
  lists-has file = listed files (body_of file) numbers are

  -- each of them is there
  pub bodies-there : (bodies : List ℕ) → bodies ≡ filter is_body numbers → All (λ file. IsSome (get files file)) bodies
  bodies-there bodies is = subst (λ (l : List ℕ). All (λ file. IsSome (get files file)) l) (sym is)
      (All-filter is_body (λ file. IsSome (get files file)) numbers (λ k d lt. subst (λ (n : ℕ). IsSome (get files n)) (get_or_any numbers k 0 d lt) (listed_at files numbers k are lt)))

  lent-body : (bodies : List ℕ) → bodies ≡ filter is_body numbers → (file : ℕ) → bytes_of (lent_of bodies files) (body_of file) ≡ bytes_of files (body_of file)
  lent-body bodies is file =
      ap bytes_in (get_lent bodies files (body_of file))
      ∙ ap (λ (b : Bool). bytes_in (cond b (get files (body_of file)) None)) (ap (λ (l : List ℕ). names l (body_of file)) is ∙ names-filter numbers file ∙ lists-has file)
      ∙ bytes_in-there (get files (body_of file))

  module _ (lent : Files) (bodies : List ℕ) (bodies_are : bodies ≡ filter is_body numbers) (lent_is : lent ≡ lent_of bodies files) (file end : ℕ) where
    lent-records : (number : ℕ) → ended_by (records_of (lent_bodies lent)) file end number ≡ records_upto files file end number
    lent-records number =
        ap (λ (b : Bodies). ended_by (records_of b) file end number) (same_function (lent_bodies lent) (λ other. bytes_of files (body_of other)) (λ other. ap (λ (f : Files). bytes_of f (body_of other)) lent_is ∙ lent-body bodies bodies_are other))
        ∙ sym (records_of-cut (λ other. bytes_of files (body_of other)) file end number)

    -- what is found in the lease is what is found in the files
    pub lent-kinds : (root : Address) (trees : List Link) → kinds_reached (ended_by (records_of (lent_bodies lent)) file end) (lists_body numbers) root trees ≡ kinds_reached (records_upto files file end) (has_body files) root trees
    lent-kinds root trees =
        ap (λ (r : RecordsAt). kinds_reached r (lists_body numbers) root trees) (same_function (ended_by (records_of (lent_bodies lent)) file end) (records_upto files file end) lent-records)
        ∙ ap (λ (h : ℕ → Bool). kinds_reached (records_upto files file end) h root trees) (same_function (lists_body numbers) (has_body files) lists-has)

    -- records stand in files that are there
    pub lent-stands : StandInBodies (ended_by (records_of (lent_bodies lent)) file end) (lists_body numbers)
    lent-stands at fits some =
        let there : IsSome (records_of (lent_bodies lent) (number_of at)) = ended_by-some (records_of (lent_bodies lent)) file end (number_of at) some in
        let body = ap (λ (f : Files). bytes_of f (body_of (file_at at))) lent_is ∙ lent-body bodies bodies_are (file_at at) in
        let bytes : IsSome (record_in (drop (number_of at % 2 ^ 64) (bytes_of files (body_of (file_at at))))) =
        subst (λ (l : List ℕ). IsSome (record_in (drop (number_of at % 2 ^ 64) l))) body there in
        lists-has (file_at at) ∙ body-there (get files (body_of (file_at at))) (number_of at % 2 ^ 64) bytes
