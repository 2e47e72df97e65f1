-- Which log file is used last, by the list of a volume's files from its end.
use Rattle.std.proofs.Common.{◌≡◌, ◌<◌, ℕ, ◌+◌, ◌/◌, ◌%◌, Bool, true, false, ◌&&◌, cond, eqb, leb, ltb, List, [], ◌∷◌, ◌++◌, length, get_or, take, Option, Some, None, refl, sym, ap, ◌∙◌, subst, arith}
use Rattle.std.specs.Prelude.{is_some, IsSome}
use Rattle.std.specs.Option.{option_map}
use Rattle.std.specs.FinMap.{get, keys}
use Rattle.std.proofs.lemmas.Bool.{and_parts, eqb-true}
use Rattle.std.proofs.lemmas.List.{take_more, take_all}
use Rattle.std.proofs.lemmas.Option.{cond_some}
use Rattle.xod_volume.specs.Files.{Files, bytes_of}
use Rattle.xod_log.specs.Ends.{body_of, ends_of}
use Rattle.xod_log.specs.Standing.{last_file}
use Rattle.xod_recover.specs.declared.ends.Used.{Used}
use Rattle.xod_recover.specs.Opened.{open_count, is_used, log_file_of, used_at, later_or, last_used, greatest_used}
use Rattle.xod_recover.specs.Uses.{Finds}

and_false : (b : Bool) → (b && false) ≡ false
and_false true = refl
and_false false = refl

-- ---- one file

module _ (files : Files) (file : ℕ) where
  chosen : Bool → Option ℕ
  chosen used = cond used (Some file) None

  finds-none : used_at files (Some file) ≡ None → Finds files (used_at files (Some file)) None
  finds-none none = record { file_is = sym none; ends_are = tt; body_there = tt }

  pub finds-no_ends : is_some (get files (ends_of file)) ≡ false → Finds files (used_at files (Some file)) None
  unfolding is_used chosen
  finds-no_ends absent = finds-none (ap (λ (b : Bool). chosen (is_some (get files (body_of file)) && (b && ltb 0 (open_count (bytes_of files (ends_of file)))))) absent ∙ ap chosen (and_false (is_some (get files (body_of file)))))

  pub finds-no_mark : (ends : List ℕ) → ends ≡ bytes_of files (ends_of file) → ltb 0 (open_count ends) ≡ false → is_some (get files (ends_of file)) ≡ true → Finds files (used_at files (Some file)) None
  unfolding is_used chosen
  finds-no_mark ends are none there =
      let closed : ltb 0 (open_count (bytes_of files (ends_of file))) ≡ false = ap (λ (l : List ℕ). ltb 0 (open_count l)) (sym are) ∙ none in
      finds-none (ap (λ (b : Bool). chosen (is_some (get files (body_of file)) && (is_some (get files (ends_of file)) && b))) closed
      ∙ ap (λ (b : Bool). chosen (is_some (get files (body_of file)) && (b && false))) there
      ∙ ap chosen (and_false (is_some (get files (body_of file)))))

  pub finds-used : (ends : List ℕ) (used : Used) → used.file ≡ file → used.ends ≡ ends → ends ≡ bytes_of files (ends_of file) → ltb 0 (open_count ends) ≡ true → is_some (get files (ends_of file)) ≡ true → IsSome (get files (body_of file)) → Finds files (used_at files (Some file)) (Some used)
  unfolding is_used chosen
  finds-used ends used here same are some there body =
      let opened : ltb 0 (open_count (bytes_of files (ends_of file))) ≡ true = ap (λ (l : List ℕ). ltb 0 (open_count l)) (sym are) ∙ some in
      let is : used_at files (Some file) ≡ Some file = ap (λ (b : Bool). chosen (is_some (get files (body_of file)) && (is_some (get files (ends_of file)) && b))) opened
      ∙ ap (λ (b : Bool). chosen (is_some (get files (body_of file)) && (b && true))) there
      ∙ ap (λ (b : Bool). chosen (b && true)) body in
      record { file_is = ap (λ (f : ℕ). Some f) here ∙ sym is; ends_are = same ∙ are ∙ ap (λ (f : ℕ). bytes_of files (ends_of f)) (sym here); body_there = subst (λ (f : ℕ). IsSome (get files (body_of f))) (sym here) body }

-- the body of the log file that a volume file belongs to is that file
pub body_of-log_file_of : (number file : ℕ) → Some file ≡ log_file_of number → body_of file ≡ number
body_of-log_file_of number file is =
    let g = cond_some (eqb (number % 2) 0 && leb (number / 2) last_file) (number / 2) file (sym is) in
    let even : number % 2 ≡ 0 = eqb-true (number % 2) 0 (and_parts (eqb (number % 2) 0) (leb (number / 2) last_file) g.0).0 in
    omega (arith, even, g.1)

-- ---- all of them

later_or-none : (later : Option ℕ) → later_or later None ≡ later
later_or-none None = refl
later_or-none (Some later) = refl

later_or-assoc : (a b c : Option ℕ) → later_or (later_or a b) c ≡ later_or a (later_or b c)
later_or-assoc None b c = refl
later_or-assoc (Some a) b c = refl

last_used-push : (files : Files) (numbers : List ℕ) (number : ℕ) → last_used files (numbers ++ number ∷ []) ≡ later_or (used_at files (log_file_of number)) (last_used files numbers)
last_used-push files [] number = sym (later_or-none (used_at files (log_file_of number)))
last_used-push files (other ∷ numbers) number =
    ap (λ (later : Option ℕ). later_or later (used_at files (log_file_of other))) (last_used-push files numbers number)
    ∙ later_or-assoc (used_at files (log_file_of number)) (last_used files numbers) (used_at files (log_file_of other))

module _ (files : Files) (numbers : List ℕ) (are : numbers ≡ keys files) where
  pub last_used-first : last_used files (take (length numbers) (keys files)) ≡ greatest_used files
  unfolding greatest_used
  last_used-first = ap (last_used files) (take_all (length numbers) (keys files) (omega (arith, ap length are)))

  module _ (before now : ℕ) (next : before ≡ now + 1) (lt : now < length numbers) (rest : last_used files (take before (keys files)) ≡ greatest_used files) (found : Option Used) (finds : Finds files (used_at files (log_file_of (get_or numbers now 0))) found) where
    one_more : later_or (option_map (λ used. used.file) found) (last_used files (take now (keys files))) ≡ greatest_used files
    one_more =
        let lt' : now < length (keys files) = omega (arith, lt, ap length are) in
        ap (λ (o : Option ℕ). later_or o (last_used files (take now (keys files)))) (finds.file_is ∙ ap (λ (l : List ℕ). used_at files (log_file_of (get_or l now 0))) are)
        ∙ sym (last_used-push files (take now (keys files)) (get_or (keys files) now 0))
        ∙ sym (ap (last_used files) (take_more (keys files) now 0 lt'))
        ∙ sym (ap (λ (n : ℕ). last_used files (take n (keys files))) next)
        ∙ rest

found-last : (files : Files) (found : Option Used) (file earlier greatest : Option ℕ) → Finds files file found → IsSome found → later_or (option_map (λ used. used.file) found) earlier ≡ greatest → Finds files greatest found
found-last files None file earlier greatest finds some e = absurd cc
found-last files (Some used) file earlier greatest finds some e = record { file_is = e; ends_are = finds.ends_are; body_there = finds.body_there }

passed-last : (found : Option Used) (earlier greatest : Option ℕ) → is_some found ≡ false → later_or (option_map (λ used. used.file) found) earlier ≡ greatest → earlier ≡ greatest
passed-last None earlier greatest none e = e
passed-last (Some used) earlier greatest none e = absurd cc

module _ (files : Files) (numbers : List ℕ) (are : numbers ≡ keys files) (before now : ℕ) (next : before ≡ now + 1) (lt : now < length numbers) (rest : last_used files (take before (keys files)) ≡ greatest_used files) (found : Option Used) (finds : Finds files (used_at files (log_file_of (get_or numbers now 0))) found) where
  pub finds-greatest : IsSome found → Finds files (greatest_used files) found
  finds-greatest some = found-last files found _ (last_used files (take now (keys files))) (greatest_used files) finds some (one_more files numbers are before now next lt rest found finds)

  pub last_used-passed : is_some found ≡ false → last_used files (take now (keys files)) ≡ greatest_used files
  last_used-passed none = passed-last found (last_used files (take now (keys files))) (greatest_used files) none (one_more files numbers are before now next lt rest found finds)
