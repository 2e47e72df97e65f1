-- What a seal leaves of an environment: the ends of the current log file alone may differ.
use Rattle.std.proofs.Common.{◌≡◌, ℕ, ◌+◌, ◌&&◌, Bool, true, false, cond, None, refl, sym, ◌∙◌, ap, arith, inl, inr}
use mathlib.Core.Logic.{◌≢◌}
use Rattle.std.specs.Prelude.{is_some}
use Rattle.std.specs.FinMap.{contains_key, get, len, get-retain_keys, nat_cmp-IsAntisymmetric}
use Rattle.std.proofs.lemmas.Bool.{cases_eq}
use Rattle.std.proofs.lemmas.Bool.Decides.{nat_tests}
use Rattle.xod_log.specs.Ends.{ends_of}
use Rattle.xod_log.specs.Standing.{last_file}
use Rattle.xod_volume.specs.Files.{Content, Files}
use Rattle.xod_volume.proofs.CallerLemmas.{same_files}
use Rattle.xod_env.specs.Bodies.{is_body_up_to}
use Rattle.xod_env.specs.Envs.{bodies_up_to, log_bodies, log_file_count}

-- ---- files

-- the ends of a log file are no body
body_apart : (current number file : ℕ) → is_body_up_to current number ≡ true → number ≢ ends_of file
body_apart current number file is same = grind (arith, nat_tests)

where_kept : (b : Bool) (x y : Content) → (b ≡ true → x ≡ y) → cond b x None ≡ cond b y None
where_kept true x y same = same refl
where_kept false x y same = refl

first_of : (a b : Bool) → (a && b) ≡ true → a ≡ true
first_of true b is = refl
first_of false b is = is

module _ (file : ℕ) (before now : Files) (others : (other : ℕ) → other ≢ ends_of file → get now other ≡ get before other) where
  -- the bodies are as they were
  pub same_bodies : (current : ℕ) → bodies_up_to current now ≡ bodies_up_to current before
  same_bodies current = same_files _ _ (λ number.
      get-retain_keys now (is_body_up_to current) number (λ x e. ap (is_body_up_to current) (sym (nat_cmp-IsAntisymmetric number x e)))
      ∙ where_kept (is_body_up_to current number) (get now number) (get before number) (λ is. others number (body_apart current number file is))
      ∙ sym (get-retain_keys before (is_body_up_to current) number (λ x e. ap (is_body_up_to current) (sym (nat_cmp-IsAntisymmetric number x e)))))

  module _ (was_there : is_some (get before (ends_of file)) ≡ true) (is_there : is_some (get now (ends_of file)) ≡ true) where
    same_there : (other : ℕ) → is_some (get now other) ≡ is_some (get before other)
    same_there other = elim (cases_eq other (ends_of file)) [
      | inl is ↦ ap (λ (n : ℕ). is_some (get now n)) is ∙ is_there ∙ sym was_there ∙ ap (λ (n : ℕ). is_some (get before n)) (sym is)
      | inr not ↦ ap is_some (others other not)
    ]

    abbrev test : Files → ℕ → Bool
    test files number = is_body_up_to last_file number && contains_key files (number + 1)

    get_body : (files : Files) (number : ℕ) → get (log_bodies files) number ≡ cond (test files number) (get files number) None
    get_body files number = get-retain_keys files (test files) number (λ x e. ap (test files) (sym (nat_cmp-IsAntisymmetric number x e)))

    -- there are as many log files
    pub same_count : log_file_count now ≡ log_file_count before
    same_count = ap (λ (files : Files). len files) (same_files (log_bodies now) (log_bodies before) (λ number.
        get_body now number
        ∙ ap (λ (b : Bool). cond (is_body_up_to last_file number && b) (get now number) None) (same_there (number + 1))
        ∙ where_kept (test before number) (get now number) (get before number)
        (λ is. others number (body_apart last_file number file (first_of (is_body_up_to last_file number) (contains_key before (number + 1)) is)))
        ∙ sym (get_body before number)))
