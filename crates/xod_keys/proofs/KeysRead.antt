-- What is read by one key, and that nothing can be read.
use Rattle.std.proofs.Common.{◌≡◌, ℕ, Bool, IsTrue, List, Option, Some, None, Result, Ok, Err, IfOk, IfSome, is_ok, sym, ap, subst, ◌∙◌, option_map, true≢false}
use Rattle.std.specs.FinMap.{get}
use Rattle.xod_base.specs.declared.causes.ReadError.{ReadError}
use Rattle.xod_base.specs.Views.{Answers, Tree}
use Rattle.xod_range.specs.Reads.{Reads}
use Rattle.xod_keys.specs.Readings.{read_there}

-- nothing can be read
pub reads-broken : {A : Type 0} {tells : Bool} {tree : Option Tree} {read : Tree → Option A} (error : ReadError)
    → (IsTrue tells → IfSome tree (λ map. read map ≡ None)) → Reads tells tree read (Err error)
reads-broken {A} {tells} {tree} {read} error is = record { value = λ told. nothing tree; damaged = λ told place e. is told }
  where
    nothing : (tree : Option Tree) → IfSome tree (λ map. IfOk {E = ReadError} (Err error) (λ found. read map ≡ Some found))
    nothing None = tt
    nothing (Some map) = tt

module _ {A : Type 0} (read : List ℕ → Option A) {tells : Bool} {tree : Option Tree} {key : List ℕ} {result : Result (Option (List ℕ)) ReadError}
    (answers : Answers tells tree (λ map. get map key) result) {wanted bytes : List ℕ} (key_is : key ≡ wanted) (is : result ≡ Ok (Some bytes)) where
  there : (found : Option A) → read bytes ≡ found → IsTrue tells → IfSome tree (λ map. read_there read (get map wanted) ≡ option_map (λ item. Some item) found)
  there found readable told = by tree (answers.value told)
    where
      by : (tree : Option Tree) → IfSome tree (λ map. IfOk result (λ o. o ≡ get map key)) → IfSome tree (λ map. read_there read (get map wanted) ≡ option_map (λ item. Some item) found)
      by None h = tt
      by (Some map) h =
          ap (λ k. read_there read (get map k)) (sym key_is)
          ∙ ap (read_there read) (sym (subst (λ (r : Result (Option (List ℕ)) ReadError). IfOk r (λ o. o ≡ get map key)) is h))
          ∙ ap (option_map (λ item. Some item)) readable

  -- what stands at a key was read
  pub reads-there : (item : A) → read bytes ≡ Some item → Reads tells tree (λ map. read_there read (get map wanted)) (Ok (Some item))
  reads-there item readable = record { value = there (Some item) readable; damaged = λ told place e. absurd (true≢false (ap is_ok e)) }

  -- it can't be read
  pub broken-there : (error : ReadError) → read bytes ≡ None → Reads tells tree (λ map. read_there read (get map wanted)) (Err error)
  broken-there error unreadable = reads-broken error (there None unreadable)
