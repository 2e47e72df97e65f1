-- Which record of a body an address names.
use Rattle.std.proofs.Common.{◌≡◌, ℕ, ◌+◌, ◌*◌, ◌^◌, ◌<◌, ◌≤◌, ◌%◌, List, [], length, drop, None, refl, ap, ◌∙◌}
use Rattle.std.proofs.lemmas.Nat.{div-mul-add, mod-mul-add}
use Rattle.std.proofs.lemmas.List.{drop_all}
use Rattle.xod_block.specs.Bodies.{Bodies, records_of}
use Rattle.xod_block.specs.Reading.{record_and_rest, record_at, record_in}

pub record_at-nothing : record_at [] ≡ None
unfolding record_at record_and_rest
record_at-nothing = refl

-- past the end of a body there is no record
pub record_at-past : (body : List ℕ) (at : ℕ) → length body ≤ at → record_at (drop at body) ≡ None
record_at-past body at past = ap record_at (drop_all at body past) ∙ record_at-nothing

-- the record at a place of a file
pub records_of-at : (bodies : Bodies) (file at : ℕ) → at < 2 ^ 64 → records_of bodies (file * 2 ^ 64 + at) ≡ record_in (drop at (bodies file))
records_of-at bodies file at small =
    ap (λ (f : ℕ). record_in (drop ((file * 2 ^ 64 + at) % 2 ^ 64) (bodies f))) (div-mul-add file (2 ^ 64) at small)
    ∙ ap (λ (k : ℕ). record_in (drop k (bodies file))) (mod-mul-add file (2 ^ 64) at small)
