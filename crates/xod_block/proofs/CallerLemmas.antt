-- What the crates above cite of records, links and maps.
use base.Fml.{GName}
use Rattle.std.proofs.Common.{◌≡◌, ℕ, Bool, List, [], length, drop, Option, Some, sym, ap, ◌∙◌, refl, arith}
use Rattle.std.proofs.lemmas.List.{append-nil, drop_at}
use Rattle.std.specs.Prelude.{IsTrue}
use Rattle.xod_block.proofs.Parts.{some_is}
use Rattle.xod_block.specs.Fetches.{Fetched, Stays}
use Rattle.xod_block.specs.Maps.{RecordsAt}
use Rattle.xod_block.specs.Records.{RecordValue, spelling}
use Rattle.xod_block.specs.Reading.{record_at}
-- the order of addresses
pub use Rattle.xod_block.proofs.AddressLemmas.{number_of-order, number_of-apart}
-- a record and its bytes
pub use Rattle.xod_block.proofs.RecordLemmas.{record_at-spelling, record_at-BeginsWith, record_at-from_BeginsWith, spelling-no_front}
-- links and their bytes
pub use Rattle.xod_block.proofs.Links.{links_in-links_bytes, links_bytes-links_in, length-links_bytes, length-first_links, slice_get-first_links}
-- the map at an address: its one step, what it is made of, its order, and what does not change it
pub use Rattle.xod_block.proofs.MapLemmas.{map_at-step, map_at-agree}
pub use Rattle.xod_block.proofs.MapOrder.{Joins, children-join, children-not_empty, rise-parts, rise-rest, map_at-rises}
pub use Rattle.xod_block.proofs.MoreRecords.{map_at-more}
-- records of bodies, and what stays where they grow
pub use Rattle.xod_block.specs.Rising.{records_of-rises}
pub use Rattle.xod_block.proofs.BodyLemmas.{records_of-at}
pub use Rattle.xod_block.proofs.Growth.{record_in-past, growth-keeps, appended-grows, appended-keeps}
pub use Rattle.xod_block.proofs.Longer.{record_in-more}
-- which front decides what record bytes begin with
pub use Rattle.xod_block.proofs.Front.{record_at-more, record_at-front}
-- the count of faults over calls in a row
pub use Rattle.xod_block.proofs.Faults.{counts-first, counts-error, counts-ok, counts-memory}

-- what a fetch put out is read as the record that it fetched
pub Fetched-record_at : (tells : Bool) (stands : Option RecordValue) (old new : List ℕ) (count : ℕ) (f : Fetched tells stands old new count) → record_at (drop (length old) new) ≡ Some (f.value, count)
Fetched-record_at tells stands old new count f =
    ap record_at (ap (drop (length old)) f.put ∙ drop_at old (spelling f.value) (length old) refl ∙ sym (append-nil (spelling f.value)))
    ∙ record_at-spelling f.value [] f.fits
    ∙ ap (λ (n : ℕ). Some (f.value, n)) (sym f.count_is)

-- What is read of a fetch into an empty list stands at that address, where the fetch tells. `read` and `n` are what decoding answers.
pub Fetched-stands : (tells : Bool) (stands : Option RecordValue) (old new : List ℕ) (count : ℕ) (read : RecordValue) (n : ℕ) → Fetched tells stands old new count → old ≡ [] → IsTrue tells → record_at new ≡ Some (read, n) → stands ≡ Some read
Fetched-stands tells stands old new count read n f empty told is =
    let pair : ℕ → RecordValue → RecordValue × ℕ = λ k v. (v, k) in
    let whole : record_at (drop (length old) new) ≡ record_at new = ap (λ (l : List ℕ). record_at (drop (length l) new)) empty in
    let same : pair count f.value ≡ pair n read = some_is (pair count f.value) (pair n read) (sym (Fetched-record_at tells stands old new count f) ∙ whole ∙ is) in
    f.told told ∙ ap (λ (x : RecordValue × ℕ). Some x.0) same

-- what stays, at first and over one call and then another
module _ {F : Type 0} {tells : F → Bool} {records : F → RecordsAt} {refs : F → List GName} {faults : F → ℕ} where
  pub Stays-first : {a : F} → Stays tells records refs faults a a
  Stays-first = record { tells_same = refl; records_same = refl; refs_same = refl; count = omega arith }

  pub Stays-then : {a b c : F} → Stays tells records refs faults a b → Stays tells records refs faults b c → Stays tells records refs faults a c
  Stays-then x y = record {
    tells_same = y.tells_same ∙ x.tells_same;
    records_same = y.records_same ∙ x.records_same;
    refs_same = y.refs_same ∙ x.refs_same;
    count = omega arith;
  }
