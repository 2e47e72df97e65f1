-- What was fetched into an empty list is the record that stands there.
use base.Fml.{GName}
use Rattle.std.proofs.Common.{◌≡◌, ℕ, List, [], length, drop, Bool, Option, sym, ◌∙◌, ap}
use Rattle.std.specs.Prelude.{IsTrue}
use Rattle.std.specs.Option.{option_map}
use Rattle.xod_block.specs.Fetches.{Fetched, Stays}
use Rattle.xod_block.specs.Maps.{RecordsAt}
use Rattle.xod_block.specs.Records.{RecordValue}
use Rattle.xod_block.specs.Reading.{record_at, record_in}
use Rattle.xod_block.proofs.CallerLemmas.{Fetched-record_at}

pub Fetched-record_in : (tells : Bool) (stands : Option RecordValue) (old new : List ℕ) (count : ℕ) → Fetched tells stands old new count → old ≡ [] → IsTrue tells → record_in new ≡ stands
Fetched-record_in tells stands old new count f empty told =
    let first : Option (RecordValue × ℕ) → Option RecordValue = option_map (λ found. found.0) in
    ap (λ (l : List ℕ). first (record_at (drop (length l) new))) (sym empty)
    ∙ ap first (Fetched-record_at tells stands old new count f)
    ∙ sym (f.told told)

-- What was read after some calls stands there as it did before them.
pub reads-first : {F : Type 0} {tells : F → Bool} {records : F → RecordsAt} {refs : F → List GName} {faults : F → ℕ} {first now : F} (at : ℕ) (slice bytes : List ℕ) → Stays tells records refs faults first now → (IsTrue (tells now) → record_in bytes ≡ records now at) → slice ≡ bytes → IsTrue (tells first) → record_in slice ≡ records first at
reads-first at slice bytes stays read same told = ap record_in same ∙ read (stays.tells_same ∙ told) ∙ ap (λ (r : RecordsAt). r at) stays.records_same
