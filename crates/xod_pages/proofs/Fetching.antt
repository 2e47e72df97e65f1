-- The record that a piece shows is the one at its address.
use Rattle.std.proofs.Common.{◌≡◌, ◌<◌, ◌≤◌, ℕ, ◌*◌, ◌^◌, Bool, List, ◌++◌, length, take, drop, sym, ap, subst, ◌∙◌}
use Rattle.std.specs.Option.{option_map}
use Rattle.std.proofs.lemmas.List.{length-take-le, take-take}
use Rattle.xod_block.specs.declared.address.Address.{Address}
use Rattle.xod_block.specs.Addresses.{number_of}
use Rattle.xod_block.specs.Bodies.{records_of}
use Rattle.xod_block.specs.Fetches.{Fetched}
use Rattle.xod_block.specs.Records.{RecordValue, spelling}
use Rattle.xod_block.proofs.CallerLemmas.{records_of-at}
use Rattle.xod_volume.specs.Files.{Files, bytes_of}
use Rattle.xod_pages.specs.declared.shown.Shown.{Shown}
use Rattle.xod_pages.specs.declared.shown.Shown.TheVariants.{Whole}
use Rattle.xod_pages.specs.Lent.{lent_bodies}
use Rattle.xod_pages.specs.Shows.{Looked}

pub fetched : (tells : Bool) (lent : Files) (at : Address) (piece old new record_is : List ℕ) (shown : Shown) (count : ℕ) → at.at < 2 ^ 64 → Looked tells (drop at.at (bytes_of lent (2 * at.file))) piece shown → shown ≡ Whole count → record_is ≡ take count piece → new ≡ old ++ record_is
    → Fetched tells (records_of (lent_bodies lent) (number_of at)) old new count
fetched tells lent at piece old new record_is shown count small looked whole front_is new_is =
    let bytes = drop at.at (bytes_of lent (2 * at.file)) in
    let l : Looked tells bytes piece (Whole count) = subst (Looked tells bytes piece) whole looked in
    let s = l.shows in
    let within : count ≤ length l.front = s.begins.within in
    let spelled : take count piece ≡ spelling s.value = sym (take-take count (length l.front) piece within) ∙ ap (take count) l.came ∙ s.begins.spelled in
    record {
      value = s.value;
      fits = s.begins.fits;
      put = new_is ∙ ap (λ (t : List ℕ). old ++ t) (front_is ∙ spelled);
      count_is = sym (length-take-le count l.front within) ∙ ap length s.begins.spelled;
      told = λ told. records_of-at (lent_bodies lent) at.file at.at small ∙ ap (option_map (λ (found : RecordValue × ℕ). found.0)) (s.stands bytes (l.told told));
    }
