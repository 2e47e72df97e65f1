use Rattle.std.proofs.Common.{◌≡◌, Bool, refl, sym, ◌∙◌, ap, List, ℕ}
use Rattle.std.specs.Prelude.{is_some}
use Rattle.std.specs.FinMap.{get, keys}
use Rattle.std.specs.List.{list_any}
use Rattle.std.specs.Prelude.{◌==◌}
use Rattle.xod_volume.specs.Files.{Files, bytes_of}
use Rattle.xod_log.specs.Ends.{ends_of}
use Rattle.xod_recover.proofs.Listing.{listed}
use Rattle.xod_recover.proofs.Using.{finds-no_ends, finds-no_mark, finds-used}
use Rattle.xod_recover.proofs.used.used_at.Goals as goal

-- what the list says of the ends
there : (files : Files) (numbers : List ℕ) (file number : ℕ) (lists : Bool) → numbers ≡ keys files → number ≡ ends_of file → lists ≡ list_any (λ other. other == number) numbers → is_some (get files (ends_of file)) ≡ lists
there files numbers file number lists are is e = ap (λ (n : ℕ). is_some (get files n)) (sym is) ∙ sym (listed files number numbers are) ∙ sym e

pub returns-then-not-lists-clause-found : goal.returns-then-not-lists-clause-found
returns-then-not-lists-clause-found g c told =
    finds-no_ends (g.V.Volume.files c.args.volume.now) c.args.file (there (g.V.Volume.files c.args.volume.now) c.args.numbers.now c.args.file c.ends_file-number.result c.lists.result (c.requires.listed told) c.ends_file-number.ensures c.lists.ensures ∙ c.if-not-lists.true)

pub read_whole-requires : goal.read_whole-requires
read_whole-requires g c = record {
  exists = λ told. ap (λ (n : ℕ). is_some (get (g.V.Volume.files c.args.volume.now) n)) c.ends_file-number.ensures ∙ there (g.V.Volume.files c.args.volume.now) c.args.numbers.now c.args.file c.ends_file-number.result c.lists.result (c.requires.listed told) c.ends_file-number.ensures c.lists.ensures ∙ c.if-not-lists.false;
}

pub returns-then-not-has_open_mark-clause-found : goal.returns-then-not-has_open_mark-clause-found
returns-then-not-has_open_mark-clause-found g c told =
    finds-no_mark (g.V.Volume.files c.args.volume.now) c.args.file c.as_slice.result.now (c.as_slice.ensures ∙ c.in_ok-ends.ensures.bytes told ∙ ap (λ (n : ℕ). bytes_of (g.V.Volume.files c.args.volume.now) n) c.ends_file-number.ensures) (sym c.has_open_mark.ensures ∙ c.if-not-has_open_mark.true) (there (g.V.Volume.files c.args.volume.now) c.args.numbers.now c.args.file c.ends_file-number.result c.lists.result (c.requires.listed told) c.ends_file-number.ensures c.lists.ensures ∙ c.if-not-lists.false)

pub returns-clause-found : goal.returns-clause-found
returns-clause-found g c told =
    finds-used (g.V.Volume.files c.args.volume.now) c.args.file c.as_slice.result.now _ refl (sym c.as_slice.ensures) (c.as_slice.ensures ∙ c.in_ok-ends.ensures.bytes told ∙ ap (λ (n : ℕ). bytes_of (g.V.Volume.files c.args.volume.now) n) c.ends_file-number.ensures) (sym c.has_open_mark.ensures ∙ c.if-not-has_open_mark.false) (there (g.V.Volume.files c.args.volume.now) c.args.numbers.now c.args.file c.ends_file-number.result c.lists.result (c.requires.listed told) c.ends_file-number.ensures c.lists.ensures ∙ c.if-not-lists.false) (c.requires.has_body told)
