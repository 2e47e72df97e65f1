use Rattle.std.proofs.Common.{◌≡◌, Err, ap, subst}
use Rattle.xod_base.specs.declared.causes.ReadError.{ReadError}
use Rattle.xod_block.specs.Addresses.{number_of}
use Rattle.xod_block.specs.Maps.{RecordsAt}
use Rattle.xod_block.specs.Reading.{record_in}
use Rattle.xod_trie.specs.Damage.{IsDamaged, IsReached, Names}
use Rattle.xod_cursor.specs.Walks.{IsBackReached}
use Rattle.xod_cursor.proofs.Damaging.{child-reached}
use Rattle.xod_cursor.proofs.Telling.{told-first, same_error}
use Rattle.xod_cursor.proofs.walks.least_behind.Goals as goal

pub returns-in_err-pair-in-Some-clause-damaged_only_where_bytes_are : goal.returns-in_err-pair-in-Some-clause-damaged_only_where_bytes_are
returns-in_err-pair-in-Some-clause-damaged_only_where_bytes_are g c told root reached place e =
    let records = g.F.Fetch.records c.args.fetch.now in
    let start = c.in-Some.start in
    let from : IsReached records root start.parent × Names (records (number_of start.parent)) start.at = subst (IsBackReached records root) c.in-Some.is reached in
    let error = same_error c.from_residual-in_err-pair-in-Some.result c.in_err-pair-in-Some.field-0.0 place c.from_residual-in_err-pair-in-Some.ensures.1 e in
    told-first (λ (r : RecordsAt). record_in c.in_ok-bytes-in-Some.bytes ≡ r (number_of start.at) → IsReached r root start.at → IsDamaged r root place) c.read_child.ensures.stays
    (λ told known reached. c.in_err-pair-in-Some.ensures.damaged_only_where_bytes_are told known root reached place (ap (λ (x : ReadError). Err x) error))
    told (c.in_ok-bytes-in-Some.ensures.«record» told) (child-reached records root start.parent start.at from.0 from.1)
