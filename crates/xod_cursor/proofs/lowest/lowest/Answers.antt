use Rattle.std.proofs.Common.{◌≡◌, ◌∙◌, Option, Err, ap, subst}
use Rattle.std.specs.Prelude.{IsTrue}
use Rattle.xod_base.specs.declared.causes.ReadError.{ReadError}
use Rattle.xod_block.specs.Addresses.{number_of}
use Rattle.xod_block.specs.Maps.{RecordsAt}
use Rattle.xod_block.specs.Records.{RecordValue}
use Rattle.xod_block.specs.Reading.{record_in}
use Rattle.xod_block.proofs.CallerLemmas.{Stays-then}
use Rattle.xod_trie.specs.Damage.{IsDamaged, IsReached, Names}
use Rattle.xod_cursor.specs.Walks.{IsLow, IsLowRead}
use Rattle.xod_cursor.proofs.Damaging.{child-reached}
use Rattle.xod_cursor.proofs.Telling.{told-first, same_error}
use Rattle.xod_cursor.proofs.lowest.lowest.Goals as goal

pub returns-in-Ends-clause-least : goal.returns-in-Ends-clause-least
returns-in-Ends-clause-least g c told known entries begins =
    let records = g.F.Fetch.records c.args.fetch.now in
    subst (IsLow records entries) c.in-Ends.is
    (c.in_ok-low_at.ensures.least records (number_of c.down.at) entries (ap record_in c.as_slice.ensures ∙ c.down.invariant.read told known) (c.down.invariant.begins told known entries begins))

pub returns-in_err-bytes-in-Goes-clause-damaged_only_where_bytes_are : goal.returns-in_err-bytes-in-Goes-clause-damaged_only_where_bytes_are
returns-in_err-bytes-in-Goes-clause-damaged_only_where_bytes_are g c told known root reached place e =
    let records = g.F.Fetch.records c.args.fetch.now in
    let at = number_of c.down.at in
    let child = c.in-Goes.child in
    let names : Names (records at) child = subst (λ (item : Option RecordValue). Names item child) (ap record_in c.as_slice.ensures ∙ c.down.invariant.read told known) (subst (IsLowRead (record_in c.as_slice.result.now)) c.in-Goes.is c.in_ok-low_at.ensures.read) in
    let error = same_error c.from_residual-in_err-bytes-in-Goes.result c.in_err-bytes-in-Goes.field-0.0 place c.from_residual-in_err-bytes-in-Goes.ensures.1 e in
    told-first (λ (r : RecordsAt). IsReached r root c.down.at → Names (r at) child → IsDamaged r root place) c.down.invariant.stays
    (λ told reached names. c.in_err-bytes-in-Goes.ensures.damaged_only_where_bytes_are told root reached names place (ap (λ (x : ReadError). Err x) error))
    told (c.down.invariant.reached told known root reached) names

pub down-preserved : goal.down-preserved
down-preserved g c =
    let records = g.F.Fetch.records c.args.fetch.now in
    let at = number_of c.down.at in
    let child = c.in-Goes.child in
    let Known = record_in c.args.bytes ≡ records (number_of c.args.at) in
    let here : IsTrue (g.F.Fetch.tells c.args.fetch.now) → Known → record_in c.as_slice.result.now ≡ records at = λ told known. ap record_in c.as_slice.ensures ∙ c.down.invariant.read told known in
    record {
      stays = Stays-then c.down.invariant.stays c.read_child.ensures.stays;
      no_fault = c.in_ok-bytes-in-Goes.ensures.counts.ok ∙ c.down.invariant.no_fault;
      read = λ told known. told-first (λ (r : RecordsAt). record_in c.in_ok-bytes-in-Goes.bytes ≡ r (number_of child)) c.down.invariant.stays c.in_ok-bytes-in-Goes.ensures.«record» told;
      reached = λ told known root reached. child-reached records root c.down.at child (c.down.invariant.reached told known root reached)
          (subst (λ (item : Option RecordValue). Names item child) (here told known) (subst (IsLowRead (record_in c.as_slice.result.now)) c.in-Goes.is c.in_ok-low_at.ensures.read));
      begins = λ told known entries begins. subst (IsLow records entries) c.in-Goes.is (c.in_ok-low_at.ensures.least records at entries (here told known) (c.down.invariant.begins told known entries begins));
    }
