use Rattle.std.proofs.Common.{◌≡◌, ◌∙◌, Option, Some, Err, refl, sym, ap, subst}
use Rattle.std.specs.Prelude.{IfOk, IsTrue}
use Rattle.xod_base.specs.declared.causes.ReadError.{ReadError}
use Rattle.xod_block.specs.Addresses.{number_of}
use Rattle.xod_block.specs.Maps.{RecordsAt}
use Rattle.xod_block.specs.Records.{RecordValue}
use Rattle.xod_block.specs.Reading.{record_in, links_in}
use Rattle.xod_block.proofs.CallerLemmas.{Stays-then}
use Rattle.xod_trie.specs.Damage.{AtRoot, Names}
use Rattle.xod_trie.specs.Least.{passes}
use Rattle.xod_cursor.specs.Entries.{first_pair, kept}
use Rattle.xod_cursor.specs.Walks.{IsBack}
use Rattle.xod_cursor.specs.Wants.{HasChildren}
use Rattle.xod_cursor.proofs.Damaging.{child-reached, no_record-damaged}
use Rattle.xod_cursor.proofs.Telling.{told-first, same_error}
use Rattle.xod_cursor.proofs.Walking.{walks-first, front-whole, walks-onward, walks-into}
use Rattle.xod_cursor.proofs.walks.walk_under.Goals as goal

pub returns-in_err-bytes-clause-damaged_only_where_bytes_are : goal.returns-in_err-bytes-clause-damaged_only_where_bytes_are
returns-in_err-bytes-clause-damaged_only_where_bytes_are g c told place e =
    let error = ap (λ (x : ReadError). Err x) (same_error c.from_residual.result c.in_err-bytes.field-0.0 place c.from_residual.ensures.1 e) in
    no_record-damaged (g.F.Fetch.records c.args.fetch.now) (Some c.args.root) c.args.root place (AtRoot c.args.root refl) (c.in_err-bytes.ensures.damaged_only_without_a_record told place error) (c.in_err-bytes.ensures.damaged_names_this_place place error)

pub down-init : goal.down-init
down-init g c = record {
  stays = c.read_record.ensures.stays;
  no_fault = c.in_ok-bytes.ensures.counts.ok;
  read = c.in_ok-bytes.ensures.«record»;
  reached = λ told. AtRoot c.args.root refl;
  back_reached = λ told. tt;
  walks = λ told pairs map. walks-first (g.F.Fetch.records c.args.fetch.now) c.args.strict c.args.key.now (number_of c.args.root) pairs _ map refl;
}

pub returns-in-From-clause-least : goal.returns-in-From-clause-least
returns-in-From-clause-least g c told pairs map =
    let records = g.F.Fetch.records c.args.fetch.now in
    let at = number_of c.down.at in
    let entries = kept (passes c.args.strict c.args.key.now) pairs in
    let w = c.down.invariant.walks told pairs map in
    let o = c.in-From.ensures.wanted records at w.pairs (ap record_in c.as_slice.ensures ∙ c.down.invariant.read told) w.pairs_is in
    let back = c.start_at-start.ensures.back records _ o.others w.later (front-whole records c.args.strict c.args.key.now entries at c.down.rest.now (IsBack records c.down.back) w c.in-From.onward o.whole) o.others_is w.left in
    told-first (λ (r : RecordsAt). IsBack r c.start_at-start.result entries → IfOk c.least_behind-in-From.result (λ found. found ≡ first_pair entries)) c.down.invariant.stays
    (λ told. c.least_behind-in-From.ensures.least told entries) told
    (subst (IsBack records c.start_at-start.result) (sym (walks-onward records c.args.strict c.args.key.now entries at c.down.rest.now (IsBack records c.down.back) w c.in-From.onward o)) back)

pub down-preserved : goal.down-preserved
down-preserved g c =
    let records = g.F.Fetch.records c.args.fetch.now in
    let at = number_of c.down.at in
    let child = c.in-Into.child in
    let here : IsTrue (g.F.Fetch.tells c.args.fetch.now) → record_in c.as_slice.result.now ≡ records at = λ told. ap record_in c.as_slice.ensures ∙ c.down.invariant.read told in
    record {
      stays = Stays-then c.down.invariant.stays c.read_child.ensures.stays;
      no_fault = c.in_ok-bytes-in-Into.ensures.counts.ok ∙ c.down.invariant.no_fault;
      read = λ told. told-first (λ (r : RecordsAt). record_in c.in_ok-bytes-in-Into.bytes ≡ r (number_of child)) c.down.invariant.stays c.in_ok-bytes-in-Into.ensures.«record» told;
      reached = λ told. child-reached records (Some c.args.root) c.down.at child (c.down.invariant.reached told) (subst (λ (item : Option RecordValue). Names item child) (here told) c.in-Into.ensures.read.1);
      back_reached = λ told. c.start_at-back.ensures.reached records (Some c.args.root) (c.down.invariant.reached told) (subst (λ (item : Option RecordValue). HasChildren item (links_in c.in-Into.onward.links.now)) (here told) c.in-Into.ensures.read.0) (c.down.invariant.back_reached told);
      walks = λ told pairs map.
          let entries = kept (passes c.args.strict c.args.key.now) pairs in
          let w = c.down.invariant.walks told pairs map in
          let i = c.in-Into.ensures.wanted records at w.pairs (here told) w.pairs_is in
          let back = c.start_at-back.ensures.back records _ i.others w.later (front-whole records c.args.strict c.args.key.now entries at c.down.rest.now (IsBack records c.down.back) w c.in-Into.onward i.whole) i.others_is w.left in
          walks-into records c.args.strict c.args.key.now entries at c.down.rest.now (IsBack records c.down.back) w c.in-Into.onward _ c.in-Into.left.now (IsBack records c.start_at-back.result) i back;
    }
