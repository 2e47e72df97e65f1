use Rattle.std.proofs.Common.{◌≡◌, ◌∙◌, List, Option, Some, Err, refl, sym, ap, subst}
use Rattle.std.specs.Prelude.{IfSome, IsTrue}
use Rattle.xod_base.specs.declared.causes.ReadError.{ReadError}
use Rattle.xod_base.specs.Views.{Entry}
use Rattle.xod_block.specs.Addresses.{number_of}
use Rattle.xod_block.specs.Maps.{RecordsAt}
use Rattle.xod_block.specs.Records.{RecordValue}
use Rattle.xod_block.specs.Reading.{record_in, links_in}
use Rattle.xod_block.proofs.CallerLemmas.{Stays-then}
use Rattle.xod_trie.specs.Damage.{AtRoot, Names}
use Rattle.xod_trie.specs.Least.{passes}
use Rattle.xod_cursor.specs.declared.enter.Entered.{Entered}
use Rattle.xod_cursor.specs.Cursors.{IsEntered, StandsEntered, StandsOn, path_entries}
use Rattle.xod_cursor.specs.Entries.{kept}
use Rattle.xod_cursor.specs.Wants.{HasChildren}
use Rattle.xod_cursor.proofs.Damaging.{child-reached, no_branch-damaged, no_record-damaged}
use Rattle.xod_cursor.proofs.Starting.{walks-all}
use Rattle.xod_cursor.proofs.Telling.{told-first, same_error}
use Rattle.xod_cursor.proofs.Walking.{walks-first, front-whole, walks-onward, walks-into}
use Rattle.xod_cursor.proofs.cursor.cursor_under.Goals as goal

pub returns-in_err-bytes-clause-damaged_only_where_bytes_are : goal.returns-in_err-bytes-clause-damaged_only_where_bytes_are
returns-in_err-bytes-clause-damaged_only_where_bytes_are g c told place e =
    let error = ap (λ (x : ReadError). Err x) (same_error c.from_residual.result c.in_err-bytes.field-0.0 place c.from_residual.ensures.1 e) in
    no_record-damaged (g.F.Fetch.records c.args.fetch.now) (Some c.args.root) c.args.root place (AtRoot c.args.root refl) (c.in_err-bytes.ensures.damaged_only_without_a_record told place error) (c.in_err-bytes.ensures.damaged_names_this_place place error)

pub down-init : goal.down-init
down-init g c =
    let records = g.F.Fetch.records c.args.fetch.now in
    record {
      stays = c.read_record.ensures.stays;
      no_fault = c.in_ok-bytes.ensures.counts.ok;
      read = c.in_ok-bytes.ensures.«record»;
      reached = λ told. AtRoot c.args.root refl;
      stands = λ told. subst (StandsOn records (Some c.args.root)) (sym c.new-path.ensures.items) tt;
      walks = λ told pairs map. walks-first records c.args.strict c.args.key.now (number_of c.args.root) pairs _ map (ap (path_entries records) c.new-path.ensures.items);
    }

pub returns-in_default-clause-damaged_only_where_bytes_are : goal.returns-in_default-clause-damaged_only_where_bytes_are
returns-in_default-clause-damaged_only_where_bytes_are g c told place e =
    let records = g.F.Fetch.records c.args.fetch.now in
    let read = ap record_in c.as_slice-in-All.ensures ∙ c.down.invariant.read told in
    let none = subst (IsEntered records c.in_ok-front-in-All.front c.down.at) c.in_default.is (c.in_ok-whole-in-All.ensures.entries records read) in
    let same : c.place_of-in_default.result ≡ place = cc e in
    no_branch-damaged records (Some c.args.root) c.down.at place (c.down.invariant.reached told) none (sym same ∙ c.place_of-in_default.ensures)

pub returns-in-All-clause-coming : goal.returns-in-All-clause-coming
returns-in-All-clause-coming g c told pairs map =
    let records = g.F.Fetch.records c.args.fetch.now in
    let front = c.in_ok-front-in-All.front in
    let w = c.down.invariant.walks told pairs map in
    let all = c.in-All.ensures.wanted records (number_of c.down.at) w.pairs (ap record_in c.as_slice.ensures ∙ c.down.invariant.read told) w.pairs_is in
    let is = subst (IsEntered records front c.down.at) c.in-Some.is (c.in_ok-whole-in-All.ensures.entries records (ap record_in c.as_slice-in-All.ensures ∙ c.down.invariant.read told)) in
    c.in_ok-cursor-in-All.ensures.coming records
    ∙ walks-all records c.args.strict c.args.key.now (kept (passes c.args.strict c.args.key.now) pairs) c.down.at c.down.rest.now c.down.path.items w c.in-Some.whole front all is (c.in_ok-front-in-All.ensures ∙ c.before-in-All.ensures w.done w.whole)

pub returns-in-All-clause-stands : goal.returns-in-All-clause-stands
returns-in-All-clause-stands g c told =
    let records = g.F.Fetch.records c.args.fetch.now in
    let root = Some c.args.root in
    let read = ap record_in c.as_slice-in-All.ensures ∙ c.down.invariant.read told in
    c.in_ok-cursor-in-All.ensures.stands records root
    (subst (λ (found : Option Entered). IfSome found (StandsEntered records root)) c.in-Some.is (c.in_ok-whole-in-All.ensures.stands records root read (c.down.invariant.reached told)))
    (c.down.invariant.stands told)

pub returns-in-From-clause-coming : goal.returns-in-From-clause-coming
returns-in-From-clause-coming g c told pairs map =
    let records = g.F.Fetch.records c.args.fetch.now in
    let at = number_of c.down.at in
    let entries = kept (passes c.args.strict c.args.key.now) pairs in
    let AreLeft = λ (later : List Entry). path_entries records c.down.path.items ≡ Some later in
    let w = c.down.invariant.walks told pairs map in
    let o = c.in-From.ensures.wanted records at w.pairs (ap record_in c.as_slice.ensures ∙ c.down.invariant.read told) w.pairs_is in
    c.in_ok-put_onward-in-From.ensures.entries records _ o.others w.later (front-whole records c.args.strict c.args.key.now entries at c.down.rest.now AreLeft w c.in-From.onward o.whole) o.others_is w.left
    ∙ ap (λ (es : List Entry). Some es) (sym (walks-onward records c.args.strict c.args.key.now entries at c.down.rest.now AreLeft w c.in-From.onward o))

pub down-preserved : goal.down-preserved
down-preserved g c =
    let records = g.F.Fetch.records c.args.fetch.now in
    let at = number_of c.down.at in
    let child = c.in-Into.child in
    let onward = c.in-Into.onward in
    let here : IsTrue (g.F.Fetch.tells c.args.fetch.now) → record_in c.as_slice.result.now ≡ records at = λ told. ap record_in c.as_slice.ensures ∙ c.down.invariant.read told in
    record {
      stays = Stays-then c.down.invariant.stays c.read_child.ensures.stays;
      no_fault = c.in_ok-bytes-in-Into.ensures.counts.ok ∙ c.down.invariant.no_fault;
      read = λ told. told-first (λ (r : RecordsAt). record_in c.in_ok-bytes-in-Into.bytes ≡ r (number_of child)) c.down.invariant.stays c.in_ok-bytes-in-Into.ensures.«record» told;
      reached = λ told. child-reached records (Some c.args.root) c.down.at child (c.down.invariant.reached told) (subst (λ (item : Option RecordValue). Names item child) (here told) c.in-Into.ensures.read.1);
      stands = λ told. c.in_ok-put_onward-in-Into.ensures.stands records (Some c.args.root) (c.down.invariant.reached told) (subst (λ (item : Option RecordValue). HasChildren item (links_in onward.links.now)) (here told) c.in-Into.ensures.read.0) (c.down.invariant.stands told);
      walks = λ told pairs map.
          let entries = kept (passes c.args.strict c.args.key.now) pairs in
          let AreLeft = λ (later : List Entry). path_entries records c.down.path.items ≡ Some later in
          let AreNowLeft = λ (later : List Entry). path_entries records c.put_onward-in-Into.new.path.items ≡ Some later in
          let w = c.down.invariant.walks told pairs map in
          let i = c.in-Into.ensures.wanted records at w.pairs (here told) w.pairs_is in
          walks-into records c.args.strict c.args.key.now entries at c.down.rest.now AreLeft w onward _ c.in-Into.left.now AreNowLeft i
          (c.in_ok-put_onward-in-Into.ensures.entries records _ i.others w.later (front-whole records c.args.strict c.args.key.now entries at c.down.rest.now AreLeft w onward i.whole) i.others_is w.left);
    }
